-- A run that has ended with nothing forgone was searched whole.
use Rattle.std.proofs.Common.{◌≡◌, ℕ, zero, suc, ◌+◌, ◌<◌, true, false, cond, ltb, ◌↔◌, List, length, sym, refl, ap, ◌∙◌, subst, inl, ⊎_elim, arith}
use Rattle.std.proofs.lemmas.Bool.{cases_Bool, ltb-true, lt-ltb}
use Rattle.law.specs.Subject.{Subject, Recording, takes, list}
use Rattle.law.specs.History.{Report, reported, History, then, Condition, Ended, condition, recording, standing, judged, unsafe, first, forgone, passed, passed_of, waiting}
use Rattle.law.specs.Rules.{verdict_of}
use Rattle.law.specs.Steps.{View, Reached, report_on}
use Rattle.law.specs.Law.{AllRecover, Safe, FirstUnsafe, report_of, unsafe_among}
use Rattle.law.proofs.Lawful.{held, lawful, all_counted}
use Rattle.law.proofs.Naming.{first_is_first, names_none}
use Rattle.exhaust.specs.Exhausted.{Exhausted}

-- the verdict on a run that has ended with nothing forgone
verdict_unsafe : (u : ℕ) → 0 < u → verdict_of Ended u 0 ≡ 3
verdict_unsafe u h = ap (λ b. cond {A = ℕ} b 3 2) (lt-ltb 0 u h)

-- and if it is safe
none_unsafe : (u : ℕ) → verdict_of Ended u 0 ≡ 2 → u ≡ 0
none_unsafe zero e = refl
none_unsafe (suc u) e = absurd (let v = verdict_unsafe (suc u) (omega arith) in omega arith)

pub ending : (s : Subject) (h : History) (v : View) → Reached s h v → v.condition ≡ Ended → v.forgone ≡ 0 → (bytes : List ℕ) (R : Recording) → s.loads bytes ≡ takes R → v.recording ≡ R → (r : Report) → r ≡ report_on v → Exhausted s bytes r
ending s h v reached e f bytes R taken rec r figures =
    let H = held s h v reached in
    let L = lawful s (then h (reported r)) v (v, reached, (figures, refl)) in
    let c : condition h ≡ Ended = sym (ap (λ (x : View). x.condition) H.told_by) ∙ e in
    let z : forgone s h ≡ 0 = sym (ap (λ (x : View). x.forgone) H.told_by) ∙ f in
    let D : recording s h ≡ R = sym (ap (λ (x : View). x.recording) H.told_by) ∙ rec in
    let same : r ≡ report_of s h = L.reports_figures h r (inl (refl, refl)) in
    let exact : (r.verdict ≡ 2) ↔ Safe s h = L.safe_exactly h r (inl (refl, refl)) in
    let P : Recording → Type 0 = λ x. AllRecover s x in
    let Q : Recording → Type 0 = λ x. FirstUnsafe s x r.first in
    let all : passed s h ≡ list R = ap (λ (x : Condition). passed_of (recording s h) x (standing h)) c ∙ ap list D in
    let none : waiting (condition h) ≡ 0 = ap waiting c in
    let sum : judged h + forgone s h + waiting (condition h) ≡ length (passed s h) = L.adds_up in
    let count : length (passed s h) ≡ length (list R) = ap length all in
    let j : r.judged ≡ judged h = ap (λ (x : Report). x.judged) same in
    let p : r.passed ≡ length (passed s h) = ap (λ (x : Report). x.passed) same in
    let g : r.forgone ≡ forgone s h = ap (λ (x : Report). x.forgone) same in
    let verdict : r.verdict ≡ verdict_of Ended (unsafe h) 0 = ap (λ (x : Report). x.verdict) same ∙ ap (λ (x : Condition). verdict_of x (unsafe h) (forgone s h)) c ∙ ap (verdict_of Ended (unsafe h)) z in
    let bad : r.unsafe ≡ unsafe h = ap (λ (x : Report). x.unsafe) same in
    let named : r.first ≡ first h = ap (λ (x : Report). x.first) same in
    record {
      recording = R;
      taken = taken;
      judged = omega arith;
      passed = p ∙ count;
      none_forgone = g ∙ z;
      unsafe = bad ∙ all_counted s h H.core c z ∙ ap (λ (x : Recording). length (unsafe_among x (list x))) D;
      safe = (λ two. subst P D (exact.0 two).recover, λ a. exact.1 (record { ended = c; none_forgone = z; recover = subst P (sym D) a }));
      names_none = λ two. named ∙ names_none h (none_unsafe (unsafe h) (sym verdict ∙ two));
      names = λ not_two.
          ⊎_elim
          (λ (t : ltb 0 (unsafe h) ≡ true).
          let some = ltb-true 0 (unsafe h) t in
          let F : FirstUnsafe s (recording s h) (first h) = first_is_first s h v reached z some in
          let N : FirstUnsafe s (recording s h) r.first = let W : (ℕ × ℕ) → Type 0 = λ x. FirstUnsafe s (recording s h) x in subst W (sym named) F in
          (verdict ∙ verdict_unsafe (unsafe h) some, subst Q D N))
          (λ (t : ltb 0 (unsafe h) ≡ false). absurd (not_two (verdict ∙ ap (λ b. cond {A = ℕ} b 3 2) t)))
          (cases_Bool (ltb 0 (unsafe h)));
    }
