-- Every history by which a run can come about keeps the law.
use Rattle.std.proofs.Common.{◌≡◌, ℕ, ◌+◌, ◌≤◌, Bool, true, false, cond, not, ltb, ◌↔◌, List, [], ◌∷◌, ◌++◌, length, get_or, filter, sym, refl, ap, ◌∙◌, subst, inl, inr, ⊎_elim, append-nil, arith, length-append}
use Rattle.std.specs.List.{ContainsAt as Has, AllByRecursion}
use Rattle.std.proofs.lemmas.List.{get_or_default}
use Rattle.std.proofs.lemmas.Bool.{cases_Bool, ltb-false, both_ways, cond-true, cond-false}
use Rattle.image.specs.Sectors.{Image}
use Rattle.filesystem.specs.Outcomes.{Outcome, a_tree, a_fault}
use Rattle.law.specs.Subject.{Subject, Recording, Sound, State, Admits, Judges, Loading, takes, image, list, meaning}
use Rattle.law.specs.History.{Report, Event, declined, starved, loaded, gave, ended, found, forwent, showed, reported, History, begun, then, Condition, Empty, Ready, Waiting, Judged, Left, Ended, condition, recording, given, standing, judged, unsafe, first, forgone, skipped, passed, if_found}
use Rattle.law.specs.Rules.{none, of_load, refusal, Late, verdict_of}
use Rattle.law.specs.Steps.{View, Step, Reached, report_on}
use Rattle.law.specs.Law.{Made, call_of, declined_by, Settled, Once, standing_image, judgement_of, report_of, unsafe_among, AllRecover, Safe, EveryHistoryIsLawful}
use Rattle.law.proofs.States.{all_list, once_kept}
use Rattle.law.proofs.Facts.{part, in_hand, Place, Fine, Facts, follows, closes, loading, judging, on_load, on_giving, on_end, on_judge, on_forgo, length_forgo, agree, once_part}

-- the states that were judged
abbrev pub judged_states : History → List State
judged_states begun = []
judged_states (then h e) = if_found e (λ o. judged_states h ++ standing h ∷ []) (judged_states h)

abbrev pub Core : Subject → History → Type 0
Core s h = Facts s (recording s h) (condition h) (standing h) (given h) (skipped h) (judged h) (unsafe h) (forgone s h) (judged_states h)

-- the run as its history tells it, with n states passed
abbrev pub told_with : Subject → History → ℕ → View
told_with s h n = record { base = s.base; recording = recording s h; condition = condition h; standing = standing h; judged = judged h; unsafe = unsafe h; forgone = forgone s h; passed = n; first = first h }

abbrev pub part_of : Subject → History → List State
part_of s h = part (recording s h) (condition h) (standing h)

abbrev pub told : Subject → History → View
told s h = told_with s h (length (part_of s h))

-- what an answer says is so
abbrev pub Good : Subject → History → Event → Type 0
Good s h (declined call n p) = Unit {0}
Good s h (starved bytes) = (condition h ≡ Empty) × Late (s.loads bytes)
Good s h (loaded bytes) = Unit {0}
Good s h (gave x) = Unit {0}
Good s h ended = Unit {0}
Good s h (found o n) = (o, n) ≡ judgement_of s h
Good s h forwent = Unit {0}
Good s h (showed sector size content) = content ≡ get_or (standing_image s h) sector []
Good s h (reported r) = (r ≡ report_of s h) × ((r.verdict ≡ 2) ↔ Safe s h)

abbrev pub Each : Subject → History → Event → Type 0
Each s h e = (Settled s e → declined_by e ≡ refusal s (condition h) (call_of e)) × Good s h e

abbrev pub Throughout : Subject → History → Type 0
Throughout s begun = Unit {0}
Throughout s (then h e) = Throughout s h × Each s h e

-- outcome 0 is a tree admitted
pub admits : (R : Recording) (p : ℕ) (o : Outcome) (j : ℕ × ℕ) → Judges R p o j → j.0 ≡ 0 → Admits R p o
admits R p (a_tree nodes) j (inl t) e = t.1
admits R p (a_tree nodes) j (inr t) e = absurd (omega (arith, t.0))
admits R p (a_fault f) j t e = absurd (omega (arith, ap (λ (i : ℕ × ℕ). i.0) t))

pub zero_of : (R : Recording) (p : ℕ) (o : Outcome) (j : ℕ × ℕ) → Judges R p o j → Admits R p o → j.0 ≡ 0
zero_of R p (a_tree nodes) j (inl t) a = ap (λ (i : ℕ × ℕ). i.0) t.0
zero_of R p (a_tree nodes) j (inr t) a = absurd (t.1.out (a j.1 t.1.node))
zero_of R p (a_fault f) j t a = absurd a

-- the verdict safe
unfinished : (u : ℕ) → cond {A = ℕ} (ltb 0 u) 3 1 ≡ 2 → ⊥
unfinished u e =
    ⊎_elim
    (λ (t : ltb 0 u ≡ true). let c : cond {A = ℕ} (ltb 0 u) 3 1 ≡ 3 = cond-true (ltb 0 u) 3 1 t in omega arith)
    (λ (t : ltb 0 u ≡ false). let c : cond {A = ℕ} (ltb 0 u) 3 1 ≡ 1 = cond-false (ltb 0 u) 3 1 t in omega arith)
    (cases_Bool (ltb 0 u))

finished : (u f : ℕ) → cond {A = ℕ} (ltb 0 u) 3 (cond (ltb 0 f) 4 2) ≡ 2 → (u ≡ 0) × (f ≡ 0)
finished u f e =
    ⊎_elim
    (λ (t : ltb 0 u ≡ true). absurd (let c : cond {A = ℕ} (ltb 0 u) 3 (cond (ltb 0 f) 4 2) ≡ 3 = cond-true (ltb 0 u) 3 (cond (ltb 0 f) 4 2) t in omega arith))
    (λ (t : ltb 0 u ≡ false).
    let c : cond {A = ℕ} (ltb 0 u) 3 (cond (ltb 0 f) 4 2) ≡ cond (ltb 0 f) 4 2 = cond-false (ltb 0 u) 3 (cond (ltb 0 f) 4 2) t in
    let l : u ≤ 0 = ltb-false 0 u t in
    ⊎_elim
    (λ (q : ltb 0 f ≡ true). absurd (let d : cond {A = ℕ} (ltb 0 f) 4 2 ≡ 4 = cond-true (ltb 0 f) 4 2 q in omega arith))
    (λ (q : ltb 0 f ≡ false). let m : f ≤ 0 = ltb-false 0 f q in let z : (u ≡ 0) × (f ≡ 0) = omega arith in z)
    (cases_Bool (ltb 0 f)))
    (cases_Bool (ltb 0 u))

verdict_safe : (c : Condition) (u f : ℕ) → verdict_of c u f ≡ 2 → (c ≡ Ended) × (u ≡ 0) × (f ≡ 0)
verdict_safe Empty u f e = cc
verdict_safe Ready u f e = absurd (unfinished u e)
verdict_safe Waiting u f e = absurd (unfinished u e)
verdict_safe Judged u f e = absurd (unfinished u e)
verdict_safe Left u f e = absurd (unfinished u e)
verdict_safe Ended u f e = let t = finished u f e in (refl, t.0, t.1)

module _ (s : Subject) (h : History) (K : Core s h) where
  sound : condition h ≡ Ended → Sound s.base s.outcome (recording s h)
  sound e = let P : Condition → Type 0 = λ c. Place s (recording s h) c (standing h) in subst P e K.place

  -- where nothing was forgone and the run has ended, every state of the list was judged
  whole_list : condition h ≡ Ended → forgone s h ≡ 0 → judged_states h ≡ list (recording s h)
  whole_list e f0 =
      let Q : Condition → Type 0 = λ c. judged_states h ++ in_hand c (standing h) ≡ part (recording s h) c (standing h) in
      sym (append-nil (judged_states h)) ∙ subst Q e (K.full f0)

  pub all_counted : condition h ≡ Ended → forgone s h ≡ 0 → unsafe h ≡ length (unsafe_among (recording s h) (list (recording s h)))
  all_counted e f0 = K.counted ∙ ap (λ (t : List State). length (unsafe_among (recording s h) t)) (whole_list e f0)

  recovers : condition h ≡ Ended → unsafe h ≡ 0 → forgone s h ≡ 0 → AllRecover s (recording s h)
  recovers e u0 f0 p l im perm =
      let R : Recording = recording s h in
      let S = sound e in
      let H : Has (R.states p) im = (S.exact p l im).1 perm in
      let whole : judged_states h ≡ list R = whole_list e f0 in
      let P : List State → Type 0 = λ t. AllByRecursion (Fine R) t in
      let fine : Fine R (p, H.0) = all_list (Fine R) R (p, H.0) l H.1 (subst P whole (K.none_bad u0)) in
      let zero : (R.judgement p im).0 ≡ 0 = ap (λ (i : Image). (R.judgement p i).0) (sym (H.2 [])) ∙ fine in
      admits R p (s.outcome im) (R.judgement p im) (S.judges p l im) zero

  no_unsafe : condition h ≡ Ended → AllRecover s (recording s h) → unsafe h ≡ 0
  no_unsafe e a =
      let R : Recording = recording s h in
      let S = sound e in
      K.all_fine (λ y p r. zero_of R y.0 (s.outcome (image R y)) (R.judgement y.0 (image R y)) (S.judges y.0 p (image R y)) (a y.0 p (image R y) ((S.exact y.0 p (image R y)).0 (y.1, r, λ d. get_or_default (R.states y.0) y.1 d [] r))))

  safe_exactly : (verdict_of (condition h) (unsafe h) (forgone s h) ≡ 2) ↔ Safe s h
  safe_exactly = (
    λ e. let t = verdict_safe (condition h) (unsafe h) (forgone s h) e in record { ended = t.0; none_forgone = t.2; recover = recovers t.0 t.1 t.2 },
    λ S.
        ap (λ (c : Condition). verdict_of c (unsafe h) (forgone s h)) S.ended
        ∙ ap (λ (u : ℕ). verdict_of Ended u (forgone s h)) (no_unsafe S.ended S.recover)
        ∙ ap (λ (f : ℕ). verdict_of Ended 0 f) S.none_forgone,
  )

  passed_is : passed s h ≡ part_of s h
  passed_is = agree s (recording s h) (condition h) (standing h) K.place

  -- a report of the run as its history tells it
  report_good : (r : Report) → r ≡ report_on (told s h) → Good s h (reported r)
  report_good r e =
      let same : r ≡ report_of s h = e ∙ ap (λ (n : ℕ). report_on (told_with s h n)) (ap (λ (t : List State). length t) (sym passed_is)) in
      let P : ℕ → Type 0 = λ v. (v ≡ 2) ↔ Safe s h in
      (same, subst P (sym (ap (λ (q : Report). q.verdict) same)) safe_exactly)

-- One more call.
pub record More (s : Subject) (h : History) (e : Event) (v : View) : Type 0 where
  pub told_by : v ≡ told s (then h e)
  pub core : Core s (then h e)
  pub each : Each s h e

-- an Empty run accepts the load of a recording that is taken
accepted : (s : Subject) (h : History) (bytes : List ℕ) → condition h ≡ Empty → (R : Recording) → s.loads bytes ≡ takes R → of_load (s.loads bytes) (condition h) ≡ none
accepted s h bytes c R t = ap (λ (d : Condition). of_load (s.loads bytes) d) c ∙ ap (λ (l : Loading). of_load l Empty) t

more : (s : Subject) (h : History) (e : Event) (v : View) → Core s h → Step s (told s h) e v → More s h e v
more s h (declined call n p) v K S = record { told_by = S.1; core = K; each = ((λ f. sym S.0), tt) }
more s h (starved bytes) v K S = record { told_by = S.2; core = K; each = ((λ f. sym (accepted s h bytes S.0 f.0 f.1)), (S.0, S.1)) }
more s h (loaded bytes) v K S =
    let t = loading (s.loads bytes) (condition h) S.0 in
    let x = standing h in
    let P : Condition → Type 0 = λ c. Facts s (recording s h) c x (given h) (skipped h) (judged h) (unsafe h) (forgone s h) (judged_states h) in
    let Q : Recording → Type 0 = λ R. Sound s.base s.outcome R in
    let sound : Sound s.base s.outcome (meaning (s.loads bytes)) = subst Q (sym (ap meaning t.1.1)) (s.sound bytes t.1.0 t.1.1) in
    record {
      told_by = S.1 ∙ ap (λ (n : ℕ). told_with s (then h (loaded bytes)) n) (ap (λ (c : Condition). length (part (recording s h) c x)) t.0);
      core = on_load s (recording s h) x (given h) (skipped h) (judged h) (unsafe h) (forgone s h) (judged_states h) (meaning (s.loads bytes)) sound (subst P t.0 K);
      each = ((λ f. sym S.0), tt);
    }
more s h (gave x) v K S =
    let F = follows s (recording s h) (standing h) (condition h) x K.place S.0 S.1 in
    record {
      told_by = S.2 ∙ ap (λ (n : ℕ). told_with s (then h (gave x)) n) (let e : length (part_of s h) + 1 ≡ length (part_of s (then h (gave x))) = omega (arith, ap (λ (t : List State). length t) F.grows, length-append (part_of s h) (x ∷ [])) in e);
      core = on_giving s (recording s h) (standing h) (given h) (skipped h) (judged h) (unsafe h) (forgone s h) (judged_states h) (condition h) x F K;
      each = ((λ f. sym S.0), tt);
    }
more s h ended v K S =
    let F = closes s (recording s h) (standing h) (condition h) K.place S.0 S.1 in
    record {
      told_by = S.2 ∙ ap (λ (t : List State). told_with s (then h ended) (length t)) F.all;
      core = on_end s (recording s h) (standing h) (given h) (skipped h) (judged h) (unsafe h) (forgone s h) (judged_states h) (condition h) F K;
      each = ((λ f. sym S.0), tt);
    }
more s h (found o n) v K S =
    let w = judging (condition h) S.0 in
    let x = standing h in
    let P : Condition → Type 0 = λ c. Facts s (recording s h) c x (given h) (skipped h) (judged h) (unsafe h) (forgone s h) (judged_states h) in
    record {
      told_by = S.2 ∙ ap (λ (c : Condition). told_with s (then h (found o n)) (length (part (recording s h) c x))) w;
      core = on_judge s (recording s h) x (given h) (skipped h) (judged h) (unsafe h) (forgone s h) (judged_states h) o (ap (λ (j : ℕ × ℕ). j.0) S.1) (subst P w K);
      each = ((λ f. sym S.0), S.1);
    }
more s h forwent v K S =
    record {
      told_by = S.1 ∙ ap (λ (n : ℕ). told_with s (then h forwent) n) (length_forgo s (recording s h) (standing h) (condition h) S.0 K.place);
      core = on_forgo s (recording s h) (standing h) (given h) (skipped h) (judged h) (unsafe h) (forgone s h) (judged_states h) (condition h) S.0 K;
      each = ((λ f. sym S.0), tt);
    }
more s h (showed sector size content) v K S = record { told_by = S.2; core = K; each = ((λ f. sym S.0), S.1) }
more s h (reported r) v K S = record { told_by = S.1; core = K; each = ((λ f. refl), report_good s h K r S.0) }

pub record Held (s : Subject) (h : History) (v : View) : Type 0 where
  pub told_by : v ≡ told s h
  pub core : Core s h
  pub throughout : Throughout s h

core_begun : (s : Subject) → Core s begun
core_begun s = record { place = tt; given = refl; behind = λ y e. absurd (both_ways false refl e); sum = refl; full = λ e. refl; few = omega arith; none_bad = λ e. tt; all_fine = λ a. refl; counted = refl }

pub held : (s : Subject) (h : History) (v : View) → Reached s h v → Held s h v
held s begun v R = record { told_by = R; core = core_begun s; throughout = tt }
held s (then h e) v R =
    let H = held s h R.0 R.1 in
    let P : View → Type 0 = λ m. Step s m e v in
    let M = more s h e v H.core (subst P H.told_by R.2) in
    record { told_by = M.told_by; core = M.core; throughout = (H.throughout, M.each) }

-- what is so throughout is so of each call made
made : (s : Subject) (h k : History) (e : Event) → Throughout s h → Made h k e → Each s k e
made s begun k e T m = absurd m
made s (then h f) k e T (inl m) =
    let P : History → Type 0 = λ x. Each s x f in
    let Q : Event → Type 0 = λ x. Each s k x in
    subst Q (sym m.1) (subst P (sym m.0) T.1)
made s (then h f) k e T (inr m) = made s h k e T.0 m

-- THE THEOREM.
pub lawful : EveryHistoryIsLawful
lawful s h v R =
    let H = held s h v R in
    let K = H.core in
    let n : State → Bool = λ y. not (skipped h y) in
    let O : List State → Type 0 = λ t. Once t in
    let same = passed_is s h K in
    record {
      base_kept = ap (λ (w : View). w.base) H.told_by;
      declined_exactly = λ k e m. (made s h k e H.throughout m).0;
      starved_empty = λ k bytes m. (made s h k (starved bytes) H.throughout m).1.0;
      starved_late = λ k bytes m. (made s h k (starved bytes) H.throughout m).1.1;
      given_in_order = K.given ∙ ap (λ (t : List State). filter n t) (sym same);
      given_once = subst O (sym K.given) (once_kept n (part_of s h) (once_part (recording s h) (condition h) (standing h)));
      looks_show = λ k sector size content m. (made s h k (showed sector size content) H.throughout m).1;
      judges_answer = λ k o q m. (made s h k (found o q) H.throughout m).1;
      adds_up = K.sum ∙ ap (λ (t : List State). length t) (sym same);
      reports_figures = λ k r m. (made s h k (reported r) H.throughout m).1.0;
      safe_exactly = λ k r m. (made s h k (reported r) H.throughout m).1.1;
    }
