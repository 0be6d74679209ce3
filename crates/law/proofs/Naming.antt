-- The state that a history names is the first unsafe one of the list, where nothing was forgone.
use Rattle.std.proofs.Common.{◌≡◌, ℕ, zero, suc, ◌+◌, ◌<◌, ◌≤◌, Bool, true, false, cond, not, ◌&&◌, eqb, ◌⊎◌, List, [], ◌∷◌, ◌++◌, length, sym, refl, ap, ◌∙◌, subst, inl, inr, ⊎_elim, arith}
use Rattle.std.specs.List.{AllByRecursion}
use Rattle.std.proofs.lemmas.Bool.{cases_Bool, cases_order, eqb-true, eq-eqb, cond-true, cond-false, and_from, and_left, and_right}
use Rattle.std.proofs.lemmas.List.{append_cancel_right}
use Rattle.law.specs.Subject.{Subject, Recording, Sound, State, Admits, count, image, ranks, front}
use Rattle.law.specs.History.{Event, declined, starved, loaded, gave, ended, found, forwent, showed, reported, History, begun, then, Condition, Waiting, Empty, condition, recording, given, standing, judged, unsafe, first, bad, forgone, skipped}
use Rattle.law.specs.Steps.{View, Step, Reached}
use Rattle.law.specs.Law.{Recovers, Earlier, FirstUnsafe, FirstIsFirst}
use Rattle.law.proofs.States.{through, before, through_is}
use Rattle.law.proofs.Facts.{Fine, Facts, loading, judging}
use Rattle.law.proofs.Lawful.{judged_states, told, Core, held, admits, zero_of}

-- LISTS. What holds of all states holds of those of a part.
split : (P : State → Type 0) (xs ys : List State) → AllByRecursion P (xs ++ ys) → AllByRecursion P xs × AllByRecursion P ys
split P [] ys a = (tt, a)
split P (x ∷ xs) ys a = let t = split P xs ys a.1 in ((a.0, t.0), t.1)

in_ranks : (P : State → Type 0) (p r k : ℕ) → r < k → AllByRecursion P (ranks p k) → P (p, r)
in_ranks P p r zero h a = absurd (omega arith)
in_ranks P p r (suc k) h a = go (λ l. in_ranks P p r k l (split P (ranks p k) ((p, k) ∷ []) a).0) (cases_order r k)
  where
    go : (r < k → P (p, r)) → (r ≡ k) ⊎ ((r < k) ⊎ (k < r)) → P (p, r)
    go ih (inl e) = let Q : ℕ → Type 0 = λ n. P (p, n) in subst Q (sym e) (split P (ranks p k) ((p, k) ∷ []) a).1.0
    go ih (inr (inl l)) = ih l
    go ih (inr (inr l)) = absurd (omega arith)

in_front : (P : State → Type 0) (R : Recording) (p : ℕ) (y : State) → y.0 < p → y.1 < count R y.0 → AllByRecursion P (front R p) → P y
in_front P R zero y h k a = absurd (omega arith)
in_front P R (suc p) y h k a = go (λ l. in_front P R p y l k (split P (front R p) (ranks p (count R p)) a).0) (cases_order y.0 p)
  where
    go : (y.0 < p → P y) → (y.0 ≡ p) ⊎ ((y.0 < p) ⊎ (p < y.0)) → P y
    go ih (inl e) =
        let Q : ℕ → Type 0 = λ n. y.1 < count R n in
        let S : ℕ → Type 0 = λ n. P (n, y.1) in
        subst S (sym e) (in_ranks P p y.1 (count R p) (subst Q e k) (split P (front R p) (ranks p (count R p)) a).1)
    go ih (inr (inl l)) = ih l
    go ih (inr (inr l)) = absurd (omega arith)

in_before : (P : State → Type 0) (R : Recording) (x y : State) → Earlier y x → y.1 < count R y.0 → AllByRecursion P (before R x) → P y
in_before P R x y (inl l) k a = in_front P R x.0 y l k (split P (front R x.0) (ranks x.0 x.1) a).0
in_before P R x y (inr e) k a =
    let S : ℕ → Type 0 = λ n. P (n, y.1) in
    subst S (sym e.0) (in_ranks P x.0 y.1 x.1 e.1 (split P (front R x.0) (ranks x.0 x.1) a).1)

-- x is in the list and not fine, and all states before it are
pub record Named (s : Subject) (R : Recording) (x : State) : Type 0 where
  pub sound : Sound s.base s.outcome R
  pub point : x.0 ≤ R.last
  pub rank : x.1 < count R x.0
  pub out : Fine R x → ⊥
  pub all : AllByRecursion (Fine R) (before R x)

module _ (s : Subject) (h : History) (K : Core s h) where
  -- nothing is judged where a load is accepted
  none_judged : condition h ≡ Empty → unsafe h ≡ 0
  none_judged e =
      let P : Condition → Type 0 = λ c. Facts s (recording s h) c (standing h) (given h) (skipped h) (judged h) (unsafe h) (forgone s h) (judged_states h) in
      let E = subst P e K in
      omega (arith, E.sum, E.few)

  -- the first judge that finds a state unsafe
  judged_first : condition h ≡ Waiting → forgone s h ≡ 0 → unsafe h ≡ 0 → (Fine (recording s h) (standing h) → ⊥) → Named s (recording s h) (standing h)
  judged_first w f u out =
      let R = recording s h in
      let x = standing h in
      let P : Condition → Type 0 = λ c. Facts s R c x (given h) (skipped h) (judged h) (unsafe h) (forgone s h) (judged_states h) in
      let W = subst P w K in
      let Q : List State → Type 0 = λ xs. AllByRecursion (Fine R) xs in
      let same : judged_states h ≡ before R x = append_cancel_right (judged_states h) (before R x) (x ∷ []) (W.full f ∙ through_is R x) in
      record { sound = W.place.sound; point = W.place.point; rank = W.place.rank; out = out; all = subst Q same (W.none_bad u) }

  judging_names : (o n : ℕ) → condition h ≡ Waiting → o ≡ ((recording s h).judgement (standing h).0 (image (recording s h) (standing h))).0 → forgone s h ≡ 0 → 0 < unsafe h + bad o → (0 < unsafe h → Named s (recording s h) (first h)) → Named s (recording s h) (first (then h (found o n)))
  judging_names o n w j f u ih =
      let R = recording s h in
      let P : State → Type 0 = λ x. Named s R x in
      ⊎_elim
      (λ (t : eqb (unsafe h) 0 ≡ true).
      let z : unsafe h ≡ 0 = eqb-true (unsafe h) 0 t in
      ⊎_elim
      (λ (q : eqb o 0 ≡ true). absurd (let b : bad o ≡ 0 = cond-true (eqb o 0) 0 1 q in omega arith))
      (λ (q : eqb o 0 ≡ false).
      let e : first (then h (found o n)) ≡ standing h = cond-true (eqb (unsafe h) 0 && not (eqb o 0)) (standing h) (first h) (and_from (eqb (unsafe h) 0) (not (eqb o 0)) t (ap not q)) in
      subst P (sym e) (judged_first w f z (λ d. absurd (let r : eqb o 0 ≡ true = eq-eqb o 0 (j ∙ d) in let c : true ≡ false = sym r ∙ q in cc))))
      (cases_Bool (eqb o 0)))
      (λ (t : eqb (unsafe h) 0 ≡ false).
      let e : first (then h (found o n)) ≡ first h = cond-false (eqb (unsafe h) 0 && not (eqb o 0)) (standing h) (first h) (and_left (eqb (unsafe h) 0) (not (eqb o 0)) t) in
      let more : 0 < unsafe h = above (unsafe h) t in
      subst P (sym e) (ih more))
      (cases_Bool (eqb (unsafe h) 0))
    where
      above : (n : ℕ) → eqb n 0 ≡ false → 0 < n
      above zero e = absurd (let c : true ≡ false = e in cc)
      above (suc n) e = omega arith

-- a history with nothing judged unsafe names no state
one_more_fine : (h : History) (o n : ℕ) → unsafe h + bad o ≡ 0 → (unsafe h ≡ 0 → first h ≡ (0, 0)) → first (then h (found o n)) ≡ (0, 0)
one_more_fine h o n e ih =
    ⊎_elim
    (λ (q : eqb o 0 ≡ true). cond-false (eqb (unsafe h) 0 && not (eqb o 0)) (standing h) (first h) (and_right (eqb (unsafe h) 0) (not (eqb o 0)) (ap not q)) ∙ ih (omega arith))
    (λ (q : eqb o 0 ≡ false). absurd (let b : bad o ≡ 1 = cond-false (eqb o 0) 0 1 q in omega arith))
    (cases_Bool (eqb o 0))

pub names_none : (h : History) → unsafe h ≡ 0 → first h ≡ (0, 0)
names_none begun e = refl
names_none (then h (declined call n p)) e = names_none h e
names_none (then h (starved bytes)) e = names_none h e
names_none (then h (loaded bytes)) e = names_none h e
names_none (then h (gave x)) e = names_none h e
names_none (then h ended) e = names_none h e
names_none (then h (found o n)) e = one_more_fine h o n e (names_none h)
names_none (then h forwent) e = names_none h e
names_none (then h (showed sector size content)) e = names_none h e
names_none (then h (reported r)) e = names_none h e

-- A HISTORY names such a state.
names : (s : Subject) (h : History) (v : View) → Reached s h v → forgone s h ≡ 0 → 0 < unsafe h → Named s (recording s h) (first h)
names s begun v R f u = absurd (omega arith)
names s (then h (declined call n p)) v R f u = names s h R.0 R.1 f u
names s (then h (starved bytes)) v R f u = names s h R.0 R.1 f u
names s (then h (loaded bytes)) v R f u =
    let H = held s h R.0 R.1 in
    let P : View → Type 0 = λ m. Step s m (loaded bytes) v in
    let S = subst P H.told_by R.2 in
    absurd (let z : unsafe h ≡ 0 = none_judged s h H.core (loading (s.loads bytes) (condition h) S.0).0 in omega arith)
names s (then h (gave x)) v R f u = names s h R.0 R.1 f u
names s (then h ended) v R f u = names s h R.0 R.1 f u
names s (then h (found o n)) v R f u =
    let H = held s h R.0 R.1 in
    let P : View → Type 0 = λ m. Step s m (found o n) v in
    let S = subst P H.told_by R.2 in
    judging_names s h H.core o n (judging (condition h) S.0) (ap (λ (j : ℕ × ℕ). j.0) S.1) f u (λ k. names s h R.0 R.1 f k)
names s (then h forwent) v R f u = names s h R.0 R.1 (omega arith) u
names s (then h (showed sector size content)) v R f u = names s h R.0 R.1 f u
names s (then h (reported r)) v R f u = names s h R.0 R.1 f u

pub first_is_first : FirstIsFirst
first_is_first s h v R f u =
    let N = names s h v R f u in
    let D = recording s h in
    let x = first h in
    record {
      point = N.point;
      rank = N.rank;
      unsafe = λ a. N.out (zero_of D x.0 (s.outcome (image D x)) (D.judgement x.0 (image D x)) (N.sound.judges x.0 N.point (image D x)) a);
      first = λ y l k.
          let low : y.0 ≤ D.last = lower x y l N.point in
          admits D y.0 (s.outcome (image D y)) (D.judgement y.0 (image D y)) (N.sound.judges y.0 low (image D y)) (in_before (Fine D) D x y l k N.all);
    }
  where
    lower : (x y : State) → Earlier y x → {m : ℕ} → x.0 ≤ m → y.0 ≤ m
    lower x y (inl l) h = omega arith
    lower x y (inr e) h = omega (arith, e.0)
