-- The judgement of a tree says what it stands for.
use Rattle.std.specs.Prelude.{◌≡◌, ℕ, zero, suc, true, cond, ◌&&◌, List, [], ◌∷◌, ◌==◌, slice_index_or, refl}
use Rattle.std.proofs.Common.{sym, ap, subst, ◌∙◌, inl, inr, arith}
use Rattle.std.specs.List.{ContainsAt as Has}
use Rattle.std.proofs.lemmas.Bool.{cases_lt, and_parts, and_from, or_cases, or_left, or_right, eqb-true, eq-eqb, lt-ltb, le-ltb, both_ways, false≢true}
use Rattle.tree.specs.declared.node.Node.{Node}
use Rattle.tree.specs.declared.node.Node.TheVariants.{Absent, Directory, File}
use Rattle.filesystem.specs.Outcomes.{Outcome, a_tree, a_fault}
use Rattle.filesystem.specs.Least.{first_failing, first_failing_lem}
use Rattle.crash.specs.Lists.{◌∈◌}
use Rattle.law.specs.Subject.{Recording, NodeAdmitted, Lowest, Judges}
use Rattle.meaning.specs.Judgements.{same_node, is_among, is_fine, judged_at, judgement}

-- a list has what stands in it
pub has_in : {X : Type 0} (xs : List X) (x : X) → x ∈ xs → Has xs x
has_in (y ∷ ys) x (inl e) = (0, omega arith, λ d. e)
has_in (y ∷ ys) x (inr h) = let r = has_in ys x h in let l = r.1 in (suc r.0, omega arith, r.2)
has_in [] x h = absurd h

pub in_has : {X : Type 0} (xs : List X) (x : X) → Has xs x → x ∈ xs
in_has [] x (k, l, e) = absurd (omega arith)
in_has (y ∷ ys) x (zero, l, e) = inl (e y)
in_has (y ∷ ys) x (suc k, l, e) = inr (in_has ys x (k, omega arith, e))

-- nodes are the same exactly if they are equal
same_is : (x y : Node) → same_node x y ≡ true → x ≡ y
same_is Absent Absent e = refl
same_is Absent (Directory q) e = absurd (false≢true e)
same_is Absent (File q m g) e = absurd (false≢true e)
same_is (Directory p) Absent e = absurd (false≢true e)
same_is (Directory p) (Directory q) e = ap Directory (eqb-true p q e)
same_is (Directory p) (File q m g) e = absurd (false≢true e)
same_is (File p l h) Absent e = absurd (false≢true e)
same_is (File p l h) (Directory q) e = absurd (false≢true e)
same_is (File p l h) (File q m g) e =
    let a = and_parts (p == q) (l == m && h == g) e in
    let b = and_parts (l == m) (h == g) a.1 in
    ap (λ x. File x l h) (eqb-true p q a.0) ∙ ap (λ x. File q x h) (eqb-true l m b.0) ∙ ap (File q m) (eqb-true h g b.1)

same_self : (x : Node) → same_node x x ≡ true
same_self Absent = refl
same_self (Directory p) = eq-eqb p p refl
same_self (File p l h) = and_from (p == p) (l == l && h == h) (eq-eqb p p refl) (and_from (l == l) (h == h) (eq-eqb l l refl) (eq-eqb h h refl))

among_in : (x : Node) (ys : List Node) → is_among x ys ≡ true → x ∈ ys
among_in x [] e = absurd (false≢true e)
among_in x (y ∷ ys) e = elim (or_cases (same_node y x) (is_among x ys) e) [ inl s ↦ inl (same_is y x s) | inr s ↦ inr (among_in x ys s) ]

in_among : (x : Node) (ys : List Node) → x ∈ ys → is_among x ys ≡ true
in_among x [] h = absurd h
in_among x (y ∷ ys) (inl e) = or_left (same_node y x) (is_among x ys) (ap (λ z. same_node z x) e ∙ same_self x)
in_among x (y ∷ ys) (inr h) = or_right (same_node y x) (is_among x ys) (in_among x ys h)

-- what a judgement of an outcome says
module _ (R : Recording) (p : ℕ) where
  fine_admitted : (nodes : List Node) (n : ℕ) → is_fine (R.values p) nodes n ≡ true → NodeAdmitted R p nodes n
  fine_admitted nodes n e = has_in (R.values p n) (slice_index_or nodes n Absent) (among_in (slice_index_or nodes n Absent) (R.values p n) e)

  admitted_fine : (nodes : List Node) (n : ℕ) → NodeAdmitted R p nodes n → is_fine (R.values p) nodes n ≡ true
  admitted_fine nodes n h = in_among (slice_index_or nodes n Absent) (R.values p n) (in_has (R.values p n) (slice_index_or nodes n Absent) h)

  pub judges : (o : Outcome) → Judges R p o (judgement (R.values p) o)
  judges (a_fault f) = refl
  judges (a_tree nodes) =
      let bad = first_failing (is_fine (R.values p) nodes) 16 in
      let first = first_failing_lem (is_fine (R.values p) nodes) 16 in
      elim (cases_lt bad 16) [
        | inl l ↦
            let e : judged_at bad ≡ (1, bad) = ap (λ b. cond b (1, bad) (0, 0)) (lt-ltb bad 16 l) in
            let low : Lowest R p nodes bad = record {
              node = l;
              out = λ h. both_ways (is_fine (R.values p) nodes bad) (first.fails l) (admitted_fine nodes bad h);
              below = λ m k. fine_admitted nodes m (first.before m k);
            } in
            let P : ℕ → Type 0 = λ n. Lowest R p nodes n in
            inr (ap (λ j. j.0) e, subst P (sym (ap (λ j. j.1) e)) low)
        | inr g ↦
            let w = first.within in
            let e : judged_at bad ≡ (0, 0) = ap (λ b. cond b (1, bad) (0, 0)) (le-ltb bad 16 g) in
            inl (e, λ n l. fine_admitted nodes n (first.before n (omega arith)))
      ]
