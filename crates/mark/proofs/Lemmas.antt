-- Decimal numbers and the run of digits at the front of a text.
use Rattle.std.proofs.Common.{◌≡◌, ℕ, ◌+◌, ◌^◌, ◌<◌, ◌≤◌, List, ◌++◌, length, get_or, take, drop, decimal, sym, ap, ◌∙◌, subst, ⊎_elim, add-zero, arith}
use Rattle.std.specs.Int.{IsInRange}
use Rattle.std.specs.Str.Parse.{digits_value}
use Rattle.std.proofs.str.Laws.{order}
use Rattle.std.proofs.lemmas.List.{length-append, length-take-le, take-append-drop, get_or-take, get_or-drop, get_or_append_left, get_or-append-add, length-drop, take_at, drop_at}
use Rattle.std.proofs.lemmas.Str.Parse.{IsNumeralModel, numerals_by_value, tells_by_index, digits_value_short}
use Rattle.std.proofs.lemmas.Fmt.{digits_decimal, digits_value-decimal, decimal-digits_value, decimal_nonempty, length-decimal-le, first_decimal, decimal_digit}
use Rattle.mark.specs.Numbers.{Run, NoDigit, Front}

abbrev AllDigits : List ℕ → Type 0
AllDigits ds = (k : ℕ) → k < length ds → IsInRange 48 57 (get_or ds k 0)

own : IsNumeralModel AllDigits (digits_value 10)
own = numerals_by_value _ tells_by_index

module _ (t : List ℕ) (n : ℕ) (run : Run t n) where
  long : length (take n t) ≡ n
  long = length-take-le n t run.within

  digits : AllDigits (take n t)
  digits k h = let low : k < n = omega (arith, long) in rw (get_or-take n t k 0 low) (run.all k low)

  pub no_more : NoDigit (drop n t)
  no_more some d =
      let at : get_or (drop n t) 0 0 ≡ get_or t n 0 = get_or-drop n t 0 0 ∙ ap (λ k. get_or t k 0) (add-zero n) in
      run.stops (omega (arith, length-drop n t)) (subst (IsInRange 48 57) at d)

  pub sound : 0 < n → n ≤ 3 → (get_or t 0 0 ≡ 48 → n ≡ 1) → Front (digits_value 10 (take n t)) (drop n t) t
  sound p q lead =
      let l = long in
      let small : digits_value 10 (take n t) < 1000 = digits_value_short own (take n t) 3 digits (omega arith) in
      let first : get_or (take n t) 0 0 ≡ get_or t 0 0 = get_or-take n t 0 0 p in
      let same : decimal (digits_value 10 (take n t)) ≡ take n t =
      decimal-digits_value own (take n t) digits (omega arith) (λ z. long ∙ lead (sym first ∙ z)) (omega arith) in
      (sym (take-append-drop n t) ∙ ap (λ l. l ++ drop n t) (sym same), small, no_more)

  pub complete : (v : ℕ) (rest : List ℕ) → Front v rest t → n ≡ length (decimal v)
  complete v rest f =
      let small : v < 2 ^ 64 = omega (arith, f.1) in
      let whole : length t ≡ length (decimal v) + length rest = ap length f.0 ∙ length-append (decimal v) rest in
      ⊎_elim
      (λ less.
      let at : get_or t n 0 ≡ get_or (decimal v) n 0 = ap (λ l. get_or l n 0) f.0 ∙ get_or_append_left (decimal v) rest 0 n less in
      absurd (run.stops (omega arith) (subst (IsInRange 48 57) (sym at) (digits_decimal own v small n less))))
      (λ most. ⊎_elim
      (λ more.
      let at : get_or t (length (decimal v)) 0 ≡ get_or rest 0 0 =
      ap (λ l. get_or l (length (decimal v)) 0) f.0 ∙ ap (λ k. get_or (decimal v ++ rest) k 0) (sym (add-zero (length (decimal v)))) ∙ get_or-append-add (decimal v) rest 0 0 in
      let in-it = run.within in
      absurd (f.2 (omega arith) (subst (IsInRange 48 57) at (run.all (length (decimal v)) more))))
      (λ least. omega arith)
      (order (length (decimal v)) n))
      (order n (length (decimal v)))

  -- what a number at the front says of the run
  pub only : (v : ℕ) (rest : List ℕ) → Front v rest t → (digits_value 10 (take n t) ≡ v) × (drop n t ≡ rest) × (0 < n) × (n ≤ 3) × (get_or t 0 0 ≡ 48 → n ≤ 1)
  only v rest f =
      let small : v < 2 ^ 64 = omega (arith, f.1) in
      let k = complete v rest f in
      let ds : take n t ≡ decimal v = ap (take n) f.0 ∙ take_at (decimal v) rest n (sym k) in (
        ap (digits_value 10) ds ∙ digits_value-decimal own v small,
        ap (drop n) f.0 ∙ drop_at (decimal v) rest n (sym k),
        omega (arith, decimal_nonempty v small),
        omega (arith, length-decimal-le 3 v (omega arith) f.1 small),
        λ z. ⊎_elim
            (λ pos.
            let some = decimal_nonempty v small in
            let at : get_or t 0 0 ≡ get_or (decimal v) 0 0 = ap (λ l. get_or l 0 0) f.0 ∙ get_or_append_left (decimal v) rest 0 0 some in
            absurd (omega (arith, at, first_decimal v pos small)))
            (λ none.
            let nil : v ≡ 0 = omega arith in
            omega (arith, ap (λ u. length (decimal u)) nil, ap length (decimal_digit 0 (omega arith))))
            (order 0 v),
      )
