-- Leaving out what has equal contents, one number after the other.
use Rattle.std.proofs.Common.{◌≡◌, ℕ, zero, suc, ◌+◌, ◌<◌, ◌≤◌, Bool, true, false, cond, not, ◌||◌, List, [], ◌∷◌, ◌++◌, length, get_or, take, Err, filter, refl, ap, ◌∙◌, arith}
use Rattle.std.specs.Str.{bytes_eq}
use Rattle.std.proofs.lemmas.List.Elements.{filter-append}
use Rattle.std.proofs.lemmas.List.{take_more, length-take-le, append-nil}
use Rattle.std.proofs.lemmas.List.Sums.{length-filter, count_by-le-length}
use Rattle.image.specs.Sectors.{Sector}
use Rattle.crash.specs.Lists.{firsts}
use Rattle.crash.specs.Rules.{Recording, written}
use Rattle.crash.specs.States.{numbers, candidate_numbers}
use Rattle.trace.specs.Meaning.{content_at}
use Rattle.candidates.specs.declared.refusal.Refusal.{Refusal}
use Rattle.candidates.specs.declared.refusal.Refusal.TheVariants.{SectorNumber, Candidates, States}
use Rattle.candidates.specs.Gathering.{repeated, Gathered, Found}

module _ (value : ℕ → List ℕ) where
  -- a number stays unless its content has stood before
  unseen : (b a : Bool) (z n : ℕ) → bytes_eq (value z) (value n) ≡ b → filter (λ k. not (bytes_eq (value z) (value k))) (cond a [] (n ∷ [])) ≡ cond (b || a) [] (n ∷ [])
  unseen true true z n e = refl
  unseen true false z n e = ap (λ (t : Bool). cond (not t) (n ∷ []) []) e
  unseen false true z n e = refl
  unseen false false z n e = ap (λ (t : Bool). cond (not t) (n ∷ []) []) e

  pub firsts_push : (ks : List ℕ) (n : ℕ) → firsts value (ks ++ n ∷ []) ≡ firsts value ks ++ cond (repeated value ks n) [] (n ∷ [])
  firsts_push [] n = refl
  firsts_push (z ∷ ks) n =
      ap (λ l. z ∷ filter (λ k. not (bytes_eq (value z) (value k))) l) (firsts_push ks n)
      ∙ ap (λ l. z ∷ l) (filter-append (λ k. not (bytes_eq (value z) (value k))) (firsts value ks) (cond (repeated value ks n) [] (n ∷ [])))
      ∙ ap (λ l. z ∷ (filter (λ k. not (bytes_eq (value z) (value k))) (firsts value ks) ++ l)) (unseen (bytes_eq (value z) (value n)) (repeated value ks n) z n refl)

  pub firsts_more : (ks : List ℕ) (i : ℕ) → i < length ks → firsts value (take (i + 1) ks) ≡ firsts value (take i ks) ++ cond (repeated value (take i ks) (get_or ks i 0)) [] (get_or ks i 0 ∷ [])
  firsts_more ks i h = ap (firsts value) (take_more ks i 0 h) ∙ firsts_push (take i ks) (get_or ks i 0)

  -- the number at i stays, or is left out
  pub firsts_stays : (ks : List ℕ) (i : ℕ) → i < length ks → repeated value (take i ks) (get_or ks i 0) ≡ false → firsts value (take (i + 1) ks) ≡ firsts value (take i ks) ++ get_or ks i 0 ∷ []
  firsts_stays ks i h e = firsts_more ks i h ∙ ap (λ b. firsts value (take i ks) ++ cond b [] (get_or ks i 0 ∷ [])) e

  pub firsts_leaves : (ks : List ℕ) (i : ℕ) → i < length ks → repeated value (take i ks) (get_or ks i 0) ≡ true → firsts value (take (i + 1) ks) ≡ firsts value (take i ks)
  firsts_leaves ks i h e = firsts_more ks i h ∙ ap (λ b. firsts value (take i ks) ++ cond b [] (get_or ks i 0 ∷ [])) e ∙ append-nil (firsts value (take i ks))

  pub length_firsts : (ks : List ℕ) → length (firsts value ks) ≤ length ks
  length_firsts [] = omega arith
  length_firsts (k ∷ ks) =
      let test : ℕ → Bool = λ j. not (bytes_eq (value k) (value j)) in
      let a = length-filter test (firsts value ks) in
      let b = count_by-le-length test (firsts value ks) in
      let c = length_firsts ks in
      omega arith

-- there is room for one number more
pub leave_room : (value : ℕ → List ℕ) (ks : List ℕ) (i : ℕ) (stay : List ℕ) → i < length ks → length ks ≤ 8 → stay ≡ firsts value (take i ks) → length stay < 8
leave_room value ks i stay h l e =
    let a = length_firsts value (take i ks) in
    let b = length-take-le i ks (omega arith) in
    let c = ap length e in
    omega arith

-- the contents are those of the recording
pub content_written : (d : Recording) (s j : ℕ) (x : Sector) → x ≡ get_or d.base s [] → content_at x d.effects s j ≡ written d s j
content_written d s zero x e = e
content_written d s (suc i) x e = refl

firsts_candidates : (d : Recording) (p s : ℕ) → firsts (content_at (get_or d.base s []) d.effects s) (numbers d p s) ≡ candidate_numbers d p s
unfolding candidate_numbers
firsts_candidates d p s = λ i. firsts (λ j. content_written d s j (get_or d.base s []) refl i) (numbers d p s)

-- the numbers left are those of the candidates
pub left_candidates : (d : Recording) (p s : ℕ) (base : Sector) (all left : List ℕ) → base ≡ get_or d.base s [] → all ≡ numbers d p s → left ≡ firsts (content_at base d.effects s) all → left ≡ candidate_numbers d p s
left_candidates d p s base all left b e f =
    f ∙ ap (λ (x : Sector). firsts (content_at x d.effects s) all) b ∙ ap (firsts (content_at (get_or d.base s []) d.effects s)) e ∙ firsts_candidates d p s

-- a refusal of the gathering is one of the candidates
pub found_declined : (d : Recording) (p s : ℕ) (f : Refusal) → s < length d.base → Gathered d p s (Err f) → Found d p s (Err f)
found_declined d p s SectorNumber l h = absurd h
found_declined d p s (Candidates q) l h = (l, h)
found_declined d p s (States q) l h = h
