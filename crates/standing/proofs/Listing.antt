-- The candidates of one sector after the other, listed.
use Rattle.std.proofs.Common.{◌≡◌, ℕ, ◌+◌, ◌<◌, ◌≤◌, List, [], map, length, get_or, take, set, replicate, sym, ap, ◌∙◌, subst, inl, inr, arith}
use Rattle.std.proofs.lemmas.List.{length-take-le, length-map, map-set, take-replicate, get_or-map, get_or-set_same, get_or-set_other, get_or-take, ext_get_or}
use Rattle.std.proofs.lemmas.Bool.{cases_lt}
use Rattle.crash.specs.Rules.{Recording}
use Rattle.crash.specs.States.{candidate_numbers}
use Rattle.crash.specs.Laws.{counts}
use Rattle.candidates.specs.declared.eight.Few.{Few}
use Rattle.candidates.specs.Lists.{listed}
use Rattle.candidates.specs.Gathering.{NoneAbove, numbers_at}
use Rattle.standing.specs.declared.choice.Choice.{Choice}
use Rattle.standing.specs.Places.{lists_in, counts_in, places_in}
use Rattle.standing.specs.Standing.{Entered}
use Rattle.standing.proofs.Picking.{counts_length, count_at, numbers_length}

-- the candidates of the first i sectors are listed, and the first of each is taken
pub record ListedTo (d : Recording) (p i : ℕ) (c : Choice) : Type 0 where
  pub zero : places_in c ≡ replicate 64 0
  pub lists : (s : ℕ) → s < i → get_or (lists_in c) s [] ≡ candidate_numbers d p s
  pub few : (s : ℕ) → s < i → NoneAbove (numbers_at d s) p

pub listed_none : (d : Recording) (p : ℕ) (c : Choice) → places_in c ≡ replicate 64 0 → ListedTo d p 0 c
listed_none d p c e = record { zero = e; lists = λ s l. absurd (omega arith); few = λ s l. absurd (omega arith) }

-- one list put among the others, and its length among the lengths
pub lists_set : (all : List (Few ℕ)) (s : ℕ) (few : Few ℕ) → map listed (set all s few) ≡ set (map listed all) s (listed few)
lists_set all s few = map-set listed all s few

pub counts_set : (all : List (Few ℕ)) (counts : List ℕ) (s : ℕ) (few : Few ℕ) (n : ℕ) → counts ≡ map length (map listed all) → n ≡ length (listed few) → set counts s n ≡ map length (map listed (set all s few))
counts_set all counts s few n e l =
    ap (λ (xs : List ℕ). set xs s n) e
    ∙ ap (set (map length (map listed all)) s) l
    ∙ sym (map-set length (map listed all) s (listed few))
    ∙ ap (map length) (sym (lists_set all s few))

many : (c : Choice) → length (lists_in c) ≡ 64
many c = length-map c.candidates listed ∙ c.size

module _ (d : Recording) (p i : ℕ) (c c' : Choice) (x : List ℕ) (h : ListedTo d p i c) (inside : i < 64)
    (places : places_in c' ≡ places_in c) (put : lists_in c' ≡ set (lists_in c) i x) (found : x ≡ candidate_numbers d p i) (none : NoneAbove (numbers_at d i) p) where
  lists_more : (s : ℕ) → s < i + 1 → get_or (lists_in c') s [] ≡ candidate_numbers d p s
  lists_more s l = ap (λ (xs : List (List ℕ)). get_or xs s []) put ∙ elim (cases_lt s i) [
    | inl k ↦ get_or-set_other (lists_in c) i s x [] (λ q. omega arith) ∙ h.lists s k
    | inr k ↦
        let q : i ≡ s = omega arith in
        let m = many c in
        subst (λ (m : ℕ). get_or (set (lists_in c) i x) m [] ≡ candidate_numbers d p m) q (get_or-set_same (lists_in c) i x [] (omega arith) ∙ found)
  ]

  few_more : (s : ℕ) → s < i + 1 → NoneAbove (numbers_at d s) p
  few_more s l = elim (cases_lt s i) [
    | inl k ↦ h.few s k
    | inr k ↦ let q : i ≡ s = omega arith in subst (λ (m : ℕ). NoneAbove (numbers_at d m) p) q none
  ]

  pub listed_more : ListedTo d p (i + 1) c'
  listed_more = record { zero = places ∙ h.zero; lists = lists_more; few = few_more }

-- all sectors are listed
pub listed_all : (d : Recording) (p : ℕ) (c : Choice) → length d.base ≤ 64 → ListedTo d p (length d.base) c → Entered d p c
listed_all d p c few h =
    record {
      lists = record { numbers = h.lists; counts = ext_get_or 0 (take (length d.base) (counts_in c)) (counts d p) (long ∙ sym (counts_length d p)) at };
      firsts = ap (take (length d.base)) h.zero ∙ take-replicate (length d.base) 64 0 few;
      few = h.few;
    }
  where
    long : length (take (length d.base) (counts_in c)) ≡ length d.base
    long = let e = length-map (lists_in c) (length {A = ℕ}) in let m = many c in length-take-le (length d.base) (counts_in c) (omega arith)

    at : (s : ℕ) → s < length (take (length d.base) (counts_in c)) → get_or (take (length d.base) (counts_in c)) s 0 ≡ get_or (counts d p) s 0
    at s k =
        let k' : s < length d.base = let e = long in omega arith in
        let m = many c in
        get_or-take (length d.base) (counts_in c) s 0 k'
        ∙ get_or-map length (lists_in c) s [] 0 (omega arith)
        ∙ ap length (h.lists s k')
        ∙ numbers_length d p s
        ∙ sym (count_at d p s k')
