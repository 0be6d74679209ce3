-- Words added up one after another, modulo 2^30, are their sum.
use Rattle.std.proofs.Common.{◌≡◌, ℕ, ◌+◌, ◌%◌, ◌^◌, ◌<◌, map, List, [], ◌∷◌, refl, ◌∙◌, arith}
use Rattle.std.specs.List.{range_with_len, fold, sum_by}
use Rattle.std.proofs.lemmas.List.Sums.{sum_by-cons}
use Rattle.image.specs.Sectors.{Image, Sector}
use Rattle.image.specs.Fetched.{sector_of}
use Rattle.filesystem.specs.Words.{word_at}
use Rattle.journalled.specs.Journal.{word_sum, journal_sum}

-- a sum with a word more; and f's numbers added up so, one after another
unfoldable pub added : (sum word : ℕ) → ℕ
added sum w = (sum + w) % 2 ^ 30

abbrev pub added_up : (f : ℕ → ℕ) → List ℕ → ℕ
added_up f ns = fold added 0 (map f ns)

module _ (f g : ℕ → ℕ) (same : (n : ℕ) → f n % 2 ^ 30 ≡ g n % 2 ^ 30) where
  from_one : (sum : ℕ) → sum < 2 ^ 30 → (ns : List ℕ) → fold added sum (map f ns) ≡ (sum + sum_by g ns) % 2 ^ 30
  unfolding added
  from_one sum low [] = omega arith
  from_one sum low (n ∷ ns) = from_one ((sum + f n) % 2 ^ 30) (omega arith) ns ∙ one_more (sum_by g ns) (sum_by g (n ∷ ns)) (sum_by-cons g n ns)
    where
      one_more : (rest all : ℕ) → all ≡ g n + rest → ((sum + f n) % 2 ^ 30 + rest) % 2 ^ 30 ≡ (sum + all) % 2 ^ 30
      one_more rest all e = omega (arith, same n)

  sum_added : (ns : List ℕ) → added_up f ns ≡ sum_by g ns % 2 ^ 30
  sum_added ns = omega (arith, from_one 0 (omega arith) ns)

pub sector_added : (sector : Sector) → added_up (word_at sector) (range_with_len 0 128) ≡ word_sum sector % 2 ^ 30
sector_added sector = sum_added (word_at sector) (word_at sector) (λ i. refl) (range_with_len 0 128)

pub journal_added : (im : Image) (k : ℕ) (f : ℕ → ℕ) → ((n : ℕ) → f n ≡ word_sum (sector_of im n) % 2 ^ 30) → added_up f (range_with_len 2 (k + 1)) ≡ journal_sum im k % 2 ^ 30
journal_added im k f h = sum_added f (λ n. word_sum (sector_of im n)) (λ n. omega (arith, h n)) (range_with_len 2 (k + 1))
