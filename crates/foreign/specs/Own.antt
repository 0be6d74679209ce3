-- The sectors of a store of its own: eight, in a row of 4096 bytes.
use Rattle.std.specs.Prelude.{◌≡◌, ℕ, ◌<◌, List, [], length, slice_index_or, slice_set}
use Rattle.std.proofs.Common.{ap, ◌∙◌, arith}
use Rattle.image.specs.Sectors.{Image, Sector, Shaped, Bytes, cut, count_in, sector_at, put}
use Rattle.image.specs.Cuts.{length_cut, cut_shaped, cut_at, cut_put}

-- the sectors of the row
unfoldable pub own : List ℕ → Image
own cells = cut cells

pub own_count : (cells : List ℕ) → length cells ≡ 4096 → length (own cells) ≡ 8
unfolding own
own_count cells h = length_cut cells ∙ ap count_in h

pub own_shaped : (cells : List ℕ) → Bytes cells → Shaped (own cells)
unfolding own
own_shaped cells bs = cut_shaped cells bs

eight : (cells : List ℕ) (n : ℕ) → length cells ≡ 4096 → n < 8 → n < count_in (length cells)
eight cells n h l = rw h l

pub own_at : (cells : List ℕ) (n : ℕ) → length cells ≡ 4096 → n < 8 → slice_index_or (own cells) n [] ≡ sector_at cells n
unfolding own
own_at cells n h l = cut_at cells n (eight cells n h l)

pub own_put : (cells : List ℕ) (n : ℕ) (s : Sector) → length cells ≡ 4096 → n < 8 → length s ≡ 512 → own (put cells n s) ≡ slice_set (own cells) n s
unfolding own
own_put cells n s h l whole = cut_put cells n s (omega arith) whole (eight cells n h l)
