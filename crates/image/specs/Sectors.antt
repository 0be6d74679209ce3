-- Sectors and images, and the sectors of a row of bytes.
use Rattle.std.specs.Prelude.{◌≡◌, ℕ, ◌+◌, ◌*◌, ◌/◌, ◌<◌, ◌≤◌, min, List, [], ◌++◌, map, length, take, drop, slice_index, slice_index_or}
use Rattle.std.specs.List.{range_with_len}

-- the bytes of one sector
abbrev pub Sector : Type 0
Sector = List ℕ

-- sectors, numbered from 0
abbrev pub Image : Type 0
Image = List Sector

-- each number is a byte
abbrev pub Bytes : List ℕ → Type 0
Bytes l = (i : ℕ) → slice_index l i < 256

-- what every store's image is: at most 64 sectors, each of 512 bytes
pub record Shaped (l : Image) : Type 0 where
  pub few : length l ≤ 64
  pub whole : (k : ℕ) → k < length l → length (slice_index_or l k []) ≡ 512
  pub bytes : (k : ℕ) → k < length l → Bytes (slice_index_or l k [])

-- sector k of a row: the 512 bytes from 512 * k on
abbrev pub sector_at : List ℕ → ℕ → Sector
sector_at row k = take 512 (drop (512 * k) row)

-- how many sectors count in a row of `size` bytes: those that lie whole in it, 64 at most
abbrev pub count_in : (size : ℕ) → ℕ
count_in size = min 64 (size / 512)

-- the image that a row of bytes means
abbrev pub cut : List ℕ → Image
cut row = map (sector_at row) (range_with_len 0 (count_in (length row)))

-- a row with the sector s in place of its sector n
abbrev pub put : List ℕ → ℕ → Sector → List ℕ
put row n s = take (512 * n) row ++ (s ++ drop (512 * n + 512) row)

-- The bytes of a row behind its last sector are never touched: t has as many bytes as s, and the same ones there.
abbrev pub Untouched : (s t : List ℕ) → Type 0
Untouched s t = (length t ≡ length s) × (drop (512 * count_in (length s)) t ≡ drop (512 * count_in (length s)) s)
