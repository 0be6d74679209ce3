-- Words of 32 bits, and the words of nodes.
use Rattle.std.specs.Prelude.{ℕ, ◌+◌, ◌*◌, ◌/◌, ◌%◌, ◌^◌, Bool, false, cond, ◌&&◌, ◌==◌, nat_le, nat_lt, slice_index}
use Rattle.image.specs.Sectors.{Sector}

-- word i of a sector, the least byte first; bytes past the sector's end count as 0
unfoldable pub word_at : Sector → (i : ℕ) → ℕ
word_at s i = slice_index s (4 * i) + slice_index s (4 * i + 1) * 256 + slice_index s (4 * i + 2) * 65536 + slice_index s (4 * i + 3) * 16777216

-- the kind of a word is its top two bits, its rest the low 30
abbrev pub kind : (word : ℕ) → ℕ
kind w = w / 2 ^ 30

abbrev pub rest : (word : ℕ) → ℕ
rest w = w % 2 ^ 30

-- THE WORD OF A NODE. Bits 29 to 26 are its parent, 25 to 16 its length, 15 to 8 zero, 7 to 0 its data sector.
abbrev pub parent_in : (word : ℕ) → ℕ
parent_in w = w / 2 ^ 26 % 2 ^ 4

abbrev pub length_in : (word : ℕ) → ℕ
length_in w = w / 2 ^ 16 % 2 ^ 10

abbrev pub gap_in : (word : ℕ) → ℕ
gap_in w = w / 2 ^ 8 % 2 ^ 8

abbrev pub sector_in : (word : ℕ) → ℕ
sector_in w = w % 2 ^ 8

-- the data sector of a file: 0 for no bytes, else one from `lowest` to the last
abbrev pub data_stands : (lowest count len sector : ℕ) → Bool
data_stands lowest count len sector = cond (len == 0) (sector == 0) (nat_le lowest sector && nat_lt sector count)

-- Whether a word may be node k's, by itself. Node 0's is 0x40000000. Kind 0 is an absent node, and the word is 0;
-- kind 1 a directory, and the low 26 bits are 0; kind 2 a file.
abbrev pub word_stands : (lowest count k word : ℕ) → Bool
word_stands lowest count k w =
    cond (k == 0) (w == 0x40000000)
    (cond (kind w == 0) (w == 0)
    (cond (kind w == 1) (w % 2 ^ 26 == 0)
    (cond (kind w == 2) (gap_in w == 0 && data_stands lowest count (length_in w) (sector_in w))
    false)))

-- whether a word is of kind k with the rest n
abbrev pub is_word : (k n word : ℕ) → Bool
is_word k n w = kind w == k && rest w == n
