-- Images after entries, and differences between images.
use Rattle.std.specs.Prelude.{ℕ, ◌+◌, ◌-◌, Bool, cond, not, ◌&&◌, [], map, length, nat_le, nat_lt, slice_index_or}
use Rattle.std.specs.List.{range_with_len}
use Rattle.std.specs.Str.{bytes_eq}
use Rattle.image.specs.Sectors.{Image, Sector}
use Rattle.recording.specs.Items.{Item, sector_of, sectors_of}
use Rattle.recording.specs.Writes.{nth}

-- the image with n new sectors from `first` on
unfoldable pub patched : (first n : ℕ) → (ℕ → Sector) → Image → Image
patched first n new image = map (λ k. cond (nat_le first k && nat_lt k (first + n)) (new (k - first)) (slice_index_or image k [])) (range_with_len 0 (length image))

-- the image after an entry: each sector that it writes has the new content, any other the old
abbrev pub applied : Item → Image → Image
applied e image = patched (sector_of e) (sectors_of e) (nth e) image

-- sector k is not the same in two images
abbrev pub differs : Image → Image → ℕ → Bool
differs a b k = not (bytes_eq (slice_index_or a k []) (slice_index_or b k []))
