-- The image while a transaction's sectors are copied.
use Rattle.std.specs.Prelude.{◌≡◌, ℕ, zero, suc, ◌+◌, ◌<◌, ◌≤◌, true, ◌≢◌, ◌⊎◌, length, slice_set}
use Rattle.std.proofs.Math.Path.{refl, ap}
use Rattle.std.proofs.Common.{sym, ◌∙◌, inl, inr, add-one, arith}
use Rattle.std.proofs.lemmas.List.{length-set, get_or-set_other}
use Rattle.std.proofs.lemmas.Bool.{and_parts}
use Rattle.image.specs.Sectors.{Image}
use Rattle.journalled.specs.Journal.{sequence_of, size_of, home_in, descriptor, describes, commits, stands, copied}
use Rattle.image.specs.Fetched.{blank, sector_of}
use Rattle.journalled.specs.Described.{home_is, size_few}

module _ (im : Image) where
  pub copied_none : copied im 0 ≡ im
  unfolding copied
  copied_none = refl

  pub copied_more : (i : ℕ) → copied im (i + 1) ≡ slice_set (copied im i) (home_in (descriptor im) i) (sector_of im (3 + i))
  unfolding copied
  copied_more i = ap (copied im) (add-one i)

  pub length_copied : (i : ℕ) → length (copied im i) ≡ length im
  unfolding copied
  length_copied zero = refl
  length_copied (suc i) = length-set (copied im i) (home_in (descriptor im) i) (sector_of im (3 + i)) ∙ length_copied i

  module _ (room : 16 ≤ length im) (stood : stands im ≡ true) where
    described : describes (sequence_of im) (length im) (descriptor im) ≡ true
    described = (and_parts (describes (sequence_of im) (length im) (descriptor im)) (commits (sequence_of im) im (size_of im)) stood).0

    pub few : size_of im ≤ 6
    few = size_few (sequence_of im) (length im) (descriptor im) described

    home : (i : ℕ) → i < size_of im → (home_in (descriptor im) i ≡ 1) ⊎ ((10 ≤ home_in (descriptor im) i) × (home_in (descriptor im) i < length im))
    home = home_is (sequence_of im) (length im) (descriptor im) described

    pub home_inside : (i : ℕ) → i < size_of im → home_in (descriptor im) i < length im
    home_inside i l = elim (home i l) [ inl e ↦ omega arith | inr h ↦ h.1 ]

    other : (i n : ℕ) → i < size_of im → n ≢ 1 → n < 10 → n ≢ home_in (descriptor im) i
    other i n l ne h = elim (home i l) [ inl e ↦ (λ q. ne (q ∙ e)) | inr b ↦ let low = b.0 in (λ q. omega (arith, low, q)) ]

    -- sector 0 and the journal stay as they are
    pub copied_kept : (i n : ℕ) → i ≤ size_of im → n ≢ 1 → n < 10 → sector_of (copied im i) n ≡ sector_of im n
    unfolding copied
    copied_kept zero n l ne h = refl
    copied_kept (suc i) n l ne h =
        get_or-set_other (copied im i) (home_in (descriptor im) i) n (sector_of im (3 + i)) blank (other i n (omega arith) ne h)
        ∙ copied_kept i n (omega arith) ne h

    -- one sector more, read from the image as it is then
    pub step : (i : ℕ) → i < size_of im → slice_set (copied im i) (home_in (descriptor im) i) (sector_of (copied im i) (3 + i)) ≡ copied im (i + 1)
    step i l = ap (slice_set (copied im i) (home_in (descriptor im) i)) (copied_kept i (3 + i) (omega arith) (λ e. omega arith) (let f = few in omega arith)) ∙ sym (copied_more i)
