-- An overlay that holds nothing shows what lies below.
use Rattle.std.proofs.Common.{◌≡◌, ℕ, false, cond, [], length, get_or, ap, ◌∙◌}
use Rattle.std.proofs.lemmas.List.{ext_get_or}
use Rattle.image.specs.declared.overlay.Overlay.{Overlay}
use Rattle.image.specs.Sectors.{Image, sector_at}
use Rattle.image.specs.Layers.{overlaid, length_overlaid, overlaid_at}
use Rattle.image.specs.Shown.{shown, holds}

pub shown_clean : {S : Type 0} (sectors : S → Image) (o : Overlay S) → ((k : ℕ) → holds o k ≡ false) → shown sectors o ≡ sectors o.below
shown_clean sectors o none =
    let below = sectors o.below in
    ext_get_or [] (overlaid o.written o.cells below) below (length_overlaid o.written o.cells below)
    (λ k h. overlaid_at o.written o.cells below k (rw length_overlaid at h) ∙ ap (λ b. cond b (sector_at o.cells k) (get_or below k [])) (none k))

-- the count of a pile of two overlays is that of the store below
pub length_pile : {S : Type 0} (sectors : S → Image) (o : Overlay (Overlay S)) → length (shown (shown sectors) o) ≡ length (sectors o.below.below)
length_pile sectors o = length_overlaid o.written o.cells (shown sectors o.below) ∙ length_overlaid o.below.written o.below.cells (sectors o.below.below)
