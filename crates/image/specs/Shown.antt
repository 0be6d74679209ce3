-- What an overlay shows, and which sectors it holds.
use Rattle.std.specs.Prelude.{ℕ, Bool}
use Rattle.image.specs.declared.overlay.Overlay.{Overlay}
use Rattle.image.specs.Sectors.{Image}
use Rattle.image.specs.Layers.{has, overlaid}

-- the image of an overlay, by that of the store below: the sectors below with the held ones in place of the old
abbrev pub shown : {S : Type 0} → (S → Image) → Overlay S → Image
shown sectors o = overlaid o.written o.cells (sectors o.below)

-- whether the overlay holds sector k
abbrev pub holds : {S : Type 0} → Overlay S → ℕ → Bool
holds o k = has o.written k
