-- The effects of entries write what the entries write, and carry flush and FUA where the entries' flags say so.
use Rattle.std.specs.Prelude.{◌≡◌, ℕ, true}
use Rattle.recording.specs.Items.{Item, bits_of, flags_of}
use Rattle.recording.specs.Writes.{writes, content_of}
use Rattle.crash.specs.Effects.{effect_of}
use Rattle.crash.specs.Rules.{content}
use Rattle.crash.specs.States.{is_writer}

pub record EffectsAreTheEntries : Type 0 where
  -- the same sectors
  pub sectors : (e : Item) (s : ℕ) → is_writer (effect_of e) s ≡ writes e s
  -- the same contents
  pub contents : (e : Item) (s : ℕ) → writes e s ≡ true → content (effect_of e) s ≡ content_of e s
  -- the flags of the entry's own field
  pub flush : (e : Item) → (effect_of e).flush ≡ (flags_of (bits_of e)).flush
  pub fua : (e : Item) → (effect_of e).fua ≡ (flags_of (bits_of e)).fua
