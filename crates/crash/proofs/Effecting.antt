-- The effect of an entry writes what the entry writes.
use Rattle.std.proofs.Common.{◌≡◌, ℕ, ◌+◌, ◌-◌, ◌/◌, ◌<◌, Bool, true, false, ◌&&◌, ltb, leb, [], length, sym, refl, ap, arith}
use Rattle.std.proofs.lemmas.List.FromFn.{length-map-range_with_len, get_or-map-range_with_len}
use Rattle.std.proofs.lemmas.List.{length-replicate, get_or-replicate}
use Rattle.std.proofs.lemmas.Bool.{and_parts, leb-true, ltb-true}
use Rattle.image.specs.Sectors.{sector_at}
use Rattle.image.specs.Layers.{has}
use Rattle.recording.specs.Items.{Item, write, discard, flush, mark, worth, bits_of, flags_of}
use Rattle.recording.specs.Writes.{writes, content_of}
use Rattle.crash.specs.Effects.{zeros, effect_of}
use Rattle.crash.specs.Rules.{content}
use Rattle.crash.specs.States.{is_writer}

pub same_sectors : (e : Item) (s : ℕ) → is_writer (effect_of e) s ≡ writes e s
same_sectors (write sector fl force meta x) s = ap (λ n. leb sector s && ltb s (sector + n)) (length-map-range_with_len (sector_at x) 0 (length x / 512))
same_sectors (discard sector sectors fl meta) s = ap (λ n. leb sector s && ltb s (sector + n)) (length-replicate sectors zeros)
same_sectors (flush sector force dis meta) s = refl
same_sectors (mark text) s = refl

-- which of its sectors a sector is
nth_below : (first n s : ℕ) → leb first s && ltb s (first + n) ≡ true → s - first < n
nth_below first n s h =
    let t = and_parts (leb first s) (ltb s (first + n)) h in
    let a = leb-true first s t.0 in
    let b = ltb-true s (first + n) t.1 in
    omega arith

pub same_contents : (e : Item) (s : ℕ) → writes e s ≡ true → content (effect_of e) s ≡ content_of e s
same_contents (write sector fl force meta x) s h =
    get_or-map-range_with_len (sector_at x) 0 (length x / 512) (s - sector) (s - sector) [] (nth_below sector (length x / 512) s h) (omega arith)
same_contents (discard sector sectors fl meta) s h = get_or-replicate sectors (s - sector) zeros [] (nth_below sector sectors s h)
same_contents (flush sector force dis meta) s h = let n = nth_below sector 0 s h in absurd (omega arith)
same_contents (mark text) s h = let n = nth_below 0 0 s h in absurd (omega arith)

-- the flag fields of writes, discards and flushes
write_bits : (fl force meta : Bool) → (has (worth fl 1 + worth force 2 + worth meta 16) 0 ≡ fl) × (has (worth fl 1 + worth force 2 + worth meta 16) 1 ≡ force)
unfolding has
write_bits false false false = (refl, refl)
write_bits false false true = (refl, refl)
write_bits false true false = (refl, refl)
write_bits false true true = (refl, refl)
write_bits true false false = (refl, refl)
write_bits true false true = (refl, refl)
write_bits true true false = (refl, refl)
write_bits true true true = (refl, refl)

discard_bits : (fl meta : Bool) → (has (worth fl 1 + 4 + worth meta 16) 0 ≡ fl) × (has (worth fl 1 + 4 + worth meta 16) 1 ≡ false)
unfolding has
discard_bits false false = (refl, refl)
discard_bits false true = (refl, refl)
discard_bits true false = (refl, refl)
discard_bits true true = (refl, refl)

flush_bits : (force dis meta : Bool) → (has (1 + worth force 2 + worth dis 4 + worth meta 16) 0 ≡ true) × (has (1 + worth force 2 + worth dis 4 + worth meta 16) 1 ≡ force)
unfolding has
flush_bits false false false = (refl, refl)
flush_bits false false true = (refl, refl)
flush_bits false true false = (refl, refl)
flush_bits false true true = (refl, refl)
flush_bits true false false = (refl, refl)
flush_bits true false true = (refl, refl)
flush_bits true true false = (refl, refl)
flush_bits true true true = (refl, refl)

pub same_flush : (e : Item) → (effect_of e).flush ≡ (flags_of (bits_of e)).flush
unfolding has
same_flush (write sector fl force meta x) = sym (write_bits fl force meta).0
same_flush (discard sector sectors fl meta) = sym (discard_bits fl meta).0
same_flush (flush sector force dis meta) = sym (flush_bits force dis meta).0
same_flush (mark text) = refl

pub same_fua : (e : Item) → (effect_of e).fua ≡ (flags_of (bits_of e)).fua
unfolding has
same_fua (write sector fl force meta x) = sym (write_bits fl force meta).1
same_fua (discard sector sectors fl meta) = sym (discard_bits fl meta).1
same_fua (flush sector force dis meta) = sym (flush_bits force dis meta).1
same_fua (mark text) = refl
