-- The fields of an entry's sector that keep the rules.
use Rattle.std.proofs.Common.{◌≡◌, ℕ, ◌+◌, ◌*◌, ◌/◌, ◌%◌, ◌<◌, ◌≤◌, true, false, cond, not, ◌&&◌, ◌||◌, eqb, ltb, leb, sym, ap, ◌∙◌, inl, inr, arith}
use Rattle.std.proofs.lemmas.Bool.{cases_eq, or_parts, and_cases, not-false, leb-false, ltb-false, eqb-true, eq-eqb, both_ways}
use Rattle.std.proofs.lemmas.Nat.{mod_below, shr-shr}
use Rattle.image.specs.Layers.{has}
use Rattle.recording.specs.Items.{flags_of, worth}
use Rattle.recording.specs.Entries.{mark_flawed, text_flawed, flags_flawed, fields_flawed}

bit_worth : (y w : ℕ) → y < 2 → cond (eqb y 1) w 0 ≡ y * w
bit_worth y w h = elim (cases_eq y 0) [
  | inl e ↦ ap (λ z. cond (eqb z 1) w 0) e ∙ sym (ap (λ z. z * w) e ∙ omega arith)
  | inr ne ↦ let o : y ≡ 1 = omega arith in ap (λ z. cond (eqb z 1) w 0) o ∙ sym (ap (λ z. z * w) o ∙ omega arith)
]

-- a number below 32 is the sum of its flags
pub bits_sum : (n : ℕ) → n < 32 → n ≡ worth (has n 0) 1 + worth (has n 1) 2 + worth (has n 2) 4 + worth (has n 3) 8 + worth (has n 4) 16
unfolding has
bits_sum n h =
    let e0 = bit_worth (n / 1 % 2) 1 (mod_below (n / 1) 2 (omega arith)) in
    let e1 = bit_worth (n / 2 % 2) 2 (mod_below (n / 2) 2 (omega arith)) in
    let e2 = bit_worth (n / 4 % 2) 4 (mod_below (n / 4) 2 (omega arith)) in
    let e3 = bit_worth (n / 8 % 2) 8 (mod_below (n / 8) 2 (omega arith)) in
    let e4 = bit_worth (n / 16 % 2) 16 (mod_below (n / 16) 2 (omega arith)) in
    split ∙ ap (λ z. z + n / 2 % 2 * 2 + n / 4 % 2 * 4 + n / 8 % 2 * 8 + n / 16 % 2 * 16) (sym e0)
    ∙ ap (λ z. worth (has n 0) 1 + z + n / 4 % 2 * 4 + n / 8 % 2 * 8 + n / 16 % 2 * 16) (sym e1)
    ∙ ap (λ z. worth (has n 0) 1 + worth (has n 1) 2 + z + n / 8 % 2 * 8 + n / 16 % 2 * 16) (sym e2)
    ∙ ap (λ z. worth (has n 0) 1 + worth (has n 1) 2 + worth (has n 2) 4 + z + n / 16 % 2 * 16) (sym e3)
    ∙ ap (λ z. worth (has n 0) 1 + worth (has n 1) 2 + worth (has n 2) 4 + worth (has n 3) 8 + z) (sym e4)
  where
    split : n ≡ n / 1 % 2 * 1 + n / 2 % 2 * 2 + n / 4 % 2 * 4 + n / 8 % 2 * 8 + n / 16 % 2 * 16
    split = omega (arith, shr-shr n 1 1, shr-shr n 2 1, shr-shr n 3 1)

-- what the rules leave of the fields
pub record Kept (sector sectors bits size : ℕ) : Type 0 where
  pub small : bits < 32
  pub marks : has bits 3 ≡ true → (bits ≡ 8) × (sector ≡ 0) × (sectors ≡ 0)
  pub few : size ≤ 480
  pub texts : has bits 3 ≡ false → size ≡ 0
  pub apart : has bits 2 && has bits 1 ≡ false
  pub some : sectors ≡ 0 → has bits 3 ≡ false → has bits 0 ≡ true

module _ (sector sectors bits size : ℕ) (kept : fields_flawed sector sectors bits size ≡ false) where
  a : (leb 32 bits ≡ false) × (mark_flawed sector sectors bits (flags_of bits) || (text_flawed size (flags_of bits) || flags_flawed sectors (flags_of bits)) ≡ false)
  a = or_parts (leb 32 bits) (mark_flawed sector sectors bits (flags_of bits) || (text_flawed size (flags_of bits) || flags_flawed sectors (flags_of bits))) kept

  b : (mark_flawed sector sectors bits (flags_of bits) ≡ false) × (text_flawed size (flags_of bits) || flags_flawed sectors (flags_of bits) ≡ false)
  b = or_parts (mark_flawed sector sectors bits (flags_of bits)) (text_flawed size (flags_of bits) || flags_flawed sectors (flags_of bits)) a.1

  t : (text_flawed size (flags_of bits) ≡ false) × (flags_flawed sectors (flags_of bits) ≡ false)
  t = or_parts (text_flawed size (flags_of bits)) (flags_flawed sectors (flags_of bits)) b.1

  f : (has bits 2 && has bits 1 ≡ false) × (eqb sectors 0 && (not (has bits 3) && not (has bits 0)) ≡ false)
  f = or_parts (has bits 2 && has bits 1) (eqb sectors 0 && (not (has bits 3) && not (has bits 0))) t.1

  u : (ltb 480 size ≡ false) × (not (eqb size 0) && not (has bits 3) ≡ false)
  u = or_parts (ltb 480 size) (not (eqb size 0) && not (has bits 3)) t.0

  only : has bits 3 ≡ true → (bits ≡ 8) × (sector ≡ 0) × (sectors ≡ 0)
  only e = elim (and_cases (has bits 3) (not (eqb bits 8) || (not (eqb sector 0) || not (eqb sectors 0))) b.0) [
    | inl z ↦ absurd (both_ways (has bits 3) z e)
    | inr z ↦
        let p = or_parts (not (eqb bits 8)) (not (eqb sector 0) || not (eqb sectors 0)) z in
        let q = or_parts (not (eqb sector 0)) (not (eqb sectors 0)) p.1 in
        (eqb-true bits 8 (not-false (eqb bits 8) p.0), eqb-true sector 0 (not-false (eqb sector 0) q.0), eqb-true sectors 0 (not-false (eqb sectors 0) q.1))
  ]

  bare : has bits 3 ≡ false → size ≡ 0
  bare e = elim (and_cases (not (eqb size 0)) (not (has bits 3)) u.1) [
    | inl z ↦ eqb-true size 0 (not-false (eqb size 0) z)
    | inr z ↦ absurd (both_ways (has bits 3) e (not-false (has bits 3) z))
  ]

  flushes : sectors ≡ 0 → has bits 3 ≡ false → has bits 0 ≡ true
  flushes s e = elim (and_cases (eqb sectors 0) (not (has bits 3) && not (has bits 0)) f.1) [
    | inl z ↦ absurd (both_ways (eqb sectors 0) z (eq-eqb sectors 0 s))
    | inr z ↦ elim (and_cases (not (has bits 3)) (not (has bits 0)) z) [
      | inl y ↦ absurd (both_ways (has bits 3) e (not-false (has bits 3) y))
      | inr y ↦ not-false (has bits 0) y
    ]
  ]

  pub fields_kept : Kept sector sectors bits size
  fields_kept = record { small = leb-false 32 bits a.0; marks = only; few = ltb-false 480 size u.0; texts = bare; apart = f.0; some = flushes }
