-- A second recovery changes nothing: the sequence number has moved on, so no transaction stands.
use Rattle.std.proofs.Common.{◌≡◌, ℕ, ◌+◌, ◌*◌, ◌%◌, ◌^◌, ◌<◌, ◌≤◌, ◌⊎◌, length, Ok, Err, Result, sym, refl, ap, ◌∙◌, inl, inr, arith}
use Rattle.std.proofs.lemmas.Bool.{cases_lt, cases_Bool}
use Rattle.std.proofs.lemmas.Bool.Decides.{nat_tests}
use Rattle.image.specs.Sectors.{Image, Shaped}
use Rattle.filesystem.specs.declared.fault.Fault.{Fault}
use Rattle.filesystem.specs.Words.{word_at}
use Rattle.filesystem.specs.Heads.{head_word}
use Rattle.journalled.specs.Journal.{sequence_of, size_of, stands, recovered, headed, sequenced, when_ok, journalled_after}
use Rattle.journalled.specs.Transactions.{Transaction, Settled, word}
use Rattle.journalled.proofs.Recovers.{none_stands}
use Rattle.journalled.proofs.Standing.{from_test}
use Rattle.journalled.proofs.Carrying.{untouched, away, carried}

module _ (im : Image) (shaped : Shaped im) (room : 16 ≤ length im) where
  moved : (k j : ℕ) → Transaction im k → Transaction (recovered im) j → ⊥
  moved k j t u =
      let c = carried im shaped room k t in
      let same : word (recovered im) 2 0 ≡ word im 2 0 = ap (λ s. word_at s 0) (c.others 2 (λ e. omega arith) (λ i l. away im shaped room k t 2 i l (λ e. omega arith) (omega arith))) in
      off (word im 2 0) (sequence_of im) (head_word (recovered im) 2) t.begun (sym same ∙ u.begun) c.sequence (omega arith)
    where
      off : (w s h : ℕ) → w ≡ 1 * 2 ^ 30 + s → w ≡ 1 * 2 ^ 30 + h % 2 ^ 30 → h ≡ 3 * 2 ^ 30 + (s + 1) % 2 ^ 30 → s < 2 ^ 30 → ⊥
      off w s h p q r l = omega arith

  pub twice : recovered (recovered im) ≡ recovered im
  twice = elim (cases_Bool (stands im)) [
    | inl t ↦ untouched (recovered im) (λ j u. moved (size_of im) j (from_test im t) u)
    | inr f ↦ ap recovered (sym (none_stands im f))
  ]

whens : (r q : Result (Unit {0}) Fault) (a b : Image) → (when_ok r (when_ok q a b) b ≡ a) ⊎ (when_ok r (when_ok q a b) b ≡ b)
whens (Ok x) (Ok y) a b = inl refl
whens (Ok x) (Err f) a b = inr refl
whens (Err f) q a b = inr refl

pub same : (r q : Result (Unit {0}) Fault) (a b : Image) → a ≡ b → when_ok r (when_ok q a b) b ≡ b
same (Ok x) (Ok y) a b e = e
same (Ok x) (Err f) a b e = refl
same (Err f) q a b e = refl

short : (im : Image) → length im < 16 → journalled_after im ≡ im
short im l = grind (arith, nat_tests)

pub settled : Settled
settled im shaped = elim (cases_lt (length im) 16) [
  | inl l ↦ ap journalled_after (short im l)
  | inr room ↦ elim (whens (headed im) (sequenced im) (recovered im) im) [
    | inl e ↦ ap journalled_after e ∙ same (headed (recovered im)) (sequenced (recovered im)) (recovered (recovered im)) (recovered im) (twice im shaped room) ∙ sym e
    | inr e ↦ ap journalled_after e
  ]
]
