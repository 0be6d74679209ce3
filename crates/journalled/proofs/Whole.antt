-- The image after the whole recovery.
use Rattle.std.proofs.Common.{arith, rules, ◌≡◌, ℕ, Ok, sym, subst}
use Rattle.std.proofs.lemmas.Bool.Decides.{nat_tests}
use Rattle.image.specs.Sectors.{Image, Shaped}
use Rattle.journalled.specs.Journal.{recovered, headed, sequenced, journalled_after}
use Rattle.journalled.specs.Transactions.{Formatted, Transaction, Carried}
use Rattle.journalled.proofs.Carrying as carrying
use Rattle.journalled.proofs.Settling.{same}

module _ (im : Image) where
  module _ (f : Formatted im) where
    after_is : journalled_after im ≡ recovered im
    after_is =
        let head : headed im ≡ Ok tt = let h = f.head in search rules in
        let number : sequenced im ≡ Ok tt = let n = f.sequence in search rules in
        grind (arith, nat_tests)

    pub carried_out : Shaped im → (k : ℕ) → Transaction im k → Carried im (journalled_after im) k
    carried_out s k t = subst (λ (x : Image). Carried im x k) (sym after_is) (carrying.carried im s f.head.room k t)

  pub untouched : ((k : ℕ) → Transaction im k → ⊥) → journalled_after im ≡ im
  untouched none = same (headed im) (sequenced im) (recovered im) im (carrying.untouched im none)
