-- When a call for a sector is accepted.
use Rattle.std.specs.Prelude.{◌≡◌, ℕ, ◌<◌, true, Ok, nat_eq, nat_lt}
use Rattle.std.proofs.Common.{eq-eqb, lt-ltb}
use Rattle.image.specs.Refusals.{access}

pub access_ok : (size n count : ℕ) → size ≡ 512 → n < count → Ok tt ≡ access size n count
access_ok size n count e h = let p : nat_eq size 512 ≡ true = eq-eqb size 512 e in let q : nat_lt n count ≡ true = lt-ltb n count h in rw (p, q)
