-- What a load answers where no base recovers.
use Rattle.std.specs.Prelude.{◌≡◌, ℕ, cond, Some, Ok, Err, Option, Result, nat_lt}
use Rattle.run.specs.declared.refusal.Refusal.{Refusal}
use Rattle.run.specs.Refusals.{code_of}

-- over an image of so many sectors: 3 where there is none, else 4; place 0
abbrev pub no_base : ℕ → Option (ℕ × ℕ)
no_base count = Some (cond (nat_lt count 1) 3 4, 0)

-- A load is declined so: by a base that does not recover before any memory is asked for.
abbrev pub NoBase : ℕ → Result (Unit {0}) Refusal → Type 0
NoBase count (Ok u) = ⊥
NoBase count (Err f) = code_of f ≡ no_base count
