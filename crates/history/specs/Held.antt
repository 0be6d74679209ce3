-- The values of a history, and what its calls answer.
use Rattle.std.specs.Prelude.{◌≡◌, ℕ, ◌-◌, cond, List, length, take, drop, Ok, Err, Result, ◌==◌, refl}
use Rattle.std.specs.Borrow.{MutBor}
use Rattle.history.specs.declared.refusal.Refusal.{Refusal}
use Rattle.history.specs.declared.refusal.Refusal.TheVariants.{Cells, Full}
use Rattle.history.specs.declared.cells.History.{History}

-- the values that a history holds, oldest first
abbrev pub held : {T : Type 0} → History T → List T
held h = take h.used h.cells.now

-- the last value of a list, alone
abbrev pub last : {T : Type 0} → List T → List T
last xs = drop (length xs - 1) xs

-- what `put` answers with so many cells, where so many values are held: the cells are asked for first
abbrev pub put_answer : (cells values : ℕ) → Result (Unit {0}) Refusal
put_answer cells values = cond (cells == 8) (cond (values == 8) (Err Full) (Ok tt)) (Err Cells)

-- what `settle` answers
abbrev pub settle_answer : (cells : ℕ) → Result (Unit {0}) Refusal
settle_answer cells = cond (cells == 8) (Ok tt) (Err Cells)

-- the same cells are lent, as many as before
abbrev pub SameCells : {T : Type 0} → MutBor (List T) → MutBor (List T) → Type 0
SameCells before after = (length after.now ≡ length before.now) × (after.ghost_name ≡ before.ghost_name)

-- the order of the two: cells that are not 8 are told before a full history
cells_before_full : put_answer 7 8 ≡ Err Cells
cells_before_full = refl

-- as many cells, and the caller's own
pub same_cells_many : {T : Type 0} (before after : MutBor (List T)) → SameCells before after → length after.now ≡ length before.now
same_cells_many before after same = same.0

pub same_cells_own : {T : Type 0} (before after : MutBor (List T)) → SameCells before after → after.ghost_name ≡ before.ghost_name
same_cells_own before after same = same.1
