use Rattle.std.proofs.Common.{◌≡◌, ◌<◌, List, [], ◌∷◌, length, take, set, rules}
use Rattle.std.proofs.lemmas.List.{take_more_set}
use Rattle.history.proofs.cells.History.start.Goals as goal

-- the first cell alone, once it is set
first_set : {X : Type 0} (xs : List X) (v : X) → 0 < length xs → take 1 (set xs 0 v) ≡ v ∷ []
first_set xs v h = take_more_set xs 0 v h

pub returns-clause-values : goal.returns-clause-values
returns-clause-values g c = search (rules, first_set)
