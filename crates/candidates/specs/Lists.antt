-- Lists of at most eight values.
use Rattle.std.specs.Prelude.{List, take}
use Rattle.candidates.specs.declared.eight.Few.{Few}

abbrev pub listed : {T : Type 0} → Few T → List T
listed f = take f.used f.cells
