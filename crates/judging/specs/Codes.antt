-- By which number a judgement goes, and how it is written.
use Rattle.std.specs.Prelude.{ℕ, List, ◌++◌, codes, decimal}
use Rattle.judging.specs.declared.judgement.Judgement.{Judgement}
use Rattle.judging.specs.declared.judgement.Judgement.TheVariants.{Admitted, Unadmitted, Faulty}

-- the number of the outcome, and the node
abbrev pub code_of : Judgement → ℕ × ℕ
code_of Admitted = (0, 0)
code_of (Unadmitted node) = (1, node)
code_of Faulty = (2, 0)

-- a judgement in words
abbrev pub words_of : Judgement → List ℕ
words_of Admitted = codes "the tree is admitted"
words_of (Unadmitted node) = codes "node " ++ (decimal node ++ codes " has a value that is not admitted")
words_of Faulty = codes "recovery finds a fault"
