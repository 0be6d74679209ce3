-- What a run is about: a base image, what recovery makes of an image, and what each recording means over them.
use Rattle.std.specs.Prelude.{◌≡◌, ℕ, zero, suc, ◌<◌, ◌≤◌, ◌⊎◌, ◌↔◌, List, [], ◌∷◌, ◌++◌, length, slice_index_or}
use Rattle.std.specs.List.{ContainsAt as Has}
use Rattle.image.specs.Sectors.{Sector, Image}
use Rattle.tree.specs.declared.node.Node.{Node}
use Rattle.tree.specs.declared.node.Node.TheVariants.{Absent}
use Rattle.filesystem.specs.Outcomes.{Outcome, a_tree, a_fault}

-- a state by its point and its rank
abbrev pub State : Type 0
State = ℕ × ℕ

-- What a recording means over a base. `candidates p n` are those of the sector n at the point p, `values p n` those of the
-- node n there, and `states p` are the states of the point in their order. `judgement p image` is outcome number and node.
pub record Recording : Type 0 where
  pub last : ℕ
  pub candidates : ℕ → ℕ → List Sector
  pub values : ℕ → ℕ → List Node
  pub states : ℕ → List Image
  pub judgement : ℕ → Image → ℕ × ℕ

-- an image that a crash at p may leave
abbrev pub Permitted : Image → Recording → ℕ → Image → Type 0
Permitted base R p image = (length image ≡ length base) × ((n : ℕ) → n < length base → Has (R.candidates p n) (slice_index_or image n []))

-- the node n of the tree is as it may be at p
abbrev pub NodeAdmitted : Recording → ℕ → List Node → ℕ → Type 0
NodeAdmitted R p nodes n = Has (R.values p n) (slice_index_or nodes n Absent)

abbrev pub Admitted : Recording → ℕ → List Node → Type 0
Admitted R p nodes = (n : ℕ) → n < 16 → NodeAdmitted R p nodes n

-- the outcome is a tree, and one admitted at p
abbrev pub Admits : Recording → ℕ → Outcome → Type 0
Admits R p (a_tree nodes) = Admitted R p nodes
Admits R p (a_fault fault) = ⊥

-- n is the lowest node that is not admitted
pub record Lowest (R : Recording) (p : ℕ) (nodes : List Node) (n : ℕ) : Type 0 where
  pub node : n < 16
  pub out : NodeAdmitted R p nodes n → ⊥
  pub below : (m : ℕ) → m < n → NodeAdmitted R p nodes m

-- what a judgement says of an outcome: 0 admitted, 1 with the lowest node that is not, 2 a fault
abbrev pub Judges : Recording → ℕ → Outcome → ℕ × ℕ → Type 0
Judges R p (a_tree nodes) j = ((j ≡ (0, 0)) × Admitted R p nodes) ⊎ ((j.0 ≡ 1) × Lowest R p nodes j.1)
Judges R p (a_fault fault) j = j ≡ (2, 0)

-- how the parts of a recording's meaning hang together
pub record Sound (base : Image) (outcome : Image → Outcome) (R : Recording) : Type 0 where
  pub exact : (p : ℕ) → p ≤ R.last → (image : Image) → Has (R.states p) image ↔ Permitted base R p image
  pub some : (p : ℕ) → p ≤ R.last → 0 < length (R.states p)
  pub judges : (p : ℕ) → p ≤ R.last → (image : Image) → Judges R p (outcome image) (R.judgement p image)

-- what load makes of a recording's bytes: it takes them with their meaning, or declines by number and place
pub data Loading : Type 0 where
  takes : Recording → Loading
  declines : ℕ → ℕ → Loading

pub record Subject : Type 0 where
  pub base : Image
  pub outcome : Image → Outcome
  pub loads : List ℕ → Loading
  pub sound : (bytes : List ℕ) (R : Recording) → loads bytes ≡ takes R → Sound base outcome R

-- how many states a point has
abbrev pub count : Recording → ℕ → ℕ
count R p = length (R.states p)

-- a state's image
abbrev pub image : Recording → State → Image
image R x = slice_index_or (R.states x.0) x.1 []

-- the first k states of the point p
abbrev pub ranks : ℕ → ℕ → List State
ranks p zero = []
ranks p (suc k) = ranks p k ++ (p, k) ∷ []

-- the states of the first p points
abbrev pub front : Recording → ℕ → List State
front R zero = []
front R (suc p) = front R p ++ ranks p (count R p)

-- THE LIST: points 0 to last, each with its states
abbrev pub list : Recording → List State
list R = front R (suc R.last)

-- no recording
abbrev pub nothing : Recording
nothing = record { last = 0; candidates = λ p n. []; values = λ p n. []; states = λ p. []; judgement = λ p i. (0, 0) }

abbrev pub meaning : Loading → Recording
meaning (takes R) = R
meaning (declines n p) = nothing
