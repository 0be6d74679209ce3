-- What a watcher is told.
use Rattle.std.specs.Prelude.{◌≡◌, ℕ, List, [], ◌∷◌, ◌++◌, Ok, Err, Result}
use Rattle.law.specs.Subject.{Subject, Recording, State, takes, list, image}
use Rattle.law.specs.History.{up_to}
use Rattle.judging.specs.declared.judgement.Judgement.{Judgement}
use Rattle.judging.specs.Codes.{code_of}

-- states, and what was found of each, the newest last
pub data Telling : Type 0 where
  quiet : Telling
  told : Telling → State → Judgement → Telling

abbrev pub states_told : Telling → List State
states_told quiet = []
states_told (told t x j) = states_told t ++ x ∷ []

-- of each state what the rules find of its image
abbrev pub Right : Recording → Telling → Type 0
Right R quiet = Unit {0}
Right R (told t x j) = Right R t × (code_of j ≡ R.judgement x.0 (image R x))

-- The watcher w has heard the telling, wanted to go on after each state, and has become w'.
abbrev pub Heard : {W E : Type 0} → (W → State → Judgement → Result (Unit {0}) E → W → Type 0) → W → Telling → W → Type 0
Heard hears w quiet w' = w' ≡ w
Heard {W} hears w (told t x j) w' = (m : W) × Heard hears w t m × hears m x j (Ok tt) w'

-- The watcher was told of every state of the list of the recording in these bytes, in order, each once, and of each what the
-- rules find of it.
pub record ToldAll {W E : Type 0} (hears : W → State → Judgement → Result (Unit {0}) E → W → Type 0) (s : Subject) (bytes : List ℕ) (w w' : W) : Type 0 where
  pub recording : Recording
  pub taken : s.loads bytes ≡ takes recording
  pub telling : Telling
  pub heard : Heard hears w telling w'
  pub states : states_told telling ≡ list recording
  pub right : Right recording telling

-- The watcher was told so up to a state, upon which it stopped.
pub record ToldUpTo {W E : Type 0} (hears : W → State → Judgement → Result (Unit {0}) E → W → Type 0) (s : Subject) (bytes : List ℕ) (w : W) (stop : E) (w' : W) : Type 0 where
  pub recording : Recording
  pub taken : s.loads bytes ≡ takes recording
  pub telling : Telling
  pub state : State
  pub found : Judgement
  pub watcher : W
  pub heard : Heard hears w telling watcher
  pub stopped : hears watcher state found (Err stop) w'
  pub states : states_told telling ++ state ∷ [] ≡ up_to state (list recording)
  pub right : Right recording (told telling state found)
