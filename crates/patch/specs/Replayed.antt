-- A whole recording replayed onto an image.
use Rattle.std.specs.Prelude.{ℕ, ◌+◌, List, [], ◌∷◌, length, Some, None, Ok, Err, Option, Result}
use Rattle.std.specs.List.{position}
use Rattle.std.specs.Option.{option_map}
use Rattle.image.specs.Sectors.{Image}
use Rattle.recording.specs.declared.refusal.Refusal.{Refusal}
use Rattle.recording.specs.Refusals as R
use Rattle.recording.specs.Items.{Item}
use Rattle.recording.specs.Writes.{outside}
use Rattle.patch.specs.declared.declined.Declined.{Declined}
use Rattle.patch.specs.declared.declined.Declined.TheVariants.{Recording, OutsideImage}
use Rattle.patch.specs.Patched.{applied}

-- the number and the place of a refusal
abbrev pub code_of : Declined → ℕ × ℕ
code_of (Recording f) = R.code_of f
code_of (OutsideImage entry) = (9, entry)

-- the number of the first entry that touches a sector outside an image of `count` sectors; the first of all is entry 1
abbrev pub first_outside : (count : ℕ) → List Item → Option ℕ
first_outside count es = option_map (λ i. i + 1) (position (λ e. outside e count) es)

-- all entries applied, in order
abbrev pub applied_all : List Item → Image → Image
applied_all [] image = image
applied_all (e ∷ es) image = applied_all es (applied e image)

-- what is answered to entries, if the first that lies outside is known
abbrev pub unless_outside : Option ℕ → ℕ → Result ℕ Declined
unless_outside None n = Ok n
unless_outside (Some k) n = Err (OutsideImage k)

-- what is answered to a recording's meaning: it is declined as such, else for its first entry outside, else replayed
abbrev pub replay_answer : Result (List Item) Refusal → (count : ℕ) → Result ℕ Declined
replay_answer (Err f) count = Err (Recording f)
replay_answer (Ok es) count = unless_outside (first_outside count es) (length es)
