-- One call of a run: what it answers, and what the run is then.
use Rattle.std.specs.Prelude.{◌≡◌, ℕ, ◌+◌, cond, not, ◌&&◌, List, [], Some, None, Option, ◌==◌, nat_le, nat_lt, slice_index_or}
use Rattle.image.specs.Sectors.{Image}
use Rattle.law.specs.Subject.{Subject, Recording, State, count, image, nothing, meaning}
use Rattle.law.specs.History.{Call, load, advance, judge, forgo, look, Report, Event, declined, starved, loaded, gave, ended, found, forwent, showed, reported, History, begun, then, Condition, Empty, Ready, Waiting, Judged, Left, Ended, waiting, bad, rest}
use Rattle.law.specs.Rules.{refusal, none, Late, verdict_of}

-- A run as it is seen from outside.
pub record View : Type 0 where
  pub base : Image
  pub recording : Recording
  pub condition : Condition
  pub standing : State
  pub judged : ℕ
  pub unsafe : ℕ
  pub forgone : ℕ
  pub passed : ℕ
  pub first : State

-- the first state of the point p, if there is such a point
abbrev pub enter : (last p : ℕ) → Option State
enter last p = cond (nat_le p last) (Some (p, 0)) None

-- the state of the list after x, whose point has so many states
abbrev pub following : (last states : ℕ) → State → Option State
following last states x = cond (nat_lt (x.1 + 1) states) (Some (x.0, x.1 + 1)) (enter last (x.0 + 1))

-- the state that an advance gives
abbrev pub next : Recording → Condition → State → Option State
next R Empty x = None
next R Ready x = enter R.last 0
next R Waiting x = None
next R Judged x = following R.last (count R x.0) x
next R Left x = enter R.last (x.0 + 1)
next R Ended x = None

abbrev pub report_on : View → Report
report_on v = record { verdict = verdict_of v.condition v.unsafe v.forgone; judged = v.judged; unsafe = v.unsafe; forgone = v.forgone; passed = v.passed; first = v.first }

-- the run after an accepted call
abbrev pub on_load : Subject → List ℕ → View → View
on_load s bytes v = record { base = v.base; recording = meaning (s.loads bytes); condition = Ready; standing = v.standing; judged = v.judged; unsafe = v.unsafe; forgone = v.forgone; passed = v.passed; first = v.first }

abbrev pub on_giving : State → View → View
on_giving x v = record { base = v.base; recording = v.recording; condition = Waiting; standing = x; judged = v.judged; unsafe = v.unsafe; forgone = v.forgone; passed = v.passed + 1; first = v.first }

abbrev pub on_end : View → View
on_end v = record { base = v.base; recording = v.recording; condition = Ended; standing = v.standing; judged = v.judged; unsafe = v.unsafe; forgone = v.forgone; passed = v.passed; first = v.first }

abbrev pub on_judge : ℕ → View → View
on_judge o v = record { base = v.base; recording = v.recording; condition = Judged; standing = v.standing; judged = v.judged + 1; unsafe = v.unsafe + bad o; forgone = v.forgone; passed = v.passed; first = cond (v.unsafe == 0 && not (o == 0)) v.standing v.first }

abbrev pub on_forgo : View → View
on_forgo v = record { base = v.base; recording = v.recording; condition = Left; standing = v.standing; judged = v.judged; unsafe = v.unsafe; forgone = v.forgone + (rest v.recording v.standing + waiting v.condition); passed = v.passed + rest v.recording v.standing; first = v.first }

-- in the run v the call is accepted
abbrev pub Accepts : Subject → View → Call → Type 0
Accepts s v call = refusal s v.condition call ≡ none

abbrev pub Step : Subject → View → Event → View → Type 0
Step s v (declined call n p) v' = (refusal s v.condition call ≡ Some (n, p)) × (v' ≡ v)
Step s v (starved bytes) v' = (v.condition ≡ Empty) × Late (s.loads bytes) × (v' ≡ v)
Step s v (loaded bytes) v' = Accepts s v (load bytes) × (v' ≡ on_load s bytes v)
Step s v (gave x) v' = Accepts s v advance × (next v.recording v.condition v.standing ≡ Some x) × (v' ≡ on_giving x v)
Step s v ended v' = Accepts s v advance × (next v.recording v.condition v.standing ≡ None) × (v' ≡ on_end v)
Step s v (found o n) v' = Accepts s v judge × ((o, n) ≡ v.recording.judgement v.standing.0 (image v.recording v.standing)) × (v' ≡ on_judge o v)
Step s v forwent v' = Accepts s v forgo × (v' ≡ on_forgo v)
Step s v (showed sector size content) v' = Accepts s v (look sector size) × (content ≡ slice_index_or (image v.recording v.standing) sector []) × (v' ≡ v)
Step s v (reported r) v' = (r ≡ report_on v) × (v' ≡ v)

-- a run that has just begun over the subject's base
abbrev pub fresh : Subject → View
fresh s = record { base = s.base; recording = nothing; condition = Empty; standing = (0, 0); judged = 0; unsafe = 0; forgone = 0; passed = 0; first = (0, 0) }

-- a run over s has come to be v by the history h
abbrev pub Reached : Subject → History → View → Type 0
Reached s begun v = v ≡ fresh s
Reached s (then h e) v = (m : View) × Reached s h m × Step s m e v
