-- THE LAW of a history and of the base image after it.
use Rattle.std.specs.Prelude.{◌≡◌, ℕ, ◌+◌, ◌<◌, ◌≤◌, not, ◌⊎◌, ◌↔◌, List, [], ◌∷◌, length, Some, filter, ◌==◌, ◌≢◌, slice_index_or}
use Rattle.std.specs.List.{AllByRecursion}
use Rattle.image.specs.Sectors.{Sector, Image}
use Rattle.law.specs.Subject.{Subject, Recording, State, Permitted, Admits, takes, count, image}
use Rattle.law.specs.History.{Call, load, advance, judge, forgo, look, report, Report, Event, declined, starved, loaded, gave, ended, found, forwent, showed, reported, History, begun, then, Empty, Ended, condition, recording, given, standing, judged, unsafe, first, waiting, forgone, skipped, passed}
use Rattle.law.specs.Rules.{Refusal, none, refusal, Late, verdict_of}
use Rattle.law.specs.Steps.{View, Step, Reached}

-- the history h has the event e, made upon the history k
abbrev pub Made : History → History → Event → Type 0
Made begun k e = ⊥
Made (then h f) k e = ((k ≡ h) × (e ≡ f)) ⊎ Made h k e

abbrev pub call_of : Event → Call
call_of (declined call n p) = call
call_of (starved bytes) = load bytes
call_of (loaded bytes) = load bytes
call_of (gave x) = advance
call_of ended = advance
call_of (found o n) = judge
call_of forwent = forgo
call_of (showed sector size content) = look sector size
call_of (reported r) = report

abbrev pub declined_by : Event → Refusal
declined_by (declined call n p) = Some (n, p)
declined_by (starved bytes) = none
declined_by (loaded bytes) = none
declined_by (gave x) = none
declined_by ended = none
declined_by (found o n) = none
declined_by forwent = none
declined_by (showed sector size content) = none
declined_by (reported r) = none

-- the answer is another than that memory was wanting
abbrev pub Fed : Event → Type 0
Fed (declined call n p) = Unit {0}
Fed (starved bytes) = ⊥
Fed (loaded bytes) = Unit {0}
Fed (gave x) = Unit {0}
Fed ended = Unit {0}
Fed (found o n) = Unit {0}
Fed forwent = Unit {0}
Fed (showed sector size content) = Unit {0}
Fed (reported r) = Unit {0}

-- the rules settle whether the call is declined: memory was wanting at most where they take the recording
abbrev pub Settled : Subject → Event → Type 0
Settled s (declined call n p) = Unit {0}
Settled s (starved bytes) = (R : Recording) × (s.loads bytes ≡ takes R)
Settled s (loaded bytes) = Unit {0}
Settled s (gave x) = Unit {0}
Settled s ended = Unit {0}
Settled s (found o n) = Unit {0}
Settled s forwent = Unit {0}
Settled s (showed sector size content) = Unit {0}
Settled s (reported r) = Unit {0}

-- no state twice
abbrev pub Once : List State → Type 0
Once [] = Unit {0}
Once (x ∷ xs) = AllByRecursion (λ y. y ≢ x) xs × Once xs

-- the image of the state that stands
abbrev pub standing_image : Subject → History → Image
standing_image s h = image (recording s h) (standing h)

-- outcome number and node of the state that stands
abbrev pub judgement_of : Subject → History → ℕ × ℕ
judgement_of s h = (recording s h).judgement (standing h).0 (standing_image s h)

-- the report as the rules work it out from the calls made
abbrev pub report_of : Subject → History → Report
report_of s h = record { verdict = verdict_of (condition h) (unsafe h) (forgone s h); judged = judged h; unsafe = unsafe h; forgone = forgone s h; passed = length (passed s h); first = first h }

-- the states among these whose judgement is another than 0
abbrev pub unsafe_among : Recording → List State → List State
unsafe_among R xs = filter (λ x. not ((R.judgement x.0 (image R x)).0 == 0)) xs

-- every permitted state of every crash point recovers to a tree admitted at that point
abbrev pub AllRecover : Subject → Recording → Type 0
AllRecover s R = (p : ℕ) → p ≤ R.last → (image : Image) → Permitted s.base R p image → Admits R p (s.outcome image)

-- what the verdict safe stands for
pub record Safe (s : Subject) (h : History) : Type 0 where
  pub ended : condition h ≡ Ended
  pub none_forgone : forgone s h ≡ 0
  pub recover : AllRecover s (recording s h)

pub record Law (s : Subject) (h : History) (base : Image) : Type 0 where
  pub base_kept : base ≡ s.base
  -- each call was declined exactly where the rules say, by that number and place; and memory was wanting to a load of an
  -- Empty run only, of a recording that 3 to 6 do not decline
  pub declined_exactly : (k : History) (e : Event) → Made h k e → Settled s e → declined_by e ≡ refusal s (condition k) (call_of e)
  pub starved_empty : (k : History) (bytes : List ℕ) → Made h k (starved bytes) → condition k ≡ Empty
  pub starved_late : (k : History) (bytes : List ℕ) → Made h k (starved bytes) → Late (s.loads bytes)
  pub given_in_order : given h ≡ filter (λ y. not (skipped h y)) (passed s h)
  pub given_once : Once (given h)
  pub looks_show : (k : History) (sector size : ℕ) (content : Sector) → Made h k (showed sector size content) → content ≡ slice_index_or (standing_image s k) sector []
  pub judges_answer : (k : History) (o n : ℕ) → Made h k (found o n) → (o, n) ≡ judgement_of s k
  pub adds_up : judged h + forgone s h + waiting (condition h) ≡ length (passed s h)
  pub reports_figures : (k : History) (r : Report) → Made h k (reported r) → r ≡ report_of s k
  pub safe_exactly : (k : History) (r : Report) → Made h k (reported r) → (r.verdict ≡ 2) ↔ Safe s k

-- Every history by which a run can come about keeps the law, and its base image is the subject's.
abbrev pub EveryHistoryIsLawful : Type 0
EveryHistoryIsLawful = (s : Subject) (h : History) (v : View) → Reached s h v → Law s h v.base

-- the state recovers to a tree admitted at its point
abbrev pub Recovers : Subject → Recording → State → Type 0
Recovers s R x = Admits R x.0 (s.outcome (image R x))

-- x comes before y in the list
abbrev pub Earlier : State → State → Type 0
Earlier x y = (x.0 < y.0) ⊎ ((x.0 ≡ y.0) × (x.1 < y.1))

-- x is the first state of the list that does not recover to an admitted tree
pub record FirstUnsafe (s : Subject) (R : Recording) (x : State) : Type 0 where
  pub point : x.0 ≤ R.last
  pub rank : x.1 < count R x.0
  pub unsafe : Recovers s R x → ⊥
  pub first : (y : State) → Earlier y x → y.1 < count R y.0 → Recovers s R y

-- Where nothing was forgone, the state that a history names is the first of the list that is unsafe.
abbrev pub FirstIsFirst : Type 0
FirstIsFirst = (s : Subject) (h : History) (v : View) → Reached s h v → forgone s h ≡ 0 → 0 < unsafe h → FirstUnsafe s (recording s h) (first h)

-- THE LAW LEAVES NOTHING OPEN but a want of memory: where two answers to one call keep it, they are the same.
abbrev pub TheLawDecides : Type 0
TheLawDecides = (s : Subject) (h : History) (e f : Event) (b c : Image) → Law s (then h e) b → Law s (then h f) c → call_of e ≡ call_of f → Fed e → Fed f → e ≡ f

-- and every call has an answer
abbrev pub EveryCallIsAnswered : Type 0
EveryCallIsAnswered = (s : Subject) (v : View) (call : Call) → (e : Event) × (w : View) × (call_of e ≡ call) × Fed e × Step s v e w

-- and some run that gives a state is reported safe
abbrev pub SomeRunIsSafe : Type 0
SomeRunIsSafe = (s : Subject) × (h : History) × (v : View) × (r : Report) × Reached s (then h (reported r)) v × (given h ≡ (0, 0) ∷ []) × (r.verdict ≡ 2)
