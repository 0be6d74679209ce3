-- The history of a run: the calls made, each with its answer, and what is read off it.
use Rattle.std.specs.Prelude.{ℕ, ◌+◌, ◌-◌, Bool, false, cond, not, ◌&&◌, ◌||◌, List, [], ◌∷◌, ◌++◌, filter, ◌==◌, nat_le, nat_lt}
use Rattle.image.specs.Sectors.{Sector}
use Rattle.law.specs.Subject.{Subject, Recording, State, count, list, nothing, meaning}

pub data Call : Type 0 where
  load : (bytes : List ℕ) → Call
  advance : Call
  judge : Call
  forgo : Call
  look : (sector size : ℕ) → Call
  report : Call

pub record Report : Type 0 where
  pub verdict : ℕ
  pub judged : ℕ
  pub unsafe : ℕ
  pub forgone : ℕ
  pub passed : ℕ
  pub first : State

-- A call with its answer: declined by number and place; a load that found no memory; or accepted, with what it answered.
pub data Event : Type 0 where
  declined : Call → (number place : ℕ) → Event
  starved : (bytes : List ℕ) → Event
  loaded : (bytes : List ℕ) → Event
  gave : State → Event
  ended : Event
  found : (outcome node : ℕ) → Event
  forwent : Event
  showed : (sector size : ℕ) (content : Sector) → Event
  reported : Report → Event

-- the newest last
pub data History : Type 0 where
  begun : History
  then : History → Event → History

pub data Condition : Type 0 where
  Empty : Condition
  Ready : Condition
  Waiting : Condition
  Judged : Condition
  Left : Condition
  Ended : Condition

-- by the last accepted load, advance, judge or forgo
abbrev pub condition : History → Condition
condition begun = Empty
condition (then h (declined call n p)) = condition h
condition (then h (starved bytes)) = condition h
condition (then h (loaded bytes)) = Ready
condition (then h (gave x)) = Waiting
condition (then h ended) = Ended
condition (then h (found o n)) = Judged
condition (then h forwent) = Left
condition (then h (showed n l content)) = condition h
condition (then h (reported r)) = condition h

-- by kind of event: an accepted load, an advance that gave a state, an accepted judge, an accepted forgo; and else
abbrev pub if_loaded : {A : Type 0} → Event → (List ℕ → A) → A → A
if_loaded (declined call n p) f a = a
if_loaded (starved bytes) f a = a
if_loaded (loaded bytes) f a = f bytes
if_loaded (gave x) f a = a
if_loaded ended f a = a
if_loaded (found o n) f a = a
if_loaded forwent f a = a
if_loaded (showed n l content) f a = a
if_loaded (reported r) f a = a

abbrev pub if_gave : {A : Type 0} → Event → (State → A) → A → A
if_gave (declined call n p) f a = a
if_gave (starved bytes) f a = a
if_gave (loaded bytes) f a = a
if_gave (gave x) f a = f x
if_gave ended f a = a
if_gave (found o n) f a = a
if_gave forwent f a = a
if_gave (showed n l content) f a = a
if_gave (reported r) f a = a

abbrev pub if_found : {A : Type 0} → Event → (ℕ → A) → A → A
if_found (declined call n p) f a = a
if_found (starved bytes) f a = a
if_found (loaded bytes) f a = a
if_found (gave x) f a = a
if_found ended f a = a
if_found (found o n) f a = f o
if_found forwent f a = a
if_found (showed n l content) f a = a
if_found (reported r) f a = a

abbrev pub if_forwent : {A : Type 0} → Event → A → A → A
if_forwent (declined call n p) b a = a
if_forwent (starved bytes) b a = a
if_forwent (loaded bytes) b a = a
if_forwent (gave x) b a = a
if_forwent ended b a = a
if_forwent (found o n) b a = a
if_forwent forwent b a = b
if_forwent (showed n l content) b a = a
if_forwent (reported r) b a = a

-- THE WORDS. What the recording that was loaded means.
abbrev pub recording : Subject → History → Recording
recording s begun = nothing
recording s (then h e) = if_loaded e (λ bytes. meaning (s.loads bytes)) (recording s h)

-- the states that advance gave
abbrev pub given : History → List State
given begun = []
given (then h e) = if_gave e (λ x. given h ++ x ∷ []) (given h)

-- the one that it gave last: while a state stands, that state
abbrev pub standing : History → State
standing begun = (0, 0)
standing (then h e) = if_gave e (λ x. x) (standing h)

-- accepted calls of judge
abbrev pub judged : History → ℕ
judged begun = 0
judged (then h e) = if_found e (λ o. judged h + 1) (judged h)

-- 1 for an outcome other than 0
abbrev pub bad : ℕ → ℕ
bad o = cond (o == 0) 0 1

-- outcomes other than 0 among them
abbrev pub unsafe : History → ℕ
unsafe begun = 0
unsafe (then h e) = if_found e (λ o. unsafe h + bad o) (unsafe h)

-- the first state judged unsafe
abbrev pub first : History → State
first begun = (0, 0)
first (then h e) = if_found e (λ o. cond (unsafe h == 0 && not (o == 0)) (standing h) (first h)) (first h)

abbrev pub waiting : Condition → ℕ
waiting Empty = 0
waiting Ready = 0
waiting Waiting = 1
waiting Judged = 0
waiting Left = 0
waiting Ended = 0

-- how many states its point has after x
abbrev pub rest : Recording → State → ℕ
rest R x = count R x.0 - (x.1 + 1)

-- the states that forgo counted: after the standing one, and that one too where it waited
abbrev pub forgone : Subject → History → ℕ
forgone s begun = 0
forgone s (then h e) = if_forwent e (forgone s h + (rest (recording s h) (standing h) + waiting (condition h))) (forgone s h)

-- y is a state of x's point after x
abbrev pub after : State → State → Bool
after x y = x.0 == y.0 && nat_lt x.1 y.1

-- some forgo counted y after the state standing then
abbrev pub skipped : History → State → Bool
skipped begun y = false
skipped (then h e) y = if_forwent e (skipped h y || after (standing h) y) (skipped h y)

-- a list up to and with x
abbrev pub up_to : State → List State → List State
up_to x [] = []
up_to x (y ∷ ys) = y ∷ cond (x.0 == y.0 && x.1 == y.1) [] (up_to x ys)

-- the states of a list in the points up to p
abbrev pub up_to_point : ℕ → List State → List State
up_to_point p ys = filter (λ y. nat_le y.0 p) ys

-- the states of the recording's list that are passed, in a condition, with x given last
abbrev pub passed_of : Recording → Condition → State → List State
passed_of R Empty x = []
passed_of R Ready x = []
passed_of R Waiting x = up_to x (list R)
passed_of R Judged x = up_to x (list R)
passed_of R Left x = up_to_point x.0 (list R)
passed_of R Ended x = list R

abbrev pub passed : Subject → History → List State
passed s h = passed_of (recording s h) (condition h) (standing h)
