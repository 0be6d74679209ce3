-- Within its bounds no count is ever full, and each move is the law's.
use Rattle.std.specs.Prelude.{◌≡◌, ℕ, ◌+◌, ◌-◌, ◌*◌, ◌^◌, ◌<◌, ◌≤◌, Bool, true, false, cond, not, ◌&&◌, ◌==◌, refl, Option, Some, is_none}
use Rattle.std.proofs.Common.{ap, sym, ◌∙◌, arith}
use Rattle.std.proofs.lemmas.Bool.{ne_eqb}
use Rattle.image.specs.Sectors.{Image}
use Rattle.law.specs.Subject.{Recording, State, count}
use Rattle.law.specs.History as H
use Rattle.law.specs.Steps.{View, on_giving, on_end, on_judge, on_forgo}
use Rattle.progress.specs.declared.condition.Condition.{Condition}
use Rattle.progress.specs.declared.condition.Condition.TheVariants.{Empty, Ready, Waiting, Judged, Left, Ended}
use Rattle.progress.specs.declared.condition.Progress.{Progress}
use Rattle.progress.specs.Moves.{plus, begun, loaded, entered, stepped, ended, judged_as, rest_of, left}
use Rattle.progress.specs.Views.{condition_of, first_of, view_of}

-- how many states of the standing point may still be passed
abbrev pub ahead : Condition → (states rank : ℕ) → ℕ
ahead Empty states rank = 0
ahead Ready states rank = 0
ahead Waiting states rank = states - (rank + 1)
ahead Judged states rank = states - (rank + 1)
ahead Left states rank = 0
ahead Ended states rank = 0

-- how many states there are at most up to the standing point
abbrev pub ceiling : Condition → (point : ℕ) → ℕ
ceiling Empty point = 0
ceiling Ready point = 0
ceiling Waiting point = (point + 1) * 1048576
ceiling Judged point = (point + 1) * 1048576
ceiling Left point = (point + 1) * 1048576
ceiling Ended point = (point + 1) * 1048576

pub record Bounded (p : Progress) : Type 0 where
  pub sum : p.judged + p.forgone + H.waiting (condition_of p.condition) ≡ p.passed
  pub bad : p.unsafe_judged ≤ p.judged
  pub room : p.passed + ahead p.condition p.states p.rank ≤ ceiling p.condition p.point
  pub here : p.point ≤ p.last
  pub last : p.last ≤ 256
  pub states : p.states ≤ 1048576
  pub rank : p.rank ≤ 1048576

-- A first unsafe state is noted exactly if one was judged: every run from `begun` on has it, since `begun` does, and each
-- move keeps it. That the moves are the law's asks nothing of it.
abbrev pub Noted : Progress → Type 0
Noted p = is_none p.first ≡ (p.unsafe_judged == 0)

exact : (m n : ℕ) → m + n < 2 ^ 64 → plus m n ≡ m + n
exact m n h = omega arith

never_none : (n : ℕ) → (plus n 1 == 0) ≡ false
never_none n = ne_eqb (plus n 1) 0 (λ e. omega arith)

pub begun_noted : Noted begun
begun_noted = refl

-- the other moves leave both as they are
pub judged_noted : (bad : Bool) (p : Progress) → Noted p → Noted (judged_as bad p)
judged_noted bad p n = noted bad (p.unsafe_judged == 0) p.first n refl
  where
    noted : (bad y : Bool) (first : Option State) → is_none first ≡ y → y ≡ (p.unsafe_judged == 0) → is_none (cond (bad && y) (Some (p.point, p.rank)) first) ≡ (cond bad (plus p.unsafe_judged 1) p.unsafe_judged == 0)
    noted true true first e q = sym (never_none p.unsafe_judged)
    noted true false first e q = e ∙ sym (never_none p.unsafe_judged)
    noted false y first e q = e ∙ q

pub begun_bounded : Bounded begun
begun_bounded = record { sum = refl; bad = omega arith; room = omega arith; here = omega arith; last = omega arith; states = omega arith; rank = omega arith }

module _ (p : Progress) (b : Bounded p) where
  pub at_sum : (c : Condition) → p.condition ≡ c → p.judged + p.forgone + H.waiting (condition_of c) ≡ p.passed
  at_sum c e = rw e at b.sum

  pub at_room : (c : Condition) → p.condition ≡ c → p.passed + ahead c p.states p.rank ≤ ceiling c p.point
  at_room c e = rw e at b.room

  pub loaded_bounded : (last : ℕ) → p.condition ≡ Empty → p.point ≤ last → last ≤ 256 → Bounded (loaded last p)
  loaded_bounded last e l m = record { sum = at_sum Empty e; bad = b.bad; room = at_room Empty e; here = l; last = m; states = b.states; rank = b.rank }

  -- the first state of a point is given: of point 0 to a Ready run, of the next point in Judged and Left
  pub first_bounded : (states : ℕ) → p.condition ≡ Ready → p.point ≡ 0 → 0 < states → states ≤ 1048576 → Bounded (entered 0 states p)
  first_bounded states e z some few =
      let s = at_sum Ready e in
      let r = at_room Ready e in
      record { sum = omega arith; bad = b.bad; room = omega arith; here = omega arith; last = b.last; states = few; rank = omega arith }

  next_bounded : (states : ℕ) → p.judged + p.forgone ≡ p.passed → p.passed ≤ (p.point + 1) * 1048576 → p.point + 1 ≤ p.last → 0 < states → states ≤ 1048576 → Bounded (entered (p.point + 1) states p)
  next_bounded states s r l some few =
      let k : p.last ≤ 256 = b.last in
      record { sum = omega arith; bad = b.bad; room = omega arith; here = l; last = b.last; states = few; rank = omega arith }

  pub judged_bounded : (states : ℕ) → p.condition ≡ Judged → p.point + 1 ≤ p.last → 0 < states → states ≤ 1048576 → Bounded (entered (p.point + 1) states p)
  judged_bounded states e l some few =
      let s = at_sum Judged e in
      let r = at_room Judged e in
      next_bounded states (omega arith) (omega arith) l some few

  pub left_bounded : (states : ℕ) → p.condition ≡ Left → p.point + 1 ≤ p.last → 0 < states → states ≤ 1048576 → Bounded (entered (p.point + 1) states p)
  left_bounded states e l some few =
      let s = at_sum Left e in
      let r = at_room Left e in
      next_bounded states (omega arith) (omega arith) l some few

  pub stepped_bounded : p.condition ≡ Judged → p.rank + 1 < p.states → Bounded (stepped p)
  stepped_bounded e l =
      let s = at_sum Judged e in
      let r = at_room Judged e in
      let h = b.here in
      let k = b.last in
      let m = b.states in
      record { sum = omega arith; bad = b.bad; room = omega arith; here = h; last = k; states = m; rank = omega arith }

  pub ended_bounded : (c : Condition) → p.condition ≡ c → p.judged + p.forgone ≡ p.passed → p.passed ≤ (p.point + 1) * 1048576 → Bounded (ended p)
  ended_bounded c e s r = record { sum = omega arith; bad = b.bad; room = omega arith; here = b.here; last = b.last; states = b.states; rank = b.rank }

  pub judged_ended : p.condition ≡ Judged → Bounded (ended p)
  judged_ended e = let s = at_sum Judged e in let r = at_room Judged e in ended_bounded Judged e (omega arith) (omega arith)

  pub left_ended : p.condition ≡ Left → Bounded (ended p)
  left_ended e = let s = at_sum Left e in let r = at_room Left e in ended_bounded Left e (omega arith) (omega arith)

  -- no more states are passed than the points can have
  pub few : p.passed ≤ 269484032
  few = at_most p.condition b.room
    where
      at_most : (c : Condition) → p.passed + ahead c p.states p.rank ≤ ceiling c p.point → p.passed ≤ 269484032
      at_most Empty r = omega arith
      at_most Ready r = omega arith
      at_most Waiting r = let h = b.here in let k = b.last in omega arith
      at_most Judged r = let h = b.here in let k = b.last in omega arith
      at_most Left r = let h = b.here in let k = b.last in omega arith
      at_most Ended r = let h = b.here in let k = b.last in omega arith

  pub judged_as_bounded : (bad : Bool) → p.condition ≡ Waiting → Bounded (judged_as bad p)
  judged_as_bounded bad e =
      let s = at_sum Waiting e in
      let r = at_room Waiting e in
      let f = few in
      let u = b.bad in
      record { sum = omega arith; bad = less bad; room = r; here = b.here; last = b.last; states = b.states; rank = b.rank }
    where
      less : (bad : Bool) → cond bad (plus p.unsafe_judged 1) p.unsafe_judged ≤ plus p.judged 1
      less true = let u = b.bad in omega arith
      less false = let u = b.bad in let s = at_sum Waiting e in let f = few in omega arith

  pub waiting_left : p.condition ≡ Waiting → p.rank < p.states → Bounded (left 1 p)
  waiting_left e l =
      let s = at_sum Waiting e in
      let r = at_room Waiting e in
      let f = few in
      let m = b.states in
      let k = b.rank in
      record { sum = omega arith; bad = b.bad; room = omega arith; here = b.here; last = b.last; states = m; rank = k }

  pub judged_left : p.condition ≡ Judged → Bounded (left 0 p)
  judged_left e =
      let s = at_sum Judged e in
      let r = at_room Judged e in
      let f = few in
      let m = b.states in
      let k = b.rank in
      record { sum = omega arith; bad = b.bad; room = omega arith; here = b.here; last = b.last; states = m; rank = k }

  -- THE MOVES AS THE LAW SEES THEM.
  module _ (base : Image) (R : Recording) where
    pub enter_view : (q n : ℕ) → view_of base R (entered q n p) ≡ on_giving (q, 0) (view_of base R p)
    enter_view q n =
        let f = few in
        let e : plus p.passed 1 ≡ p.passed + 1 = omega arith in
        let F : ℕ → View = λ m. record { base = base; recording = R; condition = H.Waiting; standing = (q, 0); judged = p.judged; unsafe = p.unsafe_judged; forgone = p.forgone; passed = m; first = first_of p.first } in
        ap F e

    pub step_view : view_of base R (stepped p) ≡ on_giving (p.point, p.rank + 1) (view_of base R p)
    step_view =
        let f = few in
        let k = b.rank in
        let e : plus p.passed 1 ≡ p.passed + 1 = omega arith in
        let d : plus p.rank 1 ≡ p.rank + 1 = omega arith in
        let F : ℕ → ℕ → View = λ r m. record { base = base; recording = R; condition = H.Waiting; standing = (p.point, r); judged = p.judged; unsafe = p.unsafe_judged; forgone = p.forgone; passed = m; first = first_of p.first } in
        ap (λ r. F r (plus p.passed 1)) d ∙ ap (F (p.rank + 1)) e

    pub end_view : view_of base R (ended p) ≡ on_end (view_of base R p)
    end_view = refl

    pub judge_view : (o : ℕ) → view_of base R (judged_as (not (o == 0)) p) ≡ on_judge o (view_of base R p)
    judge_view o =
        let f = few in
        let s = b.sum in
        let u = b.bad in
        let e : plus p.judged 1 ≡ p.judged + 1 = omega arith in
        let d = bad_count (o == 0) in
        let g = first_is (o == 0) (p.unsafe_judged == 0) in
        let F : ℕ → ℕ → State → View = λ j n x. record { base = base; recording = R; condition = H.Judged; standing = (p.point, p.rank); judged = j; unsafe = n; forgone = p.forgone; passed = p.passed; first = x } in
        let n : ℕ = cond (not (o == 0)) (plus p.unsafe_judged 1) p.unsafe_judged in
        let x : State = first_of (cond (not (o == 0) && p.unsafe_judged == 0) (Some (p.point, p.rank)) p.first) in
        ap (λ j. F j n x) e ∙ ap (λ m. F (p.judged + 1) m x) d ∙ ap (F (p.judged + 1) (p.unsafe_judged + cond (o == 0) 0 1)) g
      where
        bad_count : (z : Bool) → cond (not z) (plus p.unsafe_judged 1) p.unsafe_judged ≡ p.unsafe_judged + cond z 0 1
        bad_count true = omega arith
        bad_count false = let f = few in let s = b.sum in let u = b.bad in omega arith

        first_is : (z y : Bool) → first_of (cond (not z && y) (Some (p.point, p.rank)) p.first) ≡ cond (y && not z) (p.point, p.rank) (first_of p.first)
        first_is true true = refl
        first_is true false = refl
        first_is false true = refl
        first_is false false = refl

    pub forgo_view : (w : ℕ) → w ≡ H.waiting (condition_of p.condition) → w ≤ 1 → p.passed + (p.states - (p.rank + 1)) ≤ 269484032 → count R p.point ≡ p.states → view_of base R (left w p) ≡ on_forgo (view_of base R p)
    forgo_view w e l room n =
        let f = few in
        let k = b.rank in
        let m = b.states in
        let s = b.sum in
        let rest : rest_of p ≡ count R p.point - (p.rank + 1) = omega arith in
        let a : plus p.forgone (plus (rest_of p) w) ≡ p.forgone + ((count R p.point - (p.rank + 1)) + H.waiting (condition_of p.condition)) = omega arith in
        let d : plus p.passed (rest_of p) ≡ p.passed + (count R p.point - (p.rank + 1)) = omega arith in
        let F : ℕ → ℕ → View = λ g q. record { base = base; recording = R; condition = H.Left; standing = (p.point, p.rank); judged = p.judged; unsafe = p.unsafe_judged; forgone = g; passed = q; first = first_of p.first } in
        ap (λ g. F g (plus p.passed (rest_of p))) a ∙ ap (F (p.forgone + ((count R p.point - (p.rank + 1)) + H.waiting (condition_of p.condition)))) d
