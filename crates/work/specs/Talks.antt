-- What a caller said and heard.
use Rattle.std.specs.Prelude.{◌≡◌, ℕ, ◌+◌, ◌<◌, ◌⊎◌, Some, None, Option, Result}
use Rattle.law.specs.History.{History, then}
use Rattle.law.specs.Law.{call_of}
use Rattle.run.specs.declared.call.Call.{Call}
use Rattle.run.specs.declared.call.Answer.{Answer}
use Rattle.run.specs.declared.refusal.Refusal.{Refusal}
use Rattle.run.specs.Events.{call_seen, event_of}

-- the answer to a call
abbrev pub Reply : Type 0
Reply = Result Answer Refusal

-- calls with their answers, the newest last
pub data Talk : Type 0 where
  silent : Talk
  said : Talk → Call → Reply → Talk

-- how many calls there were
abbrev pub calls : Talk → ℕ
calls silent = 0
calls (said t call reply) = calls t + 1

-- the answer to the last one
abbrev pub last_of : Talk → Option Reply
last_of silent = None
last_of (said t call reply) = Some reply

-- a history, and then the talk
abbrev pub history_after : History → Talk → History
history_after h silent = h
history_after h (said t call reply) = then (history_after h t) (event_of (call_seen call) reply)

-- The caller c has chosen the calls of the talk upon the answers before, each was answered by an answer to it, and the caller has
-- become c'.
abbrev pub Spoken : {C : Type 0} → (C → Option Reply → Option Call → C → Type 0) → C → Talk → C → Type 0
Spoken says c silent c' = c' ≡ c
Spoken {C} says c (said t call reply) c' = (m : C) × Spoken says c t m × says m (last_of t) (Some call) c' × (call_of (event_of (call_seen call) reply) ≡ call_seen call)

-- how a talk ends: so many calls are made, and the caller is asked for no more; or it is asked before, and has no more
abbrev pub Stops : {C : Type 0} → (C → Option Reply → Option Call → C → Type 0) → C → (budget : ℕ) → Talk → C → Type 0
Stops {C} says c budget t c' = ((calls t ≡ budget) × Spoken says c t c') ⊎ ((m : C) × (calls t < budget) × Spoken says c t m × says m (last_of t) None c')
