-- What is so of a search that came to its end.
use Rattle.std.specs.Prelude.{◌≡◌, ℕ, ◌↔◌, List, length}
use Rattle.law.specs.Subject.{Subject, Recording, takes, list}
use Rattle.law.specs.History.{Report}
use Rattle.law.specs.Law.{AllRecover, FirstUnsafe, unsafe_among}

-- THE SEARCH of the recording in these bytes is whole. It was taken; every state of its list is judged, and none forgone; as
-- many are counted unsafe as have a judgement other than 0; the report says safe exactly where every permitted state of every
-- crash point recovers to a tree admitted there, and then names no state; else it says unsafe, and names the first state of
-- the list that does not.
pub record Exhausted (s : Subject) (bytes : List ℕ) (r : Report) : Type 0 where
  pub recording : Recording
  pub taken : s.loads bytes ≡ takes recording
  pub judged : r.judged ≡ length (list recording)
  pub passed : r.passed ≡ length (list recording)
  pub none_forgone : r.forgone ≡ 0
  pub unsafe : r.unsafe ≡ length (unsafe_among recording (list recording))
  pub safe : (r.verdict ≡ 2) ↔ AllRecover s recording
  pub names_none : r.verdict ≡ 2 → r.first ≡ (0, 0)
  pub names : (r.verdict ≡ 2 → ⊥) → (r.verdict ≡ 3) × FirstUnsafe s recording r.first
