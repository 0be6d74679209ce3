-- What is so of the first state of a recording.
use Rattle.std.specs.Prelude.{◌≡◌, ℕ, List, [], slice_index_or}
use Rattle.image.specs.Sectors.{Sector}
use Rattle.law.specs.Subject.{Subject, Recording, takes, image}
use Rattle.law.specs.History.{Report, bad}

-- THE FIRST STATE of the recording in these bytes, which was taken: this is its judgement, and this its sector; the report
-- counts it, as unsafe where it is, and says safe of no recording.
pub record FirstState (s : Subject) (bytes : List ℕ) (sector : ℕ) (judgement : ℕ × ℕ) (content : Sector) (r : Report) : Type 0 where
  pub recording : Recording
  pub taken : s.loads bytes ≡ takes recording
  pub judges : judgement ≡ recording.judgement 0 (image recording (0, 0))
  pub shows : content ≡ slice_index_or (image recording (0, 0)) sector []
  pub judged : r.judged ≡ 1
  pub unsafe : r.unsafe ≡ bad judgement.0
  pub forgone : r.forgone ≡ 0
  pub passed : r.passed ≡ 1
  pub never_safe : r.verdict ≡ 2 → ⊥
