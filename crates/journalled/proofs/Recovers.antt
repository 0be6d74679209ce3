-- The whole recovery, by whether a transaction stands.
use Rattle.std.proofs.Common.{◌≡◌, ℕ, ◌≤◌, true, false, cond, ◌&&◌, List, length, set, sym, ap, ◌∙◌, arith}
use Rattle.journalled.proofs.Naming.{many}
use Rattle.image.specs.Sectors.{Image, Sector}
use Rattle.journalled.specs.Journal.{sequence_of, size_in, homes_in, descriptor, describes, commits, size_of, stands, copied, advanced, replayed, recovered}
use Rattle.image.specs.Fetched.{sector_of}
use Rattle.journalled.specs.Copies.{copied_kept}

pub none_stands : (im : Image) → stands im ≡ false → im ≡ recovered im
unfolding recovered
none_stands im f = sym (ap (λ b. cond b (replayed im) im) f)

-- a described transaction stands where it is committed
pub described_stands : (im : Image) (s n : ℕ) (d : Sector) (homes : List ℕ) → s ≡ sequence_of im → n ≡ length im → d ≡ descriptor im → describes s n d ≡ true
    → homes ≡ homes_in d → commits s im (length homes) ≡ stands im
described_stands im s n d homes es en ed t eh =
    let size : length homes ≡ size_of im = many d homes eh ∙ ap size_in ed in
    ap (λ x. commits x im (length homes)) es ∙ ap (commits (sequence_of im) im) size
    ∙ sym (ap (λ b. b && commits (sequence_of im) im (size_of im))
    (sym (ap (λ x. describes x n d) es ∙ ap (λ x. describes (sequence_of im) x d) en ∙ ap (describes (sequence_of im) (length im)) ed) ∙ t))

pub carried : (im : Image) → 16 ≤ length im → stands im ≡ true → set (copied im (size_of im)) 0 (advanced (sector_of (copied im (size_of im)) 0)) ≡ recovered im
unfolding recovered
carried im room stood =
    ap (λ h. set (copied im (size_of im)) 0 (advanced h)) (copied_kept im room stood (size_of im) 0 (omega arith) (λ q. omega arith) (omega arith))
    ∙ sym (ap (λ b. cond b (replayed im) im) stood)
