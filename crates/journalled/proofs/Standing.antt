-- The test of a transaction, both ways.
use Rattle.std.proofs.Common.{◌≡◌, ℕ, ◌<◌, true, not, ◌&&◌, eqb, length, ap, ◌∙◌, arith}
use Rattle.std.proofs.lemmas.Bool.{and_parts, and_from}
use Rattle.std.proofs.lemmas.Bool.Decides.{nat_tests}
use Rattle.image.specs.Sectors.{Image}
use Rattle.journalled.specs.Below.{every_at, every_all}
use Rattle.journalled.specs.Journal.{sequence_of, size_of, home_in, home_stands, apart, homes_stand, describes, descriptor, commits, stands}
use Rattle.journalled.specs.Transactions.{Transaction, Tested}

module _ (im : Image) (h : stands im ≡ true) where
  both : (describes (sequence_of im) (length im) (descriptor im) ≡ true) × (commits (sequence_of im) im (size_of im) ≡ true)
  both = and_parts (describes (sequence_of im) (length im) (descriptor im)) (commits (sequence_of im) im (size_of im)) h

  pub from_test : Transaction im (size_of im)
  unfolding describes commits
  from_test =
      let s = sequence_of im in
      let e = descriptor im in
      let k = size_of im in
      let at : (i : ℕ) → i < k → (home_stands (length im) e i && apart e i) ≡ true = λ i l. every_at (λ i. home_stands (length im) e i && apart e i) k i (grind (arith, nat_tests)) l in
      record {
        some = grind (arith, nat_tests);
        few = grind (arith, nat_tests);
        begun = grind (arith, nat_tests);
        sized = grind (arith, nat_tests);
        named = λ i l. let a = at i l in grind (arith, nat_tests);
        placed = λ i l. let a = at i l in grind (arith, nat_tests);
        apart = λ i j l m. let b = every_at (λ j. not (eqb (home_in e j) (home_in e i))) i j (let a = at i l in grind (arith, nat_tests)) m in grind (arith, nat_tests);
        committed = grind (arith, nat_tests);
        summed = grind (arith, nat_tests);
      }

module _ (im : Image) (k : ℕ) (t : Transaction im k) where
  pub the_size : size_of im ≡ k
  the_size = let z = t.sized in let f = t.few in omega arith

  pub from_transaction : stands im ≡ true
  unfolding describes commits
  from_transaction =
      let e = descriptor im in
      let n = size_of im in
      let size : n ≡ k = the_size in
      let each : (i : ℕ) → i < n → (home_stands (length im) e i && apart e i) ≡ true
      = λ i l.
      let m : i < k = omega (arith, the_size) in
      let named = t.named i m in
      let placed = t.placed i m in
      let differ : apart e i ≡ true = every_all (λ j. not (eqb (home_in e j) (home_in e i))) i (λ j l'. let ne = t.apart i j m l' in grind (arith, nat_tests)) in
      grind (arith, nat_tests) in
      let all : homes_stand (length im) e n ≡ true = every_all (λ i. home_stands (length im) e i && apart e i) n each in
      let described : describes (sequence_of im) (length im) e ≡ true = let some = t.some in let few = t.few in let begun = t.begun in let sized = t.sized in grind (arith, nat_tests) in
      let committed : commits (sequence_of im) im k ≡ true = let begun = t.committed in let summed = t.summed in grind (arith, nat_tests) in
      and_from (describes (sequence_of im) (length im) e) (commits (sequence_of im) im n) described (ap (commits (sequence_of im) im) size ∙ committed)

pub tested : Tested
tested im = ((λ h. (size_of im, from_test im h)), (λ p. from_transaction im p.0 p.1))
