-- What carrying a transaction out does to each sector.
use Rattle.std.proofs.Common.{◌≡◌, ℕ, zero, suc, ◌+◌, ◌*◌, ◌%◌, ◌^◌, ◌<◌, ◌≤◌, cond, ◌≢◌, length, get_or, set, sym, refl, ap, ◌∙◌, inl, inr, arith}
use Rattle.std.proofs.lemmas.List.{length-set, get_or-set_same, get_or-set_other}
use Rattle.std.proofs.lemmas.Bool.{cases_eq, cases_Bool}
use Rattle.image.specs.Sectors.{Image, Shaped}
use Rattle.filesystem.specs.Words.{word_at}
use Rattle.journalled.specs.Journal.{sequence_of, size_of, stands, copied, advanced, replayed, recovered}
use Rattle.journalled.specs.Puts.{put_same, put_other}
use Rattle.journalled.specs.Transactions.{Transaction, Carried, home}
use Rattle.journalled.specs.Copies.{length_copied}
use Rattle.image.specs.Fetched.{blank, sector_of, sector_long}
use Rattle.journalled.proofs.Recovers.{none_stands}
use Rattle.journalled.proofs.Standing.{from_test, from_transaction, the_size}

pub untouched : (im : Image) → ((k : ℕ) → Transaction im k → ⊥) → recovered im ≡ im
untouched im none = elim (cases_Bool (stands im)) [
  | inl t ↦ absurd (none (size_of im) (from_test im t))
  | inr f ↦ sym (none_stands im f)
]

copied_other : (im : Image) (m n : ℕ) → ((i : ℕ) → i < m → n ≢ home im i) → sector_of (copied im m) n ≡ sector_of im n
unfolding copied
copied_other im zero n ne = refl
copied_other im (suc m) n ne =
    get_or-set_other (copied im m) (home im m) n (sector_of im (3 + m)) blank (ne m (omega arith))
    ∙ copied_other im m n (λ i l. ne i (omega arith))

module _ (im : Image) (shaped : Shaped im) (room : 16 ≤ length im) (k : ℕ) (t : Transaction im k) where
  replays : recovered im ≡ set (copied im k) 0 (advanced (sector_of im 0))
  unfolding recovered
  replays = ap (λ b. cond b (replayed im) im) (from_transaction im k t) ∙ ap (λ n. set (copied im n) 0 (advanced (sector_of im 0))) (the_size im k t)

  inside : (i : ℕ) → i < k → home im i < length im
  inside i l = elim (t.placed i l) [ inl e ↦ omega arith | inr h ↦ h.1 ]

  -- a home is neither sector 0 nor one of the journal
  pub away : (n i : ℕ) → i < k → n ≢ 1 → n < 10 → n ≢ home im i
  away n i l ne h = elim (t.placed i l) [ inl e ↦ (λ q. ne (q ∙ e)) | inr b ↦ let low = b.0 in (λ q. omega (arith, low, q)) ]

  copied_home : (m i : ℕ) → m ≤ k → i < m → sector_of (copied im m) (home im i) ≡ sector_of im (3 + i)
  unfolding copied
  copied_home zero i b l = absurd (omega arith)
  copied_home (suc m) i b l = elim (cases_eq i m) [
    | inl e ↦
        ap (λ j. get_or (set (copied im m) (home im m) (sector_of im (3 + m))) (home im j) blank) e
        ∙ get_or-set_same (copied im m) (home im m) (sector_of im (3 + m)) blank (rw length_copied (inside m (omega arith)))
        ∙ ap (λ j. sector_of im (3 + j)) (sym e)
    | inr ne ↦
        get_or-set_other (copied im m) (home im m) (home im i) (sector_of im (3 + m)) blank (t.apart m i (omega arith) (omega arith))
        ∙ copied_home m i (omega arith) (omega arith)
  ]

  past_0 : (n : ℕ) → n ≢ 0 → sector_of (recovered im) n ≡ sector_of (copied im k) n
  past_0 n ne = ap (λ x. sector_of x n) replays ∙ get_or-set_other (copied im k) 0 n (advanced (sector_of im 0)) blank ne

  head : sector_of (recovered im) 0 ≡ advanced (sector_of im 0)
  head =
      let len : length (copied im k) ≡ length im = length_copied im k in
      ap (λ x. sector_of x 0) replays ∙ get_or-set_same (copied im k) 0 (advanced (sector_of im 0)) blank (omega arith)

  pub carried : Carried im (recovered im) k
  carried = record {
    count = ap length replays ∙ length-set (copied im k) 0 (advanced (sector_of im 0)) ∙ length_copied im k;
    homes = λ i l. past_0 (home im i) (λ e. away 0 i l (λ q. omega arith) (omega arith) (sym e)) ∙ copied_home k i (omega arith) l;
    others = λ n ne apart. past_0 n ne ∙ copied_other im k n apart;
    sequence = ap (λ s. word_at s 2) head ∙ put_same (sector_of im 0) 2 (3 * 2 ^ 30 + (sequence_of im + 1) % 2 ^ 30) (sector_long im 0 shaped) (omega arith) (omega arith);
    words = λ i ne. ap (λ s. word_at s i) head ∙ put_other (sector_of im 0) 2 i (3 * 2 ^ 30 + (sequence_of im + 1) % 2 ^ 30) ne;
  }
