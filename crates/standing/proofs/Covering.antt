-- Sectors put onto an image, one after the other.
use Rattle.std.proofs.Common.{◌≡◌, ℕ, ◌+◌, ◌<◌, ◌≤◌, Bool, true, false, cond, eqb, ◌≢◌, [], length, get_or, set, sym, refl, ap, ◌∙◌, inl, inr, arith}
use Rattle.std.proofs.lemmas.List.{length-set, get_or-set_same, get_or-set_other}
use Rattle.std.proofs.lemmas.Bool.{cases_lt, cases_Bool, eq-eqb}
use Rattle.image.specs.Sectors.{Sector, Image}
use Rattle.standing.specs.Places.{replaced, Put}

length_replaced : (image : Image) (i : ℕ) (x : Sector) → length (replaced image i x) ≡ length image
length_replaced image i x = go (eqb (length x) 512)
  where
    go : (b : Bool) → length (cond b (set image i x) image) ≡ length image
    go true = length-set image i x
    go false = refl

replaced_other : (image : Image) (i s : ℕ) (x : Sector) → s ≢ i → get_or (replaced image i x) s [] ≡ get_or image s []
replaced_other image i s x h = go (eqb (length x) 512)
  where
    go : (b : Bool) → get_or (cond b (set image i x) image) s [] ≡ get_or image s []
    go true = get_or-set_other image i s x [] h
    go false = refl

replaced_same : (image : Image) (i : ℕ) (x : Sector) → i < length image → length x ≡ 512 → get_or (replaced image i x) i [] ≡ x
replaced_same image i x l e = ap (λ (b : Bool). get_or (cond b (set image i x) image) i []) (eq-eqb (length x) 512 e) ∙ get_or-set_same image i x [] l

module _ (due : ℕ → Bool) (content : ℕ → Sector) (from : ℕ) (before : Image) where
  pub put_none : Put due content from from before before
  put_none =
      record {
        size = refl;
        done = λ s a b. absurd (omega arith);
        undue = λ s h. refl;
        low = λ s h. refl;
        high = λ s h. refl;
      }

  module _ (i : ℕ) (mid after : Image) (at : from ≤ i) (h : Put due content from i before mid) (e : after ≡ cond (due i) (replaced mid i (content i)) mid) where
    put_due : due i ≡ true → after ≡ replaced mid i (content i)
    put_due d = e ∙ ap (λ (b : Bool). cond b (replaced mid i (content i)) mid) d

    put_not : due i ≡ false → after ≡ mid
    put_not d = e ∙ ap (λ (b : Bool). cond b (replaced mid i (content i)) mid) d

    put_size : length after ≡ length mid
    put_size = elim (cases_Bool (due i)) [
      | inl d ↦ ap length (put_due d) ∙ length_replaced mid i (content i)
      | inr d ↦ ap length (put_not d)
    ]

    put_other : (s : ℕ) → s ≢ i → get_or after s [] ≡ get_or mid s []
    put_other s n = elim (cases_Bool (due i)) [
      | inl d ↦ ap (λ (l : Image). get_or l s []) (put_due d) ∙ replaced_other mid i s (content i) n
      | inr d ↦ ap (λ (l : Image). get_or l s []) (put_not d)
    ]

    put_done : (s : ℕ) → from ≤ s → s < i + 1 → s < length before → due s ≡ true → length (content s) ≡ 512 → get_or after s [] ≡ content s
    put_done s a b l d w = elim (cases_lt s i) [
      | inl c ↦ put_other s (λ q. omega arith) ∙ h.done s a c l d w
      | inr c ↦
          let q : i ≡ s = omega arith in
          let size = h.size in
          ap (λ (l : Image). get_or l s []) (put_due (ap due q ∙ d))
          ∙ ap (λ (k : ℕ). get_or (replaced mid k (content k)) s []) q
          ∙ replaced_same mid s (content s) (omega arith) w
    ]

    put_undue : (s : ℕ) → due s ≡ false → get_or after s [] ≡ get_or before s []
    put_undue s d = elim (cases_Bool (due i)) [
      | inl w ↦ put_other s (λ q. let z : true ≡ false = sym w ∙ ap due (sym q) ∙ d in let y : ◌≡◌ {A = ℕ} 0 1 = cc in omega arith) ∙ h.undue s d
      | inr w ↦ ap (λ (l : Image). get_or l s []) (put_not w) ∙ h.undue s d
    ]

    pub put_more : Put due content from (i + 1) before after
    put_more =
        record {
          size = put_size ∙ h.size;
          done = put_done;
          undue = put_undue;
          low = λ s l. put_other s (λ q. omega arith) ∙ h.low s l;
          high = λ s l. put_other s (λ q. omega arith) ∙ h.high s (omega arith);
        }
