-- All that the other proofs know of when a write is durable.
use Rattle.std.proofs.Common.{◌≡◌, ℕ, suc, ◌+◌, ◌<◌, ◌≤◌, false, ◌&&◌, ltb, leb, ◌⊎◌, Decides, subst, inl, inr, arith}
use Rattle.std.proofs.lemmas.Bool.{both_ways, cases_lt}
use Rattle.std.proofs.lemmas.Bool.Decides.{Decides-ltb, Decides-and, Decides-or, Decides-like}
use Rattle.crash.specs.Rules.{Recording, effect_at, HasFlush, HasFua, Durable}
use Rattle.crash.specs.States.{some_below, is_durable}
use Rattle.crash.proofs.Deciding.{decides_leb, itself, some_decides}

module _ (d : Recording) where
  pub durable_decides : (p k : ℕ) → Decides (is_durable d p k) (Durable d p k)
  unfolding Durable is_durable
  durable_decides p k =
      Decides-or (leb k p && (effect_at d k).fua) (some_below (λ m. ltb k m && (effect_at d m).flush) (p + 1))
      (Decides-and (leb k p) (effect_at d k).fua (decides_leb k p) (itself (effect_at d k).fua))
      (Decides-like (some_below (λ m. ltb k m && (effect_at d m).flush) (p + 1))
      (λ h. (h.0, h.2.0, (let a = h.1 in omega arith), h.2.1))
      (λ h. (h.0, (let a = h.2 in omega arith), (h.1, h.3)))
      (some_decides (λ m. ltb k m && (effect_at d m).flush) (λ m. (k < m) × HasFlush (effect_at d m))
      (λ m. Decides-and (ltb k m) (effect_at d m).flush (Decides-ltb k m) (itself (effect_at d m).flush)) (p + 1)))

  -- no entry after p is durable at p
  pub durable_upto : (p k : ℕ) → Durable d p k → k ≤ p
  unfolding Durable
  durable_upto p k (inl h) = h.0
  durable_upto p k (inr h) = let a = h.1 in let b = h.2 in omega arith

  -- what is durable stays durable
  pub durable_later : (p k : ℕ) → Durable d p k → Durable d (suc p) k
  unfolding Durable
  durable_later p k (inl h) = inl ((let a = h.0 in omega arith), h.1)
  durable_later p k (inr h) = inr (h.0, h.1, (let a = h.2 in omega arith), h.3)

  -- a flush makes every earlier entry durable
  pub durable_by_flush : (p k : ℕ) → HasFlush (effect_at d (suc p)) → k ≤ p → Durable d (suc p) k
  unfolding Durable
  durable_by_flush p k f l = inr (suc p, omega arith, omega arith, f)

  -- an entry without flush makes no earlier one durable
  pub durable_before : (p k : ℕ) → (effect_at d (suc p)).flush ≡ false → k ≤ p → Durable d (suc p) k → Durable d p k
  unfolding Durable
  durable_before p k f l (inl h) = inl (l, h.1)
  durable_before p k f l (inr h) = go (cases_lt h.0 (suc p))
    where
      go : (h.0 < suc p) ⊎ (suc p ≤ h.0) → Durable d p k
      go (inl a) = inr (h.0, h.1, omega arith, h.3)
      go (inr a) =
          let b = h.2 in
          let e : h.0 ≡ suc p = omega arith in
          absurd (both_ways (effect_at d (suc p)).flush f (subst (λ (n : ℕ). HasFlush (effect_at d n)) e h.3))

  -- at its own point an entry is durable by FUA alone
  pub durable_at_once : (p : ℕ) → HasFua (effect_at d p) → Durable d p p
  unfolding Durable
  durable_at_once p f = inl (omega arith, f)

  pub at_once_by_fua : (p : ℕ) → Durable d p p → HasFua (effect_at d p)
  unfolding Durable
  at_once_by_fua p (inl h) = h.1
  at_once_by_fua p (inr h) = let a = h.1 in let b = h.2 in let none : ⊥ = omega arith in absurd none

  -- a write without FUA is durable by a later flush alone
  pub by_flush_alone : (p k : ℕ) → (effect_at d k).fua ≡ false → Durable d p k → (m : ℕ) × (k < m) × (m ≤ p) × HasFlush (effect_at d m)
  unfolding Durable
  by_flush_alone p k f (inl h) = absurd (both_ways (effect_at d k).fua f h.1)
  by_flush_alone p k f (inr h) = h

  pub flush_durable : (p k : ℕ) → (m : ℕ) × (k < m) × (m ≤ p) × HasFlush (effect_at d m) → Durable d p k
  unfolding Durable
  flush_durable p k h = inr h
