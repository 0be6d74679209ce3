-- Moving the places one on, from the last place down.
use Rattle.std.proofs.Common.{◌≡◌, ℕ, zero, suc, ◌+◌, ◌-◌, ◌<◌, ◌≤◌, Bool, true, false, cond, ltb, List, [], ◌∷◌, ◌++◌, map, length, get_or, take, drop, set, Some, None, sym, refl, ap, ◌∙◌, subst, arith}
use Rattle.std.proofs.lemmas.List.{append-nil, append_assoc, take_all, drop_all, drop_more, take_more, set_at, get_or_at, length-take-le, take_at, drop_at, length-append, length-drop}
use Rattle.std.proofs.lemmas.Bool.{lt-ltb, le-ltb}
use Rattle.std.proofs.lemmas.Simd.{splat_is_map}
use Rattle.crash.specs.Ranks.{up, next}
use Rattle.points.specs.Moving.{ChangedFrom}

abbrev zeros : List ℕ → List ℕ
zeros counts = map (λ _. 0) counts

zeros_same : (xs ys : List ℕ) → length xs ≡ length ys → zeros xs ≡ zeros ys
zeros_same xs ys e = sym (splat_is_map xs (length ys) 0 e) ∙ splat_is_map ys (length ys) 0 refl

-- the places from i on had no room, and are back at 0
pub record Turning (counts before : List ℕ) (i : ℕ) (after : List ℕ) : Type 0 where
  pub low : i ≤ length before
  pub same : after ≡ take i before ++ map (λ _. 0) (drop i counts)
  pub none : next (drop i counts) (drop i before) ≡ None

pub turning_start : (counts before : List ℕ) → length counts ≡ length before → Turning counts before (length before) before
turning_start counts before w =
    let a = drop_all (length before) counts (omega arith) in
    let b = drop_all (length before) before (omega arith) in
    let t = take_all (length before) before (omega arith) in
    record {
      low = omega arith;
      same = sym (append-nil before) ∙ ap (λ x. x ++ []) (sym t) ∙ ap (λ x. take (length before) before ++ zeros x) (sym a);
      none = ap (λ x. next x (drop (length before) before)) a;
    }

module _ (counts before : List ℕ) (i : ℕ) (after : List ℕ) (w : length counts ≡ length before) (t : Turning counts before (i + 1) after) where
  here : i < length before
  here = let a = t.low in omega arith

  there : i < length counts
  there = let h = here in omega arith

  opened : after ≡ take i before ++ get_or before i 0 ∷ zeros (drop (i + 1) counts)
  opened =
      t.same
      ∙ ap (λ x. x ++ zeros (drop (i + 1) counts)) (take_more before i 0 here)
      ∙ append_assoc (take i before) (get_or before i 0 ∷ []) (zeros (drop (i + 1) counts))

  long : length (take i before) ≡ i
  long = length-take-le i before (let h = here in omega arith)

  -- the place at i is still as it was
  turning_at : get_or after i 0 ≡ get_or before i 0
  turning_at = ap (λ x. get_or x i 0) opened ∙ get_or_at (take i before) (get_or before i 0) (zeros (drop (i + 1) counts)) 0 i long

  turning_set : (v : ℕ) → set after i v ≡ take i before ++ v ∷ zeros (drop (i + 1) counts)
  turning_set v = ap (λ x. set x i v) opened ∙ set_at (take i before) (get_or before i 0) (zeros (drop (i + 1) counts)) v i long

  next_here : next (drop i counts) (drop i before) ≡ up (get_or counts i 0) (get_or before i 0) (drop (i + 1) counts) None
  next_here =
      ap (λ x. next x (drop i before)) (drop_more counts i 0 there)
      ∙ ap (next (get_or counts i 0 ∷ drop (i + 1) counts)) (drop_more before i 0 here)
      ∙ ap (up (get_or counts i 0) (get_or before i 0) (drop (i + 1) counts)) t.none

  turned : (b : Bool) → ltb (get_or before i 0 + 1) (get_or counts i 0) ≡ b →
      next (drop i counts) (drop i before) ≡ cond b (Some ((get_or before i 0 + 1) ∷ zeros (drop (i + 1) counts))) None
  turned b e = next_here ∙ ap (λ x. cond x (Some ((get_or before i 0 + 1) ∷ zeros (drop (i + 1) counts))) None) e

  turning_full : get_or counts i 0 ≤ get_or before i 0 + 1 → Turning counts before i (set after i 0)
  turning_full h =
      record {
        low = let a = here in omega arith;
        same = turning_set 0 ∙ ap (λ x. take i before ++ zeros x) (sym (drop_more counts i 0 there));
        none = turned false (le-ltb (get_or before i 0 + 1) (get_or counts i 0) h);
      }

-- what is next of the rest is next of the whole
next_whole : (counts before : List ℕ) (i : ℕ) (rest : List ℕ) → length counts ≡ length before → next (drop i counts) (drop i before) ≡ Some rest →
    next counts before ≡ Some (take i before ++ rest)
next_whole counts before zero rest w e = e
next_whole [] [] (suc i) rest w e = e
next_whole [] (b ∷ before) (suc i) rest w e = absurd (omega arith)
next_whole (c ∷ counts) [] (suc i) rest w e = absurd (omega arith)
next_whole (c ∷ counts) (b ∷ before) (suc i) rest w e = ap (up c b counts) (next_whole counts before i rest (omega arith) e)

-- the turn at the place before i, as the loop makes it
module _ (counts before : List ℕ) (i : ℕ) (after : List ℕ) (w : length counts ≡ length before) (t : Turning counts before i after) (l : 0 < i) where
  one_on : Turning counts before (i - 1 + 1) after
  one_on = let e : i ≡ i - 1 + 1 = omega arith in subst (λ (n : ℕ). Turning counts before n after) e t

  as_it_was : get_or after (i - 1) 0 ≡ get_or before (i - 1) 0
  as_it_was = turning_at counts before (i - 1) after w one_on

  pub turning_room : get_or after (i - 1) 0 < get_or counts (i - 1) 0 - 1 → next counts before ≡ Some (set after (i - 1) (get_or after (i - 1) 0 + 1))
  turning_room h =
      let e = as_it_was in
      let b = get_or before (i - 1) 0 in
      let room : b + 1 < get_or counts (i - 1) 0 = omega arith in
      next_whole counts before (i - 1) ((b + 1) ∷ zeros (drop (i - 1 + 1) counts)) w
      (turned counts before (i - 1) after w one_on true (lt-ltb (b + 1) (get_or counts (i - 1) 0) room))
      ∙ ap Some (sym (turning_set counts before (i - 1) after w one_on (b + 1)))
      ∙ ap (λ n. Some (set after (i - 1) (n + 1))) (sym e)

  pub turning_more : get_or counts (i - 1) 0 - 1 ≤ get_or after (i - 1) 0 → Turning counts before (i - 1) (set after (i - 1) 0)
  turning_more h = let e = as_it_was in turning_full counts before (i - 1) after w one_on (omega arith)

  -- where the places change
  pub turning_changed : (v : ℕ) → v ≡ get_or after (i - 1) 0 + 1 → ChangedFrom before (set after (i - 1) v) (i - 1)
  turning_changed v e =
      let low = t.low in
      let s = turning_set counts before (i - 1) after w one_on v in
      let size : length (take (i - 1) before) ≡ i - 1 = length-take-le (i - 1) before (omega arith) in
      record {
        inside = omega arith;
        up = ap (λ l. get_or l (i - 1) 0) s ∙ get_or_at (take (i - 1) before) v (zeros (drop (i - 1 + 1) counts)) 0 (i - 1) size ∙ e ∙ ap (λ n. n + 1) as_it_was;
        stay = ap (take (i - 1)) s ∙ take_at (take (i - 1) before) (v ∷ zeros (drop (i - 1 + 1) counts)) (i - 1) size;
        zero =
            ap (drop (i - 1 + 1)) (s ∙ sym (append_assoc (take (i - 1) before) (v ∷ []) (zeros (drop (i - 1 + 1) counts))))
            ∙ drop_at (take (i - 1) before ++ v ∷ []) (zeros (drop (i - 1 + 1) counts)) (i - 1 + 1) (length-append (take (i - 1) before) (v ∷ []) ∙ ap (λ n. n + 1) size)
            ∙ zeros_same (drop (i - 1 + 1) counts) (drop (i - 1 + 1) before) (let a = length-drop (i - 1 + 1) counts in let b = length-drop (i - 1 + 1) before in omega arith);
      }

-- at the end all places are 0
pub turning_done : (counts before after : List ℕ) → length counts ≡ length before → Turning counts before 0 after → (next counts before ≡ None) × (after ≡ map (λ _. 0) before)
turning_done counts before after w t = (t.none, t.same ∙ zeros_same counts before w)
