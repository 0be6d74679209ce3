-- A caller that chooses the calls of a script in order follows it.
use Rattle.std.proofs.Common.{◌≡◌, ℕ, ◌+◌, ◌<◌, ◌≤◌, Bool, true, List, [], ◌∷◌, ◌++◌, length, map, Some, None, Option, IsSome, sym, refl, ap, ◌∙◌, subst, inl, inr, append_assoc, arith}
use Rattle.std.proofs.lemmas.List.{length-append, length-map}
use Rattle.std.proofs.KnownBytes.{Appends-nil, Appends-trans}
use Rattle.std.specs.Fmt.{option_append}
use Rattle.console.specs.declared.failed.Failed.{Failed}
use Rattle.script.specs.declared.spoken.Spoken.{Spoken}
use Rattle.run.specs.declared.call.Call.{Call}
use Rattle.run.specs.Events.{call_seen}
use Rattle.work.specs.Talks as T
use Rattle.work.specs.Talks.{Talk, Reply, silent, said, calls, last_of, Stops}
use Rattle.exploring.specs.Lines.{Written}
use Rattle.exploring.specs.Scripts.{Chosen, meant, made, Followed, lines_of, heard_line}

length_made : (t : Talk) → length (made t) ≡ calls t
length_made silent = refl
length_made (said t call reply) = length-append (made t) (call_seen call ∷ []) ∙ ap (λ n. n + 1) (length_made t)

none_left : (l : List Spoken) → length l ≡ 0 → l ≡ []
none_left [] e = refl
none_left (x ∷ l) e = absurd (omega arith)

-- lines, and then more lines
more : (a b c x y : Option (List ℕ)) → Written a b x → Written b c y → Written a c (option_append x y)
more a b c None y v w = absurd v
more a b c (Some xs) None v w = absurd w
more a b c (Some xs) (Some ys) v w = Appends-trans a b c xs ys v w

-- the lines of the answers that were heard: all but the last
abbrev heard_of : Talk → Option (List ℕ)
heard_of silent = Some []
heard_of (said t call reply) = lines_of t

with_last : (t : Talk) → option_append (heard_of t) (heard_line (last_of t)) ≡ lines_of t
with_last silent = refl
with_last (said t call reply) = refl

module _ {C : Type 0} (says : C → Option Reply → Option Call → C → Type 0) (bytes : C → List ℕ) (script : C → List Spoken) (failed : C → Option Failed) (out : C → Option (List ℕ)) {N : Type 0} (name : C → N)
    (chooses : (s : C) (last : Option Reply) (call : Option Call) (t : C) → says s last call t → Chosen (bytes s) (script s) (script t) (failed t) call × (bytes t ≡ bytes s) × (failed t ≡ None → (failed s ≡ None) × Written (out s) (out t) (heard_line last)) × (name t ≡ name s)) where
  spoken : (c m : C) (t : Talk) → T.Spoken says c t m → (map (meant (bytes c)) (script c) ≡ made t ++ map (meant (bytes c)) (script m)) × (bytes m ≡ bytes c)
  spoken c m silent e = (ap (λ x. map (meant (bytes c)) (script x)) (sym e), ap bytes e)
  spoken c m (said t call reply) (n, before, now, fits) =
      let i = spoken c n t before in
      let d = chooses n (last_of t) (Some call) m now in
      let (word, cut, is) = d.0 in
      let same : bytes n ≡ bytes c = i.1 in (
        i.0 ∙ ap (λ l. made t ++ map (meant (bytes c)) l) cut ∙ ap (λ k. made t ++ k ∷ map (meant (bytes c)) (script m)) (ap (λ b. meant b word) (sym same) ∙ sym is)
            ∙ sym (append_assoc (made t) (call_seen call ∷ []) (map (meant (bytes c)) (script m))),
        d.1 ∙ same,
      )

  pub followed : (c c' : C) (budget : ℕ) (t : Talk) (well : Bool) → length (script c) ≤ budget → Stops says c budget t c' → (well ≡ true → IsSome (failed c') → ⊥) → Followed (bytes c) (script c) well t
  followed c c' budget t well room (inl (n, s)) good =
      let i = spoken c c' t s in (
        script c',
        i.0,
        λ e. none_left (script c') (
            let a = ap length i.0 in
            let b = length-append (made t) (map (meant (bytes c)) (script c')) in
            let k = length_made t in
            let p = length-map (script c) (meant (bytes c)) in
            let q = length-map (script c') (meant (bytes c)) in
            omega arith
            ),
      )
  followed c c' budget t well room (inr (m, few, s, now)) good =
      let i = spoken c m t s in
      let d = chooses m (last_of t) None c' now in (
        script m,
        i.0,
        λ e. elim d.0 [
          | inl none ↦ none
          | inr bad ↦ absurd (good e bad)
        ],
      )

  -- WHAT IS WRITTEN, where nothing failed: the line of each answer that is heard.
  after : (c m n : C) (t : Talk) (call : Option Call) → (failed m ≡ None → Written (out c) (out m) (heard_of t)) → says m (last_of t) call n → failed n ≡ None → Written (out c) (out n) (lines_of t)
  after c m n t call before now well =
      let w = (chooses m (last_of t) call n now).2 well in
      let P : Option (List ℕ) → Type 0 = λ x. Written (out c) (out n) x in
      subst P (with_last t) (more (out c) (out m) (out n) (heard_of t) (heard_line (last_of t)) (before w.0) w.1)

  heard : (c m : C) (t : Talk) → T.Spoken says c t m → failed m ≡ None → Written (out c) (out m) (heard_of t)
  heard c m silent e well = let P : C → Type 0 = λ x. Written (out c) (out x) (Some []) in subst P (sym e) (Appends-nil (out c))
  heard c m (said t call reply) (n, before, now, fits) well = after c n m t (Some call) (heard c n t before) now well

  pub written : (c c' : C) (budget : ℕ) (t : Talk) → length (script c) < budget → Stops says c budget t c' → failed c' ≡ None → Written (out c) (out c') (lines_of t)
  written c c' budget t room (inl (n, s)) well =
      let i = spoken c c' t s in
      let a = ap length i.0 in
      let b = length-append (made t) (map (meant (bytes c)) (script c')) in
      let k = length_made t in
      let p = length-map (script c) (meant (bytes c)) in
      absurd (omega arith)
  written c c' budget t room (inr (m, few, s, now)) well = after c m c' t None (heard c m t s) now well

  -- it is written to the writer that the caller began with
  same : (c m : C) (t : Talk) → T.Spoken says c t m → name m ≡ name c
  same c m silent e = ap name e
  same c m (said t call reply) (n, before, now, fits) = (chooses n (last_of t) (Some call) m now).3 ∙ same c n t before

  pub same_writer : (c c' : C) (budget : ℕ) (t : Talk) → Stops says c budget t c' → name c' ≡ name c
  same_writer c c' budget t (inl (n, s)) = same c c' t s
  same_writer c c' budget t (inr (m, few, s, now)) = (chooses m (last_of t) None c' now).3 ∙ same c m t s
