-- A script, line by line.
use Rattle.std.proofs.Common.{◌≡◌, ℕ, ◌+◌, ◌<◌, ◌≢◌, List, [], ◌∷◌, ◌++◌, length, None, sym, refl, ap, ◌∙◌, subst, inl, inr, append_assoc, append-nil, arith, cond}
use Rattle.std.specs.List.{All, AllZip, onto_first}
use Rattle.std.proofs.lemmas.List.{length-append}
use Rattle.std.proofs.lemmas.List.Elements.{All-head, All-tail}
use Rattle.std.proofs.lemmas.Bool.{ne_eqb}
use Rattle.script.specs.declared.spoken.Spoken.{Spoken}
use Rattle.script.specs.Spelling.{Spells, Finds}
use Rattle.script.specs.Lines.{First, lines, StopsAt, Stopped}
use Rattle.script.specs.declared.refusal.Refusal.TheVariants.{Memory}

-- THE FIRST LINE, and the lines behind it.
lines_cut : (line rest : List ℕ) → All (λ b. b ≢ 10) line → lines (line ++ 10 ∷ rest) ≡ line ∷ lines rest
lines_cut [] rest free = refl
lines_cut (b ∷ bs) rest free = ap (λ t. cond t ([] ∷ lines (bs ++ 10 ∷ rest)) (onto_first b (lines (bs ++ 10 ∷ rest)))) (ne_eqb b 10 (All-head (λ x. x ≢ 10) b bs free)) ∙ ap (onto_first b) (lines_cut bs rest (All-tail (λ x. x ≢ 10) b bs free))

lines_last : (line : List ℕ) → All (λ b. b ≢ 10) line → line ≢ [] → lines line ≡ line ∷ []
lines_last [] free some = absurd (some refl)
lines_last (b ∷ []) free some = ap (λ t. cond t ([] ∷ []) ((b ∷ []) ∷ [])) (ne_eqb b 10 (All-head (λ x. x ≢ 10) b [] free))
lines_last (b ∷ (c ∷ cs)) free some = ap (λ t. cond t ([] ∷ lines (c ∷ cs)) (onto_first b (lines (c ∷ cs)))) (ne_eqb b 10 (All-head (λ x. x ≢ 10) b (c ∷ cs) free)) ∙ ap (onto_first b) (lines_last (c ∷ cs) (All-tail (λ x. x ≢ 10) b (c ∷ cs) free) (λ e. cc))

pub lines_first : (t line rest : List ℕ) → t ≢ [] → First t line rest → lines t ≡ line ∷ lines rest
lines_first t line rest some (inl c) = ap lines c.0 ∙ lines_cut line rest c.1
lines_first t line rest some (inr w) = lines_last t w.2 some ∙ ap (λ l. l ∷ []) w.0 ∙ sym (ap (λ r. line ∷ lines r) w.1)

pub shorter : (t line rest : List ℕ) → 0 < length t → First t line rest → length rest < length t
shorter t line rest some (inl c) = omega (arith, ap length c.0, length-append line (10 ∷ rest))
shorter t line rest some (inr w) = let e = ap length w.1 in omega arith

-- WHAT WAS READ so far: some lines, each with its call, and then those of the rest
abbrev pub Reading : List ℕ → List Spoken → List ℕ → Type 0
Reading t calls rest = (done : List (List ℕ)) × (lines t ≡ done ++ lines rest) × AllZip Spells calls done

zip_push : (cs : List Spoken) (ls : List (List ℕ)) (c : Spoken) (l : List ℕ) → AllZip Spells cs ls → Spells c l → AllZip Spells (cs ++ c ∷ []) (ls ++ l ∷ [])
zip_push [] [] c l z s = (s, tt)
zip_push [] (m ∷ ms) c l z s = absurd z
zip_push (d ∷ cs) [] c l z s = absurd z
zip_push (d ∷ cs) (m ∷ ms) c l z s = (z.0, zip_push cs ms c l z.1 s)

as_many : (cs : List Spoken) (ls : List (List ℕ)) → AllZip Spells cs ls → length cs ≡ length ls
as_many [] [] z = refl
as_many [] (m ∷ ms) z = absurd z
as_many (d ∷ cs) [] z = absurd z
as_many (d ∷ cs) (m ∷ ms) z = let i = as_many cs ms z.1 in omega arith

pub none_read : (t : List ℕ) → Reading t [] t
none_read t = ([], refl, tt)

pub one_more : (t rest line after : List ℕ) (calls : List Spoken) (c : Spoken) → 0 < length rest → First rest line after → Reading t calls rest → Spells c line → Reading t (calls ++ c ∷ []) after
one_more t rest line after calls c some f r s =
    let e = lines_first rest line after (λ z. let k = ap length z in omega arith) f in
    (r.0 ++ line ∷ [], r.1 ∙ ap (λ l. r.0 ++ l) e ∙ sym (append_assoc r.0 (line ∷ []) (lines after)), zip_push calls r.0 c line r.2 s)

-- where a line spells a call, the first line of all spells one
begins_by : (t rest line after : List ℕ) (calls : List Spoken) (done : List (List ℕ)) (c : Spoken) → lines rest ≡ line ∷ lines after → lines t ≡ done ++ lines rest → AllZip Spells calls done → Spells c line → Stopped Memory (lines t)
begins_by t rest line after calls [] c l e z s = (c, line, lines after, e ∙ l, s)
begins_by t rest line after [] (m ∷ ms) c l e z s = absurd z
begins_by t rest line after (d ∷ ds) (m ∷ ms) c l e z s = (d, m, ms ++ lines rest, e, z.0)

pub begins : (t rest line after : List ℕ) (calls : List Spoken) (c : Spoken) → 0 < length rest → First rest line after → Reading t calls rest → Spells c line → Stopped Memory (lines t)
begins t rest line after calls c some f r s =
    begins_by t rest line after calls r.0 c (lines_first rest line after (λ z. let k = ap length z in omega arith) f) r.1 r.2 s

pub all_read : (t rest : List ℕ) (calls : List Spoken) → length rest ≡ 0 → Reading t calls rest → AllZip Spells calls (lines t)
all_read t [] calls n r = subst (AllZip Spells calls) (sym (r.1 ∙ append-nil r.0)) r.2
all_read t (b ∷ bs) calls n r = absurd (omega arith)

pub stops : (t rest line after : List ℕ) (calls : List Spoken) (n : ℕ) → 0 < length rest → First rest line after → Reading t calls rest → Finds line None → n ≡ length calls + 1 → StopsAt n (lines t)
stops t rest line after calls n some f r free e =
    let l = lines_first rest line after (λ z. let k = ap length z in omega arith) f in
    (calls, r.0, line, lines after, r.1 ∙ ap (λ x. r.0 ++ x) l, r.2, e ∙ ap (λ k. k + 1) (as_many calls r.0 r.2), free)
