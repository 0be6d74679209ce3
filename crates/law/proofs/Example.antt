-- A run over one sector and a recording with no entries.
use Rattle.std.proofs.Common.{◌≡◌, ℕ, zero, suc, ◌<◌, [], ◌∷◌, length, get_or, sym, refl, ap, subst, inl, arith}
use Rattle.std.specs.List.{ContainsAt as Has}
use Rattle.image.specs.Sectors.{Sector, Image}
use Rattle.tree.specs.declared.node.Node.TheVariants.{Absent}
use Rattle.filesystem.specs.Outcomes.{Outcome, a_tree}
use Rattle.law.specs.Subject.{Recording, Permitted, Sound, Loading, takes, declines, Subject, nothing}
use Rattle.law.specs.History.{loaded, gave, ended, found, History, begun, then}
use Rattle.law.specs.Steps.{View, fresh, on_load, on_giving, on_judge, on_end, report_on}
use Rattle.law.specs.Law.{SomeRunIsSafe}

abbrev content : Sector
content = 7 ∷ []

abbrev ground : Image
ground = content ∷ []

abbrev quiet : Recording
quiet = record { last = 0; candidates = λ p n. content ∷ []; values = λ p n. Absent ∷ []; states = λ p. ground ∷ []; judgement = λ p i. (0, 0) }

-- a list of one has only its one
only : {A : Type 0} (a b : A) → Has (a ∷ []) b → a ≡ b
only {A} a b (zero, l, e) = e a
only {A} a b (suc k, l, e) = absurd (omega arith)

has_one : {A : Type 0} (a b : A) → a ≡ b → Has (a ∷ []) b
has_one a b e = (0, omega arith, λ d. e)

below_one : (image : Image) → ground ≡ image → (n : ℕ) → n < 1 → Has (content ∷ []) (get_or image n [])
below_one image e zero l = has_one content (get_or image 0 []) (ap (λ (i : Image). get_or i 0 []) e)
below_one image e (suc n) l = absurd (omega arith)

permitted : (p : ℕ) (image : Image) → Has (ground ∷ []) image → Permitted ground quiet p image
permitted p image h = let e = only ground image h in (sym (ap (λ (i : Image). length i) e), below_one image e)

is_ground : (p : ℕ) (image : Image) → Permitted ground quiet p image → ground ≡ image
is_ground p [] P = absurd (omega (arith, P.0))
is_ground p (a ∷ []) P = ap (λ (x : Sector). x ∷ []) (only content a (P.1 0 (omega arith)))
is_ground p (a ∷ b ∷ c) P = absurd (omega (arith, P.0))

abbrev bare : Image → Outcome
bare i = a_tree []

sound : Sound ground bare quiet
sound =
    record {
      exact = λ p l image. (permitted p image, λ P. has_one ground image (is_ground p image P));
      some = λ p l. omega arith;
      judges = λ p l image. inl (refl, λ n k. has_one Absent (get_or [] n Absent) refl);
    }

abbrev taken : Loading → Recording
taken (takes R) = R
taken (declines n p) = nothing

abbrev subject : Subject
subject =
    record {
      base = ground;
      outcome = bare;
      loads = λ bytes. takes quiet;
      sound = λ bytes R e. let P : Recording → Type 0 = λ x. Sound ground bare x in subst P (ap taken e) sound;
    }

pub safe_run : SomeRunIsSafe
safe_run =
    let v₁ : View = on_load subject [] (fresh subject) in
    let v₂ : View = on_giving (0, 0) v₁ in
    let v₃ : View = on_judge 0 v₂ in
    let v₄ : View = on_end v₃ in
    let h : History = then (then (then (then begun (loaded [])) (gave (0, 0))) (found 0 0)) ended in
    (subject, h, v₄, report_on v₄, (v₄, (v₃, (v₂, (v₁, (fresh subject, refl, (refl, refl)), (refl, refl, refl)), (refl, refl, refl)), (refl, refl, refl)), (refl, refl)), refl, refl)
