-- The calls of a line.
use Rattle.std.proofs.Common.{◌≡◌, ℕ, ◌-◌, ◌^◌, min, ◌≢◌, ◌⊎◌, List, [], ◌∷◌, ◌++◌, get_or, take, drop, false, None, codes, sym, refl, ap, ◌∙◌, subst, inl, inr, arith}
use Rattle.std.specs.Int.{IsInRange}
use Rattle.std.specs.List.{All, AllZip}
use Rattle.std.specs.Str.Parse.{digits_value}
use Rattle.std.proofs.lemmas.List.{append_cancel_left}
use Rattle.std.proofs.lemmas.Bool.{false≢true}
use lib.Dec.{eqb}
use lib.Pointwise.{pointwise}
use Rattle.std.proofs.lemmas.List.Elements.{All-weaker, All-head, All-tail}
use Rattle.script.specs.declared.spoken.Spoken.{Spoken}
use Rattle.script.specs.declared.spoken.Spoken.TheVariants.{Load, Advance, Judge, Forgo, Look, Report}
use Rattle.script.specs.Spelling.{Number, Spells, Finds, IsLook}
use Rattle.script.specs.Lines.{Cut}

-- a byte stands first at one place
pub cut_once : (byte : ℕ) (a b c d : List ℕ) → All (λ x. x ≢ byte) a → All (λ x. x ≢ byte) c → a ++ byte ∷ b ≡ c ++ byte ∷ d → (a ≡ c) × (b ≡ d)
cut_once byte [] b [] d na nc e = (refl, ap (drop 1) e)
cut_once byte [] b (y ∷ c) d na nc e = absurd (All-head (λ x. x ≢ byte) y c nc (sym (ap (λ l. get_or l 0 0) e)))
cut_once byte (x ∷ a) b [] d na nc e = absurd (All-head (λ z. z ≢ byte) x a na (ap (λ l. get_or l 0 0) e))
cut_once byte (x ∷ a) b (y ∷ c) d na nc e =
    let r = cut_once byte a b c d (All-tail (λ z. z ≢ byte) x a na) (All-tail (λ z. z ≢ byte) y c nc) (ap (drop 1) e) in
    let h : x ≡ y = ap (λ l. get_or l 0 0) e in
    let t = r.0 in
    (cc, r.1)

-- a text that has the byte is not one without
pub not_cut : (byte : ℕ) (s a b : List ℕ) → All (λ x. x ≢ byte) s → s ≡ a ++ byte ∷ b → ⊥
not_cut byte [] [] b n e = cc
not_cut byte [] (x ∷ a) b n e = cc
not_cut byte (y ∷ s) [] b n e = All-head (λ z. z ≢ byte) y s n (ap (λ l. get_or l 0 0) e)
not_cut byte (y ∷ s) (x ∷ a) b n e = not_cut byte s a b (All-tail (λ z. z ≢ byte) y s n) (ap (drop 1) e)

-- digits are free spaces
digits_only : (v : ℕ) (t : List ℕ) → Number v t → All (λ x. x ≢ 32) t
digits_only v t n = All-weaker (IsInRange 48 57) (λ x. x ≢ 32) (λ x i e. omega (arith, i.0, i.1, e)) t n.1

-- a text writes one number
same_number : (v w : ℕ) (s t : List ℕ) → s ≡ t → Number v s → Number w t → v ≡ w
same_number v w s t e n m = n.2 ∙ ap (λ l. min (digits_value 10 l) (2 ^ 64 - 1)) e ∙ sym m.2

-- WHAT STANDS BEHIND the word look and a space, for a call that is spelled
abbrev pub Looks : List ℕ → Spoken → Type 0
Looks body c = (s n : ℕ) × (c ≡ Look s n) × ((Number s body × (n ≡ 512)) ⊎ ((a b : List ℕ) × (body ≡ a ++ 32 ∷ b) × Number s a × Number n b))

pub looks : (body : List ℕ) (c : Spoken) → Spells c (codes "look " ++ body) → Looks body c
looks body Load e = absurd (omega (arith, ap (λ (x : List ℕ). get_or x 2 0) e))
looks body Advance e = absurd (omega (arith, ap (λ (x : List ℕ). get_or x 0 0) e))
looks body Judge e = absurd (omega (arith, ap (λ (x : List ℕ). get_or x 0 0) e))
looks body Forgo e = absurd (omega (arith, ap (λ (x : List ℕ). get_or x 0 0) e))
looks body Report e = absurd (omega (arith, ap (λ (x : List ℕ). get_or x 0 0) e))
looks body (Look s n) (a, h, inl p) = (s, n, refl, inl (subst (Number s) (sym (append_cancel_left (codes "look ") body a p.0)) h, p.1))
looks body (Look s n) (a, h, inr p) = (s, n, refl, inr (a, p.0, append_cancel_left (codes "look ") body (a ++ 32 ∷ p.0) p.1, h, p.2))

-- without a space there is the sector alone
pub lone : (body : List ℕ) (s : ℕ) → Number s body → Spells (Look s 512) (codes "look " ++ body)
lone body s h = (body, h, inl (refl, refl))

pub lone_none : (body : List ℕ) → All (λ x. x ≢ 32) body → ((v : ℕ) → Number v body → ⊥) → Finds (codes "look " ++ body) None
lone_none body free h d k = let (t, n, e, w) = looks body d k in elim w [
  | inl p ↦ h t p.0
  | inr p ↦ not_cut 32 body p.0 p.1 free p.2
]

-- with one there is the sector before it, and the buffer's length behind
module _ (body a b : List ℕ) (cut : Cut 32 body a b) where
  parts : (d : Spoken) → Spells d (codes "look " ++ body) → (s n : ℕ) × (d ≡ Look s n) × Number s a × Number n b
  parts d k = let (t, n, e, w) = looks body d k in elim w [
    | inl p ↦ absurd (not_cut 32 body a b (digits_only t body p.0) cut.0)
    | inr p ↦
        let u = cut_once 32 p.0 p.1 a b (digits_only t p.0 p.3) cut.1 (sym p.2 ∙ cut.0) in
        (t, n, e, subst (Number t) u.0 p.3, subst (Number n) u.1 p.4)
  ]

  pub both : (s n : ℕ) → Number s a → Number n b → Spells (Look s n) (codes "look " ++ body)
  both s n h k = (a, h, inr (b, ap (λ l. codes "look " ++ l) cut.0, k))

  pub no_sector : ((v : ℕ) → Number v a → ⊥) → Finds (codes "look " ++ body) None
  no_sector h d x = let p = parts d x in h p.0 p.3

  pub no_size : ((v : ℕ) → Number v b → ⊥) → Finds (codes "look " ++ body) None
  no_size h d x = let p = parts d x in h p.1 p.4

-- A LINE SPELLS ONE CALL at most.
looks_same : (body : List ℕ) (c d : Spoken) → Looks body c → Looks body d → c ≡ d
looks_same body c d (s, n, e, inl p) (t, m, f, inl q) =
    let x : s ≡ t = same_number s t body body refl p.0 q.0 in let y = p.1 in let z = q.1 in
    e ∙ ap (Look s) (y ∙ sym z) ∙ ap (λ v. Look v m) x ∙ sym f
looks_same body c d (s, n, e, inl p) (t, m, f, inr q) = absurd (not_cut 32 body q.0 q.1 (digits_only s body p.0) q.2)
looks_same body c d (s, n, e, inr p) (t, m, f, inl q) = absurd (not_cut 32 body p.0 p.1 (digits_only t body q.0) p.2)
looks_same body c d (s, n, e, inr p) (t, m, f, inr q) =
    let u = cut_once 32 p.0 p.1 q.0 q.1 (digits_only s p.0 p.3) (digits_only t q.0 q.3) (sym p.2 ∙ q.2) in
    e ∙ ap (λ v. Look v n) (same_number s t p.0 q.0 u.0 p.3 q.3) ∙ ap (Look t) (same_number n m p.1 q.1 u.1 p.4 q.4) ∙ sym f

-- a look is the word and what stands behind it
body_of : (s n : ℕ) (t : List ℕ) → Spells (Look s n) t → (body : List ℕ) × (t ≡ codes "look " ++ body)
body_of s n t (a, h, inl p) = (a, p.0)
body_of s n t (a, h, inr p) = (a ++ 32 ∷ p.0, p.1)

pub not_look : (t : List ℕ) → pointwise eqb (take 5 t) (codes "look ") ≡ false → (c : Spoken) → Spells c t → IsLook c → ⊥
not_look t e (Look s n) x k = let b = body_of s n t x in false≢true (sym e ∙ ap (λ l. pointwise eqb (take 5 l) (codes "look ")) b.1)
not_look t e Load x k = k
not_look t e Advance x k = k
not_look t e Judge x k = k
not_look t e Forgo x k = k
not_look t e Report x k = k

pub one : (t : List ℕ) (c d : Spoken) → Spells c t → Spells d t → c ≡ d
one t (Look s n) d x y =
    let b = body_of s n t x in
    looks_same b.0 (Look s n) d (looks b.0 (Look s n) (subst (Spells (Look s n)) b.1 x)) (looks b.0 d (subst (Spells d) b.1 y))
one t c (Look s n) x y =
    let b = body_of s n t y in
    looks_same b.0 c (Look s n) (looks b.0 c (subst (Spells c) b.1 x)) (looks b.0 (Look s n) (subst (Spells (Look s n)) b.1 y))
one t Load Load x y = refl
one t Load Advance x y = absurd (omega (arith, ap (λ (l : List ℕ). get_or l 0 0) (sym x ∙ y)))
one t Load Judge x y = absurd (omega (arith, ap (λ (l : List ℕ). get_or l 0 0) (sym x ∙ y)))
one t Load Forgo x y = absurd (omega (arith, ap (λ (l : List ℕ). get_or l 0 0) (sym x ∙ y)))
one t Load Report x y = absurd (omega (arith, ap (λ (l : List ℕ). get_or l 0 0) (sym x ∙ y)))
one t Advance Load x y = absurd (omega (arith, ap (λ (l : List ℕ). get_or l 0 0) (sym x ∙ y)))
one t Advance Advance x y = refl
one t Advance Judge x y = absurd (omega (arith, ap (λ (l : List ℕ). get_or l 0 0) (sym x ∙ y)))
one t Advance Forgo x y = absurd (omega (arith, ap (λ (l : List ℕ). get_or l 0 0) (sym x ∙ y)))
one t Advance Report x y = absurd (omega (arith, ap (λ (l : List ℕ). get_or l 0 0) (sym x ∙ y)))
one t Judge Load x y = absurd (omega (arith, ap (λ (l : List ℕ). get_or l 0 0) (sym x ∙ y)))
one t Judge Advance x y = absurd (omega (arith, ap (λ (l : List ℕ). get_or l 0 0) (sym x ∙ y)))
one t Judge Judge x y = refl
one t Judge Forgo x y = absurd (omega (arith, ap (λ (l : List ℕ). get_or l 0 0) (sym x ∙ y)))
one t Judge Report x y = absurd (omega (arith, ap (λ (l : List ℕ). get_or l 0 0) (sym x ∙ y)))
one t Forgo Load x y = absurd (omega (arith, ap (λ (l : List ℕ). get_or l 0 0) (sym x ∙ y)))
one t Forgo Advance x y = absurd (omega (arith, ap (λ (l : List ℕ). get_or l 0 0) (sym x ∙ y)))
one t Forgo Judge x y = absurd (omega (arith, ap (λ (l : List ℕ). get_or l 0 0) (sym x ∙ y)))
one t Forgo Forgo x y = refl
one t Forgo Report x y = absurd (omega (arith, ap (λ (l : List ℕ). get_or l 0 0) (sym x ∙ y)))
one t Report Load x y = absurd (omega (arith, ap (λ (l : List ℕ). get_or l 0 0) (sym x ∙ y)))
one t Report Advance x y = absurd (omega (arith, ap (λ (l : List ℕ). get_or l 0 0) (sym x ∙ y)))
one t Report Judge x y = absurd (omega (arith, ap (λ (l : List ℕ). get_or l 0 0) (sym x ∙ y)))
one t Report Forgo x y = absurd (omega (arith, ap (λ (l : List ℕ). get_or l 0 0) (sym x ∙ y)))
one t Report Report x y = refl

-- and lines spell one list of calls
pub same_calls : (cs ds : List Spoken) (ls : List (List ℕ)) → AllZip Spells cs ls → AllZip Spells ds ls → cs ≡ ds
same_calls [] [] [] x y = refl
same_calls [] (d ∷ ds) [] x y = absurd y
same_calls (c ∷ cs) ds [] x y = absurd x
same_calls [] ds (l ∷ ls) x y = absurd x
same_calls (c ∷ cs) [] (l ∷ ls) x y = absurd y
same_calls (c ∷ cs) (d ∷ ds) (l ∷ ls) x y = let h = one l c d x.0 y.0 in let t = same_calls cs ds ls x.1 y.1 in cc

-- where a line spells no call, no calls spell the lines
pub none_spells : (before after : List (List ℕ)) (bad : List ℕ) (ds : List Spoken) → ((c : Spoken) → Spells c bad → ⊥) → AllZip Spells ds (before ++ bad ∷ after) → ⊥
none_spells [] after bad [] never z = z
none_spells [] after bad (d ∷ ds) never z = never d z.0
none_spells (l ∷ before) after bad [] never z = z
none_spells (l ∷ before) after bad (d ∷ ds) never z = none_spells before after bad ds never z.1
