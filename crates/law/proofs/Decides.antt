-- The law leaves nothing open, and every call has an answer.
use Rattle.std.proofs.Common.{◌≡◌, ℕ, Bool, true, false, cond, not, ◌⊎◌, List, [], ◌∷◌, ◌++◌, length, get_or, Some, None, filter, Option, sym, refl, ap, ◌∙◌, subst, inl, inr, ⊎_elim, append_assoc, arith, length-append}
use Rattle.std.proofs.lemmas.List.Elements.{filter-append}
use Rattle.std.proofs.lemmas.List.{append_cancel_left}
use Rattle.image.specs.Sectors.{Image}
use Rattle.law.specs.Subject.{Subject, Recording, State, image, list}
use Rattle.law.specs.History.{Call, load, advance, judge, forgo, look, report, Report, Event, declined, starved, loaded, gave, ended, found, forwent, showed, reported, History, then, condition, recording, given, skipped, up_to}
use Rattle.law.specs.Rules.{Refusal, refusal}
use Rattle.law.specs.Steps.{View, Step, next, report_on, on_load, on_giving, on_end, on_judge, on_forgo}
use Rattle.law.specs.Law.{call_of, declined_by, standing_image, judgement_of, report_of, Law, Fed, Settled, TheLawDecides, EveryCallIsAnswered}
use Rattle.law.proofs.States.{same}

-- one of two lists begins the other
abbrev Compare : List State → List State → Type 0
Compare xs ys = ((t : List State) × (ys ≡ xs ++ t)) ⊎ ((t : List State) × (xs ≡ ys ++ t))

compare_more : (b c : Bool) (y : State) (xs ys : List State) → Compare xs ys → Compare (y ∷ cond b [] xs) (y ∷ cond c [] ys)
compare_more true true y xs ys k = inl ([], refl)
compare_more true false y xs ys k = inl (ys, refl)
compare_more false true y xs ys k = inr (xs, refl)
compare_more false false y xs ys (inl k) = inl (k.0, ap (λ (t : List State). y ∷ t) k.1)
compare_more false false y xs ys (inr k) = inr (k.0, ap (λ (t : List State). y ∷ t) k.1)

compare : (x y : State) (zs : List State) → Compare (up_to x zs) (up_to y zs)
compare x y [] = inl ([], refl)
compare x y (z ∷ zs) = compare_more (same x z) (same y z) z (up_to x zs) (up_to y zs) (compare x y zs)

begins_more : (b : Bool) (y : State) (xs ys : List State) → (t : List State) × (ys ≡ xs ++ t) → (t : List State) × (y ∷ ys ≡ (y ∷ cond b [] xs) ++ t)
begins_more true y xs ys k = (ys, refl)
begins_more false y xs ys k = (k.0, ap (λ (t : List State). y ∷ t) k.1)

begins : (x : State) (zs : List State) → (t : List State) × (zs ≡ up_to x zs ++ t)
begins x [] = ([], refl)
begins x (z ∷ zs) = begins_more (same x z) z (up_to x zs) zs (begins x zs)

-- what is kept of a longer list
longer : (n : State → Bool) (g xs ys t : List State) (x : State) → ys ≡ xs ++ t → g ++ x ∷ [] ≡ filter n xs → filter n ys ≡ g ++ (x ∷ filter n t)
longer n g xs ys t x e k =
    ap (λ (l : List State). filter n l) e
    ∙ filter-append n xs t
    ∙ ap (λ (l : List State). l ++ filter n t) (sym k)
    ∙ append_assoc g (x ∷ []) (filter n t)

abbrev head_or : List State → State
head_or [] = (0, 0)
head_or (x ∷ xs) = x

same_gift : (n : State → Bool) (g xs ys t : List State) (x y : State) → ys ≡ xs ++ t → g ++ x ∷ [] ≡ filter n xs → g ++ y ∷ [] ≡ filter n ys → y ≡ x
same_gift n g xs ys t x y e k l = ap head_or (append_cancel_left g (y ∷ []) (x ∷ filter n t) (l ∙ longer n g xs ys t x e k))

-- what advance answered
abbrev answer : Event → Option State
answer (declined call n p) = None
answer (starved bytes) = None
answer (loaded bytes) = None
answer (gave x) = Some x
answer ended = None
answer (found o n) = None
answer forwent = None
answer (showed sector size content) = None
answer (reported r) = None

abbrev giving : Option State → Event
giving (Some x) = gave x
giving None = ended

-- the event that the law calls for, but for an advance's answer
abbrev predicted : Subject → History → Call → Refusal → Option State → Event
predicted s h call (Some t) a = declined call t.0 t.1
predicted s h (load bytes) None a = loaded bytes
predicted s h advance None a = giving a
predicted s h judge None a = found (judgement_of s h).0 (judgement_of s h).1
predicted s h forgo None a = forwent
predicted s h (look sector size) None a = showed sector size (get_or (standing_image s h) sector [])
predicted s h report None a = reported (report_of s h)

-- an answer other than a want of memory is settled
settled : (s : Subject) (e : Event) → Fed e → Settled s e
settled s (declined call n p) F = tt
settled s (starved bytes) F = absurd F
settled s (loaded bytes) F = tt
settled s (gave x) F = tt
settled s ended F = tt
settled s (found o n) F = tt
settled s forwent F = tt
settled s (showed sector size content) F = tt
settled s (reported r) F = tt

module _ (s : Subject) (h : History) where
  is_predicted : (e : Event) (b : Image) → Fed e → Law s (then h e) b → e ≡ predicted s h (call_of e) (declined_by e) (answer e)
  is_predicted (declined call n p) b F L = refl
  is_predicted (starved bytes) b F L = absurd F
  is_predicted (loaded bytes) b F L = refl
  is_predicted (gave x) b F L = refl
  is_predicted ended b F L = refl
  is_predicted (found o n) b F L = ap (λ (j : ℕ × ℕ). found j.0 j.1) (L.judges_answer h o n (inl (refl, refl)))
  is_predicted forwent b F L = refl
  is_predicted (showed sector size content) b F L = ap (λ (x : List ℕ). showed sector size x) (L.looks_show h sector size content (inl (refl, refl)))
  is_predicted (reported r) b F L = ap (λ (x : Report). reported x) (L.reports_figures h r (inl (refl, refl)))

  never : (x : State) (b c : Image) → Law s (then h (gave x)) b → Law s (then h ended) c → ⊥
  never x b c L M =
      let R : Recording = recording s h in
      let n : State → Bool = λ y. not (skipped h y) in
      let t = begins x (list R) in
      let e : given h ≡ given h ++ (x ∷ filter n t.0) = M.given_in_order ∙ longer n (given h) (up_to x (list R)) (list R) t.0 x t.1 L.given_in_order in
      omega (arith, ap (λ (l : List State). length l) e, length-append (given h) (x ∷ filter n t.0))

  only : (x y : State) (b c : Image) → Law s (then h (gave x)) b → Law s (then h (gave y)) c → x ≡ y
  only x y b c L M =
      let R : Recording = recording s h in
      let n : State → Bool = λ z. not (skipped h z) in
      ⊎_elim
      (λ (k : (t : List State) × (up_to y (list R) ≡ up_to x (list R) ++ t)). sym (same_gift n (given h) (up_to x (list R)) (up_to y (list R)) k.0 x y k.1 L.given_in_order M.given_in_order))
      (λ (k : (t : List State) × (up_to x (list R) ≡ up_to y (list R) ++ t)). same_gift n (given h) (up_to y (list R)) (up_to x (list R)) k.0 y x k.1 M.given_in_order L.given_in_order)
      (compare x y (list R))

  one_gift : (a a' : Option State) (b c : Image) → Law s (then h (giving a)) b → Law s (then h (giving a')) c → giving a ≡ giving a'
  one_gift (Some x) (Some y) b c L M = ap (λ (z : State). gave z) (only x y b c L M)
  one_gift (Some x) None b c L M = absurd (never x b c L M)
  one_gift None (Some y) b c L M = absurd (never y c b M L)
  one_gift None None b c L M = refl

  one : (call : Call) (r : Refusal) (a a' : Option State) (b c : Image) → Law s (then h (predicted s h call r a)) b → Law s (then h (predicted s h call r a')) c → predicted s h call r a ≡ predicted s h call r a'
  one call (Some t) a a' b c L M = refl
  one (load bytes) None a a' b c L M = refl
  one advance None a a' b c L M = one_gift a a' b c L M
  one judge None a a' b c L M = refl
  one forgo None a a' b c L M = refl
  one (look sector size) None a a' b c L M = refl
  one report None a a' b c L M = refl

pub decides : TheLawDecides
decides s h e f b c L M q F G =
    let by-rule : Event → Event = λ x. predicted s h (call_of x) (refusal s (condition h) (call_of x)) (answer x) in
    let E : e ≡ predicted s h (call_of e) (refusal s (condition h) (call_of e)) (answer e) = is_predicted s h e b F L ∙ ap (λ (r : Refusal). predicted s h (call_of e) r (answer e)) (L.declined_exactly h e (inl (refl, refl)) (settled s e F)) in
    let D : f ≡ predicted s h (call_of e) (refusal s (condition h) (call_of e)) (answer f) =
    is_predicted s h f c G M
    ∙ ap (λ (r : Refusal). predicted s h (call_of f) r (answer f)) (M.declined_exactly h f (inl (refl, refl)) (settled s f G))
    ∙ ap (λ (x : Call). predicted s h x (refusal s (condition h) x) (answer f)) (sym q) in
    let P : Event → Type 0 = λ x. Law s (then h x) b in
    let Q : Event → Type 0 = λ x. Law s (then h x) c in
    E ∙ one s h (call_of e) (refusal s (condition h) (call_of e)) (answer e) (answer f) b c (subst P E L) (subst Q D M) ∙ sym D

module _ (s : Subject) (v : View) where
  Answered : Call → Type 0
  Answered call = (e : Event) × (w : View) × (call_of e ≡ call) × Fed e × Step s v e w

  advanced : refusal s v.condition advance ≡ None → (n : Option State) → next v.recording v.condition v.standing ≡ n → Answered advance
  unfolding Answered
  advanced a (Some x) e = (gave x, on_giving x v, refl, tt, (a, e, refl))
  advanced a None e = (ended, on_end v, refl, tt, (a, e, refl))

  accepted : (call : Call) → refusal s v.condition call ≡ None → Answered call
  unfolding Answered
  accepted (load bytes) a = (loaded bytes, on_load s bytes v, refl, tt, (a, refl))
  accepted advance a = advanced a (next v.recording v.condition v.standing) refl
  accepted judge a =
      let j = v.recording.judgement v.standing.0 (image v.recording v.standing) in
      (found j.0 j.1, on_judge j.0 v, refl, tt, (a, refl, refl))
  accepted forgo a = (forwent, on_forgo v, refl, tt, (a, refl))
  accepted (look sector size) a = (showed sector size (get_or (image v.recording v.standing) sector []), v, refl, tt, (a, refl, refl))
  accepted report a = (reported (report_on v), v, refl, tt, (refl, refl))

  either : (call : Call) (r : Refusal) → refusal s v.condition call ≡ r → Answered call
  unfolding Answered
  either call (Some t) e = (declined call t.0 t.1, v, refl, tt, (e, refl))
  either call None e = accepted call e

pub answered : EveryCallIsAnswered
unfolding Answered
answered s v call = either s v call (refusal s v.condition call) refl
