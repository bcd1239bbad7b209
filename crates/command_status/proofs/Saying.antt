-- One piece after another, and what the whole leaves of a console.
use Rattle.std.proofs.Common.{◌≡◌, ℕ, ◌+◌, ◌-◌, ◌≤◌, List, [], ◌++◌, length, take, drop, Option, Some, None, Result, Ok, Err, IfSome, IsOk, IsErr, refl, append_assoc, append-nil, ap, sym, ◌∙◌, subst, arith}
use Rattle.std.proofs.lemmas.Bool.{false≢true}
use Rattle.std.proofs.lemmas.List.{length-append, take-append-drop}
use Rattle.std.proofs.Math.Seq.{take-append_seam}
use Rattle.outside.specs.Causes.{HasCause, Rose}
use Rattle.outside.specs.Pieces.{SaysPiece}
use Rattle.outside.specs.declared.files.Failed.{Failed}
use Rattle.command_status.specs.Means.{IsSaid}
use Rattle.command_status.specs.Spoken.{IsHeard, Speaks}

-- what was said

says_nothing : (said : Option (List ℕ)) → SaysPiece {E = Failed} said said [] (Ok tt)
says_nothing None = refl
says_nothing (Some before) = ap Some (sym (append-nil before))

says_more_of : (before : List ℕ) (c : Option (List ℕ)) (t u : List ℕ) (r : Result (Unit {0}) Failed) → SaysPiece (Some (before ++ t)) c u r → SaysPiece (Some before) c (t ++ u) r
says_more_of before c t u (Ok done) h = h ∙ ap Some (append_assoc before t u)
says_more_of before c t u (Err e) h =
    let part : take (length (t ++ take h.0 u)) (t ++ u) ≡ t ++ take h.0 u =
    ap (λ (xs : List ℕ). take (length (t ++ take h.0 u)) (t ++ xs)) (sym (take-append-drop h.0 u))
    ∙ ap (λ (xs : List ℕ). take (length (t ++ take h.0 u)) xs) (sym (append_assoc t (take h.0 u) (drop h.0 u)))
    ∙ take-append_seam (t ++ take h.0 u) (drop h.0 u) in
    (length (t ++ take h.0 u), h.1 ∙ ap Some (append_assoc before t (take h.0 u) ∙ ap (λ (xs : List ℕ). before ++ xs) (sym part)))

says_more : (a b c : Option (List ℕ)) (t u : List ℕ) (x : Unit {0}) (r : Result (Unit {0}) Failed) → SaysPiece {E = Failed} a b t (Ok x) → SaysPiece b c u r → SaysPiece a c (t ++ u) r
says_more None b c t u x r h k = let P : Option (List ℕ) → Type 0 = λ o. SaysPiece o c u r in subst P h k
says_more (Some before) b c t u x r h k = says_more_of before c t u r (let P : Option (List ℕ) → Type 0 = λ o. SaysPiece o c u r in subst P h k)

says_part : (a b : Option (List ℕ)) (t u : List ℕ) (e : Failed) → SaysPiece a b t (Err e) → SaysPiece a b (t ++ u) (Err e)
says_part None b t u e h = h
says_part (Some before) b t u e h =
    let whole : take h.0 t ++ (drop h.0 t ++ u) ≡ t ++ u = sym (append_assoc (take h.0 t) (drop h.0 t) u) ∙ ap (λ (xs : List ℕ). xs ++ u) (take-append-drop h.0 t) in
    let part : take (length (take h.0 t)) (t ++ u) ≡ take h.0 t =
    ap (λ (xs : List ℕ). take (length (take h.0 t)) xs) (sym whole) ∙ take-append_seam (take h.0 t) (drop h.0 t ++ u) in
    (length (take h.0 t), h.1 ∙ ap (λ (xs : List ℕ). Some (before ++ xs)) (sym part))

-- a console after each piece

pub none_said : {C : Type 0} (said : C → Option (List ℕ)) (failures : C → ℕ) (hears : C → ℕ → Type 0) (c : C) → IsSaid said failures hears c c [] (Ok tt)
none_said said failures hears c = record {
  cause = refl;
  says = says_nothing (said c);
  heard = λ n h l. (refl, (let P : ℕ → Type 0 = λ m. hears c m in subst P (let d : n ≡ n - length {A = ℕ} [] = omega arith in d) h));
}

pub one_said : {C : Type 0} {said : C → Option (List ℕ)} {failures : C → ℕ} {hears : C → ℕ → Type 0} {a b : C} {t : List ℕ} {r : Result (Unit {0}) Failed}
    → HasCause (failures a) (failures b) r → SaysPiece (said a) (said b) t r → ((n : ℕ) → hears a n → length t ≤ n → IsOk r × hears b (n - length t)) → IsSaid said failures hears a b t r
one_said cause says heard = record { cause = cause; says = says; heard = heard }

then_ok : {C : Type 0} (said : C → Option (List ℕ)) (failures : C → ℕ) (hears : C → ℕ → Type 0) (a b c : C) (t u : List ℕ) (x : Unit {0}) (r : Result (Unit {0}) Failed)
    → IsSaid said failures hears a b t (Ok x) → IsSaid said failures hears b c u r → IsSaid said failures hears a c (t ++ u) r
then_ok said failures hears a b c t u x r h k = record {
  cause = let P : ℕ → Type 0 = λ n. HasCause n (failures c) r in subst P h.cause k.cause;
  says = says_more (said a) (said b) (said c) t u x r h.says k.says;
  heard = λ n fits l.
      let e : length (t ++ u) ≡ length t + length u = length-append t u in
      let p = h.heard n fits (omega arith) in
      let q = k.heard (n - length t) p.1 (omega arith) in
      let d : n - length t - length u ≡ n - length (t ++ u) = omega arith in
      (q.0, (let P : ℕ → Type 0 = λ m. hears c m in subst P d q.1));
}

pub then_said : {C : Type 0} {said : C → Option (List ℕ)} {failures : C → ℕ} {hears : C → ℕ → Type 0} {a b c : C} {t u : List ℕ} {r s : Result (Unit {0}) Failed} {x : Unit {0}}
    → r ≡ Ok x → IsSaid said failures hears a b t r → IsSaid said failures hears b c u s → IsSaid said failures hears a c (t ++ u) s
then_said {said = said} {failures = failures} {hears = hears} {a = a} {b = b} {c = c} {t = t} {u = u} {r = r} {s = s} {x = x} is h k =
    let P : Result (Unit {0}) Failed → Type 0 = λ r. IsSaid said failures hears a b t r in
    then_ok said failures hears a b c t u x s (subst P is h) k

part_said : {C : Type 0} (said : C → Option (List ℕ)) (failures : C → ℕ) (hears : C → ℕ → Type 0) (a b : C) (t u : List ℕ) (e : Failed)
    → IsSaid said failures hears a b t (Err e) → IsSaid said failures hears a b (t ++ u) (Err e)
part_said said failures hears a b t u e h = record {
  cause = h.cause;
  says = says_part (said a) (said b) t u e h.says;
  heard = λ n k l. let many : length (t ++ u) ≡ length t + length u = length-append t u in absurd (false≢true (h.heard n k (omega arith)).0);
}

-- nothing more is said after a failure
pub cut_said : {C : Type 0} {said : C → Option (List ℕ)} {failures : C → ℕ} {hears : C → ℕ → Type 0} {a b : C} {t : List ℕ} {e : Failed} (r : Result (Unit {0}) Failed) (u : List ℕ)
    → r ≡ Err e → IsSaid said failures hears a b t r → IsSaid said failures hears a b (t ++ u) r
cut_said {said = said} {failures = failures} {hears = hears} {a = a} {b = b} {t = t} {e = e} r u is h =
    let P : Result (Unit {0}) Failed → Type 0 = λ r. IsSaid said failures hears a b t r in
    let Q : Result (Unit {0}) Failed → Type 0 = λ r. IsSaid said failures hears a b (t ++ u) r in
    subst Q (sym is) (part_said said failures hears a b t u e (subst P is h))

-- the failure is handed on
pub handed_on : {C : Type 0} {said : C → Option (List ℕ)} {failures : C → ℕ} {hears : C → ℕ → Type 0} {a b : C} {t : List ℕ} {e : Failed} (r s : Result (Unit {0}) Failed)
    → r ≡ Err e → IsErr s → IsSaid said failures hears a b t r → IsSaid said failures hears a b t s
handed_on r (Ok x) is err h = absurd (false≢true err)
handed_on {said = said} {failures = failures} {hears = hears} {a = a} {b = b} {t = t} r (Err e') is err h = let P : Result (Unit {0}) Failed → Type 0 = λ r. IsSaid said failures hears a b t r in subst P is h

pub regroup : (a b c d : List ℕ) → a ++ (b ++ c ++ d) ≡ a ++ b ++ c ++ d
regroup a b c d = sym (append_assoc a (b ++ c) d) ∙ ap (λ (xs : List ℕ). xs ++ d) (sym (append_assoc a b c))

pub regroup_trap : (a b l m c n s o k e : List ℕ) → a ++ ((b ++ l ++ m ++ c ++ n ++ s ++ o ++ k) ++ e) ≡ (((a ++ b) ++ l) ++ (m ++ c)) ++ (n ++ s) ++ (o ++ k ++ e)
regroup_trap a b l m c n s o k e = simp append_assoc refl

-- a console after all of them

begun_of : (a b : Option (List ℕ)) (t : List ℕ) (r : Result (Unit {0}) Failed) → SaysPiece a b t r → IfSome a (λ before. (n : ℕ) × (b ≡ Some (before ++ take n t)))
begun_of None b t r h = tt
begun_of (Some before) b t (Ok done) h =
    let whole : take (length t) t ≡ t = ap (λ (xs : List ℕ). take (length t) xs) (sym (append-nil t)) ∙ take-append_seam t [] in
    (length t, h ∙ ap (λ (xs : List ℕ). Some (before ++ xs)) (sym whole))
begun_of (Some before) b t (Err e) h = h

whole_of : (a b : Option (List ℕ)) (t : List ℕ) (x : Unit {0}) → SaysPiece {E = Failed} a b t (Ok x) → IfSome a (λ before. b ≡ Some (before ++ t))
whole_of None b t x h = tt
whole_of (Some before) b t x h = h

later_of : (n m : ℕ) (r : Result (Unit {0}) Failed) → HasCause n m r → n ≤ m
later_of n m (Ok x) h = omega arith
later_of n m (Err e) h = h.0

ok_heard : (a b : Option (List ℕ)) (t : List ℕ) (r : Result (Unit {0}) Failed) → IsOk r → SaysPiece a b t r → IfSome a (λ before. b ≡ Some (before ++ t))
ok_heard a b t (Ok x) h k = whole_of a b t x k
ok_heard a b t (Err e) h k = absurd (false≢true h)

whole_said : (a b : Option (List ℕ)) (n m : ℕ) (t : List ℕ) (r : Result (Unit {0}) Failed) → HasCause n m r → SaysPiece a b t r → (Rose n m → ⊥) → IfSome a (λ before. b ≡ Some (before ++ t))
whole_said a b n m t (Ok x) h k quiet = whole_of a b t x k
whole_said a b n m t (Err e) h k quiet = absurd (quiet h)

pub speaks : {C : Type 0} (said : C → Option (List ℕ)) (failures : C → ℕ) (hears : C → ℕ → Type 0) (a b : C) (t : List ℕ) (r : Result (Unit {0}) Failed)
    → IsSaid said failures hears a b t r → Speaks (said a) (said b) (failures a) (failures b) t
speaks said failures hears a b t r h = record {
  later = later_of (failures a) (failures b) r h.cause;
  begun = begun_of (said a) (said b) t r h.says;
  whole = whole_said (said a) (said b) (failures a) (failures b) t r h.cause h.says;
}

pub is_heard : {C : Type 0} (said : C → Option (List ℕ)) (failures : C → ℕ) (hears : C → ℕ → Type 0) (a b : C) (t : List ℕ) (r : Result (Unit {0}) Failed)
    → IsSaid said failures hears a b t r → IsHeard (said a) (said b) (hears a) (hears b) t
is_heard said failures hears a b t r h = λ n k l.
    let p = h.heard n k l in
    (ok_heard (said a) (said b) t r p.0 h.says, p.1)
