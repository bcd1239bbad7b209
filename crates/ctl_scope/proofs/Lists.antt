-- Names with namespaces in front, and variables that are hidden one after the other.
use Rattle.std.proofs.Common.{◌≡◌, ℕ, zero, suc, ◌+◌, ◌-◌, ◌<◌, ◌≤◌, List, [], ◌∷◌, ◌++◌, length, replicate, Option, Some, None, slice_get, slice_set, refl, sym, ap, ◌∙◌, arith, append_assoc}
use Rattle.std.specs.Prelude.{codes, MatchOption}
use Rattle.ctl_types.specs.Typing.{Variables}
use Rattle.ctl_scope.specs.Scope.{behind}
use Rattle.ctl_scope.specs.Changes.{prefix, but_last, hidden_from}

some_same : {A : Type 0} (x y : A) → Some x ≡ Some y → x ≡ y
some_same x y h = grind arith

-- the last namespace
pub last_is : (spaces : List (List ℕ)) (s : List ℕ) (k : ℕ) → suc k ≡ length spaces → slice_get spaces k ≡ Some s → prefix spaces ≡ s
last_is [] s k e h = absurd (omega arith)
last_is (x ∷ []) s zero e h = some_same x s h
last_is (x ∷ []) s (suc k) e h = absurd (omega arith)
last_is (x ∷ y ∷ rest) s zero e h = absurd (omega arith)
last_is (x ∷ y ∷ rest) s (suc k) e h = last_is (y ∷ rest) s k (omega arith) h

-- a namespace goes behind what is written
pub written_on : (text space name : List ℕ) (spaces : List (List ℕ)) → text ++ behind (space ∷ spaces) name ≡ ((text ++ space) ++ codes "::") ++ behind spaces name
written_on text space name spaces = sym (append_assoc (text ++ space) (codes "::") (behind spaces name) ∙ append_assoc text space (codes "::" ++ behind spaces name))

-- variables from s to e are hidden
abbrev pub hidden : ℕ → ℕ → Variables → Variables
hidden s e [] = []
hidden zero zero (v ∷ vs) = v ∷ vs
hidden zero (suc e) (v ∷ vs) = None ∷ hidden zero e vs
hidden (suc s) zero (v ∷ vs) = v ∷ vs
hidden (suc s) (suc e) (v ∷ vs) = v ∷ hidden s e vs

pub hidden_none : (s : ℕ) (vs : Variables) → hidden s s vs ≡ vs
hidden_none s [] = refl
hidden_none zero (v ∷ vs) = refl
hidden_none (suc s) (v ∷ vs) = ap (λ rest. v ∷ rest) (hidden_none s vs)

pub hidden_long : (s e : ℕ) (vs : Variables) → length (hidden s e vs) ≡ length vs
hidden_long s e [] = refl
hidden_long zero zero (v ∷ vs) = refl
hidden_long zero (suc e) (v ∷ vs) = ap suc (hidden_long zero e vs)
hidden_long (suc s) zero (v ∷ vs) = refl
hidden_long (suc s) (suc e) (v ∷ vs) = ap suc (hidden_long s e vs)

hidden_more : (s e : ℕ) (vs : Variables) → s ≤ e → e < length vs → slice_set (hidden s e vs) e None ≡ hidden s (suc e) vs
hidden_more s e [] l m = absurd (omega arith)
hidden_more zero zero (v ∷ vs) l m = ap (λ rest. None ∷ rest) (sym (hidden_none zero vs))
hidden_more zero (suc e) (v ∷ vs) l m = ap (λ rest. None ∷ rest) (hidden_more zero e vs (omega arith) (omega arith))
hidden_more (suc s) zero (v ∷ vs) l m = absurd (omega arith)
hidden_more (suc s) (suc e) (v ∷ vs) l m = ap (λ rest. v ∷ rest) (hidden_more s e vs (omega arith) (omega arith))

hidden_rest : (vs : Variables) → hidden zero (length vs) vs ≡ replicate (length vs) None
hidden_rest [] = refl
hidden_rest (v ∷ vs) = ap (λ rest. None ∷ rest) (hidden_rest vs)

hidden_all : (s : ℕ) (vs : Variables) → s ≤ length vs → hidden s (length vs) vs ≡ hidden_from s vs
hidden_all zero [] l = refl
hidden_all (suc s) [] l = absurd (omega arith)
hidden_all zero (v ∷ vs) l =
    let all : length (v ∷ vs) - zero ≡ suc (length vs) = omega arith in
    rw all (ap (λ rest. None ∷ rest) (hidden_rest vs))
hidden_all (suc s) (v ∷ vs) l =
    let fewer : length (v ∷ vs) - suc s ≡ length vs - s = omega arith in
    rw fewer (ap (λ rest. v ∷ rest) (hidden_all s vs (omega arith)))

-- one more is hidden
pub hidden_next : (s e f : ℕ) (vs ws : Variables) → f ≡ e + 1 → s ≤ e → e < length vs → ws ≡ hidden s e vs → slice_set ws e None ≡ hidden s f vs
hidden_next s e f vs ws next l m is =
    let same : suc e ≡ f = omega (arith, next) in
    ap (λ w. slice_set w e None) is ∙ hidden_more s e vs l m ∙ ap (λ k. hidden s k vs) same

-- all are hidden
pub hidden_done : (s e : ℕ) (vs ws : Variables) → s ≤ length vs → e ≡ length vs → ws ≡ hidden s e vs → ws ≡ hidden_from s vs
hidden_done s e vs ws l done is = is ∙ ap (λ k. hidden s k vs) done ∙ hidden_all s vs l

-- all but the last
last_off : (spaces rest : List (List ℕ)) (s : List ℕ) → spaces ≡ rest ++ s ∷ [] → but_last spaces ≡ rest
last_off spaces rest s e = ap but_last e ∙ without rest s where
  without : (rest : List (List ℕ)) (s : List ℕ) → but_last (rest ++ s ∷ []) ≡ rest
  without [] s = refl
  without (x ∷ []) s = refl
  without (x ∷ y ∷ rest) s = ap (λ l. x ∷ l) (without (y ∷ rest) s)

pub popped : (r : Option (List ℕ)) (spaces rest : List (List ℕ)) → MatchOption r ((spaces ≡ []) × (rest ≡ [])) (λ last. spaces ≡ rest ++ last ∷ []) → but_last spaces ≡ rest
popped (Some s) spaces rest h = last_off spaces rest s h
popped None spaces rest h = ap but_last h.0 ∙ sym h.1
