-- The function that the rule of entries finds among typed functions, by its own token.
use Rattle.std.proofs.Common.{◌≡◌, ℕ, zero, suc, ◌+◌, ◌≤◌, ◌<◌, List, [], ◌∷◌, ◌++◌, length, Option, Some, None, Bool, true, false, not, ◌&&◌, ◌==◌, if◌then◌else◌, slice_get, refl, sym, ap, subst, ◌∙◌, arith, eqb-true}
use Rattle.std.specs.Prelude.{bytes_eq, count_by, codes}
use Rattle.std.specs.Cmp.Lexicographic.{bytes_decides}
use Rattle.std.proofs.lemmas.List.Sums.{sum_by-append}
use Rattle.ctl_types.specs.declared.program.Function.{Function}
use Rattle.ctl_types.specs.Definitions.{first_found, is_unqualified, function_named}
use Rattle.ctl_scope.specs.Changes.{prefix, but_last}
use Rattle.definition_laws.proofs.Verdicts.{both}

-- ---- the first that is there

pub found_none : (o : Option ℕ) → first_found o None ≡ o
found_none None = refl
found_none (Some k) = refl

pub found_assoc : (a b c : Option ℕ) → first_found (first_found a b) c ≡ first_found a (first_found b c)
found_assoc None b c = refl
found_assoc (Some k) b c = refl

-- ---- the first function of a name

-- a function of a module with this name, outside all namespaces
abbrev pub matches : List ℕ → ℕ → Function → Bool
matches name last f = bytes_eq f.name name && (f.node.«module» == last && is_unqualified f.name)

abbrev pub token_where : Bool → ℕ → Option ℕ
token_where b token = if b then Some token else None

-- the token of the first one
abbrev pub token_found : List ℕ → ℕ → List Function → Option ℕ
token_found name last [] = None
token_found name last (f ∷ fs) = first_found (token_where (matches name last f) f.node.token) (token_found name last fs)

pub found_more : (name : List ℕ) (last : ℕ) (fs : List Function) (f : Function) → token_found name last (fs ++ f ∷ []) ≡ first_found (token_found name last fs) (token_where (matches name last f) f.node.token)
found_more name last [] f = found_none (token_where (matches name last f) f.node.token)
found_more name last (g ∷ fs) f =
    ap (λ o. first_found (token_where (matches name last g) g.node.token) o) (found_more name last fs f)
    ∙ sym (found_assoc (token_where (matches name last g) g.node.token) (token_found name last fs) (token_where (matches name last f) f.node.token))

-- the one that is found by its number
pub record NamedAt (name : List ℕ) (last n : ℕ) (fs : List Function) : Type 0 where
  pub found : Function
  pub there : slice_get fs n ≡ Some found
  pub fits : matches name last found ≡ true
  pub token : token_found name last fs ≡ Some found.node.token

pub record NamedFrom (name : List ℕ) (last k n : ℕ) (fs : List Function) : Type 0 where
  pub place : ℕ
  pub number : n ≡ k + place
  pub at : NamedAt name last place fs

some_number : (a b : ℕ) → Some a ≡ Some b → a ≡ b
some_number a b e = grind arith

named_from : (name : List ℕ) (last k n : ℕ) (fs : List Function) → function_named name last k fs ≡ Some n → NamedFrom name last k n fs
named_from name last k n [] e = absurd (cc)
named_from name last k n (f ∷ fs) e = by (matches name last f) refl (named_from name last (k + 1) n fs) e where
  by : (b : Bool) → matches name last f ≡ b → (function_named name last (k + 1) fs ≡ Some n → NamedFrom name last (k + 1) n fs) → (if b then Some k else function_named name last (k + 1) fs) ≡ Some n → NamedFrom name last k n (f ∷ fs)
  by true m rest h =
      let same = some_number k n h in
      record {
        place = 0;
        number = omega arith;
        at = record { found = f; there = refl; fits = m; token = ap (λ b. first_found (token_where b f.node.token) (token_found name last fs)) m };
      }
  by false m more h =
      let rest = more h in
      let number = rest.number in
      record {
        place = suc rest.place;
        number = omega arith;
        at = record { found = rest.at.found; there = rest.at.there; fits = rest.at.fits; token = ap (λ b. first_found (token_where b f.node.token) (token_found name last fs)) m ∙ rest.at.token };
      }

pub named_at : (name : List ℕ) (last n : ℕ) (fs : List Function) → function_named name last 0 fs ≡ Some n → NamedAt name last n fs
named_at name last n fs e =
    let from = named_from name last 0 n fs e in
    let number = from.number in
    let same : from.place ≡ n = omega arith in
    subst (λ n. NamedAt name last n fs) same from.at

pub named_none : (name : List ℕ) (last k : ℕ) (fs : List Function) → function_named name last k fs ≡ None → token_found name last fs ≡ None
named_none name last k [] e = refl
named_none name last k (f ∷ fs) e = by (matches name last f) refl (named_none name last (k + 1) fs) e where
  by : (b : Bool) → matches name last f ≡ b → (function_named name last (k + 1) fs ≡ None → token_found name last fs ≡ None) → (if b then Some k else function_named name last (k + 1) fs) ≡ None → token_found name last (f ∷ fs) ≡ None
  by true m rest h = absurd (cc)
  by false m rest h = ap (λ b. first_found (token_where b f.node.token) (token_found name last fs)) m ∙ rest h

-- ---- what holds of all functions and one more

pub all_more : (P : Function → Type 0) (fs : List Function) (g : Function) → ((k : ℕ) (f : Function) → slice_get fs k ≡ Some f → P f) → P g → (k : ℕ) (f : Function) → slice_get (fs ++ g ∷ []) k ≡ Some f → P f
all_more P [] g h p zero f e = subst P (one_function g f e) p where
  one_function : (a b : Function) → Some a ≡ Some b → a ≡ b
  one_function a b e = cc
all_more P [] g h p (suc k) f e = absurd (cc)
all_more P (x ∷ fs) g h p zero f e = h zero f e
all_more P (x ∷ fs) g h p (suc k) f e = all_more P fs g (λ k f e. h (suc k) f e) p k f e

-- ---- names in namespaces

abbrev colons : List ℕ → ℕ
colons name = count_by (λ byte. byte == 58) name

no_zero : (n : ℕ) → 1 ≤ n → (n == 0) ≡ false
no_zero n l = by (n == 0) refl where
  by : (b : Bool) → (n == 0) ≡ b → (n == 0) ≡ false
  by false e = e
  by true e = let z = eqb-true n 0 e in absurd (omega arith)

-- a name behind a namespace is no unqualified one
pub qualified : (space name : List ℕ) → is_unqualified ((space ++ codes "::") ++ name) ≡ false
qualified space name =
    let whole : colons ((space ++ codes "::") ++ name) ≡ colons (space ++ codes "::") + colons name = sum_by-append (λ (byte : ℕ). if byte == 58 then 1 else 0) (space ++ codes "::") name in
    let front : colons (space ++ codes "::") ≡ colons space + colons (codes "::") = sum_by-append (λ (byte : ℕ). if byte == 58 then 1 else 0) space (codes "::") in
    let two : colons (codes "::") ≡ 2 = refl in
    no_zero (colons ((space ++ codes "::") ++ name)) (omega arith)

-- the innermost namespace
pub prefix_last : (spaces : List (List ℕ)) (s : List ℕ) → prefix (spaces ++ s ∷ []) ≡ s
prefix_last [] s = refl
prefix_last (a ∷ []) s = refl
prefix_last (a ∷ b ∷ spaces) s = prefix_last (b ∷ spaces) s

pub but_last_is : (spaces : List (List ℕ)) (s : List ℕ) → but_last (spaces ++ s ∷ []) ≡ spaces
but_last_is [] s = refl
but_last_is (a ∷ []) s = refl
but_last_is (a ∷ b ∷ spaces) s = ap (λ (rest : List (List ℕ)). a ∷ rest) (but_last_is (b ∷ spaces) s)
