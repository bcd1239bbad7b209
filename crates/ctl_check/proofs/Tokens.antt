-- The tokens of a module.
use Rattle.std.proofs.Common.{◌≡◌, ◌<◌, ◌+◌, ℕ, zero, suc, List, [], ◌∷◌, ◌++◌, All, length, drop, get_or, Some, sym, subst, ap, ◌∙◌, arith}
use Rattle.std.specs.Prelude.{slice_get}
use Rattle.std.proofs.lemmas.List.Elements.{All-head, All-tail}
use Rattle.ctl_tree.specs.Units.{SourceUnit}
use Rattle.ctl_tree.specs.OwnTokens.{Tokens, Below, OwnTokensBelow, all_tokens, import_tokens, definition_tokens, constant_tokens, function_tokens, definition_step, namespace_step}
use Rattle.ctl_types.specs.Definitions.{Defined}
use Rattle.ctl_types.specs.Scoping.{tokens_of}
use Rattle.ctl_scope.specs.Scope.{ScopeForm}
use Rattle.ctl_scope.specs.Changes.{in_unit}
use Rattle.ctl_tree.specs.declared.declaration.Constant.{Constant}
use Rattle.ctl_tree.specs.declared.definition.Function.{Function}
use Rattle.ctl_tree.specs.declared.definition.Definition.{Definition}
use Rattle.ctl_tree.specs.declared.definition.Namespace.{Namespace, out-Namespace}
use Rattle.ctl_tree.specs.declared.definition.Definition.TheVariants as variant
use Rattle.ctl_tree.specs.declared.definition.Definition.TheOpen as layer
use Rattle.ctl_tree.specs.declared.definition.Definition.TheFolds.{fold-roll-Definition, fold_out-Namespace}
use Rattle.ctl_check_function.specs.Laws.{AreTokens}
use Rattle.ctl_check.specs.Keeps.{Rests, TokensOf}

-- tokens in front, and behind
pub below_first : (n : ℕ) (xs ys : Tokens) → Below n (xs ++ ys) → Below n xs
below_first n [] ys a k d l = absurd (omega arith)
below_first n (x ∷ xs) ys a zero d l = All-head (λ token. token < n) x (xs ++ ys) a
below_first n (x ∷ xs) ys a (suc k) d l = below_first n xs ys (All-tail (λ token. token < n) x (xs ++ ys) a) k d (omega arith)

pub below_second : (n : ℕ) (xs ys : Tokens) → Below n (xs ++ ys) → Below n ys
below_second n [] ys a = a
below_second n (x ∷ xs) ys a = below_second n xs ys (All-tail (λ token. token < n) x (xs ++ ys) a)

-- the list from an item on
drop_next : {A : Type 0} (xs : List A) (i : ℕ) (x : A) → i < length xs → x ≡ get_or xs i x → drop i xs ≡ x ∷ drop (suc i) xs
drop_next [] i x less is = absurd (omega arith)
drop_next (y ∷ xs) zero x less is = ap (λ z. z ∷ xs) (sym is)
drop_next (y ∷ xs) (suc i) x less is = drop_next xs i x (omega arith) is

one_more : (i : ℕ) → suc i ≡ i + 1
one_more i = omega arith

pub drop_item : {A : Type 0} (xs : List A) (i : ℕ) (x : A) → i < length xs → x ≡ get_or xs i x → drop i xs ≡ x ∷ drop (i + 1) xs
drop_item xs i x less is = subst (λ n. drop i xs ≡ x ∷ drop n xs) (one_more i) (drop_next xs i x less is)

-- they are tokens of the module still while definitions are made
pub tokens_stay : (s : ScopeForm) (d : Defined) (after : ScopeForm) (more : Defined) (ts : Tokens) → Rests s d after more → TokensOf s d ts → TokensOf after more ts
tokens_stay s d after more ts r h = record { below = subst (λ units. Below (get_or (tokens_of units) after.unit 0) ts) (sym r.units) (subst (λ unit. Below (get_or (tokens_of d.units) unit 0) ts) (sym r.stays.unit) h.below) }

-- ---- the tokens of a definition

tokens_as : (s : ScopeForm) (d : Defined) (ts us : Tokens) → ts ≡ us → TokensOf s d ts → TokensOf s d us
tokens_as s d ts us e h = subst (λ ts. TokensOf s d ts) e h

pub constant_own : (s : ScopeForm) (d : Defined) (e : Definition) (c : Constant) → e ≡ variant.Constant c → TokensOf s d (definition_tokens e) → TokensOf s d (constant_tokens c)
constant_own s d e c is h = tokens_as s d (definition_tokens e) (constant_tokens c) (ap definition_tokens (is ∙ sym (variant.rolls-Constant c)) ∙ fold-roll-Definition Tokens Tokens definition_step namespace_step (layer.Constant c)) h

pub function_own : (s : ScopeForm) (d : Defined) (e : Definition) (f : Function) → e ≡ variant.Function f → TokensOf s d (definition_tokens e) → TokensOf s d (function_tokens f)
function_own s d e f is h = tokens_as s d (definition_tokens e) (function_tokens f) (ap definition_tokens (is ∙ sym (variant.rolls-Function f)) ∙ fold-roll-Definition Tokens Tokens definition_step namespace_step (layer.Function f)) h

pub space_own : (s : ScopeForm) (d : Defined) (e : Definition) (space : Namespace) → e ≡ variant.Namespace space → TokensOf s d (definition_tokens e) → TokensOf s d (all_tokens definition_tokens (out-Namespace space).definitions)
space_own s d e space is h =
    let own : definition_tokens e ≡ (out-Namespace space).token ∷ all_tokens definition_tokens (out-Namespace space).definitions =
    ap definition_tokens (is ∙ sym (variant.rolls-Namespace space)) ∙ fold-roll-Definition Tokens Tokens definition_step namespace_step (layer.Namespace space) ∙ fold_out-Namespace Tokens Tokens definition_step namespace_step space in
    record { below = All-tail (λ token. token < get_or (tokens_of d.units) s.unit 0) (out-Namespace space).token (all_tokens definition_tokens (out-Namespace space).definitions) (tokens_as s d _ _ own h).below }

-- ---- the tokens of some definitions

-- the first of those that are left, and the rest
parts_cut : (parts : List Definition) (i : ℕ) (item : Definition) → i < length parts → item ≡ get_or parts i item → all_tokens definition_tokens (drop i parts) ≡ definition_tokens item ++ all_tokens definition_tokens (drop (i + 1) parts)
parts_cut parts i item less is = ap (λ (ps : List Definition). all_tokens definition_tokens ps) (drop_item parts i item less is)

pub item_own : (s : ScopeForm) (d : Defined) (parts : List Definition) (i : ℕ) (item : Definition) → i < length parts → item ≡ get_or parts i item → TokensOf s d (all_tokens definition_tokens (drop i parts)) → TokensOf s d (definition_tokens item)
item_own s d parts i item less is h = record { below = below_first (get_or (tokens_of d.units) s.unit 0) (definition_tokens item) (all_tokens definition_tokens (drop (i + 1) parts)) (tokens_as s d _ _ (parts_cut parts i item less is) h).below }

pub rest_own : (s : ScopeForm) (d : Defined) (parts : List Definition) (i : ℕ) (item : Definition) → i < length parts → item ≡ get_or parts i item → TokensOf s d (all_tokens definition_tokens (drop i parts)) → TokensOf s d (all_tokens definition_tokens (drop (i + 1) parts))
rest_own s d parts i item less is h = record { below = below_second (get_or (tokens_of d.units) s.unit 0) (definition_tokens item) (all_tokens definition_tokens (drop (i + 1) parts)) (tokens_as s d _ _ (parts_cut parts i item less is) h).below }

pub all_own : (s : ScopeForm) (d : Defined) (parts : List Definition) → TokensOf s d (all_tokens definition_tokens parts) → TokensOf s d (all_tokens definition_tokens (drop 0 parts))
all_own s d [] h = h
all_own s d (p ∷ parts) h = h

-- how many tokens a unit has
pub count_of : (units : List SourceUnit) (place : ℕ) (u : SourceUnit) → slice_get units place ≡ Some u → get_or (tokens_of units) place 0 ≡ length u.tokens
count_of [] place u e = grind arith
count_of (v ∷ units) zero u e = grind arith
count_of (v ∷ units) (suc k) u e = count_of units k u e

-- the definitions of a unit have tokens of it
pub unit_tokens : (s : ScopeForm) (d : Defined) (place : ℕ) (u : SourceUnit) → slice_get d.units place ≡ Some u → OwnTokensBelow (length u.tokens) u.«module» → TokensOf (in_unit place s) d (all_tokens definition_tokens u.«module».definitions)
unit_tokens s d place u e h = record {
  below = subst (λ n. Below n (all_tokens definition_tokens u.«module».definitions)) (sym (count_of d.units place u e))
      (below_second (length u.tokens) (all_tokens import_tokens u.«module».imports) (all_tokens definition_tokens u.«module».definitions) h);
}
