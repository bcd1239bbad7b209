-- The entry of a program that the checker accepts keeps its rule.
use Rattle.std.proofs.Common.{◌≡◌, ℕ, zero, suc, ◌+◌, ◌-◌, ◌≤◌, ◌<◌, List, [], ◌∷◌, ◌++◌, map, length, Option, Some, None, Result, Ok, Err, Bool, true, false, not, ◌&&◌, ◌==◌, if◌then◌else◌, slice_get, refl, sym, ap, subst, ◌∙◌, arith, eqb-true, eq-eqb}
use Rattle.std.specs.Prelude.{bytes_eq, codes}
use Rattle.std.specs.Cmp.Lexicographic.{bytes_decides}
use Rattle.ctl_tree.specs.Units.{SourceUnit}
use Rattle.ctl_tree.specs.declared.declaration.Constant.{Constant}
use Rattle.ctl_tree.specs.declared.definition.Struct.{Struct}
use Rattle.ctl_tree.specs.declared.definition.Function.{Function as Written}
use Rattle.ctl_tree.specs.declared.definition.Definition.{Definition, roll-Definition, out-Definition}
use Rattle.ctl_tree.specs.declared.definition.Namespace.{Namespace, roll-Namespace}
use Rattle.ctl_tree.specs.declared.definition.Definition.TheViews.{out-roll-Definition}
use Rattle.ctl_tree.specs.declared.definition.Definition.TheOpen.{Definition-F, Namespace-F, Namespace as NamespaceForm, Struct as StructForm, Constant as ConstantForm, Function as FunctionForm}
use Rattle.ctl_tree.specs.declared.definition.Definition.TheFolds.{fold-roll-Definition, fold-roll-Namespace, map-Definition, map-Namespace, ind-Definition}
use Rattle.ctl_types.specs.declared.program.Function.{Function}
use Rattle.ctl_types.specs.declared.program.Struct.{Struct as TypedStruct}
use Rattle.ctl_types.specs.declared.program.Constant.{Constant as TypedConstant}
use Rattle.ctl_types.specs.Definitions.{Defined, first_found, is_unqualified, function_named, stem, root_file, entry_number}
use Rattle.ctl_types.specs.Scoping.{is_void, are_plain, entry_stands, library_definitions, with_struct, with_constant, with_function}
use Rattle.ctl_types.specs.Scoping as typed
use Rattle.ctl_types.specs.Shapes.{struct_scalars}
use Rattle.ctl_scope.specs.declared.meaning.Meaning.{Meaning}
use Rattle.ctl_scope.specs.Names.{meaning_in}
use Rattle.ctl_scope.specs.Scope.{ScopeForm, is_none}
use Rattle.ctl_scope.specs.Changes.{prefix, whole_name, is_defined, in_unit, in_space, out_of_space, with_new, with_space, library_scope, after_function}
use Rattle.ctl_scope.specs.Changes as named
use Rattle.ctl_check_rules.specs.Faults.{Verdict, ◌>>=◌, rule_at, node_of}
use Rattle.ctl_check_statement.specs.Leading.{Led}
use Rattle.ctl_check_function.specs.declared.functions.Made.{Made}
use Rattle.ctl_check_function.specs.Structs.{fields_checked, struct_rule, struct_named, struct_checked}
use Rattle.ctl_check_function.specs.Constants.{constant_formed, constant_checked}
use Rattle.ctl_check_function.specs.Functions.{function_checked}
use Rattle.ctl_check_function.specs.Entry.{token_in, function_token, entry_in, entry_token, is_entry}
use Rattle.ctl_check_function.specs.Defining.{Defining, struct_defined, constant_defined, function_defined, all_defined, space_rule, space_named, space_defined, definition_step, namespace_step, defined, namespace_defined}
use Rattle.ctl_check_function.specs.Programs.{unit_defined, units_defined}
use Rattle.ctl_check_function.specs.Laws.{EntryStands}
use Rattle.definition_laws.proofs.Verdicts.{Good, good_then, good_any, good_more, good_of, both, and_true}
use Rattle.definition_laws.proofs.Heads.{FunctionWell, function_good}
use Rattle.definition_laws.proofs.Tokens.{found_none, found_assoc, matches, token_where, token_found, found_more, NamedAt, named_at, named_none, all_more, qualified, prefix_last, but_last_is}

-- names in a namespace are qualified
abbrev Coloned : List (List ℕ) → Type 0
Coloned spaces = is_none spaces ≡ false → (name : List ℕ) → is_unqualified (prefix spaces ++ name) ≡ false

in_space_coloned : (s : ScopeForm) (name : List ℕ) → Coloned (in_space name s).spaces
in_space_coloned s name e x = ap (λ (p : List ℕ). is_unqualified (p ++ x)) (prefix_last s.spaces (whole_name s name ++ codes "::")) ∙ qualified (whole_name s name) x

some_spaces : (spaces : List (List ℕ)) (s : List ℕ) → is_none (spaces ++ s ∷ []) ≡ false
some_spaces [] s = refl
some_spaces (a ∷ spaces) s = refl

-- the token of the first function of a name that the root defines outside all namespaces
abbrev root : List ℕ → List SourceUnit → Option ℕ
root name [] = None
root name (u ∷ []) = function_token name u.«module».definitions
root name (u ∷ v ∷ us) = root name (v ∷ us)

module _ (units : List SourceUnit) (name : List ℕ) (plain_name : is_unqualified name ≡ true) where
  abbrev last : ℕ
  last = length units - 1

  -- the entry keeps its rule
  abbrev Plain : Function → Type 0
  Plain f = is_entry units f.node.«module» f.node.token ≡ true → typed.is_entry (Some f) ≡ true

  abbrev AllPlain : List Function → Type 0
  AllPlain fs = (k : ℕ) (f : Function) → slice_get fs k ≡ Some f → Plain f

  -- what a definition of the root outside all namespaces gives
  abbrev here : ScopeForm → Option ℕ → Option ℕ
  here s o = if s.unit == last && is_none s.spaces then o else None

  here_none : (s : ScopeForm) → here s None ≡ None
  here_none s = by (s.unit == last && is_none s.spaces) where
    by : (b : Bool) → ◌≡◌ {A = Option ℕ} (if b then None else None) None
    by true = refl
    by false = refl

  here_found : (s : ScopeForm) (a b : Option ℕ) → here s (first_found a b) ≡ first_found (here s a) (here s b)
  here_found s a b = by (s.unit == last && is_none s.spaces) where
    by : (t : Bool) → (if t then first_found a b else None) ≡ first_found (if t then a else None) (if t then b else None)
    by true = refl
    by false = refl

  inside_none : (s : ScopeForm) (o : Option ℕ) → is_none s.spaces ≡ false → here s o ≡ None
  inside_none s o e = by (s.unit == last) (is_none s.spaces) e where
    by : (a b : Bool) → b ≡ false → (if a && b then o else None) ≡ None
    by true false e = refl
    by false b e = refl
    by true true e = absurd (cc)

  -- what a definition changes
  record Step (before after : Led Defined) (more : Option ℕ) : Type 0 where
    token : token_found name last after.made.functions ≡ first_found (token_found name last before.made.functions) more
    units_stay : after.made.units ≡ before.made.units
    unit : after.scope.unit ≡ before.scope.unit
    spaces : after.scope.spaces ≡ before.scope.spaces
    plain : AllPlain before.made.functions → AllPlain after.made.functions

  abbrev Holds : Defining → Option ℕ → Type 0
  Holds a give = (before : Led Defined) → before.made.units ≡ units → Coloned before.scope.spaces → Good (λ (after : Led Defined). Step before after (here before.scope give)) (a before)

  -- where no function is made
  step_none : (before after : Led Defined) → after.made.functions ≡ before.made.functions → after.made.units ≡ before.made.units → after.scope.unit ≡ before.scope.unit → after.scope.spaces ≡ before.scope.spaces → Step before after (here before.scope None)
  step_none before after f u n s = record {
    token = ap (λ (fs : List Function). token_found name last fs) f ∙ sym (found_none (token_found name last before.made.functions)) ∙ ap (λ o. first_found (token_found name last before.made.functions) o) (sym (here_none before.scope));
    units_stay = u;
    unit = n;
    spaces = s;
    plain = λ h. subst (λ (fs : List Function). AllPlain fs) (sym f) h;
  }

  step_then : (before after o : Led Defined) (a b : Option ℕ) → Step before after a → Step after o b → Step before o (first_found a b)
  step_then before after o a b h k = record {
    token = k.token ∙ ap (λ t. first_found t b) h.token ∙ found_assoc (token_found name last before.made.functions) a b;
    units_stay = k.units_stay ∙ h.units_stay;
    unit = k.unit ∙ h.unit;
    spaces = k.spaces ∙ h.spaces;
    plain = λ p. k.plain (h.plain p);
  }

  -- ---- structs and constants

  struct_holds : (w : Struct) → Holds (struct_defined w) None
  struct_holds w before e c =
      let s = before.scope in
      good_then (λ (r : Led TypedStruct). (r.scope.unit ≡ s.unit) × (r.scope.spaces ≡ s.spaces)) (λ (after : Led Defined). Step before after (here s None)) (struct_checked s before.made w) (λ after. Ok (record { made = with_struct before.made after.made; scope = after.scope }))
      (good_any (λ (r : Led TypedStruct). (r.scope.unit ≡ s.unit) × (r.scope.spaces ≡ s.spaces)) (fields_checked s before.made w.fields []) (λ fields. struct_named s w (record { fields = fields }))
      (λ fields. good_any (λ (r : Led TypedStruct). (r.scope.unit ≡ s.unit) × (r.scope.spaces ≡ s.spaces)) (rule_at s.unit w.token (struct_rule (is_defined s w.name) (length fields) (struct_scalars s.counts (record { fields = fields })))) (λ fine. Ok (record { made = record { fields = fields }; scope = named.with_struct w.name (struct_scalars s.counts (record { fields = fields })) s }))
      (λ fine. (refl, refl))))
      (λ r h. step_none before (record { made = with_struct before.made r.made; scope = r.scope }) refl refl h.0 h.1)

  constant_holds : (w : Constant) → Holds (constant_defined w) None
  constant_holds w before e c =
      let s = before.scope in
      good_then (λ (r : Led TypedConstant). (r.scope.unit ≡ s.unit) × (r.scope.spaces ≡ s.spaces)) (λ (after : Led Defined). Step before after (here s None)) (constant_checked s before.made w) (λ after. Ok (record { made = with_constant before.made after.made; scope = after.scope }))
      (good_any (λ (r : Led TypedConstant). (r.scope.unit ≡ s.unit) × (r.scope.spaces ≡ s.spaces)) (constant_formed s before.made w) (λ made. Ok (record { made = made; scope = named.with_constant w.name s })) (λ made. (refl, refl)))
      (λ r h. step_none before (record { made = with_constant before.made r.made; scope = r.scope }) refl refl h.0 h.1)

  -- ---- functions

  -- a function is found where its definition is
  function_found : (s : ScopeForm) (f : Written) (g : Function) → Coloned s.spaces → g.name ≡ whole_name s f.name → g.node ≡ node_of s.unit f.token
      → token_where (matches name last g) g.node.token ≡ here s (token_in name (FunctionForm f))
  function_found s f g c n e =
      ap (λ (m : List ℕ). token_where (bytes_eq m name && (g.node.«module» == last && is_unqualified m)) g.node.token) n
      ∙ ap (λ node. token_where (bytes_eq (whole_name s f.name) name && (node.«module» == last && is_unqualified (whole_name s f.name))) node.token) e
      ∙ by s.spaces c
    where
      outside : (a b : Bool) → (a ≡ true → is_unqualified f.name ≡ true) → token_where (a && (b && is_unqualified f.name)) f.token ≡ (if b && true then (if a then Some f.token else None) else None)
      outside false false h = refl
      outside false true h = refl
      outside true false h = refl
      outside true true h = ap (λ b. token_where b f.token) (h refl)

      inside : (a b c : Bool) (o : Option ℕ) → c ≡ false → token_where (a && (b && c)) f.token ≡ (if b && false then o else None)
      inside false false c o h = refl
      inside false true c o h = refl
      inside true false c o h = refl
      inside true true false o h = refl
      inside true true true o h = absurd (cc)

      by : (spaces : List (List ℕ)) → Coloned spaces → token_where (bytes_eq (prefix spaces ++ f.name) name && (s.unit == last && is_unqualified (prefix spaces ++ f.name))) f.token ≡ (if s.unit == last && is_none spaces then token_in name (FunctionForm f) else None)
      by [] c = outside (bytes_eq f.name name) (s.unit == last) (λ h. ap (λ (m : List ℕ). is_unqualified m) ((bytes_decides f.name name).0 h) ∙ plain_name)
      by (a ∷ spaces) c = inside (bytes_eq (prefix (a ∷ spaces) ++ f.name) name) (s.unit == last) (is_unqualified (prefix (a ∷ spaces) ++ f.name)) (token_in name (FunctionForm f)) (c refl f.name)

  function_step : (before : Led Defined) (f : Written) (r : Led Made) → before.made.units ≡ units → Coloned before.scope.spaces → FunctionWell before.scope (is_entry before.made.units before.scope.unit f.token) f r
      → Step before (record { made = with_function before.made r.made.function; scope = r.scope }) (here before.scope (token_in name (FunctionForm f)))
  function_step before f r u c w =
      let s = before.scope in
      let g = r.made.function in
      record {
        token = found_more name last before.made.functions g ∙ ap (λ o. first_found (token_found name last before.made.functions) o) (function_found s f g c w.name w.node);
        units_stay = refl;
        unit = ap (λ (t : ScopeForm). t.unit) w.scope;
        spaces = ap (λ (t : ScopeForm). t.spaces) w.scope;
        plain = λ h. all_more Plain before.made.functions g h (λ e.
            let e' : is_entry before.made.units s.unit f.token ≡ true = ap (λ (us : List SourceUnit). is_entry us s.unit f.token) u ∙ ap (λ node. is_entry units node.«module» node.token) (sym w.node) ∙ e in
            and_true (is_void g.result) (are_plain g.parameters) (w.void e') (w.plain e'));
      }

  function_holds : (f : Written) → Holds (function_defined f) (token_in name (FunctionForm f))
  function_holds f before u c =
      let is = is_entry before.made.units before.scope.unit f.token in
      good_then (FunctionWell before.scope is f) (λ (after : Led Defined). Step before after (here before.scope (token_in name (FunctionForm f)))) (function_checked before.scope before.made is f) (λ after. Ok (record { made = with_function before.made after.made.function; scope = after.scope }))
      (function_good before.scope before.made is f)
      (λ r w. function_step before f r u c w)

  -- ---- namespaces

  abbrev DefinitionHolds : Definition → Type 0
  DefinitionHolds e = Holds (defined e) (token_in name (out-Definition e))

  abbrev NamespaceHolds : Namespace → Type 0
  NamespaceHolds e = Holds (namespace_defined e) None

  abbrev SuchDefinition : Type 0
  SuchDefinition = (e : Definition) × DefinitionHolds e

  abbrev SuchNamespace : Type 0
  SuchNamespace = (e : Namespace) × NamespaceHolds e

  step_same : (before after : Led Defined) (a b : Option ℕ) → a ≡ b → Step before after a → Step before after b
  step_same before after a b e h = subst (λ o. Step before after o) e h

  -- definitions in a namespace
  all_inside : (es : List SuchDefinition) (before : Led Defined) → before.made.units ≡ units → Coloned before.scope.spaces → is_none before.scope.spaces ≡ false → Good (λ (after : Led Defined). Step before after None) (all_defined (map defined (map (λ (e : SuchDefinition). e.0) es)) before)
  all_inside [] before u c n = step_same before before (here before.scope None) None (here_none before.scope) (step_none before before refl refl refl refl)
  all_inside (e ∷ es) before u c n =
      good_then (λ (after : Led Defined). Step before after (here before.scope (token_in name (out-Definition e.0)))) (λ (after : Led Defined). Step before after None) (defined e.0 before) (all_defined (map defined (map (λ (e : SuchDefinition). e.0) es))) (e.1 before u c)
      (λ after h.
      let one = step_same before after (here before.scope (token_in name (out-Definition e.0))) None (inside_none before.scope (token_in name (out-Definition e.0)) n) h in
      good_more (λ (o : Led Defined). Step after o None) (λ (o : Led Defined). Step before o None) (all_defined (map defined (map (λ (e : SuchDefinition). e.0) es)) after)
      (all_inside es after (h.units_stay ∙ u) (subst (λ (spaces : List (List ℕ)). Coloned spaces) (sym h.spaces) c) (ap (λ (spaces : List (List ℕ)). is_none spaces) h.spaces ∙ n))
      (λ o k. step_then before after o None None one k))

  new_keeps : (o : Option Meaning) (space : List ℕ) (s : ScopeForm) → ((with_new o space s).unit ≡ s.unit) × ((with_new o space s).spaces ≡ s.spaces)
  new_keeps None space s = (refl, refl)
  new_keeps (Some m) space s = (refl, refl)

  -- a namespace ends
  space_step : (space : List ℕ) (before after : Led Defined) → Step (record { made = before.made; scope = in_space space before.scope }) after None → Step before (record { made = after.made; scope = with_space space (out_of_space after.scope) }) (here before.scope None)
  space_step space before after h =
      let s = out_of_space after.scope in
      let k = new_keeps (meaning_in (whole_name s space) s.names) space s in
      record {
        token = h.token ∙ ap (λ o. first_found (token_found name last before.made.functions) o) (sym (here_none before.scope));
        units_stay = h.units_stay;
        unit = k.0 ∙ h.unit;
        spaces = k.1 ∙ ap (λ (spaces : List (List ℕ)). Rattle.ctl_scope.specs.Changes.but_last spaces) h.spaces ∙ but_last_is before.scope.spaces (whole_name before.scope space ++ codes "::");
        plain = h.plain;
      }

  space_holds : (space : List ℕ) (token : ℕ) (es : List SuchDefinition) → Holds (space_defined space token (map defined (map (λ (e : SuchDefinition). e.0) es))) None
  space_holds space token es before u c =
      let start : Led Defined = record { made = before.made; scope = in_space space before.scope } in
      good_then (λ (after : Led Defined). Step start after None) (λ (after : Led Defined). Step before after (here before.scope None)) (all_defined (map defined (map (λ (e : SuchDefinition). e.0) es)) start) (λ after. space_named space token after.made (out_of_space after.scope))
      (all_inside es start u (in_space_coloned before.scope space) (some_spaces before.scope.spaces (whole_name before.scope space ++ codes "::")))
      (λ after h. good_any (λ (o : Led Defined). Step before o (here before.scope None)) (rule_at (out_of_space after.scope).unit token (space_rule space (out_of_space after.scope))) (λ fine. Ok (record { made = after.made; scope = with_space space (out_of_space after.scope) }))
      (λ fine. space_step space before after h))

  -- ---- all definitions

  definition_case : (y : Definition-F SuchDefinition SuchNamespace) → DefinitionHolds (roll-Definition (map-Definition SuchDefinition SuchNamespace Definition Namespace (λ e. e.0) (λ e. e.0) y))
  definition_case y =
      let x = map-Definition SuchDefinition SuchNamespace Definition Namespace (λ e. e.0) (λ e. e.0) y in
      subst (λ (a : Defining). Holds a (token_in name (out-Definition (roll-Definition x)))) (sym (fold-roll-Definition Defining Defining definition_step namespace_step x))
      (subst (λ (f : Definition-F Definition Namespace). Holds (definition_step (map-Definition Definition Namespace Defining Defining defined namespace_defined x)) (token_in name f)) (sym (out-roll-Definition x)) (by y))
    where
      by : (y : Definition-F SuchDefinition SuchNamespace) → Holds (definition_step (map-Definition Definition Namespace Defining Defining defined namespace_defined (map-Definition SuchDefinition SuchNamespace Definition Namespace (λ e. e.0) (λ e. e.0) y))) (token_in name (map-Definition SuchDefinition SuchNamespace Definition Namespace (λ e. e.0) (λ e. e.0) y))
      by (NamespaceForm space) before u c = space.1 before u c
      by (StructForm w) before u c = struct_holds w before u c
      by (ConstantForm w) before u c = constant_holds w before u c
      by (FunctionForm f) before u c = function_holds f before u c

  namespace_case : (y : Namespace-F SuchDefinition SuchNamespace) → NamespaceHolds (roll-Namespace (map-Namespace SuchDefinition SuchNamespace Definition Namespace (λ e. e.0) (λ e. e.0) y))
  namespace_case y =
      subst (λ (a : Defining). Holds a None) (sym (fold-roll-Namespace Defining Defining definition_step namespace_step (map-Namespace SuchDefinition SuchNamespace Definition Namespace (λ e. e.0) (λ e. e.0) y)))
      (space_holds y.name y.token y.definitions)

  definition_holds : (e : Definition) → DefinitionHolds e
  definition_holds = ind-Definition DefinitionHolds NamespaceHolds
      (λ x y is. subst (λ x. DefinitionHolds (roll-Definition x)) is (definition_case y))
      (λ x y is. subst (λ x. NamespaceHolds (roll-Namespace x)) is (namespace_case y))

  -- ---- modules

  all_hold : (es : List Definition) (before : Led Defined) → before.made.units ≡ units → Coloned before.scope.spaces → Good (λ (after : Led Defined). Step before after (here before.scope (function_token name es))) (all_defined (map defined es) before)
  all_hold [] before u c = step_none before before refl refl refl refl
  all_hold (e ∷ es) before u c =
      let one = token_in name (out-Definition e) in
      let rest = function_token name es in
      good_then (λ (after : Led Defined). Step before after (here before.scope one)) (λ (after : Led Defined). Step before after (here before.scope (first_found one rest))) (defined e before) (all_defined (map defined es)) (definition_holds e before u c)
      (λ after h. good_more (λ (o : Led Defined). Step after o (here after.scope rest)) (λ (o : Led Defined). Step before o (here before.scope (first_found one rest))) (all_defined (map defined es) after)
      (all_hold es after (h.units_stay ∙ u) (subst (λ (spaces : List (List ℕ)). Coloned spaces) (sym h.spaces) c))
      (λ o k.
      let same : here after.scope rest ≡ here before.scope rest = ap (λ n. if n == last && is_none after.scope.spaces then rest else None) h.unit ∙ ap (λ (spaces : List (List ℕ)). if before.scope.unit == last && is_none spaces then rest else None) h.spaces in
      step_same before o (first_found (here before.scope one) (here before.scope rest)) (here before.scope (first_found one rest)) (sym (here_found before.scope one rest))
      (step_then before after o (here before.scope one) (here before.scope rest) h (step_same after o (here after.scope rest) (here before.scope rest) same k))))

  pub record UnitsStep (before after : Led Defined) (more : Option ℕ) : Type 0 where
    pub token : token_found name last after.made.functions ≡ first_found (token_found name last before.made.functions) more
    pub units_stay : after.made.units ≡ units
    pub plain : AllPlain before.made.functions → AllPlain after.made.functions

  different : (a b : ℕ) → a < b → (a == b) ≡ false
  different a b l = by (a == b) refl where
    by : (t : Bool) → (a == b) ≡ t → (a == b) ≡ false
    by false e = e
    by true e = let z = eqb-true a b e in absurd (omega arith)

  unit_good : (place : ℕ) (u : SourceUnit) (before : Led Defined) → before.made.units ≡ units → before.scope.spaces ≡ []
      → Good (λ (after : Led Defined). Step (record { made = before.made; scope = in_unit place before.scope }) after (here (in_unit place before.scope) (function_token name u.«module».definitions))) (unit_defined place u before)
  unit_good place u before e n = all_hold u.«module».definitions (record { made = before.made; scope = in_unit place before.scope }) e (λ k x. absurd (cc))

  pub units_good : (us : List SourceUnit) (place : ℕ) (before : Led Defined) → before.made.units ≡ units → before.scope.spaces ≡ [] → place + length us ≡ length units → Good (λ (after : Led Defined). UnitsStep before after (root name us)) (units_defined place us before)
  units_good [] place before e n l = record { token = sym (found_none (token_found name last before.made.functions)); units_stay = e; plain = λ h. h }
  units_good (u ∷ []) place before e n l =
      good_then (λ (after : Led Defined). Step (record { made = before.made; scope = in_unit place before.scope }) after (here (in_unit place before.scope) (function_token name u.«module».definitions))) (λ (after : Led Defined). UnitsStep before after (root name (u ∷ []))) (unit_defined place u before) (λ after. Ok after)
      (unit_good place u before e n)
      (λ after h.
      let at : (place == last) ≡ true = eq-eqb place last (omega arith) in
      let none : is_none before.scope.spaces ≡ true = ap (λ (spaces : List (List ℕ)). is_none spaces) n in
      let gives : here (in_unit place before.scope) (function_token name u.«module».definitions) ≡ function_token name u.«module».definitions = ap (λ b. if b && is_none before.scope.spaces then function_token name u.«module».definitions else None) at ∙ ap (λ b. if b then function_token name u.«module».definitions else None) none in
      record {
        token = h.token ∙ ap (λ o. first_found (token_found name last before.made.functions) o) gives;
        units_stay = h.units_stay ∙ e;
        plain = h.plain;
      })
  units_good (u ∷ v ∷ us) place before e n l =
      good_then (λ (after : Led Defined). Step (record { made = before.made; scope = in_unit place before.scope }) after (here (in_unit place before.scope) (function_token name u.«module».definitions))) (λ (after : Led Defined). UnitsStep before after (root name (v ∷ us))) (unit_defined place u before) (λ after. units_defined (place + 1) (v ∷ us) after)
      (unit_good place u before e n)
      (λ after h.
      let off : (place == last) ≡ false = different place last (omega arith) in
      let nothing : here (in_unit place before.scope) (function_token name u.«module».definitions) ≡ None = ap (λ b. if b && is_none before.scope.spaces then function_token name u.«module».definitions else None) off in
      good_more (λ (o : Led Defined). UnitsStep after o (root name (v ∷ us))) (λ (o : Led Defined). UnitsStep before o (root name (v ∷ us))) (units_defined (place + 1) (v ∷ us) after)
      (units_good (v ∷ us) (place + 1) after (h.units_stay ∙ e) (h.spaces ∙ n) (omega arith))
      (λ o k. record {
        token = k.token ∙ ap (λ t. first_found t (root name (v ∷ us))) (h.token ∙ ap (λ o. first_found (token_found name last before.made.functions) o) nothing ∙ found_none (token_found name last before.made.functions));
        units_stay = k.units_stay;
        plain = λ p. k.plain (h.plain p);
      }))

-- ---- the entry

abbrev main : List ℕ
main = codes "main"

entry_is : (us : List SourceUnit) → entry_token us ≡ first_found (root main us) (root (stem (root_file us)) us)
entry_is [] = refl
entry_is (u ∷ []) = refl
entry_is (u ∷ v ∷ us) = entry_is (v ∷ us)

same_number : (n : ℕ) → (n == n) ≡ true
same_number n = eq-eqb n n refl

abbrev start : List SourceUnit → Led Defined
start units = record { made = library_definitions units; scope = library_scope }

units_step : (units : List SourceUnit) (all : Led Defined) → units_defined 0 units (start units) ≡ Ok all → (name : List ℕ) (plain_name : is_unqualified name ≡ true) → UnitsStep units name plain_name (start units) all (root name units)
units_step units all e name plain_name = good_of (λ (after : Led Defined). UnitsStep units name plain_name (start units) after (root name units)) (units_defined 0 units (start units)) (units_good units name plain_name units 0 (start units) refl refl (omega arith)) all e

module _ (units : List SourceUnit) (all : Led Defined) (accepted : units_defined 0 units (start units) ≡ Ok all) where
  abbrev place : ℕ
  place = length units - 1

  -- whatever is found is the entry, and keeps its rule
  found_stands : (name : List ℕ) (n : ℕ) → is_unqualified name ≡ true → NamedAt name place n all.made.functions → (root name units ≡ token_found name place all.made.functions → entry_token units ≡ token_found name place all.made.functions)
      → typed.is_entry (slice_get all.made.functions n) ≡ true
  found_stands name n plain_name at gives =
      let step = units_step units all accepted name plain_name in
      let f = at.found in
      let token : entry_token units ≡ Some f.node.token = gives (sym step.token) ∙ at.token in
      let fits = both (bytes_eq f.name name) _ at.fits in
      let module_ : f.node.«module» ≡ place = eqb-true f.node.«module» place (both (f.node.«module» == place) _ fits.1).0 in
      let is : is_entry units f.node.«module» f.node.token ≡ true =
      ap (λ m. is_entry units m f.node.token) module_ ∙ ap (λ b. b && Rattle.ctl_check_function.specs.Entry.is_token f.node.token (entry_token units)) (same_number place) ∙ ap (λ (o : Option ℕ). Rattle.ctl_check_function.specs.Entry.is_token f.node.token o) token ∙ same_number f.node.token in
      ap (λ (o : Option Function). typed.is_entry o) at.there ∙ step.plain (λ k f e. absurd (cc)) n f at.there is

  -- a name of a function that is found is unqualified
  name_plain : (name : List ℕ) (n : ℕ) → NamedAt name place n all.made.functions → is_unqualified name ≡ true
  name_plain name n at =
      let f = at.found in
      let fits = both (bytes_eq f.name name) _ at.fits in
      ap (λ (m : List ℕ). is_unqualified m) (sym ((bytes_decides f.name name).0 fits.0)) ∙ (both (f.node.«module» == place) _ fits.1).1

  stands : (o p : Option ℕ) → function_named main place 0 all.made.functions ≡ o → function_named (stem (root_file units)) place 0 all.made.functions ≡ p → entry_stands all.made (first_found o p) ≡ true
  stands (Some n) p e f =
      let at = named_at main place n all.made.functions e in
      found_stands main n refl at (λ same. entry_is units ∙ ap (λ (o : Option ℕ). first_found o (root (stem (root_file units)) units)) (same ∙ at.token) ∙ sym at.token)
  stands None None e f = refl
  stands None (Some n) e f =
      let name = stem (root_file units) in
      let at = named_at name place n all.made.functions f in
      let step = units_step units all accepted main refl in
      let none : root main units ≡ None = sym step.token ∙ named_none main place 0 all.made.functions e in
      found_stands name n (name_plain name n at) at (λ same. entry_is units ∙ ap (λ (o : Option ℕ). first_found o (root name units)) none ∙ same)

pub entries_all_stand : EntryStands
entries_all_stand units all e =
    let same : all.made.units ≡ units = (units_step units all e main refl).units_stay in
    ap (λ (us : List SourceUnit). entry_stands all.made (first_found (function_named main (length us - 1) 0 all.made.functions) (function_named (stem (root_file us)) (length us - 1) 0 all.made.functions))) same
    ∙ stands units all e _ _ refl refl
