-- What the checker accepts keeps the rules, definition by definition.
use Rattle.std.proofs.Common.{◌≡◌, ℕ, zero, suc, ◌+◌, List, [], ◌∷◌, ◌++◌, map, length, get_or, All, Some, Ok, Err, slice_get, refl, sym, ap, subst, ◌∙◌, arith}
use Rattle.std.proofs.lemmas.List.Elements.{All-head, All-tail}
use Rattle.std.specs.List.{concat}
use Rattle.fix_num.specs.Half.{HalfKeeps}
use Rattle.fix_num.specs.Ranges.{ArithmeticStaysInRange}
use Rattle.ctl_tree.specs.Units.{SourceUnit}
use Rattle.ctl_tree.specs.OwnTokens.{Tokens, Below, all_tokens, import_tokens, definition_tokens, struct_tokens, constant_tokens, function_tokens}
use Rattle.ctl_tree.specs.OwnTokens as own
use Rattle.ctl_tree.specs.declared.declaration.Constant.{Constant}
use Rattle.ctl_tree.specs.declared.definition.Struct.{Struct}
use Rattle.ctl_tree.specs.declared.definition.Function.{Function}
use Rattle.ctl_tree.specs.declared.definition.Definition.{Definition, roll-Definition}
use Rattle.ctl_tree.specs.declared.definition.Namespace.{Namespace, roll-Namespace}
use Rattle.ctl_tree.specs.declared.definition.Definition.TheOpen.{Definition-F, Namespace-F, Namespace as NamespaceForm, Struct as StructForm, Constant as ConstantForm, Function as FunctionForm}
use Rattle.ctl_tree.specs.declared.definition.Definition.TheFolds.{fold-Namespace, fold-roll-Definition, fold-roll-Namespace, map-Definition, map-Namespace, ind-Definition}
use Rattle.ctl_types.specs.declared.program.Struct.{Struct as TypedStruct}
use Rattle.ctl_types.specs.declared.program.Constant.{Constant as TypedConstant}
use Rattle.ctl_types.specs.Definitions.{Defined}
use Rattle.ctl_types.specs.Scoping.{IsDefined, IsProgram, ProgramForm, tokens_of, library_definitions, with_struct, with_constant, with_function}
use Rattle.ctl_scope.specs.Scope.{IsScope}
use Rattle.ctl_scope.specs.Changes.{library_scope, in_unit, in_space, out_of_space, with_space}
use Rattle.ctl_check_rules.specs.Faults.{Verdict, ◌>>=◌, rule_at}
use Rattle.ctl_check_statement.specs.Leading.{Led}
use Rattle.ctl_check_function.specs.declared.functions.Made.{Made}
use Rattle.ctl_check_function.specs.Structs.{struct_checked}
use Rattle.ctl_check_function.specs.Constants.{constant_checked}
use Rattle.ctl_check_function.specs.Functions.{function_checked}
use Rattle.ctl_check_function.specs.Entry.{is_entry}
use Rattle.ctl_check_function.specs.Defining.{Defining, struct_defined, constant_defined, function_defined, all_defined, space_rule, space_named, space_defined, definition_step, namespace_step, defined, namespace_defined}
use Rattle.ctl_check_function.specs.Programs.{unit_defined, units_defined, program_of}
use Rattle.ctl_check_function.specs.Laws.{Resting, AreTokens, Stays, StructFits, StructsFit, ConstantFits, ConstantsFit, FunctionFits, FunctionsFit, SpacesRest, EntryStands}
use Rattle.program_laws.specs.Laws.{HasOwnTokens, CheckedProgramsKeepRules}
use Rattle.program_laws.proofs.Verdicts.{Good, good_then, good_any, good_more, good_all, good_of, below_tail, below_left, below_right}
use Rattle.program_laws.proofs.Growing as growing
use Rattle.program_laws.proofs.LibraryStands.{library_stands}
use Rattle.program_laws.proofs.Scopes.{first_scope, unit_scope, inside_scope, space_scope}
use Rattle.program_laws.proofs.Heads.{struct_good, constant_good, function_good}

-- ---- what is kept

-- between definitions: the scope keeps its rules and rests beside the definitions, which keep theirs
pub record Stands (l : Led Defined) : Type 0 where
  pub scope : IsScope l.scope
  pub defined : IsDefined l.made
  pub resting : Resting l.scope l.made

-- what a definition keeps
pub record Step (before after : Led Defined) : Type 0 where
  pub stands : Stands after
  pub stays : Stays before.scope after.scope
  pub units : after.made.units ≡ before.made.units

abbrev TokensOf : Led Defined → Tokens → Type 0
TokensOf l ts = AreTokens l.scope l.made ts

-- what is accepted of tokens of the module keeps all that
abbrev Holds : Defining → Tokens → Type 0
Holds a ts = (before : Led Defined) → Stands before → TokensOf before ts → Good (Step before) (a before)

-- no definition
step_none : (before : Led Defined) → Stands before → Step before before
step_none before h = record { stands = h; stays = record { unit = refl; spaces = refl }; units = refl }

-- one after another
step_then : (before after o : Led Defined) → Step before after → Step after o → Step before o
step_then before after o h k = record {
  stands = k.stands;
  stays = record { unit = k.stays.unit ∙ h.stays.unit; spaces = k.stays.spaces ∙ h.stays.spaces };
  units = k.units ∙ h.units;
}

-- they are tokens of the module still
tokens_stay : (before after : Led Defined) (ts : Tokens) → Step before after → TokensOf before ts → TokensOf after ts
tokens_stay before after ts h b =
    subst (λ (units : List SourceUnit). Below (get_or (tokens_of units) after.scope.unit 0) ts) (sym h.units) (subst (λ (unit : ℕ). Below (get_or (tokens_of before.made.units) unit 0) ts) (sym h.stays.unit) b)

-- how many tokens a unit has
count_of : (units : List SourceUnit) (place : ℕ) (u : SourceUnit) → slice_get units place ≡ Some u → get_or (tokens_of units) place 0 ≡ length u.tokens
count_of [] place u e = grind arith
count_of (v ∷ units) zero u e = grind arith
count_of (v ∷ units) (suc k) u e = count_of units k u e

-- ---- structs, constants and functions

struct_holds : StructsFit → (w : Struct) → Holds (struct_defined w) (struct_tokens w)
struct_holds law w before h b =
    let s = before.scope in
    let d = before.made in
    good_then (λ (r : Led TypedStruct). StructFits s d r × IsScope r.scope) (Step before) (struct_checked s d w) (λ after. Ok (record { made = with_struct d after.made; scope = after.scope }))
    (good_all (λ (r : Led TypedStruct). StructFits s d r × IsScope r.scope) (struct_checked s d w) (λ r e. (law s d w r h.scope h.defined h.resting e, good_of (λ (r : Led TypedStruct). IsScope r.scope) (struct_checked s d w) (struct_good s d w h.scope) r e)))
    (λ r k. record { stands = record { scope = k.1; defined = growing.struct_defined d r.made h.defined k.0.stands; resting = k.0.resting }; stays = k.0.stays; units = refl })

constant_holds : ConstantsFit → (w : Constant) → Holds (constant_defined w) (constant_tokens w)
constant_holds law w before h b =
    let s = before.scope in
    let d = before.made in
    good_then (λ (r : Led TypedConstant). ConstantFits s d r × IsScope r.scope) (Step before) (constant_checked s d w) (λ after. Ok (record { made = with_constant d after.made; scope = after.scope }))
    (good_all (λ (r : Led TypedConstant). ConstantFits s d r × IsScope r.scope) (constant_checked s d w) (λ r e. (law s d w r h.scope h.defined h.resting b e, good_of (λ (r : Led TypedConstant). IsScope r.scope) (constant_checked s d w) (constant_good s d w h.scope) r e)))
    (λ r k. record { stands = record { scope = k.1; defined = growing.constant_defined d r.made h.defined k.0.stands; resting = k.0.resting }; stays = k.0.stays; units = refl })

function_holds : FunctionsFit → (f : Function) → Holds (function_defined f) (function_tokens f)
function_holds law f before h b =
    let s = before.scope in
    let d = before.made in
    let is = is_entry d.units s.unit f.token in
    good_then (λ (r : Led Made). FunctionFits s d r × IsScope r.scope) (Step before) (function_checked s d is f) (λ after. Ok (record { made = with_function d after.made.function; scope = after.scope }))
    (good_all (λ (r : Led Made). FunctionFits s d r × IsScope r.scope) (function_checked s d is f) (λ r e. (law s d is f r h.scope h.defined h.resting b e, good_of (λ (r : Led Made). IsScope r.scope) (function_checked s d is f) (function_good d is f s h.scope) r e)))
    (λ r k. record { stands = record { scope = k.1; defined = growing.function_defined d r.made.function h.defined k.0.stands; resting = k.0.resting }; stays = k.0.stays; units = refl })

-- ---- namespaces

abbrev namespace_tokens : Namespace → Tokens
namespace_tokens = fold-Namespace Tokens Tokens own.definition_step own.namespace_step

abbrev DefinitionHolds : Definition → Type 0
DefinitionHolds e = Holds (defined e) (definition_tokens e)

abbrev NamespaceHolds : Namespace → Type 0
NamespaceHolds e = Holds (namespace_defined e) (namespace_tokens e)

abbrev SuchDefinition : Type 0
SuchDefinition = (e : Definition) × DefinitionHolds e

abbrev SuchNamespace : Type 0
SuchNamespace = (e : Namespace) × NamespaceHolds e

-- a definition, and those behind it
next_holds : (e : Definition) (rest : Defining) (ts : Tokens) → DefinitionHolds e → Holds rest ts → Holds (λ before. defined e before >>= rest) (definition_tokens e ++ ts)
next_holds e rest ts one others before h b =
    let n = get_or (tokens_of before.made.units) before.scope.unit 0 in
    good_then (Step before) (Step before) (defined e before) rest (one before h (below_left n (definition_tokens e) ts b))
    (λ after k. good_more (Step after) (Step before) (rest after) (others after k.stands (tokens_stay before after ts k (below_right n (definition_tokens e) ts b))) (λ o l. step_then before after o k l))

all_hold : (es : List SuchDefinition) → Holds (all_defined (map defined (map (λ (e : SuchDefinition). e.0) es))) (concat (map definition_tokens (map (λ (e : SuchDefinition). e.0) es)))
all_hold [] before h b = step_none before h
all_hold (e ∷ es) before h b =
    next_holds e.0 (all_defined (map defined (map (λ (e : SuchDefinition). e.0) es))) (concat (map definition_tokens (map (λ (e : SuchDefinition). e.0) es))) e.1 (all_hold es) before h b

-- a namespace begins
space_begins : SpacesRest → (name : List ℕ) (before : Led Defined) → Stands before → Stands (record { made = before.made; scope = in_space name before.scope })
space_begins law name before h = record { scope = inside_scope before.scope name h.scope; defined = h.defined; resting = law.enter before.scope before.made name h.resting }

-- a namespace ends
space_ends : SpacesRest → (name : List ℕ) (before after : Led Defined) → Step (record { made = before.made; scope = in_space name before.scope }) after
    → Step before (record { made = after.made; scope = with_space name (out_of_space after.scope) })
space_ends law name before after k =
    let ends = law.leave before.scope after.scope after.made name k.stays k.stands.resting in
    record { stands = record { scope = space_scope after.scope name k.stands.scope; defined = k.stands.defined; resting = ends.resting }; stays = ends.stays; units = k.units }

space_holds : SpacesRest → (name : List ℕ) (token : ℕ) (es : List SuchDefinition) → Holds (space_defined name token (map defined (map (λ (e : SuchDefinition). e.0) es))) (token ∷ concat (map definition_tokens (map (λ (e : SuchDefinition). e.0) es)))
space_holds law name token es before h b =
    let start : Led Defined = record { made = before.made; scope = in_space name before.scope } in
    let n = get_or (tokens_of before.made.units) before.scope.unit 0 in
    good_then (Step start) (Step before) (all_defined (map defined (map (λ (e : SuchDefinition). e.0) es)) start) (λ after. space_named name token after.made (out_of_space after.scope))
    (all_hold es start (space_begins law name before h) (below_tail n token (concat (map definition_tokens (map (λ (e : SuchDefinition). e.0) es))) b))
    (λ after k. good_any (Step before) (rule_at (out_of_space after.scope).unit token (space_rule name (out_of_space after.scope))) (λ fine. Ok (record { made = after.made; scope = with_space name (out_of_space after.scope) }))
    (λ fine. space_ends law name before after k))

-- ---- all definitions

module _ (structs : StructsFit) (constants : ConstantsFit) (functions : FunctionsFit) (spaces : SpacesRest) where
  definition_case : (y : Definition-F SuchDefinition SuchNamespace) → DefinitionHolds (roll-Definition (map-Definition SuchDefinition SuchNamespace Definition Namespace (λ e. e.0) (λ e. e.0) y))
  definition_case y =
      let x = map-Definition SuchDefinition SuchNamespace Definition Namespace (λ e. e.0) (λ e. e.0) y in
      subst (λ (a : Defining). Holds a (definition_tokens (roll-Definition x))) (sym (fold-roll-Definition Defining Defining definition_step namespace_step x))
      (subst (λ (ts : Tokens). Holds (definition_step (map-Definition Definition Namespace Defining Defining defined namespace_defined x)) ts) (sym (fold-roll-Definition Tokens Tokens own.definition_step own.namespace_step x)) (by y))
    where
      by : (y : Definition-F SuchDefinition SuchNamespace) → Holds (definition_step (map-Definition Definition Namespace Defining Defining defined namespace_defined (map-Definition SuchDefinition SuchNamespace Definition Namespace (λ e. e.0) (λ e. e.0) y)))
          (own.definition_step (map-Definition Definition Namespace Tokens Tokens definition_tokens namespace_tokens (map-Definition SuchDefinition SuchNamespace Definition Namespace (λ e. e.0) (λ e. e.0) y)))
      by (NamespaceForm space) before h b = space.1 before h b
      by (StructForm w) before h b = struct_holds structs w before h b
      by (ConstantForm w) before h b = constant_holds constants w before h b
      by (FunctionForm f) before h b = function_holds functions f before h b

  namespace_case : (y : Namespace-F SuchDefinition SuchNamespace) → NamespaceHolds (roll-Namespace (map-Namespace SuchDefinition SuchNamespace Definition Namespace (λ e. e.0) (λ e. e.0) y))
  namespace_case y =
      let x = map-Namespace SuchDefinition SuchNamespace Definition Namespace (λ e. e.0) (λ e. e.0) y in
      subst (λ (a : Defining). Holds a (namespace_tokens (roll-Namespace x))) (sym (fold-roll-Namespace Defining Defining definition_step namespace_step x))
      (subst (λ (ts : Tokens). Holds (namespace_step (map-Namespace Definition Namespace Defining Defining defined namespace_defined x)) ts) (sym (fold-roll-Namespace Tokens Tokens own.definition_step own.namespace_step x)) (space_holds spaces y.name y.token y.definitions))

  definition_holds : (e : Definition) → DefinitionHolds e
  definition_holds = ind-Definition DefinitionHolds NamespaceHolds
      (λ x y is. subst (λ x. DefinitionHolds (roll-Definition x)) is (definition_case y))
      (λ x y is. subst (λ x. NamespaceHolds (roll-Namespace x)) is (namespace_case y))

  -- ---- units

  definitions_hold : (es : List Definition) → Holds (all_defined (map defined es)) (all_tokens definition_tokens es)
  definitions_hold [] before h b = step_none before h
  definitions_hold (e ∷ es) before h b = next_holds e (all_defined (map defined es)) (all_tokens definition_tokens es) (definition_holds e) (definitions_hold es) before h b

  -- a unit begins
  unit_begins : (place : ℕ) (before : Led Defined) → Stands before → Stands (record { made = before.made; scope = in_unit place before.scope })
  unit_begins place before h = record { scope = unit_scope before.scope place h.scope; defined = h.defined; resting = spaces.unit before.scope before.made place h.resting }

  -- its definitions have tokens of it
  unit_tokens : (place : ℕ) (u : SourceUnit) (before : Led Defined) → slice_get before.made.units place ≡ Some u → HasOwnTokens u → TokensOf (record { made = before.made; scope = in_unit place before.scope }) (all_tokens definition_tokens u.«module».definitions)
  unit_tokens place u before e h =
      subst (λ (n : ℕ). Below n (all_tokens definition_tokens u.«module».definitions)) (sym (count_of before.made.units place u e)) (below_right (length u.tokens) (all_tokens import_tokens u.«module».imports) (all_tokens definition_tokens u.«module».definitions) h)

  unit_holds : (place : ℕ) (u : SourceUnit) (before : Led Defined) → Stands before → slice_get before.made.units place ≡ Some u → HasOwnTokens u → Good (Step (record { made = before.made; scope = in_unit place before.scope })) (unit_defined place u before)
  unit_holds place u before h e own_ones = definitions_hold u.«module».definitions (record { made = before.made; scope = in_unit place before.scope }) (unit_begins place before h) (unit_tokens place u before e own_ones)

  one_more : (place k : ℕ) → place + suc k ≡ place + 1 + k
  one_more place k = omega arith

  none_more : (place : ℕ) → place ≡ place + 0
  none_more place = omega arith

  units_hold : (units us : List SourceUnit) (place : ℕ) (before : Led Defined) → Stands before → before.made.units ≡ units → ((k : ℕ) → slice_get us k ≡ slice_get units (place + k)) → All HasOwnTokens us → Good Stands (units_defined place us before)
  units_hold units [] place before h e at all = h
  units_hold units (u ∷ us) place before h e at all =
      let here : slice_get before.made.units place ≡ Some u = ap (λ (xs : List SourceUnit). slice_get xs place) e ∙ ap (λ (n : ℕ). slice_get units n) (none_more place) ∙ sym (at 0) in
      good_then (Step (record { made = before.made; scope = in_unit place before.scope })) Stands (unit_defined place u before) (units_defined (place + 1) us) (unit_holds place u before h here (All-head HasOwnTokens u us all))
      (λ after k. units_hold units us (place + 1) after k.stands (k.units ∙ e) (λ i. at (suc i) ∙ ap (λ (n : ℕ). slice_get units n) (one_more place i)) (All-tail HasOwnTokens u us all))

-- ---- programs

same_program : (p q : ProgramForm) → (◌≡◌ {A = Verdict ProgramForm} (Ok p) (Ok q)) → p ≡ q
same_program p q e = cc

module _ (keeps : HalfKeeps) (stays : ArithmeticStaysInRange) (structs : StructsFit) (constants : ConstantsFit) (functions : FunctionsFit) (spaces : SpacesRest) (entries : EntryStands) where
  abbrev start : List SourceUnit → Led Defined
  start units = record { made = library_definitions units; scope = library_scope }

  first_stands : (units : List SourceUnit) → Stands (start units)
  first_stands units = record { scope = first_scope; defined = library_stands keeps stays units; resting = spaces.begins units }

  no_places : (units : List SourceUnit) (k : ℕ) → slice_get units k ≡ slice_get units (0 + k)
  no_places units k = ap (λ (n : ℕ). slice_get units n) (omega arith)

  pub programs_keep_rules : CheckedProgramsKeepRules
  programs_keep_rules units p all e = by (units_defined 0 units (start units)) refl e where
    by : (v : Verdict (Led Defined)) → units_defined 0 units (start units) ≡ v → (v >>= (λ all. Ok (program_of all))) ≡ Ok p → IsProgram p
    by (Ok l) f g =
        let stands = good_of Stands (units_defined 0 units (start units)) (units_hold structs constants functions spaces units units 0 (start units) (first_stands units) refl (no_places units) all) l f in
        subst IsProgram (same_program (program_of l) p g) (record { defined = stands.defined; named = refl; entry = entries units l f })
    by (Err fault) f g = absurd (cc)
