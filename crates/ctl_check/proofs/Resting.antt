-- What stays between definitions.
use Rattle.std.proofs.Common.{◌≡◌, ◌<◌, ◌+◌, ℕ, List, ◌∷◌, map, drop, length, get_or, Result, Ok, Err, refl, ◌∙◌, ap, subst, sym}
use Rattle.ctl_tree.specs.Units.{SourceUnit}
use Rattle.ctl_tree.specs.declared.definition.Definition.{Definition}
use Rattle.ctl_types.specs.Scoping.{library_definitions}
use Rattle.ctl_types.specs.Definitions.{Defined}
use Rattle.ctl_scope.specs.Scope.{ScopeForm}
use Rattle.ctl_scope.specs.Changes.{in_space, out_of_space, with_space, library_scope}
use Rattle.ctl_check_rules.specs.declared.fault.ExprFault.{ExprFault}
use Rattle.ctl_check_rules.specs.declared.fault.ExprFault.TheVariants.{At, Memory}
use Rattle.ctl_check_rules.specs.Faults.{Verdict, node_of, rule_at, ◌>>=◌}
use Rattle.ctl_check_statement.specs.Leading.{Led}
use Rattle.ctl_check_function.specs.Defining.{space_rule, space_named, all_defined, defined}
use Rattle.ctl_check_function.specs.Programs.{units_defined, program_of}
use Rattle.ctl_check_function.specs.Laws.{Resting, Stays, SpacesRest, SpaceEnds}
use Rattle.ctl_check.specs.Checks.{ProgramDefined}
use Rattle.ctl_check.proofs.Tokens.{drop_item}
use Rattle.ctl_check.specs.Keeps.{Defines, Rests, RestsOn, KeepsRest, KeepsUnits, SpaceLeft}

-- before the first definition
pub rests_here : (s : ScopeForm) (d : Defined) → Resting s d → Rests s d s d
rests_here s d r = record { resting = r; stays = record { unit = refl; spaces = refl }; units = refl }

-- one after another
pub rests_on : (s : ScopeForm) (d : Defined) (t : ScopeForm) (e : Defined) (u : ScopeForm) (f : Defined) → Rests s d t e → Rests t e u f → Rests s d u f
rests_on s d t e u f p q = record {
  resting = q.resting;
  stays = record { unit = q.stays.unit ∙ p.stays.unit; spaces = q.stays.spaces ∙ p.stays.spaces };
  units = q.units ∙ p.units;
}

-- a namespace ends
rests_behind : SpacesRest → (s : ScopeForm) (d : Defined) (name : List ℕ) (t : ScopeForm) (e : Defined) → Rests (in_space name s) d t e → Rests s d (with_space name (out_of_space t)) e
rests_behind law s d name t e r = record {
  resting = (law.leave s t e name r.stays r.resting).resting;
  stays = (law.leave s t e name r.stays r.resting).stays;
  units = r.units;
}

pub left_keeps : SpacesRest → (r : Result (Unit {0}) ExprFault) (s : ScopeForm) (d : Defined) (name : List ℕ) (token : ℕ) (t : ScopeForm) (e : Defined) (after : ScopeForm) → Rests (in_space name s) d t e → SpaceLeft r after name token (out_of_space t) → KeepsRest r s d after e
left_keeps law (Ok tt) s d name token t e after h l = subst (λ u. Rests s d u e) (sym l.1) (rests_behind law s d name t e h)
left_keeps law (Err fault) s d name token t e after h l = tt

-- its verdict
pub left_defines : (r : Result (Unit {0}) ExprFault) (after : ScopeForm) (name : List ℕ) (token : ℕ) (d : Defined) (s : ScopeForm) → SpaceLeft r after name token s → Defines r after d (space_named name token d s)
left_defines (Ok tt) after name token d s l =
    ap (λ v. rule_at s.unit token v >>= (λ fine. Ok (record { made = d; scope = with_space name s }))) l.0 ∙ ap (λ u. Ok (record { made = d; scope = u })) (sym l.1)
left_defines (Err (At node kind)) after name token d s l =
    ap (λ v. rule_at s.unit token v >>= (λ fine. Ok (record { made = d; scope = with_space name s }))) l.0 ∙ ap (λ n. Err (record { node = n; kind = kind })) (sym l.1)
left_defines (Err Memory) after name token d s l = tt

-- a unit keeps what its definitions keep
pub keeps_units : (r : Result (Unit {0}) ExprFault) (s : ScopeForm) (d : Defined) (after : ScopeForm) (more : Defined) → KeepsRest r s d after more → KeepsUnits r d after more
keeps_units (Ok tt) s d after more h = record { resting = h.resting; units = h.units }
keeps_units (Err fault) s d after more h = tt

-- ---- definitions, one after another

-- a part behind those before it
pub defined_on :
    (parts : List Definition) (i : ℕ) (part : Definition) (before after : Led Defined) (v : Verdict (Led Defined)) → i < length parts → part ≡ get_or parts i part
    → defined part before ≡ Ok after → all_defined (map defined (drop i parts)) before ≡ v → all_defined (map defined (drop (i + 1) parts)) after ≡ v
defined_on parts i part before after v less is e all =
    sym (ap (λ (ps : List Definition). all_defined (map defined ps) before) (drop_item parts i part less is) ∙ ap (λ (w : Verdict (Led Defined)). w >>= (λ a. all_defined (map defined (drop (i + 1) parts)) a)) e)
    ∙ all

-- ---- programs

said : (r : Result (Unit {0}) ExprFault) (s : ScopeForm) (d : Defined) (units : List SourceUnit) → Defines r s d (units_defined 0 units (record { made = library_definitions units; scope = library_scope })) → ProgramDefined r d units
said (Ok tt) s d units e = (s, e)
said (Err (At node kind)) s d units e = ap (λ (v : Verdict (Led Defined)). v >>= (λ all. Ok (program_of all))) e
said (Err Memory) s d units e = tt

-- what is said of all units, from the library on
pub program_defined :
    (r : Result (Unit {0}) ExprFault) (s : ScopeForm) (d : Defined) (units given : List SourceUnit) (first : ScopeForm) (before : Defined) → given ≡ units → first ≡ library_scope
    → before ≡ library_definitions units → Defines r s d (units_defined 0 given (record { made = before; scope = first })) → ProgramDefined r d units
program_defined r s d units given first before is_given is_first is_before h =
    said r s d units
    (subst (λ t. Defines r s d (units_defined 0 units (record { made = library_definitions units; scope = t }))) is_first
    (subst (λ x. Defines r s d (units_defined 0 units (record { made = x; scope = first }))) is_before
    (subst (λ us. Defines r s d (units_defined 0 us (record { made = before; scope = first }))) is_given h)))
