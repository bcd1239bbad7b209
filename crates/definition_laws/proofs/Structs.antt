-- A struct that the checker accepts stands.
use Rattle.std.proofs.Common.{◌≡◌, ℕ, List, [], ◌∷◌, ◌++◌, length, Option, Some, None, Result, Ok, Err, Bool, true, false, ◌&&◌, if◌then◌else◌, nat_lt, nat_le, refl, sym, ap, subst, ◌∙◌}
use Rattle.ctl_base.specs.declared.limits.TheConstants.{SCALARS}
use Rattle.ctl_tree.specs.declared.definition.Field.{Field as WrittenField}
use Rattle.ctl_tree.specs.declared.definition.Struct.{Struct as Written}
use Rattle.ctl_types.specs.declared.shape.Shape.{Shape}
use Rattle.ctl_types.specs.declared.program.Field.{Field}
use Rattle.ctl_types.specs.declared.program.Struct.{Struct}
use Rattle.ctl_types.specs.Shapes.{struct_scalars, struct_counts}
use Rattle.ctl_types.specs.Typing.{Scene}
use Rattle.ctl_types.specs.Definitions.{Defined}
use Rattle.ctl_types.specs.Scoping.{IsDefined, field_stands, fields_stand, empty_scene, struct_stands}
use Rattle.ctl_types.specs.Scoping as definitions
use Rattle.ctl_program.specs.Laws.{SignaturesStay}
use Rattle.ctl_scope.specs.Scope.{ScopeForm, IsScope}
use Rattle.ctl_scope.specs.Changes.{is_defined, with_struct}
use Rattle.ctl_scope.specs.Beside.{Beside}
use Rattle.ctl_scope.specs.Laws.{FoundIsThere, BesideGrow}
use Rattle.ctl_check_rules.specs.Faults.{Verdict, ◌>>=◌, rule_at}
use Rattle.ctl_check_statement.specs.Leading.{Led}
use Rattle.ctl_check_statement.specs.Declarations.{shape_checked}
use Rattle.ctl_check_function.specs.Structs.{has_field, field_rule, field_checked, fields_checked, struct_rule, struct_named, struct_checked}
use Rattle.ctl_check_function.specs.Laws.{Resting, Stays, StructFits, StructsFit}
use Rattle.definition_laws.proofs.Verdicts.{Good, good_then, good_at, good_if, good_unless, good_of, both, and_true}
use Rattle.definition_laws.proofs.Shapes.{ShapeWell, shape_good, stated_stands}

more_fields : (x : Scene) (fields : List Field) (f : Field) → fields_stand x fields ≡ true → field_stands x f ≡ true → fields_stand x (fields ++ f ∷ []) ≡ true
more_fields x [] f h k = and_true (field_stands x f) _ k refl
more_fields x (g ∷ fields) f h k =
    let p = both (field_stands x g) _ h in
    and_true (field_stands x g) _ p.0 (more_fields x fields f p.1 k)

abbrev scene_in : Defined → Scene
scene_in d = empty_scene [] d.structs (struct_counts d.structs)

abbrev FieldsWell : Defined → List Field → Type 0
FieldsWell d fields = fields_stand (scene_in d) fields ≡ true

module _ (found : FoundIsThere) (s : ScopeForm) (d : Defined) (is : IsScope s) (defined : IsDefined d) (beside : Beside s d) where
  field_good : (f : WrittenField) (before : List Field) → FieldsWell d before → Good (FieldsWell d) (field_checked s d f before)
  field_good f before h =
      good_then (ShapeWell d false) (FieldsWell d) (shape_checked s d false f.shape f.sizes) (λ shape. rule_at s.unit f.token (field_rule f.name shape before))
      (shape_good found s d is defined beside false f.shape f.sizes)
      (λ shape w. good_at (FieldsWell d) s.unit f.token (field_rule f.name shape before) (good_unless (FieldsWell d) (has_field f.name before) _ (Ok (before ++ record { name = f.name; shape = shape } ∷ []))
      (λ e. more_fields (scene_in d) before (record { name = f.name; shape = shape }) h (stated_stands d shape w (scene_in d) refl refl))))

  fields_good : (fields : List WrittenField) (before : List Field) → FieldsWell d before → Good (FieldsWell d) (fields_checked s d fields before)
  fields_good [] before h = h
  fields_good (f ∷ fields) before h =
      good_then (FieldsWell d) (FieldsWell d) (field_checked s d f before) (fields_checked s d fields) (field_good f before h)
      (λ after w. fields_good fields after w)

rule_good : (twice : Bool) (fields scalars : ℕ) → Good (λ (fine : Unit {0}). (nat_lt 0 fields && nat_le scalars SCALARS) ≡ true) (struct_rule twice fields scalars)
rule_good twice fields scalars =
    good_unless (λ (fine : Unit {0}). (nat_lt 0 fields && nat_le scalars SCALARS) ≡ true) twice _ (if nat_lt 0 fields && nat_le scalars SCALARS then Ok tt else Err _)
    (λ e. good_if (λ (fine : Unit {0}). (nat_lt 0 fields && nat_le scalars SCALARS) ≡ true) (nat_lt 0 fields && nat_le scalars SCALARS) tt _ (λ k. k))

named_fits : BesideGrow → SignaturesStay → (s : ScopeForm) (d : Defined) (w : Written) (made : Struct) → IsDefined d → Resting s d → FieldsWell d made.fields
    → (nat_lt 0 (length made.fields) && nat_le (struct_scalars s.counts made) SCALARS) ≡ true → StructFits s d (record { made = made; scope = with_struct w.name (struct_scalars s.counts made) s })
named_fits grow stay s d w made defined rest fields rule =
    let p = both (nat_lt 0 (length made.fields)) _ rule in
    let few : nat_le (struct_scalars (struct_counts d.structs) made) SCALARS ≡ true = subst (λ counts. nat_le (struct_scalars counts made) SCALARS ≡ true) rest.beside.counts p.1 in
    let grown : Beside (with_struct w.name (struct_scalars (struct_counts d.structs) made) s) (definitions.with_struct d made) = (grow s d w.name rest.beside).struct made (stay.struct d defined made) in
    record {
      stands = and_true (nat_lt 0 (length made.fields) && fields_stand (scene_in d) made.fields) _ (and_true (nat_lt 0 (length made.fields)) _ p.0 fields) few;
      resting = record {
        beside = subst (λ counts. Beside (with_struct w.name (struct_scalars counts made) s) (definitions.with_struct d made)) (sym rest.beside.counts) grown;
        outside = ap (λ (s : ScopeForm). with_struct w.name (struct_scalars s.counts made) s) rest.outside;
      };
      stays = record { unit = refl; spaces = refl };
    }

pub structs_all_fit : FoundIsThere → BesideGrow → SignaturesStay → StructsFit
structs_all_fit found grow stay s d w r is defined rest e =
    good_of (StructFits s d) (struct_checked s d w)
    (good_then (FieldsWell d) (StructFits s d) (fields_checked s d w.fields []) (λ fields. struct_named s w (record { fields = fields })) (fields_good found s d is defined rest.beside w.fields [] refl)
    (λ fields h.
    let made : Struct = record { fields = fields } in
    good_then (λ (fine : Unit {0}). (nat_lt 0 (length fields) && nat_le (struct_scalars s.counts made) SCALARS) ≡ true) (StructFits s d) (rule_at s.unit w.token (struct_rule (is_defined s w.name) (length fields) (struct_scalars s.counts made))) (λ fine. Ok (record { made = made; scope = with_struct w.name (struct_scalars s.counts made) s }))
    (good_at (λ (fine : Unit {0}). (nat_lt 0 (length fields) && nat_le (struct_scalars s.counts made) SCALARS) ≡ true) s.unit w.token (struct_rule (is_defined s w.name) (length fields) (struct_scalars s.counts made)) (rule_good (is_defined s w.name) (length fields) (struct_scalars s.counts made)))
    (λ fine rule. named_fits grow stay s d w made defined rest h rule)))
    r e
