-- Names, steps into values, and places.
use Rattle.std.proofs.Common.{◌≡◌, ℕ, zero, suc, ◌<◌, max, List, [], ◌∷◌, ◌++◌, map, length, Option, Some, None, Ok, Err, Bool, true, false, ◌&&◌, if◌then◌else◌, nat_lt, refl, sym, ap, subst, ◌∙◌, arith, slice_get, lt-ltb, codes, bytes_eq}
use Rattle.ctl_base.specs.declared.kind.ScalarKind.{ScalarKind}
use Rattle.ctl_base.specs.declared.kind.ScalarKind.TheVariants as kind
use Rattle.ctl_tree.specs.declared.expression.QualifiedName.{QualifiedName}
use Rattle.ctl_tree.specs.declared.expression.FieldAccess.{FieldAccess}
use Rattle.ctl_types.specs.declared.shape.Base.{Base}
use Rattle.ctl_types.specs.declared.shape.Base.TheVariants.{Scalar, Struct}
use Rattle.ctl_types.specs.declared.shape.Size.{Size}
use Rattle.ctl_types.specs.declared.expression.TypedExpr.{TypedExpr, roll-TypedExpr, out-TypedExpr}
use Rattle.ctl_types.specs.declared.expression.TypedStep.{TypedStep, roll-TypedStep}
use Rattle.ctl_types.specs.declared.expression.Argument.{Argument}
use Rattle.ctl_types.specs.declared.expression.Operand.{Operand}
use Rattle.ctl_types.specs.declared.expression.TypedCall.{TypedCall}
use Rattle.ctl_types.specs.declared.expression.TypedLink.{TypedLink}
use Rattle.ctl_types.specs.declared.expression.TypedPlace.{TypedPlace, out-TypedPlace}
use Rattle.ctl_types.specs.declared.expression.Argument.TheOpen as form
use Rattle.ctl_types.specs.declared.expression.Argument.TheOpen.{TypedExpr-F}
use Rattle.ctl_types.specs.declared.expression.Argument.TheFolds.{fold-roll-TypedPlace}
use Rattle.ctl_types.specs.declared.expression.Argument.TheViews.{roll-out-TypedExpr}
use Rattle.ctl_types.specs.declared.program.Field.{Field}
use Rattle.ctl_types.specs.declared.program.Struct.{Struct as StructForm}
use Rattle.ctl_types.specs.declared.program.Constant.{Constant}
use Rattle.ctl_types.specs.Shapes.{base_of, local, field_shapes_in, field_shapes}
use Rattle.ctl_types.specs.Definitions.{Defined}
use Rattle.ctl_types.specs.Typing.{Typed, Variable, Variables, Scene, shape_stands, node_stands, size_stands, constant_type, variable_type, local_type, is_index, element_type, shape_type, field_type, steps_type, first_is, place_assignable, expr_type, place_type, PlaceType}
use Rattle.ctl_scope.specs.declared.kind.CheckKind.TheVariants.{UnknownName, Mismatch}
use Rattle.ctl_scope.specs.declared.meaning.Meaning.{Meaning}
use Rattle.ctl_scope.specs.declared.meaning.Meaning.TheVariants as meaning
use Rattle.ctl_scope.specs.Scope.{ScopeForm, look_up, visible}
use Rattle.ctl_scope.specs.Beside.{scene}
use Rattle.ctl_check_rules.specs.declared.checked.Checked.{Checked}
use Rattle.ctl_check_expr.specs.declared.checked.Part.{Part}
use Rattle.ctl_check_rules.specs.Faults.{Verdict, node_of}
use Rattle.ctl_check_rules.specs.Operators.{scalar_kind}
use Rattle.ctl_check_rules.specs.Shapes.{stated_sizes}
use Rattle.ctl_check_expr.specs.Places.{variable_checked, constant_checked, variable_rule, constant_rule, meaning_rule, name_checked, Stepping, IndexStep, FieldStep, is_index_kind, stepped, index_in, index_rule, part_form, size_part, field_from, fields_of, field_step, field_found, field_in, field_rule, step_checked, steps_checked, part_with, opened_in, opened, path_checked, stepped_path, place, place_from, place_in, place_of}
use Rattle.ctl_check_laws.specs.Accepted.{known, value_stands, variables_stand, Holds, IsAccepted}
use Rattle.ctl_check_laws.specs.WellTyped.{tokens_around}
use Rattle.ctl_check_laws.proofs.Basics.{both, and_true, get_some, Good, good_then, good_at, good_if}
use Rattle.ctl_check_laws.proofs.Shapes.{size_same, scalar_stands, element_stands, first_stands}
use Rattle.ctl_check_laws.proofs.Types as types
use Rattle.ctl_check_laws.proofs.Types.{scalar, scalar_with, known_as, besides_known, besides_none, besides_back, some_many, steps_last, step_of}
use Rattle.ctl_check_laws.proofs.Kept.{Kept, less_max, scalar_at}
use Rattle.ctl_check_laws.proofs.Around.{StatedShape, stated_value, stated_type, Around}

variable_stands : (x : Scene) (vs : Variables) (k : ℕ) (v : Variable) → variables_stand x vs ≡ true → slice_get vs k ≡ Some (Some v) → shape_stands x v.shape ≡ true
variable_stands x [] k v h e = absurd (cc)
variable_stands x (None ∷ vs) zero v h e = absurd (cc)
variable_stands x (Some w ∷ vs) zero v h e = let q : w ≡ v = cc in subst (λ (v : Variable). shape_stands x v.shape ≡ true) q (both (shape_stands x w.shape) _ h).0
variable_stands x (None ∷ vs) (suc k) v h e = variable_stands x vs k v h e
variable_stands x (Some w ∷ vs) (suc k) v h e = variable_stands x vs k v (both (shape_stands x w.shape) _ h).1 e

-- the kinds of an index
index_of : (o : Option ScalarKind) → is_index_kind o ≡ true → (a : ScalarKind) × (o ≡ Some a) × ((m : ℕ) → is_index (scalar a m) ≡ true)
index_of None h = absurd (cc)
index_of (Some kind.Bool) h = (kind.Bool, refl, λ m. refl)
index_of (Some kind.Int) h = (kind.Int, refl, λ m. refl)
index_of (Some kind.Unsigned) h = (kind.Unsigned, refl, λ m. refl)
index_of (Some kind.Half) h = absurd (cc)
index_of (Some kind.Float) h = absurd (cc)

shape_of_field : (o : Option StructForm) (n : ℕ) (f : Field) → slice_get (fields_of o) n ≡ Some f → slice_get (field_shapes_in o) n ≡ Some f.shape
shape_of_field None n f e = absurd (cc)
shape_of_field (Some d) n f e = get_some (λ (f : Field). f.shape) d.fields n f e

module _ (x : Scene) (vs : Variables) where
  place_is : (n : ℕ) (steps : List TypedStep) → place_type x vs (place n steps) ≡ record { type = steps_type (map (step_of x vs) steps) (variable_type (slice_get vs n)); is_assignable = place_assignable (slice_get vs n) }
  place_is n steps = fold-roll-TypedPlace _ _ _ _ _ _ _ _ _ _ _ _ _ _ (record { variable = n; steps = steps })

  -- the path of a part is of the type after its steps
  part_is : (root : TypedExpr) (steps : List TypedStep) (sizes : List Size) (base : Option Base) (depth : ℕ) → steps_type (map (step_of x vs) steps) (expr_type x vs root) ≡ known sizes base depth → expr_type x vs (part_form root steps) ≡ known sizes base depth
  part_is root [] sizes base depth e = e
  part_is root (s ∷ steps) sizes base depth e = types.path_is x vs root (s ∷ steps) ∙ besides_none (nat_lt 0 (length (map (step_of x vs) (s ∷ steps)))) _ sizes base depth (some_many (step_of x vs s) (map (step_of x vs) steps)) e

  from_is : (steps : List TypedStep) (y : TypedExpr-F Argument TypedExpr TypedStep Operand TypedCall TypedLink TypedPlace) (p : TypedPlace) → place_from steps y ≡ Some p → (place_type x vs p).type ≡ steps_type (map (step_of x vs) steps) (expr_type x vs (roll-TypedExpr y))
  from_is steps (form.Literal a) p e = absurd (cc)
  from_is steps (form.Constant n) p e = absurd (cc)
  from_is steps (form.Variable k) p e =
      let q : place k steps ≡ p = cc in
      ap (λ p. (place_type x vs p).type) (sym q) ∙ ap (λ (t : PlaceType). t.type) (place_is k steps) ∙ sym (ap (steps_type (map (step_of x vs) steps)) (types.variable_is x vs k))
  from_is steps (form.Unary op k o) p e = absurd (cc)
  from_is steps (form.Chain o links) p e = absurd (cc)
  from_is steps (form.Logic l os) p e = absurd (cc)
  from_is steps (form.Path root more) p e = absurd (cc)
  from_is steps (form.Size o size) p e = absurd (cc)
  from_is steps (form.Call call) p e = absurd (cc)

  in_is : (y : TypedExpr-F Argument TypedExpr TypedStep Operand TypedCall TypedLink TypedPlace) (p : TypedPlace) (sizes : List Size) (base : Option Base) (depth : ℕ) → expr_type x vs (roll-TypedExpr y) ≡ known sizes base depth → place_in y ≡ Some p → (place_type x vs p).type ≡ known sizes base depth
  in_is (form.Literal a) p sizes base depth t e = absurd (cc)
  in_is (form.Constant n) p sizes base depth t e = absurd (cc)
  in_is (form.Variable k) p sizes base depth t e = from_is [] (form.Variable k) p e ∙ t
  in_is (form.Unary op k o) p sizes base depth t e = absurd (cc)
  in_is (form.Chain o links) p sizes base depth t e = absurd (cc)
  in_is (form.Logic l os) p sizes base depth t e = absurd (cc)
  in_is (form.Path root steps) p sizes base depth t e =
      from_is steps (out-TypedExpr root) p e ∙ ap (λ root. steps_type (map (step_of x vs) steps) (expr_type x vs root)) (roll-out-TypedExpr root) ∙ besides_back _ _ sizes base depth (sym (types.path_is x vs root steps) ∙ t)
  in_is (form.Size o size) p sizes base depth t e = absurd (cc)
  in_is (form.Call call) p sizes base depth t e = absurd (cc)

  -- the place that an expression of a known type is has that type
  pub place_known : (e : TypedExpr) (p : TypedPlace) (sizes : List Size) (base : Option Base) (depth : ℕ) → expr_type x vs e ≡ known sizes base depth → place_of e ≡ Some p → (place_type x vs p).type ≡ known sizes base depth
  place_known e p sizes base depth t q = in_is (out-TypedExpr e) p sizes base depth (ap (expr_type x vs) (roll-out-TypedExpr e) ∙ t) q

-- what may be assigned in a scope may be assigned among more variables
pub assignable_held : (scope vs : Variables) (k : ℕ) → Holds vs scope → place_assignable (slice_get scope k) ≡ true → place_assignable (slice_get vs k) ≡ true
assignable_held scope vs k h e = by (slice_get scope k) refl e where
  by : (o : Option (Option Variable)) → slice_get scope k ≡ o → place_assignable o ≡ true → place_assignable (slice_get vs k) ≡ true
  by None q f = absurd (cc)
  by (Some None) q f = absurd (cc)
  by (Some (Some v)) q f = ap place_assignable (h k v q) ∙ f

module _ (s : ScopeForm) (d : Defined) (vs : Variables) (g : Around s d vs) where
  -- an accepted expression
  abbrev K : Checked → Type 0
  K = Kept (scene s d) vs (tokens_around s d)

  pub node_there : (token : ℕ) → token < tokens_around s d → node_stands (scene s d) (node_of s.unit token) ≡ true
  node_there token l = lt-ltb _ _ l

  -- ---- names

  variable_good : (k token : ℕ) (o : Option (Option Variable)) → slice_get (visible s) k ≡ o → token < tokens_around s d → Good K (variable_rule k token o)
  variable_good k token None e l = tt
  variable_good k token (Some None) e l = tt
  variable_good k token (Some (Some v)) e l = record {
    form = record { type = types.variable_is (scene s d) vs k ∙ ap variable_type (g.holds k v e); shape = variable_stands (scene s d) (visible s) k v g.variables e; depth = g.roomy };
    token = l;
  }

  constant_good : (n token : ℕ) (o : Option Constant) → slice_get d.constants n ≡ o → token < tokens_around s d → Good K (constant_rule n token o)
  constant_good n token None e l = tt
  constant_good n token (Some c) e l =
      let h = g.constants n c e in
      record {
        form = record {
          type = types.constant_is (scene s d) vs n ∙ ap constant_type (get_some (λ (c : Constant). c.shape) d.constants n c e) ∙ stated_type (scene s d) c.shape h;
          shape = stated_value (scene s d) c.shape h;
          depth = g.roomy;
        };
        token = l;
      }

  meaning_good : (token : ℕ) (o : Option Meaning) → token < tokens_around s d → Good K (meaning_rule s d token o)
  meaning_good token None l = tt
  meaning_good token (Some (meaning.Variable k)) l = variable_good k token (slice_get (visible s) k) refl l
  meaning_good token (Some (meaning.Constant n)) l = constant_good n token (slice_get d.constants n) refl l
  meaning_good token (Some (meaning.Function n)) l = tt
  meaning_good token (Some (meaning.Struct n)) l = tt
  meaning_good token (Some meaning.Namespace) l = tt
  meaning_good token (Some (meaning.Library id)) l = tt

  pub name_good : (name : QualifiedName) → name.token < tokens_around s d → Good K (name_checked s d name)
  name_good name l = good_at K s.unit name.token (meaning_rule s d name.token (look_up s name)) (meaning_good name.token (look_up s name) l)

  -- ---- steps

  -- the type after the steps so far
  abbrev after : Part → Typed
  after p = steps_type (map (step_of (scene s d) vs) p.steps) (expr_type (scene s d) vs p.root)

  pub record PartKept (p : Part) : Type 0 where
    pub type : after p ≡ known p.sizes p.base p.depth
    pub shape : value_stands (scene s d) p.sizes p.base ≡ true
    pub depth : p.depth < (scene s d).too_deep
    pub token : p.token < tokens_around s d

  index_kept : (token : ℕ) (e : Checked) (p : Part) (sizes : List Size) → K e → PartKept p → token < tokens_around s d → p.sizes ≡ sizes → Good PartKept (index_in s.unit token e p sizes)
  index_kept token e p [] h k l q = tt
  index_kept token e p (size ∷ sizes) h k l q = good_if PartKept (is_index_kind (scalar_kind e)) _ Mismatch (λ i.
      let t = expr_type (scene s d) vs e.form in
      let a = index_of (scalar_kind e) i in
      let is : is_index t ≡ true = ap is_index (scalar_at (scene s d) vs (tokens_around s d) e a.0 h a.1) ∙ a.2 e.depth in
      let w : (is_index t && node_stands (scene s d) (node_of s.unit token)) ≡ true = and_true (is_index t) _ is (node_there token l) in
      let whole : after p ≡ known (size ∷ sizes) p.base p.depth = k.type ∙ ap (λ sizes. known sizes p.base p.depth) q in
      let stands : value_stands (scene s d) (size ∷ sizes) p.base ≡ true = subst (λ (sizes : List Size). value_stands (scene s d) sizes p.base ≡ true) q k.shape in
      let deep : t.depth ≡ e.depth = ap (λ (t : Typed). t.depth) h.form.type in
      let step = roll-TypedStep (form.Index e.form (node_of s.unit token)) in
      record {
        type = steps_last (step_of (scene s d) vs) p.steps step (expr_type (scene s d) vs p.root) ∙ types.index_is (scene s d) vs e.form (node_of s.unit token) (after p) ∙ besides_known (is_index t && node_stands (scene s d) (node_of s.unit token)) t.depth (element_type (after p)) sizes p.base p.depth w (ap element_type whole) ∙ ap (known sizes p.base) (let m : max t.depth p.depth ≡ max p.depth e.depth = omega arith in m);
        shape = element_stands (scene s d) size sizes p.base stands;
        depth = less_max p.depth e.depth (scene s d).too_deep k.depth h.form.depth;
        token = l;
      })

  field_kept : (token : ℕ) (p : Part) (m n : ℕ) (o : Option Field) → PartKept p → token < tokens_around s d → p.sizes ≡ [] → p.base ≡ Some (Struct m) → slice_get (fields_of (slice_get d.structs m)) n ≡ o → Good PartKept (field_step token p n o)
  field_kept token p m n None k l q r e = tt
  field_kept token p m n (Some f) k l q r e =
      let h = g.fields m n f e in
      let whole : after p ≡ known [] (Some (Struct m)) p.depth = k.type ∙ known_as p.sizes [] p.base (Some (Struct m)) p.depth p.depth q r refl in
      let step = roll-TypedStep (form.Field n) in
      record {
        type = steps_last (step_of (scene s d) vs) p.steps step (expr_type (scene s d) vs p.root) ∙ types.field_is (scene s d) vs n (after p) ∙ ap (λ t. field_type (scene s d) t n) whole ∙ ap (shape_type true p.depth) (shape_of_field (slice_get d.structs m) n f e) ∙ besides_known true p.depth (local_type (local 0 f.shape)) (stated_sizes f.shape) (Some (base_of f.shape)) 0 refl (stated_type (scene s d) f.shape h) ∙ ap (known (stated_sizes f.shape) (Some (base_of f.shape))) (let m : max p.depth 0 ≡ p.depth = omega arith in m);
        shape = stated_value (scene s d) f.shape h;
        depth = k.depth;
        token = l;
      }

  found_good : (token : ℕ) (p : Part) (m : ℕ) (o : Option ℕ) → PartKept p → token < tokens_around s d → p.sizes ≡ [] → p.base ≡ Some (Struct m) → Good PartKept (field_found token p (fields_of (slice_get d.structs m)) o)
  found_good token p m None k l q r = tt
  found_good token p m (Some n) k l q r = field_kept token p m n (slice_get (fields_of (slice_get d.structs m)) n) k l q r refl

  size_kept : (token : ℕ) (size : Size) (sizes : List Size) (p : Part) → PartKept p → token < tokens_around s d → p.sizes ≡ size ∷ sizes → PartKept (size_part token size p)
  size_kept token size sizes p k l q =
      let e = part_form p.root p.steps in
      let t = expr_type (scene s d) vs e in
      let stands : value_stands (scene s d) (size ∷ sizes) p.base ≡ true = subst (λ (sizes : List Size). value_stands (scene s d) sizes p.base ≡ true) q k.shape in
      let whole : t ≡ known (size ∷ sizes) p.base p.depth = part_is (scene s d) vs p.root p.steps p.sizes p.base p.depth k.type ∙ ap (λ sizes. known sizes p.base p.depth) q in
      let well : t.well ≡ true = ap (λ (t : Typed). t.well) whole in
      let first : first_is size t.sizes ≡ true = ap (λ (t : Typed). first_is size t.sizes) whole ∙ size_same size in
      let b : ((t.well && first_is size t.sizes) && size_stands (scene s d) size) ≡ true = and_true (t.well && first_is size t.sizes) _ (and_true t.well _ well first) (first_stands (scene s d) size sizes p.base stands) in
      record {
        type = types.size_is (scene s d) vs e size ∙ scalar_with ((t.well && first_is size t.sizes) && size_stands (scene s d) size) kind.Int t.depth p.depth b (ap (λ (t : Typed). t.depth) whole);
        shape = scalar_stands (scene s d) kind.Int;
        depth = k.depth;
        token = l;
      }

  field_good : (f : FieldAccess) (p : Part) (sizes : List Size) (base : Option Base) → PartKept p → f.token < tokens_around s d → p.sizes ≡ sizes → p.base ≡ base → Good PartKept (field_in d f p sizes base)
  field_good f p [] None k l q r = tt
  field_good f p [] (Some (Scalar a)) k l q r = tt
  field_good f p [] (Some (Struct m)) k l q r = found_good f.token p m (field_from f.name 0 (fields_of (slice_get d.structs m))) k l q r
  field_good f p (size ∷ sizes) base k l q r = good_if PartKept (bytes_eq f.name (codes "size")) (size_part f.token size p) UnknownName (λ is. size_kept f.token size sizes p k l q)

  -- a step whose index is accepted, with its own token
  abbrev pub StepGood : Stepping → Type 0
  StepGood (IndexStep index token) = Good K index × (token < tokens_around s d)
  StepGood (FieldStep f) = f.token < tokens_around s d

  abbrev pub StepsGood : List Stepping → Type 0
  StepsGood [] = Unit {0}
  StepsGood (step ∷ steps) = StepGood step × StepsGood steps

  step_good : (step : Stepping) (p : Part) → StepGood step → PartKept p → Good PartKept (step_checked s.unit d step p)
  step_good (IndexStep index token) p h k = good_then K PartKept index _ h.0 (λ e i. good_at PartKept s.unit token (index_rule s.unit token e p) (index_kept token e p p.sizes i k h.1 refl))
  step_good (FieldStep f) p h k = good_at PartKept s.unit f.token (field_rule d f p) (field_good f p p.sizes p.base k h refl refl)

  steps_good : (steps : List Stepping) (p : Part) → StepsGood steps → PartKept p → Good PartKept (steps_checked s.unit d steps p)
  steps_good [] p h k = k
  steps_good (step ∷ steps) p h k = good_then PartKept PartKept (step_checked s.unit d step p) _ (step_good step p h.0 k) (λ q i. steps_good steps q h.1 i)

  -- ---- paths

  whole_kept : (c : Checked) → K c → PartKept (part_with c c.form [])
  whole_kept c h = record { type = h.form.type; shape = h.form.shape; depth = h.form.depth; token = h.token }

  opened_kept : (c : Checked) (y : TypedExpr-F Argument TypedExpr TypedStep Operand TypedCall TypedLink TypedPlace) → K c → roll-TypedExpr y ≡ c.form → PartKept (opened_in c y)
  opened_kept c (form.Literal a) h e = whole_kept c h
  opened_kept c (form.Constant n) h e = whole_kept c h
  opened_kept c (form.Variable k) h e = whole_kept c h
  opened_kept c (form.Unary op k o) h e = whole_kept c h
  opened_kept c (form.Chain o links) h e = whole_kept c h
  opened_kept c (form.Logic l os) h e = whole_kept c h
  opened_kept c (form.Path root steps) h e = record {
    type = besides_back _ _ c.sizes c.base c.depth (sym (types.path_is (scene s d) vs root steps) ∙ ap (expr_type (scene s d) vs) e ∙ h.form.type);
    shape = h.form.shape;
    depth = h.form.depth;
    token = h.token;
  }
  opened_kept c (form.Size o size) h e = whole_kept c h
  opened_kept c (form.Call call) h e = whole_kept c h

  path_kept : (p : Part) → PartKept p → K (path_checked p)
  path_kept p k = record {
    form = record { type = part_is (scene s d) vs p.root p.steps p.sizes p.base p.depth k.type; shape = k.shape; depth = k.depth };
    token = k.token;
  }

  pub path_good : (steps : List Stepping) (root : Checked) → StepsGood steps → K root → Good K (stepped_path s.unit d steps root)
  path_good steps root h k = good_then PartKept K (steps_checked s.unit d steps (opened root)) _ (steps_good steps (opened root) h (opened_kept root (out-TypedExpr root.form) k (roll-out-TypedExpr root.form))) (λ p i. path_kept p i)
