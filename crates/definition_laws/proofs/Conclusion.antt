-- What the proof for statements needs, from the laws of expressions, initialisers and shapes.
use Rattle.std.proofs.Common.{◌≡◌, ℕ, zero, suc, ◌+◌, ◌<◌, List, [], ◌∷◌, ◌++◌, map, length, get_or, Option, Some, None, is_some, Result, Ok, Err, Bool, true, false, not, ◌&&◌, ◌||◌, ◌==◌, if◌then◌else◌, refl, sym, ap, subst, ◌∙◌, arith, All}
use Rattle.std.specs.Prelude.{max}
use Rattle.std.proofs.lemmas.List.{append_assoc, append-nil}
use Rattle.std.proofs.lemmas.Bool.{eq-eqb}
use Rattle.std.proofs.lemmas.List.Elements.{All-head, All-tail}
use Rattle.ctl_base.specs.declared.kind.ScalarKind.{ScalarKind}
use Rattle.ctl_base.specs.declared.kind.ScalarKind.TheVariants as kind
use Rattle.ctl_tree.specs.declared.expression.Expr.{Expr}
use Rattle.ctl_tree.specs.declared.declaration.ShapeName.{ShapeName}
use Rattle.ctl_tree.specs.declared.declaration.ArraySize.{ArraySize}
use Rattle.ctl_tree.specs.declared.declaration.Initialiser.{Initialiser as Written}
use Rattle.ctl_tree.specs.declared.declaration.Variable.{Variable as WrittenVariable}
use Rattle.ctl_tree.specs.declared.declaration.Constant.{Constant}
use Rattle.ctl_tree.specs.declared.statement.PrintItem.{PrintItem}
use Rattle.ctl_tree.specs.declared.statement.PrintItem.TheVariants.{Text, Expr as ExprItem}
use Rattle.ctl_tree.specs.OwnTokens.{Tokens, Below, expr_tokens, all_tokens, item_tokens, initialiser_tokens, shape_tokens, array_size_tokens, some_tokens}
use Rattle.ctl_types.specs.declared.shape.Base.{Base}
use Rattle.ctl_types.specs.declared.shape.Base.TheVariants.{Scalar, Struct}
use Rattle.ctl_types.specs.declared.shape.Size.{Size}
use Rattle.ctl_types.specs.declared.shape.Size.TheVariants.{Stated, Open}
use Rattle.ctl_types.specs.declared.shape.Shape.{Shape}
use Rattle.ctl_types.specs.declared.statement.PrintItem.{PrintItem as TypedItem}
use Rattle.ctl_types.specs.declared.statement.PrintItem.TheVariants as item
use Rattle.ctl_types.specs.Scalars.{same_kind}
use Rattle.ctl_types.specs.Shapes.{extents, base_of}
use Rattle.ctl_types.specs.Definitions.{Defined}
use Rattle.ctl_types.specs.Typing.{Typed, Variables, Scene, has, same_size, same_sizes, same_base, same_bases, are_stated, shape_stands, expr_type, operand_type, call_form_type, result_type, Variable}
use Rattle.ctl_types.specs.Scoping.{Scope, Scoped, Scoping, IsDefined, item_type, scope_items, simple, result_stands, first_type}
use Rattle.ctl_scope.specs.declared.kind.CheckKind.{CheckKind}
use Rattle.ctl_scope.specs.Scope.{ScopeForm, IsScope, visible}
use Rattle.ctl_scope.specs.Beside.{Beside, scene}
use Rattle.ctl_scope.specs.Changes.{is_declared, declared}
use Rattle.ctl_scope.specs.Laws.{ScopesStay}
use Rattle.ctl_check_rules.specs.declared.checked.Checked.{Checked}
use Rattle.ctl_check_rules.specs.Faults.{Verdict, ◌>>=◌, rule_at}
use Rattle.ctl_check_rules.specs.Shapes.{stated_sizes}
use Rattle.ctl_check_expr.specs.Checking.{checked}
use Rattle.ctl_check_init.specs.declared.begun.Begun.{Begun}
use Rattle.ctl_check_init.specs.Initialisers.{begun, begun_rule}
use Rattle.ctl_check_init.specs.Takings.{test_rule}
use Rattle.ctl_check_statement.specs.declared.stated.Declared.{Declared}
use Rattle.ctl_check_statement.specs.declared.stated.Printed.{Printed}
use Rattle.ctl_check_statement.specs.Leading.{Led}
use Rattle.ctl_check_statement.specs.Declarations.{shape_checked, declaring, declaring_rule, first_rule, declared_with, begun_with, variable_declared, constant_declared}
use Rattle.ctl_check_statement.specs.Printing.{printed, none_printed, item_printed, text_printed, value_printed}
use Rattle.ctl_check_laws.specs.Accepted.{known, Holds, variables_stand}
use Rattle.ctl_check_laws.specs.WellTyped as typed
use Rattle.ctl_check_laws.specs.WellTyped.{TypedIsWellTyped, TypedCallIsWellTyped, tokens_around}
use Rattle.initialiser_laws.specs.Wanted.{may_be_wanted}
use Rattle.initialiser_laws.specs.Laws.{InitialisersAreWell, AssignmentsAreWell, TestsAreBool, ReturnsAreWell}
use Rattle.definition_laws.proofs.Standing.{Standing}
use Rattle.definition_laws.proofs.Verdicts.{Good, good_then, good_more, good_at, good_if, good_all}
use Rattle.definition_laws.proofs.Parted.{all_left, all_right}
use Rattle.definition_laws.proofs.Needs.{Needs, TestWell, CallWell, AssignedWell, ReturnedWell, PrintedWell, DeclaredWell}
use Rattle.definition_laws.proofs.Blocks.{max_assoc, max_zero}
use Rattle.definition_laws.proofs.Declared.{fine_declared}

-- ---- types that are the same

kind_same : (k : ScalarKind) → same_kind k k ≡ true
kind_same kind.Bool = refl
kind_same kind.Int = refl
kind_same kind.Unsigned = refl
kind_same kind.Half = refl
kind_same kind.Float = refl

number_same : (n : ℕ) → (n == n) ≡ true
number_same n = eq-eqb n n refl

size_same : (s : Size) → same_size s s ≡ true
size_same (Stated n) = number_same n
size_same (Open k) = number_same k

sizes_same : (sizes : List Size) → same_sizes sizes sizes ≡ true
sizes_same [] = refl
sizes_same (s ∷ sizes) = rw (size_same s) (sizes_same sizes)

base_same : (b : Base) → same_base b b ≡ true
base_same (Scalar k) = kind_same k
base_same (Struct n) = number_same n

has_own : (sizes : List Size) (b : Base) (depth : ℕ) → has (known sizes (Some b) depth) sizes (Some b) ≡ true
has_own sizes b depth = rw (sizes_same sizes, base_same b) refl

-- ---- the shapes of declarations

-- a shape that is accepted may be wanted of an initialiser; without one it stands
pub record DeclaredShape (d : Defined) (s : ScopeForm) (may_be_open : Bool) (shape : Shape) : Type 0 where
  pub wanted : may_be_wanted (scene s d) shape ≡ true
  pub stated : may_be_open ≡ false → (are_stated (stated_sizes shape) ≡ true) × (shape_stands (scene s d) (record { sizes = stated_sizes shape; base = base_of shape }) ≡ true)

abbrev pub ShapesStand : Defined → Type 0
ShapesStand d = (s : ScopeForm) → IsScope s → Beside s d → (may_be_open : Bool) (name : ShapeName) (sizes : List ArraySize) → Good (DeclaredShape d s may_be_open) (shape_checked s d may_be_open name sizes)

-- ---- all laws together

pub record Laws (d : Defined) (result : Option Shape) : Type 0 where
  pub defined : IsDefined d
  pub scopes : ScopesStay
  pub typed : TypedIsWellTyped
  pub calls : TypedCallIsWellTyped
  pub tests : TestsAreBool
  pub assignments : AssignmentsAreWell
  pub returns : ReturnsAreWell
  pub initialisers : InitialisersAreWell
  pub shapes : ShapesStand d
  pub given : (s : ScopeForm) → result_stands (scene s d) result ≡ true

module _ (d : Defined) (n : ℕ) (result : Option Shape) (laws : Laws d result) where
  abbrev res : Typed
  res = result_type result

  -- ---- a scope inside a function, for the laws

  seen : (s : ScopeForm) → Standing d n s → visible s ≡ s.variables
  seen s h = ap (λ b. if b then s.variables else []) h.sees

  stands : (s : ScopeForm) → Standing d n s → typed.Standing s d
  stands s h = record { beside = h.beside; defined = laws.defined; variables = subst (λ vs. variables_stand (scene s d) vs ≡ true) (sym (seen s h)) h.variables }

  holds : (s : ScopeForm) (h : Standing d n s) (vs : Variables) → Holds vs s.variables → Holds vs (visible s)
  holds s h vs among = subst (λ ws. Holds vs ws) (sym (seen s h)) among

  around : (s : ScopeForm) → Standing d n s → (ts : Tokens) → Below n ts → Below (tokens_around s d) ts
  around s h ts below = subst (λ m. Below m ts) (sym h.unit) below

  own_among : (vs : Variables) → Holds vs vs
  own_among vs k v e = e

  -- ---- statements without bodies

  test_well : (s : ScopeForm) → Standing d n s → (e : Expr) → Below n (expr_tokens e) → Good (TestWell d n result s) (checked s d e)
  test_well s h e below = good_all (TestWell d n result s) (checked s d e) (λ c eq t te.
      let type : (vs : Variables) → Holds vs s.variables → expr_type (scene s d) vs c.form ≡ known c.sizes c.base c.depth = λ vs among. (laws.typed s d vs e c (stands s h) (holds s h vs among) (around s h (expr_tokens e) below) eq).type in
      ((laws.tests (scene s d) s.variables c t (type s.variables (own_among s.variables)) te).0, λ vs among. (laws.tests (scene s d) vs c t (type vs among) te).1))

  call_well : (s : ScopeForm) → Standing d n s → (e : Rattle.ctl_tree.specs.declared.expression.Call.Call) → Below n (Rattle.ctl_tree.specs.OwnTokens.call_tokens e) → Good (CallWell d n result s) (Rattle.ctl_check_expr.specs.Checking.checked_call s d e)
  call_well s h e below = good_all (CallWell d n result s) _ (λ c eq vs among.
      let a = laws.calls s d vs e c (stands s h) (holds s h vs among) (around s h (Rattle.ctl_tree.specs.OwnTokens.call_tokens e) below) eq in
      (ap (λ (t : Typed). t.well) a.type, ap (λ (t : Typed). t.depth) a.type))

  assigned_well : (s : ScopeForm) → Standing d n s → (a : Rattle.ctl_tree.specs.declared.statement.Assignment.Assignment) → Below n (Rattle.ctl_tree.specs.OwnTokens.assignment_tokens a) → Good (AssignedWell d n result s) (Rattle.ctl_check_init.specs.Assignments.assigned s d a)
  assigned_well s h a below = good_all (AssignedWell d n result s) _ (λ g eq vs among.
      let w = laws.assignments s d vs res a g (stands s h) (holds s h vs among) (around s h (Rattle.ctl_tree.specs.OwnTokens.assignment_tokens a) below) eq in
      (w.well, w.depth))

  returned_well : (s : ScopeForm) → Standing d n s → (r : Rattle.ctl_tree.specs.declared.statement.Return.Return) → Below n (Rattle.ctl_tree.specs.OwnTokens.return_tokens r) → Good (ReturnedWell d n result s) (Rattle.ctl_check_init.specs.Takings.returned s d result r)
  returned_well s h r below = good_all (ReturnedWell d n result s) _ (λ g eq vs among.
      let w = laws.returns s d vs result r g (stands s h) (holds s h vs among) (around s h (Rattle.ctl_tree.specs.OwnTokens.return_tokens r) below) (laws.given s) eq in
      (w.type, w.depth))

  -- ---- printed items

  pub record MorePrinted (s : ScopeForm) (before p : Printed) : Type 0 where
    pub forms : List TypedItem
    pub depth : ℕ
    pub made : p.forms ≡ before.forms ++ forms
    pub deep : p.depth ≡ max before.depth depth
    pub fit : p.fit ≡ true → before.fit ≡ true
    pub runs : p.fit ≡ true → (vs : Variables) (used : List ℕ) → Holds vs s.variables → scope_items (scene s d) res forms (record { variables = vs; used = used }) ≡ record { well = true; after = record { variables = vs; used = used }; returns = false; depth = depth }

  both : (a b : Bool) → (a && b) ≡ true → (a ≡ true) × (b ≡ true)
  both true b h = (refl, h)
  both false b h = absurd (cc)

  printed_none : (s : ScopeForm) (before : Printed) → MorePrinted s before before
  printed_none s before = record {
    forms = [];
    depth = 0;
    made = sym (append-nil before.forms);
    deep = sym (max_zero before.depth);
    fit = λ f. f;
    runs = λ f vs used among. refl;
  }

  -- one item, and those behind it
  printed_more : (s : ScopeForm) (before after p : Printed) (i : TypedItem) (depth : ℕ) → after.forms ≡ before.forms ++ i ∷ [] → after.depth ≡ max before.depth depth
      → (after.fit ≡ true → (before.fit ≡ true) × ((vs : Variables) → Holds vs s.variables → item_type (scene s d) res vs i ≡ record { well = true; sizes = []; base = None; depth = depth }))
      → MorePrinted s after p → MorePrinted s before p
  printed_more s before after p i depth made deep fit rest = record {
    forms = i ∷ rest.forms;
    depth = max depth rest.depth;
    made = rest.made ∙ ap (λ fs. fs ++ rest.forms) made ∙ append_assoc before.forms (i ∷ []) rest.forms;
    deep = rest.deep ∙ ap (λ m. max m rest.depth) deep ∙ max_assoc before.depth depth rest.depth;
    fit = λ f. (fit (rest.fit f)).0;
    runs = λ f vs used among.
        ap (λ (t : Typed). simple (t.well && (scope_items (scene s d) res rest.forms (record { variables = vs; used = used })).well) (max t.depth (scope_items (scene s d) res rest.forms (record { variables = vs; used = used })).depth) (record { variables = vs; used = used })) ((fit (rest.fit f)).1 vs among)
        ∙ ap (λ (o : Scoped). simple o.well (max depth o.depth) (record { variables = vs; used = used })) (rest.runs f vs used among);
  }

  printed_good : (s : ScopeForm) → Standing d n s → (items : List PrintItem) → Below n (all_tokens item_tokens items) → (before : Printed) → Good (MorePrinted s before) (printed s d items before)
  printed_good s h [] below before = printed_none s before
  printed_good s h (Text text ∷ items) below before =
      let after = text_printed before text.text in
      let rest = all_right (λ token. token < n) (text.token ∷ []) (all_tokens item_tokens items) below in
      good_more (MorePrinted s after) (MorePrinted s before) (printed s d items after) (printed_good s h items rest after) (λ p more.
      printed_more s before after p (item.Text text.text) 0 refl (sym (max_zero before.depth)) (λ f. (f, λ vs among. refl)) more)
  printed_good s h (ExprItem e ∷ items) below before =
      let one = all_left (λ token. token < n) (expr_tokens e) (all_tokens item_tokens items) below in
      let rest = all_right (λ token. token < n) (expr_tokens e) (all_tokens item_tokens items) below in
      good_then (λ (after : Printed). (c : Checked) × (checked s d e ≡ Ok c) × (after ≡ value_printed before c)) (MorePrinted s before) (item_printed s d (ExprItem e) before) (printed s d items)
      (good_then (λ (c : Checked). checked s d e ≡ Ok c) (λ (after : Printed). (c : Checked) × (checked s d e ≡ Ok c) × (after ≡ value_printed before c)) (checked s d e) (λ c. Ok (value_printed before c)) (good_all (λ (c : Checked). checked s d e ≡ Ok c) (checked s d e) (λ c eq. eq)) (λ c eq. (c, eq, refl)))
      (λ after w.
      let c = w.0 in
      subst (λ (after : Printed). Good (MorePrinted s before) (printed s d items after)) (sym w.2)
      (good_more (MorePrinted s (value_printed before c)) (MorePrinted s before) (printed s d items (value_printed before c)) (printed_good s h items rest (value_printed before c)) (λ p more.
      printed_more s before (value_printed before c) p (item.Value c.form) c.depth refl refl
      (λ f.
      let b = both before.fit (is_some c.base) f in (
        b.0,
        λ vs among.
            let type = (laws.typed s d vs e c (stands s h) (holds s h vs among) (around s h (expr_tokens e) one) w.1).type in
            ap (λ (t : Typed). record { well = t.well && is_some t.base; sizes = []; base = None; depth = t.depth }) type ∙ ap (λ b. record { well = b; sizes = []; base = None; depth = c.depth }) b.1,
      ))
      more)))

  printed_well : (s : ScopeForm) → Standing d n s → (items : List PrintItem) → Below n (all_tokens item_tokens items) → Good (PrintedWell d n result s) (printed s d items none_printed)
  printed_well s h items below = good_more (MorePrinted s none_printed) (PrintedWell d n result s) (printed s d items none_printed) (printed_good s h items below none_printed) (λ p more f vs used among.
      ap (λ fs. scope_items (scene s d) res fs (record { variables = vs; used = used })) more.made ∙ more.runs f vs used among ∙ ap (λ m. record { well = true; after = record { variables = vs; used = used }; returns = false; depth = m }) (sym (more.deep ∙ zero_max more.depth)))
    where
      zero_max : (m : ℕ) → max 0 m ≡ m
      zero_max m = omega arith

  -- ---- declarations

  zero_good : (s : ScopeForm) → Standing d n s → (name : List ℕ) (token : ℕ) (shape : Shape) → DeclaredShape d s false shape → Good (DeclaredWell d n result false s) (begun_with s d false name token shape None)
  zero_good s h name token shape w =
      let st = w.stated refl in
      let sizes = stated_sizes shape in
      let v : Variable = record { shape = record { sizes = sizes; base = base_of shape }; is_assignable = true } in
      good_at (DeclaredWell d n result false s) s.unit token (declaring_rule s false name sizes (base_of shape) None 0)
      (good_rule (is_declared s.blocks name) (
        refl,
        fine_declared d n res s name false sizes (base_of shape) None 0 h ((laws.scopes s h.scope).variable name v) refl st.1
            (λ vs among. (rw (st.0, sizes_same sizes, base_same (base_of shape)) refl, refl)),
      ))
    where
      good_rule : (b : Bool) → DeclaredWell d n result false s (declaring s false name (stated_sizes shape) (base_of shape) None 0) → Good (DeclaredWell d n result false s) (if b then Err Rattle.ctl_scope.specs.declared.kind.CheckKind.TheVariants.Twice else Ok (declaring s false name (stated_sizes shape) (base_of shape) None 0))
      good_rule true w = tt
      good_rule false w = w

  first_good : (s : ScopeForm) → Standing d n s → (is_constant : Bool) (name : List ℕ) (token : ℕ) (may_be_open : Bool) (shape : Shape) → DeclaredShape d s may_be_open shape → (i : Written) → Below n (initialiser_tokens i) → Good (DeclaredWell d n result is_constant s) (begun_with s d is_constant name token shape (Some i))
  first_good s h is_constant name token may_be_open shape w i below =
      good_then (λ (first : Option Begun). begun s d i (Some shape) ≡ Ok first) (DeclaredWell d n result is_constant s) (begun s d i (Some shape)) (λ first. declared_with s is_constant name token (base_of shape) first) (good_all (λ (first : Option Begun). begun s d i (Some shape) ≡ Ok first) (begun s d i (Some shape)) (λ first e. e))
      (λ first e.
      good_then (λ (b : Begun). begun_rule s.counts (base_of shape) first ≡ Ok b) (DeclaredWell d n result is_constant s) (rule_at s.unit token (first_rule s name (base_of shape) first)) (λ b. Ok (declaring s is_constant name b.sizes (base_of shape) (Some b.form) b.depth))
      (good_at (λ (b : Begun). begun_rule s.counts (base_of shape) first ≡ Ok b) s.unit token (first_rule s name (base_of shape) first) (by (is_declared s.blocks name) first))
      (λ b eb.
      let at : (vs : Variables) → Holds vs s.variables → Rattle.initialiser_laws.specs.Laws.IsInitialiser (scene s d) vs shape b = λ vs among. laws.initialisers s d vs shape i first b (stands s h) (holds s h vs among) (around s h (initialiser_tokens i) below) w.wanted e eb in
      let own = at s.variables (own_among s.variables) in
      let v : Variable = record { shape = record { sizes = b.sizes; base = base_of shape }; is_assignable = not is_constant } in (
        refl,
        fine_declared d n res s name is_constant b.sizes (base_of shape) (Some b.form) b.depth h ((laws.scopes s h.scope).variable name v) refl own.accepted.shape
            (λ vs among.
            let a = (at vs among).accepted.type in
            (ap (λ (t : Typed). has t b.sizes (Some (base_of shape))) a ∙ has_own b.sizes (base_of shape) b.depth, ap (λ (t : Typed). t.depth) a)),
      )))
    where
      by : (twice : Bool) (first : Option Begun) → Good (λ (b : Begun). begun_rule s.counts (base_of shape) first ≡ Ok b) (if twice then Err Rattle.ctl_scope.specs.declared.kind.CheckKind.TheVariants.Twice else begun_rule s.counts (base_of shape) first)
      by true first = tt
      by false first = good_all (λ (b : Begun). begun_rule s.counts (base_of shape) first ≡ Ok b) (begun_rule s.counts (base_of shape) first) (λ b e. e)

  variable_well : (s : ScopeForm) → Standing d n s → (v : WrittenVariable) → Below n (Rattle.ctl_tree.specs.OwnTokens.variable_tokens v) → Good (DeclaredWell d n result false s) (variable_declared s d v)
  variable_well s h v below =
      let tail = All-tail (λ token. token < n) v.token (shape_tokens v.shape ++ all_tokens array_size_tokens v.sizes ++ some_tokens initialiser_tokens v.value) below in
      let last = all_right (λ token. token < n) (shape_tokens v.shape ++ all_tokens array_size_tokens v.sizes) (some_tokens initialiser_tokens v.value) tail in
      good_then (DeclaredShape d s (is_some v.value)) (DeclaredWell d n result false s) (shape_checked s d (is_some v.value) v.shape v.sizes) (λ shape. begun_with s d false v.name v.token shape v.value) (laws.shapes s h.scope h.beside (is_some v.value) v.shape v.sizes)
      (λ shape w. by v.value shape w last)
    where
      by : (value : Option Written) (shape : Shape) → DeclaredShape d s (is_some value) shape → Below n (some_tokens initialiser_tokens value) → Good (DeclaredWell d n result false s) (begun_with s d false v.name v.token shape value)
      by None shape w b = zero_good s h v.name v.token shape w
      by (Some i) shape w b = first_good s h false v.name v.token true shape w i b

  constant_well : (s : ScopeForm) → Standing d n s → (c : Constant) → Below n (Rattle.ctl_tree.specs.OwnTokens.constant_tokens c) → Good (DeclaredWell d n result true s) (constant_declared s d c)
  constant_well s h c below =
      let tail = All-tail (λ token. token < n) c.token (shape_tokens c.shape ++ all_tokens array_size_tokens c.sizes ++ initialiser_tokens c.value) below in
      let last = all_right (λ token. token < n) (shape_tokens c.shape ++ all_tokens array_size_tokens c.sizes) (initialiser_tokens c.value) tail in
      good_then (DeclaredShape d s true) (DeclaredWell d n result true s) (shape_checked s d true c.shape c.sizes) (λ shape. begun_with s d true c.name c.token shape (Some c.value)) (laws.shapes s h.scope h.beside true c.shape c.sizes)
      (λ shape w. first_good s h true c.name c.token true shape w c.value last)

  -- ---- all that is needed

  pub needs : Needs d n result
  needs = record {
    entered = λ s is. (laws.scopes s is).enter;
    left = λ s is. (laws.scopes s is).leave;
    test = test_well;
    call = call_well;
    assigned = assigned_well;
    returned = returned_well;
    printed = printed_well;
    variable = variable_well;
    constant = constant_well;
  }
