-- The shapes of declarations, as the checker accepts them, stand.
use Rattle.std.proofs.Common.{◌≡◌, ℕ, zero, suc, ◌+◌, ◌*◌, ◌≤◌, ◌<◌, List, [], ◌∷◌, ◌++◌, map, length, Option, Some, None, Result, Ok, Err, Bool, true, false, ◌&&◌, if◌then◌else◌, nat_le, nat_lt, refl, sym, ap, subst, ◌∙◌, arith, slice_get, leb-true, ltb-true, le-leb, lt-ltb}
use Rattle.std.specs.Prelude.{get_or, pos, int_lt, unsigned_abs}
use Rattle.std.proofs.Math.Nat.{mul_assoc, mul_right_comm}
use Rattle.ctl_base.specs.declared.limits.TheConstants.{SCALARS, ARRAY_SIZE}
use Rattle.ctl_base.specs.declared.kind.ScalarKind.{ScalarKind}
use Rattle.ctl_base.specs.declared.kind.ScalarKind.TheVariants as kind
use Rattle.ctl_tree.specs.declared.expression.Expr.{Expr}
use Rattle.ctl_tree.specs.declared.declaration.ShapeKind.{ShapeKind}
use Rattle.ctl_tree.specs.declared.declaration.ShapeKind.TheVariants as called
use Rattle.ctl_tree.specs.declared.declaration.ShapeName.{ShapeName}
use Rattle.ctl_tree.specs.declared.declaration.ArraySize.{ArraySize}
use Rattle.ctl_types.specs.declared.scalar.Scalar.{Scalar}
use Rattle.ctl_types.specs.declared.scalar.Scalar.TheVariants as number
use Rattle.ctl_types.specs.declared.value.Value.{Value, out-Value}
use Rattle.ctl_types.specs.declared.value.Value.TheOpen as value_layer
use Rattle.ctl_types.specs.declared.value.Value.TheOpen.{Value-F}
use Rattle.ctl_types.specs.declared.expression.TypedExpr.{TypedExpr}
use Rattle.ctl_types.specs.declared.shape.Extent.{Extent}
use Rattle.ctl_types.specs.declared.shape.Extent.TheVariants as extent
use Rattle.ctl_types.specs.declared.shape.Size.TheVariants as size
use Rattle.ctl_types.specs.declared.shape.Base.{Base}
use Rattle.ctl_types.specs.declared.shape.Base.TheVariants as base
use Rattle.ctl_types.specs.declared.shape.Shape.{Shape}
use Rattle.ctl_types.specs.declared.shape.Shape.TheOpen as layer
use Rattle.ctl_types.specs.declared.shape.Shape.TheFolds.{fold-roll-Shape}
use Rattle.ctl_types.specs.declared.program.Struct.{Struct}
use Rattle.ctl_types.specs.Shapes.{extents, extents_step, base_of, base_step, arrays, open_count, numbered, local, product, base_scalars, struct_scalars, counts_after, struct_counts}
use Rattle.ctl_types.specs.Typing.{Scene, are_stated, size_stands, sizes_stand, base_stands, size_counted, shape_stands}
use Rattle.ctl_types.specs.Definitions.{Defined}
use Rattle.ctl_types.specs.Cost.{uncounted}
use Rattle.ctl_types.specs.Run.{Outcome}
use Rattle.ctl_types.specs.Scoping.{IsDefined, structs_stand, struct_stands, constants_stand, scene_before}
use Rattle.ctl_scope.specs.declared.kind.CheckKind.{CheckKind}
use Rattle.ctl_scope.specs.declared.meaning.Meaning.{Meaning}
use Rattle.ctl_scope.specs.declared.meaning.Meaning.TheVariants as meaning
use Rattle.ctl_scope.specs.Scope.{ScopeForm, IsScope, look_up}
use Rattle.ctl_scope.specs.Beside.{Beside}
use Rattle.ctl_scope.specs.Laws.{is_there, FoundIsThere}
use Rattle.ctl_check_rules.specs.Faults.{Verdict, ◌>>=◌, rule_at}
use Rattle.ctl_check_rules.specs.declared.checked.Checked.{Checked}
use Rattle.ctl_check_rules.specs.Operators.{scalar_kind}
use Rattle.ctl_check_expr.specs.Checking.{checked}
use Rattle.ctl_check_init.specs.Initialisers.{base_shape}
use Rattle.ctl_check_size.specs.declared.extents.Extents.{Extents}
use Rattle.ctl_check_size.specs.Names.{struct_named, base_named, base_checked}
use Rattle.ctl_check_size.specs.Constants.{constant_form}
use Rattle.ctl_check_size.specs.Numbers.{in_limits, scalar_size, value_size, outcome_size, size_outcome, constant_size, size_of_kind, size_number}
use Rattle.ctl_check_size.specs.Sizes.{with_stated, stated_rule, open_rule, size_checked, sizes_checked, extents_checked}
use Rattle.ctl_check_statement.specs.Declarations.{declared_shape, shape_checked}
use Rattle.definition_laws.proofs.Verdicts.{Good, good_then, good_more, good_at, good_if, both, and_true}

-- ---- the shape of some extents

pub extents_made : (xs : List Extent) (b : Base) → extents (declared_shape xs b) ≡ xs
extents_made [] (base.Scalar k) = fold-roll-Shape (List Extent) extents_step (layer.Scalar k)
extents_made [] (base.Struct n) = fold-roll-Shape (List Extent) extents_step (layer.Struct n)
extents_made (x ∷ xs) b = fold-roll-Shape (List Extent) extents_step (layer.Array (arrays xs (base_shape b)) x) ∙ ap (λ (ys : List Extent). x ∷ ys) (extents_made xs b)

pub base_made : (xs : List Extent) (b : Base) → base_of (declared_shape xs b) ≡ b
base_made [] (base.Scalar k) = fold-roll-Shape Base base_step (layer.Scalar k)
base_made [] (base.Struct n) = fold-roll-Shape Base base_step (layer.Struct n)
base_made (x ∷ xs) b = fold-roll-Shape Base base_step (layer.Array (arrays xs (base_shape b)) x) ∙ base_made xs b

-- ---- sizes

-- an open extent counts as one
abbrev pub extent_counted : Extent → ℕ
extent_counted (extent.Stated n) = n
extent_counted extent.Unstated = 1

abbrev pub counted : List Extent → ℕ
counted [] = 1
counted (x ∷ xs) = extent_counted x * counted xs

pub counted_sizes : (k : ℕ) (xs : List Extent) → product (map size_counted (numbered k xs)) ≡ counted xs
counted_sizes k [] = refl
counted_sizes k (extent.Stated n ∷ xs) = ap (λ m. n * m) (counted_sizes k xs)
counted_sizes k (extent.Unstated ∷ xs) = ap (λ m. 1 * m) (counted_sizes (k + 1) xs)

one_more : (xs : List Extent) (x : Extent) → counted (xs ++ x ∷ []) ≡ counted xs * extent_counted x
one_more [] x = only (extent_counted x) where
  only : (n : ℕ) → n * 1 ≡ 1 * n
  only n = omega arith
one_more (y ∷ xs) x = ap (λ m. extent_counted y * m) (one_more xs x) ∙ sym (mul_assoc (extent_counted y) (counted xs) (extent_counted x))

-- a stated extent is in range; others may be open
abbrev pub ExtentStands : Bool → Extent → Type 0
ExtentStands free (extent.Stated n) = (nat_le 1 n && nat_le n ARRAY_SIZE) ≡ true
ExtentStands free extent.Unstated = free ≡ true

abbrev pub ExtentsStand : Bool → List Extent → Type 0
ExtentsStand free [] = Unit {0}
ExtentsStand free (x ∷ xs) = ExtentStands free x × ExtentsStand free xs

more_stand : (free : Bool) (xs : List Extent) (x : Extent) → ExtentsStand free xs → ExtentStands free x → ExtentsStand free (xs ++ x ∷ [])
more_stand free [] x h k = (k, tt)
more_stand free (y ∷ xs) x h k = (h.0, more_stand free xs x h.1 k)

pub all_stated : (k : ℕ) (xs : List Extent) → ExtentsStand false xs → are_stated (numbered k xs) ≡ true
all_stated k [] h = refl
all_stated k (extent.Stated n ∷ xs) h = all_stated k xs h.1
all_stated k (extent.Unstated ∷ xs) h = absurd (cc)

pub none_open : (xs : List Extent) → ExtentsStand false xs → open_count xs ≡ 0
none_open [] h = refl
none_open (extent.Stated n ∷ xs) h = none_open xs h.1
none_open (extent.Unstated ∷ xs) h = absurd (cc)

pub numbered_stand : (x : Scene) (free : Bool) (xs : List Extent) (k : ℕ) → ExtentsStand free xs → k + open_count xs ≤ x.opens → sizes_stand x (numbered k xs) ≡ true
numbered_stand x free [] k h l = refl
numbered_stand x free (extent.Stated n ∷ xs) k h l = and_true (nat_le 1 n && nat_le n ARRAY_SIZE) _ h.0 (numbered_stand x free xs k h.1 l)
numbered_stand x free (extent.Unstated ∷ xs) k h l = and_true (nat_lt k x.opens) _ (lt-ltb k x.opens (omega arith)) (numbered_stand x free xs (k + 1) h.1 (omega arith))

-- ---- what a size expression gives

abbrev InRange : Option ℕ → Type 0
InRange None = Unit {0}
InRange (Some n) = (nat_le 1 n && nat_le n ARRAY_SIZE) ≡ true

limits_range : (n : ℕ) → InRange (in_limits n)
limits_range n = by (nat_le 1 n && nat_le n ARRAY_SIZE) refl where
  by : (b : Bool) → (nat_le 1 n && nat_le n ARRAY_SIZE) ≡ b → InRange (if b then Some n else None)
  by true e = e
  by false e = tt

scalar_range : (x : Scalar) → InRange (scalar_size x)
scalar_range (number.Bool b) = tt
scalar_range (number.Int z) = by (int_lt z (pos 0)) where
  by : (b : Bool) → InRange (if b then None else in_limits (unsigned_abs z))
  by true = tt
  by false = limits_range (unsigned_abs z)
scalar_range (number.Unsigned n) = limits_range n
scalar_range (number.Half z) = tt
scalar_range (number.Float z) = tt

value_range : (v : Value-F Value) → InRange (value_size v)
value_range (value_layer.One x) = scalar_range x
value_range (value_layer.List vs) = tt
value_range (value_layer.Fields vs) = tt

outcome_range : (o : Outcome (Unit {0}) uncounted Value) → InRange (outcome_size o)
outcome_range (Ok got) = value_range (out-Value got.value)
outcome_range (Err fault) = tt

constant_range : (d : Defined) (e : Option TypedExpr) → InRange (constant_size d e)
constant_range d None = tt
constant_range d (Some e) = outcome_range (size_outcome d e)

kind_range : (d : Defined) (e : TypedExpr) (k : Option ScalarKind) → InRange (size_of_kind d e k)
kind_range d e None = tt
kind_range d e (Some kind.Bool) = tt
kind_range d e (Some kind.Int) = constant_range d (constant_form e)
kind_range d e (Some kind.Unsigned) = constant_range d (constant_form e)
kind_range d e (Some kind.Half) = tt
kind_range d e (Some kind.Float) = tt

-- ---- extents

-- extents in range, with so many scalars where what the arrays hold has this many
pub record ExtentsWell (free : Bool) (scalars : ℕ) (e : Extents) : Type 0 where
  pub stand : ExtentsStand free e.extents
  pub count : e.scalars ≡ counted e.extents * scalars
  pub few : e.scalars ≤ SCALARS

stated_good : (free : Bool) (scalars : ℕ) (before : Extents) (o : Option ℕ) → ExtentsWell free scalars before → InRange o → Good (ExtentsWell free scalars) (stated_rule before o)
stated_good free scalars before None h r = tt
stated_good free scalars before (Some n) h r =
    good_if (ExtentsWell free scalars) (nat_le (before.scalars * n) SCALARS) (record { extents = before.extents ++ extent.Stated n ∷ []; scalars = before.scalars * n }) _
    (λ e. record {
      stand = more_stand free before.extents (extent.Stated n) h.stand r;
      count = ap (λ m. m * n) h.count ∙ mul_right_comm (counted before.extents) scalars n ∙ ap (λ m. m * scalars) (sym (one_more before.extents (extent.Stated n)));
      few = leb-true _ _ e;
    })

open_good : (free : Bool) (scalars : ℕ) (before : Extents) → ExtentsWell free scalars before → Good (ExtentsWell free scalars) (open_rule free before)
open_good false scalars before h = tt
open_good true scalars before h = record {
  stand = more_stand true before.extents extent.Unstated h.stand refl;
  count = h.count ∙ ap (λ m. m * scalars) (times (counted before.extents) ∙ sym (one_more before.extents extent.Unstated));
  few = h.few;
} where
  times : (n : ℕ) → n ≡ n * 1
  times n = omega arith

module _ (s : ScopeForm) (d : Defined) (free : Bool) (scalars : ℕ) where
  size_good : (token : ℕ) (o : Option Expr) (before : Extents) → ExtentsWell free scalars before → Good (ExtentsWell free scalars) (size_checked s d free token o before)
  size_good token None before h = good_at (ExtentsWell free scalars) s.unit token (open_rule free before) (open_good free scalars before h)
  size_good token (Some e) before h = by (checked s d e) where
    by : (v : Verdict Checked) → Good (ExtentsWell free scalars) (v >>= (λ c. rule_at s.unit token (stated_rule before (size_number d c))))
    by (Ok c) = good_at (ExtentsWell free scalars) s.unit token (stated_rule before (size_number d c)) (stated_good free scalars before (size_number d c) h (kind_range d c.form (scalar_kind c)))
    by (Err fault) = tt

  sizes_good : (sizes : List ArraySize) (before : Extents) → ExtentsWell free scalars before → Good (ExtentsWell free scalars) (sizes_checked s d free sizes before)
  sizes_good [] before h = h
  sizes_good (size ∷ sizes) before h =
      good_then (ExtentsWell free scalars) (ExtentsWell free scalars) (size_checked s d free size.token size.size before) (sizes_checked s d free sizes) (size_good size.token size.size before h)
      (λ after w. sizes_good sizes after w)

-- ---- structs that stand

few_more : (counts : List ℕ) (c : ℕ) → ((n : ℕ) → get_or counts n 0 ≤ SCALARS) → c ≤ SCALARS → (n : ℕ) → get_or (counts ++ c ∷ []) n 0 ≤ SCALARS
few_more [] c h l zero = l
few_more [] c h l (suc n) = h n
few_more (b ∷ counts) c h l zero = h zero
few_more (b ∷ counts) c h l (suc n) = few_more counts c (λ n. h (suc n)) l n

few_after : (before : List Struct) (counts : List ℕ) (rest : List Struct) → ((n : ℕ) → get_or counts n 0 ≤ SCALARS) → structs_stand before counts rest ≡ true → (n : ℕ) → get_or (counts_after counts rest) n 0 ≤ SCALARS
few_after before counts [] h k n = h n
few_after before counts (c ∷ rest) h k n =
    let p = both (struct_stands before counts c) _ k in
    let few = leb-true _ _ (both _ (nat_le (struct_scalars counts c) SCALARS) p.0).1 in
    few_after (before ++ c ∷ []) (counts ++ struct_scalars counts c ∷ []) rest (few_more counts (struct_scalars counts c) h few) p.1 n

counts_long : (counts : List ℕ) (structs : List Struct) → length (counts_after counts structs) ≡ length counts + length structs
counts_long counts [] = omega arith
counts_long counts (c ∷ structs) =
    let a = counts_long (counts ++ struct_scalars counts c ∷ []) structs in
    let b = longer counts (struct_scalars counts c) in
    omega arith
  where
    longer : (xs : List ℕ) (x : ℕ) → length (xs ++ x ∷ []) ≡ suc (length xs)
    longer [] x = refl
    longer (y ∷ xs) x = ap suc (longer xs x)

-- a struct, where there is one, is among these
abbrev pub Known : List Struct → Base → Type 0
Known structs (base.Scalar k) = Unit {0}
Known structs (base.Struct n) = nat_lt n (length structs) ≡ true

base_few : (d : Defined) → IsDefined d → (b : Base) → base_scalars (struct_counts d.structs) b ≤ SCALARS
base_few d is (base.Scalar k) = omega arith
base_few d is (base.Struct n) = few_after [] [] d.structs (λ n. omega arith) (both (structs_stand [] [] d.structs) _ is.stand).0 n

-- ---- bases

struct_known : (s : ScopeForm) (d : Defined) → Beside s d → (o : Option Meaning) → is_there s o ≡ true → Good (λ (b : Base). Known d.structs b) (struct_named o)
struct_known s d beside None h = tt
struct_known s d beside (Some (meaning.Variable x)) h = tt
struct_known s d beside (Some (meaning.Constant n)) h = tt
struct_known s d beside (Some (meaning.Function n)) h = tt
struct_known s d beside (Some (meaning.Struct n)) h =
    let l = ltb-true n (length s.counts) h in
    let e = ap (λ (counts : List ℕ). length counts) beside.counts ∙ counts_long [] d.structs in
    lt-ltb n (length d.structs) (omega arith)
struct_known s d beside (Some meaning.Namespace) h = tt
struct_known s d beside (Some (meaning.Library id)) h = tt

base_known : FoundIsThere → (s : ScopeForm) (d : Defined) → IsScope s → Beside s d → (k : ShapeKind) → Good (λ (b : Base). Known d.structs b) (base_named s k)
base_known found s d is beside called.Bool = tt
base_known found s d is beside called.Int = tt
base_known found s d is beside called.Unsigned = tt
base_known found s d is beside called.Half = tt
base_known found s d is beside called.Float = tt
base_known found s d is beside (called.Named name) = struct_known s d beside (look_up s name) (found s is name)

-- ---- shapes

-- the shape of a declaration: its extents are in range, open ones only where there may be some; its struct is there; and
-- its scalars have their limit
pub record ShapeWell (d : Defined) (free : Bool) (shape : Shape) : Type 0 where
  pub stand : ExtentsStand free (extents shape)
  pub known : Known d.structs (base_of shape)
  pub few : counted (extents shape) * base_scalars (struct_counts d.structs) (base_of shape) ≤ SCALARS

shape_made : (s : ScopeForm) (d : Defined) (free : Bool) (b : Base) (e : Extents) → Beside s d → Known d.structs b → ExtentsWell free (base_scalars s.counts b) e → ShapeWell d free (declared_shape e.extents b)
shape_made s d free b e beside known w =
    let few : counted e.extents * base_scalars (struct_counts d.structs) b ≤ SCALARS = subst (λ m. m ≤ SCALARS) (w.count ∙ ap (λ counts. counted e.extents * base_scalars counts b) beside.counts) w.few in
    record {
      stand = subst (λ (xs : List Extent). ExtentsStand free xs) (sym (extents_made e.extents b)) w.stand;
      known = subst (λ (b : Base). Known d.structs b) (sym (base_made e.extents b)) known;
      few = subst (λ (c : Base). counted (extents (declared_shape e.extents b)) * base_scalars (struct_counts d.structs) c ≤ SCALARS) (sym (base_made e.extents b)) (subst (λ (xs : List Extent). counted xs * base_scalars (struct_counts d.structs) b ≤ SCALARS) (sym (extents_made e.extents b)) few);
    }

pub shape_good : FoundIsThere → (s : ScopeForm) (d : Defined) → IsScope s → IsDefined d → Beside s d → (free : Bool) (name : ShapeName) (sizes : List ArraySize) → Good (ShapeWell d free) (shape_checked s d free name sizes)
shape_good found s d is defined beside free name sizes =
    good_then (λ (b : Base). Known d.structs b) (ShapeWell d free) (base_checked s name) (λ b. extents_checked s d free b sizes >>= (λ xs. Ok (declared_shape xs.extents b)))
    (good_at (λ (b : Base). Known d.structs b) s.unit name.token (base_named s name.kind) (base_known found s d is beside name.kind))
    (λ b known.
    let start : ExtentsWell free (base_scalars s.counts b) (record { extents = []; scalars = base_scalars s.counts b }) = record {
      stand = tt;
      count = once (base_scalars s.counts b);
      few = subst (λ counts. base_scalars counts b ≤ SCALARS) (sym beside.counts) (base_few d defined b);
    } in
    good_then (ExtentsWell free (base_scalars s.counts b)) (ShapeWell d free) (extents_checked s d free b sizes) (λ xs. Ok (declared_shape xs.extents b))
    (sizes_good s d free (base_scalars s.counts b) sizes (record { extents = []; scalars = base_scalars s.counts b }) start)
    (λ e w. shape_made s d free b e beside known w))
  where
    once : (n : ℕ) → n ≡ 1 * n
    once n = omega arith

-- ---- shapes that stand

pub base_there : (x : Scene) (structs : List Struct) (b : Base) → x.structs ≡ structs → Known structs b → base_stands x b ≡ true
base_there x structs (base.Scalar k) e h = refl
base_there x structs (base.Struct n) e h = ap (λ (structs : List Struct). nat_lt n (length structs)) e ∙ h

-- A shape stands in each scene with these structs and as many open sizes, of which k stand before its own.
pub well_stands : (d : Defined) (free : Bool) (shape : Shape) → ShapeWell d free shape → (x : Scene) → x.structs ≡ d.structs → x.counts ≡ struct_counts d.structs → (k : ℕ) → k + open_count (extents shape) ≤ x.opens → shape_stands x (local k shape) ≡ true
well_stands d free shape w x structs counts k l =
    let count : product (map size_counted (numbered k (extents shape))) * base_scalars x.counts (base_of shape) ≡ counted (extents shape) * base_scalars (struct_counts d.structs) (base_of shape) =
    ap (λ m. m * base_scalars x.counts (base_of shape)) (counted_sizes k (extents shape)) ∙ ap (λ counts. counted (extents shape) * base_scalars counts (base_of shape)) counts in
    and_true (sizes_stand x (numbered k (extents shape)) && base_stands x (base_of shape)) _
    (and_true (sizes_stand x (numbered k (extents shape))) _ (numbered_stand x free (extents shape) k w.stand l) (base_there x d.structs (base_of shape) structs w.known))
    (le-leb _ _ (subst (λ m. m ≤ SCALARS) (sym count) w.few))

-- one without open sizes
pub stated_stands : (d : Defined) (shape : Shape) → ShapeWell d false shape → (x : Scene) → x.structs ≡ d.structs → x.counts ≡ struct_counts d.structs → (are_stated (local 0 shape).sizes && shape_stands x (local 0 shape)) ≡ true
stated_stands d shape w x structs counts =
    let none = none_open (extents shape) w.stand in
    and_true (are_stated (local 0 shape).sizes) _ (all_stated 0 (extents shape) w.stand) (well_stands d false shape w x structs counts 0 (omega arith))
