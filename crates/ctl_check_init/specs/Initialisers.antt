-- What the checker says of initialisers: one fold, which takes down what is wanted at each place. Of a list first all its
-- parts from the left, and then its own rule.
use Rattle.std.specs.Prelude.{ℕ, ◌*◌, max, List, [], ◌∷◌, ◌++◌, map, length, Option, Some, None, Result, Ok, Err, Bool, true, false, ◌&&◌, ◌==◌, if◌then◌else◌, nat_le}
use Rattle.ctl_base.specs.declared.limits.TheConstants.{ARRAY_SIZE, SCALARS}
use Rattle.ctl_tree.specs.declared.declaration.Initialiser.{Initialiser as Written}
use Rattle.ctl_tree.specs.declared.declaration.BraceList.{BraceList}
use Rattle.ctl_tree.specs.declared.declaration.Initialiser.TheOpen.{Initialiser-F, BraceList-F, Expr as ExprForm, List as ListForm}
use Rattle.ctl_tree.specs.declared.declaration.Initialiser.TheFolds.{fold-Initialiser, fold-BraceList}
use Rattle.ctl_types.specs.declared.shape.Base.{Base}
use Rattle.ctl_types.specs.declared.shape.Base.TheVariants.{Scalar, Struct}
use Rattle.ctl_types.specs.declared.shape.Extent.{Extent}
use Rattle.ctl_types.specs.declared.shape.Extent.TheVariants as extent
use Rattle.ctl_types.specs.declared.shape.Size.{Size}
use Rattle.ctl_types.specs.declared.shape.Size.TheVariants.{Stated, Open}
use Rattle.ctl_types.specs.declared.shape.Shape.{Shape, roll-Shape, out-Shape}
use Rattle.ctl_types.specs.declared.shape.Shape.TheOpen as layer
use Rattle.ctl_types.specs.declared.shape.Shape.TheOpen.{Shape-F}
use Rattle.ctl_types.specs.declared.expression.Conversion.{Conversion}
use Rattle.ctl_types.specs.declared.statement.Initialiser.{roll-Initialiser}
use Rattle.ctl_types.specs.declared.statement.Initialiser.TheOpen as initial
use Rattle.ctl_types.specs.declared.program.Field.{Field}
use Rattle.ctl_types.specs.Shapes.{extents, base_of, arrays, field_shapes, product, base_scalars}
use Rattle.ctl_types.specs.Definitions.{Defined}
use Rattle.ctl_types.specs.Typing.{are_stated, size_counted}
use Rattle.ctl_scope.specs.declared.kind.CheckKind.{CheckKind}
use Rattle.ctl_scope.specs.declared.kind.CheckKind.TheVariants.{Mismatch, BadSize}
use Rattle.ctl_scope.specs.Scope.{ScopeForm}
use Rattle.ctl_check_rules.specs.declared.checked.Checked.{Checked}
use Rattle.ctl_check_rules.specs.Faults.{Verdict, ◌>>=◌, rule_at}
use Rattle.ctl_check_rules.specs.Operators.{short, operand}
use Rattle.ctl_check_rules.specs.Shapes.{fitting, stated_sizes}
use Rattle.ctl_check_expr.specs.Calls.{behind}
use Rattle.ctl_check_expr.specs.Checking.{checked}
use Rattle.ctl_check_init.specs.declared.begun.Begun.{Begun}
use Rattle.ctl_check_init.specs.declared.begun.Parts.{Parts}
use Rattle.ctl_check_init.specs.declared.begun.Elements.{Elements}

-- What is made of an initialiser where a shape is wanted, or where nothing is wanted, as of what is left over in a list. It
-- is none where the initialiser doesn't fit or nothing is wanted.
abbrev pub Beginning : Type 0
Beginning = Option Shape → Verdict (Option Begun)

-- ---- expressions

abbrev pub value_by : Checked → Option Conversion → Option Begun
value_by c None = None
value_by c (Some conversion) = Some (record { form = roll-Initialiser (initial.Value (operand c.form conversion)); sizes = c.sizes; depth = c.depth })

-- an expression where this is wanted
abbrev pub value_begun : Option Shape → Checked → Option Begun
value_begun None c = None
value_begun (Some shape) c = value_by c (fitting (extents shape) (base_of shape) c.sizes c.base)

-- ---- the parts of a list

-- an array of open size is a whole initialiser alone, and fits in no list
abbrev pub as_part : Option Begun → Option Begun
as_part None = None
as_part (Some b) = if are_stated b.sizes then Some b else None

-- before the first part
abbrev pub no_parts : Parts
no_parts = record { forms = []; fit = true; depth = 0 }

-- the parts so far with one more
abbrev pub with_part : Parts → Option Begun → Parts
with_part before None = record { forms = before.forms; fit = false; depth = before.depth }
with_part before (Some b) = record { forms = before.forms ++ b.form ∷ []; fit = before.fit; depth = max before.depth b.depth }

-- parts of which nothing is wanted: nothing is made of them
abbrev pub left_over : List Beginning → Verdict (Option Begun)
left_over [] = Ok None
left_over (b ∷ parts) = do
  e ← b None
  left_over parts

-- a list where a scalar is wanted
abbrev pub scalar_list : ℕ → ℕ → List Beginning → Verdict (Option Begun)
scalar_list unit token parts = do
  e ← left_over parts
  rule_at unit token (Err Mismatch)

-- ---- lists that give an array

-- a stated size as an extent
abbrev pub extent_of : Size → Extent
extent_of (Stated n) = extent.Stated n
extent_of (Open k) = extent.Unstated

-- what arrays hold in the end, as a shape
abbrev pub base_shape : Base → Shape
base_shape (Scalar k) = roll-Shape (layer.Scalar k)
base_shape (Struct n) = roll-Shape (layer.Struct n)

-- the shape of these sizes
abbrev pub sized : List Size → Base → Shape
sized sizes base = arrays (map extent_of sizes) (base_shape base)

-- the first element that fits gives a shape to all
abbrev pub given_by : Base → Option Shape → Option Begun → Option Shape
given_by base (Some shape) e = Some shape
given_by base None None = None
given_by base None (Some b) = Some (sized b.sizes base)

-- the elements so far with one more
abbrev pub with_element : Base → Elements → Option Begun → Elements
with_element base before e = record { parts = with_part before.parts e; given = given_by base before.given e }

-- before the first element
abbrev pub no_elements : Elements
no_elements = record { parts = no_parts; given = None }

-- the shape that is wanted of an element
abbrev pub element_shape : Shape → Option Shape → Shape
element_shape inner None = inner
element_shape inner (Some shape) = shape

-- an element
abbrev pub element_begun : Shape → Beginning → Elements → Verdict Elements
element_begun inner b before = do
  e ← b (Some (element_shape inner before.given))
  Ok (with_element (base_of inner) before (as_part e))

-- elements from the left
abbrev pub elements_begun : Shape → List Beginning → Elements → Verdict Elements
elements_begun inner [] before = Ok before
elements_begun inner (b ∷ elements) before = do
  after ← element_begun inner b before
  elements_begun inner elements after

-- as many elements as are wanted
abbrev pub count_fits : Extent → ℕ → Bool
count_fits (extent.Stated n) count = count == n
count_fits extent.Unstated count = true

-- an array of elements of a shape
abbrev pub array_begun : Shape → Parts → Begun
array_begun shape parts = record {
  form = roll-Initialiser (initial.Elements shape parts.forms);
  sizes = Stated (short (length parts.forms)) ∷ stated_sizes shape;
  depth = parts.depth;
}

-- there are elements, all of them fit, and none is missing or left over
abbrev pub array_rule : Extent → ℕ → Parts → Option Shape → Result (Option Begun) CheckKind
array_rule x count parts None = Err Mismatch
array_rule x count parts (Some shape) = if parts.fit && count_fits x count then Ok (Some (array_begun shape parts)) else Err Mismatch

-- a list where an array is wanted
abbrev pub array_list : ℕ → ℕ → Shape → Extent → List Beginning → Verdict (Option Begun)
array_list unit token inner x parts = do
  after ← elements_begun inner parts no_elements
  rule_at unit token (array_rule x (length parts) after.parts after.given)

-- ---- lists that give a struct

-- the shapes of fields
abbrev pub shapes_of : List Field → List Shape
shapes_of fields = map (λ (f : Field). f.shape) fields

-- the first of what is wanted
abbrev pub first_of : List Shape → Option Shape
first_of [] = None
first_of (shape ∷ shapes) = Some shape

-- a field; of what is left over nothing is wanted
abbrev pub field_begun : List Shape → Beginning → Parts → Verdict Parts
field_begun shapes b before = do
  e ← b (first_of shapes)
  Ok (with_part before (as_part e))

-- fields from the left
abbrev pub fields_begun : List Shape → List Beginning → Parts → Verdict Parts
fields_begun shapes [] before = Ok before
fields_begun shapes (b ∷ parts) before = do
  after ← field_begun shapes b before
  fields_begun (behind shapes) parts after

-- a struct of fields
abbrev pub struct_begun : ℕ → Parts → Begun
struct_begun n parts = record { form = roll-Initialiser (initial.Fields n parts.forms); sizes = []; depth = parts.depth }

-- all of its fields fit, and none is missing or left over
abbrev pub struct_rule : ℕ → ℕ → ℕ → Parts → Result (Option Begun) CheckKind
struct_rule n fields count parts = if parts.fit && count == fields then Ok (Some (struct_begun n parts)) else Err Mismatch

-- a list where struct n is wanted, with fields of these shapes
abbrev pub struct_list : ℕ → ℕ → ℕ → List Shape → List Beginning → Verdict (Option Begun)
struct_list unit token n shapes parts = do
  after ← fields_begun shapes parts no_parts
  rule_at unit token (struct_rule n (length shapes) (length parts) after)

-- ---- limits

-- no size is above the limit
abbrev pub sizes_within : List Size → Bool
sizes_within [] = true
sizes_within (size ∷ sizes) = nat_le (size_counted size) ARRAY_SIZE && sizes_within sizes

-- neither a size nor the number of scalars is too large, where each struct has so many scalars
abbrev pub is_within : List ℕ → List Size → Base → Bool
is_within counts sizes base = sizes_within sizes && nat_le (product (map size_counted sizes) * base_scalars counts base) SCALARS

-- an initialiser as a whole: it fits, and the sizes that it gives are not too large
abbrev pub begun_rule : List ℕ → Base → Option Begun → Result Begun CheckKind
begun_rule counts base None = Err Mismatch
begun_rule counts base (Some b) = if is_within counts b.sizes base then Ok b else Err BadSize

-- ---- the fold

module _ (s : ScopeForm) (d : Defined) where
  -- a list where a shape is wanted
  abbrev pub list_given : ℕ → List Beginning → Shape-F Shape → Verdict (Option Begun)
  list_given token parts (layer.Scalar k) = scalar_list s.unit token parts
  list_given token parts (layer.Struct n) = struct_list s.unit token n (field_shapes d.structs n) parts
  list_given token parts (layer.Array inner x) = array_list s.unit token inner x parts

  -- a list where this is wanted
  abbrev pub list_begun : ℕ → List Beginning → Beginning
  list_begun token parts None = left_over parts
  list_begun token parts (Some shape) = list_given token parts (out-Shape shape)

  -- an initialiser: an expression or a list
  abbrev pub begin_step : Initialiser-F Beginning Beginning → Beginning
  begin_step (ExprForm e) wanted = do
    c ← checked s d e
    Ok (value_begun wanted c)
  begin_step (ListForm list) wanted = list wanted

  abbrev pub list_step : BraceList-F Beginning Beginning → Beginning
  list_step list wanted = list_begun list.token list.elements wanted

  -- the verdict on an initialiser where something is wanted
  abbrev pub begun : Written → Beginning
  begun = fold-Initialiser Beginning Beginning begin_step list_step

  -- on a list
  abbrev pub begun_list : BraceList → Beginning
  begun_list = fold-BraceList Beginning Beginning begin_step list_step

  -- ---- the initialiser of a constant, a variable or a parameter

  -- The verdict on an initialiser for a shape, whose open extents it gives. Its own rule stands at the name of what is declared.
  abbrev pub initialised : ℕ → Shape → Written → Verdict Begun
  initialised token shape i = do
    b ← begun i (Some shape)
    rule_at s.unit token (begun_rule s.counts (base_of shape) b)
