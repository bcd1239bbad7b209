-- What stands around an expression, as its proofs need it.
use Rattle.std.proofs.Common.{◌≡◌, ℕ, ◌<◌, List, [], ◌∷◌, map, get_or, Option, Some, None, Bool, true, ◌&&◌, refl, sym, ap, subst, ◌∙◌, slice_get}
use Rattle.ctl_types.specs.declared.shape.Base.{Base}
use Rattle.ctl_types.specs.declared.shape.Size.{Size}
use Rattle.ctl_types.specs.declared.shape.Shape.{Shape}
use Rattle.ctl_types.specs.declared.value.Value.{Value}
use Rattle.ctl_types.specs.declared.program.Field.{Field}
use Rattle.ctl_types.specs.declared.program.Constant.{Constant}
use Rattle.ctl_types.specs.declared.program.Parameter.{Parameter}
use Rattle.ctl_types.specs.declared.program.Function.{Function}
use Rattle.ctl_types.specs.Shapes.{extents, base_of, local}
use Rattle.ctl_types.specs.Values.{sizes_at, sizes_fit}
use Rattle.ctl_types.specs.Definitions.{Defined}
use Rattle.ctl_types.specs.Typing.{Scene, Variables, are_stated, shape_stands, local_type, signature_of}
use Rattle.ctl_scope.specs.Scope.{ScopeForm, visible}
use Rattle.ctl_scope.specs.Beside.{scene}
use Rattle.ctl_check_rules.specs.Shapes.{stated_sizes}
use Rattle.ctl_check_expr.specs.Places.{fields_of}
use Rattle.ctl_check_laws.specs.Accepted.{known, value_stands, variables_stand, Holds}
use Rattle.ctl_check_laws.specs.WellTyped.{tokens_around}
use Rattle.ctl_check_laws.proofs.Shapes.{stated_local}

-- a shape without open sizes that stands
pub record StatedShape (x : Scene) (shape : Shape) : Type 0 where
  pub stated : are_stated (local 0 shape).sizes ≡ true
  pub stands : shape_stands x (local 0 shape) ≡ true

pub stated_value : (x : Scene) (shape : Shape) → StatedShape x shape → value_stands x (stated_sizes shape) (Some (base_of shape)) ≡ true
stated_value x shape h = subst (λ (sizes : List Size). value_stands x sizes (Some (base_of shape)) ≡ true) (sym (stated_local shape h.stated)) h.stands

pub stated_type : (x : Scene) (shape : Shape) → StatedShape x shape → local_type (local 0 shape) ≡ known (stated_sizes shape) (Some (base_of shape)) 0
stated_type x shape h = ap (λ sizes. known sizes (Some (base_of shape)) 0) (sym (stated_local shape h.stated))

-- what a function gives, where it gives a value
abbrev pub StatedResult : Scene → Option Shape → Type 0
StatedResult x None = Unit {0}
StatedResult x (Some shape) = StatedShape x shape

-- the sizes of a default are in range
abbrev pub DefaultFits : Shape → Option Value → Type 0
DefaultFits shape None = Unit {0}
DefaultFits shape (Some v) = sizes_fit (sizes_at (extents shape) (Some v)) ≡ true

abbrev pub DefaultsFit : List Parameter → Type 0
DefaultsFit [] = Unit {0}
DefaultsFit (q ∷ parameters) = DefaultFits q.shape q.default × DefaultsFit parameters

-- a function of the program as a call sees it
pub record Callable (s : ScopeForm) (d : Defined) (k : ℕ) (f : Function) : Type 0 where
  pub depth : ℕ
  pub signature : slice_get (scene s d).functions k ≡ Some (signature_of depth f)
  pub counted : get_or s.depths k 0 ≡ depth
  pub result : StatedResult (scene s d) f.result
  pub defaults : DefaultsFit f.parameters

-- the variables, constants, fields and functions that may be named
pub record Around (s : ScopeForm) (d : Defined) (vs : Variables) : Type 0 where
  pub roomy : 0 < (scene s d).too_deep
  pub variables : variables_stand (scene s d) (visible s) ≡ true
  pub holds : Holds vs (visible s)
  pub constants : (n : ℕ) (c : Constant) → slice_get d.constants n ≡ Some c → StatedShape (scene s d) c.shape
  pub fields : (m n : ℕ) (f : Field) → slice_get (fields_of (slice_get d.structs m)) n ≡ Some f → StatedShape (scene s d) f.shape
  pub functions : (k : ℕ) (f : Function) → slice_get d.functions k ≡ Some f → Callable s d k f
