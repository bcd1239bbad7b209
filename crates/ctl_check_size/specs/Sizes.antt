-- The sizes of arrays as declarations write them.
use Rattle.std.specs.Prelude.{ℕ, ◌*◌, List, [], ◌∷◌, ◌++◌, Option, Some, None, Result, Ok, Err, Bool, true, false, if◌then◌else◌, nat_le}
use Rattle.ctl_base.specs.declared.limits.TheConstants.{SCALARS}
use Rattle.ctl_tree.specs.declared.expression.Expr.{Expr}
use Rattle.ctl_tree.specs.declared.declaration.ArraySize.{ArraySize}
use Rattle.ctl_types.specs.declared.shape.Base.{Base}
use Rattle.ctl_types.specs.declared.shape.Extent.TheVariants as extent
use Rattle.ctl_types.specs.Definitions.{Defined}
use Rattle.ctl_types.specs.Shapes.{base_scalars}
use Rattle.ctl_scope.specs.declared.kind.CheckKind.{CheckKind}
use Rattle.ctl_scope.specs.declared.kind.CheckKind.TheVariants.{BadSize}
use Rattle.ctl_scope.specs.Scope.{ScopeForm}
use Rattle.ctl_check_rules.specs.Faults.{Verdict, ◌>>=◌, rule_at}
use Rattle.ctl_check_expr.specs.Checking.{checked}
use Rattle.ctl_check_size.specs.declared.extents.Extents.{Extents}
use Rattle.ctl_check_size.specs.Numbers.{size_number}

-- one more stated extent; the scalars have their limit
abbrev pub with_stated : Extents → ℕ → Result Extents CheckKind
with_stated before n = if nat_le (before.scalars * n) SCALARS then Ok (record { extents = before.extents ++ extent.Stated n ∷ []; scalars = before.scalars * n }) else Err BadSize

abbrev pub stated_rule : Extents → Option ℕ → Result Extents CheckKind
stated_rule before None = Err BadSize
stated_rule before (Some n) = with_stated before n

-- one more open extent, where there may be one
abbrev pub open_rule : Bool → Extents → Result Extents CheckKind
open_rule false before = Err BadSize
open_rule true before = Ok (record { extents = before.extents ++ extent.Unstated ∷ []; scalars = before.scalars })

module _ (s : ScopeForm) (d : Defined) (may_be_open : Bool) where
  -- a size: its expression, and then its own rule
  abbrev pub size_checked : ℕ → Option Expr → Extents → Verdict Extents
  size_checked token None before = rule_at s.unit token (open_rule may_be_open before)
  size_checked token (Some e) before = do
    c ← checked s d e
    rule_at s.unit token (stated_rule before (size_number d c))

  -- sizes from the left
  abbrev pub sizes_checked : List ArraySize → Extents → Verdict Extents
  sizes_checked [] before = Ok before
  sizes_checked (size ∷ sizes) before = do
    after ← size_checked size.token size.size before
    sizes_checked sizes after

  -- the extents of a declaration whose arrays hold this
  abbrev pub extents_checked : Base → List ArraySize → Verdict Extents
  extents_checked base sizes = sizes_checked sizes (record { extents = []; scalars = base_scalars s.counts base })
