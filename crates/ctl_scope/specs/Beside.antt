-- The scope beside the definitions that it numbers.
use Rattle.std.specs.Prelude.{◌≡◌, ℕ, suc, map, length, Some, slice_get}
use Rattle.ctl_base.specs.declared.limits.TheConstants.{CALL_DEPTH}
use Rattle.ctl_types.specs.declared.program.Function.{Function}
use Rattle.ctl_types.specs.Shapes.{struct_counts}
use Rattle.ctl_types.specs.Typing.{Scene, Signature}
use Rattle.ctl_types.specs.Definitions.{Defined}
use Rattle.ctl_types.specs.Scoping.{scene_of}
use Rattle.ctl_scope.specs.declared.meaning.Meaning.TheVariants as meaning
use Rattle.ctl_scope.specs.declared.around.Around.{Around}
use Rattle.ctl_scope.specs.declared.around.Around.TheVariants.{Outside, Head, Body}
use Rattle.ctl_scope.specs.Names.{meaning_in}
use Rattle.ctl_scope.specs.Scope.{ScopeForm}

-- only in the body of a function there is a depth that none may have which is called
abbrev pub too_deep : Around → ℕ
too_deep Outside = suc CALL_DEPTH
too_deep (Head f) = suc CALL_DEPTH
too_deep (Body f) = CALL_DEPTH

-- what stands around a form: the definitions so far, in this place
abbrev pub scene : ScopeForm → Defined → Scene
scene s d = record (scene_of d) { too_deep = too_deep s.around; opens = s.opens }

-- the scope numbers these definitions: each function has its number under its whole name
pub record Beside (s : ScopeForm) (d : Defined) : Type 0 where
  pub counts : s.counts ≡ struct_counts d.structs
  pub constants : s.constants ≡ length d.constants
  pub depths : s.depths ≡ map (λ (f : Signature). f.depth) (scene_of d).functions
  pub functions : (k : ℕ) (f : Function) → slice_get d.functions k ≡ Some f → meaning_in f.name s.names ≡ Some (meaning.Function k)
