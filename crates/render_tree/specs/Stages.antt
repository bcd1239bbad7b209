-- Which programs are a stage that can be rendered: the entry is there, and its parameters are of the simple form, which needs
-- no parameters of the command and no levels.
use Rattle.std.specs.Prelude.{◌≡◌, ℕ, List, [], ◌∷◌, Option, Some, None, is_some, Bool, true, false, not, ◌&&◌, ◌||◌, if◌then◌else◌, codes, bytes_eq, slice_get}
use Rattle.ctl_tree.specs.declared.definition.Level.{Level}
use Rattle.ctl_tree.specs.declared.definition.Level.TheVariants.{Uniform, Varying}
use Rattle.ctl_types.specs.declared.program.Parameter.{Parameter}
use Rattle.ctl_types.specs.declared.program.Function.{Function}
use Rattle.ctl_types.specs.Scoping.{ProgramForm, IsDefined, is_entry}
use Rattle.render_tree.specs.PixelRun.{StageForm, scalar_kind, passed_name}

-- a scalar
abbrev pub is_scalar : Parameter → Bool
is_scalar q = is_some (scalar_kind q.shape)

-- ---- inputs

-- the name of a channel
abbrev pub is_channel : List ℕ → Bool
is_channel name = bytes_eq name (codes "rIn") || (bytes_eq name (codes "gIn") || bytes_eq name (codes "bIn"))

-- the name of the transparency, which is 1.0 where it is not given
abbrev pub is_alpha : List ℕ → Bool
is_alpha name = bytes_eq name (codes "aIn")

-- marked `uniform`
abbrev pub is_uniform : Option Level → Bool
is_uniform None = false
is_uniform (Some Uniform) = true
is_uniform (Some Varying) = false

-- an input that takes a channel or 1.0
abbrev pub is_fed : Parameter → Bool
is_fed q = is_channel q.name || (is_alpha q.name && not (is_some q.default))

-- Inputs named rIn, gIn, bIn or aIn are scalars, and such a one that takes a channel or 1.0 is not marked `uniform`. Any other
-- input has a default.
abbrev pub input_is_simple : Parameter → Bool
input_is_simple q = if is_channel q.name || is_alpha q.name then is_scalar q && not (is_fed q && is_uniform q.level) else is_some q.default

abbrev pub inputs_are_simple : List Parameter → Bool
inputs_are_simple [] = true
inputs_are_simple (q ∷ parameters) = (q.is_output || input_is_simple q) && inputs_are_simple parameters

-- ---- outputs

-- an output of this name
abbrev pub has_output : List ℕ → List Parameter → Bool
has_output name [] = false
has_output name (q ∷ parameters) = (q.is_output && bytes_eq q.name name) || has_output name parameters

-- whether the last output so far that goes on under a name is a scalar, after one parameter more
abbrev pub scalar_so_far : List ℕ → Bool → Parameter → Bool
scalar_so_far name before q = if q.is_output && bytes_eq name (passed_name q.name) then is_scalar q else before

-- the same after all of them; `before` where none goes on so
abbrev pub ends_as_scalar : List ℕ → Bool → List Parameter → Bool
ends_as_scalar name before [] = before
ends_as_scalar name before (q ∷ parameters) = ends_as_scalar name (scalar_so_far name before q) parameters

-- the output is there, and the last output that goes on as the channel is a scalar
abbrev pub output_is_simple : List ℕ → List ℕ → List Parameter → Bool
output_is_simple output channel parameters = has_output output parameters && ends_as_scalar channel false parameters

abbrev pub outputs_are_simple : List Parameter → Bool
outputs_are_simple parameters =
    output_is_simple (codes "rOut") (codes "rIn") parameters && (output_is_simple (codes "gOut") (codes "gIn") parameters && output_is_simple (codes "bOut") (codes "bIn") parameters)

-- ---- stages

-- the parameters of an entry are of the simple form
abbrev pub is_simple : List Parameter → Bool
is_simple parameters = inputs_are_simple parameters && outputs_are_simple parameters

abbrev pub is_simple_entry : Option Function → Bool
is_simple_entry None = false
is_simple_entry (Some f) = is_simple f.parameters

-- the stage of a program by its entry
abbrev pub stage_at : ProgramForm → Option ℕ → Option StageForm
stage_at p None = None
stage_at p (Some k) = if is_simple_entry (slice_get p.definitions.functions k) then Some (record { definitions = p.definitions; entry = k }) else None

-- The stage of a program; there is none without an entry, or where the entry is not of the simple form.
abbrev pub stage_of : ProgramForm → Option StageForm
stage_of p = stage_at p p.entry

-- a stage of a program that keeps the rules
pub record IsStage (s : StageForm) : Type 0 where
  pub defined : IsDefined s.definitions
  pub function : Function
  pub there : slice_get s.definitions.functions s.entry ≡ Some function
  pub plain : is_entry (Some function) ≡ true
  pub simple : is_simple function.parameters ≡ true
