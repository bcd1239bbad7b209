-- How arguments are kept on their way to a function and back, and how a statement ends.
use Rattle.std.specs.Prelude.{◌≡◌, ℕ, zero, suc, List, [], ◌∷◌, ◌++◌, map, replicate, Option, Some, None, Result, Ok, Err, Bool, true, false, refl, if◌then◌else◌}
use Rattle.std.specs.Coded.{Coded, code_by, coded×, coded_list, coded_ℕ, coded_option}
use Rattle.ctl_types.specs.contracts.value.Value as value_row
use Rattle.ctl_types.specs.declared.value.Value.{Value}
use Rattle.ctl_types.specs.declared.expression.Argument.{Argument, out-Argument}
use Rattle.ctl_types.specs.declared.expression.Argument.TheOpen as form
use Rattle.ctl_types.specs.declared.expression.Argument.TheOpen.{Argument-F}
use Rattle.ctl_types.specs.declared.expression.TypedExpr.{TypedExpr}
use Rattle.ctl_types.specs.declared.expression.TypedStep.{TypedStep}
use Rattle.ctl_types.specs.declared.expression.TypedLink.{TypedLink}
use Rattle.ctl_types.specs.declared.expression.Operand.{Operand}
use Rattle.ctl_types.specs.declared.expression.TypedCall.{TypedCall}
use Rattle.ctl_types.specs.declared.expression.TypedPlace.{TypedPlace}
use Rattle.ctl_types.specs.declared.program.Struct.{Struct}
use Rattle.ctl_types.specs.declared.program.Function.{Function}
use Rattle.ctl_types.specs.declared.program.Parameter.{Parameter}
use Rattle.ctl_types.specs.Values.{Env, stored, takes}
use Rattle.ctl_types.specs.Run as run
use Rattle.ctl_types.specs.Run.{Fault, Wrong, End, Normal, Left, Passed, Target, given_or, converted_back}
use Rattle.eval_values.specs.Uncounted.{free, Called, function_at}
use Rattle.eval_values.specs.declared.stop.Stop.{Stop}
use Rattle.eval_values.specs.declared.stop.Stop.TheVariants as stop
use Rattle.eval_tree.specs.declared.ends.End.{End as EndForm}
use Rattle.eval_tree.specs.declared.ends.End.TheVariants as ends
use Rattle.eval_tree.specs.declared.sending.Sent.{Sent}

-- how a statement ends
abbrev pub seen : EndForm → End
seen ends.Normal = Normal
seen (ends.Left v) = Left v

-- what is passed
abbrev pub passed : Sent → Passed
passed s = record { value = s.value; path = s.path }

abbrev pub passed_code : Coded Passed
passed_code = code_by (Option Value × List ℕ) (coded× (coded_option value_row.the_row.coded) (coded_list coded_ℕ)) (λ q. (q.value, q.path)) (λ parts. record { value = parts.0; path = parts.1 }) (λ q. refl)

-- values and paths side by side
abbrev pub paired : Env → List (List ℕ) → List Passed
paired [] paths = []
paired (v ∷ values) [] = []
paired (v ∷ values) (path ∷ paths) = record { value = v; path = path } ∷ paired values paths

-- where an argument goes back
abbrev pub target_in : Argument-F Argument TypedExpr TypedStep Operand TypedCall TypedLink TypedPlace → Option Target
target_in (form.Input o node) = None
target_in (form.Output place c node) = Some (record { variable = place.variable; conversion = c })
target_in form.Missing = None

abbrev pub target_of : Argument → Option Target
target_of a = target_in (out-Argument a)

-- the variables after an output is put back
abbrev pub put_into : Option Target → List ℕ → Value → Env → Env
put_into None path v env = env
put_into (Some t) path v env = stored t.variable path (converted_back t.conversion v) env

-- the same of a value that may be absent
abbrev pub put_given : Option Target → List ℕ → Option Value → Env → Env
put_given t path None env = env
put_given t path (Some v) env = put_into t path v env

-- the variables after all outputs are put back
abbrev pub brought_into : List (Option Target) → List (List ℕ) → Env → Env → Env
brought_into [] paths frame env = env
brought_into (t ∷ targets) [] frame env = env
brought_into (t ∷ targets) (path ∷ paths) [] env = env
brought_into (t ∷ targets) (path ∷ paths) (None ∷ frame) env = brought_into targets paths frame env
brought_into (t ∷ targets) (path ∷ paths) (Some v ∷ frame) env = brought_into targets paths frame (put_into t path v env)

-- the default of a parameter
abbrev pub default_of : Parameter → Option Value
default_of q = q.default

abbrev pub defaults_of : Option Called → List (Option Value)
defaults_of None = []
defaults_of (Some f) = f.defaults

-- the arguments, where a default stands for each that is missing
abbrev pub with_defaults : List (Option Value) → Env → Env
with_defaults defaults [] = []
with_defaults [] (v ∷ frame) = v ∷ with_defaults [] frame
with_defaults (d ∷ defaults) (v ∷ frame) = given_or v d ∷ with_defaults defaults frame

-- a default stands for the argument with this number, if that is missing
abbrev pub given_at : Option Value → ℕ → Env → Env
given_at d i [] = []
given_at d zero (v ∷ frame) = given_or v d ∷ frame
given_at d (suc i) (v ∷ frame) = v ∷ given_at d i frame

-- whether the argument with this number is missing
abbrev pub missing_at : ℕ → Env → Bool
missing_at i [] = false
missing_at zero (None ∷ frame) = true
missing_at zero (Some v ∷ frame) = false
missing_at (suc i) (v ∷ frame) = missing_at i frame

-- what comes of a call
abbrev pub comes_of : Option Called → List ℕ → Env → ℕ → Result (run.Came (Unit {0}) free) Fault
comes_of f opens frame turns = function_at f opens (with_defaults (defaults_of f) frame) turns

-- the variables where a body begins, if the function takes the arguments
abbrev pub begun : List Struct → Function → List ℕ → Env → Option Env
begun structs f opens frame = if takes structs (map (λ (q : Parameter). q.shape) f.parameters) opens frame then Some (frame ++ replicate f.variables None) else None

-- the body begins with these variables, or the function does not take the arguments, or memory is wanting
abbrev pub Begins : {V : Type 0} → Result V Stop → Env → Option Env → Type 0
Begins (Ok done) frame outcome = outcome ≡ Some frame
Begins (Err (stop.Trap kind node)) frame outcome = ⊥
Begins (Err stop.Wrong) frame outcome = outcome ≡ None
Begins (Err stop.Memory) frame outcome = Unit {0}
