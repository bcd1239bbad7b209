-- Means: what the code answers on the way.
use Rattle.std.specs.Prelude.{◌≡◌, ℕ, List, [], ◌++◌, map, Option, Some, None, Result, Ok, Err, slice_get}
use Rattle.ctl_types.specs.declared.program.Parameter.{Parameter}
use Rattle.ctl_types.specs.declared.shape.Shape.{Shape}
use Rattle.ctl_types.specs.Values.{Env, open_sizes}
use Rattle.ctl_types.specs.Definitions.{Defined, constant_values}
use Rattle.ctl_types.specs.Run.{Fault, Trapped, Wrong, Ended, entry_came}
use Rattle.ctl_types.specs.Cost.{uncounted}
use Rattle.eval_values.specs.Uncounted.{function_at}
use Rattle.eval_tree.specs.Scene.{SceneForm, calls_of}
use Rattle.eval_values.specs.declared.stop.Stop.{Stop}
use Rattle.eval_values.specs.declared.stop.Stop.TheVariants as stop
use Rattle.ctl_eval.specs.declared.ends.Outputs.{Outputs}

-- the outputs and the turns left of a run, or why there are none
abbrev pub EntryGives : Result Outputs Stop → Result (Ended (Unit {0}) uncounted) Fault → Type 0
EntryGives (Ok o) outcome = outcome ≡ Ok (record { outputs = o.values; turns = o.turns; spent = tt })
EntryGives (Err (stop.Trap kind node)) outcome = outcome ≡ Err (Trapped kind node)
EntryGives (Err stop.Wrong) outcome = outcome ≡ Err Wrong
EntryGives (Err stop.Memory) outcome = Unit {0}

-- what is there, or that there is none, but for want of memory
abbrev pub Found : {A B : Type 0} → (A → B) → Result A Stop → Option B → Type 0
Found view (Ok a) o = o ≡ Some (view a)
Found view (Err (stop.Trap kind node)) o = ⊥
Found view (Err stop.Wrong) o = o ≡ None
Found view (Err stop.Memory) o = Unit {0}

-- what is there behind this
abbrev pub behind : {A : Type 0} → List A → Option (List A) → Option (List A)
behind done None = None
behind done (Some rest) = Some (done ++ rest)

-- what is known outside functions, of all definitions
abbrev pub scene_form : Defined → SceneForm
scene_form d = record { structs = d.structs; constants = d.constants; functions = d.functions; opens = [] }

-- the shapes of parameters
abbrev pub shapes_of : List Parameter → List Shape
shapes_of = map (λ (q : Parameter). q.shape)

-- an entry from its parameters at the beginning
abbrev pub from_frame : Defined → ℕ → List Parameter → Env → ℕ → Result (Ended (Unit {0}) uncounted) Fault
from_frame d entry parameters frame turns =
    entry_came (Unit {0}) uncounted parameters (function_at (slice_get (calls_of d.structs (constant_values d) d.functions) entry) (open_sizes (shapes_of parameters) frame) frame turns)
