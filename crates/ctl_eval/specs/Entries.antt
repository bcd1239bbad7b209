-- What the run of an entry gives, and the value of an initialiser, as the code answers it.
use Rattle.std.specs.Prelude.{◌≡◌, ℕ, List, Option, Some, None, Result, Ok, Err, true, slice_get}
use Rattle.ctl_types.specs.declared.value.Value.{Value}
use Rattle.ctl_types.specs.declared.program.Function.{Function}
use Rattle.ctl_types.specs.Definitions.{Defined}
use Rattle.ctl_types.specs.Values.{Env}
use Rattle.ctl_types.specs.Run.{Fault, Trapped, Wrong, Ended, Outcome}
use Rattle.ctl_types.specs.Cost.{uncounted}
use Rattle.ctl_laws.specs.Sound.{inputs_fit}
use Rattle.ctl_eval.specs.declared.ends.PixelEnd.{PixelEnd}
use Rattle.ctl_eval.specs.declared.ends.PixelEnd.TheVariants as pixel_end
use Rattle.ctl_eval.specs.declared.ends.ValueEnd.{ValueEnd}
use Rattle.ctl_eval.specs.declared.ends.ValueEnd.TheVariants as value_end

-- the entry is a function of the program, there is a value for each of its inputs, of its shape and within the limits, and
-- each output has a default or no open size
abbrev pub EntryTakes : Defined → ℕ → List Value → Type 0
EntryTakes d entry inputs = (f : Function) × (slice_get d.functions entry ≡ Some f) × (inputs_fit d.structs f.parameters inputs ≡ true)

-- a pixel ends as a run does: with the same outputs and turns left, or by the same trap
abbrev pub Ends : PixelEnd → Result (Ended (Unit {0}) uncounted) Fault → Type 0
Ends (pixel_end.Values outputs turns) outcome = outcome ≡ Ok (record { outputs = outputs; turns = turns; spent = tt })
Ends (pixel_end.Trap kind node) outcome = outcome ≡ Err (Trapped kind node)

-- the value of an initialiser is that of a run, with the same turns left, or the run ends by the same trap
abbrev pub GivesValue : ValueEnd → Outcome (Unit {0}) uncounted Value → Type 0
GivesValue (value_end.Value v turns) outcome = (env : Env) × (outcome ≡ Ok (record { value = v; after = record { env = env; turns = turns; spent = tt } }))
GivesValue (value_end.Trap kind node) outcome = outcome ≡ Err (Trapped kind node)

-- the same of an initialiser that may have no meaning
abbrev pub Evaluates : Option ValueEnd → Outcome (Unit {0}) uncounted Value → Type 0
Evaluates None outcome = outcome ≡ Err Wrong
Evaluates (Some end) outcome = GivesValue end outcome
