-- The run of a stage on one pixel. Between stages a pixel is what is known by name and the turns that are left. It begins with
-- the three codes as floats, and in the end three values are written as codes.
use Rattle.std.specs.Prelude.{ℕ, ◌-◌, List, [], ◌∷◌, ◌++◌, take, drop, length, Option, Some, None, Result, Ok, Err, if◌then◌else◌, codes, bytes_eq, slice_get, unsigned_abs}
use Rattle.std.specs.Option.{option_map}
use Rattle.fix_num.specs.declared.TheConstants.{FRACTION}
use Rattle.fix_num.specs.Fixed.{one as one_raw, code_in, code_out}
use Rattle.ctl_base.specs.declared.limits.TheConstants.{TURNS}
use Rattle.ctl_base.specs.declared.kind.ScalarKind.{ScalarKind}
use Rattle.ctl_base.specs.declared.kind.ScalarKind.TheVariants as kind
use Rattle.ctl_types.specs.declared.scalar.Scalar.TheVariants as scalar_form
use Rattle.ctl_types.specs.declared.shape.Shape.{Shape, out-Shape}
use Rattle.ctl_types.specs.declared.shape.Shape.TheOpen as layer
use Rattle.ctl_types.specs.declared.shape.Shape.TheOpen.{Shape-F}
use Rattle.ctl_types.specs.declared.value.Value.{Value, out-Value}
use Rattle.ctl_types.specs.declared.program.Parameter.{Parameter}
use Rattle.ctl_types.specs.declared.program.Function.{Function}
use Rattle.ctl_types.specs.Scalars.{scalar}
use Rattle.ctl_types.specs.Values.{one}
use Rattle.ctl_types.specs.Definitions.{Defined}
use Rattle.ctl_types.specs.Run.{Fault, Wrong, Ended, given_or, with_output, word_as}
use Rattle.ctl_types.specs.Cost.{uncounted, plain_run}
use Rattle.render_tree.specs.declared.pixel.Pixel.{Pixel}

-- ---- values by name

-- a value by its name
pub record Named : Type 0 where
  pub name : List ℕ
  pub value : Value

abbrev pub named : List ℕ → Value → Named
named name v = record { name = name; value = v }

-- the value where it has this name
abbrev pub if_named : List ℕ → Named → Option Value
if_named name n = if bytes_eq name n.name then Some n.value else None

-- the value of a name: of several that have it the last one counts
abbrev pub value_of : List ℕ → List Named → Option Value
value_of name [] = None
value_of name (n ∷ others) = given_or (value_of name others) (if_named name n)

-- ---- inputs

-- the kind of a shape that is a scalar
abbrev pub kind_in : Shape-F Shape → Option ScalarKind
kind_in (layer.Scalar k) = Some k
kind_in (layer.Struct n) = None
kind_in (layer.Array inner x) = None

abbrev pub scalar_kind : Shape → Option ScalarKind
scalar_kind s = kind_in (out-Shape s)

-- a scalar as one of a kind
abbrev pub in_kind : ScalarKind → Value → Value
in_kind k v = one (scalar k (word_as k (out-Value v)))

-- a value as an input takes it: converted, where the input is a scalar
abbrev pub taken_as : Option ScalarKind → Value → Value
taken_as None v = v
taken_as (Some k) v = in_kind k v

-- 1.0
abbrev pub full : Value
full = one (scalar_form.Float (one_raw FRACTION))

-- what an input takes that has neither a value nor a default
abbrev pub last_resort : Parameter → Option Value
last_resort q = if bytes_eq q.name (codes "aIn") then Some (taken_as (scalar_kind q.shape) full) else None

-- the value that an input takes, the first that there is: that of its name, its default, and 1.0 where its name is aIn
abbrev pub input_value : List Named → Parameter → Option Value
input_value values q = given_or (option_map (taken_as (scalar_kind q.shape)) (value_of q.name values)) (given_or q.default (last_resort q))

-- the values that the inputs take, in the order of the parameters
abbrev pub input_values : List Named → List Parameter → Option (List Value)
input_values values [] = Some []
input_values values (q ∷ parameters) = if q.is_output then input_values values parameters else with_output (input_value values q) (input_values values parameters)

-- ---- outputs

-- the name under which an output goes on: xIn for xOut
abbrev pub passed_name : List ℕ → List ℕ
passed_name name = if bytes_eq (drop (length name - 3) name) (codes "Out") then take (length name - 3) name ++ codes "In" else name

-- the values of the outputs by the names under which they go on, in the order of the parameters
abbrev pub passed_on : List Parameter → List Value → List Named
passed_on [] outputs = []
passed_on (q ∷ parameters) [] = []
passed_on (q ∷ parameters) (v ∷ outputs) = if q.is_output then named (passed_name q.name) v ∷ passed_on parameters outputs else passed_on parameters (v ∷ outputs)

-- ---- a stage

-- a stage: the definitions of its program, and the number of its entry
pub record StageForm : Type 0 where
  pub definitions : Defined
  pub entry : ℕ

-- the parameters of a function that is there
abbrev pub parameters_in : Option Function → List Parameter
parameters_in None = []
parameters_in (Some f) = f.parameters

-- the parameters of the entry
abbrev pub parameters_of : StageForm → List Parameter
parameters_of s = parameters_in (slice_get s.definitions.functions s.entry)

-- what is known by name before or after a stage, and the turns that are left
pub record Passing : Type 0 where
  pub values : List Named
  pub turns : ℕ

-- the entry from the values of its inputs; without one of them it has no meaning
abbrev pub run_from : StageForm → ℕ → Option (List Value) → Result (Ended (Unit {0}) uncounted) Fault
run_from s turns None = Err Wrong
run_from s turns (Some inputs) = plain_run s.definitions s.entry inputs turns

-- the outputs are put behind what is known
abbrev pub after_run : StageForm → List Named → Result (Ended (Unit {0}) uncounted) Fault → Result Passing Fault
after_run s values (Ok ended) = Ok (record { values = values ++ passed_on (parameters_of s) ended.outputs; turns = ended.turns })
after_run s values (Err fault) = Err fault

-- the run of a stage
abbrev pub stage_run : StageForm → Passing → Result Passing Fault
stage_run s p = after_run s p.values (run_from s p.turns (input_values p.values (parameters_of s)))

-- ---- a pixel

-- a code of so many bits as a float
abbrev pub channel : ℕ → ℕ → Value
channel depth code = one (scalar_form.Float (code_in FRACTION code depth))

-- what is known before the first stage
abbrev pub first_values : ℕ → Pixel → List Named
first_values depth p = named (codes "rIn") (channel depth p.red) ∷ named (codes "gIn") (channel depth p.green) ∷ named (codes "bIn") (channel depth p.blue) ∷ []

-- the code of so many bits as which a value, as a float, is written. The three values that are written are there from the
-- beginning.
abbrev pub code_for : ℕ → Option Value → ℕ
code_for depth None = 0
code_for depth (Some v) = unsigned_abs (code_out FRACTION (word_as kind.Float (out-Value v)) depth)

-- the codes that are written after the last stage
abbrev pub pixel_of : ℕ → List Named → Pixel
pixel_of depth values = record {
  red = code_for depth (value_of (codes "rIn") values);
  green = code_for depth (value_of (codes "gIn") values);
  blue = code_for depth (value_of (codes "bIn") values);
}

abbrev pub pixel_end : ℕ → Result Passing Fault → Result Pixel Fault
pixel_end depth (Ok p) = Ok (pixel_of depth p.values)
pixel_end depth (Err fault) = Err fault

-- The run of a chain of this one stage on a pixel, from codes of so many bits to codes of so many bits.
unfoldable pub pixel_run : ℕ → ℕ → StageForm → Pixel → Result Pixel Fault
pixel_run from to s p = pixel_end to (stage_run s (record { values = first_values from p; turns = TURNS }))
