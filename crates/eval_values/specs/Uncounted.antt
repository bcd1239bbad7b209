-- The runs of ctl_types where nothing is counted, and what the code answers for a run.
use Rattle.std.specs.Prelude.{◌≡◌, ℕ, ℤ, List, [], map, Option, Some, None, Result, Ok, Err, Bool, refl}
use Rattle.ctl_types.specs.declared.scalar.Scalar.{Scalar}
use Rattle.ctl_types.specs.declared.value.Value.{Value, out-Value}
use Rattle.ctl_types.specs.declared.value.Value.TheOpen as layer
use Rattle.ctl_types.specs.declared.value.Value.TheOpen.{Value-F}
use Rattle.ctl_types.specs.declared.program.Struct.{Struct}
use Rattle.ctl_types.specs.Values.{Env, var_of, part_at}
use Rattle.ctl_base.specs.declared.kind.Node.{Node}
use Rattle.ctl_base.specs.declared.kind.ScalarKind.{ScalarKind}
use Rattle.ctl_types.specs.declared.expression.Conversion.{Conversion}
use Rattle.ctl_types.specs.declared.expression.LinkOperator.{LinkOperator}
use Rattle.ctl_types.specs.Run as run
use Rattle.ctl_types.specs.declared.expression.Callee.{Callee}
use Rattle.ctl_types.specs.declared.shape.Shape.{Shape}
use Rattle.ctl_stdlib.specs.declared.row.LibraryId.{LibraryId}
use Rattle.ctl_types.specs.Run.{Fault, Trapped, Wrong, End, Passed}
use Rattle.eval_values.specs.declared.stop.Stop.{Stop}
use Rattle.eval_values.specs.declared.stop.Stop.TheVariants as stop

abbrev pub free : ℕ → Unit {0} → Unit {0}
free n c = tt

abbrev pub Pixel : Type 0
Pixel = run.Pixel (Unit {0}) free

abbrev pub Outcome : Type 0 → Type 0
Outcome V = run.Outcome (Unit {0}) free V

abbrev pub Run : Type 0 → Type 0
Run V = run.Run (Unit {0}) free V

abbrev pub Setting : Type 0
Setting = run.Setting (Unit {0}) free

abbrev pub Called : Type 0
Called = run.Called (Unit {0}) free

abbrev pub pixel : Env → ℕ → Pixel
pixel env turns = record { env = env; turns = turns; spent = tt }

abbrev pub go_on : {V W : Type 0} → Outcome V → (V → Run W) → Outcome W
go_on o next = run.go_on (Unit {0}) free o next

abbrev pub give : {V : Type 0} → V → Run V
give v = run.give (Unit {0}) free v

abbrev pub held : {V W : Type 0} → Option V → (V → Run W) → Run W
held o next = run.held (Unit {0}) free o next

-- ---- what the code answers

-- what the code answers is what the run gives, but for want of memory
abbrev pub Gives : {V W : Type 0} → (V → W) → Result V Stop → Env → ℕ → Outcome W → Type 0
Gives view (Ok v) env turns outcome = outcome ≡ Ok (record { value = view v; after = pixel env turns })
Gives view (Err (stop.Trap kind node)) env turns outcome = outcome ≡ Err (Trapped kind node)
Gives view (Err stop.Wrong) env turns outcome = outcome ≡ Err Wrong
Gives view (Err stop.Memory) env turns outcome = Unit {0}

abbrev pub scalar_form : Value-F Value → Option Scalar
scalar_form (layer.One s) = Some s
scalar_form (layer.List vs) = None
scalar_form (layer.Fields vs) = None

-- the scalar that a value is
abbrev pub scalar_in : Value → Option Scalar
scalar_in v = scalar_form (out-Value v)

-- ---- places

abbrev pub found : ℕ → List ℕ → Env → Option Value
found x path env = part_at path (var_of env x)

abbrev pub checked : Node → ℤ → ℕ → Run ℕ
checked node z size = run.checked (Unit {0}) free node z size

abbrev pub index_in : Node → ℤ → Value-F Value → Run ℕ
index_in node z v = run.index_in (Unit {0}) free node z v

abbrev pub field_in : ℕ → Value-F Value → Run ℕ
field_in n v = run.field_in (Unit {0}) free n v

-- ---- lists of children

abbrev pub linked : List (Value → Run Value) → Value → Run Value
linked links v = run.linked (Unit {0}) free links v

abbrev pub decided : Bool → List (Run Value) → Run Value
decided t runs = run.decided (Unit {0}) free t runs

abbrev pub steps_run : List (run.StepRun (Unit {0}) free) → Value → Run Value
steps_run steps v = run.steps_run (Unit {0}) free steps v

abbrev pub path_run : ℕ → List (run.StepRun (Unit {0}) free) → List ℕ → Run (List ℕ)
path_run x steps done = run.path_run (Unit {0}) free x steps done

-- ---- scalars

abbrev pub word : {W : Type 0} → ScalarKind → (ℤ → Run W) → Value → Run W
word k next v = run.word (Unit {0}) free k next v

abbrev pub give_scalar : ScalarKind → Option ℤ → Run Value
give_scalar k z = run.give_scalar (Unit {0}) free k z

abbrev pub operated : LinkOperator → ScalarKind → Value → Value → Run Value
operated op k v w = run.operated (Unit {0}) free op k v w

abbrev pub convert : Conversion → Value → Run Value
convert c v = run.convert (Unit {0}) free c v

abbrev pub sized : ℕ → Run Value
sized n = run.sized (Unit {0}) free n

abbrev pub index_number : {W : Type 0} → Value-F Value → (ℤ → Run W) → Run W
index_number v next = run.index_number (Unit {0}) free v next

-- ---- calls

abbrev pub Came : Type 0
Came = run.Came (Unit {0}) free

abbrev pub FunctionRun : Type 0
FunctionRun = run.FunctionRun (Unit {0}) free

-- what the code answers is what the run of a function gives, but for want of memory
abbrev pub Comes : Result Value Stop → Env → ℕ → Result Came Fault → Type 0
Comes (Ok v) frame turns outcome = outcome ≡ Ok (record { value = v; frame = frame; turns = turns; spent = tt })
Comes (Err (stop.Trap kind node)) frame turns outcome = outcome ≡ Err (Trapped kind node)
Comes (Err stop.Wrong) frame turns outcome = outcome ≡ Err Wrong
Comes (Err stop.Memory) frame turns outcome = Unit {0}

-- the run of a function that may be absent
abbrev pub function_at : Option Called → List ℕ → Env → ℕ → Result Came Fault
function_at None opens frame turns = Err Wrong
function_at (Some f) opens frame turns = f.run opens frame turns tt

abbrev pub callee_of : Setting → Callee → Node → Option Called
callee_of s callee node = run.callee_of (Unit {0}) free s callee node

abbrev pub library_run : List Struct → LibraryId → Node → FunctionRun
library_run structs id node = run.library_run (Unit {0}) free structs id node

abbrev pub end_of : List Struct → Option Shape → End → Pixel → Result Came Fault
end_of structs result end p = run.end_of (Unit {0}) free structs result end p

abbrev pub pass_value : List ℕ → Value → Run Passed
pass_value path v = run.pass_value (Unit {0}) free path v

abbrev pub pass_output : run.PlaceRun (Unit {0}) free → Conversion → Run Passed
pass_output place c = run.pass_output (Unit {0}) free place c

abbrev pub listed : {V : Type 0} → List (Run V) → Run (List V)
listed runs = run.listed (Unit {0}) free runs

-- ---- statements

abbrev pub store : ℕ → List ℕ → Value → Run End
store x path v = run.store (Unit {0}) free x path v

abbrev pub leave : Value → Run End
leave v = run.leave (Unit {0}) free v

abbrev pub sequence : List (Run End) → Run End
sequence runs = run.sequence (Unit {0}) free runs

abbrev pub rounds : ℕ → Node → Run Value → Run End → Run End
rounds n node test body = run.rounds (Unit {0}) free n node test body

abbrev pub loop_run : Node → Run Value → Run End → Run End
loop_run node test body = run.loop_run (Unit {0}) free node test body

abbrev pub arms_run : List (Run End → Run End) → Run End → Run End
arms_run arms otherwise = run.arms_run (Unit {0}) free arms otherwise

abbrev pub otherwise_run : Option (Run End) → Run End
otherwise_run otherwise = run.otherwise_run (Unit {0}) free otherwise

abbrev pub visited : {V : Type 0} → Run V → Run V
visited r = run.visited (Unit {0}) free r
