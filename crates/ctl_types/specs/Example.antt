-- A program that keeps the rules, and what its entry gives. Two outputs of one call go back to one variable, and the last
-- parameter's value stays.
--     void f(output float a, output float b) { a = 0.25; b = 0.75; }
--     void g(output float r) { float x = 0.0; f(x, x); r = x; }
use Rattle.std.specs.Prelude.{◌≡◌, ℕ, ℤ, pos, List, [], ◌∷◌, Option, Some, None, Result, Ok, Err, true, false, codes}
use Rattle.ctl_base.specs.declared.kind.Node.{Node}
use Rattle.ctl_base.specs.declared.kind.ScalarKind.TheVariants as kind
use Rattle.ctl_tree.specs.declared.token.Token.{Token}
use Rattle.ctl_tree.specs.declared.definition.Module.{Module}
use Rattle.ctl_types.specs.declared.scalar.Scalar.TheVariants.{Float}
use Rattle.ctl_types.specs.declared.shape.Shape.{Shape, roll-Shape}
use Rattle.ctl_types.specs.declared.shape.Shape.TheOpen as shape_layer
use Rattle.ctl_types.specs.declared.shape.Base.TheVariants as base
use Rattle.ctl_types.specs.declared.value.Value.{Value}
use Rattle.ctl_types.specs.declared.expression.Conversion.TheVariants.{Same}
use Rattle.ctl_types.specs.declared.expression.Callee.TheVariants as callee
use Rattle.ctl_types.specs.declared.expression.Argument.{roll-Argument}
use Rattle.ctl_types.specs.declared.expression.TypedExpr.{roll-TypedExpr}
use Rattle.ctl_types.specs.declared.expression.Operand.{Operand, roll-Operand}
use Rattle.ctl_types.specs.declared.expression.TypedCall.{roll-TypedCall}
use Rattle.ctl_types.specs.declared.expression.TypedPlace.{TypedPlace, roll-TypedPlace}
use Rattle.ctl_types.specs.declared.expression.Argument.TheOpen as form
use Rattle.ctl_types.specs.declared.statement.Initialiser.{roll-Initialiser}
use Rattle.ctl_types.specs.declared.statement.Initialiser.TheOpen as initial
use Rattle.ctl_types.specs.declared.statement.TypedStatement.{TypedStatement, roll-TypedStatement}
use Rattle.ctl_types.specs.declared.statement.TypedStatement.TheOpen.{Block, Declare, Assign, Call}
use Rattle.ctl_types.specs.declared.program.Parameter.{Parameter}
use Rattle.ctl_types.specs.declared.program.Function.{Function}
use Rattle.ctl_types.specs.Values.{one}
use Rattle.ctl_types.specs.Definitions.{Defined, library_structs}
use Rattle.ctl_types.specs.Scoping.{definitions_stand}
use Rattle.ctl_types.specs.Run.{Fault, Ended, call_run}

abbrev pub node : Node
node = record { «module» = 0; token = 0 }

abbrev pub float : Shape
float = roll-Shape (shape_layer.Scalar kind.Float)

-- 0.25 and 0.75
abbrev pub quarter : ℤ
quarter = pos 1073741824

abbrev pub three_quarters : ℤ
three_quarters = pos 3221225472

abbrev pub literal : ℤ → Operand
literal z = roll-Operand (record { value = roll-TypedExpr (form.Literal (Float z)); conversion = Same })

abbrev pub variable : ℕ → Operand
variable x = roll-Operand (record { value = roll-TypedExpr (form.Variable x); conversion = Same })

abbrev pub place : ℕ → TypedPlace
place x = roll-TypedPlace (record { variable = x; steps = [] })

abbrev pub assign : ℕ → Operand → TypedStatement
assign x o = roll-TypedStatement (Assign (record { place = place x; value = o }))

abbrev pub output : List ℕ → Parameter
output name = record { name = name; node = node; shape = float; is_output = true; level = None; default = None }

abbrev pub first : Function
first = record {
  name = codes "f";
  node = node;
  parameters = output (codes "a") ∷ output (codes "b") ∷ [];
  result = None;
  variables = 0;
  body = roll-TypedStatement (Block (assign 0 (literal quarter) ∷ assign 1 (literal three_quarters) ∷ []));
}

abbrev pub second : Function
second = record {
  name = codes "g";
  node = node;
  parameters = output (codes "r") ∷ [];
  result = None;
  variables = 1;
  body = roll-TypedStatement (Block (
      roll-TypedStatement (Declare (record { variable = 1; is_constant = false; shape = record { sizes = []; base = base.Scalar kind.Float }; first = Some (roll-Initialiser (initial.Value (literal (pos 0)))) }))
      ∷ roll-TypedStatement (Call (roll-TypedCall (record { callee = callee.Program 0; sizes = []; arguments = roll-Argument (form.Output (place 1) Same node) ∷ roll-Argument (form.Output (place 1) Same node) ∷ []; node = node })))
      ∷ assign 0 (variable 1)
      ∷ []));
}

-- of one unit with one token
abbrev pub program : Token → Module → Defined
program token form = record { units = record { file = codes "e.ctl"; tokens = token ∷ []; «module» = form } ∷ []; structs = library_structs; constants = []; functions = first ∷ second ∷ [] }

abbrev pub nothing_counted : ℕ → Unit {0} → Unit {0}
nothing_counted n s = tt

abbrev pub outputs_given : Result (Ended (Unit {0}) nothing_counted) Fault → Option (List Value)
outputs_given (Ok ended) = Some ended.outputs
outputs_given (Err fault) = None

abbrev pub ExampleStands : Type 0
ExampleStands = (token : Token) (form : Module) → definitions_stand (program token form) ≡ true

abbrev pub ExampleRuns : Type 0
ExampleRuns = (token : Token) (form : Module) → outputs_given (call_run (Unit {0}) nothing_counted (program token form) 1 [] 10 tt) ≡ Some (one (Float three_quarters) ∷ [])
