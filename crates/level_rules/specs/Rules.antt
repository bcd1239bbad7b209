-- What varies from pixel to pixel in an instance of a function: what each form puts into the set of what varies, by what is
-- in it. True is varying, false is uniform. A form is looked at by a set and the control of its place.
use Rattle.std.specs.Prelude.{ℕ, ◌+◌, List, [], ◌∷◌, ◌++◌, map, get_or, Option, Some, None, Bool, true, false, ◌&&◌, ◌||◌}
use Rattle.ctl_base.specs.declared.kind.Node.{Node}
use Rattle.ctl_types.specs.declared.expression.Callee.{Callee}
use Rattle.ctl_types.specs.declared.expression.Callee.TheVariants as callee
use Rattle.ctl_types.specs.declared.expression.TypedExpr.{TypedExpr}
use Rattle.ctl_types.specs.declared.expression.Operand.{Operand}
use Rattle.ctl_types.specs.declared.expression.TypedCall.{TypedCall}
use Rattle.ctl_types.specs.declared.expression.TypedPlace.{TypedPlace}
use Rattle.ctl_types.specs.declared.expression.Argument.TheOpen as form
use Rattle.ctl_types.specs.declared.expression.Argument.TheOpen.{Argument-F, TypedExpr-F, TypedStep-F, Operand-F, TypedCall-F, TypedLink-F, TypedPlace-F}
use Rattle.ctl_types.specs.declared.statement.Initialiser.{Initialiser}
use Rattle.ctl_types.specs.declared.statement.Initialiser.TheOpen as initial
use Rattle.ctl_types.specs.declared.statement.Initialiser.TheOpen.{Initialiser-F}
use Rattle.ctl_types.specs.declared.statement.Initialiser.TheFolds.{fold-Initialiser}
use Rattle.ctl_types.specs.declared.statement.Declaration.{Declaration}
use Rattle.ctl_types.specs.declared.statement.Assignment.{Assignment}
use Rattle.ctl_types.specs.declared.statement.ForStart.{ForStart}
use Rattle.ctl_types.specs.declared.statement.ForStart.TheVariants as start
use Rattle.ctl_types.specs.declared.statement.PrintItem.{PrintItem}
use Rattle.ctl_types.specs.declared.statement.PrintItem.TheVariants as item
use Rattle.ctl_types.specs.declared.statement.TypedStatement.{TypedStatement}
use Rattle.ctl_types.specs.declared.statement.TypedStatement.TheOpen.{TypedStatement-F, Arm-F, Empty, Block, Declare, Assign, Call, If, While, For, Return, Print}
use Rattle.ctl_types.specs.declared.statement.TypedStatement.TheFolds.{fold-TypedStatement}
use Rattle.ctl_types.specs.declared.shape.Size.{Size}
use Rattle.ctl_types.specs.Shapes.{size_in}
use Rattle.ctl_types.specs.Folds.{ExprFold, expr_fold, operand_fold, call_fold, place_fold}
use Rattle.level_rules.specs.declared.instance.Instance.{Instance}
use Rattle.level_rules.specs.declared.instance.Holder.{Holder}
use Rattle.level_rules.specs.declared.instance.Holder.TheVariants.{Result, Variable}
use Rattle.level_rules.specs.declared.found.Found.{Found}

-- what varies in an instance: which of its variables, and whether its result does
abbrev pub VaryingSet : Type 0
VaryingSet = Holder → Bool

-- what is known to vary in each instance
abbrev pub Known : Type 0
Known = Instance → VaryingSet

-- what stands around a form: what varies in the instance, its open sizes, and which parameters of each function are
-- marked uniform
pub record Around : Type 0 where
  pub set : VaryingSet
  pub opens : List ℕ
  pub uniforms : List (List Bool)

-- ---- what is found

-- nothing
abbrev pub nothing_found : Found
nothing_found = record { puts = []; calls = []; faults = []; places = [] }

-- what is found in one form, and then in another
abbrev pub both_found : Found → Found → Found
both_found a b = record { puts = a.puts ++ b.puts; calls = a.calls ++ b.calls; faults = a.faults ++ b.faults; places = a.places ++ b.places }

-- a place of this control
abbrev pub place_found : Bool → Found
place_found c = record { puts = []; calls = []; faults = []; places = c ∷ [] }

-- this, where this is true
abbrev pub one_if : {A : Type 0} → Bool → A → List A
one_if true x = x ∷ []
one_if false x = []

-- where this is true, this is put into the set
abbrev pub put_found : Bool → Holder → Found
put_found b h = record { puts = one_if b h; calls = []; faults = []; places = [] }

-- the node, where there is one and this is true
abbrev pub node_if : Bool → Option Node → List Node
node_if b None = []
node_if b (Some node) = one_if b node

-- where this is true, an argument varies that is not to; a missing one has no node
abbrev pub fault_found : Bool → Option Node → Found
fault_found b node = record { puts = []; calls = []; faults = node_if b node; places = [] }

-- an instance is called
abbrev pub call_found : Instance → Found
call_found i = record { puts = []; calls = i ∷ []; faults = []; places = [] }

-- ---- expressions

-- of an expression: whether it varies, and what is found in it
pub record Seen : Type 0 where
  pub varies : Bool
  pub found : Found

-- by what stands around it, and by the control of its place
abbrev pub Look : Type 0
Look = Around → Bool → Seen

-- what never varies
abbrev pub still : Look
still s c = record { varies = false; found = nothing_found }

-- one and then the other: they vary where one of them does
abbrev pub beside : Seen → Seen → Seen
beside a b = record { varies = a.varies || b.varies; found = both_found a.found b.found }

-- one after the other, at places of one control
abbrev pub seen_all : List Look → Look
seen_all [] s c = still s c
seen_all (l ∷ looks) s c = beside (l s c) (seen_all looks s c)

-- a place of its own
abbrev pub placed : Look → Look
placed look s c = record { varies = (look s c).varies; found = both_found (place_found c) (look s c).found }

-- the operands of `&&` or `||`: those after a varying one have varying control
abbrev pub seen_logic : List Look → Look
seen_logic [] s c = still s c
seen_logic (l ∷ looks) s c = beside (placed l s c) (seen_logic looks s (c || (l s c).varies))

-- what never varies, whatever is in it
abbrev pub unvaried : Look → Look
unvaried look s c = record { varies = false; found = (look s c).found }

-- ---- places and arguments

-- a place by its variable, and its indices
pub record PlaceLook : Type 0 where
  pub variable : ℕ
  pub indices : Look

-- an argument: the variable of the place of an output, its node, and what is seen of its value, or of the indices of
-- its place; a missing one has neither
pub record ArgumentLook : Type 0 where
  pub output : Option ℕ
  pub node : Option Node
  pub look : Look

-- a variable that is named varies
abbrev pub names : Option ℕ → VaryingSet → Bool
names None v = false
names (Some x) v = v (Variable x)

-- an argument varies where its value does; that of an output names its variable
abbrev pub argument_varies : ArgumentLook → Around → Bool → Bool
argument_varies a s c = names a.output s.set || (a.look s c).varies

-- the levels of the arguments
abbrev pub levels_of : List ArgumentLook → Around → Bool → List Bool
levels_of [] s c = []
levels_of (a ∷ arguments) s c = argument_varies a s c ∷ levels_of arguments s c

-- one of them varies
abbrev pub any : List Bool → Bool
any [] = false
any (b ∷ levels) = b || any levels

-- this, of what is no output
abbrev pub of_input : Option ℕ → Bool → Bool
of_input None b = b
of_input (Some x) b = false

-- one of the arguments that are no outputs varies
abbrev pub any_input : List ArgumentLook → Around → Bool → Bool
any_input [] s c = false
any_input (a ∷ arguments) s c = of_input a.output (a.look s c).varies || any_input arguments s c

-- What is found in the arguments, the first of them for parameter k: first what is found in an argument, and then that it
-- varies where its parameter is marked uniform.
abbrev pub arguments_found : List Bool → ℕ → List ArgumentLook → Around → Bool → Found
arguments_found uniform k [] s c = nothing_found
arguments_found uniform k (a ∷ arguments) s c =
    both_found (both_found (a.look s c).found (fault_found (get_or uniform k false && argument_varies a s c) a.node)) (arguments_found uniform (k + 1) arguments s c)

-- the variable, where there is one and this is true
abbrev pub variable_if : Bool → Option ℕ → List Holder
variable_if b None = []
variable_if b (Some x) = one_if b (Variable x)

-- where this is true, an output is put into the set when it is copied back
abbrev pub output_found : Bool → Option ℕ → Found
output_found b x = record { puts = variable_if b x; calls = []; faults = []; places = [] }

-- The outputs are copied back, the first argument being that of parameter k. The variable of the place is put into the
-- set at varying control, where the parameter varies, and where an index of the place varies.
abbrev pub outputs_found : (ℕ → Bool) → ℕ → List ArgumentLook → Around → Bool → Found
outputs_found varies k [] s c = nothing_found
outputs_found varies k (a ∷ arguments) s c = both_found (output_found (c || (varies k || (a.look s c).varies)) a.output) (outputs_found varies (k + 1) arguments s c)

-- the instance that is called: it has the levels of the arguments, and the control of the place
abbrev pub instance_of : ℕ → List ℕ → List Bool → Bool → Instance
instance_of n sizes levels c = record { function = n; sizes = sizes; levels = levels; control = c }

-- A call of an instance, by what varies in it. It varies where an argument does, since it names what they name, and where
-- its result does.
abbrev pub seen_call : List Bool → Instance → VaryingSet → List ArgumentLook → Look
seen_call uniform i called arguments s c = record {
  varies = any i.levels || called Result;
  found = both_found (both_found (arguments_found uniform 0 arguments s c) (call_found i)) (outputs_found (λ k. called (Variable k)) 0 arguments s c);
}

-- a call of a function of the library: its outputs vary where an argument does that is no output
abbrev pub seen_library : List ArgumentLook → Look
seen_library arguments s c = record {
  varies = any (levels_of arguments s c);
  found = both_found (arguments_found [] 0 arguments s c) (outputs_found (λ k. any_input arguments s c) 0 arguments s c);
}

-- what is called is an instance of a function of the program, or of the library
abbrev pub seen_callee : Known → Callee → List Size → List ArgumentLook → Look
seen_callee known (callee.Program n) sizes arguments s c =
    seen_call (get_or s.uniforms n []) (instance_of n (map (size_in s.opens) sizes) (levels_of arguments s c) c) (known (instance_of n (map (size_in s.opens) sizes) (levels_of arguments s c) c)) arguments s c
seen_callee known (callee.Library id) sizes arguments s c = seen_library arguments s c

-- ---- statements

-- of a statement: whether it has a return of varying control, and what is found in it
pub record Walked : Type 0 where
  pub leaves : Bool
  pub found : Found

-- by what stands around it, and by the control of its place
abbrev pub Walk : Type 0
Walk = Around → Bool → Walked

-- what is found, without a return
abbrev pub walked : Found → Walked
walked found = record { leaves = false; found = found }

-- nothing is done
abbrev pub no_walk : Walk
no_walk s c = walked nothing_found

-- an expression alone
abbrev pub walk_look : Look → Walk
walk_look look s c = walked (look s c).found

-- one and then the other
abbrev pub followed : Walked → Walked → Walked
followed a b = record { leaves = a.leaves || b.leaves; found = both_found a.found b.found }

-- one after the other: what is after a return of varying control has varying control
abbrev pub walk_all : List Walk → Walk
walk_all [] s c = no_walk s c
walk_all (w ∷ walks) s c = followed (w s c) (walk_all walks s (c || (w s c).leaves))

-- a place of its own
abbrev pub walk_placed : Walk → Walk
walk_placed walk s c = followed (walked (place_found c)) (walk s c)

-- after a varying test what it decides has varying control
abbrev pub tested : Look → Walk → Walk
tested test walk s c = followed (walked (test s c).found) (walk s (c || (test s c).varies))

-- what is declared, assigned or returned is put into the set at varying control, and where the value or an index varies
abbrev pub walk_set : Holder → Look → Walk
walk_set h look s c = walked (both_found (look s c).found (put_found (c || (look s c).varies) h))

-- whether the body of a loop has a return of varying control
abbrev pub loop_leaves : Look → Walk → Around → Bool → Bool
loop_leaves test body s c = (body s (c || (test s c).varies)).leaves

-- The test, the last assignment and the body of a loop have varying control where the loop has, where its test varies, and
-- where the loop holds a return of varying control.
abbrev pub loop_control : Look → Walk → Around → Bool → Bool
loop_control test body s c = (c || (test s c).varies) || loop_leaves test body s c

-- what is found in a loop at this control of its test, its last assignment and its body, in source order
abbrev pub loop_found : Look → Walk → Walk → Around → Bool → Found
loop_found test next body s d = both_found (both_found (place_found d) (test s d).found) (both_found (next s d).found (body s d).found)

-- a loop
abbrev pub walk_loop : Look → Walk → Walk → Walk
walk_loop test next body s c = record { leaves = loop_leaves test body s c; found = loop_found test next body s (loop_control test body s c) }

-- an arm, by what stands behind it
abbrev pub ArmWalk : Type 0
ArmWalk = Walk → Walk

-- the arms from the first, and what stands behind them
abbrev pub walk_arms : List ArmWalk → Walk → Walk
walk_arms [] otherwise = otherwise
walk_arms (a ∷ arms) otherwise = a (walk_arms arms otherwise)

-- without an `else` nothing is done
abbrev pub walk_otherwise : Option Walk → Walk
walk_otherwise None = no_walk
walk_otherwise (Some walk) = walk

-- the result varies where a return has varying control, and where what is returned varies
abbrev pub walk_return : Look → Walk
walk_return look s c = record { leaves = c; found = (walk_set Result look s c).found }

-- ---- the rules, form by form

-- a step into a value
abbrev pub look_step : TypedStep-F ArgumentLook Look Look Look Look Look PlaceLook → Look
look_step (form.Index e node) = e
look_step (form.Field n) = still

-- an operand
abbrev pub look_operand_form : Operand-F ArgumentLook Look Look Look Look Look PlaceLook → Look
look_operand_form o = o.value

-- the operand on the right of a link
abbrev pub look_link : TypedLink-F ArgumentLook Look Look Look Look Look PlaceLook → Look
look_link l = l.right

-- a place
abbrev pub look_place_form : TypedPlace-F ArgumentLook Look Look Look Look Look PlaceLook → PlaceLook
look_place_form place = record { variable = place.variable; indices = seen_all place.steps }

-- an argument; a missing one is uniform
abbrev pub look_argument : Argument-F ArgumentLook Look Look Look Look Look PlaceLook → ArgumentLook
look_argument (form.Input o node) = record { output = None; node = Some node; look = o }
look_argument (form.Output place c node) = record { output = Some place.variable; node = Some node; look = place.indices }
look_argument form.Missing = record { output = None; node = None; look = still }

-- a variable
abbrev pub look_variable : ℕ → Look
look_variable x s c = record { varies = s.set (Variable x); found = nothing_found }

-- by what is known of the instances of functions before
module _ (known : Known) where
  -- a call
  abbrev pub look_call_form : TypedCall-F ArgumentLook Look Look Look Look Look PlaceLook → Look
  look_call_form c = seen_callee known c.callee c.sizes c.arguments

  -- an expression varies where it names a variable that does, or has a call whose result does, but for what stands in
  -- the array of a `.size`
  abbrev pub look_form : TypedExpr-F ArgumentLook Look Look Look Look Look PlaceLook → Look
  look_form (form.Literal x) = still
  look_form (form.Constant n) = still
  look_form (form.Variable x) = look_variable x
  look_form (form.Unary op k o) = o
  look_form (form.Chain o links) = seen_all (o ∷ links)
  look_form (form.Logic l looks) = seen_logic looks
  look_form (form.Path e steps) = seen_all (e ∷ steps)
  look_form (form.Size e size) = unvaried e
  look_form (form.Call c) = c

  -- the rules on all forms of expressions
  abbrev pub look_fold : ExprFold ArgumentLook Look Look Look Look Look PlaceLook
  look_fold = record { argument = look_argument; expr = look_form; step = look_step; operand = look_operand_form; call = look_call_form; link = look_link; place = look_place_form }

  abbrev pub look_expr : TypedExpr → Look
  look_expr = expr_fold look_fold

  abbrev pub look_operand : Operand → Look
  look_operand = operand_fold look_fold

  abbrev pub look_call : TypedCall → Look
  look_call = call_fold look_fold

  abbrev pub look_place : TypedPlace → PlaceLook
  look_place = place_fold look_fold

  -- a brace list varies where an element does
  abbrev pub initialiser_step : Initialiser-F Look → Look
  initialiser_step (initial.Value o) = look_operand o
  initialiser_step (initial.Elements shape looks) = seen_all looks
  initialiser_step (initial.Fields n looks) = seen_all looks

  abbrev pub look_initialiser : Initialiser → Look
  look_initialiser = fold-Initialiser Look initialiser_step

  -- zeros do not vary
  abbrev pub look_first : Option Initialiser → Look
  look_first None = still
  look_first (Some i) = look_initialiser i

  -- a declaration
  abbrev pub walk_declaration : Declaration → Walk
  walk_declaration d = walk_set (Variable d.variable) (look_first d.first)

  -- the indices of the place, and then the value
  abbrev pub look_assignment : Assignment → Look
  look_assignment a = seen_all ((look_place a.place).indices ∷ look_operand a.value ∷ [])

  -- an assignment
  abbrev pub walk_assignment : Assignment → Walk
  walk_assignment a = walk_set (Variable (look_place a.place).variable) (look_assignment a)

  -- how a `for` begins
  abbrev pub walk_start : ForStart → Walk
  walk_start (start.Declare d) = walk_declaration d
  walk_start (start.Assign a) = walk_assignment a

  -- what is printed
  abbrev pub look_item : PrintItem → Look
  look_item (item.Text text) = still
  look_item (item.Value e) = look_expr e

  -- all that is printed
  abbrev pub look_items : List PrintItem → Look
  look_items items = seen_all (map look_item items)

  -- what is returned
  abbrev pub look_returned : Option Operand → Look
  look_returned None = still
  look_returned (Some o) = look_operand o

  -- After a varying test of an arm its body has varying control, and so has what stands behind the arm. After a body with a
  -- return of varying control what stands behind the arm has it too.
  abbrev pub walk_arm : Arm-F Walk ArmWalk → ArmWalk
  walk_arm a otherwise = walk_placed (tested (look_operand a.test) (walk_all (a.body ∷ otherwise ∷ [])))

  -- a loop in a `for`, whose last assignment is a statement of its own
  abbrev pub walk_for : ForStart → Look → Assignment → Walk → Walk
  walk_for first test next body = walk_all (walk_placed (walk_start first) ∷ walk_loop test (walk_placed (walk_assignment next)) body ∷ [])

  -- a statement, but for its own place
  abbrev pub walk_in : TypedStatement-F Walk ArmWalk → Walk
  walk_in Empty = no_walk
  walk_in (Block walks) = walk_all walks
  walk_in (Declare d) = walk_declaration d
  walk_in (Assign a) = walk_assignment a
  walk_in (Call c) = walk_look (look_call c)
  walk_in (If arms otherwise) = walk_arms arms (walk_otherwise otherwise)
  walk_in (While test body node) = walk_loop (look_operand test) no_walk body
  walk_in (For first test next body node) = walk_for first (look_operand test) next body
  walk_in (Return o) = walk_return (look_returned o)
  walk_in (Print items) = walk_look (look_items items)

  -- a statement
  abbrev pub walk_form : TypedStatement-F Walk ArmWalk → Walk
  walk_form statement = walk_placed (walk_in statement)

  abbrev pub walk_statement : TypedStatement → Walk
  walk_statement = fold-TypedStatement Walk ArmWalk walk_form walk_arm
