-- What a program does: the run of an expression, a place, a statement, a call, a function, and an entry.
-- A run goes from the variables and the turns that are left to a value with the variables and turns after it, or to a
-- fault: a trap, or Wrong where a form has no meaning, as one that names a variable that is absent. A program that keeps its
-- invariant never meets the second.
-- C is a count of what is done, and pay adds to it; the runs do not depend on it.
use Rattle.std.specs.Prelude.{ℕ, zero, suc, ◌+◌, ℤ, pos, List, [], ◌∷◌, ◌++◌, map, replicate, length, sum_by, Option, Some, None, Result, Ok, Err, Bool, true, false, not, ◌&&◌, if◌then◌else◌, slice_get, slice_set, nat_lt, ◌^◌, int_lt, unsigned_abs}
use Rattle.fix_num.specs.declared.TheConstants.{FRACTION}
use Rattle.fix_num.specs.Whole.{truth, of_bool}
use Rattle.ctl_base.specs.declared.kind.Node.{Node}
use Rattle.ctl_base.specs.declared.kind.ScalarKind.{ScalarKind}
use Rattle.ctl_base.specs.declared.kind.ScalarKind.TheVariants as kind
use Rattle.ctl_base.specs.declared.kind.TrapKind.{TrapKind}
use Rattle.ctl_base.specs.declared.kind.TrapKind.TheVariants as trap
use Rattle.ctl_stdlib.specs.declared.row.LibraryId.{LibraryId}
use Rattle.ctl_types.specs.declared.scalar.Scalar.TheVariants as scalar_form
use Rattle.ctl_types.specs.declared.shape.Shape.{Shape}
use Rattle.ctl_types.specs.declared.shape.LocalShape.{LocalShape}
use Rattle.ctl_types.specs.declared.value.Value.{Value, out-Value}
use Rattle.ctl_types.specs.declared.value.Value.TheOpen as layer
use Rattle.ctl_types.specs.declared.value.Value.TheOpen.{Value-F}
use Rattle.ctl_types.specs.declared.expression.Conversion.{Conversion}
use Rattle.ctl_types.specs.declared.expression.Conversion.TheVariants.{Same, Between}
use Rattle.ctl_types.specs.declared.expression.LinkOperator.{LinkOperator}
use Rattle.ctl_types.specs.declared.expression.Logic.{Logic}
use Rattle.ctl_types.specs.declared.expression.Logic.TheVariants.{And, Or}
use Rattle.ctl_types.specs.declared.expression.Callee.{Callee}
use Rattle.ctl_types.specs.declared.expression.Callee.TheVariants as callee
use Rattle.ctl_types.specs.declared.expression.TypedExpr.{TypedExpr}
use Rattle.ctl_types.specs.declared.expression.Operand.{Operand}
use Rattle.ctl_types.specs.declared.expression.TypedCall.{TypedCall}
use Rattle.ctl_types.specs.declared.expression.TypedPlace.{TypedPlace}
use Rattle.ctl_types.specs.declared.expression.Argument.TheOpen as form
use Rattle.ctl_types.specs.declared.expression.Argument.TheOpen.{Argument-F, TypedExpr-F, TypedStep-F, Operand-F, TypedCall-F, TypedLink-F, TypedPlace-F}
use Rattle.ctl_types.specs.declared.statement.Initialiser.{Initialiser}
use Rattle.ctl_types.specs.declared.statement.Initialiser.TheOpen as initial
use Rattle.ctl_types.specs.declared.statement.Initialiser.TheOpen.{Initialiser-F}
use Rattle.ctl_types.specs.declared.statement.Initialiser.TheFolds.{fold-Initialiser}
use Rattle.ctl_types.specs.declared.statement.Declaration.{Declaration}
use Rattle.ctl_types.specs.declared.statement.Assignment.{Assignment}
use Rattle.ctl_types.specs.declared.statement.ForStart.{ForStart}
use Rattle.ctl_types.specs.declared.statement.ForStart.TheVariants as start
use Rattle.ctl_types.specs.declared.statement.PrintItem.{PrintItem}
use Rattle.ctl_types.specs.declared.statement.PrintItem.TheVariants as item
use Rattle.ctl_types.specs.declared.statement.TypedStatement.{TypedStatement}
use Rattle.ctl_types.specs.declared.statement.TypedStatement.TheOpen.{TypedStatement-F, Arm-F, Empty, Block, Declare, Assign, Call, If, While, For, Return, Print}
use Rattle.ctl_types.specs.declared.statement.TypedStatement.TheFolds.{fold-TypedStatement}
use Rattle.ctl_types.specs.declared.program.Struct.{Struct as StructForm}
use Rattle.ctl_types.specs.declared.program.Parameter.{Parameter}
use Rattle.ctl_types.specs.declared.program.Function.{Function}
use Rattle.ctl_types.specs.Scalars.{kind_of, word_of, scalar, same_kind, operate, operator_kind, operate_alone, converted}
use Rattle.ctl_types.specs.Definitions.{Defined, constant_values}
use Rattle.ctl_types.specs.Shapes.{size_in, Whole, whole_of, base_of}
use Rattle.ctl_types.specs.Values.{Env, one, list, fields, nothing, part_of, part_at, var_of, stored, fits, alike, zero_of, struct_zeros, scalars, takes, open_sizes}
use Rattle.ctl_types.specs.Library.{LibraryAnswer, Unfit, Refused, Given, library_answer}
use Rattle.ctl_types.specs.Folds.{ExprFold, expr_fold, operand_fold, call_fold, place_fold}

-- what ends the run of a pixel: a trap with its node, or that a form has no meaning
pub data Fault : Type 0 where
  Trapped : TrapKind → Node → Fault
  Wrong : Fault

-- how a statement ends that does not fault: the next one runs, or the function is left with a value
pub data End : Type 0 where
  Normal : End
  Left : Value → End

-- where an output goes when its call has ended: the variable of its place, and what is undone on the way
pub record Target : Type 0 where
  pub variable : ℕ
  pub conversion : Conversion

-- an argument as it is passed: its value, none where the default stands for it, and the numbers of the parts on the way
-- to the place of an output
pub record Passed : Type 0 where
  pub value : Option Value
  pub path : List ℕ

-- a value that is given, else the other
abbrev pub given_or : Option Value → Option Value → Option Value
given_or (Some v) other = Some v
given_or None other = other

-- the arguments by which a function begins: a default stands for each that is missing
abbrev pub given : List (Option Value) → List Passed → Env
given defaults [] = []
given [] (q ∷ qs) = q.value ∷ given [] qs
given (d ∷ defaults) (q ∷ qs) = given_or q.value d ∷ given defaults qs

-- how many scalars are copied
abbrev pub scalars_in : Option Value → ℕ
scalars_in None = 0
scalars_in (Some v) = scalars v

-- the word that a scalar becomes in a kind, and 0 of what is none
abbrev pub word_as : ScalarKind → Value-F Value → ℤ
word_as k (layer.One s) = converted FRACTION (kind_of s) k (word_of s)
word_as k (layer.List vs) = pos 0
word_as k (layer.Fields vs) = pos 0

-- a value of a parameter, converted back to the place that it came from
abbrev pub converted_back : Conversion → Value → Value
converted_back Same v = v
converted_back (Between a b) v = one (scalar a (word_as a (out-Value v)))

-- the truth that decides a chain: its other operands are not evaluated
abbrev pub decider : Logic → Bool
decider And = false
decider Or = true

-- the shape of a result; a function that gives no value has none
abbrev pub whole_result : Option Shape → Whole
whole_result None = record { sizes = []; base = None }
whole_result (Some s) = whole_of s

-- a value that is there, else the other
abbrev pub value_or : Value → Option Value → Value
value_or other None = other
value_or other (Some v) = v

-- a value in front of some
abbrev pub also : Value → Option Env → Option Env
also v None = None
also v (Some frame) = Some (Some v ∷ frame)

-- a value in front of some, where all are there
abbrev pub with_output : Option Value → Option (List Value) → Option (List Value)
with_output None outputs = None
with_output (Some v) None = None
with_output (Some v) (Some outputs) = Some (v ∷ outputs)

-- an output begins at its default, or at zero
abbrev pub first_output : List StructForm → Parameter → Value
first_output structs q = value_or (zero_of (struct_zeros structs) (whole_of q.shape).sizes (base_of q.shape)) q.default

-- the parameters of an entry at its beginning, from the values of the inputs: as many as there are inputs
abbrev pub first_frame : List StructForm → List Parameter → List Value → Option Env
first_frame structs [] [] = Some []
first_frame structs [] (v ∷ inputs) = None
first_frame structs (q ∷ parameters) [] = if q.is_output then also (first_output structs q) (first_frame structs parameters []) else None
first_frame structs (q ∷ parameters) (v ∷ inputs) =
    if q.is_output then also (first_output structs q) (first_frame structs parameters (v ∷ inputs))
    else also v (first_frame structs parameters inputs)

-- the scalars of the outputs at the beginning
abbrev pub first_scalars : List Parameter → Env → ℕ
first_scalars [] frame = 0
first_scalars (q ∷ parameters) [] = 0
first_scalars (q ∷ parameters) (v ∷ frame) = (if q.is_output then scalars_in v else 0) + first_scalars parameters frame

-- the values of the outputs
abbrev pub outputs_of : List Parameter → Env → Option (List Value)
outputs_of [] frame = Some []
outputs_of (q ∷ parameters) [] = None
outputs_of (q ∷ parameters) (v ∷ frame) = if q.is_output then with_output v (outputs_of parameters frame) else outputs_of parameters frame

module _ (C : Type 0) (pay : ℕ → C → C) where
  -- ---- runs

  -- the variables of the function, the turns that are left, and the count
  pub record Pixel : Type 0 where
    pub env : Env
    pub turns : ℕ
    pub spent : C

  -- what a run gives, and the state after it
  pub record Got (V : Type 0) : Type 0 where
    pub value : V
    pub after : Pixel

  -- a value with the state after it, or a fault
  abbrev pub Outcome : Type 0 → Type 0
  Outcome V = Result (Got V) Fault

  -- a run, from a state
  abbrev pub Run : Type 0 → Type 0
  Run V = Pixel → Outcome V

  -- a run after another one, unless that one faults
  abbrev pub go_on : {V W : Type 0} → Outcome V → (V → Run W) → Outcome W
  go_on (Ok got) next = next got.value got.after
  go_on (Err fault) next = Err fault

  -- a value, and nothing changes
  abbrev pub give : {V : Type 0} → V → Run V
  give v p = Ok (record { value = v; after = p })

  -- no meaning
  abbrev pub wrong : {V : Type 0} → Run V
  wrong p = Err Wrong

  -- what is there is handed on, and Wrong where nothing is
  abbrev pub held : {V W : Type 0} → Option V → (V → Run W) → Run W
  held None next p = Err Wrong
  held (Some v) next p = next v p

  -- so much is counted
  abbrev pub paid : ℕ → Pixel → Pixel
  paid n p = record { env = p.env; turns = p.turns; spent = pay n p.spent }

  -- the visit of a statement or an arm counts one
  abbrev pub visited : {V : Type 0} → Run V → Run V
  visited run p = go_on (run p) (λ v p. give v (paid 1 p))

  -- the visit of an expression counts one, and the scalars of its value
  abbrev pub evaluated : Run Value → Run Value
  evaluated run p = go_on (run p) (λ v p. give v (paid (1 + scalars v) p))

  -- runs from the left, and the list of what they give
  abbrev pub listed : {V : Type 0} → List (Run V) → Run (List V)
  listed [] p = give [] p
  listed (r ∷ runs) p = go_on (r p) (λ v p. go_on (listed runs p) (λ vs. give (v ∷ vs)))

  -- ---- scalars

  -- the word of a form that is a scalar of this kind
  abbrev pub word_in : {W : Type 0} → ScalarKind → Value-F Value → (ℤ → Run W) → Run W
  word_in k (layer.One s) next p = if same_kind (kind_of s) k then next (word_of s) p else Err Wrong
  word_in k (layer.List vs) next p = Err Wrong
  word_in k (layer.Fields vs) next p = Err Wrong

  -- the word of a scalar of this kind
  abbrev pub word : {W : Type 0} → ScalarKind → (ℤ → Run W) → Value → Run W
  word k next v = word_in k (out-Value v) next

  -- the scalar of a kind with a word, where there is one
  abbrev pub give_scalar : ScalarKind → Option ℤ → Run Value
  give_scalar k z = held z (λ z. give (one (scalar k z)))

  -- a value as it is, or a scalar converted
  abbrev pub convert : Conversion → Value → Run Value
  convert Same v = give v
  convert (Between a b) v = word a (λ z. give (one (scalar b (converted FRACTION a b z)))) v

  -- the first where a bool is true, else the second
  abbrev pub chosen : {V : Type 0} → Run V → Run V → Value → Run V
  chosen a b = word kind.Bool (λ z. if truth z then a else b)

  -- a size is an int
  abbrev pub sized : ℕ → Run Value
  sized n p = if nat_lt n (2 ^ 31) then give (one (scalar_form.Int (pos n))) p else Err Wrong

  -- an operator on two scalars of the kind that it works in
  abbrev pub operated : LinkOperator → ScalarKind → Value → Value → Run Value
  operated op k v w = word k (λ a. word k (λ b. give_scalar (operator_kind op k) (operate FRACTION op k a b)) w) v

  -- ---- indices and places

  -- the number that an index is: a bool, an int or an unsigned
  abbrev pub index_number : {W : Type 0} → Value-F Value → (ℤ → Run W) → Run W
  index_number (layer.One (scalar_form.Bool b)) next p = next (of_bool b) p
  index_number (layer.One (scalar_form.Int z)) next p = next z p
  index_number (layer.One (scalar_form.Unsigned n)) next p = next (pos n) p
  index_number (layer.One (scalar_form.Half z)) next p = Err Wrong
  index_number (layer.One (scalar_form.Float z)) next p = Err Wrong
  index_number (layer.List vs) next p = Err Wrong
  index_number (layer.Fields vs) next p = Err Wrong

  -- an index is from 0 to size - 1, or it traps
  abbrev pub checked : Node → ℤ → ℕ → Run ℕ
  checked node z size p = if not (int_lt z (pos 0)) && nat_lt (unsigned_abs z) size then give (unsigned_abs z) p else Err (Trapped trap.Index node)

  -- an index goes into an array alone
  abbrev pub index_in : Node → ℤ → Value-F Value → Run ℕ
  index_in node z (layer.One s) p = Err Wrong
  index_in node z (layer.List vs) p = checked node z (length vs) p
  index_in node z (layer.Fields vs) p = Err Wrong

  -- a field is in a struct alone
  abbrev pub field_in : ℕ → Value-F Value → Run ℕ
  field_in n (layer.One s) p = Err Wrong
  field_in n (layer.List vs) p = Err Wrong
  field_in n (layer.Fields vs) p = if nat_lt n (length vs) then give n p else Err Wrong

  -- A step is run by how what it steps into is found among the variables, and gives the number of the part. An index is
  -- checked as soon as it is evaluated, against what stands there by then.
  abbrev pub StepRun : Type 0
  StepRun = (Env → Option Value) → Run ℕ

  -- the index is evaluated, and then checked
  abbrev pub index_run : Run Value → Node → StepRun
  index_run e node find p = go_on (e p) (λ v. index_number (out-Value v) (λ z p. held (find p.env) (λ v. index_in node z (out-Value v)) p))

  -- a field needs no evaluation
  abbrev pub field_run : ℕ → StepRun
  field_run n find p = held (find p.env) (λ v. field_in n (out-Value v)) p

  -- the value at an index or in a field: that is an expression too, and its visit is counted
  abbrev pub stepped : (Value → Run Value) → Value → Run Value
  stepped next v p = next v (paid (1 + scalars v) p)

  -- the steps into a value that was evaluated before, from the left
  abbrev pub steps_run : List StepRun → Value → Run Value
  steps_run [] v p = give v p
  steps_run (s ∷ steps) v p = go_on (s (λ env. Some v) p) (λ i. held (part_of (Some v) i) (stepped (steps_run steps)))

  -- what stands at the end of a path into a variable
  abbrev pub found : ℕ → List ℕ → Env → Option Value
  found x path env = part_at path (var_of env x)

  -- the steps of a place from the left, after those that are done; they give the path
  abbrev pub path_run : ℕ → List StepRun → List ℕ → Run (List ℕ)
  path_run x [] done p = give done p
  path_run x (s ∷ steps) done p = go_on (s (found x done) p) (λ i. path_run x steps (done ++ i ∷ []))

  -- a place: its variable, and the run of its path
  pub record PlaceRun : Type 0 where
    pub variable : ℕ
    pub path : Run (List ℕ)

  -- the path of a place, whose variable is declared
  abbrev pub place_path : ℕ → List StepRun → Run (List ℕ)
  place_path x steps p = held (var_of p.env x) (λ v. path_run x steps []) p

  -- ---- calls

  -- what a function gives: its value, its variables at the end, the turns that are left, and the count
  pub record Came : Type 0 where
    pub value : Value
    pub frame : Env
    pub turns : ℕ
    pub spent : C

  -- from the open sizes, the arguments, the turns and the count
  abbrev pub FunctionRun : Type 0
  FunctionRun = List ℕ → Env → ℕ → C → Result Came Fault

  -- a function that can be called: the defaults of its parameters, and its run
  pub record Called : Type 0 where
    pub defaults : List (Option Value)
    pub run : FunctionRun

  -- the structs, the values of the constants, the functions defined before, and the open sizes of this call
  pub record Setting : Type 0 where
    pub structs : List StructForm
    pub constants : List Value
    pub functions : List Called
    pub opens : List ℕ

  -- an argument: where it goes back if it is an output, which is known before it runs, and its run
  pub record ArgumentRun : Type 0 where
    pub target : Option Target
    pub run : Run Passed

  -- An output is put back, converted to its place. The copy counts its scalars.
  abbrev pub put_back : Option Target → List ℕ → Value → Pixel → Pixel
  put_back None path v p = p
  put_back (Some t) path v p = record { env = stored t.variable path (converted_back t.conversion v) p.env; turns = p.turns; spent = pay (scalars v) p.spent }

  -- the outputs are put back in the order of the parameters
  abbrev pub brought : List (Option Target) → List Passed → Env → Pixel → Pixel
  brought [] qs frame p = p
  brought (t ∷ targets) [] frame p = p
  brought (t ∷ targets) (q ∷ qs) [] p = p
  brought (t ∷ targets) (q ∷ qs) (None ∷ frame) p = brought targets qs frame p
  brought (t ∷ targets) (q ∷ qs) (Some v ∷ frame) p = brought targets qs frame (put_back t q.path v p)

  -- after the call the variables are the caller's, with the outputs put back
  abbrev pub came_to : List (Option Target) → List Passed → Env → Result Came Fault → Outcome Value
  came_to targets qs env (Ok came) = Ok (record { value = came.value; after = brought targets qs came.frame (record { env = env; turns = came.turns; spent = came.spent }) })
  came_to targets qs env (Err fault) = Err fault

  -- The call of a function whose arguments were evaluated. They count their scalars, and so do defaults.
  abbrev pub call_with : List (Option Target) → List Passed → Env → FunctionRun → List ℕ → Run Value
  call_with targets qs frame run opens p = came_to targets qs p.env (run opens frame p.turns (pay (sum_by scalars_in frame) p.spent))

  -- the call of a function, with the defaults of its parameters
  abbrev pub called : List ℕ → List (Option Target) → List Passed → Called → Run Value
  called opens targets qs f = call_with targets qs (given f.defaults qs) f.run opens

  -- what a call of the library gives, as what a function gives
  abbrev pub library_came : Node → ℕ → C → LibraryAnswer → Result Came Fault
  library_came node turns spent Unfit = Err Wrong
  library_came node turns spent Refused = Err (Trapped trap.Assert node)
  library_came node turns spent (Given value frame) = Ok (record { value = value; frame = frame; turns = turns; spent = spent })

  -- a function of the library; a false assertion traps at the call
  abbrev pub library_run : List StructForm → LibraryId → Node → FunctionRun
  library_run structs id node opens frame turns spent = library_came node turns spent (library_answer structs id opens frame)

  -- what is called: a function defined before, or one of the library
  abbrev pub callee_of : Setting → Callee → Node → Option Called
  callee_of s (callee.Program k) node = slice_get s.functions k
  callee_of s (callee.Library id) node = Some (record { defaults = []; run = library_run s.structs id node })

  -- ---- expressions

  -- a link, by the value on its left
  abbrev pub LinkRun : Type 0
  LinkRun = Value → Run Value

  -- links from the left
  abbrev pub linked : List LinkRun → Value → Run Value
  linked [] v p = give v p
  linked (l ∷ links) v p = go_on (l v p) (linked links)

  -- operands from the left, up to one that decides
  abbrev pub decided : Bool → List (Run Value) → Run Value
  decided t [] p = give (one (scalar_form.Bool (not t))) p
  decided t (r ∷ runs) p = go_on (r p) (if t then chosen (give (one (scalar_form.Bool t))) (decided t runs) else chosen (decided t runs) (give (one (scalar_form.Bool t))))

  -- a value that is passed, with the path of its place
  abbrev pub pass_value : List ℕ → Value → Run Passed
  pass_value path v = give (record { value = Some v; path = path })

  -- the argument of an input: its value, converted
  abbrev pub pass_input : Run Value → Run Passed
  pass_input o p = go_on (o p) (pass_value [])

  -- the argument of an output: its place is evaluated and checked, and the value there is copied and converted
  abbrev pub pass_output : PlaceRun → Conversion → Run Passed
  pass_output place c p = go_on (place.path p) (λ path p. held (found place.variable path p.env) (λ v p. go_on (convert c v p) (pass_value path)) p)

  -- an argument; a missing one has no value
  abbrev pub argument_step : Argument-F ArgumentRun (Run Value) StepRun (Run Value) (Run Value) LinkRun PlaceRun → ArgumentRun
  argument_step (form.Input o node) = record { target = None; run = pass_input o }
  argument_step (form.Output place c node) = record { target = Some (record { variable = place.variable; conversion = c }); run = pass_output place c }
  argument_step form.Missing = record { target = None; run = give (record { value = None; path = [] }) }

  -- a step
  abbrev pub step_step : TypedStep-F ArgumentRun (Run Value) StepRun (Run Value) (Run Value) LinkRun PlaceRun → StepRun
  step_step (form.Index e node) = index_run e node
  step_step (form.Field n) = field_run n

  -- an operand is evaluated, and its value converted
  abbrev pub operand_step : Operand-F ArgumentRun (Run Value) StepRun (Run Value) (Run Value) LinkRun PlaceRun → Run Value
  operand_step o p = go_on (o.value p) (convert o.conversion)

  -- the operand on the right is evaluated, and the value on the left converted
  abbrev pub link_step : TypedLink-F ArgumentRun (Run Value) StepRun (Run Value) (Run Value) LinkRun PlaceRun → LinkRun
  link_step l v p = go_on (l.right p) (λ w p. go_on (convert l.left v p) (λ v. operated l.operator l.kind v w))

  -- a place
  abbrev pub place_step : TypedPlace-F ArgumentRun (Run Value) StepRun (Run Value) (Run Value) LinkRun PlaceRun → PlaceRun
  place_step place = record { variable = place.variable; path = place_path place.variable place.steps }

  -- ---- statements

  -- A value is stored at a place, where one of the same shape stands. That counts its scalars.
  abbrev pub replaced : ℕ → List ℕ → Value → Value → Run End
  replaced x path v old p =
      if alike old v
      then give Normal (record { env = stored x path v p.env; turns = p.turns; spent = pay (scalars v) p.spent })
      else Err Wrong

  -- where nothing stands, nothing can be replaced
  abbrev pub store : ℕ → List ℕ → Value → Run End
  store x path v p = held (found x path p.env) (replaced x path v) p

  -- the indices of the place from the left, then the right side, converted, and then it is stored
  abbrev pub assigned : PlaceRun → Run Value → Run End
  assigned place o p = go_on (place.path p) (λ path p. go_on (o p) (store place.variable path))

  -- The function is left with a value, which is of the shape of its result. That counts its scalars.
  abbrev pub leave : Value → Run End
  leave v p = give (Left v) (paid (scalars v) p)

  -- a statement runs where the one before it ended normally
  abbrev pub unless_left : End → Run End → Run End
  unless_left Normal run p = run p
  unless_left (Left v) run p = give (Left v) p

  -- statements one after another
  abbrev pub sequence : List (Run End) → Run End
  sequence [] p = give Normal p
  sequence (r ∷ runs) p = go_on (r p) (λ end. unless_left end (sequence runs))

  -- an arm, by what stands behind it
  abbrev pub ArmRun : Type 0
  ArmRun = Run End → Run End

  -- the arms from the first, and what stands behind them
  abbrev pub arms_run : List ArmRun → Run End → Run End
  arms_run [] otherwise = otherwise
  arms_run (a ∷ arms) otherwise = a (arms_run arms otherwise)

  -- without an `else` nothing is done
  abbrev pub otherwise_run : Option (Run End) → Run End
  otherwise_run None = give Normal
  otherwise_run (Some run) = run

  -- a loop takes a turn, or traps where none is left
  abbrev pub take_turn : Node → ℕ → Run End → Env → C → Outcome End
  take_turn node zero run env spent = Err (Trapped trap.Turns node)
  take_turn node (suc turns) run env spent = run (record { env = env; turns = turns; spent = spent })

  -- A loop evaluates its test. Where it is true it takes a turn, the body runs, and it begins again. It has more rounds
  -- than turns, so it ends before its rounds do.
  abbrev pub rounds : ℕ → Node → Run Value → Run End → Run End
  rounds zero node test body p = give Normal p
  rounds (suc n) node test body p =
      go_on (test p) (chosen (λ p. take_turn node p.turns (λ p. go_on (body p) (λ end. unless_left end (rounds n node test body))) p.env p.spent) (give Normal))

  -- a loop, with one round more than turns are left
  abbrev pub loop_run : Node → Run Value → Run End → Run End
  loop_run node test body p = rounds (suc p.turns) node test body p

  -- ---- forms, in their setting

  module _ (s : Setting) where
    -- the arguments are evaluated in their order, and then the function runs
    abbrev pub call_step : TypedCall-F ArgumentRun (Run Value) StepRun (Run Value) (Run Value) LinkRun PlaceRun → Run Value
    call_step c = evaluated (λ p. go_on (listed (map (λ (a : ArgumentRun). a.run) c.arguments) p) (λ qs. held (callee_of s c.callee c.node) (called (map (size_in s.opens) c.sizes) (map (λ (a : ArgumentRun). a.target) c.arguments) qs)))

    -- an expression, by what its parts do
    abbrev pub expr_step : TypedExpr-F ArgumentRun (Run Value) StepRun (Run Value) (Run Value) LinkRun PlaceRun → Run Value
    expr_step (form.Literal x) = evaluated (give (one x))
    expr_step (form.Constant n) = evaluated (held (slice_get s.constants n) give)
    expr_step (form.Variable x) = evaluated (λ p. held (var_of p.env x) give p)
    expr_step (form.Unary op k o) = evaluated (λ p. go_on (o p) (word k (λ a. give_scalar k (operate_alone FRACTION op k a))))
    expr_step (form.Chain o links) = evaluated (λ p. go_on (o p) (linked links))
    expr_step (form.Logic l runs) = evaluated (decided (decider l) runs)
    expr_step (form.Path e steps) = λ p. go_on (e p) (steps_run steps)
    expr_step (form.Size e size) = evaluated (λ p. go_on (e p) (λ v. sized (size_in s.opens size)))
    expr_step (form.Call c) = c

    -- the runs of all forms
    abbrev pub run_fold : ExprFold ArgumentRun (Run Value) StepRun (Run Value) (Run Value) LinkRun PlaceRun
    run_fold = record { argument = argument_step; expr = expr_step; step = step_step; operand = operand_step; call = call_step; link = link_step; place = place_step }

    -- the run of an expression
    abbrev pub run_expr : TypedExpr → Run Value
    run_expr = expr_fold run_fold

    -- the run of an operand
    abbrev pub run_operand : Operand → Run Value
    run_operand = operand_fold run_fold

    -- the run of a call
    abbrev pub run_call : TypedCall → Run Value
    run_call = call_fold run_fold

    -- the run of a place
    abbrev pub run_place : TypedPlace → PlaceRun
    run_place = place_fold run_fold

    -- the elements of a brace list from the left
    abbrev pub initialiser_step : Initialiser-F (Run Value) → Run Value
    initialiser_step (initial.Value o) p = run_operand o p
    initialiser_step (initial.Elements shape runs) p = go_on (listed runs p) (λ vs. give (list vs))
    initialiser_step (initial.Fields n runs) p = go_on (listed runs p) (λ vs. give (fields vs))

    -- the run of an initialiser
    abbrev pub run_initialiser : Initialiser → Run Value
    run_initialiser = fold-Initialiser (Run Value) initialiser_step

    -- without an initialiser all scalars are zero
    abbrev pub first_value : LocalShape → Option Initialiser → Run Value
    first_value shape None = give (zero_of (struct_zeros s.structs) (map (size_in s.opens) shape.sizes) shape.base)
    first_value shape (Some i) = run_initialiser i

    -- A variable gets its first value, which is of its shape. That counts its scalars.
    abbrev pub declared : ℕ → LocalShape → Value → Run End
    declared x shape v p =
        if fits s.structs v (map (size_in s.opens) shape.sizes) (Some shape.base)
        then give Normal (record { env = slice_set p.env x (Some v); turns = p.turns; spent = pay (scalars v) p.spent })
        else Err Wrong

    -- the first value, and then it is declared
    abbrev pub run_declaration : Declaration → Run End
    run_declaration d p = go_on (first_value d.shape d.first p) (declared d.variable d.shape)

    -- the run of an assignment
    abbrev pub run_assignment : Assignment → Run End
    run_assignment a = assigned (run_place a.place) (run_operand a.value)

    -- how a `for` begins
    abbrev pub run_start : ForStart → Run End
    run_start (start.Declare d) = run_declaration d
    run_start (start.Assign a) = run_assignment a

    -- what is printed is evaluated from the left
    abbrev pub run_item : PrintItem → Run End
    run_item (item.Text text) p = give Normal p
    run_item (item.Value e) p = go_on (run_expr e p) (λ v. give Normal)

    -- all that is printed
    abbrev pub run_items : List PrintItem → Run End
    run_items [] p = give Normal p
    run_items (i ∷ items) p = go_on (run_item i p) (λ end. run_items items)

    -- a return without a value gives nothing
    abbrev pub left_value : Option Operand → Run Value
    left_value None = give nothing
    left_value (Some o) = run_operand o

    -- the test of an arm decides between its body and what stands behind it
    abbrev pub arm_step : Arm-F (Run End) ArmRun → ArmRun
    arm_step a otherwise = visited (λ p. go_on (run_operand a.test p) (chosen a.body otherwise))

    -- a statement, by what its parts do
    abbrev pub statement_step : TypedStatement-F (Run End) ArmRun → Run End
    statement_step Empty = visited (give Normal)
    statement_step (Block runs) = visited (sequence runs)
    statement_step (Declare d) = visited (run_declaration d)
    statement_step (Assign a) = visited (run_assignment a)
    statement_step (Call c) = visited (λ p. go_on (run_call c p) (λ v. give Normal))
    statement_step (If arms otherwise) = visited (arms_run arms (otherwise_run otherwise))
    statement_step (While test body node) = visited (loop_run node (run_operand test) body)
    statement_step (For first test next body node) =
        visited (sequence (visited (run_start first) ∷ loop_run node (run_operand test) (sequence (body ∷ visited (run_assignment next) ∷ [])) ∷ []))
    statement_step (Return o) = visited (λ p. go_on (left_value o p) leave)
    statement_step (Print items) = visited (run_items items)

    -- the run of a statement
    abbrev pub run_statement : TypedStatement → Run End
    run_statement = fold-TypedStatement (Run End) ArmRun statement_step arm_step

  -- ---- functions and entries

  -- only a function that gives no value may end without a return
  abbrev pub fallen : Option Shape → Pixel → Result Came Fault
  fallen None p = Ok (record { value = nothing; frame = p.env; turns = p.turns; spent = p.spent })
  fallen (Some shape) p = Err Wrong

  -- the value is of the shape of the result
  abbrev pub end_of : List StructForm → Option Shape → End → Pixel → Result Came Fault
  end_of structs result Normal p = fallen result p
  end_of structs result (Left v) p =
      if fits structs v (whole_result result).sizes (whole_result result).base
      then Ok (record { value = v; frame = p.env; turns = p.turns; spent = p.spent })
      else Err Wrong

  -- a function ends as its body does
  abbrev pub ended : List StructForm → Option Shape → Outcome End → Result Came Fault
  ended structs result (Ok got) = end_of structs result got.value got.after
  ended structs result (Err fault) = Err fault

  -- the shapes of the parameters
  abbrev pub parameter_shapes : List Parameter → List Shape
  parameter_shapes = map (λ (q : Parameter). q.shape)

  -- a function, by those defined before it: the parameters begin as the arguments, and no other variable is declared
  abbrev pub function_run : List StructForm → List Value → List Called → Function → FunctionRun
  function_run structs constants functions f opens frame turns spent =
      if takes structs (parameter_shapes f.parameters) opens frame
      then ended structs f.result (run_statement (record { structs = structs; constants = constants; functions = functions; opens = opens }) f.body (record { env = frame ++ replicate f.variables None; turns = turns; spent = spent }))
      else Err Wrong

  -- a function as it can be called
  abbrev pub called_of : List StructForm → List Value → List Called → Function → Called
  called_of structs constants functions f = record { defaults = map (λ (q : Parameter). q.default) f.parameters; run = function_run structs constants functions f }

  -- each function by those before it
  abbrev pub meanings : List StructForm → List Value → List Called → List Function → List Called
  meanings structs constants before [] = before
  meanings structs constants before (f ∷ functions) = meanings structs constants (before ++ called_of structs constants before f ∷ []) functions

  -- the definitions so far, as functions and initialisers see them, with these open sizes
  abbrev pub setting_of : Defined → List ℕ → Setting
  setting_of d opens = record { structs = d.structs; constants = constant_values d; functions = meanings d.structs (constant_values d) [] d.functions; opens = opens }

  -- The value of an initialiser outside functions: it sees the definitions so far and no variables.
  abbrev pub initial_value : Defined → Initialiser → ℕ → C → Outcome Value
  initial_value d i turns spent = run_initialiser (setting_of d []) i (record { env = []; turns = turns; spent = spent })

  -- what the run of an entry gives: the values of its outputs in the order of the parameters, the turns that are left, the count
  pub record Ended : Type 0 where
    pub outputs : List Value
    pub turns : ℕ
    pub spent : C

  -- the outputs, where all are there
  abbrev pub ended_with : ℕ → C → Option (List Value) → Result Ended Fault
  ended_with turns spent None = Err Wrong
  ended_with turns spent (Some outputs) = Ok (record { outputs = outputs; turns = turns; spent = spent })

  -- the outputs that an entry's function leaves
  abbrev pub entry_came : List Parameter → Result Came Fault → Result Ended Fault
  entry_came parameters (Ok came) = ended_with came.turns came.spent (outputs_of parameters came.frame)
  entry_came parameters (Err fault) = Err fault

  -- the run of a function that is there
  abbrev pub run_of : Option Called → FunctionRun
  run_of None opens frame turns spent = Err Wrong
  run_of (Some f) opens frame turns spent = f.run opens frame turns spent

  -- an entry from its parameters at the beginning
  abbrev pub entry_frame : List Called → ℕ → List Parameter → ℕ → C → Option Env → Result Ended Fault
  entry_frame functions entry parameters turns spent None = Err Wrong
  entry_frame functions entry parameters turns spent (Some frame) =
      entry_came parameters (run_of (slice_get functions entry) (open_sizes (parameter_shapes parameters) frame) frame turns (pay (first_scalars parameters frame) spent))

  -- an entry that is there; the constants are counted once
  abbrev pub entry_of : Defined → ℕ → Option Function → List Value → ℕ → C → Result Ended Fault
  entry_of d entry None inputs turns spent = Err Wrong
  entry_of d entry (Some f) inputs turns spent =
      entry_frame (meanings d.structs (constant_values d) [] d.functions) entry f.parameters turns (pay (sum_by scalars (constant_values d)) spent) (first_frame d.structs f.parameters inputs)

  -- The run of an entry, which may be any function, from the values of its inputs. Its outputs begin at their defaults, or at
  -- zero, and count their scalars, and so do the constants of the program.
  abbrev pub call_run : Defined → ℕ → List Value → ℕ → C → Result Ended Fault
  call_run d entry inputs turns spent = entry_of d entry (slice_get d.functions entry) inputs turns spent
