-- What is the same in two runs of one program: what does not vary. And what holds of a place of varying control.
use Rattle.std.specs.Prelude.{◌≡◌, ℕ, List, [], ◌∷◌, length, Some, Result, Ok, Err, Bool, true, false, ◌&&◌, slice_get}
use Rattle.ctl_types.specs.declared.value.Value.{Value}
use Rattle.ctl_types.specs.declared.expression.TypedExpr.{TypedExpr}
use Rattle.ctl_types.specs.declared.statement.TypedStatement.{TypedStatement}
use Rattle.ctl_types.specs.declared.program.Parameter.{Parameter}
use Rattle.ctl_types.specs.declared.program.Function.{Function}
use Rattle.ctl_types.specs.Values.{Env, var_of}
use Rattle.ctl_types.specs.Definitions.{Defined}
use Rattle.ctl_types.specs.Scoping.{IsDefined, is_entry}
use Rattle.ctl_types.specs.Run.{Fault, Pixel, Outcome, Setting, run_expr, run_statement, Ended, call_run}
use Rattle.level_rules.specs.declared.instance.Instance.{Instance}
use Rattle.level_rules.specs.declared.instance.Holder.TheVariants.{Variable}
use Rattle.level_rules.specs.Rules.{VaryingSet, Known, Around, look_expr, walk_statement}
use Rattle.level_rules.specs.Levels.{AllIn, AreLevels, is_uniform, entry_instance}

-- the variables that do not vary are the same
pub record Alike (set : VaryingSet) (a b : Env) : Type 0 where
  pub long : length a ≡ length b
  pub at : (x : ℕ) → set (Variable x) ≡ false → var_of a x ≡ var_of b x

-- the first where this is true, else the second
abbrev pub Either : Bool → Type 0 → Type 0 → Type 0
Either true A B = A
Either false A B = B

-- the inputs that are marked uniform are the same: there is a value for each parameter that is no output
abbrev pub InputsAgree : List Parameter → List Value → List Value → Type 0
InputsAgree [] [] [] = Unit {0}
InputsAgree [] [] (v ∷ vs) = ⊥
InputsAgree [] (u ∷ us) vs = ⊥
InputsAgree (q ∷ parameters) [] [] = (q.is_output ≡ true) × InputsAgree parameters [] []
InputsAgree (q ∷ parameters) [] (v ∷ vs) = ⊥
InputsAgree (q ∷ parameters) (u ∷ us) [] = ⊥
InputsAgree (q ∷ parameters) (u ∷ us) (v ∷ vs) =
    Either q.is_output (InputsAgree parameters (u ∷ us) (v ∷ vs)) ((is_uniform q.level ≡ true → u ≡ v) × InputsAgree parameters us vs)

-- the outputs that are marked uniform are the same: there is a value for each parameter that is an output
abbrev pub OutputsAgree : List Parameter → List Value → List Value → Type 0
OutputsAgree [] [] [] = Unit {0}
OutputsAgree [] [] (v ∷ vs) = ⊥
OutputsAgree [] (u ∷ us) vs = ⊥
OutputsAgree (q ∷ parameters) [] [] = (q.is_output ≡ false) × OutputsAgree parameters [] []
OutputsAgree (q ∷ parameters) [] (v ∷ vs) = ⊥
OutputsAgree (q ∷ parameters) (u ∷ us) [] = ⊥
OutputsAgree (q ∷ parameters) (u ∷ us) (v ∷ vs) =
    Either q.is_output ((is_uniform q.level ≡ true → u ≡ v) × OutputsAgree parameters us vs) (OutputsAgree parameters (u ∷ us) (v ∷ vs))

-- no output that is marked uniform varies
abbrev pub Accepts : Function → VaryingSet → Type 0
Accepts f set = (k : ℕ) (q : Parameter) → slice_get f.parameters k ≡ Some q → (q.is_output && is_uniform q.level) ≡ true → set (Variable k) ≡ false

module _ (C : Type 0) (pay : ℕ → C → C) where
  -- where both runs of an entry give values, the outputs are the same that are marked uniform
  abbrev pub EndsAlike : List Parameter → Result (Ended C pay) Fault → Result (Ended C pay) Fault → Type 0
  EndsAlike parameters (Ok a) (Ok b) = OutputsAgree parameters a.outputs b.outputs
  EndsAlike parameters (Ok a) (Err fault) = Unit {0}
  EndsAlike parameters (Err fault) ended = Unit {0}

  -- The law of uniform values: of an entry none of whose uniform outputs varies, two runs from inputs that agree where they
  -- are marked uniform agree on the uniform outputs, with any turns.
  abbrev pub UniformValues : Type 0
  UniformValues = (d : Defined) → IsDefined d → (known : Known) → AreLevels d.functions known → (entry : ℕ) (f : Function) → slice_get d.functions entry ≡ Some f → is_entry (Some f) ≡ true → Accepts f (known (entry_instance d.functions entry)) →
      (inputs others : List Value) → InputsAgree f.parameters inputs others → (turns more : ℕ) (spent paid : C) →
      EndsAlike f.parameters (call_run C pay d entry inputs turns spent) (call_run C pay d entry others more paid)

  -- the variables that do not vary stay where a run gives something
  abbrev pub Stays : {V : Type 0} → VaryingSet → Env → Outcome C pay V → Type 0
  Stays set env (Ok got) = Alike set env got.after.env
  Stays set env (Err fault) = Unit {0}

  -- A place of varying control assigns nothing that does not vary: where a set has what the rules put into it there, a run
  -- leaves all else as it was. Of the functions that are called nothing need be known.
  pub record VaryingPlaces : Type 0 where
    pub statement : (known : Known) (around : Around) (e : TypedStatement) → AllIn around.set (walk_statement known e around true).found.puts → (s : Setting C pay) (p : Pixel C pay) → Stays around.set p.env (run_statement C pay s e p)
    pub expr : (known : Known) (around : Around) (e : TypedExpr) → AllIn around.set (look_expr known e around true).found.puts → (s : Setting C pay) (p : Pixel C pay) → Stays around.set p.env (run_expr C pay s e p)

-- all of these instances have varying control
abbrev pub AllVary : List Instance → Type 0
AllVary [] = Unit {0}
AllVary (i ∷ instances) = (i.control ≡ true) × AllVary instances

-- what is entered at a place of varying control has varying control
abbrev pub EntersVarying : Type 0
EntersVarying = (known : Known) (s : Around) (e : TypedStatement) → AllVary (walk_statement known e s true).found.calls
