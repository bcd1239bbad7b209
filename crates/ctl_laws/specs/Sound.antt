-- What is well typed is never wrong.
use Rattle.std.specs.Prelude.{take, length, suc, ◌≡◌, ℕ, ◌+◌, ◌≤◌, List, [], ◌∷◌, map, Option, Some, None, is_some, Result, Ok, Err, Bool, true, false, ◌&&◌, ◌||◌, ◌==◌, if◌then◌else◌, slice_get}
use Rattle.ctl_base.specs.declared.limits.TheConstants.{SCALARS, CALL_DEPTH}
use Rattle.ctl_types.specs.declared.shape.Base.{Base}
use Rattle.ctl_types.specs.declared.value.Value.{Value}
use Rattle.ctl_types.specs.declared.program.Struct.{Struct as StructForm}
use Rattle.ctl_types.specs.declared.program.Parameter.{Parameter}
use Rattle.ctl_types.specs.declared.program.Function.{Function}
use Rattle.ctl_types.specs.Shapes.{Whole, whole, size_in, struct_counts, local, extents, base_of, open_count}
use Rattle.ctl_types.specs.Values.{Env, list, sizes_fit, Fits, scalars, sizes_at}
use Rattle.ctl_types.specs.Definitions.{Defined, constant_values}
use Rattle.ctl_types.specs.Scoping.{IsDefined, default_stands, tokens_of, signatures_after, scene_before, scene_of}
use Rattle.ctl_types.specs.Typing.{Variable, Variables, Scene, expr_type, initialiser_type, first_is}
use Rattle.ctl_types.specs.declared.expression.TypedExpr.{TypedExpr}
use Rattle.ctl_types.specs.declared.statement.Initialiser.{Initialiser}
use Rattle.ctl_types.specs.declared.shape.Size.{Size}
use Rattle.ctl_types.specs.declared.program.Constant.{Constant}
use Rattle.ctl_types.specs.Run.{Fault, Trapped, Wrong, Pixel, Outcome, Setting, run_expr, initial_value, meanings, Ended, first_output, call_run}

-- a value of a shape, within the limit of scalars
abbrev pub Of : List StructForm → Whole → Value → Type 0
Of structs w v = Fits structs w v × (scalars v ≤ SCALARS)

-- ---- variables

abbrev pub variable_shape : List ℕ → Variable → Whole
variable_shape opens v = whole opens v.shape.sizes (Some v.shape.base)

-- a variable that is declared has a value of its shape
abbrev pub Holds : List StructForm → List ℕ → Option Variable → Option Value → Type 0
Holds structs opens None v = Unit {0}
Holds structs opens (Some x) None = ⊥
Holds structs opens (Some x) (Some v) = Of structs (variable_shape opens x) v

abbrev pub Stands : List StructForm → List ℕ → Variables → Env → Type 0
Stands structs opens [] [] = Unit {0}
Stands structs opens [] (v ∷ env) = ⊥
Stands structs opens (h ∷ scope) [] = ⊥
Stands structs opens (h ∷ scope) (v ∷ env) = Holds structs opens h v × Stands structs opens scope env

-- ---- entries

-- an output has a first value: it has a default, or no open size
abbrev pub has_first : Parameter → Bool
has_first q = is_some q.default || open_count (extents q.shape) == 0

-- there is a value for each input, of its shape and within the limits, and each output has a first value
abbrev pub inputs_fit : List StructForm → List Parameter → List Value → Bool
inputs_fit structs [] [] = true
inputs_fit structs [] (v ∷ inputs) = false
inputs_fit structs (q ∷ parameters) [] = q.is_output && (has_first q && inputs_fit structs parameters [])
inputs_fit structs (q ∷ parameters) (v ∷ inputs) =
    if q.is_output then has_first q && inputs_fit structs parameters (v ∷ inputs)
    else default_stands structs q.shape (Some v) && inputs_fit structs parameters inputs

-- the shape of an output: its open sizes are those of its first value
abbrev pub output_shape : List StructForm → Parameter → Whole
output_shape structs q = whole (sizes_at (extents q.shape) (Some (first_output structs q))) (local 0 q.shape).sizes (Some (base_of q.shape))

abbrev pub outputs_among : List Parameter → List Parameter
outputs_among [] = []
outputs_among (q ∷ parameters) = if q.is_output then q ∷ outputs_among parameters else outputs_among parameters

abbrev pub OutputsFit : List StructForm → List Parameter → List Value → Type 0
OutputsFit structs [] [] = Unit {0}
OutputsFit structs [] (v ∷ outputs) = ⊥
OutputsFit structs (q ∷ parameters) [] = ⊥
OutputsFit structs (q ∷ parameters) (v ∷ outputs) = Of structs (output_shape structs q) v × OutputsFit structs parameters outputs

module _ (C : Type 0) (pay : ℕ → C → C) where
  -- the run of an entry is not Wrong, and the values of its outputs are of their shapes
  abbrev pub EndsWell : List StructForm → Function → Result (Ended C pay) Fault → Type 0
  EndsWell structs f (Ok ended) = OutputsFit structs (outputs_among f.parameters) ended.outputs
  EndsWell structs f (Err (Trapped kind node)) = Unit {0}
  EndsWell structs f (Err Wrong) = ⊥

  abbrev pub EntriesEndWell : Type 0
  EntriesEndWell = (d : Defined) → IsDefined d → (entry : ℕ) (f : Function) → slice_get d.functions entry ≡ Some f → (inputs : List Value) → inputs_fit d.structs f.parameters inputs ≡ true → (turns : ℕ) (spent : C) → EndsWell d.structs f (call_run C pay d entry inputs turns spent)

-- ---- forms within

-- what is in the range of the first k functions: they may be called, and there are n open sizes
abbrev pub scene_at : Defined → ℕ → ℕ → Scene
scene_at d k n = record { tokens = tokens_of d.units; structs = d.structs; counts = struct_counts d.structs; constants = map (λ (c : Constant). c.shape) d.constants; functions = signatures_after (scene_before d) (take k d.functions); too_deep = suc CALL_DEPTH; opens = n }

module _ (C : Type 0) (pay : ℕ → C → C) where
  -- a run is not Wrong, its value is of a shape, and the variables keep theirs
  abbrev pub GivesWell : List StructForm → List ℕ → Variables → Whole → Outcome C pay Value → Type 0
  GivesWell structs opens scope w (Ok got) = Stands structs opens scope got.after.env × Fits structs w got.value
  GivesWell structs opens scope w (Err (Trapped kind node)) = Unit {0}
  GivesWell structs opens scope w (Err Wrong) = ⊥

  -- the functions that stand before, with these open sizes
  abbrev pub setting_at : Defined → ℕ → List ℕ → Setting C pay
  setting_at d k opens = record { structs = d.structs; constants = constant_values d; functions = meanings C pay d.structs (constant_values d) [] (take k d.functions); opens = opens }

  -- a well typed expression, where the first k functions may be called, and variables of these shapes stand
  abbrev pub ExpressionsGiveWell : Type 0
  ExpressionsGiveWell = (d : Defined) → IsDefined d → (k : ℕ) (opens : List ℕ) (scope : Variables) (e : TypedExpr) (p : Pixel C pay) → sizes_fit opens ≡ true → Stands d.structs opens scope p.env → (expr_type (scene_at d k (length opens)) scope e).well ≡ true → GivesWell d.structs opens scope (whole opens (expr_type (scene_at d k (length opens)) scope e).sizes (expr_type (scene_at d k (length opens)) scope e).base) (run_expr C pay (setting_at d k opens) e p)

  -- a well typed initialiser outside functions
  abbrev pub InitialisersGiveWell : Type 0
  InitialisersGiveWell = (d : Defined) → IsDefined d → (i : Initialiser) (turns : ℕ) (spent : C) → (initialiser_type (scene_of d) [] i).well ≡ true → GivesWell d.structs [] [] (whole [] (initialiser_type (scene_of d) [] i).sizes (initialiser_type (scene_of d) [] i).base) (initial_value C pay d i turns spent)

-- a value of an array's shape has as many elements as its static size says
abbrev pub SizeIsLength : Type 0
SizeIsLength = (structs : List StructForm) (opens : List ℕ) (size : Size) (sizes : List Size) (base : Option Base) (v : Value) → first_is size sizes ≡ true → Fits structs (whole opens sizes base) v → (vs : List Value) × (v ≡ list vs) × (length vs ≡ size_in opens size)
