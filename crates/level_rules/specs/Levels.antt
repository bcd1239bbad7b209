-- What varies in each instance: the least set that meets the rules, by what varies in the instances of the functions
-- before.
use Rattle.std.specs.Prelude.{◌≡◌, ◌<◌, ℕ, ◌+◌, List, [], ◌∷◌, ◌++◌, map, length, get_or, slice_get, Option, Some, None, Bool, true, false, not, ◌&&◌, if◌then◌else◌, nat_lt}
use Rattle.ctl_base.specs.declared.kind.Node.{Node}
use Rattle.ctl_tree.specs.declared.definition.Level.{Level}
use Rattle.ctl_tree.specs.declared.definition.Level.TheVariants.{Uniform, Varying}
use Rattle.ctl_types.specs.declared.program.Parameter.{Parameter}
use Rattle.ctl_types.specs.declared.program.Function.{Function}
use Rattle.level_rules.specs.declared.instance.Instance.{Instance}
use Rattle.level_rules.specs.declared.instance.Holder.{Holder}
use Rattle.level_rules.specs.declared.instance.Holder.TheVariants.{Variable}
use Rattle.level_rules.specs.declared.found.Found.{Found}
use Rattle.level_rules.specs.Rules.{VaryingSet, Known, Around, nothing_found, one_if, walk_statement}

-- ---- functions

-- this mark is `uniform`
abbrev pub is_uniform : Option Level → Bool
is_uniform None = false
is_uniform (Some Uniform) = true
is_uniform (Some Varying) = false

-- which of these parameters are marked uniform
abbrev pub uniform_in : List Parameter → List Bool
uniform_in = map (λ (q : Parameter). is_uniform q.level)

-- which parameters of each function are marked uniform
abbrev pub uniform_marks : List Function → List (List Bool)
uniform_marks = map (λ (f : Function). uniform_in f.parameters)

-- ---- the least set

-- what stands around the body of an instance in which this varies
abbrev pub around : List Function → Instance → VaryingSet → Around
around functions i set = record { set = set; opens = i.sizes; uniforms = uniform_marks functions }

-- what the rules find in the body of an instance, by what varies in it
abbrev pub body_found : Known → List Function → Function → Instance → VaryingSet → Found
body_found known functions f i set = (walk_statement known f.body (around functions i set) i.control).found

-- all of these are in the set
abbrev pub AllIn : VaryingSet → List Holder → Type 0
AllIn set [] = Unit {0}
AllIn set (h ∷ holders) = (set h ≡ true) × AllIn set holders

-- a set meets the rules: it has the parameters that vary, and what the rules put into it by what it has
pub record Meets (known : Known) (functions : List Function) (f : Function) (i : Instance) (set : VaryingSet) : Type 0 where
  pub begins : (k : ℕ) → k < length f.parameters → get_or i.levels k false ≡ true → set (Variable k) ≡ true
  pub puts : AllIn set (body_found known functions f i set).puts

-- what one set has, the other has
abbrev pub Below : VaryingSet → VaryingSet → Type 0
Below set other = (h : Holder) → set h ≡ true → other h ≡ true

-- the least set that meets the rules: each that does has it all
pub record IsLeast (known : Known) (functions : List Function) (f : Function) (i : Instance) (set : VaryingSet) : Type 0 where
  pub meets : Meets known functions f i set
  pub least : (other : VaryingSet) → Meets known functions f i other → Below set other

-- what is known of the functions before the nth
abbrev pub before : ℕ → Known → Known
before n known i = if nat_lt i.function n then known i else (λ h. false)

-- What varies in each instance of these functions is the least set that meets the rules, by what varies in the instances
-- of functions before its own. Nothing else is known but this, so there is one such knowledge of them.
abbrev pub AreLevels : List Function → Known → Type 0
AreLevels functions known = (n : ℕ) (f : Function) → slice_get functions n ≡ Some f → (i : Instance) → i.function ≡ n → IsLeast (before n known) functions f i (known i)

-- two such agree on every instance of these functions
abbrev pub LevelsAreOne : Type 0
LevelsAreOne = (functions : List Function) (known other : Known) → AreLevels functions known → AreLevels functions other → (i : Instance) → i.function < length functions → known i ≡ other i

-- ---- what is in an instance

-- what is found in the body of a function that is there
abbrev pub found_of : Known → List Function → Option Function → Instance → Found
found_of known functions None i = nothing_found
found_of known functions (Some f) i = body_found (before i.function known) functions f i (known i)

-- what is found in an instance by what varies in it
abbrev pub found_in : List Function → Known → Instance → Found
found_in functions known i = found_of known functions (slice_get functions i.function) i

-- the nodes of the outputs that are marked uniform and vary, the first of these parameters being number k
abbrev pub output_faults : VaryingSet → ℕ → List Parameter → List Node
output_faults set k [] = []
output_faults set k (q ∷ parameters) = one_if ((q.is_output && is_uniform q.level) && set (Variable k)) q.node ++ output_faults set (k + 1) parameters

-- the outputs of a function that is there
abbrev pub own_faults : VaryingSet → Option Function → List Node
own_faults set None = []
own_faults set (Some f) = output_faults set 0 f.parameters

-- where something varies that is to be uniform: its own outputs in their order, and then arguments in source order
abbrev pub faults_in : List Function → Known → Instance → List Node
faults_in functions known i = own_faults (known i) (slice_get functions i.function) ++ (found_in functions known i).faults

-- the instances that an instance calls, in source order
abbrev pub calls_in : List Function → Known → Instance → List Instance
calls_in functions known i = (found_in functions known i).calls

-- ---- the entry

-- the parameters of a function that is there
abbrev pub parameters_of : Option Function → List Parameter
parameters_of None = []
parameters_of (Some f) = f.parameters

-- The entry has uniform control. Its parameters vary that are not marked uniform. It has no open sizes.
abbrev pub entry_instance : List Function → ℕ → Instance
entry_instance functions entry = record { function = entry; sizes = []; levels = map (λ (q : Parameter). not (is_uniform q.level)) (parameters_of (slice_get functions entry)); control = false }
