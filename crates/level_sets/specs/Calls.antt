-- A call by what was seen of its arguments: for each the variable of its place, and whether its value or an index varies.
use Rattle.std.specs.Prelude.{◌≡◌, ℕ, ◌+◌, List, [], ◌∷◌, map, Bool, false, ◌||◌, get_or, Result, Ok, Err}
use Rattle.ctl_types.specs.declared.expression.Callee.{Callee}
use Rattle.ctl_types.specs.declared.expression.Callee.TheVariants as callee
use Rattle.ctl_types.specs.declared.expression.Argument.{Argument}
use Rattle.ctl_types.specs.declared.expression.TypedCall.{TypedCall, out-TypedCall}
use Rattle.ctl_types.specs.declared.shape.Size.{Size}
use Rattle.ctl_types.specs.Shapes.{size_in}
use Rattle.ctl_types.specs.Folds.{argument_fold}
use Rattle.level_rules.specs.declared.instance.Instance.{Instance}
use Rattle.level_rules.specs.declared.instance.Holder.TheVariants.{Result as ResultHolder, Variable}
use Rattle.level_rules.specs.declared.found.Found.{Found}
use Rattle.level_rules.specs.Rules.{Known, Around, Seen, ArgumentLook, look_fold, nothing_found, both_found, call_found, output_found, of_input, any, instance_of, levels_of, arguments_found}
use Rattle.level_sets.specs.declared.calls.Passed.{Passed}
use Rattle.level_sets.specs.Scene.{SceneForm, known_of}

-- an argument as the rules look at it
abbrev pub argument_look : SceneForm → Argument → ArgumentLook
argument_look s = argument_fold (look_fold (known_of s))

-- the arguments
abbrev pub arguments_of : SceneForm → List Argument → List ArgumentLook
arguments_of s = map (argument_look s)

-- whether the values of arguments, or indices of their places, vary
abbrev pub looks_of : List ArgumentLook → Around → Bool → List Bool
looks_of [] s c = []
looks_of (a ∷ arguments) s c = (a.look s c).varies ∷ looks_of arguments s c

-- the outputs of these arguments are copied back, the first being that of parameter k
abbrev pub outputs_seen : (ℕ → Bool) → ℕ → List ArgumentLook → List Bool → Bool → Found
outputs_seen varies k [] looks c = nothing_found
outputs_seen varies k (a ∷ arguments) looks c = both_found (output_found (c || (varies k || get_or looks k false)) a.output) (outputs_seen varies (k + 1) arguments looks c)

-- one of these arguments varies that is no output, the first being number k
abbrev pub inputs_seen : ℕ → List ArgumentLook → List Bool → Bool
inputs_seen k [] looks = false
inputs_seen k (a ∷ arguments) looks = of_input a.output (get_or looks k false) || inputs_seen (k + 1) arguments looks

-- the call of an instance
abbrev pub instance_seen : Known → Instance → List ArgumentLook → List Bool → Bool → Seen
instance_seen known i arguments looks c = record { varies = any i.levels || known i ResultHolder; found = both_found (call_found i) (outputs_seen (λ k. known i (Variable k)) 0 arguments looks c) }

-- the call of a function of the library
abbrev pub library_seen : List ArgumentLook → Passed → Bool → Seen
library_seen arguments passed c = record { varies = any passed.levels; found = outputs_seen (λ k. inputs_seen 0 arguments passed.looks) 0 arguments passed.looks c }

-- ---- a call as it stands

-- what is called
abbrev pub callee_of : TypedCall → Callee
callee_of c = (out-TypedCall c).callee

-- the sizes for its open extents
abbrev pub sizes_of : TypedCall → List Size
sizes_of c = (out-TypedCall c).sizes

-- its arguments
abbrev pub arguments_in : TypedCall → List Argument
arguments_in c = (out-TypedCall c).arguments

-- what is called
abbrev pub callee_seen : SceneForm → Callee → List Size → List ArgumentLook → Passed → Bool → Seen
callee_seen s (callee.Program n) sizes arguments passed c = instance_seen (known_of s) (instance_of n (map (size_in s.opens) sizes) passed.levels c) arguments passed.looks c
callee_seen s (callee.Library id) sizes arguments passed c = library_seen arguments passed c

-- which parameters of what is called are marked uniform
abbrev pub uniform_of : SceneForm → Callee → List Bool
uniform_of s (callee.Program n) = get_or s.uniforms n []
uniform_of s (callee.Library id) = []

-- the arguments were looked at
abbrev pub Passes : Found → Found → List Bool → List ArgumentLook → Around → Bool → {E : Type 0} → Result Passed E → Type 0
Passes old new uniform arguments s c (Ok passed) = (passed.levels ≡ levels_of arguments s c) × (passed.looks ≡ looks_of arguments s c) × (new ≡ both_found old (arguments_found uniform 0 arguments s c))
Passes old new uniform arguments s c (Err e) = Unit {0}
