-- What is found in an instance by the rows before its function is what the rules find in it.
use Rattle.std.proofs.Common.{◌≡◌, ℕ, List, Option, Some, None, Bool, slice_get, take, ap, ◌∙◌, refl}
use Rattle.ctl_types.specs.declared.program.Function.{Function}
use Rattle.level_rules.specs.declared.instance.Instance.{Instance}
use Rattle.level_rules.specs.Rules.{VaryingSet, Known, Around}
use Rattle.level_rules.specs.Levels.{before, around, found_of, found_in, uniform_marks}
use Rattle.level_rules.specs.Rows.{in_row, tells}
use Rattle.level_sets.specs.Scene.{SceneForm, known_of, around_of}
use Rattle.level_table.specs.Known.{found_at}
use Rattle.level_table.proofs.Rows.{before_tells}

at_is : (functions : List Function) (known : Known) (i : Instance) (o : Option Function) → found_at (before i.function known) o (around functions i (known i)) i.control ≡ found_of known functions o i
at_is functions known i None = refl
at_is functions known i (Some f) = refl

pub found_is : (functions : List Function) (rows : List (List (List Bool))) (i : Instance) (row : List Bool) (uniforms : List (List Bool)) (s : SceneForm) (o : Option Function) → s ≡ record { rows = take i.function rows; row = row; opens = i.sizes; uniforms = uniforms } → o ≡ slice_get functions i.function → in_row row ≡ tells rows i → uniforms ≡ uniform_marks functions → found_at (known_of s) o (around_of s) i.control ≡ found_in functions (tells rows) i
found_is functions rows i row uniforms s o es eo er eu =
    ap (λ (s : SceneForm). found_at (known_of s) o (around_of s) i.control) es
    ∙ ap (λ (k : Known). found_at k o (record { set = in_row row; opens = i.sizes; uniforms = uniforms }) i.control) (before_tells rows i.function)
    ∙ ap (λ (set : VaryingSet). found_at (before i.function (tells rows)) o (record { set = set; opens = i.sizes; uniforms = uniforms }) i.control) er
    ∙ ap (λ (u : List (List Bool)). found_at (before i.function (tells rows)) o (record { set = tells rows i; opens = i.sizes; uniforms = u }) i.control) eu
    ∙ ap (λ (o : Option Function). found_at (before i.function (tells rows)) o (around functions i (tells rows i)) i.control) eo
    ∙ at_is functions (tells rows) i (slice_get functions i.function)

abbrev scene_of : List (List (List Bool)) → List Bool → List ℕ → List (List Bool) → SceneForm
scene_of r row opens u = record { rows = r; row = row; opens = opens; uniforms = u }

pub scene_is : (s : SceneForm) (r r' : List (List (List Bool))) (row : List Bool) (opens opens' : List ℕ) (u : List (List Bool)) → s ≡ record { rows = r; row = row; opens = opens; uniforms = u } → r ≡ r' → opens ≡ opens' → s ≡ record { rows = r'; row = row; opens = opens'; uniforms = u }
scene_is s r r' row opens opens' u e er eo =
    e ∙ ap (λ (r : List (List (List Bool))). scene_of r row opens u) er
    ∙ ap (λ (opens : List ℕ). scene_of r' row opens u) eo
