-- Rows of what varies in a function: that of varying control, and that of each parameter that varies alone. Each rule has
-- one premise, so the union of the rows of an instance's control and parameters is the least set of the instance.
use Rattle.std.specs.Prelude.{◌≡◌, ℕ, ◌+◌, List, [], ◌∷◌, length, take, get_or, slice_get, Some, Bool, true, false, ◌&&◌, ◌||◌}
use Rattle.ctl_types.specs.declared.statement.TypedStatement.{TypedStatement}
use Rattle.ctl_types.specs.declared.program.Function.{Function}
use Rattle.level_rules.specs.declared.instance.Holder.{Holder}
use Rattle.level_rules.specs.declared.instance.Holder.TheVariants.{Result, Variable}
use Rattle.level_rules.specs.Rules.{VaryingSet, Known, Around, walk_statement}
use Rattle.level_rules.specs.Levels.{AllIn, Below, AreLevels}

-- the place of a holder in a row: first the result, then the variables
abbrev pub mark_of : Holder → ℕ
mark_of Result = 0
mark_of (Variable x) = x + 1

-- what a row has
abbrev pub in_row : List Bool → VaryingSet
in_row row h = get_or row (mark_of h) false

-- the rows that are picked, together
abbrev pub pick : List Bool → List (List Bool) → VaryingSet
pick [] rows h = false
pick (b ∷ bits) [] h = false
pick (b ∷ bits) (row ∷ rows) h = (b && in_row row h) || pick bits rows h

-- what the rows of each function tell of an instance: the row of its control and those of its parameters, where they vary
abbrev pub tells : List (List (List Bool)) → Known
tells rows i = pick (i.control ∷ i.levels) (get_or rows i.function [])

-- a set alone
abbrev pub bare : VaryingSet → Around
bare set = record { set = set; opens = []; uniforms = [] }

-- what the rules put into the set in a body
abbrev pub puts : Known → TypedStatement → Around → Bool → List Holder
puts known body s c = (walk_statement known body s c).found.puts

-- the row of varying control: the least that meets the rules there
pub record IsControlRow (known : Known) (f : Function) (row : List Bool) : Type 0 where
  pub meets : AllIn (in_row row) (puts known f.body (bare (in_row row)) true)
  pub least : (other : VaryingSet) → AllIn other (puts known f.body (bare other) true) → Below (in_row row) other

-- the row of parameter k: the least that has it and meets the rules at uniform control
pub record IsRow (known : Known) (f : Function) (k : ℕ) (row : List Bool) : Type 0 where
  pub begins : in_row row (Variable k) ≡ true
  pub meets : AllIn (in_row row) (puts known f.body (bare (in_row row)) false)
  pub least : (other : VaryingSet) → other (Variable k) ≡ true → AllIn other (puts known f.body (bare other) false) → Below (in_row row) other

-- the rows of the parameters from the kth on
abbrev pub AreRows : Known → Function → ℕ → List (List Bool) → Type 0
AreRows known f k [] = Unit {0}
AreRows known f k (row ∷ rows) = IsRow known f k row × AreRows known f (k + 1) rows

-- the row of varying control, and one for each parameter
abbrev pub HasRows : Known → Function → List (List Bool) → Type 0
HasRows known f [] = ⊥
HasRows known f (first ∷ rows) = IsControlRow known f first × AreRows known f 0 rows × (length rows ≡ length f.parameters)

-- each function has its rows, by those of the functions before it
abbrev pub HaveRows : List Function → List (List (List Bool)) → Type 0
HaveRows functions rows = (n : ℕ) (f : Function) → slice_get functions n ≡ Some f → HasRows (tells (take n rows)) f (get_or rows n [])

-- the rows of all functions tell what varies in every instance
abbrev pub RowsTell : Type 0
RowsTell = (functions : List Function) (rows : List (List (List Bool))) → HaveRows functions rows → AreLevels functions (tells rows)

-- the more varies, the more the rules put into the set
abbrev pub PutsGrow : Type 0
PutsGrow = (rows : List (List (List Bool))) (body : TypedStatement) (s more : Around) (c d : Bool) (goal : VaryingSet) → Below s.set more.set → (c ≡ true → d ≡ true) → AllIn goal (puts (tells rows) body more d) → AllIn goal (puts (tells rows) body s c)
