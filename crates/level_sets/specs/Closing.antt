-- How a row grows to the least that meets the rules.
use Rattle.std.specs.Prelude.{◌≡◌, ◌≢◌, ℕ, List, Bool, true, false, not, get_or}
use Rattle.ctl_types.specs.declared.statement.TypedStatement.{TypedStatement}
use Rattle.level_rules.specs.declared.instance.Holder.{Holder}
use Rattle.level_rules.specs.Rules.{VaryingSet, Known}
use Rattle.level_rules.specs.Levels.{AllIn, Below}
use Rattle.level_rules.specs.Rows.{in_row, tells, bare, puts}

-- a place of a row is marked, which was marked or not; the others stay
pub record IsMark (m : ℕ) (old new : List Bool) (changed : Bool) : Type 0 where
  pub has : get_or new m false ≡ true
  pub was : get_or old m false ≡ not changed
  pub others : (k : ℕ) → k ≢ m → get_or new k false ≡ get_or old k false

-- these are put into a row, and no more
pub record Marked (holders : List Holder) (old new : List Bool) (changed : Bool) : Type 0 where
  pub members : Below (in_row old) (in_row new)
  pub has : AllIn (in_row new) holders
  pub least : (set : VaryingSet) → AllIn set holders → Below (in_row old) set → Below (in_row new) set
  pub same : changed ≡ false → Below (in_row new) (in_row old)
  pub more : changed ≡ true → (set : VaryingSet) → AllIn set holders → (h : Holder) × (set h ≡ true) × (in_row old h ≡ false) × (in_row new h ≡ true)

-- one pass over a body
abbrev pub Passed : List (List (List Bool)) → TypedStatement → Bool → List Bool → List Bool → Bool → Type 0
Passed rows body c old new changed = Marked (puts (tells rows) body (bare (in_row old)) c) old new changed

-- the least row with what was in it that meets the rules
pub record Closes (known : Known) (body : TypedStatement) (c : Bool) (old new : List Bool) : Type 0 where
  pub members : Below (in_row old) (in_row new)
  pub meets : AllIn (in_row new) (puts known body (bare (in_row new)) c)
  pub least : (set : VaryingSet) → AllIn set (puts known body (bare set) c) → Below (in_row old) set → Below (in_row new) set
