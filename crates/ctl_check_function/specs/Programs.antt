-- What the checker says of modules in load order: the one program that their texts mean, or the first form that has no
-- meaning.
use Rattle.std.specs.Prelude.{ℕ, ◌+◌, List, [], ◌∷◌, map, Ok, Err, Result}
use Rattle.ctl_tree.specs.Units.{SourceUnit}
use Rattle.ctl_types.specs.Definitions.{Defined, entry_number}
use Rattle.ctl_types.specs.Scoping.{ProgramForm, library_definitions}
use Rattle.ctl_scope.specs.Changes.{library_scope, in_unit}
use Rattle.ctl_check_rules.specs.Faults.{Verdict, ◌>>=◌}
use Rattle.ctl_check_statement.specs.Leading.{Led}
use Rattle.ctl_check_function.specs.Defining.{all_defined, defined}

-- the definitions of a unit, by its place in load order
abbrev pub unit_defined : ℕ → SourceUnit → Led Defined → Verdict (Led Defined)
unit_defined place u before = all_defined (map defined u.«module».definitions) (record { made = before.made; scope = in_unit place before.scope })

-- units in load order, from this place on
abbrev pub units_defined : ℕ → List SourceUnit → Led Defined → Verdict (Led Defined)
units_defined place [] before = Ok before
units_defined place (u ∷ units) before = do
  after ← unit_defined place u before
  units_defined (place + 1) units after

-- the program of some definitions: its entry is the one that the rule of entries names
abbrev pub program_of : Led Defined → ProgramForm
program_of all = record { definitions = all.made; entry = entry_number all.made }

-- The verdict on units. What stands before them is the library's: one struct and seven constants.
abbrev pub checked_program : List SourceUnit → Verdict ProgramForm
checked_program units = do
  all ← units_defined 0 units (record { made = library_definitions units; scope = library_scope })
  Ok (program_of all)
