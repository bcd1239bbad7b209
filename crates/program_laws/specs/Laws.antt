-- What the laws of the checker say of whole programs.
use Rattle.std.specs.Prelude.{◌≡◌, ℕ, List, All, length, Ok}
use Rattle.ctl_tree.specs.Units.{SourceUnit}
use Rattle.ctl_tree.specs.OwnTokens.{OwnTokensBelow}
use Rattle.ctl_types.specs.Scoping.{ProgramForm, IsProgram}
use Rattle.ctl_check_function.specs.Programs.{checked_program}
use Rattle.outside.specs.Calls.{FileCall}
use Rattle.outside.specs.Files.{Held}
use Rattle.module_path.specs.LoadOrder.{LoadOrder}

-- the own token of each form of a unit's module is a token of the unit
abbrev pub HasOwnTokens : SourceUnit → Type 0
HasOwnTokens u = OwnTokensBelow (length u.tokens) u.«module»

-- what is checked keeps the rules of programs
abbrev pub CheckedProgramsKeepRules : Type 0
CheckedProgramsKeepRules = (units : List SourceUnit) (program : ProgramForm) → All HasOwnTokens units → checked_program units ≡ Ok program → IsProgram program

-- what is loaded and checked does, whatever is held
abbrev pub LoadedProgramsKeepRules : Type 0
LoadedProgramsKeepRules =
    (held : Held) (path root : List ℕ) (before after : List FileCall) (units : List SourceUnit) (program : ProgramForm) → LoadOrder held path root before after (Ok units)
    → checked_program units ≡ Ok program → IsProgram program
