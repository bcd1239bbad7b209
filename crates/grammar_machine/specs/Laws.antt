-- What the machine tells of tokens: whether they spell a module, and where they have their fault.
use Rattle.std.specs.Prelude.{ℕ, ◌⊎◌, List, [], length, Option, Some}
use Rattle.ctl_tree.specs.declared.definition.Module.{Module}
use Rattle.ctl_tree.specs.declared.fault.SyntaxKind.{SyntaxKind}
use Rattle.ctl_tree.specs.declared.fault.SyntaxKind.TheVariants.{NotHere, Depth}
use Rattle.ctl_tree.specs.Lexemes.{Lexeme}
use Rattle.ctl_tree.specs.Modules.{IsModule}
use Rattle.ctl_tree.specs.Beginnings.{NoModule, HasSyntaxFault}
use Rattle.grammar_machine.specs.Machine.{start, Reaches, StopsAt, SinksAt}

-- the machine passes over each module that the tokens spell, within the limit where the module's nesting is
abbrev pub ModulesArePassed : Type 0
ModulesArePassed = (lexemes : List Lexeme) (limit : Option ℕ) (m : Module) → IsModule lexemes limit m → Reaches lexemes limit start 0 [] (length lexemes)

-- where the machine comes to its end, the tokens spell a module
abbrev pub EndsAreModules : Type 0
EndsAreModules = (lexemes : List Lexeme) (limit : Option ℕ) (place : ℕ) → Reaches lexemes limit start 0 [] place → (m : Module) × IsModule lexemes limit m

-- where it has to stop before, the tokens have their fault at that place: no module goes on there
abbrev pub StopsAreFaults : Type 0
StopsAreFaults = (lexemes : List Lexeme) (limit place : ℕ) → StopsAt lexemes (Some limit) start 0 place → HasSyntaxFault lexemes limit NotHere place

-- where a nesting that is too deep can no longer be avoided, they have that fault
abbrev pub SinksAreFaults : Type 0
SinksAreFaults = (lexemes : List Lexeme) (limit place : ℕ) → SinksAt lexemes (Some limit) start 0 place → HasSyntaxFault lexemes limit Depth place

-- in both cases they spell no module within the limit
abbrev pub RefusalsSpellNone : Type 0
RefusalsSpellNone = (lexemes : List Lexeme) (limit place : ℕ) → StopsAt lexemes (Some limit) start 0 place ⊎ SinksAt lexemes (Some limit) start 0 place → NoModule lexemes (Some limit)

-- each list of tokens spells a module within the limit or has a fault
abbrev pub ModuleOrFault : Type 0
ModuleOrFault = (lexemes : List Lexeme) (limit : ℕ) → ((m : Module) × IsModule lexemes (Some limit) m) ⊎ ((kind : SyntaxKind) × (place : ℕ) × HasSyntaxFault lexemes limit kind place)
