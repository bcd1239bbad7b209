-- What holds of tokens, of the modules that they spell and of their faults.
use Rattle.std.specs.Prelude.{◌≡◌, ℕ, List, Option, Some, length, All}
use Rattle.fix_num.specs.declared.TheConstants.{FRACTION}
use Rattle.ctl_tree.specs.declared.token.Token.{Token}
use Rattle.ctl_tree.specs.declared.definition.Module.{Module}
use Rattle.ctl_tree.specs.declared.fault.SyntaxKind.{SyntaxKind}
use Rattle.ctl_tree.specs.Tokens.{StandsFor}
use Rattle.ctl_tree.specs.Lexemes.{Lexeme, IsSpelt, lexemes_of}
use Rattle.ctl_tree.specs.Modules.{IsModule}
use Rattle.ctl_tree.specs.Beginnings.{NoModule, HasSyntaxFault}
use Rattle.ctl_tree.specs.OwnTokens.{OwnTokensBelow}

-- whatever nesting is allowed, the module that all tokens spell is determined
abbrev pub OneModule : Type 0
OneModule = (lexemes : List Lexeme) (limit limit' : Option ℕ) (m m' : Module) → IsModule lexemes limit m → IsModule lexemes limit' m' → m ≡ m'

-- whatever nesting is allowed, the own token of each form of a module that the tokens spell is one of them
abbrev pub TokensStand : Type 0
TokensStand = (lexemes : List Lexeme) (limit : Option ℕ) (m : Module) → IsModule lexemes limit m → OwnTokensBelow (length lexemes) m

-- the bytes of each token that stands for a text spell its kind
abbrev pub TokensAreSpelt : Type 0
TokensAreSpelt = (text : List ℕ) (tokens : List Token) → StandsFor FRACTION tokens text → All IsSpelt (lexemes_of text tokens)

-- tokens have at most one fault
abbrev pub OneSyntaxFault : Type 0
OneSyntaxFault = (lexemes : List Lexeme) (limit : ℕ) (kind other : SyntaxKind) (place elsewhere : ℕ) → All IsSpelt lexemes
    → HasSyntaxFault lexemes limit kind place → HasSyntaxFault lexemes limit other elsewhere → (kind ≡ other) × (place ≡ elsewhere)

-- tokens that have a fault spell no module of a nesting that is allowed
abbrev pub FaultsSpellNone : Type 0
FaultsSpellNone = (lexemes : List Lexeme) (limit : ℕ) (kind : SyntaxKind) (place : ℕ) → All IsSpelt lexemes
    → HasSyntaxFault lexemes limit kind place → NoModule lexemes (Some limit)
