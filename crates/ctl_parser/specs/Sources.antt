-- What a text is: tokens that spell a module, or its fault.
use Rattle.std.specs.Prelude.{◌≡◌, ℕ, List, Some}
use Rattle.ctl_base.specs.declared.limits.TheConstants.{NESTING}
use Rattle.ctl_tree.specs.declared.definition.Module.{Module}
use Rattle.ctl_tree.specs.declared.fault.LexKind.{LexKind}
use Rattle.ctl_tree.specs.declared.fault.SyntaxKind.{SyntaxKind}
use Rattle.ctl_tree.specs.declared.token.Token.{Token}
use Rattle.ctl_tree.specs.Beginnings.{HasSyntaxFault}
use Rattle.ctl_tree.specs.Lexemes.{lexemes_of}
use Rattle.ctl_tree.specs.Lines.{line_at, line_of_place}
use Rattle.ctl_tree.specs.Modules.{IsModule}
use Rattle.ctl_tree.specs.Tokens.{StandsFor, HasFault}
use Rattle.fix_num.specs.declared.TheConstants.{FRACTION}

-- the tokens stand for the text and spell the module, which is of a nesting that is allowed
pub record IsSource (text : List ℕ) (tokens : List Token) (form : Module) : Type 0 where
  pub stand : StandsFor FRACTION tokens text
  pub spelt : IsModule (lexemes_of text tokens) (Some NESTING) form

-- the text has a fault of its bytes, at this byte and in this line: no tokens stand for it
pub record HasByteFault (text : List ℕ) (at line : ℕ) (kind : LexKind) : Type 0 where
  pub fault : HasFault FRACTION text at kind
  pub in_line : line ≡ line_at text at

-- tokens stand for the text, and they have a fault, at this token and in this line: they spell no module of a nesting that
-- is allowed
pub record HasTokenFault (text : List ℕ) (place line : ℕ) (kind : SyntaxKind) : Type 0 where
  pub tokens : List Token
  pub stand : StandsFor FRACTION tokens text
  pub fault : HasSyntaxFault (lexemes_of text tokens) NESTING kind place
  pub in_line : line ≡ line_of_place text tokens place
