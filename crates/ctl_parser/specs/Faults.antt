-- What `parse` says of tokens that it refuses.
use Rattle.std.specs.Prelude.{◌≡◌, ℕ, List, Some}
use Rattle.ctl_tree.specs.declared.token.Token.{Token}
use Rattle.ctl_tree.specs.Lines.{line_of_place}
use Rattle.ctl_tree.specs.Lexemes.{lexemes_of}
use Rattle.ctl_tree.specs.Beginnings.{NoModule, HasSyntaxFault}
use Rattle.ctl_parser.specs.declared.syntax.SyntaxFault.{SyntaxFault}
use Rattle.ctl_parser.specs.declared.syntax.SyntaxFault.TheVariants.{At, Memory}

-- the tokens have this fault at this place, which stands in this line
abbrev pub FaultOf : ℕ → List ℕ → List Token → SyntaxFault → Type 0
FaultOf limit source tokens (At at line kind) = HasSyntaxFault (lexemes_of source tokens) limit kind at × (line ≡ line_of_place source tokens at)
FaultOf limit source tokens Memory = Unit {0}

-- no module of a nesting that is allowed is spelt, but where memory is wanting
abbrev pub NoneSpelt : ℕ → List ℕ → List Token → SyntaxFault → Type 0
NoneSpelt limit source tokens (At at line kind) = NoModule (lexemes_of source tokens) (Some limit)
NoneSpelt limit source tokens Memory = Unit {0}
