-- What is told of a fault at a place.
use Rattle.std.specs.Prelude.{◌≡◌, ℕ, ◌≤◌, List}
use Rattle.ctl_tree.specs.declared.token.Token.{Token}
use Rattle.ctl_tree.specs.declared.fault.SyntaxKind.TheVariants.{NotHere, Depth}
use Rattle.ctl_tree.specs.Lines.{line_of_place}
use Rattle.ctl_parser_expr.specs.declared.fault.Fault.{Fault}
use Rattle.ctl_parser_expr.specs.declared.fault.Fault.TheVariants.{NotHere as NotHereAt, Depth as DepthAt, Memory as NoMemory}
use Rattle.ctl_parser.specs.declared.syntax.SyntaxFault.{SyntaxFault}
use Rattle.ctl_parser.specs.declared.syntax.SyntaxFault.TheVariants.{At, Memory}

abbrev pub Tells : List ℕ → List Token → Fault → SyntaxFault → Type 0
Tells source tokens (NotHereAt place) fault = fault ≡ At place (line_of_place source tokens place) NotHere
Tells source tokens (DepthAt place) fault = fault ≡ At place (line_of_place source tokens place) Depth
Tells source tokens NoMemory fault = fault ≡ Memory

-- the place of a fault is a token's or their number
abbrev pub IsPlaced : ℕ → Fault → Type 0
IsPlaced n (NotHereAt place) = place ≤ n
IsPlaced n (DepthAt place) = place ≤ n
IsPlaced n NoMemory = Unit {0}
