-- What `lex` says of a text that has no tokens.
use Rattle.std.specs.Prelude.{◌≡◌, ℕ, List}
use Rattle.ctl_tree.specs.declared.token.Token.{Token}
use Rattle.ctl_tree.specs.Lines.{line_at}
use Rattle.ctl_tree.specs.Tokens.{StandsFor, HasFault}
use Rattle.ctl_lexer.specs.declared.fault.LexFault.{LexFault}
use Rattle.ctl_lexer.specs.declared.fault.LexFault.TheVariants.{At, Memory}

-- a fault is the text's, at its byte and line and of its kind
abbrev pub FaultOf : ℕ → List ℕ → LexFault → Type 0
FaultOf F text (At at line kind) = HasFault F text at kind × (line ≡ line_at text at)
FaultOf F text Memory = Unit {0}

-- where the text has a fault, no tokens stand for it
abbrev pub NoList : ℕ → List ℕ → LexFault → Type 0
NoList F text (At at line kind) = (tokens : List Token) → StandsFor F tokens text → ⊥
NoList F text Memory = Unit {0}
