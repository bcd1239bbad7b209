-- How the tokens are looked at.
use Rattle.std.specs.Prelude.{ℕ, ◌+◌, ◌≤◌, List, length, Bool, true, false, Option, Some, None}
use Rattle.ctl_tree.specs.declared.token.Token.{Token}
use Rattle.ctl_tree.specs.declared.token.TokenKind.{TokenKind}
use Rattle.ctl_tree.specs.declared.token.TokenKind.TheVariants.{Word}
use Rattle.ctl_tree.specs.declared.declaration.ShapeKind.{ShapeKind}
use Rattle.ctl_tree.specs.Names.{shape_of}

-- the span of a token lies in the source
abbrev pub IsInside : List ℕ → Token → Type 0
IsInside source token = token.at + token.len ≤ length source

-- what a test tells
abbrev pub Told : Bool → Type 0 → Type 0 → Type 0
Told true right wrong = right
Told false right wrong = wrong

-- the shape that one token is
abbrev pub shape_of_token : Option TokenKind → Option ShapeKind
shape_of_token (Some (Word word)) = shape_of word
shape_of_token _ = None
