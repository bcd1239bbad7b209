-- Lines of a text, counted from one.
use Rattle.std.specs.Prelude.{ℕ, ◌+◌, ◌==◌, List, length, take, count_by, Option, Some, None, slice_get}
use Rattle.ctl_tree.specs.declared.token.Token.{Token}

-- the line of a byte: one plus the line feeds before it
abbrev pub line_at : List ℕ → ℕ → ℕ
line_at text at = count_by (λ b. b == 10) (take at text) + 1

-- the line that a token says, or another where there is none
abbrev pub token_line : ℕ → Option Token → ℕ
token_line other None = other
token_line other (Some token) = token.line

-- the line of the token at a place, or that of the end of the text where there is none
abbrev pub line_of_place : List ℕ → List Token → ℕ → ℕ
line_of_place text tokens place = token_line (line_at text (length text)) (slice_get tokens place)
