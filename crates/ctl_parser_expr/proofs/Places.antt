-- Tokens by their places.
use Rattle.std.proofs.Common.{◌≡◌, ℕ, arith, ◌+◌, ◌-◌, List, [], take, drop, Some, None, All, slice_get, ap, sym, ◌∙◌, subst}
use Rattle.std.proofs.lemmas.Option.{slice_get-map, slice_get_within, get_or_from_slice_get}
use Rattle.std.proofs.lemmas.List.Elements.{All-get_or}
use Rattle.std.specs.Option.{option_map}
use Rattle.ctl_tree.specs.declared.token.Token.{Token}
use Rattle.ctl_tree.specs.Lexemes.{Lexeme, lexemes_of, bytes_at, spelled}
use Rattle.ctl_parser_expr.specs.Lookup.{IsInside}

-- the span of a token at a place lies in the source
pub inside_at : (source : List ℕ) (tokens : List Token) (i : ℕ) (token : Token) → All (IsInside source) tokens → slice_get tokens i ≡ Some token → IsInside source token
inside_at source tokens i token all is =
    subst (IsInside source) (get_or_from_slice_get tokens i token token is) (All-get_or (IsInside source) tokens i token (slice_get_within tokens i token is) all)

-- a token with its bytes
lexeme : List ℕ → Token → Lexeme
lexeme source token = record { kind = token.kind; bytes = take token.len (drop token.at source) }

-- the bytes at a place are those of the span there
pub bytes_at_some : (source : List ℕ) (tokens : List Token) (i : ℕ) (token : Token) → slice_get tokens i ≡ Some token → take (token.at + token.len - token.at) (drop token.at source) ≡ bytes_at (lexemes_of source tokens) i
unfolding lexeme
bytes_at_some source tokens i token is = (let p : token.at + token.len - token.at ≡ token.len = omega arith in ap (λ n. take n (drop token.at source)) p) ∙ sym (ap spelled (slice_get-map (lexeme source) tokens i ∙ ap (option_map (lexeme source)) is))

pub bytes_at_none : (source : List ℕ) (tokens : List Token) (i : ℕ) → slice_get tokens i ≡ None → [] ≡ bytes_at (lexemes_of source tokens) i
unfolding lexeme
bytes_at_none source tokens i is = sym (ap spelled (slice_get-map (lexeme source) tokens i ∙ ap (option_map (lexeme source)) is))
