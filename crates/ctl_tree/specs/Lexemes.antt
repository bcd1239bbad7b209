-- The tokens as the grammar reads them: each with the bytes of its span, named by its place in the list.
use Rattle.std.specs.Prelude.{◌≡◌, ◌≢◌, ℕ, ◌≤◌, List, [], map, take, drop, Option, Some, None, slice_get}
use Rattle.std.specs.Option.{option_map}
use Rattle.fix_num.specs.declared.TheConstants.{FRACTION}
use Rattle.ctl_tree.specs.declared.keyword.Keyword.{Keyword}
use Rattle.ctl_tree.specs.declared.sign.Sign.{Sign}
use Rattle.ctl_tree.specs.declared.token.Token.{Token}
use Rattle.ctl_tree.specs.declared.token.TokenKind.{TokenKind}
use Rattle.ctl_tree.specs.declared.token.TokenKind.TheVariants.{Word, Name, Sign as SignKind}
use Rattle.ctl_tree.specs.TokenBytes.{SpellsKind}

-- a token's kind and the bytes of its span
pub record Lexeme : Type 0 where
  pub kind : TokenKind
  pub bytes : List ℕ

-- the bytes spell a token of the kind
abbrev pub IsSpelt : Lexeme → Type 0
IsSpelt lexeme = SpellsKind FRACTION lexeme.kind lexeme.bytes

-- the tokens of a source, each with its bytes
abbrev pub lexemes_of : List ℕ → List Token → List Lexeme
lexemes_of source = map (λ token. record { kind = token.kind; bytes = take token.len (drop token.at source) })

-- the kind of the token at a place, if there is one
abbrev pub kind_at : List Lexeme → ℕ → Option TokenKind
kind_at lexemes i = option_map (λ (lexeme : Lexeme). lexeme.kind) (slice_get lexemes i)

-- the bytes of the token at a place
abbrev pub spelled : Option Lexeme → List ℕ
spelled None = []
spelled (Some lexeme) = lexeme.bytes

abbrev pub bytes_at : List Lexeme → ℕ → List ℕ
bytes_at lexemes i = spelled (slice_get lexemes i)

-- a sign stands at a place
abbrev pub SeesSign : List Lexeme → ℕ → Sign → Type 0
SeesSign lexemes i sign = kind_at lexemes i ≡ Some (SignKind sign)

-- no such sign stands there
abbrev pub LacksSign : List Lexeme → ℕ → Sign → Type 0
LacksSign lexemes i sign = kind_at lexemes i ≢ Some (SignKind sign)

-- a keyword stands at a place
abbrev pub SeesWord : List Lexeme → ℕ → Keyword → Type 0
SeesWord lexemes i word = kind_at lexemes i ≡ Some (Word word)

-- no such keyword stands there
abbrev pub LacksWord : List Lexeme → ℕ → Keyword → Type 0
LacksWord lexemes i word = kind_at lexemes i ≢ Some (Word word)

-- a name of these bytes stands at a place
abbrev pub SeesName : List Lexeme → ℕ → List ℕ → Type 0
SeesName lexemes i name = (kind_at lexemes i ≡ Some Name) × (name ≡ bytes_at lexemes i)

-- a nesting is allowed: none is too deep without a limit
abbrev pub Within : Option ℕ → ℕ → Type 0
Within None n = Unit {0}
Within (Some limit) n = n ≤ limit
