-- Means of the lexer alone: what its parts say of the bytes at a front. No public contract cites these.
use Rattle.std.specs.Prelude.{◌≡◌, ℕ, ℤ, ◌<◌, ◌≤◌, ◌⊎◌, ◌==◌, ◌||◌, Bool, true, List, [], ◌∷◌, length, take, drop, slice_index, Result, Ok, Err, Option, Some, None}
use Rattle.ctl_tree.specs.declared.token.Token.{Token}
use Rattle.ctl_tree.specs.declared.token.TokenKind.{TokenKind}
use Rattle.ctl_tree.specs.declared.fault.LexKind.{LexKind}
use Rattle.ctl_tree.specs.declared.sign.Sign.{Sign}
use Rattle.ctl_tree.specs.Spelling.{sign_bytes}
use Rattle.ctl_tree.specs.TokenBytes.{is_blank, IsText, IsWhole, IsDigits, IsHexadecimal, IsPoint, IsHalfPoint, IsKeyword}
use Rattle.ctl_tree.specs.Tokens.{IsComment, IsToken, NothingBegins, IsKindOf}
use Rattle.ctl_lexer.specs.declared.front.Piece.{Piece}
use Rattle.ctl_lexer.specs.declared.front.Piece.TheVariants.{Space, Token as TokenPiece}
use Rattle.ctl_lexer.specs.declared.fault.LexFault.{LexFault}
use Rattle.ctl_lexer.specs.declared.fault.LexFault.TheVariants.{At, Memory}

-- the first n bytes are a blank or a whole comment
abbrev pub IsSpace : List ℕ → ℕ → Type 0
IsSpace bytes n = ((n ≡ 1) × (0 < length bytes) × (is_blank (slice_index bytes 0) ≡ true)) ⊎ IsComment bytes n

-- the piece stands at the front
abbrev pub IsPiece : ℕ → List ℕ → Piece → Type 0
IsPiece F bytes (Space n) = IsSpace bytes n
IsPiece F bytes (TokenPiece kind n) = IsToken F kind bytes n

-- the piece that begins the bytes, or what is wrong where none does
abbrev pub IsFront : ℕ → List ℕ → Result Piece LexKind → Type 0
IsFront F bytes (Ok piece) = IsPiece F bytes piece
IsFront F bytes (Err kind) = NothingBegins F bytes × IsKindOf kind bytes

-- how many bytes a piece has
abbrev pub piece_len : Piece → ℕ
piece_len (Space n) = n
piece_len (TokenPiece kind n) = n

-- the kind of the token of a piece, if it has one
abbrev pub piece_kind : Piece → Option TokenKind
piece_kind (Space n) = None
piece_kind (TokenPiece kind n) = Some kind

-- the token of a kind at a place and line, if there is one
abbrev pub tokens_of : Option TokenKind → ℕ → ℕ → ℕ → List Token
tokens_of None len at line = []
tokens_of (Some kind) len at line = record { kind = kind; at = at; len = len; line = line } ∷ []

-- the token of a piece at its place and line, if it has one
abbrev pub piece_tokens : Piece → ℕ → ℕ → List Token
piece_tokens piece at line = tokens_of (piece_kind piece) (piece_len piece) at line

-- the bytes spell no keyword, whole number, point number, half number
abbrev pub NoKeyword : List ℕ → Type 0
NoKeyword bytes = IsKeyword bytes → ⊥

abbrev pub NoWhole : List ℕ → Type 0
NoWhole bytes = (n : ℕ) → IsWhole bytes n → ⊥

abbrev pub NoDigits : List ℕ → Type 0
NoDigits bytes = (n : ℕ) → IsDigits bytes n → ⊥

abbrev pub NoHexadecimal : List ℕ → Type 0
NoHexadecimal bytes = (n : ℕ) → IsHexadecimal bytes n → ⊥

abbrev pub NoPoint : ℕ → List ℕ → Type 0
NoPoint F bytes = (raw : ℤ) → IsPoint F bytes raw → ⊥

abbrev pub NoHalfPoint : ℕ → List ℕ → Type 0
NoHalfPoint F bytes = (raw : ℤ) → IsHalfPoint F bytes raw → ⊥

-- the bytes spell no number
pub record NoNumber (F : ℕ) (bytes : List ℕ) : Type 0 where
  pub no_whole : NoWhole bytes
  pub no_point : NoPoint F bytes
  pub no_half : NoHalfPoint F bytes

-- no sign has these bytes
abbrev pub NoSign : List ℕ → Type 0
NoSign bytes = (sign : Sign) → bytes ≡ sign_bytes sign → ⊥

-- a sign of two bytes stands at the front
abbrev pub IsDouble : List ℕ → Sign → Type 0
IsDouble bytes sign = (1 < length bytes) × (slice_index bytes 0 ∷ slice_index bytes 1 ∷ [] ≡ sign_bytes sign)

abbrev pub NoDouble : List ℕ → Type 0
NoDouble bytes = (sign : Sign) → IsDouble bytes sign → ⊥

-- a text of n bytes begins the bytes, or none does
abbrev pub TextLength : List ℕ → Option ℕ → Type 0
TextLength bytes (Some n) = (n ≤ length bytes) × IsText (take n bytes)
TextLength bytes None = (n : ℕ) → n ≤ length bytes → IsText (take n bytes) → ⊥

-- a point, e or E
abbrev pub is_mark : ℕ → Bool
is_mark b = b == 46 || (b == 101 || b == 69)

-- nothing begins at the place, whose line and kind of fault are these
abbrev pub FaultAt : ℕ → List ℕ → ℕ → ℕ → LexFault → Type 0
FaultAt F text at line (At place its_line kind) = (place ≡ at) × (its_line ≡ line) × NothingBegins F (drop at text) × IsKindOf kind (drop at text)
FaultAt F text at line Memory = ⊥
