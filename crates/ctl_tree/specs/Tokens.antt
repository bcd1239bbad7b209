-- Which lists of tokens stand for a text, and where a text has a fault. F is the number of fraction bits.
-- These are relations on whole texts: nothing here reads one byte after the other.
use Rattle.std.specs.Prelude.{◌≡◌, ℕ, ◌+◌, ◌-◌, ◌<◌, ◌≤◌, ◌&&◌, ◌||◌, ◌⊎◌, ◌==◌, Bool, true, false, List, [], ◌∷◌, length, take, drop, slice_index}
use Rattle.ctl_tree.specs.declared.token.Token.{Token}
use Rattle.ctl_tree.specs.declared.token.TokenKind.{TokenKind}
use Rattle.ctl_tree.specs.declared.fault.LexKind.{LexKind}
use Rattle.ctl_tree.specs.declared.fault.LexKind.TheVariants.{NoToken, OpenComment, OpenText, Literal, NotAscii}
use Rattle.ctl_tree.specs.TokenBytes.{is_blank, begins_number, SpellsKind, IsTokenBytes}
use Rattle.ctl_tree.specs.Lines.{line_at}

-- Comments

-- // or /* stands at the front
abbrev pub begins_comment : List ℕ → Bool
begins_comment bytes = slice_index bytes 0 == 47 && (slice_index bytes 1 == 47 || slice_index bytes 1 == 42)

-- the first n bytes are //, and all up to the first line feed or the end
pub record IsLineComment (bytes : List ℕ) (n : ℕ) : Type 0 where
  pub within : n ≤ length bytes
  pub some : 2 ≤ n
  pub first : slice_index bytes 0 ≡ 47
  pub second : slice_index bytes 1 ≡ 47
  pub goes_on : (i : ℕ) → i < n → (slice_index bytes i == 10) ≡ false
  pub ends : n < length bytes → slice_index bytes n ≡ 10

-- */ stands at a place
abbrev pub closes_at : List ℕ → ℕ → Bool
closes_at bytes i = slice_index bytes i == 42 && slice_index bytes (i + 1) == 47

-- the first n bytes are /*, and all up to and with the first */ after these two
pub record IsBlockComment (bytes : List ℕ) (n : ℕ) : Type 0 where
  pub within : n ≤ length bytes
  pub some : 4 ≤ n
  pub first : slice_index bytes 0 ≡ 47
  pub second : slice_index bytes 1 ≡ 42
  pub goes_on : (i : ℕ) → 2 ≤ i → i < n - 2 → closes_at bytes i ≡ false
  pub ends : closes_at bytes (n - 2) ≡ true

-- the first n bytes are a whole comment
abbrev pub IsComment : List ℕ → ℕ → Type 0
IsComment bytes n = IsLineComment bytes n ⊎ IsBlockComment bytes n

-- the bytes of the text from one place up to another are blanks and whole comments
pub data IsGap (text : List ℕ) : ℕ → ℕ → Type 0 where
  nothing : {from to : ℕ} → from ≤ length text → from ≡ to → IsGap text from to
  blank : {from to : ℕ} → from < length text → is_blank (slice_index text from) ≡ true → IsGap text (from + 1) to → IsGap text from to
  comment : {from to : ℕ} (n : ℕ) → IsComment (drop from text) n → IsGap text (from + n) to → IsGap text from to

-- Tokens

-- the first n bytes are those of a token, and no more bytes of these are
pub record IsLongest (bytes : List ℕ) (n : ℕ) : Type 0 where
  pub within : n ≤ length bytes
  pub written : IsTokenBytes (take n bytes)
  pub longest : (m : ℕ) → n < m → m ≤ length bytes → IsTokenBytes (take m bytes) → ⊥

-- the first n bytes are the longest that a token has there and spell one of the kind, and no comment begins there
pub record IsToken (F : ℕ) (kind : TokenKind) (bytes : List ℕ) (n : ℕ) : Type 0 where
  pub whole : IsLongest bytes n
  pub spells : SpellsKind F kind (take n bytes)
  pub apart : begins_comment bytes ≡ false

-- the token stands in the text where it says
pub record StandsIn (F : ℕ) (text : List ℕ) (token : Token) : Type 0 where
  pub spelled : IsToken F token.kind (drop token.at text) token.len
  pub line : token.line ≡ line_at text token.at

-- from one place of the text up to another stand the tokens in their order, with blanks and whole comments before,
-- between and after them
abbrev pub CoversFrom : ℕ → List ℕ → ℕ → List Token → ℕ → Type 0
CoversFrom F text from [] to = IsGap text from to
CoversFrom F text from (token ∷ tokens) to = IsGap text from token.at × StandsIn F text token × CoversFrom F text (token.at + token.len) tokens to

-- the tokens cover the text up to the byte p
abbrev pub Covers : ℕ → List ℕ → List Token → ℕ → Type 0
Covers F text tokens p = CoversFrom F text 0 tokens p

-- the tokens stand for the text: they cover it up to its end
abbrev pub StandsFor : ℕ → List Token → List ℕ → Type 0
StandsFor F tokens text = Covers F text tokens (length text)

-- Faults

-- there is a byte, and no blank, whole comment or token begins at it
pub record NothingBegins (F : ℕ) (bytes : List ℕ) : Type 0 where
  pub more : 0 < length bytes
  pub no_blank : is_blank (slice_index bytes 0) ≡ false
  pub no_comment : (n : ℕ) → IsComment bytes n → ⊥
  pub no_token : (kind : TokenKind) (n : ℕ) → IsToken F kind bytes n → ⊥

-- what is wrong at bytes at which nothing begins: the kind of a fault by the bytes that stand there
abbrev pub IsKindOf : LexKind → List ℕ → Type 0
IsKindOf OpenComment bytes = begins_comment bytes ≡ true
IsKindOf OpenText bytes = slice_index bytes 0 ≡ 34
IsKindOf Literal bytes = begins_number bytes ≡ true
IsKindOf NotAscii bytes = 128 ≤ slice_index bytes 0
IsKindOf NoToken bytes = (begins_comment bytes ≡ false) × ((slice_index bytes 0 == 34) ≡ false) × (begins_number bytes ≡ false) × (slice_index bytes 0 < 128)

-- some tokens cover the text up to the byte `at`, before its end, where nothing begins, and this is what is wrong there
pub record HasFault (F : ℕ) (text : List ℕ) (at : ℕ) (kind : LexKind) : Type 0 where
  pub tokens : List Token
  pub before : Covers F text tokens at
  pub nothing_there : NothingBegins F (drop at text)
  pub is_kind : IsKindOf kind (drop at text)
