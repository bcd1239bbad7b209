-- What a token can begin.
use Rattle.std.specs.Prelude.{ℕ, ◌&&◌, Bool, true, false, List, [], ◌∷◌, Option, Some, nat_le}
use Rattle.ctl_tree.specs.declared.keyword.Keyword.TheVariants.{Bool as BoolWord, Const, False as FalseWord, Float as FloatWord, For, Half as HalfWord, If, Int as IntWord, Print, Return, True as TrueWord, Unsigned as UnsignedWord, Void, While}
use Rattle.ctl_tree.specs.declared.sign.Sign.{Sign}
use Rattle.ctl_tree.specs.declared.sign.Sign.TheVariants.{Plus, Minus, Exclamation, Tilde, OpenRound, CloseRound, CloseSquare, OpenCurly, CloseCurly, Semicolon, ColonColon, Assign}
use Rattle.ctl_tree.specs.declared.token.TokenKind.{TokenKind}
use Rattle.ctl_tree.specs.declared.token.TokenKind.TheVariants.{Word, Name, Whole, Point, HalfPoint, Sign as SignKind}
use Rattle.ctl_tree.specs.Texts.{unquoted}

-- whether two of the signs that must stand at a place are one
abbrev pub is_sign : Sign → Sign → Bool
is_sign OpenRound OpenRound = true
is_sign CloseRound CloseRound = true
is_sign CloseSquare CloseSquare = true
is_sign OpenCurly OpenCurly = true
is_sign CloseCurly CloseCurly = true
is_sign Semicolon Semicolon = true
is_sign Assign Assign = true
is_sign _ _ = false

-- whether a token is such a sign
abbrev pub sees : Sign → Option TokenKind → Bool
sees sign (Some (SignKind other)) = is_sign sign other
sees sign _ = false

-- a token that begins an expression
abbrev pub begins_expr : Option TokenKind → Bool
begins_expr (Some Name) = true
begins_expr (Some (Whole n)) = true
begins_expr (Some (Point raw)) = true
begins_expr (Some (HalfPoint raw)) = true
begins_expr (Some (Word TrueWord)) = true
begins_expr (Some (Word FalseWord)) = true
begins_expr (Some (SignKind ColonColon)) = true
begins_expr (Some (SignKind OpenRound)) = true
begins_expr (Some (SignKind Minus)) = true
begins_expr (Some (SignKind Plus)) = true
begins_expr (Some (SignKind Exclamation)) = true
begins_expr (Some (SignKind Tilde)) = true
begins_expr _ = false

-- a keyword that begins a shape
abbrev pub begins_word_shape : Option TokenKind → Bool
begins_word_shape (Some (Word BoolWord)) = true
begins_word_shape (Some (Word IntWord)) = true
begins_word_shape (Some (Word UnsignedWord)) = true
begins_word_shape (Some (Word HalfWord)) = true
begins_word_shape (Some (Word FloatWord)) = true
begins_word_shape _ = false

-- a token that begins a shape
abbrev pub begins_shape : Option TokenKind → Bool
begins_shape (Some Name) = true
begins_shape (Some (SignKind ColonColon)) = true
begins_shape k = begins_word_shape k

-- a token that begins the result of a function
abbrev pub begins_result : Option TokenKind → Bool
begins_result (Some (Word Void)) = true
begins_result k = begins_shape k

-- a token that begins a statement
abbrev pub begins_statement : Option TokenKind → Bool
begins_statement (Some (SignKind OpenCurly)) = true
begins_statement (Some (SignKind Semicolon)) = true
begins_statement (Some (Word Const)) = true
begins_statement (Some (Word If)) = true
begins_statement (Some (Word While)) = true
begins_statement (Some (Word For)) = true
begins_statement (Some (Word Return)) = true
begins_statement (Some (Word Print)) = true
begins_statement k = begins_shape k

-- all bytes are from 32 to 126
abbrev pub all_printable : List ℕ → Bool
all_printable [] = true
all_printable (b ∷ bytes) = (nat_le 32 b && nat_le b 126) && all_printable bytes

-- a text stands for bytes from 32 to 126 alone
abbrev pub is_printable_text : List ℕ → Bool
is_printable_text bytes = all_printable (unquoted bytes)
