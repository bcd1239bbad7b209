-- How the open forms of a stack can be completed: each by a few tokens.
use Rattle.std.proofs.Common.{◌≡◌, ℕ, ◌+◌, Bool, true, false, List, [], ◌∷◌, ◌++◌, length, sym, ap, subst, ◌∙◌, refl, Option, Some, None, cond, ◌==◌, map, slice_get, codes, append_assoc, length-append, arith}
use Rattle.std.proofs.lemmas.Bool.{true≢false, false≢true, and_parts}
use Rattle.ctl_tree.specs.declared.keyword.Keyword.{Keyword}
use Rattle.ctl_tree.specs.declared.keyword.Keyword.TheVariants.{Bool as BoolWord, Const, Input as InputWord, Output as OutputWord, Uniform as UniformWord, Varying as VaryingWord, Void}
use Rattle.ctl_tree.specs.declared.sign.Sign.{Sign}
use Rattle.ctl_tree.specs.declared.sign.Sign.TheVariants.{OpenRound, CloseRound, CloseSquare, OpenCurly, CloseCurly, Semicolon, Assign}
use Rattle.ctl_tree.specs.declared.token.TokenKind.{TokenKind}
use Rattle.ctl_tree.specs.declared.token.TokenKind.TheVariants.{Word, Name, Whole, Text as TextToken, Sign as SignKind}
use Rattle.ctl_tree.specs.Lexemes.{Lexeme, kind_at, bytes_at}
use Rattle.ctl_tree.specs.Spelling.{keyword_bytes, sign_bytes}
use Rattle.ctl_tree.specs.Names.{operator_named, of_level, operator_of}
use Rattle.ctl_tree.specs.Modules.{direction_of, level_of, ends}
use Rattle.grammar_machine.specs.Front.{is_sign}
use Rattle.grammar_machine.specs.Machine.{Symbol}
use Rattle.grammar_machine.specs.Machine.Symbol.{TheSign, TheName, TheOne, ImportText, QualifiedName, MoreNames, Shape, MayInt, Operand, Links, UnaryForm, Postfix, Steps, Primary, CallOrName, Arguments, MoreArguments, Sizes, ArraySizes, ArraySize, Initialiser, MoreElements, Value, Block, Statements, Statement, AfterName, Assignment, Arm, Elses, AfterElse, ForStart, AfterForName, ReturnValue, Item, MoreItems, Qualifiers, MayLevel, MayDirection, Parameter, Parameters, MoreParameters, Result, Field, MoreFields, MayEnd, Definition, Definitions, Imports, Version, TheEnd}
use Rattle.grammar_machine.proofs.Meaning.{closes, is_last, fits}

-- the bytes of a token of some kinds
abbrev pub sample_bytes : TokenKind → List ℕ
sample_bytes (Word word) = keyword_bytes word
sample_bytes (SignKind sign) = sign_bytes sign
sample_bytes Name = codes "a"
sample_bytes (Whole n) = cond (n == 0) (codes "0") (codes "1")
-- the empty text: two quotes
sample_bytes TextToken = 34 ∷ 34 ∷ []
sample_bytes _ = []

abbrev pub sample : TokenKind → Lexeme
sample kind = record { kind = kind; bytes = sample_bytes kind }

-- kinds of tokens that complete a symbol
abbrev pub complete : Symbol → List TokenKind
complete (TheSign sign) = SignKind sign ∷ []
complete TheName = Name ∷ []
complete TheOne = Whole 1 ∷ []
complete ImportText = TextToken ∷ []
complete QualifiedName = Name ∷ []
complete MoreNames = []
complete Shape = Word BoolWord ∷ []
complete MayInt = []
complete (Operand level n) = Whole 0 ∷ []
complete (Links level n) = []
complete (UnaryForm n) = Whole 0 ∷ []
complete (Postfix n) = Whole 0 ∷ []
complete (Steps n) = []
complete (Primary n) = Whole 0 ∷ []
complete (CallOrName n) = SignKind OpenRound ∷ SignKind CloseRound ∷ []
complete (Arguments n) = SignKind CloseRound ∷ []
complete (MoreArguments n) = SignKind CloseRound ∷ []
complete (Sizes n) = []
complete (ArraySizes n) = []
complete (ArraySize n) = SignKind CloseSquare ∷ []
complete (Initialiser n inner) = Whole 0 ∷ []
complete (MoreElements n) = SignKind CloseCurly ∷ []
complete (Value n inner) = SignKind Assign ∷ Whole 0 ∷ []
complete (Block n) = SignKind OpenCurly ∷ SignKind CloseCurly ∷ []
complete (Statements n) = SignKind CloseCurly ∷ []
complete (Statement n) = SignKind Semicolon ∷ []
complete (AfterName n) = SignKind Assign ∷ Whole 0 ∷ SignKind Semicolon ∷ []
complete (Assignment n inner) = Name ∷ SignKind Assign ∷ Whole 0 ∷ []
complete (Arm n) = SignKind OpenRound ∷ Whole 0 ∷ SignKind CloseRound ∷ SignKind Semicolon ∷ []
complete (Elses n) = []
complete (AfterElse n) = SignKind Semicolon ∷ []
complete (ForStart n) = Name ∷ SignKind Assign ∷ Whole 0 ∷ SignKind Semicolon ∷ []
complete (AfterForName n) = SignKind Assign ∷ Whole 0 ∷ SignKind Semicolon ∷ []
complete (ReturnValue n) = SignKind Semicolon ∷ []
complete (Item n) = TextToken ∷ []
complete (MoreItems n) = SignKind CloseRound ∷ SignKind Semicolon ∷ []
complete Qualifiers = []
complete MayLevel = []
complete MayDirection = []
complete (Parameter n) = Word BoolWord ∷ Name ∷ SignKind Assign ∷ Whole 0 ∷ []
complete (Parameters n) = SignKind CloseRound ∷ []
complete (MoreParameters n) = SignKind CloseRound ∷ []
complete (Result n) = Word Void ∷ []
complete (Field n) = Word BoolWord ∷ Name ∷ SignKind Semicolon ∷ []
complete (MoreFields n) = SignKind CloseCurly ∷ []
complete MayEnd = SignKind Semicolon ∷ []
complete (Definition n) = Word Const ∷ Word BoolWord ∷ Name ∷ SignKind Assign ∷ Whole 0 ∷ SignKind Semicolon ∷ []
complete (Definitions n) = []
complete Imports = []
complete Version = []
complete TheEnd = []

-- kinds of tokens that complete a stack
abbrev pub completes : List Symbol → List TokenKind
completes [] = []
completes (x ∷ xs) = complete x ++ completes xs

-- a token that goes on with no form before it: the first token of each completion is such a one
abbrev pub quiet_word : Keyword → Bool
quiet_word BoolWord = true
quiet_word Void = true
quiet_word Const = true
quiet_word _ = false

abbrev pub quiet : Option TokenKind → Bool
quiet None = true
quiet (Some (SignKind sign)) = is_sign sign sign
quiet (Some (Word word)) = quiet_word word
quiet (Some _) = true

-- what a quiet token is not

pub apart : {k c : Option TokenKind} → quiet k ≡ true → quiet c ≡ false → k ≡ c → ⊥
apart q n e = true≢false (sym q ∙ ap quiet e ∙ n)

pub quiet_sign : (level : ℕ) (sign : Sign) → is_sign sign sign ≡ true → of_level level (operator_named sign) ≡ None
quiet_sign level OpenRound q = refl
quiet_sign level CloseRound q = refl
quiet_sign level CloseSquare q = refl
quiet_sign level OpenCurly q = refl
quiet_sign level CloseCurly q = refl
quiet_sign level Semicolon q = refl
quiet_sign level Assign q = refl
quiet_sign level _ q = absurd (false≢true q)

pub quiet_operator : (level : ℕ) (k : Option TokenKind) → quiet k ≡ true → operator_of level k ≡ None
quiet_operator level (Some (SignKind sign)) q = quiet_sign level sign q
quiet_operator level _ q = refl

pub quiet_direction : (k : Option TokenKind) → quiet k ≡ true → direction_of k ≡ None
quiet_direction (Some (Word InputWord)) q = absurd (false≢true q)
quiet_direction (Some (Word OutputWord)) q = absurd (false≢true q)
quiet_direction _ q = refl

pub quiet_level : (k : Option TokenKind) → quiet k ≡ true → level_of k ≡ None
quiet_level (Some (Word UniformWord)) q = absurd (false≢true q)
quiet_level (Some (Word VaryingWord)) q = absurd (false≢true q)
quiet_level _ q = refl

-- nothing comes after the end
last_front : (stack : List Symbol) → is_last stack ≡ true → slice_get (completes stack) 0 ≡ None
last_front [] f = refl
last_front (x ∷ xs) f = absurd (false≢true f)

-- the completion of a stack begins with a quiet token
pub quiet_front : (stack : List Symbol) → fits stack ≡ true → quiet (slice_get (completes stack) 0) ≡ true
quiet_front [] f = refl
quiet_front (TheSign sign ∷ xs) f = (and_parts _ _ f).0
quiet_front (MoreNames ∷ xs) f = quiet_front xs f
quiet_front (MayInt ∷ xs) f = quiet_front xs f
quiet_front (Links level n ∷ xs) f = quiet_front xs f
quiet_front (Steps n ∷ xs) f = quiet_front xs f
quiet_front (Sizes n ∷ xs) f = quiet_front xs f
quiet_front (ArraySizes n ∷ xs) f = quiet_front xs f
quiet_front (Elses n ∷ xs) f = quiet_front xs f
quiet_front (Qualifiers ∷ xs) f = quiet_front xs f
quiet_front (MayLevel ∷ xs) f = quiet_front xs f
quiet_front (MayDirection ∷ xs) f = quiet_front xs f
quiet_front (Definitions n ∷ xs) f = quiet_front xs (and_parts _ _ f).1
quiet_front (Imports ∷ xs) f = quiet_front xs f
quiet_front (Version ∷ xs) f = quiet_front xs f
quiet_front (TheEnd ∷ xs) f = ap (λ k. quiet k) (last_front xs f)
quiet_front (_ ∷ xs) f = refl

-- what definitions and the end need of the token after them
abbrev pub IsBefore : Symbol → Option TokenKind → Type 0
IsBefore (Definitions n) k = ends k ≡ true
IsBefore TheEnd k = k ≡ None
IsBefore _ k = Unit {0}

closes_front : (stack : List Symbol) → closes stack ≡ true → fits stack ≡ true → ends (slice_get (completes stack) 0) ≡ true
closes_front (TheSign CloseCurly ∷ xs) c f = refl
closes_front (TheEnd ∷ xs) c f = ap ends (last_front xs f)
closes_front _ c f = absurd (false≢true c)

pub before_front : (x : Symbol) (stack : List Symbol) → fits (x ∷ stack) ≡ true → IsBefore x (slice_get (completes stack) 0)
before_front (Definitions n) stack f = let parts = and_parts _ _ f in closes_front stack parts.0 parts.1
before_front TheEnd stack f = last_front stack f
before_front _ stack f = tt

-- and so it is with a whole stack
pub fits_below : (x : Symbol) (stack : List Symbol) → fits (x ∷ stack) ≡ true → fits stack ≡ true
fits_below (TheSign sign) stack f = (and_parts _ _ f).1
fits_below (Definitions n) stack f = (and_parts _ _ f).1
fits_below TheEnd [] f = refl
fits_below TheEnd (x ∷ xs) f = absurd (false≢true f)
fits_below _ stack f = f

-- tokens of some kinds stand from one place up to another
abbrev pub Stands : List Lexeme → ℕ → List TokenKind → ℕ → Type 0
Stands T i [] j = j ≡ i
Stands T i (kind ∷ kinds) j = (kind_at T i ≡ Some kind) × (bytes_at T i ≡ sample_bytes kind) × Stands T (i + 1) kinds j

pub get_after : (p more : List Lexeme) → slice_get (p ++ more) (length p) ≡ slice_get more 0
get_after [] more = refl
get_after (y ∷ p) more = get_after p more

pub stands_at : (kinds : List TokenKind) (rest p T : List Lexeme) (i j : ℕ) → T ≡ p ++ (map sample kinds ++ rest) → i ≡ length p → j ≡ length p + length kinds → Stands T i kinds j
stands_at [] rest p T i j et ei ej = omega arith
stands_at (kind ∷ kinds) rest p T i j et ei ej =
    let here : slice_get T i ≡ Some (sample kind) = subst (λ t. slice_get t i ≡ Some (sample kind)) (sym et)
    (subst (λ a. slice_get (p ++ (sample kind ∷ (map sample kinds ++ rest))) a ≡ Some (sample kind)) (sym ei) (get_after p _)) in (
      rw here,
      rw here,
      stands_at kinds rest (p ++ (sample kind ∷ [])) T (i + 1) j (et ∙ sym (append_assoc p (sample kind ∷ []) (map sample kinds ++ rest)))
          (omega (arith, length-append p (sample kind ∷ []))) (omega (arith, length-append p (sample kind ∷ []))),
    )
