-- Where a token makes a deeper nesting unavoidable, the machine reads it if there is no limit.
use Rattle.std.proofs.Common.{◌≡◌, ℕ, zero, suc, ◌+◌, ◌<◌, ◌≤◌, true, false, List, [], ◌∷◌, ◌++◌, nat_lt, cond, ap, ◌∙◌, refl, Option, Some, None, arith}
use Rattle.std.proofs.lemmas.Bool.{false≢true, lt-ltb, le-ltb}
use Rattle.ctl_tree.specs.declared.keyword.Keyword.TheVariants.{Bool as BoolWord, Const, False as FalseWord, Float as FloatWord, For, Half as HalfWord, If, Int as IntWord, Namespace, Print, Return, Struct, True as TrueWord, Unsigned as UnsignedWord, Void, While}
use Rattle.ctl_tree.specs.declared.sign.Sign.TheVariants.{Plus, Minus, Exclamation, Tilde, OpenRound, OpenCurly, Semicolon, ColonColon}
use Rattle.ctl_tree.specs.declared.token.TokenKind.{TokenKind}
use Rattle.ctl_tree.specs.declared.token.TokenKind.TheVariants.{Word, Name, Whole, Point, HalfPoint, Sign as SignKind}
use Rattle.ctl_tree.specs.declared.expression.UnaryOperator.{UnaryOperator}
use Rattle.ctl_tree.specs.Lexemes.{Lexeme, kind_at, bytes_at}
use Rattle.ctl_tree.specs.Names.{unary_operator_of, operator_levels}
use Rattle.grammar_machine.specs.Front.{begins_expr, begins_shape, begins_result, begins_statement}
use Rattle.grammar_machine.specs.Machine.{Symbol, Move, move, Expr, Reaches, first_move, after_unary, variable_end, begins_definition}
use Rattle.grammar_machine.specs.Machine.Symbol.{TheSign, TheName, QualifiedName, Shape, Operand, Links, UnaryForm, Postfix, Steps, Primary, Sizes, Block, Statement, Parameters, Result, Definition}
use Rattle.grammar_machine.specs.Machine.Move.{Reads, Expands}
use Rattle.grammar_machine.specs.Machine.Reaches.{here, expands, reads}

-- the machine reads the token at a place
abbrev pub Goes : List Lexeme → ℕ → List Symbol → Type 0
Goes T i stack = (stack' : List Symbol) × Reaches T None stack i stack' (i + 1)

pub goes_reads : (T : List Lexeme) (i : ℕ) (x : Symbol) (below : List Symbol) (m : ℕ) (symbols : List Symbol) → move x (kind_at T i) (bytes_at T i) ≡ Reads m symbols → Goes T i (x ∷ below)
goes_reads T i x below m symbols e = (_, reads x below symbols m refl e tt (here refl refl))

pub goes_expands : (T : List Lexeme) (i : ℕ) (x : Symbol) (below : List Symbol) (m : ℕ) (symbols : List Symbol) → move x (kind_at T i) (bytes_at T i) ≡ Expands m symbols
    → Goes T i (symbols ++ below) → Goes T i (x ∷ below)
goes_expands T i x below m symbols e g = (g.0, expands x below symbols m refl e tt g.1)

-- the same at a token of a kind
pub moves_at : (T : List Lexeme) (i : ℕ) (x : Symbol) (k : Option TokenKind) (v : Move) → kind_at T i ≡ k → move x k (bytes_at T i) ≡ v → move x (kind_at T i) (bytes_at T i) ≡ v
moves_at T i x k v e m = ap (λ c. move x c (bytes_at T i)) e ∙ m

pub reads_at : (T : List Lexeme) (i : ℕ) (x : Symbol) (below : List Symbol) (k : Option TokenKind) (m : ℕ) (symbols : List Symbol) → kind_at T i ≡ k
    → move x k (bytes_at T i) ≡ Reads m symbols → Goes T i (x ∷ below)
reads_at T i x below k m symbols e v = goes_reads T i x below m symbols (moves_at T i x k _ e v)

pub expands_at : (T : List Lexeme) (i : ℕ) (x : Symbol) (below : List Symbol) (k : Option TokenKind) (m : ℕ) (symbols : List Symbol) → kind_at T i ≡ k
    → move x k (bytes_at T i) ≡ Expands m symbols → Goes T i (symbols ++ below) → Goes T i (x ∷ below)
expands_at T i x below k m symbols e v g = goes_expands T i x below m symbols (moves_at T i x k _ e v) g

-- names and shapes

pub goes_name : (T : List Lexeme) (i : ℕ) (below : List Symbol) → kind_at T i ≡ Some Name → Goes T i (QualifiedName ∷ below)
goes_name T i below e = reads_at T i QualifiedName below (Some Name) 0 _ e refl

pub goes_global : (T : List Lexeme) (i : ℕ) (below : List Symbol) → kind_at T i ≡ Some (SignKind ColonColon) → Goes T i (QualifiedName ∷ below)
goes_global T i below e = reads_at T i QualifiedName below (Some (SignKind ColonColon)) 0 _ e refl

pub goes_shape : (T : List Lexeme) (i : ℕ) (below : List Symbol) (k : Option TokenKind) → kind_at T i ≡ k → begins_shape k ≡ true → Goes T i (Shape ∷ below)
goes_shape T i below (Some Name) e b = expands_at T i Shape below (Some Name) 0 _ e refl (goes_name T i below e)
goes_shape T i below (Some (SignKind ColonColon)) e b = expands_at T i Shape below (Some (SignKind ColonColon)) 0 _ e refl (goes_global T i below e)
goes_shape T i below (Some (Word BoolWord)) e b = reads_at T i Shape below (Some (Word BoolWord)) 0 _ e refl
goes_shape T i below (Some (Word IntWord)) e b = reads_at T i Shape below (Some (Word IntWord)) 0 _ e refl
goes_shape T i below (Some (Word UnsignedWord)) e b = reads_at T i Shape below (Some (Word UnsignedWord)) 0 _ e refl
goes_shape T i below (Some (Word HalfWord)) e b = reads_at T i Shape below (Some (Word HalfWord)) 0 _ e refl
goes_shape T i below (Some (Word FloatWord)) e b = reads_at T i Shape below (Some (Word FloatWord)) 0 _ e refl
goes_shape T i below _ e b = absurd (false≢true b)

-- expressions

pub operator_none : {o : UnaryOperator} → Some o ≡ None → ⊥
operator_none h = cc

pub goes_primary : (T : List Lexeme) (i n : ℕ) (below : List Symbol) (k : Option TokenKind) → kind_at T i ≡ k → begins_expr k ≡ true → unary_operator_of k ≡ None → Goes T i (Primary n ∷ below)
goes_primary T i n below (Some Name) e b u = expands_at T i (Primary n) below (Some Name) 0 _ e refl (goes_name T i _ e)
goes_primary T i n below (Some (SignKind ColonColon)) e b u = expands_at T i (Primary n) below (Some (SignKind ColonColon)) 0 _ e refl (goes_global T i _ e)
goes_primary T i n below (Some (Whole v)) e b u = reads_at T i (Primary n) below (Some (Whole v)) 0 _ e refl
goes_primary T i n below (Some (Point v)) e b u = reads_at T i (Primary n) below (Some (Point v)) 0 _ e refl
goes_primary T i n below (Some (HalfPoint v)) e b u = reads_at T i (Primary n) below (Some (HalfPoint v)) 0 _ e refl
goes_primary T i n below (Some (Word TrueWord)) e b u = reads_at T i (Primary n) below (Some (Word TrueWord)) 0 _ e refl
goes_primary T i n below (Some (Word FalseWord)) e b u = reads_at T i (Primary n) below (Some (Word FalseWord)) 0 _ e refl
goes_primary T i n below (Some (SignKind OpenRound)) e b u = reads_at T i (Primary n) below (Some (SignKind OpenRound)) (n + 1) _ e refl
goes_primary T i n below (Some (SignKind Minus)) e b u = absurd (operator_none u)
goes_primary T i n below (Some (SignKind Plus)) e b u = absurd (operator_none u)
goes_primary T i n below (Some (SignKind Exclamation)) e b u = absurd (operator_none u)
goes_primary T i n below (Some (SignKind Tilde)) e b u = absurd (operator_none u)
goes_primary T i n below _ e b u = absurd (false≢true b)

pub goes_unary : (T : List Lexeme) (i n : ℕ) (below : List Symbol) (o : Option UnaryOperator) → unary_operator_of (kind_at T i) ≡ o → begins_expr (kind_at T i) ≡ true → Goes T i (UnaryForm n ∷ below)
goes_unary T i n below (Some operator) u b = goes_reads T i (UnaryForm n) below (n + 1) _ (ap (after_unary n) u)
goes_unary T i n below None u b = goes_expands T i (UnaryForm n) below 0 _ (ap (after_unary n) u) (goes_expands T i (Postfix n) below 0 _ refl (goes_primary T i n (Steps n ∷ below) (kind_at T i) refl b u))

pub goes_operand : (d : ℕ) (T : List Lexeme) (i level n : ℕ) (below : List Symbol) → level + d ≡ operator_levels → begins_expr (kind_at T i) ≡ true → Goes T i (Operand level n ∷ below)
goes_operand zero T i level n below e b =
    let last : operator_levels ≤ level = omega arith in
    let test : nat_lt level operator_levels ≡ false = le-ltb level operator_levels last in
    goes_expands T i (Operand level n) below 0 (UnaryForm n ∷ []) (ap (λ c. cond c (Expands 0 (Operand (level + 1) n ∷ Links level n ∷ [])) (Expands 0 (UnaryForm n ∷ []))) test)
    (goes_unary T i n below (unary_operator_of (kind_at T i)) refl b)
goes_operand (suc d) T i level n below e b =
    let less : level < operator_levels = omega arith in
    let test : nat_lt level operator_levels ≡ true = lt-ltb level operator_levels less in
    goes_expands T i (Operand level n) below 0 (Operand (level + 1) n ∷ Links level n ∷ []) (ap (λ c. cond c (Expands 0 (Operand (level + 1) n ∷ Links level n ∷ [])) (Expands 0 (UnaryForm n ∷ []))) test)
    (goes_operand d T i (level + 1) n (Links level n ∷ below) (omega arith) b)

pub goes_expr : (T : List Lexeme) (i n : ℕ) (below : List Symbol) (k : Option TokenKind) → kind_at T i ≡ k → begins_expr k ≡ true → Goes T i (Expr n ∷ below)
goes_expr T i n below k e b = goes_operand 10 T i 0 n below refl (ap begins_expr e ∙ b)

-- statements and definitions

pub goes_word : (T : List Lexeme) (i n : ℕ) (below : List Symbol) (k : Option TokenKind) → kind_at T i ≡ k → begins_shape k ≡ true
    → move (Statement n) k (bytes_at T i) ≡ Expands 0 (Shape ∷ TheName ∷ variable_end n n) → Goes T i (Statement n ∷ below)
goes_word T i n below k e b v = expands_at T i (Statement n) below k 0 _ e v (goes_shape T i _ k e b)

pub goes_statement : (T : List Lexeme) (i n : ℕ) (below : List Symbol) (k : Option TokenKind) → kind_at T i ≡ k → begins_statement k ≡ true → Goes T i (Statement n ∷ below)
goes_statement T i n below (Some (SignKind OpenCurly)) e b =
    expands_at T i (Statement n) below (Some (SignKind OpenCurly)) 0 _ e refl (reads_at T i (Block n) below (Some (SignKind OpenCurly)) 0 _ e refl)
goes_statement T i n below (Some (SignKind Semicolon)) e b = reads_at T i (Statement n) below (Some (SignKind Semicolon)) 0 _ e refl
goes_statement T i n below (Some (SignKind ColonColon)) e b = expands_at T i (Statement n) below (Some (SignKind ColonColon)) 0 _ e refl (goes_global T i _ e)
goes_statement T i n below (Some Name) e b = expands_at T i (Statement n) below (Some Name) 0 _ e refl (goes_name T i _ e)
goes_statement T i n below (Some (Word Const)) e b = reads_at T i (Statement n) below (Some (Word Const)) 0 _ e refl
goes_statement T i n below (Some (Word If)) e b = reads_at T i (Statement n) below (Some (Word If)) (n + 1) _ e refl
goes_statement T i n below (Some (Word While)) e b = reads_at T i (Statement n) below (Some (Word While)) (n + 1) _ e refl
goes_statement T i n below (Some (Word For)) e b = reads_at T i (Statement n) below (Some (Word For)) (n + 1) _ e refl
goes_statement T i n below (Some (Word Return)) e b = reads_at T i (Statement n) below (Some (Word Return)) 0 _ e refl
goes_statement T i n below (Some (Word Print)) e b = reads_at T i (Statement n) below (Some (Word Print)) 0 _ e refl
goes_statement T i n below (Some (Word BoolWord)) e b = goes_word T i n below (Some (Word BoolWord)) e refl refl
goes_statement T i n below (Some (Word IntWord)) e b = goes_word T i n below (Some (Word IntWord)) e refl refl
goes_statement T i n below (Some (Word UnsignedWord)) e b = goes_word T i n below (Some (Word UnsignedWord)) e refl refl
goes_statement T i n below (Some (Word HalfWord)) e b = goes_word T i n below (Some (Word HalfWord)) e refl refl
goes_statement T i n below (Some (Word FloatWord)) e b = goes_word T i n below (Some (Word FloatWord)) e refl refl
goes_statement T i n below _ e b = absurd (false≢true b)

pub goes_result : (T : List Lexeme) (i n : ℕ) (below : List Symbol) (k : Option TokenKind) → kind_at T i ≡ k → begins_result k ≡ true → Goes T i (Result n ∷ below)
goes_result T i n below (Some (Word Void)) e b = reads_at T i (Result n) below (Some (Word Void)) 0 _ e refl
goes_result T i n below k e b = expands_at T i (Result n) below k 0 (Shape ∷ Sizes n ∷ []) e refl (goes_shape T i (Sizes n ∷ below) k e b)

pub goes_function : (T : List Lexeme) (i n : ℕ) (below : List Symbol) (k : Option TokenKind) → kind_at T i ≡ k → begins_result k ≡ true
    → Goes T i (Result n ∷ TheName ∷ TheSign OpenRound ∷ Parameters n ∷ Block (n + 1) ∷ below)
goes_function T i n below k e b = goes_result T i n _ k e b

pub goes_definition : (T : List Lexeme) (i n : ℕ) (below : List Symbol) (k : Option TokenKind) → kind_at T i ≡ k → begins_definition k ≡ true → Goes T i (Definition n ∷ below)
goes_definition T i n below (Some (Word Namespace)) e b = reads_at T i (Definition n) below (Some (Word Namespace)) 0 _ e refl
goes_definition T i n below (Some (Word Struct)) e b = reads_at T i (Definition n) below (Some (Word Struct)) 0 _ e refl
goes_definition T i n below (Some (Word Const)) e b = reads_at T i (Definition n) below (Some (Word Const)) 0 _ e refl
goes_definition T i n below k e b = expands_at T i (Definition n) below k (n + 1) (Result n ∷ TheName ∷ TheSign OpenRound ∷ Parameters n ∷ Block (n + 1) ∷ []) e
    (ap (λ c. first_move c (n + 1) (Result n ∷ TheName ∷ TheSign OpenRound ∷ Parameters n ∷ Block (n + 1) ∷ [])) b) (goes_function T i n below k e b)
