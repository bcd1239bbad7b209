-- The moves of the symbols of statements, by what stands at the place.
use Rattle.std.proofs.Common.{arith, ◌≡◌, ◌≢◌, ◌⊎◌, inl, inr, ℕ, ◌+◌, [], ◌∷◌, true, false, cond, Option, Some, ap, refl}
use Rattle.ctl_tree.specs.declared.keyword.Keyword.TheVariants.{Bool as BoolWord, Int as IntWord, Unsigned as UnsignedWord, Half as HalfWord, Float as FloatWord, Const, If, Else, While, For, Return, Print}
use Rattle.ctl_tree.specs.declared.sign.Sign.{Sign}
use Rattle.ctl_tree.specs.declared.sign.Sign.TheVariants.{OpenRound, CloseRound, OpenSquare, CloseSquare, OpenCurly, CloseCurly, Comma, Semicolon, Dot, Assign, ColonColon}
use Rattle.ctl_tree.specs.declared.token.TokenKind.{TokenKind}
use Rattle.ctl_tree.specs.declared.token.TokenKind.TheVariants.{Word, Name, Text, Sign as SignKind}
use Rattle.grammar_machine.specs.Front.{is_sign, sees, begins_expr, begins_word_shape, begins_statement}
use Rattle.grammar_machine.specs.Machine.{TheSign, TheName, QualifiedName, Shape, Statement, Statements, AfterName, AfterForName, Arm, Elses, ForStart, Assignment, ReturnValue, Item, MoreItems, ArraySizes, Initialiser, Block, Steps, Expr, Move, Reads, Stops, Expands, first_move, variable_end, statements_move, statement_move, after_name_move, elses_move, after_else_move, for_start_move, after_for_name_move, return_move, item_move, more_items_move}
use Rattle.ctl_parser.specs.PrivateParts.{IsOther, goes_on_as_place, after_name}

-- a sign that must stand there

same_sign : (s t : Sign) → is_sign s t ≡ true → t ≡ s
same_sign OpenRound OpenRound e = refl
same_sign CloseRound CloseRound e = refl
same_sign CloseSquare CloseSquare e = refl
same_sign OpenCurly OpenCurly e = refl
same_sign CloseCurly CloseCurly e = refl
same_sign Semicolon Semicolon e = refl
same_sign Assign Assign e = refl
same_sign _ _ e = absurd cc

unseen : (s : Sign) (k : Option TokenKind) → k ≢ Some (SignKind s) → sees s k ≡ false
unseen s k lacks = grind (arith, same_sign, lacks)

pub no_bracket : (s : Sign) (then : Move) (k : Option TokenKind) → k ≢ Some (SignKind s) → cond (sees s k) then Stops ≡ Stops
no_bracket s then k lacks = ap (λ b. cond b then Stops) (unseen s k lacks)

-- blocks

pub open_block : (n : ℕ) (k : Option TokenKind) → k ≡ Some (SignKind OpenCurly) → cond (sees OpenCurly k) (Reads 0 (Statements n ∷ [])) Stops ≡ Reads 0 (Statements n ∷ [])
open_block n k e = ap (λ k. cond (sees OpenCurly k) (Reads 0 (Statements n ∷ [])) Stops) e

pub open_arm : (n : ℕ) (k : Option TokenKind) → k ≡ Some (SignKind OpenRound)
    → cond (sees OpenRound k) (Reads 0 (Expr (n + 1) ∷ TheSign CloseRound ∷ Statement (n + 1) ∷ [])) Stops ≡ Reads 0 (Expr (n + 1) ∷ TheSign CloseRound ∷ Statement (n + 1) ∷ [])
open_arm n k e = ap (λ k. cond (sees OpenRound k) (Reads 0 (Expr (n + 1) ∷ TheSign CloseRound ∷ Statement (n + 1) ∷ [])) Stops) e

pub no_statement : (n : ℕ) (k : Option TokenKind) → k ≢ Some (SignKind CloseCurly) → begins_statement k ≡ false → statements_move n k ≡ Stops
no_statement n (Some (SignKind CloseCurly)) h e = absurd (h refl)
no_statement n k h e = ap (λ b. first_move b (n + 1) (Statement (n + 1) ∷ Statements n ∷ [])) e

pub first_statement : (n : ℕ) (k : Option TokenKind) → begins_statement k ≡ true → statements_move n k ≡ Expands (n + 1) (Statement (n + 1) ∷ Statements n ∷ [])
first_statement n (Some (SignKind CloseCurly)) h = absurd cc
first_statement n k h = ap (λ b. first_move b (n + 1) (Statement (n + 1) ∷ Statements n ∷ [])) h

-- statements

pub named_statement : (n : ℕ) (k : Option TokenKind) → (k ≡ Some Name) ⊎ (k ≡ Some (SignKind ColonColon)) → statement_move n k ≡ Expands 0 (QualifiedName ∷ AfterName n ∷ [])
named_statement n k (inl e) = ap (statement_move n) e
named_statement n k (inr e) = ap (statement_move n) e

pub shape_statement : (n : ℕ) (k : Option TokenKind) → begins_word_shape k ≡ true → statement_move n k ≡ Expands 0 (Shape ∷ TheName ∷ variable_end n n)
shape_statement n (Some (Word BoolWord)) h = refl
shape_statement n (Some (Word IntWord)) h = refl
shape_statement n (Some (Word UnsignedWord)) h = refl
shape_statement n (Some (Word HalfWord)) h = refl
shape_statement n (Some (Word FloatWord)) h = refl
shape_statement n _ h = absurd cc

pub no_keyword : (n : ℕ) (k : Option TokenKind) → IsOther k → k ≢ Some (Word If) → k ≢ Some (Word While) → k ≢ Some (Word For) → k ≢ Some (Word Return) → k ≢ Some (Word Print) → k ≢ Some (Word Const)
    → statement_move n k ≡ Stops
no_keyword n (Some (SignKind OpenCurly)) o a b c d e f = absurd (o.3 refl)
no_keyword n (Some (SignKind Semicolon)) o a b c d e f = absurd (o.4 refl)
no_keyword n (Some (SignKind ColonColon)) o a b c d e f = absurd (o.2 refl)
no_keyword n (Some Name) o a b c d e f = absurd (o.1 refl)
no_keyword n (Some (Word If)) o a b c d e f = absurd (a refl)
no_keyword n (Some (Word While)) o a b c d e f = absurd (b refl)
no_keyword n (Some (Word For)) o a b c d e f = absurd (c refl)
no_keyword n (Some (Word Return)) o a b c d e f = absurd (d refl)
no_keyword n (Some (Word Print)) o a b c d e f = absurd (e refl)
no_keyword n (Some (Word Const)) o a b c d e f = absurd (f refl)
no_keyword n k o a b c d e f = ap (λ b. cond b (Expands 0 (Shape ∷ TheName ∷ variable_end n n)) Stops) o.0

pub no_else : (n : ℕ) (k : Option TokenKind) → k ≢ Some (Word Else) → elses_move n k ≡ Expands 0 []
no_else n (Some (Word Else)) h = absurd (h refl)
no_else n _ h = refl

pub no_if : (n : ℕ) (k : Option TokenKind) → k ≢ Some (Word If) → after_else_move n k ≡ Expands 0 (Statement (n + 1) ∷ [])
no_if n (Some (Word If)) h = absurd (h refl)
no_if n _ h = refl

pub some_value : (n : ℕ) (k : Option TokenKind) → k ≢ Some (SignKind Semicolon) → return_move n k ≡ Expands 0 (Expr n ∷ TheSign Semicolon ∷ [])
some_value n (Some (SignKind Semicolon)) h = absurd (h refl)
some_value n _ h = refl

-- keywords

pub if_move : (n : ℕ) (k : Option TokenKind) → k ≡ Some (Word If) → statement_move n k ≡ Reads (n + 1) (Arm n ∷ Elses n ∷ [])
if_move n k e = ap (statement_move n) e

pub while_move : (n : ℕ) (k : Option TokenKind) → k ≡ Some (Word While) → statement_move n k ≡ Reads (n + 1) (Arm n ∷ [])
while_move n k e = ap (statement_move n) e

pub for_move : (n : ℕ) (k : Option TokenKind) → k ≡ Some (Word For) → statement_move n k ≡ Reads (n + 1) (TheSign OpenRound ∷ ForStart n ∷ Expr (n + 1) ∷ TheSign Semicolon ∷ Assignment n (n + 1) ∷ TheSign CloseRound ∷ Statement (n + 1) ∷ [])
for_move n k e = ap (statement_move n) e

pub return_keyword_move : (n : ℕ) (k : Option TokenKind) → k ≡ Some (Word Return) → statement_move n k ≡ Reads 0 (ReturnValue n ∷ [])
return_keyword_move n k e = ap (statement_move n) e

pub print_move : (n : ℕ) (k : Option TokenKind) → k ≡ Some (Word Print) → statement_move n k ≡ Reads 0 (TheSign OpenRound ∷ Item n ∷ MoreItems n ∷ [])
print_move n k e = ap (statement_move n) e

pub const_move : (n : ℕ) (k : Option TokenKind) → k ≡ Some (Word Const) → statement_move n k ≡ Reads 0 (Shape ∷ TheName ∷ ArraySizes n ∷ TheSign Assign ∷ Initialiser n n ∷ TheSign Semicolon ∷ [])
const_move n k e = ap (statement_move n) e

pub block_move : (n : ℕ) (k : Option TokenKind) → k ≡ Some (SignKind OpenCurly) → statement_move n k ≡ Expands 0 (Block n ∷ [])
block_move n k e = ap (statement_move n) e

pub empty_move : (n : ℕ) (k : Option TokenKind) → k ≡ Some (SignKind Semicolon) → statement_move n k ≡ Reads 0 []
empty_move n k e = ap (statement_move n) e

-- what is printed

pub no_item : (n : ℕ) (k : Option TokenKind) → k ≢ Some Text → begins_expr k ≡ false → item_move n k ≡ Stops
no_item n (Some Text) h e = absurd (h refl)
no_item n k h e = ap (λ b. first_move b (n + 1) (Expr (n + 1) ∷ [])) e

pub expr_item : (n : ℕ) (k : Option TokenKind) → begins_expr k ≡ true → item_move n k ≡ Expands (n + 1) (Expr (n + 1) ∷ [])
expr_item n (Some Text) h = absurd cc
expr_item n k h = ap (λ b. first_move b (n + 1) (Expr (n + 1) ∷ [])) h

pub no_more_items : (n : ℕ) (k : Option TokenKind) → k ≢ Some (SignKind Comma) → k ≢ Some (SignKind CloseRound) → more_items_move n k ≡ Stops
no_more_items n (Some (SignKind Comma)) h h' = absurd (h refl)
no_more_items n (Some (SignKind CloseRound)) h h' = absurd (h' refl)
no_more_items n _ h h' = refl

-- after a name

pub in_statement : (n : ℕ) (k : Option TokenKind) → k ≢ Some (SignKind OpenRound) → after_name_move n k ≡ after_name n n k
in_statement n (Some (SignKind OpenRound)) h = absurd (h refl)
in_statement n (Some Name) h = refl
in_statement n (Some (SignKind OpenSquare)) h = refl
in_statement n (Some (SignKind Dot)) h = refl
in_statement n (Some (SignKind Assign)) h = refl
in_statement n _ h = refl

pub in_for : (n : ℕ) (k : Option TokenKind) → after_for_name_move n k ≡ after_name n (n + 1) k
in_for n (Some Name) = refl
in_for n (Some (SignKind OpenSquare)) = refl
in_for n (Some (SignKind Dot)) = refl
in_for n (Some (SignKind Assign)) = refl
in_for n _ = refl

pub place_goes_on : (n inner : ℕ) (k : Option TokenKind) → goes_on_as_place k ≡ true → after_name n inner k ≡ Expands 0 (Steps n ∷ TheSign Assign ∷ Expr inner ∷ TheSign Semicolon ∷ [])
place_goes_on n inner (Some (SignKind OpenSquare)) h = refl
place_goes_on n inner (Some (SignKind Dot)) h = refl
place_goes_on n inner (Some (SignKind Assign)) h = refl
place_goes_on n inner _ h = absurd cc

pub nothing_goes_on : (n inner : ℕ) (k : Option TokenKind) → k ≢ Some Name → goes_on_as_place k ≡ false → after_name n inner k ≡ Stops
nothing_goes_on n inner (Some Name) h e = absurd (h refl)
nothing_goes_on n inner (Some (SignKind OpenSquare)) h e = absurd cc
nothing_goes_on n inner (Some (SignKind Dot)) h e = absurd cc
nothing_goes_on n inner (Some (SignKind Assign)) h e = absurd cc
nothing_goes_on n inner _ h e = refl

-- the head of a `for`

pub named_start : (n : ℕ) (k : Option TokenKind) → (k ≡ Some Name) ⊎ (k ≡ Some (SignKind ColonColon)) → for_start_move n k ≡ Expands 0 (QualifiedName ∷ AfterForName n ∷ [])
named_start n k (inl e) = ap (for_start_move n) e
named_start n k (inr e) = ap (for_start_move n) e

pub shape_start : (n : ℕ) (k : Option TokenKind) → begins_word_shape k ≡ true → for_start_move n k ≡ Expands 0 (Shape ∷ TheName ∷ variable_end n (n + 1))
shape_start n (Some (Word BoolWord)) h = refl
shape_start n (Some (Word IntWord)) h = refl
shape_start n (Some (Word UnsignedWord)) h = refl
shape_start n (Some (Word HalfWord)) h = refl
shape_start n (Some (Word FloatWord)) h = refl
shape_start n _ h = absurd cc

pub no_start : (n : ℕ) (k : Option TokenKind) → k ≢ Some Name → k ≢ Some (SignKind ColonColon) → begins_word_shape k ≡ false → for_start_move n k ≡ Stops
no_start n (Some Name) h h' e = absurd (h refl)
no_start n (Some (SignKind ColonColon)) h h' e = absurd (h' refl)
no_start n k h h' e = ap (λ b. cond b (Expands 0 (Shape ∷ TheName ∷ variable_end n (n + 1))) Stops) e
