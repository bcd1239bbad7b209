-- What is missing at a place: the moves of symbols that stop there.
use Rattle.std.proofs.Common.{arith, ◌≡◌, ◌≢◌, ◌⊎◌, inl, inr, ℕ, ◌+◌, [], ◌∷◌, true, false, Option, Some, None, ap, refl}
use Rattle.ctl_tree.specs.declared.keyword.Keyword.TheVariants.{Unsigned, Bool as BoolWord, Int as IntWord, Half as HalfWord, Float as FloatWord, True as TrueWord, False as FalseWord}
use Rattle.ctl_tree.specs.declared.sign.Sign.{Sign}
use Rattle.ctl_tree.specs.declared.sign.Sign.TheVariants.{OpenRound, CloseRound, OpenSquare, CloseSquare, OpenCurly, CloseCurly, Comma, Semicolon, Dot, Assign, ColonColon}
use Rattle.ctl_tree.specs.declared.token.TokenKind.{TokenKind}
use Rattle.ctl_tree.specs.declared.token.TokenKind.TheVariants.{Word, Name, Whole, Point, HalfPoint, Sign as SignKind}
use Rattle.ctl_tree.specs.declared.expression.LiteralValue.{LiteralValue}
use Rattle.ctl_tree.specs.Names.{literal_of}
use Rattle.grammar_machine.specs.Front.{is_sign, sees, begins_expr}
use Rattle.grammar_machine.specs.Machine.{TheSign, QualifiedName, CallOrName, MoreArguments, Expr, Reads, Stops, Expands, read_if, first_move, name_move, qualified_move, shape_word_move, may_int_move, more_names_move, call_or_name_move, steps_move, after_literal, arguments_move, more_arguments_move, sizes_move, array_sizes_move, array_size_move, initialiser_move, more_elements_move, value_move}
use Rattle.ctl_parser_expr.specs.Lookup.{shape_of_token}

same_sign : (s t : Sign) → is_sign s t ≡ true → t ≡ s
same_sign OpenRound OpenRound e = refl
same_sign CloseRound CloseRound e = refl
same_sign CloseSquare CloseSquare e = refl
same_sign OpenCurly OpenCurly e = refl
same_sign CloseCurly CloseCurly e = refl
same_sign Semicolon Semicolon e = refl
same_sign Assign Assign e = refl
same_sign _ _ e = absurd cc

unseen : (s : Sign) (k : Option TokenKind) → k ≢ Some (SignKind s) → sees s k ≡ false
unseen s k lacks = grind (arith, same_sign, lacks)

pub no_sign : (s : Sign) (k : Option TokenKind) → k ≢ Some (SignKind s) → read_if (sees s k) ≡ Stops
no_sign s k lacks = ap read_if (unseen s k lacks)

pub no_name : (k : Option TokenKind) → k ≢ Some Name → name_move k ≡ Stops
no_name (Some Name) lacks = absurd (lacks refl)
no_name _ lacks = refl

pub no_qualified_name : (k : Option TokenKind) → k ≢ Some Name → k ≢ Some (SignKind ColonColon) → qualified_move k ≡ Stops
no_qualified_name (Some Name) h h' = absurd (h refl)
no_qualified_name (Some (SignKind ColonColon)) h h' = absurd (h' refl)
no_qualified_name _ h h' = refl

pub no_shape : (k : Option TokenKind) → shape_of_token k ≡ None → k ≢ Some (Word Unsigned) → k ≢ Some Name → k ≢ Some (SignKind ColonColon) → shape_word_move k ≡ Stops
no_shape (Some Name) e h h' h'' = absurd (h' refl)
no_shape (Some (SignKind ColonColon)) e h h' h'' = absurd (h'' refl)
no_shape (Some (Word Unsigned)) e h h' h'' = absurd (h refl)
no_shape (Some (Word BoolWord)) e h h' h'' = absurd cc
no_shape (Some (Word IntWord)) e h h' h'' = absurd cc
no_shape (Some (Word HalfWord)) e h h' h'' = absurd cc
no_shape (Some (Word FloatWord)) e h h' h'' = absurd cc
no_shape _ e h h' h'' = refl

-- what may be missing: the moves of symbols that go away there

pub no_int : (k : Option TokenKind) → k ≢ Some (Word IntWord) → may_int_move k ≡ Expands 0 []
no_int (Some (Word IntWord)) h = absurd (h refl)
no_int _ h = refl

pub no_more_names : (k : Option TokenKind) → k ≢ Some (SignKind ColonColon) → more_names_move k ≡ Expands 0 []
no_more_names (Some (SignKind ColonColon)) h = absurd (h refl)
no_more_names _ h = refl

pub no_call : (n : ℕ) (k : Option TokenKind) → k ≢ Some (SignKind OpenRound) → call_or_name_move n k ≡ Expands 0 []
no_call n (Some (SignKind OpenRound)) h = absurd (h refl)
no_call n _ h = refl

pub no_steps : (n : ℕ) (k : Option TokenKind) → k ≢ Some (SignKind OpenSquare) → k ≢ Some (SignKind Dot) → steps_move n k ≡ Expands 0 []
no_steps n (Some (SignKind OpenSquare)) h h' = absurd (h refl)
no_steps n (Some (SignKind Dot)) h h' = absurd (h' refl)
no_steps n _ h h' = refl

-- expressions

pub name_primary : (n : ℕ) (k : Option TokenKind) → (k ≡ Some Name) ⊎ (k ≡ Some (SignKind ColonColon)) → after_literal n k (literal_of k) ≡ Expands 0 (QualifiedName ∷ CallOrName n ∷ [])
name_primary n k (inl e) = ap (λ k. after_literal n k (literal_of k)) e
name_primary n k (inr e) = ap (λ k. after_literal n k (literal_of k)) e

pub bracket : (n : ℕ) (k : Option TokenKind) → k ≡ Some (SignKind OpenRound) → after_literal n k (literal_of k) ≡ Reads (n + 1) (Expr (n + 1) ∷ TheSign CloseRound ∷ [])
bracket n k e = ap (λ k. after_literal n k (literal_of k)) e

pub literal_there : (k : Option TokenKind) (value : LiteralValue) → literal_of k ≡ Some value → k ≡ None → ⊥
literal_there None value is e = absurd cc
literal_there (Some token) value is e = absurd cc

pub no_primary : (n : ℕ) (k : Option TokenKind) → literal_of k ≡ None → k ≢ Some (SignKind OpenRound) → k ≢ Some Name → k ≢ Some (SignKind ColonColon) → after_literal n k (literal_of k) ≡ Stops
no_primary n (Some Name) e h h' h'' = absurd (h' refl)
no_primary n (Some (SignKind OpenRound)) e h h' h'' = absurd (h refl)
no_primary n (Some (SignKind ColonColon)) e h h' h'' = absurd (h'' refl)
no_primary n (Some (Whole m)) e h h' h'' = absurd cc
no_primary n (Some (Point raw)) e h h' h'' = absurd cc
no_primary n (Some (HalfPoint raw)) e h h' h'' = absurd cc
no_primary n (Some (Word TrueWord)) e h h' h'' = absurd cc
no_primary n (Some (Word FalseWord)) e h h' h'' = absurd cc
no_primary n _ e h h' h'' = refl

pub no_arguments : (n : ℕ) (k : Option TokenKind) → k ≢ Some (SignKind CloseRound) → begins_expr k ≡ false → arguments_move n k ≡ Stops
no_arguments n (Some (SignKind CloseRound)) h e = absurd (h refl)
no_arguments n k h e = ap (λ b. first_move b (n + 1) (Expr (n + 1) ∷ MoreArguments n ∷ [])) e

pub first_argument : (n : ℕ) (k : Option TokenKind) → begins_expr k ≡ true → arguments_move n k ≡ Expands (n + 1) (Expr (n + 1) ∷ MoreArguments n ∷ [])
first_argument n (Some (SignKind CloseRound)) h = absurd cc
first_argument n k h = ap (λ b. first_move b (n + 1) (Expr (n + 1) ∷ MoreArguments n ∷ [])) h

pub no_more_arguments : (n : ℕ) (k : Option TokenKind) → k ≢ Some (SignKind Comma) → k ≢ Some (SignKind CloseRound) → more_arguments_move n k ≡ Stops
no_more_arguments n (Some (SignKind Comma)) h h' = absurd (h refl)
no_more_arguments n (Some (SignKind CloseRound)) h h' = absurd (h' refl)
no_more_arguments n _ h h' = refl

-- declarations

pub no_sizes : (n : ℕ) (k : Option TokenKind) → k ≢ Some (SignKind OpenSquare) → sizes_move n k ≡ Expands 0 []
no_sizes n (Some (SignKind OpenSquare)) h = absurd (h refl)
no_sizes n _ h = refl

pub no_array_sizes : (n : ℕ) (k : Option TokenKind) → k ≢ Some (SignKind OpenSquare) → array_sizes_move n k ≡ Expands 0 []
no_array_sizes n (Some (SignKind OpenSquare)) h = absurd (h refl)
no_array_sizes n _ h = refl

pub no_array_size : (n : ℕ) (k : Option TokenKind) → k ≢ Some (SignKind CloseSquare) → begins_expr k ≡ false → array_size_move n k ≡ Stops
no_array_size n (Some (SignKind CloseSquare)) h e = absurd (h refl)
no_array_size n k h e = ap (λ b. first_move b (n + 1) (Expr (n + 1) ∷ TheSign CloseSquare ∷ [])) e

pub stated_size : (n : ℕ) (k : Option TokenKind) → begins_expr k ≡ true → array_size_move n k ≡ Expands (n + 1) (Expr (n + 1) ∷ TheSign CloseSquare ∷ [])
stated_size n (Some (SignKind CloseSquare)) h = absurd cc
stated_size n k h = ap (λ b. first_move b (n + 1) (Expr (n + 1) ∷ TheSign CloseSquare ∷ [])) h

pub no_brace : (n inner : ℕ) (k : Option TokenKind) → k ≢ Some (SignKind OpenCurly) → initialiser_move n inner k ≡ Expands 0 (Expr inner ∷ [])
no_brace n inner (Some (SignKind OpenCurly)) h = absurd (h refl)
no_brace n inner _ h = refl

pub no_more_elements : (n : ℕ) (k : Option TokenKind) → k ≢ Some (SignKind Comma) → k ≢ Some (SignKind CloseCurly) → more_elements_move n k ≡ Stops
no_more_elements n (Some (SignKind Comma)) h h' = absurd (h refl)
no_more_elements n (Some (SignKind CloseCurly)) h h' = absurd (h' refl)
no_more_elements n _ h h' = refl

pub no_value : (n inner : ℕ) (k : Option TokenKind) → k ≢ Some (SignKind Assign) → value_move n inner k ≡ Expands 0 []
no_value n inner (Some (SignKind Assign)) h = absurd (h refl)
no_value n inner _ h = refl
