-- The machine passes over each expression.
use Rattle.std.proofs.Common.{◌≡◌, ◌≢◌, ℕ, ◌+◌, ◌<◌, Bool, true, cond, List, [], ◌∷◌, Option, Some, nat_lt, sym, ap, refl, le_of_eq}
use Rattle.std.proofs.lemmas.Bool.{false≢true, cond-true, cond-false, lt-ltb, le-ltb}
use Rattle.ctl_tree.specs.declared.keyword.Keyword.TheVariants.{True as TrueWord, False as FalseWord}
use Rattle.ctl_tree.specs.declared.sign.Sign.TheVariants.{Plus, Minus, Exclamation, Tilde, OpenRound, CloseRound, OpenSquare, Dot, ColonColon}
use Rattle.ctl_tree.specs.declared.token.TokenKind.{TokenKind}
use Rattle.ctl_tree.specs.declared.token.TokenKind.TheVariants.{Word, Name, Whole, Point, HalfPoint, Sign as SignKind}
use Rattle.ctl_tree.specs.declared.expression.LiteralValue.{LiteralValue}
use Rattle.ctl_tree.specs.declared.expression.UnaryOperator.{UnaryOperator}
use Rattle.ctl_tree.specs.declared.expression.Expr.{Expr}
use Rattle.ctl_tree.specs.declared.expression.Call.{Call}
use Rattle.ctl_tree.specs.declared.expression.Link.{Link}
use Rattle.ctl_tree.specs.declared.expression.Step.{Step}
use Rattle.ctl_tree.specs.Lexemes.{Lexeme, kind_at}
use Rattle.ctl_tree.specs.Names.{literal_of, unary_operator_of, operator_levels}
use Rattle.ctl_tree.specs.Expressions.{IsOperand, linked, alone, tightest, AreLinks, no_link, more_links, IsUnary, operated, plain, IsPostfix, stepped, bare, AreSteps, no_step, index_step, field_step, IsPrimary, literal, named, called, bracketed, IsCall, call_of, AreArguments, no_argument, arguments, AreMoreArguments, arguments_end, more_arguments}
use Rattle.grammar_machine.specs.Front.{begins_expr}
use Rattle.grammar_machine.specs.Machine.{Symbol, Operand, Links, UnaryForm, Postfix, Steps, Primary, QualifiedName, CallOrName, Arguments, MoreArguments, Expands, Expr as TheExpr, after_operator, after_unary, after_literal, steps_move, call_or_name_move, first_move, arguments_move, more_arguments_move, Passes}
use Rattle.grammar_machine.proofs.Steps.{two, done, pass, read, read_deeper, expand, expand_deeper, sign, word}
use Rattle.grammar_machine.proofs.PassNames.{at_name, passes_qualified_name}

-- what a token begins

pub literal_begins : (k : Option TokenKind) (value : LiteralValue) → literal_of k ≡ Some value → begins_expr k ≡ true
literal_begins (Some (Whole n)) value e = refl
literal_begins (Some (Point raw)) value e = refl
literal_begins (Some (HalfPoint raw)) value e = refl
literal_begins (Some (Word TrueWord)) value e = refl
literal_begins (Some (Word FalseWord)) value e = refl
literal_begins _ value e = absurd cc

pub operator_begins : (k : Option TokenKind) (operator : UnaryOperator) → unary_operator_of k ≡ Some operator → begins_expr k ≡ true
operator_begins (Some (SignKind Minus)) operator e = refl
operator_begins (Some (SignKind Plus)) operator e = refl
operator_begins (Some (SignKind Exclamation)) operator e = refl
operator_begins (Some (SignKind Tilde)) operator e = refl
operator_begins _ operator e = absurd cc

-- a token that begins no form of a kind

pub lacks_step : (n : ℕ) (k : Option TokenKind) → k ≢ Some (SignKind OpenSquare) → k ≢ Some (SignKind Dot) → steps_move n k ≡ Expands 0 []
lacks_step n (Some (SignKind OpenSquare)) h h' = absurd (h refl)
lacks_step n (Some (SignKind Dot)) h h' = absurd (h' refl)
lacks_step n _ h h' = refl

pub lacks_call : (n : ℕ) (k : Option TokenKind) → k ≢ Some (SignKind OpenRound) → call_or_name_move n k ≡ Expands 0 []
lacks_call n (Some (SignKind OpenRound)) h = absurd (h refl)
lacks_call n _ h = refl

-- a form is looked for where a token begins one
pub first_is : (b : Bool) (n : ℕ) (ys : List Symbol) → b ≡ true → first_move b n ys ≡ Expands n ys
first_is b n ys h = ap (λ b. first_move b n ys) h

pub first_argument : (n : ℕ) (k : Option TokenKind) → begins_expr k ≡ true → arguments_move n k ≡ Expands (n + 1) (TheExpr (n + 1) ∷ MoreArguments n ∷ [])
first_argument n (Some (SignKind CloseRound)) h = absurd (false≢true h)
first_argument n k h = first_is (begins_expr k) (n + 1) (TheExpr (n + 1) ∷ MoreArguments n ∷ []) h

pub looser : (level n : ℕ) → level < operator_levels
    → cond (nat_lt level operator_levels) (Expands 0 (Operand (level + 1) n ∷ Links level n ∷ [])) (Expands 0 (UnaryForm n ∷ [])) ≡ Expands 0 (Operand (level + 1) n ∷ Links level n ∷ [])
looser level n lt = cond-true (nat_lt level operator_levels) _ _ (lt-ltb level operator_levels lt)

pub tighter : (level n : ℕ) → level ≡ operator_levels
    → cond (nat_lt level operator_levels) (Expands 0 (Operand (level + 1) n ∷ Links level n ∷ [])) (Expands 0 (UnaryForm n ∷ [])) ≡ Expands 0 (UnaryForm n ∷ [])
tighter level n e = cond-false (nat_lt level operator_levels) _ _ (le-ltb level operator_levels (le_of_eq (sym e)))

module _ {T : List Lexeme} {L : Option ℕ} where
  pub call_begins : {n i j : ℕ} {call : Call} {X : Type 0} (f : Option TokenKind → X) (x : X) → f (Some Name) ≡ x → f (Some (SignKind ColonColon)) ≡ x → IsCall T L n i call j → f (kind_at T i) ≡ x
  call_begins f x at at' (call_of k name see h) = at_name f x at at' name

  mutual
    pub expr_begins : {level n i j : ℕ} {e : Expr} → IsOperand T L level n i e j → begins_expr (kind_at T i) ≡ true
    expr_begins (linked k lt h links some) = expr_begins h
    expr_begins (alone lt h none) = expr_begins h
    expr_begins (tightest e h) = unary_begins h

    pub unary_begins : {n i j : ℕ} {e : Expr} → IsUnary T L n i e j → begins_expr (kind_at T i) ≡ true
    unary_begins (operated {operator = operator} is within h) = operator_begins _ operator is
    unary_begins (plain none h) = postfix_begins h

    pub postfix_begins : {n i j : ℕ} {e : Expr} → IsPostfix T L n i e j → begins_expr (kind_at T i) ≡ true
    postfix_begins (stepped k h steps some) = primary_begins h
    postfix_begins (bare h none) = primary_begins h

    pub primary_begins : {n i j : ℕ} {e : Expr} → IsPrimary T L n i e j → begins_expr (kind_at T i) ≡ true
    primary_begins (literal {value = value} is e) = literal_begins _ value is
    primary_begins (named name lacks) = at_name begins_expr true refl refl name
    primary_begins (called c) = call_begins begins_expr true refl refl c
    primary_begins (bracketed k see within h close e) = ap begins_expr see

  mutual
    pub passes_operand : {level n i j : ℕ} {e : Expr} → IsOperand T L level n i e j → Passes T L (Operand level n ∷ []) i [] j
    passes_operand (linked {level = level} {n = n} k lt h links some) below = expand (looser level n lt) (pass (passes_operand h) (passes_links links below))
    passes_operand (alone {level = level} {n = n} lt h none) below = expand (looser level n lt) (pass (passes_operand h) (expand (ap (after_operator level n) none) (done refl)))
    passes_operand (tightest {level = level} {n = n} e h) below = expand (tighter level n e) (passes_unary h below)

    pub passes_links : {level n i j : ℕ} {links : List Link} → AreLinks T L level n i links j → Passes T L (Links level n ∷ []) i [] j
    passes_links (no_link {level = level} {n = n} none e) below = expand (ap (after_operator level n) none) (done e)
    passes_links (more_links {level = level} {n = n} k is h more) below = read (ap (after_operator level n) is) refl (pass (passes_operand h) (passes_links more below))

    pub passes_unary : {n i j : ℕ} {e : Expr} → IsUnary T L n i e j → Passes T L (UnaryForm n ∷ []) i [] j
    passes_unary (operated {n = n} is within h) below = read_deeper (ap (after_unary n) is) within refl (passes_unary h below)
    passes_unary (plain {n = n} none h) below = expand (ap (after_unary n) none) (passes_postfix h below)

    pub passes_postfix : {n i j : ℕ} {e : Expr} → IsPostfix T L n i e j → Passes T L (Postfix n ∷ []) i [] j
    passes_postfix (stepped k h steps some) below = expand refl (pass (passes_primary h) (passes_steps steps below))
    passes_postfix (bare h none) below = expand refl (pass (passes_primary h) (passes_steps none below))

    pub passes_steps : {n i j : ℕ} {steps : List Step} → AreSteps T L n i steps j → Passes T L (Steps n ∷ []) i [] j
    passes_steps (no_step {n = n} lacks lacks' e) below = expand (lacks_step n _ lacks lacks') (done e)
    passes_steps (index_step {n = n} k see within h close more) below =
        read_deeper (ap (steps_move n) see) within refl (pass (passes_operand h) (sign refl close refl (passes_steps more below)))
    passes_steps (field_step {n = n} {i = i} see name more) below = read (ap (steps_move n) see) refl (word name (two i) (passes_steps more below))

    pub passes_primary : {n i j : ℕ} {e : Expr} → IsPrimary T L n i e j → Passes T L (Primary n ∷ []) i [] j
    passes_primary (literal {n = n} {i = i} is e) below = read (ap (after_literal n (kind_at T i)) is) refl (done e)
    passes_primary (named {n = n} name lacks) below =
        expand (at_name (λ k. after_literal n k (literal_of k)) (Expands 0 (QualifiedName ∷ CallOrName n ∷ [])) refl refl name)
        (pass (passes_qualified_name name) (expand (lacks_call n _ lacks) (done refl)))
    passes_primary (called {n = n} c) below =
        expand (call_begins (λ k. after_literal n k (literal_of k)) (Expands 0 (QualifiedName ∷ CallOrName n ∷ [])) refl refl c) (passes_call c below)
    passes_primary (bracketed {n = n} k see within h close e) below =
        read_deeper (ap (λ k. after_literal n k (literal_of k)) see) within refl (pass (passes_operand h) (sign refl close refl (done e)))

    pub passes_call : {n i j : ℕ} {call : Call} → IsCall T L n i call j → Passes T L (QualifiedName ∷ CallOrName n ∷ []) i [] j
    passes_call (call_of {n = n} k name see h) below = pass (passes_qualified_name name) (read (ap (call_or_name_move n) see) refl (passes_arguments h below))

    pub passes_arguments : {n i j : ℕ} {es : List Expr} → AreArguments T L n i es j → Passes T L (Arguments n ∷ []) i [] j
    passes_arguments (no_argument {n = n} see e) below = read (ap (arguments_move n) see) refl (done e)
    passes_arguments (arguments {n = n} k within h more) below =
        expand_deeper (first_argument n _ (expr_begins h)) within (pass (passes_operand h) (passes_more_arguments more below))

    pub passes_more_arguments : {n i j : ℕ} {es : List Expr} → AreMoreArguments T L n i es j → Passes T L (MoreArguments n ∷ []) i [] j
    passes_more_arguments (arguments_end {n = n} see e) below = read (ap (more_arguments_move n) see) refl (done e)
    passes_more_arguments (more_arguments {n = n} k see within h more) below =
        read (ap (more_arguments_move n) see) refl (pass (passes_operand h) (passes_more_arguments more below))
