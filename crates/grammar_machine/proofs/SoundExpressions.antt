-- The moves of expressions are right.
use Rattle.std.proofs.Common.{◌≡◌, ℕ, ◌+◌, ◌-◌, ◌<◌, ◌≤◌, Bool, true, false, List, [], ◌∷◌, nat_lt, cond, sym, ap, subst, ◌∙◌, refl, Option, Some, None, arith}
use Rattle.std.proofs.lemmas.Bool.{ltb-true, ltb-false, lt-ltb, and_from}
use Rattle.ctl_tree.specs.declared.sign.Sign.TheVariants.{OpenRound, CloseRound, OpenSquare, Comma, Dot, ColonColon}
use Rattle.ctl_tree.specs.declared.token.TokenKind.{TokenKind}
use Rattle.ctl_tree.specs.declared.token.TokenKind.TheVariants.{Name, Sign as SignKind}
use Rattle.ctl_tree.specs.declared.expression.QualifiedName.{QualifiedName as NameForm}
use Rattle.ctl_tree.specs.declared.expression.Expr.{Expr as ExprForm}
use Rattle.ctl_tree.specs.declared.expression.Link.{Link}
use Rattle.ctl_tree.specs.declared.expression.Step.{Step}
use Rattle.ctl_tree.specs.declared.expression.LiteralValue.{LiteralValue}
use Rattle.ctl_tree.specs.declared.expression.Operator.{Operator}
use Rattle.ctl_tree.specs.declared.expression.UnaryOperator.{UnaryOperator}
use Rattle.ctl_tree.specs.Lexemes.{Lexeme, kind_at}
use Rattle.ctl_tree.specs.Names.{literal_of, unary_operator_of, operator_levels, operator_of, IsQualifiedName}
use Rattle.ctl_tree.specs.Expressions.{IsOperand, AreLinks, IsPostfix, AreSteps, IsPrimary}
use Rattle.ctl_tree.specs.Expressions.IsOperand.{linked, alone, tightest}
use Rattle.ctl_tree.specs.Expressions.AreLinks.{no_link, more_links}
use Rattle.ctl_tree.specs.Expressions.IsUnary.{operated, plain}
use Rattle.ctl_tree.specs.Expressions.IsPostfix.{stepped, bare}
use Rattle.ctl_tree.specs.Expressions.AreSteps.{no_step, index_step, field_step}
use Rattle.ctl_tree.specs.Expressions.IsPrimary.{literal, named, called, bracketed}
use Rattle.ctl_tree.specs.Expressions.IsCall.{call_of}
use Rattle.ctl_tree.specs.Expressions.AreArguments.{no_argument, arguments}
use Rattle.ctl_tree.specs.Expressions.AreMoreArguments.{arguments_end, more_arguments}
use Rattle.grammar_machine.specs.Front.{begins_expr}
use Rattle.grammar_machine.specs.Machine.{Expr, after_operator, after_unary, after_literal, steps_move, call_or_name_move, arguments_move, more_arguments_move}
use Rattle.grammar_machine.specs.Machine.Symbol.{Operand, Links, UnaryForm, Postfix, Steps, Primary, CallOrName, Arguments, MoreArguments}
use Rattle.grammar_machine.specs.Machine.Move.{Expands}
use Rattle.grammar_machine.proofs.Order.{is_ordered}
use Rattle.grammar_machine.proofs.Meaning.{Sound}
use Rattle.grammar_machine.proofs.Steps.{two}
use Rattle.grammar_machine.proofs.Tokens.{lacks, is_read, sound_first}

-- the loosest level is a level
pub loosest : 0 ≤ operator_levels
loosest = omega arith

-- an operand with the links after it
pub joined : (T : List Lexeme) (L : Option ℕ) (level n i k j : ℕ) (first : ExprForm) (links : List Link) → level < operator_levels → IsOperand T L (level + 1) n i first k
    → AreLinks T L level n k links j → (e : ExprForm) × IsOperand T L level n i e j
joined T L level n i k j first links lt operand (no_link none same) = (
  first,
  alone lt (subst (λ p. IsOperand T L (level + 1) n i first p) (sym same) operand)
      (subst (λ p. operator_of level (kind_at T p) ≡ None) (sym same) none),
)
joined T L level n i k j first links lt operand (more_links m operator next more) = (_, linked k lt operand (more_links m operator next more) (λ e. cc))

-- an operand of a tighter level is lighter, and so is a unary form
tighter_lighter : (level n : ℕ) → level < operator_levels → is_ordered (Operand level n) (Expands 0 (Operand (level + 1) n ∷ Links level n ∷ [])) ≡ true
tighter_lighter level n lt = and_from _ _ (lt-ltb (4 + (operator_levels - (level + 1)) + 0) (4 + (operator_levels - level)) (omega arith)) refl

unary_lighter : (level n : ℕ) → is_ordered (Operand level n) (Expands 0 (UnaryForm n ∷ [])) ≡ true
unary_lighter level n = and_from _ _ (lt-ltb 3 (4 + (operator_levels - level)) (omega arith)) refl

pub sound_operand : (T : List Lexeme) (L : Option ℕ) (i level n : ℕ) (b : Bool) → nat_lt level operator_levels ≡ b
    → Sound T L i (Operand level n) (cond b (Expands 0 (Operand (level + 1) n ∷ Links level n ∷ [])) (Expands 0 (UnaryForm n ∷ [])))
sound_operand T L i level n true e =
    let lt : level < operator_levels = ltb-true level operator_levels e in
    (λ w j h le. joined T L level n i h.0 j _ _ lt (h.1 (omega arith)).1 (h.2 lt).1, λ below f. f, tighter_lighter level n lt)
sound_operand T L i level n false e =
    let ge : operator_levels ≤ level = ltb-false level operator_levels e in
    (λ w j h le. (_, tightest (omega arith) h.1), λ below f. f, unary_lighter level n)

pub sound_links : (T : List Lexeme) (L : Option ℕ) (i level n : ℕ) (o : Option Operator) → operator_of level (kind_at T i) ≡ o → Sound T L i (Links level n) (after_operator level n o)
sound_links T L i level n (Some operator) e = (λ w j h lt. (_, more_links h.0 e (h.1 (omega arith)).1 (h.2 lt).1), λ below f. f, refl)
sound_links T L i level n None e = (λ w j h lt. ([], no_link e h), λ below f. f, refl)

pub sound_unary : (T : List Lexeme) (L : Option ℕ) (i n : ℕ) (o : Option UnaryOperator) → unary_operator_of (kind_at T i) ≡ o → Sound T L i (UnaryForm n) (after_unary n o)
sound_unary T L i n (Some operator) e = (λ w j h. (_, operated e w h.1), λ below f. f, refl)
sound_unary T L i n None e = (λ w j h. (_, plain e h.1), λ below f. f, refl)

-- a primary form with the steps after it
pub walked : (T : List Lexeme) (L : Option ℕ) (n i k j : ℕ) (root : ExprForm) (steps : List Step) → IsPrimary T L n i root k → AreSteps T L n k steps j
    → (e : ExprForm) × IsPostfix T L n i e j
walked T L n i k j root steps primary (no_step square dot same) =
    (root, bare (subst (λ p. IsPrimary T L n i root p) (sym same) primary) (subst (λ p. AreSteps T L n p [] p) (sym same) (no_step square dot refl)))
walked T L n i k j root steps primary (index_step m opened within index close more) = (_, stepped k primary (index_step m opened within index close more) (λ e. cc))
walked T L n i k j root steps primary (field_step dot name more) = (_, stepped k primary (field_step dot name more) (λ e. cc))

pub sound_postfix : (T : List Lexeme) (L : Option ℕ) (i n : ℕ) → Sound T L i (Postfix n) (Expands 0 (Primary n ∷ Steps n ∷ []))
sound_postfix T L i n = (λ w j h. walked T L n i h.0 j _ _ h.1.1 h.2.1, λ below f. f, refl)

pub sound_steps : (T : List Lexeme) (L : Option ℕ) (i n : ℕ) (k : Option TokenKind) → kind_at T i ≡ k → Sound T L i (Steps n) (steps_move n k)
sound_steps T L i n (Some (SignKind OpenSquare)) e =
    (λ w j h. (_, index_step h.0 e w (h.1 loosest).1 h.2.1.0 (subst (λ p. AreSteps T L n p h.2.2.0 j) h.2.1.1 h.2.2.1)), λ below f. f, refl)
sound_steps T L i n (Some (SignKind Dot)) e = (λ w j h. (_, field_step e (h.1.0, refl) (subst (λ p. AreSteps T L n p h.2.0 j) (h.1.1 ∙ two i) h.2.1)), λ below f. f, refl)
sound_steps T L i n _ e = (λ w j h. ([], no_step (lacks (λ k. is_read (steps_move n k)) e refl refl) (lacks (λ k. is_read (steps_move n k)) e refl refl) h), λ below f. f, refl)

pub sound_primary : (T : List Lexeme) (L : Option ℕ) (i n : ℕ) (k : Option TokenKind) (o : Option LiteralValue) → kind_at T i ≡ k → literal_of k ≡ o → Sound T L i (Primary n) (after_literal n k o)
sound_primary T L i n k (Some value) e v = (λ w j h. (_, literal (ap literal_of e ∙ v) h), λ below f. f, refl)
sound_primary T L i n (Some Name) None e v = (λ w j h. h.2 i _ h.1.1, λ below f. f, refl)
sound_primary T L i n (Some (SignKind ColonColon)) None e v = (λ w j h. h.2 i _ h.1.1, λ below f. f, refl)
sound_primary T L i n (Some (SignKind OpenRound)) None e v = (λ w j h. (_, bracketed h.0 e w (h.1 loosest).1 h.2.0 h.2.1), λ below f. f, refl)
sound_primary T L i n _ None e v = tt

pub sound_call_or_name : (T : List Lexeme) (L : Option ℕ) (i n : ℕ) (k : Option TokenKind) → kind_at T i ≡ k → Sound T L i (CallOrName n) (call_or_name_move n k)
sound_call_or_name T L i n (Some (SignKind OpenRound)) e = (λ w j h p name q. (_, called (call_of i q e h.1)), λ below f. f, refl)
sound_call_or_name T L i n _ e = (λ w j h p name q. named_at T L n p i j h q (lacks (λ k. is_read (call_or_name_move n k)) e refl refl), λ below f. f, refl)
  where
    named_at : (T : List Lexeme) (L : Option ℕ) (n p i j : ℕ) {name : NameForm} → j ≡ i → IsQualifiedName T p name i → (kind_at T i ≡ Some (SignKind OpenRound) → ⊥) → (e : ExprForm) × IsPrimary T L n p e j
    named_at T L n p i j {name} same q lacking = (_, named (subst (λ m. IsQualifiedName T p name m) (sym same) q) (subst (λ m. kind_at T m ≡ Some (SignKind OpenRound) → ⊥) (sym same) lacking))

pub sound_arguments : (T : List Lexeme) (L : Option ℕ) (i n : ℕ) (k : Option TokenKind) → kind_at T i ≡ k → Sound T L i (Arguments n) (arguments_move n k)
sound_arguments T L i n (Some (SignKind CloseRound)) e = (λ w j h. ([], no_argument e h), λ below f. f, refl)
sound_arguments T L i n k e = sound_first T L i (n + 1) (Arguments n) (Expr (n + 1) ∷ MoreArguments n ∷ []) (begins_expr k)
    (λ w j h. (_, arguments h.0 w (h.1 loosest).1 (h.2 w).1)) (λ below f. f) refl

pub sound_more_arguments : (T : List Lexeme) (L : Option ℕ) (i n : ℕ) (k : Option TokenKind) → kind_at T i ≡ k → Sound T L i (MoreArguments n) (more_arguments_move n k)
sound_more_arguments T L i n (Some (SignKind Comma)) e = (λ w j h within. (_, more_arguments h.0 e within (h.1 loosest).1 (h.2 within).1), λ below f. f, refl)
sound_more_arguments T L i n (Some (SignKind CloseRound)) e = (λ w j h within. ([], arguments_end e h), λ below f. f, refl)
sound_more_arguments T L i n _ e = tt
