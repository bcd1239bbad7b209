-- The moves of statements are right.
use Rattle.std.proofs.Common.{◌≡◌, ℕ, ◌+◌, Bool, true, false, List, [], ◌∷◌, cond, ap, subst, ◌∙◌, refl, Option, Some, None}
use Rattle.ctl_tree.specs.declared.keyword.Keyword.TheVariants.{Const, If as IfWord, Else as ElseWord, While as WhileWord, For as ForWord, Return as ReturnWord, Print as PrintWord}
use Rattle.ctl_tree.specs.declared.sign.Sign.TheVariants.{OpenRound, CloseRound, OpenSquare, OpenCurly, CloseCurly, Comma, Semicolon, Assign, Dot, ColonColon}
use Rattle.ctl_tree.specs.declared.token.TokenKind.{TokenKind}
use Rattle.ctl_tree.specs.declared.token.TokenKind.TheVariants.{Word, Name, Text as TextToken, Sign as SignKind}
use Rattle.ctl_tree.specs.declared.expression.QualifiedName.{QualifiedName as NameForm}
use Rattle.ctl_tree.specs.declared.statement.Arm.{Arm as ArmForm}
use Rattle.ctl_tree.specs.declared.statement.ForStart.{ForStart as ForStartForm}
use Rattle.ctl_tree.specs.declared.statement.Statement.{Statement as StatementForm}
use Rattle.ctl_tree.specs.Lexemes.{Lexeme, kind_at, Within}
use Rattle.ctl_tree.specs.Names.{IsQualifiedName}
use Rattle.ctl_tree.specs.Names.IsShape.{named_shape}
use Rattle.ctl_tree.specs.Expressions.IsCall.{call_of}
use Rattle.ctl_tree.specs.Declarations.{IsVariable}
use Rattle.ctl_tree.specs.Statements.{IsAssignment, IsItem, IsForStart, IsStatement, IsArm}
use Rattle.ctl_tree.specs.Statements.IsAssignment.{assignment}
use Rattle.ctl_tree.specs.Statements.IsItem.{text_item, expr_item}
use Rattle.ctl_tree.specs.Statements.AreMoreItems.{items_end, more_items}
use Rattle.ctl_tree.specs.Statements.IsForStart.{variable_start, assignment_start}
use Rattle.ctl_tree.specs.Statements.IsStatement.{block_statement, constant_statement, variable_statement, assignment_statement, call_statement, if_statement, while_statement, for_statement, return_nothing, return_value, print_statement, empty_statement}
use Rattle.ctl_tree.specs.Statements.IsBlock.{block}
use Rattle.ctl_tree.specs.Statements.AreStatements.{statements_end, statements}
use Rattle.ctl_tree.specs.Statements.IsArm.{arm}
use Rattle.ctl_tree.specs.Statements.AreElses.{no_else, last_else, more_arms}
use Rattle.grammar_machine.specs.Front.{sees, begins_expr, begins_word_shape, begins_statement}
use Rattle.grammar_machine.specs.Machine.{Expr, statements_move, variable_end, statement_move, after_name_move, elses_move, after_else_move, for_start_move, after_for_name_move, return_move, item_move, more_items_move}
use Rattle.grammar_machine.specs.Machine.Symbol.{TheSign, TheName, QualifiedName, Shape, Steps, Block, Statements, Statement, AfterName, Assignment as AssignmentSymbol, Arm, Elses, AfterElse, ForStart, AfterForName, ReturnValue, Item, MoreItems}
use Rattle.grammar_machine.specs.Machine.Move.{Reads, Expands, Stops}
use Rattle.grammar_machine.proofs.Meaning.{Means, MeansFrom, Sound}
use Rattle.grammar_machine.proofs.Steps.{two}
use Rattle.grammar_machine.proofs.Tokens.{lacks, is_read, sees_sign, first_unread, sound_first}
use Rattle.grammar_machine.proofs.SoundExpressions.{loosest}
use Rattle.grammar_machine.proofs.SoundDeclarations.{constant_after, variable_from}

pub sound_block : (T : List Lexeme) (L : Option ℕ) (i n : ℕ) (b : Bool) → sees OpenCurly (kind_at T i) ≡ b → Sound T L i (Block n) (cond b (Reads 0 (Statements n ∷ [])) Stops)
sound_block T L i n true e = (λ w j h. (_, block (sees_sign OpenCurly (kind_at T i) e) h.1), λ below f. f, refl)
sound_block T L i n false e = tt

pub sound_statements : (T : List Lexeme) (L : Option ℕ) (i n : ℕ) (k : Option TokenKind) → kind_at T i ≡ k → Sound T L i (Statements n) (statements_move n k)
sound_statements T L i n (Some (SignKind CloseCurly)) e = (λ w j h. ([], statements_end e h), λ below f. f, refl)
sound_statements T L i n k e = sound_first T L i (n + 1) (Statements n) (Statement (n + 1) ∷ Statements n ∷ []) (begins_statement k)
    (λ w j h. (_, statements h.0 (lacks (λ k. is_read (statements_move n k)) e (first_unread (begins_statement k) (n + 1) (Statement (n + 1) ∷ Statements n ∷ [])) refl) w h.1.1 h.2.1)) (λ below f. f) refl

-- a sequence that ends an assignment: steps, `=`, an expression, `;`
pub place_after : (T : List Lexeme) (L : Option ℕ) (n inner h i j : ℕ) (root : NameForm) → IsQualifiedName T h root i → MeansFrom T L (Steps n ∷ TheSign Assign ∷ Expr inner ∷ []) i j
    → Means T L (AssignmentSymbol n inner) h j
place_after T L n inner h i j root q (k, steps, (m, assigned, valued)) = (_, assignment i k q steps.1 assigned.0 (subst (λ a. Means T L (Expr inner) a j) assigned.1 valued loosest).1)

-- the same with a semicolon
pub ended_after : (T : List Lexeme) (L : Option ℕ) (n inner h i j : ℕ) (root : NameForm) → IsQualifiedName T h root i → MeansFrom T L (Steps n ∷ TheSign Assign ∷ Expr inner ∷ TheSign Semicolon ∷ []) i j
    → (p : ℕ) × Means T L (AssignmentSymbol n inner) h p × (kind_at T p ≡ Some (SignKind Semicolon)) × (j ≡ p + 1)
ended_after T L n inner h i j root q (k, steps, (m, assigned, (p, valued, ended))) = (p, place_after T L n inner h i p root q (k, steps, (m, assigned, valued)), ended.0, ended.1)

pub assigned_statement : (T : List Lexeme) (L : Option ℕ) (n h i j : ℕ) (root : NameForm) → IsQualifiedName T h root i → MeansFrom T L (Steps n ∷ TheSign Assign ∷ Expr n ∷ TheSign Semicolon ∷ []) i j
    → (s : StatementForm) × IsStatement T L n h s j
assigned_statement T L n h i j root q whole = let d = ended_after T L n n h i j root q whole in (_, assignment_statement d.0 d.1.1 d.2 d.3)

pub assigned_start : (T : List Lexeme) (L : Option ℕ) (n h i j : ℕ) (root : NameForm) → IsQualifiedName T h root i → MeansFrom T L (Steps n ∷ TheSign Assign ∷ Expr (n + 1) ∷ TheSign Semicolon ∷ []) i j
    → (s : ForStartForm) × IsForStart T L n h s j
assigned_start T L n h i j root q whole = let d = ended_after T L n (n + 1) h i j root q whole in (_, assignment_start d.0 d.1.1 d.2 d.3)

-- a variable whose shape is a name
pub variable_after : (T : List Lexeme) (L : Option ℕ) (n inner h i j : ℕ) (root : NameForm) → IsQualifiedName T h root i → MeansFrom T L (TheName ∷ variable_end n inner) i j
    → (v : _) × IsVariable T L n inner h v j
variable_after T L n inner h i j root q (m, name, whole) = variable_from T L h n inner j i m (_, named_shape q) name.0 name.1 whole

-- a variable from its shape on
pub variable_whole : (T : List Lexeme) (L : Option ℕ) (n inner i j : ℕ) → MeansFrom T L (Shape ∷ TheName ∷ variable_end n inner) i j → (v : _) × IsVariable T L n inner i v j
variable_whole T L n inner i j (k, shape, (m, name, whole)) = variable_from T L i n inner j k m shape name.0 name.1 whole

pub while_of : (T : List Lexeme) (L : Option ℕ) (n i j : ℕ) (a : ArmForm) → kind_at T i ≡ Some (Word WhileWord) → IsArm T L n (i + 1) a j → (s : StatementForm) × IsStatement T L n i s j
while_of T L n i j a e (arm k opened within test closed body) = (_, while_statement e (arm k opened within test closed body))

pub for_after : (T : List Lexeme) (L : Option ℕ) (n i j : ℕ) → Within L (n + 1) → kind_at T i ≡ Some (Word ForWord)
    → MeansFrom T L (TheSign OpenRound ∷ ForStart n ∷ Expr (n + 1) ∷ TheSign Semicolon ∷ AssignmentSymbol n (n + 1) ∷ TheSign CloseRound ∷ Statement (n + 1) ∷ []) (i + 1) j
    → (s : StatementForm) × IsStatement T L n i s j
for_after T L n i j w e (a, opened, (b, started, (c, test, (d, ended, (f, next, (g, closed, body)))))) = (
  _,
  for_statement b c f e opened.0 w (subst (λ p. IsForStart T L n p started.0 b) (opened.1 ∙ two i) started.1) (test loosest).1 ended.0
      (subst (λ p. IsAssignment T L n (n + 1) p next.0 f) ended.1 next.1) closed.0 (subst (λ p. IsStatement T L (n + 1) p body.0 j) closed.1 body.1),
)

pub print_after : (T : List Lexeme) (L : Option ℕ) (n i j : ℕ) → kind_at T i ≡ Some (Word PrintWord) → MeansFrom T L (TheSign OpenRound ∷ Item n ∷ MoreItems n ∷ []) (i + 1) j
    → (s : StatementForm) × IsStatement T L n i s j
print_after T L n i j e (a, opened, (b, item, items)) =
    (_, print_statement b e opened.0 (subst (λ p. IsItem T L n p item.0 b) (opened.1 ∙ two i) item.1) items.1)

pub sound_statement : (T : List Lexeme) (L : Option ℕ) (i n : ℕ) (k : Option TokenKind) → kind_at T i ≡ k → Sound T L i (Statement n) (statement_move n k)
sound_statement T L i n (Some (SignKind OpenCurly)) e = (λ w j h. (_, block_statement h.1), λ below f. f, refl)
sound_statement T L i n (Some (SignKind Semicolon)) e = (λ w j h. (_, empty_statement e h), λ below f. f, refl)
sound_statement T L i n (Some (SignKind ColonColon)) e = (λ w j h. h.2 i _ h.1.1, λ below f. f, refl)
sound_statement T L i n (Some Name) e = (λ w j h. h.2 i _ h.1.1, λ below f. f, refl)
sound_statement T L i n (Some (Word Const)) e = (λ w j h. (_, constant_statement (constant_after T L i n j e h).1), λ below f. f, refl)
sound_statement T L i n (Some (Word IfWord)) e = (λ w j h. (_, if_statement h.0 e (h.1 w).1 (h.2 w).2), λ below f. f, refl)
sound_statement T L i n (Some (Word WhileWord)) e = (λ w j h. while_of T L n i j _ e (h w).1, λ below f. f, refl)
sound_statement T L i n (Some (Word ForWord)) e = (λ w j h. for_after T L n i j w e h, λ below f. f, refl)
sound_statement T L i n (Some (Word ReturnWord)) e = (λ w j h. h i refl e, λ below f. f, refl)
sound_statement T L i n (Some (Word PrintWord)) e = (λ w j h. print_after T L n i j e h, λ below f. f, refl)
sound_statement T L i n k e = sound_first T L i 0 (Statement n) (Shape ∷ TheName ∷ variable_end n n) (begins_word_shape k)
    (λ w j h. (_, variable_statement (variable_whole T L n n i j h).1)) (λ below f. f) refl

pub sound_after_name : (T : List Lexeme) (L : Option ℕ) (i n : ℕ) (k : Option TokenKind) → kind_at T i ≡ k → Sound T L i (AfterName n) (after_name_move n k)
sound_after_name T L i n (Some Name) e = (λ w j h p root q. (_, variable_statement (variable_after T L n n p i j root q h).1), λ below f. f, refl)
sound_after_name T L i n (Some (SignKind OpenRound)) e = (λ w j h p root q. (_, call_statement h.0 (call_of i q e h.1.1) h.2.0 h.2.1), λ below f. f, refl)
sound_after_name T L i n (Some (SignKind OpenSquare)) e = (λ w j h p root q. assigned_statement T L n p i j root q h, λ below f. f, refl)
sound_after_name T L i n (Some (SignKind Dot)) e = (λ w j h p root q. assigned_statement T L n p i j root q h, λ below f. f, refl)
sound_after_name T L i n (Some (SignKind Assign)) e = (λ w j h p root q. assigned_statement T L n p i j root q h, λ below f. f, refl)
sound_after_name T L i n _ e = tt

pub sound_assignment : (T : List Lexeme) (L : Option ℕ) (i n inner : ℕ) → Sound T L i (AssignmentSymbol n inner) (Expands 0 (QualifiedName ∷ Steps n ∷ TheSign Assign ∷ Expr inner ∷ []))
sound_assignment T L i n inner = (λ w j h. place_after T L n inner i h.0 j _ h.1.1 h.2, λ below f. f, refl)

pub sound_arm : (T : List Lexeme) (L : Option ℕ) (i n : ℕ) (b : Bool) → sees OpenRound (kind_at T i) ≡ b
    → Sound T L i (Arm n) (cond b (Reads 0 (Expr (n + 1) ∷ TheSign CloseRound ∷ Statement (n + 1) ∷ [])) Stops)
sound_arm T L i n true e = (λ w j h within. (_, arm h.0 (sees_sign OpenRound (kind_at T i) e) within (h.1 loosest).1 h.2.1.0 (subst (λ p. IsStatement T L (n + 1) p h.2.2.0 j) h.2.1.1 h.2.2.1)), λ below f. f, refl)
sound_arm T L i n false e = tt

pub sound_elses : (T : List Lexeme) (L : Option ℕ) (i n : ℕ) (k : Option TokenKind) → kind_at T i ≡ k → Sound T L i (Elses n) (elses_move n k)
sound_elses T L i n (Some (Word ElseWord)) e = (λ w j h within. h within i refl e, λ below f. f, refl)
sound_elses T L i n _ e = (λ w j h within. ([], None, no_else (lacks (λ k. is_read (elses_move n k)) e refl refl) h), λ below f. f, refl)

pub further_arm : (T : List Lexeme) (L : Option ℕ) (i n j : ℕ) → kind_at T i ≡ Some (Word IfWord) → MeansFrom T L (Arm n ∷ Elses n ∷ []) (i + 1) j → Means T L (AfterElse n) i j
further_arm T L i n j e h within p ip seen = (
  _,
  _,
  more_arms h.0 seen (subst (λ a. kind_at T a ≡ Some (Word IfWord)) ip e)
      (subst (λ a. IsArm T L n a (h.1 within).0 h.0) (ap (λ a. a + 1) ip ∙ two p) (h.1 within).1) (h.2 within).2,
)

pub otherwise_at : (T : List Lexeme) (L : Option ℕ) (i n j : ℕ) → (kind_at T i ≡ Some (Word IfWord) → ⊥) → Means T L (Statement (n + 1)) i j → Means T L (AfterElse n) i j
otherwise_at T L i n j absent h within p ip seen = ([], _, last_else seen (subst (λ a. kind_at T a ≡ Some (Word IfWord) → ⊥) ip absent) within (subst (λ a. IsStatement T L (n + 1) a h.0 j) ip h.1))

pub sound_after_else : (T : List Lexeme) (L : Option ℕ) (i n : ℕ) (k : Option TokenKind) → kind_at T i ≡ k → Sound T L i (AfterElse n) (after_else_move n k)
sound_after_else T L i n (Some (Word IfWord)) e = (λ w j h. further_arm T L i n j e h, λ below f. f, refl)
sound_after_else T L i n _ e = (λ w j h. otherwise_at T L i n j (lacks (λ k. is_read (after_else_move n k)) e refl refl) h, λ below f. f, refl)

pub sound_for_start : (T : List Lexeme) (L : Option ℕ) (i n : ℕ) (k : Option TokenKind) → kind_at T i ≡ k → Sound T L i (ForStart n) (for_start_move n k)
sound_for_start T L i n (Some (SignKind ColonColon)) e = (λ w j h. h.2 i _ h.1.1, λ below f. f, refl)
sound_for_start T L i n (Some Name) e = (λ w j h. h.2 i _ h.1.1, λ below f. f, refl)
sound_for_start T L i n k e = sound_first T L i 0 (ForStart n) (Shape ∷ TheName ∷ variable_end n (n + 1)) (begins_word_shape k)
    (λ w j h. (_, variable_start (variable_whole T L n (n + 1) i j h).1)) (λ below f. f) refl

pub sound_after_for_name : (T : List Lexeme) (L : Option ℕ) (i n : ℕ) (k : Option TokenKind) → kind_at T i ≡ k → Sound T L i (AfterForName n) (after_for_name_move n k)
sound_after_for_name T L i n (Some Name) e = (λ w j h p root q. (_, variable_start (variable_after T L n (n + 1) p i j root q h).1), λ below f. f, refl)
sound_after_for_name T L i n (Some (SignKind OpenSquare)) e = (λ w j h p root q. assigned_start T L n p i j root q h, λ below f. f, refl)
sound_after_for_name T L i n (Some (SignKind Dot)) e = (λ w j h p root q. assigned_start T L n p i j root q h, λ below f. f, refl)
sound_after_for_name T L i n (Some (SignKind Assign)) e = (λ w j h p root q. assigned_start T L n p i j root q h, λ below f. f, refl)
sound_after_for_name T L i n _ e = tt

pub nothing_at : (T : List Lexeme) (L : Option ℕ) (i n j : ℕ) → kind_at T i ≡ Some (SignKind Semicolon) → j ≡ i + 1 → Means T L (ReturnValue n) i j
nothing_at T L i n j e h p ip seen = (_, return_nothing seen (subst (λ a. kind_at T a ≡ Some (SignKind Semicolon)) ip e) (h ∙ ap (λ a. a + 1) ip ∙ two p))

pub value_at : (T : List Lexeme) (L : Option ℕ) (i n j : ℕ) → (kind_at T i ≡ Some (SignKind Semicolon) → ⊥) → MeansFrom T L (Expr n ∷ TheSign Semicolon ∷ []) i j → Means T L (ReturnValue n) i j
value_at T L i n j absent h p ip seen = (
  _,
  return_value h.0 seen (subst (λ a. kind_at T a ≡ Some (SignKind Semicolon) → ⊥) ip absent)
      (subst (λ a. Means T L (Expr n) a h.0) ip h.1 loosest).1 h.2.0 h.2.1,
)

pub sound_return : (T : List Lexeme) (L : Option ℕ) (i n : ℕ) (k : Option TokenKind) → kind_at T i ≡ k → Sound T L i (ReturnValue n) (return_move n k)
sound_return T L i n (Some (SignKind Semicolon)) e = (λ w j h. nothing_at T L i n j e h, λ below f. f, refl)
sound_return T L i n _ e = (λ w j h. value_at T L i n j (lacks (λ k. is_read (return_move n k)) e refl refl) h, λ below f. f, refl)

pub sound_item : (T : List Lexeme) (L : Option ℕ) (i n : ℕ) (k : Option TokenKind) → kind_at T i ≡ k → Sound T L i (Item n) (item_move n k)
sound_item T L i n (Some TextToken) e = (λ w j h. (_, text_item e h), λ below f. f, refl)
sound_item T L i n k e = sound_first T L i (n + 1) (Item n) (Expr (n + 1) ∷ []) (begins_expr k)
    (λ w j h. (_, expr_item (lacks (λ k. is_read (item_move n k)) e (first_unread (begins_expr k) (n + 1) (Expr (n + 1) ∷ [])) refl) w (h loosest).1)) (λ below f. f) refl

pub sound_more_items : (T : List Lexeme) (L : Option ℕ) (i n : ℕ) (k : Option TokenKind) → kind_at T i ≡ k → Sound T L i (MoreItems n) (more_items_move n k)
sound_more_items T L i n (Some (SignKind Comma)) e = (λ w j h. (_, more_items h.0 e h.1.1 h.2.1), λ below f. f, refl)
sound_more_items T L i n (Some (SignKind CloseRound)) e = (λ w j h. ([], items_end e h.0 (h.1 ∙ two i)), λ below f. f, refl)
sound_more_items T L i n _ e = tt
