-- The machine passes over each statement.
use Rattle.std.proofs.Common.{◌≡◌, ◌≢◌, ℕ, ◌+◌, true, cond, List, [], ◌∷◌, Option, Some, sym, ap, ◌∙◌, refl}
use Rattle.std.proofs.lemmas.Bool.{false≢true}
use Rattle.ctl_tree.specs.declared.keyword.Keyword.TheVariants.{Bool as BoolWord, Int as IntWord, Unsigned as UnsignedWord, Half as HalfWord, Float as FloatWord, Const, If as IfWord, Else as ElseWord, While as WhileWord, For as ForWord, Return as ReturnWord, Print as PrintWord}
use Rattle.ctl_tree.specs.declared.sign.Sign.TheVariants.{OpenRound, CloseRound, OpenSquare, OpenCurly, CloseCurly, Dot, Semicolon, Assign}
use Rattle.ctl_tree.specs.declared.token.TokenKind.{TokenKind}
use Rattle.ctl_tree.specs.declared.token.TokenKind.TheVariants.{Word, Text, Sign as SignKind}
use Rattle.ctl_tree.specs.declared.expression.Step.{Step}
use Rattle.ctl_tree.specs.declared.declaration.Variable.{Variable}
use Rattle.ctl_tree.specs.declared.statement.Assignment.{Assignment}
use Rattle.ctl_tree.specs.declared.statement.PrintItem.{PrintItem}
use Rattle.ctl_tree.specs.declared.statement.ForStart.{ForStart}
use Rattle.ctl_tree.specs.declared.statement.Statement.{Statement}
use Rattle.ctl_tree.specs.declared.statement.Block.{Block}
use Rattle.ctl_tree.specs.declared.statement.Arm.{Arm}
use Rattle.ctl_tree.specs.Lexemes.{Lexeme, kind_at, SeesSign, Within}
use Rattle.ctl_tree.specs.Expressions.{AreSteps, no_step, index_step, field_step, call_of}
use Rattle.ctl_tree.specs.Declarations.{IsVariable, variable}
use Rattle.ctl_tree.specs.Statements.{IsAssignment, assignment, IsItem, text_item, expr_item, AreMoreItems, items_end, more_items, IsForStart, variable_start, assignment_start, IsStatement, block_statement, constant_statement, variable_statement, assignment_statement, call_statement, if_statement, while_statement, for_statement, return_nothing, return_value, print_statement, empty_statement, IsBlock, block, AreStatements, statements_end, statements, IsArm, arm, AreElses, no_else, last_else, more_arms}
use Rattle.grammar_machine.specs.Front.{begins_expr, begins_word_shape, begins_shape, begins_statement, sees}
use Rattle.grammar_machine.specs.Machine.{TheSign, TheName, QualifiedName, Shape, Steps, Block as TheBlock, Statements, Statement as TheStatement, AfterName, Assignment as TheAssignment, Arm as TheArm, Elses, ForStart as TheForStart, AfterForName, Item, MoreItems, Reads, Expands, Stops, Expr, statements_move, variable_end, statement_move, after_name_move, elses_move, after_else_move, for_start_move, after_for_name_move, return_move, item_move, more_items_move, Passes}
use Rattle.grammar_machine.proofs.Steps.{two, done, pass, read, read_deeper, expand, expand_deeper, sign}
use Rattle.grammar_machine.proofs.PassNames.{at_name, shape_begins, passes_qualified_name}
use Rattle.grammar_machine.proofs.PassExpressions.{first_is, expr_begins, call_begins, passes_operand, passes_steps, passes_arguments}
use Rattle.grammar_machine.proofs.PassDeclarations.{passes_constant, constant_begins, passes_variable}

-- a token that begins no form of a kind

pub lacks_else : (n : ℕ) (k : Option TokenKind) → k ≢ Some (Word ElseWord) → elses_move n k ≡ Expands 0 []
lacks_else n (Some (Word ElseWord)) h = absurd (h refl)
lacks_else n _ h = refl

pub lacks_if : (n : ℕ) (k : Option TokenKind) → k ≢ Some (Word IfWord) → after_else_move n k ≡ Expands 0 (TheStatement (n + 1) ∷ [])
lacks_if n (Some (Word IfWord)) h = absurd (h refl)
lacks_if n _ h = refl

pub lacks_end : (n : ℕ) (k : Option TokenKind) → k ≢ Some (SignKind Semicolon) → return_move n k ≡ Expands 0 (Expr n ∷ TheSign Semicolon ∷ [])
lacks_end n (Some (SignKind Semicolon)) h = absurd (h refl)
lacks_end n _ h = refl

pub first_item : (n : ℕ) (k : Option TokenKind) → begins_expr k ≡ true → item_move n k ≡ Expands (n + 1) (Expr (n + 1) ∷ [])
first_item n (Some Text) h = absurd (false≢true h)
first_item n k h = first_is (begins_expr k) (n + 1) (Expr (n + 1) ∷ []) h

pub first_statement : (n : ℕ) (k : Option TokenKind) → begins_statement k ≡ true → statements_move n k ≡ Expands (n + 1) (TheStatement (n + 1) ∷ Statements n ∷ [])
first_statement n (Some (SignKind CloseCurly)) h = absurd (false≢true h)
first_statement n k h = first_is (begins_statement k) (n + 1) (TheStatement (n + 1) ∷ Statements n ∷ []) h

pub shape_statement : (k : Option TokenKind) → begins_shape k ≡ true → begins_statement k ≡ true
shape_statement (Some (SignKind OpenCurly)) h = refl
shape_statement (Some (SignKind Semicolon)) h = refl
shape_statement (Some (Word Const)) h = refl
shape_statement (Some (Word IfWord)) h = refl
shape_statement (Some (Word WhileWord)) h = refl
shape_statement (Some (Word ForWord)) h = refl
shape_statement (Some (Word ReturnWord)) h = refl
shape_statement (Some (Word PrintWord)) h = refl
shape_statement _ h = h

-- a keyword's shape begins a variable

pub word_statement : (n : ℕ) (k : Option TokenKind) → begins_word_shape k ≡ true → statement_move n k ≡ Expands 0 (Shape ∷ TheName ∷ variable_end n n)
word_statement n (Some (Word BoolWord)) h = refl
word_statement n (Some (Word IntWord)) h = refl
word_statement n (Some (Word UnsignedWord)) h = refl
word_statement n (Some (Word HalfWord)) h = refl
word_statement n (Some (Word FloatWord)) h = refl
word_statement n _ h = absurd (false≢true h)

pub word_for_start : (n : ℕ) (k : Option TokenKind) → begins_word_shape k ≡ true → for_start_move n k ≡ Expands 0 (Shape ∷ TheName ∷ variable_end n (n + 1))
word_for_start n (Some (Word BoolWord)) h = refl
word_for_start n (Some (Word IntWord)) h = refl
word_for_start n (Some (Word UnsignedWord)) h = refl
word_for_start n (Some (Word HalfWord)) h = refl
word_for_start n (Some (Word FloatWord)) h = refl
word_for_start n _ h = absurd (false≢true h)

module _ {T : List Lexeme} {L : Option ℕ} where
  -- the steps of a place and = begin with one of three signs, so what is the same at all is so at their first token
  pub at_steps : {X : Type 0} (f : Option TokenKind → X) (x : X) {n i j : ℕ} {steps : List Step} → f (Some (SignKind OpenSquare)) ≡ x → f (Some (SignKind Dot)) ≡ x
      → f (Some (SignKind Assign)) ≡ x → AreSteps T L n i steps j → SeesSign T j Assign → f (kind_at T i) ≡ x
  at_steps f x square dot at (no_step lacks lacks' e) see = ap f (ap (kind_at T) (sym e) ∙ see) ∙ at
  at_steps f x square dot at (index_step k see within h close more) end = ap f see ∙ square
  at_steps f x square dot at (field_step see name more) end = ap f see ∙ dot

  pub passes_assignment : {n inner i j : ℕ} {a : Assignment} → IsAssignment T L n inner i a j → Passes T L (TheAssignment n inner ∷ []) i [] j
  passes_assignment (assignment k m name steps assign h) below =
      expand refl (pass (passes_qualified_name name) (pass (passes_steps steps) (sign refl assign refl (passes_operand h below))))

  pub passes_item : {n i j : ℕ} {item : PrintItem} → IsItem T L n i item j → Passes T L (Item n ∷ []) i [] j
  passes_item (text_item {n = n} see e) below = read (ap (item_move n) see) refl (done e)
  passes_item (expr_item {n = n} lacks within h) below = expand_deeper (first_item n _ (expr_begins h)) within (passes_operand h below)

  pub passes_more_items : {n i j : ℕ} {items : List PrintItem} → AreMoreItems T L n i items j → Passes T L (MoreItems n ∷ []) i [] j
  passes_more_items (items_end {n = n} {i = i} see end e) below = read (ap (more_items_move n) see) refl (sign refl end (two i) (done e))
  passes_more_items (more_items {n = n} k see h more) below = read (ap (more_items_move n) see) refl (pass (passes_item h) (passes_more_items more below))

  pub passes_for_start : {n i j : ℕ} {start : ForStart} → IsForStart T L n i start j → Passes T L (TheForStart n ∷ []) i [] j
  passes_for_start (variable_start {n = n} v) below =
      passes_variable (TheForStart n) (AfterForName n) (λ k bytes h. word_for_start n k h) (λ bytes. refl) (λ bytes. refl) (λ bytes. refl) v below
  passes_for_start (assignment_start {n = n} k (assignment p m name steps assign h) end e) below =
      expand (at_name (for_start_move n) (Expands 0 (QualifiedName ∷ AfterForName n ∷ [])) refl refl name)
      (pass (passes_qualified_name name)
      (expand (at_steps (after_for_name_move n) (Expands 0 (Steps n ∷ TheSign Assign ∷ Expr (n + 1) ∷ TheSign Semicolon ∷ [])) refl refl refl steps assign)
      (pass (passes_steps steps) (sign refl assign refl (pass (passes_operand h) (sign refl end refl (done e)))))))

  pub block_begins : {n i j : ℕ} {b : Block} → IsBlock T L n i b j → SeesSign T i OpenCurly
  block_begins (block see h) = see

  pub variable_begins : {n inner i j : ℕ} {v : Variable} → IsVariable T L n inner i v j → begins_shape (kind_at T i) ≡ true
  variable_begins (variable k m p shape name es v end e) = shape_begins shape

  pub arm_within : {n i j : ℕ} {a : Arm} → IsArm T L n i a j → Within L (n + 1)
  arm_within (arm k see within h close body) = within

  pub statement_begins : {n i j : ℕ} {s : Statement} → IsStatement T L n i s j → begins_statement (kind_at T i) ≡ true
  statement_begins (block_statement b) = ap begins_statement (block_begins b)
  statement_begins (constant_statement c) = ap begins_statement (constant_begins c)
  statement_begins (variable_statement v) = shape_statement _ (variable_begins v)
  statement_begins (assignment_statement k (assignment p m name steps assign h) end e) = at_name begins_statement true refl refl name
  statement_begins (call_statement k c end e) = call_begins begins_statement true refl refl c
  statement_begins (if_statement k see a es) = ap begins_statement see
  statement_begins (while_statement see a) = ap begins_statement see
  statement_begins (for_statement k m p see round within start test end next close body) = ap begins_statement see
  statement_begins (return_nothing see end e) = ap begins_statement see
  statement_begins (return_value k see lacks h end e) = ap begins_statement see
  statement_begins (print_statement k see round item items) = ap begins_statement see
  statement_begins (empty_statement see e) = ap begins_statement see

  mutual
    pub passes_statement : {n i j : ℕ} {s : Statement} → IsStatement T L n i s j → Passes T L (TheStatement n ∷ []) i [] j
    passes_statement (block_statement {n = n} b) below = expand (ap (statement_move n) (block_begins b)) (passes_block b below)
    passes_statement (constant_statement {n = n} c) below = read (ap (statement_move n) (constant_begins c)) refl (passes_constant c below)
    passes_statement (variable_statement {n = n} v) below =
        passes_variable (TheStatement n) (AfterName n) (λ k bytes h. word_statement n k h) (λ bytes. refl) (λ bytes. refl) (λ bytes. refl) v below
    passes_statement (assignment_statement {n = n} k (assignment p m name steps assign h) end e) below =
        expand (at_name (statement_move n) (Expands 0 (QualifiedName ∷ AfterName n ∷ [])) refl refl name)
        (pass (passes_qualified_name name)
        (expand (at_steps (after_name_move n) (Expands 0 (Steps n ∷ TheSign Assign ∷ Expr n ∷ TheSign Semicolon ∷ [])) refl refl refl steps assign)
        (pass (passes_steps steps) (sign refl assign refl (pass (passes_operand h) (sign refl end refl (done e)))))))
    passes_statement (call_statement {n = n} k (call_of m name see h) end e) below =
        expand (at_name (statement_move n) (Expands 0 (QualifiedName ∷ AfterName n ∷ [])) refl refl name)
        (pass (passes_qualified_name name) (read (ap (after_name_move n) see) refl (pass (passes_arguments h) (sign refl end refl (done e)))))
    passes_statement (if_statement {n = n} k see a es) below = read_deeper (ap (statement_move n) see) (arm_within a) refl (pass (passes_arm a) (passes_elses es below))
    passes_statement (while_statement {n = n} see a) below = read_deeper (ap (statement_move n) see) (arm_within a) refl (passes_arm a below)
    passes_statement (for_statement {n = n} {i = i} k m p see round within start test end next close body) below =
        read_deeper (ap (statement_move n) see) within refl
        (sign refl round (two i) (pass (passes_for_start start) (pass (passes_operand test) (sign refl end refl (pass (passes_assignment next) (sign refl close refl (passes_statement body below)))))))
    passes_statement (return_nothing {n = n} {i = i} see end e) below = read (ap (statement_move n) see) refl (read (ap (return_move n) end) (two i) (done e))
    passes_statement (return_value {n = n} k see lacks h end e) below =
        read (ap (statement_move n) see) refl (expand (lacks_end n _ lacks) (pass (passes_operand h) (sign refl end refl (done e))))
    passes_statement (print_statement {n = n} {i = i} k see round item items) below =
        read (ap (statement_move n) see) refl (sign refl round (two i) (pass (passes_item item) (passes_more_items items below)))
    passes_statement (empty_statement {n = n} see e) below = read (ap (statement_move n) see) refl (done e)

    pub passes_block : {n i j : ℕ} {b : Block} → IsBlock T L n i b j → Passes T L (TheBlock n ∷ []) i [] j
    passes_block (block {n = n} see h) below = read (ap (λ k. cond (sees OpenCurly k) (Reads 0 (Statements n ∷ [])) Stops) see) refl (passes_statements h below)

    pub passes_statements : {n i j : ℕ} {ss : List Statement} → AreStatements T L n i ss j → Passes T L (Statements n ∷ []) i [] j
    passes_statements (statements_end {n = n} see e) below = read (ap (statements_move n) see) refl (done e)
    passes_statements (statements {n = n} k lacks within h more) below =
        expand_deeper (first_statement n _ (statement_begins h)) within (pass (passes_statement h) (passes_statements more below))

    pub passes_arm : {n i j : ℕ} {a : Arm} → IsArm T L n i a j → Passes T L (TheArm n ∷ []) i [] j
    passes_arm (arm {n = n} k see within h close body) below =
        read (ap (λ k. cond (sees OpenRound k) (Reads 0 (Expr (n + 1) ∷ TheSign CloseRound ∷ TheStatement (n + 1) ∷ [])) Stops) see) refl
        (pass (passes_operand h) (sign refl close refl (passes_statement body below)))

    pub passes_elses : {n i j : ℕ} {arms : List Arm} {otherwise : Option Statement} → AreElses T L n i arms otherwise j → Passes T L (Elses n ∷ []) i [] j
    passes_elses (no_else {n = n} lacks e) below = expand (lacks_else n _ lacks) (done e)
    passes_elses (last_else {n = n} see lacks within h) below = read (ap (elses_move n) see) refl (expand (lacks_if n _ lacks) (passes_statement h below))
    passes_elses (more_arms {n = n} {i = i} k see see' a es) below =
        read (ap (elses_move n) see) refl (read (ap (after_else_move n) see') (two i) (pass (passes_arm a) (passes_elses es below)))
