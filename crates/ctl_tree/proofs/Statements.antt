-- From one place at most one statement stands, with one end, whatever nesting is allowed.
use Rattle.std.proofs.Common.{◌≡◌, ℕ, ◌+◌, arith, Bool, true, false, List, ◌∷◌, Option, Some, None, ap, sym, ◌∙◌, refl}
use Rattle.ctl_tree.specs.declared.keyword.Keyword.TheVariants.{Bool as BoolWord, Int as IntWord, Half as HalfWord, Float as FloatWord, Unsigned as UnsignedWord, Const as ConstWord, If as IfWord, While as WhileWord, For as ForWord, Return as ReturnWord, Print as PrintWord}
use Rattle.ctl_tree.specs.declared.sign.Sign.TheVariants.{OpenCurly, OpenSquare, Semicolon, Assign, Dot, ColonColon}
use Rattle.ctl_tree.specs.declared.token.TokenKind.{TokenKind}
use Rattle.ctl_tree.specs.declared.token.TokenKind.TheVariants.{Word, Name, Sign as SignKind}
use Rattle.ctl_tree.specs.declared.expression.QualifiedName.{QualifiedName}
use Rattle.ctl_tree.specs.declared.expression.Call.{Call}
use Rattle.ctl_tree.specs.declared.expression.Step.{Step}
use Rattle.ctl_tree.specs.declared.declaration.ShapeName.{ShapeName}
use Rattle.ctl_tree.specs.declared.declaration.Variable.{Variable}
use Rattle.ctl_tree.specs.declared.statement.Assignment.{Assignment}
use Rattle.ctl_tree.specs.declared.statement.PrintItem.{PrintItem}
use Rattle.ctl_tree.specs.declared.statement.PrintItem.TheVariants.{Text, Expr as ExprItem}
use Rattle.ctl_tree.specs.declared.statement.ForStart.{ForStart}
use Rattle.ctl_tree.specs.declared.statement.ForStart.TheVariants.{Variable as VariableStart, Assignment as AssignmentStart}
use Rattle.ctl_tree.specs.declared.statement.Statement.{Statement}
use Rattle.ctl_tree.specs.declared.statement.Statement.TheVariants.{Block as BlockForm, Constant as ConstantForm, Variable as VariableForm, Assignment as AssignmentForm, Call as CallForm, If, While, For, Return, Print, Empty}
use Rattle.ctl_tree.specs.declared.statement.Block.{Block, roll-Block}
use Rattle.ctl_tree.specs.declared.statement.Arm.{Arm, roll-Arm, out-Arm}
use Rattle.ctl_tree.specs.declared.statement.If.{roll-If}
use Rattle.ctl_tree.specs.declared.statement.While.{roll-While}
use Rattle.ctl_tree.specs.declared.statement.For.{roll-For}
use Rattle.ctl_tree.specs.Lexemes.{Lexeme, kind_at, bytes_at, SeesSign}
use Rattle.ctl_tree.specs.Names.{IsQualifiedName, IsShape, word_shape, unsigned_shape, unsigned_int_shape, named_shape}
use Rattle.ctl_tree.specs.Expressions.{AreSteps, no_step, index_step, field_step, IsCall, call_of}
use Rattle.ctl_tree.specs.Declarations.{constant, IsVariable, variable}
use Rattle.ctl_tree.specs.Statements.{IsAssignment, assignment, IsItem, text_item, expr_item, AreMoreItems, items_end, more_items, IsForStart, variable_start, assignment_start, IsStatement, block_statement, constant_statement, variable_statement, assignment_statement, call_statement, if_statement, while_statement, for_statement, return_nothing, return_value, print_statement, empty_statement, IsBlock, block, AreStatements, statements_end, statements, IsArm, arm, AreElses, no_else, last_else, more_arms}
use Rattle.ctl_tree.specs.Texts.{unquoted}
use Rattle.ctl_tree.proofs.Names.{name_begins, name_no_word, same_qualified_name, begins_shape, name_begins_shape, shape_begins}
use Rattle.ctl_tree.proofs.Expressions.{same_operand, same_steps, same_call}
use Rattle.ctl_tree.proofs.Declarations.{same_constant, same_variable}

pub same_assignment : {lexemes : List Lexeme} {limit limit' : Option ℕ} {n n' inner inner' i i' : ℕ} {form form' : Assignment} {j j' : ℕ} → i ≡ i'
    → IsAssignment lexemes limit n inner i form j → IsAssignment lexemes limit' n' inner' i' form' j' → (form ≡ form') × (j ≡ j')
same_assignment q (assignment k m root steps sees h) (assignment k' m' root' steps' sees' h') =
    let name = same_qualified_name q root root' in
    let inside = same_steps name.1 steps steps' in
    let value = same_operand (ap (λ x. x + 1) inside.1) h h' in
    ((λ x. record { place = record { root = name.0 x; steps = inside.0 x }; value = value.0 x; token = inside.1 x }), value.1)

-- what stands after the root of a place
abbrev follows_root : Option TokenKind → Bool
follows_root (Some (SignKind OpenSquare)) = true
follows_root (Some (SignKind Dot)) = true
follows_root (Some (SignKind Assign)) = true
follows_root _ = false

root_followed : {lexemes : List Lexeme} {limit : Option ℕ} {n i : ℕ} {steps : List Step} {j : ℕ} → AreSteps lexemes limit n i steps j → SeesSign lexemes j Assign
    → follows_root (kind_at lexemes i) ≡ true
root_followed (no_step lacks no_dot is) assign = cc
root_followed (index_step k sees within h close more) assign = ap follows_root sees
root_followed (field_step sees name more) assign = ap follows_root sees

-- a shape that begins as a name is that name
name_shape : {lexemes : List Lexeme} {i i' : ℕ} {shape : ShapeName} {name : QualifiedName} {j j' : ℕ} → i ≡ i' → IsShape lexemes i shape j → IsQualifiedName lexemes i' name j' → j ≡ j'
name_shape q (word_shape word sees known is) h = absurd (name_no_word (sym q) h word sees)
name_shape q (unsigned_shape sees lacks is) h = absurd (name_no_word (sym q) h UnsignedWord sees)
name_shape q (unsigned_int_shape sees int is) h = absurd (name_no_word (sym q) h UnsignedWord sees)
name_shape q (named_shape name) h = (same_qualified_name q name h).1

variable_no_assignment : {lexemes : List Lexeme} {limit limit' : Option ℕ} {n n' inner inner' i i' : ℕ} {form : Variable} {form' : Assignment} {j j' : ℕ} → i ≡ i'
    → IsVariable lexemes limit n inner i form j → IsAssignment lexemes limit' n' inner' i' form' j' → ⊥
variable_no_assignment q (variable k m p shape name array h semicolon is) (assignment k' m' root steps sees h') =
    let same = name_shape q shape root in
    let follows = root_followed steps sees in
    let named = name.0 in
    cc

variable_no_call : {lexemes : List Lexeme} {limit limit' : Option ℕ} {n n' inner i i' : ℕ} {form : Variable} {form' : Call} {j j' : ℕ} → i ≡ i'
    → IsVariable lexemes limit n inner i form j → IsCall lexemes limit' n' i' form' j' → ⊥
variable_no_call q (variable k m p shape name array h semicolon is) (call_of k' root sees inside) =
    let same = name_shape q shape root in
    let named = name.0 in
    cc

assignment_no_call : {lexemes : List Lexeme} {limit limit' : Option ℕ} {n n' inner i i' : ℕ} {form : Assignment} {form' : Call} {j j' : ℕ} → i ≡ i'
    → IsAssignment lexemes limit n inner i form j → IsCall lexemes limit' n' i' form' j' → ⊥
assignment_no_call q (assignment k m root steps sees h) (call_of k' root' sees' inside) =
    let same = (same_qualified_name q root root').1 in
    let follows = root_followed steps sees in
    cc

pub same_item : {lexemes : List Lexeme} {limit limit' : Option ℕ} {n n' i i' : ℕ} {item item' : PrintItem} {j j' : ℕ} → i ≡ i'
    → IsItem lexemes limit n i item j → IsItem lexemes limit' n' i' item' j' → (item ≡ item') × (j ≡ j')
same_item {lexemes = lexemes} q (text_item sees is) (text_item sees' is') = ((λ x. Text (record { text = unquoted (bytes_at lexemes (q x)); token = q x })), cc)
same_item q (text_item sees is) (expr_item lacks' within' h') = absurd (lacks' cc)
same_item q (expr_item lacks within h) (text_item sees' is') = absurd (lacks cc)
same_item q (expr_item lacks within h) (expr_item lacks' within' h') =
    let same = same_operand q h h' in
    ((λ x. ExprItem (same.0 x)), same.1)

pub same_more_items : {lexemes : List Lexeme} {limit limit' : Option ℕ} {n n' i i' : ℕ} {items items' : List PrintItem} {j j' : ℕ} → i ≡ i'
    → AreMoreItems lexemes limit n i items j → AreMoreItems lexemes limit' n' i' items' j' → (items ≡ items') × (j ≡ j')
same_more_items q (items_end close semicolon is) (items_end close' semicolon' is') = (refl, cc)
same_more_items q (items_end close semicolon is) (more_items k' comma' h' more') = absurd cc
same_more_items q (more_items k comma h more) (items_end close' semicolon' is') = absurd cc
same_more_items q (more_items k comma h more) (more_items k' comma' h' more') =
    let first = same_item (ap (λ x. x + 1) q) h h' in
    let others = same_more_items first.1 more more' in
    ((λ x. first.0 x ∷ others.0 x), others.1)

pub same_for_start : {lexemes : List Lexeme} {limit limit' : Option ℕ} {n n' i i' : ℕ} {start start' : ForStart} {j j' : ℕ} → i ≡ i'
    → IsForStart lexemes limit n i start j → IsForStart lexemes limit' n' i' start' j' → (start ≡ start') × (j ≡ j')
same_for_start q (variable_start h) (variable_start h') =
    let same = same_variable q h h' in
    ((λ x. VariableStart (same.0 x)), same.1)
same_for_start q (variable_start h) (assignment_start k' h' semicolon' is') = absurd (variable_no_assignment q h h')
same_for_start q (assignment_start k h semicolon is) (variable_start h') = absurd (variable_no_assignment (sym q) h' h)
same_for_start q (assignment_start k h semicolon is) (assignment_start k' h' semicolon' is') =
    let same = same_assignment q h h' in
    ((λ x. AssignmentStart (same.0 x)), is ∙ ap (λ x. x + 1) same.1 ∙ sym is')

-- the kinds of statements that their first token tells apart
abbrev form_at : Option TokenKind → ℕ
form_at (Some (SignKind OpenCurly)) = 1
form_at (Some (SignKind Semicolon)) = 2
form_at (Some (Word ConstWord)) = 3
form_at (Some (Word IfWord)) = 4
form_at (Some (Word WhileWord)) = 5
form_at (Some (Word ForWord)) = 6
form_at (Some (Word ReturnWord)) = 7
form_at (Some (Word PrintWord)) = 8
form_at _ = 0

abbrev form_of : {lexemes : List Lexeme} {limit : Option ℕ} {n i : ℕ} {form : Statement} {j : ℕ} → IsStatement lexemes limit n i form j → ℕ
form_of (block_statement h) = 1
form_of (empty_statement sees is) = 2
form_of (constant_statement h) = 3
form_of (if_statement k sees h others) = 4
form_of (while_statement sees h) = 5
form_of (for_statement k m p sees opens within start test semicolon next close body) = 6
form_of (return_nothing sees semicolon is) = 7
form_of (return_value k sees lacks h semicolon is) = 7
form_of (print_statement k sees opens h others) = 8
form_of _ = 0

shape_form : (kind : Option TokenKind) → begins_shape kind ≡ true → form_at kind ≡ 0
shape_form (Some (Word BoolWord)) begins = refl
shape_form (Some (Word IntWord)) begins = refl
shape_form (Some (Word HalfWord)) begins = refl
shape_form (Some (Word FloatWord)) begins = refl
shape_form (Some (Word UnsignedWord)) begins = refl
shape_form (Some Name) begins = refl
shape_form (Some (SignKind ColonColon)) begins = refl
shape_form _ begins = absurd cc

name_form : {lexemes : List Lexeme} {i : ℕ} {name : QualifiedName} {j : ℕ} → IsQualifiedName lexemes i name j → form_at (kind_at lexemes i) ≡ 0
name_form h = shape_form _ (name_begins_shape _ (name_begins h))

first_form : {lexemes : List Lexeme} {limit : Option ℕ} {n i : ℕ} {form : Statement} {j : ℕ} → (h : IsStatement lexemes limit n i form j) → form_at (kind_at lexemes i) ≡ form_of h
first_form (block_statement (block sees h)) = ap form_at sees
first_form (constant_statement (constant k m p sees shape name array assign h semicolon is)) = ap form_at sees
first_form (variable_statement (variable k m p shape name array h semicolon is)) = shape_form _ (shape_begins shape)
first_form (assignment_statement k (assignment l m root steps sees h) semicolon is) = name_form root
first_form (call_statement k (call_of l root sees inside) semicolon is) = name_form root
first_form (if_statement k sees h others) = ap form_at sees
first_form (while_statement sees h) = ap form_at sees
first_form (for_statement k m p sees opens within start test semicolon next close body) = ap form_at sees
first_form (return_nothing sees semicolon is) = ap form_at sees
first_form (return_value k sees lacks h semicolon is) = ap form_at sees
first_form (print_statement k sees opens h others) = ap form_at sees
first_form (empty_statement sees is) = ap form_at sees

one_form : {lexemes : List Lexeme} {limit limit' : Option ℕ} {n n' i i' : ℕ} {form form' : Statement} {j j' : ℕ} → i ≡ i'
    → (h : IsStatement lexemes limit n i form j) → (h' : IsStatement lexemes limit' n' i' form' j') → form_of h ≡ form_of h'
one_form {lexemes = lexemes} q h h' = sym (first_form h) ∙ ap (λ x. form_at (kind_at lexemes x)) q ∙ first_form h'

mutual
  pub same_statement : {lexemes : List Lexeme} {limit limit' : Option ℕ} {n n' i i' : ℕ} {form form' : Statement} {j j' : ℕ} → i ≡ i'
      → IsStatement lexemes limit n i form j → IsStatement lexemes limit' n' i' form' j' → (form ≡ form') × (j ≡ j')
  same_statement q (block_statement h) (block_statement h') =
      let same = same_block q h h' in
      ((λ x. BlockForm (same.0 x)), same.1)
  same_statement q (constant_statement h) (constant_statement h') =
      let same = same_constant q h h' in
      ((λ x. ConstantForm (same.0 x)), same.1)
  same_statement q (variable_statement h) (variable_statement h') =
      let same = same_variable q h h' in
      ((λ x. VariableForm (same.0 x)), same.1)
  same_statement q (variable_statement h) (assignment_statement k' h' semicolon' is') = absurd (variable_no_assignment q h h')
  same_statement q (variable_statement h) (call_statement k' h' semicolon' is') = absurd (variable_no_call q h h')
  same_statement q (assignment_statement k h semicolon is) (variable_statement h') = absurd (variable_no_assignment (sym q) h' h)
  same_statement q (assignment_statement k h semicolon is) (assignment_statement k' h' semicolon' is') =
      let same = same_assignment q h h' in
      ((λ x. AssignmentForm (same.0 x)), is ∙ ap (λ x. x + 1) same.1 ∙ sym is')
  same_statement q (assignment_statement k h semicolon is) (call_statement k' h' semicolon' is') = absurd (assignment_no_call q h h')
  same_statement q (call_statement k h semicolon is) (variable_statement h') = absurd (variable_no_call (sym q) h' h)
  same_statement q (call_statement k h semicolon is) (assignment_statement k' h' semicolon' is') = absurd (assignment_no_call (sym q) h' h)
  same_statement q (call_statement k h semicolon is) (call_statement k' h' semicolon' is') =
      let same = same_call q h h' in
      ((λ x. CallForm (same.0 x)), is ∙ ap (λ x. x + 1) same.1 ∙ sym is')
  same_statement q (if_statement k sees h others) (if_statement k' sees' h' others') =
      let first = same_arm (ap (λ x. x + 1) q) h h' in
      let rest = same_elses first.1 others others' in
      ((λ x. If (roll-If (record { arms = first.0 x ∷ rest.0 x; otherwise = rest.1 x; token = q x }))), rest.2)
  same_statement q (while_statement sees h) (while_statement sees' h') =
      let same = same_arm (ap (λ x. x + 1) q) h h' in
      ((λ x. While (roll-While (record { test = (out-Arm (same.0 x)).test; body = (out-Arm (same.0 x)).body; token = q x }))), same.1)
  same_statement q (for_statement k m p sees opens within start test semicolon next close body) (for_statement k' m' p' sees' opens' within' start' test' semicolon' next' close' body') =
      let begin = same_for_start (ap (λ x. x + 2) q) start start' in
      let check = same_operand begin.1 test test' in
      let step = same_assignment (ap (λ x. x + 1) check.1) next next' in
      let same = same_statement (ap (λ x. x + 1) step.1) body body' in
      ((λ x. For (roll-For (record { start = begin.0 x; test = check.0 x; next = step.0 x; body = same.0 x; token = q x }))), same.1)
  same_statement q (return_nothing sees semicolon is) (return_nothing sees' semicolon' is') = ((λ x. Return (record { value = None; token = q x })), cc)
  same_statement q (return_nothing sees semicolon is) (return_value k' sees' lacks' h' semicolon' is') = absurd (lacks' cc)
  same_statement q (return_value k sees lacks h semicolon is) (return_nothing sees' semicolon' is') = absurd (lacks cc)
  same_statement q (return_value k sees lacks h semicolon is) (return_value k' sees' lacks' h' semicolon' is') =
      let same = same_operand (ap (λ x. x + 1) q) h h' in
      ((λ x. Return (record { value = Some (same.0 x); token = q x })), is ∙ ap (λ x. x + 1) same.1 ∙ sym is')
  same_statement q (print_statement k sees opens h others) (print_statement k' sees' opens' h' others') =
      let first = same_item (ap (λ x. x + 2) q) h h' in
      let rest = same_more_items first.1 others others' in
      ((λ x. Print (record { items = first.0 x ∷ rest.0 x; token = q x })), rest.1)
  same_statement q (empty_statement sees is) (empty_statement sees' is') = ((λ x. Empty (record { token = q x })), cc)
  same_statement q h h' = let same = one_form q h h' in absurd (omega arith)

  pub same_block : {lexemes : List Lexeme} {limit limit' : Option ℕ} {n n' i i' : ℕ} {form form' : Block} {j j' : ℕ} → i ≡ i'
      → IsBlock lexemes limit n i form j → IsBlock lexemes limit' n' i' form' j' → (form ≡ form') × (j ≡ j')
  same_block q (block sees h) (block sees' h') =
      let same = same_statements (ap (λ x. x + 1) q) h h' in
      ((λ x. roll-Block (record { statements = same.0 x; token = q x })), same.1)

  same_statements : {lexemes : List Lexeme} {limit limit' : Option ℕ} {n n' i i' : ℕ} {forms forms' : List Statement} {j j' : ℕ} → i ≡ i'
      → AreStatements lexemes limit n i forms j → AreStatements lexemes limit' n' i' forms' j' → (forms ≡ forms') × (j ≡ j')
  same_statements q (statements_end close is) (statements_end close' is') = (refl, cc)
  same_statements q (statements_end close is) (statements k' lacks' within' h' more') = absurd (lacks' cc)
  same_statements q (statements k lacks within h more) (statements_end close' is') = absurd (lacks cc)
  same_statements q (statements k lacks within h more) (statements k' lacks' within' h' more') =
      let first = same_statement q h h' in
      let others = same_statements first.1 more more' in
      ((λ x. first.0 x ∷ others.0 x), others.1)

  same_arm : {lexemes : List Lexeme} {limit limit' : Option ℕ} {n n' i i' : ℕ} {form form' : Arm} {j j' : ℕ} → i ≡ i'
      → IsArm lexemes limit n i form j → IsArm lexemes limit' n' i' form' j' → (form ≡ form') × (j ≡ j')
  same_arm q (arm k opens within test close body) (arm k' opens' within' test' close' body') =
      let check = same_operand (ap (λ x. x + 1) q) test test' in
      let same = same_statement (ap (λ x. x + 1) check.1) body body' in
      ((λ x. roll-Arm (record { test = check.0 x; body = same.0 x })), same.1)

  same_elses : {lexemes : List Lexeme} {limit limit' : Option ℕ} {n n' i i' : ℕ} {arms arms' : List Arm} {otherwise otherwise' : Option Statement} {j j' : ℕ} → i ≡ i'
      → AreElses lexemes limit n i arms otherwise j → AreElses lexemes limit' n' i' arms' otherwise' j' → (arms ≡ arms') × (otherwise ≡ otherwise') × (j ≡ j')
  same_elses q (no_else lacks is) (no_else lacks' is') = (refl, refl, cc)
  same_elses q (no_else lacks is) (last_else sees' lacks' within' h') = absurd (lacks cc)
  same_elses q (no_else lacks is) (more_arms k' sees' is_if' h' more') = absurd (lacks cc)
  same_elses q (last_else sees lacks within h) (no_else lacks' is') = absurd (lacks' cc)
  same_elses q (last_else sees lacks within h) (last_else sees' lacks' within' h') =
      let same = same_statement (ap (λ x. x + 1) q) h h' in
      (refl, (λ x. Some (same.0 x)), same.1)
  same_elses q (last_else sees lacks within h) (more_arms k' sees' is_if' h' more') = absurd (lacks cc)
  same_elses q (more_arms k sees is_if h more) (no_else lacks' is') = absurd (lacks' cc)
  same_elses q (more_arms k sees is_if h more) (last_else sees' lacks' within' h') = absurd (lacks' cc)
  same_elses q (more_arms k sees is_if h more) (more_arms k' sees' is_if' h' more') =
      let first = same_arm (ap (λ x. x + 2) q) h h' in
      let others = same_elses first.1 more more' in
      ((λ x. first.0 x ∷ others.0 x), others.1, others.2)
