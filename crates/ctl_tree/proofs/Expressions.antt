-- From one place at most one expression stands, with one end, whatever nesting is allowed.
use Rattle.std.proofs.Common.{◌≡◌, ℕ, ◌+◌, arith, true, false, Bool, List, [], ◌∷◌, Option, Some, None, ap, sym, ◌∙◌, refl}
use Rattle.ctl_tree.specs.declared.sign.Sign.{Sign}
use Rattle.ctl_tree.specs.declared.sign.Sign.TheVariants.{Plus as PlusSign, Minus as MinusSign, Tilde, Exclamation, ColonColon, OpenRound, CloseRound}
use Rattle.ctl_tree.specs.declared.token.TokenKind.{TokenKind}
use Rattle.ctl_tree.specs.declared.token.TokenKind.TheVariants.{Word, Name as NameToken, Whole as WholeToken, Point as PointToken, HalfPoint as HalfPointToken, Text as TextToken, Sign as SignKind}
use Rattle.ctl_tree.specs.declared.expression.LiteralValue.{LiteralValue}
use Rattle.ctl_tree.specs.declared.expression.UnaryOperator.{UnaryOperator}
use Rattle.ctl_tree.specs.declared.expression.QualifiedName.{QualifiedName}
use Rattle.ctl_tree.specs.declared.expression.Expr.{Expr}
use Rattle.ctl_tree.specs.declared.expression.Expr.TheVariants.{Literal, Name, Call as CallForm, Path, Unary, Chain}
use Rattle.ctl_tree.specs.declared.expression.Path.{roll-Path}
use Rattle.ctl_tree.specs.declared.expression.Unary.{roll-Unary}
use Rattle.ctl_tree.specs.declared.expression.Chain.{roll-Chain}
use Rattle.ctl_tree.specs.declared.expression.Index.{roll-Index}
use Rattle.ctl_tree.specs.declared.expression.Call.{Call, roll-Call}
use Rattle.ctl_tree.specs.declared.expression.Link.{Link, roll-Link}
use Rattle.ctl_tree.specs.declared.expression.Step.{Step}
use Rattle.ctl_tree.specs.declared.expression.Step.TheVariants.{Index, Field}
use Rattle.ctl_tree.specs.Lexemes.{Lexeme, kind_at, SeesSign}
use Rattle.ctl_tree.specs.Names.{IsQualifiedName, literal_of, unary_operator_of, operator_of}
use Rattle.ctl_tree.specs.Expressions.{last_operator, IsOperand, linked, alone, tightest, AreLinks, no_link, more_links, IsUnary, operated, plain, IsPostfix, stepped, bare, AreSteps, no_step, index_step, field_step, IsPrimary, literal, named, called, bracketed, IsCall, call_of, AreArguments, no_argument, arguments, AreMoreArguments, arguments_end, more_arguments}
use Rattle.ctl_tree.proofs.Names.{same_name, same_qualified_name, begins_name, name_begins}

-- the signs that begin an expression
abbrev pub begins_expression : Sign → Bool
begins_expression MinusSign = true
begins_expression PlusSign = true
begins_expression Exclamation = true
begins_expression Tilde = true
begins_expression ColonColon = true
begins_expression OpenRound = true
begins_expression _ = false

unary_begins : (sign : Sign) {operator : UnaryOperator} → unary_operator_of (Some (SignKind sign)) ≡ Some operator → begins_expression sign ≡ true
unary_begins MinusSign is = refl
unary_begins PlusSign is = refl
unary_begins Exclamation is = refl
unary_begins Tilde is = refl
unary_begins _ is = absurd cc

name_sign_begins : (sign : Sign) → begins_name (Some (SignKind sign)) ≡ true → begins_expression sign ≡ true
name_sign_begins ColonColon is = refl
name_sign_begins _ is = absurd cc

-- a literal's token begins no name
literal_no_name : (kind : Option TokenKind) {value : LiteralValue} → literal_of kind ≡ Some value → begins_name kind ≡ true → ⊥
literal_no_name None is begins = cc
literal_no_name (Some (Word word)) is begins = cc
literal_no_name (Some NameToken) is begins = cc
literal_no_name (Some (WholeToken n)) is begins = cc
literal_no_name (Some (PointToken raw)) is begins = cc
literal_no_name (Some (HalfPointToken raw)) is begins = cc
literal_no_name (Some TextToken) is begins = cc
literal_no_name (Some (SignKind sign)) is begins = cc

-- a literal and a name stand at no one place
literal_or_name : {lexemes : List Lexeme} {i i' : ℕ} {value : LiteralValue} {name : QualifiedName} {j : ℕ} → i ≡ i' → literal_of (kind_at lexemes i) ≡ Some value
    → IsQualifiedName lexemes i' name j → ⊥
literal_or_name {lexemes = lexemes} q known h = literal_no_name _ (ap (λ x. literal_of (kind_at lexemes x)) (sym q) ∙ known) (name_begins h)

mutual
  pub operand_begins : {lexemes : List Lexeme} {limit : Option ℕ} {level n i : ℕ} {e : Expr} {j : ℕ} → IsOperand lexemes limit level n i e j
      → (sign : Sign) → SeesSign lexemes i sign → begins_expression sign ≡ true
  operand_begins (linked k loose first links some) sign sees = operand_begins first sign sees
  operand_begins (alone loose h none) sign sees = operand_begins h sign sees
  operand_begins (tightest tight h) sign sees = unary_form_begins h sign sees

  unary_form_begins : {lexemes : List Lexeme} {limit : Option ℕ} {n i : ℕ} {e : Expr} {j : ℕ} → IsUnary lexemes limit n i e j
      → (sign : Sign) → SeesSign lexemes i sign → begins_expression sign ≡ true
  unary_form_begins (operated is within h) sign sees = unary_begins sign (sym (ap unary_operator_of sees) ∙ is)
  unary_form_begins (plain none h) sign sees = postfix_begins h sign sees

  postfix_begins : {lexemes : List Lexeme} {limit : Option ℕ} {n i : ℕ} {e : Expr} {j : ℕ} → IsPostfix lexemes limit n i e j
      → (sign : Sign) → SeesSign lexemes i sign → begins_expression sign ≡ true
  postfix_begins (stepped k h steps some) sign sees = primary_begins h sign sees
  postfix_begins (bare h none) sign sees = primary_begins h sign sees

  primary_begins : {lexemes : List Lexeme} {limit : Option ℕ} {n i : ℕ} {e : Expr} {j : ℕ} → IsPrimary lexemes limit n i e j
      → (sign : Sign) → SeesSign lexemes i sign → begins_expression sign ≡ true
  primary_begins (literal known is) sign sees = absurd cc
  primary_begins (named h lacks) sign sees = name_sign_begins sign (sym (ap begins_name sees) ∙ name_begins h)
  primary_begins (called (call_of k h sees' inside)) sign sees = name_sign_begins sign (sym (ap begins_name sees) ∙ name_begins h)
  primary_begins (bracketed k sees' within h close is) sign sees = let p : sign ≡ OpenRound = cc in ap begins_expression p

-- where no operator of the level stands, no link follows
links_end : {lexemes : List Lexeme} {limit : Option ℕ} {level n i i' : ℕ} {links : List Link} {j : ℕ} → i ≡ i' → operator_of level (kind_at lexemes i') ≡ None
    → AreLinks lexemes limit level n i links j → links ≡ []
links_end q none (no_link none' is) = refl
links_end q none (more_links k known h more) = absurd cc

mutual
  pub same_operand : {lexemes : List Lexeme} {limit limit' : Option ℕ} {level n n' i i' : ℕ} {e e' : Expr} {j j' : ℕ} → i ≡ i'
      → IsOperand lexemes limit level n i e j → IsOperand lexemes limit' level n' i' e' j' → (e ≡ e') × (j ≡ j')
  same_operand q (linked k loose first links some) (linked k' loose' first' links' some') =
      let head = same_operand q first first' in
      let others = same_links head.1 links links' in
      ((λ x. Chain (roll-Chain (record { first = head.0 x; links = others.0 x; token = last_operator (others.0 x) }))), others.1)
  same_operand q (linked k loose first links some) (alone loose' h' none') = absurd (some (links_end (same_operand q first h').1 none' links))
  same_operand q (linked k loose first links some) (tightest tight' h') = absurd (omega arith)
  same_operand q (alone loose h none) (linked k' loose' first' links' some') = absurd (some' (links_end (sym (same_operand q h first').1) none links'))
  same_operand q (alone loose h none) (alone loose' h' none') = same_operand q h h'
  same_operand q (alone loose h none) (tightest tight' h') = absurd (omega arith)
  same_operand q (tightest tight h) (linked k' loose' first' links' some') = absurd (omega arith)
  same_operand q (tightest tight h) (alone loose' h' none') = absurd (omega arith)
  same_operand q (tightest tight h) (tightest tight' h') = same_unary q h h'

  same_links : {lexemes : List Lexeme} {limit limit' : Option ℕ} {level n n' i i' : ℕ} {links links' : List Link} {j j' : ℕ} → i ≡ i'
      → AreLinks lexemes limit level n i links j → AreLinks lexemes limit' level n' i' links' j' → (links ≡ links') × (j ≡ j')
  same_links q (no_link none is) (no_link none' is') = (refl, cc)
  same_links q (no_link none is) (more_links k' known' h' more') = absurd cc
  same_links q (more_links k known h more) (no_link none' is') = absurd cc
  same_links q (more_links {operator = operator} k known h more) (more_links {operator = operator'} k' known' h' more') =
      let p : operator ≡ operator' = cc in
      let first = same_operand (ap (λ x. x + 1) q) h h' in
      let others = same_links first.1 more more' in
      ((λ x. roll-Link (record { operator = p x; operand = first.0 x; token = q x }) ∷ others.0 x), others.1)

  same_unary : {lexemes : List Lexeme} {limit limit' : Option ℕ} {n n' i i' : ℕ} {e e' : Expr} {j j' : ℕ} → i ≡ i'
      → IsUnary lexemes limit n i e j → IsUnary lexemes limit' n' i' e' j' → (e ≡ e') × (j ≡ j')
  same_unary q (operated {operator = operator} is within h) (operated {operator = operator'} is' within' h') =
      let p : operator ≡ operator' = cc in
      let inner = same_unary (ap (λ x. x + 1) q) h h' in
      ((λ x. Unary (roll-Unary (record { operator = p x; operand = inner.0 x; token = q x }))), inner.1)
  same_unary q (operated is within h) (plain none' h') = absurd cc
  same_unary q (plain none h) (operated is' within' h') = absurd cc
  same_unary q (plain none h) (plain none' h') = same_postfix q h h'

  same_postfix : {lexemes : List Lexeme} {limit limit' : Option ℕ} {n n' i i' : ℕ} {e e' : Expr} {j j' : ℕ} → i ≡ i'
      → IsPostfix lexemes limit n i e j → IsPostfix lexemes limit' n' i' e' j' → (e ≡ e') × (j ≡ j')
  same_postfix q (stepped k h steps some) (stepped k' h' steps' some') =
      let root = same_primary q h h' in
      let others = same_steps root.1 steps steps' in
      ((λ x. Path (roll-Path (record { root = root.0 x; steps = others.0 x }))), others.1)
  same_postfix q (stepped k h steps some) (bare h' none') = absurd (some (same_steps (same_primary q h h').1 steps none').0)
  same_postfix q (bare h none) (stepped k' h' steps' some') = absurd (some' (sym (same_steps (same_primary q h h').1 none steps').0))
  same_postfix q (bare h none) (bare h' none') = same_primary q h h'

  pub same_steps : {lexemes : List Lexeme} {limit limit' : Option ℕ} {n n' i i' : ℕ} {steps steps' : List Step} {j j' : ℕ} → i ≡ i'
      → AreSteps lexemes limit n i steps j → AreSteps lexemes limit' n' i' steps' j' → (steps ≡ steps') × (j ≡ j')
  same_steps q (no_step lacks no_dot is) (no_step lacks' no_dot' is') = (refl, cc)
  same_steps q (no_step lacks no_dot is) (index_step k' sees' within' h' close' more') = absurd (lacks cc)
  same_steps q (no_step lacks no_dot is) (field_step sees' name' more') = absurd (no_dot cc)
  same_steps q (index_step k sees within h close more) (no_step lacks' no_dot' is') = absurd (lacks' cc)
  same_steps q (index_step k sees within h close more) (index_step k' sees' within' h' close' more') =
      let inner = same_operand (ap (λ x. x + 1) q) h h' in
      let others = same_steps (ap (λ x. x + 1) inner.1) more more' in
      ((λ x. Index (roll-Index (record { index = inner.0 x; token = q x })) ∷ others.0 x), others.1)
  same_steps q (index_step k sees within h close more) (field_step sees' name' more') = absurd cc
  same_steps q (field_step sees name more) (no_step lacks' no_dot' is') = absurd (no_dot' cc)
  same_steps q (field_step sees name more) (index_step k' sees' within' h' close' more') = absurd cc
  same_steps q (field_step sees name more) (field_step sees' name' more') =
      let field = same_name _ (ap (λ x. x + 1) q) name name' in
      let others = same_steps (ap (λ x. x + 2) q) more more' in
      ((λ x. Field (record { name = field x; token = q x + 1 }) ∷ others.0 x), others.1)

  same_primary : {lexemes : List Lexeme} {limit limit' : Option ℕ} {n n' i i' : ℕ} {e e' : Expr} {j j' : ℕ} → i ≡ i'
      → IsPrimary lexemes limit n i e j → IsPrimary lexemes limit' n' i' e' j' → (e ≡ e') × (j ≡ j')
  same_primary q (literal {value = value} known is) (literal {value = value'} known' is') =
      let p : value ≡ value' = cc in
      ((λ x. Literal (record { value = p x; token = q x })), cc)
  same_primary q (literal known is) (named h' lacks') = absurd (literal_or_name q known h')
  same_primary q (literal known is) (called (call_of k' h' sees' inside')) = absurd (literal_or_name q known h')
  same_primary q (literal known is) (bracketed k' sees' within' h' close' is') = absurd cc
  same_primary q (named h lacks) (literal known' is') = absurd (literal_or_name (sym q) known' h)
  same_primary q (named h lacks) (named h' lacks') =
      let name = same_qualified_name q h h' in
      ((λ x. Name (name.0 x)), name.1)
  same_primary q (named h lacks) (called (call_of k' h' sees' inside')) = let name = same_qualified_name q h h' in absurd (lacks cc)
  same_primary q (named h lacks) (bracketed k' sees' within' h' close' is') = let begins = name_begins h in absurd cc
  same_primary q (called (call_of k h sees inside)) (literal known' is') = absurd (literal_or_name (sym q) known' h)
  same_primary q (called (call_of k h sees inside)) (named h' lacks') = let name = same_qualified_name q h h' in absurd (lacks' cc)
  same_primary q (called call) (called call') =
      let same = same_call q call call' in
      ((λ x. CallForm (same.0 x)), same.1)
  same_primary q (called (call_of k h sees inside)) (bracketed k' sees' within' h' close' is') = let begins = name_begins h in absurd cc
  same_primary q (bracketed k sees within h close is) (literal known' is') = absurd cc
  same_primary q (bracketed k sees within h close is) (named h' lacks') = let begins = name_begins h' in absurd cc
  same_primary q (bracketed k sees within h close is) (called (call_of k' h' sees' inside')) = let begins = name_begins h' in absurd cc
  same_primary q (bracketed k sees within h close is) (bracketed k' sees' within' h' close' is') =
      let inner = same_operand (ap (λ x. x + 1) q) h h' in
      (inner.0, is ∙ ap (λ x. x + 1) inner.1 ∙ sym is')

  pub same_call : {lexemes : List Lexeme} {limit limit' : Option ℕ} {n n' i i' : ℕ} {call call' : Call} {j j' : ℕ} → i ≡ i'
      → IsCall lexemes limit n i call j → IsCall lexemes limit' n' i' call' j' → (call ≡ call') × (j ≡ j')
  same_call q (call_of k h sees inside) (call_of k' h' sees' inside') =
      let name = same_qualified_name q h h' in
      let others = same_arguments (ap (λ x. x + 1) name.1) inside inside' in
      ((λ x. roll-Call (record { name = name.0 x; arguments = others.0 x; token = name.1 x })), others.1)

  same_arguments : {lexemes : List Lexeme} {limit limit' : Option ℕ} {n n' i i' : ℕ} {es es' : List Expr} {j j' : ℕ} → i ≡ i'
      → AreArguments lexemes limit n i es j → AreArguments lexemes limit' n' i' es' j' → (es ≡ es') × (j ≡ j')
  same_arguments q (no_argument close is) (no_argument close' is') = (refl, cc)
  same_arguments q (no_argument close is) (arguments k' within' h' more') = let begins = operand_begins h' CloseRound cc in absurd cc
  same_arguments q (arguments k within h more) (no_argument close' is') = let begins = operand_begins h CloseRound cc in absurd cc
  same_arguments q (arguments k within h more) (arguments k' within' h' more') =
      let first = same_operand q h h' in
      let others = same_more_arguments first.1 more more' in
      ((λ x. first.0 x ∷ others.0 x), others.1)

  same_more_arguments : {lexemes : List Lexeme} {limit limit' : Option ℕ} {n n' i i' : ℕ} {es es' : List Expr} {j j' : ℕ} → i ≡ i'
      → AreMoreArguments lexemes limit n i es j → AreMoreArguments lexemes limit' n' i' es' j' → (es ≡ es') × (j ≡ j')
  same_more_arguments q (arguments_end close is) (arguments_end close' is') = (refl, cc)
  same_more_arguments q (arguments_end close is) (more_arguments k' comma' within' h' more') = absurd cc
  same_more_arguments q (more_arguments k comma within h more) (arguments_end close' is') = absurd cc
  same_more_arguments q (more_arguments k comma within h more) (more_arguments k' comma' within' h' more') =
      let first = same_operand (ap (λ x. x + 1) q) h h' in
      let others = same_more_arguments first.1 more more' in
      ((λ x. first.0 x ∷ others.0 x), others.1)
