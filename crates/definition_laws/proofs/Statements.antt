-- Every statement that the checker accepts is well typed: induction over statements.
use Rattle.std.proofs.Common.{◌≡◌, ℕ, zero, suc, ◌+◌, ◌<◌, List, [], ◌∷◌, ◌++◌, map, length, Option, Some, None, Result, Ok, Err, Bool, true, false, ◌&&◌, ◌||◌, nat_lt, not, refl, sym, ap, subst, ◌∙◌, arith, lt-ltb, All}
use Rattle.std.specs.Prelude.{max, get_or}
use Rattle.std.specs.List.{concat}
use Rattle.std.proofs.lemmas.List.Elements.{All-head, All-tail}
use Rattle.std.proofs.lemmas.List.{append_assoc}
use Rattle.ctl_tree.specs.declared.expression.Expr.{Expr}
use Rattle.ctl_tree.specs.declared.statement.ForStart.{ForStart}
use Rattle.ctl_tree.specs.declared.statement.ForStart.TheVariants.{Variable as VariableStart, Assignment as AssignmentStart}
use Rattle.ctl_tree.specs.declared.statement.Assignment.{Assignment}
use Rattle.ctl_tree.specs.declared.statement.Statement.{Statement, roll-Statement}
use Rattle.ctl_tree.specs.declared.statement.Block.{Block, roll-Block}
use Rattle.ctl_tree.specs.declared.statement.If.{If, roll-If}
use Rattle.ctl_tree.specs.declared.statement.Arm.{Arm, roll-Arm}
use Rattle.ctl_tree.specs.declared.statement.While.{While, roll-While}
use Rattle.ctl_tree.specs.declared.statement.For.{For, roll-For}
use Rattle.ctl_tree.specs.declared.statement.Statement.TheOpen.{Statement-F, Block-F, If-F, Arm-F, While-F, For-F, Block as BlockForm, Constant as ConstantForm, Variable as VariableForm, Assignment as AssignmentForm, Call as CallStatement, If as IfForm, While as WhileForm, For as ForForm, Return as ReturnForm, Print as PrintForm, Empty as EmptyForm}
use Rattle.ctl_tree.specs.declared.statement.Statement.TheFolds.{fold-Statement, fold-Block, fold-If, fold-Arm, fold-While, fold-For, fold-roll-Statement, fold-roll-Block, fold-roll-If, fold-roll-Arm, fold-roll-While, fold-roll-For, map-Statement, map-Block, map-If, map-Arm, map-While, map-For, ind-Statement, ind-Block}
use Rattle.ctl_tree.specs.OwnTokens.{Tokens, Below, expr_tokens, start_tokens, assignment_tokens, statement_tokens, block_tokens, statement_step as tokens_step, arm_step as arm_tokens_step, block_step as block_tokens_step, for_step as for_tokens_step, if_step as if_tokens_step, while_step as while_tokens_step, some_tokens, arm_tokens}
use Rattle.ctl_types.specs.declared.shape.Shape.{Shape}
use Rattle.ctl_types.specs.declared.expression.Operand.{Operand}
use Rattle.ctl_types.specs.declared.statement.TypedStatement.{TypedStatement, roll-TypedStatement}
use Rattle.ctl_types.specs.declared.statement.Arm.{Arm as TypedArm}
use Rattle.ctl_types.specs.declared.statement.TypedStatement.TheOpen as form
use Rattle.ctl_types.specs.declared.statement.TypedStatement.TheOpen.{TypedStatement-F}
use Rattle.ctl_types.specs.declared.statement.TypedStatement.TheFolds.{fold-TypedStatement, fold-Arm as fold-TypedArm, fold-roll-TypedStatement, map-TypedStatement}
use Rattle.ctl_types.specs.Typing.{Scene, Typed, Variables, result_type, node_stands, operand_type}
use Rattle.ctl_types.specs.Scoping.{Scope, Scoped, Scoping, simple, asked, own_scope, looped, tested, scope_all, scope_arms, scope_otherwise, scope_declaration, scope_assignment, scope_start, scope_for, scope_step, scope_arm, scope_statement}
use Rattle.ctl_types.specs.Definitions.{Defined}
use Rattle.ctl_scope.specs.Scope.{ScopeForm}
use Rattle.ctl_scope.specs.Beside.{scene}
use Rattle.ctl_scope.specs.Changes.{entered, left}
use Rattle.ctl_check_rules.specs.declared.checked.Checked.{Checked}
use Rattle.ctl_check_rules.specs.Faults.{Verdict, ◌>>=◌, rule_at, node_of}
use Rattle.ctl_check_expr.specs.Checking.{checked, checked_call}
use Rattle.ctl_check_init.specs.declared.takings.Taken.{Taken}
use Rattle.ctl_check_init.specs.declared.assignments.Assigned.{Assigned}
use Rattle.ctl_check_init.specs.Assignments.{assigned}
use Rattle.ctl_check_init.specs.Takings.{test_rule, tested as test_checked, returned}
use Rattle.ctl_check_statement.specs.declared.stated.Declared.{Declared}
use Rattle.ctl_check_statement.specs.declared.stated.Stated.{Stated}
use Rattle.ctl_check_statement.specs.declared.stated.Statements.{Statements}
use Rattle.ctl_check_statement.specs.declared.stated.Arms.{Arms}
use Rattle.ctl_check_statement.specs.declared.stated.Started.{Started}
use Rattle.ctl_check_statement.specs.declared.stated.Head.{Head}
use Rattle.ctl_check_statement.specs.declared.stated.Printed.{Printed}
use Rattle.ctl_check_statement.specs.Leading.{Led, led}
use Rattle.ctl_check_statement.specs.Returning.{one_returns, all_return, else_returns, returns_step, arm_returns, block_returns, for_returns, if_returns, while_returns, surely_returns, block_surely_returns}
use Rattle.ctl_check_statement.specs.Declarations.{variable_declared, constant_declared}
use Rattle.ctl_check_statement.specs.Printing.{printed, none_printed, print_rule, print_stated, are_printed}
use Rattle.ctl_check_statement.specs.Statements as verdict
use Rattle.ctl_check_statement.specs.Statements.{Stating, Arming, own_scope as own_stating, all_stated, all_armed, no_statements, no_arms, inside_stated, block_made, if_made, else_made, otherwise_stated, are_tested, if_rule, while_made, while_ruled, for_made, for_ruled, head_stated, head_with, started, for_parts, declaration_stated, stated, block_stated}
use Rattle.definition_laws.proofs.Standing.{Standing}
use Rattle.definition_laws.proofs.Verdicts.{Good, good_then, good_more, good_at, good_if, good_all}
use Rattle.definition_laws.proofs.Parted.{all_left, all_right}
use Rattle.definition_laws.proofs.Scopes.{Kept}
use Rattle.definition_laws.proofs.Sequences.{Fine, fine_simple, fine_then, fine_own, then_runs}
use Rattle.definition_laws.proofs.Blocks.{Stays, StatedWell, Holding, Held, OwnWell, AllWell, own_good, all_good, entered_stands, max_zero, same_scene}
use Rattle.definition_laws.proofs.Single.{fine_still, fine_as, fine_tested, fine_looped, among_before, after_test}
use Rattle.definition_laws.proofs.Needs.{Needs, TestWell, CallWell, AssignedWell, ReturnedWell, PrintedWell, DeclaredWell}
use Rattle.definition_laws.proofs.Arms.{HeldArm, ArmedWell, Chain, arm_good, armed_good, arm_runs, zero_max}

both : (a b : Bool) → (a && b) ≡ true → (a ≡ true) × (b ≡ true)
both true b h = (refl, h)
both false b h = absurd (cc)

long : {A B : Type 0} (f : A → B) (xs : List A) → length (map f xs) ≡ length xs
long f [] = refl
long f (x ∷ xs) = ap suc (long f xs)

abbrev or : Bool → Bool → Bool
or a b = a || b

module _ (d : Defined) (n : ℕ) (result : Option Shape) (needs : Needs d n result) where
  abbrev pub stays : Stays
  stays = record { entered = needs.entered; left = needs.left }

  abbrev pub res : Typed
  res = result_type result

  -- ---- what may be left out

  abbrev pub option_own : Option (Held stays d n res) → Option Tokens
  option_own None = None
  option_own (Some e) = Some e.own

  abbrev pub option_returns : Option (Held stays d n res) → Option Bool
  option_returns None = None
  option_returns (Some e) = Some e.returns

  abbrev pub option_stating : Option (Held stays d n res) → Option Stating
  option_stating None = None
  option_stating (Some e) = Some e.stating

  -- ---- typed forms by their parts

  rolled : (x : Scene) (f : TypedStatement-F TypedStatement TypedArm) (scope : Scope) → scope_statement x res (roll-TypedStatement f) scope ≡ scope_step x res (map-TypedStatement TypedStatement TypedArm Scoping Scoping (scope_statement x res) (arm_runs stays d n result x) f) scope
  rolled x f scope = ap (λ (z : Scoping). z scope) (fold-roll-TypedStatement Scoping Scoping (scope_step x res) (scope_arm x res) f)

  pub made_as : (x : Scene) (f : TypedStatement-F TypedStatement TypedArm) (y : Scoping) (s t : ScopeForm) (r : Bool) (m : ℕ)
      → ((scope : Scope) → scope_step x res (map-TypedStatement TypedStatement TypedArm Scoping Scoping (scope_statement x res) (arm_runs stays d n result x) f) scope ≡ y scope)
      → Fine d n y s t r m → Fine d n (scope_statement x res (roll-TypedStatement f)) s t r m
  made_as x f y s t r m same fine = fine_as d n y (scope_statement x res (roll-TypedStatement f)) s t r m (λ scope. rolled x f scope ∙ same scope) fine

  -- ---- statements without bodies

  abbrev pub Well : ScopeForm → Bool → Led Stated → Type 0
  Well = StatedWell stays d n res

  still : (s : ScopeForm) (f : TypedStatement-F TypedStatement TypedArm) (r : Bool) (m : ℕ) → Standing d n s
      → ((vs : Variables) (used : List ℕ) → Rattle.ctl_check_laws.specs.Accepted.Holds vs s.variables → scope_step (scene s d) res (map-TypedStatement TypedStatement TypedArm Scoping Scoping (scope_statement (scene s d) res) (arm_runs stays d n result (scene s d)) f) (record { variables = vs; used = used }) ≡ record { well = true; after = record { variables = vs; used = used }; returns = r; depth = m })
      → Well s r (record { made = record { form = roll-TypedStatement f; depth = m }; scope = s })
  still s f r m h run = fine_still d n (scope_statement (scene s d) res (roll-TypedStatement f)) s r m h (λ vs used among. rolled (scene s d) f (record { variables = vs; used = used }) ∙ run vs used among)

  simple_is : (w : Bool) (m l : ℕ) (scope : Scope) → w ≡ true → m ≡ l → simple w m scope ≡ record { well = true; after = scope; returns = false; depth = l }
  simple_is w m l scope e f = ap (λ w. simple w m scope) e ∙ ap (λ m. simple true m scope) f

  pub assignment_good : (s : ScopeForm) → Standing d n s → (a : Assignment) → Below n (assignment_tokens a) → Good (Well s false) (led (verdict.assignment_stated s d a) s)
  assignment_good s h a below =
      good_then (λ (o : Stated). Well s false (record { made = o; scope = s })) (Well s false) (verdict.assignment_stated s d a) (λ o. Ok (record { made = o; scope = s }))
      (good_then (AssignedWell d n result s) (λ (o : Stated). Well s false (record { made = o; scope = s })) (assigned s d a) (λ given. Ok (record { form = roll-TypedStatement (form.Assign given.assignment); depth = given.depth })) (needs.assigned s h a below)
      (λ given well. still s (form.Assign given.assignment) false given.depth h (λ vs used among. let w = well vs among in simple_is _ _ given.depth (record { variables = vs; used = used }) w.0 w.1)))
      (λ o w. w)

  pub call_good : (s : ScopeForm) → Standing d n s → (c : Rattle.ctl_tree.specs.declared.expression.Call.Call) → Below n (Rattle.ctl_tree.specs.OwnTokens.call_tokens c) → Good (Well s false) (led (verdict.call_stated s d c) s)
  call_good s h c below =
      good_then (λ (o : Stated). Well s false (record { made = o; scope = s })) (Well s false) (verdict.call_stated s d c) (λ o. Ok (record { made = o; scope = s }))
      (good_then (CallWell d n result s) (λ (o : Stated). Well s false (record { made = o; scope = s })) (checked_call s d c) (λ given. Ok (record { form = roll-TypedStatement (form.Call given.call); depth = given.depth })) (needs.call s h c below)
      (λ given well. still s (form.Call given.call) false given.depth h (λ vs used among. let w = well vs among in simple_is _ _ given.depth (record { variables = vs; used = used }) w.0 w.1)))
      (λ o w. w)

  pub return_good : (s : ScopeForm) → Standing d n s → (r : Rattle.ctl_tree.specs.declared.statement.Return.Return) → Below n (Rattle.ctl_tree.specs.OwnTokens.return_tokens r) → Good (Well s true) (led (verdict.return_stated s d result r) s)
  return_good s h r below =
      good_then (λ (o : Stated). Well s true (record { made = o; scope = s })) (Well s true) (verdict.return_stated s d result r) (λ o. Ok (record { made = o; scope = s }))
      (good_then (ReturnedWell d n result s) (λ (o : Stated). Well s true (record { made = o; scope = s })) (returned s d result r) (λ given. Ok (record { form = roll-TypedStatement (form.Return given.value); depth = given.depth })) (needs.returned s h r below)
      (λ given well. still s (form.Return given.value) true given.depth h (λ vs used among.
      let w = well vs among in
      ap (λ b. record { well = b; after = record { variables = vs; used = used }; returns = true; depth = (Rattle.ctl_types.specs.Scoping.left_type (scene s d) res vs given.value).depth }) w.0
      ∙ ap (λ m. record { well = true; after = record { variables = vs; used = used }; returns = true; depth = m }) w.1)))
      (λ o w. w)

  pub print_good : (s : ScopeForm) → Standing d n s → (p : Rattle.ctl_tree.specs.declared.statement.Print.Print) → Below n (Rattle.ctl_tree.specs.OwnTokens.print_tokens p) → Good (Well s false) (led (print_stated s d p) s)
  print_good s h p below =
      good_then (λ (o : Stated). Well s false (record { made = o; scope = s })) (Well s false) (print_stated s d p) (λ o. Ok (record { made = o; scope = s }))
      (good_then (PrintedWell d n result s) (λ (o : Stated). Well s false (record { made = o; scope = s })) (printed s d p.items none_printed) (λ items. rule_at s.unit p.token (print_rule items)) (needs.printed s h p.items (All-tail (λ token. token < n) p.token _ below))
      (λ items well. good_at (λ (o : Stated). Well s false (record { made = o; scope = s })) s.unit p.token (print_rule items) (good_if (λ (o : Stated). Well s false (record { made = o; scope = s })) (are_printed items) (record { form = roll-TypedStatement (form.Print items.forms); depth = items.depth }) _ (λ e.
      let b = both items.fit _ e in
      still s (form.Print items.forms) false items.depth h (λ vs used among.
      ap (λ w. asked w (Rattle.ctl_types.specs.Scoping.scope_items (scene s d) res items.forms) (record { variables = vs; used = used })) b.1
      ∙ ap (λ (o : Scoped). record { well = o.well; after = o.after; returns = o.returns; depth = o.depth }) (well b.0 vs used among))))))
      (λ o w. w)

  -- ---- declarations

  pub declared_good : (s : ScopeForm) (is_constant : Bool) (v : Verdict (Led Declared)) → Good (DeclaredWell d n result is_constant s) v → Good (Well s false) (declaration_stated v)
  declared_good s is_constant v g =
      good_then (DeclaredWell d n result is_constant s) (Well s false) v (λ after. Ok (record { made = verdict.declaration_made after.made; scope = after.scope })) g
      (λ o w. made_as (scene s d) (form.Declare o.made.declaration) (scope_declaration (scene s d) res o.made.declaration) s o.scope false o.made.depth (λ scope. refl) w.1)

  -- ---- blocks

  pub block_good : (es : List (Held stays d n res)) (s : ScopeForm) → Standing d n s → Below n (concat (map (λ (e : Held stays d n res). e.own) es))
      → Good (Well s (one_returns (map (λ (e : Held stays d n res). e.returns) es))) (own_stating (inside_stated (map (λ (e : Held stays d n res). e.stating) es)) s)
  block_good es s h below =
      let r = one_returns (map (λ (e : Held stays d n res). e.returns) es) in
      let x = scene s d in
      let Inside : Led Stated → Type 0 = λ o. (forms : List TypedStatement) × (o.made.form ≡ roll-TypedStatement (form.Block forms)) × Fine d n (scope_all (map (scope_statement x res) forms)) (entered s) o.scope r o.made.depth in
      let start : Led Statements = record { made = no_statements; scope = entered s } in
      good_then Inside (Well s r) (inside_stated (map (λ (e : Held stays d n res). e.stating) es) (entered s)) (λ o. Ok (record { made = o.made; scope = left o.scope }))
      (good_then (AllWell stays d n res start r) Inside (all_stated (map (λ (e : Held stays d n res). e.stating) es) start) (λ inside. Ok (record { made = block_made inside.made; scope = inside.scope }))
      (all_good stays d n res es start (entered_stands stays d n res s h) below)
      (λ o all. (all.forms, ap (λ fs. roll-TypedStatement (form.Block fs)) all.made, subst (λ m. Fine d n (scope_all (map (scope_statement x res) all.forms)) (entered s) o.scope r m) (sym (all.deep ∙ zero_max all.depth)) all.fine)))
      (λ o w.
      let fine = w.2 in
      subst (λ f. Fine d n (scope_statement x res f) s (left o.scope) r o.made.depth) (sym w.1)
      (made_as x (form.Block w.0) (own_scope (scope_all (map (scope_statement x res) w.0))) s (left o.scope) r o.made.depth (λ scope. refl)
      (fine_own d n (scope_all (map (scope_statement x res) w.0)) s o.scope r o.made.depth h (needs.left o.scope fine.standing.scope) fine)))

  -- ---- `if`

  asked_is : (x : Scene) (arms : List TypedArm) (z : Scoping) (s t : ScopeForm) (r : Bool) (m : ℕ) → nat_lt 0 (length arms) ≡ true
      → Fine d n (scope_arms (map (arm_runs stays d n result x) arms) z) s t r m → Fine d n (asked (nat_lt 0 (length (map (arm_runs stays d n result x) arms))) (scope_arms (map (arm_runs stays d n result x) arms) z)) s t r m
  asked_is x arms z s t r m some fine =
      fine_as d n (scope_arms (map (arm_runs stays d n result x) arms) z) _ s t r m
      (λ scope. ap (λ b. record { well = b && (scope_arms (map (arm_runs stays d n result x) arms) z scope).well; after = (scope_arms (map (arm_runs stays d n result x) arms) z scope).after; returns = (scope_arms (map (arm_runs stays d n result x) arms) z scope).returns; depth = (scope_arms (map (arm_runs stays d n result x) arms) z scope).depth }) (ap (λ k. nat_lt 0 k) (long (arm_runs stays d n result x) arms) ∙ some)) fine

  -- an `if` whose arms were checked
  abbrev Branched : ScopeForm → Led Arms → Bool → Led Stated → Type 0
  Branched s arms r o = are_tested arms.made ≡ true → Well s r o

  pub if_good : (es : List (HeldArm stays d n result)) (otherwise : Option (Held stays d n res)) (token : ℕ) (s : ScopeForm) → Standing d n s
      → Below n (concat (map (λ (e : HeldArm stays d n result). e.own) es) ++ some_tokens (λ tokens. tokens) (option_own otherwise))
      → Good (Well s (all_return (map (λ (e : HeldArm stays d n result). e.returns) es) && else_returns (option_returns otherwise)))
      (all_armed (map (λ (e : HeldArm stays d n result). e.arming) es) (record { made = no_arms; scope = s }) >>= (λ arms. otherwise_stated (option_stating otherwise) arms >>= (λ a. rule_at s.unit token (if_rule arms.made a))))
  if_good es otherwise token s h below =
      let q = all_return (map (λ (e : HeldArm stays d n result). e.returns) es) in
      let r = q && else_returns (option_returns otherwise) in
      let start : Led Arms = record { made = no_arms; scope = s } in
      let front = all_left (λ token. token < n) (concat (map (λ (e : HeldArm stays d n result). e.own) es)) (some_tokens (λ tokens. tokens) (option_own otherwise)) below in
      let rest = all_right (λ token. token < n) (concat (map (λ (e : HeldArm stays d n result). e.own) es)) (some_tokens (λ tokens. tokens) (option_own otherwise)) below in
      good_then (ArmedWell stays d n result start q) (Well s r) (all_armed (map (λ (e : HeldArm stays d n result). e.arming) es) start) (λ arms. otherwise_stated (option_stating otherwise) arms >>= (λ a. rule_at s.unit token (if_rule arms.made a))) (armed_good stays d n result es start h front)
      (λ arms armed.
      good_then (Branched s arms r) (Well s r) (otherwise_stated (option_stating otherwise) arms) (λ a. rule_at s.unit token (if_rule arms.made a)) (otherwise_good otherwise arms armed rest)
      (λ a w. good_at (Well s r) s.unit token (if_rule arms.made a) (good_if (Well s r) (are_tested arms.made) a _ w)))
    where
      start : Led Arms
      start = record { made = no_arms; scope = s }

      q : Bool
      q = all_return (map (λ (e : HeldArm stays d n result). e.returns) es)

      otherwise_good : (otherwise : Option (Held stays d n res)) (arms : Led Arms) → ArmedWell stays d n result start q arms → Below n (some_tokens (λ tokens. tokens) (option_own otherwise)) → Good (Branched s arms (q && else_returns (option_returns otherwise))) (otherwise_stated (option_stating otherwise) arms)
      otherwise_good None arms armed below = λ e.
          let b = both arms.made.fit _ e in
          let x = scene s d in
          let c = armed.chain b.0 in
          let some : nat_lt 0 (length c.forms) ≡ true = ap (λ fs. nat_lt 0 (length fs)) (sym c.made) ∙ b.1 in
          let all = c.fine (simple true 0) arms.scope false 0 (fine_simple d n arms.scope 0 armed.standing) in
          let deep : max c.depth 0 ≡ arms.made.depth = max_zero c.depth ∙ sym (c.deep ∙ zero_max c.depth) in
          subst (λ fs. Fine d n (scope_statement x res (roll-TypedStatement (form.If fs None))) s arms.scope (q && false) arms.made.depth) (sym c.made)
          (subst (λ m. Fine d n (scope_statement x res (roll-TypedStatement (form.If c.forms None))) s arms.scope (q && false) m) deep
          (made_as x (form.If c.forms None) _ s arms.scope (q && false) (max c.depth 0) (λ scope. refl) (asked_is x c.forms (simple true 0) s arms.scope (q && false) (max c.depth 0) some all)))
      otherwise_good (Some a) arms armed below =
          good_then (OwnWell stays d n res arms.scope a.returns) (Branched s arms (q && a.returns)) (own_stating a.stating arms.scope) (λ o. Ok (record { made = else_made arms.made o.made; scope = o.scope }))
          (own_good stays d n res a.stating a.returns a.own a.holds arms.scope armed.standing below)
          (λ o own e.
          let b = both arms.made.fit _ e in
          let x = scene s d in
          let c = armed.chain b.0 in
          let some : nat_lt 0 (length c.forms) ≡ true = ap (λ fs. nat_lt 0 (length fs)) (sym c.made) ∙ b.1 in
          let same : scene arms.scope d ≡ x = same_scene d s arms.scope armed.more armed.kept in
          let z : Scoping = own_scope (scope_statement x res o.made.form) in
          let own' : Fine d n z arms.scope o.scope a.returns o.made.depth = subst (λ (x : Scene). Fine d n (own_scope (scope_statement x res o.made.form)) arms.scope o.scope a.returns o.made.depth) same own in
          let all = c.fine z o.scope a.returns o.made.depth own' in
          let deep : max c.depth o.made.depth ≡ max arms.made.depth o.made.depth = ap (λ m. max m o.made.depth) (sym (c.deep ∙ zero_max c.depth)) in
          subst (λ fs. Fine d n (scope_statement x res (roll-TypedStatement (form.If fs (Some o.made.form)))) s o.scope (q && a.returns) (max arms.made.depth o.made.depth)) (sym c.made)
          (subst (λ m. Fine d n (scope_statement x res (roll-TypedStatement (form.If c.forms (Some o.made.form)))) s o.scope (q && a.returns) m) deep
          (made_as x (form.If c.forms (Some o.made.form)) _ s o.scope (q && a.returns) (max c.depth o.made.depth) (λ scope. refl) (asked_is x c.forms z s o.scope (q && a.returns) (max c.depth o.made.depth) some all))))

  -- ---- loops

  node_there : (s : ScopeForm) → Standing d n s → (token : ℕ) → token < n → node_stands (scene s d) (node_of s.unit token) ≡ true
  node_there s h token less = let same = h.unit in lt-ltb token _ (omega arith)

  pub while_good : (e : Expr) (a : Held stays d n res) (token : ℕ) (s : ScopeForm) → Standing d n s → Below n (token ∷ (expr_tokens e ++ a.own))
      → Good (Well s false) (checked s d e >>= (λ c. own_stating a.stating s >>= (λ body. led (while_ruled s.unit token c body.made) body.scope)))
  while_good e a token s h below =
      let x = scene s d in
      let less = All-head (λ token. token < n) token (expr_tokens e ++ a.own) below in
      let rest = All-tail (λ token. token < n) token (expr_tokens e ++ a.own) below in
      good_then (TestWell d n result s) (Well s false) (checked s d e) (λ c. own_stating a.stating s >>= (λ body. led (while_ruled s.unit token c body.made) body.scope)) (needs.test s h e (all_left (λ token. token < n) (expr_tokens e) a.own rest))
      (λ c well.
      good_then (OwnWell stays d n res s a.returns) (Well s false) (own_stating a.stating s) (λ body. led (while_ruled s.unit token c body.made) body.scope) (own_good stays d n res a.stating a.returns a.own a.holds s h (all_right (λ token. token < n) (expr_tokens e) a.own rest))
      (λ body own.
      good_then (λ (o : Stated). Well s false (record { made = o; scope = body.scope })) (Well s false) (while_ruled s.unit token c body.made) (λ o. Ok (record { made = o; scope = body.scope }))
      (good_then (λ (t : Taken). test_rule c ≡ Ok t) (λ (o : Stated). Well s false (record { made = o; scope = body.scope })) (test_checked s.unit token c) (λ t. Ok (while_made s.unit token t body.made)) (good_at (λ (t : Taken). test_rule c ≡ Ok t) s.unit token (test_rule c) (good_all (λ (t : Taken). test_rule c ≡ Ok t) (test_rule c) (λ t e. e)))
      (λ t e.
      let w = well t e in
      let y : Scoping = own_scope (scope_statement x res body.made.form) in
      let stands = node_stands x (node_of s.unit token) in
      made_as x (form.While t.operand body.made.form (node_of s.unit token)) (looped (after_test d n x t.operand stands y)) s body.scope false (max t.depth body.made.depth) (λ scope. refl)
      (fine_looped d n (after_test d n x t.operand stands y) s body.scope a.returns (max t.depth body.made.depth)
      (fine_tested d n x t.operand y s body.scope a.returns t.depth body.made.depth stands (node_there s h token less) w.1 own))))
      (λ o w. w)))

  -- how a `for` begins
  abbrev StartedWell : ScopeForm → Led Started → Type 0
  StartedWell s o = Fine d n (scope_start (scene s d) res o.made.form) s o.scope false o.made.depth

  assignment_still : (s t : ScopeForm) (more : Variables) → Kept s t more → Standing d n t → (given : Assigned) → AssignedWell d n result s given
      → Fine d n (scope_assignment (scene s d) res given.assignment) t t false given.depth
  assignment_still s t more kept h given well =
      fine_still d n (scope_assignment (scene s d) res given.assignment) t false given.depth h (λ vs used among.
      let w = well vs (among_before vs s t more kept among) in
      simple_is _ _ given.depth (record { variables = vs; used = used }) w.0 w.1)

  started_good : (s : ScopeForm) → Standing d n s → (f : ForStart) → Below n (start_tokens f) → Good (StartedWell s) (started d f s)
  started_good s h (VariableStart v) below =
      good_then (DeclaredWell d n result false s) (StartedWell s) (variable_declared s d v) (λ after. Ok (record { made = verdict.declaration_started after.made; scope = after.scope })) (needs.variable s h v below)
      (λ o w. fine_as d n (scope_declaration (scene s d) res o.made.declaration) (scope_start (scene s d) res (Rattle.ctl_types.specs.declared.statement.ForStart.TheVariants.Declare o.made.declaration)) s o.scope false o.made.depth
      (λ scope. ap (λ b. asked (not b) (scope_declaration (scene s d) res o.made.declaration) scope) w.0) w.1)
  started_good s h (AssignmentStart a) below =
      good_then (λ (o : Started). StartedWell s (record { made = o; scope = s })) (StartedWell s) (verdict.assignment_started s d a) (λ o. Ok (record { made = o; scope = s }))
      (good_then (AssignedWell d n result s) (λ (o : Started). StartedWell s (record { made = o; scope = s })) (assigned s d a) (λ given. Ok (record { form = Rattle.ctl_types.specs.declared.statement.ForStart.TheVariants.Assign given.assignment; depth = given.depth })) (needs.assigned s h a below)
      (λ given well. assignment_still s s [] (Rattle.definition_laws.proofs.Sequences.kept_self s) h given well))
      (λ o w. w)

  -- the head of a `for`
  pub record HeadWell (s : ScopeForm) (o : Led Head) : Type 0 where
    pub first : Fine d n (scope_start (scene s d) res o.made.first.form) s o.scope false o.made.first.depth
    pub test : TestWell d n result o.scope o.made.test
    pub next : AssignedWell d n result o.scope o.made.next

  head_good : (s : ScopeForm) → Standing d n s → (f : ForStart) (e : Expr) (a : Assignment) → Below n (start_tokens f ++ (expr_tokens e ++ assignment_tokens a)) → Good (HeadWell s) (head_stated d f e a s)
  head_good s h f e a below =
      let one = all_left (λ token. token < n) (start_tokens f) (expr_tokens e ++ assignment_tokens a) below in
      let rest = all_right (λ token. token < n) (start_tokens f) (expr_tokens e ++ assignment_tokens a) below in
      good_then (StartedWell s) (HeadWell s) (started d f s) (λ first. led (head_with first.scope d e a first.made) first.scope) (started_good s h f one)
      (λ first w.
      good_then (λ (o : Head). HeadWell s (record { made = o; scope = first.scope })) (HeadWell s) (head_with first.scope d e a first.made) (λ o. Ok (record { made = o; scope = first.scope }))
      (good_then (TestWell d n result first.scope) (λ (o : Head). HeadWell s (record { made = o; scope = first.scope })) (checked first.scope d e) (λ c. assigned first.scope d a >>= (λ given. Ok (record { first = first.made; test = c; next = given }))) (needs.test first.scope w.standing e (all_left (λ token. token < n) (expr_tokens e) (assignment_tokens a) rest))
      (λ c well. good_then (AssignedWell d n result first.scope) (λ (o : Head). HeadWell s (record { made = o; scope = first.scope })) (assigned first.scope d a) (λ given. Ok (record { first = first.made; test = c; next = given })) (needs.assigned first.scope w.standing a (all_right (λ token. token < n) (expr_tokens e) (assignment_tokens a) rest))
      (λ given assign. record { first = w; test = well; next = assign })))
      (λ o w. w))

  for_depth : (a b c e : ℕ) → max a (max (max b (max c (max e 0))) 0) ≡ max (max a b) (max e c)
  for_depth a b c e = omega arith

  -- what a `for` does inside its own scope
  abbrev for_inside : Scene → Head → Operand → TypedStatement → Bool → Scoping
  for_inside x head test body stands = scope_all (scope_start x res head.first.form ∷ (λ scope. looped (tested (operand_type x scope.variables test) stands (scope_all (own_scope (scope_statement x res body) ∷ scope_assignment x res head.next.assignment ∷ []))) scope) ∷ [])

  abbrev ForInside : ScopeForm → ℕ → Led Stated → Type 0
  ForInside s token o = (head : Head) × (test : Operand) × (body : TypedStatement)
      × (o.made.form ≡ roll-TypedStatement (form.For head.first.form test head.next.assignment body (node_of s.unit token)))
      × Fine d n (for_inside (scene s d) head test body (node_stands (scene s d) (node_of s.unit token))) s o.scope false o.made.depth

  for_fine : (s : ScopeForm) → Standing d n s → (token : ℕ) → token < n → (head : Led Head) → HeadWell s head → (r : Bool) (body : Led Stated) → OwnWell stays d n res head.scope r body
      → (t : Taken) → test_rule head.made.test ≡ Ok t → ForInside s token (record { made = for_made s.unit token head.made t body.made; scope = body.scope })
  for_fine s h token less head w r body own t e =
      let x = scene s d in
      let same : scene head.scope d ≡ x = same_scene d s head.scope w.first.more w.first.kept in
      let tested' = w.test t e in
      let y : Scoping = own_scope (scope_statement x res body.made.form) in
      let next : Scoping = scope_assignment x res head.made.next.assignment in
      let stands = node_stands x (node_of s.unit token) in
      let own' : Fine d n y head.scope body.scope r body.made.depth = subst (λ (x : Scene). Fine d n (own_scope (scope_statement x res body.made.form)) head.scope body.scope r body.made.depth) same own in
      let assign : Fine d n next body.scope body.scope false head.made.next.depth = subst (λ (x : Scene). Fine d n (scope_assignment x res head.made.next.assignment) body.scope body.scope false head.made.next.depth) same (assignment_still head.scope body.scope own.more own.kept own.standing head.made.next w.next) in
      let last : Fine d n (scope_all (next ∷ [])) body.scope body.scope false (max head.made.next.depth 0) = fine_then d n or next (simple true 0) body.scope body.scope body.scope false false head.made.next.depth 0 assign (fine_simple d n body.scope 0 own.standing) in
      let turn : Fine d n (scope_all (y ∷ next ∷ [])) head.scope body.scope (r || false) (max body.made.depth (max head.made.next.depth 0)) = fine_then d n or y (scope_all (next ∷ [])) head.scope body.scope body.scope r false body.made.depth (max head.made.next.depth 0) own' last in
      let typed : (vs : Variables) → Rattle.ctl_check_laws.specs.Accepted.Holds vs head.scope.variables → operand_type x vs t.operand ≡ Rattle.ctl_check_laws.specs.Accepted.known [] (Some (Rattle.ctl_types.specs.declared.shape.Base.TheVariants.Scalar Rattle.ctl_base.specs.declared.kind.ScalarKind.TheVariants.Bool)) t.depth = λ vs among. ap (λ (x : Scene). operand_type x vs t.operand) (sym same) ∙ tested'.1 vs among in
      let ask = fine_tested d n x t.operand (scope_all (y ∷ next ∷ [])) head.scope body.scope (r || false) t.depth (max body.made.depth (max head.made.next.depth 0)) stands (node_there s h token less) typed turn in
      let loop = fine_looped d n (after_test d n x t.operand stands (scope_all (y ∷ next ∷ []))) head.scope body.scope (r || false) (max t.depth (max body.made.depth (max head.made.next.depth 0))) ask in
      let l = max t.depth (max body.made.depth (max head.made.next.depth 0)) in
      let rest : Fine d n (scope_all (looped (after_test d n x t.operand stands (scope_all (y ∷ next ∷ []))) ∷ [])) head.scope body.scope false (max l 0) = fine_then d n or (looped (after_test d n x t.operand stands (scope_all (y ∷ next ∷ [])))) (simple true 0) head.scope body.scope body.scope false false l 0 loop (fine_simple d n body.scope 0 own.standing) in
      let all = fine_then d n or (scope_start x res head.made.first.form) (scope_all (looped (after_test d n x t.operand stands (scope_all (y ∷ next ∷ []))) ∷ [])) s head.scope body.scope false false head.made.first.depth (max l 0) w.first rest in
      (head.made, t.operand, body.made.form, refl, subst (λ m. Fine d n (for_inside x head.made t.operand body.made.form stands) s body.scope false m) (for_depth head.made.first.depth t.depth body.made.depth head.made.next.depth) all)

  pub for_good : (f : ForStart) (e : Expr) (next : Assignment) (a : Held stays d n res) (token : ℕ) (s : ScopeForm) → Standing d n s → Below n (token ∷ (start_tokens f ++ expr_tokens e ++ assignment_tokens next ++ a.own))
      → Good (Well s false) (own_stating (for_parts d f e next a.stating token) s)
  for_good f e next a token s h below =
      let x = scene s d in
      let inner = entered s in
      let stands = entered_stands stays d n res s h in
      let less = All-head (λ token. token < n) token _ below in
      let tail = All-tail (λ token. token < n) token _ below in
      let parted : Below n ((start_tokens f ++ (expr_tokens e ++ assignment_tokens next)) ++ a.own) = subst (λ (ts : Tokens). Below n ts) (regroup (start_tokens f) (expr_tokens e) (assignment_tokens next) a.own) tail in
      let front = all_left (λ token. token < n) (start_tokens f ++ (expr_tokens e ++ assignment_tokens next)) a.own parted in
      let last = all_right (λ token. token < n) (start_tokens f ++ (expr_tokens e ++ assignment_tokens next)) a.own parted in
      good_then (ForInside inner token) (Well s false) (for_parts d f e next a.stating token inner) (λ o. Ok (record { made = o.made; scope = left o.scope }))
      (good_then (HeadWell inner) (ForInside inner token) (head_stated d f e next inner) (λ head. own_stating a.stating head.scope >>= (λ after. led (for_ruled s.unit token head.made after.made) after.scope)) (head_good inner stands f e next front)
      (λ head w.
      good_then (OwnWell stays d n res head.scope a.returns) (ForInside inner token) (own_stating a.stating head.scope) (λ after. led (for_ruled s.unit token head.made after.made) after.scope) (own_good stays d n res a.stating a.returns a.own a.holds head.scope w.first.standing last)
      (λ body own.
      good_then (λ (o : Stated). ForInside inner token (record { made = o; scope = body.scope })) (ForInside inner token) (for_ruled s.unit token head.made body.made) (λ o. Ok (record { made = o; scope = body.scope }))
      (good_then (λ (t : Taken). test_rule head.made.test ≡ Ok t) (λ (o : Stated). ForInside inner token (record { made = o; scope = body.scope })) (test_checked s.unit token head.made.test) (λ t. Ok (for_made s.unit token head.made t body.made)) (good_at (λ (t : Taken). test_rule head.made.test ≡ Ok t) s.unit token (test_rule head.made.test) (good_all (λ (t : Taken). test_rule head.made.test ≡ Ok t) (test_rule head.made.test) (λ t e. e)))
      (λ t e. for_fine inner stands token less head w a.returns body own t e))
      (λ o w. w))))
      (λ o w.
      let fine = w.4 in
      let stand = node_stands x (node_of s.unit token) in
      subst (λ f. Fine d n (scope_statement x res f) s (left o.scope) false o.made.depth) (sym w.3)
      (made_as x (form.For w.0.first.form w.1 w.0.next.assignment w.2 (node_of s.unit token)) (own_scope (for_inside x w.0 w.1 w.2 stand)) s (left o.scope) false o.made.depth (λ scope. refl)
      (fine_own d n (for_inside x w.0 w.1 w.2 stand) s o.scope false o.made.depth h (needs.left o.scope fine.standing.scope) fine)))
    where
      regroup : (front bs cs ds : Tokens) → front ++ bs ++ cs ++ ds ≡ (front ++ (bs ++ cs)) ++ ds
      regroup front bs cs ds = ap (λ ts. ts ++ ds) (append_assoc front bs cs)
