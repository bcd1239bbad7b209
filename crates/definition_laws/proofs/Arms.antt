-- The arms of an `if`.
use Rattle.std.proofs.Common.{◌≡◌, ℕ, zero, suc, ◌+◌, ◌<◌, List, [], ◌∷◌, ◌++◌, map, length, Option, Some, None, Result, Ok, Err, Bool, true, false, ◌&&◌, ◌||◌, nat_lt, refl, sym, ap, subst, ◌∙◌, arith}
use Rattle.std.specs.Prelude.{max}
use Rattle.std.specs.List.{concat}
use Rattle.std.proofs.lemmas.List.{append_assoc, append-nil}
use Rattle.ctl_tree.specs.declared.expression.Expr.{Expr}
use Rattle.ctl_tree.specs.OwnTokens.{Tokens, Below, expr_tokens}
use Rattle.ctl_types.specs.declared.shape.Shape.{Shape}
use Rattle.ctl_types.specs.declared.statement.TypedStatement.{TypedStatement}
use Rattle.ctl_types.specs.declared.statement.Arm.{Arm, roll-Arm}
use Rattle.ctl_types.specs.declared.statement.TypedStatement.TheFolds.{fold-Arm, fold-roll-Arm}
use Rattle.ctl_types.specs.Typing.{Scene, Typed, Variables, result_type}
use Rattle.ctl_types.specs.Scoping.{Scope, Scoped, Scoping, simple, own_scope, scope_arms, scope_step, scope_arm, scope_statement}
use Rattle.ctl_types.specs.Definitions.{Defined}
use Rattle.ctl_scope.specs.Scope.{ScopeForm}
use Rattle.ctl_scope.specs.declared.kind.CheckKind.{CheckKind}
use Rattle.ctl_scope.specs.Beside.{scene}
use Rattle.ctl_check_rules.specs.declared.checked.Checked.{Checked}
use Rattle.ctl_check_rules.specs.Faults.{Verdict, ◌>>=◌}
use Rattle.ctl_check_expr.specs.Checking.{checked}
use Rattle.ctl_check_init.specs.declared.takings.Taken.{Taken}
use Rattle.ctl_check_init.specs.Takings.{test_rule}
use Rattle.ctl_check_statement.specs.declared.stated.Stated.{Stated}
use Rattle.ctl_check_statement.specs.declared.stated.Arms.{Arms}
use Rattle.ctl_check_statement.specs.Leading.{Led}
use Rattle.ctl_check_statement.specs.Returning.{all_return}
use Rattle.ctl_check_statement.specs.Statements.{Stating, Arming, own_scope as own_stating, with_arm, all_armed}
use Rattle.definition_laws.proofs.Standing.{Standing}
use Rattle.definition_laws.proofs.Verdicts.{Good, good_then, good_more}
use Rattle.definition_laws.proofs.Parted.{all_left, all_right}
use Rattle.definition_laws.proofs.Scopes.{Kept}
use Rattle.definition_laws.proofs.Sequences.{Fine, fine_then, then_runs, kept_then, kept_self}
use Rattle.definition_laws.proofs.Blocks.{Stays, Holding, OwnWell, own_good, max_zero, max_assoc, same_scene}
use Rattle.definition_laws.proofs.Single.{fine_as, after_test, fine_tested}
use Rattle.definition_laws.proofs.Needs.{TestWell}

pub zero_max : (m : ℕ) → max 0 m ≡ m
zero_max m = omega arith

module _ (stays : Stays) (d : Defined) (n : ℕ) (result : Option Shape) where
  -- what the typed form does of an arm
  abbrev pub arm_runs : Scene → Arm → Scoping
  arm_runs x = fold-Arm Scoping Scoping (scope_step x (result_type result)) (scope_arm x (result_type result))

  -- the arms behind those before them: whatever is fine behind them is fine with them in front
  pub record Chain (before : Led Arms) (r : Bool) (o : Led Arms) : Type 0 where
    pub fit : before.made.fit ≡ true
    pub forms : List Arm
    pub depth : ℕ
    pub made : o.made.forms ≡ before.made.forms ++ forms
    pub deep : o.made.depth ≡ max before.made.depth depth
    pub fine : (z : Scoping) (t : ScopeForm) (q : Bool) (m : ℕ) → Fine d n z o.scope t q m → Fine d n (scope_arms (map (arm_runs (scene before.scope d)) forms) z) before.scope t (r && q) (max depth m)

  pub record ArmedWell (before : Led Arms) (r : Bool) (o : Led Arms) : Type 0 where
    pub more : Variables
    pub kept : Kept before.scope o.scope more
    pub standing : Standing d n o.scope
    pub chain : o.made.fit ≡ true → Chain before r o

  pub record HeldArm : Type 0 where
    pub arming : Arming
    pub returns : Bool
    pub own : Tokens
    pub holds : (before : Led Arms) → Standing d n before.scope → Below n own → Good (ArmedWell before returns) (arming before)

  -- ---- one arm

  abbrev and : Bool → Bool → Bool
  and a b = a && b

  arm_chain : (before : Led Arms) (c : Checked) (r : Bool) (body : Led Stated) → Standing d n before.scope → TestWell d n result before.scope c
      → Fine d n (own_scope (scope_statement (scene before.scope d) (result_type result) body.made.form)) before.scope body.scope r body.made.depth
      → (t : Result Taken CheckKind) → test_rule c ≡ t → (with_arm before.made c body.made t).fit ≡ true → Chain before r (record { made = with_arm before.made c body.made t; scope = body.scope })
  arm_chain before c r body h well fine (Err kind) e fit = absurd (cc)
  arm_chain before c r body h well fine (Ok t) e fit =
      let x = scene before.scope d in
      let w = well t e in
      let a : Arm = roll-Arm (record { test = t.operand; body = body.made.form }) in
      let y : Scoping = own_scope (scope_statement x (result_type result) body.made.form) in
      let rolled : arm_runs x a ≡ scope_arm x (result_type result) (record { test = t.operand; body = scope_statement x (result_type result) body.made.form }) = fold-roll-Arm Scoping Scoping (scope_step x (result_type result)) (scope_arm x (result_type result)) (record { test = t.operand; body = body.made.form }) in
      let one : Fine d n (arm_runs x a) before.scope body.scope r (max t.depth body.made.depth) =
      subst (λ (z : Scoping). Fine d n z before.scope body.scope r (max t.depth body.made.depth)) (sym rolled)
      (fine_tested d n x t.operand y before.scope body.scope r t.depth body.made.depth true refl (λ vs among. w.1 vs among) fine) in
      record {
        fit = fit;
        forms = a ∷ [];
        depth = max c.depth body.made.depth;
        made = refl;
        deep = refl;
        fine = λ z u q m f. subst (λ l. Fine d n (then_runs d n and (arm_runs x a) z) before.scope u (r && q) (max (max l body.made.depth) m)) w.0 (fine_then d n and (arm_runs x a) z before.scope body.scope u r q (max t.depth body.made.depth) m one f);
      }

  pub arm_good : (e : Expr) (a : Stating) (r : Bool) (own : Tokens) → Holding stays d n (result_type result) a r own → ((s : ScopeForm) → Standing d n s → Below n (expr_tokens e) → Good (TestWell d n result s) (checked s d e))
      → (before : Led Arms) → Standing d n before.scope → Below n (expr_tokens e ++ own)
      → Good (ArmedWell before r) (checked before.scope d e >>= (λ c. own_stating a before.scope >>= (λ body. Ok (record { made = with_arm before.made c body.made (test_rule c); scope = body.scope }))))
  arm_good e a r own holds test before h below =
      good_then (TestWell d n result before.scope) (ArmedWell before r) (checked before.scope d e) (λ c. own_stating a before.scope >>= (λ body. Ok (record { made = with_arm before.made c body.made (test_rule c); scope = body.scope })))
      (test before.scope h (all_left (λ token. token < n) (expr_tokens e) own below))
      (λ c well. good_then (OwnWell stays d n (result_type result) before.scope r) (ArmedWell before r) (own_stating a before.scope) (λ body. Ok (record { made = with_arm before.made c body.made (test_rule c); scope = body.scope }))
      (own_good stays d n (result_type result) a r own holds before.scope h (all_right (λ token. token < n) (expr_tokens e) own below))
      (λ body fine. record { more = fine.more; kept = fine.kept; standing = fine.standing; chain = arm_chain before c r body h well fine (test_rule c) refl }))

  -- ---- all arms

  chain_both : (before a o : Led Arms) (r q : Bool) (more : Variables) → Kept before.scope a.scope more → Chain before r a → Chain a q o → Chain before (r && q) o
  chain_both before a o r q more kept first rest =
      let x = scene before.scope d in
      let same : scene a.scope d ≡ x = same_scene d before.scope a.scope more kept in
      record {
        fit = first.fit;
        forms = first.forms ++ rest.forms;
        depth = max first.depth rest.depth;
        made = rest.made ∙ ap (λ fs. fs ++ rest.forms) first.made ∙ append_assoc before.made.forms first.forms rest.forms;
        deep = rest.deep ∙ ap (λ m. max m rest.depth) first.deep ∙ max_assoc before.made.depth first.depth rest.depth;
        fine = λ z t p m f.
            let inner = rest.fine z t p m f in
            let inner' : Fine d n (scope_arms (map (arm_runs x) rest.forms) z) a.scope t (q && p) (max rest.depth m) = subst (λ (x : Scene). Fine d n (scope_arms (map (arm_runs x) rest.forms) z) a.scope t (q && p) (max rest.depth m)) same inner in
            let all = first.fine (scope_arms (map (arm_runs x) rest.forms) z) t (q && p) (max rest.depth m) inner' in
            subst (λ l. Fine d n (scope_arms (map (arm_runs x) (first.forms ++ rest.forms)) z) before.scope t ((r && q) && p) l) (sym (max_assoc first.depth rest.depth m))
            (subst (λ b. Fine d n (scope_arms (map (arm_runs x) (first.forms ++ rest.forms)) z) before.scope t b (max first.depth (max rest.depth m))) (and_assoc r q p)
            (subst (λ (y : Scoping). Fine d n y before.scope t (r && (q && p)) (max first.depth (max rest.depth m))) (arms_both x first.forms rest.forms z) all));
      }
    where
      and_assoc : (a b c : Bool) → (a && (b && c)) ≡ ((a && b) && c)
      and_assoc true b c = refl
      and_assoc false b c = refl

      arms_both : (x : Scene) (front back : List Arm) (z : Scoping) → scope_arms (map (arm_runs x) front) (scope_arms (map (arm_runs x) back) z) ≡ scope_arms (map (arm_runs x) (front ++ back)) z
      arms_both x [] back z = refl
      arms_both x (a ∷ front) back z = ap (λ (y : Scoping). then_runs d n and (arm_runs x a) y) (arms_both x front back z)

  armed_none : (before : Led Arms) → Standing d n before.scope → ArmedWell before true before
  armed_none before h = record {
    more = [];
    kept = kept_self before.scope;
    standing = h;
    chain = λ fit. record {
      fit = fit;
      forms = [];
      depth = 0;
      made = sym (append-nil before.made.forms);
      deep = sym (max_zero before.made.depth);
      fine = λ z t q m f. subst (λ l. Fine d n z before.scope t q l) (sym (zero_max m)) f;
    };
  }

  pub armed_good : (es : List HeldArm) (before : Led Arms) → Standing d n before.scope → Below n (concat (map (λ (e : HeldArm). e.own) es))
      → Good (ArmedWell before (all_return (map (λ (e : HeldArm). e.returns) es))) (all_armed (map (λ (e : HeldArm). e.arming) es) before)
  armed_good [] before h below = armed_none before h
  armed_good (e ∷ es) before h below =
      let own = all_left (λ token. token < n) e.own (concat (map (λ (e : HeldArm). e.own) es)) below in
      let rest = all_right (λ token. token < n) e.own (concat (map (λ (e : HeldArm). e.own) es)) below in
      let q = all_return (map (λ (e : HeldArm). e.returns) es) in
      good_then (ArmedWell before e.returns) (ArmedWell before (e.returns && q)) (e.arming before) (all_armed (map (λ (e : HeldArm). e.arming) es)) (e.holds before h own)
      (λ a first. good_more (ArmedWell a q) (ArmedWell before (e.returns && q)) (all_armed (map (λ (e : HeldArm). e.arming) es) a) (armed_good es a first.standing rest)
      (λ o next. record {
        more = first.more ++ next.more;
        kept = kept_then d n before.scope a.scope o.scope first.more next.more first.kept next.kept;
        standing = next.standing;
        chain = λ fit. let c = next.chain fit in chain_both before a o e.returns q first.more first.kept (first.chain c.fit) c;
      }))
