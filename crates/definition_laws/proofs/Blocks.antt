-- Statements of a block, and a block as a scope of its own.
use Rattle.std.proofs.Common.{◌≡◌, ℕ, zero, suc, ◌+◌, ◌<◌, List, [], ◌∷◌, ◌++◌, map, length, Option, Some, None, Ok, Err, Bool, true, false, ◌&&◌, ◌||◌, refl, sym, ap, subst, ◌∙◌, arith}
use Rattle.std.specs.Prelude.{max}
use Rattle.std.specs.List.{concat}
use Rattle.std.proofs.lemmas.List.{append_assoc, append-nil}
use Rattle.ctl_tree.specs.OwnTokens.{Tokens, Below}
use Rattle.ctl_types.specs.declared.shape.Shape.{Shape}
use Rattle.ctl_types.specs.declared.statement.TypedStatement.{TypedStatement}
use Rattle.ctl_types.specs.Typing.{Scene, Typed, Variables}
use Rattle.ctl_types.specs.Scoping.{Scope, Scoped, Scoping, simple, own_scope, scope_all, scope_statement}
use Rattle.ctl_types.specs.Definitions.{Defined}
use Rattle.ctl_scope.specs.Scope.{ScopeForm, IsScope}
use Rattle.ctl_scope.specs.Beside.{scene}
use Rattle.ctl_scope.specs.Changes.{entered, left}
use Rattle.ctl_check_rules.specs.Faults.{Verdict, ◌>>=◌}
use Rattle.ctl_check_statement.specs.declared.stated.Stated.{Stated}
use Rattle.ctl_check_statement.specs.declared.stated.Statements.{Statements}
use Rattle.ctl_check_statement.specs.Leading.{Led}
use Rattle.ctl_check_statement.specs.Returning.{one_returns}
use Rattle.ctl_check_statement.specs.Statements.{Stating, own_scope as own_stating, with_statement, next_stated, all_stated}
use Rattle.definition_laws.proofs.Standing.{Standing}
use Rattle.definition_laws.proofs.Verdicts.{Good, good_then, good_more}
use Rattle.definition_laws.proofs.Parted.{all_left, all_right}
use Rattle.definition_laws.proofs.Scopes.{Kept, after}
use Rattle.definition_laws.proofs.Sequences.{Fine, fine_simple, fine_then, fine_own, then_runs}

pub max_zero : (m : ℕ) → max m 0 ≡ m
max_zero m = omega arith

pub max_assoc : (a b c : ℕ) → max (max a b) c ≡ max a (max b c)
max_assoc a b c = omega arith

-- the scene is the same in each scope of a function
pub same_scene : (d : Defined) (s t : ScopeForm) (more : Variables) → Kept s t more → scene t d ≡ scene s d
same_scene d s t more k = ap (λ (t : ScopeForm). scene t d) k.same

-- scopes that end and begin are scopes
pub record Stays : Type 0 where
  pub entered : (s : ScopeForm) → IsScope s → IsScope (entered s)
  pub left : (s : ScopeForm) → IsScope s → IsScope (left s)

module _ (stays : Stays) (d : Defined) (n : ℕ) (result : Typed) where
  -- the verdict on a statement is fine
  abbrev pub StatedWell : ScopeForm → Bool → Led Stated → Type 0
  StatedWell s r o = Fine d n (scope_statement (scene s d) result o.made.form) s o.scope r o.made.depth

  abbrev pub Holding : Stating → Bool → Tokens → Type 0
  Holding a r own = (s : ScopeForm) → Standing d n s → Below n own → Good (StatedWell s r) (a s)

  -- a statement with what it returns and its tokens, that is fine
  pub record Held : Type 0 where
    pub stating : Stating
    pub returns : Bool
    pub own : Tokens
    pub holds : Holding stating returns own

  -- ---- a scope of its own

  pub entered_stands : (s : ScopeForm) → Standing d n s → Standing d n (entered s)
  entered_stands s h = record {
    scope = stays.entered s h.scope;
    beside = record { counts = h.beside.counts; constants = h.beside.constants; depths = h.beside.depths; functions = h.beside.functions };
    unit = h.unit;
    sees = h.sees;
    inside = omega arith;
    variables = h.variables;
  }

  abbrev pub OwnWell : ScopeForm → Bool → Led Stated → Type 0
  OwnWell s r o = Fine d n (own_scope (scope_statement (scene s d) result o.made.form)) s o.scope r o.made.depth

  pub own_good : (a : Stating) (r : Bool) (own : Tokens) → Holding a r own → (s : ScopeForm) → Standing d n s → Below n own → Good (OwnWell s r) (own_stating a s)
  own_good a r own h s stands below =
      good_then (StatedWell (entered s) r) (OwnWell s r) (a (entered s)) (λ o. Ok (record { made = o.made; scope = left o.scope })) (h (entered s) (entered_stands s stands) below)
      (λ o fine. fine_own d n (scope_statement (scene s d) result o.made.form) s o.scope r o.made.depth stands (stays.left o.scope fine.standing.scope) fine)

  -- ---- one after another

  abbrev or : Bool → Bool → Bool
  or a b = a || b

  -- the statements behind those before them
  pub record AllWell (before : Led Statements) (r : Bool) (o : Led Statements) : Type 0 where
    pub forms : List TypedStatement
    pub depth : ℕ
    pub made : o.made.forms ≡ before.made.forms ++ forms
    pub deep : o.made.depth ≡ max before.made.depth depth
    pub fine : Fine d n (scope_all (map (scope_statement (scene before.scope d) result) forms)) before.scope o.scope r depth

  all_none : (before : Led Statements) → Standing d n before.scope → AllWell before false before
  all_none before h = record {
    forms = [];
    depth = 0;
    made = sym (append-nil before.made.forms);
    deep = sym (max_zero before.made.depth);
    fine = fine_simple d n before.scope 0 h;
  }

  all_more : (before : Led Statements) (a : Stated) (t : ScopeForm) (r : Bool) → Fine d n (scope_statement (scene before.scope d) result a.form) before.scope t r a.depth
      → (q : Bool) (o : Led Statements) → AllWell (record { made = with_statement before.made a; scope = t }) q o → AllWell before (r || q) o
  all_more before a t r first q o rest =
      let x = scene before.scope d in
      let same : scene t d ≡ x = same_scene d before.scope t first.more first.kept in
      let next : Fine d n (scope_all (map (scope_statement x result) rest.forms)) t o.scope q rest.depth = subst (λ (x : Scene). Fine d n (scope_all (map (scope_statement x result) rest.forms)) t o.scope q rest.depth) same rest.fine in
      record {
        forms = a.form ∷ rest.forms;
        depth = max a.depth rest.depth;
        made = rest.made ∙ append_assoc before.made.forms (a.form ∷ []) rest.forms;
        deep = rest.deep ∙ max_assoc before.made.depth a.depth rest.depth;
        fine = fine_then d n or (scope_statement x result a.form) (scope_all (map (scope_statement x result) rest.forms)) before.scope t o.scope r q a.depth rest.depth first next;
      }

  pub all_good : (es : List Held) (before : Led Statements) → Standing d n before.scope → Below n (concat (map (λ (e : Held). e.own) es))
      → Good (AllWell before (one_returns (map (λ (e : Held). e.returns) es))) (all_stated (map (λ (e : Held). e.stating) es) before)
  all_good [] before h below = all_none before h
  all_good (e ∷ es) before h below =
      let own = all_left (λ token. token < n) e.own (concat (map (λ (e : Held). e.own) es)) below in
      let rest = all_right (λ token. token < n) e.own (concat (map (λ (e : Held). e.own) es)) below in
      let q = one_returns (map (λ (e : Held). e.returns) es) in
      let f : Led Stated → Verdict (Led Statements) = λ after. Ok (record { made = with_statement before.made after.made; scope = after.scope }) in
      good_then (λ (t : Led Statements). (a : Stated) × (t ≡ record { made = with_statement before.made a; scope = t.scope }) × Fine d n (scope_statement (scene before.scope d) result a.form) before.scope t.scope e.returns a.depth)
      (AllWell before (e.returns || q)) (next_stated e.stating before) (all_stated (map (λ (e : Held). e.stating) es))
      (good_then (StatedWell before.scope e.returns) _ (e.stating before.scope) f (e.holds before.scope h own) (λ o fine. (o.made, refl, fine)))
      (λ t p. good_more (AllWell (record { made = with_statement before.made p.0; scope = t.scope }) q) (AllWell before (e.returns || q)) (all_stated (map (λ (e : Held). e.stating) es) t)
      (subst (λ (u : Led Statements). Good (AllWell u q) (all_stated (map (λ (e : Held). e.stating) es) t)) p.1 (all_good es t p.2.standing rest))
      (λ o all. all_more before p.0 t.scope e.returns p.2 q o all))
