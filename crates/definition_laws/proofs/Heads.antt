-- What the checker accepts of a function beside its body.
use Rattle.std.proofs.Common.{◌≡◌, ℕ, suc, List, [], ◌∷◌, ◌++◌, length, Option, Some, None, is_some, Result, Ok, Err, Bool, true, false, not, ◌&&◌, if◌then◌else◌, refl, sym, ap, subst, ◌∙◌}
use Rattle.ctl_tree.specs.declared.declaration.Initialiser.{Initialiser}
use Rattle.ctl_tree.specs.declared.definition.Parameter.{Parameter as Written}
use Rattle.ctl_tree.specs.declared.definition.Function.{Function as WrittenFunction}
use Rattle.ctl_types.specs.declared.shape.Shape.{Shape}
use Rattle.ctl_types.specs.declared.value.Value.{Value}
use Rattle.ctl_types.specs.declared.program.Parameter.{Parameter}
use Rattle.ctl_types.specs.declared.program.Function.{Function}
use Rattle.ctl_types.specs.Shapes.{base_of, local}
use Rattle.ctl_types.specs.Typing.{are_stated}
use Rattle.ctl_types.specs.Definitions.{Defined}
use Rattle.ctl_types.specs.Scoping.{is_void, is_plain_base, are_plain}
use Rattle.ctl_scope.specs.Scope.{ScopeForm}
use Rattle.ctl_scope.specs.Changes.{whole_name, is_defined, is_declared, in_default, in_head, in_body, after_function, with_function}
use Rattle.ctl_check_rules.specs.Faults.{Verdict, ◌>>=◌, rule_at, node_of}
use Rattle.ctl_check_init.specs.declared.begun.Begun.{Begun}
use Rattle.ctl_check_init.specs.Initialisers.{begun}
use Rattle.ctl_check_statement.specs.declared.stated.Stated.{Stated}
use Rattle.ctl_check_statement.specs.Leading.{Led}
use Rattle.ctl_check_statement.specs.Declarations.{shape_checked}
use Rattle.ctl_check_statement.specs.Returning.{block_surely_returns}
use Rattle.ctl_check_statement.specs.Statements.{block_stated}
use Rattle.ctl_check_function.specs.declared.functions.Made.{Made}
use Rattle.ctl_check_function.specs.Names.{new_rule, begun_new}
use Rattle.ctl_check_function.specs.Values.{first_value}
use Rattle.ctl_check_function.specs.Parameters.{is_plain, plain_rule, plain_new, parameter_form, parameter_seen, default_valued, default_checked, parameter_with, parameter_checked, next_parameter, parameters_checked}
use Rattle.ctl_check_function.specs.Functions.{result_checked, function_rule, function_made, function_named, function_stated, function_headed, function_begun, function_checked}
use Rattle.definition_laws.proofs.Verdicts.{Good, good_then, good_any, good_more, good_at, good_unless, good_if, both, and_true}
use Rattle.definition_laws.proofs.Keeping.{Keeps, block_keeps}

-- ---- parameters

unless_not : (a b : Bool) → (a && not b) ≡ false → a ≡ true → b ≡ true
unless_not true true e h = refl
unless_not true false e h = absurd (cc)
unless_not false b e h = absurd (cc)

-- a parameter of the entry is plain
abbrev PlainShape : Bool → Shape → Type 0
PlainShape is_entry shape = is_entry ≡ true → is_plain shape ≡ true

plain_good : (is_entry : Bool) (shape : Shape) → Good (λ (fine : Unit {0}). PlainShape is_entry shape) (plain_rule is_entry shape)
plain_good is_entry shape = good_unless (λ (fine : Unit {0}). PlainShape is_entry shape) (is_entry && not (is_plain shape)) _ (Ok tt) (λ e. unless_not is_entry (is_plain shape) e)

more_plain : (qs : List Parameter) (q : Parameter) → are_plain qs ≡ true → is_plain q.shape ≡ true → are_plain (qs ++ q ∷ []) ≡ true
more_plain [] q h k = and_true (is_plain q.shape) _ k refl
more_plain (p ∷ qs) q h k =
    let b = both (is_plain p.shape) _ h in
    and_true (is_plain p.shape) _ b.0 (more_plain qs q b.1 k)

module _ (d : Defined) (is_entry : Bool) where
  abbrev ParameterPlain : Parameter → Type 0
  ParameterPlain q = PlainShape is_entry q.shape

  valued_good : (s : ScopeForm) (p : Written) (shape : Shape) (given : Option Begun) → Good (λ (v : Value). PlainShape is_entry shape) (default_valued d is_entry s p shape given)
  valued_good s p shape given =
      good_any (λ (v : Value). PlainShape is_entry shape) (rule_at s.unit p.token (begun_new s.counts (is_declared s.blocks p.name) (base_of shape) given)) (λ b. rule_at s.unit p.token (plain_rule is_entry shape) >>= (λ plain. rule_at s.unit p.token (first_value d b.form)))
      (λ b. good_then (λ (fine : Unit {0}). PlainShape is_entry shape) (λ (v : Value). PlainShape is_entry shape) (rule_at s.unit p.token (plain_rule is_entry shape)) (λ plain. rule_at s.unit p.token (first_value d b.form))
      (good_at (λ (fine : Unit {0}). PlainShape is_entry shape) s.unit p.token (plain_rule is_entry shape) (plain_good is_entry shape))
      (λ fine h. whatever (rule_at s.unit p.token (first_value d b.form)) h))
    where
      whatever : (v : Verdict Value) → PlainShape is_entry shape → Good (λ (v : Value). PlainShape is_entry shape) v
      whatever (Ok a) h = h
      whatever (Err e) h = tt

  with_good : (s : ScopeForm) (p : Written) (shape : Shape) (i : Option Initialiser) → Good ParameterPlain (parameter_with d is_entry s p shape i)
  with_good s p shape None =
      good_then (λ (fine : Unit {0}). PlainShape is_entry shape) ParameterPlain (plain_new is_entry s p shape) (λ plain. Ok (parameter_form s.unit p shape None))
      (good_any (λ (fine : Unit {0}). PlainShape is_entry shape) (rule_at s.unit p.token (new_rule (is_declared s.blocks p.name))) (λ fresh. rule_at s.unit p.token (plain_rule is_entry shape))
      (λ fresh. good_at (λ (fine : Unit {0}). PlainShape is_entry shape) s.unit p.token (plain_rule is_entry shape) (plain_good is_entry shape)))
      (λ fine h. h)
  with_good s p shape (Some i) =
      good_then (λ (v : Value). PlainShape is_entry shape) ParameterPlain (default_checked d is_entry (in_default s) p shape i) (λ v. Ok (parameter_form s.unit p shape (Some v)))
      (good_any (λ (v : Value). PlainShape is_entry shape) (begun (in_default s) d i (Some shape)) (λ given. default_valued d is_entry (in_default s) p shape given) (λ given. valued_good (in_default s) p shape given))
      (λ v h. h)

  parameter_good : (s : ScopeForm) (p : Written) → Good ParameterPlain (parameter_checked d is_entry s p)
  parameter_good s p = good_any ParameterPlain (shape_checked s d true p.shape p.sizes) (λ shape. parameter_with d is_entry s p shape p.value) (λ shape. with_good s p shape p.value)

  -- the scope changes inside the function alone, and the parameters of the entry are plain
  record HeadWell (before after : Led (List Parameter)) : Type 0 where
    keeps : Keeps before.scope after.scope
    plain : is_entry ≡ true → are_plain before.made ≡ true → are_plain after.made ≡ true

  head_good : (ps : List Written) (before : Led (List Parameter)) → Good (HeadWell before) (parameters_checked d is_entry ps before)
  head_good [] before = record { keeps = refl; plain = λ e h. h }
  head_good (p ∷ ps) before =
      good_then (HeadWell before) (HeadWell before) (next_parameter d is_entry p before) (parameters_checked d is_entry ps)
      (good_then ParameterPlain (HeadWell before) (parameter_checked d is_entry before.scope p) (λ q. Ok (record { made = before.made ++ q ∷ []; scope = parameter_seen q before.scope })) (parameter_good before.scope p)
      (λ q h. record { keeps = refl; plain = λ e k. more_plain before.made q k (h e) }))
      (λ after w. by after w (parameters_checked d is_entry ps after) (head_good ps after))
    where
      by : (after : Led (List Parameter)) → HeadWell before after → (v : Verdict (Led (List Parameter))) → Good (HeadWell after) v → Good (HeadWell before) v
      by after w (Ok o) h = record { keeps = h.keeps ∙ w.keeps; plain = λ e k. h.plain e (w.plain e k) }
      by after w (Err e) h = tt

-- ---- the rule of a function

-- the entry gives no value
no_value : (result : Option Shape) → is_some result ≡ false → is_void result ≡ true
no_value None e = refl
no_value (Some shape) e = absurd (cc)

never : (a b : Bool) → (a && b) ≡ false → b ≡ true → a ≡ false
never true b e h = absurd (cc)
never false b e h = refl

pub rule_good : (twice gives returns is_entry : Bool) → Good (λ (fine : Unit {0}). (twice ≡ false) × ((gives && not returns) ≡ false) × (is_entry ≡ true → gives ≡ false)) (function_rule twice gives returns is_entry)
rule_good twice gives returns is_entry =
    let Q : Unit {0} → Type 0 = λ fine. (twice ≡ false) × ((gives && not returns) ≡ false) × (is_entry ≡ true → gives ≡ false) in
    good_unless Q twice _ (if gives && not returns then Err _ else (if gives && is_entry then Err _ else Ok tt))
    (λ e. good_unless Q (gives && not returns) _ (if gives && is_entry then Err _ else Ok tt)
    (λ f. good_unless Q (gives && is_entry) _ (Ok tt) (λ g. (e, f, never gives is_entry g))))

ruled : (is_entry twice gives returns : Bool) → Good (λ (fine : Unit {0}). is_entry ≡ true → gives ≡ false) (function_rule twice gives returns is_entry)
ruled is_entry twice gives returns =
    good_more (λ (fine : Unit {0}). (twice ≡ false) × ((gives && not returns) ≡ false) × (is_entry ≡ true → gives ≡ false)) (λ (fine : Unit {0}). is_entry ≡ true → gives ≡ false) (function_rule twice gives returns is_entry) (rule_good twice gives returns is_entry)
    (λ fine h. h.2)

-- ---- functions

-- a function under its name, in the scope around it, and what the entry keeps
pub record FunctionWell (s : ScopeForm) (is_entry : Bool) (f : WrittenFunction) (r : Led Made) : Type 0 where
  pub name : r.made.function.name ≡ whole_name s f.name
  pub node : r.made.function.node ≡ node_of s.unit f.token
  pub scope : r.scope ≡ with_function f.name r.made.depth (after_function s)
  pub void : is_entry ≡ true → is_void r.made.function.result ≡ true
  pub plain : is_entry ≡ true → are_plain r.made.function.parameters ≡ true

pub function_good : (s : ScopeForm) (d : Defined) (is_entry : Bool) (f : WrittenFunction) → Good (FunctionWell s is_entry f) (function_checked s d is_entry f)
function_good s d is_entry f =
    good_any (FunctionWell s is_entry f) (result_checked (in_head f.name s) d f.result) (λ result. function_headed d is_entry f result (in_head f.name s))
    (λ result. good_then (HeadWell d is_entry (record { made = []; scope = in_head f.name s })) (FunctionWell s is_entry f) (parameters_checked d is_entry f.parameters (record { made = []; scope = in_head f.name s })) (λ head. function_stated d is_entry f result head.made (in_body f.name head.scope)) (head_good d is_entry f.parameters (record { made = []; scope = in_head f.name s }))
    (λ head w. good_then (λ (o : Led Stated). Keeps (in_body f.name head.scope) o.scope) (FunctionWell s is_entry f) (block_stated d result f.body (in_body f.name head.scope)) (λ body. function_named is_entry f (after_function body.scope) (function_made f body.scope result head.made body.made)) (block_keeps d result f.body (in_body f.name head.scope))
    (λ body k. made_good result head body w (k ∙ w.keeps))))
  where
    made_good : (result : Option Shape) (head : Led (List Parameter)) (body : Led Stated) → HeadWell d is_entry (record { made = []; scope = in_head f.name s }) head → after_function body.scope ≡ after_function s → Good (FunctionWell s is_entry f) (function_named is_entry f (after_function body.scope) (function_made f body.scope result head.made body.made))
    made_good result head body w same =
        let t = after_function body.scope in
        let made = function_made f body.scope result head.made body.made in
        good_then (λ (fine : Unit {0}). is_entry ≡ true → is_some result ≡ false) (FunctionWell s is_entry f) (rule_at t.unit f.token (function_rule (is_defined t f.name) (is_some result) (block_surely_returns f.body) is_entry)) (λ fine. Ok (record { made = made; scope = with_function f.name made.depth t }))
        (good_at (λ (fine : Unit {0}). is_entry ≡ true → is_some result ≡ false) t.unit f.token (function_rule (is_defined t f.name) (is_some result) (block_surely_returns f.body) is_entry) (ruled is_entry (is_defined t f.name) (is_some result) (block_surely_returns f.body)))
        (λ fine h. record {
          name = ap (λ (t : ScopeForm). whole_name t f.name) same;
          node = ap (λ (t : ScopeForm). node_of t.unit f.token) same;
          scope = ap (λ (t : ScopeForm). with_function f.name made.depth t) same;
          void = λ e. no_value result (h e);
          plain = λ e. w.plain e refl;
        })
