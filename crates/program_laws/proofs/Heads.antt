-- The scope after a definition is the one before it with its name.
use Rattle.std.proofs.Common.{◌≡◌, List, [], ◌∷◌, ◌++◌, length, Option, is_some, Ok, Bool, refl, subst, sym, ◌∙◌}
use Rattle.ctl_tree.specs.declared.declaration.Constant.{Constant as WrittenConstant}
use Rattle.ctl_tree.specs.declared.definition.Parameter.{Parameter as Written}
use Rattle.ctl_tree.specs.declared.definition.Struct.{Struct as WrittenStruct}
use Rattle.ctl_tree.specs.declared.definition.Function.{Function as WrittenFunction}
use Rattle.ctl_types.specs.declared.shape.Shape.{Shape}
use Rattle.ctl_types.specs.declared.program.Constant.{Constant}
use Rattle.ctl_types.specs.declared.program.Parameter.{Parameter}
use Rattle.ctl_types.specs.declared.program.Struct.{Struct}
use Rattle.ctl_types.specs.Shapes.{struct_scalars}
use Rattle.ctl_types.specs.Definitions.{Defined}
use Rattle.ctl_scope.specs.Scope.{ScopeForm, IsScope}
use Rattle.ctl_scope.specs.Changes.{is_defined, in_head, in_body, after_function, with_struct, with_constant, with_function}
use Rattle.ctl_check_rules.specs.Faults.{rule_at}
use Rattle.ctl_check_statement.specs.declared.stated.Stated.{Stated}
use Rattle.ctl_check_statement.specs.Leading.{Led}
use Rattle.ctl_check_statement.specs.Returning.{block_surely_returns}
use Rattle.ctl_check_statement.specs.Statements.{block_stated}
use Rattle.ctl_check_function.specs.declared.functions.Made.{Made}
use Rattle.ctl_check_function.specs.Parameters.{parameter_seen, parameter_checked, next_parameter, parameters_checked}
use Rattle.ctl_check_function.specs.Structs.{fields_checked, struct_rule, struct_named, struct_checked}
use Rattle.ctl_check_function.specs.Constants.{constant_formed, constant_checked}
use Rattle.ctl_check_function.specs.Functions.{result_checked, function_rule, function_made, function_named, function_stated, function_headed, function_checked}
use Rattle.program_laws.proofs.Verdicts.{Good, good_then, good_any, good_more}
use Rattle.program_laws.proofs.Keeping.{Keeps, block_keeps}
use Rattle.program_laws.proofs.Scopes.{struct_scope, constant_scope, function_scope, ended_scope}

-- ---- structs and constants

pub struct_good : (s : ScopeForm) (d : Defined) (w : WrittenStruct) → IsScope s → Good (λ (r : Led Struct). IsScope r.scope) (struct_checked s d w)
struct_good s d w is =
    good_any (λ (r : Led Struct). IsScope r.scope) (fields_checked s d w.fields []) (λ fields. struct_named s w (record { fields = fields }))
    (λ fields.
    let n = struct_scalars s.counts (record { fields = fields }) in
    good_any (λ (r : Led Struct). IsScope r.scope) (rule_at s.unit w.token (struct_rule (is_defined s w.name) (length fields) n)) (λ fine. Ok (record { made = record { fields = fields }; scope = with_struct w.name n s }))
    (λ fine. struct_scope s w.name n is))

pub constant_good : (s : ScopeForm) (d : Defined) (c : WrittenConstant) → IsScope s → Good (λ (r : Led Constant). IsScope r.scope) (constant_checked s d c)
constant_good s d c is = good_any (λ (r : Led Constant). IsScope r.scope) (constant_formed s d c) (λ made. Ok (record { made = made; scope = with_constant c.name s })) (λ made. constant_scope s c.name is)

-- ---- functions

module _ (d : Defined) (is_entry : Bool) where
  -- parameters change the scope inside the function alone
  head_keeps : (ps : List Written) (before : Led (List Parameter)) → Good (λ (o : Led (List Parameter)). Keeps before.scope o.scope) (parameters_checked d is_entry ps before)
  head_keeps [] before = refl
  head_keeps (p ∷ ps) before =
      good_then (λ (o : Led (List Parameter)). Keeps before.scope o.scope) (λ (o : Led (List Parameter)). Keeps before.scope o.scope) (next_parameter d is_entry p before) (parameters_checked d is_entry ps)
      (good_any (λ (o : Led (List Parameter)). Keeps before.scope o.scope) (parameter_checked d is_entry before.scope p) (λ q. Ok (record { made = before.made ++ q ∷ []; scope = parameter_seen q before.scope })) (λ q. refl))
      (λ after k. good_more (λ (o : Led (List Parameter)). Keeps after.scope o.scope) (λ (o : Led (List Parameter)). Keeps before.scope o.scope) (parameters_checked d is_entry ps after) (head_keeps ps after) (λ o l. l ∙ k))

  module _ (f : WrittenFunction) (s : ScopeForm) (is : IsScope s) where
    abbrev Ends : Led Made → Type 0
    Ends r = IsScope r.scope

    made_good : (result : Option Shape) (head : Led (List Parameter)) (body : Led Stated) → after_function body.scope ≡ after_function s → Good Ends (function_named is_entry f (after_function body.scope) (function_made f body.scope result head.made body.made))
    made_good result head body same =
        let t = after_function body.scope in
        let made = function_made f body.scope result head.made body.made in
        good_any Ends (rule_at t.unit f.token (function_rule (is_defined t f.name) (is_some result) (block_surely_returns f.body) is_entry)) (λ fine. Ok (record { made = made; scope = with_function f.name made.depth t }))
        (λ fine. function_scope t f.name made.depth (subst IsScope (sym same) (ended_scope s is)))

    pub function_good : Good Ends (function_checked s d is_entry f)
    function_good =
        good_any Ends (result_checked (in_head f.name s) d f.result) (λ result. function_headed d is_entry f result (in_head f.name s))
        (λ result. good_then (λ (head : Led (List Parameter)). Keeps (in_head f.name s) head.scope) Ends (parameters_checked d is_entry f.parameters (record { made = []; scope = in_head f.name s })) (λ head. function_stated d is_entry f result head.made (in_body f.name head.scope)) (head_keeps f.parameters (record { made = []; scope = in_head f.name s }))
        (λ head k. good_then (λ (o : Led Stated). Keeps (in_body f.name head.scope) o.scope) Ends (block_stated d result f.body (in_body f.name head.scope)) (λ body. function_named is_entry f (after_function body.scope) (function_made f body.scope result head.made body.made)) (block_keeps d result f.body (in_body f.name head.scope))
        (λ body l. made_good result head body (l ∙ k))))
