-- What the checker says of functions.
use Rattle.std.specs.Prelude.{ℕ, suc, ◌-◌, List, [], length, Option, Some, None, Result, Ok, Err, Bool, true, false, not, ◌&&◌, is_some, if◌then◌else◌}
use Rattle.ctl_tree.specs.declared.definition.SizedShape.{SizedShape}
use Rattle.ctl_tree.specs.declared.definition.Function.{Function as Written}
use Rattle.ctl_types.specs.declared.shape.Shape.{Shape}
use Rattle.ctl_types.specs.declared.program.Function.{Function}
use Rattle.ctl_types.specs.declared.program.Parameter.{Parameter}
use Rattle.ctl_types.specs.declared.statement.TypedStatement.{TypedStatement}
use Rattle.ctl_types.specs.Definitions.{Defined}
use Rattle.ctl_scope.specs.declared.kind.CheckKind.{CheckKind}
use Rattle.ctl_scope.specs.declared.kind.CheckKind.TheVariants.{Twice, NoReturn, BadEntry}
use Rattle.ctl_scope.specs.Scope.{ScopeForm}
use Rattle.ctl_scope.specs.Changes.{whole_name, is_defined, in_head, in_body, after_function, with_function}
use Rattle.ctl_check_rules.specs.Faults.{Verdict, ◌>>=◌, rule_at, node_of}
use Rattle.ctl_check_statement.specs.declared.stated.Stated.{Stated}
use Rattle.ctl_check_statement.specs.Leading.{Led}
use Rattle.ctl_check_statement.specs.Declarations.{shape_checked}
use Rattle.ctl_check_statement.specs.Returning.{block_surely_returns}
use Rattle.ctl_check_statement.specs.Statements.{block_stated}
use Rattle.ctl_check_function.specs.declared.functions.Made.{Made}
use Rattle.ctl_check_function.specs.declared.functions.Outline.{Outline}
use Rattle.ctl_check_function.specs.Parameters.{parameters_checked}

-- ---- results

-- a result has stated sizes
abbrev pub given_checked : ScopeForm → Defined → SizedShape → Verdict (Option Shape)
given_checked s d result = do
  shape ← shape_checked s d false result.shape result.sizes
  Ok (Some shape)

-- none is `void`
abbrev pub result_checked : ScopeForm → Defined → Option SizedShape → Verdict (Option Shape)
result_checked s d None = Ok None
result_checked s d (Some result) = given_checked s d result

-- ---- the rule of a function

-- The name is new in its namespace; a function that gives a value surely returns; the entry gives none.
abbrev pub function_rule : Bool → Bool → Bool → Bool → Result (Unit {0}) CheckKind
function_rule is_twice gives_value returns is_entry =
    if is_twice then Err Twice else (if gives_value && not returns then Err NoReturn else (if gives_value && is_entry then Err BadEntry else Ok tt))

-- what a function has beside its parts: it is one deeper than the deepest function that its body calls
abbrev pub outlined : Written → ScopeForm → ℕ → ℕ → Outline
outlined f s parameters depth = record { name = whole_name s f.name; variables = length s.variables - parameters; depth = suc depth }

-- a function of its parts
abbrev pub made_of : Written → ℕ → Outline → Option Shape → List Parameter → TypedStatement → Made
made_of f unit o result parameters body = record {
  function = record { name = o.name; node = node_of unit f.token; parameters = parameters; result = result; variables = o.variables; body = body };
  depth = o.depth;
}

-- a function with its parameters and its body, in the scope after the body
abbrev pub function_made : Written → ScopeForm → Option Shape → List Parameter → Stated → Made
function_made f s result parameters body = made_of f s.unit (outlined f s (length parameters) body.depth) result parameters body.form

-- a function under its name, after its rule
abbrev pub function_named : Bool → Written → ScopeForm → Made → Verdict (Led Made)
function_named is_entry f s made = do
  fine ← rule_at s.unit f.token (function_rule (is_defined s f.name) (is_some made.function.result) (block_surely_returns f.body) is_entry)
  Ok (record { made = made; scope = with_function f.name made.depth s })

module _ (d : Defined) (is_entry : Bool) (f : Written) where
  -- its body, in the scope of the body
  abbrev pub function_stated : Option Shape → List Parameter → ScopeForm → Verdict (Led Made)
  function_stated result parameters s = do
    body ← block_stated d result f.body s
    function_named is_entry f (after_function body.scope) (function_made f body.scope result parameters body.made)

  -- its parameters from the left, in the scope of the head, and then its body
  abbrev pub function_headed : Option Shape → ScopeForm → Verdict (Led Made)
  function_headed result s = do
    head ← parameters_checked d is_entry f.parameters (record { made = []; scope = s })
    function_stated result head.made (in_body f.name head.scope)

  -- A function: its result, its parameters, its body, and then its rule. All of it stands in the function's own head or body.
  abbrev pub function_begun : ScopeForm → Verdict (Led Made)
  function_begun s = do
    result ← result_checked s d f.result
    function_headed result s

-- in the scope around it
abbrev pub function_checked : ScopeForm → Defined → Bool → Written → Verdict (Led Made)
function_checked s d is_entry f = function_begun d is_entry f (in_head f.name s)
