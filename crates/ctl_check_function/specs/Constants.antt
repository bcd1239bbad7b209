-- What the checker says of constants outside functions.
use Rattle.std.specs.Prelude.{ℕ, List, Option, Some, None, Result, Ok, Err, Bool, true, false}
use Rattle.ctl_tree.specs.declared.declaration.Constant.{Constant as Written}
use Rattle.ctl_types.specs.declared.shape.Shape.{Shape}
use Rattle.ctl_types.specs.declared.program.Constant.{Constant}
use Rattle.ctl_types.specs.Definitions.{Defined}
use Rattle.ctl_types.specs.Shapes.{base_of}
use Rattle.ctl_scope.specs.Scope.{ScopeForm}
use Rattle.ctl_scope.specs.Changes.{is_defined, with_constant}
use Rattle.ctl_check_rules.specs.Faults.{Verdict, ◌>>=◌, rule_at}
use Rattle.ctl_check_init.specs.declared.begun.Begun.{Begun}
use Rattle.ctl_check_init.specs.Initialisers.{begun, sized}
use Rattle.ctl_check_statement.specs.Leading.{Led}
use Rattle.ctl_check_statement.specs.Declarations.{shape_checked}
use Rattle.ctl_check_function.specs.Values.{first_value}
use Rattle.ctl_check_function.specs.Names.{begun_new}

module _ (s : ScopeForm) (d : Defined) (c : Written) where
  -- a constant whose initialiser is begun so: the rules at its name, and its value; its initialiser gives its open sizes
  abbrev pub constant_valued : Shape → Option Begun → Verdict Constant
  constant_valued shape given = do
    b ← rule_at s.unit c.token (begun_new s.counts (is_defined s c.name) (base_of shape) given)
    v ← rule_at s.unit c.token (first_value d b.form)
    Ok (record { shape = sized b.sizes (base_of shape); value = v })

  -- a constant of a shape: its initialiser, and then what stands at its name
  abbrev pub constant_begun : Shape → Verdict Constant
  constant_begun shape = do
    given ← begun s d c.value (Some shape)
    constant_valued shape given

  -- a constant: what its shape is called, the sizes of its arrays, and then its initialiser
  abbrev pub constant_formed : Verdict Constant
  constant_formed = do
    shape ← shape_checked s d true c.shape c.sizes
    constant_begun shape

  -- and under its name
  abbrev pub constant_checked : Verdict (Led Constant)
  constant_checked = do
    made ← constant_formed
    Ok (record { made = made; scope = with_constant c.name s })
