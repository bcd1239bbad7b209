-- A token is an operator of one level at most.
use Rattle.std.proofs.Common.{arith, ◌≡◌, ◌≢◌, ℕ, Some, None, ap, ◌∙◌, refl}
use Rattle.std.proofs.lemmas.Bool.Decides.{nat_tests}
use Rattle.std.specs.Prelude.{IsSome}
use Rattle.ctl_tree.specs.declared.sign.Sign.{Sign}
use Rattle.ctl_tree.specs.declared.token.TokenKind.TheVariants.{Sign as SignKind}
use Rattle.ctl_tree.specs.declared.expression.Operator.{Operator}
use Rattle.ctl_tree.specs.Names.{operator_of, of_level, operator_named, operator_level}

same_level : (operator : Operator) (level : ℕ) → level ≡ operator_level operator → of_level level (Some operator) ≡ Some operator
same_level operator level e = grind (arith, nat_tests)

other_level : (operator : Operator) (level : ℕ) → level ≢ operator_level operator → of_level level (Some operator) ≡ None
other_level operator level e = grind (arith, nat_tests)

module _ (sign : Sign) (operator : Operator) (e : operator_named sign ≡ Some operator) where
  pub has_level : (level : ℕ) → level ≡ operator_level operator → IsSome (operator_of level (Some (SignKind sign)))
  has_level level is = rw (ap (of_level level) e ∙ same_level operator level is) refl

  pub has_no_other : (level : ℕ) → level ≢ operator_level operator → operator_of level (Some (SignKind sign)) ≡ None
  has_no_other level is = ap (of_level level) e ∙ other_level operator level is
