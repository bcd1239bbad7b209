-- What is kept of an accepted expression.
use Rattle.std.proofs.Common.{◌≡◌, ℕ, ◌<◌, max, List, [], ◌∷◌, Option, Some, None, true, refl, sym, ap, ◌∙◌, arith}
use Rattle.ctl_base.specs.declared.kind.ScalarKind.{ScalarKind}
use Rattle.ctl_types.specs.declared.shape.Base.{Base}
use Rattle.ctl_types.specs.declared.shape.Base.TheVariants.{Scalar, Struct}
use Rattle.ctl_types.specs.declared.shape.Size.{Size}
use Rattle.ctl_types.specs.Typing.{Typed, Scene, Variables, expr_type}
use Rattle.ctl_check_rules.specs.declared.checked.Checked.{Checked}
use Rattle.ctl_check_rules.specs.Operators.{scalar_kind_in, scalar_kind}
use Rattle.ctl_check_laws.specs.Accepted.{known, value_stands, IsAccepted}
use Rattle.ctl_check_laws.proofs.Shapes.{scalar_stands}
use Rattle.ctl_check_laws.proofs.Types.{scalar, known_as}

-- an accepted expression, whose own token is below n
pub record Kept (x : Scene) (vs : Variables) (n : ℕ) (c : Checked) : Type 0 where
  pub form : IsAccepted x (expr_type x vs c.form) c.sizes c.base c.depth
  pub token : c.token < n

-- a scalar is accepted
pub scalar_accepted : (x : Scene) (t : Typed) (k : ScalarKind) (depth : ℕ) → t ≡ scalar k depth → depth < x.too_deep → IsAccepted x t [] (Some (Scalar k)) depth
scalar_accepted x t k depth e l = record { type = e; shape = scalar_stands x k; depth = l }

pub less_max : (a b c : ℕ) → a < c → b < c → max a b < c
less_max a b c l m = omega arith

scalar_parts : (sizes : List Size) (base : Option Base) (a : ScalarKind) → scalar_kind_in sizes base ≡ Some a → (sizes ≡ []) × (base ≡ Some (Scalar a))
scalar_parts [] None a e = absurd (cc)
scalar_parts [] (Some (Scalar k)) a e = let q : k ≡ a = cc in (refl, ap (λ k. Some (Scalar k)) q)
scalar_parts [] (Some (Struct n)) a e = absurd (cc)
scalar_parts (s ∷ sizes) base a e = absurd (cc)

-- an accepted expression that the checker takes as a scalar
pub scalar_at : (x : Scene) (vs : Variables) (n : ℕ) (c : Checked) (a : ScalarKind) → Kept x vs n c → scalar_kind c ≡ Some a → expr_type x vs c.form ≡ scalar a c.depth
scalar_at x vs n c a h e = let p = scalar_parts c.sizes c.base a e in h.form.type ∙ known_as c.sizes [] c.base (Some (Scalar a)) c.depth c.depth p.0 p.1 refl
