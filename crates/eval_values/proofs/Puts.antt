-- A scalar has no parts.
use Rattle.std.proofs.Common.{◌≡◌, ◌<◌, ℕ, zero, suc, List, [], ◌∷◌, length, get_or, arith, Option, Some, None, refl, sym, ap, ◌∙◌}
use Rattle.ctl_types.specs.declared.scalar.Scalar.{Scalar}
use Rattle.ctl_types.specs.declared.value.Value.{Value, roll-Value, out-Value}
use Rattle.ctl_types.specs.declared.value.Value.TheVariants as variant
use Rattle.ctl_types.specs.declared.value.Value.TheOpen as layer
use Rattle.ctl_types.specs.declared.value.Value.TheOpen.{Value-F}
use Rattle.ctl_types.specs.declared.value.Value.TheViews.{out-roll-Value}
use Rattle.std.specs.Prelude.{slice_set}
use Rattle.ctl_types.specs.Values.{Env, var_of, stored, put_at, with_part, part_of, part_in, with_in}

one_out : (v : Value) (s : Scalar) → v ≡ variant.One s → out-Value v ≡ layer.One s
one_out v s e = ap out-Value (e ∙ sym (variant.rolls-One s)) ∙ out-roll-Value (layer.One s)

no_part : (v : Value) (s : Scalar) (i : ℕ) → v ≡ variant.One s → part_of (Some v) i ≡ None
no_part v s i e = ap (λ x. part_in x i) (one_out v s e)

pub one_stays : (v : Value) (s : Scalar) (i : ℕ) (rest : List ℕ) (new : Value) → v ≡ variant.One s → rest ≡ [] → Some v ≡ with_part (Some v) i (put_at rest new (part_of (Some v) i))
one_stays v s i rest new e n = sym (ap (λ rest. with_part (Some v) i (put_at rest new (part_of (Some v) i))) n ∙ ap (λ x. Some (roll-Value (with_in x i new))) (one_out v s e) ∙ ap Some (variant.rolls-One s ∙ sym e))

pub one_gone : (v : Value) (s : Scalar) (i : ℕ) (rest : List ℕ) (new : Value) → v ≡ variant.One s → (rest ≡ [] → ⊥) → None ≡ with_part (Some v) i (put_at rest new (part_of (Some v) i))
one_gone v s i [] new e n = absurd (n refl)
one_gone v s i (j ∷ rest) new e n = sym (ap (λ o. with_part (Some v) i (put_at (j ∷ rest) new o)) (no_part v s i e))

pub var_there : (env : Env) (x : ℕ) (o d : Option Value) → x < length env → o ≡ get_or env x d → o ≡ var_of env x
var_there [] x o d h e = absurd (omega arith)
var_there (v ∷ env) zero o d h e = e
var_there (v ∷ env) (suc x) o d h e = var_there env x o d (omega arith) e

set_twice : {A : Type 0} (xs : List A) (i : ℕ) (a b : A) → slice_set (slice_set xs i a) i b ≡ slice_set xs i b
set_twice [] i a b = refl
set_twice (x ∷ xs) zero a b = refl
set_twice (x ∷ xs) (suc i) a b = ap (λ l. x ∷ l) (set_twice xs i a b)

pub stored_is : (env : Env) (x : ℕ) (path : List ℕ) (v : Value) (between old new : Option Value) → old ≡ var_of env x → new ≡ put_at path v old → slice_set (slice_set env x between) x new ≡ stored x path v env
stored_is env x path v between old new o n = set_twice env x between new ∙ ap (slice_set env x) (n ∙ ap (put_at path v) o)
