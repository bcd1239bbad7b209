-- Parts of lists.
use Rattle.std.proofs.Common.{◌≡◌, ◌≤◌, ◌<◌, ℕ, List, [], ◌∷◌, length, map, take, drop, ◌-◌, arith, Option, Err, if◌then◌else◌, nat_le, refl, ap, sym, ◌∙◌}
use Rattle.std.proofs.lemmas.List.{length-map, drop-map, length-drop, take_all}
use Rattle.std.proofs.lemmas.Bool.{le-leb, lt-leb}
use Rattle.ctl_base.specs.declared.kind.Node.{Node}
use Rattle.ctl_types.specs.declared.shape.Shape.{Shape}
use Rattle.ctl_types.specs.declared.expression.Callee.{Callee}
use Rattle.ctl_scope.specs.declared.kind.CheckKind.TheVariants.{Arguments}
use Rattle.ctl_check_expr.specs.declared.checked.Passed.{Passed}
use Rattle.ctl_types.specs.declared.program.Parameter.{Parameter}
use Rattle.ctl_types.specs.declared.row.RowParam.{RowParam}
use Rattle.ctl_check_expr.specs.Calls.{Formal, behind, formal_of, row_formal_of, missing, call_with, counted_rule}

-- the parameters behind the first, as a call sees them
pub parameters_behind : (xs : List Parameter) → map formal_of (behind xs) ≡ behind (map formal_of xs)
parameters_behind [] = refl
parameters_behind (x ∷ xs) = refl

-- the same of the library
pub params_behind : (xs : List RowParam) → map row_formal_of (behind xs) ≡ behind (map row_formal_of xs)
params_behind [] = refl
params_behind (x ∷ xs) = refl

-- what a slice from a place on has
pub rest_is : {P : Type 0} (count : ℕ) (ps : List P) → take (length ps - count) (drop count ps) ≡ drop count ps
rest_is count ps =
    let e : length (drop count ps) ≡ length ps - count = length-drop count ps in
    take_all (length ps - count) (drop count ps) (omega (arith, e))

-- no argument is left over
pub counted_within : {P : Type 0} (g : P → Formal) (node : Node) (f : Callee) (ps : List P) (gives : Option Shape) (depth count : ℕ) (after : Passed)
    → count ≤ length ps → counted_rule node f (map g ps) gives depth count after ≡ call_with node f gives depth (missing (map g (take (length ps - count) (drop count ps))) after)
counted_within g node f ps gives depth count after h =
    ap (λ b. if b then call_with node f gives depth (missing (drop count (map g ps)) after) else Err Arguments) (ap (nat_le count) (length-map ps g) ∙ le-leb count (length ps) h)
    ∙ ap (λ qs. call_with node f gives depth (missing qs after)) (drop-map g count ps)
    ∙ ap (λ qs. call_with node f gives depth (missing (map g qs) after)) (sym (rest_is count ps))

-- an argument is left over
pub counted_over : {P : Type 0} (g : P → Formal) (node : Node) (f : Callee) (ps : List P) (gives : Option Shape) (depth count : ℕ) (after : Passed)
    → length ps < count → counted_rule node f (map g ps) gives depth count after ≡ Err Arguments
counted_over g node f ps gives depth count after h =
    ap (λ b. if b then call_with node f gives depth (missing (drop count (map g ps)) after) else Err Arguments) (ap (nat_le count) (length-map ps g) ∙ lt-leb count (length ps) h)
