use Rattle.std.proofs.Common.{◌≡◌, ℕ, ℤ, List, Some, ap, sym, ◌∙◌}
use Rattle.ctl_types.specs.Values.{one}
use Rattle.ctl_types.specs.declared.scalar.Scalar.TheVariants.{Float}
use Rattle.render_tree.specs.PixelRun.{first_values, scalar_kind, taken_as, value_of}
use Rattle.render_tree.proofs.Fitting.{last_taken}
use Rattle.render_tree.proofs.inputs.input_value.Goals as goal

pub returns-in-None-default : goal.returns-in-None-default
returns-in-None-default c =
    last_taken c.args.depth c.args.pixel c.args.parameter.now c.requires.simple (c.in-None.ensures ∙ ap (λ (n : List ℕ). value_of n (first_values c.args.depth c.args.pixel)) c.as_slice.ensures) c.in-None-default.is
    ∙ ap Some (ap (λ (z : ℤ). taken_as (scalar_kind c.args.parameter.now.shape) (one (Float z))) (sym c.from_raw.ensures) ∙ sym c.taken-in-None-default.ensures)
