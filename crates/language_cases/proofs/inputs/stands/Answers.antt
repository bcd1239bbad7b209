use Rattle.std.proofs.Common.{sym, ◌∙◌}
use Rattle.language_cases.proofs.Closed.{stands}
use Rattle.language_cases.proofs.inputs.stands.Goals as goal

pub returns-then-is_within_limit : goal.returns-then-is_within_limit
returns-then-is_within_limit c = λ fit. stands c.args.structs.now c.args.shape.now c.args.value.now (sym c.is_closed.ensures ∙ c.if-is_closed.true) (sym c.is_within_limit.ensures ∙ c.if-is_within_limit.true) (sym c.fits_shape.ensures ∙ fit)
