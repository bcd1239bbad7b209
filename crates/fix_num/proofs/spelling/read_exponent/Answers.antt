-- Goals of `spelling::read_exponent`.
use Rattle.std.proofs.Common.{inl, inr, ◌∙◌, sym}
use Rattle.std.proofs.lemmas.Bool.{eqb-true}
use Rattle.fix_num.proofs.Cut.{exponent_after}
use Rattle.fix_num.proofs.spelling.read_exponent.Goals as goal
use Rattle.fix_num.proofs.spelling.read_exponent.Goals.{then-mark-eq101, else-mark-eq101}

pub returns-in-len1-up : goal.returns-in-len1-up
returns-in-len1-up c =
    exponent_after c.args.text.now c.read_power.result c.in-len1-up.len_at_least
    (elim c.if-mark-eq101.branch [
      | then-mark-eq101 w ↦ inl w.if-mark-eq101.true
      | else-mark-eq101 w ↦ inr (eqb-true _ 69 (sym w.value-is ∙ c.if-mark-eq69.true))
    ])
    c.read_power.ensures
