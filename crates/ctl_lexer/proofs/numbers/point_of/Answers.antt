-- Goals of `numbers::point_of`.
use Rattle.std.proofs.Common.{ℕ, List, sym, ◌∙◌, ap, subst}
use Rattle.std.proofs.lemmas.Bool.{false≢true}
use Rattle.fix_num.specs.declared.TheConstants.{FRACTION}
use Rattle.fix_num.specs.Decimal.{Reads}
use Rattle.ctl_lexer.proofs.Points.{marked, point_marked, read_point}
use Rattle.ctl_lexer.proofs.numbers.point_of.Goals as goal

pub returns-then-not-has_point_or_exponent : goal.returns-then-not-has_point_or_exponent
returns-then-not-has_point_or_exponent c = λ raw p.
    false≢true (sym c.if-not-has_point_or_exponent.true ∙ c.has_point_or_exponent.ensures ∙ ap marked c.without_f-spelling.ensures ∙ point_marked FRACTION c.args.bytes.now raw p)

pub returns : goal.returns
returns c =
    let P : List ℕ → Type 0 = λ w. Reads FRACTION w c.read_decimal.result in
    rw c.ok.ensures.value (read_point c.spells_once.ensures FRACTION c.args.bytes.now c.read_decimal.result c.requires
    (ap marked (sym c.without_f-spelling.ensures) ∙ sym c.has_point_or_exponent.ensures ∙ c.if-not-has_point_or_exponent.false)
    (subst P c.without_f-spelling.ensures c.read_decimal.ensures))
