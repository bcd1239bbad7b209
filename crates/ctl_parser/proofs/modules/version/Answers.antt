use Rattle.std.proofs.Common.{refl, ap, sym, ◌∙◌}
use Rattle.ctl_tree.specs.Modules.{no_version as no_version_form, version}
use Rattle.grammar_machine.specs.Machine.{version_move, one_move}
use Rattle.ctl_parser.proofs.MovesOfDefinitions.{no_version, no_one}
use Rattle.ctl_parser.proofs.Ways.{two, three, done, read, expand, sign, stop, refused_at}
use Rattle.ctl_parser.proofs.modules.version.Goals as goal

pub returns-then-not-sees_word-clause-spells : goal.returns-then-not-sees_word-clause-spells
returns-then-not-sees_word-clause-spells c = no_version_form c.if-not-sees_word.ensures.told refl

pub returns-then-not-sees_word-clause-follows : goal.returns-then-not-sees_word-clause-follows
returns-then-not-sees_word-clause-follows c = λ below. expand (no_version _ c.if-not-sees_word.ensures.told) (done refl)

pub returns-then-not-is_one-clause-follows : goal.returns-then-not-is_one-clause-follows
returns-then-not-is_one-clause-follows c = λ below. read (ap version_move c.if-not-sees_word.ensures.told.0) refl (stop (no_one _ (λ e. c.if-not-is_one.ensures (c.kind.ensures.exact ∙ e))))

pub returns-in_err-expect-clause-follows : goal.returns-in_err-expect-clause-follows
returns-in_err-expect-clause-follows c =
    let one = sym c.kind.ensures.exact ∙ c.if-not-is_one.ensures in
    refused_at _ c.from_residual.ensures.1 (λ below. read (ap version_move c.if-not-sees_word.ensures.told.0) refl (read (ap one_move one) (two _) (c.in_err-expect.ensures.fails _)))

pub returns-clause-spells : goal.returns-clause-spells
returns-clause-spells c = version c.if-not-sees_word.ensures.told.0 (sym c.kind.ensures.exact ∙ c.if-not-is_one.ensures) c.in_ok-expect.ensures.sees.0 refl

pub returns-clause-follows : goal.returns-clause-follows
returns-clause-follows c =
    let one = sym c.kind.ensures.exact ∙ c.if-not-is_one.ensures in
    λ below. read (ap version_move c.if-not-sees_word.ensures.told.0) refl (read (ap one_move one) (two _) (sign refl c.in_ok-expect.ensures.sees.0 (three _) (done refl)))
