use Rattle.std.proofs.Common.{All, ap, ap₂, sym, subst, ◌∙◌}
use Rattle.ctl_tree.specs.Texts.{unquoted}
use Rattle.ctl_tree.specs.Modules.{IsPrintable}
use Rattle.grammar_machine.specs.Front.{all_printable}
use Rattle.grammar_machine.specs.Machine.{import_text_move}
use Rattle.ctl_parser.proofs.MovesOfDefinitions.{no_text}
use Rattle.ctl_parser.proofs.Ways.{stop}
use Rattle.ctl_parser.proofs.modules.import_text.Goals as goal

pub returns-then-not-sees_text-clause-fails : goal.returns-then-not-sees_text-clause-fails
returns-then-not-sees_text-clause-fails c = λ below. stop (no_text _ _ c.if-not-sees_text.ensures.told)

pub returns-then-not-are_printable-clause-fails : goal.returns-then-not-are_printable-clause-fails
returns-then-not-are_printable-clause-fails c =
    let hidden = ap all_printable (sym (c.as_slice.ensures ∙ c.in_ok-name.ensures ∙ ap unquoted c.bytes.ensures)) ∙ c.if-not-are_printable.ensures in
    λ below. stop (ap₂ import_text_move c.if-not-sees_text.ensures.told.0 hidden)

pub returns-clause-sees : goal.returns-clause-sees
returns-clause-sees c = (
  c.if-not-sees_text.ensures.told.0,
  c.in_ok-name.ensures ∙ ap unquoted c.bytes.ensures,
  subst (All IsPrintable) c.as_slice.ensures c.if-not-are_printable.ensures,
  c.if-not-sees_text.ensures.told.1,
)
