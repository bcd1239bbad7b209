use Rattle.std.proofs.Common.{◌≡◌, List, true, false, ap, sym, ◌∙◌}
use Rattle.ctl_types.specs.declared.program.Function.{Function}
use Rattle.std.specs.Prelude.{slice_get}
use Rattle.render_tree.specs.Stages.{is_simple_entry}
use Rattle.render_tree.proofs.Standing.{stage_stands, no_stage}
use Rattle.render_tree.proofs.stage.Stage.new.Goals as goal

pub returns-then-is_simple_entry-clause-rules : goal.returns-then-is_simple_entry-clause-rules
returns-then-is_simple_entry-clause-rules c =
    let simple : is_simple_entry (slice_get c.args.program.now.definitions.functions c.in-Some.entry) ≡ true =
    ap (λ (fs : List Function). is_simple_entry (slice_get fs c.in-Some.entry)) (sym c.functions.ensures) ∙ sym c.is_simple_entry.ensures ∙ c.if-is_simple_entry.true in
    stage_stands c.args.program.now c.keeps_rules.ensures c.in-Some.entry c.in-Some.ensures simple

pub returns-else-is_simple_entry-clause-stage : goal.returns-else-is_simple_entry-clause-stage
returns-else-is_simple_entry-clause-stage c =
    let other : is_simple_entry (slice_get c.args.program.now.definitions.functions c.in-Some.entry) ≡ false =
    ap (λ (fs : List Function). is_simple_entry (slice_get fs c.in-Some.entry)) (sym c.functions.ensures) ∙ sym c.is_simple_entry.ensures ∙ c.if-is_simple_entry.false in
    no_stage c.args.program.now c.in-Some.entry c.in-Some.ensures other
