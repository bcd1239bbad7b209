use Rattle.std.proofs.Common.{ap, ◌∙◌, length}
use Rattle.ctl_types.specs.Library.{words_of, holds_table, holds_input}
use Rattle.eval_library.proofs.Fitting.{fits_words}
use Rattle.eval_library.proofs.calling.fill.Goals as goal

pub call-requires : goal.call-requires
call-requires c = fits_words c.args.structs.now c.requires.library c.args.id c.args.sizes.now c.args.frame.now (length c.args.out.now) c.as_slice.result.now c.as_slice-2.result.now c.requires.taken c.requires.room
    (c.as_slice.ensures ∙ c.in_ok-table.ensures ∙ ap (λ l. words_of holds_table l c.args.frame.now) c.params.ensures)
    (c.as_slice-2.ensures ∙ c.in_ok-inputs.ensures ∙ ap (λ l. words_of holds_input l c.args.frame.now) c.params-2.ensures)
