use Rattle.std.proofs.Common.{subst, sym}
use Rattle.ctl_types.specs.Definitions.{Defined}
use Rattle.ctl_eval.specs.Entries.{EntryTakes}
use Rattle.ctl_eval.proofs.entry.run.Goals as goal

pub run_entry-requires : goal.run_entry-requires
run_entry-requires c = let P : Defined → Type 0 = λ d. EntryTakes d c.args.entry c.args.inputs.now in subst P (sym c.definitions.ensures) c.requires
