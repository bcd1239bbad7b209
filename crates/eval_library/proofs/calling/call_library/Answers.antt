use Rattle.std.proofs.Common.{rules, ◌≡◌, true}
use Rattle.ctl_types.specs.Library.{param_shapes}
use Rattle.ctl_types.specs.Values.{takes}
use Rattle.eval_library.proofs.Fitting.{outputs_taken}
use Rattle.eval_library.proofs.calling.call_library.Goals as goal

pub give-requires : goal.give-requires
give-requires c =
    let taken : takes c.args.structs.now (param_shapes c.args.id) c.args.sizes.now c.args.frame.now.items ≡ true = search rules in
    outputs_taken c.args.structs.now c.requires.library c.args.id c.args.sizes.now c.args.frame.now.items taken
