use Rattle.std.proofs.Common.{◌≡◌, List, subst, true}
use Rattle.ctl_types.specs.declared.program.Struct.{Struct}
use Rattle.ctl_types.specs.declared.program.Parameter.{Parameter}
use Rattle.ctl_laws.specs.Sound.{inputs_fit}
use Rattle.language_cases.proofs.Closed.{entry_takes}
use Rattle.language_cases.proofs.runs.put_taken.Goals as goal

pub run-requires : goal.run-requires
run-requires c =
    let P : List Struct → Type 0 = λ structs. inputs_fit structs c.args.function.now.parameters c.args.inputs.now ≡ true in
    let Q : List Parameter → Type 0 = λ parameters. inputs_fit c.structs.result.now parameters c.args.inputs.now ≡ true in
    entry_takes c.args.program.now.definitions c.args.entry c.args.inputs.now c.args.function.now c.requires (subst P c.structs.ensures (subst Q c.as_slice.ensures (c.takes.ensures c.if-takes.true)))
