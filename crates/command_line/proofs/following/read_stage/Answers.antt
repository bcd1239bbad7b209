-- Goals of `following::read_stage`.
use Rattle.std.proofs.Common.{[], ◌∷◌, refl, ap}
use Rattle.command_line.specs.declared.item.Item.TheVariants as asked
use Rattle.command_line.specs.Options.{File}
use Rattle.command_line.specs.Following.{Text}
use Rattle.command_line.proofs.Taking.{follow_one}
use Rattle.command_line.proofs.following.read_stage.Goals as goal

pub returns : goal.returns
returns c = λ kinds word.
    (Text c.in-Some.file.now ∷ [], follow_one kinds File c.args.words.now c.in-Some.file.now c.in-Some.field-0-1.now (Text c.in-Some.file.now) c.in-Some.ensures refl, ap asked.Stage c.in_ok-copy-in-Some.ensures)
