-- Goals of `following::read_format`.
use Rattle.std.proofs.Common.{◌≡◌, [], ◌∷◌, Some, refl}
use Rattle.command_line.specs.Options.{Depth}
use Rattle.command_line.specs.Following.{Natural, depth_of}
use Rattle.command_line.proofs.Taking.{follow_one}
use Rattle.command_line.proofs.following.read_format.Goals as goal

pub returns-in-Some-depth : goal.returns-in-Some-depth
returns-in-Some-depth c = λ kinds word.
    let e : depth_of c.in-Some.format.now ≡ Some c.in-Some-depth.depth = cc in
    (Natural c.in-Some-depth.depth ∷ [], follow_one kinds Depth c.args.words.now c.in-Some.format.now c.in-Some.field-0-1.now (Natural c.in-Some-depth.depth) c.in-Some.ensures e, refl)
