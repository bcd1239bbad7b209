-- Goals of `following::read_watch`.
use Rattle.std.proofs.Common.{◌≡◌, [], ◌∷◌, Some, refl}
use Rattle.command_line.specs.Options.{Watcher}
use Rattle.command_line.specs.Following.{Natural, watcher_of}
use Rattle.command_line.proofs.Taking.{follow_one}
use Rattle.command_line.proofs.following.read_watch.Goals as goal

pub returns-in-Some-watcher : goal.returns-in-Some-watcher
returns-in-Some-watcher c = λ word.
    let e : watcher_of c.args.kinds.now c.in-Some.name.now ≡ Some c.in-Some-watcher.kind = cc in
    (Natural c.in-Some-watcher.kind ∷ [], follow_one c.args.kinds.now Watcher c.args.words.now c.in-Some.name.now c.in-Some.field-0-1.now (Natural c.in-Some-watcher.kind) c.in-Some.ensures e, refl)
