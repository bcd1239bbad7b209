use Rattle.std.proofs.Common.{◌≡◌, ◌++◌, drop}
use Rattle.ctl_types.specs.Values.{flat_all}
use Rattle.ctl_types.proofs.value.+words.Given as goal

abbrev pub invariant-append_all-loop-part : goal.invariant-append_all-loop-part
invariant-append_all-loop-part l = l.words ++ flat_all (drop l.part-index l.parts) ≡ l.fn.words ++ flat_all l.parts
