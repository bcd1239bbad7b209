use Rattle.std.proofs.Common.{◌-◌, length, sym, ◌∙◌, arith}
use Rattle.std.proofs.lemmas.Option.{slice_get_within}
use Rattle.ctl_scope.proofs.Lists.{last_is}
use Rattle.ctl_scope.proofs.define.prefix.Goals as goal

pub returns-in-Some : goal.returns-in-Some
returns-in-Some c =
    let spaces = c.args.spaces.now in
    let at = sym c.in-Some.ensures.value in
    let within = slice_get_within spaces (length spaces - 1) _ at in
    c.as_slice.ensures ∙ sym (last_is spaces c.in-Some.space.now (length spaces - 1) (omega (arith, within)) at)
