use Rattle.std.proofs.Common.{ℕ}
use Rattle.ctl_types.specs.Cost.{uncounted, counted}
use Rattle.ctl_laws.proofs.Ranges.{numbers_of}
use Rattle.ctl_laws.proofs.Library.{library_serves}
use Rattle.ctl_laws.proofs.Programs.{entries_end_well}
use Rattle.ctl_laws.proofs.sound.entries_are_sound.Goals as goal

pub returns-clause-plain : goal.returns-clause-plain
returns-clause-plain c =
    let n = numbers_of c.arithmetic_stays_in_range.ensures c.halves_stay_in_range.ensures c.wholes_stay_in_range.ensures c.half_keeps.ensures in
    entries_end_well (Unit {0}) uncounted n c.words_are_counted.ensures (library_serves n c.raws_come_out.ensures c.halves_come_out.ensures)

pub returns-clause-counted : goal.returns-clause-counted
returns-clause-counted c =
    let n = numbers_of c.arithmetic_stays_in_range.ensures c.halves_stay_in_range.ensures c.wholes_stay_in_range.ensures c.half_keeps.ensures in
    entries_end_well ℕ counted n c.words_are_counted.ensures (library_serves n c.raws_come_out.ensures c.halves_come_out.ensures)
