use Rattle.definition_laws.proofs.Entries.{entries_all_stand}
use Rattle.definition_laws.proofs.laws.entry_stands_checked.Goals as goal

pub returns : goal.returns
returns c = entries_all_stand
