use Rattle.program_laws.proofs.Loading.{loaded_keep_rules}
use Rattle.program_laws.proofs.laws.loaded_programs_keep_rules.Goals as goal

pub returns : goal.returns
returns c = loaded_keep_rules c.tokens_stand.ensures c.checked_programs_keep_rules.ensures
