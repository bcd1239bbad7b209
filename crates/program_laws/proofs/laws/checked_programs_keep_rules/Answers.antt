use Rattle.program_laws.proofs.Programs.{programs_keep_rules}
use Rattle.program_laws.proofs.laws.checked_programs_keep_rules.Goals as goal

pub returns : goal.returns
returns c =
    programs_keep_rules c.half_keeps.ensures c.arithmetic_stays_in_range.ensures c.accepted_structs_fit.ensures c.accepted_constants_fit.ensures c.accepted_functions_fit.ensures c.spaces_rest.ensures c.entry_stands_checked.ensures
