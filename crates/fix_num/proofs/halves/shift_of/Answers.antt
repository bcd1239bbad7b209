-- Goals of `halves::shift_of`.
use Rattle.std.proofs.Common.{inr, arith}
use Rattle.fix_num.specs.declared.halves.TheConstants.{UNIT}
use Rattle.fix_num.proofs.Near.{shift_facts}
use Rattle.fix_num.proofs.halves.shift_of.Goals as goal

pub overflow_sub-result : goal.overflow_sub-result
overflow_sub-result c = (shift_facts UNIT c.args.n (omega arith) (omega arith) (omega arith) (omega arith)).fits

pub returns-else-units-lt2048-clause-range : goal.returns-else-units-lt2048-clause-range
returns-else-units-lt2048-clause-range c = (shift_facts UNIT c.args.n (omega arith) (omega arith) (omega arith) (omega arith)).range

pub returns-else-units-lt2048-clause-few : goal.returns-else-units-lt2048-clause-few
returns-else-units-lt2048-clause-few c = (shift_facts UNIT c.args.n (omega arith) (omega arith) (omega arith) (omega arith)).few

pub returns-else-units-lt2048-clause-full : goal.returns-else-units-lt2048-clause-full
returns-else-units-lt2048-clause-full c = inr (shift_facts UNIT c.args.n (omega arith) (omega arith) (omega arith) (omega arith)).full
