-- The loop of `turn::direction_of`.
use Rattle.std.proofs.Common.{◌≡◌}
use Rattle.fix_num.specs.declared.TheConstants.{FRACTION}
use Rattle.fix_trig.specs.Turn.{direction_at}
use Rattle.fix_trig.specs.Bound.{bound, IsBounded}
use Rattle.fix_trig.specs.Means.{vector_of}
use Rattle.fix_trig.proofs.turn.direction_of.Given as goal

abbrev pub invariant-bits : goal.invariant-bits
invariant-bits l = record { value : vector_of l.at ≡ direction_at FRACTION l.f l.k; within : IsBounded (bound l.k) (vector_of l.at) }
