-- The loop of `arc::search`.
use Rattle.std.proofs.Common.{◌≡◌, ◌+◌, ◌-◌, ◌^◌, ◌≤◌}
use Rattle.fix_num.specs.declared.TheConstants.{FRACTION}
use Rattle.fix_trig.specs.Angle.{found}
use Rattle.fix_trig.specs.Bound.{bound, IsBounded}
use Rattle.fix_trig.specs.Means.{vector_of}
use Rattle.fix_trig.proofs.arc.search.Given as goal

abbrev pub invariant-bits : goal.invariant-bits
invariant-bits l = record {
  at : vector_of l.at ≡ (found FRACTION l.u l.v l.k).at;
  angle : l.angle ≡ (found FRACTION l.u l.v l.k).angle;
  within : IsBounded (bound l.k) (vector_of l.at);
  low : l.angle + 2 ^ (FRACTION - l.k) ≤ 2 ^ FRACTION;
}
