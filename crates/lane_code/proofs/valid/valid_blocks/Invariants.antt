use Rattle.std.proofs.Common.{◌≡◌, drop}
use Rattle.lane_code.specs.Valid.{valid_blocks}
use Rattle.lane_code.proofs.valid.valid_blocks.Given as goal

abbrev pub invariant-each : goal.invariant-each
invariant-each l = valid_blocks l.n l.k (drop l.k l.blocks) ≡ valid_blocks l.n 0 l.blocks
