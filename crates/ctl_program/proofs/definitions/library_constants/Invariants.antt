use Rattle.std.proofs.Common.{◌≡◌, ◌++◌, map, drop}
use Rattle.ctl_types.specs.Definitions.{constant_of, library_constants}
use Rattle.ctl_program.proofs.definitions.library_constants.Given as goal

abbrev pub invariant-loop-constant : goal.invariant-loop-constant
invariant-loop-constant l = l.constants ++ map constant_of (drop l.constant-index l.constant-items) ≡ library_constants
