-- What holds while the interval is looked for.
use Rattle.std.proofs.Common.{◌≡◌, ℕ, ◌<◌, ◌+◌, false}
use Rattle.std.specs.Prelude.{int_lt}
use Rattle.table_lookup.specs.Tables.{pair, pairs}
use Rattle.table_lookup.proofs.pairs.interval.Given as goal

-- no pair so far lies above p
abbrev pub invariant-pairs : goal.invariant-pairs
invariant-pairs l = (k : ℕ) → k < l.i → int_lt l.p (pair (pairs l.t) (k + 1)).x ≡ false
