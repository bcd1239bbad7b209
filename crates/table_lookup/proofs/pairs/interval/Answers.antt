-- Goals of `pairs::interval`.
use Rattle.std.proofs.Common.{◌≡◌, ℤ, ◌<ℤ◌, ◌+◌, ◌-◌, ◌/◌, List, length, sym, ◌∙◌, arith}
use Rattle.table_lookup.specs.Tables.{pair, pairs}
use Rattle.table_lookup.proofs.Intervals.{interval_is, not_above, below_at, length-pairs}
use Rattle.table_lookup.proofs.pairs.interval.Goals as goal

pub returns-then-less-clause-value : goal.returns-then-less-clause-value
returns-then-less-clause-value c =
    let t : List ℤ = c.args.t.now in
    let here : c.args.p <ℤ (pair (pairs t) (c.pairs.i + 1)).x = below_at _ _ (rw c.x.ensures at (sym c.less.ensures ∙ c.if-less.true)) in
    interval_is (pairs t) c.args.p c.pairs.i (omega (arith, length-pairs t)) c.pairs.invariant here

pub returns-then-less-clause-low : goal.returns-then-less-clause-low
returns-then-less-clause-low c = not_above (pairs c.args.t.now) c.args.p c.pairs.i c.requires.first c.pairs.invariant

pub returns-clause-value : goal.returns-clause-value
returns-clause-value c =
    let t : List ℤ = c.args.t.now in
    let e : length t / 2 - 1 ≡ length t / 2 - 2 + 1 = omega arith in
    interval_is (pairs t) c.args.p (length t / 2 - 2) (omega (arith, length-pairs t)) (λ k h. c.pairs.invariant k (omega (arith, h))) (rw e at c.requires.last)

pub returns-clause-low : goal.returns-clause-low
returns-clause-low c =
    let t : List ℤ = c.args.t.now in
    not_above (pairs t) c.args.p (length t / 2 - 2) c.requires.first (λ k h. c.pairs.invariant k (omega (arith, h)))
