use Rattle.std.proofs.Common.{ℕ, List, ap, ◌∙◌, set, arith}
use Rattle.std.specs.Prelude.{Option}
use Rattle.std.specs.Map.{values_of}
use Rattle.std.specs.Option.{unwrap_or}
use Rattle.std.proofs.lemmas.Bool.{false≢true}
use Rattle.ctl_base.specs.Steps.{one_more}
use Rattle.line_watch.specs.Means.{one_more_at}
use Rattle.line_watch.proofs.Bins.{set-one_more_at}
use Rattle.line_watch.proofs.Placed.{placed-found, placed-some, placed-values, placed-still}
use Rattle.line_watch.proofs.bin_map.BinMap.raise.Goals as goal

-- each place has a count
pub returns-in_default : goal.returns-in_default
returns-in_default c = absurd (false≢true (placed-some c.self.inside.counts.entries c.args.place _ c.self.invariant c.requires c.in_default.ensures.value))

pub invariant_of-self-2 : goal.invariant_of-self-2
invariant_of-self-2 c =
    placed-still c.self.inside.counts.entries _ c.args.place c.counted.result c.self.invariant c.requires (c.get_mut.follows.holds c.counted.result).0

pub returns : goal.returns
returns c =
    let counts : List ℕ = values_of c.self.inside.counts.entries in
    placed-values c.self.inside.counts.entries _ c.args.place c.counted.result c.self.invariant c.requires (c.get_mut.follows.holds c.counted.result).0
    ∙ ap (λ (n : ℕ). set counts c.args.place n) c.counted.ensures
    ∙ ap (λ (o : Option ℕ). set counts c.args.place (one_more (unwrap_or o 0))) (c.in-Some.ensures.value ∙ placed-found c.self.inside.counts.entries c.args.place c.self.invariant c.requires)
    ∙ set-one_more_at c.args.place counts (omega (arith, c.self.invariant.many, c.requires))
    ∙ ap (λ (ns : List ℕ). one_more_at c.args.place ns) c.self.view_is
