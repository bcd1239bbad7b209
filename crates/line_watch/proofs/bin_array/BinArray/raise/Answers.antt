use Rattle.std.proofs.Common.{ℕ, List, ap, ◌∙◌, set, arith}
use Rattle.line_watch.specs.Means.{one_more_at}
use Rattle.line_watch.proofs.Bins.{set-one_more_at}
use Rattle.line_watch.proofs.bin_array.BinArray.raise.Goals as goal

pub returns : goal.returns
returns c =
    ap (λ (n : ℕ). set c.self.inside.counts c.from-place.result n) c.counted.ensures
    ∙ set-one_more_at c.from-place.result c.self.inside.counts (omega (arith, c.self.told, c.from-place.ensures, c.requires))
    ∙ ap (λ (k : ℕ). one_more_at k c.self.inside.counts) c.from-place.ensures
    ∙ ap (λ (ns : List ℕ). one_more_at c.args.place ns) c.self.view_is
