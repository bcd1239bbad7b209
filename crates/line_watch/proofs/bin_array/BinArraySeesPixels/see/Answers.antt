use Rattle.line_watch.proofs.Bins.{bins-seen}
use Rattle.line_watch.proofs.bin_array.BinArraySeesPixels.see.Goals as goal

pub returns-clause-numbers : goal.returns-clause-numbers
returns-clause-numbers c =
    bins-seen _ _ _ _ _ _ _ _ _ _ _ c.bin.ensures.value c.bin-2.ensures.value c.bin-3.ensures.value
    c.bin.ensures.within c.bin-2.ensures.within c.bin-3.ensures.within c.raise.ensures c.raise-2.ensures c.raise-3.ensures
