use Rattle.std.proofs.Common.{ℕ, List, ap, ◌∙◌, replicate, nat_cmp, arith}
use Rattle.std.specs.BTreeMap.{insert_entry}
use Rattle.std.specs.List.{enumerate_from}
use Rattle.std.proofs.lemmas.List.{length-replicate, replicate_more}
use Rattle.line_watch.proofs.Placed.{insert-placed}
use Rattle.line_watch.proofs.bin_map.BinMap.new.Goals as goal

pub places-preserved : goal.places-preserved
places-preserved c =
    c.in_ok-insert.ensures.entries
    ∙ ap (λ (es : List (ℕ × ℕ)). insert_entry nat_cmp es c.places.place 0) c.places.invariant
    ∙ insert-placed c.places.place 0 0 (replicate c.places.place 0) (omega (arith, length-replicate {A = ℕ} c.places.place 0))
    ∙ ap (λ (ns : List ℕ). enumerate_from 0 ns) (replicate_more c.places.place 0)
