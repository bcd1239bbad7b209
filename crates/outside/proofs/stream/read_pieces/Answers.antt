use Rattle.std.proofs.Common.{take, ◌∙◌, ◌++◌, length-append, arith}
use Rattle.std.proofs.lemmas.List.{length-take}
use Rattle.outside.proofs.Bytes.{consumes_more}
use Rattle.outside.proofs.stream.read_pieces.Goals as goal

pub returns-in_err-count-clause-stops : goal.returns-in_err-count-clause-stops
returns-in_err-count-clause-stops g c =
    let h = c.in_err-count.ensures.stopped in
    let kept = simp length-take at c.read_piece.auto.piece in
    (c.reads.bytes.items ++ take h.0 c.read_piece.new.piece, consumes_more _ _ _ _ _ c.reads.invariant.1 h.2, simp (length-append, length-take) (omega arith))

pub reads-preserved : goal.reads-preserved
reads-preserved g c =
    (omega arith, rw c.in_ok-count.ensures.grown (consumes_more _ _ _ _ _ c.reads.invariant.1 c.in_ok-count.ensures.took), c.in_ok-count.ensures.cause ∙ c.reads.invariant.2)
