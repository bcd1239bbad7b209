use Rattle.std.proofs.Common.{◌∙◌, ap, length}
use Rattle.dpx_file.specs.Kept.{plain_layout}
use Rattle.dpx_file.proofs.CodeLemmas.{length_codes, codes_fit}
use Rattle.dpx_file.proofs.reading.read_in.Goals as goal

pub new-requires : goal.new-requires
new-requires g c =
    let order = g.T.ByteOrder.number_of in
    let l = plain_layout c.in_ok-layout.layout in
    let e = c.in_ok-codes.ensures in
    record {
      size = c.in_ok-layout.ensures.size;
      depth = c.in_ok-layout.ensures.depth;
      count = ap length e ∙ length_codes order l c.args.bytes.now;
      fit = rw e (codes_fit order l c.args.bytes.now c.in_ok-layout.ensures.depth (g.met.T.ByteOrder.number_fits 2) (λ i. (c.type_inv.bytes i).fits));
    }
