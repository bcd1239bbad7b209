use Rattle.std.proofs.Common.{◌≡◌, arith}
use Rattle.dpx_file.proofs.RowLemmas.{element_more}
use Rattle.dpx_file.proofs.header.put_unused_elements.Goals as goal

pub elements-preserved : goal.elements-preserved
elements-preserved c =
    element_more c.args.out.now.items c.elements.out.items c.put_fields.new.out.items c.unused_element_rows.result c.elements._k
    c.elements.auto._k c.unused_element_rows.ensures c.in_ok-put_fields.ensures c.elements.invariant

pub returns : goal.returns
returns c =
    let all : c.elements._k ≡ 8 = omega arith in
    rw all at c.elements.invariant
