use Rattle.std.proofs.Common.{◌≡◌, ◌-◌, ◌∙◌, length}
use Rattle.std.proofs.lemmas.List.{with_items_is}
use Rattle.std.specs.Vec.{with_items}
use borrow.Rule.Slice.PartMut.{put_mid}
use Rattle.dpx_file.proofs.Written.{all_written}
use Rattle.dpx_file.proofs.writing.write.Goals as goal

pub returns : goal.returns
returns c =
    let bytes = c.in_ok-bytes.bytes in
    let slice = c.deref_mut.result.now in
    let writes = put_mid 2048 (length slice - 2048) slice c.encode.new.out in
    c.from_vec.ensures ∙ all_written c.args.image.now c.width.result c.height.result c.args.depth bytes.items slice c.encode.new.out c.codes.result.now (with_items bytes writes).items bytes.len
    c.width.ensures.valid c.width.ensures.value c.height.ensures.value c.requires c.codes.ensures.value c.in_ok-bytes.ensures.file c.deref_mut.ensures.value
    c.deref_mut.ensures.len c.in_ok-bytes.ensures.count c.encode.ensures (λ (e : length writes ≡ bytes.len). with_items_is bytes writes e)
