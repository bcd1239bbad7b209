use Rattle.std.proofs.Common.{◌++◌, ap, ◌∙◌}
use Rattle.std.specs.Prelude.{List, ℕ}
use Rattle.std.specs.List.{flat_map, range_with_len}
use Rattle.dpx_file.specs.Writing.{header_rows, file_information, image_information, first_element, unused_element, orientation_header, film_header, television_header}
use Rattle.dpx_file.proofs.RowLemmas.{rows_more, bytes_more, same_bytes}
use Rattle.dpx_file.proofs.header.put_header.Goals as goal

pub returns : goal.returns
unfolding header_rows
returns c =
    let start = c.args.out.now.items in
    let file = file_information c.args.file_size in
    let image = image_information c.args.width c.args.height in
    let first = first_element c.args.depth in
    let unused = flat_map unused_element (range_with_len 1 7) in
    let one = c.in_ok-put_fields.ensures ∙ ap (λ (l : List ℕ). start ++ l) (same_bytes c.file_rows.result file c.file_rows.ensures) in
    let two = rows_more start _ _ c.image_rows.result file image c.image_rows.ensures c.in_ok-put_fields-2.ensures one in
    let three = rows_more start _ _ c.first_element_rows.result (file ++ image) first c.first_element_rows.ensures c.in_ok-put_fields-3.ensures two in
    let four = bytes_more start _ _ (file ++ image ++ first) unused c.in_ok-put_unused_elements.ensures three in
    let five = rows_more start _ _ c.orientation_rows.result (file ++ image ++ first ++ unused) orientation_header c.orientation_rows.ensures c.in_ok-put_fields-4.ensures four in
    let six = rows_more start _ _ c.film_rows.result (file ++ image ++ first ++ unused ++ orientation_header) film_header c.film_rows.ensures c.in_ok-put_fields-5.ensures five in
    rows_more start _ _ c.television_rows.result (file ++ image ++ first ++ unused ++ orientation_header ++ film_header) television_header c.television_rows.ensures c.in_ok-put_fields-6.ensures six
