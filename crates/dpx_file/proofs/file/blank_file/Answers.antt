use Rattle.std.proofs.Common.{◌∙◌, ap, ◌++◌, List, ℕ, arith}
use Rattle.std.specs.List.{flat_map}
use Rattle.dpx_file.specs.Writing.{row_bytes, header_rows}
use Rattle.dpx_file.proofs.Written.{blank_written}
use Rattle.dpx_file.proofs.file.blank_file.Goals as goal

pub returns-clause-file : goal.returns-clause-file
returns-clause-file c =
    let size = c.line_start-size.result in
    let head = flat_map row_bytes (header_rows size c.args.width c.args.height c.args.depth) in
    blank_written c.args.width c.args.height c.args.depth size _ c.put_header.new.out.items c.resize.new.self.items c.requires.depth c.line_start-size.ensures
    (c.in_ok-put_header.ensures ∙ ap (λ (l : List ℕ). l ++ head) c.in_ok-bytes.ensures.items) (omega arith) c.in_ok-resize.ensures.items
