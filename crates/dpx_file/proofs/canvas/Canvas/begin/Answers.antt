use Rattle.std.proofs.Common.{ap}
use Rattle.std.specs.Prelude.{List, ℕ}
use Rattle.dpx_file.specs.Plain.{PlainImage, blank}
use Rattle.dpx_file.proofs.Written.{IsImage-blank, is_written, codes_shown}
use Rattle.dpx_file.proofs.canvas.Canvas.begin.Goals as goal

pub invariant_of-result : goal.invariant_of-result
invariant_of-result c =
    let a = c.args in
    is_written (blank a.width a.height a.depth) c.in_ok-bytes.bytes.items (IsImage-blank a.width a.height a.depth c.requires.size c.requires.depth) c.in_ok-bytes.ensures.file

pub returns : goal.returns
returns c =
    let a = c.args in
    let plain : List ℕ → PlainImage = λ cs. record { width = a.width; height = a.height; depth = a.depth; codes = cs } in
    ap plain (codes_shown (blank a.width a.height a.depth) c.in_ok-bytes.bytes.items (IsImage-blank a.width a.height a.depth c.requires.size c.requires.depth) c.in_ok-bytes.ensures.file)
