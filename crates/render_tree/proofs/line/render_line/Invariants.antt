use Rattle.std.proofs.Common.{◌≡◌, ◌+◌, ◌*◌, length}
use Rattle.dpx_file.specs.Plain.{CodesFit}
use Rattle.render_tree.specs.Means.{behind_pixels}
use Rattle.render_tree.specs.Forms.{form_of}
use Rattle.render_tree.specs.PixelRun.{pixel_run}
use Rattle.render_tree.specs.RenderedImage.{line_run}
use Rattle.render_tree.proofs.line.render_line.Given as goal

abbrev pub invariant-pixels : goal.invariant-pixels
invariant-pixels l = record {
  fit : CodesFit l.depth l.rest;
  so_far : behind_pixels l.line.items l.column (line_run (pixel_run l.depth l.depth (form_of l.stage)) l.rest) ≡ line_run (pixel_run l.depth l.depth (form_of l.stage)) l.codes;
  left : length l.rest + 3 * l.column ≡ length l.codes;
  many : length l.line.items ≡ 3 * l.column;
  fits : CodesFit l.depth l.line.items;
}

abbrev pub decreases-pixels : goal.decreases-pixels
decreases-pixels l = length l.rest
