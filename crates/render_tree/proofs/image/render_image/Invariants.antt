use Rattle.std.proofs.Common.{◌≡◌, ◌*◌, ◌-◌, take, drop, length}
use Rattle.render_tree.specs.Means.{behind_lines}
use Rattle.render_tree.specs.Forms.{form_of}
use Rattle.render_tree.specs.PixelRun.{pixel_run}
use Rattle.render_tree.specs.RenderedImage.{lines_run}
use Rattle.render_tree.proofs.image.render_image.Given as goal

abbrev pub invariant-lines : goal.invariant-lines
invariant-lines l = record {
  width : l.canvas.width ≡ l.image.width;
  height : l.canvas.height ≡ l.image.height;
  depth : l.canvas.depth ≡ l.image.depth;
  count : length l.canvas.codes ≡ 3 * l.image.width * l.image.height;
  so_far : behind_lines (take (3 * l.image.width * l.y) l.canvas.codes) l.y (lines_run (pixel_run l.image.depth l.image.depth (form_of l.stage)) (l.image.height - l.y) (3 * l.image.width) (drop (3 * l.image.width * l.y) l.image.codes))
      ≡ lines_run (pixel_run l.image.depth l.image.depth (form_of l.stage)) l.image.height (3 * l.image.width) l.image.codes;
}
