use Rattle.std.proofs.Common.{◌≡◌, ℕ, List, ◌+◌, ◌*◌, ◌-◌, ◌≤◌, ◌<◌, length, take, drop, refl, ap, sym, ◌∙◌, arith}
use Rattle.std.proofs.lemmas.Result.{err_from_is_err_and}
use Rattle.dpx_file.specs.Plain.{PlainImage, replaced}
use Rattle.render_tree.specs.Forms.{form_of}
use Rattle.render_tree.specs.PixelRun.{pixel_run}
use Rattle.render_tree.specs.RenderedImage.{lines_run}
use Rattle.render_tree.specs.Means.{behind_lines}
use Rattle.render_tree.proofs.Lines.{blank_count, lines_begin, line_end, lines_left, lines_more, replaced-length, image_stops, image_done}
use Rattle.render_tree.proofs.image.render_image.Goals as goal

pub lines-init : goal.lines-init
lines-init c =
    let e = c.in_ok-canvas.ensures in
    record {
      width = ap (λ (p : PlainImage). p.width) e ∙ c.width.ensures.value;
      height = ap (λ (p : PlainImage). p.height) e ∙ c.height.ensures.value;
      depth = ap (λ (p : PlainImage). p.depth) e ∙ c.depth.ensures.value;
      count = blank_count c.in_ok-canvas.canvas c.args.image.now c.width.result c.height.result c.depth.result e c.width.ensures.value c.height.ensures.value;
      so_far = lines_begin (pixel_run c.args.image.now.depth c.args.image.now.depth (form_of c.args.stage.now)) c.args.image.now.width c.args.image.now.height c.in_ok-canvas.canvas.codes c.args.image.now.codes;
    }

pub lines-preserved : goal.lines-preserved
lines-preserved c =
    let image : PlainImage = c.args.image.now in
    let y : ℕ = c.lines.y in
    let e = c.in_ok-put_rendered.ensures in
    let line : List ℕ = e.0 in
    let below : y < image.height = omega (arith, c.height-y-end.ensures.value) in
    let ends : 3 * image.width * y + 3 * image.width ≤ 3 * image.width * image.height = line_end image.width image.height y below in
    let many : length line ≡ 3 * image.width = e.1 ∙ ap (λ (w : ℕ). 3 * w) c.lines.invariant.width in
    let put : c.put_rendered.new.canvas.codes ≡ replaced c.lines.canvas.codes (3 * image.width * y) line =
    ap (λ (p : PlainImage). p.codes) e.3 ∙ ap (λ (w : ℕ). replaced c.lines.canvas.codes (3 * w * y) line) c.lines.invariant.width in
    record {
      width = ap (λ (p : PlainImage). p.width) e.3 ∙ c.lines.invariant.width;
      height = ap (λ (p : PlainImage). p.height) e.3 ∙ c.lines.invariant.height;
      depth = ap (λ (p : PlainImage). p.depth) e.3 ∙ c.lines.invariant.depth;
      count = ap length put ∙ replaced-length c.lines.canvas.codes line (3 * image.width * y) (omega (arith, ends, many, c.lines.invariant.count)) ∙ c.lines.invariant.count;
      so_far = ap (λ (ys : List ℕ). behind_lines (take (3 * image.width * (y + 1)) ys) (y + 1) (lines_run (pixel_run image.depth image.depth (form_of c.args.stage.now)) (image.height - (y + 1)) (3 * image.width) (drop (3 * image.width * (y + 1)) image.codes))) put
          ∙ lines_more (pixel_run image.depth image.depth (form_of c.args.stage.now)) (3 * image.width) (image.height - (y + 1)) y (3 * image.width * y) (3 * image.width * (y + 1)) c.lines.canvas.codes line image.codes _
          (omega arith) (omega (arith, ends, c.lines.invariant.count)) many e.2
          (lines_left (pixel_run image.depth image.depth (form_of c.args.stage.now)) (3 * image.width) image.height y (take (3 * image.width * y) c.lines.canvas.codes) (drop (3 * image.width * y) image.codes) _ below c.lines.invariant.so_far);
    }

pub returns-in_err-put_rendered : goal.returns-in_err-put_rendered
returns-in_err-put_rendered c =
    let p = err_from_is_err_and c.from_residual-in_err-put_rendered.result c.from_residual-in_err-put_rendered.ensures.1 in
    rw (p.1, p.2) (image_stops (form_of c.args.stage.now) c.args.image.now _ _ c.lines.y _ _ (omega (arith, c.height-y-end.ensures.value)) c.lines.invariant.so_far c.in_err-put_rendered.ensures)

pub returns : goal.returns
returns c = image_done (form_of c.args.stage.now) c.args.image.now c.lines.canvas c.lines.y (omega (arith, c.height-y-end.ensures.value)) c.lines.invariant.width c.lines.invariant.height c.lines.invariant.depth c.lines.invariant.count c.lines.invariant.so_far
