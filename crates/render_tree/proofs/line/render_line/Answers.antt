use Rattle.std.proofs.Common.{◌≡◌, ℕ, ◌<◌, ◌≤◌, ◌^◌, List, length, ap, sym, subst, ◌∙◌, arith}
use Rattle.std.proofs.lemmas.List.{take_rest}
use Rattle.std.proofs.lemmas.List.Elements.{All-drop}
use Rattle.render_tree.specs.Forms.{form_of}
use Rattle.render_tree.specs.PixelRun.{pixel_run}
use Rattle.dpx_file.specs.Plain.{CodesFit}
use Rattle.render_tree.specs.Means.{behind_pixels}
use Rattle.render_tree.specs.RenderedImage.{line_run}
use Rattle.render_tree.proofs.Pixels.{behind_none, none_fit, front_fits, more_fit, more_codes, pixel_more, pixel_stops, pixels_done}
use Rattle.render_tree.proofs.line.render_line.Goals as goal

pub pixels-init : goal.pixels-init
pixels-init c =
    let none = c.clear.ensures.items in
    record {
      fit = c.requires.fit;
      so_far = ap (λ (ys : List ℕ). behind_pixels ys 0 (line_run (pixel_run c.args.depth c.args.depth (form_of c.args.stage.now)) c.args.codes.now)) none ∙ behind_none _;
      left = omega arith;
      many = ap length none;
      fits = subst (CodesFit c.args.depth) (sym none) (none_fit c.args.depth);
    }

pub pixels-preserved : goal.pixels-preserved
pixels-preserved c =
    let l : 3 ≤ length c.pixels.rest.now = omega arith in
    let more = c.in_ok-put_pixel-in-Ok.ensures in
    record {
      fit = rw (take_rest c.pixels.rest.now 3) (All-drop (λ (x : ℕ). x < 2 ^ c.args.depth) 3 c.pixels.rest.now c.pixels.invariant.fit);
      so_far = pixel_more (pixel_run c.args.depth c.args.depth (form_of c.args.stage.now)) _ _ _ c.pixels.rest.now _ _ l c.in-Ok.ensures.gives more c.pixels.invariant.so_far;
      left = let h = c.pixels.invariant.left in omega (arith, h);
      many = more_codes _ _ c.pixels.column _ c.pixels.invariant.many more;
      fits = more_fit c.args.depth _ _ _ c.pixels.invariant.fits c.in-Ok.ensures.fit more;
    }
