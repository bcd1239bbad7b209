use Rattle.std.proofs.Common.{◌≡◌, ℕ, List, ◌*◌, length, Result, Ok, Err, refl, ap, sym, subst, ◌∙◌}
use Rattle.dpx_file.specs.Plain.{with_line}
use Rattle.render_tree.specs.Forms.{form_of}
use Rattle.render_tree.specs.PixelRun.{pixel_run}
use Rattle.render_tree.specs.RenderedImage.{line_run}
use Rattle.render_tree.specs.declared.fault.LineFault.{LineFault}
use Rattle.render_tree.specs.Means.{LineGives}
use Rattle.render_tree.proofs.Lines.{codes_of_line-length, line_given}
use Rattle.render_tree.proofs.image.put_rendered.Goals as goal

-- the line has all its codes
counted : (c : goal.After-deref) → length c.deref.result.now ≡ 3 * c.args.canvas.now.width
counted c =
    ap length c.deref.ensures.value
    ∙ c.in-Ok.ensures.many c.args.image.now.width (ap length c.line.ensures.value ∙ codes_of_line-length c.args.image.now c.args.y c.line.ensures.valid.count c.requires.line)
    ∙ ap (λ (w : ℕ). 3 * w) (sym c.requires.width)

pub put_line-requires-clause-count : goal.put_line-requires-clause-count
put_line-requires-clause-count c = counted c

pub returns-in-Ok : goal.returns-in-Ok
returns-in-Ok c = (
  c.render_line.new.line.items,
  ap length (sym c.deref.ensures.value) ∙ ap length c.deref.ensures.value
      ∙ c.in-Ok.ensures.many c.args.image.now.width (ap length c.line.ensures.value ∙ codes_of_line-length c.args.image.now c.args.y c.line.ensures.valid.count c.requires.line)
      ∙ ap (λ (w : ℕ). 3 * w) (sym c.requires.width),
  line_given (form_of c.args.stage.now) c.args.image.now c.args.y c.depth.result c.line.result.now _ c.depth.ensures.value c.line.ensures.value c.in-Ok.ensures.gives,
  c.put_line.ensures ∙ ap (λ (codes : List ℕ). with_line c.args.canvas.now c.args.y codes) c.deref.ensures.value,
)

pub returns-in-Err-Trap : goal.returns-in-Err-Trap
returns-in-Err-Trap c =
    let P : LineFault → Type 0 = λ f. LineGives (Err f) c.render_line.new.line.items (line_run (pixel_run c.depth.result c.depth.result (form_of c.args.stage.now)) c.line.result.now) in
    (refl, line_given (form_of c.args.stage.now) c.args.image.now c.args.y c.depth.result c.line.result.now _ c.depth.ensures.value c.line.ensures.value (subst P c.in-Err-Trap.field-0-is c.in-Err-Trap.ensures.gives))
