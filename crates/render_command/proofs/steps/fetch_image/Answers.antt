use Rattle.std.proofs.Common.{◌≡◌, ◌∙◌, List, ℕ, ap, Ok, Err, rules}
use Rattle.std.proofs.lemmas.Result.{err_from_is_err_and}
use Rattle.std.specs.FinMap as map
use Rattle.outside.specs.Calls.{Fetch}
use Rattle.outside.specs.declared.files.Fetched.TheVariants.{Bytes, Absent, TooLong}
use Rattle.dpx_file.specs.Reading.{dpx_reading}
use Rattle.command_status.specs.declared.status.ImageFault.TheVariants as image
use Rattle.command_status.specs.declared.status.Status.TheVariants.{Image}
use Rattle.render_command.specs.Verdict.{image_in, image_of}
use Rattle.render_command.proofs.Stepping.{answered_step, failed_step, unasked_step, roomless_step, fetched_image, image_got, fetch_rose, fetch_quiet, fetch_asked}
use Rattle.render_command.proofs.steps.fetch_image.Goals as goal

pub returns-in_err-name : goal.returns-in_err-name
returns-in_err-name g c =
    let p = err_from_is_err_and c.from_residual.result c.from_residual.ensures.1 in
    rw (p.1, p.2) (unasked_step g.F.FileBox.held g.F.FileBox.asked g.F.FileBox.faults g.F.FileBox.lost g.F.FileBox.serves c.args.files.now (λ i. i) Fetch c.args.command.now.source.now (λ held. image_of (map.get held c.args.command.now.source.now)))

pub returns-in-Ok-Absent : goal.returns-in-Ok-Absent
returns-in-Ok-Absent g c =
    answered_step g.F.FileBox.held g.F.FileBox.asked g.F.FileBox.faults g.F.FileBox.lost g.F.FileBox.serves c.args.files.now _ (λ i. i) Fetch _ c.args.command.now.source.now (λ held. image_of (map.get held c.args.command.now.source.now)) (Err (Image image.Absent))
    c.in-Ok-Absent.ensures.reads c.in-Ok-Absent.ensures.cause tt c.in-Ok-Absent.ensures.asks c.as_str.ensures
    (λ h told. fetched_image _ h _ _ c.in-Ok-Absent.field-0 told c.as_str.ensures c.in-Ok-Absent.ensures.answer ∙ ap image_got c.in-Ok-Absent.field-0-is)

pub returns-in-Ok-TooLong : goal.returns-in-Ok-TooLong
returns-in-Ok-TooLong g c =
    answered_step g.F.FileBox.held g.F.FileBox.asked g.F.FileBox.faults g.F.FileBox.lost g.F.FileBox.serves c.args.files.now _ (λ i. i) Fetch _ c.args.command.now.source.now (λ held. image_of (map.get held c.args.command.now.source.now)) (Err (Image image.TooLong))
    c.in-Ok-TooLong.ensures.reads c.in-Ok-TooLong.ensures.cause tt c.in-Ok-TooLong.ensures.asks c.as_str.ensures
    (λ h told. fetched_image _ h _ _ c.in-Ok-TooLong.field-0 told c.as_str.ensures c.in-Ok-TooLong.ensures.answer ∙ ap image_got c.in-Ok-TooLong.field-0-is)

pub returns-in-Err-Failed : goal.returns-in-Err-Failed
returns-in-Err-Failed g c =
    rw c.in_ok-name.ensures
    (failed_step g.F.FileBox.held g.F.FileBox.asked g.F.FileBox.faults g.F.FileBox.lost g.F.FileBox.serves c.args.files.now _ (λ i. i) Fetch _ c.args.command.now.source.now (λ held. image_of (map.get held c.args.command.now.source.now))
    c.in-Err-Failed.ensures.reads (fetch_rose _ _ c.in-Err-Failed.field-0 c.in-Err-Failed.field-0-is c.in-Err-Failed.ensures.cause) (λ to n s. c.in-Err-Failed.ensures.served to n s (ap (λ f. Err f) c.in-Err-Failed.field-0-is))
    (fetch_asked _ _ _ c.in-Err-Failed.field-0 _ c.in-Err-Failed.field-0-is c.in-Err-Failed.ensures.asks) c.as_str.ensures)

pub returns-in-Err-Memory : goal.returns-in-Err-Memory
returns-in-Err-Memory g c =
    roomless_step g.F.FileBox.held g.F.FileBox.asked g.F.FileBox.faults g.F.FileBox.lost g.F.FileBox.serves c.args.files.now _ (λ i. i) Fetch _ c.args.command.now.source.now (λ held. image_of (map.get held c.args.command.now.source.now))
    c.in-Err-Memory.ensures.reads (fetch_quiet _ _ c.in-Err-Memory.field-0 c.in-Err-Memory.field-0-is c.in-Err-Memory.ensures.cause)
    (fetch_asked _ _ _ c.in-Err-Memory.field-0 _ c.in-Err-Memory.field-0-is c.in-Err-Memory.ensures.asks) c.as_str.ensures

pub returns-in-Ok : goal.returns-in-Ok
returns-in-Ok g c =
    let is : image_got c.in-Ok-Bytes.field-0 ≡ Ok c.in-Ok.image = search rules in
    answered_step g.F.FileBox.held g.F.FileBox.asked g.F.FileBox.faults g.F.FileBox.lost g.F.FileBox.serves c.args.files.now _ (λ i. i) Fetch _ c.args.command.now.source.now (λ held. image_of (map.get held c.args.command.now.source.now)) (Ok c.in-Ok.image)
    c.in-Ok-Bytes.ensures.reads c.in-Ok-Bytes.ensures.cause tt c.in-Ok-Bytes.ensures.asks c.as_str.ensures
    (λ h told. fetched_image _ h _ _ c.in-Ok-Bytes.field-0 told c.as_str.ensures c.in-Ok-Bytes.ensures.answer ∙ is)

pub returns-in-Err-Dpx : goal.returns-in-Err-Dpx
returns-in-Err-Dpx g c =
    let is : image_got c.in-Ok-Bytes.field-0 ≡ Err (Image (image.Dpx c.in-Err-Dpx.fault)) = search rules in
    answered_step g.F.FileBox.held g.F.FileBox.asked g.F.FileBox.faults g.F.FileBox.lost g.F.FileBox.serves c.args.files.now _ (λ i. i) Fetch _ c.args.command.now.source.now (λ held. image_of (map.get held c.args.command.now.source.now)) (Err (Image (image.Dpx c.in-Err-Dpx.fault)))
    c.in-Ok-Bytes.ensures.reads c.in-Ok-Bytes.ensures.cause tt c.in-Ok-Bytes.ensures.asks c.as_str.ensures
    (λ h told. fetched_image _ h _ _ c.in-Ok-Bytes.field-0 told c.as_str.ensures c.in-Ok-Bytes.ensures.answer ∙ is)

pub returns : goal.returns
returns g c =
    roomless_step g.F.FileBox.held g.F.FileBox.asked g.F.FileBox.faults g.F.FileBox.lost g.F.FileBox.serves c.args.files.now _ (λ i. i) Fetch _ c.args.command.now.source.now (λ held. image_of (map.get held c.args.command.now.source.now))
    c.in-Ok-Bytes.ensures.reads c.in-Ok-Bytes.ensures.cause c.in-Ok-Bytes.ensures.asks c.as_str.ensures
