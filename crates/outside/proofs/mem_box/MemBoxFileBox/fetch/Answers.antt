use Rattle.std.proofs.Common.{◌≡◌, false, sym, ◌∙◌, ap}
use Rattle.std.proofs.lemmas.Bool.{false≢true}
use Rattle.std.proofs.lemmas.Result.{err_from_is_err_and}
use Rattle.outside.specs.MemBox.{fails_next}
use Rattle.outside.proofs.mem_box.MemBoxFileBox.fetch.Goals as goal

pub returns-in_err-got-clause-fails : goal.returns-in_err-got-clause-fails
returns-in_err-got-clause-fails c =
    let p = err_from_is_err_and c.from_residual.result c.from_residual.ensures.1 in
    let no : fails_next c.args.self.now ≡ false = sym (ap fails_next c.self.view_is) ∙ sym (rw c.deref.ensures.value at c.count_call-fails.ensures.fails) ∙ c.if-fails.false in
    rw (p.1, p.2) (λ failed. absurd (false≢true failed), λ fails. absurd (false≢true (sym no ∙ fails)))
