use Rattle.std.proofs.Common.{◌∙◌}
use Rattle.std.proofs.lemmas.Result.{err_from_is_err_and}
use Rattle.module_path.specs.LoadOrder.{no_root}
use Rattle.module_path.specs.Means.{walked}
use Rattle.module_path.proofs.Fetching.{not_asked}
use Rattle.module_path.proofs.Steps.{root_stopped, root_at}
use Rattle.module_path.proofs.loading.load_root.Goals as goal

pub returns-in_err-folders-clause-loads : goal.returns-in_err-folders-clause-loads
returns-in_err-folders-clause-loads g c =
    let p = err_from_is_err_and c.from_residual.result c.from_residual.ensures.1 in
    λ held told. rw (p.1, p.2) (no_root (not_asked _ _ _))

pub returns-in_err-text-clause-loads : goal.returns-in_err-text-clause-loads
returns-in_err-text-clause-loads g c =
    let p = err_from_is_err_and c.from_residual-in_err-text.result c.from_residual-in_err-text.ensures.1 in
    λ held told. rw (p.1, p.2) (no_root (c.in_err-text.ensures.finds held told))

pub returns-in_err-load_file-clause-loads : goal.returns-in_err-load_file-clause-loads
returns-in_err-load_file-clause-loads g c =
    let p = err_from_is_err_and c.from_residual-in_err-load_file.result c.from_residual-in_err-load_file.ensures.1 in
    λ held told. rw (p.1, p.2) (root_stopped held _ _ _ _ _ _ _ _ _ _ c.in_err-load_file.field-0.0 (c.in_ok-text.ensures.finds held told) (c.deref.ensures.value ∙ c.in_ok-folders.ensures) c.new.ensures.items c.new-2.ensures.items c.new-3.ensures
    (c.in_err-load_file.ensures.loads held (c.in_ok-text.ensures.reads.held_stays ∙ told)))

pub returns-clause-loads : goal.returns-clause-loads
returns-clause-loads g c = λ held told. root_at held _ _ _ _ _ _ _ _ _ _ (walked c.load_file.new.walk) (c.in_ok-text.ensures.finds held told) (c.deref.ensures.value ∙ c.in_ok-folders.ensures) c.new.ensures.items c.new-2.ensures.items c.new-3.ensures
    (c.in_ok-load_file.ensures.loads held (c.in_ok-text.ensures.reads.held_stays ∙ told))
