use Rattle.std.proofs.Common.{subst, Ok}
use Rattle.std.proofs.lemmas.Result.{err_from_is_err_and}
use Rattle.std.specs.FinMap as map
use Rattle.module_path.specs.Means.{Tries}
use Rattle.module_path.proofs.Fetching.{not_asked, root_absent, root_given_up}
use Rattle.module_path.proofs.loading.find_root.Goals as goal

pub returns-in_err-file-clause-finds : goal.returns-in_err-file-clause-finds
returns-in_err-file-clause-finds g c =
    let p = err_from_is_err_and c.from_residual.result c.from_residual.ensures.1 in
    λ held told. rw (p.1, p.2) (not_asked _ _ _)

pub returns-in_err-new-in-None-clause-finds : goal.returns-in_err-new-in-None-clause-finds
returns-in_err-new-in-None-clause-finds g c =
    let p = err_from_is_err_and c.from_residual-in_err-new-in-None.result c.from_residual-in_err-new-in-None.ensures.1 in
    λ held told.
    let t = subst (λ f. Tries (map.get held c.in_ok-file.file) c.in_ok-file.file (g.F.FileBox.asked c.args.files.now) (g.F.FileBox.asked c.fetch_file.new.files) (Ok f)) c.in-None.is (c.in_ok-text.ensures.tries held told) in
    rw (p.1, p.2) (root_given_up held _ _ _ _ c.in_ok-file.ensures t.1)

pub returns-in_ok-new-in-None-clause-finds : goal.returns-in_ok-new-in-None-clause-finds
returns-in_ok-new-in-None-clause-finds g c = λ held told.
    let t = subst (λ f. Tries (map.get held c.in_ok-file.file) c.in_ok-file.file (g.F.FileBox.asked c.args.files.now) (g.F.FileBox.asked c.fetch_file.new.files) (Ok f)) c.in-None.is (c.in_ok-text.ensures.tries held told) in
    root_absent held _ _ _ _ _ c.in_ok-file.ensures c.in_ok-new-in-None.ensures t.0 t.1
