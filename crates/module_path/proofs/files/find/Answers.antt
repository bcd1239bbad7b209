use Rattle.std.proofs.Common.{◌<◌, length, subst, ◌∙◌, Ok}
use Rattle.std.specs.FinMap as map
use Rattle.module_path.specs.Means.{Tries}
use Rattle.std.proofs.lemmas.Result.{err_from_is_err_and}
use Rattle.module_path.proofs.Fetching.{not_asked, this_folder, next_folder, at_folder, past_folders, reads_alone}
use Rattle.module_path.proofs.files.find.Goals as goal

pub returns-in_err-file-clause-finds : goal.returns-in_err-file-clause-finds
returns-in_err-file-clause-finds g c =
    let p = err_from_is_err_and c.from_residual.result c.from_residual.ensures.1 in
    λ held told. rw (p.1, p.2) (c.each.invariant.finds held told _ _ (not_asked _ _ _))

pub returns-in_err-found-clause-finds : goal.returns-in_err-found-clause-finds
returns-in_err-found-clause-finds g c =
    let p = err_from_is_err_and c.from_residual-in_err-found.result c.from_residual-in_err-found.ensures.1 in
    let h : c.each.folder-index < length c.args.folders.now = c.each-test.true in
    λ held told. rw (p.1, p.2) (c.each.invariant.finds held told _ _ (at_folder held _ _ _ _ _ _ _ h c.folder-item.is (this_folder held _ _ _ _ _ _ _ c.in_ok-file.ensures (c.in_err-found.ensures.tries held (c.each.invariant.reads.held_stays ∙ told)))))

pub returns-in-Some-clause-finds : goal.returns-in-Some-clause-finds
returns-in-Some-clause-finds g c =
    let h : c.each.folder-index < length c.args.folders.now = c.each-test.true in
    λ held told.
    let t = subst (λ f. Tries (map.get held c.in_ok-file.file) c.in_ok-file.file (g.F.FileBox.asked c.each.files) (g.F.FileBox.asked c.fetch_file.new.files) (Ok f)) c.in-Some.is (c.in_ok-found.ensures.tries held (c.each.invariant.reads.held_stays ∙ told)) in
    c.each.invariant.finds held told _ _ (at_folder held _ _ _ _ _ _ _ h c.folder-item.is (this_folder held _ _ _ _ _ _ _ c.in_ok-file.ensures t))

pub each-preserved : goal.each-preserved
each-preserved g c =
    let h : c.each.folder-index < length c.args.folders.now = c.each-test.true in
    record {
      finds = λ held told after answer rest.
          let t = subst (λ f. Tries (map.get held c.in_ok-file.file) c.in_ok-file.file (g.F.FileBox.asked c.each.files) (g.F.FileBox.asked c.fetch_file.new.files) (Ok f)) c.in_default.is (c.in_ok-found.ensures.tries held (c.each.invariant.reads.held_stays ∙ told)) in
          c.each.invariant.finds held told after answer (at_folder held _ _ _ _ _ _ _ h c.folder-item.is (next_folder held _ _ _ _ _ _ _ _ c.in_ok-file.ensures t.0 t.1 rest));
      reads = reads_alone _ _ _ c.each.invariant.reads c.in_ok-found.ensures.reads;
      faults = c.in_ok-found.ensures.counted ∙ c.each.invariant.faults;
    }

pub returns-in_err-new-clause-finds : goal.returns-in_err-new-clause-finds
returns-in_err-new-clause-finds g c =
    let p = err_from_is_err_and c.from_residual-in_err-new.result c.from_residual-in_err-new.ensures.1 in
    λ held told. rw (p.1, p.2) (c.each.invariant.finds held told _ _ (not_asked _ _ _))

pub returns-clause-finds : goal.returns-clause-finds
returns-clause-finds g c = λ held told. c.each.invariant.finds held told _ _ (past_folders held _ _ _ _ _ c.each-test.false c.in_ok-new.ensures)
