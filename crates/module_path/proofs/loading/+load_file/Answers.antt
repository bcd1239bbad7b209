use Rattle.std.proofs.Common.{◌≡◌, ℕ, ◌+◌, ◌<◌, ◌≤◌, List, length, sym, ap, refl, ◌∙◌, arith, subst, true, false}
use Rattle.ctl_base.specs.declared.limits.TheConstants.{MODULES}
use Rattle.ctl_tree.specs.declared.definition.Module.{Module}
use Rattle.std.proofs.lemmas.Result.{err_from_is_err_and}
use Rattle.module_path.specs.LoadOrder.{is_among, file_given_up, is_settled, no_text, import_given_up}
use Rattle.module_path.specs.Means.{walked}
use Rattle.module_path.proofs.Fetching.{not_asked, reads_alone}
use Rattle.module_path.proofs.Steps.{stops_at, loads_at, all_at, imports_stopped, file_at, settled_cycle, settled_many, unsettled, module_at}
use Rattle.module_path.proofs.loading.+load_file.Goals as goal

pub load_all-returns-in_err-load_one-clause-loads : goal.load_all-returns-in_err-load_one-clause-loads
load_all-returns-in_err-load_one-clause-loads g t c =
    let p = err_from_is_err_and c.from_residual.result c.from_residual.ensures.1 in
    let h : c.each.import-index < length c.args.imports.now = c.each-test.true in
    λ held told. rw (p.1, p.2) (c.each.invariant.loads held told _ _
    (stops_at held _ _ _ _ _ _ _ _ _ _ _ h c.import-item.is (c.as_text-name.ensures ∙ c.as_slice.ensures) (c.in_err-load_one.ensures.loads held (c.each.invariant.reads.held_stays ∙ told))))

pub load_all-each-preserved : goal.load_all-each-preserved
load_all-each-preserved g t c =
    let h : c.each.import-index < length c.args.imports.now = c.each-test.true in
    record {
      loads = λ held told after answer rest. c.each.invariant.loads held told after answer
          (loads_at held _ _ _ _ _ _ _ _ _ _ _ _ after answer h c.import-item.is (c.as_text-name.ensures ∙ c.as_slice.ensures) c.in_ok-load_one.ensures.loading (c.in_ok-load_one.ensures.loads held (c.each.invariant.reads.held_stays ∙ told)) rest);
      loading = c.in_ok-load_one.ensures.loading ∙ c.each.invariant.loading;
      room = c.in_ok-load_one.ensures.room;
      paired = c.in_ok-load_one.ensures.paired;
      reads = reads_alone _ _ _ c.each.invariant.reads c.in_ok-load_one.ensures.reads;
      faults = c.in_ok-load_one.ensures.counted ∙ c.each.invariant.faults;
    }

pub load_all-returns-clause-loads : goal.load_all-returns-clause-loads
load_all-returns-clause-loads g t c = λ held told. c.each.invariant.loads held told _ _ (all_at held _ _ _ c.args.imports.now c.each.import-index _ _ c.each-test.false)

pub load_file-returns-in_err-load_all-clause-loads : goal.load_file-returns-in_err-load_all-clause-loads
load_file-returns-in_err-load_all-clause-loads g t c =
    let p = err_from_is_err_and c.from_residual-in_err-load_all.result c.from_residual-in_err-load_all.ensures.1 in
    let same : c.as_slice.result.now ≡ c.in_ok-unit.unit.«module».imports = c.as_slice.ensures ∙ ap (λ (m : Module). m.imports) c.module.ensures.form in
    λ held told. rw (p.1, p.2) (imports_stopped held _ _ _ c.in_ok-unit.unit _ _ _ _ _ _ c.in_ok-unit.ensures.reads c.file.ensures same (c.in_err-load_all.ensures.loads held told))

pub load_file-returns-in_err-push-clause-loads : goal.load_file-returns-in_err-push-clause-loads
load_file-returns-in_err-push-clause-loads g t c =
    let p = err_from_is_err_and c.from_residual-in_err-push.result c.from_residual-in_err-push.ensures.1 in
    let same : c.as_slice.result.now ≡ c.in_ok-unit.unit.«module».imports = c.as_slice.ensures ∙ ap (λ (m : Module). m.imports) c.module.ensures.form in
    λ held told. rw (p.1, p.2) (file_given_up (file_at held _ _ _ c.in_ok-unit.unit _ _ _ _ _ _ c.in_ok-unit.ensures.reads c.file.ensures same (c.in_ok-load_all.ensures.loads held told)))

pub load_file-returns-clause-loads : goal.load_file-returns-clause-loads
load_file-returns-clause-loads g t c =
    let same : c.as_slice.result.now ≡ c.in_ok-unit.unit.«module».imports = c.as_slice.ensures ∙ ap (λ (m : Module). m.imports) c.module.ensures.form in
    λ held told. rw c.in_ok-push.ensures.last (file_at held _ _ _ c.in_ok-unit.unit _ _ _ _ _ _ c.in_ok-unit.ensures.reads c.file.ensures same (c.in_ok-load_all.ensures.loads held told))

pub load_one-returns-in_err-copy-clause-loads : goal.load_one-returns-in_err-copy-clause-loads
load_one-returns-in_err-copy-clause-loads g t c =
    let p = err_from_is_err_and c.from_residual.result c.from_residual.ensures.1 in
    let out : is_among c.args.walk.now.names.items c.args.name.now ≡ false = subst (λ (l : List (List ℕ)). is_among l c.args.name.now ≡ false) c.deref.ensures.value (sym c.has.ensures ∙ c.if-has.false) in
    let in_it : is_among c.args.walk.now.loading.items c.args.name.now ≡ true = subst (λ (l : List (List ℕ)). is_among l c.args.name.now ≡ true) c.deref-2.ensures.value (sym c.has-2.ensures ∙ c.if-has-2.true) in
    λ held told. rw (p.1, p.2) (import_given_up (is_settled (settled_cycle c.args.walk.now.loading.items c.args.file.now c.args.name.now (walked c.args.walk.now) out in_it)))

pub load_one-returns-in_err-new-clause-loads : goal.load_one-returns-in_err-new-clause-loads
load_one-returns-in_err-new-clause-loads g t c =
    let p = err_from_is_err_and c.from_residual-in_err-new.result c.from_residual-in_err-new.ensures.1 in
    let out : is_among c.args.walk.now.names.items c.args.name.now ≡ false = subst (λ (l : List (List ℕ)). is_among l c.args.name.now ≡ false) c.deref.ensures.value (sym c.has.ensures ∙ c.if-has.false) in
    let in_it : is_among c.args.walk.now.loading.items c.args.name.now ≡ true = subst (λ (l : List (List ℕ)). is_among l c.args.name.now ≡ true) c.deref-2.ensures.value (sym c.has-2.ensures ∙ c.if-has-2.true) in
    λ held told. rw (p.1, p.2) (import_given_up (is_settled (settled_cycle c.args.walk.now.loading.items c.args.file.now c.args.name.now (walked c.args.walk.now) out in_it)))

pub load_one-returns-in_err-copy-2-clause-loads : goal.load_one-returns-in_err-copy-2-clause-loads
load_one-returns-in_err-copy-2-clause-loads g t c =
    let p = err_from_is_err_and c.from_residual-in_err-copy-2.result c.from_residual-in_err-copy-2.ensures.1 in
    let out : is_among c.args.walk.now.names.items c.args.name.now ≡ false = subst (λ (l : List (List ℕ)). is_among l c.args.name.now ≡ false) c.deref.ensures.value (sym c.has.ensures ∙ c.if-has.false) in
    let apart : is_among c.args.walk.now.loading.items c.args.name.now ≡ false = subst (λ (l : List (List ℕ)). is_among l c.args.name.now ≡ false) c.deref-2.ensures.value (sym c.has-2.ensures ∙ c.if-has-2.false) in
    let many : MODULES ≤ 1 + length c.args.walk.now.loading.items + length c.args.walk.now.names.items = omega (arith, c.if-len.true, c.len.ensures, c.len-2.ensures) in
    λ held told. rw (p.1, p.2) (import_given_up (is_settled (settled_many c.args.walk.now.loading.items c.args.file.now c.args.name.now (walked c.args.walk.now) out apart many)))

pub load_one-returns-in_err-begin_module-clause-loads : goal.load_one-returns-in_err-begin_module-clause-loads
load_one-returns-in_err-begin_module-clause-loads g t c =
    let p = err_from_is_err_and c.from_residual-in_err-begin_module.result c.from_residual-in_err-begin_module.ensures.1 in
    let out : is_among c.args.walk.now.names.items c.args.name.now ≡ false = subst (λ (l : List (List ℕ)). is_among l c.args.name.now ≡ false) c.deref.ensures.value (sym c.has.ensures ∙ c.if-has.false) in
    let apart : is_among c.args.walk.now.loading.items c.args.name.now ≡ false = subst (λ (l : List (List ℕ)). is_among l c.args.name.now ≡ false) c.deref-2.ensures.value (sym c.has-2.ensures ∙ c.if-has-2.false) in
    let room : 1 + length c.args.walk.now.loading.items + length c.args.walk.now.names.items < MODULES = omega (arith, c.if-len.false, c.len.ensures, c.len-2.ensures) in
    λ held told. rw (p.1, p.2) (no_text (unsettled c.args.walk.now.loading.items c.args.file.now c.args.name.now (walked c.args.walk.now) out apart room) (not_asked _ _ _))

pub load_one-returns-in_err-end_module-clause-loads : goal.load_one-returns-in_err-end_module-clause-loads
load_one-returns-in_err-end_module-clause-loads g t c =
    let p = err_from_is_err_and c.from_residual-in_err-end_module.result c.from_residual-in_err-end_module.ensures.1 in
    let out : is_among c.args.walk.now.names.items c.args.name.now ≡ false = subst (λ (l : List (List ℕ)). is_among l c.args.name.now ≡ false) c.deref.ensures.value (sym c.has.ensures ∙ c.if-has.false) in
    let apart : is_among c.args.walk.now.loading.items c.args.name.now ≡ false = subst (λ (l : List (List ℕ)). is_among l c.args.name.now ≡ false) c.deref-2.ensures.value (sym c.has-2.ensures ∙ c.if-has-2.false) in
    let room : 1 + length c.args.walk.now.loading.items + length c.args.walk.now.names.items < MODULES = omega (arith, c.if-len.false, c.len.ensures, c.len-2.ensures) in
    λ held told. rw (p.1, p.2) (import_given_up (module_at held _ _ _ _ _ _ _ _ _ _ _ _ _ (unsettled c.args.walk.now.loading.items c.args.file.now c.args.name.now (walked c.args.walk.now) out apart room)
    (c.in_ok-text.ensures.finds held told) c.in_ok-begin_module.ensures.loading c.in_ok-begin_module.ensures.walked refl (c.in_ok-load_file.ensures.loads held (c.in_ok-text.ensures.reads.held_stays ∙ told))))

pub load_one-returns-clause-loads : goal.load_one-returns-clause-loads
load_one-returns-clause-loads g t c =
    let out : is_among c.args.walk.now.names.items c.args.name.now ≡ false = subst (λ (l : List (List ℕ)). is_among l c.args.name.now ≡ false) c.deref.ensures.value (sym c.has.ensures ∙ c.if-has.false) in
    let apart : is_among c.args.walk.now.loading.items c.args.name.now ≡ false = subst (λ (l : List (List ℕ)). is_among l c.args.name.now ≡ false) c.deref-2.ensures.value (sym c.has-2.ensures ∙ c.if-has-2.false) in
    let room : 1 + length c.args.walk.now.loading.items + length c.args.walk.now.names.items < MODULES = omega (arith, c.if-len.false, c.len.ensures, c.len-2.ensures) in
    let e = c.in_ok-end_module.ensures c.args.walk.now.loading.items c.args.name.now (c.in_ok-load_file.ensures.loading ∙ c.in_ok-begin_module.ensures.loading) in
    λ held told. module_at held _ _ _ _ _ _ _ _ _ _ _ _ _ (unsettled c.args.walk.now.loading.items c.args.file.now c.args.name.now (walked c.args.walk.now) out apart room)
    (c.in_ok-text.ensures.finds held told) c.in_ok-begin_module.ensures.loading c.in_ok-begin_module.ensures.walked e.1 (c.in_ok-load_file.ensures.loads held (c.in_ok-text.ensures.reads.held_stays ∙ told))
