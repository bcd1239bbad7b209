use Rattle.std.proofs.Common.{◌≡◌, sym, ◌∙◌, arith}
use Rattle.std.proofs.lemmas.Slice.Eq.{bytes_eq-Decides}
use Rattle.std.proofs.lemmas.Bool.{false≢true}
use Rattle.outside.proofs.Keys.{find_at, find_past}
use Rattle.outside.proofs.mem_box.find.Goals as goal

pub returns-then-eq : goal.returns-then-eq
returns-then-eq c =
    let h = c.loop-held-item in
    let same : c.as_str.result.now ≡ c.args.name.now = (bytes_eq-Decides _ _).0 (sym c.eq.ensures ∙ c.if-eq.true) in
    sym (find_at c.args.name.now c.args.files.now c.loop-held.held-index h.result (omega arith) h.is (sym c.as_str.ensures ∙ same)) ∙ c.loop-held.invariant

pub loop-held-preserved : goal.loop-held-preserved
loop-held-preserved c =
    let h = c.loop-held-item in
    sym (find_past c.args.name.now c.args.files.now c.loop-held.held-index h.result (omega arith) h.is
    (λ same. false≢true (sym c.if-eq.false ∙ c.eq.ensures ∙ (bytes_eq-Decides _ _).1 (c.as_str.ensures ∙ same)))) ∙ c.loop-held.invariant
