-- Goals of `names::first_named`.
use Rattle.std.proofs.Common.{◌≡◌, ℕ, get_or, sym, ◌∙◌, arith}
use Rattle.std.proofs.lemmas.Bool.{false≢true}
use Rattle.std.proofs.lemmas.Bool.Decides.{Decides-eqb}
use Rattle.std.proofs.lemmas.Slice.Eq.{slice_eq-Decides}
use borrow.Author.Count.{below_more}
use Rattle.ctl_stdlib.specs.declared.row.LibraryId.TheVariants.{Exp}
use Rattle.ctl_stdlib.specs.Rows.{row}
use Rattle.ctl_stdlib.proofs.names.first_named.Goals as goal

pub each-preserved : goal.each-preserved
each-preserved c =
    let is : c.name_of.result.now ≡ (row (get_or c.args.functions.now c.each.i Exp)).name = c.name_of.ensures in
    below_more (λ (k : ℕ). (row (get_or c.args.functions.now k Exp)).name ≡ c.args.name.now → ⊥) c.each.i c.each.invariant
    (λ e. false≢true (sym c.if-eq.false ∙ (slice_eq-Decides Decides-eqb _ _ _ c.eq.ensures).1 (is ∙ e)))

pub returns : goal.returns
returns c = λ k l. c.each.invariant k (omega arith)
