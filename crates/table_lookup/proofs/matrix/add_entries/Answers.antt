-- Goals of `matrix::add_entries`.
use Rattle.std.proofs.Common.{◌≡◌, ℕ, ℤ, List, [], ◌∷◌, ◌++◌, get_or, take, ap, sym, add-one, ◌∙◌, arith}
use Rattle.std.proofs.lemmas.List.{take_more_set}
use Rattle.fix_num.specs.Fixed.{fix_add}
use Rattle.table_lookup.specs.Matrix.{sums}
use Rattle.table_lookup.proofs.Minors.{sums_more}
use Rattle.table_lookup.proofs.matrix.add_entries.Goals as goal

pub entries-preserved : goal.entries-preserved
entries-preserved c =
    let a : List ℤ = c.args.a.now in
    let b : List ℤ = c.args.b.now in
    let i : ℕ = c.entries.i in
    let x : ℤ = c.index-a-i.result in
    let y : ℤ = c.index-b-i.result in
    let r : ℤ = c.add.result in
    let e : r ≡ fix_add (get_or a i x) (get_or b i y) = cc (c.add.ensures, c.index-a-i.is, c.index-b-i.is) in
    take_more_set c.entries.out i r (omega arith)
    ∙ ap (λ (xs : List ℤ). xs ++ r ∷ []) c.entries.invariant
    ∙ ap (λ (v : ℤ). sums (take i a) (take i b) ++ v ∷ []) e
    ∙ sym (rw add-one (sums_more a b i x y (omega arith) (omega arith)))
