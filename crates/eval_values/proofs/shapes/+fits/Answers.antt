use Rattle.std.proofs.Common.{arith, rules, sym, ◌∙◌, map, refl, ap, eq-eqb, nat_eq, length, ◌≡◌, false}
use Rattle.std.proofs.lemmas.Bool.Decides.{nat_tests}
use Rattle.ctl_types.specs.declared.program.Field.{Field}
use Rattle.ctl_types.specs.Values.{fits, each_fit}
use Rattle.eval_values.specs.Size.{value_size}
use Rattle.eval_values.proofs.Lists.{at_most, short, end}
use Rattle.eval_values.proofs.Alike.{fits_array, array_yes, array_no}
use Rattle.eval_values.proofs.shapes.+fits.Goals as goal

pub all_fit-fits-requires : goal.all_fit-fits-requires
all_fit-fits-requires t c = let q = at_most value_size c.args.parts.now c.loop-part.part-index c.part-item.result (omega arith) c.part-item.is in let d = c.decreases in search rules

pub all_fit_shape-fits_shape-requires : goal.all_fit_shape-fits_shape-requires
all_fit_shape-fits_shape-requires t c = let q = at_most value_size c.args.parts.now c.loop-part.part-index c.part-item.result (omega arith) c.part-item.is in let d = c.decreases in search rules

pub each_fits-fits_shape-requires : goal.each_fits-fits_shape-requires
each_fits-fits_shape-requires t c = let q = at_most value_size c.args.parts.now c.each.i c.index-parts-i.result (omega arith) c.index-parts-i.is in let d = c.decreases in search rules

pub each_fits-returns-then-i-fields : goal.each_fits-returns-then-i-fields
each_fits-returns-then-i-fields t c = sym (short (λ vs fs. each_fit (map (fits c.args.structs.now) vs) (map (λ (f : Field). f.shape) fs)) (λ x xs. refl) c.args.parts.now c.args.fields.now c.each.i (omega arith) (omega arith)) ∙ c.each.invariant.same

pub each_fits-returns : goal.each_fits-returns
each_fits-returns t c = end (λ vs fs. each_fit (map (fits c.args.structs.now) vs) (map (λ (f : Field). f.shape) fs)) refl (λ y ys. refl) c.args.parts.now c.args.fields.now c.each.i (omega arith) c.each.invariant.inside ∙ c.each.invariant.same

pub fits_shape-returns-then-same : goal.fits_shape-returns-then-same
fits_shape-returns-then-same t c =
    let b = fits_array c.args.structs.now c.args.value.now c.in-List.parts c.args.shape.now c.in-Array.elements c.in-Array.extent c.args.opens.now c.in-List.is c.in-Array.is in
    let r = rw (c.as_slice.ensures, c.left-rest.ensures, c.get.ensures) at c.all_fit_shape.ensures in
    array_yes _ _ _ _ (eq-eqb _ _ (sym c.len.ensures ∙ c.if-same.true ∙ c.own_size.ensures)) (sym r) b

pub fits_shape-returns-else-same : goal.fits_shape-returns-else-same
fits_shape-returns-else-same t c =
    let b = fits_array c.args.structs.now c.args.value.now c.in-List.parts c.args.shape.now c.in-Array.elements c.in-Array.extent c.args.opens.now c.in-List.is c.in-Array.is in
    let q = ap (λ n. nat_eq n c.own_size.result) c.len.ensures in
    let r = ap (λ n. nat_eq (length c.in-List.parts) n) c.own_size.ensures in
    let differs : nat_eq c.len.result c.own_size.result ≡ false = grind (arith, nat_tests) in
    q ∙ r ∙ array_no _ _ _ (sym (q ∙ r) ∙ differs) b
