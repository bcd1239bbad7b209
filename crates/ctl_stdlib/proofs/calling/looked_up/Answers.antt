-- Goals of `calling::looked_up`.
use Rattle.std.proofs.Common.{◌≡◌, ℤ, pos, ◌+◌, ◌*◌, ◌<◌, [], ◌∷◌, length, sum_by, ap, sym, ◌∙◌, arith}
use Rattle.std.proofs.lemmas.List.{get_or_read}
use Rattle.fix_num.specs.declared.TheConstants.{FRACTION}
use Rattle.fix_num.specs.Whole.{truth}
use Rattle.ctl_stdlib.specs.declared.row.LibraryId.{LibraryId}
use Rattle.ctl_stdlib.specs.declared.row.LibraryId.TheVariants.{Lookup1D, LookupCubic1D, Interpolate1D, InterpolateCubic1D, Lookup3DF3, Lookup3DF, RgbToXyz, XyzToRgb, Assert}
use Rattle.ctl_stdlib.specs.Rows.{row}
use Rattle.ctl_stdlib.specs.Shapes.{Fits, elements, input_words, filled_words}
use Rattle.ctl_stdlib.proofs.Arms.{nothing}
use Rattle.ctl_stdlib.proofs.Filled.{some_words, is_assert}
use Rattle.ctl_stdlib.proofs.Looks.{fits_at, some_spread, some_pairs, Lattice, lattice}
use Rattle.ctl_stdlib.proofs.calling.looked_up.Goals as goal

pub line-requires : goal.line-requires
line-requires c =
    let f : Fits (row Lookup1D) c.args.sizes.now c.args.table.now c.args.args.now _ = fits_at c.args.id Lookup1D c.args.sizes.now c.args.table.now c.args.args.now _ c.requires.fits c.in-Lookup1D.is in
    record { some = some_spread c.args.sizes.now _ f.counted f.some f.whole; few = f.few; given = f.given }

pub one-requires : goal.one-requires
one-requires c = c.requires.fits.free ∙ ap (λ (i : LibraryId). filled_words (row i)) c.in-Lookup1D.is

pub returns-in-Lookup1D : goal.returns-in-Lookup1D
returns-in-Lookup1D c = record { value = c.one.ensures.filled ∙ ap (λ (y : ℤ). y ∷ []) c.line.ensures ∙ ap (λ (i : LibraryId). (row i).value FRACTION c.args.sizes.now c.args.table.now c.args.args.now) (sym c.in-Lookup1D.is); answer = c.one.ensures.done ∙ ap (λ (i : LibraryId). (row i).answer c.args.args.now) (sym c.in-Lookup1D.is) }

pub curve-requires : goal.curve-requires
curve-requires c =
    let f : Fits (row LookupCubic1D) c.args.sizes.now c.args.table.now c.args.args.now _ = fits_at c.args.id LookupCubic1D c.args.sizes.now c.args.table.now c.args.args.now _ c.requires.fits c.in-LookupCubic1D.is in
    record { some = some_spread c.args.sizes.now _ f.counted f.some f.whole; few = f.few; given = f.given }

pub one-requires-in-LookupCubic1D : goal.one-requires-in-LookupCubic1D
one-requires-in-LookupCubic1D c = c.requires.fits.free ∙ ap (λ (i : LibraryId). filled_words (row i)) c.in-LookupCubic1D.is

pub returns-in-LookupCubic1D : goal.returns-in-LookupCubic1D
returns-in-LookupCubic1D c = record { value = c.one-in-LookupCubic1D.ensures.filled ∙ ap (λ (y : ℤ). y ∷ []) c.curve.ensures ∙ ap (λ (i : LibraryId). (row i).value FRACTION c.args.sizes.now c.args.table.now c.args.args.now) (sym c.in-LookupCubic1D.is); answer = c.one-in-LookupCubic1D.ensures.done ∙ ap (λ (i : LibraryId). (row i).answer c.args.args.now) (sym c.in-LookupCubic1D.is) }

pub pair_line-requires : goal.pair_line-requires
pair_line-requires c =
    let f : Fits (row Interpolate1D) c.args.sizes.now c.args.table.now c.args.args.now _ = fits_at c.args.id Interpolate1D c.args.sizes.now c.args.table.now c.args.args.now _ c.requires.fits c.in-Interpolate1D.is in
    record { some = (some_pairs c.args.sizes.now _ f.counted f.some f.whole).0; few = f.few; even = (some_pairs c.args.sizes.now _ f.counted f.some f.whole).1; given = f.given }

pub one-requires-in-Interpolate1D : goal.one-requires-in-Interpolate1D
one-requires-in-Interpolate1D c = c.requires.fits.free ∙ ap (λ (i : LibraryId). filled_words (row i)) c.in-Interpolate1D.is

pub returns-in-Interpolate1D : goal.returns-in-Interpolate1D
returns-in-Interpolate1D c = record { value = c.one-in-Interpolate1D.ensures.filled ∙ ap (λ (y : ℤ). y ∷ []) c.pair_line.ensures ∙ ap (λ (i : LibraryId). (row i).value FRACTION c.args.sizes.now c.args.table.now c.args.args.now) (sym c.in-Interpolate1D.is); answer = c.one-in-Interpolate1D.ensures.done ∙ ap (λ (i : LibraryId). (row i).answer c.args.args.now) (sym c.in-Interpolate1D.is) }

pub pair_curve-requires : goal.pair_curve-requires
pair_curve-requires c =
    let f : Fits (row InterpolateCubic1D) c.args.sizes.now c.args.table.now c.args.args.now _ = fits_at c.args.id InterpolateCubic1D c.args.sizes.now c.args.table.now c.args.args.now _ c.requires.fits c.in-InterpolateCubic1D.is in
    record { some = (some_pairs c.args.sizes.now _ f.counted f.some f.whole).0; few = f.few; even = (some_pairs c.args.sizes.now _ f.counted f.some f.whole).1; given = f.given }

pub one-requires-in-InterpolateCubic1D : goal.one-requires-in-InterpolateCubic1D
one-requires-in-InterpolateCubic1D c = c.requires.fits.free ∙ ap (λ (i : LibraryId). filled_words (row i)) c.in-InterpolateCubic1D.is

pub returns-in-InterpolateCubic1D : goal.returns-in-InterpolateCubic1D
returns-in-InterpolateCubic1D c = record { value = c.one-in-InterpolateCubic1D.ensures.filled ∙ ap (λ (y : ℤ). y ∷ []) c.pair_curve.ensures ∙ ap (λ (i : LibraryId). (row i).value FRACTION c.args.sizes.now c.args.table.now c.args.args.now) (sym c.in-InterpolateCubic1D.is); answer = c.one-in-InterpolateCubic1D.ensures.done ∙ ap (λ (i : LibraryId). (row i).answer c.args.args.now) (sym c.in-InterpolateCubic1D.is) }

pub lattice-requires : goal.lattice-requires
lattice-requires c =
    let f : Fits (row Lookup3DF3) c.args.sizes.now c.args.table.now c.args.args.now _ = fits_at c.args.id Lookup3DF3 c.args.sizes.now c.args.table.now c.args.args.now _ c.requires.fits c.in-Lookup3DF3.is in
    let l : Lattice c.args.sizes.now c.args.table.now = lattice c.args.sizes.now c.args.table.now f.counted f.some f.most (let w : length c.args.table.now ≡ 0 + elements c.args.sizes.now * 3 + 0 + 0 + 0 = f.whole in omega arith) in
    record { counted = f.counted; first = l.first; middle = l.middle; last = l.last; whole = l.whole; few = f.few; given = f.given; room = f.free }

pub returns-in-Lookup3DF3 : goal.returns-in-Lookup3DF3
returns-in-Lookup3DF3 c = record { value = c.lattice.ensures.filled ∙ ap (λ (i : LibraryId). (row i).value FRACTION c.args.sizes.now c.args.table.now c.args.args.now) (sym c.in-Lookup3DF3.is); answer = c.lattice.ensures.done ∙ ap (λ (i : LibraryId). (row i).answer c.args.args.now) (sym c.in-Lookup3DF3.is) }

pub lattice-requires-in-Lookup3DF : goal.lattice-requires-in-Lookup3DF
lattice-requires-in-Lookup3DF c =
    let f : Fits (row Lookup3DF) c.args.sizes.now c.args.table.now c.args.args.now _ = fits_at c.args.id Lookup3DF c.args.sizes.now c.args.table.now c.args.args.now _ c.requires.fits c.in-Lookup3DF.is in
    let l : Lattice c.args.sizes.now c.args.table.now = lattice c.args.sizes.now c.args.table.now f.counted f.some f.most (let w : length c.args.table.now ≡ 0 + elements c.args.sizes.now * 3 + 0 + 0 + 0 + 0 + 0 + 0 + 0 + 0 = f.whole in omega arith) in
    record { counted = f.counted; first = l.first; middle = l.middle; last = l.last; whole = l.whole; few = f.few; given = f.given; room = f.free }

pub returns-in-Lookup3DF : goal.returns-in-Lookup3DF
returns-in-Lookup3DF c = record { value = c.lattice-in-Lookup3DF.ensures.filled ∙ ap (λ (i : LibraryId). (row i).value FRACTION c.args.sizes.now c.args.table.now c.args.args.now) (sym c.in-Lookup3DF.is); answer = c.lattice-in-Lookup3DF.ensures.done ∙ ap (λ (i : LibraryId). (row i).answer c.args.args.now) (sym c.in-Lookup3DF.is) }

pub to_xyz-requires : goal.to_xyz-requires
to_xyz-requires c =
    let f : Fits (row RgbToXyz) c.args.sizes.now c.args.table.now c.args.args.now _ = fits_at c.args.id RgbToXyz c.args.sizes.now c.args.table.now c.args.args.now _ c.requires.fits c.in-RgbToXyz.is in
    record { given = f.given; room = f.free }

pub returns-in-RgbToXyz : goal.returns-in-RgbToXyz
returns-in-RgbToXyz c = record { value = c.to_xyz.ensures.filled ∙ ap (λ (i : LibraryId). (row i).value FRACTION c.args.sizes.now c.args.table.now c.args.args.now) (sym c.in-RgbToXyz.is); answer = c.to_xyz.ensures.done ∙ ap (λ (i : LibraryId). (row i).answer c.args.args.now) (sym c.in-RgbToXyz.is) }

pub to_rgb-requires : goal.to_rgb-requires
to_rgb-requires c =
    let f : Fits (row XyzToRgb) c.args.sizes.now c.args.table.now c.args.args.now _ = fits_at c.args.id XyzToRgb c.args.sizes.now c.args.table.now c.args.args.now _ c.requires.fits c.in-XyzToRgb.is in
    record { given = f.given; room = f.free }

pub returns-in-XyzToRgb : goal.returns-in-XyzToRgb
returns-in-XyzToRgb c = record { value = c.to_rgb.ensures.filled ∙ ap (λ (i : LibraryId). (row i).value FRACTION c.args.sizes.now c.args.table.now c.args.args.now) (sym c.in-XyzToRgb.is); answer = c.to_rgb.ensures.done ∙ ap (λ (i : LibraryId). (row i).answer c.args.args.now) (sym c.in-XyzToRgb.is) }

pub bounds-args-0 : goal.bounds-args-0
bounds-args-0 c = let s : 0 < sum_by input_words (row c.args.id).params = some_words c.args.id in omega (arith, s, c.requires.fits.given)

pub returns-in_default : goal.returns-in_default
returns-in_default c =
    let e : c.args.id ≡ Assert = is_assert c.args.id c.requires.no_number c.requires.no_vector c.in_default.not-Lookup1D c.in_default.not-LookupCubic1D c.in_default.not-Interpolate1D c.in_default.not-InterpolateCubic1D c.in_default.not-Lookup3DF3 c.in_default.not-Lookup3DF c.in_default.not-RgbToXyz c.in_default.not-XyzToRgb in
    let f : Fits (row Assert) c.args.sizes.now c.args.table.now c.args.args.now _ = fits_at c.args.id Assert c.args.sizes.now c.args.table.now c.args.args.now _ c.requires.fits e in
    let s : 0 < sum_by input_words (row c.args.id).params = some_words c.args.id in
    record {
      value = nothing _ f.free ∙ ap (λ (i : LibraryId). (row i).value FRACTION c.args.sizes.now c.args.table.now c.args.args.now) (sym e);
      answer = c.truth.ensures ∙ ap truth (get_or_read c.args.args.now 0 _ (omega (arith, s, c.requires.fits.given)) c.index-args-0.is (pos 0)) ∙ ap (λ (i : LibraryId). (row i).answer c.args.args.now) (sym e);
    }
