-- Goals of `calling::beyond_numbers`.
use Rattle.std.proofs.Common.{ℤ, List, length, sym, subst}
use Rattle.ctl_stdlib.specs.Rows.{row}
use Rattle.ctl_stdlib.specs.Shapes.{Fits}
use Rattle.ctl_stdlib.proofs.calling.beyond_numbers.Goals as goal

pub vector-requires : goal.vector-requires
vector-requires c = record { given = c.requires.fits.given; room = c.requires.fits.free }

pub returns-then-vector : goal.returns-then-vector
returns-then-vector c = record { value = (c.vector.ensures.done c.if-vector.true).value c.args.sizes.now c.args.table.now; answer = sym (c.vector.ensures.done c.if-vector.true).goes_on }

pub looked_up-requires : goal.looked_up-requires
looked_up-requires c =
    record {
      fits = subst (λ (x : List ℤ). Fits (row c.args.id) c.args.sizes.now c.args.table.now c.args.args.now (length x)) (sym (c.vector.ensures.none c.if-vector.false).1) c.requires.fits;
      no_number = c.requires.no_number;
      no_vector = (c.vector.ensures.none c.if-vector.false).0;
    }
