-- Goals of `fix::Fix::div`.
use Rattle.std.proofs.Common.{arith}
use Rattle.std.proofs.lemmas.Int.{ints, to_z-of_z}
use Rattle.std.proofs.Math.IntN.{+ℤ_idl}
use Rattle.fix_num.proofs.fix.Fix.div.Goals as goal

pub returns-then-b-lt0 : goal.returns-then-b-lt0
returns-then-b-lt0 c = grind (arith, ints, to_z-of_z, +ℤ_idl, c.rnd-then-b-lt0.ensures, c.saturated-then-b-lt0.ensures)
