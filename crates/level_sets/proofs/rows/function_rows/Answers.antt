use Rattle.std.proofs.Common.{◌+◌, arith, refl, sym, subst}
use Rattle.level_rules.specs.Rows.{tells}
use Rattle.level_sets.proofs.Passing.{HasPart, part_push, part_done}
use Rattle.level_sets.proofs.rows.function_rows.Goals as goal

pub each-preserved : goal.each-preserved
each-preserved c = record {
  part = subst (HasPart (tells c.args.rows.now) c.args.function.now (c.each.parameter + 1)) (sym c.in_ok-push-2.ensures.ok) (part_push (tells c.args.rows.now) c.args.function.now c.each.parameter c.each.own c.in_ok-parameter_row.field-0 c.each.invariant.part (c.in_ok-parameter_row.ensures c.each.parameter refl));
  within = omega arith;
}

pub returns : goal.returns
returns c = let w = c.each.invariant.within in part_done (tells c.args.rows.now) c.args.function.now c.each.parameter c.each.own (omega arith) c.each.invariant.part
