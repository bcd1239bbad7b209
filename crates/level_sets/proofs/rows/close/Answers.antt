use Rattle.level_sets.proofs.Closing.{pass_falls}
use Rattle.level_sets.proofs.Passing.{kept_more, kept_done}
use Rattle.level_sets.proofs.rows.close.Goals as goal

pub each-smaller : goal.each-smaller
each-smaller c = pass_falls c.puts_grow.ensures c.args.rows.now c.args.body.now c.args.control c.each.row.items c.pass.new.row.items c.in_ok-pass.field-0 c.in_ok-pass.ensures c.if-branch.true

pub each-preserved : goal.each-preserved
each-preserved c = kept_more c.puts_grow.ensures c.args.rows.now c.args.body.now c.args.control c.args.row.now.items c.each.row.items c.pass.new.row.items c.in_ok-pass.field-0 c.each.invariant c.in_ok-pass.ensures

pub returns : goal.returns
returns c = kept_done c.puts_grow.ensures c.args.rows.now c.args.body.now c.args.control c.args.row.now.items c.each.row.items c.pass.new.row.items c.in_ok-pass.field-0 c.each.invariant c.in_ok-pass.ensures c.if-branch.false
