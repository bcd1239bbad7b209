use Rattle.std.proofs.Common.{arith, ◌∙◌, ◌-◌, ◌≡◌, false, sym, ap, []}
use Rattle.level_rules.specs.Levels.{calls_in}
use Rattle.level_rules.specs.Rows.{tells}
use Rattle.level_rules.specs.Reached.{is_among}
use Rattle.level_table.proofs.Visits.{too_many, refused, stage_longer, visit_begins, pushed_long}
use Rattle.level_table.proofs.reaching.+visit.Goals as goal

pub returns-in-Err : goal.returns-in-Err
returns-in-Err n c = refused [] [] _ _ _ (stage_longer (calls_in c.args.known.now.functions (tells c.args.known.now.rows)) (c.args.depth - 1) c.loop-called.table c.loop-called.called-index _ c.called-item.result _ (omega arith) c.called-item.is c.loop-called.invariant.rest) c.in-Err.ensures

pub returns-then-len : goal.returns-then-len
returns-then-len n c = let h : is_among c.args.table.now c.args.instance.now ≡ false = ap (λ t. is_among t c.args.instance.now) (sym c.as_slice.ensures) ∙ sym c.is_among.ensures ∙ c.if-is_among.false in too_many (calls_in c.args.known.now.functions (tells c.args.known.now.rows)) c.args.depth c.args.table.now c.args.instance.now (omega arith) h (sym c.len.ensures ∙ c.if-len.true)

pub loop-called-init : goal.loop-called-init
loop-called-init n c =
    let h : is_among c.args.table.now c.args.instance.now ≡ false = ap (λ t. is_among t c.args.instance.now) (sym c.as_slice.ensures) ∙ sym c.is_among.ensures ∙ c.if-is_among.false in
    let f = c.if-len.false in let g = c.len.ensures in let r = c.requires in
    let w = pushed_long c.args.table.now c.push.new.self c.in_ok-own.own c.in_ok-push.ensures.ok in
    record {
      rest = visit_begins (calls_in c.args.known.now.functions (tells c.args.known.now.rows)) c.args.depth c.args.table.now c.push.new.self c.as_slice-called-items.result.now c.args.instance.now c.in_ok-own.own (omega arith) h c.in_ok-push.ensures.ok c.in_ok-own.ensures (c.as_slice-called-items.ensures ∙ c.in_ok-calls.ensures);
      within = omega arith;
    }
