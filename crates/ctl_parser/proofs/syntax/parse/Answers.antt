use Rattle.std.proofs.Common.{arith, Some, subst}
use Rattle.fix_num.specs.declared.TheConstants.{FRACTION}
use Rattle.ctl_base.specs.declared.limits.TheConstants.{NESTING}
use Rattle.grammar_machine.specs.Machine.{start}
use Rattle.ctl_parser_expr.specs.Parses.{Comes, In}
use Rattle.ctl_parser.proofs.Refusals.{fault_told, none_told, is_placed}
use Rattle.ctl_parser.proofs.Standing.{stand_few, stand_inside}
use Rattle.ctl_parser.proofs.syntax.parse.Goals as goal

pub new-lexemes-requires-clause-few : goal.new-lexemes-requires-clause-few
new-lexemes-requires-clause-few c = omega (arith, stand_few FRACTION c.args.source.now c.args.tokens.now c.requires.stands, c.requires.short)

pub new-lexemes-requires-clause-inside : goal.new-lexemes-requires-clause-inside
new-lexemes-requires-clause-inside c = stand_inside FRACTION c.args.source.now c.args.tokens.now c.requires.stands

pub told-requires-clause-placed : goal.told-requires-clause-placed
told-requires-clause-placed c =
    let comes = subst (λ T. Comes T (Some NESTING) start 0 (In c.in-Err.fault)) c.new-lexemes.ensures c.in-Err.ensures.fails in
    let few = stand_few FRACTION c.args.source.now c.args.tokens.now c.requires.stands in
    is_placed c.args.source.now c.args.tokens.now NESTING c.stops_are_faults.ensures c.sinks_are_faults.ensures _ _ (omega (arith, few, c.requires.short)) comes

pub returns-in-Err-clause-fault : goal.returns-in-Err-clause-fault
returns-in-Err-clause-fault c =
    let comes = subst (λ T. Comes T (Some NESTING) start 0 (In c.in-Err.fault)) c.new-lexemes.ensures c.in-Err.ensures.fails in
    fault_told c.args.source.now c.args.tokens.now NESTING c.stops_are_faults.ensures c.sinks_are_faults.ensures _ _ comes c.told.ensures

pub returns-in-Err-clause-none : goal.returns-in-Err-clause-none
returns-in-Err-clause-none c =
    let comes = subst (λ T. Comes T (Some NESTING) start 0 (In c.in-Err.fault)) c.new-lexemes.ensures c.in-Err.ensures.fails in
    none_told c.args.source.now c.args.tokens.now NESTING c.refusals_spell_none.ensures _ _ comes c.told.ensures
