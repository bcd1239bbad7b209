-- Goals of `tokens::lex`.
use Rattle.std.proofs.Common.{List, arith, sym, subst, refl}
use Rattle.fix_num.specs.declared.TheConstants.{FRACTION}
use Rattle.ctl_tree.specs.declared.token.Token.{Token}
use Rattle.ctl_tree.specs.Tokens.{Covers}
use Rattle.ctl_lexer.proofs.Cover.{at_start, piece_within, piece_put}
use Rattle.ctl_lexer.proofs.Faults.{no_list}
use Rattle.ctl_lexer.proofs.tokens.lex.Goals as goal

pub each-init : goal.each-init
each-init c =
    let P : List Token → Type 0 = λ ts. Covers FRACTION c.args.bytes.now ts 0 in
    record { within = omega arith; line = refl; covered = subst P (sym c.new-tokens.ensures) (at_start FRACTION c.args.bytes.now) }

pub returns-in-Err-clause-none : goal.returns-in-Err-clause-none
returns-in-Err-clause-none c =
    no_list FRACTION c.args.bytes.now c.each.at c.each.line c.each.tokens _ c.each.invariant.covered c.in-Err.ensures.fault

pub each-preserved : goal.each-preserved
each-preserved c =
    let piece = c.in-Ok.ensures.piece in
    let within = piece_within FRACTION c.args.bytes.now c.each.at c.in-Ok.piece c.each.invariant.within piece in
    record {
      within = omega (arith, c.parts-kind.ensures.len);
      line = c.line_after-line.ensures;
      covered = piece_put FRACTION c.args.bytes.now c.each.at c.each.line c.in-Ok.piece c.parts-kind.result.0 c.parts-kind.result.1 c.each.tokens c.put.new.tokens
          c.each-test.true c.each.invariant.line piece c.parts-kind.ensures.kind c.parts-kind.ensures.len c.each.invariant.covered c.in_ok-put.ensures;
    }
