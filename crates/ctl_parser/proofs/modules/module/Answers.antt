use Rattle.std.proofs.Common.{arith, ◌≡◌, length, Some, subst}
use Rattle.ctl_base.specs.declared.limits.TheConstants.{NESTING}
use Rattle.ctl_tree.specs.Modules.{AreDefinitions, module_of}
use Rattle.ctl_parser.proofs.MovesOfDefinitions.{left_over}
use Rattle.ctl_parser.proofs.Ways.{on, stop, given_on}
use Rattle.ctl_parser.proofs.modules.module.Goals as goal

pub returns-in_err-begin-clause-fails : goal.returns-in_err-begin-clause-fails
returns-in_err-begin-clause-fails c = given_on _ _ c.from_residual.ensures.1 (c.in_err-begin.ensures.follows _)

pub returns-in_err-imports-clause-fails : goal.returns-in_err-imports-clause-fails
returns-in_err-imports-clause-fails c = given_on _ _ c.from_residual-in_err-imports.ensures.1 (on (c.in_ok-begin.ensures.follows _) (c.in_err-imports.ensures.follows _))

pub returns-in_err-definitions-clause-fails : goal.returns-in_err-definitions-clause-fails
returns-in_err-definitions-clause-fails c =
    given_on _ _ c.from_residual-in_err-definitions.ensures.1 (on (c.in_ok-begin.ensures.follows _) (on (c.in_ok-imports.ensures.follows _) (c.in_err-definitions.ensures.follows _)))

pub returns-then-end-len-clause-fails : goal.returns-then-end-len-clause-fails
returns-then-end-len-clause-fails c =
    on (c.in_ok-begin.ensures.follows _) (on (c.in_ok-imports.ensures.follows _) (on (c.in_ok-definitions.ensures.follows _)
    (stop (left_over c.args.lexemes.now c.in_ok-definitions.end (omega (arith, c.in_ok-definitions.ensures.reads.1.1, c.len.ensures.exact, c.if-end-len.true))))))

pub returns-clause-spells : goal.returns-clause-spells
returns-clause-spells c =
    let last : c.in_ok-definitions.end ≡ length c.args.lexemes.now = omega (arith, c.len.ensures.exact, c.if-end-len.false) in
    module_of _ _ c.in_ok-begin.ensures.spells c.in_ok-imports.ensures.reads.0
    (subst (λ end. AreDefinitions c.args.lexemes.now (Some NESTING) 0 c.in_ok-imports.next c.in_ok-definitions.definitions end) last c.in_ok-definitions.ensures.reads.0)
