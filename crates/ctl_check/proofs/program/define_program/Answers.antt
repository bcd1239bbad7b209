use Rattle.std.proofs.Common.{subst, sym}
use Rattle.ctl_scope.specs.Changes.{library_scope}
use Rattle.ctl_check_function.specs.Laws.{Resting}
use Rattle.ctl_check.proofs.Resting.{program_defined}
use Rattle.ctl_check.proofs.program.define_program.Goals as goal

pub define_units-requires-clause-resting : goal.define_units-requires-clause-resting
define_units-requires-clause-resting c =
    subst (λ s. Resting s c.args.definitions.now) (sym c.in_ok-scope.ensures) (subst (λ d. Resting library_scope d) (sym c.requires) (c.spaces_rest.ensures.begins c.args.units.now))

pub returns : goal.returns
returns c = program_defined c.define_units.result c.define_units.new.scope c.define_units.new.definitions c.args.units.now c.as_slice.result.now c.in_ok-scope.scope c.args.definitions.now c.as_slice.ensures c.in_ok-scope.ensures c.requires c.define_units.ensures
