use Rattle.std.proofs.Common.{rules, ◌+◌, drop, arith}
use Rattle.ctl_tree.specs.OwnTokens.{all_tokens, definition_tokens}
use Rattle.ctl_check.proofs.Sizes.{size_of_space, at_most}
use Rattle.ctl_check.proofs.Tokens.{space_own, constant_own, function_own, item_own, rest_own, tokens_stay}
use Rattle.ctl_check.proofs.Resting.{rests_on, defined_on}
use Rattle.ctl_check.proofs.defining.+define.Goals as goal

pub define-define_constant-requires-clause-tokens : goal.define-define_constant-requires-clause-tokens
define-define_constant-requires-clause-tokens t c = constant_own c.args.scope.now c.args.definitions.now c.args.definition.now c.in-Constant.written c.in-Constant.is c.requires.tokens

pub define-define_function-requires-clause-tokens : goal.define-define_function-requires-clause-tokens
define-define_function-requires-clause-tokens t c = function_own c.args.scope.now c.args.definitions.now c.args.definition.now c.in-Function.written c.in-Function.is c.requires.tokens

pub define-define_space-requires : goal.define-define_space-requires
define-define_space-requires t c =
    let own = space_own c.args.scope.now c.args.definitions.now c.args.definition.now c.in-Namespace.space c.in-Namespace.is c.requires.tokens in
    let size = size_of_space c.args.definition.now c.in-Namespace.space c.in-Namespace.is in
    let d = c.decreases in
    search rules

pub define_all-define-requires : goal.define_all-define-requires
define_all-define-requires t c =
    let own = item_own c.loop-part.scope c.loop-part.definitions c.args.parts.now c.loop-part.part-index c.part-item.result (omega arith) c.part-item.is c.loop-part.invariant.1.0 in
    let size = at_most c.args.parts.now c.loop-part.part-index c.part-item.result (omega arith) c.part-item.is in
    let rest = c.loop-part.invariant.0.resting in
    let units = c.loop-part.invariant.0.units in
    let d = c.decreases in
    search rules

pub define_all-loop-part-preserved : goal.define_all-loop-part-preserved
define_all-loop-part-preserved t c =
    let rest = rest_own c.loop-part.scope c.loop-part.definitions c.args.parts.now c.loop-part.part-index c.part-item.result (omega arith) c.part-item.is c.loop-part.invariant.1.0 in (
      rests_on c.args.scope.now c.args.definitions.now c.loop-part.scope c.loop-part.definitions c.define.new.scope c.define.new.definitions c.loop-part.invariant.0 c.in_ok-define.ensures.rests,
      (
        tokens_stay c.loop-part.scope c.loop-part.definitions c.define.new.scope c.define.new.definitions (all_tokens definition_tokens (drop (c.loop-part.part-index + 1) c.args.parts.now)) c.in_ok-define.ensures.rests rest,
        defined_on c.args.parts.now c.loop-part.part-index c.part-item.result (record { made = c.loop-part.definitions; scope = c.loop-part.scope }) (record { made = c.define.new.definitions; scope = c.define.new.scope }) _ (omega arith) c.part-item.is
            c.in_ok-define.ensures.verdict c.loop-part.invariant.1.1,
      ),
    )
