use Rattle.std.proofs.Common.{◌≡◌, ◌+◌, map, drop}
use Rattle.ctl_tree.specs.OwnTokens.{all_tokens, definition_tokens}
use Rattle.ctl_check_function.specs.Defining.{all_defined, defined}
use Rattle.ctl_check.specs.Keeps.{Rests, TokensOf}
use Rattle.ctl_check.proofs.Sizes.{total, definition_size, space_size}
use Rattle.ctl_check.proofs.defining.+define.Given as goal

abbrev pub invariant-define_all-loop-part : goal.invariant-define_all-loop-part
invariant-define_all-loop-part l =
    Rests l.fn.scope l.fn.definitions l.scope l.definitions × (TokensOf l.scope l.definitions (all_tokens definition_tokens (drop l.part-index l.parts))
    × (all_defined (map defined (drop l.part-index l.parts)) (record { made = l.definitions; scope = l.scope }) ≡ all_defined (map defined l.parts) (record { made = l.fn.definitions; scope = l.fn.scope })))

abbrev pub decreases-define : goal.decreases-define
decreases-define l = definition_size l.definition.now

abbrev pub decreases-define_space : goal.decreases-define_space
decreases-define_space l = space_size l.space.now

abbrev pub decreases-define_all : goal.decreases-define_all
decreases-define_all l = total (map definition_size l.parts.now) + 1
