-- A scope stays one while a function is read.
use Rattle.std.proofs.Common.{◌≡◌, ℕ, List, [], ◌∷◌, length, true, refl}
use Rattle.ctl_types.specs.Typing.{Variable}
use Rattle.ctl_scope.specs.declared.block.Block.{Block}
use Rattle.ctl_scope.specs.Scope.{ScopeForm, IsScope, blocks_stand}
use Rattle.ctl_scope.specs.Changes.{left_from}
use Rattle.ctl_scope.specs.Laws.{StaysScope}
use Rattle.ctl_scope.proofs.Standing.{declared_stand, entered_stand, left_stand}

left_scope : (s : ScopeForm) → IsScope s → (blocks : List Block) → blocks_stand s.variables (length s.variables) blocks ≡ true → IsScope (left_from blocks s)
left_scope s is [] h = is
left_scope s is (b ∷ []) h = is
left_scope s is (b ∷ around ∷ blocks) h = record { definitions = is.definitions; structs = is.structs; constants = is.constants; blocks = left_stand s.variables b (around ∷ blocks) h }

pub scope_stays : (s : ScopeForm) → IsScope s → StaysScope s
scope_stays s is = record {
  enter = record { definitions = is.definitions; structs = is.structs; constants = is.constants; blocks = entered_stand s.variables s.blocks is.blocks };
  leave = left_scope s is s.blocks is.blocks;
  variable = λ name v. record { definitions = is.definitions; structs = is.structs; constants = is.constants; blocks = declared_stand s.variables v name s.blocks is.blocks };
  parameter = λ name v n. record { definitions = is.definitions; structs = is.structs; constants = is.constants; blocks = declared_stand s.variables v name s.blocks is.blocks };
  head = λ name. record { definitions = is.definitions; structs = is.structs; constants = is.constants; blocks = refl };
  default = record { definitions = is.definitions; structs = is.structs; constants = is.constants; blocks = is.blocks };
  body = λ name. record { definitions = is.definitions; structs = is.structs; constants = is.constants; blocks = is.blocks };
  ended = record { definitions = is.definitions; structs = is.structs; constants = is.constants; blocks = refl };
}
