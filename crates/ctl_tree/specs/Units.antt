-- Modules with what they were read from, in load order.
use Rattle.std.specs.Prelude.{ℕ, List, Option, Some, None, slice_get, refl}
use Rattle.std.specs.Coded.{Coded, code_by, coded×, coded_ℕ, coded_list}
use Rattle.ctl_base.specs.declared.kind.Node.{Node}
use Rattle.ctl_tree.specs.declared.token.Token.{Token}
use Rattle.ctl_tree.specs.declared.definition.Module.{Module}
use Rattle.ctl_tree.specs.Lines.{token_line}
use Rattle.ctl_tree.specs.contracts.token.Token as token
use Rattle.ctl_tree.specs.contracts.definition.Module as form

-- a module with the name of its file and its tokens
pub record SourceUnit : Type 0 where
  pub file : List ℕ
  pub tokens : List Token
  pub «module» : Module

-- a unit is stored as its parts
abbrev pub unit_code : Coded SourceUnit
unit_code =
    code_by (List ℕ × (List Token × Module)) (coded× (coded_list coded_ℕ) (coded× (coded_list token.the_row.coded) form.the_row.coded))
    (λ unit. (unit.file, (unit.tokens, unit.«module»))) (λ parts. record { file = parts.0; tokens = parts.1.0; «module» = parts.1.1 }) (λ unit. refl)

-- the line of a token of a unit, and 0 where there is none
abbrev pub line_in : ℕ → Option SourceUnit → ℕ
line_in token None = 0
line_in token (Some unit) = token_line 0 (slice_get unit.tokens token)

-- the line of a node's token, and 0 where there is none
abbrev pub line_of_node : List SourceUnit → Node → ℕ
line_of_node units node = line_in node.token (slice_get units node.«module»)
