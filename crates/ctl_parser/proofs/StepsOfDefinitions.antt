-- The first step of the machine at a definition, by the token that stands there.
use Rattle.std.proofs.Common.{◌≡◌, ℕ, ◌+◌, true, List, ◌∷◌, Option, Some, ap, refl}
use Rattle.ctl_tree.specs.declared.keyword.Keyword.TheVariants.{Namespace, Struct, Const}
use Rattle.ctl_tree.specs.declared.sign.Sign.TheVariants.{OpenRound, OpenCurly, CloseCurly, Semicolon, Assign}
use Rattle.ctl_tree.specs.Lexemes.{Lexeme, kind_at, SeesWord, Within}
use Rattle.grammar_machine.specs.Front.{begins_result}
use Rattle.grammar_machine.specs.Machine.{Symbol, TheSign, TheName, Shape, ArraySizes, Initialiser, Block, Parameters, Result, Field, MoreFields, MayEnd, Definition, Definitions, definition_move}
use Rattle.ctl_parser_expr.specs.declared.fault.Fault.{Fault}
use Rattle.ctl_parser_expr.specs.declared.fault.Fault.TheVariants.{Depth}
use Rattle.ctl_parser_expr.specs.Parses.{End, In, Comes}
use Rattle.ctl_parser.proofs.MovesOfDefinitions.{function_move}
use Rattle.ctl_parser.proofs.Ways.{read, expand_deeper, sink_expand}

module _ {T : List Lexeme} {L : Option ℕ} {n i : ℕ} {below : List Symbol} {end : End} where
  pub namespace_step : SeesWord T i Namespace → Comes T L (TheName ∷ TheSign OpenCurly ∷ Definitions (n + 1) ∷ TheSign CloseCurly ∷ below) (i + 1) end → Comes T L (Definition n ∷ below) i end
  namespace_step see c = read (ap (definition_move n) see) refl c

  pub struct_step : SeesWord T i Struct → Comes T L (TheName ∷ TheSign OpenCurly ∷ Field n ∷ MoreFields n ∷ MayEnd ∷ below) (i + 1) end → Comes T L (Definition n ∷ below) i end
  struct_step see c = read (ap (definition_move n) see) refl c

  pub const_step : SeesWord T i Const → Comes T L (Shape ∷ TheName ∷ ArraySizes n ∷ TheSign Assign ∷ Initialiser n n ∷ TheSign Semicolon ∷ below) (i + 1) end → Comes T L (Definition n ∷ below) i end
  const_step see c = read (ap (definition_move n) see) refl c

  pub function_step : begins_result (kind_at T i) ≡ true → Within L (n + 1) → Comes T L (Result n ∷ TheName ∷ TheSign OpenRound ∷ Parameters n ∷ Block (n + 1) ∷ below) i end → Comes T L (Definition n ∷ below) i end
  function_step begins within c = expand_deeper (function_move n (kind_at T i) begins) within c

pub deep_function : {T : List Lexeme} {limit n i : ℕ} {below : List Symbol} {fault : Fault} → (fault ≡ Depth i) × (n ≡ limit) → begins_result (kind_at T i) ≡ true → Comes T (Some limit) (Definition n ∷ below) i (In fault)
deep_function {T} {limit} {n} {i} deep begins = sink_expand deep (function_move n (kind_at T i) begins)
