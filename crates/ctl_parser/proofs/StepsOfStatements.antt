-- The first step of the machine at a statement, by the token that stands there.
use Rattle.std.proofs.Common.{◌≡◌, ◌⊎◌, ℕ, ◌+◌, true, List, ◌∷◌, Option, Some, ap, refl}
use Rattle.ctl_tree.specs.declared.keyword.Keyword.TheVariants.{Const, If, Else, While, For, Return, Print}
use Rattle.ctl_tree.specs.declared.sign.Sign.TheVariants.{OpenRound, CloseRound, OpenCurly, Semicolon, Assign, ColonColon}
use Rattle.ctl_tree.specs.declared.token.TokenKind.TheVariants.{Name}
use Rattle.ctl_tree.specs.Lexemes.{Lexeme, kind_at, SeesSign, SeesWord, LacksWord, Within}
use Rattle.grammar_machine.specs.Front.{begins_word_shape}
use Rattle.grammar_machine.specs.Machine.{Symbol, TheSign, TheName, QualifiedName, Shape, ArraySizes, Value, Initialiser, Statement, AfterName, Arm, Elses, ForStart, Assignment, ReturnValue, Item, MoreItems, Block, Expr, statement_move, elses_move, after_else_move}
use Rattle.ctl_parser_expr.specs.declared.fault.Fault.{Fault}
use Rattle.ctl_parser_expr.specs.declared.fault.Fault.TheVariants.{NotHere, Depth}
use Rattle.ctl_parser_expr.specs.Parses.{End, In, Comes}
use Rattle.ctl_parser.specs.PrivateParts.{IsOther}
use Rattle.ctl_parser.proofs.MovesOfStatements.{named_statement, shape_statement, no_keyword, no_if, open_arm}
use Rattle.ctl_parser.proofs.Ways.{two, read, read_deeper, expand, stop, sink_read}

module _ {T : List Lexeme} {L : Option ℕ} {n i : ℕ} {below : List Symbol} {end : End} where
  pub if_step : SeesWord T i If → Within L (n + 1) → Comes T L (Arm n ∷ Elses n ∷ below) (i + 1) end → Comes T L (Statement n ∷ below) i end
  if_step see within c = read_deeper (ap (statement_move n) see) within refl c

  pub while_step : SeesWord T i While → Within L (n + 1) → Comes T L (Arm n ∷ below) (i + 1) end → Comes T L (Statement n ∷ below) i end
  while_step see within c = read_deeper (ap (statement_move n) see) within refl c

  pub for_step : SeesWord T i For → Within L (n + 1)
      → Comes T L (TheSign OpenRound ∷ ForStart n ∷ Expr (n + 1) ∷ TheSign Semicolon ∷ Assignment n (n + 1) ∷ TheSign CloseRound ∷ Statement (n + 1) ∷ below) (i + 1) end → Comes T L (Statement n ∷ below) i end
  for_step see within c = read_deeper (ap (statement_move n) see) within refl c

  pub arm_step : SeesSign T i OpenRound → Comes T L (Expr (n + 1) ∷ TheSign CloseRound ∷ Statement (n + 1) ∷ below) (i + 1) end → Comes T L (Arm n ∷ below) i end
  arm_step see c = read (open_arm n (kind_at T i) see) refl c

  pub else_step : SeesWord T i Else → LacksWord T (i + 1) If → Comes T L (Statement (n + 1) ∷ below) (i + 1) end → Comes T L (Elses n ∷ below) i end
  else_step see lacks c = read (ap (elses_move n) see) refl (expand (no_if n (kind_at T (i + 1)) lacks) c)

  pub else_if_step : SeesWord T i Else → SeesWord T (i + 1) If → Comes T L (Arm n ∷ Elses n ∷ below) (i + 2) end → Comes T L (Elses n ∷ below) i end
  else_if_step see see' c = read (ap (elses_move n) see) refl (read (ap (after_else_move n) see') (two i) c)

  pub return_step : SeesWord T i Return → Comes T L (ReturnValue n ∷ below) (i + 1) end → Comes T L (Statement n ∷ below) i end
  return_step see c = read (ap (statement_move n) see) refl c

  pub print_step : SeesWord T i Print → Comes T L (TheSign OpenRound ∷ Item n ∷ MoreItems n ∷ below) (i + 1) end → Comes T L (Statement n ∷ below) i end
  print_step see c = read (ap (statement_move n) see) refl c

  pub const_step : SeesWord T i Const → Comes T L (Shape ∷ TheName ∷ ArraySizes n ∷ TheSign Assign ∷ Initialiser n n ∷ TheSign Semicolon ∷ below) (i + 1) end → Comes T L (Statement n ∷ below) i end
  const_step see c = read (ap (statement_move n) see) refl c

  pub block_step : SeesSign T i OpenCurly → Comes T L (Block n ∷ below) i end → Comes T L (Statement n ∷ below) i end
  block_step see c = expand (ap (statement_move n) see) c

  pub empty_step : SeesSign T i Semicolon → Comes T L below (i + 1) end → Comes T L (Statement n ∷ below) i end
  empty_step see c = read (ap (statement_move n) see) refl c

  pub name_step : (kind_at T i ≡ Some Name) ⊎ SeesSign T i ColonColon → Comes T L (QualifiedName ∷ AfterName n ∷ below) i end → Comes T L (Statement n ∷ below) i end
  name_step see c = expand (named_statement n (kind_at T i) see) c

  pub shape_step : begins_word_shape (kind_at T i) ≡ true → Comes T L (Shape ∷ TheName ∷ ArraySizes n ∷ Value n n ∷ TheSign Semicolon ∷ below) i end → Comes T L (Statement n ∷ below) i end
  shape_step begins c = expand (shape_statement n (kind_at T i) begins) c

-- behind a keyword
pub arm_step_two : {T : List Lexeme} {L : Option ℕ} {n : ℕ} (i : ℕ) {below : List Symbol} {end : End} → SeesSign T (i + 1) OpenRound
    → Comes T L (Expr (n + 1) ∷ TheSign CloseRound ∷ Statement (n + 1) ∷ below) (i + 2) end → Comes T L (Arm n ∷ below) (i + 1) end
arm_step_two {T} {n = n} i see c = read (open_arm n (kind_at T (i + 1)) see) (two i) c

-- no statement begins there
pub no_step : {T : List Lexeme} {L : Option ℕ} {n i : ℕ} {below : List Symbol} → IsOther (kind_at T i) → LacksWord T i If → LacksWord T i While → LacksWord T i For → LacksWord T i Return → LacksWord T i Print → LacksWord T i Const
    → Comes T L (Statement n ∷ below) i (In (NotHere i))
no_step {T} {L} {n} {i} other a b c d e f = stop (no_keyword n (kind_at T i) other a b c d e f)

-- too deep
module _ {T : List Lexeme} {limit n i : ℕ} {below : List Symbol} {fault : Fault} where
  pub deep_if : (fault ≡ Depth i) × (n ≡ limit) → SeesWord T i If → Comes T (Some limit) (Statement n ∷ below) i (In fault)
  deep_if deep see = sink_read deep (ap (statement_move n) see)

  pub deep_while : (fault ≡ Depth i) × (n ≡ limit) → SeesWord T i While → Comes T (Some limit) (Statement n ∷ below) i (In fault)
  deep_while deep see = sink_read deep (ap (statement_move n) see)

  pub deep_for : (fault ≡ Depth i) × (n ≡ limit) → SeesWord T i For → Comes T (Some limit) (Statement n ∷ below) i (In fault)
  deep_for deep see = sink_read deep (ap (statement_move n) see)
