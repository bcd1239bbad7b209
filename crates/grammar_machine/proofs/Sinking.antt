-- Where a form that is nested too deeply can no longer be avoided, the tokens up to and with the one there begin some module.
use Rattle.std.proofs.Common.{◌≡◌, ℕ, ◌+◌, ◌<◌, ◌≤◌, ◌==◌, ◌||◌, ◌⊎◌, inl, inr, Bool, true, false, not, nat_lt, List, [], ◌∷◌, ◌++◌, length, refl, subst, Option, Some, None, zero-le, arith}
use Rattle.std.proofs.lemmas.Bool.{false≢true, and_parts, eqb-true}
use Rattle.ctl_tree.specs.declared.keyword.Keyword.TheVariants.{Const, Namespace, Struct}
use Rattle.ctl_tree.specs.declared.sign.Sign.TheVariants.{OpenRound, CloseRound, CloseSquare, CloseCurly}
use Rattle.ctl_tree.specs.declared.token.TokenKind.{TokenKind}
use Rattle.ctl_tree.specs.declared.token.TokenKind.TheVariants.{Word, Text, Sign as SignKind}
use Rattle.ctl_tree.specs.Lexemes.{Lexeme, kind_at, bytes_at, Within}
use Rattle.ctl_tree.specs.Modules.{ends}
use Rattle.ctl_tree.specs.Beginnings.{Begins}
use Rattle.grammar_machine.specs.Front.{begins_expr, begins_result, begins_statement}
use Rattle.grammar_machine.specs.Machine.{Symbol, Move, move, start, Expr, SinksAt, needs, first_move, arguments_move, array_size_move, statements_move, item_move, definition_move, begins_definition, definitions_move}
use Rattle.grammar_machine.specs.Machine.Symbol.{TheSign, TheName, Arguments, MoreArguments, ArraySize, Block, Statements, Statement, Item, Parameters, Result, Definition, Definitions}
use Rattle.grammar_machine.specs.Machine.Move.{Reads, Expands, Stops}
use Rattle.grammar_machine.proofs.Reach.{reaches_on}
use Rattle.grammar_machine.proofs.Dead.{unlimited}
use Rattle.grammar_machine.proofs.Order.{may_be_empty, may_open, all_may_be_empty, weight, weight_ahead}
use Rattle.grammar_machine.proofs.Runs.{sound_expands}
use Rattle.grammar_machine.proofs.Beginning.{run_begins}
use Rattle.grammar_machine.proofs.Progress.{Goes, goes_reads, goes_expands, goes_expr, goes_statement, goes_function, goes_definition}

-- a move that does not read makes no nesting unavoidable, or the machine reads the token after it
abbrev pub Pushes : List Lexeme → ℕ → List Symbol → Move → Type 0
Pushes T i below (Reads m symbols) = Unit {0}
Pushes T i below (Expands m symbols) = (m ≡ 0) ⊎ Goes T i (symbols ++ below)
Pushes T i below Stops = Unit {0}

pub pushes_first : (T : List Lexeme) (i : ℕ) (below : List Symbol) (b : Bool) (m : ℕ) (symbols : List Symbol) → (b ≡ true → Goes T i (symbols ++ below)) → Pushes T i below (first_move b m symbols)
pushes_first T i below true m symbols g = inr (g refl)
pushes_first T i below false m symbols g = tt

pub pushes_arguments : (T : List Lexeme) (i : ℕ) (below : List Symbol) (n : ℕ) (k : Option TokenKind) → kind_at T i ≡ k → Pushes T i below (arguments_move n k)
pushes_arguments T i below n (Some (SignKind CloseRound)) e = tt
pushes_arguments T i below n k e = pushes_first T i below (begins_expr k) (n + 1) (Expr (n + 1) ∷ MoreArguments n ∷ []) (λ b. goes_expr T i (n + 1) _ k e b)

pub pushes_array_size : (T : List Lexeme) (i : ℕ) (below : List Symbol) (n : ℕ) (k : Option TokenKind) → kind_at T i ≡ k → Pushes T i below (array_size_move n k)
pushes_array_size T i below n (Some (SignKind CloseSquare)) e = tt
pushes_array_size T i below n k e = pushes_first T i below (begins_expr k) (n + 1) (Expr (n + 1) ∷ TheSign CloseSquare ∷ []) (λ b. goes_expr T i (n + 1) _ k e b)

pub pushes_item : (T : List Lexeme) (i : ℕ) (below : List Symbol) (n : ℕ) (k : Option TokenKind) → kind_at T i ≡ k → Pushes T i below (item_move n k)
pushes_item T i below n (Some Text) e = tt
pushes_item T i below n k e = pushes_first T i below (begins_expr k) (n + 1) (Expr (n + 1) ∷ []) (λ b. goes_expr T i (n + 1) _ k e b)

pub pushes_statements : (T : List Lexeme) (i : ℕ) (below : List Symbol) (n : ℕ) (k : Option TokenKind) → kind_at T i ≡ k → Pushes T i below (statements_move n k)
pushes_statements T i below n (Some (SignKind CloseCurly)) e = tt
pushes_statements T i below n k e = pushes_first T i below (begins_statement k) (n + 1) (Statement (n + 1) ∷ Statements n ∷ []) (λ b. goes_statement T i (n + 1) _ k e b)

pub pushes_definition : (T : List Lexeme) (i : ℕ) (below : List Symbol) (n : ℕ) (k : Option TokenKind) → kind_at T i ≡ k → Pushes T i below (definition_move n k)
pushes_definition T i below n (Some (Word Namespace)) e = tt
pushes_definition T i below n (Some (Word Struct)) e = tt
pushes_definition T i below n (Some (Word Const)) e = tt
pushes_definition T i below n k e = pushes_first T i below (begins_result k) (n + 1) (Result n ∷ TheName ∷ TheSign OpenRound ∷ Parameters n ∷ Block (n + 1) ∷ [])
    (λ b. goes_function T i n below k e b)

pub pushes_definitions : (T : List Lexeme) (i : ℕ) (below : List Symbol) (n : ℕ) (b : Bool) → Pushes T i below (definitions_move n b (begins_definition (kind_at T i)))
pushes_definitions T i below n true = inl refl
pushes_definitions T i below n false = pushes_first T i below (begins_definition (kind_at T i)) n (Definition n ∷ Definitions n ∷ []) (λ b. goes_definition T i n _ (kind_at T i) refl b)

-- and so all moves of the symbols that can make a nesting unavoidable
pub pushes : (T : List Lexeme) (i : ℕ) (below : List Symbol) (x : Symbol) → may_open x ≡ true → Pushes T i below (move x (kind_at T i) (bytes_at T i))
pushes T i below (Arguments n) h = pushes_arguments T i below n (kind_at T i) refl
pushes T i below (ArraySize n) h = pushes_array_size T i below n (kind_at T i) refl
pushes T i below (Item n) h = pushes_item T i below n (kind_at T i) refl
pushes T i below (Statements n) h = pushes_statements T i below n (kind_at T i) refl
pushes T i below (Definition n) h = pushes_definition T i below n (kind_at T i) refl
pushes T i below (Definitions n) h = pushes_definitions T i below n (ends (kind_at T i))
pushes T i below _ h = absurd (false≢true h)

-- where an order is kept, a move makes no nesting unavoidable but at such a symbol
calm_or_open : (b : Bool) (m : ℕ) → (b || m == 0) ≡ true → (m ≡ 0) ⊎ (b ≡ true)
calm_or_open true m h = inr refl
calm_or_open false m h = inl (eqb-true m 0 h)

goes_after : (T : List Lexeme) (limit i : ℕ) (top : Symbol) (below : List Symbol) (m : ℕ) (symbols : List Symbol) → move top (kind_at T i) (bytes_at T i) ≡ Expands m symbols
    → (m ≤ limit → ⊥) → (m ≡ 0) ⊎ Goes T i (symbols ++ below) → Goes T i (top ∷ below)
goes_after T limit i top below m symbols e deep (inl z) = let le : m ≤ limit = omega arith in absurd (deep le)
goes_after T limit i top below m symbols e deep (inr g) = goes_expands T i top below m symbols e g

sink_expands : (T : List Lexeme) (limit i : ℕ) (top : Symbol) (below : List Symbol) (m : ℕ) (symbols : List Symbol) → move top (kind_at T i) (bytes_at T i) ≡ Expands m symbols
    → (m ≤ limit → ⊥) → (m ≡ 0) ⊎ (may_open top ≡ true) → Goes T i (top ∷ below)
sink_expands T limit i top below m symbols e deep (inl z) = goes_after T limit i top below m symbols e deep (inl z)
sink_expands T limit i top below m symbols e deep (inr h) = goes_after T limit i top below m symbols e deep (subst (λ v. Pushes T i below v) e (pushes T i below top h))

-- where a nesting is too deep, the machine reads the token without a limit
pub sink_goes : (T : List Lexeme) (limit i : ℕ) (top : Symbol) (below : List Symbol) (v : Move) → move top (kind_at T i) (bytes_at T i) ≡ v
    → (Within (Some limit) (needs v) → ⊥) → Goes T i (top ∷ below)
sink_goes T limit i top below (Reads m symbols) e deep = goes_reads T i top below m symbols e
sink_goes T limit i top below (Expands m symbols) e deep =
    let ordered = and_parts (nat_lt (weight_ahead symbols) (weight top)) _ (sound_expands T None i top symbols m e).2 in
    let calm = and_parts (may_be_empty top || not (all_may_be_empty symbols)) (may_open top || m == 0) ordered.1 in
    sink_expands T limit i top below m symbols e deep (calm_or_open (may_open top) m calm.1)
sink_goes T limit i top below Stops e deep = absurd (deep zero-le)

pub depth_begins : (T : List Lexeme) (limit k : ℕ) → SinksAt T (Some limit) start 0 k → k < length T × Begins T None (k + 1)
depth_begins T limit k s =
    let g : Goes T k (s.top ∷ s.below) = sink_goes T limit k s.top s.below _ refl s.sinks in
    let r : k + 1 ≤ length T × Begins T None (k + 1) = run_begins T None g.0 (k + 1) (reaches_on (unlimited s.reached) g.1) in
    let le : k + 1 ≤ length T = r.0 in
    (omega arith, r.1)
