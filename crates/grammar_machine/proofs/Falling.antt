-- The machine comes to its end, stops or sinks: it reads a token, or puts lighter symbols ahead.
use Rattle.std.proofs.Common.{◌≡◌, ℕ, zero, suc, ◌+◌, ◌<◌, ◌≤◌, ◌&&◌, ◌||◌, ◌⊎◌, inl, inr, Bool, true, false, not, cond, nat_lt, List, [], ◌∷◌, ◌++◌, length, Some, None, subst, refl, arith}
use Rattle.std.proofs.lemmas.Bool.{false≢true, and_parts, ltb-true, cases_lt}
use Rattle.ctl_tree.specs.Lexemes.{Lexeme, kind_at, bytes_at, Within}
use Rattle.grammar_machine.specs.Machine.{Symbol, Move, move, needs, start, Reaches, StopsAt, SinksAt}
use Rattle.grammar_machine.specs.Machine.Move.{Reads, Expands, Stops}
use Rattle.grammar_machine.specs.Machine.Reaches.{here, expands, reads}
use Rattle.grammar_machine.proofs.Order.{may_be_empty, all_may_be_empty, weight, weight_ahead}
use Rattle.grammar_machine.proofs.Reach.{reaches_on}
use Rattle.grammar_machine.proofs.Runs.{sound_expands, read_within}

-- weights

-- what stands ahead of others weighs at most what both weigh ahead
ahead_append : (xs ys : List Symbol) → weight_ahead (xs ++ ys) ≤ weight_ahead xs + weight_ahead ys
ahead_append [] ys = omega arith
ahead_append (x ∷ xs) ys = one (may_be_empty x) (ahead_append xs ys)
  where
    one : (b : Bool) → weight_ahead (xs ++ ys) ≤ weight_ahead xs + weight_ahead ys → weight x + cond b (weight_ahead (xs ++ ys)) 0 ≤ weight x + cond b (weight_ahead xs) 0 + weight_ahead ys
    one true h = omega arith
    one false h = omega arith

-- where they cannot all be empty, what stands below does not count
ahead_alone : (xs ys : List Symbol) → not (all_may_be_empty xs) ≡ true → weight_ahead (xs ++ ys) ≡ weight_ahead xs
ahead_alone [] ys h = absurd (false≢true h)
ahead_alone (x ∷ xs) ys h = one (may_be_empty x) h (λ h'. ahead_alone xs ys h')
  where
    one : (b : Bool) → not (b && all_may_be_empty xs) ≡ true → (not (all_may_be_empty xs) ≡ true → weight_ahead (xs ++ ys) ≡ weight_ahead xs)
        → weight x + cond b (weight_ahead (xs ++ ys)) 0 ≡ weight x + cond b (weight_ahead xs) 0
    one true h rest = let e : weight_ahead (xs ++ ys) ≡ weight_ahead xs = rest h in omega arith
    one false h rest = refl

lighter : (x : Symbol) (xs ys : List Symbol) (b : Bool) → weight_ahead xs < weight x → (b || not (all_may_be_empty xs)) ≡ true → weight_ahead (xs ++ ys) < weight x + cond b (weight_ahead ys) 0
lighter x xs ys true lt h = let le : weight_ahead (xs ++ ys) ≤ weight_ahead xs + weight_ahead ys = ahead_append xs ys in omega arith
lighter x xs ys false lt h = let e : weight_ahead (xs ++ ys) ≡ weight_ahead xs = ahead_alone xs ys h in omega arith

-- a move without a token makes the stack lighter ahead
falls : (T : List Lexeme) (i : ℕ) (top : Symbol) (below symbols : List Symbol) (m : ℕ) → move top (kind_at T i) (bytes_at T i) ≡ Expands m symbols
    → weight_ahead (symbols ++ below) < weight_ahead (top ∷ below)
falls T i top below symbols m e =
    let ordered = and_parts (nat_lt (weight_ahead symbols) (weight top)) _ (sound_expands T None i top symbols m e).2 in
    let parts = and_parts (may_be_empty top || not (all_may_be_empty symbols)) _ ordered.1 in
    lighter top symbols below (may_be_empty top) (ltb-true _ _ ordered.0) parts.0

-- runs

module _ (T : List Lexeme) (limit : ℕ) where
  -- what becomes of the machine
  pub data Outcome : Type 0 where
    ended : (k : ℕ) → Reaches T (Some limit) start 0 [] k → Outcome
    stopped : (place : ℕ) → StopsAt T (Some limit) start 0 place → Outcome
    sunk : (place : ℕ) → SinksAt T (Some limit) start 0 place → Outcome

  module _ (i : ℕ) (later : (stack : List Symbol) → i < length T → Reaches T (Some limit) start 0 stack (i + 1) → Outcome) where
    -- a nesting that a move makes unavoidable is too deep
    sinks_at : (top : Symbol) (below : List Symbol) (v : Move) → Reaches T (Some limit) start 0 (top ∷ below) i → move top (kind_at T i) (bytes_at T i) ≡ v → limit < needs v → Outcome
    sinks_at top below v r e lt =
        sunk i (record { top = top; below = below; reached = r; sinks = λ within. let le : needs v ≤ limit = subst (λ w. Within (Some limit) (needs w)) e within in omega arith })

    reads_on : (top : Symbol) (below symbols : List Symbol) (m : ℕ) → Reaches T (Some limit) start 0 (top ∷ below) i → move top (kind_at T i) (bytes_at T i) ≡ Reads m symbols
        → (limit < m) ⊎ (m ≤ limit) → Outcome
    reads_on top below symbols m r e (inl lt) = sinks_at top below (Reads m symbols) r e lt
    reads_on top below symbols m r e (inr le) = later (symbols ++ below) (read_within T i top symbols m e) (reaches_on r (reads top below symbols m refl e le (here refl refl)))

    module _ (weight_left : ℕ) (again : (stack : List Symbol) → weight_ahead stack < weight_left → Reaches T (Some limit) start 0 stack i → Outcome) where
      expands_on : (top : Symbol) (below symbols : List Symbol) (m : ℕ) → weight_ahead (top ∷ below) < suc weight_left → Reaches T (Some limit) start 0 (top ∷ below) i
          → move top (kind_at T i) (bytes_at T i) ≡ Expands m symbols → (limit < m) ⊎ (m ≤ limit) → Outcome
      expands_on top below symbols m less r e (inl lt) = sinks_at top below (Expands m symbols) r e lt
      expands_on top below symbols m less r e (inr le) =
          let lighter : weight_ahead (symbols ++ below) < weight_ahead (top ∷ below) = falls T i top below symbols m e in
          again (symbols ++ below) (omega (arith, lighter, less)) (reaches_on r (expands top below symbols m refl e le (here refl refl)))

      moves_on : (top : Symbol) (below : List Symbol) (v : Move) → weight_ahead (top ∷ below) < suc weight_left → Reaches T (Some limit) start 0 (top ∷ below) i
          → move top (kind_at T i) (bytes_at T i) ≡ v → Outcome
      moves_on top below (Reads m symbols) less r e = reads_on top below symbols m r e (cases_lt limit m)
      moves_on top below (Expands m symbols) less r e = expands_on top below symbols m less r e (cases_lt limit m)
      moves_on top below Stops less r e = stopped i (record { top = top; below = below; reached = r; stops = e })

    -- at one place
    at_place : (bound : ℕ) (stack : List Symbol) → weight_ahead stack < bound → Reaches T (Some limit) start 0 stack i → Outcome
    at_place zero stack less r = absurd (omega arith)
    at_place (suc bound) [] less r = ended i r
    at_place (suc bound) (top ∷ below) less r = moves_on bound (at_place bound) top below (move top (kind_at T i) (bytes_at T i)) less r refl

  -- from a place on
  from_place : (left i : ℕ) (stack : List Symbol) → length T ≤ i + left → Reaches T (Some limit) start 0 stack i → Outcome
  from_place zero i stack le r = at_place i (λ stack' lt r'. absurd (omega arith)) (suc (weight_ahead stack)) stack (omega arith) r
  from_place (suc left) i stack le r = at_place i (λ stack' lt r'. from_place left (i + 1) stack' (omega arith) r') (suc (weight_ahead stack)) stack (omega arith) r

  pub outcome : Outcome
  outcome = from_place (length T) 0 start (omega arith) (here refl refl)
