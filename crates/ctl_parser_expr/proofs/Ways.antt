-- How a way of the machine is put together, step by step, from the place where a function begins to where it ends.
use Rattle.std.proofs.Common.{arith, ◌≡◌, ◌<◌, ◌≤◌, ℕ, ◌+◌, true, List, [], ◌∷◌, ◌++◌, Option, Some, None, ap, sym, ◌∙◌, subst, refl, zero-le}
use Rattle.std.specs.Prelude.{Result, Ok, Err, IfSome, IsErrAnd}
use Rattle.ctl_base.specs.declared.limits.TheConstants.{NESTING}
use Rattle.ctl_tree.specs.declared.sign.Sign.{Sign}
use Rattle.ctl_tree.specs.declared.token.TokenKind.{TokenKind}
use Rattle.ctl_tree.specs.declared.token.TokenKind.TheVariants.{Name}
use Rattle.ctl_tree.specs.Lexemes.{Lexeme, kind_at, bytes_at, SeesSign, SeesName, Within}
use Rattle.grammar_machine.specs.Front.{is_sign}
use Rattle.grammar_machine.specs.Machine.{Symbol, TheSign, TheName, Reads, Expands, Stops, move, read_if, name_move, needs, Reaches, here, expands, reads}
use Rattle.ctl_parser_expr.specs.declared.fault.Fault.{Fault}
use Rattle.ctl_parser_expr.specs.declared.fault.Fault.TheVariants.{NotHere, Depth, Memory}
use Rattle.ctl_parser_expr.specs.Parses.{End, At, In, Comes, end_of, Answers}

reaches_from : {T : List Lexeme} {L : Option ℕ} {a b c : List Symbol} {i j k : ℕ} → a ≡ b → i ≡ j → Reaches T L b j c k → Reaches T L a i c k
reaches_from {T} {L} {b = b} {c = c} {i = i} {k = k} e e' r =
    let P : List Symbol → Type 0 = λ s. Reaches T L s i c k in let Q : ℕ → Type 0 = λ p. Reaches T L b p c k in subst P (sym e) (subst Q (sym e') r)

reaches_on : {T : List Lexeme} {L : Option ℕ} {a b c : List Symbol} {i j k : ℕ} → Reaches T L a i b j → Reaches T L b j c k → Reaches T L a i c k
reaches_on (here e e') r = reaches_from e e' r
reaches_on (expands top below symbols m e is within rest) r = expands top below symbols m e is within (reaches_on rest r)
reaches_on (reads top below symbols m e is within rest) r = reads top below symbols m e is within (reaches_on rest r)

-- places further on
pub two : (i : ℕ) → i + 1 + 1 ≡ i + 2
two i = omega arith

-- a place behind a token lies within the tokens
pub one_more : (i n : ℕ) → i < n → i + 1 ≤ n
one_more i n lt = omega arith

-- what is said of a token where there is one
pub some_kind : {P : Type 0} (k : Option TokenKind) → IfSome k (λ _. P) → (k ≡ None → ⊥) → P
some_kind None h some = absurd (some refl)
some_kind (Some kind) h some = h

-- no limit is passed without a form
within_none : (limit : Option ℕ) → Within limit 0
within_none None = tt
within_none (Some limit) = zero-le

module _ {T : List Lexeme} {L : Option ℕ} where
  -- a way that goes on
  reach : {a b : List Symbol} {i j : ℕ} (end : End) → Reaches T L a i b j → Comes T L b j end → Comes T L a i end
  reach (At stack k) r c = record { goes = reaches_on r c.goes }
  reach (In (NotHere place)) r c = let s = c.goes in record { goes = record { top = s.top; below = s.below; reached = reaches_on r s.reached; stops = s.stops } }
  reach (In (Depth place)) r c = let s = c.goes in record { goes = record { top = s.top; below = s.below; reached = reaches_on r s.reached; sinks = s.sinks } }
  reach (In Memory) r c = record { goes = tt }

  -- the way ends here
  pub done : {stack : List Symbol} {i j : ℕ} → j ≡ i → Comes T L stack i (At stack j)
  done e = record { goes = here refl (sym e) }

  -- two ways
  pub on : {a b : List Symbol} {i j : ℕ} {end : End} → Comes T L a i (At b j) → Comes T L b j end → Comes T L a i end
  on {end = end} c d = reach end c.goes d

  -- the symbol of a form is passed, and the way goes on with what stands below
  pub pass : {x : Symbol} {below : List Symbol} {i j : ℕ} {end : End} → ((below : List Symbol) → Comes T L (x ∷ below) i (At below j)) → Comes T L below j end → Comes T L (x ∷ below) i end
  pass {below = below} {end = end} p d = reach end (p below).goes d

  -- one move
  pub read_deeper : {x : Symbol} {m : ℕ} {ys below : List Symbol} {i j : ℕ} {end : End} → move x (kind_at T i) (bytes_at T i) ≡ Reads m ys → Within L m → i + 1 ≡ j → Comes T L (ys ++ below) j end → Comes T L (x ∷ below) i end
  read_deeper {x} {m} {ys} {below} {end = end} e within there c = reach end (reads x below ys m refl e within (here refl there)) c

  pub read : {x : Symbol} {ys below : List Symbol} {i j : ℕ} {end : End} → move x (kind_at T i) (bytes_at T i) ≡ Reads 0 ys → i + 1 ≡ j → Comes T L (ys ++ below) j end → Comes T L (x ∷ below) i end
  read e there c = read_deeper e (within_none L) there c

  pub expand_deeper : {x : Symbol} {m : ℕ} {ys below : List Symbol} {i : ℕ} {end : End} → move x (kind_at T i) (bytes_at T i) ≡ Expands m ys → Within L m → Comes T L (ys ++ below) i end → Comes T L (x ∷ below) i end
  expand_deeper {x} {m} {ys} {below} {end = end} e within c = reach end (expands x below ys m refl e within (here refl refl)) c

  pub expand : {x : Symbol} {ys below : List Symbol} {i : ℕ} {end : End} → move x (kind_at T i) (bytes_at T i) ≡ Expands 0 ys → Comes T L (ys ++ below) i end → Comes T L (x ∷ below) i end
  expand e c = expand_deeper e (within_none L) c

  -- a sign and a name that must stand there
  pub sign : {s : Sign} {below : List Symbol} {i j : ℕ} {end : End} → is_sign s s ≡ true → SeesSign T i s → i + 1 ≡ j → Comes T L below j end → Comes T L (TheSign s ∷ below) i end
  sign {s} known see there c = read (ap (λ k. move (TheSign s) k []) see ∙ ap read_if known) there c

  pub word : {name : List ℕ} {below : List Symbol} {i j : ℕ} {end : End} → SeesName T i name → i + 1 ≡ j → Comes T L below j end → Comes T L (TheName ∷ below) i end
  word see there c = read (ap name_move see.0) there c

  pub named : {below : List Symbol} {i j : ℕ} {end : End} → kind_at T i ≡ Some Name → i + 1 ≡ j → Comes T L below j end → Comes T L (TheName ∷ below) i end
  named see there c = read (ap name_move see) there c

  -- the machine stops here
  pub stop : {x : Symbol} {below : List Symbol} {i : ℕ} → move x (kind_at T i) (bytes_at T i) ≡ Stops → Comes T L (x ∷ below) i (In (NotHere i))
  stop {x} {below} e = record { goes = record { top = x; below = below; reached = here refl refl; stops = e } }

-- the machine sinks here: the nesting is the limit already
module _ {T : List Lexeme} {limit : ℕ} where
  sink : {x : Symbol} {n : ℕ} {below : List Symbol} {i : ℕ} {fault : Fault} → (fault ≡ Depth i) × (n ≡ limit) → needs (move x (kind_at T i) (bytes_at T i)) ≡ n + 1 → Comes T (Some limit) (x ∷ below) i (In fault)
  sink {x} {n} {below} {i} {fault} (is, deep) e =
      subst (λ fault. Comes T (Some limit) (x ∷ below) i (In fault)) (sym is)
      (record { goes = record { top = x; below = below; reached = here refl refl; sinks = λ within. omega (arith, e, deep, within) } })

  pub sink_read : {x : Symbol} {n : ℕ} {ys below : List Symbol} {i : ℕ} {fault : Fault} → (fault ≡ Depth i) × (n ≡ limit) → move x (kind_at T i) (bytes_at T i) ≡ Reads (n + 1) ys → Comes T (Some limit) (x ∷ below) i (In fault)
  sink_read is e = sink is (ap needs e)

  pub sink_expand : {x : Symbol} {n : ℕ} {ys below : List Symbol} {i : ℕ} {fault : Fault} → (fault ≡ Depth i) × (n ≡ limit) → move x (kind_at T i) (bytes_at T i) ≡ Expands (n + 1) ys → Comes T (Some limit) (x ∷ below) i (In fault)
  sink_expand is e = sink is (ap needs e)

-- answers

module _ {A : Type 0} {ends : ℕ → ℕ → List Lexeme → Type 0} {T : List Lexeme} {form : A → ℕ → Type 0} {symbols : List Symbol} {i : ℕ} where
  -- the exit of a `?`: the fault is given on
  pub refused : {fault : Fault} {result : Result (A × ℕ) Fault} → IsErrAnd result (λ given. given ≡ fault) → ((below : List Symbol) → Comes T (Some NESTING) (symbols ++ below) i (In fault)) → Answers ends T form symbols i result
  refused {fault = fault} {result = Ok r} h f = absurd h
  refused {fault = fault} {result = Err given} h f = record { reads = tt; follows = λ below. subst (λ fault. Comes T (Some NESTING) (symbols ++ below) i (In fault)) (sym h) (f below) }

  -- the answer of a last call
  pub read_as : {form' : A → ℕ → Type 0} {symbols' : List Symbol} {result : Result (A × ℕ) Fault} → ((x : A) (j : ℕ) → form' x j → form x j)
      → ((below : List Symbol) → Comes T (Some NESTING) (symbols ++ below) i (end_of below result)) → Answers ends T form' symbols' i result → Answers ends T form symbols i result
  read_as {result = Ok r} g f a = record { reads = (g r.0 r.1 a.reads.0, a.reads.1); follows = f }
  read_as {result = Err fault} g f a = record { reads = tt; follows = f }

  -- want of memory
  pub no_memory : (result : Result (A × ℕ) Fault) → IsErrAnd result (λ given. given ≡ Memory) → Answers ends T form symbols i result
  no_memory result h = refused h (λ below. record { goes = tt })
