-- One step of the machine in front of a way that is known.
use Rattle.std.proofs.Common.{◌≡◌, ℕ, ◌+◌, true, List, [], ◌∷◌, ◌++◌, Option, arith, sym, ap, ◌∙◌, refl}
use Rattle.ctl_tree.specs.declared.sign.Sign.{Sign}
use Rattle.ctl_tree.specs.Lexemes.{Lexeme, kind_at, bytes_at, Within, SeesSign, SeesName}
use Rattle.grammar_machine.specs.Front.{is_sign, sees}
use Rattle.grammar_machine.specs.Machine.{Symbol, TheSign, TheName, Reads, Expands, move, name_move, read_if, Reaches, here, expands, reads, Passes}
use Rattle.grammar_machine.proofs.Reach.{reaches_from, reaches_on, within_none}

-- two places further
pub two : (i : ℕ) → i + 1 + 1 ≡ i + 2
two i = omega arith

pub three : (i : ℕ) → i + 2 + 1 ≡ i + 3
three i = omega arith

module _ {T : List Lexeme} {L : Option ℕ} where
  -- the way ends here
  pub done : {stack : List Symbol} {i j : ℕ} → j ≡ i → Reaches T L stack i stack j
  done e = here refl (sym e)

  -- the topmost symbol is passed
  pub pass : {x : Symbol} {below stack : List Symbol} {i j k : ℕ} → Passes T L (x ∷ []) i [] j → Reaches T L below j stack k → Reaches T L (x ∷ below) i stack k
  pass {below = below} p r = reaches_on (p below) r

  pub read_deeper : {x : Symbol} {m : ℕ} {ys below stack : List Symbol} {i j k : ℕ} → move x (kind_at T i) (bytes_at T i) ≡ Reads m ys → Within L m → i + 1 ≡ j
      → Reaches T L (ys ++ below) j stack k → Reaches T L (x ∷ below) i stack k
  read_deeper {x} {m} {ys} {below} e within there r = reads x below ys m refl e within (reaches_from refl there r)

  pub read : {x : Symbol} {ys below stack : List Symbol} {i j k : ℕ} → move x (kind_at T i) (bytes_at T i) ≡ Reads 0 ys → i + 1 ≡ j
      → Reaches T L (ys ++ below) j stack k → Reaches T L (x ∷ below) i stack k
  read e there r = read_deeper e (within_none L) there r

  pub expand_deeper : {x : Symbol} {m : ℕ} {ys below stack : List Symbol} {i k : ℕ} → move x (kind_at T i) (bytes_at T i) ≡ Expands m ys → Within L m
      → Reaches T L (ys ++ below) i stack k → Reaches T L (x ∷ below) i stack k
  expand_deeper {x} {m} {ys} {below} e within r = expands x below ys m refl e within r

  pub expand : {x : Symbol} {ys below stack : List Symbol} {i k : ℕ} → move x (kind_at T i) (bytes_at T i) ≡ Expands 0 ys
      → Reaches T L (ys ++ below) i stack k → Reaches T L (x ∷ below) i stack k
  expand e r = expand_deeper e (within_none L) r

  -- a sign that must stand there
  pub sign : {s : Sign} {below stack : List Symbol} {i j k : ℕ} → is_sign s s ≡ true → SeesSign T i s → i + 1 ≡ j → Reaches T L below j stack k
      → Reaches T L (TheSign s ∷ below) i stack k
  sign {s} known see there r = read (ap (λ k. read_if (sees s k)) see ∙ ap read_if known) there r

  -- a name that must stand there
  pub word : {name : List ℕ} {below stack : List Symbol} {i j k : ℕ} → SeesName T i name → i + 1 ≡ j → Reaches T L below j stack k
      → Reaches T L (TheName ∷ below) i stack k
  word see there r = read (ap name_move see.0) there r
