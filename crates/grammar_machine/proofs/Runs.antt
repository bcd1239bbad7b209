-- What a run of the machine tells: what its last stack stands for is what its first one stands for.
use Rattle.std.proofs.Common.{◌≡◌, ℕ, ◌+◌, ◌<◌, ◌≤◌, Bool, true, false, List, [], ◌∷◌, ◌++◌, length, nat_lt, cond, sym, ap, subst, ◌∙◌, refl, Option, None, option_map, slice_get, ◌⊎◌, inl, inr, ⊎_elim, arith}
use Rattle.std.proofs.lemmas.Bool.{true≢false, cases_lt}
use Rattle.std.proofs.lemmas.Option.{slice_get_past}
use Rattle.ctl_tree.specs.declared.definition.Module.{Module}
use Rattle.ctl_tree.specs.Lexemes.{Lexeme, kind_at, bytes_at, Within}
use Rattle.ctl_tree.specs.Names.{operator_levels}
use Rattle.ctl_tree.specs.Modules.{AreDefinitions, IsModule}
use Rattle.ctl_tree.specs.Modules.IsModule.{module_of}
use Rattle.grammar_machine.specs.Machine.{Symbol, move, start, Reaches}
use Rattle.grammar_machine.specs.Machine.Symbol.{Operand}
use Rattle.grammar_machine.specs.Machine.Move.{Reads, Expands}
use Rattle.grammar_machine.specs.Machine.Reaches.{here, expands, reads}
use Rattle.grammar_machine.proofs.Dead.{same_step}
use Rattle.grammar_machine.proofs.Meaning.{MeansFrom, MeansAll, Sound, fits}
use Rattle.grammar_machine.proofs.Tokens.{is_read}
use Rattle.grammar_machine.proofs.SoundDefinitions.{sound}

-- what symbols stand for before others
pub split_all : (T : List Lexeme) (L : Option ℕ) (symbols below : List Symbol) (i : ℕ) → MeansAll T L (symbols ++ below) i → (j : ℕ) × MeansFrom T L symbols i j × MeansAll T L below j
split_all T L [] below i h = (i, refl, h)
split_all T L (x ∷ []) below i h = h
split_all T L (x ∷ y ∷ ys) below i h = let r = split_all T L (y ∷ ys) below h.0 h.2 in (r.0, (h.0, h.1, r.1), r.2)

-- one move of the machine

module _ (T : List Lexeme) (L : Option ℕ) (i : ℕ) (top : Symbol) (symbols : List Symbol) (m : ℕ) where
  pub sound_expands : move top (kind_at T i) (bytes_at T i) ≡ Expands m symbols → Sound T L i top (Expands m symbols)
  sound_expands e = subst (λ v. Sound T L i top v) e (sound T L i top)

  pub sound_reads : move top (kind_at T i) (bytes_at T i) ≡ Reads m symbols → Sound T L i top (Reads m symbols)
  sound_reads e = subst (λ v. Sound T L i top v) e (sound T L i top)

  -- what a move leaves stands for what it found
  pub back_expands : (below : List Symbol) → move top (kind_at T i) (bytes_at T i) ≡ Expands m symbols → Within L m → MeansAll T L (symbols ++ below) i → MeansAll T L (top ∷ below) i
  back_expands below e w h = let r = split_all T L symbols below i h in (r.0, (sound_expands e).0 w r.0 r.1, r.2)

  pub back_reads : (below : List Symbol) → move top (kind_at T i) (bytes_at T i) ≡ Reads m symbols → Within L m → MeansAll T L (symbols ++ below) (i + 1) → MeansAll T L (top ∷ below) i
  back_reads below e w h = let r = split_all T L symbols below (i + 1) h in (r.0, (sound_reads e).0 w r.0 r.1, r.2)

-- whole runs

-- what the last stack of a run stands for is what its first one stands for
pub back : (T : List Lexeme) (L : Option ℕ) (stack stack' : List Symbol) (i j : ℕ) → Reaches T L stack i stack' j → MeansAll T L stack' j → MeansAll T L stack i
back T L stack stack' i j (here es ei) h = subst (λ s. MeansAll T L s i) (sym es) (subst (λ p. MeansAll T L stack' p) (sym ei) h)
back T L stack stack' i j (expands top below symbols m e v w r) h =
    subst (λ s. MeansAll T L s i) (sym e) (back_expands T L i top symbols m below v w (back T L (symbols ++ below) stack' i j r h))
back T L stack stack' i j (reads top below symbols m e v w r) h =
    subst (λ s. MeansAll T L s i) (sym e) (back_reads T L i top symbols m below v w (back T L (symbols ++ below) stack' (i + 1) j r h))

-- what the first stack of all stands for is a module
pub module_from : (T : List Lexeme) (L : Option ℕ) → MeansAll T L start 0 → (m : Module) × IsModule T L m
module_from T L (i, v, (j, imported, (k, defined, (p, ended, e)))) =
    (_, module_of i j v imported.1 (subst (λ q. AreDefinitions T L 0 j defined.0 q) (sym ended.1 ∙ e) defined.1))

-- no move reads a token where there is none
reads_some : (x : Symbol) (bytes : List ℕ) → is_read (move x None bytes) ≡ false
reads_some (Operand level n) bytes = either (nat_lt level operator_levels) _ _ _ _
  where
    either : (b : Bool) (m m' : ℕ) (a a' : List Symbol) → is_read (cond b (Expands m a) (Expands m' a')) ≡ false
    either true m m' a a' = refl
    either false m m' a a' = refl
reads_some _ bytes = refl

pub read_within : (T : List Lexeme) (i : ℕ) (top : Symbol) (symbols : List Symbol) (m : ℕ) → move top (kind_at T i) (bytes_at T i) ≡ Reads m symbols → i < length T
read_within T i top symbols m e = ⊎_elim (λ lt. lt) (λ ge. absurd (true≢false (
    sym (ap is_read e) ∙ ap (λ (o : Option Lexeme). is_read (move top (option_map (λ (lexeme : Lexeme). lexeme.kind) o) (bytes_at T i))) (slice_get_past T i ge) ∙ reads_some top (bytes_at T i)))) (cases_lt i (length T))

-- a run ends within the tokens
pub run_within : (T : List Lexeme) (L : Option ℕ) (stack stack' : List Symbol) (i j : ℕ) → Reaches T L stack i stack' j → i ≤ length T → j ≤ length T
run_within T L stack stack' i j (here es ei) le = subst (λ p. p ≤ length T) ei le
run_within T L stack stack' i j (expands top below symbols m e v w r) le = run_within T L (symbols ++ below) stack' i j r le
run_within T L stack stack' i j (reads top below symbols m e v w r) le =
    let lt : i < length T = read_within T i top symbols m v in
    run_within T L (symbols ++ below) stack' (i + 1) j r (omega arith)

-- a stack of a run fits where the first one does
pub fits_on : (T : List Lexeme) (L : Option ℕ) (stack stack' : List Symbol) (i j : ℕ) → Reaches T L stack i stack' j → fits stack ≡ true → fits stack' ≡ true
fits_on T L stack stack' i j (here es ei) f = subst (λ s. fits s ≡ true) es f
fits_on T L stack stack' i j (expands top below symbols m e v w r) f =
    fits_on T L (symbols ++ below) stack' i j r ((sound_expands T L i top symbols m v).1 below (subst (λ s. fits s ≡ true) e f))
fits_on T L stack stack' i j (reads top below symbols m e v w r) f =
    fits_on T L (symbols ++ below) stack' (i + 1) j r ((sound_reads T L i top symbols m v).1 below (subst (λ s. fits s ≡ true) e f))

-- the tokens below a place are the same
abbrev pub Agrees : List Lexeme → List Lexeme → ℕ → Type 0
Agrees T U j = (i : ℕ) → i < j → slice_get T i ≡ slice_get U i

-- the first stack of a run at its last place: the machine came to it by the tokens before that place alone
pub record Cut (T : List Lexeme) (L : Option ℕ) (stack : List Symbol) (i j : ℕ) : Type 0 where
  pub ahead : i ≤ j
  pub open_forms : List Symbol
  pub reached : (U : List Lexeme) → Agrees T U j → Reaches U L stack i open_forms j

cut_here : (T : List Lexeme) (L : Option ℕ) (stack : List Symbol) (i j : ℕ) → i ≡ j → Cut T L stack i j
cut_here T L stack i j e = record { ahead = omega arith; open_forms = stack; reached = λ U agrees. here refl e }

cut_expands : (T : List Lexeme) (L : Option ℕ) (stack : List Symbol) (i j : ℕ) (top : Symbol) (below symbols : List Symbol) (m : ℕ) → stack ≡ top ∷ below
    → move top (kind_at T i) (bytes_at T i) ≡ Expands m symbols → Within L m → Cut T L (symbols ++ below) i j → (i < j) ⊎ (j ≤ i) → Cut T L stack i j
cut_expands T L stack i j top below symbols m e v w c (inl lt) = record {
  ahead = c.ahead;
  open_forms = c.open_forms;
  reached = λ U agrees. expands top below symbols m e (sym (same_step T U top i (agrees i lt)) ∙ v) w (c.reached U agrees);
}
cut_expands T L stack i j top below symbols m e v w c (inr ge) = let le : i ≤ j = c.ahead in cut_here T L stack i j (omega arith)

cut_reads : (T : List Lexeme) (L : Option ℕ) (stack : List Symbol) (i j : ℕ) (top : Symbol) (below symbols : List Symbol) (m : ℕ) → stack ≡ top ∷ below
    → move top (kind_at T i) (bytes_at T i) ≡ Reads m symbols → Within L m → Cut T L (symbols ++ below) (i + 1) j → Cut T L stack i j
cut_reads T L stack i j top below symbols m e v w c = let le : i + 1 ≤ j = c.ahead in record {
  ahead = omega arith;
  open_forms = c.open_forms;
  reached = λ U agrees. reads top below symbols m e (sym (same_step T U top i (agrees i (omega arith))) ∙ v) w (c.reached U agrees);
}

-- each run can be cut
pub cut : (T : List Lexeme) (L : Option ℕ) (stack stack' : List Symbol) (i j : ℕ) → Reaches T L stack i stack' j → Cut T L stack i j
cut T L stack stack' i j (here es ei) = cut_here T L stack i j ei
cut T L stack stack' i j (expands top below symbols m e v w r) = cut_expands T L stack i j top below symbols m e v w (cut T L (symbols ++ below) stack' i j r) (cases_lt i j)
cut T L stack stack' i j (reads top below symbols m e v w r) = cut_reads T L stack i j top below symbols m e v w (cut T L (symbols ++ below) stack' (i + 1) j r)
