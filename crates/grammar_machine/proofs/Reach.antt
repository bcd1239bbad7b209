-- How the machine's ways are put together.
use Rattle.std.proofs.Common.{◌≡◌, ℕ, List, Option, Some, None, sym, subst, zero-le}
use Rattle.ctl_tree.specs.Lexemes.{Lexeme, Within}
use Rattle.grammar_machine.specs.Machine.{Symbol, Reaches, here, expands, reads}

pub reaches_from : {T : List Lexeme} {L : Option ℕ} {a b c : List Symbol} {i j k : ℕ} → a ≡ b → i ≡ j → Reaches T L b j c k → Reaches T L a i c k
reaches_from {T} {L} {b = b} {c = c} {i = i} {k = k} e e' r =
    let P : List Symbol → Type 0 = λ s. Reaches T L s i c k in let Q : ℕ → Type 0 = λ p. Reaches T L b p c k in subst P (sym e) (subst Q (sym e') r)

pub reaches_on : {T : List Lexeme} {L : Option ℕ} {a b c : List Symbol} {i j k : ℕ} → Reaches T L a i b j → Reaches T L b j c k → Reaches T L a i c k
reaches_on (here e e') r = reaches_from e e' r
reaches_on (expands top below symbols m e is within rest) r = expands top below symbols m e is within (reaches_on rest r)
reaches_on (reads top below symbols m e is within rest) r = reads top below symbols m e is within (reaches_on rest r)

-- no limit is passed without a form
pub within_none : (limit : Option ℕ) → Within limit 0
within_none None = tt
within_none (Some limit) = zero-le
