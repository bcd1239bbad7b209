-- What holds of texts, of the tokens that stand for them and of the faults of their bytes. F is the number of fraction
-- bits.
use Rattle.std.specs.Prelude.{◌≡◌, ◌⊎◌, ℕ, List}
use Rattle.ctl_tree.specs.declared.token.Token.{Token}
use Rattle.ctl_tree.specs.declared.fault.LexKind.{LexKind}
use Rattle.ctl_tree.specs.Tokens.{StandsFor, HasFault}

-- a text has at most one list of tokens
abbrev pub OneList : Type 0
OneList = (F : ℕ) (text : List ℕ) (tokens others : List Token) → StandsFor F tokens text → StandsFor F others text → tokens ≡ others

-- a text has at most one fault
abbrev pub OneFault : Type 0
OneFault = (F : ℕ) (text : List ℕ) (at elsewhere : ℕ) (kind other : LexKind) → HasFault F text at kind → HasFault F text elsewhere other → (at ≡ elsewhere) × (kind ≡ other)

-- no tokens stand for a text that has a fault
abbrev pub FaultsHaveNoTokens : Type 0
FaultsHaveNoTokens = (F : ℕ) (text : List ℕ) (at : ℕ) (kind : LexKind) (tokens : List Token) → HasFault F text at kind → StandsFor F tokens text → ⊥

-- tokens stand for a text, or it has a fault
abbrev pub TokensOrFault : Type 0
TokensOrFault = (F : ℕ) (text : List ℕ) → ((tokens : List Token) × StandsFor F tokens text) ⊎ ((at : ℕ) × (kind : LexKind) × HasFault F text at kind)
