-- Which lists of tokens begin a module, and where the tokens of a module have a fault.
use Rattle.std.specs.Prelude.{◌≡◌, ℕ, ◌+◌, ◌<◌, ◌≤◌, ◌++◌, List, length, take, Option, Some, None, All}
use Rattle.ctl_tree.specs.declared.definition.Module.{Module}
use Rattle.ctl_tree.specs.declared.fault.SyntaxKind.{SyntaxKind}
use Rattle.ctl_tree.specs.declared.fault.SyntaxKind.TheVariants.{NotHere, Depth}
use Rattle.ctl_tree.specs.Lexemes.{Lexeme, IsSpelt}
use Rattle.ctl_tree.specs.Modules.{IsModule}

-- some module of a nesting that is allowed begins with the first k tokens, and the bytes of each token after them spell
-- its kind
pub record Begins (lexemes : List Lexeme) (limit : Option ℕ) (k : ℕ) : Type 0 where
  pub more : List Lexeme
  pub are_spelt : All IsSpelt more
  pub form : Module
  pub spelt : IsModule (take k lexemes ++ more) limit form

-- no module of a nesting that is allowed is spelt by the tokens
abbrev pub NoModule : List Lexeme → Option ℕ → Type 0
NoModule lexemes limit = (m : Module) → IsModule lexemes limit m → ⊥

-- the tokens before the one at a place begin some module within the limit, and with that token they begin none, of
-- whatever nesting. At the number of tokens, they are no module themselves
pub record IsNotHere (lexemes : List Lexeme) (limit : ℕ) (place : ℕ) : Type 0 where
  pub within : place ≤ length lexemes
  pub before : Begins lexemes (Some limit) place
  pub none : place < length lexemes → Begins lexemes None (place + 1) → ⊥
  pub unfinished : place ≡ length lexemes → NoModule lexemes None

-- the tokens before the one at a place begin some module within the limit, and with that token they begin some, but
-- only such as are nested more deeply
pub record IsTooDeep (lexemes : List Lexeme) (limit : ℕ) (place : ℕ) : Type 0 where
  pub within : place < length lexemes
  pub before : Begins lexemes (Some limit) place
  pub some : Begins lexemes None (place + 1)
  pub deep : Begins lexemes (Some limit) (place + 1) → ⊥

-- the tokens have a fault of a kind at a place: the first at which what was begun within the limit goes on no more
abbrev pub HasSyntaxFault : List Lexeme → ℕ → SyntaxKind → ℕ → Type 0
HasSyntaxFault lexemes limit NotHere place = IsNotHere lexemes limit place
HasSyntaxFault lexemes limit Depth place = IsTooDeep lexemes limit place
