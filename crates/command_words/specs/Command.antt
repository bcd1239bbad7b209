-- The command that the words spell.
use Rattle.std.specs.Prelude.{ℕ, List, [], ◌∷◌, Bool, false, ◌&&◌, not, ◌==◌, codes, Option, Some, None, if◌then◌else◌}
use Rattle.std.specs.Str.{bytes_eq}
use Rattle.command_words.specs.declared.Command.{Command as TheNames}

-- the names of the text, of the image that is read and of the one that is written
pub record Command : Type 0 where
  pub text : List ℕ
  pub source : List ℕ
  pub destination : List ℕ

-- what a command of the code asks for
abbrev pub named : TheNames → Command
named names = record { text = names.text.now; source = names.source.now; destination = names.destination.now }

-- a word that begins with a dash
abbrev pub is_option : List ℕ → Bool
is_option [] = false
is_option (b ∷ bytes) = b == 45

-- The words are four: `-ctl`, a file, and two words that are no options.
abbrev pub command_of : List (List ℕ) → Option Command
command_of (option ∷ text ∷ source ∷ destination ∷ []) =
    if bytes_eq option (codes "-ctl") && (not (is_option source) && not (is_option destination))
    then Some (record { text = text; source = source; destination = destination })
    else None
command_of words = None

abbrev pub destination_in : Option Command → List ℕ
destination_in (Some command) = command.destination
destination_in None = []

-- the name of the image that is written, nothing where the words are no command
abbrev pub destination_of : List (List ℕ) → List ℕ
destination_of words = destination_in (command_of words)
