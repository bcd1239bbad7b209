-- The options of the command, and what is asked of the words that follow each.
use Rattle.std.specs.Prelude.{ℕ, List, [], ◌∷◌, Bool, true, false, ◌==◌, codes, Option, Some, None, if◌then◌else◌}
use Rattle.std.specs.Str.{bytes_eq}
use Rattle.command_line.specs.declared.option.Count.{Count}
use Rattle.command_line.specs.declared.option.Count.TheVariants.{One, Two, Three}
use Rattle.command_line.specs.declared.option.Kind.{Kind}
use Rattle.command_line.specs.declared.option.Kind.TheVariants.{Plain, Stage, Param, Format, Force, Watch, Verbose, Make}

-- What is asked of a word that follows an option.
pub data Rule : Type 0 where
  -- any word
  File : Rule
  -- the name of a parameter
  Name : Rule
  -- a decimal number
  Number : Rule
  -- `dpx`, `dpx10` or `dpx16`
  Depth : Rule
  -- the name of a kind of watcher that was handed in
  Watcher : Rule
  -- a whole number from 0 to 4294967295
  Whole : Rule

-- so many decimal numbers
abbrev pub numbers : Count → List Rule
numbers One = Number ∷ []
numbers Two = Number ∷ Number ∷ []
numbers Three = Number ∷ Number ∷ Number ∷ []

-- the words that follow
abbrev pub following : Kind → List Rule
following Plain = []
following Stage = File ∷ []
following (Param is_global count) = Name ∷ numbers count
following Format = Depth ∷ []
following Force = []
following Watch = Watcher ∷ []
following Verbose = []
following Make = Whole ∷ []

-- a word that begins with a dash is an option
abbrev pub is_option : List ℕ → Bool
is_option [] = false
is_option (b ∷ bytes) = b == 45

-- the options of parameters: of the last stage, and of all stages
abbrev pub parameter_kind : List ℕ → Option Kind
parameter_kind word =
    if bytes_eq word (codes "-param1") then Some (Param false One)
    else (if bytes_eq word (codes "-param2") then Some (Param false Two)
    else (if bytes_eq word (codes "-param3") then Some (Param false Three)
    else (if bytes_eq word (codes "-global_param1") then Some (Param true One)
    else (if bytes_eq word (codes "-global_param2") then Some (Param true Two)
    else (if bytes_eq word (codes "-global_param3") then Some (Param true Three)
    else None)))))

-- the options
abbrev pub option_kind : List ℕ → Option Kind
option_kind word =
    if bytes_eq word (codes "-ctl") then Some Stage
    else (if bytes_eq word (codes "-format") then Some Format
    else (if bytes_eq word (codes "-force") then Some Force
    else (if bytes_eq word (codes "-watch") then Some Watch
    else (if bytes_eq word (codes "-verbose") then Some Verbose
    else (if bytes_eq word (codes "-make") then Some Make
    else parameter_kind word)))))

-- What a word is where no option before it takes it: an option, or plain. An unknown option is none.
abbrev pub kind_of : List ℕ → Option Kind
kind_of word = if is_option word then option_kind word else Some Plain
