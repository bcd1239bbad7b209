-- What the program ends with, and what keeps the command from beginning.
use Rattle.std.specs.Prelude.{ℕ, Result, Ok, Err}
use Rattle.std.specs.declared.env.VarError.{VarError}
use Rattle.std.specs.declared.env.VarError.TheVariants.{NotPresent, NotUnicode, OutOfMemory}
use Rattle.ctlrender.specs.declared.StartFault.{StartFault}
use Rattle.ctlrender.specs.declared.StartFault.TheVariants.{Memory, NotText}

-- The number of the status, or of what kept the command from beginning: 12 where memory was wanting, 15 where a word or the module path is no text.
abbrev pub exit_code : Result ℕ StartFault → ℕ
exit_code (Ok code) = code
exit_code (Err Memory) = 12
exit_code (Err NotText) = 15

-- a module path that cannot be read
abbrev pub variable_fault : VarError → StartFault
variable_fault OutOfMemory = Memory
variable_fault NotUnicode = NotText
variable_fault NotPresent = NotText
