-- What the text of a file is: a unit, or a fault.
use Rattle.std.specs.Prelude.{◌≡◌, Result, Ok, Err}
use Rattle.ctl_parser.specs.Sources.{IsSource, HasByteFault, HasTokenFault}
use Rattle.ctl_tree.specs.Units.{SourceUnit}
use Rattle.module_path.specs.ModuleFiles.{SourceText}
use Rattle.module_path.specs.declared.fault.LoadFault.{LoadFault}
use Rattle.module_path.specs.declared.fault.LoadFault.TheVariants.{Lex, Syntax, Memory}

-- the unit has the name of the file, and the tokens and the module that the text is
pub record IsUnit (text : SourceText) (unit : SourceUnit) : Type 0 where
  pub same_file : unit.file ≡ text.file
  pub source : IsSource text.bytes unit.tokens unit.«module»

-- what a text reads as: a unit, or its fault, or memory runs out
abbrev pub ReadsAs : SourceText → Result SourceUnit LoadFault → Type 0
ReadsAs text (Ok unit) = IsUnit text unit
ReadsAs text (Err (Lex file at line kind)) = (file ≡ text.file) × HasByteFault text.bytes at line kind
ReadsAs text (Err (Syntax file at line kind)) = (file ≡ text.file) × HasTokenFault text.bytes at line kind
ReadsAs text (Err Memory) = Unit {0}
ReadsAs text (Err e) = ⊥
