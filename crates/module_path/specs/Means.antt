-- What the walk of the code stands for.
use Rattle.std.specs.Prelude.{◌≡◌, ℕ, List, [], ◌∷◌, ◌++◌, Option, Some, None, Result, Ok, Err, All}
use Rattle.ctl_tree.specs.declared.definition.Import.{Import}
use Rattle.ctl_tree.specs.Modules.{IsPrintable}
use Rattle.outside.specs.Calls.{FileCall}
use Rattle.module_path.specs.ModuleFiles.{SourceText, held_text}
use Rattle.module_path.specs.LoadOrder.{Loaded, Fetches, answered}
use Rattle.module_path.specs.declared.fault.LoadFault.{LoadFault}
use Rattle.module_path.specs.declared.files.SourceFile.{SourceFile}
use Rattle.module_path.specs.declared.loading.Walk.{Walk}

-- a file that was fetched
abbrev pub source_of : SourceFile → SourceText
source_of f = record { file = f.file; bytes = f.bytes }

-- what was loaded in a walk
abbrev pub walked : Walk → Loaded
walked w = record { names = w.names.items; units = w.units }

-- one file was asked for: it is held, or it is not
abbrev pub Tries : Option (List ℕ) → List ℕ → List FileCall → List FileCall → Result (Option SourceFile) LoadFault → Type 0
Tries bytes file before after (Ok None) = (bytes ≡ None) × (after ≡ before ++ answered (file ∷ []))
Tries bytes file before after (Ok (Some f)) = (other : Result SourceText LoadFault) → Fetches (file ∷ []) (held_text bytes file other) before after (Ok (source_of f))
Tries bytes file before after (Err e) = (other : Result SourceText LoadFault) → Fetches (file ∷ []) (held_text bytes file other) before after (Err e)

-- the names of imports are of bytes from 32 to 126
abbrev pub ArePrintable : List Import → Type 0
ArePrintable = All (λ one. All IsPrintable one.name)

-- a folder, unless it is empty
abbrev pub as_folder : List ℕ → List (List ℕ)
as_folder [] = []
as_folder (b ∷ bytes) = (b ∷ bytes) ∷ []
