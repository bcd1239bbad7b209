-- Which file a module is, and which files are asked for it.
use Rattle.std.specs.Prelude.{ℕ, ◌==◌, Bool, true, false, List, [], ◌∷◌, ◌++◌, length, codes, filter, Option, Some, None, Result, Ok, Err, nat_le, if◌then◌else◌}
use Rattle.std.specs.List.{slice_split}
use Rattle.std.specs.FinMap as files
use Rattle.ctl_base.specs.declared.limits.TheConstants.{TEXT_BYTES}
use Rattle.outside.specs.Files.{Held}
use Rattle.module_path.specs.declared.fault.LoadFault.{LoadFault}
use Rattle.module_path.specs.declared.fault.LoadFault.TheVariants.{NotFound, TooLong}

-- the name of a file, and its bytes
pub record SourceText : Type 0 where
  pub file : List ℕ
  pub bytes : List ℕ

-- whether a folder has a name
abbrev pub is_named : List ℕ → Bool
is_named [] = false
is_named (b ∷ bytes) = true

-- the folders of a module path: its parts between colons, without the empty ones
abbrev pub folders_of : List ℕ → List (List ℕ)
folders_of path = filter is_named (slice_split (λ b. b == 58) path)

-- the file of a module in a folder: folder/N.ctl
abbrev pub file_in : List ℕ → List ℕ → List ℕ
file_in folder name = ((folder ++ codes "/") ++ name) ++ codes ".ctl"

-- the text of a file with these bytes, if it is held, unless they are more than a text may have; `other` where it is not held
abbrev pub held_text : Option (List ℕ) → List ℕ → Result SourceText LoadFault → Result SourceText LoadFault
held_text None file other = other
held_text (Some bytes) file other = if nat_le (length bytes) TEXT_BYTES then Ok (record { file = file; bytes = bytes }) else Err (TooLong file)

-- the text of a module: its file in the first of the folders that holds it
abbrev pub module_text : Held → List (List ℕ) → List ℕ → Result SourceText LoadFault
module_text held [] name = Err (NotFound name)
module_text held (folder ∷ folders) name = held_text (files.get held (file_in folder name)) (file_in folder name) (module_text held folders name)

-- nothing where a file is held
abbrev pub unless_held : Option (List ℕ) → List (List ℕ) → List (List ℕ)
unless_held None others = others
unless_held (Some bytes) others = []

-- the files that are asked for a module: its file in each folder, up to the first that holds it
abbrev pub module_files : Held → List (List ℕ) → List ℕ → List (List ℕ)
module_files held [] name = []
module_files held (folder ∷ folders) name = file_in folder name ∷ unless_held (files.get held (file_in folder name)) (module_files held folders name)

-- the text of the root, which is asked for by its own name alone
abbrev pub root_text : Held → List ℕ → Result SourceText LoadFault
root_text held root = held_text (files.get held root) root (Err (NotFound root))
