-- The order in which modules are loaded, the files that are asked for, and the first refusal that is met.
use Rattle.std.specs.Prelude.{◌≡◌, ℕ, ◌+◌, Bool, true, false, List, [], ◌∷◌, ◌++◌, length, take, map, slice_get, Option, Some, None, Result, Ok, Err, nat_eq, nat_le, if◌then◌else◌}
use Rattle.std.specs.List.{list_any}
use Rattle.std.specs.Cmp.Lexicographic.{pointwise}
use Rattle.ctl_base.specs.declared.limits.TheConstants.{MODULES}
use Rattle.ctl_tree.specs.declared.definition.Import.{Import}
use Rattle.ctl_tree.specs.Units.{SourceUnit}
use Rattle.outside.specs.Calls.{FileCall, Fetch, file_call}
use Rattle.outside.specs.Files.{Held}
use Rattle.module_path.specs.ModuleFiles.{SourceText, folders_of, module_text, module_files, root_text}
use Rattle.module_path.specs.Reading.{ReadsAs}
use Rattle.module_path.specs.declared.fault.LoadFault.{LoadFault}
use Rattle.module_path.specs.declared.fault.LoadFault.TheVariants.{Cycle, TooMany, ReadFault, Memory}

-- Calls. Each relation below tells the calls on the files before and after.

-- fetches of these files that the box answered
abbrev pub answered : List (List ℕ) → List FileCall
answered = map (λ file. file_call Fetch file false)

-- These files are asked for in their order, and the answer is what is held. But the box may fail on one of them, which is then
-- the last, and memory may run out after some of them.
pub data Fetches (files : List (List ℕ)) (told : Result SourceText LoadFault) : List FileCall → List FileCall → Result SourceText LoadFault → Type 0 where
  all_answered : {before after : List FileCall} {answer : Result SourceText LoadFault} → answer ≡ told → after ≡ before ++ answered files → Fetches files told before after answer
  box_fails : {before after : List FileCall} {file : List ℕ} (n : ℕ) → slice_get files n ≡ Some file → after ≡ (before ++ answered (take n files)) ++ file_call Fetch file true ∷ []
      → Fetches files told before after (Err (ReadFault file))
  fetch_given_up : {before after : List FileCall} (n : ℕ) → after ≡ before ++ answered (take n files) → Fetches files told before after (Err Memory)

-- Modules

-- what is loaded: the names of the modules that were imported, and the units, both in load order
pub record Loaded : Type 0 where
  pub names : List (List ℕ)
  pub units : List SourceUnit

-- nothing is loaded
abbrev pub nothing : Loaded
nothing = record { names = []; units = [] }

-- a unit more
abbrev pub with_unit : Loaded → SourceUnit → Loaded
with_unit s unit = record { names = s.names; units = s.units ++ unit ∷ [] }

-- a name more
abbrev pub with_name : Loaded → List ℕ → Loaded
with_name s name = record { names = s.names ++ name ∷ []; units = s.units }

-- whether the name is one of these
abbrev pub is_among : List (List ℕ) → List ℕ → Bool
is_among names name = list_any (λ n. pointwise nat_eq n name) names

-- What an import comes to before a file is asked for, if it does: nothing is done where the module is loaded already; else it is a
-- cycle where it is being loaded; else there are too many where it would be one module more than a stage may have. The root has no
-- name and counts as one.
abbrev pub settled : List (List ℕ) → List ℕ → List ℕ → Loaded → Option (Result Loaded LoadFault)
settled loading file name s =
    if is_among s.names name then Some (Ok s)
    else (if is_among loading name then Some (Err (Cycle file name))
    else (if nat_le MODULES (1 + length loading + length s.names) then Some (Err (TooMany file)) else None))

-- The names of the modules that are being loaded stand from the outermost on.
mutual
  -- A file is loaded: its text is read, its imports are loaded, and then itself is put last. Memory may run out at the end.
  pub data LoadsFile (held : Held) (folders : List (List ℕ)) : List (List ℕ) → SourceText → Loaded → List FileCall → List FileCall → Result Loaded LoadFault → Type 0 where
    text_stops : {loading : List (List ℕ)} {text : SourceText} {s : Loaded} {calls : List FileCall} {e : LoadFault} → ReadsAs text (Err e) → LoadsFile held folders loading text s calls calls (Err e)
    imports_stop : {loading : List (List ℕ)} {text : SourceText} {s : Loaded} {before after : List FileCall} {e : LoadFault} {unit : SourceUnit} → ReadsAs text (Ok unit)
        → LoadsAll held folders loading text.file unit.«module».imports s before after (Err e) → LoadsFile held folders loading text s before after (Err e)
    file_loads : {loading : List (List ℕ)} {text : SourceText} {s t : Loaded} {before after : List FileCall} {unit : SourceUnit} → ReadsAs text (Ok unit)
        → LoadsAll held folders loading text.file unit.«module».imports s before after (Ok t) → LoadsFile held folders loading text s before after (Ok (with_unit t unit))
    file_given_up : {loading : List (List ℕ)} {text : SourceText} {s : Loaded} {before after : List FileCall} {answer : Result Loaded LoadFault}
        → LoadsFile held folders loading text s before after answer → LoadsFile held folders loading text s before after (Err Memory)

  -- The imports of a file are loaded in their order, up to the first refusal.
  pub data LoadsAll (held : Held) (folders : List (List ℕ)) : List (List ℕ) → List ℕ → List Import → Loaded → List FileCall → List FileCall → Result Loaded LoadFault → Type 0 where
    all_loaded : {loading : List (List ℕ)} {file : List ℕ} {s : Loaded} {calls : List FileCall} → LoadsAll held folders loading file [] s calls calls (Ok s)
    one_stops : {loading : List (List ℕ)} {file : List ℕ} {one : Import} {others : List Import} {s : Loaded} {before after : List FileCall} {e : LoadFault}
        → Loads held folders loading file one.name s before after (Err e) → LoadsAll held folders loading file (one ∷ others) s before after (Err e)
    one_loads : {loading : List (List ℕ)} {file : List ℕ} {one : Import} {others : List Import} {s t : Loaded} {before between after : List FileCall} {answer : Result Loaded LoadFault}
        → Loads held folders loading file one.name s before between (Ok t) → LoadsAll held folders loading file others t between after answer
        → LoadsAll held folders loading file (one ∷ others) s before after answer

  -- One import of a file: it is settled, or its text is asked for, and with its name among those being loaded the file is loaded.
  pub data Loads (held : Held) (folders : List (List ℕ)) : List (List ℕ) → List ℕ → List ℕ → Loaded → List FileCall → List FileCall → Result Loaded LoadFault → Type 0 where
    is_settled : {loading : List (List ℕ)} {file name : List ℕ} {s : Loaded} {calls : List FileCall} {answer : Result Loaded LoadFault} → settled loading file name s ≡ Some answer
        → Loads held folders loading file name s calls calls answer
    no_text : {loading : List (List ℕ)} {file name : List ℕ} {s : Loaded} {before after : List FileCall} {e : LoadFault} → settled loading file name s ≡ None
        → Fetches (module_files held folders name) (module_text held folders name) before after (Err e) → Loads held folders loading file name s before after (Err e)
    module_stops : {loading : List (List ℕ)} {file name : List ℕ} {s : Loaded} {before between after : List FileCall} {e : LoadFault} {text : SourceText} → settled loading file name s ≡ None
        → Fetches (module_files held folders name) (module_text held folders name) before between (Ok text) → LoadsFile held folders (loading ++ name ∷ []) text s between after (Err e)
        → Loads held folders loading file name s before after (Err e)
    module_loads : {loading : List (List ℕ)} {file name : List ℕ} {s t : Loaded} {before between after : List FileCall} {text : SourceText} → settled loading file name s ≡ None
        → Fetches (module_files held folders name) (module_text held folders name) before between (Ok text) → LoadsFile held folders (loading ++ name ∷ []) text s between after (Ok t)
        → Loads held folders loading file name s before after (Ok (with_name t name))
    import_given_up : {loading : List (List ℕ)} {file name : List ℕ} {s : Loaded} {before after : List FileCall} {answer : Result Loaded LoadFault}
        → Loads held folders loading file name s before after answer → Loads held folders loading file name s before after (Err Memory)

-- The units in load order, the root last, or the first refusal; and the calls before and after.
pub data LoadOrder (held : Held) (path root : List ℕ) : List FileCall → List FileCall → Result (List SourceUnit) LoadFault → Type 0 where
  no_root : {before after : List FileCall} {e : LoadFault} → Fetches (root ∷ []) (root_text held root) before after (Err e) → LoadOrder held path root before after (Err e)
  root_stops : {before between after : List FileCall} {e : LoadFault} {text : SourceText} → Fetches (root ∷ []) (root_text held root) before between (Ok text)
      → LoadsFile held (folders_of path) [] text nothing between after (Err e) → LoadOrder held path root before after (Err e)
  root_loads : {before between after : List FileCall} {t : Loaded} {text : SourceText} → Fetches (root ∷ []) (root_text held root) before between (Ok text)
      → LoadsFile held (folders_of path) [] text nothing between after (Ok t) → LoadOrder held path root before after (Ok t.units)
