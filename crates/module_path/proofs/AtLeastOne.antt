-- A walk is followed to its end: each module being loaded leaves one fewer that may be.
use Rattle.std.proofs.Common.{◌≡◌, ℕ, zero, suc, ◌+◌, ◌<◌, ◌≤◌, ◌++◌, [], ◌∷◌, List, Option, Some, None, Result, Ok, Err, refl, arith, Bool, true, false, length, nat_le}
use Rattle.std.proofs.lemmas.List.{length_push}
use Rattle.std.specs.FinMap as files
use Rattle.ctl_base.specs.declared.limits.TheConstants.{MODULES, TEXT_BYTES}
use Rattle.ctl_tree.specs.declared.definition.Import.{Import}
use Rattle.ctl_tree.specs.Units.{SourceUnit}
use Rattle.ctl_lexer.specs.Laws.{TokensOrFault}
use Rattle.grammar_machine.specs.Laws.{ModuleOrFault}
use Rattle.outside.specs.Calls.{FileCall}
use Rattle.outside.specs.Files.{Held}
use Rattle.module_path.specs.Laws.{IsTold, AtLeastOne}
use Rattle.module_path.specs.LoadOrder.{Loaded, nothing, settled, is_among, Fetches, all_answered, LoadsFile, LoadsAll, Loads, LoadOrder, text_stops, imports_stop, file_loads, all_loaded, one_stops, one_loads, is_settled, no_text, module_stops, module_loads, no_root, root_stops, root_loads}
use Rattle.module_path.specs.ModuleFiles.{SourceText, folders_of, file_in, held_text, module_text, module_files, root_text}
use Rattle.module_path.specs.Reading.{ReadsAs}
use Rattle.module_path.specs.declared.fault.LoadFault.{LoadFault}
use Rattle.module_path.specs.declared.fault.LoadFault.TheVariants.{Cycle, TooMany, NotFound}
use Rattle.module_path.proofs.Known.{reads_some}

-- some calls and a told answer
abbrev Some_answer : {A : Type 0} → (List FileCall → Result A LoadFault → Type 0) → Type 0
Some_answer {A} P = (b : List FileCall) × (r : Result A LoadFault) × IsTold r × P b r

pub held_told : (o : Option (List ℕ)) (file : List ℕ) (other : Result SourceText LoadFault) → IsTold other → IsTold (held_text o file other)
held_told None file other t = t
held_told (Some bytes) file other t = by (nat_le (length bytes) TEXT_BYTES) refl
  where
    by : (b : Bool) → nat_le (length bytes) TEXT_BYTES ≡ b → IsTold (held_text (Some bytes) file other)
    by true q = rw q tt
    by false q = rw q tt

pub module_told : (held : Held) (folders : List (List ℕ)) (name : List ℕ) → IsTold (module_text held folders name)
module_told held [] name = tt
module_told held (folder ∷ folders) name = held_told (files.get held (file_in folder name)) (file_in folder name) (module_text held folders name) (module_told held folders name)

all_answer : (held : Held) (folders loading : List (List ℕ)) (file : List ℕ) → ((name : List ℕ) (s : Loaded) (a : List FileCall) → Some_answer (Loads held folders loading file name s a)) → (imports : List Import) (s : Loaded) (a : List FileCall) → Some_answer (LoadsAll held folders loading file imports s a)
all_answer held folders loading file one [] s a = (a, Ok s, tt, all_loaded)
all_answer held folders loading file one (i ∷ imports) s a = by (one i.name s a) (λ t b. all_answer held folders loading file one imports t b)
  where
    by : Some_answer (Loads held folders loading file i.name s a) → ((t : Loaded) (b : List FileCall) → Some_answer (LoadsAll held folders loading file imports t b)) → Some_answer (LoadsAll held folders loading file (i ∷ imports) s a)
    by (b, Err e, t, l) rest = (b, Err e, t, one_stops l)
    by (b, Ok after, t, l) rest = let r = rest after b in (r.0, r.1, r.2, one_loads l r.3)

module _ (list : TokensOrFault) (form : ModuleOrFault) where
  file_answer : (held : Held) (folders loading : List (List ℕ)) (text : SourceText) (s : Loaded) (a : List FileCall) → ((imports : List Import) → Some_answer (LoadsAll held folders loading text.file imports s a)) → Some_answer (LoadsFile held folders loading text s a)
  file_answer held folders loading text s a all = by (reads_some list form text)
    where
      with_imports : (unit : SourceUnit) → ReadsAs text (Ok unit) → Some_answer (LoadsAll held folders loading text.file unit.«module».imports s a) → Some_answer (LoadsFile held folders loading text s a)
      with_imports unit h (b, Err e, t, l) = (b, Err e, t, imports_stop h l)
      with_imports unit h (b, Ok after, t, l) = (b, _, tt, file_loads h l)

      by : (r : Result SourceUnit LoadFault) × IsTold r × ReadsAs text r → Some_answer (LoadsFile held folders loading text s a)
      by (Err e, t, h) = (a, Err e, t, text_stops h)
      by (Ok unit, t, h) = with_imports unit h (all unit.«module».imports)

  one_answer : (held : Held) (folders loading : List (List ℕ)) (file name : List ℕ) (s : Loaded) (a : List FileCall)
      → (1 + length loading + length s.names < MODULES → (text : SourceText) (b : List FileCall) → Some_answer (LoadsFile held folders (loading ++ name ∷ []) text s b)) → Some_answer (Loads held folders loading file name s a)
  one_answer held folders loading file name s a deeper = by (is_among s.names name) refl (is_among loading name) refl (nat_le MODULES (1 + length loading + length s.names)) refl
    where
      in_file : (text : SourceText) (b : List FileCall) → settled loading file name s ≡ None → Fetches (module_files held folders name) (module_text held folders name) a b (Ok text) → Some_answer (LoadsFile held folders (loading ++ name ∷ []) text s b)
          → Some_answer (Loads held folders loading file name s a)
      in_file text b n f (d, Err e, t, l) = (d, Err e, t, module_stops n f l)
      in_file text b n f (d, Ok after, t, l) = (d, _, tt, module_loads n f l)

      asked : settled loading file name s ≡ None → 1 + length loading + length s.names < MODULES → (r : Result SourceText LoadFault) → IsTold r → r ≡ module_text held folders name → Some_answer (Loads held folders loading file name s a)
      asked n room (Err e) t q = (_, Err e, t, no_text n (all_answered q refl))
      asked n room (Ok text) t q = in_file text _ n (all_answered q refl) (deeper room text _)

      by : (b : Bool) → is_among s.names name ≡ b → (d : Bool) → is_among loading name ≡ d → (m : Bool) → nat_le MODULES (1 + length loading + length s.names) ≡ m → Some_answer (Loads held folders loading file name s a)
      by true q d p m o = (a, Ok s, tt, is_settled (rw q refl))
      by false q true p m o = (a, Err (Cycle file name), tt, is_settled (rw (q, p) refl))
      by false q false p true o = (a, Err (TooMany file), tt, is_settled (rw (q, p, o) refl))
      by false q false p false o = let room : 1 + length loading + length s.names < MODULES = grind (arith, o) in asked (rw (q, p, o) refl) room (module_text held folders name) (module_told held folders name) refl

  one_fewer : (fuel : ℕ) (loading : List (List ℕ)) (name : List ℕ) → MODULES ≤ suc fuel + length loading → MODULES ≤ fuel + length (loading ++ name ∷ [])
  one_fewer fuel loading name h = omega (arith, h, length_push loading name)

  -- The fuel is what is left of the modules that may be loading at once.
  fuelled : (held : Held) (folders : List (List ℕ)) (fuel : ℕ) (loading : List (List ℕ)) → MODULES ≤ fuel + length loading → (file name : List ℕ) (s : Loaded) (a : List FileCall) → Some_answer (Loads held folders loading file name s a)
  fuelled held folders zero loading h file name s a = one_answer held folders loading file name s a (λ room text b. absurd (omega (arith, room, h)))
  fuelled held folders (suc fuel) loading h file name s a = one_answer held folders loading file name s a (λ room text b.
      file_answer held folders (loading ++ name ∷ []) text s b (λ imports. all_answer held folders (loading ++ name ∷ []) text.file (fuelled held folders fuel (loading ++ name ∷ []) (one_fewer fuel loading name h) text.file) imports s b))

  pub at_least_one : AtLeastOne
  at_least_one held path root a = by (root_text held root) (held_told (files.get held root) root (Err (NotFound root)) tt) refl
    where
      in_root : (text : SourceText) (b : List FileCall) → Fetches (root ∷ []) (root_text held root) a b (Ok text) → Some_answer (LoadsFile held (folders_of path) [] text nothing b) → Some_answer (LoadOrder held path root a)
      in_root text b f (d, Err e, t, l) = (d, Err e, t, root_stops f l)
      in_root text b f (d, Ok after, t, l) = (d, _, tt, root_loads f l)

      by : (r : Result SourceText LoadFault) → IsTold r → r ≡ root_text held root → Some_answer (LoadOrder held path root a)
      by (Err e) t q = (_, Err e, t, no_root (all_answered q refl))
      by (Ok text) t q = in_root text _ (all_answered q refl) (file_answer held (folders_of path) [] text nothing _ (λ imports. all_answer held (folders_of path) [] text.file (fuelled held (folders_of path) MODULES [] (omega (arith)) text.file) imports nothing _))
