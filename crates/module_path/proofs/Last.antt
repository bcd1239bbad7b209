-- A read fault names the file of the last call, which failed.
use Rattle.std.proofs.Common.{◌≡◌, ℕ, ◌+◌, ◌++◌, [], ◌∷◌, List, length, Bool, true, false, Some, None, Result, Ok, Err, nat_le, refl, sym, subst}
use Rattle.ctl_base.specs.declared.limits.TheConstants.{MODULES}
use Rattle.ctl_tree.specs.declared.definition.Import.{Import}
use Rattle.outside.specs.Calls.{FileCall, Fetch, file_call}
use Rattle.outside.specs.Files.{Held}
use Rattle.std.specs.FinMap as files
use Rattle.module_path.specs.Laws.{IsTold, ReadFaultIsLast}
use Rattle.module_path.specs.LoadOrder.{Loaded, settled, is_among, Fetches, all_answered, box_fails, LoadsFile, LoadsAll, Loads, text_stops, imports_stop, one_stops, one_loads, is_settled, no_text, module_stops, no_root, root_stops}
use Rattle.module_path.specs.ModuleFiles.{SourceText}
use Rattle.module_path.specs.declared.fault.LoadFault.{LoadFault}
use Rattle.module_path.specs.declared.fault.LoadFault.TheVariants.{Cycle, TooMany, NotFound, ReadFault}
use Rattle.module_path.proofs.AtLeastOne.{held_told, module_told}

-- the last call failed on this file
abbrev EndsOn : List FileCall → List ℕ → Type 0
EndsOn after name = (calls : List FileCall) × (after ≡ calls ++ file_call Fetch name true ∷ [])

last_fetch : {files : List (List ℕ)} {told : Result SourceText LoadFault} {a b : List FileCall} {name : List ℕ} → IsTold told → Fetches files told a b (Err (ReadFault name)) → EndsOn b name
last_fetch t (all_answered e all) = let P : Result SourceText LoadFault → Type 0 = λ r. IsTold r in absurd (subst P (sym e) t)
last_fetch {files} {a = a} t (box_fails n is all) = (_, all)

not_settled : (loading : List (List ℕ)) (file name asked : List ℕ) (s : Loaded) → settled loading file name s ≡ Some (Err (ReadFault asked)) → ⊥
not_settled loading file name asked s e = by (is_among s.names name) refl (is_among loading name) refl (nat_le MODULES (1 + length loading + length s.names)) refl
  where
    by : (b : Bool) → is_among s.names name ≡ b → (d : Bool) → is_among loading name ≡ d → (m : Bool) → nat_le MODULES (1 + length loading + length s.names) ≡ m → ⊥
    by true q d p m o = let x : settled loading file name s ≡ Some (Ok s) = rw q refl in absurd cc
    by false q true p m o = let x : settled loading file name s ≡ Some (Err (Cycle file name)) = rw (q, p) refl in absurd cc
    by false q false p true o = let x : settled loading file name s ≡ Some (Err (TooMany file)) = rw (q, p, o) refl in absurd cc
    by false q false p false o = let x : settled loading file name s ≡ None = rw (q, p, o) refl in absurd cc

mutual
  last_file : {held : Held} {folders loading : List (List ℕ)} {text : SourceText} {s : Loaded} {a b : List FileCall} {name : List ℕ} → LoadsFile held folders loading text s a b (Err (ReadFault name)) → EndsOn b name
  last_file (text_stops h) = absurd h
  last_file (imports_stop h l) = last_all l

  last_all : {held : Held} {folders loading : List (List ℕ)} {file : List ℕ} {imports : List Import} {s : Loaded} {a b : List FileCall} {name : List ℕ} → LoadsAll held folders loading file imports s a b (Err (ReadFault name)) → EndsOn b name
  last_all (one_stops one) = last_one one
  last_all (one_loads one all) = last_all all

  last_one : {held : Held} {folders loading : List (List ℕ)} {file import : List ℕ} {s : Loaded} {a b : List FileCall} {name : List ℕ} → Loads held folders loading file import s a b (Err (ReadFault name)) → EndsOn b name
  last_one {loading = loading} {file} {import} {s} {name = name} (is_settled q) = absurd (not_settled loading file import name s q)
  last_one {held} {folders} {import = import} (no_text n f) = last_fetch (module_told held folders import) f
  last_one (module_stops n f l) = last_file l

pub read_fault_is_last : ReadFaultIsLast
read_fault_is_last held path root before after name (no_root f) = last_fetch (held_told (files.get held root) root (Err (NotFound root)) tt) f
read_fault_is_last held path root before after name (root_stops f l) = last_file l
