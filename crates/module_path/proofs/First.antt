-- A walk that is cut short asks for the first of the names that the whole walk asks for.
use Rattle.std.proofs.Common.{◌≡◌, ℕ, zero, suc, ◌++◌, [], ◌∷◌, List, take, drop, slice_get, true, Some, Result, refl, sym, ap, ◌∙◌}
use Rattle.std.proofs.lemmas.List.{append_assoc, append-nil, map-append}
use Rattle.ctl_tree.specs.declared.definition.Import.{Import}
use Rattle.ctl_tree.specs.Units.{SourceUnit}
use Rattle.outside.specs.Calls.{FileCall, Fetch, file_call}
use Rattle.outside.specs.Files.{Held}
use Rattle.module_path.specs.Laws.{IsTold, names_asked, AsksForTheFirst}
use Rattle.module_path.specs.LoadOrder.{Loaded, Fetches, all_answered, box_fails, fetch_given_up, answered, LoadsFile, LoadsAll, Loads, LoadOrder, text_stops, imports_stop, file_loads, file_given_up, all_loaded, one_stops, one_loads, is_settled, no_text, module_stops, module_loads, import_given_up, no_root, root_stops, root_loads}
use Rattle.module_path.specs.ModuleFiles.{SourceText}
use Rattle.module_path.specs.declared.fault.LoadFault.{LoadFault}
use Rattle.module_path.proofs.Known.{Known, same_reading, unit_or_fault}
use Rattle.module_path.proofs.AtMostOne.{same_fetch, same_one, move_all, move_file, same_ok, ok_apart, imports_same}

-- the names of the one begin those of the other
record Begins (a b : List FileCall) : Type 0 where
  others : List (List ℕ)
  goes_on : names_asked b ≡ names_asked a ++ others

begins_itself : (a : List FileCall) → Begins a a
begins_itself a = record { others = []; goes_on = sym (append-nil (names_asked a)) }

begins_on : {a b c : List FileCall} → Begins a b → Begins b c → Begins a c
begins_on {a} p q = record { others = p.others ++ q.others; goes_on = q.goes_on ∙ ap (λ (x : List (List ℕ)). x ++ q.others) p.goes_on ∙ append_assoc (names_asked a) p.others q.others }

names_answered : (files : List (List ℕ)) → names_asked (answered files) ≡ files
names_answered [] = refl
names_answered (file ∷ files) = ap (λ (x : List (List ℕ)). file ∷ x) (names_answered files)

asked_on : (a b : List FileCall) (files : List (List ℕ)) → b ≡ a ++ answered files → names_asked b ≡ names_asked a ++ files
asked_on a b files e = ap names_asked e ∙ map-append (λ (c : FileCall). c.name) a (answered files) ∙ ap (λ (x : List (List ℕ)). names_asked a ++ x) (names_answered files)

cut_at : (files : List (List ℕ)) (n : ℕ) → take n files ++ drop n files ≡ files
cut_at files zero = refl
cut_at [] (suc n) = refl
cut_at (file ∷ files) (suc n) = ap (λ (x : List (List ℕ)). file ∷ x) (cut_at files n)

cut_behind : (files : List (List ℕ)) (n : ℕ) (file : List ℕ) → slice_get files n ≡ Some file → (take n files ++ file ∷ []) ++ drop (suc n) files ≡ files
cut_behind [] n file e = absurd cc
cut_behind (f ∷ files) zero file e = let s : file ≡ f = cc in ap (λ (x : List ℕ). x ∷ files) s
cut_behind (f ∷ files) (suc n) file e = ap (λ (x : List (List ℕ)). f ∷ x) (cut_behind files n file e)

failed_on : (a b : List FileCall) (files : List (List ℕ)) (file : List ℕ) → b ≡ (a ++ answered files) ++ file_call Fetch file true ∷ [] → names_asked b ≡ names_asked a ++ (files ++ file ∷ [])
failed_on a b files file e =
    ap names_asked e ∙ map-append (λ (c : FileCall). c.name) (a ++ answered files) (file_call Fetch file true ∷ []) ∙ ap (λ (x : List (List ℕ)). x ++ (file ∷ [])) (asked_on a (a ++ answered files) files refl)
    ∙ append_assoc (names_asked a) files (file ∷ [])

first_fetch : {files : List (List ℕ)} {told r r' : Result SourceText LoadFault} {a b b' : List FileCall} → Fetches files told a b r → Fetches files told a b' r' → IsTold r' → Begins b b'
first_fetch {files} {a = a} {b} {b'} (all_answered e all) (all_answered e' all') t = record { others = []; goes_on = asked_on a b' files all' ∙ sym (asked_on a b files all) ∙ sym (append-nil (names_asked b)) }
first_fetch {files} {a = a} {b} {b'} (box_fails {file = file} n is all) (all_answered e' all') t = record {
  others = drop (suc n) files;
  goes_on = asked_on a b' files all' ∙ ap (λ (x : List (List ℕ)). names_asked a ++ x) (sym (cut_behind files n file is)) ∙ sym (append_assoc (names_asked a) (take n files ++ file ∷ []) (drop (suc n) files))
      ∙ ap (λ (x : List (List ℕ)). x ++ drop (suc n) files) (sym (failed_on a b (take n files) file all));
}
first_fetch {files} {a = a} {b} {b'} (fetch_given_up n all) (all_answered e' all') t = record {
  others = drop n files;
  goes_on = asked_on a b' files all' ∙ ap (λ (x : List (List ℕ)). names_asked a ++ x) (sym (cut_at files n)) ∙ sym (append_assoc (names_asked a) (take n files) (drop n files))
      ∙ ap (λ (x : List (List ℕ)). x ++ drop n files) (sym (asked_on a b (take n files) all));
}
first_fetch f (box_fails n is all) t = absurd t
first_fetch f (fetch_given_up n all) t = absurd t

grows_fetch : {files : List (List ℕ)} {told r : Result SourceText LoadFault} {a b : List FileCall} → Fetches files told a b r → Begins a b
grows_fetch {files} {a = a} {b} (all_answered e all) = record { others = files; goes_on = asked_on a b files all }
grows_fetch {files} {a = a} {b} (box_fails {file = file} n is all) = record { others = take n files ++ file ∷ []; goes_on = failed_on a b (take n files) file all }
grows_fetch {files} {a = a} {b} (fetch_given_up n all) = record { others = take n files; goes_on = asked_on a b (take n files) all }

mutual
  grows_file : {held : Held} {folders loading : List (List ℕ)} {text : SourceText} {s : Loaded} {a b : List FileCall} {r : Result Loaded LoadFault} → LoadsFile held folders loading text s a b r → Begins a b
  grows_file {a = a} (text_stops h) = begins_itself a
  grows_file (imports_stop h l) = grows_all l
  grows_file (file_loads h l) = grows_all l
  grows_file (file_given_up l) = grows_file l

  grows_all : {held : Held} {folders loading : List (List ℕ)} {file : List ℕ} {imports : List Import} {s : Loaded} {a b : List FileCall} {r : Result Loaded LoadFault} → LoadsAll held folders loading file imports s a b r → Begins a b
  grows_all {a = a} all_loaded = begins_itself a
  grows_all (one_stops one) = grows_one one
  grows_all (one_loads one all) = begins_on (grows_one one) (grows_all all)

  grows_one : {held : Held} {folders loading : List (List ℕ)} {file name : List ℕ} {s : Loaded} {a b : List FileCall} {r : Result Loaded LoadFault} → Loads held folders loading file name s a b r → Begins a b
  grows_one {a = a} (is_settled q) = begins_itself a
  grows_one (no_text n f) = grows_fetch f
  grows_one (module_stops n f l) = begins_on (grows_fetch f) (grows_file l)
  grows_one (module_loads n f l) = begins_on (grows_fetch f) (grows_file l)
  grows_one (import_given_up l) = grows_one l

mutual
  first_file : Known → {held : Held} {folders loading : List (List ℕ)} {text : SourceText} {s : Loaded} {a b b' : List FileCall} {r r' : Result Loaded LoadFault} → LoadsFile held folders loading text s a b r → LoadsFile held folders loading text s a b' r' → IsTold r' → Begins b b'
  first_file known (text_stops h) l t = grows_file l
  first_file known {text = text} (imports_stop {unit = u} h l) (text_stops {e = e'} k) t = absurd (unit_or_fault known text u e' h k t)
  first_file known {text = text} (imports_stop {unit = u} h l) (imports_stop {unit = v} k m) t = first_all known l (move_all (imports_same (same_reading known text v u k h)) refl refl m) t
  first_file known {text = text} (imports_stop {unit = u} h l) (file_loads {unit = v} k m) t = first_all known l (move_all (imports_same (same_reading known text v u k h)) refl refl m) tt
  first_file known (imports_stop h l) (file_given_up m) t = absurd t
  first_file known {text = text} (file_loads {unit = u} h l) (text_stops {e = e'} k) t = absurd (unit_or_fault known text u e' h k t)
  first_file known {text = text} (file_loads {unit = u} h l) (imports_stop {unit = v} k m) t = first_all known l (move_all (imports_same (same_reading known text v u k h)) refl refl m) t
  first_file known {text = text} (file_loads {unit = u} h l) (file_loads {unit = v} k m) t = first_all known l (move_all (imports_same (same_reading known text v u k h)) refl refl m) tt
  first_file known (file_loads h l) (file_given_up m) t = absurd t
  first_file known (file_given_up l) m t = first_file known l m t

  first_all : Known → {held : Held} {folders loading : List (List ℕ)} {file : List ℕ} {imports : List Import} {s : Loaded} {a b b' : List FileCall} {r r' : Result Loaded LoadFault} → LoadsAll held folders loading file imports s a b r → LoadsAll held folders loading file imports s a b' r' → IsTold r' → Begins b b'
  first_all known {a = a} all_loaded all_loaded t = begins_itself a
  first_all known (one_stops one) (one_stops one') t = first_one known one one' t
  first_all known (one_stops one) (one_loads one' all') t = begins_on (first_one known one one' tt) (grows_all all')
  first_all known (one_loads one all) (one_stops one') t = absurd (ok_apart (same_one known one one' tt t).0)
  first_all known (one_loads one all) (one_loads one' all') t =
      let q = same_one known one one' tt tt in
      first_all known all (move_all refl (sym (same_ok q.0)) (sym q.1) all') t

  first_one : Known → {held : Held} {folders loading : List (List ℕ)} {file name : List ℕ} {s : Loaded} {a b b' : List FileCall} {r r' : Result Loaded LoadFault} → Loads held folders loading file name s a b r → Loads held folders loading file name s a b' r' → IsTold r' → Begins b b'
  first_one known (is_settled q) l t = grows_one l
  first_one known (no_text n f) (is_settled q) t = absurd cc
  first_one known (no_text n f) (no_text n' f') t = first_fetch f f' t
  first_one known (no_text n f) (module_stops n' f' l) t = begins_on (first_fetch f f' tt) (grows_file l)
  first_one known (no_text n f) (module_loads n' f' l) t = begins_on (first_fetch f f' tt) (grows_file l)
  first_one known (no_text n f) (import_given_up l) t = absurd t
  first_one known (module_stops n f l) (is_settled q) t = absurd cc
  first_one known (module_stops n f l) (no_text n' f') t = absurd (ok_apart (same_fetch f f' tt t).0)
  first_one known (module_stops n f l) (module_stops n' f' l') t = let q = same_fetch f f' tt tt in first_file known l (move_file (sym (same_ok q.0)) (sym q.1) l') t
  first_one known (module_stops n f l) (module_loads n' f' l') t = let q = same_fetch f f' tt tt in first_file known l (move_file (sym (same_ok q.0)) (sym q.1) l') tt
  first_one known (module_stops n f l) (import_given_up m) t = absurd t
  first_one known (module_loads n f l) (is_settled q) t = absurd cc
  first_one known (module_loads n f l) (no_text n' f') t = absurd (ok_apart (same_fetch f f' tt t).0)
  first_one known (module_loads n f l) (module_stops n' f' l') t = let q = same_fetch f f' tt tt in first_file known l (move_file (sym (same_ok q.0)) (sym q.1) l') t
  first_one known (module_loads n f l) (module_loads n' f' l') t = let q = same_fetch f f' tt tt in first_file known l (move_file (sym (same_ok q.0)) (sym q.1) l') tt
  first_one known (module_loads n f l) (import_given_up m) t = absurd t
  first_one known (import_given_up l) m t = first_one known l m t

at_root : Known → {held : Held} {path root : List ℕ} {a b b' : List FileCall} {r r' : Result (List SourceUnit) LoadFault} → LoadOrder held path root a b r → LoadOrder held path root a b' r' → IsTold r' → Begins b b'
at_root known (no_root f) (no_root f') t = first_fetch f f' t
at_root known (no_root f) (root_stops f' l) t = begins_on (first_fetch f f' tt) (grows_file l)
at_root known (no_root f) (root_loads f' l) t = begins_on (first_fetch f f' tt) (grows_file l)
at_root known (root_stops f l) (no_root f') t = absurd (ok_apart (same_fetch f f' tt t).0)
at_root known (root_stops f l) (root_stops f' l') t = let q = same_fetch f f' tt tt in first_file known l (move_file (sym (same_ok q.0)) (sym q.1) l') t
at_root known (root_stops f l) (root_loads f' l') t = let q = same_fetch f f' tt tt in first_file known l (move_file (sym (same_ok q.0)) (sym q.1) l') tt
at_root known (root_loads f l) (no_root f') t = absurd (ok_apart (same_fetch f f' tt t).0)
at_root known (root_loads f l) (root_stops f' l') t = let q = same_fetch f f' tt tt in first_file known l (move_file (sym (same_ok q.0)) (sym q.1) l') t
at_root known (root_loads f l) (root_loads f' l') t = let q = same_fetch f f' tt tt in first_file known l (move_file (sym (same_ok q.0)) (sym q.1) l') tt

pub asks_for_the_first : Known → AsksForTheFirst
asks_for_the_first known held path root before after cut answer other whole t short = let p = at_root known short whole t in (p.others, p.goes_on)
