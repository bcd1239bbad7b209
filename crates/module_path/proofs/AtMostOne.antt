-- By induction on the first of two walks.
use Rattle.std.proofs.Common.{◌≡◌, ℕ, List, Result, Ok, Err, refl, sym, subst, ap, ◌∙◌}
use Rattle.ctl_tree.specs.declared.definition.Import.{Import}
use Rattle.ctl_tree.specs.Units.{SourceUnit}
use Rattle.outside.specs.Calls.{FileCall}
use Rattle.outside.specs.Files.{Held}
use Rattle.module_path.specs.Laws.{IsTold, AtMostOne}
use Rattle.module_path.specs.LoadOrder.{Loaded, Fetches, all_answered, box_fails, fetch_given_up, with_unit, with_name, LoadsFile, LoadsAll, Loads, LoadOrder, text_stops, imports_stop, file_loads, file_given_up, all_loaded, one_stops, one_loads, is_settled, no_text, module_stops, module_loads, import_given_up, no_root, root_stops, root_loads}
use Rattle.module_path.specs.ModuleFiles.{SourceText}
use Rattle.module_path.specs.declared.fault.LoadFault.{LoadFault}
use Rattle.module_path.proofs.Known.{Known, same_reading, unit_or_fault, same_fault}

-- the same answer after the same calls
abbrev Same : {A : Type 0} → Result A LoadFault → Result A LoadFault → List FileCall → List FileCall → Type 0
Same r r' b b' = (r ≡ r') × (b ≡ b')

pub same_fetch : {files : List (List ℕ)} {told r r' : Result SourceText LoadFault} {a b b' : List FileCall} → Fetches files told a b r → Fetches files told a b' r' → IsTold r → IsTold r' → Same r r' b b'
same_fetch (all_answered e all) (all_answered e' all') t t' = (e ∙ sym e', all ∙ sym all')
same_fetch (all_answered e all) (box_fails n is all') t t' = absurd t'
same_fetch (all_answered e all) (fetch_given_up n all') t t' = absurd t'
same_fetch (box_fails n is all) _ t t' = absurd t
same_fetch (fetch_given_up n all) _ t t' = absurd t

pub move_file : {held : Held} {folders loading : List (List ℕ)} {text text' : SourceText} {s : Loaded} {a a' b : List FileCall} {r : Result Loaded LoadFault} → text ≡ text' → a ≡ a' → LoadsFile held folders loading text s a b r → LoadsFile held folders loading text' s a' b r
move_file {held} {folders} {loading} {text} {text'} {s} {a} {a'} {b} {r} e f l =
    let P : SourceText → Type 0 = λ x. LoadsFile held folders loading x s a b r in
    let Q : List FileCall → Type 0 = λ x. LoadsFile held folders loading text' s x b r in
    subst Q f (subst P e l)

pub move_all : {held : Held} {folders loading : List (List ℕ)} {file : List ℕ} {imports imports' : List Import} {s s' : Loaded} {a a' b : List FileCall} {r : Result Loaded LoadFault} → imports ≡ imports' → s ≡ s' → a ≡ a'
    → LoadsAll held folders loading file imports s a b r → LoadsAll held folders loading file imports' s' a' b r
move_all {held} {folders} {loading} {file} {imports} {imports'} {s} {s'} {a} {a'} {b} {r} e g f l =
    let P : List Import → Type 0 = λ x. LoadsAll held folders loading file x s a b r in
    let S : Loaded → Type 0 = λ x. LoadsAll held folders loading file imports' x a b r in
    let Q : List FileCall → Type 0 = λ x. LoadsAll held folders loading file imports' s' x b r in
    subst Q f (subst S g (subst P e l))

pub ok_apart : {A : Type 0} {x : A} {e : LoadFault} → Ok x ≡ Err e → ⊥
ok_apart q = absurd cc

abbrev as_ok : {A : Type 0} → A → Result A LoadFault
as_ok x = Ok x

abbrev as_err : (A : Type 0) → LoadFault → Result A LoadFault
as_err A e = Err e

pub same_ok : {A : Type 0} {x y : A} → as_ok x ≡ as_ok y → x ≡ y
same_ok q = cc

same_err : {A : Type 0} {e e' : LoadFault} → as_err A e ≡ as_err A e' → e ≡ e'
same_err q = cc

pub imports_same : {u v : SourceUnit} → u ≡ v → u.«module».imports ≡ v.«module».imports
imports_same e = λ i. (e i).«module».imports

mutual
  same_file : Known → {held : Held} {folders loading : List (List ℕ)} {text : SourceText} {s : Loaded} {a b b' : List FileCall} {r r' : Result Loaded LoadFault} → LoadsFile held folders loading text s a b r → LoadsFile held folders loading text s a b' r' → IsTold r → IsTold r' → Same r r' b b'
  same_file known {text = text} (text_stops {e = e} h) (text_stops {e = e'} k) t t' = (ap (λ (x : LoadFault). Err x) (same_fault known text e e' h k t t'), refl)
  same_file known {text = text} (text_stops {e = e} h) (imports_stop {unit = u} k l) t t' = absurd (unit_or_fault known text u e k h t)
  same_file known {text = text} (text_stops {e = e} h) (file_loads {unit = u} k l) t t' = absurd (unit_or_fault known text u e k h t)
  same_file known (text_stops h) (file_given_up l) t t' = absurd t'
  same_file known {text = text} (imports_stop {unit = u} h l) (text_stops {e = e'} k) t t' = absurd (unit_or_fault known text u e' h k t')
  same_file known {text = text} (imports_stop {unit = u} h l) (imports_stop {unit = v} k m) t t' = same_all known l (move_all (imports_same (same_reading known text v u k h)) refl refl m) t t'
  same_file known {text = text} (imports_stop {unit = u} h l) (file_loads {unit = v} k m) t t' = absurd (ok_apart (sym (same_all known l (move_all (imports_same (same_reading known text v u k h)) refl refl m) t tt).0))
  same_file known (imports_stop h l) (file_given_up m) t t' = absurd t'
  same_file known {text = text} (file_loads {unit = u} h l) (text_stops {e = e'} k) t t' = absurd (unit_or_fault known text u e' h k t')
  same_file known {text = text} (file_loads {unit = u} h l) (imports_stop {unit = v} k m) t t' = absurd (ok_apart (same_all known l (move_all (imports_same (same_reading known text v u k h)) refl refl m) tt t').0)
  same_file known {text = text} (file_loads {unit = u} h l) (file_loads {unit = v} k m) t t' =
      let q = same_all known l (move_all (imports_same (same_reading known text v u k h)) refl refl m) tt tt in
      let x = same_ok q.0 in
      let y = same_reading known text u v h k in
      ((λ i. Ok (with_unit (x i) (y i))), q.1)
  same_file known (file_loads h l) (file_given_up m) t t' = absurd t'
  same_file known (file_given_up l) _ t t' = absurd t

  same_all : Known → {held : Held} {folders loading : List (List ℕ)} {file : List ℕ} {imports : List Import} {s : Loaded} {a b b' : List FileCall} {r r' : Result Loaded LoadFault} → LoadsAll held folders loading file imports s a b r → LoadsAll held folders loading file imports s a b' r' → IsTold r → IsTold r' → Same r r' b b'
  same_all known all_loaded all_loaded t t' = (refl, refl)
  same_all known (one_stops one) (one_stops one') t t' = same_one known one one' t t'
  same_all known (one_stops one) (one_loads one' all') t t' = absurd (ok_apart (sym (same_one known one one' t tt).0))
  same_all known (one_loads one all) (one_stops one') t t' = absurd (ok_apart (same_one known one one' tt t').0)
  same_all known (one_loads one all) (one_loads one' all') t t' =
      let q = same_one known one one' tt tt in
      same_all known all (move_all refl (sym (same_ok q.0)) (sym q.1) all') t t'

  pub same_one : Known → {held : Held} {folders loading : List (List ℕ)} {file name : List ℕ} {s : Loaded} {a b b' : List FileCall} {r r' : Result Loaded LoadFault} → Loads held folders loading file name s a b r → Loads held folders loading file name s a b' r' → IsTold r → IsTold r' → Same r r' b b'
  same_one known {r = r} {r' = r'} (is_settled q) (is_settled q') t t' = let e : r ≡ r' = cc in (e, refl)
  same_one known (is_settled q) (no_text n f) t t' = absurd cc
  same_one known (is_settled q) (module_stops n f l) t t' = absurd cc
  same_one known (is_settled q) (module_loads n f l) t t' = absurd cc
  same_one known (is_settled q) (import_given_up l) t t' = absurd t'
  same_one known (no_text n f) (is_settled q) t t' = absurd cc
  same_one known (no_text {e = e} n f) (no_text {e = e'} n' f') t t' = let q = same_fetch f f' t t' in let x = same_err q.0 in (ap (λ (y : LoadFault). Err y) x, q.1)
  same_one known (no_text n f) (module_stops n' f' l) t t' = absurd (ok_apart (sym (same_fetch f f' t tt).0))
  same_one known (no_text n f) (module_loads n' f' l) t t' = absurd (ok_apart (sym (same_fetch f f' t tt).0))
  same_one known (no_text n f) (import_given_up l) t t' = absurd t'
  same_one known (module_stops n f l) (is_settled q) t t' = absurd cc
  same_one known (module_stops n f l) (no_text n' f') t t' = absurd (ok_apart (same_fetch f f' tt t').0)
  same_one known (module_stops n f l) (module_stops n' f' l') t t' = let q = same_fetch f f' tt tt in same_file known l (move_file (sym (same_ok q.0)) (sym q.1) l') t t'
  same_one known (module_stops n f l) (module_loads n' f' l') t t' = let q = same_fetch f f' tt tt in absurd (ok_apart (sym (same_file known l (move_file (sym (same_ok q.0)) (sym q.1) l') t tt).0))
  same_one known (module_stops n f l) (import_given_up m) t t' = absurd t'
  same_one known (module_loads n f l) (is_settled q) t t' = absurd cc
  same_one known (module_loads n f l) (no_text n' f') t t' = absurd (ok_apart (same_fetch f f' tt t').0)
  same_one known (module_loads n f l) (module_stops n' f' l') t t' = let q = same_fetch f f' tt tt in absurd (ok_apart (same_file known l (move_file (sym (same_ok q.0)) (sym q.1) l') tt t').0)
  same_one known {name = name} (module_loads n f l) (module_loads n' f' l') t t' =
      let q = same_fetch f f' tt tt in
      let p = same_file known l (move_file (sym (same_ok q.0)) (sym q.1) l') tt tt in
      let x = same_ok p.0 in
      ((λ i. Ok (with_name (x i) name)), p.1)
  same_one known (module_loads n f l) (import_given_up m) t t' = absurd t'
  same_one known (import_given_up l) _ t t' = absurd t

at_root : Known → {held : Held} {path root : List ℕ} {a b b' : List FileCall} {r r' : Result (List SourceUnit) LoadFault} → LoadOrder held path root a b r → LoadOrder held path root a b' r' → IsTold r → IsTold r' → Same r r' b b'
at_root known (no_root {e = e} f) (no_root {e = e'} f') t t' = let q = same_fetch f f' t t' in let x = same_err q.0 in (ap (λ (y : LoadFault). Err y) x, q.1)
at_root known (no_root f) (root_stops f' l) t t' = absurd (ok_apart (sym (same_fetch f f' t tt).0))
at_root known (no_root f) (root_loads f' l) t t' = absurd (ok_apart (sym (same_fetch f f' t tt).0))
at_root known (root_stops f l) (no_root f') t t' = absurd (ok_apart (same_fetch f f' tt t').0)
at_root known (root_stops {e = e} f l) (root_stops {e = e'} f' l') t t' =
    let q = same_fetch f f' tt tt in
    let p = same_file known l (move_file (sym (same_ok q.0)) (sym q.1) l') t t' in
    let x = same_err p.0 in
    (ap (λ (y : LoadFault). Err y) x, p.1)
at_root known (root_stops f l) (root_loads f' l') t t' = let q = same_fetch f f' tt tt in absurd (ok_apart (sym (same_file known l (move_file (sym (same_ok q.0)) (sym q.1) l') t tt).0))
at_root known (root_loads f l) (no_root f') t t' = absurd (ok_apart (same_fetch f f' tt t').0)
at_root known (root_loads f l) (root_stops f' l') t t' = let q = same_fetch f f' tt tt in absurd (ok_apart (same_file known l (move_file (sym (same_ok q.0)) (sym q.1) l') tt t').0)
at_root known (root_loads f l) (root_loads f' l') t t' =
    let q = same_fetch f f' tt tt in
    let p = same_file known l (move_file (sym (same_ok q.0)) (sym q.1) l') tt tt in
    let x = same_ok p.0 in
    ((λ i. Ok ((x i).units)), p.1)

pub at_most_one : Known → AtMostOne
at_most_one known held path root before after elsewhere answer other a b t t' = at_root known a b t t'
