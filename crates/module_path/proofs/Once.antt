-- Each module is loaded once.
use Rattle.std.proofs.Common.{◌≡◌, ℕ, ◌++◌, [], ◌∷◌, List, Some, None, Result, Ok, Err, Bool, true, false, ◌||◌, refl, sym, subst, ap, ◌∙◌, nat_eq, nat_le, ◌+◌, length, Decides}
use Rattle.std.specs.Cmp.Lexicographic.{pointwise}
use Rattle.std.specs.Cmp.{unsigned_Decides}
use Rattle.std.proofs.lemmas.Bool.{false≢true}
use Rattle.std.proofs.lemmas.List.Folds.{list_any-append}
use Rattle.std.proofs.lemmas.Slice.Eq.{slice_eq-Decides}
use Rattle.ctl_base.specs.declared.limits.TheConstants.{MODULES}
use Rattle.ctl_tree.specs.declared.definition.Import.{Import}
use Rattle.outside.specs.Calls.{FileCall}
use Rattle.outside.specs.Files.{Held}
use Rattle.module_path.specs.Laws.{AreModules, no_module, one_module_more, EachOnce}
use Rattle.module_path.specs.LoadOrder.{Loaded, settled, is_among, Fetches, all_answered, LoadsFile, LoadsAll, Loads, file_loads, all_loaded, one_loads, is_settled, module_loads, root_loads}
use Rattle.module_path.specs.ModuleFiles.{SourceText}
use Rattle.module_path.specs.declared.fault.LoadFault.{LoadFault}
use Rattle.module_path.specs.declared.fault.LoadFault.TheVariants.{Cycle, TooMany}

same_name : (a b : List ℕ) → Decides (pointwise nat_eq a b) (a ≡ b)
same_name a b = slice_eq-Decides unsigned_Decides a b (pointwise nat_eq a b) refl

among_more : (names : List (List ℕ)) (name n : List ℕ) → is_among (names ++ name ∷ []) n ≡ (is_among names n || (pointwise nat_eq name n || false))
among_more names name n = list_any-append (λ m. pointwise nat_eq m n) names (name ∷ [])

still_among : (loading : List (List ℕ)) (name n : List ℕ) → is_among loading n ≡ true → is_among (loading ++ name ∷ []) n ≡ true
still_among loading name n h = among_more loading name n ∙ rw h refl

itself_among : (loading : List (List ℕ)) (name : List ℕ) → is_among (loading ++ name ∷ []) name ≡ true
itself_among loading name = among_more loading name name ∙ by (is_among loading name)
  where
    same : pointwise nat_eq name name ≡ true
    same = (same_name name name).1 refl

    by : (b : Bool) → (b || (pointwise nat_eq name name || false)) ≡ true
    by true = refl
    by false = rw same refl

-- a name that is being loaded is not the one that is put last
not_put : (loading names : List (List ℕ)) (name n : List ℕ) → is_among loading name ≡ false → is_among loading n ≡ true → is_among names n ≡ false → is_among (names ++ name ∷ []) n ≡ false
not_put loading names name n out into h = among_more names name n ∙ rw h (by (pointwise nat_eq name n) refl)
  where
    by : (b : Bool) → pointwise nat_eq name n ≡ b → (pointwise nat_eq name n || false) ≡ false
    by false q = rw q refl
    by true q = let e : name ≡ n = (same_name name n).0 q in absurd (false≢true (sym out ∙ (ap (is_among loading) e ∙ into)))

-- what settled says

settled_same : (loading : List (List ℕ)) (file name : List ℕ) (s t : Loaded) → settled loading file name s ≡ Some (Ok t) → t ≡ s
settled_same loading file name s t e = by (is_among s.names name) refl (is_among loading name) refl (nat_le MODULES (1 + length loading + length s.names)) refl
  where
    by : (b : Bool) → is_among s.names name ≡ b → (d : Bool) → is_among loading name ≡ d → (m : Bool) → nat_le MODULES (1 + length loading + length s.names) ≡ m → t ≡ s
    by true q d p m o = let x : settled loading file name s ≡ Some (Ok s) = rw q refl in cc
    by false q true p m o = let x : settled loading file name s ≡ Some (Err (Cycle file name)) = rw (q, p) refl in absurd cc
    by false q false p true o = let x : settled loading file name s ≡ Some (Err (TooMany file)) = rw (q, p, o) refl in absurd cc
    by false q false p false o = let x : settled loading file name s ≡ None = rw (q, p, o) refl in absurd cc

unsettled_out : (loading : List (List ℕ)) (file name : List ℕ) (s : Loaded) → settled loading file name s ≡ None → (is_among s.names name ≡ false) × (is_among loading name ≡ false)
unsettled_out loading file name s e = by (is_among s.names name) refl (is_among loading name) refl
  where
    by : (b : Bool) → is_among s.names name ≡ b → (d : Bool) → is_among loading name ≡ d → (is_among s.names name ≡ false) × (is_among loading name ≡ false)
    by true q d p = let x : settled loading file name s ≡ Some (Ok s) = rw q refl in absurd cc
    by false q true p = let x : settled loading file name s ≡ Some (Err (Cycle file name)) = rw (q, p) refl in absurd cc
    by false q false p = (q, p)

told_text : {files : List (List ℕ)} {told : Result SourceText LoadFault} {a b : List FileCall} {text : SourceText} → Fetches files told a b (Ok text) → told ≡ Ok text
told_text (all_answered e all) = sym e

-- What is being loaded is not loaded by an import.
mutual
  file_out : {held : Held} {folders loading : List (List ℕ)} {text : SourceText} {s t : Loaded} {a b : List FileCall} (n : List ℕ) → LoadsFile held folders loading text s a b (Ok t) → is_among loading n ≡ true → is_among s.names n ≡ false → is_among t.names n ≡ false
  file_out n (file_loads r all) p q = all_out n all p q

  all_out : {held : Held} {folders loading : List (List ℕ)} {file : List ℕ} {imports : List Import} {s t : Loaded} {a b : List FileCall} (n : List ℕ) → LoadsAll held folders loading file imports s a b (Ok t) → is_among loading n ≡ true → is_among s.names n ≡ false → is_among t.names n ≡ false
  all_out n all_loaded p q = q
  all_out n (one_loads one all) p q = all_out n all p (one_out n one p q)

  one_out : {held : Held} {folders loading : List (List ℕ)} {file name : List ℕ} {s t : Loaded} {a b : List FileCall} (n : List ℕ) → Loads held folders loading file name s a b (Ok t) → is_among loading n ≡ true → is_among s.names n ≡ false → is_among t.names n ≡ false
  one_out {loading = loading} {file} {name} {s} {t} n (is_settled e) p q = let P : Loaded → Type 0 = λ x. is_among x.names n ≡ false in subst P (sym (settled_same loading file name s t e)) q
  one_out {loading = loading} {file} {name} {s} n (module_loads {t = inner} e f l) p q = not_put loading inner.names name n (unsettled_out loading file name s e).1 p (file_out n l (still_among loading name n p) q)

-- So each module that is loaded stands once.
mutual
  all_once : {held : Held} {folders loading : List (List ℕ)} {file : List ℕ} {imports : List Import} {s t : Loaded} {a b : List FileCall} → LoadsAll held folders loading file imports s a b (Ok t) → AreModules held folders s.names s.units → AreModules held folders t.names t.units
  all_once all_loaded k = k
  all_once (one_loads one all) k = all_once all (one_once one k)

  one_once : {held : Held} {folders loading : List (List ℕ)} {file name : List ℕ} {s t : Loaded} {a b : List FileCall} → Loads held folders loading file name s a b (Ok t) → AreModules held folders s.names s.units → AreModules held folders t.names t.units
  one_once {held} {folders} {loading} {file} {name} {s} {t} (is_settled e) k = let P : Loaded → Type 0 = λ x. AreModules held folders x.names x.units in subst P (sym (settled_same loading file name s t e)) k
  one_once {loading = loading} {file} {name} {s} (module_loads {text = text} e f (file_loads r all)) k =
      let out = unsettled_out loading file name s e in
      one_module_more (all_once all k) (all_out name all (itself_among loading name) out.0) (record { text = text; held_there = told_text f; is_unit = r })

pub each_once : EachOnce
each_once held path root before after units (root_loads f (file_loads {t = t} {unit = unit} r all)) =
    record { names = t.names; modules = t.units; root = unit; are_modules = all_once all no_module; root_last = refl }
