-- The units of a load order have tokens of their own.
use Rattle.std.proofs.Common.{◌≡◌, ℕ, ◌+◌, ◌++◌, [], ◌∷◌, List, All, length, Some, None, Ok, Err, Bool, true, false, nat_le, refl, sym, subst}
use Rattle.std.proofs.lemmas.List.{length-map}
use Rattle.std.proofs.lemmas.List.Elements.{All-append, All-cons, All-nil}
use Rattle.ctl_base.specs.declared.limits.TheConstants.{MODULES, NESTING}
use Rattle.ctl_tree.specs.Laws.{TokensStand}
use Rattle.ctl_tree.specs.Lexemes.{lexemes_of}
use Rattle.ctl_tree.specs.OwnTokens.{OwnTokensBelow}
use Rattle.ctl_tree.specs.Units.{SourceUnit}
use Rattle.ctl_tree.specs.declared.definition.Import.{Import}
use Rattle.outside.specs.Calls.{FileCall}
use Rattle.outside.specs.Files.{Held}
use Rattle.module_path.specs.LoadOrder.{Loaded, settled, is_among, LoadOrder, LoadsAll, Loads, file_loads, all_loaded, one_loads, is_settled, module_loads, root_loads}
use Rattle.module_path.specs.ModuleFiles.{SourceText}
use Rattle.module_path.specs.Reading.{IsUnit}
use Rattle.module_path.specs.declared.fault.LoadFault.TheVariants.{Cycle, TooMany}
use Rattle.program_laws.specs.Laws.{HasOwnTokens, CheckedProgramsKeepRules, LoadedProgramsKeepRules}

abbrev Owns : Loaded → Type 0
Owns s = All HasOwnTokens s.units

-- what is settled without a fault is loaded already
settled_same : (loading : List (List ℕ)) (file name : List ℕ) (s t : Loaded) → settled loading file name s ≡ Some (Ok t) → t ≡ s
settled_same loading file name s t e = by (is_among s.names name) refl (is_among loading name) refl (nat_le MODULES (1 + length loading + length s.names)) refl
  where
    by : (b : Bool) → is_among s.names name ≡ b → (d : Bool) → is_among loading name ≡ d → (m : Bool) → nat_le MODULES (1 + length loading + length s.names) ≡ m → t ≡ s
    by true q d p m o = let x : settled loading file name s ≡ Some (Ok s) = rw q refl in cc
    by false q true p m o = let x : settled loading file name s ≡ Some (Err (Cycle file name)) = rw (q, p) refl in absurd cc
    by false q false p true o = let x : settled loading file name s ≡ Some (Err (TooMany file)) = rw (q, p, o) refl in absurd cc
    by false q false p false o = let x : settled loading file name s ≡ None = rw (q, p, o) refl in absurd cc

module _ (law : TokensStand) where
  -- a unit that is read
  unit_owns : (text : SourceText) (unit : SourceUnit) → IsUnit text unit → HasOwnTokens unit
  unit_owns text unit is =
      subst (λ (n : ℕ). OwnTokensBelow n unit.«module») (length-map unit.tokens _) (law (lexemes_of text.bytes unit.tokens) (Some NESTING) unit.«module» is.source.spelt)

  one_owns_more : (units : List SourceUnit) (unit : SourceUnit) → All HasOwnTokens units → HasOwnTokens unit → All HasOwnTokens (units ++ unit ∷ [])
  one_owns_more units unit h k = All-append HasOwnTokens units (unit ∷ []) h (All-cons HasOwnTokens unit [] k (All-nil HasOwnTokens))

  mutual
    all_own : {held : Held} {folders loading : List (List ℕ)} {file : List ℕ} {imports : List Import} {s t : Loaded} {a b : List FileCall} → LoadsAll held folders loading file imports s a b (Ok t) → Owns s → Owns t
    all_own all_loaded k = k
    all_own (one_loads one all) k = all_own all (one_own one k)

    one_own : {held : Held} {folders loading : List (List ℕ)} {file name : List ℕ} {s t : Loaded} {a b : List FileCall} → Loads held folders loading file name s a b (Ok t) → Owns s → Owns t
    one_own {loading = loading} {file} {name} {s} {t} (is_settled e) k = subst Owns (sym (settled_same loading file name s t e)) k
    one_own (module_loads {text = text} e f (file_loads {t = t} {unit = unit} r all)) k = one_owns_more t.units unit (all_own all k) (unit_owns text unit r)

  units_own : (held : Held) (path root : List ℕ) (before after : List FileCall) (units : List SourceUnit) → LoadOrder held path root before after (Ok units) → All HasOwnTokens units
  units_own held path root before after units (root_loads {text = text} f (file_loads {t = t} {unit = unit} r all)) = one_owns_more t.units unit (all_own all (All-nil HasOwnTokens)) (unit_owns text unit r)

  pub loaded_keep_rules : CheckedProgramsKeepRules → LoadedProgramsKeepRules
  loaded_keep_rules checked held path root before after units program h e = checked units program (units_own held path root before after units h) e
