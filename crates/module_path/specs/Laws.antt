-- What holds of load orders.
use Rattle.std.specs.Prelude.{◌≡◌, ℕ, List, [], ◌∷◌, ◌++◌, map, true, false, Result, Ok, Err}
use Rattle.ctl_tree.specs.Units.{SourceUnit}
use Rattle.outside.specs.Calls.{FileCall, Fetch, file_call}
use Rattle.outside.specs.Files.{Held}
use Rattle.module_path.specs.LoadOrder.{LoadOrder, is_among}
use Rattle.module_path.specs.ModuleFiles.{SourceText, folders_of, module_text}
use Rattle.module_path.specs.Reading.{IsUnit}
use Rattle.module_path.specs.declared.fault.LoadFault.{LoadFault}
use Rattle.module_path.specs.declared.fault.LoadFault.TheVariants.{ReadFault, Memory}

-- the box did not fail, and memory did not run out
abbrev pub IsToldFault : LoadFault → Type 0
IsToldFault (ReadFault name) = ⊥
IsToldFault Memory = ⊥
IsToldFault e = Unit {0}

abbrev pub IsTold : {A : Type 0} → Result A LoadFault → Type 0
IsTold (Ok x) = Unit {0}
IsTold (Err e) = IsToldFault e

-- what is held, a path and a root have at most one answer, and ask for the same files
abbrev pub AtMostOne : Type 0
AtMostOne = (held : Held) (path root : List ℕ) (before after elsewhere : List FileCall) (answer other : Result (List SourceUnit) LoadFault)
    → LoadOrder held path root before after answer → LoadOrder held path root before elsewhere other → IsTold answer → IsTold other → (answer ≡ other) × (after ≡ elsewhere)

-- they have an answer
abbrev pub AtLeastOne : Type 0
AtLeastOne = (held : Held) (path root : List ℕ) (before : List FileCall) → (after : List FileCall) × (answer : Result (List SourceUnit) LoadFault) × IsTold answer × LoadOrder held path root before after answer

-- the unit is what the text of the module reads as
pub record IsModuleOf (held : Held) (folders : List (List ℕ)) (name : List ℕ) (unit : SourceUnit) : Type 0 where
  pub text : SourceText
  pub held_there : module_text held folders name ≡ Ok text
  pub is_unit : IsUnit text unit

-- the units are those of modules of these names, and no name stands twice
pub data AreModules (held : Held) (folders : List (List ℕ)) : List (List ℕ) → List SourceUnit → Type 0 where
  no_module : AreModules held folders [] []
  one_module_more : {names : List (List ℕ)} {units : List SourceUnit} {name : List ℕ} {unit : SourceUnit} → AreModules held folders names units → is_among names name ≡ false → IsModuleOf held folders name unit
      → AreModules held folders (names ++ name ∷ []) (units ++ unit ∷ [])

-- each unit before the root's is a module's, and no module stands twice
pub record AreOnce (held : Held) (path : List ℕ) (units : List SourceUnit) : Type 0 where
  pub names : List (List ℕ)
  pub modules : List SourceUnit
  pub root : SourceUnit
  pub are_modules : AreModules held (folders_of path) names modules
  pub root_last : units ≡ modules ++ root ∷ []

-- in every load order each module stands once
abbrev pub EachOnce : Type 0
EachOnce = (held : Held) (path root : List ℕ) (before after : List FileCall) (units : List SourceUnit) → LoadOrder held path root before after (Ok units) → AreOnce held path units

-- the names that were asked for
abbrev pub names_asked : List FileCall → List (List ℕ)
names_asked = map (λ call. call.name)

-- Where the box fails or memory runs out, the names asked for are the first of those that the answer asks for.
abbrev pub AsksForTheFirst : Type 0
AsksForTheFirst = (held : Held) (path root : List ℕ) (before after cut : List FileCall) (answer other : Result (List SourceUnit) LoadFault)
    → LoadOrder held path root before after answer → IsTold answer → LoadOrder held path root before cut other
    → (others : List (List ℕ)) × (names_asked after ≡ names_asked cut ++ others)

-- a read fault names the file of the last call, which failed
abbrev pub ReadFaultIsLast : Type 0
ReadFaultIsLast = (held : Held) (path root : List ℕ) (before after : List FileCall) (name : List ℕ) → LoadOrder held path root before after (Err (ReadFault name))
    → (calls : List FileCall) × (after ≡ calls ++ file_call Fetch name true ∷ [])
