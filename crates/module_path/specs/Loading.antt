-- What the answers of `load` say.
use Rattle.std.specs.Prelude.{◌≡◌, ℕ, List, Result, Ok, Err}
use Rattle.ctl_tree.specs.Units.{SourceUnit}
use Rattle.outside.specs.Causes.{Rose}
use Rattle.module_path.specs.declared.fault.LoadFault.{LoadFault}
use Rattle.module_path.specs.declared.fault.LoadFault.TheVariants.{ReadFault, Memory}

-- the answer, its value seen as the definitions see it, is one of these
abbrev pub Seen : {X A : Type 0} → (X → A) → (Result A LoadFault → Type 0) → Result X LoadFault → Type 0
Seen view Answers (Ok x) = Answers (Ok (view x))
Seen view Answers (Err e) = Answers (Err e)

-- the count of faults rose with a read fault, and else it stayed, with want of memory too
abbrev pub CountsFault : ℕ → ℕ → LoadFault → Type 0
CountsFault before now (ReadFault name) = Rose before now
CountsFault before now e = now ≡ before

abbrev pub CountsFaults : {X : Type 0} → ℕ → ℕ → Result X LoadFault → Type 0
CountsFaults before now (Ok x) = now ≡ before
CountsFaults before now (Err e) = CountsFault before now e

-- the box did not fail
abbrev pub IsNoReadFault : LoadFault → Type 0
IsNoReadFault (ReadFault name) = ⊥
IsNoReadFault e = Unit {0}

abbrev pub NoReadFault : {X : Type 0} → Result X LoadFault → Type 0
NoReadFault (Ok x) = Unit {0}
NoReadFault (Err e) = IsNoReadFault e

-- memory ran out
abbrev pub IsMemory : LoadFault → Type 0
IsMemory Memory = Unit {0}
IsMemory e = ⊥

-- all is loaded, or memory ran out
abbrev pub LoadsUnits : List SourceUnit → Result (List SourceUnit) LoadFault → Type 0
LoadsUnits units (Ok loaded) = loaded ≡ units
LoadsUnits units (Err e) = IsMemory e
