-- One step of a walk.
use Rattle.std.proofs.Common.{◌≡◌, ℕ, ◌+◌, ◌<◌, ◌≤◌, ◌∷◌, ◌++◌, [], List, length, drop, true, false, Some, None, Result, Ok, Err, nat_le, arith, sym, subst, refl, ◌∙◌}
use Rattle.std.proofs.lemmas.List.{drop_all}
use lib.ListN.{get_or}
use Rattle.ctl_base.specs.declared.limits.TheConstants.{MODULES}
use Rattle.ctl_tree.specs.declared.definition.Import.{Import}
use Rattle.outside.specs.Calls.{FileCall}
use Rattle.outside.specs.Files.{Held}
use Rattle.ctl_tree.specs.Units.{SourceUnit}
use Rattle.module_path.specs.ModuleFiles.{SourceText, folders_of, module_text, module_files, root_text}
use Rattle.module_path.specs.Reading.{IsUnit}
use Rattle.module_path.specs.LoadOrder.{Loaded, Fetches, settled, is_among, with_unit, with_name, nothing, LoadsAll, LoadsFile, Loads, LoadOrder, imports_stop, file_loads, root_stops, root_loads, all_loaded, one_stops, one_loads, module_stops, module_loads}
use Rattle.module_path.specs.declared.fault.LoadFault.{LoadFault}
use Rattle.module_path.specs.declared.fault.LoadFault.TheVariants.{Cycle, TooMany}
use Rattle.module_path.proofs.Fetching.{at_item}

-- The imports of a file.

pub stops_at : (held : Held) (folders loading : List (List ℕ)) (file : List ℕ) (imports : List Import) (i : ℕ) (one : Import) (name : List ℕ) (s : Loaded) (before after : List FileCall) (e : LoadFault) → i < length imports → one ≡ get_or imports i one → name ≡ one.name
    → Loads held folders loading file name s before after (Err e) → LoadsAll held folders loading file (drop i imports) s before after (Err e)
stops_at held folders loading file imports i one name s before after e h is named l =
    let P : List ℕ → Type 0 = λ n. Loads held folders loading file n s before after (Err e) in
    rw (at_item imports i one h is) (one_stops (subst P named l))

pub loads_at : (held : Held) (folders loading loading' : List (List ℕ)) (file : List ℕ) (imports : List Import) (i : ℕ) (one : Import) (name : List ℕ) (s t : Loaded) (before between after : List FileCall) (answer : Result Loaded LoadFault) → i < length imports → one ≡ get_or imports i one → name ≡ one.name
    → loading' ≡ loading → Loads held folders loading file name s before between (Ok t) → LoadsAll held folders loading' file (drop (i + 1) imports) t between after answer
    → LoadsAll held folders loading file (drop i imports) s before after answer
loads_at held folders loading loading' file imports i one name s t before between after answer h is named same l rest =
    let P : List ℕ → Type 0 = λ n. Loads held folders loading file n s before between (Ok t) in
    let Q : List (List ℕ) → Type 0 = λ l. LoadsAll held folders l file (drop (i + 1) imports) t between after answer in
    rw (at_item imports i one h is) (one_loads (subst P named l) (subst Q same rest))

pub all_at : (held : Held) (folders loading : List (List ℕ)) (file : List ℕ) (imports : List Import) (i : ℕ) (s : Loaded) (calls : List FileCall) → length imports ≤ i → LoadsAll held folders loading file (drop i imports) s calls calls (Ok s)
all_at held folders loading file imports i s calls h = rw (drop_all i imports h) all_loaded

-- What an import comes to before a file is asked for.

pub settled_loaded : (loading : List (List ℕ)) (file name : List ℕ) (s : Loaded) → is_among s.names name ≡ true → settled loading file name s ≡ Some (Ok s)
settled_loaded loading file name s h = rw h refl

pub settled_cycle : (loading : List (List ℕ)) (file name : List ℕ) (s : Loaded) → is_among s.names name ≡ false → is_among loading name ≡ true → settled loading file name s ≡ Some (Err (Cycle file name))
settled_cycle loading file name s h k = rw (h, k) refl

pub settled_many : (loading : List (List ℕ)) (file name : List ℕ) (s : Loaded) → is_among s.names name ≡ false → is_among loading name ≡ false → MODULES ≤ 1 + length loading + length s.names → settled loading file name s ≡ Some (Err (TooMany file))
settled_many loading file name s h k m = let q : nat_le MODULES (1 + length loading + length s.names) ≡ true = grind arith in rw (h, k, q) refl

pub unsettled : (loading : List (List ℕ)) (file name : List ℕ) (s : Loaded) → is_among s.names name ≡ false → is_among loading name ≡ false → 1 + length loading + length s.names < MODULES → settled loading file name s ≡ None
unsettled loading file name s h k m = let q : nat_le MODULES (1 + length loading + length s.names) ≡ false = grind arith in rw (h, k, q) refl

-- A module that was asked for.

pub module_stopped : (held : Held) (folders loading loading' : List (List ℕ)) (file name : List ℕ) (s s' : Loaded) (before between after : List FileCall) (text : SourceText) (e : LoadFault) → settled loading file name s ≡ None
    → Fetches (module_files held folders name) (module_text held folders name) before between (Ok text) → loading' ≡ loading ++ name ∷ [] → s' ≡ s → LoadsFile held folders loading' text s' between after (Err e)
    → Loads held folders loading file name s before after (Err e)
module_stopped held folders loading loading' file name s s' before between after text e none found l same loads =
    let P : List (List ℕ) → Type 0 = λ l. LoadsFile held folders l text s' between after (Err e) in
    let Q : Loaded → Type 0 = λ s. LoadsFile held folders (loading ++ name ∷ []) text s between after (Err e) in
    module_stops none found (subst Q same (subst P l loads))

pub module_at : (held : Held) (folders loading loading' : List (List ℕ)) (file name : List ℕ) (s s' t u : Loaded) (before between after : List FileCall) (text : SourceText) → settled loading file name s ≡ None
    → Fetches (module_files held folders name) (module_text held folders name) before between (Ok text) → loading' ≡ loading ++ name ∷ [] → s' ≡ s → u ≡ with_name t name → LoadsFile held folders loading' text s' between after (Ok t)
    → Loads held folders loading file name s before after (Ok u)
module_at held folders loading loading' file name s s' t u before between after text none found l same named loads =
    let P : List (List ℕ) → Type 0 = λ l. LoadsFile held folders l text s' between after (Ok t) in
    let Q : Loaded → Type 0 = λ s. LoadsFile held folders (loading ++ name ∷ []) text s between after (Ok t) in
    let R : Loaded → Type 0 = λ u. Loads held folders loading file name s before after (Ok u) in
    subst R (sym named) (module_loads none found (subst Q same (subst P l loads)))

-- A file whose text is a unit.

pub imports_stopped : (held : Held) (folders loading : List (List ℕ)) (text : SourceText) (unit : SourceUnit) (file : List ℕ) (imports : List Import) (s : Loaded) (before after : List FileCall) (e : LoadFault) → IsUnit text unit
    → file ≡ unit.file → imports ≡ unit.«module».imports → LoadsAll held folders loading file imports s before after (Err e) → LoadsFile held folders loading text s before after (Err e)
imports_stopped held folders loading text unit file imports s before after e is named same l =
    let P : List ℕ → Type 0 = λ f. LoadsAll held folders loading f imports s before after (Err e) in
    let Q : List Import → Type 0 = λ i. LoadsAll held folders loading text.file i s before after (Err e) in
    imports_stop is (subst Q same (subst P (named ∙ is.same_file) l))

pub file_at : (held : Held) (folders loading : List (List ℕ)) (text : SourceText) (unit : SourceUnit) (file : List ℕ) (imports : List Import) (s t : Loaded) (before after : List FileCall) → IsUnit text unit
    → file ≡ unit.file → imports ≡ unit.«module».imports → LoadsAll held folders loading file imports s before after (Ok t) → LoadsFile held folders loading text s before after (Ok (with_unit t unit))
file_at held folders loading text unit file imports s t before after is named same l =
    let P : List ℕ → Type 0 = λ f. LoadsAll held folders loading f imports s before after (Ok t) in
    let Q : List Import → Type 0 = λ i. LoadsAll held folders loading text.file i s before after (Ok t) in
    file_loads is (subst Q same (subst P (named ∙ is.same_file) l))

-- The root.

-- at its start nothing is loading and nothing is loaded
begins : {A : Type 0} (P : List (List ℕ) → List (List ℕ) → Loaded → A → Type 0) (folders loading names path : List (List ℕ)) (units : List SourceUnit) (a : A) → folders ≡ path → loading ≡ [] → names ≡ [] → units ≡ []
    → P folders loading (record { names = names; units = units }) a → P path [] nothing a
begins P folders loading names path units a f l n u h =
    let F : List (List ℕ) → Type 0 = λ x. P x loading (record { names = names; units = units }) a in
    let L : List (List ℕ) → Type 0 = λ x. P path x (record { names = names; units = units }) a in
    let N : List (List ℕ) → Type 0 = λ x. P path [] (record { names = x; units = units }) a in
    let U : List SourceUnit → Type 0 = λ x. P path [] (record { names = []; units = x }) a in
    subst U u (subst N n (subst L l (subst F f h)))

pub root_stopped : (held : Held) (path root : List ℕ) (folders loading names : List (List ℕ)) (units : List SourceUnit) (text : SourceText) (before between after : List FileCall) (e : LoadFault)
    → Fetches (root ∷ []) (root_text held root) before between (Ok text) → folders ≡ folders_of path → loading ≡ [] → names ≡ [] → units ≡ []
    → LoadsFile held folders loading text (record { names = names; units = units }) between after (Err e) → LoadOrder held path root before after (Err e)
root_stopped held path root folders loading names units text before between after e found f l n u h =
    let P : List (List ℕ) → List (List ℕ) → Loaded → LoadFault → Type 0 = λ f l s e. LoadsFile held f l text s between after (Err e) in
    root_stops found (begins P folders loading names (folders_of path) units e f l n u h)

pub root_at : (held : Held) (path root : List ℕ) (folders loading names : List (List ℕ)) (units : List SourceUnit) (text : SourceText) (before between after : List FileCall) (t : Loaded)
    → Fetches (root ∷ []) (root_text held root) before between (Ok text) → folders ≡ folders_of path → loading ≡ [] → names ≡ [] → units ≡ []
    → LoadsFile held folders loading text (record { names = names; units = units }) between after (Ok t) → LoadOrder held path root before after (Ok t.units)
root_at held path root folders loading names units text before between after t found f l n u h =
    let P : List (List ℕ) → List (List ℕ) → Loaded → Loaded → Type 0 = λ f l s t. LoadsFile held f l text s between after (Ok t) in
    root_loads found (begins P folders loading names (folders_of path) units t f l n u h)
