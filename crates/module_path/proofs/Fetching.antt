-- Files that are asked for, one after the other.
use Rattle.std.proofs.Common.{◌≡◌, ℕ, zero, suc, ◌+◌, ◌<◌, ◌≤◌, List, [], ◌∷◌, ◌++◌, length, take, drop, true, false, Option, Some, None, Result, Err, refl, sym, ap, subst, ◌∙◌}
use Rattle.std.proofs.lemmas.List.{append_assoc, append-nil, drop_more, drop_all}
use lib.ListN.{get_or}
use lib.Seq.{take-nil}
use Rattle.std.specs.FinMap as files
use Rattle.outside.specs.Calls.{FileCall, Fetch, file_call}
use Rattle.outside.specs.Files.{Held}
use Rattle.outside.specs.ReadsAlone.{ReadsAlone}
use Rattle.module_path.specs.ModuleFiles.{SourceText, file_in, held_text, unless_held, module_text, module_files, root_text}
use Rattle.module_path.specs.LoadOrder.{Fetches, all_answered, box_fails, fetch_given_up, answered}
use Rattle.module_path.specs.declared.fault.LoadFault.{LoadFault}
use Rattle.module_path.specs.declared.fault.LoadFault.TheVariants.{NotFound, ReadFault, Memory}

joined : (before between : List FileCall) (file : List ℕ) (calls : List FileCall) → between ≡ before ++ answered (file ∷ []) → between ++ calls ≡ before ++ (file_call Fetch file false ∷ calls)
joined before between file calls e = ap (λ (b : List FileCall). b ++ calls) e ∙ append_assoc before (answered (file ∷ [])) calls

-- a file that was answered stands before the others
pub one_more : (file : List ℕ) (others : List (List ℕ)) (told : Result SourceText LoadFault) (before between after : List FileCall) (answer : Result SourceText LoadFault) → between ≡ before ++ answered (file ∷ [])
    → Fetches others told between after answer → Fetches (file ∷ others) told before after answer
one_more file others told before between after answer e (all_answered same all) = all_answered same (all ∙ joined before between file (answered others) e)
one_more file others told before between after (Err (ReadFault name)) e (box_fails n is all) =
    box_fails (suc n) is (all ∙ ap (λ (b : List FileCall). b ++ (file_call Fetch name true ∷ [])) (joined before between file (answered (take n others)) e))
one_more file others told before between after (Err Memory) e (fetch_given_up n all) = fetch_given_up (suc n) (all ∙ joined before between file (answered (take n others)) e)

-- a folder that does not hold the module is passed over
pub next_folder : (held : Held) (folder : List ℕ) (folders : List (List ℕ)) (name file : List ℕ) (before between after : List FileCall) (answer : Result SourceText LoadFault) → file ≡ file_in folder name → files.get held file ≡ None
    → between ≡ before ++ answered (file ∷ []) → Fetches (module_files held folders name) (module_text held folders name) between after answer
    → Fetches (module_files held (folder ∷ folders) name) (module_text held (folder ∷ folders) name) before after answer
next_folder held folder folders name file before between after answer same none e h =
    let absent : files.get held (file_in folder name) ≡ None = ap (files.get held) (sym same) ∙ none in
    rw absent (one_more (file_in folder name) (module_files held folders name) (module_text held folders name) before between after answer (e ∙ ap (λ (f : List ℕ). before ++ answered (f ∷ [])) same) h)

-- nothing was asked yet, and memory ran out
pub not_asked : (files : List (List ℕ)) (told : Result SourceText LoadFault) (calls : List FileCall) → Fetches files told calls calls (Err Memory)
not_asked files told calls = fetch_given_up 0 (sym (append-nil calls))

-- no folder is left
no_folder : (held : Held) (name told : List ℕ) (calls : List FileCall) → told ≡ name → Fetches (module_files held [] name) (module_text held [] name) calls calls (Err (NotFound told))
no_folder held name told calls e = all_answered (ap (λ (n : List ℕ). Err (NotFound n)) e) (sym (append-nil calls))

-- the answer is memory, whatever else would be said: so it is not the file's
alone_none : (file : List ℕ) (others : List (List ℕ)) (told : Result SourceText LoadFault) (before after : List FileCall) (answer : Result SourceText LoadFault)
    → Fetches (file ∷ []) (Err Memory) before after answer → Fetches (file ∷ others) told before after answer
alone_none file others told before after answer (all_answered same all) = rw same (fetch_given_up 1 all)
alone_none file others told before after (Err (ReadFault name)) (box_fails zero is all) = box_fails 0 is all
alone_none file others told before after (Err (ReadFault name)) (box_fails (suc n) is all) = absurd cc
alone_none file others told before after (Err Memory) (fetch_given_up zero all) = fetch_given_up 0 all
alone_none file others told before after (Err Memory) (fetch_given_up (suc n) all) = fetch_given_up 1 (all ∙ ap (λ (l : List (List ℕ)). before ++ answered (file ∷ l)) (take-nil n))

alone : (file : List ℕ) (others : List (List ℕ)) (bytes : Option (List ℕ)) (told : Result SourceText LoadFault) (before after : List FileCall) (answer : Result SourceText LoadFault)
    → ((other : Result SourceText LoadFault) → Fetches (file ∷ []) (held_text bytes file other) before after answer) → Fetches (file ∷ unless_held bytes others) (held_text bytes file told) before after answer
alone file others (Some bytes) told before after answer h = h told
alone file others None told before after answer h = alone_none file others told before after answer (h (Err Memory))

-- the folder holds the module, or the files answered nothing
pub this_folder : (held : Held) (folder : List ℕ) (folders : List (List ℕ)) (name file : List ℕ) (before after : List FileCall) (answer : Result SourceText LoadFault) → file ≡ file_in folder name
    → ((other : Result SourceText LoadFault) → Fetches (file ∷ []) (held_text (files.get held file) file other) before after answer)
    → Fetches (module_files held (folder ∷ folders) name) (module_text held (folder ∷ folders) name) before after answer
this_folder held folder folders name file before after answer same h =
    let P : List ℕ → Type 0 = λ f. (other : Result SourceText LoadFault) → Fetches (f ∷ []) (held_text (files.get held f) f other) before after answer in
    alone (file_in folder name) (module_files held folders name) (files.get held (file_in folder name)) (module_text held folders name) before after answer (subst P same h)

-- the root is held, or the files answered nothing
pub root_asked : (held : Held) (root file : List ℕ) (before after : List FileCall) (answer : Result SourceText LoadFault) → file ≡ root
    → ((other : Result SourceText LoadFault) → Fetches (file ∷ []) (held_text (files.get held file) file other) before after answer) → Fetches (root ∷ []) (root_text held root) before after answer
root_asked held root file before after answer same h =
    let P : List ℕ → Type 0 = λ f. (other : Result SourceText LoadFault) → Fetches (f ∷ []) (held_text (files.get held f) f other) before after answer in
    subst P same h (Err (NotFound root))

pub root_absent : (held : Held) (root file name : List ℕ) (before after : List FileCall) → file ≡ root → name ≡ root → files.get held file ≡ None → after ≡ before ++ answered (file ∷ [])
    → Fetches (root ∷ []) (root_text held root) before after (Err (NotFound name))
root_absent held root file name before after same named none e =
    let absent : files.get held root ≡ None = ap (files.get held) (sym same) ∙ none in
    all_answered (ap (λ (n : List ℕ). Err (NotFound n)) named ∙ rw absent refl) (e ∙ ap (λ (f : List ℕ). before ++ answered (f ∷ [])) same)

-- memory ran out after the root was asked for
pub root_given_up : (held : Held) (root file : List ℕ) (before after : List FileCall) → file ≡ root → after ≡ before ++ answered (file ∷ []) → Fetches (root ∷ []) (root_text held root) before after (Err Memory)
root_given_up held root file before after same e = fetch_given_up 1 (e ∙ ap (λ (f : List ℕ). before ++ answered (f ∷ [])) same)

pub at_item : {X : Type 0} (xs : List X) (i : ℕ) (x : X) → i < length xs → x ≡ get_or xs i x → drop i xs ≡ x ∷ drop (i + 1) xs
at_item xs i x h is = drop_more xs i x h ∙ ap (λ y. y ∷ drop (i + 1) xs) (sym is)

-- a folder by its place
pub at_folder : (held : Held) (folders : List (List ℕ)) (i : ℕ) (folder name : List ℕ) (before after : List FileCall) (answer : Result SourceText LoadFault) → i < length folders → folder ≡ get_or folders i folder
    → Fetches (module_files held (folder ∷ drop (i + 1) folders) name) (module_text held (folder ∷ drop (i + 1) folders) name) before after answer
    → Fetches (module_files held (drop i folders) name) (module_text held (drop i folders) name) before after answer
at_folder held folders i folder name before after answer h is f = rw (at_item folders i folder h is) f

pub past_folders : (held : Held) (folders : List (List ℕ)) (i : ℕ) (name told : List ℕ) (calls : List FileCall) → length folders ≤ i → told ≡ name
    → Fetches (module_files held (drop i folders) name) (module_text held (drop i folders) name) calls calls (Err (NotFound told))
past_folders held folders i name told calls h e = rw (drop_all i folders h) (no_folder held name told calls e)

-- two steps that read alone are one
pub reads_alone : {B : Type 0} {held : B → Option Held} {lost : B → ℕ} {serves : B → List ℕ → ℕ → Type 0} (old between new : B) → ReadsAlone held lost serves old between → ReadsAlone held lost serves between new → ReadsAlone held lost serves old new
reads_alone old between new first next = record {
  held_stays = next.held_stays ∙ first.held_stays;
  lost_stays = next.lost_stays ∙ first.lost_stays;
  serves_stays = λ to n s. next.serves_stays to n (first.serves_stays to n s);
}
