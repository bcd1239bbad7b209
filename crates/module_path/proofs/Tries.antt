-- One file is asked for.
use Rattle.std.proofs.Common.{◌≡◌, ℕ, Bool, true, false, List, [], ◌∷◌, ◌++◌, length, Option, Some, None, Result, Ok, Err, nat_le, IfSome, refl, sym, ap, subst, ◌∙◌}
use Rattle.std.proofs.lemmas.List.{append-nil}
use Rattle.std.specs.FinMap as files
use Rattle.ctl_base.specs.declared.limits.TheConstants.{TEXT_BYTES}
use Rattle.outside.specs.Calls.{FileCall, Fetch, file_call}
use Rattle.outside.specs.Files.{Held, fetched, fetch_of, is_failed}
use Rattle.outside.specs.declared.files.FetchFault.{FetchFault}
use Rattle.outside.specs.declared.files.FetchFault.TheVariants.{Failed, Memory as NoMemory}
use Rattle.outside.specs.declared.files.Fetched.{Fetched}
use Rattle.outside.specs.declared.files.Fetched.TheVariants.{Bytes, TooLong as TooManyBytes}
use Rattle.module_path.specs.ModuleFiles.{SourceText, held_text}
use Rattle.module_path.specs.LoadOrder.{Fetches, all_answered, box_fails, fetch_given_up}
use Rattle.module_path.specs.declared.fault.LoadFault.{LoadFault}
use Rattle.module_path.specs.declared.fault.LoadFault.TheVariants.{ReadFault, TooLong, Memory}

told_bytes : (get : Option (List ℕ)) (file bytes : List ℕ) (other : Result SourceText LoadFault) → Bytes bytes ≡ fetched get TEXT_BYTES → Ok (record { file = file; bytes = bytes }) ≡ held_text get file other
told_bytes None file bytes other e = absurd cc
told_bytes (Some held) file bytes other e = by (nat_le (length held) TEXT_BYTES) refl
  where
    by : (b : Bool) → nat_le (length held) TEXT_BYTES ≡ b → Ok (record { file = file; bytes = bytes }) ≡ held_text (Some held) file other
    by true q = let h : Bytes bytes ≡ Bytes held = e ∙ rw q refl in let same : bytes ≡ held = cc in rw q (ap (λ (b : List ℕ). Ok (record { file = file; bytes = b })) same)
    by false q = let h : Bytes bytes ≡ TooManyBytes TEXT_BYTES = e ∙ rw q refl in absurd cc

told_long : (get : Option (List ℕ)) (file : List ℕ) (limit : ℕ) (other : Result SourceText LoadFault) → TooManyBytes limit ≡ fetched get TEXT_BYTES → Err (TooLong file) ≡ held_text get file other
told_long None file limit other e = absurd cc
told_long (Some held) file limit other e = by (nat_le (length held) TEXT_BYTES) refl
  where
    by : (b : Bool) → nat_le (length held) TEXT_BYTES ≡ b → Err (TooLong file) ≡ held_text (Some held) file other
    by true q = let h : TooManyBytes limit ≡ Bytes held = e ∙ rw q refl in absurd cc
    by false q = rw q refl

-- what the box says of what it holds
abbrev Says : Option Held → List ℕ → Fetched → Type 0
Says told name got = IfSome told (λ held. got ≡ fetch_of held name TEXT_BYTES)

says : (told : Option Held) (held : Held) (name file : List ℕ) (got : Fetched) → told ≡ Some held → name ≡ file → Says told name got → got ≡ fetched (files.get held file) TEXT_BYTES
says told held name file got is same h =
    let P : Option Held → Type 0 = λ o. Says o name got in
    let Q : List ℕ → Type 0 = λ n. got ≡ fetch_of held n TEXT_BYTES in
    subst Q same (subst P is h)

called : (before after : List FileCall) (name file : List ℕ) (failed : Bool) → name ≡ file → after ≡ before ++ file_call Fetch name failed ∷ [] → after ≡ before ++ file_call Fetch file failed ∷ []
called before after name file failed same e = e ∙ ap (λ (n : List ℕ). before ++ file_call Fetch n failed ∷ []) same

pub tried_bytes : (told : Option Held) (held : Held) (name file bytes : List ℕ) (got : Fetched) (other : Result SourceText LoadFault) (before after : List FileCall) → told ≡ Some held → name ≡ file → got ≡ Bytes bytes → Says told name got
    → after ≡ before ++ file_call Fetch name false ∷ [] → Fetches (file ∷ []) (held_text (files.get held file) file other) before after (Ok (record { file = file; bytes = bytes }))
tried_bytes told held name file bytes got other before after is same found h e =
    all_answered (told_bytes (files.get held file) file bytes other (sym found ∙ says told held name file got is same h)) (called before after name file false same e)

pub tried_long : (told : Option Held) (held : Held) (name file : List ℕ) (limit : ℕ) (got : Fetched) (other : Result SourceText LoadFault) (before after : List FileCall) → told ≡ Some held → name ≡ file → got ≡ TooManyBytes limit → Says told name got
    → after ≡ before ++ file_call Fetch name false ∷ [] → Fetches (file ∷ []) (held_text (files.get held file) file other) before after (Err (TooLong file))
tried_long told held name file limit got other before after is same found h e =
    all_answered (told_long (files.get held file) file limit other (sym found ∙ says told held name file got is same h)) (called before after name file false same e)

pub tried_failed : (name file : List ℕ) (fault : FetchFault) (other : Result SourceText LoadFault) (before after : List FileCall) → name ≡ file → fault ≡ Failed → after ≡ before ++ file_call Fetch name (is_failed (Err fault)) ∷ []
    → Fetches (file ∷ []) other before after (Err (ReadFault file))
tried_failed name file fault other before after same is e =
    let P : FetchFault → Type 0 = λ f. after ≡ before ++ file_call Fetch name (is_failed (Err f)) ∷ [] in
    box_fails 0 refl (called before after name file true same (subst P is e) ∙ ap (λ (b : List FileCall). b ++ file_call Fetch file true ∷ []) (sym (append-nil before)))

pub tried_memory : (name file : List ℕ) (fault : FetchFault) (other : Result SourceText LoadFault) (before after : List FileCall) → name ≡ file → fault ≡ NoMemory → after ≡ before ++ file_call Fetch name (is_failed (Err fault)) ∷ []
    → Fetches (file ∷ []) other before after (Err Memory)
tried_memory name file fault other before after same is e =
    let P : FetchFault → Type 0 = λ f. after ≡ before ++ file_call Fetch name (is_failed (Err f)) ∷ [] in
    fetch_given_up 1 (called before after name file false same (subst P is e))
