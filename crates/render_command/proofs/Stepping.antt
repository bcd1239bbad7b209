-- One step that reads after another.
use Rattle.std.proofs.Common.{◌≡◌, ℕ, List, [], ◌∷◌, ◌++◌, length, Bool, true, false, Option, Some, None, IfSome, Result, Ok, Err, cond, nat_le, if◌then◌else◌, refl, ap, sym, ◌∙◌, subst}
use Rattle.std.specs.FinMap as map
use Rattle.ctl_base.specs.declared.limits.TheConstants.{IMAGE_BYTES}
use Rattle.outside.specs.declared.files.Fetched.{Fetched}
use Rattle.outside.specs.declared.files.Fetched.TheVariants.{Bytes, Absent, TooLong}
use Rattle.dpx_file.specs.Plain.{PlainImage}
use Rattle.dpx_file.specs.Reading.{dpx_reading}
use Rattle.command_status.specs.declared.status.ImageFault.TheVariants as image
use Rattle.outside.specs.Calls.{FileCall, FileCallKind, Fetch, file_call}
use Rattle.outside.specs.Causes.{Rose}
use Rattle.outside.specs.Files.{Held, holds, fetched, fetch_of, FetchHasCause, is_failed}
use Rattle.outside.specs.declared.files.FetchFault.{FetchFault}
use Rattle.outside.specs.declared.files.FetchFault.TheVariants as fetch_fault
use Rattle.outside.specs.ReadsAlone.{ReadsAlone}
use Rattle.command_status.specs.Outcomes.{Outcome, Did, Lost, FailedOn, NoMemory, Stopped, outcome_of}
use Rattle.command_status.specs.declared.status.Status.{Status}
use Rattle.command_status.specs.declared.status.Status.TheVariants.{Exists, Image, ReadFault, Memory}
use Rattle.ctl_tree.specs.Units.{SourceUnit}
use Rattle.module_path.specs.LoadOrder.{LoadOrder}
use Rattle.module_path.specs.Loading.{CountsFault, IsNoReadFault}
use Rattle.module_path.specs.declared.fault.LoadFault.{LoadFault}
use Rattle.module_path.specs.declared.fault.LoadFault.TheVariants as load
use Rattle.render_command.specs.Verdict.{status_of, loads, free_of, image_in, image_of}
use Rattle.render_command.specs.Actions.{Answers, is_told, given_up, Asks, is_answered, box_fails, not_asked, no_room, Then, stops, goes_on}
use Rattle.render_command.specs.Means.{ReadStep, Seen, Tells, TellsBy, CountedRead, StopCounted, NoFault, NoFaultBy}

pub reads_nothing : {B : Type 0} (held : B → Option Held) (lost : B → ℕ) (serves : B → List ℕ → ℕ → Type 0) (b : B) → ReadsAlone held lost serves b b
reads_nothing held lost serves b = record { held_stays = refl; lost_stays = refl; serves_stays = λ to n h. h }

reads_then : {B : Type 0} (held : B → Option Held) (lost : B → ℕ) (serves : B → List ℕ → ℕ → Type 0) (a b c : B) → ReadsAlone held lost serves a b → ReadsAlone held lost serves b c → ReadsAlone held lost serves a c
reads_then held lost serves a b c h k = record {
  held_stays = k.held_stays ∙ h.held_stays;
  lost_stays = k.lost_stays ∙ h.lost_stays;
  serves_stays = λ to n s. k.serves_stays to n (h.serves_stays to n s);
}

-- ---- what a call tells

looked_at : (held : Held) (said name : List ℕ) (found : Bool) → said ≡ name → found ≡ holds held said → holds held name ≡ found
looked_at held said name found e h = ap (λ n. holds held n) (sym e) ∙ sym h

-- whether the name is held
pub looked : (told : Option Held) (held : Held) (said name : List ℕ) (found : Bool) → told ≡ Some held → said ≡ name → IfSome told (λ files. found ≡ holds files said) → holds held name ≡ found
looked None held said name found t e h = absurd cc
looked (Some files) held said name found t e h = let same : files ≡ held = cc in looked_at held said name found e (subst (λ (f : Held). found ≡ holds f said) same h)

-- the destination is free, or it is not
abbrev pub free_answer : Bool → Result (Unit {0}) Status
free_answer true = Err Exists
free_answer false = Ok tt

free_holds : (held : Held) (name : List ℕ) (found : Bool) → holds held name ≡ found → free_of held name ≡ free_answer found
free_holds held name true h = ap (λ (b : Bool). if b then Err Exists else Ok tt) h
free_holds held name false h = ap (λ (b : Bool). if b then Err Exists else Ok tt) h

pub free_is : (held : Held) (name : List ℕ) (found other : Bool) → holds held name ≡ found → found ≡ other → free_of held name ≡ free_answer other
free_is held name found other h e = free_holds held name other (h ∙ e)

-- the image of what was fetched
abbrev pub image_got : Fetched → Result PlainImage Status
image_got (Bytes bytes) = image_in (dpx_reading bytes)
image_got Absent = Err (Image image.Absent)
image_got (TooLong limit) = Err (Image image.TooLong)

image_found : (o : Option (List ℕ)) → image_of o ≡ image_got (fetched o IMAGE_BYTES)
image_found None = refl
image_found (Some bytes) = by (nat_le (length bytes) IMAGE_BYTES) where
  by : (t : Bool) → (if t then image_in (dpx_reading bytes) else Err (Image image.TooLong)) ≡ image_got (cond t (Bytes bytes) (TooLong IMAGE_BYTES))
  by true = refl
  by false = refl

pub fetched_image : (told : Option Held) (held : Held) (said name : List ℕ) (got : Fetched) → told ≡ Some held → said ≡ name → IfSome told (λ files. got ≡ fetch_of files said IMAGE_BYTES) → image_of (map.get held name) ≡ image_got got
fetched_image None held said name got t e h = absurd cc
fetched_image (Some files) held said name got t e h =
    let same : files ≡ held = cc in
    image_found (map.get held name) ∙ ap (λ (n : List ℕ). image_got (fetch_of held n IMAGE_BYTES)) (sym e) ∙ ap (λ (f : Held). image_got (fetch_of f said IMAGE_BYTES)) (sym same) ∙ ap image_got (sym h)

-- a fetch that failed, and one for which memory was wanting

pub fetch_rose : (faults faults' : ℕ) (fault : FetchFault) → fault ≡ fetch_fault.Failed → FetchHasCause {T = Fetched} faults faults' (Err fault) → Rose faults faults'
fetch_rose faults faults' fault e h = let P : FetchFault → Type 0 = λ f. FetchHasCause {T = Fetched} faults faults' (Err f) in subst P e h

pub fetch_quiet : (faults faults' : ℕ) (fault : FetchFault) → fault ≡ fetch_fault.Memory → FetchHasCause {T = Fetched} faults faults' (Err fault) → faults' ≡ faults
fetch_quiet faults faults' fault e h = let P : FetchFault → Type 0 = λ f. FetchHasCause {T = Fetched} faults faults' (Err f) in subst P e h

pub fetch_asked : (asked asked' : List FileCall) (said : List ℕ) (fault other : FetchFault) → fault ≡ other → asked' ≡ asked ++ file_call Fetch said (is_failed (Err fault)) ∷ [] → asked' ≡ asked ++ file_call Fetch said (is_failed (Err other)) ∷ []
fetch_asked asked asked' said fault other e h = h ∙ ap (λ (f : FetchFault). asked ++ file_call Fetch said (is_failed (Err f)) ∷ []) e

-- a part of what a box is: what steps say of it
module _ {B : Type 0} (held : B → Option Held) (asked : B → List FileCall) (faults lost : B → ℕ) (serves : B → List ℕ → ℕ → Type 0) where
  abbrev Reads : {X A : Type 0} → B → B → (X → A) → (Held → List FileCall → List FileCall → Result A Status → Type 0) → Result X Status → Type 0
  Reads {X = X} {A = A} old new view action result = ReadStep {B = B} {X = X} {A = A} held asked faults lost serves old new view action result

  counted_from : {X : Type 0} (l m n : ℕ) (r : Result X Status) → m ≡ l → CountedRead m n r → CountedRead l n r
  counted_from l m n r e h = let P : ℕ → Type 0 = λ k. CountedRead k n r in subst P e h

  does_then : {Y A C : Type 0} (view : Y → C) (first : List FileCall → List FileCall → Result A Status → Type 0) (second : A → List FileCall → List FileCall → Result C Status → Type 0) (before between after : List FileCall) (x : A) (r : Result Y Status)
      → first before between (Ok x) → Seen view (second x between after) r → Seen view (Then first second before after) r
  does_then view first second before between after x (Ok y) h k = goes_on h k
  does_then view first second before between after x (Err status) h k = goes_on h k

  -- one step after another
  pub then_step : {X Y A C : Type 0} {a b c : B} (see : X → A) (view : Y → C) (first : Held → List FileCall → List FileCall → Result A Status → Type 0) (second : Held → A → List FileCall → List FileCall → Result C Status → Type 0) (x : X) (r : Result Y Status)
      → Reads a b see first (Ok x) → Reads b c view (λ h. second h (see x)) r → Reads a c view (λ h. Then (first h) (second h)) r
  then_step {a = a} {b = b} {c = c} see view first second x r h k = record {
    reads = reads_then held lost serves a b c h.reads k.reads;
    counted = counted_from (faults a) (faults b) (faults c) r h.counted k.counted;
    served = λ to n s. k.served to n (h.reads.serves_stays to n s);
    does = λ all told. does_then view (first all) (second all) (asked a) (asked b) (asked c) (see x) r (h.does all told) (k.does all (h.reads.held_stays ∙ told));
  }

  -- a step that stops stops what it begins
  pub stopped_step : {X Y A C : Type 0} {a b : B} (see : X → A) (view : Y → C) (first : Held → List FileCall → List FileCall → Result A Status → Type 0) (second : Held → A → List FileCall → List FileCall → Result C Status → Type 0) (status : Status)
      → Reads a b see first (Err status) → Reads a b view (λ h. Then (first h) (second h)) (Err status)
  stopped_step see view first second status h = record {
    reads = h.reads;
    counted = h.counted;
    served = h.served;
    does = λ all told. stops (h.does all told);
  }

  -- a step that asks nothing
  tells_counted : (told : Type 0) (status : Status) (o : Outcome) (n : ℕ) → TellsBy told status o → StopCounted n n o
  tells_counted told status Did n h = absurd h
  tells_counted told status Lost n h = absurd h
  tells_counted told status (FailedOn name) n h = absurd h
  tells_counted told status NoMemory n h = refl
  tells_counted told status Stopped n h = refl

  tells_served : (told : Type 0) (status : Status) (o : Outcome) → TellsBy told status o → NoFaultBy o
  tells_served told status Did h = absurd h
  tells_served told status Lost h = absurd h
  tells_served told status (FailedOn name) h = absurd h
  tells_served told status NoMemory h = tt
  tells_served told status Stopped h = tt

  tells_does : {A : Type 0} (told : Result A Status → Type 0) (status : Status) (o : Outcome) (calls : List FileCall) → TellsBy (told (Err status)) status o → Answers told calls calls (Err status)
  tells_does told status Did calls h = absurd h
  tells_does told status Lost calls h = absurd h
  tells_does told status (FailedOn name) calls h = absurd h
  tells_does {A = A} told status NoMemory calls h = let P : Status → Type 0 = λ s. Answers {A = A} told calls calls (Err s) in subst P (sym h) given_up
  tells_does told status Stopped calls h = is_told h

  pub told_step : {X A : Type 0} (b : B) (view : X → A) (told : Result A Status → Type 0) (r : Result X Status) → Tells view told r → Reads b b view (λ h. Answers told) r
  told_step b view told (Ok x) t = record {
    reads = reads_nothing held lost serves b;
    counted = refl;
    served = λ to n s. tt;
    does = λ all is. is_told t;
  }
  told_step b view told (Err status) t = record {
    reads = reads_nothing held lost serves b;
    counted = tells_counted (told (Err status)) status (outcome_of status) (faults b) t;
    served = λ to n s. tells_served (told (Err status)) status (outcome_of status) t;
    does = λ all is. tells_does told status (outcome_of status) (asked b) t;
  }

  -- ---- one call

  answered_does : {X A : Type 0} (view : X → A) (kind : FileCallKind) (name : List ℕ) (told : Result A Status) (before after : List FileCall) (r : Result X Status) → Seen view (λ s. told ≡ s) r → after ≡ before ++ file_call kind name false ∷ []
      → Seen view (Asks kind name told before after) r
  answered_does view kind name told before after (Ok x) h e = is_answered h e
  answered_does view kind name told before after (Err status) h e = is_answered h e

  -- it is answered
  pub answered_step : {X A : Type 0} (a b : B) (view : X → A) (kind : FileCallKind) (said name : List ℕ) (told : Held → Result A Status) (r : Result X Status) → ReadsAlone held lost serves a b → CountedRead (faults a) (faults b) r → NoFault r
      → asked b ≡ asked a ++ file_call kind said false ∷ [] → said ≡ name → ((h : Held) → held a ≡ Some h → Seen view (λ s. told h ≡ s) r) → Reads a b view (λ h. Asks kind name (told h)) r
  answered_step a b view kind said name told r reads counted quiet asks is seen = record {
    reads = reads;
    counted = counted;
    served = λ to n s. quiet;
    does = λ h e. answered_does view kind name (told h) (asked a) (asked b) r (seen h e) (asks ∙ ap (λ n. asked a ++ file_call kind n false ∷ []) is);
  }

  -- the box fails
  pub failed_step : {X A : Type 0} (a b : B) (view : X → A) (kind : FileCallKind) (said name : List ℕ) (told : Held → Result A Status) → ReadsAlone held lost serves a b → Rose (faults a) (faults b) → ((to : List ℕ) (n : ℕ) → serves a to n → ⊥)
      → asked b ≡ asked a ++ file_call kind said true ∷ [] → said ≡ name → Reads {X = X} a b view (λ h. Asks kind name (told h)) (Err (ReadFault name))
  failed_step a b view kind said name told reads rose never asks is = record {
    reads = reads;
    counted = rose;
    served = λ to n s. never to n s;
    does = λ h e. box_fails (asks ∙ ap (λ n. asked a ++ file_call kind n true ∷ []) is);
  }

  -- memory runs out before it
  pub unasked_step : {X A : Type 0} (b : B) (view : X → A) (kind : FileCallKind) (name : List ℕ) (told : Held → Result A Status) → Reads {X = X} b b view (λ h. Asks kind name (told h)) (Err Memory)
  unasked_step b view kind name told = record {
    reads = reads_nothing held lost serves b;
    counted = refl;
    served = λ to n s. tt;
    does = λ h e. not_asked;
  }

  -- memory runs out after it
  pub roomless_step : {X A : Type 0} (a b : B) (view : X → A) (kind : FileCallKind) (said name : List ℕ) (told : Held → Result A Status) → ReadsAlone held lost serves a b → faults b ≡ faults a → asked b ≡ asked a ++ file_call kind said false ∷ [] → said ≡ name
      → Reads {X = X} a b view (λ h. Asks kind name (told h)) (Err Memory)
  roomless_step a b view kind said name told reads quiet asks is = record {
    reads = reads;
    counted = quiet;
    served = λ to n s. tt;
    does = λ h e. no_room (asks ∙ ap (λ n. asked a ++ file_call kind n false ∷ []) is);
  }

  -- ---- loading

  fault_counted : (f f' : ℕ) (e : LoadFault) → CountsFault f f' e → StopCounted f f' (outcome_of (status_of e))
  fault_counted f f' (load.Cycle file name) h = h
  fault_counted f f' (load.TooMany file) h = h
  fault_counted f f' (load.NotFound name) h = h
  fault_counted f f' (load.ReadFault name) h = h
  fault_counted f f' (load.TooLong file) h = h
  fault_counted f f' (load.Lex file at n kind) h = h
  fault_counted f f' (load.Syntax file at n kind) h = h
  fault_counted f f' load.Memory h = h

  fault_quiet : (e : LoadFault) → IsNoReadFault e → NoFaultBy (outcome_of (status_of e))
  fault_quiet (load.Cycle file name) h = tt
  fault_quiet (load.TooMany file) h = tt
  fault_quiet (load.NotFound name) h = tt
  fault_quiet (load.ReadFault name) h = h
  fault_quiet (load.TooLong file) h = tt
  fault_quiet (load.Lex file at n kind) h = tt
  fault_quiet (load.Syntax file at n kind) h = tt
  fault_quiet load.Memory h = tt

  -- all is loaded
  pub loaded_step : (a b : B) (path root : List ℕ) (units : List SourceUnit) → ReadsAlone held lost serves a b → faults b ≡ faults a → ((h : Held) → held a ≡ Some h → LoadOrder h path root (asked a) (asked b) (Ok units))
      → Reads a b (λ u. u) (λ h. loads h path root) (Ok units)
  loaded_step a b path root units reads quiet does = record {
    reads = reads;
    counted = quiet;
    served = λ to n s. tt;
    does = λ h e. (Ok units, does h e, refl);
  }

  -- it is not
  pub unloaded_step : (a b : B) (path root : List ℕ) (fault : LoadFault) (status : Status) → ReadsAlone held lost serves a b → CountsFault (faults a) (faults b) fault → ((to : List ℕ) (n : ℕ) → serves a to n → IsNoReadFault fault)
      → ((h : Held) → held a ≡ Some h → LoadOrder h path root (asked a) (asked b) (Err fault)) → status ≡ status_of fault → Reads {X = List SourceUnit} a b (λ u. u) (λ h. loads h path root) (Err status)
  unloaded_step a b path root fault status reads counted served does is =
      let P : Status → Type 0 = λ s. Reads {X = List SourceUnit} a b (λ u. u) (λ h. loads h path root) (Err s) in
      subst P (sym is) (record {
        reads = reads;
        counted = fault_counted (faults a) (faults b) fault counted;
        served = λ to n s. fault_quiet fault (served to n s);
        does = λ h e. (Err fault, does h e, refl);
      })
