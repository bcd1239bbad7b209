-- How the call ends, after the store or before it.
use Rattle.std.proofs.Common.{◌≡◌, ℕ, ◌≤◌, List, [], ◌∷◌, ◌++◌, length, true, false, Option, Some, None, Result, Ok, Err, refl, ap, sym, ◌∙◌, subst, arith}
use Rattle.std.specs.FinMap as map
use Rattle.command_words.specs.Command.{Command, command_of}
use Rattle.command_status.specs.Outcomes.{Outcome, Did, Lost, FailedOn, NoMemory, Stopped, outcome_of}
use Rattle.command_status.specs.declared.status.Status.{Status}
use Rattle.command_status.specs.declared.status.Status.TheVariants.{Done, WriteFault, Later}
use Rattle.outside.specs.Calls.{FileCall, Store, file_call}
use Rattle.outside.specs.Causes.{Rose}
use Rattle.outside.specs.Files.{Held, Stores, MayLeave}
use Rattle.render_command.specs.Actions.{Then, stops, goes_on, Answers, is_told, IsStopped, IsTold}
use Rattle.render_command.specs.Ends.{Asked, Stops, EndsBy, Ends, Counted, CountedBy, Finishes, FinishesBy}
use Rattle.render_command.specs.Ends.{Stores as StoresPlan}
use Rattle.render_command.specs.Means.{StopCounted, NoFaultBy}
use Rattle.render_command.specs.Verdict.{Judges, OneVerdict, Plan, command_in, planned, plan_for}

-- what a command asks, its words ask
pub judges : (held : Held) (path : List ℕ) (words : List (List ℕ)) (command : Command) (before after : List FileCall) (v : Result Plan Status) → Some command ≡ command_of words → planned held path command before after v → Judges held path words before after v
judges held path words command before after v e h = goes_on (is_told (ap command_in (sym e))) h

-- words that are no command
pub refused : (held : Held) (path : List ℕ) (words : List (List ℕ)) (calls : List FileCall) → None ≡ command_of words → Judges held path words calls calls (Err Later)
refused held path words calls e = stops (is_told (ap command_in (sym e)))

pub refused_ends : (held : Held) (told : Option Held) (path : List ℕ) (words : List (List ℕ)) (calls : List FileCall) → None ≡ command_of words → told ≡ Some held → Ends held (record { path = path; words = words }) calls calls told Later
refused_ends held told path words calls e is = (held, is, record { judged = refused held path words calls e; same = refl })

-- ---- a step before the store stops

stops_by : (held : Held) (asked : Asked) (before after : List FileCall) (status : Status) (o : Outcome) (f f' : ℕ) → Judges held asked.path asked.words before after (Err status) → StopCounted f f' o → EndsBy held held asked before after status o
stops_by held asked before after status Did f f' h c = absurd c
stops_by held asked before after status Lost f f' h c = absurd c
stops_by held asked before after status (FailedOn name) f f' h c = record { judged = h; same = refl }
stops_by held asked before after status NoMemory f f' h c = record { judged = h; same = refl }
stops_by held asked before after status Stopped f f' h c = record { judged = h; same = refl }

pub stopped_ends : (held : Held) (told : Option Held) (path : List ℕ) (words : List (List ℕ)) (command : Command) (before after : List FileCall) (status : Status) (f f' : ℕ) → Some command ≡ command_of words
    → planned held path command before after (Err status) → StopCounted f f' (outcome_of status) → told ≡ Some held → Ends held (record { path = path; words = words }) before after told status
stopped_ends held told path words command before after status f f' e h c is =
    (held, is, stops_by held (record { path = path; words = words }) before after status (outcome_of status) f f' (judges held path words command before after (Err status) e h) c)

counted_by : (o : Outcome) (f f' l l' : ℕ) → StopCounted f f' o → l' ≡ l → CountedBy f f' l l' o
counted_by Did f f' l l' c e = absurd c
counted_by Lost f f' l l' c e = absurd c
counted_by (FailedOn name) f f' l l' c e = (c, e)
counted_by NoMemory f f' l l' c e = (c, e)
counted_by Stopped f f' l l' c e = (c, e)

pub stopped_counted : (status : Status) (f f' l l' : ℕ) → StopCounted f f' (outcome_of status) → l' ≡ l → Counted f f' l l' status
stopped_counted status f f' l l' c e = counted_by (outcome_of status) f f' l l' c e

-- a plan and a status by rule are two verdicts
apart : OneVerdict → (held : Held) (path : List ℕ) (words : List (List ℕ)) (before between after : List FileCall) (plan : Plan) (status : Status) → Judges held path words before between (Ok plan) → Judges held path words before after (Err status)
    → IsStopped (outcome_of status) → ⊥
apart one held path words before between after plan status h k t = let e = (one held path words before between after (Ok plan) (Err status) h k tt t).0 in absurd cc

same_plan : OneVerdict → (held : Held) (path : List ℕ) (words : List (List ℕ)) (before between after : List FileCall) (plan other : Plan) → Judges held path words before between (Ok plan) → Judges held path words before after (Ok other) → plan ≡ other
same_plan one held path words before between after plan other h k = let e = (one held path words before between after (Ok plan) (Ok other) h k tt tt).0 in cc

finishes_by : (o : Outcome) (f f' : ℕ) → StopCounted f f' o → NoFaultBy o → (IsStopped o → ⊥) → FinishesBy o
finishes_by Did f f' c n a = tt
finishes_by Lost f f' c n a = absurd c
finishes_by (FailedOn name) f f' c n a = absurd n
finishes_by NoMemory f f' c n a = tt
finishes_by Stopped f f' c n a = absurd (a tt)

-- where the box serves, nothing but want of memory keeps a good command from the store
pub stopped_served : OneVerdict → (held : Held) (path : List ℕ) (words : List (List ℕ)) (command : Command) (before between after : List FileCall) (plan : Plan) (status : Status) (f f' : ℕ) → Some command ≡ command_of words
    → planned held path command before after (Err status) → StopCounted f f' (outcome_of status) → NoFaultBy (outcome_of status) → Judges held path words before between (Ok plan) → Finishes status
stopped_served one held path words command before between after plan status f f' e h c n j =
    finishes_by (outcome_of status) f f' c n (apart one held path words before between after plan status j (judges held path words command before after (Err status) e h))

-- words that are no command have no plan
pub no_plan : {A : Type 0} → OneVerdict → (held : Held) (path : List ℕ) (words : List (List ℕ)) (before between : List FileCall) (plan : Plan) → None ≡ command_of words → Judges held path words before between (Ok plan) → A
no_plan one held path words before between plan e j = absurd (apart one held path words before between before plan Later j (refused held path words before e) tt)

-- ---- the store was made

done_at : (E : Type 0) (held : Held) (new : Option Held) (path : List ℕ) (words : List (List ℕ)) (command : Command) (before between after : List FileCall) (plan : Plan) (name bytes : List ℕ) (x : Unit {0}) → Some command ≡ command_of words
    → planned held path command before between (Ok plan) → Stores {E = E} (Some held) new name bytes (Ok x) → name ≡ plan.destination → bytes ≡ plan.bytes → after ≡ between ++ file_call Store name false ∷ []
    → Ends held (record { path = path; words = words }) before after new Done
done_at E held None path words command before between after plan name bytes x e h k is same last = absurd k
done_at E held (Some new) path words command before between after plan name bytes x e h k is same last = (
  new,
  refl,
  (
    record {
      plan = plan;
      between = between;
      judged = judges held path words command before between (Ok plan) e h;
      last = last ∙ ap (λ (n : List ℕ). between ++ file_call Store n false ∷ []) is;
    },
    k ∙ (ap (λ (n : List ℕ). map.insert held n bytes) is ∙ ap (λ (b : List ℕ). map.insert held plan.destination b) same),
  ),
)

pub done_ends : (E : Type 0) (held : Held) (told new : Option Held) (path : List ℕ) (words : List (List ℕ)) (command : Command) (before between after : List FileCall) (plan : Plan) (name bytes : List ℕ) (x : Unit {0}) → told ≡ Some held → Some command ≡ command_of words
    → planned held path command before between (Ok plan) → Stores {E = E} told new name bytes (Ok x) → name ≡ plan.destination → bytes ≡ plan.bytes → after ≡ between ++ file_call Store name false ∷ []
    → Ends held (record { path = path; words = words }) before after new Done
done_ends E held told new path words command before between after plan name bytes x t e h k is same last =
    let P : Option Held → Type 0 = λ o. Stores {E = E} o new name bytes (Ok x) in done_at E held new path words command before between after plan name bytes x e h (subst P t k) is same last

-- the store failed

fault_at : (E : Type 0) (held : Held) (new : Option Held) (path : List ℕ) (words : List (List ℕ)) (command : Command) (before between after : List FileCall) (plan : Plan) (name bytes : List ℕ) (x : E) → Some command ≡ command_of words
    → planned held path command before between (Ok plan) → Stores {E = E} (Some held) new name bytes (Err x) → name ≡ plan.destination → bytes ≡ plan.bytes → after ≡ between ++ file_call Store name true ∷ []
    → Ends held (record { path = path; words = words }) before after new WriteFault
fault_at E held None path words command before between after plan name bytes x e h k is same last = absurd k
fault_at E held (Some new) path words command before between after plan name bytes x e h k is same last =
    let P : List ℕ → Type 0 = λ n. MayLeave held n bytes new in
    let Q : List ℕ → Type 0 = λ b. MayLeave held plan.destination b new in (
      new,
      refl,
      (
        record {
          plan = plan;
          between = between;
          judged = judges held path words command before between (Ok plan) e h;
          last = last ∙ ap (λ (n : List ℕ). between ++ file_call Store n true ∷ []) is;
        },
        subst Q same (subst P is k),
      ),
    )

pub fault_ends : (E : Type 0) (held : Held) (told new : Option Held) (path : List ℕ) (words : List (List ℕ)) (command : Command) (before between after : List FileCall) (plan : Plan) (name bytes : List ℕ) (x : E) → told ≡ Some held → Some command ≡ command_of words
    → planned held path command before between (Ok plan) → Stores {E = E} told new name bytes (Err x) → name ≡ plan.destination → bytes ≡ plan.bytes → after ≡ between ++ file_call Store name true ∷ []
    → Ends held (record { path = path; words = words }) before after new WriteFault
fault_ends E held told new path words command before between after plan name bytes x t e h k is same last =
    let P : Option Held → Type 0 = λ o. Stores {E = E} o new name bytes (Err x) in fault_at E held new path words command before between after plan name bytes x e h (subst P t k) is same last

-- where the box serves, the store is made
pub fault_served : {A : Type 0} → OneVerdict → (held : Held) (path : List ℕ) (words : List (List ℕ)) (command : Command) (before between after : List FileCall) (plan other : Plan) (name bytes : List ℕ) (serves serves' : List ℕ → ℕ → Type 0)
    → Some command ≡ command_of words → planned held path command before between (Ok plan) → ((to : List ℕ) (n : ℕ) → serves to n → serves' to n) → ((n : ℕ) → serves' name n → length bytes ≤ n → ⊥)
    → name ≡ plan.destination → bytes ≡ plan.bytes → Judges held path words before after (Ok other) → serves other.destination (length other.bytes) → A
fault_served one held path words command before between after plan other name bytes serves serves' e h k l is whole j s =
    let same : other ≡ plan = same_plan one held path words before after between other plan j (judges held path words command before between (Ok plan) e h) in
    let P : List ℕ → Type 0 = λ n. serves' n (length other.bytes) in
    let named : other.destination ≡ name = ap (λ (p : Plan). p.destination) same ∙ sym is in
    let many : length bytes ≡ length other.bytes = ap length (whole ∙ sym (ap (λ (p : Plan). p.bytes) same)) in
    absurd (l (length other.bytes) (subst P named (k other.destination (length other.bytes) s)) (omega arith))

-- ---- where neither count rose, nothing but want of memory keeps a good command from its end

judged_stop : (held : Held) (new : Held) (asked : Asked) (before after : List FileCall) (status : Status) (o : Outcome) → outcome_of status ≡ o → EndsBy held new asked before after status o → IsStopped o → Judges held asked.path asked.words before after (Err status)
judged_stop held new asked before after status Did e h t = absurd t
judged_stop held new asked before after status Lost e h t = absurd t
judged_stop held new asked before after status (FailedOn name) e h t = absurd t
judged_stop held new asked before after status NoMemory e h t = absurd t
judged_stop held new asked before after status Stopped e h t = h.judged

quiet_finishes : (o : Outcome) (f f' l l' : ℕ) → CountedBy f f' l l' o → (Rose f f' → ⊥) → (Rose l l' → ⊥) → (IsStopped o → ⊥) → FinishesBy o
quiet_finishes Did f f' l l' c a b s = tt
quiet_finishes Lost f f' l l' c a b s = absurd (b c.1)
quiet_finishes (FailedOn name) f f' l l' c a b s = absurd (a c.0)
quiet_finishes NoMemory f f' l l' c a b s = tt
quiet_finishes Stopped f f' l l' c a b s = absurd (s tt)

pub completes : OneVerdict → (held : Held) (told : Option Held) (path : List ℕ) (words : List (List ℕ)) (before between after : List FileCall) (plan : Plan) (status : Status) (f f' l l' : ℕ)
    → Ends held (record { path = path; words = words }) before after told status → Counted f f' l l' status → Judges held path words before between (Ok plan) → (Rose f f' → ⊥) → (Rose l l' → ⊥) → Finishes status
completes one held told path words before between after plan status f f' l l' h c j a b =
    let o = outcome_of status in
    quiet_finishes o f f' l l' c a b
    (λ t. apart one held path words before between after plan status j (judged_stop held h.0 (record { path = path; words = words }) before after status o refl h.2 t) t)
