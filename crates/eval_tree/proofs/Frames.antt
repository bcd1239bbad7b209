-- Arguments on their way to a function and back.
use Rattle.std.proofs.Common.{◌≡◌, ℕ, zero, suc, ◌+◌, ◌<◌, ◌≤◌, List, [], ◌∷◌, ◌++◌, map, take, drop, length, get_or, refl, ap, sym, ◌∙◌, subst, arith, Bool, true, false, Option, Some, None, Result, Ok, Err}
use Rattle.std.proofs.lemmas.List.{drop_all, take-append-drop}
use Rattle.std.specs.Prelude.{slice_set, slice_get}
use Rattle.ctl_types.specs.declared.program.Parameter.{Parameter}
use Rattle.ctl_base.specs.declared.kind.Node.{Node}
use Rattle.ctl_types.specs.declared.value.Value.{Value}
use Rattle.ctl_types.specs.declared.expression.Argument.{Argument}
use Rattle.ctl_types.specs.Values.{Env}
use Rattle.ctl_types.specs.Run as run
use Rattle.ctl_types.specs.Run.{Fault, Trapped, Wrong, Passed, Target, given_or, given}
use Rattle.eval_values.specs.Uncounted.{free, Pixel, Outcome, Run, pixel, go_on, give, held, Called, Came}
use Rattle.eval_tree.specs.Calls.{paired, put_into, put_given, brought_into, with_defaults, given_at, default_of, defaults_of, missing_at, target_of, comes_of}
use Rattle.eval_tree.proofs.Lists.{next}

-- ---- values and paths side by side

pub paired_last : (values : Env) (paths : List (List ℕ)) (v : Option Value) (path : List ℕ) → length values ≡ length paths → paired (values ++ v ∷ []) (paths ++ path ∷ []) ≡ paired values paths ++ record { value = v; path = path } ∷ []
paired_last [] [] v path h = refl
paired_last [] (p ∷ paths) v path h = absurd (omega arith)
paired_last (w ∷ values) [] v path h = absurd (omega arith)
paired_last (w ∷ values) (p ∷ paths) v path h = ap (λ l. record { value = w; path = p } ∷ l) (paired_last values paths v path (omega arith))

pub values_paired : (values : Env) (paths : List (List ℕ)) → length values ≡ length paths → values ≡ map (λ (q : Passed). q.value) (paired values paths)
values_paired [] paths h = refl
values_paired (w ∷ values) [] h = absurd (omega arith)
values_paired (w ∷ values) (p ∷ paths) h = ap (λ l. w ∷ l) (values_paired values paths (omega arith))

pub paths_paired : (values : Env) (paths : List (List ℕ)) → length values ≡ length paths → paths ≡ map (λ (q : Passed). q.path) (paired values paths)
paths_paired [] [] h = refl
paths_paired [] (p ∷ paths) h = absurd (omega arith)
paths_paired (w ∷ values) [] h = absurd (omega arith)
paths_paired (w ∷ values) (p ∷ paths) h = ap (λ l. p ∷ l) (paths_paired values paths (omega arith))

-- ---- defaults

given_is : (defaults : List (Option Value)) (qs : List Passed) → given defaults qs ≡ with_defaults defaults (map (λ (q : Passed). q.value) qs)
given_is [] [] = refl
given_is (d ∷ defaults) [] = refl
given_is [] (q ∷ qs) = ap (λ l. q.value ∷ l) (given_is [] qs)
given_is (d ∷ defaults) (q ∷ qs) = ap (λ l. given_or q.value d ∷ l) (given_is defaults qs)

pub no_defaults : (frame : Env) → with_defaults [] frame ≡ frame
no_defaults [] = refl
no_defaults (v ∷ frame) = ap (λ l. v ∷ l) (no_defaults frame)

-- those that are done, and those that are left
abbrev pub half_given : ℕ → List Parameter → Env → Env
half_given i parameters frame = take i frame ++ with_defaults (map default_of (drop i parameters)) (drop i frame)

pub fill_next : (i : ℕ) (parameters : List Parameter) (q : Parameter) (frame frame' : Env) → i < length parameters → q ≡ get_or parameters i q → i < length frame → frame' ≡ given_at q.default i frame → half_given (i + 1) parameters frame' ≡ half_given i parameters frame
fill_next i [] q frame frame' h k l e = absurd (omega arith)
fill_next i (x ∷ parameters) q [] frame' h k l e = absurd (omega arith)
fill_next zero (x ∷ parameters) q (v ∷ frame) frame' h k l e = ap (half_given 1 (x ∷ parameters)) e ∙ ap (λ (q : Parameter). given_or v q.default ∷ with_defaults (map default_of parameters) frame) k
fill_next (suc i) (x ∷ parameters) q (v ∷ frame) frame' h k l e =
    let n : suc i + 1 ≡ suc (i + 1) = omega arith in
    ap (half_given (suc i + 1) (x ∷ parameters)) e ∙ ap (λ n. half_given n (x ∷ parameters) (v ∷ given_at q.default i frame)) n ∙ ap (λ l. v ∷ l) (fill_next i parameters q frame (given_at q.default i frame) (omega arith) k (omega arith) refl)

pub fill_done : (i : ℕ) (parameters : List Parameter) (frame : Env) → length parameters ≤ i → half_given i parameters frame ≡ frame
fill_done i parameters frame h = ap (λ l. take i frame ++ with_defaults (map default_of l) (drop i frame)) (drop_all i parameters h) ∙ ap (λ l. take i frame ++ l) (no_defaults (drop i frame)) ∙ take-append-drop i frame

none_given : (defaults : List (Option Value)) → with_defaults defaults [] ≡ []
none_given [] = refl
none_given (d ∷ defaults) = refl

pub fill_short : (i : ℕ) (parameters : List Parameter) (frame : Env) → length frame ≤ i → half_given i parameters frame ≡ frame
fill_short i parameters frame h = ap (λ l. take i frame ++ with_defaults (map default_of (drop i parameters)) l) (drop_all i frame h) ∙ ap (λ l. take i frame ++ l) (none_given (map default_of (drop i parameters)) ∙ sym (drop_all i frame h)) ∙ take-append-drop i frame

-- one that is missing

pub missing_yes : (frame : Env) (i : ℕ) (o : Option Value) → i < length frame → o ≡ get_or frame i o → o ≡ None → true ≡ missing_at i frame
missing_yes [] i o h k e = absurd (omega arith)
missing_yes (v ∷ frame) zero o h k e = ap (λ v. missing_at 0 (v ∷ frame)) (sym (sym k ∙ e))
missing_yes (v ∷ frame) (suc i) o h k e = missing_yes frame i o (omega arith) k e

pub missing_no : (frame : Env) (i : ℕ) (o : Option Value) (w : Value) → i < length frame → o ≡ get_or frame i o → o ≡ Some w → false ≡ missing_at i frame
missing_no [] i o w h k e = absurd (omega arith)
missing_no (v ∷ frame) zero o w h k e = ap (λ v. missing_at 0 (v ∷ frame)) (sym (sym k ∙ e))
missing_no (v ∷ frame) (suc i) o w h k e = missing_no frame i o w (omega arith) k e

pub missing_out : (frame : Env) (i : ℕ) → length frame ≤ i → false ≡ missing_at i frame
missing_out [] i h = refl
missing_out (v ∷ frame) zero h = absurd (omega arith)
missing_out (v ∷ frame) (suc i) h = missing_out frame i (omega arith)

pub given_none : (i : ℕ) (frame : Env) → frame ≡ given_at None i frame
given_none i [] = refl
given_none zero (None ∷ frame) = refl
given_none zero (Some v ∷ frame) = refl
given_none (suc i) (v ∷ frame) = ap (λ l. v ∷ l) (given_none i frame)

pub given_there : (d : Option Value) (i : ℕ) (frame : Env) → missing_at i frame ≡ false → frame ≡ given_at d i frame
given_there d i [] e = refl
given_there d zero (None ∷ frame) e = absurd (cc)
given_there d zero (Some v ∷ frame) e = refl
given_there d (suc i) (v ∷ frame) e = ap (λ l. v ∷ l) (given_there d i frame e)

pub given_set : (d : Option Value) (i : ℕ) (frame : Env) → missing_at i frame ≡ true → slice_set frame i d ≡ given_at d i frame
given_set d i [] e = refl
given_set d zero (None ∷ frame) e = refl
given_set d zero (Some v ∷ frame) e = absurd (cc)
given_set d (suc i) (v ∷ frame) e = ap (λ l. v ∷ l) (given_set d i frame e)

-- ---- outputs

brought_is : (targets : List (Option Target)) (qs : List Passed) (frame env : Env) (turns : ℕ) → run.brought (Unit {0}) free targets qs frame (pixel env turns) ≡ pixel (brought_into targets (map (λ (q : Passed). q.path) qs) frame env) turns
brought_is [] qs frame env turns = refl
brought_is (t ∷ targets) [] frame env turns = refl
brought_is (t ∷ targets) (q ∷ qs) [] env turns = refl
brought_is (t ∷ targets) (q ∷ qs) (None ∷ frame) env turns = brought_is targets qs frame env turns
brought_is (None ∷ targets) (q ∷ qs) (Some v ∷ frame) env turns = brought_is targets qs frame env turns
brought_is (Some t ∷ targets) (q ∷ qs) (Some v ∷ frame) env turns = brought_is targets qs frame (put_into (Some t) q.path v env) turns

no_paths : (targets : List (Option Target)) (frame env : Env) → brought_into targets [] frame env ≡ env
no_paths [] frame env = refl
no_paths (t ∷ targets) frame env = refl

no_frame : (targets : List (Option Target)) (paths : List (List ℕ)) (env : Env) → brought_into targets paths [] env ≡ env
no_frame [] paths env = refl
no_frame (t ∷ targets) [] env = refl
no_frame (t ∷ targets) (p ∷ paths) env = refl

pub paths_over : (targets : List (Option Target)) (paths : List (List ℕ)) (frame env : Env) (i : ℕ) → length paths ≤ i → brought_into targets (drop i paths) frame env ≡ env
paths_over targets paths frame env i h = ap (λ l. brought_into targets l frame env) (drop_all i paths h) ∙ no_paths targets frame env

pub frame_over : (targets : List (Option Target)) (paths : List (List ℕ)) (frame env : Env) (i : ℕ) → length frame ≤ i → brought_into targets paths (drop i frame) env ≡ env
frame_over targets paths frame env i h = ap (λ l. brought_into targets paths l env) (drop_all i frame h) ∙ no_frame targets paths env

pub tail_kept : {A : Type 0} (xs : List A) (i : ℕ) (x : A) → drop (i + 1) (slice_set xs i x) ≡ drop (i + 1) xs
tail_kept [] i x = refl
tail_kept (y ∷ xs) zero x = refl
tail_kept (y ∷ xs) (suc i) x = let n : suc i + 1 ≡ suc (i + 1) = omega arith in ap (λ n. drop n (slice_set (y ∷ xs) (suc i) x)) n ∙ tail_kept xs i x ∙ sym (ap (λ n. drop n (y ∷ xs)) n)

get_or_any : {A : Type 0} (xs : List A) (i : ℕ) (d e : A) → i < length xs → get_or xs i d ≡ get_or xs i e
get_or_any [] i d e h = absurd (omega arith)
get_or_any (x ∷ xs) zero d e h = refl
get_or_any (x ∷ xs) (suc i) d e h = get_or_any xs i d e (omega arith)

get_next : (frame : Env) (i : ℕ) (o : Option Value) → slice_get frame i ≡ Some o → drop i frame ≡ o ∷ drop (i + 1) frame
get_next [] i o e = absurd (cc)
get_next (v ∷ frame) zero o e = let q : v ≡ o = cc in ap (λ v. v ∷ frame) q
get_next (v ∷ frame) (suc i) o e = let n : suc i + 1 ≡ suc (i + 1) = omega arith in get_next frame i o e ∙ ap (λ n. o ∷ drop n (v ∷ frame)) (sym n)

brought_one : (t : Option Target) (targets : List (Option Target)) (path : List ℕ) (paths : List (List ℕ)) (o : Option Value) (frame env : Env) → brought_into (t ∷ targets) (path ∷ paths) (o ∷ frame) env ≡ brought_into targets paths frame (put_given t path o env)
brought_one t targets path paths None frame env = refl
brought_one t targets path paths (Some v) frame env = refl

pub bring_next : (arguments : List Argument) (ways : List (List ℕ)) (frame frame' env env' all : Env) (i : ℕ) (a : Argument) (path w : List ℕ) (o : Option Value) → i < length arguments → a ≡ get_or arguments i a → i < length ways → path ≡ get_or ways i w → slice_get frame i ≡ Some o → drop (i + 1) frame' ≡ drop (i + 1) frame → env' ≡ put_given (target_of a) path o env → brought_into (map target_of (drop i arguments)) (drop i ways) (drop i frame) env ≡ all → brought_into (map target_of (drop (i + 1) arguments)) (drop (i + 1) ways) (drop (i + 1) frame') env' ≡ all
bring_next arguments ways frame frame' env env' all i a path w o h k l m e f g so =
    ap (λ l. brought_into (map target_of (drop (i + 1) arguments)) (drop (i + 1) ways) l env') f
    ∙ ap (brought_into (map target_of (drop (i + 1) arguments)) (drop (i + 1) ways) (drop (i + 1) frame)) g
    ∙ sym (brought_one (target_of a) (map target_of (drop (i + 1) arguments)) path (drop (i + 1) ways) o (drop (i + 1) frame) env)
    ∙ sym (ap (λ l. brought_into (map target_of l) (drop i ways) (drop i frame) env) (next arguments i a h k) ∙ ap (λ l. brought_into (target_of a ∷ map target_of (drop (i + 1) arguments)) l (drop i frame) env) (next ways i path l (m ∙ get_or_any ways i w path l)) ∙ ap (λ l. brought_into (target_of a ∷ map target_of (drop (i + 1) arguments)) (path ∷ drop (i + 1) ways) l env) (get_next frame i o e))
    ∙ so

-- ---- a call

-- what comes back of a call
abbrev pub back : List (Option Target) → List Passed → Env → Result Came Fault → Outcome Value
back targets qs env came = run.came_to (Unit {0}) free targets qs env came

pub called_is : (f : Option Called) (opens : List ℕ) (targets : List (Option Target)) (qs : List Passed) (env : Env) (turns : ℕ) → held f (run.called (Unit {0}) free opens targets qs) (pixel env turns) ≡ back targets qs env (comes_of f opens (map (λ (q : Passed). q.value) qs) turns)
called_is None opens targets qs env turns = refl
called_is (Some f) opens targets qs env turns = ap (λ frame. back targets qs env (f.run opens frame turns tt)) (given_is f.defaults qs)

pub came_back : (targets : List (Option Target)) (qs : List Passed) (env : Env) (v : Value) (frame : Env) (turns : ℕ) → back targets qs env (Ok (record { value = v; frame = frame; turns = turns; spent = tt })) ≡ Ok (record { value = v; after = pixel (brought_into targets (map (λ (q : Passed). q.path) qs) frame env) turns })
came_back targets qs env v frame turns = ap (λ p. Ok (record { value = v; after = p })) (brought_is targets qs frame env turns)
