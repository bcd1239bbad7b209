-- A call by what was seen of its arguments is the call of the rules.
use Rattle.std.proofs.Common.{◌≡◌, ℕ, zero, suc, ◌+◌, List, [], ◌∷◌, ◌++◌, map, length, get_or, Result as Answer, Ok, Err, Bool, false, ◌||◌, ap, sym, ◌∙◌, subst, refl, arith}
use Rattle.std.proofs.lemmas.List.{append_assoc}
use Rattle.ctl_types.specs.declared.expression.Argument.{Argument}
use Rattle.ctl_types.specs.declared.expression.Argument.TheFolds.{fold_out-TypedCall}
use Rattle.ctl_types.specs.declared.expression.Callee.{Callee}
use Rattle.ctl_types.specs.declared.expression.Callee.TheVariants as callee
use Rattle.ctl_types.specs.declared.expression.TypedCall.{TypedCall}
use Rattle.ctl_types.specs.declared.shape.Size.{Size}
use Rattle.ctl_types.specs.Shapes.{size_in}
use Rattle.level_rules.specs.declared.instance.Instance.{Instance}
use Rattle.level_rules.specs.declared.instance.Holder.TheVariants.{Result, Variable}
use Rattle.level_rules.specs.declared.found.Found.{Found}
use Rattle.level_rules.specs.Rules.{Around, Seen, Look, PlaceLook, ArgumentLook, both_found, call_found, output_found, of_input, any, any_input, instance_of, levels_of, arguments_found, outputs_found, seen_callee, look_argument, look_form, look_step, look_operand_form, look_call_form, look_link, look_place_form, look_call}
use Rattle.level_sets.specs.declared.calls.Passed.{Passed}
use Rattle.level_sets.specs.Marks.{tells_mark}
use Rattle.level_sets.specs.Scene.{SceneForm, known_of, around_of, Sees}
use Rattle.level_sets.specs.Calls.{arguments_of, looks_of, outputs_seen, inputs_seen, instance_seen, callee_seen, uniform_of, callee_of, sizes_of, arguments_in}
use Rattle.level_sets.proofs.Lists.{both_assoc, then_found, call_last}
use Rattle.level_sets.proofs.Picked.{tells_is}

get_behind : (pre : List Bool) (l : Bool) (rest : List Bool) (k : ℕ) → k ≡ length pre → get_or (pre ++ l ∷ rest) k false ≡ l
get_behind [] l rest zero e = refl
get_behind [] l rest (suc k) e = absurd (omega arith)
get_behind (b ∷ pre) l rest zero e = absurd (omega arith)
get_behind (b ∷ pre) l rest (suc k) e = get_behind pre l rest k (omega arith)

long_push : (pre : List Bool) (l : Bool) → length (pre ++ l ∷ []) ≡ length pre + 1
long_push [] l = omega arith
long_push (b ∷ pre) l = let h = long_push pre l in omega arith

outputs_are : (varies : ℕ → Bool) (args : List ArgumentLook) (pre : List Bool) (s : Around) (c : Bool) (k : ℕ) → k ≡ length pre → outputs_seen varies k args (pre ++ looks_of args s c) c ≡ outputs_found varies k args s c
outputs_are varies [] pre s c k e = refl
outputs_are varies (a ∷ args) pre s c k e =
    let l = (a.look s c).varies in
    let n = long_push pre l in
    let h : pre ++ (l ∷ looks_of args s c) ≡ (pre ++ l ∷ []) ++ looks_of args s c = sym (append_assoc pre (l ∷ []) (looks_of args s c)) in
    ap (λ b. both_found (output_found (c || (varies k || b)) a.output) (outputs_seen varies (k + 1) args (pre ++ (l ∷ looks_of args s c)) c)) (get_behind pre l (looks_of args s c) k e)
    ∙ ap (λ ls. both_found (output_found (c || (varies k || l)) a.output) (outputs_seen varies (k + 1) args ls c)) h
    ∙ ap (both_found (output_found (c || (varies k || l)) a.output)) (outputs_are varies args (pre ++ l ∷ []) s c (k + 1) (omega arith))

inputs_are : (args : List ArgumentLook) (pre : List Bool) (s : Around) (c : Bool) (k : ℕ) → k ≡ length pre → inputs_seen k args (pre ++ looks_of args s c) ≡ any_input args s c
inputs_are [] pre s c k e = refl
inputs_are (a ∷ args) pre s c k e =
    let l = (a.look s c).varies in
    let n = long_push pre l in
    let h : pre ++ (l ∷ looks_of args s c) ≡ (pre ++ l ∷ []) ++ looks_of args s c = sym (append_assoc pre (l ∷ []) (looks_of args s c)) in
    ap (λ b. of_input a.output b || inputs_seen (k + 1) args (pre ++ (l ∷ looks_of args s c))) (get_behind pre l (looks_of args s c) k e)
    ∙ ap (λ ls. of_input a.output l || inputs_seen (k + 1) args ls) h
    ∙ ap (λ b. of_input a.output l || b) (inputs_are args (pre ++ l ∷ []) s c (k + 1) (omega arith))

-- the arguments, and then the call, are the whole call
callee_is : (s : SceneForm) (k : Callee) (sizes : List Size) (args : List ArgumentLook) (c : Bool) (passed : Passed) → passed.levels ≡ levels_of args (around_of s) c → passed.looks ≡ looks_of args (around_of s) c →
    ((callee_seen s k sizes args passed c).varies ≡ (seen_callee (known_of s) k sizes args (around_of s) c).varies)
    × (both_found (arguments_found (uniform_of s k) 0 args (around_of s) c) (callee_seen s k sizes args passed c).found ≡ (seen_callee (known_of s) k sizes args (around_of s) c).found)
callee_is s (callee.Program n) sizes args c passed l r =
    let known = known_of s in
    let i : List Bool → Instance = λ levels. instance_of n (map (size_in s.opens) sizes) levels c in
    let j = i (levels_of args (around_of s) c) in
    let f = arguments_found (uniform_of s (callee.Program n)) 0 args (around_of s) c in (
      ap (λ levels. any levels || known (i levels) Result) l,
      ap (λ levels. both_found f (both_found (call_found (i levels)) (outputs_seen (λ k. known (i levels) (Variable k)) 0 args passed.looks c))) l
          ∙ ap (λ looks. both_found f (both_found (call_found j) (outputs_seen (λ k. known j (Variable k)) 0 args looks c))) r
          ∙ ap (λ o. both_found f (both_found (call_found j) o)) (outputs_are (λ k. known j (Variable k)) args [] (around_of s) c 0 refl)
          ∙ sym (both_assoc f (call_found j) (outputs_found (λ k. known j (Variable k)) 0 args (around_of s) c)),
    )
callee_is s (callee.Library id) sizes args c passed l r =
    let f = arguments_found [] 0 args (around_of s) c in (
      ap any l,
      ap (λ looks. both_found f (outputs_seen (λ k. inputs_seen 0 args looks) 0 args looks c)) r
          ∙ ap (λ b. both_found f (outputs_seen (λ k. b) 0 args (looks_of args (around_of s) c) c)) (inputs_are args [] (around_of s) c 0 refl)
          ∙ ap (both_found f) (outputs_are (λ k. any_input args (around_of s) c) args [] (around_of s) c 0 refl),
    )

-- a call, from its parts
call_is : (s : SceneForm) (t : TypedCall) → look_call (known_of s) t ≡ seen_callee (known_of s) (callee_of t) (sizes_of t) (arguments_of s (arguments_in t))
call_is s t = fold_out-TypedCall ArgumentLook Look Look Look Look Look PlaceLook look_argument (look_form (known_of s)) look_step look_operand_form (look_call_form (known_of s)) look_link look_place_form t

pub call_gives : (s : SceneForm) (t : TypedCall) (c v : Bool) (old mid new : Found) (passed : Passed) →
    (passed.levels ≡ levels_of (arguments_of s (arguments_in t)) (around_of s) c) × (passed.looks ≡ looks_of (arguments_of s (arguments_in t)) (around_of s) c) × (mid ≡ both_found old (arguments_found (uniform_of s (callee_of t)) 0 (arguments_of s (arguments_in t)) (around_of s) c)) →
    (v ≡ (callee_seen s (callee_of t) (sizes_of t) (arguments_of s (arguments_in t)) passed c).varies) × (new ≡ both_found mid (callee_seen s (callee_of t) (sizes_of t) (arguments_of s (arguments_in t)) passed c).found) →
    (v ≡ (look_call (known_of s) t (around_of s) c).varies) × (new ≡ both_found old (look_call (known_of s) t (around_of s) c).found)
call_gives s t c v old mid new passed h k =
    let e = callee_is s (callee_of t) (sizes_of t) (arguments_of s (arguments_in t)) c passed h.0 h.1 in
    let w : seen_callee (known_of s) (callee_of t) (sizes_of t) (arguments_of s (arguments_in t)) (around_of s) c ≡ look_call (known_of s) t (around_of s) c = sym (ap (λ (l : Look). l (around_of s) c) (call_is s t)) in (
      k.0 ∙ e.0 ∙ ap (λ (x : Seen). x.varies) w,
      then_found old mid new _ _ h.2 k.1 ∙ ap (both_found old) (e.1 ∙ ap (λ (x : Seen). x.found) w),
    )

pub call_sees : {E : Type 0} (s : SceneForm) (t : TypedCall) (args : List Argument) (uniform : List Bool) (c : Bool) (old mid new : Found) (passed : Passed) (r : Answer Bool E) →
    args ≡ arguments_in t → uniform ≡ uniform_of s (callee_of t) →
    (passed.levels ≡ levels_of (arguments_of s args) (around_of s) c) × (passed.looks ≡ looks_of (arguments_of s args) (around_of s) c) × (mid ≡ both_found old (arguments_found uniform 0 (arguments_of s args) (around_of s) c)) →
    Sees mid new (callee_seen s (callee_of t) (sizes_of t) (arguments_of s (arguments_in t)) passed c) r →
    Sees old new (look_call (known_of s) t (around_of s) c) r
call_sees s t args uniform c old mid new passed (Ok v) a u h k =
    call_gives s t c v old mid new passed
    (subst (λ u. (passed.levels ≡ levels_of (arguments_of s (arguments_in t)) (around_of s) c) × (passed.looks ≡ looks_of (arguments_of s (arguments_in t)) (around_of s) c) × (mid ≡ both_found old (arguments_found u 0 (arguments_of s (arguments_in t)) (around_of s) c))) u
    (subst (λ args. (passed.levels ≡ levels_of (arguments_of s args) (around_of s) c) × (passed.looks ≡ looks_of (arguments_of s args) (around_of s) c) × (mid ≡ both_found old (arguments_found uniform 0 (arguments_of s args) (around_of s) c))) a h)) k
call_sees s t args uniform c old mid new passed (Err e) a u h k = tt

outputs_call_none : (v : ℕ → Bool) (args : List ArgumentLook) (looks : List Bool) (c : Bool) (k : ℕ) → (outputs_seen v k args looks c).calls ≡ []
outputs_call_none v [] looks c k = refl
outputs_call_none v (a ∷ args) looks c k = outputs_call_none v args looks c (k + 1)

outputs_fault_none : (v : ℕ → Bool) (args : List ArgumentLook) (looks : List Bool) (c : Bool) (k : ℕ) → (outputs_seen v k args looks c).faults ≡ []
outputs_fault_none v [] looks c k = refl
outputs_fault_none v (a ∷ args) looks c k = outputs_fault_none v args looks c (k + 1)

outputs_place_none : (v : ℕ → Bool) (args : List ArgumentLook) (looks : List Bool) (c : Bool) (k : ℕ) → (outputs_seen v k args looks c).places ≡ []
outputs_place_none v [] looks c k = refl
outputs_place_none v (a ∷ args) looks c k = outputs_place_none v args looks c (k + 1)

-- the outputs are put into the set, and then the call is noted
pub instance_gives : (s : SceneForm) (i : Instance) (levels : List Bool) (rows : List (List (List Bool))) (args : List Argument) (looks : List Bool) (c v a t : Bool) (old mid new : Found) →
    levels ≡ i.levels → rows ≡ s.rows → v ≡ (a || t) → a ≡ any levels → t ≡ tells_mark rows i 0 →
    mid ≡ both_found old (outputs_seen (λ k. tells_mark s.rows i (k + 1)) 0 (arguments_of s args) looks c) → new ≡ both_found mid (call_found i) →
    (v ≡ (any i.levels || known_of s i Result)) × (new ≡ both_found old (both_found (call_found i) (outputs_seen (λ k. known_of s i (Variable k)) 0 (arguments_of s args) looks c)))
instance_gives s i levels rows args looks c v a t old mid new l r e f g h k =
    let told : (λ (k : ℕ). tells_mark s.rows i (k + 1)) ≡ (λ (k : ℕ). known_of s i (Variable k)) = λ p k. tells_is s.rows i (Variable k) p in
    let o = outputs_seen (λ k. known_of s i (Variable k)) 0 (arguments_of s args) looks c in
    let m : mid ≡ both_found old o = h ∙ ap (λ v. both_found old (outputs_seen v 0 (arguments_of s args) looks c)) told in (
      e ∙ ap (λ a. a || t) (f ∙ ap any l) ∙ ap (λ t. any i.levels || t) (g ∙ ap (λ rows. tells_mark rows i 0) r ∙ tells_is s.rows i Result),
      then_found old mid new o (call_found i) m k ∙ ap (both_found old) (sym (call_last i o (outputs_call_none _ (arguments_of s args) looks c 0) (outputs_fault_none _ (arguments_of s args) looks c 0) (outputs_place_none _ (arguments_of s args) looks c 0))),
    )

pub program_gives : {E : Type 0} (s : SceneForm) (n : ℕ) (sizes : List Size) (own opens : List ℕ) (levels looks looks' : List Bool) (args : List ArgumentLook) (c : Bool) (old new : Found) (r : Answer Bool E) →
    own ≡ map (size_in opens) sizes → opens ≡ s.opens → looks' ≡ looks →
    Sees old new (instance_seen (known_of s) (instance_of n own levels c) args looks' c) r →
    Sees old new (instance_seen (known_of s) (instance_of n (map (size_in s.opens) sizes) levels c) args looks c) r
program_gives s n sizes own opens levels looks looks' args c old new r e f g h =
    subst (λ l. Sees old new (instance_seen (known_of s) (instance_of n (map (size_in s.opens) sizes) levels c) args l c) r) g
    (subst (λ own. Sees old new (instance_seen (known_of s) (instance_of n own levels c) args looks' c) r) (e ∙ ap (λ o. map (size_in o) sizes) f) h)

pub call_arm : {E : Type 0} (s : SceneForm) (t : TypedCall) (n : ℕ) (passed : Passed) (c : Bool) (sizes : List Size) (args : List Argument) (old new : Found) (r : Answer Bool E) →
    callee_of t ≡ callee.Program n → sizes ≡ sizes_of t → args ≡ arguments_in t →
    Sees old new (instance_seen (known_of s) (instance_of n (map (size_in s.opens) sizes) passed.levels c) (arguments_of s args) passed.looks c) r →
    Sees old new (callee_seen s (callee_of t) (sizes_of t) (arguments_of s (arguments_in t)) passed c) r
call_arm s t n passed c sizes args old new r e f g h =
    subst (λ k. Sees old new (callee_seen s k (sizes_of t) (arguments_of s (arguments_in t)) passed c) r) (sym e)
    (subst (λ args. Sees old new (callee_seen s (callee.Program n) (sizes_of t) (arguments_of s args) passed c) r) g
    (subst (λ sizes. Sees old new (callee_seen s (callee.Program n) sizes (arguments_of s args) passed c) r) f h))
