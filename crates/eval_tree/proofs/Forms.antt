-- What the code answers, step by step.
use Rattle.std.proofs.Common.{◌≡◌, ℕ, zero, suc, ◌+◌, ◌<◌, List, [], ◌∷◌, map, length, get_or, drop, ◌++◌, refl, ap, sym, ◌∙◌, subst, arith, Bool, true, false, Option, Some, None, Result, Ok, Err, ℤ, ◌&&◌, if◌then◌else◌}
use Rattle.fix_num.specs.declared.TheConstants.{FRACTION}
use Rattle.fix_num.specs.Whole.{truth, of_bool}
use Rattle.ctl_base.specs.declared.kind.ScalarKind.{ScalarKind}
use Rattle.ctl_base.specs.declared.kind.ScalarKind.TheVariants as kind
use Rattle.ctl_tree.specs.declared.expression.UnaryOperator.{UnaryOperator}
use Rattle.ctl_types.specs.declared.scalar.Scalar.{Scalar}
use Rattle.ctl_types.specs.declared.scalar.Scalar.TheVariants as scalar_variant
use Rattle.ctl_types.specs.declared.value.Value.{Value, out-Value}
use Rattle.ctl_types.specs.declared.value.Value.TheOpen as layer
use Rattle.ctl_types.specs.declared.value.Value.TheOpen.{Value-F}
use Rattle.ctl_types.specs.declared.expression.Conversion.{Conversion}
use Rattle.ctl_types.specs.declared.expression.Conversion.TheVariants.{Same, Between}
use Rattle.ctl_types.specs.declared.expression.LinkOperator.{LinkOperator}
use Rattle.ctl_types.specs.Scalars.{kind_of, word_of, scalar, same_kind, operate, operator_kind, operate_alone, converted}
use Rattle.ctl_types.specs.Values.{Env, one, scalars, part_of}
use Rattle.ctl_types.specs.Run as run
use Rattle.ctl_types.specs.Run.{Fault, Trapped, Wrong}
use Rattle.eval_values.specs.declared.stop.Stop.{Stop}
use Rattle.eval_values.specs.declared.stop.Stop.TheVariants as stop
use Rattle.eval_scalars.specs.Scalars.{made, of_one, of_two, as_kind}
use Rattle.eval_values.specs.Means.{onward, convert_in, between_in, unary_in, second_in, operated_in, linked_in, bool_form, bool_in, number_form, number_in}
use Rattle.ctl_types.specs.declared.expression.TypedLink.{TypedLink}
use Rattle.ctl_types.specs.declared.expression.TypedStep.{TypedStep}
use Rattle.ctl_types.specs.declared.expression.Operand.{Operand}
use Rattle.ctl_types.specs.declared.value.Value.TheVariants as variant
use Rattle.ctl_types.specs.declared.expression.TypedExpr.{TypedExpr}
use Rattle.ctl_types.specs.declared.expression.TypedExpr.TheVariants as expr_variant
use Rattle.ctl_types.specs.declared.expression.Argument.TheOpen as expr_layer
use Rattle.ctl_types.specs.declared.expression.Argument.TheFolds.{fold-roll-TypedExpr}
use Rattle.ctl_base.specs.declared.kind.Node.{Node}
use Rattle.ctl_types.specs.declared.expression.Argument.{Argument}
use Rattle.ctl_types.specs.declared.expression.TypedCall.{TypedCall}
use Rattle.ctl_types.specs.declared.expression.TypedPlace.{TypedPlace}
use Rattle.ctl_types.specs.declared.expression.TypedStep.{roll-TypedStep}
use Rattle.ctl_types.specs.declared.expression.TypedStep.TheVariants as step_variant
use Rattle.ctl_types.specs.declared.expression.Argument.TheFolds.{fold-roll-TypedStep, map-TypedStep}
use mathlib.Core.Bool.{beq}
use Rattle.eval_tree.proofs.Lists.{next}
use Rattle.eval_values.specs.Uncounted.{path_run, found, index_number, index_in, field_in, linked, steps_run, decided, free, Pixel, Outcome, Run, pixel, go_on, give, held, Gives, scalar_form, scalar_in}
use Rattle.eval_tree.specs.Scene.{SceneForm, setting, run_argument, run_call, run_place, run_expr, run_link, run_step, run_operand}

-- an evaluation that stops ends what stands behind it
pub stopped : {V W X Y : Type 0} (view : V → W) (other : X → Y) (e : Stop) (env : Env) (turns : ℕ) (o : Outcome W) (next : W → Run Y) → Gives {V = V} view (Err e) env turns o → Gives {V = X} other (Err e) env turns (go_on o next)
stopped view other (stop.Trap k n) env turns o next h = ap (λ o. go_on o next) h
stopped view other stop.Wrong env turns o next h = ap (λ o. go_on o next) h
stopped view other stop.Memory env turns o next h = tt

-- what stands behind an evaluation that gives a value
pub after : {W X Y : Type 0} (other : X → Y) (res : Result X Stop) (w : W) (env env' : Env) (turns turns' : ℕ) (o : Outcome W) (next : W → Run Y) → o ≡ Ok (record { value = w; after = pixel env turns }) → Gives other res env' turns' (next w (pixel env turns)) → Gives other res env' turns' (go_on o next)
after other res w env env' turns turns' o next e h = subst (λ o. Gives other res env' turns' (go_on o next)) (sym e) h

-- an evaluation is the same where it is counted
pub counted : (r : Run Value) (p : Pixel) (res : Result Value Stop) (env : Env) (turns : ℕ) → Gives (λ v. v) res env turns (r p) → Gives (λ v. v) res env turns (run.evaluated (Unit {0}) free r p)
counted r p (Ok v) env turns h = ap (λ o. go_on o (λ (v : Value) (p : Pixel). give v (run.paid (Unit {0}) free (1 + scalars v) p))) h
counted r p (Err (stop.Trap k n)) env turns h = ap (λ o. go_on o (λ (v : Value) (p : Pixel). give v (run.paid (Unit {0}) free (1 + scalars v) p))) h
counted r p (Err stop.Wrong) env turns h = ap (λ o. go_on o (λ (v : Value) (p : Pixel). give v (run.paid (Unit {0}) free (1 + scalars v) p))) h
counted r p (Err stop.Memory) env turns h = tt

-- what stands behind something held
pub held_on : {V W : Type 0} (o : Option V) (p : Pixel) (next : V → Run W) → go_on (held o give p) next ≡ held o next p
held_on None p next = refl
held_on (Some v) p next = refl

-- scalars

pub word_is : (k : ScalarKind) (x : Value-F Value) (f : Scalar → Option Scalar) (next : ℤ → Run Value) (p : Pixel) → ((s : Scalar) → same_kind (kind_of s) k ≡ true → next (word_of s) p ≡ held (f s) (λ s. give (one s)) p) → ((s : Scalar) → same_kind (kind_of s) k ≡ false → f s ≡ None) → run.word_in (Unit {0}) free k x next p ≡ held (onward (scalar_form x) f) (λ s. give (one s)) p
word_is k (layer.List vs) f next p same other = refl
word_is k (layer.Fields vs) f next p same other = refl
word_is k (layer.One s) f next p same other = by (same_kind (kind_of s) k) refl where
  by : (b : Bool) → same_kind (kind_of s) k ≡ b → run.word_in (Unit {0}) free k (layer.One s) next p ≡ held (f s) (λ s. give (one s)) p
  by true e = rw e (same s e)
  by false e = rw (e, other s e) refl

same_is : (a b : ScalarKind) → same_kind a b ≡ true → a ≡ b
same_is kind.Bool kind.Bool e = refl
same_is kind.Bool kind.Int e = absurd (cc)
same_is kind.Bool kind.Unsigned e = absurd (cc)
same_is kind.Bool kind.Half e = absurd (cc)
same_is kind.Bool kind.Float e = absurd (cc)
same_is kind.Int kind.Bool e = absurd (cc)
same_is kind.Int kind.Int e = refl
same_is kind.Int kind.Unsigned e = absurd (cc)
same_is kind.Int kind.Half e = absurd (cc)
same_is kind.Int kind.Float e = absurd (cc)
same_is kind.Unsigned kind.Bool e = absurd (cc)
same_is kind.Unsigned kind.Int e = absurd (cc)
same_is kind.Unsigned kind.Unsigned e = refl
same_is kind.Unsigned kind.Half e = absurd (cc)
same_is kind.Unsigned kind.Float e = absurd (cc)
same_is kind.Half kind.Bool e = absurd (cc)
same_is kind.Half kind.Int e = absurd (cc)
same_is kind.Half kind.Unsigned e = absurd (cc)
same_is kind.Half kind.Half e = refl
same_is kind.Half kind.Float e = absurd (cc)
same_is kind.Float kind.Bool e = absurd (cc)
same_is kind.Float kind.Int e = absurd (cc)
same_is kind.Float kind.Unsigned e = absurd (cc)
same_is kind.Float kind.Half e = absurd (cc)
same_is kind.Float kind.Float e = refl

between_is : (a b : ScalarKind) (x : Value-F Value) (p : Pixel) → run.word_in (Unit {0}) free a x (λ z. give (one (scalar b (converted FRACTION a b z)))) p ≡ held (onward (scalar_form x) (between_in a b)) give p
between_is a b (layer.List vs) p = refl
between_is a b (layer.Fields vs) p = refl
between_is a b (layer.One s) p = by (same_kind (kind_of s) a) refl where
  by : (t : Bool) → same_kind (kind_of s) a ≡ t → run.word_in (Unit {0}) free a (layer.One s) (λ z. give (one (scalar b (converted FRACTION a b z)))) p ≡ held (between_in a b s) give p
  by true e = rw (e) (ap (λ k. Ok (record { value = one (scalar b (converted FRACTION k b (word_of s))); after = p })) (sym (same_is (kind_of s) a e)))
  by false e = rw e refl

pub convert_is : (c : Conversion) (v : Value) (p : Pixel) → run.convert (Unit {0}) free c v p ≡ held (convert_in c v) give p
convert_is Same v p = refl
convert_is (Between a b) v p = between_is a b (out-Value v) p

made_is : (k : ScalarKind) (z : Option ℤ) (p : Pixel) → run.give_scalar (Unit {0}) free k z p ≡ held (made k z) (λ s. give (one s)) p
made_is k None p = refl
made_is k (Some z) p = refl

pub unary_is : (op : UnaryOperator) (k : ScalarKind) (v : Value) (p : Pixel) → run.word (Unit {0}) free k (λ a. run.give_scalar (Unit {0}) free k (operate_alone FRACTION op k a)) v p ≡ held (unary_in op k v) (λ s. give (one s)) p
unary_is op k v p = word_is k (out-Value v) (of_one op k) (λ a. run.give_scalar (Unit {0}) free k (operate_alone FRACTION op k a)) p (λ s e. rw e (made_is k (operate_alone FRACTION op k (word_of s)) p)) (λ s e. rw e refl)

second_is : (op : LinkOperator) (k : ScalarKind) (w : Value) (s : Scalar) (p : Pixel) → same_kind (kind_of s) k ≡ true → run.word (Unit {0}) free k (λ b. run.give_scalar (Unit {0}) free (operator_kind op k) (operate FRACTION op k (word_of s) b)) w p ≡ held (second_in op k w s) (λ s. give (one s)) p
second_is op k w s p h = word_is k (out-Value w) (of_two op k s) (λ b. run.give_scalar (Unit {0}) free (operator_kind op k) (operate FRACTION op k (word_of s) b)) p (λ t e. rw (h, e) (made_is (operator_kind op k) (operate FRACTION op k (word_of s) (word_of t)) p)) (λ t e. rw (h, e) refl)

no_second : (op : LinkOperator) (k : ScalarKind) (x : Option Scalar) (s : Scalar) → same_kind (kind_of s) k ≡ false → onward x (of_two op k s) ≡ None
no_second op k None s h = refl
no_second op k (Some t) s h = rw h refl

pub operated_is : (op : LinkOperator) (k : ScalarKind) (v w : Value) (p : Pixel) → run.operated (Unit {0}) free op k v w p ≡ held (operated_in op k v w) (λ s. give (one s)) p
operated_is op k v w p = word_is k (out-Value v) (second_in op k w) (λ a. run.word (Unit {0}) free k (λ b. run.give_scalar (Unit {0}) free (operator_kind op k) (operate FRACTION op k a b)) w) p (λ s e. second_is op k w s p e) (λ s e. no_second op k (scalar_in w) s e)

held_two : (x : Option Value) (f : Value → Option Scalar) (next : Value → Run Value) (p : Pixel) → ((v : Value) → next v p ≡ held (f v) (λ s. give (one s)) p) → go_on (held x give p) next ≡ held (onward x f) (λ s. give (one s)) p
held_two None f next p h = refl
held_two (Some v) f next p h = h v

pub linked_is : (left : Conversion) (op : LinkOperator) (k : ScalarKind) (v w : Value) (p : Pixel) → go_on (run.convert (Unit {0}) free left v p) (λ v. run.operated (Unit {0}) free op k v w) ≡ held (linked_in left op k v w) (λ s. give (one s)) p
linked_is left op k v w p = ap (λ o. go_on o (λ v. run.operated (Unit {0}) free op k v w)) (convert_is left v p) ∙ held_two (convert_in left v) (λ v. operated_in op k v w) (λ v. run.operated (Unit {0}) free op k v w) p (λ v. operated_is op k v w p)

number_form_is : {W : Type 0} (s : Scalar) (next : ℤ → Run W) (p : Pixel) → run.index_number (Unit {0}) free (layer.One s) next p ≡ held (number_form s) next p
number_form_is (scalar_variant.Bool b) next p = refl
number_form_is (scalar_variant.Int z) next p = refl
number_form_is (scalar_variant.Unsigned n) next p = refl
number_form_is (scalar_variant.Half z) next p = refl
number_form_is (scalar_variant.Float z) next p = refl

number_is : {W : Type 0} (x : Value-F Value) (next : ℤ → Run W) (p : Pixel) → run.index_number (Unit {0}) free x next p ≡ held (onward (scalar_form x) number_form) next p
number_is (layer.One s) next p = number_form_is s next p
number_is (layer.List vs) next p = refl
number_is (layer.Fields vs) next p = refl

-- an index that has been evaluated
pub index_is : (x : Option ℤ) (v : Value) (next : ℤ → Run ℕ) (p : Pixel) → x ≡ number_in v → run.index_number (Unit {0}) free (out-Value v) next p ≡ held x next p
index_is x v next p e = number_is (out-Value v) next p ∙ ap (λ x. held x next p) (sym e)

-- ---- loops

pub links_err : (s : SceneForm) (links : List TypedLink) (i : ℕ) (a : TypedLink) (v : Value) (p : Pixel) (all : Outcome Value) (env : Env) (turns : ℕ) (e : Stop) → i < length links → a ≡ get_or links i a → linked (map (run_link s) (drop i links)) v p ≡ all → Gives {V = Value} (λ v. v) (Err e) env turns (run_link s a v p) → Gives {V = Value} (λ v. v) (Err e) env turns all
links_err s links i a v p all env turns e h k so x = subst (Gives {V = Value} (λ v. v) (Err e) env turns) (ap (λ l. linked (map (run_link s) l) v p) (sym (next links i a h k)) ∙ so) (stopped {V = Value} {X = Value} (λ v. v) (λ v. v) e env turns (run_link s a v p) (linked (map (run_link s) (drop (i + 1) links))) x)

through : (o : Outcome ℕ) (v : Value) (then_do : Value → Run Value) → go_on (go_on o (λ (i : ℕ). held (part_of (Some v) i) give)) then_do ≡ go_on o (λ (i : ℕ). held (part_of (Some v) i) then_do)
through (Err f) v then_do = refl
through (Ok got) v then_do = held_on (part_of (Some v) got.value) got.after then_do

pub steps_err : (s : SceneForm) (steps : List TypedStep) (i : ℕ) (a : TypedStep) (v : Value) (p : Pixel) (all : Outcome Value) (env : Env) (turns : ℕ) (e : Stop) → i < length steps → a ≡ get_or steps i a → steps_run (map (run_step s) (drop i steps)) v p ≡ all → Gives {V = Value} (λ v. v) (Err e) env turns (go_on (run_step s a (λ (env : Env). Some v) p) (λ (i : ℕ). held (part_of (Some v) i) give)) → Gives {V = Value} (λ v. v) (Err e) env turns all
steps_err s steps i a v p all env turns e h k so x = subst (Gives {V = Value} (λ v. v) (Err e) env turns) (through (run_step s a (λ (env : Env). Some v) p) v (steps_run (map (run_step s) (drop (i + 1) steps))) ∙ ap (λ l. steps_run (map (run_step s) l) v p) (sym (next steps i a h k)) ∙ so) (stopped {V = Value} {X = Value} (λ v. v) (λ v. v) e env turns (go_on (run_step s a (λ (env : Env). Some v) p) (λ (i : ℕ). held (part_of (Some v) i) give)) (steps_run (map (run_step s) (drop (i + 1) steps))) x)

pub chosen_form : {V : Type 0} (x : Value-F Value) (a b : Run V) (p : Pixel) → run.word_in (Unit {0}) free kind.Bool x (λ z. if truth z then a else b) p ≡ held (onward (scalar_form x) bool_form) (λ t. if t then a else b) p
chosen_form (layer.List vs) a b p = refl
chosen_form (layer.Fields vs) a b p = refl
chosen_form (layer.One (scalar_variant.Bool true)) a b p = refl
chosen_form (layer.One (scalar_variant.Bool false)) a b p = refl
chosen_form (layer.One (scalar_variant.Int z)) a b p = refl
chosen_form (layer.One (scalar_variant.Unsigned n)) a b p = refl
chosen_form (layer.One (scalar_variant.Half z)) a b p = refl
chosen_form (layer.One (scalar_variant.Float z)) a b p = refl

-- what is done after the truth of an operand
abbrev decide : Bool → List (Run Value) → Bool → Run Value
decide t runs b = if t then (if b then give (one (scalar_variant.Bool t)) else decided t runs) else (if b then decided t runs else give (one (scalar_variant.Bool t)))

decided_is : (t : Bool) (r : Run Value) (runs : List (Run Value)) (p : Pixel) (o : Outcome Value) → r p ≡ o → decided t (r ∷ runs) p ≡ go_on (go_on o (λ (v : Value). held (bool_in v) give)) (decide t runs)
decided_is true r runs p (Err f) e = ap (λ o. go_on o (run.chosen (Unit {0}) free (give (one (scalar_variant.Bool true))) (decided true runs))) e
decided_is false r runs p (Err f) e = ap (λ o. go_on o (run.chosen (Unit {0}) free (decided false runs) (give (one (scalar_variant.Bool false))))) e
decided_is true r runs p (Ok got) e = ap (λ o. go_on o (run.chosen (Unit {0}) free (give (one (scalar_variant.Bool true))) (decided true runs))) e ∙ chosen_form (out-Value got.value) _ _ got.after ∙ sym (held_on (bool_in got.value) got.after (decide true runs))
decided_is false r runs p (Ok got) e = ap (λ o. go_on o (run.chosen (Unit {0}) free (decided false runs) (give (one (scalar_variant.Bool false))))) e ∙ chosen_form (out-Value got.value) _ _ got.after ∙ sym (held_on (bool_in got.value) got.after (decide false runs))

pub logic_err : (s : SceneForm) (t : Bool) (operands : List Operand) (i : ℕ) (a : Operand) (p : Pixel) (all : Outcome Value) (env : Env) (turns : ℕ) (e : Stop) → i < length operands → a ≡ get_or operands i a → decided t (map (run_operand s) (drop i operands)) p ≡ all → Gives {V = Bool} (λ b. b) (Err e) env turns (go_on (run_operand s a p) (λ (v : Value). held (bool_in v) give)) → Gives {V = Value} (λ v. v) (Err e) env turns all
logic_err s t operands i a p all env turns e h k so x = subst (Gives {V = Value} (λ v. v) (Err e) env turns) (sym (decided_is t (run_operand s a) (map (run_operand s) (drop (i + 1) operands)) p (run_operand s a p) refl) ∙ ap (λ l. decided t (map (run_operand s) l) p) (sym (next operands i a h k)) ∙ so) (stopped {V = Bool} {X = Value} (λ b. b) (λ v. v) e env turns (go_on (run_operand s a p) (λ (v : Value). held (bool_in v) give)) (decide t (map (run_operand s) (drop (i + 1) operands))) x)

pub steps_more : (s : SceneForm) (steps : List TypedStep) (i : ℕ) (a : TypedStep) (v w : Value) (p p' : Pixel) (all : Outcome Value) → i < length steps → a ≡ get_or steps i a → steps_run (map (run_step s) (drop i steps)) v p ≡ all → go_on (run_step s a (λ (env : Env). Some v) p) (λ (i : ℕ). held (part_of (Some v) i) give) ≡ Ok (record { value = w; after = p' }) → steps_run (map (run_step s) (drop (i + 1) steps)) w p' ≡ all
steps_more s steps i a v w p p' all h k so x = sym (ap (λ o. go_on o (steps_run (map (run_step s) (drop (i + 1) steps)))) x) ∙ through (run_step s a (λ (env : Env). Some v) p) v (steps_run (map (run_step s) (drop (i + 1) steps))) ∙ ap (λ l. steps_run (map (run_step s) l) v p) (sym (next steps i a h k)) ∙ so

decide_other : (t b : Bool) (runs : List (Run Value)) (p : Pixel) → (b ≡ t → ⊥) → decide t runs b p ≡ decided t runs p
decide_other true true runs p n = absurd (n refl)
decide_other true false runs p n = refl
decide_other false true runs p n = refl
decide_other false false runs p n = absurd (n refl)

decide_same : (t b : Bool) (runs : List (Run Value)) (p : Pixel) → b ≡ t → decide t runs b p ≡ Ok (record { value = variant.One (scalar_variant.Bool t); after = p })
decide_same true true runs p e = ap (λ v. Ok (record { value = v; after = p })) (variant.rolls-One (scalar_variant.Bool true))
decide_same true false runs p e = absurd (cc)
decide_same false true runs p e = absurd (cc)
decide_same false false runs p e = ap (λ v. Ok (record { value = v; after = p })) (variant.rolls-One (scalar_variant.Bool false))

logic_next : (s : SceneForm) (t : Bool) (operands : List Operand) (i : ℕ) (a : Operand) (p p' : Pixel) (b : Bool) (all : Outcome Value) → i < length operands → a ≡ get_or operands i a → decided t (map (run_operand s) (drop i operands)) p ≡ all → go_on (run_operand s a p) (λ (v : Value). held (bool_in v) give) ≡ Ok (record { value = b; after = p' }) → decide t (map (run_operand s) (drop (i + 1) operands)) b p' ≡ all
logic_next s t operands i a p p' b all h k so x = sym (ap (λ o. go_on o (decide t (map (run_operand s) (drop (i + 1) operands)))) x) ∙ sym (decided_is t (run_operand s a) (map (run_operand s) (drop (i + 1) operands)) p (run_operand s a p) refl) ∙ ap (λ l. decided t (map (run_operand s) l) p) (sym (next operands i a h k)) ∙ so

pub logic_more : (s : SceneForm) (t : Bool) (operands : List Operand) (i : ℕ) (a : Operand) (p p' : Pixel) (b : Bool) (all : Outcome Value) → i < length operands → a ≡ get_or operands i a → decided t (map (run_operand s) (drop i operands)) p ≡ all → go_on (run_operand s a p) (λ (v : Value). held (bool_in v) give) ≡ Ok (record { value = b; after = p' }) → (b ≡ t → ⊥) → decided t (map (run_operand s) (drop (i + 1) operands)) p' ≡ all
logic_more s t operands i a p p' b all h k so x n = sym (decide_other t b (map (run_operand s) (drop (i + 1) operands)) p' n) ∙ logic_next s t operands i a p p' b all h k so x

pub logic_stop : (s : SceneForm) (t : Bool) (operands : List Operand) (i : ℕ) (a : Operand) (p p' : Pixel) (b : Bool) (all : Outcome Value) → i < length operands → a ≡ get_or operands i a → decided t (map (run_operand s) (drop i operands)) p ≡ all → go_on (run_operand s a p) (λ (v : Value). held (bool_in v) give) ≡ Ok (record { value = b; after = p' }) → b ≡ t → all ≡ Ok (record { value = variant.One (scalar_variant.Bool t); after = p' })
logic_stop s t operands i a p p' b all h k so x e = sym (logic_next s t operands i a p p' b all h k so x) ∙ decide_same t b (map (run_operand s) (drop (i + 1) operands)) p' e

-- ---- forms

pub unary_done : (s : SceneForm) (e : TypedExpr) (op : UnaryOperator) (k : ScalarKind) (o o' : Operand) (p : Pixel) (v : Value) (env : Env) (turns : ℕ) (res : Result Value Stop) → e ≡ expr_variant.Unary op k o → o' ≡ o → run_operand s o' p ≡ Ok (record { value = v; after = pixel env turns }) → Gives (λ v. v) res env turns (run.word (Unit {0}) free k (λ a. run.give_scalar (Unit {0}) free k (operate_alone FRACTION op k a)) v (pixel env turns)) → Gives (λ v. v) res env turns (run_expr s e p)
unary_done s e op k o o' p v env turns res is same ran h =
    subst (Gives (λ v. v) res env turns) (sym (form_is s e op k o p is))
    (counted (λ p. go_on (run_operand s o p) (run.word (Unit {0}) free k (λ a. run.give_scalar (Unit {0}) free k (operate_alone FRACTION op k a)))) p res env turns
    (after (λ v. v) res v env env turns turns (run_operand s o p) (run.word (Unit {0}) free k (λ a. run.give_scalar (Unit {0}) free k (operate_alone FRACTION op k a))) (ap (λ o. run_operand s o p) (sym same) ∙ ran) h)) where
      form_is : (s : SceneForm) (e : TypedExpr) (op : UnaryOperator) (k : ScalarKind) (o : Operand) (p : Pixel) → e ≡ expr_variant.Unary op k o → run_expr s e p ≡ run.evaluated (Unit {0}) free (λ p. go_on (run_operand s o p) (run.word (Unit {0}) free k (λ a. run.give_scalar (Unit {0}) free k (operate_alone FRACTION op k a)))) p
      form_is s e op k o p is =
          let f = run.run_fold (Unit {0}) free (setting s) in
          ap (λ e. run_expr s e p) (is ∙ sym (expr_variant.rolls-Unary op k o)) ∙ ap (λ (r : Run Value). r p) (fold-roll-TypedExpr (run.ArgumentRun (Unit {0}) free) (Run Value) (run.StepRun (Unit {0}) free) (Run Value) (Run Value) (run.LinkRun (Unit {0}) free) (run.PlaceRun (Unit {0}) free) f.argument f.expr f.step f.operand f.call f.link f.place (expr_layer.Unary op k o))

pub beq_same : (a b : Bool) → beq a b ≡ true → a ≡ b
beq_same true true e = refl
beq_same true false e = absurd (cc)
beq_same false true e = absurd (cc)
beq_same false false e = refl

pub beq_other : (a b : Bool) → beq a b ≡ false → a ≡ b → ⊥
beq_other true true e q = cc
beq_other true false e q = cc
beq_other false true e q = cc
beq_other false false e q = cc

step_is : (s : SceneForm) (x : expr_layer.TypedStep-F Argument TypedExpr TypedStep Operand TypedCall TypedLink TypedPlace) (find : Env → Option Value) (p : Pixel) → run_step s (roll-TypedStep x) find p ≡ run.step_step (Unit {0}) free (map-TypedStep Argument TypedExpr TypedStep Operand TypedCall TypedLink TypedPlace (run.ArgumentRun (Unit {0}) free) (Run Value) (run.StepRun (Unit {0}) free) (Run Value) (Run Value) (run.LinkRun (Unit {0}) free) (run.PlaceRun (Unit {0}) free) (run_argument s) (run_expr s) (run_step s) (run_operand s) (run_call s) (run_link s) (run_place s) x) find p
step_is s x find p =
    let f = run.run_fold (Unit {0}) free (setting s) in
    ap (λ (r : run.StepRun (Unit {0}) free). r find p) (fold-roll-TypedStep (run.ArgumentRun (Unit {0}) free) (Run Value) (run.StepRun (Unit {0}) free) (Run Value) (Run Value) (run.LinkRun (Unit {0}) free) (run.PlaceRun (Unit {0}) free) f.argument f.expr f.step f.operand f.call f.link f.place x)

pub index_done : (s : SceneForm) (st : TypedStep) (e : TypedExpr) (node : Node) (find : Env → Option Value) (p : Pixel) (v : Value) (env : Env) (turns : ℕ) (res : Result ℕ Stop) → st ≡ step_variant.Index e node → run_expr s e p ≡ Ok (record { value = v; after = pixel env turns }) → Gives (λ i. i) res env turns (index_number (out-Value v) (λ z p. held (find p.env) (λ (v : Value). index_in node z (out-Value v)) p) (pixel env turns)) → Gives (λ i. i) res env turns (run_step s st find p)
index_done s st e node find p v env turns res is ran h =
    subst (Gives (λ i. i) res env turns) (sym (ap (λ st. run_step s st find p) (is ∙ sym (step_variant.rolls-Index e node)) ∙ step_is s (expr_layer.Index e node) find p))
    (after (λ i. i) res v env env turns turns (run_expr s e p) (λ (v : Value). index_number (out-Value v) (λ z p. held (find p.env) (λ (v : Value). index_in node z (out-Value v)) p)) ran h)

pub field_done : (s : SceneForm) (st : TypedStep) (n : ℕ) (find : Env → Option Value) (p : Pixel) (env : Env) (turns : ℕ) (res : Result ℕ Stop) → st ≡ step_variant.Field n → Gives (λ i. i) res env turns (held (find p.env) (λ (v : Value). field_in n (out-Value v)) p) → Gives (λ i. i) res env turns (run_step s st find p)
field_done s st n find p env turns res is h = subst (Gives (λ i. i) res env turns) (sym (ap (λ st. run_step s st find p) (is ∙ sym (step_variant.rolls-Field n)) ∙ step_is s (expr_layer.Field n) find p)) h

pub path_err : {V X : Type 0} (view : V → ℕ) (other : X → List ℕ) (s : SceneForm) (x : ℕ) (steps : List TypedStep) (i : ℕ) (a : TypedStep) (done : List ℕ) (p : Pixel) (all : Outcome (List ℕ)) (env : Env) (turns : ℕ) (e : Stop) → i < length steps → a ≡ get_or steps i a → path_run x (map (run_step s) (drop i steps)) done p ≡ all → Gives {V = V} view (Err e) env turns (run_step s a (found x done) p) → Gives {V = X} other (Err e) env turns all
path_err {V} {X} view other s x steps i a done p all env turns e h k so q = subst (Gives {V = X} other (Err e) env turns) (ap (λ l. path_run x (map (run_step s) l) done p) (sym (next steps i a h k)) ∙ so) (stopped {V = V} {X = X} view other e env turns (run_step s a (found x done) p) (λ (n : ℕ). path_run x (map (run_step s) (drop (i + 1) steps)) (done ++ n ∷ [])) q)

pub path_more : (s : SceneForm) (x : ℕ) (steps : List TypedStep) (i : ℕ) (a : TypedStep) (done done' : List ℕ) (n : ℕ) (p p' : Pixel) (all : Outcome (List ℕ)) → i < length steps → a ≡ get_or steps i a → path_run x (map (run_step s) (drop i steps)) done p ≡ all → run_step s a (found x done) p ≡ Ok (record { value = n; after = p' }) → done' ≡ done ++ n ∷ [] → path_run x (map (run_step s) (drop (i + 1) steps)) done' p' ≡ all
path_more s x steps i a done done' n p p' all h k so q e = ap (λ d. path_run x (map (run_step s) (drop (i + 1) steps)) d p') e ∙ sym (ap (λ o. go_on o (λ (n : ℕ). path_run x (map (run_step s) (drop (i + 1) steps)) (done ++ n ∷ []))) q) ∙ ap (λ l. path_run x (map (run_step s) l) done p) (sym (next steps i a h k)) ∙ so
