-- Loops over forms, one turn at a time.
use Rattle.std.proofs.Common.{◌≡◌, ℕ, zero, suc, ◌+◌, ◌<◌, ◌≤◌, List, [], ◌∷◌, ◌++◌, map, length, get_or, drop, refl, ap, sym, ◌∙◌, subst, append_assoc, arith, Bool, true, false, Option, Some, None, Result, Ok, Err, if◌then◌else◌}
use Rattle.std.proofs.lemmas.List.{append-nil, drop_all}
use Rattle.fix_num.specs.Whole.{truth}
use Rattle.ctl_base.specs.declared.kind.Node.{Node}
use Rattle.ctl_base.specs.declared.kind.ScalarKind.TheVariants as kind
use Rattle.ctl_base.specs.declared.kind.TrapKind.TheVariants as trap
use Rattle.ctl_types.specs.declared.value.Value.{Value, out-Value}
use Rattle.ctl_types.specs.declared.statement.TypedStatement.{TypedStatement}
use Rattle.ctl_types.specs.declared.statement.Arm.{Arm}
use Rattle.ctl_types.specs.declared.statement.PrintItem.{PrintItem}
use Rattle.ctl_types.specs.declared.statement.TypedStatement.TheVariants as statement_variant
use Rattle.ctl_types.specs.declared.statement.TypedStatement.TheOpen as statement_layer
use Rattle.ctl_types.specs.declared.statement.TypedStatement.TheFolds.{fold-roll-TypedStatement, fold_out-Arm}
use Rattle.ctl_types.specs.declared.statement.ForStart.{ForStart}
use Rattle.ctl_types.specs.declared.statement.Assignment.{Assignment}
use Rattle.ctl_types.specs.declared.expression.Operand.{Operand}
use Rattle.ctl_types.specs.Values.{Env}
use Rattle.ctl_types.specs.Run as run
use Rattle.ctl_types.specs.Run.{Fault, Trapped, Wrong, End, Normal, Left}
use Rattle.eval_values.specs.declared.stop.Stop.{Stop}
use Rattle.eval_values.specs.declared.stop.Stop.TheVariants as stop
use Rattle.eval_values.specs.Means.{bool_in}
use Rattle.eval_values.specs.Uncounted.{free, Pixel, Outcome, Run, pixel, go_on, give, held, Gives, listed, sequence, arms_run, otherwise_run, rounds, loop_run, visited}
use Rattle.eval_tree.specs.Scene.{SceneForm, setting, statement_of, run_statement, run_start, run_round, run_operand, run_arm, run_item, run_items}
use Rattle.eval_tree.specs.declared.ends.End.{End as EndForm}
use Rattle.eval_tree.specs.declared.ends.End.TheVariants as ends
use Rattle.eval_tree.specs.Calls.{seen}
use Rattle.eval_tree.proofs.Lists.{next}
use Rattle.eval_tree.proofs.Forms.{stopped, held_on, chosen_form}

pub assoc : {V W X : Type 0} (o : Outcome V) (f : V → Run W) (g : W → Run X) → go_on (go_on o f) g ≡ go_on o (λ (v : V) p. go_on (f v p) g)
assoc (Ok got) f g = refl
assoc (Err fault) f g = refl

-- the visit of a form changes nothing where it is not counted
pub visited_is : {V : Type 0} (r : Run V) (p : Pixel) → visited r p ≡ r p
visited_is {V} r p = by (r p) where
  by : (o : Outcome V) → go_on o (λ (v : V) p. give v (run.paid (Unit {0}) free 1 p)) ≡ o
  by (Ok got) = refl
  by (Err fault) = refl

-- ---- lists of values

-- those that are there, and then the rest
abbrev pub onto : {V : Type 0} → List V → Outcome (List V) → Outcome (List V)
onto xs o = go_on o (λ vs. give (xs ++ vs))

pub onto_nil : {V : Type 0} (o : Outcome (List V)) → onto [] o ≡ o
onto_nil (Ok got) = refl
onto_nil (Err fault) = refl

onto_more : {V : Type 0} (acc : List V) (v : V) (o : Outcome (List V)) → onto (acc ++ v ∷ []) o ≡ go_on o (λ (vs : List V) p. go_on (give (v ∷ vs) p) (λ vs. give (acc ++ vs)))
onto_more acc v (Ok got) = ap (λ l. Ok (record { value = l; after = got.after })) (append_assoc acc (v ∷ []) got.value)
onto_more acc v (Err fault) = refl

listed_next : {A V : Type 0} (r : A → Run V) (xs : List A) (i : ℕ) (a : A) (acc : List V) (p : Pixel) → i < length xs → a ≡ get_or xs i a → onto acc (listed (map r (drop i xs)) p) ≡ go_on (r a p) (λ (v : V) p. go_on (go_on (listed (map r (drop (i + 1) xs)) p) (λ (vs : List V). give (v ∷ vs))) (λ vs. give (acc ++ vs)))
listed_next {A} {V} r xs i a acc p h k = ap (λ l. onto acc (listed (map r l) p)) (next xs i a h k) ∙ assoc (r a p) (λ (v : V) p. go_on (listed (map r (drop (i + 1) xs)) p) (λ (vs : List V). give (v ∷ vs))) (λ vs. give (acc ++ vs))

pub listed_err : {A V X Y : Type 0} (view : X → V) (other : Y → List V) (r : A → Run V) (xs : List A) (i : ℕ) (a : A) (acc : List V) (p : Pixel) (all : Outcome (List V)) (env : Env) (turns : ℕ) (e : Stop) → i < length xs → a ≡ get_or xs i a → onto acc (listed (map r (drop i xs)) p) ≡ all → Gives {V = X} view (Err e) env turns (r a p) → Gives {V = Y} other (Err e) env turns all
listed_err {A} {V} {X} {Y} view other r xs i a acc p all env turns e h k so x = subst (Gives {V = Y} other (Err e) env turns) (sym (listed_next r xs i a acc p h k) ∙ so) (stopped {V = X} {X = Y} view other e env turns (r a p) (λ (v : V) p. go_on (go_on (listed (map r (drop (i + 1) xs)) p) (λ (vs : List V). give (v ∷ vs))) (λ vs. give (acc ++ vs))) x)

pub listed_more : {A V : Type 0} (r : A → Run V) (xs : List A) (i : ℕ) (a : A) (acc acc' : List V) (v : V) (p p' : Pixel) (all : Outcome (List V)) → i < length xs → a ≡ get_or xs i a → onto acc (listed (map r (drop i xs)) p) ≡ all → r a p ≡ Ok (record { value = v; after = p' }) → acc' ≡ acc ++ v ∷ [] → onto acc' (listed (map r (drop (i + 1) xs)) p') ≡ all
listed_more {A} {V} r xs i a acc acc' v p p' all h k so x e =
    let rest = listed (map r (drop (i + 1) xs)) p' in
    ap (λ l. onto l rest) e ∙ onto_more acc v rest ∙ sym (assoc rest (λ (vs : List V). give (v ∷ vs)) (λ vs. give (acc ++ vs)))
    ∙ sym (ap (λ o. go_on o (λ (v : V) p. go_on (go_on (listed (map r (drop (i + 1) xs)) p) (λ (vs : List V). give (v ∷ vs))) (λ vs. give (acc ++ vs)))) x)
    ∙ sym (listed_next r xs i a acc p h k) ∙ so

pub listed_end : {V : Type 0} (acc : List V) (p : Pixel) (all : Outcome (List V)) → onto acc (listed [] p) ≡ all → all ≡ Ok (record { value = acc; after = p })
listed_end acc p all so = sym so ∙ ap (λ l. Ok (record { value = l; after = p })) (append-nil acc)

-- ---- statements one after another

module _ (s : SceneForm) (statements : List TypedStatement) (i : ℕ) (a : TypedStatement) (p : Pixel) (all : Outcome End) (h : i < length statements) (k : a ≡ get_or statements i a) (so : sequence (map (run_statement s) (drop i statements)) p ≡ all) where
  rest : Run End
  rest = sequence (map (run_statement s) (drop (i + 1) statements))

  sequence_next : go_on (run_statement s a p) (λ end. run.unless_left (Unit {0}) free end (sequence (map (run_statement s) (drop (i + 1) statements)))) ≡ all
  sequence_next = ap (λ l. sequence (map (run_statement s) l) p) (sym (next statements i a h k)) ∙ so

  pub sequence_err : (env : Env) (turns : ℕ) (e : Stop) → Gives seen (Err e) env turns (run_statement s a p) → Gives seen (Err e) env turns all
  sequence_err env turns e x = subst (Gives seen (Err e) env turns) sequence_next (stopped seen seen e env turns (run_statement s a p) (λ end. run.unless_left (Unit {0}) free end (sequence (map (run_statement s) (drop (i + 1) statements)))) x)

  sequence_done : (end : EndForm) (p' : Pixel) → run_statement s a p ≡ Ok (record { value = seen end; after = p' }) → run.unless_left (Unit {0}) free (seen end) (sequence (map (run_statement s) (drop (i + 1) statements))) p' ≡ all
  sequence_done end p' x = sym (ap (λ o. go_on o (λ end. run.unless_left (Unit {0}) free end (sequence (map (run_statement s) (drop (i + 1) statements))))) x) ∙ sequence_next

  pub sequence_more : (end : EndForm) (p' : Pixel) → run_statement s a p ≡ Ok (record { value = seen end; after = p' }) → end ≡ ends.Normal → sequence (map (run_statement s) (drop (i + 1) statements)) p' ≡ all
  sequence_more end p' x e = sym (ap (λ end. run.unless_left (Unit {0}) free (seen end) (sequence (map (run_statement s) (drop (i + 1) statements))) p') e) ∙ sequence_done end p' x

  pub sequence_left : (end : EndForm) (v : Value) (p' : Pixel) → run_statement s a p ≡ Ok (record { value = seen end; after = p' }) → end ≡ ends.Left v → all ≡ Ok (record { value = Left v; after = p' })
  sequence_left end v p' x e = sym (sequence_done end p' x) ∙ ap (λ end. run.unless_left (Unit {0}) free (seen end) (sequence (map (run_statement s) (drop (i + 1) statements))) p') e

-- ---- what is printed

module _ (s : SceneForm) (items : List PrintItem) (i : ℕ) (a : PrintItem) (p : Pixel) (all : Outcome End) (h : i < length items) (k : a ≡ get_or items i a) (so : run_items s (drop i items) p ≡ all) where
  items_next : go_on (run_item s a p) (λ end. run_items s (drop (i + 1) items)) ≡ all
  items_next = ap (λ l. run_items s l p) (sym (next items i a h k)) ∙ so

  pub items_err : (env : Env) (turns : ℕ) (e : Stop) → Gives {V = Unit {0}} (λ _. Normal) (Err e) env turns (run_item s a p) → Gives {V = Unit {0}} (λ _. Normal) (Err e) env turns all
  items_err env turns e x = subst (Gives {V = Unit {0}} (λ _. Normal) (Err e) env turns) items_next (stopped {V = Unit {0}} {X = Unit {0}} (λ _. Normal) (λ _. Normal) e env turns (run_item s a p) (λ end. run_items s (drop (i + 1) items)) x)

  pub items_more : (p' : Pixel) → run_item s a p ≡ Ok (record { value = Normal; after = p' }) → run_items s (drop (i + 1) items) p' ≡ all
  items_more p' x = sym (ap (λ o. go_on o (λ end. run_items s (drop (i + 1) items))) x) ∙ items_next

-- ---- decisions

-- the truth of a test, and what is done after it
abbrev pub tested : Outcome Value → Outcome Bool
tested o = go_on o (λ (v : Value). held (bool_in v) give)

pub chosen_is : (o : Outcome Value) (a b : Run End) → go_on o (run.chosen (Unit {0}) free a b) ≡ go_on (tested o) (λ t. if t then a else b)
chosen_is (Err fault) a b = refl
chosen_is (Ok got) a b = chosen_form (out-Value got.value) a b got.after ∙ sym (held_on (bool_in got.value) got.after (λ t. if t then a else b))

-- ---- arms

arm_is : (s : SceneForm) (a : Arm) (rest : Run End) (p : Pixel) → run_arm s a rest p ≡ go_on (tested (run_operand s a.test p)) (λ t. if t then run_statement s a.body else rest)
arm_is s a rest p = ap (λ (r : run.ArmRun (Unit {0}) free). r rest p) (fold_out-Arm (Run End) (run.ArmRun (Unit {0}) free) (run.statement_step (Unit {0}) free (setting s)) (run.arm_step (Unit {0}) free (setting s)) a) ∙ visited_is (λ p. go_on (run_operand s a.test p) (run.chosen (Unit {0}) free (run_statement s a.body) rest)) p ∙ chosen_is (run_operand s a.test p) (run_statement s a.body) rest

module _ (s : SceneForm) (arms : List Arm) (i : ℕ) (a : Arm) (otherwise : Run End) (p : Pixel) (all : Outcome End) (h : i < length arms) (k : a ≡ get_or arms i a) (so : arms_run (map (run_arm s) (drop i arms)) otherwise p ≡ all) where
  abbrev arms_left : Run End
  arms_left = arms_run (map (run_arm s) (drop (i + 1) arms)) otherwise

  arms_next : go_on (tested (run_operand s a.test p)) (λ t. if t then run_statement s a.body else arms_left) ≡ all
  arms_next = sym (ap (λ l. arms_run (map (run_arm s) l) otherwise p) (next arms i a h k) ∙ arm_is s a arms_left p) ∙ so

  pub arms_err : (env : Env) (turns : ℕ) (e : Stop) → Gives {V = Bool} (λ b. b) (Err e) env turns (tested (run_operand s a.test p)) → Gives seen (Err e) env turns all
  arms_err env turns e x = subst (Gives seen (Err e) env turns) arms_next (stopped {V = Bool} (λ b. b) seen e env turns (tested (run_operand s a.test p)) (λ t. if t then run_statement s a.body else arms_left) x)

  arms_done : (t : Bool) (p' : Pixel) → tested (run_operand s a.test p) ≡ Ok (record { value = t; after = p' }) → (if t then run_statement s a.body else arms_left) p' ≡ all
  arms_done t p' x = sym (ap (λ o. go_on o (λ t. if t then run_statement s a.body else arms_left)) x) ∙ arms_next

  pub arms_true : (t : Bool) (p' : Pixel) (env : Env) (turns : ℕ) (res : Result EndForm Stop) → tested (run_operand s a.test p) ≡ Ok (record { value = t; after = p' }) → t ≡ true → Gives seen res env turns (run_statement s a.body p') → Gives seen res env turns all
  arms_true t p' env turns res x e y = subst (Gives seen res env turns) (sym (ap (λ t. (if t then run_statement s a.body else arms_left) p') e) ∙ arms_done t p' x) y

  pub arms_false : (t : Bool) (p' : Pixel) → tested (run_operand s a.test p) ≡ Ok (record { value = t; after = p' }) → t ≡ false → arms_run (map (run_arm s) (drop (i + 1) arms)) otherwise p' ≡ all
  arms_false t p' x e = sym (ap (λ t. (if t then run_statement s a.body else arms_left) p') e) ∙ arms_done t p' x

pub otherwise_done : (s : SceneForm) (arms : List Arm) (i : ℕ) (o : Option TypedStatement) (st : TypedStatement) (p : Pixel) (all : Outcome End) (env : Env) (turns : ℕ) (res : Result EndForm Stop) → length arms ≤ i → o ≡ Some st → arms_run (map (run_arm s) (drop i arms)) (otherwise_run (statement_of s o)) p ≡ all → Gives seen res env turns (run_statement s st p) → Gives seen res env turns all
otherwise_done s arms i o st p all env turns res h e so y = subst (Gives seen res env turns) (sym (ap (λ o. otherwise_run (statement_of s o) p) e) ∙ sym (ap (λ l. arms_run (map (run_arm s) l) (otherwise_run (statement_of s o)) p) (drop_all i arms h)) ∙ so) y

-- ---- the loop of a `for`

-- a statement alone
alone : (o : Outcome End) → go_on o (λ end. run.unless_left (Unit {0}) free end (give Normal)) ≡ o
alone (Err fault) = refl
alone (Ok got) = by got.value got.after where
  by : (end : End) (p : Pixel) → run.unless_left (Unit {0}) free end (give Normal) p ≡ Ok (record { value = end; after = p })
  by Normal p = refl
  by (Left v) p = refl

pub for_done : (s : SceneForm) (st : TypedStatement) (first : ForStart) (test : Operand) (after : Assignment) (body : TypedStatement) (node : Node) (p : Pixel) (env env' : Env) (turns turns' : ℕ) (res : Result EndForm Stop) → st ≡ statement_variant.For first test after body node → run_start s first p ≡ Ok (record { value = Normal; after = pixel env turns }) → Gives seen res env' turns' (loop_run node (run_operand s test) (run_round s body after) (pixel env turns)) → Gives seen res env' turns' (run_statement s st p)
for_done s st first test after body node p env env' turns turns' res is ran y =
    let loop = loop_run node (run_operand s test) (run_round s body after) in
    let form : run_statement s st p ≡ loop (pixel env turns) =
    ap (λ st. run_statement s st p) (is ∙ sym (statement_variant.rolls-For first test after body node))
    ∙ ap (λ (r : Run End). r p) (fold-roll-TypedStatement (Run End) (run.ArmRun (Unit {0}) free) (run.statement_step (Unit {0}) free (setting s)) (run.arm_step (Unit {0}) free (setting s)) (statement_layer.For first test after body node))
    ∙ visited_is (sequence (visited (run_start s first) ∷ loop ∷ [])) p
    ∙ ap (λ o. go_on o (λ end. run.unless_left (Unit {0}) free end (sequence (loop ∷ [])))) (visited_is (run_start s first) p ∙ ran)
    ∙ alone (loop (pixel env turns)) in
    subst (Gives seen res env' turns') (sym form) y

-- ---- loops

module _ (node : Node) (test : Run Value) (body : Run End) (n : ℕ) (p : Pixel) (all : Outcome End) (so : rounds (suc n) node test body p ≡ all) where
  -- what is done where the test is true
  abbrev turn : Run End
  turn p = run.take_turn (Unit {0}) free node p.turns (λ p. go_on (body p) (λ end. run.unless_left (Unit {0}) free end (rounds n node test body))) p.env p.spent

  round_is : go_on (tested (test p)) (λ t. if t then turn else give Normal) ≡ all
  round_is = sym (chosen_is (test p) turn (give Normal)) ∙ so

  pub test_err : (env : Env) (turns : ℕ) (e : Stop) → Gives {V = Bool} (λ b. b) (Err e) env turns (tested (test p)) → Gives seen (Err e) env turns all
  test_err env turns e x = subst (Gives seen (Err e) env turns) round_is (stopped {V = Bool} (λ b. b) seen e env turns (tested (test p)) (λ t. if t then turn else give Normal) x)

  test_done : (t : Bool) (p' : Pixel) → tested (test p) ≡ Ok (record { value = t; after = p' }) → (if t then turn else give Normal) p' ≡ all
  test_done t p' x = sym (ap (λ o. go_on o (λ t. if t then turn else give Normal)) x) ∙ round_is

  pub test_false : (t : Bool) (p' : Pixel) → tested (test p) ≡ Ok (record { value = t; after = p' }) → t ≡ false → all ≡ Ok (record { value = Normal; after = p' })
  test_false t p' x e = sym (test_done t p' x) ∙ ap (λ t. (if t then turn else give Normal) p') e

  turn_taken : (t : Bool) (env : Env) (turns : ℕ) → tested (test p) ≡ Ok (record { value = t; after = pixel env turns }) → t ≡ true → turn (pixel env turns) ≡ all
  turn_taken t env turns x e = sym (ap (λ t. (if t then turn else give Normal) (pixel env turns)) e) ∙ test_done t (pixel env turns) x

  pub no_turn : (t : Bool) (env : Env) (turns : ℕ) → tested (test p) ≡ Ok (record { value = t; after = pixel env turns }) → t ≡ true → turns ≡ 0 → all ≡ Err (Trapped trap.Turns node)
  no_turn t env turns x e z = sym (turn_taken t env turns x e) ∙ ap (λ n. turn (pixel env n)) z

  body_next : (t : Bool) (env : Env) (turns less : ℕ) → tested (test p) ≡ Ok (record { value = t; after = pixel env turns }) → t ≡ true → turns ≡ suc less → go_on (body (pixel env less)) (λ end. run.unless_left (Unit {0}) free end (rounds n node test body)) ≡ all
  body_next t env turns less x e z = sym (ap (λ n. turn (pixel env n)) z) ∙ turn_taken t env turns x e

  pub body_err : (t : Bool) (env : Env) (turns less : ℕ) → tested (test p) ≡ Ok (record { value = t; after = pixel env turns }) → t ≡ true → turns ≡ suc less → (env' : Env) (turns' : ℕ) (stop : Stop) → Gives seen (Err stop) env' turns' (body (pixel env less)) → Gives seen (Err stop) env' turns' all
  body_err t env turns less x e z env' turns' stop y = subst (Gives seen (Err stop) env' turns') (body_next t env turns less x e z) (stopped seen seen stop env' turns' (body (pixel env less)) (λ end. run.unless_left (Unit {0}) free end (rounds n node test body)) y)

  body_done : (t : Bool) (env : Env) (turns less : ℕ) → tested (test p) ≡ Ok (record { value = t; after = pixel env turns }) → t ≡ true → turns ≡ suc less → (end : EndForm) (p' : Pixel) → body (pixel env less) ≡ Ok (record { value = seen end; after = p' }) → run.unless_left (Unit {0}) free (seen end) (rounds n node test body) p' ≡ all
  body_done t env turns less x e z end p' y = sym (ap (λ o. go_on o (λ end. run.unless_left (Unit {0}) free end (rounds n node test body))) y) ∙ body_next t env turns less x e z

  pub body_left : (t : Bool) (env : Env) (turns less : ℕ) → tested (test p) ≡ Ok (record { value = t; after = pixel env turns }) → t ≡ true → turns ≡ suc less → (end : EndForm) (v : Value) (p' : Pixel) → body (pixel env less) ≡ Ok (record { value = seen end; after = p' }) → end ≡ ends.Left v → all ≡ Ok (record { value = Left v; after = p' })
  body_left t env turns less x e z end v p' y q = sym (body_done t env turns less x e z end p' y) ∙ ap (λ end. run.unless_left (Unit {0}) free (seen end) (rounds n node test body) p') q

  pub body_more : (t : Bool) (env : Env) (turns less : ℕ) → tested (test p) ≡ Ok (record { value = t; after = pixel env turns }) → t ≡ true → turns ≡ suc less → (end : EndForm) (p' : Pixel) → body (pixel env less) ≡ Ok (record { value = seen end; after = p' }) → end ≡ ends.Normal → (m : ℕ) → n ≡ m → rounds m node test body p' ≡ all
  body_more t env turns less x e z end p' y q m r = sym (ap (λ m. rounds m node test body p') r) ∙ sym (ap (λ end. run.unless_left (Unit {0}) free (seen end) (rounds n node test body) p') q) ∙ body_done t env turns less x e z end p' y
