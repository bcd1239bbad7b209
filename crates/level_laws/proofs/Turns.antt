-- The turns that are left never rise: statements.
use Rattle.std.proofs.Common.{ℕ, zero, suc, List, [], ◌∷◌, map, Some, Err, arith}
use Rattle.ctl_base.specs.declared.kind.Node.{Node}
use Rattle.ctl_types.specs.declared.value.Value.{Value}
use Rattle.ctl_types.specs.declared.statement.PrintItem.{PrintItem}
use Rattle.ctl_types.specs.declared.statement.PrintItem.TheVariants as item
use Rattle.ctl_types.specs.declared.statement.Declaration.{Declaration}
use Rattle.ctl_types.specs.declared.statement.Assignment.{Assignment}
use Rattle.ctl_types.specs.declared.statement.ForStart.{ForStart}
use Rattle.ctl_types.specs.declared.statement.ForStart.TheVariants as start
use Rattle.ctl_types.specs.Shapes.{size_in}
use Rattle.ctl_types.specs.Values.{Env, fits, alike, scalars}
use Rattle.ctl_types.specs.Run.{Wrong, End, Normal, Left, Run, go_on, give, visited, chosen, found, Setting, store, leave, unless_left, sequence, ArmRun, arms_run, take_turn, rounds, loop_run, run_declaration, run_assignment, run_start, run_place, run_item, run_items}
use Rattle.level_laws.proofs.Falls.{All, FallsTo, Falls, AllFall, falls_from, falls_then, falls_give, falls_paid, falls_found, falls_if, falls_chosen, expr_falls, operand_falls, place_falls, first_falls}

module _ (C : Type 0) (pay : ℕ → C → C) where
  abbrev pub FallsArm : ArmRun C pay → Type 0
  FallsArm arm = (other : Run C pay End) → Falls C pay other → Falls C pay (arm other)

  pub falls_visited : {V : Type 0} (run : Run C pay V) → Falls C pay run → Falls C pay (visited C pay run)
  falls_visited run h = falls_then C pay run _ h (λ v. falls_paid C pay v 1)

  unless_falls : (end : End) (run : Run C pay End) → Falls C pay run → Falls C pay (unless_left C pay end run)
  unless_falls Normal run h = h
  unless_falls (Left v) run h = falls_give C pay (Left v)

  pub sequence_falls : (rs : List (Run C pay End)) → All (Falls C pay) rs → Falls C pay (sequence C pay rs)
  sequence_falls [] e = falls_give C pay Normal
  sequence_falls (r ∷ rs) e = falls_then C pay r _ e.0 (λ end. unless_falls end _ (sequence_falls rs e.1))

  pub arms_falls : (rs : List (ArmRun C pay)) → All FallsArm rs → (run : Run C pay End) → Falls C pay run → Falls C pay (arms_run C pay rs run)
  arms_falls [] e run h = h
  arms_falls (r ∷ rs) e run h = e.0 (arms_run C pay rs run) (arms_falls rs e.1 run h)

  pub arm_falls : (test : Run C pay Value) (run other : Run C pay End) → Falls C pay test → Falls C pay run → Falls C pay other → Falls C pay (visited C pay (λ p. go_on C pay (test p) (chosen C pay run other)))
  arm_falls test run other t h k = falls_visited _ (falls_then C pay test _ t (λ v. falls_chosen C pay run other v h k))

  turn_falls : (node : Node) (next : Run C pay End) → Falls C pay next → Falls C pay (λ p. take_turn C pay node p.turns next p.env p.spent)
  turn_falls node next h = record { by = λ p. cases p.turns p.env p.spent } where
    cases : (turns : ℕ) (env : Env) (c : C) → FallsTo C pay turns (take_turn C pay node turns next env c)
    cases zero env c = tt
    cases (suc turns) env c = falls_from C pay turns (suc turns) (next (record { env = env; turns = turns; spent = c })) (omega arith) (h.by (record { env = env; turns = turns; spent = c }))

  rounds_falls : (n : ℕ) (node : Node) (test : Run C pay Value) (body : Run C pay End) → Falls C pay test → Falls C pay body → Falls C pay (rounds C pay n node test body)
  rounds_falls zero node test body t h = falls_give C pay Normal
  rounds_falls (suc n) node test body t h = falls_then C pay test _ t (λ v. falls_chosen C pay _ (give C pay Normal) v (turn_falls node _ (falls_then C pay body _ h (λ end. unless_falls end _ (rounds_falls n node test body t h)))) (falls_give C pay Normal))

  pub loop_falls : (node : Node) (test : Run C pay Value) (body : Run C pay End) → Falls C pay test → Falls C pay body → Falls C pay (loop_run C pay node test body)
  loop_falls node test body t h = record { by = λ p. (rounds_falls (suc p.turns) node test body t h).by p }

  pub alone_falls : (run : Run C pay Value) → Falls C pay run → Falls C pay (λ p. go_on C pay (run p) (λ v. give C pay Normal))
  alone_falls run h = falls_then C pay run _ h (λ v. falls_give C pay Normal)

  pub returned_falls : (run : Run C pay Value) → Falls C pay run → Falls C pay (λ p. go_on C pay (run p) (leave C pay))
  returned_falls run h = falls_then C pay run _ h (λ v. falls_paid C pay (Left v) (scalars v))

  store_falls : (x : ℕ) (path : List ℕ) (v : Value) → Falls C pay (store C pay x path v)
  store_falls x path v = falls_found C pay (found C pay x path) _ (λ old. falls_if C pay (alike old v) _ (λ p. Err Wrong) (record { by = λ p. omega arith }) (record { by = λ p. tt }))

  module _ (s : Setting C pay) (serves : AllFall C pay s.functions) where
    pub declaration_falls : (d : Declaration) → Falls C pay (run_declaration C pay s d)
    declaration_falls d = falls_then C pay _ _ (first_falls C pay s serves d.shape d.first) (λ v. falls_if C pay (fits s.structs v (map (size_in s.opens) d.shape.sizes) (Some d.shape.base)) _ (λ p. Err Wrong) (record { by = λ p. omega arith }) (record { by = λ p. tt }))

    pub assignment_falls : (d : Assignment) → Falls C pay (run_assignment C pay s d)
    assignment_falls d = falls_then C pay _ _ (place_falls C pay s serves d.place) (λ path. falls_then C pay _ _ (operand_falls C pay s serves d.value) (store_falls (run_place C pay s d.place).variable path))

    pub start_falls : (f : ForStart) → Falls C pay (run_start C pay s f)
    start_falls (start.Declare d) = declaration_falls d
    start_falls (start.Assign d) = assignment_falls d

    item_falls : (i : PrintItem) → Falls C pay (run_item C pay s i)
    item_falls (item.Text text) = falls_give C pay Normal
    item_falls (item.Value e) = falls_then C pay _ _ (expr_falls C pay s serves e) (λ v. falls_give C pay Normal)

    pub items_falls : (is : List PrintItem) → Falls C pay (run_items C pay s is)
    items_falls [] = falls_give C pay Normal
    items_falls (i ∷ is) = falls_then C pay _ _ (item_falls i) (λ end. items_falls is)
