-- A call of a function of the library at a place of uniform control.
use Rattle.std.proofs.Common.{◌≡◌, ◌≤◌, ℕ, suc, List, [], ◌∷◌, map, Option, Some, None, Result, Ok, Err, Bool, true, false, true≢false, ◌||◌, if◌then◌else◌, length, sum_by, ap, sym, subst, ◌∙◌, refl, arith}
use Rattle.ctl_base.specs.declared.kind.Node.{Node}
use Rattle.ctl_stdlib.specs.declared.row.LibraryId.{LibraryId}
use Rattle.ctl_stdlib.specs.declared.row.Param.{Param}
use Rattle.ctl_stdlib.specs.Rows.{row}
use Rattle.fix_num.specs.declared.TheConstants.{FRACTION}
use Rattle.ctl_types.specs.declared.expression.Callee.TheVariants as callee
use Rattle.ctl_types.specs.declared.shape.Size.{Size}
use Rattle.ctl_types.specs.declared.program.Struct.{Struct as StructForm}
use Rattle.ctl_types.specs.Shapes.{size_in}
use Rattle.ctl_types.specs.Values.{Env, takes}
use Rattle.ctl_types.specs.Library.{LibraryAnswer, Unfit, Refused, Given, library_answer, given_by, words_of, holds_input, holds_table, param_shapes}
use Rattle.ctl_types.specs.Run.{Passed, given, scalars_in, Came, Setting, ArgumentRun, called, library_came, library_run, call_step}
use Rattle.level_rules.specs.Rules.{VaryingSet, Known, Around, ArgumentLook, names, levels_of, any, of_input, any_input, outputs_found, seen_callee}
use Rattle.level_rules.specs.Levels.{AllIn}
use Rattle.level_laws.proofs.Envs.{all_left, all_right, or_left, or_right}
use Rattle.level_laws.proofs.Runs.{SameIf, Even, even_then, even_evaluated}
use Rattle.level_laws.proofs.Stills.{Each}
use Rattle.level_laws.proofs.Evens.{EvenOf, PassedAll, EvenArgument, listed_even}
use Rattle.level_laws.proofs.Calls.{SameFrom, equal_from, brought_even, came_even}
use Rattle.level_laws.proofs.Library.{InputsSame, AnswersSame, library_same, outputs_long}

-- there is a variable
abbrev pub has_output : Option ℕ → Bool
has_output None = false
has_output (Some x) = true

-- the arguments of the outputs are outputs, and no others
abbrev pub Matches : List Param → List ArgumentLook → Type 0
Matches [] [] = Unit {0}
Matches [] (l ∷ ls) = ⊥
Matches (p ∷ params) [] = ⊥
Matches (p ∷ params) (l ∷ ls) = (p.is_output ≡ has_output l.output) × Matches params ls

ok_same : {A E : Type 0} {x y : A} → ◌≡◌ {A = Result A E} (Ok x) (Ok y) → x ≡ y
ok_same {A} {E} {x} {y} e = ap (from x) e where
  from : A → Result A E → A
  from d (Ok z) = z
  from d (Err f) = d

err_ok : {A E B : Type 0} {f : E} {x : A} → ◌≡◌ {A = Result A E} (Err f) (Ok x) → B
err_ok {A} {E} {B} {f} {x} e = absurd (true≢false (sym (ap is_ok e))) where
  is_ok : Result A E → Bool
  is_ok (Ok z) = true
  is_ok (Err f) = false

module _ (C : Type 0) (pay : ℕ → C → C) (a : Around) where
  abbrev w : VaryingSet
  w = a.set

  input_one : (o : Option ℕ) (v : Bool) → has_output o ≡ false → of_input o v ≡ false → (names o w || v) ≡ false
  input_one None v e h = h
  input_one (Some x) v e h = absurd (true≢false e)

  inputs_from : (params : List Param) (ls : List ArgumentLook) → Matches params ls → any_input ls a false ≡ false → (us vs : List Passed) → PassedAll C pay a ls us vs → InputsSame params (given [] us) (given [] vs)
  inputs_from [] [] m h [] [] s = tt
  inputs_from [] [] m h [] (v ∷ vs) s = absurd s
  inputs_from [] [] m h (u ∷ us) vs s = absurd s
  inputs_from [] (l ∷ ls) m h us vs s = absurd m
  inputs_from (p ∷ params) [] m h us vs s = absurd m
  inputs_from (p ∷ params) (l ∷ ls) m h [] vs s = absurd s
  inputs_from (p ∷ params) (l ∷ ls) m h (u ∷ us) [] s = absurd s
  inputs_from (p ∷ params) (l ∷ ls) m h (u ∷ us) (v ∷ vs) s = (
    λ e. s.0.0 (input_one l.output (l.look a false).varies (sym m.0 ∙ e) (or_left _ _ h)),
    inputs_from params ls m.1 (or_right (of_input l.output (l.look a false).varies) _ h) us vs s.1,
  )

  none_of_input : (o : Option ℕ) (v : Bool) → v ≡ false → of_input o v ≡ false
  none_of_input None v e = e
  none_of_input (Some x) v e = refl

  no_input : (ls : List ArgumentLook) → any (levels_of ls a false) ≡ false → any_input ls a false ≡ false
  no_input [] h = refl
  no_input (l ∷ ls) h = either (of_input l.output (l.look a false).varies) (any_input ls a false) (none_of_input l.output (l.look a false).varies (or_right (names l.output w) (l.look a false).varies (or_left _ _ h))) (no_input ls (or_right (names l.output w || (l.look a false).varies) _ h)) where
    either : (b c : Bool) → b ≡ false → c ≡ false → (b || c) ≡ false
    either true c e f = absurd (true≢false e)
    either false c e f = f

  given_long : (ls : List ArgumentLook) (us vs : List Passed) → PassedAll C pay a ls us vs → (length (given [] us) ≡ length ls) × (length (given [] vs) ≡ length ls)
  given_long [] [] [] s = (refl, refl)
  given_long [] [] (v ∷ vs) s = absurd s
  given_long [] (u ∷ us) vs s = absurd s
  given_long (l ∷ ls) [] vs s = absurd s
  given_long (l ∷ ls) (u ∷ us) [] s = absurd s
  given_long (l ∷ ls) (u ∷ us) (v ∷ vs) s = let r = given_long ls us vs s.1 in (ap suc r.0, ap suc r.1)

  matches_long : (params : List Param) (ls : List ArgumentLook) → Matches params ls → length ls ≡ length params
  matches_long [] [] m = refl
  matches_long [] (l ∷ ls) m = absurd m
  matches_long (p ∷ params) [] m = absurd m
  matches_long (p ∷ params) (l ∷ ls) m = ap suc (matches_long params ls m.1)

  abbrev LongAs : ℕ → LibraryAnswer → Type 0
  LongAs n Unfit = Unit {0}
  LongAs n Refused = Unit {0}
  LongAs n (Given v frame) = length frame ≡ n

  answer_long : (structs : List StructForm) (id : LibraryId) (opens : List ℕ) (us : Env) → length us ≤ length (row id).params → LongAs (length us) (library_answer structs id opens us)
  answer_long structs id opens us h = at (takes structs (param_shapes id) opens us) ((row id).answer (words_of holds_input (row id).params us)) where
    at : (b c : Bool) → LongAs (length us) (if b then (if c then given_by id us ((row id).value FRACTION opens (words_of holds_table (row id).params us) (words_of holds_input (row id).params us)) else Refused) else Unfit)
    at false c = tt
    at true false = tt
    at true true = outputs_long (row id).params us _ h

  came_same : (node : Node) (t u : ℕ) (s r : C) (n : ℕ) (b : Bool) (x y : LibraryAnswer) → (b ≡ false → AnswersSame x y) → LongAs n x → LongAs n y → (i j : Came C pay) → library_came C pay node t s x ≡ Ok i → library_came C pay node u r y ≡ Ok j → SameFrom (λ k. b) 0 i.frame j.frame × (b ≡ false → i.value ≡ j.value)
  came_same node t u s r n b Unfit y h l m i j e f = err_ok e
  came_same node t u s r n b Refused y h l m i j e f = err_ok e
  came_same node t u s r n b (Given v frame) Unfit h l m i j e f = err_ok f
  came_same node t u s r n b (Given v frame) Refused h l m i j e f = err_ok f
  came_same node t u s r n b (Given v frame) (Given z other) h l m i j e f =
      subst (λ (i : Came C pay). SameFrom (λ k. b) 0 i.frame j.frame × (b ≡ false → i.value ≡ j.value)) (ok_same e)
      (subst (λ (j : Came C pay). SameFrom (λ k. b) 0 frame j.frame × (b ≡ false → v ≡ j.value)) (ok_same f)
      (equal_from b 0 frame other (l ∙ sym m) (λ g. (h g).1), λ g. (h g).0))

  called_even : (structs : List StructForm) (id : LibraryId) (node : Node) (opens : List ℕ) (ls : List ArgumentLook) (rs : List (ArgumentRun C pay)) → Each (EvenArgument C pay a) ls rs → Matches (row id).params ls → (us vs : List Passed) → AllIn w (outputs_found (λ k. any_input ls a false) 0 ls a false).puts → PassedAll C pay a ls us vs → Even C pay w (SameIf (any (levels_of ls a false))) (called C pay opens (map (λ (r : ArgumentRun C pay). r.target) rs) us (record { defaults = []; run = library_run C pay structs id node })) (called C pay opens (map (λ (r : ArgumentRun C pay). r.target) rs) vs (record { defaults = []; run = library_run C pay structs id node }))
  called_even structs id node opens ls rs e m us vs k s =
      let long = given_long ls us vs s in
      let much = matches_long (row id).params ls m in
      record {
        by = λ p q z. came_even C pay a (map (λ (r : ArgumentRun C pay). r.target) rs) us vs (λ k. any_input ls a false) (any (levels_of ls a false)) p.env q.env _ _
            (λ i j f g.
            let c = came_same node p.turns q.turns (pay (sum_by scalars_in (given [] us)) p.spent) (pay (sum_by scalars_in (given [] vs)) q.spent) (length ls) (any_input ls a false) (library_answer structs id opens (given [] us)) (library_answer structs id opens (given [] vs))
            (λ n. library_same structs id opens (given [] us) (given [] vs) (inputs_from (row id).params ls m n us vs s))
            (subst (λ n. LongAs n (library_answer structs id opens (given [] us))) long.0 (answer_long structs id opens (given [] us) (omega arith)))
            (subst (λ n. LongAs n (library_answer structs id opens (given [] vs))) long.1 (answer_long structs id opens (given [] vs) (omega arith)))
            i j f g in
            (c.0, λ n. c.1 (no_input ls n)))
            (brought_even C pay a ls rs e (λ k. any_input ls a false) 0 k us vs s) z;
      }

  pub library_even : (known : Known) (s : Setting C pay) (id : LibraryId) (sizes : List Size) (node : Node) (ls : List ArgumentLook) (rs : List (ArgumentRun C pay)) → Each (EvenArgument C pay a) ls rs → Matches (row id).params ls → EvenOf C pay a (seen_callee known (callee.Library id) sizes ls) (call_step C pay s (record { callee = callee.Library id; sizes = sizes; arguments = rs; node = node }))
  library_even known s id sizes node ls rs e m h =
      even_evaluated C pay w (SameIf (any (levels_of ls a false))) _ _ (even_then C pay w (PassedAll C pay a ls) _ _ _ _ _ (listed_even C pay a ls rs e [] 0 (all_left w _ _ h)) (λ us vs g.
      let c = called_even s.structs id node (map (size_in s.opens) sizes) ls rs e m us vs (all_right w _ _ h) g in
      record { by = λ p q z. c.by p q z }))
