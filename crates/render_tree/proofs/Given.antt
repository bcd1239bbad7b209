-- Inputs one after the other.
use Rattle.std.proofs.Common.{◌≡◌, ℕ, ◌+◌, ◌<◌, List, [], ◌∷◌, ◌++◌, drop, length, get_or, Option, Some, None, Bool, true, false, ◌&&◌, ◌||◌, if◌then◌else◌, refl, ap, sym, ◌∙◌, subst, append_assoc, append-nil}
use Rattle.ctl_types.specs.declared.value.Value.{Value}
use Rattle.ctl_types.specs.declared.program.Parameter.{Parameter}
use Rattle.ctl_types.specs.Run.{with_output}
use Rattle.render_tree.specs.PixelRun.{Named, input_value, input_values}
use Rattle.render_tree.specs.Stages.{input_is_simple, inputs_are_simple}
use Rattle.render_tree.specs.Means.{behind_inputs}
use Rattle.render_tree.proofs.Passed.{next}

both : (a b : Bool) → (a && b) ≡ true → (a ≡ true) × (b ≡ true)
both true b h = (refl, h)
both false b h = absurd (cc)

-- the next parameter is of the simple form, and so are the others
pub simple_next : (ps : List Parameter) (i : ℕ) (q : Parameter) → i < length ps → q ≡ get_or ps i q → inputs_are_simple (drop i ps) ≡ true → ((q.is_output || input_is_simple q) ≡ true) × (inputs_are_simple (drop (i + 1) ps) ≡ true)
simple_next ps i q h e s = let P : List Parameter → Type 0 = λ l. inputs_are_simple l ≡ true in both (q.is_output || input_is_simple q) _ (subst P (next ps i q h e) s)

pushed : (old new : List Value) (v : Value) (o : Option (List Value)) → Some new ≡ Some (old ++ v ∷ []) → behind_inputs new o ≡ behind_inputs old (with_output (Some v) o)
pushed old new v None e = refl
pushed old new v (Some vs) e = let same : new ≡ old ++ v ∷ [] = cc in ap Some (ap (λ (l : List Value). l ++ vs) same ∙ append_assoc old (v ∷ []) vs)

kept : (old new : List Value) (o : Option (List Value)) → Some new ≡ Some (old ++ []) → behind_inputs new o ≡ behind_inputs old o
kept old new None e = refl
kept old new (Some vs) e = let same : new ≡ old ++ [] = cc in ap Some (ap (λ (l : List Value). l ++ vs) (same ∙ append-nil old))

one_more : (values : List Named) (q : Parameter) (ps : List Parameter) (old new : List Value) (b : Bool) (o : Option Value) → q.is_output ≡ b → input_value values q ≡ o
    → Some new ≡ behind_inputs old (if b then Some [] else with_output o (Some [])) → behind_inputs new (input_values values ps) ≡ behind_inputs old (if b then input_values values ps else with_output o (input_values values ps))
one_more values q ps old new true o e f h = kept old new (input_values values ps) h
one_more values q ps old new false None e f h = absurd (cc)
one_more values q ps old new false (Some v) e f h = pushed old new v (input_values values ps) h

-- one parameter more
pub inputs_more : (values : List Named) (ps : List Parameter) (i : ℕ) (q : Parameter) (old new : List Value) (all : Option (List Value)) → i < length ps → q ≡ get_or ps i q → Some new ≡ behind_inputs old (input_values values (q ∷ []))
    → behind_inputs old (input_values values (drop i ps)) ≡ all → behind_inputs new (input_values values (drop (i + 1) ps)) ≡ all
inputs_more values ps i q old new all h e put so_far =
    one_more values q (drop (i + 1) ps) old new q.is_output (input_value values q) refl refl put
    ∙ ap (λ (l : List Parameter). behind_inputs old (input_values values l)) (sym (next ps i q h e)) ∙ so_far
