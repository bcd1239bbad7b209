-- The law of uniform values.
use Rattle.std.proofs.Common.{◌≡◌, ◌+◌, ℕ, suc, List, [], ◌∷◌, ◌++◌, map, Option, Some, None, Result, Ok, Err, Bool, true, false, true≢false, not, ◌&&◌, if◌then◌else◌, slice_get, ap, sym, subst, ◌∙◌, refl, arith}
use Rattle.ctl_types.specs.declared.shape.Extent.{Extent}
use Rattle.ctl_types.specs.declared.shape.Extent.TheVariants.{Stated, Unstated}
use Rattle.ctl_types.specs.declared.value.Value.{Value}
use Rattle.ctl_types.specs.declared.program.Struct.{Struct as StructForm}
use Rattle.ctl_types.specs.declared.program.Parameter.{Parameter}
use Rattle.ctl_types.specs.Definitions.{Defined, constant_values}
use Rattle.ctl_types.specs.Shapes.{extents, numbered}
use Rattle.ctl_types.specs.Values.{Env, part_of, sizes_at, open_sizes}
use Rattle.ctl_types.specs.Typing.{are_stated}
use Rattle.ctl_types.specs.Scoping.{IsDefined, scene_before, are_plain}
use Rattle.ctl_types.specs.Run.{Fault, Wrong, also, with_output, first_output, first_frame, first_scalars, outputs_of, Came, Called, parameter_shapes, meanings, Ended, ended_with, entry_came, run_of, entry_frame, entry_of}
use Rattle.level_rules.specs.declared.instance.Instance.{Instance}
use Rattle.level_rules.specs.declared.instance.Holder.TheVariants.{Variable}
use Rattle.level_rules.specs.Rules.{VaryingSet, Known, instance_of}
use Rattle.level_rules.specs.Levels.{AreLevels, Meets, before, is_uniform, entry_instance, parameters_of}
use Rattle.level_laws.specs.Uniform.{Either, InputsAgree, OutputsAgree, Accepts, EndsAlike, UniformValues}
use Rattle.level_laws.proofs.Evens.{some_same}
use Rattle.level_laws.proofs.Calls.{SameWhere, SameFrom, alike_from, CameAlike, IsUniform}
use Rattle.level_laws.proofs.Typed.{both}
use Rattle.level_laws.proofs.Functions.{Serves, nowhere, all_serve}

none_some : {A B : Type 0} {x : A} → ◌≡◌ {A = Option A} None (Some x) → B
none_some {A} {B} {x} e = absurd (true≢false (ap is_none e)) where
  is_none : Option A → Bool
  is_none None = true
  is_none (Some x) = false

-- ---- the inputs

abbrev levels_in : List Parameter → List Bool
levels_in = map (λ (q : Parameter). not (is_uniform q.level))

also_some : {B : Type 0} (v : Value) (o : Option Env) (frame : Env) → also v o ≡ Some frame → ((rest : Env) → o ≡ Some rest → frame ≡ Some v ∷ rest → B) → B
also_some v None frame e f = none_some e
also_some v (Some rest) frame e f = f rest refl (sym (some_same e))

not_uniform : (b : Bool) → not b ≡ false → b ≡ true
not_uniform true e = refl
not_uniform false e = absurd (true≢false e)

-- one more at the front of both
more_where : (l : Bool) (levels : List Bool) (u v : Value) (us vs frame other : Env) → frame ≡ Some u ∷ us → other ≡ Some v ∷ vs → (l ≡ false → u ≡ v) → SameWhere levels us vs → SameWhere (l ∷ levels) frame other
more_where l levels u v us vs frame other e f g s = subst (λ frame. SameWhere (l ∷ levels) frame other) (sym e) (subst (λ other. SameWhere (l ∷ levels) (Some u ∷ us) other) (sym f) (λ i. ap (λ v. Some v) (g i), s))

first_same : (structs : List StructForm) (parameters : List Parameter) (us vs : List Value) → InputsAgree parameters us vs → (frame other : Env) → first_frame structs parameters us ≡ Some frame → first_frame structs parameters vs ≡ Some other → SameWhere (levels_in parameters) frame other
first_same structs [] [] [] h frame other e f = subst (λ frame. SameWhere [] frame other) (some_same e) (subst (λ other. SameWhere {A = Option Value} [] [] other) (some_same f) tt)
first_same structs [] [] (v ∷ vs) h frame other e f = absurd h
first_same structs [] (u ∷ us) vs h frame other e f = absurd h
first_same structs (q ∷ parameters) [] (v ∷ vs) h frame other e f = absurd h
first_same structs (q ∷ parameters) (u ∷ us) [] h frame other e f = absurd h
first_same structs (q ∷ parameters) [] [] h frame other e f = at q.is_output h.0 e f (first_same structs parameters [] [] h.1) where
  at : (b : Bool) → b ≡ true → (if b then also (first_output structs q) (first_frame structs parameters []) else None) ≡ Some frame → (if b then also (first_output structs q) (first_frame structs parameters []) else None) ≡ Some other → ((xs ys : Env) → first_frame structs parameters [] ≡ Some xs → first_frame structs parameters [] ≡ Some ys → SameWhere (levels_in parameters) xs ys) → SameWhere (not (is_uniform q.level) ∷ levels_in parameters) frame other
  at true b e f more = also_some (first_output structs q) _ frame e (λ xs i j. also_some (first_output structs q) _ other f (λ ys k l. more_where (not (is_uniform q.level)) (levels_in parameters) _ _ xs ys frame other j l (λ g. refl) (more xs ys i k)))
  at false b e f more = absurd (true≢false (sym b))
first_same structs (q ∷ parameters) (u ∷ us) (v ∷ vs) h frame other e f = at q.is_output h e f (first_same structs parameters (u ∷ us) (v ∷ vs)) (first_same structs parameters us vs) where
  at : (b : Bool) → Either b (InputsAgree parameters (u ∷ us) (v ∷ vs)) ((is_uniform q.level ≡ true → u ≡ v) × InputsAgree parameters us vs) → (if b then also (first_output structs q) (first_frame structs parameters (u ∷ us)) else also u (first_frame structs parameters us)) ≡ Some frame → (if b then also (first_output structs q) (first_frame structs parameters (v ∷ vs)) else also v (first_frame structs parameters vs)) ≡ Some other → (InputsAgree parameters (u ∷ us) (v ∷ vs) → (xs ys : Env) → first_frame structs parameters (u ∷ us) ≡ Some xs → first_frame structs parameters (v ∷ vs) ≡ Some ys → SameWhere (levels_in parameters) xs ys) → (InputsAgree parameters us vs → (xs ys : Env) → first_frame structs parameters us ≡ Some xs → first_frame structs parameters vs ≡ Some ys → SameWhere (levels_in parameters) xs ys) → SameWhere (not (is_uniform q.level) ∷ levels_in parameters) frame other
  at true h e f out more = also_some (first_output structs q) _ frame e (λ xs i j. also_some (first_output structs q) _ other f (λ ys k l. more_where (not (is_uniform q.level)) (levels_in parameters) _ _ xs ys frame other j l (λ g. refl) (out h xs ys i k)))
  at false h e f out more = also_some u _ frame e (λ xs i j. also_some v _ other f (λ ys k l. more_where (not (is_uniform q.level)) (levels_in parameters) _ _ xs ys frame other j l (λ g. h.0 (not_uniform (is_uniform q.level) g)) (more h.1 xs ys i k)))

-- ---- the outputs

put_some : {B : Type 0} (v : Option Value) (o : Option (List Value)) (us : List Value) → with_output v o ≡ Some us → ((u : Value) (rest : List Value) → v ≡ Some u → o ≡ Some rest → us ≡ u ∷ rest → B) → B
put_some None o us e f = none_some e
put_some (Some v) None us e f = none_some e
put_some (Some v) (Some rest) us e f = f v rest refl refl (sym (some_same e))

and_true : (b c : Bool) → b ≡ true → c ≡ true → (b && c) ≡ true
and_true true c e f = f
and_true false c e f = absurd (true≢false (sym e))

no_less : (parameters : List Parameter) (v : Value) (vs : List Value) → OutputsAgree parameters [] (v ∷ vs) → ⊥
no_less [] v vs h = h
no_less (q ∷ parameters) v vs h = h

no_more : (parameters : List Parameter) (u : Value) (us : List Value) → OutputsAgree parameters (u ∷ us) [] → ⊥
no_more [] u us h = h
no_more (q ∷ parameters) u us h = h

-- an input has no output
input_skips : (q : Parameter) (parameters : List Parameter) → q.is_output ≡ false → (us vs : List Value) → OutputsAgree parameters us vs → OutputsAgree (q ∷ parameters) us vs
input_skips q parameters e [] [] h = (e, h)
input_skips q parameters e [] (v ∷ vs) h = absurd (no_less parameters v vs h)
input_skips q parameters e (u ∷ us) [] h = absurd (no_more parameters u us h)
input_skips q parameters e (u ∷ us) (v ∷ vs) h = subst (λ b. Either b ((is_uniform q.level ≡ true → u ≡ v) × OutputsAgree parameters us vs) (OutputsAgree parameters (u ∷ us) (v ∷ vs))) (sym e) h

output_first : (q : Parameter) (parameters : List Parameter) → q.is_output ≡ true → (u v : Value) (us vs xs ys : List Value) → xs ≡ u ∷ us → ys ≡ v ∷ vs → (is_uniform q.level ≡ true → u ≡ v) → OutputsAgree parameters us vs → OutputsAgree (q ∷ parameters) xs ys
output_first q parameters e u v us vs xs ys f g h k = subst (λ xs. OutputsAgree (q ∷ parameters) xs ys) (sym f) (subst (λ ys. OutputsAgree (q ∷ parameters) (u ∷ us) ys) (sym g)
    (subst (λ b. Either b ((is_uniform q.level ≡ true → u ≡ v) × OutputsAgree parameters us vs) (OutputsAgree parameters (u ∷ us) (v ∷ vs))) (sym e) (h, k)))

outputs_same : (f : ℕ → Bool) (k : ℕ) (parameters : List Parameter) → ((j : ℕ) (q : Parameter) → slice_get parameters j ≡ Some q → (q.is_output && is_uniform q.level) ≡ true → f (k + j) ≡ false) → (frame other : Env) → SameFrom f k frame other → (us vs : List Value) → outputs_of parameters frame ≡ Some us → outputs_of parameters other ≡ Some vs → OutputsAgree parameters us vs
outputs_same f k [] a frame other s us vs d e = subst (λ us. OutputsAgree [] us vs) (some_same d) (subst (λ vs. OutputsAgree [] [] vs) (some_same e) tt)
outputs_same f k (q ∷ parameters) a [] other s us vs d e = none_some d
outputs_same f k (q ∷ parameters) a (x ∷ frame) [] s us vs d e = absurd s
outputs_same f k (q ∷ parameters) a (x ∷ frame) (y ∷ other) s us vs d e = at q.is_output refl d e (outputs_same f (k + 1) parameters (λ j q g h. subst (λ n. f n ≡ false) (let i : k + suc j ≡ (k + 1) + j = omega arith in i) (a (suc j) q g h)) frame other s.1) where
  at : (b : Bool) → q.is_output ≡ b → (if b then with_output x (outputs_of parameters frame) else outputs_of parameters frame) ≡ Some us → (if b then with_output y (outputs_of parameters other) else outputs_of parameters other) ≡ Some vs → ((us vs : List Value) → outputs_of parameters frame ≡ Some us → outputs_of parameters other ≡ Some vs → OutputsAgree parameters us vs) → OutputsAgree (q ∷ parameters) us vs
  at true i d e more = put_some x _ us d (λ u xs g h j. put_some y _ vs e (λ v ys l m n. output_first q parameters i u v xs ys us vs j n
      (λ o. some_same (sym g ∙ s.0 (subst (λ n. f n ≡ false) (let z : k + 0 ≡ k = omega arith in z) (a 0 q refl (and_true q.is_output (is_uniform q.level) i o))) ∙ l))
      (more xs ys h m)))
  at false i d e more = input_skips q parameters i us vs (more us vs d e)

-- ---- the entry has no open size

stated_sizes : (k : ℕ) (xs : List Extent) → are_stated (numbered k xs) ≡ true → (v : Option Value) → sizes_at xs v ≡ []
stated_sizes k [] h v = refl
stated_sizes k (Stated n ∷ xs) h v = stated_sizes k xs h (part_of v 0)
stated_sizes k (Unstated ∷ xs) h v = absurd (true≢false (sym h))

no_open : (parameters : List Parameter) → are_plain parameters ≡ true → (frame : Env) → open_sizes (map (λ (q : Parameter). q.shape) parameters) frame ≡ []
no_open [] h frame = refl
no_open (q ∷ parameters) h [] = refl
no_open (q ∷ parameters) h (v ∷ frame) =
    let k = both _ _ h in
    ap (λ (xs : List ℕ). xs ++ open_sizes (map (λ (q : Parameter). q.shape) parameters) frame) (stated_sizes 0 (extents q.shape) (both _ _ k.0).1 v) ∙ no_open parameters k.1 frame

-- ---- the law

module _ (C : Type 0) (pay : ℕ → C → C) where
  ends_err : (parameters : List Parameter) (o : Result (Ended C pay) Fault) (fault : Fault) → EndsAlike C pay parameters o (Err fault)
  ends_err parameters (Ok x) fault = tt
  ends_err parameters (Err f) fault = tt

  abbrev ParametersStay : List Parameter → VaryingSet → Type 0
  ParametersStay parameters set = (k : ℕ) (q : Parameter) → slice_get parameters k ≡ Some q → (q.is_output && is_uniform q.level) ≡ true → set (Variable k) ≡ false

  came_ends : (parameters : List Parameter) (set : VaryingSet) → ParametersStay parameters set → (o p : Result (Came C pay) Fault) → CameAlike C pay nowhere set o p → EndsAlike C pay parameters (entry_came C pay parameters o) (entry_came C pay parameters p)
  came_ends parameters set a (Ok x) (Ok y) h = at (outputs_of parameters x.frame) (outputs_of parameters y.frame) refl refl where
    at : (o p : Option (List Value)) → outputs_of parameters x.frame ≡ o → outputs_of parameters y.frame ≡ p → EndsAlike C pay parameters (ended_with C pay x.turns x.spent o) (ended_with C pay y.turns y.spent p)
    at None p d e = tt
    at (Some us) None d e = tt
    at (Some us) (Some vs) d e = outputs_same (λ k. set (Variable k)) 0 parameters (λ j q g i. subst (λ n. set (Variable n) ≡ false) (let z : j ≡ 0 + j = omega arith in z) (a j q g i)) x.frame y.frame (alike_from set x.frame y.frame h.0) us vs d e
  came_ends parameters set a (Ok x) (Err fault) h = ends_err parameters _ fault
  came_ends parameters set a (Err fault) o h = tt

  runs_alike : (i : Instance) (set : VaryingSet) (g : Option (Called C pay)) → ((c : Called C pay) → g ≡ Some c → IsUniform C pay nowhere i set c.run) → (frame other : Env) (turns more : ℕ) (spent paid : C) → SameWhere i.levels frame other → CameAlike C pay nowhere set (run_of C pay g i.sizes frame turns spent) (run_of C pay g i.sizes other more paid)
  runs_alike i set None h frame other turns more spent paid s = tt
  runs_alike i set (Some c) h frame other turns more spent paid s = h c refl frame other turns more spent paid s

  frames_alike : (functions : List (Called C pay)) (entry : ℕ) (parameters : List Parameter) (set : VaryingSet) → are_plain parameters ≡ true → ParametersStay parameters set → ((c : Called C pay) → slice_get functions entry ≡ Some c → IsUniform C pay nowhere (instance_of entry [] (levels_in parameters) false) set c.run) → (o p : Option Env) → ((frame other : Env) → o ≡ Some frame → p ≡ Some other → SameWhere (levels_in parameters) frame other) → (turns more : ℕ) (spent paid : C) → EndsAlike C pay parameters (entry_frame C pay functions entry parameters turns spent o) (entry_frame C pay functions entry parameters more paid p)
  frames_alike functions entry parameters set plain a h None p s turns more spent paid = tt
  frames_alike functions entry parameters set plain a h (Some frame) None s turns more spent paid = ends_err parameters _ Wrong
  frames_alike functions entry parameters set plain a h (Some frame) (Some other) s turns more spent paid =
      let x : C = pay (first_scalars parameters frame) spent in
      let y : C = pay (first_scalars parameters other) paid in
      came_ends parameters set a _ _
      (subst (λ sizes. CameAlike C pay nowhere set (run_of C pay (slice_get functions entry) sizes frame turns x) (run_of C pay (slice_get functions entry) (open_sizes (parameter_shapes C pay parameters) other) other more y)) (sym (no_open parameters plain frame))
      (subst (λ sizes. CameAlike C pay nowhere set (run_of C pay (slice_get functions entry) [] frame turns x) (run_of C pay (slice_get functions entry) sizes other more y)) (sym (no_open parameters plain other))
      (runs_alike (instance_of entry [] (levels_in parameters) false) set (slice_get functions entry) h frame other turns more x y (s frame other refl refl))))

  pub program_serves : (d : Defined) → IsDefined d → (known : Known) → AreLevels d.functions known → Serves C pay d.structs (constant_values d) d.functions known (meanings C pay d.structs (constant_values d) [] d.functions)
  program_serves d defined known levels =
      all_serve C pay d.structs (constant_values d) d.functions known 0 [] (scene_before d) d.functions refl
      (λ k f e sizes levels. none_some e)
      (λ k f e opens frame turns spent. none_some e)
      (both _ _ (both _ _ defined.stand).1).1
      (λ m f e i j. subst (λ n. Meets (before n known) d.functions f i (known i)) (let q : m ≡ 0 + m = omega arith in q) (levels m f e i (let q : i.function ≡ m = omega arith in q)).meets)

  pub uniform_values : UniformValues C pay
  uniform_values d defined known levels entry f at_entry is accepts inputs others agree turns more spent paid =
      let i : Instance = instance_of entry [] (levels_in f.parameters) false in
      let same : entry_instance d.functions entry ≡ i = ap (λ o. instance_of entry [] (levels_in (parameters_of o)) false) at_entry in
      let a : Accepts f (known i) = subst (λ i. Accepts f (known i)) same accepts in
      subst (λ o. EndsAlike C pay f.parameters (entry_of C pay d entry o inputs turns spent) (entry_of C pay d entry o others more paid)) (sym at_entry)
      (frames_alike (meanings C pay d.structs (constant_values d) [] d.functions) entry f.parameters (known i) (both _ _ is).1 a
      (λ c e. program_serves d defined known levels entry c e [] (levels_in f.parameters))
      (first_frame d.structs f.parameters inputs) (first_frame d.structs f.parameters others) (first_same d.structs f.parameters inputs others agree) turns more _ _)
