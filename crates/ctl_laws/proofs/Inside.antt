-- An index that does not trap lies inside.
use Rattle.std.proofs.Common.{◌≡◌, ℕ, zero, suc, ℤ, pos, negsuc, ◌<ℤ◌, ◌≤ℤ◌, ◌<◌, List, [], ◌∷◌, length, Option, Some, None, Ok, Err, Bool, true, false, not, ◌&&◌, if◌then◌else◌, nat_lt, int_lt, inl, inr, refl, sym, ap, ◌∙◌, arith, slice_get, ltb-true}
use Rattle.std.specs.Prelude.{◌⊎◌}
use Rattle.std.proofs.lemmas.Int.{ints}
use Rattle.fix_num.specs.Whole.{of_bool}
use Rattle.ctl_base.specs.declared.kind.Node.{Node}
use Rattle.ctl_base.specs.declared.kind.TrapKind.TheVariants as trap
use Rattle.ctl_types.specs.declared.scalar.Scalar.TheVariants as scalar_form
use Rattle.ctl_types.specs.declared.value.Value.{Value, roll-Value, out-Value}
use Rattle.ctl_types.specs.declared.value.Value.TheOpen as layer
use Rattle.ctl_types.specs.declared.value.Value.TheOpen.{Value-F}
use Rattle.ctl_types.specs.declared.value.Value.TheViews.{roll-out-Value}
use Rattle.ctl_types.specs.Values.{Env, part_in, part_of}
use Rattle.ctl_types.specs.Run.{Trapped, Pixel, Got, Outcome, Run, go_on, give, held, index_number, checked, index_in, index_run}
use Rattle.ctl_laws.specs.Indices.{LiesInside, IndicesLieInside}
use Rattle.ctl_laws.proofs.Values.{both}

slice_some : (vs : List Value) (i : ℕ) → i < length vs → (w : Value) × (slice_get vs i ≡ Some w)
slice_some [] i l = absurd (omega arith)
slice_some (v ∷ vs) zero l = (v, refl)
slice_some (v ∷ vs) (suc i) l = slice_some vs i (omega arith)

-- an element of the array that is found
inside : (o : Option Value) (v : Value) (vs : List Value) (i : ℕ) → o ≡ Some v → out-Value v ≡ layer.List vs → i < length vs → LiesInside o i
inside o v vs i e x l =
    let w = slice_some vs i l in
    record {
      elements = vs;
      is_array = e ∙ ap Some (sym (roll-out-Value v) ∙ ap roll-Value x);
      below = l;
      part = w.0;
      is_part = ap (λ (o : Option Value). part_of o i) e ∙ ap (λ (x : Value-F Value). part_in x i) x ∙ w.1;
    }

module _ {C : Type 0} {pay : ℕ → C → C} where
  -- ---- the check

  passed : (node : Node) (n size : ℕ) (p : Pixel C pay) (got : Got C pay ℕ) → checked C pay node (pos n) size p ≡ Ok got → (n ≡ got.value) × (n < size) × (p ≡ got.after)
  passed node n size p got h = by (not (int_lt (pos n) (pos 0)) && nat_lt n size) refl h where
    by : (b : Bool) → (not (int_lt (pos n) (pos 0)) && nat_lt n size) ≡ b → (if b then give C pay n p else Err (Trapped trap.Index node)) ≡ Ok got → (n ≡ got.value) × (n < size) × (p ≡ got.after)
    by true e h =
        let g : ◌≡◌ {A = Got C pay ℕ} (record { value = n; after = p }) got = cc in
        (ap (λ (g : Got C pay ℕ). g.value) g, ltb-true _ _ (both (not (int_lt (pos n) (pos 0))) _ e).1, ap (λ (g : Got C pay ℕ). g.after) g)
    by false e h = absurd (cc)

  pub passes : (node : Node) (z : ℤ) (size : ℕ) (p : Pixel C pay) (got : Got C pay ℕ) → checked C pay node z size p ≡ Ok got → (z ≡ pos got.value) × (got.value < size)
  passes node (pos n) size p got h = let k = passed node n size p got h in let e : n ≡ got.value = k.0 in let l : n < size = k.1 in (ap pos e, omega arith)
  passes node (negsuc n) size p got h = absurd (cc)

  pub traps : (node : Node) (z : ℤ) (size : ℕ) (p : Pixel C pay) → (z <ℤ pos 0) ⊎ (pos size ≤ℤ z) → checked C pay node z size p ≡ Err (Trapped trap.Index node)
  traps node (negsuc n) size p h = refl
  traps node (pos n) size p h = by (not (int_lt (pos n) (pos 0)) && nat_lt n size) refl where
    no : n < size → (pos n <ℤ pos 0) ⊎ (pos size ≤ℤ pos n) → ⊥
    no l (inl b) = omega (arith, ints)
    no l (inr b) = omega (arith, ints)

    by : (b : Bool) → (not (int_lt (pos n) (pos 0)) && nat_lt n size) ≡ b → (if b then give C pay n p else Err (Trapped trap.Index node)) ≡ Err (Trapped trap.Index node)
    by true e = absurd (no (ltb-true _ _ (both (not (int_lt (pos n) (pos 0))) _ e).1) h)
    by false e = refl

  -- ---- the step

  number_of : (x : Value-F Value) (next : ℤ → Run C pay ℕ) (p : Pixel C pay) (got : Got C pay ℕ) → index_number C pay x next p ≡ Ok got → (z : ℤ) × (next z p ≡ Ok got)
  number_of (layer.One (scalar_form.Bool b)) next p got h = (of_bool b, h)
  number_of (layer.One (scalar_form.Int z)) next p got h = (z, h)
  number_of (layer.One (scalar_form.Unsigned n)) next p got h = (pos n, h)
  number_of (layer.One (scalar_form.Half z)) next p got h = absurd (cc)
  number_of (layer.One (scalar_form.Float z)) next p got h = absurd (cc)
  number_of (layer.List vs) next p got h = absurd (cc)
  number_of (layer.Fields vs) next p got h = absurd (cc)

  held_value : (o : Option Value) (next : Value → Run C pay ℕ) (p : Pixel C pay) (got : Got C pay ℕ) → held C pay o next p ≡ Ok got → (v : Value) × (o ≡ Some v) × (next v p ≡ Ok got)
  held_value None next p got h = absurd (cc)
  held_value (Some v) next p got h = (v, refl, h)

  -- an index goes into an array, at one of its elements
  in_array : (node : Node) (z : ℤ) (x : Value-F Value) (p : Pixel C pay) (got : Got C pay ℕ) → index_in C pay node z x p ≡ Ok got → (vs : List Value) × (x ≡ layer.List vs) × (got.value < length vs) × (p ≡ got.after)
  in_array node z (layer.One s) p got h = absurd (cc)
  in_array node z (layer.Fields vs) p got h = absurd (cc)
  in_array node (negsuc n) (layer.List vs) p got h = absurd (cc)
  in_array node (pos n) (layer.List vs) p got h = let k = passed node n (length vs) p got h in let e : n ≡ got.value = k.0 in let l : n < length vs = k.1 in (vs, refl, omega arith, k.2)

  pub steps : (e : Run C pay Value) (node : Node) (find : Env → Option Value) (p : Pixel C pay) (got : Got C pay ℕ) → index_run C pay e node find p ≡ Ok got → LiesInside (find got.after.env) got.value
  steps e node find p got h = by (e p) h where
    by : (o : Outcome C pay Value) → go_on C pay o (λ v. index_number C pay (out-Value v) (λ z p. held C pay (find p.env) (λ v. index_in C pay node z (out-Value v)) p)) ≡ Ok got → LiesInside (find got.after.env) got.value
    by (Err fault) h = absurd (cc)
    by (Ok g) h =
        let z = number_of (out-Value g.value) (λ z p. held C pay (find p.env) (λ v. index_in C pay node z (out-Value v)) p) g.after got h in
        let v = held_value (find g.after.env) (λ v. index_in C pay node z.0 (out-Value v)) g.after got z.1 in
        let k = in_array node z.0 (out-Value v.0) g.after got v.2 in
        inside (find got.after.env) v.0 k.0 got.value (ap (λ (q : Pixel C pay). find q.env) (sym k.3) ∙ v.1) k.1 k.2

pub inside_law : (C : Type 0) (pay : ℕ → C → C) → IndicesLieInside C pay
inside_law C pay = record { passes = passes; traps = traps; steps = steps }
