-- Runs that are not wrong.
use Rattle.std.proofs.Common.{◌≡◌, ℕ, ℤ, pos, ◌<◌, ◌^◌, List, [], ◌∷◌, length, Option, Some, None, Ok, Err, Bool, true, false, not, ◌&&◌, if◌then◌else◌, nat_lt, int_lt, unsigned_abs, refl, sym, subst, ◌∙◌, arith, slice_get, ltb-true, lt-ltb}
use Rattle.fix_num.specs.declared.TheConstants.{FRACTION}
use Rattle.fix_num.specs.Whole.{truth}
use Rattle.ctl_base.specs.declared.kind.Node.{Node}
use Rattle.ctl_base.specs.declared.kind.ScalarKind.{ScalarKind}
use Rattle.ctl_base.specs.declared.kind.ScalarKind.TheVariants as kind
use Rattle.ctl_base.specs.declared.kind.TrapKind.TheVariants as trap
use Rattle.ctl_types.specs.declared.scalar.Scalar.{Scalar as ScalarForm}
use Rattle.ctl_types.specs.declared.scalar.Scalar.TheVariants as scalar_form
use Rattle.ctl_types.specs.declared.shape.Base.{Base}
use Rattle.ctl_types.specs.declared.shape.Base.TheVariants.{Scalar, Struct}
use Rattle.ctl_types.specs.declared.shape.Shape.{Shape}
use Rattle.ctl_types.specs.declared.program.Struct.{Struct as StructForm}
use Rattle.ctl_types.specs.declared.value.Value.{Value, out-Value}
use Rattle.ctl_types.specs.declared.value.Value.TheOpen as layer
use Rattle.ctl_types.specs.declared.value.Value.TheOpen.{Value-F}
use Rattle.ctl_types.specs.Scalars.{kind_of, word_of, same_kind, in_range, converted}
use Rattle.ctl_types.specs.Shapes.{field_shapes}
use Rattle.ctl_types.specs.Values.{one, part_in, Fits}
use Rattle.ctl_types.specs.Run.{Trapped, Wrong, Pixel, Outcome, Run, go_on, give, held, word_in, word, chosen, index_number, checked, index_in, field_in, word_as, sized}
use Rattle.ctl_laws.proofs.Values.{both, kinds_same, fits_in, fits_out, array, shape, array_long, struct_leads, get_low}

-- a kind that an index may have
abbrev pub IndexKind : ScalarKind → Type 0
IndexKind kind.Bool = Unit {0}
IndexKind kind.Int = Unit {0}
IndexKind kind.Unsigned = Unit {0}
IndexKind kind.Half = ⊥
IndexKind kind.Float = ⊥

module _ {C : Type 0} {pay : ℕ → C → C} where
  -- not wrong, and this of the value and what is after it
  abbrev pub Good : {V : Type 0} → (V → Pixel C pay → Type 0) → Outcome C pay V → Type 0
  Good Q (Ok got) = Q got.value got.after
  Good Q (Err (Trapped kind node)) = Unit {0}
  Good Q (Err Wrong) = ⊥

  pub good_then : {V W : Type 0} (Q : V → Pixel C pay → Type 0) (S : W → Pixel C pay → Type 0) (o : Outcome C pay V) (next : V → Run C pay W) → Good Q o → ((v : V) (p : Pixel C pay) → Q v p → Good S (next v p)) → Good S (go_on C pay o next)
  good_then Q S (Ok got) next g f = f got.value got.after g
  good_then Q S (Err (Trapped kind node)) next g f = tt
  good_then Q S (Err Wrong) next g f = absurd g

  pub good_more : {V : Type 0} (Q S : V → Pixel C pay → Type 0) (o : Outcome C pay V) → Good Q o → ((v : V) (p : Pixel C pay) → Q v p → S v p) → Good S o
  good_more Q S (Ok got) g f = f got.value got.after g
  good_more Q S (Err (Trapped kind node)) g f = tt
  good_more Q S (Err Wrong) g f = absurd g

  pub good_held : {V W : Type 0} (S : W → Pixel C pay → Type 0) (o : Option V) (next : V → Run C pay W) (p : Pixel C pay) (v : V) → o ≡ Some v → Good S (next v p) → Good S (held C pay o next p)
  good_held S None next p v e g = absurd (cc)
  good_held {V} {W} S (Some w) next p v e g = let q : v ≡ w = cc in subst (λ (v : V). Good S (next v p)) q g

  pub good_if : {W : Type 0} (S : W → Pixel C pay → Type 0) (b : Bool) (a c : Outcome C pay W) → b ≡ true → Good S a → Good S (if b then a else c)
  good_if S true a c e g = g
  good_if S false a c e g = absurd (cc)

  good_either : {W : Type 0} (S : W → Pixel C pay → Type 0) (b : Bool) (a c : Run C pay W) (p : Pixel C pay) → Good S (a p) → Good S (c p) → Good S ((if b then a else c) p)
  good_either S true a c p g h = g
  good_either S false a c p g h = h

  -- a size below 2^31 is an int
  pub good_sized : (S : Value → Pixel C pay → Type 0) (n : ℕ) (p : Pixel C pay) → n < 2 ^ 31 → S (one (scalar_form.Int (pos n))) p → Good S (sized C pay n p)
  good_sized S n p l g = good_if S (nat_lt n (2 ^ 31)) (give C pay (one (scalar_form.Int (pos n))) p) (Err Wrong) (lt-ltb _ _ l) g

  good_checked : (S : ℕ → Pixel C pay → Type 0) (node : Node) (z : ℤ) (size : ℕ) (p : Pixel C pay) → ((i : ℕ) → i < size → S i p) → Good S (checked C pay node z size p)
  good_checked S node z size p g = by (not (int_lt z (pos 0)) && nat_lt (unsigned_abs z) size) refl where
    by : (b : Bool) → (not (int_lt z (pos 0)) && nat_lt (unsigned_abs z) size) ≡ b → Good S (if b then give C pay (unsigned_abs z) p else Err (Trapped trap.Index node))
    by true e = g (unsigned_abs z) (ltb-true _ _ (both (not (int_lt z (pos 0))) _ e).1)
    by false e = tt

module _ {C : Type 0} {pay : ℕ → C → C} (structs : List StructForm) where
  word_cases : {W : Type 0} (S : W → Pixel C pay → Type 0) (k : ScalarKind) (x : Value-F Value) (next : ℤ → Run C pay W) (p : Pixel C pay) → fits_in structs x [] (Some (Scalar k)) ≡ true → ((z : ℤ) → in_range FRACTION k z ≡ true → Good S (next z p)) → Good S (word_in C pay k x next p)
  word_cases S k (layer.One s) next p h g = let b = both (same_kind (kind_of s) k) _ h in good_if S (same_kind (kind_of s) k) (next (word_of s) p) (Err Wrong) b.0 (g (word_of s) b.1)
  word_cases S k (layer.List vs) next p h g = absurd (cc)
  word_cases S k (layer.Fields vs) next p h g = absurd (cc)

  -- a scalar has its word
  pub good_word : {W : Type 0} (S : W → Pixel C pay → Type 0) (k : ScalarKind) (next : ℤ → Run C pay W) (v : Value) (p : Pixel C pay) → Fits structs (shape [] (Some (Scalar k))) v → ((z : ℤ) → in_range FRACTION k z ≡ true → Good S (next z p)) → Good S (word C pay k next v p)
  good_word S k next v p h g = word_cases S k (out-Value v) next p (sym (fits_out structs v [] (Some (Scalar k))) ∙ h) g

  pub good_chosen : {W : Type 0} (S : W → Pixel C pay → Type 0) (a c : Run C pay W) (v : Value) (p : Pixel C pay) → Fits structs (shape [] (Some (Scalar kind.Bool))) v → Good S (a p) → Good S (c p) → Good S (chosen C pay a c v p)
  good_chosen S a c v p h g j = good_word S kind.Bool (λ z. if truth z then a else c) v p h (λ z r. good_either S (truth z) a c p g j)

  number_scalar : {W : Type 0} (S : W → Pixel C pay → Type 0) (k : ScalarKind) (s : ScalarForm) (next : ℤ → Run C pay W) (p : Pixel C pay) → kind_of s ≡ k → IndexKind k → ((z : ℤ) → Good S (next z p)) → Good S (index_number C pay (layer.One s) next p)
  number_scalar S k (scalar_form.Bool b) next p e i g = g _
  number_scalar S k (scalar_form.Int z) next p e i g = g _
  number_scalar S k (scalar_form.Unsigned n) next p e i g = g _
  number_scalar S k (scalar_form.Half z) next p e i g = absurd (subst IndexKind (sym e) i)
  number_scalar S k (scalar_form.Float z) next p e i g = absurd (subst IndexKind (sym e) i)

  number_cases : {W : Type 0} (S : W → Pixel C pay → Type 0) (k : ScalarKind) (x : Value-F Value) (next : ℤ → Run C pay W) (p : Pixel C pay) → fits_in structs x [] (Some (Scalar k)) ≡ true → IndexKind k → ((z : ℤ) → Good S (next z p)) → Good S (index_number C pay x next p)
  number_cases S k (layer.One s) next p h i g = number_scalar S k s next p (kinds_same _ _ (both (same_kind (kind_of s) k) _ h).0) i g
  number_cases S k (layer.List vs) next p h i g = absurd (cc)
  number_cases S k (layer.Fields vs) next p h i g = absurd (cc)

  pub good_number : {W : Type 0} (S : W → Pixel C pay → Type 0) (k : ScalarKind) (v : Value) (next : ℤ → Run C pay W) (p : Pixel C pay) → Fits structs (shape [] (Some (Scalar k))) v → IndexKind k → ((z : ℤ) → Good S (next z p)) → Good S (index_number C pay (out-Value v) next p)
  good_number S k v next p h i g = number_cases S k (out-Value v) next p (sym (fits_out structs v [] (Some (Scalar k))) ∙ h) i g

  index_cases : (S : ℕ → Pixel C pay → Type 0) (x : Value-F Value) (n : ℕ) (sizes : List ℕ) (base : Option Base) (node : Node) (z : ℤ) (p : Pixel C pay) → fits_in structs x (n ∷ sizes) base ≡ true → ((i : ℕ) → i < n → S i p) → Good S (index_in C pay node z x p)
  index_cases S (layer.One s) n sizes base node z p h g = absurd (cc)
  index_cases S (layer.Fields vs) n sizes base node z p h g = absurd (cc)
  index_cases S (layer.List vs) n sizes base node z p h g = let e = array_long structs vs n sizes base h in good_checked S node z (length vs) p (λ i l. g i (omega arith))

  -- an index into an array traps or is below its size
  pub good_index : (S : ℕ → Pixel C pay → Type 0) (n : ℕ) (sizes : List ℕ) (base : Option Base) (node : Node) (z : ℤ) (v : Value) (p : Pixel C pay) → Fits structs (array n sizes base) v → ((i : ℕ) → i < n → S i p) → Good S (index_in C pay node z (out-Value v) p)
  good_index S n sizes base node z v p h g = index_cases S (out-Value v) n sizes base node z p (sym (fits_out structs v (n ∷ sizes) base) ∙ h) g

  field_cases : (S : ℕ → Pixel C pay → Type 0) (x : Value-F Value) (s i : ℕ) (p : Pixel C pay) (w : Value) → fits_in structs x [] (Some (Struct s)) ≡ true → part_in x i ≡ Some w → S i p → Good S (field_in C pay i x p)
  field_cases S (layer.One t) s i p w h e g = absurd (cc)
  field_cases S (layer.List vs) s i p w h e g = absurd (cc)
  field_cases S (layer.Fields vs) s i p w h e g = good_if S (nat_lt i (length vs)) (give C pay i p) (Err Wrong) (lt-ltb _ _ (get_low vs i w e)) g

  pub good_field : (S : ℕ → Pixel C pay → Type 0) (s i : ℕ) (m : Shape) (v : Value) (p : Pixel C pay) → Fits structs (shape [] (Some (Struct s))) v → slice_get (field_shapes structs s) i ≡ Some m → S i p → Good S (field_in C pay i (out-Value v) p)
  good_field S s i m v p h e g =
      let l = struct_leads structs s i m e v h in
      field_cases S (out-Value v) s i p l.part (sym (fits_out structs v [] (Some (Struct s))) ∙ h) l.at g

module _ (structs : List StructForm) where
  -- the word that a scalar becomes in another kind is in its range, where conversions keep to it
  word_as_cases : (a b : ScalarKind) (x : Value-F Value) → ((k : ScalarKind) (z : ℤ) → in_range FRACTION k z ≡ true → in_range FRACTION a (converted FRACTION k a z) ≡ true) → fits_in structs x [] (Some (Scalar b)) ≡ true → in_range FRACTION a (word_as a x) ≡ true
  word_as_cases a b (layer.One s) c h =
      let q = both (same_kind (kind_of s) b) _ h in
      c (kind_of s) (word_of s) (subst (λ (k : ScalarKind). in_range FRACTION k (word_of s) ≡ true) (sym (kinds_same _ _ q.0)) q.1)
  word_as_cases a b (layer.List vs) c h = absurd (cc)
  word_as_cases a b (layer.Fields vs) c h = absurd (cc)

  pub word_as_range : (a b : ScalarKind) (v : Value) → ((k : ScalarKind) (z : ℤ) → in_range FRACTION k z ≡ true → in_range FRACTION a (converted FRACTION k a z) ≡ true) → Fits structs (shape [] (Some (Scalar b))) v → in_range FRACTION a (word_as a (out-Value v)) ≡ true
  word_as_range a b v c h = word_as_cases a b (out-Value v) c (sym (fits_out structs v [] (Some (Scalar b))) ∙ h)
