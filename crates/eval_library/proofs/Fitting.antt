-- What follows where a function takes its arguments: the words fit the call, and the outputs are floats.
use Rattle.std.proofs.Common.{◌≡◌, ℕ, ℤ, ◌+◌, ◌*◌, ◌≤◌, List, [], ◌∷◌, ◌++◌, map, length, sum_by, Some, None, Bool, true, false, not, ◌||◌, if◌then◌else◌, refl, sym, ap, subst, ◌∙◌, arith, slice_get}
use Rattle.std.specs.List.{AllByRecursion}
use Rattle.std.proofs.lemmas.List.{length-append}
use Rattle.std.proofs.lemmas.List.Sums.{sum_by-cons}
use Rattle.std.proofs.lemmas.List.Elements.{All-from_recursion}
use Rattle.std.proofs.lemmas.Bool.{eqb-true, leb-true}
use Rattle.std.proofs.Math.Nat.{mul_assoc}
use Rattle.ctl_base.specs.declared.limits.TheConstants.{ARRAY_SIZE, SCALARS}
use Rattle.ctl_base.specs.declared.kind.ScalarKind.TheVariants as kind
use Rattle.ctl_stdlib.specs.declared.row.LibraryId.{LibraryId}
use Rattle.ctl_stdlib.specs.declared.row.RowShape.{RowShape}
use Rattle.ctl_stdlib.specs.declared.row.RowShape.TheVariants.{Bool as BoolShape, Half, Float, Float3, Float33, Float44, Floats, Pairs, Lattice, Chromaticities}
use Rattle.ctl_stdlib.specs.declared.row.Param.{Param}
use Rattle.ctl_stdlib.specs.Rows.{row}
use Rattle.ctl_stdlib.specs.Shapes.{Fits, base, open_sizes, elements, stated_words, is_table, table_words, input_words, filled_words}
use Rattle.ctl_types.specs.declared.value.Value.{Value}
use Rattle.ctl_types.specs.declared.program.Struct.{Struct as StructForm}
use Rattle.ctl_types.specs.Definitions.{chromaticities}
use Rattle.ctl_types.specs.Shapes.{extents, base_of, numbered, size_in, product, locals, open_count}
use Rattle.ctl_types.specs.Values.{Env, flat, scalars, fits, arguments_fit, sizes_fit, takes}
use Rattle.ctl_types.specs.Library.{shape_of, row_extents, zero_base_of, param_shapes, words_of, holds_table, holds_input}
use Rattle.eval_library.specs.Means.{IsFloat, OutputsAreFloats}
use Rattle.eval_library.proofs.RowShapes.{extents_row, base_row, opens_rows}
use Rattle.eval_library.proofs.RowsKeep.{is_float, no_tables, tables_first, outputs_float, rows_keep}
use Rattle.eval_library.proofs.Counts.{both, scalars_counted, struct_counted, float_is}

-- ---- open sizes

at_least : (opens : List ℕ) → sizes_fit opens ≡ true → AllByRecursion (λ n. 1 ≤ n) opens
at_least [] h = tt
at_least (n ∷ opens) h = let q = both _ _ h in let r = both _ _ q.0 in (leb-true 1 n r.0, at_least opens q.1)

at_most : (opens : List ℕ) → sizes_fit opens ≡ true → AllByRecursion (λ n. n ≤ ARRAY_SIZE) opens
at_most [] h = tt
at_most (n ∷ opens) h = let q = both _ _ h in let r = both _ _ q.0 in (leb-true n ARRAY_SIZE r.1, at_most opens q.1)

product_split : (opens stated : List ℕ) → product (opens ++ stated) ≡ elements opens * product stated
product_split [] stated = omega arith
product_split (n ∷ opens) stated = ap (λ m. n * m) (product_split opens stated) ∙ sym (mul_assoc n (elements opens) (product stated))

-- ---- the words of one argument

module _ (structs : List StructForm) (library : slice_get structs 0 ≡ Some chromaticities) where
  -- v is of the shape of a parameter where k open sizes stand before
  abbrev FitsRow : List ℕ → ℕ → RowShape → Value → Type 0
  FitsRow opens k shape v = fits structs v (map (size_in opens) (numbered k (row_extents shape))) (Some (zero_base_of (base shape))) ≡ true

  as_row : (opens : List ℕ) (k : ℕ) (shape : RowShape) (v : Value) → fits structs v (map (size_in opens) (numbered k (extents (shape_of shape)))) (Some (base_of (shape_of shape))) ≡ true → FitsRow opens k shape v
  as_row opens k shape v h = sym (ap (λ xs. fits structs v (map (size_in opens) (numbered k xs)) (Some (base_of (shape_of shape)))) (extents_row shape) ∙ ap (λ b. fits structs v (map (size_in opens) (numbered k (row_extents shape))) (Some b)) (base_row shape)) ∙ h

  input_count : (opens : List ℕ) (k : ℕ) (shape : RowShape) (v : Value) → is_table shape ≡ false → FitsRow opens k shape v → length (flat v) ≡ stated_words shape
  input_count opens k BoolShape v t h = scalars_counted structs v [] kind.Bool h
  input_count opens k Half v t h = scalars_counted structs v [] kind.Half h
  input_count opens k Float v t h = scalars_counted structs v [] kind.Float h
  input_count opens k Float3 v t h = scalars_counted structs v (3 ∷ []) kind.Float h
  input_count opens k Float33 v t h = scalars_counted structs v (3 ∷ 3 ∷ []) kind.Float h
  input_count opens k Float44 v t h = scalars_counted structs v (4 ∷ 4 ∷ []) kind.Float h
  input_count opens k Floats v t h = absurd (cc)
  input_count opens k Pairs v t h = absurd (cc)
  input_count opens k Lattice v t h = absurd (cc)
  input_count opens k Chromaticities v t h = struct_counted structs v library h

  table_count : (opens : List ℕ) (shape : RowShape) (v : Value) → is_table shape ≡ true → length opens ≡ open_sizes shape → FitsRow opens 0 shape v → length (flat v) ≡ elements opens * stated_words shape
  table_count opens BoolShape v t n h = absurd (cc)
  table_count opens Half v t n h = absurd (cc)
  table_count opens Float v t n h = absurd (cc)
  table_count opens Float3 v t n h = absurd (cc)
  table_count opens Float33 v t n h = absurd (cc)
  table_count opens Float44 v t n h = absurd (cc)
  table_count [] Floats v t n h = absurd (omega arith)
  table_count (a ∷ []) Floats v t n h = scalars_counted structs v ((a ∷ []) ++ []) kind.Float h ∙ product_split (a ∷ []) []
  table_count (a ∷ b ∷ opens) Floats v t n h = absurd (omega arith)
  table_count [] Pairs v t n h = absurd (omega arith)
  table_count (a ∷ []) Pairs v t n h = scalars_counted structs v ((a ∷ []) ++ (2 ∷ [])) kind.Float h ∙ product_split (a ∷ []) (2 ∷ [])
  table_count (a ∷ b ∷ opens) Pairs v t n h = absurd (omega arith)
  table_count [] Lattice v t n h = absurd (omega arith)
  table_count (a ∷ []) Lattice v t n h = absurd (omega arith)
  table_count (a ∷ b ∷ []) Lattice v t n h = absurd (omega arith)
  table_count (a ∷ b ∷ c ∷ []) Lattice v t n h = scalars_counted structs v ((a ∷ b ∷ c ∷ []) ++ (3 ∷ [])) kind.Float h ∙ product_split (a ∷ b ∷ c ∷ []) (3 ∷ [])
  table_count (a ∷ b ∷ c ∷ d ∷ opens) Lattice v t n h = absurd (omega arith)
  table_count opens Chromaticities v t n h = absurd (cc)

  -- ---- all arguments

  one_input : (opens : List ℕ) (k : ℕ) (shape : RowShape) (v : Value) (t o : Bool) (rest : List ℤ) → is_table shape ≡ t → FitsRow opens k shape v → length (if not (t || o) then flat v ++ rest else rest) ≡ (if o then 0 else (if t then 0 else stated_words shape)) + length rest
  one_input opens k shape v true true rest e h = omega arith
  one_input opens k shape v true false rest e h = omega arith
  one_input opens k shape v false true rest e h = omega arith
  one_input opens k shape v false false rest e h = length-append (flat v) rest ∙ ap (λ n. n + length rest) (input_count opens k shape v e h)

  inputs_counted : (opens : List ℕ) (k : ℕ) (params : List Param) (frame : Env) → arguments_fit structs opens (locals k (map (λ (p : Param). shape_of p.shape) params)) frame ≡ true → length (words_of holds_input params frame) ≡ sum_by input_words params
  inputs_counted opens k [] frame h = refl
  inputs_counted opens k (p ∷ params) [] h = absurd (cc)
  inputs_counted opens k (p ∷ params) (None ∷ frame) h = absurd (cc)
  inputs_counted opens k (p ∷ params) (Some v ∷ frame) h =
      let q = both _ _ h in
      let r = both _ _ q.0 in
      one_input opens k p.shape v (is_table p.shape) p.is_output (words_of holds_input params frame) refl (as_row opens k p.shape v r.0)
      ∙ ap (λ n. input_words p + n) (inputs_counted opens (k + open_count (extents (shape_of p.shape))) params frame q.1)
      ∙ sym (sum_by-cons input_words p params)

  no_table : (t : Bool) → not t ≡ true → t ≡ false
  no_table true e = absurd (cc)
  no_table false e = refl

  no_sizes : (shape : RowShape) → is_table shape ≡ false → open_sizes shape ≡ 0
  no_sizes BoolShape t = refl
  no_sizes Half t = refl
  no_sizes Float t = refl
  no_sizes Float3 t = refl
  no_sizes Float33 t = refl
  no_sizes Float44 t = refl
  no_sizes Floats t = absurd (cc)
  no_sizes Pairs t = absurd (cc)
  no_sizes Lattice t = absurd (cc)
  no_sizes Chromaticities t = refl

  no_words : (params : List Param) (frame : Env) → no_tables params ≡ true → words_of holds_table params frame ≡ []
  no_words [] frame h = refl
  no_words (p ∷ params) [] h = refl
  no_words (p ∷ params) (None ∷ frame) h = no_words params frame (both _ _ h).1
  no_words (p ∷ params) (Some v ∷ frame) h = let q = both _ _ h in ap (λ b. if b then flat v ++ words_of holds_table params frame else words_of holds_table params frame) (no_table _ q.0) ∙ no_words params frame q.1

  no_more_words : (opens : List ℕ) (params : List Param) → no_tables params ≡ true → sum_by (table_words opens) params ≡ 0
  no_more_words opens [] h = refl
  no_more_words opens (p ∷ params) h =
      let q = both _ _ h in
      sum_by-cons (table_words opens) p params ∙ ap (λ b. (if b then elements opens * stated_words p.shape else 0) + sum_by (table_words opens) params) (no_table _ q.0) ∙ ap (λ n. 0 + n) (no_more_words opens params q.1)

  no_more_sizes : (params : List Param) → no_tables params ≡ true → sum_by (λ (p : Param). open_sizes p.shape) params ≡ 0
  no_more_sizes [] h = refl
  no_more_sizes (p ∷ params) h =
      let q = both _ _ h in
      sum_by-cons (λ (p : Param). open_sizes p.shape) p params ∙ ap (λ n. n + sum_by (λ (p : Param). open_sizes p.shape) params) (no_sizes p.shape (no_table _ q.0)) ∙ ap (λ n. 0 + n) (no_more_sizes params q.1)

  record Table (opens : List ℕ) (params : List Param) (table : List ℤ) : Type 0 where
    pub whole : length table ≡ sum_by (table_words opens) params
    pub few : length table ≤ SCALARS

  one_table : (opens : List ℕ) (shape : RowShape) (v : Value) (t : Bool) (rest : List ℤ) → rest ≡ [] → is_table shape ≡ t → length opens ≡ open_sizes shape → FitsRow opens 0 shape v → scalars v ≤ SCALARS → (length (if t then flat v ++ rest else rest) ≡ (if t then elements opens * stated_words shape else 0)) × (length (if t then flat v ++ rest else rest) ≤ SCALARS)
  one_table opens shape v true rest none e n h few =
      let all = length-append (flat v) rest in
      let zero_more : length rest ≡ 0 = ap length none in
      let count = table_count opens shape v e n h in
      let plain : length (flat v ++ rest) ≡ length (flat v) = omega arith in
      (plain ∙ count, omega arith)
  one_table opens shape v false rest none e n h few = let zero_more : length rest ≡ 0 = ap length none in (zero_more, omega arith)

  table_counted : (opens : List ℕ) (params : List Param) (frame : Env) → tables_first params ≡ true → length opens ≡ sum_by (λ (p : Param). open_sizes p.shape) params → arguments_fit structs opens (locals 0 (map (λ (p : Param). shape_of p.shape) params)) frame ≡ true → Table opens params (words_of holds_table params frame)
  table_counted opens [] frame first n h = record { whole = refl; few = omega arith }
  table_counted opens (p ∷ params) [] first n h = absurd (cc)
  table_counted opens (p ∷ params) (None ∷ frame) first n h = absurd (cc)
  table_counted opens (p ∷ params) (Some v ∷ frame) first n h =
      let q = both _ _ h in
      let r = both _ _ q.0 in
      let sizes = sum_by-cons (λ (p : Param). open_sizes p.shape) p params in
      let none = no_more_sizes params first in
      let count : length opens ≡ open_sizes p.shape = omega arith in
      let words = sum_by-cons (table_words opens) p params in
      let no_more = no_more_words opens params first in
      let t = one_table opens p.shape v (is_table p.shape) (words_of holds_table params frame) (no_words params frame first) refl count (as_row opens 0 p.shape v r.0) (leb-true _ _ r.1) in
      let sum : table_words opens p ≡ sum_by (table_words opens) (p ∷ params) = omega arith in
      record { whole = t.0 ∙ sum; few = t.1 }

  -- ---- the call

  fits_call : (id : LibraryId) (opens : List ℕ) (frame : Env) (room : ℕ) → takes structs (param_shapes id) opens frame ≡ true → room ≡ filled_words (row id) → Fits (row id) opens (words_of holds_table (row id).params frame) (words_of holds_input (row id).params frame) room
  fits_call id opens frame room h free =
      let q = both _ _ h in
      let r = both _ _ q.0 in
      let counted : length opens ≡ sum_by (λ (p : Param). open_sizes p.shape) (row id).params = eqb-true _ _ r.0 ∙ opens_rows (row id).params in
      let table = table_counted opens (row id).params frame (both _ _ (rows_keep id)).0 counted q.1 in
      record {
        counted = counted;
        some = All-from_recursion (λ n. 1 ≤ n) opens (at_least opens r.1);
        most = λ _. All-from_recursion (λ n. n ≤ ARRAY_SIZE) opens (at_most opens r.1);
        whole = table.whole;
        few = table.few;
        given = inputs_counted opens 0 (row id).params frame q.1;
        free = free;
      }

  pub fits_words : (id : LibraryId) (opens : List ℕ) (frame : Env) (room : ℕ) (table inputs : List ℤ) → takes structs (param_shapes id) opens frame ≡ true → room ≡ filled_words (row id) → table ≡ words_of holds_table (row id).params frame → inputs ≡ words_of holds_input (row id).params frame → Fits (row id) opens table inputs room
  fits_words id opens frame room table inputs h free t i = subst (λ l. Fits (row id) opens l inputs room) (sym t) (subst (λ l. Fits (row id) opens (words_of holds_table (row id).params frame) l room) (sym i) (fits_call id opens frame room h free))

  -- ---- outputs

  float_output : (opens : List ℕ) (k : ℕ) (shape : RowShape) (v : Value) → is_float shape ≡ true → FitsRow opens k shape v → IsFloat (Some v)
  float_output opens k BoolShape v e h = absurd (cc)
  float_output opens k Half v e h = absurd (cc)
  float_output opens k Float v e h = float_is structs v h
  float_output opens k Float3 v e h = absurd (cc)
  float_output opens k Float33 v e h = absurd (cc)
  float_output opens k Float44 v e h = absurd (cc)
  float_output opens k Floats v e h = absurd (cc)
  float_output opens k Pairs v e h = absurd (cc)
  float_output opens k Lattice v e h = absurd (cc)
  float_output opens k Chromaticities v e h = absurd (cc)

  outputs_are : (opens : List ℕ) (k : ℕ) (params : List Param) (frame : Env) → arguments_fit structs opens (locals k (map (λ (p : Param). shape_of p.shape) params)) frame ≡ true → outputs_float params ≡ true → OutputsAreFloats params frame
  outputs_are opens k [] frame h o = tt
  outputs_are opens k (p ∷ params) [] h o = tt
  outputs_are opens k (p ∷ params) (None ∷ frame) h o = absurd (cc)
  outputs_are opens k (p ∷ params) (Some v ∷ frame) h o =
      let q = both _ _ h in
      let r = both _ _ q.0 in
      let s = both _ _ o in
      (λ e. float_output opens k p.shape v (sym (ap (λ b. if b then is_float p.shape else true) e) ∙ s.0) (as_row opens k p.shape v r.0), outputs_are opens (k + open_count (extents (shape_of p.shape))) params frame q.1 s.1)

  pub outputs_taken : (id : LibraryId) (opens : List ℕ) (frame : Env) → takes structs (param_shapes id) opens frame ≡ true → OutputsAreFloats (row id).params frame
  outputs_taken id opens frame h = outputs_are opens 0 (row id).params frame (both _ _ h).1 (both _ _ (rows_keep id)).1
