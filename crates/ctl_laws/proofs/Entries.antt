-- Entries.
use Rattle.std.proofs.Common.{◌≡◌, ℕ, ◌+◌, List, [], ◌∷◌, ◌++◌, map, length, Option, Some, None, is_some, Bool, true, false, ◌&&◌, ◌||◌, ◌==◌, if◌then◌else◌, nat_le, refl, sym, ap, subst, ◌∙◌, arith, eqb-true, le-leb}
use Rattle.std.proofs.lemmas.List.{append_assoc, append-nil, length-append}
use Rattle.std.proofs.lemmas.List.Sums.{sum_by-cons}
use Rattle.std.specs.Prelude.{get_or}
use Rattle.ctl_base.specs.declared.limits.TheConstants.{SCALARS, ARRAY_SIZE}
use Rattle.ctl_types.specs.declared.shape.Size.{Size}
use Rattle.ctl_types.specs.declared.shape.Size.TheVariants as size
use Rattle.ctl_types.specs.declared.shape.Extent.{Extent}
use Rattle.ctl_types.specs.declared.shape.Extent.TheVariants as extent
use Rattle.ctl_types.specs.declared.shape.Shape.{Shape}
use Rattle.ctl_types.specs.declared.program.Struct.{Struct as StructForm}
use Rattle.ctl_types.specs.declared.program.Parameter.{Parameter}
use Rattle.ctl_types.specs.declared.value.Value.{Value}
use Rattle.ctl_types.specs.Shapes.{Whole, whole, whole_of, local, numbered, size_in, extents, base_of, open_count, open_sizes_of, struct_counts}
use Rattle.ctl_types.specs.Values.{Env, fits, scalars, sizes_fit, part_of, sizes_at, open_sizes, argument_fits, arguments_fit, zero_of, struct_zeros}
use Rattle.ctl_types.specs.Typing.{are_stated, sizes_stand, base_stands, shape_stands, node_stands, Scene, formals_from}
use Rattle.ctl_types.specs.Scoping.{default_stands, parameters_stand}
use Rattle.ctl_types.specs.Run.{value_or, also, with_output, first_output, first_frame, outputs_of}
use Rattle.ctl_laws.specs.Sound.{Of, has_first, inputs_fit, output_shape, outputs_among, OutputsFit}
use Rattle.ctl_laws.proofs.Values.{both, and_true, shape}
use Rattle.ctl_laws.proofs.Ranges.{Numbers}
use Rattle.ctl_laws.proofs.Around.{formal_shapes, Begins, Counts, ZerosFit}
use Rattle.ctl_laws.proofs.Initialisers.{base_fits, zero_fits, known_struct, stated_small}

-- ---- open sizes by their numbers

-- extents as sizes, where these are the open ones
abbrev sizes_of : List ℕ → List Extent → List ℕ
sizes_of own [] = []
sizes_of own (extent.Stated n ∷ xs) = n ∷ sizes_of own xs
sizes_of [] (extent.Unstated ∷ xs) = 0 ∷ sizes_of [] xs
sizes_of (m ∷ own) (extent.Unstated ∷ xs) = m ∷ sizes_of own xs

get_here : (pre : List ℕ) (m : ℕ) (rest : List ℕ) → get_or (pre ++ m ∷ rest) (length pre) 0 ≡ m
get_here [] m rest = refl
get_here (p ∷ pre) m rest = get_here pre m rest

numbered_own : (xs : List Extent) (pre own post : List ℕ) (k : ℕ) → k ≡ length pre → length own ≡ open_count xs → map (size_in (pre ++ (own ++ post))) (numbered k xs) ≡ sizes_of own xs
numbered_own [] pre own post k e l = refl
numbered_own (extent.Stated n ∷ xs) pre own post k e l = ap (λ rest. n ∷ rest) (numbered_own xs pre own post k e l)
numbered_own (extent.Unstated ∷ xs) pre [] post k e l = absurd (omega arith)
numbered_own (extent.Unstated ∷ xs) pre (m ∷ own) post k e l =
    let first : get_or (pre ++ (m ∷ (own ++ post))) k 0 ≡ m = ap (λ k. get_or (pre ++ (m ∷ (own ++ post))) k 0) e ∙ get_here pre m (own ++ post) in
    let same : (pre ++ m ∷ []) ++ (own ++ post) ≡ pre ++ (m ∷ (own ++ post)) = append_assoc pre (m ∷ []) (own ++ post) in
    let long : length (pre ++ m ∷ []) ≡ length pre + 1 = length-append pre (m ∷ []) in
    let rest = numbered_own xs (pre ++ m ∷ []) own post (k + 1) (omega arith) (omega arith) in
    ap (λ n. n ∷ map (size_in (pre ++ (m ∷ (own ++ post)))) (numbered (k + 1) xs)) first ∙ ap (λ rest. m ∷ rest) (ap (λ opens. map (size_in opens) (numbered (k + 1) xs)) (sym same) ∙ rest)

alone : (xs : List Extent) (own : List ℕ) → length own ≡ open_count xs → map (size_in own) (numbered 0 xs) ≡ sizes_of own xs
alone xs own l = ap (λ opens. map (size_in opens) (numbered 0 xs)) (sym (append-nil own)) ∙ numbered_own xs [] own [] 0 refl l

sizes_count : (xs : List Extent) (v : Option Value) → length (sizes_at xs v) ≡ open_count xs
sizes_count [] v = refl
sizes_count (extent.Stated n ∷ xs) v = sizes_count xs (part_of v 0)
sizes_count (extent.Unstated ∷ xs) v = let z = sizes_count xs (part_of v 0) in omega arith

no_sizes : (xs : List Extent) (v : Option Value) → open_count xs ≡ 0 → sizes_at xs v ≡ []
no_sizes [] v e = refl
no_sizes (extent.Stated n ∷ xs) v e = no_sizes xs (part_of v 0) e
no_sizes (extent.Unstated ∷ xs) v e = absurd (omega arith)

stated : (k : ℕ) (xs : List Extent) → open_count xs ≡ 0 → are_stated (numbered k xs) ≡ true
stated k [] e = refl
stated k (extent.Stated n ∷ xs) e = stated k xs e
stated k (extent.Unstated ∷ xs) e = absurd (omega arith)

unnumbered : (k l : ℕ) (xs : List Extent) → open_count xs ≡ 0 → numbered k xs ≡ numbered l xs
unnumbered k l [] e = refl
unnumbered k l (extent.Stated n ∷ xs) e = ap (λ rest. size.Stated n ∷ rest) (unnumbered k l xs e)
unnumbered k l (extent.Unstated ∷ xs) e = absurd (omega arith)

sizes_join : (a b : List ℕ) → sizes_fit a ≡ true → sizes_fit b ≡ true → sizes_fit (a ++ b) ≡ true
sizes_join [] b h j = j
sizes_join (n ∷ a) b h j = let c = both (nat_le 1 n && nat_le n ARRAY_SIZE) _ h in and_true (nat_le 1 n && nat_le n ARRAY_SIZE) _ c.0 (sizes_join a b c.1 j)

-- ---- the first frame

-- each parameter has a value of its shape with its own sizes; that of an output is its first one
abbrev pub FirstFits : List StructForm → List Parameter → Env → Type 0
FirstFits structs [] [] = Unit {0}
FirstFits structs [] (o ∷ frame) = ⊥
FirstFits structs (q ∷ ps) [] = ⊥
FirstFits structs (q ∷ ps) (None ∷ frame) = ⊥
FirstFits structs (q ∷ ps) (Some v ∷ frame) = ((default_stands structs q.shape (Some v) ≡ true) × (q.is_output ≡ true → first_output structs q ≡ v)) × FirstFits structs ps frame

module _ (numbers : Numbers) (s : Scene) (counts : Counts s.structs) (counted : s.counts ≡ struct_counts s.structs) (zeros : ZerosFit s.structs) where
  zero_stands : (k : ℕ) (m : Shape) → open_count (extents m) ≡ 0 → shape_stands s (local k m) ≡ true → default_stands s.structs m (Some (zero_of (struct_zeros s.structs) (whole_of m).sizes (base_of m))) ≡ true
  zero_stands k m e w =
      let xs = extents m in
      let z = zero_of (struct_zeros s.structs) (whole_of m).sizes (base_of m) in
      let b = (both (sizes_stand s (local k m).sizes) _ (both (sizes_stand s (local k m).sizes && base_stands s (base_of m)) _ w).0).1 in
      let f = zero_fits s.structs (struct_zeros s.structs) (whole_of m).sizes (base_of m) (base_fits numbers s.structs (struct_zeros s.structs) (length s.structs) zeros (base_of m) (known_struct s (base_of m) b)) in
      let n : sizes_at xs (Some z) ≡ [] = no_sizes xs (Some z) e in
      let g : fits s.structs z (map (size_in []) (numbered k xs)) (Some (base_of m)) ≡ true = subst (λ (sizes : List Size). fits s.structs z (map (size_in []) sizes) (Some (base_of m)) ≡ true) (unnumbered 0 k xs e) f in
      let few = stated_small s [] counts counted (local k m) z w (stated k xs e) g in
      subst (λ (sizes : List ℕ). ((sizes_fit sizes && nat_le (scalars z) SCALARS) && fits s.structs z (map (size_in sizes) (numbered 0 xs)) (Some (base_of m))) ≡ true) (sym n) (and_true (nat_le (scalars z) SCALARS) _ (le-leb _ _ few) f)

  first_stands : (k : ℕ) (q : Parameter) (o : Option Value) → q.default ≡ o → (is_some o || open_count (extents q.shape) == 0) ≡ true → shape_stands s (local k q.shape) ≡ true → default_stands s.structs q.shape o ≡ true → default_stands s.structs q.shape (Some (value_or (zero_of (struct_zeros s.structs) (whole_of q.shape).sizes (base_of q.shape)) o)) ≡ true
  first_stands k q (Some v) e h w d = d
  first_stands k q None e h w d = zero_stands k q.shape (eqb-true _ _ h) w

  abbrev pub Begun : List Parameter → List Value → Type 0
  Begun ps inputs = (frame : Env) × (first_frame s.structs ps inputs ≡ Some frame) × FirstFits s.structs ps frame

  output_begun : (q : Parameter) (ps : List Parameter) (o : Option Env) → default_stands s.structs q.shape (Some (first_output s.structs q)) ≡ true → ((frame : Env) × (o ≡ Some frame) × FirstFits s.structs ps frame) → (frame : Env) × (also (first_output s.structs q) o ≡ Some frame) × FirstFits s.structs (q ∷ ps) frame
  output_begun q ps o d b = (Some (first_output s.structs q) ∷ b.0, ap (also (first_output s.structs q)) b.1, ((d, λ e. refl), b.2))

  input_begun : (q : Parameter) (v : Value) (ps : List Parameter) (o : Option Env) → q.is_output ≡ false → default_stands s.structs q.shape (Some v) ≡ true → ((frame : Env) × (o ≡ Some frame) × FirstFits s.structs ps frame) → (frame : Env) × (also v o ≡ Some frame) × FirstFits s.structs (q ∷ ps) frame
  input_begun q v ps o n d b = (Some v ∷ b.0, ap (also v) b.1, ((d, λ e. absurd (let z : false ≡ true = sym n ∙ e in cc)), b.2))

  pub begun : (k : ℕ) (ps : List Parameter) (inputs : List Value) → parameters_stand s (formals_from k ps) ps ≡ true → inputs_fit s.structs ps inputs ≡ true → Begun ps inputs
  begun k [] [] w f = ([], refl, tt)
  begun k [] (v ∷ inputs) w f = absurd (cc)
  begun k (q ∷ ps) inputs w f =
      let b = both ((shape_stands s (local k q.shape) && default_stands s.structs q.shape q.default) && node_stands s q.node) _ w in
      let c = both (shape_stands s (local k q.shape) && default_stands s.structs q.shape q.default) _ b.0 in
      let d = both (shape_stands s (local k q.shape)) _ c.0 in
      by inputs f q.is_output refl (λ h. first_stands k q q.default refl h d.0 d.1) (λ inputs f. begun (k + open_count (extents q.shape)) ps inputs b.1 f) where
        by : (inputs : List Value) → inputs_fit s.structs (q ∷ ps) inputs ≡ true → (t : Bool) → q.is_output ≡ t → (has_first q ≡ true → default_stands s.structs q.shape (Some (first_output s.structs q)) ≡ true) → ((inputs : List Value) → inputs_fit s.structs ps inputs ≡ true → Begun ps inputs) → Begun (q ∷ ps) inputs
        by [] f true e first rest =
            let g : (true && (has_first q && inputs_fit s.structs ps [])) ≡ true = subst (λ (t : Bool). (t && (has_first q && inputs_fit s.structs ps [])) ≡ true) e f in
            let h = both (has_first q) _ g in
            subst (λ (t : Bool). (frame : Env) × ((if t then also (first_output s.structs q) (first_frame s.structs ps []) else None) ≡ Some frame) × FirstFits s.structs (q ∷ ps) frame) (sym e) (output_begun q ps (first_frame s.structs ps []) (first h.0) (rest [] h.1))
        by [] f false e first rest = absurd (let g : (false && (has_first q && inputs_fit s.structs ps [])) ≡ true = subst (λ (t : Bool). (t && (has_first q && inputs_fit s.structs ps [])) ≡ true) e f in cc)
        by (v ∷ inputs) f true e first rest =
            let g : (has_first q && inputs_fit s.structs ps (v ∷ inputs)) ≡ true = subst (λ (t : Bool). (if t then has_first q && inputs_fit s.structs ps (v ∷ inputs) else default_stands s.structs q.shape (Some v) && inputs_fit s.structs ps inputs) ≡ true) e f in
            let h = both (has_first q) _ g in
            subst (λ (t : Bool). (frame : Env) × ((if t then also (first_output s.structs q) (first_frame s.structs ps (v ∷ inputs)) else also v (first_frame s.structs ps inputs)) ≡ Some frame) × FirstFits s.structs (q ∷ ps) frame) (sym e) (output_begun q ps (first_frame s.structs ps (v ∷ inputs)) (first h.0) (rest (v ∷ inputs) h.1))
        by (v ∷ inputs) f false e first rest =
            let g : (default_stands s.structs q.shape (Some v) && inputs_fit s.structs ps inputs) ≡ true = subst (λ (t : Bool). (if t then has_first q && inputs_fit s.structs ps (v ∷ inputs) else default_stands s.structs q.shape (Some v) && inputs_fit s.structs ps inputs) ≡ true) e f in
            let h = both (default_stands s.structs q.shape (Some v)) _ g in
            subst (λ (t : Bool). (frame : Env) × ((if t then also (first_output s.structs q) (first_frame s.structs ps (v ∷ inputs)) else also v (first_frame s.structs ps inputs)) ≡ Some frame) × FirstFits s.structs (q ∷ ps) frame) (sym e) (input_begun q v ps (first_frame s.structs ps inputs) e h.0 (rest inputs h.1))

-- ---- what the frame gives

abbrev pub shapes_of : List Parameter → List Shape
shapes_of = map (λ (q : Parameter). q.shape)

pub frame_count : (structs : List StructForm) (ps : List Parameter) (frame : Env) → FirstFits structs ps frame → length (open_sizes (shapes_of ps) frame) ≡ open_sizes_of (shapes_of ps)
frame_count structs [] [] f = refl
frame_count structs [] (o ∷ frame) f = absurd f
frame_count structs (q ∷ ps) [] f = absurd f
frame_count structs (q ∷ ps) (None ∷ frame) f = absurd f
frame_count structs (q ∷ ps) (Some v ∷ frame) f =
    length-append (sizes_at (extents q.shape) (Some v)) (open_sizes (shapes_of ps) frame) ∙ ap (λ n. n + length (open_sizes (shapes_of ps) frame)) (sizes_count (extents q.shape) (Some v)) ∙ ap (λ n. open_count (extents q.shape) + n) (frame_count structs ps frame f.1) ∙ sym (sum_by-cons (λ (s : Shape). open_count (extents s)) q.shape (shapes_of ps))

pub frame_sizes : (structs : List StructForm) (ps : List Parameter) (frame : Env) → FirstFits structs ps frame → sizes_fit (open_sizes (shapes_of ps) frame) ≡ true
frame_sizes structs [] [] f = refl
frame_sizes structs [] (o ∷ frame) f = absurd f
frame_sizes structs (q ∷ ps) [] f = absurd f
frame_sizes structs (q ∷ ps) (None ∷ frame) f = absurd f
frame_sizes structs (q ∷ ps) (Some v ∷ frame) f =
    let b = both (sizes_fit (sizes_at (extents q.shape) (Some v)) && nat_le (scalars v) SCALARS) _ f.0.0 in
    let c = both (sizes_fit (sizes_at (extents q.shape) (Some v))) _ b.0 in
    sizes_join (sizes_at (extents q.shape) (Some v)) (open_sizes (shapes_of ps) frame) c.0 (frame_sizes structs ps frame f.1)

-- the shape of a parameter by the sizes of the call is that by its own
own_shape : (m : Shape) (v : Value) (pre post : List ℕ) (k : ℕ) → k ≡ length pre → whole (pre ++ (sizes_at (extents m) (Some v) ++ post)) (local k m).sizes (Some (base_of m)) ≡ whole (sizes_at (extents m) (Some v)) (local 0 m).sizes (Some (base_of m))
own_shape m v pre post k e =
    let l = sizes_count (extents m) (Some v) in
    ap (λ sizes. shape sizes (Some (base_of m))) (numbered_own (extents m) pre (sizes_at (extents m) (Some v)) post k e l ∙ sym (alone (extents m) (sizes_at (extents m) (Some v)) l))

next_number : (m : Shape) (v : Value) (pre : List ℕ) (k : ℕ) → k ≡ length pre → k + open_count (extents m) ≡ length (pre ++ sizes_at (extents m) (Some v))
next_number m v pre k e = let a = length-append pre (sizes_at (extents m) (Some v)) in let b = sizes_count (extents m) (Some v) in omega arith

pub frame_fits : (structs : List StructForm) (ps : List Parameter) (frame : Env) (opens pre : List ℕ) (k : ℕ) → FirstFits structs ps frame → k ≡ length pre → opens ≡ pre ++ open_sizes (shapes_of ps) frame → arguments_fit structs opens (formal_shapes (formals_from k ps)) frame ≡ true
frame_fits structs [] [] opens pre k f e is = refl
frame_fits structs [] (o ∷ frame) opens pre k f e is = absurd f
frame_fits structs (q ∷ ps) [] opens pre k f e is = absurd f
frame_fits structs (q ∷ ps) (None ∷ frame) opens pre k f e is = absurd f
frame_fits structs (q ∷ ps) (Some v ∷ frame) opens pre k f e is =
    let own = sizes_at (extents q.shape) (Some v) in
    let b = both (sizes_fit own && nat_le (scalars v) SCALARS) _ f.0.0 in
    let c = both (sizes_fit own) _ b.0 in
    let same : whole own (local 0 q.shape).sizes (Some (base_of q.shape)) ≡ whole opens (local k q.shape).sizes (Some (base_of q.shape)) = sym (own_shape q.shape v pre (open_sizes (shapes_of ps) frame) k e) ∙ ap (λ opens. whole opens (local k q.shape).sizes (Some (base_of q.shape))) (sym is) in
    and_true (argument_fits structs opens (local k q.shape) v) _ (and_true (fits structs v (whole opens (local k q.shape).sizes (Some (base_of q.shape))).sizes (Some (base_of q.shape))) _ (subst (λ (w : Whole). fits structs v w.sizes w.base ≡ true) same b.1) c.1) (frame_fits structs ps frame opens (pre ++ own) (k + open_count (extents q.shape)) f.1 (next_number q.shape v pre k e) (is ∙ sym (append_assoc pre own (open_sizes (shapes_of ps) frame))))

-- the outputs at the end
pub outputs_fit : (structs : List StructForm) (ps : List Parameter) (frame last : Env) (opens pre : List ℕ) (k : ℕ) → FirstFits structs ps frame → k ≡ length pre → opens ≡ pre ++ open_sizes (shapes_of ps) frame → Begins structs opens (formals_from k ps) last → (outputs : List Value) × (outputs_of ps last ≡ Some outputs) × OutputsFit structs (outputs_among ps) outputs
outputs_fit structs [] [] last opens pre k f e is b = ([], refl, tt)
outputs_fit structs [] (o ∷ frame) last opens pre k f e is b = absurd f
outputs_fit structs (q ∷ ps) [] last opens pre k f e is b = absurd f
outputs_fit structs (q ∷ ps) (None ∷ frame) last opens pre k f e is b = absurd f
outputs_fit structs (q ∷ ps) (Some v ∷ frame) [] opens pre k f e is b = absurd b
outputs_fit structs (q ∷ ps) (Some v ∷ frame) (None ∷ last) opens pre k f e is b = absurd b
outputs_fit structs (q ∷ ps) (Some v ∷ frame) (Some u ∷ last) opens pre k f e is b =
    let own = sizes_at (extents q.shape) (Some v) in
    let same : whole opens (local k q.shape).sizes (Some (base_of q.shape)) ≡ whole own (local 0 q.shape).sizes (Some (base_of q.shape)) = ap (λ opens. whole opens (local k q.shape).sizes (Some (base_of q.shape))) is ∙ own_shape q.shape v pre (open_sizes (shapes_of ps) frame) k e in
    let rest = outputs_fit structs ps frame last opens (pre ++ own) (k + open_count (extents q.shape)) f.1 (next_number q.shape v pre k e) (is ∙ sym (append_assoc pre own (open_sizes (shapes_of ps) frame))) b.1 in
    by q.is_output refl rest (subst (λ (w : Whole). Of structs w u) same b.0) where
      by : (t : Bool) → q.is_output ≡ t → ((outputs : List Value) × (outputs_of ps last ≡ Some outputs) × OutputsFit structs (outputs_among ps) outputs) → Of structs (whole (sizes_at (extents q.shape) (Some v)) (local 0 q.shape).sizes (Some (base_of q.shape))) u → (outputs : List Value) × (outputs_of (q ∷ ps) (Some u ∷ last) ≡ Some outputs) × OutputsFit structs (outputs_among (q ∷ ps)) outputs
      by true t rest o =
          let first = f.0.1 t in
          let o2 : Of structs (output_shape structs q) u = subst (λ (v : Value). Of structs (whole (sizes_at (extents q.shape) (Some v)) (local 0 q.shape).sizes (Some (base_of q.shape))) u) (sym first) o in
          subst (λ (t : Bool). (outputs : List Value) × ((if t then with_output (Some u) (outputs_of ps last) else outputs_of ps last) ≡ Some outputs) × OutputsFit structs (if t then q ∷ outputs_among ps else outputs_among ps) outputs) (sym t) (u ∷ rest.0, ap (with_output (Some u)) rest.1, (o2, rest.2))
      by false t rest o = subst (λ (t : Bool). (outputs : List Value) × ((if t then with_output (Some u) (outputs_of ps last) else outputs_of ps last) ≡ Some outputs) × OutputsFit structs (if t then q ∷ outputs_among ps else outputs_among ps) outputs) (sym t) rest
