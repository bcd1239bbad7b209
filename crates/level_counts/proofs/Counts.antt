-- The scalars of structs of which no more is told than the greatest number.
use Rattle.std.proofs.Common.{◌≡◌, ◌≤◌, ◌<◌, ℕ, zero, suc, ◌+◌, ◌*◌, min, List, [], ◌∷◌, ◌++◌, map, drop, length, get_or, ap, sym, ◌∙◌, refl, arith}
use Rattle.std.specs.Prelude.{sum_by}
use Rattle.std.proofs.lemmas.List.{drop_more, at_drop_all, map-append}
use Rattle.std.proofs.lemmas.List.Sums.{sum_by-cons}
use Rattle.ctl_types.specs.declared.shape.Base.{Base}
use Rattle.ctl_types.specs.declared.shape.Base.TheVariants as base
use Rattle.ctl_types.specs.declared.shape.Shape.{Shape}
use Rattle.ctl_types.specs.declared.program.Field.{Field}
use Rattle.ctl_types.specs.declared.program.Struct.{Struct}
use Rattle.ctl_types.specs.Shapes.{base_of, base_scalars, scalars_of, whole_of, product, struct_scalars, counts_after, struct_counts}
use Rattle.level_counts.specs.declared.value.Item.{Item}
use Rattle.level_counts.specs.declared.value.Item.TheVariants as item
use Rattle.level_counts.specs.declared.value.ValueShape.{ValueShape}
use Rattle.level_counts.specs.Told.{told, total}
use Rattle.level_counts.specs.Shapes.{item_of, item_scalars, scalars_in, stated_shape}
use Rattle.level_counts.proofs.Sums.{top, told_times}

-- the fields of a struct
abbrev field_scalars : List ℕ → Field → ℕ
field_scalars counts f = scalars_in counts (stated_shape f.shape)

item_is : (counts : List ℕ) (b : Base) → base_scalars counts b ≡ item_scalars counts (item_of b)
item_is counts (base.Scalar k) = refl
item_is counts (base.Struct n) = refl

field_is : (counts : List ℕ) (s : Shape) → scalars_of counts (whole_of s).sizes (base_of s) ≡ scalars_in counts (stated_shape s)
field_is counts s = ap (λ n. product (whole_of s).sizes * n) (item_is counts (base_of s))

fields_are : (counts : List ℕ) (fields : List Field) → sum_by (λ (f : Field). scalars_of counts (whole_of f.shape).sizes (base_of f.shape)) fields ≡ total (map (λ (f : Field). scalars_in counts (stated_shape f.shape)) fields)
fields_are counts [] = refl
fields_are counts (f ∷ fields) =
    sum_by-cons (λ (f : Field). scalars_of counts (whole_of f.shape).sizes (base_of f.shape)) f fields
    ∙ ap (λ n. n + sum_by (λ (f : Field). scalars_of counts (whole_of f.shape).sizes (base_of f.shape)) fields) (field_is counts f.shape)
    ∙ ap (λ n. field_scalars counts f + n) (fields_are counts fields)

pub struct_is : (counts : List ℕ) (s : Struct) → struct_scalars counts s ≡ total (map (λ (f : Field). scalars_in counts (stated_shape f.shape)) s.fields)
struct_is counts s = fields_are counts s.fields

-- ---- by counts as they are told

told_at : (counts : List ℕ) (n : ℕ) → get_or (map told counts) n 0 ≡ told (get_or counts n 0)
told_at [] n = refl
told_at (k ∷ counts) zero = refl
told_at (k ∷ counts) (suc n) = told_at counts n

item_told : (counts : List ℕ) (p : ℕ) (i : Item) → told (p * item_scalars (map told counts) i) ≡ told (p * item_scalars counts i)
item_told counts p item.Nothing = refl
item_told counts p item.Scalar = refl
item_told counts p (item.Struct n) = told_times p (get_or counts n 0) (get_or (map told counts) n 0) _ (told_at counts n) refl

pub scalars_told : (counts : List ℕ) (v : ValueShape) → told (scalars_in (map told counts) v) ≡ told (scalars_in counts v)
scalars_told counts v = item_told counts (product v.sizes) v.item

sums_told : (m a b c d : ℕ) → min a m ≡ min b m → min c m ≡ min d m → min (a + c) m ≡ min (b + d) m
sums_told m a b c d h k = grind arith

fields_told : (counts : List ℕ) (fields : List Field) → told (total (map (λ (f : Field). scalars_in (map told counts) (stated_shape f.shape)) fields)) ≡ told (total (map (λ (f : Field). scalars_in counts (stated_shape f.shape)) fields))
fields_told counts [] = refl
fields_told counts (f ∷ fields) = sums_told top (field_scalars (map told counts) f) (field_scalars counts f) _ _ (scalars_told counts (stated_shape f.shape)) (fields_told counts fields)

struct_told : (counts : List ℕ) (s : Struct) → told (struct_scalars (map told counts) s) ≡ told (struct_scalars counts s)
struct_told counts s = ap told (struct_is (map told counts) s) ∙ fields_told counts s.fields ∙ sym (ap told (struct_is counts s))

-- the scalars of each struct, told one after the other
abbrev pub told_after : List ℕ → List Struct → List ℕ
told_after counts [] = counts
told_after counts (s ∷ structs) = told_after (counts ++ told (struct_scalars counts s) ∷ []) structs

told_after_is : (counts : List ℕ) (structs : List Struct) → told_after (map told counts) structs ≡ map told (counts_after counts structs)
told_after_is counts [] = refl
told_after_is counts (s ∷ structs) =
    ap (λ n. told_after (map told counts ++ n ∷ []) structs) (struct_told counts s)
    ∙ sym (ap (λ l. told_after l structs) (map-append told counts (struct_scalars counts s ∷ [])))
    ∙ told_after_is (counts ++ struct_scalars counts s ∷ []) structs

pub structs_more : (structs : List Struct) (i : ℕ) (s : Struct) (counts new all : List ℕ) (n : ℕ) → i < length structs → s ≡ get_or structs i s → told_after counts (drop i structs) ≡ all → n ≡ told (struct_scalars counts s) → new ≡ counts ++ n ∷ [] → told_after new (drop (i + 1) structs) ≡ all
structs_more structs i s counts new all n l e h k a =
    ap (λ c. told_after c (drop (i + 1) structs)) (a ∙ ap (λ n. counts ++ n ∷ []) k)
    ∙ sym (ap (told_after counts) (drop_more structs i s l ∙ ap (λ y. y ∷ drop (i + 1) structs) (sym e))) ∙ h

pub structs_done : (structs : List Struct) (i : ℕ) (counts : List ℕ) → length structs ≤ i → told_after counts (drop i structs) ≡ told_after [] structs → counts ≡ map told (struct_counts structs)
structs_done structs i counts l h = sym (at_drop_all (told_after counts) structs i l) ∙ h ∙ told_after_is [] structs
