-- Rows that the code lists are the rows of the table.
use Rattle.std.proofs.Common.{◌≡◌, ℕ, ◌+◌, ◌-◌, ◌≤◌, List, ◌++◌, map, refl, sym, ap, ◌∙◌, append_assoc, arith}
use Rattle.std.specs.List.{flat_map, range_with_len}
use Rattle.std.proofs.lemmas.List.Concat.{flat_map-append}
use Rattle.std.proofs.lemmas.List.Folds.{flat_map-map}
use Rattle.byteorder.specs.Endian.{big_bytes}
use Rattle.dpx_file.specs.declared.header.FieldValue.{FieldValue}
use Rattle.dpx_file.specs.Writing.{Row, row_bytes, unused_element}
use Rattle.dpx_file.proofs.Lists.{flat_range_next}
use Rattle.dpx_file.specs.Rows.{plain, sized, bytes_of}

abbrev pair_bytes : ℕ × ℕ → List ℕ
pair_bytes p = big_bytes p.0 p.1

pub same_bytes : (fields : List FieldValue) (rows : List Row) → map plain fields ≡ map sized rows → flat_map bytes_of fields ≡ flat_map row_bytes rows
same_bytes fields rows e = sym (flat_map-map pair_bytes plain fields) ∙ ap (flat_map pair_bytes) e ∙ flat_map-map pair_bytes sized rows

-- rows are written after others
pub rows_more : (start old new : List ℕ) (fields : List FieldValue) (before rows : List Row)
    → map plain fields ≡ map sized rows → new ≡ old ++ flat_map bytes_of fields → old ≡ start ++ flat_map row_bytes before → new ≡ start ++ flat_map row_bytes (before ++ rows)
rows_more start old new fields before rows same e so_far =
    e ∙ ap (λ (l : List ℕ). old ++ l) (same_bytes fields rows same) ∙ ap (λ (l : List ℕ). l ++ flat_map row_bytes rows) so_far
    ∙ append_assoc start (flat_map row_bytes before) (flat_map row_bytes rows) ∙ ap (λ (l : List ℕ). start ++ l) (sym (flat_map-append row_bytes before rows))

-- rows whose bytes are known are written after others
pub bytes_more : (start old new : List ℕ) (before rows : List Row)
    → new ≡ old ++ flat_map row_bytes rows → old ≡ start ++ flat_map row_bytes before → new ≡ start ++ flat_map row_bytes (before ++ rows)
bytes_more start old new before rows e so_far =
    e ∙ ap (λ (l : List ℕ). l ++ flat_map row_bytes rows) so_far
    ∙ append_assoc start (flat_map row_bytes before) (flat_map row_bytes rows) ∙ ap (λ (l : List ℕ). start ++ l) (sym (flat_map-append row_bytes before rows))

-- unused elements have the same bytes
unused_bytes : (k : ℕ) → flat_map row_bytes (unused_element k) ≡ flat_map row_bytes (unused_element 1)
unused_bytes k = refl

-- one more unused element
pub element_more : (start old new : List ℕ) (fields : List FieldValue) (k : ℕ)
    → 1 ≤ k → map plain fields ≡ map sized (unused_element 1) → new ≡ old ++ flat_map bytes_of fields
    → old ≡ start ++ flat_map row_bytes (flat_map unused_element (range_with_len 1 (k - 1)))
    → new ≡ start ++ flat_map row_bytes (flat_map unused_element (range_with_len 1 (k + 1 - 1)))
element_more start old new fields k some same e so_far =
    let rows = flat_map unused_element (range_with_len 1 (k - 1)) in
    let n : k + 1 - 1 ≡ k - 1 + 1 = omega arith in
    let all : flat_map row_bytes (flat_map unused_element (range_with_len 1 (k - 1 + 1))) ≡ flat_map row_bytes (rows ++ unused_element 1) =
    ap (flat_map row_bytes) (flat_range_next unused_element 1 (k - 1)) ∙ flat_map-append row_bytes rows (unused_element (1 + (k - 1)))
    ∙ ap (λ (l : List ℕ). flat_map row_bytes rows ++ l) (unused_bytes (1 + (k - 1))) ∙ sym (flat_map-append row_bytes rows (unused_element 1)) in
    rw (n, all) (rows_more start old new fields rows (unused_element 1) same e so_far)
