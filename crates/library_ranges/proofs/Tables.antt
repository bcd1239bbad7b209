-- What look-ups and the matrices of colour give are raws.
use Rattle.std.proofs.Common.{ℕ, zero, suc, ℤ, ◌-◌, ◌≤◌, ◌==◌, List, [], ◌∷◌, length}
use Rattle.std.specs.Prelude.{All, int_le}
use Rattle.fix_num.specs.Fixed.{IsRaw, SaturationClamps}
use Rattle.table_lookup.specs.Between.{Segment, mix, axis, hermite}
use Rattle.table_lookup.specs.Tables.{entry, lookup1, curve_at, lookup_cubic1, Pair, pairs, pair, last_pair, mix_from, curve_from, interval, interp1, interp_cubic1, along_first}
use Rattle.ctl_stdlib.specs.Values.{line_of, curve_of, pair_line_of, pair_curve_of, at_point, to_xyz, to_rgb}
use Rattle.library_ranges.specs.Ranges.{VectorsStayInRange, TablesStayInRange}
use Rattle.library_ranges.proofs.Words.{Raws, to_all, from_all, zero_raw, unit_raw, either_raw, entry_raw}

-- ---- pairs

-- the y of each pair is a raw
abbrev Heights : List Pair → Type 0
Heights [] = Unit {0}
Heights (e ∷ es) = IsRaw e.y × Heights es

pairs_raw : (table : List ℤ) → Raws table → Heights (pairs table)
pairs_raw [] h = tt
pairs_raw (x ∷ []) h = tt
pairs_raw (x ∷ y ∷ table) h = (h.1.0, pairs_raw table h.1.1)

pair_raw : (es : List Pair) (i : ℕ) → Heights es → IsRaw (pair es i).y
pair_raw [] i h = zero_raw
pair_raw (e ∷ es) zero h = h.0
pair_raw (e ∷ es) (suc i) h = pair_raw es i h.1

module _ (clamps : SaturationClamps) (F : ℕ) (f : F ≤ 40) where
  mix_raw : (a b part : ℤ) → IsRaw (mix F a b part)
  unfolding mix
  mix_raw a b part = (clamps _).raw

  hermite_raw : (a b m0 m1 part : ℤ) → IsRaw (hermite F a b m0 m1 part)
  unfolding hermite
  hermite_raw a b m0 m1 part = (clamps _).raw

  -- ---- entries that are spread evenly

  line_raw : (table args : List ℤ) → IsRaw (line_of F table args)
  unfolding line_of lookup1
  line_raw table args = mix_raw _ _ _

  curve_at_raw : (table : List ℤ) (a : Segment) → Raws table → IsRaw (curve_at F table a)
  curve_at_raw table a h = either_raw (a.low == a.high) _ _ (entry_raw table 0 h) (hermite_raw _ _ _ _ _)

  curve_raw : (table args : List ℤ) → All IsRaw table → IsRaw (curve_of F table args)
  unfolding curve_of lookup_cubic1
  curve_raw table args h = curve_at_raw table (axis F (length table) (entry args 0) (entry args 1) (entry args 2)) (from_all table h)

  -- ---- pairs

  mix_from_raw : (es : List Pair) (p : ℤ) (i : ℕ) → IsRaw (mix_from F es p i)
  unfolding mix_from
  mix_from_raw es p i = mix_raw _ _ _

  curve_from_raw : (es : List Pair) (p : ℤ) (i : ℕ) → IsRaw (curve_from F es p i)
  unfolding curve_from
  curve_from_raw es p i = hermite_raw _ _ _ _ _

  interp1_raw : (es : List Pair) (p : ℤ) → Heights es → IsRaw (interp1 F es p)
  unfolding interp1
  interp1_raw es p h =
      either_raw (int_le p (pair es 0).x) _ _ (pair_raw es 0 h)
      (either_raw (int_le (last_pair es).x p) _ _ (pair_raw es (length es - 1) h) (mix_from_raw es p (interval es p)))

  interp_cubic1_raw : (es : List Pair) (p : ℤ) → Heights es → IsRaw (interp_cubic1 F es p)
  unfolding interp_cubic1
  interp_cubic1_raw es p h =
      either_raw (int_le p (pair es 0).x) _ _ (pair_raw es 0 h)
      (either_raw (int_le (last_pair es).x p) _ _ (pair_raw es (length es - 1) h) (curve_from_raw es p (interval es p)))

  pair_line_raw : (table args : List ℤ) → All IsRaw table → IsRaw (pair_line_of F table args)
  unfolding pair_line_of
  pair_line_raw table args h = interp1_raw (pairs table) (entry args 0) (pairs_raw table (from_all table h))

  pair_curve_raw : (table args : List ℤ) → All IsRaw table → IsRaw (pair_curve_of F table args)
  unfolding pair_curve_of
  pair_curve_raw table args h = interp_cubic1_raw (pairs table) (entry args 0) (pairs_raw table (from_all table h))

  -- ---- triples in three indices

  along_first_raw : (g : ℕ → ℕ → ℕ → ℤ) (first middle last : Segment) → IsRaw (along_first F g first middle last)
  unfolding along_first
  along_first_raw g first middle last = mix_raw _ _ _

  at_point_raw : (sizes : List ℕ) (table args : List ℤ) → Raws (at_point F sizes table args)
  unfolding at_point
  at_point_raw sizes table args = (along_first_raw _ _ _ _, (along_first_raw _ _ _ _, (along_first_raw _ _ _ _, tt)))

  -- ---- colour

  to_xyz_raw : (args : List ℤ) → Raws (to_xyz F args)
  unfolding to_xyz
  to_xyz_raw args = ((clamps _).raw, ((clamps _).raw, ((clamps _).raw, (zero_raw, ((clamps _).raw, ((clamps _).raw, ((clamps _).raw, (zero_raw, ((clamps _).raw, ((clamps _).raw, ((clamps _).raw, (zero_raw, (zero_raw, (zero_raw, (zero_raw, (unit_raw F f, tt))))))))))))))))

  to_rgb_raw : VectorsStayInRange → (args : List ℤ) → All IsRaw (to_rgb F args)
  unfolding to_rgb
  to_rgb_raw vectors args = (vectors F f).inverse_4 (to_xyz F args)

pub tables_law : SaturationClamps → VectorsStayInRange → TablesStayInRange
tables_law clamps vectors F f =
    record {
      line = line_raw clamps F f;
      curve = curve_raw clamps F f;
      pair_line = pair_line_raw clamps F f;
      pair_curve = pair_curve_raw clamps F f;
      lattice = λ sizes table args. to_all (at_point F sizes table args) (at_point_raw clamps F f sizes table args);
      xyz = λ args. to_all (to_xyz F args) (to_xyz_raw clamps F f args);
      rgb = to_rgb_raw clamps F f vectors;
    }
