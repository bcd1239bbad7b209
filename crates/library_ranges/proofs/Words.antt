-- Raws, and lists of raws.
use Rattle.std.proofs.Common.{◌≡◌, ℕ, zero, suc, ℤ, pos, negsuc, neg_ℤ, unsigned_abs, refl, ◌^◌, ◌≤◌, List, [], ◌∷◌, Bool, true, false, if◌then◌else◌, arith}
use Rattle.std.specs.Prelude.{All}
use Rattle.std.specs.List.{AllByRecursion}
use Rattle.std.proofs.Math.Pow.{pow_mono}
use Rattle.std.proofs.lemmas.Int.{ints}
use Rattle.std.proofs.lemmas.List.Elements.{All-from_recursion, recursion_from_All}
use Rattle.fix_num.specs.Fixed.{IsRaw, max_raw, one}
use Rattle.table_lookup.specs.Tables.{entry}

-- ---- single raws

pub zero_raw : IsRaw (pos 0)
zero_raw = (omega (arith, ints), omega (arith, ints))

pub unit_raw : (F : ℕ) → F ≤ 40 → IsRaw (one F)
unit_raw F h = let p : 2 ^ F ≤ 2 ^ 40 = pow_mono {i = F} {j = 40} h in (omega (arith, ints), omega (arith, ints, p))

pub raw_of_size : (z : ℤ) → unsigned_abs z ≤ max_raw → IsRaw z
raw_of_size (pos n) h = (omega (arith, ints), omega (arith, ints))
raw_of_size (negsuc n) h = (omega (arith, ints), omega (arith, ints))

pub size_of_raw : (z : ℤ) → IsRaw z → unsigned_abs z ≤ max_raw
size_of_raw (pos n) h = omega (arith, ints)
size_of_raw (negsuc n) h = omega (arith, ints)

pub negated_size : (z : ℤ) → unsigned_abs (neg_ℤ z) ≡ unsigned_abs z
negated_size (pos zero) = refl
negated_size (pos (suc n)) = refl
negated_size (negsuc n) = refl

pub either_raw : (t : Bool) (x y : ℤ) → IsRaw x → IsRaw y → IsRaw (if t then x else y)
either_raw true x y h k = h
either_raw false x y h k = k

-- ---- lists

-- each word is a raw, by recursion on the words
abbrev pub Raws : List ℤ → Type 0
Raws ws = AllByRecursion IsRaw ws

pub to_all : (ws : List ℤ) → Raws ws → All IsRaw ws
to_all ws h = All-from_recursion IsRaw ws h

pub from_all : (ws : List ℤ) → All IsRaw ws → Raws ws
from_all ws h = recursion_from_All IsRaw ws h

pub entry_raw : (ws : List ℤ) (i : ℕ) → Raws ws → IsRaw (entry ws i)
entry_raw [] i h = zero_raw
entry_raw (w ∷ ws) zero h = h.0
entry_raw (w ∷ ws) (suc i) h = entry_raw ws i h.1

pub one_raw : (w : ℤ) → IsRaw w → All IsRaw (w ∷ [])
one_raw w h = to_all (w ∷ []) (h, tt)
