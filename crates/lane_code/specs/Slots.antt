-- Slots and the words in them. What stands in no slot is 0, and is set by nothing.
use Rattle.std.specs.Prelude.{ℕ, zero, suc, ◌+◌, ℤ, pos, Bool, true, false, List, [], ◌∷◌, get_or, slice_set}
use Rattle.lane_code.specs.declared.instr.Slot.{Slot}
use Rattle.lane_code.specs.declared.instr.Slot.TheVariants.{Varying, Uniform}

-- the words that one lane sees: its own, and those that all lanes share
pub record Words : Type 0 where
  pub own : List ℤ
  pub shared : List ℤ

abbrev pub is_uniform : Slot → Bool
is_uniform (Varying k) = false
is_uniform (Uniform k) = true

-- the slot that is n further on
abbrev pub shifted : Slot → ℕ → Slot
shifted (Varying k) n = Varying (k + n)
shifted (Uniform k) n = Uniform (k + n)

abbrev pub word_in : Words → Slot → ℤ
word_in ws (Varying k) = get_or ws.own k (pos 0)
word_in ws (Uniform k) = get_or ws.shared k (pos 0)

-- n words from a slot on
abbrev pub words_from : Words → Slot → ℕ → List ℤ
words_from ws s zero = []
words_from ws s (suc n) = word_in ws s ∷ words_from ws (shifted s 1) n

abbrev pub set_own : Slot → ℤ → List ℤ → List ℤ
set_own (Varying k) w words = slice_set words k w
set_own (Uniform k) w words = words

abbrev pub set_shared : Slot → ℤ → List ℤ → List ℤ
set_shared (Varying k) w words = words
set_shared (Uniform k) w words = slice_set words k w

-- one word is set
abbrev pub put : Slot → ℤ → Words → Words
put s w ws = record { own = set_own s w ws.own; shared = set_shared s w ws.shared }

-- words are set from a slot on
abbrev pub put_all : Slot → List ℤ → Words → Words
put_all s [] ws = ws
put_all s (w ∷ more) ws = put_all (shifted s 1) more (put s w ws)

-- n words are moved one after the other, from the first, also where the slots overlap
abbrev pub moved : ℕ → Slot → Slot → Words → Words
moved zero dst src ws = ws
moved (suc n) dst src ws = moved n (shifted dst 1) (shifted src 1) (put dst (word_in ws src) ws)

-- the number of a slot
abbrev pub first_of : Slot → ℕ
first_of (Varying k) = k
first_of (Uniform k) = k
