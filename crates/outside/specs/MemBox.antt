-- What files in memory are seen as.
use Rattle.std.specs.Prelude.{◌≡◌, ℕ, ◌+◌, ◌-◌, ◌^◌, ◌≤◌, min, List, [], ◌∷◌, ◌++◌, length, take, Option, Some, None, Bool, true, false, cond, ◌||◌, ◌&&◌, not, nat_eq, nat_le}
use Rattle.std.specs.Cmp.Lexicographic.{pointwise}
use Rattle.std.specs.List.{list_any}
use Rattle.std.specs.FinMap as map
use Rattle.outside.specs.Calls.{FileCall, FileCallKind, Store, file_call}
use Rattle.outside.specs.Causes.{raised, counted}
use Rattle.outside.specs.Files.{Held}

-- What is held, the calls so far, how often a fetch or a look has failed and how often a store, the numbers of the calls that fail,
-- how many bytes a failing store leaves, and the room for one store: its name and the most bytes.
pub record BoxState : Type 0 where
  pub held : Held
  pub asked : List FileCall
  pub faults : ℕ
  pub lost : ℕ
  pub failing : List ℕ
  pub torn : ℕ
  pub room : Option (List ℕ × ℕ)

-- The number of a call before which so many were made: calls are counted from 1, and the count stops at 2^32 - 1.
abbrev pub next_number : ℕ → ℕ
next_number made = min (made + 1) (2 ^ 32 - 1)

-- Whether the list says that the next call fails.
abbrev pub fails_next : BoxState → Bool
fails_next b = list_any (λ n. nat_eq n (next_number (length b.asked))) b.failing

-- Whether there is room to store so many bytes under the name: some room, for this very name, and for as many bytes.
abbrev pub has_room : Option (List ℕ × ℕ) → List ℕ → ℕ → Bool
has_room None name n = false
has_room (Some room) name n = pointwise nat_eq name room.0 && nat_le n room.1

-- After a fetch or a look at a name: the call is one more, and a failure is counted.
abbrev pub looked : BoxState → FileCallKind → List ℕ → BoxState
looked b kind name = record b { asked = b.asked ++ file_call kind name (fails_next b) ∷ []; faults = counted (fails_next b) b.faults }

-- Whether a store of so many bytes fails.
abbrev pub store_fails : BoxState → List ℕ → ℕ → Bool
store_fails b name n = fails_next b || not (has_room b.room name n)

-- After a store. Where there is room, it is used up, and the name holds the bytes, or by a failing call as many of them as the box says. Where there is none, nothing is stored.
abbrev pub stored : BoxState → List ℕ → List ℕ → BoxState
stored b name bytes =
    let fails = fails_next b in
    cond (has_room b.room name (length bytes))
    (record b { asked = b.asked ++ file_call Store name fails ∷ []; room = None; lost = counted fails b.lost; held = map.insert b.held name (cond fails (take b.torn bytes) bytes) })
    (record b { asked = b.asked ++ file_call Store name true ∷ []; lost = raised b.lost })

-- No call fails from here on, where one store follows, of at most so many bytes under the name: no call is listed as failing, and there is room for as many bytes under this name.
abbrev pub Serves : BoxState → List ℕ → ℕ → Type 0
Serves b name n = (b.failing ≡ []) × ((most : ℕ) × (b.room ≡ Some (name, most)) × (n ≤ most))
