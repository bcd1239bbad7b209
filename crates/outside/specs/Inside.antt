-- How the files in memory are kept.
use Rattle.std.specs.Prelude.{◌≡◌, ℕ, ◌-◌, ◌^◌, ◌≤◌, ◌<◌, min, length, Option, Some, None, vec_len, vec_capacity}
use Rattle.std.specs.Option.{option_map}
use Rattle.std.specs.FinMap as map
use Rattle.outside.specs.MemBox.{BoxState}
use Rattle.outside.specs.declared.mem_box.Room.{Room}
use Rattle.outside.specs.declared.mem_box.MemBox.TheInside.{Inside}

-- The entries stand newest first, so the first of a name counts.
abbrev pub view_of : Inside → BoxState
view_of b = record {
  held = map.from_entries b.files.items;
  asked = b.asked.all;
  faults = b.faults;
  lost = b.lost;
  failing = b.failing.items;
  torn = b.torn;
  room = option_map (λ r. (r.name, r.most)) b.room;
}

-- The memory that is kept for a store suffices: for its bytes, and for one more entry.
abbrev pub RoomSuffices : ℕ → ℕ → Option Room → Type 0
RoomSuffices len capacity None = Unit {0}
RoomSuffices len capacity (Some r) = (len < capacity) × (vec_len r.bytes ≡ 0) × (r.most ≤ vec_capacity r.bytes)

-- Between calls that memory is there, and the count is that of the calls.
abbrev pub IsReady : Inside → Type 0
IsReady b = RoomSuffices (vec_len b.files) (vec_capacity b.files) b.room × (b.calls ≡ min (length b.asked.all) (2 ^ 32 - 1))
