-- What the run of a lane shows: its cost as far as it is counted.
use Rattle.std.specs.Prelude.{◌-◌, ◌^◌, min, List, Bool, true, false}
use Rattle.std.specs.List.{list_all}
use Rattle.lane_code.specs.declared.instr.Instr.{Instr}
use Rattle.lane_code.specs.declared.valid.Numbers.{Numbers}
use Rattle.lane_code.specs.declared.end.LaneEnd.{LaneEnd}
use Rattle.lane_code.specs.declared.end.LaneEnd.TheVariants as end
use Rattle.lane_code.specs.declared.lane.Lane.{Lane}
use Rattle.lane_code.specs.Valid.{is_sound}
use Rattle.lane_code.specs.LaneMeaning.{Done, Normal, Left, Trapped}

-- a cost that stops at 2^64 - 1
abbrev pub counted : Lane → Lane
counted l = record { words = l.words; uniform = l.uniform; turns = l.turns; cost = min l.cost (2 ^ 64 - 1) }

abbrev pub counted_done : Done → Done
counted_done (Normal l) = Normal (counted l)
counted_done (Left l) = Left (counted l)
counted_done (Trapped kind node l) = Trapped kind node (counted l)

-- an end, and the lane then
abbrev pub ended : LaneEnd → Lane → Done
ended end.Normal l = Normal l
ended end.Left l = Left l
ended (end.Trapped kind node) l = Trapped kind node l

abbrev pub is_normal : LaneEnd → Bool
is_normal end.Normal = true
is_normal end.Left = false
is_normal (end.Trapped kind node) = false

-- each instruction is sound
abbrev pub all_sound : Numbers → List Instr → Bool
all_sound n xs = list_all (λ x. is_sound n x) xs
