-- Means of the code: the words of a table or of the other arguments, and what is left to put.
use Rattle.std.specs.Prelude.{ℕ, ℤ, Bool, true, false, List, drop}
use Rattle.ctl_stdlib.specs.declared.row.Param.{Param}
use Rattle.ctl_stdlib.specs.Shapes.{table_words, input_words}
use Rattle.lane_code.specs.declared.instr.Slot.{Slot}
use Rattle.lane_code.specs.declared.lane.Lane.{Lane}
use Rattle.lane_code.specs.Slots.{shifted, put_all}
use Rattle.lane_code.specs.LaneMeaning.{words_of, with_words}

abbrev pub counts : Bool → List ℕ → Param → ℕ
counts true sizes p = table_words sizes p
counts false sizes p = input_words p

abbrev pub left_to_put : Slot → List ℤ → ℕ → Lane → Lane
left_to_put dst words i l = with_words (put_all (shifted dst i) (drop i words) (words_of l)) l
