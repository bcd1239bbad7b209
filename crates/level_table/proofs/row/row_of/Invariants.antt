use Rattle.std.proofs.Common.{◌≡◌, ◌<◌, ℕ, length, get_or, false}
use Rattle.level_sets.specs.Marks.{tells_mark}
use Rattle.level_table.proofs.row.row_of.Given as goal

abbrev pub invariant-loop-mark : goal.invariant-loop-mark
invariant-loop-mark l = record {
  long : length l.row.items ≡ l.mark;
  so_far : (m : ℕ) → m < l.mark → get_or l.row.items m false ≡ tells_mark l.rows l.instance m;
}
