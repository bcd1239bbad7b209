use Rattle.std.proofs.Common.{◌≡◌, ◌+◌, ◌-◌, ◌*◌, ◌<◌, List, Some, Result, drop, length}
use Rattle.ctl_base.specs.declared.limits.TheConstants.{MODULES}
use Rattle.outside.specs.Calls.{FileCall}
use Rattle.outside.specs.Files.{Held}
use Rattle.outside.specs.ReadsAlone.{ReadsAlone}
use Rattle.module_path.specs.LoadOrder.{Loaded, LoadsAll}
use Rattle.module_path.specs.Means.{walked}
use Rattle.module_path.specs.declared.fault.LoadFault.{LoadFault}
use Rattle.module_path.proofs.loading.+load_file.Given as goal

-- the modules that may still be loading at once, and the order of the calls in one
abbrev pub decreases-load_file : goal.decreases-load_file
decreases-load_file g l = 3 * (MODULES - length l.walk.now.loading.items) + 2

abbrev pub decreases-load_all : goal.decreases-load_all
decreases-load_all g l = 3 * (MODULES - length l.walk.now.loading.items) + 1

abbrev pub decreases-load_one : goal.decreases-load_one
decreases-load_one g l = 3 * (MODULES - length l.walk.now.loading.items)

-- whatever the imports that are left answer from here, all answer from the start
abbrev pub invariant-load_all-each : goal.invariant-load_all-each
invariant-load_all-each g l = record {
  loads : (held : Held) → g.F.FileBox.held l.fn.files ≡ Some held → (after : List FileCall) (answer : Result Loaded LoadFault)
      → LoadsAll held l.folders l.walk.loading.items l.file (drop l.import-index l.imports) (walked l.walk) (g.F.FileBox.asked l.files) after answer
      → LoadsAll held l.folders l.fn.walk.loading.items l.file l.imports (walked l.fn.walk) (g.F.FileBox.asked l.fn.files) after answer;
  loading : l.walk.loading.items ≡ l.fn.walk.loading.items;
  room : length l.walk.loading.items + length l.walk.names.items < MODULES;
  paired : length l.walk.units ≡ length l.walk.names.items;
  reads : ReadsAlone g.F.FileBox.held g.F.FileBox.lost g.F.FileBox.serves l.fn.files l.files;
  faults : g.F.FileBox.faults l.files ≡ g.F.FileBox.faults l.fn.files;
}
