use Rattle.std.proofs.Common.{◌≡◌, List, Some, Result, drop}
use Rattle.outside.specs.Calls.{FileCall}
use Rattle.outside.specs.Files.{Held}
use Rattle.outside.specs.ReadsAlone.{ReadsAlone}
use Rattle.module_path.specs.ModuleFiles.{SourceText, module_files, module_text}
use Rattle.module_path.specs.LoadOrder.{Fetches}
use Rattle.module_path.specs.declared.fault.LoadFault.{LoadFault}
use Rattle.module_path.proofs.files.find.Given as goal

-- whatever the folders that are left answer from here, all answer from the start
abbrev pub invariant-each : goal.invariant-each
invariant-each g l = record {
  finds : (held : Held) → g.F.FileBox.held l.fn.files ≡ Some held → (after : List FileCall) (answer : Result SourceText LoadFault)
      → Fetches (module_files held (drop l.folder-index l.folders) l.name) (module_text held (drop l.folder-index l.folders) l.name) (g.F.FileBox.asked l.files) after answer
      → Fetches (module_files held l.folders l.name) (module_text held l.folders l.name) (g.F.FileBox.asked l.fn.files) after answer;
  reads : ReadsAlone g.F.FileBox.held g.F.FileBox.lost g.F.FileBox.serves l.fn.files l.files;
  faults : g.F.FileBox.faults l.files ≡ g.F.FileBox.faults l.fn.files;
}
