use Rattle.std.proofs.Common.{◌≡◌, ◌++◌, length}
use denote.Text.{Utf8}
use denote.Shadow.{shadow}
use Rattle.module_path.specs.ModuleFiles.{folders_of as folders_in}
use Rattle.module_path.proofs.folders.folders_of.Given as goal

abbrev pub invariant-each : goal.invariant-each
invariant-each l = shadow (Utf8 l.rest) × (l.folders.items ++ folders_in l.rest ≡ folders_in l.path)

abbrev pub decreases-each : goal.decreases-each
decreases-each l = length l.rest
