-- What the machine has passed over begins some module, whose nesting is allowed where the machine's way was.
use Rattle.std.proofs.Common.{ℕ, ◌≤◌, List, ◌++◌, length, take, map, sym, refl, Option, length-take-le, arith}
use Rattle.ctl_tree.specs.declared.definition.Module.{Module}
use Rattle.ctl_tree.specs.Lexemes.{Lexeme}
use Rattle.ctl_tree.specs.Modules.{IsModule}
use Rattle.ctl_tree.specs.Beginnings.{Begins}
use Rattle.grammar_machine.specs.Machine.{Symbol, start, Reaches}
use Rattle.grammar_machine.proofs.Meaning.{MeansAll}
use Rattle.grammar_machine.proofs.Dead.{front_same}
use Rattle.grammar_machine.proofs.Completion.{sample, completes}
use Rattle.grammar_machine.proofs.Completed.{all_completed}
use Rattle.grammar_machine.proofs.Spelt.{completion_spelt}
use Rattle.grammar_machine.proofs.Runs.{back, module_from, run_within, fits_on, Cut, cut}

-- wherever a run from the start comes to, the tokens before that place begin some module
pub run_begins : (T : List Lexeme) (L : Option ℕ) (stack : List Symbol) (k : ℕ) → Reaches T L start 0 stack k → k ≤ length T × Begins T L k
run_begins T L stack k r =
    let le : k ≤ length T = run_within T L start stack 0 k r (omega arith) in
    let c : Cut T L start 0 k = cut T L start stack 0 k r in
    let more : List Lexeme = map sample (completes c.open_forms) in
    let U : List Lexeme = take k T ++ more in
    let reached : Reaches U L start 0 c.open_forms k = c.reached U (λ i lt. front_same T more k i lt (omega arith)) in
    let whole : MeansAll U L c.open_forms k = all_completed c.open_forms (fits_on U L start c.open_forms 0 k reached refl) L (take k T) U k refl (sym (length-take-le k T le)) in
    let m : (m : Module) × IsModule U L m = module_from U L (back U L start c.open_forms 0 k reached whole) in
    (le, record { more = more; are_spelt = completion_spelt c.open_forms; form = m.0; spelt = m.1 })
