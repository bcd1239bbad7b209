-- What words ask of the files has one verdict.
use Rattle.std.proofs.Common.{◌≡◌, ℕ, List, Option, Some, None, Result, Ok, Err, refl, ap, sym, ◌∙◌, subst}
use Rattle.std.specs.FinMap as files
use Rattle.ctl_tree.specs.Units.{SourceUnit}
use Rattle.ctl_types.specs.Scoping.{ProgramForm}
use Rattle.ctl_types.specs.Run.{Fault, Trapped, Wrong}
use Rattle.outside.specs.Calls.{FileCall, Fetch, Has}
use Rattle.outside.specs.Files.{Held}
use Rattle.module_path.specs.Laws as loading
use Rattle.module_path.specs.declared.fault.LoadFault.{LoadFault}
use Rattle.module_path.specs.declared.fault.LoadFault.TheVariants as load
use Rattle.command_words.specs.Command.{Command, command_of}
use Rattle.command_status.specs.declared.status.Status.{Status}
use Rattle.dpx_file.specs.Plain.{PlainImage}
use Rattle.render_tree.specs.PixelRun.{StageForm}
use Rattle.render_tree.specs.RenderedImage.{PixelFault, rendered}
use Rattle.render_command.specs.Actions.{Answers, Asks, Then, IsTold, AtMostOne, lifted}
use Rattle.render_command.specs.Verdict.{Plan, IsTrap, IsPlan, OneVerdict, Judges, command_in, free_of, look_for, status_of, loaded_as, loads, checked, entered, image_at, image_of, rendering, units_of, program_of, planned, planned_by, planned_at}
use Rattle.render_command.proofs.Actions.{answers_one, lifted_one, asks_one, then_one}

-- what was loaded is told where its status is
fault_told : (e : LoadFault) → IsTold {A = List SourceUnit} (Err (status_of e)) → loading.IsToldFault e
fault_told (load.Cycle file name) t = tt
fault_told (load.TooMany file) t = tt
fault_told (load.NotFound name) t = tt
fault_told (load.ReadFault name) t = absurd t
fault_told (load.TooLong file) t = tt
fault_told (load.Lex file at n kind) t = tt
fault_told (load.Syntax file at n kind) t = tt
fault_told load.Memory t = absurd t

told_as : (told : Result (List SourceUnit) LoadFault) (answer : Result (List SourceUnit) Status) → loaded_as told ≡ answer → IsTold answer → loading.IsTold told
told_as (Ok units) answer e t = tt
told_as (Err fault) answer e t = fault_told fault (let P : Result (List SourceUnit) Status → Type 0 = λ r. IsTold r in subst P (sym e) t)

loads_one : loading.AtMostOne → (held : Held) (path root : List ℕ) → AtMostOne (loads held path root)
loads_one law held path root = λ before after elsewhere r r' h k t t'.
    let q = law held path root before after elsewhere h.0 k.0 h.1 k.1 (told_as h.0 r h.2 t) (told_as k.0 r' k.2 t') in
    (sym h.2 ∙ ap loaded_as q.0 ∙ k.2, q.1)

one_trap : (row column : ℕ) (fault : Fault) (s t : Result Plan Status) → IsTrap row column fault s → IsTrap row column fault t → s ≡ t
one_trap row column (Trapped kind node) s t h k = sym h ∙ k
one_trap row column Wrong s t h k = absurd h

one_plan : (destination : List ℕ) (r : Result PlainImage PixelFault) (s t : Result Plan Status) → IsPlan destination r s → IsPlan destination r t → s ≡ t
one_plan destination (Ok image) s t h k = sym h ∙ k
one_plan destination (Err f) s t h k = one_trap f.row f.column f.fault s t h k

rendering_one : (destination : List ℕ) (stage : StageForm) (image : PlainImage) → AtMostOne (rendering destination stage image)
rendering_one destination stage image = answers_one (IsPlan destination (rendered stage image)) (one_plan destination (rendered stage image))

units_one : loading.AtMostOne → (held : Held) (path : List ℕ) (command : Command) → AtMostOne (units_of held path command)
units_one law held path command = then_one (look_for held command.destination) (λ free. loads held path command.text) (asks_one Has command.destination (free_of held command.destination)) (λ free. loads_one law held path command.text)

planned_at_one : (held : Held) (command : Command) (stage : StageForm) → AtMostOne (planned_at held command stage)
planned_at_one held command stage = then_one (image_at held command.source) (rendering command.destination stage) (asks_one Fetch command.source (image_of (files.get held command.source))) (rendering_one command.destination stage)

planned_by_one : (held : Held) (command : Command) (program : ProgramForm) → AtMostOne (planned_by held command program)
planned_by_one held command program = then_one (lifted entered program) (planned_at held command) (lifted_one entered program) (planned_at_one held command)

planned_one : loading.AtMostOne → (held : Held) (path : List ℕ) (command : Command) → AtMostOne (planned held path command)
planned_one law held path command =
    then_one (program_of held path command) (planned_by held command) (then_one (units_of held path command) (lifted checked) (units_one law held path command) (lifted_one checked)) (planned_by_one held command)

pub one_verdict : loading.AtMostOne → OneVerdict
one_verdict law = λ held path words. then_one (lifted command_in (command_of words)) (planned held path) (lifted_one command_in (command_of words)) (planned_one law held path)
