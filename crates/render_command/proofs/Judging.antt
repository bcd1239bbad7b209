-- What words ask of the files has a verdict.
use Rattle.std.proofs.Common.{◌≡◌, ℕ, List, length, Option, Some, None, Result, Ok, Err, Bool, true, false, nat_le, if◌then◌else◌, refl, ap, sym, subst}
use Rattle.std.specs.FinMap as files
use Rattle.ctl_base.specs.declared.limits.TheConstants.{IMAGE_BYTES}
use Rattle.ctl_tree.specs.Units.{SourceUnit}
use Rattle.ctl_types.specs.Scoping.{ProgramForm, IsProgram}
use Rattle.ctl_types.specs.Run.{Fault, Trapped, Wrong}
use Rattle.ctl_check_rules.specs.Faults.{Fault as RuleFault}
use Rattle.ctl_check_function.specs.Programs.{checked_program}
use Rattle.outside.specs.Calls.{FileCall, Fetch, Has}
use Rattle.outside.specs.Files.{Held, holds}
use Rattle.module_path.specs.Laws as loading
use Rattle.module_path.specs.LoadOrder.{LoadOrder}
use Rattle.module_path.specs.declared.fault.LoadFault.{LoadFault}
use Rattle.module_path.specs.declared.fault.LoadFault.TheVariants as load
use Rattle.program_laws.specs.Laws.{LoadedProgramsKeepRules}
use Rattle.command_words.specs.Command.{Command, command_of}
use Rattle.command_status.specs.declared.status.Status.{Status}
use Rattle.command_status.specs.declared.status.Status.TheVariants.{Exists, Image, Trap}
use Rattle.command_status.specs.declared.status.ImageFault.TheVariants.{TooLong}
use Rattle.dpx_file.specs.Plain.{PlainImage, IsImage}
use Rattle.dpx_file.specs.Reading.{dpx_reading}
use Rattle.dpx_file.specs.declared.fault.DpxFault.{DpxFault}
use Rattle.dpx_laws.specs.Laws.{AreBytes, ReadImagesKeepRules}
use Rattle.render_tree.specs.PixelRun.{StageForm}
use Rattle.render_tree.specs.Stages.{IsStage, stage_of}
use Rattle.render_tree.specs.RenderedImage.{PixelFault, rendered}
use Rattle.render_tree.specs.Laws.{Traps, IsRendered, RendersWell, StagesKeepRules}
use Rattle.render_command.specs.Actions.{IsTold, AtLeastOne, Answers, lifted}
use Rattle.render_command.specs.Verdict.{Plan, plan_for, IsTrap, IsPlan, HoldsBytes, SomeVerdict, command_in, free_of, look_for, status_of, loaded_as, loads, checked_as, checked, entered_at, entered, image_in, image_of, image_at, rendering, units_of, program_of, planned_at, planned_by, planned}
use Rattle.render_command.proofs.Actions.{answers_some, lifted_some, asks_some, then_some, lifted_value, asked_value, through}

-- the laws of the crates below
pub record Laws : Type 0 where
  pub load_orders : loading.AtLeastOne
  pub programs : LoadedProgramsKeepRules
  pub images : ReadImagesKeepRules
  pub stages : StagesKeepRules
  pub renders : RendersWell

-- ---- what a step tells

command_told : (o : Option Command) → IsTold (command_in o)
command_told None = tt
command_told (Some command) = tt

free_told : (b : Bool) → IsTold {A = Unit {0}} (if b then Err Exists else Ok tt)
free_told true = tt
free_told false = tt

fault_told : (e : LoadFault) → loading.IsToldFault e → IsTold {A = List SourceUnit} (Err (status_of e))
fault_told (load.Cycle file name) t = tt
fault_told (load.TooMany file) t = tt
fault_told (load.NotFound name) t = tt
fault_told (load.ReadFault name) t = absurd t
fault_told (load.TooLong file) t = tt
fault_told (load.Lex file at n kind) t = tt
fault_told (load.Syntax file at n kind) t = tt
fault_told load.Memory t = absurd t

loaded_told : (told : Result (List SourceUnit) LoadFault) → loading.IsTold told → IsTold (loaded_as told)
loaded_told (Ok units) t = tt
loaded_told (Err fault) t = fault_told fault t

checked_told : (units : List SourceUnit) (r : Result ProgramForm RuleFault) → IsTold (checked_as units r)
checked_told units (Ok program) = tt
checked_told units (Err fault) = tt

entered_told : (o : Option StageForm) → IsTold (entered_at o)
entered_told None = tt
entered_told (Some stage) = tt

read_told : (r : Result PlainImage DpxFault) → IsTold (image_in r)
read_told (Ok image) = tt
read_told (Err fault) = tt

short_told : (b : Bool) (r : Result PlainImage DpxFault) → IsTold (if b then image_in r else Err (Image TooLong))
short_told true r = read_told r
short_told false r = tt

image_told : (o : Option (List ℕ)) → IsTold (image_of o)
image_told None = tt
image_told (Some bytes) = short_told (nat_le (length bytes) IMAGE_BYTES) (dpx_reading bytes)

-- ---- what a value says

loaded_value : (told : Result (List SourceUnit) LoadFault) (units : List SourceUnit) → loaded_as told ≡ Ok units → told ≡ Ok units
loaded_value (Ok loaded) units e = let same : loaded ≡ units = cc in ap Ok same
loaded_value (Err fault) units e = absurd cc

checked_value : (units : List SourceUnit) (r : Result ProgramForm RuleFault) (program : ProgramForm) → checked_as units r ≡ Ok program → r ≡ Ok program
checked_value units (Ok made) program e = let same : made ≡ program = cc in ap Ok same
checked_value units (Err fault) program e = absurd cc

entered_value : (o : Option StageForm) (stage : StageForm) → entered_at o ≡ Ok stage → o ≡ Some stage
entered_value None stage e = absurd cc
entered_value (Some made) stage e = let same : made ≡ stage = cc in ap Some same

read_value : (r : Result PlainImage DpxFault) (image : PlainImage) → image_in r ≡ Ok image → r ≡ Ok image
read_value (Ok made) image e = let same : made ≡ image = cc in ap Ok same
read_value (Err fault) image e = absurd cc

short_value : (b : Bool) (r : Result PlainImage DpxFault) (image : PlainImage) → (if b then image_in r else Err (Image TooLong)) ≡ Ok image → r ≡ Ok image
short_value true r image e = read_value r image e
short_value false r image e = absurd cc

-- the image of what is held
image_value : ReadImagesKeepRules → (o : Option (List ℕ)) → ((bytes : List ℕ) → o ≡ Some bytes → AreBytes bytes) → (image : PlainImage) → image_of o ≡ Ok image → IsImage image
image_value law None fit image e = absurd cc
image_value law (Some bytes) fit image e = law bytes image (fit bytes refl) (short_value (nat_le (length bytes) IMAGE_BYTES) (dpx_reading bytes) image e)

-- ---- the steps

loads_some : loading.AtLeastOne → (held : Held) (path root : List ℕ) → AtLeastOne (loads held path root)
loads_some law held path root = λ before. let q = law held path root before in (q.0, loaded_as q.1, loaded_told q.1 q.2, (q.1, q.3, refl))

units_some : loading.AtLeastOne → (held : Held) (path : List ℕ) (command : Command) → AtLeastOne (units_of held path command)
units_some law held path command =
    then_some (look_for held command.destination) (λ free. loads held path command.text) (asks_some Has command.destination (free_of held command.destination) (free_told (holds held command.destination)))
    (λ before after free h. loads_some law held path command.text)

program_some : loading.AtLeastOne → (held : Held) (path : List ℕ) (command : Command) → AtLeastOne (program_of held path command)
program_some law held path command =
    then_some (units_of held path command) (lifted checked) (units_some law held path command) (λ before after units h. lifted_some checked units (checked_told units (checked_program units)))

-- the program of what is held keeps the rules
program_stands : LoadedProgramsKeepRules → (held : Held) (path : List ℕ) (command : Command) (before after : List FileCall) (program : ProgramForm) → program_of held path command before after (Ok program) → IsProgram program
program_stands law held path command before after program h =
    let p = through (units_of held path command) (lifted checked) before after program h in
    let u = through (look_for held command.destination) (λ free. loads held path command.text) before p.between p.a p.made in
    let told = u.on.0 in
    let all : told ≡ Ok p.a = loaded_value told p.a u.on.2 in
    law held path command.text u.between p.between p.a program (subst (λ (r : Result (List SourceUnit) LoadFault). LoadOrder held path command.text u.between p.between r) all u.on.1)
    (checked_value p.a (checked_program p.a) program (lifted_value checked p.a p.between after program p.on))

trap_some : (destination : List ℕ) (f : PixelFault) (fault : Fault) → f.fault ≡ fault → Traps fault → AtLeastOne (Answers (IsPlan destination (Err f)))
trap_some destination f (Trapped kind node) e t =
    let told : Result Plan Status = Err (Trap f.row f.column 0 kind node) in
    answers_some (IsPlan destination (Err f)) told tt (subst (λ (x : Fault). IsTrap f.row f.column x told) (sym e) refl)
trap_some destination f Wrong e t = absurd t

plan_some : (destination : List ℕ) (r : Result PlainImage PixelFault) → IsRendered r → AtLeastOne (Answers (IsPlan destination r))
plan_some destination (Ok image) t = answers_some (IsPlan destination (Ok image)) (Ok (plan_for destination image)) tt refl
plan_some destination (Err f) t = trap_some destination f f.fault refl t

module _ (laws : Laws) (held : Held) (fit : HoldsBytes held) where
  planned_at_some : (command : Command) (stage : StageForm) → IsStage stage → AtLeastOne (planned_at held command stage)
  planned_at_some command stage is =
      then_some (image_at held command.source) (rendering command.destination stage) (asks_some Fetch command.source (image_of (files.get held command.source)) (image_told (files.get held command.source)))
      (λ before after image h.
      let e = asked_value Fetch command.source (image_of (files.get held command.source)) before after image h in
      plan_some command.destination (rendered stage image) (laws.renders stage is image (image_value laws.images (files.get held command.source) (fit command.source) image e)))

  planned_by_some : (command : Command) (program : ProgramForm) → IsProgram program → AtLeastOne (planned_by held command program)
  planned_by_some command program is =
      then_some (lifted entered program) (planned_at held command) (lifted_some entered program (entered_told (stage_of program)))
      (λ before after stage h.
      let e = entered_value (stage_of program) stage (lifted_value entered program before after stage h) in
      planned_at_some command stage (laws.stages program is stage e))

  planned_some : (path : List ℕ) (command : Command) → AtLeastOne (planned held path command)
  planned_some path command =
      then_some (program_of held path command) (planned_by held command) (program_some laws.load_orders held path command)
      (λ before after program h. planned_by_some command program (program_stands laws.programs held path command before after program h))

pub some_verdict : Laws → SomeVerdict
some_verdict laws = λ held path words fit.
    then_some (lifted command_in (command_of words)) (planned held path) (lifted_some command_in (command_of words) (command_told (command_of words))) (λ before after command h. planned_some laws held fit path command)
