-- What the words ask of the files: the steps in their order, each with the status at which it stops.
use Rattle.std.specs.Prelude.{◌≡◌, ℕ, List, length, Option, Some, None, Result, Ok, Err, nat_le, if◌then◌else◌}
use Rattle.std.specs.FinMap as files
use Rattle.ctl_base.specs.declared.limits.TheConstants.{IMAGE_BYTES}
use Rattle.ctl_tree.specs.Units.{SourceUnit, line_of_node}
use Rattle.ctl_types.specs.Scoping.{ProgramForm}
use Rattle.ctl_types.specs.Run.{Fault, Trapped, Wrong}
use Rattle.ctl_check_rules.specs.Faults.{Fault as RuleFault}
use Rattle.ctl_check_function.specs.Programs.{checked_program}
use Rattle.ctl_check.specs.Checks.{file_of_node}
use Rattle.outside.specs.Calls.{FileCall, Fetch, Has}
use Rattle.outside.specs.Files.{Held, holds}
use Rattle.module_path.specs.LoadOrder.{LoadOrder}
use Rattle.module_path.specs.declared.fault.LoadFault.{LoadFault}
use Rattle.module_path.specs.declared.fault.LoadFault.TheVariants as load
use Rattle.dpx_file.specs.Plain.{PlainImage}
use Rattle.dpx_file.specs.Reading.{dpx_reading}
use Rattle.dpx_file.specs.declared.fault.DpxFault.{DpxFault}
use Rattle.dpx_file.specs.Writing.{dpx_writing}
use Rattle.dpx_laws.specs.Laws.{AreBytes}
use Rattle.command_words.specs.Command.{Command, command_of}
use Rattle.command_status.specs.declared.status.ImageFault.TheVariants.{Absent, TooLong, Dpx}
use Rattle.command_status.specs.declared.status.SourceFault.TheVariants as source
use Rattle.command_status.specs.declared.status.Status.{Status}
use Rattle.command_status.specs.declared.status.Status.TheVariants.{Exists, NotFound, Source, Image, Trap, ReadFault, Memory, Later}
use Rattle.render_tree.specs.PixelRun.{StageForm}
use Rattle.render_tree.specs.Stages.{stage_of}
use Rattle.render_tree.specs.RenderedImage.{PixelFault, rendered}
use Rattle.render_command.specs.Actions.{Action, Step, Answers, Asks, lifted, ◌>>=◌, AtMostOne, AtLeastOne}

-- ---- the steps

-- the words are a command
abbrev pub command_in : Option Command → Result Command Status
command_in None = Err Later
command_in (Some command) = Ok command

-- the destination is not held
abbrev pub free_of : Held → List ℕ → Result (Unit {0}) Status
free_of held name = if holds held name then Err Exists else Ok tt

abbrev pub look_for : Held → List ℕ → Action (Unit {0})
look_for held name = Asks Has name (free_of held name)

-- the status of what keeps modules from being loaded; line 0 where no token is at fault
abbrev pub status_of : LoadFault → Status
status_of (load.Cycle file name) = Source file 0 source.Cycle
status_of (load.TooMany file) = Source file 0 source.TooMany
status_of (load.NotFound name) = NotFound name
status_of (load.ReadFault name) = ReadFault name
status_of (load.TooLong file) = Source file 0 source.TooLong
status_of (load.Lex file at n kind) = Source file n (source.Lex kind)
status_of (load.Syntax file at n kind) = Source file n (source.Syntax kind)
status_of load.Memory = Memory

abbrev pub loaded_as : Result (List SourceUnit) LoadFault → Result (List SourceUnit) Status
loaded_as (Ok units) = Ok units
loaded_as (Err fault) = Err (status_of fault)

-- the modules of a text in load order
abbrev pub loads : Held → List ℕ → List ℕ → Action (List SourceUnit)
loads held path root before after answer = (told : Result (List SourceUnit) LoadFault) × LoadOrder held path root before after told × (loaded_as told ≡ answer)

-- the program that modules mean, or their first form that breaks a rule
abbrev pub checked_as : List SourceUnit → Result ProgramForm RuleFault → Result ProgramForm Status
checked_as units (Ok program) = Ok program
checked_as units (Err fault) = Err (Source (file_of_node units fault.node) (line_of_node units fault.node) (source.Check fault.kind))

abbrev pub checked : List SourceUnit → Result ProgramForm Status
checked units = checked_as units (checked_program units)

-- the stage of a program: other entries are not built yet
abbrev pub entered_at : Option StageForm → Result StageForm Status
entered_at None = Err Later
entered_at (Some stage) = Ok stage

abbrev pub entered : ProgramForm → Result StageForm Status
entered program = entered_at (stage_of program)

-- the image of the source
abbrev pub image_in : Result PlainImage DpxFault → Result PlainImage Status
image_in (Ok image) = Ok image
image_in (Err fault) = Err (Image (Dpx fault))

abbrev pub image_of : Option (List ℕ) → Result PlainImage Status
image_of None = Err (Image Absent)
image_of (Some bytes) = if nat_le (length bytes) IMAGE_BYTES then image_in (dpx_reading bytes) else Err (Image TooLong)

abbrev pub image_at : Held → List ℕ → Action PlainImage
image_at held name = Asks Fetch name (image_of (files.get held name))

-- what is to be stored, and under which name
pub record Plan : Type 0 where
  pub destination : List ℕ
  pub bytes : List ℕ

abbrev pub plan_for : List ℕ → PlainImage → Plan
plan_for destination image = record { destination = destination; bytes = dpx_writing image }

-- the trap of a pixel in a row and a column. That a form has no meaning is no answer: no checked program meets it.
abbrev pub IsTrap : ℕ → ℕ → Fault → Result Plan Status → Type 0
IsTrap row column (Trapped kind node) answer = Err (Trap row column 0 kind node) ≡ answer
IsTrap row column Wrong answer = ⊥

abbrev pub IsPlan : List ℕ → Result PlainImage PixelFault → Result Plan Status → Type 0
IsPlan destination (Ok image) answer = Ok (plan_for destination image) ≡ answer
IsPlan destination (Err f) answer = IsTrap f.row f.column f.fault answer

-- the rendered image in its written form
abbrev pub rendering : List ℕ → StageForm → Step PlainImage Plan
rendering destination stage image = Answers (IsPlan destination (rendered stage image))

-- ---- their order

abbrev pub units_of : Held → List ℕ → Command → Action (List SourceUnit)
units_of held path command = look_for held command.destination >>= (λ free. loads held path command.text)

abbrev pub program_of : Held → List ℕ → Command → Action ProgramForm
program_of held path command = units_of held path command >>= lifted checked

abbrev pub planned_at : Held → Command → Step StageForm Plan
planned_at held command stage = image_at held command.source >>= rendering command.destination stage

abbrev pub planned_by : Held → Command → Step ProgramForm Plan
planned_by held command program = lifted entered program >>= planned_at held command

abbrev pub planned : Held → List ℕ → Command → Action Plan
planned held path command = program_of held path command >>= planned_by held command

-- What the words ask of what is held, where modules are sought along a path.
abbrev pub Judges : Held → List ℕ → List (List ℕ) → Action Plan
Judges held path words = lifted command_in (command_of words) >>= planned held path

-- ---- one verdict

-- what words ask of the files is one thing
abbrev pub OneVerdict : Type 0
OneVerdict = (held : Held) (path : List ℕ) (words : List (List ℕ)) → AtMostOne (Judges held path words)

-- each file is bytes, numbers below 256
abbrev pub HoldsBytes : Held → Type 0
HoldsBytes held = (name bytes : List ℕ) → files.get held name ≡ Some bytes → AreBytes bytes

-- whatever the words and the path, and whatever files of bytes are held, there is a verdict
abbrev pub SomeVerdict : Type 0
SomeVerdict = (held : Held) (path : List ℕ) (words : List (List ℕ)) → HoldsBytes held → AtLeastOne (Judges held path words)
