-- The number of each status, and the line that is said for it.
use Rattle.std.specs.Prelude.{ℕ, List, [], ◌∷◌, ◌++◌, codes}
use Rattle.std.specs.Fmt.{decimal}
use Rattle.ctl_base.specs.declared.kind.TrapKind.{TrapKind}
use Rattle.ctl_base.specs.declared.kind.TrapKind.TheVariants.{Turns, Index, Assert}
use Rattle.ctl_scope.specs.declared.kind.CheckKind.{CheckKind}
use Rattle.ctl_scope.specs.declared.kind.CheckKind.TheVariants.{UnknownName, Recursion, Twice, NotAType, NotAFunction, TooDeep, Arguments, NotAssignable, Mismatch, BadSize, NoReturn, BadEntry, ConstTrap}
use Rattle.ctl_tree.specs.declared.fault.LexKind.{LexKind}
use Rattle.ctl_tree.specs.declared.fault.LexKind.TheVariants.{NoToken, OpenComment, OpenText, Literal, NotAscii}
use Rattle.ctl_tree.specs.declared.fault.SyntaxKind.{SyntaxKind}
use Rattle.ctl_tree.specs.declared.fault.SyntaxKind.TheVariants.{NotHere, Depth as TooDeep}
use Rattle.dpx_file.specs.declared.fault.DpxFault.{DpxFault}
use Rattle.dpx_file.specs.declared.fault.DpxFault.TheVariants.{NotDpx, Truncated, Encrypted, Orientation, Elements, Size, Sign, Descriptor, Depth, Packing, Compressed}
use Rattle.command_status.specs.declared.status.ImageFault.{ImageFault}
use Rattle.command_status.specs.declared.status.ImageFault.TheVariants.{Absent, TooLong, Dpx}
use Rattle.command_status.specs.declared.status.SourceFault.{SourceFault}
use Rattle.command_status.specs.declared.status.SourceFault.TheVariants.{Lex, Syntax, Cycle, TooLong as TextTooLong, TooMany, Check}
use Rattle.command_status.specs.declared.status.Status.{Status}
use Rattle.command_status.specs.declared.status.Status.TheVariants.{Done, Exists, NotFound, Source, Image, Trap, ReadFault, WriteFault, Memory, Later}

-- the number that the program ends with
abbrev pub code_of : Status → ℕ
code_of Done = 0
code_of Exists = 3
code_of (NotFound name) = 4
code_of (Source file n fault) = 5
code_of (Image fault) = 8
code_of (Trap n column stage kind node) = 9
code_of (ReadFault name) = 10
code_of WriteFault = 11
code_of Memory = 12
code_of Later = 13

-- the name of a fault of the tokens
abbrev pub lex_kind : LexKind → List ℕ
lex_kind NoToken = codes "NoToken"
lex_kind OpenComment = codes "OpenComment"
lex_kind OpenText = codes "OpenText"
lex_kind Literal = codes "Literal"
lex_kind NotAscii = codes "NotAscii"

-- the name of a fault of the grammar
abbrev pub syntax_kind : SyntaxKind → List ℕ
syntax_kind NotHere = codes "NotHere"
syntax_kind TooDeep = codes "Depth"

-- the name of a rule that a form breaks
abbrev pub check_kind : CheckKind → List ℕ
check_kind UnknownName = codes "UnknownName"
check_kind Recursion = codes "Recursion"
check_kind Twice = codes "Twice"
check_kind NotAType = codes "NotAType"
check_kind NotAFunction = codes "NotAFunction"
check_kind TooDeep = codes "TooDeep"
check_kind Arguments = codes "Arguments"
check_kind NotAssignable = codes "NotAssignable"
check_kind Mismatch = codes "Mismatch"
check_kind BadSize = codes "BadSize"
check_kind NoReturn = codes "NoReturn"
check_kind BadEntry = codes "BadEntry"
check_kind ConstTrap = codes "ConstTrap"

-- the name of a kind of trap
abbrev pub trap_kind : TrapKind → List ℕ
trap_kind Turns = codes "Turns"
trap_kind Index = codes "Index"
trap_kind Assert = codes "Assert"

-- the name of a fault of the text: that of the inner kind, where there is one
abbrev pub source_kind : SourceFault → List ℕ
source_kind (Lex kind) = lex_kind kind
source_kind (Syntax kind) = syntax_kind kind
source_kind Cycle = codes "Cycle"
source_kind TextTooLong = codes "TooLong"
source_kind TooMany = codes "TooMany"
source_kind (Check kind) = check_kind kind

-- the name of a fault of the format
abbrev pub dpx_kind : DpxFault → List ℕ
dpx_kind NotDpx = codes "NotDpx"
dpx_kind (Truncated need have) = codes "Truncated"
dpx_kind Encrypted = codes "Encrypted"
dpx_kind (Orientation n) = codes "Orientation"
dpx_kind (Elements n) = codes "Elements"
dpx_kind (Size width height) = codes "Size"
dpx_kind (Sign n) = codes "Sign"
dpx_kind (Descriptor n) = codes "Descriptor"
dpx_kind (Depth n) = codes "Depth"
dpx_kind (Packing n) = codes "Packing"
dpx_kind (Compressed n) = codes "Compressed"

-- the name of a fault of the source, without its numbers
abbrev pub image_kind : ImageFault → List ℕ
image_kind Absent = codes "Absent"
image_kind TooLong = codes "TooLong"
image_kind (Dpx fault) = dpx_kind fault

-- a line of the command
abbrev pub message : List ℕ → List ℕ
message text = codes "ctlrender: " ++ (text ++ 10 ∷ [])

-- what is said for a status, where the image is to be written under the name `destination`
abbrev pub message_of : List ℕ → Status → List ℕ
message_of destination Done = []
message_of destination Exists = message (destination ++ codes " exists")
message_of destination (NotFound name) = message (name ++ codes " not found")
message_of destination (Source file line fault) = message (file ++ codes " line " ++ decimal line ++ codes ": " ++ source_kind fault)
message_of destination (Image fault) = message (codes "image: " ++ image_kind fault)
message_of destination (Trap n column stage kind node) =
    message (codes "line " ++ decimal n ++ codes " column " ++ decimal column ++ codes " stage " ++ decimal stage ++ codes ": " ++ trap_kind kind)
message_of destination (ReadFault name) = message (codes "read fault on " ++ name)
message_of destination WriteFault = message (codes "write fault")
message_of destination Memory = message (codes "out of memory")
message_of destination Later = message (codes "not built yet")
