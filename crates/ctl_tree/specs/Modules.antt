-- Which tokens spell which definition and which module.
--     module     = [ "ctlversion" WHOLE ";" ] { import } { definition }
--     import     = "import" TEXT ";"
--     definition = namespace | struct | constant | function
--     namespace  = "namespace" NAME "{" { definition } "}"
--     struct     = "struct" NAME "{" field { field } "}" [ ";" ]
--     field      = shape NAME { "[" expr "]" } ";"
--     function   = result NAME "(" [ param { "," param } ] ")" block
--     result     = "void" | shape { "[" expr "]" }
--     param      = quals shape NAME { "[" [ expr ] "]" } [ "=" init ]
--     quals      = [ io ] [ level ] | level io
--     io         = "input" | "output"
--     level      = "uniform" | "varying"
-- A fact says that a form of a nesting stands from one place of the tokens up to another. A list goes on as long as it
-- can.
use Rattle.std.specs.Prelude.{◌≡◌, ℕ, ◌+◌, ◌≤◌, List, [], ◌∷◌, Option, Some, None, length, All, Bool, true, false}
use Rattle.ctl_tree.specs.declared.keyword.Keyword.TheVariants.{Ctlversion, Import as ImportWord, Namespace as NamespaceWord, Struct as StructWord, Void, Input as InputWord, Output as OutputWord, Uniform as UniformWord, Varying as VaryingWord}
use Rattle.ctl_tree.specs.declared.sign.Sign.TheVariants.{OpenRound, CloseRound, OpenCurly, CloseCurly, Comma, Semicolon}
use Rattle.ctl_tree.specs.declared.token.TokenKind.{TokenKind}
use Rattle.ctl_tree.specs.declared.token.TokenKind.TheVariants.{Word, Text as TextToken, Whole as WholeToken, Sign as SignKind}
use Rattle.ctl_tree.specs.declared.declaration.ShapeName.{ShapeName}
use Rattle.ctl_tree.specs.declared.declaration.ArraySize.{ArraySize}
use Rattle.ctl_tree.specs.declared.declaration.Initialiser.{Initialiser}
use Rattle.ctl_tree.specs.declared.declaration.Constant.{Constant}
use Rattle.ctl_tree.specs.declared.statement.Block.{Block}
use Rattle.ctl_tree.specs.declared.definition.Direction.{Direction}
use Rattle.ctl_tree.specs.declared.definition.Direction.TheVariants.{Input, Output}
use Rattle.ctl_tree.specs.declared.definition.Level.{Level}
use Rattle.ctl_tree.specs.declared.definition.Level.TheVariants.{Uniform, Varying}
use Rattle.ctl_tree.specs.declared.definition.Parameter.{Parameter}
use Rattle.ctl_tree.specs.declared.definition.SizedShape.{SizedShape}
use Rattle.ctl_tree.specs.declared.definition.Function.{Function}
use Rattle.ctl_tree.specs.declared.definition.Field.{Field}
use Rattle.ctl_tree.specs.declared.definition.Struct.{Struct}
use Rattle.ctl_tree.specs.declared.definition.Definition.{Definition}
use Rattle.ctl_tree.specs.declared.definition.Definition.TheVariants.{Namespace, Struct as StructForm, Constant as ConstantForm, Function as FunctionForm}
use Rattle.ctl_tree.specs.declared.definition.Namespace.{roll-Namespace}
use Rattle.ctl_tree.specs.declared.definition.Import.{Import}
use Rattle.ctl_tree.specs.declared.definition.Module.{Module}
use Rattle.ctl_tree.specs.Lexemes.{Lexeme, kind_at, bytes_at, SeesSign, LacksSign, SeesWord, LacksWord, SeesName, Within}
use Rattle.ctl_tree.specs.Names.{IsShape}
use Rattle.ctl_tree.specs.Declarations.{AreSizes, AreArraySizes, IsValue, IsConstant}
use Rattle.ctl_tree.specs.Statements.{IsBlock}
use Rattle.ctl_tree.specs.Texts.{unquoted}

-- "input" | "output"
abbrev pub direction_of : Option TokenKind → Option Direction
direction_of (Some (Word InputWord)) = Some Input
direction_of (Some (Word OutputWord)) = Some Output
direction_of _ = None

-- "uniform" | "varying"
abbrev pub level_of : Option TokenKind → Option Level
level_of (Some (Word UniformWord)) = Some Uniform
level_of (Some (Word VaryingWord)) = Some Varying
level_of _ = None

-- [ io ] [ level ] | level io
pub data AreQualifiers (lexemes : List Lexeme) : ℕ → Option Direction → Option Level → ℕ → Type 0 where
  no_qualifier : {i j : ℕ} → direction_of (kind_at lexemes i) ≡ None → level_of (kind_at lexemes i) ≡ None → j ≡ i → AreQualifiers lexemes i None None j
  direction_alone : {i j : ℕ} {direction : Direction} → direction_of (kind_at lexemes i) ≡ Some direction → level_of (kind_at lexemes (i + 1)) ≡ None → j ≡ i + 1
      → AreQualifiers lexemes i (Some direction) None j
  level_alone : {i j : ℕ} {level : Level} → level_of (kind_at lexemes i) ≡ Some level → direction_of (kind_at lexemes (i + 1)) ≡ None → j ≡ i + 1
      → AreQualifiers lexemes i None (Some level) j
  direction_first : {i j : ℕ} {direction : Direction} {level : Level} → direction_of (kind_at lexemes i) ≡ Some direction → level_of (kind_at lexemes (i + 1)) ≡ Some level
      → j ≡ i + 2 → AreQualifiers lexemes i (Some direction) (Some level) j
  level_first : {i j : ℕ} {direction : Direction} {level : Level} → level_of (kind_at lexemes i) ≡ Some level → direction_of (kind_at lexemes (i + 1)) ≡ Some direction
      → j ≡ i + 2 → AreQualifiers lexemes i (Some direction) (Some level) j

-- quals shape NAME { "[" [ expr ] "]" } [ "=" init ]: a default has the nesting of its function
pub data IsParameter (lexemes : List Lexeme) (limit : Option ℕ) : ℕ → ℕ → Parameter → ℕ → Type 0 where
  parameter : {n i j : ℕ} {direction : Option Direction} {level : Option Level} {shape : ShapeName} {name : List ℕ} {sizes : List ArraySize} {value : Option Initialiser} (k m p : ℕ)
      → AreQualifiers lexemes i direction level k → IsShape lexemes k shape m → SeesName lexemes m name → AreArraySizes lexemes limit n (m + 1) sizes p
      → IsValue lexemes limit n n p value j
      → IsParameter lexemes limit n i (record { direction = direction; level = level; shape = shape; name = name; sizes = sizes; value = value; token = m }) j

-- { "," param } ")"
pub data AreMoreParameters (lexemes : List Lexeme) (limit : Option ℕ) : ℕ → ℕ → List Parameter → ℕ → Type 0 where
  parameters_end : {n i j : ℕ} → SeesSign lexemes i CloseRound → j ≡ i + 1 → AreMoreParameters lexemes limit n i [] j
  more_parameters : {n i j : ℕ} {parameter : Parameter} {more : List Parameter} (k : ℕ) → SeesSign lexemes i Comma
      → IsParameter lexemes limit n (i + 1) parameter k → AreMoreParameters lexemes limit n k more j → AreMoreParameters lexemes limit n i (parameter ∷ more) j

-- [ param { "," param } ] ")"
pub data AreParameters (lexemes : List Lexeme) (limit : Option ℕ) : ℕ → ℕ → List Parameter → ℕ → Type 0 where
  no_parameter : {n i j : ℕ} → SeesSign lexemes i CloseRound → j ≡ i + 1 → AreParameters lexemes limit n i [] j
  parameters : {n i j : ℕ} {parameter : Parameter} {more : List Parameter} (k : ℕ) → LacksSign lexemes i CloseRound
      → IsParameter lexemes limit n i parameter k → AreMoreParameters lexemes limit n k more j → AreParameters lexemes limit n i (parameter ∷ more) j

-- "void" | shape { "[" expr "]" }
pub data IsResult (lexemes : List Lexeme) (limit : Option ℕ) : ℕ → ℕ → Option SizedShape → ℕ → Type 0 where
  no_result : {n i j : ℕ} → SeesWord lexemes i Void → j ≡ i + 1 → IsResult lexemes limit n i None j
  result : {n i j : ℕ} {shape : ShapeName} {sizes : List ArraySize} (k : ℕ) → IsShape lexemes i shape k → AreSizes lexemes limit n k sizes j
      → IsResult lexemes limit n i (Some (record { shape = shape; sizes = sizes })) j

-- result NAME "(" [ param { "," param } ] ")" block: the body is nested one deeper
pub data IsFunction (lexemes : List Lexeme) (limit : Option ℕ) : ℕ → ℕ → Function → ℕ → Type 0 where
  function : {n i j : ℕ} {result : Option SizedShape} {name : List ℕ} {parameters : List Parameter} {body : Block} (k m : ℕ)
      → IsResult lexemes limit n i result k → SeesName lexemes k name → SeesSign lexemes (k + 1) OpenRound → AreParameters lexemes limit n (k + 2) parameters m
      → Within limit (n + 1) → IsBlock lexemes limit (n + 1) m body j
      → IsFunction lexemes limit n i (record { result = result; name = name; parameters = parameters; body = body; token = k }) j

-- shape NAME { "[" expr "]" } ";"
pub data IsField (lexemes : List Lexeme) (limit : Option ℕ) : ℕ → ℕ → Field → ℕ → Type 0 where
  field_of : {n i j : ℕ} {shape : ShapeName} {name : List ℕ} {sizes : List ArraySize} (k m : ℕ) → IsShape lexemes i shape k → SeesName lexemes k name
      → AreSizes lexemes limit n (k + 1) sizes m → SeesSign lexemes m Semicolon → j ≡ m + 1
      → IsField lexemes limit n i (record { shape = shape; name = name; sizes = sizes; token = k }) j

-- { field } "}"
pub data AreMoreFields (lexemes : List Lexeme) (limit : Option ℕ) : ℕ → ℕ → List Field → ℕ → Type 0 where
  fields_end : {n i j : ℕ} → SeesSign lexemes i CloseCurly → j ≡ i + 1 → AreMoreFields lexemes limit n i [] j
  more_fields : {n i j : ℕ} {field : Field} {more : List Field} (k : ℕ) → LacksSign lexemes i CloseCurly → IsField lexemes limit n i field k
      → AreMoreFields lexemes limit n k more j → AreMoreFields lexemes limit n i (field ∷ more) j

-- [ ";" ]
pub data MayEnd (lexemes : List Lexeme) : ℕ → ℕ → Type 0 where
  unended : {i j : ℕ} → LacksSign lexemes i Semicolon → j ≡ i → MayEnd lexemes i j
  ended : {i j : ℕ} → SeesSign lexemes i Semicolon → j ≡ i + 1 → MayEnd lexemes i j

-- "struct" NAME "{" field { field } "}" [ ";" ]
pub data IsStruct (lexemes : List Lexeme) (limit : Option ℕ) : ℕ → ℕ → Struct → ℕ → Type 0 where
  structure : {n i j : ℕ} {name : List ℕ} {first : Field} {more : List Field} (k m : ℕ) → SeesWord lexemes i StructWord → SeesName lexemes (i + 1) name
      → SeesSign lexemes (i + 2) OpenCurly → IsField lexemes limit n (i + 3) first k → AreMoreFields lexemes limit n k more m → MayEnd lexemes m j
      → IsStruct lexemes limit n i (record { name = name; fields = first ∷ more; token = i + 1 }) j

-- a "}" or the end of the tokens
abbrev pub ends : Option TokenKind → Bool
ends None = true
ends (Some (SignKind CloseCurly)) = true
ends _ = false

mutual
  pub data IsDefinition (lexemes : List Lexeme) (limit : Option ℕ) : ℕ → ℕ → Definition → ℕ → Type 0 where
    -- "namespace" NAME "{" { definition } "}": a definition in it is nested one deeper
    namespace : {n i j : ℕ} {name : List ℕ} {definitions : List Definition} (k : ℕ) → SeesWord lexemes i NamespaceWord → SeesName lexemes (i + 1) name
        → SeesSign lexemes (i + 2) OpenCurly → AreDefinitions lexemes limit (n + 1) (i + 3) definitions k → SeesSign lexemes k CloseCurly → j ≡ k + 1
        → IsDefinition lexemes limit n i (Namespace (roll-Namespace (record { name = name; definitions = definitions; token = i + 1 }))) j
    struct_definition : {n i j : ℕ} {struct : Struct} → IsStruct lexemes limit n i struct j → IsDefinition lexemes limit n i (StructForm struct) j
    constant_definition : {n i j : ℕ} {constant : Constant} → IsConstant lexemes limit n i constant j → IsDefinition lexemes limit n i (ConstantForm constant) j
    function_definition : {n i j : ℕ} {function : Function} → IsFunction lexemes limit n i function j → IsDefinition lexemes limit n i (FunctionForm function) j

  -- { definition }, up to a "}" or the end of the tokens
  pub data AreDefinitions (lexemes : List Lexeme) (limit : Option ℕ) : ℕ → ℕ → List Definition → ℕ → Type 0 where
    definitions_end : {n i j : ℕ} → ends (kind_at lexemes i) ≡ true → j ≡ i → AreDefinitions lexemes limit n i [] j
    definitions : {n i j : ℕ} {definition : Definition} {more : List Definition} (k : ℕ) → Within limit n
        → IsDefinition lexemes limit n i definition k → AreDefinitions lexemes limit n k more j → AreDefinitions lexemes limit n i (definition ∷ more) j

-- "import" TEXT ";": the text stands for bytes from 32 to 126 alone
abbrev pub IsPrintable : ℕ → Type 0
IsPrintable b = (32 ≤ b) × (b ≤ 126)

-- { import }
pub data AreImports (lexemes : List Lexeme) : ℕ → List Import → ℕ → Type 0 where
  no_import : {i j : ℕ} → LacksWord lexemes i ImportWord → j ≡ i → AreImports lexemes i [] j
  imports : {i j : ℕ} {more : List Import} → SeesWord lexemes i ImportWord → kind_at lexemes (i + 1) ≡ Some TextToken → All IsPrintable (unquoted (bytes_at lexemes (i + 1)))
      → SeesSign lexemes (i + 2) Semicolon → AreImports lexemes (i + 3) more j
      → AreImports lexemes i (record { name = unquoted (bytes_at lexemes (i + 1)); token = i + 1 } ∷ more) j

-- [ "ctlversion" WHOLE ";" ]: the number is 1
pub data IsVersion (lexemes : List Lexeme) : ℕ → ℕ → Type 0 where
  no_version : {i j : ℕ} → LacksWord lexemes i Ctlversion → j ≡ i → IsVersion lexemes i j
  version : {i j : ℕ} → SeesWord lexemes i Ctlversion → kind_at lexemes (i + 1) ≡ Some (WholeToken 1) → SeesSign lexemes (i + 2) Semicolon → j ≡ i + 3
      → IsVersion lexemes i j

-- all tokens spell a module, whose definitions have nesting 0
pub data IsModule (lexemes : List Lexeme) (limit : Option ℕ) : Module → Type 0 where
  module_of : {imports : List Import} {definitions : List Definition} (i j : ℕ) → IsVersion lexemes 0 i → AreImports lexemes i imports j
      → AreDefinitions lexemes limit 0 j definitions (length lexemes) → IsModule lexemes limit (record { imports = imports; definitions = definitions })
