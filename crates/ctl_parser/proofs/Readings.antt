-- Forms that have been read in parts.
use Rattle.std.proofs.Common.{◌≡◌, ℕ, ◌+◌, All, List, ◌∷◌, Option, Some, None, sym, subst, refl}
use Rattle.ctl_tree.specs.declared.token.TokenKind.{TokenKind}
use Rattle.ctl_tree.specs.declared.keyword.Keyword.TheVariants.{Print as PrintWord, Import as ImportWord, Uniform, Varying}
use Rattle.ctl_tree.specs.declared.token.TokenKind.TheVariants.{Word, Text}
use Rattle.ctl_tree.specs.declared.sign.Sign.TheVariants.{OpenRound, Semicolon}
use Rattle.ctl_tree.specs.declared.definition.Level.{Level}
use Rattle.ctl_tree.specs.declared.definition.Import.{Import}
use Rattle.ctl_tree.specs.Texts.{unquoted}
use Rattle.ctl_tree.specs.declared.definition.Field.{Field}
use Rattle.ctl_tree.specs.declared.statement.PrintItem.{PrintItem}
use Rattle.ctl_tree.specs.declared.statement.ForStart.{ForStart}
use Rattle.ctl_tree.specs.declared.statement.ForStart.TheVariants.{Variable, Assignment}
use Rattle.ctl_tree.specs.declared.declaration.Variable.{Variable as VariableForm}
use Rattle.ctl_tree.specs.declared.statement.Assignment.{Assignment as AssignmentForm}
use Rattle.ctl_tree.specs.declared.statement.Statement.TheVariants.{Print, Variable as VariableStatement, Assignment as AssignmentStatement}
use Rattle.ctl_tree.specs.Lexemes.{Lexeme, kind_at, bytes_at, SeesSign, SeesWord, SeesName}
use Rattle.ctl_tree.specs.Statements.{IsItem, AreMoreItems, IsStatement, variable_statement, assignment_statement, print_statement, IsForStart, variable_start, assignment_start}
use Rattle.ctl_tree.specs.declared.keyword.Keyword.TheVariants.{Struct as StructWord}
use Rattle.ctl_tree.specs.declared.sign.Sign.TheVariants.{OpenCurly}
use Rattle.ctl_tree.specs.Modules.{IsPrintable, AreImports, imports, IsField, AreMoreFields, MayEnd, IsStruct, structure, direction_of, level_of}
use Rattle.ctl_parser.specs.PrivateParts.{Several, several, IsDeclaredOrAssigned}

module _ {T : List Lexeme} {L : Option ℕ} {n i : ℕ} where
  pub printed : {items : List PrintItem} {j : ℕ} → SeesWord T i PrintWord → SeesSign T (i + 1) OpenRound → Several (IsItem T L n) (AreMoreItems T L n) (i + 2) items j
      → IsStatement T L n i (Print (record { items = items; token = i })) j
  printed word bracket (several k h are) = print_statement k word bracket h are

  pub structured : {name : List ℕ} {fields : List Field} {m j : ℕ} → SeesWord T i StructWord → SeesName T (i + 1) name → SeesSign T (i + 2) OpenCurly
      → Several (IsField T L n) (AreMoreFields T L n) (i + 3) fields m → MayEnd T m j → IsStruct T L n i (record { name = name; fields = fields; token = i + 1 }) j
  structured word name bracket (several k h are) end = structure k _ word name bracket h are end

  pub started : (start : ForStart) {j : ℕ} → IsDeclaredOrAssigned T L n (n + 1) i start j → IsForStart T L n i start j
  started (Variable variable) h = variable_start h
  started (Assignment assignment) (k, h, end, is) = assignment_start k h end is

module _ {T : List Lexeme} {L : Option ℕ} {n i j : ℕ} {form : ForStart} where
  pub declared : {variable : VariableForm} → form ≡ Variable variable → IsDeclaredOrAssigned T L n n i form j → IsStatement T L n i (VariableStatement variable) j
  declared is h = variable_statement (subst (λ form. IsDeclaredOrAssigned T L n n i form j) is h)

  pub assigned : {assignment : AssignmentForm} → form ≡ Assignment assignment → IsDeclaredOrAssigned T L n n i form j → IsStatement T L n i (AssignmentStatement assignment) j
  assigned is h = let parts = subst (λ form. IsDeclaredOrAssigned T L n n i form j) is h in assignment_statement parts.0 parts.1 parts.2 parts.3

-- an import before others
pub imported : {T : List Lexeme} {i j : ℕ} {name : List ℕ} {more : List Import} → SeesWord T i ImportWord → kind_at T (i + 1) ≡ Some Text → name ≡ unquoted (bytes_at T (i + 1)) → All IsPrintable name
    → SeesSign T (i + 2) Semicolon → AreImports T (i + 3) more j → AreImports T i (record { name = name; token = i + 1 } ∷ more) j
imported {T} {i} {j} {name} {more} word text is shown end are =
    subst (λ name. AreImports T i (record { name = name; token = i + 1 } ∷ more) j) (sym is) (imports word text (subst (All IsPrintable) is shown) end are)

-- a level is no direction
pub level_only : (k : Option TokenKind) (level : Level) → level_of k ≡ Some level → direction_of k ≡ None
level_only (Some (Word Uniform)) level e = refl
level_only (Some (Word Varying)) level e = refl
level_only _ level e = absurd cc
