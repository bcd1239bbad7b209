-- What each symbol of the machine stands for, when nesting has a limit or none.
use Rattle.std.specs.Prelude.{◌≡◌, ℕ, ◌+◌, ◌<◌, ◌≤◌, ◌&&◌, List, [], ◌∷◌, ◌++◌, length, All, Bool, true, false, Option, Some, None}
use Rattle.ctl_tree.specs.declared.keyword.Keyword.TheVariants.{Else, Return as ReturnWord, Unsigned as UnsignedWord}
use Rattle.ctl_tree.specs.declared.sign.Sign.TheVariants.{OpenSquare, CloseCurly}
use Rattle.ctl_tree.specs.declared.token.TokenKind.TheVariants.{Name, Text as TextToken, Whole as WholeToken}
use Rattle.ctl_tree.specs.declared.expression.QualifiedName.{QualifiedName as NameForm}
use Rattle.ctl_tree.specs.declared.expression.Expr.{Expr as ExprForm}
use Rattle.ctl_tree.specs.declared.expression.Link.{Link}
use Rattle.ctl_tree.specs.declared.expression.Step.{Step}
use Rattle.ctl_tree.specs.declared.declaration.ShapeName.{ShapeName}
use Rattle.ctl_tree.specs.declared.declaration.ArraySize.{ArraySize as ArraySizeForm}
use Rattle.ctl_tree.specs.declared.declaration.Initialiser.{Initialiser as InitialiserForm}
use Rattle.ctl_tree.specs.declared.definition.SizedShape.{SizedShape}
use Rattle.ctl_tree.specs.declared.definition.Direction.{Direction}
use Rattle.ctl_tree.specs.declared.definition.Level.{Level}
use Rattle.ctl_tree.specs.declared.definition.Parameter.{Parameter as ParameterForm}
use Rattle.ctl_tree.specs.declared.definition.Field.{Field as FieldForm}
use Rattle.ctl_tree.specs.declared.definition.Definition.{Definition as DefinitionForm}
use Rattle.ctl_tree.specs.declared.definition.Import.{Import as ImportForm}
use Rattle.ctl_tree.specs.declared.statement.Assignment.{Assignment as AssignmentForm}
use Rattle.ctl_tree.specs.declared.statement.PrintItem.{PrintItem}
use Rattle.ctl_tree.specs.declared.statement.ForStart.{ForStart as ForStartForm}
use Rattle.ctl_tree.specs.declared.statement.Statement.{Statement as StatementForm}
use Rattle.ctl_tree.specs.declared.statement.Block.{Block as BlockForm}
use Rattle.ctl_tree.specs.declared.statement.Arm.{Arm as ArmForm}
use Rattle.ctl_tree.specs.Lexemes.{Lexeme, kind_at, bytes_at, SeesSign, SeesWord, SeesName, Within}
use Rattle.ctl_tree.specs.Texts.{unquoted}
use Rattle.ctl_tree.specs.Names.{AreNames, IsQualifiedName, IsShape, operator_levels}
use Rattle.ctl_tree.specs.Expressions.{IsOperand, AreLinks, IsUnary, IsPostfix, AreSteps, IsPrimary, AreArguments, AreMoreArguments}
use Rattle.ctl_tree.specs.Declarations.{AreSizes, AreArraySizes, IsInitialiser, AreMoreElements, IsValue}
use Rattle.ctl_tree.specs.Statements.{IsAssignment, IsItem, AreMoreItems, IsForStart, IsStatement, IsBlock, AreStatements, IsArm, AreElses}
use Rattle.ctl_tree.specs.Modules.{IsParameter, AreParameters, AreMoreParameters, IsResult, IsField, AreMoreFields, IsDefinition, AreDefinitions, AreImports, IsPrintable, AreQualifiers, direction_of, level_of, IsVersion}
use Rattle.ctl_tree.specs.Modules as Modules
use Rattle.grammar_machine.specs.Front.{is_sign}
use Rattle.grammar_machine.specs.Machine.{Symbol, Move}
use Rattle.grammar_machine.specs.Machine.Symbol.{TheSign, TheName, TheOne, ImportText, QualifiedName, MoreNames, Shape, MayInt, Operand, Links, UnaryForm, Postfix, Steps, Primary, CallOrName, Arguments, MoreArguments, Sizes, ArraySizes, ArraySize, Initialiser, MoreElements, Value, Block, Statements, Statement, AfterName, Assignment, Arm, Elses, AfterElse, ForStart, AfterForName, ReturnValue, Item, MoreItems, Qualifiers, MayLevel, MayDirection, Parameter, Parameters, MoreParameters, Result, Field, MoreFields, MayEnd, Definition, Definitions, Imports, Version, TheEnd}
use Rattle.grammar_machine.specs.Machine.Move.{Reads, Expands, Stops}
use Rattle.grammar_machine.proofs.Order.{is_ordered}

-- what a symbol stands for from one place of the tokens up to another. One that goes on with a form that has begun says what form it makes of what stands before it,
-- and one that stands only where a nesting is allowed says so of a nesting that is
abbrev pub Means : List Lexeme → Option ℕ → Symbol → ℕ → ℕ → Type 0
Means T L (TheSign sign) i j = SeesSign T i sign × (j ≡ i + 1)
Means T L TheName i j = (kind_at T i ≡ Some Name) × (j ≡ i + 1)
Means T L TheOne i j = (kind_at T i ≡ Some (WholeToken 1)) × (j ≡ i + 1)
Means T L ImportText i j = (kind_at T i ≡ Some TextToken) × All IsPrintable (unquoted (bytes_at T i)) × (j ≡ i + 1)
Means T L QualifiedName i j = (name : NameForm) × IsQualifiedName T i name j
Means T L MoreNames i j = (h : ℕ) (word : List ℕ) → i ≡ h + 1 → SeesName T h word → (spaces : List (List ℕ)) × (name : List ℕ) × AreNames T h spaces name j
Means T L Shape i j = (shape : ShapeName) × IsShape T i shape j
Means T L MayInt i j = (h : ℕ) → i ≡ h + 1 → SeesWord T h UnsignedWord → (shape : ShapeName) × IsShape T h shape j
Means T L (Operand level n) i j = level ≤ operator_levels → (e : ExprForm) × IsOperand T L level n i e j
Means T L (Links level n) i j = level < operator_levels → (links : List Link) × AreLinks T L level n i links j
Means T L (UnaryForm n) i j = (e : ExprForm) × IsUnary T L n i e j
Means T L (Postfix n) i j = (e : ExprForm) × IsPostfix T L n i e j
Means T L (Steps n) i j = (steps : List Step) × AreSteps T L n i steps j
Means T L (Primary n) i j = (e : ExprForm) × IsPrimary T L n i e j
Means T L (CallOrName n) i j = (h : ℕ) (name : NameForm) → IsQualifiedName T h name i → (e : ExprForm) × IsPrimary T L n h e j
Means T L (Arguments n) i j = (es : List ExprForm) × AreArguments T L n i es j
Means T L (MoreArguments n) i j = Within L (n + 1) → (es : List ExprForm) × AreMoreArguments T L n i es j
Means T L (Sizes n) i j = (sizes : List ArraySizeForm) × AreSizes T L n i sizes j
Means T L (ArraySizes n) i j = (sizes : List ArraySizeForm) × AreArraySizes T L n i sizes j
Means T L (ArraySize n) i j = (h p : ℕ) (more : List ArraySizeForm) → i ≡ h + 1 → SeesSign T h OpenSquare → AreArraySizes T L n j more p
    → (sizes : List ArraySizeForm) × AreArraySizes T L n h sizes p
Means T L (Initialiser n inner) i j = (value : InitialiserForm) × IsInitialiser T L n inner i value j
Means T L (MoreElements n) i j = (elements : List InitialiserForm) × AreMoreElements T L n i elements j
Means T L (Value n inner) i j = (value : Option InitialiserForm) × IsValue T L n inner i value j
Means T L (Block n) i j = (block : BlockForm) × IsBlock T L n i block j
Means T L (Statements n) i j = (statements : List StatementForm) × AreStatements T L n i statements j
Means T L (Statement n) i j = (statement : StatementForm) × IsStatement T L n i statement j
Means T L (AfterName n) i j = (h : ℕ) (root : NameForm) → IsQualifiedName T h root i → (statement : StatementForm) × IsStatement T L n h statement j
Means T L (Assignment n inner) i j = (assignment : AssignmentForm) × IsAssignment T L n inner i assignment j
Means T L (Arm n) i j = Within L (n + 1) → (arm : ArmForm) × IsArm T L n i arm j
Means T L (Elses n) i j = Within L (n + 1) → (arms : List ArmForm) × (otherwise : Option StatementForm) × AreElses T L n i arms otherwise j
Means T L (AfterElse n) i j = Within L (n + 1) → (h : ℕ) → i ≡ h + 1 → SeesWord T h Else → (arms : List ArmForm) × (otherwise : Option StatementForm) × AreElses T L n h arms otherwise j
Means T L (ForStart n) i j = (start : ForStartForm) × IsForStart T L n i start j
Means T L (AfterForName n) i j = (h : ℕ) (root : NameForm) → IsQualifiedName T h root i → (start : ForStartForm) × IsForStart T L n h start j
Means T L (ReturnValue n) i j = (h : ℕ) → i ≡ h + 1 → SeesWord T h ReturnWord → (statement : StatementForm) × IsStatement T L n h statement j
Means T L (Item n) i j = (item : PrintItem) × IsItem T L n i item j
Means T L (MoreItems n) i j = (items : List PrintItem) × AreMoreItems T L n i items j
Means T L Qualifiers i j = (direction : Option Direction) × (level : Option Level) × AreQualifiers T i direction level j
Means T L MayLevel i j = (h : ℕ) (direction : Direction) → i ≡ h + 1 → direction_of (kind_at T h) ≡ Some direction
    → (direction' : Option Direction) × (level : Option Level) × AreQualifiers T h direction' level j
Means T L MayDirection i j = (h : ℕ) (level : Level) → i ≡ h + 1 → level_of (kind_at T h) ≡ Some level
    → (direction : Option Direction) × (level' : Option Level) × AreQualifiers T h direction level' j
Means T L (Parameter n) i j = (parameter : ParameterForm) × IsParameter T L n i parameter j
Means T L (Parameters n) i j = (parameters : List ParameterForm) × AreParameters T L n i parameters j
Means T L (MoreParameters n) i j = (parameters : List ParameterForm) × AreMoreParameters T L n i parameters j
Means T L (Result n) i j = (result : Option SizedShape) × IsResult T L n i result j
Means T L (Field n) i j = (field : FieldForm) × IsField T L n i field j
Means T L (MoreFields n) i j = (fields : List FieldForm) × AreMoreFields T L n i fields j
Means T L MayEnd i j = Modules.MayEnd T i j
Means T L (Definition n) i j = (definition : DefinitionForm) × IsDefinition T L n i definition j
Means T L (Definitions n) i j = (definitions : List DefinitionForm) × AreDefinitions T L n i definitions j
Means T L Imports i j = (imports : List ImportForm) × AreImports T i imports j
Means T L Version i j = IsVersion T i j
Means T L TheEnd i j = (kind_at T i ≡ None) × (j ≡ i)

-- what symbols stand for one after the other, from one place up to another
abbrev pub MeansFrom : List Lexeme → Option ℕ → List Symbol → ℕ → ℕ → Type 0
MeansFrom T L [] i j = j ≡ i
MeansFrom T L (x ∷ []) i j = Means T L x i j
MeansFrom T L (x ∷ y ∷ ys) i j = (k : ℕ) × Means T L x i k × MeansFrom T L (y ∷ ys) k j

-- what a whole stack stands for: all tokens from a place on
abbrev pub MeansAll : List Lexeme → Option ℕ → List Symbol → ℕ → Type 0
MeansAll T L [] i = i ≡ length T
MeansAll T L (x ∷ xs) i = (j : ℕ) × Means T L x i j × MeansAll T L xs j

-- definitions end before a curly bracket that closes them, or before the end
abbrev pub closes : List Symbol → Bool
closes (TheSign CloseCurly ∷ below) = true
closes (TheEnd ∷ below) = true
closes _ = false

abbrev pub is_last : List Symbol → Bool
is_last [] = true
is_last _ = false

-- the stack has only signs that are looked for, definitions where they can end, and the end last
abbrev pub fits : List Symbol → Bool
fits [] = true
fits (TheSign sign ∷ below) = is_sign sign sign && fits below
fits (Definitions n ∷ below) = closes below && fits below
fits (TheEnd ∷ below) = is_last below
fits (_ ∷ below) = fits below

-- the move of a symbol at a place is right: where the nesting that it makes unavoidable is allowed, what the symbols that it puts in the symbol's place stand for
-- is what that one stands for; they fit, and where no token is read they are in order
abbrev pub Sound : List Lexeme → Option ℕ → ℕ → Symbol → Move → Type 0
Sound T L i x (Reads m symbols) = (Within L m → (j : ℕ) → MeansFrom T L symbols (i + 1) j → Means T L x i j)
    × ((below : List Symbol) → fits (x ∷ below) ≡ true → fits (symbols ++ below) ≡ true) × (is_ordered x (Reads m symbols) ≡ true)
Sound T L i x (Expands m symbols) = (Within L m → (j : ℕ) → MeansFrom T L symbols i j → Means T L x i j)
    × ((below : List Symbol) → fits (x ∷ below) ≡ true → fits (symbols ++ below) ≡ true) × (is_ordered x (Expands m symbols) ≡ true)
Sound T L i x Stops = Unit {0}
