-- What completes a symbol stands for it, and what completes a stack stands for the stack.
use Rattle.std.proofs.Common.{◌≡◌, ℕ, zero, suc, ◌+◌, ◌-◌, true, List, [], ◌∷◌, ◌++◌, length, sym, ap, subst, ◌∙◌, refl, Option, Some, None, option_map, map, slice_get, append_assoc, append-nil, length-append, arith}
use Rattle.std.proofs.lemmas.List.{map-append, length-map}
use Rattle.ctl_tree.specs.declared.keyword.Keyword.TheVariants.{Bool as BoolWord, Const, Void}
use Rattle.ctl_tree.specs.declared.sign.Sign.TheVariants.{OpenRound, CloseRound, CloseSquare, OpenCurly, CloseCurly, Semicolon, Assign}
use Rattle.ctl_tree.specs.declared.token.TokenKind.{TokenKind}
use Rattle.ctl_tree.specs.declared.token.TokenKind.TheVariants.{Word, Name, Whole, Text as TextToken, Sign as SignKind}
use Rattle.ctl_tree.specs.declared.expression.LiteralValue.TheVariants.{Whole as WholeValue}
use Rattle.ctl_tree.specs.declared.expression.Expr.{Expr as ExprForm}
use Rattle.ctl_tree.specs.Lexemes.{Lexeme, kind_at, bytes_at, SeesSign}
use Rattle.ctl_tree.specs.Texts.{unquoted}
use Rattle.ctl_tree.specs.Names.{unary_operator_of, operator_levels}
use Rattle.ctl_tree.specs.Expressions.{IsOperand}
use Rattle.ctl_tree.specs.Expressions.IsOperand.{alone, tightest}
use Rattle.ctl_tree.specs.Expressions.AreLinks.{no_link}
use Rattle.ctl_tree.specs.Expressions.AreSteps.{no_step}
use Rattle.ctl_tree.specs.Declarations.AreSizes.{no_size}
use Rattle.ctl_tree.specs.Declarations.AreArraySizes.{no_array_size}
use Rattle.ctl_tree.specs.Statements.AreElses.{no_else}
use Rattle.ctl_tree.specs.Modules.{ends}
use Rattle.ctl_tree.specs.Modules.AreQualifiers.{no_qualifier}
use Rattle.ctl_tree.specs.Modules.AreDefinitions.{definitions_end}
use Rattle.ctl_tree.specs.Modules.AreImports.{no_import}
use Rattle.ctl_tree.specs.Modules.IsVersion.{no_version}
use Rattle.grammar_machine.specs.Front.{sees, is_printable_text}
use Rattle.grammar_machine.specs.Machine.{Symbol, Expr}
use Rattle.grammar_machine.specs.Machine.Symbol.{TheSign, TheName, TheOne, ImportText, QualifiedName, MoreNames, Shape, MayInt, Operand, Links, UnaryForm, Postfix, Steps, Primary, CallOrName, Arguments, MoreArguments, Sizes, ArraySizes, ArraySize, Initialiser, MoreElements, Value, Block, Statements, Statement, AfterName, Assignment, Arm, Elses, AfterElse, ForStart, AfterForName, ReturnValue, Item, MoreItems, Qualifiers, MayLevel, MayDirection, Parameter, Parameters, MoreParameters, Result, Field, MoreFields, MayEnd, Definition, Definitions, Imports, Version, TheEnd}
use Rattle.grammar_machine.proofs.Reach.{within_none}
use Rattle.grammar_machine.proofs.Meaning.{Means, MeansFrom, MeansAll, fits}
use Rattle.grammar_machine.proofs.Tokens.{printable_all}
use Rattle.grammar_machine.proofs.SoundNames.{last_at, sound_qualified, sound_shape, may_int_none}
use Rattle.grammar_machine.proofs.SoundExpressions.{sound_unary, sound_postfix, sound_primary, sound_call_or_name, sound_arguments, sound_more_arguments}
use Rattle.grammar_machine.proofs.SoundDeclarations.{sound_array_size, sound_initialiser, sound_more_elements, sound_value}
use Rattle.grammar_machine.proofs.SoundStatements.{sound_block, sound_statements, sound_statement, sound_after_name, sound_assignment, sound_arm, sound_after_else, sound_for_start, sound_after_for_name, sound_return, sound_item, sound_more_items}
use Rattle.grammar_machine.proofs.SoundDefinitions.{sound_may_level, sound_may_direction, parameter_of, sound_parameters, sound_more_parameters, sound_result, field_after, sound_more_fields, sound_may_end, sound_definition}
use Rattle.grammar_machine.proofs.Completion.{sample, complete, completes, quiet, apart, quiet_operator, quiet_direction, quiet_level, quiet_front, IsBefore, before_front, fits_below, Stands, get_after, stands_at}

-- the token at a place is quiet
abbrev pub Quiet : List Lexeme → ℕ → Type 0
Quiet T i = quiet (kind_at T i) ≡ true

-- so is one that is of a quiet kind
pub quiet_at : (T : List Lexeme) (i : ℕ) (k : Option TokenKind) → quiet k ≡ true → kind_at T i ≡ k → Quiet T i
quiet_at T i k q e = ap quiet e ∙ q

-- forms of no token

pub more_names_none : (T : List Lexeme) (L : Option ℕ) (i j : ℕ) → j ≡ i → Quiet T i → Means T L MoreNames i j
more_names_none T L i j e q = last_at T L i j (apart q refl) e

pub steps_none : (T : List Lexeme) (L : Option ℕ) (n i j : ℕ) → j ≡ i → Quiet T i → Means T L (Steps n) i j
steps_none T L n i j e q = ([], no_step (apart q refl) (apart q refl) e)

pub links_none : (T : List Lexeme) (L : Option ℕ) (level n i j : ℕ) → j ≡ i → Quiet T i → Means T L (Links level n) i j
links_none T L level n i j e q lt = ([], no_link (quiet_operator level (kind_at T i) q) e)

pub sizes_none : (T : List Lexeme) (L : Option ℕ) (n i j : ℕ) → j ≡ i → Quiet T i → Means T L (Sizes n) i j
sizes_none T L n i j e q = ([], no_size (apart q refl) e)

pub array_sizes_none : (T : List Lexeme) (L : Option ℕ) (n i j : ℕ) → j ≡ i → Quiet T i → Means T L (ArraySizes n) i j
array_sizes_none T L n i j e q = ([], no_array_size (apart q refl) e)

pub qualifiers_none : (T : List Lexeme) (L : Option ℕ) (i j : ℕ) → j ≡ i → Quiet T i → Means T L Qualifiers i j
qualifiers_none T L i j e q = (None, None, no_qualifier (quiet_direction (kind_at T i) q) (quiet_level (kind_at T i) q) e)

-- forms of one token before a quiet one

pub name_one : (T : List Lexeme) (L : Option ℕ) (i j : ℕ) → kind_at T i ≡ Some Name → j ≡ i + 1 → Quiet T (i + 1) → Means T L QualifiedName i j
name_one T L i j e h q = (sound_qualified T L i (Some Name) e).0 (within_none L) j (more_names_none T L (i + 1) j h q)

pub shape_one : (T : List Lexeme) (L : Option ℕ) (i j : ℕ) → kind_at T i ≡ Some (Word BoolWord) → j ≡ i + 1 → Means T L Shape i j
shape_one T L i j e h = (sound_shape T L i (Some (Word BoolWord)) e).0 (within_none L) j h

pub primary_one : (T : List Lexeme) (L : Option ℕ) (n i j : ℕ) → kind_at T i ≡ Some (Whole 0) → j ≡ i + 1 → Means T L (Primary n) i j
primary_one T L n i j e h = (sound_primary T L i n (Some (Whole 0)) (Some (WholeValue 0)) e refl).0 (within_none L) j h

pub postfix_one : (T : List Lexeme) (L : Option ℕ) (n i j : ℕ) → kind_at T i ≡ Some (Whole 0) → j ≡ i + 1 → Quiet T j → Means T L (Postfix n) i j
postfix_one T L n i j e h q = (sound_postfix T L i n).0 (within_none L) j (j, primary_one T L n i j e h, steps_none T L n j j refl q)

pub unary_one : (T : List Lexeme) (L : Option ℕ) (n i j : ℕ) → kind_at T i ≡ Some (Whole 0) → j ≡ i + 1 → Quiet T j → Means T L (UnaryForm n) i j
unary_one T L n i j e h q = (sound_unary T L i n None (ap unary_operator_of e)).0 (within_none L) j (postfix_one T L n i j e h q)

pub levels_one : (d : ℕ) (T : List Lexeme) (L : Option ℕ) (level n i j : ℕ) → level + d ≡ operator_levels → kind_at T i ≡ Some (Whole 0) → j ≡ i + 1 → Quiet T j
    → (e : ExprForm) × IsOperand T L level n i e j
levels_one zero T L level n i j left e h q = (_, tightest (omega arith) (unary_one T L n i j e h q).1)
levels_one (suc d) T L level n i j left e h q = (_, alone (omega arith) (levels_one d T L (level + 1) n i j (omega arith) e h q).1 (quiet_operator level (kind_at T j) q))

pub operand_one : (T : List Lexeme) (L : Option ℕ) (level n i j : ℕ) → kind_at T i ≡ Some (Whole 0) → j ≡ i + 1 → Quiet T j → Means T L (Operand level n) i j
operand_one T L level n i j e h q le = levels_one (operator_levels - level) T L level n i j (omega arith) e h q

pub initialiser_one : (T : List Lexeme) (L : Option ℕ) (n inner i j : ℕ) → kind_at T i ≡ Some (Whole 0) → j ≡ i + 1 → Quiet T j → Means T L (Initialiser n inner) i j
initialiser_one T L n inner i j e h q = (sound_initialiser T L i n inner (Some (Whole 0)) e).0 (within_none L) j (operand_one T L 0 inner i j e h q)

-- forms of some tokens

pub assigned_two : (T : List Lexeme) (L : Option ℕ) (n inner i j : ℕ) → SeesSign T i Assign → kind_at T (i + 1) ≡ Some (Whole 0) → j ≡ i + 1 + 1 → Quiet T j → Means T L (Value n inner) i j
assigned_two T L n inner i j e z h q = (sound_value T L i n inner (Some (SignKind Assign)) e).0 (within_none L) j (initialiser_one T L n inner (i + 1) j z h q)

-- steps, an assignment sign, an expression
pub placed : (T : List Lexeme) (L : Option ℕ) (n inner i j : ℕ) → SeesSign T i Assign → kind_at T (i + 1) ≡ Some (Whole 0) → j ≡ i + 1 + 1 → Quiet T j
    → MeansFrom T L (Steps n ∷ TheSign Assign ∷ Expr inner ∷ []) i j
placed T L n inner i j e z h q = (i, steps_none T L n i i refl (quiet_at T i _ refl e), (i + 1, (e, refl), operand_one T L 0 inner (i + 1) j z h q))

-- the same with a semicolon
pub placed_end : (T : List Lexeme) (L : Option ℕ) (n inner i j : ℕ) → SeesSign T i Assign → kind_at T (i + 1) ≡ Some (Whole 0) → SeesSign T (i + 1 + 1) Semicolon → j ≡ i + 1 + 1 + 1
    → MeansFrom T L (Steps n ∷ TheSign Assign ∷ Expr inner ∷ TheSign Semicolon ∷ []) i j
placed_end T L n inner i j e z s h =
    (i, steps_none T L n i i refl (quiet_at T i _ refl e), (i + 1, (e, refl), (i + 1 + 1, operand_one T L 0 inner (i + 1) (i + 1 + 1) z refl (quiet_at T (i + 1 + 1) _ refl s), (s, h))))

-- what completes a symbol stands for it, if a quiet token comes after it
pub completed : (T : List Lexeme) (L : Option ℕ) (x : Symbol) (i j : ℕ) → Stands T i (complete x) j → Quiet T j → IsBefore x (kind_at T j) → Means T L x i j
completed T L (TheSign sign) i j h q d = (h.0, h.2)
completed T L TheName i j h q d = (h.0, h.2)
completed T L TheOne i j h q d = (h.0, h.2)
completed T L ImportText i j h q d = (h.0, printable_all (unquoted (bytes_at T i)) (ap is_printable_text h.1), h.2)
completed T L QualifiedName i j h q d = name_one T L i j h.0 h.2 (subst (λ p. Quiet T p) h.2 q)
completed T L MoreNames i j h q d = more_names_none T L i j h (subst (λ p. Quiet T p) h q)
completed T L Shape i j h q d = shape_one T L i j h.0 h.2
completed T L MayInt i j h q d = may_int_none T L i j (apart (subst (λ p. Quiet T p) h q) refl) h
completed T L (Operand level n) i j h q d = operand_one T L level n i j h.0 h.2 q
completed T L (Links level n) i j h q d = links_none T L level n i j h (subst (λ p. Quiet T p) h q)
completed T L (UnaryForm n) i j h q d = unary_one T L n i j h.0 h.2 q
completed T L (Postfix n) i j h q d = postfix_one T L n i j h.0 h.2 q
completed T L (Steps n) i j h q d = steps_none T L n i j h (subst (λ p. Quiet T p) h q)
completed T L (Primary n) i j h q d = primary_one T L n i j h.0 h.2
completed T L (CallOrName n) i j h q d = (sound_call_or_name T L i n (Some (SignKind OpenRound)) h.0).0 (within_none L) j ((sound_arguments T L (i + 1) n (Some (SignKind CloseRound)) h.2.0).0 (within_none L) j h.2.2)
completed T L (Arguments n) i j h q d = (sound_arguments T L i n (Some (SignKind CloseRound)) h.0).0 (within_none L) j h.2
completed T L (MoreArguments n) i j h q d = (sound_more_arguments T L i n (Some (SignKind CloseRound)) h.0).0 (within_none L) j h.2
completed T L (Sizes n) i j h q d = sizes_none T L n i j h (subst (λ p. Quiet T p) h q)
completed T L (ArraySizes n) i j h q d = array_sizes_none T L n i j h (subst (λ p. Quiet T p) h q)
completed T L (ArraySize n) i j h q d = (sound_array_size T L i n (Some (SignKind CloseSquare)) h.0).0 (within_none L) j h.2
completed T L (Initialiser n inner) i j h q d = initialiser_one T L n inner i j h.0 h.2 q
completed T L (MoreElements n) i j h q d = (sound_more_elements T L i n (Some (SignKind CloseCurly)) h.0).0 (within_none L) j h.2
completed T L (Value n inner) i j h q d = assigned_two T L n inner i j h.0 h.2.0 h.2.2 q
completed T L (Block n) i j h q d = (sound_block T L i n true (ap (sees OpenCurly) h.0)).0 (within_none L) j ((sound_statements T L (i + 1) n (Some (SignKind CloseCurly)) h.2.0).0 (within_none L) j h.2.2)
completed T L (Statements n) i j h q d = (sound_statements T L i n (Some (SignKind CloseCurly)) h.0).0 (within_none L) j h.2
completed T L (Statement n) i j h q d = (sound_statement T L i n (Some (SignKind Semicolon)) h.0).0 (within_none L) j h.2
completed T L (AfterName n) i j h q d = (sound_after_name T L i n (Some (SignKind Assign)) h.0).0 (within_none L) j (placed_end T L n n i j h.0 h.2.0 h.2.2.0 h.2.2.2)
completed T L (Assignment n inner) i j h q d = (sound_assignment T L i n inner).0 (within_none L) j
    (i + 1, name_one T L i (i + 1) h.0 refl (quiet_at T (i + 1) _ refl h.2.0), placed T L n inner (i + 1) j h.2.0 h.2.2.0 h.2.2.2 q)
completed T L (Arm n) i j h q d = (sound_arm T L i n true (ap (sees OpenRound) h.0)).0 (within_none L) j (
  i + 1 + 1,
  operand_one T L 0 (n + 1) (i + 1) (i + 1 + 1) h.2.0 refl (quiet_at T (i + 1 + 1) _ refl h.2.2.0),
  (i + 1 + 1 + 1, (h.2.2.0, refl), (sound_statement T L (i + 1 + 1 + 1) (n + 1) (Some (SignKind Semicolon)) h.2.2.2.0).0 (within_none L) j h.2.2.2.2),
)
completed T L (Elses n) i j h q d = λ within. ([], None, no_else (apart (subst (λ p. Quiet T p) h q) refl) h)
completed T L (AfterElse n) i j h q d = (sound_after_else T L i n (Some (SignKind Semicolon)) h.0).0 (within_none L) j ((sound_statement T L i (n + 1) (Some (SignKind Semicolon)) h.0).0 (within_none L) j h.2)
completed T L (ForStart n) i j h q d = (sound_for_start T L i n (Some Name) h.0).0 (within_none L) j (
  i + 1,
  name_one T L i (i + 1) h.0 refl (quiet_at T (i + 1) _ refl h.2.0),
  (sound_after_for_name T L (i + 1) n (Some (SignKind Assign)) h.2.0).0 (within_none L) j (placed_end T L n (n + 1) (i + 1) j h.2.0 h.2.2.0 h.2.2.2.0 h.2.2.2.2),
)
completed T L (AfterForName n) i j h q d = (sound_after_for_name T L i n (Some (SignKind Assign)) h.0).0 (within_none L) j (placed_end T L n (n + 1) i j h.0 h.2.0 h.2.2.0 h.2.2.2)
completed T L (ReturnValue n) i j h q d = (sound_return T L i n (Some (SignKind Semicolon)) h.0).0 (within_none L) j h.2
completed T L (Item n) i j h q d = (sound_item T L i n (Some TextToken) h.0).0 (within_none L) j h.2
completed T L (MoreItems n) i j h q d = (sound_more_items T L i n (Some (SignKind CloseRound)) h.0).0 (within_none L) j (h.2.0, h.2.2)
completed T L Qualifiers i j h q d = qualifiers_none T L i j h (subst (λ p. Quiet T p) h q)
completed T L MayLevel i j h q d = (sound_may_level T L i None (quiet_level (kind_at T i) (subst (λ p. Quiet T p) h q))).0 (within_none L) j h
completed T L MayDirection i j h q d = (sound_may_direction T L i None (quiet_direction (kind_at T i) (subst (λ p. Quiet T p) h q))).0 (within_none L) j h
completed T L (Parameter n) i j h q d = parameter_of T L i n j (
  i,
  qualifiers_none T L i i refl (quiet_at T i _ refl h.0),
  (
    i + 1,
    shape_one T L i (i + 1) h.0 refl,
    (
      i + 1 + 1,
      (h.2.0, refl),
      (i + 1 + 1, array_sizes_none T L n (i + 1 + 1) (i + 1 + 1) refl (quiet_at T (i + 1 + 1) _ refl h.2.2.0), assigned_two T L n n (i + 1 + 1) j h.2.2.0 h.2.2.2.0 h.2.2.2.2 q),
    ),
  ),
)
completed T L (Parameters n) i j h q d = (sound_parameters T L i n (Some (SignKind CloseRound)) h.0).0 (within_none L) j h.2
completed T L (MoreParameters n) i j h q d = (sound_more_parameters T L i n (Some (SignKind CloseRound)) h.0).0 (within_none L) j h.2
completed T L (Result n) i j h q d = (sound_result T L i n (Some (Word Void)) h.0).0 (within_none L) j h.2
completed T L (Field n) i j h q d = field_after T L i n j (
  i + 1,
  shape_one T L i (i + 1) h.0 refl,
  (
    i + 1 + 1,
    (h.2.0, refl),
    (i + 1 + 1, sizes_none T L n (i + 1 + 1) (i + 1 + 1) refl (quiet_at T (i + 1 + 1) _ refl h.2.2.0), (h.2.2.0, h.2.2.2)),
  ),
)
completed T L (MoreFields n) i j h q d = (sound_more_fields T L i n (Some (SignKind CloseCurly)) h.0).0 (within_none L) j h.2
completed T L MayEnd i j h q d = (sound_may_end T L i (Some (SignKind Semicolon)) h.0).0 (within_none L) j h.2
completed T L (Definition n) i j h q d = (sound_definition T L i n (Some (Word Const)) h.0).0 (within_none L) j (
  i + 1 + 1,
  shape_one T L (i + 1) (i + 1 + 1) h.2.0 refl,
  (
    i + 1 + 1 + 1,
    (h.2.2.0, refl),
    (
      i + 1 + 1 + 1,
      array_sizes_none T L n (i + 1 + 1 + 1) (i + 1 + 1 + 1) refl (quiet_at T (i + 1 + 1 + 1) _ refl h.2.2.2.0),
      (
        i + 1 + 1 + 1 + 1,
        (h.2.2.2.0, refl),
        (
          i + 1 + 1 + 1 + 1 + 1,
          initialiser_one T L n n (i + 1 + 1 + 1 + 1) (i + 1 + 1 + 1 + 1 + 1) h.2.2.2.2.0 refl (quiet_at T (i + 1 + 1 + 1 + 1 + 1) _ refl h.2.2.2.2.2.0),
          (h.2.2.2.2.2.0, h.2.2.2.2.2.2),
        ),
      ),
    ),
  ),
)
completed T L (Definitions n) i j h q d = ([], definitions_end (subst (λ p. ends (kind_at T p) ≡ true) h d) h)
completed T L Imports i j h q d = ([], no_import (apart (subst (λ p. Quiet T p) h q) refl) h)
completed T L Version i j h q d = no_version (apart (subst (λ p. Quiet T p) h q) refl) h
completed T L TheEnd i j h q d = (subst (λ p. kind_at T p ≡ None) h d, h)

-- the kind of the first of some tokens
front_kind : (kinds : List TokenKind) → option_map (λ (lexeme : Lexeme). lexeme.kind) (slice_get (map sample kinds) 0) ≡ slice_get kinds 0
front_kind [] = refl
front_kind (kind ∷ kinds) = refl

-- what completes a stack stands for it, whatever stands before
pub all_completed : (stack : List Symbol) → fits stack ≡ true → (L : Option ℕ) (p T : List Lexeme) (i : ℕ) → T ≡ p ++ map sample (completes stack) → i ≡ length p → MeansAll T L stack i
all_completed [] f L p T i et ei = ei ∙ ap length (sym (append-nil p)) ∙ ap length (sym et)
all_completed (x ∷ xs) f L p T i et ei =
    let q : List Lexeme = p ++ map sample (complete x) in
    let j : ℕ = length q in
    let split : T ≡ p ++ (map sample (complete x) ++ map sample (completes xs)) = et ∙ ap (λ more. p ++ more) (map-append sample (complete x) (completes xs)) in
    let at : T ≡ q ++ map sample (completes xs) = split ∙ sym (append_assoc p (map sample (complete x)) (map sample (completes xs))) in
    let next : kind_at T j ≡ slice_get (completes xs) 0 =
    ap (λ t. kind_at t j) at ∙ ap (option_map (λ (lexeme : Lexeme). lexeme.kind)) (get_after q (map sample (completes xs))) ∙ front_kind (completes xs) in (
      j,
      completed T L x i j (stands_at (complete x) (map sample (completes xs)) p T i j split ei (length-append p (map sample (complete x)) ∙ ap (λ n. length p + n) (length-map (complete x) sample)))
          (ap quiet next ∙ quiet_front xs (fits_below x xs f)) (subst (λ k. IsBefore x k) (sym next) (before_front x xs f)),
      all_completed xs (fits_below x xs f) L q T j at refl,
    )
