-- The moves of definitions are right, and so is every move.
use Rattle.std.proofs.Common.{◌≡◌, ℕ, ◌+◌, Bool, true, false, List, [], ◌∷◌, nat_lt, ap, subst, ◌∙◌, refl, Option, Some, None}
use Rattle.std.proofs.lemmas.Bool.{and_parts, false≢true}
use Rattle.ctl_tree.specs.declared.keyword.Keyword.TheVariants.{Const, Ctlversion, Import as ImportWord, Namespace as NamespaceWord, Struct as StructWord, Void}
use Rattle.ctl_tree.specs.declared.sign.Sign.TheVariants.{OpenRound, CloseRound, OpenCurly, CloseCurly, Comma, Semicolon}
use Rattle.ctl_tree.specs.declared.token.TokenKind.{TokenKind}
use Rattle.ctl_tree.specs.declared.token.TokenKind.TheVariants.{Word, Sign as SignKind}
use Rattle.ctl_tree.specs.declared.definition.Direction.{Direction}
use Rattle.ctl_tree.specs.declared.definition.Level.{Level}
use Rattle.ctl_tree.specs.Lexemes.{Lexeme, kind_at, bytes_at, Within}
use Rattle.ctl_tree.specs.Names.{literal_of, unary_operator_of, operator_levels, operator_of}
use Rattle.ctl_tree.specs.Declarations.{AreSizes, AreArraySizes}
use Rattle.ctl_tree.specs.Modules.{direction_of, level_of, AreParameters, IsField, ends, AreDefinitions, AreImports}
use Rattle.ctl_tree.specs.Modules.AreQualifiers.{no_qualifier, direction_alone, level_alone, direction_first, level_first}
use Rattle.ctl_tree.specs.Modules.IsParameter.{parameter}
use Rattle.ctl_tree.specs.Modules.AreMoreParameters.{parameters_end, more_parameters}
use Rattle.ctl_tree.specs.Modules.AreParameters.{no_parameter, parameters}
use Rattle.ctl_tree.specs.Modules.IsResult.{no_result, result}
use Rattle.ctl_tree.specs.Modules.IsFunction.{function}
use Rattle.ctl_tree.specs.Modules.IsField.{field_of}
use Rattle.ctl_tree.specs.Modules.AreMoreFields.{fields_end, more_fields}
use Rattle.ctl_tree.specs.Modules.MayEnd.{unended, ended}
use Rattle.ctl_tree.specs.Modules.IsStruct.{structure}
use Rattle.ctl_tree.specs.Modules.IsDefinition.{namespace, struct_definition, constant_definition, function_definition}
use Rattle.ctl_tree.specs.Modules.AreDefinitions.{definitions_end, definitions}
use Rattle.ctl_tree.specs.Modules.AreImports.{no_import, imports}
use Rattle.ctl_tree.specs.Modules.IsVersion.{no_version, version}
use Rattle.grammar_machine.specs.Front.{is_printable_text, sees, begins_result}
use Rattle.grammar_machine.specs.Machine.{Symbol, move, after_direction, may_level_move, may_direction_move, parameters_move, more_parameters_move, result_move, more_fields_move, may_end_move, definition_move, begins_definition, definitions_move, imports_move, version_move, end_move}
use Rattle.grammar_machine.specs.Machine.Symbol.{TheSign, TheName, TheOne, ImportText, QualifiedName, MoreNames, Shape, MayInt, Operand, Links, UnaryForm, Postfix, Steps, Primary, CallOrName, Arguments, MoreArguments, Sizes, ArraySizes, ArraySize, Initialiser, MoreElements, Value, Block, Statements, Statement, AfterName, Assignment, Arm, Elses, AfterElse, ForStart, AfterForName, ReturnValue, Item, MoreItems, Qualifiers, MayLevel, MayDirection, Parameter, Parameters, MoreParameters, Result, Field, MoreFields, MayEnd, Definition, Definitions, Imports, Version, TheEnd}
use Rattle.grammar_machine.specs.Machine.Move.{Expands}
use Rattle.grammar_machine.proofs.Meaning.{Means, MeansFrom, Sound, fits, is_last}
use Rattle.grammar_machine.proofs.Steps.{two}
use Rattle.grammar_machine.proofs.Tokens.{lacks, is_read, after_three, sound_first}
use Rattle.grammar_machine.proofs.SoundNames.{sound_sign, sound_name, sound_one, sound_import_text, sound_qualified, sound_more_names, sound_shape, sound_may_int}
use Rattle.grammar_machine.proofs.SoundExpressions.{sound_operand, sound_links, sound_unary, sound_postfix, sound_steps, sound_primary, sound_call_or_name, sound_arguments, sound_more_arguments}
use Rattle.grammar_machine.proofs.SoundDeclarations.{sound_sizes, sound_array_sizes, sound_array_size, sound_initialiser, sound_more_elements, sound_value, constant_after}
use Rattle.grammar_machine.proofs.SoundStatements.{sound_block, sound_statements, sound_statement, sound_after_name, sound_assignment, sound_arm, sound_elses, sound_after_else, sound_for_start, sound_after_for_name, sound_return, sound_item, sound_more_items}

pub sound_qualifiers : (T : List Lexeme) (L : Option ℕ) (i : ℕ) (d : Option Direction) (l : Option Level) → direction_of (kind_at T i) ≡ d → level_of (kind_at T i) ≡ l → Sound T L i Qualifiers (after_direction d l)
sound_qualifiers T L i (Some direction) l ed el = (λ w j h. h i direction refl ed, λ below f. f, refl)
sound_qualifiers T L i None (Some level) ed el = (λ w j h. h i level refl el, λ below f. f, refl)
sound_qualifiers T L i None None ed el = (λ w j h. (None, None, no_qualifier ed el h), λ below f. f, refl)

pub sound_may_level : (T : List Lexeme) (L : Option ℕ) (i : ℕ) (l : Option Level) → level_of (kind_at T i) ≡ l → Sound T L i MayLevel (may_level_move l)
sound_may_level T L i (Some level) e =
    (λ w j h p direction ip seen. (_, _, direction_first seen (subst (λ a. level_of (kind_at T a) ≡ Some level) ip e) (h ∙ ap (λ a. a + 1) ip ∙ two p)), λ below f. f, refl)
sound_may_level T L i None e = (λ w j h p direction ip seen. (_, None, direction_alone seen (subst (λ a. level_of (kind_at T a) ≡ None) ip e) (h ∙ ip)), λ below f. f, refl)

pub sound_may_direction : (T : List Lexeme) (L : Option ℕ) (i : ℕ) (d : Option Direction) → direction_of (kind_at T i) ≡ d → Sound T L i MayDirection (may_direction_move d)
sound_may_direction T L i (Some direction) e =
    (λ w j h p level ip seen. (_, _, level_first seen (subst (λ a. direction_of (kind_at T a) ≡ Some direction) ip e) (h ∙ ap (λ a. a + 1) ip ∙ two p)), λ below f. f, refl)
sound_may_direction T L i None e = (λ w j h p level ip seen. (None, _, level_alone seen (subst (λ a. direction_of (kind_at T a) ≡ None) ip e) (h ∙ ip)), λ below f. f, refl)

pub parameter_of : (T : List Lexeme) (L : Option ℕ) (i n j : ℕ) → MeansFrom T L (Qualifiers ∷ Shape ∷ TheName ∷ ArraySizes n ∷ Value n n ∷ []) i j → Means T L (Parameter n) i j
parameter_of T L i n j (k, quals, (m, shape, (a, name, (p, many, valued)))) =
    (_, parameter k m p quals.2 shape.1 (name.0, refl) (subst (λ b. AreArraySizes T L n b many.0 p) name.1 many.1) valued.1)

pub sound_parameter : (T : List Lexeme) (L : Option ℕ) (i n : ℕ) → Sound T L i (Parameter n) (Expands 0 (Qualifiers ∷ Shape ∷ TheName ∷ ArraySizes n ∷ Value n n ∷ []))
sound_parameter T L i n = (λ w j h. parameter_of T L i n j h, λ below f. f, refl)

pub sound_parameters : (T : List Lexeme) (L : Option ℕ) (i n : ℕ) (k : Option TokenKind) → kind_at T i ≡ k → Sound T L i (Parameters n) (parameters_move n k)
sound_parameters T L i n (Some (SignKind CloseRound)) e = (λ w j h. ([], no_parameter e h), λ below f. f, refl)
sound_parameters T L i n _ e = (λ w j h. (_, parameters h.0 (lacks (λ k. is_read (parameters_move n k)) e refl refl) h.1.1 h.2.1), λ below f. f, refl)

pub sound_more_parameters : (T : List Lexeme) (L : Option ℕ) (i n : ℕ) (k : Option TokenKind) → kind_at T i ≡ k → Sound T L i (MoreParameters n) (more_parameters_move n k)
sound_more_parameters T L i n (Some (SignKind Comma)) e = (λ w j h. (_, more_parameters h.0 e h.1.1 h.2.1), λ below f. f, refl)
sound_more_parameters T L i n (Some (SignKind CloseRound)) e = (λ w j h. ([], parameters_end e h), λ below f. f, refl)
sound_more_parameters T L i n _ e = tt

pub sound_result : (T : List Lexeme) (L : Option ℕ) (i n : ℕ) (k : Option TokenKind) → kind_at T i ≡ k → Sound T L i (Result n) (result_move n k)
sound_result T L i n (Some (Word Void)) e = (λ w j h. (None, no_result e h), λ below f. f, refl)
sound_result T L i n _ e = (λ w j h. (_, result h.0 h.1.1 h.2.1), λ below f. f, refl)

pub field_after : (T : List Lexeme) (L : Option ℕ) (i n j : ℕ) → MeansFrom T L (Shape ∷ TheName ∷ Sizes n ∷ TheSign Semicolon ∷ []) i j → Means T L (Field n) i j
field_after T L i n j (k, shape, (a, name, (m, many, closed))) =
    (_, field_of k m shape.1 (name.0, refl) (subst (λ b. AreSizes T L n b many.0 m) name.1 many.1) closed.0 closed.1)

pub sound_field : (T : List Lexeme) (L : Option ℕ) (i n : ℕ) → Sound T L i (Field n) (Expands 0 (Shape ∷ TheName ∷ Sizes n ∷ TheSign Semicolon ∷ []))
sound_field T L i n = (λ w j h. field_after T L i n j h, λ below f. f, refl)

pub sound_more_fields : (T : List Lexeme) (L : Option ℕ) (i n : ℕ) (k : Option TokenKind) → kind_at T i ≡ k → Sound T L i (MoreFields n) (more_fields_move n k)
sound_more_fields T L i n (Some (SignKind CloseCurly)) e = (λ w j h. ([], fields_end e h), λ below f. f, refl)
sound_more_fields T L i n _ e = (λ w j h. (_, more_fields h.0 (lacks (λ k. is_read (more_fields_move n k)) e refl refl) h.1.1 h.2.1), λ below f. f, refl)

pub sound_may_end : (T : List Lexeme) (L : Option ℕ) (i : ℕ) (k : Option TokenKind) → kind_at T i ≡ k → Sound T L i MayEnd (may_end_move k)
sound_may_end T L i (Some (SignKind Semicolon)) e = (λ w j h. ended e h, λ below f. f, refl)
sound_may_end T L i _ e = (λ w j h. unended (lacks (λ k. is_read (may_end_move k)) e refl refl) h, λ below f. f, refl)

pub namespace_after : (T : List Lexeme) (L : Option ℕ) (i n j : ℕ) → kind_at T i ≡ Some (Word NamespaceWord)
    → MeansFrom T L (TheName ∷ TheSign OpenCurly ∷ Definitions (n + 1) ∷ TheSign CloseCurly ∷ []) (i + 1) j → Means T L (Definition n) i j
namespace_after T L i n j e (a, name, (b, opened, (k, many, closed))) =
    let at : a ≡ i + 2 = name.1 ∙ two i in (
      _,
      namespace k e (name.0, refl) (subst (λ p. kind_at T p ≡ Some (SignKind OpenCurly)) at opened.0)
          (subst (λ p. AreDefinitions T L (n + 1) p many.0 k) (opened.1 ∙ ap (λ p. p + 1) name.1 ∙ after_three i) many.1) closed.0 closed.1,
    )

pub struct_after : (T : List Lexeme) (L : Option ℕ) (i n j : ℕ) → kind_at T i ≡ Some (Word StructWord)
    → MeansFrom T L (TheName ∷ TheSign OpenCurly ∷ Field n ∷ MoreFields n ∷ MayEnd ∷ []) (i + 1) j → Means T L (Definition n) i j
struct_after T L i n j e (a, name, (b, opened, (k, first, (m, more, end)))) =
    let at : a ≡ i + 2 = name.1 ∙ two i in (
      _,
      struct_definition (structure k m e (name.0, refl) (subst (λ p. kind_at T p ≡ Some (SignKind OpenCurly)) at opened.0)
          (subst (λ p. IsField T L n p first.0 k) (opened.1 ∙ ap (λ p. p + 1) name.1 ∙ after_three i) first.1) more.1 end),
    )

pub function_from : (T : List Lexeme) (L : Option ℕ) (i n j : ℕ) → Within L (n + 1) → MeansFrom T L (Result n ∷ TheName ∷ TheSign OpenRound ∷ Parameters n ∷ Block (n + 1) ∷ []) i j → Means T L (Definition n) i j
function_from T L i n j w (k, shape, (a, name, (b, opened, (m, params, body)))) = (
  _,
  function_definition (function k m shape.1 (name.0, refl) (subst (λ p. kind_at T p ≡ Some (SignKind OpenRound)) name.1 opened.0)
      (subst (λ p. AreParameters T L n p params.0 m) (opened.1 ∙ ap (λ p. p + 1) name.1 ∙ two k) params.1) w body.1),
)

pub sound_definition : (T : List Lexeme) (L : Option ℕ) (i n : ℕ) (k : Option TokenKind) → kind_at T i ≡ k → Sound T L i (Definition n) (definition_move n k)
sound_definition T L i n (Some (Word NamespaceWord)) e = (λ w j h. namespace_after T L i n j e h, λ below f. f, refl)
sound_definition T L i n (Some (Word StructWord)) e = (λ w j h. struct_after T L i n j e h, λ below f. f, refl)
sound_definition T L i n (Some (Word Const)) e = (λ w j h. (_, constant_definition (constant_after T L i n j e h).1), λ below f. f, refl)
sound_definition T L i n k e = sound_first T L i (n + 1) (Definition n) (Result n ∷ TheName ∷ TheSign OpenRound ∷ Parameters n ∷ Block (n + 1) ∷ []) (begins_result k)
    (λ w j h. function_from T L i n j w h) (λ below f. f) refl

pub sound_definitions : (T : List Lexeme) (L : Option ℕ) (i n : ℕ) (b begins : Bool) → ends (kind_at T i) ≡ b → Sound T L i (Definitions n) (definitions_move n b begins)
sound_definitions T L i n true begins e = (λ w j h. ([], definitions_end e h), λ below f. (and_parts _ _ f).1, refl)
sound_definitions T L i n false begins e = sound_first T L i n (Definitions n) (Definition n ∷ Definitions n ∷ []) begins (λ w j h. (_, definitions h.0 w h.1.1 h.2.1)) (λ below f. f) refl

pub imports_after : (T : List Lexeme) (L : Option ℕ) (i j : ℕ) → kind_at T i ≡ Some (Word ImportWord) → MeansFrom T L (ImportText ∷ TheSign Semicolon ∷ Imports ∷ []) (i + 1) j → Means T L Imports i j
imports_after T L i j e (a, text, (b, closed, more)) = (
  _,
  imports e text.0 text.1 (subst (λ p. kind_at T p ≡ Some (SignKind Semicolon)) (text.2 ∙ two i) closed.0)
      (subst (λ p. AreImports T p more.0 j) (closed.1 ∙ ap (λ p. p + 1) text.2 ∙ after_three i) more.1),
)

pub sound_imports : (T : List Lexeme) (L : Option ℕ) (i : ℕ) (k : Option TokenKind) → kind_at T i ≡ k → Sound T L i Imports (imports_move k)
sound_imports T L i (Some (Word ImportWord)) e = (λ w j h. imports_after T L i j e h, λ below f. f, refl)
sound_imports T L i _ e = (λ w j h. ([], no_import (lacks (λ k. is_read (imports_move k)) e refl refl) h), λ below f. f, refl)

pub version_after : (T : List Lexeme) (L : Option ℕ) (i j : ℕ) → kind_at T i ≡ Some (Word Ctlversion) → MeansFrom T L (TheOne ∷ TheSign Semicolon ∷ []) (i + 1) j → Means T L Version i j
version_after T L i j e (a, one, closed) = version e one.0 (subst (λ p. kind_at T p ≡ Some (SignKind Semicolon)) (one.1 ∙ two i) closed.0)
    (closed.1 ∙ ap (λ p. p + 1) one.1 ∙ after_three i)

pub sound_version : (T : List Lexeme) (L : Option ℕ) (i : ℕ) (k : Option TokenKind) → kind_at T i ≡ k → Sound T L i Version (version_move k)
sound_version T L i (Some (Word Ctlversion)) e = (λ w j h. version_after T L i j e h, λ below f. f, refl)
sound_version T L i _ e = (λ w j h. no_version (lacks (λ k. is_read (version_move k)) e refl refl) h, λ below f. f, refl)

pub sound_end : (T : List Lexeme) (L : Option ℕ) (i : ℕ) (k : Option TokenKind) → kind_at T i ≡ k → Sound T L i TheEnd (end_move k)
sound_end T L i None e = (λ w j h. (e, h), λ below f. last_fits below f, refl)
  where
    last_fits : (below : List Symbol) → is_last below ≡ true → fits below ≡ true
    last_fits [] f = refl
    last_fits (x ∷ xs) f = absurd (false≢true f)
sound_end T L i (Some kind) e = tt

-- every move is right
pub sound : (T : List Lexeme) (L : Option ℕ) (i : ℕ) (x : Symbol) → Sound T L i x (move x (kind_at T i) (bytes_at T i))
sound T L i (TheSign sign) = sound_sign T L i sign (sees sign (kind_at T i)) refl
sound T L i TheName = sound_name T L i (kind_at T i) refl
sound T L i TheOne = sound_one T L i (kind_at T i) refl
sound T L i ImportText = sound_import_text T L i (kind_at T i) (is_printable_text (bytes_at T i)) refl refl
sound T L i QualifiedName = sound_qualified T L i (kind_at T i) refl
sound T L i MoreNames = sound_more_names T L i (kind_at T i) refl
sound T L i Shape = sound_shape T L i (kind_at T i) refl
sound T L i MayInt = sound_may_int T L i (kind_at T i) refl
sound T L i (Operand level n) = sound_operand T L i level n (nat_lt level operator_levels) refl
sound T L i (Links level n) = sound_links T L i level n (operator_of level (kind_at T i)) refl
sound T L i (UnaryForm n) = sound_unary T L i n (unary_operator_of (kind_at T i)) refl
sound T L i (Postfix n) = sound_postfix T L i n
sound T L i (Steps n) = sound_steps T L i n (kind_at T i) refl
sound T L i (Primary n) = sound_primary T L i n (kind_at T i) (literal_of (kind_at T i)) refl refl
sound T L i (CallOrName n) = sound_call_or_name T L i n (kind_at T i) refl
sound T L i (Arguments n) = sound_arguments T L i n (kind_at T i) refl
sound T L i (MoreArguments n) = sound_more_arguments T L i n (kind_at T i) refl
sound T L i (Sizes n) = sound_sizes T L i n (kind_at T i) refl
sound T L i (ArraySizes n) = sound_array_sizes T L i n (kind_at T i) refl
sound T L i (ArraySize n) = sound_array_size T L i n (kind_at T i) refl
sound T L i (Initialiser n inner) = sound_initialiser T L i n inner (kind_at T i) refl
sound T L i (MoreElements n) = sound_more_elements T L i n (kind_at T i) refl
sound T L i (Value n inner) = sound_value T L i n inner (kind_at T i) refl
sound T L i (Block n) = sound_block T L i n (sees OpenCurly (kind_at T i)) refl
sound T L i (Statements n) = sound_statements T L i n (kind_at T i) refl
sound T L i (Statement n) = sound_statement T L i n (kind_at T i) refl
sound T L i (AfterName n) = sound_after_name T L i n (kind_at T i) refl
sound T L i (Assignment n inner) = sound_assignment T L i n inner
sound T L i (Arm n) = sound_arm T L i n (sees OpenRound (kind_at T i)) refl
sound T L i (Elses n) = sound_elses T L i n (kind_at T i) refl
sound T L i (AfterElse n) = sound_after_else T L i n (kind_at T i) refl
sound T L i (ForStart n) = sound_for_start T L i n (kind_at T i) refl
sound T L i (AfterForName n) = sound_after_for_name T L i n (kind_at T i) refl
sound T L i (ReturnValue n) = sound_return T L i n (kind_at T i) refl
sound T L i (Item n) = sound_item T L i n (kind_at T i) refl
sound T L i (MoreItems n) = sound_more_items T L i n (kind_at T i) refl
sound T L i Qualifiers = sound_qualifiers T L i (direction_of (kind_at T i)) (level_of (kind_at T i)) refl refl
sound T L i MayLevel = sound_may_level T L i (level_of (kind_at T i)) refl
sound T L i MayDirection = sound_may_direction T L i (direction_of (kind_at T i)) refl
sound T L i (Parameter n) = sound_parameter T L i n
sound T L i (Parameters n) = sound_parameters T L i n (kind_at T i) refl
sound T L i (MoreParameters n) = sound_more_parameters T L i n (kind_at T i) refl
sound T L i (Result n) = sound_result T L i n (kind_at T i) refl
sound T L i (Field n) = sound_field T L i n
sound T L i (MoreFields n) = sound_more_fields T L i n (kind_at T i) refl
sound T L i MayEnd = sound_may_end T L i (kind_at T i) refl
sound T L i (Definition n) = sound_definition T L i n (kind_at T i) refl
sound T L i (Definitions n) = sound_definitions T L i n (ends (kind_at T i)) (begins_definition (kind_at T i)) refl
sound T L i Imports = sound_imports T L i (kind_at T i) refl
sound T L i Version = sound_version T L i (kind_at T i) refl
sound T L i TheEnd = sound_end T L i (kind_at T i) refl
