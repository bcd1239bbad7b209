-- The machine passes over each definition and module.
use Rattle.std.proofs.Common.{◌≡◌, ◌≢◌, ℕ, suc, ◌+◌, true, false, List, [], ◌∷◌, length, All, Option, Some, None, option_map, arith, ap, ap₂, refl, le_of_eq}
use Rattle.std.proofs.lemmas.Bool.{false≢true, le-leb, and_from}
use Rattle.std.proofs.lemmas.Option.{slice_get_past}
use Rattle.ctl_tree.specs.declared.keyword.Keyword.TheVariants.{Import as ImportWord, Ctlversion, Namespace as NamespaceWord, Struct as StructWord, Const, Void, Uniform as UniformWord, Varying as VaryingWord}
use Rattle.ctl_tree.specs.declared.sign.Sign.TheVariants.{OpenRound, CloseRound, CloseCurly, Semicolon}
use Rattle.ctl_tree.specs.declared.token.TokenKind.{TokenKind}
use Rattle.ctl_tree.specs.declared.token.TokenKind.TheVariants.{Word, Sign as SignKind}
use Rattle.ctl_tree.specs.declared.definition.Direction.{Direction}
use Rattle.ctl_tree.specs.declared.definition.Level.{Level}
use Rattle.ctl_tree.specs.declared.definition.Parameter.{Parameter}
use Rattle.ctl_tree.specs.declared.definition.SizedShape.{SizedShape}
use Rattle.ctl_tree.specs.declared.definition.Function.{Function}
use Rattle.ctl_tree.specs.declared.definition.Field.{Field}
use Rattle.ctl_tree.specs.declared.definition.Struct.{Struct}
use Rattle.ctl_tree.specs.declared.definition.Definition.{Definition}
use Rattle.ctl_tree.specs.declared.definition.Import.{Import}
use Rattle.ctl_tree.specs.declared.definition.Module.{Module}
use Rattle.ctl_tree.specs.Lexemes.{Lexeme, kind_at, SeesWord}
use Rattle.ctl_tree.specs.Modules.{direction_of, level_of, AreQualifiers, no_qualifier, direction_alone, level_alone, direction_first, level_first, IsParameter, parameter, AreMoreParameters, parameters_end, more_parameters, AreParameters, no_parameter, parameters, IsResult, no_result, result, IsFunction, function, IsField, field_of, AreMoreFields, fields_end, more_fields, MayEnd, unended, ended, IsStruct, structure, ends, IsDefinition, namespace, struct_definition, constant_definition, function_definition, AreDefinitions, definitions_end, definitions, IsPrintable, AreImports, no_import, imports, IsVersion, no_version, version, IsModule, module_of}
use Rattle.grammar_machine.specs.Front.{begins_shape, begins_result, all_printable}
use Rattle.grammar_machine.specs.Machine.{TheSign, TheName, Shape, Sizes, Block, Qualifiers, Parameter as TheParameter, Parameters, MoreParameters, Result, Field as TheField, MoreFields, MayEnd as TheMayEnd, Definition as TheDefinition, Definitions, Imports, Version, TheEnd, Expands, start, after_direction, may_level_move, may_direction_move, parameters_move, more_parameters_move, result_move, more_fields_move, may_end_move, definition_move, begins_definition, definitions_move, imports_move, version_move, one_move, import_text_move, end_move, Passes}
use Rattle.grammar_machine.proofs.Steps.{two, three, done, pass, read, expand, expand_deeper, sign, word}
use Rattle.grammar_machine.proofs.PassNames.{shape_begins, passes_shape}
use Rattle.grammar_machine.proofs.PassExpressions.{first_is}
use Rattle.grammar_machine.proofs.PassDeclarations.{passes_sizes, passes_array_sizes, passes_value, passes_constant, constant_begins}
use Rattle.grammar_machine.proofs.PassStatements.{passes_block}

-- a token that begins no form of a kind

pub lacks_parameter : (n : ℕ) (k : Option TokenKind) → k ≢ Some (SignKind CloseRound) → parameters_move n k ≡ Expands 0 (TheParameter n ∷ MoreParameters n ∷ [])
lacks_parameter n (Some (SignKind CloseRound)) h = absurd (h refl)
lacks_parameter n _ h = refl

pub lacks_field : (n : ℕ) (k : Option TokenKind) → k ≢ Some (SignKind CloseCurly) → more_fields_move n k ≡ Expands 0 (TheField n ∷ MoreFields n ∷ [])
lacks_field n (Some (SignKind CloseCurly)) h = absurd (h refl)
lacks_field n _ h = refl

pub lacks_end : (k : Option TokenKind) → k ≢ Some (SignKind Semicolon) → may_end_move k ≡ Expands 0 []
lacks_end (Some (SignKind Semicolon)) h = absurd (h refl)
lacks_end _ h = refl

pub lacks_import : (k : Option TokenKind) → k ≢ Some (Word ImportWord) → imports_move k ≡ Expands 0 []
lacks_import (Some (Word ImportWord)) h = absurd (h refl)
lacks_import _ h = refl

pub lacks_version : (k : Option TokenKind) → k ≢ Some (Word Ctlversion) → version_move k ≡ Expands 0 []
lacks_version (Some (Word Ctlversion)) h = absurd (h refl)
lacks_version _ h = refl

pub level_only : (k : Option TokenKind) (level : Level) → level_of k ≡ Some level → direction_of k ≡ None
level_only (Some (Word UniformWord)) level e = refl
level_only (Some (Word VaryingWord)) level e = refl
level_only _ level e = absurd cc

pub shape_result : (n : ℕ) (k : Option TokenKind) → begins_shape k ≡ true → result_move n k ≡ Expands 0 (Shape ∷ Sizes n ∷ [])
shape_result n (Some (Word Void)) h = absurd (false≢true h)
shape_result n _ h = refl

pub shape_begins_result : (k : Option TokenKind) → begins_shape k ≡ true → begins_result k ≡ true
shape_begins_result (Some (Word Void)) h = refl
shape_begins_result _ h = h

pub result_begins_definition : (k : Option TokenKind) → begins_result k ≡ true → begins_definition k ≡ true
result_begins_definition (Some (Word NamespaceWord)) h = refl
result_begins_definition (Some (Word StructWord)) h = refl
result_begins_definition (Some (Word Const)) h = refl
result_begins_definition _ h = h

pub first_function : (n : ℕ) (k : Option TokenKind) → begins_result k ≡ true
    → definition_move n k ≡ Expands (n + 1) (Result n ∷ TheName ∷ TheSign OpenRound ∷ Parameters n ∷ Block (n + 1) ∷ [])
first_function n (Some (Word NamespaceWord)) h = absurd (false≢true h)
first_function n (Some (Word StructWord)) h = absurd (false≢true h)
first_function n (Some (Word Const)) h = absurd (false≢true h)
first_function n k h = first_is (begins_result k) (n + 1) (Result n ∷ TheName ∷ TheSign OpenRound ∷ Parameters n ∷ Block (n + 1) ∷ []) h

pub begins_no_end : (k : Option TokenKind) → begins_definition k ≡ true → ends k ≡ false
begins_no_end None h = absurd (false≢true h)
begins_no_end (Some (SignKind CloseCurly)) h = absurd (false≢true h)
begins_no_end _ h = refl

pub first_definition : (n : ℕ) (k : Option TokenKind) → begins_definition k ≡ true → definitions_move n (ends k) (begins_definition k) ≡ Expands n (TheDefinition n ∷ Definitions n ∷ [])
first_definition n k h = ap₂ (definitions_move n) (begins_no_end k h) h

pub printable : (bytes : List ℕ) → All IsPrintable bytes → all_printable bytes ≡ true
printable [] h = refl
printable (b ∷ bytes) h =
    let first : IsPrintable b = h 0 0 (omega arith) in
    and_from _ _ (and_from _ _ (le-leb 32 b first.0) (le-leb b 126 first.1)) (printable bytes (λ k d lt. h (suc k) d (omega arith)))

module _ {T : List Lexeme} {L : Option ℕ} where
  pub passes_qualifiers : {i j : ℕ} {direction : Option Direction} {level : Option Level} → AreQualifiers T i direction level j → Passes T L (Qualifiers ∷ []) i [] j
  passes_qualifiers (no_qualifier d l e) below = expand (ap₂ after_direction d l) (done e)
  passes_qualifiers (direction_alone {i = i} d l e) below =
      read (ap (λ x. after_direction x (level_of (kind_at T i))) d) refl (expand (ap may_level_move l) (done e))
  passes_qualifiers (level_alone {level = level} l d e) below =
      read (ap₂ after_direction (level_only _ level l) l) refl (expand (ap may_direction_move d) (done e))
  passes_qualifiers (direction_first {i = i} d l e) below =
      read (ap (λ x. after_direction x (level_of (kind_at T i))) d) refl (read (ap may_level_move l) (two i) (done e))
  passes_qualifiers (level_first {i = i} {level = level} l d e) below =
      read (ap₂ after_direction (level_only _ level l) l) refl (read (ap may_direction_move d) (two i) (done e))

  pub passes_parameter : {n i j : ℕ} {p : Parameter} → IsParameter T L n i p j → Passes T L (TheParameter n ∷ []) i [] j
  passes_parameter (parameter k m p quals shape name es v) below =
      expand refl (pass (passes_qualifiers quals) (pass (passes_shape shape) (word name refl (pass (passes_array_sizes es) (passes_value v below)))))

  pub passes_more_parameters : {n i j : ℕ} {ps : List Parameter} → AreMoreParameters T L n i ps j → Passes T L (MoreParameters n ∷ []) i [] j
  passes_more_parameters (parameters_end {n = n} see e) below = read (ap (more_parameters_move n) see) refl (done e)
  passes_more_parameters (more_parameters {n = n} k see h more) below =
      read (ap (more_parameters_move n) see) refl (pass (passes_parameter h) (passes_more_parameters more below))

  pub passes_parameters : {n i j : ℕ} {ps : List Parameter} → AreParameters T L n i ps j → Passes T L (Parameters n ∷ []) i [] j
  passes_parameters (no_parameter {n = n} see e) below = read (ap (parameters_move n) see) refl (done e)
  passes_parameters (parameters {n = n} k lacks h more) below = expand (lacks_parameter n _ lacks) (pass (passes_parameter h) (passes_more_parameters more below))

  pub passes_result : {n i j : ℕ} {r : Option SizedShape} → IsResult T L n i r j → Passes T L (Result n ∷ []) i [] j
  passes_result (no_result {n = n} see e) below = read (ap (result_move n) see) refl (done e)
  passes_result (result {n = n} k shape es) below = expand (shape_result n _ (shape_begins shape)) (pass (passes_shape shape) (passes_sizes es below))

  pub result_begins : {n i j : ℕ} {r : Option SizedShape} → IsResult T L n i r j → begins_result (kind_at T i) ≡ true
  result_begins (no_result see e) = ap begins_result see
  result_begins (result k shape es) = shape_begins_result _ (shape_begins shape)

  pub function_begins : {n i j : ℕ} {f : Function} → IsFunction T L n i f j → begins_result (kind_at T i) ≡ true
  function_begins (function k m r name round ps within body) = result_begins r

  pub passes_function : {n i j : ℕ} {f : Function} → IsFunction T L n i f j → Passes T L (TheDefinition n ∷ []) i [] j
  passes_function (function {n = n} k m r name round ps within body) below =
      expand_deeper (first_function n _ (result_begins r)) within
      (pass (passes_result r) (word name refl (sign refl round (two k) (pass (passes_parameters ps) (passes_block body below)))))

  pub passes_field : {n i j : ℕ} {f : Field} → IsField T L n i f j → Passes T L (TheField n ∷ []) i [] j
  passes_field (field_of k m shape name es end e) below = expand refl (pass (passes_shape shape) (word name refl (pass (passes_sizes es) (sign refl end refl (done e)))))

  pub passes_more_fields : {n i j : ℕ} {fs : List Field} → AreMoreFields T L n i fs j → Passes T L (MoreFields n ∷ []) i [] j
  passes_more_fields (fields_end {n = n} see e) below = read (ap (more_fields_move n) see) refl (done e)
  passes_more_fields (more_fields {n = n} k lacks h more) below = expand (lacks_field n _ lacks) (pass (passes_field h) (passes_more_fields more below))

  pub passes_may_end : {i j : ℕ} → MayEnd T i j → Passes T L (TheMayEnd ∷ []) i [] j
  passes_may_end (unended lacks e) below = expand (lacks_end _ lacks) (done e)
  passes_may_end (ended see e) below = read (ap may_end_move see) refl (done e)

  pub struct_begins : {n i j : ℕ} {s : Struct} → IsStruct T L n i s j → SeesWord T i StructWord
  struct_begins (structure k m see name curly first more end) = see

  pub passes_struct : {n i j : ℕ} {s : Struct} → IsStruct T L n i s j → Passes T L (TheDefinition n ∷ []) i [] j
  passes_struct (structure {n = n} {i = i} k m see name curly first more end) below =
      read (ap (definition_move n) see) refl
      (word name (two i) (sign refl curly (three i) (pass (passes_field first) (pass (passes_more_fields more) (passes_may_end end below)))))

  pub definition_begins : {n i j : ℕ} {d : Definition} → IsDefinition T L n i d j → begins_definition (kind_at T i) ≡ true
  definition_begins (namespace k see name curly ds close e) = ap begins_definition see
  definition_begins (struct_definition s) = ap begins_definition (struct_begins s)
  definition_begins (constant_definition c) = ap begins_definition (constant_begins c)
  definition_begins (function_definition f) = result_begins_definition _ (function_begins f)

  mutual
    pub passes_definition : {n i j : ℕ} {d : Definition} → IsDefinition T L n i d j → Passes T L (TheDefinition n ∷ []) i [] j
    passes_definition (namespace {n = n} {i = i} k see name curly ds close e) below =
        read (ap (definition_move n) see) refl (word name (two i) (sign refl curly (three i) (pass (passes_definitions ds) (sign refl close refl (done e)))))
    passes_definition (struct_definition s) below = passes_struct s below
    passes_definition (constant_definition {n = n} c) below = read (ap (definition_move n) (constant_begins c)) refl (passes_constant c below)
    passes_definition (function_definition f) below = passes_function f below

    pub passes_definitions : {n i j : ℕ} {ds : List Definition} → AreDefinitions T L n i ds j → Passes T L (Definitions n ∷ []) i [] j
    passes_definitions (definitions_end {n = n} {i = i} end e) below = expand (ap (λ b. definitions_move n b (begins_definition (kind_at T i))) end) (done e)
    passes_definitions (definitions {n = n} k within h more) below =
        expand_deeper (first_definition n _ (definition_begins h)) within (pass (passes_definition h) (passes_definitions more below))

  pub passes_imports : {i j : ℕ} {is : List Import} → AreImports T i is j → Passes T L (Imports ∷ []) i [] j
  passes_imports (no_import lacks e) below = expand (lacks_import _ lacks) (done e)
  passes_imports (imports {i = i} see text shown end more) below =
      read (ap imports_move see) refl (read (ap₂ import_text_move text (printable _ shown)) (two i) (sign refl end (three i) (passes_imports more below)))

  pub passes_version : {i j : ℕ} → IsVersion T i j → Passes T L (Version ∷ []) i [] j
  passes_version (no_version lacks e) below = expand (lacks_version _ lacks) (done e)
  passes_version (version {i = i} see number end e) below =
      read (ap version_move see) refl (read (ap one_move number) (two i) (sign refl end (three i) (done e)))

  -- no token stands at their number
  pub passes_end : Passes T L (TheEnd ∷ []) (length T) [] (length T)
  passes_end below = expand (ap end_move (ap (option_map (λ (lexeme : Lexeme). lexeme.kind)) (slice_get_past T (length T) (le_of_eq refl)))) (done refl)

  pub passes_module : {m : Module} → IsModule T L m → Passes T L start 0 [] (length T)
  passes_module (module_of i j v is ds) below = pass (passes_version v) (pass (passes_imports is) (pass (passes_definitions ds) (passes_end below)))
