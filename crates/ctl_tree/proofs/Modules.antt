-- From one place at most one definition stands, with one end, and the tokens spell at most one module, whatever nesting
-- is allowed.
use Rattle.std.proofs.Common.{◌≡◌, ◌≢◌, ℕ, ◌+◌, arith, true, List, ◌∷◌, Option, Some, None, ap, sym, ◌∙◌, refl}
use Rattle.ctl_tree.specs.declared.keyword.Keyword.TheVariants.{Bool as BoolWord, Int as IntWord, Half as HalfWord, Float as FloatWord, Unsigned as UnsignedWord, Const as ConstWord, Namespace as NamespaceWord, Struct as StructWord, Uniform as UniformWord, Varying as VaryingWord}
use Rattle.ctl_tree.specs.declared.sign.Sign.TheVariants.{CloseCurly, ColonColon}
use Rattle.ctl_tree.specs.declared.token.TokenKind.{TokenKind}
use Rattle.ctl_tree.specs.declared.token.TokenKind.TheVariants.{Word, Name, Sign as SignKind}
use Rattle.ctl_tree.specs.declared.definition.Direction.{Direction}
use Rattle.ctl_tree.specs.declared.definition.Level.{Level}
use Rattle.ctl_tree.specs.declared.definition.Parameter.{Parameter}
use Rattle.ctl_tree.specs.declared.definition.SizedShape.{SizedShape}
use Rattle.ctl_tree.specs.declared.definition.Function.{Function}
use Rattle.ctl_tree.specs.declared.definition.Field.{Field}
use Rattle.ctl_tree.specs.declared.definition.Struct.{Struct}
use Rattle.ctl_tree.specs.declared.definition.Definition.{Definition}
use Rattle.ctl_tree.specs.declared.definition.Definition.TheVariants.{Namespace, Struct as StructForm, Constant as ConstantForm, Function as FunctionForm}
use Rattle.ctl_tree.specs.declared.definition.Namespace.{roll-Namespace}
use Rattle.ctl_tree.specs.declared.definition.Import.{Import}
use Rattle.ctl_tree.specs.declared.definition.Module.{Module}
use Rattle.ctl_tree.specs.Lexemes.{Lexeme, kind_at, bytes_at}
use Rattle.ctl_tree.specs.Declarations.{constant}
use Rattle.ctl_tree.specs.Modules.{direction_of, level_of, AreQualifiers, no_qualifier, direction_alone, level_alone, direction_first, level_first, IsParameter, parameter, AreMoreParameters, parameters_end, more_parameters, AreParameters, no_parameter, parameters, IsResult, no_result, result, IsFunction, function, IsField, field_of, AreMoreFields, fields_end, more_fields, MayEnd, unended, ended, IsStruct, structure, ends, IsDefinition, namespace, struct_definition, constant_definition, function_definition, AreDefinitions, definitions_end, definitions, AreImports, no_import, imports, IsVersion, no_version, version, IsModule, module_of}
use Rattle.ctl_tree.specs.Texts.{unquoted}
use Rattle.ctl_tree.proofs.Names.{same_name, same_shape, begins_shape, shape_begins}
use Rattle.ctl_tree.proofs.Declarations.{same_sizes, same_array_sizes, same_value, same_constant}
use Rattle.ctl_tree.proofs.Statements.{same_block}

-- no token is both a direction and a level
level_no_direction : (kind : Option TokenKind) {level : Level} → level_of kind ≡ Some level → direction_of kind ≡ None
level_no_direction (Some (Word UniformWord)) known = refl
level_no_direction (Some (Word VaryingWord)) known = refl
level_no_direction _ known = absurd cc

same_qualifiers : {lexemes : List Lexeme} {i i' : ℕ} {direction direction' : Option Direction} {level level' : Option Level} {j j' : ℕ} → i ≡ i'
    → AreQualifiers lexemes i direction level j → AreQualifiers lexemes i' direction' level' j' → (direction ≡ direction') × (level ≡ level') × (j ≡ j')
same_qualifiers q (no_qualifier none none_level is) (no_qualifier none' none_level' is') = (refl, refl, cc)
same_qualifiers q (no_qualifier none none_level is) (direction_alone known' lacks' is') = absurd cc
same_qualifiers q (no_qualifier none none_level is) (level_alone known' lacks' is') = absurd cc
same_qualifiers q (no_qualifier none none_level is) (direction_first known' second' is') = absurd cc
same_qualifiers q (no_qualifier none none_level is) (level_first known' second' is') = absurd cc
same_qualifiers q (direction_alone known lacks is) (no_qualifier none' none_level' is') = absurd cc
same_qualifiers q (direction_alone known lacks is) (direction_alone known' lacks' is') = (cc, refl, cc)
same_qualifiers q (direction_alone known lacks is) (level_alone known' lacks' is') = let other = level_no_direction _ known' in absurd cc
same_qualifiers q (direction_alone known lacks is) (direction_first known' second' is') = absurd cc
same_qualifiers q (direction_alone known lacks is) (level_first known' second' is') = let other = level_no_direction _ known' in absurd cc
same_qualifiers q (level_alone known lacks is) (no_qualifier none' none_level' is') = absurd cc
same_qualifiers q (level_alone known lacks is) (direction_alone known' lacks' is') = let other = level_no_direction _ known in absurd cc
same_qualifiers q (level_alone known lacks is) (level_alone known' lacks' is') = (refl, cc, cc)
same_qualifiers q (level_alone known lacks is) (direction_first known' second' is') = let other = level_no_direction _ known in absurd cc
same_qualifiers q (level_alone known lacks is) (level_first known' second' is') = absurd cc
same_qualifiers q (direction_first known second is) (no_qualifier none' none_level' is') = absurd cc
same_qualifiers q (direction_first known second is) (direction_alone known' lacks' is') = absurd cc
same_qualifiers q (direction_first known second is) (level_alone known' lacks' is') = let other = level_no_direction _ known' in absurd cc
same_qualifiers q (direction_first known second is) (direction_first known' second' is') = (cc, cc, cc)
same_qualifiers q (direction_first known second is) (level_first known' second' is') = let other = level_no_direction _ known' in absurd cc
same_qualifiers q (level_first known second is) (no_qualifier none' none_level' is') = absurd cc
same_qualifiers q (level_first known second is) (direction_alone known' lacks' is') = let other = level_no_direction _ known in absurd cc
same_qualifiers q (level_first known second is) (level_alone known' lacks' is') = absurd cc
same_qualifiers q (level_first known second is) (direction_first known' second' is') = let other = level_no_direction _ known in absurd cc
same_qualifiers q (level_first known second is) (level_first known' second' is') = (cc, cc, cc)

same_parameter : {lexemes : List Lexeme} {limit limit' : Option ℕ} {n n' i i' : ℕ} {form form' : Parameter} {j j' : ℕ} → i ≡ i'
    → IsParameter lexemes limit n i form j → IsParameter lexemes limit' n' i' form' j' → (form ≡ form') × (j ≡ j')
same_parameter q (parameter k m p qualifiers h name array init) (parameter k' m' p' qualifiers' h' name' array' init') =
    let qualified = same_qualifiers q qualifiers qualifiers' in
    let shape = same_shape qualified.2 h h' in
    let called = same_name _ shape.1 name name' in
    let arrays = same_array_sizes (ap (λ x. x + 1) shape.1) array array' in
    let same = same_value arrays.1 init init' in
    ((λ x. record { direction = qualified.0 x; level = qualified.1 x; shape = shape.0 x; name = called x; sizes = arrays.0 x; value = same.0 x; token = shape.1 x }), same.1)

same_more_parameters : {lexemes : List Lexeme} {limit limit' : Option ℕ} {n n' i i' : ℕ} {forms forms' : List Parameter} {j j' : ℕ} → i ≡ i'
    → AreMoreParameters lexemes limit n i forms j → AreMoreParameters lexemes limit' n' i' forms' j' → (forms ≡ forms') × (j ≡ j')
same_more_parameters q (parameters_end close is) (parameters_end close' is') = (refl, cc)
same_more_parameters q (parameters_end close is) (more_parameters k' comma' h' more') = absurd cc
same_more_parameters q (more_parameters k comma h more) (parameters_end close' is') = absurd cc
same_more_parameters q (more_parameters k comma h more) (more_parameters k' comma' h' more') =
    let first = same_parameter (ap (λ x. x + 1) q) h h' in
    let others = same_more_parameters first.1 more more' in
    ((λ x. first.0 x ∷ others.0 x), others.1)

same_parameters : {lexemes : List Lexeme} {limit limit' : Option ℕ} {n n' i i' : ℕ} {forms forms' : List Parameter} {j j' : ℕ} → i ≡ i'
    → AreParameters lexemes limit n i forms j → AreParameters lexemes limit' n' i' forms' j' → (forms ≡ forms') × (j ≡ j')
same_parameters q (no_parameter close is) (no_parameter close' is') = (refl, cc)
same_parameters q (no_parameter close is) (parameters k' lacks' h' more') = absurd (lacks' cc)
same_parameters q (parameters k lacks h more) (no_parameter close' is') = absurd (lacks cc)
same_parameters q (parameters k lacks h more) (parameters k' lacks' h' more') =
    let first = same_parameter q h h' in
    let others = same_more_parameters first.1 more more' in
    ((λ x. first.0 x ∷ others.0 x), others.1)

-- the kinds of definitions that their first token tells apart, and 0 where definitions end
abbrev form_at : Option TokenKind → ℕ
form_at None = 0
form_at (Some (SignKind CloseCurly)) = 0
form_at (Some (Word NamespaceWord)) = 1
form_at (Some (Word StructWord)) = 2
form_at (Some (Word ConstWord)) = 3
form_at _ = 4

shape_form : (kind : Option TokenKind) → begins_shape kind ≡ true → form_at kind ≡ 4
shape_form (Some (Word BoolWord)) begins = refl
shape_form (Some (Word IntWord)) begins = refl
shape_form (Some (Word HalfWord)) begins = refl
shape_form (Some (Word FloatWord)) begins = refl
shape_form (Some (Word UnsignedWord)) begins = refl
shape_form (Some Name) begins = refl
shape_form (Some (SignKind ColonColon)) begins = refl
shape_form _ begins = absurd cc

end_form : (kind : Option TokenKind) → ends kind ≡ true → form_at kind ≡ 0
end_form None is = refl
end_form (Some (SignKind CloseCurly)) is = refl
end_form _ is = absurd cc

same_result : {lexemes : List Lexeme} {limit limit' : Option ℕ} {n n' i i' : ℕ} {form form' : Option SizedShape} {j j' : ℕ} → i ≡ i'
    → IsResult lexemes limit n i form j → IsResult lexemes limit' n' i' form' j' → (form ≡ form') × (j ≡ j')
same_result q (no_result sees is) (no_result sees' is') = (refl, cc)
same_result q (no_result sees is) (result k' h' array') = let begins = shape_begins h' in absurd cc
same_result q (result k h array) (no_result sees' is') = let begins = shape_begins h in absurd cc
same_result q (result k h array) (result k' h' array') =
    let shape = same_shape q h h' in
    let arrays = same_sizes shape.1 array array' in
    ((λ x. Some (record { shape = shape.0 x; sizes = arrays.0 x })), arrays.1)

same_function : {lexemes : List Lexeme} {limit limit' : Option ℕ} {n n' i i' : ℕ} {form form' : Function} {j j' : ℕ} → i ≡ i'
    → IsFunction lexemes limit n i form j → IsFunction lexemes limit' n' i' form' j' → (form ≡ form') × (j ≡ j')
same_function q (function k m h name opens given within body) (function k' m' h' name' opens' given' within' body') =
    let result = same_result q h h' in
    let called = same_name _ result.1 name name' in
    let others = same_parameters (ap (λ x. x + 2) result.1) given given' in
    let same = same_block others.1 body body' in
    ((λ x. record { result = result.0 x; name = called x; parameters = others.0 x; body = same.0 x; token = result.1 x }), same.1)

same_field : {lexemes : List Lexeme} {limit limit' : Option ℕ} {n n' i i' : ℕ} {form form' : Field} {j j' : ℕ} → i ≡ i'
    → IsField lexemes limit n i form j → IsField lexemes limit' n' i' form' j' → (form ≡ form') × (j ≡ j')
same_field q (field_of k m h name array semicolon is) (field_of k' m' h' name' array' semicolon' is') =
    let shape = same_shape q h h' in
    let called = same_name _ shape.1 name name' in
    let arrays = same_sizes (ap (λ x. x + 1) shape.1) array array' in
    ((λ x. record { shape = shape.0 x; name = called x; sizes = arrays.0 x; token = shape.1 x }), is ∙ ap (λ x. x + 1) arrays.1 ∙ sym is')

same_more_fields : {lexemes : List Lexeme} {limit limit' : Option ℕ} {n n' i i' : ℕ} {forms forms' : List Field} {j j' : ℕ} → i ≡ i'
    → AreMoreFields lexemes limit n i forms j → AreMoreFields lexemes limit' n' i' forms' j' → (forms ≡ forms') × (j ≡ j')
same_more_fields q (fields_end close is) (fields_end close' is') = (refl, cc)
same_more_fields q (fields_end close is) (more_fields k' lacks' h' more') = absurd (lacks' cc)
same_more_fields q (more_fields k lacks h more) (fields_end close' is') = absurd (lacks cc)
same_more_fields q (more_fields k lacks h more) (more_fields k' lacks' h' more') =
    let first = same_field q h h' in
    let others = same_more_fields first.1 more more' in
    ((λ x. first.0 x ∷ others.0 x), others.1)

same_end : {lexemes : List Lexeme} {i i' j j' : ℕ} → i ≡ i' → MayEnd lexemes i j → MayEnd lexemes i' j' → j ≡ j'
same_end q (unended lacks is) (unended lacks' is') = cc
same_end q (unended lacks is) (ended sees' is') = absurd (lacks cc)
same_end q (ended sees is) (unended lacks' is') = absurd (lacks' cc)
same_end q (ended sees is) (ended sees' is') = cc

same_struct : {lexemes : List Lexeme} {limit limit' : Option ℕ} {n n' i i' : ℕ} {form form' : Struct} {j j' : ℕ} → i ≡ i'
    → IsStruct lexemes limit n i form j → IsStruct lexemes limit' n' i' form' j' → (form ≡ form') × (j ≡ j')
same_struct q (structure k m sees name opens h more last) (structure k' m' sees' name' opens' h' more' last') =
    let called = same_name _ (ap (λ x. x + 1) q) name name' in
    let first = same_field (ap (λ x. x + 3) q) h h' in
    let others = same_more_fields first.1 more more' in
    ((λ x. record { name = called x; fields = first.0 x ∷ others.0 x; token = q x + 1 }), same_end others.1 last last')

abbrev form_of : {lexemes : List Lexeme} {limit : Option ℕ} {n i : ℕ} {form : Definition} {j : ℕ} → IsDefinition lexemes limit n i form j → ℕ
form_of (namespace k sees name opens h close is) = 1
form_of (struct_definition h) = 2
form_of (constant_definition h) = 3
form_of (function_definition h) = 4

first_form : {lexemes : List Lexeme} {limit : Option ℕ} {n i : ℕ} {form : Definition} {j : ℕ} → (h : IsDefinition lexemes limit n i form j) → form_at (kind_at lexemes i) ≡ form_of h
first_form (namespace k sees name opens h close is) = ap form_at sees
first_form (struct_definition (structure k m sees name opens h more last)) = ap form_at sees
first_form (constant_definition (constant k m p sees shape name array assign h semicolon is)) = ap form_at sees
first_form (function_definition (function k m (no_result sees is) name opens given within body)) = ap form_at sees
first_form (function_definition (function k m (result l h array) name opens given within body)) = shape_form _ (shape_begins h)

one_form : {lexemes : List Lexeme} {limit limit' : Option ℕ} {n n' i i' : ℕ} {form form' : Definition} {j j' : ℕ} → i ≡ i'
    → (h : IsDefinition lexemes limit n i form j) → (h' : IsDefinition lexemes limit' n' i' form' j') → form_of h ≡ form_of h'
one_form {lexemes = lexemes} q h h' = sym (first_form h) ∙ ap (λ x. form_at (kind_at lexemes x)) q ∙ first_form h'

form_some : {lexemes : List Lexeme} {limit : Option ℕ} {n i : ℕ} {form : Definition} {j : ℕ} → (h : IsDefinition lexemes limit n i form j) → form_of h ≢ 0
form_some (namespace k sees name opens h close is) = λ none. omega arith
form_some (struct_definition h) = λ none. omega arith
form_some (constant_definition h) = λ none. omega arith
form_some (function_definition h) = λ none. omega arith

-- a definition stands where definitions do not end
definition_goes_on : {lexemes : List Lexeme} {limit : Option ℕ} {n i i' : ℕ} {form : Definition} {j : ℕ} → i ≡ i' → IsDefinition lexemes limit n i form j
    → ends (kind_at lexemes i') ≡ true → ⊥
definition_goes_on {lexemes = lexemes} q h is = form_some h (sym (first_form h) ∙ ap (λ x. form_at (kind_at lexemes x)) q ∙ end_form _ is)

mutual
  same_definition : {lexemes : List Lexeme} {limit limit' : Option ℕ} {n n' i i' : ℕ} {form form' : Definition} {j j' : ℕ} → i ≡ i'
      → IsDefinition lexemes limit n i form j → IsDefinition lexemes limit' n' i' form' j' → (form ≡ form') × (j ≡ j')
  same_definition q (namespace k sees name opens h close is) (namespace k' sees' name' opens' h' close' is') =
      let called = same_name _ (ap (λ x. x + 1) q) name name' in
      let others = same_definitions (ap (λ x. x + 3) q) h h' in
      ((λ x. Namespace (roll-Namespace (record { name = called x; definitions = others.0 x; token = q x + 1 }))), is ∙ ap (λ x. x + 1) others.1 ∙ sym is')
  same_definition q (struct_definition h) (struct_definition h') =
      let same = same_struct q h h' in
      ((λ x. StructForm (same.0 x)), same.1)
  same_definition q (constant_definition h) (constant_definition h') =
      let same = same_constant q h h' in
      ((λ x. ConstantForm (same.0 x)), same.1)
  same_definition q (function_definition h) (function_definition h') =
      let same = same_function q h h' in
      ((λ x. FunctionForm (same.0 x)), same.1)
  same_definition q h h' = let same = one_form q h h' in absurd (omega arith)

  same_definitions : {lexemes : List Lexeme} {limit limit' : Option ℕ} {n n' i i' : ℕ} {forms forms' : List Definition} {j j' : ℕ} → i ≡ i'
      → AreDefinitions lexemes limit n i forms j → AreDefinitions lexemes limit' n' i' forms' j' → (forms ≡ forms') × (j ≡ j')
  same_definitions q (definitions_end none is) (definitions_end none' is') = (refl, cc)
  same_definitions q (definitions_end none is) (definitions k' within' h' more') = absurd (definition_goes_on (sym q) h' none)
  same_definitions q (definitions k within h more) (definitions_end none' is') = absurd (definition_goes_on q h none')
  same_definitions q (definitions k within h more) (definitions k' within' h' more') =
      let first = same_definition q h h' in
      let others = same_definitions first.1 more more' in
      ((λ x. first.0 x ∷ others.0 x), others.1)

same_imports : {lexemes : List Lexeme} {i i' : ℕ} {forms forms' : List Import} {j j' : ℕ} → i ≡ i' → AreImports lexemes i forms j → AreImports lexemes i' forms' j'
    → (forms ≡ forms') × (j ≡ j')
same_imports q (no_import lacks is) (no_import lacks' is') = (refl, cc)
same_imports q (no_import lacks is) (imports sees' text' printable' semicolon' more') = absurd (lacks cc)
same_imports q (imports sees text printable semicolon more) (no_import lacks' is') = absurd (lacks' cc)
same_imports {lexemes = lexemes} q (imports sees text printable semicolon more) (imports sees' text' printable' semicolon' more') =
    let others = same_imports (ap (λ x. x + 3) q) more more' in
    ((λ x. record { name = unquoted (bytes_at lexemes (q x + 1)); token = q x + 1 } ∷ others.0 x), others.1)

same_version : {lexemes : List Lexeme} {i i' j j' : ℕ} → i ≡ i' → IsVersion lexemes i j → IsVersion lexemes i' j' → j ≡ j'
same_version q (no_version lacks is) (no_version lacks' is') = cc
same_version q (no_version lacks is) (version sees' number' semicolon' is') = absurd (lacks cc)
same_version q (version sees number semicolon is) (no_version lacks' is') = absurd (lacks' cc)
same_version q (version sees number semicolon is) (version sees' number' semicolon' is') = cc

pub same_module : {lexemes : List Lexeme} {limit limit' : Option ℕ} {form form' : Module} → IsModule lexemes limit form → IsModule lexemes limit' form' → form ≡ form'
same_module (module_of i j begin named h) (module_of i' j' begin' named' h') =
    let first = same_imports (same_version refl begin begin') named named' in
    let others = same_definitions first.1 h h' in
    λ x. record { imports = first.0 x; definitions = others.0 x }
