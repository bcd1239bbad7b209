-- From one place at most one size, initialiser, constant and variable stands, with one end, whatever nesting is
-- allowed.
use Rattle.std.proofs.Common.{◌≡◌, ℕ, ◌+◌, List, ◌∷◌, Option, Some, None, ap, sym, ◌∙◌, refl}
use Rattle.ctl_tree.specs.declared.sign.Sign.TheVariants.{CloseSquare}
use Rattle.ctl_tree.specs.declared.declaration.ArraySize.{ArraySize}
use Rattle.ctl_tree.specs.declared.declaration.Initialiser.{Initialiser}
use Rattle.ctl_tree.specs.declared.declaration.Initialiser.TheVariants.{Expr as ExprForm, List as ListForm}
use Rattle.ctl_tree.specs.declared.declaration.BraceList.{roll-BraceList}
use Rattle.ctl_tree.specs.declared.declaration.Constant.{Constant}
use Rattle.ctl_tree.specs.declared.declaration.Variable.{Variable}
use Rattle.ctl_tree.specs.Lexemes.{Lexeme}
use Rattle.ctl_tree.specs.Declarations.{AreSizes, no_size, sizes, AreArraySizes, no_array_size, open_size, stated_size, IsInitialiser, one, brace_list, AreMoreElements, elements_end, more_elements, IsValue, no_value, value, IsConstant, constant, IsVariable, variable}
use Rattle.ctl_tree.proofs.Names.{same_name, same_shape}
use Rattle.ctl_tree.proofs.Expressions.{operand_begins, same_operand}

pub same_sizes : {lexemes : List Lexeme} {limit limit' : Option ℕ} {n n' i i' : ℕ} {es es' : List ArraySize} {j j' : ℕ} → i ≡ i'
    → AreSizes lexemes limit n i es j → AreSizes lexemes limit' n' i' es' j' → (es ≡ es') × (j ≡ j')
same_sizes q (no_size lacks is) (no_size lacks' is') = (refl, cc)
same_sizes q (no_size lacks is) (sizes k' sees' within' h' close' more') = absurd (lacks cc)
same_sizes q (sizes k sees within h close more) (no_size lacks' is') = absurd (lacks' cc)
same_sizes q (sizes k sees within h close more) (sizes k' sees' within' h' close' more') =
    let inner = same_operand (ap (λ x. x + 1) q) h h' in
    let others = same_sizes (ap (λ x. x + 1) inner.1) more more' in
    ((λ x. record { size = Some (inner.0 x); token = q x } ∷ others.0 x), others.1)

pub same_array_sizes : {lexemes : List Lexeme} {limit limit' : Option ℕ} {n n' i i' : ℕ} {es es' : List ArraySize} {j j' : ℕ} → i ≡ i'
    → AreArraySizes lexemes limit n i es j → AreArraySizes lexemes limit' n' i' es' j' → (es ≡ es') × (j ≡ j')
same_array_sizes q (no_array_size lacks is) (no_array_size lacks' is') = (refl, cc)
same_array_sizes q (no_array_size lacks is) (open_size sees' close' more') = absurd (lacks cc)
same_array_sizes q (no_array_size lacks is) (stated_size k' sees' within' h' close' more') = absurd (lacks cc)
same_array_sizes q (open_size sees close more) (no_array_size lacks' is') = absurd (lacks' cc)
same_array_sizes q (open_size sees close more) (open_size sees' close' more') =
    let others = same_array_sizes (ap (λ x. x + 2) q) more more' in
    ((λ x. record { size = None; token = q x } ∷ others.0 x), others.1)
same_array_sizes q (open_size sees close more) (stated_size k' sees' within' h' close' more') = let begins = operand_begins h' CloseSquare cc in absurd cc
same_array_sizes q (stated_size k sees within h close more) (no_array_size lacks' is') = absurd (lacks' cc)
same_array_sizes q (stated_size k sees within h close more) (open_size sees' close' more') = let begins = operand_begins h CloseSquare cc in absurd cc
same_array_sizes q (stated_size k sees within h close more) (stated_size k' sees' within' h' close' more') =
    let inner = same_operand (ap (λ x. x + 1) q) h h' in
    let others = same_array_sizes (ap (λ x. x + 1) inner.1) more more' in
    ((λ x. record { size = Some (inner.0 x); token = q x } ∷ others.0 x), others.1)

mutual
  pub same_initialiser : {lexemes : List Lexeme} {limit limit' : Option ℕ} {n n' inner inner' i i' : ℕ} {form form' : Initialiser} {j j' : ℕ} → i ≡ i'
      → IsInitialiser lexemes limit n inner i form j → IsInitialiser lexemes limit' n' inner' i' form' j' → (form ≡ form') × (j ≡ j')
  same_initialiser q (one lacks h) (one lacks' h') =
      let same = same_operand q h h' in
      ((λ x. ExprForm (same.0 x)), same.1)
  same_initialiser q (one lacks h) (brace_list k' sees' within' h' more') = absurd (lacks cc)
  same_initialiser q (brace_list k sees within h more) (one lacks' h') = absurd (lacks' cc)
  same_initialiser q (brace_list k sees within h more) (brace_list k' sees' within' h' more') =
      let first = same_initialiser (ap (λ x. x + 1) q) h h' in
      let others = same_more_elements first.1 more more' in
      ((λ x. ListForm (roll-BraceList (record { elements = first.0 x ∷ others.0 x; token = q x }))), others.1)

  same_more_elements : {lexemes : List Lexeme} {limit limit' : Option ℕ} {n n' i i' : ℕ} {forms forms' : List Initialiser} {j j' : ℕ} → i ≡ i'
      → AreMoreElements lexemes limit n i forms j → AreMoreElements lexemes limit' n' i' forms' j' → (forms ≡ forms') × (j ≡ j')
  same_more_elements q (elements_end close is) (elements_end close' is') = (refl, cc)
  same_more_elements q (elements_end close is) (more_elements k' comma' h' more') = absurd cc
  same_more_elements q (more_elements k comma h more) (elements_end close' is') = absurd cc
  same_more_elements q (more_elements k comma h more) (more_elements k' comma' h' more') =
      let first = same_initialiser (ap (λ x. x + 1) q) h h' in
      let others = same_more_elements first.1 more more' in
      ((λ x. first.0 x ∷ others.0 x), others.1)

pub same_value : {lexemes : List Lexeme} {limit limit' : Option ℕ} {n n' inner inner' i i' : ℕ} {form form' : Option Initialiser} {j j' : ℕ} → i ≡ i'
    → IsValue lexemes limit n inner i form j → IsValue lexemes limit' n' inner' i' form' j' → (form ≡ form') × (j ≡ j')
same_value q (no_value lacks is) (no_value lacks' is') = (refl, cc)
same_value q (no_value lacks is) (value sees' h') = absurd (lacks cc)
same_value q (value sees h) (no_value lacks' is') = absurd (lacks' cc)
same_value q (value sees h) (value sees' h') =
    let same = same_initialiser (ap (λ x. x + 1) q) h h' in
    ((λ x. Some (same.0 x)), same.1)

pub same_constant : {lexemes : List Lexeme} {limit limit' : Option ℕ} {n n' i i' : ℕ} {form form' : Constant} {j j' : ℕ} → i ≡ i'
    → IsConstant lexemes limit n i form j → IsConstant lexemes limit' n' i' form' j' → (form ≡ form') × (j ≡ j')
same_constant q (constant k m p sees h name array assign h' semicolon is) (constant k' m' p' sees' g name' array' assign' g' semicolon' is') =
    let shape = same_shape (ap (λ x. x + 1) q) h g in
    let called = same_name _ shape.1 name name' in
    let arrays = same_array_sizes (ap (λ x. x + 1) shape.1) array array' in
    let form = same_initialiser (ap (λ x. x + 1) arrays.1) h' g' in
    ((λ x. record { shape = shape.0 x; name = called x; sizes = arrays.0 x; value = form.0 x; token = shape.1 x }), is ∙ ap (λ x. x + 1) form.1 ∙ sym is')

pub same_variable : {lexemes : List Lexeme} {limit limit' : Option ℕ} {n n' inner inner' i i' : ℕ} {form form' : Variable} {j j' : ℕ} → i ≡ i'
    → IsVariable lexemes limit n inner i form j → IsVariable lexemes limit' n' inner' i' form' j' → (form ≡ form') × (j ≡ j')
same_variable q (variable k m p h name array h' semicolon is) (variable k' m' p' g name' array' g' semicolon' is') =
    let shape = same_shape q h g in
    let called = same_name _ shape.1 name name' in
    let arrays = same_array_sizes (ap (λ x. x + 1) shape.1) array array' in
    let form = same_value arrays.1 h' g' in
    ((λ x. record { shape = shape.0 x; name = called x; sizes = arrays.0 x; value = form.0 x; token = shape.1 x }), is ∙ ap (λ x. x + 1) form.1 ∙ sym is')
