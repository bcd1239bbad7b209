-- The machine passes over each size, initialiser, constant and variable.
use Rattle.std.proofs.Common.{◌≡◌, ◌≢◌, ℕ, ◌+◌, ◌⊎◌, inl, inr, true, List, [], ◌∷◌, Option, Some, ap, ◌∙◌, refl}
use Rattle.std.proofs.lemmas.Bool.{false≢true}
use Rattle.ctl_tree.specs.declared.keyword.Keyword.{Keyword}
use Rattle.ctl_tree.specs.declared.keyword.Keyword.TheVariants.{Bool as BoolWord, Int as IntWord, Half as HalfWord, Float as FloatWord, Const}
use Rattle.ctl_tree.specs.declared.sign.Sign.TheVariants.{OpenSquare, CloseSquare, OpenCurly, Semicolon, Assign, ColonColon}
use Rattle.ctl_tree.specs.declared.token.TokenKind.{TokenKind}
use Rattle.ctl_tree.specs.declared.token.TokenKind.TheVariants.{Word, Name, Sign as SignKind}
use Rattle.ctl_tree.specs.declared.expression.QualifiedName.{QualifiedName}
use Rattle.ctl_tree.specs.declared.declaration.ShapeKind.{ShapeKind}
use Rattle.ctl_tree.specs.declared.declaration.ShapeName.{ShapeName}
use Rattle.ctl_tree.specs.declared.declaration.ArraySize.{ArraySize}
use Rattle.ctl_tree.specs.declared.declaration.Initialiser.{Initialiser}
use Rattle.ctl_tree.specs.declared.declaration.Constant.{Constant}
use Rattle.ctl_tree.specs.declared.declaration.Variable.{Variable}
use Rattle.ctl_tree.specs.Lexemes.{Lexeme, kind_at, bytes_at, SeesSign, SeesWord}
use Rattle.ctl_tree.specs.Names.{IsQualifiedName, IsShape, word_shape, unsigned_shape, unsigned_int_shape, named_shape, shape_of}
use Rattle.ctl_tree.specs.Declarations.{AreSizes, no_size, sizes, AreArraySizes, no_array_size, open_size, stated_size, IsInitialiser, one, brace_list, AreMoreElements, elements_end, more_elements, IsValue, no_value, value, IsConstant, constant, IsVariable, variable}
use Rattle.grammar_machine.specs.Front.{begins_expr, begins_word_shape}
use Rattle.grammar_machine.specs.Machine.{Symbol, TheSign, TheName, QualifiedName as TheQualifiedName, Shape, Sizes, ArraySizes, Initialiser as TheInitialiser, MoreElements, Value, Expands, Expr as TheExpr, move, sizes_move, array_sizes_move, array_size_move, initialiser_move, more_elements_move, value_move, variable_end, Passes}
use Rattle.grammar_machine.proofs.Steps.{two, done, pass, read, read_deeper, expand, expand_deeper, sign, word}
use Rattle.grammar_machine.proofs.PassNames.{at_name, passes_qualified_name, passes_shape}
use Rattle.grammar_machine.proofs.PassExpressions.{first_is, expr_begins, passes_operand}

-- a token that begins no form of a kind

pub lacks_size : (n : ℕ) (k : Option TokenKind) → k ≢ Some (SignKind OpenSquare) → sizes_move n k ≡ Expands 0 []
lacks_size n (Some (SignKind OpenSquare)) h = absurd (h refl)
lacks_size n _ h = refl

pub lacks_array_size : (n : ℕ) (k : Option TokenKind) → k ≢ Some (SignKind OpenSquare) → array_sizes_move n k ≡ Expands 0 []
lacks_array_size n (Some (SignKind OpenSquare)) h = absurd (h refl)
lacks_array_size n _ h = refl

pub lacks_brace : (n inner : ℕ) (k : Option TokenKind) → k ≢ Some (SignKind OpenCurly) → initialiser_move n inner k ≡ Expands 0 (TheExpr inner ∷ [])
lacks_brace n inner (Some (SignKind OpenCurly)) h = absurd (h refl)
lacks_brace n inner _ h = refl

pub lacks_value : (n inner : ℕ) (k : Option TokenKind) → k ≢ Some (SignKind Assign) → value_move n inner k ≡ Expands 0 []
lacks_value n inner (Some (SignKind Assign)) h = absurd (h refl)
lacks_value n inner _ h = refl

pub first_size : (n : ℕ) (k : Option TokenKind) → begins_expr k ≡ true → array_size_move n k ≡ Expands (n + 1) (TheExpr (n + 1) ∷ TheSign CloseSquare ∷ [])
first_size n (Some (SignKind CloseSquare)) h = absurd (false≢true h)
first_size n k h = first_is (begins_expr k) (n + 1) (TheExpr (n + 1) ∷ TheSign CloseSquare ∷ []) h

-- a shape is a qualified name, or its first token is a keyword for one
pub begins_word : (word : Keyword) (kind : ShapeKind) → shape_of word ≡ Some kind → begins_word_shape (Some (Word word)) ≡ true
begins_word BoolWord kind e = refl
begins_word IntWord kind e = refl
begins_word HalfWord kind e = refl
begins_word FloatWord kind e = refl
begins_word _ kind e = absurd cc

pub shape_cases : {T : List Lexeme} {i j : ℕ} {shape : ShapeName} → IsShape T i shape j → (begins_word_shape (kind_at T i) ≡ true) ⊎ ((name : QualifiedName) × IsQualifiedName T i name j)
shape_cases (word_shape {kind = kind} word see is e) = inl (ap begins_word_shape see ∙ begins_word word kind is)
shape_cases (unsigned_shape see lacks e) = inl (ap begins_word_shape see)
shape_cases (unsigned_int_shape see see' e) = inl (ap begins_word_shape see)
shape_cases (named_shape {name = name} h) = inr (name, h)

module _ {T : List Lexeme} {L : Option ℕ} where
  pub passes_sizes : {n i j : ℕ} {es : List ArraySize} → AreSizes T L n i es j → Passes T L (Sizes n ∷ []) i [] j
  passes_sizes (no_size {n = n} lacks e) below = expand (lacks_size n _ lacks) (done e)
  passes_sizes (sizes {n = n} k see within h close more) below =
      read_deeper (ap (sizes_move n) see) within refl (pass (passes_operand h) (sign refl close refl (passes_sizes more below)))

  pub passes_array_sizes : {n i j : ℕ} {es : List ArraySize} → AreArraySizes T L n i es j → Passes T L (ArraySizes n ∷ []) i [] j
  passes_array_sizes (no_array_size {n = n} lacks e) below = expand (lacks_array_size n _ lacks) (done e)
  passes_array_sizes (open_size {n = n} {i = i} see close more) below =
      read (ap (array_sizes_move n) see) refl (read (ap (array_size_move n) close) (two i) (passes_array_sizes more below))
  passes_array_sizes (stated_size {n = n} k see within h close more) below =
      read (ap (array_sizes_move n) see) refl
      (expand_deeper (first_size n _ (expr_begins h)) within (pass (passes_operand h) (sign refl close refl (passes_array_sizes more below))))

  mutual
    pub passes_initialiser : {n inner i j : ℕ} {v : Initialiser} → IsInitialiser T L n inner i v j → Passes T L (TheInitialiser n inner ∷ []) i [] j
    passes_initialiser (one {n = n} {inner = inner} lacks h) below = expand (lacks_brace n inner _ lacks) (passes_operand h below)
    passes_initialiser (brace_list {n = n} {inner = inner} k see within h more) below =
        read_deeper (ap (initialiser_move n inner) see) within refl (pass (passes_initialiser h) (passes_more_elements more below))

    pub passes_more_elements : {n i j : ℕ} {vs : List Initialiser} → AreMoreElements T L n i vs j → Passes T L (MoreElements n ∷ []) i [] j
    passes_more_elements (elements_end {n = n} see e) below = read (ap (more_elements_move n) see) refl (done e)
    passes_more_elements (more_elements {n = n} k see h more) below =
        read (ap (more_elements_move n) see) refl (pass (passes_initialiser h) (passes_more_elements more below))

  pub passes_value : {n inner i j : ℕ} {v : Option Initialiser} → IsValue T L n inner i v j → Passes T L (Value n inner ∷ []) i [] j
  passes_value (no_value {n = n} {inner = inner} lacks e) below = expand (lacks_value n inner _ lacks) (done e)
  passes_value (value {n = n} {inner = inner} see h) below = read (ap (value_move n inner) see) refl (passes_initialiser h below)

  -- a constant after its keyword
  pub passes_constant : {n i j : ℕ} {c : Constant} → IsConstant T L n i c j
      → Passes T L (Shape ∷ TheName ∷ ArraySizes n ∷ TheSign Assign ∷ TheInitialiser n n ∷ TheSign Semicolon ∷ []) (i + 1) [] j
  passes_constant (constant k m p see shape name es assign v end e) below =
      pass (passes_shape shape) (word name refl (pass (passes_array_sizes es) (sign refl assign refl (pass (passes_initialiser v) (sign refl end refl (done e))))))

  pub constant_begins : {n i j : ℕ} {c : Constant} → IsConstant T L n i c j → SeesWord T i Const
  constant_begins (constant k m p see shape name es assign v end e) = see

  -- a variable after its name
  pub passes_variable_end : {n inner i j m p : ℕ} {es : List ArraySize} {v : Option Initialiser} → AreArraySizes T L n i es m → IsValue T L n inner m v p → SeesSign T p Semicolon → j ≡ p + 1
      → Passes T L (variable_end n inner) i [] j
  passes_variable_end es v end e below = pass (passes_array_sizes es) (pass (passes_value v) (sign refl end refl (done e)))

  -- a variable where a statement or the head of a `for` begins: a symbol x tells a keyword's shape from a name, and a symbol y stands after the name
  pub passes_variable : (x y : Symbol) {n inner i j : ℕ} {v : Variable}
      → ((k : Option TokenKind) (bytes : List ℕ) → begins_word_shape k ≡ true → move x k bytes ≡ Expands 0 (Shape ∷ TheName ∷ variable_end n inner))
      → ((bytes : List ℕ) → move x (Some Name) bytes ≡ Expands 0 (TheQualifiedName ∷ y ∷ []))
      → ((bytes : List ℕ) → move x (Some (SignKind ColonColon)) bytes ≡ Expands 0 (TheQualifiedName ∷ y ∷ []))
      → ((bytes : List ℕ) → move y (Some Name) bytes ≡ Expands 0 (TheName ∷ variable_end n inner))
      → IsVariable T L n inner i v j → Passes T L (x ∷ []) i [] j
  passes_variable x y {n = n} {inner = inner} {i = i} {j = j} at_word at named after (variable k m p shape name es v end e) below = go (shape_cases shape) below
    where
      go : (begins_word_shape (kind_at T i) ≡ true) ⊎ ((name : QualifiedName) × IsQualifiedName T i name k) → Passes T L (x ∷ []) i [] j
      go (inl h) below = expand (at_word _ _ h) (pass (passes_shape shape) (word name refl (passes_variable_end es v end e below)))
      go (inr (q, h)) below =
          expand (at_name (λ k. move x k (bytes_at T i)) (Expands 0 (TheQualifiedName ∷ y ∷ [])) (at _) (named _) h)
          (pass (passes_qualified_name h) (expand (ap (λ k'. move y k' (bytes_at T k)) name.0 ∙ after _) (word name refl (passes_variable_end es v end e below))))
