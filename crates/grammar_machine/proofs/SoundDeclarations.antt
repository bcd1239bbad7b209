-- The moves of sizes, initialisers and variables are right.
use Rattle.std.proofs.Common.{◌≡◌, ℕ, ◌+◌, List, [], ◌∷◌, ap, subst, ◌∙◌, refl, Option, Some}
use Rattle.ctl_tree.specs.declared.keyword.Keyword.TheVariants.{Const}
use Rattle.ctl_tree.specs.declared.sign.Sign.TheVariants.{OpenSquare, CloseSquare, OpenCurly, CloseCurly, Comma, Semicolon, Assign}
use Rattle.ctl_tree.specs.declared.token.TokenKind.{TokenKind}
use Rattle.ctl_tree.specs.declared.token.TokenKind.TheVariants.{Word, Name, Sign as SignKind}
use Rattle.ctl_tree.specs.declared.declaration.Constant.{Constant}
use Rattle.ctl_tree.specs.declared.declaration.Variable.{Variable}
use Rattle.ctl_tree.specs.Lexemes.{Lexeme, kind_at, Within}
use Rattle.ctl_tree.specs.Declarations.{AreSizes, AreArraySizes, IsInitialiser, IsConstant, IsVariable}
use Rattle.ctl_tree.specs.Declarations.AreSizes.{no_size, sizes}
use Rattle.ctl_tree.specs.Declarations.AreArraySizes.{no_array_size, open_size, stated_size}
use Rattle.ctl_tree.specs.Declarations.IsInitialiser.{one, brace_list}
use Rattle.ctl_tree.specs.Declarations.AreMoreElements.{elements_end, more_elements}
use Rattle.ctl_tree.specs.Declarations.IsValue.{no_value, value}
use Rattle.ctl_tree.specs.Declarations.IsConstant.{constant}
use Rattle.ctl_tree.specs.Declarations.IsVariable.{variable}
use Rattle.grammar_machine.specs.Front.{begins_expr}
use Rattle.grammar_machine.specs.Machine.{Expr, sizes_move, array_sizes_move, array_size_move, initialiser_move, more_elements_move, value_move, variable_end}
use Rattle.grammar_machine.specs.Machine.Symbol.{TheSign, TheName, Shape, Sizes, ArraySizes, ArraySize, Initialiser, MoreElements, Value}
use Rattle.grammar_machine.proofs.Meaning.{Means, MeansFrom, Sound}
use Rattle.grammar_machine.proofs.Steps.{two}
use Rattle.grammar_machine.proofs.Tokens.{lacks, is_read, sound_first}
use Rattle.grammar_machine.proofs.SoundExpressions.{loosest}

pub sound_sizes : (T : List Lexeme) (L : Option ℕ) (i n : ℕ) (k : Option TokenKind) → kind_at T i ≡ k → Sound T L i (Sizes n) (sizes_move n k)
sound_sizes T L i n (Some (SignKind OpenSquare)) e =
    (λ w j h. (_, sizes h.0 e w (h.1 loosest).1 h.2.1.0 (subst (λ p. AreSizes T L n p h.2.2.0 j) h.2.1.1 h.2.2.1)), λ below f. f, refl)
sound_sizes T L i n _ e = (λ w j h. ([], no_size (lacks (λ k. is_read (sizes_move n k)) e refl refl) h), λ below f. f, refl)

pub sound_array_sizes : (T : List Lexeme) (L : Option ℕ) (i n : ℕ) (k : Option TokenKind) → kind_at T i ≡ k → Sound T L i (ArraySizes n) (array_sizes_move n k)
sound_array_sizes T L i n (Some (SignKind OpenSquare)) e = (λ w j h. h.1 i j h.2.0 refl e h.2.1, λ below f. f, refl)
sound_array_sizes T L i n _ e = (λ w j h. ([], no_array_size (lacks (λ k. is_read (array_sizes_move n k)) e refl refl) h), λ below f. f, refl)

pub open_at : (T : List Lexeme) (L : Option ℕ) (i n j : ℕ) → kind_at T i ≡ Some (SignKind CloseSquare) → j ≡ i + 1 → Means T L (ArraySize n) i j
open_at T L i n j e h p q more ip opens rest = (
  _,
  open_size opens (subst (λ m. kind_at T m ≡ Some (SignKind CloseSquare)) ip e)
      (subst (λ m. AreArraySizes T L n m more q) (h ∙ ap (λ m. m + 1) ip ∙ two p) rest),
)

pub stated_at : (T : List Lexeme) (L : Option ℕ) (i n j : ℕ) → Within L (n + 1) → MeansFrom T L (Expr (n + 1) ∷ TheSign CloseSquare ∷ []) i j → Means T L (ArraySize n) i j
stated_at T L i n j w h p q more ip opens rest =
    let whole : MeansFrom T L (Expr (n + 1) ∷ TheSign CloseSquare ∷ []) (p + 1) j = subst (λ m. MeansFrom T L (Expr (n + 1) ∷ TheSign CloseSquare ∷ []) m j) ip h in
    (_, stated_size whole.0 opens w (whole.1 loosest).1 whole.2.0 (subst (λ m. AreArraySizes T L n m more q) whole.2.1 rest))

pub sound_array_size : (T : List Lexeme) (L : Option ℕ) (i n : ℕ) (k : Option TokenKind) → kind_at T i ≡ k → Sound T L i (ArraySize n) (array_size_move n k)
sound_array_size T L i n (Some (SignKind CloseSquare)) e = (λ w j h. open_at T L i n j e h, λ below f. f, refl)
sound_array_size T L i n k e = sound_first T L i (n + 1) (ArraySize n) (Expr (n + 1) ∷ TheSign CloseSquare ∷ []) (begins_expr k) (λ w j h. stated_at T L i n j w h) (λ below f. f) refl

pub sound_initialiser : (T : List Lexeme) (L : Option ℕ) (i n inner : ℕ) (k : Option TokenKind) → kind_at T i ≡ k → Sound T L i (Initialiser n inner) (initialiser_move n inner k)
sound_initialiser T L i n inner (Some (SignKind OpenCurly)) e = (λ w j h. (_, brace_list h.0 e w h.1.1 h.2.1), λ below f. f, refl)
sound_initialiser T L i n inner _ e = (λ w j h. (_, one (lacks (λ k. is_read (initialiser_move n inner k)) e refl refl) (h loosest).1), λ below f. f, refl)

pub sound_more_elements : (T : List Lexeme) (L : Option ℕ) (i n : ℕ) (k : Option TokenKind) → kind_at T i ≡ k → Sound T L i (MoreElements n) (more_elements_move n k)
sound_more_elements T L i n (Some (SignKind Comma)) e = (λ w j h. (_, more_elements h.0 e h.1.1 h.2.1), λ below f. f, refl)
sound_more_elements T L i n (Some (SignKind CloseCurly)) e = (λ w j h. ([], elements_end e h), λ below f. f, refl)
sound_more_elements T L i n _ e = tt

pub sound_value : (T : List Lexeme) (L : Option ℕ) (i n inner : ℕ) (k : Option TokenKind) → kind_at T i ≡ k → Sound T L i (Value n inner) (value_move n inner k)
sound_value T L i n inner (Some (SignKind Assign)) e = (λ w j h. (_, value e h.1), λ below f. f, refl)
sound_value T L i n inner _ e = (λ w j h. (_, no_value (lacks (λ k. is_read (value_move n inner k)) e refl refl) h), λ below f. f, refl)

-- a constant after its keyword
pub constant_after : (T : List Lexeme) (L : Option ℕ) (i n j : ℕ) → kind_at T i ≡ Some (Word Const)
    → MeansFrom T L (Shape ∷ TheName ∷ ArraySizes n ∷ TheSign Assign ∷ Initialiser n n ∷ TheSign Semicolon ∷ []) (i + 1) j → (c : Constant) × IsConstant T L n i c j
constant_after T L i n j e (k, shape, (m, named, (p, many, (q, assigned, (r, valued, ended))))) = (
  _,
  constant k p r e shape.1 (named.0, refl) (subst (λ a. AreArraySizes T L n a many.0 p) named.1 many.1) assigned.0
      (subst (λ a. IsInitialiser T L n n a valued.0 r) assigned.1 valued.1) ended.0 ended.1,
)

-- a variable from its name on
pub variable_from : (T : List Lexeme) (L : Option ℕ) (i n inner j k m : ℕ) → (shape : Means T L Shape i k) → kind_at T k ≡ Some Name → m ≡ k + 1
    → MeansFrom T L (variable_end n inner) m j → (v : Variable) × IsVariable T L n inner i v j
variable_from T L i n inner j k m shape named after (p, many, (q, valued, ended)) =
    (_, variable k p q shape.1 (named, refl) (subst (λ a. AreArraySizes T L n a many.0 p) after many.1) valued.1 ended.0 ended.1)
