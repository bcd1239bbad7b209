-- The machine passes over each name and shape.
use Rattle.std.proofs.Common.{◌≡◌, ◌≢◌, ℕ, ◌+◌, true, List, [], ◌∷◌, Option, Some, ap, ◌∙◌, refl}
use Rattle.ctl_tree.specs.declared.keyword.Keyword.{Keyword}
use Rattle.ctl_tree.specs.declared.keyword.Keyword.TheVariants.{Bool as BoolWord, Int as IntWord, Half as HalfWord, Float as FloatWord}
use Rattle.ctl_tree.specs.declared.sign.Sign.TheVariants.{ColonColon}
use Rattle.ctl_tree.specs.declared.token.TokenKind.{TokenKind}
use Rattle.ctl_tree.specs.declared.token.TokenKind.TheVariants.{Word, Name, Sign as SignKind}
use Rattle.ctl_tree.specs.declared.expression.QualifiedName.{QualifiedName}
use Rattle.ctl_tree.specs.declared.declaration.ShapeKind.{ShapeKind}
use Rattle.ctl_tree.specs.declared.declaration.ShapeName.{ShapeName}
use Rattle.ctl_tree.specs.Lexemes.{Lexeme, kind_at}
use Rattle.ctl_tree.specs.Names.{AreNames, last_name, space, IsQualifiedName, local_name, global_name, IsShape, word_shape, unsigned_shape, unsigned_int_shape, named_shape, shape_of}
use Rattle.grammar_machine.specs.Front.{begins_shape}
use Rattle.grammar_machine.specs.Machine.{MoreNames, QualifiedName as TheQualifiedName, Shape, Reads, Expands, more_names_move, qualified_move, shape_word_move, may_int_move, name_move, Passes}
use Rattle.grammar_machine.proofs.Steps.{two, done, read, expand}

pub lacks_colons : (k : Option TokenKind) → k ≢ Some (SignKind ColonColon) → more_names_move k ≡ Expands 0 []
lacks_colons (Some (SignKind ColonColon)) h = absurd (h refl)
lacks_colons _ h = refl

pub lacks_int : (k : Option TokenKind) → k ≢ Some (Word IntWord) → may_int_move k ≡ Expands 0 []
lacks_int (Some (Word IntWord)) h = absurd (h refl)
lacks_int _ h = refl

-- what a keyword's shape does for the machine
pub reads_shape : (word : Keyword) (kind : ShapeKind) → shape_of word ≡ Some kind → shape_word_move (Some (Word word)) ≡ Reads 0 []
reads_shape BoolWord kind e = refl
reads_shape IntWord kind e = refl
reads_shape HalfWord kind e = refl
reads_shape FloatWord kind e = refl
reads_shape _ kind e = absurd cc

pub word_begins : (word : Keyword) (kind : ShapeKind) → shape_of word ≡ Some kind → begins_shape (Some (Word word)) ≡ true
word_begins BoolWord kind e = refl
word_begins IntWord kind e = refl
word_begins HalfWord kind e = refl
word_begins FloatWord kind e = refl
word_begins _ kind e = absurd cc

-- names begin with a name
names_begin : {T : List Lexeme} {i j : ℕ} {spaces : List (List ℕ)} {name : List ℕ} → AreNames T i spaces name j → kind_at T i ≡ Some Name
names_begin (last_name seen lacks e) = seen.0
names_begin (space seen see more) = seen.0

-- a qualified name begins with a name or ::, so what is the same at both is so at its first token
pub at_name : {X : Type 0} (f : Option TokenKind → X) (x : X) {T : List Lexeme} {i j : ℕ} {name : QualifiedName} → f (Some Name) ≡ x → f (Some (SignKind ColonColon)) ≡ x
    → IsQualifiedName T i name j → f (kind_at T i) ≡ x
at_name f x at at' (local_name names) = ap f (names_begin names) ∙ at
at_name f x at at' (global_name see names) = ap f see ∙ at'

pub shape_begins : {T : List Lexeme} {i j : ℕ} {shape : ShapeName} → IsShape T i shape j → begins_shape (kind_at T i) ≡ true
shape_begins (word_shape {kind = kind} word see is e) = ap begins_shape see ∙ word_begins word kind is
shape_begins (unsigned_shape see lacks e) = ap begins_shape see
shape_begins (unsigned_int_shape see see' e) = ap begins_shape see
shape_begins (named_shape name) = at_name begins_shape true refl refl name

module _ {T : List Lexeme} {L : Option ℕ} where
  -- the names after the first
  pub passes_more_names : {i j : ℕ} {spaces : List (List ℕ)} {name : List ℕ} → AreNames T i spaces name j → Passes T L (MoreNames ∷ []) (i + 1) [] j
  passes_more_names (last_name seen lacks e) below = expand (lacks_colons _ lacks) (done e)
  passes_more_names (space {i = i} seen see more) below = read (ap more_names_move see) (two i) (read (ap name_move (names_begin more)) refl (passes_more_names more below))

  pub passes_qualified_name : {i j : ℕ} {name : QualifiedName} → IsQualifiedName T i name j → Passes T L (TheQualifiedName ∷ []) i [] j
  passes_qualified_name (local_name names) below = read (ap qualified_move (names_begin names)) refl (passes_more_names names below)
  passes_qualified_name (global_name see names) below = read (ap qualified_move see) refl (read (ap name_move (names_begin names)) refl (passes_more_names names below))

  pub passes_shape : {i j : ℕ} {shape : ShapeName} → IsShape T i shape j → Passes T L (Shape ∷ []) i [] j
  passes_shape (word_shape {kind = kind} word see is e) below = read (ap shape_word_move see ∙ reads_shape word kind is) refl (done e)
  passes_shape (unsigned_shape see lacks e) below = read (ap shape_word_move see) refl (expand (lacks_int _ lacks) (done e))
  passes_shape (unsigned_int_shape {i = i} see see' e) below = read (ap shape_word_move see) refl (read (ap may_int_move see') (two i) (done e))
  passes_shape (named_shape name) below = expand (at_name shape_word_move (Expands 0 (TheQualifiedName ∷ [])) refl refl name) (passes_qualified_name name below)
