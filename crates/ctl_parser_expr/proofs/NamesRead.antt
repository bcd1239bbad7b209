-- Qualified names and shapes that have been read.
use Rattle.std.proofs.Common.{arith, ◌≡◌, ℕ, ◌+◌, ◌-◌, true, false, List, [], ◌∷◌, Option, Some, None, ap, subst, sym, refl, ◌⊎◌, inl, inr}
use Rattle.std.specs.Prelude.{Result, Ok, Err, IfOk}
use Rattle.ctl_tree.specs.declared.keyword.Keyword.TheVariants.{Bool as BoolWord, Int as IntWord, Half as HalfWord, Float as FloatWord}
use Rattle.ctl_tree.specs.declared.sign.Sign.TheVariants.{ColonColon}
use Rattle.ctl_tree.specs.declared.token.TokenKind.{TokenKind}
use Rattle.ctl_tree.specs.declared.token.TokenKind.TheVariants.{Word, Name, Sign as SignKind}
use Rattle.ctl_tree.specs.declared.expression.QualifiedName.{QualifiedName}
use Rattle.ctl_tree.specs.declared.declaration.ShapeKind.{ShapeKind}
use Rattle.ctl_tree.specs.Lexemes.{Lexeme, kind_at, SeesSign}
use Rattle.ctl_tree.specs.Names.{AreNames, IsQualifiedName, local_name, global_name, IsShape, word_shape}
use Rattle.grammar_machine.specs.Machine.{QualifiedName as TheQualifiedName, Reads, Expands, shape_word_move}
use Rattle.ctl_parser_expr.specs.declared.fault.Fault.{Fault}
use Rattle.ctl_parser_expr.specs.Lookup.{shape_of_token}
use Rattle.ctl_parser_expr.specs.Parses.{IsBetween, IsFrom}

module _ (T : List Lexeme) (i : ℕ) where
  pub local_read : (result : Result (QualifiedName × ℕ) Fault)
      → IfOk result (λ r. (AreNames T i r.0.spaces r.0.name r.1 × (r.0 ≡ record { is_global = false; spaces = r.0.spaces; name = r.0.name; token = r.1 - 1 })) × IsFrom (i + 1) r.1 T)
      → IfOk result (λ r. IsQualifiedName T i r.0 r.1 × IsBetween i r.1 T)
  local_read (Ok r) ((are, is), ends) = (subst (λ name. IsQualifiedName T i name r.1) (sym is) (local_name are), (omega arith, ends.1, ends.2))
  local_read (Err fault) h = tt

  pub global_read : (result : Result (QualifiedName × ℕ) Fault) → SeesSign T i ColonColon
      → IfOk result (λ r. (AreNames T (i + 1) r.0.spaces r.0.name r.1 × (r.0 ≡ record { is_global = true; spaces = r.0.spaces; name = r.0.name; token = r.1 - 1 })) × IsFrom (i + 1 + 1) r.1 T)
      → IfOk result (λ r. IsQualifiedName T i r.0 r.1 × IsBetween i r.1 T)
  global_read (Ok r) see ((are, is), ends) = (subst (λ name. IsQualifiedName T i name r.1) (sym is) (global_name see are), (omega arith, ends.1, ends.2))
  global_read (Err fault) see h = tt

-- a shape of one keyword
pub word_move : (k : Option TokenKind) (kind : ShapeKind) → shape_of_token k ≡ Some kind → shape_word_move k ≡ Reads 0 []
word_move (Some (Word BoolWord)) kind is = refl
word_move (Some (Word IntWord)) kind is = refl
word_move (Some (Word HalfWord)) kind is = refl
word_move (Some (Word FloatWord)) kind is = refl
word_move _ kind is = absurd cc

pub word_shape_at : (T : List Lexeme) (i : ℕ) (kind : ShapeKind) (k : Option TokenKind) → kind_at T i ≡ k → shape_of_token k ≡ Some kind → IsShape T i (record { kind = kind; token = i }) (i + 1)
word_shape_at T i kind (Some (Word word)) sees is = word_shape word sees is refl
word_shape_at T i kind _ sees is = absurd cc

pub word_there : (k : Option TokenKind) (kind : ShapeKind) → shape_of_token k ≡ Some kind → k ≡ None → ⊥
word_there None kind is e = absurd cc
word_there (Some token) kind is e = absurd cc

-- a name begins a shape
pub name_expands : (k : Option TokenKind) → (k ≡ Some Name) ⊎ (k ≡ Some (SignKind ColonColon)) → shape_word_move k ≡ Expands 0 (TheQualifiedName ∷ [])
name_expands k (inl e) = ap shape_word_move e
name_expands k (inr e) = ap shape_word_move e
