-- The moves of signs, names and shapes are right.
use Rattle.std.proofs.Common.{◌≡◌, ℕ, ◌+◌, Bool, true, false, ◌==◌, List, [], ◌∷◌, ap, subst, ◌∙◌, refl, Option, Some, arith}
use Rattle.std.proofs.lemmas.Bool.{and_parts, eqb-true}
use Rattle.ctl_tree.specs.declared.keyword.Keyword.TheVariants.{Bool as BoolWord, Float as FloatWord, Half as HalfWord, Int as IntWord, Unsigned as UnsignedWord}
use Rattle.ctl_tree.specs.declared.sign.Sign.{Sign}
use Rattle.ctl_tree.specs.declared.sign.Sign.TheVariants.{ColonColon}
use Rattle.ctl_tree.specs.declared.token.TokenKind.{TokenKind}
use Rattle.ctl_tree.specs.declared.token.TokenKind.TheVariants.{Word, Name, Whole, Text, Sign as SignKind}
use Rattle.ctl_tree.specs.Lexemes.{Lexeme, kind_at, bytes_at}
use Rattle.ctl_tree.specs.Names.{AreNames}
use Rattle.ctl_tree.specs.Names.AreNames.{last_name, space}
use Rattle.ctl_tree.specs.Names.IsQualifiedName.{local_name, global_name}
use Rattle.ctl_tree.specs.Names.IsShape.{word_shape, unsigned_shape, unsigned_int_shape, named_shape}
use Rattle.grammar_machine.specs.Front.{sees, is_printable_text}
use Rattle.grammar_machine.specs.Machine.{read_if, name_move, one_move, import_text_move, qualified_move, more_names_move, shape_word_move, may_int_move}
use Rattle.grammar_machine.specs.Machine.Symbol.{TheSign, TheName, TheOne, ImportText, QualifiedName, MoreNames, Shape, MayInt}
use Rattle.grammar_machine.proofs.Meaning.{Means, MeansFrom, Sound}
use Rattle.grammar_machine.proofs.Steps.{two}
use Rattle.grammar_machine.proofs.Tokens.{lacks, is_read, sees_sign, printable_all}

pub sound_sign : (T : List Lexeme) (L : Option ℕ) (i : ℕ) (sign : Sign) (b : Bool) → sees sign (kind_at T i) ≡ b → Sound T L i (TheSign sign) (read_if b)
sound_sign T L i sign true e = (λ w j h. (sees_sign sign (kind_at T i) e, h), λ below f. (and_parts _ _ f).1, refl)
sound_sign T L i sign false e = tt

pub sound_name : (T : List Lexeme) (L : Option ℕ) (i : ℕ) (k : Option TokenKind) → kind_at T i ≡ k → Sound T L i TheName (name_move k)
sound_name T L i (Some Name) e = (λ w j h. (e, h), λ below f. f, refl)
sound_name T L i _ e = tt

pub one_if : (T : List Lexeme) (L : Option ℕ) (i n : ℕ) (b : Bool) → (n == 1) ≡ b → kind_at T i ≡ Some (Whole n) → Sound T L i TheOne (read_if b)
one_if T L i n true one e = (λ w j h. (subst (λ v. kind_at T i ≡ Some (Whole v)) (eqb-true n 1 one) e, h), λ below f. f, refl)
one_if T L i n false one e = tt

pub sound_one : (T : List Lexeme) (L : Option ℕ) (i : ℕ) (k : Option TokenKind) → kind_at T i ≡ k → Sound T L i TheOne (one_move k)
sound_one T L i (Some (Whole n)) e = one_if T L i n (n == 1) refl e
sound_one T L i _ e = tt

pub sound_import_text : (T : List Lexeme) (L : Option ℕ) (i : ℕ) (k : Option TokenKind) (b : Bool) → kind_at T i ≡ k → is_printable_text (bytes_at T i) ≡ b → Sound T L i ImportText (import_text_move k b)
sound_import_text T L i (Some Text) true e p = (λ w j h. (e, printable_all _ p, h), λ below f. f, refl)
sound_import_text T L i (Some Text) false e p = tt
sound_import_text T L i _ b e p = tt

-- the names from one that stands before a place
pub last_at : (T : List Lexeme) (L : Option ℕ) (i j : ℕ) → (kind_at T i ≡ Some (SignKind ColonColon) → ⊥) → j ≡ i → Means T L MoreNames i j
last_at T L i j absent h p word ip seen = ([], word, last_name seen (subst (λ q. kind_at T q ≡ Some (SignKind ColonColon) → ⊥) ip absent) (h ∙ ip))

names_after : (T : List Lexeme) (L : Option ℕ) (i j : ℕ) → MeansFrom T L (TheName ∷ MoreNames ∷ []) i j → (spaces : List (List ℕ)) × (name : List ℕ) × AreNames T i spaces name j
names_after T L i j (a, named, more) = more i (bytes_at T i) named.1 (named.0, refl)

next_names : (T : List Lexeme) (L : Option ℕ) (i j : ℕ) → kind_at T i ≡ Some (SignKind ColonColon) → MeansFrom T L (TheName ∷ MoreNames ∷ []) (i + 1) j → Means T L MoreNames i j
next_names T L i j e h p word ip seen =
    let more = names_after T L (i + 1) j h in
    (_, _, space seen (subst (λ q. kind_at T q ≡ Some (SignKind ColonColon)) ip e) (subst (λ q. AreNames T q more.0 more.1 j) (ap (λ q. q + 1) ip ∙ two p) more.2))

pub sound_qualified : (T : List Lexeme) (L : Option ℕ) (i : ℕ) (k : Option TokenKind) → kind_at T i ≡ k → Sound T L i QualifiedName (qualified_move k)
sound_qualified T L i (Some Name) e = (λ w j h. (_, local_name (h i (bytes_at T i) refl (e, refl)).2), λ below f. f, refl)
sound_qualified T L i (Some (SignKind ColonColon)) e = (λ w j h. (_, global_name e (names_after T L (i + 1) j h).2), λ below f. f, refl)
sound_qualified T L i _ e = tt

pub sound_more_names : (T : List Lexeme) (L : Option ℕ) (i : ℕ) (k : Option TokenKind) → kind_at T i ≡ k → Sound T L i MoreNames (more_names_move k)
sound_more_names T L i (Some (SignKind ColonColon)) e = (λ w j h. next_names T L i j e h, λ below f. f, refl)
sound_more_names T L i _ e = (λ w j h. last_at T L i j (lacks (λ k. is_read (more_names_move k)) e refl refl) h, λ below f. f, refl)

pub sound_shape : (T : List Lexeme) (L : Option ℕ) (i : ℕ) (k : Option TokenKind) → kind_at T i ≡ k → Sound T L i Shape (shape_word_move k)
sound_shape T L i (Some Name) e = (λ w j h. (_, named_shape h.1), λ below f. f, refl)
sound_shape T L i (Some (SignKind ColonColon)) e = (λ w j h. (_, named_shape h.1), λ below f. f, refl)
sound_shape T L i (Some (Word UnsignedWord)) e = (λ w j h. h i refl e, λ below f. f, refl)
sound_shape T L i (Some (Word BoolWord)) e = (λ w j h. (_, word_shape BoolWord e refl h), λ below f. f, refl)
sound_shape T L i (Some (Word IntWord)) e = (λ w j h. (_, word_shape IntWord e refl h), λ below f. f, refl)
sound_shape T L i (Some (Word HalfWord)) e = (λ w j h. (_, word_shape HalfWord e refl h), λ below f. f, refl)
sound_shape T L i (Some (Word FloatWord)) e = (λ w j h. (_, word_shape FloatWord e refl h), λ below f. f, refl)
sound_shape T L i _ e = tt

pub may_int_here : (T : List Lexeme) (L : Option ℕ) (i j : ℕ) → kind_at T i ≡ Some (Word IntWord) → j ≡ i + 1 → Means T L MayInt i j
may_int_here T L i j e h p ip seen = (_, unsigned_int_shape seen (subst (λ q. kind_at T q ≡ Some (Word IntWord)) ip e) (omega arith))

pub may_int_none : (T : List Lexeme) (L : Option ℕ) (i j : ℕ) → (kind_at T i ≡ Some (Word IntWord) → ⊥) → j ≡ i → Means T L MayInt i j
may_int_none T L i j absent h p ip seen = (_, unsigned_shape seen (subst (λ q. kind_at T q ≡ Some (Word IntWord) → ⊥) ip absent) (h ∙ ip))

pub sound_may_int : (T : List Lexeme) (L : Option ℕ) (i : ℕ) (k : Option TokenKind) → kind_at T i ≡ k → Sound T L i MayInt (may_int_move k)
sound_may_int T L i (Some (Word IntWord)) e = (λ w j h. may_int_here T L i j e h, λ below f. f, refl)
sound_may_int T L i _ e = (λ w j h. may_int_none T L i j (lacks (λ k. is_read (may_int_move k)) e refl refl) h, λ below f. f, refl)
