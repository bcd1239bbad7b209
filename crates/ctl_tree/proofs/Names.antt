-- From one place at most one name and one shape stands, with one end.
use Rattle.std.proofs.Common.{◌≡◌, ℕ, ◌+◌, ◌-◌, true, false, Bool, List, ◌∷◌, Option, Some, ap, sym, ◌∙◌, refl}
use Rattle.ctl_tree.specs.declared.keyword.Keyword.{Keyword}
use Rattle.ctl_tree.specs.declared.keyword.Keyword.TheVariants.{Bool as BoolWord, Int as IntWord, Half as HalfWord, Float as FloatWord, Unsigned as UnsignedWord}
use Rattle.ctl_tree.specs.declared.sign.Sign.TheVariants.{ColonColon}
use Rattle.ctl_tree.specs.declared.token.TokenKind.{TokenKind}
use Rattle.ctl_tree.specs.declared.token.TokenKind.TheVariants.{Word, Name, Sign as SignKind}
use Rattle.ctl_tree.specs.declared.expression.QualifiedName.{QualifiedName}
use Rattle.ctl_tree.specs.declared.declaration.ShapeKind.{ShapeKind}
use Rattle.ctl_tree.specs.declared.declaration.ShapeKind.TheVariants.{Unsigned as UnsignedShape, Named}
use Rattle.ctl_tree.specs.declared.declaration.ShapeName.{ShapeName}
use Rattle.ctl_tree.specs.Lexemes.{Lexeme, kind_at, bytes_at, SeesWord, SeesName}
use Rattle.ctl_tree.specs.Names.{AreNames, last_name, space, IsQualifiedName, local_name, global_name, shape_of, IsShape, word_shape, unsigned_shape, unsigned_int_shape, named_shape}

-- one place has one name
pub same_name : (lexemes : List Lexeme) {i i' : ℕ} {name name' : List ℕ} → i ≡ i' → SeesName lexemes i name → SeesName lexemes i' name' → name ≡ name'
same_name lexemes q s s' = s.1 ∙ ap (bytes_at lexemes) q ∙ sym s'.1

same_names : {lexemes : List Lexeme} {i i' : ℕ} {spaces spaces' : List (List ℕ)} {name name' : List ℕ} {j j' : ℕ} → i ≡ i' → AreNames lexemes i spaces name j
    → AreNames lexemes i' spaces' name' j' → (spaces ≡ spaces') × (name ≡ name') × (j ≡ j')
same_names q (last_name name lacks is) (last_name name' lacks' is') = (refl, same_name _ q name name', cc)
same_names q (last_name name lacks is) (space name' sees' more') = absurd (lacks cc)
same_names q (space name sees more) (last_name name' lacks' is') = absurd (lacks' cc)
same_names q (space name sees more) (space name' sees' more') =
    let first = same_name _ q name name' in
    let others = same_names (ap (λ x. x + 2) q) more more' in
    ((λ x. first x ∷ others.0 x), others.1, others.2)

pub same_qualified_name : {lexemes : List Lexeme} {i i' : ℕ} {name name' : QualifiedName} {j j' : ℕ} → i ≡ i' → IsQualifiedName lexemes i name j → IsQualifiedName lexemes i' name' j'
    → (name ≡ name') × (j ≡ j')
same_qualified_name q (local_name names) (local_name names') =
    let same = same_names q names names' in
    ((λ x. record { is_global = false; spaces = same.0 x; name = same.1 x; token = same.2 x - 1 }), same.2)
same_qualified_name q (local_name (last_name name lacks is)) (global_name sees' names') = absurd (let seen = name.0 in cc)
same_qualified_name q (local_name (space name sees more)) (global_name sees' names') = absurd (let seen = name.0 in cc)
same_qualified_name q (global_name sees names) (local_name (last_name name' lacks' is')) = absurd (let seen = name'.0 in cc)
same_qualified_name q (global_name sees names) (local_name (space name' sees' more')) = absurd (let seen = name'.0 in cc)
same_qualified_name q (global_name sees names) (global_name sees' names') =
    let same = same_names (ap (λ x. x + 1) q) names names' in
    ((λ x. record { is_global = true; spaces = same.0 x; name = same.1 x; token = same.2 x - 1 }), same.2)

-- the first token of a name is a name or `::`
abbrev pub begins_name : Option TokenKind → Bool
begins_name (Some Name) = true
begins_name (Some (SignKind ColonColon)) = true
begins_name _ = false

pub name_begins : {lexemes : List Lexeme} {i : ℕ} {name : QualifiedName} {j : ℕ} → IsQualifiedName lexemes i name j → begins_name (kind_at lexemes i) ≡ true
name_begins (local_name (last_name name lacks is)) = ap begins_name name.0
name_begins (local_name (space name sees more)) = ap begins_name name.0
name_begins (global_name sees names) = ap begins_name sees

-- a name and a keyword begin at no one place
pub name_no_word : {lexemes : List Lexeme} {i i' : ℕ} {name : QualifiedName} {j : ℕ} → i ≡ i' → IsQualifiedName lexemes i name j → (word : Keyword) → SeesWord lexemes i' word → ⊥
name_no_word q h word sees = let b = name_begins h in cc

pub same_shape : {lexemes : List Lexeme} {i i' : ℕ} {shape shape' : ShapeName} {j j' : ℕ} → i ≡ i' → IsShape lexemes i shape j → IsShape lexemes i' shape' j'
    → (shape ≡ shape') × (j ≡ j')
same_shape q (word_shape {kind = kind} word sees known is) (word_shape {kind = kind'} word' sees' known' is') =
    let p : kind ≡ kind' = cc in
    ((λ x. record { kind = p x; token = q x }), cc)
same_shape q (word_shape word sees known is) (unsigned_shape sees' lacks' is') = absurd cc
same_shape q (word_shape word sees known is) (unsigned_int_shape sees' int' is') = absurd cc
same_shape q (word_shape word sees known is) (named_shape h') = absurd (name_no_word (sym q) h' word sees)
same_shape q (unsigned_shape sees lacks is) (word_shape word' sees' known' is') = absurd cc
same_shape q (unsigned_shape sees lacks is) (unsigned_shape sees' lacks' is') = ((λ x. record { kind = UnsignedShape; token = q x }), cc)
same_shape q (unsigned_shape sees lacks is) (unsigned_int_shape sees' int' is') = absurd (lacks cc)
same_shape q (unsigned_shape sees lacks is) (named_shape h') = absurd (name_no_word (sym q) h' UnsignedWord sees)
same_shape q (unsigned_int_shape sees int is) (word_shape word' sees' known' is') = absurd cc
same_shape q (unsigned_int_shape sees int is) (unsigned_shape sees' lacks' is') = absurd (lacks' cc)
same_shape q (unsigned_int_shape sees int is) (unsigned_int_shape sees' int' is') = ((λ x. record { kind = UnsignedShape; token = q x + 1 }), cc)
same_shape q (unsigned_int_shape sees int is) (named_shape h') = absurd (name_no_word (sym q) h' UnsignedWord sees)
same_shape q (named_shape h) (word_shape word' sees' known' is') = absurd (name_no_word q h word' sees')
same_shape q (named_shape h) (unsigned_shape sees' lacks' is') = absurd (name_no_word q h UnsignedWord sees')
same_shape q (named_shape h) (unsigned_int_shape sees' int' is') = absurd (name_no_word q h UnsignedWord sees')
same_shape q (named_shape h) (named_shape h') =
    let name = same_qualified_name q h h' in
    ((λ x. record { kind = Named (name.0 x); token = (name.0 x).token }), name.1)

-- the first token of a shape
abbrev pub begins_shape : Option TokenKind → Bool
begins_shape (Some (Word BoolWord)) = true
begins_shape (Some (Word IntWord)) = true
begins_shape (Some (Word HalfWord)) = true
begins_shape (Some (Word FloatWord)) = true
begins_shape (Some (Word UnsignedWord)) = true
begins_shape kind = begins_name kind

word_begins_shape : (word : Keyword) {kind : ShapeKind} → shape_of word ≡ Some kind → begins_shape (Some (Word word)) ≡ true
word_begins_shape BoolWord known = refl
word_begins_shape IntWord known = refl
word_begins_shape HalfWord known = refl
word_begins_shape FloatWord known = refl
word_begins_shape _ known = absurd cc

pub name_begins_shape : (kind : Option TokenKind) → begins_name kind ≡ true → begins_shape kind ≡ true
name_begins_shape (Some Name) begins = refl
name_begins_shape (Some (SignKind ColonColon)) begins = refl
name_begins_shape _ begins = absurd cc

pub shape_begins : {lexemes : List Lexeme} {i : ℕ} {shape : ShapeName} {j : ℕ} → IsShape lexemes i shape j → begins_shape (kind_at lexemes i) ≡ true
shape_begins (word_shape word sees known is) = ap begins_shape sees ∙ word_begins_shape word known
shape_begins (unsigned_shape sees lacks is) = ap begins_shape sees
shape_begins (unsigned_int_shape sees int is) = ap begins_shape sees
shape_begins (named_shape h) = name_begins_shape _ (name_begins h)
