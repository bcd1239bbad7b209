-- The arms of a call, each for one function.
use Rattle.std.proofs.Common.{◌≡◌, ℕ, ℤ, pos, ◌-◌, ◌<◌, Bool, true, false, List, [], ◌∷◌, length, get_or, sum_by, refl, ap, sym, subst, ◌∙◌, arith}
use Rattle.std.proofs.lemmas.List.{get_or_read}
use Rattle.fix_num.specs.declared.TheConstants.{FRACTION}
use Rattle.table_lookup.specs.Tables.{entry}
use Rattle.ctl_stdlib.specs.declared.row.LibraryId.{LibraryId}
use Rattle.ctl_stdlib.specs.Rows.{row}
use Rattle.ctl_stdlib.specs.Shapes.{input_words, filled_words}
use Rattle.ctl_stdlib.specs.Means.{Gives, GivesOne}
use Rattle.ctl_stdlib.proofs.Filled.{some_words}

-- the words that are given and filled, at the function that the arm is for
pub given_at : (id x : LibraryId) (n : ℕ) → n ≡ sum_by input_words (row id).params → id ≡ x → n ≡ sum_by input_words (row x).params
given_at id x n h e = h ∙ ap (λ (i : LibraryId). sum_by input_words (row i).params) e

pub room_at : (id x : LibraryId) (n : ℕ) → n ≡ filled_words (row id) → id ≡ x → n ≡ filled_words (row x)
room_at id x n h e = h ∙ ap (λ (i : LibraryId). filled_words (row i)) e

-- the first and the second word
first_word : (id : LibraryId) (args : List ℤ) (a : ℤ) → length args ≡ sum_by input_words (row id).params → a ≡ get_or args 0 a → a ≡ entry args 0
first_word id args a h e = let s : 0 < sum_by input_words (row id).params = some_words id in get_or_read args 0 a (omega arith) e (pos 0)

second_word : (args : List ℤ) (b : ℤ) → length args ≡ 2 → b ≡ get_or args (length args - 1) b → b ≡ entry args 1
second_word args b h e =
    let k : length args - 1 ≡ 1 = omega arith in
    get_or_read args 1 b (omega arith) (e ∙ ap (λ (i : ℕ). get_or args i b) k) (pos 0)

one_word : (x id : LibraryId) (args : List ℤ) (word : ℤ) → id ≡ x → filled_words (row x) ≡ 1 → (row x).answer args ≡ true →
    ((sizes : List ℕ) (table : List ℤ) → word ∷ [] ≡ (row x).value FRACTION sizes table args) → GivesOne id args word
one_word x id args word e one on value = subst (λ (i : LibraryId). GivesOne i args word) (sym e) (record { given = record { value = value; goes_on = on }; one = one })

-- a function of one number
pub one_number : (x id : LibraryId) (f : ℤ → ℤ) (args : List ℤ) (a word : ℤ) → id ≡ x → filled_words (row x) ≡ 1 → ((args : List ℤ) → (row x).answer args ≡ true) →
    ((args : List ℤ) (sizes : List ℕ) (table : List ℤ) → f (entry args 0) ∷ [] ≡ (row x).value FRACTION sizes table args) →
    length args ≡ sum_by input_words (row id).params → a ≡ get_or args 0 a → word ≡ f a → GivesOne id args word
one_number x id f args a word e one on value given read is =
    let w : word ≡ f (entry args 0) = is ∙ ap f (first_word id args a given read) in
    one_word x id args word e one (on args) (λ sizes table. ap (λ (y : ℤ). y ∷ []) w ∙ value args sizes table)

-- a function of two
pub two_numbers : (x id : LibraryId) (f : ℤ → ℤ → ℤ) (args : List ℤ) (a b word : ℤ) → id ≡ x → filled_words (row x) ≡ 1 → sum_by input_words (row x).params ≡ 2 → ((args : List ℤ) → (row x).answer args ≡ true) →
    ((args : List ℤ) (sizes : List ℕ) (table : List ℤ) → f (entry args 0) (entry args 1) ∷ [] ≡ (row x).value FRACTION sizes table args) →
    length args ≡ sum_by input_words (row id).params → a ≡ get_or args 0 a → b ≡ get_or args (length args - 1) b → word ≡ f a b → GivesOne id args word
two_numbers x id f args a b word e one two on value given read last is =
    let w : word ≡ f (entry args 0) (entry args 1) =
    is ∙ ap (λ (y : ℤ). f y b) (first_word id args a given read) ∙ ap (λ (y : ℤ). f (entry args 0) y) (second_word args b (given_at id x (length args) given e ∙ two) last) in
    one_word x id args word e one (on args) (λ sizes table. ap (λ (y : ℤ). y ∷ []) w ∙ value args sizes table)

-- a function of vectors or matrices
pub many_words : (x id : LibraryId) (v : List ℤ → List ℤ) (args words : List ℤ) → id ≡ x → words ≡ v args → ((args : List ℤ) → (row x).answer args ≡ true) →
    ((args : List ℤ) (sizes : List ℕ) (table : List ℤ) → v args ≡ (row x).value FRACTION sizes table args) → Gives id args words
many_words x id v args words e is on value =
    subst (λ (i : LibraryId). Gives i args words) (sym e) (record { value = λ sizes table. is ∙ value args sizes table; goes_on = on args })

pub not_both : {P : Type 0} (t : Bool) → t ≡ true → t ≡ false → P
not_both true h k = absurd (cc)
not_both false h k = absurd (cc)

pub nothing : (xs : List ℤ) → length xs ≡ 0 → xs ≡ []
nothing [] h = refl
nothing (x ∷ xs) h = absurd (omega arith)
