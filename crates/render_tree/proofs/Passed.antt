-- Outputs one after the other.
use Rattle.std.proofs.Common.{◌≡◌, ℕ, zero, suc, ◌+◌, ◌<◌, ◌≤◌, List, [], ◌∷◌, drop, length, get_or, Option, Some, None, Bool, true, false, if◌then◌else◌, refl, ap, sym, ◌∙◌, subst, arith}
use Rattle.std.proofs.lemmas.List.{drop_all}
use Rattle.ctl_types.specs.declared.value.Value.{Value}
use Rattle.ctl_types.specs.declared.program.Parameter.{Parameter}
use Rattle.ctl_types.specs.Run.{given_or}
use Rattle.render_tree.specs.PixelRun.{Named, named, if_named, value_of, passed_name, passed_on}

pub next : {A : Type 0} (xs : List A) (i : ℕ) (a : A) → i < length xs → a ≡ get_or xs i a → drop i xs ≡ a ∷ drop (i + 1) xs
next [] i a h e = absurd (omega arith)
next (x ∷ xs) zero a h e = ap (λ y. y ∷ xs) (sym e)
next (x ∷ xs) (suc i) a h e = (let q : suc i + 1 ≡ suc (i + 1) = omega arith in next xs i a (omega arith) e ∙ ap (λ n. a ∷ drop n (x ∷ xs)) (sym q))

given_twice : (a b c : Option Value) → given_or (given_or a b) c ≡ given_or a (given_or b c)
given_twice None b c = refl
given_twice (Some v) b c = refl

one_more : (name : List ℕ) (q : Parameter) (v : Value) (ps : List Parameter) (outs : List Value) (n n' : ℕ) (found found' : Option Value) (b : Bool) → q.is_output ≡ b
    → found' ≡ (if b then given_or (if_named name (named (passed_name q.name) v)) found else found) → n' ≡ (if b then n + 1 else n) → drop n outs ≡ v ∷ drop (n + 1) outs
    → given_or (value_of name (passed_on ps (drop n' outs))) found' ≡ given_or (value_of name (passed_on (q ∷ ps) (v ∷ drop (n + 1) outs))) found
one_more name q v ps outs n n' found found' true o f m d =
    let n1 : Named = named (passed_name q.name) v in
    ap (λ (k : ℕ). given_or (value_of name (passed_on ps (drop k outs))) found') m ∙ ap (given_or (value_of name (passed_on ps (drop (n + 1) outs)))) f
    ∙ sym (given_twice (value_of name (passed_on ps (drop (n + 1) outs))) (if_named name n1) found)
    ∙ ap (λ (t : Bool). given_or (value_of name (if t then n1 ∷ passed_on ps (drop (n + 1) outs) else passed_on ps (v ∷ drop (n + 1) outs))) found) (sym o)
one_more name q v ps outs n n' found found' false o f m d =
    let n1 : Named = named (passed_name q.name) v in
    ap (λ (k : ℕ). given_or (value_of name (passed_on ps (drop k outs))) found') m ∙ ap (given_or (value_of name (passed_on ps (drop n outs)))) f
    ∙ ap (λ (l : List Value). given_or (value_of name (passed_on ps l)) found) d
    ∙ ap (λ (t : Bool). given_or (value_of name (if t then n1 ∷ passed_on ps (drop (n + 1) outs) else passed_on ps (v ∷ drop (n + 1) outs))) found) (sym o)

-- one parameter more
pub passed_more : (name : List ℕ) (ps : List Parameter) (outs : List Value) (i n n' : ℕ) (q : Parameter) (v : Value) (found found' all : Option Value) → i < length ps → q ≡ get_or ps i q → n < length outs → v ≡ get_or outs n v
    → found' ≡ (if q.is_output then given_or (if_named name (named (passed_name q.name) v)) found else found) → n' ≡ (if q.is_output then n + 1 else n)
    → given_or (value_of name (passed_on (drop i ps) (drop n outs))) found ≡ all → given_or (value_of name (passed_on (drop (i + 1) ps) (drop n' outs))) found' ≡ all
passed_more name ps outs i n n' q v found found' all h e k f a b so_far =
    let d = next outs n v k f in
    one_more name q v (drop (i + 1) ps) outs n n' found found' q.is_output refl a b d
    ∙ ap (λ (l : List Value). given_or (value_of name (passed_on (q ∷ drop (i + 1) ps) l)) found) (sym d)
    ∙ ap (λ (l : List Parameter). given_or (value_of name (passed_on l (drop n outs))) found) (sym (next ps i q h e))
    ∙ so_far

no_values : (ps : List Parameter) → passed_on ps [] ≡ []
no_values [] = refl
no_values (q ∷ ps) = refl

-- no output more
pub passed_short : (name : List ℕ) (ps : List Parameter) (outs : List Value) (i n : ℕ) (found all : Option Value) → length outs ≤ n → given_or (value_of name (passed_on (drop i ps) (drop n outs))) found ≡ all → found ≡ all
passed_short name ps outs i n found all h so_far =
    ap (λ (l : List Named). given_or (value_of name l) found) (sym (no_values (drop i ps)))
    ∙ ap (λ (l : List Value). given_or (value_of name (passed_on (drop i ps) l)) found) (sym (drop_all n outs h)) ∙ so_far

-- no parameter more
pub passed_done : (name : List ℕ) (ps : List Parameter) (outs : List Value) (i n : ℕ) (found all : Option Value) → length ps ≤ i → given_or (value_of name (passed_on (drop i ps) (drop n outs))) found ≡ all → found ≡ all
passed_done name ps outs i n found all h so_far = ap (λ (l : List Parameter). given_or (value_of name (passed_on l (drop n outs))) found) (sym (drop_all i ps h)) ∙ so_far

-- the next output is one of them
pub next_inside : (b : Bool) (n n' l : ℕ) → n < l → n' ≡ (if b then n + 1 else n) → n' ≤ l
next_inside true n n' l h e = omega arith
next_inside false n n' l h e = omega arith
