-- Passes over the body of a function, and the rows of functions one after the other.
use Rattle.std.proofs.Common.{◌≡◌, ◌≢◌, ◌<◌, ◌≤◌, ◌+◌, ◌++◌, ℕ, zero, suc, List, [], ◌∷◌, Option, Some, None, Bool, true, false, true≢false, get_or, slice_get, length, take, ap, sym, subst, ◌∙◌, refl, arith}
use Rattle.std.proofs.lemmas.Option.{slice_get_within, slice_get-get_or}
use Rattle.ctl_types.specs.declared.statement.TypedStatement.{TypedStatement}
use Rattle.ctl_types.specs.declared.program.Function.{Function}
use Rattle.level_rules.specs.declared.instance.Holder.{Holder}
use Rattle.level_rules.specs.declared.instance.Holder.TheVariants.{Variable}
use Rattle.level_rules.specs.Rules.{VaryingSet, Known}
use Rattle.level_rules.specs.Levels.{AllIn, Below}
use Rattle.level_rules.specs.Rows.{mark_of, in_row, tells, bare, puts, PutsGrow, IsControlRow, IsRow, AreRows, HasRows, HaveRows}
use Rattle.level_sets.specs.Closing.{IsMark, Passed, Closes}
use Rattle.level_sets.proofs.Closing.{mark_least}

-- what the passes so far have kept
pub record Kept (rows : List (List (List Bool))) (body : TypedStatement) (c : Bool) (start row : List Bool) : Type 0 where
  pub members : Below (in_row start) (in_row row)
  pub least : (set : VaryingSet) → AllIn set (puts (tells rows) body (bare set) c) → Below (in_row start) set → Below (in_row row) set

pub kept_none : (rows : List (List (List Bool))) (body : TypedStatement) (c : Bool) (start : List Bool) → Kept rows body c start start
kept_none rows body c start = record { members = λ h e. e; least = λ set a b. b }

pub kept_more : (grow : PutsGrow) (rows : List (List (List Bool))) (body : TypedStatement) (c : Bool) (start old new : List Bool) (changed : Bool) → Kept rows body c start old → Passed rows body c old new changed → Kept rows body c start new
kept_more grow rows body c start old new changed p q = record {
  members = λ h e. q.members h (p.members h e);
  least = λ set a b. let l = p.least set a b in q.least set (grow rows body (bare (in_row old)) (bare set) c c set l (λ e. e) a) l;
}

pub kept_done : (grow : PutsGrow) (rows : List (List (List Bool))) (body : TypedStatement) (c : Bool) (start old new : List Bool) (changed : Bool) → Kept rows body c start old → Passed rows body c old new changed → changed ≡ false → Closes (tells rows) body c start new
kept_done grow rows body c start old new changed p q e =
    let r = kept_more grow rows body c start old new changed p q in
    record { members = r.members; least = r.least; meets = grow rows body (bare (in_row new)) (bare (in_row old)) c c (in_row new) (q.same e) (λ e. e) q.has }

-- ---- rows

nothing_in : (h : Holder) → in_row [] h ≡ false
nothing_in h = none (mark_of h) where
  none : (m : ℕ) → get_or [] m false ≡ false
  none m = refl

pub control_is : (known : Known) (f : Function) (row : List Bool) → Closes known f.body true [] row → IsControlRow known f row
control_is known f row c = record { meets = c.meets; least = λ other m. c.least other m (λ h e. absurd (true≢false (sym e ∙ nothing_in h))) }

pub parameter_is : (known : Known) (f : Function) (k m : ℕ) (old row : List Bool) (b : Bool) → m ≡ k + 1 → IsMark m [] old b → Closes known f.body false old row → IsRow known f k row
parameter_is known f k m old row b e i c =
    let j : IsMark (mark_of (Variable k)) [] old b = subst (λ m. IsMark m [] old b) e i in
    record {
      begins = c.members (Variable k) j.has;
      meets = c.meets;
      least = λ other o a. c.least other a (mark_least (Variable k) [] old b j other o (λ h q. absurd (true≢false (sym q ∙ nothing_in h))));
    }

-- the row of varying control, and those of this many parameters
abbrev pub HasPart : Known → Function → ℕ → List (List Bool) → Type 0
HasPart known f n [] = ⊥
HasPart known f n (first ∷ rows) = IsControlRow known f first × AreRows known f 0 rows × (length rows ≡ n)

pub part_first : (known : Known) (f : Function) (row : List Bool) → IsControlRow known f row → HasPart known f 0 (row ∷ [])
part_first known f row h = (h, tt, refl)

rows_push : (known : Known) (f : Function) (k n : ℕ) (rows : List (List Bool)) (row : List Bool) → AreRows known f k rows → n ≡ k + length rows → IsRow known f n row → AreRows known f k (rows ++ row ∷ [])
rows_push known f k n [] row r e h = (subst (λ n. IsRow known f n row) (let i : n ≡ k = omega arith in i) h, tt)
rows_push known f k n (y ∷ rows) row r e h = (r.0, rows_push known f (k + 1) n rows row r.1 (omega arith) h)

long_push : {A : Type 0} (t : List A) (k : A) → length (t ++ k ∷ []) ≡ length t + 1
long_push [] k = omega arith
long_push (x ∷ t) k = let h = long_push t k in omega arith

pub part_push : (known : Known) (f : Function) (n : ℕ) (rows : List (List Bool)) (row : List Bool) → HasPart known f n rows → IsRow known f n row → HasPart known f (n + 1) (rows ++ row ∷ [])
part_push known f n [] row h r = absurd h
part_push known f n (first ∷ rows) row h r = (h.0, rows_push known f 0 n rows row h.1 (let i = h.2 in omega arith) r, let i = h.2 in let j = long_push rows row in omega arith)

pub part_done : (known : Known) (f : Function) (n : ℕ) (rows : List (List Bool)) → length f.parameters ≡ n → HasPart known f n rows → HasRows known f rows
part_done known f n [] i h = absurd h
part_done known f n (first ∷ rows) i h = (h.0, h.1, h.2 ∙ sym i)

-- ---- all functions

-- each of the first m functions has its rows
abbrev pub HaveSome : List Function → ℕ → List (List (List Bool)) → Type 0
HaveSome functions m rows = (length rows ≡ m) × ((n : ℕ) (f : Function) → n < m → slice_get functions n ≡ Some f → HasRows (tells (take n rows)) f (get_or rows n []))

same_or : {A : Type 0} (x y : ℕ) → (x ≡ y → A) → (x ≢ y → A) → A
same_or zero zero f g = f refl
same_or zero (suc y) f g = g (λ e. omega arith)
same_or (suc x) zero f g = g (λ e. omega arith)
same_or (suc x) (suc y) f g = same_or x y (λ e. f (ap suc e)) (λ n. g (λ e. n (omega arith)))

take_push : {A : Type 0} (n : ℕ) (rows : List A) (row : A) → n ≤ length rows → take n (rows ++ row ∷ []) ≡ take n rows
take_push zero rows row h = refl
take_push (suc n) [] row h = absurd (omega arith)
take_push (suc n) (x ∷ rows) row h = ap (λ r. x ∷ r) (take_push n rows row (omega arith))

take_all : {A : Type 0} (rows : List A) (n : ℕ) → n ≡ length rows → take n rows ≡ rows
take_all [] zero h = refl
take_all [] (suc n) h = refl
take_all (x ∷ rows) zero h = absurd (omega arith)
take_all (x ∷ rows) (suc n) h = ap (λ r. x ∷ r) (take_all rows n (omega arith))

get_push : {A : Type 0} (n : ℕ) (rows : List A) (row d : A) → n < length rows → get_or (rows ++ row ∷ []) n d ≡ get_or rows n d
get_push n [] row d h = absurd (omega arith)
get_push zero (x ∷ rows) row d h = refl
get_push (suc n) (x ∷ rows) row d h = get_push n rows row d (omega arith)

get_last : {A : Type 0} (n : ℕ) (rows : List A) (row d : A) → n ≡ length rows → get_or (rows ++ row ∷ []) n d ≡ row
get_last zero [] row d h = refl
get_last (suc n) [] row d h = absurd (omega arith)
get_last zero (x ∷ rows) row d h = absurd (omega arith)
get_last (suc n) (x ∷ rows) row d h = get_last n rows row d (omega arith)

some_one : {A : Type 0} (a b : A) → ◌≡◌ {A = Option A} (Some a) (Some b) → a ≡ b
some_one a b e = ap (λ (o : Option _). elim o as (λ _. _) [ Some x ↦ x | None ↦ a ]) e

some_push : (functions : List Function) (m : ℕ) (rows : List (List (List Bool))) (own : List (List Bool)) (g : Function) → HaveSome functions m rows → slice_get functions m ≡ Some g → HasRows (tells rows) g own → HaveSome functions (m + 1) (rows ++ own ∷ [])
some_push functions m rows own g h e t = (
  let i = h.0 in let j = long_push rows own in omega arith,
  λ n f i q. same_or n m
      (λ p.
      let s : g ≡ f = some_one g f (sym e ∙ ap (slice_get functions) (sym p) ∙ q) in
      let k : n ≡ length rows = p ∙ sym h.0 in
      subst (λ r. HasRows (tells r) f (get_or (rows ++ own ∷ []) n [])) (sym (take_push n rows own (omega arith) ∙ take_all rows n k))
      (subst (HasRows (tells rows) f) (sym (get_last n rows own [] k)) (subst (λ f. HasRows (tells rows) f own) s t)))
      (λ p.
      let z = h.0 in
      let l : n < m = omega arith in
      subst (λ r. HasRows (tells r) f (get_or (rows ++ own ∷ []) n [])) (sym (take_push n rows own (omega arith)))
      (subst (HasRows (tells (take n rows)) f) (sym (get_push n rows own [] (omega arith))) (h.1 n f l q))),
)

pub some_more : (functions : List Function) (m : ℕ) (rows new : List (List (List Bool))) (own : List (List Bool)) (g : Function) → m < length functions → g ≡ get_or functions m g → HaveSome functions m rows → HasRows (tells rows) g own → new ≡ rows ++ own ∷ [] → HaveSome functions (m + 1) new
some_more functions m rows new own g l e h t p = subst (HaveSome functions (m + 1)) (sym p) (some_push functions m rows own g h (slice_get-get_or functions m g l ∙ ap (λ g. Some g) (sym e)) t)

pub some_done : (functions : List Function) (m : ℕ) (rows : List (List (List Bool))) → length functions ≤ m → HaveSome functions m rows → HaveRows functions rows
some_done functions m rows i h n f q = let b = slice_get_within functions n f q in h.1 n f (omega arith) q
