-- A row by its marks is what the rows tell, and what the rows of the functions before tell.
use Rattle.std.proofs.Common.{◌≡◌, ◌<◌, ◌≤◌, ◌+◌, ◌++◌, ℕ, zero, suc, List, [], ◌∷◌, Bool, true, false, ◌&&◌, ◌||◌, if◌then◌else◌, nat_lt, get_or, length, take, drop, ap, sym, subst, ◌∙◌, refl, arith}
use Rattle.std.proofs.lemmas.Bool.{lt-ltb, ltb-true, le-ltb, ltb-false}
use Rattle.std.proofs.lemmas.List.{get_or-take, drop_more, drop_all, get_or_append_left}
use Rattle.std.proofs.Math.Seq.{get_or-append_seam}
use Rattle.level_rules.specs.declared.instance.Instance.{Instance}
use Rattle.level_rules.specs.declared.instance.Holder.{Holder}
use Rattle.level_rules.specs.Levels.{before}
use Rattle.level_rules.specs.Rows.{in_row, mark_of, pick, tells}
use Rattle.level_sets.specs.Marks.{pick_mark, tells_mark}
use Rattle.level_table.specs.Known.{AllShort}

-- ---- a length that no row passes

pub short_more : (rows : List (List Bool)) (i most next : ℕ) (row : List Bool) → i < length rows → row ≡ get_or rows i row → ((m : ℕ) → most ≤ m → AllShort m (drop i rows) → AllShort m rows) → most ≤ next → length row ≤ next → (m : ℕ) → next ≤ m → AllShort m (drop (i + 1) rows) → AllShort m rows
short_more rows i most next row l e h a b m n s = h m (omega arith) (subst (AllShort m) (sym (drop_more rows i row l ∙ ap (λ row. row ∷ drop (i + 1) rows) (sym e))) (omega arith, s))

pub short_all : (rows : List (List Bool)) (i most : ℕ) → length rows ≤ i → ((m : ℕ) → most ≤ m → AllShort m (drop i rows) → AllShort m rows) → AllShort most rows
short_all rows i most l h = h most (omega arith) (subst (AllShort most) (sym (drop_all i rows l)) tt)

past : (row : List Bool) (m : ℕ) → length row ≤ m → get_or row m false ≡ false
past [] m h = refl
past (b ∷ row) zero h = absurd (omega arith)
past (b ∷ row) (suc m) h = past row m (omega arith)

and_false : (b : Bool) → (b && false) ≡ false
and_false true = refl
and_false false = refl

pick_past : (bits : List Bool) (rows : List (List Bool)) (n m : ℕ) → AllShort n rows → n ≤ m → pick_mark bits rows m ≡ false
pick_past [] rows n m s h = refl
pick_past (b ∷ bits) [] n m s h = refl
pick_past (b ∷ bits) (row ∷ rows) n m s h =
    let l = s.0 in
    ap (λ v. (b && v) || pick_mark bits rows m) (past row m (omega arith)) ∙ ap (λ v. v || pick_mark bits rows m) (and_false b) ∙ pick_past bits rows n m s.1 h

pick_is : (bits : List Bool) (rows : List (List Bool)) (h : Holder) → pick_mark bits rows (mark_of h) ≡ pick bits rows h
pick_is [] rows h = refl
pick_is (b ∷ bits) [] h = refl
pick_is (b ∷ bits) (row ∷ rows) h = ap (λ p. (b && in_row row h) || p) (pick_is bits rows h)

lt_or : {A : Type 0} (k n : ℕ) → (k < n → A) → (n ≤ k → A) → A
lt_or {A} k n f g = one (nat_lt k n) refl where
  one : (b : Bool) → nat_lt k n ≡ b → A
  one true e = f (ltb-true k n e)
  one false e = g (ltb-false k n e)

pub row_tells : (rows : List (List (List Bool))) (i : Instance) (row : List Bool) (n : ℕ) → length row ≡ n → (k : ℕ) → AllShort k (get_or rows i.function []) → k ≤ n → ((m : ℕ) → m < n → get_or row m false ≡ tells_mark rows i m) → in_row row ≡ tells rows i
row_tells rows i row n l k s q f = λ p h. one h p where
  at : (m : ℕ) → get_or row m false ≡ tells_mark rows i m
  at m = lt_or m n (f m) (λ g. past row m (omega arith) ∙ sym (pick_past (i.control ∷ i.levels) (get_or rows i.function []) k m s (omega arith)))

  one : (h : Holder) → in_row row h ≡ tells rows i h
  one h = at (mark_of h) ∙ pick_is (i.control ∷ i.levels) (get_or rows i.function []) h

pub so_far_push : (rows : List (List (List Bool))) (i : Instance) (n : ℕ) (row new : List Bool) (b : Bool) → length row ≡ n → ((m : ℕ) → m < n → get_or row m false ≡ tells_mark rows i m) → b ≡ tells_mark rows i n → new ≡ row ++ b ∷ [] → (m : ℕ) → m < n + 1 → get_or new m false ≡ tells_mark rows i m
so_far_push rows i n row new b l f e p m h = ap (λ r. get_or r m false) p ∙ lt_or m n
    (λ q. get_or_append_left row (b ∷ []) false m (omega arith) ∙ f m q)
    (λ q. let z : m ≡ length row = omega arith in let y : n ≡ m = omega arith in ap (λ k. get_or (row ++ b ∷ []) k false) z ∙ get_or-append_seam row b [] false ∙ e ∙ ap (tells_mark rows i) y)

pub pushed : (row new : List Bool) (b : Bool) (n : ℕ) → length row ≡ n → new ≡ row ++ b ∷ [] → length new ≡ n + 1
pushed row new b n l e = ap length e ∙ long row ∙ (let q : length row + 1 ≡ n + 1 = omega arith in q) where
  long : (row : List Bool) → length (row ++ b ∷ []) ≡ length row + 1
  long [] = omega arith
  long (x ∷ row) = let h = long row in omega arith

-- ---- the functions before

past_end : (rows : List (List (List Bool))) (n k : ℕ) → n ≤ k → get_or (take n rows) k [] ≡ []
past_end rows zero k h = refl
past_end [] (suc n) k h = refl
past_end (row ∷ rows) (suc n) zero h = absurd (omega arith)
past_end (row ∷ rows) (suc n) (suc k) h = past_end rows n k (omega arith)

pick_nothing : (bits : List Bool) (h : Holder) → pick bits [] h ≡ false
pick_nothing [] h = refl
pick_nothing (b ∷ bits) h = refl

-- what the rows of the functions before the nth tell is what is known of these
pub before_tells : (rows : List (List (List Bool))) (n : ℕ) → tells (take n rows) ≡ before n (tells rows)
before_tells rows n = λ p i h. one i h p where
  one : (i : Instance) (h : Holder) → tells (take n rows) i h ≡ before n (tells rows) i h
  one i h = lt_or i.function n
      (λ l. ap (λ r. pick (i.control ∷ i.levels) r h) (get_or-take n rows i.function [] l) ∙ ap (λ (b : Bool). (if b then tells rows i else (λ (h : Holder). false)) h) (sym (lt-ltb i.function n l)))
      (λ l. ap (λ r. pick (i.control ∷ i.levels) r h) (past_end rows n i.function l) ∙ pick_nothing (i.control ∷ i.levels) h ∙ ap (λ (b : Bool). (if b then tells rows i else (λ (h : Holder). false)) h) (sym (le-ltb i.function n l)))
