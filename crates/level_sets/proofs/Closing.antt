-- Passes until nothing more is marked.
use Rattle.std.proofs.Common.{◌≡◌, ◌≢◌, ◌+◌, ◌++◌, ◌<◌, ◌≤◌, ℕ, zero, suc, List, [], ◌∷◌, Bool, true, false, true≢false, ◌||◌, ◌==◌, if◌then◌else◌, take, get_or, length, ap, sym, subst, ◌∙◌, refl, arith}
use Rattle.std.proofs.lemmas.Bool.{eqb-true, eq-eqb}
use Rattle.std.proofs.lemmas.List.{take_more}
use Rattle.ctl_types.specs.declared.statement.TypedStatement.{TypedStatement}
use Rattle.level_rules.specs.declared.instance.Holder.{Holder}
use Rattle.level_rules.specs.declared.instance.Holder.TheVariants.{Result, Variable}
use Rattle.level_rules.specs.Rules.{VaryingSet, Around}
use Rattle.level_rules.specs.Levels.{AllIn, Below}
use Rattle.level_rules.specs.Rows.{mark_of, in_row, tells, bare, puts, PutsGrow}
use Rattle.level_sets.specs.Closing.{IsMark, Marked, Passed}

same_or : {A : Type 0} (x y : ℕ) → (x ≡ y → A) → (x ≢ y → A) → A
same_or zero zero f g = f refl
same_or zero (suc y) f g = g (λ e. omega arith)
same_or (suc x) zero f g = g (λ e. omega arith)
same_or (suc x) (suc y) f g = same_or x y (λ e. f (ap suc e)) (λ n. g (λ e. n (omega arith)))

-- a mark stands for one holder
one_holder : (h k : Holder) → mark_of h ≡ mark_of k → h ≡ k
one_holder Result Result e = refl
one_holder Result (Variable y) e = absurd (omega arith)
one_holder (Variable x) Result e = absurd (omega arith)
one_holder (Variable x) (Variable y) e = ap (λ z. Variable z) (let i : x ≡ y = omega arith in i)

all_push : (set : VaryingSet) (hs : List Holder) (h : Holder) → AllIn set hs → set h ≡ true → AllIn set (hs ++ h ∷ [])
all_push set [] h a e = (e, tt)
all_push set (k ∷ hs) h a e = (a.0, all_push set hs h a.1 e)

all_init : (set : VaryingSet) (hs : List Holder) (h : Holder) → AllIn set (hs ++ h ∷ []) → AllIn set hs × (set h ≡ true)
all_init set [] h a = (tt, a.0)
all_init set (k ∷ hs) h a = let i = all_init set hs h a.1 in ((a.0, i.0), i.1)

pub all_more : (a b : VaryingSet) (hs : List Holder) → Below a b → AllIn a hs → AllIn b hs
all_more a b [] h k = tt
all_more a b (x ∷ hs) h k = (h x k.0, all_more a b hs h k.1)

or_true : (b : Bool) → (b || true) ≡ true
or_true true = refl
or_true false = refl

or_false : (b : Bool) → (b || false) ≡ b
or_false true = refl
or_false false = refl

pub marked_none : (row : List Bool) → Marked [] row row false
marked_none row = record { members = λ h e. e; has = tt; least = λ set a b. b; same = λ _ h e. e; more = λ e. absurd (true≢false (sym e)) }

-- what a mark does to a set
mark_members : (m : ℕ) (old new : List Bool) (b : Bool) → IsMark m old new b → Below (in_row old) (in_row new)
mark_members m old new b k h e = same_or (mark_of h) m (λ q. ap (λ i. get_or new i false) q ∙ k.has) (λ q. k.others (mark_of h) q ∙ e)

pub mark_least : (x : Holder) (old new : List Bool) (b : Bool) → IsMark (mark_of x) old new b → (set : VaryingSet) → set x ≡ true → Below (in_row old) set → Below (in_row new) set
mark_least x old new b k set e l h i = same_or (mark_of h) (mark_of x) (λ q. ap set (one_holder h x q) ∙ e) (λ q. l h (sym (k.others (mark_of h) q) ∙ i))

marked_push : (hs : List Holder) (x : Holder) (old mid new : List Bool) (changed one : Bool) → Marked hs old mid changed → IsMark (mark_of x) mid new one → Marked (hs ++ x ∷ []) old new (changed || one)
marked_push hs x old mid new changed one p k =
    let m = mark_members (mark_of x) mid new one k in
    record {
      members = λ h e. m h (p.members h e);
      has = all_push (in_row new) hs x (all_more (in_row mid) (in_row new) hs m p.has) k.has;
      least = λ set a l. let i = all_init set hs x a in mark_least x mid new one k set i.1 (p.least set i.0 l);
      same = λ c. same changed one p k c;
      more = λ c set a. more changed one p k c set (all_init set hs x a);
    } where
      same : (changed one : Bool) → Marked hs old mid changed → IsMark (mark_of x) mid new one → (changed || one) ≡ false → Below (in_row new) (in_row old)
      same true one p k c h e = absurd (true≢false c)
      same false true p k c h e = absurd (true≢false c)
      same false false p k c h e = p.same refl h (same_or (mark_of h) (mark_of x) (λ q. ap (λ i. get_or mid i false) q ∙ k.was) (λ q. sym (k.others (mark_of h) q) ∙ e))

      more : (changed one : Bool) → Marked hs old mid changed → IsMark (mark_of x) mid new one → (changed || one) ≡ true → (set : VaryingSet) → AllIn set hs × (set x ≡ true) → (h : Holder) × (set h ≡ true) × (in_row old h ≡ false) × (in_row new h ≡ true)
      more true one p k c set a = let r = p.more refl set a.0 in (r.0, r.1, r.2, mark_members (mark_of x) mid new one k r.0 r.3)
      more false true p k c set a = (x, a.1, not_before (in_row old x) refl p.members k.was, k.has) where
        not_before : (b : Bool) → in_row old x ≡ b → Below (in_row old) (in_row mid) → in_row mid x ≡ false → in_row old x ≡ false
        not_before true e l n = absurd (true≢false (sym (l x e) ∙ n))
        not_before false e l n = e
      more false false p k c set a = absurd (true≢false (sym c))

pub marked_more : (hs : List Holder) (i : ℕ) (x d : Holder) (old mid new : List Bool) (changed one : Bool) → i < length hs → x ≡ get_or hs i d → Marked (take i hs) old mid changed → IsMark (mark_of x) mid new one → Marked (take (i + 1) hs) old new (changed || one)
marked_more hs i x d old mid new changed one h e p k = subst (λ l. Marked l old new (changed || one)) (ap (λ x. take i hs ++ x ∷ []) e ∙ sym (take_more hs i d h)) (marked_push (take i hs) x old mid new changed one p k)

-- ---- passes

-- everything
abbrev pub top : Around
top = record { set = λ h. true; opens = []; uniforms = [] }

-- how many of these a row has not
abbrev pub missing : List Holder → List Bool → ℕ
missing [] row = 0
missing (h ∷ hs) row = (if in_row row h then 0 else 1) + missing hs row

abbrev among : Holder → List Holder → Bool
among h [] = false
among h (k ∷ hs) = (mark_of h == mark_of k) || among h hs

counts_less : (a b : Bool) → (a ≡ true → b ≡ true) → (if b then 0 else 1) ≤ (if a then 0 else 1)
counts_less true b h = subst (λ (b : Bool). (if b then 0 else 1) ≤ 0) (sym (h refl)) (omega arith)
counts_less false true h = omega arith
counts_less false false h = omega arith

missing_less : (hs : List Holder) (old new : List Bool) → Below (in_row old) (in_row new) → missing hs new ≤ missing hs old
missing_less [] old new l = omega arith
missing_less (h ∷ hs) old new l = let a = counts_less (in_row old h) (in_row new h) (l h) in let b = missing_less hs old new l in omega arith

sum_falls : (a b m n : ℕ) → b + 1 ≤ a → n ≤ m → b + n < a + m
sum_falls a b m n h k = omega arith

sum_less : (a b m n : ℕ) → b ≤ a → n < m → b + n < a + m
sum_less a b m n h k = omega arith

falls_at : (k h : Holder) (b : Bool) (old new : List Bool) (hs : List Holder) → (mark_of h == mark_of k) ≡ b → (b || among h hs) ≡ true → in_row old h ≡ false → in_row new h ≡ true → Below (in_row old) (in_row new) → (among h hs ≡ true → missing hs new < missing hs old) → missing (k ∷ hs) new < missing (k ∷ hs) old
falls_at k h true old new hs e a o n l r =
    let q : mark_of h ≡ mark_of k = eqb-true (mark_of h) (mark_of k) e in
    let ok : in_row old k ≡ false = ap (λ m. get_or old m false) (sym q) ∙ o in
    let nk : in_row new k ≡ true = ap (λ m. get_or new m false) (sym q) ∙ n in
    let x : 1 ≡ (if in_row old k then 0 else 1) = sym (ap (λ (b : Bool). if b then 0 else 1) ok) in
    let y : 0 ≡ (if in_row new k then 0 else 1) = sym (ap (λ (b : Bool). if b then 0 else 1) nk) in
    sum_falls (if in_row old k then 0 else 1) (if in_row new k then 0 else 1) (missing hs old) (missing hs new) (subst (λ z. z + 1 ≤ (if in_row old k then 0 else 1)) y (subst (λ z. 0 + 1 ≤ z) x (omega arith))) (missing_less hs old new l)
falls_at k h false old new hs e a o n l r = sum_less (if in_row old k then 0 else 1) (if in_row new k then 0 else 1) (missing hs old) (missing hs new) (counts_less (in_row old k) (in_row new k) (l k)) (r a)

missing_falls : (hs : List Holder) (h : Holder) (old new : List Bool) → among h hs ≡ true → in_row old h ≡ false → in_row new h ≡ true → Below (in_row old) (in_row new) → missing hs new < missing hs old
missing_falls [] h old new a o n l = absurd (true≢false (sym a))
missing_falls (k ∷ hs) h old new a o n l = falls_at k h (mark_of h == mark_of k) old new hs refl a o n l (λ b. missing_falls hs h old new b o n l)

or_right : (a b : Bool) → b ≡ true → (a || b) ≡ true
or_right true b h = refl
or_right false b h = h

or_left : (a b : Bool) → a ≡ true → (a || b) ≡ true
or_left true b h = refl
or_left false b h = absurd (true≢false (sym h))

all_among : (hs : List Holder) → AllIn (λ k. among k hs) hs
all_among [] = tt
all_among (h ∷ hs) = (or_left (mark_of h == mark_of h) (among h hs) (eq-eqb (mark_of h) (mark_of h) refl), all_more (λ k. among k hs) (λ k. among k (h ∷ hs)) hs (λ k e. or_right (mark_of k == mark_of h) (among k hs) e) (all_among hs))

-- all that the rules can put in a body
abbrev pub whole : List (List (List Bool)) → TypedStatement → List Holder
whole rows body = puts (tells rows) body top true

pub pass_falls : (grow : PutsGrow) (rows : List (List (List Bool))) (body : TypedStatement) (c : Bool) (old new : List Bool) (changed : Bool) → Passed rows body c old new changed → changed ≡ true → missing (whole rows body) new < missing (whole rows body) old
pass_falls grow rows body c old new changed p e =
    let w = whole rows body in
    let m = p.more e (λ k. among k w) (grow rows body (bare (in_row old)) top c true (λ k. among k w) (λ h q. refl) (λ q. refl) (all_among w)) in
    missing_falls w m.0 old new m.1 m.2 m.3 p.members
