-- What a walk over calls lists.
use Rattle.std.proofs.Common.{◌≡◌, ◌<◌, ◌≤◌, ◌+◌, ◌++◌, ◌⊎◌, inl, inr, ℕ, zero, suc, List, [], ◌∷◌, Some, Bool, true, false, true≢false, ◌&&◌, ◌||◌, ◌==◌, if◌then◌else◌, slice_get, ap, sym, subst, ◌∙◌, refl, arith}
use Rattle.std.proofs.lemmas.Bool.{eqb-true, eq-eqb}
use Rattle.level_rules.specs.declared.instance.Instance.{Instance}
use Rattle.level_rules.specs.Reached.{same_level, same_levels, same_sizes, same, is_among, number_in, each, visit, reached}
use Rattle.level_rules.specs.Listed.{AllBefore, Lowers, AllListed, Closed, Distinct, Once, AllPass, Reachable, Deeper, Numbered}

bool_refl : (b : Bool) → same_level b b ≡ true
bool_refl true = refl
bool_refl false = refl

bool_eq : (a b : Bool) → same_level a b ≡ true → a ≡ b
bool_eq true true h = refl
bool_eq true false h = absurd (true≢false (sym h))
bool_eq false true h = absurd (true≢false (sym h))
bool_eq false false h = refl

and_left : (a b : Bool) → (a && b) ≡ true → a ≡ true
and_left true b h = refl
and_left false b h = absurd (true≢false (sym h))

and_right : (a b : Bool) → (a && b) ≡ true → b ≡ true
and_right true b h = h
and_right false b h = absurd (true≢false (sym h))

and_of : (a b : Bool) → a ≡ true → b ≡ true → (a && b) ≡ true
and_of true b h k = k
and_of false b h k = absurd (true≢false (sym h))

levels_refl : (l : List Bool) → same_levels l l ≡ true
levels_refl [] = refl
levels_refl (b ∷ l) = and_of (same_level b b) (same_levels l l) (bool_refl b) (levels_refl l)

levels_eq : (a b : List Bool) → same_levels a b ≡ true → a ≡ b
levels_eq [] [] h = refl
levels_eq [] (y ∷ b) h = absurd (true≢false (sym h))
levels_eq (x ∷ a) [] h = absurd (true≢false (sym h))
levels_eq (x ∷ a) (y ∷ b) h = ap (λ x. x ∷ a) (bool_eq x y (and_left (same_level x y) (same_levels a b) h)) ∙ ap (λ a. y ∷ a) (levels_eq a b (and_right (same_level x y) (same_levels a b) h))

nat_refl : (n : ℕ) → (n == n) ≡ true
nat_refl n = eq-eqb n n refl

nat_same : (a b : ℕ) → (a == b) ≡ true → a ≡ b
nat_same a b h = eqb-true a b h

sizes_refl : (l : List ℕ) → same_sizes l l ≡ true
sizes_refl [] = refl
sizes_refl (n ∷ l) = and_of (n == n) (same_sizes l l) (nat_refl n) (sizes_refl l)

sizes_eq : (a b : List ℕ) → same_sizes a b ≡ true → a ≡ b
sizes_eq [] [] h = refl
sizes_eq [] (y ∷ b) h = absurd (true≢false (sym h))
sizes_eq (x ∷ a) [] h = absurd (true≢false (sym h))
sizes_eq (x ∷ a) (y ∷ b) h = ap (λ x. x ∷ a) (nat_same x y (and_left (x == y) (same_sizes a b) h)) ∙ ap (λ a. y ∷ a) (sizes_eq a b (and_right (x == y) (same_sizes a b) h))

abbrev make_of : ℕ → List ℕ → List Bool → Bool → Instance
make_of f n l c = record { function = f; sizes = n; levels = l; control = c }

pub same_refl : (k : Instance) → same k k ≡ true
same_refl k = and_of (k.function == k.function && same_sizes k.sizes k.sizes) (same_levels k.levels k.levels && same_level k.control k.control)
    (and_of (k.function == k.function) (same_sizes k.sizes k.sizes) (nat_refl k.function) (sizes_refl k.sizes))
    (and_of (same_levels k.levels k.levels) (same_level k.control k.control) (levels_refl k.levels) (bool_refl k.control))

pub same_eq : (a b : Instance) → same a b ≡ true → a ≡ b
same_eq a b h =
    let p = and_left (a.function == b.function && same_sizes a.sizes b.sizes) (same_levels a.levels b.levels && same_level a.control b.control) h in
    let q = and_right (a.function == b.function && same_sizes a.sizes b.sizes) (same_levels a.levels b.levels && same_level a.control b.control) h in
    let f = nat_same a.function b.function (and_left (a.function == b.function) (same_sizes a.sizes b.sizes) p) in
    let n = sizes_eq a.sizes b.sizes (and_right (a.function == b.function) (same_sizes a.sizes b.sizes) p) in
    let l = levels_eq a.levels b.levels (and_left (same_levels a.levels b.levels) (same_level a.control b.control) q) in
    let c = bool_eq a.control b.control (and_right (same_levels a.levels b.levels) (same_level a.control b.control) q) in
    one a b f n l c where
      one : (a b : Instance) → a.function ≡ b.function → a.sizes ≡ b.sizes → a.levels ≡ b.levels → a.control ≡ b.control → a ≡ b
      one a b f n l c = ap (λ f. make_of f a.sizes a.levels a.control) f ∙ ap (λ n. make_of b.function n a.levels a.control) n ∙ ap (λ l. make_of b.function b.sizes l a.control) l ∙ ap (λ c. make_of b.function b.sizes b.levels c) c

or_cases : {A : Type 0} (a b : Bool) → (a || b) ≡ true → (a ≡ true → A) → (b ≡ true → A) → A
or_cases true b h f g = f refl
or_cases false b h f g = g h

or_left : (a b : Bool) → a ≡ true → (a || b) ≡ true
or_left true b h = refl
or_left false b h = absurd (true≢false (sym h))

or_right : (a b : Bool) → b ≡ true → (a || b) ≡ true
or_right true b h = refl
or_right false b h = h

or_none : (a b : Bool) → (a || b) ≡ false → (a ≡ false) × (b ≡ false)
or_none true b h = absurd (true≢false h)
or_none false b h = (refl, h)

has_front : (t : List Instance) (x k : Instance) → is_among t k ≡ true → is_among (t ++ x ∷ []) k ≡ true
has_front [] x k h = absurd (true≢false (sym h))
has_front (y ∷ t) x k h = or_cases (same y k) (is_among t k) h (λ e. or_left (same y k) (is_among (t ++ x ∷ []) k) e) (λ e. or_right (same y k) (is_among (t ++ x ∷ []) k) (has_front t x k e))

has_last : (t : List Instance) (k : Instance) → is_among (t ++ k ∷ []) k ≡ true
has_last [] k = or_left (same k k) false (same_refl k)
has_last (y ∷ t) k = or_right (same y k) (is_among (t ++ k ∷ []) k) (has_last t k)

has_pushed : {A : Type 0} (t : List Instance) (x k : Instance) → is_among (t ++ x ∷ []) k ≡ true → (is_among t k ≡ true → A) → (x ≡ k → A) → A
has_pushed [] x k h f g = or_cases (same x k) false h (λ e. g (same_eq x k e)) (λ e. absurd (true≢false (sym e)))
has_pushed (y ∷ t) x k h f g = or_cases (same y k) (is_among (t ++ x ∷ []) k) h (λ e. f (or_left (same y k) (is_among t k) e)) (λ e. has_pushed t x k e (λ i. f (or_right (same y k) (is_among t k) i)) g)

below_more : (m n : ℕ) (keys : List Instance) → m ≤ n → AllBefore m keys → AllBefore n keys
below_more m n [] h b = tt
below_more m n (k ∷ keys) h b = (let i = b.0 in omega arith, below_more m n keys h b.1)

in_more : (t u : List Instance) (keys : List Instance) → ((k : Instance) → is_among t k ≡ true → is_among u k ≡ true) → AllListed t keys → AllListed u keys
in_more t u [] h i = tt
in_more t u (k ∷ keys) h i = (h k i.0, in_more t u keys h i.1)

by_bool : {A : Type 0} (b : Bool) → (b ≡ true → A) → (b ≡ false → A) → A
by_bool true f g = f refl
by_bool false f g = g refl

module _ (calls : Instance → List Instance) where
  -- what was listed still is, and what is new has its calls listed
  pub record Grown (t u : List Instance) : Type 0 where
    pub keeps : (k : Instance) → is_among t k ≡ true → is_among u k ≡ true
    pub closed : (k : Instance) → is_among u k ≡ true → (is_among t k ≡ true) ⊎ AllListed u (calls k)

  grown_none : (t : List Instance) → Grown t t
  grown_none t = record { keeps = λ k h. h; closed = λ k h. inl h }

  grown_then : (t u v : List Instance) → Grown t u → Grown u v → Grown t v
  grown_then t u v a b = record {
    keeps = λ k h. b.keeps k (a.keeps k h);
    closed = λ k h. elim (b.closed k h) as (λ _. (is_among t k ≡ true) ⊎ AllListed v (calls k)) [
      | inl i ↦ elim (a.closed k i) as (λ _. (is_among t k ≡ true) ⊎ AllListed v (calls k)) [ inl j ↦ inl j | inr j ↦ inr (in_more u v (calls k) b.keeps j) ]
      | inr i ↦ inr i
    ];
  }

  each_grown : (d : ℕ) (f : List Instance → Instance → List Instance) → ((t : List Instance) (k : Instance) → k.function < d → Grown t (f t k) × (is_among (f t k) k ≡ true)) → (t : List Instance) (keys : List Instance) → AllBefore d keys → Grown t (each f t keys) × AllListed (each f t keys) keys
  each_grown d f h t [] b = (grown_none t, tt)
  each_grown d f h t (k ∷ keys) b =
      let a = h t k b.0 in
      let r = each_grown d f h (f t k) keys b.1 in
      (grown_then t (f t k) (each f (f t k) keys) a.0 r.0, (r.0.keeps k a.1, r.1))

  grown_pushed : (t u : List Instance) (k : Instance) → Grown (t ++ k ∷ []) u → AllListed u (calls k) → Grown t u × (is_among u k ≡ true)
  grown_pushed t u k g a = (
    record {
      keeps = λ x h. g.keeps x (has_front t k x h);
      closed = λ x h. elim (g.closed x h) as (λ _. (is_among t x ≡ true) ⊎ AllListed u (calls x)) [
        | inl i ↦ has_pushed t k x i (λ j. inl j) (λ e. inr (subst (λ y. AllListed u (calls y)) e a))
        | inr i ↦ inr i
      ];
    },
    g.keeps k (has_last t k),
  )

  abbrev next : ℕ → List Instance → Instance → List Instance
  next d t k = each (visit calls d) (t ++ k ∷ []) (calls k)

  visit_grown : Lowers calls → (d : ℕ) (t : List Instance) (k : Instance) → k.function < d → Grown t (visit calls d t k) × (is_among (visit calls d t k) k ≡ true)
  visit_grown l zero t k h = absurd (omega arith)
  visit_grown l (suc d) t k h = by_bool (is_among t k)
      (λ e. subst (λ b. Grown t (if b then t else (next d t k)) × (is_among (if b then t else (next d t k)) k ≡ true)) (sym e) (grown_none t, e))
      (λ e. subst (λ b. Grown t (if b then t else (next d t k)) × (is_among (if b then t else (next d t k)) k ≡ true)) (sym e) (let r = each_grown d (visit calls d) (visit_grown l d) (t ++ k ∷ []) (calls k) (below_more k.function d (calls k) (omega arith) (l k)) in grown_pushed t (next d t k) k r.0 r.1))

  pub closed : Lowers calls → Closed calls
  closed l entry =
      let g = visit_grown l (entry.function + 1) [] entry (omega arith) in
      (g.1, λ k h. elim (g.0.closed k h) as (λ _. AllListed (reached calls entry) (calls k)) [ inl i ↦ absurd (true≢false (sym i)) | inr i ↦ i ])

  distinct_push : (t : List Instance) (k : Instance) → Distinct t → is_among t k ≡ false → Distinct (t ++ k ∷ [])
  distinct_push [] k d h = (refl, tt)
  distinct_push (x ∷ t) k d h =
      let o = or_none (same x k) (is_among t k) h in
      (by_bool (is_among (t ++ k ∷ []) x) (λ e. has_pushed t k x e (λ i. absurd (true≢false (sym i ∙ d.0))) (λ i. absurd (true≢false (sym (same_refl x) ∙ ap (λ y. same x y) (sym i) ∙ o.0)))) (λ e. e), distinct_push t k d.1 o.1)

  each_once : (f : List Instance → Instance → List Instance) → ((t : List Instance) (k : Instance) → Distinct t → Distinct (f t k)) → (t : List Instance) (keys : List Instance) → Distinct t → Distinct (each f t keys)
  each_once f h t [] d = d
  each_once f h t (k ∷ keys) d = each_once f h (f t k) keys (h t k d)

  visit_once : (d : ℕ) (t : List Instance) (k : Instance) → Distinct t → Distinct (visit calls d t k)
  visit_once zero t k h = h
  visit_once (suc d) t k h = by_bool (is_among t k)
      (λ e. subst (λ b. Distinct (if b then t else (each (visit calls d) (t ++ k ∷ []) (calls k)))) (sym e) h)
      (λ e. subst (λ b. Distinct (if b then t else (each (visit calls d) (t ++ k ∷ []) (calls k)))) (sym e) (each_once (visit calls d) (visit_once d) (t ++ k ∷ []) (calls k) (distinct_push t k h e)))

  pub once : Once calls
  once entry = visit_once (entry.function + 1) [] entry tt

  have_push : (test : Instance → Bool) (t : List Instance) (k : Instance) → AllPass test t → test k ≡ true → AllPass test (t ++ k ∷ [])
  have_push test [] k h e = (e, tt)
  have_push test (x ∷ t) k h e = (h.0, have_push test t k h.1 e)

  each_have : (test : Instance → Bool) (f : List Instance → Instance → List Instance) → ((t : List Instance) (k : Instance) → AllPass test t → test k ≡ true → AllPass test (f t k)) → (t : List Instance) (keys : List Instance) → AllPass test t → AllPass test keys → AllPass test (each f t keys)
  each_have test f h t [] a b = a
  each_have test f h t (k ∷ keys) a b = each_have test f h (f t k) keys (h t k a b.0) b.1

  visit_have : (test : Instance → Bool) → ((key : Instance) → test key ≡ true → AllPass test (calls key)) → (d : ℕ) (t : List Instance) (k : Instance) → AllPass test t → test k ≡ true → AllPass test (visit calls d t k)
  visit_have test c zero t k h e = h
  visit_have test c (suc d) t k h e = by_bool (is_among t k)
      (λ i. subst (λ b. AllPass test (if b then t else (each (visit calls d) (t ++ k ∷ []) (calls k)))) (sym i) h)
      (λ i. subst (λ b. AllPass test (if b then t else (each (visit calls d) (t ++ k ∷ []) (calls k)))) (sym i) (each_have test (visit calls d) (visit_have test c d) (t ++ k ∷ []) (calls k) (have_push test t k h e) (c k e)))

  pub reachable : Reachable calls
  reachable entry test e c = visit_have test c (entry.function + 1) [] entry tt e

  each_same : (n : ℕ) (f g : List Instance → Instance → List Instance) → ((t : List Instance) (k : Instance) → k.function < n → f t k ≡ g t k) → (t : List Instance) (keys : List Instance) → AllBefore n keys → each f t keys ≡ each g t keys
  each_same n f g h t [] b = refl
  each_same n f g h t (k ∷ keys) b = ap (λ t. each f t keys) (h t k b.0) ∙ each_same n f g h (g t k) keys b.1

  visit_same : Lowers calls → (d e : ℕ) (t : List Instance) (k : Instance) → k.function < d → k.function < e → visit calls d t k ≡ visit calls e t k
  visit_same l zero e t k h i = absurd (omega arith)
  visit_same l (suc d) zero t k h i = absurd (omega arith)
  visit_same l (suc d) (suc e) t k h i = ap (λ u. if is_among t k then t else u) (each_same k.function (visit calls d) (visit calls e) (λ t x j. visit_same l d e t x (omega arith) (omega arith)) (t ++ k ∷ []) (calls k) (l k))

  pub deeper : Lowers calls → Deeper calls
  deeper l entry depth h = visit_same l depth (entry.function + 1) [] entry h (omega arith)

number_cons : (k i : Instance) (table : List Instance) (b : Bool) → same k i ≡ b → (b || is_among table i) ≡ true → (is_among table i ≡ true → slice_get table (number_in table i) ≡ Some i) → slice_get (k ∷ table) (if b then 0 else number_in table i + 1) ≡ Some i
number_cons k i table true e h r = ap (λ k. Some k) (same_eq k i e)
number_cons k i table false e h r = let n : number_in table i + 1 ≡ suc (number_in table i) = omega arith in ap (slice_get (k ∷ table)) n ∙ r h

pub numbered : Numbered
numbered [] i h = absurd (true≢false (sym h))
numbered (k ∷ table) i h = number_cons k i table (same k i) refl h (numbered table i)
