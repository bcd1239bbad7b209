-- The rows of the functions tell the least set of every instance.
use Rattle.std.proofs.Common.{◌≡◌, ◌<◌, ◌≤◌, ◌+◌, ℕ, zero, suc, List, [], ◌∷◌, Bool, true, false, true≢false, ◌&&◌, ◌||◌, if◌then◌else◌, nat_lt, get_or, length, take, ap, sym, subst, ◌∙◌, refl, arith}
use Rattle.std.proofs.lemmas.Bool.{lt-ltb, ltb-true, le-ltb, ltb-false}
use Rattle.std.proofs.lemmas.List.{get_or-take}
use Rattle.ctl_types.specs.declared.statement.TypedStatement.{TypedStatement}
use Rattle.ctl_types.specs.declared.program.Function.{Function}
use Rattle.level_rules.specs.declared.instance.Instance.{Instance}
use Rattle.level_rules.specs.declared.instance.Holder.{Holder}
use Rattle.level_rules.specs.declared.instance.Holder.TheVariants.{Variable}
use Rattle.level_rules.specs.Rules.{VaryingSet, Known, any, instance_of}
use Rattle.level_rules.specs.Levels.{AllIn, Below, IsLeast, around, before}
use Rattle.level_rules.specs.Rows.{in_row, pick, tells, bare, puts, AreRows, HasRows, RowsTell, PutsGrow}
use Rattle.level_rules.proofs.Sums.{IsUnion, UnionLevels, Unites, Split, Follows, sum_statement}
use Rattle.level_rules.proofs.Calm.{Calms, Still, idle_statement}

-- ---- what rows tell

mix : (v a b r w c d : Bool) → v ≡ (a || b) → w ≡ (c || d) → ((v && r) || w) ≡ (((a && r) || c) || ((b && r) || d))
mix v a b r w c d e f = ap (λ v. (v && r) || w) e ∙ ap (λ w. ((a || b) && r) || w) f ∙ one a b r c d where
  one : (a b r c d : Bool) → (((a || b) && r) || (c || d)) ≡ (((a && r) || c) || ((b && r) || d))
  one true true true c d = refl
  one true true false c d = refl
  one true false true c d = refl
  one true false false c d = refl
  one false true true true d = refl
  one false true true false d = refl
  one false true false c d = refl
  one false false r c d = refl

pick_union : (v a b : List Bool) → UnionLevels v a b → (rows : List (List Bool)) → IsUnion (pick v rows) (pick a rows) (pick b rows)
pick_union [] [] [] u rows h = refl
pick_union [] [] (b ∷ bs) u rows h = absurd u
pick_union [] (a ∷ rest) bs u rows h = absurd u
pick_union (v ∷ vs) [] bs u rows h = absurd u
pick_union (v ∷ vs) (a ∷ rest) [] u rows h = absurd u
pick_union (v ∷ vs) (a ∷ rest) (b ∷ bs) u [] h = refl
pick_union (v ∷ vs) (a ∷ rest) (b ∷ bs) u (row ∷ rows) h = mix v a b (in_row row h) (pick vs rows h) (pick rest rows h) (pick bs rows h) u.0 (pick_union vs rest bs u.1 rows h)

pick_none : (bits : List Bool) (rows : List (List Bool)) → any bits ≡ false → (h : Holder) → pick bits rows h ≡ false
pick_none [] rows e h = refl
pick_none (true ∷ bits) rows e h = absurd (true≢false e)
pick_none (false ∷ bits) [] e h = refl
pick_none (false ∷ bits) (row ∷ rows) e h = pick_none bits rows e h

pick_nothing : (bits : List Bool) (h : Holder) → pick bits [] h ≡ false
pick_nothing [] h = refl
pick_nothing (b ∷ bits) h = refl

pub tells_unite : (rows : List (List (List Bool))) → Unites (tells rows)
tells_unite rows n sizes left right vs us ws c d e u o h = pick_union (c ∷ vs) (d ∷ us) (e ∷ ws) (o, u) (get_or rows n []) h

tells_calm : (rows : List (List (List Bool))) → Calms (tells rows)
tells_calm rows n sizes levels c e k h = pick_none (c ∷ levels) (get_or rows n []) (none c (any levels) e k) h where
  none : (a b : Bool) → a ≡ false → b ≡ false → (a || b) ≡ false
  none true b h k = absurd (true≢false h)
  none false b h k = k

-- ---- what is put grows

grown : (a b : Bool) → (a ≡ true → b ≡ true) → b ≡ (a || b)
grown true b h = h refl
grown false b h = refl

pub puts_grow : PutsGrow
puts_grow rows body s more c d goal b l h =
    let x : Split = record { s = more; p = s; q = more; c = d; d = c; e = d; union = λ y. grown (s.set y) (more.set y) (b y); or = record { is = grown c d l } } in
    let k : Follows (tells rows) (tells_unite rows) goal _ _ _ = sum_statement (tells rows) (tells_unite rows) goal body x in
    (k.puts.to h).0

module _ (rows : List (List (List Bool))) where
  abbrev known : Known
  known = tells rows

  all_more : (a b : VaryingSet) (xs : List Holder) → Below a b → AllIn a xs → AllIn b xs
  all_more a b [] h k = tt
  all_more a b (x ∷ xs) h k = (h x k.0, all_more a b xs h k.1)

  or_left : (a b : Bool) → a ≡ true → (a || b) ≡ true
  or_left true b h = refl
  or_left false b h = absurd (true≢false (sym h))

  or_right : (a b : Bool) → b ≡ true → (a || b) ≡ true
  or_right true b h = refl
  or_right false b h = h

  or_cases : {A : Type 0} (a b : Bool) → (a || b) ≡ true → (a ≡ true → A) → (b ≡ true → A) → A
  or_cases true b h f g = f refl
  or_cases false b h f g = g h

  -- both meet the rules, so does their union
  both : (body : TypedStatement) (a b : VaryingSet) (c d : Bool) → AllIn a (puts known body (bare a) c) → AllIn b (puts known body (bare b) d) → AllIn (λ h. a h || b h) (puts known body (bare (λ h. a h || b h)) (c || d))
  both body a b c d h k =
      let u : VaryingSet = λ h. a h || b h in
      let x : Split = record { s = bare u; p = bare a; q = bare b; c = c || d; d = c; e = d; union = λ y. refl; or = record { is = refl } } in
      let j : Follows known (tells_unite rows) u _ _ _ = sum_statement known (tells_unite rows) u body x in
      j.puts.from (all_more a u _ (λ y e. or_left (a y) (b y) e) h) (all_more b u _ (λ y e. or_right (a y) (b y) e) k)

  -- the parameters that vary, the first of these levels being that of parameter k, and as many as there are rows
  abbrev Starts : ℕ → List Bool → List (List Bool) → VaryingSet → Type 0
  Starts k [] table set = Unit {0}
  Starts k (b ∷ levels) [] set = Unit {0}
  Starts k (true ∷ levels) (row ∷ table) set = (set (Variable k) ≡ true) × Starts (k + 1) levels table set
  Starts k (false ∷ levels) (row ∷ table) set = Starts (k + 1) levels table set

  starts_of : (k : ℕ) (levels : List Bool) (table : List (List Bool)) (set : VaryingSet) → ((j m : ℕ) → j < length table → m ≡ k + j → get_or levels j false ≡ true → set (Variable m) ≡ true) → Starts k levels table set
  starts_of k [] table set h = tt
  starts_of k (b ∷ levels) [] set h = tt
  starts_of k (true ∷ levels) (row ∷ table) set h = (h 0 k (omega arith) (omega arith) refl, starts_of (k + 1) levels table set (λ j m l e g. h (suc j) m (omega arith) (omega arith) g))
  starts_of k (false ∷ levels) (row ∷ table) set h = starts_of (k + 1) levels table set (λ j m l e g. h (suc j) m (omega arith) (omega arith) g)

  of_starts : (k : ℕ) (levels : List Bool) (table : List (List Bool)) (set : VaryingSet) → Starts k levels table set → (j m : ℕ) → j < length table → m ≡ k + j → get_or levels j false ≡ true → set (Variable m) ≡ true
  of_starts k [] table set s j m l e g = absurd (true≢false (sym g))
  of_starts k (b ∷ levels) [] set s j m l e g = absurd (omega arith)
  of_starts k (true ∷ levels) (row ∷ table) set s zero m l e g = ap (λ x. set (Variable x)) (let i : m ≡ k = omega arith in i) ∙ s.0
  of_starts k (false ∷ levels) (row ∷ table) set s zero m l e g = absurd (true≢false (sym g))
  of_starts k (true ∷ levels) (row ∷ table) set s (suc j) m l e g = of_starts (k + 1) levels table set s.1 j m (omega arith) (omega arith) g
  of_starts k (false ∷ levels) (row ∷ table) set s (suc j) m l e g = of_starts (k + 1) levels table set s j m (omega arith) (omega arith) g

  starts_more : (k : ℕ) (levels : List Bool) (table : List (List Bool)) (a b : VaryingSet) → Below a b → Starts k levels table a → Starts k levels table b
  starts_more k [] table a b h s = tt
  starts_more k (x ∷ levels) [] a b h s = tt
  starts_more k (true ∷ levels) (row ∷ table) a b h s = (h (Variable k) s.0, starts_more (k + 1) levels table a b h s.1)
  starts_more k (false ∷ levels) (row ∷ table) a b h s = starts_more (k + 1) levels table a b h s

  -- the least set in which the parameters vary that are picked, at uniform control
  record IsPicked (f : Function) (k : ℕ) (levels : List Bool) (table : List (List Bool)) (set : VaryingSet) : Type 0 where
    starts : Starts k levels table set
    meets : AllIn set (puts known f.body (bare set) false)
    least : (other : VaryingSet) → Starts k levels table other → AllIn other (puts known f.body (bare other) false) → Below set other

  nothing_put : (body : TypedStatement) (set : VaryingSet) → ((h : Holder) → set h ≡ false) → AllIn set (puts known body (bare set) false)
  nothing_put body set none =
      let x : Still = record { s = bare set; c = false; none = none; calm = refl } in
      subst (AllIn set) (sym (idle_statement known (tells_calm rows) body x).puts) tt

  picked : (f : Function) (k : ℕ) (levels : List Bool) (table : List (List Bool)) → AreRows known f k table → IsPicked f k levels table (pick levels table)
  picked f k [] table r = record { starts = tt; meets = nothing_put f.body (pick [] table) (λ h. refl); least = λ other s m h e. absurd (true≢false (sym e)) }
  picked f k (b ∷ levels) [] r = record { starts = tt; meets = nothing_put f.body (pick (b ∷ levels) []) (λ h. refl); least = λ other s m h e. absurd (true≢false (sym e)) }
  picked f k (false ∷ levels) (row ∷ table) r =
      let p = picked f (k + 1) levels table r.1 in
      record { starts = p.starts; meets = p.meets; least = p.least }
  picked f k (true ∷ levels) (row ∷ table) r =
      let p = picked f (k + 1) levels table r.1 in
      record {
        starts = (or_left (in_row row (Variable k)) (pick levels table (Variable k)) r.0.begins, starts_more (k + 1) levels table (pick levels table) (λ h. in_row row h || pick levels table h) (λ h e. or_right (in_row row h) (pick levels table h) e) p.starts);
        meets = both f.body (in_row row) (pick levels table) false false r.0.meets p.meets;
        least = λ other s m h e. or_cases (in_row row h) (pick levels table h) e (λ i. r.0.least other s.0 m h i) (λ i. p.least other s.1 m h i);
      }

  module _ (functions : List Function) (f : Function) where
    -- what is put by the set alone is put in every instance
    from_bare : (i : Instance) (set goal : VaryingSet) (c : Bool) → AllIn goal (puts known f.body (bare set) c) → AllIn goal (puts known f.body (around functions i set) c)
    from_bare i set goal c = puts_grow rows f.body (around functions i set) (bare set) c c goal (λ h e. e) (λ e. e)

    to_bare : (i : Instance) (set goal : VaryingSet) (c d : Bool) → (d ≡ true → c ≡ true) → AllIn goal (puts known f.body (around functions i set) c) → AllIn goal (puts known f.body (bare set) d)
    to_bare i set goal c d l = puts_grow rows f.body (bare set) (around functions i set) d c goal (λ h e. e) l

    is_least : (n : ℕ) (sizes : List ℕ) (levels : List Bool) (c : Bool) (table : List (List Bool)) → HasRows known f table → IsLeast known functions f (instance_of n sizes levels c) (pick (c ∷ levels) table)
    is_least n sizes levels c [] r = absurd r
    is_least n sizes levels false (first ∷ table) r =
        let p = picked f 0 levels table r.1 in
        let i = instance_of n sizes levels false in
        let long : length table ≡ length f.parameters = r.2 in
        record {
          meets = record { begins = λ k l g. of_starts 0 levels table (pick levels table) p.starts k k (omega arith) (omega arith) g; puts = from_bare i (pick levels table) (pick levels table) false p.meets };
          least = λ other m. p.least other (starts_of 0 levels table other (λ j m' l e g. ap (λ x. other (Variable x)) (let q : m' ≡ j = omega arith in q) ∙ m.begins j (omega arith) g)) (to_bare i other other false false (λ q. q) m.puts);
        }
    is_least n sizes levels true (first ∷ table) r =
        let p = picked f 0 levels table r.1 in
        let i = instance_of n sizes levels true in
        let u : VaryingSet = λ h. in_row first h || pick levels table h in
        let long : length table ≡ length f.parameters = r.2 in
        let s : Starts 0 levels table u = starts_more 0 levels table (pick levels table) u (λ h e. or_right (in_row first h) (pick levels table h) e) p.starts in
        record {
          meets = record { begins = λ k l g. of_starts 0 levels table u s k k (omega arith) (omega arith) g; puts = from_bare i u u true (both f.body (in_row first) (pick levels table) true false r.0.meets p.meets) };
          least = λ other m h e. or_cases (in_row first h) (pick levels table h) e
              (λ q. r.0.least other (to_bare i other other true true (λ q. q) m.puts) h q)
              (λ q. p.least other (starts_of 0 levels table other (λ j m' l e g. ap (λ x. other (Variable x)) (let q : m' ≡ j = omega arith in q) ∙ m.begins j (omega arith) g)) (to_bare i other other true false (λ q. refl) m.puts) h q);
        }

-- ---- all functions

lt_or : {A : Type 0} (k n : ℕ) → (k < n → A) → (n ≤ k → A) → A
lt_or {A} k n f g = one (nat_lt k n) refl where
  one : (b : Bool) → nat_lt k n ≡ b → A
  one true e = f (ltb-true k n e)
  one false e = g (ltb-false k n e)

past_end : (rows : List (List (List Bool))) (n k : ℕ) → n ≤ k → get_or (take n rows) k [] ≡ []
past_end rows zero k h = refl
past_end [] (suc n) k h = refl
past_end (row ∷ rows) (suc n) zero h = absurd (omega arith)
past_end (row ∷ rows) (suc n) (suc k) h = past_end rows n k (omega arith)

-- what the rows of the functions before the nth tell is what is known of these
before_tells : (rows : List (List (List Bool))) (n : ℕ) → tells (take n rows) ≡ before n (tells rows)
before_tells rows n = λ p i h. one i h p where
  one : (i : Instance) (h : Holder) → tells (take n rows) i h ≡ before n (tells rows) i h
  one i h = lt_or i.function n
      (λ l. ap (λ r. pick (i.control ∷ i.levels) r h) (get_or-take n rows i.function [] l) ∙ ap (λ (b : Bool). (if b then tells rows i else (λ (h : Holder). false)) h) (sym (lt-ltb i.function n l)))
      (λ l. ap (λ r. pick (i.control ∷ i.levels) r h) (past_end rows n i.function l) ∙ pick_nothing (i.control ∷ i.levels) h ∙ ap (λ (b : Bool). (if b then tells rows i else (λ (h : Holder). false)) h) (sym (le-ltb i.function n l)))

pub rows_tell : RowsTell
rows_tell functions rows h n f q i e =
    subst (λ k. IsLeast k functions f i (tells rows i)) (before_tells rows n)
    (subst (λ m. IsLeast (tells (take n rows)) functions f i (pick (i.control ∷ i.levels) (get_or rows m []))) (sym e)
    (is_least (take n rows) functions f i.function i.sizes i.levels i.control (get_or rows n []) (h n f q)))
