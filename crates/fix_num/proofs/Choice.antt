-- The half that is chosen among all is the nearest.
use Rattle.std.proofs.Common.{◌≡◌, ◌≢◌, ℕ, zero, suc, ◌+◌, ◌*◌, ◌/◌, ◌-◌, ◌%◌, ◌^◌, ◌<◌, ◌≤◌, ◌⊎◌, inl, inr, refl, ap, sym, subst, ◌∙◌, arith, lit<, lit≤, ℤ, pos, negsuc, neg_ℤ, ◌-ℤ◌, ◌≤ℤ◌, ◌<ℤ◌, unsigned_abs, Bool, true, false, nat_lt, ◌==◌, if◌then◌else◌, List, [], ◌∷◌, ◌++◌, fold}
use Rattle.std.proofs.Math.Nat.{pow-succ', mul-le-mul_right}
use Rattle.std.proofs.Math.Pow.{pow_pos}
use Rattle.std.proofs.lemmas.Bool.{cases_lt, eq-eqb, eqb-true, false≢true}
use Rattle.std.proofs.lemmas.Bool.Decides.{nat_tests, Decides-int_eq}
use Rattle.std.specs.Ordering.{int_eq}
use Rattle.std.proofs.lemmas.Int.{ints, by_lt_z}
use Rattle.std.specs.List.{range_with_len, flat_map}
use Rattle.fix_num.specs.Half.{HasDigits, IsSize, IsEvenSize, IsNearest, IsHalf, IsNearestHalf, Candidate, zero_half, distance, nearer, numbers, both_signs, halves, half_unit, half, HalfIsNearest, HalfKeeps, HalfGrows}
use Rattle.fix_num.proofs.Near.{Digits, digits_of_step, chosen_down, chosen_up, chosen_even, chosen_odd, beyond, nearest_pos, nearest_neg, nearest_unique, size_zero}

-- ---- lists

In : {A : Type 0} → A → List A → Type 0
In x [] = ⊥
In x (y ∷ ys) = (x ≡ y) ⊎ In x ys

in_left : {A : Type 0} (x : A) (xs ys : List A) → In x xs → In x (xs ++ ys)
unfolding In
in_left x [] ys h = absurd h
in_left x (y ∷ xs) ys (inl e) = inl e
in_left x (y ∷ xs) ys (inr h) = inr (in_left x xs ys h)

in_right : {A : Type 0} (x : A) (xs ys : List A) → In x ys → In x (xs ++ ys)
unfolding In
in_right x [] ys h = h
in_right x (y ∷ xs) ys h = inr (in_right x xs ys h)

in_flat : {A B : Type 0} (f : A → List B) (a : A) (b : B) (xs : List A) → In a xs → In b (f a) → In b (flat_map f xs)
unfolding In
in_flat f a b [] m h = absurd m
in_flat f a b (x ∷ xs) (inl e) h = in_left b (f x) (flat_map f xs) (subst (λ (y : _). In b (f y)) e h)
in_flat f a b (x ∷ xs) (inr m) h = in_right b (f x) (flat_map f xs) (in_flat f a b xs m h)

in_range : (k a n : ℕ) → a ≤ k → k < a + n → In k (range_with_len a n)
unfolding In
in_range k a zero low high = absurd (omega arith)
in_range k a (suc n) low high = elim (cases_lt a k) [ inl lt ↦ inr (in_range k (a + 1) n (omega arith) (omega arith)) | inr le ↦ inl (omega arith) ]

in_numbers : (k a n : ℕ) → a ≤ k → k < a + n → In k (numbers a n)
unfolding numbers
in_numbers k a n low high = in_range k a n low high

Every : {A : Type 0} → (A → Type 0) → List A → Type 0
Every P [] = Unit {0}
Every P (x ∷ xs) = P x × Every P xs

every_append : {A : Type 0} (P : A → Type 0) (xs ys : List A) → Every P xs → Every P ys → Every P (xs ++ ys)
unfolding Every
every_append P [] ys h k = k
every_append P (x ∷ xs) ys h k = (h.0, every_append P xs ys h.1 k)

every_flat : {A B : Type 0} (P : B → Type 0) (Q : A → Type 0) (f : A → List B) (xs : List A) → ((a : A) → Q a → Every P (f a)) → Every Q xs → Every P (flat_map f xs)
unfolding Every
every_flat P Q f [] h k = tt
every_flat P Q f (x ∷ xs) h k = every_append P (f x) (flat_map f xs) (h x k.0) (every_flat P Q f xs h k.1)

every_range : (a n low high : ℕ) → low ≤ a → a + n ≤ high → Every (λ k. (low ≤ k) × (k < high)) (range_with_len a n)
unfolding Every
every_range a zero low high h k = tt
every_range a (suc n) low high h k = ((h, omega arith), every_range (a + 1) n low high (omega arith) (omega arith))

every_numbers : (a n : ℕ) → Every (λ k. (a ≤ k) × (k < a + n)) (numbers a n)
unfolding numbers
every_numbers a n = every_range a n a (a + n) (omega arith) (omega arith)

-- ---- the choice

-- a is as good a choice as b
record Better (r : ℤ) (a b : Candidate) : Type 0 where
  pub near : distance r a ≤ distance r b
  pub even : distance r a ≡ distance r b → b.even ≡ true → a.even ≡ true

better_trans : (r : ℤ) (a b c : Candidate) → Better r a b → Better r b c → Better r a c
better_trans r a b c h k =
    let x : distance r a ≤ distance r b = h.near in
    let y : distance r b ≤ distance r c = k.near in
    record {
      near = omega arith;
      even = λ e q. h.even (omega arith) (k.even (omega arith) q);
    }

better_self : (r : ℤ) (a : Candidate) → Better r a a
better_self r a = record { near = omega arith; even = λ e q. q }

record Chosen (r : ℤ) (a b c : Candidate) : Type 0 where
  pub left : Better r c a
  pub right : Better r c b
  pub one : (c ≡ a) ⊎ (c ≡ b)

chosen_at : (r : ℤ) (a b : Candidate) (s t u : Bool) → nat_lt (distance r a) (distance r b) ≡ s → nat_lt (distance r b) (distance r a) ≡ t → a.even ≡ u → Chosen r a b (if s then a else (if t then b else (if u then a else b)))
chosen_at r a b true t u d e f =
    record { left = better_self r a; right = record { near = grind (arith, nat_tests); even = λ q w. absurd (grind (arith, nat_tests)) }; one = inl refl }
chosen_at r a b false true u d e f =
    record { left = record { near = grind (arith, nat_tests); even = λ q w. absurd (grind (arith, nat_tests)) }; right = better_self r b; one = inr refl }
chosen_at r a b false false true d e f =
    record { left = better_self r a; right = record { near = grind (arith, nat_tests); even = λ q w. f }; one = inl refl }
chosen_at r a b false false false d e f =
    record { left = record { near = grind (arith, nat_tests); even = λ q w. absurd (false≢true (sym f ∙ w)) }; right = better_self r b; one = inr refl }

chosen_one : (r : ℤ) (a b : Candidate) → Chosen r a b (nearer r a b)
chosen_one r a b = chosen_at r a b (nat_lt (distance r a) (distance r b)) (nat_lt (distance r b) (distance r a)) a.even refl refl refl

fold_better : (r : ℤ) (a : Candidate) (xs : List Candidate) → Better r (fold (nearer r) a xs) a × ((c : Candidate) → In c xs → Better r (fold (nearer r) a xs) c)
unfolding In
fold_better r a [] = (better_self r a, λ c h. absurd h)
fold_better r a (x ∷ xs) =
    let k : Chosen r a x (nearer r a x) = chosen_one r a x in
    let h : Better r (fold (nearer r) (nearer r a x) xs) (nearer r a x) × ((c : Candidate) → In c xs → Better r (fold (nearer r) (nearer r a x) xs) c) = fold_better r (nearer r a x) xs in (
      better_trans r _ _ a h.0 k.left,
      λ c m. elim m as (λ _. Better r (fold (nearer r) (nearer r a x) xs) c) [
        | inl e ↦ subst (λ (y : Candidate). Better r (fold (nearer r) (nearer r a x) xs) y) (sym e) (better_trans r _ _ x h.0 k.right)
        | inr w ↦ h.1 c w
      ],
    )

fold_every : (r : ℤ) (P : Candidate → Type 0) (a : Candidate) (xs : List Candidate) → P a → Every P xs → P (fold (nearer r) a xs)
unfolding Every
fold_every r P a [] h k = h
fold_every r P a (x ∷ xs) h k =
    fold_every r P (nearer r a x) xs (elim (chosen_one r a x).one as (λ _. P (nearer r a x)) [ inl e ↦ subst P (sym e) h | inr e ↦ subst P (sym e) k.0 ]) k.1

-- ---- the halves

record IsCandidate (unit : ℕ) (c : Candidate) : Type 0 where
  pub half : IsHalf unit c.raw
  pub even_is : c.even ≡ true → IsEvenSize unit (unsigned_abs c.raw)

abs_pos_neg : (n : ℕ) → unsigned_abs (neg_ℤ (pos n)) ≡ n
abs_pos_neg zero = refl
abs_pos_neg (suc n) = refl

two_signs : (unit shift m : ℕ) → shift ≤ 29 → (shift ≡ 0) ⊎ (1024 ≤ m) → m < 2048 → Every (IsCandidate unit) (both_signs unit shift m)
unfolding Every
two_signs unit shift m range full few =
    let n : ℕ = m * (2 ^ shift * unit) in
    let d : HasDigits unit n m shift = record { value = refl; few = few; range = range; full = full } in
    let e : (m % 2 == 0) ≡ true → m % 2 ≡ 0 = eqb-true (m % 2) 0 in (
      record { half = (m, shift, d); even_is = λ q. (m, shift, d, e q) },
      (
        record {
          half = subst (IsSize unit) (sym (abs_pos_neg n)) (m, shift, d);
          even_is = λ q. subst (IsEvenSize unit) (sym (abs_pos_neg n)) (m, shift, d, e q);
        },
        tt,
      ),
    )

every_half : (unit : ℕ) → Every (IsCandidate unit) (halves unit)
every_half unit =
    every_append (IsCandidate unit) (flat_map (both_signs unit 0) (numbers 0 1024)) (flat_map (λ shift. flat_map (both_signs unit shift) (numbers 1024 1024)) (numbers 0 30))
    (every_flat (IsCandidate unit) (λ m. (0 ≤ m) × (m < 0 + 1024)) (both_signs unit 0) (numbers 0 1024) (λ m h. two_signs unit 0 m (lit≤ tt) (inl refl) (let k : m < 0 + 1024 = h.1 in omega arith)) (every_numbers 0 1024))
    (every_flat (IsCandidate unit) (λ s. (0 ≤ s) × (s < 0 + 30)) (λ shift. flat_map (both_signs unit shift) (numbers 1024 1024)) (numbers 0 30)
    (λ s g. every_flat (IsCandidate unit) (λ m. (1024 ≤ m) × (m < 1024 + 1024)) (both_signs unit s) (numbers 1024 1024) (λ m h. two_signs unit s m (let k : s < 0 + 30 = g.1 in omega arith) (inr h.0) (let k : m < 1024 + 1024 = h.1 in omega arith)) (every_numbers 1024 1024))
    (every_numbers 0 30))

zero_candidate : (unit : ℕ) → IsCandidate unit zero_half
zero_candidate unit = record { half = size_zero unit; even_is = λ e. (0, 0, record { value = omega arith; few = lit< tt; range = lit≤ tt; full = inl refl }, refl) }

-- a half is among the halves
placed : (unit n m shift : ℕ) → HasDigits unit n m shift → (c : Candidate) → In c (both_signs unit shift m) → In c (halves unit)
placed unit n m shift d c h =
    let few : m < 2048 = d.few in
    let range : shift ≤ 29 = d.range in
    elim (cases_lt m 1024) [
      | inl lt ↦
          let z : shift ≡ 0 = elim d.full as (λ _. shift ≡ 0) [ inl e ↦ e | inr k ↦ absurd (omega arith) ] in
          in_left c (flat_map (both_signs unit 0) (numbers 0 1024)) (flat_map (λ s. flat_map (both_signs unit s) (numbers 1024 1024)) (numbers 0 30))
          (in_flat (both_signs unit 0) m c (numbers 0 1024) (in_numbers m 0 1024 (omega arith) (omega arith)) (subst (λ (s : ℕ). In c (both_signs unit s m)) z h))
      | inr le ↦
          in_right c (flat_map (both_signs unit 0) (numbers 0 1024)) (flat_map (λ s. flat_map (both_signs unit s) (numbers 1024 1024)) (numbers 0 30))
          (in_flat (λ s. flat_map (both_signs unit s) (numbers 1024 1024)) shift c (numbers 0 30) (in_numbers shift 0 30 (omega arith) (omega arith))
          (in_flat (both_signs unit shift) m c (numbers 1024 1024) (in_numbers m 1024 1024 le (omega arith)) h))
    ]

candidate_in : (unit m shift : ℕ) (h : ℤ) → HasDigits unit (unsigned_abs h) m shift → In (record { raw = h; even = m % 2 == 0 }) (halves unit)
unfolding In
candidate_in unit m shift (pos n) d =
    let v : n ≡ m * (2 ^ shift * unit) = d.value in
    placed unit n m shift d (record { raw = pos n; even = m % 2 == 0 }) (inl (ap (λ (k : ℕ). record { raw = pos k; even = m % 2 == 0 }) v))
candidate_in unit m shift (negsuc n) d =
    let v : suc n ≡ m * (2 ^ shift * unit) = d.value in
    placed unit (suc n) m shift d (record { raw = negsuc n; even = m % 2 == 0 }) (inr (inl (ap (λ (k : ℕ). record { raw = neg_ℤ (pos k); even = m % 2 == 0 }) v)))

-- ---- there is a nearest half

shift_at : (unit n s : ℕ) → n < 2048 * (2 ^ s * unit) → (t : ℕ) × (t ≤ s) × (n < 2048 * (2 ^ t * unit)) × ((t ≡ 0) ⊎ (1024 * (2 ^ t * unit) ≤ n))
shift_at unit n zero h = (0, omega arith, h, inl refl)
shift_at unit n (suc s) h =
    elim (cases_lt n (2048 * (2 ^ s * unit))) [
      | inl lt ↦ (let r : (t : ℕ) × (t ≤ s) × (n < 2048 * (2 ^ t * unit)) × ((t ≡ 0) ⊎ (1024 * (2 ^ t * unit) ≤ n)) = shift_at unit n s lt in (r.0, omega (arith, r.1), r.2, r.3))
      | inr le ↦ (suc s, omega arith, h, inr (let e : 2 ^ suc s ≡ 2 * 2 ^ s = pow-succ' 2 s in rw e (omega arith)))
    ]

digits_nearest : (unit n shift : ℕ) → 0 < 2 ^ shift * unit → shift ≤ 29 → Digits unit n shift (n / (2 ^ shift * unit)) (n % (2 ^ shift * unit)) → (h : ℕ) × IsNearest unit n h
digits_nearest unit n shift some range d =
    let q : ℕ = n / (2 ^ shift * unit) in
    let rest : ℕ = n % (2 ^ shift * unit) in
    elim (cases_lt (2 * rest) (2 ^ shift * unit)) [
      | inl lt ↦ (q * (2 ^ shift * unit), chosen_down unit q shift n rest d.full d.few range d.parts lt)
      | inr le ↦
          elim (cases_lt (2 ^ shift * unit) (2 * rest)) [
            | inl gt ↦ ((q + 1) * (2 ^ shift * unit), chosen_up unit q shift n rest d.full d.few range d.room d.parts d.within gt)
            | inr ge ↦
                elim (cases_lt (q % 2) 1) [
                  | inl even ↦ (q * (2 ^ shift * unit), chosen_even unit q shift n rest some d.full d.few range d.parts (omega arith) (omega arith))
                  | inr odd ↦ ((q + 1) * (2 ^ shift * unit), chosen_odd unit q shift n rest some d.full d.few range d.room d.parts (omega arith) (omega arith))
                ]
          ]
    ]

step_some : (unit shift : ℕ) → 0 < unit → 0 < 2 ^ shift * unit
step_some unit shift some = let p : 0 < 2 ^ shift = pow_pos shift in let m : 1 * unit ≤ 2 ^ shift * unit = mul-le-mul_right unit p in omega arith

nearest_exists : (unit n : ℕ) → 0 < unit → (h : ℕ) × IsNearest unit n h
nearest_exists unit n some =
    elim (cases_lt n (2047 * (2 ^ 29 * unit))) [
      | inl lt ↦
          let r : (t : ℕ) × (t ≤ 29) × (n < 2048 * (2 ^ t * unit)) × ((t ≡ 0) ⊎ (1024 * (2 ^ t * unit) ≤ n)) = shift_at unit n 29 (omega arith) in
          digits_nearest unit n r.0 (step_some unit r.0 some) r.1 (digits_of_step unit n r.0 (step_some unit r.0 some) r.1 lt r.2 r.3)
      | inr le ↦ (2047 * (2 ^ 29 * unit), beyond unit n le)
    ]

half_exists : (unit : ℕ) (r : ℤ) → 0 < unit → (h : ℤ) × IsNearestHalf unit r h
half_exists unit (pos n) some = let x : (h : ℕ) × IsNearest unit n h = nearest_exists unit n some in (pos x.0, nearest_pos unit n x.0 x.1)
half_exists unit (negsuc n) some = let x : (h : ℕ) × IsNearest unit (suc n) h = nearest_exists unit (suc n) some in (neg_ℤ (pos x.0), nearest_neg unit (suc n) x.0 x.1)

-- ---- the chosen half is the nearest

chosen_half : (unit : ℕ) (r : ℤ) → Candidate
chosen_half unit r = fold (nearer r) zero_half (halves unit)

chosen_best : (unit : ℕ) (r : ℤ) (c : Candidate) → In c (halves unit) → Better r (chosen_half unit r) c
unfolding chosen_half
chosen_best unit r c h = (fold_better r zero_half (halves unit)).1 c h

chosen_is : (unit : ℕ) (r : ℤ) → IsCandidate unit (chosen_half unit r)
unfolding chosen_half
chosen_is unit r = fold_every r (IsCandidate unit) zero_half (halves unit) (zero_candidate unit) (every_half unit)

-- where an even half is as near, the chosen one is even
chosen_even_too : (unit : ℕ) (r h : ℤ) → IsEvenSize unit (unsigned_abs h) → unsigned_abs (r -ℤ (chosen_half unit r).raw) ≡ unsigned_abs (r -ℤ h) → IsEvenSize unit (unsigned_abs (chosen_half unit r).raw)
chosen_even_too unit r h (m, shift, d, e) q =
    let c : Candidate = record { raw = h; even = m % 2 == 0 } in
    (chosen_is unit r).even_is ((chosen_best unit r c (candidate_in unit m shift h d)).even q (eq-eqb (m % 2) 0 e))

chosen_near : (unit : ℕ) (r k : ℤ) → IsHalf unit k → unsigned_abs (r -ℤ (chosen_half unit r).raw) ≤ unsigned_abs (r -ℤ k)
chosen_near unit r k (m, shift, d) = (chosen_best unit r (record { raw = k; even = m % 2 == 0 }) (candidate_in unit m shift k d)).near

tie_at : (unit : ℕ) (r f h : ℤ) (t : Bool) → int_eq f h ≡ t → IsNearestHalf unit r h → IsHalf unit f → unsigned_abs (r -ℤ f) ≡ unsigned_abs (r -ℤ h) → (IsEvenSize unit (unsigned_abs h) → IsEvenSize unit (unsigned_abs f)) → (k : ℤ) → IsHalf unit k → k ≢ f → unsigned_abs (r -ℤ f) ≡ unsigned_abs (r -ℤ k) → IsEvenSize unit (unsigned_abs f)
tie_at unit r f h true e x z d even k w ne q =
    let s : f ≡ h = (Decides-int_eq f h).0 e in
    even (x.tie k w (λ u. ne (u ∙ sym s)) (sym d ∙ q))
tie_at unit r f h false e x z d even k w ne q = even (x.tie f z (λ u. false≢true (sym e ∙ (Decides-int_eq f h).1 u)) (sym d))

chosen_nearest : (unit : ℕ) (r : ℤ) → 0 < unit → IsNearestHalf unit r (chosen_half unit r).raw
chosen_nearest unit r some =
    let f : ℤ = (chosen_half unit r).raw in
    let x : (h : ℤ) × IsNearestHalf unit r h = half_exists unit r some in
    let a : unsigned_abs (r -ℤ f) ≤ unsigned_abs (r -ℤ x.0) = chosen_near unit r x.0 x.1.half in
    let b : unsigned_abs (r -ℤ x.0) ≤ unsigned_abs (r -ℤ f) = x.1.nearest f (chosen_is unit r).half in
    let d : unsigned_abs (r -ℤ f) ≡ unsigned_abs (r -ℤ x.0) = omega arith in
    record {
      half = (chosen_is unit r).half;
      nearest = λ k z. chosen_near unit r k z;
      tie = λ k z ne e. tie_at unit r f x.0 (int_eq f x.0) refl x.1 (chosen_is unit r).half d (λ v. chosen_even_too unit r x.0 v d) k z ne e;
    }

-- ---- there is one nearest half

half_from_pos : (unit n : ℕ) (a : ℤ) → IsNearestHalf unit (pos n) a → (x : ℕ) × (a ≡ pos x) × IsNearest unit n x
half_from_pos unit n (pos x) h = (
  x,
  refl,
  record {
    size = h.half;
    nearest = λ k z. (let d : unsigned_abs (pos n -ℤ pos x) ≤ unsigned_abs (pos n -ℤ pos k) = h.nearest (pos k) z in omega (arith, ints, d));
    tie = λ k z ne e. h.tie (pos k) z (λ q. ne (omega (arith, ints, q))) (omega (arith, ints, e));
  },
)
half_from_pos unit n (negsuc x) h = absurd (let d : unsigned_abs (pos n -ℤ negsuc x) ≤ unsigned_abs (pos n -ℤ pos 0) = h.nearest (pos 0) (size_zero unit) in omega (arith, ints, d))

half_from_neg : (unit n : ℕ) (a : ℤ) → IsNearestHalf unit (negsuc n) a → (x : ℕ) × (a ≡ neg_ℤ (pos x)) × IsNearest unit (suc n) x
half_from_neg unit n (pos zero) h = (
  0,
  refl,
  record {
    size = h.half;
    nearest = λ k z. (let d : unsigned_abs (negsuc n -ℤ pos 0) ≤ unsigned_abs (negsuc n -ℤ neg_ℤ (pos k)) = h.nearest (neg_ℤ (pos k)) (subst (IsSize unit) (sym (abs_pos_neg k)) z) in omega (arith, ints, d));
    tie = λ k z ne e. h.tie (neg_ℤ (pos k)) (subst (IsSize unit) (sym (abs_pos_neg k)) z) (λ q. ne (omega (arith, ints, q))) (omega (arith, ints, e));
  },
)
half_from_neg unit n (pos (suc x)) h = absurd (let d : unsigned_abs (negsuc n -ℤ pos (suc x)) ≤ unsigned_abs (negsuc n -ℤ pos 0) = h.nearest (pos 0) (size_zero unit) in omega (arith, ints, d))
half_from_neg unit n (negsuc x) h = (
  suc x,
  refl,
  record {
    size = h.half;
    nearest = λ k z. (let d : unsigned_abs (negsuc n -ℤ negsuc x) ≤ unsigned_abs (negsuc n -ℤ neg_ℤ (pos k)) = h.nearest (neg_ℤ (pos k)) (subst (IsSize unit) (sym (abs_pos_neg k)) z) in omega (arith, ints, d));
    tie = λ k z ne e. h.tie (neg_ℤ (pos k)) (subst (IsSize unit) (sym (abs_pos_neg k)) z) (λ q. ne (omega (arith, ints, q))) (omega (arith, ints, e));
  },
)

pub half_unique : (unit : ℕ) (r a b : ℤ) → 0 < unit → IsNearestHalf unit r a → IsNearestHalf unit r b → a ≡ b
half_unique unit (pos n) a b some h k =
    let x : (x : ℕ) × (a ≡ pos x) × IsNearest unit n x = half_from_pos unit n a h in
    let y : (y : ℕ) × (b ≡ pos y) × IsNearest unit n y = half_from_pos unit n b k in
    x.1 ∙ ap pos (nearest_unique unit n x.0 y.0 some x.2 y.2) ∙ sym y.1
half_unique unit (negsuc n) a b some h k =
    let x : (x : ℕ) × (a ≡ neg_ℤ (pos x)) × IsNearest unit (suc n) x = half_from_neg unit n a h in
    let y : (y : ℕ) × (b ≡ neg_ℤ (pos y)) × IsNearest unit (suc n) y = half_from_neg unit n b k in
    x.1 ∙ ap (λ (z : ℕ). neg_ℤ (pos z)) (nearest_unique unit (suc n) x.0 y.0 some x.2 y.2) ∙ sym y.1

-- ---- laws

unit_some : (F : ℕ) → 0 < half_unit F
unit_some F = pow_pos (F - 24)

pub half_nearest : (F : ℕ) (r : ℤ) → IsNearestHalf (half_unit F) r (half F r)
unfolding half chosen_half
half_nearest F r = chosen_nearest (half_unit F) r (unit_some F)

-- the nearest half is the one of the definition
pub half_is : (F : ℕ) (r h : ℤ) → IsNearestHalf (half_unit F) r h → h ≡ half F r
half_is F r h x = half_unique (half_unit F) r h (half F r) (unit_some F) x (half_nearest F r)

pub nearest_law : HalfIsNearest
nearest_law F r = (half_nearest F r, half_is F r)

pub keeps_law : HalfKeeps
keeps_law F h z =
    sym (half_is F h h (record {
      half = z;
      nearest = λ k w. omega (arith, ints);
      tie = λ k w ne e. absurd (ne (omega (arith, ints, e)));
    }))

-- of two halves the lesser is not the nearest to the greater number alone
apart : (a b x y : ℤ) → a ≤ℤ b → unsigned_abs (a -ℤ x) ≤ unsigned_abs (a -ℤ y) → unsigned_abs (b -ℤ y) ≤ unsigned_abs (b -ℤ x) → y <ℤ x → a ≡ b
apart a b x y h p q lt = omega (arith, ints)

pub grows_law : HalfGrows
grows_law F a b h =
    let x : IsNearestHalf (half_unit F) a (half F a) = half_nearest F a in
    let y : IsNearestHalf (half_unit F) b (half F b) = half_nearest F b in
    by_lt_z {P = half F a ≤ℤ half F b} (half F b) (half F a)
    (λ lt. let e : a ≡ b = apart a b (half F a) (half F b) h (x.nearest (half F b) y.half) (y.nearest (half F a) x.half) lt in let f : half F a ≡ half F b = ap (half F) e in omega (arith, ints))
    (λ le. le)

-- the half of a half
pub half_again : (F : ℕ) (r : ℤ) → half F (half F r) ≡ half F r
half_again F r = keeps_law F (half F r) (half_nearest F r).half
