-- How a spelling is cut into its parts.
use Rattle.std.proofs.Common.{◌≡◌, ℕ, ℤ, pos, suc, ◌+◌, ◌-◌, ◌<◌, ◌≤◌, ◌⊎◌, inl, inr, Bool, true, false, cond, if◌then◌else◌, ◌==◌, List, [], ◌∷◌, ◌++◌, length, take, drop, get_or, Option, Some, None, MatchOption, All, refl, ap, sym, subst, ◌∙◌, ◌^◌, unsigned_abs, lit<, arith}
use Rattle.std.proofs.lemmas.Bool.{eq-eqb, eqb-true, false≢true, cases_lt}
use Rattle.std.proofs.lemmas.Bool.Decides.{nat_tests}
use Rattle.std.proofs.lemmas.List.{get_or-take, append-nil, take-append-drop}
use Rattle.std.proofs.lemmas.List.Elements.{All-from_get_or, All-append}
use Rattle.std.proofs.lemmas.List.Folds.{length-prefix_len, prefix_len-append}
use Rattle.std.proofs.lemmas.List.Sums.{prefix_len_is, prefix_len_passes, prefix_len_stops, prefix_len-drop_no, prefix_len-drop_all}
use Rattle.std.proofs.Math.Seq.{take-append_seam, drop-append_seam, take-length}
use Rattle.std.specs.List.{prefix_len}
use Rattle.std.specs.Char.{is_ascii_digit}
use Rattle.fix_num.specs.Decimal.{IsDigit, Decimal, Spells, SpellsSign, SpellsPower, SpellsExponent, signed, number, number_from, digits_of, exponent_or_zero}
use Rattle.fix_num.specs.Cutting.{is_negative, after_sign, digits_in_front, after_digits, after_point, Says}
use Rattle.std.proofs.lemmas.Int.{ints}
use Rattle.fix_num.proofs.Number.{few_small, number_joined}

-- ---- digits

digit_yes : (b : ℕ) → IsDigit b → is_ascii_digit b ≡ true
digit_yes b h = let l : 48 ≤ b = h.0 in let k : b ≤ 57 = h.1 in grind (arith, nat_tests)

digit_is : (b : ℕ) → is_ascii_digit b ≡ true → IsDigit b
digit_is b e = (grind (arith, nat_tests), grind (arith, nat_tests))

pub front_digits : (text : List ℕ) → All IsDigit (digits_in_front text)
front_digits text =
    All-from_get_or IsDigit (digits_in_front text) 0 (λ k h.
    let l : k < prefix_len is_ascii_digit text = omega (arith, length-prefix_len is_ascii_digit text) in
    subst IsDigit (sym (get_or-take (prefix_len is_ascii_digit text) text k 0 l)) (digit_is _ (prefix_len_passes is_ascii_digit text k 0 l)))

pub rest_stops : (text : List ℕ) → prefix_len is_ascii_digit (after_digits text) ≡ 0
rest_stops text =
    elim (cases_lt (prefix_len is_ascii_digit text) (length text)) [
      | inl lt ↦ prefix_len-drop_no is_ascii_digit text (prefix_len is_ascii_digit text) 0 lt (prefix_len_stops is_ascii_digit text 0 lt)
      | inr le ↦ prefix_len-drop_all is_ascii_digit text (prefix_len is_ascii_digit text) le
    ]

-- digits that no digit follows are the digits in front
pub run_of : (a r : List ℕ) → All IsDigit a → prefix_len is_ascii_digit r ≡ 0 → (digits_in_front (a ++ r) ≡ a) × (after_digits (a ++ r) ≡ r)
run_of a r h z =
    let e : prefix_len is_ascii_digit a ≡ length a = prefix_len_is is_ascii_digit a (length a) 0 (omega arith) (λ k l. digit_yes (get_or a k 0) (h k 0 l)) (λ l. absurd (omega arith)) in
    let n : prefix_len is_ascii_digit (a ++ r) ≡ length a =
    prefix_len-append is_ascii_digit a r ∙ ap (λ (t : Bool). cond t (length a + prefix_len is_ascii_digit r) (prefix_len is_ascii_digit a)) (eq-eqb _ _ e) ∙ (omega arith) in
    (ap (λ (m : ℕ). take m (a ++ r)) n ∙ take-append_seam a r, ap (λ (m : ℕ). drop m (a ++ r)) n ∙ drop-append_seam a r)

pub front_back : (text : List ℕ) → digits_in_front text ++ after_digits text ≡ text
front_back text = take-append-drop (prefix_len is_ascii_digit text) text

-- ---- the sign

-- the sign in front
abbrev sign_in_front : List ℕ → List ℕ
sign_in_front [] = []
sign_in_front (b ∷ bytes) = cond (b == 45) (45 ∷ []) (cond (b == 43) (43 ∷ []) [])

pub record Signed (text : List ℕ) : Type 0 where
  pub sign : List ℕ
  pub joined : text ≡ sign ++ after_sign text
  pub is_sign : SpellsSign sign (is_negative text)

signed_at : (b : ℕ) (bytes : List ℕ) (t u : Bool) → (b == 45) ≡ t → (b == 43) ≡ u → Signed (b ∷ bytes)
signed_at b bytes true u e f =
    let q : b ≡ 45 = eqb-true b 45 e in
    record { sign = 45 ∷ []; joined = rw e (ap (λ (x : ℕ). x ∷ bytes) q); is_sign = inr (refl, e) }
signed_at b bytes false true e f =
    let q : b ≡ 43 = eqb-true b 43 f in
    record { sign = 43 ∷ []; joined = rw (e, f) (ap (λ (x : ℕ). x ∷ bytes) q); is_sign = inl (refl, e) }
signed_at b bytes false false e f = record { sign = []; joined = rw (e, f) refl; is_sign = e }

pub signed_text : (text : List ℕ) → Signed text
signed_text [] = record { sign = []; joined = refl; is_sign = refl }
signed_text (b ∷ bytes) = signed_at b bytes (b == 45) (b == 43) refl refl

-- no sign stands in front
record NoSign (rest : List ℕ) : Type 0 where
  pub positive : is_negative rest ≡ false
  pub all : after_sign rest ≡ rest

-- a digit or a point is no sign
no_sign : (b : ℕ) (bytes : List ℕ) → (48 ≤ b) ⊎ (b ≡ 46) → NoSign (b ∷ bytes)
no_sign b bytes h =
    let e : (b == 45) ≡ false = elim h [ inl k ↦ grind (arith, nat_tests) | inr k ↦ grind (arith, nat_tests) ] in
    let f : (b == 43) ≡ false = elim h [ inl k ↦ grind (arith, nat_tests) | inr k ↦ grind (arith, nat_tests) ] in
    record { positive = e; all = rw (e, f) refl }

-- after a sign that is spelt
pub record IsSigned (text : List ℕ) (negative : Bool) (rest : List ℕ) : Type 0 where
  pub sign_is : is_negative text ≡ negative
  pub rest_is : after_sign text ≡ rest

sign_of : (sign rest : List ℕ) (negative : Bool) → SpellsSign sign negative → NoSign rest → IsSigned (sign ++ rest) negative rest
sign_of [] rest negative h n = record { sign_is = n.positive ∙ sym h; rest_is = n.all }
sign_of (b ∷ []) rest negative (inl h) n = let q : b ≡ 43 = h.0 in record { sign_is = rw q (sym h.1); rest_is = rw q refl }
sign_of (b ∷ []) rest negative (inr h) n = let q : b ≡ 45 = h.0 in record { sign_is = rw q (sym h.1); rest_is = rw q refl }
sign_of (a ∷ b ∷ bytes) rest negative h n = absurd h

digits_no_sign : (digits rest : List ℕ) → All IsDigit digits → 0 < length digits → NoSign (digits ++ rest)
digits_no_sign [] rest h some = absurd (omega arith)
digits_no_sign (b ∷ digits) rest h some = no_sign b (digits ++ rest) (inl (h 0 0 (omega arith)).0)

-- ---- the exponent

pub record IsPower (text digits : List ℕ) (negative : Bool) : Type 0 where
  pub sign_is : is_negative text ≡ negative
  pub digits_are : digits_in_front (after_sign text) ≡ digits
  pub rest_is : after_digits (after_sign text) ≡ []

-- a text that spells a power is cut so
pub power_cut : (text : List ℕ) (z : ℤ) (h : SpellsPower text z) → IsPower text h.digits h.negative
power_cut text z h =
    let s : IsSigned (h.sign ++ h.digits) h.negative h.digits =
    sign_of h.sign h.digits h.negative h.is_sign (subst NoSign (append-nil h.digits) (digits_no_sign h.digits [] h.are_digits h.some)) in
    let r : (digits_in_front (h.digits ++ []) ≡ h.digits) × (after_digits (h.digits ++ []) ≡ []) = run_of h.digits [] h.are_digits refl in
    let e : after_sign text ≡ h.digits ++ [] = ap after_sign h.joined ∙ s.rest_is ∙ sym (append-nil h.digits) in
    record {
      sign_is = ap is_negative h.joined ∙ s.sign_is;
      digits_are = ap digits_in_front e ∙ r.0;
      rest_is = ap after_digits e ∙ r.1;
    }

nothing : {A : Type 0} (xs : List A) → length xs ≡ 0 → xs ≡ []
nothing [] h = refl
nothing (x ∷ xs) h = absurd (omega arith)

-- a text that is cut so spells a power
pub power_from : (text digits rest : List ℕ) (z : ℤ) → digits ≡ digits_in_front (after_sign text) → rest ≡ after_digits (after_sign text) → 0 < length digits → length digits ≤ 4 → length rest ≡ 0 → z ≡ signed (is_negative text) (pos (number digits)) → SpellsPower text z
power_from text digits rest z d r some few none value =
    let s : Signed text = signed_text text in
    let b : digits ++ rest ≡ after_sign text = ap (λ (x : List ℕ). x ++ rest) d ∙ ap (λ (x : List ℕ). digits_in_front (after_sign text) ++ x) r ∙ front_back (after_sign text) in
    let a : digits ≡ after_sign text = sym (append-nil digits) ∙ ap (λ (x : List ℕ). digits ++ x) (sym (nothing rest none)) ∙ b in
    record {
      negative = is_negative text;
      sign = s.sign;
      digits = digits;
      joined = s.joined ∙ ap (λ (x : List ℕ). s.sign ++ x) (sym a);
      is_sign = s.is_sign;
      are_digits = subst (All IsDigit) (sym d) (front_digits (after_sign text));
      some = some;
      few = few;
      value = value;
    }

exponent_at : (mark : ℕ) (bytes : List ℕ) (r : Option ℤ) → (mark ≡ 101) ⊎ (mark ≡ 69) →
    MatchOption r ((z : ℤ) → SpellsPower bytes z → ⊥) (λ z. SpellsPower bytes z) →
    MatchOption r ((e : Option ℤ) → SpellsExponent (mark ∷ bytes) e → ⊥) (λ z. (e : Option ℤ) × SpellsExponent (mark ∷ bytes) e × (exponent_or_zero e ≡ z))
exponent_at mark bytes None m h = λ e. none_at e
  where
    none_at : (e : Option ℤ) → SpellsExponent (mark ∷ bytes) e → ⊥
    none_at None x = x
    none_at (Some z) x = h z x.1
exponent_at mark bytes (Some z) m h = (Some z, (m, h), refl)

-- what is read after e or E
pub exponent_after : (text : List ℕ) (r : Option ℤ) → 1 ≤ length text → (get_or text 0 0 ≡ 101) ⊎ (get_or text 0 0 ≡ 69) →
    MatchOption r ((z : ℤ) → SpellsPower (take (length text - 1) (drop 1 text)) z → ⊥) (λ z. SpellsPower (take (length text - 1) (drop 1 text)) z) →
    MatchOption r ((e : Option ℤ) → SpellsExponent text e → ⊥) (λ z. (e : Option ℤ) × SpellsExponent text e × (exponent_or_zero e ≡ z))
exponent_after [] r some m h = absurd (omega arith)
exponent_after (mark ∷ bytes) r some m h =
    let e : suc (length bytes) - 1 ≡ length bytes = omega arith in
    let t : take (suc (length bytes) - 1) bytes ≡ bytes = ap (λ (k : ℕ). take k bytes) e ∙ take-length bytes in
    exponent_at mark bytes r m (subst (λ (x : List ℕ). MatchOption r ((z : ℤ) → SpellsPower x z → ⊥) (λ z. SpellsPower x z)) t h)

-- ---- the whole spelling

-- whether a point stands in front
abbrev pub has_point : List ℕ → Bool
has_point [] = false
has_point (b ∷ bytes) = b == 46

-- a point with digits, or nothing, and an exponent
abbrev pub tail : Bool → List ℕ → List ℕ → List ℕ
tail point part scale = (if point then 46 ∷ part else []) ++ scale

-- no digit and no point stands in front of an exponent
record Stops (rest : List ℕ) : Type 0 where
  pub digits : prefix_len is_ascii_digit rest ≡ 0
  pub point : has_point rest ≡ false
  pub all : after_point rest ≡ rest

exponent_stops : (scale : List ℕ) (e : Option ℤ) → SpellsExponent scale e → Stops scale
exponent_stops [] e h = record { digits = refl; point = refl; all = refl }
exponent_stops (mark ∷ bytes) None h = absurd h
exponent_stops (mark ∷ bytes) (Some power) h =
    elim h.0 [
      | inl q ↦ record { digits = rw q refl; point = rw q refl; all = rw q refl }
      | inr q ↦ record { digits = rw q refl; point = rw q refl; all = rw q refl }
    ]

record IsTail (point : Bool) (part scale rest : List ℕ) : Type 0 where
  pub digits : prefix_len is_ascii_digit rest ≡ 0
  pub point_is : has_point rest ≡ point
  pub after : after_point rest ≡ part ++ scale

tail_is : (point : Bool) (part scale : List ℕ) → (point ≡ false → part ≡ []) → Stops scale → IsTail point part scale (tail point part scale)
tail_is true part scale pointed s = record { digits = refl; point_is = refl; after = refl }
tail_is false part scale pointed s = record { digits = s.digits; point_is = s.point; after = s.all ∙ ap (λ (x : List ℕ). x ++ scale) (sym (pointed refl)) }

spelt_no_sign : (whole : List ℕ) (point : Bool) (part scale : List ℕ) → All IsDigit whole → (point ≡ false → part ≡ []) → 0 < length whole + length part → NoSign (whole ++ tail point part scale)
spelt_no_sign [] true part scale a pointed some = no_sign 46 (part ++ scale) (inr refl)
spelt_no_sign [] false part scale a pointed some = absurd (let e : length part ≡ 0 = ap length (pointed refl) in omega arith)
spelt_no_sign (b ∷ whole) point part scale a pointed some = digits_no_sign (b ∷ whole) (tail point part scale) a (omega arith)

-- the parts that a text is cut into
pub record IsCut (text whole part scale : List ℕ) (negative point : Bool) : Type 0 where
  pub sign_is : is_negative text ≡ negative
  pub whole_is : digits_in_front (after_sign text) ≡ whole
  pub point_is : has_point (after_digits (after_sign text)) ≡ point
  pub part_is : digits_in_front (after_point (after_digits (after_sign text))) ≡ part
  pub scale_is : after_digits (after_point (after_digits (after_sign text))) ≡ scale

-- a text that spells a number is cut so
pub spelt_cut : (text : List ℕ) (d : Decimal) (h : Spells text d) → IsCut text d.whole d.part h.scale d.negative d.point
spelt_cut text d h =
    let stops : Stops h.scale = exponent_stops h.scale d.exponent h.is_scale in
    let t : IsTail d.point d.part h.scale (tail d.point d.part h.scale) = tail_is d.point d.part h.scale h.pointed stops in
    let s : IsSigned (h.sign ++ (d.whole ++ tail d.point d.part h.scale)) d.negative (d.whole ++ tail d.point d.part h.scale) =
    sign_of h.sign (d.whole ++ tail d.point d.part h.scale) d.negative h.is_sign (spelt_no_sign d.whole d.point d.part h.scale h.whole_digits h.pointed h.some) in
    let u : after_sign text ≡ d.whole ++ tail d.point d.part h.scale = ap after_sign h.joined ∙ s.rest_is in
    let w : (digits_in_front (d.whole ++ tail d.point d.part h.scale) ≡ d.whole) × (after_digits (d.whole ++ tail d.point d.part h.scale) ≡ tail d.point d.part h.scale) = run_of d.whole (tail d.point d.part h.scale) h.whole_digits t.digits in
    let r : after_digits (after_sign text) ≡ tail d.point d.part h.scale = ap after_digits u ∙ w.1 in
    let a : after_point (after_digits (after_sign text)) ≡ d.part ++ h.scale = ap after_point r ∙ t.after in
    let p : (digits_in_front (d.part ++ h.scale) ≡ d.part) × (after_digits (d.part ++ h.scale) ≡ h.scale) = run_of d.part h.scale h.part_digits stops.digits in
    record {
      sign_is = ap is_negative h.joined ∙ s.sign_is;
      whole_is = ap digits_in_front u ∙ w.0;
      point_is = ap has_point r ∙ t.point_is;
      part_is = ap digits_in_front a ∙ p.0;
      scale_is = ap after_digits a ∙ p.1;
    }

record Pointed (rest part scale : List ℕ) : Type 0 where
  pub joined : rest ≡ tail (has_point rest) part scale
  pub pointed : has_point rest ≡ false → part ≡ []

pointed_at : (b : ℕ) (bytes : List ℕ) (t : Bool) → (b == 46) ≡ t → prefix_len is_ascii_digit (b ∷ bytes) ≡ 0 → Pointed (b ∷ bytes) (digits_in_front (after_point (b ∷ bytes))) (after_digits (after_point (b ∷ bytes)))
pointed_at b bytes true e z =
    let q : b ≡ 46 = eqb-true b 46 e in
    record {
      joined = rw e (ap (λ (x : ℕ). x ∷ bytes) q ∙ ap (λ (x : List ℕ). 46 ∷ x) (sym (front_back bytes)));
      pointed = λ f. absurd (false≢true (sym f ∙ e));
    }
pointed_at b bytes false e z =
    record {
      joined = rw e (sym (ap (λ (m : ℕ). drop m (b ∷ bytes)) z));
      pointed = λ f. rw e (ap (λ (m : ℕ). take m (b ∷ bytes)) z);
    }

pointed_text : (rest : List ℕ) → prefix_len is_ascii_digit rest ≡ 0 → Pointed rest (digits_in_front (after_point rest)) (after_digits (after_point rest))
pointed_text [] z = record { joined = refl; pointed = λ f. refl }
pointed_text (b ∷ bytes) z = pointed_at b bytes (b == 46) refl z

-- a text that is cut so, and has a digit and an exponent, spells a number
pub spelt_from : (text : List ℕ) (e : Option ℤ) →
    0 < length (digits_in_front (after_sign text)) + length (digits_in_front (after_point (after_digits (after_sign text)))) →
    SpellsExponent (after_digits (after_point (after_digits (after_sign text)))) e →
    Spells text (record { negative = is_negative text; whole = digits_in_front (after_sign text); point = has_point (after_digits (after_sign text)); part = digits_in_front (after_point (after_digits (after_sign text))); exponent = e })
spelt_from text e some scaled =
    let s : Signed text = signed_text text in
    let rest : List ℕ = after_digits (after_sign text) in
    let p : Pointed rest (digits_in_front (after_point rest)) (after_digits (after_point rest)) = pointed_text rest (rest_stops (after_sign text)) in
    record {
      sign = s.sign;
      scale = after_digits (after_point rest);
      joined = s.joined ∙ ap (λ (x : List ℕ). s.sign ++ x) (sym (front_back (after_sign text)) ∙ ap (λ (x : List ℕ). digits_in_front (after_sign text) ++ x) p.joined);
      is_sign = s.is_sign;
      whole_digits = front_digits (after_sign text);
      part_digits = front_digits (after_point rest);
      pointed = p.pointed;
      some = some;
      is_scale = scaled;
    }

-- ---- one text spells one number

power_unique : (text : List ℕ) (y z : ℤ) → SpellsPower text y → SpellsPower text z → y ≡ z
power_unique text y z h k =
    let a : IsPower text h.digits h.negative = power_cut text y h in
    let b : IsPower text k.digits k.negative = power_cut text z k in
    let d : h.digits ≡ k.digits = sym a.digits_are ∙ b.digits_are in
    let n : h.negative ≡ k.negative = sym a.sign_is ∙ b.sign_is in
    h.value ∙ ap (λ (x : List ℕ). signed h.negative (pos (number x))) d ∙ ap (λ (x : Bool). signed x (pos (number k.digits))) n ∙ sym k.value

exponent_unique : (scale : List ℕ) (e f : Option ℤ) → SpellsExponent scale e → SpellsExponent scale f → e ≡ f
exponent_unique [] e f h k = h ∙ sym k
exponent_unique (mark ∷ bytes) None f h k = absurd h
exponent_unique (mark ∷ bytes) (Some y) None h k = absurd k
exponent_unique (mark ∷ bytes) (Some y) (Some z) h k = ap Some (power_unique bytes y z h.1 k.1)

abbrev the_decimal : Bool → List ℕ → Bool → List ℕ → Option ℤ → Decimal
the_decimal negative whole point part exponent = record { negative = negative; whole = whole; point = point; part = part; exponent = exponent }

decimal_same : (d e : Decimal) → d.negative ≡ e.negative → d.whole ≡ e.whole → d.point ≡ e.point → d.part ≡ e.part → d.exponent ≡ e.exponent → d ≡ e
decimal_same d e n w p q x =
    ap (λ (y : Bool). the_decimal y d.whole d.point d.part d.exponent) n
    ∙ ap (λ (y : List ℕ). the_decimal e.negative y d.point d.part d.exponent) w
    ∙ ap (λ (y : Bool). the_decimal e.negative e.whole y d.part d.exponent) p
    ∙ ap (λ (y : List ℕ). the_decimal e.negative e.whole e.point y d.exponent) q
    ∙ ap (λ (y : Option ℤ). the_decimal e.negative e.whole e.point e.part y) x

pub spelt_once : (text : List ℕ) (d e : Decimal) → Spells text d → Spells text e → d ≡ e
spelt_once text d e h k =
    let a : IsCut text d.whole d.part h.scale d.negative d.point = spelt_cut text d h in
    let b : IsCut text e.whole e.part k.scale e.negative e.point = spelt_cut text e k in
    let s : h.scale ≡ k.scale = sym a.scale_is ∙ b.scale_is in
    decimal_same d e (sym a.sign_is ∙ b.sign_is) (sym a.whole_is ∙ b.whole_is) (sym a.point_is ∙ b.point_is) (sym a.part_is ∙ b.part_is)
    (exponent_unique k.scale d.exponent e.exponent (subst (λ (x : List ℕ). SpellsExponent x d.exponent) s h.is_scale) k.is_scale)

-- ---- an exponent is small

power_small : (text : List ℕ) (z : ℤ) → SpellsPower text z → unsigned_abs z < 10 ^ 4
power_small text z h = let n : number h.digits < 10 ^ 4 = few_small h.digits h.are_digits h.few in rw h.value (at h.negative (number h.digits) n)
  where
    at : (negative : Bool) (n : ℕ) → n < 10 ^ 4 → unsigned_abs (signed negative (pos n)) < 10 ^ 4
    at true n small = omega (arith, ints)
    at false n small = small

pub exponent_small : (scale : List ℕ) (e : Option ℤ) → SpellsExponent scale e → unsigned_abs (exponent_or_zero e) < 10 ^ 4
exponent_small [] e h = rw h (lit< tt)
exponent_small (mark ∷ bytes) None h = absurd h
exponent_small (mark ∷ bytes) (Some z) h = power_small bytes z h.1

pub says_small : (text : List ℕ) (negative : Bool) (whole part : List ℕ) (exponent : ℤ) → Says text negative whole part exponent → unsigned_abs exponent < 10 ^ 4
says_small text negative whole part exponent h = rw (← h.is_exponent) (exponent_small h.spelt.scale h.decimal.exponent h.spelt.is_scale)

-- the number and the digits of what is said
pub said_number : (text : List ℕ) (negative : Bool) (whole part : List ℕ) (exponent : ℤ) (s : Says text negative whole part exponent) → number_from (number whole) part ≡ number (digits_of s.decimal)
said_number text negative whole part exponent s =
    number_joined whole part ∙ ap (λ (x : List ℕ). number (x ++ part)) (sym s.is_whole) ∙ ap (λ (x : List ℕ). number (s.decimal.whole ++ x)) (sym s.is_part)

pub said_digits : (text : List ℕ) (d : Decimal) → Spells text d → All IsDigit (digits_of d)
said_digits text d h = All-append IsDigit d.whole d.part h.whole_digits h.part_digits
