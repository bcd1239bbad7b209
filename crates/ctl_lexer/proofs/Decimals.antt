-- Whether a text spells a decimal number is decided from the front.
use Rattle.std.proofs.Common.{◌≡◌, ℕ, ℤ, pos, ◌+◌, ◌<◌, ◌≤◌, ◌⊎◌, inl, inr, Bool, true, false, ◌&&◌, ◌||◌, cond, eqb, List, [], ◌∷◌, ◌++◌, length, Option, Some, None, All, refl, ap, sym, ◌∙◌, arith}
use Rattle.std.specs.Prelude.{nat_le}
use Rattle.std.proofs.lemmas.Bool.{cases_Bool, false≢true, and_parts, and_from, eqb-true}
use Rattle.std.proofs.lemmas.Bool.Decides.{nat_tests}
use Rattle.std.proofs.lemmas.List.Elements.{All-nil, All-cons, All-head, All-tail}
use Rattle.fix_num.specs.Decimal.{IsDigit, Decimal, Spells, SpellsSign, SpellsPower, SpellsExponent, signed, number}
use Rattle.ctl_tree.specs.TokenBytes.{is_digit}

-- digits

digit_yes : (b : ℕ) → IsDigit b → is_digit b ≡ true
digit_yes b h = let low = h.0 in let high = h.1 in grind (arith, nat_tests)

digit_is : (b : ℕ) → is_digit b ≡ true → IsDigit b
digit_is b e = (grind (arith, nat_tests), grind (arith, nat_tests))

pub are_digits : List ℕ → Bool
are_digits [] = true
are_digits (b ∷ bytes) = is_digit b && are_digits bytes

pub digits_yes : (bytes : List ℕ) → All IsDigit bytes → are_digits bytes ≡ true
unfolding are_digits
digits_yes [] h = refl
digits_yes (b ∷ bytes) h = and_from _ _ (digit_yes b (All-head IsDigit b bytes h)) (digits_yes bytes (All-tail IsDigit b bytes h))

pub digits_are : (bytes : List ℕ) → are_digits bytes ≡ true → All IsDigit bytes
unfolding are_digits
digits_are [] h = All-nil IsDigit
digits_are (b ∷ bytes) h = let both = and_parts _ _ h in All-cons IsDigit b bytes (digit_is b both.0) (digits_are bytes both.1)

-- the digits of an exponent

is_sign : ℕ → Bool
is_sign b = eqb b 43 || eqb b 45

few_digits : List ℕ → Bool
few_digits bytes = are_digits bytes && (nat_le 1 (length bytes) && nat_le (length bytes) 4)

few_yes : (bytes : List ℕ) → All IsDigit bytes → 0 < length bytes → length bytes ≤ 4 → few_digits bytes ≡ true
unfolding few_digits
few_yes bytes h some few =
    let low : nat_le 1 (length bytes) ≡ true = grind (arith, nat_tests) in
    let high : nat_le (length bytes) 4 ≡ true = grind (arith, nat_tests) in
    and_from (are_digits bytes) (nat_le 1 (length bytes) && nat_le (length bytes) 4) (digits_yes bytes h) (and_from (nat_le 1 (length bytes)) (nat_le (length bytes) 4) low high)

few_some : (bytes : List ℕ) → few_digits bytes ≡ true → 0 < length bytes
unfolding few_digits
few_some bytes h = let k : nat_le 1 (length bytes) ≡ true = (and_parts _ _ (and_parts (are_digits bytes) (nat_le 1 (length bytes) && nat_le (length bytes) 4) h).1).0 in grind (arith, nat_tests)

few_few : (bytes : List ℕ) → few_digits bytes ≡ true → length bytes ≤ 4
unfolding few_digits
few_few bytes h = let k : nat_le (length bytes) 4 ≡ true = (and_parts _ _ (and_parts (are_digits bytes) (nat_le 1 (length bytes) && nat_le (length bytes) 4) h).1).1 in grind (arith, nat_tests)

few_are : (bytes : List ℕ) → few_digits bytes ≡ true → All IsDigit bytes
unfolding few_digits
few_are bytes h = digits_are bytes (and_parts (are_digits bytes) (nat_le 1 (length bytes) && nat_le (length bytes) 4) h).0

-- an optional sign and one to four digits
is_power : List ℕ → Bool
is_power [] = false
is_power (b ∷ bytes) = cond (is_sign b) (few_digits bytes) (few_digits (b ∷ bytes))

spelt_sign : (b : ℕ) → is_sign b ≡ true → (negative : Bool) × SpellsSign (b ∷ []) negative
unfolding is_sign
spelt_sign b h = elim (cases_Bool (eqb b 43)) [
  | inl plus ↦ (false, inl (eqb-true b 43 plus, refl))
  | inr no_plus ↦
      let minus : eqb b 45 ≡ true = rw no_plus at h in
      (true, inr (eqb-true b 45 minus, refl))
]

power_digits : (bytes : List ℕ) → few_digits bytes ≡ true → SpellsPower bytes (pos (number bytes))
power_digits bytes h = record { negative = false; sign = []; digits = bytes; joined = refl; is_sign = refl; are_digits = few_are bytes h; some = few_some bytes h; few = few_few bytes h; value = refl }

power_is : (bytes : List ℕ) → is_power bytes ≡ true → (power : ℤ) × SpellsPower bytes power
unfolding is_power
power_is [] h = absurd (false≢true h)
power_is (b ∷ bytes) h = elim (cases_Bool (is_sign b)) [
  | inl sign ↦
      let digits : few_digits bytes ≡ true = rw sign at h in
      let spelt = spelt_sign b sign in
      (signed spelt.0 (pos (number bytes)), record { negative = spelt.0; sign = b ∷ []; digits = bytes; joined = refl; is_sign = spelt.1; are_digits = few_are bytes digits; some = few_some bytes digits; few = few_few bytes digits; value = refl })
  | inr no_sign ↦
      let digits : few_digits (b ∷ bytes) ≡ true = rw no_sign at h in
      (pos (number (b ∷ bytes)), power_digits (b ∷ bytes) digits)
]

digit_no_sign : (b : ℕ) → IsDigit b → is_sign b ≡ false
unfolding is_sign
digit_no_sign b h = let low = h.0 in let high = h.1 in grind (arith, nat_tests)

parts_power : (sign digits : List ℕ) (negative : Bool) → SpellsSign sign negative → All IsDigit digits → 0 < length digits → length digits ≤ 4 → is_power (sign ++ digits) ≡ true
unfolding is_power is_sign
parts_power [] [] negative s h some few = absurd (omega arith)
parts_power [] (b ∷ digits) negative s h some few = rw (digit_no_sign b (All-head IsDigit b digits h)) (few_yes (b ∷ digits) h some few)
parts_power (b ∷ []) digits negative (inl plus) h some few = rw plus.0 (few_yes digits h some few)
parts_power (b ∷ []) digits negative (inr minus) h some few = rw minus.0 (few_yes digits h some few)
parts_power (a ∷ b ∷ sign) digits negative s h some few = absurd s

power_yes : (bytes : List ℕ) (power : ℤ) → SpellsPower bytes power → is_power bytes ≡ true
power_yes bytes power h = ap is_power h.joined ∙ parts_power h.sign h.digits h.negative h.is_sign h.are_digits h.some h.few

-- nothing, or e or E and a power
is_scale : List ℕ → Bool
is_scale [] = true
is_scale (mark ∷ bytes) = (eqb mark 101 || eqb mark 69) && is_power bytes

scale_is : (bytes : List ℕ) → is_scale bytes ≡ true → (exponent : Option ℤ) × SpellsExponent bytes exponent
unfolding is_scale
scale_is [] h = let none : Option ℤ = None in (none, refl)
scale_is (mark ∷ bytes) h =
    let both = and_parts (eqb mark 101 || eqb mark 69) (is_power bytes) h in
    let power = power_is bytes both.1 in
    elim (cases_Bool (eqb mark 101)) [
      | inl low ↦ (Some power.0, (inl (eqb-true mark 101 low), power.1))
      | inr no_low ↦
          let marked : (eqb mark 101 || eqb mark 69) ≡ true = both.0 in
          let high : eqb mark 69 ≡ true = rw no_low at marked in
          (Some power.0, (inr (eqb-true mark 69 high), power.1))
    ]

mark_yes : (mark : ℕ) → (mark ≡ 101) ⊎ (mark ≡ 69) → (eqb mark 101 || eqb mark 69) ≡ true
mark_yes mark (inl e) = rw e refl
mark_yes mark (inr e) = rw e refl

mark_no_digit : (mark : ℕ) → (mark ≡ 101) ⊎ (mark ≡ 69) → is_digit mark ≡ false
mark_no_digit mark (inl e) = rw e refl
mark_no_digit mark (inr e) = rw e refl

mark_no_point : (mark : ℕ) → (mark ≡ 101) ⊎ (mark ≡ 69) → eqb mark 46 ≡ false
mark_no_point mark (inl e) = rw e refl
mark_no_point mark (inr e) = rw e refl

scale_yes : (bytes : List ℕ) (exponent : Option ℤ) → SpellsExponent bytes exponent → is_scale bytes ≡ true
unfolding is_scale
scale_yes [] exponent h = refl
scale_yes (mark ∷ bytes) None h = absurd h
scale_yes (mark ∷ bytes) (Some power) h = and_from _ _ (mark_yes mark h.0) (power_yes bytes power h.1)

-- what follows a point, where some digit stood before or does here
ends_part : Bool → List ℕ → Bool
ends_part some [] = some
ends_part some (b ∷ bytes) = cond (is_digit b) (ends_part true bytes) (some && is_scale (b ∷ bytes))

record Part (some : Bool) (bytes : List ℕ) : Type 0 where
  pub part : List ℕ
  pub scale : List ℕ
  pub exponent : Option ℤ
  pub joined : bytes ≡ part ++ scale
  pub digits : All IsDigit part
  pub scaled : SpellsExponent scale exponent
  pub enough : some ≡ false → 0 < length part

part_is : (some : Bool) (bytes : List ℕ) → ends_part some bytes ≡ true → Part some bytes
unfolding ends_part
part_is some [] h = record { part = []; scale = []; exponent = None; joined = refl; digits = All-nil IsDigit; scaled = refl; enough = λ none. absurd (false≢true (sym none ∙ h)) }
part_is some (b ∷ bytes) h = elim (cases_Bool (is_digit b)) [
  | inl digit ↦
      let rest = part_is true bytes (rw digit at h) in
      record { part = b ∷ rest.part; scale = rest.scale; exponent = rest.exponent; joined = ap (λ ts. b ∷ ts) rest.joined; digits = All-cons IsDigit b rest.part (digit_is b digit) rest.digits; scaled = rest.scaled; enough = λ none. omega arith }
  | inr no_digit ↦
      let both : (some && is_scale (b ∷ bytes)) ≡ true = rw no_digit at h in
      let parts = and_parts _ _ both in
      let scale = scale_is (b ∷ bytes) parts.1 in
      record { part = []; scale = b ∷ bytes; exponent = scale.0; joined = refl; digits = All-nil IsDigit; scaled = scale.1; enough = λ none. absurd (false≢true (sym none ∙ parts.0)) }
]

part_yes : (some : Bool) (digits scale : List ℕ) (exponent : Option ℤ) → All IsDigit digits → SpellsExponent scale exponent → (some ≡ false → 0 < length digits) → ends_part some (digits ++ scale) ≡ true
unfolding ends_part
part_yes true [] [] exponent h s enough = refl
part_yes false [] [] exponent h s enough = absurd (let k = enough refl in omega arith)
part_yes some [] (mark ∷ scale) None h s enough = absurd s
part_yes true [] (mark ∷ scale) (Some power) h s enough = rw (mark_no_digit mark s.0) (scale_yes (mark ∷ scale) (Some power) s)
part_yes false [] (mark ∷ scale) (Some power) h s enough = absurd (let k = enough refl in omega arith)
part_yes some (b ∷ digits) scale exponent h s enough =
    rw (digit_yes b (All-head IsDigit b digits h)) (part_yes true digits scale exponent (All-tail IsDigit b digits h) s (λ none. absurd (false≢true (sym none))))

-- what follows a sign, where some digit stood before or does here
ends_whole : Bool → List ℕ → Bool
ends_whole some [] = some
ends_whole some (b ∷ bytes) = cond (is_digit b) (ends_whole true bytes) (cond (eqb b 46) (ends_part some bytes) (some && is_scale (b ∷ bytes)))

-- a point with digits, or nothing
abbrev behind : Bool → List ℕ → List ℕ
behind point part = cond point (46 ∷ part) []

record Unsigned (some : Bool) (bytes : List ℕ) : Type 0 where
  pub whole : List ℕ
  pub point : Bool
  pub part : List ℕ
  pub scale : List ℕ
  pub exponent : Option ℤ
  pub joined : bytes ≡ whole ++ (behind point part ++ scale)
  pub whole_digits : All IsDigit whole
  pub part_digits : All IsDigit part
  pub pointed : point ≡ false → part ≡ []
  pub scaled : SpellsExponent scale exponent
  pub enough : some ≡ false → 0 < length whole + length part

unsigned_is : (some : Bool) (bytes : List ℕ) → ends_whole some bytes ≡ true → Unsigned some bytes
unfolding ends_whole
unsigned_is some [] h = record { whole = []; point = false; part = []; scale = []; exponent = None; joined = refl; whole_digits = All-nil IsDigit; part_digits = All-nil IsDigit; pointed = λ e. refl; scaled = refl; enough = λ none. absurd (false≢true (sym none ∙ h)) }
unsigned_is some (b ∷ bytes) h = elim (cases_Bool (is_digit b)) [
  | inl digit ↦
      let rest = unsigned_is true bytes (rw digit at h) in
      record { whole = b ∷ rest.whole; point = rest.point; part = rest.part; scale = rest.scale; exponent = rest.exponent; joined = ap (λ ts. b ∷ ts) rest.joined; whole_digits = All-cons IsDigit b rest.whole (digit_is b digit) rest.whole_digits; part_digits = rest.part_digits; pointed = rest.pointed; scaled = rest.scaled; enough = λ none. omega arith }
  | inr no_digit ↦ elim (cases_Bool (eqb b 46)) [
    | inl point ↦
        let rest = part_is some bytes (rw (no_digit, point) at h) in
        record { whole = []; point = true; part = rest.part; scale = rest.scale; exponent = rest.exponent; joined = ap (λ k. k ∷ bytes) (eqb-true b 46 point) ∙ ap (λ ts. 46 ∷ ts) rest.joined; whole_digits = All-nil IsDigit; part_digits = rest.digits; pointed = λ e. absurd (false≢true (sym e)); scaled = rest.scaled; enough = λ none. let k = rest.enough none in omega arith }
    | inr no_point ↦
        let both : (some && is_scale (b ∷ bytes)) ≡ true = rw (no_digit, no_point) at h in
        let parts = and_parts _ _ both in
        let scale = scale_is (b ∷ bytes) parts.1 in
        record { whole = []; point = false; part = []; scale = b ∷ bytes; exponent = scale.0; joined = refl; whole_digits = All-nil IsDigit; part_digits = All-nil IsDigit; pointed = λ e. refl; scaled = scale.1; enough = λ none. absurd (false≢true (sym none ∙ parts.0)) }
  ]
]

unsigned_yes : (some : Bool) (whole : List ℕ) (point : Bool) (part scale : List ℕ) (exponent : Option ℤ) → All IsDigit whole → All IsDigit part → (point ≡ false → part ≡ []) → SpellsExponent scale exponent
    → (some ≡ false → 0 < length whole + length part) → ends_whole some (whole ++ (behind point part ++ scale)) ≡ true
unfolding ends_whole
unsigned_yes some (b ∷ whole) point part scale exponent h k pointed s enough =
    rw (digit_yes b (All-head IsDigit b whole h)) (unsigned_yes true whole point part scale exponent (All-tail IsDigit b whole h) k pointed s (λ none. absurd (false≢true (sym none))))
unsigned_yes some [] true part scale exponent h k pointed s enough = part_yes some part scale exponent k s (λ none. let some = enough none in omega arith)
unsigned_yes true [] false part [] exponent h k pointed s enough = refl
unsigned_yes true [] false part (mark ∷ scale) None h k pointed s enough = absurd s
unsigned_yes true [] false part (mark ∷ scale) (Some power) h k pointed s enough = rw (mark_no_digit mark s.0, mark_no_point mark s.0) (scale_yes (mark ∷ scale) (Some power) s)
unsigned_yes false [] false part scale exponent h k pointed s enough = absurd (let some = enough refl in let none : length part ≡ 0 = ap length (pointed refl) in omega arith)

-- an optional sign, and what follows it
is_decimal : List ℕ → Bool
is_decimal [] = false
is_decimal (b ∷ bytes) = cond (is_sign b) (ends_whole false bytes) (ends_whole false (b ∷ bytes))

spelt_unsigned : (sign : List ℕ) (negative : Bool) (bytes : List ℕ) → SpellsSign sign negative → Unsigned false bytes → (d : Decimal) × Spells (sign ++ bytes) d
spelt_unsigned sign negative bytes s u = (
  record { negative = negative; whole = u.whole; point = u.point; part = u.part; exponent = u.exponent },
  record { sign = sign; scale = u.scale; joined = ap (λ ts. sign ++ ts) u.joined; is_sign = s; whole_digits = u.whole_digits; part_digits = u.part_digits; pointed = u.pointed; some = u.enough refl; is_scale = u.scaled },
)

decimal_is : (bytes : List ℕ) → is_decimal bytes ≡ true → (d : Decimal) × Spells bytes d
unfolding is_decimal
decimal_is [] h = absurd (false≢true h)
decimal_is (b ∷ bytes) h = elim (cases_Bool (is_sign b)) [
  | inl sign ↦ let spelt = spelt_sign b sign in spelt_unsigned (b ∷ []) spelt.0 bytes spelt.1 (unsigned_is false bytes (rw sign at h))
  | inr no_sign ↦ spelt_unsigned [] false (b ∷ bytes) refl (unsigned_is false (b ∷ bytes) (rw no_sign at h))
]

-- no sign stands where a digit or a point does
parts_decimal : (whole : List ℕ) (point : Bool) (part scale : List ℕ) → All IsDigit whole → (point ≡ false → part ≡ []) → 0 < length whole + length part
    → ends_whole false (whole ++ (behind point part ++ scale)) ≡ true → is_decimal (whole ++ (behind point part ++ scale)) ≡ true
unfolding is_decimal is_sign
parts_decimal (b ∷ whole) point part scale h pointed some ends = rw (digit_no_sign b (All-head IsDigit b whole h)) ends
parts_decimal [] true part scale h pointed some ends = ends
parts_decimal [] false part scale h pointed some ends = absurd (let none : length part ≡ 0 = ap length (pointed refl) in omega arith)

signed_decimal : (sign rest : List ℕ) (negative : Bool) → SpellsSign sign negative → ends_whole false rest ≡ true → is_decimal rest ≡ true → is_decimal (sign ++ rest) ≡ true
unfolding is_decimal is_sign
signed_decimal [] rest negative s ends whole = whole
signed_decimal (b ∷ []) rest negative (inl plus) ends whole = rw plus.0 ends
signed_decimal (b ∷ []) rest negative (inr minus) ends whole = rw minus.0 ends
signed_decimal (a ∷ b ∷ sign) rest negative s ends whole = absurd s

decimal_yes : (bytes : List ℕ) (d : Decimal) → Spells bytes d → is_decimal bytes ≡ true
decimal_yes bytes d h =
    let ends = unsigned_yes false d.whole d.point d.part h.scale d.exponent h.whole_digits h.part_digits h.pointed h.is_scale (λ none. h.some) in
    ap is_decimal h.joined ∙ signed_decimal h.sign (d.whole ++ (behind d.point d.part ++ h.scale)) d.negative h.is_sign ends (parts_decimal d.whole d.point d.part h.scale h.whole_digits h.pointed h.some ends)

-- a text spells a decimal number or none
pub decimal_or_none : (bytes : List ℕ) → ((d : Decimal) × Spells bytes d) ⊎ ((d : Decimal) → Spells bytes d → ⊥)
decimal_or_none bytes = elim (cases_Bool (is_decimal bytes)) [
  | inl passes ↦ inl (decimal_is bytes passes)
  | inr fails ↦ inr (λ d h. false≢true (sym fails ∙ decimal_yes bytes d h))
]
