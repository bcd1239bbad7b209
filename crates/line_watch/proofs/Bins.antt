-- The bins after one pixel: one more at three places.
use Rattle.std.proofs.Common.{◌≡◌, ℕ, zero, suc, ◌+◌, ◌/◌, ◌%◌, ◌<◌, ◌≤◌, Bool, List, [], ◌∷◌, refl, ap, sym, ◌∙◌, subst, arith}
use Rattle.std.specs.Prelude.{cond, ◌==◌, get_or, set, length}
use Rattle.std.specs.List.{count_by}
use Rattle.std.proofs.Common.{⊎_elim}
use Rattle.std.proofs.lemmas.Bool.{eq-eqb, ne_eqb, cases_eq, cases_lt, cond-true, cond-false}
use Rattle.ctl_base.specs.Steps.{grown, one_more}
use Rattle.line_watch.specs.Tally.{at_places, bin_of, bin_number, codes_of_channel, after_line}
use Rattle.line_watch.specs.Means.{one_more_at}
use Rattle.line_watch.proofs.Places.{at_places-twice}
use Rattle.line_watch.proofs.Seen.{one-more-where}

-- one more at place k, of the number n at place i
abbrev at-place : ℕ → ℕ → ℕ → ℕ
at-place k i n = cond (i == k) (one_more n) n

-- ---- what is set at a place is one more there

one_more_at-other : (k i n : ℕ) → (i ≡ k → ⊥) → cond (i == k) (one_more n) n ≡ n
one_more_at-other k i n apart = cond-false (i == k) (one_more n) n (ne_eqb i k apart)

one_more_at-past : (k i : ℕ) (ns : List ℕ) → k < i → at_places (λ j m. cond (j == k) (one_more m) m) i ns ≡ ns
one_more_at-past k i [] h = refl
one_more_at-past k i (n ∷ ns) h =
    ap (λ (x : ℕ). x ∷ at_places (λ j m. cond (j == k) (one_more m) m) (i + 1) ns) (one_more_at-other k i n (λ e. omega (arith, e)))
    ∙ ap (λ (xs : List ℕ). n ∷ xs) (one_more_at-past k (i + 1) ns (omega arith))

one_more_at-from : (k i j : ℕ) (ns : List ℕ) → i + j ≡ k → j < length ns → set ns j (one_more (get_or ns j 0)) ≡ at_places (λ p m. cond (p == k) (one_more m) m) i ns
one_more_at-from k i j [] e h = absurd (omega arith)
one_more_at-from k i zero (n ∷ ns) e h =
    ap (λ (x : ℕ). x ∷ ns) (sym (cond-true (i == k) (one_more n) n (eq-eqb i k (omega (arith, e)))))
    ∙ ap (λ (xs : List ℕ). cond (i == k) (one_more n) n ∷ xs) (sym (one_more_at-past k (i + 1) ns (omega (arith, e))))
one_more_at-from k i (suc j) (n ∷ ns) e h =
    ap (λ (xs : List ℕ). n ∷ xs) (one_more_at-from k (i + 1) j ns (omega (arith, e)) (omega arith))
    ∙ ap (λ (x : ℕ). x ∷ at_places (λ p m. cond (p == k) (one_more m) m) (i + 1) ns) (sym (one_more_at-other k i n (λ h'. omega (arith, e, h'))))

pub set-one_more_at : (k : ℕ) (ns : List ℕ) → k < length ns → set ns k (one_more (get_or ns k 0)) ≡ one_more_at k ns
unfolding one_more_at
set-one_more_at k ns h = one_more_at-from k 0 k ns (omega arith) h

-- ---- three places

eqb-at : (i k x y : ℕ) → (i ≡ k → x ≡ y) → (x ≡ y → i ≡ k) → (x == y) ≡ (i == k)
eqb-at i k x y there back = ⊎_elim
    (λ e. eq-eqb x y (there e) ∙ sym (eq-eqb i k e))
    (λ apart. ne_eqb x y (λ h. apart (back h)) ∙ sym (ne_eqb i k apart))
    (cases_eq i k)

-- where the place k belongs to the bin x of the place's channel
at-code : (i k x n : ℕ) → (i ≡ k → x ≡ i % 16) → (x ≡ i % 16 → i ≡ k) → grown n (0 + cond (x == i % 16) 1 0) ≡ cond (i == k) (one_more n) n
at-code i k x n there back = one-more-where (x == i % 16) n ∙ ap (λ (t : Bool). cond t (one_more n) n) (eqb-at i k x (i % 16) there back)

-- ---- by the channel of a place i; the bins of the three codes are x, y and z, and m is the number that is told there

in-red : (i n x y z m : ℕ) → i < 16 → x < 16 → m ≡ grown n (0 + cond (x == i % 16) 1 0) → at-place (32 + z) i (at-place (16 + y) i (at-place x i n)) ≡ m
in-red i n x y z m h hx is =
    one_more_at-other (32 + z) i (at-place (16 + y) i (at-place x i n)) (λ e. omega (arith, e))
    ∙ one_more_at-other (16 + y) i (at-place x i n) (λ e. omega (arith, e))
    ∙ sym (at-code i x x n (λ e. omega (arith, e)) (λ e. omega (arith, e)))
    ∙ sym is

in-green : (i n x y z m : ℕ) → 16 ≤ i → i < 32 → x < 16 → y < 16 → m ≡ grown n (0 + cond (y == i % 16) 1 0) → at-place (32 + z) i (at-place (16 + y) i (at-place x i n)) ≡ m
in-green i n x y z m h h' hx hy is =
    one_more_at-other (32 + z) i (at-place (16 + y) i (at-place x i n)) (λ e. omega (arith, e))
    ∙ ap (λ (k : ℕ). at-place (16 + y) i k) (one_more_at-other x i n (λ e. omega (arith, e)))
    ∙ sym (at-code i (16 + y) y n (λ e. omega (arith, e)) (λ e. omega (arith, e)))
    ∙ sym is

in-blue : (i n x y z m : ℕ) → 32 ≤ i → i < 48 → x < 16 → y < 16 → z < 16 → m ≡ grown n (0 + cond (z == i % 16) 1 0) → at-place (32 + z) i (at-place (16 + y) i (at-place x i n)) ≡ m
in-blue i n x y z m h h' hx hy hz is =
    ap (λ (k : ℕ). at-place (32 + z) i k) (one_more_at-other (16 + y) i (at-place x i n) (λ e. omega (arith, e)) ∙ one_more_at-other x i n (λ e. omega (arith, e)))
    ∙ sym (at-code i (32 + z) z n (λ e. omega (arith, e)) (λ e. omega (arith, e)))
    ∙ sym is

in-none : (i n x y z m : ℕ) → 48 ≤ i → x < 16 → y < 16 → z < 16 → m ≡ n → at-place (32 + z) i (at-place (16 + y) i (at-place x i n)) ≡ m
in-none i n x y z m h hx hy hz is =
    one_more_at-other (32 + z) i (at-place (16 + y) i (at-place x i n)) (λ e. omega (arith, e))
    ∙ one_more_at-other (16 + y) i (at-place x i n) (λ e. omega (arith, e))
    ∙ one_more_at-other x i n (λ e. omega (arith, e))
    ∙ sym is

-- the codes of a place's channel, of one pixel
codes-at : (k r g b : ℕ) → (k < 1 → codes_of_channel k (r ∷ g ∷ b ∷ []) ≡ r ∷ []) × (k ≡ 1 → codes_of_channel k (r ∷ g ∷ b ∷ []) ≡ g ∷ []) × (k ≡ 2 → codes_of_channel k (r ∷ g ∷ b ∷ []) ≡ b ∷ []) × (2 < k → codes_of_channel k (r ∷ g ∷ b ∷ []) ≡ [])
codes-at k r g b =
    let two : List ℕ = cond (k == 2) (b ∷ []) [] in
    let one : List ℕ = cond (k == 1) (g ∷ []) two in
    let not-red : (k ≡ 0 → ⊥) → codes_of_channel k (r ∷ g ∷ b ∷ []) ≡ one = λ apart. cond-false (k == 0) (r ∷ []) one (ne_eqb k 0 apart) in
    let not-green : (k ≡ 1 → ⊥) → one ≡ two = λ apart. cond-false (k == 1) (g ∷ []) two (ne_eqb k 1 apart) in (
      (λ h. cond-true (k == 0) (r ∷ []) one (eq-eqb k 0 (omega arith))),
      (λ e. not-red (λ h. omega (arith, e, h)) ∙ cond-true (k == 1) (g ∷ []) two (eq-eqb k 1 e)),
      (λ e. not-red (λ h. omega (arith, e, h)) ∙ not-green (λ h. omega (arith, e, h)) ∙ cond-true (k == 2) (b ∷ []) [] (eq-eqb k 2 e)),
      (λ h. not-red (λ e. omega (arith, e)) ∙ not-green (λ e. omega (arith, e)) ∙ cond-false (k == 2) (b ∷ []) [] (ne_eqb k 2 (λ e. omega (arith, e)))),
    )

grown-none : (n : ℕ) → grown n 0 ≡ n
grown-none n = omega arith

at-pixel : (depth r g b i n : ℕ) → bin_of depth r < 16 → bin_of depth g < 16 → bin_of depth b < 16
    → at-place (32 + bin_of depth b) i (at-place (16 + bin_of depth g) i (at-place (bin_of depth r) i n)) ≡ bin_number depth i n (r ∷ g ∷ b ∷ [])
at-pixel depth r g b i n hx hy hz =
    let told : List ℕ → ℕ = λ cs. grown n (count_by (λ c. bin_of depth c == i % 16) cs) in
    let codes = codes-at (i / 16) r g b in
    ⊎_elim
    (λ low. in-red i n (bin_of depth r) (bin_of depth g) (bin_of depth b) _ low hx (ap told (codes.0 (omega (arith, low)))))
    (λ from16. ⊎_elim
    (λ low. in-green i n (bin_of depth r) (bin_of depth g) (bin_of depth b) _ from16 low hx hy (ap told (codes.1 (omega (arith, from16, low)))))
    (λ from32. ⊎_elim
    (λ low. in-blue i n (bin_of depth r) (bin_of depth g) (bin_of depth b) _ from32 low hx hy hz (ap told (codes.2 (omega (arith, from32, low)))))
    (λ from48. in-none i n (bin_of depth r) (bin_of depth g) (bin_of depth b) _ from48 hx hy hz (ap told (codes.3 (omega (arith, from48))) ∙ grown-none n))
    (cases_lt i 48))
    (cases_lt i 32))
    (cases_lt i 16)

pixel-one_more_at : (depth r g b : ℕ) (ns : List ℕ) → bin_of depth r < 16 → bin_of depth g < 16 → bin_of depth b < 16
    → one_more_at (32 + bin_of depth b) (one_more_at (16 + bin_of depth g) (one_more_at (bin_of depth r) ns)) ≡ after_line 4 depth ns (r ∷ g ∷ b ∷ [])
unfolding one_more_at after_line
pixel-one_more_at depth r g b ns hx hy hz =
    ap (λ (ms : List ℕ). at_places (λ i n. at-place (32 + bin_of depth b) i n) 0 ms)
    (at_places-twice (λ i n. at-place (16 + bin_of depth g) i n) (λ i n. at-place (bin_of depth r) i n) (λ i n. at-place (16 + bin_of depth g) i (at-place (bin_of depth r) i n)) (λ i n. refl) 0 ns)
    ∙ at_places-twice (λ i n. at-place (32 + bin_of depth b) i n) (λ i n. at-place (16 + bin_of depth g) i (at-place (bin_of depth r) i n)) (λ i n. bin_number depth i n (r ∷ g ∷ b ∷ []))
    (λ i n. at-pixel depth r g b i n hx hy hz) 0 ns

-- three calls, one after another
pub bins-seen : (depth r g b x y z : ℕ) (ns one two three : List ℕ) → x ≡ bin_of depth r → y ≡ bin_of depth g → z ≡ bin_of depth b → x < 16 → y < 16 → z < 16
    → one ≡ one_more_at x ns → two ≡ one_more_at (16 + y) one → three ≡ one_more_at (32 + z) two → three ≡ after_line 4 depth ns (r ∷ g ∷ b ∷ [])
bins-seen depth r g b x y z ns one two three ex ey ez hx hy hz e f h =
    let bx : bin_of depth r < 16 = subst (λ k. k < 16) ex hx in
    let by' : bin_of depth g < 16 = subst (λ k. k < 16) ey hy in
    let bz : bin_of depth b < 16 = subst (λ k. k < 16) ez hz in
    h
    ∙ ap (λ (k : ℕ). one_more_at (32 + k) two) ez
    ∙ ap (λ (ms : List ℕ). one_more_at (32 + bin_of depth b) ms)
    (f ∙ ap (λ (k : ℕ). one_more_at (16 + k) one) ey ∙ ap (λ (ms : List ℕ). one_more_at (16 + bin_of depth g) ms) (e ∙ ap (λ (k : ℕ). one_more_at k ns) ex))
    ∙ pixel-one_more_at depth r g b ns bx by' bz
