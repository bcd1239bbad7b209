-- A line may be cut behind a pixel.
use Rattle.std.proofs.Common.{◌≡◌, ℕ, ◌+◌, ◌/◌, ◌%◌, min, max, Bool, true, false, List, [], ◌∷◌, ◌++◌, length, take, drop, get_or, ◌-◌, ◌<◌, ◌≤◌, refl, ap, sym, ◌∙◌, arith}
use Rattle.std.specs.Prelude.{cond, ◌==◌}
use Rattle.std.specs.List.{fold, sum, count_by}
use Rattle.std.proofs.lemmas.List.{take_rest}
use Rattle.std.proofs.lemmas.List.Sums.{fold-append, sum_by-append}
use Rattle.ctl_base.specs.Steps.{grown}
use Rattle.line_watch.specs.Tally.{reds, greens, blues, codes_of_channel, range_number, clip_number, sum_number, bin_number, bin_of, greatest_code, number_after, after_line}
use Rattle.line_watch.proofs.Places.{at_places-twice, at_places-same}

-- ---- the codes of a channel

choose-append : (x y z : Bool) (rs gs bs rs' gs' bs' : List ℕ)
    → cond x (rs ++ rs') (cond y (gs ++ gs') (cond z (bs ++ bs') [])) ≡ cond x rs (cond y gs (cond z bs [])) ++ cond x rs' (cond y gs' (cond z bs' []))
choose-append true y z rs gs bs rs' gs' bs' = refl
choose-append false true z rs gs bs rs' gs' bs' = refl
choose-append false false true rs gs bs rs' gs' bs' = refl
choose-append false false false rs gs bs rs' gs' bs' = refl

codes_of_channel-cut : (k r g b : ℕ) (rest : List ℕ) → codes_of_channel k (r ∷ g ∷ b ∷ rest) ≡ codes_of_channel k (r ∷ g ∷ b ∷ []) ++ codes_of_channel k rest
codes_of_channel-cut k r g b rest = choose-append (k == 0) (k == 1) (k == 2) (r ∷ []) (g ∷ []) (b ∷ []) (reds rest) (greens rest) (blues rest)

choose-none : (x y z : Bool) → (let none : List ℕ = [] in cond x [] (cond y [] (cond z [] [])) ≡ none)
choose-none true y z = refl
choose-none false true z = refl
choose-none false false true = refl
choose-none false false false = refl

-- ---- the numbers of a kind

grown-twice : (n a b : ℕ) → grown (grown n a) b ≡ grown n (a + b)
grown-twice n a b = omega arith

grown-none : (n : ℕ) → grown n 0 ≡ n
grown-none n = omega arith

count-cut : (p : ℕ → Bool) (n : ℕ) (ps rest whole : List ℕ) → whole ≡ ps ++ rest → grown (grown n (count_by p ps)) (count_by p rest) ≡ grown n (count_by p whole)
count-cut p n ps rest whole e =
    grown-twice n (count_by p ps) (count_by p rest)
    ∙ ap (λ (m : ℕ). grown n m) (sym (sum_by-append (λ (c : ℕ). cond (p c) 1 0) ps rest))
    ∙ ap (λ (cs : List ℕ). grown n (count_by p cs)) (sym e)

sum-cut : (n : ℕ) (ps rest whole : List ℕ) → whole ≡ ps ++ rest → grown (grown n (sum ps)) (sum rest) ≡ grown n (sum whole)
sum-cut n ps rest whole e =
    grown-twice n (sum ps) (sum rest)
    ∙ ap (λ (m : ℕ). grown n m) (sym (sum_by-append (λ (c : ℕ). c) ps rest))
    ∙ ap (λ (cs : List ℕ). grown n (sum cs)) (sym e)

range-cut : (x : Bool) (n : ℕ) (ps rest whole : List ℕ) → whole ≡ ps ++ rest
    → cond x (fold min (cond x (fold min n ps) (fold max n ps)) rest) (fold max (cond x (fold min n ps) (fold max n ps)) rest) ≡ cond x (fold min n whole) (fold max n whole)
range-cut true n ps rest whole e = sym (fold-append (λ (a c : ℕ). min a c) n ps rest) ∙ ap (λ (cs : List ℕ). fold min n cs) (sym e)
range-cut false n ps rest whole e = sym (fold-append (λ (a c : ℕ). max a c) n ps rest) ∙ ap (λ (cs : List ℕ). fold max n cs) (sym e)

-- which kind it is

kinds-cut : (x y z w : Bool) (A B C D : ℕ → List ℕ → ℕ) (n : ℕ) (ps rest whole : List ℕ)
    → ((m : ℕ) → A (A m ps) rest ≡ A m whole) → ((m : ℕ) → B (B m ps) rest ≡ B m whole)
    → ((m : ℕ) → C (C m ps) rest ≡ C m whole) → ((m : ℕ) → D (D m ps) rest ≡ D m whole)
    → (let one : ℕ → List ℕ → ℕ = λ m cs. cond x (A m cs) (cond y (B m cs) (cond z (C m cs) (cond w (D m cs) m))) in one (one n ps) rest ≡ one n whole)
kinds-cut true y z w A B C D n ps rest whole a b c d = a n
kinds-cut false true z w A B C D n ps rest whole a b c d = b n
kinds-cut false false true w A B C D n ps rest whole a b c d = c n
kinds-cut false false false true A B C D n ps rest whole a b c d = d n
kinds-cut false false false false A B C D n ps rest whole a b c d = refl

number_after-cut : (kind depth i n r g b : ℕ) (rest : List ℕ)
    → number_after kind depth i (number_after kind depth i n (r ∷ g ∷ b ∷ [])) rest ≡ number_after kind depth i n (r ∷ g ∷ b ∷ rest)
number_after-cut kind depth i n r g b rest =
    kinds-cut (kind == 1) (kind == 2) (kind == 3) (kind == 4)
    (λ m cs. range_number i m cs) (λ m cs. clip_number depth i m cs) (λ m cs. sum_number i m cs) (λ m cs. bin_number depth i m cs)
    n (r ∷ g ∷ b ∷ []) rest (r ∷ g ∷ b ∷ rest)
    (λ m. range-cut (i % 2 == 0) m (codes_of_channel (i / 2) (r ∷ g ∷ b ∷ [])) (codes_of_channel (i / 2) rest) (codes_of_channel (i / 2) (r ∷ g ∷ b ∷ rest)) (codes_of_channel-cut (i / 2) r g b rest))
    (λ m. count-cut (λ c. c == (cond (i % 2 == 0) 0 (greatest_code depth))) m (codes_of_channel (i / 2) (r ∷ g ∷ b ∷ [])) (codes_of_channel (i / 2) rest) (codes_of_channel (i / 2) (r ∷ g ∷ b ∷ rest)) (codes_of_channel-cut (i / 2) r g b rest))
    (λ m. sum-cut m (codes_of_channel i (r ∷ g ∷ b ∷ [])) (codes_of_channel i rest) (codes_of_channel i (r ∷ g ∷ b ∷ rest)) (codes_of_channel-cut i r g b rest))
    (λ m. count-cut (λ c. bin_of depth c == i % 16) m (codes_of_channel (i / 16) (r ∷ g ∷ b ∷ [])) (codes_of_channel (i / 16) rest) (codes_of_channel (i / 16) (r ∷ g ∷ b ∷ rest)) (codes_of_channel-cut (i / 16) r g b rest))

-- ---- the tally

-- one pixel, and then the others
pub after_line-cut : (kind depth : ℕ) (ns : List ℕ) (r g b : ℕ) (rest : List ℕ)
    → after_line kind depth (after_line kind depth ns (r ∷ g ∷ b ∷ [])) rest ≡ after_line kind depth ns (r ∷ g ∷ b ∷ rest)
unfolding after_line
after_line-cut kind depth ns r g b rest =
    at_places-twice (λ i n. number_after kind depth i n rest) (λ i n. number_after kind depth i n (r ∷ g ∷ b ∷ [])) (λ i n. number_after kind depth i n (r ∷ g ∷ b ∷ rest))
    (λ i n. number_after-cut kind depth i n r g b rest) 0 ns

-- which kind it is, where a line has no code
kinds-none : (x y z w t : Bool) (n c d e f h : ℕ) → c ≡ n → d ≡ n → e ≡ n → f ≡ n → h ≡ n
    → cond x (cond t c d) (cond y e (cond z f (cond w h n))) ≡ n
kinds-none true y z w true n c d e f h one two three four five = one
kinds-none true y z w false n c d e f h one two three four five = two
kinds-none false true z w t n c d e f h one two three four five = three
kinds-none false false true w t n c d e f h one two three four five = four
kinds-none false false false true t n c d e f h one two three four five = five
kinds-none false false false false t n c d e f h one two three four five = refl

number_after-none : (kind depth i n : ℕ) (line : List ℕ) → ((k : ℕ) → codes_of_channel k line ≡ []) → number_after kind depth i n line ≡ n
number_after-none kind depth i n line none =
    let p : ℕ → Bool = λ c. c == (cond (i % 2 == 0) 0 (greatest_code depth)) in
    let q : ℕ → Bool = λ c. bin_of depth c == i % 16 in
    kinds-none (kind == 1) (kind == 2) (kind == 3) (kind == 4) (i % 2 == 0) n
    (fold min n (codes_of_channel (i / 2) line)) (fold max n (codes_of_channel (i / 2) line)) (grown n (count_by p (codes_of_channel (i / 2) line)))
    (grown n (sum (codes_of_channel i line))) (grown n (count_by q (codes_of_channel (i / 16) line)))
    (ap (λ (cs : List ℕ). fold min n cs) (none (i / 2)))
    (ap (λ (cs : List ℕ). fold max n cs) (none (i / 2)))
    (ap (λ (cs : List ℕ). grown n (count_by p cs)) (none (i / 2)) ∙ grown-none n)
    (ap (λ (cs : List ℕ). grown n (sum cs)) (none i) ∙ grown-none n)
    (ap (λ (cs : List ℕ). grown n (count_by q cs)) (none (i / 16)) ∙ grown-none n)

after_line-none : (kind depth : ℕ) (ns line : List ℕ) → ((k : ℕ) → codes_of_channel k line ≡ []) → after_line kind depth ns line ≡ ns
unfolding after_line
after_line-none kind depth ns line none = at_places-same (λ i n. number_after kind depth i n line) (λ i n. number_after-none kind depth i n line none) 0 ns

-- no whole pixel
pub after_line-short : (kind depth : ℕ) (ns line : List ℕ) → length line < 3 → after_line kind depth ns line ≡ ns
after_line-short kind depth ns [] h = after_line-none kind depth ns [] (λ k. choose-none (k == 0) (k == 1) (k == 2))
after_line-short kind depth ns (a ∷ []) h = after_line-none kind depth ns (a ∷ []) (λ k. choose-none (k == 0) (k == 1) (k == 2))
after_line-short kind depth ns (a ∷ b ∷ []) h = after_line-none kind depth ns (a ∷ b ∷ []) (λ k. choose-none (k == 0) (k == 1) (k == 2))
after_line-short kind depth ns (a ∷ b ∷ c ∷ line) h = absurd (omega arith)

after_line-next : (kind depth : ℕ) (ns rest : List ℕ) → 3 ≤ length rest
    → after_line kind depth (after_line kind depth ns (get_or rest 0 0 ∷ get_or rest 1 0 ∷ get_or rest 2 0 ∷ [])) (drop 3 rest) ≡ after_line kind depth ns rest
after_line-next kind depth ns [] h = absurd (omega arith)
after_line-next kind depth ns (a ∷ []) h = absurd (omega arith)
after_line-next kind depth ns (a ∷ b ∷ []) h = absurd (omega arith)
after_line-next kind depth ns (a ∷ b ∷ c ∷ rest) h = after_line-cut kind depth ns a b c rest

-- one pixel more of a line
pub after_line-more : (kind depth : ℕ) (ns rest : List ℕ) (kind' : ℕ) (ns' all : List ℕ) → 3 ≤ length rest → kind' ≡ kind
    → ns' ≡ after_line kind depth ns (get_or rest 0 0 ∷ get_or rest 1 0 ∷ get_or rest 2 0 ∷ []) → after_line kind depth ns rest ≡ all
    → after_line kind' depth ns' (take (length rest - 3) (drop 3 rest)) ≡ all
after_line-more kind depth ns rest kind' ns' all h same next so_far =
    ap (λ (cs : List ℕ). after_line kind' depth ns' cs) (take_rest rest 3)
    ∙ ap (λ (k : ℕ). after_line k depth ns' (drop 3 rest)) same
    ∙ ap (λ (ms : List ℕ). after_line kind depth ms (drop 3 rest)) next
    ∙ after_line-next kind depth ns rest h
    ∙ so_far
