-- Code whose marks fit is level-safe.
use Rattle.std.proofs.Common.{◌≡◌, ℕ, zero, suc, ◌<◌, List, [], ◌∷◌, length, Bool, true, false, not, ◌||◌, ◌⊎◌, inl, inr, Some, refl, sym, ap, subst, ◌∙◌, get_or, arith}
use Rattle.std.specs.Prelude.{slice_get}
use Rattle.lane_code.specs.declared.instr.Instr.{Instr}
use Rattle.lane_code.specs.declared.instr.Instr.TheVariants.{Set, Copy, Do1, Do2, Convert, Bound, Gather, Scatter, Library, If, Loop, Frame, Leave}
use Rattle.lane_code.specs.declared.mark.Mark.{Mark}
use Rattle.lane_code.specs.Slots.{is_uniform}
use Rattle.lane_code.specs.Instructions.{Blocks, writes_uniform, reads_uniform}
use Rattle.lane_code.specs.Laws.{Below, AllBelow, IsOrdered, IsSafeCode}
use Rattle.lane_code.specs.Divided.{Stands, NamesInner, Splits, Rounds, Reaches, here, there, HoldsLeave, Names, Divided, by_cond, by_leave, by_round, by_name, IsLevelSafe, IsRegular, UniformCond, IsUndivided}
use Rattle.lane_code.specs.Marks.{Marked, Fits, AllFit, CodeFits, AllCalm}

or_left : (a b : Bool) → a ≡ true → (a || b) ≡ true
or_left true b e = refl
or_left false b e = absurd (cc)

or_right : (a b : Bool) → b ≡ true → (a || b) ≡ true
or_right true b e = refl
or_right false b e = e

some_is : {A : Type 0} (a b : A) → Some a ≡ Some b → a ≡ b
some_is a b e = cc

-- the flag at a place
abbrev flag_at : (n : ℕ) (marks : List Mark) (d out : Bool) (xs : List Instr) → AllFit n marks d out xs → ℕ → Bool
flag_at n marks d out [] fit q = d
flag_at n marks d out (x ∷ xs) fit zero = d
flag_at n marks d out (x ∷ xs) fit (suc q) = flag_at n marks (d || fit.0) out xs fit.3 q

flag_start : (n : ℕ) (marks : List Mark) (d out : Bool) (xs : List Instr) (fit : AllFit n marks d out xs) (q : ℕ) → d ≡ true → flag_at n marks d out xs fit q ≡ true
flag_start n marks d out [] fit q e = e
flag_start n marks d out (x ∷ xs) fit zero e = e
flag_start n marks d out (x ∷ xs) fit (suc q) e = flag_start n marks (d || fit.0) out xs fit.3 q (or_left d fit.0 e)

-- an instruction fits at its flag, and a divided Leave in it divides what follows
pub record FitsAt (n : ℕ) (marks : List Mark) (d out : Bool) (xs : List Instr) (fit : AllFit n marks d out xs) (p : ℕ) (ins : Instr) : Type 0 where
  pub gone : Bool
  pub fits : Fits n marks (flag_at n marks d out xs fit p) gone ins
  pub counted : gone ≡ true → out ≡ true
  pub after : (q : ℕ) → p < q → gone ≡ true → flag_at n marks d out xs fit q ≡ true

fits_at : (n : ℕ) (marks : List Mark) (d out : Bool) (xs : List Instr) (fit : AllFit n marks d out xs) (p : ℕ) (ins : Instr) → slice_get xs p ≡ Some ins → FitsAt n marks d out xs fit p ins
fits_at n marks d out [] fit p ins e = absurd (cc)
fits_at n marks d out (x ∷ xs) fit zero ins e = record {
  gone = fit.0;
  fits = subst (Fits n marks d fit.0) (some_is x ins e) fit.1;
  counted = fit.2;
  after = later;
} where
  later : (q : ℕ) → 0 < q → fit.0 ≡ true → flag_at n marks d out (x ∷ xs) fit q ≡ true
  later zero h g = absurd (omega arith)
  later (suc q) h g = flag_start n marks (d || fit.0) out xs fit.3 q (or_right d fit.0 g)
fits_at n marks d out (x ∷ xs) fit (suc p) ins e =
    let r = fits_at n marks (d || fit.0) out xs fit.3 p ins e in
    record { gone = r.gone; fits = r.fits; counted = r.counted; after = later r } where
      later : (r : FitsAt n marks (d || fit.0) out xs fit.3 p ins) → (q : ℕ) → suc p < q → r.gone ≡ true → flag_at n marks d out (x ∷ xs) fit q ≡ true
      later r zero h g = absurd (omega arith)
      later r (suc q) h g = r.after q (omega arith) g

-- the flag is up, whatever the mark of the block
abbrev Flagged : (blocks : Blocks) (marks : List Mark) → CodeFits blocks marks → ℕ → ℕ → Type 0
Flagged blocks marks c k q = (m : Mark) (e : slice_get marks k ≡ Some m) → flag_at k marks m.divided m.leaves (get_or blocks k []) (c.each k m e) q ≡ true

abbrev Leaving : List Mark → ℕ → Type 0
Leaving marks k = (m : Mark) → slice_get marks k ≡ Some m → m.leaves ≡ true

-- a block in which something stands has a mark
get_there : {A : Type 0} (xs : List A) (k : ℕ) → k < length xs → (m : A) × (slice_get xs k ≡ Some m)
get_there [] k h = absurd (omega arith)
get_there (x ∷ xs) zero h = (x, refl)
get_there (x ∷ xs) (suc k) h = get_there xs k (omega arith)

stands_low : (blocks : Blocks) (k p : ℕ) (ins : Instr) → Stands blocks k p ins → k < length blocks
stands_low [] k p ins s = absurd (cc)
stands_low (b ∷ blocks) zero p ins s = omega arith
stands_low (b ∷ blocks) (suc k) p ins s = let z = stands_low blocks k p ins s in omega arith

here_of : (blocks : Blocks) (marks : List Mark) (c : CodeFits blocks marks) (k p : ℕ) (ins : Instr) (m : Mark) (at : slice_get marks k ≡ Some m) → Stands blocks k p ins → FitsAt k marks m.divided m.leaves (get_or blocks k []) (c.each k m at) p ins
here_of blocks marks c k p ins m at s = fits_at k marks m.divided m.leaves (get_or blocks k []) (c.each k m at) p ins s

mark_of : (blocks : Blocks) (marks : List Mark) (c : CodeFits blocks marks) (k p : ℕ) (ins : Instr) → Stands blocks k p ins → (m : Mark) × (slice_get marks k ≡ Some m)
mark_of blocks marks c k p ins s = let n = c.count in let low = stands_low blocks k p ins s in get_there marks k (omega arith)

-- a block that is marked divided is so throughout
throughout : (blocks : Blocks) (marks : List Mark) (c : CodeFits blocks marks) (n j q : ℕ) (d o : Bool) → Marked n marks j d o → d ≡ true → Flagged blocks marks c j q
throughout blocks marks c n j q d o mk e m at = flag_start j marks m.divided m.leaves (get_or blocks j []) (c.each j m at) q (subst (λ (m : Mark). m.divided ≡ true) (some_is mk.mark m (sym mk.at ∙ at)) (mk.apart e))

inner_named : (n : ℕ) (marks : List Mark) (d o : Bool) (ins : Instr) (j : ℕ) → Fits n marks d o ins → NamesInner ins j → (d' : Bool) × ((d ≡ true → d' ≡ true) × Marked n marks j d' o)
inner_named n marks d o (Set dst word) j f h = absurd h
inner_named n marks d o (Copy dst src count) j f h = absurd h
inner_named n marks d o (Do1 op kind dst a) j f h = absurd h
inner_named n marks d o (Do2 op kind dst a b) j f h = absurd h
inner_named n marks d o (Convert from to dst a) j f h = absurd h
inner_named n marks d o (Bound index size node) j f h = absurd h
inner_named n marks d o (Gather dst base span at count node) j f h = absurd h
inner_named n marks d o (Scatter base span at count src node) j f h = absurd h
inner_named n marks d o (Library id sizes dst args node) j f h = absurd h
inner_named n marks d o (If c one other) j f (inl e) = (d || not (is_uniform c), (or_left d (not (is_uniform c)), subst (λ (j : ℕ). Marked n marks j (d || not (is_uniform c)) o) (sym e) f.0))
inner_named n marks d o (If c one other) j f (inr e) = (d || not (is_uniform c), (or_left d (not (is_uniform c)), subst (λ (j : ℕ). Marked n marks j (d || not (is_uniform c)) o) (sym e) f.1))
inner_named n marks d o (Loop test c body node) j f (inl e) = (f.0, ((λ z. f.1 (or_left d (not (is_uniform c)) z)), subst (λ (j : ℕ). Marked n marks j f.0 o) (sym e) f.3))
inner_named n marks d o (Loop test c body node) j f (inr e) = (f.0, ((λ z. f.1 (or_left d (not (is_uniform c)) z)), subst (λ (j : ℕ). Marked n marks j f.0 o) (sym e) f.4))
inner_named n marks d o (Frame block) j f h = absurd h
inner_named n marks d o Leave j f h = absurd h

named_divided : (n : ℕ) (marks : List Mark) (d o : Bool) (ins : Instr) (j : ℕ) → Fits n marks d o ins → Names ins j → d ≡ true → (o' : Bool) × Marked n marks j true o'
named_divided n marks d o ins j f (inl h) e = let r = inner_named n marks d o ins j f h in (o, record { low = r.1.1.low; mark = r.1.1.mark; at = r.1.1.at; apart = λ z. r.1.1.apart (r.1.0 e); gone = r.1.1.gone })
named_divided n marks d o ins j f (inr h) e =
    let g : Fits n marks d o (Frame j) = subst (λ (x : Instr). Fits n marks d o x) h f in
    (true, record { low = g.low; mark = g.mark; at = g.at; apart = λ z. g.apart e; gone = g.gone })

split_divided : (n : ℕ) (marks : List Mark) (d o : Bool) (ins : Instr) (j : ℕ) → Fits n marks d o ins → Splits ins j → (d' : Bool) × ((d' ≡ true) × Marked n marks j d' o)
split_divided n marks d o (Set dst word) j f h = absurd h
split_divided n marks d o (Copy dst src count) j f h = absurd h
split_divided n marks d o (Do1 op kind dst a) j f h = absurd h
split_divided n marks d o (Do2 op kind dst a b) j f h = absurd h
split_divided n marks d o (Convert from to dst a) j f h = absurd h
split_divided n marks d o (Bound index size node) j f h = absurd h
split_divided n marks d o (Gather dst base span at count node) j f h = absurd h
split_divided n marks d o (Scatter base span at count src node) j f h = absurd h
split_divided n marks d o (Library id sizes dst args node) j f h = absurd h
split_divided n marks d o (If c one other) j f h = (d || not (is_uniform c), (or_right d (not (is_uniform c)) (ap (λ (b : Bool). not b) h.0), side j h.1)) where
  side : (j : ℕ) → ((j ≡ one) ⊎ (j ≡ other)) → Marked n marks j (d || not (is_uniform c)) o
  side j (inl e) = subst (λ (j : ℕ). Marked n marks j (d || not (is_uniform c)) o) (sym e) f.0
  side j (inr e) = subst (λ (j : ℕ). Marked n marks j (d || not (is_uniform c)) o) (sym e) f.1
split_divided n marks d o (Loop test c body node) j f h = (f.0, (f.1 (or_right d (not (is_uniform c)) (ap (λ (b : Bool). not b) h.0)), side j h.1)) where
  side : (j : ℕ) → ((j ≡ test) ⊎ (j ≡ body)) → Marked n marks j f.0 o
  side j (inl e) = subst (λ (j : ℕ). Marked n marks j f.0 o) (sym e) f.3
  side j (inr e) = subst (λ (j : ℕ). Marked n marks j f.0 o) (sym e) f.4
split_divided n marks d o (Frame block) j f h = absurd h
split_divided n marks d o Leave j f h = absurd h

round_divided : (n : ℕ) (marks : List Mark) (d o : Bool) (ins : Instr) (j : ℕ) → Fits n marks d o ins → Rounds ins j → o ≡ true → Marked n marks j true o
round_divided n marks d o (Set dst word) j f h e = absurd h
round_divided n marks d o (Copy dst src count) j f h e = absurd h
round_divided n marks d o (Do1 op kind dst a) j f h e = absurd h
round_divided n marks d o (Do2 op kind dst a b) j f h e = absurd h
round_divided n marks d o (Convert from to dst a) j f h e = absurd h
round_divided n marks d o (Bound index size node) j f h e = absurd h
round_divided n marks d o (Gather dst base span at count node) j f h e = absurd h
round_divided n marks d o (Scatter base span at count src node) j f h e = absurd h
round_divided n marks d o (Library id sizes dst args node) j f h e = absurd h
round_divided n marks d o (If c one other) j f h e = absurd h
round_divided n marks d o (Loop test c body node) j f (inl q) e = subst (λ (j : ℕ). Marked n marks j true o) (sym q) (subst (λ (b : Bool). Marked n marks test b o) (f.2 e) f.3)
round_divided n marks d o (Loop test c body node) j f (inr q) e = subst (λ (j : ℕ). Marked n marks j true o) (sym q) (subst (λ (b : Bool). Marked n marks body b o) (f.2 e) f.4)
round_divided n marks d o (Frame block) j f h e = absurd h
round_divided n marks d o Leave j f h e = absurd h

marked_leaving : (n : ℕ) (marks : List Mark) (j : ℕ) (d o : Bool) → Marked n marks j d o → Leaving marks j → o ≡ true
marked_leaving n marks j d o mk h = mk.gone (h mk.mark mk.at)

-- a block leaves where one does that it reaches
reached : (blocks : Blocks) (marks : List Mark) (c : CodeFits blocks marks) (j l : ℕ) → Reaches blocks j l → Leaving marks l → Leaving marks j
reached blocks marks c j l here h = h
reached blocks marks c j l (there p i ins s n r) h = λ m at.
    let w = here_of blocks marks c j p ins m at s in
    let z = inner_named j marks _ w.gone ins i w.fits n in
    w.counted (marked_leaving j marks i z.0 w.gone z.1.1 (reached blocks marks c i l r h))

leave_leaving : (blocks : Blocks) (marks : List Mark) (c : CodeFits blocks marks) (k p : ℕ) → Stands blocks k p Leave → Flagged blocks marks c k p → Leaving marks k
leave_leaving blocks marks c k p s f = λ m at. let w = here_of blocks marks c k p Leave m at s in w.counted (w.fits (f m at))

-- an instruction that holds a divided Leave counts it
holds_gone : (blocks : Blocks) (marks : List Mark) (c : CodeFits blocks marks) (k p : ℕ) (ins : Instr) (lk lp : ℕ) (m : Mark) (at : slice_get marks k ≡ Some m) (w : FitsAt k marks m.divided m.leaves (get_or blocks k []) (c.each k m at) p ins) → HoldsLeave blocks k p ins lk lp → Flagged blocks marks c lk lp → w.gone ≡ true
holds_gone blocks marks c k p ins lk lp m at w h f = out h.1 where
  own : (ins : Instr) (n : ℕ) (d o : Bool) → ins ≡ Leave → Fits n marks d o ins → d ≡ true → o ≡ true
  own ins n d o e g z = (subst (λ (x : Instr). Fits n marks d o x) e g) z

  out : (((ins ≡ Leave) × (lk ≡ k) × (lp ≡ p)) ⊎ ((j : ℕ) × (NamesInner ins j × Reaches blocks j lk))) → w.gone ≡ true
  out (inl a) = own ins k _ w.gone a.0 w.fits (subst (λ (q : ℕ). flag_at k marks m.divided m.leaves (get_or blocks k []) (c.each k m at) q ≡ true) a.2 ((subst (λ (i : ℕ). Flagged blocks marks c i lp) a.1 f) m at))
  out (inr b) =
      let z = inner_named k marks _ w.gone ins b.0 w.fits b.1.0 in
      marked_leaving k marks b.0 z.0 w.gone z.1.1 (reached blocks marks c b.0 lk b.1.1 (leave_leaving blocks marks c lk lp h.0 f))

-- each divided place has its flag up
flagged : (blocks : Blocks) (entry : ℕ) (marks : List Mark) (c : CodeFits blocks marks) (k q : ℕ) → Divided blocks entry k q → Flagged blocks marks c k q
flagged blocks entry marks c j q (by_cond k p ins s sp) =
    let g = mark_of blocks marks c k p ins s in
    let w = here_of blocks marks c k p ins g.0 g.1 s in
    let z = split_divided k marks _ w.gone ins j w.fits sp in
    throughout blocks marks c k j q z.0 w.gone z.1.1 z.1.0
flagged blocks entry marks c k q (by_leave f p lk lp ins fr re s h dv lt) = λ m at.
    let w = here_of blocks marks c k p ins m at s in
    w.after q lt (holds_gone blocks marks c k p ins lk lp m at w h (flagged blocks entry marks c lk lp dv))
flagged blocks entry marks c j q (by_round f k p lk lp ins fr re s r h dv) =
    let g = mark_of blocks marks c k p ins s in
    let w = here_of blocks marks c k p ins g.0 g.1 s in
    let z = round_divided k marks _ w.gone ins j w.fits r (holds_gone blocks marks c k p ins lk lp g.0 g.1 w h (flagged blocks entry marks c lk lp dv)) in
    throughout blocks marks c k j q true w.gone z refl
flagged blocks entry marks c j q (by_name k p ins s n dv) =
    let g = mark_of blocks marks c k p ins s in
    let w = here_of blocks marks c k p ins g.0 g.1 s in
    let z = named_divided k marks _ w.gone ins j w.fits n (flagged blocks entry marks c k p dv g.0 g.1) in
    throughout blocks marks c k j q true z.0 z.1 refl

quiet_target : (n : ℕ) (marks : List Mark) (d o : Bool) (ins : Instr) → Fits n marks d o ins → d ≡ true → writes_uniform ins ≡ false
quiet_target n marks d o (Set dst word) f e = f.0 e
quiet_target n marks d o (Copy dst src count) f e = f.0 e
quiet_target n marks d o (Do1 op kind dst a) f e = f.0 e
quiet_target n marks d o (Do2 op kind dst a b) f e = f.0 e
quiet_target n marks d o (Convert from to dst a) f e = f.0 e
quiet_target n marks d o (Bound index size node) f e = f.0 e
quiet_target n marks d o (Gather dst base span at count node) f e = f.0 e
quiet_target n marks d o (Scatter base span at count src node) f e = f.0 e
quiet_target n marks d o (Library id sizes dst args node) f e = f.0 e
quiet_target n marks d o (If c one other) f e = refl
quiet_target n marks d o (Loop test c body node) f e = refl
quiet_target n marks d o (Frame block) f e = refl
quiet_target n marks d o Leave f e = refl

quiet_operands : (n : ℕ) (marks : List Mark) (d o : Bool) (ins : Instr) → Fits n marks d o ins → writes_uniform ins ≡ true → reads_uniform ins ≡ true
quiet_operands n marks d o (Set dst word) f e = f.1 e
quiet_operands n marks d o (Copy dst src count) f e = f.1 e
quiet_operands n marks d o (Do1 op kind dst a) f e = f.1 e
quiet_operands n marks d o (Do2 op kind dst a b) f e = f.1 e
quiet_operands n marks d o (Convert from to dst a) f e = f.1 e
quiet_operands n marks d o (Bound index size node) f e = f.1 e
quiet_operands n marks d o (Gather dst base span at count node) f e = f.1 e
quiet_operands n marks d o (Scatter base span at count src node) f e = f.1 e
quiet_operands n marks d o (Library id sizes dst args node) f e = f.1 e
quiet_operands n marks d o (If c one other) f e = absurd (cc)
quiet_operands n marks d o (Loop test c body node) f e = absurd (cc)
quiet_operands n marks d o (Frame block) f e = refl
quiet_operands n marks d o Leave f e = refl

pub level_safe : (blocks : Blocks) (entry : ℕ) (marks : List Mark) → CodeFits blocks marks → IsLevelSafe blocks entry
level_safe blocks entry marks c k p ins s dv =
    let g = mark_of blocks marks c k p ins s in
    let w = here_of blocks marks c k p ins g.0 g.1 s in
    quiet_target k marks _ w.gone ins w.fits (flagged blocks entry marks c k p dv g.0 g.1)

pub regular : (blocks : Blocks) (marks : List Mark) → CodeFits blocks marks → IsRegular blocks
regular blocks marks c k p ins s =
    let g = mark_of blocks marks c k p ins s in
    let w = here_of blocks marks c k p ins g.0 g.1 s in
    quiet_operands k marks _ w.gone ins w.fits

below : (n : ℕ) (marks : List Mark) (d o : Bool) (ins : Instr) → Fits n marks d o ins → Below n ins
below n marks d o (Set dst word) f = tt
below n marks d o (Copy dst src count) f = tt
below n marks d o (Do1 op kind dst a) f = tt
below n marks d o (Do2 op kind dst a b) f = tt
below n marks d o (Convert from to dst a) f = tt
below n marks d o (Bound index size node) f = tt
below n marks d o (Gather dst base span at count node) f = tt
below n marks d o (Scatter base span at count src node) f = tt
below n marks d o (Library id sizes dst args node) f = tt
below n marks d o (If c one other) f = (f.0.low, f.1.low)
below n marks d o (Loop test c body node) f = (f.3.low, f.4.low)
below n marks d o (Frame block) f = f.low
below n marks d o Leave f = tt

all_below : (n : ℕ) (marks : List Mark) (d out : Bool) (xs : List Instr) → AllFit n marks d out xs → AllBelow n xs
all_below n marks d out [] fit = tt
all_below n marks d out (x ∷ xs) fit = (below n marks d fit.0 x fit.1, all_below n marks (d || fit.0) out xs fit.3)

pub ordered : (blocks : Blocks) (marks : List Mark) → CodeFits blocks marks → IsOrdered blocks
ordered blocks marks c k h = let n = c.count in let g = get_there marks k (omega arith) in all_below k marks g.0.divided g.0.leaves (get_or blocks k []) (c.each k g.0 g.1)

calm_cond : (n : ℕ) (marks : List Mark) (j : ℕ) (d o b : Bool) → AllCalm marks → Marked n marks j (d || not b) o → b ≡ true
calm_cond n marks j d o true h mk = refl
calm_cond n marks j d o false h mk = absurd (both mk.mark.divided (mk.apart (or_right d true refl)) (h j mk.mark mk.at)) where
  both : (b : Bool) → b ≡ true → b ≡ false → ⊥
  both b e f = absurd (cc)

calm_loop : (n : ℕ) (marks : List Mark) (j : ℕ) (d o b e : Bool) → AllCalm marks → ((d || not b) ≡ true → e ≡ true) → Marked n marks j e o → b ≡ true
calm_loop n marks j d o b e h f mk = calm_cond n marks j d o b h (record { low = mk.low; mark = mk.mark; at = mk.at; apart = λ z. mk.apart (f z); gone = mk.gone })

calm_instr : (n : ℕ) (marks : List Mark) (d o : Bool) (ins : Instr) → AllCalm marks → Fits n marks d o ins → UniformCond ins
calm_instr n marks d o (Set dst word) h f = tt
calm_instr n marks d o (Copy dst src count) h f = tt
calm_instr n marks d o (Do1 op kind dst a) h f = tt
calm_instr n marks d o (Do2 op kind dst a b) h f = tt
calm_instr n marks d o (Convert from to dst a) h f = tt
calm_instr n marks d o (Bound index size node) h f = tt
calm_instr n marks d o (Gather dst base span at count node) h f = tt
calm_instr n marks d o (Scatter base span at count src node) h f = tt
calm_instr n marks d o (Library id sizes dst args node) h f = tt
calm_instr n marks d o (If c one other) h f = calm_cond n marks one d o (is_uniform c) h f.0
calm_instr n marks d o (Loop test c body node) h f = calm_loop n marks test d o (is_uniform c) f.0 h f.1 f.3
calm_instr n marks d o (Frame block) h f = tt
calm_instr n marks d o Leave h f = tt

pub undivided : (blocks : Blocks) (marks : List Mark) → CodeFits blocks marks → AllCalm marks → IsUndivided blocks
undivided blocks marks c h k p ins s =
    let g = mark_of blocks marks c k p ins s in
    let w = here_of blocks marks c k p ins g.0 g.1 s in
    calm_instr k marks _ w.gone ins h w.fits

pub marks_suffice : (blocks : Blocks) (marks : List Mark) → CodeFits blocks marks → IsSafeCode blocks marks
marks_suffice blocks marks c = record {
  ordered = ordered blocks marks c;
  regular = regular blocks marks c;
  safe = λ entry. level_safe blocks entry marks c;
  calm = undivided blocks marks c;
}
