-- How an operand climbs from the tightest level of operators to looser ones: the operators that may still come, from the tightest to the loosest.
use Rattle.std.proofs.Common.{arith, ◌≡◌, ◌≢◌, ◌⊎◌, inl, inr, ℕ, zero, suc, ◌+◌, ◌-◌, ◌<◌, ◌≤◌, cond, nat_lt, List, [], ◌∷◌, ◌++◌, Option, Some, None, ap, sym, ◌∙◌, subst, refl, add-one, le_of_eq}
use Rattle.std.proofs.lemmas.Bool.{cases_lt, lt-ltb, le-ltb, cond-true, cond-false}
use Rattle.std.specs.Prelude.{IsSome, fold}
use Rattle.ctl_tree.specs.declared.expression.Operator.{Operator}
use Rattle.ctl_tree.specs.declared.expression.Expr.{Expr}
use Rattle.ctl_tree.specs.declared.expression.Expr.TheVariants.{Chain}
use Rattle.ctl_tree.specs.declared.expression.Chain.{roll-Chain}
use Rattle.ctl_tree.specs.declared.expression.Link.{Link, out-Link}
use Rattle.ctl_tree.specs.Lexemes.{Lexeme, kind_at}
use Rattle.ctl_tree.specs.Names.{operator_of, operator_levels}
use Rattle.ctl_tree.specs.declared.expression.Step.{Step}
use Rattle.ctl_tree.specs.Expressions.{IsOperand, alone, linked, AreLinks, IsPrimary, AreSteps, no_step, IsPostfix, bare, last_operator}
use Rattle.grammar_machine.specs.Machine.{Symbol, Operand, Links, UnaryForm, Expands, after_operator}
use Rattle.ctl_parser_expr.specs.Parses.{End, Comes}
use Rattle.ctl_parser_expr.proofs.Ways.{expand}

tighter : (level n : ℕ) → level ≡ operator_levels
    → cond (nat_lt level operator_levels) (Expands 0 (Operand (level + 1) n ∷ Links level n ∷ [])) (Expands 0 (UnaryForm n ∷ [])) ≡ Expands 0 (UnaryForm n ∷ [])
tighter level n e = cond-false (nat_lt level operator_levels) _ _ (le-ltb level operator_levels (le_of_eq (sym e)))

looser_operand : (level n : ℕ) → level < operator_levels
    → cond (nat_lt level operator_levels) (Expands 0 (Operand (level + 1) n ∷ Links level n ∷ [])) (Expands 0 (UnaryForm n ∷ [])) ≡ Expands 0 (Operand (level + 1) n ∷ Links level n ∷ [])
looser_operand level n lt = cond-true (nat_lt level operator_levels) _ _ (lt-ltb level operator_levels lt)

-- the links that may follow an operand of the level `tight`, down to a level
abbrev pub ladder : ℕ → ℕ → ℕ → List Symbol
ladder n level zero = []
ladder n level (suc t) = cond (nat_lt t level) [] (Links t n ∷ ladder n level t)

rung : (n level t : ℕ) → level ≤ t → ladder n level (suc t) ≡ Links t n ∷ ladder n level t
rung n level t le = cond-false (nat_lt t level) _ _ (le-ltb t level le)

pub rung_above : (n level t : ℕ) → level ≤ t → ladder n level (t + 1) ≡ Links t n ∷ ladder n level t
rung_above n level t le = ap (ladder n level) (add-one t) ∙ rung n level t le

pub no_rung : (n level : ℕ) → ladder n level level ≡ []
no_rung n zero = refl
no_rung n (suc t) = cond-true (nat_lt t (suc t)) _ _ (lt-ltb t (suc t) (omega arith))

module _ {T : List Lexeme} {L : Option ℕ} where
  -- no operator of the levels between stands here, so the links of these levels are empty
  descend : (n level tight looser j : ℕ) (below : List Symbol) {end : End} → level ≤ looser → looser ≤ tight
      → ((m : ℕ) → looser ≤ m → m < tight → operator_of m (kind_at T j) ≡ None) → Comes T L (ladder n level looser ++ below) j end → Comes T L (ladder n level tight ++ below) j end
  descend n level zero looser j below {end} from le none c = subst (λ t. Comes T L (ladder n level t ++ below) j end) (let e : looser ≡ zero = omega (arith, le) in e) c
  descend n level (suc t) looser j below {end} from le none c =
      elim (cases_lt t looser) [
        | inl lt ↦ subst (λ t. Comes T L (ladder n level t ++ below) j end) (let e : looser ≡ suc t = omega (arith, le, lt) in e) c
        | inr ge ↦
            subst (λ ys. Comes T L (ys ++ below) j end) (sym (rung n level t (let h : level ≤ t = omega (arith, from, ge) in h)))
            (expand (ap (after_operator t n) (none t ge (let h : t < suc t = omega arith in h)))
            (descend n level t looser j below from ge (λ m h h'. none m h (let k : m < suc t = omega (arith, h') in k)) c))
      ]

  pub loosen : (n tight looser i j : ℕ) {e : Expr} → looser ≤ tight → tight ≤ operator_levels → ((m : ℕ) → looser ≤ m → m < tight → operator_of m (kind_at T j) ≡ None)
      → IsOperand T L tight n i e j → IsOperand T L looser n i e j
  loosen n zero looser i j {e} le top none h = subst (λ t. IsOperand T L t n i e j) (let q : zero ≡ looser = omega (arith, le) in q) h
  loosen n (suc t) looser i j {e} le top none h =
      elim (cases_lt t looser) [
        | inl lt ↦ subst (λ t. IsOperand T L t n i e j) (let q : suc t ≡ looser = omega (arith, le, lt) in q) h
        | inr ge ↦
            loosen n t looser i j ge (omega (arith, top)) (λ m a b. none m a (let k : m < suc t = omega (arith, b) in k))
            (alone (omega (arith, top)) (subst (λ t. IsOperand T L t n i e j) (sym (add-one t)) h) (none t ge (let k : t < suc t = omega arith in k)))
      ]

  -- the machine puts the links of all levels from a level on below a unary form
  rise : (n level d l i : ℕ) (below : List Symbol) {end : End} → l + d ≡ operator_levels → level ≤ l → Comes T L (UnaryForm n ∷ ladder n level operator_levels ++ below) i end
      → Comes T L (Operand l n ∷ ladder n level l ++ below) i end
  rise n level zero l i below {end} e from c =
      let q : l ≡ operator_levels = omega (arith, e) in
      expand (tighter l n q) (subst (λ t. Comes T L (UnaryForm n ∷ ladder n level t ++ below) i end) (sym q) c)
  rise n level (suc d) l i below {end} e from c =
      expand (looser_operand l n (let h : l < operator_levels = omega (arith, e) in h))
      (subst (λ ys. Comes T L (Operand (l + 1) n ∷ ys ++ below) i end) (rung_above n level l from) (rise n level d (l + 1) i below (omega (arith, e)) (omega (arith, from)) c))

  pub begin : (n level i : ℕ) {below : List Symbol} {end : End} → level ≤ operator_levels → Comes T L (UnaryForm n ∷ ladder n level operator_levels ++ below) i end → Comes T L (Operand level n ∷ below) i end
  begin n level i {below} {end} le c =
      subst (λ ys. Comes T L (Operand level n ∷ ys ++ below) i end) (no_rung n level)
      (rise n level (operator_levels - level) level i below (omega (arith, le)) (omega arith) c)

  -- the links of the next operator's level are reached
  pub to_rung : (n level tight looser j : ℕ) (below : List Symbol) {end : End} → level ≤ looser → looser < tight → ((m : ℕ) → m ≢ looser → operator_of m (kind_at T j) ≡ None)
      → Comes T L (Links looser n ∷ ladder n level looser ++ below) j end → Comes T L (ladder n level tight ++ below) j end
  to_rung n level tight looser j below {end} from lt none c =
      descend n level tight (looser + 1) j below (omega (arith, from)) (omega (arith, lt)) (λ m h h'. none m (let k : m ≢ looser = omega (arith, h) in k))
      (subst (λ ys. Comes T L (ys ++ below) j end) (sym (rung_above n level looser from)) c)

  -- at the end all links are empty
  pub land : (n level tight j : ℕ) (below : List Symbol) {end : End} → level ≤ tight → ((m : ℕ) → level ≤ m → m < tight → operator_of m (kind_at T j) ≡ None) → Comes T L below j end → Comes T L (ladder n level tight ++ below) j end
  land n level tight j below {end} le none c = descend n level tight level j below (omega arith) le none (subst (λ ys. Comes T L (ys ++ below) j end) (sym (no_rung n level)) c)

  -- an operand of the next tighter level and its links
  pub linked_of : (n level i k j token : ℕ) {first given : Expr} {links items : List Link} → level < operator_levels → given ≡ first → links ≡ items → AreLinks T L level n k items j → items ≢ []
      → token ≡ last_operator items → IsOperand T L (level + 1) n i first k → IsOperand T L level n i (Chain (roll-Chain (record { first = given; links = links; token = token }))) j
  linked_of n level i k j token {first} {given} {links} {items} lt same is are some last h =
      subst (λ given. IsOperand T L level n i (Chain (roll-Chain (record { first = given; links = links; token = token }))) j) (sym same)
      (subst (λ links. IsOperand T L level n i (Chain (roll-Chain (record { first = first; links = links; token = token }))) j) (sym is)
      (subst (λ token. IsOperand T L level n i (Chain (roll-Chain (record { first = first; links = items; token = token }))) j) (sym last) (linked k lt h are some)))

last_from : (b : ℕ) (links : List Link) (link : Link) → fold (λ before (link : Link). (out-Link link).token) b (links ++ link ∷ []) ≡ (out-Link link).token
last_from b [] link = refl
last_from b (first ∷ links) link = last_from (out-Link first).token links link

-- the last link is that which was put last
pub last_link : (links : List Link) (link : Link) → last_operator (links ++ link ∷ []) ≡ (out-Link link).token
last_link links link = last_from 0 links link

there : (o : Option Operator) → IsSome o → o ≡ None → ⊥
there None some e = absurd cc
there (Some operator) some e = absurd cc

-- no list that something was put into is empty
pub not_empty : (links : List Link) (link : Link) → links ++ link ∷ [] ≢ []
not_empty [] link e = absurd cc
not_empty (first ∷ links) link e = absurd cc

-- where an operator of the level stood first and none stands now, there is a link
pub some_link : (T : List Lexeme) (level i j : ℕ) (links : List Link) → ((links ≡ []) × (j ≡ i)) ⊎ ((links ≢ []) × (i < j)) → IsSome (operator_of level (kind_at T i)) → operator_of level (kind_at T j) ≡ None
    → (links ≢ []) × (i < j)
some_link T level i j links (inr moved) some none = moved
some_link T level i j links (inl (e, is)) some none = absurd (there (operator_of level (kind_at T i)) some (subst (λ k. operator_of level (kind_at T k) ≡ None) is none))

-- a form with no step behind it
pub bare_of : (T : List Lexeme) (L : Option ℕ) (n i k j : ℕ) (e : Expr) (steps : List Step) → IsPrimary T L n i e k → AreSteps T L n k steps j → steps ≡ [] → IsPostfix T L n i e j
bare_of T L n i k j e [] h (no_step lacks lacks' q) is = subst (IsPostfix T L n i e) (sym q) (bare h (no_step lacks lacks' refl))
bare_of T L n i k j e (step ∷ steps) h are is = absurd cc
