-- The machine goes one way, so where it has to stop no module goes on.
use Rattle.std.proofs.Common.{◌≡◌, ℕ, zero, suc, ◌+◌, ◌<◌, ◌≤◌, ◌⊎◌, inl, inr, List, [], ◌∷◌, ◌++◌, length, take, slice_get, Option, Some, None, option_map, arith, sym, ap, ap₂, ◌∙◌, refl, subst, ⊎_elim}
use Rattle.ctl_tree.specs.declared.token.TokenKind.{TokenKind}
use Rattle.ctl_tree.specs.declared.definition.Module.{Module}
use Rattle.ctl_tree.specs.Lexemes.{Lexeme, kind_at, bytes_at, spelled, Within}
use Rattle.ctl_tree.specs.Modules.{IsModule}
use Rattle.ctl_tree.specs.Beginnings.{Begins, NoModule}
use Rattle.grammar_machine.specs.Machine.{Symbol, Move, Reads, Expands, Stops, move, needs, start, Reaches, here, expands, reads, StopsAt, SinksAt}
use Rattle.grammar_machine.proofs.Reach.{reaches_from}
use Rattle.grammar_machine.proofs.PassModules.{passes_module}

-- one way

pub same_move : {stack below below' : List Symbol} {top top' : Symbol} (k : Option TokenKind) (bytes : List ℕ) {m m' : Move} → stack ≡ top ∷ below → stack ≡ top' ∷ below'
    → move top k bytes ≡ m → move top' k bytes ≡ m' → m ≡ m'
same_move {top = top} {top' = top'} k bytes e e' is is' =
    let tops : top ≡ top' = let z = sym e ∙ e' in cc in
    sym is ∙ ap (λ t. move t k bytes) tops ∙ is'

pub same_below : {stack below below' : List Symbol} {top top' : Symbol} → stack ≡ top ∷ below → stack ≡ top' ∷ below' → below ≡ below'
same_below e e' = let z = sym e ∙ e' in cc

pub expands_same : {m m' : ℕ} {ys ys' : List Symbol} → Expands m ys ≡ Expands m' ys' → ys ≡ ys'
expands_same e = cc

pub reads_same : {m m' : ℕ} {ys ys' : List Symbol} → Reads m ys ≡ Reads m' ys' → ys ≡ ys'
reads_same e = cc

pub expands-reads : {m m' : ℕ} {ys ys' : List Symbol} → Expands m ys ≡ Reads m' ys' → ⊥
expands-reads e = cc

-- of two ways from one stack and place, one goes on where the other ends
pub one_way : {T : List Lexeme} {L : Option ℕ} {a b c : List Symbol} {i j k : ℕ} → Reaches T L a i b j → Reaches T L a i c k → Reaches T L b j c k ⊎ Reaches T L c k b j
one_way (here e e') r = inl (reaches_from (sym e) (sym e') r)
one_way (expands top below ys m e is within r) (here e' e'') = inr (reaches_from (sym e') (sym e'') (expands top below ys m e is within r))
one_way (reads top below ys m e is within r) (here e' e'') = inr (reaches_from (sym e') (sym e'') (reads top below ys m e is within r))
one_way (expands top below ys m e is within r) (expands top' below' ys' m' e' is' within' r') =
    one_way r (reaches_from (ap₂ ◌++◌ (expands_same (same_move _ _ e e' is is')) (same_below e e')) refl r')
one_way (reads top below ys m e is within r) (reads top' below' ys' m' e' is' within' r') =
    one_way r (reaches_from (ap₂ ◌++◌ (reads_same (same_move _ _ e e' is is')) (same_below e e')) refl r')
one_way (expands top below ys m e is within r) (reads top' below' ys' m' e' is' within' r') = absurd (expands-reads (same_move _ _ e e' is is'))
one_way (reads top below ys m e is within r) (expands top' below' ys' m' e' is' within' r') = absurd (expands-reads (same_move _ _ e' e is' is))

-- without the limit the machine goes the same way
pub unlimited : {T : List Lexeme} {limit : ℕ} {a b : List Symbol} {i j : ℕ} → Reaches T (Some limit) a i b j → Reaches T None a i b j
unlimited (here e e') = here e e'
unlimited (expands top below ys m e is within r) = expands top below ys m e is tt (unlimited r)
unlimited (reads top below ys m e is within r) = reads top below ys m e is tt (unlimited r)

-- places never fall
pub goes_up : {T : List Lexeme} {L : Option ℕ} {a b : List Symbol} {i j : ℕ} → Reaches T L a i b j → i ≤ j
goes_up (here e e') = omega arith
goes_up (expands top below ys m e is within r) = goes_up r
goes_up (reads top below ys m e is within r) = omega (arith, goes_up r)

-- the lexemes up to a place are all that counts for the way to it
pub same_step : (T U : List Lexeme) (x : Symbol) (i : ℕ) → slice_get T i ≡ slice_get U i → move x (kind_at T i) (bytes_at T i) ≡ move x (kind_at U i) (bytes_at U i)
same_step T U x i same = ap (λ o. move x (option_map (λ (lexeme : Lexeme). lexeme.kind) o) (spelled o)) same

pub same_reach : {T : List Lexeme} (U : List Lexeme) (k : ℕ) {L : Option ℕ} {a b : List Symbol} {i j : ℕ} → ((p : ℕ) → p ≤ k → slice_get T p ≡ slice_get U p)
    → Reaches T L a i b j → j ≤ k → Reaches U L a i b j
same_reach U k same (here e e') le = here e e'
same_reach {T} U k same (expands {i = i} top below ys m e is within r) le =
    expands top below ys m e (sym (same_step T U top i (same i (omega (arith, goes_up r)))) ∙ is) within (same_reach U k same r le)
same_reach {T} U k same (reads {i = i} top below ys m e is within r) le =
    reads top below ys m e (sym (same_step T U top i (same i (omega (arith, goes_up r)))) ∙ is) within (same_reach U k same r le)

-- where the way ends

pub some_left : {top : Symbol} {below : List Symbol} → [] ≡ top ∷ below → ⊥
some_left e = cc

pub from_empty : {T : List Lexeme} {L : Option ℕ} {top : Symbol} {below : List Symbol} {i j : ℕ} → Reaches T L [] i (top ∷ below) j → ⊥
from_empty (here e e') = some_left e
from_empty (expands top below ys m e is within r) = some_left e
from_empty (reads top below ys m e is within r) = some_left e

pub expands-stops : {m : ℕ} {ys : List Symbol} → Expands m ys ≡ Stops → ⊥
expands-stops e = cc

pub reads-stops : {m : ℕ} {ys : List Symbol} → Reads m ys ≡ Stops → ⊥
reads-stops e = cc

pub from_stop : {T : List Lexeme} {L : Option ℕ} {top : Symbol} {below : List Symbol} {i j : ℕ} → move top (kind_at T i) (bytes_at T i) ≡ Stops → Reaches T L (top ∷ below) i [] j → ⊥
from_stop stops (here e e') = some_left (sym e)
from_stop stops (expands top below ys m e is within r) = expands-stops (same_move _ _ e refl is stops)
from_stop stops (reads top below ys m e is within r) = reads-stops (same_move _ _ e refl is stops)

pub from_sink : {T : List Lexeme} {L : Option ℕ} {top : Symbol} {below : List Symbol} {i j : ℕ} → (Within L (needs (move top (kind_at T i) (bytes_at T i))) → ⊥) → Reaches T L (top ∷ below) i [] j → ⊥
from_sink sinks (here e e') = some_left (sym e)
from_sink {L = L} sinks (expands top below ys m e is within r) = let P : Move → Type 0 = λ v. Within L (needs v) in sinks (subst P (same_move _ _ e refl is refl) within)
from_sink {L = L} sinks (reads top below ys m e is within r) = let P : Move → Type 0 = λ v. Within L (needs v) in sinks (subst P (same_move _ _ e refl is refl) within)

-- a machine that comes to the empty stack has not stopped before
pub no_stop : {T : List Lexeme} {L : Option ℕ} {stack : List Symbol} {i j place : ℕ} → Reaches T L stack i [] j → StopsAt T L stack i place → ⊥
no_stop r s = ⊎_elim (λ after. from_empty after) (λ after. from_stop s.stops after) (one_way r s.reached)

pub no_sink : {T : List Lexeme} {L : Option ℕ} {stack : List Symbol} {i j place : ℕ} → Reaches T L stack i [] j → SinksAt T L stack i place → ⊥
no_sink r s = ⊎_elim (λ after. from_empty after) (λ after. from_sink s.sinks after) (one_way r s.reached)

-- modules

pub same_stops : {T : List Lexeme} (U : List Lexeme) {limit k : ℕ} {stack : List Symbol} {i : ℕ} → StopsAt T (Some limit) stack i k → ((p : ℕ) → p ≤ k → slice_get T p ≡ slice_get U p)
    → StopsAt U None stack i k
same_stops {T} U {k = k} s same = record {
  top = s.top;
  below = s.below;
  reached = same_reach U k same (unlimited s.reached) (omega arith);
  stops = sym (same_step T U s.top k (same k (omega arith))) ∙ s.stops;
}

pub same_sinks : {T : List Lexeme} (U : List Lexeme) {limit k : ℕ} {stack : List Symbol} {i : ℕ} → SinksAt T (Some limit) stack i k → ((p : ℕ) → p ≤ k → slice_get T p ≡ slice_get U p)
    → SinksAt U (Some limit) stack i k
same_sinks {T} U {limit} {k} s same =
    let P : Move → Type 0 = λ v. Within (Some limit) (needs v) in
    record { top = s.top; below = s.below; reached = same_reach U k same s.reached (omega arith); sinks = λ within. s.sinks (subst P (sym (same_step T U s.top k (same k (omega arith)))) within) }

pub dead_not_here : (T U : List Lexeme) (limit k : ℕ) → StopsAt T (Some limit) start 0 k → ((p : ℕ) → p ≤ k → slice_get T p ≡ slice_get U p) → (m : Module) → IsModule U None m → ⊥
dead_not_here T U limit k s same m h = no_stop (passes_module h []) (same_stops U s same)

pub dead_depth : (T U : List Lexeme) (limit k : ℕ) → SinksAt T (Some limit) start 0 k → ((p : ℕ) → p ≤ k → slice_get T p ≡ slice_get U p) → (m : Module) → IsModule U (Some limit) m → ⊥
dead_depth T U limit k s same m h = no_sink (passes_module h []) (same_sinks U s same)

-- beginnings

pub front_same : (T more : List Lexeme) (n p : ℕ) → p < n → p < length T → slice_get T p ≡ slice_get (take n T ++ more) p
front_same [] more n p lt within = absurd (omega arith)
front_same (t ∷ T) more zero p lt within = absurd (omega arith)
front_same (t ∷ T) more (suc n) zero lt within = refl
front_same (t ∷ T) more (suc n) (suc p) lt within = front_same T more n p (omega arith) (omega arith)

pub not_here_none : (T : List Lexeme) (limit k : ℕ) → StopsAt T (Some limit) start 0 k → k < length T → Begins T None (k + 1) → ⊥
not_here_none T limit k s within b = dead_not_here T (take (k + 1) T ++ b.more) limit k s (λ p le. front_same T b.more (k + 1) p (omega arith) (omega arith)) b.form b.spelt

pub unfinished : (T : List Lexeme) (limit : ℕ) → StopsAt T (Some limit) start 0 (length T) → NoModule T None
unfinished T limit s m h = dead_not_here T T limit (length T) s (λ p le. refl) m h

pub depth_none : (T : List Lexeme) (limit k : ℕ) → SinksAt T (Some limit) start 0 k → k < length T → Begins T (Some limit) (k + 1) → ⊥
depth_none T limit k s within b = dead_depth T (take (k + 1) T ++ b.more) limit k s (λ p le. front_same T b.more (k + 1) p (omega arith) (omega arith)) b.form b.spelt
