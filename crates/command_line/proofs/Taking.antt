-- The words behind an option, taken one by one.
use Rattle.std.proofs.Common.{◌≡◌, ℕ, ◌+◌, List, [], ◌∷◌, length, sym, subst, arith}
use Rattle.command_line.specs.declared.following.Refusal.{Refusal}
use Rattle.command_line.specs.declared.following.Refusal.TheVariants.{At, Memory}
use Rattle.command_line.specs.Options.{Rule}
use Rattle.command_line.specs.Following.{Value, Says, Fails, Follow, Break}
use Rattle.command_line.specs.Taking.{BreaksAt}

pub follow_behind : (kinds : List ℕ) (rule : Rule) (rules : List Rule) (words : List (List ℕ)) (word : List ℕ) (more : List (List ℕ)) (v : Value) (vs : List Value) → words ≡ word ∷ more → Says kinds rule word v → Follow kinds rules more vs → Follow kinds (rule ∷ rules) words (v ∷ vs)
follow_behind kinds rule rules words word more v vs e h k = subst (λ (x : List (List ℕ)). Follow kinds (rule ∷ rules) x (v ∷ vs)) (sym e) (h, k)

pub follow_one : (kinds : List ℕ) (rule : Rule) (words : List (List ℕ)) (word : List ℕ) (more : List (List ℕ)) (v : Value) → words ≡ word ∷ more → Says kinds rule word v → Follow kinds (rule ∷ []) words (v ∷ [])
follow_one kinds rule words word more v e h = follow_behind kinds rule [] words word more v [] e h tt

pub break_one : (kinds : List ℕ) (rule : Rule) (rules : List Rule) (words : List (List ℕ)) (word : List ℕ) (more : List (List ℕ)) → words ≡ word ∷ more → Fails kinds rule word → Break kinds (rule ∷ rules) words []
break_one kinds rule rules words word more e h = subst (λ (x : List (List ℕ)). Break kinds (rule ∷ rules) x []) (sym e) h

pub break_first : (kinds : List ℕ) (rule : Rule) (rules : List Rule) (words : List (List ℕ)) (vs : List Value) → Break kinds (rule ∷ []) words vs → Break kinds (rule ∷ rules) words vs
break_first kinds rule rules [] vs h = absurd h
break_first kinds rule rules (word ∷ words) [] h = h
break_first kinds rule rules (word ∷ words) (v ∷ vs) h = absurd h.1

-- what fails first in a shorter list of rules
pub breaks_first : (kinds : List ℕ) (rule : Rule) (rules : List Rule) (words : List (List ℕ)) (before : ℕ) (refusal : Refusal) → BreaksAt kinds (rule ∷ []) words before refusal → BreaksAt kinds (rule ∷ rules) words before refusal
breaks_first kinds rule rules words before (At n) h = (h.0, break_first kinds rule rules words h.0 h.1, h.2)
breaks_first kinds rule rules words before Memory h = tt

-- what fails behind a word that passes
pub breaks_behind : (kinds : List ℕ) (rule : Rule) (rules : List Rule) (words : List (List ℕ)) (word : List ℕ) (more : List (List ℕ)) (v : Value) (before next : ℕ) (refusal : Refusal) → words ≡ word ∷ more → Says kinds rule word v → next ≡ before + 1 → BreaksAt kinds rules more next refusal → BreaksAt kinds (rule ∷ rules) words before refusal
breaks_behind kinds rule rules words word more v before next (At n) e h s k =
    let b : n ≡ length k.0 + next = k.2 in
    (v ∷ k.0, subst (λ (x : List (List ℕ)). Break kinds (rule ∷ rules) x (v ∷ k.0)) (sym e) (h, k.1), omega arith)
breaks_behind kinds rule rules words word more v before next Memory e h s k = tt
