-- One item more.
use Rattle.std.proofs.Common.{◌≡◌, ℕ, ◌≤◌, List, [], ◌∷◌, ◌++◌, length, drop, Ok, sym, ap, subst, length-drop, arith}
use Rattle.command_line.specs.declared.item.Item.{Item}
use Rattle.command_line.specs.CommandWords.{Spell}
use Rattle.command_line.specs.Taking.{TakesNext}
use Rattle.command_line.proofs.Once.{behind, behind_append}
use Rattle.command_line.proofs.Wider.{spell_then}

-- the item that is read next is spelled by its words
pub one_more : (kinds : List ℕ) (items all : List Item) (words last : List (List ℕ)) (word : List ℕ) (more : List (List ℕ)) (taken : Item × ℕ) → Spell kinds [] items words last → last ≡ word ∷ more → TakesNext kinds items word more (Ok taken) → all ≡ items ++ taken.0 ∷ [] → Spell kinds [] all words (drop taken.1 more)
one_more kinds items all words last word more taken h e k f =
    let one : Spell kinds items (taken.0 ∷ []) (word ∷ more) (drop taken.1 more) =
    (k.0, k.1, k.2, k.3, k.4, ap (λ (n : ℕ). drop n more) (sym k.5)) in
    let there : Spell kinds (behind [] items) (taken.0 ∷ []) last (drop taken.1 more) =
    subst (λ (x : List Item). Spell kinds x (taken.0 ∷ []) last (drop taken.1 more)) (sym (behind_append [] items))
    (subst (λ (x : List (List ℕ)). Spell kinds items (taken.0 ∷ []) x (drop taken.1 more)) (sym e) one) in
    subst (λ (x : List Item). Spell kinds [] x words (drop taken.1 more)) (sym f) (spell_then kinds [] items (taken.0 ∷ []) words last (drop taken.1 more) h there)

pub shorter : (words last : List (List ℕ)) (word : List ℕ) (more : List (List ℕ)) (n : ℕ) → length last ≤ length words → last ≡ word ∷ more → length (drop n more) ≤ length words
shorter words last word more n h e =
    let l = ap length e in
    let d = length-drop n more in
    omega arith
