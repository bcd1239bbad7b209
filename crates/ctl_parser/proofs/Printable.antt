-- Bytes that may stand in the text of an import.
use Rattle.std.proofs.Common.{arith, ◌≡◌, ℕ, suc, ◌<◌, ◌≤◌, ◌&&◌, true, false, List, [], ◌∷◌, length, get_or, All, refl}
use Rattle.std.specs.Prelude.{nat_le}
use Rattle.std.proofs.lemmas.Bool.{false_from_ne_true, and_parts, and_from, leb-true, le-leb}
use Rattle.std.proofs.lemmas.List.Recursion.{and_fails_at}
use Rattle.ctl_tree.specs.Modules.{IsPrintable}
use Rattle.grammar_machine.specs.Front.{all_printable}

pub printable : (bytes : List ℕ) → All IsPrintable bytes → all_printable bytes ≡ true
printable [] h = refl
printable (b ∷ bytes) h =
    let first : IsPrintable b = h 0 0 (omega arith) in
    and_from _ _ (and_from _ _ (le-leb 32 b first.0) (le-leb b 126 first.1)) (printable bytes (λ k d lt. h (suc k) d (omega arith)))

not_shown : (b : ℕ) → (32 ≤ b → b ≤ 126 → ⊥) → (nat_le 32 b && nat_le b 126) ≡ false
not_shown b h = false_from_ne_true _ (λ both. let parts = and_parts _ _ both in h (leb-true 32 b parts.0) (leb-true b 126 parts.1))

pub one_unprintable : (bytes : List ℕ) (i : ℕ) → i < length bytes → (32 ≤ get_or bytes i 0 → get_or bytes i 0 ≤ 126 → ⊥) → all_printable bytes ≡ false
one_unprintable bytes i lt h = and_fails_at all_printable (λ b. nat_le 32 b && nat_le b 126) refl (λ b bytes. refl) bytes i 0 lt (not_shown (get_or bytes i 0) h)
