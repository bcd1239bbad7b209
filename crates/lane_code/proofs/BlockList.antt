-- The loop over the blocks that are tested.
use Rattle.std.proofs.Common.{◌≡◌, ℕ, zero, suc, ◌<◌, ◌≤◌, ◌+◌, List, [], ◌∷◌, length, drop, get_or, Bool, true, false, ◌&&◌, sym, ap, ◌∙◌, arith}
use Rattle.std.proofs.lemmas.List.{drop_more}
use Rattle.lane_code.specs.declared.valid.Numbers.{Numbers}
use Rattle.lane_code.specs.declared.instr.Instr.{Instr}
use Rattle.lane_code.specs.Instructions.{Blocks}
use Rattle.lane_code.specs.Valid.{valid_block, valid_blocks}

one_more_block : (n : Numbers) (blocks : Blocks) (k : ℕ) (r : List Instr) → r ≡ get_or blocks k r → k < length blocks → valid_blocks n k (drop k blocks) ≡ valid_block n k r && valid_blocks n (suc k) (drop (k + 1) blocks)
one_more_block n blocks k r e h = ap (valid_blocks n k) (drop_more blocks k r h) ∙ ap (λ (b : List Instr). valid_block n k b && valid_blocks n (suc k) (drop (k + 1) blocks)) (sym e)

false_and : (a b c : Bool) → a ≡ false → c ≡ a && b → c ≡ false
false_and true b c e f = absurd (cc)
false_and false b c e f = f

true_and : (a b c : Bool) → a ≡ true → c ≡ a && b → b ≡ c
true_and true b c e f = sym f
true_and false b c e f = absurd (cc)

pub block_not : (n : Numbers) (blocks : Blocks) (k : ℕ) (r : List Instr) (v : Bool) → k < length blocks → r ≡ get_or blocks k r → valid_block n k r ≡ false → valid_blocks n k (drop k blocks) ≡ v → false ≡ v
block_not n blocks k r v h q e i = sym (false_and _ _ _ e (one_more_block n blocks k r q h)) ∙ i

pub block_next : (n : Numbers) (blocks : Blocks) (k : ℕ) (r : List Instr) (v : Bool) → k < length blocks → r ≡ get_or blocks k r → valid_block n k r ≡ true → valid_blocks n k (drop k blocks) ≡ v → valid_blocks n (k + 1) (drop (k + 1) blocks) ≡ v
block_next n blocks k r v h q e i = ap (λ (m : ℕ). valid_blocks n m (drop (k + 1) blocks)) (let s : k + 1 ≡ suc k = omega arith in s) ∙ true_and _ _ _ e (one_more_block n blocks k r q h) ∙ i

pub blocks_end : (n : Numbers) (blocks : Blocks) (k m : ℕ) (v : Bool) → length blocks ≤ k → valid_blocks n m (drop k blocks) ≡ v → true ≡ v
blocks_end n [] zero m v h i = i
blocks_end n [] (suc k) m v h i = i
blocks_end n (b ∷ blocks) zero m v h i = absurd (omega arith)
blocks_end n (b ∷ blocks) (suc k) m v h i = blocks_end n blocks k m v (omega arith) i
