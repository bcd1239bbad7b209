-- Sizes of statements, by which walks through them end.
use Rattle.std.proofs.Common.{◌≡◌, ◌<◌, ◌≤◌, ℕ, zero, suc, ◌+◌, List, [], ◌∷◌, map, length, get_or, Option, Some, None, ap, arith}
use Rattle.ctl_types.specs.declared.statement.TypedStatement.{TypedStatement}
use Rattle.ctl_types.specs.declared.statement.TypedStatement.TheOpen.{TypedStatement-F, Arm-F, Empty, Block, Declare, Assign, Call, If, While, For, Return, Print}
use Rattle.ctl_types.specs.declared.statement.TypedStatement.TheFolds.{fold-TypedStatement, fold-Arm, fold_out-Arm}
use Rattle.ctl_types.specs.declared.statement.Arm.{Arm}

abbrev pub total : List ℕ → ℕ
total [] = 0
total (n ∷ sizes) = n + total sizes

abbrev pub otherwise_weight : Option ℕ → ℕ
otherwise_weight None = 0
otherwise_weight (Some n) = n

abbrev pub statement_weight : TypedStatement-F ℕ ℕ → ℕ
statement_weight Empty = 8
statement_weight (Block parts) = 8 + total parts
statement_weight (Declare d) = 8
statement_weight (Assign a) = 8
statement_weight (Call c) = 8
statement_weight (If arms otherwise) = 8 + (total arms + otherwise_weight otherwise)
statement_weight (While test body node) = 8 + body
statement_weight (For first test next body node) = 8 + body
statement_weight (Return o) = 8
statement_weight (Print items) = 8

abbrev pub arm_weight : Arm-F ℕ ℕ → ℕ
arm_weight a = 8 + a.body

abbrev pub statement_size : TypedStatement → ℕ
statement_size = fold-TypedStatement ℕ ℕ statement_weight arm_weight

abbrev pub arm_size : Arm → ℕ
arm_size = fold-Arm ℕ ℕ statement_weight arm_weight

abbrev pub otherwise_size : Option TypedStatement → ℕ
otherwise_size None = 0
otherwise_size (Some s) = statement_size s

pub arm_size_is : (a : Arm) → arm_size a ≡ 8 + statement_size a.body
arm_size_is a = fold_out-Arm ℕ ℕ statement_weight arm_weight a

pub at_most : {A : Type 0} (f : A → ℕ) (xs : List A) (i : ℕ) (a : A) → i < length xs → a ≡ get_or xs i a → f a ≤ total (map f xs)
at_most f [] i a h e = absurd (omega arith)
at_most f (x ∷ xs) zero a h e = let q = ap f e in omega arith
at_most f (x ∷ xs) (suc i) a h e = let q = at_most f xs i a (omega arith) e in omega arith
