-- What scopes keep while they change.
use Rattle.std.proofs.Common.{◌≡◌, ℕ, zero, suc, ◌+◌, ◌<◌, ◌≤◌, List, [], ◌∷◌, ◌++◌, length, take, reverse, Bool, true, false, ◌&&◌, Some, slice_get, refl, sym, ap, subst, ◌∙◌, arith, length-append}
use Rattle.std.proofs.lemmas.List.{reverse-append}
use Rattle.std.proofs.lemmas.Bool.{ltb-true, lt-ltb, leb-true, le-leb}
use Rattle.std.specs.Prelude.{nat_lt, nat_le}
use Rattle.std.proofs.lemmas.Grind.{common_steps}
use Rattle.ctl_types.specs.Typing.{Variable, Variables}
use Rattle.ctl_scope.specs.declared.meaning.Meaning.{Meaning}
use Rattle.ctl_scope.specs.declared.meaning.Meaning.TheVariants as meaning
use Rattle.ctl_scope.specs.declared.block.Block.{Block}
use Rattle.ctl_scope.specs.Names.{Names}
use Rattle.ctl_scope.specs.Scope.{is_visible, is_variable, are_variables, blocks_stand, is_definition, are_definitions}
use Rattle.ctl_scope.specs.Changes.{empty_block, hidden_from, with_name}

pub both : (a b : Bool) → (a && b) ≡ true → (a ≡ true) × (b ≡ true)
both true b h = (refl, h)
both false b h = absurd (cc)

pub and_true : (a b : Bool) → a ≡ true → b ≡ true → (a && b) ≡ true
and_true true b h k = k
and_true false b h k = absurd (cc)

-- what is visible below n stays visible
abbrev pub Keeps : ℕ → Variables → Variables → Type 0
Keeps n vs ws = (k : ℕ) → k < n → is_visible (slice_get vs k) ≡ true → is_visible (slice_get ws k) ≡ true

variable_kept : (vs ws : Variables) (n m : ℕ) → n ≤ m → Keeps n vs ws → (x : Meaning) → is_variable vs n x ≡ true → is_variable ws m x ≡ true
variable_kept vs ws n m less keeps (meaning.Variable k) h =
    let p = both (nat_lt k n) _ h in
    let below = ltb-true k n p.0 in
    and_true (nat_lt k m) _ (lt-ltb k m (omega arith)) (keeps k below p.1)
variable_kept vs ws n m less keeps (meaning.Constant k) h = absurd (cc)
variable_kept vs ws n m less keeps (meaning.Function k) h = absurd (cc)
variable_kept vs ws n m less keeps (meaning.Struct k) h = absurd (cc)
variable_kept vs ws n m less keeps meaning.Namespace h = absurd (cc)
variable_kept vs ws n m less keeps (meaning.Library id) h = absurd (cc)

pub variables_kept : (vs ws : Variables) (n m : ℕ) → n ≤ m → Keeps n vs ws → (names : Names) → are_variables vs n names ≡ true → are_variables ws m names ≡ true
variables_kept vs ws n m less keeps [] h = refl
variables_kept vs ws n m less keeps (x ∷ names) h =
    let p = both (is_variable vs n x.1) _ h in
    and_true (is_variable ws m x.1) _ (variable_kept vs ws n m less keeps x.1 p.0) (variables_kept vs ws n m less keeps names p.1)

pub blocks_kept : (vs ws : Variables) (n m : ℕ) → n ≤ m → Keeps n vs ws → (blocks : List Block) → blocks_stand vs n blocks ≡ true → blocks_stand ws m blocks ≡ true
blocks_kept vs ws n m less keeps [] h = refl
blocks_kept vs ws n m less keeps (b ∷ blocks) h =
    let p = both (are_variables vs n b.names && nat_le b.start n) _ h in
    let q = both (are_variables vs n b.names) _ p.0 in
    let start = leb-true b.start n q.1 in
    and_true (are_variables ws m b.names && nat_le b.start m) _ (and_true (are_variables ws m b.names) _ (variables_kept vs ws n m less keeps b.names q.0) (le-leb b.start m (omega arith))) (blocks_kept vs ws b.start b.start (omega arith) (λ k l v. keeps k (omega arith) v) blocks p.1)

-- ---- one variable more

pub more_keep : (n : ℕ) (vs ws : Variables) → Keeps n vs (vs ++ ws)
more_keep n [] ws k l h = absurd (cc)
more_keep n (v ∷ vs) ws zero l h = h
more_keep n (v ∷ vs) ws (suc k) l h = more_keep n vs ws k (omega arith) h

new_visible : (vs : Variables) (v : Variable) → is_visible (slice_get (vs ++ Some v ∷ []) (length vs)) ≡ true
new_visible [] v = refl
new_visible (w ∷ vs) v = new_visible vs v

one_more : (vs : Variables) (m : ℕ) (names : Names) (name : List ℕ) (k : ℕ) → are_variables vs m names ≡ true → is_variable vs m (meaning.Variable k) ≡ true → are_variables vs m (names ++ (name, meaning.Variable k) ∷ []) ≡ true
one_more vs m [] name k h j = and_true _ _ j refl
one_more vs m (x ∷ names) name k h j =
    let p = both (is_variable vs m x.1) _ h in
    and_true (is_variable vs m x.1) _ p.0 (one_more vs m names name k p.1 j)

-- a variable is declared in the innermost block
pub declared_stand : (vs : Variables) (v : Variable) (name : List ℕ) (blocks : List Block) → blocks_stand vs (length vs) blocks ≡ true
    → blocks_stand (vs ++ Some v ∷ []) (length (vs ++ Some v ∷ [])) (with_name name (meaning.Variable (length vs)) blocks) ≡ true
declared_stand vs v name [] h = refl
declared_stand vs v name (b ∷ blocks) h =
    let ws = vs ++ Some v ∷ [] in
    let m = length ws in
    let longer : length ws ≡ length vs + 1 = length-append vs (Some v ∷ []) in
    let p = both (are_variables vs (length vs) b.names && nat_le b.start (length vs)) _ h in
    let q = both (are_variables vs (length vs) b.names) _ p.0 in
    let start = leb-true b.start (length vs) q.1 in
    let old = variables_kept vs ws (length vs) m (omega arith) (more_keep (length vs) vs (Some v ∷ [])) b.names q.0 in
    let new = and_true (nat_lt (length vs) m) _ (lt-ltb (length vs) m (omega arith)) (new_visible vs v) in
    and_true (are_variables ws m (b.names ++ (name, meaning.Variable (length vs)) ∷ []) && nat_le b.start m) _ (and_true (are_variables ws m (b.names ++ (name, meaning.Variable (length vs)) ∷ [])) _ (one_more ws m b.names name (length vs) old new) (le-leb b.start m (omega arith)))
    (blocks_kept vs ws b.start b.start (omega arith) (more_keep b.start vs (Some v ∷ [])) blocks p.1)

-- where a variable is there that no block names yet
pub grown_stand : (vs ws : Variables) (blocks : List Block) → blocks_stand vs (length vs) blocks ≡ true → blocks_stand (vs ++ ws) (length (vs ++ ws)) blocks ≡ true
grown_stand vs ws blocks h =
    let longer = length-append vs ws in
    blocks_kept vs (vs ++ ws) (length vs) (length (vs ++ ws)) (omega arith) (more_keep (length vs) vs ws) blocks h

-- ---- blocks begin and end

pub entered_stand : (vs : Variables) (blocks : List Block) → blocks_stand vs (length vs) blocks ≡ true → blocks_stand vs (length vs) (empty_block (length vs) ∷ blocks) ≡ true
entered_stand vs blocks h = and_true (nat_le (length vs) (length vs)) _ (le-leb (length vs) (length vs) (omega arith)) h

-- where the block that was the innermost is lost
pub alone_stand : (vs : Variables) (b : Block) (blocks : List Block) → blocks_stand vs (length vs) (b ∷ blocks) ≡ true → blocks_stand vs (length vs) (empty_block (length vs) ∷ blocks) ≡ true
alone_stand vs b blocks h =
    let p = both (are_variables vs (length vs) b.names && nat_le b.start (length vs)) _ h in
    let q = both (are_variables vs (length vs) b.names) _ p.0 in
    entered_stand vs blocks (blocks_kept vs vs b.start (length vs) (leb-true b.start (length vs) q.1) (λ k l v. v) blocks p.1)

hidden_keep : (n : ℕ) (vs : Variables) (ws : Variables) → n ≤ length vs → Keeps n vs (take n vs ++ ws)
hidden_keep zero vs ws less k l h = absurd (omega arith)
hidden_keep (suc n) [] ws less k l h = absurd (omega arith)
hidden_keep (suc n) (v ∷ vs) ws less zero l h = h
hidden_keep (suc n) (v ∷ vs) ws less (suc k) l h = hidden_keep n vs ws (omega arith) k (omega arith) h

pub left_stand : (vs : Variables) (b : Block) (blocks : List Block) → blocks_stand vs (length vs) (b ∷ blocks) ≡ true → blocks_stand (hidden_from b.start vs) (length (hidden_from b.start vs)) blocks ≡ true
left_stand vs b blocks h =
    let p = both (are_variables vs (length vs) b.names && nat_le b.start (length vs)) _ h in
    let q = both (are_variables vs (length vs) b.names) _ p.0 in
    let start = leb-true b.start (length vs) q.1 in
    blocks_kept vs (hidden_from b.start vs) b.start (length (hidden_from b.start vs)) (start_within b.start vs start) (hidden_keep b.start vs _ start) blocks p.1
  where
    start_within : (n : ℕ) (vs : Variables) → n ≤ length vs → n ≤ length (hidden_from n vs)
    start_within n vs less = grind (arith, common_steps)

-- a block that stands begins within the variables
pub start_stands : (vs : Variables) (b : Block) (blocks : List Block) → blocks_stand vs (length vs) (b ∷ blocks) ≡ true → b.start ≤ length vs
start_stands vs b blocks h = leb-true b.start (length vs) (both (are_variables vs (length vs) b.names) _ (both (are_variables vs (length vs) b.names && nat_le b.start (length vs)) _ h).0).1

-- ---- definitions

definition_kept : (a b c d e f : ℕ) → a ≤ d → b ≤ e → c ≤ f → (m : Meaning) → is_definition a b c m ≡ true → is_definition d e f m ≡ true
definition_kept a b c d e f l m n (meaning.Variable k) h = absurd (cc)
definition_kept a b c d e f l m n (meaning.Constant k) h = let g = ltb-true k b h in lt-ltb k e (omega arith)
definition_kept a b c d e f l m n (meaning.Function k) h = let g = ltb-true k c h in lt-ltb k f (omega arith)
definition_kept a b c d e f l m n (meaning.Struct k) h = let g = ltb-true k a h in lt-ltb k d (omega arith)
definition_kept a b c d e f l m n meaning.Namespace h = refl
definition_kept a b c d e f l m n (meaning.Library id) h = absurd (cc)

-- where more are defined
pub definitions_kept : (a b c d e f : ℕ) → a ≤ d → b ≤ e → c ≤ f → (names : Names) → are_definitions a b c names ≡ true → are_definitions d e f names ≡ true
definitions_kept a b c d e f l m n [] h = refl
definitions_kept a b c d e f l m n (x ∷ names) h =
    let p = both (is_definition a b c x.1) _ h in
    and_true (is_definition d e f x.1) _ (definition_kept a b c d e f l m n x.1 p.0) (definitions_kept a b c d e f l m n names p.1)

-- one more name
pub definition_more : (a b c : ℕ) (names : Names) (name : List ℕ) (m : Meaning) → are_definitions a b c names ≡ true → is_definition a b c m ≡ true → are_definitions a b c (names ++ (name, m) ∷ []) ≡ true
definition_more a b c [] name m h j = and_true _ _ j refl
definition_more a b c (x ∷ names) name m h j =
    let p = both (is_definition a b c x.1) _ h in
    and_true (is_definition a b c x.1) _ p.0 (definition_more a b c names name m p.1 j)

-- ---- the same, where the parts are given by equations

pub grown_as : (vs ws : Variables) (v : Variable) (start : ℕ) (names more : Names) (blocks : List Block) → ws ≡ vs ++ Some v ∷ [] → more ≡ names
    → blocks_stand vs (length vs) (record { start = start; names = names } ∷ blocks) ≡ true → blocks_stand ws (length ws) (record { start = start; names = more } ∷ blocks) ≡ true
grown_as vs ws v start names more blocks e f h =
    subst (λ w. blocks_stand w (length w) (record { start = start; names = more } ∷ blocks) ≡ true) (sym e)
    (subst (λ m. blocks_stand (vs ++ Some v ∷ []) (length (vs ++ Some v ∷ [])) (record { start = start; names = m } ∷ blocks) ≡ true) (sym f)
    (grown_stand vs (Some v ∷ []) (record { start = start; names = names } ∷ blocks) h))

pub declared_as : (vs ws : Variables) (v : Variable) (start : ℕ) (names more : Names) (blocks : List Block) (name : List ℕ) (n : ℕ) → ws ≡ vs ++ Some v ∷ [] → more ≡ names ++ (name, meaning.Variable n) ∷ [] → n ≡ length vs
    → blocks_stand vs (length vs) (record { start = start; names = names } ∷ blocks) ≡ true → blocks_stand ws (length ws) (record { start = start; names = more } ∷ blocks) ≡ true
declared_as vs ws v start names more blocks name n e f g h =
    subst (λ w. blocks_stand w (length w) (record { start = start; names = more } ∷ blocks) ≡ true) (sym e)
    (subst (λ m. blocks_stand (vs ++ Some v ∷ []) (length (vs ++ Some v ∷ [])) (record { start = start; names = m } ∷ blocks) ≡ true) (sym (f ∙ ap (λ k. names ++ (name, meaning.Variable k) ∷ []) g))
    (declared_stand vs v name (record { start = start; names = names } ∷ blocks) h))

pub alone_as : (vs : Variables) (b d : Block) (names : Names) (n : ℕ) (blocks less : List Block) → d ≡ record { start = n; names = names } → names ≡ [] → n ≡ length vs → less ≡ blocks
    → blocks_stand vs (length vs) (b ∷ reverse blocks) ≡ true → blocks_stand vs (length vs) (d ∷ reverse less) ≡ true
alone_as vs b d names n blocks less e f g k h = rw (e, f, g, k) (alone_stand vs b (reverse blocks) h)

pub left_as : (vs ws : Variables) (b a : Block) (blocks rest : List Block) → ws ≡ hidden_from b.start vs → blocks ≡ rest ++ a ∷ []
    → blocks_stand vs (length vs) (b ∷ reverse blocks) ≡ true → blocks_stand ws (length ws) (a ∷ reverse rest) ≡ true
left_as vs ws b a blocks rest e f h =
    let order : reverse blocks ≡ a ∷ reverse rest = ap reverse f ∙ reverse-append rest (a ∷ []) in
    subst (λ w. blocks_stand w (length w) (a ∷ reverse rest) ≡ true) (sym e) (left_stand vs b (a ∷ reverse rest) (ap (λ l. blocks_stand vs (length vs) (b ∷ l)) (sym order) ∙ h))
