-- Tokens have at most one fault, and with a fault they spell no module of a nesting that is allowed.
use Rattle.std.proofs.Common.{◌≡◌, ℕ, ◌+◌, ◌-◌, ◌<◌, ◌≤◌, List, [], ◌∷◌, ◌++◌, All, length, take, drop, Option, Some, None, arith, sym, ap, subst, ◌∙◌, inl, inr, refl}
use Rattle.std.proofs.lemmas.Bool.{cases_lt}
use Rattle.std.proofs.Math.Seq.{take-add}
use Rattle.std.proofs.lemmas.List.{append_assoc, take_all, append-nil}
use Rattle.std.proofs.lemmas.List.Elements.{All-nil, All-cons, All-append, All-take, All-drop}
use Rattle.fix_num.specs.declared.TheConstants.{FRACTION}
use Rattle.ctl_tree.specs.declared.token.Token.{Token}
use Rattle.ctl_tree.specs.declared.definition.Module.{Module}
use Rattle.ctl_tree.specs.declared.fault.SyntaxKind.{SyntaxKind}
use Rattle.ctl_tree.specs.declared.fault.SyntaxKind.TheVariants.{NotHere, Depth}
use Rattle.ctl_tree.specs.Tokens.{CoversFrom}
use Rattle.ctl_tree.specs.Lexemes.{Lexeme, IsSpelt, lexemes_of}
use Rattle.ctl_tree.specs.Modules.{IsModule}
use Rattle.ctl_tree.specs.Beginnings.{Begins, NoModule, HasSyntaxFault}
use Rattle.ctl_tree.proofs.Unlimited.{unlimited_module}

-- a module that begins with tokens begins with fewer of them
begins_fewer : (lexemes : List Lexeme) (limit : Option ℕ) (p q : ℕ) → p ≤ q → All IsSpelt lexemes → Begins lexemes limit q → Begins lexemes limit p
begins_fewer lexemes limit p q le are_spelt h =
    let between : List Lexeme = take (q - p) (drop p lexemes) in
    let is : q ≡ p + (q - p) = omega arith in
    let parts : take q lexemes ++ h.more ≡ take p lexemes ++ (between ++ h.more) =
    ap (λ n. take n lexemes ++ h.more) is ∙ ap (λ ts. ts ++ h.more) (take-add p (q - p) lexemes) ∙ append_assoc (take p lexemes) between h.more in
    let P : List Lexeme → Type 0 = λ ts. IsModule ts limit h.form in
    record {
      more = between ++ h.more;
      are_spelt = All-append IsSpelt between h.more (All-take IsSpelt (q - p) (drop p lexemes) (All-drop IsSpelt p lexemes are_spelt)) h.are_spelt;
      form = h.form;
      spelt = subst P parts h.spelt;
    }

-- what a limit allows is allowed without one
begins_unlimited : {lexemes : List Lexeme} {limit : Option ℕ} {k : ℕ} → Begins lexemes limit k → Begins lexemes None k
begins_unlimited h = record { more = h.more; are_spelt = h.are_spelt; form = h.form; spelt = unlimited_module h.spelt }

-- a module begins with each number of its tokens
module_begins : (lexemes : List Lexeme) (limit : Option ℕ) (m : Module) (k : ℕ) → k ≤ length lexemes → All IsSpelt lexemes → IsModule lexemes limit m → Begins lexemes limit k
module_begins lexemes limit m k le are_spelt h =
    let P : List Lexeme → Type 0 = λ ts. IsModule ts limit m in
    let whole : take (length lexemes) lexemes ++ [] ≡ lexemes = append-nil (take (length lexemes) lexemes) ∙ take_all (length lexemes) lexemes (omega arith) in
    begins_fewer lexemes limit k (length lexemes) le are_spelt (record { more = []; are_spelt = All-nil IsSpelt; form = m; spelt = subst P (sym whole) h })

fault_within : (lexemes : List Lexeme) (limit : ℕ) (kind : SyntaxKind) (place : ℕ) → HasSyntaxFault lexemes limit kind place → place ≤ length lexemes
fault_within lexemes limit NotHere place h = h.within
fault_within lexemes limit Depth place h = let lt = h.within in omega arith

fault_before : (lexemes : List Lexeme) (limit : ℕ) (kind : SyntaxKind) (place : ℕ) → HasSyntaxFault lexemes limit kind place → Begins lexemes (Some limit) place
fault_before lexemes limit NotHere place h = h.before
fault_before lexemes limit Depth place h = h.before

-- no module within the limit begins with the token of a fault
fault_stops : (lexemes : List Lexeme) (limit : ℕ) (kind : SyntaxKind) (place : ℕ) → HasSyntaxFault lexemes limit kind place → place < length lexemes
    → Begins lexemes (Some limit) (place + 1) → ⊥
fault_stops lexemes limit NotHere place h lt begins = h.none lt (begins_unlimited begins)
fault_stops lexemes limit Depth place h lt begins = h.deep begins

-- no fault stands behind another
no_later : (lexemes : List Lexeme) (limit : ℕ) (kind other : SyntaxKind) (place elsewhere : ℕ) → All IsSpelt lexemes → HasSyntaxFault lexemes limit kind place
    → HasSyntaxFault lexemes limit other elsewhere → place < elsewhere → ⊥
no_later lexemes limit kind other place elsewhere are_spelt h k lt =
    let within = fault_within lexemes limit other elsewhere k in
    fault_stops lexemes limit kind place h (omega arith) (begins_fewer lexemes (Some limit) (place + 1) elsewhere (omega arith) are_spelt (fault_before lexemes limit other elsewhere k))

same_place : (lexemes : List Lexeme) (limit : ℕ) (kind other : SyntaxKind) (place elsewhere : ℕ) → All IsSpelt lexemes → HasSyntaxFault lexemes limit kind place
    → HasSyntaxFault lexemes limit other elsewhere → place ≡ elsewhere
same_place lexemes limit kind other place elsewhere are_spelt h k = elim (cases_lt place elsewhere) [
  | inl less ↦ absurd (no_later lexemes limit kind other place elsewhere are_spelt h k less)
  | inr no_less ↦ elim (cases_lt elsewhere place) [
    | inl more ↦ absurd (no_later lexemes limit other kind elsewhere place are_spelt k h more)
    | inr equal ↦ omega arith
  ]
]

same_kind : (lexemes : List Lexeme) (limit : ℕ) (kind other : SyntaxKind) (place : ℕ) → HasSyntaxFault lexemes limit kind place → HasSyntaxFault lexemes limit other place → kind ≡ other
same_kind lexemes limit NotHere NotHere place h k = refl
same_kind lexemes limit NotHere Depth place h k = absurd (h.none k.within k.some)
same_kind lexemes limit Depth NotHere place h k = absurd (k.none h.within h.some)
same_kind lexemes limit Depth Depth place h k = refl

pub same_fault : (lexemes : List Lexeme) (limit : ℕ) (kind other : SyntaxKind) (place elsewhere : ℕ) → All IsSpelt lexemes → HasSyntaxFault lexemes limit kind place
    → HasSyntaxFault lexemes limit other elsewhere → (kind ≡ other) × (place ≡ elsewhere)
same_fault lexemes limit kind other place elsewhere are_spelt h k =
    let is = same_place lexemes limit kind other place elsewhere are_spelt h k in
    let P : ℕ → Type 0 = λ p. HasSyntaxFault lexemes limit other p in
    (same_kind lexemes limit kind other place h (subst P (sym is) k), is)

-- at the number of tokens they are no module of any nesting
unfinished : (lexemes : List Lexeme) (limit : ℕ) (kind : SyntaxKind) (place : ℕ) → HasSyntaxFault lexemes limit kind place → place ≡ length lexemes → NoModule lexemes None
unfinished lexemes limit NotHere place h is = h.unfinished is
unfinished lexemes limit Depth place h is = let lt = h.within in absurd (omega arith)

pub none_spelt : (lexemes : List Lexeme) (limit : ℕ) (kind : SyntaxKind) (place : ℕ) → All IsSpelt lexemes → HasSyntaxFault lexemes limit kind place → NoModule lexemes (Some limit)
none_spelt lexemes limit kind place are_spelt h m spelt = elim (cases_lt place (length lexemes)) [
  | inl lt ↦ fault_stops lexemes limit kind place h lt (module_begins lexemes (Some limit) m (place + 1) (omega arith) are_spelt spelt)
  | inr no_less ↦
      let within = fault_within lexemes limit kind place h in
      unfinished lexemes limit kind place h (omega arith) m (unlimited_module spelt)
]

-- tokens that stand in a text are spelt
pub covered_spelt : (text : List ℕ) (from to : ℕ) (tokens : List Token) → CoversFrom FRACTION text from tokens to → All IsSpelt (lexemes_of text tokens)
covered_spelt text from to [] h = All-nil IsSpelt
covered_spelt text from to (token ∷ tokens) h =
    All-cons IsSpelt (record { kind = token.kind; bytes = take token.len (drop token.at text) }) (lexemes_of text tokens) h.1.spelled.spells (covered_spelt text (token.at + token.len) to tokens h.2)
