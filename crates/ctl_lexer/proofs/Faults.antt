-- The fault of a text, from the place where nothing begins.
use Rattle.std.proofs.Common.{◌≡◌, ℕ, List, drop, length, sym, ap, subst, ◌∙◌}
use Rattle.ctl_tree.specs.declared.token.Token.{Token}
use Rattle.ctl_tree.specs.Tokens.{Covers, StandsFor, NothingBegins, IsKindOf}
use Rattle.ctl_tree.specs.Lines.{line_at}
use Rattle.ctl_lexer.specs.declared.fault.LexFault.{LexFault}
use Rattle.ctl_lexer.specs.declared.fault.LexFault.TheVariants.{At, Memory}
use Rattle.ctl_lexer.specs.Means.{FaultAt}
use Rattle.ctl_lexer.specs.Faults.{FaultOf, NoList}
use Rattle.ctl_lexer.proofs.Cover.{stops}

pub fault_of : (F : ℕ) (text : List ℕ) (at line : ℕ) (tokens : List Token) (e : LexFault) → Covers F text tokens at → line ≡ line_at text at → FaultAt F text at line e → FaultOf F text e
fault_of F text at line tokens (At place its_line kind) c counted h =
    let P : ℕ → Type 0 = λ k. Covers F text tokens k in
    let Q : ℕ → Type 0 = λ k. NothingBegins F (drop k text) in
    let R : ℕ → Type 0 = λ k. IsKindOf kind (drop k text) in
    (record { tokens = tokens; before = subst P (sym h.0) c; nothing_there = subst Q (sym h.0) h.2; is_kind = subst R (sym h.0) h.3 }, h.1 ∙ counted ∙ ap (line_at text) (sym h.0))
fault_of F text at line tokens Memory c counted h = absurd h

pub no_list : (F : ℕ) (text : List ℕ) (at line : ℕ) (tokens : List Token) (e : LexFault) → Covers F text tokens at → FaultAt F text at line e → NoList F text e
no_list F text at line tokens (At place its_line kind) c h = λ others s. stops F text 0 at tokens others c h.2 s
no_list F text at line tokens Memory c h = absurd h

-- what covers the text up to its end stands for it
pub stands : (F : ℕ) (text : List ℕ) (at : ℕ) (tokens : List Token) → Covers F text tokens at → at ≡ length text → StandsFor F tokens text
stands F text at tokens c e = let P : ℕ → Type 0 = λ k. Covers F text tokens k in subst P e c
