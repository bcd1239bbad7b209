-- What `parse` tells of tokens that it refuses.
use Rattle.std.proofs.Common.{arith, ◌≡◌, ℕ, ◌≤◌, List, length, Some, sym, subst, refl, inl, inr}
use Rattle.std.proofs.lemmas.List.{length-map}
use Rattle.ctl_tree.specs.declared.token.Token.{Token}
use Rattle.ctl_tree.specs.Lexemes.{lexemes_of}
use Rattle.grammar_machine.specs.Machine.{start}
use Rattle.grammar_machine.specs.Laws.{StopsAreFaults, SinksAreFaults, RefusalsSpellNone}
use Rattle.ctl_parser_expr.specs.declared.fault.Fault.{Fault}
use Rattle.ctl_parser_expr.specs.declared.fault.Fault.TheVariants.{NotHere, Depth, Memory}
use Rattle.ctl_parser_expr.specs.Parses.{Comes, In}
use Rattle.ctl_parser.specs.declared.syntax.SyntaxFault.{SyntaxFault}
use Rattle.ctl_parser.specs.Faults.{FaultOf, NoneSpelt}
use Rattle.ctl_parser.specs.PrivateFaults.{Tells, IsPlaced}

module _ (source : List ℕ) (tokens : List Token) (limit : ℕ) where
  pub fault_told : StopsAreFaults → SinksAreFaults → (fault : Fault) (answer : SyntaxFault) → Comes (lexemes_of source tokens) (Some limit) start 0 (In fault) → Tells source tokens fault answer
      → FaultOf limit source tokens answer
  fault_told stops sinks (NotHere place) answer h is = subst (FaultOf limit source tokens) (sym is) (stops _ limit place h.goes, refl)
  fault_told stops sinks (Depth place) answer h is = subst (FaultOf limit source tokens) (sym is) (sinks _ limit place h.goes, refl)
  fault_told stops sinks Memory answer h is = subst (FaultOf limit source tokens) (sym is) tt

  pub none_told : RefusalsSpellNone → (fault : Fault) (answer : SyntaxFault) → Comes (lexemes_of source tokens) (Some limit) start 0 (In fault) → Tells source tokens fault answer
      → NoneSpelt limit source tokens answer
  none_told none (NotHere place) answer h is = subst (NoneSpelt limit source tokens) (sym is) (none _ limit place (inl h.goes))
  none_told none (Depth place) answer h is = subst (NoneSpelt limit source tokens) (sym is) (none _ limit place (inr h.goes))
  none_told none Memory answer h is = subst (NoneSpelt limit source tokens) (sym is) tt

  pub is_placed : StopsAreFaults → SinksAreFaults → (fault : Fault) (n : ℕ) → length tokens ≤ n → Comes (lexemes_of source tokens) (Some limit) start 0 (In fault) → IsPlaced n fault
  is_placed stops sinks (NotHere place) n le h = let few : length (lexemes_of source tokens) ≡ length tokens = length-map tokens _ in omega (arith, (stops _ limit place h.goes).within, few, le)
  is_placed stops sinks (Depth place) n le h = let few : length (lexemes_of source tokens) ≡ length tokens = length-map tokens _ in omega (arith, (sinks _ limit place h.goes).within, few, le)
  is_placed stops sinks Memory n le h = tt
