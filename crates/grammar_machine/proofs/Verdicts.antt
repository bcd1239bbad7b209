-- What the machine tells of tokens is right.
use Rattle.std.proofs.Common.{◌≡◌, ℕ, zero, suc, ◌≤◌, ◌⊎◌, inl, inr, Bool, true, false, List, [], ◌∷◌, ◌++◌, length, Option, Some, None, ap, subst, sym, ◌∙◌, refl, arith}
use Rattle.std.proofs.lemmas.Bool.{false≢true}
use Rattle.ctl_tree.specs.declared.token.TokenKind.{TokenKind}
use Rattle.ctl_tree.specs.declared.definition.Module.{Module}
use Rattle.ctl_tree.specs.declared.fault.SyntaxKind.{SyntaxKind}
use Rattle.ctl_tree.specs.declared.fault.SyntaxKind.TheVariants.{NotHere, Depth}
use Rattle.ctl_tree.specs.Lexemes.{Lexeme, kind_at, bytes_at}
use Rattle.ctl_tree.specs.Modules.{IsModule}
use Rattle.ctl_tree.specs.Beginnings.{NoModule, IsNotHere, IsTooDeep, HasSyntaxFault}
use Rattle.grammar_machine.specs.Machine.{Symbol, move, end_move, start, Reaches, StopsAt, SinksAt}
use Rattle.grammar_machine.specs.Machine.Symbol.{TheEnd}
use Rattle.grammar_machine.specs.Machine.Move.{Reads, Expands}
use Rattle.grammar_machine.specs.Machine.Reaches.{here, expands, reads}
use Rattle.grammar_machine.proofs.PassModules.{passes_module}
use Rattle.grammar_machine.proofs.Dead.{some_left, no_stop, no_sink, not_here_none, unfinished, depth_none}
use Rattle.grammar_machine.proofs.Runs.{back, module_from, run_within}
use Rattle.grammar_machine.proofs.Beginning.{run_begins}
use Rattle.grammar_machine.proofs.Sinking.{depth_begins}
use Rattle.grammar_machine.proofs.Falling.{Outcome, ended, stopped, sunk, outcome}

-- the end

abbrev is_end : Symbol → Bool
is_end TheEnd = true
is_end _ = false

-- the last symbol is the end
abbrev ends_last : List Symbol → Bool
ends_last [] = false
ends_last (x ∷ []) = is_end x
ends_last (x ∷ y ∷ ys) = ends_last (y ∷ ys)

-- it stays the last whatever stands above
last_above : (xs : List Symbol) (y : Symbol) (ys : List Symbol) → ends_last (y ∷ ys) ≡ true → ends_last (xs ++ (y ∷ ys)) ≡ true
last_above [] y ys h = h
last_above (x ∷ []) y ys h = h
last_above (x ∷ x' ∷ xs) y ys h = last_above (x' ∷ xs) y ys h

-- the end goes only where no token is
end_goes : (k : Option TokenKind) (m : ℕ) (symbols : List Symbol) → end_move k ≡ Expands m symbols → (k ≡ None) × (symbols ≡ [])
end_goes None m symbols e = (refl, cc)
end_goes (Some kind) m symbols e = absurd cc

end_expands : (top : Symbol) (k : Option TokenKind) (bytes : List ℕ) (m : ℕ) (symbols : List Symbol) → is_end top ≡ true → move top k bytes ≡ Expands m symbols → (k ≡ None) × (symbols ≡ [])
end_expands TheEnd k bytes m symbols h e = end_goes k m symbols e
end_expands _ k bytes m symbols h e = absurd (false≢true h)

end_reads : (top : Symbol) (k : Option TokenKind) (bytes : List ℕ) (m : ℕ) (symbols : List Symbol) → is_end top ≡ true → move top k bytes ≡ Reads m symbols → ⊥
end_reads TheEnd None bytes m symbols h e = cc
end_reads TheEnd (Some kind) bytes m symbols h e = cc
end_reads _ k bytes m symbols h e = false≢true h

stays : {T : List Lexeme} {L : Option ℕ} {stack : List Symbol} {i j : ℕ} → stack ≡ [] → Reaches T L stack i [] j → i ≡ j
stays e (here e' ei) = ei
stays e (expands top below symbols m e' v w r) = absurd (some_left (sym e ∙ e'))
stays e (reads top below symbols m e' v w r) = absurd (some_left (sym e ∙ e'))

-- the machine comes to its end where no token is
ends_none : {T : List Lexeme} {L : Option ℕ} {stack : List Symbol} {i j : ℕ} → ends_last stack ≡ true → Reaches T L stack i [] j → kind_at T j ≡ None
ends_none h (here e ei) = absurd (false≢true (sym (ap ends_last e) ∙ h))
ends_none {T} {i = i} h (expands top [] symbols m e v w r) =
    let goes = end_expands top (kind_at T i) (bytes_at T i) m symbols (sym (ap ends_last e) ∙ h) v in
    subst (λ p. kind_at T p ≡ None) (stays (ap (λ xs. xs ++ []) goes.1) r) goes.0
ends_none h (expands top (y ∷ ys) symbols m e v w r) = ends_none (last_above symbols y ys (sym (ap ends_last e) ∙ h)) r
ends_none {T} {i = i} h (reads top [] symbols m e v w r) = absurd (end_reads top (kind_at T i) (bytes_at T i) m symbols (sym (ap ends_last e) ∙ h) v)
ends_none h (reads top (y ∷ ys) symbols m e v w r) = ends_none (last_above symbols y ys (sym (ap ends_last e) ∙ h)) r

-- no token stands at a place within their number only if that is the place
past : (T : List Lexeme) (k : ℕ) → k ≤ length T → kind_at T k ≡ None → k ≡ length T
past [] k le h = omega arith
past (t ∷ T) zero le h = absurd cc
past (t ∷ T) (suc k) le h = let e : k ≡ length T = past T k (omega arith) h in omega arith

pub end_is_module : (T : List Lexeme) (L : Option ℕ) (k : ℕ) → Reaches T L start 0 [] k → (m : Module) × IsModule T L m
end_is_module T L k r = module_from T L (back T L start [] 0 k r (past T k (run_within T L start [] 0 k r (omega arith)) (ends_none refl r)))

-- faults

pub stop_is_not_here : (T : List Lexeme) (limit place : ℕ) → StopsAt T (Some limit) start 0 place → IsNotHere T limit place
stop_is_not_here T limit place s =
    let b = run_begins T (Some limit) (s.top ∷ s.below) place s.reached in
    record {
      within = b.0;
      before = b.1;
      none = λ lt begins. not_here_none T limit place s lt begins;
      unfinished = λ e. unfinished T limit (subst (λ (p : ℕ). StopsAt T (Some limit) start 0 p) e s);
    }

pub sink_is_depth : (T : List Lexeme) (limit place : ℕ) → SinksAt T (Some limit) start 0 place → IsTooDeep T limit place
sink_is_depth T limit place s =
    let b = run_begins T (Some limit) (s.top ∷ s.below) place s.reached in
    let d = depth_begins T limit place s in
    record { within = d.0; before = b.1; some = d.1; deep = λ begins. depth_none T limit place s d.0 begins }

pub refused : (T : List Lexeme) (limit place : ℕ) → StopsAt T (Some limit) start 0 place ⊎ SinksAt T (Some limit) start 0 place → NoModule T (Some limit)
refused T limit place (inl s) m h = no_stop (passes_module h []) s
refused T limit place (inr s) m h = no_sink (passes_module h []) s

pub told : (T : List Lexeme) (limit : ℕ) → Outcome T limit → ((m : Module) × IsModule T (Some limit) m) ⊎ ((kind : SyntaxKind) × (place : ℕ) × HasSyntaxFault T limit kind place)
told T limit (ended k r) = inl (end_is_module T (Some limit) k r)
told T limit (stopped place s) = inr (NotHere, place, stop_is_not_here T limit place s)
told T limit (sunk place s) = inr (Depth, place, sink_is_depth T limit place s)

pub module_or_fault : (T : List Lexeme) (limit : ℕ) → ((m : Module) × IsModule T (Some limit) m) ⊎ ((kind : SyntaxKind) × (place : ℕ) × HasSyntaxFault T limit kind place)
module_or_fault T limit = told T limit (outcome T limit)
