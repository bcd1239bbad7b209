-- A text reads as one unit or one fault.
use Rattle.std.proofs.Common.{◌≡◌, ◌⊎◌, inl, inr, ℕ, List, Some, Result, Ok, Err, refl, sym, subst, ap, ◌∙◌}
use Rattle.ctl_base.specs.declared.limits.TheConstants.{NESTING}
use Rattle.ctl_tree.specs.declared.definition.Module.{Module}
use Rattle.ctl_tree.specs.declared.fault.LexKind.{LexKind}
use Rattle.ctl_tree.specs.declared.fault.SyntaxKind.{SyntaxKind}
use Rattle.ctl_tree.specs.declared.token.Token.{Token}
use Rattle.ctl_tree.specs.Beginnings.{HasSyntaxFault}
use Rattle.ctl_tree.specs.Laws.{OneModule, TokensAreSpelt, OneSyntaxFault, FaultsSpellNone}
use Rattle.ctl_tree.specs.Lexemes.{lexemes_of}
use Rattle.ctl_tree.specs.Lines.{line_at, line_of_place}
use Rattle.ctl_tree.specs.Modules.{IsModule}
use Rattle.ctl_tree.specs.Tokens.{StandsFor, HasFault}
use Rattle.ctl_tree.specs.Units.{SourceUnit}
use Rattle.ctl_lexer.specs.Laws.{OneList, OneFault, FaultsHaveNoTokens, TokensOrFault}
use Rattle.fix_num.specs.declared.TheConstants.{FRACTION}
use Rattle.grammar_machine.specs.Laws.{ModuleOrFault}
use Rattle.module_path.specs.Laws.{IsTold}
use Rattle.module_path.specs.ModuleFiles.{SourceText}
use Rattle.ctl_parser.specs.Sources.{HasByteFault, HasTokenFault}
use Rattle.module_path.specs.Reading.{ReadsAs, IsUnit}
use Rattle.module_path.specs.declared.fault.LoadFault.{LoadFault}
use Rattle.module_path.specs.declared.fault.LoadFault.TheVariants.{Cycle, TooMany, NotFound, ReadFault, TooLong, Lex, Syntax, Memory}

-- What is known of texts, tokens and modules.
pub record Known : Type 0 where
  pub one_list : OneList
  pub one_fault : OneFault
  pub faults_have_no_tokens : FaultsHaveNoTokens
  pub one_module : OneModule
  pub tokens_are_spelt : TokensAreSpelt
  pub one_syntax_fault : OneSyntaxFault
  pub faults_spell_none : FaultsSpellNone

same_unit : Known → (text : SourceText) (u v : SourceUnit) → IsUnit text u → IsUnit text v → u ≡ v
same_unit known text u v h k =
    let f : u.file ≡ v.file = h.same_file ∙ sym k.same_file in
    let t : u.tokens ≡ v.tokens = known.one_list FRACTION text.bytes u.tokens v.tokens h.source.stand k.source.stand in
    let P : List Token → Type 0 = λ ts. IsModule (lexemes_of text.bytes ts) (Some NESTING) v.«module» in
    let m : u.«module» ≡ v.«module» = known.one_module _ _ _ _ _ h.source.spelt (subst P (sym t) k.source.spelt) in
    λ i. record { file = f i; tokens = t i; «module» = m i }

no_byte_fault : Known → (bytes : List ℕ) (tokens : List Token) (at line : ℕ) (kind : LexKind) → StandsFor FRACTION tokens bytes → HasByteFault bytes at line kind → ⊥
no_byte_fault known bytes tokens at line kind s f = known.faults_have_no_tokens FRACTION bytes at kind tokens f.fault s

no_token_fault : Known → (text : SourceText) (u : SourceUnit) (place line : ℕ) (kind : SyntaxKind) → IsUnit text u → HasTokenFault text.bytes place line kind → ⊥
no_token_fault known text u place line kind h k =
    let P : List Token → Type 0 = λ ts. IsModule (lexemes_of text.bytes ts) (Some NESTING) u.«module» in
    known.faults_spell_none (lexemes_of text.bytes k.tokens) NESTING kind place (known.tokens_are_spelt text.bytes k.tokens k.stand) k.fault u.«module» (subst P (known.one_list FRACTION text.bytes u.tokens k.tokens h.source.stand k.stand) h.source.spelt)

same_byte_fault : Known → (bytes file file' : List ℕ) (at line at' line' : ℕ) (kind kind' : LexKind) → file ≡ file' → HasByteFault bytes at line kind → HasByteFault bytes at' line' kind' → Lex file at line kind ≡ Lex file' at' line' kind'
same_byte_fault known bytes file file' at line at' line' kind kind' e h k =
    let s = known.one_fault FRACTION bytes at at' kind kind' h.fault k.fault in
    let l : line ≡ line' = h.in_line ∙ (ap (line_at bytes) s.0 ∙ sym k.in_line) in
    λ i. Lex (e i) (s.0 i) (l i) (s.1 i)

same_token_fault : Known → (bytes file file' : List ℕ) (place line place' line' : ℕ) (kind kind' : SyntaxKind) → file ≡ file' → HasTokenFault bytes place line kind → HasTokenFault bytes place' line' kind' → Syntax file place line kind ≡ Syntax file' place' line' kind'
same_token_fault known bytes file file' place line place' line' kind kind' e h k =
    let t : k.tokens ≡ h.tokens = known.one_list FRACTION bytes k.tokens h.tokens k.stand h.stand in
    let P : List Token → Type 0 = λ ts. HasSyntaxFault (lexemes_of bytes ts) NESTING kind' place' in
    let s = known.one_syntax_fault (lexemes_of bytes h.tokens) NESTING kind kind' place place' (known.tokens_are_spelt bytes h.tokens h.stand) h.fault (subst P t k.fault) in
    let ts = sym t in
    let l : line ≡ line' = h.in_line ∙ ((λ i. line_of_place bytes (ts i) (s.1 i)) ∙ sym k.in_line) in
    λ i. Syntax (e i) (s.1 i) (l i) (s.0 i)

pub same_reading : Known → (text : SourceText) (u v : SourceUnit) → ReadsAs text (Ok u) → ReadsAs text (Ok v) → u ≡ v
same_reading known text u v h k = same_unit known text u v h k

pub unit_or_fault : Known → (text : SourceText) (u : SourceUnit) (e : LoadFault) → ReadsAs text (Ok u) → ReadsAs text (Err e) → IsTold {A = SourceUnit} (Err e) → ⊥
unit_or_fault known text u (Lex file at line kind) h k t = no_byte_fault known text.bytes u.tokens at line kind h.source.stand k.1
unit_or_fault known text u (Syntax file at line kind) h k t = no_token_fault known text u at line kind h k.1
unit_or_fault known text u (Cycle f n) h k t = absurd k
unit_or_fault known text u (TooMany f) h k t = absurd k
unit_or_fault known text u (NotFound n) h k t = absurd k
unit_or_fault known text u (ReadFault n) h k t = absurd k
unit_or_fault known text u (TooLong f) h k t = absurd k
unit_or_fault known text u Memory h k t = absurd t

pub same_fault : Known → (text : SourceText) (e e' : LoadFault) → ReadsAs text (Err e) → ReadsAs text (Err e') → IsTold {A = SourceUnit} (Err e) → IsTold {A = SourceUnit} (Err e') → e ≡ e'
same_fault known text (Lex f at line kind) (Lex f' at' line' kind') h k t t' = same_byte_fault known text.bytes f f' at line at' line' kind kind' (h.0 ∙ sym k.0) h.1 k.1
same_fault known text (Syntax f at line kind) (Syntax f' at' line' kind') h k t t' = same_token_fault known text.bytes f f' at line at' line' kind kind' (h.0 ∙ sym k.0) h.1 k.1
same_fault known text (Lex f at line kind) (Syntax f' at' line' kind') h k t t' = absurd (no_byte_fault known text.bytes k.1.tokens at line kind k.1.stand h.1)
same_fault known text (Syntax f at line kind) (Lex f' at' line' kind') h k t t' = absurd (no_byte_fault known text.bytes h.1.tokens at' line' kind' h.1.stand k.1)
same_fault known text (Lex f at line kind) Memory h k t t' = absurd t'
same_fault known text (Syntax f at line kind) Memory h k t t' = absurd t'
same_fault known text (Lex f at line kind) (Cycle f' n) h k t t' = absurd k
same_fault known text (Lex f at line kind) (TooMany f') h k t t' = absurd k
same_fault known text (Lex f at line kind) (NotFound n) h k t t' = absurd k
same_fault known text (Lex f at line kind) (ReadFault n) h k t t' = absurd k
same_fault known text (Lex f at line kind) (TooLong f') h k t t' = absurd k
same_fault known text (Syntax f at line kind) (Cycle f' n) h k t t' = absurd k
same_fault known text (Syntax f at line kind) (TooMany f') h k t t' = absurd k
same_fault known text (Syntax f at line kind) (NotFound n) h k t t' = absurd k
same_fault known text (Syntax f at line kind) (ReadFault n) h k t t' = absurd k
same_fault known text (Syntax f at line kind) (TooLong f') h k t t' = absurd k
same_fault known text (Cycle f n) e' h k t t' = absurd h
same_fault known text (TooMany f) e' h k t t' = absurd h
same_fault known text (NotFound n) e' h k t t' = absurd h
same_fault known text (ReadFault n) e' h k t t' = absurd h
same_fault known text (TooLong f) e' h k t t' = absurd h
same_fault known text Memory e' h k t t' = absurd t

-- A text reads as something.

pub reads_some : TokensOrFault → ModuleOrFault → (text : SourceText) → (r : Result SourceUnit LoadFault) × IsTold r × ReadsAs text r
reads_some list form text = by (list FRACTION text.bytes)
  where
    of_tokens : (tokens : List Token) → StandsFor FRACTION tokens text.bytes → ((m : Module) × IsModule (lexemes_of text.bytes tokens) (Some NESTING) m) ⊎ ((kind : SyntaxKind) × (place : ℕ) × HasSyntaxFault (lexemes_of text.bytes tokens) NESTING kind place)
        → (r : Result SourceUnit LoadFault) × IsTold r × ReadsAs text r
    of_tokens tokens s (inl (m, is)) = (Ok (record { file = text.file; tokens = tokens; «module» = m }), tt, record { same_file = refl; source = record { stand = s; spelt = is } })
    of_tokens tokens s (inr (kind, place, f)) =
        (Err (Syntax text.file place (line_of_place text.bytes tokens place) kind), tt, (refl, record { tokens = tokens; stand = s; fault = f; in_line = refl }))

    by : ((tokens : List Token) × StandsFor FRACTION tokens text.bytes) ⊎ ((at : ℕ) × (kind : LexKind) × HasFault FRACTION text.bytes at kind) → (r : Result SourceUnit LoadFault) × IsTold r × ReadsAs text r
    by (inl (tokens, s)) = of_tokens tokens s (form (lexemes_of text.bytes tokens) NESTING)
    by (inr (at, kind, f)) = (Err (Lex text.file at (line_at text.bytes at) kind), tt, (refl, record { fault = f; in_line = refl }))
