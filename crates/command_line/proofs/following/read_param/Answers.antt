-- Goals of `following::read_param`.
use Rattle.std.proofs.Common.{◌≡◌, ℕ, ℤ, List, ◌∷◌, length, Bool, true, refl, sym, ◌∙◌, subst}
use Rattle.command_line.specs.declared.item.Item.TheVariants as asked
use Rattle.command_line.specs.Options.{Name, numbers}
use Rattle.command_line.specs.Following.{Text, is_name}
use Rattle.command_line.specs.Items.{three_raws}
use Rattle.command_line.proofs.Taking.{follow_behind, breaks_behind}
use Rattle.command_line.proofs.following.read_param.Goals as goal

param_same : (of_all : Bool) (name other : List ℕ) (m n : ℕ) (xs ys : List ℤ) → name ≡ other → m ≡ n → xs ≡ ys → asked.Param of_all (record { name = name; count = m; values = xs }) ≡ asked.Param of_all (record { name = other; count = n; values = ys })
param_same of_all name other m n xs ys e f g = cc

pub returns-in_ok-copy-in-Ok : goal.returns-in_ok-copy-in-Ok
returns-in_ok-copy-in-Ok c = λ kinds word.
    let b : c.as_bytes.result.now ≡ c.in-Some.name.now = c.as_bytes.ensures.value ∙ c.as_str.ensures in
    let n : is_name c.in-Some.name.now ≡ true = subst (λ (w : List ℕ). is_name w ≡ true) b (sym c.if-not-is_name.ensures) in
    let h = c.in-Ok.ensures kinds in (
      Text c.in-Some.name.now ∷ h.0,
      follow_behind kinds Name (numbers c.args.count) c.args.words.now c.in-Some.name.now c.in-Some.behind.now (Text c.in-Some.name.now) h.0 c.in-Some.ensures (n, refl) h.1,
      param_same c.args.is_global c.in_ok-copy-in-Ok.field-0 c.in-Some.name.now c.number_count.result (length (numbers c.args.count)) c.in-Ok.values (three_raws h.0) c.in_ok-copy-in-Ok.ensures c.number_count.ensures h.2,
    )

pub returns-in-Err : goal.returns-in-Err
returns-in-Err c = λ kinds word.
    let b : c.as_bytes.result.now ≡ c.in-Some.name.now = c.as_bytes.ensures.value ∙ c.as_str.ensures in
    let n : is_name c.in-Some.name.now ≡ true = subst (λ (w : List ℕ). is_name w ≡ true) b (sym c.if-not-is_name.ensures) in
    breaks_behind kinds Name (numbers c.args.count) c.args.words.now c.in-Some.name.now c.in-Some.behind.now (Text c.in-Some.name.now) 1 2 c.in-Err.refusal c.in-Some.ensures (n, refl) refl (c.in-Err.ensures kinds)
