-- Runs that change no variable, and give the same whatever the state: conversions, operators, indices.
use Rattle.std.proofs.Common.{◌≡◌, ◌^◌, ℕ, ℤ, pos, length, Option, Some, None, Ok, Err, Bool, true, false, not, ◌&&◌, if◌then◌else◌, nat_lt, int_lt, unsigned_abs, sym, ◌∙◌, subst, refl}
use Rattle.fix_num.specs.declared.TheConstants.{FRACTION}
use Rattle.fix_num.specs.Whole.{of_bool}
use Rattle.ctl_base.specs.declared.kind.Node.{Node}
use Rattle.ctl_base.specs.declared.kind.ScalarKind.{ScalarKind}
use Rattle.ctl_types.specs.declared.scalar.Scalar.TheVariants as scalar_form
use Rattle.ctl_types.specs.declared.value.Value.{Value, out-Value}
use Rattle.ctl_types.specs.declared.value.Value.TheOpen as layer
use Rattle.ctl_types.specs.declared.value.Value.TheOpen.{Value-F}
use Rattle.ctl_types.specs.declared.expression.Conversion.{Conversion}
use Rattle.ctl_types.specs.declared.expression.Conversion.TheVariants.{Same, Between}
use Rattle.ctl_types.specs.declared.expression.LinkOperator.{LinkOperator}
use Rattle.ctl_tree.specs.declared.expression.UnaryOperator.{UnaryOperator}
use Rattle.ctl_types.specs.Scalars.{kind_of, word_of, same_kind, scalar, converted, operate, operator_kind, operate_alone}
use Rattle.ctl_types.specs.Values.{Env, one}
use Rattle.ctl_types.specs.Run.{Fault, Wrong, Pixel, Outcome, Run, give, held, word_in, word, give_scalar, convert, sized, operated, index_number, index_in, field_in, field_run}
use Rattle.level_rules.specs.Rules.{VaryingSet}
use Rattle.level_laws.specs.Uniform.{Alike}
use Rattle.level_laws.proofs.Envs.{alike_sym, alike_trans}
use Rattle.level_laws.proofs.Runs.{anything, SameIf, Keeps, Agrees, Still, Even, still_give, still_found, still_wrong}

module _ (C : Type 0) (pay : ℕ → C → C) (w : VaryingSet) where
  abbrev pub SameValues : {V : Type 0} → Outcome C pay V → Outcome C pay V → Type 0
  SameValues (Ok a) (Ok b) = a.value ≡ b.value
  SameValues (Ok a) (Err fault) = Unit {0}
  SameValues (Err fault) o = Unit {0}

  -- they change nothing that does not vary, and where both give a value it is the same
  pub record Like {V : Type 0} (run other : Run C pay V) : Type 0 where
    pub left : Still C pay w anything run
    pub right : Still C pay w anything other
    pub values : (p q : Pixel C pay) → SameValues (run p) (other q)

  same_err : {V : Type 0} (o : Outcome C pay V) (fault : Fault) → SameValues o (Err fault)
  same_err (Ok a) fault = tt
  same_err (Err t) fault = tt

  pub even_like : {V W : Type 0} (b : Bool) (run other : V → Run C pay W) (u v : V) → SameIf b u v → ((v : V) → Like (run v) (other v)) → Even C pay w (SameIf b) (run u) (other v)
  even_like {V} {W} b run other u v e h = record { by = λ p q a. both p.env q.env (run u p) (other v q) a ((h u).left.by p) ((h v).right.by q) (λ f. subst (λ v. SameValues (run u p) (other v q)) (e f) ((h u).values p q)) } where
    both : (env more : Env) (o p : Outcome C pay W) → Alike w env more → Keeps C pay w anything env o → Keeps C pay w anything more p → (b ≡ false → SameValues o p) → Agrees C pay w (SameIf b) o p
    both env more (Ok x) (Ok y) h k j s = (alike_trans (alike_sym k.0) (alike_trans h j.0), s)
    both env more (Ok x) (Err fault) h k j s = tt
    both env more (Err fault) o h k j s = tt

  pub like_give : {V : Type 0} (v : V) → Like (give C pay v) (give C pay v)
  like_give v = record { left = still_give C pay w anything v tt; right = still_give C pay w anything v tt; values = λ p q. refl }

  pub like_wrong : {V : Type 0} (fault other : Fault) → Like {V = V} (λ p. Err fault) (λ p. Err other)
  like_wrong fault other = record { left = still_wrong C pay w anything fault; right = still_wrong C pay w anything other; values = λ p q. tt }

  pub like_held : {V W : Type 0} (o : Option V) (next : V → Run C pay W) → ((v : V) → Like (next v) (next v)) → Like (held C pay o next) (held C pay o next)
  like_held None next h = record { left = record { by = λ p. tt }; right = record { by = λ p. tt }; values = λ p q. tt }
  like_held (Some v) next h = record { left = record { by = λ p. (h v).left.by p }; right = record { by = λ p. (h v).right.by p }; values = λ p q. (h v).values p q }

  -- one value, in both
  like_one : {V : Type 0} (n : V) (run other : Run C pay V) → Still C pay w (λ v. v ≡ n) run → Still C pay w (λ v. v ≡ n) other → Like run other
  like_one {V} n run other h k = record { left = any run h; right = any other k; values = λ p q. same p.env q.env (run p) (other q) (h.by p) (k.by q) } where
    any : (run : Run C pay V) → Still C pay w (λ v. v ≡ n) run → Still C pay w anything run
    any run h = record { by = λ p. weaker p.env (run p) (h.by p) } where
      weaker : (env : Env) (o : Outcome C pay V) → Keeps C pay w (λ v. v ≡ n) env o → Keeps C pay w anything env o
      weaker env (Ok a) h = (h.0, tt)
      weaker env (Err fault) h = tt

    same : (env more : Env) (o p : Outcome C pay V) → Keeps C pay w (λ v. v ≡ n) env o → Keeps C pay w (λ v. v ≡ n) more p → SameValues o p
    same env more (Ok a) (Ok b) h k = h.1 ∙ sym k.1
    same env more (Ok a) (Err fault) h k = tt
    same env more (Err fault) o h k = tt

  like_word_in : {W : Type 0} (k : ScalarKind) (x : Value-F Value) (next : ℤ → Run C pay W) → ((z : ℤ) → Like (next z) (next z)) → Like (word_in C pay k x next) (word_in C pay k x next)
  like_word_in {W} k (layer.One s) next h = one_if (same_kind (kind_of s) k) where
    one_if : (b : Bool) → Like {V = W} (λ p. if b then next (word_of s) p else Err Wrong) (λ p. if b then next (word_of s) p else Err Wrong)
    one_if true = record { left = record { by = λ p. (h (word_of s)).left.by p }; right = record { by = λ p. (h (word_of s)).right.by p }; values = λ p q. (h (word_of s)).values p q }
    one_if false = record { left = record { by = λ p. tt }; right = record { by = λ p. tt }; values = λ p q. tt }
  like_word_in k (layer.List vs) next h = record { left = record { by = λ p. tt }; right = record { by = λ p. tt }; values = λ p q. tt }
  like_word_in k (layer.Fields vs) next h = record { left = record { by = λ p. tt }; right = record { by = λ p. tt }; values = λ p q. tt }

  pub like_word : {W : Type 0} (k : ScalarKind) (next : ℤ → Run C pay W) (v : Value) → ((z : ℤ) → Like (next z) (next z)) → Like (word C pay k next v) (word C pay k next v)
  like_word k next v h = like_word_in k (out-Value v) next h

  pub like_scalar : (k : ScalarKind) (z : Option ℤ) → Like (give_scalar C pay k z) (give_scalar C pay k z)
  like_scalar k z = like_held z (λ z. give C pay (one (scalar k z))) (λ z. like_give (one (scalar k z)))

  pub like_convert : (c : Conversion) (v : Value) → Like (convert C pay c v) (convert C pay c v)
  like_convert Same v = like_give v
  like_convert (Between a b) v = like_word a (λ z. give C pay (one (scalar b (converted FRACTION a b z)))) v (λ z. like_give (one (scalar b (converted FRACTION a b z))))

  pub like_operated : (op : LinkOperator) (k : ScalarKind) (vw : Value × Value) → Like (operated C pay op k vw.0 vw.1) (operated C pay op k vw.0 vw.1)
  like_operated op k vw = like_word k _ vw.0 (λ a. like_word k _ vw.1 (λ b. like_scalar (operator_kind op k) (operate FRACTION op k a b)))

  pub like_alone : (op : UnaryOperator) (k : ScalarKind) (v : Value) → Like (word C pay k (λ a. give_scalar C pay k (operate_alone FRACTION op k a)) v) (word C pay k (λ a. give_scalar C pay k (operate_alone FRACTION op k a)) v)
  like_alone op k v = like_word k _ v (λ a. like_scalar k (operate_alone FRACTION op k a))

  pub like_sized : (n : ℕ) → Like (sized C pay n) (sized C pay n)
  like_sized n = one_if (nat_lt n (2 ^ 31)) where
    one_if : (b : Bool) → Like {V = Value} (λ p. if b then give C pay (one (scalar_form.Int (pos n))) p else Err Wrong) (λ p. if b then give C pay (one (scalar_form.Int (pos n))) p else Err Wrong)
    one_if true = record { left = record { by = λ p. (still_give C pay w anything (one (scalar_form.Int (pos n))) tt).by p }; right = record { by = λ p. (still_give C pay w anything (one (scalar_form.Int (pos n))) tt).by p }; values = λ p q. refl }
    one_if false = record { left = record { by = λ p. tt }; right = record { by = λ p. tt }; values = λ p q. tt }

  -- ---- indices and fields: the number that they give is not that of what they step into

  index_gives : (node : Node) (z : ℤ) (x : Value-F Value) → Still C pay w (λ i. i ≡ unsigned_abs z) (index_in C pay node z x)
  index_gives node z (layer.One s) = record { by = λ p. tt }
  index_gives node z (layer.List vs) = in_range (not (int_lt z (pos 0)) && nat_lt (unsigned_abs z) (length vs)) _ where
    in_range : (b : Bool) (fault : Fault) → Still C pay w (λ i. i ≡ unsigned_abs z) (λ p. if b then give C pay (unsigned_abs z) p else Err fault)
    in_range true fault = record { by = λ p. (still_give C pay w (λ i. i ≡ unsigned_abs z) (unsigned_abs z) refl).by p }
    in_range false fault = record { by = λ p. tt }
  index_gives node z (layer.Fields vs) = record { by = λ p. tt }

  index_found : (node : Node) (find look : Env → Option Value) (z : ℤ) → Like (λ p. held C pay (find p.env) (λ v. index_in C pay node z (out-Value v)) p) (λ p. held C pay (look p.env) (λ v. index_in C pay node z (out-Value v)) p)
  index_found node find look z = like_one (unsigned_abs z) _ _ (still_found C pay w _ find _ (λ v. index_gives node z (out-Value v))) (still_found C pay w _ look _ (λ v. index_gives node z (out-Value v)))

  index_like : (x : Value-F Value) (next after : ℤ → Run C pay ℕ) → ((z : ℤ) → Like (next z) (after z)) → Like (index_number C pay x next) (index_number C pay x after)
  index_like (layer.One (scalar_form.Bool b)) next after h = record { left = record { by = λ p. (h (of_bool b)).left.by p }; right = record { by = λ p. (h (of_bool b)).right.by p }; values = λ p q. (h (of_bool b)).values p q }
  index_like (layer.One (scalar_form.Int z)) next after h = record { left = record { by = λ p. (h z).left.by p }; right = record { by = λ p. (h z).right.by p }; values = λ p q. (h z).values p q }
  index_like (layer.One (scalar_form.Unsigned n)) next after h = record { left = record { by = λ p. (h (pos n)).left.by p }; right = record { by = λ p. (h (pos n)).right.by p }; values = λ p q. (h (pos n)).values p q }
  index_like (layer.One (scalar_form.Half z)) next after h = record { left = record { by = λ p. tt }; right = record { by = λ p. tt }; values = λ p q. tt }
  index_like (layer.One (scalar_form.Float z)) next after h = record { left = record { by = λ p. tt }; right = record { by = λ p. tt }; values = λ p q. tt }
  index_like (layer.List vs) next after h = record { left = record { by = λ p. tt }; right = record { by = λ p. tt }; values = λ p q. tt }
  index_like (layer.Fields vs) next after h = record { left = record { by = λ p. tt }; right = record { by = λ p. tt }; values = λ p q. tt }

  -- an index that was evaluated, into what is found in two ways
  pub like_index : (node : Node) (find look : Env → Option Value) (v : Value) → Like (index_number C pay (out-Value v) (λ z p. held C pay (find p.env) (λ v. index_in C pay node z (out-Value v)) p)) (index_number C pay (out-Value v) (λ z p. held C pay (look p.env) (λ v. index_in C pay node z (out-Value v)) p))
  like_index node find look v = index_like (out-Value v) _ _ (index_found node find look)

  field_gives : (n : ℕ) (x : Value-F Value) → Still C pay w (λ i. i ≡ n) (field_in C pay n x)
  field_gives n (layer.One s) = record { by = λ p. tt }
  field_gives n (layer.List vs) = record { by = λ p. tt }
  field_gives n (layer.Fields vs) = in_range (nat_lt n (length vs)) where
    in_range : (b : Bool) → Still C pay w (λ i. i ≡ n) (λ p. if b then give C pay n p else Err Wrong)
    in_range true = record { by = λ p. (still_give C pay w (λ i. i ≡ n) n refl).by p }
    in_range false = record { by = λ p. tt }

  pub like_field : (n : ℕ) (find look : Env → Option Value) → Like (field_run C pay n find) (field_run C pay n look)
  like_field n find look = like_one n _ _ (still_found C pay w _ find _ (λ v. field_gives n (out-Value v))) (still_found C pay w _ look _ (λ v. field_gives n (out-Value v)))
