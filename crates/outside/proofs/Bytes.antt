-- Known bytes over several reads or writes.
use Rattle.std.proofs.Common.{ℕ, ◌+◌, ◌-◌, List, ◌++◌, length, take, drop, Option, Some, None, sym, ap, ◌∙◌, append_assoc}
use Rattle.std.specs.Io.KnownBytes.{Appends, Consumes}
use Rattle.std.proofs.Math.Seq.{take-add}
use Rattle.std.proofs.lemmas.List.{take_rest}

pub appends_more : (old mid new : Option (List ℕ)) (bytes : List ℕ) (i n : ℕ) → Appends old mid (take i bytes)
    → Appends mid new (take n (take (length bytes - i) (drop i bytes))) → Appends old new (take (i + n) bytes)
appends_more None mid new bytes i n h k = tt
appends_more (Some xs) None new bytes i n h k = absurd h
appends_more (Some xs) (Some ys) None bytes i n h k = absurd k
appends_more (Some xs) (Some ys) (Some zs) bytes i n h k =
    k ∙ rw (h, take_rest, take-add i n bytes) (append_assoc xs (take i bytes) (take n (drop i bytes)))

pub consumes_more : (old mid new : Option (List ℕ)) (got more : List ℕ) → Consumes old mid got → Consumes mid new more → Consumes old new (got ++ more)
consumes_more None mid new got more h k = tt
consumes_more (Some xs) None new got more h k = absurd h
consumes_more (Some xs) (Some ys) None got more h k = absurd k
consumes_more (Some xs) (Some ys) (Some zs) got more h k = h ∙ ap (λ r. got ++ r) k ∙ sym (append_assoc got more zs)
