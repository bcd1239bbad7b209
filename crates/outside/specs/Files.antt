-- What the files hold, and what a call of a file box answers and leaves.
use Rattle.std.specs.Prelude.{◌≡◌, ◌⊎◌, ℕ, ◌≤◌, List, length, take, Option, Some, None, Result, Ok, Err, nat_le, cond, Bool, true, false, IsTrue}
use Rattle.std.specs.Ordering.{nat_cmp}
use Rattle.std.specs.Cmp.Lexicographic.{slice_cmp}
use Rattle.std.specs.FinMap as map
use Rattle.outside.specs.Causes.{Rose}
use Rattle.outside.specs.declared.files.Fetched.{Fetched}
use Rattle.outside.specs.declared.files.Fetched.TheVariants.{Bytes, Absent, TooLong}
use Rattle.outside.specs.declared.files.FetchFault.{FetchFault}
use Rattle.outside.specs.declared.files.FetchFault.TheVariants.{Failed, Memory}

-- What is held: a finite map from names to bytes.
abbrev pub Held : Type 0
Held = map.FinMap (slice_cmp nat_cmp) (List ℕ)

-- What a fetch finds of the bytes that a name holds, if it holds any: all of them, unless they are more than the limit.
abbrev pub fetched : Option (List ℕ) → ℕ → Fetched
fetched None limit = Absent
fetched (Some bytes) limit = cond (nat_le (length bytes) limit) (Bytes bytes) (TooLong limit)

-- What a fetch of the name finds.
abbrev pub fetch_of : Held → List ℕ → ℕ → Fetched
fetch_of held name limit = fetched (map.get held name) limit

-- Whether the name is held.
abbrev pub holds : Held → List ℕ → Bool
holds held name = map.contains_key held name

-- What is found never has more bytes than the limit, and says the limit that it was given.
abbrev pub IsWithinLimit : ℕ → Fetched → Type 0
IsWithinLimit limit (Bytes bytes) = length bytes ≤ limit
IsWithinLimit limit Absent = Unit {0}
IsWithinLimit limit (TooLong told) = told ≡ limit

-- Whether a fetch answers that the box failed.
abbrev pub is_failed : Result Fetched FetchFault → Bool
is_failed (Ok got) = false
is_failed (Err Memory) = false
is_failed (Err Failed) = true

-- the same as a fact
abbrev pub IsFailed : Result Fetched FetchFault → Type 0
IsFailed result = IsTrue (is_failed result)

-- A failure comes only where the count rose, and every other answer, want of memory too, leaves it.
abbrev pub FetchHasCause : {T : Type 0} → ℕ → ℕ → Result T FetchFault → Type 0
FetchHasCause before now (Ok got) = now ≡ before
FetchHasCause before now (Err Memory) = now ≡ before
FetchHasCause before now (Err Failed) = Rose before now

-- What a failed store may leave: the name as it was, absent, or holding a prefix of the bytes, and all else unchanged.
abbrev pub MayLeave : Held → List ℕ → List ℕ → Held → Type 0
MayLeave old name bytes new = (new ≡ old) ⊎ ((new ≡ map.remove old name) ⊎ ((n : ℕ) × (new ≡ map.insert old name (take n bytes))))

-- What a store leaves of the files, where they are told: with Ok the name holds the bytes, and all else is unchanged.
abbrev pub Stores : {E : Type 0} → Option Held → Option Held → List ℕ → List ℕ → Result (Unit {0}) E → Type 0
Stores None new name bytes result = new ≡ None
Stores (Some old) None name bytes result = ⊥
Stores (Some old) (Some new) name bytes (Ok done) = new ≡ map.insert old name bytes
Stores (Some old) (Some new) name bytes (Err e) = MayLeave old name bytes new
