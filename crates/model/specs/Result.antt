-- Result: what an operation gives on the values of its operands, or the fault that refuses it; chained by `do`.
use Rattle.std.specs.Prelude.{Bool, true, false, ℕ}
use Rattle.std.specs.Prelude.{Option, None, Some}
use Rattle.model.specs.Refusal.{fault_number}
use Rattle.model.specs.declared.refusal.Fault.{Fault}

pub data Result (A : Type 0) : Type 0 where
  ok : A → Result A
  refuse : Fault → Result A

infixl 10 ◌>>=◌
abbrev pub ◌>>=◌ : {A B : Type 0} → Result A → (A → Result B) → Result B
ok a >>= f = f a
refuse e >>= f = refuse e

-- The value that is there, or the fault.
abbrev pub required : {A : Type 0} → Fault → Option A → Result A
required e None = refuse e
required e (Some a) = ok a

-- The value if a test holds, or the fault.
abbrev pub provided : {A : Type 0} → Bool → Fault → Result A → Result A
provided true e r = r
provided false e r = refuse e

abbrev pub is_ok : {A : Type 0} → Result A → Bool
is_ok (ok a) = true
is_ok (refuse e) = false

-- 01's number: 0 is "done".
abbrev pub result_number : {A : Type 0} → Result A → ℕ
result_number (ok a) = 0
result_number (refuse e) = fault_number e
