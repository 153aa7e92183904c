-- Sums: the sum of two integers from the numbers in their handles.
use Rattle.std.specs.Prelude.{Ok, Err}
use mathlib.Core.Logic.{◌⊎◌, inl, inr}
use mathlib.Core.Path.{◌≡◌, refl, ap, ◌∙◌}
use mathlib.Core.Bool.{true, false, ◌&&◌}
use Prim.Native.Nat.{ℕ, ◌+◌, ◌-◌, ◌≤◌, ◌<◌}
use native.Mathlib.Omega.{arith}
use borrow.Author.Tests.{le-leb, lt-leb}
use lib.Dec.{leb}
use lib.IntN.{ℤ, ◌+ℤ◌}
use Rattle.model.proofs.Laws.Logic.{true→t}
use Rattle.model.specs.Operations as operations
use Rattle.model.specs.declared.refusal.Fault.TheVariants.{WrongKind, OutOfRange}
use Rattle.model.specs.Result.{Result, ok, provided}
use Rattle.model.specs.Value.{Value, scalar, integer, as_integer, within_limits}
use Rattle.heap.specs.declared.handle.Handle.{Handle}
use Rattle.heap.specs.declared.handle.Handle.TheVariants.{Integer}
use Rattle.syntax.proofs.Laws.Biased.{biased_small}
use Rattle.heap.specs.Means.{Means, means_integer}
use Rattle.heap.specs.Unfold.{Areas}
use Rattle.op_result.specs.Contract.{Answered, Gives, gives_value, gives_fault}
use Rattle.op_scalars.specs.Contract.{Sum}
use Rattle.op_scalars.specs.Inner.{Raised}
use Rattle.op_scalars.proofs.Answers.{first_wrong, second_wrong}
use Rattle.op_scalars.proofs.Operands.{NotInteger, no_integer}
use Rattle.op_scalars.proofs.Raised.{sum_raised, limits_raised, biased_raised, biased_over}

-- An integer within the limits, or 9.
abbrev limited : ℤ → Result Value
limited z = provided (within_limits z) OutOfRange (ok (scalar (integer z)))

abbrev summed : ℤ → ℤ → Result Value
summed y z = limited (y +ℤ z)

-- ---- an operand of another kind
pub sum_first : {x y : Handle} → NotInteger x → Sum x y (Err WrongKind)
sum_first k = record { gives = λ a top v u m n. first_wrong summed (as_integer v) (as_integer u) (no_integer m k) }

pub sum_second : {x y : Handle} → NotInteger y → Sum x y (Err WrongKind)
sum_second k = record { gives = λ a top v u m n. second_wrong summed (as_integer v) (as_integer u) (no_integer n k) }

-- ---- two integers
-- What is shown of the sum by the numbers in their handles, which raise it twice as much, is shown of them.
raised_sum : {m n : ℕ} {r : Answered}
    → ((a : Areas) (top : ℕ) (z : ℤ) → m ≤ 18014398509481983 → n ≤ 18014398509481983 → Raised 18014398509481984 z (m + n) → Gives a top (limited z) r)
    → Sum (Integer m) (Integer n) r
raised_sum {m} {n} {r} k = record { gives = λ a top v u x y. go a top x y }
  where
    go : (a : Areas) (top : ℕ) {v u : Value} → Means a top v (Integer m) → Means a top u (Integer n) → Gives a top (operations.sum v u) r
    go a top (means_integer {z = y} w e) (means_integer {z = z} w' e') =
        k a top (y +ℤ z) (rw e (biased_small y w)) (rw e' (biased_small z w')) (rw (e, e') (sum_raised (biased_raised y w) (biased_raised z w')))

-- No integer is held so.
pub sum_none : {m n : ℕ} {r : Answered} → (18014398509481983 < m) ⊎ (18014398509481983 < n) → Sum (Integer m) (Integer n) r
sum_none l = raised_sum (λ a top z i j s. absurd (omega (arith, l)))

-- The limits, raised twice as much.
limits_twice : {z : ℤ} {n : ℕ} → Raised 18014398509481984 z n → within_limits z ≡ leb 9007199254740993 n && leb n 27021597764222975
limits_twice s = limits_raised (omega arith) s

-- At or above the lower limit, only the upper one is left.
not_below : {z : ℤ} {n : ℕ} → Raised 18014398509481984 z n → 9007199254740992 < n → within_limits z ≡ leb n 27021597764222975
not_below {n = n} s l = limits_twice s ∙ ap (λ b. b && leb n 27021597764222975) (le-leb 9007199254740993 n (omega arith))

refused : {a : Areas} {top : ℕ} (z : ℤ) → within_limits z ≡ false → Gives a top (limited z) (Err OutOfRange)
refused z e = rw e (gives_fault refl)

pub sum_beyond : {m n : ℕ} → (m + n ≤ 9007199254740992) ⊎ (27021597764222975 < m + n) → Sum (Integer m) (Integer n) (Err OutOfRange)
sum_beyond {m} {n} (inl l) = raised_sum (λ a top z i j s. refused z (limits_twice s ∙ ap (λ b. b && leb (m + n) 27021597764222975) (lt-leb 9007199254740993 (m + n) (omega arith))))
sum_beyond {m} {n} (inr l) = raised_sum (λ a top z i j s. refused z (not_below s (omega arith) ∙ lt-leb (m + n) 27021597764222975 l))

given : {a : Areas} {top n : ℕ} (z : ℤ) → within_limits z ≡ true → Raised 18014398509481984 z n → Gives a top (limited z) (Ok (Integer (n - 9007199254740992)))
given z e s = rw e (gives_value refl (means_integer (true→t (within_limits z) e) (biased_over s)))

pub sum_within : {m n : ℕ} → 9007199254740992 < m + n → m + n ≤ 27021597764222975 → Sum (Integer m) (Integer n) (Ok (Integer (m + n - 9007199254740992)))
sum_within {m} {n} l h = raised_sum (λ a top z i j s. given z (not_below s l ∙ le-leb (m + n) 27021597764222975 h) s)
