-- Inner: what the private functions say of handles.
use Rattle.std.specs.Prelude.{◌≡◌, Bool, true, false, ◌||◌, ℕ, zero, suc, ◌+◌, leb, ltb, ℤ, pos, negsuc}
use Rattle.std.specs.Prelude.{Option, None, Some, Result, Ok, Err}
use Rattle.model.specs.Bytes.{Bytes}
use Rattle.model.specs.Instant.{ms_before1970}
use Rattle.model.specs.Operations.{as_number}
use Rattle.model.specs.Option.{holds}
use Rattle.model.specs.declared.refusal.Fault.{Fault}
use Rattle.model.specs.declared.refusal.Fault.TheVariants.{WrongKind}
use Rattle.model.specs.Value.{Value, Scalar, null, boolean, integer, string, same_scalar}
use Rattle.model.specs.declared.Comparison.{Comparison}
use Rattle.model.specs.declared.Comparison.TheVariants.{Greater, Less, GreaterOrEqual, LessOrEqual}
use Rattle.model.specs.declared.Domain.{Domain}
use Rattle.model.specs.declared.Domain.TheVariants.{OnIntegers, OnInstants}
use Rattle.syntax.specs.Layout.{unbiased}
use Rattle.heap.specs.declared.handle.Handle.{Handle}
use Rattle.heap.specs.declared.handle.Handle.TheVariants.{Null, False, True, Integer, Instant, String, Compound}
use Rattle.heap.specs.declared.handle.Parts.{Parts}
use Rattle.heap.specs.Means.{Means}
use Rattle.heap.specs.Parts.{head_of, tail_of}
use Rattle.heap.specs.Strings.{span_bytes}
use Rattle.heap.specs.Unfold.{Areas}
use Rattle.op_scalars.specs.declared.truth.Truth.{Truth}
use Rattle.op_scalars.specs.declared.truth.Truth.TheVariants.{Truthy, Falsy}

-- ---- booleans
abbrev pub boolean_handle : Bool → Handle
boolean_handle false = False
boolean_handle true = True

abbrev pub truthy_unless : Bool → Truth
truthy_unless false = Truthy
truthy_unless true = Falsy

-- ---- scalars
-- The scalar of a handle, with strings in A and B; none of an instant, an array or an object.
abbrev pub scalar_of : Bytes → Bytes → Handle → Option Scalar
scalar_of A B Null = Some null
scalar_of A B False = Some (boolean false)
scalar_of A B True = Some (boolean true)
scalar_of A B (Integer n) = Some (integer (unbiased n))
scalar_of A B (Instant n) = None
scalar_of A B (String s) = Some (string (span_bytes A B s))
scalar_of A B (Compound p) = None

abbrev pub is_scalar : Handle → Bool
is_scalar Null = true
is_scalar False = true
is_scalar True = true
is_scalar (Integer n) = true
is_scalar (Instant n) = false
is_scalar (String s) = true
is_scalar (Compound p) = false

-- It is a handle of this scalar.
abbrev pub is_the : Bytes → Bytes → Scalar → Handle → Bool
is_the A B x h = holds (same_scalar x) (scalar_of A B h)

-- Both are handles of one scalar.
abbrev pub same_handles : Bytes → Bytes → Handle → Handle → Bool
same_handles A B g h = holds (λ x. is_the A B x h) (scalar_of A B g)

-- One of so many parts is of the same scalar; T is the table, C the heap.
unfoldable pub among_parts : Bytes → Bytes → Bytes → Bytes → Handle → ℕ → Parts → Bool
among_parts A B T C x zero p = false
among_parts A B T C x (suc n) p = same_handles A B x (head_of T C p) || among_parts A B T C x n (tail_of T C p)

-- ---- numbers
-- n is the integer z raised by k.
pub data Raised (k : ℕ) : ℤ → ℕ → Type 0 where
  raised_pos : (m n : ℕ) → n ≡ m + k → Raised k (pos m) n
  raised_negsuc : (m n : ℕ) → n + suc m ≡ k → Raised k (negsuc m) n

-- The number in the handle of 0, or of the instant 0.
abbrev pub zero_of : Domain → ℕ
zero_of OnIntegers = 9007199254740992
zero_of OnInstants = ms_before1970

-- A number of the domain, or 7 for a value of another kind.
pub data NumberIs (d : Domain) : Option ℤ → Result ℕ Fault → Type 0 where
  is_number : {z : ℤ} {n : ℕ} {r : Result ℕ Fault} → r ≡ Ok n → Raised (zero_of d) z n → NumberIs d (Some z) r
  is_none : {r : Result ℕ Fault} → r ≡ Err WrongKind → NumberIs d None r

pub record Numbered (d : Domain) (h : Handle) (r : Result ℕ Fault) : Type 0 where
  pub is : (a : Areas) (top : ℕ) (v : Value) → Means a top v h → NumberIs d (as_number d v) r

abbrev pub ordered : Comparison → ℕ → ℕ → Bool
ordered Greater a b = ltb b a
ordered Less a b = ltb a b
ordered GreaterOrEqual a b = leb b a
ordered LessOrEqual a b = leb a b
