-- Contract: what each function promises of the handles of its operands: whatever values they mean, its answer is what the operation gives on these.
use Rattle.std.specs.Prelude.{◌≡◌, ℕ, Option, Some, None}
use Rattle.model.specs.Bytes.{Bytes}
use Rattle.model.specs.Operations as operations
use Rattle.model.specs.Truth as truths
use Rattle.model.specs.Value.{Value, no_items, item}
use Rattle.model.specs.declared.Comparison.{Comparison}
use Rattle.model.specs.declared.Domain.{Domain}
use Rattle.heap.specs.declared.handle.Form.{Form}
use Rattle.heap.specs.declared.handle.Form.TheVariants as Forms
use Rattle.heap.specs.declared.handle.Handle.{Handle}
use Rattle.heap.specs.declared.handle.Handle.TheVariants as Handles
use Rattle.heap.specs.declared.handle.Parts.{Parts}
use Rattle.heap.specs.Means.{Means}
use Rattle.heap.specs.Unfold.{Areas, areas}
use Rattle.op_result.specs.Contract.{Answered, Gives}
use Rattle.op_scalars.specs.declared.truth.Truth.{Truth}
use Rattle.op_scalars.specs.declared.truth.Truth.TheVariants.{Truthy, Falsy, Neither}

-- ---- truth
abbrev pub truth_of : Truth → truths.Truth
truth_of Truthy = truths.truthy
truth_of Falsy = truths.falsy
truth_of Neither = truths.neither

pub record TruthIs (h : Handle) (r : Truth) : Type 0 where
  pub is : (a : Areas) (top : ℕ) (v : Value) → Means a top v h → truth_of r ≡ truths.truth v

pub record Negated (x : Handle) (r : Answered) : Type 0 where
  pub gives : (a : Areas) (top : ℕ) (v : Value) → Means a top v x → Gives a top (operations.negated (truths.truth v)) r

-- ---- arrays
-- The parts of an array's handle.
abbrev pub elements_in : Form → Parts → Option Parts
elements_in Forms.Items p = Some p
elements_in Forms.Members p = None
elements_in Forms.List p = Some p
elements_in Forms.Context p = None

abbrev pub elements_of : Handle → Option Parts
elements_of Handles.Null = None
elements_of Handles.False = None
elements_of Handles.True = None
elements_of (Handles.Integer n) = None
elements_of (Handles.Instant n) = None
elements_of (Handles.String s) = None
elements_of (Handles.Compound p) = elements_in p.form p

-- ---- `===` and `in`
-- The strings lie in A and B, whatever the table and the cells hold.
pub record Equality (A B : Bytes) (x y : Handle) (r : Answered) : Type 0 where
  pub gives : (T C : Bytes) (top : ℕ) (v w : Value) → Means (areas A B T C) top v x → Means (areas A B T C) top w y → Gives (areas A B T C) top (operations.equality v w) r

pub record Membership (A B T C : Bytes) (x y : Handle) (r : Answered) : Type 0 where
  pub gives : (top : ℕ) (v w : Value) → Means (areas A B T C) top v x → Means (areas A B T C) top w y → Gives (areas A B T C) top (operations.membership v w) r

-- ---- numbers
pub record Sum (x y : Handle) (r : Answered) : Type 0 where
  pub gives : (a : Areas) (top : ℕ) (v w : Value) → Means a top v x → Means a top w y → Gives a top (operations.sum v w) r

pub record Compared (d : Domain) (c : Comparison) (x y : Handle) (r : Answered) : Type 0 where
  pub gives : (a : Areas) (top : ℕ) (v w : Value) → Means a top v x → Means a top w y → Gives a top (operations.comparison d c (item v (item w no_items))) r

pub record ComparedThree (d : Domain) (c : Comparison) (x y z : Handle) (r : Answered) : Type 0 where
  pub gives : (a : Areas) (top : ℕ) (u v w : Value) → Means a top u x → Means a top v y → Means a top w z → Gives a top (operations.comparison d c (item u (item v (item w no_items)))) r
