-- Operands: of a handle that is of no scalar, no array or no number, neither is the value that it means; and of an array's the value is one.
use mathlib.Core.Path.{◌≡◌, refl, sym, ap, subst, ◌∙◌}
use mathlib.Core.Bool.{true, false}
use Rattle.std.specs.Prelude.{None, Some}
use Prim.Native.Nat.{ℕ}
use Rattle.model.specs.Bytes.{Bytes}
use Rattle.model.proofs.Laws.Logic.{clash}
use Rattle.model.specs.Value.{Value, array, Values, Scalar, null, boolean, integer, string, as_scalar, as_array, as_integer, as_instant}
use Rattle.syntax.specs.Layout.{unbiased}
use Rattle.heap.specs.declared.handle.Handle.{Handle}
use Rattle.heap.specs.declared.handle.Handle.TheVariants.{Null, False, True, Integer, Instant, String, Compound}
use Rattle.heap.specs.declared.handle.Parts.{Parts}
use Rattle.syntax.proofs.Laws.Biased.{unbiased_biased}
use Rattle.heap.specs.Means.{Means, means_null, means_false, means_true, means_integer, means_instant, means_string, means_items, means_members, means_list, means_context}
use Rattle.heap.specs.Strings.{span_bytes}
use Rattle.heap.specs.Unfold.{Areas}
use Rattle.op_scalars.specs.Contract.{elements_of}
use Rattle.op_scalars.specs.Inner.{scalar_of, is_scalar}

-- ---- scalars
pub scalar_means : {a : Areas} {top : ℕ} {v : Value} {h : Handle} → Means a top v h → as_scalar v ≡ scalar_of a.rule a.strings h
scalar_means means_null = refl
scalar_means means_false = refl
scalar_means means_true = refl
scalar_means (means_integer {z = z} w e) = ap (λ x. Some (integer x)) (sym (ap unbiased e ∙ unbiased_biased z w))
scalar_means (means_instant w e) = refl
scalar_means (means_string l) = ap (λ x. Some (string x)) l.is
scalar_means (means_items e f r) = refl
scalar_means (means_members e f r) = refl
scalar_means (means_list e b r) = refl
scalar_means (means_context b i m n) = refl

pub no_scalar : (A B : Bytes) (h : Handle) → is_scalar h ≡ false → scalar_of A B h ≡ None
no_scalar A B Null e = clash cc
no_scalar A B False e = clash cc
no_scalar A B True e = clash cc
no_scalar A B (Integer n) e = clash cc
no_scalar A B (Instant n) e = refl
no_scalar A B (String s) e = clash cc
no_scalar A B (Compound p) e = refl

pub a_scalar : (A B : Bytes) (h : Handle) → is_scalar h ≡ true → (x : Scalar) × (scalar_of A B h ≡ Some x)
a_scalar A B Null e = (null, refl)
a_scalar A B False e = (boolean false, refl)
a_scalar A B True e = (boolean true, refl)
a_scalar A B (Integer n) e = (integer (unbiased n), refl)
a_scalar A B (Instant n) e = clash cc
a_scalar A B (String s) e = (string (span_bytes A B s), refl)
a_scalar A B (Compound p) e = clash cc

-- ---- arrays
same_some : {p q : Parts} → Some p ≡ Some q → p ≡ q
same_some e = cc

pub no_array : {a : Areas} {top : ℕ} {v : Value} {h : Handle} → Means a top v h → elements_of h ≡ None → as_array v ≡ None
no_array means_null e = refl
no_array means_false e = refl
no_array means_true e = refl
no_array (means_integer w f) e = refl
no_array (means_instant w f) e = refl
no_array (means_string l) e = refl
no_array (means_items f g r) e = clash cc
no_array (means_members f g r) e = refl
no_array (means_list f b r) e = clash cc
no_array (means_context b i m n) e = refl

-- The value of an array's handle.
pub record Elements (a : Areas) (top : ℕ) (v : Value) (p : Parts) : Type 0 where
  pub values : Values
  pub is : as_array v ≡ Some values
  pub means : Means a top (array values) (Compound p)

pub an_array : {a : Areas} {top : ℕ} {v : Value} {h : Handle} {p : Parts} → Means a top v h → elements_of h ≡ Some p → Elements a top v p
an_array means_null e = clash cc
an_array means_false e = clash cc
an_array means_true e = clash cc
an_array (means_integer w f) e = clash cc
an_array (means_instant w f) e = clash cc
an_array (means_string l) e = clash cc
an_array {a} {top} (means_items {vs = vs} {row = row} {count = count} f g r) e = record { values = vs; is = refl; means = subst (λ (q : Parts). Means a top (array vs) (Compound q)) (same_some e) (means_items {top = top} {vs = vs} {row = row} {count = count} f g r) }
an_array (means_members f g r) e = clash cc
an_array {a} {top} (means_list {vs = vs} {cell = cell} {count = count} f b r) e = record { values = vs; is = refl; means = subst (λ (q : Parts). Means a top (array vs) (Compound q)) (same_some e) (means_list {top = top} {vs = vs} {cell = cell} {count = count} f b r) }
an_array (means_context b i m n) e = clash cc

-- ---- every kind but one
-- What `let .. else` leaves of a handle: none of this kind.
abbrev pub NotInteger : Handle → Type 0
NotInteger h = (n : ℕ) → h ≡ Integer n → ⊥

abbrev pub NotInstant : Handle → Type 0
NotInstant h = (n : ℕ) → h ≡ Instant n → ⊥

pub no_integer : {a : Areas} {top : ℕ} {v : Value} {h : Handle} → Means a top v h → NotInteger h → as_integer v ≡ None
no_integer means_null k = refl
no_integer means_false k = refl
no_integer means_true k = refl
no_integer (means_integer w e) k = absurd (k _ refl)
no_integer (means_instant w e) k = refl
no_integer (means_string l) k = refl
no_integer (means_items e f r) k = refl
no_integer (means_members e f r) k = refl
no_integer (means_list e b r) k = refl
no_integer (means_context b i m n) k = refl

pub no_instant : {a : Areas} {top : ℕ} {v : Value} {h : Handle} → Means a top v h → NotInstant h → as_instant v ≡ None
no_instant means_null k = refl
no_instant means_false k = refl
no_instant means_true k = refl
no_instant (means_integer w e) k = refl
no_instant (means_instant w e) k = absurd (k _ refl)
no_instant (means_string l) k = refl
no_instant (means_items e f r) k = refl
no_instant (means_members e f r) k = refl
no_instant (means_list e b r) k = refl
no_instant (means_context b i m n) k = refl
