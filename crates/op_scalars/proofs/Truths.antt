-- Truths: the truth of a value from its handle.
use Rattle.std.specs.Prelude.{Ok, Err}
use mathlib.Core.Path.{◌≡◌, refl, ap, subst, ◌∙◌}
use mathlib.Core.Bool.{true, false}
use mathlib.Core.List.{[], ◌∷◌}
use Prim.Native.Nat.{ℕ, zero, suc}
use native.Mathlib.Omega.{arith}
use borrow.Author.Tests.{eq-eqb, ne_eqb}
use lib.Dec.{eqb}
use lib.IntN.{ℤ, pos, negsuc}
use lib.ListN.{length, drop, length-drop}
use lib.Seq.{length-take-le}
use Rattle.model.specs.Bytes.{Bytes}
use Rattle.model.specs.declared.refusal.Fault.TheVariants.{WrongKind}
use Rattle.model.specs.Operations as operations
use Rattle.model.specs.Truth as truths
use Rattle.model.specs.Value.{Value, scalar, integer, string, array, object, Values, no_items, item, Members, no_members, member, member_count}
use Rattle.syntax.specs.Layout.{biased, item_count}
use Rattle.heap.specs.declared.handle.Handle.{Handle}
use Rattle.heap.specs.declared.handle.Handle.TheVariants.{False, True, Integer, String, Compound}
use Rattle.heap.specs.declared.handle.Parts.{Parts}
use Rattle.heap.specs.declared.handle.Span.{Span}
use Rattle.table.specs.Denotes.{Lies}
use Rattle.heap.specs.Means.{Means, means_integer, means_string, means_items, means_members, means_list, means_context}
use Rattle.heap.specs.Unfold.{Areas}
use Rattle.op_scalars.specs.declared.truth.Truth.{Truth}
use Rattle.op_scalars.specs.declared.truth.Truth.TheVariants.{Truthy, Falsy, Neither}
use Rattle.op_result.specs.Contract.{Answered, Gives, gives_fault}
use Rattle.op_scalars.specs.Contract.{TruthIs, truth_of, Negated}
use Rattle.op_scalars.specs.Inner.{truthy_unless}
use Rattle.op_scalars.proofs.Answers.{gives_bool}

-- Falsy where a number is none, truthy where it is another.
falsy_at : (m n : ℕ) → m ≡ n → truth_of (truthy_unless (eqb m n)) ≡ truths.falsy
falsy_at m n e = rw (eq-eqb m n e)

truthy_at : (m n : ℕ) → (m ≡ n → ⊥) → truth_of (truthy_unless (eqb m n)) ≡ truths.truthy
truthy_at m n f = rw (ne_eqb m n f)

-- ---- integers
biased_truth : (z : ℤ) → truth_of (truthy_unless (eqb (biased z) 9007199254740992)) ≡ truths.truth (scalar (integer z))
unfolding biased
biased_truth (pos zero) = falsy_at (biased (pos zero)) 9007199254740992 (omega arith)
biased_truth (pos (suc n)) = truthy_at (biased (pos (suc n))) 9007199254740992 (λ e. omega arith)
biased_truth (negsuc n) = truthy_at (biased (negsuc n)) 9007199254740992 (λ e. omega arith)

pub integer_truth : (n : ℕ) → TruthIs (Integer n) (truthy_unless (eqb n 9007199254740992))
integer_truth n = record { is = λ a top v m. go m }
  where
    go : {a : Areas} {top : ℕ} {v : Value} → Means a top v (Integer n) → truth_of (truthy_unless (eqb n 9007199254740992)) ≡ truths.truth v
    go (means_integer {z = z} w e) = rw e (biased_truth z)

-- ---- strings
-- A string has as many bytes as its handle says.
lies_length : {A : Bytes} {start size : ℕ} {s : Bytes} → Lies A start size s → length s ≡ size
lies_length {A} {start} {size} l = ap length l.is ∙ length-take-le size (drop start A) (omega (arith, length-drop start A))

length_truth : (s : Bytes) → truth_of (truthy_unless (eqb (length s) 0)) ≡ truths.truth (scalar (string s))
length_truth [] = refl
length_truth (x ∷ s) = truthy_at (length (x ∷ s)) 0 (λ e. omega arith)

pub string_truth : (s : Span) → TruthIs (String s) (truthy_unless (eqb s.size 0))
string_truth s = record { is = λ a top v m. go m }
  where
    go : {a : Areas} {top : ℕ} {v : Value} {s : Span} → Means a top v (String s) → truth_of (truthy_unless (eqb s.size 0)) ≡ truths.truth v
    go (means_string {s = t} l) = rw (← lies_length l) (length_truth t)

-- ---- arrays and objects
items_truth : (vs : Values) → truth_of (truthy_unless (eqb (item_count vs) 0)) ≡ truths.truth (array vs)
unfolding item_count
items_truth no_items = refl
items_truth (item v vs) = truthy_at (suc (item_count vs)) 0 (λ e. omega arith)

members_truth : (ms : Members) → truth_of (truthy_unless (eqb (member_count ms) 0)) ≡ truths.truth (object ms)
members_truth no_members = refl
members_truth (member n v ms) = truthy_at (suc (member_count ms)) 0 (λ e. omega arith)

pub compound_truth : (p : Parts) → TruthIs (Compound p) (truthy_unless (eqb p.count 0))
compound_truth p = record { is = λ a top v m. go m }
  where
    go : {a : Areas} {top : ℕ} {v : Value} {p : Parts} → Means a top v (Compound p) → truth_of (truthy_unless (eqb p.count 0)) ≡ truths.truth v
    go (means_items {vs = vs} e f r) = rw e (items_truth vs)
    go (means_members {ms = ms} e f r) = rw e (members_truth ms)
    go (means_list {vs = vs} e b r) = rw e (items_truth vs)
    go (means_context b i m n) = refl

-- ---- `!`
negated_is : {x : Handle} {t : Truth} {r : Answered} → TruthIs x t → ((a : Areas) (top : ℕ) → Gives a top (operations.negated (truth_of t)) r) → Negated x r
negated_is {r = r} k g = record { gives = λ a top v m. subst (λ u. Gives a top (operations.negated u) r) (k.is a top v m) (g a top) }

pub negated_truthy : {x : Handle} {t : Truth} → TruthIs x t → t ≡ Truthy → Negated x (Ok False)
negated_truthy k e = negated_is k (λ a top. rw e (gives_bool false refl))

pub negated_falsy : {x : Handle} {t : Truth} → TruthIs x t → t ≡ Falsy → Negated x (Ok True)
negated_falsy k e = negated_is k (λ a top. rw e (gives_bool true refl))

pub negated_neither : {x : Handle} {t : Truth} → TruthIs x t → t ≡ Neither → Negated x (Err WrongKind)
negated_neither k e = negated_is k (λ a top. rw e (gives_fault refl))
