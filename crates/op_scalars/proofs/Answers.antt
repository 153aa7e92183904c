-- Answers: what an answer gives where an operand is of the wrong kind, where both are of the right one, and where it is a boolean.
use mathlib.Core.Path.{◌≡◌, refl, sym, ap, subst}
use mathlib.Core.Bool.{Bool, true, false}
use Rattle.std.specs.Prelude.{Option, None, Some, Ok, Err}
use Prim.Native.Nat.{ℕ}
use Rattle.model.specs.Operations.{bool}
use Rattle.model.specs.declared.refusal.Fault.TheVariants.{WrongKind}
use Rattle.model.specs.Result.{Result, ok, ◌>>=◌, required}
use Rattle.model.specs.Value.{Value}
use Rattle.heap.specs.declared.handle.Handle.{Handle}
use Rattle.heap.specs.Means.{means_false, means_true}
use Rattle.heap.specs.Unfold.{Areas}
use Rattle.op_result.specs.Contract.{Answered, Gives, gives_value, gives_fault}
use Rattle.op_scalars.specs.Inner.{boolean_handle}

pub gives_bool : {a : Areas} {top : ℕ} (b : Bool) {h : Handle} → h ≡ boolean_handle b → Gives a top (ok (bool b)) (Ok h)
gives_bool true e = gives_value (ap Ok e) means_true
gives_bool false e = gives_value (ap Ok e) means_false

-- ---- an operation on two operands, each of a kind
abbrev on_both : {A B : Type 0} → (A → B → Result Value) → Option A → Option B → Result Value
on_both f o p = required WrongKind o >>= (λ x. required WrongKind p >>= (λ y. f x y))

module _ {A B : Type 0} {a : Areas} {top : ℕ} (f : A → B → Result Value) (o : Option A) (p : Option B) where
  pub first_wrong : o ≡ None → Gives a top (on_both f o p) (Err WrongKind)
  first_wrong e = subst (λ (q : Option A). Gives a top (on_both f q p) (Err WrongKind)) (sym e) (gives_fault refl)

  wrong_second : (q : Option A) → Gives a top (on_both f q None) (Err WrongKind)
  wrong_second None = gives_fault refl
  wrong_second (Some x) = gives_fault refl

  pub second_wrong : p ≡ None → Gives a top (on_both f o p) (Err WrongKind)
  second_wrong e = subst (λ (q : Option B). Gives a top (on_both f o q) (Err WrongKind)) (sym e) (wrong_second o)

  pub both_right : {x : A} {y : B} {r : Answered} → o ≡ Some x → p ≡ Some y → Gives a top (f x y) r → Gives a top (on_both f o p) r
  both_right {x} {r = r} e g h = subst (λ (q : Option A). Gives a top (on_both f q p) r) (sym e) (subst (λ (q : Option B). Gives a top (on_both f (Some x) q) r) (sym g) h)
