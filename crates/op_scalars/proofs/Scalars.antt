-- Scalars: equality of two scalars, and of one with the items of an array.
use mathlib.Core.Path.{◌≡◌, refl, sym, ap, ap₂, ◌∙◌}
use mathlib.Core.Bool.{Bool, true, false, ◌||◌}
use Rattle.std.specs.Prelude.{None, Some, Ok, Err}
use Prim.Native.Nat.{ℕ, zero, suc, ◌-◌, ◌<◌}
use native.Mathlib.Omega.{arith}
use lib.Dec.{eqb}
use Rattle.model.specs.Bytes.{Bytes}
use Rattle.model.specs.Operations as operations
use Rattle.model.specs.Option.{holds}
use Rattle.model.specs.declared.refusal.Fault.TheVariants.{WrongKind}
use Rattle.model.specs.Result.{Result, ok}
use Rattle.model.specs.Value.{Value, array, Scalar, integer, Values, no_items, item, as_scalar, as_array, same_scalar}
use Rattle.syntax.specs.Layout.{item_count, unbiased}
use Rattle.heap.specs.declared.handle.Handle.{Handle}
use Rattle.heap.specs.declared.handle.Handle.TheVariants.{Integer, Compound}
use Rattle.heap.specs.declared.handle.Parts.{Parts}
use Rattle.heap.proofs.Laws.Means.{array_count, array_parts}
use Rattle.heap.specs.Means.{Means}
use Rattle.heap.specs.Parts.{head_of, tail_of}
use Rattle.heap.specs.Unfold.{Areas}
use Rattle.op_scalars.specs.Contract.{elements_of, Equality, Membership}
use Rattle.op_scalars.specs.Inner.{boolean_handle, scalar_of, is_scalar, is_the, same_handles, among_parts}
use Rattle.op_scalars.proofs.Answers.{gives_bool, first_wrong, second_wrong, both_right}
use Rattle.op_scalars.proofs.Operands.{scalar_means, no_scalar, a_scalar, no_array, an_array}
use Rattle.op_scalars.proofs.Raised.{same_raised, unbiased_raised}

-- ---- integers
pub is_same_integer : (A B : Bytes) (m n : ℕ) → eqb m n ≡ is_the A B (integer (unbiased m)) (Integer n)
is_same_integer A B m n = sym (same_raised (unbiased_raised m) (unbiased_raised n))

-- ---- `===`
abbrev equals : Scalar → Scalar → Result Value
equals s t = ok (operations.bool (same_scalar s t))

module _ (A B : Bytes) {x y : Handle} where
  pub equality_first : is_scalar x ≡ false → Equality A B x y (Err WrongKind)
  equality_first e = record { gives = λ T C top v u m n. first_wrong equals (as_scalar v) (as_scalar u) (scalar_means m ∙ no_scalar A B x e) }

  pub equality_second : is_scalar y ≡ false → Equality A B x y (Err WrongKind)
  equality_second e = record { gives = λ T C top v u m n. second_wrong equals (as_scalar v) (as_scalar u) (scalar_means n ∙ no_scalar A B y e) }

  pub equality_both : {h : Handle} {b : Bool} → is_scalar x ≡ true → is_scalar y ≡ true → h ≡ boolean_handle b → b ≡ same_handles A B x y → Equality A B x y (Ok h)
  equality_both e f w g =
      let s = a_scalar A B x e in
      let t = a_scalar A B y f in
      record {
        gives = λ T C top v u m n.
            both_right equals (as_scalar v) (as_scalar u) (scalar_means m ∙ s.1) (scalar_means n ∙ t.1)
            (gives_bool (same_scalar s.0 t.0) (w ∙ ap boolean_handle (g ∙ ap (holds (λ x. is_the A B x y)) s.1 ∙ ap (holds (same_scalar s.0)) t.1)));
      }

-- ---- `in`
among_parts_lem : {a : Areas} {top : ℕ} (x : Handle) {s : Scalar} (vs : Values) {p : Parts} → Means a top (array vs) (Compound p) → scalar_of a.rule a.strings x ≡ Some s
    → among_parts a.rule a.strings a.table a.cells x (item_count vs) p ≡ operations.among s vs
unfolding item_count among_parts
among_parts_lem x no_items m e = refl
among_parts_lem {a} x {s = s} (item v vs) {p} m e =
    let r = array_parts m in
    let h = head_of a.table a.cells p in
    ap₂ ◌||◌
    (ap (holds (λ y. is_the a.rule a.strings y h)) e ∙ ap (holds (same_scalar s)) (sym (scalar_means r.head)))
    (among_parts_lem x vs r.rest e)

abbrev found_among : Scalar → Values → Result Value
found_among s vs = ok (operations.bool (operations.among s vs))

module _ (A B T C : Bytes) {x y : Handle} where
  pub membership_first : is_scalar x ≡ false → Membership A B T C x y (Err WrongKind)
  membership_first e = record { gives = λ top v u m n. first_wrong found_among (as_scalar v) (as_array u) (scalar_means m ∙ no_scalar A B x e) }

  pub membership_second : elements_of y ≡ None → Membership A B T C x y (Err WrongKind)
  membership_second e = record { gives = λ top v u m n. second_wrong found_among (as_scalar v) (as_array u) (no_array n e) }

  pub membership_both : {h : Handle} {b : Bool} {p : Parts} → is_scalar x ≡ true → elements_of y ≡ Some p → h ≡ boolean_handle b → b ≡ among_parts A B T C x p.count p → Membership A B T C x y (Ok h)
  membership_both {p = p} e f w g =
      let s = a_scalar A B x e in
      record {
        gives = λ top v u m n.
            let vs = an_array n f in
            both_right found_among (as_scalar v) (as_array u) (scalar_means m ∙ s.1) vs.is
            (gives_bool (operations.among s.0 vs.values)
            (w ∙ ap boolean_handle (g ∙ ap (λ k. among_parts A B T C x k p) (array_count vs.means) ∙ among_parts_lem x vs.values vs.means s.1)));
      }

-- ---- the loop
module _ (A B T C : Bytes) (x : Handle) where
  first_part : (n : ℕ) (p : Parts) → 0 < n → among_parts A B T C x n p ≡ same_handles A B x (head_of T C p) || among_parts A B T C x (n - 1) (tail_of T C p)
  unfolding among_parts
  first_part zero p l = absurd (omega arith)
  first_part (suc n) p l =
      let e : n ≡ suc n - 1 = omega arith in
      ap (λ k. same_handles A B x (head_of T C p) || among_parts A B T C x k (tail_of T C p)) e

  -- What the first part says: it is the same scalar, or it is as of the others.
  first_says : {h : Handle} {b : Bool} (p : Parts) → 0 < p.count → h ≡ head_of T C p → b ≡ same_handles A B x h → among_parts A B T C x p.count p ≡ b || among_parts A B T C x (p.count - 1) (tail_of T C p)
  first_says p l e f = first_part p.count p l ∙ ap (λ b. b || among_parts A B T C x (p.count - 1) (tail_of T C p)) (sym (f ∙ ap (same_handles A B x) e))

  pub found : {h : Handle} {b : Bool} (p : Parts) → 0 < p.count → h ≡ head_of T C p → b ≡ same_handles A B x h → b ≡ true → among_parts A B T C x p.count p ≡ true
  found p l e f g = first_says p l e f ∙ ap (λ b. b || among_parts A B T C x (p.count - 1) (tail_of T C p)) g

  pub passed : {h : Handle} {b : Bool} {q : Parts} (p : Parts) → 0 < p.count → h ≡ head_of T C p → b ≡ same_handles A B x h → b ≡ false → q ≡ tail_of T C p
      → among_parts A B T C x q.count q ≡ among_parts A B T C x p.count p
  passed p l e f g t =
      ap (λ q. among_parts A B T C x q.count q) t
      ∙ sym (first_says p l e f ∙ ap (λ b. b || among_parts A B T C x (p.count - 1) (tail_of T C p)) g)

  pub no_parts : (p : Parts) → p.count ≡ 0 → among_parts A B T C x p.count p ≡ false
  unfolding among_parts
  no_parts p e = ap (λ n. among_parts A B T C x n p) e
