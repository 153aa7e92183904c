-- Stack: the operands on the stack, and the cells above a block.
use Rattle.std.specs.Prelude.{List, [], ◌∷◌, ◌++◌, ◌≡◌, refl, ℕ, zero, suc, ◌+◌, ◌-◌, ◌≤◌, ◌<◌, length}
use Rattle.std.proofs.Common.{sym, ap, ◌∙◌, arith}
use Rattle.std.proofs.lemmas.Bool.{lt-leb}
use Rattle.model.specs.Bytes.{Bytes}
use Rattle.heap.specs.declared.handle.Handle.{Handle}
use Rattle.heap.specs.Blocks.{stored_from}
use Rattle.heap.specs.Cells.{cell_handle, stored}
use Rattle.heap.proofs.Laws.Cells.{stored_other}
use Rattle.operations.specs.Stack.{stack_cell, first_cell, stacked_from}

pub stack_cell_lem : (C : Bytes) (bottom k : ℕ) → k < bottom → stack_cell C bottom k ≡ cell_handle C (bottom - k - 1)
unfolding stack_cell
stack_cell_lem C bottom k l = rw (lt-leb bottom k l)

-- The first, where there is one.
pub first_cell_lem : (C : Bytes) (bottom n : ℕ) → 1 ≤ n → first_cell C bottom n ≡ stack_cell C bottom 0
first_cell_lem C bottom zero l = absurd (omega arith)
first_cell_lem C bottom (suc n) l = refl

-- As many handles as were asked for.
pub stacked_length : (C : Bytes) (bottom k n : ℕ) → length (stacked_from C bottom k n) ≡ n
unfolding stacked_from
stacked_length C bottom k zero = refl
stacked_length C bottom k (suc n) = ap suc (stacked_length C bottom (suc k) n)

-- Cells from b on that stay, and with them the operands there.
pub stacked_same : (C C' : Bytes) (bottom b k n : ℕ) → ((j : ℕ) → b ≤ j → cell_handle C j ≡ cell_handle C' j) → b + k + n ≤ bottom → stacked_from C bottom k n ≡ stacked_from C' bottom k n
unfolding stacked_from
stacked_same C C' bottom b k zero f l = refl
stacked_same C C' bottom b k (suc n) f l =
    let e : stack_cell C bottom k ≡ stack_cell C' bottom k = stack_cell_lem C bottom k (omega arith) ∙ f (bottom - k - 1) (omega arith) ∙ sym (stack_cell_lem C' bottom k (omega arith)) in
    (λ i. e i ∷ stacked_same C C' bottom b (suc k) n f (omega arith) i)

-- One more.
pub stacked_more : (C : Bytes) (bottom k n : ℕ) → stacked_from C bottom k (suc n) ≡ stacked_from C bottom k n ++ (stack_cell C bottom (k + n) ∷ [])
unfolding stacked_from
stacked_more C bottom k zero = let e : k ≡ k + 0 = omega arith in ap (λ (j : ℕ). stack_cell C bottom j ∷ []) e
stacked_more C bottom k (suc n) =
    let e : suc k + n ≡ k + suc n = omega arith in
    ap (λ (hs : List Handle). stack_cell C bottom k ∷ hs) (stacked_more C bottom (suc k) n ∙ ap (λ (j : ℕ). stacked_from C bottom (suc k) n ++ (stack_cell C bottom j ∷ [])) e)

-- The cells after a block of handles stay.
pub stored_from_after : (C : Bytes) (j : ℕ) (hs : List Handle) (k : ℕ) → j + length hs ≤ k → cell_handle (stored_from C j hs) k ≡ cell_handle C k
unfolding stored_from
stored_from_after C j [] k l = refl
stored_from_after C j (x ∷ hs) k l = stored_from_after (stored C j x) (suc j) hs k (omega arith) ∙ stored_other C k j x (λ e. absurd (omega arith))
