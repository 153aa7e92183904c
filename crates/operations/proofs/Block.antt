-- Block: the operands copied from the stack into one block of cells.
use mathlib.Core.List.{List, [], ◌∷◌, ◌++◌}
use mathlib.Core.Path.{◌≡◌, refl, sym, ap, ◌∙◌}
use Prim.Native.Nat.{ℕ, suc, ◌+◌, ◌-◌, ◌≤◌, ◌<◌}
use native.Mathlib.Omega.{arith}
use lib.ListN.{length}
use Rattle.model.specs.Bytes.{Bytes}
use Rattle.heap.specs.declared.handle.Handle.{Handle}
use Rattle.heap.specs.Blocks.{stored_from}
use Rattle.heap.specs.Cells.{cell_handle, stored}
use Rattle.operations.specs.Stack.{stack_cell, stacked_from, stacked}
use Rattle.operations.specs.Laws.Stack.{stack_cell_lem, stacked_length, stacked_more, stored_from_after}

-- One handle more.
stored_more : (C : Bytes) (j : ℕ) (hs : List Handle) (h : Handle) → stored_from C j (hs ++ (h ∷ [])) ≡ stored (stored_from C j hs) (j + length hs) h
unfolding stored_from
stored_more C j [] h = let e : j ≡ j + 0 = omega arith in ap (λ (k : ℕ). stored C k h) e
stored_more C j (x ∷ hs) h =
    let e : suc j + length hs ≡ j + suc (length hs) = omega arith in
    stored_more (stored C j x) (suc j) hs h ∙ ap (λ (k : ℕ). stored (stored_from (stored C j x) (suc j) hs) k h) e

-- ---- the loop
-- The first i operands are copied.
abbrev pub Copied : Bytes → ℕ → ℕ → ℕ → Bytes → Type 0
Copied C bottom top i D = D ≡ stored_from C top (stacked C bottom i)

pub copy_begins : (C : Bytes) (bottom top : ℕ) → Copied C bottom top 0 C
unfolding stored_from stacked_from
copy_begins C bottom top = refl

pub copy_next : (C : Bytes) (bottom count top i : ℕ) {D D' : Bytes} (h : Handle) → top + count + count ≤ bottom → i < count → Copied C bottom top i D → h ≡ stack_cell D bottom i → D' ≡ stored D (top + i) h → Copied C bottom top (i + 1) D'
copy_next C bottom count top i {D} {D'} h room l c e f =
    let size : length (stacked C bottom i) ≡ i = stacked_length C bottom 0 i in
    let next : i + 1 ≡ suc i = omega arith in
    let from-0 : 0 + i ≡ i = omega arith in
    let same : stack_cell D bottom i ≡ stack_cell C bottom i =
    stack_cell_lem D bottom i (omega arith)
    ∙ ap (λ (X : Bytes). cell_handle X (bottom - i - 1)) c
    ∙ stored_from_after C top (stacked C bottom i) (bottom - i - 1) (omega (arith, size))
    ∙ sym (stack_cell_lem C bottom i (omega arith)) in
    f
    ∙ (λ k. stored (c k) (top + sym size k) ((e ∙ same) k))
    ∙ sym (stored_more C top (stacked C bottom i) (stack_cell C bottom i))
    ∙ ap (stored_from C top) (sym (stacked_more C bottom 0 i ∙ ap (λ (k : ℕ). stacked C bottom i ++ (stack_cell C bottom k ∷ [])) from-0))
    ∙ ap (λ (n : ℕ). stored_from C top (stacked C bottom n)) (sym next)
