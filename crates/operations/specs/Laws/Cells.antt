-- Cells: what a run that changes only some cells leaves as it was.
use Rattle.std.specs.Prelude.{List, refl, ℕ, ◌+◌, ◌≤◌, ◌<◌, length}
use Rattle.std.proofs.Common.{sym, ◌∙◌, arith}
use Rattle.model.specs.Bytes.{Bytes}
use Rattle.model.specs.Value.{Value, Values}
use Rattle.heap.specs.declared.handle.Handle.{Handle}
use Rattle.heap.specs.Blocks.{stored_from, MeansEach, no_handles, handle_item}
use Rattle.heap.specs.Cells.{stored}
use Rattle.heap.proofs.Laws.Cells.{length_stored, stored_other}
use Rattle.heap.proofs.Laws.Made.{length_stored_from, stored_from_before}
use Rattle.heap.proofs.Main as heap
use Rattle.heap.specs.Means.{Means}
use Rattle.heap.specs.Unfold.{areas}
use Rattle.operations.specs.Cells.{Same}
use Rattle.operations.specs.Laws.Stack.{stored_from_after}

pub same_all : (C : Bytes) (top bottom : ℕ) → Same C C top bottom
same_all C top bottom = record { below = λ j l. refl; above = λ j l. refl; size = refl }

-- One run after another, further in.
pub same_then : {C C₁ C₂ : Bytes} {top bottom top₁ bottom₁ : ℕ} → Same C C₁ top bottom → Same C₁ C₂ top₁ bottom₁ → top ≤ top₁ → bottom₁ ≤ bottom → Same C C₂ top bottom
same_then a b l m = record {
  below = λ j k. a.below j k ∙ b.below j (omega arith);
  above = λ j k. a.above j k ∙ b.above j (omega arith);
  size = b.size ∙ a.size;
}

-- A handle put into a cell between.
pub same_put : (C : Bytes) (j : ℕ) (h : Handle) {top bottom : ℕ} → top ≤ j → j < bottom → Same C (stored C j h) top bottom
same_put C j h l m = record {
  below = λ k n. sym (stored_other C k j h (λ e. absurd (omega arith)));
  above = λ k n. sym (stored_other C k j h (λ e. absurd (omega arith)));
  size = length_stored C j h;
}

-- A block of handles between.
pub same_block : (C : Bytes) (top : ℕ) (hs : List Handle) {bottom : ℕ} → top + length hs ≤ bottom → Same C (stored_from C top hs) top bottom
same_block C top hs l = record {
  below = λ j k. sym (stored_from_before C top hs j k);
  above = λ j k. sym (stored_from_after C top hs j (omega arith));
  size = length_stored_from C top hs;
}

-- What a handle means is kept, and what several mean.
pub means_kept : {A B R C C' : Bytes} {top bottom top' : ℕ} {v : Value} {h : Handle} → Same C C' top bottom → top ≤ top' → Means (areas A B R C) top v h → Means (areas A B R C') top' v h
means_kept {A} {B} {R} {C} {C'} {top} {bottom} {top'} {v} {h} s l m = heap.kept A B R C C' top top' v h m s.below (omega (arith, s.size)) l

pub each_kept : {A B R C C' : Bytes} {top bottom top' : ℕ} {vs : Values} {hs : List Handle} → Same C C' top bottom → top ≤ top' → MeansEach (areas A B R C) top vs hs → MeansEach (areas A B R C') top' vs hs
each_kept s l no_handles = no_handles
each_kept s l (handle_item m e) = handle_item (means_kept s l m) (each_kept s l e)
