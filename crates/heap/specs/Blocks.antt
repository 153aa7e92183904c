-- Blocks: handles that stand in cells one after the other, as those of a list that evaluation makes do.
use Rattle.std.specs.Prelude.{List, [], ◌∷◌, ℕ, suc}
use Rattle.model.specs.Bytes.{Bytes}
use Rattle.model.specs.Value.{Value, Values, no_items, item}
use Rattle.heap.specs.declared.handle.Handle.{Handle}
use Rattle.heap.specs.Cells.{stored}
use Rattle.heap.specs.Means.{Means}
use Rattle.heap.specs.Unfold.{Areas}

-- The heap with these handles in its cells, from a cell on.
unfoldable pub stored_from : Bytes → ℕ → List Handle → Bytes
stored_from C j [] = C
stored_from C j (h ∷ hs) = stored_from (stored C j h) (suc j) hs

-- The handles mean the items of an array, one each, and refer to cells below `top` only.
pub data MeansEach (a : Areas) (top : ℕ) : Values → List Handle → Type 0 where
  no_handles : MeansEach a top no_items []
  handle_item : {v : Value} {vs : Values} {h : Handle} {hs : List Handle} → Means a top v h → MeansEach a top vs hs → MeansEach a top (item v vs) (h ∷ hs)
