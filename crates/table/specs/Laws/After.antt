-- After: rows one after the other. They grow, and tables of the same rows have the same ones.
use Rattle.std.specs.Prelude.{◌≡◌, refl, ℕ, zero, suc, ◌+◌, ◌≤◌, ◌<◌}
use Rattle.std.proofs.Common.{sym, ap, ◌∙◌, arith}
use Rattle.model.specs.Bytes.{Bytes}
use Rattle.model.specs.Limits.{max_values}
use Rattle.table.specs.Node.{next_row}
use Rattle.table.specs.Placed.{Placed, PlacedWhole, row_after}
use Rattle.table.specs.Laws.WasRead.{SameRows, node_same, next_same}

-- The row after one more value.
pub row_after_next : (T : Bytes) (row k : ℕ) → row_after T row (suc k) ≡ next_row T (row_after T row k)
row_after_next T row zero = refl
row_after_next T row (suc k) = row_after_next T (next_row T row) k

-- All of so many values are in rows of a text.
abbrev pub Below : Bytes → ℕ → ℕ → Type 0
Below T row n = (k : ℕ) → k < n → row_after T row k < max_values

-- Each is at least one row.
pub rows_grow : {T : Bytes} → Placed T → (row n : ℕ) → Below T row n → row + n ≤ row_after T row n
rows_grow placed row zero w = omega arith
rows_grow {T} placed row (suc n) w =
    omega (arith, placed.on row (w 0 (omega arith)), rows_grow placed (next_row T row) n (λ k l. w (suc k) (omega arith)))

-- ---- tables of the same rows
pub after_same : {D T : Bytes} → SameRows D T → (k row : ℕ) → Below T row k → row_after D row k ≡ row_after T row k
after_same same zero row h = refl
after_same {D} {T} same (suc k) row h =
    ap (λ (r : ℕ). row_after D r k) (next_same same row (h 0 (omega arith))) ∙ after_same same k (next_row T row) (λ j l. h (suc j) (omega arith))

pub placed_same : {D T : Bytes} → SameRows D T → PlacedWhole T → PlacedWhole D
placed_same {D} {T} same w = record {
  placed = record {
    on = λ row l. rw (next_same same row l) (w.placed.on row l);
    within = λ row l. rw (next_same same row l) (w.placed.within row l);
    items = λ row q l e.
        let f = sym (node_same same row l) ∙ e in
        after_same same q.count q.first (w.placed.inside row q l f) ∙ w.placed.items row q l f ∙ sym (next_same same row l);
    members = λ row q l e.
        let f = sym (node_same same row l) ∙ e in
        after_same same q.count q.first (w.inside_members row q l f) ∙ w.placed.members row q l f ∙ sym (next_same same row l);
    inside = λ row q l e k h.
        let f = sym (node_same same row l) ∙ e in
        let b = w.placed.inside row q l f in
        rw (after_same same k q.first (λ j i. b j (omega arith))) (b k h);
  };
  inside_members = λ row q l e k h.
      let f = sym (node_same same row l) ∙ e in
      let b = w.inside_members row q l f in
      rw (after_same same k q.first (λ j i. b j (omega arith))) (b k h);
  nested = λ row r l b h.
      let e = next_same same row l in
      let k : r < next_row T row = omega arith in
      omega (arith, e, next_same same r (omega (arith, w.placed.within row l)), w.nested row r l b k);
}
