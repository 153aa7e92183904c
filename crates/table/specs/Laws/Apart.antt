-- Apart: a row of a table is a part of one array or object at most.
use Rattle.std.specs.Prelude.{◌≡◌, ◌⊎◌, ℕ, zero, suc, ◌+◌, ◌≤◌, ◌<◌}
use Rattle.std.proofs.Common.{sym, ap, subst, ◌∙◌, inl, inr, arith}
use Rattle.model.specs.Bytes.{Bytes}
use Rattle.model.specs.Limits.{max_values}
use Rattle.table.specs.declared.node.Node.TheVariants.{Array, Object}
use Rattle.table.specs.declared.node.Rows.{Rows}
use Rattle.table.specs.Node.{node_at, next_row}
use Rattle.table.specs.Placed.{PlacedWhole, row_after}
use Rattle.table.specs.Laws.After.{row_after_next}
use Rattle.table.specs.Laws.Inside.{by_order}
use Rattle.table.specs.Laws.Placed.{array_first, object_first}

-- A row before the end lies in one of the values.
record Within (T : Bytes) (row n x : ℕ) : Type 0 where
  which : ℕ
  among : which < n
  starts : row_after T row which ≤ x
  ends : x < next_row T (row_after T row which)

within_one : (T : Bytes) (row n x : ℕ) → row ≤ x → x < row_after T row n → Within T row n x
within_one T row zero x l k = absurd (omega arith)
within_one T row (suc n) x l k =
    by_order x (row_after T row n)
    (λ h. let w = within_one T row n x l h in record { which = w.which; among = omega (arith, w.among); starts = w.starts; ends = w.ends })
    (λ h. record { which = n; among = omega arith; starts = h; ends = omega (arith, row_after_next T row n) })

-- ---- the parts of an array or object
-- The row of one, and how many parts it has.
record Container (T : Bytes) (row n : ℕ) : Type 0 where
  ends : row_after T (row + 1) n ≡ next_row T row
  inside : (k : ℕ) → k < n → row_after T (row + 1) k < max_values

module _ {T : Bytes} (whole : PlacedWhole T) where
  module _ {row n : ℕ} (c : Container T row n) where
    -- A part ends before a later one begins.
    part_before : (i k : ℕ) → i < k → k ≤ n → next_row T (row_after T (row + 1) i) ≤ row_after T (row + 1) k
    part_before i zero l m = absurd (omega arith)
    part_before i (suc k) l m =
        let s = row_after_next T (row + 1) k in
        let o = whole.placed.on (row_after T (row + 1) k) (c.inside k (omega arith)) in
        by_order i k (λ h. omega (arith, s, o, part_before i k h (omega arith)))
        (λ h. let e : i ≡ k = omega arith in omega (arith, s, ap (λ (j : ℕ). next_row T (row_after T (row + 1) j)) e))

    -- Each begins behind the row of the whole,
    part_behind : (k : ℕ) → k ≤ n → row < row_after T (row + 1) k
    part_behind zero m = omega arith
    part_behind (suc k) m =
        omega (arith, row_after_next T (row + 1) k, whole.placed.on (row_after T (row + 1) k) (c.inside k (omega arith)), part_behind k (omega arith))

    -- and before the end of the whole.
    part_inside : (k : ℕ) → k < n → row_after T (row + 1) k < next_row T row
    part_inside k l = omega (arith, c.ends, whole.placed.on (row_after T (row + 1) k) (c.inside k l), part_before k n l (omega arith))

    -- A part that begins behind a row of another part begins where that ends, or behind.
    part_after_lem : (i k x : ℕ) → i < n → k < n → row_after T (row + 1) k ≤ x → x < row_after T (row + 1) i → next_row T (row_after T (row + 1) k) ≤ row_after T (row + 1) i
    part_after_lem i k x l m s b =
        by_order k i (λ h. part_before k i h (omega arith))
        (λ h. by_order i k
        (λ g. absurd (omega (arith, s, b, whole.placed.on (row_after T (row + 1) i) (c.inside i l), part_before i k g (omega arith))))
        (λ g. let e : i ≡ k = omega arith in absurd (omega (arith, s, b, ap (row_after T (row + 1)) e))))

  -- Of two arrays or objects the later one is in one part of the first, or behind the first: no part of it is a part of the first.
  later_apart : {a o n m : ℕ} → Container T a n → Container T o m → a < o → (i j : ℕ) → i < n → j < m → row_after T (a + 1) i ≡ row_after T (o + 1) j → ⊥
  later_apart {a} {o} {n} {m} c d l i j ni mj e =
      let behind = part_behind d j (omega arith) in
      let before = part_inside d j mj in
      let w = within_one T (a + 1) n o (omega arith) (omega (arith, e, behind, part_inside c i ni, c.ends)) in
      let k = w.which in
      let within = whole.nested (row_after T (a + 1) k) o (c.inside k w.among) w.starts w.ends in
      omega (arith, e, before, within, part_after_lem c i k o ni w.among w.starts (omega (arith, e, behind)))

  containers_apart : {a o n m : ℕ} → Container T a n → Container T o m → (a ≡ o → ⊥) → (i j : ℕ) → i < n → j < m → row_after T (a + 1) i ≡ row_after T (o + 1) j → ⊥
  containers_apart {a} {o} c d x i j ni mj e =
      by_order a o (λ h. later_apart c d h i j ni mj e)
      (λ h. by_order o a (λ g. later_apart d c g j i mj ni (sym e)) (λ g. x (omega arith)))

  -- ---- arrays and objects are such
  container : (a : ℕ) (p : Rows) → a < max_values → node_at T a ≡ Array p ⊎ node_at T a ≡ Object p → Container T a p.count
  container a p l (inl e) =
      let f = array_first T a p e in
      record {
        ends = ap (λ (k : ℕ). row_after T k p.count) (sym f) ∙ whole.placed.items a p l e;
        inside = λ k m. subst (λ (s : ℕ). row_after T s k < max_values) f (whole.placed.inside a p l e k m);
      }
  container a p l (inr e) =
      let f = object_first T a p e in
      record {
        ends = ap (λ (k : ℕ). row_after T k p.count) (sym f) ∙ whole.placed.members a p l e;
        inside = λ k m. subst (λ (s : ℕ). row_after T s k < max_values) f (whole.inside_members a p l e k m);
      }

-- Parts begin in the row behind.
parts_first : (T : Bytes) (a : ℕ) (p : Rows) → node_at T a ≡ Array p ⊎ node_at T a ≡ Object p → p.first ≡ a + 1
parts_first T a p (inl e) = array_first T a p e
parts_first T a p (inr e) = object_first T a p e

pub parts_apart :
    (T : Bytes) (a o : ℕ) (p q : Rows) (i j : ℕ)
    → PlacedWhole T
    → a < max_values
    → o < max_values
    → (node_at T a ≡ Array p ⊎ node_at T a ≡ Object p)
    → (node_at T o ≡ Array q ⊎ node_at T o ≡ Object q)
    → (a ≡ o → ⊥)
    → i < p.count
    → j < q.count
    → row_after T p.first i ≡ row_after T q.first j
    → ⊥
parts_apart T a o p q i j whole la lo at_a at-o x l m e =
    let f : row_after T p.first i ≡ row_after T (a + 1) i = ap (λ (k : ℕ). row_after T k i) (parts_first T a p at_a) in
    let g : row_after T q.first j ≡ row_after T (o + 1) j = ap (λ (k : ℕ). row_after T k j) (parts_first T o q at-o) in
    containers_apart whole (container whole a p la at_a) (container whole o q lo at-o) x i j l m (sym f ∙ e ∙ g)
