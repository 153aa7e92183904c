-- Arrays: entering the items of the arrays of a table, row after row, indexes them all and leaves the names indexed.
use Rattle.std.specs.Prelude.{◌≡◌, Bool, cond, length}
use Rattle.std.proofs.Math.Path.{refl, ap, subst}
use Rattle.std.proofs.Common.{sym, ◌∙◌, inl, inr, leb-true, ltb-true}
use Rattle.std.proofs.Math.Bool.{true, false}
use Rattle.std.proofs.lemmas.Bool.{false≢true, eqb-false, not-true}
use mathlib.Core.List.{List, [], ◌∷◌}
use Prim.Native.Nat.{ℕ, zero, suc, ◌+◌, ◌*◌, ◌≤◌, ◌<◌}
use native.Mathlib.Omega.{arith}
use Rattle.std.proofs.Math.Dec.{leb}
use Rattle.area.specs.Words.{word_at}
use Rattle.model.specs.Bytes.{Bytes}
use Rattle.model.proofs.Laws.Logic.{both}
use Rattle.model.specs.Limits.{max_values}
use Rattle.syntax.specs.Layout.{row_bytes, table_bytes}
use Rattle.table.specs.declared.node.Node.{Node}
use Rattle.table.specs.declared.node.Node.TheVariants.{Null, False, True, Integer, String, Array, Object}
use Rattle.table.specs.declared.node.Rows.{Rows}
use Rattle.table.specs.Main.{parts_apart}
use Rattle.table.specs.Node.{node_at, next_row, name_at}
use Rattle.table.specs.Placed.{row_after, PlacedWhole}
use Rattle.table.specs.Strings.{bytes_of}
use Rattle.table.specs.Laws.After.{rows_grow, after_same, placed_same}
use Rattle.table.specs.Laws.Inside.{by_order}
use Rattle.table.specs.Laws.Placed.{array_first, object_first}
use Rattle.table.specs.Laws.WasRead.{SameRows, word_same, node_same, next_same, name_same}
use Rattle.name_index.specs.Contract.{entry, Entry, Named, Between, HasRow, Indexed}
use Rattle.name_index.specs.Items.{double_at, is_array, few_items, has_index, link_from, link_node, link_rows, link_items, ItemsLinked}
use Rattle.name_index.specs.Table.{entries_at, IndexedObject, IndexedTable, IndexedWhole}
use Rattle.name_index.specs.Laws.Entries.{has_between, indexed_members_frame}
use Rattle.name_index.specs.Laws.Items.{double_same, Linked, linked}

-- The rows of an array's items; for any other node those given.
abbrev items_or : Rows → Node → Rows
items_or d Null = d
items_or d False = d
items_or d True = d
items_or d (Integer n) = d
items_or d (String s) = d
items_or d (Array q) = q
items_or d (Object q) = d

-- ---- tables of the same rows
module _ {D T : Bytes} (same : SameRows D T) where
  has_index_same : (row : ℕ) (q : Rows) → row < max_values → has_index D row q ≡ has_index T row q
  unfolding has_index
  has_index_same row q l = rw (next_same same row l)

-- ---- the names
-- Members and their names go by the rows.
module _ {D T : Bytes} (same : SameRows D T) (B : Bytes) where
  entries_same : (n row first : ℕ) → Between first max_values (entries_at T B row n) → entries_at D B row n ≡ entries_at T B row n
  unfolding Between
  entries_same zero row first b = refl
  entries_same (suc n) row first b =
      let e = entries_same n (next_row T row) first b.2 in
      (λ k. record { row = row; name = bytes_of B (name_same same row b.1 k) } ∷ entries_at D B (next_same same row b.1 k) n)
      ∙ ap (λ (es : List Entry). record { row = row; name = bytes_of B (name_at T row) } ∷ es) e

  named_same : (es : List Entry) (first : ℕ) → Between first max_values es → Named T B es → Named D B es
  unfolding Between Named row_bytes
  named_same [] first b h = h
  named_same (e ∷ es) first b h =
      let z : e.row * 16 + 0 ≡ e.row * 16 = omega arith in
      let w : word_at D (e.row * 16) ≡ word_at T (e.row * 16) = rw z at (word_same same e.row b.1 0 (omega arith)) in
      let v = word_same same e.row b.1 4 (omega arith) in
      (rw (w, v) h.0, rw (w, v) h.1, named_same es first b.2 h.2)

-- The row of a member is one of those after the first.
record Member (T : Bytes) (row n r : ℕ) : Type 0 where
  at : ℕ
  below : at < n
  is : r ≡ row_after T row at

member_row : (T B : Bytes) (n row r : ℕ) → HasRow (entries_at T B row n) r → Member T row n r
member_row T B zero row r h = absurd h
member_row T B (suc n) row r (inl e) = record { at = 0; below = omega arith; is = e }
member_row T B (suc n) row r (inr h) = let m = member_row T B n (next_row T row) r h in record { at = suc m.at; below = omega (arith, m.below); is = m.is }

module _ (T B D : Bytes) (whole : PlacedWhole T) (m : IndexedTable T B) (l : ItemsLinked T D) where
  same_rows : SameRows D T
  same_rows = record { rows = l.rows; size = l.size }

  -- No member's row holds an item of an array, so the entries of members stay.
  object_kept : (row : ℕ) (q : Rows) → row < max_values → node_at T row ≡ Object q → IndexedObject D B q
  object_kept row q k e =
      let o = m.objects row q k e in
      let es = entries_at T B q.first q.count in
      let f = object_first T row q e in
      let kept : (r : ℕ) → HasRow es r → entry D r ≡ entry T r =
      λ r h.
      let x = member_row T B q.count q.first r h in
      l.others r (omega (arith, (has_between q.first max_values es o.between r h).0, f))
      (λ a p i b g c s.
      parts_apart T a row p q i x.at whole b k (inl g) (inr e)
      (λ t. omega (arith, sym (ap is_array g) ∙ ap (λ (y : ℕ). is_array (node_at T y)) t ∙ ap is_array e)) c x.below (sym s ∙ x.is)) in
      let same = sym (entries_same same_rows B q.count q.first q.first o.between) in
      record {
        indexed = subst (Indexed D q.first) same (indexed_members_frame max_values (omega arith) o.indexed o.between kept);
        named = subst (Named D B) same (named_same same_rows B es q.first o.between o.named);
        between = subst (Between q.first max_values) same o.between;
      }

  kept_table : IndexedWhole D B
  kept_table =
      let size : table_bytes ≤ length D = rw l.size m.size in
      let placed = (placed_same same_rows whole).placed in
      record {
        names = record { size = size; placed = placed; objects = λ row q k e. object_kept row q k (sym (node_same same_rows row k) ∙ e) };
        items = record {
          size = size;
          placed = placed;
          arrays = λ row q k e h. l.arrays row q k (sym (node_same same_rows row k) ∙ e) (sym (has_index_same same_rows row q k) ∙ h);
        };
      }

-- ---- the arrays, row after row
module _ (T : Bytes) (whole : PlacedWhole T) (size : table_bytes ≤ length T) where
  -- A row that holds no item of an array.
  abbrev NoItem : ℕ → Type 0
  NoItem r = (row : ℕ) (q : Rows) (i : ℕ) → row < max_values → node_at T row ≡ Array q → i < q.count → r ≡ row_after T q.first i → ⊥

  -- What the doubles of an array's items in another table of the same rows say.
  abbrev Doubles : Bytes → Rows → Type 0
  Doubles D q = (i : ℕ) → i + i < q.count → double_at D (row_after T q.first i) ≡ row_after T q.first (i + i)

  -- The table after the arrays in the rows before one.
  record Until (row : ℕ) (D : Bytes) : Type 0 where
    same : SameRows D T
    others : (r : ℕ) → 1 ≤ r → NoItem r → entry D r ≡ entry T r
    arrays : (a : ℕ) (q : Rows) → a < row → a < max_values → node_at T a ≡ Array q → has_index T a q ≡ true → Doubles D q

  start : Until 0 T
  start = record {
    same = record { rows = refl; size = refl };
    others = λ r l h. refl;
    arrays = λ a q l k e h. absurd (omega arith);
  }

  -- A row with no array, or one that has no index.
  pass : {row : ℕ} {D : Bytes} → Until row D → ((q : Rows) → node_at T row ≡ Array q → has_index T row q ≡ true → ⊥) → Until (row + 1) D
  pass {row} {D} u none = record {
    same = u.same;
    others = u.others;
    arrays = λ a q l k e h.
        by_order a row
        (λ b. u.arrays a q b k e h)
        (λ b. let g : a ≡ row = omega arith in absurd (none q (ap (node_at T) (sym g) ∙ e) (ap (λ (x : ℕ). has_index T x q) (sym g) ∙ h)));
  }

  -- An array that has one.
  module _ {row : ℕ} {D : Bytes} {q : Rows} (u : Until row D) (in_table : row < max_values) (here : node_at T row ≡ Array q) where
    abbrev next_table : Bytes
    next_table = link_from D q.first q.first q.count

    after_here : (i : ℕ) → i < q.count → row_after D q.first i ≡ row_after T q.first i
    after_here i l = after_same u.same i q.first (λ j k. whole.placed.inside row q in_table here j (omega arith))

    is_linked : Linked D q next_table
    is_linked =
        linked D q (rw u.same.size size) (placed_same u.same whole).placed (omega (arith, array_first T row q here))
        (λ i l. rw (after_here i l) (whole.placed.inside row q in_table here i l))

    -- The doubles of the items of an array before.
    before : (a : ℕ) (p : Rows) → a < row → a < max_values → node_at T a ≡ Array p → Doubles D p → Doubles next_table p
    before a p l k e d i h =
        let b = whole.placed.inside a p k e in
        let g = rows_grow whole.placed p.first i (λ j m. b j (omega arith)) in
        let same-entry : entry next_table (row_after T p.first i) ≡ entry D (row_after T p.first i) =
        is_linked.others (row_after T p.first i) (omega (arith, g, array_first T a p e))
        (λ j m f. parts_apart T a row p q i j whole k in_table (inl e) (inl here) (λ x. omega arith) (omega arith) m (f ∙ after_here j m)) in
        double_same D next_table (row_after T p.first i) is_linked.size same-entry ∙ d i h

    -- The doubles of its own.
    these : Doubles next_table q
    these i h =
        ap (double_at next_table) (sym (after_here i (omega arith))) ∙ is_linked.doubles i h ∙ after_here (i + i) h

    enter_items : Until (row + 1) next_table
    enter_items = record {
      same = record { rows = is_linked.rows ∙ u.same.rows; size = is_linked.size ∙ u.same.size };
      others = λ r l h. is_linked.others r l (λ i k e. h row q i in_table here k (e ∙ after_here i k)) ∙ u.others r l h;
      arrays = λ a p l k e h.
          by_order a row
          (λ b. before a p b k e (u.arrays a p b k e h))
          (λ b.
          let g : a ≡ row = omega arith in
          let s : q ≡ p = ap (items_or q) (sym here ∙ ap (node_at T) (sym g) ∙ e) in
          subst (Doubles next_table) s these);
    }

    enter_if : (b : Bool) → has_index T row q ≡ b → Until (row + 1) (cond b next_table D)
    enter_if true e = enter_items
    enter_if false e = pass u (λ p f h. let s : q ≡ p = ap (items_or q) (sym here ∙ f) in false≢true (sym e ∙ ap (has_index T row) s ∙ h))

  -- A row with no array.
  skip : {row : ℕ} {D : Bytes} (n : Node) → Until row D → node_at T row ≡ n → is_array n ≡ 0 → Until (row + 1) D
  skip n u e z = pass u (λ q f h. omega (arith, sym (ap is_array f) ∙ ap is_array e ∙ z))

  step : {row : ℕ} {D : Bytes} (n : Node) → Until row D → row < max_values → node_at T row ≡ n → Until (row + 1) (link_node D row n)
  step Null u l e = skip Null u e refl
  step False u l e = skip False u e refl
  step True u l e = skip True u e refl
  step (Integer n) u l e = skip (Integer n) u e refl
  step (String s) u l e = skip (String s) u e refl
  step {row} {D} (Array q) u l e = enter_if u l e (has_index D row q) (sym (has_index_same u.same row q l))
  step (Object q) u l e = skip (Object q) u e refl

  -- So many rows.
  steps : (left row n : ℕ) (D : Bytes) → Until row D → row + left ≡ n → n ≤ max_values → Until n (link_rows D row left)
  unfolding link_rows
  steps zero row n D u e l = let g : row ≡ n = omega arith in subst (λ (x : ℕ). Until x D) g u
  steps (suc left) row n D u e l =
      steps left (row + 1) n (link_node D row (node_at D row)) (step (node_at D row) u (omega arith) (sym (node_same u.same row (omega arith)))) (omega arith) l

  module _ (n : ℕ) (few : n ≤ max_values) (rest : (row : ℕ) (q : Rows) → n ≤ row → row < max_values → node_at T row ≡ Array q → ⊥) where
    all : Until n (link_rows T 0 n)
    all = steps n 0 n T start (omega arith) few

    items_linked_here : ItemsLinked T (link_rows T 0 n)
    items_linked_here = record {
      size = all.same.size;
      rows = all.same.rows;
      others = all.others;
      arrays = λ row q l e h. record {
        doubles = λ i k.
            let b = whole.placed.inside row q l e in
            let f = after_same all.same i q.first (λ j m. b j (omega arith)) in
            let g = after_same all.same (i + i) q.first (λ j m. b j (omega arith)) in
            by_order row n
            (λ m. ap (double_at (link_rows T 0 n)) f ∙ all.arrays row q m l e h i k ∙ sym g)
            (λ m. absurd (rest row q m l e));
      };
    }

-- Every array that has an index is indexed, when so many rows hold all arrays.
pub items_linked :
    (T : Bytes) (n : ℕ) → PlacedWhole T → table_bytes ≤ length T → n ≤ max_values
    → ((row : ℕ) (q : Rows) → n ≤ row → row < max_values → node_at T row ≡ Array q → ⊥)
    → ItemsLinked T (link_rows T 0 n)
items_linked T n whole size few rest = items_linked_here T whole size n few rest

-- ---- a text of few values
-- An array that has an index has more rows than items, and ends where the text ends or before.
few_rows : {T : Bytes} (row : ℕ) (q : Rows) → PlacedWhole T → row < max_values → row < next_row T 0 → next_row T 0 ≤ few_items + 2 → node_at T row ≡ Array q → has_index T row q ≡ true → ⊥
unfolding has_index
few_rows {T} row q whole l m few e h =
    let p = both _ _ h in
    let many = ltb-true few_items q.count p.0 in
    let grows = rows_grow whole.placed q.first q.count (whole.placed.inside row q l e) in
    let end = whole.nested 0 row (omega arith) (omega arith) m in
    eqb-false (next_row T row) (q.first + q.count) (not-true _ p.1) (omega (arith, many, grows, whole.placed.items row q l e, array_first T row q e, end, few))

module _ (T : Bytes) (n : ℕ) (whole : PlacedWhole T) (size : table_bytes ≤ length T) (few : n ≤ max_values) (end : next_row T 0 ≡ n)
    (rest : (row : ℕ) (q : Rows) → n ≤ row → row < max_values → node_at T row ≡ Array q → ⊥) where
  none_linked : n ≤ few_items + 2 → ItemsLinked T T
  none_linked h = record {
    size = refl;
    rows = refl;
    others = λ r l x. refl;
    arrays = λ row q l e i. by_order row n (λ m. absurd (few_rows row q whole l (omega (arith, end)) (omega (arith, end)) e i)) (λ m. absurd (rest row q m l e));
  }

  all_linked : ItemsLinked T (link_items T n)
  unfolding link_items
  all_linked = by (leb n (few_items + 2)) refl where
    by : (b : Bool) → leb n (few_items + 2) ≡ b → ItemsLinked T (cond b T (link_rows T 0 n))
    by true e = none_linked (leb-true _ _ e)
    by false e = items_linked T n whole size few rest

-- Entering the items of a text's arrays keeps the rows, and leaves the names indexed as before.
pub table_indexed :
    (T B : Bytes) (n : ℕ) → PlacedWhole T → IndexedTable T B → n ≤ max_values → next_row T 0 ≡ n
    → ((row : ℕ) (q : Rows) → n ≤ row → row < max_values → node_at T row ≡ Array q → ⊥)
    → SameRows (link_items T n) T × IndexedWhole (link_items T n) B
table_indexed T B n whole m few end rest =
    let l = all_linked T n whole m.size few end rest in
    (record { rows = l.rows; size = l.size }, kept_table T B (link_items T n) whole m l)
