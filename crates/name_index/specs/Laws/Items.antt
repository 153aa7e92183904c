-- Items: an indexed array's item is found by its number, and entering the items of an array leaves it indexed.
use Rattle.std.specs.Prelude.{Bool, true, false, cond, ◌≡◌, refl, leb}
use Rattle.std.proofs.Common.{sym, subst, ◌∙◌, add-zero, mul-add, add-mul, suc-mul, le-mul_of_pos_right, leb-true, leb-false, le-leb, lt-ltb}
use Rattle.std.proofs.Math.Path.{ap}
use Prim.Native.Nat.{ℕ, zero, suc, ◌+◌, ◌*◌, ◌-◌, ◌≤◌, ◌<◌}
use Rattle.std.proofs.Math.Decide.{ℕ_discrete}
use native.Mathlib.Omega.{arith}
use Rattle.std.proofs.Math.ListN.{length}
use Rattle.std.proofs.lemmas.List.Edits.{sets}
use Rattle.std.proofs.Math.Seq.{length-sets}
use Rattle.area.specs.Laws.{length_word, word_read, take_sets_before}
use Rattle.area.specs.Words.{word, word_at}
use Rattle.model.specs.Bytes.{Bytes}
use Rattle.model.proofs.Laws.Widths.{values_below}
use Rattle.model.specs.Limits.{max_values}
use Rattle.syntax.specs.Layout.{row_bytes, entry_bytes, rows_part, table_bytes}
use Rattle.table.specs.declared.node.Rows.{Rows}
use Rattle.table.specs.Laws.After.{row_after_next}
use Rattle.table.specs.Laws.WasRead.{SameRows, next_same}
use Rattle.table.specs.Node.{next_row}
use Rattle.table.specs.Placed.{Placed, row_after}
use Rattle.name_index.specs.Contract.{entry}
use Rattle.name_index.specs.Items.{has_entry, double_at, put_double, link_from, power, item_from, digits_of_rows, item_row, IndexedArray}
use Rattle.name_index.specs.Laws.Slots.{entry_word, entry_other}
use Rattle.name_index.specs.Slots.{place}

-- ---- finding: a number by its digits

pub power_positive : (k : ℕ) → 0 < power k
power_positive zero = omega arith
power_positive (suc k) = omega (arith, power_positive k)

-- A number before some digits counts as much as its double before one digit less.
spread : (i p : ℕ) → (i + i) * p ≡ i * (p + p)
spread i p = add-mul i i p ∙ sym (mul-add i p p)

module _ (i p rest : ℕ) where
  low_digit : (i + i) * p + rest ≡ i * (p + p) + rest
  low_digit = ap (λ (z : ℕ). z + rest) (spread i p)

  high_digit : p ≤ rest → suc (i + i) * p + (rest - p) ≡ i * (p + p) + rest
  high_digit h = omega (arith, suc-mul (i + i) p, spread i p)

  double_inside : (n : ℕ) → 0 < p → i * (p + p) + rest < n → i + i < n
  double_inside n h g = omega (arith, le-mul_of_pos_right (i + i) h, spread i p)

module _ (T : Bytes) (q : Rows) (a : IndexedArray T q) where
  -- So many digits lead from any item to the one that they stand for.
  abbrev Leads : ℕ → Type 0
  Leads digits = (i rest : ℕ) → rest < power digits → i * power digits + rest < q.count
      → item_from T (row_after T q.first i) rest digits ≡ row_after T q.first (i * power digits + rest)

  leads_by :
      (digits i rest : ℕ) → Leads digits → rest < power digits + power digits → i * (power digits + power digits) + rest < q.count
      → (b : Bool) → leb (power digits) rest ≡ b
      → cond b (item_from T (next_row T (row_after T q.first (i + i))) (rest - power digits) digits) (item_from T (row_after T q.first (i + i)) rest digits)
      ≡ row_after T q.first (i * (power digits + power digits) + rest)
  leads_by digits i rest leads h l true e =
      let s = high_digit i (power digits) rest (leb-true (power digits) rest e) in
      ap (λ (r : ℕ). item_from T r (rest - power digits) digits) (sym (row_after_next T q.first (i + i)))
      ∙ leads (suc (i + i)) (rest - power digits) (omega (arith, leb-true (power digits) rest e)) (rw s l) ∙ ap (row_after T q.first) s
  leads_by digits i rest leads h l false e =
      let s = low_digit i (power digits) rest in
      leads (i + i) rest (leb-false (power digits) rest e) (rw s l) ∙ ap (row_after T q.first) s

  leads_more : (digits : ℕ) → Leads digits → Leads (suc digits)
  unfolding item_from
  leads_more digits leads i rest h l =
      rw (a.doubles i (double_inside i (power digits) rest q.count (power_positive digits) l))
      (leads_by digits i rest leads h l (leb (power digits) rest) refl)

  leads_all : (digits : ℕ) → Leads digits
  unfolding item_from
  leads_all zero i rest h l = let e : i ≡ i * 1 + rest = omega arith in ap (row_after T q.first) e
  leads_all (suc digits) i rest h l = leads_more digits (leads_all digits) i rest h l

-- The digits are enough for the rows of a table.
rows_digits : max_values ≤ power digits_of_rows
unfolding max_values
rows_digits = omega arith

pub item_found : (T : Bytes) (q : Rows) (at : ℕ) → IndexedArray T q → at < q.count → at < max_values → item_row T q.first at ≡ row_after T q.first at
item_found T q at a h l =
    let e : 0 * power digits_of_rows + at ≡ at = omega arith in
    leads_all T q a digits_of_rows 0 at (omega (arith, rows_digits)) (omega arith) ∙ ap (row_after T q.first) e

-- ---- entering: one item

entry_there : (T : Bytes) (row : ℕ) → table_bytes ≤ length T → 1 ≤ row → row ≤ max_values → has_entry T row ≡ true
entry_there T row size h l = rw (le-leb table_bytes (length T) size, lt-ltb 0 row h, le-leb row max_values l)

-- Where the item twice as far is goes by the row's entry alone.
double_word : (T : Bytes) (row : ℕ) → word_at T (place (row - 1)) ≡ word_at (entry T row) 0
double_word T row = ap (word_at T) (sym (add-zero (place (row - 1)))) ∙ sym (entry_word T (row - 1) 0 (omega arith))

pub double_same : (T T' : Bytes) (row : ℕ) → length T' ≡ length T → entry T' row ≡ entry T row → double_at T' row ≡ double_at T row
unfolding double_at
double_same T T' row size e =
    let w : word_at T' (place (row - 1)) ≡ word_at T (place (row - 1)) = double_word T' row ∙ ap (λ (bs : Bytes). word_at bs 0) e ∙ sym (double_word T row) in
    rw (size, w)

module _ (T : Bytes) (row far : ℕ) (size : table_bytes ≤ length T) (h : 1 ≤ row) (l : row ≤ max_values) where
  put_stores : put_double T row far ≡ sets T (place (row - 1)) (word far)
  unfolding put_double
  put_stores = rw (entry_there T row size h l)

  put_size : length (put_double T row far) ≡ length T
  put_size = ap length put_stores ∙ length-sets T (place (row - 1)) (word far)

  put_rows : rows_part (put_double T row far) ≡ rows_part T
  unfolding rows_part place
  put_rows = ap rows_part put_stores ∙ take_sets_before (max_values * row_bytes) (word far) T (place (row - 1)) (omega arith)

  put_same : SameRows (put_double T row far) T
  put_same = record { rows = put_rows; size = put_size }

  put_others : (r : ℕ) → 1 ≤ r → (r ≡ row → ⊥) → entry (put_double T row far) r ≡ entry T r
  put_others r g ne =
      let e : place (row - 1) ≡ place (row - 1) + 0 = omega arith in
      ap (λ (bs : Bytes). entry bs r) (put_stores ∙ ap (λ (z : ℕ). sets T z (word far)) e)
      ∙ entry_other T (word far) (row - 1) 0 (r - 1) (rw length_word (omega arith)) (λ z. ne (omega arith))

  put_reads : far < 4294967296 → double_at (put_double T row far) row ≡ far
  unfolding double_at place row_bytes entry_bytes
  put_reads f =
      let s : table_bytes ≤ length (put_double T row far) = rw put_size size in
      rw (entry_there (put_double T row far) row s h l, put_stores) (word_read far T (place (row - 1)) f (omega arith))

-- ---- entering: all items of an array

pub record Linked (T : Bytes) (q : Rows) (T' : Bytes) : Type 0 where
  pub size : length T' ≡ length T
  pub rows : rows_part T' ≡ rows_part T
  pub others : (r : ℕ) → 1 ≤ r → ((i : ℕ) → i < q.count → r ≡ row_after T q.first i → ⊥) → entry T' r ≡ entry T r
  pub doubles : (i : ℕ) → i + i < q.count → double_at T' (row_after T q.first i) ≡ row_after T q.first (i + i)

module _ (T : Bytes) (q : Rows) (size : table_bytes ≤ length T) (placed : Placed T) (member : 1 ≤ q.first)
    (inside : (i : ℕ) → i < q.count → row_after T q.first i < max_values) where
  abbrev item : ℕ → ℕ
  item i = row_after T q.first i

  -- The rows of items grow.
  item_next : (i : ℕ) → i < q.count → item i < item (suc i)
  item_next i h = rw (row_after_next T q.first i) (placed.on (item i) (inside i h))

  item_before : (i j : ℕ) → i < j → j < q.count → item i < item j
  item_before i zero h l = absurd (omega arith)
  item_before i (suc j) h l = elim (ℕ_discrete i j) [
    | yes e ↦ subst (λ (z : ℕ). item z < item (suc j)) (sym e) (item_next j (omega arith))
    | no e ↦ omega (arith, item_before i j (omega (arith, e)) (omega arith), item_next j (omega arith))
  ]

  item_member : (i : ℕ) → i < q.count → 1 ≤ item i
  item_member zero h = member
  item_member (suc i) h = omega (arith, item_before 0 (suc i) (omega arith) h)

  -- What entering the items from one on leaves of a table.
  record From (i : ℕ) (D D' : Bytes) : Type 0 where
    same : SameRows D' D
    others : (r : ℕ) → 1 ≤ r → ((j : ℕ) → i ≤ j → j < q.count → r ≡ item j → ⊥) → entry D' r ≡ entry D r
    doubles : (j : ℕ) → i ≤ j → j + j < q.count → double_at D' (item j) ≡ item (j + j)

  module _ (D : Bytes) (s : SameRows D T) (i : ℕ) where
    -- No item is left.
    from_none : q.count ≤ i + i → From i D D
    from_none h = record {
      same = record { rows = refl; size = refl };
      others = λ r g ne. refl;
      doubles = λ j g l. absurd (omega arith);
    }

    module _ (h : i + i < q.count) where
      abbrev put : Bytes
      put = put_double D (item i) (item (i + i))

      room : table_bytes ≤ length D
      room = rw s.size size

      here : item i < max_values
      here = inside i (omega arith)

      some : 1 ≤ item i
      some = item_member i (omega arith)

      put_is_same : SameRows put D
      put_is_same = put_same D (item i) (item (i + i)) room some (omega (arith, here))

      put_as_first : SameRows put T
      put_as_first = record { rows = put_is_same.rows ∙ s.rows; size = put_is_same.size ∙ s.size }

      put_else : (r : ℕ) → 1 ≤ r → (r ≡ item i → ⊥) → entry put r ≡ entry D r
      put_else = put_others D (item i) (item (i + i)) room some (omega (arith, here))

      put_here : double_at put (item i) ≡ item (i + i)
      put_here = put_reads D (item i) (item (i + i)) room some (omega (arith, here)) (omega (arith, inside (i + i) h, values_below))

      -- One item is left.
      from_one : q.count ≡ suc (i + i) → From i D put
      from_one e = record {
        same = put_is_same;
        others = λ r g ne. put_else r g (ne i (omega arith) (omega arith));
        doubles = λ j g l. let c : i ≡ j = omega arith in subst (λ (z : ℕ). double_at put (item z) ≡ item (z + z)) c put_here;
      }

      -- More are left.
      from_more : (D' : Bytes) → From (suc i) put D' → From i D D'
      from_more D' f = record {
        same = record { rows = f.same.rows ∙ put_is_same.rows; size = f.same.size ∙ put_is_same.size };
        others = λ r g ne. f.others r g (λ j k l. ne j (omega arith) l) ∙ put_else r g (ne i (omega arith) (omega arith));
        doubles = λ j g l. elim (ℕ_discrete i j) [
          | yes c ↦ subst (λ (z : ℕ). double_at D' (item z) ≡ item (z + z)) c
              (double_same put D' (item i) f.same.size (f.others (item i) some (λ k g l c. omega (arith, item_before i k g l, c))) ∙ put_here)
          | no c ↦ f.doubles j (omega (arith, c)) l
        ];
      }

      next_item_lem : next_row put (item i) ≡ item (suc i)
      next_item_lem = next_same put_as_first (item i) here ∙ sym (row_after_next T q.first i)

      next_double : suc (i + i) < q.count → next_row put (next_row put (item (i + i))) ≡ item (suc i + suc i)
      next_double g =
          let e : next_row put (item (i + i)) ≡ item (suc (i + i)) = next_same put_as_first (item (i + i)) (inside (i + i) h) ∙ sym (row_after_next T q.first (i + i)) in
          let c : suc (suc (i + i)) ≡ suc i + suc i = omega arith in
          ap (next_row put) e ∙ next_same put_as_first (item (suc (i + i))) (inside (suc (i + i)) g)
          ∙ sym (row_after_next T q.first (suc (i + i))) ∙ ap item c

  linked_from : (left i : ℕ) (D : Bytes) → SameRows D T → left + (i + i) ≡ q.count → From i D (link_from D (item i) (item (i + i)) left)
  unfolding link_from
  linked_from zero i D s e = from_none D s i (omega arith)
  linked_from (suc zero) i D s e = from_one D s i (omega arith) (omega arith)
  linked_from (suc (suc left)) i D s e =
      let h : i + i < q.count = omega arith in
      from_more D s i h _
      (rw (next_item_lem D s i h, next_double D s i h (omega arith)) (linked_from left (suc i) (put D s i h) (put_as_first D s i h) (omega arith)))

  pub linked : Linked T q (link_from T q.first q.first q.count)
  linked =
      let f = linked_from q.count 0 T (record { rows = refl; size = refl }) (omega arith) in
      record {
        size = f.same.size;
        rows = f.same.rows;
        others = λ r g ne. f.others r g (λ j k l. ne j l);
        doubles = λ i l. f.doubles i (omega arith) l;
      }
