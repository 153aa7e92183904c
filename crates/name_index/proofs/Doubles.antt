-- Laws of the steps of the index of items, over plain values.
use mathlib.Core.Path.{◌≡◌, refl, sym, ap, ap₂, ◌∙◌}
use mathlib.Core.Bool.{Bool, true, false, ◌&&◌, not, cond}
use Prim.Native.Nat.{ℕ, zero, suc, ◌+◌, ◌*◌, ◌-◌, ◌/◌, ◌%◌, ◌<◌, ◌≤◌}
use native.Mathlib.Omega.{arith}
use borrow.Author.Tests.{lt-ltb, le-ltb, le-leb, lt-leb, eq-eqb, ne_eqb, ltb-true, leb-true, eqb-true, eqb-false}
use lib.Dec.{eqb, leb, ltb}
use lib.ListN.{length}
use lib.Seq.{sets}
use Rattle.area.specs.Words.{word, word_at}
use Rattle.model.specs.Bytes.{Bytes}
use Rattle.model.proofs.Laws.Logic.{both}
use Rattle.model.specs.Limits.{max_values}
use Rattle.syntax.specs.Layout.{row_bytes, entry_bytes, table_bytes}
use Rattle.table.specs.declared.node.Node.{Node}
use Rattle.table.specs.declared.node.Node.TheVariants.{Null, False, True, Integer, String, Array, Object}
use Rattle.table.specs.declared.node.Rows.{Rows}
use Rattle.table.specs.declared.row.Row.{Row}
use Rattle.table.specs.Node.{rows, node_of, node_at, next_row}
use Rattle.table.specs.Row.{numbers_at, row_at}
use Rattle.name_index.specs.Items.{has_entry, double_at, put_double, link_from, is_array, few_items, has_index, link_node, link_rows, link_items, power, item_from, digits_of_rows, item_row}
use Rattle.name_index.specs.Laws.Items.{power_positive}
use Rattle.name_index.specs.Slots.{place}

-- ---- has_entry

-- A table that has an entry is long enough for it.
pub record Entered (T : Bytes) (row : ℕ) : Type 0 where
  pub long : table_bytes ≤ length T
  pub low : 0 < row
  pub high : row ≤ max_values

pub entered : (T : Bytes) (row : ℕ) → has_entry T row ≡ true → Entered T row
entered T row e =
    let p = both (leb table_bytes (length T)) (ltb 0 row && leb row max_values) e in
    let q = both (ltb 0 row) (leb row max_values) p.1 in
    record { long = leb-true _ _ p.0; low = ltb-true _ _ q.0; high = leb-true _ _ q.1 }

-- The entry lies in the table.
pub inside : (T : Bytes) (row at : ℕ) → Entered T row → at ≡ place (row - 1) → at + 4 ≤ length T
unfolding place row_bytes entry_bytes
inside T row at h e = omega (arith, h.long, h.low, h.high, e)

-- ---- double_at and put_double

pub double_none : (T : Bytes) (row : ℕ) → has_entry T row ≡ false → 0 ≡ double_at T row
unfolding double_at
double_none T row e = rw (e)

pub double_is : (T : Bytes) (row at r : ℕ) → has_entry T row ≡ true → at ≡ place (row - 1) → r ≡ word_at T at → r ≡ double_at T row
unfolding double_at
double_is T row at r e p w = rw (e) (w ∙ ap (word_at T) p)

pub put_none : (T : Bytes) (row far : ℕ) → has_entry T row ≡ false → T ≡ put_double T row far
unfolding put_double
put_none T row far e = rw (e)

pub put_is : (T T' : Bytes) (row far at : ℕ) → has_entry T row ≡ true → at ≡ place (row - 1) → T' ≡ sets T at (word far) → T' ≡ put_double T row far
unfolding put_double
put_is T T' row far at e p w = rw (e) (w ∙ ap (λ (x : ℕ). sets T x (word far)) p)

-- ---- link

pub link_none : (T : Bytes) (row far left : ℕ) → left ≡ 0 → link_from T row far left ≡ T
unfolding link_from
link_none T row far left e = rw (e)

pub link_step :
    (T : Bytes) (row far left : ℕ) → 1 ≤ left
    → link_from T row far left
    ≡ link_from (put_double T row far) (next_row (put_double T row far) row) (next_row (put_double T row far) (next_row (put_double T row far) far)) (left - 2)
unfolding link_from
link_step T row far zero h = absurd (omega arith)
link_step T row far (suc zero) h =
    let e : 0 ≡ suc zero - 2 = omega arith in
    let T' = put_double T row far in
    ap (link_from T' (next_row T' row) (next_row T' (next_row T' far))) e
link_step T row far (suc (suc n)) h =
    let e : n ≡ suc (suc n) - 2 = omega arith in
    let T' = put_double T row far in
    ap (link_from T' (next_row T' row) (next_row T' (next_row T' far))) e

pub link_again :
    (T T' : Bytes) (row far left row' odd far' : ℕ) → T' ≡ put_double T row far → 1 ≤ left → row' ≡ next_row T' row → odd ≡ next_row T' far → far' ≡ next_row T' odd
    → link_from T' row' far' (left - 2) ≡ link_from T row far left
link_again T T' row far left row' odd far' t l r o f = rw (f, o, r, t) (sym (link_step T row far left l))

-- ---- has_index

pub index_few : (T : Bytes) (row : ℕ) (q : Rows) → q.count ≤ few_items → false ≡ has_index T row q
unfolding has_index
index_few T row q h = rw (le-ltb few_items q.count h)

pub index_many : (T : Bytes) (row : ℕ) (q : Rows) → few_items < q.count → not (eqb (next_row T row) (q.first + q.count)) ≡ has_index T row q
unfolding has_index
index_many T row q h = rw (lt-ltb few_items q.count h)

pub index_before : (T : Bytes) (row : ℕ) (q : Rows) (end : ℕ) → few_items < q.count → end ≡ next_row T row → end < q.first → true ≡ has_index T row q
index_before T row q end h e l =
    let n : eqb (next_row T row) (q.first + q.count) ≡ false = ne_eqb (next_row T row) (q.first + q.count) (λ s. omega (arith, s, e)) in
    sym (ap not n) ∙ index_many T row q h

-- Counting from the first, or from row 0.
same_shifted : (a b c : ℕ) → b ≤ a → eqb (a - b) c ≡ eqb a (b + c)
same_shifted a b c l = go (eqb a (b + c)) refl
  where
    go : (t : Bool) → eqb a (b + c) ≡ t → eqb (a - b) c ≡ t
    go true e =
        let s : a ≡ b + c = eqb-true a (b + c) e in
        eq-eqb (a - b) c (omega (arith, s))
    go false e = ne_eqb (a - b) c (λ s. eqb-false a (b + c) e (omega (arith, s)))

pub index_after : (T : Bytes) (row : ℕ) (q : Rows) (end : ℕ) → few_items < q.count → end ≡ next_row T row → q.first ≤ end → not (eqb (end - q.first) q.count) ≡ has_index T row q
index_after T row q end h e l =
    ap not (same_shifted end q.first q.count l ∙ ap (λ (x : ℕ). eqb x (q.first + q.count)) e) ∙ index_many T row q h

-- ---- is_array

either : (b : Bool) (m n : Node) → is_array m ≡ 0 → is_array n ≡ 0 → is_array (cond b m n) ≡ 0
either true m n e f = e
either false m n e f = f

-- Of another kind than an array's a row holds none.
kind_none : (r : Row) (next : ℕ) → eqb r.kind 6 ≡ false → is_array (node_of r next) ≡ 0
kind_none r next e =
    either (eqb r.kind 2) _ _ refl
    (either (eqb r.kind 3) _ _ refl
    (either (eqb r.kind 4) _ _ refl
    (either (eqb r.kind 5) _ _ refl
    (ap (λ (b : Bool). is_array (cond b (Array (rows next r.first)) (cond (eqb r.kind 7) (Object (rows next r.first)) Null))) e
    ∙ either (eqb r.kind 7) _ _ refl refl))))

pub behind_table : (T : Bytes) (row : ℕ) → length T / row_bytes ≤ row → is_array (node_at T row) ≡ 0
unfolding node_at
behind_table T row h = rw (le-ltb _ _ h)

pub other_kind : (T : Bytes) (row w : ℕ) → row < length T / row_bytes → w ≡ word_at T (row * row_bytes) → eqb (w % 256) 6 ≡ false → is_array (node_at T row) ≡ 0
unfolding node_at row_at
other_kind T row w h e k =
    let b = lt-ltb row (length T / row_bytes) h in
    rw (b) (kind_none (numbers_at T row) (row + 1) (ap (λ (x : ℕ). eqb (x % 256) 6) (sym e) ∙ k))

none_linked : (T : Bytes) (row : ℕ) (n : Node) → is_array n ≡ 0 → T ≡ link_node T row n
none_linked T row Null e = refl
none_linked T row False e = refl
none_linked T row True e = refl
none_linked T row (Integer n) e = refl
none_linked T row (String s) e = refl
none_linked T row (Array q) e = absurd (omega (arith, e))
none_linked T row (Object q) e = refl

pub row_left : (T : Bytes) (row : ℕ) → is_array (node_at T row) ≡ 0 → T ≡ link_node T row (node_at T row)
row_left T row e = none_linked T row (node_at T row) e

-- ---- link_row and link_rows

pub no_array : (T : Bytes) (row : ℕ) (n : Node) → ((q : Rows) → n ≡ Array q → ⊥) → n ≡ node_at T row → T ≡ link_node T row (node_at T row)
no_array T row n k e = kept n k ∙ ap (link_node T row) e
  where
    kept : (m : Node) → ((q : Rows) → m ≡ Array q → ⊥) → T ≡ link_node T row m
    kept Null k = refl
    kept False k = refl
    kept True k = refl
    kept (Integer z) k = refl
    kept (String s) k = refl
    kept (Array q) k = absurd (k q refl)
    kept (Object q) k = refl

module _ (T : Bytes) (row : ℕ) (n : Node) (q : Rows) (e : n ≡ node_at T row) (a : n ≡ Array q) where
  pub array_linked : (T' : Bytes) → has_index T row q ≡ true → T' ≡ link_from T q.first q.first q.count → T' ≡ link_node T row (node_at T row)
  array_linked T' h l = rw (← e, a, h) l

  pub array_left : has_index T row q ≡ false → T ≡ link_node T row (node_at T row)
  array_left h = rw (← e, a, h)

rows_step : (T : Bytes) (row left : ℕ) → 0 < left → link_rows T row left ≡ link_rows (link_node T row (node_at T row)) (row + 1) (left - 1)
unfolding link_rows
rows_step T row zero h = absurd (omega arith)
rows_step T row (suc n) h =
    let e : n ≡ suc n - 1 = omega arith in
    ap (link_rows (link_node T row (node_at T row)) (row + 1)) e

pub rows_none : (T : Bytes) (row left : ℕ) → left ≡ 0 → link_rows T row left ≡ T
unfolding link_rows
rows_none T row left e = rw (e)

pub rows_again : (T T' : Bytes) (row rows : ℕ) → row < rows → T' ≡ link_node T row (node_at T row) → link_rows T' (row + 1) (rows - (row + 1)) ≡ link_rows T row (rows - row)
rows_again T T' row rows h t =
    let e : rows - (row + 1) ≡ rows - row - 1 = omega arith in
    let l : 0 < rows - row = omega arith in
    ap₂ (λ (A : Bytes) (x : ℕ). link_rows A (row + 1) x) t e ∙ sym (rows_step T row (rows - row) l)

-- ---- link_items

pub values_few : (T : Bytes) (rows : ℕ) → rows ≤ few_items + 2 → T ≡ link_items T rows
unfolding link_items
values_few T rows h = rw (le-leb rows (few_items + 2) h)

pub values_many : (T T' : Bytes) (rows : ℕ) → few_items + 2 < rows → T' ≡ link_rows T 0 rows → T' ≡ link_items T rows
unfolding link_items
values_many T T' rows h e = rw (lt-leb rows (few_items + 2) h) e

-- ---- item_row

-- What is left to do, with the digit that comes next: half of a power.
pub record Going (T : Bytes) (row rest digit goal : ℕ) : Type 0 where
  pub digits : ℕ
  pub is : digit ≡ power digits / 2
  pub same : item_from T row rest digits ≡ goal

half_power : (k : ℕ) → power (suc k) / 2 ≡ power k
half_power k = omega arith

pub going_first : (T : Bytes) (first at : ℕ) → Going T first at (max_values / 2) (item_row T first at)
unfolding max_values
going_first T first at = record { digits = digits_of_rows; is = refl; same = refl }

item_over : (T : Bytes) (row rest k : ℕ) → rest < power k → item_from T row rest (suc k) ≡ item_from T (double_at T row) rest k
unfolding item_from
item_over T row rest k h = rw (lt-leb (power k) rest h)

item_next : (T : Bytes) (row rest k : ℕ) → power k ≤ rest → item_from T row rest (suc k) ≡ item_from T (next_row T (double_at T row)) (rest - power k) k
unfolding item_from
item_next T row rest k h = rw (le-leb (power k) rest h)

item_none : (T : Bytes) (row rest : ℕ) → item_from T row rest 0 ≡ row
unfolding item_from
item_none T row rest = refl

module _ (T : Bytes) (row rest digit goal : ℕ) where
  pub going_done : Going T row rest digit goal → digit ≡ 0 → row ≡ goal
  going_done g e = go g.digits g.is g.same
    where
      go : (k : ℕ) → digit ≡ power k / 2 → item_from T row rest k ≡ goal → row ≡ goal
      go zero i s = sym (item_none T row rest) ∙ s
      go (suc k) i s = absurd (omega (arith, i, e, half_power k, power_positive k))

  -- The digit is 0: the item twice as far.
  pub going_over : (far : ℕ) → Going T row rest digit goal → 0 < digit → rest < digit → far ≡ double_at T row → Going T far rest (digit / 2) goal
  going_over far g p l f = go g.digits g.is g.same
    where
      go : (k : ℕ) → digit ≡ power k / 2 → item_from T row rest k ≡ goal → Going T far rest (digit / 2) goal
      go zero i s = absurd (omega (arith, i, p))
      go (suc k) i s =
          let d : digit ≡ power k = i ∙ half_power k in
          let m : rest < power k = omega (arith, d, l) in
          record { digits = k; is = ap (λ (x : ℕ). x / 2) d; same = ap (λ (x : ℕ). item_from T x rest k) f ∙ (sym (item_over T row rest k m) ∙ s) }

  -- The digit is 1: the one after that.
  pub going_next :
      (far next : ℕ) → Going T row rest digit goal → 0 < digit → digit ≤ rest → far ≡ double_at T row → next ≡ next_row T far
      → Going T next (rest - digit) (digit / 2) goal
  going_next far next g p l f n = go g.digits g.is g.same
    where
      go : (k : ℕ) → digit ≡ power k / 2 → item_from T row rest k ≡ goal → Going T next (rest - digit) (digit / 2) goal
      go zero i s = absurd (omega (arith, i, p))
      go (suc k) i s =
          let d : digit ≡ power k = i ∙ half_power k in
          let m : power k ≤ rest = omega (arith, d, l) in
          let a : next ≡ next_row T (double_at T row) = n ∙ ap (next_row T) f in
          let b : item_from T next (rest - digit) k ≡ item_from T (next_row T (double_at T row)) (rest - power k) k = ap₂ (λ (x y : ℕ). item_from T x (rest - y) k) a d in
          record { digits = k; is = ap (λ (x : ℕ). x / 2) d; same = b ∙ (sym (item_next T row rest k m) ∙ s) }
