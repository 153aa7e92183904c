-- A read table whose value is indexed has all its objects indexed, and its items once they are entered.
use mathlib.Core.Path.{◌≡◌, refl, sym, ap, ◌∙◌, subst⁻¹}
use mathlib.Core.List.{List, ◌∷◌, ◌++◌}
use Prim.Native.Nat.{ℕ, ◌+◌, ◌*◌, ◌/◌, ◌≤◌, ◌<◌}
use native.Mathlib.Omega.{arith}
use borrow.Author.Tests.{lt-ltb}
use lib.ListN.{length, length-append}
use Rattle.area.specs.Words.{word_at}
use Rattle.model.specs.Bytes.{Bytes}
use Rattle.model.specs.Limits.{max_values}
use Rattle.model.specs.Size.{value_count}
use Rattle.model.specs.Value.{Value, object, Members, no_members, member, member_count}
use Rattle.name_index.specs.Contract.{Entry, Named, Indexed}
use Rattle.name_index.specs.Items.{is_array, link_items}
use Rattle.name_index.specs.Laws.Arrays.{table_indexed}
use Rattle.name_index.specs.Table.{entries_at, IndexedObject, IndexedTable, IndexedWhole}
use Rattle.syntax.specs.Layout.{row_bytes, entry_bytes, table_bytes, rows_of, member_rows, strings_of, member_strings}
use Rattle.syntax.specs.Layout as layout
use Rattle.syntax.proofs.Laws.Stands.{front, back}
use Rattle.table.specs.declared.node.Node.TheVariants.{Array, Object}
use Rattle.table.specs.declared.node.Rows.{Rows}
use Rattle.table.specs.declared.row.Span.{Span}
use Rattle.table.specs.Node.{node_at, name_at}
use Rattle.table.specs.Row.{span, row_at}
use Rattle.table.specs.Strings.{bytes_of}
use Rattle.table.specs.WasRead.{WasRead}
use Rattle.table.specs.Laws.Inside.{Inherited, inherits}
use Rattle.table.specs.Laws.Placed.{was_read_placed, was_read_whole, object_inside}
use Rattle.table.specs.Laws.ReadForm.{value_read}
use Rattle.table.specs.Laws.Standing.{StandingMembers, object_members, member_first, member_rest, row_inside, next, first_name, root_stands, root_end}
use Rattle.table.specs.Laws.WasRead.{SameRows, behind_null}
use Rattle.json_reader.specs.Index.{entries_of, IndexedValue, IndexedItems, IndexedMembers}
use Rattle.json_reader.proofs.Index.{entries_between}

-- ---- the members that stand in a table
-- Where a row says that its name lies.
record Label (T : Bytes) (i : ℕ) : Type 0 where
  start : (name_at T i).start ≡ word_at T (i * 16 + 4)
  size : (name_at T i).size ≡ word_at T (i * 16) / 256

label : (T : Bytes) (i : ℕ) → i < max_values → table_bytes ≤ length T → Label T i
unfolding row_at row_bytes entry_bytes
label T i l h = let b = lt-ltb i (length T / 16) (omega arith) in record { start = rw (name_at, b); size = rw (name_at, b) }

module _ {T B : Bytes} where
  -- Where the name of the first lies.
  first_label : {n : Bytes} {v : Value} {ms : Members} {i : ℕ} (s : StandingMembers T B (member n v ms) i) → name_at T i ≡ span s.used (length n)
  unfolding rows_of strings_of
  first_label {n} {v} {ms} {i} s =
      let m = member_first s in
      let used : ℕ = s.used + length n in
      let name : layout.Label = record { start = s.used; size = length n } in
      let k = length-append n (strings_of v ++ member_strings ms) in
      let l = length-append (strings_of v) (member_strings ms) in
      (value_read T B v i used name m.bounds m.free m.few (omega (arith, s.short)) (record { start_short = omega (arith, s.short); size_short = omega (arith, s.short) })
      (front (rows_of v i used name) (member_rows ms (i + value_count v) (used + length (strings_of v))) s.table)
      (front (strings_of v) (member_strings ms) (back n (strings_of v ++ member_strings ms) s.strings))).label

  first_inside : {n : Bytes} {v : Value} {ms : Members} {i : ℕ} (s : StandingMembers T B (member n v ms) i) → s.used + length n ≤ length B
  unfolding strings_of
  first_inside {n} {v} {ms} s = omega (arith, s.strings.inside, length-append n (strings_of v ++ member_strings ms))

  entries_are : (ms : Members) (i : ℕ) → StandingMembers T B ms i → entries_at T B i (member_count ms) ≡ entries_of i ms
  unfolding entries_of
  entries_are no_members i s = refl
  entries_are (member n v ms) i s =
      let e = entries_are ms (i + value_count v) (member_rest s) in
      (λ k. record { row = i; name = sym (first_name s) k } ∷ entries_at T B (next (member_first s) k) (member_count ms))
      ∙ ap (λ (es : List Entry). record { row = i; name = n } ∷ es) e

  entries_named : (ms : Members) (i : ℕ) → table_bytes ≤ length T → StandingMembers T B ms i → Named T B (entries_of i ms)
  unfolding entries_of Named
  entries_named no_members i h s = Prim.tt
  entries_named (member n v ms) i h s =
      let o = label T i (row_inside (member_first s)) h in
      let e = first_label s in
      let p : s.used ≡ word_at T (i * 16 + 4) = sym (ap (λ (x : Span). x.start) e) ∙ o.start in
      let q : length n ≡ word_at T (i * 16) / 256 = sym (ap (λ (x : Span). x.size) e) ∙ o.size in (
        first_name s ∙ (λ k. bytes_of B (span (o.start k) (o.size k))),
        omega (arith, first_inside s),
        entries_named ms (i + value_count v) h (member_rest s),
      )

-- ---- every object
inherited : (T : Bytes) → Inherited (IndexedValue T) (IndexedItems T) (IndexedMembers T)
unfolding IndexedValue
inherited T = record {
  items = λ i vs h. h;
  first_item = λ i v vs h. h.0;
  other_items = λ i v vs h. h.1;
  members = λ i ms h. h.0;
  first_member = λ i n v ms h. h.0;
  other_members = λ i n v ms h. h.1;
}

module _ {T B : Bytes} {v : Value} (w : WasRead T B v) (h : IndexedValue T 0 v) where
  object_indexed : (row : ℕ) (q : Rows) → row < max_values → node_at T row ≡ Object q → IndexedObject T B q
  unfolding IndexedValue
  object_indexed row q l e =
      let x = object_inside w row q l e in
      let ms = x.members in
      let s = object_members x.standing in
      let g : IndexedValue T row (object ms) = inherits (inherited T) x.part h in
      let same : entries_at T B q.first q.count ≡ entries_of (row + 1) ms = (λ k. entries_at T B (x.first k) (x.count k)) ∙ entries_are ms (row + 1) s in
      record {
        indexed = subst⁻¹ (λ (k : ℕ). Indexed T k (entries_at T B q.first q.count)) x.first (subst⁻¹ (Indexed T (row + 1)) same g.1);
        named = subst⁻¹ (Named T B) same (entries_named ms (row + 1) w.size s);
        between = rw same (entries_between ms q.first (row + 1) max_values (omega (arith, x.first)) s.few);
      }

  pub names_indexed : IndexedTable T B
  names_indexed = record { size = w.size; placed = was_read_placed w; objects = object_indexed }

-- ---- every array
module _ {T B : Bytes} {v : Value} (w : WasRead T B v) where
  -- Behind the last row there is no array.
  no_array : (row : ℕ) (q : Rows) → value_count v ≤ row → row < max_values → node_at T row ≡ Array q → ⊥
  no_array row q l k e = let p = ap is_array (sym (behind_null w row l k) ∙ e) in omega arith

  pub items_indexed : IndexedTable T B → SameRows (link_items T (value_count v)) T × IndexedWhole (link_items T (value_count v)) B
  items_indexed h = table_indexed T B (value_count v) (was_read_whole w) h (omega (arith, (root_stands w).few)) (root_end w) no_array
