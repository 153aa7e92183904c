-- ReadForm: what reading leaves in its areas denotes the value that was read.
use Rattle.std.specs.Prelude.{◌≡◌, refl, true, false, cond, ◌++◌, ℕ, ◌+◌, ◌*◌, ◌/◌, ◌%◌, ◌≤◌, ◌<◌, ltb, length}
use Rattle.std.proofs.Common.{ap, ◌∙◌, lt-ltb, length-append}
use native.Mathlib.Omega.{arith}
use Rattle.std.proofs.Math.Dec as dec
use Rattle.area.specs.Words.{word, word_at}
use Rattle.model.specs.Bounds.{bounded, bounded_items, bounded_members}
use Rattle.model.specs.Bytes.{Bytes}
use Rattle.model.proofs.Laws.Logic.{and_l, and_r}
use Rattle.model.specs.Limits.{max_text_bytes, max_values}
use Rattle.model.specs.Size.{value_count, items_count, members_count}
use Rattle.model.specs.Value.{Value, scalar, instant, array, object, Scalar, null, boolean, integer, string, Values, no_items, item, Members, no_members, member, member_count, instant_free, instant_free_items, instant_free_members}
use Rattle.syntax.specs.Layout.{row_bytes, Label, unnamed, row, biased, item_count, scalar_row, rows_of, item_rows, member_rows, strings_of, item_strings, member_strings, table_of, strings_area_of}
use Rattle.syntax.proofs.Laws.Layout.{length_row, length_rows, count_positive, kind_below, size_above}
use Rattle.syntax.proofs.Laws.Sound.{sound}
use Rattle.syntax.proofs.Laws.StringsFit.{strings_small}
use Rattle.syntax.proofs.Laws.WellFormed.{read_well_formed}
use Rattle.syntax.proofs.Laws.Widths.{text_small, values_small}
use Rattle.syntax.specs.Read.{done, read}
use Rattle.syntax.specs.WellFormed.{WellFormedValue}
use Rattle.syntax.proofs.Laws.Biased.{biased_small}
use Rattle.syntax.proofs.Laws.Stands.{Stands, front, back, part_stands, word_stands, behind, starts}
use Rattle.table.specs.Node.{node_of, node_at, next_row, name_at}
use Rattle.table.specs.Denotes.{Denotes, denotes_null, denotes_false, denotes_true, denotes_integer, denotes_string, denotes_array, denotes_object, RowItems, no_row_items, row_item, RowMembers, no_row_members, row_member}
use Rattle.table.specs.Row.{span, row_at}
use Rattle.table.specs.declared.row.Row.{Row as TableRow}

-- ---- a row of the table
abbrev numbers : ℕ → Label → ℕ → ℕ → TableRow
numbers kind name x y = record { kind = kind; name = span name.start name.size; first = x; second = y }

record Row (A : Bytes) (i kind : ℕ) (name : Label) (x y : ℕ) : Type 0 where
  node : node_at A i ≡ node_of (numbers kind name x y) (i + 1)
  next : next_row A i ≡ cond (ltb kind 6) (i + 1) y
  label : name_at A i ≡ span name.start name.size

-- A name that lies where a text's can.
pub record Short (name : Label) : Type 0 where
  pub start_short : name.start ≤ max_text_bytes
  pub size_short : name.size ≤ max_text_bytes

pub unnamed_short : Short unnamed
unnamed_short = record { start_short = omega arith; size_short = omega arith }

row_word : (n : ℕ) → n ≤ max_values → n < 4294967296
row_word n h = let l = values_small h in omega arith

row_there : {A : Bytes} (i kind : ℕ) (name : Label) (x y : ℕ) → Stands A (i * row_bytes) (row kind name x y) → i < length A / row_bytes
unfolding row_bytes
row_there i kind name x y s = omega (arith, s.inside, length_row kind name x y)

numbers_stand : {A : Bytes} (i kind : ℕ) (name : Label) (x y : ℕ) → Stands A (i * row_bytes) (row kind name x y) → Short name
    → kind < 256 → x < 4294967296 → y < 4294967296 → row_at A i ≡ numbers kind name x y
unfolding row_bytes row word row_at
numbers_stand {A} i kind name x y s n k p q =
    let first = kind + 256 * name.size in
    let others = word name.start ++ (word x ++ word y) in
    let s₁ = back (word first) others s in
    let s₂ = back (word name.start) (word x ++ word y) s₁ in
    let s₃ = back (word x) (word y) s₂ in
    let size = text_small n.size_short in
    let start = text_small n.start_short in
    let e₂ : i * 16 + 4 + 4 ≡ i * 16 + 8 = omega arith in
    let e₃ : i * 16 + 4 + 4 + 4 ≡ i * 16 + 12 = omega arith in
    let w₀ : word_at A (i * 16) ≡ first = word_stands first (front (word first) others s) (omega arith) in
    let w₁ : word_at A (i * 16 + 4) ≡ name.start = word_stands name.start (front (word name.start) (word x ++ word y) s₁) (omega arith) in
    let w₂ : word_at A (i * 16 + 8) ≡ x = rw e₂ at (word_stands x (front (word x) (word y) s₂) p) in
    let w₃ : word_at A (i * 16 + 12) ≡ y = rw e₃ at (word_stands y s₃ q) in
    let l : ltb i (length A / 16) ≡ true = lt-ltb i (length A / 16) (omega arith) in
    rw (l, w₀, w₁, kind_below kind name.size k, size_above kind name.size k, w₂, w₃)

row_stands : {A : Bytes} {i : ℕ} (kind : ℕ) (name : Label) (x y : ℕ) → Stands A (i * row_bytes) (row kind name x y) → Short name
    → kind < 256 → x < 4294967296 → y < 4294967296 → Row A i kind name x y
unfolding node_at next_row
row_stands {A} {i} kind name x y s n k p q =
    let r = numbers_stand i kind name x y s n k p q in
    let l : ltb i (length A / row_bytes) ≡ true = lt-ltb i (length A / row_bytes) (row_there i kind name x y s) in
    record { node = rw (l, r); next = rw (l, r); label = ap (λ (z : TableRow). z.name) r }

-- The first of some rows is one of the table's.
there : {A : Bytes} (i n : ℕ) (xs ys : Bytes) → Stands A (i * row_bytes) (xs ++ ys) → length xs ≡ n * row_bytes → 0 < n → i < length A / row_bytes
unfolding row_bytes
there i n xs ys s e k = omega (arith, s.inside, length-append xs ys)

-- ---- counts
items_few : (vs : Values) → item_count vs ≤ items_count vs
unfolding item_count items_count
items_few no_items = omega arith
items_few (item v vs) = omega (arith, count_positive v, items_few vs)

members_few : (ms : Members) → member_count ms ≤ members_count ms
unfolding members_count
members_few no_members = omega arith
members_few (member n v ms) = omega (arith, count_positive v, members_few ms)

-- ---- values
module _ (T B : Bytes) where
  -- What stands in a row.
  pub record Stored (v : Value) (i : ℕ) (name : Label) : Type 0 where
    pub denotes : Denotes T B v (node_at T i)
    pub next : next_row T i ≡ i + value_count v
    pub label : name_at T i ≡ span name.start name.size

  scalar_read : (x : Scalar) (i used : ℕ) (name : Label) → dec.T (bounded (scalar x)) → used + length (strings_of (scalar x)) ≤ max_text_bytes → Short name
      → Stands T (i * row_bytes) (scalar_row x used name) → Stands B used (strings_of (scalar x)) → Stored (scalar x) i name
  unfolding bounded value_count strings_of scalar_row
  scalar_read null i used name w f n s b =
      let r = row_stands 1 name 0 0 s n (omega arith) (omega arith) (omega arith) in
      record { denotes = rw r.node denotes_null; next = r.next; label = r.label }
  scalar_read (boolean false) i used name w f n s b =
      let r = row_stands 2 name 0 0 s n (omega arith) (omega arith) (omega arith) in
      record { denotes = rw r.node denotes_false; next = r.next; label = r.label }
  scalar_read (boolean true) i used name w f n s b =
      let r = row_stands 3 name 0 0 s n (omega arith) (omega arith) (omega arith) in
      record { denotes = rw r.node denotes_true; next = r.next; label = r.label }
  scalar_read (integer z) i used name w f n s b =
      let l = biased_small z w in
      let r = row_stands 4 name (biased z % 4294967296) (biased z / 4294967296) s n (omega arith) (omega arith) (omega arith) in
      let e : biased z % 4294967296 + biased z / 4294967296 * 4294967296 ≡ biased z = omega arith in
      record { denotes = rw r.node (denotes_integer w e); next = r.next; label = r.label }
  scalar_read (string t) i used name w f n s b =
      let l = text_small f in
      let r = row_stands 5 name used (length t) s n (omega arith) (omega arith) (omega arith) in
      record {
        denotes = rw r.node (denotes_string (record { is = part_stands t b; inside = b.inside; short = f }));
        next = r.next;
        label = r.label;
      }

  mutual
    unfolding bounded instant_free value_count strings_of rows_of

    pub value_read : (v : Value) (i used : ℕ) (name : Label) → dec.T (bounded v) → dec.T (instant_free v) → i + value_count v ≤ max_values → used + length (strings_of v) ≤ max_text_bytes → Short name
        → Stands T (i * row_bytes) (rows_of v i used name) → Stands B used (strings_of v) → Stored v i name
    value_read (scalar x) i used name w c k f n s b = scalar_read x i used name w f n s b
    value_read (instant t) i used name w c k f n s b = absurd c
    value_read (array vs) i used name w c k f n s b =
        let x = item_count vs in
        let y = i + 1 + items_count vs in
        let rows = item_rows vs (i + 1) used in
        let l = items_few vs in
        let r = row_stands {i = i} 6 name x y (front (row 6 name x y) rows s) n (omega arith) (row_word x (omega arith)) (row_word y (omega arith)) in
        let items = items_read vs (i + 1) used w c (omega arith) f (behind i 1 (row 6 name x y) rows s (omega (arith, length_row 6 name x y))) b in
        record { denotes = rw r.node (denotes_array {vs = vs} refl (omega arith) items); next = r.next ∙ omega arith; label = r.label }
    value_read (object ms) i used name w c k f n s b =
        let x = member_count ms in
        let y = i + 1 + members_count ms in
        let rows = member_rows ms (i + 1) used in
        let l = members_few ms in
        let r = row_stands {i = i} 7 name x y (front (row 7 name x y) rows s) n (omega arith) (row_word x (omega arith)) (row_word y (omega arith)) in
        let members = members_read ms (i + 1) used w c (omega arith) f (behind i 1 (row 7 name x y) rows s (omega (arith, length_row 7 name x y))) b in
        record { denotes = rw r.node (denotes_object {ms = ms} refl (omega arith) members); next = r.next ∙ omega arith; label = r.label }

    pub items_read : (vs : Values) (i used : ℕ) → dec.T (bounded_items vs) → dec.T (instant_free_items vs) → i + items_count vs ≤ max_values → used + length (item_strings vs) ≤ max_text_bytes
        → Stands T (i * row_bytes) (item_rows vs i used) → Stands B used (item_strings vs) → RowItems T B i vs
    items_read no_items i used w c k f s b = no_row_items {row = i} (omega arith)
    items_read (item v vs) i used w c k f s b =
        let rows = rows_of v i used unnamed in
        let others = item_rows vs (i + value_count v) (used + length (strings_of v)) in
        let l = length-append (strings_of v) (item_strings vs) in
        let r = value_read v i used unnamed (and_l (bounded v) _ w) (and_l (instant_free v) _ c) (omega arith) (omega arith) unnamed_short
        (front rows others s) (front (strings_of v) (item_strings vs) b) in
        row_item {row = i} {vs = vs} (omega (arith, count_positive v)) (there i (value_count v) rows others s (length_rows v i used unnamed) (count_positive v)) r.denotes
        (rw r.next
        (items_read vs (i + value_count v) (used + length (strings_of v)) (and_r (bounded v) _ w) (and_r (instant_free v) _ c) (omega arith) (omega arith)
        (behind i (value_count v) rows others s (length_rows v i used unnamed)) (back (strings_of v) (item_strings vs) b)))

    pub members_read : (ms : Members) (i used : ℕ) → dec.T (bounded_members ms) → dec.T (instant_free_members ms) → i + members_count ms ≤ max_values → used + length (member_strings ms) ≤ max_text_bytes
        → Stands T (i * row_bytes) (member_rows ms i used) → Stands B used (member_strings ms) → RowMembers T B i ms
    members_read no_members i used w c k f s b = no_row_members {row = i} (omega arith)
    members_read (member n v ms) i used w c k f s b =
        let name : Label = record { start = used; size = length n } in
        let rows = rows_of v i (used + length n) name in
        let others = member_rows ms (i + value_count v) (used + length n + length (strings_of v)) in
        let l = length-append n (strings_of v ++ member_strings ms) in
        let l' = length-append (strings_of v) (member_strings ms) in
        let b' = back n (strings_of v ++ member_strings ms) b in
        let r = value_read v i (used + length n) name (and_l (bounded v) _ w) (and_l (instant_free v) _ c) (omega arith) (omega arith) (record { start_short = omega arith; size_short = omega arith })
        (front rows others s) (front (strings_of v) (member_strings ms) b') in
        row_member {row = i} {n = n} {ms = ms} (omega (arith, count_positive v)) (there i (value_count v) rows others s (length_rows v i (used + length n) name) (count_positive v)) (rw r.label (part_stands n (front n (strings_of v ++ member_strings ms) b))) r.denotes
        (rw r.next
        (members_read ms (i + value_count v) (used + length n + length (strings_of v)) (and_r (bounded v) _ w) (and_r (instant_free v) _ c) (omega arith) (omega arith)
        (behind i (value_count v) rows others s (length_rows v i (used + length n) name)) (back (strings_of v) (member_strings ms) b')))

-- ---- the areas
read_denotes : (v : Value) (T B : Bytes) (n m : ℕ) → WellFormedValue v → value_count v ≤ max_values → length (strings_of v) ≤ max_text_bytes
    → T ≡ table_of v n → B ≡ strings_area_of v m → Denotes T B v (node_at T 0)
unfolding row_bytes
read_denotes v T B n m w k f t s =
    (value_read T B v 0 0 unnamed w.formed.within_limits_lem w.no_instants (omega arith) (omega arith) unnamed_short
    (starts T (rows_of v 0 0 unnamed) n t) (starts B (strings_of v) m s)).denotes

-- So it is of any text that reads.
pub text_denotes : (s : Bytes) (v : Value) (T B : Bytes) (n m : ℕ) → read s ≡ done v → T ≡ table_of v n → B ≡ strings_area_of v m → Denotes T B v (node_at T 0)
text_denotes s v T B n m e = read_denotes v T B n m (read_well_formed s v e) (sound s v e).0.few (strings_small s v e)
