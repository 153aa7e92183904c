-- ReadForm: what a table that reading left shows is the value that was read; and the viewer shows one value at a place.
use Rattle.std.specs.Prelude.{◌≡◌, Bool, true, false, ◌&&◌, cond, [], ◌++◌, T, ltb, leb, eqb, ℤ, pos, negsuc, take, drop, replicate}
use Rattle.std.proofs.Math.Path.{refl, sym, ap}
use Rattle.std.proofs.Common.{ap₂, subst, ◌∙◌, eqb-true, lt-ltb, le-ltb, le-leb, eq-eqb, leb→le, length-append}
use Rattle.std.specs.Prelude.{Option, None, Some}
use Prim.Native.Nat.{ℕ, suc, ◌+◌, ◌*◌, ◌-◌, ◌/◌, ◌%◌, ◌≤◌, ◌<◌}
use native.Mathlib.Omega.{arith}
use Rattle.std.proofs.Math.ListN.{length}
use Rattle.std.proofs.lemmas.List.{length-replicate}
use Rattle.area.specs.Words.{word, word_at}
use Rattle.model.specs.Bounds.{bounded, bounded_items, bounded_members}
use Rattle.model.specs.Bytes.{Bytes}
use Rattle.model.proofs.Laws.Logic.{and_l, and_r}
use Rattle.model.proofs.Laws.Widths.{text_small, values_small}
use Rattle.model.specs.Limits.{max_integer, max_text_bytes, max_values}
use Rattle.model.specs.Option.{or_else}
use Rattle.model.specs.Size.{value_count, items_count, members_count}
use Rattle.model.specs.Value.{Value, scalar, instant, array, object, Scalar, null, boolean, integer, string, Values, no_items, item, Members, no_members, member, member_count, within_limits, instant_free, instant_free_items, instant_free_members}
use Rattle.syntax.specs.Layout.{row_bytes, entry_bytes, table_bytes, Label, unnamed, row, biased, item_count, scalar_row, rows_of, item_rows, member_rows, strings_of, item_strings, member_strings, padded, table_of, strings_area_of}
use Rattle.syntax.proofs.Laws.Biased.{biased_small, unbiased_biased}
use Rattle.syntax.proofs.Laws.Layout.{length_row, length_rows, count_positive, kind_below, size_above}
use Rattle.syntax.proofs.Laws.Sound.{sound}
use Rattle.syntax.proofs.Laws.Stands.{Stands, front, back, part_stands, word_stands, behind, starts}
use Rattle.syntax.proofs.Laws.StringsFit.{strings_small}
use Rattle.syntax.proofs.Laws.WellFormed.{read_well_formed}
use Rattle.syntax.specs.Read.{done, read}
use Rattle.table.specs.declared.row.Row.{Row}
use Rattle.table.specs.declared.row.Span.{Span}
use Rattle.viewer.specs.Answer.{Seen, name_of, integer_of, string_of}
use Rattle.viewer.specs.Form.{is_integer, is_span, has_content, has_form}
use Rattle.table.specs.Row.{numbers_at}
use Rattle.viewer.specs.Row.{row_count, count_of, end_of}
use Rattle.viewer.specs.Shows.{kind_of, part_count, Tells, TellsScalar, Named, Shows, ShowsText, shows_scalar, shows_array, shows_object, ShowsItems, shows_no_items, shows_item, ShowsMembers, shows_no_members, shows_member}
use Rattle.viewer.specs.View.{row_seen, next_within, nth_within, part_seen}

-- ---- a row of the table
abbrev numbers : ℕ → Label → ℕ → ℕ → Row
numbers kind name x y = record { kind = kind; name = record { start = name.start; size = name.size }; first = x; second = y }

-- The name lies within the strings area.
abbrev Fits : Label → Type 0
Fits name = name.start + name.size ≤ max_text_bytes

row_word : {n : ℕ} → n ≤ max_values → n < 4294967296
row_word h = omega (arith, values_small h)

row_numbers : {A : Bytes} (i kind : ℕ) (name : Label) (x y : ℕ) → Stands A (i * row_bytes) (row kind name x y) → Fits name
    → kind < 256 → x < 4294967296 → y < 4294967296 → numbers_at A i ≡ numbers kind name x y
unfolding row_bytes row word
row_numbers {A} i kind name x y s n k p q =
    let first = kind + 256 * name.size in
    let others = word name.start ++ (word x ++ word y) in
    let s₁ = back (word first) others s in
    let s₂ = back (word name.start) (word x ++ word y) s₁ in
    let s₃ = back (word x) (word y) s₂ in
    let l = text_small n in
    let e₂ : i * 16 + 4 + 4 ≡ i * 16 + 8 = omega arith in
    let e₃ : i * 16 + 4 + 4 + 4 ≡ i * 16 + 12 = omega arith in
    let w₀ : word_at A (i * 16) ≡ first = word_stands first (front (word first) others s) (omega arith) in
    let w₁ : word_at A (i * 16 + 4) ≡ name.start = word_stands name.start (front (word name.start) (word x ++ word y) s₁) (omega arith) in
    let w₂ : word_at A (i * 16 + 8) ≡ x = rw e₂ at (word_stands x (front (word x) (word y) s₂) p) in
    let w₃ : word_at A (i * 16 + 12) ≡ y = rw e₃ at (word_stands y s₃ q) in
    rw (w₀, w₁, w₂, w₃, kind_below kind name.size k, size_above kind name.size k)

-- ---- which is seen
record Full (A : Bytes) : Type 0 where
  enough : max_values ≤ length A / row_bytes

record Is (A : Bytes) (i : ℕ) (r : Row) : Type 0 where
  seen : row_seen A i ≡ Some r

row_count_lem : {A : Bytes} → Full A → row_count A ≡ max_values
row_count_lem {A} f = rw (le-ltb (length A / row_bytes) max_values f.enough)

row_seen_lem : {A : Bytes} (i kind : ℕ) (name : Label) (x y : ℕ) → Full A → Stands A (i * row_bytes) (row kind name x y) → i < max_values → Fits name
    → kind < 256 → x < 4294967296 → y < 4294967296 → has_content max_values i (numbers kind name x y) ≡ true → Is A i (numbers kind name x y)
row_seen_lem i kind name x y full s l n k p q f =
    let is : ℕ → Row → Option Row = λ n r. cond (ltb i n && has_form n i r) (Some r) None in
    record {
      seen = ap₂ is (row_count_lem full) (row_numbers i kind name x y s n k p q) ∙ rw (lt-ltb i max_values l, le-leb (name.start + name.size) max_text_bytes n, f);
    }

module _ {A : Bytes} {i : ℕ} {r : Row} (s : Is A i r) where
  tells : (v : Value) → r.kind ≡ kind_of v → count_of r ≡ part_count v → Tells A i v
  tells v k c = record {
    kind_and_count = rw s.seen (λ j. Some (record { kind = k j; count = c j }));
    no_more = λ n l. rw (s.seen, le-ltb n (count_of r) (omega arith));
  }

  next : (e : ℕ) → end_of i r ≤ e → next_within A e i ≡ Some (end_of i r)
  next e l = rw (s.seen, le-leb (end_of i r) e l)

  nth : (n : ℕ) → n < count_of r → part_seen A i n ≡ nth_within A r.second n (i + 1)
  nth n l = rw (s.seen, lt-ltb n (count_of r) l)

-- ---- what the forms ask
biased_positive : (z : ℤ) → T (within_limits z) → 0 < biased z
unfolding biased max_integer
biased_positive (pos n) h = omega arith
biased_positive (negsuc n) h = omega (arith, leb→le n 9007199254740990 (and_l (leb n 9007199254740990) true h))

biased_integer : (z : ℤ) → T (within_limits z) → is_integer (biased z) ≡ true
unfolding max_integer
biased_integer z h = rw (le-leb 1 (biased z) (biased_positive z h), le-leb (biased z) 18014398509481983 (biased_small z h))

-- How many parts, of so many values.
record Counts (count inside : ℕ) : Type 0 where
  few : count ≤ inside
  empty : count ≡ 0 → inside ≡ 0

item_counts : (vs : Values) → Counts (item_count vs) (items_count vs)
unfolding item_count items_count
item_counts no_items = omega arith
item_counts (item v vs) = omega (arith, count_positive v, (item_counts vs).few)

member_counts : (ms : Members) → Counts (member_count ms) (members_count ms)
unfolding members_count
member_counts no_members = omega arith
member_counts (member n v ms) = omega (arith, count_positive v, (member_counts ms).few)

span_form : (i : ℕ) {count inside : ℕ} → Counts count inside → i + 1 + inside ≤ max_values → is_span max_values i count (i + 1 + inside) ≡ true
span_form i {count} {inside} c l = go (eqb count 0) refl
  where
    first : ltb i (i + 1 + inside) ≡ true
    first = lt-ltb i (i + 1 + inside) (omega arith)

    last : leb (i + 1 + inside) max_values ≡ true
    last = le-leb (i + 1 + inside) max_values l

    go : (b : Bool) → eqb count 0 ≡ b → is_span max_values i count (i + 1 + inside) ≡ true
    go true e = let f = c.empty (eqb-true count 0 e) in rw (first, last, e, eq-eqb (i + 1 + inside) (i + 1) (omega arith))
    go false e = rw (first, last, e, le-leb count (i + 1 + inside - (i + 1)) (omega (arith, c.few)))

-- ---- values
-- What stands in a row.
record Stored (A S : Bytes) (v : Value) (i : ℕ) (name : Label) : Type 0 where
  shows : Shows A S i v
  named : name_of (row_seen A i) ≡ Some (record { start = name.start; size = name.size })
  after : (e : ℕ) → i + value_count v ≤ e → next_within A e i ≡ Some (i + value_count v)

stored : {A S : Bytes} {v : Value} {i kind : ℕ} {name : Label} {x y : ℕ} → Is A i (numbers kind name x y) → end_of i (numbers kind name x y) ≡ i + value_count v → Shows A S i v → Stored A S v i name
stored r f shows = record {
  shows = shows;
  named = rw r.seen;
  after = λ e l. next r e (omega arith) ∙ ap Some f;
}

-- ---- parts
-- The parts of the container at a place, from the nth on, are the values from the row i on.
record Reaches (A : Bytes) (place end count n i : ℕ) : Type 0 where
  reach : (m : ℕ) → n + m < count → part_seen A place (n + m) ≡ nth_within A end m i

all_parts : {A : Bytes} {i : ℕ} {r : Row} → Is A i r → Reaches A i r.second (count_of r) 0 (i + 1)
all_parts r = record {
  reach = λ m l.
      let e : 0 + m ≡ m = omega arith in
      rw e (nth r m (omega arith));
}

module _ {A S : Bytes} {place end count n i : ℕ} {v : Value} {name : Label} (p : Reaches A place end count n i) (s : Stored A S v i name) (l : i + value_count v ≤ end) where
  this_part : n < count → part_seen A place n ≡ Some i
  unfolding nth_within
  this_part b =
      let e : n + 0 ≡ n = omega arith in
      (rw e at (p.reach 0 (omega arith))) ∙ rw (s.after end l)

  other_parts : Reaches A place end count (suc n) (i + value_count v)
  unfolding nth_within
  other_parts = record {
    reach = λ m b.
        let e : suc n + m ≡ n + suc m = omega arith in
        rw e (p.reach (suc m) (omega arith) ∙ rw (s.after end l));
  }

module _ {A S : Bytes} (full : Full A) where
  scalar_read : (x : Scalar) (i used : ℕ) (name : Label) → T (bounded (scalar x)) → i < max_values → used + length (strings_of (scalar x)) ≤ max_text_bytes → Fits name
      → Stands A (i * row_bytes) (scalar_row x used name) → Stands S used (strings_of (scalar x)) → Stored A S (scalar x) i name
  unfolding bounded value_count strings_of scalar_row
  scalar_read null i used name w k f n s b =
      let r = row_seen_lem i 1 name 0 0 full s k n (omega arith) (omega arith) (omega arith) refl in
      stored r refl (shows_scalar (tells r (scalar null) refl refl) tt)
  scalar_read (boolean false) i used name w k f n s b =
      let r = row_seen_lem i 2 name 0 0 full s k n (omega arith) (omega arith) (omega arith) refl in
      stored r refl (shows_scalar (tells r (scalar (boolean false)) refl refl) tt)
  scalar_read (boolean true) i used name w k f n s b =
      let r = row_seen_lem i 3 name 0 0 full s k n (omega arith) (omega arith) (omega arith) refl in
      stored r refl (shows_scalar (tells r (scalar (boolean true)) refl refl) tt)
  scalar_read (integer z) i used name w k f n s b =
      let l = biased_small z w in
      let x = biased z % 4294967296 in
      let y = biased z / 4294967296 in
      let e : x + y * 4294967296 ≡ biased z = omega arith in
      let r = row_seen_lem i 4 name x y full s k n (omega arith) (omega arith) (omega arith) (ap is_integer e ∙ biased_integer z w) in
      stored r refl (shows_scalar (tells r (scalar (integer z)) refl refl) (rw (r.seen, e, unbiased_biased z w)))
  scalar_read (string t) i used name w k f n s b =
      let l = text_small f in
      let r = row_seen_lem i 5 name used (length t) full s k n (omega arith) (omega arith) (omega arith) (rw (le-leb (used + length t) max_text_bytes f)) in
      stored r refl (shows_scalar (tells r (scalar (string t)) refl refl) (record { lies = record { start = used; size = length t }; told = rw r.seen; spells = record { length_is = refl; bytes_are = sym (part_stands t b) } }))

  mutual
    unfolding bounded instant_free value_count item_count strings_of rows_of

    value_read : (v : Value) (i used : ℕ) (name : Label) → T (bounded v) → T (instant_free v) → i + value_count v ≤ max_values → used + length (strings_of v) ≤ max_text_bytes → Fits name
        → Stands A (i * row_bytes) (rows_of v i used name) → Stands S used (strings_of v) → Stored A S v i name
    value_read (scalar x) i used name w c k f n s b = scalar_read x i used name w (omega arith) f n s b
    value_read (instant t) i used name w c k f n s b = absurd c
    value_read (array vs) i used name w c k f n s b =
        let x = item_count vs in
        let y = i + 1 + items_count vs in
        let rest = item_rows vs (i + 1) used in
        let counts = item_counts vs in
        let r = row_seen_lem i 6 name x y full (front (row 6 name x y) rest s) (omega arith) n (omega arith) (row_word (omega arith)) (row_word (omega arith)) (span_form i counts (omega arith)) in
        let items = items_read vs i y x 0 (i + 1) used (all_parts r) (omega arith) (omega arith) w c (omega arith) f (behind i 1 (row 6 name x y) rest s (omega (arith, length_row 6 name x y))) b in
        stored r (omega arith) (shows_array (tells r (array vs) refl refl) items)
    value_read (object ms) i used name w c k f n s b =
        let x = member_count ms in
        let y = i + 1 + members_count ms in
        let rest = member_rows ms (i + 1) used in
        let counts = member_counts ms in
        let r = row_seen_lem i 7 name x y full (front (row 7 name x y) rest s) (omega arith) n (omega arith) (row_word (omega arith)) (row_word (omega arith)) (span_form i counts (omega arith)) in
        let members = members_read ms i y x 0 (i + 1) used (all_parts r) (omega arith) (omega arith) w c (omega arith) f (behind i 1 (row 7 name x y) rest s (omega (arith, length_row 7 name x y))) b in
        stored r (omega arith) (shows_object (tells r (object ms) refl refl) members)

    items_read : (vs : Values) (place end count n i used : ℕ) → Reaches A place end count n i → n + item_count vs ≤ count → i + items_count vs ≤ end
        → T (bounded_items vs) → T (instant_free_items vs) → end ≤ max_values → used + length (item_strings vs) ≤ max_text_bytes
        → Stands A (i * row_bytes) (item_rows vs i used) → Stands S used (item_strings vs) → ShowsItems A S place n i vs
    items_read no_items place end count n i used p x y w c k f s b = shows_no_items
    items_read (item v vs) place end count n i used p x y w c k f s b =
        let first = rows_of v i used unnamed in
        let rest = item_rows vs (i + value_count v) (used + length (strings_of v)) in
        let l = length-append (strings_of v) (item_strings vs) in
        let r = value_read v i used unnamed (and_l (bounded v) _ w) (and_l (instant_free v) _ c) (omega arith) (omega arith) (omega arith) (front first rest s) (front (strings_of v) (item_strings vs) b) in
        shows_item (this_part p r (omega arith) (omega arith)) (record { told = r.named }) r.shows
        (items_read vs place end count (suc n) (i + value_count v) (used + length (strings_of v)) (other_parts p r (omega arith)) (omega arith) (omega arith)
        (and_r (bounded v) _ w) (and_r (instant_free v) _ c) k (omega arith)
        (behind i (value_count v) first rest s (length_rows v i used unnamed)) (back (strings_of v) (item_strings vs) b))

    members_read : (ms : Members) (place end count n i used : ℕ) → Reaches A place end count n i → n + member_count ms ≤ count → i + members_count ms ≤ end
        → T (bounded_members ms) → T (instant_free_members ms) → end ≤ max_values → used + length (member_strings ms) ≤ max_text_bytes
        → Stands A (i * row_bytes) (member_rows ms i used) → Stands S used (member_strings ms) → ShowsMembers A S place n i ms
    members_read no_members place end count n i used p x y w c k f s b = shows_no_members
    members_read (member t v ms) place end count n i used p x y w c k f s b =
        let name : Label = record { start = used; size = length t } in
        let first = rows_of v i (used + length t) name in
        let rest = member_rows ms (i + value_count v) (used + length t + length (strings_of v)) in
        let l = length-append t (strings_of v ++ member_strings ms) in
        let l' = length-append (strings_of v) (member_strings ms) in
        let b' = back t (strings_of v ++ member_strings ms) b in
        let r = value_read v i (used + length t) name (and_l (bounded v) _ w) (and_l (instant_free v) _ c) (omega arith) (omega arith) (omega arith) (front first rest s) (front (strings_of v) (member_strings ms) b') in
        shows_member (this_part p r (omega arith) (omega arith))
        (record { lies = record { start = used; size = length t }; told = r.named; spells = record { length_is = refl; bytes_are = sym (part_stands t (front t (strings_of v ++ member_strings ms) b)) } }) r.shows
        (members_read ms place end count (suc n) (i + value_count v) (used + length t + length (strings_of v)) (other_parts p r (omega arith)) (omega arith) (omega arith)
        (and_r (bounded v) _ w) (and_r (instant_free v) _ c) k (omega arith)
        (behind i (value_count v) first rest s (length_rows v i (used + length t) name)) (back (strings_of v) (member_strings ms) b'))

-- ---- the areas
-- The table is long enough for all rows that a text may need.
full_table : (A : Bytes) (v : Value) (n : ℕ) → table_bytes ≤ n → A ≡ table_of v n → Full A
unfolding row_bytes entry_bytes padded
full_table A v n l e =
    let bytes = rows_of v 0 0 unnamed in
    let zeros : Bytes = replicate (n - length bytes) 0 in
    record { enough = omega (arith, ap length e, length-append bytes zeros, length-replicate {A = ℕ} (n - length bytes) 0) }

pub text_shown : (s : Bytes) (v : Value) (T S : Bytes) (n m : ℕ) → read s ≡ done v → table_bytes ≤ n → T ≡ table_of v n → S ≡ strings_area_of v m → ShowsText T S v
unfolding row_bytes
text_shown s v T S n m e l t b =
    let w = read_well_formed s v e in
    let k = (sound s v e).0.few in
    let f = strings_small s v e in
    let r = value_read (full_table T v n l t) v 0 0 unnamed w.formed.within_limits_lem w.no_instants (omega arith) (omega arith) (omega arith)
    (starts T (rows_of v 0 0 unnamed) n t) (starts S (strings_of v) m b) in
    record { shows = r.shows; no_member = record { told = r.named } }

-- ---- one value at a place
kind_in : Option Seen → ℕ
kind_in None = 0
kind_in (Some s) = s.kind

count_in : Option Seen → ℕ
count_in None = 0
count_in (Some s) = s.count

module _ {T : Bytes} {place : ℕ} {v w : Value} (s : Tells T place v) (t : Tells T place w) where
  same_kind : kind_of v ≡ kind_of w
  unfolding kind_in
  same_kind = ap kind_in (sym s.kind_and_count ∙ t.kind_and_count)

  same_count : part_count v ≡ part_count w
  unfolding count_in
  same_count = ap count_in (sym s.kind_and_count ∙ t.kind_and_count)

scalar_kind : (x : Scalar) → kind_of (scalar x) < 6
scalar_kind null = omega arith
scalar_kind (boolean false) = omega arith
scalar_kind (boolean true) = omega arith
scalar_kind (integer z) = omega arith
scalar_kind (string s) = omega arith

spelled_at : Bytes → Option Span → Bytes
spelled_at S None = []
spelled_at S (Some p) = take p.size (drop p.start S)

-- A scalar by its kind, its integer and its bytes.
scalar_of : ℕ → Option ℤ → Bytes → Scalar
scalar_of kind z s = cond (eqb kind 1) null (cond (eqb kind 2) (boolean false) (cond (eqb kind 3) (boolean true) (cond (eqb kind 4) (integer (or_else z (pos 0))) (string s))))

module _ (T S : Bytes) where
  told_scalar : (place : ℕ) (x : Scalar) → TellsScalar T S place x → scalar_of (kind_of (scalar x)) (integer_of (row_seen T place)) (spelled_at S (string_of (row_seen T place))) ≡ x
  unfolding scalar_of spelled_at
  told_scalar place null t = refl
  told_scalar place (boolean false) t = refl
  told_scalar place (boolean true) t = refl
  told_scalar place (integer z) t = ap (λ (o : Option ℤ). integer (or_else o (pos 0))) t
  told_scalar place (string s) t = ap (λ (o : Option Span). string (spelled_at S o)) t.told ∙ ap string t.spells.bytes_are

  one_name : {place : ℕ} {m n : Bytes} → Named T S place m → Named T S place n → m ≡ n
  unfolding spelled_at
  one_name s t = sym s.spells.bytes_are ∙ ap (spelled_at S) (sym s.told ∙ t.told) ∙ t.spells.bytes_are

  mutual
    unfolding item_count

    pub one : {place : ℕ} {v w : Value} → Shows T S place v → Shows T S place w → v ≡ w
    one {place} (shows_scalar {x = x} s a) (shows_scalar {x = y} t b) =
        ap scalar (sym (told_scalar place x a) ∙ rw (same_kind s t) (told_scalar place y b))
    one (shows_scalar {x = x} s a) (shows_array t b) = absurd (omega (arith, same_kind s t, scalar_kind x))
    one (shows_scalar {x = x} s a) (shows_object t b) = absurd (omega (arith, same_kind s t, scalar_kind x))
    one (shows_array s a) (shows_scalar {x = y} t b) = absurd (omega (arith, same_kind s t, scalar_kind y))
    one (shows_array s a) (shows_array t b) = ap array (one_items a b (same_count s t))
    one (shows_array s a) (shows_object t b) = absurd (omega (arith, same_kind s t))
    one (shows_object s a) (shows_scalar {x = y} t b) = absurd (omega (arith, same_kind s t, scalar_kind y))
    one (shows_object s a) (shows_array t b) = absurd (omega (arith, same_kind s t))
    one (shows_object s a) (shows_object t b) = ap object (one_members a b (same_count s t))

    one_items : {place n at : ℕ} {vs ws : Values} → ShowsItems T S place n at vs → ShowsItems T S place n at ws → item_count vs ≡ item_count ws → vs ≡ ws
    one_items shows_no_items shows_no_items e = refl
    one_items shows_no_items (shows_item q u y ys) e = absurd (omega arith)
    one_items (shows_item p t x xs) shows_no_items e = absurd (omega arith)
    one_items {place} {n} {at} (shows_item p t x xs) (shows_item {v = w} {vs = ws} q u y ys) e =
        let same = one x y in
        ap₂ item same (one_items xs (subst (λ (z : Value). ShowsItems T S place (suc n) (at + value_count z) ws) (sym same) ys) (omega arith))

    one_members : {place n at : ℕ} {vs ws : Members} → ShowsMembers T S place n at vs → ShowsMembers T S place n at ws → member_count vs ≡ member_count ws → vs ≡ ws
    one_members shows_no_members shows_no_members e = refl
    one_members shows_no_members (shows_member q u y ys) e = absurd (omega arith)
    one_members (shows_member p t x xs) shows_no_members e = absurd (omega arith)
    one_members {place} {n} {at} (shows_member p t x xs) (shows_member {v = w} {ms = ws} q u y ys) e =
        let a = one_name t u in
        let same = one x y in
        let c = one_members xs (subst (λ (z : Value). ShowsMembers T S place (suc n) (at + value_count z) ws) (sym same) ys) (omega arith) in
        λ k. member (a k) (same k) (c k)
