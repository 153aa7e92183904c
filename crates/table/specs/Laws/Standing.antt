-- Standing: a value in the rows of a table from one on, and its parts in the rows behind that one.
use Rattle.std.specs.Prelude.{◌≡◌, ◌++◌, ℕ, ◌+◌, ◌*◌, ◌≤◌, ◌<◌}
use Rattle.std.proofs.Math.Path.{ap}
use Rattle.std.proofs.Common.{◌∙◌}
use native.Mathlib.Omega.{arith}
use Rattle.std.proofs.Math.Dec as dec
use Rattle.std.proofs.Math.ListN.{length, length-append}
use Rattle.model.specs.Bounds.{bounded, bounded_items, bounded_members}
use Rattle.model.specs.Bytes.{Bytes}
use Rattle.model.proofs.Laws.Logic.{and_l, and_r}
use Rattle.model.specs.Limits.{max_text_bytes, max_values}
use Rattle.model.specs.Size.{value_count, items_count, members_count}
use Rattle.model.specs.Value.{Value, array, object, Values, no_items, item, Members, no_members, member, member_count, instant_free, instant_free_items, instant_free_members}
use Rattle.syntax.specs.Layout.{row_bytes, Label, unnamed, row, item_count, rows_of, item_rows, member_rows, strings_of, item_strings, member_strings}
use Rattle.syntax.proofs.Laws.Layout.{length_row, length_rows, count_positive}
use Rattle.syntax.proofs.Laws.Sound.{sound}
use Rattle.syntax.proofs.Laws.Stands.{Stands, front, back, part_stands, behind}
use Rattle.syntax.proofs.Laws.StringsFit.{strings_small}
use Rattle.syntax.proofs.Laws.WellFormed.{read_well_formed}
use Rattle.table.specs.Denotes.{Denotes, RowItems, RowMembers}
use Rattle.table.specs.Node.{node_at, next_row, name_at}
use Rattle.table.specs.Placed.{row_after}
use Rattle.table.specs.Strings.{bytes_of}
use Rattle.table.specs.WasRead.{WasRead}
use Rattle.table.specs.Laws.ReadForm.{Short, unnamed_short, Stored, value_read, items_read, members_read}
use Rattle.table.specs.Laws.WasRead.{was_read_stands, was_read_strings}

-- ---- what stands from a row on
-- A value, with the rows of all that it holds, as reading writes them; and its strings.
pub record Standing (T B : Bytes) (v : Value) (i : ℕ) : Type 0 where
  pub used : ℕ
  pub name : Label
  pub bounds : dec.T (bounded v)
  pub free : dec.T (instant_free v)
  pub few : i + value_count v ≤ max_values
  pub short : used + length (strings_of v) ≤ max_text_bytes
  pub named : Short name
  pub table : Stands T (i * row_bytes) (rows_of v i used name)
  pub strings : Stands B used (strings_of v)

-- Items, one behind the other.
pub record StandingItems (T B : Bytes) (vs : Values) (i : ℕ) : Type 0 where
  pub used : ℕ
  pub bounds : dec.T (bounded_items vs)
  pub free : dec.T (instant_free_items vs)
  pub few : i + items_count vs ≤ max_values
  pub short : used + length (item_strings vs) ≤ max_text_bytes
  pub table : Stands T (i * row_bytes) (item_rows vs i used)
  pub strings : Stands B used (item_strings vs)

-- Members.
pub record StandingMembers (T B : Bytes) (ms : Members) (i : ℕ) : Type 0 where
  pub used : ℕ
  pub bounds : dec.T (bounded_members ms)
  pub free : dec.T (instant_free_members ms)
  pub few : i + members_count ms ≤ max_values
  pub short : used + length (member_strings ms) ≤ max_text_bytes
  pub table : Stands T (i * row_bytes) (member_rows ms i used)
  pub strings : Stands B used (member_strings ms)

module _ {T B : Bytes} where
  -- ---- the root
  pub root_stands : {v : Value} → WasRead T B v → Standing T B v 0
  unfolding row_bytes
  root_stands {v} w =
      let f = read_well_formed w.text v w.reads in
      record {
        used = 0;
        name = unnamed;
        bounds = f.formed.within_limits_lem;
        free = f.no_instants;
        few = omega (arith, (sound w.text v w.reads).0.few);
        short = omega (arith, strings_small w.text v w.reads);
        named = unnamed_short;
        table = was_read_stands w;
        strings = was_read_strings w;
      }

  -- ---- parts
  pub array_items : {vs : Values} {i : ℕ} → Standing T B (array vs) i → StandingItems T B vs (i + 1)
  unfolding bounded instant_free value_count strings_of rows_of
  array_items {vs} {i} s =
      let first = row 6 s.name (item_count vs) (i + 1 + items_count vs) in
      record {
        used = s.used;
        bounds = s.bounds;
        free = s.free;
        few = omega (arith, s.few);
        short = s.short;
        table = behind i 1 first (item_rows vs (i + 1) s.used) s.table (omega (arith, length_row 6 s.name (item_count vs) (i + 1 + items_count vs)));
        strings = s.strings;
      }

  pub object_members : {ms : Members} {i : ℕ} → Standing T B (object ms) i → StandingMembers T B ms (i + 1)
  unfolding bounded instant_free value_count strings_of rows_of
  object_members {ms} {i} s =
      let first = row 7 s.name (member_count ms) (i + 1 + members_count ms) in
      record {
        used = s.used;
        bounds = s.bounds;
        free = s.free;
        few = omega (arith, s.few);
        short = s.short;
        table = behind i 1 first (member_rows ms (i + 1) s.used) s.table (omega (arith, length_row 7 s.name (member_count ms) (i + 1 + members_count ms)));
        strings = s.strings;
      }

  module _ {v : Value} {vs : Values} {i : ℕ} (s : StandingItems T B (item v vs) i) where
    abbrev item_others : Bytes
    item_others = item_rows vs (i + value_count v) (s.used + length (strings_of v))

    pub item_first : Standing T B v i
    unfolding bounded instant_free value_count strings_of rows_of
    item_first =
        record {
          used = s.used;
          name = unnamed;
          bounds = and_l (bounded v) _ s.bounds;
          free = and_l (instant_free v) _ s.free;
          few = omega (arith, s.few);
          short = omega (arith, s.short, length-append (strings_of v) (item_strings vs));
          named = unnamed_short;
          table = front (rows_of v i s.used unnamed) item_others s.table;
          strings = front (strings_of v) (item_strings vs) s.strings;
        }

    pub item_rest : StandingItems T B vs (i + value_count v)
    unfolding bounded instant_free value_count strings_of rows_of
    item_rest =
        record {
          used = s.used + length (strings_of v);
          bounds = and_r (bounded v) _ s.bounds;
          free = and_r (instant_free v) _ s.free;
          few = omega (arith, s.few);
          short = omega (arith, s.short, length-append (strings_of v) (item_strings vs));
          table = behind i (value_count v) (rows_of v i s.used unnamed) item_others s.table (length_rows v i s.used unnamed);
          strings = back (strings_of v) (item_strings vs) s.strings;
        }

  module _ {n : Bytes} {v : Value} {ms : Members} {i : ℕ} (s : StandingMembers T B (member n v ms) i) where
    abbrev label : Label
    label = record { start = s.used; size = length n }

    abbrev member_others : Bytes
    member_others = member_rows ms (i + value_count v) (s.used + length n + length (strings_of v))

    behind_name : Stands B (s.used + length n) (strings_of v ++ member_strings ms)
    unfolding strings_of
    behind_name = back n (strings_of v ++ member_strings ms) s.strings

    strings_length : s.used + length n + (length (strings_of v) + length (member_strings ms)) ≤ max_text_bytes
    unfolding strings_of
    strings_length = omega (arith, s.short, length-append n (strings_of v ++ member_strings ms), length-append (strings_of v) (member_strings ms))

    pub member_first : Standing T B v i
    unfolding bounded instant_free value_count rows_of
    member_first =
        record {
          used = s.used + length n;
          name = label;
          bounds = and_l (bounded v) _ s.bounds;
          free = and_l (instant_free v) _ s.free;
          few = omega (arith, s.few);
          short = omega (arith, strings_length);
          named = record { start_short = omega (arith, strings_length); size_short = omega (arith, strings_length) };
          table = front (rows_of v i (s.used + length n) label) member_others s.table;
          strings = front (strings_of v) (member_strings ms) behind_name;
        }

    pub member_rest : StandingMembers T B ms (i + value_count v)
    unfolding bounded instant_free value_count rows_of
    member_rest =
        record {
          used = s.used + length n + length (strings_of v);
          bounds = and_r (bounded v) _ s.bounds;
          free = and_r (instant_free v) _ s.free;
          few = omega (arith, s.few);
          short = omega (arith, strings_length);
          table = behind i (value_count v) (rows_of v i (s.used + length n) label) member_others s.table (length_rows v i (s.used + length n) label);
          strings = back (strings_of v) (member_strings ms) behind_name;
        }

  -- ---- what the rows say
  stored : {v : Value} {i : ℕ} (s : Standing T B v i) → Stored T B v i s.name
  stored {v} {i} s = value_read T B v i s.used s.name s.bounds s.free s.few s.short s.named s.table s.strings

  pub denoted : {v : Value} {i : ℕ} → Standing T B v i → Denotes T B v (node_at T i)
  denoted s = (stored s).denotes

  pub next : {v : Value} {i : ℕ} → Standing T B v i → next_row T i ≡ i + value_count v
  next s = (stored s).next

  pub was_read_denotes : {v : Value} → WasRead T B v → Denotes T B v (node_at T 0)
  was_read_denotes w = denoted (root_stands w)

  pub root_end : {v : Value} → WasRead T B v → next_row T 0 ≡ value_count v
  root_end w = next (root_stands w) ∙ omega arith

  pub row_inside : {v : Value} {i : ℕ} → Standing T B v i → i < max_values
  row_inside {v} s = omega (arith, s.few, count_positive v)

  pub denoted_items : {vs : Values} {i : ℕ} → StandingItems T B vs i → RowItems T B i vs
  denoted_items {vs} {i} s = items_read T B vs i s.used s.bounds s.free s.few s.short s.table s.strings

  pub denoted_members : {ms : Members} {i : ℕ} → StandingMembers T B ms i → RowMembers T B i ms
  denoted_members {ms} {i} s = members_read T B ms i s.used s.bounds s.free s.few s.short s.table s.strings

  -- The name of the first member.
  pub first_name : {n : Bytes} {v : Value} {ms : Members} {i : ℕ} → StandingMembers T B (member n v ms) i → n ≡ bytes_of B (name_at T i)
  unfolding strings_of member_first
  first_name {n} {v} {ms} s = rw (stored (member_first s)).label (part_stands n (front n (strings_of v ++ member_strings ms) s.strings))

  -- ---- the row after all items or members
  pub items_after : (vs : Values) (i : ℕ) → StandingItems T B vs i → row_after T i (item_count vs) ≡ i + items_count vs
  unfolding item_count items_count
  items_after no_items i s = omega arith
  items_after (item v vs) i s = ap (λ (k : ℕ). row_after T k (item_count vs)) (next (item_first s)) ∙ items_after vs (i + value_count v) (item_rest s) ∙ omega arith

  pub members_after : (ms : Members) (i : ℕ) → StandingMembers T B ms i → row_after T i (member_count ms) ≡ i + members_count ms
  unfolding members_count
  members_after no_members i s = omega arith
  members_after (member n v ms) i s = ap (λ (k : ℕ). row_after T k (member_count ms)) (next (member_first s)) ∙ members_after ms (i + value_count v) (member_rest s) ∙ omega arith
