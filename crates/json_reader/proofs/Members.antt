-- The members of an object: a law for each way out of the loop of `all_members`, and one for its next turn. Over plain values.
use mathlib.Core.Path.{◌≡◌, refl, sym, ap, ◌∙◌, subst, subst⁻¹}
use mathlib.Core.List.{List, [], ◌∷◌, ◌++◌, append_assoc, append-nil}
use mathlib.Core.Logic.{◌⊎◌, inl, inr}
use Prim.Native.Nat.{ℕ, suc, ◌+◌, ◌*◌, ◌-◌, ◌/◌, ◌≤◌, ◌<◌}
use native.Mathlib.Nat.{add-zero}
use native.Mathlib.Omega.{arith}
use lib.ListN.{length, take, drop, length-append}
use lib.Seq.{sets}
use Rattle.area.specs.Words.{word_at}
use Rattle.area.specs.Laws.{sets_append, take_sets_before, part_sets, word_at_take, word_at_sets}
use Rattle.model.specs.Bytes.{Bytes}
use Rattle.model.specs.Limits.{max_text_bytes, max_values}
use Rattle.model.specs.declared.refusal.ReadFault.{ReadFault}
use Rattle.model.specs.declared.refusal.ReadFault.TheVariants.{NotJson}
use Rattle.model.specs.Size.{value_count}
use Rattle.model.specs.Value.{Value, Members, no_members, member}
use Rattle.model.proofs.Laws.Logic.{clash}
use Rattle.name_index.specs.Laws.Entries.{indexed_empty, indexed_frame}
use Rattle.name_index.specs.Contract.{Entry, Indexed, Between, HasRow, names_of, part}
use Rattle.scan.specs.declared.Fault.{Fault}
use Rattle.scan.specs.Contract.{fault_of, Skipped, Separated}
use Rattle.scan.specs.Laws.{eat_next, white_by, separator_by, Gone}
use Rattle.syntax.specs.declared.Separator.{Separator}
use Rattle.syntax.specs.declared.Separator.TheVariants.{Comma, Close, Neither}
use Rattle.syntax.specs.Layout.{row_bytes, rows_part, table_bytes, rows_of, strings_of, member_rows, member_strings}
use Rattle.syntax.specs.Layout as layout
use Rattle.syntax.proofs.Laws.Layout.{count_positive, length_rows}
use Rattle.syntax.specs.Read.{Parsed, ok, bad, then, ◌>>=◌, give, fail, peek, eat, white, on_separator, name, value, members}
use Rattle.syntax.specs.Tokens.{separator_of}
use Rattle.json_reader.specs.declared.step.Cursor.{Cursor}
use Rattle.std.specs.Prelude.{Ok, Err}
use Rattle.json_reader.specs.declared.row.Label.{Label}
use Rattle.json_reader.specs.Inner.{with_index, value_form, members_index, members_form, cursor, Wrote, Kept, Below, Older, ValueRead, MembersRead, MembersRoom, Holds, Has, named, NameMeets, NameRead, Breaks, Closes, Continued}
use Rattle.json_reader.specs.Index.{entries_of, IndexedValue, IndexedMembers}
use Rattle.json_reader.proofs.Index.{value_frame, row_between, row_snoc}
use Rattle.json_reader.proofs.Rows.{length_rows_part, take_rows, first_row, row_size, row_start}
use Rattle.json_reader.proofs.Form.{Got, gone_then, got_at, gone_at}
use Rattle.json_reader.proofs.Loop.{Front, Onward, Inv, inv_start, loop_bad, loop_last, loop_more}
use Rattle.json_reader.proofs.Names.{holds_kept, holds_snoc, between_more, between_snoc, names_snoc, part_kept}

-- ---- a name, by the answer
record Name (g : Parsed Bytes) (s : Bytes) (first row used : ℕ) (A : Bytes) (es : List Entry) (on : ℕ) (nm : Label) (T' A' : Bytes) : Type 0 where
  n : Bytes
  q : ℕ
  is : g ≡ ok n (drop q s) q
  skipped : Skipped s q on
  size : nm.size ≡ length n
  area : A' ≡ sets A used n
  indexed : Indexed T' first (es ++ (named A' row used nm.size ∷ []))

module _ (s : Bytes) (first row used : ℕ) (T A : Bytes) (es : List Entry) (T' A' : Bytes) where
  name_of : (on : ℕ) (nm : Label) (g : Parsed Bytes) → NameMeets s first row used T A es g (Ok (record { at = on; name = nm })) T' A' → Name g s first row used A es on nm T' A'
  name_of on nm (ok n u q) m = record {
    n = n;
    q = q;
    is = ap (λ (t : Bytes). ok n t q) m.left;
    skipped = m.skipped;
    size = m.size;
    area = m.area;
    indexed = m.indexed;
  }
  name_of on nm (bad k p) m = absurd m

  no_name_of : (x : Fault) (g : Parsed Bytes) → NameMeets s first row used T A es g (Err x) T' A' → Gone g x
  no_name_of x (ok n u q) m = absurd m
  no_name_of x (bad k p) m = record { is = ap (λ (f : Fault). bad f.reason f.at) (sym m) }

-- ---- the definition, after a name and after a member
-- What follows the content of a member.
abbrev tail : ℕ → ℕ → ℕ → List Bytes → Bytes → Value → Bytes → ℕ → Parsed Members
tail f row depth seen n v = white (peek >>= λ b. on_separator (separator_of 125 b)
    (eat (white (λ u p. then (members f (row + value_count v) depth (seen ++ (n ∷ [])) u p) (λ ms. give (member n v ms)))))
    (eat (give (member n v no_members))))

members_unnamed : (f row depth at : ℕ) (seen : List Bytes) (s : Bytes) {x : Fault} → Gone (name f seen (drop at s) at) x
    → Gone (members (suc f) row depth seen (drop at s) at) x
unfolding value then
members_unnamed f row depth at seen s g =
    gone_then (λ _ _ e. ap (λ (g : Parsed Bytes). then g (λ m. white (λ t c. then (value f row depth t c) (tail f row depth seen m)))) e) g

module _ (f row depth at : ℕ) (seen : List Bytes) {s : Bytes} {q p : ℕ} (n : Bytes) (e : name f seen (drop at s) at ≡ ok n (drop q s) q) (sk : Skipped s q p) where
  members_value : members (suc f) row depth seen (drop at s) at ≡ then (value f row depth (drop p s) p) (tail f row depth seen n)
  unfolding value then
  members_value =
      ap (λ (g : Parsed Bytes). then g (λ m. white (λ t c. then (value f row depth t c) (tail f row depth seen m)))) e
      ∙ white_by (λ t c. then (value f row depth t c) (tail f row depth seen n)) sk

  members_empty : {x : Fault} → Gone (value f row depth (drop p s) p) x → Gone (members (suc f) row depth seen (drop at s) at) x
  unfolding then
  members_empty g = gone_then (λ _ _ e. members_value ∙ ap (λ (h : Parsed Value). then h (tail f row depth seen n)) e) g

  module _ {c end : ℕ} (v : Value) {x : Separator} (g : value f row depth (drop p s) p ≡ ok v (drop c s) c) (sk₁ : Skipped s c end) (se : Separated s 125 end x) where
    members_as : members (suc f) row depth seen (drop at s) at
        ≡ on_separator x (eat (white (λ u p. then (members f (row + value_count v) depth (seen ++ (n ∷ [])) u p) (λ ms. give (member n v ms))))) (eat (give (member n v no_members))) (drop end s) end
    unfolding then
    members_as =
        members_value ∙ ap (λ (h : Parsed Value). then h (tail f row depth seen n)) g ∙ white_by _ sk₁
        ∙ separator_by (eat (white (λ u p. then (members f (row + value_count v) depth (seen ++ (n ∷ [])) u p) (λ ms. give (member n v ms))))) (eat (give (member n v no_members))) se

-- ---- one member in the areas
-- Where the name n lies that was read to `used`.
abbrev label : ℕ → ℕ → layout.Label
label start size = record { start = start; size = size }

-- No member so far has a later row.
later : {row : ℕ} (first : ℕ) (es : List Entry) (e : Entry) → Between first row es → e.row ≡ row → (x : ℕ) → row < x → HasRow (es ++ (e ∷ [])) x → ⊥
later {row} first es e b i x l h = go (row_snoc es e x h)
  where
    go : HasRow es x ⊎ (x ≡ e.row) → ⊥
    go (inl g) = omega (arith, row_between es first row b x g)
    go (inr g) = omega arith

-- And one that has is none of an earlier row.
earlier : (es : List Entry) (e : Entry) (x : ℕ) → x < e.row → (HasRow es x → ⊥) → HasRow (es ++ (e ∷ [])) x → ⊥
earlier es e x l f h = go (row_snoc es e x h)
  where
    go : HasRow es x ⊎ (x ≡ e.row) → ⊥
    go (inl g) = f g
    go (inr g) = omega arith

module _ (n : Bytes) (v : Value) (used : ℕ) (T A : Bytes) {s : Bytes} {row : ℕ} {T₁ A₁ u : Bytes} {q k : ℕ} {c : Cursor} {T₂ A₂ : Bytes}
    (rows : rows_part T₁ ≡ rows_part T) (size : k ≡ length n) (area : A₁ ≡ sets A used n)
    (w : Wrote (value_form (label used k)) s row (used + k) T₁ A₁ v u q c T₂ A₂) where
  own_rows : rows_part T₂ ≡ sets (rows_part T) (row * row_bytes) (rows_of v row (used + length n) (label used (length n)))
  own_rows = w.table ∙ (λ i. sets (rows i) (row * row_bytes) (rows_of v row (used + size i) (label used (size i))))

  own_area : A₂ ≡ sets A used (n ++ strings_of v)
  own_area = w.area ∙ (λ i. sets (area i) (used + size i) (strings_of v)) ∙ sets_append n (strings_of v) A used

  own_index : (first : ℕ) (es : List Entry) (e : Entry) → Between first row es → e.row ≡ row → e.name ≡ n
      → (ms : Members) (T₃ : Bytes) → Kept (Older c.row (es ++ (e ∷ []))) T₂ T₃ → members_index first (es ++ (e ∷ [])) ms c.row T₃ → members_index first es (member n v ms) row T₃
  unfolding IndexedValue entries_of
  own_index first es e b i j ms T₃ k h =
      let g : (es ++ (e ∷ [])) ++ entries_of c.row ms ≡ es ++ entries_of row (member n v ms) =
      append_assoc es (e ∷ []) (entries_of c.row ms) ∙ (λ o. es ++ (record { row = i o; name = j o } ∷ entries_of (w.rows o) ms)) in (
        (
          value_frame T₂ T₃ v row (λ x l r. k x (omega arith) (omega (arith, w.rows), later first es e b i x l)) w.index,
          subst (λ (m : ℕ). IndexedMembers T₃ m ms) w.rows h.0,
        ),
        subst (Indexed T₃ first) g h.1,
      )

  front : (first : ℕ) (es : List Entry) (e : Entry) → Between first row es → e.row ≡ row → e.name ≡ n
      → Front (with_index (members_form first) (members_index first es)) (members_index first (es ++ (e ∷ []))) (Older c.row (es ++ (e ∷ []))) row used T A c.row c.used T₂ A₂ (member n v)
  unfolding rows_of strings_of value_count
  front first es d b i j =
      let l : length (n ++ strings_of v) ≡ length n + length (strings_of v) = length-append n (strings_of v) in
      let e : used + length n + length (strings_of v) ≡ used + length (n ++ strings_of v) = omega arith in
      record {
        n = value_count v;
        rs = rows_of v row (used + length n) (label used (length n));
        ts = n ++ strings_of v;
        rows_cons = λ ms. ap (λ (k : ℕ). rows_of v row (used + length n) (label used (length n)) ++ member_rows ms (row + value_count v) k) e;
        strings_cons = λ ms. sym (append_assoc n (strings_of v) (member_strings ms));
        count_cons = λ ms. refl;
        parts_cons = λ ms. refl;
        size = length_rows v row (used + length n) (label used (length n));
        rows = w.rows;
        text = w.text ∙ omega arith;
        table = own_rows;
        area = own_area;
        index = own_index first es d b i j;
      }

-- ---- the members so far
snoc_some : (es : List Entry) (e : Entry) → es ++ (e ∷ []) ≡ [] → ⊥
snoc_some [] e p = clash cc
snoc_some (d ∷ es) e p = clash cc

-- A row that was stored has the name's length and start.
module _ (v : Value) (row used : ℕ) (name : layout.Label) (T T₂ : Bytes) (t : rows_part T₂ ≡ sets (rows_part T) (row * row_bytes) (rows_of v row used name))
    (big : table_bytes ≤ length T) (few : row + value_count v ≤ max_values) (short : name.size ≤ max_text_bytes) (near : name.start ≤ max_text_bytes) where
  stored_word : (k : ℕ) → k + 4 ≤ 16 → word_at T₂ (row * 16 + k) ≡ word_at (rows_of v row used name) k
  unfolding row_bytes rows_part
  stored_word k l =
      let lr : length (rows_of v row used name) ≡ value_count v * 16 = length_rows v row used name in
      let p = count_positive v in
      sym (word_at_take (max_values * 16) T₂ (row * 16 + k) (omega arith))
      ∙ ap (λ (d : Bytes). word_at d (row * 16 + k)) t
      ∙ word_at_sets (rows_of v row used name) (rows_part T) (row * 16) k (omega (arith, length_rows_part T big)) (omega arith)

  stored_start : word_at T₂ (row * 16 + 4) ≡ name.start
  stored_start =
      let o = first_row v row used name in
      stored_word 4 (omega arith) ∙ ap (λ (d : Bytes). word_at d 4) o.is ∙ row_start o.kind name o.a o.b o.rest o.small short near

  stored_size : word_at T₂ (row * 16) / 256 ≡ name.size
  stored_size =
      let o = first_row v row used name in
      ap (λ (i : ℕ). word_at T₂ i / 256) (sym (add-zero (row * 16)))
      ∙ ap (λ (x : ℕ). x / 256) (stored_word 0 (omega arith) ∙ ap (λ (d : Bytes). word_at d 0) o.is)
      ∙ row_size o.kind name o.a o.b o.rest o.small short near

-- ---- the loop
pub record MembersInv (depth : ℕ) (s : Bytes) (at row used : ℕ) (T A T₁ A₁ : Bytes) (here next to count : ℕ) : Type 0 where
  pub es : List Entry
  pub has : Has T₁ A₁ row next to es
  pub inv : Inv (members_form row) (members_index row es) (λ f. members f row depth []) (λ f. members f next depth (names_of es)) (Below row) (Older next es) s at row used T A T₁ A₁ here next to count

pub members_start : {depth : ℕ} {s : Bytes} {at row used : ℕ} {T A : Bytes} {h : Cursor} → MembersRoom s T A at row used → h ≡ cursor at row used 0
    → MembersInv depth s at row used T A T A h.at h.row h.used h.count
unfolding names_of Holds Between
members_start {depth} {s} {at} {row} {used} {T} {A} r e =
    subst⁻¹ (λ (x : Cursor). MembersInv depth s at row used T A T A x.at x.row x.used x.count) e
    (record {
      es = [];
      has = record { indexed = indexed_empty T row; holds = Prim.tt; between = Prim.tt; none = λ e. refl; some = λ e. refl };
      inv = inv_start (members_form row) r.room.place r.room.text r.room.rows (λ e l. (l, λ h. h));
    })

module _ {depth : ℕ} {s : Bytes} {at row used : ℕ} {T A T₁ A₁ : Bytes} {here next to count : ℕ} (i : MembersInv depth s at row used T A T₁ A₁ here next to count)
    {T₂ A₂ : Bytes} where
  pub members_no_name : {x : Fault} → NameRead s here row next to T₁ A₁ (Err x) T₂ A₂ → MembersRead [] s at row used depth T A (Err x) T₂ A₂
  members_no_name {x} nr = record {
    reads = loop_bad i.inv
        (λ f l. members_unnamed f next depth here (names_of i.es) s
        (no_name_of s row next to T₁ A₁ i.es T₂ A₂ x (name f (names_of i.es) (drop here s) here) (nr.run f (omega arith) i.es i.has)));
  }

  module _ {on : ℕ} {nm : Label} (nr : NameRead s here row next to T₁ A₁ (Ok (record { at = on; name = nm })) T₂ A₂) where
    name_at_lem : (f : ℕ) → length s ≤ here + f → Name (name f (names_of i.es) (drop here s) here) s row next to A₁ i.es on nm T₂ A₂
    name_at_lem f l = name_of s row next to T₁ A₁ i.es T₂ A₂ on nm (name f (names_of i.es) (drop here s) here) (nr.run f l i.es i.has)

    pub members_no_value : {x : Fault} {T₃ A₃ : Bytes} → ValueRead nm (λ f. value f next depth) 0 s on next (to + nm.size) T₂ A₂ (Err x) T₃ A₃ → MembersRead [] s at row used depth T A (Err x) T₃ A₃
    members_no_value h = record {
      reads = loop_bad i.inv
          (λ f l.
          let o = name_at_lem f (omega arith) in
          let safe = nr.safe in
          members_empty f next depth here (names_of i.es) o.n o.is o.skipped (gone_at h.reads f (omega arith)));
    }

    module _ {c : Cursor} {T₃ A₃ : Bytes} (h : ValueRead nm (λ f. value f next depth) 0 s on next (to + nm.size) T₂ A₂ (Ok c) T₃ A₃) {end : ℕ} (sk : Skipped s c.at end) where
      got : (f : ℕ) → 2 * (length s - here) + 1 ≤ f
          → Got (value_form (label to nm.size)) s next (to + nm.size) T₂ A₂ (value f next depth (drop on s) on) c T₃ A₃
      got f l =
          let safe = nr.safe in
          subst (λ (x : ℕ). Got (value_form (label x nm.size)) s next (to + nm.size) T₂ A₂ (value f next depth (drop on s) on) c T₃ A₃) safe.start
          (got_at h.reads f (omega arith))

      members_stop : Separated s 125 end Neither → MembersRead [] s at row used depth T A (Err (fault_of NotJson end)) T₃ A₃
      unfolding on_separator fail
      members_stop se = record {
        reads = loop_bad i.inv
            (λ f l.
            let o = name_at_lem f (omega arith) in
            let g = got f l in
            record { is = members_as f next depth here (names_of i.es) o.n o.is o.skipped g.x g.is sk se });
      }

      module _ (room : MembersRoom s T A at row used) where
        abbrev entered : List Entry
        entered = i.es ++ (named A₂ next to nm.size ∷ [])

        -- The name is what lies in the area.
        is_part_lem : (f : ℕ) (l : length s ≤ here + f) → (name_at_lem f l).n ≡ part A₂ to nm.size
        is_part_lem f l =
            let o = name_at_lem f l in
            let safe = nr.safe in
            let b = room.room in
            let v = i.inv in
            sym (ap (λ (m : ℕ). take m (drop to A₂)) o.size ∙ ap (λ (x : Bytes). take (length o.n) (drop to x)) o.area
            ∙ part_sets o.n A₁ to (omega (arith, o.size)))

        has_more : length T₂ ≡ length T → Has T₃ A₃ row c.row c.used entered
        unfolding row_bytes
        has_more lt =
            let f : ℕ = suc (2 * length s) in
            let o = name_at_lem f (omega arith) in
            let g = got f (omega arith) in
            let w = g.wrote in
            let safe = nr.safe in
            let safe₁ = h.reads.safe in
            let b = room.room in
            let v = i.inv in
            let a = i.has in
            let e = named A₂ next to nm.size in
            let lb = label to nm.size in
            let end₁ : ℕ = to + nm.size in
            let t₃ : rows_part T₃ ≡ sets (rows_part T₂) (next * row_bytes) (rows_of g.x next end₁ lb) = w.table in
            let p : word_at T₃ (next * 16 + 4) ≡ to = stored_start g.x next end₁ lb T₂ T₃ t₃ (omega arith) (omega (arith, w.rows)) (omega arith) (omega arith) in
            let q : word_at T₃ (next * 16) / 256 ≡ nm.size = stored_size g.x next end₁ lb T₂ T₃ t₃ (omega arith) (omega (arith, w.rows)) (omega arith) (omega arith) in
            let tk : take (next * 16) T₃ ≡ take (next * 16) T₁ =
            sym (take_rows T₃ (next * 16) (omega arith)) ∙ ap (take (next * 16)) (t₃ ∙ ap (λ (d : Bytes). sets d (next * row_bytes) (rows_of g.x next end₁ lb)) safe.rows)
            ∙ take_sets_before (next * 16) (rows_of g.x next end₁ lb) (rows_part T₁) (next * 16) (omega arith) ∙ take_rows T₁ (next * 16) (omega arith) in
            let ak : take to A₃ ≡ take to A₁ =
            ap (take to) (own_area o.n g.x to T₁ A₁ safe.rows o.size o.area w) ∙ take_sets_before to (o.n ++ strings_of g.x) A₁ to (omega arith) in
            let nk : take end₁ A₃ ≡ take end₁ A₂ = ap (take end₁) w.area ∙ take_sets_before end₁ (strings_of g.x) A₂ end₁ (omega arith) in
            record {
              indexed = indexed_frame (next + 1) room.positive o.indexed (between_snoc i.es e row (next + 1) (between_more i.es row next (next + 1) a.between (omega arith)) (omega arith) (omega arith))
                  (λ j l k. safe₁.kept j (omega (arith, room.positive)) k);
              holds = holds_snoc i.es e T₃ A₃ c.used (holds_kept i.es row next T₁ T₃ A₁ A₃ to c.used a.between tk ak (omega arith) a.holds)
                  (sym (part_kept A₂ A₃ to nm.size end₁ (omega arith) nk) ∙ (λ k. part A₃ (sym p k) (sym q k))) (omega arith);
              between = between_snoc i.es e row c.row (between_more i.es row next c.row a.between (omega arith)) (omega arith) (omega arith);
              none = λ k. absurd (omega arith);
              some = λ k. absurd (snoc_some i.es e k);
            }

        onward : {here₁ : ℕ} → end < here₁ → here₁ ≤ length s → Onward (Older next i.es) (Older c.row entered) s here next to T₁ here₁ c.row c.used T₃
        onward l b =
            let safe = h.reads.safe in
            let safe₁ = nr.safe in
            let o = i.inv in
            record {
              on = omega (arith, sk.on);
              inside = b;
              text = omega (arith, sk.on);
              more = omega arith;
              rows = safe.rows;
              less = safe.less;
              kept = λ e p q. safe.kept e p (omega (arith, q.0)) ∙ safe₁.kept i.es i.has e p q;
              still = λ e p. (omega (arith, p.0, safe.less), λ x. earlier i.es (named A₂ next to nm.size) e p.0 p.1 x);
            }

        front_at : (f : ℕ) (l : 2 * (length s - here) + 1 ≤ f)
            → Front (with_index (members_form row) (members_index row i.es)) (members_index row entered) (Older c.row entered) next to T₁ A₁ c.row c.used T₃ A₃ (member (name_at_lem f (omega arith)).n (got f l).x)
        front_at f l =
            let o = name_at_lem f (omega arith) in
            front o.n (got f l).x to T₁ A₁ nr.safe.rows o.size o.area (got f l).wrote row i.es (named A₂ next to nm.size) i.has.between refl
            (sym (is_part_lem f (omega arith)))

        members_last : Separated s 125 end Close → length T₂ ≡ length T → MembersRead [] s at row used depth T A (Ok (cursor (end + 1) c.row c.used (count + 1))) T₃ A₃
        unfolding on_separator give rows_of strings_of value_count IndexedValue entries_of
        members_last se lt = record {
          reads = loop_last i.inv (onward (omega arith) (omega (arith, se.room)))
              (λ f l.
              let o = name_at_lem f (omega arith) in
              let g = got f l in
              record {
                cons = member o.n g.x;
                front = front_at f l;
                nil = no_members;
                none = λ at used. refl;
                empty = refl;
                count = refl;
                parts = refl;
                index = (Prim.tt, subst⁻¹ (Indexed T₃ row) (append-nil entered) (has_more lt).indexed);
                is = members_as f next depth here (names_of i.es) o.n o.is o.skipped g.x g.is sk se
                    ∙ eat_next (give (member o.n g.x no_members)) s end se.room;
              });
        }

        members_more : {here₁ : ℕ} → Separated s 125 end Comma → Skipped s (end + 1) here₁ → length T₂ ≡ length T → length T₃ ≡ length T → length A₃ ≡ length A
            → MembersInv depth s at row used T A T₃ A₃ here₁ c.row c.used (count + 1)
        unfolding on_separator
        members_more {here₁} se sk₁ lt₂ lt la = record {
          es = entered;
          has = has_more lt₂;
          inv = loop_more i.inv (onward (omega (arith, sk₁.on)) (sk₁.inside (omega (arith, se.room)))) lt la
              (λ f l. record {
                cons = member (name_at_lem f (omega arith)).n (got f l).x;
                front = front_at f l;
                is = next_is f l;
              });
        }
          where
            next_is : (f : ℕ) (l : 2 * (length s - here) + 1 ≤ f)
                → members (suc f) next depth (names_of i.es) (drop here s) here
                ≡ then (members f c.row depth (names_of entered) (drop here₁ s) here₁) (λ ms. give (member (name_at_lem f (omega arith)).n (got f l).x ms))
            next_is f l =
                let o = name_at_lem f (omega arith) in
                let g = got f l in
                let v = g.x in
                let m = o.n in
                let k : names_of i.es ++ (m ∷ []) ≡ names_of entered =
                ap (λ (x : Bytes). names_of i.es ++ (x ∷ [])) (is_part_lem f (omega arith)) ∙ sym (names_snoc i.es (named A₂ next to nm.size)) in
                members_as f next depth here (names_of i.es) m o.is o.skipped v g.is sk se
                ∙ eat_next (white (λ u p. then (members f (next + value_count v) depth (names_of i.es ++ (m ∷ [])) u p) (λ ms. give (member m v ms)))) s end se.room
                ∙ white_by _ sk₁
                ∙ (λ j. then (members f (sym g.wrote.rows j) depth (k j) (drop here₁ s) here₁) (λ ms. give (member m v ms)))

    module _ {c : Cursor} {T₃ A₃ : Bytes} (h : ValueRead nm (λ f. value f next depth) 0 s on next (to + nm.size) T₂ A₂ (Ok c) T₃ A₃) where
      pub members_broken : {f : Fault} → Breaks s c 125 f → MembersRead [] s at row used depth T A (Err f) T₃ A₃
      members_broken {f} b = subst⁻¹ (λ (k : ReadFault). MembersRead [] s at row used depth T A (Err (fault_of k f.at)) T₃ A₃) b.reason (members_stop h b.skipped b.neither)

      pub members_closed : {t : Cursor} → Closes s c count 125 t → MembersRoom s T A at row used → length T₂ ≡ length T → MembersRead [] s at row used depth T A (Ok t) T₃ A₃
      members_closed l room lt =
          subst⁻¹ (λ (x : Cursor). MembersRead [] s at row used depth T A (Ok x) T₃ A₃) l.is (members_last h l.skipped room l.closing lt)

      module _ {t : Cursor} (l : Continued s c count 125 t) where
        pub members_next : MembersRoom s T A at row used → length T₂ ≡ length T → length T₃ ≡ length T → length A₃ ≡ length A
            → MembersInv depth s at row used T A T₃ A₃ t.at t.row t.used t.count
        members_next room lt₂ lt la =
            subst⁻¹ (λ (x : Cursor). MembersInv depth s at row used T A T₃ A₃ x.at x.row x.used x.count) l.is
            (members_more h l.skipped room l.comma l.white lt₂ lt la)

        pub members_less : length s - t.at < length s - here
        members_less =
            let safe = h.reads.safe in
            let safe₁ = nr.safe in
            rw (ap (λ (x : Cursor). x.at) l.is) (omega (arith, safe, l.skipped.on, l.white.on, l.comma.room))
