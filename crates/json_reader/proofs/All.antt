-- The whole text: a law for each return of `read_text`, `read_rows`, `read_indexed` and `read`. Over plain values.
use mathlib.Core.Path.{◌≡◌, refl, sym, ap, ◌∙◌, subst, subst⁻¹}
use mathlib.Core.Bool.{Bool, true, false}
use mathlib.Core.List.{◌++◌}
use Prim.Native.Nat.{ℕ, ◌+◌, ◌*◌, ◌-◌, ◌≤◌, ◌<◌}
use native.Mathlib.Nat.{zero-add}
use native.Mathlib.Omega.{arith}
use borrow.Author.Tests.{lt-ltb, le-ltb}
use lib.ListN.{length, take, drop, replicate, length-replicate, replicate-append-replicate}
use lib.Seq.{sets, drop-drop, length-take-le, take-append-add, take_at}
use Rattle.area.specs.Words.{zero_between, zero_from}
use Rattle.area.specs.Laws.{length_zero_between, length_zero_from, drop_zero_between, take_zero_between, zero_from_all, zero_from_sets}
use Rattle.model.specs.Bytes.{Bytes}
use Rattle.model.specs.Limits.{max_text_bytes, max_values}
use Rattle.model.specs.Refusal.{number}
use Rattle.model.specs.declared.refusal.ReadFault.{ReadFault}
use Rattle.model.specs.declared.refusal.ReadFault.TheVariants.{NotJson, TooLarge}
use Rattle.model.specs.declared.refusal.Refusal.TheVariants.{InvalidArgument}
use Rattle.model.proofs.Laws.Logic.{clash}
use Rattle.model.specs.Size.{value_count}
use Rattle.model.specs.Value.{Value}
use Rattle.name_index.specs.Contract.{entry}
use Rattle.name_index.specs.Items.{link_items}
use Rattle.name_index.specs.Slots as slots
use Rattle.name_index.specs.Table.{IndexedTable, IndexedWhole}
use Rattle.scan.specs.declared.Fault.{Fault}
use Rattle.scan.specs.Contract.{fault_of, Skipped}
use Rattle.scan.specs.Laws.{white_by, ended_in, ended_end}
use Rattle.syntax.specs.Entry.{ReadAnswer, too_short, read_into, read_entry}
use Rattle.syntax.specs.Layout.{row_bytes, entry_bytes, rows_part, table_bytes, strings_bytes, unnamed, rows_of, strings_of, padded, table_of, strings_area_of}
use Rattle.syntax.proofs.Laws.Layout.{length_rows}
use Rattle.syntax.specs.Read.{Parsed, then, ◌>>=◌, white, value, ended, text, Read, done, refuse, answer, read}
use Rattle.table.specs.WasRead.{WasRead}
use Rattle.table.specs.Laws.WasRead.{SameRows, was_read_cleared, was_read_same}
use Rattle.json_reader.specs.declared.NotRead.{NotRead}
use Rattle.json_reader.specs.declared.NotRead.TheVariants.{AreaTooShort, Fault as unread}
use Rattle.json_reader.specs.declared.step.Cursor.{Cursor}
use Rattle.std.specs.Prelude.{Result, Ok, Err}
use Rattle.json_reader.specs.Contract.{answer_of, refusal_told, place_told, AllRead, RowsRead, RowsReadAs}
use Rattle.json_reader.specs.Inner.{value_form, ValueRead, TextWrote, TextMeets, TextRead}
use Rattle.json_reader.proofs.Index.{value_frame}
use Rattle.json_reader.proofs.Indexed.{names_indexed, items_indexed}
use Rattle.json_reader.proofs.Form.{Got, got_at, gone_at}
use Rattle.json_reader.proofs.Items.{bare}

-- ---- a law for each return of `read_text`
module _ (s : Bytes) where
  read_long : max_text_bytes < length s → read s ≡ refuse TooLarge max_text_bytes
  unfolding read
  read_long h = simp (read, lt-ltb _ _ h)

  read_short : length s ≤ max_text_bytes → read s ≡ answer (text (2 * length s + 1) s 0)
  unfolding read
  read_short h = simp (read, le-ltb _ _ h)

  text_as : {at : ℕ} (f : ℕ) → Skipped s 0 at → text f s 0 ≡ then (value f 0 0 (drop at s) at) (λ v. white (ended v))
  unfolding text ◌>>=◌
  text_as f sk = white_by (value f 0 0 >>= λ v. white (ended v)) sk

meets_refused : {s T A : Bytes} {T' A' : Bytes} (k : ReadFault) (p : ℕ) {x : Fault} → read s ≡ refuse k p → x ≡ fault_of k p → TextRead s T A (Err x) T' A'
meets_refused {s} {T} {A} {T'} {A'} k p {x} e q =
    record { meets = subst⁻¹ (λ (g : Read). TextMeets g T A (Err x) T' A') e q }

module _ {s T A : Bytes} where
  pub law_long : {T' A' : Bytes} → max_text_bytes < length s → TextRead s T A (Err (fault_of TooLarge max_text_bytes)) T' A'
  law_long h = meets_refused TooLarge max_text_bytes (read_long s h) refl

  module _ (short : length s ≤ max_text_bytes) {at : ℕ} (sk : Skipped s 0 at) {T' A' : Bytes} where
    pub law_fault : {x : Fault} → ValueRead bare (λ f. value f 0 0) 0 s at 0 0 T A (Err x) T' A' → TextRead s T A (Err x) T' A'
    unfolding then answer
    law_fault {x} h =
        let g = gone_at h.reads (2 * length s + 1) (omega arith) in
        meets_refused x.reason x.at
        (read_short s short ∙ ap answer (text_as s (2 * length s + 1) sk ∙ ap (λ (p : Parsed Value). then p (λ v. white (ended v))) g.is))
        refl

    module _ {c : Cursor} (reads : ValueRead bare (λ f. value f 0 0) 0 s at 0 0 T A (Ok c) T' A') where
      module _ {end : ℕ} (sk₁ : Skipped s c.at end) where
        got : Got (value_form unnamed) s 0 0 T A (value (2 * length s + 1) 0 0 (drop at s) at) c T' A'
        got = got_at reads.reads (2 * length s + 1) (omega arith)

        read_end : read s ≡ answer (ended got.x (drop end s) end)
        unfolding then
        read_end =
            read_short s short
            ∙ ap answer (text_as s (2 * length s + 1) sk ∙ ap (λ (p : Parsed Value). then p (λ v. white (ended v))) got.is ∙ white_by (ended got.x) sk₁)

        pub law_more : {T₂ A₂ : Bytes} → end < length s → TextRead s T A (Err (fault_of NotJson end)) T₂ A₂
        unfolding answer
        law_more l = meets_refused NotJson end (read_end ∙ ap answer (ended_in got.x s end l)) refl

        pub law_whole : length s ≤ end → TextRead s T A (Ok c) T' A'
        unfolding answer row_bytes
        law_whole l =
            let w = got.wrote in
            let safe = reads.reads.safe in
            record {
              meets = subst⁻¹ (λ (g : Read). TextMeets g T A (Ok c) T' A')
                  (read_end ∙ ap answer (ended_end got.x s end l))
                  (record {
                    count = w.rows ∙ zero-add _;
                    text = w.text ∙ zero-add _;
                    table = w.table;
                    area = w.area;
                    index = w.index;
                    few = safe.rows;
                    fits = omega (arith, safe);
                  });
            }

-- ---- the entry, by whether an area is too short
module _ (s T A : Bytes) (p : ℕ) where
  entry_short : too_short T A ≡ true → read_entry s T A p ≡ record { refusal = number InvalidArgument; place = p; table = T; strings = A }
  entry_short e = rw (e, read_entry)

  entry_long : too_short T A ≡ false → read_entry s T A p ≡ read_into (read s) (length T) (length A)
  entry_long e = rw (e, read_entry)

-- ---- what the contract of `read_text` says, by the answer
record Done (g : Read) (T A : Bytes) (rows used : ℕ) (T' A' : Bytes) : Type 0 where
  v : Value
  is : g ≡ done v
  wrote : TextWrote v T A rows used T' A'

module _ (T A : Bytes) (T' A' : Bytes) where
  refused_of : (x : Fault) (g : Read) → TextMeets g T A (Err x) T' A' → g ≡ refuse x.reason x.at
  refused_of x (done v) m = absurd m
  refused_of x (refuse k p) m = ap (λ (f : Fault). refuse f.reason f.at) (sym m)

  done_of : (c : Cursor) (g : Read) → TextMeets g T A (Ok c) T' A' → Done g T A c.row c.used T' A'
  done_of c (done v) m = record { v = v; is = refl; wrote = m }
  done_of c (refuse k p) m = absurd m

pub rows_few : {s T A : Bytes} {c : Cursor} {T' A' : Bytes} → TextRead s T A (Ok c) T' A' → c.row ≤ max_values
rows_few {s} {T} {A} {c} {T'} {A'} m = (done_of T A T' A' c (read s) m.meets).wrote.few

long_enough : (T A : Bytes) → table_bytes ≤ length T → strings_bytes ≤ length A → too_short T A ≡ false
long_enough T A h g = rw (le-ltb _ _ h, le-ltb _ _ g)

-- ---- a table of which the rows behind a value's are cleared
zeros_take : (m k : ℕ) → m ≤ k → ◌≡◌ {A = Bytes} (take m (replicate k 0)) (replicate m 0)
zeros_take m k h =
    let e : k ≡ m + (k - m) = omega arith in
    ap (λ (n : ℕ). take m (replicate n 0)) e ∙ ap (take m) (sym (replicate-append-replicate m (k - m) 0))
    ∙ take_at (replicate m 0) (replicate (k - m) 0) m (length-replicate m 0)

rows_cleared : (v : Value) (T T₁ : Bytes) (n : ℕ) → table_bytes ≤ length T → length T₁ ≡ length T → n ≡ value_count v → n ≤ max_values
    → rows_part T₁ ≡ sets (rows_part T) 0 (rows_of v 0 0 unnamed)
    → rows_part (zero_between (n * row_bytes) (max_values * row_bytes) T₁) ≡ rows_part (table_of v (length T₁))
unfolding rows_part row_bytes entry_bytes padded
rows_cleared v T T₁ n big same count few t =
    let all = max_values * 16 in
    let rs = rows_of v 0 0 unnamed in
    let l : n * 16 ≡ length rs = omega (arith, length_rows v 0 0 unnamed) in
    let m : all ≡ length rs + (all - length rs) = omega arith in
    let len : length (take all T) ≡ all = length-take-le all T (omega arith) in
    take_zero_between (n * 16) all T₁ (omega arith) ∙ (λ i. zero_from (l i) (t i)) ∙ zero_from_sets rs (take all T) (omega arith)
    ∙ ap (λ (k : ℕ). rs ++ replicate (k - length rs) 0) len
    ∙ sym (ap (λ (k : ℕ). take k (rs ++ replicate (length T₁ - length rs) 0)) m ∙ take-append-add rs (replicate (length T₁ - length rs) 0) (all - length rs)
    ∙ ap (λ (bs : Bytes). rs ++ bs) (zeros_take (all - length rs) (length T₁ - length rs) (omega arith)))

entry_cleared : (T : Bytes) (n e : ℕ) → table_bytes ≤ length T → entry (zero_between n (max_values * row_bytes) T) e ≡ entry T e
unfolding slots.entry slots.place row_bytes entry_bytes
entry_cleared T n e h =
    let all = max_values * 16 in
    let k = (e - 1) * entry_bytes in
    ap (take entry_bytes) (sym (drop-drop k all (zero_between n all T)) ∙ ap (drop k) (drop_zero_between n all T (omega arith)) ∙ drop-drop k all T)

-- ---- a law for each return of `read_rows`
different : {v : Value} {k : ReadFault} {p : ℕ} {g : Read} → g ≡ done v → g ≡ refuse k p → ⊥
different e f = clash cc

true_false : {b : Bool} → b ≡ true → b ≡ false → ⊥
true_false e f = clash cc

answered : (s T A : Bytes) {r : Result ℕ NotRead} (o : Read) → too_short T A ≡ false → read s ≡ o → r ≡ answer_of false o → r ≡ answer_of (too_short T A) (read s)
answered s T A o b e a = a ∙ (λ i. answer_of (sym b i) (sym e i))

module _ {s T A : Bytes} where
  rows_short : too_short T A ≡ true → RowsRead s T A (Err AreaTooShort) T A
  rows_short e = record {
    answer = ap (λ (b : Bool). answer_of b (read s)) (sym e);
    untouched = λ _. (refl, refl);
    refused = λ k p f. absurd (true_false e f);
    sizes = (refl, refl);
    was_read = λ v f. absurd (true_false e f);
    indexed = λ v f. absurd (true_false e f);
  }

  pub law_short_table : length T < table_bytes → RowsRead s T A (Err AreaTooShort) T A
  law_short_table h = rows_short (rw (lt-ltb _ _ h))

  pub law_short_strings : table_bytes ≤ length T → length A < strings_bytes → RowsRead s T A (Err AreaTooShort) T A
  law_short_strings h g = rows_short (rw (le-ltb _ _ h, lt-ltb _ _ g))

  module _ (h : table_bytes ≤ length T) (g : strings_bytes ≤ length A) {T₁ A₁ T₂ A₂ : Bytes} (lt : length T₁ ≡ length T) (la : length A₁ ≡ length A) where
    pub law_refused : {x : Fault} → TextRead s T A (Err x) T₁ A₁ → T₂ ≡ zero_from 0 T₁ → A₂ ≡ zero_from 0 A₁ → RowsRead s T A (Err (unread x)) T₂ A₂
    law_refused {x} m t a =
        let o = refused_of T A T₁ A₁ x (read s) m.meets in
        let zt : T₂ ≡ replicate (length T) 0 = t ∙ zero_from_all T₁ ∙ ap (λ (n : ℕ). replicate n 0) lt in
        let za : A₂ ≡ replicate (length A) 0 = a ∙ zero_from_all A₁ ∙ ap (λ (n : ℕ). replicate n 0) la in
        record {
          answer = answered s T A (refuse x.reason x.at) (long_enough T A h g) o refl;
          untouched = λ e. absurd (true_false e (long_enough T A h g));
          refused = λ k p _ _. (zt, za);
          sizes = (ap length zt ∙ length-replicate (length T) 0, ap length za ∙ length-replicate (length A) 0);
          was_read = λ v _ e. absurd (different e o);
          indexed = λ v _ e. absurd (different e o);
        }

    module _ {c : Cursor} (m : TextRead s T A (Ok c) T₁ A₁) (t : T₂ ≡ zero_between (c.row * row_bytes) (max_values * row_bytes) T₁) (a : A₂ ≡ zero_from c.used A₁) where
      abbrev rows : ℕ
      rows = c.row

      abbrev used : ℕ
      used = c.used

      whole : Done (read s) T A rows used T₁ A₁
      whole = done_of T A T₁ A₁ c (read s) m.meets

      length_table : length T₂ ≡ length T
      length_table = ap length t ∙ length_zero_between (rows * row_bytes) (max_values * row_bytes) T₁ ∙ lt

      length_strings : length A₂ ≡ length A
      length_strings = ap length a ∙ length_zero_from used A₁ ∙ la

      whole_read : WasRead T₂ A₂ whole.v
      unfolding padded row_bytes
      whole_read =
          let v = whole.v in
          let w = whole.wrote in
          let ts = strings_of v in
          record {
            text = s;
            reads = whole.is;
            size = omega (arith, length_table);
            rows = ap rows_part t ∙ rows_cleared v T T₁ rows h lt w.count w.few w.table ∙ ap (λ (n : ℕ). rows_part (table_of v n)) (lt ∙ sym length_table);
            strings = a ∙ (λ k. zero_from (w.text k) (w.area k)) ∙ zero_from_sets ts A (omega (arith, w.text, w.fits)) ∙ ap (strings_area_of v) (sym length_strings);
          }

      whole_indexed : IndexedTable T₂ A₂
      whole_indexed =
          names_indexed whole_read
          (value_frame T₁ T₂ whole.v 0 (λ e _ _. ap (λ (d : Bytes). entry d e) t ∙ entry_cleared T₁ (rows * row_bytes) e (omega arith)) whole.wrote.index)

      pub law_done : RowsRead s T A (Ok rows) T₂ A₂
      law_done = record {
        answer = answered s T A (done whole.v) (long_enough T A h g) whole.is (ap Ok whole.wrote.count);
        untouched = λ e. absurd (true_false e (long_enough T A h g));
        refused = λ k p _ e. absurd (different whole.is e);
        sizes = (length_table, length_strings);
        was_read = λ v _ e. let i : whole.v ≡ v = cc whole.is in subst (WasRead T₂ A₂) i whole_read;
        indexed = λ v _ e. whole_indexed;
      }

-- ---- a law for each return of `read_indexed`
-- Of a text that is refused nothing is said of an index.
pub law_unread : {s T A : Bytes} {x : NotRead} {T' A' : Bytes} → RowsRead s T A (Err x) T' A' → RowsReadAs IndexedWhole s T A (Err x) T' A'
law_unread {s} {T} {A} {x} w = record {
  answer = w.answer;
  untouched = w.untouched;
  refused = w.refused;
  sizes = w.sizes;
  was_read = w.was_read;
  indexed = λ v e f. absurd (no_rows v (w.answer ∙ (λ i. answer_of (e i) (f i))));
}
  where
    no_rows : (v : Value) → ◌≡◌ {A = Result ℕ NotRead} (Err x) (Ok (value_count v)) → ⊥
    no_rows v e = clash cc

-- A text that reads, by the number of its rows.
record Rows (s T A : Bytes) (rows : ℕ) : Type 0 where
  v : Value
  long : too_short T A ≡ false
  is : read s ≡ done v
  count : rows ≡ value_count v

rows_as : {s T A : Bytes} {rows : ℕ} → Ok rows ≡ answer_of (too_short T A) (read s) → Rows s T A rows
rows_as {s} {T} {A} {rows} e = go (too_short T A) (read s) refl refl e
  where
    go : (b : Bool) (g : Read) → too_short T A ≡ b → read s ≡ g → Ok rows ≡ answer_of b g → Rows s T A rows
    go true g x y e = clash cc
    go false (refuse k p) x y e = clash cc
    go false (done v) x y e = record { v = v; long = x; is = y; count = cc }

pub law_entered : {s T A : Bytes} {rows : ℕ} {T' A' T₂ : Bytes} → RowsRead s T A (Ok rows) T' A' → T₂ ≡ link_items T' rows → RowsReadAs IndexedWhole s T A (Ok rows) T₂ A'
law_entered {s} {T} {A} {rows} {T'} {A'} {T₂} w t =
    let g = rows_as w.answer in
    let same : T₂ ≡ link_items T' (value_count g.v) = t ∙ ap (link_items T') g.count in
    let o : SameRows T₂ T' × IndexedWhole T₂ A' =
    subst⁻¹ (λ (D : Bytes). SameRows D T' × IndexedWhole D A') same (items_indexed (w.was_read g.v g.long g.is) (w.indexed g.v g.long g.is)) in
    record {
      answer = w.answer;
      untouched = λ u. absurd (true_false u g.long);
      refused = λ k p _ u. absurd (different g.is u);
      sizes = (o.0.size ∙ w.sizes.0, w.sizes.1);
      was_read = λ y a u. was_read_same (w.was_read y a u) o.0;
      indexed = λ _ _ _. o.1;
    }

-- ---- a law for each return of `read`
module _ {s T A : Bytes} where
  short : {T' A' : Bytes} → too_short T A ≡ true → T' ≡ T → A' ≡ A → AllRead s T A (Err AreaTooShort) T' A'
  short e t a = record {
    answer = ap (λ (b : Bool). answer_of b (read s)) (sym e);
    refusal = λ p. ap (λ (x : ReadAnswer). x.refusal) (sym (entry_short s T A p e));
    place = λ p. ap (λ (x : ReadAnswer). x.place) (sym (entry_short s T A p e));
    table = λ p. t ∙ ap (λ (x : ReadAnswer). x.table) (sym (entry_short s T A p e));
    strings = λ p. a ∙ ap (λ (x : ReadAnswer). x.strings) (sym (entry_short s T A p e));
  }

  -- Areas that are long enough.
  met : {T' A' : Bytes} (o : Read) → too_short T A ≡ false → read s ≡ o
      → refusal_told (answer_of false o) ≡ (read_into o (length T) (length A)).refusal
      → ((p : ℕ) → place_told (answer_of false o) p ≡ (read_into o (length T) (length A)).place)
      → T' ≡ (read_into o (length T) (length A)).table → A' ≡ (read_into o (length T) (length A)).strings → AllRead s T A (answer_of false o) T' A'
  met o b e k q t u =
      let c : (p : ℕ) → read_into o (length T) (length A) ≡ read_entry s T A p =
      λ p. ap (λ (x : Read). read_into x (length T) (length A)) (sym e) ∙ sym (entry_long s T A p b) in
      record {
        answer = λ i. answer_of (sym b i) (sym e i);
        refusal = λ p. k ∙ ap (λ (x : ReadAnswer). x.refusal) (c p);
        place = λ p. q p ∙ ap (λ (x : ReadAnswer). x.place) (c p);
        table = λ p. t ∙ ap (λ (x : ReadAnswer). x.table) (c p);
        strings = λ p. u ∙ ap (λ (x : ReadAnswer). x.strings) (c p);
      }

  pub law_kept : {x : NotRead} {T' A' : Bytes} → RowsRead s T A (Err x) T' A' → AllRead s T A (Err x) T' A'
  law_kept {x} {T'} {A'} w = go (too_short T A) (read s) refl refl w.answer
    where
      go : (b : Bool) (g : Read) → too_short T A ≡ b → read s ≡ g → Err x ≡ answer_of b g → AllRead s T A (Err x) T' A'
      go true g e f a =
          let u = w.untouched e in
          subst⁻¹ (λ (r : Result ℕ NotRead). AllRead s T A r T' A') a (short e u.0 u.1)
      go false (done v) e f a = clash cc
      go false (refuse k p) e f a =
          let z = w.refused k p e f in
          subst⁻¹ (λ (r : Result ℕ NotRead). AllRead s T A r T' A') a (met (refuse k p) e f refl (λ _. refl) z.0 z.1)

  pub law_cleared : {rows : ℕ} {T' A' T₂ : Bytes} → RowsRead s T A (Ok rows) T' A' → T₂ ≡ zero_from (max_values * row_bytes) T' → AllRead s T A (Ok rows) T₂ A'
  law_cleared {rows} {T'} {A'} {T₂} w t =
      let g = rows_as w.answer in
      let x = w.was_read g.v g.long g.is in
      subst⁻¹ (λ (n : ℕ). AllRead s T A (Ok n) T₂ A') g.count
      (met (done g.v) g.long g.is refl (λ _. refl) (t ∙ was_read_cleared x ∙ ap (table_of g.v) w.sizes.0) (x.strings ∙ ap (strings_area_of g.v) w.sizes.1))
