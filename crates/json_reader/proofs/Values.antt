-- A value: a law for each return of the functions that read one. Over plain values.
use mathlib.Core.Path.{◌≡◌, refl, sym, ap, ◌∙◌, subst, subst⁻¹}
use mathlib.Core.Bool.{Bool, true, false}
use mathlib.Core.List.{[], append-nil}
use Prim.Native.Nat.{ℕ, suc, ◌+◌, ◌*◌, ◌-◌, ◌/◌, ◌%◌, ◌≤◌, ◌<◌}
use native.Mathlib.Nat.{add-zero}
use native.Mathlib.Numerals.{add-one}
use native.Mathlib.Omega.{arith}
use lib.ListN.{length, drop}
use lib.Seq.{sets}
use Rattle.model.specs.Bytes.{Bytes}
use Rattle.model.specs.Limits.{max_values}
use Rattle.model.specs.declared.refusal.ReadFault.{ReadFault}
use Rattle.model.specs.declared.refusal.ReadFault.TheVariants.{NotJson, TooLarge}
use Rattle.model.specs.Size.{value_count}
use Rattle.model.proofs.Laws.Logic.{clash}
use Rattle.model.specs.Value.{Value, scalar, array, object, integer, string, no_items, no_members}
use Rattle.name_index.specs.Contract.{entry}
use Rattle.name_index.specs.Laws.Entries.{indexed_empty}
use Rattle.scan.specs.declared.Fault.{Fault}
use Rattle.scan.specs.Contract.{fault_of, Skipped, Started, Separated, Stands, LiteralMeets, NumberMeets, word_value}
use Rattle.scan.specs.Laws.{eat_next, white_by, value_by_lem, array_by, object_by, array_by_lem, object_by_lem, Gone, literal_whole, literal_wrong, number_whole, number_wrong}
use Rattle.scan.specs.declared.number.Numeral.{Numeral}
use Rattle.chars.specs.Contract.{decoded, CharsMeets, CharsPromise}
use Rattle.chars.specs.declared.Decoded.{Decoded}
use Rattle.syntax.specs.declared.Separator.{Separator}
use Rattle.syntax.specs.declared.Start.{Start}
use Rattle.syntax.specs.declared.Start.TheVariants.{NoValue, TooMuch, Literal, Minus, Digit, Quote, Bracket, Brace}
use Rattle.syntax.specs.declared.Word.{Word}
use Rattle.syntax.specs.declared.Word.TheVariants.{TrueWord, FalseWord, NullWord}
use Rattle.syntax.specs.Layout.{row_bytes, rows_part, rows_of, scalar_row, strings_of, item_count}
use Rattle.syntax.specs.Layout as layout
use Rattle.syntax.proofs.Laws.Layout.{length_row}
use Rattle.syntax.specs.Read.{Parsed, ok, bad, Parser, then, ◌>>=◌, give, fail, if, eat, literal, int, chars, clear, quoted, name, value, items, members, on_start}
use Rattle.json_reader.specs.declared.step.Cursor.{Cursor}
use Rattle.std.specs.Prelude.{Ok, Err}
use Rattle.json_reader.specs.declared.row.Label.{Label}
use Rattle.json_reader.specs.Inner.{Step, label_of, value_form, items_form, members_form, cursor, Below, Reads, Emptied, Filled, kind_of, string_from, array_from, object_from, ValueRead, RowRead, ItemsRead, MembersRead}
use Rattle.json_reader.specs.Index.{IndexedValue, entries_of}
use Rattle.json_reader.proofs.Rows.{rows_sets, entry_sets}
use Rattle.json_reader.proofs.Form.{gone_then, reads_ok, reads_bad, fuelled, On, through, wrapped_bad, contained}

-- ---- a value of one row
-- What a parser gave has one row, bs, and brings the strings area from A to A'.
record Single (g : Parsed Value) (s : Bytes) (q row used : ℕ) (name : layout.Label) (bs A : Bytes) (to : ℕ) (A' : Bytes) : Type 0 where
  v : Value
  is : g ≡ ok v (drop q s) q
  one : value_count v ≡ 1
  rows : rows_of v row used name ≡ bs
  text : to ≡ used + length (strings_of v)
  area : A' ≡ sets A used (strings_of v)
  flat : (T : Bytes) (at : ℕ) → IndexedValue T at v

one_row : {m : ℕ → Parser Value} {k : ℕ} {s : Bytes} {at row used to : ℕ} {name : layout.Label} {T A T' A' : Bytes} (q : ℕ) (bs : Bytes)
    → at < q → q ≤ length s → used ≤ to → to ≤ q → row < max_values → length bs ≡ row_bytes → T' ≡ sets T (row * row_bytes) bs
    → ((f : ℕ) → 2 * (length s - at) + k < f → Single (m f (drop at s) at) s q row used name bs A to A')
    → Reads (value_form name) m k (Below (row + 1)) s at row used T A (Ok (cursor q (row + 1) to 0)) T' A'
unfolding row_bytes
one_row {s = s} {row = row} {T = T} {T' = T'} q bs on inside more text few l t g =
    let i : row * row_bytes + length bs ≤ max_values * row_bytes = omega arith in
    reads_ok
    (record {
      on = omega arith;
      inside = omega arith;
      text = omega arith;
      more = more;
      rows = omega arith;
      less = omega arith;
      count = omega arith;
      kept = λ e o p. ap (λ (d : Bytes). entry d e) t ∙ entry_sets T (row * row_bytes) bs i e;
    })
    (λ f e. let o = g f e in record {
      x = o.v;
      is = o.is;
      wrote = record {
        place = refl;
        left = refl;
        rows = ap (λ (n : ℕ). row + n) (sym o.one);
        text = o.text;
        parts = refl;
        table = ap rows_part t ∙ rows_sets T (row * row_bytes) bs i ∙ ap (sets (rows_part T) (row * row_bytes)) (sym o.rows);
        area = o.area;
        index = o.flat T' row;
      };
    })

-- ---- scalars
-- What the contract of `chars` says, by its answer.
pub record Text (g : Parsed Bytes) (s : Bytes) (at used : ℕ) (A : Bytes) (q to : ℕ) (A' : Bytes) : Type 0 where
  pub bs : Bytes
  pub is : g ≡ ok bs (drop q s) q
  pub on : at + length bs ≤ q
  pub inside : q < length s
  pub text : to ≡ used + length bs
  pub area : A' ≡ sets A used bs

module _ (s : Bytes) (at used : ℕ) (A : Bytes) (A' : Bytes) where
  chars_bad : (x : Fault) (g : Parsed Bytes) → CharsMeets s at used A g (Err x) A' → Gone g x
  chars_bad x (ok v u q) m = clash (cc m.answer)
  chars_bad x (bad k p) m = let e : fault_of k p ≡ x = cc in record { is = ap (λ (f : Fault). bad f.reason f.at) e }

  chars_ok : (d : Decoded) (g : Parsed Bytes) → CharsMeets s at used A g (Ok d) A' → Text g s at used A d.at d.used A'
  chars_ok d (ok bs u q) m =
      let e : d ≡ decoded q (used + length bs) = cc m.answer in
      let i : q ≡ d.at = ap (λ (x : Decoded). x.at) (sym e) in
      record {
        bs = bs;
        is = ap (λ (t : Bytes). ok bs t q) m.left ∙ (λ k. ok bs (drop (i k) s) (i k));
        on = omega (arith, m.on);
        inside = omega (arith, m.inside);
        text = ap (λ (x : Decoded). x.used) e;
        area = m.area;
      }
  chars_ok d (bad k p) m = clash cc

module _ {s : Bytes} {at used : ℕ} {A : Bytes} {A' : Bytes} where
  pub chars_gone : {x : Fault} → CharsPromise s at used A (Err x) A' → (f : ℕ) → length s < at + f → Gone (chars f clear (drop at s) at) x
  chars_gone {x} h f l = chars_bad s at used A A' x (chars f clear (drop at s) at) (h.run f l)

  pub chars_got : {d : Decoded} → CharsPromise s at used A (Ok d) A' → (f : ℕ) → length s < at + f → Text (chars f clear (drop at s) at) s at used A d.at d.used A'
  chars_got {d} h f l = chars_ok s at used A A' d (chars f clear (drop at s) at) (h.run f l)

  pub string_end : {d : Decoded} → CharsPromise s at used A (Ok d) A' → (d.at < length s) × (used ≤ d.used)
  string_end h = let o = chars_got h (suc (length s)) (omega arith) in (o.inside, omega (arith, o.text))

-- ---- a law for each return of `read_literal`, `read_number` and `read_string`
word_row : (w : Word) (at used : ℕ) (name : layout.Label) → rows_of (word_value w) at used name ≡ layout.row (kind_of w) name 0 0
unfolding rows_of scalar_row
word_row TrueWord at used name = refl
word_row FalseWord at used name = refl
word_row NullWord at used name = refl

pub kind_small : (w : Word) → kind_of w < 256
kind_small TrueWord = omega arith
kind_small FalseWord = omega arith
kind_small NullWord = omega arith

word_strings : (w : Word) → strings_of (word_value w) ≡ []
unfolding strings_of
word_strings TrueWord = refl
word_strings FalseWord = refl
word_strings NullWord = refl

word_flat : (w : Word) (T : Bytes) (at : ℕ) → IndexedValue T at (word_value w)
unfolding IndexedValue
word_flat TrueWord T at = Prim.tt
word_flat FalseWord T at = Prim.tt
word_flat NullWord T at = Prim.tt

word_one : (w : Word) → value_count (word_value w) ≡ 1
unfolding value_count
word_one TrueWord = refl
word_one FalseWord = refl
word_one NullWord = refl

module _ {name : Label} {s : Bytes} {at row used : ℕ} {T : Bytes} where
  module _ (w : Word) where
    pub law_literal_bad : {x : Fault} {T' : Bytes} → LiteralMeets s at w (literal w (drop at s) at) (Err x) → RowRead name (literal w) s at row used T (Err x) T'
    law_literal_bad {x} m = record { reads = λ A. reads_bad (λ f h. literal_wrong s at w (literal w (drop at s) at) x m refl) }

    pub law_literal : {end : ℕ} {c : Cursor} {T' : Bytes} {kind : ℕ} → LiteralMeets s at w (literal w (drop at s) at) (Ok end) → used ≤ at → row < max_values → kind ≡ kind_of w
        → T' ≡ sets T (row * row_bytes) (layout.row kind (label_of name) 0 0) → c ≡ cursor end (row + 1) used 0 → RowRead name (literal w) s at row used T (Ok c) T'
    law_literal {end} {T' = T'} {kind} m u few k t e =
        let o = literal_whole s at w (literal w (drop at s) at) end m refl in
        subst⁻¹ (λ (c : Cursor). RowRead name (literal w) s at row used T (Ok c) T') e
        (record {
          reads = λ A. one_row end _ o.on o.inside (omega arith) (omega (arith, o.on)) few (length_row kind (label_of name) 0 0) t
              (λ f h. record {
                v = word_value w;
                is = o.is;
                one = word_one w;
                rows = word_row w row used (label_of name) ∙ ap (λ (n : ℕ). layout.row n (label_of name) 0 0) (sym k);
                text = rw word_strings (omega arith);
                area = rw word_strings;
                flat = word_flat w;
              });
        })

  module _ (negative : Bool) where
    pub law_number_bad : {x : Fault} {T' : Bytes} → NumberMeets s at (int negative (drop at s) at) (Err x) → RowRead name (int negative) s at row used T (Err x) T'
    law_number_bad {x} m = record { reads = λ A. reads_bad (λ f h. number_wrong s at (int negative (drop at s) at) x m refl) }

    pub law_number : (n : Numeral) {c : Cursor} {T' : Bytes} → NumberMeets s at (int negative (drop at s) at) (Ok n) → used ≤ at → row < max_values
        → T' ≡ sets T (row * row_bytes) (layout.row 4 (label_of name) (n.biased % 4294967296) (n.biased / 4294967296))
        → c ≡ cursor n.at (row + 1) used 0 → RowRead name (int negative) s at row used T (Ok c) T'
    unfolding value_count rows_of scalar_row strings_of IndexedValue
    law_number n {T' = T'} m u few t e =
        let o = number_whole s at (int negative (drop at s) at) n m refl in
        subst⁻¹ (λ (c : Cursor). RowRead name (int negative) s at row used T (Ok c) T') e
        (record {
          reads = λ A. one_row n.at _ o.on o.inside (omega arith) (omega (arith, o.on)) few
              (length_row 4 (label_of name) (n.biased % 4294967296) (n.biased / 4294967296)) t
              (λ f h. record {
                v = scalar (integer o.z);
                is = o.is;
                one = refl;
                rows = ap (λ (b : ℕ). layout.row 4 (label_of name) (b % 4294967296) (b / 4294967296)) (sym o.content);
                text = omega arith;
                area = refl;
                flat = λ T at. Prim.tt;
              });
        })

  module _ {A A' : Bytes} where
    pub law_string_bad : {x : Fault} {T' : Bytes} → CharsPromise s at used A (Err x) A' → ValueRead name string_from 0 s at row used T A (Err x) T' A'
    unfolding ◌>>=◌ then
    law_string_bad h = record {
      reads = reads_bad (λ f l. gone_then (λ _ _ e. ap (λ (p : Parsed Bytes). then p (λ bs. eat (give (scalar (string bs))))) e) (chars_gone h f (omega arith)));
    }

    pub law_string : {d : Decoded} {c : Cursor} {T' : Bytes} → CharsPromise s at used A (Ok d) A' → used ≤ at → row < max_values
        → T' ≡ sets T (row * row_bytes) (layout.row 5 (label_of name) used (d.used - used))
        → c ≡ cursor (d.at + 1) (row + 1) d.used 0 → ValueRead name string_from 0 s at row used T A (Ok c) T' A'
    unfolding ◌>>=◌ then give value_count rows_of scalar_row strings_of IndexedValue
    law_string {d} {T' = T'} h u few t e =
        let o = chars_got h (suc (length s)) (omega arith) in
        subst⁻¹ (λ (c : Cursor). ValueRead name string_from 0 s at row used T A (Ok c) T' A') e
        (record {
          reads = one_row (d.at + 1) _ (omega (arith, o.on)) (omega (arith, o.inside)) (omega (arith, o.text)) (omega (arith, o.text, o.on)) few
              (length_row 5 (label_of name) used (d.used - used)) t
              (λ f l.
              let p = chars_got h f (omega arith) in
              let n : d.used - used ≡ length p.bs = omega (arith, p.text) in
              record {
                v = scalar (string p.bs);
                is = ap (λ (p : Parsed Bytes). then p (λ bs. eat (give (scalar (string bs))))) p.is ∙ eat_next (give (scalar (string p.bs))) s d.at p.inside;
                one = refl;
                rows = ap (λ (k : ℕ). layout.row 5 (label_of name) used k) (sym n);
                text = p.text;
                area = p.area;
                flat = λ T at. Prim.tt;
              });
        })

-- ---- a law for each return of `value`
pub started : {s : Bytes} {row depth at : ℕ} {r g : Start} → Started s row depth at r → r ≡ g → Started s row depth at g
started {s} {row} {depth} {at} h e = subst (λ (x : Start). Started s row depth at x) e h

pub separated : {s : Bytes} {close at : ℕ} {r g : Separator} → Separated s close at r → r ≡ g → Separated s close at g
separated {s} {close} {at} h e = subst (λ (x : Separator). Separated s close at x) e h

module _ {name : Label} {n : ℕ → Parser Value} {s : Bytes} {at row used : ℕ} {T A : Bytes} where
  -- What a parser gives further on.
  passes : {m : ℕ → Parser Value} {k at' : ℕ} {r : Step} {T' A' : Bytes} → at ≤ at'
      → Reads (value_form (label_of name)) m k (Below (row + 1)) s at' row used T A r T' A'
      → ((f : ℕ) → 2 * (length s - at) ≤ f → On (n (suc f) (drop at s) at) m (2 * (length s - at') + k) s at')
      → ValueRead name n 0 s at row used T A r T' A'
  passes {m} {k} {at'} l h g = record {
    reads = through l h (λ f e. fuelled (λ (f : ℕ). On (n f (drop at s) at) m (2 * (length s - at') + k) s at') (2 * (length s - at)) g f (omega arith));
  }

  refuses : {T' A' : Bytes} (k : ReadFault) → ((f : ℕ) → n (suc f) (drop at s) at ≡ bad k at) → ValueRead name n 0 s at row used T A (Err (fault_of k at)) T' A'
  refuses k g = record {
    reads = reads_bad (λ f h. fuelled (λ (f : ℕ). Gone (n f (drop at s) at) (fault_of k at)) (2 * (length s - at)) (λ f h. record { is = g f }) f (omega arith));
  }

module _ {name : Label} {s : Bytes} {at row used depth : ℕ} {T A : Bytes} where
  pub law_none : {T' A' : Bytes} → Started s row depth at NoValue → ValueRead name (λ f. value f row depth) 0 s at row used T A (Err (fault_of NotJson at)) T' A'
  unfolding on_start fail
  law_none st = refuses NotJson (λ f. value_by_lem f st)

  pub law_much : {T' A' : Bytes} → Started s row depth at TooMuch → ValueRead name (λ f. value f row depth) 0 s at row used T A (Err (fault_of TooLarge at)) T' A'
  unfolding on_start fail
  law_much st = refuses TooLarge (λ f. value_by_lem f st)

  module _ {r : Step} {T' : Bytes} where
    pub law_word : {w : Word} → Started s row depth at (Literal w) → RowRead name (literal w) s at row used T r T' → ValueRead name (λ f. value f row depth) 0 s at row used T A r T' A
    unfolding on_start
    law_word st h = passes (omega arith) (h.reads A) (λ f l. record { fuel = suc (2 * (length s - at) + 0); steps = omega arith; is = value_by_lem f st })

    pub law_digit : Started s row depth at Digit → RowRead name (int false) s at row used T r T' → ValueRead name (λ f. value f row depth) 0 s at row used T A r T' A
    unfolding on_start
    law_digit st h = passes (omega arith) (h.reads A) (λ f l. record { fuel = suc (2 * (length s - at) + 0); steps = omega arith; is = value_by_lem f st })

    pub law_minus : Started s row depth at Minus → RowRead name (int true) s (at + 1) row used T r T' → ValueRead name (λ f. value f row depth) 0 s at row used T A r T' A
    unfolding on_start
    law_minus st h =
        passes (omega arith) (h.reads A)
        (λ f l. record { fuel = suc (2 * (length s - (at + 1)) + 0); steps = omega arith; is = value_by_lem f st ∙ eat_next (int true) s at st.room.0 })

  module _ {r : Step} {T' A' : Bytes} where
    pub law_quote : Started s row depth at Quote → ValueRead name string_from 0 s (at + 1) row used T A r T' A' → ValueRead name (λ f. value f row depth) 0 s at row used T A r T' A'
    unfolding on_start ◌>>=◌ quoted
    law_quote st h =
        passes (omega arith) h.reads
        (λ f l. record {
          fuel = f;
          steps = omega (arith, st.room);
          is = value_by_lem f st ∙ ap (λ (p : Parsed Bytes). then p (λ bs. eat (give (scalar (string bs))))) (eat_next (chars f clear) s at st.room.0);
        })

    pub law_bracket : Started s row depth at Bracket → ValueRead name (λ f. array_from f row depth) 1 s (at + 1) row used T A r T' A'
        → ValueRead name (λ f. value f row depth) 0 s at row used T A r T' A'
    unfolding on_start
    law_bracket st h =
        passes (omega arith) h.reads
        (λ f l. record { fuel = f; steps = omega (arith, st.room); is = value_by_lem f st ∙ eat_next (array_from f row depth) s at st.room.0 })

    pub law_brace : Started s row depth at Brace → ValueRead name (λ f. object_from f row depth) 1 s (at + 1) row used T A r T' A'
        → ValueRead name (λ f. value f row depth) 0 s at row used T A r T' A'
    unfolding on_start
    law_brace st h =
        passes (omega arith) h.reads
        (λ f l. record { fuel = f; steps = omega (arith, st.room); is = value_by_lem f st ∙ eat_next (object_from f row depth) s at st.room.0 })

-- ---- a law for each return of `array` and `object`
module _ (row depth : ℕ) {s : Bytes} {at first : ℕ} {b : Bool} (sk : Skipped s at first) where
  array_as : Stands s first 93 b → (f : ℕ) → array_from f row depth (drop at s) at ≡ array_by f row depth b (drop first s) first
  array_as st f = white_by _ sk ∙ array_by_lem f row depth st

  object_as : Stands s first 125 b → (f : ℕ) → object_from f row depth (drop at s) at ≡ object_by f row depth b (drop first s) first
  object_as st f = white_by _ sk ∙ object_by_lem f row depth st

  array_none : Stands s first 93 b → b ≡ true → (f : ℕ) → array_from f row depth (drop at s) at ≡ ok (array no_items) (drop (first + 1) s) (first + 1)
  unfolding if give
  array_none st e f = array_as st f ∙ ap (λ (c : Bool). array_by f row depth c (drop first s) first) e ∙ eat_next (give (array no_items)) s first (st.room e)

  object_none : Stands s first 125 b → b ≡ true → (f : ℕ) → object_from f row depth (drop at s) at ≡ ok (object no_members) (drop (first + 1) s) (first + 1)
  unfolding if give
  object_none st e f = object_as st f ∙ ap (λ (c : Bool). object_by f row depth c (drop first s) first) e ∙ eat_next (give (object no_members)) s first (st.room e)

  array_some : Stands s first 93 b → b ≡ false → (f : ℕ) → array_from f row depth (drop at s) at ≡ then (items f (row + 1) (depth + 1) (drop first s) first) (λ vs. give (array vs))
  unfolding if
  array_some st e f =
      array_as st f ∙ ap (λ (c : Bool). array_by f row depth c (drop first s) first) e
      ∙ (λ i. then (items f (sym (add-one row) i) (sym (add-one depth) i) (drop first s) first) (λ vs. give (array vs)))

  object_some : Stands s first 125 b → b ≡ false → (f : ℕ)
      → object_from f row depth (drop at s) at ≡ then (members f (row + 1) (depth + 1) [] (drop first s) first) (λ ms. give (object ms))
  unfolding if
  object_some st e f =
      object_as st f ∙ ap (λ (c : Bool). object_by f row depth c (drop first s) first) e
      ∙ (λ i. then (members f (sym (add-one row) i) (sym (add-one depth) i) [] (drop first s) first) (λ ms. give (object ms)))

module _ {name : Label} {s : Bytes} {at first row used : ℕ} {T A : Bytes} (sk : Skipped s at first) where
  emptied : {m : ℕ → Parser Value} {kind : ℕ} {r : Cursor} {T' : Bytes} (v : Value) → first < length s → used ≤ at → row < max_values
      → rows_of v row used (label_of name) ≡ layout.row kind (label_of name) 0 (row + 1) → strings_of v ≡ [] → value_count v ≡ 1 → ((T : Bytes) (at : ℕ) → IndexedValue T at v)
      → ((f : ℕ) → m f (drop at s) at ≡ ok v (drop (first + 1) s) (first + 1)) → Emptied T row kind name first used r T'
      → ValueRead name m 1 s at row used T A (Ok r) T' A
  emptied {m} {kind} {T' = T'} v l u few rows strings one flat g h =
      subst⁻¹ (λ (x : Cursor). ValueRead name m 1 s at row used T A (Ok x) T' A) h.is
      (record {
        reads = one_row (first + 1) _ (omega (arith, sk.on)) (omega arith) (omega arith) (omega (arith, sk.on)) few (length_row kind (label_of name) 0 (row + 1)) h.table
            (λ f e. record { v = v; is = g f; one = one; rows = rows; text = rw strings (omega arith); area = rw strings; flat = flat });
      })

module _ (depth : ℕ) {name : Label} {s : Bytes} {at first row used : ℕ} {T A : Bytes} {b : Bool} (sk : Skipped s at first) where
  pub law_array_empty : {r : Cursor} {T' : Bytes} → Stands s first 93 b → b ≡ true → used ≤ at → row < max_values → Emptied T row 6 name first used r T'
      → ValueRead name (λ f. array_from f row depth) 1 s at row used T A (Ok r) T' A
  unfolding rows_of strings_of value_count item_count IndexedValue
  law_array_empty st e u few h = emptied sk (array no_items) (st.room e) u few (rw (append-nil, add-zero)) refl refl (λ T at. Prim.tt) (array_none row depth sk st e) h

  pub law_object_empty : {r : Cursor} {T' : Bytes} → Stands s first 125 b → b ≡ true → used ≤ at → row < max_values → Emptied T row 7 name first used r T'
      → ValueRead name (λ f. object_from f row depth) 1 s at row used T A (Ok r) T' A
  unfolding rows_of strings_of value_count IndexedValue entries_of
  law_object_empty st e u few h =
      emptied sk (object no_members) (st.room e) u few (rw (append-nil, add-zero)) refl refl (λ T at. (Prim.tt, indexed_empty T (at + 1))) (object_none row depth sk st e) h

  module _ {T₁ A₁ : Bytes} where
    module _ (st : Stands s first 93 b) (e : b ≡ false) where
      pub law_array_bad : {x : Fault} {T₂ : Bytes} → ItemsRead s first (row + 1) used (depth + 1) T A (Err x) T₁ A₁ → ValueRead name (λ f. array_from f row depth) 1 s at row used T A (Err x) T₂ A₁
      unfolding rows_of strings_of value_count IndexedValue
      law_array_bad it = record {
        reads = wrapped_bad items_form array 6 name (λ x at used. refl) (λ x. refl) (λ x. refl) sk.on (λ f l. array_some row depth sk st e f) (λ x i. i) it.reads;
      }

      pub law_array : {c r : Cursor} {T₂ : Bytes} → row < max_values → ItemsRead s first (row + 1) used (depth + 1) T A (Ok c) T₁ A₁ → Filled T₁ row 6 name c r T₂
          → ValueRead name (λ f. array_from f row depth) 1 s at row used T A (Ok r) T₂ A₁
      unfolding rows_of strings_of value_count IndexedValue
      law_array few it h = record {
        reads = contained items_form array 6 name (λ x at used. refl) (λ x. refl) (λ x. refl) sk.on (λ f l. array_some row depth sk st e f) (λ x i. i) it.reads few h;
      }

    module _ (st : Stands s first 125 b) (e : b ≡ false) where
      pub law_object_bad : {x : Fault} {T₂ : Bytes} → MembersRead [] s first (row + 1) used (depth + 1) T A (Err x) T₁ A₁ → ValueRead name (λ f. object_from f row depth) 1 s at row used T A (Err x) T₂ A₁
      unfolding rows_of strings_of value_count IndexedValue
      law_object_bad it = record {
        reads = wrapped_bad (members_form (row + 1)) object 7 name (λ x at used. refl) (λ x. refl) (λ x. refl) sk.on (λ f l. object_some row depth sk st e f) (λ x i. i) it.reads;
      }

      pub law_object : {c r : Cursor} {T₂ : Bytes} → row < max_values → MembersRead [] s first (row + 1) used (depth + 1) T A (Ok c) T₁ A₁ → Filled T₁ row 7 name c r T₂
          → ValueRead name (λ f. object_from f row depth) 1 s at row used T A (Ok r) T₂ A₁
      unfolding rows_of strings_of value_count IndexedValue
      law_object few it h = record {
        reads = contained (members_form (row + 1)) object 7 name (λ x at used. refl) (λ x. refl) (λ x. refl) sk.on (λ f l. object_some row depth sk st e f) (λ x i. i) it.reads few h;
      }
