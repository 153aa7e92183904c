-- The items of an array: a law for each way out of the loop of `all_items`, and one for its next turn. Over plain values.
use mathlib.Core.Path.{◌≡◌, refl, sym, ap, ◌∙◌, subst, subst⁻¹}
use Prim.Native.Nat.{ℕ, suc, ◌+◌, ◌-◌, ◌≤◌, ◌<◌}
use native.Mathlib.Omega.{arith}
use lib.ListN.{length, drop}
use Rattle.model.specs.Bytes.{Bytes}
use Rattle.model.specs.declared.refusal.ReadFault.{ReadFault}
use Rattle.model.specs.declared.refusal.ReadFault.TheVariants.{NotJson}
use Rattle.model.specs.Size.{value_count}
use Rattle.model.specs.Value.{Value, no_items, item}
use Rattle.scan.specs.declared.Fault.{Fault}
use Rattle.scan.specs.Contract.{fault_of, Skipped, Separated}
use Rattle.scan.specs.Laws.{eat_next, white_by, separator_by}
use Rattle.syntax.specs.declared.Separator.{Separator}
use Rattle.syntax.specs.declared.Separator.TheVariants.{Comma, Close, Neither}
use Rattle.syntax.specs.Layout.{unnamed, rows_of, strings_of, item_count}
use Rattle.syntax.proofs.Laws.Layout.{length_rows}
use Rattle.syntax.specs.Read.{Parsed, ok, then, ◌>>=◌, give, fail, peek, eat, white, on_separator, value, items}
use Rattle.syntax.specs.Tokens.{separator_of}
use Rattle.json_reader.specs.declared.step.Cursor.{Cursor}
use Rattle.std.specs.Prelude.{Ok, Err}
use Rattle.json_reader.specs.declared.row.Label.{Label}
use Rattle.json_reader.specs.Inner.{value_form, items_form, cursor, Wrote, Below, ValueRead, ItemsRead, Room, Breaks, Closes, Continued}
use Rattle.json_reader.specs.Index.{IndexedValue, IndexedItems}
use Rattle.json_reader.proofs.Index.{value_frame}
use Rattle.json_reader.proofs.Form.{gone_then, got_at, gone_at}
use Rattle.json_reader.proofs.Loop.{Front, Onward, Inv, inv_start, loop_bad, loop_last, loop_more}

-- The label of a value that is no member.
abbrev pub bare : Label
bare = record { start = 0; size = 0 }

-- ---- the definition, after an item
module _ (f row depth at : ℕ) {s : Bytes} {q end : ℕ} (v : Value) {x : Separator}
    (e : value f row depth (drop at s) at ≡ ok v (drop q s) q) (sk : Skipped s q end) (se : Separated s 93 end x) where
  items_as : items (suc f) row depth (drop at s) at
      ≡ on_separator x (eat (white (λ u p. then (items f (row + value_count v) depth u p) (λ vs. give (item v vs))))) (eat (give (item v no_items))) (drop end s) end
  unfolding value then
  items_as =
      ap (λ (p : Parsed Value). then p (λ w. white (peek >>= λ b. on_separator (separator_of 93 b)
      (eat (white (λ u p. then (items f (row + value_count w) depth u p) (λ vs. give (item w vs))))) (eat (give (item w no_items)))))) e
      ∙ white_by _ sk
      ∙ separator_by (eat (white (λ u p. then (items f (row + value_count v) depth u p) (λ vs. give (item v vs))))) (eat (give (item v no_items))) se

front : (v : Value) {s : Bytes} {row used : ℕ} {T A u : Bytes} {q : ℕ} {c : Cursor} {T' A' : Bytes} → Wrote (value_form unnamed) s row used T A v u q c T' A'
    → Front items_form items_form.indexed (Below c.row) row used T A c.row c.used T' A' (item v)
unfolding rows_of strings_of value_count item_count IndexedValue
front v {row = row} {used} {T' = T'} w = record {
  n = value_count v;
  rs = rows_of v row used unnamed;
  ts = strings_of v;
  rows_cons = λ vs. refl;
  strings_cons = λ vs. refl;
  count_cons = λ vs. refl;
  parts_cons = λ vs. refl;
  size = length_rows v row used unnamed;
  rows = w.rows;
  text = w.text;
  table = w.table;
  area = w.area;
  index = λ vs T₂ k j. (
    value_frame T' T₂ v row (λ e l r. k e (omega arith) (omega (arith, w.rows))) w.index,
    subst (λ (n : ℕ). IndexedItems T₂ n vs) w.rows j,
  );
}

-- ---- the loop
pub record ItemsInv (depth : ℕ) (s : Bytes) (at row used : ℕ) (T A T₁ A₁ : Bytes) (here next to count : ℕ) : Type 0 where
  pub inv : Inv items_form items_form.indexed (λ f. items f row depth) (λ f. items f next depth) (Below row) (Below next) s at row used T A T₁ A₁ here next to count

pub items_start : {depth : ℕ} {s : Bytes} {at row used : ℕ} {T A : Bytes} {h : Cursor} → Room s T A at row used 0 → h ≡ cursor at row used 0
    → ItemsInv depth s at row used T A T A h.at h.row h.used h.count
items_start {depth} {s} {at} {row} {used} {T} {A} r e =
    subst⁻¹ (λ (x : Cursor). ItemsInv depth s at row used T A T A x.at x.row x.used x.count) e
    (record { inv = inv_start items_form r.place r.text r.rows (λ e l. l) })

module _ {depth : ℕ} {s : Bytes} {at row used : ℕ} {T A T₁ A₁ : Bytes} {here next to count : ℕ} (i : ItemsInv depth s at row used T A T₁ A₁ here next to count)
    {T₂ A₂ : Bytes} where
  pub items_bad : {x : Fault} → ValueRead bare (λ f. value f next depth) 0 s here next to T₁ A₁ (Err x) T₂ A₂ → ItemsRead s at row used depth T A (Err x) T₂ A₂
  unfolding value then
  items_bad h = record {
    reads = loop_bad i.inv (λ f l. gone_then (λ _ _ e. rw e) (gone_at h.reads f (omega arith)));
  }

  module _ {c : Cursor} (h : ValueRead bare (λ f. value f next depth) 0 s here next to T₁ A₁ (Ok c) T₂ A₂) {end : ℕ} (sk : Skipped s c.at end) where
    items_stop : Separated s 93 end Neither → ItemsRead s at row used depth T A (Err (fault_of NotJson end)) T₂ A₂
    unfolding on_separator fail
    items_stop se = record {
      reads = loop_bad i.inv
          (λ f l. let g = got_at h.reads f (omega arith) in
          record { is = items_as f next depth here g.x g.is sk se });
    }

    onward : {here₁ : ℕ} → end < here₁ → here₁ ≤ length s → Onward (Below next) (Below c.row) s here next to T₁ here₁ c.row c.used T₂
    onward l n =
        let safe = h.reads.safe in
        let o = i.inv in
        record {
          on = omega (arith, sk.on);
          inside = n;
          text = omega (arith, sk.on);
          more = safe.more;
          rows = safe.rows;
          less = safe.less;
          kept = λ e p q. safe.kept e p (omega arith);
          still = λ e p. omega (arith, safe.less);
        }

    items_last : Separated s 93 end Close → ItemsRead s at row used depth T A (Ok (cursor (end + 1) c.row c.used (count + 1))) T₂ A₂
    unfolding on_separator give rows_of strings_of value_count item_count IndexedValue
    items_last se = record {
      reads = loop_last i.inv (onward (omega arith) (omega (arith, se.room)))
          (λ f l. let g = got_at h.reads f (omega arith) in
          record {
            cons = item g.x;
            front = front g.x g.wrote;
            nil = no_items;
            none = λ at used. refl;
            empty = refl;
            count = refl;
            parts = refl;
            index = Prim.tt;
            is = items_as f next depth here g.x g.is sk se ∙ eat_next (give (item g.x no_items)) s end se.room;
          });
    }

    items_more : {here₁ : ℕ} → Separated s 93 end Comma → Skipped s (end + 1) here₁ → length T₂ ≡ length T → length A₂ ≡ length A
        → ItemsInv depth s at row used T A T₂ A₂ here₁ c.row c.used (count + 1)
    unfolding on_separator
    items_more {here₁} se sk₁ lt la = record {
      inv = loop_more i.inv (onward (omega (arith, sk₁.on)) (sk₁.inside (omega (arith, se.room)))) lt la
          (λ f l. let g = got_at h.reads f (omega arith) in
          let w = g.wrote in
          record {
            cons = item g.x;
            front = front g.x w;
            is = items_as f next depth here g.x g.is sk se
                ∙ eat_next (white (λ u p. then (items f (next + value_count g.x) depth u p) (λ vs. give (item g.x vs)))) s end se.room
                ∙ white_by _ sk₁
                ∙ ap (λ (n : ℕ). then (items f n depth (drop here₁ s) here₁) (λ vs. give (item g.x vs))) (sym w.rows);
          });
    }

  module _ {c : Cursor} (h : ValueRead bare (λ f. value f next depth) 0 s here next to T₁ A₁ (Ok c) T₂ A₂) where
    pub items_broken : {f : Fault} → Breaks s c 93 f → ItemsRead s at row used depth T A (Err f) T₂ A₂
    items_broken {f} b = subst⁻¹ (λ (k : ReadFault). ItemsRead s at row used depth T A (Err (fault_of k f.at)) T₂ A₂) b.reason (items_stop h b.skipped b.neither)

    pub items_closed : {t : Cursor} → Closes s c count 93 t → ItemsRead s at row used depth T A (Ok t) T₂ A₂
    items_closed l = subst⁻¹ (λ (x : Cursor). ItemsRead s at row used depth T A (Ok x) T₂ A₂) l.is (items_last h l.skipped l.closing)

    module _ {t : Cursor} (l : Continued s c count 93 t) where
      pub items_next : length T₂ ≡ length T → length A₂ ≡ length A → ItemsInv depth s at row used T A T₂ A₂ t.at t.row t.used t.count
      items_next lt la =
          subst⁻¹ (λ (x : Cursor). ItemsInv depth s at row used T A T₂ A₂ x.at x.row x.used x.count) l.is
          (items_more h l.skipped l.comma l.white lt la)

      pub items_less : length s - t.at < length s - here
      items_less =
          let safe = h.reads.safe in
          rw (ap (λ (x : Cursor). x.at) l.is) (omega (arith, safe, l.skipped.on, l.white.on, l.comma.room))
