-- Readings of any form: what a contract says by its answer, how it is met, and the row of an array or object around its parts.
use mathlib.Core.Path.{◌≡◌, refl, sym, ap, ◌∙◌, subst, subst⁻¹}
use mathlib.Core.List.{◌++◌}
use Prim.Native.Nat.{ℕ, zero, suc, ◌+◌, ◌*◌, ◌-◌, ◌≤◌, ◌<◌}
use native.Mathlib.Omega.{arith}
use lib.ListN.{length, drop}
use lib.Seq.{sets}
use Rattle.area.specs.Laws.{sets_before}
use Rattle.model.specs.Bytes.{Bytes}
use Rattle.model.specs.Limits.{max_values}
use Rattle.model.specs.declared.refusal.ReadFault.{ReadFault}
use Rattle.model.specs.Size.{value_count}
use Rattle.model.specs.Value.{Value}
use Rattle.name_index.specs.Contract.{entry}
use Rattle.scan.specs.declared.Fault.{Fault}
use Rattle.scan.specs.Laws.{Gone}
use Rattle.syntax.specs.Layout.{row_bytes, rows_part, rows_of, strings_of}
use Rattle.syntax.specs.Layout as layout
use Rattle.syntax.proofs.Laws.Layout.{length_row}
use Rattle.syntax.specs.Read.{Parsed, ok, bad, Parser, then, give}
use Rattle.json_reader.specs.declared.row.Label.{Label}
use Rattle.json_reader.specs.declared.step.Cursor.{Cursor}
use Rattle.std.specs.Prelude.{Ok, Err}
use Rattle.json_reader.specs.Inner.{Step, label_of, Form, value_form, cursor, Wrote, Meets, Safe, StepSafe, Reads, ValueRead, Filled}
use Rattle.json_reader.specs.Index.{IndexedValue}
use Rattle.json_reader.proofs.Rows.{rows_sets, entry_sets}
use Rattle.json_reader.proofs.Index.{value_frame}

-- ---- what a contract says, by the answer
-- A parser gave x, up to where the code stands.
pub record Got {X : Type 0} (F : Form X) (s : Bytes) (row used : ℕ) (T A : Bytes) (g : Parsed X) (c : Cursor) (T' A' : Bytes) : Type 0 where
  pub x : X
  pub is : g ≡ ok x (drop c.at s) c.at
  pub wrote : Wrote F s row used T A x (drop c.at s) c.at c T' A'

-- A parser that goes on from one that refused.
pub gone_then : {X Y : Type 0} {g : Parsed X} {h : Parsed Y} {f : Fault} → ((k : ReadFault) (p : ℕ) → g ≡ bad k p → h ≡ bad k p) → Gone g f → Gone h f
gone_then {f = f} e w = record { is = e f.reason f.at w.is }

module _ {X : Type 0} (F : Form X) (s : Bytes) (row used : ℕ) (T A : Bytes) (T' A' : Bytes) where
  got_of : (c : Cursor) (g : Parsed X) → Meets F s row used T A g (Ok c) T' A' → Got F s row used T A g c T' A'
  got_of c (ok x u q) w = record {
    x = x;
    is = (λ i. ok x (w.left i) q) ∙ (λ i. ok x (drop (sym w.place i) s) (sym w.place i));
    wrote = record { place = refl; left = refl; rows = w.rows; text = w.text; parts = w.parts; table = w.table; area = w.area; index = w.index };
  }
  got_of c (bad k p) w = absurd w

  gone_of : (f : Fault) (g : Parsed X) → Meets F s row used T A g (Err f) T' A' → Gone g f
  gone_of f (ok x u q) w = absurd w
  gone_of f (bad k p) w = record { is = ap (λ (x : Fault). bad x.reason x.at) (sym w) }

  meets_got : {c : Cursor} {g : Parsed X} → Got F s row used T A g c T' A' → Meets F s row used T A g (Ok c) T' A'
  meets_got {c} w = subst⁻¹ (λ (g : Parsed X). Meets F s row used T A g (Ok c) T' A') w.is w.wrote

  meets_gone : {f : Fault} {g : Parsed X} → Gone g f → Meets F s row used T A g (Err f) T' A'
  meets_gone {f} w = subst⁻¹ (λ (g : Parsed X). Meets F s row used T A g (Err f) T' A') w.is refl

module _ {X : Type 0} {F : Form X} {m : ℕ → Parser X} {k : ℕ} {b : ℕ → Type 0} {s : Bytes} {at row used : ℕ} {T A : Bytes} {T' A' : Bytes} where
  pub got_at : {c : Cursor} → Reads F m k b s at row used T A (Ok c) T' A' → (f : ℕ) → 2 * (length s - at) + k < f
      → Got F s row used T A (m f (drop at s) at) c T' A'
  got_at {c} h f l = got_of F s row used T A T' A' c (m f (drop at s) at) (h.run f l)

  pub gone_at : {x : Fault} → Reads F m k b s at row used T A (Err x) T' A' → (f : ℕ) → 2 * (length s - at) + k < f
      → Gone (m f (drop at s) at) x
  gone_at {x} h f l = gone_of F s row used T A T' A' x (m f (drop at s) at) (h.run f l)

  pub reads_ok : {c : Cursor} → Safe b s at row used T c T' → ((f : ℕ) → 2 * (length s - at) + k < f → Got F s row used T A (m f (drop at s) at) c T' A')
      → Reads F m k b s at row used T A (Ok c) T' A'
  reads_ok safe g = record { safe = safe; run = λ f l. meets_got F s row used T A T' A' (g f l) }

  pub reads_bad : {x : Fault} → ((f : ℕ) → 2 * (length s - at) + k < f → Gone (m f (drop at s) at) x)
      → Reads F m k b s at row used T A (Err x) T' A'
  reads_bad g = record { safe = tt; run = λ f l. meets_gone F s row used T A T' A' (g f l) }

pub read_as : {name : Label} {m : ℕ → Parser Value} {more : ℕ} {s : Bytes} {at row used : ℕ} {T A : Bytes} {r x : Step} {T' A' : Bytes}
    → ValueRead name m more s at row used T A r T' A' → r ≡ x → ValueRead name m more s at row used T A x T' A'
read_as {name} {m} {more} {s} {at} {row} {used} {T} {A} {T' = T'} {A'} h e = subst (λ (x : Step). ValueRead name m more s at row used T A x T' A') e h

-- One step more than enough.
pub fuelled : (P : ℕ → Type 0) (b : ℕ) → ((f : ℕ) → b ≤ f → P (suc f)) → (f : ℕ) → b < f → P f
fuelled P b k zero h = absurd (none_below h)
  where
    none_below : {n : ℕ} → n < 0 → ⊥
    none_below l = omega arith
fuelled P b k (suc f) h = k f (omega arith)

-- A parser that gives at an offset what another gives further on.
pub record On {X : Type 0} (g : Parsed X) (m : ℕ → Parser X) (enough : ℕ) (s : Bytes) (at : ℕ) : Type 0 where
  pub fuel : ℕ
  pub steps : enough < fuel
  pub is : g ≡ m fuel (drop at s) at

safe_before : (b : ℕ → Type 0) (s : Bytes) (at at' row used : ℕ) (T : Bytes) (r : Step) (T' : Bytes) → at ≤ at' → StepSafe b s at' row used T r T' → StepSafe b s at row used T r T'
safe_before b s at at' row used T (Ok c) T' l safe = record {
  on = omega arith;
  inside = safe.inside;
  text = safe.text;
  more = safe.more;
  rows = safe.rows;
  less = safe.less;
  count = safe.count;
  kept = safe.kept;
}
safe_before b s at at' row used T (Err f) T' l safe = tt

safe_fewer : {b b' : ℕ → Type 0} → ((e : ℕ) → b e → b' e) → (s : Bytes) (at row used : ℕ) (T : Bytes) (r : Step) (T' : Bytes) → StepSafe b' s at row used T r T' → StepSafe b s at row used T r T'
safe_fewer k s at row used T (Ok c) T' safe = record {
  on = safe.on;
  inside = safe.inside;
  text = safe.text;
  more = safe.more;
  rows = safe.rows;
  less = safe.less;
  count = safe.count;
  kept = λ e o p. safe.kept e o (k e p);
}
safe_fewer k s at row used T (Err f) T' safe = tt

module _ {X : Type 0} {F : Form X} {m m' : ℕ → Parser X} {k k' : ℕ} {b : ℕ → Type 0} {s : Bytes} {at at' row used : ℕ} {T A : Bytes} {r : Step} {T' A' : Bytes} where
  pub through : at ≤ at' → Reads F m' k' b s at' row used T A r T' A'
      → ((f : ℕ) → 2 * (length s - at) + k < f → On (m f (drop at s) at) m' (2 * (length s - at') + k') s at')
      → Reads F m k b s at row used T A r T' A'
  through l h g = record {
    safe = safe_before b s at at' row used T r T' l h.safe;
    run = λ f e. let o = g f e in subst⁻¹ (λ (p : Parsed X). Meets F s row used T A p r T' A') o.is (h.run o.fuel o.steps);
  }

-- Of fewer entries that stay.
pub fewer : {X : Type 0} {F : Form X} {m : ℕ → Parser X} {k : ℕ} {b b' : ℕ → Type 0} {s : Bytes} {at row used : ℕ} {T A : Bytes} {r : Step} {T' A' : Bytes}
    → ((e : ℕ) → b e → b' e) → Reads F m k b' s at row used T A r T' A' → Reads F m k b s at row used T A r T' A'
fewer {s = s} {at} {row} {used} {T} {r = r} {T'} g h = record { safe = safe_fewer g s at row used T r T' h.safe; run = h.run }

-- After a fault the areas are free.
pub refail : {X : Type 0} {F : Form X} {m : ℕ → Parser X} {k : ℕ} {b : ℕ → Type 0} {s : Bytes} {at row used : ℕ} {T A : Bytes} {x : Fault} {T₁ A₁ T₂ A₂ : Bytes}
    → Reads F m k b s at row used T A (Err x) T₁ A₁ → Reads F m k b s at row used T A (Err x) T₂ A₂
refail h = reads_bad (λ f l. gone_at h f l)

-- ---- an array or an object, whose own row is stored after those of its parts
module _ {X : Type 0} (F : Form X) (wrap : X → Value) (kind : ℕ) (label : Label)
    (rows-wrap : (x : X) (row used : ℕ) → rows_of (wrap x) row used (label_of label) ≡ layout.row kind (label_of label) (F.parts x) (row + 1 + F.count x) ++ F.rows x (row + 1) used)
    (strings-wrap : (x : X) → strings_of (wrap x) ≡ F.strings x) (count-wrap : (x : X) → value_count (wrap x) ≡ suc (F.count x)) where
  around : (x : X) {s : Bytes} {row used : ℕ} {T A u : Bytes} {q : ℕ} {c : Cursor} {T₁ A₁ T₂ : Bytes} → Wrote F s (row + 1) used T A x u q c T₁ A₁ → row < max_values
      → (F.indexed x (row + 1) T₁ → IndexedValue T₁ row (wrap x))
      → T₂ ≡ sets T₁ (row * row_bytes) (layout.row kind (label_of label) c.count c.row) → Wrote (value_form (label_of label)) s row used T A (wrap x) u q (cursor c.at c.row c.used 0) T₂ A₁
  unfolding row_bytes
  around x {row = row} {used} {T} {A} {c = c} {T₁} {T₂ = T₂} w few own t =
      let i : row * row_bytes + length (layout.row kind (label_of label) c.count c.row) ≤ max_values * row_bytes = rw length_row (omega arith) in
      let j : (row + 1) * row_bytes ≡ row * row_bytes + length (layout.row kind (label_of label) (F.parts x) (row + 1 + F.count x)) = rw length_row (omega arith) in
      record {
        place = w.place;
        left = w.left;
        rows = w.rows ∙ rw count-wrap (omega arith);
        text = w.text ∙ rw strings-wrap;
        parts = refl;
        table = ap rows_part t ∙ rows_sets T₁ (row * row_bytes) (layout.row kind (label_of label) c.count c.row) i
            ∙ (λ i. sets (w.table i) (row * row_bytes) (layout.row kind (label_of label) (w.parts i) (w.rows i)))
            ∙ ap (λ (y : ℕ). sets (sets (rows_part T) y (F.rows x (row + 1) used)) (row * row_bytes) (layout.row kind (label_of label) (F.parts x) (row + 1 + F.count x))) j
            ∙ sets_before (layout.row kind (label_of label) (F.parts x) (row + 1 + F.count x)) (F.rows x (row + 1) used) (rows_part T) (row * row_bytes)
            ∙ ap (sets (rows_part T) (row * row_bytes)) (sym (rows-wrap x row used));
        area = w.area ∙ ap (sets A used) (sym (strings-wrap x));
        index = value_frame T₁ T₂ (wrap x) row (λ e _ _. ap (λ (d : Bytes). entry d e) t ∙ entry_sets T₁ (row * row_bytes) (layout.row kind (label_of label) c.count c.row) i e)
            (own w.index);
      }

  module _ {m : ℕ → Parser X} {n : ℕ → Parser Value} {k : ℕ} {b : ℕ → Type 0} {s : Bytes} {row first at used : ℕ} {T A : Bytes} {T₁ A₁ : Bytes} (l : at ≤ first)
      (is : (f : ℕ) → 2 * (length s - at) + k < f → n f (drop at s) at ≡ then (m f (drop first s) first) (λ x. give (wrap x)))
      (own : (x : X) → F.indexed x (row + 1) T₁ → IndexedValue T₁ row (wrap x)) where
    pub wrapped_bad : {x : Fault} {T₂ : Bytes} → Reads F m k b s first (row + 1) used T A (Err x) T₁ A₁ → Reads (value_form (label_of label)) n k b s at row used T A (Err x) T₂ A₁
    unfolding then
    wrapped_bad h =
        reads_bad (λ f e. gone_then (λ _ _ g. is f e ∙ ap (λ (p : Parsed X). then p (λ x. give (wrap x))) g) (gone_at h f (omega arith)))

    wrapped : {c : Cursor} {T₂ : Bytes} → Reads F m k b s first (row + 1) used T A (Ok c) T₁ A₁ → row < max_values
        → T₂ ≡ sets T₁ (row * row_bytes) (layout.row kind (label_of label) c.count c.row)
        → Reads (value_form (label_of label)) n k b s at row used T A (Ok (cursor c.at c.row c.used 0)) T₂ A₁
    unfolding then give row_bytes
    wrapped {c} h few t =
        let safe = h.safe in
        let i : row * row_bytes + length (layout.row kind (label_of label) c.count c.row) ≤ max_values * row_bytes = rw length_row (omega arith) in
        reads_ok
        (record {
          on = omega arith;
          inside = safe.inside;
          text = safe.text;
          more = safe.more;
          rows = safe.rows;
          less = omega arith;
          count = omega arith;
          kept = λ e o p. ap (λ (d : Bytes). entry d e) t ∙ entry_sets T₁ (row * row_bytes) (layout.row kind (label_of label) c.count c.row) i e ∙ safe.kept e o p;
        })
        (λ f e.
        let g = got_at h f (omega arith) in
        record { x = wrap g.x; is = is f e ∙ ap (λ (p : Parsed X). then p (λ y. give (wrap y))) g.is; wrote = around g.x g.wrote few (own g.x) t })

    pub contained : {c d : Cursor} {T₂ : Bytes} → Reads F m k b s first (row + 1) used T A (Ok c) T₁ A₁ → row < max_values → Filled T₁ row kind label c d T₂
        → Reads (value_form (label_of label)) n k b s at row used T A (Ok d) T₂ A₁
    contained {T₂ = T₂} h few e =
        subst⁻¹ (λ (x : Cursor). Reads (value_form (label_of label)) n k b s at row used T A (Ok x) T₂ A₁) e.is (wrapped h few e.table)
