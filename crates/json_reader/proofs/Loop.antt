-- The loops over items and members: whatever the rest reads as, the whole reads as that with what was passed in front. For any form of what is read.
use mathlib.Core.Path.{◌≡◌, refl, sym, ap, ◌∙◌, subst, subst⁻¹}
use mathlib.Core.List.{[], ◌++◌, append-nil}
use Prim.Native.Nat.{ℕ, suc, ◌+◌, ◌*◌, ◌-◌, ◌≤◌, ◌<◌}
use native.Mathlib.Omega.{arith}
use lib.ListN.{length, drop, length-append}
use lib.Seq.{sets}
use Rattle.area.specs.Laws.{sets_append}
use Rattle.model.specs.Bytes.{Bytes}
use Rattle.model.specs.Limits.{max_values}
use Rattle.scan.specs.declared.Fault.{Fault}
use Rattle.scan.specs.Laws.{Gone}
use Rattle.syntax.specs.Layout.{row_bytes, rows_part}
use Rattle.syntax.specs.Read.{Parsed, ok, Parser, then, give}
use Rattle.json_reader.specs.declared.step.Cursor.{Cursor}
use Rattle.std.specs.Prelude.{Ok, Err}
use Rattle.json_reader.specs.Inner.{Step, Index, Form, with_index, cursor, Wrote, Kept, Reads}
use Rattle.json_reader.proofs.Form.{Got, gone_then, got_at, gone_at, reads_ok, reads_bad, fuelled, fewer}

-- ---- one part in front
-- What `cons` puts in front of the parts that follow lies in the areas, before what follows. These are indexed by J, and keep the entries of the rows b.
pub record Front {X : Type 0} (F : Form X) (J : Index X) (b : ℕ → Type 0) (row used : ℕ) (T A : Bytes) (next to : ℕ) (T₁ A₁ : Bytes) (cons : X → X) : Type 0 where
  pub n : ℕ
  pub rs : Bytes
  pub ts : Bytes
  pub rows_cons : (x : X) → F.rows (cons x) row used ≡ rs ++ F.rows x (row + n) (used + length ts)
  pub strings_cons : (x : X) → F.strings (cons x) ≡ ts ++ F.strings x
  pub count_cons : (x : X) → F.count (cons x) ≡ n + F.count x
  pub parts_cons : (x : X) → F.parts (cons x) ≡ suc (F.parts x)
  pub size : length rs ≡ n * row_bytes
  pub rows : next ≡ row + n
  pub text : to ≡ used + length ts
  pub table : rows_part T₁ ≡ sets (rows_part T) (row * row_bytes) rs
  pub area : A₁ ≡ sets A used ts
  pub index : (x : X) (T₂ : Bytes) → Kept b T₁ T₂ → J x next T₂ → F.indexed (cons x) row T₂

-- So many items or members more.
abbrev pub counting : ℕ → Cursor → Cursor
counting n c = cursor c.at c.row c.used (c.count + n)

abbrev pub shift : ℕ → Step → Step
shift n (Ok c) = Ok (counting n c)
shift n (Err f) = Err f

module _ {X : Type 0} {F : Form X} {J : Index X} {b : ℕ → Type 0} {row used : ℕ} {T A : Bytes} {next to : ℕ} {T₁ A₁ : Bytes} {cons : X → X}
    (h : Front F J b row used T A next to T₁ A₁ cons) where
  joined : (x : X) {s u : Bytes} {q : ℕ} {c : Cursor} {T₂ A₂ : Bytes} → Wrote (with_index F J) s next to T₁ A₁ x u q c T₂ A₂ → Kept b T₁ T₂
      → Wrote F s row used T A (cons x) u q (counting 1 c) T₂ A₂
  unfolding row_bytes
  joined x {T₂ = T₂} w k =
      let i : (row + h.n) * row_bytes ≡ row * row_bytes + length h.rs = omega (arith, h.size) in
      record {
        place = w.place;
        left = w.left;
        rows = w.rows ∙ rw h.count_cons (omega (arith, h.rows));
        text = w.text ∙ rw (h.strings_cons, length-append) (omega (arith, h.text));
        parts = rw h.parts_cons (omega (arith, w.parts));
        table = w.table ∙ (λ k. sets (h.table k) (h.rows k * row_bytes) (F.rows x (h.rows k) (h.text k)))
            ∙ ap (λ (y : ℕ). sets (sets (rows_part T) (row * row_bytes) h.rs) y (F.rows x (row + h.n) (used + length h.ts))) i
            ∙ sets_append h.rs (F.rows x (row + h.n) (used + length h.ts)) (rows_part T) (row * row_bytes)
            ∙ ap (sets (rows_part T) (row * row_bytes)) (sym (h.rows_cons x));
        area = w.area ∙ (λ k. sets (h.area k) (h.text k) (F.strings x)) ∙ sets_append h.ts (F.strings x) A used ∙ ap (sets A used) (sym (h.strings_cons x));
        index = h.index x T₂ k w.index;
      }

  single : (x : X) {s : Bytes} (q : ℕ) → F.rows x (row + h.n) (used + length h.ts) ≡ [] → F.strings x ≡ [] → F.count x ≡ 0 → F.parts x ≡ 0 → J x next T₁
      → Wrote F s row used T A (cons x) (drop q s) q (cursor q next to 1) T₁ A₁
  single x q r t c p j = record {
    place = refl;
    left = refl;
    rows = rw h.count_cons (omega (arith, h.rows));
    text = rw (h.strings_cons, t, append-nil) h.text;
    parts = rw (h.parts_cons, p);
    table = rw (h.rows_cons, r, append-nil) h.table;
    area = rw (h.strings_cons, t, append-nil) h.area;
    index = h.index x T₁ (λ e _ _. refl) j;
  }

-- What holds between two places of the loop. From the first on the entries of the rows b stay, from the second on those of b'.
pub record Onward (b b' : ℕ → Type 0) (s : Bytes) (at row used : ℕ) (T : Bytes) (here next to : ℕ) (T₁ : Bytes) : Type 0 where
  pub on : at < here
  pub inside : here ≤ length s
  pub text : to ≤ here
  pub more : used ≤ to
  pub rows : next ≤ max_values
  pub less : row < next
  pub kept : Kept b T T₁
  pub still : (e : ℕ) → b e → b' e

-- One more part was read, and the rest follows.
pub record More {X : Type 0} (F : Form X) (J : Index X) (b : ℕ → Type 0) (m m' : Parser X) (s : Bytes) (at row used : ℕ) (T A : Bytes) (here next to : ℕ) (T₁ A₁ : Bytes) : Type 0 where
  pub cons : X → X
  pub front : Front F J b row used T A next to T₁ A₁ cons
  pub is : m (drop at s) at ≡ then (m' (drop here s) here) (λ x. give (cons x))

-- One more part was read, and it is the last.
pub record Last {X : Type 0} (F : Form X) (J : Index X) (b : ℕ → Type 0) (m : Parser X) (s : Bytes) (at row used : ℕ) (T A : Bytes) (here next to : ℕ) (T₁ A₁ : Bytes) : Type 0 where
  pub cons : X → X
  pub front : Front F J b row used T A next to T₁ A₁ cons
  pub nil : X
  pub none : (at used : ℕ) → F.rows nil at used ≡ []
  pub empty : F.strings nil ≡ []
  pub count : F.count nil ≡ 0
  pub parts : F.parts nil ≡ 0
  pub index : J nil next T₁
  pub is : m (drop at s) at ≡ ok (cons nil) (drop here s) here

module _ {X : Type 0} {F : Form X} {J : Index X} {m : ℕ → Parser X} {b b' : ℕ → Type 0} {s : Bytes} {at row used : ℕ} {T A : Bytes} {here next to : ℕ} {T₁ A₁ : Bytes}
    (w : Onward b b' s at row used T here next to T₁) where
  pub last : ((f : ℕ) → 2 * (length s - at) + 1 ≤ f → Last F J b' (m (suc f)) s at row used T A here next to T₁ A₁)
      → Reads F m 1 b s at row used T A (Ok (cursor here next to 1)) T₁ A₁
  last g =
      reads_ok
      (record { on = w.on; inside = w.inside; text = w.text; more = w.more; rows = w.rows; less = w.less; count = omega arith; kept = w.kept })
      (fuelled (λ (f : ℕ). Got F s row used T A (m f (drop at s) at) (cursor here next to 1) T₁ A₁) (2 * (length s - at) + 1)
      (λ f l. let o = g f l in
      record { x = o.cons o.nil; is = o.is; wrote = single o.front o.nil here (o.none (row + o.front.n) (used + length o.front.ts)) o.empty o.count o.parts o.index }))

  pub more : {m' : ℕ → Parser X} (t : Step) {T₂ A₂ : Bytes} → ((f : ℕ) → 2 * (length s - at) + 1 ≤ f → More F J b' (m (suc f)) (m' f) s at row used T A here next to T₁ A₁)
      → Reads (with_index F J) m' 1 b' s here next to T₁ A₁ t T₂ A₂ → Reads F m 1 b s at row used T A (shift 1 t) T₂ A₂
  unfolding then give
  more (Ok c) {T₂} {A₂} g h =
      let safe = h.safe in
      reads_ok
      (record {
        on = omega arith;
        inside = safe.inside;
        text = safe.text;
        more = omega arith;
        rows = safe.rows;
        less = omega arith;
        count = omega arith;
        kept = λ e o p. safe.kept e o (w.still e p) ∙ w.kept e o p;
      })
      (fuelled (λ (f : ℕ). Got F s row used T A (m f (drop at s) at) (counting 1 c) T₂ A₂) (2 * (length s - at) + 1)
      (λ f l. let o = g f l in
      let r = got_at h f (omega arith) in
      record { x = o.cons r.x; is = o.is ∙ ap (λ (p : Parsed X). then p (λ x. give (o.cons x))) r.is; wrote = joined o.front r.x r.wrote safe.kept }))
  more (Err x) g h =
      reads_bad
      (fuelled (λ (f : ℕ). Gone (m f (drop at s) at) x) (2 * (length s - at) + 1)
      (λ f l. let o = g f l in
      gone_then (λ _ _ e. o.is ∙ ap (λ (p : Parsed X). then p (λ x. give (o.cons x))) e) (gone_at h f (omega arith))))

-- ---- the invariant
-- m is the parser from the first part on, m' that from `here` on; b and b' the rows whose entries stay. What follows is indexed by J.
pub record Inv {X : Type 0} (F : Form X) (J : Index X) (m m' : ℕ → Parser X) (b b' : ℕ → Type 0) (s : Bytes) (at row used : ℕ) (T A T₁ A₁ : Bytes) (here next to count : ℕ) : Type 0 where
  pub on : at ≤ here
  pub inside : here ≤ length s
  pub text : to ≤ here
  pub rows : next ≤ max_values
  pub order : row ≤ next
  pub counted : row + count ≤ next
  pub same_t : length T₁ ≡ length T
  pub same_a : length A₁ ≡ length A
  pub rest : (t : Step) (T₂ A₂ : Bytes) → Reads (with_index F J) m' 1 b' s here next to T₁ A₁ t T₂ A₂ → Reads F m 1 b s at row used T A (shift count t) T₂ A₂

pub inv_start : {X : Type 0} (F : Form X) {J : Index X} {m : ℕ → Parser X} {b b' : ℕ → Type 0} {s : Bytes} {at row used : ℕ} {T A : Bytes}
    → at ≤ length s → used ≤ at → row ≤ max_values → ((e : ℕ) → b e → b' e) → Inv (with_index F J) J m m b b' s at row used T A T A at row used 0
inv_start F {J} {m} {b} {b'} {s} {at} {row} {used} {T} {A} l u r k = record {
  on = omega arith;
  inside = l;
  text = u;
  rows = r;
  order = omega arith;
  counted = omega arith;
  same_t = refl;
  same_a = refl;
  rest = λ t T₂ A₂ h. none t T₂ A₂ (fewer k h);
}
  where
    none : (t : Step) (T₂ A₂ : Bytes) → Reads (with_index F J) m 1 b s at row used T A t T₂ A₂ → Reads (with_index F J) m 1 b s at row used T A (shift 0 t) T₂ A₂
    none (Ok c) T₂ A₂ h = subst⁻¹ (λ (n : ℕ). Reads (with_index F J) m 1 b s at row used T A (Ok (cursor c.at c.row c.used n)) T₂ A₂) (omega arith) h
    none (Err f) T₂ A₂ h = h

module _ {X : Type 0} {F : Form X} {J : Index X} {m m' : ℕ → Parser X} {b b' : ℕ → Type 0} {s : Bytes} {at row used : ℕ} {T A T₁ A₁ : Bytes} {here next to count : ℕ}
    (inv : Inv F J m m' b b' s at row used T A T₁ A₁ here next to count) where
  pub loop_bad : {x : Fault} {T₂ A₂ : Bytes} → ((f : ℕ) → 2 * (length s - here) + 1 ≤ f → Gone (m' (suc f) (drop here s) here) x)
      → Reads F m 1 b s at row used T A (Err x) T₂ A₂
  loop_bad {x} {T₂} {A₂} g =
      inv.rest (Err x) T₂ A₂ (reads_bad (fuelled (λ (f : ℕ). Gone (m' f (drop here s) here) x) (2 * (length s - here) + 1) g))

  pub loop_last : {J'' : Index X} {b'' : ℕ → Type 0} {here₁ next₁ to₁ : ℕ} {T₂ A₂ : Bytes} → Onward b' b'' s here next to T₁ here₁ next₁ to₁ T₂
      → ((f : ℕ) → 2 * (length s - here) + 1 ≤ f → Last (with_index F J) J'' b'' (m' (suc f)) s here next to T₁ A₁ here₁ next₁ to₁ T₂ A₂)
      → Reads F m 1 b s at row used T A (Ok (cursor here₁ next₁ to₁ (count + 1))) T₂ A₂
  loop_last {here₁ = here₁} {next₁} {to₁} {T₂} {A₂} w g =
      subst (λ (n : ℕ). Reads F m 1 b s at row used T A (Ok (cursor here₁ next₁ to₁ n)) T₂ A₂) (omega arith) (inv.rest (Ok (cursor here₁ next₁ to₁ 1)) T₂ A₂ (last w g))

  pub loop_more : {J'' : Index X} {m'' : ℕ → Parser X} {b'' : ℕ → Type 0} {here₁ next₁ to₁ : ℕ} {T₂ A₂ : Bytes} → Onward b' b'' s here next to T₁ here₁ next₁ to₁ T₂ → length T₂ ≡ length T → length A₂ ≡ length A
      → ((f : ℕ) → 2 * (length s - here) + 1 ≤ f → More (with_index F J) J'' b'' (m' (suc f)) (m'' f) s here next to T₁ A₁ here₁ next₁ to₁ T₂ A₂)
      → Inv F J'' m m'' b b'' s at row used T A T₂ A₂ here₁ next₁ to₁ (count + 1)
  loop_more w lt la g = record {
    on = omega arith;
    inside = w.inside;
    text = w.text;
    rows = w.rows;
    order = omega arith;
    counted = omega arith;
    same_t = lt;
    same_a = la;
    rest = λ t T₃ A₃ h. both t T₃ A₃ (inv.rest (shift 1 t) T₃ A₃ (more w t g h));
  }
    where
      both : (t : Step) (T₃ A₃ : Bytes) → Reads F m 1 b s at row used T A (shift count (shift 1 t)) T₃ A₃ → Reads F m 1 b s at row used T A (shift (count + 1) t) T₃ A₃
      both (Ok c) T₃ A₃ h = subst (λ (n : ℕ). Reads F m 1 b s at row used T A (Ok (cursor c.at c.row c.used n)) T₃ A₃) (omega arith) h
      both (Err f) T₃ A₃ h = h
