-- Told: what the viewer tells of any bytes: a row that is told is there and has the form; what it says of strings, integers and parts lies within bounds.
use Rattle.std.specs.Prelude.{◌≡◌, Bool, true, false, ◌&&◌, cond, T, ltb, leb, eqb, ℤ}
use Rattle.std.proofs.Math.Path.{refl, subst}
use Rattle.std.proofs.Common.{sym, ap, ◌∙◌, lt-ltb, le-ltb, ltb-true, eqb-true, ne_eqb, le-leb, ltb→lt, leb→le}
use Rattle.std.specs.Prelude.{Option, None, Some}
use Prim.Native.Nat.{ℕ, zero, suc, ◌+◌, ◌-◌, ◌≤◌, ◌<◌}
use Rattle.std.proofs.Math.Decide.{dec_lt}
use native.Mathlib.Omega.{arith}
use Rattle.std.proofs.lemmas.Bool.{lt-leb}
use Rattle.model.specs.Bytes.{Bytes}
use Rattle.model.proofs.Laws.Logic.{and_l, and_r, clash}
use Rattle.model.specs.Limits.{max_integer}
use Rattle.model.specs.Option.{◌>>=◌}
use Rattle.model.specs.Value.{within_limits}
use Rattle.syntax.specs.Layout.{strings_bytes, unbiased}
use Rattle.table.specs.declared.row.Row.{Row}
use Rattle.table.specs.declared.row.Span.{Span}
use Rattle.viewer.specs.Answer.{Seen, seen_of, name_of, integer_of, string_of}
use Rattle.viewer.specs.Form.{is_within, is_integer, is_span, has_content, has_form}
use Rattle.table.specs.Row.{numbers_at, joined}
use Rattle.viewer.specs.Row.{row_count, count_of, end_of}
use Rattle.viewer.specs.Inside.{Inside}
use Rattle.viewer.specs.View.{row_seen, next_of, next_within, nth_within, part_of_row, part_seen}

-- ---- a row that is told
pub record Told (table : Bytes) (place : ℕ) (r : Row) : Type 0 where
  pub there : place < row_count table
  pub numbers : numbers_at table place ≡ r
  pub form : T (has_form (row_count table) place r)

pub told : (table : Bytes) (place : ℕ) (r : Row) → row_seen table place ≡ Some r → Told table place r
told table place r e = choose (ltb place (row_count table)) (has_form (row_count table) place (numbers_at table place)) refl refl e
  where
    choose : (a b : Bool) → ltb place (row_count table) ≡ a → has_form (row_count table) place (numbers_at table place) ≡ b
        → cond (a && b) (Some (numbers_at table place)) None ≡ Some r → Told table place r
    choose true true p q f =
        let g : numbers_at table place ≡ r = cc in
        record { there = ltb-true place (row_count table) p; numbers = g; form = subst (λ (s : Row). T (has_form (row_count table) place s)) g (rw q tt) }
    choose true false p q f = clash cc
    choose false b p q f = clash cc

module _ (n place : ℕ) (r : Row) (h : T (has_form n place r)) where
  pub form_name : r.name.start + r.name.size ≤ strings_bytes
  form_name = leb→le _ strings_bytes (and_l (is_within r.name.start r.name.size) (has_content n place r) h)

  pub form_content : T (has_content n place r)
  form_content = and_r (is_within r.name.start r.name.size) (has_content n place r) h

  pub form_integer : r.kind ≡ 4 → T (is_integer (joined r))
  form_integer e = rw e at form_content

  pub form_string : r.kind ≡ 5 → r.first + r.second ≤ strings_bytes
  form_string e = leb→le _ strings_bytes (rw e at form_content)

  -- A container is a span of rows.
  pub form_span : 6 ≤ r.kind → T (is_span n place r.first r.second)
  form_span l =
      only (ltb r.kind 8)
      (rw (ne_eqb r.kind 0 (λ e. omega arith), le-ltb r.kind 4 (omega arith), ne_eqb r.kind 4 (λ e. omega arith), ne_eqb r.kind 5 (λ e. omega arith)) at form_content)
    where
      only : (b : Bool) → T (cond b (is_span n place r.first r.second) false) → T (is_span n place r.first r.second)
      only true p = p
      only false p = absurd p

  -- The value in a row of the form ends behind its place, within the rows.
  pub form_behind : place < n → (place < end_of place r) × (end_of place r ≤ n)
  form_behind there = go (dec_lt r.kind 6)
    where
      go : Dec (r.kind < 6) → (place < end_of place r) × (end_of place r ≤ n)
      go (yes p) = rw (lt-ltb r.kind 6 p) (omega arith, omega arith)
      go (no p) =
          let l : 6 ≤ r.kind = omega arith in
          let s = and_l (ltb place r.second && leb r.second n) (cond (eqb r.first 0) (eqb r.second (place + 1)) (leb r.first (r.second - (place + 1)))) (form_span l) in
          rw (le-ltb r.kind 6 l) (ltb→lt place r.second (and_l (ltb place r.second) (leb r.second n) s), leb→le r.second n (and_r (ltb place r.second) (leb r.second n) s))

  -- The kind is one of the seven.
  pub form_kind : (1 ≤ r.kind) × (r.kind ≤ 7)
  form_kind = go (eqb r.kind 0) refl (dec_lt r.kind 8)
    where
      go : (b : Bool) → eqb r.kind 0 ≡ b → Dec (r.kind < 8) → (1 ≤ r.kind) × (r.kind ≤ 7)
      go true e l = absurd (rw e at form_content)
      go false e (yes l) = (positive r.kind e, omega arith)
        where
          positive : (k : ℕ) → eqb k 0 ≡ false → 1 ≤ k
          positive zero e = clash cc
          positive (suc k) e = omega arith
      go false e (no l) = absurd (rw (e, le-ltb r.kind 4 (omega arith), ne_eqb r.kind 4 (λ f. omega arith), ne_eqb r.kind 5 (λ f. omega arith), le-ltb r.kind 8 (omega arith)) at form_content)

  -- A container has fewer parts than there are rows.
  pub form_count : place < n → count_of r < n
  form_count there = go (dec_lt r.kind 6)
    where
      counted : (b : Bool) → eqb r.first 0 ≡ b → r.second ≤ n → T (cond b (eqb r.second (place + 1)) (leb r.first (r.second - (place + 1)))) → r.first < n
      counted true e l t = let z = eqb-true r.first 0 e in omega arith
      counted false e l t = omega (arith, leb→le r.first (r.second - (place + 1)) t)

      go : Dec (r.kind < 6) → count_of r < n
      go (yes p) = rw (lt-ltb r.kind 6 p) (omega arith)
      go (no p) =
          let l : 6 ≤ r.kind = omega arith in
          let whole = form_span l in
          let s = and_l (ltb place r.second && leb r.second n) (cond (eqb r.first 0) (eqb r.second (place + 1)) (leb r.first (r.second - (place + 1)))) whole in
          rw (le-ltb r.kind 6 l) (counted (eqb r.first 0) refl (leb→le r.second n (and_r (ltb place r.second) (leb r.second n) s)) (and_r (ltb place r.second && leb r.second n) _ whole))

-- ---- kinds and counts, names, strings and integers
some_same : {A : Type 0} {a b : A} → Some a ≡ Some b → a ≡ b
some_same e = cc

pub kind_within : (table : Bytes) (place : ℕ) (s : Seen) → seen_of (row_seen table place) ≡ Some s → (1 ≤ s.kind) × (s.kind ≤ 7) × (s.count < row_count table)
kind_within table place s e = go (row_seen table place) refl e
  where
    go : (a : Option Row) → row_seen table place ≡ a → seen_of a ≡ Some s → (1 ≤ s.kind) × (s.kind ≤ 7) × (s.count < row_count table)
    go (Some r) f g =
        let t = told table place r f in
        let k = form_kind (row_count table) place r t.form in
        subst (λ (q : Seen). (1 ≤ q.kind) × (q.kind ≤ 7) × (q.count < row_count table)) (some_same g) (k.0, k.1, form_count (row_count table) place r t.form t.there)
    go None f g = clash cc

pub name_within : (table : Bytes) (place : ℕ) (p : Span) → name_of (row_seen table place) ≡ Some p → p.start + p.size ≤ strings_bytes
name_within table place p e = go (row_seen table place) refl e
  where
    go : (a : Option Row) → row_seen table place ≡ a → name_of a ≡ Some p → p.start + p.size ≤ strings_bytes
    go (Some r) f g = subst (λ (q : Span). q.start + q.size ≤ strings_bytes) (some_same g) (form_name (row_count table) place r (told table place r f).form)
    go None f g = clash cc

pub string_within : (table : Bytes) (place : ℕ) (p : Span) → string_of (row_seen table place) ≡ Some p → p.start + p.size ≤ strings_bytes
string_within table place p e = go (row_seen table place) refl e
  where
    kind : (r : Row) → row_seen table place ≡ Some r → (b : Bool) → eqb r.kind 5 ≡ b → cond b (Some (record { start = r.first; size = r.second })) None ≡ Some p → p.start + p.size ≤ strings_bytes
    kind r f true k g = subst (λ (q : Span). q.start + q.size ≤ strings_bytes) (some_same g) (form_string (row_count table) place r (told table place r f).form (eqb-true r.kind 5 k))
    kind r f false k g = clash cc

    go : (a : Option Row) → row_seen table place ≡ a → string_of a ≡ Some p → p.start + p.size ≤ strings_bytes
    go (Some r) f g = kind r f (eqb r.kind 5) refl g
    go None f g = clash cc

-- A number in a row of an integer that has the form is that of an integer within the limits.
pub integer_form : (n : ℕ) → T (is_integer n) → T (within_limits (unbiased n))
unfolding unbiased max_integer
integer_form n h = go (dec_lt n 9007199254740992)
  where
    low : 1 ≤ n
    low = leb→le 1 n (and_l (leb 1 n) (leb n 18014398509481983) h)

    high : n ≤ 18014398509481983
    high = leb→le n 18014398509481983 (and_r (leb 1 n) (leb n 18014398509481983) h)

    go : Dec (n < 9007199254740992) → T (within_limits (unbiased n))
    go (yes p) = let k : 9007199254740991 - n ≤ 9007199254740990 = omega (arith, low) in rw (unbiased, lt-leb 9007199254740992 n p, le-leb (9007199254740991 - n) 9007199254740990 k) tt
    go (no p) = let k : n - 9007199254740992 ≤ 9007199254740991 = omega (arith, high) in rw (unbiased, le-leb 9007199254740992 n (omega arith), le-leb (n - 9007199254740992) 9007199254740991 k) tt

pub integer_within : (table : Bytes) (place : ℕ) (z : ℤ) → integer_of (row_seen table place) ≡ Some z → T (within_limits z)
integer_within table place z e = go (row_seen table place) refl e
  where
    kind : (r : Row) → row_seen table place ≡ Some r → (b : Bool) → eqb r.kind 4 ≡ b → cond b (Some (unbiased (joined r))) None ≡ Some z → T (within_limits z)
    kind r f true k g = subst (λ (y : ℤ). T (within_limits y)) (some_same g) (integer_form (joined r) (form_integer (row_count table) place r (told table place r f).form (eqb-true r.kind 4 k)))
    kind r f false k g = clash cc

    go : (a : Option Row) → row_seen table place ≡ a → integer_of a ≡ Some z → T (within_limits z)
    go (Some r) f g = kind r f (eqb r.kind 4) refl g
    go None f g = clash cc

-- ---- parts
-- A part lies behind its container, and it ends within it.
module _ (table : Bytes) (end : ℕ) where
  next_inside : (place next : ℕ) → next_within table end place ≡ Some next → Inside table place end × (next ≡ end_of place (numbers_at table place)) × (place < next)
  next_inside place next e = go (row_seen table place) refl e
    where
      test : (r : Row) → row_seen table place ≡ Some r → (b : Bool) → leb (end_of place r) end ≡ b → cond b (Some (end_of place r)) None ≡ Some next → Inside table place end × (next ≡ end_of place (numbers_at table place)) × (place < next)
      test r f true k g =
          let t = told table place r f in
          let n : next ≡ end_of place (numbers_at table place) = sym (some_same g) ∙ ap (end_of place) (sym t.numbers) in
          let l = form_behind (row_count table) place r t.form t.there in
          (record { there = t.there; ends = subst (λ (q : Row). end_of place q ≤ end) (sym t.numbers) (leb→le (end_of place r) end (rw k tt)) }, n, subst (λ (m : ℕ). place < m) (some_same g) l.0)
      test r f false k g = clash cc

      go : (a : Option Row) → row_seen table place ≡ a → next_of end place a ≡ Some next → Inside table place end × (next ≡ end_of place (numbers_at table place)) × (place < next)
      go (Some r) f g = test r f (leb (end_of place r) end) refl g
      go None f g = clash cc

  nth_inside : (n place p : ℕ) → nth_within table end n place ≡ Some p → (place ≤ p) × Inside table p end
  unfolding nth_within
  nth_inside zero place p e = go (next_within table end place) refl e
    where
      go : (o : Option ℕ) → next_within table end place ≡ o → o >>= (λ _. Some place) ≡ Some p → (place ≤ p) × Inside table p end
      go (Some next) f g = let q : place ≡ p = some_same g in (omega arith, subst (λ (k : ℕ). Inside table k end) q (next_inside place next f).0)
      go None f g = clash cc
  nth_inside (suc n) place p e = go (λ next. nth_inside n next p) (next_within table end place) refl e
    where
      go : ((next : ℕ) → nth_within table end n next ≡ Some p → (next ≤ p) × Inside table p end) → (o : Option ℕ) → next_within table end place ≡ o → o >>= nth_within table end n ≡ Some p → (place ≤ p) × Inside table p end
      go later (Some next) f g = let l = later next g in (omega (arith, l.0, (next_inside place next f).2), l.1)
      go later None f g = clash cc

pub part_inside : (table : Bytes) (place nth p : ℕ) → part_seen table place nth ≡ Some p → (place < p) × Inside table p (end_of place (numbers_at table place))
part_inside table place nth p e = go (row_seen table place) refl e
  where
    found : (r : Row) (o : Option ℕ) → nth_within table r.second nth (place + 1) ≡ o → o ≡ Some p → (place < p) × Inside table p r.second
    found r (Some q) f g = let b = nth_inside table r.second nth (place + 1) p (f ∙ g) in (omega (arith, b.0), b.1)
    found r None f g = clash cc

    -- It has a part, so it is a container.
    container : (r : Row) → nth < count_of r → end_of place r ≡ r.second
    container r l = kind (ltb r.kind 6) l
      where
        kind : (b : Bool) → nth < cond b 0 r.first → cond b (place + 1) r.second ≡ r.second
        kind true l = absurd (omega arith)
        kind false l = refl

    test : (r : Row) → row_seen table place ≡ Some r → (b : Bool) → ltb nth (count_of r) ≡ b → cond b (nth_within table r.second nth (place + 1)) None ≡ Some p → (place < p) × Inside table p (end_of place (numbers_at table place))
    test r f true k g =
        let end : r.second ≡ end_of place (numbers_at table place) = sym (container r (ltb-true nth (count_of r) k)) ∙ ap (end_of place) (sym (told table place r f).numbers) in
        let q = found r (nth_within table r.second nth (place + 1)) refl g in
        (q.0, subst (Inside table p) end q.1)
    test r f false k g = clash cc

    go : (a : Option Row) → row_seen table place ≡ a → part_of_row table place nth a ≡ Some p → (place < p) × Inside table p (end_of place (numbers_at table place))
    go (Some r) f g = test r f (ltb nth (count_of r)) refl g
    go None f g = clash cc
