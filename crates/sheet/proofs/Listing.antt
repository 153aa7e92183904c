-- Listing: the types that a sheet lists for a path.
use mathlib.Core.Path.{◌≡◌, refl, sym, ap, ◌∙◌}
use mathlib.Core.Bool.{Bool, true, false, cond}
use Rattle.std.specs.Prelude.{Some, None}
use Prim.Native.Nat.{ℕ, zero, suc, ◌-◌, ◌≤◌}
use native.Mathlib.Omega.{arith}
use Rattle.model.specs.Bytes.{Bytes, same_bytes}
use Rattle.model.specs.Lists.{find}
use Rattle.model.specs.Option.{or_else}
use Rattle.model.specs.Path.{Path, path_of, same_path}
use Rattle.model.specs.Sheet.{Sheet, entries_of}
use Rattle.model.specs.TypeCheck.{outside, var_types}
use Rattle.model.specs.Types.{Types, any_of_record}
use Rattle.model.specs.Value.{Value, Members}
use Rattle.model.proofs.Laws.Logic.{clash}
use Rattle.paths.specs.Contract.{row_named}
use Rattle.paths.specs.Laws.Loops.{no_member, some_member}
use Rattle.table.specs.declared.node.Node.{Node}
use Rattle.table.specs.declared.node.Node.TheVariants.{Object}
use Rattle.table.specs.declared.node.Rows.{Rows}
use Rattle.table.specs.Laws.Denotes.{ObjectParts}
use Rattle.table.specs.Node.{node_at, next_row, name_at, tail_of}
use Rattle.table.specs.Strings.{bytes_of}
use Rattle.type_set.specs.declared.set.TypeSet.{TypeSet}
use Rattle.type_set.specs.Contract.{set_of}
use Rattle.sheet.specs.ByRows.{name_in, types_at, types_among, listed_for}
use Rattle.sheet.specs.Contract.{ListsFor}
use Rattle.sheet.specs.Inner.{ListsTypes, ListsAmong}
use Rattle.sheet.proofs.Entries.{made, not_made, no_entries, Split, split}
use Rattle.sheet.proofs.Nodes.{NoObject, of_other}
use Rattle.sheet.proofs.Paths.{same_texts}

-- ---- the first entry, or a later one
either : (b : Bool) (q : Path) (ts : Types) (later : Sheet) → or_else (cond b (Some ts) (find (same_path q) later)) any_of_record ≡ cond b ts (var_types (outside later) q)
either true q ts later = refl
either false q ts later = refl

first_listed : (t name : Bytes) (v : Value) (ms : Members) (s : Sheet) (q : Path) → path_of t ≡ Some q → (x : Split name v ms s)
    → var_types (outside s) q ≡ cond (same_bytes t name) x.types (var_types (outside x.later) q)
first_listed t name v ms s q e x =
    ap (λ (z : Sheet). var_types (outside z) q) x.is
    ∙ ap (λ (b : Bool). or_else (cond b (Some x.types) (find (same_path q) x.later)) any_of_record) (same_texts t name q x.path e x.is_path_lem)
    ∙ either (same_bytes t name) q x.types x.later

-- ---- the first row and the others
-- By the first row's name, and the other rows.
first_row : (S Z t : Bytes) (q : Rows) {b : Bool} → 1 ≤ q.count → b ≡ same_bytes t (name_in S Z q.first)
    → cond b (types_at S Z q.first) (types_among S Z t (next_row S q.first) (q.count - 1)) ≡ types_among S Z t q.first q.count
first_row S Z t q l e =
    let m : q.count ≡ suc (q.count - 1) = omega arith in
    ap (λ (x : Bool). cond x (types_at S Z q.first) (types_among S Z t (next_row S q.first) (q.count - 1))) e ∙ sym (ap (types_among S Z t q.first) m)

abbrev Lists : Bytes → TypeSet → Members → Type 0
Lists t r ms = (s : Sheet) (q : Path) → entries_of ms ≡ Some s → path_of t ≡ Some q → r ≡ set_of (var_types (outside s) q)

module _ {S Z : Bytes} (t : Bytes) {q : Rows} where
  none_listed : {r : TypeSet} → q.count ≡ 0 → r ≡ set_of any_of_record → ListsAmong S Z t q r
  none_listed {r} n e = record { by_rows = rw n e; is = no_member (Lists t r) n (λ s p f g. e ∙ ap (λ (z : Sheet). set_of (var_types (outside z) p)) (no_entries s f)) }

  module _ (more : 1 ≤ q.count) {b : Bool} {name : Bytes} (is-test : b ≡ same_bytes t name) (is_name : name ≡ bytes_of Z (name_at S q.first)) where
    -- What is listed, by whether the first entry's path is this one.
    first_entry : (n : Bytes) (v : Value) (ms : Members) → ObjectParts S Z n v ms q → (s : Sheet) (p : Path) → path_of t ≡ Some p → (x : Split n v ms s)
        → var_types (outside s) p ≡ cond b x.types (var_types (outside x.later) p)
    first_entry n v ms y s p g x =
        let e : same_bytes t n ≡ b = rw (y.name, ← is_name, ← is-test) in
        first_listed t n v ms s p g x ∙ rw e

    path_listed : {r : TypeSet} → b ≡ true → ListsTypes S Z q.first r → ListsAmong S Z t q r
    path_listed {r} e x = record {
      by_rows = x.by_rows ∙ rw e at (first_row S Z t q more (is-test ∙ ap (same_bytes t) is_name));
      is = some_member (Lists t r) more (λ n v ms y s p f g.
          let z = split n v ms s f in
          x.is v z.types y.head z.is_types ∙ ap set_of (sym (rw e at (first_entry n v ms y s p g z))));
    }

    listed_on : {u : Rows} → b ≡ false → u ≡ tail_of S q → (r : TypeSet) → ListsAmong S Z t u r → ListsAmong S Z t q r
    listed_on e i r x = record {
      by_rows = rw i at x.by_rows ∙ rw e at (first_row S Z t q more (is-test ∙ ap (same_bytes t) is_name));
      is = some_member (Lists t r) more (λ n v ms y s p f g.
          let z = split n v ms s f in
          x.is ms (rw i y.rest) z.later p z.is_later g ∙ ap set_of (sym (rw e at (first_entry n v ms y s p g z))));
    }

-- ---- the row of the name
module _ (S Z t : Bytes) {r : TypeSet} where
  -- No entry has this path.
  row_none : (n : ℕ) (q : Rows) → q.count ≡ n → None ≡ row_named S Z t q.first n → r ≡ set_of any_of_record → ListsAmong S Z t q r
  row_none zero q e f g = none_listed t e g
  row_none (suc n) q e f g = go (same_bytes t (name_in S Z q.first)) refl f (λ h. row_none n (tail_of S q) (omega arith) h g)
    where
      go : (b : Bool) → b ≡ same_bytes t (name_in S Z q.first) → None ≡ cond b (Some q.first) (row_named S Z t (next_row S q.first) n)
          → (None ≡ row_named S Z t (next_row S q.first) n → ListsAmong S Z t (tail_of S q) r) → ListsAmong S Z t q r
      go true i f later = clash cc
      go false i f later = listed_on t (omega arith) i refl refl refl r (later f)

  -- The first with this path is in that row.
  row_there : (n : ℕ) (q : Rows) {row : ℕ} → q.count ≡ n → Some row ≡ row_named S Z t q.first n → ListsTypes S Z row r → ListsAmong S Z t q r
  row_there zero q e f x = clash cc
  row_there (suc n) q {row} e f x = go (same_bytes t (name_in S Z q.first)) refl f (λ h. row_there n (tail_of S q) (omega arith) h x)
    where
      go : (b : Bool) → b ≡ same_bytes t (name_in S Z q.first) → Some row ≡ cond b (Some q.first) (row_named S Z t (next_row S q.first) n)
          → (Some row ≡ row_named S Z t (next_row S q.first) n → ListsAmong S Z t (tail_of S q) r) → ListsAmong S Z t q r
      go true i f later = let g : row ≡ q.first = cc in path_listed t (omega arith) i refl refl (rw g at x)
      go false i f later = listed_on t (omega arith) i refl refl refl r (later f)

  pub none_named : (q : Rows) → None ≡ row_named S Z t q.first q.count → r ≡ set_of any_of_record → ListsAmong S Z t q r
  none_named q f g = row_none q.count q refl f g

  pub row_listed : (q : Rows) {row : ℕ} → Some row ≡ row_named S Z t q.first q.count → ListsTypes S Z row r → ListsAmong S Z t q r
  row_listed q f x = row_there q.count q refl f x

-- ---- the whole sheet
module _ {S Z t : Bytes} {n : Node} {r : TypeSet} (loaded : n ≡ node_at S 0) where
  pub lists_nothing : NoObject n → r ≡ set_of any_of_record → ListsFor S Z t r
  lists_nothing k e = record { by_rows = e ∙ of_other (set_of any_of_record) (λ q. types_among S Z t q.first q.count) n k ∙ ap (listed_for S Z t) loaded; is = λ s p holds e. not_made holds loaded k }

  pub lists_for : {q : Rows} → n ≡ Object q → ListsAmong S Z t q r → ListsFor S Z t r
  lists_for e x = record { by_rows = x.by_rows ∙ ap (listed_for S Z t) (sym e ∙ loaded); is = λ s p holds f. let y = made holds loaded e in x.is y.all y.denotes s p y.entries f }
