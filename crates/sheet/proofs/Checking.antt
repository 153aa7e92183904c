-- Checking: whether a read text is a sheet.
use mathlib.Core.Path.{◌≡◌, refl, sym, ap, ◌∙◌}
use mathlib.Core.Bool.{Bool, true, false, ◌&&◌, not}
use mathlib.Core.List.{◌∷◌}
use Rattle.std.specs.Prelude.{Option, None, Some}
use Prim.Native.Nat.{◌≤◌, ◌<◌}
use native.Mathlib.Omega.{arith}
use borrow.Author.Tests.{le-leb, lt-leb, not-true, not-false}
use lib.Dec.{leb}
use Rattle.model.specs.Bytes.{Bytes}
use Rattle.model.specs.Limits.{max_sheet_members}
use Rattle.model.specs.Option.{◌>>=◌, is_some}
use Rattle.model.specs.Path.{Path}
use Rattle.model.specs.Sheet.{Sheet, content_types, entry_path, entries_of, sheet_of}
use Rattle.model.specs.Types.{Types}
use Rattle.model.specs.Value.{Value, scalar, instant, array, object, Members, member, member_count}
use Rattle.paths.specs.Laws.Loops.{no_member, some_member}
use Rattle.table.specs.declared.node.Node.{Node}
use Rattle.table.specs.declared.node.Node.TheVariants.{Object}
use Rattle.table.specs.declared.node.Rows.{Rows}
use Rattle.table.specs.Denotes.{Denotes, denotes_object}
use Rattle.table.specs.Laws.Denotes.{ObjectParts, object_count}
use Rattle.table.specs.Node.{node_at, tail_of}
use Rattle.sheet.specs.ByRows.{entry_in, entries_in, sheet_in}
use Rattle.sheet.specs.Contract.{ChecksSheet}
use Rattle.sheet.specs.Inner.{ChecksEntry, ChecksEntries, ChecksObject}
use Rattle.sheet.proofs.Nodes.{NoObject, no_object, of_other}
use Rattle.sheet.proofs.Rows.{rows_end, rows_stop, rows_next}

-- ---- the member in a row
-- ---- all members
all_three : (o : Option Path) (c : Option Types) (l : Option Sheet) → is_some (o >>= (λ q. c >>= (λ ts. l >>= (λ es. Some ((q, ts) ∷ es))))) ≡ (is_some o && is_some c) && is_some l
all_three None c l = refl
all_three (Some q) None l = refl
all_three (Some q) (Some ts) None = refl
all_three (Some q) (Some ts) (Some es) = refl

abbrev Checks : Bool → Members → Type 0
Checks r ms = r ≡ is_some (entries_of ms)

module _ {S Z : Bytes} {q : Rows} where
  pub entries_end : q.count ≡ 0 → ChecksEntries S Z q true
  entries_end e = record { by_rows = rows_end (entry_in S Z) S q e; is = no_member (Checks true) e refl }

  module _ (more : 1 ≤ q.count) {b : Bool} (entry : ChecksEntry S Z q.first b) where
    first_entry : (n : Bytes) (v : Value) (ms : Members) → ObjectParts S Z n v ms q → b && is_some (entries_of ms) ≡ is_some (entries_of (member n v ms))
    first_entry n v ms p =
        let e : b ≡ is_some (entry_path n) && is_some (content_types v) = rw p.name (entry.is v p.head) in
        ap (λ (x : Bool). x && is_some (entries_of ms)) e ∙ sym (all_three (entry_path n) (content_types v) (entries_of ms))

    pub no_entry : not b ≡ true → ChecksEntries S Z q false
    no_entry e = record { by_rows = rows_stop (entry_in S Z) S q more entry.by_rows (not-true b e); is = some_member (Checks false) more (λ n v ms p. rw (not-true b e) at (first_entry n v ms p)) }

    pub entries_on : {t : Rows} → not b ≡ false → t ≡ tail_of S q → (r : Bool) → ChecksEntries S Z t r → ChecksEntries S Z q r
    entries_on e f r x = record { by_rows = rows_next (entry_in S Z) S q more entry.by_rows (not-false b e) f x.by_rows; is = some_member (Checks r) more (λ n v ms p. x.is ms (rw f p.rest) ∙ rw (not-false b e) at (first_entry n v ms p)) }

  pub too_many : 256 < q.count → ChecksObject S Z q (leb q.count 256)
  unfolding max_sheet_members
  too_many l = record {
    by_rows = rw (lt-leb q.count 256 l);
    is = λ ms d.
        let e : leb (member_count ms) 256 ≡ false = lt-leb (member_count ms) 256 (omega (arith, object_count d)) in
        rw (e, lt-leb q.count 256 l);
  }

  pub few_enough : {r : Bool} → q.count ≤ 256 → ChecksEntries S Z q r → ChecksObject S Z q r
  unfolding max_sheet_members
  few_enough l x = record {
    by_rows = rw (le-leb q.count 256 l) x.by_rows;
    is = λ ms d.
        let e : leb (member_count ms) 256 ≡ true = le-leb (member_count ms) 256 (omega (arith, object_count d)) in
        rw e (x.is ms d);
  }

-- ---- the whole text
pub no_sheet : (S Z : Bytes) (n : Node) (v : Value) → NoObject n → Denotes S Z v n → sheet_of v ≡ None
unfolding sheet_of
no_sheet S Z n (scalar x) k d = refl
no_sheet S Z n (instant t) k d = refl
no_sheet S Z n (array vs) k d = refl
no_sheet S Z n (object ms) k d = no_object k d

module _ {S Z : Bytes} {n : Node} (loaded : n ≡ node_at S 0) where
  pub other_no_sheet : NoObject n → ChecksSheet S Z false
  other_no_sheet k = record { by_rows = of_other false (entries_in S Z) n k ∙ ap (sheet_in S Z) loaded; is = λ v d. ap is_some (sym (no_sheet S Z n v k (rw loaded d))) }

  pub object_sheet : {q : Rows} {r : Bool} → n ≡ Object q → ChecksObject S Z q r → ChecksSheet S Z r
  unfolding sheet_of
  object_sheet {q} {r} e x = record { by_rows = x.by_rows ∙ ap (sheet_in S Z) (sym e ∙ loaded); is = λ v d. go v (rw (← e, loaded) d) }
    where
      go : (v : Value) → Denotes S Z v (Object q) → r ≡ is_some (sheet_of v)
      go v (denotes_object {ms = ms} c m d) = x.is ms (denotes_object c m d)
