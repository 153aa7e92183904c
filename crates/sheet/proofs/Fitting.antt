-- Fitting: whether a record fits a sheet.
use mathlib.Core.Path.{◌≡◌, sym, ap, ap₂, ◌∙◌}
use mathlib.Core.Bool.{Bool, true, false, ◌&&◌, not}
use Rattle.std.specs.Prelude.{Some}
use Prim.Native.Nat.{◌≤◌}
use borrow.Author.Tests.{not-true, not-false}
use Rattle.model.specs.Bytes.{Bytes}
use Rattle.model.specs.Path.{path_of, value_at}
use Rattle.model.specs.Sheet.{Sheet, entries_of, fits}
use Rattle.model.specs.Types.{has_type}
use Rattle.model.specs.Value.{Value, Members}
use Rattle.paths.specs.Contract.{Leads, node_along, fragments}
use Rattle.paths.specs.Laws.Loops.{no_member, some_member}
use Rattle.table.specs.declared.node.Node.{Node}
use Rattle.table.specs.declared.node.Node.TheVariants.{Object}
use Rattle.table.specs.declared.node.Rows.{Rows}
use Rattle.table.specs.Denotes.{Denotes}
use Rattle.table.specs.Laws.Denotes.{ObjectParts}
use Rattle.table.specs.Node.{node_at, name_at, tail_of}
use Rattle.table.specs.Strings.{bytes_of}
use Rattle.type_set.specs.declared.set.TypeSet.{TypeSet}
use Rattle.type_set.specs.Laws.Set.{has_type_set}
use Rattle.type_set.specs.Contract.{types_in}
use Rattle.sheet.specs.ByRows.{belongs_in, fits_at, member_fits, members_fit, fits_in}
use Rattle.sheet.specs.Contract.{Belongs, Fits}
use Rattle.sheet.specs.Inner.{ListsTypes, FitsEntry, FitsAll}
use Rattle.sheet.proofs.Entries.{made, not_made, no_entries, Split, split}
use Rattle.sheet.proofs.Nodes.{NoObject, of_other}
use Rattle.sheet.proofs.Rows.{rows_end, rows_stop, rows_next}

-- ---- one entry
pub fits_entry_lem : {t R B : Bytes} {set : TypeSet} {n m : Node} {r : Bool} → n ≡ node_at R 0 → Leads t R B n m → Belongs set R B m r → FitsEntry t set R B r
fits_entry_lem {t} {R} {B} {set} e l b = record { by_rows = b.by_rows ∙ ap (belongs_in set R B) (l.is ∙ ap (node_along R B (fragments t)) e); is = λ p c f d. b.is (value_at p c) (l.leads p c f (rw e d)) }

-- ---- the loop
abbrev AllFit : Bytes → Bytes → Bool → Members → Type 0
AllFit R B r ms = (s : Sheet) (c : Value) → entries_of ms ≡ Some s → Denotes R B c (node_at R 0) → r ≡ fits s c

module _ {S Z R B : Bytes} {q : Rows} where
  pub fit_end : q.count ≡ 0 → FitsAll S Z q R B true
  fit_end n = record { by_rows = rows_end (member_fits S Z R B) S q n; is = no_member (AllFit R B true) n (λ s c f k. ap (λ (z : Sheet). fits z c) (no_entries s f)) }

  module _ (more : 1 ≤ q.count) {t : Bytes} {set : TypeSet} {b : Bool} (is_name : t ≡ bytes_of Z (name_at S q.first)) (lists : ListsTypes S Z q.first set) (entry : FitsEntry t set R B b) where
    is_first : b ≡ member_fits S Z R B q.first
    is_first = entry.by_rows ∙ ap₂ (λ (x : TypeSet) (y : Bytes). fits_at x y R B) lists.by_rows is_name

    first_fits : (n : Bytes) (v : Value) (ms : Members) → ObjectParts S Z n v ms q → (s : Sheet) (c : Value) → Denotes R B c (node_at R 0) → (z : Split n v ms s) → b && fits z.later c ≡ fits s c
    first_fits n v ms y s c k z =
        let i : path_of t ≡ Some z.path = rw (is_name, ← y.name) z.is_path_lem in
        let j : has_type (types_in set) (value_at z.path c) ≡ has_type z.types (value_at z.path c) = rw (lists.is v z.types y.head z.is_types) (has_type_set z.types (value_at z.path c)) in
        ap (λ (x : Bool). x && fits z.later c) (entry.is z.path c i k ∙ j) ∙ ap (λ (y : Sheet). fits y c) (sym z.is)

    pub one_unfit : not b ≡ true → FitsAll S Z q R B false
    one_unfit e = record { by_rows = rows_stop (member_fits S Z R B) S q more is_first (not-true b e); is = some_member (AllFit R B false) more (λ n v ms y s c f k. rw (not-true b e) at (first_fits n v ms y s c k (split n v ms s f))) }

    pub fit_on : {u : Rows} → not b ≡ false → u ≡ tail_of S q → (r : Bool) → FitsAll S Z u R B r → FitsAll S Z q R B r
    fit_on e i r x = record {
      by_rows = rows_next (member_fits S Z R B) S q more is_first (not-false b e) i x.by_rows;
      is = some_member (AllFit R B r) more (λ n v ms y s c f k.
          let z = split n v ms s f in
          x.is ms (rw i y.rest) z.later c z.is_later k ∙ rw (not-false b e) at (first_fits n v ms y s c k z));
    }

-- ---- the whole sheet
module _ {S Z R B : Bytes} {n : Node} (loaded : n ≡ node_at S 0) where
  pub fits_nothing : NoObject n → Fits S Z R B true
  fits_nothing k = record { by_rows = of_other true (members_fit S Z R B) n k ∙ ap (fits_in S Z R B) loaded; is = λ s c holds d. not_made holds loaded k }

  pub fits_all : {q : Rows} {r : Bool} → n ≡ Object q → FitsAll S Z q R B r → Fits S Z R B r
  fits_all e x = record { by_rows = x.by_rows ∙ ap (fits_in S Z R B) (sym e ∙ loaded); is = λ s c holds d. let y = made holds loaded e in x.is y.all y.denotes s c y.entries d }
