-- Entries: a sheet's entries and the members that they are made of.
use mathlib.Core.Path.{◌≡◌, sym, ap, ◌∙◌}
use mathlib.Core.List.{[], ◌∷◌}
use Rattle.std.specs.Prelude.{Option, Some}
use Prim.Native.Nat.{ℕ}
use lib.Dec.{leb}
use Rattle.model.specs.Bytes.{Bytes}
use Rattle.model.specs.Limits.{max_sheet_members}
use Rattle.model.specs.Path.{Path, path_of}
use Rattle.model.specs.Sheet.{Sheet, non_empty, content_types, entry_path, entries_of, sheet_of}
use Rattle.model.specs.Types.{Types}
use Rattle.model.specs.Value.{Value, scalar, instant, array, object, Members, member, member_count}
use Rattle.model.proofs.Laws.Option.{none_some, bind_some, when_some}
use Rattle.table.specs.declared.node.Node.{Node}
use Rattle.table.specs.declared.node.Node.TheVariants.{Object}
use Rattle.table.specs.declared.node.Rows.{Rows}
use Rattle.table.specs.Denotes.{Denotes}
use Rattle.table.specs.Node.{node_at}
use Rattle.type_set.specs.declared.set.TypeSet.{TypeSet}
use Rattle.sheet.specs.ByRows.{content_in, types_listed}
use Rattle.sheet.specs.Contract.{content_of, Contains, HoldsSheet}
use Rattle.sheet.specs.Inner.{ListsTypes}
use Rattle.sheet.proofs.Checking.{no_sheet}
use Rattle.sheet.proofs.Nodes.{NoObject}

-- ---- members that are a sheet
pub record Made (S Z : Bytes) (s : Sheet) (q : Rows) : Type 0 where
  pub all : Members
  pub denotes : Denotes S Z (object all) (Object q)
  pub entries : entries_of all ≡ Some s

module _ {S Z : Bytes} {s : Sheet} (holds : HoldsSheet S Z s) {n : Node} (loaded : n ≡ node_at S 0) where
  pub made : {q : Rows} → n ≡ Object q → Made S Z s q
  unfolding sheet_of
  made {q} e = go holds.value (rw (← e, loaded) holds.denotes) holds.is_sheet_lem
    where
      go : (v : Value) → Denotes S Z v (Object q) → sheet_of v ≡ Some s → Made S Z s q
      go (scalar x) d f = none_some f
      go (instant t) d f = none_some f
      go (array vs) d f = none_some f
      go (object ms) d f = record { all = ms; denotes = d; entries = (when_some (leb (member_count ms) max_sheet_members) (entries_of ms) f).1 }

  -- No other value is one.
  pub not_made : {X : Type 0} → NoObject n → X
  not_made k = none_some (sym (no_sheet S Z n holds.value k (rw loaded holds.denotes)) ∙ holds.is_sheet_lem)

-- ---- no entry
pub no_entries : (s : Sheet) → Some [] ≡ Some s → [] ≡ s
no_entries s e = cc

-- ---- the first entry and the others
pub record Split (name : Bytes) (v : Value) (ms : Members) (s : Sheet) : Type 0 where
  pub path : Path
  pub types : Types
  pub later : Sheet
  pub is_path_lem : path_of name ≡ Some path
  pub is_types : content_types v ≡ Some types
  pub is_later : entries_of ms ≡ Some later
  pub is : s ≡ (path, types) ∷ later

non_empty_lem : (q r : Path) → non_empty q ≡ Some r → q ≡ r
non_empty_lem [] r e = none_some e
non_empty_lem (f ∷ q) r e = cc

pub split : (name : Bytes) (v : Value) (ms : Members) (s : Sheet) → entries_of (member name v ms) ≡ Some s → Split name v ms s
split name v ms s e =
    bind_some (entry_path name) _ e (λ q d f.
    bind_some (content_types v) _ f (λ ts g h.
    bind_some (entries_of ms) _ h (λ es i j.
    bind_some (path_of name) non_empty d (λ r k l.
    record {
      path = q;
      types = ts;
      later = es;
      is_path_lem = k ∙ ap Some (non_empty_lem r q l);
      is_types = g;
      is_later = i;
      is = (let x : s ≡ (q, ts) ∷ es = cc in x);
    }))))

-- The types of the member in a row.
pub lists_types_lem : {S Z : Bytes} {row : ℕ} {n : Node} {c : Option TypeSet} {r : TypeSet} → n ≡ node_at S row → Contains S Z n c → r ≡ types_listed c → ListsTypes S Z row r
lists_types_lem {S} {Z} i x e = record { by_rows = e ∙ ap types_listed (x.by_rows ∙ ap (content_in S Z) i); is = λ v ts d f. e ∙ ap types_listed (x.is v (rw i d) ∙ ap content_of f) }
