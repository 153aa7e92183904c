-- Whole: the array or object whose parts some rows are.
use mathlib.Core.Path.{◌≡◌, refl, sym, ◌∙◌}
use mathlib.Core.Bool.{Bool, true, false, cond}
use Prim.Native.Nat.{◌+◌, ◌-◌}
use native.Mathlib.Omega.{arith}
use borrow.Author.Tests.{eqb-false, ltb-false}
use lib.Dec.{eqb, ltb}
use Rattle.model.specs.Bytes.{Bytes}
use Rattle.model.proofs.Laws.Logic.{clash}
use Rattle.model.specs.Limits.{max_values}
use Rattle.table.specs.declared.node.Node.{Node}
use Rattle.table.specs.declared.node.Node.TheVariants.{Null, Array, Object}
use Rattle.table.specs.declared.node.Rows.{Rows}
use Rattle.table.specs.Node.{node_at}
use Rattle.table.specs.Laws.Placed.{array_first, object_first}
use Rattle.paths.specs.Inner.{owner_of, AllOf}

-- ---- all parts of an array or object
-- The row before some rows is one of a text's, unless what stands there counts as null.
known : (T : Bytes) (q : Rows) {n : Node} → n ≡ owner_of T q → (n ≡ Null → ⊥) → AllOf T q n
known T q {n} e x = go (eqb q.first 0) refl (ltb max_values q.first) refl e
  where
    go : (b : Bool) → eqb q.first 0 ≡ b → (c : Bool) → ltb max_values q.first ≡ c → n ≡ cond b Null (cond c Null (node_at T (q.first - 1))) → AllOf T q n
    go true f c g e = absurd (x e)
    go false f true g e = absurd (x e)
    go false f false g e = record { after = omega (arith, eqb-false q.first 0 f); within = ltb-false max_values q.first g; is = sym e }

module _ {T : Bytes} (q : Rows) {all : Rows} {n : Node} (is-owner : n ≡ owner_of T q) (same : all.count ≡ q.count) where
  -- The parts of a value begin in the row behind it.
  same_rows : AllOf T q n → all.first ≡ q.first - 1 + 1 → all ≡ q
  same_rows a e =
      let first : all.first ≡ q.first = omega (arith, a.after, e) in
      λ i. record { first = first i; count = same i }

  pub all_items_lem : n ≡ Array all → AllOf T q (Array q)
  all_items_lem f =
      let a = known T q is-owner (λ x. clash cc) in
      rw (f, same_rows a (array_first T (q.first - 1) all (a.is ∙ f))) at a

  pub all_members_lem : n ≡ Object all → AllOf T q (Object q)
  all_members_lem f =
      let a = known T q is-owner (λ x. clash cc) in
      rw (f, same_rows a (object_first T (q.first - 1) all (a.is ∙ f))) at a
