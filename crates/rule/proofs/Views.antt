-- Views: what the view of a row says of the rule that it holds; an object by its mark.
use mathlib.Core.Path.{◌≡◌, refl, sym, ap, subst, ◌∙◌}
use mathlib.Core.Bool.{Bool, true, false, cond}
use Rattle.std.specs.Prelude.{Option, None, Some}
use Prim.Native.Nat.{ℕ, ◌*◌, ◌-◌, ◌≤◌}
use native.Mathlib.Omega.{arith}
use borrow.Author.Tests.{eqb-true, eqb-false}
use lib.Dec.{eqb}
use lib.ListN.{length}
use Rattle.model.specs.Bytes.{Bytes}
use Rattle.model.proofs.Laws.Option.{none_some, bind_some}
use Rattle.model.specs.Limits.{max_values}
use Rattle.model.specs.Option.{◌>>=◌}
use Rattle.model.specs.Path.{path_of}
use Rattle.model.specs.Rule.{Operation, Rule, Literal, literal, var, apply, Rules}
use Rattle.model.specs.Shape.{shape, rules_of, operands_of}
use Rattle.model.specs.Size.{nesting}
use Rattle.model.specs.Value.{Value, array, Values}
use Rattle.syntax.specs.Layout.{row_bytes, rows_part}
use Rattle.keywords.specs.declared.Op.TheVariants as Ops
use Rattle.keywords.specs.Contract.{Stands, stands_array}
use Rattle.table.specs.declared.node.Node.{Node}
use Rattle.table.specs.declared.node.Node.TheVariants.{Null, False, True, Integer, String, Array, Object}
use Rattle.table.specs.declared.node.Rows.{Rows}
use Rattle.table.specs.Denotes.{Denotes, denotes_null, denotes_false, denotes_true, denotes_integer, denotes_string, denotes_array, denotes_object}
use Rattle.table.specs.Node.{node_at}
use Rattle.table.specs.Strings.{bytes_of}
use Rattle.table.specs.Laws.Denotes as DenotesLaws
use Rattle.rule.specs.declared.view.View.{View}
use Rattle.rule.specs.declared.view.View.TheVariants as Views
use Rattle.rule.specs.Holds.{HoldsAll}
use Rattle.rule.specs.View.{object_on, within, node_shape, shape_at, view_of, view_at}
use Rattle.rule.specs.Mark.{mark_at, shape_mark, unmarked, marked_view, object_view, Marked}
use Rattle.rule.specs.Contract.{Viewed, viewed_literal, viewed_var, viewed_if, viewed_and, viewed_reduce, viewed_apply, nested, ViewsAs, Built, built_if, built_and, built_reduce, built_apply, has_apply, lists_array, Operates, Shaped, shaped_none, shaped_literal, shaped_var, shaped_operation, spells_false, spells_true, spells_integer, spells_string}
use Rattle.rule.specs.Laws.Holds.{rules_count}
use Rattle.rule.specs.Laws.Mark.{object_told}
use Rattle.rule.specs.Laws.Objects.{object_views}
use Rattle.rule.specs.Laws.Rows.{RowsAgree, node_part, row_inside, same_part, part_same, same_denotes, table_rows}

-- Nothing is seen where no nesting is left.
bound_within : (deep : ℕ) (s : Option View) → nested (view_of s) ≤ 1 → nested (view_of (within deep s)) ≤ deep
bound_within deep s l = go (eqb deep 0) refl
  where
    go : (b : Bool) → eqb deep 0 ≡ b → nested (view_of (cond b None s)) ≤ deep
    go true e = omega arith
    go false e = let n = eqb-false deep 0 e in omega arith

nested_small : (w : View) → nested w ≤ 1
nested_small (Views.Literal l) = omega arith
nested_small (Views.Var p) = omega arith
nested_small (Views.If q) = omega arith
nested_small (Views.And q) = omega arith
nested_small (Views.Reduce q) = omega arith
nested_small (Views.Apply op q) = omega arith

node_bound : (T B : Bytes) (deep : ℕ) (n : Node) → nested (view_of (node_shape T B deep n)) ≤ deep
node_bound T B deep Null = omega arith
node_bound T B deep False = omega arith
node_bound T B deep True = omega arith
node_bound T B deep (Integer n) = omega arith
node_bound T B deep (String s) = omega arith
node_bound T B deep (Array q) = bound_within deep (Some (Views.Apply Ops.Array q)) (omega arith)
node_bound T B deep (Object q) = bound_within deep (object_on T B q) (nested_small (view_of (object_on T B q)))

-- ---- the rule that a row holds
module _ {T B : Bytes} where
  held : {v : Value} {w : View} {q : Rows} (o : Operates T B v w q) (deep : ℕ) {rs : Rules} → nesting v ≤ deep → rules_of (operands_of o.operands) ≡ Some rs → HoldsAll T B (deep - 1) q rs
  held o deep n e = record { values = o.operands; denotes = o.denotes; shaped = e; nests = omega (arith, o.nests) }

  built_viewed : {v : Value} {w : View} {q : Rows} (o : Operates T B v w q) (deep : ℕ) {rs : Rules} {ρ : Rule} → nesting v ≤ deep → rules_of (operands_of o.operands) ≡ Some rs → Built w q rs ρ → Viewed T B deep w ρ
  built_viewed o deep n e built_if = viewed_if (held o deep n e)
  built_viewed o deep n e built_and = viewed_and (held o deep n e)
  built_viewed o deep n e built_reduce = viewed_reduce (held o deep n e)
  built_viewed o deep {rs} n e (built_apply {op = op} {o = model} s) =
      viewed_apply (subst (Stands op model) (sym (DenotesLaws.array_count o.denotes ∙ rules_count o.operands rs e)) s) (held o deep n e)

  operation_viewed : {v : Value} {w : View} {q : Rows} (o : Operates T B v w q) (deep : ℕ) {ρ : Rule} → nesting v ≤ deep → shape v ≡ Some ρ → Viewed T B deep w ρ
  operation_viewed {w = w} o deep {ρ} n e = go (rules_of (operands_of o.operands)) refl
    where
      go : (r : Option Rules) → rules_of (operands_of o.operands) ≡ r → Viewed T B deep w ρ
      go None f = none_some (sym (o.refused f) ∙ e)
      go (Some rs) f =
          let b = o.builds rs f in
          let x = sym b.shaped ∙ e in
          let y : b.whole ≡ ρ = cc in
          subst (Viewed T B deep w) y (built_viewed o deep n f b.built)

  shaped_viewed : {v : Value} {w : View} {ρ : Rule} (deep : ℕ) → Shaped T B v (Some w) → nesting v ≤ deep → shape v ≡ Some ρ → Viewed T B deep w ρ
  shaped_viewed {ρ = ρ} deep (shaped_literal {g = g} {l = l} x f s) n e =
      let z = sym f ∙ e in
      let y : literal l ≡ ρ = cc in
      subst (Viewed T B deep (Views.Literal g)) y (viewed_literal s)
  shaped_viewed {ρ = ρ} deep (shaped_var {p = p} o f) n e = bind_some (path_of (bytes_of B p)) _ (sym f ∙ e) λ q g x.
      let y : var q ≡ ρ = cc in
      subst (Viewed T B deep (Views.Var p)) y (viewed_var g)
  shaped_viewed deep (shaped_operation o) n e = operation_viewed o deep n e

  not_shaped : {v : Value} {ρ : Rule} → Shaped T B v None → shape v ≡ Some ρ → ⊥
  not_shaped (shaped_none f) e = none_some (sym f ∙ e)

  -- ---- arrays and objects
  array_operates : {vs : Values} {q : Rows} → Denotes T B (array vs) (Array q) → Shaped T B (array vs) (Some (Views.Apply Ops.Array q))
  unfolding shape nesting
  array_operates {vs} {q} m = shaped_operation {w = Views.Apply Ops.Array q} {q = q} record {
    has = has_apply;
    operands = vs;
    denotes = m;
    listed = vs;
    lists = lists_array;
    bare = refl;
    nests = omega arith;
    refused = λ x. ap (λ (o : Option Rules). o >>= λ rs. Some (apply Operation.array rs)) x;
    builds = λ rs x. record { whole = apply Operation.array rs; shaped = ap (λ (o : Option Rules). o >>= λ rs. Some (apply Operation.array rs)) x; built = built_apply stands_array };
  }

  within_shaped : {v : Value} (deep : ℕ) {s : Option View} → (deep ≡ 0 → ⊥) → Shaped T B v s → Shaped T B v (within deep s)
  within_shaped {v} deep {s} n h = go (eqb deep 0) refl
    where
      go : (b : Bool) → eqb deep 0 ≡ b → Shaped T B v (cond b None s)
      go true e = absurd (n (eqb-true deep 0 e))
      go false e = h

  -- What the node of a row has the shape of.
  node_shaped : {v : Value} {n : Node} (deep : ℕ) → Denotes T B v n → nesting v ≤ deep → Shaped T B v (node_shape T B deep n)
  unfolding shape nesting
  node_shaped deep denotes_null n = shaped_none refl
  node_shaped deep denotes_false n = shaped_literal {l = Literal.boolean false} refl refl spells_false
  node_shaped deep denotes_true n = shaped_literal {l = Literal.boolean true} refl refl spells_true
  node_shaped deep (denotes_integer {z = z} w e) n = shaped_literal {l = Literal.integer z} refl refl (spells_integer w e)
  node_shaped deep (denotes_string {s = t} l) n = shaped_literal {l = Literal.string t} refl refl (spells_string l)
  node_shaped deep (denotes_array x f r) n = within_shaped deep (λ z. omega arith) (array_operates (denotes_array x f r))
  node_shaped deep (denotes_object x f r) n = within_shaped deep (λ z. omega arith) (object_views (denotes_object x f r))

  shape_viewed : {v : Value} {ρ : Rule} (s : Option View) (deep : ℕ) → Shaped T B v s → nesting v ≤ deep → shape v ≡ Some ρ → Viewed T B deep (view_of s) ρ
  shape_viewed None deep h n e = absurd (not_shaped h e)
  shape_viewed (Some w) deep h n e = shaped_viewed deep h n e

-- The operands are those of the table.
module _ {R T B : Bytes} (s : RowsAgree R T) where
  same_holds : {deep : ℕ} {q : Rows} {rs : Rules} → HoldsAll R B deep q rs → HoldsAll T B deep q rs
  same_holds h = record { values = h.values; denotes = same_denotes s h.denotes; shaped = h.shaped; nests = h.nests }

  same_viewed : {deep : ℕ} {w : View} {ρ : Rule} → Viewed R B deep w ρ → Viewed T B deep w ρ
  same_viewed (viewed_literal x) = viewed_literal x
  same_viewed (viewed_var x) = viewed_var x
  same_viewed (viewed_if x) = viewed_if (same_holds x)
  same_viewed (viewed_and x) = viewed_and (same_holds x)
  same_viewed (viewed_reduce x) = viewed_reduce (same_holds x)
  same_viewed (viewed_apply x y) = viewed_apply x (same_holds y)

-- ---- what view_at gives
module _ {T B : Bytes} (marked : Marked T B) where
  size : max_values * row_bytes ≤ length T
  size = table_rows marked.size

  -- By the equation alone.
  pub views : {row deep : ℕ} {r : View} → r ≡ view_at T B row deep → ViewsAs T B row deep r
  views {row} {deep} {r} e = record {
    is = e;
    viewed = λ ρ h.
        let d : Denotes (rows_part T) B h.value (node_at (rows_part T) row) = subst (Denotes (rows_part T) B h.value) (sym (node_part T size row h.within)) (same_denotes (same_part T size) h.denotes) in
        subst (λ (w : View). Viewed T B deep w ρ) (sym e)
        (same_viewed (part_same T size) (shape_viewed (shape_at T B row deep) deep (node_shaped deep d h.nests) h.nests h.shaped));
    bound = subst (λ (w : View). nested w ≤ deep) (sym e) (node_bound (rows_part T) B deep (node_at (rows_part T) row));
  }

  -- By the node in the row.
  pub node_view : {row deep : ℕ} (n : Node) {r : View} → node_at (rows_part T) row ≡ n → r ≡ view_of (node_shape (rows_part T) B deep n) → ViewsAs T B row deep r
  node_view {row} {deep} n e f = views (f ∙ sym (ap (λ (x : Node). view_of (node_shape (rows_part T) B deep x)) e))

  pub object_view_lem : {row deep : ℕ} (q : Rows) {r : View} → node_at (rows_part T) row ≡ Object q → r ≡ object_view T row q deep → ViewsAs T B row deep r
  object_view_lem {row} {deep} q {r} e f = node_view (Object q) e (f ∙ go (eqb deep 0))
    where
      mark : mark_at T row ≡ shape_mark (object_on (rows_part T) B q)
      mark = let l = row_inside T size row e in marked.marks row q l (sym (node_part T size row l) ∙ e)

      go : (b : Bool) → cond b unmarked (marked_view (rows_part T) (mark_at T row) (node_at (rows_part T) q.first)) ≡ view_of (cond b None (object_on (rows_part T) B q))
      go true = refl
      go false = ap (λ (m : ℕ). marked_view (rows_part T) m (node_at (rows_part T) q.first)) mark ∙ sym (object_told (rows_part T) B q)
