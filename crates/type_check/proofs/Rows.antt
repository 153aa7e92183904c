-- Rows: what is found for operands by their rows, where f finds what it does for a row somewhere.
use Rattle.std.specs.Prelude.{Option, None, Some}
use mathlib.Core.Bool.{Bool, true, false, cond}
use mathlib.Core.List.{[], ◌∷◌}
use mathlib.Core.Path.{◌≡◌, refl, sym, ap, ◌∙◌}
use Prim.Native.Nat.{ℕ, suc, ◌-◌, ◌≤◌}
use native.Mathlib.Omega.{arith}
use Rattle.model.specs.Bytes.{Bytes}
use Rattle.model.specs.Option.{◌>>=◌}
use Rattle.model.specs.TypeCheck.{items_types}
use Rattle.model.specs.declared.Ty.TheVariants as Ty
use Rattle.table.specs.declared.node.Rows.{Rows}
use Rattle.table.specs.Node.{next_row, tail_of}
use Rattle.type_set.specs.declared.set.TypeSet.{TypeSet}
use Rattle.type_set.specs.Contract.{set_of, types_in}
use Rattle.type_check.specs.declared.env.Env.{Env}
use Rattle.type_check.specs.declared.env.Env.TheVariants.{Lambda}
use Rattle.type_check.specs.declared.operation.Operands.{Operands}
use Rattle.type_check.specs.ByRows.{one_more, accepted_as, passes_as, pass_as, branches_by, rows_found, all_found, if_by, lambda_found, reduce_by}

-- ---- all operands, by the first row and the others
module _ (f : ℕ → Option TypeSet) (T : Bytes) (o : Operands) (q : Rows) {x : Option TypeSet} (more : 1 ≤ q.count) (is_first : x ≡ f q.first) where
  abbrev others : TypeSet → Option Operands
  others t = rows_found f T (one_more o t) (next_row T q.first) (q.count - 1)

  first_row : (x >>= others) ≡ rows_found f T o q.first q.count
  first_row =
      let m : q.count ≡ suc (q.count - 1) = omega arith in
      ap (λ (y : Option TypeSet). y >>= others) is_first ∙ sym (ap (rows_found f T o q.first) m)

  pub rows_stop : x ≡ None → None ≡ rows_found f T o q.first q.count
  rows_stop e = rw e at first_row

  pub rows_next : {t : TypeSet} {o₁ : Operands} {q₁ : Rows} {r : Option Operands} → x ≡ Some t → o₁ ≡ one_more o t → q₁ ≡ tail_of T q → r ≡ rows_found f T o₁ q₁.first q₁.count
      → r ≡ rows_found f T o q.first q.count
  rows_next e i j k = rw (i, j) at k ∙ rw e at first_row

none_then : (x : Option TypeSet) → ◌≡◌ {A = Option TypeSet} None (x >>= (λ (t : TypeSet). None))
none_then None = refl
none_then (Some t) = refl

-- ---- the lambda of `reduce`
module _ (f : Env → ℕ → Option TypeSet) (row : ℕ) (t u : TypeSet) {c : TypeSet} {x : Option TypeSet} (is_c : c ≡ set_of (items_types (types_in t))) (is_found : x ≡ f (Lambda c u) row) where
  lambda_rows : cond (pass_as t (Ty.Array ∷ [])) (x >>= (λ v. accepted_as (passes_as v u) u)) None ≡ lambda_found f row t u
  lambda_rows =
      ap (λ (y : Option TypeSet). cond (pass_as t (Ty.Array ∷ [])) (y >>= (λ v. accepted_as (passes_as v u) u)) None)
      (is_found ∙ ap (λ (d : TypeSet). f (Lambda d u) row) is_c)

  pub lambda_none : x ≡ None → None ≡ lambda_found f row t u
  lambda_none e = go (pass_as t (Ty.Array ∷ [])) ∙ rw e at lambda_rows
    where
      go : (b : Bool) → ◌≡◌ {A = Option TypeSet} None (cond b None None)
      go true = refl
      go false = refl

  pub lambda_some : {v : TypeSet} → pass_as t (Ty.Array ∷ []) ≡ true → x ≡ Some v → accepted_as (passes_as v u) u ≡ lambda_found f row t u
  lambda_some {v} b e = sym (ap (λ (z : Bool). cond z (accepted_as (passes_as v u) u) None) b) ∙ rw e at lambda_rows

-- ---- `if` and `reduce`, by the first operand
module _ (f : Env → ℕ → Option TypeSet) (T : Bytes) (env : Env) (q : Rows) {x : Option TypeSet} (is_first : x ≡ f env q.first) where
  if_rows : (x >>= (λ t. branches_by (all_found (f env) T (tail_of T q)))) ≡ if_by f T env q
  if_rows = ap (λ (y : Option TypeSet). y >>= (λ t. branches_by (all_found (f env) T (tail_of T q)))) is_first

  pub if_none : x ≡ None → None ≡ if_by f T env q
  if_none e = rw e at if_rows

  pub if_some : {t : TypeSet} → x ≡ Some t → branches_by (all_found (f env) T (tail_of T q)) ≡ if_by f T env q
  if_some e = rw e at if_rows

  -- By the operand, and what is found for the initial.
  abbrev by_initial : Option TypeSet → TypeSet → Option TypeSet
  by_initial y t = y >>= (λ u. lambda_found f (next_row T q.first) t u)

  abbrev initial : Option TypeSet
  initial = f env (next_row T (next_row T q.first))

  operand_rows : (x >>= by_initial initial) ≡ reduce_by f T env q
  operand_rows = ap (λ (y : Option TypeSet). y >>= by_initial initial) is_first

  pub reduce_none : x ≡ None → None ≡ reduce_by f T env q
  reduce_none e = rw e at operand_rows

  pub reduce_no_array : {t : TypeSet} → x ≡ Some t → pass_as t (Ty.Array ∷ []) ≡ false → None ≡ reduce_by f T env q
  reduce_no_array e b = none_then initial ∙ rw (e, b) at operand_rows

  module _ {row₁ row₂ : ℕ} (is₁ : row₁ ≡ next_row T q.first) (is₂ : row₂ ≡ next_row T row₁) {y : Option TypeSet} (is_last : y ≡ f env row₂) where
    is_initial : y ≡ initial
    is_initial = is_last ∙ ap (f env) (is₂ ∙ ap (next_row T) is₁)

    initial_rows : (x >>= by_initial y) ≡ reduce_by f T env q
    initial_rows = ap (λ (z : Option TypeSet). x >>= by_initial z) is_initial ∙ operand_rows

    pub reduce_no_initial : y ≡ None → None ≡ reduce_by f T env q
    reduce_no_initial e = none_then x ∙ rw e at initial_rows

    pub reduce_some : {t u : TypeSet} {r : Option TypeSet} → x ≡ Some t → y ≡ Some u → r ≡ lambda_found f row₁ t u → r ≡ reduce_by f T env q
    reduce_some e g h = rw is₁ at h ∙ rw (e, g) at initial_rows
