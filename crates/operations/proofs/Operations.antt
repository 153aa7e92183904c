-- Operations: each operation on the operands that stand on the stack, but that of an array.
use mathlib.Core.Path.{◌≡◌, refl, ◌∙◌}
use Prim.Native.Nat.{ℕ}
use native.Mathlib.Omega.{arith}
use Rattle.model.specs.Bytes.{Bytes}
use Rattle.model.specs.Operations.{operate}
use Rattle.model.specs.Rule.{Operation}
use Rattle.model.specs.Value.{Value, Values, no_items, item}
use Rattle.model.specs.declared.Comparison.{Comparison}
use Rattle.model.specs.declared.Domain.{Domain}
use Rattle.model.specs.declared.TimeUnit.{TimeUnit}
use Rattle.op_dates.specs.Contract.{Shifts, Born}
use Rattle.heap.specs.declared.handle.Handle.{Handle}
use Rattle.heap.specs.Blocks.{MeansEach, no_handles, handle_item}
use Rattle.heap.specs.Means.{Means}
use Rattle.heap.specs.Unfold.{Areas, areas}
use Rattle.keywords.specs.declared.Op.{Op}
use Rattle.keywords.specs.declared.Op.TheVariants as Ops
use Rattle.keywords.specs.Contract.{Stands, stands_equal, stands_member_of, stands_plus, stands_not, stands_date_of_birth, stands_compare, stands_plus_time, stands_extract}
use Rattle.op_result.specs.Contract.{Answered, Gives}
use Rattle.op_scalars.specs.Contract.{Negated, Equality, Membership, Sum, Compared, ComparedThree}
use Rattle.op_uvci.specs.Contract.{Extracts}
use Rattle.operations.specs.Inner.{Compares}
use Rattle.operations.specs.Laws.Stack.{first_cell_lem}
use Rattle.operations.specs.Stack.{stack_cell, first_cell, stacked_from, stacked}

-- What an operation gives on the values of the operands on the stack.
pub record Operates (A B T C : Bytes) (op : Op) (bottom count : ℕ) (r : Answered) : Type 0 where
  pub gives :
      (top : ℕ) (o : Operation) (vs : Values)
      → Stands op o count
      → MeansEach (areas A B T C) top vs (stacked C bottom count)
      → Gives (areas A B T C) top (operate o vs) r

-- ---- one, two and three operands
record One (a : Areas) (top : ℕ) (C : Bytes) (bottom : ℕ) (vs : Values) : Type 0 where
  pub first : Value
  pub is : vs ≡ item first no_items
  pub means : Means a top first (stack_cell C bottom 0)

one : {a : Areas} {top : ℕ} {vs : Values} (C : Bytes) (bottom n : ℕ) → n ≡ 1 → MeansEach a top vs (stacked C bottom n) → One a top C bottom vs
unfolding stacked_from
one C bottom n e m = go (rw e at m)
  where
    go : {a : Areas} {top : ℕ} {vs : Values} → MeansEach a top vs (stacked C bottom 1) → One a top C bottom vs
    go (handle_item {v = v} m no_handles) = record { first = v; is = refl; means = m }

record Two (a : Areas) (top : ℕ) (C : Bytes) (bottom : ℕ) (vs : Values) : Type 0 where
  pub first : Value
  pub second : Value
  pub is : vs ≡ item first (item second no_items)
  pub means_first : Means a top first (stack_cell C bottom 0)
  pub means_second : Means a top second (stack_cell C bottom 1)

two : {a : Areas} {top : ℕ} {vs : Values} (C : Bytes) (bottom n : ℕ) → n ≡ 2 → MeansEach a top vs (stacked C bottom n) → Two a top C bottom vs
unfolding stacked_from
two C bottom n e m = go (rw e at m)
  where
    go : {a : Areas} {top : ℕ} {vs : Values} → MeansEach a top vs (stacked C bottom 2) → Two a top C bottom vs
    go (handle_item {v = v} m (handle_item {v = w} n no_handles)) = record { first = v; second = w; is = refl; means_first = m; means_second = n }

record Three (a : Areas) (top : ℕ) (C : Bytes) (bottom : ℕ) (vs : Values) : Type 0 where
  pub first : Value
  pub second : Value
  pub third : Value
  pub is : vs ≡ item first (item second (item third no_items))
  pub means_first : Means a top first (stack_cell C bottom 0)
  pub means_second : Means a top second (stack_cell C bottom 1)
  pub means_third : Means a top third (stack_cell C bottom 2)

three : {a : Areas} {top : ℕ} {vs : Values} (C : Bytes) (bottom n : ℕ) → n ≡ 3 → MeansEach a top vs (stacked C bottom n) → Three a top C bottom vs
unfolding stacked_from
three C bottom n e m = go (rw e at m)
  where
    go : {a : Areas} {top : ℕ} {vs : Values} → MeansEach a top vs (stacked C bottom 3) → Three a top C bottom vs
    go (handle_item {v = u} l (handle_item {v = v} m (handle_item {v = w} n no_handles))) =
        record { first = u; second = v; third = w; is = refl; means_first = l; means_second = m; means_third = n }

-- ---- comparisons
module _ {C : Bytes} {d : Domain} {c : Comparison} {bottom count : ℕ} {x y : Handle} {r : Answered} (is_x : x ≡ stack_cell C bottom 0) (is_y : y ≡ stack_cell C bottom 1) where
  pub compares_two : count ≡ 2 → Compared d c x y r → Compares C d c bottom count r
  compares_two e f = record { gives = λ a top vs l m n. let t = two C bottom count e n in rw t.is (f.gives a top t.first t.second (rw is_x t.means_first) (rw is_y t.means_second)) }

  pub compares_three : {z : Handle} → z ≡ stack_cell C bottom 2 → (count ≡ 2 → ⊥) → ComparedThree d c x y z r → Compares C d c bottom count r
  compares_three is-z e f = record {
    gives = λ a top vs l m n.
        let t = three C bottom count (omega (arith, e)) n in
        rw t.is (f.gives a top t.first t.second t.third (rw is_x t.means_first) (rw is_y t.means_second) (rw is-z t.means_third));
  }

-- ---- each operation
module _ {A B T C : Bytes} {bottom count : ℕ} {r : Answered} where
  pub of_comparison : {d : Domain} {c : Comparison} → Compares C d c bottom count r → Operates A B T C (Ops.Compare d c) bottom count r
  of_comparison {d} {c} f = record { gives = λ top o vs s m. go top vs s m }
    where
      go : {o : Operation} (top : ℕ) (vs : Values) → Stands (Ops.Compare d c) o count → MeansEach (areas A B T C) top vs (stacked C bottom count) → Gives (areas A B T C) top (operate o vs) r
      go top vs (stands_compare l k) m = f.gives (areas A B T C) top vs l k m

  module _ {x : Handle} (is_first : x ≡ first_cell C bottom count) where
    pub of_not : Negated x r → Operates A B T C Ops.Not bottom count r
    of_not f = record { gives = λ top o vs s m. go top vs s m }
      where
        go : {o : Operation} (top : ℕ) (vs : Values) → Stands Ops.Not o count → MeansEach (areas A B T C) top vs (stacked C bottom count) → Gives (areas A B T C) top (operate o vs) r
        go top vs (stands_not e) m = let t = one C bottom count e m in rw t.is (f.gives (areas A B T C) top t.first (rw (is_first ∙ first_cell_lem C bottom count (omega arith)) t.means))

    pub of_birth : Born A B x r → Operates A B T C Ops.DateOfBirth bottom count r
    of_birth f = record { gives = λ top o vs s m. go top vs s m }
      where
        go : {o : Operation} (top : ℕ) (vs : Values) → Stands Ops.DateOfBirth o count → MeansEach (areas A B T C) top vs (stacked C bottom count) → Gives (areas A B T C) top (operate o vs) r
        go top vs (stands_date_of_birth e) m = let t = one C bottom count e m in rw t.is (f.gives T C top t.first (rw (is_first ∙ first_cell_lem C bottom count (omega arith)) t.means))

    pub of_shift : (n : ℕ) {u : TimeUnit} → Shifts A B n u x r → Operates A B T C (Ops.PlusTime n u) bottom count r
    of_shift k {u} f = record { gives = λ top o vs s m. go top vs s m }
      where
        go : {o : Operation} (top : ℕ) (vs : Values) → Stands (Ops.PlusTime k u) o count → MeansEach (areas A B T C) top vs (stacked C bottom count) → Gives (areas A B T C) top (operate o vs) r
        go top vs (stands_plus_time {k = z} e w b) m = let t = one C bottom count e m in rw t.is (f.gives T C top z t.first w b (rw (is_first ∙ first_cell_lem C bottom count (omega arith)) t.means))

    pub of_extract : (n : ℕ) → Extracts A B n x r → Operates A B T C (Ops.ExtractFromUvci n) bottom count r
    of_extract k f = record { gives = λ top o vs s m. go top vs s m }
      where
        go : {o : Operation} (top : ℕ) (vs : Values) → Stands (Ops.ExtractFromUvci k) o count → MeansEach (areas A B T C) top vs (stacked C bottom count) → Gives (areas A B T C) top (operate o vs) r
        go top vs (stands_extract {k = z} e w b) m = let t = one C bottom count e m in rw t.is (f.gives T C top z t.first w b (rw (is_first ∙ first_cell_lem C bottom count (omega arith)) t.means))

    module _ {y : Handle} (is_y : y ≡ stack_cell C bottom 1) where
      pub of_equal : Equality A B x y r → Operates A B T C Ops.Equal bottom count r
      of_equal f = record { gives = λ top o vs s m. go top vs s m }
        where
          go : {o : Operation} (top : ℕ) (vs : Values) → Stands Ops.Equal o count → MeansEach (areas A B T C) top vs (stacked C bottom count) → Gives (areas A B T C) top (operate o vs) r
          go top vs (stands_equal e) m = let t = two C bottom count e m in rw t.is (f.gives T C top t.first t.second (rw (is_first ∙ first_cell_lem C bottom count (omega arith)) t.means_first) (rw is_y t.means_second))

      pub of_member : Membership A B T C x y r → Operates A B T C Ops.MemberOf bottom count r
      of_member f = record { gives = λ top o vs s m. go top vs s m }
        where
          go : {o : Operation} (top : ℕ) (vs : Values) → Stands Ops.MemberOf o count → MeansEach (areas A B T C) top vs (stacked C bottom count) → Gives (areas A B T C) top (operate o vs) r
          go top vs (stands_member_of e) m = let t = two C bottom count e m in rw t.is (f.gives top t.first t.second (rw (is_first ∙ first_cell_lem C bottom count (omega arith)) t.means_first) (rw is_y t.means_second))

      pub of_plus : Sum x y r → Operates A B T C Ops.Plus bottom count r
      of_plus f = record { gives = λ top o vs s m. go top vs s m }
        where
          go : {o : Operation} (top : ℕ) (vs : Values) → Stands Ops.Plus o count → MeansEach (areas A B T C) top vs (stacked C bottom count) → Gives (areas A B T C) top (operate o vs) r
          go top vs (stands_plus e) m = let t = two C bottom count e m in rw t.is (f.gives (areas A B T C) top t.first t.second (rw (is_first ∙ first_cell_lem C bottom count (omega arith)) t.means_first) (rw is_y t.means_second))
