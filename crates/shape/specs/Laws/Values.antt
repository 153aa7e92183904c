-- Values: a value that was read is a rule exactly when none of its rows is at fault; and then each of its objects has its mark.
use Rattle.std.specs.Prelude.{◌≡◌, refl, Bool, true, false, ◌&&◌, length}
use Rattle.std.proofs.Common.{sym, ap, subst, ◌∙◌, arith}
use Rattle.std.specs.Prelude.{Option, None, Some}
use Prim.Native.Nat.{ℕ, zero, suc, ◌+◌, ◌*◌, ◌≤◌, ◌<◌}
use Rattle.std.proofs.Math.Decide.{dec_lt}
use Rattle.model.specs.Bytes.{Bytes}
use Rattle.model.proofs.Laws.Logic.{clash}
use Rattle.model.proofs.Laws.Widths.{two_values}
use Rattle.model.specs.Limits.{max_values}
use Rattle.model.specs.Option.{◌>>=◌, is_some}
use Rattle.model.specs.Path.{path_of}
use Rattle.model.specs.Rule.{Operation, Rule, var, apply, Rules, rule}
use Rattle.model.specs.Shape.{shape, rules_of, operands_of}
use Rattle.model.specs.Size.{value_count, items_count, members_count}
use Rattle.model.specs.Value.{Value, scalar, instant, array, object, Scalar, string, Values, no_items, item, Members, no_members, member, instant_free}
use Rattle.syntax.specs.Layout.{row_bytes, entry_bytes, rows_part}
use Rattle.table.specs.declared.node.Node.{Node}
use Rattle.table.specs.declared.node.Node.TheVariants.{Object}
use Rattle.table.specs.declared.node.Rows.{Rows}
use Rattle.table.specs.Denotes.{Denotes, denotes_null, denotes_false, denotes_true, denotes_integer, denotes_string}
use Rattle.table.specs.Node.{node_at, next_row}
use Rattle.table.specs.Strings.{bytes_of}
use Rattle.table.specs.WasRead.{WasRead}
use Rattle.table.specs.Laws.Placed.{array_node, object_node}
use Rattle.table.specs.Laws.Standing.{Standing, StandingItems, StandingMembers, root_stands, array_items, object_members, item_first, item_rest, member_first, denoted, root_end, row_inside}
use Rattle.table.specs.Laws.WasRead.{behind_null}
use Rattle.rule.specs.declared.view.View.{View}
use Rattle.rule.specs.Contract.{Has, has_if, has_and, has_reduce, has_apply, Lists, lists_content, Operates, Shaped, shaped_none, shaped_literal, shaped_var, shaped_operation}
use Rattle.rule.specs.Mark.{mark_at, shape_mark, Marked}
use Rattle.rule.specs.View.{object_on}
use Rattle.rule.specs.Laws.Objects.{object_views}
use Rattle.rule.specs.Laws.Rows.{node_part, next_part, same_part, same_denotes, table_rows}
use Rattle.shape.specs.Rows.{view_is_rule, shape_is_rule, node_is_rule, row_is_rule, rows_are_rules, mark_rows}
use Rattle.shape.specs.Laws.Marks.{rows_kept, rows_marked}

-- ---- an object by its content
operates_is : {T B : Bytes} {v : Value} {w : View} {q : Rows} (o : Operates T B v w q) → is_some (rules_of (operands_of o.operands)) ≡ is_some (shape v)
operates_is {v = v} o = go (rules_of (operands_of o.operands)) refl
  where
    go : (r : Option Rules) → rules_of (operands_of o.operands) ≡ r → is_some r ≡ is_some (shape v)
    go None e = sym (ap is_some (o.refused e))
    go (Some rs) e = sym (ap is_some (o.builds rs e).shaped)

array_is : (vs : Values) → is_some (shape (array vs)) ≡ is_some (rules_of (operands_of vs))
unfolding shape
array_is vs = go (rules_of (operands_of vs))
  where
    go : (o : Option Rules) → is_some (o >>= λ rs. Some (apply Operation.array rs)) ≡ is_some o
    go None = refl
    go (Some rs) = refl

path_is : (o : Option Rule) {A : Type 0} (p : Option A) (f : A → Rule) → o ≡ (p >>= λ q. Some (f q)) → is_some p ≡ is_some o
path_is o None f e = sym (ap is_some e)
path_is o (Some q) f e = sym (ap is_some e)

has_rule : {w : View} {q : Rows} (B : Bytes) → Has w q → view_is_rule B w ≡ true
has_rule B has_if = refl
has_rule B has_and = refl
has_rule B has_reduce = refl
has_rule B has_apply = refl

and_true : (a : Bool) {b : Bool} → b ≡ true → (a && b) ≡ a
and_true true e = e
and_true false e = refl

members_of : {ms ns : Members} → object ms ≡ object ns → ms ≡ ns
members_of e = cc

-- The rows behind an object's are those of its single member's content: `c` tells whether that is a rule.
object_rules : {R B : Bytes} (ms : Members) (c : Bool) {s : Option View} → Shaped R B (object ms) s → ((n : Bytes) (v : Value) → ms ≡ member n v no_members → c ≡ is_some (shape v))
    → (shape_is_rule B s && c) ≡ is_some (shape (object ms))
unfolding shape
object_rules ms c (shaped_none f) k = sym (ap is_some f)
object_rules ms c (shaped_literal x f l) k = clash cc
object_rules {B = B} ms c (shaped_var {p = p} {n = n} {s = s} x f) k =
    and_true (is_some (path_of (bytes_of B p))) (k n (scalar (string s)) (members_of x)) ∙ path_is (shape (object ms)) (path_of (bytes_of B p)) var f
object_rules {B = B} ms c (shaped_operation {w = w} o) k = ap (λ (b : Bool). b && c) (has_rule B o.has) ∙ go o.lists k ∙ o.bare ∙ operates_is o
  where
    go : {ms : Members} {vs : Values} → Lists (object ms) vs → ((n : Bytes) (v : Value) → ms ≡ member n v no_members → c ≡ is_some (shape v)) → c ≡ is_some (rules_of (operands_of vs))
    go (lists_content {n = n} {vs = vs}) k = k n (array vs) refl ∙ array_is vs

no_member : {X : Type 0} {n : Bytes} {v : Value} → no_members ≡ member n v no_members → X
no_member e = clash cc

-- The value of a single member.
single_value : {n n₂ : Bytes} {v v₂ : Value} {ms : Members} → member n v ms ≡ member n₂ v₂ no_members → (v ≡ v₂) × (ms ≡ no_members)
single_value e = (cc, cc)

-- ---- scalars
scalar_rules : {T B : Bytes} {x : Scalar} {n : Node} (R : Bytes) → Denotes T B (scalar x) n → node_is_rule R B n ≡ is_some (shape (scalar x))
unfolding shape
scalar_rules R denotes_null = refl
scalar_rules R denotes_false = refl
scalar_rules R denotes_true = refl
scalar_rules R (denotes_integer w e) = refl
scalar_rules R (denotes_string l) = refl

-- ---- rows one after the other
rows_split : (R B : Bytes) (row n m : ℕ) → rows_are_rules R B row (n + m) ≡ (rows_are_rules R B row n && rows_are_rules R B (row + n) m)
rows_split R B row zero m =
    let a : 0 + m ≡ m = omega arith in
    let b : row + 0 ≡ row = omega arith in
    rw (a, b)
rows_split R B row (suc n) m =
    let a : suc n + m ≡ suc (n + m) = omega arith in
    let b : row + suc n ≡ suc row + n = omega arith in
    rw (a, b) (ap (λ (x : Bool). row_is_rule R B row && x) (rows_split R B (suc row) n m) ∙ and_assoc (row_is_rule R B row) (rows_are_rules R B (suc row) n) (rows_are_rules R B (suc row + n) m))
  where
    and_assoc : (a b c : Bool) → (a && (b && c)) ≡ ((a && b) && c)
    and_assoc true b c = refl
    and_assoc false b c = refl

and_both : (a : Option Rule) (b : Option Rules) → (is_some a && is_some b) ≡ is_some (a >>= λ r. b >>= λ rs. Some (rule r rs))
and_both None b = refl
and_both (Some r) None = refl
and_both (Some r) (Some rs) = refl

-- ---- all values
module _ (T B : Bytes) (size : max_values * row_bytes ≤ length T) where
  abbrev R : Bytes
  R = rows_part T

  row_is : {v : Value} {i : ℕ} → Standing T B v i → row_is_rule R B i ≡ node_is_rule R B (node_at T i)
  row_is {i = i} s = ap (node_is_rule R B) (node_part T size i (row_inside s))

  object_row : {ms : Members} {i : ℕ} → Standing T B (object ms) i → (c : Bool) → ((n : Bytes) (v : Value) → ms ≡ member n v no_members → c ≡ is_some (shape v))
      → (row_is_rule R B i && c) ≡ is_some (shape (object ms))
  object_row {ms} {i} s c k =
      let e = object_node s in
      let d = subst (Denotes R B (object ms)) e (same_denotes (same_part T size) (denoted s)) in
      ap (λ (b : Bool). b && c) (row_is s ∙ ap (node_is_rule R B) e) ∙ object_rules ms c (object_views d) k

  mutual
    unfolding shape value_count instant_free

    value_rules : (v : Value) (i : ℕ) → Standing T B v i → rows_are_rules R B i (value_count v) ≡ is_some (shape v)
    value_rules (scalar x) i s = and_true (row_is_rule R B i) refl ∙ row_is s ∙ scalar_rules R (denoted s)
    value_rules (instant t) i s = absurd s.free
    value_rules (array vs) i s =
        let e = array_node s in
        let f : i + 1 ≡ suc i = omega arith in
        ap (λ (b : Bool). b && rows_are_rules R B (suc i) (items_count vs)) (row_is s ∙ ap (node_is_rule R B) e)
        ∙ items_rules vs (suc i) (subst (StandingItems T B vs) f (array_items s)) ∙ sym (array_is vs)
    value_rules (object ms) i s =
        let f : i + 1 ≡ suc i = omega arith in
        object_row s (rows_are_rules R B (suc i) (members_count ms)) (λ n v e. member_rules ms (suc i) (subst (StandingMembers T B ms) f (object_members s)) n v e)

    member_rules : (ms : Members) (i : ℕ) → StandingMembers T B ms i → (n : Bytes) (v : Value) → ms ≡ member n v no_members → rows_are_rules R B i (members_count ms) ≡ is_some (shape v)
    member_rules no_members i s n₂ v₂ e = no_member e
    member_rules (member n v ms) i s n₂ v₂ e =
        let one = single_value e in
        let h : members_count ms ≡ 0 = ap members_count one.1 in
        let g : value_count v + members_count ms ≡ value_count v = omega arith in
        ap (rows_are_rules R B i) g ∙ value_rules v i (member_first s) ∙ ap (λ (x : Value). is_some (shape x)) one.0

    items_rules : (vs : Values) (i : ℕ) → StandingItems T B vs i → rows_are_rules R B i (items_count vs) ≡ is_some (rules_of (operands_of vs))
    items_rules no_items i s = refl
    items_rules (item v vs) i s =
        rows_split R B i (value_count v) (items_count vs)
        ∙ ap (λ (b : Bool). b && rows_are_rules R B (i + value_count v) (items_count vs)) (value_rules v i (item_first s))
        ∙ ap (λ (b : Bool). is_some (shape v) && b) (items_rules vs (i + value_count v) (item_rest s))
        ∙ and_both (shape v) (rules_of (operands_of vs))

-- ---- the whole
module _ {T B : Bytes} {v : Value} (w : WasRead T B v) where
  size : max_values * row_bytes ≤ length T
  size = table_rows w.size

  pub rows_end : next_row (rows_part T) 0 ≡ value_count v
  rows_end = next_part T size 0 (omega (arith, two_values)) ∙ root_end w

  -- The text that was read is a rule exactly when no row is at fault.
  pub read_rules : rows_are_rules (rows_part T) B 0 (next_row (rows_part T) 0) ≡ is_some (shape v)
  read_rules = ap (rows_are_rules (rows_part T) B 0) rows_end ∙ value_rules T B size v 0 (root_stands w)

  -- And then every object has its mark.
  pub read_marked : {T' : Bytes} → T' ≡ mark_rows (rows_part T) B T 0 (next_row (rows_part T) 0) → rows_are_rules (rows_part T) B 0 (next_row (rows_part T) 0) ≡ true → Marked T' B
  unfolding row_bytes entry_bytes
  read_marked {T'} e r = record { size = omega (arith, w.size, length_same); marks = λ row q l o. mark row q l (there row l o) }
    where
      n : ℕ
      n = next_row (rows_part T) 0

      length_same : length T' ≡ length T
      length_same = ap length e ∙ (rows_kept (rows_part T) B T 0 n).size

      rows_same : rows_part T' ≡ rows_part T
      rows_same = ap rows_part e ∙ (rows_kept (rows_part T) B T 0 n).rows

      there : (row : ℕ) {q : Rows} → row < max_values → node_at T' row ≡ Object q → node_at (rows_part T) row ≡ Object q
      there row l o = ap (λ (x : Bytes). node_at x row) (sym rows_same) ∙ node_part T' (omega (arith, size, length_same)) row l ∙ o

      -- Behind the value's rows there is no object.
      inside : (row : ℕ) {q : Rows} → row < max_values → node_at (rows_part T) row ≡ Object q → row < n
      inside row l o = go (dec_lt row n)
        where
          go : Dec (row < n) → row < n
          go (yes p) = p
          go (no p) = let x = sym o ∙ node_part T size row l ∙ behind_null w row (omega (arith, rows_end)) l in clash cc

      mark : (row : ℕ) (q : Rows) → row < max_values → node_at (rows_part T) row ≡ Object q → mark_at T' row ≡ shape_mark (object_on (rows_part T') B q)
      mark row q l o =
          ap (λ (x : Bytes). mark_at x row) e
          ∙ rows_marked (rows_part T) B T 0 n row q r (omega (arith, w.size)) (omega arith) (omega (arith, inside row l o)) o
          ∙ sym (ap (λ (x : Bytes). shape_mark (object_on x B q)) rows_same)
