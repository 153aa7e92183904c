-- Belonging: whether a value belongs to a type of a set, by its node.
use mathlib.Core.Path.{◌≡◌, refl, sym, ap, ap₂, ◌∙◌}
use mathlib.Core.Bool.{Bool, true, false, ◌&&◌, ◌||◌, cond, and-true, and-false, or-false, or_comm, or_assoc}
use Prim.Native.Nat.{ℕ, ◌≤◌}
use lib.Dec.{T}
use Rattle.model.specs.Bytes.{Bytes}
use Rattle.model.specs.DateText.{is_date, is_day}
use Rattle.model.specs.Types.{belongs, has_type}
use Rattle.model.specs.Value.{Value, scalar, array, object, null, boolean, integer, string, Values, no_items, item, all_items, is_integer, is_string}
use Rattle.model.proofs.Laws.DateText.{is_day→is_date}
use Rattle.table.specs.declared.node.Node.{Node}
use Rattle.table.specs.declared.node.Node.TheVariants.{Null, False, True, Integer, String, Array, Object}
use Rattle.table.specs.declared.node.Rows.{Rows}
use Rattle.table.specs.declared.row.Span.{Span}
use Rattle.syntax.specs.Layout.{item_count}
use native.Mathlib.Omega.{arith}
use Rattle.table.specs.Denotes.{Denotes, denotes_null, denotes_false, denotes_true, denotes_integer, denotes_string, denotes_array, denotes_object}
use Rattle.table.specs.Laws.Denotes.{array_count, array_parts}
use Rattle.table.specs.Laws.Every.{every_on}
use Rattle.table.specs.Node.{node_at, tail_of}
use Rattle.table.specs.Strings.{bytes_of}
use Rattle.type_set.specs.declared.set.TypeSet.{TypeSet}
use Rattle.type_set.specs.Laws.Fields.{any_types_in}
use Rattle.type_set.specs.Contract.{types_in}
use Rattle.sheet.specs.ByRows as rows
use Rattle.sheet.specs.ByRows.{every_item, array_belongs, string_belongs}
use Rattle.sheet.specs.Contract.{Belongs}
use Rattle.sheet.proofs.Rows.{rows_end, rows_stop, rows_next}

-- ---- the items of an array, by a test of their nodes
abbrev at_row : (Node → Bool) → Bytes → ℕ → Bool
at_row is R row = is (node_at R row)

module _ (is : Node → Bool) (R : Bytes) (q : Rows) where
  pub items_end : q.count ≡ 0 → true ≡ every_item is R q
  items_end e = rows_end (at_row is R) R q e

  module _ (more : 1 ≤ q.count) {n : Node} {b : Bool} (is_node : n ≡ node_at R q.first) (is_test : b ≡ is n) where
    pub other_item : b ≡ false → false ≡ every_item is R q
    other_item e = rows_stop (at_row is R) R q more (is_test ∙ ap is is_node) e

    pub items_on : {t : Rows} → b ≡ true → t ≡ tail_of R q → every_item is R t ≡ every_item is R q
    items_on {t} e f = rows_next (at_row is R) R q more (is_test ∙ ap is is_node) {r = every_item is R t} e f refl

-- A test of values that is one of nodes.
record TestsNodes (is : Node → Bool) (R B : Bytes) (test : Value → Bool) : Type 0 where
  pub same : (v : Value) (n : Node) → Denotes R B v n → is n ≡ test v

every_value : {is : Node → Bool} {R B : Bytes} {test : Value → Bool} → TestsNodes is R B test → (vs : Values) (q : Rows) → Denotes R B (array vs) (Array q) → every_item is R q ≡ all_items test vs
unfolding item_count
every_value {is} {R} t no_items q d = sym (items_end is R q (array_count d))
every_value {is} {R} {test = test} t (item v vs) q d =
    let p = array_parts d in
    let l : 1 ≤ q.count = omega (arith, array_count d) in
    sym (every_on (at_row is R) R q.first q.count l refl) ∙ ap₂ ◌&&◌ (t.same v (node_at R q.first) p.head) (every_value t vs (tail_of R q) p.rest)

integers_same : {R B : Bytes} → TestsNodes rows.is_integer R B is_integer
integers_same = record { same = λ v n. go }
  where
    go : {R B : Bytes} {v : Value} {n : Node} → Denotes R B v n → rows.is_integer n ≡ is_integer v
    go denotes_null = refl
    go denotes_false = refl
    go denotes_true = refl
    go (denotes_integer w e) = refl
    go (denotes_string l) = refl
    go (denotes_array c m r) = refl
    go (denotes_object c m r) = refl

strings_same : {R B : Bytes} → TestsNodes rows.is_string R B is_string
strings_same = record { same = λ v n. go }
  where
    go : {R B : Bytes} {v : Value} {n : Node} → Denotes R B v n → rows.is_string n ≡ is_string v
    go denotes_null = refl
    go denotes_false = refl
    go denotes_true = refl
    go (denotes_integer w e) = refl
    go (denotes_string l) = refl
    go (denotes_array c m r) = refl
    go (denotes_object c m r) = refl

-- ---- an array, by what its set has
of_array : (s : TypeSet) (vs : Values) → has_type (types_in s) (array vs) ≡ s.array || ((s.integers && all_items is_integer vs) || (s.strings && all_items is_string vs))
of_array s vs =
    let i = s.integers && all_items is_integer vs in
    let j = s.strings && all_items is_string vs in
    let e : has_type (types_in s) (array vs) ≡ i || (j || s.array) = any_types_in (belongs (array vs)) s ∙ simp (and-true, and-false, or-false) in
    e ∙ sym (or_comm s.array (i || j) ∙ or_assoc i j s.array)

array_is : (s : TypeSet) {R B : Bytes} (q : Rows) (vs : Values) → Denotes R B (array vs) (Array q) → array_belongs s R q ≡ has_type (types_in s) (array vs)
array_is s q vs d = rw (every_value integers_same vs q d, every_value strings_same vs q d) (sym (of_array s vs))

-- ---- a string: the widest type decides, since a day is a date, and a date is a string
string_is : (s : TypeSet) (t : Bytes) → string_belongs s t ≡ has_type (types_in s) (scalar (string t))
string_is s t =
    go s.string s.date s.day (is_date t) (is_day t) (is_day→is_date t)
    ∙ sym (any_types_in (belongs (scalar (string t))) s ∙ simp (and-true, and-false, or-false))
  where
    go : (a b c d e : Bool) → (T e → T d) → cond a true (cond b d (cond c e false)) ≡ a || ((b && d) || (c && e))
    go true b c d e h = refl
    go false true c true e h = refl
    go false true c false true h = absurd (h tt)
    go false true c false false h = sym (and-false c)
    go false false true d e h = refl
    go false false false d e h = refl

-- ---- any value
module _ (s : TypeSet) {R B : Bytes} where
  pub of_null : (v : Value) → Denotes R B v Null → s.null ≡ has_type (types_in s) v
  of_null v denotes_null = sym (any_types_in (belongs (scalar null)) s ∙ simp (and-true, and-false, or-false))

  pub of_false : (v : Value) → Denotes R B v False → s.boolean ≡ has_type (types_in s) v
  of_false v denotes_false = sym (any_types_in (belongs (scalar (boolean false))) s ∙ simp (and-true, and-false, or-false))

  pub of_true : (v : Value) → Denotes R B v True → s.boolean ≡ has_type (types_in s) v
  of_true v denotes_true = sym (any_types_in (belongs (scalar (boolean true))) s ∙ simp (and-true, and-false, or-false))

  pub of_integer : {n : ℕ} (v : Value) → Denotes R B v (Integer n) → s.integer ≡ has_type (types_in s) v
  of_integer v (denotes_integer {z = z} w e) = sym (any_types_in (belongs (scalar (integer z))) s ∙ simp (and-true, and-false, or-false))

  pub of_string : {p : Span} {r : Bool} → r ≡ string_belongs s (bytes_of B p) → Belongs s R B (String p) r
  of_string {p} {r} e = record { by_rows = e; is = go }
    where
      go : (v : Value) → Denotes R B v (String p) → r ≡ has_type (types_in s) v
      go v (denotes_string {s = t} l) = e ∙ ap (string_belongs s) (sym l.is) ∙ string_is s t

  pub of_items : {q : Rows} {r : Bool} → r ≡ array_belongs s R q → Belongs s R B (Array q) r
  of_items {q} {r} e = record { by_rows = e; is = go }
    where
      go : (v : Value) → Denotes R B v (Array q) → r ≡ has_type (types_in s) v
      go v (denotes_array {vs = vs} c m d) = e ∙ array_is s q vs (denotes_array c m d)

  pub of_object_lem : {q : Rows} (v : Value) → Denotes R B v (Object q) → s.object ≡ has_type (types_in s) v
  of_object_lem v (denotes_object {ms = ms} c m d) = sym (any_types_in (belongs (object ms)) s ∙ simp (and-true, and-false, or-false))
