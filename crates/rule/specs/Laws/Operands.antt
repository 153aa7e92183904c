-- Operands: an operation with operands in an array is seen as it is shaped.
use Rattle.std.specs.Prelude.{◌≡◌, Bool, true, false, ◌&&◌, cond, T as IsSo, eqb, leb, ltb, ℤ, length}
use Rattle.std.proofs.Math.Path.{refl, ap, subst}
use Rattle.std.proofs.Common.{sym, ap₂, ◌∙◌, arith, lt-ltb, le-ltb, le-leb, eqb-true}
use Rattle.std.specs.Prelude.{Option, None, Some}
use Prim.Native.Nat.{ℕ, suc, ◌≤◌, ◌<◌}
use Rattle.std.proofs.Math.Decide.{dec_lt}
use Rattle.std.proofs.lemmas.Bool.{lt-leb, eqb-false}
use Rattle.model.specs.Bytes.{Bytes}
use Rattle.model.proofs.Laws.Logic.{clash}
use Rattle.model.proofs.Laws.Option.{none_some}
use Rattle.model.proofs.Laws.Widths.{two_values}
use Rattle.model.specs.Option.{◌>>=◌, when, is_some}
use Rattle.model.specs.Rule.{Operation, Rule, apply, Rules, no_rules, rule}
use Rattle.model.specs.Shape.{Keyword as ModelKeyword, keyword_named, unit_named, rules_of, operands_of, exactly2, exactly3, and_of, content_of, build, shape}
use Rattle.model.specs.Size.{nesting, items_nesting}
use Rattle.model.specs.Value.{Value, scalar, instant, array, object, null, boolean, integer, string, Values, no_items, item, no_members, member, as_integer, as_string, within_limits}
use Rattle.model.specs.declared.TimeUnit.{TimeUnit}
use Rattle.syntax.specs.Layout.{item_count, biased}
use Rattle.table.specs.declared.node.Node.{Node}
use Rattle.table.specs.declared.node.Node.TheVariants.{Array}
use Rattle.table.specs.declared.node.Rows.{Rows}
use Rattle.table.specs.Denotes.{Denotes, denotes_null, denotes_false, denotes_true, denotes_integer, denotes_string, denotes_array, denotes_object, RowItems, no_row_items, row_item}
use Rattle.table.specs.Node.{node_at, next_row}
use Rattle.table.specs.Laws.Denotes as DenotesLaws
use Rattle.keywords.specs.declared.Keyword.{Keyword}
use Rattle.keywords.specs.declared.Keyword.TheVariants as Keywords
use Rattle.keywords.specs.declared.Op.{Op}
use Rattle.keywords.specs.declared.Op.TheVariants as Ops
use Rattle.keywords.specs.Contract.{operation_of, keyword_of, Stands, stands_plus_time, stands_extract}
use Rattle.rule.specs.declared.view.View.{View}
use Rattle.rule.specs.declared.view.View.TheVariants as Views
use Rattle.rule.specs.Holds.{rule_count}
use Rattle.rule.specs.View.{counted_on, and_on, first_of, integer_of, unit_at, plus_time_by, plus_time_on, extract_by, extract_on, operands_on}
use Rattle.rule.specs.Contract.{Built, built_if, built_and, built_reduce, built_apply, Builds, has_if, has_and, has_reduce, has_apply, Has, Lists, lists_content, Operates, Shaped, shaped_none, shaped_operation}
use Rattle.rule.specs.Laws.Holds.{rules_count}
use Rattle.rule.specs.Laws.Chains.{bind_none, one_refused, one_built, three_refused, three_built, unit_chain, operands_length, chain3, Two, two, two_of, ThreeItems, three, three_of_lem, exactly2_none, exactly3_none}
use Rattle.rule.specs.Laws.Table.{named_stands}

-- ---- the number of operands
module _ {T B : Bytes} {v : Value} {q : Rows} where
  -- From `least` to `most` of them.
  counted_views : (least most : ℕ) (w : View) → (q.count < least → shape v ≡ None) → (most < q.count → shape v ≡ None) → (least ≤ q.count → q.count ≤ most → Operates T B v w q)
      → Shaped T B v (counted_on least most w q)
  counted_views least most w below above fits = low (dec_lt q.count least)
    where
      high : least ≤ q.count → Dec (most < q.count) → Shaped T B v (cond (ltb most q.count) None (Some w))
      high l (yes p) = rw (lt-ltb most q.count p) (shaped_none (above p))
      high l (no p) = rw (le-ltb most q.count (omega arith)) (shaped_operation (fits l (omega arith)))

      low : Dec (q.count < least) → Shaped T B v (cond (ltb q.count least) None (cond (ltb most q.count) None (Some w)))
      low (yes p) = rw (lt-ltb q.count least p) (shaped_none (below p))
      low (no p) = rw (le-ltb q.count least (omega arith)) (high (omega arith) (dec_lt most q.count))

  and_views : (q.count < 2 → shape v ≡ None) → (2 ≤ q.count → Operates T B v (Views.And q) q) → Shaped T B v (and_on q)
  and_views below fits = go (dec_lt q.count 2)
    where
      go : Dec (q.count < 2) → Shaped T B v (cond (ltb q.count 2) None (Some (Views.And q)))
      go (yes p) = rw (lt-ltb q.count 2 p) (shaped_none (below p))
      go (no p) = rw (le-ltb q.count 2 (omega arith)) (shaped_operation (fits (omega arith)))

-- Exactly n of them.
exact_views : {T B : Bytes} {v : Value} (count n : ℕ) {w : Option View} → ((count ≡ n → ⊥) → shape v ≡ None) → (count ≡ n → Shaped T B v w) → Shaped T B v (when (eqb count n) w)
exact_views {T} {B} {v} count n {w} others fits = go (eqb count n) refl
  where
    go : (b : Bool) → eqb count n ≡ b → Shaped T B v (when b w)
    go true e = fits (eqb-true count n e)
    go false e = shaped_none (others (eqb-false count n e))

-- ---- operations by keyword
-- An object of one member.
abbrev pub of : Bytes → Value → Value
of name v = object (member name v no_members)

pub keyword_shape : (name : Bytes) (v : Value) {o : Option ModelKeyword} → o ≡ keyword_named name → shape (of name v) ≡ (o >>= build (content_of v))
unfolding shape
keyword_shape name v e = ap (λ (o : Option ModelKeyword). o >>= build (content_of v)) (sym e)

of_nests : (name : Bytes) (vs : Values) → suc (items_nesting vs) ≤ nesting (of name (array vs))
unfolding nesting
of_nests name vs = omega arith

module _ {T B : Bytes} {vs : Values} {q : Rows} (name : Bytes) (m : Denotes T B (array vs) (Array q)) where
  count_is : q.count ≡ item_count vs
  count_is = DenotesLaws.array_count m

  nests : suc (items_nesting vs) ≤ nesting (of name (array vs))
  nests = of_nests name vs

  -- Three rules.
  three_views : (w : View) (f : Rule → Rule → Rule → Rule) → Has w q → ((r₀ r₁ r₂ : Rule) → Built w q (rule r₀ (rule r₁ (rule r₂ no_rules))) (f r₀ r₁ r₂))
      → shape (of name (array vs)) ≡ exactly3 (operands_of vs) (λ a b c. chain3 a.as_rule b.as_rule c.as_rule f)
      → Shaped T B (of name (array vs)) (counted_on 3 3 w q)
  unfolding operands_of
  three_views w f x b e =
      counted_views 3 3 w
      (λ l. e ∙ exactly3_none vs _ (λ x. omega (arith, count_is)))
      (λ l. e ∙ exactly3_none vs _ (λ x. omega (arith, count_is)))
      (λ l k. operates (three_of_lem vs (omega (arith, count_is))) refl e m nests)
    where
      operates : {ws : Values} → ThreeItems ws → vs ≡ ws → shape (of name (array vs)) ≡ exactly3 (operands_of ws) (λ a b c. chain3 a.as_rule b.as_rule c.as_rule f)
          → Denotes T B (array ws) (Array q) → suc (items_nesting ws) ≤ nesting (of name (array vs)) → Operates T B (of name (array vs)) w q
      operates (three {a = a} {b = b'} {c = c}) same e m n = record {
        has = x;
        operands = item a (item b' (item c no_items));
        denotes = m;
        listed = vs;
        lists = lists_content;
        bare = ap (λ (xs : Values). is_some (rules_of (operands_of xs))) same;
        nests = n;
        refused = λ z. e ∙ three_refused (shape a) (shape b') (shape c) f z;
        builds = λ rs z.
            let t = three_built (shape a) (shape b') (shape c) f rs z in
            record { whole = f t.first t.second t.third; shaped = e ∙ t.chain; built = subst (λ (xs : Rules). Built w q xs (f t.first t.second t.third)) (sym t.all) (b t.first t.second t.third) };
      }

  -- Two rules or more.
  and_operates : 2 ≤ q.count → shape (of name (array vs)) ≡ when (leb 2 (length (operands_of vs))) (rules_of (operands_of vs) >>= and_of) → Operates T B (of name (array vs)) (Views.And q) q
  and_operates l e = record {
    has = has_and;
    operands = vs;
    denotes = m;
    listed = vs;
    lists = lists_content;
    bare = refl;
    nests = nests;
    refused = λ x. whole ∙ ap (λ (o : Option Rules). o >>= and_of) x;
    builds = λ rs x. builds rs (whole ∙ ap (λ (o : Option Rules). o >>= and_of) x) (omega (arith, count_is, rules_count vs rs x));
  }
    where
      whole : shape (of name (array vs)) ≡ (rules_of (operands_of vs) >>= and_of)
      whole = e ∙ ap (λ (b : Bool). when b (rules_of (operands_of vs) >>= and_of)) (le-leb 2 (length (operands_of vs)) (omega (arith, count_is, operands_length vs)))

      builds : (rs : Rules) → shape (of name (array vs)) ≡ and_of rs → 2 ≤ rule_count rs → Builds (of name (array vs)) (Views.And q) q rs
      builds no_rules f k = absurd (omega arith)
      builds (rule r rs) f k = record { whole = Rule.and r rs; shaped = f; built = built_and }

  all_views : shape (of name (array vs)) ≡ when (leb 2 (length (operands_of vs))) (rules_of (operands_of vs) >>= and_of) → Shaped T B (of name (array vs)) (and_on q)
  all_views e =
      and_views
      (λ l. e ∙ ap (λ (b : Bool). when b (rules_of (operands_of vs) >>= and_of)) (lt-leb 2 (length (operands_of vs)) (omega (arith, count_is, operands_length vs))))
      (λ l. and_operates l e)

  -- From `least` to `most` rules, for an operation that stands for the model's.
  module _ (least most : ℕ) (op : Op) (o : Operation) (stands : (n : ℕ) → least ≤ n → n ≤ most → Stands op o n) where
    abbrev counting : Bool → Bool → Option Rule
    counting a b = when (a && b) (rules_of (operands_of vs) >>= λ rs. Some (apply o rs))

    -- The number of operands is that of items.
    low : (b : Bool) → leb least q.count ≡ b → leb least (length (operands_of vs)) ≡ b
    low b e = ap (leb least) (operands_length vs ∙ sym count_is) ∙ e

    high : (b : Bool) → leb q.count most ≡ b → leb (length (operands_of vs)) most ≡ b
    high b e = ap (λ (n : ℕ). leb n most) (operands_length vs ∙ sym count_is) ∙ e

    and_none : (b : Bool) → counting b false ≡ None
    and_none true = refl
    and_none false = refl

    some_views : shape (of name (array vs)) ≡ counting (leb least (length (operands_of vs))) (leb (length (operands_of vs)) most) → Shaped T B (of name (array vs)) (counted_on least most (Views.Apply op q) q)
    some_views e =
        counted_views least most (Views.Apply op q)
        (λ l. e ∙ ap (λ (b : Bool). counting b (leb (length (operands_of vs)) most)) (low false (lt-leb least q.count l)))
        (λ l. e ∙ ap (counting (leb least (length (operands_of vs)))) (high false (lt-leb q.count most l)) ∙ and_none (leb least (length (operands_of vs))))
        (λ l k. operates l k (e ∙ ap₂ counting (low true (le-leb least q.count l)) (high true (le-leb q.count most k))))
      where
        operates : least ≤ q.count → q.count ≤ most → shape (of name (array vs)) ≡ (rules_of (operands_of vs) >>= λ rs. Some (apply o rs)) → Operates T B (of name (array vs)) (Views.Apply op q) q
        operates l k f = record {
          has = has_apply;
          operands = vs;
          denotes = m;
          listed = vs;
          lists = lists_content;
          bare = refl;
          nests = nests;
          refused = λ x. f ∙ ap (λ (r : Option Rules). r >>= λ rs. Some (apply o rs)) x;
          builds = λ rs x. record {
            whole = apply o rs;
            shaped = f ∙ ap (λ (r : Option Rules). r >>= λ rs. Some (apply o rs)) x;
            built = built_apply (stands (rule_count rs) (omega (arith, count_is, rules_count vs rs x)) (omega (arith, count_is, rules_count vs rs x)));
          };
        }

-- ---- bare integers and units
-- What an integer stands for, and what no integer does.
data IntegerAt (v : Value) (h : Node) : Type 0 where
  integer_at : {z : ℤ} {n : ℕ} → integer_of h ≡ Some n → as_integer v ≡ Some z → IsSo (within_limits z) → n ≡ biased z → IntegerAt v h
  other_at : as_integer v ≡ None → integer_of h ≡ None → IntegerAt v h

-- ---- one rule and bare operands
-- Values that are all rules.
data Passing : Values → Type 0 where
  all_passing : Passing no_items
  a_passing : {v : Value} {vs : Values} → is_some (shape v) ≡ true → Passing vs → Passing (item v vs)

passing : {vs : Values} → Passing vs → is_some (rules_of (operands_of vs)) ≡ true
unfolding operands_of
passing all_passing = refl
passing (a_passing {v = v} {vs = vs} e p) = go (shape v) (rules_of (operands_of vs)) e (passing p)
  where
    go : (a : Option Rule) (b : Option Rules) → is_some a ≡ true → is_some b ≡ true → is_some (a >>= λ r. b >>= λ rs. Some (rule r rs)) ≡ true
    go None b e f = clash cc
    go (Some r) None e f = clash cc
    go (Some r) (Some rs) e f = refl

-- With these behind it, the first decides.
rest_passes : (a : Option Rule) (vs : Values) → Passing vs → is_some (a >>= λ r. rules_of (operands_of vs) >>= λ rs. Some (rule r rs)) ≡ is_some (a >>= λ r. Some (rule r no_rules))
rest_passes a vs p = go a (rules_of (operands_of vs)) (passing p)
  where
    go : (a : Option Rule) (b : Option Rules) → is_some b ≡ true → is_some (a >>= λ r. b >>= λ rs. Some (rule r rs)) ≡ is_some (a >>= λ r. Some (rule r no_rules))
    go None b e = refl
    go (Some r) None e = clash cc
    go (Some r) (Some rs) e = refl

integer_passes : (v : Value) {z : ℤ} → as_integer v ≡ Some z → is_some (shape v) ≡ true
unfolding shape
integer_passes (scalar null) e = none_some e
integer_passes (scalar (boolean b)) e = none_some e
integer_passes (scalar (integer z)) e = refl
integer_passes (scalar (string s)) e = none_some e
integer_passes (instant t) e = none_some e
integer_passes (array vs) e = none_some e
integer_passes (object ms) e = none_some e

unit_passes : (v : Value) {u : TimeUnit} → as_string v >>= unit_named ≡ Some u → is_some (shape v) ≡ true
unfolding shape
unit_passes (scalar null) e = none_some e
unit_passes (scalar (boolean b)) e = none_some e
unit_passes (scalar (integer z)) e = none_some e
unit_passes (scalar (string s)) e = refl
unit_passes (instant t) e = none_some e
unit_passes (array vs) e = none_some e
unit_passes (object ms) e = none_some e

-- The rule that each of the two builds.
abbrev extracted : Option Rule → Option ℤ → Option Rule
extracted o i = do
  r ← o
  n ← i
  Some (apply (Operation.extract_from_uvci n) (rule r no_rules))

abbrev shifted : Option Rule → Option ℤ → Option Bytes → Option Rule
shifted o i t = do
  r ← o
  n ← i
  s ← t
  u ← unit_named s
  Some (apply (Operation.plus_time n u) (rule r no_rules))

-- The first item alone, and the others where they lie.
record Bare (T B : Bytes) (a b : Value) (vs : Values) (q : Rows) : Type 0 where
  only : Denotes T B (array (item a no_items)) (Array (first_of q))
  second : Denotes T B b (node_at T (next_row T q.first))
  rest : RowItems T B (next_row T (next_row T q.first)) vs

module _ {T B : Bytes} where
  integer_of_lem : {v : Value} {h : Node} → Denotes T B v h → IntegerAt v h
  integer_of_lem denotes_null = other_at refl refl
  integer_of_lem denotes_false = other_at refl refl
  integer_of_lem denotes_true = other_at refl refl
  integer_of_lem (denotes_integer w e) = integer_at refl refl w e
  integer_of_lem (denotes_string l) = other_at refl refl
  integer_of_lem (denotes_array e f r) = other_at refl refl
  integer_of_lem (denotes_object e f r) = other_at refl refl

  unit_of_lem : {v : Value} {h : Node} → Denotes T B v h → as_string v >>= unit_named ≡ unit_at B h
  unit_of_lem denotes_null = refl
  unit_of_lem denotes_false = refl
  unit_of_lem denotes_true = refl
  unit_of_lem (denotes_integer w e) = refl
  unit_of_lem (denotes_string l) = ap unit_named l.is
  unit_of_lem (denotes_array e f r) = refl
  unit_of_lem (denotes_object e f r) = refl

  bare : {a b : Value} {vs : Values} {q : Rows} → Denotes T B (array (item a (item b vs))) (Array q) → Bare T B a b vs q
  unfolding item_count
  bare {a} {q = q} (denotes_array e f (row_item l t m (row_item l' t' m' r))) = record {
    only = denotes_array {vs = item a no_items} {q = first_of q} refl (omega (arith, two_values)) (row_item {vs = no_items} l t m (no_row_items {row = next_row T q.first} (omega arith)));
    second = m';
    rest = r;
  }

  third : {c : Value} {row : ℕ} → RowItems T B row (item c no_items) → Denotes T B c (node_at T row)
  third (row_item l t m r) = m

  -- An operation on the first item, the others bare.
  on_first : {v a : Value} {vs : Values} → Lists v (item a vs) → Passing vs → (q : Rows) (op : Op) (o : Operation) → Denotes T B (array (item a no_items)) (Array (first_of q)) → suc (items_nesting (item a no_items)) ≤ nesting v → Stands op o 1
      → shape v ≡ (shape a >>= λ r. Some (apply o (rule r no_rules))) → Shaped T B v (Some (Views.Apply op (first_of q)))
  unfolding operands_of
  on_first {v} {a} {vs} ls ps q op o m n s e = shaped_operation {w = Views.Apply op (first_of q)} {q = first_of q} record {
    has = has_apply;
    operands = item a no_items;
    denotes = m;
    listed = item a vs;
    lists = ls;
    bare = rest_passes (shape a) vs ps;
    nests = n;
    refused = λ x. e ∙ one_refused (shape a) (λ r. apply o (rule r no_rules)) x;
    builds = λ rs x.
        let t = one_built (shape a) (λ r. apply o (rule r no_rules)) rs x in
        record { whole = apply o (rule t.only no_rules); shaped = e ∙ t.chain; built = subst (λ (xs : Rules). Built (Views.Apply op (first_of q)) (first_of q) xs (apply o (rule t.only no_rules))) (sym t.all) (built_apply s) };
  }

  extract_by_lem : {v a b : Value} {h : Node} → Lists v (item a (item b no_items)) → (q : Rows) → Denotes T B (array (item a no_items)) (Array (first_of q)) → suc (items_nesting (item a no_items)) ≤ nesting v
      → IntegerAt b h → shape v ≡ extracted (shape a) (as_integer b) → Shaped T B v (extract_by (integer_of h) q)
  extract_by_lem {a = a} {b = b} ls q m n (integer_at {z = z} {n = k} i g w f) e =
      rw i (on_first ls (a_passing (integer_passes b g) all_passing) q (Ops.ExtractFromUvci k) (Operation.extract_from_uvci z) m n (stands_extract refl w f) (e ∙ ap (extracted (shape a)) g))
  extract_by_lem {a = a} ls q m n (other_at g y) e =
      rw y (shaped_none (e ∙ ap (extracted (shape a)) g ∙ bind_none (shape a)))

  plus_time_of_lem : {v a b c : Value} → Lists v (item a (item b (item c no_items))) → is_some (shape b) ≡ true → (q : Rows) (z : ℤ) {k : ℕ} → Denotes T B (array (item a no_items)) (Array (first_of q)) → suc (items_nesting (item a no_items)) ≤ nesting v
      → IsSo (within_limits z) → k ≡ biased z → (o : Option TimeUnit) → as_string c >>= unit_named ≡ o → shape v ≡ (shape a >>= λ r. o >>= λ u. Some (apply (Operation.plus_time z u) (rule r no_rules))) → Shaped T B v (plus_time_by (Some k) o q)
  plus_time_of_lem {a = a} ls b q z m n w f None u e = shaped_none (e ∙ bind_none (shape a))
  plus_time_of_lem {c = c} ls b q z {k} m n w f (Some u) x e = on_first ls (a_passing b (a_passing (unit_passes c x) all_passing)) q (Ops.PlusTime k u) (Operation.plus_time z u) m n (stands_plus_time refl w f) e

  plus_time_by_lem : {v a b c : Value} {h g : Node} → Lists v (item a (item b (item c no_items))) → (q : Rows) → Denotes T B (array (item a no_items)) (Array (first_of q)) → suc (items_nesting (item a no_items)) ≤ nesting v
      → IntegerAt b h → Denotes T B c g → shape v ≡ shifted (shape a) (as_integer b) (as_string c) → Shaped T B v (plus_time_by (integer_of h) (unit_at B g) q)
  plus_time_by_lem {a = a} {b = b} {c = c} {g = g} ls q m n (integer_at {z = z} i x w f) y e =
      rw i (plus_time_of_lem ls (integer_passes b x) q z m n w f (unit_at B g) (unit_of_lem y)
      (e ∙ ap (λ (o : Option ℤ). shifted (shape a) o (as_string c)) x
      ∙ unit_chain (shape a) (as_string c) (λ r u. apply (Operation.plus_time z u) (rule r no_rules)) (unit_of_lem y)))
  plus_time_by_lem {a = a} {c = c} {g = g} ls q m n (other_at x y) k e =
      rw y (shaped_none
      (e ∙ ap (λ (o : Option ℤ). shifted (shape a) o (as_string c)) x
      ∙ bind_none (shape a)))

-- ---- all of them
module _ {T B : Bytes} where
  extract_views : {v : Value} {vs : Values} {q : Rows} → Lists v vs → Denotes T B (array vs) (Array q) → suc (items_nesting vs) ≤ nesting v
      → shape v ≡ exactly2 (operands_of vs) (λ a b. extracted a.as_rule (as_integer b.value)) → Shaped T B v (extract_on T q)
  unfolding operands_of items_nesting
  extract_views {v} {vs} {q} ls m n e =
      exact_views q.count 2
      (λ x. e ∙ exactly2_none vs _ (λ y. x (DenotesLaws.array_count m ∙ y)))
      (λ x. go (two_of vs (sym (DenotesLaws.array_count m) ∙ x)) ls m n e)
    where
      go : {ws : Values} → Two ws → Lists v ws → Denotes T B (array ws) (Array q) → suc (items_nesting ws) ≤ nesting v
          → shape v ≡ exactly2 (operands_of ws) (λ a b. extracted a.as_rule (as_integer b.value))
          → Shaped T B v (extract_by (integer_of (node_at T (next_row T q.first))) q)
      go (two {a = a} {b = b}) ls m n e = let t = bare m in extract_by_lem ls q t.only (omega arith) (integer_of_lem t.second) e

  plus_time_views : {v : Value} {vs : Values} {q : Rows} → Lists v vs → Denotes T B (array vs) (Array q) → suc (items_nesting vs) ≤ nesting v
      → shape v ≡ exactly3 (operands_of vs) (λ a b c. shifted a.as_rule (as_integer b.value) (as_string c.value))
      → Shaped T B v (plus_time_on T B q)
  unfolding operands_of items_nesting
  plus_time_views {v} {vs} {q} ls m n e =
      exact_views q.count 3
      (λ x. e ∙ exactly3_none vs _ (λ y. x (DenotesLaws.array_count m ∙ y)))
      (λ x. go (three_of_lem vs (sym (DenotesLaws.array_count m) ∙ x)) ls m n e)
    where
      go : {ws : Values} → ThreeItems ws → Lists v ws → Denotes T B (array ws) (Array q) → suc (items_nesting ws) ≤ nesting v
          → shape v ≡ exactly3 (operands_of ws) (λ a b c. shifted a.as_rule (as_integer b.value) (as_string c.value))
          → Shaped T B v (plus_time_by (integer_of (node_at T (next_row T q.first))) (unit_at B (node_at T (next_row T (next_row T q.first)))) q)
      go (three {a = a} {b = b} {c = c}) ls m n e = let t = bare m in plus_time_by_lem ls q t.only (omega arith) (integer_of_lem t.second) (third t.rest) e

  -- Any keyword.
  pub operands_views_lem : {vs : Values} {q : Rows} (k : Keyword) (name : Bytes) → keyword_of (Some k) ≡ keyword_named name → Denotes T B (array vs) (Array q)
      → Shaped T B (of name (array vs)) (operands_on T B k q)
  unfolding content_of
  operands_views_lem {vs} Keywords.Var name e m = shaped_none (keyword_shape name (array vs) e)
  operands_views_lem {vs} Keywords.If name e m = three_views name m (Views.If _) Rule.if has_if (λ a b c. built_if) (keyword_shape name (array vs) e)
  operands_views_lem {vs} Keywords.Reduce name e m = three_views name m (Views.Reduce _) Rule.reduce has_reduce (λ a b c. built_reduce) (keyword_shape name (array vs) e)
  operands_views_lem {vs} Keywords.And name e m = all_views name m (keyword_shape name (array vs) e)
  operands_views_lem {vs} Keywords.PlusTime name e m = plus_time_views lists_content m (of_nests name vs) (keyword_shape name (array vs) e)
  operands_views_lem {vs} Keywords.ExtractFromUvci name e m = extract_views lists_content m (of_nests name vs) (keyword_shape name (array vs) e)
  operands_views_lem {vs} (Keywords.Counted least most op) name e m =
      some_views name m least most op (operation_of op) (λ n. named_stands least most n op name (sym e)) (keyword_shape name (array vs) e)
