-- Chains: the rule that an operation builds from its operands, as a chain of options, beside the chain of all rules.
use Rattle.std.specs.Prelude.{◌≡◌, refl, suc, length}
use Rattle.std.proofs.Common.{ap, arith}
use Rattle.std.specs.Prelude.{Option, None, Some}
use Rattle.model.specs.Bytes.{Bytes}
use Rattle.model.proofs.Laws.Logic.{clash}
use Rattle.model.proofs.Laws.Option.{none_some}
use Rattle.model.specs.Option.{◌>>=◌}
use Rattle.model.specs.Rule.{Rule, Rules, no_rules, rule}
use Rattle.model.specs.Shape.{Operand, operands_of, exactly2, exactly3, unit_named}
use Rattle.model.specs.Value.{Value, Values, no_items, item}
use Rattle.model.specs.declared.TimeUnit.{TimeUnit}
use Rattle.syntax.specs.Layout.{item_count}

pub bind_none : {A B : Type 0} (o : Option A) → ◌≡◌ {A = Option B} (o >>= λ a. None) None
bind_none None = refl
bind_none (Some a) = refl

-- ---- one rule
abbrev one_of : Option Rule → Option Rules
one_of o = o >>= λ r. Some (rule r no_rules)

pub one_refused : (o : Option Rule) (f : Rule → Rule) → one_of o ≡ None → (o >>= λ r. Some (f r)) ≡ None
one_refused None f e = refl
one_refused (Some r) f e = clash cc

pub record One (o : Option Rule) (f : Rule → Rule) (rs : Rules) : Type 0 where
  pub only : Rule
  pub all : rs ≡ rule only no_rules
  pub chain : (o >>= λ r. Some (f r)) ≡ Some (f only)

pub one_built : (o : Option Rule) (f : Rule → Rule) (rs : Rules) → one_of o ≡ Some rs → One o f rs
one_built None f rs e = none_some e
one_built (Some r) f rs e = record { only = r; all = cc; chain = refl }

-- ---- three rules
abbrev three_of : Option Rule → Option Rule → Option Rule → Option Rules
three_of a b c = do
  x ← a
  xs ← do
    y ← b
    ys ← do
      z ← c
      Some (rule z no_rules)
    Some (rule y ys)
  Some (rule x xs)

abbrev pub chain3 : Option Rule → Option Rule → Option Rule → (Rule → Rule → Rule → Rule) → Option Rule
chain3 a b c f = do
  x ← a
  y ← b
  z ← c
  Some (f x y z)

pub three_refused : (a b c : Option Rule) (f : Rule → Rule → Rule → Rule) → three_of a b c ≡ None → chain3 a b c f ≡ None
three_refused None b c f e = refl
three_refused (Some x) None c f e = refl
three_refused (Some x) (Some y) None f e = refl
three_refused (Some x) (Some y) (Some z) f e = clash cc

pub record Three (a b c : Option Rule) (f : Rule → Rule → Rule → Rule) (rs : Rules) : Type 0 where
  pub first : Rule
  pub second : Rule
  pub third : Rule
  pub all : rs ≡ rule first (rule second (rule third no_rules))
  pub chain : chain3 a b c f ≡ Some (f first second third)

pub three_built : (a b c : Option Rule) (f : Rule → Rule → Rule → Rule) (rs : Rules) → three_of a b c ≡ Some rs → Three a b c f rs
three_built None b c f rs e = none_some e
three_built (Some x) None c f rs e = none_some e
three_built (Some x) (Some y) None f rs e = none_some e
three_built (Some x) (Some y) (Some z) f rs e = record { first = x; second = y; third = z; all = cc; chain = refl }

-- ---- a unit behind a string
pub unit_chain : (o : Option Rule) (s : Option Bytes) {U : Option TimeUnit} (f : Rule → TimeUnit → Rule) → s >>= unit_named ≡ U
    → (o >>= λ r. s >>= λ t. unit_named t >>= λ u. Some (f r u)) ≡ (o >>= λ r. U >>= λ u. Some (f r u))
unit_chain o None f e = ap (λ (x : Option TimeUnit). o >>= λ r. x >>= λ u. Some (f r u)) e
unit_chain o (Some t) f e = ap (λ (x : Option TimeUnit). o >>= λ r. x >>= λ u. Some (f r u)) e

-- ---- the number of operands
pub operands_length : (vs : Values) → length (operands_of vs) ≡ item_count vs
unfolding operands_of item_count
operands_length no_items = refl
operands_length (item v vs) = ap suc (operands_length vs)

pub data Two : Values → Type 0 where
  two : {a b : Value} → Two (item a (item b no_items))

pub data ThreeItems : Values → Type 0 where
  three : {a b c : Value} → ThreeItems (item a (item b (item c no_items)))

pub two_of : (vs : Values) → item_count vs ≡ 2 → Two vs
unfolding item_count
two_of no_items e = absurd (omega arith)
two_of (item a no_items) e = absurd (omega arith)
two_of (item a (item b no_items)) e = two
two_of (item a (item b (item c vs))) e = absurd (omega arith)

pub three_of_lem : (vs : Values) → item_count vs ≡ 3 → ThreeItems vs
unfolding item_count
three_of_lem no_items e = absurd (omega arith)
three_of_lem (item a no_items) e = absurd (omega arith)
three_of_lem (item a (item b no_items)) e = absurd (omega arith)
three_of_lem (item a (item b (item c no_items))) e = three
three_of_lem (item a (item b (item c (item d vs)))) e = absurd (omega arith)

pub exactly2_none : {A : Type 0} (vs : Values) (f : Operand → Operand → Option A) → (item_count vs ≡ 2 → ⊥) → exactly2 (operands_of vs) f ≡ None
unfolding operands_of item_count
exactly2_none no_items f n = refl
exactly2_none (item a no_items) f n = refl
exactly2_none (item a (item b no_items)) f n = absurd (n refl)
exactly2_none (item a (item b (item c vs))) f n = refl

pub exactly3_none : {A : Type 0} (vs : Values) (f : Operand → Operand → Operand → Option A) → (item_count vs ≡ 3 → ⊥) → exactly3 (operands_of vs) f ≡ None
unfolding operands_of item_count
exactly3_none no_items f n = refl
exactly3_none (item a no_items) f n = refl
exactly3_none (item a (item b no_items)) f n = refl
exactly3_none (item a (item b (item c no_items))) f n = absurd (n refl)
exactly3_none (item a (item b (item c (item d vs)))) f n = refl
