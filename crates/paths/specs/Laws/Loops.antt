-- Loops: how a loop over the items of an array or the members of an object goes.
use Rattle.std.specs.Prelude.{◌≤◌, ◌≡◌}
use Rattle.std.proofs.Common.{arith}
use Rattle.model.specs.Bytes.{Bytes}
use Rattle.model.specs.Value.{Value, array, object, Values, no_items, item, Members, no_members, member}
use Rattle.syntax.specs.Layout.{item_count}
use Rattle.table.specs.declared.node.Node.TheVariants.{Array, Object}
use Rattle.table.specs.declared.node.Rows.{Rows}
use Rattle.table.specs.Denotes.{Denotes}
use Rattle.table.specs.Laws.Denotes.{ArrayParts, array_count, array_parts, ObjectParts, object_count, object_parts}

-- The invariant: an answer for what is left is one for the whole.
pub record Left {X : Type 0} (Rest Whole : X → Type 0) : Type 0 where
  pub goes : (r : X) → Rest r → Whole r

module _ {X : Type 0} where
  pub begins : {Whole : X → Type 0} → Left Whole Whole
  begins = record { goes = λ r x. x }

  pub goes_on : {Next Rest Whole : X → Type 0} → Left Rest Whole → ((r : X) → Next r → Rest r) → Left Next Whole
  goes_on left f = record { goes = λ r x. left.goes r (f r x) }

-- What holds of the items, by whether there is one.
module _ {T B : Bytes} {q : Rows} (G : Values → Type 0) where
  pub no_item : q.count ≡ 0 → G no_items → (vs : Values) → Denotes T B (array vs) (Array q) → G vs
  unfolding item_count
  no_item e g no_items d = g
  no_item e g (item v vs) d = absurd (omega (arith, array_count d))

  pub some_item : 1 ≤ q.count → ((v : Value) (vs : Values) → ArrayParts T B v vs q → G (item v vs)) → (vs : Values) → Denotes T B (array vs) (Array q) → G vs
  unfolding item_count
  some_item l g no_items d = absurd (omega (arith, array_count d))
  some_item l g (item v vs) d = g v vs (array_parts d)

-- What holds of the members.
module _ {T B : Bytes} {q : Rows} (G : Members → Type 0) where
  pub no_member : q.count ≡ 0 → G no_members → (ms : Members) → Denotes T B (object ms) (Object q) → G ms
  no_member e g no_members d = g
  no_member e g (member n v ms) d = absurd (omega (arith, object_count d))

  pub some_member : 1 ≤ q.count → ((n : Bytes) (v : Value) (ms : Members) → ObjectParts T B n v ms q → G (member n v ms)) → (ms : Members) → Denotes T B (object ms) (Object q) → G ms
  some_member l g no_members d = absurd (omega (arith, object_count d))
  some_member l g (member n v ms) d = g n v ms (object_parts d)
