-- Operands: the model's places as positions. The value at a place of a rule's value is the part at those positions, and another value in
-- the one place is another value at the others.
use Rattle.std.specs.Prelude.{◌≡◌, refl, [], ◌∷◌, ◌++◌, ℕ, zero, suc}
use Rattle.std.proofs.Common.{sym, ap, ◌∙◌}
use Rattle.std.specs.Prelude.{Some}
use Rattle.std.proofs.lemmas.Option.{same_Some}
use Rattle.model.proofs.Laws.Option.{none_some, bind_some}
use Rattle.model.specs.Option.{◌>>=◌, or_else}
use Rattle.model.specs.Path.{item_at}
use Rattle.model.specs.Place.{operand_values_in, subvalue, map_item, map_operand_value, replace_value}
use Rattle.model.specs.Run.{Place}
use Rattle.model.specs.Value.{Value, scalar, instant, array, object, Values, no_items, item, no_members, member}
use Rattle.syntax.specs.Locate.{Positions, part_at, map_part, replace_part, to_operand, positions_of}

-- One step down: what follows the positions of an operand goes on from it.
operand_part : (v : Value) (k : ℕ) (w : Value) (q : Positions) → item_at (operand_values_in v) k ≡ Some w → part_at (to_operand v k ++ q) v ≡ part_at q w
operand_part (scalar x) k w q e = none_some e
operand_part (instant t) k w q e = none_some e
operand_part (array vs) k w q e = ap (λ o. o >>= part_at q) e
operand_part (object no_members) k w q e = none_some e
operand_part (object (member n (scalar x) ms)) k w q e = none_some e
operand_part (object (member n (instant t) ms)) k w q e = none_some e
operand_part (object (member n (array vs) ms)) k w q e = ap (λ o. o >>= part_at q) e
operand_part (object (member n (object us) ms)) k w q e = none_some e

operand_mapped : (v : Value) (k : ℕ) (w : Value) (q : Positions) (f : Value → Value) → item_at (operand_values_in v) k ≡ Some w → map_part (to_operand v k ++ q) f v ≡ map_operand_value v k (map_part q f)
operand_mapped (scalar x) k w q f e = none_some e
operand_mapped (instant t) k w q f e = none_some e
operand_mapped (array vs) k w q f e = refl
operand_mapped (object no_members) k w q f e = none_some e
operand_mapped (object (member n (scalar x) ms)) k w q f e = none_some e
operand_mapped (object (member n (instant t) ms)) k w q f e = none_some e
operand_mapped (object (member n (array vs) ms)) k w q f e = refl
operand_mapped (object (member n (object us) ms)) k w q f e = none_some e

-- A change of the operand depends on what it gives of that operand alone.
item_alike : (vs : Values) (k : ℕ) (w : Value) (f g : Value → Value) → item_at vs k ≡ Some w → f w ≡ g w → map_item vs k f ≡ map_item vs k g
item_alike no_items k w f g e h = none_some e
item_alike (item v vs) zero w f g e h =
    let i = same_Some v w e in
    ap (λ x. item x vs) (ap f i ∙ h ∙ ap g (sym i))
item_alike (item v vs) (suc k) w f g e h = ap (item v) (item_alike vs k w f g e h)

operand_alike : (v : Value) (k : ℕ) (w : Value) (f g : Value → Value) → item_at (operand_values_in v) k ≡ Some w → f w ≡ g w → map_operand_value v k f ≡ map_operand_value v k g
operand_alike (scalar x) k w f g e h = refl
operand_alike (instant t) k w f g e h = refl
operand_alike (array vs) k w f g e h = ap array (item_alike vs k w f g e h)
operand_alike (object no_members) k w f g e h = refl
operand_alike (object (member n (scalar x) ms)) k w f g e h = refl
operand_alike (object (member n (instant t) ms)) k w f g e h = refl
operand_alike (object (member n (array vs) ms)) k w f g e h = ap (λ us. object (member n (array us) ms)) (item_alike vs k w f g e h)
operand_alike (object (member n (object us) ms)) k w f g e h = refl

-- ---- at any depth
positions_step : (v : Value) (k : ℕ) (w : Value) (q : Place) → item_at (operand_values_in v) k ≡ Some w → positions_of (k ∷ q) v ≡ to_operand v k ++ positions_of q w
positions_step v k w q e = ap (λ o. to_operand v k ++ or_else (o >>= λ w. Some (positions_of q w)) []) e

pub part_is_subvalue : (q : Place) (v u : Value) → subvalue q v ≡ Some u → part_at (positions_of q v) v ≡ Some u
part_is_subvalue [] v u h = h
part_is_subvalue (k ∷ q) v u h =
    bind_some (item_at (operand_values_in v) k) (subvalue q) h λ w i j.
    ap (λ p. part_at p v) (positions_step v k w q i) ∙ operand_part v k w (positions_of q w) i ∙ part_is_subvalue q w u j

pub replace_part_lem : (q : Place) (v u new : Value) → subvalue q v ≡ Some u → replace_part (positions_of q v) new v ≡ replace_value q new v
replace_part_lem [] v u new h = refl
replace_part_lem (k ∷ q) v u new h =
    bind_some (item_at (operand_values_in v) k) (subvalue q) h λ w i j.
    ap (λ p. replace_part p new v) (positions_step v k w q i)
    ∙ operand_mapped v k w (positions_of q w) (λ old. new) i
    ∙ operand_alike v k w (replace_part (positions_of q w) new) (replace_value q new) i (replace_part_lem q w u new j)
