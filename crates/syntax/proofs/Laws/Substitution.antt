-- Substitution: the bytes of one value of a text that reads give way to another text that reads (01, Evaluation). What comes of it is a text
-- of the grammar, and reads as the old value with the new one in that place, unless it passes a limit.
use Rattle.std.specs.Prelude.{◌≡◌, refl, [], ◌∷◌, ◌++◌, ℕ, zero, suc, ◌≤◌}
use Rattle.std.proofs.Math.Path.{sym, ap}
use Rattle.std.proofs.Common.{subst, ◌∙◌, arith}
use Rattle.std.specs.Prelude.{Some}
use Rattle.std.proofs.lemmas.Option.{same_Some}
use Rattle.std.proofs.Math.ListN.{length, length-append}
use Rattle.model.specs.Bytes.{Bytes}
use Rattle.model.proofs.Laws.Option.{none_some, bind_some}
use Rattle.model.specs.Limits.{max_text_bytes, max_values, max_nesting}
use Rattle.model.proofs.Main.{operand_is_rule}
use Rattle.model.specs.Path.{item_at}
use Rattle.model.specs.Place.{subrule, subvalue, replace_value}
use Rattle.model.specs.declared.refusal.ReadFault.{ReadFault}
use Rattle.model.specs.declared.refusal.ReadFault.TheVariants.{TooLarge}
use Rattle.model.specs.Rule.{Rule}
use Rattle.model.specs.Run.{Place}
use Rattle.model.specs.Shape.{shape}
use Rattle.model.specs.Size.{value_count, items_count, members_count, nesting, items_nesting, members_nesting}
use Rattle.model.specs.Value.{Value, scalar, instant, array, object, Values, no_items, item, Members, no_members, member}
use Rattle.syntax.specs.Grammar.{no_ws, JText, jtext, spell_ws, spell_value, spell, meaning}
use Rattle.syntax.specs.Locate.{Positions, content_at, child_at, part_at, replace_part, StandsAt, positions_of}
use Rattle.syntax.specs.Read.{done, refuse, read}
use Rattle.syntax.proofs.Laws.Complete.{complete, unambiguous}
use Rattle.syntax.proofs.Laws.Locate.{in_text, site_there}
use Rattle.syntax.proofs.Laws.OnlyLimits.{refused_large}
use Rattle.syntax.proofs.Laws.Operands.{part_is_subvalue, replace_part_lem}
use Rattle.syntax.proofs.Laws.Sound.{sound}

-- ---- a part is no larger than the whole
item_within : (vs : Values) (k : ℕ) (u : Value) → item_at vs k ≡ Some u → (value_count u ≤ items_count vs) × (nesting u ≤ items_nesting vs)
unfolding items_count items_nesting
item_within no_items k u e = none_some e
item_within (item v vs) zero u e =
    let c = ap value_count (same_Some v u e) in
    let n = ap nesting (same_Some v u e) in
    (omega arith, omega arith)
item_within (item v vs) (suc k) u e =
    let (c, n) = item_within vs k u e in
    (omega arith, omega arith)

content_within : (ms : Members) (k : ℕ) (u : Value) → content_at ms k ≡ Some u → (value_count u ≤ members_count ms) × (nesting u ≤ members_nesting ms)
unfolding members_count members_nesting
content_within no_members k u e = none_some e
content_within (member name v ms) zero u e =
    let c = ap value_count (same_Some v u e) in
    let n = ap nesting (same_Some v u e) in
    (omega arith, omega arith)
content_within (member name v ms) (suc k) u e =
    let (c, n) = content_within ms k u e in
    (omega arith, omega arith)

pub child_within : (v : Value) (k : ℕ) (u : Value) → child_at v k ≡ Some u → (value_count u ≤ value_count v) × (nesting u ≤ nesting v)
unfolding value_count nesting
child_within (scalar x) k u e = none_some e
child_within (instant t) k u e = none_some e
child_within (array vs) k u e =
    let (c, n) = item_within vs k u e in
    (omega arith, omega arith)
child_within (object ms) k u e =
    let (c, n) = content_within ms k u e in
    (omega arith, omega arith)

pub part_within : (q : Positions) (v u : Value) → part_at q v ≡ Some u → (value_count u ≤ value_count v) × (nesting u ≤ nesting v)
part_within [] v u e =
    let c = ap value_count (same_Some v u e) in
    let n = ap nesting (same_Some v u e) in
    (omega arith, omega arith)
part_within (k ∷ q) v u e =
    bind_some (child_at v k) (part_at q) e λ w i j.
    let (c, n) = child_within v k w i in
    let (c₂, n₂) = part_within q w u j in
    (omega arith, omega arith)

-- ---- where a value stands in a text
module _ {text : Bytes} {q : Positions} {before old after : Bytes} (s : StandsAt text q before old after) where
  derives : (v : Value) → read text ≡ done v → meaning s.tree ≡ Some v
  derives v e = unambiguous s.tree v (ap read s.spells ∙ e)

  -- By themselves the value's bytes read as the part of the value at these positions.
  pub stands_reads : (v : Value) → read text ≡ done v → (u : Value) × (part_at q v ≡ Some u) × (read old ≡ done u)
  unfolding spell meaning spell_ws
  stands_reads v e =
      let (u, i, j) = (in_text s.tree q _ s.there).part v (derives v e) in
      let (w, short) = sound text v e in
      let (c, n) = part_within q v u i in
      let lengths = ap length s.splits ∙ length-append before (old ++ after) in
      let inner = length-append old after in
      let is = ap length s.is in
      (u, i, sym (ap read s.is) ∙ complete (jtext no_ws s.value no_ws) u j (omega (arith, w.few)) (omega (arith, w.flat)) (omega arith))

  -- The bytes of that one value give way to another text that reads: there is a derivation of what comes of it,
  derived : (new : Bytes) (v u : Value) → read text ≡ done v → read new ≡ done u → (d : JText) × (spell d ≡ before ++ (new ++ after)) × (meaning d ≡ Some (replace_part q u v))
  derived new v u hv hu =
      let w = (sound new u hu).0 in
      let (d, spells, means) = (in_text s.tree q _ s.there).put w.tree in
      (d, spells ∙ ap (λ m. before ++ (m ++ after)) w.spells, means v u (derives v hv) w.means)

  -- so if that reads, it is the old value with the new one in its place,
  pub replaced : (new : Bytes) (v u w : Value) → read text ≡ done v → read new ≡ done u → read (before ++ (new ++ after)) ≡ done w → w ≡ replace_part q u v
  replaced new v u w hv hu hw =
      let (d, spells, means) = derived new v u hv hu in
      same_Some w (replace_part q u v) (sym (unambiguous d w (ap read spells ∙ hw)) ∙ means)

  -- and it reads if it is within the limits.
  pub replaced_reads : (new : Bytes) (v u : Value) → read text ≡ done v → read new ≡ done u
      → length (before ++ (new ++ after)) ≤ max_text_bytes
      → value_count (replace_part q u v) ≤ max_values
      → nesting (replace_part q u v) ≤ max_nesting
      → read (before ++ (new ++ after)) ≡ done (replace_part q u v)
  replaced_reads new v u hv hu short few flat =
      let (d, spells, means) = derived new v u hv hu in
      let long = ap length spells in
      sym (ap read spells) ∙ complete d (replace_part q u v) means few flat (omega arith)

  -- Else it is refused with 5, and with nothing else.
  pub replaced_refused : (new : Bytes) (v u : Value) → read text ≡ done v → read new ≡ done u → (k : ReadFault) (p : ℕ) → read (before ++ (new ++ after)) ≡ refuse k p → k ≡ TooLarge
  replaced_refused new v u hv hu k p e =
      let (d, spells, means) = derived new v u hv hu in
      refused_large d (replace_part q u v) means k p (ap read spells ∙ e)

-- Every part of what a text reads as stands in the text.
pub stands : (text : Bytes) (q : Positions) (v u : Value) → read text ≡ done v → part_at q v ≡ Some u → (before : Bytes) × (old : Bytes) × (after : Bytes) × StandsAt text q before old after
stands text q v u e h =
    let w = (sound text v e).0 in
    let (s, i) = site_there w.tree q v u w.means h in (
      s.before,
      spell_value s.value [],
      s.after,
      record { splits = sym w.spells ∙ (in_text w.tree q s i).splits; tree = w.tree; spells = w.spells; value = s.value; there = i; is = refl },
    )

-- ---- operands
-- An operand rule is a part of what the text reads as.
operand_part : (q : Place) (v : Value) (r t : Rule) → shape v ≡ Some r → subrule q r ≡ Some t → (u : Value) × (subvalue q v ≡ Some u) × (part_at (positions_of q v) v ≡ Some u) × (shape u ≡ Some t)
operand_part q v r t e h =
    let (u, i, j) = operand_is_rule v r t q e h in
    (u, i, part_is_subvalue q v u i, j)

-- The bytes of an operand rule give way to another text that reads: if the whole reads, it is the value with that operand replaced.
pub replaced_operand : {text before old after : Bytes} (place : Place) (v : Value) (r t : Rule) → StandsAt text (positions_of place v) before old after → read text ≡ done v → shape v ≡ Some r → subrule place r ≡ Some t
    → (new : Bytes) (u w : Value) → read new ≡ done u → read (before ++ (new ++ after)) ≡ done w → w ≡ replace_value place u v
replaced_operand place v r t s hv is-rule there new u w hu hw =
    let (x, i, j, k) = operand_part place v r t is-rule there in
    replaced s new v u w hv hu hw ∙ replace_part_lem place v x u i

-- It reads if it is within the limits.
pub replaced_operand_reads : {text before old after : Bytes} (place : Place) (v : Value) (r t : Rule) → StandsAt text (positions_of place v) before old after → read text ≡ done v → shape v ≡ Some r → subrule place r ≡ Some t
    → (new : Bytes) (u : Value) → read new ≡ done u → length (before ++ (new ++ after)) ≤ max_text_bytes → value_count (replace_value place u v) ≤ max_values → nesting (replace_value place u v) ≤ max_nesting
    → read (before ++ (new ++ after)) ≡ done (replace_value place u v)
replaced_operand_reads place v r t s hv is-rule there new u hu short few flat =
    let (x, i, j, k) = operand_part place v r t is-rule there in
    let same = replace_part_lem place v x u i in
    replaced_reads s new v u hv hu short (subst (λ z. value_count z ≤ max_values) (sym same) few) (subst (λ z. nesting z ≤ max_nesting) (sym same) flat) ∙ ap done same

-- Every operand rule of a text that reads and is a rule stands in the text: by themselves its bytes read, and are that rule.
pub operand_stands : (text : Bytes) (place : Place) (v : Value) (r t : Rule) → read text ≡ done v → shape v ≡ Some r → subrule place r ≡ Some t
    → (before : Bytes) × (old : Bytes) × (after : Bytes) × StandsAt text (positions_of place v) before old after
operand_stands text place v r t hv is-rule there =
    let (x, i, j, k) = operand_part place v r t is-rule there in
    stands text (positions_of place v) v x hv j

pub operand_reads : {text before old after : Bytes} (place : Place) (v : Value) (r t : Rule) → StandsAt text (positions_of place v) before old after → read text ≡ done v → shape v ≡ Some r → subrule place r ≡ Some t
    → (u : Value) × (read old ≡ done u) × (shape u ≡ Some t)
operand_reads place v r t s hv is-rule there =
    let (x, i, j, k) = operand_part place v r t is-rule there in
    let (u, l, m) = stands_reads s v hv in
    (u, m, ap shape (same_Some u x (sym l ∙ j)) ∙ k)
