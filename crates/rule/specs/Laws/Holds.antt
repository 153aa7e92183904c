-- Holds: the operands of a rule, one by one; a row holds one rule.
use Rattle.std.specs.Prelude.{Some}
use Rattle.std.specs.Prelude.{◌≡◌, refl, ℕ, suc, ◌≤◌}
use Rattle.std.proofs.Common.{sym, ap, ◌∙◌, arith}
use Rattle.model.specs.Bytes.{Bytes}
use Rattle.model.proofs.Laws.Logic.{clash}
use Rattle.model.proofs.Laws.Option.{bind_some}
use Rattle.model.specs.Rule.{Rule, Rules, no_rules, rule}
use Rattle.model.specs.Shape.{shape, rules_of, operands_of}
use Rattle.model.specs.Size.{items_nesting}
use Rattle.model.specs.Value.{array, Values, no_items, item}
use Rattle.syntax.specs.Layout.{item_count}
use Rattle.table.specs.declared.node.Node.TheVariants.{Array}
use Rattle.table.specs.declared.node.Rows.{Rows}
use Rattle.table.specs.Denotes.{Denotes}
use Rattle.table.specs.Node.{tail_of}
use Rattle.table.specs.Laws.Denotes as DenotesLaws
use Rattle.rule.specs.Holds.{Holds, HoldsAll, rule_count}

-- ---- rules
-- There are as many rules as items.
pub rules_count : (vs : Values) (rs : Rules) → rules_of (operands_of vs) ≡ Some rs → item_count vs ≡ rule_count rs
unfolding operands_of item_count
rules_count no_items no_rules e = refl
rules_count no_items (rule r rs) e = clash cc
rules_count (item v vs) no_rules e = bind_some (shape v) _ e (λ x f g. bind_some (rules_of (operands_of vs)) _ g (λ xs h k. clash cc))
rules_count (item v vs) (rule r rs) e = bind_some (shape v) _ e (λ x f g. bind_some (rules_of (operands_of vs)) _ g (λ xs h k. ap suc (rules_count vs rs (h ∙ cc))))

pub holds_count : {T B : Bytes} {deep : ℕ} {q : Rows} {rs : Rules} → HoldsAll T B deep q rs → q.count ≡ rule_count rs
holds_count {rs = rs} h = DenotesLaws.array_count h.denotes ∙ rules_count h.values rs h.shaped

-- The first rule and the others.
pub record HoldsParts (T B : Bytes) (deep : ℕ) (q : Rows) (r : Rule) (rs : Rules) : Type 0 where
  pub head : Holds T B deep q.first r
  pub rest : HoldsAll T B deep (tail_of T q) rs

pub holds_parts : {T B : Bytes} {deep : ℕ} {q : Rows} {r : Rule} {rs : Rules} → HoldsAll T B deep q (rule r rs) → HoldsParts T B deep q r rs
unfolding operands_of items_nesting
holds_parts {T} {B} {deep} {q} {r} {rs} h = go h.values h.denotes h.shaped h.nests
  where
    go : (vs : Values) → Denotes T B (array vs) (Array q) → rules_of (operands_of vs) ≡ Some (rule r rs) → items_nesting vs ≤ deep → HoldsParts T B deep q r rs
    go no_items d e n = clash cc
    go (item v vs) d e n = bind_some (shape v) _ e λ x f g. bind_some (rules_of (operands_of vs)) _ g λ xs k l.
        let p = DenotesLaws.array_parts d in
        record {
          head = record { within = p.inside; value = v; denotes = p.head; shaped = f ∙ cc; nests = omega arith };
          rest = record { values = vs; denotes = p.rest; shaped = k ∙ cc; nests = omega arith };
        }

-- ---- the whole rule
-- A row holds one rule.
pub holds_one : {T B : Bytes} {deep deep' row : ℕ} {ρ ρ' : Rule} → Holds T B deep row ρ → Holds T B deep' row ρ' → ρ ≡ ρ'
holds_one x y =
    let e : Some _ ≡ Some _ = sym x.shaped ∙ ap shape (DenotesLaws.one x.denotes y.denotes) ∙ y.shaped in
    cc
