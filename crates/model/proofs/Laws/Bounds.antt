-- Bounds: from a rule and a record within the bounds, evaluation gives a value within the bounds.
use Rattle.std.specs.Prelude.{◌≡◌, ℕ, T}
use Rattle.std.specs.Prelude.{Some}
use Rattle.model.specs.Bounds.{bounded}
use Rattle.model.specs.Bytes.{split_on}
use Rattle.model.specs.Eval.{run, value, outcome}
use Rattle.model.specs.Operations.{is_uvci_separator}
use Rattle.model.specs.Rule.{Rule}
use Rattle.model.specs.Shape.{shape}
use Rattle.model.specs.Value.{Value, scalar, string}
use Rattle.model.proofs.Laws.Kept.{each_of, Kept, answer_kept}
use Rattle.model.proofs.Laws.Logic.{and_l, and_r, and_i}

bounded_kept : Kept (λ v. T (bounded v))
unfolding bounded
bounded_kept = record {
  inherited = record {
    by_items = λ v vs h. (and_l (bounded v) _ h, and_r (bounded v) _ h);
    by_members = λ name v ms h. (and_l (bounded v) _ h, and_r (bounded v) _ h);
  };
  of_null = tt;
  of_boolean = λ b. tt;
  of_integer = λ z h. h;
  of_instant = λ t h. h;
  of_no_items = tt;
  of_item = λ v vs h k. and_i (bounded v) _ h k;
  of_context = λ cur acc h k. and_i (bounded cur) _ h (and_i (bounded acc) _ k tt);
  of_fragments = λ s h. each_of (λ f. T (bounded (scalar (string f)))) (λ f. tt) (split_on is_uvci_separator s);
}

-- A rule and a record within the bounds give a value within the bounds.
pub answer_bounded : (rule c : Value) (r : Rule) (n : ℕ) (v : Value) → shape rule ≡ Some r → T (bounded rule) → T (bounded c) → outcome (run r c n) ≡ value v → T (bounded v)
answer_bounded = answer_kept (λ v. T (bounded v)) bounded_kept
