-- Stands: an operation of the table stands for the one that it is in the model's terms.
use Rattle.std.specs.Prelude.{◌≡◌, refl, ℕ, T, ℤ}
use Rattle.std.proofs.Common.{sym, ap, ◌∙◌}
use Rattle.model.specs.Rule.{Operation}
use Rattle.model.specs.Value.{within_limits}
use Rattle.syntax.specs.Layout.{biased, unbiased}
use Rattle.syntax.proofs.Laws.Biased.{unbiased_biased}
use Rattle.keywords.specs.declared.Op.{Op}
use Rattle.keywords.specs.Contract.{operation_of, Stands, stands_array, stands_equal, stands_member_of, stands_plus, stands_not, stands_date_of_birth, stands_compare, stands_plus_time, stands_extract}

given : {m : ℕ} (k : ℤ) → T (within_limits k) → m ≡ biased k → k ≡ unbiased m
given k w e = sym (ap unbiased e ∙ unbiased_biased k w)

pub stands_for : {op : Op} {o : Operation} {n : ℕ} → Stands op o n → o ≡ operation_of op
stands_for stands_array = refl
stands_for (stands_equal x) = refl
stands_for (stands_member_of x) = refl
stands_for (stands_plus x) = refl
stands_for (stands_not x) = refl
stands_for (stands_date_of_birth x) = refl
stands_for (stands_compare x y) = refl
stands_for (stands_plus_time {k = k} {u = u} x w e) = ap (λ z. Operation.plus_time z u) (given k w e)
stands_for (stands_extract {k = k} x w e) = ap Operation.extract_from_uvci (given k w e)
