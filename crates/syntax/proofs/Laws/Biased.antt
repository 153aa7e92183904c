-- Biased: integers within the limits as the numbers in rows, there and back, and how large these are.
use Rattle.std.specs.Prelude.{◌≡◌, true, suc, ◌+◌, ◌-◌, ◌≤◌, T, leb, ℤ, pos, negsuc}
use Rattle.std.proofs.Common.{ap, arith, le-leb, leb→le}
use Rattle.std.proofs.lemmas.Bool.{lt-leb}
use Rattle.model.proofs.Laws.Logic.{and_l}
use Rattle.model.specs.Limits.{max_integer}
use Rattle.model.specs.Value.{within_limits}
use Rattle.syntax.specs.Layout.{biased, unbiased}

pub biased_small : (z : ℤ) → T (within_limits z) → biased z ≤ 18014398509481983
unfolding biased max_integer
biased_small (pos n) h = omega (arith, leb→le n 9007199254740991 h)
biased_small (negsuc n) h = omega arith

pub unbiased_biased : (z : ℤ) → T (within_limits z) → unbiased (biased z) ≡ z
unfolding unbiased biased max_integer
unbiased_biased (pos n) h =
    let e : 9007199254740992 + n - 9007199254740992 ≡ n = omega arith in
    rw (unbiased, le-leb 9007199254740992 (9007199254740992 + n) (omega arith)) (ap pos e)
unbiased_biased (negsuc n) h =
    let l = leb→le n 9007199254740990 (and_l (leb n 9007199254740990) true h) in
    let e : 9007199254740991 - (9007199254740992 - suc n) ≡ n = omega arith in
    rw (unbiased, lt-leb 9007199254740992 (9007199254740992 - suc n) (omega arith)) (ap negsuc e)
