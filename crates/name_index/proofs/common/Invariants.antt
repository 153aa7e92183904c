-- The loop's invariant: the bytes before p are the same.
use Rattle.std.proofs.Common.{◌≡◌, ℕ, ◌<◌, ◌≤◌, length, get_or}
use Rattle.name_index.proofs.common.Given as goal

abbrev pub invariant-loop-p : goal.invariant-loop-p
invariant-loop-p l = (l.p ≤ length l.b) × ((i : ℕ) → i < l.p → get_or l.a i 0 ≡ get_or l.b i 0)
