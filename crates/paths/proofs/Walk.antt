-- Walk: the loop over the fragments of a path.
use mathlib.Core.Path.{◌≡◌, sym, ap, ◌∙◌}
use Prim.Native.Nat.{ℕ, ◌+◌, ◌-◌, ◌≤◌, ◌<◌}
use native.Mathlib.Omega.{arith}
use lib.ListN.{length, take, drop, length-drop, drop_of_length-le}
use lib.Seq.{drop-drop}
use Rattle.model.specs.Bytes.{Bytes}
use Rattle.model.specs.Path.{Path}
use Rattle.table.specs.declared.node.Node.{Node}
use Rattle.paths.specs.Contract.{part_in, node_along, fragments}
use Rattle.paths.specs.Laws.Fragments.{size, fragments_on}

module _ (T B s : Bytes) (at : ℕ) (n : Node) where
  pub walk_ends : length s ≤ at → n ≡ node_along T B (fragments (drop at s)) n
  walk_ends l = rw (drop_of_length-le s l)

  pub walk_on : {end : ℕ} {m : Node} → at < length s → end ≡ at + size (drop at s) → m ≡ part_in T B (take (end - at) (drop at s)) n
      → node_along T B (fragments (drop (end + 1) s)) m ≡ node_along T B (fragments (drop at s)) n
  walk_on {end} {m} l e p =
      let t = drop at s in
      let k : end - at ≡ size t = omega arith in
      let j : at + (size t + 1) ≡ end + 1 = omega arith in
      let rest : drop (end + 1) s ≡ drop (size t + 1) t = rw (drop-drop (size t + 1) at s, j) in
      ap (node_along T B (fragments (drop (end + 1) s))) (rw k at p)
      ∙ ap (λ (u : Bytes). node_along T B (fragments u) (part_in T B (take (size t) t) n)) rest
      ∙ sym (ap (λ (q : Path). node_along T B q n) (fragments_on t (omega (arith, length-drop at s))))
