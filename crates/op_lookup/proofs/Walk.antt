-- Walk: the loop over the fragments of a path.
use mathlib.Core.Path.{◌≡◌, sym}
use mathlib.Core.List.{[]}
use Rattle.std.specs.Prelude.{None, Some}
use Prim.Native.Nat.{ℕ, ◌+◌, ◌-◌, ◌≤◌, ◌<◌}
use native.Mathlib.Omega.{arith}
use lib.ListN.{length, take, drop, length-drop, drop_of_length-le}
use lib.Seq.{drop-drop, take_all}
use Rattle.model.specs.Bytes.{Bytes}
use Rattle.table.specs.declared.node.Node.{Node}
use Rattle.paths.specs.Contract as paths
use Rattle.paths.specs.Laws.Fragments.{size, first, value_on}
use Rattle.heap.specs.declared.handle.Handle.{Handle}
use Rattle.heap.specs.Handles.{record_handle}
use Rattle.heap.proofs.Laws.Rows.{node_means}
use Rattle.op_lookup.specs.Contract.{Leads}
use Rattle.op_lookup.specs.Inner.{place_of, PartNamed}
use Rattle.op_lookup.proofs.Parts.{place_denotes}

module _ {B T C : Bytes} where
  nowhere : (h : Handle) → Leads [] B T C h h
  nowhere h = record { leads = λ A top q c e l m. let g : q ≡ [] = cc in rw g m }

  one_step_lem : (t : Bytes) {h inner r : Handle} → 1 ≤ length t → place_of h ≡ None → PartNamed (take (size t) t) C h inner → Leads (drop (size t + 1) t) B T C inner r → Leads t B T C h r
  one_step_lem t l g p x = record {
    leads = λ A top q c e b m.
        let y = first t q l e in
        rw (y.is, value_on (take (size t) t) y.rest c) (x.leads A top y.rest _ y.behind b (p.means A B T top c b g m));
  }

  module _ (s : Bytes) (at : ℕ) {h : Handle} where
    pub walk_ends : length s ≤ at → Leads (drop at s) B T C h h
    walk_ends l = rw (drop_of_length-le s l) (nowhere h)

    pub walk_on : {end : ℕ} {inner : Handle} → at < length s → end ≡ at + size (drop at s) → None ≡ place_of h → PartNamed (take (end - at) (drop at s)) C h inner
        → (r : Handle) → Leads (drop (end + 1) s) B T C inner r → Leads (drop at s) B T C h r
    walk_on {end} l e g p r x =
        let k : end - at ≡ size (drop at s) = omega arith in
        let j : at + (size (drop at s) + 1) ≡ end + 1 = omega arith in
        one_step_lem (drop at s) (omega (arith, length-drop at s)) (sym g) (rw k at p) (rw (drop-drop (size (drop at s) + 1) at s, j) x)

    -- The path goes on in the record.
    pub walk_record : {n x : Node} {r : Handle} → Some n ≡ place_of h → paths.Leads (take (length s - at) (drop at s)) T B n x → r ≡ record_handle x → Leads (drop at s) B T C h r
    walk_record p y e = record { leads = λ A top q c g b m. rw e (node_means (y.leads q c (rw rest g) (place_denotes m p))) }
      where
        rest : take (length s - at) (drop at s) ≡ drop at s
        rest = take_all (length s - at) (drop at s) (omega (arith, length-drop at s))
