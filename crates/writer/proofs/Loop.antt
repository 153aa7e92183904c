-- The loop over the parts of an array or object: whatever is written of the rest, the whole is written as that with what was passed in front.
use mathlib.Core.Path.{◌≡◌}
use mathlib.Core.Bool.{Bool, true}
use mathlib.Core.List.{[]}
use Prim.Native.Nat.{ℕ, ◌+◌, ◌≤◌}
use native.Mathlib.Omega.{arith}
use lib.ListN.{length}
use Rattle.model.specs.Bytes.{Bytes}
use Rattle.model.specs.Limits.{max_text_bytes}
use Rattle.heap.specs.declared.handle.Handle.{Handle}
use Rattle.heap.specs.declared.handle.Parts.{Parts}
use Rattle.heap.specs.Parts.{head_of, tail_of}
use Rattle.heap.specs.Unfold.{Areas, opened, unfolded}
use Rattle.writer.specs.declared.value.Progress.{Progress}
use Rattle.std.specs.Prelude.{Option, None}
use Rattle.writer.specs.Inner.{At, Puts, value_piece, inside_piece, comma_text, front_text, Writes, within, ValueWrites, PartsWrite}
use Rattle.writer.proofs.Pieces.{nothing, front_first, then, stops}
use Rattle.writer.proofs.Parts.{inside_none, inside_more}
use Rattle.writer.proofs.Values.{writes_short}

-- The parts of t are left; `others` values may follow, and the text goes to `here`.
pub record PartsInv (a : Areas) (p : Parts) (deep at left : ℕ) (d₀ : Bytes) (t : Parts) (c : Bool) (here others : ℕ) (d : Bytes) : Type 0 where
  pub whole : (r : Option Progress) (d' : Bytes) → Writes (inside_piece (opened a (unfolded a deep) t) (comma_text c)) deep others here d r d'
      → Writes (inside_piece (opened a (unfolded a deep) p) []) deep left at d₀ r d'
  pub near : here ≤ max_text_bytes + 1
  pub size : length d ≡ length d₀

module _ {a : Areas} {p : Parts} {deep at left : ℕ} {d₀ : Bytes} {t : Parts} {c : Bool} {here others : ℕ} {d : Bytes} (i : PartsInv a p deep at left d₀ t c here others d) where
  -- No part is left.
  pub parts_done : (q : Option Progress) → t.count ≡ 0 → q ≡ within here others → PartsWrite a p deep at left d₀ q d
  parts_done q e f = record { writes = i.whole q d (rw (inside_none a (unfolded a deep) t (comma_text c) e, f) nothing) }

  module _ (some : 1 ≤ t.count) {m : ℕ} {d₁ d₂ : Bytes} (front : Puts (front_text a.strings a.table t c) here d m d₁)
      (h : Handle) (is-head : h ≡ head_of a.table a.cells t) (r : Option Progress) (written : ValueWrites a h deep m others d₁ r d₂) where
    first : Writes (value_piece (unfolded a deep (head_of a.table a.cells t))) deep others m d₁ r d₂
    first = rw (← is-head) written.writes

    -- The first part is too large.
    pub parts_stop : r ≡ None → PartsWrite a p deep at left d₀ None d₂
    parts_stop e = record {
      writes = i.whole None d₂ (rw (inside_more a (unfolded a deep) t c some) (front_first front (stops _ (rw e at first))));
    }

    -- It is written, and the others are left.
    pub parts_next : (end rest : ℕ) (t' : Parts) → r ≡ At end rest → t' ≡ tail_of a.table a.cells t → length d₂ ≡ length d₀ → PartsInv a p deep at left d₀ t' true end rest d₂
    parts_next end rest t' e is-tail s = record {
      whole = λ r' d' w. i.whole r' d' (rw (inside_more a (unfolded a deep) t c some) (front_first front (then (rw e at first) (rw is-tail at w))));
      near = omega (arith, writes_short r first e);
      size = s;
    }
