-- Stores: what a copy into a part of an area leaves.
use mathlib.Core.Path.{sym, ap, ◌∙◌}
use native.Mathlib.Omega.{arith}
use native.Mathlib.Numerals.{add-one}
use Rattle.std.proofs.Common.{◌≡◌, [], ◌∷◌, ℕ, ◌+◌, ◌≤◌, ◌<◌, List, length, append_assoc}
use Rattle.std.proofs.lemmas.List.{drop-drop}
use Rattle.std.proofs.lemmas.List.Edits.{sets, sets-eq}
use borrow.Rule.Slice.PartMut.{put_mid}
use lib.ListN.{get_or, take, set}
use lib.Seq.{length-take-le, take-suc}
use Rattle.area.specs.Laws.{sets_append}

-- As many bytes as the part has are stored from its place on.
pub put_whole : (d t s : List ℕ) (at k : ℕ) → t ≡ s → k ≡ length s → at + length s ≤ length d → put_mid at k d t ≡ sets d at s
put_whole d t s at k e f h = rw (e, f, sets-eq s d at h, append_assoc, drop-drop)

-- One byte more of a copy byte by byte.
pub copied_more : (s d : List ℕ) (at i : ℕ) → i < length s → set (sets d at (take i s)) (at + i) (get_or s i 0) ≡ sets d at (take (i + 1) s)
copied_more s d at i h =
    rw (add-one i, take-suc s i 0 h)
    (ap (λ (k : ℕ). set (sets d at (take i s)) (at + k) (get_or s i 0)) (sym (length-take-le i s (omega arith))) ∙ sets_append (take i s) (get_or s i 0 ∷ []) d at)
