-- Packing: a handle as three numbers, and these as two words.
use mathlib.Core.Path.{◌≡◌, ap, ◌∙◌}
use Prim.Native.Nat.{ℕ, ◌+◌}
use lib.Seq.{sets}
use Rattle.area.specs.Words.{word}
use Rattle.area.specs.Laws.{sets_append}
use Rattle.model.specs.Bytes.{Bytes}
use Rattle.heap.specs.Cells.{packed_of, second_word, cell_of}
use Rattle.heap.specs.declared.cell.Packed.{Packed}
use Rattle.heap.specs.declared.handle.Handle.{Handle}

-- The words of a cell, stored one after the other.
pub two_words : (C : Bytes) (at : ℕ) (h : Handle) {p : Packed} {D E : Bytes} → p ≡ packed_of h → D ≡ sets C at (word p.low)
    → E ≡ sets D (at + 4) (word (second_word p)) → E ≡ sets C at (cell_of (packed_of h))
unfolding word
two_words C at h {p} e d f =
    f ∙ ap (λ (B : Bytes). sets B (at + 4) (word (second_word p))) d ∙ sets_append (word p.low) (word (second_word p)) C at ∙ ap (λ (q : Packed). sets C at (cell_of q)) e
