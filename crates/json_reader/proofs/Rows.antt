-- The rows of a value: the first of them, and where they lie in the table.
use mathlib.Core.Path.{◌≡◌, refl, sym, ap, ◌∙◌}
use mathlib.Core.Bool.{true, false}
use mathlib.Core.List.{[], ◌++◌, append-nil, append_assoc}
use Prim.Native.Nat.{ℕ, ◌+◌, ◌*◌, ◌-◌, ◌/◌, ◌≤◌, ◌<◌}
use native.Mathlib.Omega.{arith}
use lib.ListN.{length, take}
use lib.Seq.{sets, take-take, length-take-le}
use Rattle.area.specs.Words.{word, word_at}
use Rattle.area.specs.Laws.{sets_append, take_sets, drop_sets_behind, word_at_word, word_at_append}
use Rattle.model.specs.Bytes.{Bytes}
use Rattle.model.specs.Limits.{max_text_bytes, max_values}
use Rattle.model.proofs.Laws.Widths.{text_below}
use Rattle.model.specs.Size.{items_count, members_count}
use Rattle.model.specs.Value.{Value, scalar, instant, array, object, Scalar, null, boolean, integer, string, member_count}
use Rattle.name_index.specs.Contract.{entry}
use Rattle.name_index.specs.Slots as slots
use Rattle.syntax.specs.Layout.{row_bytes, rows_part, entry_bytes, table_bytes, Label, row, rows_of, item_rows, member_rows, scalar_row, item_count}
use Rattle.syntax.proofs.Laws.Layout.{size_above}

-- ---- the first row
pub record First (v : Value) (at used : ℕ) (name : Label) : Type 0 where
  pub kind : ℕ
  pub a : ℕ
  pub b : ℕ
  pub rest : Bytes
  pub small : kind < 256
  pub is : rows_of v at used name ≡ row kind name a b ++ rest

first_scalar : (x : Scalar) (at used : ℕ) (name : Label) → First (scalar x) at used name
unfolding rows_of scalar_row
first_scalar null at used name = record { kind = 1; a = 0; b = 0; rest = []; small = omega arith; is = sym (append-nil _) }
first_scalar (boolean false) at used name = record { kind = 2; a = 0; b = 0; rest = []; small = omega arith; is = sym (append-nil _) }
first_scalar (boolean true) at used name = record { kind = 3; a = 0; b = 0; rest = []; small = omega arith; is = sym (append-nil _) }
first_scalar (integer z) at used name = record { kind = 4; a = _; b = _; rest = []; small = omega arith; is = sym (append-nil _) }
first_scalar (string s) at used name = record { kind = 5; a = used; b = length s; rest = []; small = omega arith; is = sym (append-nil _) }

pub first_row : (v : Value) (at used : ℕ) (name : Label) → First v at used name
unfolding rows_of
first_row (scalar x) at used name = first_scalar x at used name
first_row (instant t) at used name = record { kind = 0; a = 0; b = 0; rest = []; small = omega arith; is = sym (append-nil _) }
first_row (array vs) at used name = record { kind = 6; a = item_count vs; b = at + 1 + items_count vs; rest = item_rows vs (at + 1) used; small = omega arith; is = refl }
first_row (object ms) at used name = record { kind = 7; a = member_count ms; b = at + 1 + members_count ms; rest = member_rows ms (at + 1) used; small = omega arith; is = refl }

-- ---- the words of a row: the name's length and start
module _ (kind : ℕ) (name : Label) (a b : ℕ) (rest : Bytes) (small : kind < 256) (short : name.size ≤ max_text_bytes) (start : name.start ≤ max_text_bytes) where
  pub row_size : word_at (row kind name a b ++ rest) 0 / 256 ≡ name.size
  unfolding row
  row_size =
      ap (λ (bs : Bytes). word_at bs 0 / 256) (append_assoc (word (kind + 256 * name.size)) (word name.start ++ (word a ++ word b)) rest)
      ∙ ap (λ (x : ℕ). x / 256) (word_at_word (kind + 256 * name.size) ((word name.start ++ (word a ++ word b)) ++ rest) (omega (arith, text_below)))
      ∙ size_above kind name.size small

  pub row_start : word_at (row kind name a b ++ rest) 4 ≡ name.start
  unfolding row word
  row_start =
      ap (λ (bs : Bytes). word_at bs 4) (append_assoc (word (kind + 256 * name.size)) (word name.start ++ (word a ++ word b)) rest
      ∙ ap (λ (bs : Bytes). word (kind + 256 * name.size) ++ bs) (append_assoc (word name.start) (word a ++ word b) rest))
      ∙ word_at_append (word (kind + 256 * name.size)) (word name.start ++ ((word a ++ word b) ++ rest)) 0
      ∙ word_at_word name.start ((word a ++ word b) ++ rest) (omega (arith, text_below))

-- ---- the rows of the table, and the index behind them
module _ (T : Bytes) (at : ℕ) (bs : Bytes) (fits : at + length bs ≤ max_values * row_bytes) where
  pub rows_sets : rows_part (sets T at bs) ≡ sets (rows_part T) at bs
  unfolding rows_part
  rows_sets = take_sets (max_values * row_bytes) bs T at fits

  pub entry_sets : (e : ℕ) → entry (sets T at bs) e ≡ entry T e
  unfolding slots.entry slots.place row_bytes entry_bytes
  entry_sets e = ap (take entry_bytes) (drop_sets_behind (slots.place (e - 1)) bs T at (omega arith))

pub take_rows : (T : Bytes) (n : ℕ) → n ≤ max_values * row_bytes → take n (rows_part T) ≡ take n T
unfolding rows_part
take_rows T n h = take-take n (max_values * row_bytes) T h

pub length_rows_part : (T : Bytes) → table_bytes ≤ length T → length (rows_part T) ≡ max_values * row_bytes
unfolding rows_part row_bytes entry_bytes
length_rows_part T h = length-take-le (max_values * row_bytes) T (omega arith)

-- A row is four words one after another.
pub four_words : (kind : ℕ) (name : Label) (a b : ℕ) (T T₁ T₂ T₃ T₄ : Bytes) (at : ℕ)
    → T₁ ≡ sets T at (word (kind + 256 * name.size)) → T₂ ≡ sets T₁ (at + 4) (word name.start) → T₃ ≡ sets T₂ (at + 8) (word a) → T₄ ≡ sets T₃ (at + 12) (word b)
    → T₄ ≡ sets T at (row kind name a b)
unfolding row word
four_words kind name a b T T₁ T₂ T₃ T₄ at p q r t =
    let w = word (kind + 256 * name.size) in
    let x = word name.start in
    let j : at + 8 + 4 ≡ at + 12 = omega arith in
    let e₁ : T₂ ≡ sets T at (w ++ x) = q ∙ ap (λ (d : Bytes). sets d (at + 4) x) p ∙ sets_append w x T at in
    let e₂ : T₄ ≡ sets T₂ (at + 8) (word a ++ word b) =
    t ∙ (λ k. sets (r k) (sym j k) (word b)) ∙ sets_append (word a) (word b) T₂ (at + 8) in
    e₂ ∙ (λ k. sets (e₁ k) (at + 8) (word a ++ word b)) ∙ sets_append (w ++ x) (word a ++ word b) T at ∙ ap (sets T at) (append_assoc w x (word a ++ word b))
