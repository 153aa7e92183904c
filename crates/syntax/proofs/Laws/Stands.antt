-- Stands: bytes at a place of an area, those behind them, and the words and rows among them.
use Rattle.std.specs.Prelude.{◌≡◌, ◌++◌, ℕ, ◌+◌, ◌*◌, ◌-◌, ◌≤◌, ◌<◌, length, take, drop, replicate}
use Rattle.std.proofs.Common.{sym, ap, subst, ◌∙◌, append_assoc, arith, length-append, drop-drop}
use Rattle.std.proofs.Math.Seq.{drop-append_seam, take-append_seam}
use Rattle.area.specs.Words.{word, word_at}
use Rattle.area.specs.Laws.{word_at_word, word_at_drop}
use Rattle.model.specs.Bytes.{Bytes}
use Rattle.syntax.specs.Layout.{row_bytes, padded}

-- The bytes at a place of an area are these.
pub record Stands (A : Bytes) (at : ℕ) (bs : Bytes) : Type 0 where
  pub rest : Bytes
  pub is : drop at A ≡ bs ++ rest
  pub inside : at + length bs ≤ length A

module _ {A : Bytes} {at : ℕ} (xs ys : Bytes) (s : Stands A at (xs ++ ys)) where
  pub front : Stands A at xs
  front = record { rest = ys ++ s.rest; is = s.is ∙ append_assoc xs ys s.rest; inside = (let l = length-append xs ys in omega arith) }

  pub back : Stands A (at + length xs) ys
  back = record {
    rest = s.rest;
    is = sym (drop-drop (length xs) at A) ∙ ap (drop (length xs)) (s.is ∙ append_assoc xs ys s.rest) ∙ drop-append_seam xs (ys ++ s.rest);
    inside = (let l = length-append xs ys in omega arith);
  }

pub part_stands : {A : Bytes} {at : ℕ} (bs : Bytes) → Stands A at bs → bs ≡ take (length bs) (drop at A)
part_stands bs s = sym (ap (take (length bs)) s.is ∙ take-append_seam bs s.rest)

pub word_stands : {A : Bytes} {at : ℕ} (x : ℕ) → Stands A at (word x) → x < 4294967296 → word_at A at ≡ x
word_stands {A} {at} x s l =
    let e : at ≡ at + 0 = omega arith in
    ap (word_at A) e ∙ sym (word_at_drop at A 0) ∙ ap (λ (bs : Bytes). word_at bs 0) s.is ∙ word_at_word x s.rest l

-- The rows behind n rows.
pub behind : {A : Bytes} (i n : ℕ) (xs ys : Bytes) → Stands A (i * row_bytes) (xs ++ ys) → length xs ≡ n * row_bytes → Stands A ((i + n) * row_bytes) ys
unfolding row_bytes
behind {A} i n xs ys s e =
    let p : i * 16 + length xs ≡ (i + n) * 16 = omega arith in
    subst (λ (at : ℕ). Stands A at ys) p (back xs ys s)

-- Padded bytes stand at the start.
pub starts : (A bs : Bytes) (n : ℕ) → A ≡ padded n bs → Stands A 0 bs
unfolding padded
starts A bs n e =
    record { rest = replicate (n - length bs) 0; is = e; inside = omega (arith, ap length e, length-append bs (replicate (n - length bs) 0)) }
