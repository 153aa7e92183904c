-- Tidied: areas once the work room behind the table's rows is cleared.
use Rattle.std.specs.Prelude.{◌++◌, ◌≡◌, ℕ, zero, suc, ◌*◌, ◌-◌, length, take, drop, replicate}
use Rattle.std.proofs.Common.{sym, ap, ◌∙◌, arith, take-append-drop}
use Rattle.std.proofs.lemmas.List.{length-replicate}
use Rattle.area.specs.Words.{zero_from}
use Rattle.model.specs.Bytes.{Bytes}
use Rattle.model.specs.Limits.{max_values}
use Rattle.model.specs.Value.{Value}
use Rattle.syntax.specs.Layout.{row_bytes, rows_part}
use Rattle.table.specs.WasRead.{WasRead}
use Rattle.table.specs.Laws.WasRead.{SameRows, was_read_cleared}
use Rattle.pipeline.specs.Areas.{TextAreas, text_areas, zeroed, holding, tidied}

-- Tables of the same rows are the same.
pub tidied_same : {T' T : Bytes} (A : Bytes) → SameRows T' T → tidied (text_areas T' A) ≡ tidied (text_areas T A)
unfolding zero_from rows_part
tidied_same A s = λ i. text_areas (s.rows i ++ replicate (s.size i - max_values * row_bytes) 0) A

-- What holds a value is as reading is to leave it.
pub tidied_holding : {T A : Bytes} {v : Value} → WasRead T A v → tidied (text_areas T A) ≡ holding v (text_areas T A)
tidied_holding w = λ i. text_areas (was_read_cleared w i) (w.strings i)

-- Zeros stay.
drop_zeros : (n k : ℕ) → ◌≡◌ {A = Bytes} (drop n (replicate k 0)) (replicate (k - n) 0)
drop_zeros zero k = let e : k ≡ k - 0 = omega arith in ap (λ (m : ℕ). replicate m 0) e
drop_zeros (suc n) zero = let e : 0 ≡ 0 - suc n = omega arith in ap (λ (m : ℕ). replicate m 0) e
drop_zeros (suc n) (suc k) = let e : k - n ≡ suc k - suc n = omega arith in drop_zeros n k ∙ ap (λ (m : ℕ). replicate m 0) e

zeros_from : (n k : ℕ) → zero_from n (replicate k 0) ≡ replicate k 0
unfolding zero_from
zeros_from n k =
    let z : Bytes = replicate k 0 in
    ap (λ (m : ℕ). take n z ++ replicate (m - n) 0) (length-replicate {A = ℕ} k 0) ∙ sym (ap (λ (bs : Bytes). take n z ++ bs) (drop_zeros n k)) ∙ take-append-drop n z

pub tidied_zeroed : (a : TextAreas) → tidied (zeroed a) ≡ zeroed a
tidied_zeroed a = λ i. text_areas (zeros_from (max_values * row_bytes) (length a.table) i) (replicate (length a.strings) 0)
