-- Lines: what is put one after the other is the text of the lines.
use mathlib.Core.Path.{◌≡◌, sym}
use Prim.Native.Nat.{ℕ, ◌+◌, ◌≤◌}
use native.Mathlib.Omega.{arith}
use lib.ListN.{length, take, drop, set}
use lib.Seq.{sets, sets-eq, take-append_seam, length-take-le}
use mir.Syntax.{w64}
use mir.Val.{Fits}
use Rattle.model.specs.Bytes.{Bytes}
use Rattle.model.specs.Writing.{decimal}
use Rattle.print.specs.Contract.{Put}
use Rattle.print.specs.Laws.{put_byte, put_bytes_lem, put_then, put_size, decimal_20}
use Rattle.admit.specs.Inner.{Near, Begins}
use Rattle.admit.specs.Limits.{output_bytes, digits_room}
use Rattle.admit.specs.Printed.{line}

pub line_put :
    (word text : Bytes) {d d₁ d₂ d₃ : Bytes} {at : ℕ}
    → d₁ ≡ sets d at word
    → d₂ ≡ sets d₁ (at + length word) text
    → d₃ ≡ set d₂ (at + length word + length text) 10
    → Put (line word text) at d (at + length word + length text + 1) d₃
line_put word text e₁ e₂ e₃ = put_then (put_bytes_lem {x = word} e₁) (put_then (put_bytes_lem {x = text} e₂) (put_byte {b = 10} e₃))

-- What is put at the start, with room for it, stands there.
pub put_begins : {x d d' : Bytes} {r : ℕ} → Put x 0 d r d' → length x ≤ length d → Begins x r d'
put_begins {x} {d} {d'} {r} p h =
    let e : r ≡ length x = omega (arith, p.end) in
    record {
      within = omega (arith, put_size p);
      part = rw (e, p.output, sets-eq x d 0 (omega arith)) (take-append_seam x (drop (0 + length x) d));
    }

pub begins_counts : {x bytes : Bytes} {size : ℕ} → Begins x size bytes → size ≡ length (take size bytes)
begins_counts {bytes = bytes} {size} b = sym (length-take-le size bytes b.within)

-- A number's digits, in 20 bytes.
pub digits_put : {n r : ℕ} {d d' : Bytes} → Fits w64 n → 20 ≡ length d → Put (decimal n) 0 d r d' → Begins (decimal n) r d'
digits_put {n} h l p = put_begins p (omega (arith, decimal_20 n (omega arith)))

pub digits_near : {n r at : ℕ} {d' word : Bytes} → Fits w64 n → Begins (decimal n) r d' → at ≤ output_bytes + 64 → length word ≤ 8 → Near at word (take r d')
digits_near {n} h b place few = record { place = place; few = few; short = rw b.part (omega (arith, digits_room, decimal_20 n (omega arith))) }

pub number_line_put : (n : ℕ) (word : Bytes) {r s at : ℕ} {d' o o' : Bytes} → Begins (decimal n) r d' → Put (line word (take r d')) at o s o' → Put (line word (decimal n)) at o s o'
number_line_put n word b p = rw b.part at p
