-- Every: a test of rows, by the first row and the others.
use Rattle.std.specs.Prelude.{◌≡◌, Bool, ◌&&◌, ℕ, suc, ◌-◌, ◌≤◌}
use Rattle.std.proofs.Common.{sym, ap, ◌∙◌, arith}
use Rattle.model.specs.Bytes.{Bytes}
use Rattle.table.specs.Node.{next_row, every_row}

pub every_on : (f : ℕ → Bool) (T : Bytes) (row count : ℕ) {b : Bool} → 1 ≤ count → b ≡ f row → (b && every_row f T (next_row T row) (count - 1)) ≡ every_row f T row count
every_on f T row count more e =
    let n : count ≡ suc (count - 1) = omega arith in
    ap (λ (x : Bool). x && every_row f T (next_row T row) (count - 1)) e ∙ sym (ap (every_row f T row) n)
