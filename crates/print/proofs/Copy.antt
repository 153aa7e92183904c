-- Bytes copied into an output, as far as they fit.
use mathlib.Core.Path.{◌≡◌, refl, sym, ap}
use mathlib.Core.List.{[], ◌∷◌}
use mathlib.Core.Logic.{⊎_elim}
use Prim.Native.Nat.{ℕ, zero, suc, ◌+◌, ◌-◌, ◌≤◌, ◌<◌}
use native.Mathlib.Omega.{arith}
use Rattle.std.specs.Prelude.{min}
use Rattle.std.proofs.lemmas.Bool.{cases_lt}
use lib.ListN.{length, take, set, length-set}
use lib.Seq.{sets, set_out, take_all}
use Rattle.model.specs.Bytes.{Bytes}
use Rattle.print.specs.Laws.{sets_out}

-- What begins past the output's end leaves it as it is.
pub set_outside : (d : Bytes) (at b : ℕ) → length d ≤ at → d ≡ set d at b
set_outside d at b h = sym (set_out d at b h)

pub put_outside : (d s : Bytes) (at : ℕ) → length d ≤ at → d ≡ sets d at s
put_outside d s at h = sym (sets_out s d at h)

-- As many as there is room for are all that can be seen.
sets_cut : (s d : Bytes) (at n : ℕ) → length d ≤ at + n → sets d at (take n s) ≡ sets d at s
sets_cut s d at zero h = sym (sets_out s d at (omega arith))
sets_cut [] d at (suc n) h = refl
sets_cut (x ∷ s) d at (suc n) h = sets_cut s (set d at x) (suc at) n (omega (arith, length-set d at x))

pub all_seen : (d s : Bytes) (at n : ℕ) → n ≡ min (length s) (length d - at) → at ≤ length d → sets d at (take n s) ≡ sets d at s
all_seen d s at n m h =
    ⊎_elim
    (λ (i : n < length s). sets_cut s d at n (omega arith))
    (λ (i : length s ≤ n). ap (sets d at) (take_all n s i))
    (cases_lt n (length s))
