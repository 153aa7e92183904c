-- Walk: the places after values, one after the other, give the nth part.
use Rattle.std.proofs.Common.{◌≡◌, ℕ, suc, ◌+◌, ◌-◌, ◌≤◌, ◌<◌, None, Some, le-leb, lt-ltb, le-ltb, arith}
use Rattle.std.proofs.lemmas.Bool.{lt-leb}
use Rattle.model.specs.Bytes.{Bytes}
use Rattle.table.specs.declared.row.Row.{Row}
use Rattle.viewer.specs.Row.{count_of, end_of}
use Rattle.viewer.specs.View.{row_seen, next_within, nth_within, part_seen}

-- ---- one value
module _ (T : Bytes) (end place : ℕ) where
  pub next_gone : row_seen T place ≡ None → None ≡ next_within T end place
  next_gone e = rw e

  module _ {r : Row} (e : row_seen T place ≡ Some r) where
    pub next_is : end_of place r ≤ end → Some (end_of place r) ≡ next_within T end place
    next_is l = rw (e, le-leb (end_of place r) end l)

    pub next_none : end < end_of place r → None ≡ next_within T end place
    next_none l = rw (e, lt-leb (end_of place r) end l)

-- ---- several
pub nth_more : (T : Bytes) (end n m at q : ℕ) → n ≡ suc m → next_within T end at ≡ Some q → nth_within T end n at ≡ nth_within T end m q
unfolding nth_within
nth_more T end n m at q more e = rw (more, e)

pub nth_none : (T : Bytes) (end n at : ℕ) → 1 ≤ n → next_within T end at ≡ None → nth_within T end n at ≡ None
unfolding nth_within
nth_none T end n at l e = let more : n ≡ suc (n - 1) = omega arith in rw (more, e)

module _ (T : Bytes) (end n at : ℕ) (last : n ≡ 0) where
  pub nth_last : (q : ℕ) → next_within T end at ≡ Some q → nth_within T end n at ≡ Some at
  unfolding nth_within
  nth_last q e = rw (last, e)

  pub nth_gone : next_within T end at ≡ None → nth_within T end n at ≡ None
  unfolding nth_within
  nth_gone e = rw (last, e)

-- ---- the parts of a row's value
module _ (T : Bytes) (place nth : ℕ) where
  pub part_none : row_seen T place ≡ None → None ≡ part_seen T place nth
  part_none e = rw e

  module _ (r : Row) (e : row_seen T place ≡ Some r) where
    pub part_past : count_of r ≤ nth → None ≡ part_seen T place nth
    part_past l = rw (e, le-ltb nth (count_of r) l)

    pub part_is : nth < count_of r → nth_within T r.second nth (place + 1) ≡ part_seen T place nth
    part_is l = rw (e, lt-ltb nth (count_of r) l)
