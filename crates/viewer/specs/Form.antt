-- Form: when a row has the form described in docs/LAYOUT.md, decided from its numbers, its place and the number of rows.
use Rattle.std.specs.Prelude.{Bool, false, ◌&&◌, cond, ℕ, ◌+◌, ◌*◌, ◌-◌, eqb, ltb, leb, ℤ, pos}
use Rattle.model.specs.Limits.{max_integer}
use Rattle.syntax.specs.Layout.{strings_bytes, unbiased}
use Rattle.table.specs.declared.row.Row.{Row}
use Rattle.table.specs.Row.{joined}

-- A name or string lies within the stated size of a strings area.
abbrev pub is_within : ℕ → ℕ → Bool
is_within start size = leb (start + size) strings_bytes

-- 2^53, one more than the largest integer, was added to an integer within the limits.
abbrev pub is_integer : ℕ → Bool
is_integer n = leb 1 n && leb n (2 * max_integer + 1)

-- The integer in a row's last two numbers; 0 where they are none's.
abbrev pub integer_in : Row → ℤ
integer_in r = cond (is_integer (joined r)) (unbiased (joined r)) (pos 0)

-- A container ends behind its row and within the rows. It has no part exactly if the next row is its end, and never more than the rows between.
abbrev pub is_span : ℕ → ℕ → ℕ → ℕ → Bool
is_span rows place count end =
    ltb place end && leb end rows
    && cond (eqb count 0) (eqb end (place + 1)) (leb count (end - (place + 1)))

-- By the kind: 1 null, 2 false, 3 true, 4 an integer, 5 a string, 6 an array, 7 an object. There is no other.
abbrev pub has_content : ℕ → ℕ → Row → Bool
has_content rows place r =
    cond (eqb r.kind 0) false
    (cond (ltb r.kind 4) (eqb r.first 0 && eqb r.second 0)
    (cond (eqb r.kind 4) (is_integer (joined r))
    (cond (eqb r.kind 5) (is_within r.first r.second)
    (cond (ltb r.kind 8) (is_span rows place r.first r.second)
    false))))

abbrev pub has_form : ℕ → ℕ → Row → Bool
has_form rows place r = is_within r.name.start r.name.size && has_content rows place r
