-- Contract: what the functions of this crate promise.
use Rattle.std.specs.Prelude.{◌≡◌, Bool, true, false, ℕ, suc, ◌+◌, ◌≤◌, ltb, length}
use Rattle.std.proofs.lemmas.List.Edits.{sets}
use Rattle.model.specs.Bytes.{Bytes}
use Rattle.model.specs.Limits.{max_text_bytes}
use Rattle.model.specs.Writing.{string_text}

-- Where a token may begin: no further behind the largest text than a bracket and a comma. It keeps offsets from overflowing.
abbrev pub Near : ℕ → Type 0
Near at = at ≤ max_text_bytes + 2

-- How far an offset may be inside a string: far behind the end of any string that is written, which has six bytes for each of its bytes at most
-- (also with the limits of 02, P12), and far from the end of the machine's numbers.
abbrev pub farthest : ℕ
farthest = 1073741824

-- A text is written into the output d from `at` on, as far as it fits (`sets` leaves out what lies past the end); r is its end.
pub record Put (text : Bytes) (at : ℕ) (d : Bytes) (r : ℕ) (d' : Bytes) : Type 0 where
  pub end : r ≡ at + length text
  pub output : d' ≡ sets d at text

-- A string of more bytes than the largest text has is not written.
abbrev pub StringPutIf : Bool → Bytes → ℕ → Bytes → ℕ → Bytes → Type 0
StringPutIf true s at d r d' = (r ≡ suc max_text_bytes) × (d' ≡ d)
StringPutIf false s at d r d' = Put (string_text s) at d r d'

pub record StringPut (s : Bytes) (at : ℕ) (d : Bytes) (r : ℕ) (d' : Bytes) : Type 0 where
  pub meets : StringPutIf (ltb max_text_bytes (length s)) s at d r d'
