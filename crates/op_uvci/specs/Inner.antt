-- Inner: what the private functions of this crate are about.
use Rattle.std.specs.Prelude.{◌≡◌, Option, None, Some, cond, List, [], ℕ, ◌+◌, ◌≤◌, leb, length, drop}
use Rattle.model.specs.Bytes.{Bytes, ascii, split_on}
use Rattle.model.specs.Operations.{drop_prefix, fragment, is_uvci_separator}
use Rattle.model.specs.Value.{Value, scalar, null, string}
use Rattle.syntax.specs.Layout.{unbiased}
use Rattle.octets.specs.Fragment.{fragment_length}
use Rattle.table.specs.Strings.{part}
use Rattle.table.specs.declared.row.Span.{Span}

-- The bytes of a text before its first separator.
abbrev pub fragment_size : Bytes → ℕ
fragment_size = fragment_length (ascii "/#:")

-- The fragment that begins at a place of a text ends at another.
pub record Ends (s : Bytes) (at end : ℕ) : Type 0 where
  pub is : end ≡ at + fragment_size (drop at s)

-- The fragments of a text from a place on; none past its end.
abbrev pub fragments_from : Bytes → ℕ → List Bytes
fragments_from s at = cond (leb at (length s)) (split_on is_uvci_separator (drop at s)) []

-- The fragments that are numbered, and the one that a number with 2^53 added names.
abbrev pub numbered : Bytes → List Bytes
numbered s = drop_prefix (split_on is_uvci_separator s)

abbrev pub named : Bytes → ℕ → Value
named s index = fragment (numbered s) (unbiased index)

-- A fragment: the part of a text that begins at a place and has so many bytes.
abbrev pub At : ℕ → ℕ → Option Span
At start size = Some (record { start = start; size = size })

-- The value is null and there is no fragment, or it is the fragment that lies there.
pub data Finds (s : Bytes) : Value → Option Span → Type 0 where
  finds_none : {r : Option Span} → r ≡ None → Finds s (scalar null) r
  finds_part : {start size : ℕ} {r : Option Span} → r ≡ At start size → start + size ≤ length s → Finds s (scalar (string (part s start size))) r
