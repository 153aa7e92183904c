-- Fragments: the first fragment of a text and the others, from a place on.
use mathlib.Core.Path.{◌≡◌, refl, sym, ap, ◌∙◌}
use mathlib.Core.Bool.{Bool, true, false, ◌||◌, or-false}
use mathlib.Core.List.{List, [], ◌∷◌}
use Prim.Native.Nat.{ℕ, suc, ◌+◌, ◌-◌, ◌≤◌, ◌<◌}
use native.Mathlib.Decide.{dec_lt}
use native.Mathlib.Nat.{sub-zero}
use native.Mathlib.Numerals.{add-one}
use native.Mathlib.Omega.{arith}
use borrow.Author.Tests.{le-leb, lt-leb}
use lib.Dec.{eqb}
use lib.ListN.{length, take, drop, drop_of_length-le}
use lib.Seq.{drop-cons, drop-drop}
use Rattle.model.specs.Bytes.{Bytes, ascii, byte, same_bytes, split_on}
use Rattle.model.specs.Lists.{any}
use Rattle.model.specs.Operations.{is_uvci_separator, nth_string}
use Rattle.model.specs.Value.{Value}
use Rattle.octets.specs.Laws.Fragment.{end_inside, others, first_fragment}
use Rattle.table.specs.Strings.{part}
use Rattle.std.specs.Prelude.{Option, None}
use Rattle.table.specs.declared.row.Span.{Span as Part}
use Rattle.op_uvci.specs.Inner.{At, fragment_size, fragments_from, numbered, Ends, Finds, finds_none, finds_part}

-- ---- the first fragment, and the others after its separator
-- 01: "Split on / # :".
is_separator : (x : ℕ) → any (eqb x) (ascii "/#:") ≡ is_uvci_separator x
is_separator x = go (eqb x (byte "/")) (eqb x (byte "#")) (eqb x (byte ":"))
  where
    go : (a b c : Bool) → a || (b || (c || false)) ≡ (a || b) || c
    go true b c = refl
    go false true c = refl
    go false false c = or-false c

abbrev after_separator : Bytes → List Bytes
after_separator = others is_uvci_separator

first : (s : Bytes) → split_on is_uvci_separator s ≡ take (fragment_size s) s ∷ after_separator (drop (fragment_size s) s)
first = first_fragment (ascii "/#:") is_separator

after_end : (s : Bytes) (end : ℕ) → after_separator (drop end s) ≡ fragments_from s (end + 1)
after_end s end = go (dec_lt end (length s))
  where
    go : Dec (end < length s) → after_separator (drop end s) ≡ fragments_from s (end + 1)
    go (yes p) = rw (le-leb (end + 1) (length s) (omega arith), drop-cons s end 0 p, add-one)
    go (no p) = rw (lt-leb (end + 1) (length s) (omega arith), drop_of_length-le s {i = end} (omega arith))

module _ (s : Bytes) (at end : ℕ) (inside : at ≤ length s) (e : Ends s at end) where
  pub ends_inside : end ≤ length s
  ends_inside = omega (arith, e.is, end_inside (ascii "/#:") s at inside)

  -- From a place of the text on.
  pub first_from : fragments_from s at ≡ part s at (end - at) ∷ fragments_from s (end + 1)
  first_from =
      let n : fragment_size (drop at s) ≡ end - at = omega (arith, e.is) in
      let after = ap after_separator (drop-drop (fragment_size (drop at s)) at s ∙ ap (λ (k : ℕ). drop k s) (sym e.is)) ∙ after_end s end in
      rw (le-leb at (length s) inside) (first (drop at s) ∙ (λ i. take (n i) (drop at s) ∷ after i))

past : (s : Bytes) (at : ℕ) → length s < at → fragments_from s at ≡ []
past s at h = rw (lt-leb at (length s) h)

-- ---- the numbered fragment
-- The value v is the fragment `left` after the one that begins at `start`.
pub record Seeking (s : Bytes) (v : Value) (start left : ℕ) : Type 0 where
  pub is : nth_string (fragments_from s start) left ≡ v

module _ {s : Bytes} {v : Value} {start left : ℕ} (g : Seeking s v start left) where
  pub seek_past : {r : Option Part} → length s < start → r ≡ None → Finds s v r
  seek_past h e = rw (← g.is, past s start h) (finds_none e)

  module _ {end : ℕ} (inside : start ≤ length s) (e : Ends s start end) where
    pub seek_here : {r : Option Part} → left ≡ 0 → r ≡ At start (end - start) → Finds s v r
    seek_here z f = rw (← g.is, first_from s start end inside e, z) (finds_part f (omega (arith, e.is, ends_inside s start end inside e)))

    pub seek_on : ¬ (left ≡ 0) → Seeking s v (end + 1) (left - 1)
    seek_on z =
        let n : left ≡ suc (left - 1) = omega arith in
        record { is = sym (ap (λ (l : List Bytes). nth_string l left) (first_from s start end inside e) ∙ ap (nth_string (part s start (end - start) ∷ fragments_from s (end + 1))) n) ∙ g.is }

-- ---- the prefix
from_start : (s : Bytes) → fragments_from s 0 ≡ split_on is_uvci_separator s
from_start s = rw (le-leb 0 (length s) (omega arith))

module _ {s : Bytes} {one : ℕ} (e : Ends s 0 one) where
  start_split : split_on is_uvci_separator s ≡ part s 0 one ∷ fragments_from s (one + 1)
  start_split = sym (from_start s) ∙ (first_from s 0 one (omega arith) e ∙ ap (λ (n : ℕ). part s 0 n ∷ fragments_from s (one + 1)) (sub-zero one))

  -- One fragment only.
  pub prefix_alone : one ≡ length s → fragments_from s 0 ≡ numbered s
  prefix_alone h = from_start s ∙ (rw (start_split, past s (one + 1) (omega arith)))

  module _ {two : ℕ} (more : ¬ (one ≡ length s)) (f : Ends s (one + 1) two) where
    next_split : split_on is_uvci_separator s ≡ part s 0 one ∷ part s (one + 1) (two - (one + 1)) ∷ fragments_from s (two + 1)
    next_split = start_split ∙ ap (λ (l : List Bytes). part s 0 one ∷ l) (first_from s (one + 1) two (omega (arith, ends_inside s 0 one (omega arith) e)) f)

    -- The first two fragments p and q are compared.
    module _ {p : Bytes} (is_first : p ≡ part s 0 one) where
      pub first_other : same_bytes p (ascii "URN") ≡ false → fragments_from s 0 ≡ numbered s
      first_other h = from_start s ∙ (rw (next_split, ← is_first, h))

      module _ (urn : same_bytes p (ascii "URN") ≡ true) {q : Bytes} (is-second : q ≡ part s (one + 1) (two - (one + 1))) where
        pub second_other : same_bytes q (ascii "UVCI") ≡ false → fragments_from s 0 ≡ numbered s
        second_other h = from_start s ∙ (rw (next_split, ← is_first, urn, ← is-second, h))

        pub prefix_dropped : same_bytes q (ascii "UVCI") ≡ true → fragments_from s (two + 1) ≡ numbered s
        prefix_dropped h = rw (next_split, ← is_first, urn, ← is-second, h)
