-- Viewing: what an entry tells, from what the viewer answered; and a row of an integer that is told holds one.
use mathlib.Core.Path.{◌≡◌, refl, sym, ap, ◌∙◌}
use Rattle.std.specs.Prelude.{Option, None, Some}
use Prim.Native.Nat.{ℕ}
use Rattle.std.specs.Prelude.{ℤ}
use borrow.Author.Tests.{eq-eqb, ne_eqb}
use Rattle.model.specs.Bytes.{Bytes}
use Rattle.model.proofs.Laws.Logic.{T→true}
use Rattle.syntax.specs.Layout.{unbiased}
use Rattle.viewer.specs.Answer.{integer_of, string_of}
use Rattle.viewer.specs.Form.{is_integer, integer_in}
use Rattle.table.specs.Row.{joined}
use Rattle.viewer.specs.Row.{row_count}
use Rattle.viewer.specs.View.{row_seen}
use Rattle.viewer.specs.Laws.Told.{told as seen-told, form_integer}
use Rattle.table.specs.declared.row.Row.{Row}
use Rattle.table.specs.declared.row.Span.{Span}
use Rattle.jehvrukam.specs.Contract.{told, span}
use Rattle.jehvrukam.specs.View.{told_or}

-- ---- an answer, which a definition says, is one that tells nothing, or one that tells something
module _ {N A : Type 0} (of : A → Option N) {answer said is : A} (p : answer ≡ said) (q : answer ≡ is) where
  pub tells_none : {n : N} → of is ≡ None → told 1 n ≡ told_or n (of said)
  tells_none {n} e = sym (ap (told_or n) (ap of (sym p ∙ q) ∙ e))

  pub tells_some : (n : N) {m : N} → of is ≡ Some m → told 0 m ≡ told_or n (of said)
  tells_some n e = sym (ap (told_or n) (ap of (sym p ∙ q) ∙ e))

-- ---- by the kind
module _ (r : Row) where
  pub no_integer : (r.kind ≡ 4 → ⊥) → integer_of (Some r) ≡ None
  no_integer h = rw (ne_eqb r.kind 4 h)

  pub an_integer : r.kind ≡ 4 → integer_of (Some r) ≡ Some (unbiased (joined r))
  an_integer h = rw (eq-eqb r.kind 4 h)

  pub no_string : (r.kind ≡ 5 → ⊥) → string_of (Some r) ≡ None
  no_string h = rw (ne_eqb r.kind 5 h)

  pub a_string : r.kind ≡ 5 → string_of (Some r) ≡ Some (span r.first r.second)
  a_string h = rw (eq-eqb r.kind 5 h)

-- ---- what the entries tell of a row of another kind
module _ {said : Option Row} (r : Row) (p : Some r ≡ said) where
  pub no_integer_told : (r.kind ≡ 4 → ⊥) → {n : ℤ} → told 1 n ≡ told_or n (integer_of said)
  no_integer_told h = tells_none integer_of p refl (no_integer r h)

  pub no_string_told : (r.kind ≡ 5 → ⊥) → {n : Span} → told 1 n ≡ told_or n (string_of said)
  no_string_told h = tells_none string_of p refl (no_string r h)

-- ---- a row of kind 4 that is told holds an integer
pub tells_integer : (table : Bytes) (place : ℕ) (r : Row) → row_seen table place ≡ Some r → r.kind ≡ 4 → integer_in r ≡ unbiased (joined r)
tells_integer table place r e k = rw (T→true (is_integer (joined r)) (form_integer (row_count table) place r (seen-told table place r e).form k))
