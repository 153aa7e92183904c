-- The entry's equation from what the reader promises.
use mathlib.Core.Path.{◌≡◌, ◌∙◌}
use Prim.Native.Nat.{ℕ}
use Rattle.std.specs.Prelude.{Result}
use Rattle.json_reader.specs.Contract.{refusal_told, place_told, AllRead}
use Rattle.json_reader.specs.declared.NotRead.{NotRead}
use Rattle.model.specs.Bytes.{Bytes}
use Rattle.syntax.specs.Entry.{read_entry}
use Rattle.jehvrukam.specs.Contract.{answered}

alike : {r r' p p' : ℕ} {t t' s s' : Bytes} → r ≡ r' → p ≡ p' → t ≡ t' → s ≡ s' → answered r p t s ≡ answered r' p' t' s'
alike a b c d = λ i. answered (a i) (b i) (c i) (d i)

-- The number and the place that a host is told.
pub read_told : {s T A T' A' : Bytes} {r : Result ℕ NotRead} {n q : ℕ} (p : ℕ) → AllRead s T A r T' A' → n ≡ refusal_told r → q ≡ place_told r p
    → answered n q T' A' ≡ read_entry s T A p
read_told p h e f = alike (e ∙ h.refusal p) (f ∙ h.place p) (h.table p) (h.strings p)
