-- RoundTrip: a value that is not too large, once written, reads as that value, with its instants as their texts.
use Rattle.std.specs.Prelude.{◌≡◌, refl, Bool, true, false, ◌||◌, cond, ℕ, ◌≤◌, ltb, length}
use Rattle.std.proofs.Common.{sym, subst, ap, ◌∙◌, ltb-false}
use Rattle.model.specs.Bytes.{Bytes}
use Rattle.model.specs.Judgement.{Judged, refuses, written_within}
use Rattle.model.proofs.Laws.Logic.{or_false_l, or_false_r, clash}
use Rattle.model.proofs.Laws.Textual.{textual_text, textual_too_large}
use Rattle.model.specs.Limits.{max_text_bytes, max_values, max_nesting}
use Rattle.model.specs.declared.refusal.Refusal.TheVariants.{AnswerTooLarge, OutputTooShort}
use Rattle.model.specs.Size.{value_count, nesting, is_too_large}
use Rattle.model.specs.Textual.{textual}
use Rattle.model.specs.Value.{Value}
use Rattle.model.specs.Writing.{value_text}
use Rattle.syntax.specs.Read.{done, read}
use Rattle.syntax.specs.WellFormed.{WellFormedValue, WellFormedAnswer}
use Rattle.syntax.proofs.Laws.Complete.{complete}
use Rattle.syntax.proofs.Laws.Textual.{textual_well_formed}
use Rattle.syntax.proofs.Laws.Written.{derivation}

-- A well-formed value that is not too large, once written, reads back.
pub reads_back : (v : Value) → WellFormedValue v → is_too_large v ≡ false → read (value_text v) ≡ done v
reads_back v h e =
    let d = derivation v h in
    let deep = ltb max_nesting (nesting v) in
    let many = ltb max_values (value_count v) in
    let long = ltb max_text_bytes (length (value_text v)) in
    let smaller = or_false_r deep (many || long) e in
    sym (ap read d.1) ∙ complete d.0 v d.2
    (ltb-false max_values (value_count v) (or_false_l many long smaller))
    (ltb-false max_nesting (nesting v) (or_false_l deep (many || long) e))
    (subst (λ s. length s ≤ max_text_bytes) (sym d.1) (ltb-false max_text_bytes (length (value_text v)) (or_false_r many long smaller)))

-- ---- answers
-- An answer that is not too large, once written, reads as its textual form.
pub answer_reads : (v : Value) → WellFormedAnswer v → is_too_large v ≡ false → read (value_text v) ≡ done (textual v)
answer_reads v h e = ap read (sym (textual_text v)) ∙ reads_back (textual v) (textual_well_formed v h) (textual_too_large v ∙ e)

-- What is written to an output area is the text of a value that is not too large,
written_text : (room : ℕ) (v : Value) (t : Bytes) → written_within room v ≡ Judged.done t → (is_too_large v ≡ false) × (t ≡ value_text v)
written_text room v t e = go (is_too_large v) refl (ltb room (length (value_text v))) e
  where
    go : (large : Bool) → is_too_large v ≡ large → (short : Bool) → cond large (refuses AnswerTooLarge) (cond short (refuses OutputTooShort) (Judged.done (value_text v))) ≡ Judged.done t
        → (is_too_large v ≡ false) × (t ≡ value_text v)
    go true i short e = clash cc
    go false i true e = clash cc
    go false i false e = (i, cc)

pub output_text : (room : ℕ) (v : Value) (t : Bytes) → written_within room v ≡ Judged.done t → t ≡ value_text v
output_text room v t e = (written_text room v t e).1

-- and reads so too.
pub output_reads : (room : ℕ) (v : Value) (t : Bytes) → WellFormedAnswer v → written_within room v ≡ Judged.done t → read t ≡ done (textual v)
output_reads room v t h e = let w = written_text room v t e in ap read w.1 ∙ answer_reads v h w.0
