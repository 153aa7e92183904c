-- Answered: what is written of a rule's answer (model/Judgement.antt: answer_of) reads back.
use Rattle.std.specs.Prelude.{◌≡◌, refl, ℕ}
use Rattle.std.proofs.Common.{ap, ◌∙◌}
use Rattle.std.specs.Prelude.{Some}
use Rattle.model.specs.Bytes.{Bytes}
use Rattle.model.specs.Eval.{run, Outcome, value, refusal, outcome}
use Rattle.model.specs.Judgement.{Judged, written, answer_of}
use Rattle.model.proofs.Laws.Logic.{clash}
use Rattle.model.proofs.Laws.Textual.{textual_same}
use Rattle.model.specs.Rule.{Rule}
use Rattle.model.specs.Shape.{shape}
use Rattle.model.specs.Value.{Value}
use Rattle.syntax.specs.Read.{done}
use Rattle.syntax.specs.ReadsBack.{ReadsBack}
use Rattle.syntax.specs.WellFormed.{WellFormedValue}
use Rattle.syntax.proofs.Laws.Answers.{answer_well_formed}
use Rattle.syntax.proofs.Laws.RoundTrip.{output_text, output_reads}

pub answer_reads :
    (rule record' : Value) (r : Rule) (limit room : ℕ) (t : Bytes)
    → WellFormedValue rule
    → WellFormedValue record'
    → shape rule ≡ Some r
    → (answer_of r record' limit room).result ≡ Judged.done t
    → ReadsBack r record' limit t
answer_reads rule record' r limit room t rule-formed record-formed is-rule w = go (outcome (run r record' limit)) refl w
  where
    go : (o : Outcome) → outcome (run r record' limit) ≡ o → written room o ≡ Judged.done t → ReadsBack r record' limit t
    go (value v) ends w =
        let reads = output_reads room v t (answer_well_formed rule record' r limit v rule-formed record-formed is-rule ends) w in
        record { answer = v; ends = ends; is_text_lem = output_text room v t w; reads = reads; reads_back = λ free. reads ∙ ap done (textual_same v free) }
    go (refusal x) ends w = clash cc
