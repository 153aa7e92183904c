-- Demand2: demand 2's sentence on answers, over texts, restated with nothing else: an answer without a date-time, once written, reads back as the same
-- value. The rest of demand 2 is that the entries do what the definitions say: their contracts. At the entries: promises/Demand2.antt.
use Rattle.std.specs.Prelude.{◌≡◌, ℕ}
use Rattle.std.specs.Prelude.{Some}
use Rattle.model.specs.Bytes.{Bytes}
use Rattle.model.specs.Eval.{run, value, outcome}
use Rattle.model.specs.Judgement.{Judged, answer_of}
use Rattle.model.specs.Rule.{Rule}
use Rattle.model.specs.Shape.{shape}
use Rattle.model.specs.Value.{Value}
use Rattle.syntax.specs.Read.{done, read}
use Rattle.syntax.specs.ReadsBack.{ReadsBack}
use Rattle.syntax.specs.WellFormed.{WellFormedAnswer}
use Rattle.syntax.proofs.Laws.Answered as AnsweredLaws
use Rattle.syntax.proofs.Laws.Answers as AnswersLaws
use Rattle.syntax.proofs.Laws.WellFormed as WellFormedLaws

-- ---- what is written reads back
-- Every text that evaluation gives, from a rule text and a record text that read, under any limit and into any output, reads back (ReadsBack.antt).
pub answer_reads_back :
    (rule_text_lem record_text_lem : Bytes) (rule record' : Value) (r : Rule) (limit room : ℕ) (t : Bytes)
    → read rule_text_lem ≡ done rule
    → shape rule ≡ Some r
    → read record_text_lem ≡ done record'
    → (answer_of r record' limit room).result ≡ Judged.done t
    → ReadsBack r record' limit t
answer_reads_back rule_text_lem record_text_lem rule record' r limit room t reads-rule is-rule reads-record =
    AnsweredLaws.answer_reads rule record' r limit room t (WellFormedLaws.read_well_formed rule_text_lem rule reads-rule) (WellFormedLaws.read_well_formed record_text_lem record' reads-record) is-rule

-- ---- answers
-- What evaluation gives is well formed: strings and names in UTF-8, names distinct, integers within the limits, instants in range.
pub answer_well_formed :
    (rule_text_lem record_text_lem : Bytes) (rule record' : Value) (r : Rule) (limit : ℕ) (v : Value)
    → read rule_text_lem ≡ done rule
    → shape rule ≡ Some r
    → read record_text_lem ≡ done record'
    → outcome (run r record' limit) ≡ value v
    → WellFormedAnswer v
answer_well_formed rule_text_lem record_text_lem rule record' r limit v reads-rule is-rule reads-record ends =
    AnswersLaws.answer_well_formed rule record' r limit v (WellFormedLaws.read_well_formed rule_text_lem rule reads-rule) (WellFormedLaws.read_well_formed record_text_lem record' reads-record) is-rule ends
