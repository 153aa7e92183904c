-- Strings: where the bytes of a string lie.
use Rattle.model.specs.Bytes.{Bytes}
use Rattle.table.specs.Strings.{part}
use Rattle.heap.specs.declared.handle.Area.{Area}
use Rattle.heap.specs.declared.handle.Area.TheVariants.{Rule, Record}
use Rattle.heap.specs.declared.handle.Span.{Span}

-- Of the rule's strings A and the record's strings B.
abbrev pub area_bytes : Bytes → Bytes → Area → Bytes
area_bytes A B Rule = A
area_bytes A B Record = B

-- 01, Evaluation: "A string answer, before it is written, is a part of the rule's text area or of the record's, never a copy."
abbrev pub span_bytes : Bytes → Bytes → Span → Bytes
span_bytes A B s = part (area_bytes A B s.area) s.start s.size
