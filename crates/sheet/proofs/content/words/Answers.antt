use native.Mathlib.Omega.{arith}
use Rattle.sheet.proofs.Contents.{no_words, some_words}
use Rattle.sheet.proofs.content.words.Goals as goal

pub returns-then-q-eq0 : goal.returns-then-q-eq0
returns-then-q-eq0 c = no_words c.if-q-eq0.true

pub returns : goal.returns
returns c = some_words (omega arith) c.collect.ensures
