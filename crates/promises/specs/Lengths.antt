-- Lengths: for each entry, lent areas of the same lengths, whatever they hold; and that two answers are the same.
use Rattle.std.specs.Prelude.{◌≡◌, length}
use Rattle.syntax.specs.Entry.{ReadAnswer}
use Rattle.pipeline.specs.Areas.{TextAreas}
use Rattle.jehvrukam.specs.Check.{CheckAreas}
use Rattle.jehvrukam.specs.Entry.{Entry, WorkAreas}
use Rattle.jehvrukam.specs.Evaluate.{Areas}
use Rattle.jehvrukam.specs.EvaluateChecked.{CheckedAreas}
use Rattle.jehvrukam.specs.Fits.{FitsAreas}
use Rattle.jehvrukam.specs.View.{Told}

pub record SameText (a b : TextAreas) : Type 0 where
  pub table : length a.table ≡ length b.table
  pub strings : length a.strings ≡ length b.strings

pub record SameWork (a b : WorkAreas) : Type 0 where
  pub cells : length a.cells ≡ length b.cells
  pub output : length a.output ≡ length b.output

pub record SameCheck (a b : CheckAreas) : Type 0 where
  pub rule : SameText a.rule b.rule
  pub sheet : SameText a.sheet b.sheet

pub record SameFits (a b : FitsAreas) : Type 0 where
  pub sheet : SameText a.sheet b.sheet
  pub «record» : SameText a.«record» b.«record»

pub record SameEvaluate (a b : Areas) : Type 0 where
  pub rule : SameText a.rule b.rule
  pub «record» : SameText a.«record» b.«record»
  pub work : SameWork a.work b.work

pub record SameChecked (a b : CheckedAreas) : Type 0 where
  pub rule : SameText a.rule b.rule
  pub sheet : SameText a.sheet b.sheet
  pub «record» : SameText a.«record» b.«record»
  pub work : SameWork a.work b.work

-- Two answers: the refusal is the same, and unless it is 1, which touches nothing, so are all numbers and the last bytes of every area.
pub record SameEntry {N A : Type 0} (x y : Entry N A) : Type 0 where
  pub refusal : x.refusal ≡ y.refusal
  pub whole : ¬ (x.refusal ≡ 1) → x ≡ y

pub record SameReading (x y : ReadAnswer) : Type 0 where
  pub refusal : x.refusal ≡ y.refusal
  pub whole : ¬ (x.refusal ≡ 1) → x ≡ y

-- Of an entry of the viewer, which is lent nothing to write but numbers.
pub record SameTold {N : Type 0} (x y : Told N) : Type 0 where
  pub refusal : x.refusal ≡ y.refusal
  pub whole : ¬ (x.refusal ≡ 1) → x ≡ y
