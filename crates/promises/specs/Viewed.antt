-- Viewed: a text that reads, and two areas in which the viewer shows its value.
use Rattle.std.specs.Prelude.{◌≡◌}
use Rattle.model.specs.Bytes.{Bytes}
use Rattle.model.specs.Value.{Value}
use Rattle.syntax.specs.Read.{done, read}
use Rattle.viewer.specs.Shows.{ShowsText}
use Rattle.pipeline.specs.Areas.{TextAreas}

pub record ReadShown (text table strings : Bytes) : Type 0 where
  pub value : Value
  pub reads : read text ≡ done value
  pub shown : ShowsText table strings value

-- The same of the areas of a text.
abbrev pub TextShown : Bytes → TextAreas → Type 0
TextShown text a = ReadShown text a.table a.strings
