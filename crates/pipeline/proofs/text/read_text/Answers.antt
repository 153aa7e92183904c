use Rattle.pipeline.proofs.Reading.{text_read}
use Rattle.pipeline.proofs.text.read_text.Goals as goal

pub returns : goal.returns
returns c = text_read c.args.which c.read_rows.ensures c.told.ensures
