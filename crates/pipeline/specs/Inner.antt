-- Inner: what the private functions do.
use Rattle.std.specs.Prelude.{ℕ, Result, Ok, Err, ⊤}
use Rattle.json_reader.specs.declared.NotRead.{NotRead}
use Rattle.json_reader.specs.declared.NotRead.TheVariants.{AreaTooShort, Fault}
use Rattle.model.specs.declared.refusal.Refusal.TheVariants.{InvalidArgument, Reading}
use Rattle.pipeline.specs.declared.text.Stop.{Stop}
use Rattle.pipeline.specs.Contract.{stop}

-- What reading comes to: with a refusal, which text, and the place.
abbrev pub told_of : ℕ → Result ℕ NotRead → Result ⊤ Stop
told_of which (Ok rows) = Ok tt
told_of which (Err AreaTooShort) = Err (stop InvalidArgument which 0)
told_of which (Err (Fault f)) = Err (stop (Reading f.reason) which f.at)
