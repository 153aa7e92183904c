-- Limits: the program's own, beside those of the model. 01, Both sides of the line: "limit 1,000, output area 16,384 bytes". A release that raises
-- the model's (02, P12) leaves these: the program keeps "the step limit 1,000, the program its output area".
use Rattle.std.specs.Prelude.{ℕ, ◌≤◌, ◌<◌}
use Rattle.std.proofs.Common.{arith}
use Rattle.model.specs.Limits.{max_steps}

unfoldable pub step_limit : ℕ
step_limit = 1000

unfoldable pub output_bytes : ℕ
output_bytes = 16384

-- ---- what the proofs know of them
-- The entry takes the step limit.
pub limit_valid : step_limit ≤ max_steps
unfolding step_limit max_steps
limit_valid = omega arith

-- Steps and places in what is printed are far from the end of the machine's numbers; a number in decimal has room.
pub limit_below : step_limit < 16777216
unfolding step_limit
limit_below = omega arith

pub output_below : output_bytes < 16777216
unfolding output_bytes
output_below = omega arith

pub digits_room : 20 ≤ output_bytes
unfolding output_bytes
digits_room = omega arith
