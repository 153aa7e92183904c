use Rattle.op_scalars.proofs.Comparisons.{integer_number, instant_number_lem, integer_none, instant_none}
use Rattle.op_scalars.proofs.compare.as_number.Goals as goal

pub returns-in_default : goal.returns-in_default
returns-in_default c = rw c.in_default.is-0 (integer_none c.in_default.not-Integer-1)

pub returns-in_default-2 : goal.returns-in_default-2
returns-in_default-2 c = rw c.in_default.is-0 (instant_none c.in_default.not-Instant-1)

pub returns-in-OnIntegers-Integer : goal.returns-in-OnIntegers-Integer
returns-in-OnIntegers-Integer c = rw (c.in-OnIntegers-Integer.is-0, c.in-OnIntegers-Integer.is-1) (integer_number _)

pub returns-in-OnInstants-Instant : goal.returns-in-OnInstants-Instant
returns-in-OnInstants-Instant c = rw (c.in-OnInstants-Instant.is-0, c.in-OnInstants-Instant.is-1) (instant_number_lem _)
