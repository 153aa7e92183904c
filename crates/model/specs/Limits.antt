-- Limits: the numbers of document 01 that bound texts, values, steps and sheets. Among the definitions they stand only here:
-- a release that raises one (02, P12: bytes, values, steps, cells) changes this file.
use Rattle.std.specs.Prelude.{ℕ}

-- "text over 16,384 bytes": refusals 5 and 11; the size of a strings area
unfoldable pub max_text_bytes : ℕ
max_text_bytes = 16384

-- "more than 1,024 values": refusals 5 and 11; the rows of a table
unfoldable pub max_values : ℕ
max_values = 1024

-- "nested more than 32 deep": refusals 5 and 11
unfoldable pub max_nesting : ℕ
max_nesting = 32

-- "a step limit above 1,000": refusal 1
unfoldable pub max_steps : ℕ
max_steps = 1000

-- "evaluation has room for 4,096 values"
unfoldable pub heap_cells : ℕ
heap_cells = 4096

-- "an integer beyond 9007199254740991 either way": refusals 4 and 9
unfoldable pub max_integer : ℕ
max_integer = 9007199254740991

-- "A sheet is an object of at most 256 members"
unfoldable pub max_sheet_members : ℕ
max_sheet_members = 256
