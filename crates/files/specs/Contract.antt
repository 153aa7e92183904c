-- Contract: what reading a file into a buffer promises.
use Rattle.std.specs.Prelude.{◌≡◌, ℕ, ◌≤◌, List, length, take}

-- So many bytes stand at the start of the buffer. The second part follows from the first, and spares a caller's `&buffer[..n]` a proof file.
abbrev pub Counts : ℕ → List ℕ → Type 0
Counts n bytes = (n ≤ length bytes) × (n ≡ length (take n bytes))
