-- Contract: what `read`, `read_rows` and `read_indexed` promise of a text s, a table T and a strings area A, which are T' and A' afterwards.
use Rattle.std.specs.Prelude.{◌≡◌, Bool, true, false, ℕ, length, replicate, Result, Ok, Err}
use Rattle.model.specs.Bytes.{Bytes}
use Rattle.model.specs.Refusal.{number, read_number}
use Rattle.model.specs.declared.refusal.ReadFault.{ReadFault}
use Rattle.model.specs.declared.refusal.Refusal.TheVariants.{InvalidArgument}
use Rattle.model.specs.Size.{value_count}
use Rattle.model.specs.Value.{Value}
use Rattle.name_index.specs.Table.{IndexedTable}
use Rattle.syntax.specs.Entry.{too_short, read_entry}
use Rattle.syntax.specs.Read.{Read, done, refuse, read}
use Rattle.table.specs.WasRead.{WasRead}
use Rattle.scan.specs.Contract.{fault_of}
use Rattle.json_reader.specs.declared.NotRead.{NotRead}
use Rattle.json_reader.specs.declared.NotRead.TheVariants.{AreaTooShort, Fault}

-- What is answered, by whether an area is too short, and by what the text reads as: the number of rows.
abbrev pub answer_of : Bool → Read → Result ℕ NotRead
answer_of true g = Err AreaTooShort
answer_of false (done v) = Ok (value_count v)
answer_of false (refuse k p) = Err (Fault (fault_of k p))

-- The refusal's number and the place that a host is told, p being what its place holds before: refusal 1 leaves it.
abbrev pub refusal_told : Result ℕ NotRead → ℕ
refusal_told (Ok rows) = 0
refusal_told (Err AreaTooShort) = number InvalidArgument
refusal_told (Err (Fault f)) = read_number f.reason

abbrev pub place_told : Result ℕ NotRead → ℕ → ℕ
place_told (Ok rows) p = 0
place_told (Err AreaTooShort) p = p
place_told (Err (Fault f)) p = f.at

-- The answer and the areas are those of specs/Entry.antt of the crate syntax.
pub record AllRead (s T A : Bytes) (r : Result ℕ NotRead) (T' A' : Bytes) : Type 0 where
  pub answer : r ≡ answer_of (too_short T A) (read s)
  pub refusal : (p : ℕ) → refusal_told r ≡ (read_entry s T A p).refusal
  pub place : (p : ℕ) → place_told r p ≡ (read_entry s T A p).place
  pub table : (p : ℕ) → T' ≡ (read_entry s T A p).table
  pub strings : (p : ℕ) → A' ≡ (read_entry s T A p).strings

-- Until the work room behind the rows is cleared. Index: what a text that reads leaves there; one that is refused leaves zeros.
pub record RowsReadAs (Index : Bytes → Bytes → Type 0) (s T A : Bytes) (r : Result ℕ NotRead) (T' A' : Bytes) : Type 0 where
  pub answer : r ≡ answer_of (too_short T A) (read s)
  pub untouched : too_short T A ≡ true → (T' ≡ T) × (A' ≡ A)
  pub refused : (k : ReadFault) (p : ℕ) → too_short T A ≡ false → read s ≡ refuse k p → (T' ≡ replicate (length T) 0) × (A' ≡ replicate (length A) 0)
  pub sizes : (length T' ≡ length T) × (length A' ≡ length A)
  pub was_read : (v : Value) → too_short T A ≡ false → read s ≡ done v → WasRead T' A' v
  pub indexed : (v : Value) → too_short T A ≡ false → read s ≡ done v → Index T' A'

-- The index of names stays.
abbrev pub RowsRead : Bytes → Bytes → Bytes → Result ℕ NotRead → Bytes → Bytes → Type 0
RowsRead = RowsReadAs IndexedTable
