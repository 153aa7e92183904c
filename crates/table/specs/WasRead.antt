-- WasRead: a table and strings that hold the value of a text, whatever lies behind the table's rows: that is work room until the call ends.
use Rattle.std.specs.Prelude.{◌≡◌, ◌≤◌, length}
use Rattle.model.specs.Bytes.{Bytes}
use Rattle.model.specs.Value.{Value}
use Rattle.syntax.specs.Layout.{rows_part, strings_area_of, table_bytes, table_of}
use Rattle.syntax.specs.Read.{done, read}

pub record WasRead (T B : Bytes) (v : Value) : Type 0 where
  pub text : Bytes
  pub reads : read text ≡ done v
  pub size : table_bytes ≤ length T
  pub rows : rows_part T ≡ rows_part (table_of v (length T))
  pub strings : B ≡ strings_area_of v (length B)
