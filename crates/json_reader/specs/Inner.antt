-- Inner: what the private functions ask and promise. A text s is read from an offset into a table and a strings area, which are T and A before and T' and A' after.
use Rattle.std.specs.Prelude.{◌≡◌, List, [], ◌∷◌, ◌++◌, ℕ, suc, ◌+◌, ◌*◌, ◌-◌, ◌/◌, ◌≤◌, ◌<◌, eqb, length, drop, Result, Ok, Err}
use Rattle.std.proofs.lemmas.List.Edits.{sets}
use Rattle.model.specs.Bytes.{Bytes}
use Rattle.model.specs.Limits.{max_text_bytes, max_values}
use Rattle.model.specs.declared.refusal.ReadFault.TheVariants.{NotJson}
use Rattle.model.specs.Size.{value_count, items_count, members_count}
use Rattle.model.specs.Value.{Value, scalar, array, object, string, Values, no_items, Members, no_members, member_count}
use Rattle.area.specs.Words.{word_at}
use Rattle.name_index.specs.Contract.{Entry, Indexed, Between, HasRow, names_of, part, entry}
use Rattle.scan.specs.declared.Fault.{Fault}
use Rattle.scan.specs.Contract.{fault_of, Skipped, Separated}
use Rattle.syntax.specs.Layout.{row_bytes, rows_part, table_bytes, unnamed, rows_of, item_rows, member_rows, strings_of, item_strings, member_strings, item_count}
use Rattle.syntax.specs.Layout as layout
use Rattle.syntax.specs.Read.{Parsed, ok, bad, Parser, then, ◌>>=◌, give, if, peek, eat, white, chars, clear, name, items, members, Read, done, refuse, read}
use Rattle.syntax.specs.declared.Word.{Word}
use Rattle.syntax.specs.declared.Word.TheVariants.{TrueWord, FalseWord, NullWord}
use Rattle.syntax.specs.declared.Separator.TheVariants.{Comma, Close, Neither}
use Rattle.json_reader.specs.declared.list.After.{After}
use Rattle.json_reader.specs.declared.list.After.TheVariants.{Closed, More}
use Rattle.json_reader.specs.declared.step.Cursor.{Cursor}
use Rattle.json_reader.specs.declared.name.Named.{Named}
use Rattle.json_reader.specs.declared.row.Label.{Label}
use Rattle.json_reader.specs.Index.{IndexedValue, IndexedItems, IndexedMembers, entries_of}

-- ---- where things lie
abbrev pub label_of : Label → layout.Label
label_of name = record { start = name.start; size = name.size }

-- How what is read is indexed: by its first row and the table.
abbrev pub Index : Type 0 → Type 1
Index X = X → ℕ → Bytes → Type 0

-- How what is read lies in the areas: its rows, by the first of them and the strings' bytes before it, and its strings; how many rows it has; how
-- many items or members; and the index of its objects.
pub record Form (X : Type 0) : Type 1 where
  pub rows : X → ℕ → ℕ → Bytes
  pub strings : X → Bytes
  pub count : X → ℕ
  pub parts : X → ℕ
  pub indexed : Index X

-- The same with another index.
abbrev pub with_index : {X : Type 0} → Form X → Index X → Form X
with_index F J = record { rows = F.rows; strings = F.strings; count = F.count; parts = F.parts; indexed = J }

abbrev pub value_form : layout.Label → Form Value
value_form name = record {
  rows = λ v at used. rows_of v at used name;
  strings = strings_of;
  count = value_count;
  parts = λ v. 0;
  indexed = λ v row T. IndexedValue T row v;
}

abbrev pub items_form : Form Values
items_form = record { rows = item_rows; strings = item_strings; count = items_count; parts = item_count; indexed = λ vs row T. IndexedItems T row vs }

-- Members that follow the members es of an object, the first of which has the row `first`: they are indexed together.
abbrev pub members_index : ℕ → List Entry → Index Members
members_index first es ms row T = IndexedMembers T row ms × Indexed T first (es ++ entries_of row ms)

abbrev pub members_form : ℕ → Form Members
members_form first = record { rows = member_rows; strings = member_strings; count = members_count; parts = member_count; indexed = members_index first [] }

-- ---- what is asked and promised
-- What a reading asks. The name of the value at `row` has `size` bytes.
pub record Room (s T A : Bytes) (at row used size : ℕ) : Type 0 where
  pub place : at ≤ length s
  pub short : length s ≤ max_text_bytes
  pub area : length s ≤ length A
  pub table : table_bytes ≤ length T
  pub text : used ≤ at
  pub rows : row ≤ max_values
  pub label : size ≤ max_text_bytes

-- Of the members of an object, the first of which has the row `row`.
pub record MembersRoom (s T A : Bytes) (at row used : ℕ) : Type 0 where
  pub room : Room s T A at row used 0
  pub positive : 1 ≤ row

-- Of a value that leaves the strings area as it is.
pub record ScalarRoom (s T : Bytes) (at row used size : ℕ) : Type 0 where
  pub place : at ≤ length s
  pub short : length s ≤ max_text_bytes
  pub table : table_bytes ≤ length T
  pub text : used ≤ at
  pub rows : row < max_values
  pub label : size ≤ max_text_bytes

abbrev pub cursor : ℕ → ℕ → ℕ → ℕ → Cursor
cursor at row used count = record { at = at; row = row; used = used; count = count }

-- What came of a reading.
abbrev pub Step : Type 0
Step = Result Cursor Fault

-- A reading that went well, of x, up to the offset q, and stands at c.
pub record Wrote {X : Type 0} (F : Form X) (s : Bytes) (row used : ℕ) (T A : Bytes) (x : X) (u : Bytes) (q : ℕ) (c : Cursor) (T' A' : Bytes) : Type 0 where
  pub place : c.at ≡ q
  pub left : u ≡ drop q s
  pub rows : c.row ≡ row + F.count x
  pub text : c.used ≡ used + length (F.strings x)
  pub parts : c.count ≡ F.parts x
  pub table : rows_part T' ≡ sets (rows_part T) (row * row_bytes) (F.rows x row used)
  pub area : A' ≡ sets A used (F.strings x)
  pub index : F.indexed x row T'

-- The answer, by what the parser gives. After a fault the areas are free: the entry clears them.
abbrev pub Meets : {X : Type 0} → Form X → Bytes → ℕ → ℕ → Bytes → Bytes → Parsed X → Step → Bytes → Bytes → Type 0
Meets F s row used T A (ok x u q) (Ok c) T' A' = Wrote F s row used T A x u q c T' A'
Meets F s row used T A (ok x u q) (Err f) T' A' = ⊥
Meets F s row used T A (bad k p) (Ok c) T' A' = ⊥
Meets F s row used T A (bad k p) (Err f) T' A' = f ≡ fault_of k p

-- The index entries of certain rows stay.
abbrev pub Kept : (ℕ → Type 0) → Bytes → Bytes → Type 0
Kept keeps T T' = (e : ℕ) → 1 ≤ e → keeps e → entry T' e ≡ entry T e

-- The rows before one.
abbrev pub Below : ℕ → ℕ → Type 0
Below bound e = e < bound

-- What a caller needs to go on, whatever was read.
pub record Safe (keeps : ℕ → Type 0) (s : Bytes) (at row used : ℕ) (T : Bytes) (c : Cursor) (T' : Bytes) : Type 0 where
  pub on : at < c.at
  pub inside : c.at ≤ length s
  pub text : c.used ≤ c.at
  pub more : used ≤ c.used
  pub rows : c.row ≤ max_values
  pub less : row < c.row
  pub count : row + c.count ≤ c.row
  pub kept : Kept keeps T T'

abbrev pub StepSafe : (ℕ → Type 0) → Bytes → ℕ → ℕ → ℕ → Bytes → Step → Bytes → Type 0
StepSafe keeps s at row used T (Ok c) T' = Safe keeps s at row used T c T'
StepSafe keeps s at row used T (Err f) T' = Unit {0}

-- What is read at `at` is what the parser m gives, with steps enough: more than two for each byte that is left, and `more`.
pub record Reads {X : Type 0} (F : Form X) (m : ℕ → Parser X) (more : ℕ) (keeps : ℕ → Type 0) (s : Bytes) (at row used : ℕ) (T A : Bytes) (r : Step) (T' A' : Bytes) : Type 0 where
  pub safe : StepSafe keeps s at row used T r T'
  pub run : (f : ℕ) → 2 * (length s - at) + more < f → Meets F s row used T A (m f (drop at s) at) r T' A'

-- ---- rows
-- What a row asks.
pub record RowRoom (T : Bytes) (row kind size : ℕ) : Type 0 where
  pub rows : row < max_values
  pub table : table_bytes ≤ length T
  pub kinds : kind < 256
  pub label : size ≤ max_text_bytes

pub record Stored (T : Bytes) (row : ℕ) (bs : Bytes) (T' : Bytes) : Type 0 where
  pub is : T' ≡ sets T (row * row_bytes) bs

-- The row of an empty array or object.
pub record Emptied (T : Bytes) (row kind : ℕ) (name : Label) (at used : ℕ) (r : Cursor) (T' : Bytes) : Type 0 where
  pub is : r ≡ cursor (at + 1) (row + 1) used 0
  pub table : T' ≡ sets T (row * row_bytes) (layout.row kind (label_of name) 0 (row + 1))

-- The row of an array or object whose items or members are read, up to c.
pub record Filled (T : Bytes) (row kind : ℕ) (name : Label) (c r : Cursor) (T' : Bytes) : Type 0 where
  pub is : r ≡ cursor c.at c.row c.used 0
  pub table : T' ≡ sets T (row * row_bytes) (layout.row kind (label_of name) c.count c.row)

-- ---- values
abbrev pub kind_of : Word → ℕ
kind_of NullWord = 1
kind_of FalseWord = 2
kind_of TrueWord = 3

-- The parts of specs/Read.antt's `value` that have a function of their own: after a quote, after a bracket, after a brace.
abbrev pub string_from : ℕ → Parser Value
string_from f = chars f clear >>= λ bs. eat (give (scalar (string bs)))

abbrev pub array_from : ℕ → ℕ → ℕ → Parser Value
array_from f row depth =
    white (peek >>= λ c. if (eqb c 0x5D) (eat (give (array no_items))) (λ u q. then (items f (suc row) (suc depth) u q) (λ vs. give (array vs))))

abbrev pub object_from : ℕ → ℕ → ℕ → Parser Value
object_from f row depth =
    white (peek >>= λ c. if (eqb c 0x7D) (eat (give (object no_members))) (λ u q. then (members f (suc row) (suc depth) [] u q) (λ ms. give (object ms))))

-- A value, by a parser m of values.
pub record ValueRead (name : Label) (m : ℕ → Parser Value) (more : ℕ) (s : Bytes) (at row used : ℕ) (T A : Bytes) (r : Step) (T' A' : Bytes) : Type 0 where
  pub reads : Reads (value_form (label_of name)) m more (Below (row + 1)) s at row used T A r T' A'

-- The same for a value that leaves the strings area as it is.
pub record RowRead (name : Label) (m : Parser Value) (s : Bytes) (at row used : ℕ) (T : Bytes) (r : Step) (T' : Bytes) : Type 0 where
  pub reads : (A : Bytes) → Reads (value_form (label_of name)) (λ f. m) 0 (Below (row + 1)) s at row used T A r T' A

-- From the first byte of an item to the closing bracket.
pub record ItemsRead (s : Bytes) (at row used depth : ℕ) (T A : Bytes) (r : Step) (T' A' : Bytes) : Type 0 where
  pub reads : Reads items_form (λ f. items f row depth) 1 (Below row) s at row used T A r T' A'

-- From the first byte of a name to the closing brace, after members of the names `seen`.
pub record MembersRead (seen : List Bytes) (s : Bytes) (at row used depth : ℕ) (T A : Bytes) (r : Step) (T' A' : Bytes) : Type 0 where
  pub reads : Reads (members_form row) (λ f. members f row depth seen) 1 (Below row) s at row used T A r T' A'

-- ---- what follows an item or a member
-- After the part before which there were `count`.
pub record FollowRoom (s : Bytes) (count : ℕ) : Type 0 where
  pub short : length s ≤ max_text_bytes
  pub few : count ≤ max_values

-- The list breaks after a part that ended at `here`: neither a comma nor the closing byte follows.
pub record Breaks (t : Bytes) (here : Cursor) (close : ℕ) (f : Fault) : Type 0 where
  pub skipped : Skipped t here.at f.at
  pub neither : Separated t close f.at Neither
  pub reason : f.reason ≡ NotJson

-- The closing byte follows.
pub record Closes (t : Bytes) (here : Cursor) (count close : ℕ) (r : Cursor) : Type 0 where
  pub end : ℕ
  pub skipped : Skipped t here.at end
  pub closing : Separated t close end Close
  pub is : r ≡ cursor (end + 1) here.row here.used (count + 1)

-- A comma follows, and then a part.
pub record Continued (t : Bytes) (here : Cursor) (count close : ℕ) (r : Cursor) : Type 0 where
  pub end : ℕ
  pub skipped : Skipped t here.at end
  pub comma : Separated t close end Comma
  pub next : ℕ
  pub white : Skipped t (end + 1) next
  pub is : r ≡ cursor next here.row here.used (count + 1)

abbrev pub FollowMeets : Bytes → Cursor → ℕ → ℕ → Result After Fault → Type 0
FollowMeets t here count close (Ok (Closed r)) = Closes t here count close r
FollowMeets t here count close (Ok (More r)) = Continued t here count close r
FollowMeets t here count close (Err f) = Breaks t here close f

pub record Followed (t : Bytes) (here : Cursor) (count close : ℕ) (o : Result After Fault) : Type 0 where
  pub meets : FollowMeets t here count close o

-- ---- names
-- The rows of an object's members so far have their names, which end before `to`.
unfoldable pub Holds : Bytes → Bytes → ℕ → List Entry → Type 0
Holds T A to [] = Unit {0}
Holds T A to (e ∷ es) =
    (e.name ≡ part A (word_at T (e.row * 16 + 4)) (word_at T (e.row * 16) / 256))
    × (word_at T (e.row * 16 + 4) + word_at T (e.row * 16) / 256 ≤ to)
    × Holds T A to es

-- The members es, of rows from `first` up to `row`, are in the table, its index and the strings area.
pub record Has (T A : Bytes) (first row to : ℕ) (es : List Entry) : Type 0 where
  pub indexed : Indexed T first es
  pub holds : Holds T A to es
  pub between : Between first row es
  pub none : row ≡ first → es ≡ []
  pub some : es ≡ [] → row ≡ first

-- The rows before one, but for those of the members es.
abbrev pub Older : ℕ → List Entry → ℕ → Type 0
Older row es e = (e < row) × (HasRow es e → ⊥)

-- The member in a row, whose name is the `size` bytes of the strings area from `start` on.
abbrev pub named : Bytes → ℕ → ℕ → ℕ → Entry
named A row start size = record { row = row; name = part A start size }

pub record NameRoom (s T A : Bytes) (at first row used : ℕ) : Type 0 where
  pub room : Room s T A at row used 0
  pub positive : 1 ≤ first
  pub order : first ≤ row

-- A name n, with its colon up to q and white space from there up to `on`.
pub record NameWrote (s : Bytes) (first row used : ℕ) (T A : Bytes) (es : List Entry) (n u : Bytes) (q on : ℕ) (name : Label) (T' A' : Bytes) : Type 0 where
  pub skipped : Skipped s q on
  pub left : u ≡ drop q s
  pub start : name.start ≡ used
  pub size : name.size ≡ length n
  pub area : A' ≡ sets A used n
  pub indexed : Indexed T' first (es ++ (named A' row used name.size ∷ []))

-- The answer, by what the parser gives.
abbrev pub NameMeets : Bytes → ℕ → ℕ → ℕ → Bytes → Bytes → List Entry → Parsed Bytes → Result Named Fault → Bytes → Bytes → Type 0
NameMeets s first row used T A es (ok n u q) (Ok m) T' A' = NameWrote s first row used T A es n u q m.at m.name T' A'
NameMeets s first row used T A es (ok n u q) (Err f) T' A' = ⊥
NameMeets s first row used T A es (bad k p) (Ok m) T' A' = ⊥
NameMeets s first row used T A es (bad k p) (Err f) T' A' = f ≡ fault_of k p

-- What a caller needs to go on, whatever was read.
pub record NameSafe (s : Bytes) (at first row used : ℕ) (T A : Bytes) (on : ℕ) (name : Label) (T' : Bytes) : Type 0 where
  pub more : at < on
  pub inside : on ≤ length s
  pub start : name.start ≡ used
  pub text : used + name.size ≤ on
  pub rows : rows_part T' ≡ rows_part T
  pub kept : (es : List Entry) → Has T A first row used es → Kept (Older row es) T T'

abbrev pub NameStepSafe : Bytes → ℕ → ℕ → ℕ → ℕ → Bytes → Bytes → Result Named Fault → Bytes → Type 0
NameStepSafe s at first row used T A (Ok m) T' = NameSafe s at first row used T A m.at m.name T'
NameStepSafe s at first row used T A (Err f) T' = Unit {0}

pub record NameRead (s : Bytes) (at first row used : ℕ) (T A : Bytes) (r : Result Named Fault) (T' A' : Bytes) : Type 0 where
  pub safe : NameStepSafe s at first row used T A r T'
  pub run : (f : ℕ) → length s ≤ at + f → (es : List Entry) → Has T A first row used es
      → NameMeets s first row used T A es (name f (names_of es) (drop at s) at) r T' A'

-- ---- the whole text
-- A text that reads as v.
pub record TextWrote (v : Value) (T A : Bytes) (rows used : ℕ) (T' A' : Bytes) : Type 0 where
  pub count : rows ≡ value_count v
  pub text : used ≡ length (strings_of v)
  pub table : rows_part T' ≡ sets (rows_part T) 0 (rows_of v 0 0 unnamed)
  pub area : A' ≡ sets A 0 (strings_of v)
  pub index : IndexedValue T' 0 v
  pub few : rows ≤ max_values
  pub fits : used ≤ max_text_bytes

-- The answer, by what the text reads as.
abbrev pub TextMeets : Read → Bytes → Bytes → Step → Bytes → Bytes → Type 0
TextMeets (done v) T A (Ok c) T' A' = TextWrote v T A c.row c.used T' A'
TextMeets (done v) T A (Err f) T' A' = ⊥
TextMeets (refuse k p) T A (Ok c) T' A' = ⊥
TextMeets (refuse k p) T A (Err f) T' A' = f ≡ fault_of k p

pub record TextRead (s T A : Bytes) (r : Step) (T' A' : Bytes) : Type 0 where
  pub meets : TextMeets (read s) T A r T' A'
