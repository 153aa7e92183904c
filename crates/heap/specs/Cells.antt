-- Cells: a cell holds a handle in eight bytes: a number of 32 bits, then one of 24 bits and the tag in the last byte, lowest byte first.
-- A cell of zeros is null. The widths serve larger limits too: 32 bits for offsets, rows and cells, 24 for sizes and counts.
use Rattle.std.specs.Prelude.{cond, ◌++◌, ℕ, ◌+◌, ◌*◌, ◌/◌, ◌%◌, ◌<◌, eqb, ltb, length}
use Rattle.std.proofs.lemmas.List.Edits.{sets}
use Rattle.area.specs.Words.{word, word_at}
use Rattle.model.specs.Bytes.{Bytes}
use Rattle.heap.specs.declared.cell.Packed.{Packed}
use Rattle.heap.specs.declared.cell.Tag.{Tag}
use Rattle.heap.specs.declared.cell.Tag.TheVariants as tags
use Rattle.heap.specs.declared.handle.Handle.{Handle}
use Rattle.heap.specs.declared.handle.Handle.TheVariants.{Null, False, True, Integer, Instant, String, Compound}
use Rattle.heap.specs.declared.handle.Area.{Area}
use Rattle.heap.specs.declared.handle.Area.TheVariants.{Rule, Record}
use Rattle.heap.specs.declared.handle.Form.{Form}
use Rattle.heap.specs.declared.handle.Form.TheVariants.{Items, Members, List, Context}
use Rattle.heap.specs.Handles.{span, parts}

unfoldable pub cell_bytes : ℕ
cell_bytes = 8

-- ---- a handle as a tag and two numbers
abbrev pub packed : Tag → ℕ → ℕ → Packed
packed t a b = record { tag = t; low = a; high = b }

abbrev pub span_tag : Area → Tag
span_tag Rule = tags.RuleString
span_tag Record = tags.RecordString

abbrev pub parts_tag : Form → Tag
parts_tag Items = tags.Items
parts_tag Members = tags.Members
parts_tag List = tags.List
parts_tag Context = tags.Context

abbrev pub packed_of : Handle → Packed
packed_of Null = packed tags.Null 0 0
packed_of False = packed tags.False 0 0
packed_of True = packed tags.True 0 0
packed_of (Integer n) = packed tags.Integer (n % 4294967296) (n / 4294967296)
packed_of (Instant n) = packed tags.Instant (n % 4294967296) (n / 4294967296)
packed_of (String s) = packed (span_tag s.area) s.start s.size
packed_of (Compound p) = packed (parts_tag p.form) p.first p.count

abbrev pub handle_of : Tag → ℕ → ℕ → Handle
handle_of tags.Null a b = Null
handle_of tags.False a b = False
handle_of tags.True a b = True
handle_of tags.Integer a b = Integer (a + b * 4294967296)
handle_of tags.Instant a b = Instant (a + b * 4294967296)
handle_of tags.RuleString a b = String (span Rule a b)
handle_of tags.RecordString a b = String (span Record a b)
handle_of tags.Items a b = Compound (parts Items a b)
handle_of tags.Members a b = Compound (parts Members a b)
handle_of tags.List a b = Compound (parts List a b)
handle_of tags.Context a b = Compound (parts Context a b)

abbrev pub of_packed : Packed → Handle
of_packed f = handle_of f.tag f.low f.high

-- ---- tags as numbers
abbrev pub tag_number : Tag → ℕ
tag_number tags.Null = 0
tag_number tags.False = 1
tag_number tags.True = 2
tag_number tags.Integer = 3
tag_number tags.Instant = 4
tag_number tags.RuleString = 5
tag_number tags.RecordString = 6
tag_number tags.Items = 7
tag_number tags.Members = 8
tag_number tags.List = 9
tag_number tags.Context = 10

-- Any other number is null's.
abbrev pub tag_at : ℕ → Tag
tag_at n =
    cond (eqb n 1) tags.False
    (cond (eqb n 2) tags.True
    (cond (eqb n 3) tags.Integer
    (cond (eqb n 4) tags.Instant
    (cond (eqb n 5) tags.RuleString
    (cond (eqb n 6) tags.RecordString
    (cond (eqb n 7) tags.Items
    (cond (eqb n 8) tags.Members
    (cond (eqb n 9) tags.List
    (cond (eqb n 10) tags.Context
    tags.Null)))))))))

-- Numbers of the widths of a cell.
pub record Packs (f : Packed) : Type 0 where
  pub low : f.low < 4294967296
  pub high : f.high < 16777216

-- What a cell can hold. What is wider is stored cut.
abbrev pub Small : Handle → Type 0
Small h = Packs (packed_of h)

-- ---- cells
-- The numbers of the cell at a place.
abbrev pub packed_at : Bytes → ℕ → Packed
packed_at C at = packed (tag_at (word_at C (at + 4) / 16777216)) (word_at C at) (word_at C (at + 4) % 16777216)

-- The handle in a cell of the heap C; null where there is no such cell.
unfoldable pub cell_handle : Bytes → ℕ → Handle
cell_handle C j = cond (ltb j (length C / cell_bytes)) (of_packed (packed_at C (j * cell_bytes))) Null

-- The bytes of a cell: two words.
abbrev pub second_word : Packed → ℕ
second_word f = f.high % 16777216 + tag_number f.tag * 16777216

abbrev pub cell_of : Packed → Bytes
cell_of f = word f.low ++ word (second_word f)

-- The heap with a handle in a cell; the heap itself where there is no such cell.
unfoldable pub stored : Bytes → ℕ → Handle → Bytes
stored C j h = cond (ltb j (length C / cell_bytes)) (sets C (j * cell_bytes) (cell_of (packed_of h))) C
