-- A handle that was stored in a cell is read back, and no other cell changes.
use Rattle.std.specs.Prelude.{◌≡◌, Bool, cond, ℕ, ◌+◌, ◌*◌, ◌/◌, ◌%◌, ◌≤◌, ◌<◌, length}
use Rattle.std.proofs.Math.Path.{refl, ap}
use Rattle.std.proofs.Common.{sym, ◌∙◌, arith, add-zero, lit<}
use Rattle.std.proofs.Math.Bool.{true, false}
use mathlib.Core.List.{[]}
use Rattle.std.proofs.Math.Nat.{mod-add-div', mod-eq_of_lt, div-eq_of_lt, add-mul-div_right, add-mul-mod_self_right}
use borrow.Author.Tests.{lt-ltb, ltb-true, ltb-false}
use Rattle.std.proofs.Math.Dec.{ltb}
use Rattle.std.proofs.lemmas.List.Edits.{sets}
use Rattle.std.proofs.Math.Seq.{length-sets}
use Rattle.area.specs.Words.{word, word_at}
use Rattle.area.specs.Laws.{word_at_word, word_at_sets, word_at_sets_before, word_at_sets_behind}
use Rattle.model.specs.Bytes.{Bytes}
use Rattle.heap.specs.Cells.{cell_bytes, packed, packed_of, tag_number, tag_at, of_packed, Packs, Small, packed_at, cell_handle, second_word, cell_of, stored}
use Rattle.heap.specs.declared.cell.Packed.{Packed}
use Rattle.heap.specs.declared.cell.Tag.{Tag}
use Rattle.heap.specs.declared.cell.Tag.TheVariants as tags
use Rattle.heap.specs.declared.handle.Handle.{Handle}
use Rattle.heap.specs.declared.handle.Handle.TheVariants.{Null, False, True, Integer, Instant, String, Compound}
use Rattle.heap.specs.declared.handle.Area.{Area}
use Rattle.heap.specs.declared.handle.Area.TheVariants.{Rule, Record}
use Rattle.heap.specs.declared.handle.Form.{Form}
use Rattle.heap.specs.declared.handle.Form.TheVariants.{Items, Members, List, Context}
use Rattle.heap.specs.Handles.{span, parts}

-- ---- a handle as three numbers
pub unpacked : (h : Handle) → of_packed (packed_of h) ≡ h
unpacked Null = refl
unpacked False = refl
unpacked True = refl
unpacked (Integer n) = ap Integer (mod-add-div' n 4294967296)
unpacked (Instant n) = ap Instant (mod-add-div' n 4294967296)
unpacked (String s) = go s.area
  where
    go : (a : Area) → of_packed (packed_of (String (span a s.start s.size))) ≡ String (span a s.start s.size)
    go Rule = refl
    go Record = refl
unpacked (Compound p) = go p.form
  where
    go : (f : Form) → of_packed (packed_of (Compound (parts f p.first p.count))) ≡ Compound (parts f p.first p.count)
    go Items = refl
    go Members = refl
    go List = refl
    go Context = refl

pub small_tag : (t : Tag) → tag_number t ≤ 10
small_tag tags.Null = omega arith
small_tag tags.False = omega arith
small_tag tags.True = omega arith
small_tag tags.Integer = omega arith
small_tag tags.Instant = omega arith
small_tag tags.RuleString = omega arith
small_tag tags.RecordString = omega arith
small_tag tags.Items = omega arith
small_tag tags.Members = omega arith
small_tag tags.List = omega arith
small_tag tags.Context = omega arith

tag_there : (t : Tag) → tag_at (tag_number t) ≡ t
tag_there tags.Null = refl
tag_there tags.False = refl
tag_there tags.True = refl
tag_there tags.Integer = refl
tag_there tags.Instant = refl
tag_there tags.RuleString = refl
tag_there tags.RecordString = refl
tag_there tags.Items = refl
tag_there tags.Members = refl
tag_there tags.List = refl
tag_there tags.Context = refl

-- ---- a cell that was stored
module _ (p : Packed) (s : Packs p) where
  tag_back : second_word p / 16777216 ≡ tag_number p.tag
  tag_back = rw (mod-eq_of_lt s.high, add-mul-div_right p.high (tag_number p.tag) (lit< tt), div-eq_of_lt s.high) (omega arith)

  high_back : second_word p % 16777216 ≡ p.high
  high_back = rw (mod-eq_of_lt s.high, add-mul-mod_self_right, mod-eq_of_lt s.high)

  module _ (C : Bytes) (at : ℕ) (room : at + 8 ≤ length C) where
    first_back : word_at (sets C at (cell_of p)) at ≡ p.low
    unfolding word word_at
    first_back =
        ap (word_at (sets C at (cell_of p))) (sym (add-zero at)) ∙ word_at_sets (cell_of p) C at 0 room (omega arith)
        ∙ word_at_word p.low (word (second_word p)) s.low

    second_back : word_at (sets C at (cell_of p)) (at + 4) ≡ second_word p
    unfolding word word_at
    second_back = word_at_sets (cell_of p) C at 4 room (omega arith) ∙ word_at_word (second_word p) [] (omega (arith, mod-eq_of_lt s.high, small_tag p.tag))

    cell_back : packed_at (sets C at (cell_of p)) at ≡ p
    cell_back = rw (second_back, first_back) (λ i. packed ((ap tag_at tag_back ∙ tag_there p.tag) i) p.low (high_back i))

-- ---- stores
pub length_stored : (C : Bytes) (j : ℕ) (h : Handle) → length (stored C j h) ≡ length C
unfolding stored
length_stored C j h = go (ltb j (length C / cell_bytes))
  where
    go : (b : Bool) → length (cond b (sets C (j * cell_bytes) (cell_of (packed_of h))) C) ≡ length C
    go true = length-sets C (j * cell_bytes) (cell_of (packed_of h))
    go false = refl

pub stored_here : (C : Bytes) (j : ℕ) (h : Handle) → j < length C / cell_bytes → Small h → cell_handle (stored C j h) j ≡ h
unfolding stored cell_handle cell_bytes
stored_here C j h l s =
    rw (lt-ltb j (length C / 8) l, length-sets, lt-ltb j (length C / 8) l)
    (ap of_packed (cell_back (packed_of h) s C (j * 8) (omega arith)) ∙ unpacked h)

-- Another cell.
module _ (C : Bytes) (i j : ℕ) (p : Packed) (apart : i ≡ j → ⊥) where
  abbrev after : Bytes
  after = sets C (j * cell_bytes) (cell_of p)

  other_word : (at : ℕ) → i * cell_bytes ≤ at → at + 4 ≤ i * cell_bytes + 8 → word_at after at ≡ word_at C at
  unfolding cell_bytes word
  other_word at l h = go (ltb i j) refl
    where
      go : (b : Bool) → ltb i j ≡ b → word_at after at ≡ word_at C at
      go true e = let before = ltb-true i j e in word_at_sets_before (cell_of p) C (j * 8) at (omega arith)
      go false e = let behind = ltb-false i j e in word_at_sets_behind (cell_of p) C (j * 8) at (omega arith)

  other_cell : cell_handle after i ≡ cell_handle C i
  unfolding cell_handle
  other_cell =
      let first = other_word (i * cell_bytes) (omega arith) (omega arith) in
      let second = other_word (i * cell_bytes + 4) (omega arith) (omega arith) in
      rw (length-sets, first, second)

pub stored_other : (C : Bytes) (i j : ℕ) (h : Handle) → (i ≡ j → ⊥) → cell_handle (stored C j h) i ≡ cell_handle C i
unfolding stored
stored_other C i j h apart = go (ltb j (length C / cell_bytes))
  where
    go : (b : Bool) → cell_handle (cond b (sets C (j * cell_bytes) (cell_of (packed_of h))) C) i ≡ cell_handle C i
    go true = other_cell C i j (packed_of h) apart
    go false = refl
