-- Inner: what the private functions of the writer do.
use Rattle.std.specs.Prelude.{◌≡◌, Bool, true, false, cond, Option, None, Some, Result, Ok, Err, [], ◌++◌, ◌⊎◌, ℕ, ◌+◌, ◌-◌, ◌≤◌, ◌<◌, ltb, length}
use Rattle.std.proofs.lemmas.List.Edits.{sets}
use Rattle.model.specs.Bytes.{Bytes, ascii}
use Rattle.model.specs.Limits.{max_text_bytes}
use Rattle.model.specs.Size.{value_count, items_count, members_count, nesting, items_nesting, members_nesting}
use Rattle.model.specs.Value.{Value, scalar, instant, array, object}
use Rattle.model.specs.Eval.{current, accumulator}
use Rattle.model.specs.Writing.{integer_text, string_text, value_text, items_text, members_text}
use Rattle.syntax.specs.Layout.{unbiased}
use Rattle.table.specs.Strings.{bytes_of}
use Rattle.heap.specs.declared.handle.Handle.{Handle}
use Rattle.heap.specs.declared.handle.Handle.TheVariants.{Null, False, True, Integer, Instant, String, Compound}
use Rattle.heap.specs.declared.handle.Form.{Form}
use Rattle.heap.specs.declared.handle.Form.TheVariants.{Items, Members, List, Context}
use Rattle.heap.specs.declared.handle.Parts.{Parts}
use Rattle.heap.specs.declared.part.Label.{Label}
use Rattle.heap.specs.declared.part.Label.TheVariants.{Nothing, Name, Current, Accumulator}
use Rattle.heap.specs.Parts.{label_of}
use Rattle.heap.specs.Strings.{span_bytes}
use Rattle.heap.specs.Unfold.{Areas, instant_at, opened, unfolded}
use Rattle.print.specs.Contract.{Put}
use Rattle.writer.specs.declared.value.Progress.{Progress}
use Rattle.writer.specs.declared.WriteFault.{WriteFault}
use Rattle.writer.specs.declared.WriteFault.TheVariants.{TooLarge, OutputTooShort}

-- ---- tokens
-- A text is written at `at` of the output d, and r is its end, unless it would pass the largest text: then so does r.
pub record Puts (text : Bytes) (at : ℕ) (d : Bytes) (r : ℕ) (d' : Bytes) : Type 0 where
  pub fits : at + length text ≤ max_text_bytes → Put text at d r d'
  pub passes : max_text_bytes < at + length text → max_text_bytes < r

-- ---- scalars
-- The text of a value that is no array or object; nothing for one that is.
abbrev pub handle_text : Bytes → Bytes → Handle → Bytes
handle_text A B Null = ascii "null"
handle_text A B False = ascii "false"
handle_text A B True = ascii "true"
handle_text A B (Integer n) = integer_text (unbiased n)
handle_text A B (Instant n) = value_text (instant_at n)
handle_text A B (String s) = string_text (span_bytes A B s)
handle_text A B (Compound p) = []

-- ---- parts
-- The opening bracket or brace; the closing one is two more.
abbrev pub opening_of : Form → ℕ
opening_of Items = 0x5b
opening_of Members = 0x7b
opening_of List = 0x5b
opening_of Context = 0x7b

-- A name and its colon.
abbrev pub label_text : Bytes → Label → Bytes
label_text B Nothing = []
label_text B (Name s) = string_text (bytes_of B s) ++ ascii ":"
label_text B Current = string_text current ++ ascii ":"
label_text B Accumulator = string_text accumulator ++ ascii ":"

abbrev pub comma_text : Bool → Bytes
comma_text false = []
comma_text true = ascii ","

-- What stands before the first part.
abbrev pub front_text : Bytes → Bytes → Parts → Bool → Bytes
front_text B T p comma = comma_text comma ++ label_text B (label_of T p)

-- ---- values
-- A piece of a text: its bytes, how many values it has, and how deep they nest.
pub record Piece : Type 0 where
  pub text : Bytes
  pub values : ℕ
  pub depth : ℕ

abbrev pub piece : Bytes → ℕ → ℕ → Piece
piece text values depth = record { text = text; values = values; depth = depth }

abbrev pub value_piece : Value → Piece
value_piece v = piece (value_text v) (value_count v) (nesting v)

-- What stands between the brackets or braces, the first part with `before` in front of it.
abbrev pub inside_piece : Value → Bytes → Piece
inside_piece (scalar x) before = piece [] 0 0
inside_piece (instant t) before = piece [] 0 0
inside_piece (array vs) before = piece (items_text vs before) (items_count vs) (items_nesting vs)
inside_piece (object ms) before = piece (members_text ms before) (members_count ms) (members_nesting ms)

-- A piece is written at `at`, where it nests no deeper than `deep`, has no more than `left` values, and does not pass the largest text; else it is too large.
abbrev pub Over : Piece → ℕ → ℕ → ℕ → Type 0
Over p deep left at = (deep < p.depth) ⊎ ((left < p.values) ⊎ (max_text_bytes < at + length p.text))

-- The text goes up to `at`, and so many values may follow.
abbrev pub At : ℕ → ℕ → Option Progress
At at left = Some (record { at = at; left = left })

pub data Writes (p : Piece) (deep left at : ℕ) (d : Bytes) (r : Option Progress) (d' : Bytes) : Type 0 where
  wrote : p.depth ≤ deep → p.values ≤ left → at + length p.text ≤ max_text_bytes → r ≡ At (at + length p.text) (left - p.values) → d' ≡ sets d at p.text
      → Writes p deep left at d r d'
  over : Over p deep left at → r ≡ None → Writes p deep left at d r d'

abbrev pub within : ℕ → ℕ → Option Progress
within at left = cond (ltb max_text_bytes at) None (At at left)

pub record ValueWrites (a : Areas) (h : Handle) (deep at left : ℕ) (d : Bytes) (r : Option Progress) (d' : Bytes) : Type 0 where
  pub writes : Writes (value_piece (unfolded a deep h)) deep left at d r d'

pub record PartsWrite (a : Areas) (p : Parts) (deep at left : ℕ) (d : Bytes) (r : Option Progress) (d' : Bytes) : Type 0 where
  pub writes : Writes (inside_piece (opened a (unfolded a deep) p) []) deep left at d r d'

-- ---- the answer
-- The length of a text that goes so far, in an output of some bytes.
abbrev pub fitted : Option Progress → ℕ → Result ℕ WriteFault
fitted None room = Err TooLarge
fitted (Some p) room = cond (ltb room p.at) (Err OutputTooShort) (Ok p.at)
