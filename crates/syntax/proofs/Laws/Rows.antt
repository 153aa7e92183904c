-- Rows: sentences of 01, Reading, at their edges, by computation.
use Rattle.std.specs.Prelude.{◌≡◌, refl, true, false, [], ◌∷◌, ◌++◌, ℕ, zero, suc, pos, negsuc, replicate}
use Prim.Native.String.{String}
use Rattle.model.specs.Bytes.{Bytes, ascii}
use Rattle.model.specs.Limits.{max_text_bytes, max_values, max_nesting, max_integer}
use Rattle.model.specs.declared.refusal.ReadFault.TheVariants.{NotJson, RepeatedName, LoneSurrogate, BadNumber, TooLarge}
use Rattle.area.specs.Words.{word}
use Rattle.model.specs.Size.{value_count, members_count}
use Rattle.model.specs.Value.{Value, scalar, array, boolean, null, object, integer, string, no_items, item, no_members, member}
use Rattle.syntax.specs.Layout.{row, biased, item_count, scalar_row, rows_of, strings_of, unnamed}
use Rattle.syntax.specs.Read.{then, ◌>>=◌, give, fail, if, peek, eat, white, expect, literal, signed, is_part, end_number, digits, after_zero, first_digit, int, tails, on_hex, hexes, on_escape, escape, on_lead, char, on_piece, on_unit, or_lone, lone, grow, chars, quoted, among, name, on_start, on_separator, value, ended, text, Read, done, refuse, answer, read}
use Rattle.syntax.specs.Tokens.{within, is_white, is_digit, is_point, is_e, counted, nested, start_of, separator_of, escape_of, hex_of}
use Rattle.syntax.specs.Utf8.{utf8, lead_of, unit_of, pair_of}

-- What a text in ASCII reads as.
abbrev reading : String → Read
reading s = read (ascii s)

abbrev number : ℕ → Value
number n = scalar (integer (pos n))

-- "Of 4: the dot, the e or E, or the digit that first passes the limit." "-0 reads as 0."
pub rows_numbers :
    (reading "9007199254740991" ≡ done (number 9007199254740991))
    × (reading "9007199254740992" ≡ refuse BadNumber 15)
    × (reading "-9007199254740991" ≡ done (scalar (integer (negsuc 9007199254740990))))
    × (reading "-9007199254740992" ≡ refuse BadNumber 16)
    × (reading "-0" ≡ done (number 0))
    × (reading "1." ≡ refuse BadNumber 1)
    × (reading "[1.5" ≡ refuse BadNumber 2)
    × (reading "0e0" ≡ refuse BadNumber 1)
    × (reading "01" ≡ refuse NotJson 1)
unfolding read answer text white then ◌>>=◌ give fail if peek eat literal expect value on_start int first_digit after_zero digits end_number is_part signed on_separator ended start_of counted nested separator_of is_white is_digit is_point is_e within max_text_bytes max_values max_nesting max_integer
rows_numbers = (refl, refl, refl, refl, refl, refl, refl, refl, refl)

-- "Of 3: the closing quote of the second equal name" "Names and strings are equal when their decoded UTF-8 bytes are."
pub rows_names :
    (reading "{\"a\":1,\"a\"" ≡ refuse RepeatedName 9)
    × (reading "{\"a\":1,\"\\u0061\":2}" ≡ refuse RepeatedName 14)
    × (reading "{\"a\":1,\"b\":2}" ≡ done (object (member (ascii "a") (number 1) (member (ascii "b") (number 2) no_members))))
    × (reading "{\"a\":{\"a\":1}}" ≡ done (object (member (ascii "a") (object (member (ascii "a") (number 1) no_members)) no_members)))
unfolding read answer text white then ◌>>=◌ give fail if peek eat literal expect value on_start name quoted chars char escape tails hexes on_lead on_escape on_hex on_piece on_unit or_lone lone grow among int first_digit after_zero digits end_number is_part signed on_separator ended start_of counted nested separator_of escape_of hex_of lead_of unit_of pair_of utf8 is_white is_digit is_point is_e within value_count max_text_bytes max_values max_nesting max_integer
rows_names = (refl, refl, refl, refl)

-- "the backslash of a complete surrogate escape that has no partner (a high one followed at once by a complete low one is a pair)"
pub rows_surrogates :
    (reading "\"\\uD83D\\uDE00\"" ≡ done (scalar (string (0xF0 ∷ 0x9F ∷ 0x98 ∷ 0x80 ∷ []))))
    × (reading "\"\\uD83D\"" ≡ refuse LoneSurrogate 1)
    × (reading "\"\\uDE00\"" ≡ refuse LoneSurrogate 1)
    × (reading "\"\\uD83D\\uDE0" ≡ refuse LoneSurrogate 1)
    × (reading "\"\\uD83D\\uD83D\\uDE00\"" ≡ refuse LoneSurrogate 1)
    × (reading "\"\\uD83" ≡ refuse NotJson 6)
unfolding read answer text white then ◌>>=◌ give fail if peek eat value on_start quoted chars char escape tails hexes on_lead on_escape on_hex on_piece on_unit or_lone lone grow ended start_of counted nested escape_of hex_of lead_of unit_of pair_of utf8 is_white is_digit within max_text_bytes max_values max_nesting
rows_surrogates = (refl, refl, refl, refl, refl, refl)

abbrev in_quotes : Bytes → Read
in_quotes s = read (0x22 ∷ (s ++ (0x22 ∷ [])))

-- "Place of 2: the first byte with which the text no longer begins any RFC 8259 text, or the text's length if it ends too early."
pub rows_utf8 :
    (in_quotes (0x1F ∷ []) ≡ refuse NotJson 1)
    × (in_quotes (0x20 ∷ []) ≡ done (scalar (string (0x20 ∷ []))))
    × (in_quotes (0xC0 ∷ 0x80 ∷ []) ≡ refuse NotJson 1)
    × (in_quotes (0xC3 ∷ 0x28 ∷ []) ≡ refuse NotJson 2)
    × (in_quotes (0xE0 ∷ 0x80 ∷ 0x80 ∷ []) ≡ refuse NotJson 2)
    × (in_quotes (0xED ∷ 0xA0 ∷ 0x80 ∷ []) ≡ refuse NotJson 2)
    × (in_quotes (0xF4 ∷ 0x90 ∷ 0x80 ∷ 0x80 ∷ []) ≡ refuse NotJson 2)
    × (in_quotes (0xEF ∷ 0xBF ∷ 0xBF ∷ []) ≡ done (scalar (string (0xEF ∷ 0xBF ∷ 0xBF ∷ []))))
    × (read (0xEF ∷ 0xBB ∷ 0xBF ∷ 0x31 ∷ []) ≡ refuse NotJson 0)
    × (read [] ≡ refuse NotJson 0)
    × (reading "tru" ≡ refuse NotJson 3)
unfolding read answer text white then ◌>>=◌ give fail if peek eat literal expect value on_start quoted chars char escape tails hexes on_lead on_escape on_piece on_unit or_lone lone grow ended start_of counted nested escape_of lead_of is_white is_digit within max_text_bytes max_values max_nesting
rows_utf8 = (refl, refl, refl, refl, refl, refl, refl, refl, refl, refl, refl)

-- RFC 8259's white space and no other; the exponent's letter in either case.
pub rows_bytes :
    (read (0x20 ∷ 0x09 ∷ 0x0A ∷ 0x0D ∷ 0x31 ∷ 0x0D ∷ 0x0A ∷ 0x09 ∷ 0x20 ∷ []) ≡ done (number 1))
    × (read (0x0B ∷ 0x31 ∷ []) ≡ refuse NotJson 0)
    × (read (0x31 ∷ 0x0C ∷ []) ≡ refuse NotJson 1)
    × (reading "{ \"a\" : [ ] , \"b\" : { } }" ≡ done (object (member (ascii "a") (array no_items) (member (ascii "b") (object no_members) no_members))))
    × (reading "1E5" ≡ refuse BadNumber 1)
    × (reading "-" ≡ refuse NotJson 1)
unfolding read answer text white then ◌>>=◌ give fail if peek eat literal expect value on_start name quoted chars char escape tails hexes on_lead on_escape on_hex on_piece on_unit or_lone lone grow among int first_digit after_zero digits end_number is_part signed on_separator ended start_of counted nested separator_of escape_of hex_of lead_of unit_of pair_of utf8 is_white is_digit is_point is_e within value_count max_text_bytes max_values max_nesting max_integer
rows_bytes = (refl, refl, refl, refl, refl, refl)

-- The eight letters of an escape; hexadecimal digits in either case; \u0000.
pub rows_escapes :
    (reading "\"\\\"\\\\\\/\\b\\f\\n\\r\\t\"" ≡ done (scalar (string (0x22 ∷ 0x5C ∷ 0x2F ∷ 0x08 ∷ 0x0C ∷ 0x0A ∷ 0x0D ∷ 0x09 ∷ []))))
    × (reading "\"\\u0000\\u0009\"" ≡ done (scalar (string (0x00 ∷ 0x09 ∷ []))))
    × (reading "\"\\uabcd\\uefAB\\uCDEF\"" ≡ done (scalar (string (0xEA ∷ 0xAF ∷ 0x8D ∷ 0xEE ∷ 0xBE ∷ 0xAB ∷ 0xEC ∷ 0xB7 ∷ 0xAF ∷ []))))
    × (reading "\"\\uD7FF\\uE000\\uDBFF\\uDFFF\"" ≡ done (scalar (string (0xED ∷ 0x9F ∷ 0xBF ∷ 0xEE ∷ 0x80 ∷ 0x80 ∷ 0xF4 ∷ 0x8F ∷ 0xBF ∷ 0xBF ∷ []))))
    × (reading "\"\\u00g0\"" ≡ refuse NotJson 5)
    × (reading "\"\\x\"" ≡ refuse NotJson 2)
unfolding read answer text white then ◌>>=◌ give fail if peek eat value on_start quoted chars char escape tails hexes on_lead on_escape on_hex on_piece on_unit or_lone lone grow ended start_of counted nested escape_of hex_of lead_of unit_of pair_of utf8 is_white is_digit within max_text_bytes max_values max_nesting
rows_escapes = (refl, refl, refl, refl, refl, refl)

abbrev itself : Bytes → Type 0
itself s = in_quotes s ≡ done (scalar (string s))

-- The first and the last character of each row of RFC 3629's table stand for themselves.
pub rows_characters :
    itself (0x21 ∷ 0x23 ∷ 0x5B ∷ 0x5D ∷ 0x7F ∷ [])
    × itself (0xC2 ∷ 0x80 ∷ 0xDF ∷ 0xBF ∷ [])
    × itself (0xE0 ∷ 0xA0 ∷ 0x80 ∷ 0xE0 ∷ 0xBF ∷ 0xBF ∷ 0xE1 ∷ 0x80 ∷ 0x80 ∷ 0xEC ∷ 0xBF ∷ 0xBF ∷ 0xED ∷ 0x80 ∷ 0x80 ∷ 0xED ∷ 0x9F ∷ 0xBF ∷ 0xEE ∷ 0x80 ∷ 0x80 ∷ 0xEF ∷ 0xBF ∷ 0xBF ∷ [])
    × itself (0xF0 ∷ 0x90 ∷ 0x80 ∷ 0x80 ∷ 0xF0 ∷ 0xBF ∷ 0xBF ∷ 0xBF ∷ 0xF1 ∷ 0x80 ∷ 0x80 ∷ 0x80 ∷ 0xF3 ∷ 0xBF ∷ 0xBF ∷ 0xBF ∷ 0xF4 ∷ 0x80 ∷ 0x80 ∷ 0x80 ∷ 0xF4 ∷ 0x8F ∷ 0xBF ∷ 0xBF ∷ [])
    × (in_quotes (0xC1 ∷ 0xBF ∷ []) ≡ refuse NotJson 1)
    × (in_quotes (0xF0 ∷ 0x8F ∷ 0xBF ∷ 0xBF ∷ []) ≡ refuse NotJson 2)
    × (in_quotes (0xF5 ∷ 0x80 ∷ 0x80 ∷ 0x80 ∷ []) ≡ refuse NotJson 1)
    × (in_quotes (0xE1 ∷ 0x80 ∷ []) ≡ refuse NotJson 3)
unfolding read answer text white then ◌>>=◌ give fail if peek eat literal expect value on_start quoted chars char escape tails hexes on_lead on_escape on_piece on_unit or_lone lone grow ended start_of counted nested escape_of lead_of is_white is_digit within max_text_bytes max_values max_nesting
rows_characters = (refl, refl, refl, refl, refl, refl, refl, refl)

abbrev nested_arrays : ℕ → Value
nested_arrays zero = array no_items
nested_arrays (suc n) = array (item (nested_arrays n) no_items)

-- "Thirty-two nested empty arrays read; thirty-three give 5 at place 32."
pub rows_nesting :
    (read (replicate 32 0x5B ++ replicate 32 0x5D) ≡ done (nested_arrays 31))
    × (read (replicate 33 0x5B ++ replicate 33 0x5D) ≡ refuse TooLarge 32)
unfolding read answer text white then ◌>>=◌ give fail if peek eat value on_start on_separator ended start_of counted nested separator_of is_white is_digit within value_count max_text_bytes max_values max_nesting
rows_nesting = (refl, refl)

-- The example of docs/LAYOUT.md, and a value of each kind.
abbrev example : Value
example = object (member (ascii "job") (number 7) (member (ascii "key") (scalar (string (ascii "a"))) no_members))

abbrev every_kind : Value
every_kind = array (item (scalar null) (item (scalar (boolean false)) (item (scalar (boolean true)) (item (scalar (integer (negsuc 0))) (item (object no_members) no_items)))))

pub rows_layout :
    (rows_of example 0 0 unnamed ≡ word 7 ++ word 0 ++ word 2 ++ word 3 ++ word 772 ++ word 0 ++ word 7 ++ word 2097152 ++ word 773 ++ word 3 ++ word 6 ++ word 1)
    × (strings_of example ≡ ascii "jobkeya")
    × (rows_of every_kind 0 0 unnamed ≡ word 6 ++ word 0 ++ word 5 ++ word 6 ++ word 1 ++ word 0 ++ word 0 ++ word 0 ++ word 2 ++ word 0 ++ word 0 ++ word 0 ++ word 3 ++ word 0 ++ word 0 ++ word 0 ++ word 4 ++ word 0 ++ word 4294967295 ++ word 2097151 ++ word 7 ++ word 0 ++ word 0 ++ word 6)
unfolding rows_of strings_of scalar_row row biased item_count word value_count members_count
rows_layout = (refl, refl, refl)
