-- Tokens: what RFC 8259's ABNF says of a byte by itself, and what reading decides from it. The grammar, the parser and the code share these.
use Rattle.std.specs.Prelude.{Bool, true, false, ◌&&◌, ◌||◌, ℕ, ◌-◌, leb, eqb, Option, None, Some}
use Rattle.model.specs.Limits.{max_values, max_nesting}
use Rattle.syntax.specs.declared.Start.{Start}
use Rattle.syntax.specs.declared.Start.TheVariants.{NoValue, TooMuch, Literal, Minus, Digit, Quote, Bracket, Brace}
use Rattle.syntax.specs.declared.Word.TheVariants.{TrueWord, FalseWord, NullWord}
use Rattle.syntax.specs.declared.Separator.{Separator}
use Rattle.syntax.specs.declared.Separator.TheVariants.{Comma, Close, Neither}
use Rattle.syntax.specs.declared.Escape.{Escape}
use Rattle.syntax.specs.declared.Escape.TheVariants.{Letter, Unicode, NoEscape}

-- A byte from a lowest to a highest one: %xLO-HI.
unfoldable pub within : ℕ → ℕ → ℕ → Bool
within lo hi b = leb lo b && leb b hi

-- ws = *( %x20 / %x09 / %x0A / %x0D )
unfoldable pub is_white : ℕ → Bool
is_white b = eqb b 0x20 || (eqb b 0x09 || (eqb b 0x0A || eqb b 0x0D))

-- ---- numbers
-- DIGIT = %x30-39
unfoldable pub is_digit : ℕ → Bool
is_digit b = within 0x30 0x39 b

-- digit1-9 = %x31-39
unfoldable pub is_digit1_9 : ℕ → Bool
is_digit1_9 b = within 0x31 0x39 b

abbrev pub digit_value : ℕ → ℕ
digit_value b = b - 0x30

-- decimal-point = %x2E
unfoldable pub is_point : ℕ → Bool
is_point b = eqb b 0x2E

-- e = %x65 / %x45
unfoldable pub is_e : ℕ → Bool
is_e b = eqb b 0x65 || eqb b 0x45

-- ---- values
-- 01, refusal 5: the value would be "the 1,025th value", `row` values having begun before it; or the bracket "of the 33rd nesting".
unfoldable pub counted : ℕ → Start → Start
counted row x = elim (leb max_values row) [ true ↦ TooMuch | false ↦ x ]

unfoldable pub nested : ℕ → Start → Start
nested depth x = elim (leb max_nesting depth) [ true ↦ TooMuch | false ↦ x ]

-- value = false / null / true / object / array / number / string, by its first byte.
unfoldable pub start_of : ℕ → ℕ → ℕ → Start
start_of row depth b =
    elim (eqb b 0x22) [
      | true ↦ counted row Quote
      | false ↦
          elim (eqb b 0x5B) [
            | true ↦ counted row (nested depth Bracket)
            | false ↦
                elim (eqb b 0x7B) [
                  | true ↦ counted row (nested depth Brace)
                  | false ↦
                      elim (is_digit b) [
                        | true ↦ counted row Digit
                        | false ↦
                            elim (eqb b 0x2D) [
                              | true ↦ counted row Minus
                              | false ↦
                                  elim (eqb b 0x74) [
                                    | true ↦ counted row (Literal TrueWord)
                                    | false ↦
                                        elim (eqb b 0x66) [
                                          | true ↦ counted row (Literal FalseWord)
                                          | false ↦
                                              elim (eqb b 0x6E) [ true ↦ counted row (Literal NullWord) | false ↦ NoValue ]
                                        ]
                                  ]
                            ]
                      ]
                ]
          ]
    ]

-- value-separator = ws %x2C ws, or the closing byte: end-array = ws %x5D ws, end-object = ws %x7D ws.
unfoldable pub separator_of : ℕ → ℕ → Separator
separator_of close b =
    elim (eqb b 0x2C) [
      | true ↦ Comma
      | false ↦
          elim (eqb b close) [ true ↦ Close | false ↦ Neither ]
    ]

-- ---- strings
-- char = escape ( %x22 / %x5C / %x2F / %x62 / %x66 / %x6E / %x72 / %x74 / %x75 4HEXDIG )
unfoldable pub escape_of : ℕ → Escape
escape_of b =
    elim (eqb b 0x22) [
      | true ↦ Letter 0x22
      | false ↦
          elim (eqb b 0x5C) [
            | true ↦ Letter 0x5C
            | false ↦
                elim (eqb b 0x2F) [
                  | true ↦ Letter 0x2F
                  | false ↦
                      elim (eqb b 0x62) [
                        | true ↦ Letter 0x08
                        | false ↦
                            elim (eqb b 0x66) [
                              | true ↦ Letter 0x0C
                              | false ↦
                                  elim (eqb b 0x6E) [
                                    | true ↦ Letter 0x0A
                                    | false ↦
                                        elim (eqb b 0x72) [
                                          | true ↦ Letter 0x0D
                                          | false ↦
                                              elim (eqb b 0x74) [
                                                | true ↦ Letter 0x09
                                                | false ↦
                                                    elim (eqb b 0x75) [ true ↦ Unicode | false ↦ NoEscape ]
                                              ]
                                        ]
                                  ]
                            ]
                      ]
                ]
          ]
    ]

-- HEXDIG = DIGIT / "A" / "B" / "C" / "D" / "E" / "F" (RFC 5234), letters in either case.
unfoldable pub hex_of : ℕ → Option ℕ
hex_of b =
    elim (within 0x30 0x39 b) [
      | true ↦ Some (b - 0x30)
      | false ↦
          elim (within 0x41 0x46 b) [
            | true ↦ Some (b - 0x37)
            | false ↦
                elim (within 0x61 0x66 b) [ true ↦ Some (b - 0x57) | false ↦ None ]
          ]
    ]
