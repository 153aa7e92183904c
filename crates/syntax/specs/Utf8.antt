-- Utf8: RFC 3629, and the code units of RFC 8259's \u escapes.
use Rattle.std.specs.Prelude.{Bool, true, false, [], ◌∷◌, ◌++◌, ℕ, ◌+◌, ◌*◌, ◌-◌, ◌/◌, ◌%◌, ◌<◌, ◌≤◌, ltb, eqb}
use Rattle.model.specs.Bytes.{Bytes}
use Rattle.syntax.specs.declared.Lead.{Lead}
use Rattle.syntax.specs.declared.Lead.TheVariants.{Closing, Backslash, Never, Char}
use Rattle.syntax.specs.declared.Unit.{Unit}
use Rattle.syntax.specs.declared.Unit.TheVariants.{Plain, High, Low}
use Rattle.syntax.specs.Tokens.{within}

-- A character's bytes: the UTF-8 of a code point (RFC 3629, section 3).
unfoldable pub utf8 : ℕ → Bytes
utf8 u =
    elim (ltb u 0x80) [
      | true ↦ u ∷ []
      | false ↦
          elim (ltb u 0x800) [
            | true ↦ (0xC0 + u / 64) ∷ (0x80 + u % 64) ∷ []
            | false ↦
                elim (ltb u 0x10000) [
                  | true ↦ (0xE0 + u / 4096) ∷ (0x80 + u / 64 % 64) ∷ (0x80 + u % 64) ∷ []
                  | false ↦
                      (0xF0 + u / 262144) ∷ (0x80 + u / 4096 % 64) ∷ (0x80 + u / 64 % 64) ∷ (0x80 + u % 64) ∷ []
                ]
          ]
    ]

-- Well-formed UTF-8: characters one after another, each a code point up to 10FFFF that is no surrogate.
pub data WellFormed : Bytes → Type 0 where
  nothing : WellFormed []
  character : (u : ℕ) {s : Bytes} → u < 0x110000 → (0xD800 ≤ u → u ≤ 0xDFFF → ⊥) → WellFormed s → WellFormed (utf8 u ++ s)

-- The byte at a character of a string (RFC 8259: unescaped = %x20-21 / %x23-5B / %x5D-10FFFF), by the table UTF8-char of RFC 3629, section 4:
-- how many bytes follow, and from where to where the first of them may be; the others are UTF8-tail = %x80-BF.
unfoldable pub lead_of : ℕ → Lead
lead_of b =
    elim (eqb b 0x22) [
      | true ↦ Closing
      | false ↦
          elim (eqb b 0x5C) [
            | true ↦ Backslash
            | false ↦
                elim (within 0x20 0x7F b) [
                  | true ↦ Char 0 0x80 0xBF
                  | false ↦
                      elim (within 0xC2 0xDF b) [
                        | true ↦ Char 1 0x80 0xBF
                        | false ↦
                            elim (eqb b 0xE0) [
                              | true ↦ Char 2 0xA0 0xBF
                              | false ↦
                                  elim (within 0xE1 0xEC b) [
                                    | true ↦ Char 2 0x80 0xBF
                                    | false ↦
                                        elim (eqb b 0xED) [
                                          | true ↦ Char 2 0x80 0x9F
                                          | false ↦
                                              elim (within 0xEE 0xEF b) [
                                                | true ↦ Char 2 0x80 0xBF
                                                | false ↦
                                                    elim (eqb b 0xF0) [
                                                      | true ↦ Char 3 0x90 0xBF
                                                      | false ↦
                                                          elim (within 0xF1 0xF3 b) [
                                                            | true ↦ Char 3 0x80 0xBF
                                                            | false ↦
                                                                elim (eqb b 0xF4) [ true ↦ Char 3 0x80 0x8F | false ↦ Never ]
                                                          ]
                                                    ]
                                              ]
                                        ]
                                  ]
                            ]
                      ]
                ]
          ]
    ]

-- A code unit of UTF-16: the surrogates are D800 to DBFF (high) and DC00 to DFFF (low).
unfoldable pub unit_of : ℕ → Unit
unit_of u = elim (within 0xD800 0xDBFF u) [ true ↦ High | false ↦ elim (within 0xDC00 0xDFFF u) [ true ↦ Low | false ↦ Plain ] ]

-- The code point of a surrogate pair (RFC 8259, section 7).
unfoldable pub pair_of : ℕ → ℕ → ℕ
pair_of h l = 0x10000 + (h - 0xD800) * 0x400 + (l - 0xDC00)
