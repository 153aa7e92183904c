-- Example: the second starred row of 01. The run begins the whole and 0, and never the second operand: where that stands in the text.
use Rattle.std.specs.Prelude.{◌≡◌, refl, false, [], ◌∷◌, ℕ}
use Rattle.model.specs.Bytes.{ascii}
use Rattle.syntax.specs.declared.Lead.TheVariants.{Char}
use Rattle.syntax.specs.Grammar.{no_ws, zero_int, int, no_digits, no_frac, no_exp, no_tail, Chars, no_chars, unescaped, JValue, jnumber, jstring, jarray, jobject, last_element, element, last_member, JText, jtext, spell, spell_ws, spell_digits, spell_int, spell_frac, spell_exp, spell_minus, spell_tails, spell_chars, spell_value}
use Rattle.syntax.specs.Locate.{element_at, member_at, child_site, value_site, site, StandsAt}
use Rattle.syntax.specs.Tokens.{within, is_digit1_9}
use Rattle.syntax.specs.Utf8.{lead_of}

char : (b : ℕ) → lead_of b ≡ Char 0 0x80 0xBF → Chars → Chars
char b e cs = unescaped b 0 0x80 0xBF e no_tail cs

-- {"+":["a",1]}
operand : JValue
unfolding lead_of within is_digit1_9
operand =
    jobject no_ws (last_member (char 0x2B refl no_chars) no_ws no_ws
    (jarray no_ws (element (jstring (char 0x61 refl no_chars)) no_ws no_ws (last_element (jnumber false (int 0x31 tt no_digits) no_frac no_exp) no_ws))) no_ws)

row : JText
unfolding lead_of within
row =
    jtext no_ws (jobject no_ws (last_member (char 0x61 refl (char 0x6E refl (char 0x64 refl no_chars))) no_ws no_ws
    (jarray no_ws (element (jnumber false zero_int no_frac no_exp) no_ws no_ws (last_element operand no_ws))) no_ws)) no_ws

-- Member 0, item 1: place 1 of the model.
pub second_operand : StandsAt (ascii "{\"and\":[0,{\"+\":[\"a\",1]}]}") (0 ∷ 1 ∷ []) (ascii "{\"and\":[0,") (ascii "{\"+\":[\"a\",1]}") (ascii "]}")
unfolding char operand row spell spell_ws spell_digits spell_int spell_frac spell_exp spell_minus spell_tails spell_chars spell_value element_at member_at child_site value_site site
second_operand = record { splits = refl; tree = row; spells = refl; value = operand; there = refl; is = refl }
