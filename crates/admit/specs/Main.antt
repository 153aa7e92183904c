-- Main: what 01 says of the program, of the bytes that it prints.
use Rattle.std.specs.Prelude.{◌≡◌, refl, Bool, true, false, suc, ltb, length, take}
use Rattle.std.proofs.Common.{sym, ◌∙◌, arith, ltb-true, ltb-false, take_all, length-take-le}
use Rattle.model.specs.Bytes.{Bytes, ascii}
use Rattle.model.specs.Eval.{body}
use Rattle.model.specs.Limits.{max_text_bytes, max_values, max_nesting, max_integer}
use Rattle.model.specs.Shape.{shape}
use Rattle.model.specs.Size.{value_count, nesting}
use Rattle.model.specs.Writing.{decimal, value_text}
use Rattle.syntax.proofs.Main.{over_long}
use Rattle.syntax.specs.Read.{read, answer, text, white, then, ◌>>=◌, give, fail, if, peek, eat, value, on_start, name, quoted, chars, char, tails, on_lead, on_piece, grow, among, int, first_digit, after_zero, digits, end_number, is_part, signed, on_separator, ended}
use Rattle.syntax.specs.Tokens.{within, is_white, is_digit, is_point, is_e, counted, nested, start_of, separator_of}
use Rattle.syntax.specs.Utf8.{lead_of}
use Rattle.admit.specs.Limits.{step_limit, output_bytes}
use Rattle.admit.specs.Printed.{printed_for}

-- "The first row prints, whole: `answer true`, newline, `steps 3`, newline."
pub prints_an_answer : printed_for (ascii "{\"===\":[{\"var\":\"a\"},1]}") (ascii "{\"a\":1}") ≡ ascii "answer true\nsteps 3\n"
unfolding printed_for read answer text white then ◌>>=◌ give fail if peek eat value on_start name quoted chars char tails on_lead on_piece grow among int first_digit after_zero digits end_number is_part signed on_separator ended start_of counted nested separator_of lead_of is_white is_digit is_point is_e within value_count max_text_bytes max_values max_nesting max_integer step_limit output_bytes shape body value_text nesting decimal
prints_an_answer = refl

-- "The fourth: `refused 7`, newline, `steps 4`, newline."
pub prints_a_refusal : printed_for (ascii "{\">\":[3,2,\"x\"]}") (ascii "{\"a\":1}") ≡ ascii "refused 7\nsteps 4\n"
unfolding printed_for read answer text white then ◌>>=◌ give fail if peek eat value on_start name quoted chars char tails on_lead on_piece grow among int first_digit after_zero digits end_number is_part signed on_separator ended start_of counted nested separator_of lead_of is_white is_digit is_point is_e within value_count max_text_bytes max_values max_nesting max_integer step_limit output_bytes shape body value_text nesting decimal
prints_a_refusal = refl

-- Of a file longer than the largest text the first 16,385 bytes decide: it is refused as the whole would be.
first_bytes : (s : Bytes) → read (take (suc max_text_bytes) s) ≡ read s
first_bytes s = go (ltb (suc max_text_bytes) (length s)) refl
  where
    go : (t : Bool) → ltb (suc max_text_bytes) (length s) ≡ t → read (take (suc max_text_bytes) s) ≡ read s
    go true e =
        let h = ltb-true (suc max_text_bytes) (length s) e in
        over_long (take (suc max_text_bytes) s) (omega (arith, length-take-le (suc max_text_bytes) s (omega arith))) ∙ sym (over_long s (omega arith))
    go false e = rw (take_all (suc max_text_bytes) s (ltb-false (suc max_text_bytes) (length s) e))

pub first_bytes_decide : (rule record' : Bytes) → printed_for (take (suc max_text_bytes) rule) (take (suc max_text_bytes) record') ≡ printed_for rule record'
unfolding printed_for
first_bytes_decide rule record' = rw (first_bytes rule, first_bytes record')
