-- Strings: a part of one after another, in quotes.
use mathlib.Core.Path.{◌≡◌, sym, ap, ◌∙◌}
use mathlib.Core.Bool.{true}
use mathlib.Core.List.{[], ◌∷◌, ◌++◌, append-nil}
use Prim.Native.Nat.{ℕ, ◌+◌, ◌*◌, ◌-◌, ◌≤◌, ◌<◌}
use native.Mathlib.Nat.{add-zero}
use native.Mathlib.Omega.{arith}
use lib.IntN.{ℤ}
use lib.ListN.{length, get_or, set, take, drop, length-drop, length-set}
use Rattle.std.specs.List.{prefix_len}
use lib.Seq.{sets, get_or-drop, drop-cons, take-add, take_all, length-take-le}
use Rattle.model.specs.Bytes.{Bytes}
use Rattle.model.specs.InstantText.{instant_text}
use Rattle.model.proofs.Laws.InstantText.{text_24}
use Rattle.model.specs.Writing.{escaped, escaped_all, string_text}
use Rattle.print.specs.declared.string.Move.{Move}
use Rattle.print.specs.Contract.{Put}
use Rattle.print.specs.Inner.{plain, Moved}
use Rattle.print.specs.Laws.{put_none, put_size, put_byte, put_bytes_lem, put_then, put_end, put_as, instant_string, escaped_all_append, escaped_all_length, escaped_all_plain}
use Rattle.print.proofs.Runs.{rest_all, run_all, run_inside, run_some}

abbrev pub move : ℕ → ℕ → Move
move from at = record { from = from; at = at }

-- ---- one part
module _ {s : Bytes} {from at : ℕ} {d d' : Bytes} where
  pub moved_escape : {r : ℕ} → from < length s → Put (escaped (get_or s from 0)) at d r d' → Moved s (move from at) d (move (from + 1) r) d'
  moved_escape {r} h p =
      let e : from + 1 - from ≡ 1 = omega arith in
      record { on = omega arith; inside = omega arith; put = rw (e, drop-cons s from 0 h) (put_as p (sym (append-nil (escaped (get_or s from 0))))) }

  pub moved_run : {n r : ℕ} → from < length s → plain (get_or s from 0) ≡ true → n ≡ prefix_len plain (take (length s - from) (drop from s))
      → Put (take n (take (length s - from) (drop from s))) at d r d' → Moved s (move from at) d (move (from + n) r) d'
  moved_run {n} h p e w =
      let l = length-drop from s in
      let f : n ≡ prefix_len plain (drop from s) = e ∙ ap (prefix_len plain) (rest_all s from) in
      let some = run_some plain (drop from s) (omega arith) (ap plain (get_or-drop from s 0 0 ∙ ap (λ (k : ℕ). get_or s k 0) (add-zero from)) ∙ p) in
      let k : from + n - from ≡ n = omega arith in
      record {
        on = omega arith;
        inside = omega (arith, run_inside plain (drop from s));
        put = rw k (put_as w (ap (take n) (rest_all s from) ∙ sym (escaped_all_plain (take n (drop from s)) (rw f (run_all plain (drop from s))))));
      }

-- ---- the loop: a string's front is written
pub record Quoting (s : Bytes) (at : ℕ) (d : Bytes) (here : Move) (d' : Bytes) : Type 0 where
  pub inside : here.from ≤ length s
  pub put : Put (escaped_all (take here.from s)) at d here.at d'

pub quoting_none : (s : Bytes) (at : ℕ) (d : Bytes) → Quoting s at d (move 0 at) d
quoting_none s at d = record { inside = omega arith; put = put_none at d }

pub quoting_more : {s : Bytes} {at : ℕ} {d d₁ d₂ : Bytes} {here r : Move} → Quoting s at d here d₁ → Moved s here d₁ r d₂ → Quoting s at d r d₂
quoting_more {s} {here = here} {r = r} w m =
    let f = here.from in
    let n = r.from - f in
    let e : f + n ≡ r.from = omega arith in
    record {
      inside = m.inside;
      put = put_as (put_then w.put m.put) (sym (escaped_all_append (take f s) (take n (drop f s))) ∙ ap escaped_all (sym (take-add f n s) ∙ ap (λ (k : ℕ). take k s) e));
    }

-- Each byte is written as at most six.
pub quoting_near : {s : Bytes} {at : ℕ} {d d' : Bytes} {here : Move} → Quoting s at d here d' → here.at ≤ at + 6 * length s
quoting_near {s} {at} {here = here} w =
    omega (arith, w.put.end, escaped_all_length (take here.from s), length-take-le here.from s w.inside)

-- ---- the quotes
pub put_quotes : {x : Bytes} {at m : ℕ} {d d₁ d₂ d₃ : Bytes} → d₁ ≡ set d at 0x22 → Put x (at + 1) d₁ m d₂ → d₃ ≡ set d₂ m 0x22
    → Put (0x22 ∷ (x ++ (0x22 ∷ []))) at d (m + 1) d₃
put_quotes e p f = put_then (put_byte e) (put_then p (put_byte f))

pub quoted : {s : Bytes} {at : ℕ} {d d₁ d₂ d₃ : Bytes} {here : Move} → d₁ ≡ set d at 0x22 → Quoting s (at + 1) d₁ here d₂ → length s ≤ here.from → d₃ ≡ set d₂ here.at 0x22
    → Put (string_text s) at d (here.at + 1) d₃
quoted {s} {here = here} e w h f = put_quotes e (put_as w.put (ap escaped_all (take_all here.from s h))) f

pub quoted_size : {s : Bytes} (d : Bytes) (at a b m : ℕ) {d₁ d₂ d₃ : Bytes} {here : Move} → d₁ ≡ set d at a → Quoting s m d₁ here d₂ → d₃ ≡ set d₂ here.at b → length d₃ ≡ length d
quoted_size d at a b m {d₂ = d₂} {here = here} e w f =
    ap length f ∙ (length-set d₂ here.at b ∙ (put_size w.put ∙ (ap length e ∙ length-set d at a)))

-- An instant's text is 24 bytes, none of them escaped.
pub put_instant_bytes : (t : ℤ) {x : Bytes} {at : ℕ} {d d₁ d₂ d₃ : Bytes} → x ≡ instant_text t → d₁ ≡ set d at 0x22 → d₂ ≡ sets d₁ (at + 1) x → d₃ ≡ set d₂ (at + 25) 0x22
    → Put (string_text (instant_text t)) at d (at + 26) d₃
put_instant_bytes t {x} {at} {d₁ = d₁} {d₂ = d₂} e p q r =
    let inner : Put x (at + 1) d₁ (at + 25) d₂ = put_end (put_bytes_lem q) (omega (arith, ap length e, text_24 t)) in
    put_end (put_as (put_quotes p inner r) (ap (λ (y : Bytes). 0x22 ∷ (y ++ (0x22 ∷ []))) e ∙ sym (instant_string t))) (omega arith)
