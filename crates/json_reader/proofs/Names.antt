-- The names of an object's members in the table and the strings area; and a law for each return of `member_name`. Over plain values.
use mathlib.Core.Path.{◌≡◌, refl, sym, ap, ◌∙◌, subst⁻¹}
use mathlib.Core.Bool.{Bool, true, false}
use mathlib.Core.List.{List, [], ◌∷◌, ◌++◌}
use Prim.Native.Nat.{ℕ, zero, suc, ◌+◌, ◌*◌, ◌-◌, ◌/◌, ◌≤◌, ◌<◌}
use native.Mathlib.Nat.{zero-add, suc-add}
use native.Mathlib.Omega.{arith}
use lib.Dec.{eqb}
use lib.ListN.{length, take, drop}
use lib.Seq.{take-take, take-nil}
use Rattle.area.specs.Words.{word_at}
use Rattle.area.specs.Laws.{word_at_take, part_sets}
use Rattle.model.specs.Bytes.{Bytes, same_bytes}
use Rattle.model.specs.Lists.{any}
use Rattle.model.specs.declared.refusal.ReadFault.TheVariants.{NotJson, RepeatedName}
use Rattle.name_index.specs.Contract as index
use Rattle.name_index.specs.Contract.{Entry, Indexed, Between, EnterRoom, Entered, names_of, part}
use Rattle.scan.specs.declared.Fault.{Fault}
use Rattle.scan.specs.Contract.{fault_of, Skipped, Stands}
use Rattle.scan.specs.Laws.{eat_next, white_by, byte_by, Gone}
use Rattle.chars.specs.Contract.{CharsPromise}
use Rattle.chars.specs.declared.Decoded.{Decoded}
use Rattle.std.specs.Prelude.{Ok, Err}
use Rattle.syntax.specs.Layout.{row_bytes, rows_part, entry_bytes}
use Rattle.syntax.specs.Read.{Parsed, bad, Parser, then, ◌>>=◌, give, fail, if, peek, eat, white, chars, clear, quoted, among, name}
use Rattle.json_reader.specs.declared.name.Named.{Named}
use Rattle.json_reader.specs.Inner.{Holds, Has, named, NameRoom, NameMeets, NameRead}
use Rattle.json_reader.proofs.Form.{gone_then}
use Rattle.json_reader.proofs.Values.{Text, chars_got, chars_gone}

-- ---- parts that stay
drop_take : {X : Type 0} (x n : ℕ) (l : List X) → drop x (take (x + n) l) ≡ take n (drop x l)
drop_take zero n l = ap (λ (k : ℕ). take k l) (zero-add n)
drop_take (suc x) n [] = rw (suc-add, take-nil)
drop_take (suc x) n (a ∷ l) = rw suc-add (drop_take x n l)

pub part_kept : (A A' : Bytes) (x n to : ℕ) → x + n ≤ to → take to A' ≡ take to A → part A' x n ≡ part A x n
part_kept A A' x n to h e =
    sym (drop_take x n A')
    ∙ ap (drop x) (sym (take-take (x + n) to A' h) ∙ ap (take (x + n)) e ∙ take-take (x + n) to A h)
    ∙ drop_take x n A

word_kept : (T T' : Bytes) (at m : ℕ) → at + 4 ≤ m → take m T' ≡ take m T → word_at T' at ≡ word_at T at
word_kept T T' at m h e = sym (word_at_take m T' at h) ∙ ap (λ (d : Bytes). word_at d at) e ∙ word_at_take m T at h

-- ---- members that are read
pub holds_kept : (es : List Entry) (first bound : ℕ) (T T' A A' : Bytes) (to to' : ℕ) → Between first bound es
    → take (bound * 16) T' ≡ take (bound * 16) T → take to A' ≡ take to A → to ≤ to' → Holds T A to es → Holds T' A' to' es
unfolding Holds Between
holds_kept [] first bound T T' A A' to to' b t a l h = h
holds_kept (e ∷ es) first bound T T' A A' to to' b t a l h =
    let less = b.1 in
    let p : word_at T' (e.row * 16 + 4) ≡ word_at T (e.row * 16 + 4) = word_kept T T' (e.row * 16 + 4) (bound * 16) (omega arith) t in
    let q : word_at T' (e.row * 16) ≡ word_at T (e.row * 16) = word_kept T T' (e.row * 16) (bound * 16) (omega arith) t in
    rw (p, q) (
      h.0 ∙ sym (part_kept A A' (word_at T (e.row * 16 + 4)) (word_at T (e.row * 16) / 256) to h.1 a),
      omega (arith, h.1),
      holds_kept es first bound T T' A A' to to' b.2 t a l h.2,
    )

holds_named : (es : List Entry) (T A : Bytes) (to : ℕ) → to ≤ length A → Holds T A to es → index.Named T A es
unfolding Holds index.Named
holds_named [] T A to l h = h
holds_named (e ∷ es) T A to l h = (h.0, omega (arith, h.1), holds_named es T A to l h.2)

pub holds_snoc : (es : List Entry) (e : Entry) (T A : Bytes) (to : ℕ) → Holds T A to es
    → e.name ≡ part A (word_at T (e.row * 16 + 4)) (word_at T (e.row * 16) / 256) → word_at T (e.row * 16 + 4) + word_at T (e.row * 16) / 256 ≤ to
    → Holds T A to (es ++ (e ∷ []))
unfolding Holds
holds_snoc [] e T A to h p q = (p, q, h)
holds_snoc (d ∷ es) e T A to h p q = (h.0, h.1, holds_snoc es e T A to h.2 p q)

pub between_more : (es : List Entry) (first row row' : ℕ) → Between first row es → row ≤ row' → Between first row' es
unfolding Between
between_more [] first row row' h l = h
between_more (d ∷ es) first row row' h l = (h.0, omega (arith, h.1), between_more es first row row' h.2 l)

pub between_snoc : (es : List Entry) (e : Entry) (first row : ℕ) → Between first row es → first ≤ e.row → e.row < row → Between first row (es ++ (e ∷ []))
unfolding Between
between_snoc [] e first row h p q = (p, q, h)
between_snoc (d ∷ es) e first row h p q = (h.0, h.1, between_snoc es e first row h.2 p q)

pub names_snoc : (es : List Entry) (e : Entry) → names_of (es ++ (e ∷ [])) ≡ names_of es ++ (e.name ∷ [])
unfolding names_of
names_snoc [] e = refl
names_snoc (d ∷ es) e = ap (λ (l : List Bytes). d.name ∷ l) (names_snoc es e)

-- ---- the definition of a name, by what stands there
-- After the characters n, which end at a closing quote.
abbrev colon : Bytes → Parser Bytes
colon n = peek >>= λ c. if (eqb c 0x3A) (eat (give n)) (fail NotJson)

abbrev fresh : List Bytes → Bytes → Parser Bytes
fresh seen n = if (among n seen) (fail RepeatedName) (eat (white (colon n)))

module _ {s : Bytes} {at : ℕ} {b : Bool} (st : Stands s at 34 b) (f : ℕ) (seen : List Bytes) where
  name_none : b ≡ false → name f seen (drop at s) at ≡ bad NotJson at
  unfolding name if fail
  name_none e = byte_by (quoted f >>= fresh seen) st ∙ ap (λ (c : Bool). if c (quoted f >>= fresh seen) (fail NotJson) (drop at s) at) e

  name_chars : b ≡ true → name f seen (drop at s) at ≡ then (chars f clear (drop (at + 1) s) (at + 1)) (fresh seen)
  unfolding name if quoted ◌>>=◌
  name_chars e =
      byte_by (quoted f >>= fresh seen) st ∙ ap (λ (c : Bool). if c (quoted f >>= fresh seen) (fail NotJson) (drop at s) at) e
      ∙ ap (λ (p : Parsed Bytes). then p (fresh seen)) (eat_next (chars f clear) s at (st.room e))

-- ---- a law for each return of `member_name`
module _ {s : Bytes} {at first row used : ℕ} {T A : Bytes} where
  name_bad : {x : Fault} {T' A' : Bytes} → ((f : ℕ) → length s ≤ at + f → (es : List Entry) → Has T A first row used es → Gone (name f (names_of es) (drop at s) at) x)
      → NameRead s at first row used T A (Err x) T' A'
  name_bad {x} {T'} {A'} g = record {
    safe = Prim.tt;
    run = λ f l es h. subst⁻¹ (λ (p : Parsed Bytes). NameMeets s first row used T A es p (Err x) T' A') (g f l es h).is refl;
  }

  module _ {b : Bool} (st : Stands s at 34 b) where
    pub law_no_name : {T' A' : Bytes} → b ≡ false → NameRead s at first row used T A (Err (fault_of NotJson at)) T' A'
    law_no_name e = name_bad (λ f l es h. record { is = name_none st f (names_of es) e })

    module _ (e : b ≡ true) {A₁ : Bytes} where
      pub law_name_chars : {x : Fault} {T' A' : Bytes} → CharsPromise s (at + 1) used A (Err x) A₁ → NameRead s at first row used T A (Err x) T' A'
      unfolding then
      law_name_chars c =
          name_bad
          (λ f l es h. gone_then (λ _ _ g. name_chars st f (names_of es) e ∙ ap (λ (p : Parsed Bytes). then p (fresh (names_of es))) g) (chars_gone c f (omega arith)))

      module _ {d : Decoded} (c : CharsPromise s (at + 1) used A (Ok d) A₁) (room : NameRoom s T A at first row used) where
        abbrev end : ℕ
        end = d.at

        abbrev to : ℕ
        to = d.used

        abbrev name_read : ℕ → Named
        name_read on = record { at = on; name = record { start = used; size = to - used } }

        text : (f : ℕ) → length s ≤ at + f → Text (chars f clear (drop (at + 1) s) (at + 1)) s (at + 1) used A end to A₁
        text f l = chars_got c f (omega arith)

        some_text : Text (chars (suc (length s)) clear (drop (at + 1) s) (at + 1)) s (at + 1) used A end to A₁
        some_text = text (suc (length s)) (omega arith)

        pub law_enter_room : EnterRoom T A₁ first row used (to - used)
        unfolding row_bytes entry_bytes
        law_enter_room =
            let o = some_text in
            let r = room.room in
            record {
              member = room.positive;
              order = room.order;
              rows = r.rows;
              table = r.table;
              strings = omega (arith, o.text, o.on, o.inside, c.size);
              short = omega (arith, o.text, o.on, o.inside);
            }

        module _ {t : Bool} {T₁ : Bytes} (n : Entered T A₁ first row used (to - used) t T₁) where
          is_part_lem : (f : ℕ) (l : length s ≤ at + f) → (text f l).bs ≡ part A₁ used (to - used)
          is_part_lem f l =
              let o = text f l in
              let r = room.room in
              let k : to - used ≡ length o.bs = omega (arith, o.text) in
              sym (ap (λ (m : ℕ). take m (drop used A₁)) k ∙ ap (λ (y : Bytes). take (length o.bs) (drop used y)) o.area
              ∙ part_sets o.bs A used (omega (arith, o.on, o.inside)))

          all_named : (es : List Entry) → Has T A first row used es → index.Named T A₁ es
          all_named es h =
              let r = room.room in
              holds_named es T A₁ used (omega (arith, c.size)) (holds_kept es first row T T A A₁ used used h.between refl c.kept (omega arith) h.holds)

          -- What the index says of the name.
          found : (es : List Entry) → Has T A first row used es
              → (t ≡ any (same_bytes (part A₁ used (to - used))) (names_of es)) × (t ≡ false → Indexed T₁ first (es ++ (named A₁ row used (to - used) ∷ [])))
          found es h = n.run es h.indexed (all_named es h) h.between h.none h.some

          seen : (f : ℕ) (l : length s ≤ at + f) (es : List Entry) → Has T A first row used es → t ≡ among (text f l).bs (names_of es)
          unfolding among
          seen f l es h = (found es h).0 ∙ ap (λ (y : Bytes). any (same_bytes y) (names_of es)) (sym (is_part_lem f l))

          after : (f : ℕ) (l : length s ≤ at + f) (es : List Entry) → Has T A first row used es
              → name f (names_of es) (drop at s) at ≡ if t (fail RepeatedName) (eat (white (colon (text f l).bs))) (drop end s) end
          unfolding then
          after f l es h =
              name_chars st f (names_of es) e ∙ ap (λ (p : Parsed Bytes). then p (fresh (names_of es))) (text f l).is
              ∙ ap (λ (y : Bool). if y (fail RepeatedName) (eat (white (colon (text f l).bs))) (drop end s) end) (sym (seen f l es h))

          pub law_repeated : {T' A' : Bytes} → t ≡ true → NameRead s at first row used T A (Err (fault_of RepeatedName end)) T' A'
          unfolding if fail
          law_repeated y =
              name_bad
              (λ f l es h. record { is = after f l es h ∙ ap (λ (x : Bool). if x (fail RepeatedName) (eat (white (colon (text f l).bs))) (drop end s) end) y })

          module _ (y : t ≡ false) {p : ℕ} (sk : Skipped s (end + 1) p) where
            at_colon : (f : ℕ) (l : length s ≤ at + f) (es : List Entry) → Has T A first row used es → name f (names_of es) (drop at s) at ≡ colon (text f l).bs (drop p s) p
            unfolding if
            at_colon f l es h =
                after f l es h ∙ ap (λ (x : Bool). if x (fail RepeatedName) (eat (white (colon (text f l).bs))) (drop end s) end) y
                ∙ eat_next (white (colon (text f l).bs)) s end (text f l).inside ∙ white_by (colon (text f l).bs) sk

            module _ {b₂ : Bool} (st₂ : Stands s p 58 b₂) where
              pub law_no_colon : {T' A' : Bytes} → b₂ ≡ false → NameRead s at first row used T A (Err (fault_of NotJson p)) T' A'
              unfolding if fail
              law_no_colon x =
                  name_bad
                  (λ f l es h. record {
                    is = at_colon f l es h ∙ byte_by (eat (give (text f l).bs)) st₂ ∙ ap (λ (c : Bool). if c (eat (give (text f l).bs)) (fail NotJson) (drop p s) p) x;
                  })

              pub law_name : {on : ℕ} → b₂ ≡ true → Skipped s (p + 1) on → NameRead s at first row used T A (Ok (name_read on)) T₁ A₁
              unfolding if give rows_part row_bytes
              law_name {on} x sk₂ =
                  let o = some_text in
                  let r = room.room in
                  record {
                    safe = record {
                      more = omega (arith, o.on, sk.on, sk₂.on);
                      inside = sk₂.inside (omega (arith, st₂.room x));
                      start = refl;
                      text = omega (arith, o.text, o.on, sk.on, sk₂.on);
                      rows = n.rows;
                      kept = λ es h e p q. n.others es h.indexed (all_named es h) h.between h.none h.some e p q.1 (λ g. omega (arith, q.0));
                    };
                    run = λ f l es h. subst⁻¹ (λ (g : Parsed Bytes). NameMeets s first row used T A es g (Ok (name_read on)) T₁ A₁)
                        (at_colon f l es h ∙ byte_by (eat (give (text f l).bs)) st₂ ∙ ap (λ (c : Bool). if c (eat (give (text f l).bs)) (fail NotJson) (drop p s) p) x
                        ∙ eat_next (give (text f l).bs) s p (st₂.room x))
                        (record {
                          skipped = sk₂;
                          left = refl;
                          start = refl;
                          size = omega (arith, (text f l).text);
                          area = (text f l).area;
                          indexed = (found es h).1 y;
                        });
                  }
