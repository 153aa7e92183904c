-- Exact: refusals of any bytes. What stands before the place of 2 begins a text of RFC 8259, and with the byte there none does;
-- a refusal with 3 to 5 is the first fault of a text of RFC 8259 that begins so, and none such is missed.
use Rattle.std.specs.Prelude.{◌≡◌, refl, Bool, true, false, List, [], ◌∷◌, ◌++◌, ◌⊎◌, ℕ, suc, ◌+◌, ◌*◌, ◌≤◌, ◌<◌, ltb, length, take, drop}
use Rattle.std.proofs.Common.{sym, subst, ap, ◌∙◌, append_assoc, inl, inr, arith, ltb-true, lt-ltb, take-append-drop, length-append, length-take, length-drop, take-add, drop_at, drop-drop}
use Rattle.model.specs.Bytes.{Bytes}
use Rattle.model.specs.Limits.{max_text_bytes}
use Rattle.model.specs.Refusal.{read_number}
use Rattle.model.specs.declared.refusal.ReadFault.{ReadFault}
use Rattle.model.specs.declared.refusal.ReadFault.TheVariants.{NotJson as not_json, RepeatedName, LoneSurrogate, BadNumber, TooLarge}
use Rattle.model.specs.Value.{Value}
use Rattle.model.proofs.Laws.Logic.{clash}
use Rattle.syntax.specs.Faults.{Fault, fault, faults, Begins, NotJson, OverLong, spell_unit, Pair, Lone, reach, Unpaired, Stated}
use Rattle.syntax.specs.Grammar.{JText, spell}
use Rattle.syntax.specs.Read.{Parsed, ok, bad, text, refuse, answer, read}
use Rattle.syntax.proofs.Laws.Agreement.{Alike, alike_join, alike_back}
use Rattle.syntax.proofs.Laws.Characters.{drop_hexes}
use Rattle.syntax.proofs.Laws.Complete.{never_not_json}
use Rattle.syntax.proofs.Laws.Faults.{TextMeets, text_meets}
use Rattle.syntax.proofs.Laws.Local.{Decides}
use Rattle.syntax.proofs.Laws.LocalValues.{same_fault}
use Rattle.syntax.proofs.Laws.Sound.{Begun, begun}
use Rattle.syntax.proofs.Laws.SoundScalars.{Spaced, IsLone}

-- ---- reading and its parser
read_bad : (s : Bytes) (k : ReadFault) (p : ℕ) → read s ≡ refuse k p → length s ≤ max_text_bytes → text (2 * length s + 1) s 0 ≡ bad k p
unfolding read answer
read_bad s k p e l = go (ltb max_text_bytes (length s)) refl e
  where
    fine : (r : Parsed Value) → answer r ≡ refuse k p → r ≡ bad k p
    fine (ok v u q) e = clash cc
    fine (bad n q) e = let i : n ≡ k = cc in let j : q ≡ p = cc in ap (λ z. bad z q) i ∙ ap (bad k) j

    go : (b : Bool) → ltb max_text_bytes (length s) ≡ b → elim b [ true ↦ refuse TooLarge max_text_bytes | false ↦ answer (text (2 * length s + 1) s 0) ] ≡ refuse k p → text (2 * length s + 1) s 0 ≡ bad k p
    go true i e = absurd (let x = ltb-true max_text_bytes (length s) i in omega arith)
    go false i e = fine (text (2 * length s + 1) s 0) e

bad_read : (s : Bytes) (k : ReadFault) (p : ℕ) → text (2 * length s + 1) s 0 ≡ bad k p → length s ≤ max_text_bytes → read s ≡ refuse k p
unfolding read answer
bad_read s k p e l = go (ltb max_text_bytes (length s)) refl
  where
    go : (b : Bool) → ltb max_text_bytes (length s) ≡ b → elim b [ true ↦ refuse TooLarge max_text_bytes | false ↦ answer (text (2 * length s + 1) s 0) ] ≡ refuse k p
    go true i = absurd (let x = ltb-true max_text_bytes (length s) i in omega arith)
    go false i = ap answer e

pub over_long : (s : Bytes) → max_text_bytes < length s → read s ≡ refuse TooLarge max_text_bytes
unfolding read
over_long s l = rw (lt-ltb max_text_bytes (length s) l, read)

-- A text that begins with the first n bytes of s.
pub begins_alike : (s u rest : Bytes) (n : ℕ) → u ≡ take n s ++ rest → Alike (drop n s) rest s u
begins_alike s u rest n e = subst (λ x. Alike (drop n s) rest s x) (sym e) (subst (λ x. Alike (drop n s) rest x (take n s ++ rest)) (take-append-drop n s) (alike_join (take n s) (drop n s) rest))

-- ---- refusal 2
-- With the byte at the place no text of RFC 8259 begins.
no_longer : (s : Bytes) (p : ℕ) → read s ≡ refuse not_json p → length s ≤ max_text_bytes → p < length s → Begins (take (suc p) s) → ⊥
no_longer s p e m l b =
    let d = b.0 in
    let i = same_fault s (spell d) (drop (suc p) s) b.1 (begins_alike s (spell d) b.1 (suc p) b.2) not_json p (2 * length s + 1) (suc (2 * length (spell d))) (omega arith) (omega arith) (read_bad s not_json p e m) (omega (arith, length-drop (suc p) s)) in
    let g : TextMeets d (bad not_json p) = subst (TextMeets d) i (text_meets d (2 * length (spell d)) (omega arith)) in
    omega (arith, g.0)

pub fault_2 : (s : Bytes) (p : ℕ) → read s ≡ refuse not_json p → NotJson s p
fault_2 s p e = go (begun s not_json p e)
  where
    go : OverLong s not_json p ⊎ (Begun s not_json p × (length s ≤ max_text_bytes)) → NotJson s p
    go (inl x) = absurd (let i = ap read_number x.0 in omega (arith, i))
    go (inr x) = let g = x.0 in record { inside = g.inside; before = (g.tree, g.rest, g.begins); ends = no_longer s p e x.1; no_text = λ d j. never_not_json d p (ap read j ∙ e) }

-- ---- refusals 3 to 5: what stands through the place begins a text of RFC 8259
pub shorter : (s u rest : Bytes) (n m : ℕ) → u ≡ take (n + m) s ++ rest → u ≡ take n s ++ (take m (drop n s) ++ rest)
shorter s u rest n m e = e ∙ ap (λ z. z ++ rest) (take-add n m s) ∙ append_assoc (take n s) (take m (drop n s)) rest

pub through : (s : Bytes) (k : ReadFault) (p : ℕ) → read s ≡ refuse k p → 3 ≤ read_number k → OverLong s k p ⊎ ((p < length s) × Begins (take (suc p) s))
through s k p e l = go (begun s k p e)
  where
    at_place : (k : ReadFault) → 3 ≤ read_number k → Begun s k p → (p < length s) × Begins (take (suc p) s)
    at_place not_json l g = absurd (omega arith)
    at_place RepeatedName l g = (g.inside, (g.tree, g.rest, g.begins))
    at_place LoneSurrogate l g =
        let h = g.inside in
        let six : p + 6 ≡ suc p + 5 = omega arith in
        (omega arith, (g.tree, _, shorter s (spell g.tree) g.rest (suc p) 5 (g.begins ∙ ap (λ n. take n s ++ g.rest) six)))
    at_place BadNumber l g = (g.inside, (g.tree, g.rest, g.begins))
    at_place TooLarge l g = (g.inside, (g.tree, g.rest, g.begins))

    go : OverLong s k p ⊎ (Begun s k p × (length s ≤ max_text_bytes)) → OverLong s k p ⊎ ((p < length s) × Begins (take (suc p) s))
    go (inl x) = inl x
    go (inr x) = inr (at_place k l x.0)

-- ---- refusals 3 to 5: the first fault of a text that begins so
-- What follows the first escape of a pair begins with a backslash, so no pair stands before a space.
no_pair : (u m rest z : Bytes) (p : ℕ) → length m ≡ p + 6 → u ≡ m ++ rest → rest ≡ 0x20 ∷ z → Pair (drop p u) → ⊥
no_pair u m rest z p l e i pair =
    let j : 0x20 ∷ z ≡ spell_unit pair.low pair.rest = sym (drop-drop 6 p u ∙ ap (drop (p + 6)) e ∙ drop_at m rest (p + 6) l ∙ i) ∙ ap (drop 6) pair.begins ∙ drop_hexes pair.high _ in
    let h : ◌≡◌ {A = ℕ} 0x20 0x5C = cc in
    omega (arith, h)

pub taken : (s : Bytes) (n : ℕ) → n ≤ length s → length (take n s) ≡ n
taken s n l = length-take n s ∙ omega arith

-- What s and a text that begins so share decides the fault.
decided : (s u rest : Bytes) (k : ReadFault) (p : ℕ) → 3 ≤ read_number k → reach k p ≤ length s → u ≡ take (reach k p) s ++ rest → Spaced k rest → Decides s u (drop (reach k p) s) rest k p
decided s u rest not_json p l h e g = absurd (omega arith)
decided s u rest RepeatedName p l h e g = omega (arith, length-drop (suc p) s)
decided s u rest LoneSurrogate p l h e g = (omega (arith, length-drop (p + 6) s), no_pair u (take (p + 6) s) rest g.0 p (taken s (p + 6) h) e g.1)
decided s u rest BadNumber p l h e g = omega (arith, length-drop (suc p) s)
decided s u rest TooLarge p l h e g = omega (arith, length-drop (suc p) s)

no_pairs : (k : ReadFault) (t : Bytes) → IsLone k t → Unpaired k t
no_pairs not_json t h = tt
no_pairs RepeatedName t h = tt
no_pairs LoneSurrogate t h = h.no_pair
no_pairs BadNumber t h = tt
no_pairs TooLarge t h = tt

-- Of a lone surrogate: a complete escape of one stands there, and has no partner.
pub lone_surrogate_lem : (s : Bytes) (p : ℕ) → read s ≡ refuse LoneSurrogate p → Lone (drop p s)
lone_surrogate_lem s p e = go (begun s LoneSurrogate p e)
  where
    go : OverLong s LoneSurrogate p ⊎ (Begun s LoneSurrogate p × (length s ≤ max_text_bytes)) → Lone (drop p s)
    go (inl x) = absurd (let i = ap read_number x.0 in omega (arith, i))
    go (inr x) = x.0.lone

pub as_stated : (s : Bytes) (k : ReadFault) (p : ℕ) → read s ≡ refuse k p → 3 ≤ read_number k → OverLong s k p ⊎ Stated s k p
as_stated s k p e l = go (begun s k p e)
  where
    stated : Begun s k p → length s ≤ max_text_bytes → Stated s k p
    stated g m =
        let d = g.tree in
        let i = same_fault s (spell d) (drop (reach k p) s) g.rest (begins_alike s (spell d) g.rest (reach k p) g.begins) k p (2 * length s + 1) (suc (2 * length (spell d))) (omega arith) (omega arith) (read_bad s k p e m) (decided s (spell d) g.rest k p l g.inside g.begins g.spaced) in
        let t : TextMeets d (bad k p) = subst (TextMeets d) i (text_meets d (2 * length (spell d)) (omega arith)) in
        record { inside = g.inside; tree = d; rest = g.rest; begins = g.begins; others = t.1.0; first = t.1.1; unpaired = no_pairs k (drop p s) g.lone }

    go : OverLong s k p ⊎ (Begun s k p × (length s ≤ max_text_bytes)) → OverLong s k p ⊎ Stated s k p
    go (inl x) = inl x
    go (inr x) = inr (stated x.0 x.1)

-- ---- and none is missed
-- A text with a first fault is refused with it.
pub first_bad : (d : JText) (k : ReadFault) (p : ℕ) (others : List Fault) → faults d ≡ fault k p ∷ others → (text (suc (2 * length (spell d))) (spell d) 0 ≡ bad k p) × (3 ≤ read_number k)
first_bad d k p others e = go (text (suc (2 * length (spell d))) (spell d) 0) (text_meets d (2 * length (spell d)) (omega arith))
  where
    go : (r : Parsed Value) → TextMeets d r → (r ≡ bad k p) × (3 ≤ read_number k)
    go (ok v u q) t = let i : [] ≡ fault k p ∷ others = sym t.0 ∙ e in clash cc
    go (bad m q) t =
        let i : fault m q ∷ t.1.0 ≡ fault k p ∷ others = sym t.1.1 ∙ e in
        let j : m ≡ k = cc in
        let h : q ≡ p = cc in
        (ap (λ z. bad z q) j ∙ ap (bad k) h, subst (λ z. 3 ≤ read_number z) j t.0)

-- What the text shares with s decides its first fault.
decides : (s u rest : Bytes) (k : ReadFault) (p : ℕ) → 3 ≤ read_number k → length u ≡ reach k p + length rest → Unpaired k (drop p s) → Decides u s rest (drop (reach k p) s) k p
decides s u rest not_json p l e g = absurd (omega arith)
decides s u rest RepeatedName p l e g = omega (arith, e)
decides s u rest LoneSurrogate p l e g = (sym e, g)
decides s u rest BadNumber p l e g = omega (arith, e)
decides s u rest TooLarge p l e g = omega (arith, e)

pub none_missed : (s : Bytes) (k : ReadFault) (p : ℕ) → Stated s k p → length s ≤ max_text_bytes → read s ≡ refuse k p
none_missed s k p g l =
    let u = spell g.tree in
    let x = first_bad g.tree k p g.others g.first in
    let long : length u ≡ reach k p + length g.rest = ap length g.begins ∙ length-append (take (reach k p) s) g.rest ∙ ap (λ n. n + length g.rest) (taken s (reach k p) g.inside) in
    bad_read s k p
    (same_fault u s g.rest (drop (reach k p) s) (alike_back (begins_alike s u g.rest (reach k p) g.begins)) k p (suc (2 * length u)) (2 * length s + 1) (omega arith) (omega arith) x.0 (decides s u g.rest k p x.1 long g.unpaired))
    l
