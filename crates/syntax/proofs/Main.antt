-- Main: the theorems of reading, and of reading what is written, restated with nothing else; the proofs are in Laws. `read` is 01's Reading as a parser; beside it stand the rules of RFC 8259:
-- a derivation d spells the bytes `spell d`, has the meaning `meaning d` where it has one in our domain, and the faults `faults d` of refusals 3 to 5.
-- Sentences of 01 at their edges are in Laws.Rows.
use Rattle.std.specs.Prelude.{◌≡◌, false, ◌⊎◌, ◌↔◌, ℕ, suc, ◌≤◌, ◌<◌, length, take, drop}
use mathlib.Core.List.{List, ◌∷◌, ◌++◌, Memᴰ}
use Rattle.std.specs.Prelude.{Some}
use Rattle.model.specs.Bytes.{Bytes}
use Rattle.model.specs.Judgement.{Judged, written_within}
use Rattle.model.specs.Limits.{max_text_bytes, max_values, max_nesting}
use Rattle.model.specs.Refusal.{read_number}
use Rattle.model.specs.declared.refusal.ReadFault.{ReadFault}
use Rattle.model.specs.declared.refusal.ReadFault.TheVariants.{NotJson as not_json, LoneSurrogate, TooLarge}
use Rattle.model.specs.Size.{value_count, nesting, is_too_large}
use Rattle.model.specs.Textual.{textual}
use Rattle.model.specs.Value.{Value}
use Rattle.model.specs.Writing.{value_text}
use Rattle.syntax.specs.Faults.{Fault, fault, faults, place_of, FirstFault, Begins, NotJson, OverLong, Lone, Stated, Has}
use Rattle.syntax.specs.Abnf.{RText, spell_rtext}
use Rattle.syntax.specs.Grammar.{JText, spell, meaning}
use Rattle.syntax.specs.Layout.{strings_of}
use Rattle.syntax.specs.Locate.{Positions, replace_part, StandsAt}
use Rattle.syntax.specs.Read.{done, refuse, read}
use Rattle.syntax.specs.WellFormed.{WellFormedValue, WellFormedAnswer}
use Rattle.syntax.proofs.Laws.Abnf as AbnfLaws
use Rattle.syntax.proofs.Laws.Complete as Complete
use Rattle.syntax.proofs.Laws.Exact as Exact
use Rattle.syntax.proofs.Laws.Faults as FaultsLaws
use Rattle.syntax.proofs.Laws.Order as Order
use Rattle.syntax.proofs.Laws.RoundTrip as RoundTrip
use Rattle.syntax.proofs.Laws.Smallest as Smallest
use Rattle.syntax.proofs.Laws.Sound as Sound
use Rattle.syntax.proofs.Laws.StringsFit as StringsFit
use Rattle.syntax.proofs.Laws.Substitution as SubstitutionLaws
use Rattle.syntax.proofs.Laws.WellFormed as WellFormedLaws

-- ---- the grammar
-- The rules of RFC 8259 word for word (Abnf) and those that the theorems below speak of derive the same texts.
pub same_texts : (s : Bytes) → ((r : RText) × (spell_rtext r ≡ s)) ↔ ((d : JText) × (spell d ≡ s))
same_texts = AbnfLaws.same_texts

-- ---- what reads
-- "JSON is RFC 8259, narrowed by RFC 7493": what reads is a text of RFC 8259 with that meaning, within the limits of 5.
pub reads_so :
    (s : Bytes) (v : Value)
    → read s ≡ done v
    → (d : JText) × (spell d ≡ s) × (meaning d ≡ Some v) × (value_count v ≤ max_values) × (nesting v ≤ max_nesting) × (length s ≤ max_text_bytes)
reads_so s v e = let w = Sound.sound s v e in (w.0.tree, w.0.spells, w.0.means, w.0.few, w.0.flat, w.1)

-- And every such text reads as its meaning.
pub so_reads :
    (d : JText) (v : Value)
    → meaning d ≡ Some v
    → value_count v ≤ max_values
    → nesting v ≤ max_nesting
    → length (spell d) ≤ max_text_bytes
    → read (spell d) ≡ done v
so_reads = Complete.complete

-- However the rules derive a text that reads, it means what it reads as.
pub unambiguous : (d : JText) (v : Value) → read (spell d) ≡ done v → meaning d ≡ Some v
unambiguous = Complete.unambiguous

-- What reads is well formed: strings and names in UTF-8, names distinct, integers within the limits, no instant.
pub well_formed : (s : Bytes) (v : Value) → read s ≡ done v → WellFormedValue v
well_formed = WellFormedLaws.read_well_formed

-- Its strings are no longer than the text. A strings area as long as the largest text has room for all strings.
pub strings_fit : (s : Bytes) (v : Value) → read s ≡ done v → length (strings_of v) ≤ length s
strings_fit = StringsFit.strings_fit

-- "the bytes of that one value give way": the bytes `old` at some positions to a text `new` that reads. If the whole reads, it is the old value with the new one there.
pub replaced :
    (text before old after new : Bytes) (q : Positions) (v u w : Value)
    → StandsAt text q before old after
    → read text ≡ done v
    → read new ≡ done u
    → read (before ++ (new ++ after)) ≡ done w
    → w ≡ replace_part q u v
replaced text before old after new q v u w stands = SubstitutionLaws.replaced stands new v u w

-- ---- refusals of a text of RFC 8259
-- 2, "not an RFC 8259 text in UTF-8": no text of RFC 8259 is refused with it.
pub never_not_json : (d : JText) (p : ℕ) → read (spell d) ≡ refuse not_json p → ⊥
never_not_json = Complete.never_not_json

-- It is refused with its first fault, if it has one, and else reads.
pub first_fault : (d : JText) → length (spell d) ≤ max_text_bytes → FirstFault d (read (spell d))
first_fault = FaultsLaws.first_fault

-- The first fault has the smallest place.
pub no_smaller : (d : JText) (k : ReadFault) (p : ℕ) (others : List Fault) → faults d ≡ fault k p ∷ others → (x : Fault) → Memᴰ x (faults d) → p ≤ place_of x
no_smaller = Order.smallest

-- ---- refusals of any bytes
-- "Over-long text is refused first, at place 16,384."
pub over_long : (s : Bytes) → max_text_bytes < length s → read s ≡ refuse TooLarge max_text_bytes
over_long = Exact.over_long

-- "Place of 2: the first byte with which the text no longer begins any RFC 8259 text, or the text's length if it ends too early."
pub fault_2 : (s : Bytes) (p : ℕ) → read s ≡ refuse not_json p → NotJson s p
fault_2 = Exact.fault_2

-- "Faults 3 to 5 count only if the bytes through their place still begin an RFC 8259 text."
pub through : (s : Bytes) (k : ReadFault) (p : ℕ) → read s ≡ refuse k p → 3 ≤ read_number k → OverLong s k p ⊎ ((p < length s) × Begins (take (suc p) s))
through = Exact.through

-- "Of 3: .. Of 4: .. Of 5: ..": the fault is the first of some text of RFC 8259 that begins with the bytes through it.
pub as_stated : (s : Bytes) (k : ReadFault) (p : ℕ) → read s ≡ refuse k p → 3 ≤ read_number k → OverLong s k p ⊎ Stated s k p
as_stated = Exact.as_stated

-- "Of 3: .. the backslash of a complete surrogate escape that has no partner": one stands at the place.
pub lone_surrogate_lem : (s : Bytes) (p : ℕ) → read s ≡ refuse LoneSurrogate p → Lone (drop p s)
lone_surrogate_lem = Exact.lone_surrogate_lem

-- And none is missed: what is such a fault is what s is refused with.
pub none_missed : (s : Bytes) (k : ReadFault) (p : ℕ) → Stated s k p → length s ≤ max_text_bytes → read s ≡ refuse k p
none_missed = Exact.none_missed

-- What is no text of RFC 8259 and has no such fault is refused with 2, at the one place there is.
pub none_missed_2 : (s : Bytes) (p : ℕ) → NotJson s p → length s ≤ max_text_bytes → ((k : ReadFault) (q : ℕ) → 3 ≤ read_number k → Stated s k q → ⊥) → read s ≡ refuse not_json p
none_missed_2 = Smallest.none_missed_2

-- "Otherwise the fault with the smallest place wins": every fault that counts stands at the refusal's place or after it, and beside a refusal with 2 there is none;
pub smallest_place :
    (s : Bytes) (k k' : ReadFault) (p p' : ℕ)
    → read s ≡ refuse k p
    → length s ≤ max_text_bytes
    → 3 ≤ read_number k'
    → Has s k' p'
    → (3 ≤ read_number k) × (p ≤ p')
smallest_place = Smallest.smallest_place

-- the refusal's own fault counts;
pub refused_counts : (s : Bytes) (k : ReadFault) (p : ℕ) → Stated s k p → Has s k p
refused_counts = Smallest.stated_has

-- what reads has none.
pub read_faultless : (s : Bytes) (v : Value) (k : ReadFault) (p : ℕ) → read s ≡ done v → 3 ≤ read_number k → Has s k p → ⊥
read_faultless = Smallest.read_faultless

-- ---- what is written
-- A well-formed answer that is not refused with 11, once written, reads as that value with its instants as their texts.
pub written_reads : (v : Value) → WellFormedAnswer v → is_too_large v ≡ false → read (value_text v) ≡ done (textual v)
written_reads = RoundTrip.answer_reads

-- "An answer holding no date-time, once written, reads back as the same value."
pub written_reads_back : (v : Value) → WellFormedValue v → is_too_large v ≡ false → read (value_text v) ≡ done v
written_reads_back = RoundTrip.reads_back

-- The text that is written to an output area reads as the answer, with the texts of its instants.
pub output_reads : (room : ℕ) (v : Value) (t : Bytes) → WellFormedAnswer v → written_within room v ≡ Judged.done t → read t ≡ done (textual v)
output_reads = RoundTrip.output_reads
