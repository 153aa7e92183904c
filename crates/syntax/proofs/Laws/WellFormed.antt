-- WellFormed: what the grammar gives a meaning, and so what reads, is well formed.
use Rattle.std.specs.Prelude.{◌≡◌, refl, Bool, true, false, not, List, [], ◌∷◌, ◌++◌, ℕ, zero, suc, ◌≤◌, T, leb, pos, negsuc, neg_ℤ}
use Rattle.std.proofs.Common.{subst, arith, leb→le, le→leb}
use Rattle.std.specs.Prelude.{Option, None, Some}
use Rattle.std.proofs.Math.Dec.{not_T}
use Rattle.std.specs.Int.Signed.{le_z}
use Rattle.model.specs.Bounds.{bounded}
use Rattle.model.specs.Bytes.{Bytes, same_bytes}
use Rattle.model.proofs.Laws.Logic.{and_i, or_l, or_r, or_e, bytes→≡, bytes_refl}
use Rattle.model.proofs.Laws.Option.{All, all_some}
use Rattle.model.specs.Limits.{max_integer}
use Rattle.model.specs.Value.{Value, scalar, instant, array, object, Scalar, null, boolean, integer, string, Values, no_items, item, Members, no_members, member, instant_free}
use Rattle.syntax.specs.Grammar.{Frac, no_frac, frac, Exp, no_exp, exp, JValue, jtrue, jfalse, jnull, jnumber, jstring, jempty_array, jarray, jempty_object, jobject, JElements, last_element, element, JMembers, last_member, jmember, JText, jtext, int_number, limited, plain, chars_meaning, fresh, seen_with, member_of, value_meaning, elements_meaning, members_meaning, meaning}
use Rattle.syntax.specs.Read.{done, read, signed, among}
use Rattle.syntax.specs.Utf8.{WellFormed}
use Rattle.syntax.specs.WellFormed.{AllInScalar, AllStrings, AllInItems, AllInMembers, are_bytes, names, distinct_names, WellFormedValue}
use Rattle.syntax.proofs.Laws.Sound.{sound}
use Rattle.syntax.proofs.Laws.Tokens.{branch}
use Rattle.syntax.proofs.Laws.Utf8.{all_map, all_map₂, chars_well_formed, well_formed_bytes}

-- ---- numbers
above_least : (m n : ℕ) → T (le_z (neg_ℤ (pos m)) (pos n))
above_least zero n = le→leb 0 n (omega arith)
above_least (suc m) n = tt

negative_above : (m n : ℕ) → suc n ≤ m → T (le_z (neg_ℤ (pos m)) (negsuc n))
negative_above zero n h = absurd (omega arith)
negative_above (suc m) n h = le→leb n m (omega arith)

signed_within : (negative : Bool) (n : ℕ) → n ≤ max_integer → T (bounded (signed negative n))
unfolding bounded signed
signed_within false n h = and_i (le_z (neg_ℤ (pos max_integer)) (pos n)) (leb n max_integer) (above_least max_integer n) (le→leb n max_integer h)
signed_within true zero h = and_i (le_z (neg_ℤ (pos max_integer)) (pos 0)) (leb 0 max_integer) (above_least max_integer 0) (le→leb 0 max_integer (omega arith))
signed_within true (suc n) h = and_i (le_z (neg_ℤ (pos max_integer)) (negsuc n)) true (negative_above max_integer n h) tt

-- ---- values
record Fine (v : Value) : Type 0 where
  strings : AllStrings WellFormed v
  distinct : T (distinct_names v)
  within : T (bounded v)
  free : T (instant_free v)

fine_string : (s : Bytes) → WellFormed s → Fine (scalar (string s))
unfolding AllStrings distinct_names bounded instant_free
fine_string s h = record { strings = h; distinct = tt; within = tt; free = tt }

fine_signed : (negative : Bool) (n : ℕ) → n ≤ max_integer → Fine (signed negative n)
unfolding AllStrings distinct_names instant_free signed
fine_signed false n h = record { strings = tt; distinct = tt; within = signed_within false n h; free = tt }
fine_signed true zero h = record { strings = tt; distinct = tt; within = signed_within true zero h; free = tt }
fine_signed true (suc n) h = record { strings = tt; distinct = tt; within = signed_within true (suc n) h; free = tt }

fine_number : (negative : Bool) (n : ℕ) (fr : Frac) (ex : Exp) → All Fine (plain negative n fr ex)
unfolding plain limited
fine_number negative n no_frac no_exp = branch (All Fine) (leb n max_integer) (Some (signed negative n)) None (λ h. fine_signed negative n (leb→le n max_integer h)) tt
fine_number negative n no_frac (exp e h s b k ds) = tt
fine_number negative n (frac b h ds) ex = tt

fine_item : (v : Value) (vs : Values) → Fine v → Fine (array vs) → Fine (array (item v vs))
unfolding AllStrings distinct_names bounded instant_free
fine_item v vs h k = record {
  strings = (h.strings, k.strings);
  distinct = and_i (distinct_names v) _ h.distinct k.distinct;
  within = and_i (bounded v) _ h.within k.within;
  free = and_i (instant_free v) _ h.free k.free;
}

fine_member : (n : Bytes) (v : Value) (ms : Members) → WellFormed n → T (not (among n (names ms))) → Fine v → Fine (object ms) → Fine (object (member n v ms))
unfolding AllStrings distinct_names bounded instant_free
fine_member n v ms w u h k = record {
  strings = (w, h.strings, k.strings);
  distinct = and_i (not (among n (names ms))) _ u (and_i (distinct_names v) _ h.distinct k.distinct);
  within = and_i (bounded v) _ h.within k.within;
  free = and_i (instant_free v) _ h.free k.free;
}

-- ---- names
among_last : (n : Bytes) (seen : List Bytes) → T (among n (seen ++ (n ∷ [])))
unfolding among
among_last n [] = or_l (same_bytes n n) false (bytes_refl n)
among_last n (x ∷ seen) = or_r (same_bytes n x) _ (among_last n seen)

among_more : (x n : Bytes) (seen : List Bytes) → T (among x seen) → T (among x (seen ++ (n ∷ [])))
unfolding among
among_more x n [] h = absurd h
among_more x n (y ∷ seen) h = or_e (same_bytes x y) _ (or_l (same_bytes x y) _) (λ k. or_r (same_bytes x y) _ (among_more x n seen k)) h

-- The members that follow those with the names seen: they are fine, and none of their names is among those.
record After (seen : List Bytes) (ms : Members) : Type 0 where
  fine : Fine (object ms)
  unseen : (x : Bytes) → T (among x seen) → T (among x (names ms)) → ⊥

after_none : (seen : List Bytes) → After seen no_members
unfolding AllStrings distinct_names bounded instant_free among
after_none seen = record { fine = record { strings = tt; distinct = tt; within = tt; free = tt }; unseen = λ x h k. k }

-- A name that is none of those seen, its content, and what follows those seen with it.
after_member : (seen : List Bytes) (n : Bytes) (v : Value) (ms : Members) → WellFormed n → (T (among n seen) → ⊥) → Fine v → After (seen ++ (n ∷ [])) ms → After seen (member n v ms)
unfolding among
after_member seen n v ms w u h k = record {
  fine = fine_member n v ms w (not_T (among n (names ms)) (k.unseen n (among_last n seen))) h k.fine;
  unseen = λ x i. or_e (same_bytes x n) _ (λ j. u (subst (λ z. T (among z seen)) (bytes→≡ x n j) i)) (k.unseen x (among_more x n seen i));
}

member_fine : (seen : List Bytes) (o : Option Bytes) (p : Option Value) (r : Option Members) → All WellFormed o → All Fine p → All (After (seen_with seen o)) r → All (After seen) (member_of (fresh seen o) p r)
unfolding fresh member_of seen_with
member_fine seen None p r w h k = tt
member_fine seen (Some n) p r w h k = go (among n seen) refl p r h k
  where
    go : (b : Bool) → among n seen ≡ b → (p : Option Value) (r : Option Members) → All Fine p → All (After (seen ++ (n ∷ []))) r → All (After seen) (member_of (elim b [ true ↦ None | false ↦ Some n ]) p r)
    go true e p r h k = tt
    go false e None r h k = tt
    go false e (Some v) None h k = tt
    go false e (Some v) (Some ms) h k = after_member seen n v ms w (λ i. subst T e i) h k

-- ---- over the grammar
mutual
  unfolding value_meaning AllStrings distinct_names bounded instant_free

  value_fine : (d : JValue) → All Fine (value_meaning d)
  value_fine jtrue = record { strings = tt; distinct = tt; within = tt; free = tt }
  value_fine jfalse = record { strings = tt; distinct = tt; within = tt; free = tt }
  value_fine jnull = record { strings = tt; distinct = tt; within = tt; free = tt }
  value_fine (jnumber negative i fr ex) = fine_number negative (int_number i) fr ex
  value_fine (jstring cs) = all_map WellFormed Fine _ (chars_meaning cs None) fine_string (chars_well_formed cs)
  value_fine (jempty_array w) = record { strings = tt; distinct = tt; within = tt; free = tt }
  value_fine (jarray w es) = all_map (λ vs. Fine (array vs)) Fine array (elements_meaning es) (λ vs h. h) (elements_fine es)
  value_fine (jempty_object w) = record { strings = tt; distinct = tt; within = tt; free = tt }
  value_fine (jobject w ms) = all_map (After []) Fine object (members_meaning ms []) (λ m h. h.fine) (members_fine ms [])

  elements_fine : (es : JElements) → All (λ vs. Fine (array vs)) (elements_meaning es)
  elements_fine (last_element d w) = all_map Fine (λ vs. Fine (array vs)) _ (value_meaning d) (λ v h. fine_item v no_items h (record { strings = tt; distinct = tt; within = tt; free = tt })) (value_fine d)
  elements_fine (element d w u es) = all_map₂ Fine (λ vs. Fine (array vs)) (λ vs. Fine (array vs)) item (value_meaning d) (elements_meaning es) fine_item (value_fine d) (elements_fine es)

  members_fine : (ms : JMembers) (seen : List Bytes) → All (After seen) (members_meaning ms seen)
  members_fine (last_member n w u d x) seen = member_fine seen (chars_meaning n None) (value_meaning d) (Some no_members) (chars_well_formed n) (value_fine d) (after_none (seen_with seen (chars_meaning n None)))
  members_fine (jmember n w u d x z ms) seen =
      member_fine seen (chars_meaning n None) (value_meaning d) (members_meaning ms (seen_with seen (chars_meaning n None)))
      (chars_well_formed n) (value_fine d) (members_fine ms (seen_with seen (chars_meaning n None)))

-- Where P of a string gives Q of it, P of every string gives Q of every string.
mutual
  unfolding AllStrings

  pub strings_map : (P Q : Bytes → Type 0) → ((s : Bytes) → P s → Q s) → (v : Value) → AllStrings P v → AllStrings Q v
  strings_map P Q f (scalar x) h = go x h
    where
      go : (x : Scalar) → AllInScalar P x → AllInScalar Q x
      go null h = tt
      go (boolean b) h = tt
      go (integer z) h = tt
      go (string s) h = f s h
  strings_map P Q f (instant t) h = tt
  strings_map P Q f (array vs) h = items_map P Q f vs h
  strings_map P Q f (object ms) h = members_map P Q f ms h

  items_map : (P Q : Bytes → Type 0) → ((s : Bytes) → P s → Q s) → (vs : Values) → AllInItems P vs → AllInItems Q vs
  items_map P Q f no_items h = tt
  items_map P Q f (item v vs) h = (strings_map P Q f v h.0, items_map P Q f vs h.1)

  members_map : (P Q : Bytes → Type 0) → ((s : Bytes) → P s → Q s) → (ms : Members) → AllInMembers P ms → AllInMembers Q ms
  members_map P Q f no_members h = tt
  members_map P Q f (member n v ms) h = (f n h.0, strings_map P Q f v h.1, members_map P Q f ms h.2)

pub value_well_formed : (d : JValue) (v : Value) → value_meaning d ≡ Some v → WellFormedValue v
value_well_formed d v e =
    let h = all_some Fine (value_fine d) e in
    record {
      formed = record {
        utf8_strings = h.strings;
        byte_strings = strings_map WellFormed (λ s. T (are_bytes s)) well_formed_bytes v h.strings;
        distinct_names_lem = h.distinct;
        within_limits_lem = h.within;
      };
      no_instants = h.free;
    }

-- What the grammar gives a meaning is well formed,
pub meaning_well_formed : (d : JText) (v : Value) → meaning d ≡ Some v → WellFormedValue v
unfolding meaning
meaning_well_formed (jtext w d u) v e = value_well_formed d v e

-- and so is what reads.
pub read_well_formed : (s : Bytes) (v : Value) → read s ≡ done v → WellFormedValue v
read_well_formed s v e =
    let w = (sound s v e).0 in
    meaning_well_formed w.tree v w.means
