-- OnlyLimits: where a derivation has a meaning, its only faults are those of refusal 5: text, nesting or number of values beyond its limit.
use Rattle.std.specs.Prelude.{◌≡◌, refl, List, [], ◌∷◌, ◌++◌, ◌⊎◌, ℕ, suc, ◌≤◌, leb, length}
use Rattle.std.proofs.Common.{sym, subst, inl, inr}
use Rattle.std.specs.Prelude.{None, Some}
use Rattle.model.specs.Bytes.{Bytes}
use Rattle.model.specs.Limits.{max_text_bytes, max_values, max_nesting}
use Rattle.model.specs.declared.refusal.ReadFault.{ReadFault}
use Rattle.model.specs.declared.refusal.ReadFault.TheVariants.{TooLarge}
use Rattle.model.specs.Value.{Value, scalar, array, object, string, Values, item, no_items, Members, no_members}
use Rattle.syntax.specs.Faults.{Fault, fault, FirstFault, OverLong, faults_name, many_at, deep_at, faults_value, faults_elements, faults_members, faults}
use Rattle.syntax.specs.Grammar.{JValue, jtrue, jfalse, jnull, jnumber, jstring, jempty_array, jarray, jempty_object, jobject, JElements, last_element, element, JMembers, last_member, jmember, JText, jtext, spell, chars_meaning, fresh, seen_with, value_meaning, elements_meaning, members_meaning, meaning}
use Rattle.syntax.specs.Read.{clear, refuse, read}
use Rattle.syntax.proofs.Laws.Complete.{number_faultless, chars_faultless, name_faultless}
use Rattle.syntax.proofs.Laws.Faults.{first_fault}
use Rattle.syntax.proofs.Laws.Meaning.{map_some, map₂_some, member_some}
use Rattle.syntax.proofs.Laws.Sound.{Begun, begun}
use Rattle.syntax.proofs.Laws.Tokens.{branch}

abbrev pub OnlyLimits : List Fault → Type 0
OnlyLimits [] = Unit {0}
OnlyLimits (fault k p ∷ l) = (k ≡ TooLarge) × OnlyLimits l

both : (l m : List Fault) → OnlyLimits l → OnlyLimits m → OnlyLimits (l ++ m)
both [] m h k = k
both (fault e p ∷ l) m h k = (h.0, both l m h.1 k)

many : (row at : ℕ) → OnlyLimits (many_at row at)
unfolding many_at
many row at = branch OnlyLimits (leb max_values row) (fault TooLarge at ∷ []) [] (λ h. (refl, tt)) tt

deep : (depth at : ℕ) → OnlyLimits (deep_at depth at)
unfolding deep_at
deep depth at = branch OnlyLimits (leb max_nesting depth) (fault TooLarge at ∷ []) [] (λ h. (refl, tt)) tt

-- What has no fault has no other one.
faultless_limited : (l : List Fault) → l ≡ [] → OnlyLimits l
faultless_limited l e = subst OnlyLimits (sym e) tt

-- ---- values
mutual
  unfolding value_meaning faults_value

  value_limited : (d : JValue) (v : Value) (row depth at : ℕ) → value_meaning d ≡ Some v → OnlyLimits (faults_value d row depth at)
  value_limited jtrue v row depth at e = many row at
  value_limited jfalse v row depth at e = many row at
  value_limited jnull v row depth at e = many row at
  value_limited (jnumber negative i fr ex) v row depth at e = both (many_at row at) _ (many row at) (faultless_limited _ (number_faultless negative i fr ex v _ e))
  value_limited (jstring cs) v row depth at e =
      let (t, j, k) = map_some (λ s. scalar (string s)) (chars_meaning cs None) e in
      both (many_at row at) _ (many row at) (faultless_limited _ (chars_faultless cs clear t (suc at) j))
  value_limited (jempty_array w) v row depth at e = both (many_at row at) _ (many row at) (deep depth at)
  value_limited (jarray w es) v row depth at e =
      let (vs, j, k) = map_some array (elements_meaning es) e in
      both (many_at row at) _ (many row at) (both (deep_at depth at) _ (deep depth at) (elements_limited es vs (suc row) (suc depth) _ j))
  value_limited (jempty_object w) v row depth at e = both (many_at row at) _ (many row at) (deep depth at)
  value_limited (jobject w ms) v row depth at e =
      let (us, j, k) = map_some object (members_meaning ms []) e in
      both (many_at row at) _ (many row at) (both (deep_at depth at) _ (deep depth at) (members_limited ms us [] (suc row) (suc depth) _ j))

  elements_limited : (es : JElements) (vs : Values) (row depth at : ℕ) → elements_meaning es ≡ Some vs → OnlyLimits (faults_elements es row depth at)
  elements_limited (last_element d w) vs row depth at e = let (v, j, k) = map_some (λ x. item x no_items) (value_meaning d) e in value_limited d v row depth at j
  elements_limited (element d w u es) vs row depth at e =
      let (v, us, i, j, k) = map₂_some item (value_meaning d) (elements_meaning es) e in
      both (faults_value d row depth at) _ (value_limited d v row depth at i) (elements_limited es us _ depth _ j)

  members_limited : (ms : JMembers) (us : Members) (seen : List Bytes) (row depth at : ℕ) → members_meaning ms seen ≡ Some us → OnlyLimits (faults_members ms row depth seen at)
  members_limited (last_member n w u d x) us seen row depth at e =
      let (m, v, r, i, j, k, l) = member_some (fresh seen (chars_meaning n None)) (value_meaning d) (Some no_members) e in
      both (faults_name seen n (suc at)) _ (faultless_limited _ (name_faultless seen n m (suc at) i)) (value_limited d v row depth _ j)
  members_limited (jmember n w u d x z ms) us seen row depth at e =
      let (m, v, r, i, j, k, l) = member_some (fresh seen (chars_meaning n None)) (value_meaning d) (members_meaning ms (seen_with seen (chars_meaning n None))) e in
      both (faults_name seen n (suc at)) _ (faultless_limited _ (name_faultless seen n m (suc at) i))
      (both (faults_value d row depth _) _ (value_limited d v row depth _ j) (members_limited ms r (seen_with seen (chars_meaning n None)) _ depth _ k))

pub only_limits : (d : JText) (v : Value) → meaning d ≡ Some v → OnlyLimits (faults d)
unfolding meaning faults
only_limits (jtext w d u) v e = value_limited d v 0 0 _ e

-- So a text of RFC 8259 with a meaning reads, or is refused with 5.
pub refused_large : (d : JText) (v : Value) → meaning d ≡ Some v → (k : ReadFault) (p : ℕ) → read (spell d) ≡ refuse k p → k ≡ TooLarge
refused_large d v e k p r = go (begun (spell d) k p r)
  where
    go : OverLong (spell d) k p ⊎ (Begun (spell d) k p × (length (spell d) ≤ max_text_bytes)) → k ≡ TooLarge
    go (inl h) = h.0
    go (inr h) =
        let (others, i) = subst (FirstFault d) r (first_fault d h.1) in
        (subst OnlyLimits i (only_limits d v e)).0
