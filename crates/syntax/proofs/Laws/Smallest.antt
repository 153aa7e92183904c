-- Smallest: of any bytes the fault with the smallest place wins; and what has none, and is no text of RFC 8259, is refused with 2.
use Rattle.std.specs.Prelude.{◌≡◌, refl, ◌⊎◌, ℕ, suc, ◌+◌, ◌-◌, ◌≤◌, ◌<◌, length, take, drop}
use Rattle.std.proofs.Common.{sym, subst, ap, ◌∙◌, inl, inr, arith, lit≤, length-append, drop_at}
use mathlib.Core.List.Memᴰ
use mathlib.Core.List.{List, [], ◌∷◌, ◌++◌, Memᴰ}
use Rattle.model.specs.Bytes.{Bytes}
use Rattle.model.specs.Limits.{max_text_bytes}
use Rattle.model.specs.Refusal.{read_number}
use Rattle.model.specs.declared.refusal.ReadFault.{ReadFault}
use Rattle.model.specs.declared.refusal.ReadFault.TheVariants.{NotJson as not_json, RepeatedName, LoneSurrogate, BadNumber, TooLarge}
use Rattle.model.specs.Value.{Value}
use Rattle.model.proofs.Laws.Logic.{clash}
use Rattle.syntax.specs.Faults.{Fault, fault, faults, Begins, NotJson, OverLong, Pair, reach, Unpaired, Stated, Has}
use Rattle.syntax.specs.Grammar.{spell}
use Rattle.syntax.specs.Read.{Read, done, refuse, read}
use Rattle.syntax.proofs.Laws.Agreement.{At, at_place, alike_back}
use Rattle.syntax.proofs.Laws.Exact.{begins_alike, fault_2, shorter, taken, as_stated, first_bad, none_missed}
use Rattle.syntax.proofs.Laws.Local.{less_or_not}
use Rattle.syntax.proofs.Laws.Sound.{sound}
use Rattle.syntax.proofs.Laws.Order.{reach_of, All, Shows, Shown, Ordered, text_ordered, listed_from}

all_member : (P : Fault → Type 0) (fs : List Fault) (x : Fault) → All P fs → Memᴰ x fs → P x
all_member P [] x h m = absurd (Memᴰ.not-nil m)
all_member P (y ∷ fs) x h m = go (Memᴰ.cases_cons m) (λ n. all_member P fs x h.1 n)
  where
    go : (x ≡ y) ⊎ Memᴰ x fs → (Memᴰ x fs → P x) → P x
    go (inl e) f = subst P (sym e) h.0
    go (inr n) f = f n

-- A text that begins with as many bytes of s begins with fewer.
fewer : (s u rest : Bytes) (n m : ℕ) → n ≤ m → u ≡ take m s ++ rest → (more : Bytes) × (u ≡ take n s ++ more)
fewer s u rest n m l e =
    let i : m ≡ n + (m - n) = omega arith in
    (_, shorter s u rest n (m - n) (e ∙ ap (λ k. take k s ++ rest) i))

-- What is shown by the first n bytes of a text holds of s, which shares them.
shown : (s u more : Bytes) (p n : ℕ) → n ≤ length s → u ≡ take n s ++ more → Shows u p n → Pair (drop p s) → ⊥
shown s u more p n l e f =
    let i : length (take n s) ≡ n = taken s n l in
    let j : drop n u ≡ more = ap (drop n) e ∙ drop_at (take n s) more n i in
    f more (drop n s) s (subst (λ x. At u x n) j (at_place u n (omega (arith, ap length e, length-append (take n s) more, i)))) (alike_back (begins_alike s u more n e))

-- The bytes of a fault of a text reach through its first fault too.
earlier :
    (s : Bytes) (k k₁ : ReadFault) (p p₁ : ℕ) (others : List Fault) → 3 ≤ read_number k → 3 ≤ read_number k₁ → (g : Has s k p) → p₁ ≤ p
    → Shown (spell g.tree) k₁ p₁ others (length (spell g.tree)) → Memᴰ (fault k p) others → (reach k₁ p₁ ≤ reach k p) × Unpaired k₁ (drop p₁ s)
earlier s k k₁ p p₁ others l l₁ g h seen m = go k₁ l₁ seen
  where
    through : (k : ReadFault) → 3 ≤ read_number k → suc p ≤ reach k p
    through not_json l = absurd (omega arith)
    through RepeatedName l = omega arith
    through LoneSurrogate l = omega arith
    through BadNumber l = omega arith
    through TooLarge l = omega arith

    go : (k₁ : ReadFault) → 3 ≤ read_number k₁ → Shown (spell g.tree) k₁ p₁ others (length (spell g.tree)) → (reach k₁ p₁ ≤ reach k p) × Unpaired k₁ (drop p₁ s)
    go not_json l₁ seen = absurd (omega arith)
    go RepeatedName l₁ seen = (omega (arith, through k l, h), tt)
    go LoneSurrogate l₁ seen =
        let n = seen.0 in
        let i : n ≤ reach k p = all_member (λ x. n ≤ reach_of x) others (fault k p) seen.4 m in
        let x = fewer s (spell g.tree) g.rest n (reach k p) i g.begins in
        (omega (arith, seen.1, i), shown s (spell g.tree) x.0 p₁ n (omega (arith, i, g.inside)) x.1 seen.3)
    go BadNumber l₁ seen = (omega (arith, through k l, h), tt)
    go TooLarge l₁ seen = (omega (arith, through k l, h), tt)

-- A fault that s has, or an earlier one, is what s is refused with.
pub record Wins (s : Bytes) (p : ℕ) : Type 0 where
  pub kind : ReadFault
  pub place : ℕ
  pub refused : read s ≡ refuse kind place
  pub number : 3 ≤ read_number kind
  pub no_later : place ≤ p

pub smallest_wins : (s : Bytes) (k : ReadFault) (p : ℕ) → 3 ≤ read_number k → Has s k p → length s ≤ max_text_bytes → Wins s p
smallest_wins s k p l g m = go (faults g.tree) refl
  where
    go : (fs : List Fault) → faults g.tree ≡ fs → Wins s p
    go [] e = absurd (Memᴰ.not-nil (subst (Memᴰ (fault k p)) e g.listed))
    go (fault k₁ p₁ ∷ others) e = which (Memᴰ.cases_cons (subst (Memᴰ (fault k p)) e g.listed))
      where
        ordered : Ordered (spell g.tree) 0 (fault k₁ p₁ ∷ others) (length (spell g.tree))
        ordered = subst (λ x. Ordered (spell g.tree) 0 x (length (spell g.tree))) e (text_ordered g.tree)

        number₁ : 3 ≤ read_number k₁
        number₁ = (first_bad g.tree k₁ p₁ others e).1

        which : (fault k p ≡ fault k₁ p₁) ⊎ Memᴰ (fault k p) others → Wins s p
        which (inl i) =
            let first : faults g.tree ≡ fault k p ∷ others = e ∙ ap (λ x. x ∷ others) (sym i) in
            record { kind = k; place = p; refused = none_missed s k p (record { inside = g.inside; tree = g.tree; rest = g.rest; begins = g.begins; others = others; first = first; unpaired = g.unpaired }) m; number = l; no_later = omega arith }
        which (inr n) =
            let h : p₁ ≤ p = listed_from (spell g.tree) p₁ (length (spell g.tree)) others (fault k p) ordered.2 n in
            let x = earlier s k k₁ p p₁ others l number₁ g h ordered.1 n in
            let y = fewer s (spell g.tree) g.rest (reach k₁ p₁) (reach k p) x.0 g.begins in
            let inside = g.inside in
            record {
              kind = k₁;
              place = p₁;
              number = number₁;
              no_later = h;
              refused = none_missed s k₁ p₁ (record { inside = omega (arith, x.0, inside); tree = g.tree; rest = y.0; begins = y.1; others = others; first = e; unpaired = x.1 }) m;
            }

-- So a refusal's place is the smallest, and one with 2 has no other fault beside it; what reads has none.
pub smallest_place : (s : Bytes) (k k' : ReadFault) (p p' : ℕ) → read s ≡ refuse k p → length s ≤ max_text_bytes → 3 ≤ read_number k' → Has s k' p' → (3 ≤ read_number k) × (p ≤ p')
smallest_place s k k' p p' e m l g =
    let w = smallest_wins s k' p' l g m in
    let i : refuse w.kind w.place ≡ refuse k p = sym w.refused ∙ e in
    let j : w.kind ≡ k = cc in
    let h : w.place ≡ p = cc in
    (subst (λ z. 3 ≤ read_number z) j w.number, omega (arith, h, w.no_later))

pub read_faultless : (s : Bytes) (v : Value) (k : ReadFault) (p : ℕ) → read s ≡ done v → 3 ≤ read_number k → Has s k p → ⊥
read_faultless s v k p e l g =
    let w = smallest_wins s k p l g (sound s v e).1 in
    let i : refuse w.kind w.place ≡ done v = sym w.refused ∙ e in
    clash cc

-- ---- refusal 2, the other way
begins_fewer : (s : Bytes) (n m : ℕ) → n ≤ m → Begins (take m s) → Begins (take n s)
begins_fewer s n m l b = let x = fewer s (spell b.0) b.1 n m l b.2 in (b.0, x.0, x.1)

-- There is one place of 2.
one_place : (s : Bytes) (p q : ℕ) → NotJson s p → NotJson s q → p ≤ q
one_place s p q g h = go (less_or_not q p)
  where
    go : (q < p) ⊎ (p ≤ q) → p ≤ q
    go (inl l) = absurd (let i = g.inside in h.ends (omega arith) (begins_fewer s (suc q) p l g.before))
    go (inr l) = l

-- What is no text of RFC 8259, and has no fault that counts, is refused with 2.
pub none_missed_2 : (s : Bytes) (p : ℕ) → NotJson s p → length s ≤ max_text_bytes → ((k : ReadFault) (q : ℕ) → 3 ≤ read_number k → Stated s k q → ⊥) → read s ≡ refuse not_json p
none_missed_2 s p g l free = go (read s) refl
  where
    faulty : (k : ReadFault) (q : ℕ) → 3 ≤ read_number k → read s ≡ refuse k q → ⊥
    faulty k q m e = which (as_stated s k q e m)
      where
        which : OverLong s k q ⊎ Stated s k q → ⊥
        which (inl x) = omega (arith, x.2, l)
        which (inr x) = free k q m x

    go : (r : Read) → read s ≡ r → read s ≡ refuse not_json p
    go (done v) e = absurd (let w = (sound s v e).0 in g.no_text w.tree w.spells)
    go (refuse not_json q) e =
        let h = fault_2 s q e in
        let i : q ≡ p = omega (arith, one_place s p q g h, one_place s q p h g) in
        e ∙ ap (refuse not_json) i
    go (refuse RepeatedName q) e = absurd (faulty RepeatedName q (lit≤ tt) e)
    go (refuse LoneSurrogate q) e = absurd (faulty LoneSurrogate q (lit≤ tt) e)
    go (refuse BadNumber q) e = absurd (faulty BadNumber q (lit≤ tt) e)
    go (refuse TooLarge q) e = absurd (faulty TooLarge q (lit≤ tt) e)

-- The first fault of a text is one of its faults.
pub stated_has : (s : Bytes) (k : ReadFault) (p : ℕ) → Stated s k p → Has s k p
stated_has s k p x = record {
  inside = x.inside;
  tree = x.tree;
  rest = x.rest;
  begins = x.begins;
  listed = subst (Memᴰ (fault k p)) (sym x.first) (Memᴰ.head refl);
  unpaired = x.unpaired;
}
