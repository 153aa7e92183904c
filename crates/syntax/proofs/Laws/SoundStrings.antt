-- SoundStrings: strings and names are read as the grammar derives them; a lone surrogate is one, and has no partner.
use Rattle.std.specs.Prelude.{◌≡◌, false, ◌⊎◌, T, eqb}
use Rattle.std.proofs.Math.Path.{refl, subst, ap}
use Rattle.std.proofs.Common.{sym, ◌∙◌, arith, eqb-true}
use mathlib.Core.List.{List, [], ◌∷◌, ◌++◌}
use Rattle.std.proofs.Math.Logic.{inl, inr}
use Rattle.std.specs.Prelude.{Option, None, Some}
use Prim.Native.Nat.{ℕ, zero, suc, ◌+◌, ◌*◌}
use Rattle.std.proofs.Math.ListN.{length}
use Rattle.model.specs.Bytes.{Bytes}
use Rattle.model.specs.declared.refusal.ReadFault.{ReadFault}
use Rattle.model.specs.declared.refusal.ReadFault.TheVariants.{NotJson, LoneSurrogate}
use Rattle.syntax.specs.declared.Lead.TheVariants.{Closing, Backslash, Char}
use Rattle.syntax.specs.declared.Unit.TheVariants.{Plain, High, Low}
use Rattle.syntax.specs.Faults.{spell_unit, Pair}
use Rattle.syntax.specs.Grammar.{Ws, no_ws, Tails, no_tail, tail, Hexes, no_hexes, hex, Chars, no_chars, unescaped, escaped, code_unit_lem, spell_ws, spell_tails, spell_hexes, spell_chars, tail_bytes, hex_number, map, chars_meaning, fresh}
use Rattle.syntax.specs.Read.{Parsed, ok, bad, Parser, ◌>>=◌, then, give, fail, if, peek, eat, white, tails, hexes, Piece, closing, bytes, unit, escape, char, Pending, clear, high, lone, grow, chars, quoted, among, name}
use Rattle.syntax.specs.Tokens.{within, escape_of, hex_of}
use Rattle.syntax.specs.Utf8.{utf8, lead_of, unit_of, pair_of}
use Rattle.syntax.proofs.Laws.Agreement.{At, onward, at_length, at_drop, Alike, now, Keeps, ◌&◌, byte, ws_keeps, tails_keeps, hexes_keeps, chars_keeps}
use Rattle.syntax.proofs.Laws.Characters.{hexes_length, StartsLow, not_low, pair_high, high_low, plain_low, plain_high}
use Rattle.syntax.proofs.Laws.Parsing.{then_law, lone_law, if_law, peek_law, hex_law, escape_law, lead_law, piece_law, unit_law}
use Rattle.syntax.proofs.Laws.SoundScalars.{name_seen, Cut, Reads, cut_here, cut_byte, cut_after, cut_before, cut_as, reads_in, white_law}
use Rattle.syntax.proofs.Laws.Tokens.{true_t, lead_says, escape_says}

-- ---- bytes that complete what was broken off
low_tails : (n : ℕ) → Tails n 0x80 0xBF
unfolding within
low_tails zero = no_tail
low_tails (suc n) = tail 0x80 tt (low_tails n)

some_tails : (n lo hi : ℕ) → T (within lo hi lo) → Tails n lo hi
some_tails zero lo hi h = no_tail
some_tails (suc n) lo hi h = tail lo h (low_tails n)

tail_byte : T (within 0x80 0xBF 0x80)
unfolding within
tail_byte = tt

some_hexes : (n : ℕ) → Hexes n
unfolding hex_of within
some_hexes zero = no_hexes
some_hexes (suc n) = hex 0x30 0 refl (some_hexes n)

-- A backslash, and a space after a code unit.
backslash : Chars
unfolding escape_of
backslash = escaped 0x5C 0x5C refl no_chars

spaced : Hexes 4 → Chars
unfolding lead_of within
spaced hs = code_unit_lem hs (unescaped 0x20 0 0x80 0xBF refl no_tail no_chars)

-- A high surrogate that waits for its partner.
abbrev pub waiting : Pending → Option ℕ
waiting clear = None
waiting (high u p) = Some u

-- ---- a name with its quotes and its colon
pub record Name : Type 0 where
  pub cs : Chars
  pub w : Ws

abbrev pub spell_name : Name → Bytes → Bytes
spell_name x y = 0x22 ∷ spell_chars x.cs (0x22 ∷ spell_ws x.w (0x3A ∷ y))

pub name_keeps : (x : Name) → Keeps (spell_name x)
name_keeps x = byte 0x22 & chars_keeps x.cs & byte 0x22 & ws_keeps x.w & byte 0x3A

abbrev pub NameMeans : List Bytes → Name → Bytes → Type 0
NameMeans seen x n = fresh seen (chars_meaning x.cs None) ≡ Some n

abbrev no_name : Name
no_name = record { cs = no_chars; w = no_ws }

pub fresh_name : (seen : List Bytes) (o : Option Bytes) (n : Bytes) → among n seen ≡ false → o ≡ Some n → fresh seen o ≡ Some n
unfolding fresh
fresh_name seen o n d h = ap (fresh seen) h ∙ rw (d, fresh)

-- ---- s is the whole text
module _ (s : Bytes) where
  tails_read : (n lo hi : ℕ) (t : Bytes) (at : ℕ) → T (within lo hi lo) → At s t at → Reads s {X = Tails n lo hi} spell_tails (λ ts bs. tail_bytes ts ≡ bs) t (tails n lo hi t at)
  unfolding tails spell_tails tail_bytes fail give
  tails_read zero lo hi t at h g = record { tree = no_tail; is = refl; means = refl; stands = g }
  tails_read (suc n) lo hi [] at h g = (some_tails (suc n) lo hi h, cut_here s _ g)
  tails_read (suc n) lo hi (b ∷ t) at h g =
      if_law Q (b ∷ t) at (within lo hi b) _ _
      (λ i. then_law Q (Reads s {X = Tails n 0x80 0xBF} spell_tails (λ ts bs. tail_bytes ts ≡ bs) t) (tails n 0x80 0xBF t (suc at)) _ (tails_read n 0x80 0xBF t (suc at) tail_byte (onward b g))
      (λ bs u q x. record { tree = tail b (true_t i) x.tree; is = ap (λ y. b ∷ y) x.is; means = ap (λ y. b ∷ y) x.means; stands = x.stands })
      (λ k p x. (tail b (true_t i) x.0, cut_after s (byte b) refl x.1)))
      (λ i. (some_tails (suc n) lo hi h, cut_here s _ g))
    where
      Q : Parsed Bytes → Type 0
      Q = Reads s {X = Tails (suc n) lo hi} spell_tails (λ ts bs. tail_bytes ts ≡ bs) (b ∷ t)

  hexes_read : (n u : ℕ) (t : Bytes) (at : ℕ) → At s t at → Reads s {X = Hexes n} spell_hexes (λ hs c. hex_number u hs ≡ c) t (hexes n u t at)
  unfolding hexes spell_hexes hex_number fail
  hexes_read zero u t at h = record { tree = no_hexes; is = refl; means = refl; stands = h }
  hexes_read (suc n) u [] at h = (some_hexes (suc n), cut_here s _ h)
  hexes_read (suc n) u (b ∷ t) at h =
      hex_law (Reads s {X = Hexes (suc n)} spell_hexes (λ hs c. hex_number u hs ≡ c) (b ∷ t)) (b ∷ t) at (hex_of b) _ _
      (λ d i. reads_in s {X = Hexes n} {Y = Hexes (suc n)} spell_hexes (λ hs c. hex_number u hs ≡ c) (byte b) (λ hs. hex b d i hs) (λ hs y. refl) (λ hs c e. e) refl (hexes n (u * 16 + d) t (suc at)) (hexes_read n (u * 16 + d) t (suc at) (onward b h)))
      (some_hexes (suc n), cut_here s _ h)

  -- ---- one character
  -- One that is no code unit: what it spells and means in front of others, after a high surrogate or none.
  pub record One (before : Option ℕ) (t bs u : Bytes) (q : ℕ) : Type 0 where
    pub make : Chars → Chars
    pub front : Bytes → Bytes
    pub keeps : Keeps front
    pub spells : (cs : Chars) (y : Bytes) → front (spell_chars cs y) ≡ spell_chars (make cs) y
    pub is : t ≡ front u
    pub means : (cs : Chars) → chars_meaning (make cs) before ≡ map (λ x. bs ++ x) (chars_meaning cs None)
    pub stands : At s u q

  pub record OneUnit (t : Bytes) (c : ℕ) (u : Bytes) (q : ℕ) : Type 0 where
    pub hs : Hexes 4
    pub is : t ≡ spell_unit hs u
    pub means : hex_number 0 hs ≡ c
    pub stands : At s u q

  pub record Quote (t u : Bytes) (q : ℕ) : Type 0 where
    pub more : Bytes
    pub is : t ≡ 0x22 ∷ more
    pub left : u ≡ 0x22 ∷ more
    pub stands : At s u q

  abbrev pub ReadsPiece : Bytes → Piece → Bytes → ℕ → Type 0
  ReadsPiece t closing u q = Quote t u q
  ReadsPiece t (bytes bs) u q = One None t bs u q
  ReadsPiece t (unit c) u q = OneUnit t c u q

  abbrev pub ReadsChar : Bytes → Parsed Piece → Type 0
  ReadsChar t (ok x u q) = ReadsPiece t x u q
  ReadsChar t (bad k p) = (cs : Chars) × Cut s k p t (spell_chars cs)

  escape_reads : (t : Bytes) (at : ℕ) → At s t at → ReadsChar (0x5C ∷ t) (escape t at)
  unfolding escape spell_chars chars_meaning backslash fail give
  escape_reads [] at h = (backslash, cut_after s (byte 0x5C) refl (cut_here s (λ y. 0x5C ∷ y) h))
  escape_reads (b ∷ t) at h =
      escape_law (ReadsChar (0x5C ∷ b ∷ t)) (b ∷ t) at (escape_of b) _ _ _
      (λ d i. record { make = escaped b d i; front = λ y. 0x5C ∷ b ∷ y; keeps = byte 0x5C & byte b; spells = λ cs y. refl; is = refl; means = λ cs. refl; stands = onward b h })
      (λ i. then_law (ReadsChar (0x5C ∷ b ∷ t)) (Reads s {X = Hexes 4} spell_hexes (λ hs c. hex_number 0 hs ≡ c) t) (hexes 4 0 t (suc at)) _ (hexes_read 4 0 t (suc at) (onward b h))
      (λ c u q g. record { hs = g.tree; is = ap (λ y. 0x5C ∷ b ∷ y) g.is ∙ ap (λ z. 0x5C ∷ z ∷ spell_hexes g.tree u) (escape_says b i); means = g.means; stands = g.stands })
      (λ k p g. (code_unit_lem g.0 no_chars, cut_after s (byte 0x5C & byte 0x75) (ap (λ z. 0x5C ∷ z ∷ t) (escape_says b i)) g.1)))
      (backslash, cut_after s (byte 0x5C) refl (cut_here s (λ y. 0x5C ∷ y) h))

  pub char_reads : (t : Bytes) (at : ℕ) → At s t at → ReadsChar t (char t at)
  unfolding char spell_chars chars_meaning fail give
  char_reads [] at h = (no_chars, cut_here s _ h)
  char_reads (b ∷ t) at h =
      lead_law (ReadsChar (b ∷ t)) (b ∷ t) at (lead_of b) _ _ _ _
      (λ i. let e : b ∷ t ≡ 0x22 ∷ t = ap (λ z. z ∷ t) (lead_says b Closing i) in record { more = t; is = e; left = e; stands = h })
      (λ i. subst (λ z. ReadsChar (z ∷ t) (escape t (suc at))) (sym (lead_says b Backslash i)) (escape_reads t (suc at) (onward b h)))
      (no_chars, cut_here s _ h)
      (λ n lo hi i. then_law (ReadsChar (b ∷ t)) (Reads s {X = Tails n lo hi} spell_tails (λ ts bs. tail_bytes ts ≡ bs) t) (tails n lo hi t (suc at)) _ (tails_read n lo hi t (suc at) (lead_says b (Char n lo hi) i) (onward b h))
      (λ bs u q g. record {
        make = unescaped b n lo hi i g.tree;
        front = λ y. b ∷ spell_tails g.tree y;
        keeps = byte b & tails_keeps g.tree;
        spells = λ cs y. refl;
        is = ap (λ y. b ∷ y) g.is;
        means = λ cs. ap (λ z. map (λ x. (b ∷ z) ++ x) (chars_meaning cs None)) g.means;
        stands = g.stands;
      })
      (λ k p g. (unescaped b n lo hi i g.0 no_chars, cut_after s (byte b) refl g.1)))

  -- A code unit that is no surrogate, or a low one that a high one waits for.
  unit_plain : {t : Bytes} {c : ℕ} {u : Bytes} {q : ℕ} → OneUnit t c u q → unit_of c ≡ Plain → One None t (utf8 c) u q
  unfolding spell_chars chars_meaning
  unit_plain g h =
      record {
        make = code_unit_lem g.hs;
        front = spell_unit g.hs;
        keeps = byte 0x5C & byte 0x75 & hexes_keeps g.hs;
        spells = λ cs y. refl;
        is = g.is;
        means = λ cs. rw (ap unit_of g.means ∙ h, chars_meaning) (ap (λ z. map (λ x. utf8 z ++ x) (chars_meaning cs None)) g.means);
        stands = g.stands;
      }

  unit_low : {t : Bytes} {c : ℕ} {u : Bytes} {q : ℕ} (h : ℕ) → OneUnit t c u q → unit_of c ≡ Low → One (Some h) t (utf8 (pair_of h c)) u q
  unfolding spell_chars chars_meaning
  unit_low h g l =
      record {
        make = code_unit_lem g.hs;
        front = spell_unit g.hs;
        keeps = byte 0x5C & byte 0x75 & hexes_keeps g.hs;
        spells = λ cs y. refl;
        is = g.is;
        means = λ cs. rw (ap unit_of g.means ∙ l, chars_meaning) (ap (λ z. map (λ x. utf8 (pair_of h z) ++ x) (chars_meaning cs None)) g.means);
        stands = g.stands;
      }

  -- ---- the characters of a string
  pub record Closed (before : Option ℕ) (t bs u : Bytes) (q : ℕ) : Type 0 where
    pub cs : Chars
    pub more : Bytes
    pub is : t ≡ spell_chars cs (0x22 ∷ more)
    pub left : u ≡ 0x22 ∷ more
    pub means : chars_meaning cs before ≡ Some bs
    pub stands : At s u q

  -- The high surrogate that waits has no partner in t.
  abbrev Alone : Pending → Bytes → ReadFault → ℕ → Type 0
  Alone clear t k p = ⊥
  Alone (high u p₀) t k p = (k ≡ LoneSurrogate) × (p ≡ p₀) × (StartsLow t → ⊥)

  abbrev pub ReadsChars : Pending → Bytes → Parsed Bytes → Type 0
  ReadsChars w t (ok bs u q) = Closed (waiting w) t bs u q
  ReadsChars w t (bad k p) = Alone w t k p ⊎ ((cs : Chars) × Cut s k p t (spell_chars cs))

  grow_reads : (w : Pending) {t bs u : Bytes} {q : ℕ} → One (waiting w) t bs u q → (r : Parsed Bytes) → ReadsChars clear u r → ReadsChars w t (grow bs r)
  unfolding grow then give map
  grow_reads w {t} {bs} c (ok x v p) g =
      record { cs = c.make g.cs; more = g.more; is = c.is ∙ ap c.front g.is ∙ c.spells g.cs _; left = g.left; means = c.means g.cs ∙ ap (map (λ z. bs ++ z)) g.means; stands = g.stands }
  grow_reads w c (bad k p) (inl g) = absurd g
  grow_reads w c (bad k p) (inr g) = inr (c.make g.0, cut_as s _ (λ y. c.spells g.0 y) (cut_after s c.keeps c.is g.1))

  -- Through the escape of a lone surrogate.
  unit_cut : {t : Bytes} {at c : ℕ} {u : Bytes} {q : ℕ} → At s t at → (g : OneUnit t c u q) → (unit_of c ≡ Plain → ⊥) → (Pair t → ⊥) → Cut s LoneSurrogate at t (spell_chars (spaced g.hs))
  unfolding spell_chars spell_tails spaced
  unit_cut {t} {at} {c} {u} {q} h g surrogate no_pair =
      let six : q ≡ at + 6 = omega (arith, at_length h, at_length g.stands, ap length g.is, hexes_length g.hs u) in
      record {
        rest = u;
        place = subst (At s u) six g.stands;
        alike = λ y. (0x20 ∷ y, subst (λ z. Alike u (0x20 ∷ y) z (spell_unit g.hs (0x20 ∷ y))) (sym g.is) ((byte 0x5C & byte 0x75 & hexes_keeps g.hs).keep now), (y, refl));
        lone = record { escape = g.hs; rest = u; begins = at_drop h ∙ g.is; surrogate = λ e. surrogate (sym (ap unit_of g.means) ∙ e); no_pair = λ p. no_pair (subst Pair (at_drop h) p) };
      }

  high_reads : {t : Bytes} {at c : ℕ} {u : Bytes} {q : ℕ} → At s t at → OneUnit t c u q → char t at ≡ ok (unit c) u q → unit_of c ≡ High → (r : Parsed Bytes) → ReadsChars (high c at) u r → ReadsChars clear t r
  unfolding spell_chars chars_meaning
  high_reads h g e i (ok x v p) y =
      record {
        cs = code_unit_lem g.hs y.cs;
        more = y.more;
        is = g.is ∙ ap (spell_unit g.hs) y.is;
        left = y.left;
        stands = y.stands;
        means = rw (ap unit_of g.means ∙ i, chars_meaning) (ap (λ z. chars_meaning y.cs (Some z)) g.means ∙ y.means);
      }
  high_reads {t} {at} {c} {u} {q} h g e i (bad k p) (inl y) =
      inr (
        spaced g.hs,
        subst (λ z. Cut s z p t (spell_chars (spaced g.hs))) (sym y.0) (subst (λ z. Cut s LoneSurrogate z t (spell_chars (spaced g.hs))) (sym y.1)
            (unit_cut h g (λ e. plain_high c e i) (λ pair. y.2 (pair_high t at c u q e pair).1))),
      )
  high_reads h g e i (bad k p) (inr y) = inr (code_unit_lem g.hs y.0, cut_after s (byte 0x5C & byte 0x75 & hexes_keeps g.hs) g.is y.1)

  -- What one character is read as, and that it is.
  abbrev Known : Bytes → ℕ → Parsed Piece → Type 0
  Known t at r = ReadsChar t r × (char t at ≡ r)

  pub chars_read : (f : ℕ) (w : Pending) (t : Bytes) (at : ℕ) → At s t at → ReadsChars w t (chars f w t at)
  unfolding chars spell_chars chars_meaning fail give lone
  chars_read zero w t at h = inr (no_chars, cut_here s _ h)
  chars_read (suc f) clear t at h =
      then_law (ReadsChars clear t) (Known t at) (char t at) _ (char_reads t at h, refl)
      (λ x u q g. piece_law (ReadsChars clear t) u q x _ _ _
      (λ i. let y : Quote t u q = subst (λ z. ReadsPiece t z u q) i g.0 in record { cs = no_chars; more = y.more; is = y.is; left = y.left; means = refl; stands = y.stands })
      (λ bs i. let y : One None t bs u q = subst (λ z. ReadsPiece t z u q) i g.0 in grow_reads clear y (chars f clear u q) (chars_read f clear u q y.stands))
      (λ c i. let y : OneUnit t c u q = subst (λ z. ReadsPiece t z u q) i g.0 in
      let e : char t at ≡ ok (unit c) u q = g.1 ∙ ap (λ z. ok z u q) i in
      unit_law (ReadsChars clear t) u q (unit_of c) _ _ _
      (λ j. grow_reads clear (unit_plain y j) (chars f clear u q) (chars_read f clear u q y.stands))
      (λ j. high_reads h y e j (chars f (high c at) u q) (chars_read f (high c at) u q y.stands))
      (λ j. inr (spaced y.hs, unit_cut h y (λ e. plain_low c e j) (λ pair. high_low c (pair_high t at c u q e pair).0 j)))))
      (λ k p g. inr g.0)
  chars_read (suc f) (high v p) t at h =
      lone_law (ReadsChars (high v p) t) (Known t at) (char t at) _ _ (char_reads t at h, refl)
      (λ x u q g. piece_law (ReadsChars (high v p) t) u q x _ _ _
      (λ i. inl (refl, refl, not_low t at (ok closing u q) (g.1 ∙ ap (λ z. ok z u q) i) tt))
      (λ bs i. inl (refl, refl, not_low t at (ok (bytes bs) u q) (g.1 ∙ ap (λ z. ok z u q) i) tt))
      (λ c i. let y : OneUnit t c u q = subst (λ z. ReadsPiece t z u q) i g.0 in
      let e : char t at ≡ ok (unit c) u q = g.1 ∙ ap (λ z. ok z u q) i in
      unit_law (ReadsChars (high v p) t) u q (unit_of c) _ _ _
      (λ j. inl (refl, refl, not_low t at (ok (unit c) u q) e (λ l. plain_low c j l)))
      (λ j. inl (refl, refl, not_low t at (ok (unit c) u q) e (λ l. high_low c j l)))
      (λ j. grow_reads (high v p) (unit_low v y j) (chars f clear u q) (chars_read f clear u q y.stands))))
      (λ k q g. inl (refl, refl, not_low t at (bad k q) g.1 tt))

  -- ---- names
  pub name_reads : (f : ℕ) (seen : List Bytes) (t : Bytes) (at : ℕ) → At s t at → Reads s spell_name (NameMeans seen) t (name f seen t at)
  unfolding name ◌>>=◌ quoted eat fail give
  name_reads f seen t at h =
      peek_law Q t at _
      (λ i. (no_name, cut_here s _ h))
      (λ b u i. if_law Q (b ∷ u) at (eqb b 0x22) _ _
      (λ e. let i₁ : t ≡ 0x22 ∷ u = i ∙ ap (λ c. c ∷ u) (eqb-true b 0x22 e) in
      then_law Q (ReadsChars clear u) (chars f clear u (suc at)) _ (chars_read f clear u (suc at) (onward b (subst (λ x. At s x at) i h)))
      (λ n v q g. let i₂ : t ≡ 0x22 ∷ spell_chars g.cs (0x22 ∷ g.more) = i₁ ∙ ap (λ y. 0x22 ∷ y) g.is in
      let h₂ : At s (0x22 ∷ g.more) q = subst (λ x. At s x q) g.left g.stands in
      if_law Q v q (among n seen) _ _
      (λ d. (record { cs = g.cs; w = no_ws }, cut_after s (byte 0x22 & chars_keeps g.cs) i₂ (cut_byte s name_seen (λ y. spell_ws no_ws (0x3A ∷ y)) h₂)))
      (λ d. subst (λ z. Q (eat (white (colon n)) z q)) (sym g.left)
      (white_law s Q (colon n) g.more (suc q) (onward 0x22 h₂)
      (λ w y r i₃ h₃. let i₄ : t ≡ 0x22 ∷ spell_chars g.cs (0x22 ∷ spell_ws w y) = i₂ ∙ ap (λ z. 0x22 ∷ spell_chars g.cs (0x22 ∷ z)) i₃ in
      let stop : Q (bad NotJson r) = (record { cs = g.cs; w = w }, cut_after s (byte 0x22 & chars_keeps g.cs & byte 0x22 & ws_keeps w) i₄ (cut_here s (λ z. 0x3A ∷ z) h₃)) in
      peek_law Q y r _ (λ j. stop)
      (λ c z j. if_law Q (c ∷ z) r (eqb c 0x3A) _ _
      (λ k. record { tree = record { cs = g.cs; w = w }; is = i₄ ∙ ap (λ z. 0x22 ∷ spell_chars g.cs (0x22 ∷ spell_ws w z)) (j ∙ ap (λ c. c ∷ z) (eqb-true c 0x3A k)); means = fresh_name seen _ n d g.means; stands = onward c (subst (λ x. At s x r) j h₃) })
      (λ k. stop))))))
      (λ k p g. in_string k p g i₁))
      (λ e. (no_name, cut_here s _ h)))
    where
      Q : Parsed Bytes → Type 0
      Q = Reads s spell_name (NameMeans seen) t

      colon : Bytes → Parser Bytes
      colon n = peek >>= λ c. if (eqb c 0x3A) (eat (give n)) (fail NotJson)

      in_string : (k : ReadFault) (p : ℕ) → {u : Bytes} → ReadsChars clear u (bad k p) → t ≡ 0x22 ∷ u → Q (bad k p)
      in_string k p (inl g) i = absurd g
      in_string k p (inr g) i = (record { cs = g.0; w = no_ws }, cut_after s (byte 0x22) i (cut_before s _ g.1))
