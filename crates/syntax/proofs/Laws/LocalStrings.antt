-- LocalStrings: strings and names of two texts that begin alike; a lone surrogate in one is alone in the other, where no pair begins.
use Rattle.std.specs.Prelude.{◌≡◌, List, [], ◌++◌, ◌⊎◌, eqb, drop}
use Rattle.std.proofs.Math.Path.{refl, subst, ap}
use Rattle.std.proofs.Common.{sym, ◌∙◌, inl, inr, arith}
use Prim.Native.Nat.{ℕ, zero, suc, ◌+◌, ◌≤◌, ◌<◌}
use Rattle.std.proofs.Math.ListN.{length}
use Rattle.model.specs.Bytes.{Bytes}
use Rattle.model.specs.declared.refusal.ReadFault.TheVariants.{NotJson, RepeatedName, LoneSurrogate}
use Rattle.syntax.specs.declared.Unit.TheVariants.{High, Low}
use Rattle.syntax.specs.Faults.{spell_unit, Pair}
use Rattle.syntax.specs.Grammar.{Hexes, hex_number}
use Rattle.syntax.specs.Read.{Parsed, ok, bad, Parser, then, give, peek, Piece, closing, bytes, unit, char, clear, high, on_piece, on_unit, or_lone, lone, grow, chars, quoted, among, name}
use Rattle.syntax.specs.Utf8.{utf8, unit_of, pair_of}
use Rattle.syntax.proofs.Laws.Agreement.{At, at_length, at_drop, Alike, ◌&◌, byte, alike_under, hexes_keeps}
use Rattle.syntax.proofs.Laws.Characters.{char_unit, StartsLow}
use Rattle.syntax.proofs.Laws.Local.{less_or_not, Decides, Claim, Agrees, Local, undecided, past, local_then, local_give, local_fail, local_if, local_peek, local_eat, local_white, agree_map, agree_char}
use Rattle.syntax.proofs.Laws.Parsing.{lone_law, piece_law, unit_law}
use Rattle.syntax.proofs.Laws.Progress.{Within, Stays, CharWithin, char_within, within_grow, HighWithin, chars_within}
use Rattle.syntax.proofs.Laws.SoundStrings.{OneUnit, ReadsChar, char_reads}

-- A code unit's escape has six bytes.
unit_place : (s t : Bytes) (at c : ℕ) (t' : Bytes) (q : ℕ) → At s t at → char t at ≡ ok (unit c) t' q → q ≡ at + 6
unit_place s t at c t' q h e =
    let g : OneUnit s t c t' q = subst (ReadsChar s t) e (char_reads s t at h) in
    let j : ok (unit (hex_number 0 g.hs)) t' (at + 6) ≡ ok (unit c) t' q = sym (ap (λ z. char z at) g.is ∙ char_unit g.hs t' at) ∙ e in
    let k : at + 6 ≡ q = cc in
    sym k

module _ (s s' r w : Bytes) where
  -- ---- a code unit in the part that both share
  record Both (u : Bytes) (at c : ℕ) (t : Bytes) (q : ℕ) : Type 0 where
    pub hs : Hexes 4
    pub v : Bytes
    pub is : u ≡ spell_unit hs v
    pub means : hex_number 0 hs ≡ c
    pub run : char u at ≡ ok (unit c) v q
    pub alike : Alike r w t v
    pub stands : At s' v q

  both : (t u : Bytes) (at c : ℕ) (t' : Bytes) (q : ℕ) → At s t at → At s' u at → Alike r w t u → char t at ≡ ok (unit c) t' q → length r ≤ length t' → Both u at c t' q
  both t u at c t' q h i a e l =
      let g : OneUnit s t c t' q = subst (ReadsChar s t) e (char_reads s t at h) in
      let x = alike_under (byte 0x5C & byte 0x75 & hexes_keeps g.hs) (subst (λ z. Alike r w z u) g.is a) l in
      let run : char u at ≡ ok (unit c) x.0 q = ap (λ z. char z at) x.1 ∙ char_unit g.hs x.0 at ∙ ap (λ z. ok (unit z) x.0 (at + 6)) g.means ∙ ap (ok (unit c) x.0) (sym (unit_place s t at c t' q h e)) in
      let y : At s' x.0 q × (at < q) = subst (CharWithin s' at) run (char_within s' u at i) in
      record { hs = g.hs; v = x.0; is = x.1; means = g.means; run = run; alike = x.2; stands = y.0 }

  stays_char : Stays s char
  stays_char t at h = go (char t at) (char_within s t at h)
    where
      go : (x : Parsed Piece) → CharWithin s at x → Within s at at x
      go (ok closing u q) g = g
      go (ok (bytes bs) u q) g = (g.0, omega (arith, g.1))
      go (ok (unit c) u q) g = (g.0, omega (arith, g.1))
      go (bad k p) g = g

  -- ---- after a high surrogate
  -- Where no low one follows it is alone.
  high_alone : (f v p : ℕ) (u : Bytes) (at : ℕ) → At s' u at → (StartsLow u → ⊥) → chars (suc f) (high v p) u at ≡ bad LoneSurrogate p
  unfolding chars lone
  high_alone f v p u at h no-low =
      lone_law (λ x. x ≡ bad LoneSurrogate p) (ReadsChar s' u) (char u at) p _ (char_reads s' u at h)
      (λ x u' q g. piece_law (λ x. x ≡ bad LoneSurrogate p) u' q x _ _ _ (λ i. refl) (λ bs i. refl)
      (λ c i. let y : OneUnit s' u c u' q = subst (λ z. ReadsChar s' u (ok z u' q)) i g in
      unit_law (λ x. x ≡ bad LoneSurrogate p) u' q (unit_of c) _ _ _ (λ j. refl) (λ j. refl)
      (λ j. absurd (no-low (record { low = y.hs; rest = u'; begins = y.is; is_low = ap unit_of y.means ∙ j })))))
      (λ k q g. refl)

  -- The high one stands at p₀ in both, and what follows it is read alike.
  abbrev HighAgrees : ℕ → Type 0
  HighAgrees f = (v p₀ : ℕ) (t u : Bytes) (at : ℕ) → At s t at → At s' u at → Alike r w t u → ((Pair (drop p₀ s') → ⊥) → StartsLow u → ⊥) → Claim s s' r w (chars f (high v p₀) t at) (chars f (high v p₀) u at)

  agree_grow : (bs : Bytes) (x y : Parsed Bytes) → Claim s s' r w x y → Claim s s' r w (grow bs x) (grow bs y)
  unfolding grow
  agree_grow bs x y c = agree_map s s' r w x y (λ cs. bs ++ cs) c

  -- What both have read is past what they share.
  parted : {A : Type 0} (x y : Parsed A) {u : Bytes} {q : ℕ} → At s u q → length u ≤ length r → Within s q q x → Claim s s' r w x y
  parted x y {u} {q} h l g = past s s' r w q q x y g (omega (arith, at_length h)) (omega (arith, at_length h))

  -- After a high one whose escape is not wholly shared nothing is claimed.
  high_parted : (at : ℕ) {u : Bytes} {q : ℕ} → At s u q → q ≡ at + 6 → length u < length r → (x y : Parsed Bytes) → HighWithin s at q x → Claim s s' r w x y
  high_parted at h e l (ok bs v p) y g = λ k. absurd (omega (arith, at_length h, at_length g.0, g.1, k))
  high_parted at h e l (bad k p) y (inl g) = λ d. absurd (let z : Decides s s' r w LoneSurrogate p = subst (λ k. Decides s s' r w k p) g.0 d in omega (arith, z.0, g.1, at_length h))
  high_parted at h e l (bad k p) y (inr g) = λ d. absurd (undecided s s' r w k p (omega (arith, g.0, at_length h)) d)

  module _ (f : ℕ) (clears : Agrees s s' r w (chars f clear)) (highs : HighAgrees f) where
    -- ---- one more character, with no high surrogate before it
    abbrev after_char : ℕ → Piece → Parser Bytes
    after_char at x =
        on_piece x (give []) (λ bs t q. grow bs (chars f clear t q))
        (λ c. on_unit (unit_of c) (λ t q. grow (utf8 c) (chars f clear t q)) (λ t q. chars f (high c at) t q) (lone at))

    grown : (bs : Bytes) {t : Bytes} {q : ℕ} → At s t q → Within s q q (grow bs (chars f clear t q))
    grown bs {t} {q} h = within_grow s q q bs (chars f clear t q) (omega arith) (chars_within s f clear t q h)

    -- Bytes in front of the rest.
    grow_agrees :
        (bs : Bytes) (x : Parsed Piece) (k : Piece → Parser Bytes) (y : Piece) (t : Bytes) (q : ℕ) → Claim s s' r w (ok y t q) x → At s t q
        → ((v : Bytes) → k y v q ≡ grow bs (chars f clear v q)) → Claim s s' r w (grow bs (chars f clear t q)) (then x k)
    unfolding then
    grow_agrees bs x k y t q c h e = go (less_or_not (length r) (length t))
      where
        go : (length r < length t) ⊎ (length t ≤ length r) → Claim s s' r w (grow bs (chars f clear t q)) (then x k)
        go (inl l) =
            let z = c l in
            subst (Claim s s' r w (grow bs (chars f clear t q))) (sym (ap (λ z. then z k) z.1 ∙ e z.0)) (agree_grow bs (chars f clear t q) (chars f clear z.0 q) (clears t z.0 q h z.3 z.2))
        go (inr l) = parted (grow bs (chars f clear t q)) (then x k) h l (grown bs h)

    unit_agrees :
        (t u : Bytes) (at c : ℕ) (t' : Bytes) (q : ℕ) → At s t at → At s' u at → Alike r w t u → char t at ≡ ok (unit c) t' q
        → Claim s s' r w (ok (unit c) t' q) (char u at) → At s t' q → Claim s s' r w (after_char at (unit c) t' q) (then (char u at) (after_char at))
    unfolding then on_piece on_unit lone
    unit_agrees t u at c t' q h i a e k g =
        unit_law (λ x. Claim s s' r w x (then (char u at) (after_char at))) t' q (unit_of c) _ _ _
        (λ j. grow_agrees (utf8 c) (char u at) (after_char at) (unit c) t' q k g (λ v. ap (λ z. on_unit z (λ t q. grow (utf8 c) (chars f clear t q)) (λ t q. chars f (high c at) t q) (lone at) v q) j))
        (λ j. high_case j (less_or_not (length t') (length r)))
        (λ j d. let x = both t u at c t' q h i a e (omega (arith, d.0, six, at_length g)) in ap (λ z. then z (after_char at)) x.run ∙ ap (λ z. on_unit z (λ t q. grow (utf8 c) (chars f clear t q)) (λ t q. chars f (high c at) t q) (lone at) x.v q) j)
      where
        six : q ≡ at + 6
        six = unit_place s t at c t' q h e

        high_case : unit_of c ≡ High → (length t' < length r) ⊎ (length r ≤ length t') → Claim s s' r w (chars f (high c at) t' q) (then (char u at) (after_char at))
        high_case j (inl l) = high_parted at g six l (chars f (high c at) t' q) (then (char u at) (after_char at)) (chars_within s f (high c at) t' q g)
        high_case j (inr l) =
            let x = both t u at c t' q h i a e l in
            subst (Claim s s' r w (chars f (high c at) t' q)) (sym (ap (λ z. then z (after_char at)) x.run ∙ ap (λ z. on_unit z (λ t q. grow (utf8 c) (chars f clear t q)) (λ t q. chars f (high c at) t q) (lone at) x.v q) j))
            (highs c at t' x.v q g x.stands x.alike (λ no_pair low. no_pair (record {
              high = x.hs;
              low = low.low;
              rest = low.rest;
              begins = at_drop i ∙ x.is ∙ ap (spell_unit x.hs) low.begins;
              is_high = ap unit_of x.means ∙ j;
              is_low = low.is_low;
            })))

    clear_agrees : Agrees s s' r w (chars (suc f) clear)
    unfolding chars then on_piece give
    clear_agrees t u at h i a = go (char t at) refl (agree_char s s' r w stays_char t u at h i a) (char_within s t at h)
      where
        go : (x : Parsed Piece) → char t at ≡ x → Claim s s' r w x (char u at) → CharWithin s at x → Claim s s' r w (then x (after_char at)) (then (char u at) (after_char at))
        go (ok closing t' q) e c g = λ l. let z = c l in (z.0, ap (λ x. then x (after_char at)) z.1, z.2, z.3)
        go (ok (bytes bs) t' q) e c g = grow_agrees bs (char u at) (after_char at) (bytes bs) t' q c g.0 (λ v. refl)
        go (ok (unit n) t' q) e c g = unit_agrees t u at n t' q h i a e c g.0
        go (bad k p) e c g = λ d. ap (λ z. then z (after_char at)) (c d)

    -- ---- one more character, after a high surrogate
    abbrev after_high : ℕ → ℕ → Piece → Parser Bytes
    after_high v p₀ x =
        on_piece x (lone p₀) (λ bs. lone p₀) (λ c. on_unit (unit_of c) (lone p₀) (lone p₀) (λ t q. grow (utf8 (pair_of v c)) (chars f clear t q)))

    high_agrees : HighAgrees (suc f)
    unfolding chars or_lone on_piece on_unit lone
    high_agrees v p₀ t u at h i a no-low = go (char t at) (agree_char s s' r w stays_char t u at h i a) (char_within s t at h)
      where
        alone : Claim s s' r w (bad LoneSurrogate p₀) (chars (suc f) (high v p₀) u at)
        alone d = high_alone f v p₀ u at i (no-low d.1)

        go : (x : Parsed Piece) → Claim s s' r w x (char u at) → CharWithin s at x → Claim s s' r w (or_lone x p₀ (after_high v p₀)) (or_lone (char u at) p₀ (after_high v p₀))
        go (ok closing t' q) c g = alone
        go (ok (bytes bs) t' q) c g = alone
        go (ok (unit n) t' q) c g =
            unit_law (λ x. Claim s s' r w x (or_lone (char u at) p₀ (after_high v p₀))) t' q (unit_of n) _ _ _ (λ j. alone) (λ j. alone)
            (λ j. low j (less_or_not (length r) (length t')))
          where
            low : unit_of n ≡ Low → (length r < length t') ⊎ (length t' ≤ length r) → Claim s s' r w (grow (utf8 (pair_of v n)) (chars f clear t' q)) (or_lone (char u at) p₀ (after_high v p₀))
            low j (inl l) =
                let z = c l in
                subst (Claim s s' r w (grow (utf8 (pair_of v n)) (chars f clear t' q))) (sym (ap (λ z. or_lone z p₀ (after_high v p₀)) z.1 ∙ ap (λ x. on_unit x (lone p₀) (lone p₀) (λ t q. grow (utf8 (pair_of v n)) (chars f clear t q)) z.0 q) j))
                (agree_grow (utf8 (pair_of v n)) (chars f clear t' q) (chars f clear z.0 q) (clears t' z.0 q g.0 z.3 z.2))
            low j (inr l) = parted (grow (utf8 (pair_of v n)) (chars f clear t' q)) (or_lone (char u at) p₀ (after_high v p₀)) g.0 l (grown (utf8 (pair_of v n)) g.0)
        go (bad k p) c g = alone

  -- ---- strings and names
  agree_chars : (f : ℕ) → Agrees s s' r w (chars f clear) × HighAgrees f
  unfolding chars
  agree_chars zero = (λ t u at h i a d. refl, λ v p₀ t u at h i a l d. refl)
  agree_chars (suc f) = let x = agree_chars f in (clear_agrees f x.0 x.1, high_agrees f x.0 x.1)

  pub local_quoted : (f : ℕ) → Local s s' r w (quoted f)
  unfolding quoted
  local_quoted f = local_eat s s' r w (chars f clear) (record { stays = chars_within s f clear; agrees = (agree_chars f).0 })

  pub local_name : (f : ℕ) (seen : List Bytes) → Local s s' r w (name f seen)
  unfolding name
  local_name f seen =
      local_then s s' r w peek _ (local_peek s s' r w) (λ b. local_if s s' r w (eqb b 0x22) _ _
      (local_then s s' r w (quoted f) _ (local_quoted f) (λ n. local_if s s' r w (among n seen) _ _ (local_fail s s' r w Bytes RepeatedName)
      (local_eat s s' r w _ (local_white s s' r w _ (local_then s s' r w peek _ (local_peek s s' r w) (λ c. local_if s s' r w (eqb c 0x3A) _ _ (local_eat s s' r w _ (local_give s s' r w n)) (local_fail s s' r w Bytes NotJson)))))))
      (local_fail s s' r w Bytes NotJson))
