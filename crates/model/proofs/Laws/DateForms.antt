-- DateForms: a text's shape is accepted exactly if it is of one of the nineteen forms.
use Rattle.std.specs.Prelude.{◌≡◌, refl, Bool, true, false, ◌&&◌, ◌||◌, not, cond, List, [], ◌∷◌, ◌++◌, map, ℕ, zero, suc, ◌+◌, ◌*◌, ◌-◌, ◌≤◌, T, eqb, leb, get_or, length, take, drop, ℤ, pos, negsuc, neg_ℤ, ◌+ℤ◌}
use Rattle.std.proofs.Common.{sym, ◌∙◌, ap, ap₂, subst, one-add, arith, le-leb, lt-ltb, ne_eqb, lit≤, T_not, leb→le, le→leb, eqb→eq}
use Rattle.std.proofs.Math.Bool.{and-true, and-false, or-false, and_assoc, or_assoc, and-or_distrib_left}
use Rattle.std.specs.Prelude.{Option, None, Some, option_map}
use Rattle.std.proofs.Math.Dec.{leb-zero, leb-suc-zero, leb-suc-suc, eqb-zero-suc, eqb-suc-zero, eqb-suc-suc}
use Rattle.model.specs.Bytes.{Bytes, ascii, byte, is_digit}
use Rattle.model.specs.Calendar.{date, day_number, is_valid, months, sum_first, year_start}
use Rattle.model.specs.DateForms.{day_forms, time_forms, forms, Mark, byte_that, fraction, is_sign, marks, digits_then, matches, is_of}
use Rattle.model.specs.DateText.{fits_byte, starts_like, like, max_fraction_digits, digit_run, digit_at, two_digits, year_in, month_in, date_in, last_of_year, last_of_month, midnight, day_text, offset_digits, to_utc, milliseconds, zoned, after_seconds, is_time, time_text, date_text, is_date, is_day}
use Rattle.model.specs.Instant.{in_range, ranged, ms_per_day, from_year0}
use Rattle.model.specs.Lists.{any, all}
use Rattle.model.specs.declared.refusal.Fault.TheVariants.{BadDate}
use Rattle.model.specs.Result.{Result, refuse, ◌>>=◌, required, provided, is_ok}
use Rattle.model.proofs.Laws.Calendar.{same_parts}
use Rattle.model.proofs.Laws.DateText.{begins_length, midnight_ok, ranged_ok, like_begins, unlike, milliseconds_bound}
use Rattle.model.proofs.Laws.Logic.{and_l, and_r, and_i, T→true, true→t, and_left_comm, or_mix, or_else, same_test}
use Rattle.model.specs.declared.Date.{Date}

pub nineteen : length forms ≡ 19
nineteen = refl

-- ---- the shapes of the definition as marks
abbrev shape_marks : Bytes → List Mark
shape_marks [] = []
shape_marks (p ∷ ps) = byte_that (fits_byte p) ∷ shape_marks ps

fits_begins : (p : Bytes) (l : List Mark) (s : Bytes) → matches (shape_marks p ++ l) s ≡ starts_like p s && matches l (drop (length p) s)
unfolding matches starts_like
fits_begins [] l s = refl
fits_begins (p ∷ ps) l [] = refl
fits_begins (p ∷ ps) l (x ∷ s) = ap (λ (b : Bool). fits_byte p x && b) (fits_begins ps l s) ∙ sym (and_assoc (fits_byte p x) (starts_like ps s) _)

fits_like : (p s : Bytes) → matches (shape_marks p) s ≡ like p s
unfolding matches starts_like
fits_like [] [] = refl
fits_like [] (x ∷ s) = rw (eqb-suc-zero (length s))
fits_like (p ∷ ps) [] = rw (eqb-zero-suc (length ps))
fits_like (p ∷ ps) (x ∷ s) =
    rw (eqb-suc-suc (length s) (length ps))
    (ap (λ (b : Bool). fits_byte p x && b) (fits_like ps s) ∙ and_left_comm (fits_byte p x) (eqb (length s) (length ps)) (starts_like ps s))

any_append : {A : Type 0} (f : A → Bool) (l r : List A) → any f (l ++ r) ≡ any f l || any f r
any_append f [] r = refl
any_append f (x ∷ l) r = ap (λ (b : Bool). f x || b) (any_append f l r) ∙ sym (or_assoc (f x) (any f l) (any f r))

-- Some list of marks fits.
abbrev fits_any : List (List Mark) → Bytes → Bool
fits_any l s = any (λ m. matches m s) l

any_begins : (p : Bytes) (l : List (List Mark)) (s : Bytes) → fits_any (map (λ m. shape_marks p ++ m) l) s ≡ starts_like p s && fits_any l (drop (length p) s)
any_begins p [] s = sym (and-false (starts_like p s))
any_begins p (m ∷ l) s =
    ap₂ ◌||◌ (fits_begins p m s) (any_begins p l s) ∙ sym (and-or_distrib_left (starts_like p s) (matches m (drop (length p) s)) (fits_any l (drop (length p) s)))

digits_none : (k : ℕ) (s : Bytes) → digits_then k (λ r. false) s ≡ false
unfolding digits_then
digits_none zero s = refl
digits_none (suc k) [] = refl
digits_none (suc k) (x ∷ s) = ap (λ (b : Bool). is_digit x && b) (digits_none k s) ∙ and-false (is_digit x)

digits_or : (k : ℕ) (f g : Bytes → Bool) (s : Bytes) → digits_then k f s || digits_then k g s ≡ digits_then k (λ r. f r || g r) s
unfolding digits_then
digits_or zero f g s = refl
digits_or (suc k) f g [] = refl
digits_or (suc k) f g (x ∷ s) =
    sym (and-or_distrib_left (is_digit x) (f s || digits_then k f s) (g s || digits_then k g s))
    ∙ ap (λ (b : Bool). is_digit x && b) (or_mix (f s) (digits_then k f s) (g s) (digits_then k g s) ∙ ap (λ (b : Bool). (f s || g s) || b) (digits_or k f g s))

any_digits : (l : List (List Mark)) (s : Bytes) → fits_any (map (λ m. fraction ∷ m) l) s ≡ digits_then max_fraction_digits (fits_any l) s
unfolding matches
any_digits [] s = sym (digits_none max_fraction_digits s)
any_digits (m ∷ l) s = ap (λ (b : Bool). digits_then max_fraction_digits (λ r. matches m r) s || b) (any_digits l s) ∙ digits_or max_fraction_digits (matches m) (fits_any l) s

-- ---- what the definition accepts, by its own tests
abbrev offsets : List Bytes
offsets = ascii "0" ∷ ascii "00" ∷ ascii "000" ∷ ascii "0000" ∷ ascii "0:00" ∷ ascii "00:00" ∷ []

is_offset : Bytes → Bool
is_offset r = any (λ p. like p r) offsets

is_zone : Bytes → Bool
is_zone z = like (ascii "") z || (like (ascii "Z") z || ((starts_like (ascii "+") z || starts_like (ascii "-") z) && is_offset (drop 1 z)))

is_tail : Bytes → Bool
is_tail t =
    cond (starts_like (ascii ".") t)
    ((leb 1 (digit_run (drop 1 t)) && leb (digit_run (drop 1 t)) max_fraction_digits) && is_zone (drop (1 + digit_run (drop 1 t)) t))
    (is_zone t)

abbrev time_shape : Bytes
time_shape = ascii "0000-00-00T00:00:00"

is_day_shape : Bytes → Bool
is_day_shape s = any (λ p. like p s) (ascii "0000" ∷ ascii "0000-00" ∷ ascii "0000-00-00" ∷ [])

is_shape : Bytes → Bool
is_shape s = cond (starts_like time_shape s) (is_tail (drop 19 s)) (is_day_shape s)

-- ---- it is the union of the forms
zone_marks : List (List Mark)
zone_marks = [] ∷ shape_marks (ascii "Z") ∷ map (λ p. byte_that is_sign ∷ shape_marks p) offsets

tail_marks : List (List Mark)
tail_marks = zone_marks ++ map (λ m. shape_marks (ascii ".") ++ m) (map (λ m. fraction ∷ m) zone_marks)

abbrev signed : Bytes → Bool
signed z = starts_like (ascii "+") z || starts_like (ascii "-") z

sign_fits : (p z : Bytes) → matches (byte_that is_sign ∷ shape_marks p) z ≡ signed z && like p (drop 1 z)
unfolding matches starts_like
sign_fits p [] = refl
sign_fits p (x ∷ z) =
    ap₂ (λ (b c : Bool). (b || c) && matches (shape_marks p) z) (sym (and-true (eqb (byte "+") x))) (sym (and-true (eqb (byte "-") x))) ∙ ap (λ (b : Bool). signed (x ∷ z) && b) (fits_like p z)

any_sign : (l : List Bytes) (z : Bytes) → fits_any (map (λ p. byte_that is_sign ∷ shape_marks p) l) z ≡ signed z && any (λ p. like p (drop 1 z)) l
any_sign [] z = sym (and-false (signed z))
any_sign (p ∷ l) z = ap₂ ◌||◌ (sign_fits p z) (any_sign l z) ∙ sym (and-or_distrib_left (signed z) (like p (drop 1 z)) (any (λ p. like p (drop 1 z)) l))

zone_fits : (z : Bytes) → fits_any zone_marks z ≡ is_zone z
unfolding zone_marks is_zone is_offset
zone_fits z = ap₂ ◌||◌ (fits_like (ascii "") z) (ap₂ ◌||◌ (fits_like (ascii "Z") z) (any_sign offsets z))

day_fits : (s : Bytes) → is_of day_forms s ≡ is_day_shape s
unfolding is_day_shape
day_fits s = ap₂ ◌||◌ (fits_like (ascii "0000") s) (ap₂ ◌||◌ (fits_like (ascii "0000-00") s) (ap (λ (b : Bool). b || false) (fits_like (ascii "0000-00-00") s)))

time_marks : (s : Bytes) → is_of time_forms s ≡ fits_any (map (λ m. shape_marks time_shape ++ m) tail_marks) s
unfolding zone_marks tail_marks
time_marks s = refl

-- A fraction's digits are all that stand there, as no digit follows them.
run_first : (f : Bytes → Bool) → ((x : ℕ) (s : Bytes) → T (is_digit x) → f (x ∷ s) ≡ false) → (s : Bytes) → 1 ≤ digit_run s → f s ≡ false
unfolding digit_run
run_first f h [] k = absurd (omega arith)
run_first f h (x ∷ s) k = go (is_digit x) refl k
  where
    go : (b : Bool) → is_digit x ≡ b → 1 ≤ cond b (suc (digit_run s)) 0 → f (x ∷ s) ≡ false
    go true e k = h x s (true→t (is_digit x) e)
    go false e k = absurd (omega arith)

run_join : (n k : ℕ) (a b c : Bool) → c ≡ (leb 1 n && leb n k) && b → (n ≡ 0 → a ≡ b) → (1 ≤ n → a ≡ false) → a || c ≡ leb n k && b
run_join zero k a b c e f g = rw (e, leb-zero k, f refl) (or-false b)
run_join (suc n) k a b c e f g = rw (e, g (omega arith), le-leb 1 (suc n) (omega arith))

digits_run : (f : Bytes → Bool) → ((x : ℕ) (s : Bytes) → T (is_digit x) → f (x ∷ s) ≡ false) → (k : ℕ) (s : Bytes)
    → digits_then k f s ≡ (leb 1 (digit_run s) && leb (digit_run s) k) && f (drop (digit_run s) s)
unfolding digits_then digit_run
digits_run f h zero s = go (digit_run s)
  where
    go : (n : ℕ) → false ≡ (leb 1 n && leb n 0) && f (drop n s)
    go zero = refl
    go (suc n) = rw (leb-suc-zero n, and-false)
digits_run f h (suc k) [] = refl
digits_run f h (suc k) (x ∷ s) =
    go (is_digit x) (run_join (digit_run s) k (f s) (f (drop (digit_run s) s)) (digits_then k f s) (digits_run f h k s) (λ e. ap (λ (n : ℕ). f (drop n s)) (sym e)) (run_first f h s))
  where
    go : (b : Bool) → f s || digits_then k f s ≡ leb (digit_run s) k && f (drop (digit_run s) s)
        → b && (f s || digits_then k f s) ≡ (leb 1 (cond b (suc (digit_run s)) 0) && leb (cond b (suc (digit_run s)) 0) (suc k)) && f (drop (cond b (suc (digit_run s)) 0) (x ∷ s))
    go true e = rw (le-leb 1 (suc (digit_run s)) (omega arith), leb-suc-suc (digit_run s) k) e
    go false e = refl

-- An offset begins with Z or a sign.
zone_first : (x : ℕ) (s : Bytes) → eqb (byte "Z") x ≡ false → eqb (byte "+") x ≡ false → eqb (byte "-") x ≡ false → is_zone (x ∷ s) ≡ false
unfolding is_zone starts_like
zone_first x s a b c = simp (eqb-suc-zero (length s), a, b, c, and-false)

zone_digit : (x : ℕ) (s : Bytes) → T (is_digit x) → is_zone (x ∷ s) ≡ false
zone_digit x s h =
    let a = leb→le 48 x (and_l (leb 48 x) (leb x 57) h) in
    let b = leb→le x 57 (and_r (leb 48 x) (leb x 57) h) in
    zone_first x s (ne_eqb 90 x (λ e. omega arith)) (ne_eqb 43 x (λ e. omega arith)) (ne_eqb 45 x (λ e. omega arith))

zone_dot : (t : Bytes) → T (starts_like (ascii ".") t) → is_zone t ≡ false
unfolding starts_like
zone_dot [] h = absurd h
zone_dot (x ∷ t) h =
    let a = eqb→eq 46 x (and_l (eqb 46 x) true h) in
    zone_first x t (ne_eqb 90 x (λ e. omega arith)) (ne_eqb 43 x (λ e. omega arith)) (ne_eqb 45 x (λ e. omega arith))

drop_one : (n : ℕ) (t : Bytes) → drop n (drop 1 t) ≡ drop (1 + n) t
drop_one zero [] = refl
drop_one (suc n) [] = rw (one-add (suc n))
drop_one n (x ∷ t) = rw (one-add n)

fraction_fits : (t : Bytes)
    → digits_then max_fraction_digits (fits_any zone_marks) (drop 1 t) ≡ (leb 1 (digit_run (drop 1 t)) && leb (digit_run (drop 1 t)) max_fraction_digits) && is_zone (drop (1 + digit_run (drop 1 t)) t)
fraction_fits t =
    digits_run (fits_any zone_marks) (λ x s h. zone_fits (x ∷ s) ∙ zone_digit x s h) max_fraction_digits (drop 1 t)
    ∙ ap (λ (b : Bool). (leb 1 (digit_run (drop 1 t)) && leb (digit_run (drop 1 t)) max_fraction_digits) && b) (zone_fits _ ∙ ap is_zone (drop_one (digit_run (drop 1 t)) t))

tail_fits : (t : Bytes) → fits_any tail_marks t ≡ is_tail t
unfolding is_tail tail_marks
tail_fits t =
    any_append (λ m. matches m t) zone_marks _
    ∙ (ap₂ ◌||◌ (zone_fits t) (any_begins (ascii ".") (map (λ m. fraction ∷ m) zone_marks) t ∙ ap (λ (b : Bool). starts_like (ascii ".") t && b) (any_digits zone_marks (drop 1 t) ∙ fraction_fits t))
    ∙ or_else (is_zone t) (starts_like (ascii ".") t) _ (zone_dot t))

form_is_shape : (s : Bytes) → is_of forms s ≡ is_shape s
unfolding is_shape is_day_shape
form_is_shape s =
    any_append (λ p. matches (marks false p) s) day_forms time_forms
    ∙ (ap₂ ◌||◌ (day_fits s) (time_marks s ∙ (any_begins time_shape tail_marks s ∙ ap (λ (b : Bool). starts_like time_shape s && b) (tail_fits (drop 19 s))))
    ∙ or_else (is_day_shape s) (starts_like time_shape s) (is_tail (drop 19 s)) no_day)
  where
    no_day : T (starts_like time_shape s) → is_day_shape s ≡ false
    no_day h =
        let e = begins_length time_shape s h in
        simp (unlike (ascii "0000") s (omega arith), unlike (ascii "0000-00") s (omega arith), unlike (ascii "0000-00-00") s (omega arith))

-- ---- a text of none of the forms is no date
cond_last : {A : Type 0} (b c : Bool) (o q v : A) → b || c ≡ false → (c ≡ false → q ≡ v) → cond b o q ≡ v
cond_last true c o q v e f = absurd (true→t false (sym e))
cond_last false c o q v e f = f e

offset_none : (r : Bytes) → is_offset r ≡ false → offset_digits r ≡ None
unfolding is_offset offset_digits
offset_none r e =
    cond_last (like (ascii "0") r) _ _ _ None e
    (λ e. cond_last (like (ascii "00") r) _ _ _ None e
    (λ e. cond_last (like (ascii "000") r) _ _ _ None e
    (λ e. cond_last (like (ascii "0000") r) _ _ _ None e
    (λ e. cond_last (like (ascii "0:00") r) _ _ _ None e
    (λ e. cond_last (like (ascii "00:00") r) _ _ _ None e
    (λ e. refl))))))

sign_none : (a b c : Bool) (f g : ℕ → ℤ) (o : Option ℕ) → (a || b) && c ≡ false → (c ≡ false → o ≡ None) → cond a (option_map f o) (cond b (option_map g o) None) ≡ None
sign_none true b c f g o e h = ap (option_map f) (h e)
sign_none false true c f g o e h = ap (option_map g) (h e)
sign_none false false c f g o e h = refl

zone_none : (z : Bytes) → is_zone z ≡ false → to_utc z ≡ None
unfolding is_zone to_utc
zone_none z e =
    cond_last (like (ascii "") z) _ _ _ None e
    (λ e. cond_last (like (ascii "Z") z) _ _ _ None e
    (λ e. sign_none (starts_like (ascii "+") z) (starts_like (ascii "-") z) (is_offset (drop 1 z)) _ _ _ e (offset_none (drop 1 z))))

zoned_bad : (u : ℕ) (z : Bytes) → is_zone z ≡ false → zoned u z ≡ refuse BadDate
zoned_bad u z e = rw (zone_none z e)

provided_bad : (b c : Bool) (r : Result ℤ) → b && c ≡ false → (c ≡ false → r ≡ refuse BadDate) → provided b BadDate r ≡ refuse BadDate
provided_bad true c r e f = f e
provided_bad false c r e f = refl

tail_bad : (u : ℕ) (t : Bytes) → is_tail t ≡ false → after_seconds u t ≡ refuse BadDate
unfolding is_tail after_seconds
tail_bad u t e = go (starts_like (ascii ".") t) e
  where
    n : ℕ
    n = digit_run (drop 1 t)

    c : Bool
    c = leb 1 n && leb n max_fraction_digits

    go : (b : Bool) → cond b (c && is_zone (drop (1 + n) t)) (is_zone t) ≡ false
        → cond b (provided c BadDate (zoned (u + milliseconds (take n (drop 1 t))) (drop (1 + n) t))) (zoned u t) ≡ refuse BadDate
    go true e = provided_bad c (is_zone (drop (1 + n) t)) _ e (zoned_bad (u + milliseconds (take n (drop 1 t))) (drop (1 + n) t))
    go false e = zoned_bad u t e

time_bad : (s : Bytes) → is_tail (drop 19 s) ≡ false → time_text s ≡ refuse BadDate
time_bad s e =
    let c = is_valid (date_in s) && is_time (two_digits s 11) (two_digits s 14) (two_digits s 17) in
    provided_bad c false _ (and-false c) (λ f. tail_bad _ (drop 19 s) e)

day_bad : (s : Bytes) → is_day_shape s ≡ false → day_text s ≡ refuse BadDate
unfolding is_day_shape day_text
day_bad s e =
    cond_last (like (ascii "0000") s) _ _ _ (refuse BadDate) e
    (λ e. cond_last (like (ascii "0000-00") s) _ _ _ (refuse BadDate) e
    (λ e. cond_last (like (ascii "0000-00-00") s) _ _ _ (refuse BadDate) e
    (λ e. refl)))

shape_bad : (s : Bytes) → is_shape s ≡ false → date_text s ≡ refuse BadDate
unfolding is_shape date_text
shape_bad s e = go (starts_like time_shape s) e
  where
    go : (b : Bool) → cond b (is_tail (drop 19 s)) (is_day_shape s) ≡ false → cond b (time_text s) (day_text s) ≡ refuse BadDate
    go true e = time_bad s e
    go false e = day_bad s e

-- ---- a text of one of the forms with a 1 for each digit is a date
-- A text with a 1 for each of its digits: of the same forms, and none of its numbers is out of bounds.
abbrev pub one_for : ℕ → ℕ
one_for x = cond (is_digit x) (byte "1") x

abbrev pub with_ones : Bytes → Bytes
with_ones [] = []
with_ones (x ∷ s) = one_for x ∷ with_ones s

ones_length : (s : Bytes) → length (with_ones s) ≡ length s
ones_length [] = refl
ones_length (x ∷ s) = ap suc (ones_length s)

ones_drop : (n : ℕ) (s : Bytes) → drop n (with_ones s) ≡ with_ones (drop n s)
ones_drop zero s = refl
ones_drop (suc n) [] = refl
ones_drop (suc n) (x ∷ s) = ones_drop n s

ones_digit : (x : ℕ) → is_digit (one_for x) ≡ is_digit x
ones_digit x = go (is_digit x) refl
  where
    go : (b : Bool) → is_digit x ≡ b → is_digit (cond b (byte "1") x) ≡ b
    go true e = refl
    go false e = e

ones_run : (s : Bytes) → digit_run (with_ones s) ≡ digit_run s
unfolding digit_run
ones_run [] = refl
ones_run (x ∷ s) = ap₂ (λ (b : Bool) (n : ℕ). cond b (suc n) 0) (ones_digit x) (ones_run s)

-- The bytes of the definition's shapes: 0, and what is no digit.
abbrev is_plain : ℕ → Bool
is_plain p = eqb p (byte "0") || not (is_digit p)

ones_byte : (p x : ℕ) → T (is_plain p) → fits_byte p (one_for x) ≡ fits_byte p x
ones_byte p x h = go (eqb p (byte "0")) h
  where
    other : (b : Bool) → is_digit x ≡ b → T (not (is_digit p)) → eqb p (cond b (byte "1") x) ≡ eqb p x
    other true e k =
        ne_eqb p 49 (λ f. T_not (is_digit p) k (subst (λ (q : ℕ). T (is_digit q)) (sym f) tt)) ∙ sym (ne_eqb p x (λ f. T_not (is_digit p) k (subst (λ (q : ℕ). T (is_digit q)) (sym f) (true→t (is_digit x) e))))
    other false e k = refl

    go : (b : Bool) → T (b || not (is_digit p)) → cond b (is_digit (one_for x)) (eqb p (one_for x)) ≡ cond b (is_digit x) (eqb p x)
    go true k = ones_digit x
    go false k = other (is_digit x) refl k

ones_begins : (p s : Bytes) → T (all is_plain p) → starts_like p (with_ones s) ≡ starts_like p s
unfolding starts_like
ones_begins [] s h = refl
ones_begins (p ∷ ps) [] h = refl
ones_begins (p ∷ ps) (x ∷ s) h = ap₂ ◌&&◌ (ones_byte p x (and_l (is_plain p) (all is_plain ps) h)) (ones_begins ps s (and_r (is_plain p) (all is_plain ps) h))

ones_like : (p s : Bytes) → T (all is_plain p) → like p (with_ones s) ≡ like p s
ones_like p s h = ap₂ (λ (n : ℕ) (b : Bool). eqb n (length p) && b) (ones_length s) (ones_begins p s h)

-- Where a shape has a 0, such a text has a 1.
ones_at : (p s : Bytes) (i : ℕ) → T (starts_like p s) → get_or p i 0 ≡ byte "0" → digit_at (with_ones s) i ≡ 1
unfolding starts_like
ones_at [] s i h e = absurd (omega arith)
ones_at (p ∷ ps) [] i h e = absurd h
ones_at (p ∷ ps) (x ∷ s) zero h e = rw (T→true (is_digit x) (subst (λ (q : ℕ). T (fits_byte q x)) e (and_l (fits_byte p x) (starts_like ps s) h)))
ones_at (p ∷ ps) (x ∷ s) (suc i) h e = ones_at ps s i (and_r (fits_byte p x) (starts_like ps s) h) e

ones_two : (p s : Bytes) (i : ℕ) → T (starts_like p s) → get_or p i 0 ≡ byte "0" → get_or p (i + 1) 0 ≡ byte "0" → two_digits (with_ones s) i ≡ 11
ones_two p s i h e f = rw (ones_at p s i h e, ones_at p s (i + 1) h f)

cond_pick : {A : Type 0} (P : A → Type 0) (b c : Bool) (o q : A) → (T b → P o) → (T c → P q) → T (b || c) → P (cond b o q)
cond_pick P true c o q f g h = f tt
cond_pick P false c o q f g h = g h

-- An offset is at most a day.
abbrev Near : Option ℕ → Type 0
Near None = ⊥
Near (Some k) = T (leb k ms_per_day)

offset_ones : (r : Bytes) → T (is_offset r) → Near (offset_digits (with_ones r))
unfolding is_offset offset_digits
offset_ones r h =
    simp (ones_like (ascii "0") r tt, ones_like (ascii "00") r tt, ones_like (ascii "000") r tt, ones_like (ascii "0000") r tt, ones_like (ascii "0:00") r tt, ones_like (ascii "00:00") r tt)
    (cond_pick Near (like (ascii "0") r) _ _ _ (λ k. let b = like_begins (ascii "0") r k in rw (ones_at (ascii "0") r 0 b refl) tt)
    (cond_pick Near (like (ascii "00") r) _ _ _ (λ k. let b = like_begins (ascii "00") r k in rw (ones_two (ascii "00") r 0 b refl refl) tt)
    (cond_pick Near (like (ascii "000") r) _ _ _ (λ k. let b = like_begins (ascii "000") r k in rw (ones_at (ascii "000") r 0 b refl, ones_two (ascii "000") r 1 b refl refl) tt)
    (cond_pick Near (like (ascii "0000") r) _ _ _ (λ k. let b = like_begins (ascii "0000") r k in rw (ones_two (ascii "0000") r 0 b refl refl, ones_two (ascii "0000") r 2 b refl refl) tt)
    (cond_pick Near (like (ascii "0:00") r) _ _ _ (λ k. let b = like_begins (ascii "0:00") r k in rw (ones_at (ascii "0:00") r 0 b refl, ones_two (ascii "0:00") r 2 b refl refl) tt)
    (cond_pick Near (like (ascii "00:00") r) _ _ _ (λ k. let b = like_begins (ascii "00:00") r k in rw (ones_two (ascii "00:00") r 0 b refl refl, ones_two (ascii "00:00") r 3 b refl refl) tt)
    (λ k. absurd k)))))) h)

abbrev NearZ : Option ℤ → Type 0
NearZ None = ⊥
NearZ (Some (pos k)) = T (leb k ms_per_day)
NearZ (Some (negsuc k)) = T (leb (suc k) ms_per_day)

sign_near : (a b c : Bool) (o : Option ℕ) → (T c → Near o) → T ((a || b) && c) → NearZ (cond a (option_map (λ k. neg_ℤ (pos k)) o) (cond b (option_map pos o) None))
sign_near true b c o f h = ahead o (f h)
  where
    ahead : (o : Option ℕ) → Near o → NearZ (option_map (λ k. neg_ℤ (pos k)) o)
    ahead None h = h
    ahead (Some zero) h = h
    ahead (Some (suc k)) h = h
sign_near false true c o f h = behind o (f h)
  where
    behind : (o : Option ℕ) → Near o → NearZ (option_map pos o)
    behind None h = h
    behind (Some k) h = h
sign_near false false c o f h = absurd h

zone_ones : (z : Bytes) → T (is_zone z) → NearZ (to_utc (with_ones z))
unfolding is_zone to_utc
zone_ones z h =
    simp (ones_like (ascii "") z tt, ones_like (ascii "Z") z tt, ones_begins (ascii "+") z tt, ones_begins (ascii "-") z tt, ones_drop 1 z)
    (cond_pick NearZ (like (ascii "") z) _ _ _ (λ k. tt)
    (cond_pick NearZ (like (ascii "Z") z) _ _ _ (λ k. tt)
    (sign_near (starts_like (ascii "+") z) (starts_like (ascii "-") z) (is_offset (drop 1 z)) (offset_digits (with_ones (drop 1 z))) (offset_ones (drop 1 z)))) h)

-- A time of the years that the 1s give, with an offset, is in range.
near_in_range : (u : ℕ) (c : ℤ) → ms_per_day ≤ u → u ≤ 60000000000000 → NearZ (Some c) → T (in_range (from_year0 u +ℤ c))
near_in_range u (pos k) low high h =
    let e = leb→le k ms_per_day h in
    let n = 62167219200000 - suc u in
    rw (lt-ltb u 62167219200000 (omega arith))
    (rw (lt-ltb k (suc n) (omega arith)) (and_i (leb (suc n - suc k) 62167219199999) true (le→leb (suc n - suc k) 62167219199999 (omega arith)) tt))
near_in_range u (negsuc k) low high h =
    let e = leb→le (suc k) ms_per_day h in
    let n = 62167219200000 - suc u in
    rw (lt-ltb u 62167219200000 (omega arith)) (and_i (leb (suc (n + k)) 62167219199999) true (le→leb (suc (n + k)) 62167219199999 (omega arith)) tt)

zoned_ones : (u : ℕ) (z : Bytes) → ms_per_day ≤ u → u ≤ 60000000000000 → T (is_zone z) → T (is_ok (zoned u (with_ones z)))
zoned_ones u z low high h = go (to_utc (with_ones z)) (zone_ones z h)
  where
    go : (o : Option ℤ) → NearZ o → T (is_ok (required BadDate o >>= λ c. ranged (from_year0 u +ℤ c)))
    go None k = absurd k
    go (Some c) k = rw (ranged_ok (from_year0 u +ℤ c) (near_in_range u c low high k)) tt

tail_ones : (u : ℕ) (t : Bytes) → ms_per_day ≤ u → u ≤ 50000000000000 → T (is_tail t) → T (is_ok (after_seconds u (with_ones t)))
unfolding is_tail after_seconds
tail_ones u t low high h = rw (ones_begins (ascii ".") t tt) (go (starts_like (ascii ".") t) h)
  where
    n : ℕ
    n = digit_run (drop 1 t)

    k : ℕ
    k = digit_run (drop 1 (with_ones t))

    same : k ≡ n
    same = ap digit_run (ones_drop 1 t) ∙ ones_run (drop 1 t)

    m : ℕ
    m = milliseconds (take k (drop 1 (with_ones t)))

    rest : drop (1 + k) (with_ones t) ≡ with_ones (drop (1 + n) t)
    rest = ones_drop (1 + k) t ∙ ap (λ (i : ℕ). with_ones (drop (1 + i) t)) same

    go : (b : Bool) → T (cond b ((leb 1 n && leb n max_fraction_digits) && is_zone (drop (1 + n) t)) (is_zone t))
        → T (is_ok (cond b (provided (leb 1 k && leb k max_fraction_digits) BadDate (zoned (u + m) (drop (1 + k) (with_ones t)))) (zoned u (with_ones t))))
    go true h =
        let few = and_l (leb 1 n && leb n max_fraction_digits) (is_zone (drop (1 + n) t)) h in
        let c = ap (λ (i : ℕ). leb 1 i && leb i max_fraction_digits) same ∙ T→true (leb 1 n && leb n max_fraction_digits) few in
        let z = and_r (leb 1 n && leb n max_fraction_digits) (is_zone (drop (1 + n) t)) h in
        let b = milliseconds_bound (drop 1 (with_ones t)) in
        rw c (subst (λ (x : Bytes). T (is_ok (zoned (u + m) x))) (sym rest) (zoned_ones (u + m) (drop (1 + n) t) (omega arith) (omega arith) z))
    go false h = zoned_ones u t low (omega arith) h

year_ones : (p s : Bytes) → T (starts_like (ascii "0000" ++ p) s) → year_in (with_ones s) ≡ 1111
year_ones p s h = rw (ones_two (ascii "0000" ++ p) s 0 h refl refl, ones_two (ascii "0000" ++ p) s 2 h refl refl)

month_ones : (p s : Bytes) → T (starts_like (ascii "0000-00" ++ p) s) → month_in (with_ones s) ≡ 11
month_ones p s h = ones_two (ascii "0000-00" ++ p) s 5 h refl refl

date_ones : (p s : Bytes) → T (starts_like (ascii "0000-00-00" ++ p) s) → date_in (with_ones s) ≡ date 1111 11 11
date_ones p s h =
    same_parts (date_in (with_ones s)) (date 1111 11 11) (year_ones (ascii "-00-00" ++ p) s h) (month_ones (ascii "-00" ++ p) s h) (ones_two (ascii "0000-00-00" ++ p) s 8 h refl refl)

abbrev Good : Result ℤ → Type 0
Good r = T (is_ok r)

midnight_good : (v w : Date) → v ≡ w → T (is_valid w) → w.year ≤ 9999 → Good (midnight v)
midnight_good v w e h k = rw (ap midnight e ∙ midnight_ok w h k) tt

day_ones : (s : Bytes) → T (is_day_shape s) → T (is_day (with_ones s))
unfolding is_day_shape day_text months
day_ones s h =
    simp (ones_like (ascii "0000") s tt, ones_like (ascii "0000-00") s tt, ones_like (ascii "0000-00-00") s tt)
    (cond_pick Good (like (ascii "0000") s) _ _ _ (λ k. midnight_good _ (last_of_year 1111) (ap last_of_year (year_ones [] s (like_begins (ascii "0000") s k))) tt (lit≤ tt))
    (cond_pick Good (like (ascii "0000-00") s) _ _ _
    (λ k. let b = like_begins (ascii "0000-00") s k in midnight_good _ (last_of_month 1111 11) (ap₂ last_of_month (year_ones (ascii "-00") s b) (month_ones [] s b)) tt (lit≤ tt))
    (cond_pick Good (like (ascii "0000-00-00") s) _ _ _ (λ k. midnight_good _ (date 1111 11 11) (date_ones [] s (like_begins (ascii "0000-00-00") s k)) tt (lit≤ tt))
    (λ k. absurd k))) h)

-- The rest of a text after its seconds.
abbrev after_time : Date → ℕ → ℕ → ℕ → Bytes → Result ℤ
after_time w h m c r = provided (is_valid w && is_time h m c) BadDate (after_seconds (day_number w * ms_per_day + ((h * 60 + m) * 60 + c) * 1000) r)

time_ones : (s : Bytes) → T (starts_like time_shape s) → T (is_tail (drop 19 s)) → Good (time_text (with_ones s))
unfolding months sum_first year_start
time_ones s h t =
    let e : time_text (with_ones s) ≡ after_time (date 1111 11 11) 11 11 11 (with_ones (drop 19 s)) =
    cc (date_ones (ascii "T00:00:00") s h, ones_two time_shape s 11 h refl refl, ones_two time_shape s 14 h refl refl, ones_two time_shape s 17 h refl refl, ones_drop 19 s) in
    rw e (tail_ones _ (drop 19 s) (lit≤ tt) (lit≤ tt) t)

shape_ones : (s : Bytes) → T (is_shape s) → T (is_date (with_ones s))
unfolding is_shape date_text
shape_ones s h = rw (ones_begins time_shape s tt) (go (starts_like time_shape s) refl h)
  where
    go : (b : Bool) → starts_like time_shape s ≡ b → T (cond b (is_tail (drop 19 s)) (is_day_shape s)) → Good (cond b (time_text (with_ones s)) (day_text (with_ones s)))
    go true e h = time_ones s (true→t _ e) h
    go false e h = day_ones s h

-- The 1s keep the shape.
offset_same : (r : Bytes) → is_offset (with_ones r) ≡ is_offset r
unfolding is_offset
offset_same r =
    simp (ones_like (ascii "0") r tt, ones_like (ascii "00") r tt, ones_like (ascii "000") r tt, ones_like (ascii "0000") r tt, ones_like (ascii "0:00") r tt, ones_like (ascii "00:00") r tt)

zone_same : (z : Bytes) → is_zone (with_ones z) ≡ is_zone z
unfolding is_zone
zone_same z =
    simp (ones_like (ascii "") z tt, ones_like (ascii "Z") z tt, ones_begins (ascii "+") z tt, ones_begins (ascii "-") z tt, ones_drop 1 z, offset_same (drop 1 z))

tail_same : (t : Bytes) → is_tail (with_ones t) ≡ is_tail t
unfolding is_tail
tail_same t = simp (ones_begins (ascii ".") t tt, ones_drop, ones_run, zone_same)

day_same : (s : Bytes) → is_day_shape (with_ones s) ≡ is_day_shape s
unfolding is_day_shape
day_same s = simp (ones_like (ascii "0000") s tt, ones_like (ascii "0000-00") s tt, ones_like (ascii "0000-00-00") s tt)

shape_same : (s : Bytes) → is_shape (with_ones s) ≡ is_shape s
unfolding is_shape
shape_same s = simp (ones_begins time_shape s tt, ones_drop 19 s, tail_same, day_same)

-- ---- the theorems
-- A text of none of the nineteen forms is refused as a bad date.
pub no_form_bad : (s : Bytes) → is_of forms s ≡ false → date_text s ≡ refuse BadDate
no_form_bad s e = shape_bad s (sym (form_is_shape s) ∙ e)

pub no_day_form_bad : (s : Bytes) → is_of day_forms s ≡ false → day_text s ≡ refuse BadDate
no_day_form_bad s e = day_bad s (sym (day_fits s) ∙ e)

-- A text is of one of the forms exactly if it is a date once a 1 stands for each of its digits: so a text of a form is refused only for its numbers.
pub form_exactly : (s : Bytes) → is_of forms s ≡ is_date (with_ones s)
form_exactly s = form_is_shape s ∙ same_test (is_shape s) (is_date (with_ones s)) (shape_ones s) (λ e. ap is_ok (shape_bad (with_ones s) (shape_same s ∙ e)))

pub day_form_exactly : (s : Bytes) → is_of day_forms s ≡ is_day (with_ones s)
day_form_exactly s = day_fits s ∙ same_test (is_day_shape s) (is_day (with_ones s)) (day_ones s) (λ e. ap is_ok (day_bad (with_ones s) (day_same s ∙ e)))
