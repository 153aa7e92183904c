-- Laws of stores in an area and of the words in it. Over any lists of numbers.
use Rattle.std.specs.Prelude.{◌≡◌, refl, List, [], ◌∷◌, ◌++◌, ℕ, suc, ◌+◌, ◌*◌, ◌-◌, ◌/◌, ◌%◌, ◌≤◌, ◌<◌, length, get_or, take, drop, set, replicate}
use Rattle.std.proofs.Common.{sym, ap, ◌∙◌, append_assoc, append-nil, arith, add-zero, add-suc, suc-add, add_assoc, div-add-mod', mod-eq_of_lt, add-one, length-append, length-take, length-drop, length-set, take-append-drop, drop_at, take_at, length-take-le, get_or-drop, get_or-take, get_or-set_other, get_or-append-add, take_all, take-suc-set, drop-set-lt}
use Rattle.std.proofs.Math.Nat.{div-div-eq-div-mul}
use Rattle.std.proofs.lemmas.List.{length-replicate, set_comm, take-set-le, drop-set-add}
use Rattle.std.proofs.Math.ListN.{get_or-append}
use Rattle.std.proofs.lemmas.List.Edits.{sets, sets-eq}
use Rattle.std.proofs.Math.Seq.{length-sets, take-set-lt, take-append_seam}
use Rattle.area.specs.Words.{word, word_at, zero_between, zero_from}

-- ---- runs of stores

pub sets_append : (xs ys d : List ℕ) (i : ℕ) → sets (sets d i xs) (i + length xs) ys ≡ sets d i (xs ++ ys)
sets_append [] ys d i = ap (λ (k : ℕ). sets d k ys) (add-zero i)
sets_append (x ∷ xs) ys d i =
    ap (λ (k : ℕ). sets (sets (set d i x) (suc i) xs) k ys) (add-suc i (length xs) ∙ sym (suc-add i (length xs)))
    ∙ sets_append xs ys (set d i x) (suc i)

set_sets : (ys d : List ℕ) (i j x : ℕ) → i < j → set (sets d j ys) i x ≡ sets (set d i x) j ys
set_sets [] d i j x h = refl
set_sets (y ∷ ys) d i j x h =
    set_sets ys (set d j y) i (suc j) x (omega arith)
    ∙ ap (λ (e : List ℕ). sets e (suc j) ys) (set_comm d j i y x (omega arith))

-- Stores at places apart can change places.
pub sets_comm : (xs ys d : List ℕ) (i j : ℕ) → i + length xs ≤ j → sets (sets d j ys) i xs ≡ sets (sets d i xs) j ys
sets_comm [] ys d i j h = refl
sets_comm (x ∷ xs) ys d i j h =
    ap (λ (e : List ℕ). sets e (suc i) xs) (set_sets ys d i j x (omega arith))
    ∙ sets_comm xs ys (set d i x) (suc i) j (omega arith)

-- The second part was stored first.
pub sets_before : (xs ys d : List ℕ) (i : ℕ) → sets (sets d (i + length xs) ys) i xs ≡ sets d i (xs ++ ys)
sets_before xs ys d i = sets_comm xs ys d i (i + length xs) (omega arith) ∙ sets_append xs ys d i

-- ---- what an area is after stores, before them and behind them

pub take_sets : (n : ℕ) (xs d : List ℕ) (i : ℕ) → i + length xs ≤ n → take n (sets d i xs) ≡ sets (take n d) i xs
take_sets n [] d i h = refl
take_sets n (x ∷ xs) d i h =
    take_sets n xs (set d i x) (suc i) (omega arith) ∙ ap (λ (e : List ℕ). sets e (suc i) xs) (take-set-lt n d i x (omega arith))

pub take_sets_before : (n : ℕ) (xs d : List ℕ) (i : ℕ) → n ≤ i → take n (sets d i xs) ≡ take n d
take_sets_before n [] d i h = refl
take_sets_before n (x ∷ xs) d i h = take_sets_before n xs (set d i x) (suc i) (omega arith) ∙ take-set-le n d i x h

pub drop_sets_behind : (n : ℕ) (xs d : List ℕ) (i : ℕ) → i + length xs ≤ n → drop n (sets d i xs) ≡ drop n d
drop_sets_behind n [] d i h = refl
drop_sets_behind n (x ∷ xs) d i h =
    drop_sets_behind n xs (set d i x) (suc i) (omega arith) ∙ drop-set-lt n d i x (omega arith)

pub drop_sets_add : (n : ℕ) (xs d : List ℕ) (i : ℕ) → drop n (sets d (n + i) xs) ≡ sets (drop n d) i xs
drop_sets_add n [] d i = refl
drop_sets_add n (x ∷ xs) d i =
    ap (λ (k : ℕ). drop n (sets (set d (n + i) x) k xs)) (sym (add-suc n i))
    ∙ drop_sets_add n xs (set d (n + i) x) (suc i)
    ∙ ap (λ (e : List ℕ). sets e (suc i) xs) (drop-set-add n d i x)

module _ (xs d : List ℕ) (i : ℕ) where
  pub drop_sets : i + length xs ≤ length d → drop i (sets d i xs) ≡ xs ++ drop (i + length xs) d
  drop_sets h =
      ap (drop i) (sets-eq xs d i h ∙ append_assoc (take i d) xs (drop (i + length xs) d))
      ∙ drop_at (take i d) (xs ++ drop (i + length xs) d) i (length-take-le i d (omega arith))

  -- What was stored stands there.
  pub get_d_sets : i + length xs ≤ length d → (k : ℕ) → k < length xs → get_or (sets d i xs) (i + k) 0 ≡ get_or xs k 0
  get_d_sets h k l =
      sym (get_or-drop i (sets d i xs) k 0) ∙ ap (λ (e : List ℕ). get_or e k 0) (drop_sets h)
      ∙ get_or-append xs (drop (i + length xs) d) 0 k l

  pub part_sets : i + length xs ≤ length d → take (length xs) (drop i (sets d i xs)) ≡ xs
  part_sets h = ap (take (length xs)) (drop_sets h) ∙ take-append_seam xs (drop (i + length xs) d)

pub get_d_sets_before : (xs d : List ℕ) (i k : ℕ) → k < i → get_or (sets d i xs) k 0 ≡ get_or d k 0
get_d_sets_before [] d i k h = refl
get_d_sets_before (x ∷ xs) d i k h =
    get_d_sets_before xs (set d i x) (suc i) k (omega arith) ∙ get_or-set_other d i k x 0 (omega arith)

pub get_d_sets_behind : (xs d : List ℕ) (i k : ℕ) → i + length xs ≤ k → get_or (sets d i xs) k 0 ≡ get_or d k 0
get_d_sets_behind [] d i k h = refl
get_d_sets_behind (x ∷ xs) d i k h =
    get_d_sets_behind xs (set d i x) (suc i) k (omega arith) ∙ get_or-set_other d i k x 0 (omega arith)

-- ---- words

pub length_word : (x : ℕ) → length (word x) ≡ 4
unfolding word
length_word x = refl

-- A word goes by the four bytes at its place.
pub word_at_same : (d e : List ℕ) (i j : ℕ) → ((k : ℕ) → k < 4 → get_or d (i + k) 0 ≡ get_or e (j + k) 0) → word_at d i ≡ word_at e j
unfolding word_at
word_at_same d e i j h =
    let z : get_or d i 0 ≡ get_or e j 0 = rw (add-zero i, add-zero j) at (h 0 (omega arith)) in
    rw (z, h 1 (omega arith), h 2 (omega arith), h 3 (omega arith))

spelled : (x y z w a b c d : ℕ) → x < 4294967296 → y * 256 + a ≡ x → z * 256 + b ≡ y → w * 256 + c ≡ z → (w < 256 → d ≡ w)
    → a + b * 256 + c * 65536 + d * 16777216 ≡ x
spelled x y z w a b c d h p q r t = let e : d ≡ w = t (omega arith) in omega arith

-- The four bytes of a number spell it.
pub word_at_word : (x : ℕ) (ys : List ℕ) → x < 4294967296 → word_at (word x ++ ys) 0 ≡ x
unfolding word word_at
word_at_word x ys h =
    let e : x / 65536 ≡ x / 256 / 256 = sym (div-div-eq-div-mul x 256 256) in
    let g : x / 16777216 ≡ x / 256 / 256 / 256 = sym (ap (λ (k : ℕ). k / 256) (div-div-eq-div-mul x 256 256) ∙ div-div-eq-div-mul x 65536 256) in
    rw (e, g) (spelled x (x / 256) (x / 256 / 256) (x / 256 / 256 / 256) (x % 256) (x / 256 % 256) (x / 256 / 256 % 256) (x / 256 / 256 / 256 % 256) h
    (div-add-mod' x 256) (div-add-mod' (x / 256) 256) (div-add-mod' (x / 256 / 256) 256) (λ l. mod-eq_of_lt l))

pub word_at_append : (xs ys : List ℕ) (k : ℕ) → word_at (xs ++ ys) (length xs + k) ≡ word_at ys k
word_at_append xs ys k =
    word_at_same (xs ++ ys) ys (length xs + k) k (λ j l. ap (λ (n : ℕ). get_or (xs ++ ys) n 0) (add_assoc (length xs) k j) ∙ get_or-append-add xs ys (k + j) 0)

pub word_at_front : (xs ys : List ℕ) (k : ℕ) → k + 4 ≤ length xs → word_at (xs ++ ys) k ≡ word_at xs k
word_at_front xs ys k h = word_at_same (xs ++ ys) xs k k (λ j l. get_or-append xs ys 0 (k + j) (omega arith))

pub word_at_drop : (n : ℕ) (d : List ℕ) (at : ℕ) → word_at (drop n d) at ≡ word_at d (n + at)
word_at_drop n d at =
    word_at_same (drop n d) d at (n + at) (λ j l. get_or-drop n d (at + j) 0 ∙ ap (λ (k : ℕ). get_or d k 0) (sym (add_assoc n at j)))

pub word_at_take : (n : ℕ) (d : List ℕ) (at : ℕ) → at + 4 ≤ n → word_at (take n d) at ≡ word_at d at
word_at_take n d at h = word_at_same (take n d) d at at (λ j l. get_or-take n d (at + j) 0 (omega arith))

-- A word in what was stored.
pub word_at_sets : (xs d : List ℕ) (i k : ℕ) → i + length xs ≤ length d → k + 4 ≤ length xs → word_at (sets d i xs) (i + k) ≡ word_at xs k
word_at_sets xs d i k h l =
    word_at_same (sets d i xs) xs (i + k) k (λ j m. ap (λ (n : ℕ). get_or (sets d i xs) n 0) (add_assoc i k j) ∙ get_d_sets xs d i h (k + j) (omega arith))

-- A word apart from what was stored.
pub word_at_sets_before : (xs d : List ℕ) (i at : ℕ) → at + 4 ≤ i → word_at (sets d i xs) at ≡ word_at d at
word_at_sets_before xs d i at h = word_at_same (sets d i xs) d at at (λ j l. get_d_sets_before xs d i (at + j) (omega arith))

pub word_at_sets_behind : (xs d : List ℕ) (i at : ℕ) → i + length xs ≤ at → word_at (sets d i xs) at ≡ word_at d at
word_at_sets_behind xs d i at h = word_at_same (sets d i xs) d at at (λ j l. get_d_sets_behind xs d i (at + j) (omega arith))

-- A word that was stored is read back.
pub word_read : (x : ℕ) (d : List ℕ) (at : ℕ) → x < 4294967296 → at + 4 ≤ length d → word_at (sets d at (word x)) at ≡ x
word_read x d at h l =
    ap (word_at (sets d at (word x))) (sym (add-zero at))
    ∙ word_at_sets (word x) d at 0 (rw length_word l) (rw length_word (omega arith))
    ∙ sym (word_at_front (word x) [] 0 (rw length_word (omega arith))) ∙ word_at_word x [] h

-- ---- zeros

pub length_zero_from : (n : ℕ) (d : List ℕ) → length (zero_from n d) ≡ length d
unfolding zero_from
length_zero_from n d = simp (length-append, length-take, length-replicate) (omega arith)

pub zero_from_none : (n : ℕ) (d : List ℕ) → length d ≤ n → zero_from n d ≡ d
unfolding zero_from
zero_from_none n d h =
    let e : length d - n ≡ 0 = omega arith in
    rw (e, take_all n d h) (append-nil d)

pub zero_from_all : (d : List ℕ) → zero_from 0 d ≡ replicate (length d) 0
unfolding zero_from
zero_from_all d = let e : length d - 0 ≡ length d = omega arith in rw e

pub take_zero_from : (n : ℕ) (d : List ℕ) → n ≤ length d → take n (zero_from n d) ≡ take n d
unfolding zero_from
take_zero_from n d h = take_at (take n d) (replicate (length d - n) 0) n (length-take-le n d h)

-- What is stored at the front, and zeros behind it.
pub zero_from_sets : (xs d : List ℕ) → length xs ≤ length d → zero_from (length xs) (sets d 0 xs) ≡ xs ++ replicate (length d - length xs) 0
unfolding zero_from
zero_from_sets xs d h = rw (length-sets, part_sets xs d 0 (omega arith))

-- One place more.
pub zero_from_more : (n : ℕ) (d : List ℕ) → n < length d → zero_from (n + 1) (set d n 0) ≡ zero_from n d
unfolding zero_from
zero_from_more n d h =
    let e : length d - n ≡ suc (length d - suc n) = omega arith in
    rw (add-one, length-set, take-suc-set d n 0 h, e) (append_assoc (take n d) (0 ∷ []) (replicate (length d - suc n) 0))

-- ---- zeros between two places

pub zero_between_none : (n m : ℕ) (d : List ℕ) → m - (m - length d) ≤ n → zero_between n m d ≡ d
unfolding zero_between
zero_between_none n m d h =
    ap (λ (e : List ℕ). e ++ drop m d) (zero_from_none n (take m d) (let k = length-take m d in omega arith)) ∙ take-append-drop m d

pub zero_between_more : (n m : ℕ) (d : List ℕ) → n < m → n < length d → zero_between (n + 1) m (set d n 0) ≡ zero_between n m d
unfolding zero_between
zero_between_more n m d l h =
    (λ i. zero_from (n + 1) (take-set-lt m d n 0 l i) ++ drop-set-lt m d n 0 l i)
    ∙ ap (λ (e : List ℕ). e ++ drop m d) (zero_from_more n (take m d) (let k = length-take m d in omega arith))

pub length_zero_between : (n m : ℕ) (d : List ℕ) → length (zero_between n m d) ≡ length d
unfolding zero_between
length_zero_between n m d = simp (length-append, length_zero_from, length-take, length-drop) (omega arith)

-- In front of the second place, and behind it.
pub take_zero_between : (n m : ℕ) (d : List ℕ) → m ≤ length d → take m (zero_between n m d) ≡ zero_from n (take m d)
unfolding zero_between
take_zero_between n m d h = take_at (zero_from n (take m d)) (drop m d) m (length_zero_from n (take m d) ∙ length-take-le m d h)

pub drop_zero_between : (n m : ℕ) (d : List ℕ) → m ≤ length d → drop m (zero_between n m d) ≡ drop m d
unfolding zero_between
drop_zero_between n m d h = drop_at (zero_from n (take m d)) (drop m d) m (length_zero_from n (take m d) ∙ length-take-le m d h)
