-- Laws of parts and of parts replaced, over any place and width.
use Rattle.std.specs.Prelude.{◌≡◌, List, [], ◌∷◌, ◌++◌, ℕ, zero, suc, ◌+◌, ◌-◌, ◌≤◌, ◌<◌, length, take, drop, set}
use Rattle.std.proofs.Common.{sym, ap, ◌∙◌, append_assoc, append-nil, zero-add, suc-add, arith, add-one, length-append, length-take, length-drop, take-append-drop, drop_of_length-le, take_at, drop_at, take-take, take_all, take-add, drop-drop, length-take-le}
use Rattle.std.proofs.lemmas.List.{take-append-le, drop-append-le, set_split}
use Rattle.std.proofs.Math.Seq.{take-append-add, drop-append-add, take-nil}
use Rattle.buffer.specs.Bytes.{part, splice}

-- ---- lengths
pub length_part : (at n : ℕ) (s : List ℕ) → at + n ≤ length s → length (part at n s) ≡ n
unfolding part
length_part at n s h = length-take-le n (drop at s) (simp length-drop (omega arith))

pub length_splice : (at n : ℕ) (new s : List ℕ) → at + n ≤ length s → length new ≡ n → length (splice at n new s) ≡ length s
unfolding splice
length_splice at n new s h e = simp (length-append, length-take, length-drop) (omega arith)

-- ---- a part that is the whole
pub part_whole : (n : ℕ) (s : List ℕ) → length s ≤ n → part 0 n s ≡ s
unfolding part
part_whole n s h = take_all n s h

pub splice_whole : (n : ℕ) (new s : List ℕ) → length s ≤ n → splice 0 n new s ≡ new
unfolding splice
splice_whole n new s h = rw (drop_of_length-le s {i = n} h) (append-nil new)

-- ---- the first, and the second, of two lists
pub part_left : (at n : ℕ) (x y : List ℕ) → at + n ≤ length x → part at n (x ++ y) ≡ part at n x
unfolding part
part_left at n x y h = rw (drop-append-le at x y (omega arith), take-append-le n (drop at x) y (simp length-drop (omega arith)))

pub part_right : (m at n : ℕ) (x y : List ℕ) → length x ≡ m → part (m + at) n (x ++ y) ≡ part at n y
unfolding part
part_right m at n x y e = rw (← e, drop-append-add x y at)

pub part_seam : (n : ℕ) (x y : List ℕ) → length x ≡ n → part 0 n (x ++ y) ≡ x
unfolding part
part_seam n x y e = take_at x y n e

pub drop_right : (m at : ℕ) (x y : List ℕ) → length x ≡ m → drop (m + at) (x ++ y) ≡ drop at y
drop_right m at x y e = rw (← e) (drop-append-add x y at)

pub splice_left : (at n : ℕ) (new x y : List ℕ) → at + n ≤ length x → splice at n new (x ++ y) ≡ splice at n new x ++ y
unfolding splice
splice_left at n new x y h =
    rw (take-append-le at x y (omega arith), drop-append-le at x y (omega arith), drop-append-le n (drop at x) y (simp length-drop (omega arith)))
    (simp append_assoc)

pub splice_right : (m at n : ℕ) (new x y : List ℕ) → length x ≡ m → splice (m + at) n new (x ++ y) ≡ x ++ splice at n new y
unfolding splice
splice_right m at n new x y e = rw (← e, take-append-add x y at, drop-append-add x y at) (append_assoc x (take at y) (new ++ drop n (drop at y)))

-- ---- a part of a part
drop_take : (j m : ℕ) (l : List ℕ) → drop j (take (j + m) l) ≡ take m (drop j l)
drop_take zero m l = rw zero-add
drop_take (suc j) m [] = rw (suc-add, take-nil m)
drop_take (suc j) m (y ∷ l) = rw suc-add (drop_take j m l)

pub part_part : (at n o m : ℕ) (s : List ℕ) → o + m ≤ n → part o m (part at n s) ≡ part (at + o) m s
unfolding part
part_part at n o m s h =
    rw (same, drop_take o (m + (n - (o + m))) (drop at s), take-take m (m + (n - (o + m))) (drop o (drop at s)) (omega arith), drop-drop o at s)
  where
    same : n ≡ o + (m + (n - (o + m)))
    same = omega arith

-- two parts one behind the other
pub part_append : (at n m : ℕ) (s : List ℕ) → part at n s ++ part (at + n) m s ≡ part at (n + m) s
unfolding part
part_append at n m s = rw (← drop-drop n at s) (sym (take-add n m (drop at s)))

-- ---- a part before a splice, and a splice behind one
pub part_splice_before : (at n o m : ℕ) (new s : List ℕ) → at ≤ length s → o + m ≤ at → part o m (splice at n new s) ≡ part o m s
unfolding splice
part_splice_before at n o m new s h l =
    part_left o m (take at s) (new ++ drop n (drop at s)) (rw (length-take-le at s h) l)
    ∙ sym (part_left o m (take at s) (drop at s) (rw (length-take-le at s h) l))
    ∙ ap (part o m) (take-append-drop at s)

-- a part replaced twice
pub splice_again : (at n : ℕ) (x y s : List ℕ) → at ≤ length s → length y ≡ n → splice at n x (splice at n y s) ≡ splice at n x s
unfolding splice
splice_again at n x y s h e =
    rw (
      take_at (take at s) (y ++ drop n (drop at s)) at (length-take-le at s h),
      drop_at (take at s) (y ++ drop n (drop at s)) at (length-take-le at s h),
      drop_at y (drop n (drop at s)) n e,
    )

pub splice_next : (at n m : ℕ) (x y s : List ℕ) → at ≤ length s → length x ≡ n → splice (at + n) m y (splice at n x s) ≡ splice at (n + m) (x ++ y) s
unfolding splice
splice_next at n m x y s h e =
    rw (
      ← append_assoc (take at s) x (drop n (drop at s)),
      take_at (take at s ++ x) (drop n (drop at s)) (at + n) both,
      drop_at (take at s ++ x) (drop n (drop at s)) (at + n) both,
      drop-drop m n (drop at s),
    )
    (simp append_assoc)
  where
    both : length (take at s ++ x) ≡ at + n
    both = simp (length-append, length-take) (omega arith)

-- the same where the second part is replaced first
pub splice_before : (at n m : ℕ) (x y s : List ℕ) → at + n ≤ length s → splice at n x (splice (at + n) m y s) ≡ splice at (n + m) (x ++ y) s
unfolding splice
splice_before at n m x y s h =
    let front : length (take (at + n) s) ≡ at + n = length-take-le (at + n) s h in
    let rest : List ℕ = y ++ drop m (drop (at + n) s) in
    rw (
      take-append-le at (take (at + n) s) rest (omega arith),
      take-take at (at + n) s (omega arith),
      drop-drop n at (take (at + n) s ++ rest),
      drop_at (take (at + n) s) rest (at + n) front,
      ← drop-drop n at s,
      drop-drop m n (drop at s),
    )
    (simp append_assoc)

-- ---- a part as code lends it, from `at` to `at + n`: its bytes, its length, and the whole when the part is back
pub part_lent : (s : List ℕ) (at n to : ℕ) → at ≡ to → take (at + n - at) (drop at s) ≡ part to n s
unfolding part
part_lent s at n to e = let w : at + n - at ≡ n = omega arith in rw (w, e)

pub length_lent : (o : List ℕ) (at n : ℕ) → at + n ≤ length o → length (take (at + n - at) (drop at o)) ≡ n
length_lent o at n h = simp (length-take, length-drop) (omega arith)

pub put_lent : (o new : List ℕ) (at n : ℕ) → take at o ++ (new ++ drop (at + n - at) (drop at o)) ≡ splice at n new o
unfolding splice
put_lent o new at n = let w : at + n - at ≡ n = omega arith in rw w

-- one byte written is a part of one byte replaced
pub set_splice : (x : List ℕ) (i z : ℕ) → i < length x → set x i z ≡ splice i 1 (z ∷ []) x
unfolding splice
set_splice x i z h = set_split x i z h ∙ rw (drop-drop 1 i x, add-one)
