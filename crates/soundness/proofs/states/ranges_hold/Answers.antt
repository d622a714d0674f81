-- `soundness::states::ranges_hold` meets its contract: each test that fails is one of the ranges, and where none fails the last test decides.
use mathlib.Core.Bool.{false, and-false}
use mathlib.Core.List.{List}
use mathlib.Core.Path.{◌≡◌, refl, ap}
use Prim.Native.Nat.{ℕ, ◌<◌}
use native.Mathlib.Omega.{arith}
use lib.Dec.{leb}
use lib.ListN.{length}
use borrow.Author.Tests.{lt-leb}
use Rattle.buffer.specs.Bytes.{byte}
use Rattle.buffer.specs.TestLaws.{is_eq, is_ne, is_le, not_le}
use Rattle.model.specs.Sound.{ranges}
use Rattle.model.specs.Layout.{store_bytes}
use Rattle.soundness.proofs.states.ranges_hold.Goals as goal

-- bytes that have no room for the header have none for a store
too_short : (s : List ℕ) → length s < 36 → leb (store_bytes (byte s 5)) (length s) ≡ false
too_short s h = lt-leb (store_bytes (byte s 5)) (length s) (omega arith)

pub returns-then-s-lt-HEADER : goal.returns-then-s-lt-HEADER
unfolding ranges
returns-then-s-lt-HEADER c =
    simp (too_short c.args.s.now c.if-s-lt-HEADER.true, and-false)

pub returns-then-s-ne-VERSION : goal.returns-then-s-ne-VERSION
unfolding ranges
returns-then-s-ne-VERSION c =
    simp (is_ne refl refl c.if-s-ne-VERSION.true)

pub returns-then-load32-length : goal.returns-then-load32-length
unfolding ranges
returns-then-load32-length c =
    let width = ap (λ n. store_bytes n) c.from.ensures in
    simp (is_ne (c.load32.ensures) width c.if-load32-length.true, and-false)

pub returns-then-b-lt1 : goal.returns-then-b-lt1
unfolding ranges
returns-then-b-lt1 c =
    simp (not_le refl refl c.if-b-lt1.true, and-false)

pub returns-then-b-gt64 : goal.returns-then-b-gt64
unfolding ranges
returns-then-b-gt64 c =
    simp (not_le refl refl c.if-b-gt64.true, and-false)

pub returns-then-m-lt1 : goal.returns-then-m-lt1
unfolding ranges
returns-then-m-lt1 c =
    simp (not_le refl refl c.if-m-lt1.true, and-false)

pub returns-then-m-gt16 : goal.returns-then-m-gt16
unfolding ranges
returns-then-m-gt16 c =
    simp (not_le refl refl c.if-m-gt16.true, and-false)

pub returns-then-k-lt1 : goal.returns-then-k-lt1
unfolding ranges
returns-then-k-lt1 c =
    simp (not_le refl refl c.if-k-lt1.true, and-false)

pub returns-then-k-gt3 : goal.returns-then-k-gt3
unfolding ranges
returns-then-k-gt3 c =
    simp (not_le refl refl c.if-k-gt3.true, and-false)

pub returns : goal.returns
unfolding ranges
returns c =
    let width = c.from.ensures in
    rw (
      is_eq refl refl c.if-s-ne-VERSION.false,
      is_eq (c.load32.ensures) (ap (λ n. store_bytes n) width) c.if-load32-length.false,
      is_le refl refl c.if-b-lt1.false,
      is_le refl refl c.if-b-gt64.false,
      is_le refl refl c.if-m-lt1.false,
      is_le refl refl c.if-m-gt16.false,
      is_le refl refl c.if-k-lt1.false,
      is_le refl refl c.if-k-gt3.false,
    ) (ap (λ n. leb (store_bytes n) (length c.args.s.now)) width)
