-- The table's rows for read and list, of what their verdicts look at: the number of a call is the first that holds.
use Rattle.std.specs.Prelude.{ℕ, ◌*◌, ◌≡◌, Bool, not, List, [], ◌∷◌, eqb, ltb, leb, length}
use Rattle.group.specs.Widths.{field_bytes, slot_bytes}
use Rattle.model.specs.Layout.{Store, view}
use Rattle.model.specs.Reads.{home_in, listed_fill, listed_rank, key_beyond_in, lost_in, total_in}
use Rattle.model.specs.Sound.{sound}
use Rattle.model.specs.Numbers.{Call, first_of, refusals_in, number_in}

-- read of key k into n bytes
unfoldable pub read_number : Bool → Store → ℕ → ℕ → ℕ
read_number ok v k n =
    first_of (
    (eqb k 0, 2)
    ∷ (not (eqb n field_bytes), 2)
    ∷ (not ok, 1)
    ∷ (key_beyond_in v k, 8)
    ∷ (leb (listed_fill v (home_in v k)) (listed_rank v (home_in v k) k), 6)
    ∷ [])

-- list into n bytes
unfoldable pub list_number : Bool → Store → ℕ → ℕ
list_number ok v n = first_of ((not ok, 1) ∷ (lost_in v, 8) ∷ (ltb n (slot_bytes * total_in v), 7) ∷ [])

pub read_rows : (s : List ℕ) (ok : Bool) (k n : ℕ) (out : List ℕ) → ok ≡ sound s → n ≡ length out → read_number ok (view s) k n ≡ number_in s (Call.read k out)
unfolding number_in refusals_in read_number
read_rows s ok k n out e f = rw (e, f)

pub list_rows : (s : List ℕ) (ok : Bool) (n : ℕ) (out : List ℕ) → ok ≡ sound s → n ≡ length out → list_number ok (view s) n ≡ number_in s (Call.list out)
unfolding number_in refusals_in list_number
list_rows s ok n out e f = rw (e, f)
