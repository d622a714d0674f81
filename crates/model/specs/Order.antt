-- Document 01: "The first condition that holds, in the order 2, 1, 3, 9, 4, 8, 5, 6, 7, gives the number". Document 02's numbers from 11 up come last. The
-- rows of every call, by the bytes of a store and by the ledger, stand in this order. What lay out looks at first is said in `LaysOut` of `Demand1`.
use Rattle.std.specs.Prelude.{ℕ, ◌≡◌, List, [], ◌∷◌, map, Bool, true, eqb, length}
use Rattle.buffer.specs.Choice.{pick}
use Rattle.model.specs.Layout.{Store}
use Rattle.model.specs.Numbers.{refusals_in}
use Rattle.model.specs.history.Ledger.{Ledger}
use Rattle.model.specs.history.Table.{refusals}
use Rattle.model.specs.history.Further.{further_refusals_in, further_refusals}
use Rattle.model.specs.history.Steps.{Step, call, further}

unfoldable pub table_order : List ℕ
table_order = 2 ∷ 1 ∷ 3 ∷ 9 ∷ 4 ∷ 8 ∷ 5 ∷ 6 ∷ 7 ∷ 11 ∷ []

-- the order for a call: the table's. A call with an order of its own gets a line here, and nowhere else.
unfoldable pub order_of : Step → List ℕ
order_of x = table_order

-- the numbers behind those at the front that are n
unfoldable pub behind : ℕ → List ℕ → List ℕ
behind n [] = []
behind n (m ∷ ms) = pick (eqb m n) (behind n ms) (m ∷ ms)

-- numbers in this order: first all that are its first number, if any, then the others by the rest of the order. A number that is not in it is in no order.
unfoldable pub in_order : List ℕ → List ℕ → Bool
in_order [] ms = eqb (length ms) 0
in_order (n ∷ ns) ms = in_order ns (behind n ms)

-- the rows of a call, by the bytes of a store and by the ledger
unfoldable pub rows_in : Bool → Store → Step → List (Bool × ℕ)
rows_in ok v (call c) = refusals_in ok v c
rows_in ok v (further a) = further_refusals_in ok v a

unfoldable pub rows_by : Ledger → Step → List (Bool × ℕ)
rows_by l (call c) = refusals l c
rows_by l (further a) = further_refusals l a

pub record Ordered (x : Step) : Type 0 where
  pub by_bytes : (ok : Bool) (v : Store) → in_order (order_of x) (map (λ row. row.1) (rows_in ok v x)) ≡ true
  pub by_ledger : (l : Ledger) → in_order (order_of x) (map (λ row. row.1) (rows_by l x)) ≡ true
