-- The check records of a group after some of its check units have followed a write.
use Rattle.std.specs.Prelude.{ℕ, ◌/◌, ◌%◌, List, ◌&&◌, eqb, ltb}
use Rattle.buffer.specs.Choice.{pick}
use Rattle.group.specs.CheckRecord.{patched}
use Rattle.model.specs.Layout.{Store}

-- the record of unit u at rank r gets this key, and its field this change; the first n check units of u's group, those in service, have followed
unfoldable pub followed : ℕ → Store → ℕ → ℕ → List ℕ → List ℕ → ℕ → ℕ → List ℕ
followed n s u r key change c q =
    pick (eqb (c / 3) (u / 4) && eqb q r && eqb (s.cstate c) 1 && ltb (c % 3) n)
    (patched (c % 3) (u % 4) key change (s.check c q))
    (s.check c q)
