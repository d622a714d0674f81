-- The keys of a list: a function, rank → key.
use Rattle.std.specs.Prelude.{ℕ}
use Rattle.buffer.specs.Strided.{strided32}
use Rattle.soundness.specs.declared.list.KeyList.{KeyList}
use Rattle.soundness.specs.Keys.{turned_keys}

abbrev pub keys_of : KeyList → ℕ → ℕ
keys_of list = strided32 list.bytes.now list.at list.step

-- with the bytes of each in the other order
abbrev pub turned_of : KeyList → ℕ → ℕ
turned_of list = turned_keys list.bytes.now list.at list.step
