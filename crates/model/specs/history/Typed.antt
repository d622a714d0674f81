-- What the types give, the only side condition of the theorems: a key has 32 bits, a slice holds bytes.
use Rattle.std.specs.Prelude.{ℕ, ◌<◌, List, [], ◌∷◌}
use Rattle.buffer.specs.Bytes.{byte}
use Rattle.model.specs.Numbers.{Call, by_kind}

abbrev pub Bytes : List ℕ → Type 0
Bytes x = (i : ℕ) → byte x i < 256

-- of a call: a key is below 2^32, and a field that is written holds bytes
abbrev pub Typed : Call → Type 0
Typed c =
    by_kind c (λ k x. (k < 4294967296) × Bytes x) (λ k. k < 4294967296) (λ k out. k < 4294967296) (λ k. k < 4294967296)
    (λ out. Unit {0}) (Unit {0}) (Unit {0})

abbrev pub AllTyped : List Call → Type 0
AllTyped [] = Unit {0}
AllTyped (c ∷ cs) = Typed c × AllTyped cs
