-- Rebuilding a body from four members of its group. Member m stands under column m of the matrix.
use Rattle.std.specs.Prelude.{ℕ, Bool, List, get_or}
use Rattle.code.specs.Weights.{weights_of}
use Rattle.group.specs.Body.{scale_body}
use Rattle.group.specs.Parity.{sum4}
use Rattle.group.specs.Members.{first_four}

-- four bodies, each times its weight, added up
unfoldable pub weighed : List ℕ → (ℕ → List ℕ) → List ℕ
weighed ws bodies = sum4 (λ i. scale_body (get_or ws i 0) (bodies i))

-- the body of place p, from what is held at the four columns cs: hold i at the i-th of them
abbrev pub rebuilt_from : List ℕ → (ℕ → List ℕ) → ℕ → List ℕ
rebuilt_from cs hold p = weighed (weights_of cs p) hold

-- the body of place p, from what the first four members in service hold; on tells who is in service
unfoldable pub rebuilt : (ℕ → Bool) → (ℕ → List ℕ) → ℕ → List ℕ
rebuilt on hold p = rebuilt_from (first_four on) (λ i. hold (get_or (first_four on) i 0)) p
