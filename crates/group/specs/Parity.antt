-- A group's four bodies at a column of the matrix, and the parity at a check place. Document 01: check unit j of a group (0 to 2) uses column 4 + j.
use Rattle.std.specs.Prelude.{ℕ, ◌+◌, List}
use Rattle.code.specs.Matrix.{entry}
use Rattle.group.specs.Body.{add_body, scale_body}

-- the coefficient of the data unit at place p in the check unit at place j
unfoldable pub coefficient : ℕ → ℕ → ℕ
coefficient p j = entry p (4 + j)

-- the sum over the four places of a group
unfoldable pub sum4 : (ℕ → List ℕ) → List ℕ
sum4 f = add_body (add_body (add_body (f 0) (f 1)) (f 2)) (f 3)

-- the four bodies at column c: their sum, each times its coefficient there
unfoldable pub body_at : ℕ → (ℕ → List ℕ) → List ℕ
body_at c bodies = sum4 (λ p. scale_body (entry p c) (bodies p))

-- the parity at check place j
unfoldable pub parity : ℕ → (ℕ → List ℕ) → List ℕ
parity j bodies = body_at (4 + j) bodies

-- a parity at check place j after the body of place p got this change (the sum of the old and the new body)
unfoldable pub adjusted : ℕ → ℕ → List ℕ → List ℕ → List ℕ
adjusted j p change old = add_body old (scale_body (coefficient p j) change)
