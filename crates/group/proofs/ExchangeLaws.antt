-- Check place j has the coefficients of check place 0 with the places exchanged by pairs (`exchange`), so the parity there is that of the bodies so
-- exchanged, at check place 0 (`parity_exchanged`).
use Rattle.std.specs.Prelude.{ℕ, zero, suc, ◌<◌, ◌≡◌, refl, List, T, eqb}
use Rattle.std.proofs.Common.{sym, ap, ap₂, ◌∙◌, arith, eqb→eq}
use Rattle.std.specs.Int.Bits.{bit_xor, xor_self, xor_zero_r}
use Rattle.algebra.specs.Every.{every, every_at}
use Rattle.algebra.specs.Xor.{xor_assoc}
use Rattle.code.specs.Matrix.{matrix, entry}
use Rattle.group.specs.Body.{add_body, scale_body}
use Rattle.group.specs.BodyLaws.{add_comm, add_assoc}
use Rattle.group.specs.Parity.{coefficient, sum4, body_at, parity}
use Rattle.group.proofs.ParityLaws.{sum4_ext}

-- the places exchanged, as check place j wants them
abbrev pub exchanged : ℕ → ℕ → ℕ
exchanged j p = bit_xor p j

exchange_all : T (every 3 (λ j. every 4 (λ p. eqb (coefficient p j) (coefficient (exchanged j p) 0))))
unfolding every coefficient entry matrix
exchange_all = tt

-- the coefficient of a place in check place j is that of the exchanged place in check place 0
exchange : (j p : ℕ) → j < 3 → p < 4 → coefficient p j ≡ coefficient (exchanged j p) 0
exchange j p hj hp =
    eqb→eq (coefficient p j) (coefficient (exchanged j p) 0)
    (every_at 4 (λ q. eqb (coefficient q j) (coefficient (exchanged j q) 0))
    (every_at 3 (λ k. every 4 (λ q. eqb (coefficient q k) (coefficient (exchanged k q) 0))) exchange_all j hj) p hp)

exchanged_back : (j p : ℕ) → exchanged j (exchanged j p) ≡ p
exchanged_back j p = xor_assoc p j j ∙ ap (bit_xor p) (xor_self j) ∙ xor_zero_r p

-- a sum stays the same
sum4_exchanged : (j : ℕ) → j < 3 → (f : ℕ → List ℕ) → sum4 (λ p. f (exchanged j p)) ≡ sum4 f
unfolding sum4
sum4_exchanged zero l f = refl
sum4_exchanged (suc zero) l f =
    add_assoc (add_body (f 1) (f 0)) (f 3) (f 2)
    ∙ ap₂ add_body (add_comm (f 1) (f 0)) (add_comm (f 3) (f 2))
    ∙ sym (add_assoc (add_body (f 0) (f 1)) (f 2) (f 3))
sum4_exchanged (suc (suc zero)) l f =
    add_assoc (add_body (f 2) (f 3)) (f 0) (f 1)
    ∙ add_comm (add_body (f 2) (f 3)) (add_body (f 0) (f 1))
    ∙ sym (add_assoc (add_body (f 0) (f 1)) (f 2) (f 3))
sum4_exchanged (suc (suc (suc j))) l f = absurd (omega arith)

pub parity_exchanged : (j : ℕ) → j < 3 → (f : ℕ → List ℕ) → parity j f ≡ parity 0 (λ p. f (exchanged j p))
unfolding parity body_at coefficient
parity_exchanged j l f =
    sum4_ext (λ p. scale_body (coefficient p j) (f p)) (λ p. term (exchanged j p))
    (λ p q. ap₂ scale_body (exchange j p l q) (ap f (sym (exchanged_back j p))))
    ∙ sum4_exchanged j l term
  where
    term : ℕ → List ℕ
    term p = scale_body (coefficient p 0) (f (exchanged j p))
