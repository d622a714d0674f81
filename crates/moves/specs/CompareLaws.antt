-- A list compared, entry by entry, with the n moves that a function gives: those of a plan p are `entries p.count (entry_of p)`.
use Rattle.std.specs.Prelude.{◌≡◌, Bool, not, ◌&&◌, List, ℕ, ◌+◌, ◌≤◌, min, eqb, ltb, length, get_or, take}
use Rattle.std.proofs.Common.{sym, ap₂, ◌∙◌, arith, get_or-take, length-take-le, eqb-true, ltb-false}
use Rattle.std.proofs.Math.Bool.{and-true, and_assoc}
use Rattle.std.proofs.lemmas.Bool.{not-true}
use Rattle.buffer.specs.Loops.{entries}
use Rattle.buffer.specs.TestLaws.{and_ext}
use Rattle.buffer.specs.Range.{all}
use Rattle.buffer.specs.RangeLaws.{all_none, all_more, all_ext, length_entries, get_or_entries}
use Rattle.moves.specs.declared.Move.{Move}
use Rattle.moves.specs.Moves.{no_move, same_move, same_moves}
use Rattle.moves.specs.Drafts.{right_count}

-- what the comparison with the first c entries says after i of them
unfoldable pub agreed : List Move → ℕ → ℕ → (ℕ → Move) → ℕ → Bool
agreed l c n f i = right_count (length l) c n && all i (λ k. same_move (get_or l k no_move) (f k))

pub agreed_none : (l : List Move) (c n : ℕ) (f : ℕ → Move) → right_count (length l) c n ≡ agreed l c n f 0
unfolding agreed
agreed_none l c n f = rw all_none (sym (and-true _))

pub agreed_more : (l : List Move) (c n : ℕ) (f : ℕ → Move) (i : ℕ) → (agreed l c n f i && same_move (get_or l i no_move) (f i)) ≡ agreed l c n f (i + 1)
unfolding agreed
agreed_more l c n f i = rw all_more (and_assoc (right_count (length l) c n) (all i _) (same_move _ _))

pub agreed_all : (l : List Move) (c n : ℕ) (f : ℕ → Move) → agreed l c n f (min (length l) c)
    ≡ (not (ltb (length l) c) && same_moves (take c l) (entries n f))
unfolding agreed right_count same_moves
agreed_all l c n f =
    and_assoc (not (ltb (length l) c)) (eqb c n) _ ∙ and_ext (not (ltb (length l) c)) _ _ (λ t. within (ltb-false (length l) c (not-true _ t)))
  where
    listed : ℕ → Bool
    listed k = same_move (get_or (take c l) k no_move) (get_or (entries n f) k no_move)

    within : c ≤ length l → (eqb c n && all (min (length l) c) (λ k. same_move (get_or l k no_move) (f k)))
        ≡ (eqb (length (take c l)) (length (entries n f)) && all (length (take c l)) listed)
    within h =
        let least : min (length l) c ≡ c = omega arith in
        rw (least, length-take-le c l h, length_entries n f)
        (and_ext (eqb c n) _ _ (λ e.
        all_ext c _ listed (λ k q. ap₂ same_move (sym (get_or-take c l k no_move q)) (sym (get_or_entries n f k no_move (omega (arith, eqb-true c n e)))))))
