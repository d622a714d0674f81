-- Laws of lists of moves: the test of sameness is sameness, and what `==` says of moves and of lists of them.
use Rattle.std.specs.Prelude.{◌≡◌, refl, ℕ, Bool, true, ◌&&◌, List, eqb, length, get_or}
use Rattle.std.proofs.Common.{sym, ◌∙◌, ext_get_or, eq-eqb, eqb-true}
use Rattle.std.proofs.Math.Bool.{and_assoc}
use Rattle.std.proofs.lemmas.Slice.Eq.{slice_eq-Decides}
use Rattle.std.specs.Cmp.Lexicographic.{pointwise}
use Rattle.buffer.specs.TestLaws.{and-true, and_first, and_second, same_test}
use Rattle.buffer.specs.Range.{all}
use Rattle.buffer.specs.RangeLaws.{all_true, all_holds}
use Rattle.moves.specs.declared.Move.{Move}
use Rattle.moves.specs.contracts.MovePartialEq.TheImpl.{eq-value}
use Rattle.moves.specs.Moves.{no_move, same_move, same_moves}

same_move_lem : (a b : Move) → same_move a b ≡ true → a ≡ b
unfolding same_move
same_move_lem a b e =
    let s : Bool = eqb a.old_unit b.old_unit in
    let t : Bool = eqb a.old_rank b.old_rank in
    let u : Bool = eqb a.new_unit b.new_unit in
    let v : Bool = eqb a.new_rank b.new_rank in
    let three : (s && t && u) ≡ true = and_first (s && t && u) v e in
    let two : (s && t) ≡ true = and_first (s && t) u three in
    λ i. record {
      old_unit = eqb-true a.old_unit b.old_unit (and_first s t two) i;
      old_rank = eqb-true a.old_rank b.old_rank (and_second s t two) i;
      new_unit = eqb-true a.new_unit b.new_unit (and_second (s && t) u three) i;
      new_rank = eqb-true a.new_rank b.new_rank (and_second (s && t && u) v e) i;
    }

move_same : (a : Move) → same_move a a ≡ true
unfolding same_move
move_same a =
    let same : (n : ℕ) → eqb n n ≡ true = λ n. eq-eqb n n refl in
    rw (same a.old_unit, same a.old_rank, same a.new_unit, same a.new_rank)

pub same_moves_lem : (xs ys : List Move) → same_moves xs ys ≡ true → xs ≡ ys
unfolding same_moves
same_moves_lem xs ys e =
    let n = length xs in
    let each : ℕ → Bool = λ i. same_move (get_or xs i no_move) (get_or ys i no_move) in
    let long : n ≡ length ys = eqb-true n (length ys) (and_first (eqb n (length ys)) (all n each) e) in
    ext_get_or no_move xs ys long (λ k l. same_move_lem _ _ (all_true n each (and_second (eqb n (length ys)) (all n each) e) k l))

pub moves_same : (xs : List Move) → same_moves xs xs ≡ true
unfolding same_moves
moves_same xs = and-true (eq-eqb (length xs) (length xs) refl) (all_holds (length xs) _ (λ k l. move_same _))

-- the derived `==` is the test of sameness
derived : (a b : Move) → eq-value.it a b ≡ same_move a b
unfolding same_move
derived a b = simp and_assoc

pub slices_same : (xs ys : List Move) → pointwise eq-value.it xs ys ≡ same_moves xs ys
slices_same xs ys =
    let d = slice_eq-Decides (λ a b. (λ e. same_move_lem a b (sym (derived a b) ∙ e), λ e. derived a b ∙ rw e (move_same b))) xs ys _ refl in
    same_test (pointwise eq-value.it xs ys) (same_moves xs ys) (λ e. rw (d.0 e) (moves_same ys)) (λ e. d.1 (same_moves_lem xs ys e))
