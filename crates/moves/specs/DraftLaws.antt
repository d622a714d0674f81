-- Laws of a plan by value: its moves.
use Rattle.std.specs.Prelude.{◌≡◌, [], ℕ, ◌≤◌, ◌<◌, length, get_or, take}
use Rattle.std.proofs.Common.{sym, ap, ◌∙◌, arith, ext_get_or, get_or-take, length-take-le}
use borrow.Author.Tests.{lt-ltb}
use Rattle.buffer.specs.ChoiceLaws.{pick_true}
use Rattle.buffer.specs.Loops.{entries}
use Rattle.buffer.specs.RangeLaws.{length_entries, get_or_entries}
use Rattle.moves.specs.declared.plan.Plan.{Plan}
use Rattle.moves.specs.Moves.{no_move}
use Rattle.moves.specs.Drafts.{entry_of, moves_of}

pub length_moves : (p : Plan) → length (moves_of p) ≡ p.count
unfolding moves_of
length_moves p = length_entries p.count (entry_of p)

pub moves_none : (p : Plan) → p.count ≡ 0 → moves_of p ≡ []
unfolding moves_of entries
moves_none p none = ap (λ n. entries n (entry_of p)) none

pub get_or_moves : (p : Plan) (k : ℕ) → k < p.count → get_or (moves_of p) k no_move ≡ entry_of p k
unfolding moves_of
get_or_moves p k = get_or_entries p.count (entry_of p) k no_move

pub moves_take : (p : Plan) → length p.moves ≡ 64 → moves_of p ≡ take p.count p.moves
unfolding entry_of
moves_take p long =
    let within : p.count ≤ length p.moves = omega (arith, p.within) in
    ext_get_or no_move (moves_of p) (take p.count p.moves) (length_moves p ∙ sym (length-take-le p.count p.moves within)) (λ i l.
    let few : i < p.count = omega (arith, length_moves p) in
    get_or_moves p i few ∙ pick_true (lt-ltb i 64 (omega (arith, p.within))) _ no_move ∙ sym (get_or-take p.count p.moves i no_move few))
