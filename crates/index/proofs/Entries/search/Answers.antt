-- `Entries::search` meets its contract.
use Rattle.std.specs.Prelude.{◌≡◌, ◌+◌, ◌*◌, ◌-◌, ◌/◌, ◌<◌, true, false, List, ℕ, length, take, drop}
use Rattle.std.specs.Simd.{first_chunks}
use Rattle.std.specs.List.Sorted.{IsPartitionPoint}
use Rattle.std.proofs.Common.{rules, arith, ap, ◌∙◌, get_or-take, get_or-drop, length-take-le, length-drop}
use Rattle.std.proofs.lemmas.List.Sorted.{IsPartitionPoint-from_clause}
use Rattle.buffer.specs.Bytes.{byte}
use Rattle.index.proofs.SearchLaws.{searched, parted, below}
use Rattle.index.proofs.Entries.search.Goals as goal

pub returns : goal.returns
returns c =
    let x : List ℕ = c.args.self.now.bytes.now in
    let n : ℕ = c.args.self.now.count in
    let y : List ℕ = take (2 + 6 * n - 2) (drop 2 x) in
    let same : (k : ℕ) → k < 6 * n → byte y k ≡ byte x (2 + k) =
    λ k h. get_or-take (2 + 6 * n - 2) (drop 2 x) k 0 (omega arith) ∙ get_or-drop 2 x k 0 in
    let many : length y / 6 ≡ n = omega (arith, c.args.self.now.fits, length-take-le (2 + 6 * n - 2) (drop 2 x), length-drop 2 x) in
    let front : c.as_chunks.result.0.now ≡ first_chunks 6 n y = c.as_chunks.ensures.front ∙ ap (λ m. first_chunks 6 m y) many in
    let bound = c.partition_point.ensures.bound in
    let point : IsPartitionPoint (λ e. below c.args.key e ≡ true) (λ e. below c.args.key e ≡ false) c.as_chunks.result.0.now c.partition_point.result =
    IsPartitionPoint-from_clause (below c.args.key) c.as_chunks.result.0.now _ c.partition_point.ensures.partitioned
    (rw front (parted x y n c.args.key same c.args.self.now.rise)) (λ a r f k. search rules) in
    searched x y n c.args.key same c.args.self.now.rise (rw front at bound) (rw front at point)
