-- `coder::sizes_fit` meets its contract.
use native.Mathlib.Omega.{arith}
use Rattle.std.proofs.lemmas.Bool.Decides.{nat_tests}
use Rattle.coder.specs.Segment.{sizes_fit}
use Rattle.coder.proofs.sizes_fit.Goals as goal

pub returns-then-bytes-n-le-LONGEST_MEMBER : goal.returns-then-bytes-n-le-LONGEST_MEMBER
unfolding sizes_fit
returns-then-bytes-n-le-LONGEST_MEMBER c = grind (arith, nat_tests)

pub returns-else-bytes-n-le-LONGEST_MEMBER : goal.returns-else-bytes-n-le-LONGEST_MEMBER
unfolding sizes_fit
returns-else-bytes-n-le-LONGEST_MEMBER c = grind (arith, nat_tests)
