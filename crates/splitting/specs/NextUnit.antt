-- A store in which a grow is granted: it is sized, and has room for the unit behind its last.
use Rattle.std.specs.Prelude.{ℕ, ◌≤◌, ◌<◌, ◌≡◌, refl, List}
use Rattle.std.proofs.Common.{◌∙◌, arith, leb-false}
use Rattle.std.proofs.lemmas.Bool.{not-false}
use Rattle.buffer.specs.Bytes.{byte}
use Rattle.model.specs.Layout.{view, units_in}
use Rattle.model.specs.StoreLaws.{units_of}
use Rattle.model.specs.Sound.{sound}
use Rattle.model.specs.Numbers.{Call, refusals_in, number_in}
use Rattle.model.specs.PerformLaws.{none_holds}
use Rattle.lookup.specs.Sized.{Sized}
use Rattle.lookup.specs.SizedLaws.{sound_sized}

pub next_unit : (s : List ℕ) {m : ℕ} → number_in s Call.grow ≡ 0 → m ≡ byte s 6 → Sized s × (1 ≤ m) × (m < 16)
unfolding number_in refusals_in
next_unit s {m} z em =
    let free = none_holds (sound s) (view s) Call.grow (number_in s Call.grow) refl z in
    let good = sound_sized (not-false (sound s) free.0) in
    (good, omega (arith, good.unit), omega (arith, em ∙ units_of s, leb-false 16 (units_in (view s)) free.1.0))
