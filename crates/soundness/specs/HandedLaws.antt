-- Laws of what the soundness test answers, where a call refuses bytes that are no store by `ok_or`.
use Rattle.std.specs.Prelude.{ℕ, ◌≡◌, List, Option, Some, None, Ok, Err, ok_or, true, false}
use Rattle.std.proofs.Math.Path.{sym}
use Rattle.std.proofs.Common.{ap, ◌∙◌}
use Rattle.soundness.specs.declared.survey.Survey.{Survey}
use Rattle.soundness.specs.Handed.{SurveyOf}
use Rattle.soundness.specs.Survey.{Surveyed}
use Rattle.model.specs.Sound.{sound}

pub of_store : {E : Type 0} {s : List ℕ} (r : E) (o : Option Survey) {v : Survey} → SurveyOf s o → ok_or o r ≡ Ok v → v.store.now ≡ s
of_store r None h e = absurd (cc)
of_store r (Some w) {v} h e = let same : w ≡ v = cc in ap (λ x. x.store.now) (sym same) ∙ h

pub of_these : {E : Type 0} {s : List ℕ} (r : E) (o : Option Survey) {v : Survey} → SurveyOf s o → ok_or o r ≡ Ok v
    → Surveyed s true v.fills v.first_checks v.outs
of_these r o {v} h e = rw (of_store r o h e) at v.surveyed

pub none_of : {E : Type 0} (s : List ℕ) (r : E) (o : Option Survey) {e : E} → SurveyOf s o → ok_or o r ≡ Err e → (sound s ≡ false) × (e ≡ r)
none_of s r None h e = (h, cc)
none_of s r (Some w) h e = absurd (cc)
