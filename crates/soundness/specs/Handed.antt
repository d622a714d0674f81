-- What the soundness test answers: nothing of bytes that are no sound store, and of a store its survey.
use Rattle.std.specs.Prelude.{ℕ, ◌≡◌, List, Option, Some, None, false}
use Rattle.soundness.specs.declared.survey.Survey.{Survey}
use Rattle.model.specs.Sound.{sound}

abbrev pub SurveyOf : List ℕ → Option Survey → Type 0
SurveyOf s None = sound s ≡ false
SurveyOf s (Some survey) = survey.store.now ≡ s
