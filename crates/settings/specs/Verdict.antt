-- What a check of eleven words answers.
use Rattle.std.specs.Prelude.{ℕ, List, Some, None, Ok, Err, Option, Result}
use Rattle.settings.specs.declared.words.Unlawful.{Unlawful}
use Rattle.settings.specs.Checks.{fail_code}

abbrev pub judged : List ℕ → Option ℕ → Result (List ℕ) Unlawful
judged ws None = Ok ws
judged ws (Some code) = Err (record { code = code })

-- the same words, or the code of the first check that fails
abbrev pub verdict : List ℕ → Result (List ℕ) Unlawful
verdict ws = judged ws (fail_code ws)
