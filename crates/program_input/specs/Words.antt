-- What an error's words are in the text that the library prints of it: the system's words and behind them, as in " (os error 21)", the error's number.
-- Each is an `abbrev`, so that a caller's proof can use what it says. Assumes nothing.
use Rattle.std.specs.Prelude.{◌≡◌, ℕ, List, take, MatchOption, codes}
use Rattle.std.specs.declared.option.Option.{Option}
use Rattle.std.specs.Str.Pattern.{RFindsText}

-- what stands between an error's words and its number
abbrev pub number_mark : List ℕ
number_mark = codes " (os error "

-- words is what stands in text before the last such mark, and all of text where there is none
abbrev pub IsWords : List ℕ → List ℕ → Type 0
IsWords text words = (o : Option (ℕ × ℕ)) × RFindsText number_mark text o × MatchOption o (words ≡ text) (λ p. words ≡ take p.0 text)
