-- What a call leaves in the work by its refusal number, 0 where it finished: zeroed, or as found. `zero` is `zeroed` for numbers and `zeroed_bytes` for bytes.
use Rattle.std.specs.Prelude.{ℕ, Bool, ◌||◌, List, ltb, eqb}
use Rattle.lists.specs.Lists.{pick}

-- a finished call and refusals after 13 zero the work
unfoldable pub is_zeroed : ℕ → Bool
is_zeroed number = eqb number 0 || ltb 13 number

-- refusals 1 to 13 leave it as found
unfoldable pub left : {A : Type 0} → (List A → List A) → ℕ → List A → List A
left zero number work = pick (is_zeroed number) (zero work) work
