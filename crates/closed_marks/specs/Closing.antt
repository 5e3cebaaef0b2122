-- Marks that close certain items.
use Rattle.std.specs.Prelude.{ℕ, ◌<◌, ◌≡◌, Bool, true, List, length, get_or}
use Rattle.lists.specs.Lists.{pick, member}

-- each entry of the list has a place among 576 marks
abbrev pub Markable : List ℕ → Type 0
Markable list = (j : ℕ) → member j list ≡ true → j < 576

-- marks of 576 items: forbidden where the test says so, and open elsewhere
pub record Closing (closed : ℕ → Bool) (marks : List ℕ) : Type 0 where
  pub size : length marks ≡ 576
  pub each : (j : ℕ) → get_or marks j 0 ≡ pick (closed j) 2 0
