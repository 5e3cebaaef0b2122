-- Sets of small numbers as one number, a bit each.
use Rattle.std.specs.Prelude.{ℕ, ◌*◌, ◌/◌, ◌%◌, ◌^◌}

-- bit u of a set: 1 where it has u
abbrev pub bit_of : ℕ → ℕ → ℕ
bit_of set u = set / 2 ^ u % 2

-- the set of u alone, as 64 bits hold it
abbrev pub alone : ℕ → ℕ
alone u = 1 * 2 ^ u % 18446744073709551616
