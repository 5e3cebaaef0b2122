-- What opening an item does to the rows, as the code tells it.
use Rattle.std.specs.Prelude.{ℕ, ◌+◌, ◌*◌, ◌-◌, ◌≤◌, ◌<◌, ◌≡◌, ◌⊎◌, Bool, true, false, List, ltb, length, get_or, set}
use Rattle.std.specs.Int.Bits.{bit_or}
use Rattle.walks.specs.declared.arc.Arc.{Arc}
use Rattle.walks.specs.Graph.{closed_in}
use Rattle.rows.specs.Bits.{bit_of, alone}
use Rattle.rows.specs.Net.{Net, net_of, arc_count, tail_in, head_in, weight_in, Proper, Packed}
use Rattle.rows.specs.Rows.{RowIs, Away, Sound, StartOf, row_at, Tried, RowsAre, RowsSound, StartsOf}
use Rattle.row_spread.specs.Active.{Mendable}
use Rattle.row_reopen.specs.declared.Change as code
use Rattle.row_reopen.specs.declared.Change.TheVariants.{Node, Arc as OneArc}

-- a change: a node that is opened, or an arc with its ends and weight
pub record Change : Type 0 where
  pub node : Bool
  pub tail : ℕ
  pub head : ℕ
  pub weight : ℕ

abbrev pub change_of : Bool → ℕ → ℕ → ℕ → Change
change_of node u v w = record { node = node; tail = u; head = v; weight = w }

-- what the code hands on
abbrev pub change_is : code.Change → Change
change_is Node = change_of true 0 0 0
change_is (OneArc a) = change_of false a.tail a.head a.weight

abbrev pub arc_at : List Arc → ℕ → Change
arc_at xs l = change_of false (tail_in xs l) (head_in xs l) (weight_in xs l)

-- an arc that cuts no entry of the row d
abbrev pub Idle : ℕ → Change → List ℕ → Type 0
Idle cap C d = Tried cap d C.tail C.head C.weight

-- row i is kept from 3072 on as it was, and nothing but it and its kept copy is touched
pub record KeptRow (i : ℕ) (work after : List ℕ) : Type 0 where
  pub kept : (x : ℕ) → x < 64 → get_or after (3072 + i * 64 + x) 0 ≡ get_or work (i * 64 + x) 0
  pub other : (j : ℕ) → (j < i * 64) ⊎ (i * 64 + 64 ≤ j) → (j < 3072 + i * 64) ⊎ (3072 + i * 64 + 64 ≤ j) → get_or after j 0 ≡ get_or work j 0

-- What a change does to row i and to the rows that are kept, one bit each: nothing where it is an arc that cuts no entry; else the row is kept.
pub data Mends (i cap : ℕ) (C : Change) (kept : ℕ) (work : List ℕ) : List ℕ → ℕ → Type 0 where
  left : C.node ≡ false → Idle cap C (row_at work i) → Mends i cap C kept work work kept
  mended : {after : List ℕ} → (C.node ≡ false → Idle cap C (row_at work i) → ⊥) → KeptRow i work after
      → Mends i cap C kept work after (bit_or kept (alone i))

-- a row e that was mended for the change holds the least lengths, where the row d could be mended, or held them if the change cuts no entry
abbrev pub RowMended : ℕ → List Arc → List ℕ → ℕ → ℕ → Change → List ℕ → List ℕ → Type 0
RowMended cap ys marks s active C d e =
    (N : Net) → StartOf N ys marks s → Sound N cap s d → Mendable cap ys marks s active d → (C.node ≡ false → Idle cap C d → RowIs N cap s d)
    → RowIs N cap s e

-- What it does to the first n rows: those that are not kept are as they were, the kept ones are those that it cuts, and for a node all; and nothing but
-- these and their kept copies is touched.
pub record Saves (n cap : ℕ) (C : Change) (work after : List ℕ) (kept : ℕ) : Type 0 where
  pub same : (i : ℕ) → i < n → bit_of kept i ≡ 0 → (x : ℕ) → x < 64 → get_or after (i * 64 + x) 0 ≡ get_or work (i * 64 + x) 0
  pub copies : (i : ℕ) → i < n → bit_of kept i ≡ 1 → (x : ℕ) → x < 64 → get_or after (3072 + i * 64 + x) 0 ≡ get_or work (i * 64 + x) 0
  pub unkept : (i : ℕ) → bit_of kept i ≡ 0 → (x : ℕ) → x < 64 → get_or after (3072 + i * 64 + x) 0 ≡ get_or work (3072 + i * 64 + x) 0
  pub beside : (j : ℕ) → n * 64 ≤ j → j < 3072 → get_or after j 0 ≡ get_or work j 0
  pub none : (i : ℕ) → n ≤ i → bit_of kept i ≡ 0
  pub cuts : (i : ℕ) → i < n → bit_of kept i ≡ 1 → C.node ≡ false → Idle cap C (row_at work i) → ⊥
  pub nodes : C.node ≡ true → (i : ℕ) → i < n → bit_of kept i ≡ 1

-- the first n rows that are not kept: an arc, which cuts no entry of them
abbrev pub Spared : ℕ → ℕ → Change → List ℕ → ℕ → Type 0
Spared n cap C work kept = (i : ℕ) → i < n → bit_of kept i ≡ 0 → (C.node ≡ false) × Idle cap C (row_at work i)

-- the entries of the first n rows for nodes that no arc enters are as they were
abbrev pub RowsAway : ℕ → List Arc → List ℕ → List ℕ → List ℕ → Type 0
RowsAway n ys starts work after =
    (i : ℕ) → i < n → (v : ℕ) → v < 64 → Away ys (get_or starts i 0) v → get_or after (i * 64 + v) 0 ≡ get_or work (i * 64 + v) 0

-- a row of which the arc cuts no entry holds the least lengths as it is
abbrev pub Kept : Net → ℕ → Change → List ℕ → List ℕ → Type 0
Kept N cap C starts work = (i : ℕ) → i < length starts → C.node ≡ false → Idle cap C (row_at work i) → RowIs N cap (get_or starts i 0) (row_at work i)

-- the marks are those of a graph with item i opened, ys are the arcs that are open then, and the starts are nodes
pub record Opened (n : ℕ) (xs : List Arc) (old : List ℕ) (i : ℕ) (marks : List ℕ) (ys : List Arc) (starts : List ℕ) : Type 0 where
  pub proper : Proper (net_of n xs old)
  pub below : i < n + arc_count xs
  pub opened : marks ≡ set old i 0
  pub packed : Packed (net_of n xs marks) ys
  pub nodes : (j : ℕ) → j < length starts → get_or starts j 0 < n

-- each row can be mended from the active nodes on
abbrev pub RowsMendable : ℕ → List Arc → List ℕ → List ℕ → ℕ → List ℕ → Type 0
RowsMendable cap ys marks starts active work = (i : ℕ) → i < length starts → Mendable cap ys marks (get_or starts i 0) active (row_at work i)

-- the rows that were mended for the change hold the least lengths, the first n of them
abbrev pub RowsMendedTo : ℕ → ℕ → List Arc → List ℕ → List ℕ → ℕ → Change → List ℕ → List ℕ → Type 0
RowsMendedTo n cap ys marks starts active C work after =
    (N : Net) → StartsOf N ys marks starts → RowsSound N cap starts work → RowsMendable cap ys marks starts active work → Kept N cap C starts work
    → RowsAre N cap starts n after

abbrev pub RowsMended : ℕ → List Arc → List ℕ → List ℕ → ℕ → Change → List ℕ → List ℕ → Type 0
RowsMended cap ys marks starts active C work after = RowsMendedTo (length starts) cap ys marks starts active C work after

-- node v is active, so are the tails of those of the first m arcs that enter it, and no other is
pub record Entering (m : ℕ) (ys : List Arc) (v active : ℕ) : Type 0 where
  pub own : bit_of active v ≡ 1
  pub tails : (j : ℕ) → j < m → head_in ys j ≡ v → bit_of active (tail_in ys j) ≡ 1
  pub only : (x : ℕ) → (x ≡ v → ⊥) → ((j : ℕ) → j < m → head_in ys j ≡ v → tail_in ys j ≡ x → ⊥) → bit_of active x ≡ 0

-- What opening item i does: the rows hold the least lengths for the marks; for an arc exactly the rows that it cuts are kept as they were, for a node
-- all. An arc to a closed node changes nothing.
pub record ItemOpened (n : ℕ) (xs : List Arc) (i cap : ℕ) (marks : List ℕ) (ys : List Arc) (starts work after : List ℕ) (kept : ℕ) : Type 0 where
  pub rows : (old : List ℕ) → Opened n xs old i marks ys starts → RowsAre (net_of n xs old) cap starts (length starts) work
      → RowsAre (net_of n xs marks) cap starts (length starts) after
  pub saves : Saves (length starts) cap (change_of (ltb i n) (tail_in xs (i - n)) (head_in xs (i - n)) (weight_in xs (i - n))) work after kept
  pub away : RowsAway (length starts) ys starts work after
  pub spared : (n ≤ i → closed_in marks (head_in xs (i - n)) ≡ false)
      → Spared (length starts) cap (change_of (ltb i n) (tail_in xs (i - n)) (head_in xs (i - n)) (weight_in xs (i - n))) work kept
  pub shut : n ≤ i → closed_in marks (head_in xs (i - n)) ≡ true → kept ≡ 0
