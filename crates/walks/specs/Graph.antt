-- Graphs, walks and least lengths (document 01, 'Map, walk, round': map, place, leg and minutes are graph, node, arc and weight here).
use Rattle.std.specs.Prelude.{ℕ, zero, suc, ◌+◌, ◌*◌, Bool, true, false, not, ◌&&◌, List, [], ◌∷◌, ◌++◌, map, get_or, length, eqb, ltb}
use Rattle.lists.specs.Lists.{member, every, span}
use Rattle.walks.specs.declared.arc.Arc.{Arc}
use Rattle.walks.specs.Lengths.{Least, none, some, lesser, within}

-- A map. Items are numbered once: the nodes 0, 1, .. and after them the arcs.
pub record Graph : Type 0 where
  pub nodes : ℕ
  pub arcs : List Arc

abbrev pub no_arc : Arc
no_arc = record { tail = 0; head = 0; weight = 0 }

unfoldable pub tail_of : Graph → ℕ → ℕ
tail_of G l = (get_or G.arcs l no_arc).tail

unfoldable pub head_of : Graph → ℕ → ℕ
head_of G l = (get_or G.arcs l no_arc).head

-- what an arc adds to the length of a walk
unfoldable pub weight_of : Graph → ℕ → ℕ
weight_of G l = (get_or G.arcs l no_arc).weight

-- the item number of an arc
unfoldable pub arc_item : Graph → ℕ → ℕ
arc_item G l = G.nodes + l

-- how many items there are
abbrev pub item_count : Graph → ℕ
item_count G = G.nodes + length G.arcs

-- an item is closed where its mark is 2 (shut)
abbrev pub closed_in : List ℕ → ℕ → Bool
closed_in marks i = eqb (get_or marks i 0) 2

-- A walk is a list of arc numbers.
-- it is a chain of arcs from a to b, each starting where the last ended
unfoldable pub chain : Graph → ℕ → ℕ → List ℕ → Bool
chain G a b [] = ltb a G.nodes && eqb a b
chain G a b (l ∷ w) = ltb a G.nodes && (ltb l (length G.arcs) && (eqb (tail_of G l) a && chain G (head_of G l) b w))

-- the items that it meets: its first node, and each arc with the arc's head
unfoldable pub items : Graph → ℕ → List ℕ → List ℕ
items G a [] = a ∷ []
items G a (l ∷ w) = a ∷ arc_item G l ∷ items G (head_of G l) w

-- the nodes that it touches, in order
unfoldable pub touched : Graph → ℕ → List ℕ → List ℕ
touched G a [] = a ∷ []
touched G a (l ∷ w) = a ∷ touched G (head_of G l) w

-- it is clear of what is closed
unfoldable pub clear : Graph → (ℕ → Bool) → ℕ → List ℕ → Bool
clear G closed a w = every (λ i. not (closed i)) (items G a w)

-- its length
unfoldable pub len : Graph → List ℕ → ℕ
len G [] = 0
len G (l ∷ w) = weight_of G l + len G w

-- it meets all goals, which are items
unfoldable pub meets : Graph → List ℕ → ℕ → List ℕ → Bool
meets G goals a w = every (λ g. member g (items G a w)) goals

-- a walk from a to b, clear of what is closed and meeting the goals
unfoldable pub fit : Graph → (ℕ → Bool) → List ℕ → ℕ → ℕ → List ℕ → Bool
fit G closed goals a b w = chain G a b w && (clear G closed a w && meets G goals a w)

-- the walks that begin with l and go on with a walk of f l, if the test passes
unfoldable pub begin : Bool → ℕ → (ℕ → List (List ℕ)) → List (List ℕ)
begin true l f = map (λ w. l ∷ w) (f l)
begin false l f = []

-- the same for each listed arc that leaves the node p
unfoldable pub onward : Graph → ℕ → (ℕ → List (List ℕ)) → List ℕ → List (List ℕ)
onward G p f [] = []
onward G p f (l ∷ ls) = begin (eqb (tail_of G l) p) l f ++ onward G p f ls

-- the chains of fewer than k arcs that start at p
unfoldable pub chains : Graph → ℕ → ℕ → List (List ℕ)
chains G zero p = []
chains G (suc k) p = [] ∷ onward G p (λ l. chains G k (head_of G l)) (span (length G.arcs) 0)

-- the least length among the listed walks that pass the test
unfoldable pub against : Bool → ℕ → Least → Least
against true a r = lesser (some a) r
against false a r = r

unfoldable pub least_of : Graph → (List ℕ → Bool) → List (List ℕ) → Least
least_of G ok [] = none
least_of G ok (w ∷ ws) = against (ok w) (len G w) (least_of G ok ws)

-- The least length of a walk from a to b that is clear of what is closed and meets the goals. Walks of fewer than nodes × (1 + goals) arcs are
-- looked at, and no other is shorter (`is_least`).
unfoldable pub least : Graph → (ℕ → Bool) → List ℕ → ℕ → ℕ → Least
least G closed goals a b = least_of G (fit G closed goals a b) (chains G (G.nodes * suc (length goals)) a)

-- some walk from s to t, clear of what is closed, meets the goals within the limit k
unfoldable pub fits : Graph → ℕ → ℕ → ℕ → (ℕ → Bool) → List ℕ → Bool
fits G s t k closed goals = within (least G closed goals s t) k
