-- Two refusals with one number are one refusal, and no refusal has the number 0. Assumes nothing.
use Prim.Native.Nat.{ℕ}
use mathlib.Core.Path.{◌≡◌, refl, sym, ap, ◌∙◌}
use mathlib.Core.List.{List, [], ◌∷◌}
use native.Mathlib.Omega.{arith}
use lib.ListN.{get_or}
use Rattle.varint.specs.declared.refusal.Refusal.{Refusal}
use Rattle.varint.specs.declared.refusal.Refusal.TheVariants.{ShortWork, ShortSlip, Ends, Overlong, Nodes, Arcs, Place, Limit, ArcEnd, Minutes, Mark}
use Rattle.varint.specs.declared.refusal.Refusal.TheVariants.{Rest, Required, NoItem, NotStruck, BadSlip, BadClaim, ShortSheet, NotShelved, OtherMap, Full}
use Rattle.varint.specs.Refusal.{number_of}

-- the refusals by their numbers; `Full` stands where there is none
abbrev by_number : List Refusal
by_number =
    Full ∷ ShortWork ∷ ShortSlip ∷ Ends ∷ Overlong ∷ Nodes ∷ Arcs ∷ Place ∷ Limit ∷ ArcEnd ∷ Minutes ∷ Mark ∷ Rest ∷ Required ∷ Full ∷ NoItem ∷ NotStruck ∷ BadSlip
    ∷ BadClaim ∷ ShortSheet ∷ NotShelved ∷ Full ∷ OtherMap ∷ Full ∷ []

back : (w : Refusal) → get_or by_number (number_of w) Full ≡ w
back ShortWork = refl
back ShortSlip = refl
back Ends = refl
back Overlong = refl
back Nodes = refl
back Arcs = refl
back Place = refl
back Limit = refl
back ArcEnd = refl
back Minutes = refl
back Mark = refl
back Rest = refl
back Required = refl
back NoItem = refl
back NotStruck = refl
back BadSlip = refl
back BadClaim = refl
back ShortSheet = refl
back NotShelved = refl
back OtherMap = refl
back Full = refl

pub one_refusal : (v w : Refusal) → number_of v ≡ number_of w → v ≡ w
one_refusal v w e = sym (back v) ∙ ap (λ (n : ℕ). get_or by_number n Full) e ∙ back w

-- and none has the number 0
pub no_refusal : (w : Refusal) → number_of w ≡ 0 → ⊥
no_refusal w e = let q : 23 ≡ number_of w = ap number_of (sym (ap (λ (n : ℕ). get_or by_number n Full) e) ∙ back w) in omega (arith, e, q)
