-- What holds of every shelf that is reached: its slips are valid reasons, few, and none covers another; once there are slips the base is fixed; a put takes
-- no sheet away to which a slip applies; what ask finds is a round that the pass refuses; and the pass's own slips can be put. Assumes nothing.
use Prim.Native.Nat.{ℕ, ◌+◌, ◌≤◌, ◌<◌}
use mathlib.Core.Path.{◌≡◌, refl, sym, ap, ◌∙◌, subst}
use mathlib.Core.Logic.{◌⊎◌, inl, inr, ⊎_elim, ◌↔◌}
use mathlib.Core.Bool.{Bool, true, false, not, true≢false}
use mathlib.Core.List.{List, [], ◌∷◌, ◌++◌}
use native.Mathlib.Omega.{arith}
use lib.ListN.{length, length-append}
use lib.Dec.{ltb}
use borrow.Author.Tests.{ltb-true, lt-ltb, le-ltb}
use Rattle.lists.proofs.MemberLaws.{every_at}
use Rattle.lists.proofs.Pigeonhole.{keep_shrunk, Below, below_all}
use Rattle.lists.proofs.TestLaws.{and_true, not_true, true_or_false, false_of}
use Rattle.lists.specs.Lists.{pick, member, keep, add, any, Entry, here, there}
use Rattle.varint.proofs.VarintLaws.{after_got, got_both}
use Rattle.varint.specs.Varint.{got, refuse, after}
use Rattle.walks.specs.Graph.{item_count}
use Rattle.walks.specs.Walk.{NoWalk}
use Rattle.sheet.proofs.SheetLaws.{page_got, page_taken}
use Rattle.sheet.proofs.SlipLaws.{slip_read}
use Rattle.sheet.specs.Page.{Page, sheet_on}
use Rattle.sheet.specs.Reader.{page}
use Rattle.sheet.specs.Sheet.{Sheet}
use Rattle.sheet.specs.Slip.{Slip, read_slip}
use Rattle.pass_rules.specs.Pass.{Refuses}
use Rattle.reason_rules.proofs.Demand3.{Follows, blocks_again}
use Rattle.check_rules.proofs.CheckLaws.{check_exact, check_pass}
use Rattle.check_rules.specs.Check.{well_formed, holds, judged_on, check_on}
use Rattle.lists.proofs.EntryLaws.{entry_none, entry_one, entry_left, entry_right, entry_append, none_exact, keep_entry, entry_keep}
use Rattle.store_rules.proofs.PutLaws.{shelvable_exact, left, behind, Placed, Shelved, pick_got, put_by_check_yes, put_leads, reached_keeps}
use Rattle.store_rules.proofs.ShelfLaws.{applies_exact, subsumes_applies, same_base_exact, Earliest, earliest_exact, earliest_missing, fits_exact, fits_same}
use Rattle.store_rules.specs.Shelf.{Nogood, Base, Shelf, base_of, same_base, fits_base, subsumes, applies, nogood_of, Found, missing, found, earliest}
use Rattle.store_rules.specs.Store.{shelvable, placed, entered, put_in, put_slip, put_on, put_outcome, put, ask_in, ask_on, Reached}

-- a shelf with an entry is not without slips
entry_some : {k : Nogood} (K : Shelf) → Entry k K.slips → K.slips ≡ [] → ⊥
entry_some {k} K m e = entry_none (subst (λ (ks : List Nogood). Entry k ks) e m)

-- A slip is valid on a base: a first number of 1 to 3, at most 24 goals and reasons together, all of them items, and no walk clear of the reasons, all else
-- open, meets the goals within the slip's limit.
pub record Valid (B : Base) (k : Nogood) : Type 0 where
  pub low : 1 ≤ k.first
  pub high : k.first ≤ 3
  pub few : length k.goals + length k.reasons ≤ 24
  pub items : Below (item_count B.graph) (k.goals ++ k.reasons)
  pub blocks : NoWalk B.graph B.source B.target k.limit (λ j. member j k.reasons) k.goals

-- what a well-formed slip names are items
formed_items : (S : Sheet) (s : Slip) → well_formed S s ≡ true → Below (item_count S.graph) (s.goals ++ s.reasons)
unfolding well_formed
formed_items S s w =
    let n = item_count S.graph in
    below_all n (s.goals ++ s.reasons) (λ i m. ltb-true i n (every_at (λ i. ltb i n) (s.goals ++ s.reasons) i (and_true _ _ w).0 m))

-- the newcomer is valid, by check's rule
new_valid : {K : Shelf} {sheet slip : List ℕ} (p : Shelved K sheet slip) → Valid (base_of p.on) (nogood_of (sheet_on p.on).limit p.new)
unfolding base_of nogood_of check_on judged_on after
new_valid {K} {sheet} {slip} p =
    let f = slip_read slip p.new [] p.read in
    let t = page_taken sheet p.on p.took in
    let c : check_on sheet slip ≡ got true [] = rw (t, p.read, p.formed, p.fit.yes) in
    let n = p.fit.kind in
    record {
      low = f.0;
      high = omega (arith, f.1);
      few = p.fit.few;
      items = formed_items (sheet_on p.on) p.new p.formed;
      blocks = ((check_exact sheet (sheet_on p.on) t slip p.new p.read p.formed).0 c).reason;
    }

-- Every slip of a shelf that is reached is valid on its base.
pub reached_valid : {K : Shelf} → Reached K → (k : Nogood) → Entry k K.slips → Valid K.base k
reached_valid r = reached_keeps (λ K. (k : Nogood) → Entry k K.slips → Valid K.base k) (λ K e k m. absurd (entry_some K m e)) step r
  where
    step : (K : Shelf) (sheet slip : List ℕ) → ((k : Nogood) → Entry k K.slips → Valid K.base k) → (p : Shelved K sheet slip) (k : Nogood)
        → Entry k (left K (nogood_of (sheet_on p.on).limit p.new) ++ (nogood_of (sheet_on p.on).limit p.new ∷ [])) → Valid (base_of p.on) k
    step K sheet slip h p k m =
        let B : Base = base_of p.on in
        let new : Nogood = nogood_of (sheet_on p.on).limit p.new in
        let old : Entry k K.slips → Valid B k = λ z. subst (λ (B : Base). Valid B k) (sym ((same_base_exact K.base B).0 (fits_same K B p.fits (entry_some K z)))) (h k z) in
        ⊎_elim (λ z. old (keep_entry (λ k. not (subsumes new k)) K.slips z).0) (λ z. subst (λ (k : Nogood). Valid B k) (sym (entry_one z)) (new_valid p))
        (entry_append (left K new) m)

-- none of the slips covers another
abbrev pub Apart : List Nogood → Type 0
Apart [] = Unit {0}
Apart (k ∷ ks) = ((j : Nogood) → Entry j ks → (subsumes k j ≡ false) × (subsumes j k ≡ false)) × Apart ks

apart_keep : (f : Nogood → Bool) (ks : List Nogood) → Apart ks → Apart (keep f ks)
unfolding keep add
apart_keep f [] a = tt
apart_keep f (k ∷ ks) a = go (f k) (apart_keep f ks a.1)
  where
    go : (t : Bool) → Apart (keep f ks) → Apart (add t k (keep f ks))
    go true b = (λ j m. a.0 j (keep_entry f ks m).0, b)
    go false b = b

apart_last : (ks : List Nogood) (new : Nogood) → Apart ks → ((j : Nogood) → Entry j ks → (subsumes j new ≡ false) × (subsumes new j ≡ false)) → Apart (ks ++ (new ∷ []))
apart_last [] new a h = (λ j m. absurd (entry_none m), tt)
apart_last (k ∷ ks) new a h = (λ j m. ⊎_elim (a.0 j) (one j) (entry_append ks m), apart_last ks new a.1 (λ j m. h j (there m)))
  where
    one : (j : Nogood) → Entry j (new ∷ []) → (subsumes k j ≡ false) × (subsumes j k ≡ false)
    one j m = subst (λ (j : Nogood). (subsumes k j ≡ false) × (subsumes j k ≡ false)) (sym (entry_one m)) (h k here)

-- A shelf that is reached has at most 64 slips, and none of them covers another.
pub reached_few : {K : Shelf} → Reached K → (length K.slips ≤ 64) × Apart K.slips
reached_few r =
    reached_keeps (λ K. (length K.slips ≤ 64) × Apart K.slips) (λ K e. subst (λ (ks : List Nogood). (length ks ≤ 64) × Apart ks) (sym e) (omega arith, tt))
    (λ K sheet slip h p. step K (nogood_of (sheet_on p.on).limit p.new) h.1 p.placed) r
  where
    step : (K : Shelf) (new : Nogood) → Apart K.slips → Placed K new → (length (left K new ++ (new ∷ [])) ≤ 64) × Apart (left K new ++ (new ∷ []))
    step K new a p = (simp length-append (omega arith), apart_last (left K new) new (apart_keep (λ k. not (subsumes new k)) K.slips a) apart)
      where
        apart : (j : Nogood) → Entry j (left K new) → (subsumes j new ≡ false) × (subsumes new j ≡ false)
        apart j m =
            let s = keep_entry (λ k. not (subsumes new k)) K.slips m in
            ((none_exact (λ k. subsumes k new) K.slips).0 p.alone j s.0, not_true (subsumes new j) s.1)

append_some : (ks : List Nogood) (k : Nogood) → ks ++ (k ∷ []) ≡ [] → ⊥
append_some [] k e = let z : ◌≡◌ {A = ℕ} 0 1 = cc in omega arith
append_some (j ∷ ks) k e = let z : ◌≡◌ {A = ℕ} 0 1 = cc in omega arith

-- L is for the base of K and not without slips
pub record Fixed (K L : Shelf) : Type 0 where
  pub base : L.base ≡ K.base
  pub some : L.slips ≡ [] → ⊥

-- A shelf with slips stays for its base, and with slips,
pub put_fixed : (K : Shelf) → (K.slips ≡ [] → ⊥) → (sheet work slip : List ℕ) → Fixed K (put K sheet work slip).shelf
put_fixed K n sheet work slip =
    put_leads (Fixed K) K sheet slip (record { base = refl; some = n })
    (λ p. record {
      base = (same_base_exact K.base (base_of p.on)).0 (fits_same K (base_of p.on) p.fits n);
      some = append_some (left K (nogood_of (sheet_on p.on).limit p.new)) (nogood_of (sheet_on p.on).limit p.new);
    })
    work

-- the shelves that puts lead to from K
pub data Onward (K : Shelf) : Shelf → Type 0 where
  stays : Onward K K
  puts : {L : Shelf} → Onward K L → (sheet work slip : List ℕ) → Onward K (put L sheet work slip).shelf

-- after any number of puts.
pub reached_fixed : {K L : Shelf} → (K.slips ≡ [] → ⊥) → Onward K L → Fixed K L
reached_fixed n stays = record { base = refl; some = n }
reached_fixed n (puts {L} o sheet work slip) =
    let f = reached_fixed n o in
    let g = put_fixed L f.some sheet work slip in
    record { base = g.base ∙ f.base; some = g.some }

-- The base of a reached shelf with slips is that of a sheet which was put, so that 22 tells what the sheets say apart (`same_base_lem`).
pub reached_base : {K : Shelf} → Reached K → (K.slips ≡ [] → ⊥) → (P : Page) × (sheet : List ℕ) × (page sheet ≡ got P []) × (K.base ≡ base_of P)
reached_base r =
    reached_keeps (λ K. (K.slips ≡ [] → ⊥) → (P : Page) × (sheet : List ℕ) × (page sheet ≡ got P []) × (K.base ≡ base_of P)) (λ K e n. absurd (n e))
    (λ K sheet slip h p n. (p.on, sheet, p.took, refl)) r

-- some slip of the shelf applies to the sheet
abbrev pub SomeApplies : Shelf → Sheet → Type 0
SomeApplies K S = (k : Nogood) × Entry k K.slips × (applies k S ≡ true)

-- Where a slip of the shelf applies to a sheet, one does after any put.
pub put_keeps : (K : Shelf) (sheet work slip : List ℕ) (T : Sheet) → SomeApplies K T → SomeApplies (put K sheet work slip).shelf T
put_keeps K sheet work slip T w =
    put_leads (λ L. SomeApplies L T) K sheet slip w (λ p. go (nogood_of (sheet_on p.on).limit p.new) (true_or_false (subsumes (nogood_of (sheet_on p.on).limit p.new) w.0))) work
  where
    go : (new : Nogood) → (subsumes new w.0 ≡ true) ⊎ (subsumes new w.0 ≡ false) → (k : Nogood) × Entry k (left K new ++ (new ∷ [])) × (applies k T ≡ true)
    go new (inl q) = (new, entry_right (left K new) here, subsumes_applies new w.0 T q w.2)
    go new (inr q) = (w.0, entry_left (new ∷ []) (entry_keep (λ k. not (subsumes new k)) K.slips w.1 (ap not q)), w.2)

module _ (K : Shelf) (sheet : List ℕ) (P : Page) (a : page sheet ≡ got P []) where
  asked : fits_base K (base_of P) ≡ true → ask_on K sheet ≡ got (earliest (λ k. applies k (sheet_on P)) K.slips) []
  unfolding ask_on ask_in after
  asked f = rw (a, f)

  -- a shelf without slips has none that applies
  pub ask_empty : K.slips ≡ [] → ask_on K sheet ≡ got missing []
  unfolding earliest
  ask_empty e = asked ((fits_exact K (base_of P)).1 (inl e)) ∙ ap (λ (ks : List Nogood). got (earliest (λ k. applies k (sheet_on P)) ks) []) e

  -- one with slips refuses a sheet of another map, of other service minutes, source or target
  pub ask_other : (K.slips ≡ [] → ⊥) → same_base K.base (base_of P) ≡ false → ask_on K sheet ≡ refuse 22
  unfolding ask_on ask_in after
  ask_other n d = let z : fits_base K (base_of P) ≡ false = false_of (fits_base K (base_of P)) (λ f. true≢false (sym (fits_same K (base_of P) f n) ∙ d)) in rw (a, z)

  -- Otherwise ask finds exactly the earliest put slip that applies,
  pub ask_exact : same_base K.base (base_of P) ≡ true → (k : Nogood) → (ask_on K sheet ≡ got (found k) []) ↔ Earliest (λ k. applies k (sheet_on P)) K.slips k
  ask_exact s k =
      let e = asked ((fits_exact K (base_of P)).1 (inr s)) in
      let x = earliest_exact (λ k. applies k (sheet_on P)) K.slips k in (
        λ q. x.0 (got_both (earliest (λ k. applies k (sheet_on P)) K.slips) (found k) [] [] (sym e ∙ q)).0,
        λ w. e ∙ ap (λ (f : Found). got f []) (x.1 w),
      )

  -- and none exactly where none applies.
  pub ask_missing : same_base K.base (base_of P) ≡ true → (ask_on K sheet ≡ got missing []) ↔ ((k : Nogood) → Entry k K.slips → applies k (sheet_on P) ≡ false)
  ask_missing s =
      let e = asked ((fits_exact K (base_of P)).1 (inr s)) in
      let x = earliest_missing (λ k. applies k (sheet_on P)) K.slips in
      let y = none_exact (λ k. applies k (sheet_on P)) K.slips in (
        λ q. y.0 (x.0 (got_both (earliest (λ k. applies k (sheet_on P)) K.slips) missing [] [] (sym e ∙ q)).0),
        λ h. e ∙ ap (λ (f : Found). got f []) (x.1 (y.1 h)),
      )

-- what ask finds is a slip of the shelf that applies to the sheet, which has the shelf's base
pub record Asked (K : Shelf) (sheet : List ℕ) (k : Nogood) : Type 0 where
  pub on : Page
  pub took : page sheet ≡ got on []
  pub entry : Entry k K.slips
  pub applied : applies k (sheet_on on) ≡ true
  pub same : same_base K.base (base_of on) ≡ true

pub ask_found : (K : Shelf) (sheet : List ℕ) (k : Nogood) (rest : List ℕ) → ask_on K sheet ≡ got (found k) rest → Asked K sheet k
unfolding ask_on ask_in
ask_found K sheet k rest e =
    let a = after_got (page sheet) (ask_in K) (found k) rest e in
    let P : Page = a.0 in
    let S : Sheet = sheet_on P in
    let p = pick_got (fits_base K (base_of P)) (got (earliest (λ k. applies k S) K.slips) a.1) 22 (found k) rest a.3 in
    let w = (earliest_exact (λ k. applies k S) K.slips k).0 (got_both (earliest (λ k. applies k S) K.slips) (found k) a.1 rest p.1).0 in
    let m : Entry k K.slips = subst (λ (ks : List Nogood). Entry k ks) (sym w.parts) (entry_right w.before here) in
    record {
      on = P;
      took = a.2 ∙ ap (got P) (page_got sheet P a.1 a.2).1;
      entry = m;
      applied = w.passes;
      same = fits_same K (base_of P) p.0 (entry_some K m);
    }

-- Where ask finds a slip, the pass refuses the sheet's round.
pub asked_refused : (K : Shelf) (sheet : List ℕ) (k : Nogood) (rest : List ℕ) → Reached K → ask_on K sheet ≡ got (found k) rest → (s : Slip) × Refuses sheet s
unfolding base_of
asked_refused K sheet k rest r e =
    let q = ask_found K sheet k rest e in
    let T : Sheet = sheet_on q.on in
    let b = (same_base_exact K.base (base_of q.on)).0 q.same in
    let w = (applies_exact k T).0 q.applied in
    let S : Sheet = record { graph = K.base.graph; source = K.base.source; target = K.base.target; limit = k.limit; marks = [] } in
    let l : Follows S k.reasons sheet T =
    record {
      took = page_taken sheet q.on q.took;
      graph = ap (λ (B : Base). B.graph) b;
      source = ap (λ (B : Base). B.source) b;
      target = ap (λ (B : Base). B.target) b;
      closed = w.closed;
      limit = w.limit;
    } in
    blocks_again S k.reasons k.goals sheet T (reached_valid r k q.entry).blocks l w.demanded

-- there is room: a newcomer goes on a shelf with fewer than 64 slips, or is covered there
entered_room : (K : Shelf) (base : Base) (new : Nogood) → length K.slips < 64 → (L : Shelf) × (entered K base new ≡ got L [])
unfolding entered placed
entered_room K base new h = go (any (λ k. subsumes k new) K.slips)
  where
    go : (t : Bool) → (L : Shelf) × (pick t (got K []) (placed base (left K new) new) ≡ got L [])
    go true = (K, refl)
    go false =
        let l = (keep_shrunk (λ k. not (subsumes new k)) K.slips).0 in
        let z : ltb (length (left K new)) 64 ≡ true = lt-ltb (length (left K new)) 64 (omega arith) in
        (behind K base new, rw z)

-- What the pass writes for a refused round can be put on every shelf for that map, its service minutes, source and target that has room, if it has at most 24
-- goals and reasons.
pub put_pass : (K : Shelf) (sheet : List ℕ) (P : Page) → page sheet ≡ got P [] → (s : Slip) (r : Refuses sheet s)
    → (K.slips ≡ []) ⊎ (same_base K.base (base_of P) ≡ true) → length K.slips < 64 → length s.goals + length s.reasons ≤ 24
    → (work : List ℕ) → 16384 ≤ length work → (put K sheet work r.slip).number ≡ 0
unfolding put put_on put_outcome put_in after check_on
put_pass K sheet P a s r f room few work h =
    let S : Sheet = sheet_on P in
    let t = page_taken sheet P a in
    let c : after (read_slip r.slip) (judged_on S) ≡ got true [] = rw t at (check_pass sheet S t s r) in
    let j = put_by_check_yes K P r.slip c in
    let same : j.slip ≡ s = (got_both j.slip s [] [] (sym j.read ∙ r.says)).0 in
    let yes : holds S s ≡ true = ap (holds S) (sym same) ∙ j.says in
    let goes : after (read_slip r.slip) (put_slip K P) ≡ put_in K P s = j.goes ∙ ap (put_in K P) same in
    let fit : shelvable S s ≡ true = (shelvable_exact S s).1 (record { yes = yes; kind = λ q. absurd (omega (arith, r.high)); few = few }) in
    let base : fits_base K (base_of P) ≡ true = (fits_exact K (base_of P)).1 f in
    let enough : ltb (length work) 16384 ≡ false = le-ltb (length work) 16384 h in
    let e = entered_room K (base_of P) (nogood_of S.limit s) room in
    let p : put_on K sheet r.slip ≡ got e.0 [] = rw (a, goes, fit, base) e.1 in
    rw (enough, p)
