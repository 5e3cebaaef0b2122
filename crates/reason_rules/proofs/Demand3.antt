-- Demand 3, over bytes: the closures listed are what did it, on every later sheet that is taken, and none of them can be spared. The list blocks its goals
-- by itself (`reasons_valid`), so it does so wherever it is shut and the limit is no greater. Assumes nothing.
use Prim.Native.Nat.{ℕ, zero, suc, ◌≤◌, ◌<◌}
use mathlib.Core.Path.{◌≡◌, refl, sym, ap, ◌∙◌, subst}
use mathlib.Core.Logic.{◌⊎◌, inl, inr, ⊎_elim, ◌↔◌}
use mathlib.Core.Bool.{true, false, not, true≢false}
use mathlib.Core.List.{List, [], ◌∷◌}
use native.Mathlib.Omega.{arith}
use lib.ListN.{get_or}
use lib.Seq.{ext_get_or}
use lib.Dec.{eqb}
use borrow.Author.Tests.{eqb-true, eqb-false}
use Rattle.reason_list.proofs.ReasonLaws.{reasons_closed, reasons_valid, reasons_minimal}
use Rattle.reason_list.specs.Reasons.{but}
use Rattle.lists.proofs.TestLaws.{false_back, and_true, not_true, true_or_false}
use Rattle.lists.specs.Lists.{member}
use Rattle.sheet.proofs.MarkLaws.{required_mandatory, is_open_lem, is_mandatory_lem, mandatory_mark, marked_item}
use Rattle.sheet.proofs.SheetLaws.{good_mark, page_taken, taken_good}
use Rattle.sheet.specs.Good.{Good}
use Rattle.sheet.specs.Sheet.{Sheet, is_mandatory, is_forbidden, is_open, mark_of}
use Rattle.sheet.specs.Slip.{Slip}
use Rattle.varint.specs.Varint.{got}
use Rattle.pass_rules.proofs.Demand2.{verdict_in_lem, marks_exact, refuses_is, is_refused}
use Rattle.pass_rules.proofs.MetLaws.{is_mandatory_item, all_fits}
use Rattle.pass_rules.proofs.SlipOfPass.{pass_finishes}
use Rattle.pass_rules.proofs.VerdictLaws.{Stands, stands_all, fits_fewer, refused_goals, pruned_mark, forbidden_stays}
use Rattle.sheet.specs.Page.{served, Page, sheet_on}
use Rattle.sheet.specs.Reader.{page, taken}
use Rattle.pass_rules.specs.Pass.{Refuses, EndsForbidden}
use Rattle.pass_rules.specs.Route.{mandatory}
use Rattle.pass_rules.specs.Verdict.{reasons_for, fits_sheet, slip_for, verdict, is_pruned, new_mark, pass_slip}
use Rattle.walks.proofs.FitsLaws.{fits_anti, none_fits}
use Rattle.walks.specs.declared.arc.Arc.{Arc}
use Rattle.walks.specs.Graph.{Graph, no_arc, tail_of, head_of, weight_of, item_count}
use Rattle.walks.specs.Walk.{NoWalk, SomeWalk}
use Rattle.reason_rules.proofs.AnswerLaws.{explained}
use Rattle.reason_rules.specs.Later.{SameMap, Later, Explains, Demanded}

-- maps that agree arc by arc are one map
arc_eq : (x y : Arc) → x.tail ≡ y.tail → x.head ≡ y.head → x.weight ≡ y.weight → x ≡ y
arc_eq x y p q r =
    ap {B = Arc} (λ (t : ℕ). record { tail = t; head = x.head; weight = x.weight }) p
    ∙ ap {B = Arc} (λ (h : ℕ). record { tail = y.tail; head = h; weight = x.weight }) q
    ∙ ap {B = Arc} (λ (w : ℕ). record { tail = y.tail; head = y.head; weight = w }) r

map_eq : (G H : Graph) → SameMap G H → H ≡ G
unfolding tail_of head_of weight_of
map_eq G H e =
    let a : H.arcs ≡ G.arcs =
    ext_get_or no_arc H.arcs G.arcs e.count
    (λ l h. arc_eq (get_or H.arcs l no_arc) (get_or G.arcs l no_arc) (e.tails l (rw (← e.count) h)) (e.heads l (rw (← e.count) h)) (e.weights l (rw (← e.count) h))) in
    ap {B = Graph} (λ (n : ℕ). record { nodes = n; arcs = H.arcs }) e.nodes ∙ ap {B = Graph} (λ (xs : List Arc). record { nodes = G.nodes; arcs = xs }) a

-- The list blocks the goals: no walk clear of it, all else open, meets them within the limit.
abbrev pub Blocks : Sheet → List ℕ → List ℕ → Type 0
Blocks S list goals = NoWalk S.graph S.source S.target S.limit (λ j. member j list) goals

module _ (S : Sheet) (goals : List ℕ) where
  -- each listed closure is shut on the sheet
  pub listed_forbidden : (r : ℕ) → member r (reasons_for S goals) ≡ true → is_forbidden S r ≡ true
  unfolding reasons_for is_forbidden
  listed_forbidden r m = (reasons_closed S.graph S.source S.target S.limit goals S.marks r m).0

  -- no walk clear of the list, all else open, meets the goals within the limit
  pub list_valid : fits_sheet S goals ≡ false → Blocks S (reasons_for S goals) goals
  unfolding reasons_for fits_sheet is_forbidden
  list_valid e = reasons_valid S.graph S.source S.target S.limit goals S.marks e

  -- with any one of the list open, and all that is not listed, some walk does
  pub list_minimal : (r : ℕ) → member r (reasons_for S goals) ≡ true
      → SomeWalk S.graph S.source S.target S.limit (but (λ j. member j (reasons_for S goals)) r) goals
  unfolding reasons_for
  list_minimal r m = reasons_minimal S.graph S.source S.target S.limit goals S.marks r m

-- A later sheet by what both mean: a taken sheet with the same graph, source and target, every listed closure shut and no greater limit.
pub record Follows (S : Sheet) (list : List ℕ) (sheet : List ℕ) (T : Sheet) : Type 0 where
  pub took : taken sheet ≡ got T []
  pub graph : T.graph ≡ S.graph
  pub source : T.source ≡ S.source
  pub target : T.target ≡ S.target
  pub closed : (j : ℕ) → member j list ≡ true → is_forbidden T j ≡ true
  pub limit : T.limit ≤ S.limit

-- the same map and the same service minutes make the same graph
pub graph_on : (P Q : Page) → SameMap P.says.graph Q.says.graph → Q.services ≡ P.services → (sheet_on Q).graph ≡ (sheet_on P).graph
unfolding sheet_on
graph_on P Q e s =
    ap {B = Graph} (λ (G : Graph). record { nodes = G.nodes; arcs = served Q.services G.arcs }) (map_eq P.says.graph Q.says.graph e)
    ∙ ap {B = Graph} (λ (ss : List ℕ). record { nodes = P.says.graph.nodes; arcs = served ss P.says.graph.arcs }) s

later_follows : (P Q : Page) (list sheet : List ℕ) → Later P list sheet Q → Follows (sheet_on P) list sheet (sheet_on Q)
unfolding sheet_on is_forbidden
later_follows P Q list sheet L = record {
  took = page_taken sheet Q L.took;
  graph = graph_on P Q L.map L.services;
  source = L.source;
  target = L.target;
  closed = L.closed;
  limit = L.limit;
}

-- a list that blocks some goals blocks them on every later sheet
pub blocks_later : (S : Sheet) (list goals sheet : List ℕ) (T : Sheet) → Blocks S list goals → Follows S list sheet T → fits_sheet T goals ≡ false
unfolding fits_sheet is_forbidden
blocks_later S list goals sheet T b L =
    rw (L.graph, L.source, L.target)
    (fits_anti S.graph S.source S.target T.limit S.limit (is_forbidden T) (λ j. member j list) goals goals
    (λ j h o. false_back (member j list) (is_forbidden T j) (L.closed j) o) (λ g m. m) L.limit
    (none_fits S.graph S.source S.target S.limit (λ j. member j list) goals b))

-- every required item is mandatory, so that what is demanded is what is mandatory
pub demanded_mandatory : (S : Sheet) (g : ℕ) → Demanded S g ↔ (is_mandatory S g ≡ true)
demanded_mandatory S g = (⊎_elim (λ m. m) (required_mandatory S g), inl)

-- where a round stands, some walk meets everything demanded
stands_meets : (T : Sheet) (goals : List ℕ) → Good T → Stands T → ((g : ℕ) → member g goals ≡ true → Demanded T g) → fits_sheet T goals ≡ true
stands_meets T goals k z d = fits_fewer T (mandatory T) goals met (all_fits T z.together)
  where
    met : (g : ℕ) → member g goals ≡ true → member g (mandatory T) ≡ true
    met g m =
        let q = (demanded_mandatory T g).0 (d g m) in
        is_mandatory_item T g (marked_item T g 0 k.size ((mandatory_mark T g).0 q)) q

-- Demand 3's step: a list that blocks some goals on a sheet, whatever they are, has the pass refuse every later sheet's round where these goals are
-- demanded.
pub blocks_again : (S : Sheet) (list goals later : List ℕ) (T : Sheet) → Blocks S list goals → Follows S list later T
    → ((g : ℕ) → member g goals ≡ true → Demanded T g) → (s : Slip) × Refuses later s
blocks_again S list goals later T b L d = (
  slip_for T (verdict T).number (verdict T).goals,
  is_refused later T L.took
      (λ z. true≢false (sym (stands_meets T goals (taken_good later T [] L.took) (stands_all T z) d) ∙ blocks_later S list goals later T b L)),
)

-- a pruned item is met by no walk
pub pruned_unmet : (S : Sheet) (i : ℕ) → is_pruned S i ≡ true → fits_sheet S (i ∷ []) ≡ false
unfolding is_pruned
pruned_unmet S i p = not_true (fits_sheet S (i ∷ [])) (and_true (is_open S i) (not (fits_sheet S (i ∷ []))) p).1

-- on a later sheet an item that no walk meets ends forbidden, or the round is refused
pub blocked_ends : (sheet : List ℕ) (T : Sheet) (i : ℕ) → taken sheet ≡ got T [] → i < item_count T.graph → fits_sheet T (i ∷ []) ≡ false
    → EndsForbidden sheet i ⊎ ((s : Slip) × Refuses sheet s)
blocked_ends sheet T i a h b = go (true_or_false (eqb (verdict T).number 0))
  where
    ends : (verdict T).number ≡ 0 → (m : ℕ) → mark_of T i ≡ m → m ≤ 2 → new_mark T i ≡ 2
    ends z zero q k = (pruned_mark T i (is_open_lem T i q)).1 b
    ends z (suc zero) q k = absurd (true≢false (sym ((stands_all T z).each i h (is_mandatory_lem T i q)) ∙ b))
    ends z (suc (suc zero)) q k = forbidden_stays T i q
    ends z (suc (suc (suc m))) q k = absurd (omega arith)

    go : (eqb (verdict T).number 0 ≡ true) ⊎ (eqb (verdict T).number 0 ≡ false) → EndsForbidden sheet i ⊎ ((s : Slip) × Refuses sheet s)
    go (inl q) =
        let z = eqb-true (verdict T).number 0 q in
        let e = pass_finishes sheet T a in
        let v = verdict_in_lem sheet T a (pass_slip T (verdict T)) e ∙ z in
        inl (record {
          slip = pass_slip T (verdict T);
          finishes = e;
          stands = v;
          mark = marks_exact sheet T a (pass_slip T (verdict T)) e v i h ∙ ends z (mark_of T i) refl (good_mark T (taken_good sheet T [] a) i);
        })
    go (inr q) = inr (slip_for T (verdict T).number (verdict T).goals, is_refused sheet T a (eqb-false (verdict T).number 0 q))

module _ (sheet : List ℕ) (P : Page) (a : page sheet ≡ got P []) where
  -- Where an item was pruned, the pass on a later sheet ends with it shut or the round refused.
  pub pruned_again : (i : ℕ) (s : Slip) → Explains sheet i s → (later : List ℕ) (Q : Page) → Later P s.reasons later Q
      → EndsForbidden later i ⊎ ((s' : Slip) × Refuses later s')
  unfolding slip_for
  pruned_again i s x later Q L =
      let S = sheet_on P in
      let T = sheet_on Q in
      let y = explained sheet S i s (page_taken sheet P a) x in
      let F = later_follows P Q s.reasons later L in
      let F' : Follows S (reasons_for S (i ∷ [])) later T = subst (λ (s : Slip). Follows S s.reasons later T) y.3 F in
      blocked_ends later T i F.took (subst (λ (G : Graph). i < item_count G) (sym F.graph) y.0)
      (blocks_later S (reasons_for S (i ∷ [])) (i ∷ []) later T (list_valid S (i ∷ []) (pruned_unmet S i y.2)) F')

  -- Where the round was refused, the pass refuses a later sheet's round too, if everything named is demanded there.
  pub refused_again : (s : Slip) → Refuses sheet s → (later : List ℕ) (Q : Page) → Later P s.reasons later Q
      → ((g : ℕ) → member g s.goals ≡ true → Demanded (sheet_on Q) g) → (s' : Slip) × Refuses later s'
  unfolding slip_for
  refused_again s r later Q L d =
      let S = sheet_on P in
      let T = sheet_on Q in
      let y = refuses_is sheet S (page_taken sheet P a) s r in
      let F' : Follows S (reasons_for S (verdict S).goals) later T = subst (λ (s : Slip). Follows S s.reasons later T) y.1 (later_follows P Q s.reasons later L) in
      let d' : (g : ℕ) → member g (verdict S).goals ≡ true → Demanded T g = subst (λ (s : Slip). (g : ℕ) → member g s.goals ≡ true → Demanded T g) y.1 d in
      blocks_again S (reasons_for S (verdict S).goals) (verdict S).goals later T (list_valid S (verdict S).goals (refused_goals S y.0)) F' d'

module _ (sheet : List ℕ) (S : Sheet) (a : taken sheet ≡ got S []) where
  -- For every closure listed, once it and everything unlisted are open and only the other listed ones shut, some walk within the limit meets
  -- everything named: for a refused round,
  pub refused_minimal : (s : Slip) → Refuses sheet s → (r : ℕ) → member r s.reasons ≡ true
      → SomeWalk S.graph S.source S.target S.limit (but (λ j. member j s.reasons) r) s.goals
  unfolding slip_for
  refused_minimal s x r m =
      let y = refuses_is sheet S a s x in
      subst (λ (s : Slip). (r : ℕ) → member r s.reasons ≡ true → SomeWalk S.graph S.source S.target S.limit (but (λ j. member j s.reasons) r) s.goals)
      (sym y.1) (list_minimal S (verdict S).goals) r m

  -- and for a pruned item, which is its own single goal.
  pub pruned_minimal : (i : ℕ) (s : Slip) → Explains sheet i s → (r : ℕ) → member r s.reasons ≡ true
      → SomeWalk S.graph S.source S.target S.limit (but (λ j. member j s.reasons) r) (i ∷ [])
  unfolding slip_for
  pruned_minimal i s x r m =
      let y = explained sheet S i s a x in
      subst (λ (s : Slip). (r : ℕ) → member r s.reasons ≡ true → SomeWalk S.graph S.source S.target S.limit (but (λ j. member j s.reasons) r) (i ∷ []))
      (sym y.3) (list_minimal S (i ∷ [])) r m
