-- What reason finishes with, and that it finishes for every pruned item. Assumes nothing.
use Prim.Native.Nat.{ℕ, ◌≤◌, ◌<◌}
use mathlib.Core.Path.{◌≡◌, refl, sym, ap, ◌∙◌}
use mathlib.Core.Bool.{Bool, true, false, ◌&&◌}
use mathlib.Core.List.{List, [], ◌∷◌}
use native.Mathlib.Omega.{arith}
use lib.ListN.{length}
use lib.Dec.{eqb, ltb}
use borrow.Author.Tests.{eqb-true, eq-eqb, ltb-true, lt-ltb}
use Rattle.lists.proofs.Pigeonhole.{Below}
use Rattle.lists.proofs.TestLaws.{and_true}
use Rattle.sheet.proofs.AnswerLaws.{answer_took}
use Rattle.sheet.proofs.SheetLaws.{taken_good}
use Rattle.pass_rules.proofs.SlipOfPass.{slip_small}
use Rattle.sheet.specs.Reader.{taken}
use Rattle.sheet.specs.Answer.{finished, answer_of}
use Rattle.pass_rules.specs.Verdict.{verdict, is_pruned, slip_for}
use Rattle.sheet.proofs.SlipLaws.{Small, slip_back, slip_size}
use Rattle.sheet.specs.Sheet.{Sheet}
use Rattle.sheet.specs.Slip.{Slip, slip_bytes, read_slip}
use Rattle.varint.proofs.VarintLaws.{got_both}
use Rattle.varint.specs.Varint.{got, after}
use Rattle.walks.specs.Graph.{item_count}
use Rattle.reason_rules.specs.Later.{Explains}
use Rattle.reason_rules.specs.Reason.{prunes, reason_in, reason_on}

-- a pruned item's slip is small
item_small : (sheet : List ℕ) (S : Sheet) (i : ℕ) → taken sheet ≡ got S [] → i < item_count S.graph → Small (slip_for S 4 (i ∷ []))
item_small sheet S i a h = slip_small S (taken_good sheet S [] a) 4 (i ∷ []) (omega arith) (omega arith) (omega arith) (h, tt)

-- reason finishes on a taken sheet alone
pub reason_took : (sheet : List ℕ) (i : ℕ) (slip : List ℕ) → reason_on sheet i ≡ finished slip → (S : Sheet) × (taken sheet ≡ got S [])
unfolding reason_on
reason_took sheet i slip e = answer_took sheet (reason_in i) slip e

-- where reason finishes, the pass prunes the item, and the slip has its reasons
pub record Finished (S : Sheet) (i : ℕ) (slip : List ℕ) : Type 0 where
  pub item : i < item_count S.graph
  pub stands : (verdict S).number ≡ 0
  pub pruned : is_pruned S i ≡ true
  pub bytes : slip_bytes (slip_for S 4 (i ∷ [])) ≡ slip

pub reason_finished : (sheet : List ℕ) (S : Sheet) (i : ℕ) (slip : List ℕ) → taken sheet ≡ got S [] → reason_on sheet i ≡ finished slip → Finished S i slip
unfolding reason_on reason_in prunes answer_of after
reason_finished sheet S i slip a = go (ltb i (item_count S.graph)) refl (eqb (verdict S).number 0 && is_pruned S i) refl
  where
    go : (t : Bool) → ltb i (item_count S.graph) ≡ t → (p : Bool) → (eqb (verdict S).number 0 && is_pruned S i) ≡ p → reason_on sheet i ≡ finished slip → Finished S i slip
    go false t≡ p p≡ e = absurd (let y = rw (a, t≡) at e in let z : ◌≡◌ {A = ℕ} 0 1 = cc in omega arith)
    go true t≡ false p≡ e = absurd (let y = rw (a, t≡, p≡) at e in let z : ◌≡◌ {A = ℕ} 0 1 = cc in omega arith)
    go true t≡ true p≡ e =
        let k = and_true (eqb (verdict S).number 0) (is_pruned S i) p≡ in
        let y : finished (slip_bytes (slip_for S 4 (i ∷ []))) ≡ finished slip = rw (a, t≡, p≡) at e in
        record { item = ltb-true i (item_count S.graph) t≡; stands = eqb-true (verdict S).number 0 k.0; pruned = k.1; bytes = cc }

-- reason, asked for a pruned item, finishes (where work and slip are long enough)
pub reason_finishes : (sheet : List ℕ) (S : Sheet) (i : ℕ) → taken sheet ≡ got S [] → i < item_count S.graph → (verdict S).number ≡ 0 → is_pruned S i ≡ true
    → Explains sheet i (slip_for S 4 (i ∷ []))
unfolding reason_on reason_in prunes answer_of after
reason_finishes sheet S i a h z p = record {
  slip = slip_bytes (slip_for S 4 (i ∷ []));
  finishes = rw (a, lt-ltb i (item_count S.graph) h, eq-eqb (verdict S).number 0 z, p);
  says = slip_back (slip_for S 4 (i ∷ [])) (item_small sheet S i a h);
}

-- the slip that reason writes reads as the item and its reasons
pub explained : (sheet : List ℕ) (S : Sheet) (i : ℕ) (s : Slip) → taken sheet ≡ got S [] → Explains sheet i s
    → (i < item_count S.graph) × ((verdict S).number ≡ 0) × (is_pruned S i ≡ true) × (s ≡ slip_for S 4 (i ∷ []))
explained sheet S i s a x =
    let f = reason_finished sheet S i x.slip a x.finishes in
    let b = slip_back (slip_for S 4 (i ∷ [])) (item_small sheet S i a f.item) in
    (f.item, f.stands, f.pruned, sym (got_both (slip_for S 4 (i ∷ [])) s [] [] (sym b ∙ ap read_slip f.bytes ∙ x.says)).0)

-- a slip of reason has at most 1,200 bytes
pub reason_slip_size : (sheet : List ℕ) (S : Sheet) (i : ℕ) (slip : List ℕ) → taken sheet ≡ got S [] → reason_on sheet i ≡ finished slip
    → (length slip ≤ 1200) × Below 256 slip
reason_slip_size sheet S i slip a e =
    let f = reason_finished sheet S i slip a e in
    rw f.bytes at (slip_size (slip_for S 4 (i ∷ [])) (item_small sheet S i a f.item))
