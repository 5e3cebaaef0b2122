-- Laws of service minutes that are added to the arcs one by one. Assumes nothing.
use Prim.Native.Nat.{ℕ, ◌+◌, ◌≤◌, ◌<◌}
use mathlib.Core.Path.{◌≡◌, refl, sym, ap, ◌∙◌}
use mathlib.Core.List.{List, [], ◌∷◌, ◌++◌, append_assoc, append-nil}
use native.Mathlib.Omega.{arith}
use lib.ListN.{length, get_or, set, length-append}
use lib.Seq.{get_or-append-add, set-append_seam}
use Rattle.walks.specs.declared.arc.Arc.{Arc}
use Rattle.walks.specs.Graph.{no_arc}
use Rattle.sheet.proofs.PageLaws.{served_count}
use Rattle.sheet.specs.Good.{All}
use Rattle.sheet.specs.Page.{service_of, served_arc, served}
use Rattle.sheet_services.specs.Services.{Servable}

served_append : (ss : List ℕ) (xs ys : List Arc) → served ss (xs ++ ys) ≡ served ss xs ++ served ss ys
unfolding served
served_append ss [] ys = refl
served_append ss (x ∷ xs) ys = ap (served_arc ss x ∷◌) (served_append ss xs ys)

-- the first j arcs have their weights, the others their minutes
pub record Serving (ss : List ℕ) (old : List Arc) (j : ℕ) (out : List Arc) : Type 0 where
  pub before : List Arc
  pub after : List Arc
  pub parts : old ≡ before ++ after
  pub size : length before ≡ j
  pub fits : All (Servable ss) after
  pub holds : out ≡ served ss before ++ after

pub serving : (ss : List ℕ) (old : List Arc) → All (Servable ss) old → Serving ss old 0 old
unfolding served
serving ss old a = record { before = []; after = old; parts = refl; size = refl; fits = a; holds = refl }

-- the next arc: its weight can be added up, and is what is stored
pub record Next (ss : List ℕ) (old : List Arc) (j : ℕ) (out : List Arc) : Type 0 where
  pub head : (get_or out j no_arc).head < length ss
  pub sum : (get_or out j no_arc).weight + get_or ss (get_or out j no_arc).head 0 < 4294967296
  pub stored : Serving ss old (j + 1) (set out j (served_arc ss (get_or out j no_arc)))

module _ {ss : List ℕ} {old : List Arc} {j : ℕ} {out : List Arc} (w : Serving ss old j out) where
  counted : (after : List Arc) → old ≡ w.before ++ after → length old ≡ j + length after
  counted after p = omega (arith, simp length-append at (ap length p), w.size)

  pub serve_kept : length out ≡ length old
  serve_kept = ap length w.holds ∙ simp length-append (omega (arith, served_count ss w.before, w.size, counted w.after w.parts))

  pub serve_next : j < length old → Next ss old j out
  unfolding served served_arc service_of
  serve_next l = go w.after w.parts w.fits w.holds
    where
      go : (after : List Arc) → old ≡ w.before ++ after → All (Servable ss) after → out ≡ served ss w.before ++ after → Next ss old j out
      go [] p f h = absurd (omega (arith, counted [] p))
      go (x ∷ after) p f h =
          let done = served ss w.before in
          let i : j ≡ length done = omega (arith, served_count ss w.before, w.size) in
          let i₀ : j ≡ length done + 0 = omega (arith, i) in
          let e : get_or out j no_arc ≡ x = rw (h, i₀) (get_or-append-add done (x ∷ after) 0 no_arc) in
          let stored : set out j (served_arc ss x) ≡ served ss (w.before ++ (x ∷ [])) ++ after =
          ap (λ (ys : List Arc). set ys j (served_arc ss x)) h ∙ ap (λ (k : ℕ). set (done ++ (x ∷ after)) k (served_arc ss x)) i
          ∙ set-append_seam done x after (served_arc ss x)
          ∙ sym (ap (◌++ after) (served_append ss w.before (x ∷ [])) ∙ append_assoc done (served_arc ss x ∷ []) after) in
          record {
            head = rw e f.0.head;
            sum = rw e f.0.sum;
            stored = rw e (record {
              before = w.before ++ (x ∷ []);
              after = after;
              parts = p ∙ sym (append_assoc w.before (x ∷ []) after);
              size = simp length-append (omega (arith, w.size));
              fits = f.1;
              holds = stored;
            });
          }

  -- all of them
  pub serve_done : length old ≤ j → out ≡ served ss old
  serve_done l = go w.after w.parts w.holds
    where
      go : (after : List Arc) → old ≡ w.before ++ after → out ≡ served ss w.before ++ after → out ≡ served ss old
      go [] p h = h ∙ append-nil (served ss w.before) ∙ ap (served ss) (sym (p ∙ append-nil w.before))
      go (x ∷ after) p h = absurd (omega (arith, counted (x ∷ after) p))
