-- Laws of the header and of an arc, taken number by number: each result of one reading decides the next step. Assumes nothing.
use Prim.Native.Nat.{ℕ, ◌≤◌, ◌<◌}
use mathlib.Core.Path.{◌≡◌, refl, ap, sym, ◌∙◌, fun_ext}
use mathlib.Core.List.{List}
use mathlib.Core.Bool.{Bool, true, false, ◌&&◌}
use lib.Dec.{leb, leb-suc-suc}
use borrow.Author.Tests.{le-leb, lt-leb}
use Rattle.varint.specs.Varint.{got, refuse, after, number, judged}
use Rattle.walks.specs.declared.arc.Arc.{Arc}
use Rattle.sheet.specs.declared.Header.{Header}
use Rattle.sheet.specs.Reader.{header_limit, header_target, header_source, header_arcs, read_header, arc_minutes, arc_head, read_arc}
use Rattle.sheet_values.proofs.ReadLaws.{under, number_and, number_most, ends_then, first_not, second_not, second_same, third_not, third_read}

and_swap : (a b : Bool) → (a && b) ≡ (b && a)
and_swap true true = refl
and_swap true false = refl
and_swap false true = refl
and_swap false false = refl

nodes_number : (bs : List ℕ) → number 5 (λ x. leb 2 x && leb x 64) bs ≡ after (number 5 (under 65) bs) (judged 5 (λ x. leb 2 x))
nodes_number bs =
    ap (λ (f : ℕ → Bool). number 5 f bs) (fun_ext (λ x. and_swap (leb 2 x) (leb x 64) ∙ ap (λ (b : Bool). b && leb 2 x) (sym (leb-suc-suc x 64))))
    ∙ number_and 5 (under 65) (λ x. leb 2 x) bs

-- source, target and limit behind the first two numbers
abbrev header : ℕ → ℕ → ℕ → ℕ → ℕ → Header
header n m s t k = record { nodes = n; arcs = m; source = s; target = t; limit = k }

ends_read : (n m : ℕ) (bs : List ℕ) → ends_then 7 8 n 1000000 (header n m) bs ≡ header_source n m bs
unfolding header_source header_target header_limit
ends_read n m bs = refl

module _ (s : List ℕ) where
  pub no_nodes : {e : ℕ} → number 5 (under 65) s ≡ refuse e → read_header s ≡ refuse e
  unfolding read_header after
  no_nodes e = rw (nodes_number s, e)

  module _ {n : ℕ} {r₁ : List ℕ} (en : number 5 (under 65) s ≡ got n r₁) where
    pub few_nodes : n < 2 → read_header s ≡ refuse 5
    unfolding read_header after judged
    few_nodes l = rw (nodes_number s, en) (simp (lt-leb 2 n l))

    module _ (ln : 2 ≤ n) where
      from_nodes : read_header s ≡ after (number 6 (under 513) r₁) (header_source n)
      unfolding read_header header_arcs after judged
      from_nodes = rw (nodes_number s, en) (simp (le-leb 2 n ln) (rw (number_most 6 512 r₁)))

      pub no_arcs : {e : ℕ} → number 6 (under 513) r₁ ≡ refuse e → read_header s ≡ refuse e
      unfolding after
      no_arcs e = from_nodes ∙ rw e

      module _ {m : ℕ} {r₂ : List ℕ} (em : number 6 (under 513) r₁ ≡ got m r₂) where
        behind : read_header s ≡ ends_then 7 8 n 1000000 (header n m) r₂
        unfolding after
        behind = from_nodes ∙ rw em (sym (ends_read n m r₂))

        pub no_source : {e : ℕ} → number 7 (under n) r₂ ≡ refuse e → read_header s ≡ refuse e
        no_source e = behind ∙ first_not 7 8 n 1000000 (header n m) r₂ e

        module _ {a : ℕ} {r₃ : List ℕ} (ea : number 7 (under n) r₂ ≡ got a r₃) where
          pub no_target : {e : ℕ} → number 7 (under n) r₃ ≡ refuse e → read_header s ≡ refuse e
          no_target e = behind ∙ second_not 7 8 n 1000000 (header n m) r₂ ea e

          module _ {b : ℕ} {r₄ : List ℕ} (eb : number 7 (under n) r₃ ≡ got b r₄) where
            pub one_place : b ≡ a → read_header s ≡ refuse 7
            one_place q = behind ∙ second_same 7 8 n 1000000 (header n m) r₂ ea eb q

            module _ (q : b ≡ a → ⊥) where
              pub no_limit : {e : ℕ} → number 8 (under 1000001) r₄ ≡ refuse e → read_header s ≡ refuse e
              no_limit e = behind ∙ third_not 7 8 n 1000000 (header n m) r₂ ea eb q e

              pub header_taken : {k : ℕ} {r₅ : List ℕ} → number 8 (under 1000001) r₄ ≡ got k r₅ → read_header s ≡ got (header n m a b k) r₅
              header_taken e = behind ∙ third_read 7 8 n 1000000 (header n m) r₂ ea eb q e

-- tail, head and minutes of an arc
abbrev arc : ℕ → ℕ → ℕ → Arc
arc t h w = record { tail = t; head = h; weight = w }

arc_ends : (n : ℕ) (bs : List ℕ) → read_arc n bs ≡ ends_then 9 10 n 65535 arc bs
unfolding read_arc arc_head arc_minutes
arc_ends n bs = refl

module _ (n : ℕ) (s : List ℕ) where
  pub no_tail : {e : ℕ} → number 9 (under n) s ≡ refuse e → read_arc n s ≡ refuse e
  no_tail e = arc_ends n s ∙ first_not 9 10 n 65535 arc s e

  module _ {a : ℕ} {r₁ : List ℕ} (ea : number 9 (under n) s ≡ got a r₁) where
    pub no_head : {e : ℕ} → number 9 (under n) r₁ ≡ refuse e → read_arc n s ≡ refuse e
    no_head e = arc_ends n s ∙ second_not 9 10 n 65535 arc s ea e

    module _ {b : ℕ} {r₂ : List ℕ} (eb : number 9 (under n) r₁ ≡ got b r₂) where
      pub head_is_tail : b ≡ a → read_arc n s ≡ refuse 9
      head_is_tail q = arc_ends n s ∙ second_same 9 10 n 65535 arc s ea eb q

      module _ (q : b ≡ a → ⊥) where
        pub no_minutes : {e : ℕ} → number 10 (under 65536) r₂ ≡ refuse e → read_arc n s ≡ refuse e
        no_minutes e = arc_ends n s ∙ third_not 9 10 n 65535 arc s ea eb q e

        pub arc_taken : {c : ℕ} {r₃ : List ℕ} → number 10 (under 65536) r₂ ≡ got c r₃ → read_arc n s ≡ got (arc a b c) r₃
        arc_taken e = arc_ends n s ∙ third_read 9 10 n 65535 arc s ea eb q e
