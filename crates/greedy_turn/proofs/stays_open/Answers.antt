-- `greedy_turn::stays_open` meets its contract: where a walk fits the kept rows are put back, and else the work stays as the table left it. Assumes nothing.
use Prim.Native.Nat.{◌+◌, ◌*◌}
use mathlib.Core.Path.{◌∙◌}
use mathlib.Core.Bool.{true≢false, false≢true}
use native.Mathlib.Omega.{arith}
use Rattle.rows.proofs.WorkLaws.{behind}
use Rattle.goal_table.proofs.TableLaws.{same_front}
use Rattle.greedy_turn.proofs.stays_open.Goals as goal

pub returns-then-fits_limit : goal.returns-then-fits_limit
returns-then-fits_limit c =
    let s = c in
    let f = c.fits_limit in
    let b = c.put_back.ensures in
    let work = s.args.work.now in
    let mid = f.new.work in record {
      tells_whether_blocked = λ R. f.ensures.tells_whether_fits R ∙ c.if-fits_limit.true;
      goals_noted_if_open = λ q. absurd (false≢true q);
      rows_back_if_not = λ _. record {
        back = λ i h o v k. b.rows.back i h o v k ∙ behind 3072 mid work f.ensures.kept_rows_unchanged (3072 + i * 64 + v) (omega arith);
        same = λ i h o v k. b.rows.same i h o v k ∙ same_front 576 work mid f.ensures.goals_noted.front (i * 64 + v) (omega (arith, s.requires.0.eight));
      };
    }

pub returns : goal.returns
returns c =
    let f = c.fits_limit in
    record {
      tells_whether_blocked = λ R. f.ensures.tells_whether_fits R ∙ c.if-fits_limit.false;
      goals_noted_if_open = λ _. f.ensures.goals_noted;
      rows_back_if_not = λ q. absurd (true≢false q);
    }
