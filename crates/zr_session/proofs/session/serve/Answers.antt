use Rattle.std.proofs.Common.{refl, sym, ap, ◌∙◌, arith, length}
use Rattle.zr_session.proofs.Going.{start_as, room_fits}
use Rattle.zr_session.proofs.Ending.{ends_limit}
use Rattle.zr_shelf.proofs.Runs.{started, joined}
use Rattle.zr_script.specs.ReplyText as text
use Rattle.zr_session.specs.Moments.{IsMoment}
use Rattle.zr_session.proofs.Moments.{end_moments}
use Rattle.zr_session.proofs.Sending.{fell_more}
use Rattle.zr_session.proofs.session.serve.Goals as goal

pub loop-taken-init : goal.loop-taken-init
loop-taken-init g c =
    let s = c.new-script.ensures in
    record {
      at = λ t n. start_as _ _ _ _ _ _ c.requires.closed s.line s.lines;
      moments = λ t n. started _ _;
      named = λ t. refl;
      told = λ t. t;
      lines = let l = s.lines in omega arith;
      most = omega arith;
      short = let l = ap length s.line in omega arith;
      fits = c.requires.fits;
      paths = refl;
      sizes = refl;
      none_fell = record { disk = omega arith; attach = omega arith; input = omega arith; output = omega arith };
    }

pub returns-clause-ends : goal.returns-clause-ends
returns-clause-ends g c = λ t n.
    let i = c.loop-taken.invariant in
    let a = i.at t n in
    ends_limit _ _ _ _ _ a.state _ _ _ c.tell.result a.holds (let m = i.most in let f = c.loop-taken-test.false in omega arith) (c.tell.ensures.told_it (i.told t))

-- ---- at each moment

pub returns-in-Err-clause-moments : goal.returns-in-Err-clause-moments
returns-in-Err-clause-moments g c = λ t n.
    let i = c.loop-taken.invariant in
    joined (IsMoment g.P.Pool.meaning c.args.course.now.rounds (g.D.Shelf.world c.args.desk.now).now) (g.D.Shelf.world c.args.desk.now) (g.D.Shelf.world c.loop-taken.desk) (g.D.Shelf.world c.take_piece.new.desk) (i.moments t n)
    (c.take_piece.ensures.moments (i.told t) (i.named t ∙ (n ∙ sym i.paths)) _ _ (room_fits c.loop-taken.taken c.min-most.result c.loop-taken.piece c.loop-taken-test.true c.min-most.ensures) (i.at t n))

pub returns-clause-moments : goal.returns-clause-moments
returns-clause-moments g c = λ t n.
    let i = c.loop-taken.invariant in
    let a = i.at t n in
    end_moments g.P.Pool.meaning c.args.course.now.rounds (g.D.Shelf.world c.args.desk.now).now _ (g.D.Shelf.world c.loop-taken.desk) _ a.state _ _ _ _ text.InputLimit a.holds
    (g.P.Pool.rests c.loop-taken.pool (g.D.Shelf.world c.loop-taken.desk).now a.state (i.named t ∙ (n ∙ sym i.paths)) a.stands_for) (i.moments t n) (c.tell.ensures.moments (i.told t))

pub loop-taken-preserved : goal.loop-taken-preserved
loop-taken-preserved g c =
    let i = c.loop-taken.invariant in
    let o = c.in-Ok.ensures in
    record {
      at = λ t n. o.at (i.told t) (i.named t ∙ (n ∙ sym i.paths)) _ _ (room_fits c.loop-taken.taken c.min-most.result c.loop-taken.piece c.loop-taken-test.true c.min-most.ensures) (i.at t n);
      moments = λ t n.
          joined (IsMoment g.P.Pool.meaning c.args.course.now.rounds (g.D.Shelf.world c.args.desk.now).now) (g.D.Shelf.world c.args.desk.now) (g.D.Shelf.world c.loop-taken.desk) (g.D.Shelf.world c.take_piece.new.desk) (i.moments t n)
          (o.moments (i.told t) (i.named t ∙ (n ∙ sym i.paths)) _ _ (room_fits c.loop-taken.taken c.min-most.result c.loop-taken.piece c.loop-taken-test.true c.min-most.ensures) (i.at t n));
      named = λ t. o.named (i.told t) ∙ i.named t;
      told = λ t. o.told (i.told t);
      lines = let l = i.lines in let k = o.lines in omega arith;
      most = let k = o.count.1 in let r = room_fits c.loop-taken.taken c.min-most.result c.loop-taken.piece c.loop-taken-test.true c.min-most.ensures in omega arith;
      short = o.short;
      fits = o.fits;
      paths = o.paths ∙ i.paths;
      sizes = o.sizes ∙ i.sizes;
      none_fell = fell_more _ _ _ i.none_fell o.none_fell;
    }
