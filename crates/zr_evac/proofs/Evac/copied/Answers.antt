use Rattle.std.proofs.Common.{arith}
use Rattle.zr_evac.proofs.Frontiers.{after_all, ends_push}
use Rattle.zr_evac.proofs.Evac.copied.Goals as goal

pub push_reserved-requires-clause-after : goal.push_reserved-requires-clause-after
push_reserved-requires-clause-after c = after_all c.self.inside.opened c.self.inside.map.entries _ c.self.invariant.copied c.take_piece-end.ensures.opened

pub invariant_of-self : goal.invariant_of-self
invariant_of-self c = record {
  copied = rw c.push_reserved.ensures.pushed (ends_push c.self.inside.opened c.take_piece-end.result c.self.inside.map.entries _ c.self.invariant.copied (omega (arith, c.take_piece-end.ensures.opened, c.take_piece-end.ensures.end)) (omega (arith, c.take_piece-end.ensures.end)));
  uncopied = c.take_piece-end.ensures.uncopied;
  order = omega (arith, c.self.invariant.order, c.take_piece-end.ensures.opened, c.take_piece-end.ensures.end);
  bound = c.take_piece-end.ensures.bound;
}
