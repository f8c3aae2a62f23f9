use Rattle.std.proofs.Common.{◌≡◌, ℕ, length}
use Rattle.zr_rules.specs.Space.{Space}
use Rattle.zr_space.specs.Views.{kept_of, space_of, IsSpace}
use Rattle.zr_space.specs.FreeVisits.{CanFree, FreesVisits, HaveSpare, all_units}
use Rattle.zr_space.proofs.visits.free_visits.Given as goal

abbrev pub invariant-loop-first : goal.invariant-loop-first
invariant-loop-first l = record {
  space : IsSpace l.whole l.slabs l.devs.items;
  can : CanFree (space_of l.whole l.devs.items) l.rest;
  room : HaveSpare l.devs.items (all_units l.rest);
  rows : (d : ℕ) → (kept_of l.devs.items d).row ≡ (kept_of l.initial.devs.items d).row;
  frees : (t : Space) → FreesVisits l.kept (space_of l.whole l.devs.items) t l.rest → FreesVisits l.kept (space_of l.whole l.initial.devs.items) t l.visits;
}

abbrev pub decreases-loop-first : goal.decreases-loop-first
decreases-loop-first l = length l.rest
