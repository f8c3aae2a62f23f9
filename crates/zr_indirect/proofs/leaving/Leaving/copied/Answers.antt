use Rattle.std.proofs.Common.{◌∙◌, sym, ap}
use Rattle.std.proofs.Common.{List, [], ◌∷◌}
use Rattle.zr_base.specs.declared.space.Entry.{Entry}
use Rattle.zr_rules.specs.Mappings.{end_of_last}
use Rattle.zr_indirect.proofs.Entries.{last_pushed, sources_pushed}
use Rattle.zr_indirect.proofs.leaving.Leaving.copied.Goals as goal

pub invariant_of-self : goal.invariant_of-self
invariant_of-self c =
    let e : Entry = record { src = c.args.e.start; dev = c.args.dev; dst = c.args.dst; len = c.args.e.len } in
    record {
      frontier = c.copied.ensures.opened ∙ sym (ap (λ (es : List Entry). end_of_last es) c.copied.ensures.entries ∙ last_pushed c.self.inside.evac.entries e);
      sources = λ u is. rw c.copied.ensures.entries (sources_pushed c.self.inside.evac.entries (e ∷ []) u (c.self.invariant.sources u (rw c.copied.ensures.marks at is)));
      came_is = λ u is. rw c.copied.ensures.marks (c.self.invariant.came_is u is);
    }
