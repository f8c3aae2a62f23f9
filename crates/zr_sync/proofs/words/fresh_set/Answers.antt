use Rattle.std.proofs.Common.{◌∙◌, sym, subst}
use Rattle.zr_base.specs.Extents.{IsMaximal}
use Rattle.zr_sync.proofs.words.fresh_set.Goals as goal

pub set_from-requires : goal.set_from-requires
set_from-requires c =
    let sets = c.requires.lawful.sets c.args.dev in
    subst IsMaximal (sym (c.as_slice.ensures ∙ (c.in_ok-extents.ensures ∙ c.moves.ensures.fresh))) sets.fresh.maximal
