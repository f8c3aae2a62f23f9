use Rattle.std.proofs.Common.{[], None, sym, rules}
use Rattle.zr_commit.proofs.Entries.{change_of}
use Rattle.zr_store_rows.proofs.commits.is_change.Goals as goal

pub returns : goal.returns
returns c = λ yes.
    let group = c.args.group.now in
    change_of group c.args.i c.id_at-id.result c.in-Some.object c.changes.result.now c.requires.rising c.requires.within (c.id_at-id.ensures.entry (0, record { object = None; blocks = [] })) (sym c.in-Some.ensures) c.changes.ensures.changes (search rules) (search rules) (c.are_block_changes.ensures yes)
