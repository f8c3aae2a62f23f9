use Rattle.std.proofs.Common.{◌≡◌, ◌∙◌, ℕ, ◌<◌, Bool, true, List, rules, refl, sym, ap, subst, arith}
use Rattle.std.specs.Prelude.{slice_index_or}
use Rattle.zr_base.specs.declared.space.DevRow.{DevRow}
use Rattle.zr_base.specs.declared.space.DevState.TheVariants.{Gone}
use Rattle.zr_gone.specs.Order.{MayGo}
use Rattle.zr_label.specs.Blocks.{no_row}
use Rattle.zr_rules.specs.Places.{is_leaving, part_of, state_of_dev}
use Rattle.zr_rules.specs.Space.{Space, was_fresh, was_held, was_kept}
use Rattle.zr_rules.specs.Steps.{Finishes}
use Rattle.zr_sync.specs.Pools.{IsOpen}
use Rattle.zr_sync.specs.declared.open.Table.{Table}
use Rattle.zr_removal.specs.Rows.{IsPast, with_row}
use Rattle.zr_removal.proofs.Condensed.{itself}
use Rattle.zr_removal.proofs.Giving.{still_copied}
use Rattle.zr_removal.proofs.Gone.{gone_before, none_read, objects_gone, source_here}
use Rattle.zr_removal.proofs.GoneTrees.{streams_vanished}
use Rattle.zr_removal.proofs.Turned.{finishes_turn, leaving_is, leaving_there, still_open, turned_open}
use Rattle.zr_removal.proofs.evacuate.retire.Goals as goal

pub finish-requires-clause-copied : goal.finish-requires-clause-copied
finish-requires-clause-copied c = still_copied c.args.pool.now.space c.give_metadata.new.space c.in_ok-give_metadata.ensures.gives c.requires.pool.1.lawful c.requires.copied

pub finish-requires-clause-later : goal.finish-requires-clause-later
finish-requires-clause-later c =
    let yes : c.are_past.result ≡ true = search rules in
    gone_before c.requires.pool.0 c.args.pool.now c.give_metadata.new.space c.txg-txg.result c.requires.pool.1 c.in_ok-give_metadata.ensures.gives.others.rows (c.are_past.ensures.0 yes)

pub returns-clause-pool : goal.returns-clause-pool
returns-clause-pool c = λ sizes o.
    let x = c.args.pool.now in
    let d = c.in_ok-dev.dev in
    let given = c.give_metadata.new.space in
    let s = c.finish.new.self in
    let rows = c.in_ok-give_metadata.ensures.gives.others.rows in
    let out : is_leaving (state_of_dev x.space.parts.devs d) ≡ true = sym (ap (λ (r : DevRow). is_leaving r.state) (rows.each d).row) ∙ c.in_ok-dev.ensures.index in
    let there = leaving_there x.space.parts.devs d out in
    let count = o.devices in
    let size = o.table.size in
    let few = o.few in
    let known : d < x.table.count = omega (arith, there, count) in
    let yes : c.are_past.result ≡ true = search rules in
    let txg : c.txg-txg.result ≡ x.group.txg = c.txg-txg.ensures in
    let past : IsPast x.group.txg (slice_index_or x.table.rows d no_row) = subst (λ (n : ℕ). IsPast n (slice_index_or x.table.rows d no_row)) txg (c.are_past.ensures.0 yes d no_row (omega (arith, known, size, few))) in
    let done : Finishes given s d x.group.txg = subst (λ (n : ℕ). Finishes given s d n) txg c.in_ok-dev.ensures.ok in
    let row : DevRow = record (slice_index_or x.table.rows d no_row) { state = Gone; gone = x.group.txg } in
    let table : c.set_row.new.table ≡ with_row x.table d row = search rules in
    let turned : IsOpen sizes (record x { space = s; table = c.set_row.new.table }) =
    subst (λ (t : Table). IsOpen sizes (record x { space = s; table = t })) (sym table)
    (turned_open sizes x s d row o (finishes_turn sizes x s d o known given rows done (leaving_is (state_of_dev x.space.parts.devs d) out) past)) in
    still_open sizes (record x { space = s; table = c.set_row.new.table }) s c.clear.new.self x.cond x.turned turned (itself s) turned.cond turned.turned

-- ---- what the disks hold

pub returns-clause-objects : goal.returns-clause-objects
returns-clause-objects c = λ disks objects copies holds.
    let x = c.args.pool.now in
    let d = c.in_ok-dev.dev in
    let given = c.give_metadata.new.space in
    let gives = c.in_ok-give_metadata.ensures.gives in
    let leaving = c.in_ok-dev.ensures.index in
    let order = c.copies_in_order.ensures in
    let yes : c.are_past.result ≡ true = search rules in
    let may : MayGo given d c.txg-txg.result = record {
      order = record {
        lawful = gives.others.rows.lawful c.requires.pool.1.lawful;
        leaving = leaving;
        copied = λ u. order.copied d u leaving;
        unmarked = λ u. order.unmarked d u leaving;
        sources = λ e v copy. source_here given d (λ k is. c.one_leaves.ensures k d is leaving) e v copy (order.sources e v copy);
        ranked = order.ranked;
      };
      all = still_copied x.space given gives c.requires.pool.1.lawful c.requires.copied;
      later = gone_before c.requires.pool.0 x given c.txg-txg.result c.requires.pool.1 gives.others.rows (c.are_past.ensures.0 yes);
    } in
    let row : DevRow = record (slice_index_or x.table.rows d no_row) { state = Gone; gone = x.group.txg } in
    let table : c.set_row.new.table ≡ with_row x.table d row = search rules in
    objects_gone x _ given d c.txg-txg.result gives.others may c.in_ok-dev.ensures.ok c.clear.ensures.entries (ap (λ (t : Table). t.slots) table) refl refl (Unit {0}) disks objects copies holds

-- ---- the trees of the streams

pub returns-clause-root : goal.returns-clause-root
returns-clause-root c = λ clear.
    let x = c.args.pool.now in
    let d = c.in_ok-dev.dev in
    let given = c.give_metadata.new.space in
    let same : given ≡ x.space = c.in_ok-give_metadata.ensures.idle clear.saved (λ u. clear.leaving c.in-Some.leaving u c.in-Some.ensures.some) in
    let done = c.in_ok-dev.ensures in
    record {
      held = λ e u other. done.held e u other ∙ ap (λ (s : Space). was_held s e u) same;
      kept = λ e u other. done.kept e u other ∙ ap (λ (s : Space). was_kept s e u) same;
      fresh = λ e u. done.marks e u ∙ ap (λ (s : Space). was_fresh s e u) same;
      none = record { held = done.none_held; kept = done.none_kept };
      counts = done.counts ∙ ap (λ (s : Space). (part_of s.parts.devs d).counts) same;
    }

pub returns-clause-trees : goal.returns-clause-trees
returns-clause-trees c = λ clear others disks h.
    let x = c.args.pool.now in
    let d = c.in_ok-dev.dev in
    let given = c.give_metadata.new.space in
    let s = c.finish.new.self in
    let txg = c.txg-txg.result in
    let same : given ≡ x.space = c.in_ok-give_metadata.ensures.idle clear.saved (λ u. clear.leaving c.in-Some.leaving u c.in-Some.ensures.some) in
    let done : Finishes x.space s d txg = subst (λ (before : Space). Finishes before s d txg) same c.in_ok-dev.ensures.ok in
    let leaving : is_leaving (state_of_dev x.space.parts.devs d) ≡ true = subst (λ (before : Space). is_leaving (state_of_dev before.parts.devs d) ≡ true) same c.in_ok-dev.ensures.index in
    let row : DevRow = record (slice_index_or x.table.rows d no_row) { state = Gone; gone = x.group.txg } in
    let table : c.set_row.new.table ≡ with_row x.table d row = search rules in
    streams_vanished x _ d txg done (returns-clause-root c clear) refl (λ u. clear.leaving d u leaving) (ap (λ (t : Table). t.count) table) (ap (λ (t : Table). t.slots) table) others (Unit {0}) disks (none_read disks x.table.slots s c.clear.new.self c.clear.ensures.entries) h
