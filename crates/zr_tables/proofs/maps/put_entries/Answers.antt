use Rattle.std.proofs.Common.{◌≡◌, ℕ, List, sym, ap₂}
use Rattle.std.specs.Prelude.{slice_index}
use Rattle.zr_base.specs.declared.space.Entry.{Entry}
use Rattle.zr_rules.specs.Mappings.{entry_at}
use Rattle.zr_script.specs.declared.reply.MapLine.TheVariants as mapped
use Rattle.zr_tables.specs.Tables.{entry_line}
use Rattle.zr_tables.proofs.Lines.{entry_more}
use Rattle.zr_tables.proofs.maps.put_entries.Goals as goal

pub loop-i-preserved : goal.loop-i-preserved
loop-i-preserved c = λ p entries counts.
    let is : mapped.Entry (entry_at c.args.entries.now c.loop-i.i) (slice_index c.args.counts.now c.loop-i.i) ≡ entry_line p c.loop-i.i =
    ap₂ (λ (es : List Entry) (cs : List ℕ). mapped.Entry (entry_at es c.loop-i.i) (slice_index cs c.loop-i.i)) (sym entries) (sym counts) in
    entry_more (entry_line p) c.loop-i.i _ c.args.lines.now c.loop-i.lines c.push.new.self is (c.loop-i.invariant p entries counts) c.in_ok-push.ensures
