use Rattle.std.proofs.Common.{◌∙◌, not, refl, sym, ap}
use Rattle.zr_tables.specs.Audits.{audit_line}
use Rattle.zr_tables.proofs.Lines.{there, line_there, line_none}
use Rattle.zr_tables.proofs.audits.lines_of.Goals as goal

pub loop-index-preserved-then-is_gone : goal.loop-index-preserved-then-is_gone
loop-index-preserved-then-is_gone c =
    line_none (there c.args.space.now) (audit_line c.as_slice-walked.result.now c.as_slice-allocated.result.now) c.loop-index.index c.loop-index.lines (ap not (sym c.is_gone.ensures ∙ c.if-is_gone.true)) c.loop-index.invariant

pub loop-index-preserved : goal.loop-index-preserved
loop-index-preserved c =
    line_there (there c.args.space.now) (audit_line c.as_slice-walked.result.now c.as_slice-allocated.result.now) c.loop-index.index _ c.loop-index.lines c.push.new.self (ap not (sym c.is_gone.ensures ∙ c.if-is_gone.false)) refl c.loop-index.invariant c.in_ok-push.ensures
