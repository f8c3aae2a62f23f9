use Rattle.std.proofs.Common.{◌∙◌}
use Rattle.zr_label.proofs.RowLemmas.{pieces_read}
use Rattle.zr_label.proofs.rows.rows_at.Goals as goal

pub returns : goal.returns
returns c = c.rows_of.ensures ∙ pieces_read c.args.bytes.now _ c.requires c.as_chunks.ensures.front
