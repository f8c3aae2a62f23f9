use Rattle.std.proofs.Common.{◌≡◌, ◌+◌, sum_by, take}
use Rattle.zr_meta.specs.Heads.{stream_count}
use Rattle.zr_meta.proofs.form.streams_behind.Given as goal

abbrev pub invariant-loop-r : goal.invariant-loop-r
invariant-loop-r l = sum_by (λ r. stream_count l.form r.state) (take l.r-index l.table) + l.left ≡ l.fn.streams
