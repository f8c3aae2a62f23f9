use Rattle.std.proofs.Common.{sym}
use Rattle.zr_held.proofs.Reading.{object_of, bytes_read, none_read}
use Rattle.zr_held.proofs.bytes_read.Goals as goal

pub returns : goal.returns
returns c = λ s a objects id r off len bytes has found some size sound each.
    let o = object_of s a objects id r has found in
    (o.0, o.1, (sym (bytes_read s a id r o.0 found o.2 off len bytes some size sound each), none_read s a id r o.0 found o.2 off len sound))
