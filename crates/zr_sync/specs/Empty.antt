-- Streams of no words.
use Rattle.std.specs.Prelude.{false}
use Rattle.zr_bptr.specs.declared.Ptr.TheVariants.{Hole}
use Rattle.zr_meta.specs.declared.Stream.{Stream}
use Rattle.zr_sync.specs.declared.open.CondStreams.{CondStreams}
use Rattle.zr_sync.specs.declared.open.DeviceStreams.{DeviceStreams}

-- one stream
abbrev pub no_stream : Stream
no_stream = record { words = 0; tree = record { root = Hole; height = 0 } }

-- those of a device
abbrev pub no_streams : DeviceStreams
no_streams = record { held = no_stream; kept = no_stream; entries = no_stream; counts = no_stream; fresh = no_stream; late1 = no_stream; late2 = no_stream }

-- those of no condensing
abbrev pub no_cond : CondStreams
no_cond = record { entries = no_stream; counts = no_stream; done = false }
