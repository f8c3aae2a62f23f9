use Rattle.std.proofs.Common.{◌∙◌, ap, ◌++◌, List}
use Rattle.std.specs.List.{flat_map}
use Rattle.zr_meta.specs.declared.Stream.{Stream}
use Rattle.zr_meta.specs.Heads.{head_bytes, stream_bytes}
use Rattle.zr_meta.proofs.Backs.{laid}
use Rattle.zr_meta.proofs.write.encode_head.Goals as goal

pub returns : goal.returns
unfolding head_bytes
returns c = record {
  lawful = c.requires;
  spelling =
      laid _ _ _ _ _ _ _ _ _ c.new-bytes.ensures.items c.in_ok-put_front.ensures c.in_ok-put_saved.ensures c.in_ok-put_cond.ensures
      (c.in_ok-put_streams.ensures ∙ ap (λ (ss : List Stream). c.put_cond.new.bytes.items ++ flat_map stream_bytes ss) c.as_slice.ensures);
}
