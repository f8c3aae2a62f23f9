use Rattle.std.proofs.Common.{◌∙◌, ℕ, List, Option, Bor, sym, ap}
use Rattle.zr_shelf.specs.Disks.{Stand}
use Rattle.zr_rules.specs.Space.{Space}
use Rattle.zr_view.specs.Views.{address_bytes}
use Rattle.zr_vdev.specs.Runs.{view_of}
use Rattle.zr_vdev.proofs.Follows.{reads_more}
use Rattle.zr_vdev.proofs.reader.ReaderBlocks.get.Goals as goal

pub returns-clause-follows : goal.returns-clause-follows
returns-clause-follows g c = λ start h.
    let e = c.get_block.ensures in (
      h.0,
      h.1,
      h.2,
      h.3,
      reads_more (ap (λ (x : Bor (List (Option ℕ))). x.now) h.3) (ap (λ (x : Bor Space). x.now) h.2) h.4
          (record { sizes = e.sizes; none_fell = e.none_fell; told = e.told; still = e.still; read = e.cache; room = e.room }),
    )

pub returns-clause-same : goal.returns-clause-same
returns-clause-same g c = λ s held.
    let v = c.args.self.now in
    let e = c.get_block.ensures in
    record {
      told = e.told held.told;
      read = e.cache held.told held.read;
      alone = held.alone;
      resolves = held.resolves;
      bytes = λ b. held.bytes b ∙ sym (ap (λ (stand : Stand). address_bytes (view_of stand.seen v.slots.now v.space.now) b.at) (e.still held.told).now);
    }
