-- Reading leaves what the disks hold.
use Rattle.std.proofs.Common.{◌≡◌, ℕ, List, None, sym, ap, subst}
use Rattle.std.specs.Prelude.{Option}
use Rattle.zr_cache.specs.declared.table.Cache.{Cache}
use Rattle.zr_model.specs.Objects.{Objects}
use Rattle.zr_rules.specs.Space.{Space}
use Rattle.zr_shelf.specs.Counts.{Counts}
use Rattle.zr_shelf.specs.Moments.{World}
use Rattle.zr_store.specs.Store.{Stored}
use Rattle.zr_vdev.specs.Runs.{view_of}
use Rattle.zr_vdev.specs.Stores.{HoldsBlocks, GoesOnReading}
use Rattle.zr_vdev.specs.declared.kind.Kind.TheVariants.{Block}
use Rattle.zr_vdev.proofs.Moves.{read_held}
use Rattle.zr_view.specs.Views.{address_bytes}
use Rattle.zr_sync.specs.Objects.{HoldsObjects}
use Rattle.zr_sync.specs.declared.open.OpenPool.{OpenPool}

blocks_stay : (slots : List (Option ℕ)) (space : Space) (n1 n2 : List ℕ) (c1 c2 : Counts) (t1 t2 : Type 0) (w1 w2 : World) (a b : Cache) (s : Stored) → GoesOnReading slots space n1 n2 c1 c2 t1 t2 w1 w2 a b
    → HoldsBlocks Block slots t1 w1.now.seen space None a s → HoldsBlocks Block slots t2 w2.now.seen space None b s
blocks_stay slots space n1 n2 c1 c2 t1 t2 w1 w2 a b s goes h =
    let seen : w2.now.seen ≡ w1.now.seen = ap (λ stand. stand.seen) (goes.still h.told).now in
    read_held Block slots t1 t2 w1.now.seen w2.now.seen space None a b s (goes.told h.told) (goes.read h.told h.read) (λ x at. ap (λ (disks : List (List ℕ)). address_bytes (view_of disks slots space) x) seen) h

pub reading_stays : (n1 n2 : List ℕ) (c1 c2 : Counts) (t1 t2 : Type 0) (w1 w2 : World) (x y : OpenPool) (objects : Objects) → y ≡ record x { cache = y.cache } → GoesOnReading x.table.slots x.space n1 n2 c1 c2 t1 t2 w1 w2 x.cache y.cache
    → HoldsObjects t1 w1.now.seen x objects → HoldsObjects t2 w2.now.seen y objects
reading_stays n1 n2 c1 c2 t1 t2 w1 w2 x y objects rest goes h =
    let z = record x { cache = y.cache } in
    let there : HoldsObjects t2 w2.now.seen z objects = record {
      stored = h.stored;
      held = blocks_stay x.table.slots x.space n1 n2 c1 c2 t1 t2 w1 w2 x.cache y.cache h.stored goes h.held;
      has = h.has;
    } in
    subst (λ (p : OpenPool). HoldsObjects t2 w2.now.seen p objects) (sym rest) there
