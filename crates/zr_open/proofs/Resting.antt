-- A pool that was opened stands as a commit left it.
use Rattle.std.proofs.Common.{◌≡◌, ℕ, List, Option, Some, sym, ap, subst}
use Rattle.std.specs.Prelude.{IfSome}
use Rattle.zr_base.specs.declared.space.Dva.{Dva}
use Rattle.zr_image.specs.Roots.{rows_of}
use Rattle.zr_import.specs.declared.roots.Root.{Root}
use Rattle.zr_label.specs.Blocks.{IsUber}
use Rattle.zr_label.specs.declared.root.Uber.{Uber}
use Rattle.zr_meta.specs.Heads.{IsHead}
use Rattle.zr_roots.specs.Standing.{Stands}
use Rattle.zr_shelf.proofs.Doings.{flushed_at_rest}
use Rattle.zr_shelf.specs.Disks.{IsAtRest, Stand}
use Rattle.zr_shelf.specs.Moments.{World}
use Rattle.zr_sync.specs.Commits.{IsShownFrom}
use Rattle.zr_sync.specs.Heads.{HasDirectory, HasSafeHead}
use Rattle.zr_sync.specs.Moves.{TellsMoves}
use Rattle.zr_sync.specs.Pools.{IsOpen}
use Rattle.zr_sync.specs.declared.open.OpenPool.{OpenPool}
use Rattle.zr_vdev.specs.Runs.{view_of}
use Rattle.zr_view.specs.Views.{address_bytes}
use Rattle.zr_open.proofs.OwnTrees.{shown_bytes}
use Rattle.zr_open.proofs.Telling.{directory_of, safe_of, told_moves}
use Rattle.zr_open.specs.Left.{IsLeftCommitted}
use Rattle.zr_open.specs.Opened.{IsFresh}
use Rattle.zr_open.specs.Roots.{HasParts}

module _ (disks : List (List ℕ)) (sizes : List ℕ) (u : Uber) (pool : OpenPool) (r : Root) (saved : List Dva) (lawful : IsUber u) (ready : IsOpen sizes pool) (fresh : IsFresh u pool) (is_head : IsHead (rows_of u) r.head) (parts : HasParts r saved pool)
    (stands : Stands disks pool.table.slots u r) where
  -- on disks at rest where each address reads the same
  left_as_read : (now : Stand) → ((a : Dva) → address_bytes (view_of now.seen pool.table.slots pool.space) a ≡ address_bytes (view_of disks pool.table.slots pool.space) a) → IsAtRest now → IsLeftCommitted now pool
  left_as_read now same rest =
      let moves = told_moves disks now.seen sizes u pool r saved lawful ready fresh is_head parts stands same in (
        record {
          empty = fresh.empty;
          settled = parts.space.opened;
          rest = rest;
          head = subst (λ (o : Option Uber). IfSome o (λ (v : Uber). HasDirectory now.seen pool v.root v.len)) (sym fresh.last) (directory_of now.seen pool u.root u.len moves);
          safe = subst (λ (o : Option Uber). IfSome o (λ (v : Uber). HasSafeHead now.seen pool v.root v.len)) (sym fresh.last) (safe_of now.seen pool u.root u.len moves);
        },
        subst (λ (o : Option Uber). IfSome o (λ (v : Uber). TellsMoves now.seen pool v.root v.len)) (sym fresh.last) moves,
      )

  -- as these disks have it
  pub leaves_there : (now : Stand) → now.seen ≡ disks → IsAtRest now → IsLeftCommitted now pool
  leaves_there now same rest = left_as_read now (λ a. ap (λ (ds : List (List ℕ)). address_bytes (view_of ds pool.table.slots pool.space) a) same) rest

  -- and as its root was published behind that
  pub leaves_shown : (last v : Uber) (read now : World) → read.now.seen ≡ disks → IsUber v → IsShownFrom sizes (record pool { last = Some last }) v read now → IsLeftCommitted now.now pool
  leaves_shown last v read now same is shown =
      left_as_read now.now (shown_bytes sizes pool last v read now ready is shown disks same) (flushed_at_rest shown.published.whole.now now.now shown.published.behind.step)
