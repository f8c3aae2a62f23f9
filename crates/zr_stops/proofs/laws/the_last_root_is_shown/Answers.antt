use Rattle.zr_found.proofs.Alone.{one_meaning}
use Rattle.zr_image.specs.Reading.{store_of}
use Rattle.zr_newest.proofs.Newest.{devices_seen, only_newest}
use Rattle.zr_moved.proofs.Objects.{shown_objects}
use Rattle.zr_stops.proofs.laws.the_last_root_is_shown.Goals as goal
use Rattle.zr_vdev.specs.Runs.{view_of}

pub returns : goal.returns
returns c = λ paths image sizes u pool objects p ready from has shows.
    one_meaning (store_of (view_of image pool.table.slots pool.space)) pool.dir p.objects objects
    (shown_objects paths image sizes u pool p ready from has.reads has.head shows (only_newest image u pool.table.slots shows.seen has.newest shows.shown shows.root.uber shows.current) (devices_seen image u pool.table.slots shows.seen has.newest shows.shown)) has.objects
