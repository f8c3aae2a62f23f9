use Rattle.std.proofs.Common.{◌≡◌, ◌*◌, ◌<◌, ◌^◌, List, sum_by, sym, ◌∙◌, ap, subst}
use Rattle.std.specs.List.{flat_map, AllByRecursion}
use Rattle.sha2.specs.Sha256.{sha256}
use Rattle.zr_imap.specs.declared.image.Piece.{Piece}
use Rattle.zr_rules.specs.Equation.{devices_in}
use Rattle.zr_view.specs.Runs.{run_bytes, IsOnDisk}
use Rattle.zr_vdev.proofs.Reading.{lie_on_disks, begin_low, have_the_units, have_the_bytes}
use Rattle.zr_vdev.proofs.reads.read_block.Goals as goal

pub read_all-requires-clause-disks : goal.read_all-requires-clause-disks
read_all-requires-clause-disks g c =
    subst (λ (ps : List Piece). AllByRecursion (IsOnDisk (g.S.Shelf.sizes c.args.shelf.now) c.args.slots.now) ps) (sym c.as_slice.ensures.value)
    (lie_on_disks (g.S.Shelf.sizes c.args.shelf.now) c.args.slots.now (devices_in c.args.space.now) c.requires.mounted c.args.b.now.at c.in_ok-runs.runs.items c.in_ok-runs.ensures.runs)

pub read_all-requires-clause-small : goal.read_all-requires-clause-small
read_all-requires-clause-small g c =
    subst (λ (ps : List Piece). AllByRecursion (λ (p : Piece). p.at.start < 2 ^ 40) ps) (sym c.as_slice.ensures.value)
    (begin_low (g.S.Shelf.sizes c.args.shelf.now) c.args.slots.now (devices_in c.args.space.now) c.requires.mounted c.args.b.now.at c.in_ok-runs.runs.items c.in_ok-runs.ensures.runs)

pub read_all-requires-clause-size : goal.read_all-requires-clause-size
read_all-requires-clause-size g c =
    ap (λ (ps : List Piece). sum_by (λ (p : Piece). 4096 * p.at.len) ps) c.as_slice.ensures.value
    ∙ have_the_units (g.S.Shelf.sizes c.args.shelf.now) c.args.slots.now (devices_in c.args.space.now) c.requires.mounted c.args.b.now.at c.in_ok-runs.runs.items c.in_ok-runs.ensures.runs

pub returns-then-ne-clause-found : goal.returns-then-ne-clause-found
returns-then-ne-clause-found g c = λ told at expected found is.
    let seen = (g.S.Shelf.world c.args.shelf.now).now.seen in
    let bytes = c.in_ok-bytes.ensures.bytes told ∙ ap (λ (ps : List Piece). flat_map (run_bytes seen c.args.slots.now) ps) c.as_slice.ensures.value
    ∙ have_the_bytes c.args.slots.now (devices_in c.args.space.now) c.args.b.now.at c.in_ok-runs.runs.items c.in_ok-runs.ensures.runs seen in
    let same : c.sum_of-found.result ≡ found = cc in
    sym same ∙ c.sum_of-found.ensures.sum ∙ ap sha256 (c.as_slice-2.ensures.value ∙ bytes)

pub returns-clause-bytes : goal.returns-clause-bytes
returns-clause-bytes g c = λ told.
    let seen = (g.S.Shelf.world c.args.shelf.now).now.seen in
    c.in_ok-bytes.ensures.bytes told ∙ ap (λ (ps : List Piece). flat_map (run_bytes seen c.args.slots.now) ps) c.as_slice.ensures.value
    ∙ have_the_bytes c.args.slots.now (devices_in c.args.space.now) c.args.b.now.at c.in_ok-runs.runs.items c.in_ok-runs.ensures.runs seen
