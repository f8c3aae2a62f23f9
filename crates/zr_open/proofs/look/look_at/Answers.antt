use Rattle.std.proofs.Common.{rules, ◌≡◌, ◌∙◌, List, inl, inr, Err, refl, sym, ap, subst}
use Rattle.zr_base.specs.declared.space.Dva.{Dva}
use Rattle.zr_shelf.specs.Disks.{Stand}
use Rattle.zr_shelf.proofs.Runs.{still_trans}
use Rattle.zr_sync.specs.declared.fault.Fault.TheVariants.{No}
use Rattle.zr_meta.specs.Heads.{IsSaved}
use Rattle.zr_open.specs.Roots.{HasParts, IsKept}
use Rattle.zr_open.proofs.Beside.{beside_moved, has_block, has_saved, head_on, lawful_saved}
use Rattle.zr_open.proofs.Refusing.{unread_root}
use Rattle.zr_open.proofs.look.look_at.Goals as goal

pub returns-in-Err-clause-refused : goal.returns-in-Err-clause-refused
returns-in-Err-clause-refused g c = λ r is. let given : c.fault_of.result ≡ No r = cc in inl (unread_root c.in-Err.error c.fault_of.result c.in-Err.ensures.unread c.fault_of.ensures r given)

pub returns-in_err-saved-clause-still : goal.returns-in_err-saved-clause-still
returns-in_err-saved-clause-still g c = λ t.
    still_trans (g.S.Shelf.world c.args.shelf.now) (g.S.Shelf.world c.read.new.shelf) (g.S.Shelf.world c.read_beside.new.shelf) (c.in-Ok.ensures.still t) (c.in_err-saved.ensures.still (c.in-Ok.ensures.told t))

pub returns-in_err-saved-clause-refused : goal.returns-in_err-saved-clause-refused
returns-in_err-saved-clause-refused g c = λ r is.
    let told = c.in_err-saved.field-0.0 in
    let e : c.from_residual.result ≡ Err told = search rules in
    let both = sym e ∙ is in
    let same : told ≡ No r = cc in
    let root = c.in-Ok.root in
    elim (c.in_err-saved.ensures.refused r (ap Err same)) [
      | inl own ↦ inl own
      | inr other ↦ inr (other.0, (other.1.0, (root.head, head_on _ _ _ _ root c.in-Ok.ensures.head c.in-Ok.ensures.stands, other.1.1)))
    ]

pub checkpoint_of-requires-clause-there : goal.checkpoint_of-requires-clause-there
checkpoint_of-requires-clause-there g c =
    has_saved (g.S.Shelf.tells c.read.new.shelf) (g.S.Shelf.world c.read.new.shelf).now.seen c.args.found.now.slots c.args.found.now.root c.in-Ok.root c.in_ok-saved.saved c.in_ok-saved.ensures.beside

pub checkpoint_of-requires-clause-lawful : goal.checkpoint_of-requires-clause-lawful
checkpoint_of-requires-clause-lawful g c =
    lawful_saved (g.S.Shelf.tells c.read.new.shelf) (g.S.Shelf.world c.read.new.shelf).now.seen c.args.found.now.slots c.args.found.now.root c.in-Ok.root c.in_ok-saved.saved c.in_ok-saved.ensures.beside

pub open-requires-clause-saved : goal.open-requires-clause-saved
open-requires-clause-saved g c = λ told. subst (IsSaved c.in-Ok.root.head.ckpt) (sym c.in_ok-checkpoint.ensures.block) c.in-Ok.ensures.head.saved

pub returns-in_err-checkpoint-clause-still : goal.returns-in_err-checkpoint-clause-still
returns-in_err-checkpoint-clause-still g c = λ t.
    still_trans (g.S.Shelf.world c.args.shelf.now) (g.S.Shelf.world c.read.new.shelf) (g.S.Shelf.world c.read_beside.new.shelf) (c.in-Ok.ensures.still t) (c.in_ok-saved.ensures.still (c.in-Ok.ensures.told t))

pub returns-in_err-pool-clause-still : goal.returns-in_err-pool-clause-still
returns-in_err-pool-clause-still g c = λ t.
    still_trans (g.S.Shelf.world c.args.shelf.now) (g.S.Shelf.world c.read.new.shelf) (g.S.Shelf.world c.read_beside.new.shelf) (c.in-Ok.ensures.still t) (c.in_ok-saved.ensures.still (c.in-Ok.ensures.told t))

pub returns-in_err-pool-clause-refused : goal.returns-in_err-pool-clause-refused
returns-in_err-pool-clause-refused g c = λ r is.
    let told = c.in_err-pool.field-0.0 in
    let e : c.from_residual-in_err-pool.result ≡ Err told = search rules in
    let both = sym e ∙ is in
    let same : told ≡ No r = cc in
    let u = c.args.found.now.root in
    let slots = c.args.found.now.slots in
    let root = c.in-Ok.root in
    elim (c.in_err-pool.ensures.refused r (ap Err same)) [
      | inl own ↦ inl own
      | inr other ↦
          let block = has_block (g.S.Shelf.tells c.read.new.shelf) (g.S.Shelf.world c.read.new.shelf).now.seen slots u root c.in_ok-saved.saved c.saved_meta.result.now c.saved_meta.ensures other.1 c.in_ok-saved.ensures.beside in
          inr (other.0, (block.0, (root.head, head_on _ _ _ _ root c.in-Ok.ensures.head c.in-Ok.ensures.stands, block.1)))
    ]

pub returns-clause-still : goal.returns-clause-still
returns-clause-still g c = λ t.
    still_trans (g.S.Shelf.world c.args.shelf.now) (g.S.Shelf.world c.read.new.shelf) (g.S.Shelf.world c.read_beside.new.shelf) (c.in-Ok.ensures.still t) (c.in_ok-saved.ensures.still (c.in-Ok.ensures.told t))

pub returns-clause-looked : goal.returns-clause-looked
returns-clause-looked g c =
    let first = c.in-Ok.ensures in
    let own = c.in_ok-pool.ensures in
    let u = c.args.found.now.root in
    let slots = c.args.found.now.slots in
    let root = c.in-Ok.root in
    let tells = g.S.Shelf.tells c.args.shelf.now in
    let disks = (g.S.Shelf.world c.args.shelf.now).now.seen in
    record {
      uber = c.requires.uber;
      long = c.requires.long;
      mounted = c.requires.disks;
      head = first.head;
      mapped = first.mapped;
      stands = first.stands;
      beside = beside_moved (g.S.Shelf.tells c.read.new.shelf) tells (g.S.Shelf.world c.read.new.shelf).now.seen disks slots slots first.told (λ t. ap (λ (s : Stand). s.seen) (first.still t).now) (λ d. refl) u root c.in_ok-saved.saved c.in_ok-saved.ensures.beside;
      ready = own.open (g.S.Shelf.sizes c.args.shelf.now) c.requires.disks;
      fresh = own.fresh;
      parts = subst (λ (meta : List Dva). HasParts root meta c.in_ok-pool.pool) c.saved_meta.ensures own.parts;
      kept = subst (IsKept c.in_ok-saved.saved) (sym own.kept) c.in_ok-checkpoint.ensures.kept;
      same = own.slots;
      room = own.room;
      groups = own.groups;
    }
