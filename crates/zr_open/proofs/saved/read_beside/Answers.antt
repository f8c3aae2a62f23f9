use Rattle.std.proofs.Common.{rules, ◌≡◌, ◌∙◌, ℕ, List, [], Option, Err, inl, inr, refl, sym, ap, subst}
use Rattle.zr_image.specs.Roots.{IsSavedUber}
use Rattle.zr_image.specs.StateOf.{AreObjects}
use Rattle.zr_store.specs.Store.{Stored}
use Rattle.zr_sync.specs.declared.fault.Fault.TheVariants.{No}
use Rattle.zr_roots.specs.Standing.{Stands, blocks_of}
use Rattle.zr_open.specs.Roots.{told_root}
use Rattle.zr_open.proofs.Beside.{cut_blocks, cut_stands, saved_disks}
use Rattle.zr_open.proofs.Refusing.{unread_saved}
use Rattle.zr_open.proofs.Showing.{are, objects, own_rows}
use Rattle.zr_open.proofs.saved.read_beside.Goals as goal

pub read_saved-requires-clause-root : goal.read_saved-requires-clause-root
read_saved-requires-clause-root g c = (c.in-Some-saved_uber.ensures (told_root c.args.found.now.root c.args.current.now) refl refl).spelled.lawful

pub read_saved-requires-clause-disks : goal.read_saved-requires-clause-disks
read_saved-requires-clause-disks g c =
    let is = c.in-Some-saved_uber.ensures (told_root c.args.found.now.root c.args.current.now) refl refl in
    saved_disks c.args.found.now.root c.in-Some-saved_uber.uber c.requires.root is.spelled.lawful is.rows (g.S.Shelf.sizes c.args.shelf.now) c.args.found.now.slots c.own_slots.result c.own_slots.ensures.own c.requires.disks

pub returns-in-Err-clause-refused : goal.returns-in-Err-clause-refused
returns-in-Err-clause-refused g c = λ r is.
    let given : c.fault_of.result ≡ No r = cc in
    elim (unread_saved c.in-Err.error c.fault_of.result c.in-Err.ensures.unread c.fault_of.ensures r given) [ inl own ↦ inl own | inr eight ↦ inr (eight, (c.in-Some.block, c.in-Some.is)) ]

pub own_slots-requires-clause-few : goal.own_slots-requires-clause-few
own_slots-requires-clause-few g c = (c.in-Some-saved_uber.ensures (told_root c.args.found.now.root c.args.current.now) refl refl).spelled.lawful.head.devices

pub returns-in_err-open_saved-clause-refused : goal.returns-in_err-open_saved-clause-refused
returns-in_err-open_saved-clause-refused g c = λ r is.
    let told = c.in_err-open_saved.field-0.0 in
    let e : c.from_residual.result ≡ Err told = search rules in
    let both = sym e ∙ is in
    let same : told ≡ No r = cc in
    elim (c.in_err-open_saved.ensures.refused r (ap Err same)) [ inl own ↦ inl own | inr eight ↦ inr (eight, (c.in-Some.block, c.in-Some.is)) ]

pub open_saved-requires-clause-uber : goal.open_saved-requires-clause-uber
open_saved-requires-clause-uber g c = (c.in-Some-saved_uber.ensures (told_root c.args.found.now.root c.args.current.now) refl refl).spelled.lawful

pub returns-clause-beside : goal.returns-clause-beside
returns-clause-beside g c =
    let is = subst (λ (b : List ℕ). IsSavedUber (told_root c.args.found.now.root c.args.current.now) b c.in-Some-saved_uber.uber) c.as_slice.ensures (c.in-Some-saved_uber.ensures (told_root c.args.found.now.root c.args.current.now) refl refl) in
    let u = c.in-Some-saved_uber.uber in
    let root = c.in-Ok.root in
    let own = c.in_ok-open_saved.ensures in
    let pool = c.in_ok-open_saved.field-0 in
    let sizes = g.S.Shelf.sizes c.args.shelf.now in
    let disks = (g.S.Shelf.world c.args.shelf.now).now.seen in
    let tells = g.S.Shelf.tells c.args.shelf.now in
    let slots = c.args.found.now.slots in
    let cut = c.own_slots.result in
    let ready = own.open sizes (saved_disks c.args.found.now.root u c.requires.root is.spelled.lawful is.rows sizes slots cut c.own_slots.ensures.own c.requires.disks) in
    let mapped = c.in-Ok.ensures.mapped in (
      c.in-Some.block,
      c.in-Some.is,
      record {
        is_saved = is;
        head = c.in-Ok.ensures.head;
        mapped = mapped;
        stands = λ t.
            let sound = g.S.Shelf.sound c.args.shelf.now t in
            let stands = subst (λ (ss : List (Option ℕ)). Stands disks ss u root) (sym own.slots) (c.in-Ok.ensures.stands t) in
            cut_stands disks slots cut u root (own_rows tells t disks sizes sound.sized u pool root [] is.spelled.lawful ready own.fresh own.parts mapped stands) c.own_slots.ensures.own (c.in-Ok.ensures.stands t);
        objects = λ t.
            let sound = g.S.Shelf.sound c.args.shelf.now t in
            let stands = subst (λ (ss : List (Option ℕ)). Stands disks ss u root) (sym own.slots) (c.in-Ok.ensures.stands t) in
            let rows = own_rows tells t disks sizes sound.sized u pool root [] is.spelled.lawful ready own.fresh own.parts mapped stands in
            let os = objects tells t disks sizes sound.sized u pool root [] is.spelled.lawful ready own.fresh own.parts mapped stands in (
              os,
              subst (λ (s : Stored). AreObjects s root.head.dir os) (cut_blocks disks slots cut u root rows c.own_slots.ensures.own)
                  (subst (λ (ss : List (Option ℕ)). AreObjects (blocks_of disks ss root) root.head.dir os) own.slots
                  (are tells t disks sizes sound.sized u pool root [] is.spelled.lawful ready own.fresh own.parts mapped stands)),
            );
        space = (pool.space, own.parts.space, own.room);
        clear = c.in-Ok.ensures.clear;
        fits = c.in-Ok.ensures.fits;
      },
    )
