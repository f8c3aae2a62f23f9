use Rattle.std.proofs.Common.{◌≡◌, List, Ok, Err, take, subst, rules}
use Rattle.zr_base.specs.declared.refusal.Refusal.{Refusal}
use Rattle.zr_label.specs.declared.root.Seen.{Seen}
use Rattle.zr_image.specs.Current.{FindsCurrent, slots_of}
use Rattle.zr_sync.specs.declared.fault.Fault.TheVariants.{No}
use Rattle.zr_open.proofs.Slots.{has_disks, same_slots, same_refusal}
use Rattle.zr_open.proofs.find.scan.Goals as goal

pub returns-in_err-found-clause-refused : goal.returns-in_err-found-clause-refused
returns-in_err-found-clause-refused g c = λ r is.
    let told = c.in_err-found.field-0.0 in
    let e : c.from_residual-in_err-found.result ≡ Err (No told) = search rules in
    let same = same_refusal c.from_residual-in_err-found.result told r e is in
    record {
      seen = c.in_ok-seen.seen;
      shown = record { count = c.in_ok-seen.ensures.count; lawful = c.in_ok-seen.ensures.sized; shows = c.in_ok-seen.ensures.shows };
      finds = subst (λ (seen : List Seen). FindsCurrent seen (Err r)) c.as_slice.ensures (subst (λ (x : Refusal). FindsCurrent c.as_slice.result.now (Err x)) same c.in_err-found.ensures.finds);
    }

pub returns-clause-scanned : goal.returns-clause-scanned
returns-clause-scanned g c =
    let found = c.in_ok-found.found in
    let own = c.in_ok-found.ensures in
    let seen = c.in_ok-seen.seen in
    let there = c.in_ok-seen.ensures in
    let sizes = g.S.Shelf.sizes c.args.shelf.now in
    let finds = subst (λ (s : List Seen). FindsCurrent s (Ok found.root)) c.as_slice.ensures own.finds in
    let slots = subst (λ (s : List Seen). take found.root.count found.slots ≡ slots_of found.root s) c.as_slice.ensures own.slots in
    record {
      shown = record { count = there.count; lawful = there.sized; shows = there.shows };
      lawful = there.lawful;
      finds = finds;
      slots = same_slots sizes seen found.root there.count there.sized found.slots slots own.rest;
      uber = own.root;
      long = search rules;
      mounted = has_disks sizes seen found.root there.count there.sized found.slots slots own.rest finds;
    }
