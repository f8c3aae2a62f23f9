use Rattle.std.proofs.Common.{◌≡◌, ◌∙◌, ℕ, not, filter, List, sym, subst}
use Rattle.zr_shelf.specs.Doings.{WritesOnly}
use Rattle.zr_chain.specs.Visits.{as_part}
use Rattle.zr_rules.specs.Equation.{devices_in}
use Rattle.zr_rules.specs.Frees.{IsSameRoot}
use Rattle.zr_rules.specs.Space.{Space}
use Rattle.zr_space.specs.Plans.{IsPlan, MakesCopy}
use Rattle.zr_space.specs.declared.copy.Plan.{Plan}
use Rattle.zr_view.specs.Runs.{run_bytes}
use Rattle.zr_cache.specs.Entries.{entries, is_in}
use Rattle.zr_vdev.specs.Alike.{CopiesStand}
use Rattle.zr_vdev.specs.Caches.{AreRead}
use Rattle.zr_vdev.specs.Copies.{run_of}
use Rattle.zr_vdev.specs.Mounts.{AreMounted}
use Rattle.zr_vdev.specs.Puts.{IsWriteOf}
use Rattle.zr_vdev.proofs.Follows.{root_itself}
use Rattle.zr_vdev.proofs.Carrying.{alike_itself, makes_alike, mounted_alike, read_over, source_on_disk, source_small, place_has_disk, into_free}
use Rattle.zr_vdev.proofs.Placed.{copies_left, copies_made}
use Rattle.zr_vdev.proofs.copy.copy_front.Goals as goal

pub returns-in-Err-clause-cache : goal.returns-in-Err-clause-cache
returns-in-Err-clause-cache g c = λ told read. subst (λ (x : Space). AreRead (g.S.Shelf.world c.args.shelf.now).now.seen c.args.slots.now x c.args.cache.now) (sym c.in-Err.ensures.err) read

pub carry-requires-clause-source : goal.carry-requires-clause-source
carry-requires-clause-source g c =
    let s = c.args.space in
    let slots = c.args.slots.now in
    let d = c.in-Ok.copying.dev in
    let p : Plan = c.in-Ok.copying.plan in
    let plan : IsPlan s d p = c.in-Ok.ensures.plan.plan in
    rw c.run_of-from.ensures rw c.dev.ensures.dev rw c.plan-plan.ensures (source_on_disk (g.S.Shelf.sizes c.args.shelf.now) slots s d p c.requires.mounted plan)

pub carry-requires-clause-source_small : goal.carry-requires-clause-source_small
carry-requires-clause-source_small g c =
    let s = c.args.space in
    let slots = c.args.slots.now in
    let d = c.in-Ok.copying.dev in
    let p : Plan = c.in-Ok.copying.plan in
    let plan : IsPlan s d p = c.in-Ok.ensures.plan.plan in
    rw c.run_of-from.ensures rw c.plan-plan.ensures (source_small (g.S.Shelf.sizes c.args.shelf.now) slots s d p c.requires.mounted plan)

pub carry-requires-clause-place : goal.carry-requires-clause-place
carry-requires-clause-place g c =
    let s = c.args.space in
    let slots = c.args.slots.now in
    let d = c.in-Ok.copying.dev in
    let p : Plan = c.in-Ok.copying.plan in
    let plan : IsPlan s d p = c.in-Ok.ensures.plan.plan in
    rw c.plan-plan.ensures (place_has_disk (g.S.Shelf.sizes c.args.shelf.now) slots s d p c.requires.mounted plan)

pub returns-in-Ok-carry-clause-mounted : goal.returns-in-Ok-carry-clause-mounted
returns-in-Ok-carry-clause-mounted g c =
    let s = c.args.space in
    let slots = c.args.slots.now in
    let d = c.in-Ok.copying.dev in
    let p : Plan = c.in-Ok.copying.plan in
    let plan : IsPlan s d p = c.in-Ok.ensures.plan.plan in
    let made : MakesCopy s c.done.result d p = subst (λ (x : Space). MakesCopy x c.done.result d p) c.in-Ok.ensures.before c.done.ensures.made in
    let alike = makes_alike s c.done.result d p plan.leaving made in
    subst (λ (n : List ℕ). AreMounted n slots (devices_in c.done.result)) (sym c.carry.ensures.sizes) (mounted_alike (devices_in s) (devices_in c.done.result) alike (g.S.Shelf.sizes c.args.shelf.now) slots c.requires.mounted)

pub returns-in-Ok-carry-clause-written : goal.returns-in-Ok-carry-clause-written
returns-in-Ok-carry-clause-written g c = λ told.
    let s = c.args.space in
    let slots = c.args.slots.now in
    let d = c.in-Ok.copying.dev in
    let p : Plan = c.in-Ok.copying.plan in
    let plan : IsPlan s d p = c.in-Ok.ensures.plan.plan in
    let old = g.S.Shelf.world c.args.shelf.now in
    let new = g.S.Shelf.world c.carry.new.shelf in
    let writes : g.S.Shelf.tells c.args.shelf.now → WritesOnly (IsWriteOf slots p.to) old new = λ told. rw c.plan-plan.ensures at (c.carry.ensures.writes told) in
    into_free (g.S.Shelf.sizes c.args.shelf.now) slots s d p c.requires.mounted plan old new (writes told)

pub returns-in-Ok-carry-clause-cache : goal.returns-in-Ok-carry-clause-cache
returns-in-Ok-carry-clause-cache g c = λ told read.
    let s = c.args.space in
    let slots = c.args.slots.now in
    let d = c.in-Ok.copying.dev in
    let p : Plan = c.in-Ok.copying.plan in
    let plan : IsPlan s d p = c.in-Ok.ensures.plan.plan in
    let old = g.S.Shelf.world c.args.shelf.now in
    let new = g.S.Shelf.world c.carry.new.shelf in
    let writes : g.S.Shelf.tells c.args.shelf.now → WritesOnly (IsWriteOf slots p.to) old new = λ told. rw c.plan-plan.ensures at (c.carry.ensures.writes told) in
    let left : entries c.carry.new.cache ≡ filter (λ e. not (is_in (as_part p.to) e)) (entries c.args.cache.now) = rw c.plan-plan.ensures at c.carry.ensures.forgotten in
    let made : MakesCopy s c.done.result d p = subst (λ (x : Space). MakesCopy x c.done.result d p) c.in-Ok.ensures.before c.done.ensures.made in
    let alike = makes_alike s c.done.result d p plan.leaving made in
    read_over slots p.to c.requires.mounted.apart old new (writes told) s c.done.result (alike) c.args.cache.now c.carry.new.cache left read

pub returns-in-Err-Failed-clause-written : goal.returns-in-Err-Failed-clause-written
returns-in-Err-Failed-clause-written g c = λ told.
    let s = c.args.space in
    let slots = c.args.slots.now in
    let d = c.in-Ok.copying.dev in
    let p : Plan = c.in-Ok.copying.plan in
    let plan : IsPlan s d p = c.in-Ok.ensures.plan.plan in
    let old = g.S.Shelf.world c.args.shelf.now in
    let new = g.S.Shelf.world c.carry.new.shelf in
    let writes : g.S.Shelf.tells c.args.shelf.now → WritesOnly (IsWriteOf slots p.to) old new = λ told. rw c.plan-plan.ensures at (c.carry.ensures.writes told) in
    into_free (g.S.Shelf.sizes c.args.shelf.now) slots s d p c.requires.mounted plan old new (writes told)

pub returns-in-Err-Failed-clause-cache : goal.returns-in-Err-Failed-clause-cache
returns-in-Err-Failed-clause-cache g c = λ told read.
    let s = c.args.space in
    let slots = c.args.slots.now in
    let d = c.in-Ok.copying.dev in
    let p : Plan = c.in-Ok.copying.plan in
    let plan : IsPlan s d p = c.in-Ok.ensures.plan.plan in
    let old = g.S.Shelf.world c.args.shelf.now in
    let new = g.S.Shelf.world c.carry.new.shelf in
    let writes : g.S.Shelf.tells c.args.shelf.now → WritesOnly (IsWriteOf slots p.to) old new = λ told. rw c.plan-plan.ensures at (c.carry.ensures.writes told) in
    let left : entries c.carry.new.cache ≡ filter (λ e. not (is_in (as_part p.to) e)) (entries c.args.cache.now) = rw c.plan-plan.ensures at c.carry.ensures.forgotten in
    subst (λ (x : Space). AreRead new.now.seen slots x c.carry.new.cache) (sym (c.failed.ensures ∙ c.in-Ok.ensures.before)) (read_over slots p.to c.requires.mounted.apart old new (writes told) s s (alike_itself (devices_in s)) c.args.cache.now c.carry.new.cache left read)

pub returns-in-Err-clause-copies : goal.returns-in-Err-clause-copies
returns-in-Err-clause-copies g c = λ told stand. subst (λ (x : Space). CopiesStand (g.S.Shelf.world c.args.shelf.now).now.seen c.args.slots.now x) (sym c.in-Err.ensures.err) stand

pub returns-in-Ok-carry-clause-copies : goal.returns-in-Ok-carry-clause-copies
returns-in-Ok-carry-clause-copies g c = λ told stand.
    let s = c.args.space in
    let slots = c.args.slots.now in
    let d = c.in-Ok.copying.dev in
    let p : Plan = c.in-Ok.copying.plan in
    let plan : IsPlan s d p = c.in-Ok.ensures.plan.plan in
    let old = g.S.Shelf.world c.args.shelf.now in
    let new = g.S.Shelf.world c.carry.new.shelf in
    let writes : g.S.Shelf.tells c.args.shelf.now → WritesOnly (IsWriteOf slots p.to) old new = λ told. rw c.plan-plan.ensures at (c.carry.ensures.writes told) in
    let made : MakesCopy s c.done.result d p = subst (λ (x : Space). MakesCopy x c.done.result d p) c.in-Ok.ensures.before c.done.ensures.made in
    let there : run_bytes new.now.seen slots (as_part p.to) ≡ run_bytes old.now.seen slots (run_of d p.from) = rw c.plan-plan.ensures at rw c.dev.ensures.dev at rw c.run_of-from.ensures at (c.in-Ok-carry.ensures.there told) in
    copies_made slots c.requires.mounted.apart s d p plan old new (writes told) c.done.result made there c.lawful.ensures.lawful stand

pub returns-in-Err-Failed-clause-copies : goal.returns-in-Err-Failed-clause-copies
returns-in-Err-Failed-clause-copies g c = λ told stand.
    let s = c.args.space in
    let slots = c.args.slots.now in
    let d = c.in-Ok.copying.dev in
    let p : Plan = c.in-Ok.copying.plan in
    let plan : IsPlan s d p = c.in-Ok.ensures.plan.plan in
    let old = g.S.Shelf.world c.args.shelf.now in
    let new = g.S.Shelf.world c.carry.new.shelf in
    let writes : g.S.Shelf.tells c.args.shelf.now → WritesOnly (IsWriteOf slots p.to) old new = λ told. rw c.plan-plan.ensures at (c.carry.ensures.writes told) in
    subst (λ (x : Space). CopiesStand new.now.seen slots x) (sym (c.failed.ensures ∙ c.in-Ok.ensures.before)) (copies_left slots c.requires.mounted.apart s d p plan old new (writes told) stand)

pub returns-in-Err-carry : goal.returns-in-Err-carry
returns-in-Err-carry g c =
    let s = c.args.space in
    let slots = c.args.slots.now in
    let d = c.in-Ok.copying.dev in
    let p : Plan = c.in-Ok.copying.plan in
    let plan : IsPlan s d p = c.in-Ok.ensures.plan.plan in
    let old = g.S.Shelf.world c.args.shelf.now in
    let new = g.S.Shelf.world c.carry.new.shelf in
    let writes : g.S.Shelf.tells c.args.shelf.now → WritesOnly (IsWriteOf slots p.to) old new = λ told. rw c.plan-plan.ensures at (c.carry.ensures.writes told) in
    let left : entries c.carry.new.cache ≡ filter (λ e. not (is_in (as_part p.to) e)) (entries c.args.cache.now) = rw c.plan-plan.ensures at c.carry.ensures.forgotten in
    let same = c.failed-in-Err-carry.ensures ∙ c.in-Ok.ensures.before in
    record {
      sizes = c.carry.ensures.sizes;
      none_fell = c.carry.ensures.none_fell;
      mounted = subst (λ (n : List ℕ). AreMounted n slots (devices_in c.failed-in-Err-carry.result)) (sym c.carry.ensures.sizes) (subst (λ (x : Space). AreMounted (g.S.Shelf.sizes c.args.shelf.now) slots (devices_in x)) (sym same) c.requires.mounted);
      told = c.carry.ensures.told;
      units = tt;
      some = tt;
      root = subst (λ (x : Space). IsSameRoot c.args.space x) (sym same) (root_itself c.args.space);
      fault = tt;
      same = tt;
      err = same;
      written = λ told. into_free (g.S.Shelf.sizes c.args.shelf.now) slots s d p c.requires.mounted plan old new (writes told);
      copies = λ told stand. subst (λ (x : Space). CopiesStand new.now.seen slots x) (sym same) (copies_left slots c.requires.mounted.apart s d p plan old new (writes told) stand);
      cache = λ told read. subst (λ (x : Space). AreRead new.now.seen slots x c.carry.new.cache) (sym (same)) (read_over slots p.to c.requires.mounted.apart old new (writes told) s s (alike_itself (devices_in s)) c.args.cache.now c.carry.new.cache left read);
      capacity = c.carry.ensures.room;
    }

pub returns-in-Err-clause-root : goal.returns-in-Err-clause-root
returns-in-Err-clause-root g c = subst (λ (x : Space). IsSameRoot c.args.space x) (sym c.in-Err.ensures.err) (root_itself c.args.space)

pub returns-in-Ok-carry-clause-root : goal.returns-in-Ok-carry-clause-root
returns-in-Ok-carry-clause-root g c = subst (λ (x : Space). IsSameRoot x c.done.result) c.in-Ok.ensures.before c.done.ensures.root

pub returns-in-Err-Failed-clause-root : goal.returns-in-Err-Failed-clause-root
returns-in-Err-Failed-clause-root g c = subst (λ (x : Space). IsSameRoot c.args.space x) (sym (c.failed.ensures ∙ c.in-Ok.ensures.before)) (root_itself c.args.space)
