use Rattle.std.proofs.Common.{◌≡◌, inl, true, false, None, Err, ◌∙◌, ap, refl, sym, subst}
use Rattle.zr_base.specs.declared.space.CkptPart.{CkptPart}
use Rattle.std.proofs.lemmas.Result.{err_from_is_err_and}
use Rattle.zr_script.specs.declared.command.Command.{Command}
use Rattle.zr_sync.specs.States.{HasCheckpoint, HoldsState}
use Rattle.zr_base.specs.declared.refusal.Refusal.{Refusal}
use Rattle.zr_sync.specs.declared.fault.Fault.TheVariants.{No}
use Rattle.zr_open.proofs.Refusing.{back_refusal, looked_refusal, not_kept_shown, rewind_refusal}
use Rattle.zr_pool.specs.Accounts.{Begins, BeginsNone}
use Rattle.zr_pool.proofs.Beginning.{flushes_nothing}
use Rattle.zr_pool.proofs.Groups.{opening_nothing}
use Rattle.zr_pool.specs.Behind.{StopsInOpening, is_create, is_import}
use Rattle.zr_pool.specs.Plain.{IsMade, IsOpeningCause, shelf_of}
use Rattle.zr_pool.specs.Turns.{IsClosedRefusal}
use Rattle.zr_pool.proofs.Leavings.{in_the_way, is_new, not_begun}
use Rattle.zr_pool.proofs.Refused.{fault_same, group_cause, rewind_cause}
use Rattle.zr_open.proofs.Flushing.{flushes_work}
use Rattle.zr_pool.proofs.begin.begin.Goals as goal

pub returns-in_ok-made-in-Create-clause-made : goal.returns-in_ok-made-in-Create-clause-made
returns-in_ok-made-in-Create-clause-made g c = λ told.
    let Holds = HoldsState (g.S.Shelf.tells c.make.new.shelf) (g.S.Shelf.world c.make.new.shelf).now.seen c.in_ok-made-in-Create.made in
    subst (λ (command : Command). IsMade (shelf_of (g.S.Shelf.world c.args.shelf.now).now) Holds command) (sym c.in-Create.is) (record { objects = c.in_ok-made-in-Create.ensures.objects told; checkpoint = subst (λ (k : CkptPart). HasCheckpoint k None false) (sym c.in_ok-made-in-Create.ensures.clear) (refl, refl) })

pub returns-in_ok-made-in-CreateOld-clause-made : goal.returns-in_ok-made-in-CreateOld-clause-made
returns-in_ok-made-in-CreateOld-clause-made g c = λ told.
    let Holds = HoldsState (g.S.Shelf.tells c.make-in-CreateOld.new.shelf) (g.S.Shelf.world c.make-in-CreateOld.new.shelf).now.seen c.in_ok-made-in-CreateOld.made in
    subst (λ (command : Command). IsMade (shelf_of (g.S.Shelf.world c.args.shelf.now).now) Holds command) (sym c.in-CreateOld.is) (record { objects = c.in_ok-made-in-CreateOld.ensures.objects told; checkpoint = subst (λ (k : CkptPart). HasCheckpoint k None false) (sym c.in_ok-made-in-CreateOld.ensures.clear) (refl, refl) })

-- ---- the account

pub returns-in_ok-made-in-Create-clause-begins : goal.returns-in_ok-made-in-Create-clause-begins
returns-in_ok-made-in-Create-clause-begins g c = λ told.
    let paths = c.args.paths.now in
    let shelf = c.args.shelf.now in
    let sizes = g.S.Shelf.sizes shelf in
    let disks = (g.S.Shelf.world shelf).now.seen in
    let made = c.in_ok-made-in-Create.made in
    let done = c.in_ok-made-in-Create.ensures in
    let at = c.in-Create in
    subst (λ (command : Command). Begins paths sizes disks command made) (sym at.is)
    (is_new (g.S.Shelf.tells shelf) told 2 at.guid paths sizes disks at.devs c.as_slice.result.now c.as_slice.ensures c.in_ok-named-in-Create.named.items c.as_slice-in-Create-2.result.now c.as_slice-in-Create-2.ensures.value c.in_ok-named-in-Create.ensures.slots
    at.name c.name_of-name.result made (c.name_of-name.ensures.name ∙ c.as_slice-in-Create.ensures) (done.allowed told) done.named done.devices done.clear done.txg done.empty done.root done.settled)

pub returns-in_err-made-in-Create-clause-begins_no : goal.returns-in_err-made-in-Create-clause-begins_no
returns-in_err-made-in-Create-clause-begins_no g c = λ told r is.
    let paths = c.args.paths.now in
    let shelf = c.args.shelf.now in
    let sizes = g.S.Shelf.sizes shelf in
    let disks = (g.S.Shelf.world shelf).now.seen in
    let q = err_from_is_err_and c.from_residual-in_err-made-in-Create.result c.from_residual-in_err-made-in-Create.ensures.1 in
    let e = fault_same c.in_err-made-in-Create.field-0.0 q.0 r c.from_residual-in_err-made-in-Create.result q.1 q.2 is in
    let at = c.in-Create in
    subst (λ (command : Command). BeginsNone paths sizes disks command r) (sym at.is)
    (in_the_way (g.S.Shelf.tells shelf) told 2 at.guid paths sizes disks at.devs c.as_slice.result.now c.as_slice.ensures c.in_ok-named-in-Create.named.items c.as_slice-in-Create-2.result.now c.as_slice-in-Create-2.ensures.value c.in_ok-named-in-Create.ensures.slots
    r (c.make.ensures.refused told r (c.in_err-made-in-Create.was ∙ ap Err e)))

pub returns-in_ok-made-in-CreateOld-clause-begins : goal.returns-in_ok-made-in-CreateOld-clause-begins
returns-in_ok-made-in-CreateOld-clause-begins g c = λ told.
    let paths = c.args.paths.now in
    let shelf = c.args.shelf.now in
    let sizes = g.S.Shelf.sizes shelf in
    let disks = (g.S.Shelf.world shelf).now.seen in
    let made = c.in_ok-made-in-CreateOld.made in
    let done = c.in_ok-made-in-CreateOld.ensures in
    let at = c.in-CreateOld in
    subst (λ (command : Command). Begins paths sizes disks command made) (sym at.is)
    (is_new (g.S.Shelf.tells shelf) told 1 at.guid paths sizes disks at.devs c.as_slice-in-CreateOld.result.now c.as_slice-in-CreateOld.ensures c.in_ok-named-in-CreateOld.named.items c.as_slice-in-CreateOld-3.result.now c.as_slice-in-CreateOld-3.ensures.value c.in_ok-named-in-CreateOld.ensures.slots
    at.name c.name_of-name-in-CreateOld.result made (c.name_of-name-in-CreateOld.ensures.name ∙ c.as_slice-in-CreateOld-2.ensures) (done.allowed told) done.named done.devices done.clear done.txg done.empty done.root done.settled)

pub returns-in_err-made-in-CreateOld-clause-begins_no : goal.returns-in_err-made-in-CreateOld-clause-begins_no
returns-in_err-made-in-CreateOld-clause-begins_no g c = λ told r is.
    let paths = c.args.paths.now in
    let shelf = c.args.shelf.now in
    let sizes = g.S.Shelf.sizes shelf in
    let disks = (g.S.Shelf.world shelf).now.seen in
    let q = err_from_is_err_and c.from_residual-in_err-made-in-CreateOld.result c.from_residual-in_err-made-in-CreateOld.ensures.1 in
    let e = fault_same c.in_err-made-in-CreateOld.field-0.0 q.0 r c.from_residual-in_err-made-in-CreateOld.result q.1 q.2 is in
    let at = c.in-CreateOld in
    subst (λ (command : Command). BeginsNone paths sizes disks command r) (sym at.is)
    (in_the_way (g.S.Shelf.tells shelf) told 1 at.guid paths sizes disks at.devs c.as_slice-in-CreateOld.result.now c.as_slice-in-CreateOld.ensures c.in_ok-named-in-CreateOld.named.items c.as_slice-in-CreateOld-3.result.now c.as_slice-in-CreateOld-3.ensures.value c.in_ok-named-in-CreateOld.ensures.slots
    r (c.make-in-CreateOld.ensures.refused told r (c.in_err-made-in-CreateOld.was ∙ ap Err e)))

pub returns-in_default-clause-begins_no : goal.returns-in_default-clause-begins_no
returns-in_default-clause-begins_no g c = λ told r is.
    not_begun c.args.paths.now (g.S.Shelf.sizes c.args.shelf.now) (g.S.Shelf.world c.args.shelf.now).now.seen c.args.command.now r c.in_default.not-Create c.in_default.not-CreateOld

-- ---- pools that are opened

pub returns-in_ok-import-in-Import-clause-disks : goal.returns-in_ok-import-in-Import-clause-disks
returns-in_ok-import-in-Import-clause-disks g c = λ told. flushes_work _ _ (c.import.ensures.flushes told)

pub returns-in_err-import-in-Import-clause-disks : goal.returns-in_err-import-in-Import-clause-disks
returns-in_err-import-in-Import-clause-disks g c = λ told. flushes_work _ _ (c.import.ensures.flushes told)

pub returns-in_ok-import-in-Import-clause-made : goal.returns-in_ok-import-in-Import-clause-made
returns-in_ok-import-in-Import-clause-made g c = λ told.
    let shelf = shelf_of (g.S.Shelf.world c.args.shelf.now).now in
    let Holds = HoldsState (g.S.Shelf.tells c.import.new.shelf) (g.S.Shelf.world c.import.new.shelf).now.seen c.in_ok-import-in-Import.field-0 in
    let h = c.in_ok-import-in-Import.ensures.objects told in
    subst (λ (command : Command). IsMade shelf Holds command) (sym c.in-Import.is) h

pub returns-in_ok-import-in-Import-clause-begins : goal.returns-in_ok-import-in-Import-clause-begins
returns-in_ok-import-in-Import-clause-begins g c = λ told.
    let shelf = c.args.shelf.now in
    subst (λ (command : Command). Begins c.args.paths.now (g.S.Shelf.sizes shelf) (g.S.Shelf.world shelf).now.seen command c.in_ok-import-in-Import.field-0) (sym c.in-Import.is) c.in_ok-import-in-Import.ensures.room

pub returns-in_err-import-in-Import-clause-refused : goal.returns-in_err-import-in-Import-clause-refused
returns-in_err-import-in-Import-clause-refused g c = λ r is.
    let q = err_from_is_err_and c.from_residual-in_err-import-in-Import.result c.from_residual-in_err-import-in-Import.ensures.1 in
    let e = fault_same c.in_err-import-in-Import.field-0.0 q.0 r c.from_residual-in_err-import-in-Import.result q.1 q.2 is in
    let was = c.in_err-import-in-Import.was ∙ ap Err e in
    let old = c.args.shelf.now in
    subst (λ (command : Command). IsClosedRefusal command r) (sym c.in-Import.is) (looked_refusal (g.S.Shelf.sizes old) (g.S.Shelf.tells old) (g.S.Shelf.world old).now.seen r (c.import.ensures.refused r was))

pub returns-in_err-import-in-Import-clause-cause : goal.returns-in_err-import-in-Import-clause-cause
returns-in_err-import-in-Import-clause-cause g c = λ told r is.
    let q = err_from_is_err_and c.from_residual-in_err-import-in-Import.result c.from_residual-in_err-import-in-Import.ensures.1 in
    let e = fault_same c.in_err-import-in-Import.field-0.0 q.0 r c.from_residual-in_err-import-in-Import.result q.1 q.2 is in
    let was = c.in_err-import-in-Import.was ∙ ap Err e in
    let old = c.args.shelf.now in
    let shelf = shelf_of (g.S.Shelf.world old).now in
    subst (λ (command : Command). IsOpeningCause shelf command r) (sym c.in-Import.is) tt

pub returns-in_err-import-in-Import-clause-begins_no : goal.returns-in_err-import-in-Import-clause-begins_no
returns-in_err-import-in-Import-clause-begins_no g c = λ told r is.
    let shelf = c.args.shelf.now in
    subst (λ (command : Command). BeginsNone c.args.paths.now (g.S.Shelf.sizes shelf) (g.S.Shelf.world shelf).now.seen command r) (sym c.in-Import.is) tt

pub returns-in_ok-rewind-in-ImportRewind-clause-made : goal.returns-in_ok-rewind-in-ImportRewind-clause-made
returns-in_ok-rewind-in-ImportRewind-clause-made g c = λ told.
    let shelf = shelf_of (g.S.Shelf.world c.args.shelf.now).now in
    let Holds = HoldsState (g.S.Shelf.tells c.rewind.new.shelf) (g.S.Shelf.world c.rewind.new.shelf).now.seen c.in_ok-rewind-in-ImportRewind.field-0 in
    let h = c.in_ok-rewind-in-ImportRewind.ensures.objects told in
    subst (λ (command : Command). IsMade shelf Holds command) (sym c.in-ImportRewind.is) (h.state, h.saved, h.shown, h.saved_is, h.holds)

pub returns-in_ok-rewind-in-ImportRewind-clause-begins : goal.returns-in_ok-rewind-in-ImportRewind-clause-begins
returns-in_ok-rewind-in-ImportRewind-clause-begins g c = λ told.
    let shelf = c.args.shelf.now in
    subst (λ (command : Command). Begins c.args.paths.now (g.S.Shelf.sizes shelf) (g.S.Shelf.world shelf).now.seen command c.in_ok-rewind-in-ImportRewind.field-0) (sym c.in-ImportRewind.is) c.in_ok-rewind-in-ImportRewind.ensures.room

pub returns-in_err-rewind-in-ImportRewind-clause-refused : goal.returns-in_err-rewind-in-ImportRewind-clause-refused
returns-in_err-rewind-in-ImportRewind-clause-refused g c = λ r is.
    let q = err_from_is_err_and c.from_residual-in_err-rewind-in-ImportRewind.result c.from_residual-in_err-rewind-in-ImportRewind.ensures.1 in
    let e = fault_same c.in_err-rewind-in-ImportRewind.field-0.0 q.0 r c.from_residual-in_err-rewind-in-ImportRewind.result q.1 q.2 is in
    let was = c.in_err-rewind-in-ImportRewind.was ∙ ap Err e in
    let old = c.args.shelf.now in
    subst (λ (command : Command). IsClosedRefusal command r) (sym c.in-ImportRewind.is) (rewind_refusal (g.S.Shelf.sizes old) (g.S.Shelf.tells old) (g.S.Shelf.world old).now.seen r (c.rewind.ensures.refused r was))

pub returns-in_err-rewind-in-ImportRewind-clause-cause : goal.returns-in_err-rewind-in-ImportRewind-clause-cause
returns-in_err-rewind-in-ImportRewind-clause-cause g c = λ told r is.
    let q = err_from_is_err_and c.from_residual-in_err-rewind-in-ImportRewind.result c.from_residual-in_err-rewind-in-ImportRewind.ensures.1 in
    let e = fault_same c.in_err-rewind-in-ImportRewind.field-0.0 q.0 r c.from_residual-in_err-rewind-in-ImportRewind.result q.1 q.2 is in
    let was = c.in_err-rewind-in-ImportRewind.was ∙ ap Err e in
    let old = c.args.shelf.now in
    let shelf = shelf_of (g.S.Shelf.world old).now in
    subst (λ (command : Command). IsOpeningCause shelf command r) (sym c.in-ImportRewind.is) (rewind_cause shelf r (λ none. c.rewind.ensures.unsaved told (was ∙ ap (λ (x : Refusal). Err (No x)) none)))

pub returns-in_err-rewind-in-ImportRewind-clause-begins_no : goal.returns-in_err-rewind-in-ImportRewind-clause-begins_no
returns-in_err-rewind-in-ImportRewind-clause-begins_no g c = λ told r is.
    let shelf = c.args.shelf.now in
    subst (λ (command : Command). BeginsNone c.args.paths.now (g.S.Shelf.sizes shelf) (g.S.Shelf.world shelf).now.seen command r) (sym c.in-ImportRewind.is) tt

pub returns-in_ok-go_back-in-ImportTxg-clause-made : goal.returns-in_ok-go_back-in-ImportTxg-clause-made
returns-in_ok-go_back-in-ImportTxg-clause-made g c = λ told.
    let shelf = shelf_of (g.S.Shelf.world c.args.shelf.now).now in
    let Holds = HoldsState (g.S.Shelf.tells c.go_back.new.shelf) (g.S.Shelf.world c.go_back.new.shelf).now.seen c.in_ok-go_back-in-ImportTxg.field-0 in
    let h = c.in_ok-go_back-in-ImportTxg.ensures.objects told in
    subst (λ (command : Command). IsMade shelf Holds command) (sym c.in-ImportTxg.is) (h.state, h.shown, h.holds)

pub returns-in_ok-go_back-in-ImportTxg-clause-begins : goal.returns-in_ok-go_back-in-ImportTxg-clause-begins
returns-in_ok-go_back-in-ImportTxg-clause-begins g c = λ told.
    let shelf = c.args.shelf.now in
    subst (λ (command : Command). Begins c.args.paths.now (g.S.Shelf.sizes shelf) (g.S.Shelf.world shelf).now.seen command c.in_ok-go_back-in-ImportTxg.field-0) (sym c.in-ImportTxg.is) c.in_ok-go_back-in-ImportTxg.ensures.room

pub returns-in_err-go_back-in-ImportTxg-clause-refused : goal.returns-in_err-go_back-in-ImportTxg-clause-refused
returns-in_err-go_back-in-ImportTxg-clause-refused g c = λ r is.
    let q = err_from_is_err_and c.from_residual-in_err-go_back-in-ImportTxg.result c.from_residual-in_err-go_back-in-ImportTxg.ensures.1 in
    let e = fault_same c.in_err-go_back-in-ImportTxg.field-0.0 q.0 r c.from_residual-in_err-go_back-in-ImportTxg.result q.1 q.2 is in
    let was = c.in_err-go_back-in-ImportTxg.was ∙ ap Err e in
    let old = c.args.shelf.now in
    subst (λ (command : Command). IsClosedRefusal command r) (sym c.in-ImportTxg.is) (back_refusal (g.S.Shelf.sizes old) (g.S.Shelf.tells old) (g.S.Shelf.world old).now.seen c.in-ImportTxg.txg r (c.go_back.ensures.refused r was))

pub returns-in_err-go_back-in-ImportTxg-clause-cause : goal.returns-in_err-go_back-in-ImportTxg-clause-cause
returns-in_err-go_back-in-ImportTxg-clause-cause g c = λ told r is.
    let q = err_from_is_err_and c.from_residual-in_err-go_back-in-ImportTxg.result c.from_residual-in_err-go_back-in-ImportTxg.ensures.1 in
    let e = fault_same c.in_err-go_back-in-ImportTxg.field-0.0 q.0 r c.from_residual-in_err-go_back-in-ImportTxg.result q.1 q.2 is in
    let was = c.in_err-go_back-in-ImportTxg.was ∙ ap Err e in
    let old = c.args.shelf.now in
    let shelf = shelf_of (g.S.Shelf.world old).now in
    subst (λ (command : Command). IsOpeningCause shelf command r) (sym c.in-ImportTxg.is) (group_cause shelf c.in-ImportTxg.txg r (λ oldest kept. not_kept_shown (g.S.Shelf.sizes old) (g.S.Shelf.tells old) (g.S.Shelf.world old).now.seen c.in-ImportTxg.txg r told oldest kept (c.go_back.ensures.refused r was)))

pub returns-in_err-go_back-in-ImportTxg-clause-begins_no : goal.returns-in_err-go_back-in-ImportTxg-clause-begins_no
returns-in_err-go_back-in-ImportTxg-clause-begins_no g c = λ told r is.
    let shelf = c.args.shelf.now in
    subst (λ (command : Command). BeginsNone c.args.paths.now (g.S.Shelf.sizes shelf) (g.S.Shelf.world shelf).now.seen command r) (sym c.in-ImportTxg.is) tt

-- ---- what the disks show

pub returns-in_ok-made-in-Create-clause-last : goal.returns-in_ok-made-in-Create-clause-last
returns-in_ok-made-in-Create-clause-last g c = λ told. c.in_ok-made-in-Create.ensures.last told

pub returns-in_ok-made-in-CreateOld-clause-last : goal.returns-in_ok-made-in-CreateOld-clause-last
returns-in_ok-made-in-CreateOld-clause-last g c = λ told. c.in_ok-made-in-CreateOld.ensures.last told

pub returns-in_ok-import-in-Import-clause-last : goal.returns-in_ok-import-in-Import-clause-last
returns-in_ok-import-in-Import-clause-last g c = λ told. c.in_ok-import-in-Import.ensures.last told

pub returns-in_ok-rewind-in-ImportRewind-clause-last : goal.returns-in_ok-rewind-in-ImportRewind-clause-last
returns-in_ok-rewind-in-ImportRewind-clause-last g c = λ told. c.in_ok-rewind-in-ImportRewind.ensures.last told

pub returns-in_ok-go_back-in-ImportTxg-clause-last : goal.returns-in_ok-go_back-in-ImportTxg-clause-last
returns-in_ok-go_back-in-ImportTxg-clause-last g c = λ told. c.in_ok-go_back-in-ImportTxg.ensures.last told

pub returns-in_err-made-in-Create-clause-untouched : goal.returns-in_err-made-in-Create-clause-untouched
returns-in_err-made-in-Create-clause-untouched g c = λ told r is.
    let res = c.from_residual-in_err-made-in-Create in
    let q = err_from_is_err_and res.result res.ensures.1 in
    let e = fault_same c.in_err-made-in-Create.field-0.0 q.0 r res.result q.1 q.2 is in
    let was = c.in_err-made-in-Create.was ∙ ap Err e in
    c.make.ensures.untouched told r was

pub returns-in_err-made-in-CreateOld-clause-untouched : goal.returns-in_err-made-in-CreateOld-clause-untouched
returns-in_err-made-in-CreateOld-clause-untouched g c = λ told r is.
    let res = c.from_residual-in_err-made-in-CreateOld in
    let q = err_from_is_err_and res.result res.ensures.1 in
    let e = fault_same c.in_err-made-in-CreateOld.field-0.0 q.0 r res.result q.1 q.2 is in
    let was = c.in_err-made-in-CreateOld.was ∙ ap Err e in
    c.make-in-CreateOld.ensures.untouched told r was

pub returns-in_err-import-in-Import-clause-untouched : goal.returns-in_err-import-in-Import-clause-untouched
returns-in_err-import-in-Import-clause-untouched g c = λ told r is. c.import.ensures.reads told

pub returns-in_err-rewind-in-ImportRewind-clause-untouched : goal.returns-in_err-rewind-in-ImportRewind-clause-untouched
returns-in_err-rewind-in-ImportRewind-clause-untouched g c = λ told r is.
    let res = c.from_residual-in_err-rewind-in-ImportRewind in
    let q = err_from_is_err_and res.result res.ensures.1 in
    let e = fault_same c.in_err-rewind-in-ImportRewind.field-0.0 q.0 r res.result q.1 q.2 is in
    let was = c.in_err-rewind-in-ImportRewind.was ∙ ap Err e in
    c.rewind.ensures.reads told r was

pub returns-in_err-go_back-in-ImportTxg-clause-untouched : goal.returns-in_err-go_back-in-ImportTxg-clause-untouched
returns-in_err-go_back-in-ImportTxg-clause-untouched g c = λ told r is.
    let res = c.from_residual-in_err-go_back-in-ImportTxg in
    let q = err_from_is_err_and res.result res.ensures.1 in
    let e = fault_same c.in_err-go_back-in-ImportTxg.field-0.0 q.0 r res.result q.1 q.2 is in
    let was = c.in_err-go_back-in-ImportTxg.was ∙ ap Err e in
    c.go_back.ensures.reads told r was

pub returns-in_ok-made-in-Create-clause-ends : goal.returns-in_ok-made-in-Create-clause-ends
returns-in_ok-made-in-Create-clause-ends g c = λ told create. c.in_ok-made-in-Create.ensures.ends told

pub returns-in_ok-made-in-CreateOld-clause-ends : goal.returns-in_ok-made-in-CreateOld-clause-ends
returns-in_ok-made-in-CreateOld-clause-ends g c = λ told create. c.in_ok-made-in-CreateOld.ensures.ends told

pub returns-in_ok-import-in-Import-clause-ends : goal.returns-in_ok-import-in-Import-clause-ends
returns-in_ok-import-in-Import-clause-ends g c = λ told create. absurd (let e = sym (subst (λ (command : Command). is_create command ≡ true) c.in-Import.is create) in cc)

pub returns-in_ok-rewind-in-ImportRewind-clause-ends : goal.returns-in_ok-rewind-in-ImportRewind-clause-ends
returns-in_ok-rewind-in-ImportRewind-clause-ends g c = λ told create. absurd (let e = sym (subst (λ (command : Command). is_create command ≡ true) c.in-ImportRewind.is create) in cc)

pub returns-in_ok-go_back-in-ImportTxg-clause-ends : goal.returns-in_ok-go_back-in-ImportTxg-clause-ends
returns-in_ok-go_back-in-ImportTxg-clause-ends g c = λ told create. absurd (let e = sym (subst (λ (command : Command). is_create command ≡ true) c.in-ImportTxg.is create) in cc)

-- ---- the trees of its streams

pub returns-in_ok-made-in-Create-clause-trees : goal.returns-in_ok-made-in-Create-clause-trees
returns-in_ok-made-in-Create-clause-trees g c = λ told. c.in_ok-made-in-Create.ensures.trees told

pub returns-in_ok-made-in-CreateOld-clause-trees : goal.returns-in_ok-made-in-CreateOld-clause-trees
returns-in_ok-made-in-CreateOld-clause-trees g c = λ told. c.in_ok-made-in-CreateOld.ensures.trees told

pub returns-in_ok-import-in-Import-clause-trees : goal.returns-in_ok-import-in-Import-clause-trees
returns-in_ok-import-in-Import-clause-trees g c = λ told. c.in_ok-import-in-Import.ensures.trees told

pub returns-in_ok-rewind-in-ImportRewind-clause-trees : goal.returns-in_ok-rewind-in-ImportRewind-clause-trees
returns-in_ok-rewind-in-ImportRewind-clause-trees g c = λ told. c.in_ok-rewind-in-ImportRewind.ensures.trees told

pub returns-in_ok-go_back-in-ImportTxg-clause-trees : goal.returns-in_ok-go_back-in-ImportTxg-clause-trees
returns-in_ok-go_back-in-ImportTxg-clause-trees g c = λ told. c.in_ok-go_back-in-ImportTxg.ensures.trees told

-- ---- a pool that was opened stands as a commit left it

pub returns-in_ok-made-in-Create-clause-leaves : goal.returns-in_ok-made-in-Create-clause-leaves
returns-in_ok-made-in-Create-clause-leaves g c = λ told opens. absurd (let e = sym (subst (λ (command : Command). is_import command ≡ true) c.in-Create.is opens) in cc)

pub returns-in_ok-made-in-CreateOld-clause-leaves : goal.returns-in_ok-made-in-CreateOld-clause-leaves
returns-in_ok-made-in-CreateOld-clause-leaves g c = λ told opens. absurd (let e = sym (subst (λ (command : Command). is_import command ≡ true) c.in-CreateOld.is opens) in cc)

pub returns-in_ok-import-in-Import-clause-leaves : goal.returns-in_ok-import-in-Import-clause-leaves
returns-in_ok-import-in-Import-clause-leaves g c = λ told opens. c.in_ok-import-in-Import.ensures.leaves told

pub returns-in_ok-rewind-in-ImportRewind-clause-leaves : goal.returns-in_ok-rewind-in-ImportRewind-clause-leaves
returns-in_ok-rewind-in-ImportRewind-clause-leaves g c = λ told opens. c.in_ok-rewind-in-ImportRewind.ensures.leaves told

pub returns-in_ok-go_back-in-ImportTxg-clause-leaves : goal.returns-in_ok-go_back-in-ImportTxg-clause-leaves
returns-in_ok-go_back-in-ImportTxg-clause-leaves g c = λ told opens. c.in_ok-go_back-in-ImportTxg.ensures.leaves told

-- ---- what a refusal leaves unwritten

pub returns-in_err-made-in-Create-clause-unwritten : goal.returns-in_err-made-in-Create-clause-unwritten
returns-in_err-made-in-Create-clause-unwritten g c = λ told r is.
    let res = c.from_residual-in_err-made-in-Create in
    let q = err_from_is_err_and res.result res.ensures.1 in
    let e = fault_same c.in_err-made-in-Create.field-0.0 q.0 r res.result q.1 q.2 is in
    let was = c.in_err-made-in-Create.was ∙ ap Err e in
    c.make.ensures.unwritten told r was

pub returns-in_err-made-in-CreateOld-clause-unwritten : goal.returns-in_err-made-in-CreateOld-clause-unwritten
returns-in_err-made-in-CreateOld-clause-unwritten g c = λ told r is.
    let res = c.from_residual-in_err-made-in-CreateOld in
    let q = err_from_is_err_and res.result res.ensures.1 in
    let e = fault_same c.in_err-made-in-CreateOld.field-0.0 q.0 r res.result q.1 q.2 is in
    let was = c.in_err-made-in-CreateOld.was ∙ ap Err e in
    c.make-in-CreateOld.ensures.unwritten told r was

pub returns-in_err-rewind-in-ImportRewind-clause-unwritten : goal.returns-in_err-rewind-in-ImportRewind-clause-unwritten
returns-in_err-rewind-in-ImportRewind-clause-unwritten g c = λ told r is.
    let res = c.from_residual-in_err-rewind-in-ImportRewind in
    let q = err_from_is_err_and res.result res.ensures.1 in
    let e = fault_same c.in_err-rewind-in-ImportRewind.field-0.0 q.0 r res.result q.1 q.2 is in
    let was = c.in_err-rewind-in-ImportRewind.was ∙ ap Err e in
    c.rewind.ensures.flushes told r was

pub returns-in_err-go_back-in-ImportTxg-clause-unwritten : goal.returns-in_err-go_back-in-ImportTxg-clause-unwritten
returns-in_err-go_back-in-ImportTxg-clause-unwritten g c = λ told r is.
    let res = c.from_residual-in_err-go_back-in-ImportTxg in
    let q = err_from_is_err_and res.result res.ensures.1 in
    let e = fault_same c.in_err-go_back-in-ImportTxg.field-0.0 q.0 r res.result q.1 q.2 is in
    let was = c.in_err-go_back-in-ImportTxg.was ∙ ap Err e in
    c.go_back.ensures.flushes told r was

pub returns-in_err-import-in-Import-clause-unwritten : goal.returns-in_err-import-in-Import-clause-unwritten
returns-in_err-import-in-Import-clause-unwritten g c = λ told r is. c.import.ensures.flushes told

pub returns-in_err-named-in-Create-clause-unwritten : goal.returns-in_err-named-in-Create-clause-unwritten
returns-in_err-named-in-Create-clause-unwritten g c = λ told r is. flushes_nothing _

pub returns-in_err-named-in-CreateOld-clause-unwritten : goal.returns-in_err-named-in-CreateOld-clause-unwritten
returns-in_err-named-in-CreateOld-clause-unwritten g c = λ told r is. flushes_nothing _

pub returns-in_default-clause-unwritten : goal.returns-in_default-clause-unwritten
returns-in_default-clause-unwritten g c = λ told r is. flushes_nothing _

-- ---- wherever it stops

pub returns-in_ok-made-in-Create-clause-stops : goal.returns-in_ok-made-in-Create-clause-stops
returns-in_ok-made-in-Create-clause-stops g c = λ told.
    let shelf = c.args.shelf.now in
    subst (λ (command : Command). StopsInOpening (g.S.Shelf.sizes shelf) command (g.S.Shelf.world shelf) (g.S.Shelf.world c.make.new.shelf)) (sym c.in-Create.is) (c.make.ensures.stops told)

pub returns-in_err-made-in-Create-clause-stops : goal.returns-in_err-made-in-Create-clause-stops
returns-in_err-made-in-Create-clause-stops g c = λ told.
    let shelf = c.args.shelf.now in
    subst (λ (command : Command). StopsInOpening (g.S.Shelf.sizes shelf) command (g.S.Shelf.world shelf) (g.S.Shelf.world c.make.new.shelf)) (sym c.in-Create.is) (c.make.ensures.stops told)

pub returns-in_err-named-in-Create-clause-stops : goal.returns-in_err-named-in-Create-clause-stops
returns-in_err-named-in-Create-clause-stops g c = λ told.
    let shelf = c.args.shelf.now in
    subst (λ (command : Command). StopsInOpening (g.S.Shelf.sizes shelf) command (g.S.Shelf.world shelf) (g.S.Shelf.world shelf)) (sym c.in-Create.is) (inl (flushes_nothing (g.S.Shelf.world shelf)))

pub returns-in_ok-made-in-CreateOld-clause-stops : goal.returns-in_ok-made-in-CreateOld-clause-stops
returns-in_ok-made-in-CreateOld-clause-stops g c = λ told.
    let shelf = c.args.shelf.now in
    subst (λ (command : Command). StopsInOpening (g.S.Shelf.sizes shelf) command (g.S.Shelf.world shelf) (g.S.Shelf.world c.make-in-CreateOld.new.shelf)) (sym c.in-CreateOld.is) (c.make-in-CreateOld.ensures.stops told)

pub returns-in_err-made-in-CreateOld-clause-stops : goal.returns-in_err-made-in-CreateOld-clause-stops
returns-in_err-made-in-CreateOld-clause-stops g c = λ told.
    let shelf = c.args.shelf.now in
    subst (λ (command : Command). StopsInOpening (g.S.Shelf.sizes shelf) command (g.S.Shelf.world shelf) (g.S.Shelf.world c.make-in-CreateOld.new.shelf)) (sym c.in-CreateOld.is) (c.make-in-CreateOld.ensures.stops told)

pub returns-in_err-named-in-CreateOld-clause-stops : goal.returns-in_err-named-in-CreateOld-clause-stops
returns-in_err-named-in-CreateOld-clause-stops g c = λ told.
    let shelf = c.args.shelf.now in
    subst (λ (command : Command). StopsInOpening (g.S.Shelf.sizes shelf) command (g.S.Shelf.world shelf) (g.S.Shelf.world shelf)) (sym c.in-CreateOld.is) (inl (flushes_nothing (g.S.Shelf.world shelf)))

pub returns-in_ok-import-in-Import-clause-stops : goal.returns-in_ok-import-in-Import-clause-stops
returns-in_ok-import-in-Import-clause-stops g c = λ told.
    let shelf = c.args.shelf.now in
    subst (λ (command : Command). StopsInOpening (g.S.Shelf.sizes shelf) command (g.S.Shelf.world shelf) (g.S.Shelf.world c.import.new.shelf)) (sym c.in-Import.is) (c.import.ensures.flushes told)

pub returns-in_err-import-in-Import-clause-stops : goal.returns-in_err-import-in-Import-clause-stops
returns-in_err-import-in-Import-clause-stops g c = λ told.
    let shelf = c.args.shelf.now in
    subst (λ (command : Command). StopsInOpening (g.S.Shelf.sizes shelf) command (g.S.Shelf.world shelf) (g.S.Shelf.world c.import.new.shelf)) (sym c.in-Import.is) (c.import.ensures.flushes told)

pub returns-in_ok-rewind-in-ImportRewind-clause-stops : goal.returns-in_ok-rewind-in-ImportRewind-clause-stops
returns-in_ok-rewind-in-ImportRewind-clause-stops g c = λ told.
    let shelf = c.args.shelf.now in
    subst (λ (command : Command). StopsInOpening (g.S.Shelf.sizes shelf) command (g.S.Shelf.world shelf) (g.S.Shelf.world c.rewind.new.shelf)) (sym c.in-ImportRewind.is) (c.rewind.ensures.stops told)

pub returns-in_err-rewind-in-ImportRewind-clause-stops : goal.returns-in_err-rewind-in-ImportRewind-clause-stops
returns-in_err-rewind-in-ImportRewind-clause-stops g c = λ told.
    let shelf = c.args.shelf.now in
    subst (λ (command : Command). StopsInOpening (g.S.Shelf.sizes shelf) command (g.S.Shelf.world shelf) (g.S.Shelf.world c.rewind.new.shelf)) (sym c.in-ImportRewind.is) (c.rewind.ensures.stops told)

pub returns-in_ok-go_back-in-ImportTxg-clause-stops : goal.returns-in_ok-go_back-in-ImportTxg-clause-stops
returns-in_ok-go_back-in-ImportTxg-clause-stops g c = λ told.
    let shelf = c.args.shelf.now in
    subst (λ (command : Command). StopsInOpening (g.S.Shelf.sizes shelf) command (g.S.Shelf.world shelf) (g.S.Shelf.world c.go_back.new.shelf)) (sym c.in-ImportTxg.is) (c.go_back.ensures.stops told)

pub returns-in_err-go_back-in-ImportTxg-clause-stops : goal.returns-in_err-go_back-in-ImportTxg-clause-stops
returns-in_err-go_back-in-ImportTxg-clause-stops g c = λ told.
    let shelf = c.args.shelf.now in
    subst (λ (command : Command). StopsInOpening (g.S.Shelf.sizes shelf) command (g.S.Shelf.world shelf) (g.S.Shelf.world c.go_back.new.shelf)) (sym c.in-ImportTxg.is) (c.go_back.ensures.stops told)

pub returns-in_default-clause-stops : goal.returns-in_default-clause-stops
returns-in_default-clause-stops g c = λ told.
    opening_nothing (g.S.Shelf.sizes c.args.shelf.now) c.args.command.now (g.S.Shelf.world c.args.shelf.now) (g.S.Shelf.world c.args.shelf.now) c.in_default.not-Create c.in_default.not-CreateOld c.in_default.not-ImportRewind c.in_default.not-ImportTxg (flushes_nothing _)
