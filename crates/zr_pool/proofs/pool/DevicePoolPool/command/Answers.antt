use Rattle.std.proofs.Common.{◌≡◌, ℕ, List, [], Bool, true, false, Option, Some, sym, ap, ◌∙◌, subst}
use Rattle.std.specs.Prelude.{IfOk, IfSome, OnOk}
use Rattle.std.proofs.lemmas.Result.{on_ok_weaker}
use Rattle.zr_base.specs.Counts.{HasRisen}
use Rattle.zr_model.specs.State.{ShelfPart}
use Rattle.zr_sync.specs.Ends.{EndsCommitted}
use Rattle.zr_sync.specs.Pools.{IsOpen}
use Rattle.zr_sync.specs.States.{HoldsState}
use Rattle.zr_sync.specs.declared.open.OpenPool.{OpenPool}
use Rattle.zr_pool.specs.Ends.{answer_of, is_closing}
use Rattle.zr_pool.specs.Behind.{EndsReset}
use Rattle.zr_pool.specs.Pools.{AreCopied, AreCurrent, AreShown, AreStanding, IsAsBegun, IsBehind, IsFoundBehind, StandsFor, no_device_state}
use Rattle.zr_pool.specs.Turns.{is_copied, is_current, is_standing}
use Rattle.zr_command.specs.Meanings.{disks_of}
use Rattle.zr_pool.specs.Replies.{TellsFault}
use Rattle.zr_pool.proofs.Accounting.{Leads, closed_accounts, each_with_account, open_accounts}
use Rattle.zr_pool.proofs.Beginning.{closed_begun, open_begun}
use Rattle.zr_pool.proofs.Copied.{closed_copied, open_copied}
use Rattle.zr_pool.proofs.Spaces.{closed_spaces, open_spaces}
use Rattle.zr_pool.proofs.Founding.{closed_current, open_current}
use Rattle.zr_pool.proofs.Resets.{ends_or_returns}
use Rattle.zr_pool.proofs.Blaming.{blamed_answer, blamed_closed}
use Rattle.zr_pool.proofs.Shown.{closed_lasts, export_commits, open_lasts}
use Rattle.zr_pool.proofs.Staying.{told_anew}
use Rattle.zr_pool.proofs.Trees.{closed_standing, made_standing, open_standing}
use Rattle.zr_pool.proofs.Turning.{closed_turns, open_turns, left_of}
use Rattle.zr_base.specs.declared.refusal.Refusal.TheVariants as refusal
use Rattle.zr_script.specs.declared.command.Command.TheVariants.{Sync}
use Rattle.zr_pool.proofs.Behind.{closed_behinds, closed_within, open_behinds, open_within}
use Rattle.zr_pool.proofs.Groups.{writing_resets}
use Rattle.zr_pool.proofs.Outside.{keeps_outside}
use Rattle.zr_pool.proofs.pool.DevicePoolPool.command.Goals.{then-is_closing+in-Some-1, then-is_closing+in-None-1, else-is_closing}
use Rattle.zr_pool.proofs.pool.DevicePoolPool.command.Goals as goal

pub returns-in_default-clause-outside : goal.returns-in_default-clause-outside
returns-in_default-clause-outside g c = λ told. keeps_outside _ _ (c.closed_line.ensures.disks told)

pub returns-in_default-clause-may_damage : goal.returns-in_default-clause-may_damage
returns-in_default-clause-may_damage g c = λ at expected found met. (record { shelf = record { paths = []; disks = [] }; state = no_device_state (record { durable = []; writes = []; seen = [] }) }, Sync, refusal.Damaged at expected found, tt)

pub returns-clause-outside : goal.returns-clause-outside
returns-clause-outside g c = λ told. keeps_outside _ _ (c.open_line-done.ensures.disks told)

pub returns-clause-may_damage : goal.returns-clause-may_damage
returns-clause-may_damage g c = λ at expected found met. (record { shelf = record { paths = []; disks = [] }; state = no_device_state (record { durable = []; writes = []; seen = [] }) }, Sync, refusal.Damaged at expected found, tt)

pub returns-in_default-clause-step : goal.returns-in_default-clause-step
returns-in_default-clause-step g c = λ told paths before stood.
    let shelf = c.args.shelf.now in
    let old = (g.S.Shelf.world shelf).now in
    let new = (g.S.Shelf.world c.closed_line.new.shelf).now in
    let behind = c.closed_line.ensures.told told in
    let pool = c.closed_line.new.self.pool in
    let r = c.closed_line.result in
    let closed : before.told.is_open ≡ false = subst (λ (o : Option OpenPool). StandsFor o old.seen before.told) c.in_default.is stood.told in
    let told_part = closed_turns before.copies old new before.told closed (g.S.Shelf.tells c.closed_line.new.shelf) behind c.args.command.now pool r
    c.closed_line.ensures.done c.closed_line.ensures.turn c.closed_line.ensures.refused (c.closed_line.ensures.cause told) c.closed_line.ensures.closed (c.closed_line.ensures.made told) in
    let account_part = closed_accounts old new before c.args.command.now pool (stood.account ∙ c.in_default.is) _ paths (g.S.Shelf.sizes shelf) (g.S.Shelf.sizes c.closed_line.new.shelf) (g.S.Shelf.sound shelf told).sized (g.S.Shelf.sound c.closed_line.new.shelf behind).sized r
    c.closed_line.ensures.done c.closed_line.ensures.turn (c.closed_line.ensures.begins told) (c.closed_line.ensures.begins_no told) c.closed_line.ensures.closed c.closed_line.ensures.pool in
    let last_part = closed_lasts old new before c.args.command.now pool closed (λ shown. subst (λ (o : Option OpenPool). AreShown o old.seen before.told.shelf before.trees) c.in_default.is (stood.shown shown)) r
    c.closed_line.ensures.done c.closed_line.ensures.turn (c.closed_line.ensures.last told) (c.closed_line.ensures.untouched told) c.closed_line.ensures.closed in
    let standing_part = subst (λ (b : Bool). IfOk (answer_of r) (λ found. IfSome found (λ answer. is_standing b before.told.shelf before.trees c.args.command.now answer ≡ true → AreStanding pool new.seen))) (sym closed)
    (closed_standing (g.S.Shelf.world c.closed_line.new.shelf) before.told.shelf before.trees c.args.command.now pool r c.closed_line.ensures.done (made_standing (g.S.Shelf.tells c.closed_line.new.shelf) new.seen pool (c.closed_line.ensures.trees told)) c.closed_line.ensures.closed) in
    let current_part = subst (λ (b : Bool). IfOk (answer_of r) (λ found. IfSome found (λ answer. is_current b before.told.shelf before.current c.args.command.now answer ≡ true → AreCurrent pool new.seen))) (sym closed)
    (closed_current (g.S.Shelf.sizes shelf) (g.S.Shelf.world shelf) (g.S.Shelf.world c.closed_line.new.shelf) before.told.shelf before.current (λ (y : OpenPool). HoldsState (g.S.Shelf.tells c.closed_line.new.shelf) new.seen y) c.args.command.now pool r c.closed_line.ensures.done (c.closed_line.ensures.stops told) (c.closed_line.ensures.made told) (c.closed_line.ensures.last told)) in
    let copied_part = subst (λ (b : Bool). IfOk (answer_of r) (λ found. IfSome found (λ answer. is_copied b before.told.shelf before.copies c.args.command.now answer pool ≡ true → AreCopied pool new.seen))) (sym closed)
    (closed_copied (g.S.Shelf.world c.closed_line.new.shelf) before.told.shelf before.copies c.args.command.now pool r) in
    subst (λ q. IfOk q (λ found. IfSome found (λ answer. Leads old new before c.args.command.now pool answer))) (sym c.answer_of.ensures)
    (each_with_account old (g.S.Shelf.world c.closed_line.new.shelf) before c.args.command.now pool (answer_of r) told_part account_part (closed_spaces before c.args.command.now pool (stood.account ∙ c.in_default.is) r) last_part standing_part current_part copied_part
    (λ part held. closed_behinds (g.S.Shelf.world shelf) (g.S.Shelf.world c.closed_line.new.shelf) before c.args.command.now (stood.account ∙ c.in_default.is) (subst (λ (o : Option OpenPool). IfSome before.behind (IsBehind o (disks_of old))) c.in_default.is stood.behind) (subst (λ (o : Option OpenPool). IfSome before.begun (IsAsBegun o (disks_of old))) c.in_default.is stood.begun) part (g.S.Shelf.sizes c.closed_line.new.shelf) pool c.closed_line.ensures.pool (c.closed_line.ensures.ends told) (c.closed_line.ensures.leaves told) (c.closed_line.ensures.last told) (g.S.Shelf.sound c.closed_line.new.shelf behind).sized held r (c.closed_line.ensures.unwritten told) c.closed_line.ensures.turn c.closed_line.ensures.done c.closed_line.ensures.closed)
    (closed_begun (g.S.Shelf.world shelf) (g.S.Shelf.world c.closed_line.new.shelf) before pool (subst (λ (o : Option OpenPool). IfSome before.begun (IsAsBegun o (disks_of old))) c.in_default.is stood.begun) r c.closed_line.ensures.done (c.closed_line.ensures.unwritten told) c.closed_line.ensures.closed))

pub returns-clause-step : goal.returns-clause-step
returns-clause-step g c = λ told paths before stood.
    let shelf = c.args.shelf.now in
    let old = (g.S.Shelf.world shelf).now in
    let new = (g.S.Shelf.world c.open_line-done.new.shelf).now in
    let behind = c.open_line-done.ensures.told told in
    let x = c.in-Some.pool in
    let y = c.open_line-done.new.pool in
    let r = c.open_line-done.result in
    let command = c.args.command.now in
    let there : StandsFor (Some x) old.seen before.told = subst (λ (o : Option OpenPool). StandsFor o old.seen before.told) c.in-Some.is stood.told in
    let left : c.if-is_closing.self.pool ≡ left_of (is_closing command r) y = elim c.if-is_closing.branch [
      | then-is_closing+in-Some-1 w ↦ ap (λ p. p.pool) w.self-is ∙ sym (ap (λ (b : Bool). left_of b y) (sym c.is_closing.ensures ∙ w.if-is_closing.true))
      | then-is_closing+in-None-1 w ↦ ap (λ p. p.pool) w.self-is ∙ sym (ap (λ (b : Bool). left_of b y) (sym c.is_closing.ensures ∙ w.if-is_closing.true))
      | else-is_closing w ↦ ap (λ p. p.pool) w.self-is ∙ sym (ap (λ (b : Bool). left_of b y) (sym c.is_closing.ensures ∙ w.if-is_closing.false))
    ] in
    let copies_stand : before.copies ≡ true → AreCopied (Some x) old.seen = λ on. subst (λ (o : Option OpenPool). AreCopied o old.seen) c.in-Some.is (stood.copies on) in
    let told_part = open_turns before.copies old new before.told (g.S.Shelf.tells shelf) (g.S.Shelf.tells c.open_line-done.new.shelf) told behind command x y r there
    (c.open_line-done.ensures.acts before.copies copies_stand) c.open_line-done.ensures.stays c.open_line-done.ensures.cause c.open_line-done.ensures.answer c.open_line-done.ensures.refused in
    let account_part = open_accounts old new before command x y (stood.account ∙ c.in-Some.is) c.as_slice.result.now (paths ∙ sym c.as_slice.ensures) (g.S.Shelf.sizes shelf) (g.S.Shelf.sizes c.open_line-done.new.shelf) (g.S.Shelf.sound shelf told).sized (g.S.Shelf.sound c.open_line-done.new.shelf behind).sized r
    c.open_line-done.ensures.answer (c.open_line-done.ensures.account told) (c.open_line-done.ensures.account_no told) c.open_line-done.ensures.pool c.open_line-done.ensures.pool_no in
    let last_part = open_lasts old new before command x y there (λ shown. subst (λ (o : Option OpenPool). AreShown o old.seen before.told.shelf before.trees) c.in-Some.is (stood.shown shown)) (λ stands. subst (λ (o : Option OpenPool). AreStanding o old.seen) c.in-Some.is (stood.trees stands)) (g.S.Shelf.sizes c.open_line-done.new.shelf) (g.S.Shelf.sound c.open_line-done.new.shelf behind).sized r
    c.open_line-done.ensures.answer (c.open_line-done.ensures.shown told) (c.open_line-done.ensures.shown_no told) (λ exports p held. c.open_line-done.ensures.left exports p (told_anew (Unit {0}) (g.S.Shelf.tells shelf) old.seen x p told held))
    (λ exports p held. on_ok_weaker r (λ (ends : EndsCommitted (g.S.Shelf.sizes shelf) false x y p.objects (g.S.Shelf.world shelf) (g.S.Shelf.world c.open_line-done.new.shelf)). ends.moves) (c.open_line-done.ensures.commits (export_commits command exports) p (told_anew (Unit {0}) (g.S.Shelf.tells shelf) old.seen x p told held))) c.open_line-done.ensures.pool in
    let behind_part = λ (now_told : ShelfPart). open_behinds (g.S.Shelf.world shelf) (g.S.Shelf.world c.open_line-done.new.shelf) before command x y (g.S.Shelf.sizes shelf) (subst (λ (o : Option OpenPool). IfSome o (IsOpen (g.S.Shelf.sizes shelf))) c.in-Some.is c.requires.fits.is_open) (g.S.Shelf.sound shelf told).sized ((g.S.Shelf.sound c.open_line-done.new.shelf behind).sized ∙ c.open_line-done.ensures.sizes)
    there.part (stood.account ∙ c.in-Some.is) (λ shown. subst (λ (o : Option OpenPool). AreShown o old.seen before.told.shelf before.trees) c.in-Some.is (stood.shown shown)) (λ stands. subst (λ (o : Option OpenPool). AreStanding o old.seen) c.in-Some.is (stood.trees stands)) (subst (λ (o : Option OpenPool). IfSome before.behind (IsBehind o (disks_of old))) c.in-Some.is stood.behind) (subst (λ (o : Option OpenPool). IfSome before.begun (IsAsBegun o (disks_of old))) c.in-Some.is stood.begun) (λ on. subst (λ (o : Option OpenPool). AreCurrent o old.seen) c.in-Some.is (stood.current on)) (λ on. subst (λ (o : Option OpenPool). IfSome before.behind (IsFoundBehind o (disks_of old))) c.in-Some.is (stood.found on)) now_told r c.open_line-done.ensures.done (subst (λ (n : List ℕ). OnOk r (IsOpen n y)) c.open_line-done.ensures.sizes c.open_line-done.ensures.pool)
    (c.open_line-done.ensures.shown told) (λ p held. ends_or_returns command y (g.S.Shelf.world c.open_line-done.new.shelf).now p.objects r (λ on. on_ok_weaker r (λ (ends : EndsReset command x y p.objects (g.S.Shelf.world shelf) (g.S.Shelf.world c.open_line-done.new.shelf)). ends.resets) (c.open_line-done.ensures.resets on p (told_anew (Unit {0}) (g.S.Shelf.tells shelf) old.seen x p told held))) (c.open_line-done.ensures.comes_back p (told_anew (Unit {0}) (g.S.Shelf.tells shelf) old.seen x p told held)))
    (λ p held writes. on_ok_weaker r (λ (ends : EndsReset command x y p.objects (g.S.Shelf.world shelf) (g.S.Shelf.world c.open_line-done.new.shelf)). ends.moves writes) (c.open_line-done.ensures.resets (writing_resets command writes.0) p (told_anew (Unit {0}) (g.S.Shelf.tells shelf) old.seen x p told held)))
    (λ group p held. c.open_line-done.ensures.one_group group p (told_anew (Unit {0}) (g.S.Shelf.tells shelf) old.seen x p told held))
    (λ p held. c.open_line-done.ensures.one_group_no p (told_anew (Unit {0}) (g.S.Shelf.tells shelf) old.seen x p told held))
    (c.open_line-done.ensures.background told) (λ silent. c.open_line-done.ensures.still told silent) (λ silent p held. c.open_line-done.ensures.opens silent p (told_anew (Unit {0}) (g.S.Shelf.tells shelf) old.seen x p told held))
    (λ ends p held. c.open_line-done.ensures.commits ends p (told_anew (Unit {0}) (g.S.Shelf.tells shelf) old.seen x p told held)) (λ n is. subst (λ (sizes : List ℕ). IsOpen sizes y) c.open_line-done.ensures.sizes (c.open_line-done.ensures.pool_no n is)) in
    let standing_part = subst (λ (b : Bool). IfOk (answer_of r) (λ found. IfSome found (λ answer. is_standing b before.told.shelf before.trees command answer ≡ true → AreStanding (left_of (is_closing command r) y) new.seen))) (sym there.is_open)
    (open_standing (g.S.Shelf.sizes shelf) (g.S.Shelf.world shelf) (g.S.Shelf.world c.open_line-done.new.shelf) before.told.shelf before.trees command x y there.part (λ stands. subst (λ (o : Option OpenPool). AreStanding o old.seen) c.in-Some.is (stood.trees stands)) r c.open_line-done.ensures.done
    (λ group p held. c.open_line-done.ensures.one_group group p (told_anew (Unit {0}) (g.S.Shelf.tells shelf) old.seen x p told held))
    (λ p held. c.open_line-done.ensures.one_group_no p (told_anew (Unit {0}) (g.S.Shelf.tells shelf) old.seen x p told held))
    (λ on p held. c.open_line-done.ensures.resets on p (told_anew (Unit {0}) (g.S.Shelf.tells shelf) old.seen x p told held))
    (c.open_line-done.ensures.trees told)) in
    let current_part = subst (λ (b : Bool). IfOk (answer_of r) (λ found. IfSome found (λ answer. is_current b before.told.shelf before.current command answer ≡ true → AreCurrent (left_of (is_closing command r) y) new.seen))) (sym there.is_open)
    (open_current (g.S.Shelf.sizes shelf) (g.S.Shelf.world shelf) (g.S.Shelf.world c.open_line-done.new.shelf) before.told.shelf before.current command x y (subst (λ (o : Option OpenPool). IfSome o (IsOpen (g.S.Shelf.sizes shelf))) c.in-Some.is c.requires.fits.is_open) (g.S.Shelf.sound shelf told).sized
    ((g.S.Shelf.sound c.open_line-done.new.shelf behind).sized ∙ c.open_line-done.ensures.sizes) there.part (λ on. subst (λ (o : Option OpenPool). AreCurrent o old.seen) c.in-Some.is (stood.current on)) r c.open_line-done.ensures.done
    (λ group p held. c.open_line-done.ensures.one_group group p (told_anew (Unit {0}) (g.S.Shelf.tells shelf) old.seen x p told held))
    (λ p held. c.open_line-done.ensures.one_group_no p (told_anew (Unit {0}) (g.S.Shelf.tells shelf) old.seen x p told held))
    (c.open_line-done.ensures.background told)) in
    let copied_part = subst (λ (b : Bool). IfOk (answer_of r) (λ found. IfSome found (λ answer. is_copied b before.told.shelf before.copies command answer (left_of (is_closing command r) y) ≡ true → AreCopied (left_of (is_closing command r) y) new.seen))) (sym there.is_open)
    (open_copied (g.S.Shelf.sizes shelf) (g.S.Shelf.world shelf) (g.S.Shelf.world c.open_line-done.new.shelf) before.told.shelf before.copies command x y there.part copies_stand r c.open_line-done.ensures.done
    (λ group p held. c.open_line-done.ensures.one_group group p (told_anew (Unit {0}) (g.S.Shelf.tells shelf) old.seen x p told held))
    (λ p held. c.open_line-done.ensures.one_group_no p (told_anew (Unit {0}) (g.S.Shelf.tells shelf) old.seen x p told held))
    (c.open_line-done.ensures.copies told)) in
    let spaces_part = open_spaces (g.S.Shelf.sizes shelf) (g.S.Shelf.world shelf) (g.S.Shelf.world c.open_line-done.new.shelf) before command x y (stood.account ∙ c.in-Some.is) there.part r
    (λ group p held. c.open_line-done.ensures.one_group group p (told_anew (Unit {0}) (g.S.Shelf.tells shelf) old.seen x p told held))
    (λ p held. c.open_line-done.ensures.one_group_no p (told_anew (Unit {0}) (g.S.Shelf.tells shelf) old.seen x p told held)) in
    subst (λ (o : Option OpenPool). IfOk c.answer_of-2.result (λ found. IfSome found (λ answer. Leads old new before command o answer))) (sym left)
    (subst (λ q. IfOk q (λ found. IfSome found (λ answer. Leads old new before command (left_of (is_closing command r) y) answer))) (sym c.answer_of-2.ensures)
    (each_with_account old (g.S.Shelf.world c.open_line-done.new.shelf) before command (left_of (is_closing command r) y) (answer_of r) told_part account_part spaces_part last_part standing_part current_part copied_part (λ part held. behind_part part)
    (open_begun (g.S.Shelf.world shelf) (g.S.Shelf.world c.open_line-done.new.shelf) before x (left_of (is_closing command r) y) (subst (λ (o : Option OpenPool). IfSome before.begun (IsAsBegun o (disks_of old))) c.in-Some.is stood.begun) r)))

-- ---- what tells of a fault

pub returns-in_default-clause-blamed : goal.returns-in_default-clause-blamed
returns-in_default-clause-blamed g c =
    let command = c.args.command.now in
    let Fails = HasRisen (g.S.Shelf.counts c.args.shelf.now).disk (g.S.Shelf.counts c.closed_line.new.shelf).disk in
    let r = c.closed_line.result in
    subst (λ q. IfOk q (λ found. IfSome found (λ answer. TellsFault command answer → Fails))) (sym c.answer_of.ensures)
    (blamed_answer command Fails r (blamed_closed command Fails r c.closed_line.ensures.done))

pub returns-clause-blamed : goal.returns-clause-blamed
returns-clause-blamed g c =
    let command = c.args.command.now in
    let Fails = HasRisen (g.S.Shelf.counts c.args.shelf.now).disk (g.S.Shelf.counts c.open_line-done.new.shelf).disk in
    subst (λ q. IfOk q (λ found. IfSome found (λ answer. TellsFault command answer → Fails))) (sym c.answer_of-2.ensures)
    (blamed_answer command Fails c.open_line-done.result c.open_line-done.ensures.blamed)

-- ---- what holds at each moment

pub returns-in_default-clause-moments : goal.returns-in_default-clause-moments
returns-in_default-clause-moments g c = λ told paths before stood.
    closed_within (g.S.Shelf.world c.args.shelf.now) _ before c.args.command.now (stood.account ∙ c.in_default.is) (subst (λ (o : Option OpenPool). IfSome before.behind (IsBehind o (disks_of (g.S.Shelf.world c.args.shelf.now).now))) c.in_default.is stood.behind) (subst (λ (o : Option OpenPool). IfSome before.begun (IsAsBegun o (disks_of (g.S.Shelf.world c.args.shelf.now).now))) c.in_default.is stood.begun) (g.S.Shelf.sizes c.args.shelf.now) (g.S.Shelf.sound c.args.shelf.now told).sized (c.closed_line.ensures.stops told)

pub returns-clause-moments : goal.returns-clause-moments
returns-clause-moments g c = λ told paths before stood.
    let shelf = c.args.shelf.now in
    let old = (g.S.Shelf.world shelf).now in
    let behind = c.open_line-done.ensures.told told in
    let x = c.in-Some.pool in
    let there : StandsFor (Some x) old.seen before.told = subst (λ (o : Option OpenPool). StandsFor o old.seen before.told) c.in-Some.is stood.told in
    open_within (g.S.Shelf.world shelf) (g.S.Shelf.world c.open_line-done.new.shelf) before c.args.command.now x c.open_line-done.new.pool (g.S.Shelf.sizes shelf) (subst (λ (o : Option OpenPool). IfSome o (IsOpen (g.S.Shelf.sizes shelf))) c.in-Some.is c.requires.fits.is_open) (g.S.Shelf.sound shelf told).sized ((g.S.Shelf.sound c.open_line-done.new.shelf behind).sized ∙ c.open_line-done.ensures.sizes)
    there.part (stood.account ∙ c.in-Some.is) (λ shown. subst (λ (o : Option OpenPool). AreShown o old.seen before.told.shelf before.trees) c.in-Some.is (stood.shown shown)) (λ stands. subst (λ (o : Option OpenPool). AreStanding o old.seen) c.in-Some.is (stood.trees stands)) (subst (λ (o : Option OpenPool). IfSome before.behind (IsBehind o (disks_of old))) c.in-Some.is stood.behind) (subst (λ (o : Option OpenPool). IfSome before.begun (IsAsBegun o (disks_of old))) c.in-Some.is stood.begun) (λ on. subst (λ (o : Option OpenPool). AreCurrent o old.seen) c.in-Some.is (stood.current on)) (λ on. subst (λ (o : Option OpenPool). IfSome before.behind (IsFoundBehind o (disks_of old))) c.in-Some.is (stood.found on))
    (λ silent. c.open_line-done.ensures.still told silent) (c.open_line-done.ensures.disks told)
    (λ group p held. c.open_line-done.ensures.writes group p (told_anew (Unit {0}) (g.S.Shelf.tells shelf) old.seen x p told held))
    (λ once p held. c.open_line-done.ensures.stops_reset once p (told_anew (Unit {0}) (g.S.Shelf.tells shelf) old.seen x p told held))
    (λ on p held. c.open_line-done.ensures.stops_back on p (told_anew (Unit {0}) (g.S.Shelf.tells shelf) old.seen x p told held))
