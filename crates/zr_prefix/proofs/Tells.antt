-- What is told behind a line that acknowledges a commit, or that made a pool.
use Rattle.std.proofs.Common.{◌≡◌, ◌⊎◌, inl, inr, Bool, true, false, Option, Some, None, refl, ◌∙◌, ap, sym, subst}
use Rattle.std.specs.FinMap as map
use Rattle.std.specs.Prelude.{is_some, if◌then◌else◌, ◌&&◌, ◌||◌}
use Rattle.zr_command.specs.Meanings.{Disks}
use Rattle.zr_model.specs.Objects.{Objects}
use Rattle.zr_model.specs.Runs.{Shelf}
use Rattle.zr_model.specs.State.{State, PoolState, ShelfPart, Empty, Refused, Is, created}
use Rattle.zr_pool.specs.Behind.{TellsOf, begun_behind, is_acknowledged, is_create, is_in_group, is_known, is_refusal, leaves_told, are_there, ends_reset}
use Rattle.zr_pool.specs.Plain.{IsObjectsTurn, IsPlainTurn, is_background}
use Rattle.zr_pool.specs.Pools.{DeviceState}
use Rattle.zr_pool.specs.Turns.{IsClosedAnswer, IsOpenAnswer, IsTurn}
use Rattle.zr_script.specs.declared.command.Command.{Command}
use Rattle.zr_script.specs.declared.command.Command.TheVariants as cmd
use Rattle.zr_script.specs.declared.reply.Reply.{Reply}
use Rattle.zr_script.specs.declared.reply.Reply.TheVariants as reply
use Rattle.zr_sync.specs.declared.open.OpenPool.{OpenPool}

pub no_way : {P : Type 0} → false ≡ true → P
no_way e = absurd cc

-- a commit leaves the objects
pub acknowledged_told : (copies : Bool) (answer : Reply) (command : Command) (is_open : Bool) (part : ShelfPart) (shelf : Shelf) (old new : State) (q : PoolState) → part ≡ Is q → is_acknowledged answer command ≡ true → IsTurn is_open command answer new.is_open → IsObjectsTurn copies is_open part shelf old command answer new → new.shelf ≡ Is q
acknowledged_told copies (reply.Synced txg) cmd.Sync true (Is p) shelf old new q told is turn (after, step, opened) = opened.shelf ∙ (ap Is step.0 ∙ told)
acknowledged_told copies (reply.Synced txg) cmd.Sync true Empty shelf old new q told is turn objects = absurd cc
acknowledged_told copies (reply.Synced txg) cmd.Sync true (Refused r) shelf old new q told is turn objects = absurd objects
acknowledged_told copies (reply.Synced txg) cmd.Sync false part shelf old new q told is turn objects = absurd turn.0
acknowledged_told copies reply.Done cmd.Export true (Is p) shelf old new q told is turn objects = ap (λ (s : State). s.shelf) objects ∙ told
acknowledged_told copies reply.Done cmd.Export true Empty shelf old new q told is turn objects = absurd cc
acknowledged_told copies reply.Done cmd.Export true (Refused r) shelf old new q told is turn objects = absurd objects
acknowledged_told copies reply.Done cmd.Export false part shelf old new q told is turn objects = no_way turn.0
acknowledged_told copies answer command is_open part shelf old new q told is turn objects = no_way is

-- a line that ended with a reset is one to an open pool
reset_closed : (answer : Reply) (command : Command) → ends_reset answer command ≡ true → IsClosedAnswer command answer → ⊥
reset_closed (reply.No r) command on is = no_way on
reset_closed reply.Done (cmd.Add dev) on is = no_way is
reset_closed reply.Done cmd.Checkpoint on is = no_way is
reset_closed reply.Done cmd.Discard on is = no_way is
reset_closed reply.Done cmd.Upgrade on is = no_way is
reset_closed reply.Done (cmd.Remove dev) on is = no_way is
reset_closed reply.Done command on is = no_way on
reset_closed answer command on is = absurd is

reset_open : (answer : Reply) (command : Command) (is_open after : Bool) → ends_reset answer command ≡ true → IsTurn is_open command answer after → is_open ≡ true
reset_open answer command true after on turn = refl
reset_open answer command false after on turn = absurd (reset_closed answer command on turn.0)

-- it leaves the objects
reset_plain : (copies : Bool) (answer : Reply) (command : Command) (p : PoolState) (new : State) → ends_reset answer command ≡ true → IsOpenAnswer command answer → IsPlainTurn copies p command answer new → TellsOf new.shelf p.objects
reset_plain copies (reply.No r) command p new on is turn = no_way on
reset_plain copies (reply.Cancelled i) cmd.Cancel p new on is (q, step, opened) = (q, opened.shelf, step.0.objects)
reset_plain copies (reply.Cancelled i) cmd.StepEvac p new on is (q, step, opened) = (q, opened.shelf, step.0.objects)
reset_plain copies reply.Done (cmd.Add dev) p new on is (q, step, opened) = (q, opened.shelf, ap (λ (r : PoolState). r.objects) step.0)
reset_plain copies reply.Done cmd.Checkpoint p new on is (q, step, opened) = (q, opened.shelf, ap (λ (r : PoolState). r.objects) step.0)
reset_plain copies reply.Done cmd.Discard p new on is (q, step, opened) = (q, opened.shelf, ap (λ (r : PoolState). r.objects) step.0)
reset_plain copies reply.Done cmd.Upgrade p new on is (q, step, opened) = (q, opened.shelf, ap (λ (r : PoolState). r.objects) step.0)
reset_plain copies reply.Done (cmd.Remove dev) p new on is (q, step, opened) = (q, opened.shelf, ap (λ (r : PoolState). r.objects) step.0)
reset_plain copies answer (cmd.Add dev) p new on is turn = absurd is
reset_plain copies answer cmd.Checkpoint p new on is turn = absurd is
reset_plain copies answer cmd.Discard p new on is turn = absurd is
reset_plain copies answer cmd.Upgrade p new on is turn = absurd is
reset_plain copies answer (cmd.Remove dev) p new on is turn = absurd is
reset_plain copies answer command p new on is turn = no_way on

reset_part : (copies : Bool) (answer : Reply) (command : Command) (part : ShelfPart) (shelf : Shelf) (old new : State) (q : PoolState) → part ≡ Is q → ends_reset answer command ≡ true → IsOpenAnswer command answer → IsObjectsTurn copies true part shelf old command answer new → TellsOf new.shelf q.objects
reset_part copies answer command (Is p) shelf old new q told on is turn = let same : p ≡ q = cc in subst (λ (r : PoolState). TellsOf new.shelf r.objects) same (reset_plain copies answer command p new on is turn)
reset_part copies answer command Empty shelf old new q told on is turn = absurd cc
reset_part copies answer command (Refused r) shelf old new q told on is turn = absurd turn

pub reset_told : (copies : Bool) (command : Command) (answer : Reply) (is_open : Bool) (part : ShelfPart) (shelf : Shelf) (old new : State) (q : PoolState) → part ≡ Is q → ends_reset answer command ≡ true → IsTurn is_open command answer new.is_open → IsObjectsTurn copies is_open part shelf old command answer new → TellsOf new.shelf q.objects
reset_told copies command answer is_open part shelf old new q told on turn objects =
    let same = reset_open answer command is_open new.is_open on turn in
    reset_part copies answer command part shelf old new q told on (subst (λ (b : Bool). IsTurn b command answer new.is_open) same turn).0 (subst (λ (b : Bool). IsObjectsTurn copies b part shelf old command answer new) same objects)

-- a pool that was made is told without objects
pub made_told : (copies : Bool) (command : Command) (is_open : Bool) (part : ShelfPart) (shelf : Shelf) (old new : State) → is_create command ≡ true → IsTurn is_open command reply.Done new.is_open → IsObjectsTurn copies is_open part shelf old command reply.Done new → TellsOf new.shelf map.empty
made_told copies (cmd.Create name guid devs) true part shelf old new create turn objects = absurd turn.0
made_told copies (cmd.Create name guid devs) false part shelf old new create turn objects = (created name guid devs, objects.shelf, refl)
made_told copies (cmd.CreateOld name guid devs) true part shelf old new create turn objects = absurd turn.0
made_told copies (cmd.CreateOld name guid devs) false part shelf old new create turn objects = (created name guid devs, objects.shelf, refl)
made_told copies command is_open part shelf old new create turn objects = no_way create

one_of : (a b c : Bool) → (a || (b || c)) ≡ true → (b ≡ true) ⊎ ((c ≡ true) ⊎ (a ≡ true))
one_of true b c is = inr (inr refl)
one_of false true c is = inl refl
one_of false false c is = inr (inl is)

-- a line that leaves it told which objects were committed last works in the group, copies units, or is refused
pub leaves_small : (account : Option OpenPool) (answer : Reply) (command : Command) → leaves_told account answer command ≡ true → (is_in_group command ≡ true) ⊎ ((is_background command answer ≡ true) ⊎ (is_refusal answer ≡ true))
leaves_small (Some pool) answer command leaves = one_of (is_refusal answer) (is_in_group command) (is_background command answer) leaves
leaves_small None answer command leaves = inr (inr leaves)

-- a refusal acknowledges nothing
refused_unacknowledged : (answer : Reply) (command : Command) → is_refusal answer ≡ true → is_acknowledged answer command ≡ false
refused_unacknowledged (reply.No r) command is = refl
refused_unacknowledged answer command is = no_way is

-- what is told to be unwritten was so before the line, which was refused
pub begun_before : (first : Disks) (begun : Option Disks) (answer : Reply) (command : Command) → begun_behind begun answer ≡ Some first → (begun ≡ Some first) × (is_refusal answer ≡ true) × (is_acknowledged answer command ≡ false)
begun_before first begun (reply.No r) command is = (is, refl, refused_unacknowledged (reply.No r) command refl)
begun_before first begun answer command is = absurd cc
