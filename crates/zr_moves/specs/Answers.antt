-- One command to a pool, as a pool of plain objects answers it.
use Rattle.std.specs.Prelude.{◌≡◌, ◌⊎◌, ℕ, ◌≤◌, ◌==◌, Bool, true, false, List, [], ◌∷◌, ◌++◌, length, map, replicate, if◌then◌else◌, Option, Some, None, option_map, unwrap_or, MatchBool, Result, Ok, Err}
use Rattle.std.specs.Str.{bytes_eq}
use Rattle.std.specs.FinMap as objects
use Rattle.zr_base.specs.declared.refusal.Refusal.{Refusal}
use Rattle.zr_base.specs.declared.refusal.Refusal.TheVariants as refusal
use Rattle.zr_script.specs.declared.command.Command.{Command}
use Rattle.zr_script.specs.declared.command.Command.TheVariants as cmd
use Rattle.zr_script.specs.declared.reply.Reply.{Reply}
use Rattle.zr_script.specs.declared.reply.Reply.TheVariants as reply
use Rattle.zr_label.specs.declared.root.Uber.{Uber}
use Rattle.zr_label.specs.declared.root.Seen.{Seen}
use Rattle.zr_model.specs.Objects.{Object, blank, bytes_at, with_bytes, reads_lost, changes_lost, has_lost, object_sum}
use Rattle.zr_model.specs.State.{Device, InService, Leaving, Removed, Saved, PoolState, ShelfPart, Empty, Refused, Is, State, no_work, opened, created, with_objects}
use Rattle.zr_model.specs.Runs.{Shelf}
use Rattle.zr_image.specs.Current.{ShowsAll, IsCurrent}
use Rattle.zr_image.specs.StateOf.{StateAt}
use Rattle.zr_moves.specs.Refusals.{Slots, Admits}

abbrev pub with_devs : PoolState → List Device → PoolState
with_devs p devs = record p { devs = devs }

abbrev pub with_saved : PoolState → Option Saved → Bool → PoolState
with_saved p saved discarding = record p { saved = saved; discarding = discarding }

-- the pool of the checkpoint, without one
abbrev pub rewound : PoolState → Saved → PoolState
rewound p s = record { guid = p.guid; name = p.name; objects = s.objects; saved = None; devs = s.devs; discarding = false }

-- the one object changes
abbrev pub ChangesObject : PoolState → ℕ → (Object → Object) → PoolState → Type 0
ChangesObject p id change new = (o : Object) × (objects.get p.objects id ≡ Some o) × (new ≡ with_objects p (objects.insert p.objects id (change o)))

-- the device of this path, where it is in service, is leaving
abbrev pub leave_at : List ℕ → Device → Device
leave_at path (InService own) = if bytes_eq path own then Leaving own else InService own
leave_at path d = d

-- the device that is leaving is in service again
abbrev pub return_to : Device → Device
return_to (Leaving path) = InService path
return_to d = d

-- the device that is leaving is removed
abbrev pub take_away : Device → Device
take_away (Leaving path) = Removed
take_away d = d

-- the index is that of the device that is leaving
abbrev pub IsLeavingAt : List Device → ℕ → Type 0
IsLeavingAt devs i = (path : List ℕ) × (before after : List Device) × (devs ≡ before ++ Leaving path ∷ after) × (length before ≡ i)

-- What an open pool does, where nothing refuses it.
abbrev pub Acts : PoolState → Command → Reply → PoolState → Type 0
Acts p (cmd.Make id units) reply.Done new = new ≡ with_objects p (objects.insert p.objects id (blank units))
Acts p (cmd.Drop id) reply.Done new = new ≡ with_objects p (objects.remove p.objects id)
Acts p (cmd.Write id off bytes) reply.Done new = ChangesObject p id (λ o. with_bytes o off bytes) new
Acts p (cmd.Fill id off len byte) reply.Done new = ChangesObject p id (λ o. with_bytes o off (replicate len byte)) new
Acts p (cmd.Punch id off len) reply.Done new = ChangesObject p id (λ o. with_bytes o off (replicate len 0)) new
Acts p (cmd.Read id off len) (reply.Data bytes) new = (o : Object) × (objects.get p.objects id ≡ Some o) × (bytes ≡ bytes_at o.bytes off len) × (new ≡ p)
Acts p (cmd.Sum id) (reply.Sum sum) new = (o : Object) × (objects.get p.objects id ≡ Some o) × (sum ≡ object_sum o) × (new ≡ p)
Acts p cmd.Sync (reply.Synced txg) new = new ≡ p
Acts p (cmd.Add dev) reply.Done new = new ≡ with_devs p (p.devs ++ InService dev ∷ [])
Acts p (cmd.Remove dev) reply.Done new = new ≡ with_devs p (map (leave_at dev) p.devs)
Acts p (cmd.Estimate dev) (reply.Estimate n) new = new ≡ p
Acts p cmd.Cancel (reply.Cancelled i) new = IsLeavingAt p.devs i × (new ≡ with_devs p (map return_to p.devs))
Acts p cmd.Checkpoint reply.Done new = new ≡ with_saved p (Some (record { objects = p.objects; devs = p.devs })) false
Acts p cmd.Discard reply.Done new = new ≡ with_saved p None true
Acts p cmd.StepEvac (reply.Copied n) new = (1 ≤ n) × (n ≤ 256) × (new ≡ p)
Acts p cmd.StepEvac (reply.Gone i) new = IsLeavingAt p.devs i × (new ≡ with_devs p (map take_away p.devs))
Acts p cmd.StepEvac (reply.Cancelled i) new = IsLeavingAt p.devs i × (new ≡ with_devs p (map return_to p.devs))
Acts p cmd.StepDiscard (reply.Freed n) new = (1 ≤ n) × (new ≡ p)
Acts p cmd.StepDiscard reply.Ended new = new ≡ with_saved p p.saved false
Acts p cmd.StepCondense (reply.Kept n) new = new ≡ p
Acts p cmd.StepCondense reply.Ended new = new ≡ p
Acts p cmd.List (reply.List lines) new = new ≡ p
Acts p cmd.Status (reply.Status lines) new = new ≡ p
Acts p (cmd.Map index) (reply.Map lines) new = new ≡ p
Acts p cmd.Audit (reply.Audit lines) new = new ≡ p
Acts p cmd.Upgrade reply.Done new = new ≡ p
Acts p command answer new = ⊥

-- The command may be refused for the room that is left, or because there is no work. The account says when.
abbrev pub MayRefuse : Command → Refusal → Type 0
MayRefuse (cmd.Make id units) (refusal.NoRoom needed free) = Unit {0}
MayRefuse (cmd.Drop id) (refusal.NoRoom needed free) = Unit {0}
MayRefuse (cmd.Write id off bytes) (refusal.NoRoom needed free) = Unit {0}
MayRefuse (cmd.Write id off bytes) (refusal.NoRun needed longest) = Unit {0}
MayRefuse (cmd.Fill id off len byte) (refusal.NoRoom needed free) = Unit {0}
MayRefuse (cmd.Fill id off len byte) (refusal.NoRun needed longest) = Unit {0}
MayRefuse (cmd.Punch id off len) (refusal.NoRoom needed free) = Unit {0}
MayRefuse (cmd.Punch id off len) (refusal.NoRun needed longest) = Unit {0}
MayRefuse (cmd.Remove dev) (refusal.NoRoom needed free) = Unit {0}
MayRefuse cmd.Checkpoint (refusal.NoRoom needed free) = Unit {0}
MayRefuse cmd.StepCondense refusal.NothingToDo = Unit {0}
MayRefuse cmd.Upgrade refusal.NothingToDo = Unit {0}
MayRefuse command r = ⊥

abbrev pub of_object : PoolState → ℕ → (Object → Bool) → Bool
of_object p id test = unwrap_or (option_map test (objects.get p.objects id)) false

-- the command needs a block that is lost
abbrev pub needs_lost : PoolState → Command → Bool
needs_lost p (cmd.Write id off bytes) = of_object p id (λ o. changes_lost o off (length bytes))
needs_lost p (cmd.Fill id off len byte) = of_object p id (λ o. changes_lost o off len)
needs_lost p (cmd.Punch id off len) = of_object p id (λ o. changes_lost o off len)
needs_lost p (cmd.Read id off len) = of_object p id (λ o. reads_lost o off len)
needs_lost p (cmd.Sum id) = of_object p id has_lost
needs_lost p command = false

-- the damage of a block is told
abbrev pub IsDamage : Reply → Type 0
IsDamage (reply.No (refusal.Damaged at expected found)) = Unit {0}
IsDamage answer = ⊥

-- it is done, or it is refused by the account and changes nothing
abbrev pub ActsOrRefuses : PoolState → Command → Reply → State → Type 0
ActsOrRefuses p command answer new =
    ((q : PoolState) × Acts p command answer q × (new ≡ opened q)) ⊎ ((r : Refusal) × MayRefuse command r × (answer ≡ reply.No r) × (new ≡ opened p))

-- an open pool: where a block that is needed is lost, that is told and nothing changes
abbrev pub AnswersOpen : PoolState → Command → Reply → State → Type 0
AnswersOpen p cmd.Export reply.Done new = new ≡ record { is_open = false; shelf = Is p; work = no_work }
AnswersOpen p cmd.Export answer new = ⊥
AnswersOpen p command answer new = MatchBool (needs_lost p command) (IsDamage answer × (new ≡ opened p)) (ActsOrRefuses p command answer new)

-- what the root of a lower group means: a pool, or why it cannot be opened
abbrev pub AnswersGroup : State → ShelfPart → Reply → State → Type 0
AnswersGroup old (Is p) answer new = (answer ≡ reply.Done) × (new ≡ opened p)
AnswersGroup old (Refused r) answer new = (answer ≡ reply.No r) × (new ≡ old)
AnswersGroup old Empty answer new = ⊥

-- an import of a group: the current one as it is, or a lower one that is kept
abbrev pub ImportsGroup : Shelf → List Seen → State → PoolState → ℕ → Reply → State → Type 0
ImportsGroup s seen old p txg answer new =
    (u : Uber) × IsCurrent seen u
    × MatchBool (txg == u.txg) ((answer ≡ reply.Done) × (new ≡ opened p)) ((part : ShelfPart) × StateAt s.paths s.disks txg part × AnswersGroup old part answer new)

-- a shelf with no open pool
abbrev pub AnswersClosed : Shelf → List Seen → State → ShelfPart → Command → Reply → State → Type 0
AnswersClosed s seen old Empty (cmd.Create name guid devs) answer new = (answer ≡ reply.Done) × (new ≡ opened (created name guid devs))
AnswersClosed s seen old Empty (cmd.CreateOld name guid devs) answer new = (answer ≡ reply.Done) × (new ≡ opened (created name guid devs))
AnswersClosed s seen old (Is p) cmd.Import answer new = (answer ≡ reply.Done) × (new ≡ opened p)
AnswersClosed s seen old (Is p) cmd.ImportRewind answer new = (saved : Saved) × (p.saved ≡ Some saved) × (answer ≡ reply.Done) × (new ≡ opened (rewound p saved))
AnswersClosed s seen old (Is p) (cmd.ImportTxg txg) answer new = ImportsGroup s seen old p txg answer new
AnswersClosed s seen old part command answer new = ⊥

abbrev pub AnswersBy : Bool → Shelf → List Seen → State → ShelfPart → Command → Reply → State → Type 0
AnswersBy true s seen old (Is p) command answer new = AnswersOpen p command answer new
AnswersBy true s seen old part command answer new = ⊥
AnswersBy false s seen old part command answer new = AnswersClosed s seen old part command answer new

-- what the slots of a shelf show
abbrev pub slots_in : Shelf → List Seen → Slots
slots_in s seen = record { paths = s.paths; sizes = map length s.disks; seen = seen }

-- the command is done where it is admitted, and else its refusal is the answer and nothing changes
abbrev pub AnswersOutcome : Shelf → List Seen → State → Command → Result (Unit {0}) Refusal → Reply → State → Type 0
AnswersOutcome s seen old command (Ok done) answer new = AnswersBy old.is_open s seen old old.shelf command answer new
AnswersOutcome s seen old command (Err r) answer new = (answer ≡ reply.No r) × (new ≡ old)

-- One command: the first refusal that the state and the slots show is the answer, and where there is none the command is done.
pub record Answers (s : Shelf) (old : State) (command : Command) (answer : Reply) (new : State) : Type 0 where
  pub seen : List Seen
  pub shows : ShowsAll s.disks seen
  pub outcome : Result (Unit {0}) Refusal
  pub admitted : Admits (slots_in s seen) old command outcome
  pub answers : AnswersOutcome s seen old command outcome answer new
