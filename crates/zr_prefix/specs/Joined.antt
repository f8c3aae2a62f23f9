-- A run that was stopped, and one that goes on from what it left.
use Rattle.std.specs.Prelude.{◌≡◌, ◌⊎◌, ℕ, List, [], ◌∷◌, ◌++◌, IfSome, Option}
use Rattle.zr_command.specs.Meanings.{Disks, Run, disks_of}
use Rattle.zr_image.specs.Honest.{IsLeft}
use Rattle.zr_model.specs.Objects.{Objects}
use Rattle.zr_model.specs.Runs.{Point, Turn, point, end_of}
use Rattle.zr_pool.specs.Behind.{TellsOf}
use Rattle.zr_pool.specs.Pools.{DeviceState, no_device_state, stand_of}
use Rattle.zr_pool.specs.Turns.{on_devices}
use Rattle.zr_script.specs.declared.command.Command.{Command}
use Rattle.zr_script.specs.declared.command.Command.TheVariants as cmd
use Rattle.zr_script.specs.declared.reply.Reply.TheVariants as reply
use Rattle.zr_session.specs.Agenda.{Item, IsDue}
use Rattle.zr_session.specs.Moments.{IsMomentOf, MayStand}
use Rattle.zr_session.specs.Moments.MayStand.{resting, under_way, replying}
use Rattle.zr_session.specs.declared.replies.Replies.{Replies}
use Rattle.zr_shelf.specs.Disks.{Stand}
use Rattle.zr_prefix.specs.Prefix.{ComesOf, IsCovered, IsTold, ShowsPrefix}

-- a run that was stopped: where it began, with all devices attached, the lines that were answered, and the one that was under way, if one was
pub record StoppedRun : Type 0 where
  pub begin : Stand
  pub turns : List (Turn DeviceState)
  pub due : Option Command

-- with no pool yet
abbrev pub begin_of : StoppedRun → Point DeviceState
begin_of r = point r.begin (no_device_state (disks_of r.begin))

-- Where it was stopped: its lines are a run of the pool on devices, and what an honest crash shows of the disks comes of them.
pub record IsStopped (r : StoppedRun) (stop : Stand) : Type 0 where
  pub run : Run on_devices (begin_of r) r.turns
  pub shows : ShowsPrefix (begin_of r) r.turns r.due (disks_of stop)

-- A run that began so was stopped there: its lines are those that were answered, or these and the one that was due, which is done; and only that one may be under way.
pub record IsStoppedAt (opening stop : Stand) (answered : List (Turn DeviceState)) (Due : Command → Type 0) : Type 0 where
  pub done : StoppedRun
  pub begins : done.begin ≡ opening
  pub lines : (done.turns ≡ answered) ⊎ ((t : Turn DeviceState) × Due t.command × (done.turns ≡ answered ++ t ∷ []))
  pub under_way : IfSome done.due Due
  pub stops : IsStopped done stop

-- At a moment of a run it is told what was committed: between two lines, within one that may be stopped at any moment, or behind one.
abbrev pub IsToldWhere : (replies : Replies) (Due : Command → Type 0) (p : Point DeviceState) (part : List ℕ) (disks : Disks) → MayStand on_devices replies Due p part disks → Type 0
IsToldWhere replies Due p part disks (resting rests last) = IsTold p
IsToldWhere replies Due p part disks (under_way command due within last) = IsTold p × IsCovered p command
IsToldWhere replies Due p part disks (replying t due takes rests front) = IsTold t.point

abbrev pub StopsTold : (A : Type 0) (Means : A → Command → Type 0) (replies : Replies) (items : List (Item A)) (opening stand : Stand) → IsMomentOf A on_devices Means replies items (no_device_state (disks_of opening)) opening stand → Type 0
StopsTold A Means replies items opening stand m =
    let p = end_of (point opening (no_device_state (disks_of opening))) m.turns in
    IsToldWhere replies (IsDue on_devices Means m.rest p) p m.part (disks_of stand) m.disks

-- The second run begins on an image that an honest crash left where the first was stopped, and its first line imports the pool.
pub record GoesOn (a b : StoppedRun) : Type 0 where
  pub stop : Stand
  pub stopped : IsStopped a stop
  pub left : IsLeft (stand_of (disks_of stop)) b.begin.seen
  pub first : Turn DeviceState
  pub rest : List (Turn DeviceState)
  pub turns : b.turns ≡ first ∷ rest
  pub imports : first.command ≡ cmd.Import
  pub done : first.answer ≡ reply.Done
  pub run : Run on_devices (begin_of b) b.turns

-- each goes on from the one before
abbrev pub FollowOn : StoppedRun → List StoppedRun → Type 0
FollowOn a [] = Unit {0}
FollowOn a (b ∷ more) = GoesOn a b × FollowOn b more

-- The second run begins with what comes of the first: its objects are told behind its import.
pub record Joins (a b : StoppedRun) : Type 0 where
  pub objects : Objects
  pub comes : ComesOf (begin_of a) a.turns a.due b.begin.seen objects
  pub first : Turn DeviceState
  pub rest : List (Turn DeviceState)
  pub turns : b.turns ≡ first ∷ rest
  pub found : TellsOf first.point.state.told.shelf objects

abbrev pub AreJoined : StoppedRun → List StoppedRun → Type 0
AreJoined a [] = Unit {0}
AreJoined a (b ∷ more) = Joins a b × AreJoined b more
