-- What a stop leaves: the state after a prefix of the commands, with each commit that was answered.
use Rattle.std.specs.Prelude.{◌≡◌, ◌⊎◌, ℕ, zero, suc, ◌+◌, ◌<◌, ◌≤◌, Bool, false, List, [], ◌∷◌, ◌++◌, length, map, take, Option, Some, None, IfSome, Ok}
use Rattle.std.specs.List.{filter, list_any, zip}
use Rattle.std.specs.Str.{bytes_eq}
use Rattle.zr_shelf.specs.Disks.{Stand}
use Rattle.zr_script.specs.declared.command.Command.{Command}
use Rattle.zr_script.specs.declared.command.Command.TheVariants as cmd
use Rattle.zr_script.specs.declared.reply.Reply.{Reply}
use Rattle.zr_script.specs.declared.reply.Reply.TheVariants as reply
use Rattle.zr_script.specs.ReplyText.{reply_text}
use Rattle.zr_label.specs.declared.root.Uber.{Uber}
use Rattle.zr_label.specs.declared.root.Seen.{Seen}
use Rattle.zr_model.specs.State.{Device, InService, Leaving, Removed, PoolState, ShelfPart, Empty, Refused, Is, State}
use Rattle.zr_model.specs.Runs.{Point, Turn, texts}
use Rattle.zr_image.specs.Current.{ShowsAll, IsCurrent, FindsCurrent, IsInWindow}
use Rattle.zr_image.specs.Honest.{Leaves}
use Rattle.zr_image.specs.StateOf.{StateOf, StateAt}
use Rattle.zr_moves.specs.Answers.{Answers}

-- the answer is no refusal
abbrev pub IsDone : Reply → Type 0
IsDone (reply.No r) = ⊥
IsDone answer = Unit {0}

-- the current root of the disks is of a higher group
pub record IsBehind (disks : List (List ℕ)) (txg : ℕ) : Type 0 where
  pub seen : List Seen
  pub shows : ShowsAll disks seen
  pub current : Uber
  pub is_current : IsCurrent seen current
  pub below : txg < current.txg

-- the command commits with this answer, where the disks were so before
abbrev pub IsCommitting : List (List ℕ) → Command → Reply → Type 0
IsCommitting disks (cmd.Create name guid devs) answer = IsDone answer
IsCommitting disks (cmd.CreateOld name guid devs) answer = IsDone answer
IsCommitting disks cmd.ImportRewind answer = IsDone answer
IsCommitting disks (cmd.ImportTxg txg) answer = IsDone answer × IsBehind disks txg
IsCommitting disks cmd.Sync answer = IsDone answer
IsCommitting disks cmd.Export answer = IsDone answer
IsCommitting disks (cmd.Add dev) answer = IsDone answer
IsCommitting disks (cmd.Remove dev) answer = IsDone answer
IsCommitting disks cmd.Cancel answer = IsDone answer
IsCommitting disks cmd.Checkpoint answer = IsDone answer
IsCommitting disks cmd.Discard answer = IsDone answer
IsCommitting disks cmd.Upgrade answer = IsDone answer
IsCommitting disks cmd.StepEvac (reply.Gone d) = Unit {0}
IsCommitting disks cmd.StepEvac (reply.Cancelled d) = Unit {0}
IsCommitting disks command answer = ⊥

-- how things stood after k commands
abbrev pub point_after : Point State → List (Turn State) → ℕ → Point State
point_after p turns zero = p
point_after p [] (suc k) = p
point_after p (t ∷ turns) (suc k) = point_after t.point turns k

-- what the shelf had then
abbrev pub part_after : Point State → List (Turn State) → ℕ → ShelfPart
part_after p turns k = (point_after p turns k).state.shelf

-- the k-th command, the first being 1, has committed
abbrev pub CommittedAt : Point State → List (Turn State) → ℕ → Type 0
CommittedAt p turns zero = ⊥
CommittedAt p [] (suc k) = ⊥
CommittedAt p (t ∷ turns) (suc zero) = IsCommitting p.shelf.disks t.command t.answer
CommittedAt p (t ∷ turns) (suc (suc k)) = CommittedAt t.point turns (suc k)

-- of the first r commands the last that has committed, 0 where none has
pub record IsLastCommit (p : Point State) (turns : List (Turn State)) (r s : ℕ) : Type 0 where
  pub among : s ≤ r
  pub committed : 0 < s → CommittedAt p turns s
  pub last : (k : ℕ) → s < k → k ≤ r → CommittedAt p turns k → ⊥

-- What a run is at a moment: the bytes that were sent before it, where it began, the commands that are answered, the one that is being done, and what is to be
-- sent behind all replies.
pub record Now : Type 0 where
  pub before : List ℕ
  pub start : Point State
  pub turns : List (Turn State)
  pub doing : Option Command
  pub ending : List ℕ

-- the text that is sent behind r replies: the next reply, or what ends the run
abbrev pub text_behind : List (Turn State) → List ℕ → ℕ → List ℕ
text_behind [] ending r = ending
text_behind (t ∷ turns) ending zero = reply_text t.answer
text_behind (t ∷ turns) ending (suc r) = text_behind turns ending r

-- r replies are sent whole, and of the next text a part, which is not all of a reply
pub record HasSent (now : Now) (r : ℕ) (sent : List ℕ) : Type 0 where
  pub among : r ≤ length now.turns
  pub front : List ℕ
  pub rest : List ℕ
  pub all : sent ≡ now.before ++ (texts (take r now.turns) ++ front)
  pub part : front ++ rest ≡ text_behind now.turns now.ending r
  pub short : r < length now.turns → 0 < length rest

-- the part is what the shelf has after the command that is being done, done with no refusal
abbrev pub IsNextBy : Option Command → Point State → ShelfPart → Type 0
IsNextBy None p part = ⊥
IsNextBy (Some command) p part = (answer : Reply) × (new : State) × Answers p.shelf p.state command answer new × IsDone answer × (part ≡ new.shelf)

-- the part is what the shelf has after k commands, which may be one more than are answered
abbrev pub IsAfter : Now → ℕ → ShelfPart → Type 0
IsAfter now k part =
    ((k ≤ length now.turns) × (part ≡ part_after now.start now.turns k))
    ⊎ ((k ≡ length now.turns + 1) × IsNextBy now.doing (point_after now.start now.turns (length now.turns)) part)

-- the device is in service or leaving in the slot of this path
abbrev pub has_path : List ℕ → Device → Bool
has_path path (InService own) = bytes_eq path own
has_path path (Leaving own) = bytes_eq path own
has_path path Removed = false

-- the slots that are devices of the pool
abbrev pub own_slots : PoolState → List (List ℕ) → List (List ℕ) → List (List ℕ × List ℕ)
own_slots p paths disks = filter (λ (slot : List ℕ × List ℕ). list_any (has_path slot.0) p.devs) (zip paths disks)

abbrev pub paths_of : List (List ℕ × List ℕ) → List (List ℕ)
paths_of slots = map (λ (s : List ℕ × List ℕ). s.0) slots

abbrev pub disks_of : List (List ℕ × List ℕ) → List (List ℕ)
disks_of slots = map (λ (s : List ℕ × List ℕ). s.1) slots

-- a pool is the same without the slots that are none of its devices
abbrev pub IsSameAlone : List (List ℕ) → List (List ℕ) → ShelfPart → Type 0
IsSameAlone paths disks Empty = Unit {0}
IsSameAlone paths disks (Refused r) = Unit {0}
IsSameAlone paths disks (Is p) = StateOf (paths_of (own_slots p paths disks)) (disks_of (own_slots p paths disks)) (Is p)

-- and so is what a lower group means
abbrev pub IsSameAloneAt : List (List ℕ) → List (List ℕ) → ShelfPart → ℕ → ShelfPart → Type 0
IsSameAloneAt paths disks Empty txg lower = Unit {0}
IsSameAloneAt paths disks (Refused r) txg lower = Unit {0}
IsSameAloneAt paths disks (Is p) txg lower = StateAt (paths_of (own_slots p paths disks)) (disks_of (own_slots p paths disks)) txg lower

-- the k-th command was answered with this group
abbrev pub SyncedAt : List (Turn State) → ℕ → ℕ → Type 0
SyncedAt [] k txg = ⊥
SyncedAt (t ∷ turns) zero txg = ⊥
SyncedAt (t ∷ turns) (suc zero) txg = t.answer ≡ reply.Synced txg
SyncedAt (t ∷ turns) (suc (suc k)) txg = SyncedAt turns (suc k) txg

-- the group is kept by the disks, and lower than their current one
pub record IsLower (disks : List (List ℕ)) (txg : ℕ) : Type 0 where
  pub seen : List Seen
  pub shows : ShowsAll disks seen
  pub current : Uber
  pub found : FindsCurrent seen (Ok current)
  pub below : txg < current.txg
  pub kept : IsInWindow seen current txg

-- A lower group means the shelf after a command of its own, by its place, or what it meant when the run began. A group that was told has the place of its reply.
pub record MeansLower (now : Now) (paths image : List (List ℕ)) (part : ShelfPart) (k r txg : ℕ) (place : Option ℕ) : Type 0 where
  pub lower : ShelfPart
  pub means : StateAt paths image txg lower
  pub of_run : IfSome place (λ j. (j ≤ k) × IsAfter now j lower)
  pub of_before : place ≡ None → StateAt now.start.shelf.paths now.start.shelf.disks txg lower
  pub synced : (j : ℕ) → j ≤ r → SyncedAt now.turns j txg → place ≡ Some j
  pub alone : IsSameAloneAt paths image part txg lower

-- a group from before the run has no place, and comes before those that have one
abbrev pub IsNoLater : Option ℕ → Option ℕ → Type 0
IsNoLater None b = Unit {0}
IsNoLater (Some i) None = ⊥
IsNoLater (Some i) (Some j) = i ≤ j

-- The lower groups of an image mean what came before.
pub record MeansLowers (now : Now) (paths image : List (List ℕ)) (part : ShelfPart) (k r : ℕ) : Type 0 where
  pub place : ℕ → Option ℕ
  pub lower : (txg : ℕ) → IsLower image txg → MeansLower now paths image part k r txg (place txg)
  pub rising : (a b : ℕ) → a < b → IsLower image a → IsLower image b → IsNoLater (place a) (place b)

-- An image means the shelf after k commands, from s to one more than r. Where the lower groups were lawful when the run began, they mean what came before.
pub record MeansPrefix (Lawful : Type 0) (now : Now) (paths : List (List ℕ)) (s r : ℕ) (image : List (List ℕ)) : Type 0 where
  pub part : ShelfPart
  pub means : StateOf paths image part
  pub k : ℕ
  pub least : s ≤ k
  pub most : k ≤ r + 1
  pub after : IsAfter now k part
  pub alone : IsSameAlone paths image part
  pub lowers : Lawful → MeansLowers now paths image part k r

-- At a moment: whatever an honest crash leaves holds each commit whose reply was sent whole, and at most one command more than were answered by then.
pub record KeepsPrefix (Lawful : Type 0) (now : Now) (stand : Stand) : Type 0 where
  pub r : ℕ
  pub s : ℕ
  pub sent : HasSent now r stand.sent
  pub last : IsLastCommit now.start now.turns r s
  pub leaves : Leaves (MeansPrefix Lawful now stand.paths s r) stand

-- The same where no replies are sent one by one: some state from the first to one more than are answered.
pub record KeepsSome (Lawful : Type 0) (now : Now) (stand : Stand) : Type 0 where
  pub leaves : Leaves (MeansPrefix Lawful now stand.paths 0 (length now.turns)) stand

-- And where all replies count as sent: no command is being done.
pub record KeepsAll (Lawful : Type 0) (now : Now) (stand : Stand) : Type 0 where
  pub done : now.doing ≡ None
  pub s : ℕ
  pub last : IsLastCommit now.start now.turns (length now.turns) s
  pub leaves : Leaves (MeansPrefix Lawful now stand.paths s (length now.turns)) stand
