-- One command: what it does to the account, whether a pool is open or not.
use Rattle.std.specs.Prelude.{◌≡◌, ℕ, ◌+◌, ◌==◌, true, false, List, [], map, Contains, if◌then◌else◌, Option, Some, None, unwrap_or, MatchBool}
use Rattle.zr_base.specs.declared.space.DevPart.{DevPart}
use Rattle.zr_base.specs.declared.space.DevState.TheVariants as row
use Rattle.zr_base.specs.declared.space.CkptPart.TheVariants as ckpt
use Rattle.zr_base.specs.declared.refusal.Refusal.{Refusal}
use Rattle.zr_base.specs.declared.refusal.Refusal.TheVariants as refusal
use Rattle.zr_script.specs.declared.command.Command.{Command}
use Rattle.zr_script.specs.declared.command.Command.TheVariants as cmd
use Rattle.zr_script.specs.declared.reply.Reply.{Reply}
use Rattle.zr_script.specs.declared.reply.Reply.TheVariants as reply
use Rattle.zr_bptr.specs.declared.Ptr.TheVariants.{Hole}
use Rattle.zr_label.specs.declared.root.Uber.{Uber}
use Rattle.zr_label.specs.declared.root.Seen.{Seen}
use Rattle.zr_label.specs.Geometry.{units_of_size}
use Rattle.zr_rules.specs.Space.{nothing_opened}
use Rattle.zr_model.specs.State.{PoolState, ShelfPart, Is}
use Rattle.zr_model.specs.Runs.{Shelf}
use Rattle.zr_image.specs.Current.{IsGroup, IsInWindow}
use Rattle.zr_image.specs.Roots.{Root}
use Rattle.zr_moves.specs.Account.{Account, HasRoots}
use Rattle.zr_moves.specs.Commits.{Commits, IsOpened, KeepsRoots}
use Rattle.zr_moves.specs.Moves.{Course, Moves, size_of}

-- a device that nothing was allocated on yet
abbrev pub new_part : ℕ → ℕ → DevPart
new_part txg units = record { row = record { state = row.On; added = txg; units = units; gone = 0 }; held = []; kept = []; entries = []; counts = []; fresh = []; late1 = []; late2 = [] }

-- the account of a pool that is to be made on these devices
abbrev pub blank_account : Shelf → ℕ → List (List ℕ) → Account
blank_account shelf version paths =
    record {
      space = record {
        parts = record { version = version; devs = map (λ path. new_part 1 (unwrap_or (units_of_size (size_of shelf path) version) 0)) paths; cond = None; ckpt = ckpt.Clear };
        opened = map (λ path. nothing_opened) paths;
        synced = 0;
        meta = [];
        saved_meta = [];
      };
      dir = record { root = Hole; height = 0 };
      changes = record { txg = 1; objects = [] };
    }

-- a pool is made: the slots are labelled, and then its first group is committed, as a reset
pub record Creates (c : Course) (version : ℕ) (paths : List (List ℕ)) (new : Account) : Type 0 where
  pub labelled : Shelf
  pub one_moment : Contains c.moments labelled
  pub first : Commits c.policy true labelled c.after (blank_account c.before version paths) new
  pub none : first.last.txg ≡ 0

-- the pool of the disks is opened, which changes nothing there
pub record Opens (c : Course) (new : Account) : Type 0 where
  pub seen : List Seen
  pub root : Root
  pub saved : Option Root
  pub opened : IsOpened c.after seen root saved new
  pub still : c.after ≡ c.before

-- the root with another group and another group of its last reset
abbrev pub with_group : Uber → ℕ → ℕ → Uber
with_group u txg reset = record u { txg = txg; reset = reset }

-- a root of before is current again, in the group behind the last one. That is a reset, but a root of the first form stays one.
pub record GoesBack (c : Course) (u : Uber) (last : ℕ) (new : Account) : Type 0 where
  pub seen : List Seen
  pub root : Root
  pub saved : Option Root
  pub opened : IsOpened c.after seen root saved new
  pub uber : root.uber ≡ with_group u (last + 1) (if u.reset == 0 then 0 else last + 1)

-- to the root that the current one saved
pub record Rewinds (c : Course) (new : Account) : Type 0 where
  pub seen : List Seen
  pub root : Root
  pub saved : Root
  pub roots : HasRoots c.before seen root (Some saved)
  pub back : GoesBack c saved.uber root.uber.txg new

-- to a lower group that is kept
pub record GoesBackTo (c : Course) (txg : ℕ) (new : Account) : Type 0 where
  pub seen : List Seen
  pub root : Root
  pub saved : Option Root
  pub roots : HasRoots c.before seen root saved
  pub kept : IsInWindow seen root.uber txg
  pub u : Uber
  pub group : IsGroup seen root.uber txg u
  pub moves : MatchBool (txg == root.uber.txg) (Opens c new) (GoesBack c u root.uber.txg new)

-- What a command does where no pool is open. A refusal writes nothing.
abbrev pub MovesClosed : Course → Command → Reply → Option Account → Type 0
MovesClosed c (cmd.Create name guid devs) reply.Done (Some new) = Creates c 2 devs new
MovesClosed c (cmd.CreateOld name guid devs) reply.Done (Some new) = Creates c 1 devs new
MovesClosed c cmd.Import reply.Done (Some new) = Opens c new
MovesClosed c cmd.ImportRewind reply.Done (Some new) = Rewinds c new
MovesClosed c (cmd.ImportTxg txg) reply.Done (Some new) = GoesBackTo c txg new
MovesClosed c command (reply.No r) new = (new ≡ None) × (c.after ≡ c.before)
MovesClosed c command answer new = ⊥

-- The refusals of an open pool that its account decides. All others follow from its state and its slots.
abbrev pub IsOfAccount : Command → Refusal → Type 0
IsOfAccount command (refusal.NoRun needed longest) = Unit {0}
IsOfAccount command (refusal.NoRoom needed free) = Unit {0}
IsOfAccount command (refusal.Damaged at expected found) = Unit {0}
IsOfAccount cmd.StepCondense refusal.NothingToDo = Unit {0}
IsOfAccount cmd.Upgrade refusal.NothingToDo = Unit {0}
IsOfAccount command r = ⊥

-- One command, by the account of the pool that is open, if one is. A refusal that the account does not decide changes nothing.
pub data Move (c : Course) : ShelfPart → Option Account → Command → Reply → Option Account → Type 0 where
  refused : (p : PoolState) (old : Account) (command : Command) (r : Refusal) → ¬ IsOfAccount command r → KeepsRoots c.before c.after → Move c (Is p) (Some old) command (reply.No r) (Some old)
  moved : (p : PoolState) (old new : Account) (command : Command) (answer : Reply) → Moves c p old command answer new → Move c (Is p) (Some old) command answer (Some new)
  exported : (p : PoolState) (old last : Account) → Commits c.policy false c.before c.after old last → Move c (Is p) (Some old) cmd.Export reply.Done None
  closed : (part : ShelfPart) (command : Command) (answer : Reply) (new : Option Account) → MovesClosed c command answer new → Move c part None command answer new
