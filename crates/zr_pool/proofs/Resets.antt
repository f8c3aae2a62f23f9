-- A pool behind a line that ended with a reset, what such a line wrote, and the root that is the newest before it.
use Rattle.std.proofs.Common.{◌≡◌, inl, inr, ℕ, ◌<◌, true, List, length, map, Option, None, Some, Result, Ok, Err, subst, ⊎_elim}
use Rattle.std.specs.Prelude.{IfOk, IfSome, OnOk}
use Rattle.zr_base.specs.declared.space.DevState.TheVariants.{On}
use Rattle.zr_current.specs.Current.{GoesOnFrom}
use Rattle.zr_label.specs.declared.root.Uber.{Uber}
use Rattle.zr_last.specs.Last.{ShowsLast}
use Rattle.zr_model.specs.Objects.{Objects}
use Rattle.zr_lines.specs.Stops.{StaysInPlace, WritesOneReset, WritesReset}
use Rattle.zr_removal.proofs.Outgoing.{out_devices}
use Rattle.zr_removal.specs.Turns.{BeginsInPart, LeavesPool}
use Rattle.zr_rules.specs.Places.{state_of_dev}
use Rattle.zr_rules.specs.Roles.{Role}
use Rattle.zr_script.specs.declared.command.Command.{Command}
use Rattle.zr_script.specs.declared.reply.Reply.{Reply}
use Rattle.zr_shelf.specs.Disks.{Stand}
use Rattle.zr_shelf.specs.Moments.{World}
use Rattle.zr_open.specs.There.{IsReadable}
use Rattle.zr_stops.proofs.Behind.{left_behind}
use Rattle.zr_stops.proofs.Committing.{within_from}
use Rattle.zr_stops.proofs.Ending.{newest_same}
use Rattle.zr_stops.proofs.Images.{newest_kept, within_clear}
use Rattle.zr_stops.proofs.Within.{in_group}
use Rattle.zr_stops.specs.Behind.{StandsBehind}
use Rattle.zr_sync.proofs.Leading.{committed_told}
use Rattle.zr_sync.specs.Pools.{IsOpen}
use Rattle.zr_sync.specs.declared.open.OpenPool.{OpenPool}
use Rattle.zr_vdev.specs.Stores.{is_open_role}
use Rattle.zr_sync.specs.declared.fault.Fault.{Fault}
use Rattle.zr_pool.proofs.Groups.{resets_or_returns}
use Rattle.zr_pool.specs.Behind.{HasReset, ends_reset, is_resetting, is_return}

-- a pool in the group behind a commit goes on from the newest root
pub behind_last : (sizes : List ℕ) (objects : Objects) (pool : OpenPool) (now : Stand) → StandsBehind sizes objects pool now → ShowsLast now.seen pool
behind_last sizes objects pool now h = record {
  root = h.root;
  from = within_from h.root h.first pool h.begin now h.within h.from;
  newest = newest_same now.seen h.root h.first pool h.within.table (newest_kept sizes h.root h.first objects h.begin h.committed now.seen (within_clear sizes h.root h.first objects h.begin h.committed pool now (in_group h.first h.begin pool now h.within)));
}

-- what a reset leaves begins a group
pub reset_behind : (sizes : List ℕ) (objects : Objects) (pool : OpenPool) (now : Stand) → ShowsLast now.seen pool → IsOpen sizes pool → map length now.seen ≡ sizes → HasReset pool now objects → ((u : Uber) → GoesOnFrom u pool → IsReadable now.seen pool u) → StandsBehind sizes objects pool now
reset_behind sizes objects pool now shows ready sized reset reads = left_behind sizes objects pool now ready sized shows reset.leaves reset.holds reads

-- a device that is leaving is where it was, and no other unit may be written
leaves_in_place : (sizes : List ℕ) (old left : OpenPool) (d : ℕ) → IsOpen sizes old → LeavesPool old left d → state_of_dev old.space.parts.devs d ≡ On → d < old.table.count → StaysInPlace old left
leaves_in_place sizes old left d ready leaves on known = record {
  devices = out_devices sizes old left d leaves on known ready;
  units = λ e u is. subst (λ (r : Role). is_open_role r ≡ true) (leaves.leaves.roles e u) is;
}

-- so the beginning of a removal wrote what a reset writes
pub begun : (Told : Type 0) → (Told → ⊥) → (sizes : List ℕ) (objects : Objects) (old : OpenPool) (d : ℕ) (before now : World) → IsOpen sizes old → state_of_dev old.space.parts.devs d ≡ On → d < old.table.count → BeginsInPart sizes objects old d before now → WritesReset Told sizes objects old before now
begun Told none sizes objects old d before now ready on known (inl nothing) = inl (inl nothing)
begun Told none sizes objects old d before now ready on known (inr (left, open_left, leaves, commits)) = inl (inr (left, open_left, leaves_in_place sizes old left d ready leaves on known, committed_told ⊥ Told sizes left true objects before now none commits))

-- what follows of such a line where more is told of the streams follows where less is
one_told : (A B : Type 0) (sizes : List ℕ) (objects : Objects) (old : OpenPool) (before now : World) → (B → A) → WritesOneReset A sizes objects old before now → WritesOneReset B sizes objects old before now
one_told A B sizes objects old before now more (inl nothing) = inl nothing
one_told A B sizes objects old before now more (inr (changed, ready, stays, commits)) = inr (changed, ready, stays, committed_told A B sizes changed true objects before now more commits)

pub reset_told : (A B : Type 0) (sizes : List ℕ) (objects : Objects) (old : OpenPool) (before now : World) → (B → A) → WritesReset A sizes objects old before now → WritesReset B sizes objects old before now
reset_told A B sizes objects old before now more (inl once) = inl (one_told A B sizes objects old before now more once)
reset_told A B sizes objects old before now more (inr (inl commits)) = inr (inl commits)
reset_told A B sizes objects old before now more (inr (inr behind)) = inr (inr (record { next = behind.next; start = behind.start; commits = behind.commits; resets = one_told A B sizes objects behind.next behind.start now more behind.resets }))

-- a line that ended with a reset left the pool committed, be it one that does so or a removal that was given up
pub ends_or_returns : (command : Command) (pool : OpenPool) (now : Stand) (objects : Objects) (r : Result (Option Reply) Fault) → (is_resetting command ≡ true → OnOk r (HasReset pool now objects)) → IfOk r (λ answered. IfSome answered (λ answer. is_return answer command ≡ true → HasReset pool now objects))
    → IfOk r (λ answered. IfSome answered (λ answer. ends_reset answer command ≡ true → HasReset pool now objects))
ends_or_returns command pool now objects (Ok None) resets returns = tt
ends_or_returns command pool now objects (Ok (Some answer)) resets returns = λ on. ⊎_elim resets returns (resets_or_returns answer command on)
ends_or_returns command pool now objects (Err e) resets returns = tt
