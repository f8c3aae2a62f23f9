-- Stopped runs, and what the next one finds.
use Rattle.std.proofs.Common.{◌≡◌, List, [], ◌∷◌, ◌++◌, Some, None, refl, sym, subst, inl, inr}
use Rattle.zr_command.specs.Meanings.{Run, disks_of}
use Rattle.zr_model.specs.Runs.{Point, Shelf, Turn, point, end_of}
use Rattle.zr_model.specs.State.{State, PoolState, IsOpened}
use Rattle.zr_open.specs.Shown.{Shows}
use Rattle.zr_pool.specs.Plain.{IsOpeningTurn}
use Rattle.zr_pool.specs.Pools.{DeviceState, no_device_state}
use Rattle.zr_pool.specs.Turns.{IsDeviceTurn, RestsOn, on_devices}
use Rattle.zr_script.specs.declared.command.Command.{Command}
use Rattle.zr_script.specs.declared.command.Command.TheVariants as cmd
use Rattle.zr_script.specs.declared.reply.Reply.{Reply}
use Rattle.zr_script.specs.declared.reply.Reply.TheVariants as reply
use Rattle.zr_session.specs.Agenda.{Item, IsDue}
use Rattle.zr_session.specs.Moments.{IsMomentOf, MayStand}
use Rattle.zr_session.specs.Moments.MayStand.{resting, under_way, replying}
use Rattle.zr_session.specs.declared.replies.Replies.{Replies}
use Rattle.zr_shelf.specs.Disks.{Stand}
use Rattle.zr_prefix.proofs.Prefixes.{end_more, run_more}
use Rattle.zr_prefix.proofs.Stopping.{line_shows, rest_shows}
use Rattle.zr_prefix.specs.Joined.{AreJoined, FollowOn, GoesOn, IsStoppedAt, IsToldWhere, Joins, StoppedRun, StopsTold, begin_of}
use Rattle.zr_prefix.specs.Prefix.{IsTold}

-- ---- a moment

module _ (A : Type 0) (Means : A → Command → Type 0) (replies : Replies) (items : List (Item A)) (opening stand : Stand) (m : IsMomentOf A on_devices Means replies items (no_device_state (disks_of opening)) opening stand) where
  abbrev first : Point DeviceState
  first = point opening (no_device_state (disks_of opening))

  abbrev now : Point DeviceState
  now = end_of first m.turns

  abbrev There : Type 0
  There = IsStoppedAt opening stand m.turns (IsDue on_devices Means m.rest now)

  by_disks : (d : MayStand on_devices replies (IsDue on_devices Means m.rest now) now m.part (disks_of stand)) → IsToldWhere replies (IsDue on_devices Means m.rest now) now m.part (disks_of stand) d → There
  by_disks (resting rests last) told = record { done = record { begin = opening; turns = m.turns; due = None }; begins = refl; lines = inl refl; under_way = tt; stops = record { run = m.run; shows = rest_shows first m.turns (disks_of stand) refl m.run told rests None } }
  by_disks (under_way command due within last) (told, covered) =
      record { done = record { begin = opening; turns = m.turns; due = Some command }; begins = refl; lines = inl refl; under_way = due; stops = record { run = m.run; shows = line_shows first m.turns (disks_of stand) refl m.run told command covered within } }
  by_disks (replying t due takes rests front) told =
      let run = run_more on_devices first m.turns t m.run takes in
      let same = end_more first m.turns t in
      record {
        done = record { begin = opening; turns = m.turns ++ t ∷ []; due = None };
        begins = refl;
        lines = inr (t, due, refl);
        under_way = tt;
        stops = record {
          run = run;
          shows = rest_shows first (m.turns ++ t ∷ []) (disks_of stand) refl run (subst IsTold (sym same) told) (subst (λ (q : Point DeviceState). RestsOn q (disks_of stand)) (sym same) rests) None;
        };
      }

  pub stopped : StopsTold A Means replies items opening stand m → There
  stopped told = by_disks m.disks told

-- ---- the next run

-- an import opens what the disks show
import_finds : (shelf : Shelf) (old new : State) (command : Command) (answer : Reply) → command ≡ cmd.Import → answer ≡ reply.Done → IsOpeningTurn shelf old command answer new → (p : PoolState) × Shows shelf.paths shelf.disks p × IsOpened p new
import_finds shelf old new command answer imports done turn =
    subst (λ (a : Reply). IsOpeningTurn shelf old cmd.Import a new) done (subst (λ (c : Command). IsOpeningTurn shelf old c answer new) imports turn)

joins : (a b : StoppedRun) → GoesOn a b → Joins a b
joins a b h =
    let turn : IsDeviceTurn (begin_of b) h.first = (subst (λ (turns : List (Turn DeviceState)). Run on_devices (begin_of b) turns) h.turns h.run).0 in
    let (p, shown, opened) = import_finds (begin_of b).shelf (no_device_state (disks_of b.begin)).told h.first.point.state.told h.first.command h.first.answer h.imports h.done turn.objects.1 in
    record {
      objects = p.objects;
      comes = h.stopped.shows b.begin.seen h.left b.begin.paths p shown;
      first = h.first;
      rest = h.rest;
      turns = h.turns;
      found = (p, opened.shelf, refl);
    }

pub all_join : (a : StoppedRun) (more : List StoppedRun) → FollowOn a more → AreJoined a more
all_join a [] follow = tt
all_join a (b ∷ more) follow = (joins a b follow.0, all_join b more follow.1)
