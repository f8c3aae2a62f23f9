-- What a call that was done left, told of a shelf that is told, and why a removal does not begin.
use Rattle.std.proofs.Common.{◌≡◌, inl, inr, ℕ, true, List, [], Result, Ok, Err, refl, sym, subst}
use Rattle.zr_base.specs.declared.refusal.Refusal.{Refusal}
use Rattle.zr_base.specs.declared.refusal.Refusal.TheVariants as refusal
use Rattle.zr_base.specs.declared.space.Condensed.{Condensed}
use Rattle.zr_base.specs.declared.space.Condensed.TheVariants as condensed
use Rattle.zr_base.specs.declared.space.Policy.{Policy}
use Rattle.zr_base.specs.declared.space.CkptPart.TheVariants.{Clear}
use Rattle.zr_create.specs.Blank.{IsNamed, IsResetAt, NothingWaits}
use Rattle.zr_create.specs.Devices.{HasDevicesIn}
use Rattle.zr_create.specs.Names.{AreSlotsOf, IsSlotMissing}
use Rattle.zr_create.specs.Refusals.{ChecksNew}
use Rattle.zr_label.specs.Blocks as blocks
use Rattle.zr_label.specs.declared.root.Name.{Name}
use Rattle.zr_removal.specs.Steps.{StepsOn}
use Rattle.zr_removal.specs.Turns.{BeginsRemoval, CancelsRemoval, EndsRemoval}
use Rattle.zr_removal.specs.declared.evacuate.Evacuated.{Evacuated}
use Rattle.zr_removal.specs.declared.evacuate.Evacuated.TheVariants.{Copied, Gone, Cancelled}
use Rattle.zr_rules.specs.Places.{is_leaving, state_of_dev}
use Rattle.zr_script.specs.declared.command.Command.{Command}
use Rattle.zr_script.specs.declared.command.Command.TheVariants as cmd
use Rattle.zr_shelf.specs.Counts.{Counts}
use Rattle.zr_shelf.specs.Moments.{World}
use Rattle.zr_sync.specs.declared.fault.Fault.{Fault}
use Rattle.zr_sync.specs.declared.fault.Fault.TheVariants.{No}
use Rattle.zr_sync.specs.declared.open.OpenPool.{OpenPool}
use Rattle.zr_vdev.specs.Copies.{CopiesUnits}
use Rattle.zr_pool.specs.Accounts.{BeginsNone, Condenses, CopiesSome, Evacuates, IsCreateCause, IsNamedCause, IsNew, IsRemovalCause, Leaves, PutsBack, Refuses, Turns}
use Rattle.zr_pool.specs.Replies.{condense_reply, evac_reply}
use Rattle.zr_pool.specs.Turns.{is_opener}

-- ---- on a shelf that is told

module _ (t : Type 0) (told : t) where
  -- the checks on a new pool
  pub news_told : (sizes : List ℕ) (disks : List (List ℕ)) (version guid : ℕ) (named : List ℕ) (outcome : Result (Unit {0}) Refusal) → ChecksNew sizes t disks version guid named outcome → ChecksNew sizes (Unit {0}) disks version guid named outcome
  news_told sizes disks version guid named outcome h =
      record { seen = h.seen; shown = record { count = h.shown.count; lawful = h.shown.lawful; shows = λ _. h.shown.shows told }; checks = h.checks }

  -- a removal that begins
  pub begins_told : (sizes : List ℕ) (now : World) (old new : OpenPool) (d : ℕ) → BeginsRemoval sizes t now old new d → Leaves (λ w. BeginsRemoval sizes (Unit {0}) w old new d) now.now.seen
  begins_told sizes now old new d h =
      let here : BeginsRemoval sizes (Unit {0}) now old new d = record { left = h.left; leaves = h.leaves; same = h.same; root = h.root; resets = h.resets; shown = λ _. h.shown told } in
      (now, refl, here)

  -- one that is given up
  pub cancels_told : (sizes : List ℕ) (now : World) (old new : OpenPool) (d : ℕ) → CancelsRemoval sizes t now old new d → Leaves (λ w. CancelsRemoval sizes (Unit {0}) w old new d) now.now.seen
  cancels_told sizes now old new d h =
      let here : CancelsRemoval sizes (Unit {0}) now old new d = record { back = h.back; comes = h.comes; same = h.same; root = h.root; resets = h.resets; shown = λ _. h.shown told } in
      (now, refl, here)

  -- one that ends
  pub ends_told : (sizes : List ℕ) (now : World) (old new : OpenPool) (d : ℕ) → EndsRemoval sizes t now old new d → Leaves (λ w. EndsRemoval sizes (Unit {0}) w old new d) now.now.seen
  ends_told sizes now old new d h =
      let here : EndsRemoval sizes (Unit {0}) now old new d = record { gone = h.gone; vanishes = h.vanishes; ended = h.ended; same = h.same; root = h.root; resets = h.resets; shown = λ _. h.shown told; forgets = h.forgets } in
      (now, refl, here)

  -- units that are copied
  pub copies_told : (policy : Policy) (before now : World) (old new : OpenPool) (n : ℕ) → CopiesUnits policy old.table.slots t before now old.space new.space n → CopiesSome before.now.seen now.now.seen old new n
  copies_told policy before now old new n h =
      let here : CopiesUnits policy old.table.slots (Unit {0}) before now old.space new.space n = record { dev = h.dev; plan = h.plan; plans = h.plans; makes = h.makes; units = h.units; written = λ _. h.written told; there = λ _. h.there told } in
      (policy, before, refl, (now, refl, here))

  -- a device that is back
  pub back_told : (sizes : List ℕ) (now : World) (old new : OpenPool) (d : ℕ) → is_leaving (state_of_dev old.space.parts.devs d) ≡ true → CancelsRemoval sizes t now old new d → PutsBack sizes now.now.seen old new d
  back_told sizes now old new d leaving h = record { leaving = leaving; tried = old; same = refl; cancels = cancels_told sizes now old new d h }

  -- a step of a removal
  pub evacuates_told : (policy : Policy) (sizes : List ℕ) (c1 c2 : Counts) (before now : World) (old new : OpenPool) (done : Evacuated) → StepsOn policy sizes t c1 c2 before now old new done → Evacuates sizes before.now.seen now.now.seen old new done
  evacuates_told policy sizes c1 c2 before now old new (Copied n) h = copies_told policy before now old new n h
  evacuates_told policy sizes c1 c2 before now old new (Gone d) h = record { leaving = h.leaving; copied = h.copied; tried = h.tried; same = h.same; ends = ends_told sizes now h.tried new d h.ends }
  evacuates_told policy sizes c1 c2 before now old new (Cancelled d) h = record { leaving = h.leaving; tried = h.tried; same = h.same; cancels = cancels_told sizes now h.tried new d h.cancels }

-- ---- a new pool

-- The devices and the slots stand in lists that are copied for the calls.
module _ (t : Type 0) (told : t) (version guid : ℕ) (paths : List (List ℕ)) (sizes : List ℕ) (disks : List (List ℕ)) (devs given : List (List ℕ)) (same : given ≡ devs) where
  pub lacks_slot : (r : Refusal) → (r ≡ refusal.NoSuchDevice) × IsSlotMissing paths given → IsCreateCause version paths sizes disks guid devs r
  lacks_slot r (none, missing) = inl (none, subst (λ (ds : List (List ℕ)). IsSlotMissing paths ds) same missing)

  module _ (slots named : List ℕ) (passed : named ≡ slots) (are : AreSlotsOf paths given slots) where
    slots_are : AreSlotsOf paths devs named
    slots_are = subst (λ (ds : List (List ℕ)). AreSlotsOf paths ds named) same (subst (λ (ns : List ℕ). AreSlotsOf paths given ns) (sym passed) are)

    pub in_the_way : (r : Refusal) → ChecksNew sizes t disks version guid named (Err r) → IsCreateCause version paths sizes disks guid devs r
    in_the_way r h = inr (named, slots_are, news_told t told sizes disks version guid named (Err r) h)

    pub is_new : (name : List ℕ) (full : Name) (new : OpenPool) → blocks.name_of full ≡ name → ChecksNew sizes t disks version guid named (Ok tt) → IsNamed full guid version new → HasDevicesIn sizes 1 named new
        → new.space.parts.ckpt ≡ Clear → new.group.txg ≡ 2 → new.group.objects ≡ [] → IsResetAt 1 new.last → NothingWaits new.space → IsNew version paths sizes disks name guid devs new
    is_new name full new name_is allowed identity devices clear txg empty root settled = record {
      slots = named;
      named = slots_are;
      allowed = news_told t told sizes disks version guid named (Ok tt) allowed;
      full_name = full;
      name_is = name_is;
      identity = identity;
      devices = devices;
      clear = clear;
      txg = txg;
      empty = empty;
      root = root;
      settled = settled;
    }

-- ---- steps, by their replies

module _ (paths : List (List ℕ)) (sizes : List ℕ) (disks after : List (List ℕ)) (old new : OpenPool) where
  pub evac_turn : (done : Evacuated) → Evacuates sizes disks after old new done → Turns paths sizes disks old cmd.StepEvac (evac_reply done) after new
  evac_turn (Copied n) h = (Copied n, refl, h)
  evac_turn (Gone d) h = (Gone d, refl, h)
  evac_turn (Cancelled d) h = (Cancelled d, refl, h)

  pub condense_turn : (done : Condensed) → Condenses done old new → Turns paths sizes disks old cmd.StepCondense (condense_reply done) after new
  condense_turn (condensed.Kept n) h = (condensed.Kept n, refl, h)
  condense_turn condensed.Done h = (condensed.Done, refl, h)
  condense_turn condensed.Nothing h = (condensed.Nothing, refl, h)

-- ---- refusals

-- the refusal that became a fault
pub refusal_same : {B : Type 0} (e r : Refusal) (f : Fault) (result : Result B Fault) → result ≡ Err f → f ≡ No e → result ≡ Err (No r) → e ≡ r
refusal_same e r f result was same is = cc

-- a removal that is refused before its device is known is so for whatever it would be for the device
named_more : (paths : List (List ℕ)) (old : OpenPool) (dev : List ℕ) (Own : ℕ → Refusal → Type 0) (r : Refusal) → IsNamedCause paths old dev (λ d why. ⊥) r → IsNamedCause paths old dev Own r
named_more paths old dev Own r (inl none) = inl none
named_more paths old dev Own r (inr (slot, named, inl out)) = inr (slot, named, inl out)
named_more paths old dev Own r (inr (slot, named, inr (d, on, own))) = absurd own

pub removal_more : (paths : List (List ℕ)) (old : OpenPool) (dev : List ℕ) (Own : ℕ → Refusal → Type 0) (r : Refusal) → IsRemovalCause paths old dev (λ d why. ⊥) r → IsRemovalCause paths old dev Own r
removal_more paths old dev Own r (inl before) = inl before
removal_more paths old dev Own r (inr (may, why)) = inr (may, named_more paths old dev Own r why)

-- a line that makes or opens a pool changes none that is open
pub opener_refused : (paths : List (List ℕ)) (sizes : List ℕ) (disks : List (List ℕ)) (old : OpenPool) (command : Command) (r : Refusal) → is_opener command ≡ true → Refuses paths sizes disks old command r old
opener_refused paths sizes disks old (cmd.Create name guid devs) r is = refl
opener_refused paths sizes disks old (cmd.CreateOld name guid devs) r is = refl
opener_refused paths sizes disks old cmd.Import r is = refl
opener_refused paths sizes disks old cmd.ImportRewind r is = refl
opener_refused paths sizes disks old (cmd.ImportTxg txg) r is = refl
opener_refused paths sizes disks old command r is = absurd (cc)

-- and no other line begins one
pub not_begun : (paths : List (List ℕ)) (sizes : List ℕ) (disks : List (List ℕ)) (command : Command) (r : Refusal)
    → ((name : List ℕ) (guid : ℕ) (devs : List (List ℕ)) → command ≡ cmd.Create name guid devs → ⊥) → ((name : List ℕ) (guid : ℕ) (devs : List (List ℕ)) → command ≡ cmd.CreateOld name guid devs → ⊥) → BeginsNone paths sizes disks command r
not_begun paths sizes disks (cmd.Create name guid devs) r new old = absurd (new name guid devs refl)
not_begun paths sizes disks (cmd.CreateOld name guid devs) r new old = absurd (old name guid devs refl)
not_begun paths sizes disks command r new old = tt
