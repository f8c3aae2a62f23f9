-- What an import may be refused for.
use Rattle.std.proofs.Common.{◌≡◌, ◌⊎◌, inl, inr, ℕ, List, Option, Result, Ok, Err, refl, sym, ◌∙◌, subst, arith}
use Rattle.zr_base.specs.declared.refusal.Refusal.{Refusal}
use Rattle.zr_base.specs.declared.refusal.Refusal.TheVariants.{BadRoot, Damaged, GroupNotKept, NoCheckpoint, NoPoolOnDevices}
use Rattle.zr_image.specs.Current.{AreTwoCopies, AreTwoPools, AreTwoRoots, ExcludesPair, ExcludesSlot, FindsCurrent, IsOldest, IsOnePool, slots_of}
use Rattle.zr_roots.specs.Causes.{IsSavedUnread, IsUnread}
use Rattle.zr_import.specs.declared.errors.ImportErr.{ImportErr}
use Rattle.zr_import.specs.declared.errors.ImportErr.TheVariants as error
use Rattle.zr_label.specs.declared.root.Seen.{Seen}
use Rattle.zr_label.specs.declared.root.Uber.{Uber}
use Rattle.zr_open.specs.Found.{FindsOn}
use Rattle.zr_open.specs.Groups.{IsBackRefusal, ShowsNotKept}
use Rattle.zr_open.specs.Rewound.{HasNoSaved}
use Rattle.zr_open.specs.Opened.{IsImportRefusal, IsRefusedRoot, IsRefusedSaved, fault_of}
use Rattle.zr_sync.specs.declared.fault.Fault.{Fault}
use Rattle.zr_sync.specs.declared.fault.Fault.TheVariants.{No}

named : (r e : Refusal) → r ≡ e → IsImportRefusal e → IsImportRefusal r
named r e is h = subst IsImportRefusal (sym is) h

err_same : {B : Type 0} (e r : Refusal) (result : Result B Refusal) → result ≡ Err e → result ≡ Err r → r ≡ e
err_same e r result is was = cc

passed_on : {B : Type 0} (e r : Refusal) (result : Result B Refusal) → result ≡ Err r → result ≡ Err e → IsImportRefusal e → IsImportRefusal r
passed_on e r result was is h = named r e (err_same e r result is was) h

pair_refusal : (Has : ℕ → ℕ → Type 0) (e : Refusal) → ExcludesPair Has (Err e) → IsImportRefusal e
pair_refusal Has e is = named e _ is.2 tt

slot_refusal : (Has : ℕ → ℕ → Type 0) (e : Refusal) → ExcludesSlot Has (Err e) → IsImportRefusal e
slot_refusal Has e is = named e _ is.2 tt

one_pool : (seen : List Seen) (u : Uber) (r : Refusal) (result : Result (Unit {0}) Refusal) → result ≡ Err r → IsOnePool seen u result → IsImportRefusal r
one_pool seen u r result was (inr (e, h, is)) = passed_on e r result was is (pair_refusal (AreTwoPools seen) e h)
one_pool seen u r result was (inl (pools, no_pools, inr (e, h, is))) = passed_on e r result was is (pair_refusal (AreTwoRoots seen) e h)
one_pool seen u r result was (inl (pools, no_pools, inl (roots, no_pair, inr (e, h, is)))) = passed_on e r result was is (slot_refusal (AreTwoRoots seen) e h)
one_pool seen u r result was (inl (pools, no_pools, inl (roots, no_pair, inl (twice, no_twice, copies)))) = pair_refusal (AreTwoCopies u seen) r (subst (ExcludesPair (AreTwoCopies u seen)) was copies)

-- the slots show what an import may be refused for
pub shown_refusal : (seen : List Seen) (r : Refusal) (result : Result Uber Refusal) → result ≡ Err r → FindsCurrent seen result → IsImportRefusal r
shown_refusal seen r result was (inr (e, h, is)) = passed_on e r result was is (named e _ h.2 tt)
shown_refusal seen r result was (inl (k, known, inr (e, h, is))) = passed_on e r result was is (named e NoPoolOnDevices h.1 tt)
shown_refusal seen r result was (inl (k, known, inl (u, current, inr (e, h, is)))) = passed_on e r result was is (one_pool seen u e (Err e) refl h)
shown_refusal seen r result was (inl (k, known, inl (u, current, inl (one, pool, inr (e, h, is))))) = passed_on e r result was is (named e _ h.2 tt)
shown_refusal seen r result was (inl (k, known, inl (u, current, inl (one, pool, inl (there, devices, gives))))) = absurd cc

-- what a root is not read for is what it may be refused for
pub unread_root : {T : Type 0} (e : ImportErr) (f : Fault) → IsUnread {T = T} (Err e) → f ≡ fault_of e → (r : Refusal) → f ≡ No r → IsRefusedRoot r
unread_root (error.Rule n) f cause is r given = let same : r ≡ BadRoot n = cc in inl (n, cause.rule n refl, same)
unread_root (error.Damaged at expected found) f cause is r given = let same : r ≡ Damaged at expected found = cc in inr (at, expected, found, cause.damaged at expected found refl, same)
unread_root error.Failed f cause is r given = absurd cc
unread_root error.NoMemory f cause is r given = absurd cc

-- and so is a saved root, by a rule of its own
pub unread_saved : {T : Type 0} (e : ImportErr) (f : Fault) → IsSavedUnread {T = T} (Err e) → f ≡ fault_of e → (r : Refusal) → f ≡ No r → IsRefusedRoot r ⊎ (r ≡ BadRoot 8)
unread_saved (error.Rule n) f cause is r given = let own : n ≡ 8 = cause.rule n refl in let same : r ≡ BadRoot 8 = cc in inr same
unread_saved (error.Damaged at expected found) f cause is r given = let same : r ≡ Damaged at expected found = cc in inl (inr (at, expected, found, cause.damaged at expected found refl, same))
unread_saved error.Failed f cause is r given = absurd cc
unread_saved error.NoMemory f cause is r given = absurd cc

-- the root is what it may be refused for
pub root_refusal : (r : Refusal) → IsRefusedRoot r → IsImportRefusal r
root_refusal r (inl h) = named r (BadRoot h.0) h.2 (h.1.0, h.1.1)
root_refusal r (inr h) = named r (Damaged h.0 h.1 h.2) h.4 h.3

-- so is the one that it saved
pub saved_refusal : (tells : Type 0) (disks : List (List ℕ)) (slots : List (Option ℕ)) (u : Uber) (r : Refusal) → IsRefusedSaved tells disks slots u r → IsImportRefusal r
saved_refusal tells disks slots u r h = named r (BadRoot 8) h.0 (omega arith, omega arith)

-- what is looked at in vain, and why
abbrev pub IsUnlooked : List ℕ → Type 0 → List (List ℕ) → Refusal → Type 0
IsUnlooked sizes tells disks r = FindsOn sizes tells disks (Err r) ⊎ (IsRefusedRoot r ⊎ ((u : Uber) × (at : FindsOn sizes tells disks (Ok u)) × IsRefusedSaved tells disks (slots_of u at.seen) u r))

pub looked_refusal : (sizes : List ℕ) (tells : Type 0) (disks : List (List ℕ)) (r : Refusal) → IsUnlooked sizes tells disks r → IsImportRefusal r
looked_refusal sizes tells disks r (inl first) = shown_refusal first.seen r (Err r) refl first.finds
looked_refusal sizes tells disks r (inr (inl own)) = root_refusal r own
looked_refusal sizes tells disks r (inr (inr (u, at, saved))) = saved_refusal tells disks (slots_of u at.seen) u r saved

-- to go back is refused for what an import is refused for, or for want of a checkpoint
pub rewind_refusal : (sizes : List ℕ) (tells : Type 0) (disks : List (List ℕ)) (r : Refusal)
    → FindsOn sizes tells disks (Err r) ⊎ (IsRefusedRoot r ⊎ ((u : Uber) × (at : FindsOn sizes tells disks (Ok u)) × (IsRefusedSaved tells disks (slots_of u at.seen) u r ⊎ ((r ≡ NoCheckpoint) × HasNoSaved tells disks (slots_of u at.seen) u))))
    → IsImportRefusal r ⊎ (r ≡ NoCheckpoint)
rewind_refusal sizes tells disks r (inl first) = inl (shown_refusal first.seen r (Err r) refl first.finds)
rewind_refusal sizes tells disks r (inr (inl own)) = inl (root_refusal r own)
rewind_refusal sizes tells disks r (inr (inr (u, at, inl saved))) = inl (saved_refusal tells disks (slots_of u at.seen) u r saved)
rewind_refusal sizes tells disks r (inr (inr (u, at, inr none))) = inr none.0

-- to go back to a group is refused for what an import is refused for, or since the group is not kept
module _ (sizes : List ℕ) (tells : Type 0) (disks : List (List ℕ)) (txg : ℕ) (r : Refusal) where
  abbrev IsRefusedBack : Type 0
  IsRefusedBack = FindsOn sizes tells disks (Err r) ⊎ ((u : Uber) × (at : FindsOn sizes tells disks (Ok u)) × IsBackRefusal tells disks at.seen u txg r)

  pub back_refusal : IsRefusedBack → IsImportRefusal r ⊎ ((oldest : ℕ) × (r ≡ GroupNotKept oldest))
  back_refusal (inl first) = inl (shown_refusal first.seen r (Err r) refl first.finds)
  back_refusal (inr (u, at, inl own)) = inl (root_refusal r own)
  back_refusal (inr (u, at, inr (inl saved))) = inl (saved_refusal tells disks (slots_of u at.seen) u r saved)
  back_refusal (inr (u, at, inr (inr (inl kept)))) = inr (kept.oldest, kept.is)
  back_refusal (inr (u, at, inr (inr (inr (root, group, saved))))) = inl (saved_refusal tells disks (slots_of root at.seen) root r saved)

  not_a_group : (oldest : ℕ) → r ≡ GroupNotKept oldest → IsImportRefusal r → ⊥
  not_a_group oldest is h = subst IsImportRefusal is h

  pub not_kept_shown : tells → (oldest : ℕ) → r ≡ GroupNotKept oldest → IsRefusedBack → ShowsNotKept disks txg oldest
  not_kept_shown told oldest is (inl first) = absurd (not_a_group oldest is (shown_refusal first.seen r (Err r) refl first.finds))
  not_kept_shown told oldest is (inr (u, at, inl own)) = absurd (not_a_group oldest is (root_refusal r own))
  not_kept_shown told oldest is (inr (u, at, inr (inl saved))) = absurd (not_a_group oldest is (saved_refusal tells disks (slots_of u at.seen) u r saved))
  not_kept_shown told oldest is (inr (u, at, inr (inr (inl kept)))) =
      let both : GroupNotKept kept.oldest ≡ GroupNotKept oldest = sym kept.is ∙ is in
      let same : kept.oldest ≡ oldest = cc in
      record { seen = at.seen; shown = at.shown.shows told; current = u; found = at.finds; gone = kept.gone; oldest_is = subst (IsOldest at.seen u) same kept.oldest_is }
  not_kept_shown told oldest is (inr (u, at, inr (inr (inr (root, group, saved))))) = absurd (not_a_group oldest is (saved_refusal tells disks (slots_of root at.seen) root r saved))
