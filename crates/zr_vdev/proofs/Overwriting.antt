-- What a write in new units leaves as it was.
use Rattle.std.proofs.Common.{◌≡◌, ℕ, ◌+◌, ◌*◌, ◌<◌, Bool, true, false, ◌||◌, List, [], ◌∷◌, ◌++◌, length, Option, Some, None, refl, sym, ◌∙◌, ap, subst, inl, inr, arith}
use Rattle.zr_vdev.proofs.Taking.{takes_frame}
use Rattle.zr_vdev.specs.Mounts.{AreMounted}
use Rattle.zr_vdev.specs.declared.kind.Kind.{Kind}
use Rattle.zr_base.specs.declared.space.Policy.{Policy}
use Rattle.std.specs.List.{flat_map, list_any}
use Rattle.std.proofs.Math.Path.{fun_ext}
use Rattle.std.proofs.lemmas.Bool.Decides.{nat_tests}
use Rattle.zr_base.specs.declared.space.Dva.{Dva}
use Rattle.zr_base.specs.declared.space.DevRow.{DevRow}
use Rattle.zr_base.specs.declared.space.Entry.{Entry}
use Rattle.zr_bptr.specs.declared.Bptr.{Bptr}
use Rattle.zr_shelf.specs.Disks.{Stand, PendingWrite, Meets, disk, part}
use Rattle.zr_shelf.specs.Moments.{World}
use Rattle.zr_shelf.specs.Doings.{Adds, WritesOnly}
use Rattle.zr_shelf.specs.Doings.Adds.{added_none, added}
use Rattle.zr_shelf.proofs.Doings.{added_throughout}
use Rattle.zr_label.specs.Geometry.{unit_at}
use Rattle.zr_imap.specs.declared.image.Piece.{Piece}
use Rattle.zr_chain.specs.Visits.{as_part}
use Rattle.zr_rules.specs.Devices.{Devices}
use Rattle.zr_rules.specs.Space.{Space}
use Rattle.zr_rules.specs.Frees.{IsSameFrame}
use Rattle.zr_rules.specs.Equation.{devices_in}
use Rattle.zr_view.specs.Views.{slot_of, address_bytes}
use Rattle.zr_view.specs.Runs.{bytes_from, run_bytes}
use Rattle.zr_cache.specs.declared.table.Cache.{Cache}
use Rattle.zr_cache.specs.Entries.{meets}
use Rattle.zr_vdev.specs.Runs.{AreRunsOf, view_of}
use Rattle.zr_vdev.specs.Puts.{IsWriteOf, MayTake}
use Rattle.zr_vdev.specs.Caches.{IsRead, AreRead, KeepsBlock}
use Rattle.zr_vdev.proofs.Reading.{have_the_bytes}

abbrev make : ℕ → (ℕ → DevRow) → (ℕ → List Entry) → Devices
make n row entries = record { count = n; row = row; entries = entries }

-- an allocation leaves the devices as they are
pub same_devices : (old new : Space) → IsSameFrame old new → devices_in new ≡ devices_in old
same_devices old new frame =
    ap (λ (n : ℕ). make n (devices_in new).row (devices_in new).entries) frame.devices
    ∙ (ap (λ (r : ℕ → DevRow). make (length old.parts.devs) r (devices_in new).entries) (fun_ext (λ d. (frame.each d).row))
    ∙ ap (λ (e : ℕ → List Entry). make (length old.parts.devs) (devices_in old).row e) (fun_ext (λ d. (frame.each d).entries)))

-- runs that have no unit in common have no byte in common
overlap : (p r : Piece) → p.dev ≡ r.dev → p.at.start < r.at.start + r.at.len → r.at.start < p.at.start + p.at.len → meets p r ≡ true
overlap p r dev first second = grind (arith, nat_tests, dev, first, second)

abbrev some_slot : ℕ → Option ℕ
some_slot n = Some n

neither : (a b : Bool) → (a || b) ≡ false → (a ≡ false) × (b ≡ false)
neither true b h = cc
neither false b h = (refl, h)

step_kept : {allowed : PendingWrite → Type 0} (slot from n : ℕ) → ((w : PendingWrite) → allowed w → ¬ Meets w slot from n) → (old new : Stand) → Adds allowed old new
    → part (disk new.seen slot) from n ≡ part (disk old.seen slot) from n
step_kept slot from n apart old new (added_none is) = ap (λ (s : Stand). part (disk s.seen slot) from n) is
step_kept slot from n apart old new (added w may written) = written.seen.bytes slot from n (apart w may, tt)

module _ (slots : List (Option ℕ)) (at : Dva) (apart : (d e slot : ℕ) → slot_of slots d ≡ Some slot → slot_of slots e ≡ Some slot → d ≡ e) where
  pub untouched : (r : Piece) (w : PendingWrite) (slot : ℕ) → IsWriteOf slots at w → meets (as_part at) r ≡ false → slot_of slots r.dev ≡ Some slot → ¬ Meets w slot (unit_at r.at.start) (4096 * r.at.len)
  untouched r w slot is none there met =
      let same : slot_of slots at.dev ≡ Some slot = is.slot ∙ ap (λ (n : ℕ). some_slot n) met.same in
      let dev = apart at.dev r.dev slot same there in
      let begins = met.begins in
      let ends = met.ends in
      let from = is.at in
      let size = is.size in
      let meet : meets (as_part at) r ≡ true = overlap (as_part at) r dev (omega (arith, begins, from)) (omega (arith, ends, from, size)) in
      cc

  module _ (old new : World) (writes : WritesOnly (IsWriteOf slots at) old new) where
    -- a run that has no unit of the address has its bytes
    pub run_kept : (r : Piece) → meets (as_part at) r ≡ false → run_bytes new.now.seen slots r ≡ run_bytes old.now.seen slots r
    run_kept r none = (elim (slot_of slots r.dev) as (λ s. slot_of slots r.dev ≡ s → bytes_from new.now.seen s r.at.start (4096 * r.at.len) ≡ bytes_from old.now.seen s r.at.start (4096 * r.at.len)) [
      | None ↦ λ is. refl
      | Some slot ↦ λ is.
          (added_throughout (λ stand. part (disk stand.seen slot) (unit_at r.at.start) (4096 * r.at.len) ≡ part (disk old.now.seen slot) (unit_at r.at.start) (4096 * r.at.len)) (IsWriteOf slots at)
          (λ before after step same. step_kept slot (unit_at r.at.start) (4096 * r.at.len) (λ w may. untouched r w slot may none is) before after step ∙ same) old new writes refl).1
    ]) refl

    pub runs_kept : (runs : List Piece) → list_any (meets (as_part at)) runs ≡ false → flat_map (run_bytes new.now.seen slots) runs ≡ flat_map (run_bytes old.now.seen slots) runs
    runs_kept [] none = refl
    runs_kept (r ∷ rs) none =
        let split = neither (meets (as_part at) r) (list_any (meets (as_part at)) rs) none in
        ap (λ (l : List ℕ). l ++ flat_map (run_bytes new.now.seen slots) rs) (run_kept r split.0) ∙ ap (λ (l : List ℕ). run_bytes old.now.seen slots r ++ l) (runs_kept rs split.1)

    -- what was read of other units is still what is read
    pub still_read : (s t : Space) → devices_in t ≡ devices_in s → (b : Bptr) (bytes : List ℕ) (runs : List Piece)
        → IsRead old.now.seen slots s b bytes runs × (list_any (meets (as_part at)) runs ≡ false) → IsRead new.now.seen slots t b bytes runs
    still_read s t same b bytes runs (is, none) =
        let now = subst (λ (ds : Devices). AreRunsOf ds b.at runs) (sym same) is.runs_of in
        record {
          runs_of = now;
          same = is.same ∙ sym (have_the_bytes slots (devices_in s) b.at runs is.runs_of old.now.seen) ∙ sym (runs_kept runs none) ∙ have_the_bytes slots (devices_in t) b.at runs now new.now.seen;
        }

    -- each block that is cached has the bytes of its address once a new one is kept
    pub still_all_read : (s t : Space) → devices_in t ≡ devices_in s → (b : Bptr) (bytes : List ℕ) → b.at ≡ at → AreRunsOf (devices_in t) b.at (as_part b.at ∷ []) → address_bytes (view_of new.now.seen slots t) b.at ≡ bytes
        → (c d : Cache) → KeepsBlock c d b bytes → AreRead old.now.seen slots s c → AreRead new.now.seen slots t d
    still_all_read s t same b bytes is run there c d keeps read e among = elim (keeps e among) [
      | inl (was, none) ↦ still_read s t same e.0.pointer e.1.bytes.items e.1.runs.items (read e was, subst (λ (a : Dva). list_any (meets (as_part a)) e.1.runs.items ≡ false) is none)
      | inr (pointer, given, one) ↦ record {
        runs_of = subst (λ (rs : List Piece). AreRunsOf (devices_in t) e.0.pointer.at rs) (sym one) (subst (λ (q : Bptr). AreRunsOf (devices_in t) q.at (as_part b.at ∷ [])) (sym pointer) run);
        same = given ∙ sym there ∙ ap (λ (q : Bptr). address_bytes (view_of new.now.seen slots t) q.at) (sym pointer);
      }
    ]

-- a call that takes units or none leaves the devices mounted
pub stays_mounted : (kind : Kind) (policy : Policy) (want : ℕ) (old new : Space) (before after : List ℕ) (slots : List (Option ℕ)) (taken : Option Dva) → MayTake kind policy want old new taken → after ≡ before
    → AreMounted before slots (devices_in old) → AreMounted after slots (devices_in new)
stays_mounted kind policy want old new before after slots None same sizes mounted =
    subst (λ (n : List ℕ). AreMounted n slots (devices_in new)) (sym sizes) (subst (λ (s : Space). AreMounted before slots (devices_in s)) (sym same) mounted)
stays_mounted kind policy want old new before after slots (Some at) takes sizes mounted =
    subst (λ (n : List ℕ). AreMounted n slots (devices_in new)) (sym sizes)
    (subst (λ (ds : Devices). AreMounted before slots ds) (sym (same_devices old new (takes_frame kind policy want old new at takes))) mounted)
