use Rattle.std.specs.declared.alloc.Global.{Global}
use Rattle.std.proofs.Common.{◌≡◌, List, [], ◌∷◌, ℕ, Vec, arith, refl, sym, ◌∙◌, ap, subst, Bool, true, false, if◌then◌else◌, ◌+◌, ◌<◌, ◌≤◌, length, map}
use Rattle.std.proofs.lemmas.List.{length-map}
use Rattle.zr_shelf.specs.Disks.{Stand, PendingWrite, IsSameOutside, Reads, disk}
use Rattle.zr_shelf.specs.Moments.{World}
use Rattle.zr_shelf.specs.Memory.{after_write, bytes_of, start, run, world_of, WritesAs, stand_after, FitsIn}
use Rattle.zr_shelf.specs.declared.memory.Asked.{Asked}
use Rattle.zr_shelf.specs.declared.memory.Deed.TheVariants.{Wrote}
use Rattle.zr_shelf.specs.declared.memory.DiskFile.{DiskFile}
use Rattle.zr_shelf.proofs.Parts.{outside_refl}
use Rattle.zr_shelf.proofs.Puts.{Fits, outside-after_write, part-written, sizes-after_write}
use Rattle.zr_shelf.proofs.Sound.{sound_of}
use Rattle.zr_shelf.proofs.Kept.{now_next, stepped, lawful_more, in_disk, seen_on, sizes_are}
use Rattle.zr_shelf.proofs.memory.Memory.write.Goals as goal

abbrev asked : ℕ → ℕ → List ℕ → PendingWrite
asked slot at bytes = record { slot = slot; at = at; bytes = bytes }

abbrev seen_after : List (List ℕ) → Bool → PendingWrite → List (List ℕ)
seen_after seen done w = if done then after_write seen w else seen

-- the place is there, also as the world has the disks
fits_of : (files : List DiskFile) (seen : List (List ℕ)) (slot at : ℕ) (bytes : List ℕ) → bytes_of files ≡ seen → (slot < length files) × (at + length bytes ≤ length (disk (bytes_of files) slot)) → Fits seen (asked slot at bytes)
fits_of files seen slot at bytes is here =
    subst (λ (d : List (List ℕ)). Fits d (asked slot at bytes)) is (record { slot = omega (arith, here.0, length-map files (λ (f : DiskFile). f.bytes.items)); range = here.1 })

writes_as : (old : Stand) (slot at : ℕ) (kept : Vec ℕ Global) (bytes : List ℕ) (done : Bool) → Fits old.seen (asked slot at bytes) → kept.items ≡ bytes → WritesAs (asked slot at bytes) done old (stand_after old (Wrote (record { slot = slot; at = at; bytes = kept; done = done })))
writes_as old slot at kept bytes true fits is =
    let seen : after_write old.seen (asked slot at kept.items) ≡ after_write old.seen (asked slot at bytes) = ap (λ (b : List ℕ). after_write old.seen (asked slot at b)) is in (
      record {
        paths = refl;
        makes = refl;
        durable = refl;
        writes = ap (λ (b : List ℕ). asked slot at b ∷ old.writes) is;
        seen = subst (IsSameOutside (asked slot at bytes ∷ []) old.seen) (sym seen) (outside-after_write old.seen (asked slot at bytes) fits);
        left = refl;
        sent = refl;
      },
      λ d. subst (λ (disks : List (List ℕ)). Reads disks (asked slot at bytes)) (sym seen) (part-written old.seen (asked slot at bytes) fits),
    )
writes_as old slot at kept bytes false fits is = (
  record {
    paths = refl;
    makes = refl;
    durable = refl;
    writes = ap (λ (b : List ℕ). asked slot at b ∷ old.writes) is;
    seen = outside_refl (asked slot at bytes ∷ []) old.seen;
    left = refl;
    sent = refl;
  },
  λ d. cc,
)

fits_in : (w : List (List ℕ)) (slot at : ℕ) (kept : Vec ℕ Global) (bytes : List ℕ) (done : Bool) → kept.items ≡ bytes → Fits w (asked slot at bytes) → FitsIn w (Wrote (record { slot = slot; at = at; bytes = kept; done = done }))
fits_in w slot at kept bytes done is fits =
    let r = fits.range in
    let e = ap (λ (l : List ℕ). length l) is in
    (fits.slot, omega (arith, r, e))

pub put-requires-clause-fits : goal.put-requires-clause-fits
put-requires-clause-fits c = (in_disk c.args.self.now.disks.items c.args.slot (c.args.at + length c.args.bytes.now) c.requires.exists c.requires.fits).1

pub invariant_of-self-then-done-clause-left : goal.invariant_of-self-then-done-clause-left
invariant_of-self-then-done-clause-left c =
    let h = c.args.self.now.history in
    let call : Asked = record { slot = c.args.slot; at = c.args.at; bytes = c.in_ok-kept.kept; done = c.args.done } in
    let next_is = now_next h.input.items h.calls.items c.push.new.self.items c.args.self.now.made h.since (Wrote call) c.in_ok-push.ensures.items in
    c.args.self.now.left ∙ sym (ap (λ (w : World). w.now.left) next_is)

pub invariant_of-self-then-done-clause-gave : goal.invariant_of-self-then-done-clause-gave
invariant_of-self-then-done-clause-gave c =
    let h = c.args.self.now.history in
    let call : Asked = record { slot = c.args.slot; at = c.args.at; bytes = c.in_ok-kept.kept; done = c.args.done } in
    let next_is = now_next h.input.items h.calls.items c.push.new.self.items c.args.self.now.made h.since (Wrote call) c.in_ok-push.ensures.items in
    c.args.self.now.gave ∙ sym (ap (λ (w : World). w.now.sent) next_is)

pub invariant_of-self-then-done-clause-paths : goal.invariant_of-self-then-done-clause-paths
invariant_of-self-then-done-clause-paths c =
    let h = c.args.self.now.history in
    let call : Asked = record { slot = c.args.slot; at = c.args.at; bytes = c.in_ok-kept.kept; done = c.args.done } in
    let next_is = now_next h.input.items h.calls.items c.push.new.self.items c.args.self.now.made h.since (Wrote call) c.in_ok-push.ensures.items in
    c.put.ensures.paths ∙ c.args.self.now.paths ∙ sym (ap (λ (w : World). w.now.paths) next_is)

pub invariant_of-self-then-done-clause-seen : goal.invariant_of-self-then-done-clause-seen
invariant_of-self-then-done-clause-seen c =
    let h = c.args.self.now.history in
    let call : Asked = record { slot = c.args.slot; at = c.args.at; bytes = c.in_ok-kept.kept; done = c.args.done } in
    let next_is = now_next h.input.items h.calls.items c.push.new.self.items c.args.self.now.made h.since (Wrote call) c.in_ok-push.ensures.items in
    let seen = (world_of h).now.seen in
    let kept_is = c.in_ok-kept.ensures.items_if_clones_equal (λ x y e. e) in
    c.put.ensures.bytes
    ∙ ap (λ (d : List (List ℕ)). after_write d (asked c.args.slot c.args.at c.args.bytes.now)) c.args.self.now.seen
    ∙ ap (λ (b : List ℕ). after_write seen (asked c.args.slot c.args.at b)) (sym kept_is)
    ∙ ap (λ (done : Bool). seen_after seen done (asked c.args.slot c.args.at c.in_ok-kept.kept.items)) (sym c.if-done.true)
    ∙ sym (ap (λ (w : World). w.now.seen) next_is)

pub invariant_of-self-then-done-clause-lawful : goal.invariant_of-self-then-done-clause-lawful
invariant_of-self-then-done-clause-lawful c =
    let h = c.args.self.now.history in
    let before = run (start h.input.items) h.calls.items in
    let call : Asked = record { slot = c.args.slot; at = c.args.at; bytes = c.in_ok-kept.kept; done = c.args.done } in
    let fits = fits_of c.args.self.now.disks.items before.now.seen c.args.slot c.args.at c.args.bytes.now (c.args.self.now.seen ∙ seen_on before h.since) (in_disk c.args.self.now.disks.items c.args.slot (c.args.at + length c.args.bytes.now) c.requires.exists c.requires.fits) in
    lawful_more (start h.input.items) h.calls.items c.push.new.self.items (record { moment = c.args.self.now.made; since = h.since; deed = Wrote call }) c.in_ok-push.ensures.items c.args.self.now.lawful
    (fits_in before.now.seen c.args.slot c.args.at c.in_ok-kept.kept c.args.bytes.now c.args.done (c.in_ok-kept.ensures.items_if_clones_equal (λ x y e. e)) fits)

pub returns-then-done-clause-ok : goal.returns-then-done-clause-ok
returns-then-done-clause-ok c =
    let h = c.args.self.now.history in
    let call : Asked = record { slot = c.args.slot; at = c.args.at; bytes = c.in_ok-kept.kept; done = c.args.done } in
    let old = (world_of h).now in
    let fits = fits_of c.args.self.now.disks.items old.seen c.args.slot c.args.at c.args.bytes.now c.args.self.now.seen (in_disk c.args.self.now.disks.items c.args.slot (c.args.at + length c.args.bytes.now) c.requires.exists c.requires.fits) in
    stepped h.input.items h.calls.items c.push.new.self.items c.args.self.now.made h.since (Wrote call) c.in_ok-push.ensures.items (WritesAs (asked c.args.slot c.args.at c.args.bytes.now) c.args.done)
    (writes_as old c.args.slot c.args.at c.in_ok-kept.kept c.args.bytes.now c.args.done fits (c.in_ok-kept.ensures.items_if_clones_equal (λ x y e. e)))

pub invariant_of-self-else-done-clause-left : goal.invariant_of-self-else-done-clause-left
invariant_of-self-else-done-clause-left c =
    let h = c.args.self.now.history in
    let call : Asked = record { slot = c.args.slot; at = c.args.at; bytes = c.in_ok-kept.kept; done = c.args.done } in
    let next_is = now_next h.input.items h.calls.items c.push.new.self.items c.args.self.now.made h.since (Wrote call) c.in_ok-push.ensures.items in
    c.args.self.now.left ∙ sym (ap (λ (w : World). w.now.left) next_is)

pub invariant_of-self-else-done-clause-gave : goal.invariant_of-self-else-done-clause-gave
invariant_of-self-else-done-clause-gave c =
    let h = c.args.self.now.history in
    let call : Asked = record { slot = c.args.slot; at = c.args.at; bytes = c.in_ok-kept.kept; done = c.args.done } in
    let next_is = now_next h.input.items h.calls.items c.push.new.self.items c.args.self.now.made h.since (Wrote call) c.in_ok-push.ensures.items in
    c.args.self.now.gave ∙ sym (ap (λ (w : World). w.now.sent) next_is)

pub invariant_of-self-else-done-clause-paths : goal.invariant_of-self-else-done-clause-paths
invariant_of-self-else-done-clause-paths c =
    let h = c.args.self.now.history in
    let call : Asked = record { slot = c.args.slot; at = c.args.at; bytes = c.in_ok-kept.kept; done = c.args.done } in
    let next_is = now_next h.input.items h.calls.items c.push.new.self.items c.args.self.now.made h.since (Wrote call) c.in_ok-push.ensures.items in
    c.args.self.now.paths ∙ sym (ap (λ (w : World). w.now.paths) next_is)

pub invariant_of-self-else-done-clause-seen : goal.invariant_of-self-else-done-clause-seen
invariant_of-self-else-done-clause-seen c =
    let h = c.args.self.now.history in
    let call : Asked = record { slot = c.args.slot; at = c.args.at; bytes = c.in_ok-kept.kept; done = c.args.done } in
    let next_is = now_next h.input.items h.calls.items c.push.new.self.items c.args.self.now.made h.since (Wrote call) c.in_ok-push.ensures.items in
    let seen = (world_of h).now.seen in
    c.args.self.now.seen
    ∙ ap (λ (done : Bool). seen_after seen done (asked c.args.slot c.args.at c.in_ok-kept.kept.items)) (sym c.if-done.false)
    ∙ sym (ap (λ (w : World). w.now.seen) next_is)

pub invariant_of-self-else-done-clause-lawful : goal.invariant_of-self-else-done-clause-lawful
invariant_of-self-else-done-clause-lawful c =
    let h = c.args.self.now.history in
    let before = run (start h.input.items) h.calls.items in
    let call : Asked = record { slot = c.args.slot; at = c.args.at; bytes = c.in_ok-kept.kept; done = c.args.done } in
    let fits = fits_of c.args.self.now.disks.items before.now.seen c.args.slot c.args.at c.args.bytes.now (c.args.self.now.seen ∙ seen_on before h.since) (in_disk c.args.self.now.disks.items c.args.slot (c.args.at + length c.args.bytes.now) c.requires.exists c.requires.fits) in
    lawful_more (start h.input.items) h.calls.items c.push.new.self.items (record { moment = c.args.self.now.made; since = h.since; deed = Wrote call }) c.in_ok-push.ensures.items c.args.self.now.lawful
    (fits_in before.now.seen c.args.slot c.args.at c.in_ok-kept.kept c.args.bytes.now c.args.done (c.in_ok-kept.ensures.items_if_clones_equal (λ x y e. e)) fits)

pub returns-else-done-clause-ok : goal.returns-else-done-clause-ok
returns-else-done-clause-ok c =
    let h = c.args.self.now.history in
    let call : Asked = record { slot = c.args.slot; at = c.args.at; bytes = c.in_ok-kept.kept; done = c.args.done } in
    let old = (world_of h).now in
    let fits = fits_of c.args.self.now.disks.items old.seen c.args.slot c.args.at c.args.bytes.now c.args.self.now.seen (in_disk c.args.self.now.disks.items c.args.slot (c.args.at + length c.args.bytes.now) c.requires.exists c.requires.fits) in
    stepped h.input.items h.calls.items c.push.new.self.items c.args.self.now.made h.since (Wrote call) c.in_ok-push.ensures.items (WritesAs (asked c.args.slot c.args.at c.args.bytes.now) c.args.done)
    (writes_as old c.args.slot c.args.at c.in_ok-kept.kept c.args.bytes.now c.args.done fits (c.in_ok-kept.ensures.items_if_clones_equal (λ x y e. e)))

pub returns-then-done-clause-sizes : goal.returns-then-done-clause-sizes
returns-then-done-clause-sizes c =
    let disks = c.args.self.now.disks.items in
    let fits = fits_of disks (bytes_of disks) c.args.slot c.args.at c.args.bytes.now refl (in_disk c.args.self.now.disks.items c.args.slot (c.args.at + length c.args.bytes.now) c.requires.exists c.requires.fits) in
    sym (sizes_are c.put.new.disks.items) ∙ ap (map length) c.put.ensures.bytes ∙ sizes-after_write (bytes_of disks) (asked c.args.slot c.args.at c.args.bytes.now) fits ∙ sizes_are disks

pub invariant_of-self-then-done-clause-sound : goal.invariant_of-self-then-done-clause-sound
invariant_of-self-then-done-clause-sound c = sound_of (record { input = c.args.self.now.history.input; calls = c.push.new.self; since = 0 }) c.put.new.disks.items (invariant_of-self-then-done-clause-seen c) (invariant_of-self-then-done-clause-paths c) (invariant_of-self-then-done-clause-lawful c)

pub invariant_of-self-else-done-clause-sound : goal.invariant_of-self-else-done-clause-sound
invariant_of-self-else-done-clause-sound c = sound_of (record { input = c.args.self.now.history.input; calls = c.push.new.self; since = 0 }) c.args.self.now.disks.items (invariant_of-self-else-done-clause-seen c) (invariant_of-self-else-done-clause-paths c) (invariant_of-self-else-done-clause-lawful c)
