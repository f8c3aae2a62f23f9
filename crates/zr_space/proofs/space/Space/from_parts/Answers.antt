use Rattle.std.proofs.Common.{◌≡◌, List, length, true, false, refl, sym, ap, subst}
use Rattle.zr_base.specs.declared.space.DevPart.{DevPart}
use Rattle.zr_rules.specs.Devices.{devices_of}
use Rattle.zr_rules.specs.Resolve.{IsRanked}
use Rattle.zr_rules.specs.Space.{Space}
use Rattle.zr_space.specs.Opens.{ArePlaced, AreReadFrom, CanReadAll, IsOpened}
use Rattle.zr_space.specs.Resuming.{AreMoved, CanCondense, Resumes}
use Rattle.zr_space.specs.Views.{Kept}
use Rattle.zr_space.specs.declared.whole.Whole.{Whole}
use Rattle.zr_space.proofs.Openable.{can_read, placed_all}
use Rattle.zr_space.proofs.Opened.{can_condense, can_resume, moved_next, next_parts, none_copied, opened_space, rising_parts, root_opens}
use Rattle.zr_space.proofs.space.Space.from_parts.Goals as goal

false_true : false ≡ true → ⊥
false_true e = cc

pub read_all-requires : goal.read_all-requires
read_all-requires c =
    let placed : ArePlaced (length c.as_slice-all.result.now) c.args.meta.now c.args.saved.now = c.if-not-are_placed.ensures.0 refl in
    placed.few

pub are_ranked-requires : goal.are_ranked-requires
are_ranked-requires c = rising_parts c.as_slice-all.result.now c.args.meta.now c.args.saved.now c.in-Some.read.slabs c.in-Some.read.devs.items (rw c.in-Some.is at c.in_ok-read.ensures.read)

pub resume_copies-requires-clause-few : goal.resume_copies-requires-clause-few
resume_copies-requires-clause-few c =
    let ps = c.args.parts.now in
    let meta = c.args.meta.now in
    let saved = c.args.saved.now in
    let all : c.as_slice-all.result.now ≡ ps.devs = c.as_slice-all.ensures in
    let slabs = c.in-Some.read.slabs in
    let devs : List Kept = c.in-Some.read.devs.items in
    let read : AreReadFrom ps.devs meta saved slabs devs = subst (λ (xs : List DevPart). AreReadFrom xs meta saved slabs devs) all (rw c.in-Some.is at c.in_ok-read.ensures.read) in
    read.kept.few

pub resume_copies-requires-clause-moved : goal.resume_copies-requires-clause-moved
resume_copies-requires-clause-moved c =
    let ps = c.args.parts.now in
    let meta = c.args.meta.now in
    let saved = c.args.saved.now in
    let all : c.as_slice-all.result.now ≡ ps.devs = c.as_slice-all.ensures in
    let slabs = c.in-Some.read.slabs in
    let devs : List Kept = c.in-Some.read.devs.items in
    let read : AreReadFrom ps.devs meta saved slabs devs = subst (λ (xs : List DevPart). AreReadFrom xs meta saved slabs devs) all (rw c.in-Some.is at c.in_ok-read.ensures.read) in
    read.kept.moved

pub resume_copies-requires-clause-none : goal.resume_copies-requires-clause-none
resume_copies-requires-clause-none c =
    let ps = c.args.parts.now in
    let meta = c.args.meta.now in
    let saved = c.args.saved.now in
    let all : c.as_slice-all.result.now ≡ ps.devs = c.as_slice-all.ensures in
    let slabs = c.in-Some.read.slabs in
    let devs : List Kept = c.in-Some.read.devs.items in
    let read : AreReadFrom ps.devs meta saved slabs devs = subst (λ (xs : List DevPart). AreReadFrom xs meta saved slabs devs) all (rw c.in-Some.is at c.in_ok-read.ensures.read) in
    none_copied ps.devs meta saved slabs devs read

pub resume_cond-requires : goal.resume_cond-requires
resume_cond-requires c =
    let ps = c.args.parts.now in
    let meta = c.args.meta.now in
    let saved = c.args.saved.now in
    let all : c.as_slice-all.result.now ≡ ps.devs = c.as_slice-all.ensures in
    let slabs = c.in-Some.read.slabs in
    let devs : List Kept = c.in-Some.read.devs.items in
    let read : AreReadFrom ps.devs meta saved slabs devs = subst (λ (xs : List DevPart). AreReadFrom xs meta saved slabs devs) all (rw c.in-Some.is at c.in_ok-read.ensures.read) in
    let ranked : IsRanked (devices_of ps.devs) = subst (λ (xs : List DevPart). IsRanked (devices_of xs)) all ((rw c.if-not-branch.false at c.in_ok-are_ranked.ensures).0 refl) in
    let next : List Kept = c.resume_copies.new.devs.items in
    let resumes : Resumes ps.ckpt devs next = c.in_ok-resume_copies.ensures.yes c.if-not-branch-2.false in
    let whole : Whole = record { version = ps.version; ckpt = ps.ckpt; cond = ps.cond } in
    subst (λ (ks : List Kept). AreMoved ks) (sym c.as_slice.ensures.value) (moved_next ps meta saved whole slabs devs next read ranked resumes refl)

pub assemble-requires : goal.assemble-requires
assemble-requires c =
    let ps = c.args.parts.now in
    let meta = c.args.meta.now in
    let saved = c.args.saved.now in
    let all : c.as_slice-all.result.now ≡ ps.devs = c.as_slice-all.ensures in
    let slabs = c.in-Some.read.slabs in
    let devs : List Kept = c.in-Some.read.devs.items in
    let read : AreReadFrom ps.devs meta saved slabs devs = subst (λ (xs : List DevPart). AreReadFrom xs meta saved slabs devs) all (rw c.in-Some.is at c.in_ok-read.ensures.read) in
    let ranked : IsRanked (devices_of ps.devs) = subst (λ (xs : List DevPart). IsRanked (devices_of xs)) all ((rw c.if-not-branch.false at c.in_ok-are_ranked.ensures).0 refl) in
    let next : List Kept = c.resume_copies.new.devs.items in
    let resumes : Resumes ps.ckpt devs next = c.in_ok-resume_copies.ensures.yes c.if-not-branch-2.false in
    let cond : c.in-Some-2.cond ≡ ps.cond = rw c.in-Some-2.is at c.in_ok-cond.ensures.is in
    let whole : Whole = record { version = ps.version; ckpt = ps.ckpt; cond = c.in-Some-2.cond } in
    let can : CanCondense c.in-Some-2.cond next = subst (λ (ks : List Kept). CanCondense c.in-Some-2.cond ks) c.as_slice.ensures.value (subst (λ o. CanCondense o c.as_slice.result.now) (sym cond) (rw c.in-Some-2.is at c.in_ok-cond.ensures.some)) in
    opened_space ps meta saved whole slabs devs next read ranked resumes refl can

pub returns-clause-some : goal.returns-clause-some
returns-clause-some c =
    let ps = c.args.parts.now in
    let meta = c.args.meta.now in
    let saved = c.args.saved.now in
    let all : c.as_slice-all.result.now ≡ ps.devs = c.as_slice-all.ensures in
    let slabs = c.in-Some.read.slabs in
    let devs : List Kept = c.in-Some.read.devs.items in
    let read : AreReadFrom ps.devs meta saved slabs devs = subst (λ (xs : List DevPart). AreReadFrom xs meta saved slabs devs) all (rw c.in-Some.is at c.in_ok-read.ensures.read) in
    let ranked : IsRanked (devices_of ps.devs) = subst (λ (xs : List DevPart). IsRanked (devices_of xs)) all ((rw c.if-not-branch.false at c.in_ok-are_ranked.ensures).0 refl) in
    let next : List Kept = c.resume_copies.new.devs.items in
    let resumes : Resumes ps.ckpt devs next = c.in_ok-resume_copies.ensures.yes c.if-not-branch-2.false in
    let cond : c.in-Some-2.cond ≡ ps.cond = rw c.in-Some-2.is at c.in_ok-cond.ensures.is in
    let whole : Whole = record { version = ps.version; ckpt = ps.ckpt; cond = c.in-Some-2.cond } in
    let can : CanCondense c.in-Some-2.cond next = subst (λ (ks : List Kept). CanCondense c.in-Some-2.cond ks) c.as_slice.ensures.value (subst (λ o. CanCondense o c.as_slice.result.now) (sym cond) (rw c.in-Some-2.is at c.in_ok-cond.ensures.some)) in
    let len : length c.as_slice-all.result.now ≡ length ps.devs = ap (λ (xs : List DevPart). length xs) all in
    let placed : ArePlaced (length ps.devs) meta saved = subst (λ n. ArePlaced n meta saved) len (c.if-not-are_placed.ensures.0 refl) in
    subst (λ (s : Space). IsOpened ps meta saved s) (sym c.assemble.ensures) (root_opens ps meta saved whole slabs devs next read ranked resumes refl can refl cond placed.meta_known placed.saved_known)

pub returns-then-not-are_placed-clause-none : goal.returns-then-not-are_placed-clause-none
returns-then-not-are_placed-clause-none c = λ can.
    let ps = c.args.parts.now in
    let meta = c.args.meta.now in
    let saved = c.args.saved.now in
    let all : c.as_slice-all.result.now ≡ ps.devs = c.as_slice-all.ensures in
    let len : length c.as_slice-all.result.now ≡ length ps.devs = ap (λ (xs : List DevPart). length xs) all in
    absurd (false_true (c.if-not-are_placed.ensures.1 (placed_all ps meta saved (length c.as_slice-all.result.now) len can)))

pub returns-in_default-clause-none : goal.returns-in_default-clause-none
returns-in_default-clause-none c = λ can.
    let ps = c.args.parts.now in
    let meta = c.args.meta.now in
    let saved = c.args.saved.now in
    let all : c.as_slice-all.result.now ≡ ps.devs = c.as_slice-all.ensures in
    (rw c.in_default.is at c.in_ok-read.ensures.none)
    (subst (λ (xs : List DevPart). CanReadAll xs meta saved) (sym all) (can_read ps meta saved can))

pub returns-then-not-branch-clause-none : goal.returns-then-not-branch-clause-none
returns-then-not-branch-clause-none c = λ can.
    let ps = c.args.parts.now in
    let meta = c.args.meta.now in
    let saved = c.args.saved.now in
    let all : c.as_slice-all.result.now ≡ ps.devs = c.as_slice-all.ensures in
    absurd (false_true ((rw c.if-not-branch.true at c.in_ok-are_ranked.ensures).1 (subst (λ (xs : List DevPart). IsRanked (devices_of xs)) (sym all) can.ranked)))

pub returns-then-not-branch-2-clause-none : goal.returns-then-not-branch-2-clause-none
returns-then-not-branch-2-clause-none c = λ can.
    let ps = c.args.parts.now in
    let meta = c.args.meta.now in
    let saved = c.args.saved.now in
    let all : c.as_slice-all.result.now ≡ ps.devs = c.as_slice-all.ensures in
    let slabs = c.in-Some.read.slabs in
    let devs : List Kept = c.in-Some.read.devs.items in
    let read : AreReadFrom ps.devs meta saved slabs devs = subst (λ (xs : List DevPart). AreReadFrom xs meta saved slabs devs) all (rw c.in-Some.is at c.in_ok-read.ensures.read) in
    c.in_ok-resume_copies.ensures.no c.if-not-branch-2.true (can_resume ps meta saved slabs devs read can)

pub returns-in_default-2-clause-none : goal.returns-in_default-2-clause-none
returns-in_default-2-clause-none c = λ can.
    let ps = c.args.parts.now in
    let meta = c.args.meta.now in
    let saved = c.args.saved.now in
    let all : c.as_slice-all.result.now ≡ ps.devs = c.as_slice-all.ensures in
    let slabs = c.in-Some.read.slabs in
    let devs : List Kept = c.in-Some.read.devs.items in
    let read : AreReadFrom ps.devs meta saved slabs devs = subst (λ (xs : List DevPart). AreReadFrom xs meta saved slabs devs) all (rw c.in-Some.is at c.in_ok-read.ensures.read) in
    let ranked : IsRanked (devices_of ps.devs) = subst (λ (xs : List DevPart). IsRanked (devices_of xs)) all ((rw c.if-not-branch.false at c.in_ok-are_ranked.ensures).0 refl) in
    let next : List Kept = c.resume_copies.new.devs.items in
    let resumes : Resumes ps.ckpt devs next = c.in_ok-resume_copies.ensures.yes c.if-not-branch-2.false in
    let whole : Whole = record { version = ps.version; ckpt = ps.ckpt; cond = ps.cond } in
    let same = next_parts ps meta saved whole slabs devs next read ranked resumes refl in
    (rw c.in_default-2.is at c.in_ok-cond.ensures.none) (subst (λ (ks : List Kept). CanCondense ps.cond ks) (sym c.as_slice.ensures.value) (can_condense ps meta saved next same can))
