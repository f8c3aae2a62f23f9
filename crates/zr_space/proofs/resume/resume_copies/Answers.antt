use Rattle.std.proofs.Common.{◌≡◌, ◌∙◌, ◌<◌, ℕ, List, Option, Some, None, length, refl, sym, ap, subst}
use Rattle.zr_base.specs.declared.space.Extent.{Extent}
use Rattle.zr_evac.specs.Evacuations.{copies_at, hits_at}
use Rattle.zr_space.specs.Reads.{AreCopied}
use Rattle.zr_space.specs.Resuming.{IsLeavingAlone, IsUnderWay}
use Rattle.zr_space.specs.Views.{Kept, kept_of}
use Rattle.zr_space.proofs.Ready.{leaving_there}
use Rattle.zr_space.proofs.Resuming.{can_enter, resumes_none, resumes_one}
use Rattle.zr_space.proofs.Views.{kept_read}
use Rattle.zr_space.proofs.resume.resume_copies.Goals as goal

pub returns-in_default-found-clause-yes : goal.returns-in_default-found-clause-yes
returns-in_default-found-clause-yes c = λ _.
    let devs : List Kept = c.args.devs.now.items in
    let alone : IsLeavingAlone devs None = subst (λ (o : Option ℕ). IsLeavingAlone devs o) c.in_default-found.is (subst (λ (ks : List Kept). IsLeavingAlone ks c.in-Some.found) c.as_slice.ensures.value (rw c.in-Some.is at c.leaving_in.ensures.some)) in
    resumes_none c.args.ckpt devs alone c.requires.none

pub returns-clause-yes : goal.returns-clause-yes
returns-clause-yes c = λ yes.
    let devs : List Kept = c.args.devs.now.items in
    let i = c.in-Some-found.dev in
    let alone : IsLeavingAlone devs (Some i) = subst (λ (o : Option ℕ). IsLeavingAlone devs o) c.in-Some-found.is (subst (λ (ks : List Kept). IsLeavingAlone ks c.in-Some.found) c.as_slice.ensures.value (rw c.in-Some.is at c.leaving_in.ensures.some)) in
    let there : i < length devs = leaving_there devs i alone.leaving in
    let k : Kept = record { row = c.device.inside.row; uses = c.device.inside.units; moves = c.device.inside.moves } in
    let is : k ≡ kept_of devs i = c.device.view_is ∙ kept_read devs i c.index-device.result.now there c.index-device.ensures in
    let places : (d u : ℕ) → hits_at c.as_slice-2.result.now d u ≡ copies_at (kept_of devs i).moves.fresh (kept_of devs i).moves.entries d u =
    λ d u. ap (λ (ps : List (ℕ × Extent)). hits_at ps d u) c.as_slice-2.ensures.value ∙ (c.in_ok-places.ensures.copies d u ∙ ap (λ (x : Kept). copies_at x.moves.fresh x.moves.entries d u) is) in
    let way : IsUnderWay c.args.ckpt k = record {
      quiet = c.if-not-is_clear.ensures.0 refl;
      unkept = sym c.kept.ensures ∙ c.if-not-is_empty.ensures.0 refl;
      copied = subst (λ (es : List Extent). AreCopied k.moves.entries k.moves.fresh es k.moves.opened) (c.in_ok-held.ensures ∙ c.held.ensures) ((rw c.if-not-branch.false at c.in_ok-are_copied.ensures).0 refl);
    } in
    resumes_one c.args.ckpt devs c.enter_all.new.devs.items i c.as_slice-2.result.now alone (subst (IsUnderWay c.args.ckpt) is way) places (c.in_ok-entered.ensures.yes yes)

pub returns-clause-no : goal.returns-clause-no
returns-clause-no c = λ fails can.
    let devs : List Kept = c.args.devs.now.items in
    let i = c.in-Some-found.dev in
    let alone : IsLeavingAlone devs (Some i) = subst (λ (o : Option ℕ). IsLeavingAlone devs o) c.in-Some-found.is (subst (λ (ks : List Kept). IsLeavingAlone ks c.in-Some.found) c.as_slice.ensures.value (rw c.in-Some.is at c.leaving_in.ensures.some)) in
    let there : i < length devs = leaving_there devs i alone.leaving in
    let k : Kept = record { row = c.device.inside.row; uses = c.device.inside.units; moves = c.device.inside.moves } in
    let is : k ≡ kept_of devs i = c.device.view_is ∙ kept_read devs i c.index-device.result.now there c.index-device.ensures in
    let places : (d u : ℕ) → hits_at c.as_slice-2.result.now d u ≡ copies_at (kept_of devs i).moves.fresh (kept_of devs i).moves.entries d u =
    λ d u. ap (λ (ps : List (ℕ × Extent)). hits_at ps d u) c.as_slice-2.ensures.value ∙ (c.in_ok-places.ensures.copies d u ∙ ap (λ (x : Kept). copies_at x.moves.fresh x.moves.entries d u) is) in
    c.in_ok-entered.ensures.no fails (can_enter c.args.ckpt devs i c.as_slice-2.result.now alone places can)
