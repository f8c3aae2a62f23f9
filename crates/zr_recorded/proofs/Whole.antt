-- A pool that is whole behind a line of a group, or behind a commit, was so before it, and no root was saved where none is.
use Rattle.std.proofs.Common.{◌≡◌, ℕ, ◌<◌, Bool, true, false, List, [], Option, None, Some, refl, sym, ◌∙◌, ap, subst, arith, if◌then◌else◌}
use Rattle.std.proofs.lemmas.Bool.Decides.{nat_tests}
use Rattle.zr_base.proofs.ExtentSets.{same_extents}
use Rattle.zr_base.specs.Extents.{IsMaximal, has_unit}
use Rattle.zr_base.specs.declared.space.CkptPart.{CkptPart}
use Rattle.zr_base.specs.declared.space.CkptPart.TheVariants.{Clear, Discarding, Held}
use Rattle.zr_base.specs.declared.space.Extent.{Extent}
use Rattle.zr_meta.specs.Heads.{IsSaved}
use Rattle.zr_model.specs.Objects.{Objects}
use Rattle.zr_recorded.specs.Service.{IsWhole, ServesWhole}
use Rattle.zr_rules.specs.Places.{is_fresh, part_of}
use Rattle.zr_rules.specs.Roles.{Role, aged, cleared, is_kept_role}
use Rattle.zr_rules.specs.Space.{IsLawful, Space, role_at}
use Rattle.zr_rules.specs.Steps.{Commits}
use Rattle.zr_shelf.specs.Moments.{World}
use Rattle.zr_sync.proofs.KeptSets.{kept_is}
use Rattle.zr_sync.specs.Ends.{EndsCommitted}
use Rattle.zr_sync.specs.Pools.{IsOpen, saved_block}
use Rattle.zr_sync.specs.declared.open.Checkpoint.{Checkpoint}
use Rattle.zr_sync.specs.declared.open.OpenPool.{OpenPool}
use Rattle.zr_sync.specs.declared.open.Table.{Table}
use Rattle.zr_vdev.specs.Stores.{KeepsOthers, may_change}
use Rattle.zr_vdev.specs.declared.kind.Kind.{Kind}
use Rattle.zr_vdev.specs.declared.kind.Kind.TheVariants.{Block, Meta}

-- ---- sets

no_extents : (es : List Extent) → IsMaximal es → ((u : ℕ) → has_unit es u ≡ false) → es ≡ []
no_extents es maximal none = same_extents 0 0 es [] maximal tt none

-- where what was true stays true, what is false was so before
was_none : (was is : Bool) → (was ≡ true → is ≡ true) → is ≡ false → was ≡ false
was_none true is keeps none = absurd (let now = keeps refl in cc)
was_none false is keeps none = refl

-- ---- spaces

-- the space of a pool of so many devices that is whole
record IsWholeSpace (count : ℕ) (s : Space) : Type 0 where
  pub serve : (d : ℕ) → d < count → ServesWhole (part_of s.parts.devs d)
  pub cond : s.parts.cond ≡ None
  pub unkept : s.parts.ckpt ≡ Clear → (d : ℕ) → d < count → (part_of s.parts.devs d).kept ≡ []

-- The rows, the mappings, the checkpoint and the condensing are the same, and what is obsolete or kept stays so.
record KeepsSpace (old new : Space) : Type 0 where
  pub row : (d : ℕ) → (part_of new.parts.devs d).row ≡ (part_of old.parts.devs d).row
  pub entries : (d : ℕ) → (part_of new.parts.devs d).entries ≡ (part_of old.parts.devs d).entries
  pub counts : (d : ℕ) → (part_of new.parts.devs d).counts ≡ (part_of old.parts.devs d).counts
  pub cond : new.parts.cond ≡ old.parts.cond
  pub ckpt : new.parts.ckpt ≡ old.parts.ckpt
  pub fresh : (d u : ℕ) → is_fresh old.parts.devs d u ≡ true → is_fresh new.parts.devs d u ≡ true
  pub kept : (d u : ℕ) → is_kept_role (role_at old d u) ≡ true → is_kept_role (role_at new d u) ≡ true
  pub lawful : IsLawful old → IsLawful new

module _ (count : ℕ) (old new : Space) (keeps : KeepsSpace old new) (lawful : IsLawful old) (whole : IsWholeSpace count new) where
  no_marks : (d : ℕ) → (part_of new.parts.devs d).fresh ≡ [] → (part_of old.parts.devs d).fresh ≡ []
  no_marks d none =
      no_extents (part_of old.parts.devs d).fresh (lawful.sets d).fresh.maximal
      (λ u. was_none (is_fresh old.parts.devs d u) (is_fresh new.parts.devs d u) (keeps.fresh d u) (ap (λ (es : List Extent). has_unit es u) none))

  none_kept : (d : ℕ) → (part_of new.parts.devs d).kept ≡ [] → (part_of old.parts.devs d).kept ≡ []
  none_kept d none =
      no_extents (part_of old.parts.devs d).kept (lawful.sets d).kept.maximal
      (λ u. sym (kept_is old lawful d u) ∙ was_none (is_kept_role (role_at old d u)) (is_kept_role (role_at new d u)) (keeps.kept d u) (kept_is new (keeps.lawful lawful) d u ∙ ap (λ (es : List Extent). has_unit es u) none))

  whole_before : IsWholeSpace count old
  whole_before = record {
    serve = λ d lt. let s = whole.serve d lt in record {
      on = ap (λ r. r.state) (sym (keeps.row d)) ∙ s.on;
      entries = sym (keeps.entries d) ∙ s.entries;
      counts = sym (keeps.counts d) ∙ s.counts;
      fresh = no_marks d s.fresh;
    };
    cond = sym keeps.cond ∙ whole.cond;
    unkept = λ clear d lt. none_kept d (whole.unkept (keeps.ckpt ∙ clear) d lt);
  }

-- ---- what a store of blocks does, and what a commit does

kept_closed : (kind : Kind) (r : Role) → is_kept_role r ≡ true → may_change kind r ≡ false
kept_closed Block r is = grind (arith, nat_tests, is)
kept_closed Meta r is = grind (arith, nat_tests, is)

kept_still : (kind : Kind) (old new : Role) → (may_change kind old ≡ false → new ≡ old) → is_kept_role old ≡ true → is_kept_role new ≡ true
kept_still kind old new stays is = ap is_kept_role (stays (kept_closed kind old is)) ∙ is

kept_over : (reset : Bool) (r : Role) → is_kept_role r ≡ true → is_kept_role (if reset then cleared r else aged r) ≡ true
kept_over true r is = grind (arith, nat_tests, is)
kept_over false r is = grind (arith, nat_tests, is)

marks_stay : (kind : Kind) (old new : Space) → KeepsOthers kind old new → (d u : ℕ) → is_fresh old.parts.devs d u ≡ true → is_fresh new.parts.devs d u ≡ true
marks_stay Block old new h d u is = h.marks d u is
marks_stay Meta old new h d u is = h.marks d u ∙ is

store_keeps : (kind : Kind) (old new : Space) → KeepsOthers kind old new → KeepsSpace old new
store_keeps kind old new h = record {
  row = λ d. (h.rows.each d).row;
  entries = λ d. (h.rows.each d).entries;
  counts = λ d. (h.rows.each d).counts;
  cond = h.rows.cond;
  ckpt = h.rows.ckpt;
  fresh = marks_stay kind old new h;
  kept = λ d u. kept_still kind (role_at old d u) (role_at new d u) (h.stays d u);
  lawful = h.rows.lawful;
}

end_keeps : (reset : Bool) (old new : Space) → Commits reset old new → KeepsSpace old new
end_keeps reset old new h = record {
  row = h.rows;
  entries = h.entries;
  counts = h.counts;
  cond = h.cond;
  ckpt = h.ckpt;
  fresh = λ d u is. h.fresh d u ∙ is;
  kept = λ d u is. ap is_kept_role (h.roles d u) ∙ kept_over reset (role_at old d u) is;
  lawful = h.lawful;
}

-- ---- pools

space_whole : (pool : OpenPool) → IsWhole pool → IsWholeSpace pool.table.count pool.space
space_whole pool h = record { serve = h.serve; cond = h.cond; unkept = h.unkept }

pool_whole : (pool : OpenPool) → IsWholeSpace pool.table.count pool.space → IsWhole pool
pool_whole pool h = record { serve = h.serve; cond = h.cond; unkept = h.unkept }

pub line_whole : (sizes : List ℕ) (old new : OpenPool) → IsOpen sizes old → KeepsOthers Block old.space new.space → new.table ≡ old.table → IsWhole new → IsWhole old
line_whole sizes old new ready keeps table whole =
    pool_whole old (whole_before old.table.count old.space new.space (store_keeps Block old.space new.space keeps) ready.lawful (subst (λ (t : Table). IsWholeSpace t.count new.space) table (space_whole new whole)))

pub commit_whole : (sizes : List ℕ) (reset : Bool) (old new : OpenPool) (objects : Objects) (before now : World) → IsOpen sizes old → EndsCommitted sizes reset old new objects before now → IsWhole new → IsWhole old
commit_whole sizes reset old new objects before now ready ends whole =
    let e = ends.ends in
    let at_trees = e.blocks.rows.lawful ready.lawful in
    let at_all = e.metadata.rows.lawful at_trees in
    let last = subst (λ (t : Table). IsWholeSpace t.count new.space) ends.same.table (space_whole new whole) in
    let all = whole_before old.table.count e.all new.space (end_keeps reset e.all new.space e.ended) at_all last in
    let trees = whole_before old.table.count e.trees e.all (store_keeps Meta e.trees e.all e.metadata) at_trees all in
    pool_whole old (whole_before old.table.count old.space e.trees (store_keeps Block old.space e.trees e.blocks) ready.lawful trees)

-- ---- saved roots

no_root : (ckpt : CkptPart) (old new : Option Checkpoint) → IsSaved ckpt (saved_block old) → IsSaved ckpt (saved_block new) → new ≡ None → old ≡ None
no_root ckpt None new was is none = refl
no_root Clear (Some c) new was is none = absurd was
no_root Discarding (Some c) new was is none = absurd was
no_root (Held txg) (Some c) None was is none = absurd is
no_root (Held txg) (Some c) (Some d) was is none = absurd (cc)

pub none_saved : (sizes : List ℕ) (old new : OpenPool) → IsOpen sizes old → IsOpen sizes new → new.space.parts.ckpt ≡ old.space.parts.ckpt → new.saved ≡ None → old.saved ≡ None
none_saved sizes old new was is same none = no_root old.space.parts.ckpt old.saved new.saved was.saved (subst (λ (c : CkptPart). IsSaved c (saved_block new.saved)) same is.saved) none
