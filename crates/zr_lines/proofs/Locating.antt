-- The pool that a line finds, and what is said of it.
use Rattle.std.proofs.Common.{◌≡◌, ◌⊎◌, inl, inr, ℕ, ◌+◌, List, [], Option, Some, None, Result, Ok, Err, refl, sym, ◌∙◌, ap}
use Rattle.zr_base.specs.declared.refusal.Refusal.TheVariants.{NoSuchObject, OutOfRange, Damaged}
use Rattle.zr_base.specs.declared.space.Dva.{Dva}
use Rattle.zr_bptr.specs.declared.ObjRec.{ObjRec}
use Rattle.std.specs.Prelude.{OnOk}
use Rattle.zr_change.specs.Plans.{IsChanged, olds_of}
use Rattle.zr_change.specs.declared.ranges.Edit.{Edit}
use Rattle.zr_sync.specs.Holds.{HasBlocks}
use Rattle.zr_lookup.specs.Objects.{record_now}
use Rattle.zr_model.specs.Objects.{Objects}
use Rattle.zr_rules.specs.Space.{Space}
use Rattle.zr_store.specs.Store.{AreStored, Now, Stored}
use Rattle.zr_vdev.specs.declared.kind.Kind.TheVariants.{Block}
use Rattle.zr_vdev.proofs.Moves.{retold}
use Rattle.zr_sync.specs.Objects.{HoldsObjects}
use Rattle.zr_sync.specs.Pools.{IsSamePool}
use Rattle.zr_sync.specs.declared.open.OpenPool.{OpenPool}
use Rattle.zr_txg.specs.Changes.{Changes}
use Rattle.zr_lines.specs.Causes.{IsShort, IsLongRun, IsAbsent, IsTooFar}
use Rattle.zr_lines.specs.Changes.{HasDone, IsDone}
use Rattle.zr_lines.specs.Damage.{FindsDamage, IsDamageOf}
use Rattle.zr_lines.specs.Intents.{Found, IsFull, IsBehindCommit, IsFor, IsIntent, IsOutside, IsPlanned, Means}
use Rattle.zr_lines.specs.declared.intent.Intent.{Intent}
use Rattle.zr_lines.specs.declared.range.Reach.{Reach}
use Rattle.zr_lines.proofs.Pools.{same_more}

-- what the disks hold is held also where they are told for another reason
told_by : {t1 t2 : Type 0} → (t1 → t2) → (disks : List (List ℕ)) (x : OpenPool) (s : Stored) → HasBlocks t1 disks x s → HasBlocks t2 disks x s
told_by {t1} {t2} f disks x s h = retold Block x.table.slots t1 t2 disks x.space None x.cache s (f h.told) h

pub behind_commit : (reach : Reach) (id : ℕ) (e : Edit) (old p x : OpenPool) → IsFull reach old.group id e → IsSamePool old p → p.group ≡ old.group → IsSamePool p x → x.group.objects ≡ [] → x.group.txg ≡ p.group.txg + 1 → IsBehindCommit reach id e old x
behind_commit reach id e old p x full same group later empty txg = record {
  due = full;
  same = same_more old p x same later;
  empty = empty;
  txg = txg ∙ ap (λ (g : Changes). g.txg + 1) group;
}

module _ (told : Type 0) (reach : Reach) (id : ℕ) (e : Edit) (old : OpenPool) (disks : List (List ℕ)) where
  pub absent_here : ((s : Stored) → HasBlocks told disks old s → record_now s old.dir old.group id ≡ None) → IsAbsent told reach id e old disks
  absent_here none = record { found = record { pool = old; disks = disks }; is_found = inl (refl, refl); none = none }

  pub far_here : ((s : Stored) → HasBlocks told disks old s → IsOutside s old.dir old.group id reach e) → IsTooFar told reach id e old disks
  far_here outside = record { found = record { pool = old; disks = disks }; is_found = inl (refl, refl); outside = outside }

  pub means_here : (i : Intent) → IsIntent old.group id i → IsFor reach e i → ((s : Stored) → HasBlocks told disks old s → IsPlanned s old.dir old.group id e i) → (g : Changes) → g ≡ old.group → (m : Means told reach id e old disks i) × (g ≡ m.found.pool.group)
  means_here i intent fits planned g same = (record { found = record { pool = old; disks = disks }; is_found = inl (refl, refl); intent = intent; fits = fits; planned = planned }, same)

  module _ (later : Type 0) (tells : told → later) (x : OpenPool) (seen : List (List ℕ)) (behind : IsBehindCommit reach id e old x) where
    pub absent_behind : ((s : Stored) → HasBlocks later seen x s → record_now s x.dir x.group id ≡ None) → IsAbsent told reach id e old disks
    absent_behind none = record { found = record { pool = x; disks = seen }; is_found = inr behind; none = λ s h. none s (told_by tells seen x s h) }

    pub far_behind : ((s : Stored) → HasBlocks later seen x s → IsOutside s x.dir x.group id reach e) → IsTooFar told reach id e old disks
    far_behind outside = record { found = record { pool = x; disks = seen }; is_found = inr behind; outside = λ s h. outside s (told_by tells seen x s h) }

    pub means_behind : (i : Intent) → IsIntent x.group id i → IsFor reach e i → ((s : Stored) → HasBlocks later seen x s → IsPlanned s x.dir x.group id e i) → (g : Changes) → g ≡ x.group → (m : Means told reach id e old disks i) × (g ≡ m.found.pool.group)
    means_behind i intent fits planned g same = (record { found = record { pool = x; disks = seen }; is_found = inr behind; intent = intent; fits = fits; planned = λ s h. planned s (told_by tells seen x s h) }, same)

-- ---- the damaged block

module _ (told : Type 0) (IsSought : Found → Type 0) (id : ℕ) (Needs : ObjRec → ℕ → Type 0) (old : OpenPool) (disks : List (List ℕ)) (at : Dva) (expected found : List ℕ) where
  pub damage_here : IsSought (record { pool = old; disks = disks }) → ((s : Stored) → HasBlocks told disks old s → IsDamageOf s old.dir old.group id Needs at expected found) → FindsDamage told IsSought id Needs old disks at expected found
  damage_here is damage = record { sought = record { pool = old; disks = disks }; is_sought = is; keeps = λ objects held. held; damage = damage }

  pub damage_behind : (later : Type 0) → (told → later) → (x : OpenPool) (seen : List (List ℕ)) → IsSought (record { pool = x; disks = seen }) → ((objects : Objects) → HoldsObjects told disks old objects → HoldsObjects later seen x objects)
      → ((s : Stored) → HasBlocks later seen x s → IsDamageOf s x.dir x.group id Needs at expected found) → FindsDamage told IsSought id Needs old disks at expected found
  damage_behind later tells x seen is keeps damage = record {
    sought = record { pool = x; disks = seen };
    is_sought = is;
    keeps = λ objects before.
        let after = keeps objects before in
        record { stored = after.stored; held = told_by (λ _. before.held.told) seen x after.stored after.held; has = after.has };
    damage = λ s h. damage s (told_by tells seen x s h);
  }

same_from : (old x y : OpenPool) → IsSamePool old x → IsSamePool old y → IsSamePool x y
same_from old x y p q = record { name = q.name ∙ sym p.name; guid = q.guid ∙ sym p.guid; version = q.version ∙ sym p.version; table = q.table ∙ sym p.table; ckpt = q.ckpt ∙ sym p.ckpt }

pub kept_by : (told : Type 0) (reach : Reach) (id : ℕ) (e : Edit) (old : OpenPool) (disks : List (List ℕ)) (i : Intent) (new : OpenPool) → (m : Means told reach id e old disks i) → new.group ≡ m.found.pool.group → IsSamePool old new → (new.group ≡ old.group) ⊎ IsBehindCommit reach id e old new
kept_by told reach id e old disks i new m group same = elim m.is_found [
  | inl here ↦ inl (group ∙ ap (λ (o : OpenPool). o.group) here.0)
  | inr b ↦ inr (record {
    due = b.due;
    same = same;
    empty = ap (λ (g : Changes). g.objects) group ∙ b.empty;
    txg = ap (λ (g : Changes). g.txg) group ∙ b.txg;
  })
]

-- ---- what is done, and what is refused

module _ (t1 t2 t3 : Type 0) (tells : t1 → t2) (reach : Reach) (id : ℕ) (e : Edit) (old : OpenPool) (disks : List (List ℕ)) (i : Intent) (before : Found) (seen : List (List ℕ)) (new : OpenPool) (m : Means t1 reach id e old disks i) (same : before.pool.group ≡ m.found.pool.group) where
  pub done_by : {T E : Type 0} (r : Result T E) → OnOk r (HasDone reach id i before.pool.space before.pool.group new.group)
      → ((s : Stored) → HasBlocks t2 before.disks before.pool s → AreStored (olds_of i.plan.items) s → OnOk r (Now (HasBlocks t3 seen new) (λ n. IsChanged id i.rec i.plan.items s before.pool.group n new.group)))
      → OnOk r (IsDone t1 reach id e old disks t3 seen new)
  done_by (Ok x) d changed = record { intent = i; means = m; before = before; same = same; done = d; changed = λ s h stored. changed s (told_by tells before.disks before.pool s h) stored }
  done_by (Err x) d changed = tt

pub none_by : (o : Option Intent) → ((x : Intent) → o ≡ Some x → ⊥) → o ≡ None
none_by None not = refl
none_by (Some x) not = absurd (not x refl)

pub not_absent : (reach : Reach) (s : Space) (g : Changes) (id : ℕ) (i : Intent) → IsShort reach s g id i NoSuchObject ⊎ IsLongRun i NoSuchObject → ⊥
not_absent reach s g id i (inl short) = let is = short.is in cc
not_absent reach s g id i (inr long) = let is = long.is in cc

pub not_far : (reach : Reach) (s : Space) (g : Changes) (id : ℕ) (i : Intent) → IsShort reach s g id i OutOfRange ⊎ IsLongRun i OutOfRange → ⊥
not_far reach s g id i (inl short) = let is = short.is in cc
not_far reach s g id i (inr long) = let is = long.is in cc

pub not_damaged : (reach : Reach) (s : Space) (g : Changes) (id : ℕ) (i : Intent) (at : Dva) (expected found : List ℕ) → IsShort reach s g id i (Damaged at expected found) ⊎ IsLongRun i (Damaged at expected found) → ⊥
not_damaged reach s g id i at expected found (inl short) = let is = short.is in cc
not_damaged reach s g id i at expected found (inr long) = let is = long.is in cc
