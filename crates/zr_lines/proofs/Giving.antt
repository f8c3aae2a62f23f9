-- What a drop gives back, and how it is told from the start of the line.
use Rattle.std.proofs.Common.{◌≡◌, ◌⊎◌, inl, inr, ℕ, ◌≤◌, ◌+◌, List, [], Option, None, Result, Ok, Err, sym, ◌∙◌, ap, subst, arith}
use Rattle.std.proofs.lemmas.Bool.Decides.{leb_tells}
use Rattle.std.specs.Prelude.{IfErr, IsOk, OnOk, length}
use Rattle.zr_base.specs.declared.refusal.Refusal.{Refusal}
use Rattle.zr_base.specs.declared.refusal.Refusal.TheVariants.{NoRoom}
use Rattle.zr_base.specs.declared.space.Dva.{Dva}
use Rattle.zr_bptr.specs.declared.Bptr.{Bptr}
use Rattle.zr_cache.specs.declared.table.Cache.{Cache}
use Rattle.zr_change.specs.Changes.{SetsObject}
use Rattle.zr_lines.specs.Sought.{CanTake}
use Rattle.zr_rules.specs.Columns.{free_units}
use Rattle.zr_rules.specs.Space.{Space}
use Rattle.zr_shelf.specs.Counts.{Counts}
use Rattle.zr_shelf.specs.Moments.{World}
use Rattle.zr_store.specs.Store.{Stored, AreStored, Now, Swaps}
use Rattle.zr_sync.specs.Writes.{WritesBlocks}
use Rattle.zr_sync.specs.declared.fault.Fault.{Fault}
use Rattle.zr_sync.specs.declared.fault.Fault.TheVariants.{No}
use Rattle.zr_sync.specs.declared.open.OpenPool.{OpenPool}
use Rattle.zr_txg.specs.Changes.{Changes, block_count}
use Rattle.zr_vdev.specs.Stores.{HoldsBlocks}
use Rattle.zr_vdev.specs.declared.kind.Kind.{Kind}
use Rattle.zr_vdev.specs.declared.kind.Kind.TheVariants.{Block}
use Rattle.zr_lines.specs.Counts.{new_object}
use Rattle.zr_lines.specs.Drops.{AreFoundIn, GivesUp}
use Rattle.zr_lines.specs.Groups.{IsBehindCommit, IsReadyGroup}
use Rattle.zr_lines.specs.Room.{LacksRoom}

pub on_ok_map : {T E P Q : Type 0} (r : Result T E) → OnOk r P → (P → Q) → OnOk r Q
on_ok_map (Ok x) p f = f p
on_ok_map (Err e) p f = tt

-- what the store says of each list of blocks that is held, the pool says
pub gives_up : (blocks : List Bptr) (t1 t2 : Type 0) (d1 d2 : List (List ℕ)) (x y : OpenPool) (r : Result (Unit {0}) Fault)
    → y.table ≡ x.table
    → ((s : Stored) → HoldsBlocks Block x.table.slots t1 d1 x.space None x.cache s → AreStored blocks s → OnOk r (Now (HoldsBlocks Block x.table.slots t2 d2 y.space None y.cache) (λ n. Swaps s n blocks [])))
    → OnOk r (GivesUp blocks t1 d1 x t2 d2 y)
gives_up blocks t1 t2 d1 d2 x y (Err e) same swaps = tt
gives_up blocks t1 t2 d1 d2 x y (Ok done) same swaps = λ s has stored.
    let got = swaps s has stored in
    record {
      stored = got.stored;
      held = subst (λ (slots : List (Option ℕ)). HoldsBlocks Block slots t2 d2 y.space None y.cache got.stored) (sym (ap (λ t. t.slots) same)) got.held;
      is = got.is;
    }

-- the same is held where all that it depends on is the same
pub held_after : {X : Type 0} (tells : X → Type 0) (seen : X → List (List ℕ)) (k l : Kind) (slots slots' : List (Option ℕ)) (h i : X) (s t : Space) (lost lost' : Option Dva) (c d : Cache) (st : Stored)
    → k ≡ l → slots ≡ slots' → h ≡ i → s ≡ t → lost ≡ lost' → c ≡ d → HoldsBlocks k slots (tells h) (seen h) s lost c st → HoldsBlocks l slots' (tells i) (seen i) t lost' d st
held_after {X} tells seen k l slots slots' h i s t lost lost' c d st p q r u v w held =
    subst (λ (e : Kind). HoldsBlocks e slots' (tells i) (seen i) t lost' d st) p
    (subst (λ (e : List (Option ℕ)). HoldsBlocks k e (tells i) (seen i) t lost' d st) q
    (subst (λ (e : X). HoldsBlocks k slots (tells e) (seen e) t lost' d st) r
    (subst (λ (e : Space). HoldsBlocks k slots (tells h) (seen h) e lost' d st) u
    (subst (λ (e : Option Dva). HoldsBlocks k slots (tells h) (seen h) s e d st) v
    (subst (λ (e : Cache). HoldsBlocks k slots (tells h) (seen h) s lost e st) w held)))))

-- where the group is not full the pool and its disks are as they were
pub found_back : {X : Type 0} (tells : X → Type 0) (seen : X → List (List ℕ)) (h k : X) (x y : OpenPool) (id : ℕ) (blocks : List Bptr)
    → (CanTake 0 (new_object x.group id) x.group → (y ≡ x) × (k ≡ h)) → AreFoundIn (tells k) (seen k) y id blocks → AreFoundIn (tells h) (seen h) x id blocks
found_back {X} tells seen h k x y id blocks stays found = λ can.
    let st = stays can in
    (subst (λ (i : X). AreFoundIn (tells i) (seen i) x id blocks) st.1 (subst (λ (o : OpenPool). AreFoundIn (tells k) (seen k) o id blocks) st.0 found)) can

pub wrote_back : {X : Type 0} (sizes : X → List ℕ) (counts : X → Counts) (tells : X → Type 0) (world : X → World) (h k r : X) (x y z : OpenPool) (id : ℕ)
    → (CanTake 0 (new_object x.group id) x.group → (y ≡ x) × (k ≡ h)) → (CanTake 0 (new_object y.group id) y.group → WritesBlocks (sizes k) (sizes r) (counts k) (counts r) (tells k) (tells r) (world k) (world r) y z)
    → CanTake 0 (new_object x.group id) x.group → WritesBlocks (sizes h) (sizes r) (counts h) (counts r) (tells h) (tells r) (world h) (world r) x z
wrote_back {X} sizes counts tells world h k r x y z id stays wrote can =
    let st = stays can in
    let can_too = subst (λ (o : OpenPool). CanTake 0 (new_object o.group id) o.group) (sym st.0) can in
    subst (λ (i : X). WritesBlocks (sizes i) (sizes r) (counts i) (counts r) (tells i) (tells r) (world i) (world r) x z) st.1
    (subst (λ (o : OpenPool). WritesBlocks (sizes k) (sizes r) (counts k) (counts r) (tells k) (tells r) (world k) (world r) o z) st.0 (wrote can_too))

pub kept_txg : (id : ℕ) (old new : Changes) (r : Result (Unit {0}) Fault) → OnOk r (SetsObject id None old new) → IfErr r (λ _. new ≡ old) → new.txg ≡ old.txg
kept_txg id old new (Ok done) sets kept = sets.txg
kept_txg id old new (Err e) sets kept = ap (λ (g : Changes). g.txg) kept

-- ---- room

err_is : (x y : Fault) → ◌≡◌ {A = Result (Unit {0}) Fault} (Err x) (Err y) → x ≡ y
err_is x y e = cc

same_needed : (n m a b : ℕ) → No (NoRoom n a) ≡ No (NoRoom m b) → n ≡ m
same_needed n m a b e = cc

same_free : (n m a b : ℕ) → No (NoRoom n a) ≡ No (NoRoom m b) → a ≡ b
same_free n m a b e = cc

pub err_same : (x y : Fault) → x ≡ y → ◌≡◌ {A = Result (Unit {0}) Fault} (Err x) (Err y)
err_same x y e = ap (λ (f : Fault). Err f) e

no_ok : (e : Refusal) → IsOk {T = Unit {0}} (Err e) → ⊥
no_ok e ok = cc

-- the refusal says what the room was refused for
pub lacks_of : (s : Space) (wanted needed free : ℕ) (r : Refusal) (told : Result (Unit {0}) Fault)
    → r ≡ NoRoom wanted (free_units s) → (wanted ≤ free_units s → IsOk {T = Unit {0}} (Err r)) → told ≡ Err (No r) → told ≡ Err (No (NoRoom needed free)) → LacksRoom s wanted needed free
lacks_of s wanted needed free r told is enough gives says =
    let e : No (NoRoom needed free) ≡ No (NoRoom wanted (free_units s)) = err_is (No (NoRoom needed free)) (No (NoRoom wanted (free_units s))) (sym says ∙ (gives ∙ ap (λ (q : Refusal). Err (No q)) is)) in
    let n = same_needed needed wanted free (free_units s) e in
    let f = same_free needed wanted free (free_units s) e in
    let short : wanted ≤ free_units s → ⊥ = λ le. no_ok r (enough le) in
    record { needed_is = n; free_is = f; less = omega (arith, n, f, short) }

-- the group can take an object more, or it cannot
pub can_take : (n : ℕ) (g : Changes) → CanTake 0 n g ⊎ (CanTake 0 n g → ⊥)
can_take n g = elim (leb_tells (block_count g.objects + 0) 64) [
  | inl first ↦ elim (leb_tells (length g.objects + n) 64) [
    | inl second ↦ inl (first.1, second.1)
    | inr more ↦ inr (λ both. let over = more.1 in let under = both.1 in omega (arith, over, under))
  ]
  | inr more ↦ inr (λ both. let over = more.1 in let under = both.0 in omega (arith, over, under))
]

-- a group that can take what the one before could not is the one behind its commit
pub behind_full : (id : ℕ) (old new : Changes) → IsReadyGroup id old new → CanTake 0 (new_object new id) new → (CanTake 0 (new_object old id) old → ⊥) → IsBehindCommit id old new
behind_full id old new (inl same) takes full = absurd (full (subst (λ (g : Changes). CanTake 0 (new_object g id) g) same takes))
behind_full id old new (inr behind) takes full = behind
