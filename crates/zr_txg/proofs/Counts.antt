-- What one change makes of a group: at each block and object, and in the counts.
use Rattle.std.proofs.Common.{◌≡◌, ℕ, suc, ◌+◌, ◌-◌, ◌<◌, Bool, true, false, eqb, List, [], ◌∷◌, length, refl, sym, arith, Some, None, Option, ◌∙◌, ⊎_elim, ap, ap₂, subst}
use Rattle.std.specs.Prelude.{if◌then◌else◌, ◌&&◌, is_some, not, option_map, IsTrue}
use Rattle.std.specs.List.{AllByRecursion}
use Rattle.std.proofs.lemmas.Bool.{lt-ltb, le-ltb, eq-eqb, ne_eqb, cases_lt}
use Rattle.std.proofs.lemmas.List.Sums.{sum_by-cons}
use Rattle.zr_bptr.specs.declared.Ptr.{Ptr}
use Rattle.zr_bptr.specs.declared.ObjRec.{ObjRec}
use Rattle.zr_txg.specs.Tables.{IsRisingFrom, IsRising, value_at, put_value}
use Rattle.zr_txg.specs.Changes.{ObjectChange, IsChange, IsGroup, Changes, IsRecorded, change_in, object_in, changes_in, blocks_of, block_count, with_block, with_record}
use Rattle.zr_txg.proofs.Keyed.{by_key, value_at-low, value_at-put, rising-put, length-put, each-put, each-at}

abbrev pub Objects : Type 0
Objects = List (ℕ × ObjectChange)

abbrev pub change_from : Option ObjRec → List (ℕ × Ptr) → ObjectChange
change_from object blocks = record { object = object; blocks = blocks }

-- the change of an object that is recorded
pub recorded : (o : Option ObjectChange) (r : ObjRec) → option_map (λ c. c.object) o ≡ Some (Some r) → (c : ObjectChange) × ((o ≡ Some c) × (c.object ≡ Some r))
recorded None r is = cc
recorded (Some c) r is = (c, (refl, cc))

total : (e : ℕ × ObjectChange) (es : Objects) → block_count (e ∷ es) ≡ length e.1.blocks + block_count es
total e es = sum_by-cons (λ (x : ℕ × ObjectChange). length x.1.blocks) e es

-- the blocks after a put: those of the object before go, and its blocks now come
pub block_count-put : (low id : ℕ) (c : ObjectChange) (os : Objects) → IsRisingFrom low os → block_count (put_value os id c) + length (blocks_of (value_at os id)) ≡ block_count os + length c.blocks
block_count-put low id c [] up = omega arith
block_count-put low id c (e ∷ es) up =
    ⊎_elim
    (λ lower. rw (lt-ltb e.0 id lower, ne_eqb e.0 id (omega arith)) (omega (arith, block_count-put (suc e.0) id c es up.1, total e (put_value es id c), total e es)))
    (λ not_lower. rw (le-ltb e.0 id not_lower)
    (by_key e.0 id
    (λ same. rw (eq-eqb e.0 id same) (omega (arith, total e es, total (id, c) es)))
    (λ other. rw (ne_eqb e.0 id other, value_at-low (suc e.0) id es up.1 (omega arith)) (omega (arith, total e es, total (id, c) (e ∷ es))))))
    (cases_lt e.0 id)

-- the change of a block: at each block ..
pub blocks-change : (os : Objects) (id index : ℕ) (p : Ptr) (c : ObjectChange) → value_at os id ≡ Some c → (i k : ℕ) → value_at (blocks_of (value_at (put_value os id (with_block c index p)) i)) k ≡ (if eqb id i && eqb index k then Some p else value_at (blocks_of (value_at os i)) k)
blocks-change os id index p c is i k =
    rw (value_at-put id i (with_block c index p) os)
    (by_key id i
    (λ same. rw (eq-eqb id i same, subst (λ z. value_at os z ≡ Some c) same is) (value_at-put index k p c.blocks))
    (λ other. rw (ne_eqb id i other) refl))

-- .. at each object ..
pub objects-change : (os : Objects) (id index : ℕ) (p : Ptr) (c : ObjectChange) → value_at os id ≡ Some c → (i : ℕ) → option_map (λ c. c.object) (value_at (put_value os id (with_block c index p)) i) ≡ option_map (λ c. c.object) (value_at os i)
objects-change os id index p c is i =
    rw (value_at-put id i (with_block c index p) os)
    (by_key id i
    (λ same. rw (eq-eqb id i same, subst (λ z. value_at os z ≡ Some c) same is) refl)
    (λ other. rw (ne_eqb id i other) refl))

-- .. and in the counts
pub block_count-change : (os : Objects) (id index : ℕ) (p : Ptr) (c : ObjectChange) → IsRising os → IsRising c.blocks → value_at os id ≡ Some c → block_count (put_value os id (with_block c index p)) ≡ block_count os + (if is_some (value_at (blocks_of (value_at os id)) index) then 0 else 1)
block_count-change os id index p c up blocks_up is =
    let total = block_count-put 0 id (with_block c index p) os up in
    let one = length-put 0 index p c.blocks blocks_up in
    let old : blocks_of (value_at os id) ≡ c.blocks = ap blocks_of is in
    rw old (omega (arith, rw old at total, one))

pub object_count-change : (os : Objects) (id index : ℕ) (p : Ptr) (c : ObjectChange) → IsRising os → value_at os id ≡ Some c → length (put_value os id (with_block c index p)) ≡ length os
object_count-change os id index p c up is =
    let one = length-put 0 id (with_block c index p) os up in
    rw is at one ∙ omega arith

is_change-block : (c : ObjectChange) (r : ObjRec) (index : ℕ) (p : Ptr) → c.object ≡ Some r → IsChange c → IsChange (with_block c index p)
is_change-block c r index p is change = record {
  rising = rising-put 0 index p c.blocks change.rising (omega arith);
  dropped = λ gone. absurd (let both : Some r ≡ None = sym is ∙ gone in cc);
}

pub is_group-change : (os : Objects) (count id index : ℕ) (p : Ptr) (r : ObjRec) (c : ObjectChange) → IsGroup os count → value_at os id ≡ Some c → c.object ≡ Some r → IsGroup (put_value os id (with_block c index p)) (count + (if is_some (value_at (blocks_of (value_at os id)) index) then 0 else 1))
is_group-change os count id index p r c group is there =
    let change = each-at IsChange id c os group.each is in
    record {
      rising = rising-put 0 id (with_block c index p) os group.rising (omega arith);
      each = each-put IsChange id (with_block c index p) os group.each (is_change-block c r index p there change);
      counted = ap (λ n. n + (if is_some (value_at (blocks_of (value_at os id)) index) then 0 else 1)) group.counted ∙ sym (block_count-change os id index p c group.rising change.rising is);
    }

blocks_of-record : (o : Option ObjectChange) (r : Option ObjRec) → blocks_of (Some (with_record o r)) ≡ (if is_some r then blocks_of o else [])
blocks_of-record o None = refl
blocks_of-record o (Some r) = refl

object_of-record : (o : Option ObjectChange) (r : Option ObjRec) → (with_record o r).object ≡ r
object_of-record o None = refl
object_of-record o (Some r) = refl

-- the record of an object: at each block ..
pub blocks-record : (os : Objects) (id : ℕ) (r : Option ObjRec) (i k : ℕ) → value_at (blocks_of (value_at (put_value os id (with_record (value_at os id) r)) i)) k ≡ (if eqb id i && not (is_some r) then None else value_at (blocks_of (value_at os i)) k)
blocks-record os id None i k =
    rw (value_at-put id i (with_record (value_at os id) None) os)
    (by_key id i
    (λ same. rw (eq-eqb id i same) refl)
    (λ other. rw (ne_eqb id i other) refl))
blocks-record os id (Some r) i k =
    rw (value_at-put id i (with_record (value_at os id) (Some r)) os)
    (by_key id i
    (λ same. rw (eq-eqb id i same) (ap (λ z. value_at (blocks_of (value_at os z)) k) same))
    (λ other. rw (ne_eqb id i other) refl))

-- .. at each object ..
pub objects-record : (os : Objects) (id : ℕ) (r : Option ObjRec) (i : ℕ) → option_map (λ c. c.object) (value_at (put_value os id (with_record (value_at os id) r)) i) ≡ (if eqb id i then Some r else option_map (λ c. c.object) (value_at os i))
objects-record os id r i =
    rw (value_at-put id i (with_record (value_at os id) r) os)
    (by_key id i
    (λ same. rw (eq-eqb id i same) (ap (λ (o : Option ObjRec). Some o) (object_of-record (value_at os id) r)))
    (λ other. rw (ne_eqb id i other) refl))

-- .. and in the counts
pub block_count-record : (os : Objects) (id : ℕ) (r : Option ObjRec) → IsRising os → block_count (put_value os id (with_record (value_at os id) r)) + (if is_some r then 0 else length (blocks_of (value_at os id))) ≡ block_count os
block_count-record os id None up = omega (arith, block_count-put 0 id (with_record (value_at os id) None) os up)
block_count-record os id (Some r) up = omega (arith, block_count-put 0 id (with_record (value_at os id) (Some r)) os up)

some_object : (o : Option ObjectChange) → is_some (option_map (λ c. c.object) o) ≡ is_some o
some_object None = refl
some_object (Some c) = refl

pub object_count-record : (os : Objects) (id : ℕ) (r : Option ObjRec) → IsRising os → length (put_value os id (with_record (value_at os id) r)) ≡ length os + (if is_some (option_map (λ c. c.object) (value_at os id)) then 0 else 1)
object_count-record os id r up = rw (some_object (value_at os id)) (length-put 0 id (with_record (value_at os id) r) os up)

is_change-record : (o : Option ObjectChange) (r : Option ObjRec) → IsRising (blocks_of o) → IsChange (with_record o r)
is_change-record o None up = record { rising = tt; dropped = λ gone. refl }
is_change-record o (Some r) up = record { rising = up; dropped = λ gone. cc }

rising_of : (os : Objects) (id : ℕ) → AllByRecursion (λ e. IsChange e.1) os → IsRising (blocks_of (value_at os id))
rising_of [] id each = tt
rising_of (e ∷ es) id each =
    by_key e.0 id
    (λ same. rw (eq-eqb e.0 id same) each.0.rising)
    (λ other. rw (ne_eqb e.0 id other) (rising_of es id each.1))

pub is_group-record : (os : Objects) (count taken id : ℕ) (r : Option ObjRec) → IsGroup os count → taken ≡ (if is_some r then 0 else length (blocks_of (value_at os id))) → IsGroup (put_value os id (with_record (value_at os id) r)) (count - taken)
is_group-record os count taken id r group is = record {
  rising = rising-put 0 id (with_record (value_at os id) r) os group.rising (omega arith);
  each = each-put IsChange id (with_record (value_at os id) r) os group.each (is_change-record (value_at os id) r (rising_of os id group.each));
  counted = let total = block_count-record os id r group.rising in omega (arith, is, group.counted, total);
}

-- An object that the group had changed has the change of a block more.
pub record IsPut (os ns : Objects) (id index : ℕ) (p : Ptr) (added : Bool) : Type 0 where
  pub c : ObjectChange
  pub r : ObjRec
  pub is : value_at os id ≡ Some c
  pub there : c.object ≡ Some r
  pub put : ns ≡ put_value os id (with_block c index p)
  pub added_is : added ≡ not (is_some (value_at (blocks_of (value_at os id)) index))

pub is_put : (g : Changes) (os ns : Objects) (id index : ℕ) (p : Ptr) (added : Bool) → os ≡ g.objects → IsRecorded g id → ((c : ObjectChange) → value_at os id ≡ Some c → ns ≡ put_value os id (with_block c index p)) → ((c : ObjectChange) → value_at os id ≡ Some c → added ≡ not (is_some (value_at c.blocks index))) → IsPut os ns id index p added
is_put g os ns id index p added same there put new =
    let found = recorded (value_at os id) there.0 (ap (λ (xs : Objects). option_map (λ c. c.object) (value_at xs id)) same ∙ there.1) in
    record {
      c = found.0;
      r = there.0;
      is = found.1.0;
      there = found.1.1;
      put = put found.0 found.1.0;
      added_is = new found.0 found.1.0 ∙ ap (λ (o : Option ObjectChange). not (is_some (value_at (blocks_of o) index))) (sym found.1.0);
    }

pub put_blocks : (g : Changes) (os ns : Objects) (id index : ℕ) (p : Ptr) (added : Bool) → os ≡ g.objects → IsPut os ns id index p added → (i k : ℕ) → value_at (blocks_of (value_at ns i)) k ≡ (if eqb id i && eqb index k then Some p else change_in g i k)
put_blocks g os ns id index p added same h i k =
    subst (λ (xs : Objects). value_at (blocks_of (value_at ns i)) k ≡ (if eqb id i && eqb index k then Some p else value_at (blocks_of (value_at xs i)) k)) same
    (rw h.put (blocks-change os id index p h.c h.is i k))

pub put_objects : (g : Changes) (os ns : Objects) (id index : ℕ) (p : Ptr) (added : Bool) → os ≡ g.objects → IsPut os ns id index p added → (i : ℕ) → option_map (λ c. c.object) (value_at ns i) ≡ object_in g i
put_objects g os ns id index p added same h i =
    subst (λ (xs : Objects). option_map (λ c. c.object) (value_at ns i) ≡ option_map (λ c. c.object) (value_at xs i)) same
    (rw h.put (objects-change os id index p h.c h.is i))

pub put_block_count : (g : Changes) (os ns : Objects) (count id index : ℕ) (p : Ptr) (added : Bool) → os ≡ g.objects → IsGroup os count → IsPut os ns id index p added → block_count ns ≡ block_count g.objects + (if is_some (change_in g id index) then 0 else 1)
put_block_count g os ns count id index p added same group h =
    let change = each-at IsChange id h.c os group.each h.is in
    subst (λ (xs : Objects). block_count ns ≡ block_count xs + (if is_some (value_at (blocks_of (value_at xs id)) index) then 0 else 1)) same
    (rw h.put (block_count-change os id index p h.c group.rising change.rising h.is))

pub put_object_count : (g : Changes) (os ns : Objects) (count id index : ℕ) (p : Ptr) (added : Bool) → os ≡ g.objects → IsGroup os count → IsPut os ns id index p added → length ns ≡ length g.objects
put_object_count g os ns count id index p added same group h =
    subst (λ (xs : Objects). length ns ≡ length xs) same (rw h.put (object_count-change os id index p h.c group.rising h.is))

abbrev pub one_if : Bool → ℕ
one_if b = if b then 1 else 0

abbrev one_if_not : Bool → ℕ
one_if_not b = if b then 0 else 1

one_more : (b : Bool) → one_if (not b) ≡ one_if_not b
one_more true = refl
one_more false = refl

pub put_group : (os ns : Objects) (count more id index : ℕ) (p : Ptr) (added : Bool) → more ≡ one_if added → IsGroup os count → IsPut os ns id index p added → IsGroup ns (count + more)
put_group os ns count more id index p added more_is group h =
    let n = more_is ∙ (ap one_if h.added_is ∙ one_more (is_some (value_at (blocks_of (value_at os id)) index))) in
    rw (n, h.put) (is_group-change os count id index p h.r h.c group h.is h.there)

pub new_record : (c : ObjectChange) (r : Option ObjRec) → c.object ≡ r → c.blocks ≡ [] → c ≡ with_record None r
new_record c None object blocks = ap₂ (λ (o : Option ObjRec) (b : List (ℕ × Ptr)). change_from o b) object blocks
new_record c (Some r) object blocks = ap₂ (λ (o : Option ObjRec) (b : List (ℕ × Ptr)). change_from o b) object blocks

pub is_changed : (os : Objects) (id : ℕ) (c : ObjectChange) → value_at os id ≡ Some c → IsTrue (is_some (option_map (λ c. c.object) (value_at os id)))
is_changed os id c is = rw is refl

-- the record of an object, as a group has it
pub record_blocks : (g : Changes) (os ns : Objects) (id : ℕ) (r : Option ObjRec) → os ≡ g.objects → ns ≡ put_value os id (with_record (value_at os id) r) → (i k : ℕ) → value_at (blocks_of (value_at ns i)) k ≡ (if eqb id i && not (is_some r) then None else change_in g i k)
record_blocks g os ns id r same put i k =
    subst (λ (xs : Objects). value_at (blocks_of (value_at ns i)) k ≡ (if eqb id i && not (is_some r) then None else value_at (blocks_of (value_at xs i)) k)) same
    (rw put (blocks-record os id r i k))

pub record_objects : (g : Changes) (os ns : Objects) (id : ℕ) (r : Option ObjRec) → os ≡ g.objects → ns ≡ put_value os id (with_record (value_at os id) r) → (i : ℕ) → option_map (λ c. c.object) (value_at ns i) ≡ (if eqb id i then Some r else object_in g i)
record_objects g os ns id r same put i =
    subst (λ (xs : Objects). option_map (λ c. c.object) (value_at ns i) ≡ (if eqb id i then Some r else option_map (λ c. c.object) (value_at xs i))) same
    (rw put (objects-record os id r i))

pub record_block_count : (g : Changes) (os ns : Objects) (id : ℕ) (r : Option ObjRec) → os ≡ g.objects → IsRising os → ns ≡ put_value os id (with_record (value_at os id) r) → block_count ns + (if is_some r then 0 else length (changes_in g id)) ≡ block_count g.objects
record_block_count g os ns id r same up put =
    subst (λ (xs : Objects). block_count ns + (if is_some r then 0 else length (blocks_of (value_at xs id))) ≡ block_count xs) same
    (rw put (block_count-record os id r up))

pub record_object_count : (g : Changes) (os ns : Objects) (id : ℕ) (r : Option ObjRec) → os ≡ g.objects → IsRising os → ns ≡ put_value os id (with_record (value_at os id) r) → length ns ≡ length g.objects + (if is_some (object_in g id) then 0 else 1)
record_object_count g os ns id r same up put =
    subst (λ (xs : Objects). length ns ≡ length xs + (if is_some (option_map (λ c. c.object) (value_at xs id)) then 0 else 1)) same
    (rw put (object_count-record os id r up))

there_of : (c : ObjectChange) (x : Option ObjRec) → c.object ≡ x → IsChange c → 0 < length c.blocks → (r : ObjRec) × (Some c.object ≡ Some (Some r))
there_of c None is change some = absurd (omega (arith, some, ap (λ (b : List (ℕ × Ptr)). length b) (change.dropped is)))
there_of c (Some r) is change some = (r, ap (λ (x : Option ObjRec). Some x) is)

-- an object with changed blocks is there
pub kept_record : (o : Option ObjectChange) → ((c : ObjectChange) → o ≡ Some c → IsChange c) → 0 < length (blocks_of o) → (r : ObjRec) × (option_map (λ c. c.object) o ≡ Some (Some r))
kept_record None each some = absurd (omega (arith, some))
kept_record (Some c) each some = there_of c c.object refl (each c refl) some
