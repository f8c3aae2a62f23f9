-- A line works in one group, step by step.
use Rattle.std.proofs.Common.{◌≡◌, ℕ, ◌+◌, Bool, false, List, Option, Some, None, inl, inr, refl, sym, ◌∙◌, ap, subst}
use Rattle.std.specs.Prelude.{IfSome, if◌then◌else◌}
use Rattle.zr_label.specs.declared.root.Uber.{Uber}
use Rattle.zr_model.specs.Objects.{Objects}
use Rattle.zr_shelf.proofs.Doings.{writes_more, writes_nothing}
use Rattle.zr_shelf.specs.Counts.{Counts}
use Rattle.zr_shelf.specs.Doings.{WritesOnly}
use Rattle.zr_shelf.specs.Moments.{World}
use Rattle.zr_sync.proofs.Regrouping.{blocks_leave}
use Rattle.zr_sync.proofs.Retelling.{group_leaves, trees_told}
use Rattle.zr_sync.specs.Commits.{IsNextRoot, IsShownFrom, IsShownInPart, PublishesRoot, last_reset}
use Rattle.zr_sync.specs.Leads.{CommitsObjects, LeadsTo}
use Rattle.zr_sync.specs.Pools.{IsOpen}
use Rattle.zr_sync.specs.Trees.{HasLastTrees}
use Rattle.zr_sync.specs.Trees.Stage.{Had}
use Rattle.zr_sync.specs.Writes.{WritesBlocks, WritesIntoFree}
use Rattle.zr_sync.specs.declared.open.OpenPool.{OpenPool}
use Rattle.zr_sync.specs.declared.open.Table.{Table}
use Rattle.zr_vdev.proofs.Follows.{narrower, others_itself, others_more}
use Rattle.zr_vdev.specs.Alike.{CopiesStand}
use Rattle.zr_vdev.specs.Stores.{IsWriteInto, KeepsOthers}
use Rattle.zr_vdev.specs.declared.kind.Kind.TheVariants.{Block}
use Rattle.zr_lines.proofs.Pools.{same_by, same_more}
use Rattle.zr_sync.specs.Copies.{HasCopies}
use Rattle.zr_sync.specs.Ends.{EndsCommitted}
use Rattle.zr_lines.specs.Stops.{StaysInGroup, StaysInOneGroup, WritesInOneGroup}

-- ---- in the open group

-- what is written behind a step into free units was free before it
into_more : (x y : OpenPool) (w1 w2 w3 : World) → y.table ≡ x.table → KeepsOthers Block x.space y.space → WritesIntoFree x w1 w2 → WritesIntoFree y w2 w3 → WritesIntoFree x w1 w3
into_more x y w1 w2 w3 table keeps first second =
    writes_more (IsWriteInto Block x.table.slots x.space) w1 w2 w3 first
    (narrower Block x.table.slots x.space y.space keeps w2 w3 (subst (λ (t : Table). WritesOnly (IsWriteInto Block t.slots y.space) w2 w3) table second))

-- nothing is done
pub in_group_itself : (x : OpenPool) (w : World) → StaysInGroup x x w w
in_group_itself x w = record { written = writes_nothing (IsWriteInto Block x.table.slots x.space) w; space = others_itself Block x.space; root = record { last = refl; guid = refl; table = refl }; trees = λ h. h; copies = λ h. h }

-- the group alone changes
pub in_group_alone : {x y : OpenPool} (w : World) → y ≡ record x { group = y.group } → StaysInGroup x y w w
in_group_alone {x} {y} w rest = record {
  written = writes_nothing (IsWriteInto Block x.table.slots x.space) w;
  space = subst (λ (o : OpenPool). KeepsOthers Block x.space o.space) (sym rest) (others_itself Block x.space);
  root = record { last = ap (λ (o : OpenPool). o.last) rest; guid = ap (λ (o : OpenPool). o.guid) rest; table = ap (λ (o : OpenPool). o.table) rest };
  trees = group_leaves (Unit {0}) w.now.seen x y rest;
  copies = λ h. subst (λ (o : OpenPool). HasCopies w.now.seen o) (sym rest) h;
}

-- blocks of objects are read, put or freed
pub in_group_by : {n1 n2 : List ℕ} {c1 c2 : Counts} {t1 t2 : Type 0} {w1 w2 : World} {x y : OpenPool} → IsOpen n1 x → WritesBlocks n1 n2 c1 c2 t1 t2 w1 w2 x y → t1 → StaysInGroup x y w1 w2
in_group_by {n1} {n2} {c1} {c2} {t1} {t2} {w1} {w2} {x} {y} ready p told = record {
  written = p.goes.written told;
  space = p.goes.space;
  root = record { last = ap (λ (o : OpenPool). o.last) p.rest; guid = ap (λ (o : OpenPool). o.guid) p.rest; table = ap (λ (o : OpenPool). o.table) p.rest };
  trees = λ h. trees_told Had t2 (Unit {0}) w2.now.seen y tt (blocks_leave n1 n2 c1 c2 t1 t2 w1 w2 x y ready p (trees_told Had (Unit {0}) t1 w1.now.seen x told h));
  copies = λ h. subst (λ (t : Table). CopiesStand w2.now.seen t.slots y.space) (sym (ap (λ (o : OpenPool). o.table) p.rest)) (p.goes.copies told h);
}

pub in_group_more : {x y z : OpenPool} {w1 w2 w3 : World} → StaysInGroup x y w1 w2 → StaysInGroup y z w2 w3 → StaysInGroup x z w1 w3
in_group_more {x} {y} {z} {w1} {w2} {w3} p q = record {
  written = into_more x y w1 w2 w3 p.root.table p.space p.written q.written;
  space = others_more Block x.space y.space z.space p.space q.space;
  root = record { last = q.root.last ∙ p.root.last; guid = q.root.guid ∙ p.root.guid; table = q.root.table ∙ p.root.table };
  trees = λ h. q.trees (p.trees h);
  copies = λ h. q.copies (p.copies h);
}

-- ---- in one group

-- the open group is committed, and the line goes on in the next one
pub next_group : {n : List ℕ} {objects : Objects} {x y z : OpenPool} {w1 w2 w3 : World} → EndsCommitted n false x y objects w1 w2 → StaysInGroup y z w2 w3 → StaysInOneGroup n objects x z w1 w3
next_group {y = y} {w2 = w2} ends stays = inr (record { next = y; start = w2; commits = ends; stays = stays })

-- a line, and what is done behind it
pub one_group_more : {n : List ℕ} {objects : Objects} {x y z : OpenPool} {w1 w2 w3 : World} → StaysInOneGroup n objects x y w1 w2 → StaysInGroup y z w2 w3 → StaysInOneGroup n objects x z w1 w3
one_group_more (inl stays) more = inl (in_group_more stays more)
one_group_more (inr behind) more = next_group behind.commits (in_group_more behind.stays more)

-- and where that stops
pub one_group_writes : {n : List ℕ} {objects : Objects} {x y : OpenPool} {w1 w2 w3 : World} → StaysInOneGroup n objects x y w1 w2 → WritesIntoFree y w2 w3 → WritesInOneGroup n objects x w1 w3
one_group_writes {x = x} {y = y} {w1 = w1} {w2 = w2} {w3 = w3} (inl stays) more = inl (into_more x y w1 w2 w3 stays.root.table stays.space stays.written more)
one_group_writes {y = y} {w2 = w2} {w3 = w3} (inr behind) more =
    let s = behind.stays in
    inr (inr (record { next = behind.next; start = behind.start; commits = behind.commits; written = into_more behind.next y behind.start w2 w3 s.root.table s.space s.written more }))

-- a line that was answered
pub answered_writes : {n : List ℕ} {objects : Objects} {x y : OpenPool} {w1 w2 : World} → StaysInOneGroup n objects x y w1 w2 → WritesInOneGroup n objects x w1 w2
answered_writes (inl stays) = inl stays.written
answered_writes (inr behind) = inr (inr (record { next = behind.next; start = behind.start; commits = behind.commits; written = behind.stays.written }))

-- ---- a line behind a read

each_some : {A : Type 0} (P Q : A → Type 0) (o : Option A) → ((a : A) → P a → Q a) → IfSome o P → IfSome o Q
each_some P Q None goes h = tt
each_some P Q (Some a) goes h = goes a h

module _ {n1 n2 : List ℕ} {c1 c2 : Counts} {t1 t2 : Type 0} {w1 w2 : World} {x y : OpenPool} (ready : IsOpen n1 x) (p : WritesBlocks n1 n2 c1 c2 t1 t2 w1 w2 x y) where
  shown_before : (u : Uber) (a b : World) → IsShownFrom n2 y u a b → IsShownFrom n1 x u a b
  shown_before u a b h =
      let is : IsShownFrom n1 (record x { space = y.space; cache = y.cache; group = y.group }) u a b =
      subst (λ (o : OpenPool). IsShownFrom n1 o u a b) p.rest (subst (λ (n : List ℕ). IsShownFrom n y u a b) p.goes.sizes h) in
      record { both = is.both; all = is.all; in_both = is.in_both; all_both = is.all_both; in_all = is.in_all; all_all = is.all_all; published = is.published }

  part_before : (u : Uber) (a b : World) → IsShownInPart n2 y u a b → IsShownInPart n1 x u a b
  part_before u a b h =
      let is : IsShownInPart n1 (record x { space = y.space; cache = y.cache; group = y.group }) u a b =
      subst (λ (o : OpenPool). IsShownInPart n1 o u a b) p.rest (subst (λ (n : List ℕ). IsShownInPart n y u a b) p.goes.sizes h) in
      record { both = is.both; all = is.all; in_both = is.in_both; all_both = is.all_both; in_all = is.in_all; all_all = is.all_all; published = is.published }

  publishes_before : (u : Uber) (a b : World) → PublishesRoot n2 y u a b → PublishesRoot n1 x u a b
  publishes_before u a b (inl unmoved) = inl unmoved
  publishes_before u a b (inr (inl part)) = inr (inl (part_before u a b part))
  publishes_before u a b (inr (inr shown)) = inr (inr (shown_before u a b shown))

  next_before : (reset : Bool) (u : Uber) → IsNextRoot y reset u → IsNextRoot x reset u
  next_before reset u h =
      let is : IsNextRoot (record x { space = y.space; cache = y.cache; group = y.group }) reset u = subst (λ (o : OpenPool). IsNextRoot o reset u) p.rest h in
      record {
        txg = is.txg ∙ p.txg;
        version = is.version;
        guid = is.guid;
        name = is.name;
        count = is.count;
        rows = is.rows;
        reset_is = subst (λ (n : ℕ). u.reset ≡ (if reset then n else last_reset x.last n)) p.txg is.reset_is;
      }

  into_before : t1 → (w : World) → WritesIntoFree y w2 w → WritesIntoFree x w1 w
  into_before told w wrote = into_more x y w1 w2 w (ap (λ (o : OpenPool). o.table) p.rest) p.goes.space (p.goes.written told) wrote

  leads_before : (A B : Type 0) → (B → A) → (disks : List (List ℕ)) (u : Uber) (objects : Objects) → LeadsTo A n2 disks y u objects → LeadsTo B n1 disks x u objects
  leads_before A B more disks u objects h = record {
    next = h.next;
    ready = subst (λ (n : List ℕ). IsOpen n h.next) p.goes.sizes h.ready;
    same = same_more x y h.next (same_by p) h.same;
    last = h.last;
    empty = h.empty;
    head = h.head;
    holds = h.holds;
    moves = λ told. h.moves (more told);
  }

  -- a commit that stopped
  pub commits_before : t1 → {reset : Bool} {objects : Objects} {w : World} → CommitsObjects (HasLastTrees w2.now.seen y) n2 y reset objects w2 w → CommitsObjects (HasLastTrees w1.now.seen x) n1 x reset objects w1 w
  commits_before told (mid, wrote, inl unmoved) = (mid, into_before told mid wrote, inl unmoved)
  commits_before told {reset} {objects} {w} (mid, wrote, inr (u, lawful, next, leads, published)) =
      let leads_now = leads_before (HasLastTrees w2.now.seen y) (HasLastTrees w1.now.seen x) (in_group_by ready p told).trees mid.now.seen u objects leads in
      (mid, into_before told mid wrote, inr (u, lawful, next_before reset u next, leads_now, publishes_before u mid w published))

  -- one that is done
  ends_before : t1 → {reset : Bool} {z : OpenPool} {objects : Objects} {w : World} → EndsCommitted n2 reset y z objects w2 w → EndsCommitted n1 reset x z objects w1 w
  ends_before told {reset} {z} {objects} {w} h = record {
    pool = subst (λ (n : List ℕ). IsOpen n z) p.goes.sizes h.pool;
    same = same_more x y z (same_by p) h.same;
    last = each_some (IsNextRoot y reset) (IsNextRoot x reset) z.last (next_before reset) h.last;
    txg = h.txg ∙ ap (λ (n : ℕ). n + 1) p.txg;
    written = each_some (λ u. (mid : World) × WritesIntoFree y w2 mid × IsShownFrom n2 y u mid w) (λ u. (mid : World) × WritesIntoFree x w1 mid × IsShownFrom n1 x u mid w) z.last
        (λ u wrote. (wrote.0, into_before told wrote.0 wrote.1, shown_before u wrote.0 w wrote.2)) h.written;
    ends = record { trees = h.ends.trees; all = h.ends.all; blocks = others_more Block x.space y.space h.ends.trees p.goes.space h.ends.blocks; metadata = h.ends.metadata; ended = h.ends.ended };
    empty = h.empty;
    stands = h.stands;
    safe = h.safe;
    stays = h.stays;
    trees = λ stood. h.trees ((in_group_by ready p told).trees stood);
    moves = λ stood. h.moves ((in_group_by ready p told).trees stood);
    copies = λ stood. h.copies ((in_group_by ready p told).copies stood);
  }

  pub one_group_before : t1 → {z : OpenPool} {objects : Objects} {w : World} → StaysInOneGroup n2 objects y z w2 w → StaysInOneGroup n1 objects x z w1 w
  one_group_before told (inl stays) = inl (in_group_more (in_group_by ready p told) stays)
  one_group_before told (inr behind) = next_group (ends_before told behind.commits) behind.stays

  pub writes_before : t1 → {objects : Objects} {w : World} → WritesInOneGroup n2 objects y w2 w → WritesInOneGroup n1 objects x w1 w
  writes_before told {w = w} (inl wrote) = inl (into_before told w wrote)
  writes_before told (inr (inl commits)) = inr (inl (commits_before told commits))
  writes_before told (inr (inr behind)) = inr (inr (record { next = behind.next; start = behind.start; commits = ends_before told behind.commits; written = behind.written }))
