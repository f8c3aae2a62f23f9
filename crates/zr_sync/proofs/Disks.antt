-- Work on the disks alone, one step after another.
use Rattle.std.proofs.Common.{ℕ, zero, suc, ◌-◌, List, Result, Ok, Err, inl, inr}
use Rattle.zr_shelf.specs.Counts.{Counts}
use Rattle.zr_shelf.specs.Disks.{PendingWrite}
use Rattle.zr_shelf.specs.Doings.{WritesOnly}
use Rattle.zr_shelf.specs.Moments.{World, IsStill}
use Rattle.zr_shelf.proofs.Doings.{does_writes}
use Rattle.zr_shelf.proofs.Guards.{does_nothing, does_more, does_still, does_flush, does_weaker}
use Rattle.zr_shelf.proofs.Runs.{still}
use Rattle.zr_label.specs.declared.root.Label.{Label}
use Rattle.zr_label.specs.declared.root.Uber.{Uber}
use Rattle.zr_scan.specs.declared.error.ScanErr.{ScanErr}
use Rattle.zr_slots.specs.Phases.{IsFlushed, Publishes, Prepares, PutsLast, SettlesLabel}
use Rattle.zr_sync.specs.declared.open.OpenPool.{OpenPool}
use Rattle.zr_sync.specs.Writes.{WorksOnDisks, WritesMetadata, WritesTrees, WritesBlocks}

pub works_nothing : (w : World) → WorksOnDisks w w
works_nothing w = does_nothing (λ _. Unit {0}) w

pub works_more : (a b c : World) → WorksOnDisks a b → WorksOnDisks b c → WorksOnDisks a c
works_more a b c p q = does_more (λ _. Unit {0}) a b c p q

pub works_still : (a b : World) → IsStill a b → WorksOnDisks a b
works_still a b still = does_still (λ _. Unit {0}) a b still

pub works_writes : (allowed : PendingWrite → Type 0) (a b : World) → WritesOnly allowed a b → WorksOnDisks a b
works_writes allowed a b writes = does_weaker allowed (λ _. Unit {0}) a b (λ w may. tt) (does_writes allowed a b writes)

pub works_flush : (a b : World) → IsFlushed a b → WorksOnDisks a b
works_flush a b flushed = does_flush (λ _. Unit {0}) (Ok tt) a b flushed

-- ---- what the layers below did

pub works_published : (sizes both all : List ℕ) (u : Uber) (r : Result (Unit {0}) ScanErr) (a b : World) → Publishes sizes both all u r a b → WorksOnDisks a b
works_published sizes both all u (Ok done) a b p =
    works_more a p.first b (works_flush a p.first p.before)
    (works_more p.first p.half b (works_writes _ p.first p.half p.wrote)
    (works_more p.half p.second b (works_flush p.half p.second p.between)
    (works_more p.second p.whole b (works_writes _ p.second p.whole p.rest) (works_flush p.whole b p.behind))))
works_published sizes both all u (Err e) a b (inl still) = works_still a b still
works_published sizes both all u (Err e) a b (inr (inl p)) = works_more a p.first b (works_flush a p.first p.before) (works_writes _ p.first b p.wrote)
works_published sizes both all u (Err e) a b (inr (inr p)) =
    works_more a p.first b (works_flush a p.first p.before)
    (works_more p.first p.half b (works_writes _ p.first p.half p.wrote)
    (works_more p.half p.second b (works_flush p.half p.second p.between) (works_writes _ p.second b p.rest)))

works_settled : (size slot n : ℕ) (l : Label) (a b : World) → SettlesLabel size slot n l (Ok tt) a b → WorksOnDisks a b
works_settled size slot n l a b (put, wrote, flush, stands) = works_more a put b (works_writes _ a put wrote) (works_flush put b flush)

works_last : (size slot k : ℕ) (l : Label) (a b : World) → PutsLast size slot k l a b → WorksOnDisks a b
works_last size slot zero l a b is = works_still a b (still a b is)
works_last size slot (suc k) l a b (mid, last, step) = works_more a mid b (works_last size slot k l a mid last) (works_settled size slot (3 - k) l mid b step)

pub works_prepared : (size slot : ℕ) (l : Label) (r : Result (Unit {0}) ScanErr) (a b : World) → Prepares size slot l r a b → WorksOnDisks a b
works_prepared size slot l (Ok done) a b p =
    works_more a p.cleared b (works_writes _ a p.cleared p.rings)
    (works_more p.cleared p.first b (works_flush p.cleared p.first p.between) (works_last size slot 4 l p.first b p.labels))
works_prepared size slot l (Err e) a b (inl p) = works_writes _ a b p
works_prepared size slot l (Err e) a b (inr p) =
    works_more a p.cleared b (works_writes _ a p.cleared p.rings)
    (works_more p.cleared p.first b (works_flush p.cleared p.first p.between) (works_more p.first p.mid b (works_last size slot p.k l p.first p.mid p.last) (works_writes _ p.mid b p.labels)))

-- ---- steps on a pool

pub works_metadata : (n1 n2 : List ℕ) (c1 c2 : Counts) (t1 t2 : Type 0) (a b : World) (x y : OpenPool) → t1 → WritesMetadata n1 n2 c1 c2 t1 t2 a b x y → WorksOnDisks a b
works_metadata n1 n2 c1 c2 t1 t2 a b x y told p = works_writes _ a b (p.goes.written told)

pub works_trees : (n1 n2 : List ℕ) (c1 c2 : Counts) (t1 t2 : Type 0) (a b : World) (x y : OpenPool) → t1 → WritesTrees n1 n2 c1 c2 t1 t2 a b x y → WorksOnDisks a b
works_trees n1 n2 c1 c2 t1 t2 a b x y told p = works_writes _ a b (p.goes.written told)

pub works_blocks : (n1 n2 : List ℕ) (c1 c2 : Counts) (t1 t2 : Type 0) (a b : World) (x y : OpenPool) → t1 → WritesBlocks n1 n2 c1 c2 t1 t2 a b x y → WorksOnDisks a b
works_blocks n1 n2 c1 c2 t1 t2 a b x y told p = works_writes _ a b (p.goes.written told)
