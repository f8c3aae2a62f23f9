-- What a commit leaves, by what its clauses say.
use Rattle.std.proofs.Common.{◌≡◌, ℕ, ◌+◌, ◌<◌, List, [], Option, Some, None, refl, subst, arith}
use Rattle.std.specs.Prelude.{IfSome}
use Rattle.zr_label.specs.declared.root.Uber.{Uber}
use Rattle.zr_rules.specs.Space.{nothing_opened, opened_of}
use Rattle.zr_shelf.proofs.Doings.{flushed_at_rest}
use Rattle.zr_shelf.specs.Disks.{IsAtRest}
use Rattle.zr_shelf.specs.Moments.{World}
use Rattle.zr_sync.proofs.Ending.{own_directory}
use Rattle.zr_sync.specs.Commits.{IsShownFrom}
use Rattle.zr_sync.specs.Heads.{HasDirectory, HasHead, HasSafeHead}
use Rattle.zr_sync.specs.Pools.{IsAfter, IsOpen}
use Rattle.zr_sync.specs.Writes.{WritesIntoFree}
use Rattle.zr_sync.specs.declared.open.OpenPool.{OpenPool}
use Rattle.zr_sync.specs.Ends.{LeavesCommitted}

pub some_last : (o : Option Uber) (txg : ℕ) → IsAfter o txg → 1 < txg → (u : Uber) × (o ≡ Some u)
some_last None txg after more = absurd (omega (arith, after, more))
some_last (Some u) txg after more = (u, refl)

-- a commit ends with a flush
pub commit_rests : (n1 n2 : List ℕ) (x y : OpenPool) (w1 w2 : World) → IsOpen n1 x → IsOpen n2 y → y.group.txg ≡ x.group.txg + 1 → IfSome y.last (λ u. (mid : World) × WritesIntoFree x w1 mid × IsShownFrom n1 x u mid w2) → IsAtRest w2.now
commit_rests n1 n2 x y w1 w2 was ready txg written =
    let first = was.first in
    let root = some_last y.last y.group.txg ready.after (omega (arith, first, txg)) in
    let wrote = subst (λ (o : Option Uber). IfSome o (λ (u : Uber). (mid : World) × WritesIntoFree x w1 mid × IsShownFrom n1 x u mid w2)) root.1 written in
    let published = wrote.2.published in
    flushed_at_rest published.whole.now w2.now published.behind.step

-- the head leads to the directory
led_by : (disks : List (List ℕ)) (y : OpenPool) (o : Option Uber) → IfSome o (λ u. HasHead disks y u.root u.len) → IfSome o (λ u. HasDirectory disks y u.root u.len)
led_by disks y None has = tt
led_by disks y (Some u) has = own_directory disks y u.root u.len has

pub leaves_by : (n1 n2 : List ℕ) (x y : OpenPool) (w1 w2 : World) → IsOpen n1 x → IsOpen n2 y → y.group.txg ≡ x.group.txg + 1 → IfSome y.last (λ u. (mid : World) × WritesIntoFree x w1 mid × IsShownFrom n1 x u mid w2) → ((d : ℕ) → opened_of y.space d ≡ nothing_opened) → y.group.objects ≡ []
    → IfSome y.last (λ u. HasHead w2.now.seen y u.root u.len) → IfSome y.last (λ u. HasSafeHead w2.now.seen y u.root u.len) → LeavesCommitted y w2.now
leaves_by n1 n2 x y w1 w2 was ready txg written settled empty head safe = record { empty = empty; settled = settled; rest = commit_rests n1 n2 x y w1 w2 was ready txg written; head = led_by w2.now.seen y y.last head; safe = safe }
