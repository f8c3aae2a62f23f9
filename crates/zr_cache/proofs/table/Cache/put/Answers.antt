use Rattle.std.proofs.Common.{◌≡◌, true, Result, Ok, Err, ap, sym, subst}
use Rattle.std.specs.Prelude.{OnOk, OnErr}
use Rattle.sha2.specs.Sha256.{sha256}
use Rattle.lru.specs.LruCache.{LruCache, lru_cache, put_entries}
use Rattle.zr_bptr.specs.declared.Bptr.{Bptr}
use Rattle.zr_cache.specs.declared.entry.Key.{Key}
use Rattle.zr_cache.specs.declared.entry.Block.{Block}
use Rattle.zr_cache.specs.contracts.entry.KeyPartialEq.TheImpl as keys
use Rattle.zr_cache.specs.Sums.{HaveSums}
use Rattle.zr_cache.specs.Entries.{is_first}
use Rattle.zr_cache.proofs.Keeping.{holds-put}
use Rattle.zr_cache.proofs.Recent.{first_put}
use Rattle.zr_cache.proofs.table.Cache.put.Goals as goal

-- done or not, each block has its sum
sums_after : {T E : Type 0} (r : Result T E) (old new : LruCache Key Block) (b : Bptr) (x : Block) → HaveSums old.entries → sha256 x.bytes.items ≡ b.sum
    → OnOk r (new ≡ lru_cache (put_entries keys.ghosts.eq old (record { pointer = b }) x) old.cap) → OnErr r (new ≡ old) → HaveSums new.entries
sums_after (Ok done) old new b x sums sum ok err = holds-put (λ b bytes runs. sha256 bytes ≡ b.sum) old new.entries sums b x (ap (λ l. l.entries) ok) sum
sums_after (Err e) old new b x sums sum ok err = subst (λ (l : LruCache Key Block). HaveSums l.entries) (sym err) sums

pub invariant_of-self : goal.invariant_of-self
invariant_of-self c = record {
  sums = sums_after c.put.result c.args.self.now.blocks c.put.new.self c.args.b.now (record { bytes = c.args.bytes; runs = c.args.runs }) c.args.self.now.sums c.requires c.put.ensures.entries c.put.ensures.err;
}

pub returns-clause-recent : goal.returns-clause-recent
returns-clause-recent c =
    subst (λ (l : LruCache Key Block). is_first c.args.b.now l.entries ≡ true) (sym c.in_ok-put.ensures.entries)
    (first_put c.args.self.now.blocks c.args.b.now (record { bytes = c.args.bytes; runs = c.args.runs }))
