-- Two keys are one where `==` says so.
use Rattle.std.proofs.Common.{◌≡◌, true, rules}
use Rattle.zr_bptr.specs.declared.Bptr.{Bptr}
use Rattle.zr_cache.specs.declared.entry.Key.{Key}
use Rattle.zr_cache.specs.contracts.entry.KeyPartialEq.TheImpl as keys
use Rattle.zr_cache.specs.Entries.{is_key}

pub same_key : (k j : Key) → keys.ghosts.eq k j ≡ true → k ≡ j
same_key k j h = search rules

pub own_key : (k : Key) → keys.ghosts.eq k k ≡ true
own_key k = search rules

pub pointer_of_key : (b : Bptr) (k : Key) → is_key b k ≡ true → k.pointer ≡ b
pointer_of_key b k h = search rules
