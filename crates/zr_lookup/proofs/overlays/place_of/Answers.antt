use Rattle.std.proofs.Common.{rules}
use Rattle.std.proofs.lemmas.Fn.{always_returns_same}
use Rattle.zr_txg.proofs.Keyed.{search_found, search_missing}
use Rattle.zr_lookup.proofs.overlays.place_of.Goals as goal

pub returns-clause-found : goal.returns-clause-found
returns-clause-found c =
    search_found c.args.leaves.now c.args.index c.binary_search_by_key.result c.requires c.binary_search_by_key.ensures.bound
    (c.binary_search_by_key.ensures.position (λ e. e.0) (always_returns_same _ _ _ (λ a r f k. search rules)))

pub returns-clause-missing : goal.returns-clause-missing
returns-clause-missing c =
    search_missing c.args.leaves.now c.args.index c.binary_search_by_key.result c.requires c.binary_search_by_key.ensures.bound
    (c.binary_search_by_key.ensures.position (λ e. e.0) (always_returns_same _ _ _ (λ a r f k. search rules)))
