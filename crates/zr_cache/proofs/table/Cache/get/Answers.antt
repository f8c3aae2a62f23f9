use Rattle.std.proofs.Common.{◌≡◌, List, true, rules, ◌∙◌, ap, sym, subst}
use Rattle.sha2.specs.Sha256.{sha256}
use Rattle.lru.specs.LruCache.{promoted}
use Rattle.zr_cache.specs.Entries.{entries, is_first, is_key}
use Rattle.zr_cache.specs.Sums.{Entry}
use Rattle.zr_cache.proofs.Recent.{first_promoted}
use Rattle.zr_cache.proofs.Keeping.{holds-promoted, found-block}
use Rattle.zr_cache.proofs.table.Cache.get.Goals as goal

pub invariant_of-self : goal.invariant_of-self
invariant_of-self c =
    let is : c.get.follows.lender-at-none.entries ≡ promoted (is_key c.args.b.now) (entries c.args.self.now) = search rules in
    record { sums = holds-promoted (λ b bytes runs. sha256 bytes ≡ b.sum) (entries c.args.self.now) c.get.follows.lender-at-none.entries c.args.self.now.sums c.args.b.now is }

pub invariant_of-self-in-None : goal.invariant_of-self-in-None
invariant_of-self-in-None c =
    let is : c.get.follows.lender-at-none.entries ≡ promoted (is_key c.args.b.now) (entries c.args.self.now) = search rules in
    record { sums = holds-promoted (λ b bytes runs. sha256 bytes ≡ b.sum) (entries c.args.self.now) c.get.follows.lender-at-none.entries c.args.self.now.sums c.args.b.now is }

pub returns-in_ok-from_slice-in-Some-clause-sum : goal.returns-in_ok-from_slice-in-Some-clause-sum
returns-in_ok-from_slice-in-Some-clause-sum c =
    let sum = found-block (λ b bytes runs. sha256 bytes ≡ b.sum) (entries c.args.self.now) (entries c.args.self.now) c.args.self.now.sums c.args.b.now c.in-Some.block.now (sym c.in-Some.ensures.value) in
    ap sha256 (c.in_ok-from_slice-in-Some.ensures.items ∙ c.as_slice.ensures.value) ∙ sum

pub returns-in_ok-from_slice-in-Some-clause-recent : goal.returns-in_ok-from_slice-in-Some-clause-recent
returns-in_ok-from_slice-in-Some-clause-recent c =
    let is : c.get.follows.lender-at-none.entries ≡ promoted (is_key c.args.b.now) (entries c.args.self.now) = search rules in
    subst (λ (es : List Entry). is_first c.args.b.now es ≡ true) (sym is) (first_promoted c.args.b.now (entries c.args.self.now) c.in-Some.block.now (sym c.in-Some.ensures.value))
