use Rattle.std.proofs.Common.{◌≡◌, ◌∙◌, ◌+◌, ◌≤◌, ℕ, Bool, true, false, nat_lt, refl, arith, ap}
use Rattle.std.specs.List.{list_any}
use mir.Val.{bool_byte}
use Rattle.zr_rules.specs.Places.{one_if}
use Rattle.zr_chain.specs.Visits.{hop_hits}
use Rattle.zr_space.specs.Freeing.{is_hop_at}
use Rattle.zr_space.proofs.Freeing.{any_hop, count_more}
use Rattle.zr_space.proofs.freeable.hops_in.Goals as goal

a_bit : (b : Bool) → bool_byte b ≡ one_if b
a_bit true = refl
a_bit false = refl

most_one : (b : Bool) → one_if b ≤ 1
most_one true = omega arith
most_one false = omega arith

pub loop-k-preserved : goal.loop-k-preserved
loop-k-preserved c =
    let more = count_more (λ j. nat_lt 0 (hop_hits c.args.visits.now c.args.dev (c.args.entry.src + j))) c.loop-k.k in
    let here = any_hop c.args.dev (c.args.entry.src + c.loop-k.k) c.args.visits.now in
    let has : c.has_hop.result ≡ nat_lt 0 (hop_hits c.args.visits.now c.args.dev (c.args.entry.src + c.loop-k.k)) = c.has_hop.ensures ∙ (ap (λ (n : ℕ). list_any (is_hop_at c.args.dev (c.args.entry.src + n)) c.args.visits.now) c.from.ensures ∙ here) in
    let bit : c.from-count.result ≡ one_if c.has_hop.result = c.from-count.ensures ∙ a_bit c.has_hop.result in
    let own : c.from-count.result ≡ one_if (nat_lt 0 (hop_hits c.args.visits.now c.args.dev (c.args.entry.src + c.loop-k.k))) = bit ∙ ap one_if has in
    let most = most_one c.has_hop.result in
    record {
      so_far = omega (arith, more, own, c.loop-k.invariant.so_far);
      few = omega (arith, bit, most, c.loop-k.invariant.few);
    }
