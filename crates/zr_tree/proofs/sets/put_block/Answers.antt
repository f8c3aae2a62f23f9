use Rattle.std.proofs.Common.{◌≡◌, ◌+◌, ◌-◌, ◌∙◌, ℕ, refl, sym, subst, arith}
use Rattle.zr_store.specs.Store.{IsBlockOf}
use Rattle.zr_tree.proofs.Holes.{open_hole, opened}
use Rattle.zr_tree.proofs.Wholes.{put_whole}
use Rattle.zr_tree.proofs.sets.put_block.Goals as goal

pub returns-then-are_holes-clause-puts : goal.returns-then-are_holes-clause-puts
returns-then-are_holes-clause-puts g c = λ s holds. record {
  stored = s;
  held = holds;
  is = record { opens = open_hole s 0 c.args.pointers.now (c.are_holes.ensures.0 c.if-are_holes.true); whole = tt; swaps = record { stored = λ weight. refl; kept = λ b out stored. refl } };
}

pub put-requires-clause-block : goal.put-requires-clause-block
put-requires-clause-block g c = λ lt.
    let below : c.args.below ≡ c.args.below + 1 - 1 = omega arith in
    subst (λ (n : ℕ). IsBlockOf n c.as_slice.result.now) below (subst (IsBlockOf c.args.below) (sym c.as_slice.ensures.value) c.in_ok-bytes.ensures.block)

pub returns-clause-puts : goal.returns-clause-puts
returns-clause-puts g c = λ s holds.
    let now = c.in_ok-b.ensures.ok s holds in
    let n = now.stored in
    let b = c.in_ok-b.b in
    let bytes = c.in_ok-bytes.bytes.items in
    let given : n.bytes b ≡ bytes = now.is.given ∙ c.as_slice.ensures.value in
    record {
      stored = n;
      held = now.held;
      is = record {
        opens = opened n 0 b bytes c.args.pointers.now given c.in_ok-bytes.ensures.pointers;
        whole = put_whole n c.args.below bytes c.as_slice.result.now b c.as_slice.ensures.value c.in_ok-bytes.ensures.block c.in_ok-b.ensures.pointer now.is.given;
        swaps = now.is.swaps;
      };
    }
