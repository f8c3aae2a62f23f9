use Rattle.std.proofs.Common.{rules, ◌≡◌, ◌∙◌, ◌++◌, ◌<◌, List, ℕ, length, length-append, sym, ap, subst}
use Rattle.zr_meta.specs.declared.Stream.{Stream}
use Rattle.zr_tree.specs.Trees.{tree_reach}
use Rattle.zr_objset.proofs.Walking.{reach_more}
use Rattle.zr_import.specs.Units.{Meets}
use Rattle.zr_import.specs.Words.{HaveWords}
use Rattle.std.proofs.Common.{take, ◌+◌}
use Rattle.zr_import.proofs.Marking.{marks_more, words_next, count_next}
use Rattle.zr_import.proofs.heads.read_streams.Goals as goal

pub loop-stream-preserved : goal.loop-stream-preserved
loop-stream-preserved g c =
    let inv = c.loop-stream.invariant in
    let items = c.args.streams.now in
    let i = c.loop-stream.stream-index in
    let lt : i < length items = c.loop-stream-test.true in
    let own = c.in_ok-ns.ensures in
    let added : c.extend_from_slice.new.self.items ≡ c.loop-stream.all.items ++ c.in_ok-ns.ns.items = c.in_ok-extend_from_slice.ensures.items ∙ ap (λ (xs : List ℕ). c.loop-stream.all.items ++ xs) c.as_slice.ensures.value in
    record {
      follows = search rules;
      costs = search rules;
      same = search rules;
      count = count_next items i _ _ _ _ lt inv.count own.count (ap (λ (xs : List ℕ). length xs) added ∙ length-append c.loop-stream.all.items c.in_ok-ns.ns.items);
      marks = λ s holds. marks_more Meets c.args.txg (λ (t : Stream). tree_reach s t.tree) items i _ _ _ _ lt (inv.marks s holds) (own.marks s (inv.same s holds));
      met = λ s holds. reach_more (λ (t : Stream). tree_reach s t.tree) items i _ _ _ _ lt (inv.met s holds) (own.met s (inv.same s holds));
      words = λ s holds. subst (λ (xs : List ℕ). HaveWords s (take (i + 1) items) xs) (sym added) (words_next s items i _ _ _ lt (inv.words s holds) (own.words s (inv.same s holds)));
    }
