use Rattle.std.proofs.Common.{rules, ◌≡◌, ◌∙◌, List, ℕ, length, ap, arith}
use Rattle.zr_meta.proofs.Fronts.{words_small}
use Rattle.zr_root.proofs.Standing.{has_words, has_none}
use Rattle.std.proofs.Common.{subst, ◌++◌}
use Rattle.zr_bptr.specs.declared.Tree.{Tree}
use Rattle.zr_tree.specs.Trees.{tree_reach}
use Rattle.zr_root.specs.Streams.{HasBytes}
use Rattle.zr_import.specs.Units.{MarksAll, Meets}
use Rattle.zr_import.proofs.Reading.{stream_tree, stream_some, no_words}
use Rattle.zr_import.proofs.heads.read_stream.Goals as goal

pub overflow_mul-stream : goal.overflow_mul-stream
overflow_mul-stream g c = let small = words_small c.args.stream.now.words c.args.stream.now.tree.height c.args.stream.now.tree.root c.requires in omega (arith, small)

pub read_bytes-requires-clause-len : goal.read_bytes-requires-clause-len
read_bytes-requires-clause-len g c = let small = words_small c.args.stream.now.words c.args.stream.now.tree.height c.args.stream.now.tree.root c.requires in omega (arith, small)

pub returns-clause-count : goal.returns-clause-count
returns-clause-count g c =
    let len = ap (λ (xs : List ℕ). length xs) c.as_slice.ensures.value ∙ c.in_ok-bytes.ensures.len in
    (c.in_ok-ns.ensures.words c.args.stream.now.words len).1

pub read_bytes-requires-clause-some : goal.read_bytes-requires-clause-some
read_bytes-requires-clause-some g c = let some = stream_some c.args.stream.now c.in-At.root c.in-At.is c.requires in omega (arith, some)

pub returns-clause-marks : goal.returns-clause-marks
returns-clause-marks g c = λ s holds. subst (λ (t : Tree). MarksAll Meets c.args.txg c.args.marks.now c.read_bytes.new.marks (tree_reach s t)) (stream_tree c.args.stream.now c.in-At.root c.in-At.is c.requires) (c.in_ok-bytes.ensures.marks s holds)

pub returns-clause-met : goal.returns-clause-met
returns-clause-met g c = λ s holds. subst (λ (t : Tree). c.read_bytes.new.met.items ≡ c.args.met.now.items ++ tree_reach s t) (stream_tree c.args.stream.now c.in-At.root c.in-At.is c.requires) (c.in_ok-bytes.ensures.met s holds)

pub returns-clause-words : goal.returns-clause-words
returns-clause-words g c = λ s holds.
    let len = ap (λ (xs : List ℕ). length xs) c.as_slice.ensures.value ∙ c.in_ok-bytes.ensures.len in
    let bytes = subst (λ (t : Tree). HasBytes s t c.in_ok-bytes.bytes.items) (stream_tree c.args.stream.now c.in-At.root c.in-At.is c.requires) (c.in_ok-bytes.ensures.bytes s holds) in
    has_words s c.args.stream.now c.in_ok-ns.ns.items c.in_ok-bytes.bytes.items c.as_slice.result.now c.as_slice.ensures.value (c.in_ok-ns.ensures.words c.args.stream.now.words len) bytes

pub returns-in_default-clause-words : goal.returns-in_default-clause-words
returns-in_default-clause-words g c = λ s holds.
    let long : length c.new.result.items ≡ 0 = search rules in
    has_none s c.args.stream.now c.new.result.items (no_words c.args.stream.now c.in_default.not-At c.requires) c.requires long
