use Rattle.std.proofs.Common.{◌≡◌, ◌*◌, length, ap, arith, rules, ◌∙◌, List, ℕ, Vec, Global}
use Rattle.std.proofs.lemmas.Result.{err_from_is_err_and}
use Rattle.zr_tree.specs.Trees.{tree_reach}
use Rattle.zr_root.proofs.Reading.{form_from, within_same}
use Rattle.zr_root.proofs.Standing.{no_stream, has_words, has_none, root_of}
use Rattle.zr_root.proofs.reads.read_stream.Goals as goal

pub returns-then-stream-eq0-clause-words : goal.returns-then-stream-eq0-clause-words
returns-then-stream-eq0-clause-words g c = λ s held.
    let long : length c.new.result.items ≡ 0 = search rules in
    has_none s c.args.stream.now c.new.result.items c.if-stream-eq0.true c.requires.stream long

pub read_bytes-requires : goal.read_bytes-requires
read_bytes-requires g c =
    let t = c.args.stream.now.tree in
    let root = root_of c.args.stream.now.words t.height t.root (omega (arith, c.if-stream-eq0.false)) c.requires.stream in
    search rules

pub returns-in_err-bytes-clause-errors : goal.returns-in_err-bytes-clause-errors
returns-in_err-bytes-clause-errors g c = λ s held.
    let e = c.in_err-bytes in
    let x = c.from_residual in
    let t = c.args.stream.now.tree in
    form_from {T = Vec ℕ Global} s (tree_reach s t) (tree_reach s t) _ _ x.result e.field-0.0 (err_from_is_err_and x.result x.ensures.1) (within_same (tree_reach s t))
    (λ b none. no_stream s c.args.stream.now (8 * c.args.stream.now.words) (omega arith) none) (e.ensures.errors s held)

pub returns-clause-words : goal.returns-clause-words
returns-clause-words g c = λ s held.
    let n = c.args.stream.now.words in
    let len = ap (λ (xs : List ℕ). length xs) c.as_slice.ensures.value ∙ c.in_ok-bytes.ensures.len in
    has_words s c.args.stream.now c.in_ok-ns.ns.items c.in_ok-bytes.bytes.items c.as_slice.result.now c.as_slice.ensures.value (c.in_ok-ns.ensures.words n (omega (arith, len))) (c.in_ok-bytes.ensures.bytes s held)
