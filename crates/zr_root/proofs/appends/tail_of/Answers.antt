use Rattle.std.proofs.Common.{◌≡◌, ◌*◌, ◌%◌, ◌∙◌, ℕ, Vec, Global, sym, ap, subst, drop, Err, length, rules}
use Rattle.std.proofs.lemmas.Result.{err_from_is_err_and}
use Rattle.zr_base.specs.Words.{zeros}
use Rattle.zr_bptr.specs.declared.Ptr.{Ptr}
use Rattle.zr_store.specs.declared.StoreErr.{StoreErr}
use Rattle.zr_store.proofs.Causes.{cause_from}
use Rattle.zr_root.specs.declared.appends.Tail.{Tail}
use Rattle.zr_root.specs.Appends.{TellsOfStream}
use Rattle.zr_root.proofs.Tails.{told_tree, told_leaf, told_padding, told_from, tail_words, not_at}
use Rattle.zr_root.proofs.appends.tail_of.Goals as goal

pub returns-in_err-leaf-clause-errors : goal.returns-in_err-leaf-clause-errors
returns-in_err-leaf-clause-errors g c = λ s held.
    let e = c.in_err-leaf in
    let x = c.from_residual in
    told_from {T = Ptr} s c.args.stream.now x.result e.field-0.0 (err_from_is_err_and x.result x.ensures.1) (told_tree s c.args.stream.now (Err e.field-0.0) (e.ensures.errors s held))

pub returns-in_err-ends_full-clause-cause : goal.returns-in_err-ends_full-clause-cause
returns-in_err-ends_full-clause-cause g c =
    let e = c.in_err-ends_full in
    let x = c.from_residual-in_err-ends_full in
    cause_from {T = Unit {0}} x.result e.field-0.0 (err_from_is_err_and x.result x.ensures.1) (e.ensures.cause (g.B.Blocks.account c.args.store.now) (g.B.Blocks.account c.get.new.store))

pub returns-in_err-ends_full-clause-errors : goal.returns-in_err-ends_full-clause-errors
returns-in_err-ends_full-clause-errors g c = λ s held.
    let e = c.in_err-ends_full in
    let x = c.from_residual-in_err-ends_full in
    told_from {T = Unit {0}} s c.args.stream.now x.result e.field-0.0 (err_from_is_err_and x.result x.ensures.1) (e.ensures.errors s (sym (c.in_ok-leaf.ensures.leaf s held) ∙ not_at c.in_ok-leaf.leaf c.in_default.not-At))

pub returns-in_err-bytes-clause-errors : goal.returns-in_err-bytes-clause-errors
returns-in_err-bytes-clause-errors g c = λ s held.
    let e = c.in_err-bytes in
    let x = c.from_residual-in_err-bytes in
    let there = sym (c.in_ok-leaf.ensures.leaf s held) ∙ c.in-At.is in
    told_from {T = Vec ℕ Global} s c.args.stream.now x.result e.field-0.0 (err_from_is_err_and x.result x.ensures.1) (told_leaf s c.args.stream.now _ c.in-At.b (Err e.field-0.0) there (e.ensures.errors s (c.get.ensures.same s held)))

pub returns-then-not-is_padded-clause-errors : goal.returns-then-not-is_padded-clause-errors
returns-then-not-is_padded-clause-errors g c = λ s held.
    let stream = c.args.stream.now in
    let len = 8 * (stream.words % 512) in
    let xs = drop len c.as_slice.result.now in
    let there = sym (c.in_ok-leaf.ensures.leaf s held) ∙ c.in-At.is in
    let bad : ¬ (xs ≡ zeros (length xs)) = search rules in
    subst (λ (e : StoreErr). TellsOfStream {T = Tail} s stream (Err e)) (sym c.malformed.ensures)
    (told_padding {T = Tail} s stream c.in-At.b c.in_ok-bytes.bytes.items xs there (c.in_ok-bytes.ensures.bytes s (c.get.ensures.same s held)) (ap (drop len) c.as_slice.ensures.value) bad)

pub returns-clause-tail : goal.returns-clause-tail
returns-clause-tail g c = λ s held ns has.
    let there = sym (c.in_ok-leaf.ensures.leaf s held) ∙ c.in-At.is in
    tail_words s c.args.stream.now ns has c.in-At.b c.in_ok-bytes.bytes.items c.truncate.new.self.items there (c.in_ok-bytes.ensures.bytes s (c.get.ensures.same s held)) c.truncate.ensures.items
