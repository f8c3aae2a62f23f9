use Rattle.std.proofs.Common.{◌≡◌, ◌≤◌, ◌∙◌, ℕ, List, [], Err, length, sym, ap, subst, arith, rules}
use Rattle.std.proofs.lemmas.Result.{err_from_is_err_and}
use Rattle.zr_base.specs.Trees.{tree_units}
use Rattle.zr_bptr.specs.declared.Ptr.{Ptr}
use Rattle.zr_label.specs.Blocks.{IsMetaRoot}
use Rattle.zr_store.specs.Causes.{Costs, HasCause}
use Rattle.zr_store.proofs.Causes.{cause_from}
use Rattle.zr_tree.proofs.Wholes.{tells_from}
use Rattle.zr_meta.specs.Heads.{head_words}
use Rattle.zr_meta.proofs.Sizes.{words_are, any_leaving}
use Rattle.zr_root.proofs.Words.{leaves_same}
use Rattle.zr_commit.proofs.Roots.{few_height, few_leaves, meta_root, head_stored}
use Rattle.zr_commit.proofs.heads.write_head.Goals as goal

pub write_root-requires-clause-some : goal.write_root-requires-clause-some
write_root-requires-clause-some g c =
    let long = ap (λ (xs : List ℕ). length xs) c.as_slice.ensures.value ∙ words_are c.args.table.now c.in_ok-bytes.bytes.items c.args.h.now c.in_ok-bytes.ensures in
    omega (arith, long)

pub write_root-requires-clause-most : goal.write_root-requires-clause-most
write_root-requires-clause-most g c =
    let long = ap (λ (xs : List ℕ). length xs) c.as_slice.ensures.value ∙ words_are c.args.table.now c.in_ok-bytes.bytes.items c.args.h.now c.in_ok-bytes.ensures in
    let few = any_leaving c.args.table.now c.in_ok-bytes.bytes.items c.args.h.now c.in_ok-bytes.ensures c.requires.devices in
    omega (arith, long, few)

pub returns-in_err-root-clause-costs : goal.returns-in_err-root-clause-costs
returns-in_err-root-clause-costs g c =
    let long = ap (λ (xs : List ℕ). length xs) c.as_slice.ensures.value ∙ words_are c.args.table.now c.in_ok-bytes.bytes.items c.args.h.now c.in_ok-bytes.ensures in
    subst (λ (k : ℕ). Costs (tree_units k) 0 (g.B.Blocks.account c.args.store.now) (g.B.Blocks.account c.write_root.new.store)) (leaves_same (head_words c.args.h.now) (length c.as_slice.result.now) long) c.write_root.ensures.costs

pub returns-in_err-root-clause-cause : goal.returns-in_err-root-clause-cause
returns-in_err-root-clause-cause g c =
    let long = ap (λ (xs : List ℕ). length xs) c.as_slice.ensures.value ∙ words_are c.args.table.now c.in_ok-bytes.bytes.items c.args.h.now c.in_ok-bytes.ensures in
    let e = c.in_err-root in
    let x = c.from_residual-in_err-root in
    cause_from {T = Ptr} x.result e.field-0.0 (err_from_is_err_and x.result x.ensures.1)
    (subst (λ (k : ℕ). HasCause {T = Ptr} (tree_units k) (g.B.Blocks.account c.args.store.now) (g.B.Blocks.account c.write_root.new.store) (Err e.field-0.0)) (leaves_same (head_words c.args.h.now) (length c.as_slice.result.now) long) e.ensures.cause)

pub returns-in_err-root-clause-errors : goal.returns-in_err-root-clause-errors
returns-in_err-root-clause-errors g c = λ s.
    let e = c.in_err-root in
    let x = c.from_residual-in_err-root in
    tells_from {T = Ptr} s [] x.result e.field-0.0 (err_from_is_err_and x.result x.ensures.1) (e.ensures.errors s)

pub returns-clause-costs : goal.returns-clause-costs
returns-clause-costs g c =
    let long = ap (λ (xs : List ℕ). length xs) c.as_slice.ensures.value ∙ words_are c.args.table.now c.in_ok-bytes.bytes.items c.args.h.now c.in_ok-bytes.ensures in
    subst (λ (k : ℕ). Costs (tree_units k) 0 (g.B.Blocks.account c.args.store.now) (g.B.Blocks.account c.write_root.new.store)) (leaves_same (head_words c.args.h.now) (length c.as_slice.result.now) long) c.write_root.ensures.costs

pub returns-clause-len : goal.returns-clause-len
returns-clause-len g c =
    let long = words_are c.args.table.now c.in_ok-bytes.bytes.items c.args.h.now c.in_ok-bytes.ensures in
    let len : c.len.result ≡ length c.in_ok-bytes.bytes.items = search rules in
    len ∙ long

pub returns-clause-short : goal.returns-clause-short
returns-clause-short g c =
    let long = words_are c.args.table.now c.in_ok-bytes.bytes.items c.args.h.now c.in_ok-bytes.ensures in
    let few = any_leaving c.args.table.now c.in_ok-bytes.bytes.items c.args.h.now c.in_ok-bytes.ensures c.requires.devices in
    let len : c.len.result ≡ length c.in_ok-bytes.bytes.items = search rules in
    omega (arith, len, long, few)

pub returns-clause-root : goal.returns-clause-root
returns-clause-root g c =
    let bytes = c.in_ok-bytes.bytes.items in
    let long = words_are c.args.table.now bytes c.args.h.now c.in_ok-bytes.ensures in
    let few = any_leaving c.args.table.now bytes c.args.h.now c.in_ok-bytes.ensures c.requires.devices in
    let len : c.len.result ≡ length bytes = search rules in
    let same : length c.as_slice.result.now ≡ c.len.result = ap (λ (xs : List ℕ). length xs) c.as_slice.ensures.value ∙ sym len in
    let short : length c.as_slice.result.now ≤ 35016 = omega (arith, same, len, long, few) in
    let tall = few_height _ (few_leaves (length c.as_slice.result.now) short) in
    subst (λ (k : ℕ). IsMetaRoot c.in_ok-root.root k) same (meta_root (length c.as_slice.result.now) tall.0 c.in_ok-root.root tall.1 (c.in_ok-root.ensures.root tall.0 tall.1))

pub returns-clause-stores : goal.returns-clause-stores
returns-clause-stores g c = λ s held.
    let bytes = c.in_ok-bytes.bytes.items in
    let long = words_are c.args.table.now bytes c.args.h.now c.in_ok-bytes.ensures in
    let few = any_leaving c.args.table.now bytes c.args.h.now c.in_ok-bytes.ensures c.requires.devices in
    let len : c.len.result ≡ length bytes = search rules in
    let same : length c.as_slice.result.now ≡ c.len.result = ap (λ (xs : List ℕ). length xs) c.as_slice.ensures.value ∙ sym len in
    let short : c.len.result ≤ 35016 = omega (arith, len, long, few) in
    let tall = few_height _ (few_leaves c.len.result short) in
    head_stored (g.B.Blocks.holds c.write_root.new.store) c.args.table.now s c.args.h.now c.in_ok-root.root c.len.result tall.0 bytes c.as_slice.result.now c.in_ok-bytes.ensures c.as_slice.ensures.value same tall.1 (c.in_ok-root.ensures.stores s held)
