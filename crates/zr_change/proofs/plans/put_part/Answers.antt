use Rattle.std.proofs.Common.{◌≡◌, ◌+◌, ◌-◌, length, replicate, refl, sym, ap, subst, ◌∙◌, arith}
use Rattle.std.proofs.lemmas.List.{length-replicate, get_or-replicate}
use Rattle.zr_change.specs.declared.ranges.Bytes.{Bytes}
use Rattle.zr_change.specs.Edits.{HasLength, byte_put}
use Rattle.zr_change.proofs.Parts.{put_edit, given_len, given_at}
use Rattle.zr_change.proofs.plans.put_part.Goals as goal

pub returns-in-Given-clause-bytes : goal.returns-in-Given-clause-bytes
returns-in-Given-clause-bytes c = λ k inside.
    let e = c.args.edit.now in
    let from = c.max-from.result in
    let to = c.min-to.result in
    let bytes = c.in-Given.bytes.now in
    let given : length bytes ≡ e.len = subst (λ (b : Bytes). HasLength e.len b) c.in-Given.is c.requires.given in
    put_edit e c.args.at from to (from - c.args.at) _ k c.args.block.now _ _ c.max-from.ensures c.min-to.ensures c.if-from-to.false refl refl
    (given_len (from - e.off) from to e.off e.len bytes given refl (omega (arith, c.max-from.ensures)) c.if-from-to.false (omega (arith, c.min-to.ensures)))
    (λ j lt. given_at (to - e.off - (from - e.off)) (from - e.off) bytes j (omega (arith, lt, c.max-from.ensures)) ∙ ap (λ (b : Bytes). byte_put b (from - e.off + j)) (sym c.in-Given.is))
    c.put_given.ensures inside

pub returns-in-Filled-clause-bytes : goal.returns-in-Filled-clause-bytes
returns-in-Filled-clause-bytes c = λ k inside.
    let e = c.args.edit.now in
    let from = c.max-from.result in
    let to = c.min-to.result in
    let n = to - c.args.at - (from - c.args.at) in
    let len : length (replicate n c.in-Filled.byte) ≡ n = length-replicate n c.in-Filled.byte in
    put_edit e c.args.at from to (from - c.args.at) _ k c.args.block.now _ _ c.max-from.ensures c.min-to.ensures c.if-from-to.false refl
    (omega (arith, len, c.if-from-to.false, c.max-from.ensures)) (omega (arith, len, c.if-from-to.false, c.max-from.ensures))
    (λ j lt. get_or-replicate n j c.in-Filled.byte 0 (omega (arith, lt, c.max-from.ensures)) ∙ ap (λ (b : Bytes). byte_put b (from - e.off + j)) (sym c.in-Filled.is))
    c.put_filled.ensures inside
