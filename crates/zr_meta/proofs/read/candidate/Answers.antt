use Rattle.std.proofs.Common.{◌≡◌, ◌∙◌, ap, Some, arith}
use Rattle.zr_meta.specs.declared.Head.{Head}
use Rattle.zr_meta.proofs.Fronts.{form_told, ckpt_told, saved_fits}
use Rattle.zr_meta.proofs.Backs.{parts, not_short, one_back, same_head}
use Rattle.zr_meta.proofs.read.candidate.Goals as goal

pub returns-then-bytes-lt160 : goal.returns-then-bytes-lt160
returns-then-bytes-lt160 c = λ table h k. absurd (omega (arith, not_short table c.args.bytes.now h k, c.if-bytes-lt160.true))

pub returns-in_default : goal.returns-in_default
returns-in_default c = λ table h k.
    let none = c.in_default.ensures h.form h.ckpt h.dir _ k.lawful.dir (omega (arith, k.lawful.low)) (parts table c.args.bytes.now h k) in absurd cc

pub returns-in_default-2 : goal.returns-in_default-2
returns-in_default-2 c = λ table h k.
    let bytes = c.args.bytes.now in
    let ckpt = c.ckpt_of-ckpt.ensures ∙ (rw (c.word_at.ensures, c.word_at-2.ensures) (ckpt_told bytes h.form h.ckpt h.dir _ (saved_fits h.ckpt h.saved k.lawful.saved) (parts table bytes h k))) in
    let found = one_back table bytes _ _ _ h c.in_ok-back.ensures c.split_at.ensures.back ckpt k in
    let is = c.in_default-2.is in absurd cc

pub returns : goal.returns
returns c = λ table h k.
    let bytes = c.args.bytes.now in
    let p = parts table bytes h k in
    let ckpt = c.ckpt_of-ckpt.ensures ∙ (rw (c.word_at.ensures, c.word_at-2.ensures) (ckpt_told bytes h.form h.ckpt h.dir _ (saved_fits h.ckpt h.saved k.lawful.saved) p)) in
    let found = one_back table bytes _ _ _ h c.in_ok-back.ensures c.split_at.ensures.back ckpt k in
    let is = c.in-Some-2.is in
    let saved : c.in-Some-2.back.saved ≡ h.saved = cc in
    let cond : c.in-Some-2.back.cond ≡ h.cond = cc in
    let streams : c.in-Some-2.back.streams ≡ h.streams = cc in
    let one = c.in-Some.ensures h.form h.ckpt h.dir _ k.lawful.dir (omega (arith, k.lawful.low)) p in
    let dir : c.in-Some.dir ≡ h.dir = cc in
    ap (λ (x : Head). Some x) (same_head h _ _ _ _ _ _ (c.form_at.ensures ∙ form_told bytes h.form h.ckpt h.dir _ k.lawful.oldest k.lawful.newest p) dir saved ckpt cond streams)
