use Rattle.std.proofs.Common.{◌≡◌, ◌∙◌, ℕ, ap, take, drop, Some}
use Rattle.zr_meta.specs.declared.read.Back.{Back}
use Rattle.zr_meta.proofs.Backs.{front_part, cond_part, behind_cond, same_back}
use Rattle.zr_meta.proofs.read.back_of.Goals as goal

pub returns-in_default-2 : goal.returns-in_default-2
returns-in_default-2 c = λ b hs hc hss e.
    let bytes = c.args.bytes.now in let held = c.saved_long-held.ensures.value in
    let rest_e = c.split_at.ensures.back ∙ (ap (λ (n : ℕ). drop n bytes) held ∙ cond_part c.args.ckpt b.saved b.cond b.streams bytes hs e) in
    let one = c.in-Some.ensures.only b.cond _ hc rest_e in
    let cond : c.in-Some.cond ≡ b.cond = cc in
    let k = c.in_ok-streams.ensures b.streams hss (behind_cond c.in-Some.cond b.cond b.streams _ _ c.cond_long.result c.cond_long.ensures cond rest_e c.split_at-2.ensures.back) in
    let is = c.in_default-2.is in absurd cc

pub returns : goal.returns
returns c = λ b hs hc hss e.
    let bytes = c.args.bytes.now in let held = c.saved_long-held.ensures.value in
    let front_e = c.split_at.ensures.front ∙ (ap (λ (n : ℕ). take n bytes) held ∙ front_part c.args.ckpt b.saved b.cond b.streams bytes hs e) in
    let rest_e = c.split_at.ensures.back ∙ (ap (λ (n : ℕ). drop n bytes) held ∙ cond_part c.args.ckpt b.saved b.cond b.streams bytes hs e) in
    let saved = c.in_ok-saved.ensures b.saved hs front_e in
    let one = c.in-Some.ensures.only b.cond _ hc rest_e in
    let cond : c.in-Some.cond ≡ b.cond = cc in
    let k = c.in_ok-streams.ensures b.streams hss (behind_cond c.in-Some.cond b.cond b.streams _ _ c.cond_long.result c.cond_long.ensures cond rest_e c.split_at-2.ensures.back) in
    let is = c.in-Some-2.is in
    let streams : c.in-Some-2.streams ≡ b.streams = cc in
    ap (λ (x : Back). Some x) (same_back b c.in_ok-saved.saved c.in-Some.cond c.in-Some-2.streams saved cond streams)
