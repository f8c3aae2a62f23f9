use Rattle.std.proofs.Common.{◌≡◌, ◌==◌, ℕ, if◌then◌else◌, subst, arith}
use Rattle.std.proofs.lemmas.Bool.Decides.{nat_tests}
use Rattle.zr_label.specs.Blocks.{IsUber}
use Rattle.zr_open.proofs.Rewinding.{later_root}
use Rattle.zr_open.proofs.rewinds.rewound.Goals as goal

pub returns-then-saved-eq0-clause-lawful : goal.returns-then-saved-eq0-clause-lawful
returns-then-saved-eq0-clause-lawful c =
    let none = c.if-saved-eq0.true in
    let stays : (if c.args.saved.now.reset == 0 then 0 else c.args.txg) ≡ 0 = grind (arith, nat_tests) in
    subst (λ (n : ℕ). IsUber (record c.args.saved.now { txg = c.args.txg; reset = n })) stays (later_root c.args.saved.now c.args.txg c.requires.lawful c.requires.later c.ranges.txg.fits)

pub returns-else-saved-eq0-clause-lawful : goal.returns-else-saved-eq0-clause-lawful
returns-else-saved-eq0-clause-lawful c =
    let some = c.if-saved-eq0.false in
    let named : (if c.args.saved.now.reset == 0 then 0 else c.args.txg) ≡ c.args.txg = grind (arith, nat_tests) in
    subst (λ (n : ℕ). IsUber (record c.args.saved.now { txg = c.args.txg; reset = n })) named (later_root c.args.saved.now c.args.txg c.requires.lawful c.requires.later c.ranges.txg.fits)
