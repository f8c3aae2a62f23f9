use Rattle.std.proofs.Common.{ℕ, List, ◌∙◌, subst}
use Rattle.zr_shelf.specs.Doings.{WritesOnly}
use Rattle.zr_slots.specs.Phases.{IsRootPut, HaveRoot}
use Rattle.zr_slots.proofs.Rooting.{stopped_half, stopped_almost, published, published_err}
use Rattle.zr_slots.proofs.put.publish.Goals as goal

pub returns-in_err-flush-2-clause-order : goal.returns-in_err-flush-2-clause-order
returns-in_err-flush-2-clause-order g c = λ t.
    let sizes = g.S.Shelf.sizes c.args.shelf.now in
    let told = c.flush.ensures.told t in
    let told2 = c.put_root.ensures.told told in
    let w0 = g.S.Shelf.world c.args.shelf.now in
    let w1 = g.S.Shelf.world c.flush.new.self in
    let w2 = g.S.Shelf.world c.put_root.new.shelf in
    let w3 = g.S.Shelf.world c.flush-2.new.self in
    let wrote = subst (λ (l : List ℕ). WritesOnly (IsRootPut l c.args.both.now 0 c.args.root.now) w1 w2) c.flush.ensures.sizes (c.put_root.ensures.wrote told) in
    published_err sizes c.args.both.now c.args.all.now c.args.root.now c.from_residual-in_err-flush-2.result w0 w3 c.from_residual-in_err-flush-2.ensures.0
    (stopped_half sizes c.args.both.now c.args.all.now c.args.root.now w0 w1 w2 (c.in_ok-flush.ensures.world t) wrote w3 (c.in_err-flush-2.ensures.world told2))

pub returns-in_err-flush-3-clause-order : goal.returns-in_err-flush-3-clause-order
returns-in_err-flush-3-clause-order g c = λ t.
    let sizes = g.S.Shelf.sizes c.args.shelf.now in
    let told = c.flush.ensures.told t in
    let told2 = c.put_root.ensures.told told in
    let told3 = c.flush-2.ensures.told told2 in
    let told4 = c.put_root-2.ensures.told told3 in
    let w0 = g.S.Shelf.world c.args.shelf.now in
    let w1 = g.S.Shelf.world c.flush.new.self in
    let w2 = g.S.Shelf.world c.put_root.new.shelf in
    let w3 = g.S.Shelf.world c.flush-2.new.self in
    let w4 = g.S.Shelf.world c.put_root-2.new.shelf in
    let w5 = g.S.Shelf.world c.flush-3.new.self in
    let sizes2 = c.flush-2.ensures.sizes ∙ (c.put_root.ensures.sizes ∙ c.flush.ensures.sizes) in
    let wrote = subst (λ (l : List ℕ). WritesOnly (IsRootPut l c.args.both.now 0 c.args.root.now) w1 w2) c.flush.ensures.sizes (c.put_root.ensures.wrote told) in
    let have = subst (λ (l : List ℕ). HaveRoot l c.args.both.now 0 c.args.root.now w2.now.seen) c.flush.ensures.sizes (c.in_ok-put_root.ensures.there told) in
    let rest = subst (λ (l : List ℕ). WritesOnly (IsRootPut l c.args.all.now 1 c.args.root.now) w3 w4) sizes2 (c.put_root-2.ensures.wrote told3) in
    published_err sizes c.args.both.now c.args.all.now c.args.root.now c.from_residual-in_err-flush-3.result w0 w5 c.from_residual-in_err-flush-3.ensures.0
    (stopped_almost sizes c.args.both.now c.args.all.now c.args.root.now w0 w1 w2 (c.in_ok-flush.ensures.world t) wrote w3 w4 (c.in_ok-flush-2.ensures.world told2) have rest w5 (c.in_err-flush-3.ensures.world told4))

pub returns-clause-order : goal.returns-clause-order
returns-clause-order g c = λ t.
    let sizes = g.S.Shelf.sizes c.args.shelf.now in
    let told = c.flush.ensures.told t in
    let told2 = c.put_root.ensures.told told in
    let told3 = c.flush-2.ensures.told told2 in
    let told4 = c.put_root-2.ensures.told told3 in
    let w0 = g.S.Shelf.world c.args.shelf.now in
    let w1 = g.S.Shelf.world c.flush.new.self in
    let w2 = g.S.Shelf.world c.put_root.new.shelf in
    let w3 = g.S.Shelf.world c.flush-2.new.self in
    let w4 = g.S.Shelf.world c.put_root-2.new.shelf in
    let w5 = g.S.Shelf.world c.flush-3.new.self in
    let sizes2 = c.flush-2.ensures.sizes ∙ (c.put_root.ensures.sizes ∙ c.flush.ensures.sizes) in
    let wrote = subst (λ (l : List ℕ). WritesOnly (IsRootPut l c.args.both.now 0 c.args.root.now) w1 w2) c.flush.ensures.sizes (c.put_root.ensures.wrote told) in
    let have = subst (λ (l : List ℕ). HaveRoot l c.args.both.now 0 c.args.root.now w2.now.seen) c.flush.ensures.sizes (c.in_ok-put_root.ensures.there told) in
    let rest = subst (λ (l : List ℕ). WritesOnly (IsRootPut l c.args.all.now 1 c.args.root.now) w3 w4) sizes2 (c.put_root-2.ensures.wrote told3) in
    let have_all = subst (λ (l : List ℕ). HaveRoot l c.args.all.now 1 c.args.root.now w4.now.seen) sizes2 (c.in_ok-put_root-2.ensures.there told3) in
    published sizes c.args.both.now c.args.all.now c.args.root.now w0 w1 w2 (c.in_ok-flush.ensures.world t) wrote w3 w4 (c.in_ok-flush-2.ensures.world told2) have rest w5 (c.in_ok-flush-3.ensures.world told4) have_all
