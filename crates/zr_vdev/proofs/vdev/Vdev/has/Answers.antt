use Rattle.std.proofs.lemmas.Result.{IfOk-weaker}
use Rattle.zr_vdev.specs.Stores.{IsInUse}
use Rattle.zr_vdev.proofs.Uses.{use_resolves}
use Rattle.zr_vdev.proofs.vdev.Vdev.has.Goals as goal

pub is_apart-requires : goal.is_apart-requires
is_apart-requires g c = use_resolves c.args.self.now.mount.kind c.args.self.now.space.now c.args.at.now (c.in_ok-used.ensures.0 c.if-not-used.false)

pub returns : goal.returns
returns g c =
    let used : IsInUse c.args.self.now.mount.kind c.args.self.now.space.now c.args.at.now = c.in_ok-used.ensures.0 c.if-not-used.false in
    IfOk-weaker c.is_apart.result _ _ (λ answer h. (λ yes. record { used = used; whole = h.0 yes }, λ stored. h.1 stored.whole)) c.is_apart.ensures
