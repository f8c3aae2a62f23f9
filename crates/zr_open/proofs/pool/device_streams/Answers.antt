use Rattle.std.proofs.Common.{◌++◌, List, take, sym, ◌∙◌, ap, arith}
use Rattle.std.proofs.lemmas.List.{take-append-drop}
use Rattle.zr_base.specs.contracts.space.DevState.{the_type}
use Rattle.zr_base.specs.declared.space.DevState.TheVariants.{Gone}
use Rattle.zr_bptr.specs.declared.Ptr.TheVariants.{Hole}
use Rattle.zr_meta.specs.declared.Stream.{Stream}
use Rattle.zr_open.proofs.Streams.{late_count, late_untold, with_late}
use Rattle.zr_open.proofs.pool.device_streams.Goals as goal
use denote.Enum.Bare.{same_false}

pub returns-clause-are : goal.returns-clause-are
returns-clause-are c =
    let own = c.args.own.now in
    let late = c.split_at.result.1.now in
    let cut = c.split_at.ensures in
    let there = same_false the_type c.args.state Gone (sym c.if-eq.ensures) in
    let left = cut.back_len in
    let least = c.stream_count.ensures in
    let all = c.requires.count in
    let more = late_count c.args.form c.args.state c.if-form-eq1.false there in
    with_late c.args.form c.args.state c.first_streams-streams.result c.split_at.result.0.now late own (record { words = 0; tree = record { root = Hole; height = 0 } }) c.if-form-eq1.false there
    c.first_streams-streams.ensures.are
    (ap (λ (xs : List Stream). xs ++ late) cut.front ∙ (ap (λ (xs : List Stream). take c.stream_count.result own ++ xs) cut.back ∙ take-append-drop c.stream_count.result own))
    (omega (arith, left, least, all, more))

pub returns-clause-untold : goal.returns-clause-untold
returns-clause-untold c = late_untold c.args.state c.first_streams-streams.result _ _ (same_false the_type c.args.state Gone (sym c.if-eq.ensures)) c.first_streams-streams.ensures.untold
