use Rattle.std.proofs.Common.{◌≡◌, ◌∙◌, ◌<◌, true, false, ℕ, List, map, length, refl, sym, ap, subst, arith}
use Rattle.std.proofs.Math.ListN.{set}
use Rattle.std.proofs.lemmas.List.{length-set}
use Rattle.zr_rules.specs.Places.{is_gone, is_leaving, part_of, state_of_dev}
use Rattle.zr_rules.specs.Roles.{is_meta_role}
use Rattle.zr_rules.specs.Space.{Space, role_at}
use Rattle.zr_rules.specs.Steps.{Finishes}
use Rattle.zr_indirect.specs.Mapped.{Mapped}
use Rattle.zr_space.specs.Leavings.{gone_device}
use Rattle.zr_space.specs.Plans.{IsCopied}
use Rattle.zr_space.specs.Views.{Kept, kept_of, part_in, space_of, IsSpace}
use Rattle.zr_space.proofs.Discards.{on_err}
use Rattle.zr_space.proofs.Ending.{IsEnding, none_left, ended_space, ends}
use Rattle.zr_space.proofs.FinishRoot.{IsRootBeside, finish_root}
use Rattle.zr_space.proofs.Frames.{space_itself}
use Rattle.zr_space.proofs.Keeps.{spare_space}
use Rattle.zr_space.proofs.Ready.{leaving_as, leaving_there}
use Rattle.zr_space.proofs.Synced.{leaving_state}
use Rattle.zr_space.proofs.Views.{kept_read}
use Rattle.zr_space.proofs.space.Space.finish.Goals as goal

pub finish-requires-clause-leaving : goal.finish-requires-clause-leaving
finish-requires-clause-leaving c =
    let whole = c.self.inside.whole in
    let devs : List Kept = c.self.inside.devs.items in
    let d = c.in-Some.dev in
    let said : is_leaving (state_of_dev (map part_in devs) d) ≡ true = subst (λ (s : Space). is_leaving (state_of_dev s.parts.devs d) ≡ true) (sym c.self.view_is) c.in-Some.ensures.some in
    let leaving = leaving_as whole devs d said in
    let there = leaving_there devs d leaving in
    let k : Kept = record { row = c.source.inside.row; uses = c.source.inside.units; moves = c.source.inside.moves } in
    let is : k ≡ kept_of devs d = c.source.view_is ∙ kept_read devs d c.index_mut-source.result.now there c.index_mut-source.ensures.value in
    ap (λ (z : Kept). z.moves.state) is ∙ ((c.self.invariant.moved d).state ∙ leaving_state (kept_of devs d).row.state leaving)

pub finish-requires-clause-none : goal.finish-requires-clause-none
finish-requires-clause-none c =
    let whole = c.self.inside.whole in
    let devs : List Kept = c.self.inside.devs.items in
    let d = c.in-Some.dev in
    let said : is_leaving (state_of_dev (map part_in devs) d) ≡ true = subst (λ (s : Space). is_leaving (state_of_dev s.parts.devs d) ≡ true) (sym c.self.view_is) c.in-Some.ensures.some in
    let leaving = leaving_as whole devs d said in
    let there = leaving_there devs d leaving in
    let k : Kept = record { row = c.source.inside.row; uses = c.source.inside.units; moves = c.source.inside.moves } in
    let is : k ≡ kept_of devs d = c.source.view_is ∙ kept_read devs d c.index_mut-source.result.now there c.index_mut-source.ensures.value in
    ap (λ (z : Kept). z.moves.left) is ∙ none_left whole c.self.inside.slabs devs d c.self.invariant leaving (subst IsCopied (sym c.self.view_is) c.requires.copied)

pub invariant_of-self : goal.invariant_of-self
invariant_of-self c =
    let whole = c.self.inside.whole in
    let devs : List Kept = c.self.inside.devs.items in
    let d = c.in-Some.dev in
    let said : is_leaving (state_of_dev (map part_in devs) d) ≡ true = subst (λ (s : Space). is_leaving (state_of_dev s.parts.devs d) ≡ true) (sym c.self.view_is) c.in-Some.ensures.some in
    let leaving = leaving_as whole devs d said in
    let there = leaving_there devs d leaving in
    let k : Kept = record { row = c.source.inside.row; uses = c.source.inside.units; moves = c.source.inside.moves } in
    let is : k ≡ kept_of devs d = c.source.view_is ∙ kept_read devs d c.index_mut-source.result.now there c.index_mut-source.ensures.value in
    subst (λ (m : Mapped). IsSpace whole c.self.inside.slabs (set devs d (record k { moves = m }))) (sym c.in_err-finish.ensures.err) (spare_space c.self.inside.slabs c.self.inside.slabs devs d k k.uses c.self.invariant there is refl refl)

pub returns-in_err-finish-clause-err : goal.returns-in_err-finish-clause-err
returns-in_err-finish-clause-err c =
    let whole = c.self.inside.whole in
    let devs : List Kept = c.self.inside.devs.items in
    let d = c.in-Some.dev in
    let said : is_leaving (state_of_dev (map part_in devs) d) ≡ true = subst (λ (s : Space). is_leaving (state_of_dev s.parts.devs d) ≡ true) (sym c.self.view_is) c.in-Some.ensures.some in
    let leaving = leaving_as whole devs d said in
    let there = leaving_there devs d leaving in
    let k : Kept = record { row = c.source.inside.row; uses = c.source.inside.units; moves = c.source.inside.moves } in
    let is : k ≡ kept_of devs d = c.source.view_is ∙ kept_read devs d c.index_mut-source.result.now there c.index_mut-source.ensures.value in
    on_err c.from_residual.result _ (ap (λ (m : Mapped). space_of whole (set devs d (record k { moves = m }))) c.in_err-finish.ensures.err ∙ (space_itself whole devs d k k.uses is refl ∙ c.self.view_is))

pub invariant_of-self-2 : goal.invariant_of-self-2
invariant_of-self-2 c =
    let whole = c.self.inside.whole in
    let devs : List Kept = c.self.inside.devs.items in
    let d = c.in-Some.dev in
    let said : is_leaving (state_of_dev (map part_in devs) d) ≡ true = subst (λ (s : Space). is_leaving (state_of_dev s.parts.devs d) ≡ true) (sym c.self.view_is) c.in-Some.ensures.some in
    let leaving = leaving_as whole devs d said in
    let there = leaving_there devs d leaving in
    let k : Kept = record { row = c.source.inside.row; uses = c.source.inside.units; moves = c.source.inside.moves } in
    let is : k ≡ kept_of devs d = c.source.view_is ∙ kept_read devs d c.index_mut-source.result.now there c.index_mut-source.ensures.value in
    let turned : List Kept = c.take_over.new.devs.items in
    let turned_there : d < length turned = let a = c.take_over.ensures.count in let b = length-set devs d (record k { moves = c.finish.new.self }) in omega (arith, there, a, b) in
    let x : Kept = record { row = c.device.inside.row; uses = c.device.inside.units; moves = c.device.inside.moves } in
    let now : x ≡ kept_of turned d = c.device.view_is ∙ kept_read turned d c.index_mut-device.result.now turned_there c.index_mut-device.ensures.value in
    let ending : IsEnding whole c.self.inside.slabs c.forget.new.self devs turned d c.args.txg k x c.finish.new.self = record {
      space = c.self.invariant;
      leaving = leaving;
      kept = is;
      over = c.take_over.ensures;
      now = now;
      finished = c.in_ok-finish.ensures.ok;
      gone = c.lawful.ensures.gone;
      meta = subst (λ (s : Space). (e u : ℕ) → is_leaving (state_of_dev s.parts.devs e) ≡ true → is_meta_role (role_at s e u) ≡ false) (sym c.self.view_is) c.requires.meta;
      later = subst (λ (s : Space). (e : ℕ) → is_gone (state_of_dev s.parts.devs e) ≡ true → (part_of s.parts.devs e).row.gone < c.args.txg) (sym c.self.view_is) c.requires.later;
      forgets = c.forget.ensures;
    } in
    let new : c.vanish.new.self ≡ gone_device x.row c.args.txg c.vanish.new.self.uses.spare x.moves = c.vanish.ensures ∙ ap (λ (z : Kept). gone_device z.row c.args.txg c.vanish.new.self.uses.spare z.moves) (sym c.device.view_is) in
    subst (λ (z : Kept). IsSpace whole c.forget.new.self (set turned d z)) (sym new) (ended_space whole c.self.inside.slabs c.forget.new.self devs turned d c.args.txg c.vanish.new.self.uses.spare k x c.finish.new.self ending)

pub returns-clause-ok : goal.returns-clause-ok
returns-clause-ok c =
    let whole = c.self.inside.whole in
    let devs : List Kept = c.self.inside.devs.items in
    let d = c.in-Some.dev in
    let said : is_leaving (state_of_dev (map part_in devs) d) ≡ true = subst (λ (s : Space). is_leaving (state_of_dev s.parts.devs d) ≡ true) (sym c.self.view_is) c.in-Some.ensures.some in
    let leaving = leaving_as whole devs d said in
    let there = leaving_there devs d leaving in
    let k : Kept = record { row = c.source.inside.row; uses = c.source.inside.units; moves = c.source.inside.moves } in
    let is : k ≡ kept_of devs d = c.source.view_is ∙ kept_read devs d c.index_mut-source.result.now there c.index_mut-source.ensures.value in
    let turned : List Kept = c.take_over.new.devs.items in
    let turned_there : d < length turned = let a = c.take_over.ensures.count in let b = length-set devs d (record k { moves = c.finish.new.self }) in omega (arith, there, a, b) in
    let x : Kept = record { row = c.device.inside.row; uses = c.device.inside.units; moves = c.device.inside.moves } in
    let now : x ≡ kept_of turned d = c.device.view_is ∙ kept_read turned d c.index_mut-device.result.now turned_there c.index_mut-device.ensures.value in
    let ending : IsEnding whole c.self.inside.slabs c.forget.new.self devs turned d c.args.txg k x c.finish.new.self = record {
      space = c.self.invariant;
      leaving = leaving;
      kept = is;
      over = c.take_over.ensures;
      now = now;
      finished = c.in_ok-finish.ensures.ok;
      gone = c.lawful.ensures.gone;
      meta = subst (λ (s : Space). (e u : ℕ) → is_leaving (state_of_dev s.parts.devs e) ≡ true → is_meta_role (role_at s e u) ≡ false) (sym c.self.view_is) c.requires.meta;
      later = subst (λ (s : Space). (e : ℕ) → is_gone (state_of_dev s.parts.devs e) ≡ true → (part_of s.parts.devs e).row.gone < c.args.txg) (sym c.self.view_is) c.requires.later;
      forgets = c.forget.ensures;
    } in
    let new : c.vanish.new.self ≡ gone_device x.row c.args.txg c.vanish.new.self.uses.spare x.moves = c.vanish.ensures ∙ ap (λ (z : Kept). gone_device z.row c.args.txg c.vanish.new.self.uses.spare z.moves) (sym c.device.view_is) in
    rw (← c.self.view_is)
    (subst (λ (z : Kept). Finishes (space_of whole devs) (space_of whole (set turned d z)) d c.args.txg) (sym new) (ends whole c.self.inside.slabs c.forget.new.self devs turned d c.args.txg c.vanish.new.self.uses.spare k x c.finish.new.self ending))

pub returns-clause-held : goal.returns-clause-held
returns-clause-held c =
    let whole = c.self.inside.whole in
    let devs : List Kept = c.self.inside.devs.items in
    let d = c.in-Some.dev in
    let said : is_leaving (state_of_dev (map part_in devs) d) ≡ true = subst (λ (s : Space). is_leaving (state_of_dev s.parts.devs d) ≡ true) (sym c.self.view_is) c.in-Some.ensures.some in
    let leaving = leaving_as whole devs d said in
    let there = leaving_there devs d leaving in
    let k : Kept = record { row = c.source.inside.row; uses = c.source.inside.units; moves = c.source.inside.moves } in
    let is : k ≡ kept_of devs d = c.source.view_is ∙ kept_read devs d c.index_mut-source.result.now there c.index_mut-source.ensures.value in
    let turned : List Kept = c.take_over.new.devs.items in
    let turned_there : d < length turned = let a = c.take_over.ensures.count in let b = length-set devs d (record k { moves = c.finish.new.self }) in omega (arith, there, a, b) in
    let x : Kept = record { row = c.device.inside.row; uses = c.device.inside.units; moves = c.device.inside.moves } in
    let now : x ≡ kept_of turned d = c.device.view_is ∙ kept_read turned d c.index_mut-device.result.now turned_there c.index_mut-device.ensures.value in
    let ending : IsEnding whole c.self.inside.slabs c.forget.new.self devs turned d c.args.txg k x c.finish.new.self = record {
      space = c.self.invariant;
      leaving = leaving;
      kept = is;
      over = c.take_over.ensures;
      now = now;
      finished = c.in_ok-finish.ensures.ok;
      gone = c.lawful.ensures.gone;
      meta = subst (λ (s : Space). (e u : ℕ) → is_leaving (state_of_dev s.parts.devs e) ≡ true → is_meta_role (role_at s e u) ≡ false) (sym c.self.view_is) c.requires.meta;
      later = subst (λ (s : Space). (e : ℕ) → is_gone (state_of_dev s.parts.devs e) ≡ true → (part_of s.parts.devs e).row.gone < c.args.txg) (sym c.self.view_is) c.requires.later;
      forgets = c.forget.ensures;
    } in
    let new : c.vanish.new.self ≡ gone_device x.row c.args.txg c.vanish.new.self.uses.spare x.moves = c.vanish.ensures ∙ ap (λ (z : Kept). gone_device z.row c.args.txg c.vanish.new.self.uses.spare z.moves) (sym c.device.view_is) in
    (subst (λ (o : Space). IsRootBeside o (space_of whole (set turned d c.vanish.new.self)) d) c.self.view_is
    (subst (λ (z : Kept). IsRootBeside (space_of whole devs) (space_of whole (set turned d z)) d) (sym new) (finish_root whole c.self.inside.slabs c.forget.new.self devs turned d c.args.txg c.vanish.new.self.uses.spare k x c.finish.new.self ending))).held

pub returns-clause-kept : goal.returns-clause-kept
returns-clause-kept c =
    let whole = c.self.inside.whole in
    let devs : List Kept = c.self.inside.devs.items in
    let d = c.in-Some.dev in
    let said : is_leaving (state_of_dev (map part_in devs) d) ≡ true = subst (λ (s : Space). is_leaving (state_of_dev s.parts.devs d) ≡ true) (sym c.self.view_is) c.in-Some.ensures.some in
    let leaving = leaving_as whole devs d said in
    let there = leaving_there devs d leaving in
    let k : Kept = record { row = c.source.inside.row; uses = c.source.inside.units; moves = c.source.inside.moves } in
    let is : k ≡ kept_of devs d = c.source.view_is ∙ kept_read devs d c.index_mut-source.result.now there c.index_mut-source.ensures.value in
    let turned : List Kept = c.take_over.new.devs.items in
    let turned_there : d < length turned = let a = c.take_over.ensures.count in let b = length-set devs d (record k { moves = c.finish.new.self }) in omega (arith, there, a, b) in
    let x : Kept = record { row = c.device.inside.row; uses = c.device.inside.units; moves = c.device.inside.moves } in
    let now : x ≡ kept_of turned d = c.device.view_is ∙ kept_read turned d c.index_mut-device.result.now turned_there c.index_mut-device.ensures.value in
    let ending : IsEnding whole c.self.inside.slabs c.forget.new.self devs turned d c.args.txg k x c.finish.new.self = record {
      space = c.self.invariant;
      leaving = leaving;
      kept = is;
      over = c.take_over.ensures;
      now = now;
      finished = c.in_ok-finish.ensures.ok;
      gone = c.lawful.ensures.gone;
      meta = subst (λ (s : Space). (e u : ℕ) → is_leaving (state_of_dev s.parts.devs e) ≡ true → is_meta_role (role_at s e u) ≡ false) (sym c.self.view_is) c.requires.meta;
      later = subst (λ (s : Space). (e : ℕ) → is_gone (state_of_dev s.parts.devs e) ≡ true → (part_of s.parts.devs e).row.gone < c.args.txg) (sym c.self.view_is) c.requires.later;
      forgets = c.forget.ensures;
    } in
    let new : c.vanish.new.self ≡ gone_device x.row c.args.txg c.vanish.new.self.uses.spare x.moves = c.vanish.ensures ∙ ap (λ (z : Kept). gone_device z.row c.args.txg c.vanish.new.self.uses.spare z.moves) (sym c.device.view_is) in
    (subst (λ (o : Space). IsRootBeside o (space_of whole (set turned d c.vanish.new.self)) d) c.self.view_is
    (subst (λ (z : Kept). IsRootBeside (space_of whole devs) (space_of whole (set turned d z)) d) (sym new) (finish_root whole c.self.inside.slabs c.forget.new.self devs turned d c.args.txg c.vanish.new.self.uses.spare k x c.finish.new.self ending))).kept

pub returns-clause-marks : goal.returns-clause-marks
returns-clause-marks c =
    let whole = c.self.inside.whole in
    let devs : List Kept = c.self.inside.devs.items in
    let d = c.in-Some.dev in
    let said : is_leaving (state_of_dev (map part_in devs) d) ≡ true = subst (λ (s : Space). is_leaving (state_of_dev s.parts.devs d) ≡ true) (sym c.self.view_is) c.in-Some.ensures.some in
    let leaving = leaving_as whole devs d said in
    let there = leaving_there devs d leaving in
    let k : Kept = record { row = c.source.inside.row; uses = c.source.inside.units; moves = c.source.inside.moves } in
    let is : k ≡ kept_of devs d = c.source.view_is ∙ kept_read devs d c.index_mut-source.result.now there c.index_mut-source.ensures.value in
    let turned : List Kept = c.take_over.new.devs.items in
    let turned_there : d < length turned = let a = c.take_over.ensures.count in let b = length-set devs d (record k { moves = c.finish.new.self }) in omega (arith, there, a, b) in
    let x : Kept = record { row = c.device.inside.row; uses = c.device.inside.units; moves = c.device.inside.moves } in
    let now : x ≡ kept_of turned d = c.device.view_is ∙ kept_read turned d c.index_mut-device.result.now turned_there c.index_mut-device.ensures.value in
    let ending : IsEnding whole c.self.inside.slabs c.forget.new.self devs turned d c.args.txg k x c.finish.new.self = record {
      space = c.self.invariant;
      leaving = leaving;
      kept = is;
      over = c.take_over.ensures;
      now = now;
      finished = c.in_ok-finish.ensures.ok;
      gone = c.lawful.ensures.gone;
      meta = subst (λ (s : Space). (e u : ℕ) → is_leaving (state_of_dev s.parts.devs e) ≡ true → is_meta_role (role_at s e u) ≡ false) (sym c.self.view_is) c.requires.meta;
      later = subst (λ (s : Space). (e : ℕ) → is_gone (state_of_dev s.parts.devs e) ≡ true → (part_of s.parts.devs e).row.gone < c.args.txg) (sym c.self.view_is) c.requires.later;
      forgets = c.forget.ensures;
    } in
    let new : c.vanish.new.self ≡ gone_device x.row c.args.txg c.vanish.new.self.uses.spare x.moves = c.vanish.ensures ∙ ap (λ (z : Kept). gone_device z.row c.args.txg c.vanish.new.self.uses.spare z.moves) (sym c.device.view_is) in
    (subst (λ (o : Space). IsRootBeside o (space_of whole (set turned d c.vanish.new.self)) d) c.self.view_is
    (subst (λ (z : Kept). IsRootBeside (space_of whole devs) (space_of whole (set turned d z)) d) (sym new) (finish_root whole c.self.inside.slabs c.forget.new.self devs turned d c.args.txg c.vanish.new.self.uses.spare k x c.finish.new.self ending))).marks

pub returns-clause-none_held : goal.returns-clause-none_held
returns-clause-none_held c =
    let whole = c.self.inside.whole in
    let devs : List Kept = c.self.inside.devs.items in
    let d = c.in-Some.dev in
    let said : is_leaving (state_of_dev (map part_in devs) d) ≡ true = subst (λ (s : Space). is_leaving (state_of_dev s.parts.devs d) ≡ true) (sym c.self.view_is) c.in-Some.ensures.some in
    let leaving = leaving_as whole devs d said in
    let there = leaving_there devs d leaving in
    let k : Kept = record { row = c.source.inside.row; uses = c.source.inside.units; moves = c.source.inside.moves } in
    let is : k ≡ kept_of devs d = c.source.view_is ∙ kept_read devs d c.index_mut-source.result.now there c.index_mut-source.ensures.value in
    let turned : List Kept = c.take_over.new.devs.items in
    let turned_there : d < length turned = let a = c.take_over.ensures.count in let b = length-set devs d (record k { moves = c.finish.new.self }) in omega (arith, there, a, b) in
    let x : Kept = record { row = c.device.inside.row; uses = c.device.inside.units; moves = c.device.inside.moves } in
    let now : x ≡ kept_of turned d = c.device.view_is ∙ kept_read turned d c.index_mut-device.result.now turned_there c.index_mut-device.ensures.value in
    let ending : IsEnding whole c.self.inside.slabs c.forget.new.self devs turned d c.args.txg k x c.finish.new.self = record {
      space = c.self.invariant;
      leaving = leaving;
      kept = is;
      over = c.take_over.ensures;
      now = now;
      finished = c.in_ok-finish.ensures.ok;
      gone = c.lawful.ensures.gone;
      meta = subst (λ (s : Space). (e u : ℕ) → is_leaving (state_of_dev s.parts.devs e) ≡ true → is_meta_role (role_at s e u) ≡ false) (sym c.self.view_is) c.requires.meta;
      later = subst (λ (s : Space). (e : ℕ) → is_gone (state_of_dev s.parts.devs e) ≡ true → (part_of s.parts.devs e).row.gone < c.args.txg) (sym c.self.view_is) c.requires.later;
      forgets = c.forget.ensures;
    } in
    let new : c.vanish.new.self ≡ gone_device x.row c.args.txg c.vanish.new.self.uses.spare x.moves = c.vanish.ensures ∙ ap (λ (z : Kept). gone_device z.row c.args.txg c.vanish.new.self.uses.spare z.moves) (sym c.device.view_is) in
    (subst (λ (o : Space). IsRootBeside o (space_of whole (set turned d c.vanish.new.self)) d) c.self.view_is
    (subst (λ (z : Kept). IsRootBeside (space_of whole devs) (space_of whole (set turned d z)) d) (sym new) (finish_root whole c.self.inside.slabs c.forget.new.self devs turned d c.args.txg c.vanish.new.self.uses.spare k x c.finish.new.self ending))).none_held

pub returns-clause-none_kept : goal.returns-clause-none_kept
returns-clause-none_kept c =
    let whole = c.self.inside.whole in
    let devs : List Kept = c.self.inside.devs.items in
    let d = c.in-Some.dev in
    let said : is_leaving (state_of_dev (map part_in devs) d) ≡ true = subst (λ (s : Space). is_leaving (state_of_dev s.parts.devs d) ≡ true) (sym c.self.view_is) c.in-Some.ensures.some in
    let leaving = leaving_as whole devs d said in
    let there = leaving_there devs d leaving in
    let k : Kept = record { row = c.source.inside.row; uses = c.source.inside.units; moves = c.source.inside.moves } in
    let is : k ≡ kept_of devs d = c.source.view_is ∙ kept_read devs d c.index_mut-source.result.now there c.index_mut-source.ensures.value in
    let turned : List Kept = c.take_over.new.devs.items in
    let turned_there : d < length turned = let a = c.take_over.ensures.count in let b = length-set devs d (record k { moves = c.finish.new.self }) in omega (arith, there, a, b) in
    let x : Kept = record { row = c.device.inside.row; uses = c.device.inside.units; moves = c.device.inside.moves } in
    let now : x ≡ kept_of turned d = c.device.view_is ∙ kept_read turned d c.index_mut-device.result.now turned_there c.index_mut-device.ensures.value in
    let ending : IsEnding whole c.self.inside.slabs c.forget.new.self devs turned d c.args.txg k x c.finish.new.self = record {
      space = c.self.invariant;
      leaving = leaving;
      kept = is;
      over = c.take_over.ensures;
      now = now;
      finished = c.in_ok-finish.ensures.ok;
      gone = c.lawful.ensures.gone;
      meta = subst (λ (s : Space). (e u : ℕ) → is_leaving (state_of_dev s.parts.devs e) ≡ true → is_meta_role (role_at s e u) ≡ false) (sym c.self.view_is) c.requires.meta;
      later = subst (λ (s : Space). (e : ℕ) → is_gone (state_of_dev s.parts.devs e) ≡ true → (part_of s.parts.devs e).row.gone < c.args.txg) (sym c.self.view_is) c.requires.later;
      forgets = c.forget.ensures;
    } in
    let new : c.vanish.new.self ≡ gone_device x.row c.args.txg c.vanish.new.self.uses.spare x.moves = c.vanish.ensures ∙ ap (λ (z : Kept). gone_device z.row c.args.txg c.vanish.new.self.uses.spare z.moves) (sym c.device.view_is) in
    (subst (λ (o : Space). IsRootBeside o (space_of whole (set turned d c.vanish.new.self)) d) c.self.view_is
    (subst (λ (z : Kept). IsRootBeside (space_of whole devs) (space_of whole (set turned d z)) d) (sym new) (finish_root whole c.self.inside.slabs c.forget.new.self devs turned d c.args.txg c.vanish.new.self.uses.spare k x c.finish.new.self ending))).none_kept

pub returns-clause-counts : goal.returns-clause-counts
returns-clause-counts c =
    let whole = c.self.inside.whole in
    let devs : List Kept = c.self.inside.devs.items in
    let d = c.in-Some.dev in
    let said : is_leaving (state_of_dev (map part_in devs) d) ≡ true = subst (λ (s : Space). is_leaving (state_of_dev s.parts.devs d) ≡ true) (sym c.self.view_is) c.in-Some.ensures.some in
    let leaving = leaving_as whole devs d said in
    let there = leaving_there devs d leaving in
    let k : Kept = record { row = c.source.inside.row; uses = c.source.inside.units; moves = c.source.inside.moves } in
    let is : k ≡ kept_of devs d = c.source.view_is ∙ kept_read devs d c.index_mut-source.result.now there c.index_mut-source.ensures.value in
    let turned : List Kept = c.take_over.new.devs.items in
    let turned_there : d < length turned = let a = c.take_over.ensures.count in let b = length-set devs d (record k { moves = c.finish.new.self }) in omega (arith, there, a, b) in
    let x : Kept = record { row = c.device.inside.row; uses = c.device.inside.units; moves = c.device.inside.moves } in
    let now : x ≡ kept_of turned d = c.device.view_is ∙ kept_read turned d c.index_mut-device.result.now turned_there c.index_mut-device.ensures.value in
    let ending : IsEnding whole c.self.inside.slabs c.forget.new.self devs turned d c.args.txg k x c.finish.new.self = record {
      space = c.self.invariant;
      leaving = leaving;
      kept = is;
      over = c.take_over.ensures;
      now = now;
      finished = c.in_ok-finish.ensures.ok;
      gone = c.lawful.ensures.gone;
      meta = subst (λ (s : Space). (e u : ℕ) → is_leaving (state_of_dev s.parts.devs e) ≡ true → is_meta_role (role_at s e u) ≡ false) (sym c.self.view_is) c.requires.meta;
      later = subst (λ (s : Space). (e : ℕ) → is_gone (state_of_dev s.parts.devs e) ≡ true → (part_of s.parts.devs e).row.gone < c.args.txg) (sym c.self.view_is) c.requires.later;
      forgets = c.forget.ensures;
    } in
    let new : c.vanish.new.self ≡ gone_device x.row c.args.txg c.vanish.new.self.uses.spare x.moves = c.vanish.ensures ∙ ap (λ (z : Kept). gone_device z.row c.args.txg c.vanish.new.self.uses.spare z.moves) (sym c.device.view_is) in
    (subst (λ (o : Space). IsRootBeside o (space_of whole (set turned d c.vanish.new.self)) d) c.self.view_is
    (subst (λ (z : Kept). IsRootBeside (space_of whole devs) (space_of whole (set turned d z)) d) (sym new) (finish_root whole c.self.inside.slabs c.forget.new.self devs turned d c.args.txg c.vanish.new.self.uses.spare k x c.finish.new.self ending))).counts
