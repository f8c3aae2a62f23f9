use Rattle.std.proofs.Common.{◌≡◌, ◌∙◌, ap, Bool, true, false, refl}
use Rattle.zr_txg.specs.Changes.{Changes}
use Rattle.zr_txg.proofs.Counts.{one_if, is_put, put_group, put_blocks, put_objects, put_block_count, put_object_count}
use Rattle.zr_txg.proofs.group.Group.change.Goals as goal
use mir.Val.{bool_byte}

a_bit : (b : Bool) → bool_byte b ≡ one_if b
a_bit true = refl
a_bit false = refl

pub invariant_of-self-2 : goal.invariant_of-self-2
invariant_of-self-2 c =
    let same = ap (λ (g : Changes). g.objects) c.self.view_is in
    let change = is_put c.args.self.now c.self.inside.objects.items c.change_object.new.objects.items c.args.id c.args.index c.args.p c.in_ok-added.added same c.requires c.in_ok-added.ensures.put c.in_ok-added.ensures.added in
    put_group _ _ _ _ _ _ _ _ (c.from.ensures ∙ a_bit c.in_ok-added.added) c.self.invariant change

pub returns-clause-blocks : goal.returns-clause-blocks
returns-clause-blocks c =
    let same = ap (λ (g : Changes). g.objects) c.self.view_is in
    let change = is_put c.args.self.now c.self.inside.objects.items c.change_object.new.objects.items c.args.id c.args.index c.args.p c.in_ok-added.added same c.requires c.in_ok-added.ensures.put c.in_ok-added.ensures.added in
    put_blocks c.args.self.now _ _ _ _ _ _ same change

pub returns-clause-objects : goal.returns-clause-objects
returns-clause-objects c =
    let same = ap (λ (g : Changes). g.objects) c.self.view_is in
    let change = is_put c.args.self.now c.self.inside.objects.items c.change_object.new.objects.items c.args.id c.args.index c.args.p c.in_ok-added.added same c.requires c.in_ok-added.ensures.put c.in_ok-added.ensures.added in
    put_objects c.args.self.now _ _ _ _ _ _ same change

pub returns-clause-block_count : goal.returns-clause-block_count
returns-clause-block_count c =
    let same = ap (λ (g : Changes). g.objects) c.self.view_is in
    let change = is_put c.args.self.now c.self.inside.objects.items c.change_object.new.objects.items c.args.id c.args.index c.args.p c.in_ok-added.added same c.requires c.in_ok-added.ensures.put c.in_ok-added.ensures.added in
    put_block_count c.args.self.now _ _ _ _ _ _ _ same c.self.invariant change

pub returns-clause-object_count : goal.returns-clause-object_count
returns-clause-object_count c =
    let same = ap (λ (g : Changes). g.objects) c.self.view_is in
    let change = is_put c.args.self.now c.self.inside.objects.items c.change_object.new.objects.items c.args.id c.args.index c.args.p c.in_ok-added.added same c.requires c.in_ok-added.ensures.put c.in_ok-added.ensures.added in
    put_object_count c.args.self.now _ _ _ _ _ _ _ same c.self.invariant change
