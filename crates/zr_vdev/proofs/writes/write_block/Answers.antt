use Rattle.std.proofs.Common.{◌≡◌, ◌/◌, ◌<◌, ◌^◌, ℕ, length, refl, sym, ◌∙◌, ap, subst, arith, rules}
use Rattle.std.specs.Prelude.{IsTrue}
use Rattle.zr_base.specs.Blocks.{is_block_size}
use Rattle.zr_rules.specs.Columns.{free_of}
use Rattle.zr_rules.specs.Placement.{HasNoPlacement}
use Rattle.zr_store.proofs.Keeping.{some_leaves, most_leaves}
use Rattle.zr_vdev.proofs.Taking.{units, known, begins_low, own_run, written_there}
use Rattle.zr_store.specs.declared.StoreErr.TheVariants.{NoRun}
use Rattle.zr_vdev.specs.declared.writes.NotPut.{NotPut}
use Rattle.zr_vdev.proofs.writes.write_block.Goals as goal

pub returns-in-Err-clause-no_run : goal.returns-in-Err-clause-no_run
returns-in-Err-clause-no_run g c = λ needed longest is.
    let size = c.units_of-units.ensures.units in
    let from = c.from.ensures in
    let want : c.from.result ≡ length c.args.bytes.now / 4096 = omega (arith, size, from) in
    let error : c.in-Err.error ≡ NoRun needed longest = ap (λ (e : NotPut). e.error) (sym c.not_put.ensures) ∙ is in
    let missing : (needed ≡ c.from.result) × HasNoPlacement (free_of c.args.space.now) c.from.result longest = search (rules, c.in-Err.ensures.no_run needed longest) in
    subst (λ (n : ℕ). (needed ≡ n) × HasNoPlacement (free_of c.args.space.now) n longest) want missing

pub returns-in-Ok-write_at-clause-pointer : goal.returns-in-Ok-write_at-clause-pointer
returns-in-Ok-write_at-clause-pointer g c =
    let small = c.units_of-units.ensures.small in
    let size = c.units_of-units.ensures.units in
    let from = c.from.ensures in
    let some = c.units_of-units.ensures.some in
    let some_wanted : 0 < c.from.result = omega (arith, some, from) in
    let kind = c.args.mount.now.kind in
    let policy = (g.P.Place.policy c.args.mount.now.pick.now) in
    let old = c.args.space.now in
    let new = c.take_units.new.space in
    let taken = c.in-Ok.ensures.ok in
    let within = c.in-Ok.ensures.within in
    let len : c.in-Ok.at.len ≡ c.units_of-units.result = units kind policy c.from.result old new c.in-Ok.at taken within some_wanted ∙ from in
    let dev : c.in-Ok.at.dev < length old.parts.devs = known kind policy c.from.result old new c.in-Ok.at taken within some_wanted in
    let start : c.in-Ok.at.start < 2 ^ 40 =
    begins_low kind policy c.from.result old new c.in-Ok.at taken within some_wanted (g.S.Shelf.sizes c.args.shelf.now) c.args.mount.now.slots.now c.requires.mounted in
    let few = c.requires.mounted.few in
    record {
      level_is = refl;
      pointer = record {
        address = record { some = omega (arith, some, len); short = omega (arith, small, len); dev = omega (arith, dev, few); start = omega (arith, start) };
        size = subst (λ (n : ℕ). IsTrue (is_block_size n)) (sym len) c.units_of-units.ensures.length;
        level = c.requires.level;
        unit = λ h. let e = c.requires.one_unit h in omega (arith, e, size, len);
        birth = c.requires.group;
        fits = omega arith;
        some = some_leaves c.args.level c.in_ok-fill.fill c.args.bytes.now c.in_ok-fill.ensures.leaf c.in_ok-fill.ensures.leaves c.requires.block;
        most = most_leaves c.args.level c.in_ok-fill.fill c.args.bytes.now c.in_ok-fill.ensures.leaf c.in_ok-fill.ensures.leaves c.requires.block;
        digest = c.sum_of.ensures.size;
      };
      size = omega (arith, size, len);
      checksum = c.sum_of.ensures.sum;
      leaf = c.in_ok-fill.ensures.leaf;
      leaves = λ fill ps lt h. c.in_ok-fill.ensures.leaves fill ps lt h;
    }

pub returns-in-Ok-write_at-clause-there : goal.returns-in-Ok-write_at-clause-there
returns-in-Ok-write_at-clause-there g c = λ told.
    let from = c.from.ensures in
    let some = c.units_of-units.ensures.some in
    written_there c.args.mount.now.kind (g.P.Place.policy c.args.mount.now.pick.now) c.from.result c.args.space.now c.take_units.new.space c.in-Ok.at c.in-Ok.ensures.ok c.in-Ok.ensures.within (omega (arith, some, from))
    (g.S.Shelf.world c.write_at.new.shelf).now.seen c.args.mount.now.slots.now c.args.bytes.now (c.in-Ok-write_at.ensures.there told)

pub returns-in-Ok-write_at-clause-run : goal.returns-in-Ok-write_at-clause-run
returns-in-Ok-write_at-clause-run g c =
    let from = c.from.ensures in
    let some = c.units_of-units.ensures.some in
    own_run c.args.mount.now.kind (g.P.Place.policy c.args.mount.now.pick.now) c.from.result c.args.space.now c.take_units.new.space c.in-Ok.at c.in-Ok.ensures.ok c.in-Ok.ensures.within (omega (arith, some, from))
