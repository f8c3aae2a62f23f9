use Rattle.std.proofs.Common.{◌≡◌, ◌≤◌, ◌^◌, ◌<◌, refl, arith, lit<, true}
use Rattle.zr_store.specs.Memory.{is_within}
use Rattle.zr_store.specs.declared.memory.Kept.{Kept}
use Rattle.zr_store.proofs.Keeping.{within_end, some_leaves, most_leaves}
use Rattle.zr_store.proofs.Held.{put_held}
use Rattle.zr_store.proofs.mem_blocks.MemBlocksBlocks.put.Goals as goal

pub returns-clause-pointer : goal.returns-clause-pointer
returns-clause-pointer c =
    let one_unit : 0 < c.args.level → c.units_of-len.result ≡ 1 = λ h. let e = c.requires.one_unit h in let u = c.units_of-len.ensures.units in omega (arith, e, u) in
    let small = c.units_of-len.ensures.small in
    let some : 1 ≤ c.in_ok-fill.fill = some_leaves c.args.level c.in_ok-fill.fill c.args.bytes.now c.in_ok-fill.ensures.leaf c.in_ok-fill.ensures.leaves c.requires.block in
    let most : c.in_ok-fill.fill ≤ 32 ^ c.args.level = most_leaves c.args.level c.in_ok-fill.fill c.args.bytes.now c.in_ok-fill.ensures.leaf c.in_ok-fill.ensures.leaves c.requires.block in
    record {
      level_is = refl;
      pointer = record {
        address = record { some = c.units_of-len.ensures.some; short = omega (arith, small); dev = lit< tt; start = omega (arith, c.fits-self) };
        size = c.units_of-len.ensures.length;
        level = c.requires.level;
        unit = one_unit;
        birth = omega arith;
        fits = lit< tt;
        some = some;
        most = most;
        digest = c.sum_of.ensures.size;
      };
      size = c.units_of-len.ensures.units;
      checksum = c.sum_of.ensures.sum;
      leaf = c.in_ok-fill.ensures.leaf;
      leaves = λ fill ps lt h. c.in_ok-fill.ensures.leaves fill ps lt h;
    }

-- The block is held beside those that were held.
pub returns-clause-ok : goal.returns-clause-ok
returns-clause-ok c = λ s held.
    let units = c.args.self.now.units in
    let next = c.args.self.now.next in
    let ks = c.args.self.now.kept.items in
    let k : Kept = record { at = record { at = record { dev = 0; start = next; len = c.units_of-len.result }; level = c.args.level; birth = 1; fill = c.in_ok-fill.fill; sum = c.sum_of.result }; bytes = c.in_ok-copy.copy } in
    let in_it : is_within units k.at.at ≡ true = within_end units next c.units_of-len.result (omega arith) in
    let kept_is = c.in_ok-push.ensures.items in
    put_held units next c.units_of-len.result ks _ k s c.units_of-len.ensures.some refl in_it kept_is c.args.bytes.now c.in_ok-copy.ensures.items held
