use Rattle.std.proofs.Common.{◌≡◌, ◌≤◌, ◌++◌, [], length, ap, refl, ◌∙◌, arith}
use Rattle.std.specs.List.{flat_map}
use Rattle.std.proofs.lemmas.List.{length-append}
use Rattle.zr_bptr.proofs.Pieces.{pointer_long}
use Rattle.zr_label.specs.Blocks.{name_field, row_bytes}
use Rattle.zr_label.proofs.RowLemmas.{table_long}
use Rattle.zr_label.proofs.Ubers.{laid, root_lawful, words_long}
use Rattle.zr_label.proofs.root.Uber.encode.Goals as goal

pub returns-clause-spelling : goal.returns-clause-spelling
returns-clause-spelling c =
    let u = c.args.self.now in
    let w = c.uber_words.result in let p = c.encode.result in let r = flat_map row_bytes u.rows in let n = c.name_field.result in
    let words : length w ≡ 128 = ap length c.uber_words.ensures ∙ words_long u in
    let root : length p ≡ 128 = ap length c.encode.ensures.spelling ∙ pointer_long u.root (root_lawful u.root u.len c.requires.root) in
    let rows : length r ≡ 1024 = table_long u.rows 32 c.requires.table.size in
    let name : length n ≡ length (name_field u.name) = ap length c.name_field.ensures in
    let size = c.requires.name.size in
    let first = c.put.ensures [] refl (omega arith, c.zero_block-block.ensures) in
    let second = c.put-2.ensures w words first in
    let at_rows : length (w ++ p) ≡ 256 = omega (arith, length-append w p) in
    let third = c.put_rows.ensures (w ++ p) at_rows second in
    let at_name : length ((w ++ p) ++ r) ≡ 1280 = omega (arith, length-append (w ++ p) r) in
    let fourth = c.put-3.ensures ((w ++ p) ++ r) at_name third in
    let le : length (((w ++ p) ++ r) ++ n) ≤ 4064 = omega (arith, length-append ((w ++ p) ++ r) n) in
    record {
      lawful = c.requires;
      spelling = c.seal.ensures (((w ++ p) ++ r) ++ n) le fourth ∙ laid u w p n c.uber_words.ensures c.encode.ensures.spelling c.name_field.ensures;
    }
