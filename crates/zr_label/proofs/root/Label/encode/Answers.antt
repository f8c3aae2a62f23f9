use Rattle.std.proofs.Common.{◌≡◌, ◌≤◌, ◌++◌, [], List, ℕ, length, ap, refl, ◌∙◌, arith}
use Rattle.std.proofs.lemmas.List.{length-append}
use Rattle.zr_label.specs.Blocks.{label_block, label_words, name_field, summed}
use Rattle.zr_label.proofs.root.Label.encode.Goals as goal

pub returns : goal.returns
unfolding label_block
returns c =
    let words : length c.label_words.result ≡ 48 = ap length c.label_words.ensures in
    let name : length c.name_field.result ≡ length (name_field c.args.self.now.name) = ap length c.name_field.ensures in
    let size = c.requires.name.size in
    let first = c.put.ensures [] refl (omega arith, c.zero_block-block.ensures) in
    let second = c.put-2.ensures c.label_words.result words first in
    let both = length-append c.label_words.result c.name_field.result in
    let le : length (c.label_words.result ++ c.name_field.result) ≤ 4064 = omega arith in
    record {
      lawful = c.requires;
      spelling =
          c.seal.ensures (c.label_words.result ++ c.name_field.result) le second
          ∙ (ap (λ (t : List ℕ). summed (t ++ c.name_field.result)) c.label_words.ensures
          ∙ ap (λ (t : List ℕ). summed (label_words c.args.self.now ++ t)) c.name_field.ensures);
    }
