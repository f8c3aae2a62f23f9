use Rattle.std.proofs.Common.{List, ◌∙◌, length, ap, arith, length-append}
use Rattle.zr_base.specs.declared.space.Entry.{Entry}
use Rattle.zr_sync.proofs.MappingWords.{storable_at, words_more}
use Rattle.zr_sync.proofs.mappings.words_of_entries.Goals as goal

pub loop-entry-preserved : goal.loop-entry-preserved
loop-entry-preserved c =
    let es = c.args.entries.now in
    let i = c.loop-entry.entry-index in
    let no_entry : Entry = record { src = 0; dev = 0; dst = 0; len = 0 } in
    let items = c.in_ok-extend_from_slice.ensures.items in
    let had = c.loop-entry.invariant.count in
    record {
      count = let long = ap (λ (xs : List _). length xs) items in let both = length-append c.loop-entry.words.items c.entry_words.result in omega (arith, long, both, had);
      words = λ all. items ∙ words_more es i no_entry c.loop-entry.words.items c.entry_words.result c.loop-entry-test.true (c.loop-entry.invariant.words all) (c.entry_words.ensures (storable_at es i no_entry c.loop-entry-test.true all));
    }
