use Rattle.std.proofs.Common.{◌≡◌, ◌++◌, map, take}
use Rattle.zr_script.specs.ReplyText.{with_spaces, word_text}
use Rattle.zr_script.proofs.replies.put_words.Given as goal

abbrev pub invariant-loop-word : goal.invariant-loop-word
invariant-loop-word l = l.text.items ≡ l.fn.text.items ++ with_spaces (map word_text (take l.word-index l.words))
