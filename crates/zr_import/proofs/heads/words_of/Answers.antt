use Rattle.std.proofs.Common.{◌≡◌, ◌/◌, ◌∷◌, [], length, subst, sym, arith, List, ℕ, get_or, ap, ◌∙◌}
use Rattle.std.proofs.lemmas.List.{length-append}
use Rattle.zr_root.proofs.Standing.{AreSmall, piece_small, piece_long, words_more, words_all}
use Rattle.zr_import.proofs.heads.words_of.Goals as goal

pub loop-piece-preserved : goal.loop-piece-preserved
loop-piece-preserved c =
    let pieces = c.as_chunks.result.0.now in
    let bytes = c.args.bytes.now in
    let i = c.loop-piece.piece-index in
    let small : AreSmall (get_or pieces i []) = subst (λ (cs : List (List ℕ)). AreSmall (get_or cs i [])) (sym c.as_chunks.ensures.front) (piece_small 8 (length bytes / 8) i bytes (λ j. omega (arith, c.type_inv.bytes j))) in
    let long : length (get_or pieces i []) ≡ 8 = ap (λ (cs : List (List ℕ)). length (get_or cs i [])) c.as_chunks.ensures.front ∙ piece_long 8 (length bytes / 8) i bytes (omega (arith, c.loop-piece-test.true, c.as_chunks.ensures.front_len)) (omega arith) in
    record {
      count = let e = ap (λ (xs : List ℕ). length xs) c.in_ok-push.ensures.items in omega (arith, e, length-append c.loop-piece.ns.items (c.from_le_bytes.result ∷ []), c.loop-piece.invariant.count);
      words = words_more c.loop-piece.ns.items c.push.new.self.items c.from_le_bytes.result i pieces c.loop-piece-test.true c.in_ok-push.ensures.items c.from_le_bytes.ensures long small c.loop-piece.invariant.words;
    }

pub returns : goal.returns
returns c = record {
  words = λ n long. words_all c.loop-piece.ns.items c.args.bytes.now c.loop-piece.piece-index n c.as_chunks.result.0.now long c.as_chunks.ensures.front c.loop-piece.invariant.count c.loop-piece-test.false c.loop-piece.auto.piece-index-end c.loop-piece.invariant.words;
}
