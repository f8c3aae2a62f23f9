-- What is owed when a command puts and frees blocks.
use Rattle.std.proofs.Common.{◌≡◌, ℕ, ◌+◌, ◌*◌, ◌≤◌, List, [], ◌∷◌, refl, ◌∙◌, sym, ap, subst, arith}
use Rattle.std.specs.Prelude.{sum_by}
use Rattle.std.proofs.lemmas.List.Sums.{sum_by-cons}
use Rattle.std.proofs.lemmas.Nat.{mul-le}
use Rattle.zr_base.specs.declared.space.Sizes.{Sizes}
use Rattle.zr_owed.proofs.RoomLaws.{metadata-mono}
use Rattle.zr_rules.specs.Columns.{free_units, sizes}
use Rattle.zr_rules.specs.Frees.{Chain}
use Rattle.zr_rules.specs.Owed.{owed, tree_blocks, words_to_come}
use Rattle.zr_rules.specs.Space.{Space, IsLawful}
use Rattle.zr_reckon.proofs.FreePieces.{free_words, free_uncopied, free_others}
use Rattle.zr_reckon.proofs.GroupRoom.{freed_free}
use Rattle.zr_reckon.proofs.Placed.{allocation_words, allocation_frees, allocation_others}
use Rattle.zr_reserve.specs.Commands.{Change, Changes, HasChanged, units_put, pieces_touched, with_pieces}
use Rattle.zr_reserve.specs.Commands.Change.{Put, Freed}
use Rattle.zr_reserve.specs.Covered.{IsCovered}

-- two counts of which each other than words and units to copy is the same
both_same : (x y z : Sizes) → y ≡ (record x { words = y.words; uncopied = y.uncopied }) → z ≡ (record y { words = z.words; uncopied = z.uncopied }) → z ≡ (record x { words = z.words; uncopied = z.uncopied })
both_same x y z p q = q ∙ ap (λ (s : Sizes). let r : Sizes = record s { words = z.words; uncopied = z.uncopied } in r) p

one_change : (c : Change) (old new : Space) → IsLawful old → Changes c old new → HasChanged old new (units_put c) (pieces_touched c)
one_change (Put units) old new l h =
    let w = allocation_words h.0 units old new h.1 h.2 l 0 0 in
    let f = allocation_frees h.0 units old new h.1 h.2 l in
    let o = allocation_others h.0 units old new h.1 h.2 l 0 0 in
    let u = ap (λ (z : Sizes). z.uncopied) o in
    record {
      lawful = h.2.frame.lawful l;
      free = omega (arith, f);
      words = omega (arith, w);
      uncopied = omega (arith, u);
      others = o ∙ ap (λ (n : ℕ). let r : Sizes = record (sizes old 0 0) { words = (sizes new 0 0).words; uncopied = n } in r) (sym u);
    }
one_change (Freed pieces) old new l h =
    let w = free_words old new h.0 h.1 h.2 l h.3 h.4 0 0 in
    let f = freed_free old new h.0 h.1 h.2 in
    let t = h.5 in
    record {
      lawful = h.2.frame.lawful l;
      free = omega (arith, f);
      words = omega (arith, w, t);
      uncopied = free_uncopied old new h.0 h.1 h.2 l 0 0;
      others = free_others old new h.0 h.1 h.2 0 0;
    }

pub all_changes : (changes : List Change) (old new : Space) → IsLawful old → Chain Changes changes old new → HasChanged old new (sum_by units_put changes) (sum_by pieces_touched changes)
all_changes [] old new l h = subst (λ (s : Space). HasChanged old s 0 0) (sym h) (record { lawful = l; free = omega arith; words = omega arith; uncopied = omega arith; others = refl })
all_changes (c ∷ cs) old new l h =
    let p = one_change c old h.0 l h.1 in
    let q = all_changes cs h.0 new p.lawful h.2 in
    let a = sum_by-cons units_put c cs in
    let b = sum_by-cons pieces_touched c cs in
    let f1 = p.free in
    let f2 = q.free in
    let w1 = p.words in
    let w2 = q.words in
    let u1 = p.uncopied in
    let u2 = q.uncopied in
    record {
      lawful = q.lawful;
      free = omega (arith, a, f1, f2);
      words = omega (arith, b, w1, w2);
      uncopied = omega (arith, u1, u2);
      others = both_same (sizes old 0 0) (sizes h.0 0 0) (sizes new 0 0) p.others q.others;
    }

pub command_covered : (old new : Space) (units pieces changed objects later_changed later_objects : ℕ) → HasChanged old new units pieces
    → units + owed (with_pieces (sizes old changed objects) pieces) ≤ free_units old → later_changed ≤ changed → later_objects ≤ objects → IsCovered new later_changed later_objects
command_covered old new units pieces changed objects later_changed later_objects h enough c o =
    let w = h.words in
    let u = h.uncopied in
    let f = h.free in
    let s = ap (λ (z : Sizes). z.streams) h.others in
    let g = ap (λ (z : Sizes). z.gone) h.others in
    let t = ap (λ (z : Sizes). z.turning) h.others in
    let p = ap (λ (z : Sizes). z.past) h.others in
    let b : tree_blocks (sizes new later_changed later_objects) ≤ tree_blocks (sizes old changed objects) = omega (arith, c, o) in
    let m = mul-le (2 * ((sizes new 0 0).gone + 4)) (tree_blocks (sizes new later_changed later_objects)) (2 * ((sizes old 0 0).gone + 4)) (tree_blocks (sizes old changed objects)) (omega (arith, g)) b in
    let x : words_to_come (sizes new later_changed later_objects) ≤ words_to_come (with_pieces (sizes old changed objects) pieces) = omega (arith, w, u, m) in
    let big = metadata-mono (with_pieces (sizes old changed objects) pieces) (sizes new later_changed later_objects) (omega (arith, s)) x (omega (arith, p)) in
    omega (arith, enough, big, b, u, f, t)
