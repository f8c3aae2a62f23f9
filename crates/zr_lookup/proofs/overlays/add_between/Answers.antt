use Rattle.std.proofs.Common.{◌≡◌, ◌^◌, ◌++◌, ℕ, List, Result, Ok, Err, sym, subst}
use Rattle.std.specs.Prelude.{All, is_ok, OnOk, if◌then◌else◌}
use Rattle.std.specs.declared.alloc.AllocError.{AllocError}
use Rattle.std.proofs.lemmas.List.Elements.{All-take, All-drop, All-append}
use Rattle.zr_bptr.specs.declared.Bptr.{Bptr}
use Rattle.zr_bptr.specs.declared.Ptr.TheVariants.{At}
use Rattle.zr_tree.specs.Blocks.{FitsAt}
use Rattle.zr_txg.specs.Tables.{value_at}
use Rattle.zr_lookup.specs.Lists.{IsBetween, Fills}
use Rattle.zr_lookup.proofs.Keys.{rising, part_between, part_fills}
use Rattle.zr_lookup.proofs.overlays.add_between.Goals as goal

-- what holds of the new list where it was appended to
on_ok : {U : Type 0} (P : List (ℕ × Bptr) → Type 0) (r : Result U AllocError) (old part new : List (ℕ × Bptr)) → new ≡ (if is_ok r then old ++ part else old) → (new ≡ old ++ part → P new) → OnOk r (P new)
on_ok P (Ok u) old part new is h = h is
on_ok P (Err e) old part new is h = tt

pub places_of-from-requires-clause-rising : goal.places_of-from-requires-clause-rising
places_of-from-requires-clause-rising c = rising 0 (2 ^ 25) c.args.leaves.now c.requires.leaves

pub returns-clause-between : goal.returns-clause-between
returns-clause-between c =
    let leaves = c.args.leaves.now in
    let h = c.places_of-from.ensures in
    on_ok (IsBetween 0 c.args.high) c.extend_from_slice.result c.args.out.now.items _ c.extend_from_slice.new.self.items c.extend_from_slice.ensures.items
    (λ is. part_between c.args.low c.args.high _ _ leaves c.args.out.now.items c.extend_from_slice.new.self.items c.requires.leaves c.requires.out c.requires.order h.first h.last is)

pub returns-clause-fills : goal.returns-clause-fills
returns-clause-fills c =
    let leaves = c.args.leaves.now in
    let h = c.places_of-from.ensures in
    on_ok (λ new. Fills c.args.low c.args.high (value_at leaves) c.args.out.now.items new) c.extend_from_slice.result c.args.out.now.items _ c.extend_from_slice.new.self.items c.extend_from_slice.ensures.items
    (λ is. part_fills c.args.low c.args.high _ _ leaves c.args.out.now.items c.extend_from_slice.new.self.items c.requires.leaves c.requires.out c.requires.order h.first h.last is)

pub returns-clause-fit : goal.returns-clause-fit
returns-clause-fit c =
    let P : ℕ × Bptr → Type 0 = λ leaf. FitsAt 0 (At leaf.1) in
    let leaves = c.args.leaves.now in
    on_ok (All P) c.extend_from_slice.result c.args.out.now.items _ c.extend_from_slice.new.self.items c.extend_from_slice.ensures.items
    (λ is. subst (All P) (sym is) (All-append P c.args.out.now.items _ c.requires.out_fit (All-take P _ _ (All-drop P _ leaves c.requires.fit))))
