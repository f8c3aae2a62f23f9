-- What a tree block spells are the pointers in it.
use Rattle.std.proofs.Common.{◌≡◌, ◌<◌, ℕ, zero, suc, List, [], ◌∷◌, length, map, nat_eq, get_or, false, Bool, refl, ◌∙◌, ap, arith}
use Rattle.std.specs.Prelude.{All, if◌then◌else◌}
use Rattle.std.specs.List.{AllByRecursion, sum_by}
use Rattle.std.proofs.lemmas.Bool.{ne_eqb}
use Rattle.std.proofs.lemmas.List.Elements.{All-head, All-tail}
use Rattle.std.proofs.lemmas.List.Sums.{sum_by-cons}
use Rattle.zr_bptr.specs.declared.Bptr.{Bptr}
use Rattle.zr_bptr.specs.declared.Ptr.{Ptr}
use Rattle.zr_bptr.specs.declared.Ptr.TheVariants.{Hole, At}
use Rattle.zr_bptr.specs.Fields.{fields_of}
use Rattle.zr_bptr.specs.Spelling.{SpellsTreeBlock, IsLawful, IsOfLevel, pointer_bytes, fill_of}
use Rattle.zr_bptr.proofs.Spelled.{fields_back}
use Rattle.zr_bptr.proofs.Pieces.{each_of_block}
use Rattle.zr_tree.specs.Blocks.{FitsAt, read_pointer, pointers_in}

no_len : (fields_of (pointer_bytes Hole)).at.len ≡ 0
unfolding fields_of pointer_bytes
no_len = refl

read_back : (p : Ptr) → IsLawful p → read_pointer (pointer_bytes p) ≡ p
read_back Hole lawful = ap (λ (n : ℕ). if nat_eq n 0 then Hole else At (fields_of (pointer_bytes Hole))) no_len
read_back (At b) lawful =
    let back = fields_back b lawful in
    let some = lawful.address.some in
    let not_none : nat_eq b.at.len 0 ≡ false = ne_eqb b.at.len 0 (λ e. omega arith) in
    ap (λ (x : Bptr). if nat_eq x.at.len 0 then Hole else At x) back ∙ ap (λ (t : Bool). if t then Hole else At b) not_none

reads_back : (ps : List Ptr) → AllByRecursion IsLawful ps → map read_pointer (map pointer_bytes ps) ≡ ps
reads_back [] lawful = refl
reads_back (p ∷ ps) lawful = ap (λ (q : Ptr). q ∷ map read_pointer (map pointer_bytes ps)) (read_back p lawful.0) ∙ ap (λ (qs : List Ptr). p ∷ qs) (reads_back ps lawful.1)

pub spelled : (bytes : List ℕ) (below fill : ℕ) (ps : List Ptr) → SpellsTreeBlock bytes below fill ps → pointers_in bytes ≡ ps
unfolding pointers_in
spelled bytes below fill ps spells =
    let each = each_of_block bytes below fill ps spells in
    ap (map read_pointer) each.spelling ∙ reads_back ps each.lawful

pub all_lawful : (below : ℕ) (ps : List Ptr) → All (FitsAt below) ps → AllByRecursion IsLawful ps
all_lawful below [] all = tt
all_lawful below (p ∷ ps) all = ((All-head (FitsAt below) p ps all).1, all_lawful below ps (All-tail (FitsAt below) p ps all))

pub all_of_level : (below : ℕ) (ps : List Ptr) → All (FitsAt below) ps → AllByRecursion (IsOfLevel below) ps
all_of_level below [] all = tt
all_of_level below (p ∷ ps) all = ((All-head (FitsAt below) p ps all).0, all_of_level below ps (All-tail (FitsAt below) p ps all))

-- pointers that are not all holes have leaves
pub some_leaves : (below : ℕ) (ps : List Ptr) → All (FitsAt below) ps → ¬ All (λ p. p ≡ Hole) ps → 0 < sum_by fill_of ps
some_leaves below [] all not_holes = absurd (not_holes (λ k d lt. absurd (omega arith)))
some_leaves below (At b ∷ ps) all not_holes =
    let some = (All-head (FitsAt below) (At b) ps all).1.some in
    omega (arith, sum_by-cons fill_of (At b) ps, some)
some_leaves below (Hole ∷ ps) all not_holes =
    let rest = some_leaves below ps (All-tail (FitsAt below) Hole ps all) (λ holes. not_holes (λ k d lt. at k d lt holes)) in
    omega (arith, sum_by-cons fill_of Hole ps, rest)
  where
    at : (k : ℕ) (d : Ptr) → k < length (Hole ∷ ps) → All (λ p. p ≡ Hole) ps → get_or (Hole ∷ ps) k d ≡ Hole
    at zero d lt holes = refl
    at (suc k) d lt holes = holes k d (omega arith)
