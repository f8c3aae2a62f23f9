-- A pool without a directory.
use Rattle.std.proofs.Common.{◌≡◌, ◌/◌, ◌%◌, ℕ, Bool, true, false, Option, None, nat_lt, refl, sym, ◌∙◌, ap, subst}
use Rattle.std.specs.Prelude.{if◌then◌else◌}
use Rattle.std.specs.FinMap as fin
use Rattle.std.specs.FinMap.{nat_cmp-IsAntisymmetric}
use Rattle.std.specs.Cmp.{nat_cmp_total}
use Rattle.std.specs.Ordering.{nat_cmp}
use Rattle.zr_bptr.specs.declared.Ptr.{Ptr}
use Rattle.zr_bptr.specs.declared.Ptr.TheVariants.{Hole}
use Rattle.zr_bptr.specs.declared.ObjRec.{ObjRec}
use Rattle.zr_bptr.specs.declared.Tree.{Tree}
use Rattle.zr_store.specs.Store.{Stored}
use Rattle.zr_objset.specs.Records.{record_in, record_of}
use Rattle.zr_image.specs.StateOf.{IsObjectOf}
use Rattle.zr_moves.specs.Account.{Account}
use Rattle.zr_held.specs.Steps.{no_tree}
use Rattle.zr_found.specs.Found.{HoldsFound}

module _ (image s : Stored) (a : Account) (dir : a.dir ≡ no_tree) (found : HoldsFound image s a) where
  hole_at : (y : Bool) → (if y then Hole else Hole) ≡ Hole
  hole_at true = refl
  hole_at false = refl

  no_record : (id : ℕ) → record_of image a.dir id ≡ None
  no_record id = ap (λ (t : Tree). record_of image t id) dir ∙ ap (λ (p : Ptr). record_in image p (id % 16)) (hole_at (nat_lt (id / 16) 1))

  pub nothing : found.objects ≡ fin.empty
  nothing = fin.same_map nat_cmp_total nat_cmp-IsAntisymmetric found.objects fin.empty
      (λ id. subst (λ (x : Option ObjRec). IsObjectOf image x (fin.get found.objects id)) (no_record id) (found.are id) ∙ sym (fin.get-empty nat_cmp id))
