-- The units in which the head of a root lies, through the steps of a commit.
use Rattle.std.proofs.Common.{◌≡◌, ◌∙◌, ℕ, ◌<◌, Bool, true, false, List, [], ◌∷◌, Option, sym, ap, subst, arith}
use Rattle.std.specs.Prelude.{All, if◌then◌else◌}
use Rattle.std.proofs.Math.Path.{fun_ext}
use Rattle.std.proofs.lemmas.List.Elements.{All-cons, All-nil, All-weaker}
use Rattle.std.proofs.lemmas.List.Sums.{sum_by-cons}
use Rattle.zr_base.specs.declared.space.DevRow.{DevRow}
use Rattle.zr_base.specs.declared.space.Dva.{Dva}
use Rattle.zr_bptr.specs.declared.Bptr.{Bptr}
use Rattle.zr_bptr.specs.declared.Ptr.{Ptr}
use Rattle.zr_cache.specs.declared.table.Cache.{Cache}
use Rattle.zr_commit.specs.Heads.{StoresHead}
use Rattle.zr_image.specs.Reading.{store_of}
use Rattle.zr_meta.specs.declared.Head.{Head}
use Rattle.zr_objset.proofs.Keeping.{tree_same}
use Rattle.zr_rules.specs.Devices.{Devices}
use Rattle.zr_rules.specs.Equation.{devices_in}
use Rattle.zr_rules.specs.Resolve.{leads_to}
use Rattle.zr_rules.specs.Roles.{Role, aged, cleared, is_meta_role}
use Rattle.zr_rules.specs.Space.{Space, role_at}
use Rattle.zr_rules.specs.Steps.{Commits}
use Rattle.zr_store.proofs.Keeping.{one_itself}
use Rattle.zr_store.proofs.Meeting.{at_each}
use Rattle.zr_store.specs.Store.{Stored, hits, one_at}
use Rattle.zr_tree.proofs.Frames.{Agree}
use Rattle.zr_tree.specs.Trees.{tree_reach}
use Rattle.zr_vdev.proofs.Uses.{use_roles}
use Rattle.zr_vdev.specs.Runs.{view_of}
use Rattle.zr_vdev.specs.Stores.{HoldsBlocks, IsInUse, IsStoredAt}
use Rattle.zr_vdev.specs.declared.kind.Kind.{Kind}
use Rattle.zr_vdev.specs.declared.kind.Kind.TheVariants.{Meta}
use Rattle.zr_view.specs.Views.{View, address_bytes}
use Rattle.zr_sync.specs.Heads.{HasSafeHead, IsInMetadata, LiesInMetadata}
use Rattle.zr_sync.specs.declared.open.OpenPool.{OpenPool}
use Rattle.zr_sync.specs.declared.open.Table.{Table}
use Rattle.zr_sync.proofs.Groups.{commits_devices}

-- ---- a head that is stored

-- what holds of the address of each block that is met holds of all
pub all_met : (P : Dva → Type 0) (bs : List Bptr) → ((b : Bptr) → 0 < hits bs b.at → P b.at) → All (λ (b : Bptr). P b.at) bs
all_met P [] each = All-nil (λ (b : Bptr). P b.at)
all_met P (b ∷ bs) each =
    All-cons (λ (x : Bptr). P x.at) b bs
    (each b (let one = one_itself b in omega (arith, one, sum_by-cons (one_at b.at) b bs)))
    (all_met P bs (λ x met. each x (omega (arith, met, sum_by-cons (one_at x.at) b bs))))

-- a head that is stored as metadata lies in metadata
pub stored_safe : (kind : Kind) (slots : List (Option ℕ)) (tells : Type 0) (disks : List (List ℕ)) (space : Space) (lost : Option Dva) (cache : Cache) (table : List DevRow) (s n : Stored) (h : Head) (root : Ptr) (len : ℕ)
    → kind ≡ Meta → HoldsBlocks kind slots tells disks space lost cache n → StoresHead table s n h root len → LiesInMetadata space (view_of disks slots space) root len
stored_safe kind slots tells disks space lost cache table s n h root len meta held w t is =
    subst (All (λ (b : Bptr). IsInMetadata space b.at)) (sym reach) (all_met (IsInMetadata space) (tree_reach n t) in_metadata)
  where
    there : (b : Bptr) → 0 < hits (tree_reach n t) b.at → IsStoredAt kind space lost b.at
    there b met = let e = (w.stored t is).came.stored (one_at b.at) in at_each (IsStoredAt kind space lost) n.pointers b.at held.stored (omega (arith, e, met))

    in_metadata : (b : Bptr) → 0 < hits (tree_reach n t) b.at → IsInMetadata space b.at
    in_metadata b met = use_roles Meta space b.at (subst (λ (k : Kind). IsInUse k space b.at) meta (there b met).used)

    agree : Agree n (store_of (view_of disks slots space)) (tree_reach n t)
    agree = record { same = λ b met. sym (held.there b (there b met)) }

    reach : tree_reach (store_of (view_of disks slots space)) t ≡ tree_reach n t
    reach = (tree_same n (store_of (view_of disks slots space)) t agree).same_reach

-- ---- through the steps behind it

-- where each address has its bytes
pub safe_same : (space : Space) (v w : View) (root : Ptr) (len : ℕ) → ((a : Dva) → address_bytes w a ≡ address_bytes v a) → LiesInMetadata space v root len → LiesInMetadata space w root len
safe_same space v w root len same safe t is =
    subst (λ (f : Bptr → List ℕ). All (λ (b : Bptr). IsInMetadata space b.at) (tree_reach (with_bytes f) t)) (fun_ext (λ (p : Bptr). sym (same p.at))) (safe t is)
  where
    with_bytes : (Bptr → List ℕ) → Stored
    with_bytes f = record { pointers = []; bytes = f }

meta_ages : (r : Role) → is_meta_role r ≡ true → is_meta_role (aged r) ≡ true
meta_ages r is = grind (arith, is)

meta_clears : (r : Role) → is_meta_role r ≡ true → is_meta_role (cleared r) ≡ true
meta_clears r is = grind (arith, is)

meta_ends : (reset : Bool) (r q : Role) → q ≡ (if reset then cleared r else aged r) → is_meta_role r ≡ true → is_meta_role q ≡ true
meta_ends true r q is meta = ap is_meta_role is ∙ meta_clears r meta
meta_ends false r q is meta = ap is_meta_role is ∙ meta_ages r meta

-- a group that ends leaves metadata where it is
pub ended_safe : (reset : Bool) (disks : List (List ℕ)) (x y : OpenPool) (root : Ptr) (len : ℕ) → y.table ≡ x.table → Commits reset x.space y.space → HasSafeHead disks x root len → HasSafeHead disks y root len
ended_safe reset disks x y root len table commits safe =
    subst (λ (v : View). LiesInMetadata y.space v root len) (sym views)
    (λ t is. All-weaker (λ (b : Bptr). IsInMetadata x.space b.at) (λ (b : Bptr). IsInMetadata y.space b.at) (λ b lies. still b.at lies) (tree_reach (store_of (view_of disks x.table.slots x.space)) t) (safe t is))
  where
    devices : devices_in y.space ≡ devices_in x.space
    devices = commits_devices reset x.space y.space commits

    as_view : Devices → View
    as_view ds = record { disks = disks; slots = x.table.slots; devices = ds }

    views : view_of disks y.table.slots y.space ≡ view_of disks x.table.slots x.space
    views = ap (λ (t : Table). view_of disks t.slots y.space) table ∙ ap as_view devices

    still : (a : Dva) → IsInMetadata x.space a → IsInMetadata y.space a
    still a lies d u leads = meta_ends reset (role_at x.space d u) (role_at y.space d u) (commits.roles d u) (lies d u (subst (λ (ds : Devices). leads_to ds a d u ≡ true) devices leads))
