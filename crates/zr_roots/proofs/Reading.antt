-- What a reader of a shelf has read of a root.
use Rattle.std.proofs.Common.{◌≡◌, inl, inr, ℕ, ◌<◌, ◌≤◌, List, [], map, length, Option, Result, Ok, Err, refl, sym, ◌∙◌, ap, subst, arith}
use Rattle.std.specs.Prelude.{Contains, IfOk, IsErrOf, OnOk}
use Rattle.zr_base.specs.declared.space.SpaceParts.{SpaceParts}
use Rattle.zr_base.specs.declared.space.CkptPart.TheVariants.{Clear, Held}
use Rattle.zr_base.specs.declared.space.DevRow.{DevRow}
use Rattle.zr_bptr.specs.Spelling.{IsTree}
use Rattle.zr_bptr.specs.declared.Bptr.{Bptr}
use Rattle.zr_bptr.specs.declared.Ptr.{Ptr}
use Rattle.zr_bptr.specs.declared.Ptr.TheVariants.{Hole, At}
use Rattle.zr_cache.specs.Entries.{entries}
use Rattle.zr_cache.specs.Sums.{Entry}
use Rattle.zr_cache.specs.declared.table.Cache.{Cache}
use Rattle.zr_image.specs.Reading.{store_of}
use Rattle.zr_import.specs.Causes.{HasCause, HasSavedCause, IsRule}
use Rattle.zr_import.specs.Directories.{IsInPlace}
use Rattle.zr_import.specs.Spending.{HasOlder, MarksHeld}
use Rattle.zr_import.specs.Words.{ReadsMeta, meta_reach}
use Rattle.zr_import.specs.declared.errors.ImportErr.{ImportErr}
use Rattle.zr_import.specs.declared.errors.ImportErr.TheVariants as error
use Rattle.zr_import.specs.declared.metadata.Meta.{Meta}
use Rattle.zr_import.specs.declared.roots.Root.{Root}
use Rattle.zr_label.specs.Blocks.{IsUber}
use Rattle.zr_label.specs.declared.root.Uber.{Uber}
use Rattle.zr_roots.specs.Causes.{IsRootRule, IsSavedUnread, IsUnread, as_saved}
use Rattle.zr_roots.specs.Devices.{HasItsDisks, HasRows}
use Rattle.zr_meta.specs.Heads.{IsHead, IsRootOf as IsDirRoot}
use Rattle.zr_meta.specs.declared.Head.{Head}
use Rattle.zr_objset.specs.Records.{all_reach}
use Rattle.zr_roots.specs.Standing.{IsBase, IsRootOf, StandBlocks, Stands, StandsMeta, blocks_of, image_of}
use Rattle.zr_roots.proofs.Rows.{mounted_rows}
use Rattle.zr_rules.specs.Devices.{devices_of}
use Rattle.zr_rules.specs.Equation.{devices_in}
use Rattle.zr_rules.specs.Space.{Space}
use Rattle.zr_store.specs.Causes.{Account}
use Rattle.zr_store.specs.Store.{Stored}
use Rattle.zr_vdev.specs.Mounts.{AreMounted}
use Rattle.zr_vdev.specs.Runs.{view_of}
use Rattle.zr_vdev.specs.Stores.{HoldsRead}

-- a reader holds the disks as a store, where it has cached nothing
pub holds_image : (slots : List (Option ℕ)) (tells : Type 0) (disks : List (List ℕ)) (space : Space) (cache : Cache) → entries cache ≡ [] → tells → HoldsRead slots tells disks space cache (store_of (view_of disks slots space))
holds_image slots tells disks space cache none told = record {
  told = told;
  read = λ e has. absurd (let h = subst (λ (es : List Entry). Contains es e) none has in let lt = h.1 in omega (arith, lt));
  alone = λ at. omega arith;
  resolves = λ at some. absurd (omega (arith, some));
  bytes = λ b. refl;
}

-- ---- the space of the metadata

module _ (u : Uber) (m : Meta) (s : Space) (h : IsBase u m s) where
  pub base_mounted : (sizes : List ℕ) (slots : List (Option ℕ)) → IsUber u → HasItsDisks sizes slots u → AreMounted sizes slots (devices_in s)
  base_mounted sizes slots is disks = mounted_rows u is sizes slots s disks (subst (λ (ps : SpaceParts). HasRows u ps.devs) (sym h.opened.parts_are) h.rows)

  -- by it the blocks read as by the root
  pub base_blocks : (disks : List (List ℕ)) (slots : List (Option ℕ)) (r : Root) → r.parts ≡ m.parts → store_of (view_of disks slots s) ≡ blocks_of disks slots r
  base_blocks disks slots r is = ap (λ (ps : SpaceParts). store_of (record { disks = disks; slots = slots; devices = devices_of ps.devs })) (h.opened.parts_are ∙ sym is)

-- ---- why it is not read

rule_of : (n : ℕ) → IsRule n → IsRootRule n
rule_of n (inl is) = (omega (arith, is), omega (arith, is), omega (arith, is))
rule_of n (inr (inl is)) = (omega (arith, is), omega (arith, is), omega (arith, is))
rule_of n (inr (inr is)) = (omega (arith, is), omega (arith, is), omega (arith, is))

pub unread_by : {T : Type 0} (before now : Account) (result : Result T ImportErr) → HasCause before now result → IsUnread result
unread_by before now result h = record { rule = λ n is. rule_of n (h.rule n is); damaged = h.damaged }

pub saved_unread_by : {T : Type 0} (before now : Account) (result : Result T ImportErr) → HasSavedCause before now result → IsSavedUnread result
saved_unread_by before now result h = record { rule = h.rule; damaged = h.damaged }

-- what a root is not read for, as the one that saved it tells it
pub saved_error : {S T : Type 0} (e f : ImportErr) → f ≡ as_saved e → IsUnread {T = S} (Err e) → IsSavedUnread {T = T} (Err f)
saved_error {S} {T} (error.Rule n) f is h = subst (λ (x : ImportErr). IsSavedUnread {T = T} (Err x)) (sym is) (record { rule = λ k same. (let e : 8 ≡ k = cc in sym e); damaged = λ at expected found same. absurd cc })
saved_error {S} {T} (error.Damaged at expected found) f is h = subst (λ (x : ImportErr). IsSavedUnread {T = T} (Err x)) (sym is) (record {
  rule = λ n same. absurd cc;
  damaged = λ a e g same. (let one : expected ≡ e = cc in let two : found ≡ g = cc in let apart = h.damaged at expected found refl in λ both. apart (one ∙ (both ∙ sym two)));
})
saved_error {S} {T} error.Failed f is h = subst (λ (x : ImportErr). IsSavedUnread {T = T} (Err x)) (sym is) (record { rule = λ n same. absurd cc; damaged = λ at e g same. absurd cc })
saved_error {S} {T} error.NoMemory f is h = subst (λ (x : ImportErr). IsSavedUnread {T = T} (Err x)) (sym is) (record { rule = λ n same. absurd cc; damaged = λ at e g same. absurd cc })

-- ---- what stands

pub ok_by : {T E : Type 0} (r : Result T E) (P Q : T → Type 0) → ((x : T) → P x → Q x) → IfOk r P → IfOk r Q
ok_by (Ok x) P Q by p = by x p
ok_by (Err e) P Q by p = tt

pub both_ok : {T E : Type 0} (r : Result T E) (P Q R : T → Type 0) → ((x : T) → P x → Q x → R x) → IfOk r P → IfOk r Q → IfOk r R
both_ok (Ok x) P Q R both p q = both x p q
both_ok (Err e) P Q R both p q = tt

pub with_ok : {T E : Type 0} (r : Result T E) (P : T → Type 0) (Q : Type 0) (R : T → Type 0) → ((x : T) → P x → Q → R x) → IfOk r P → OnOk r Q → IfOk r R
with_ok (Ok x) P Q R both p q = both x p q
with_ok (Err e) P Q R both p q = tt

abbrev root_by : Meta → Space → Root
root_by m older = record { head = m.head; parts = m.parts; meta = m.at; older = older }

module _ (disks : List (List ℕ)) (slots : List (Option ℕ)) (txg : ℕ) (m : Meta) (image : Stored) (is : image ≡ store_of (record { disks = disks; slots = slots; devices = devices_of m.parts.devs })) where
  stand_by : (r : Root) → IsRootOf m r → MarksHeld txg m.parts m.at (all_reach image m.head.dir) → IsInPlace image m.head.dir
      → ((since : ℕ) → m.parts.ckpt ≡ Held since → HasOlder txg since m.parts m.at (all_reach image m.head.dir) r.older) → StandBlocks disks slots txg r
  stand_by r root held place older = subst (StandBlocks disks slots txg) (sym root) (record {
    held = subst (λ (s : Stored). MarksHeld txg m.parts m.at (all_reach s m.head.dir)) is held;
    place = subst (λ (s : Stored). IsInPlace s m.head.dir) is place;
    older = λ since at. subst (λ (s : Stored). HasOlder txg since m.parts m.at (all_reach s m.head.dir) r.older) is (older since at);
  })

  pub blocks_stand : (r : Result Root ImportErr) → IfOk r (IsRootOf m) → OnOk r (MarksHeld txg m.parts m.at (all_reach image m.head.dir)) → OnOk r (IsInPlace image m.head.dir)
      → ((since : ℕ) → m.parts.ckpt ≡ Held since → IfOk r (λ (root : Root). HasOlder txg since m.parts m.at (all_reach image m.head.dir) root.older)) → IfOk r (StandBlocks disks slots txg)
  blocks_stand (Ok r) root held place older = stand_by r root held place older
  blocks_stand (Err e) root held place older = tt

  pub saved_stand : (r : Result Root ImportErr) → IfOk r (IsRootOf m) → OnOk r (MarksHeld txg m.parts m.at (all_reach image m.head.dir)) → OnOk r (IsInPlace image m.head.dir) → OnOk r (m.parts.ckpt ≡ Clear) → IfOk r (StandBlocks disks slots txg)
  saved_stand (Ok r) root held place clear = stand_by r root held place (λ since at. absurd (let both = sym clear ∙ at in cc))
  saved_stand (Err e) root held place clear = tt

-- a root whose metadata and whose blocks stand there
pub stands_both : (disks : List (List ℕ)) (slots : List (Option ℕ)) (u : Uber) (m : Meta) (r : Root) → IsRootOf m r → StandsMeta disks slots u m → StandBlocks disks slots u.txg r → Stands disks slots u r
stands_both disks slots u m r root meta blocks = record {
  reads = subst (λ (x : Root). ReadsMeta (image_of disks slots u) u x.head x.parts) (sym root) meta.reads;
  meta = subst (λ (x : Root). x.meta ≡ map (λ (b : Bptr). b.at) (meta_reach (image_of disks slots u) u x.head)) (sym root) meta.at;
  held = blocks.held;
  place = blocks.place;
  older = blocks.older;
}

-- the tree of the directory that a head names
pub dir_tree : (table : List DevRow) (h : Head) → IsHead table h → IsTree h.dir
dir_tree table h is = root_tree h.dir.height h.dir.root is.low is.dir
  where
    root_tree : (height : ℕ) (root : Ptr) → height ≤ 3 → IsDirRoot height root → IsTree (record { root = root; height = height })
    root_tree height Hole low is = record { lawful = tt; level = tt; low = omega (arith, low) }
    root_tree height (At b) low is = record { lawful = is.2; level = is.0; low = omega (arith, low) }
