-- What the cache keeps over reads.
use Rattle.std.proofs.Common.{◌≡◌, ℕ, List, Option, Some, sym, subst, false, not, filter, [], ◌∷◌, Contains, ◌∙◌, ap, inl, inr}
use Rattle.lru.proofs.CallerLemmas.{Contains-put_entries}
use Rattle.std.proofs.lemmas.Bool.{not-true}
use Rattle.std.specs.List.{list_any}
use Rattle.lru.specs.LruCache.{promoted}
use Rattle.zr_bptr.specs.declared.Bptr.{Bptr}
use Rattle.zr_shelf.specs.Disks.{Stand}
use Rattle.zr_shelf.specs.Moments.{World, IsStill}
use Rattle.zr_rules.specs.Space.{Space}
use Rattle.zr_view.specs.Views.{address_bytes}
use Rattle.zr_cache.specs.declared.entry.Block.{Block}
use Rattle.zr_cache.specs.declared.table.Cache.{Cache}
use Rattle.zr_cache.specs.declared.entry.Key.{Key}
use Rattle.zr_cache.specs.contracts.entry.KeyPartialEq.TheImpl as keys
use Rattle.zr_cache.specs.Sums.{Entry}
use Rattle.zr_cache.specs.Entries.{entries, is_key, with_entry, bytes_in, is_in, meets}
use Rattle.zr_cache.proofs.Keys.{pointer_of_key}
use Rattle.zr_imap.specs.declared.image.Piece.{Piece}
use Rattle.zr_chain.specs.Visits.{as_part}
use Rattle.zr_cache.proofs.Keeping.{Contains-filtered, holds-promoted, holds-put, found}
use Rattle.zr_vdev.specs.Runs.{view_of}
use Rattle.zr_vdev.specs.Caches.{IsRead, AreRead, KeepsBlock}

module _ (disks : List (List ℕ)) (slots : List (Option ℕ)) (s : Space) where
  pub read_promoted : (old new : Cache) (b : Bptr) → entries new ≡ promoted (is_key b) (entries old) → AreRead disks slots s old → AreRead disks slots s new
  read_promoted old new b is read = holds-promoted (IsRead disks slots s) (entries old) (entries new) read b is

  pub read_put : (old new : Cache) (b : Bptr) (x : Block) → entries new ≡ with_entry old b x → IsRead disks slots s b x.bytes.items x.runs.items → AreRead disks slots s old → AreRead disks slots s new
  read_put old new b x is given read = holds-put (IsRead disks slots s) old.blocks (entries new) read b x is given

  pub read_found : (c : Cache) (b : Bptr) (bytes : List ℕ) → bytes_in c b ≡ Some bytes → AreRead disks slots s c → bytes ≡ address_bytes (view_of disks slots s) b.at
  read_found c b bytes is read = (found (IsRead disks slots s) c read b bytes is).1.same

-- where nothing has changed on the disks
pub read_still : (slots : List (Option ℕ)) (s : Space) (c : Cache) (old new : World) → IsStill old new → AreRead old.now.seen slots s c → AreRead new.now.seen slots s c
read_still slots s c old new still read = subst (λ (stand : Stand). AreRead stand.seen slots s c) (sym still.now) read

-- ---- a block that comes

abbrev alone : Piece → List Piece
alone r = r ∷ []

module _ (old mid : Cache) (b : Bptr) (run : Piece) (left : entries mid ≡ filter (λ e. not (is_in run e)) (entries old)) (is : run ≡ as_part b.at) where
  -- what is left has no unit of the block
  apart_from_it : (e : Entry) → Contains (entries mid) e → Contains (entries old) e × (list_any (meets (as_part b.at)) e.1.runs.items ≡ false)
  apart_from_it e among =
      let x = Contains-filtered (λ f. not (is_in run f)) (entries old) e (subst (λ es. Contains es e) left among) in
      (x.0, subst (λ (r : Piece). list_any (meets r) e.1.runs.items ≡ false) is (not-true (is_in run e) x.1))

  pub keeps_forgotten : (bytes : List ℕ) → KeepsBlock old mid b bytes
  keeps_forgotten bytes e among = inl (apart_from_it e among)

  pub keeps_put : (new : Cache) (x : Block) (bytes : List ℕ) → entries new ≡ with_entry mid b x → x.bytes.items ≡ bytes → x.runs.items ≡ run ∷ [] → KeepsBlock old new b bytes
  keeps_put new x bytes put same one e among = elim (Contains-put_entries keys.ghosts.eq mid.blocks (record { pointer = b }) x e (subst (λ es. Contains es e) put among)) [
    | inl was ↦ inl (apart_from_it e was)
    | inr (block, key) ↦
        let pointer : e.0.pointer ≡ b = elim key [ inl k ↦ ap (λ (j : Key). j.pointer) k | inr (w, was, k) ↦ pointer_of_key b e.0 k ] in
        inr (pointer, ap (λ (y : Block). y.bytes.items) block ∙ same, ap (λ (y : Block). y.runs.items) block ∙ (one ∙ ap (λ (r : Piece). alone r) is))
  ]
