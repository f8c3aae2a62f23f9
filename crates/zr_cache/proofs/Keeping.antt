-- What is true of each entry stays true of each over every call.
use Rattle.std.proofs.Common.{◌≡◌, ℕ, Bool, true, false, not, filter, List, Some, None, refl, sym, ap, subst, inl, inr, Contains}
use Rattle.std.specs.List.{list_any}
use Rattle.std.specs.Map.{lookup, remove_entry}
use Rattle.std.proofs.lemmas.List.Elements.{All-contains, All-contains_itself, All-filter, filter_passes}
use Rattle.std.proofs.lemmas.Bool.{not-true}
use Rattle.lru.specs.LruCache.{LruCache, promoted, put_entries}
use Rattle.lru.proofs.CallerLemmas.{Contains-promoted, Contains-remove_entry, Contains-put_entries, Contains-lookup}
use Rattle.zr_bptr.specs.declared.Bptr.{Bptr}
use Rattle.zr_imap.specs.declared.image.Piece.{Piece}
use Rattle.zr_cache.specs.declared.entry.Key.{Key}
use Rattle.zr_cache.specs.declared.entry.Block.{Block}
use Rattle.zr_cache.specs.declared.table.Cache.{Cache}
use Rattle.zr_cache.specs.contracts.entry.KeyPartialEq.TheImpl as keys
use Rattle.zr_cache.specs.Sums.{Entry}
use Rattle.zr_cache.specs.Entries.{entries, is_key, bytes_in, meets, is_in, HoldsIn, Holds}
use Rattle.zr_cache.proofs.Keys.{pointer_of_key}

-- an entry of what a filter leaves was there, and passes
pub Contains-filtered : {X : Type 0} (p : X → Bool) (xs : List X) (x : X) → Contains (filter p xs) x → Contains xs x × (p x ≡ true)
Contains-filtered p xs x h =
    (All-contains (Contains xs) (filter p xs) x (All-filter p (Contains xs) xs (All-contains_itself xs)) h, All-contains (λ y. p y ≡ true) (filter p xs) x (filter_passes p xs) h)

module _ (Is : Bptr → List ℕ → List Piece → Type 0) (old new : List Entry) (holds : HoldsIn Is old) where
  -- the block that is found is that of an entry
  pub found-block : (b : Bptr) (x : Block) → lookup (is_key b) old ≡ Some x → Is b x.bytes.items x.runs.items
  found-block b x is =
      let at = Contains-lookup (is_key b) old x is in
      subst (λ p. Is p x.bytes.items x.runs.items) (pointer_of_key b at.0 at.2) (holds (at.0, x) at.1)

  pub holds-promoted : (b : Bptr) → new ≡ promoted (is_key b) old → HoldsIn Is new
  holds-promoted b is e among = holds e (Contains-promoted (is_key b) old e (subst (λ es. Contains es e) is among))

  pub holds-forgotten : (b : Bptr) → new ≡ remove_entry (is_key b) old → HoldsIn Is new
  holds-forgotten b is e among = holds e (Contains-remove_entry (is_key b) old e (subst (λ es. Contains es e) is among))

  -- no entry that is left has a unit of the run
  pub holds-apart : (run : Piece) → new ≡ filter (λ e. not (is_in run e)) old → HoldsIn (λ b bytes runs. Is b bytes runs × (list_any (meets run) runs ≡ false)) new
  holds-apart run is e among =
      let left = Contains-filtered (λ f. not (is_in run f)) old e (subst (λ es. Contains es e) is among) in (holds e left.0, not-true (is_in run e) left.1)

pub holds-put : (Is : Bptr → List ℕ → List Piece → Type 0) (old : LruCache Key Block) (new : List Entry) → HoldsIn Is old.entries → (b : Bptr) (x : Block)
    → new ≡ put_entries keys.ghosts.eq old (record { pointer = b }) x → Is b x.bytes.items x.runs.items → HoldsIn Is new
holds-put Is old new holds b x is given e among = elim (Contains-put_entries keys.ghosts.eq old (record { pointer = b }) x e (subst (λ es. Contains es e) is among)) [
  | inl was ↦ holds e was
  | inr (block, key) ↦
      let pointer : e.0.pointer ≡ b = elim key [ inl k ↦ ap (λ (j : Key). j.pointer) k | inr (w, was, k) ↦ pointer_of_key b e.0 k ] in
      subst (λ p. Is p e.1.bytes.items e.1.runs.items) (sym pointer) (subst (λ (y : Block). Is b y.bytes.items y.runs.items) (sym block) given)
]

-- the bytes that are found in a cache are those of an entry
pub found : (Is : Bptr → List ℕ → List Piece → Type 0) (c : Cache) → Holds Is c → (b : Bptr) (bytes : List ℕ) → bytes_in c b ≡ Some bytes → (runs : List Piece) × Is b bytes runs
found Is c holds b bytes is = (elim (lookup (is_key b) (entries c)) as (λ o. lookup (is_key b) (entries c) ≡ o → (runs : List Piece) × Is b bytes runs) [
  | None ↦ λ o. let h = rw o at is in cc
  | Some x ↦ λ o. let h = rw o at is in
      let same : x.bytes.items ≡ bytes = cc in
      (x.runs.items, subst (λ bs. Is b bs x.runs.items) same (found-block Is (entries c) (entries c) holds b x o))
]) refl
