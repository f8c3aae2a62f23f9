-- The entry that comes first.
use Rattle.std.proofs.Common.{◌≡◌, ◌-◌, Bool, true, false, List, [], ◌∷◌, Option, Some, None, take, refl, sym, ◌∙◌}
use Rattle.std.specs.Option.{option_map_or}
use Rattle.std.specs.Map.{lookup, lookup_entry, remove_entry}
use Rattle.lru.specs.LruCache.{LruCache, promoted, put_entries}
use Rattle.lru.proofs.CallerLemmas.{Contains-lookup_entry}
use Rattle.zr_bptr.specs.declared.Bptr.{Bptr}
use Rattle.zr_cache.specs.declared.entry.Key.{Key}
use Rattle.zr_cache.specs.declared.entry.Block.{Block}
use Rattle.zr_cache.specs.contracts.entry.KeyPartialEq.TheImpl as keys
use Rattle.zr_cache.specs.Sums.{Entry}
use Rattle.zr_cache.specs.Entries.{is_first, is_key}
use Rattle.zr_cache.proofs.Keys.{own_key}

no_entry : (test : Key → Bool) (es : List Entry) → lookup_entry test es ≡ None → lookup test es ≡ None
no_entry test [] h = refl
no_entry test (e ∷ es) h = (elim (test e.0) as (λ y. test e.0 ≡ y → lookup test (e ∷ es) ≡ None) [
  | true ↦ λ t. let h' = rw t at h in cc
  | false ↦ λ t. rw t (no_entry test es (rw t at h))
]) refl

-- what was found comes first
pub first_promoted : (b : Bptr) (es : List Entry) (x : Block) → lookup (is_key b) es ≡ Some x → is_first b (promoted (is_key b) es) ≡ true
first_promoted b es x is = by_entry (lookup_entry (is_key b) es) refl
  where
    by_entry : (o : Option Entry) → lookup_entry (is_key b) es ≡ o → is_first b (option_map_or (λ e. e ∷ remove_entry (is_key b) es) o es) ≡ true
    by_entry None at = absurd (let none = no_entry (is_key b) es at in let both = sym is ∙ none in cc)
    by_entry (Some e) at = (Contains-lookup_entry (is_key b) es e at).1

-- and so does what was put
pub first_put : (c : LruCache Key Block) (b : Bptr) (x : Block) → is_first b (put_entries keys.ghosts.eq c (record { pointer = b }) x) ≡ true
first_put c b x = by_entry (lookup_entry (is_key b) c.entries) refl
  where
    by_entry : (o : Option Entry) → lookup_entry (is_key b) c.entries ≡ o → is_first b (option_map_or (λ e. (e.0, x) ∷ remove_entry (is_key b) c.entries) o ((record { pointer = b }, x) ∷ take (c.cap - 1) c.entries)) ≡ true
    by_entry None at = own_key (record { pointer = b })
    by_entry (Some e) at = (Contains-lookup_entry (is_key b) c.entries e at).1
