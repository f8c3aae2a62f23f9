-- What a store in memory holds after a call.
use Rattle.std.proofs.Common.{◌≡◌, ◌∙◌, ◌+◌, ◌<◌, ℕ, List, [], ◌∷◌, ◌++◌, length, get_or, refl, sym, subst, true}
use Rattle.std.specs.List.{remove}
use Rattle.zr_bptr.specs.declared.Bptr.{Bptr}
use Rattle.zr_store.specs.Store.{Stored, Swaps, Puts, Now, AreStored, one_at}
use Rattle.zr_store.specs.declared.memory.Kept.{Kept}
use Rattle.zr_store.specs.Memory.{is_within, stored_of, IsSound, IsHeld}
use Rattle.zr_store.proofs.Keeping.{put_swaps, put_sound, given_last, fresh_hits, free_swaps, free_sound}

put_into : (units next len : ℕ) (ks : List Kept) (k : Kept) (bytes : List ℕ) → 0 < len → k.at.at.start ≡ next → is_within units k.at.at ≡ true → k.bytes.items ≡ bytes → IsSound units next ks
    → Now (IsHeld units (next + len) (ks ++ k ∷ [])) (Puts (stored_of ks) k.at bytes)
put_into units next len ks k bytes some is in_it copied sound =
    let fresh = fresh_hits next ks k.at.at sound.below is in
    record {
      stored = stored_of (ks ++ k ∷ []);
      held = record { sound = put_sound units next len ks k some is in_it sound; same = refl };
      is = record { fresh = fresh; given = given_last ks k fresh ∙ copied; swaps = put_swaps ks k };
    }

pub put_held : (units next len : ℕ) (ks now : List Kept) (k : Kept) (s : Stored) → 0 < len → k.at.at.start ≡ next → is_within units k.at.at ≡ true → now ≡ ks ++ k ∷ [] → (bytes : List ℕ) → k.bytes.items ≡ bytes → IsHeld units next ks s
    → Now (IsHeld units (next + len) now) (Puts s k.at bytes)
put_held units next len ks now k s some is in_it now_is bytes copied held =
    let all = put_into units next len ks k bytes some is in_it copied held.sound in
    let from = subst (λ (t : Stored). Now (IsHeld units (next + len) (ks ++ k ∷ [])) (Puts t k.at bytes)) (sym held.same) all in
    subst (λ (xs : List Kept). Now (IsHeld units (next + len) xs) (Puts s k.at bytes)) (sym now_is) from

pub free_held : (units next : ℕ) (ks now : List Kept) (i : ℕ) (d : Kept) (b : Bptr) (s : Stored) → i < length ks → one_at b.at (get_or ks i d).at ≡ 1 → now ≡ remove ks i → IsHeld units next ks s → AreStored (b ∷ []) s
    → Now (IsHeld units next now) (λ n. Swaps s n (b ∷ []) [])
free_held units next ks now i d b s lt is now_is held stored =
    let there = subst (AreStored (b ∷ [])) held.same stored in
    let gone = free_swaps ks i d b lt (held.sound.once b.at) is there in
    let all : Now (IsHeld units next (remove ks i)) (λ n. Swaps s n (b ∷ []) []) = record {
      stored = stored_of (remove ks i);
      held = record { sound = free_sound units next ks i d lt held.sound; same = refl };
      is = subst (λ (t : Stored). Swaps t (stored_of (remove ks i)) (b ∷ []) []) (sym held.same) gone;
    } in
    subst (λ (xs : List Kept). Now (IsHeld units next xs) (λ n. Swaps s n (b ∷ []) [])) (sym now_is) all
