-- A step of discarding, and the counts behind it.
use Rattle.std.proofs.Common.{◌≡◌, ◌≢◌, ℕ, zero, suc, ◌+◌, ◌<◌, ◌≤◌, ◌^◌, Bool, true, false, not, ◌&&◌, ◌||◌, ◌==◌, nat_le, List, [], ◌∷◌, ◌++◌, length, map, take, drop, refl, ◌∙◌, sym, ap, ap₂, subst, arith, if◌then◌else◌, ⊎_elim}
use Rattle.std.specs.Prelude.{MatchBool}
use Rattle.std.specs.List.{sum_by, range_with_len, flat_map, enumerate_from}
use Rattle.std.proofs.lemmas.Bool.{cases_eq}
use Rattle.std.proofs.lemmas.Bool.Decides.{nat_tests}
use Rattle.zr_base.specs.declared.space.Extent.{Extent}
use Rattle.zr_base.specs.declared.space.DevPart.{DevPart}
use Rattle.zr_base.specs.declared.space.DevRow.{DevRow}
use Rattle.zr_base.specs.declared.space.CkptPart.TheVariants as ckpt
use Rattle.zr_base.specs.Extents.{has_unit, IsMaximal}
use Rattle.zr_base.proofs.ExtentSets.{same_extents}
use Rattle.zr_rules.specs.Owed.{set_words}
use Rattle.zr_rules.specs.Places.{part_of, is_leaving, is_kept, state_of_dev}
use Rattle.zr_rules.specs.Mappings.{end_of_last}
use Rattle.zr_rules.specs.Roles.{Role, discarded, is_held_role, is_kept_role}
use Rattle.zr_rules.specs.Roles.Role.{Absent, Free, FreshLive, Live, FreshCopy, Copy, Kept, DeferredBlock, DeferredMeta, Late1Block, Late1Meta, Late2Block, Late2Meta, Meta, SavedMeta}
use Rattle.zr_rules.specs.Space.{Space, opened_of, role_at, frontier, IsLawful}
use Rattle.zr_rules.specs.Columns.{device_words, units_from, sizes}
use Rattle.zr_rules.specs.Steps.{kept_extents, is_among, Discards, DiscardsSome, with_ckpt}
use Rattle.zr_reckon.specs.Uses.{is_room_role, room}
use Rattle.zr_reckon.proofs.Bits.{is_deferred_block, is_late1_meta, is_late2_meta}
use Rattle.zr_reckon.proofs.RoleSets.{held_is, kept_is, deferred_is}
use Rattle.zr_reckon.proofs.MoreSets.{all_come, all_go, words_append, front_words, rest_maximal, has_append, front_apart}
use Rattle.zr_reckon.proofs.Counting.{count_more, sum_less}
use Rattle.zr_reckon.proofs.Frames.{fresh_same, words_move, sized, streams_same, gone_same, room_same}
use Rattle.zr_reckon.proofs.Lates.{turning_same, past_same}
use Rattle.zr_reckon.proofs.Uncopied.{from_counted}

-- ---- the extents of one device among those of all

abbrev of_dev : ℕ → List (ℕ × Extent) → List Extent
of_dev d [] = []
of_dev d (e ∷ es) = if e.0 == d then e.1 ∷ of_dev d es else of_dev d es

among_is : (es : List (ℕ × Extent)) (d u : ℕ) → is_among es d u ≡ has_unit (of_dev d es) u
among_is [] d u = refl
among_is (e ∷ es) d u = let r = among_is es d u in ⊎_elim
    (λ here. grind (arith, nat_tests, r, here))
    (λ away. grind (arith, nat_tests, r, away))
    (cases_eq e.0 d)

of_dev-append : (d : ℕ) (xs ys : List (ℕ × Extent)) → of_dev d (xs ++ ys) ≡ of_dev d xs ++ of_dev d ys
of_dev-append d [] ys = refl
of_dev-append d (x ∷ xs) ys = by_test (x.0 == d) refl (of_dev-append d xs ys)
  where
    by_test : (b : Bool) → (x.0 == d) ≡ b → of_dev d (xs ++ ys) ≡ of_dev d xs ++ of_dev d ys → of_dev d ((x ∷ xs) ++ ys) ≡ of_dev d (x ∷ xs) ++ of_dev d ys
    by_test true is r = rw is (ap (λ (l : List Extent). x.1 ∷ l) r)
    by_test false is r = rw is r

take_and_drop : {X : Type 0} (n : ℕ) (xs : List X) → take n xs ++ drop n xs ≡ xs
take_and_drop zero xs = refl
take_and_drop (suc n) [] = refl
take_and_drop {X} (suc n) (x ∷ xs) = ap (λ (l : List X). x ∷ l) (take_and_drop n xs)

tagged_here : (d : ℕ) (es : List Extent) → of_dev d (map (λ (e : Extent). (d, e)) es) ≡ es
tagged_here d [] = refl
tagged_here d (e ∷ es) = let is : (d == d) ≡ true = grind (arith, nat_tests) in rw is (ap (λ (l : List Extent). e ∷ l) (tagged_here d es))

tagged_away : (k d : ℕ) (es : List Extent) → k ≢ d → of_dev d (map (λ (e : Extent). (k, e)) es) ≡ []
tagged_away k d [] away = refl
tagged_away k d (e ∷ es) away = let is : (k == d) ≡ false = grind (arith, nat_tests, away) in rw is (tagged_away k d es away)

abbrev from_index : ℕ → List DevPart → List (ℕ × Extent)
from_index k devs = flat_map (λ (p : ℕ × DevPart). map (λ e. (p.0, e)) p.1.kept) (enumerate_from k devs)

kept_below : (k d : ℕ) (devs : List DevPart) → d < k → of_dev d (from_index k devs) ≡ []
kept_below k d [] lt = refl
kept_below k d (p ∷ devs) lt =
    of_dev-append d (map (λ (e : Extent). (k, e)) p.kept) (from_index (k + 1) devs)
    ∙ ap₂ (λ (xs ys : List Extent). xs ++ ys) (tagged_away k d p.kept (λ e. omega (arith, lt, e))) (kept_below (k + 1) d devs (omega (arith, lt)))

kept_at : (k j : ℕ) (devs : List DevPart) → of_dev (k + j) (from_index k devs) ≡ (part_of devs j).kept
kept_at k zero [] = refl
kept_at k (suc j) [] = refl
kept_at k zero (p ∷ devs) =
    let z : k + 0 ≡ k = omega arith in
    ap (λ (d : ℕ). of_dev d (from_index k (p ∷ devs))) z
    ∙ (of_dev-append k (map (λ (e : Extent). (k, e)) p.kept) (from_index (k + 1) devs)
    ∙ (ap₂ (λ (xs ys : List Extent). xs ++ ys) (tagged_here k p.kept) (kept_below (k + 1) k devs (omega arith))
    ∙ append_none p.kept))
  where
    append_none : (es : List Extent) → es ++ [] ≡ es
    append_none [] = refl
    append_none (e ∷ es) = ap (λ (l : List Extent). e ∷ l) (append_none es)
kept_at k (suc j) (p ∷ devs) =
    let z : k + suc j ≡ (k + 1) + j = omega arith in
    of_dev-append (k + suc j) (map (λ (e : Extent). (k, e)) p.kept) (from_index (k + 1) devs)
    ∙ (ap₂ (λ (xs ys : List Extent). xs ++ ys) (tagged_away k (k + suc j) p.kept (λ e. omega (arith, e))) (ap (λ (d : ℕ). of_dev d (from_index (k + 1) devs)) z ∙ kept_at (k + 1) j devs)
    ∙ refl)

-- what is discarded of a device is the front of what it keeps
kept_front : (s : Space) (n d : ℕ) → of_dev d (take n (kept_extents s)) ++ of_dev d (drop n (kept_extents s)) ≡ (part_of s.parts.devs d).kept
kept_front s n d =
    let z : 0 + d ≡ d = omega arith in
    sym (of_dev-append d (take n (kept_extents s)) (drop n (kept_extents s)))
    ∙ (ap (of_dev d) (take_and_drop n (kept_extents s))
    ∙ (ap (λ (k : ℕ). of_dev k (from_index 0 s.parts.devs)) (sym z) ∙ kept_at 0 d s.parts.devs))

-- ---- roles

kept_role : (r : Role) → is_kept_role r ≡ true → r ≡ Kept
kept_role Absent is = absurd (cc)
kept_role Free is = absurd (cc)
kept_role FreshLive is = absurd (cc)
kept_role Live is = absurd (cc)
kept_role FreshCopy is = absurd (cc)
kept_role Copy is = absurd (cc)
kept_role Kept is = refl
kept_role DeferredBlock is = absurd (cc)
kept_role DeferredMeta is = absurd (cc)
kept_role Late1Block is = absurd (cc)
kept_role Late1Meta is = absurd (cc)
kept_role Late2Block is = absurd (cc)
kept_role Late2Meta is = absurd (cc)
kept_role Meta is = absurd (cc)
kept_role SavedMeta is = absurd (cc)

-- fewer units of a set are no more to copy
pub left_less : (at : ℕ) (es fs : List Extent) → IsMaximal es → IsMaximal fs → ((u : ℕ) → has_unit fs u ≡ true → has_unit es u ≡ true) → sum_by (units_from at) fs ≤ sum_by (units_from at) es
left_less at es fs m n less = below (2 ^ 62) (omega arith)
  where
    below : (most : ℕ) → 2 ^ 62 ≤ most → sum_by (units_from at) fs ≤ sum_by (units_from at) es
    below most le =
        let a = from_counted 0 most at es m le in
        let b = from_counted 0 most at fs n le in
        let c = count_more most (λ u. has_unit fs u && nat_le at u) (λ u. has_unit es u && nat_le at u) (λ u lt is. let h = less u in grind (arith, h, is)) in
        omega (arith, a, b, c)

module _ (old new : Space) (c : Discards old new (take 64 (kept_extents old))) (l : IsLawful old) where
  m : IsLawful new
  m = c.frame.lawful l

  abbrev went : ℕ → List Extent
  went d = of_dev d (take 64 (kept_extents old))

  abbrev stay : ℕ → List Extent
  stay d = of_dev d (drop 64 (kept_extents old))

  parts : (d : ℕ) → went d ++ stay d ≡ (part_of old.parts.devs d).kept
  parts d = kept_front old 64 d

  together : (d : ℕ) → IsMaximal (went d ++ stay d)
  together d = subst IsMaximal (sym (parts d)) (l.sets d).kept.maximal

  -- what goes was kept
  was : (d u : ℕ) → has_unit (went d) u ≡ true → role_at old d u ≡ Kept
  was d u is =
      let a = has_append (went d) (stay d) u in
      let b = ap (λ (es : List Extent). has_unit es u) (parts d) in
      let k : is_kept old.parts.devs d u ≡ true = grind (arith, a, b, is) in
      kept_role (role_at old d u) (sym (kept_is old d u l) ∙ k)

  turns : (kind : Role → Bool) (d u : ℕ) (b : Bool) → has_unit (went d) u ≡ b → kind (role_at new d u) ≡ (if b then kind DeferredBlock else kind (role_at old d u))
  turns kind d u true is =
      let here : is_among (take 64 (kept_extents old)) d u ≡ true = among_is (take 64 (kept_extents old)) d u ∙ is in
      ap kind (c.roles d u ∙ (rw here (ap discarded (was d u is))))
  turns kind d u false is =
      let here : is_among (take 64 (kept_extents old)) d u ≡ false = among_is (take 64 (kept_extents old)) d u ∙ is in
      ap kind (c.roles d u ∙ (rw here refl))

  same : (kind : Role → Bool) → kind DeferredBlock ≡ kind Kept → (d u : ℕ) → kind (role_at new d u) ≡ kind (role_at old d u)
  same kind is d u = by_test (has_unit (went d) u) refl
    where
      by_test : (b : Bool) → has_unit (went d) u ≡ b → kind (role_at new d u) ≡ kind (role_at old d u)
      by_test true here = turns kind d u true here ∙ (is ∙ sym (ap kind (was d u here)))
      by_test false here = turns kind d u false here

  goes : (kind : Role → Bool) → kind Kept ≡ true → kind DeferredBlock ≡ false → (d u : ℕ) → kind (role_at new d u) ≡ (kind (role_at old d u) && not (has_unit (went d) u))
  goes kind a b d u = by_test (has_unit (went d) u) refl
    where
      by_test : (t : Bool) → has_unit (went d) u ≡ t → kind (role_at new d u) ≡ (kind (role_at old d u) && not (has_unit (went d) u))
      by_test true here = let k = turns kind d u true here in let w = ap kind (was d u here) in grind (arith, k, w, here, a, b)
      by_test false here = let k = turns kind d u false here in grind (arith, k, here)

  comes : (kind : Role → Bool) → kind Kept ≡ false → kind DeferredBlock ≡ true → (d u : ℕ) → kind (role_at new d u) ≡ (kind (role_at old d u) || has_unit (went d) u)
  comes kind a b d u = by_test (has_unit (went d) u) refl
    where
      by_test : (t : Bool) → has_unit (went d) u ≡ t → kind (role_at new d u) ≡ (kind (role_at old d u) || has_unit (went d) u)
      by_test true here = let k = turns kind d u true here in let w = ap kind (was d u here) in grind (arith, k, w, here, a, b)
      by_test false here = let k = turns kind d u false here in grind (arith, k, here)

  held_goes : (d u : ℕ) → has_unit (part_of new.parts.devs d).held u ≡ (has_unit (part_of old.parts.devs d).held u && not (has_unit (went d) u))
  held_goes d u = held_is new d u m ∙ (goes is_held_role refl refl d u ∙ ap (λ (b : Bool). b && not (has_unit (went d) u)) (sym (held_is old d u l)))

  kept_stays : (d : ℕ) → (part_of new.parts.devs d).kept ≡ stay d
  kept_stays d = same_extents 0 0 _ _ (m.sets d).kept.maximal (rest_maximal 0 (went d) (stay d) (together d))
      (λ u.
      let a = kept_is new d u m ∙ (goes is_kept_role refl refl d u ∙ ap (λ (b : Bool). b && not (has_unit (went d) u)) (sym (kept_is old d u l))) in
      let b = has_append (went d) (stay d) u in
      let e = ap (λ (es : List Extent). has_unit es u) (parts d) in
      let f = front_apart 0 (went d) (stay d) (together d) u in
      three _ (has_unit (went d) u) (has_unit (stay d) u) _ a (sym e ∙ b) f)
    where
      three : (a w s k : Bool) → a ≡ (k && not w) → k ≡ (w || s) → (w ≡ true → s ≡ false) → a ≡ s
      three a true s k p q f = let z = f refl in grind (arith, p, q, z)
      three a false s k p q f = grind (arith, p, q)

  each : (d : ℕ) → device_words new d ≤ device_words old d
  each d =
      let v = old.parts.version in
      let w = words_move old new d c.frame.version (c.frame.each d) in
      let held = all_go v (part_of old.parts.devs d).held (part_of new.parts.devs d).held (went d) (l.sets d).held.maximal (m.sets d).held.maximal (held_goes d) in
      let deferred = all_come v (opened_of old d).deferred (opened_of new d).deferred (went d) (l.sets d).deferred.maximal (m.sets d).deferred.maximal
      (λ u. deferred_is new d u m ∙ (comes is_deferred_block refl refl d u ∙ ap (λ (b : Bool). b || has_unit (went d) u) (sym (deferred_is old d u l)))) in
      let kept_new = ap (set_words v) (kept_stays d) in
      let kept_old = ap (set_words v) (parts d) in
      let split = words_append v (went d) (stay d) in
      let some = front_words v 0 (went d) (stay d) (together d) in
      let fresh = ap (set_words v) (fresh_same old new d l m (c.fresh d)) in
      omega (arith, w, held, deferred, kept_new, kept_old, split, some, fresh)

  pub discard_words : (blocks objects : ℕ) → (sizes new blocks objects).words ≤ (sizes old blocks objects).words
  discard_words blocks objects =
      let s = ap (λ (j : ℕ). sum_by (device_words new) (range_with_len 0 j)) c.frame.devices in
      let g = sum_less (device_words new) (device_words old) (range_with_len 0 (length old.parts.devs)) each in
      omega (arith, s, g)

  rows : (d : ℕ) → (part_of new.parts.devs d).row ≡ (part_of old.parts.devs d).row
  rows d = (c.frame.each d).row

  pub discard_room : room new ≡ room old
  discard_room = room_same old new c.frame.devices rows (same is_room_role refl)

  abbrev left_of : Space → ℕ → ℕ
  left_of s e = if is_leaving (state_of_dev s.parts.devs e) then sum_by (units_from (frontier s e)) (part_of s.parts.devs e).held else 0

  left : (d : ℕ) → left_of new d ≤ left_of old d
  left d = by_test (is_leaving (state_of_dev old.parts.devs d)) refl (ap (λ (r : DevRow). is_leaving r.state) (rows d))
    where
      by_test : (b : Bool) → is_leaving (state_of_dev old.parts.devs d) ≡ b → is_leaving (state_of_dev new.parts.devs d) ≡ is_leaving (state_of_dev old.parts.devs d) → left_of new d ≤ left_of old d
      by_test true is now =
          let end = ap (λ (k : ℕ). sum_by (units_from k) (part_of new.parts.devs d).held) (ap end_of_last (c.frame.each d).entries) in
          let less = left_less (frontier old d) (part_of old.parts.devs d).held (part_of new.parts.devs d).held (l.sets d).held.maximal (m.sets d).held.maximal (λ u h. let g = held_goes d u in grind (arith, g, h)) in
          rw now rw is (omega (arith, end, less))
      by_test false is now = rw now rw is (omega arith)

  pub discard_uncopied : (blocks objects : ℕ) → (sizes new blocks objects).uncopied ≤ (sizes old blocks objects).uncopied
  discard_uncopied blocks objects =
      let s = ap (λ (j : ℕ). sum_by (left_of new) (range_with_len 0 j)) c.frame.devices in
      let g = sum_less (left_of new) (left_of old) (range_with_len 0 (length old.parts.devs)) left in
      omega (arith, s, g)

  pub discard_others : (blocks objects : ℕ) → sizes new blocks objects ≡ record (sizes old blocks objects) { words = (sizes new blocks objects).words; uncopied = (sizes new blocks objects).uncopied }
  discard_others blocks objects =
      all_sizes _ _ _ _ _ _ _ _ blocks objects (sizes new blocks objects).words (sizes new blocks objects).uncopied
      (ap (λ (k : ℕ). 2 + k) (streams_same old new c.frame.devices rows))
      (gone_same old new c.frame.devices rows)
      (turning_same old new l m c.frame.devices rows c.meta (same is_late1_meta refl) (same is_late2_meta refl) blocks objects)
      (past_same old new l m c.frame.devices rows c.meta (same is_late1_meta refl) (same is_late2_meta refl) blocks objects)
    where
      all_sizes : (s1 s2 g1 g2 t1 t2 p1 p2 : ℕ) (blocks objects words uncopied : ℕ) → s1 ≡ s2 → g1 ≡ g2 → t1 ≡ t2 → p1 ≡ p2
          → sized blocks objects words s1 g1 uncopied t1 p1 ≡ sized blocks objects words s2 g2 uncopied t2 p2
      all_sizes s1 s2 g1 g2 t1 t2 p1 p2 blocks objects words uncopied s g t p = cc

-- ---- the end of discarding changes the checkpoint alone

role_ckpt : (s : Space) (d u : ℕ) → role_at (with_ckpt s ckpt.Clear) d u ≡ role_at s d u
unfolding role_at
role_ckpt s d u = refl

room_ckpt : (s : Space) → room (with_ckpt s ckpt.Clear) ≡ room s
room_ckpt s = room_same s (with_ckpt s ckpt.Clear) refl (λ d. refl) (λ d u. ap is_room_role (role_ckpt s d u))

-- a fact of both outcomes
by_outcome : (old new : Space) (P : Space → Type 0) → P (with_ckpt old ckpt.Clear) → (Discards old new (take 64 (kept_extents old)) → P new) → (b : Bool)
    → MatchBool b (new ≡ with_ckpt old ckpt.Clear) (Discards old new (take 64 (kept_extents old))) → P new
by_outcome old new P ended going true h = subst P (sym h) ended
by_outcome old new P ended going false h = going h

pub some_words : (old new : Space) (units blocks objects : ℕ) → DiscardsSome old units new → IsLawful old → (sizes new blocks objects).words ≤ (sizes old blocks objects).words
some_words old new units blocks objects s l = by_outcome old new (λ (t : Space). (sizes t blocks objects).words ≤ (sizes old blocks objects).words) (omega arith) (λ c. discard_words old new c l blocks objects) _ s.1

pub some_uncopied : (old new : Space) (units blocks objects : ℕ) → DiscardsSome old units new → IsLawful old → (sizes new blocks objects).uncopied ≤ (sizes old blocks objects).uncopied
some_uncopied old new units blocks objects s l = by_outcome old new (λ (t : Space). (sizes t blocks objects).uncopied ≤ (sizes old blocks objects).uncopied) (omega arith) (λ c. discard_uncopied old new c l blocks objects) _ s.1

pub some_room : (old new : Space) (units : ℕ) → DiscardsSome old units new → IsLawful old → room new ≡ room old
some_room old new units s l = by_outcome old new (λ (t : Space). room t ≡ room old) (room_ckpt old) (λ c. discard_room old new c l) _ s.1

pub some_others : (old new : Space) (units blocks objects : ℕ) → DiscardsSome old units new → IsLawful old → sizes new blocks objects ≡ record (sizes old blocks objects) { words = (sizes new blocks objects).words; uncopied = (sizes new blocks objects).uncopied }
some_others old new units blocks objects s l = by_outcome old new (λ (t : Space). sizes t blocks objects ≡ record (sizes old blocks objects) { words = (sizes t blocks objects).words; uncopied = (sizes t blocks objects).uncopied }) refl (λ c. discard_others old new c l blocks objects) _ s.1
