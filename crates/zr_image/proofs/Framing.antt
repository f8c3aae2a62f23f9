-- A root and the one that it saved open as before where their units have their bytes.
use Rattle.std.proofs.Common.{◌≡◌, ℕ, inl, inr, List, Option, Some, None, refl, sym, ap, subst, Ok}
use Rattle.zr_label.specs.declared.root.Uber.{Uber}
use Rattle.zr_label.specs.declared.root.Seen.{Seen}
use Rattle.zr_model.specs.Objects.{Objects}
use Rattle.zr_model.specs.State.{PoolState, Saved, Is}
use Rattle.zr_shelf.specs.Protected.{IsSameIn}
use Rattle.zr_image.specs.Current.{FindsCurrent, slots_of}
use Rattle.zr_image.specs.Roots.{Root, ReadsRoot, ReadsSaved, OpensRoot}
use Rattle.zr_image.specs.StateOf.{AreObjects, IsSaved, IsShelf, Means, OpensShelf, store_at}
use Rattle.zr_image.specs.Frame.{HasOwnUnit, IsUnitOf, IsRangeOf, KeepsRoot, KeepsMeaning, KeepsShelf}
use Rattle.zr_image.proofs.Meaning.{objects_same}
use Rattle.zr_image.proofs.Walking.{given}
use Rattle.zr_image.proofs.Opening.{root_same}
use Rattle.zr_image.proofs.Ranges.{ranges_same}

module _ (a b : List (List ℕ)) (slots : List (Option ℕ)) where
  own_part : (r : Root) (saved : Option Root) → IsSameIn (IsRangeOf HasOwnUnit slots r saved) a b → IsSameIn (IsUnitOf HasOwnUnit slots r) a b
  own_part r None same = same
  own_part r (Some s) same = λ slot at n has. same slot at n (inl has)

  saved_part : (r s : Root) (saved : Option Root) → saved ≡ Some s → IsSameIn (IsRangeOf HasOwnUnit slots r saved) a b → IsSameIn (IsUnitOf HasOwnUnit slots s) a b
  saved_part r s None is same = absurd (cc)
  saved_part r s (Some t) is same = λ slot at n has. same slot at n (inr (subst (λ (x : Root). IsUnitOf HasOwnUnit slots x slot at n) (some_same s t is) has))
    where
      some_same : (s t : Root) → Some t ≡ Some s → s ≡ t
      some_same s t is = cc

  saved_same : (r : Root) (block : Option (List ℕ)) (saved : Option Root) → ((s : Root) → saved ≡ Some s → IsSameIn (IsUnitOf HasOwnUnit slots s) a b) → ReadsSaved a slots r block (Ok saved) → ReadsSaved b slots r block (Ok saved)
  saved_same r None saved same is = is
  saved_same r (Some block) saved same (inl (u, found, inl (s, reads, inl (one, balanced, inl (two, room, inl (three, together, is)))))) =
      inl (u, found, inl (s, root_same a b slots u s (ranges_same a b slots u s (same s (given (Some s) saved is))) reads, inl (one, balanced, inl (two, room, inl (three, together, is)))))
  saved_same r (Some block) saved same (inl (u, found, inl (s, reads, inl (one, balanced, inl (two, room, inr (x, told, is)))))) = absurd (cc)
  saved_same r (Some block) saved same (inl (u, found, inl (s, reads, inl (one, balanced, inr (x, told, is))))) = absurd (cc)
  saved_same r (Some block) saved same (inl (u, found, inl (s, reads, inr (x, told, is)))) = absurd (cc)
  saved_same r (Some block) saved same (inl (u, found, inr (x, told, is))) = absurd (cc)
  saved_same r (Some block) saved same (inr (x, told, is)) = absurd (cc)

  opens_same : (u : Uber) (r : Root) (saved : Option Root) → OpensRoot a slots u (Ok (r, saved)) → IsSameIn (IsRangeOf HasOwnUnit slots r saved) a b → OpensRoot b slots u (Ok (r, saved))
  opens_same u r saved (inl (root, reads, inl (one, balanced, inl (old, reads_saved, inl (two, room, is))))) same =
      let e : (r, saved) ≡ (root, old) = given (root, old) (r, saved) is in
      let here = subst (λ (p : Root × Option Root). IsSameIn (IsRangeOf HasOwnUnit slots p.0 p.1) a b) e same in
      inl (
        root,
        root_same a b slots u root (ranges_same a b slots u root (own_part root old here)) reads,
        inl (one, balanced, inl (old, saved_same root root.head.saved old (λ s is_saved. saved_part root s old is_saved here) reads_saved, inl (two, room, is))),
      )
  opens_same u r saved (inl (root, reads, inl (one, balanced, inl (old, reads_saved, inr (x, told, is))))) same = absurd (cc)
  opens_same u r saved (inl (root, reads, inl (one, balanced, inr (x, told, is)))) same = absurd (cc)
  opens_same u r saved (inl (root, reads, inr (x, told, is))) same = absurd (cc)
  opens_same u r saved (inr (x, told, is)) same = absurd (cc)

-- ---- what the roots mean

module _ (a b : List (List ℕ)) (slots : List (Option ℕ)) where
  root_objects : (u : Uber) (r : Root) (objects : Objects) → ReadsRoot a slots u (Ok r) → IsSameIn (IsUnitOf HasOwnUnit slots r) a b → AreObjects (store_at a slots r) r.head.dir objects → AreObjects (store_at b slots r) r.head.dir objects
  root_objects u r objects (inl (head, reads_head, inl (streams, reads_streams, inl (parts, reads_parts, inl (live, walks, is))))) same are =
      subst (λ (x : Root). IsSameIn (IsUnitOf HasOwnUnit slots x) a b → AreObjects (store_at a slots x) x.head.dir objects → AreObjects (store_at b slots x) x.head.dir objects) (sym (given _ r is))
      (λ same_here are_here. objects_same _ _ u.txg b head.0.dir live objects (ranges_same a b slots u _ same_here).live walks are_here) same are
  root_objects u r objects (inl (head, reads_head, inl (streams, reads_streams, inl (parts, reads_parts, inr (x, told, is))))) same are = absurd (cc)
  root_objects u r objects (inl (head, reads_head, inl (streams, reads_streams, inr (x, told, is)))) same are = absurd (cc)
  root_objects u r objects (inl (head, reads_head, inr (x, told, is))) same are = absurd (cc)
  root_objects u r objects (inr (x, told, is)) same are = absurd (cc)

  saved_reads : (r s : Root) (block : Option (List ℕ)) → ReadsSaved a slots r block (Ok (Some s)) → (u : Uber) × ReadsRoot a slots u (Ok s)
  saved_reads r s None is = absurd (cc)
  saved_reads r s (Some block) (inl (u, found, inl (t, reads, inl (one, balanced, inl (two, room, inl (three, together, is)))))) = (u, subst (λ (x : Root). ReadsRoot a slots u (Ok x)) (sym (same_root s t (given (Some t) (Some s) is))) reads)
    where
      same_root : (s t : Root) → Some s ≡ Some t → s ≡ t
      same_root s t is = cc
  saved_reads r s (Some block) (inl (u, found, inl (t, reads, inl (one, balanced, inl (two, room, inr (x, told, is)))))) = absurd (cc)
  saved_reads r s (Some block) (inl (u, found, inl (t, reads, inl (one, balanced, inr (x, told, is))))) = absurd (cc)
  saved_reads r s (Some block) (inl (u, found, inl (t, reads, inr (x, told, is)))) = absurd (cc)
  saved_reads r s (Some block) (inl (u, found, inr (x, told, is))) = absurd (cc)
  saved_reads r s (Some block) (inr (x, told, is)) = absurd (cc)

  -- the root was read, and so was the one that it saved
  reads_of : (u : Uber) (r : Root) (saved : Option Root) → OpensRoot a slots u (Ok (r, saved)) → ReadsRoot a slots u (Ok r) × ReadsSaved a slots r r.head.saved (Ok saved)
  reads_of u r saved (inl (root, reads, inl (one, balanced, inl (old, reads_saved, inl (two, room, is))))) =
      let e : (root, old) ≡ (r, saved) = sym (given (root, old) (r, saved) is) in
      (subst (λ (p : Root × Option Root). ReadsRoot a slots u (Ok p.0)) e reads, subst (λ (p : Root × Option Root). ReadsSaved a slots p.0 p.0.head.saved (Ok p.1)) e reads_saved)
  reads_of u r saved (inl (root, reads, inl (one, balanced, inl (old, reads_saved, inr (x, told, is))))) = absurd (cc)
  reads_of u r saved (inl (root, reads, inl (one, balanced, inr (x, told, is)))) = absurd (cc)
  reads_of u r saved (inl (root, reads, inr (x, told, is))) = absurd (cc)
  reads_of u r saved (inr (x, told, is)) = absurd (cc)

  uber_is : (u : Uber) (r : Root) → ReadsRoot a slots u (Ok r) → u ≡ r.uber
  uber_is u r (inl (head, reads_head, inl (streams, reads_streams, inl (parts, reads_parts, inl (live, walks, is))))) = sym (ap (λ (x : Root). x.uber) (given _ r is))
  uber_is u r (inl (head, reads_head, inl (streams, reads_streams, inl (parts, reads_parts, inr (x, told, is))))) = absurd (cc)
  uber_is u r (inl (head, reads_head, inl (streams, reads_streams, inr (x, told, is)))) = absurd (cc)
  uber_is u r (inl (head, reads_head, inr (x, told, is))) = absurd (cc)
  uber_is u r (inr (x, told, is)) = absurd (cc)

  saved_objects : (paths : List (List ℕ)) (r : Root) (saved : Option Root) → ReadsSaved a slots r r.head.saved (Ok saved) → IsSameIn (IsRangeOf HasOwnUnit slots r saved) a b
      → (found : Option Saved) → IsSaved paths a slots saved found → IsSaved paths b slots saved found
  saved_objects paths r None reads same found is = is
  saved_objects paths r (Some s) reads same None is = is
  saved_objects paths r (Some s) reads same (Some x) is =
      let was = saved_reads r s r.head.saved reads in (root_objects was.0 s x.objects was.1 (saved_part a b slots r s (Some s) refl same) is.0, is.1)

  pub means_same : (paths : List (List ℕ)) (u : Uber) (r : Root) (saved : Option Root) (p : PoolState) → OpensRoot a slots u (Ok (r, saved)) → IsSameIn (IsRangeOf HasOwnUnit slots r saved) a b
      → Means paths a slots r saved p → Means paths b slots r saved p
  means_same paths u r saved p opens same means =
      let reads = reads_of u r saved opens in
      record {
        guid = means.guid;
        name = means.name;
        objects = root_objects u r p.objects reads.0 (own_part a b slots r saved same) means.objects;
        saved_is = saved_objects paths r saved reads.1 same p.saved means.saved_is;
        devs = means.devs;
        discarding = means.discarding;
      }

pub keeps_meaning : (paths : List (List ℕ)) (slots : List (Option ℕ)) (r : Root) (saved : Option Root) (p : PoolState) → KeepsMeaning paths slots r saved p
keeps_meaning paths slots r saved p = λ a b opens same means. means_same a b slots paths r.uber r saved p opens same means

pub keeps_shelf : (paths : List (List ℕ)) (seen : List Seen) (r : Root) (saved : Option Root) (p : PoolState) → KeepsShelf paths seen r saved p
keeps_shelf paths seen r saved p = λ a b shelf same means. shown a b shelf same means
  where
    shown : (a b : List (List ℕ)) → OpensShelf a seen (Ok (r, saved)) → IsSameIn (IsRangeOf HasOwnUnit (slots_of r.uber seen) r saved) a b → Means paths a (slots_of r.uber seen) r saved p → IsShelf paths b seen (Is p)
    shown a b (inl (u, found, opens)) same means =
        let e : u ≡ r.uber = uber_is a b (slots_of u seen) u r (reads_of a b (slots_of u seen) u r saved opens).0 in
        let opens_here = subst (λ (x : Uber). OpensRoot a (slots_of x seen) x (Ok (r, saved))) e opens in
        record {
          outcome = Ok (r, saved);
          opens = inl (r.uber, subst (λ (x : Uber). FindsCurrent seen (Ok x)) e found, opens_same a b (slots_of r.uber seen) r.uber r saved opens_here same);
          part_is = means_same a b (slots_of r.uber seen) paths r.uber r saved p opens_here same means;
        }
    shown a b (inr (x, told, is)) same means = absurd (cc)

pub keeps_root : (slots : List (Option ℕ)) (u : Uber) (r : Root) (saved : Option Root) → KeepsRoot slots u r saved
keeps_root slots u r saved = λ a b opens same. opens_same a b slots u r saved opens same
