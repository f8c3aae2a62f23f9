-- Objects that are written one after the other.
use Rattle.std.proofs.Common.{◌≡◌, ◌∙◌, ◌+◌, ◌<◌, ◌≤◌, ℕ, List, [], ◌∷◌, ◌++◌, length, take, drop, Result, Option, refl, sym, ap, subst, arith}
use Rattle.std.specs.List.{flat_map, sum_by}
use Rattle.std.proofs.lemmas.List.{append-nil, take-append-drop}
use Rattle.std.proofs.lemmas.List.Sums.{sum_by-append}
use Rattle.std.proofs.lemmas.Grind.{flat_map-append}
use Rattle.zr_bptr.specs.declared.Bptr.{Bptr}
use Rattle.zr_bptr.specs.declared.ObjRec.{ObjRec}
use Rattle.zr_store.specs.declared.StoreErr.{StoreErr}
use Rattle.zr_store.specs.Store.{Stored, Now, Swaps, AreStored, IsOnce}
use Rattle.zr_tree.specs.Trees.{TellsOf}
use Rattle.zr_tree.proofs.Frames.{Agree, agree_front, agree_back}
use Rattle.zr_tree.proofs.Wholes.{tells_within}
use Rattle.zr_objset.proofs.Keeping.{beside}
use Rattle.zr_txg.specs.Changes.{ObjectChange}
use Rattle.zr_commit.specs.Objects.{entry, object_blocks, blocks_of, blocks_in, IsObjectWritten, AreWritten, WritesObject, WritesObjects}
use Rattle.zr_commit.proofs.Entries.{front}
use Rattle.zr_commit.proofs.Swapping.{swaps_both, rest_stored, front_stored, tells_same, object_same, written_from, written_to}

pub blocks_in_same : (n m : Stored) (qs : List (ℕ × Option ObjRec)) → Agree n m (blocks_in n qs) → blocks_in m qs ≡ blocks_in n qs
blocks_in_same n m [] a = refl
blocks_in_same n m (q ∷ qs) a =
    ap (λ (xs : List Bptr). xs ++ blocks_in m qs) (object_same n m q.1 (agree_front n m (object_blocks n q.1) (blocks_in n qs) a))
    ∙ ap (λ (xs : List Bptr). object_blocks n q.1 ++ xs) (blocks_in_same n m qs (agree_back n m (object_blocks n q.1) (blocks_in n qs) a))

pub all_written_to : (s n m : Stored) (es : List (ℕ × ObjectChange)) (qs : List (ℕ × Option ObjRec)) → Agree n m (blocks_in n qs) → AreWritten s n es qs → AreWritten s m es qs
all_written_to s n m [] [] a w = tt
all_written_to s n m [] (q ∷ qs) a w = w
all_written_to s n m (e ∷ es) [] a w = w
all_written_to s n m (e ∷ es) (q ∷ qs) a w = (
  w.0,
  written_to e.1.blocks s n m e.1.object q.1 (agree_front n m (object_blocks n q.1) (blocks_in n qs) a) w.1,
  all_written_to s n m es qs (agree_back n m (object_blocks n q.1) (blocks_in n qs) a) w.2,
)

written_more : (s m : Stored) (es : List (ℕ × ObjectChange)) (qs : List (ℕ × Option ObjRec)) (e : ℕ × ObjectChange) (q : ℕ × Option ObjRec) → AreWritten s m es qs → q.0 ≡ e.0 → IsObjectWritten e.1.blocks s m e.1.object q.1 → AreWritten s m (es ++ e ∷ []) (qs ++ q ∷ [])
written_more s m [] [] e q w id o = (id, o, tt)
written_more s m [] (p ∷ qs) e q w id o = absurd w
written_more s m (d ∷ es) [] e q w id o = absurd w
written_more s m (d ∷ es) (p ∷ qs) e q w id o = (w.0, w.1, written_more s m es qs e q w.2 id o)

-- no object is written yet
pub none_written : (s : Stored) (qs : List (ℕ × Option ObjRec)) → qs ≡ [] → WritesObjects s s [] qs
none_written s qs none = subst (λ (xs : List (ℕ × Option ObjRec)). WritesObjects s s [] xs) (sym none) (record { written = tt; swaps = record { stored = λ weight. refl; kept = λ b free had. refl } })

module _ (s n : Stored) (es : List (ℕ × ObjectChange)) (qs : List (ℕ × Option ObjRec)) (e : ℕ × ObjectChange) (once : IsOnce s) (held : AreStored (blocks_of s (es ++ e ∷ [])) s) (before : WritesObjects s n es qs) where
  split : blocks_of s (es ++ e ∷ []) ≡ blocks_of s es ++ object_blocks s e.1.object
  split = flat_map-append (λ (x : ℕ × ObjectChange). object_blocks s x.1.object) es (e ∷ []) ∙ ap (λ (ys : List Bptr). blocks_of s es ++ ys) (append-nil (object_blocks s e.1.object))

  there : AreStored (blocks_of s es ++ object_blocks s e.1.object) s
  there = subst (λ (xs : List Bptr). AreStored xs s) split held

  agree : Agree s n (object_blocks s e.1.object)
  agree = beside s n (blocks_of s es) (blocks_in n qs) (object_blocks s e.1.object) before.swaps once there

  same : object_blocks n e.1.object ≡ object_blocks s e.1.object
  same = object_same s n e.1.object agree

  left : AreStored (object_blocks n e.1.object ++ blocks_in n qs) n
  left = subst (λ (xs : List Bptr). AreStored (xs ++ blocks_in n qs) n) (sym same) (rest_stored s n (blocks_of s es) (blocks_in n qs) (object_blocks s e.1.object) before.swaps there)

  -- the next object is still stored
  pub next_stored : AreStored (object_blocks n e.1.object) n
  next_stored = front_stored n (object_blocks n e.1.object) (blocks_in n qs) left

  -- an error of writing it tells of what was there before
  pub next_tells : {T : Type 0} (r : Result T StoreErr) → TellsOf n (object_blocks n e.1.object) r → TellsOf s (blocks_of s (es ++ e ∷ [])) r
  next_tells {T} r h =
      let here = subst (λ (xs : List Bptr). TellsOf n xs r) same h in
      let stored = subst (λ (xs : List Bptr). AreStored xs n) same next_stored in
      subst (λ (xs : List Bptr). TellsOf s xs r) (sym split)
      (tells_within s (object_blocks s e.1.object) (blocks_of s es ++ object_blocks s e.1.object) r (λ weight. let a = sum_by-append weight (blocks_of s es) (object_blocks s e.1.object) in omega (arith, a)) (tells_same s n (object_blocks s e.1.object) r agree stored here))

  pub objects_more : (m : Stored) (q : ℕ × Option ObjRec) → IsOnce n → q.0 ≡ e.0 → WritesObject e.1.blocks n m e.1.object q.1 → WritesObjects s m (es ++ e ∷ []) (qs ++ q ∷ [])
  objects_more m q once_n id one =
      let here = object_blocks s e.1.object in
      let into = blocks_in n qs in
      let came = object_blocks m q.1 in
      let beside_new : Agree n m into = beside n m (object_blocks n e.1.object) came into one.swaps once_n left in
      let into_same : blocks_in m qs ≡ into = blocks_in_same n m qs beside_new in
      let second : Swaps n m here came = subst (λ (xs : List Bptr). Swaps n m xs came) same one.swaps in
      let both = swaps_both s n m (blocks_of s es) into here came before.swaps second in
      let joined : blocks_in m (qs ++ q ∷ []) ≡ into ++ came = flat_map-append (λ (x : ℕ × Option ObjRec). object_blocks m x.1) qs (q ∷ []) ∙ (ap (λ (ys : List Bptr). blocks_in m qs ++ ys) (append-nil came) ∙ ap (λ (xs : List Bptr). xs ++ came) into_same) in
      record {
        written = written_more s m es qs e q (all_written_to s n m es qs beside_new before.written) id (written_from e.1.blocks s n m e.1.object q.1 agree one.written);
        swaps = subst (λ (xs : List Bptr). Swaps s m xs (blocks_in m (qs ++ q ∷ []))) (sym split) (subst (λ (ys : List Bptr). Swaps s m (blocks_of s es ++ here) ys) (sym joined) both);
      }

front_within : (s : Stored) (es : List (ℕ × ObjectChange)) (i : ℕ) (weight : Bptr → ℕ) → sum_by weight (blocks_of s (take i es)) ≤ sum_by weight (blocks_of s es)
front_within s es i weight =
    let f = λ (x : ℕ × ObjectChange). object_blocks s x.1.object in
    let parts = ap (λ (xs : List (ℕ × ObjectChange)). sum_by weight (flat_map f xs)) (sym (take-append-drop i es)) ∙ (ap (λ (bs : List Bptr). sum_by weight bs) (flat_map-append f (take i es) (drop i es)) ∙ sum_by-append weight (flat_map f (take i es)) (flat_map f (drop i es))) in
    omega (arith, parts)

up_to : (s : Stored) (es : List (ℕ × ObjectChange)) (i : ℕ) → i < length es → AreStored (blocks_of s es) s → AreStored (blocks_of s (take i es ++ entry es i ∷ [])) s
up_to s es i lt held = subst (λ (xs : List (ℕ × ObjectChange)). AreStored (blocks_of s xs) s) (front es i lt) (λ weight. let h = held weight in let w = front_within s es (i + 1) weight in omega (arith, h, w))

module _ (had : Stored → Type 0) (s : Stored) (es : List (ℕ × ObjectChange)) (i : ℕ) (qs : List (ℕ × Option ObjRec)) (lt : i < length es) (once : IsOnce s) (held : AreStored (blocks_of s es) s) (before : Now had (λ n. WritesObjects s n (take i es) qs)) where
  pub entry_stored : AreStored (object_blocks before.stored (entry es i).1.object) before.stored
  entry_stored = next_stored s before.stored (take i es) qs (entry es i) once (up_to s es i lt held) before.is

  pub entry_tells : {T : Type 0} (r : Result T StoreErr) → TellsOf before.stored (object_blocks before.stored (entry es i).1.object) r → TellsOf s (blocks_of s es) r
  entry_tells {T} r h =
      let f = λ (x : ℕ × ObjectChange). object_blocks s x.1.object in
      let told = next_tells s before.stored (take i es) qs (entry es i) once (up_to s es i lt held) before.is r h in
      tells_within s (blocks_of s (take (i + 1) es)) (blocks_of s es) r (front_within s es (i + 1)) (subst (λ (xs : List (ℕ × ObjectChange)). TellsOf s (blocks_of s xs) r) (sym (front es i lt)) told)

  pub objects_now : (has : Stored → Type 0) (q : ℕ × Option ObjRec) (now : List (ℕ × Option ObjRec)) → IsOnce before.stored → now ≡ qs ++ q ∷ [] → q.0 ≡ (entry es i).0 → Now has (λ m. WritesObject (entry es i).1.blocks before.stored m (entry es i).1.object q.1) → Now has (λ m. WritesObjects s m (take (i + 1) es) now)
  objects_now has q now once_n is id one =
      let more = objects_more s before.stored (take i es) qs (entry es i) once (up_to s es i lt held) before.is one.stored q once_n id one.is in
      record {
        stored = one.stored;
        held = one.held;
        is = subst (λ (xs : List (ℕ × ObjectChange)). WritesObjects s one.stored xs now) (sym (front es i lt)) (subst (λ (ys : List (ℕ × Option ObjRec)). WritesObjects s one.stored (take i es ++ entry es i ∷ []) ys) (sym is) more);
      }
