-- A root that is read reads as before from other disks on which its blocks have their bytes.
use Rattle.std.proofs.Common.{◌≡◌, ◌<◌, ℕ, Bool, inl, inr, List, [], ◌∷◌, ◌++◌, Option, Some, None, refl, sym, ap, subst, arith, Ok}
use Rattle.std.specs.List.{Contains}
use Rattle.std.proofs.lemmas.Bool.Decides.{nat_tests}
use Rattle.std.proofs.lemmas.List.Elements.{Contains-append_right}
use Rattle.std.proofs.lemmas.List.Sums.{sum_by-cons}
use Rattle.sha2.specs.Sha256.{sha256}
use Rattle.zr_base.specs.declared.space.Dva.{Dva}
use Rattle.zr_bptr.specs.declared.Bptr.{Bptr}
use Rattle.zr_bptr.specs.declared.ObjRec.{ObjRec}
use Rattle.zr_bptr.specs.declared.Tree.{Tree}
use Rattle.zr_bptr.specs.Spelling.{SpellsRecords}
use Rattle.zr_label.specs.declared.root.Uber.{Uber}
use Rattle.zr_meta.specs.declared.Head.{Head}
use Rattle.zr_meta.specs.declared.Stream.{Stream}
use Rattle.zr_store.specs.Store.{hits, one_at}
use Rattle.zr_store.proofs.Keeping.{one_cases}
use Rattle.zr_tree.specs.Trees.{tree_reach, tree_leaves}
use Rattle.zr_image.specs.Checks.{Each}
use Rattle.zr_view.specs.Views.{View}
use Rattle.zr_image.specs.Reading.{content, store_of, ReadsBlock, bare_devices}
use Rattle.zr_image.specs.Walks.{Walks}
use Rattle.zr_image.specs.Roots.{Root, IsHeadOf, ReadsHead, ReadsStream, ReadsRecords, WalksObject, WalksAll, ReadsRoot, meta_setting, block_setting, head_tree, view_of}
use Rattle.zr_image.proofs.Reaching.{contained_hits, reach_hits}
use Rattle.zr_image.proofs.Standing.{bytes_same, words_same}
use Rattle.zr_image.proofs.Leaves.{leaf_hits, leaf_list_same}
use Rattle.zr_image.proofs.Walking.{Within, given, each_grows, each_moves, walk_grows, walk_same}

-- ---- addresses that are met

one_found : (at : Dva) (x : Bptr) → one_at at x ≡ 1 → x.at ≡ at
one_found at x one =
    let dev : x.at.dev ≡ at.dev = grind (arith, nat_tests) in
    let start : x.at.start ≡ at.start = grind (arith, nat_tests) in
    let len : x.at.len ≡ at.len = grind (arith, nat_tests) in
    λ i. record { dev = dev i; start = start i; len = len i }

pub hits_found : (bs : List Bptr) (at : Dva) → 0 < hits bs at → (x : Bptr) × Contains bs x × (x.at ≡ at)
hits_found [] at met = absurd (omega (arith, met))
hits_found (b ∷ bs) at met = elim (one_cases at b) [
  | inl none ↦ (let rest = hits_found bs at (omega (arith, met, none, sum_by-cons (one_at at) b bs)) in (rest.0, Contains-append_right (b ∷ []) bs rest.0 rest.1, rest.2))
  | inr one ↦ (b, (0, omega arith, refl), one_found at b one)
]

pub hits_within : (xs ys : List Bptr) (at : Dva) → Within xs ys → 0 < hits xs at → 0 < hits ys at
hits_within xs ys at within met = let x = hits_found xs at met in subst (λ (a : Dva). 0 < hits ys a) x.2 (contained_hits ys x.0 (within x.0 x.1))

-- ---- the same bytes by two views

abbrev pub SameAt : View → View → List Bptr → Type 0
SameAt v w bs = (b : Bptr) → 0 < hits bs b.at → content w b ≡ content v b

-- at the items of a list
listed : (v w : View) (xs ys : List Bptr) → Within xs ys → SameAt v w ys → (b : Bptr) → Contains xs b → content w b ≡ content v b
listed v w xs ys within same b has = same b (contained_hits ys b (within b has))

module _ (v : View) (disks : List (List ℕ)) where
  abbrev w : View
  w = record v { disks = disks }

  block_read : (b : Bptr) → content w b ≡ content v b → ReadsBlock v b (Ok tt) → ReadsBlock w b (Ok tt)
  block_read b same read = subst (λ (bytes : List ℕ). sha256 bytes ≡ b.sum) (sym same) read

  module _ (u : Uber) where
    head_is : (h : Head) → ((b : Bptr) → 0 < hits (tree_reach (store_of v) (head_tree u)) b.at → content w b ≡ content v b) → IsHeadOf v u h → IsHeadOf w u h
    head_is h same is = record { bytes = is.bytes; read = bytes_same (store_of v) (store_of w) (head_tree u) same is.bytes is.read; length_is = is.length_is; spelled = is.spelled; form = is.form; fits = is.fits }

    pub head_same : (h : Head) (marks : List Bptr) → SameAt v w marks → ReadsHead v u (Ok (h, marks)) → ReadsHead w u (Ok (h, marks))
    head_same h m same (inl (marks, walk, inl (head, is_head, is))) =
        let e : (h, m) ≡ (head, marks) = given (head, marks) (h, m) is in
        let same_here = subst (λ (bs : List Bptr). SameAt v w bs) (ap (λ (p : Head × List Bptr). p.1) e) same in
        inl (
          marks,
          walk_same (meta_setting v u _) disks marks (listed v w marks marks (λ x has. has) same_here) (head_tree u).height 0 (head_tree u).root [] marks (λ x has. has) walk,
          inl (head, head_is head (λ b met. same_here b (reach_hits (meta_setting v u _) (head_tree u).height 0 (head_tree u).root [] marks walk b met)) is_head, is),
        )
    head_same h m same (inl (marks, walk, inr (r, told, is))) = absurd (cc)
    head_same h m same (inr (r, told, is)) = absurd (cc)

    abbrev Sub : List ℕ × List Bptr → List ℕ × List Bptr → Type 0
    Sub a b = Within a.1 b.1

    pub stream_grows : (t : Stream) (a b : List ℕ × List Bptr) → ReadsStream v u t a (Ok b) → Sub a b
    stream_grows t a b (inl (marks, walk, inl (words, has, is))) =
        λ x in_a. subst (λ (bs : List Bptr). Contains bs x) (sym (ap (λ (p : List ℕ × List Bptr). p.1) (given (a.0 ++ words, marks) b is))) (walk_grows (meta_setting v u _) disks t.tree.height 0 t.tree.root a.1 marks walk x in_a)
    stream_grows t a b (inl (marks, walk, inr (r, told, is))) = absurd (cc)
    stream_grows t a b (inr (r, told, is)) = absurd (cc)

    stream_same : (final : List ℕ × List Bptr) → SameAt v w final.1 → (t : Stream) (a b : List ℕ × List Bptr) → Sub b final → ReadsStream v u t a (Ok b) → ReadsStream w u t a (Ok b)
    stream_same final same t a b sub (inl (marks, walk, inl (words, has, is))) =
        let e : marks ≡ b.1 = sym (ap (λ (p : List ℕ × List Bptr). p.1) (given (a.0 ++ words, marks) b is)) in
        let within = subst (λ (bs : List Bptr). Within bs final.1) (sym e) sub in
        inl (
          marks,
          walk_same (meta_setting v u _) disks final.1 (listed v w final.1 final.1 (λ x here. here) same) t.tree.height 0 t.tree.root a.1 marks within walk,
          inl (words, record { stand = words_same (store_of v) (store_of w) t (λ q met. same q (hits_within marks final.1 q.at within (reach_hits (meta_setting v u _) t.tree.height 0 t.tree.root a.1 marks walk q met))) words has.stand; small = has.small }, is),
        )
    stream_same final same t a b sub (inl (marks, walk, inr (r, told, is))) = absurd (cc)
    stream_same final same t a b sub (inr (r, told, is)) = absurd (cc)

    pub streams_grow : (ts : List Stream) (a b : List ℕ × List Bptr) → Each (ReadsStream v u) ts a (Ok b) → Sub a b
    streams_grow ts a b way = each_grows (ReadsStream v u) (ReadsStream v u) Sub (λ s x has. has) (λ r s t f g x has. g x (f x has)) stream_grows ts a b way

    pub streams_same : (ts : List Stream) (a b : List ℕ × List Bptr) → SameAt v w b.1 → Each (ReadsStream v u) ts a (Ok b) → Each (ReadsStream w u) ts a (Ok b)
    streams_same ts a b same way =
        each_moves (ReadsStream v u) (ReadsStream w u) Sub (λ s x has. has) (λ r s t f g x has. g x (f x has)) stream_grows b (stream_same b same) ts a b (λ x has. has) way

  -- ---- the directory and the objects

  records_same : (b : Bptr) (before after : List (Option ObjRec)) → content w b ≡ content v b → ReadsRecords v b before (Ok after) → ReadsRecords w b before (Ok after)
  records_same b before after same (inl (done, read, inl (records, leaf, is))) =
      inl (done, block_read b same read, inl (records, record { spelled = subst (λ (bytes : List ℕ). SpellsRecords bytes records) (sym same) leaf.spelled; sizes = leaf.sizes }, is))
  records_same b before after same (inl (done, read, inr (r, told, is))) = absurd (cc)
  records_same b before after same (inr (r, told, is)) = absurd (cc)

  each_records : (bs : List Bptr) (before after : List (Option ObjRec)) → ((b : Bptr) → Contains bs b → content w b ≡ content v b) → Each (ReadsRecords v) bs before (Ok after) → Each (ReadsRecords w) bs before (Ok after)
  each_records [] before after same is = is
  each_records (b ∷ bs) before after same (inl (mid, first, rest)) =
      inl (mid, records_same b before mid (same b (0, omega arith, refl)) first, each_records bs mid after (λ x has. same x (Contains-append_right (b ∷ []) bs x has)) rest)
  each_records (b ∷ bs) before after same (inr (r, told, is)) = absurd (cc)

  module _ (may_be : ℕ → ℕ → Bool) (txg : ℕ) where
    pub object_grows : (x : Option ObjRec) (a b : List Bptr) → WalksObject v may_be txg x a (Ok b) → Within a b
    object_grows None a b is = λ x has. subst (λ (bs : List Bptr). Contains bs x) (sym (given a b is)) has
    object_grows (Some r) a b walk = walk_grows (block_setting v may_be txg r.units _) disks r.tree.height 0 r.tree.root a b walk

    object_same : (final : List Bptr) → SameAt v w final → (x : Option ObjRec) (a b : List Bptr) → Within b final → WalksObject v may_be txg x a (Ok b) → WalksObject w may_be txg x a (Ok b)
    object_same final same None a b within is = is
    object_same final same (Some r) a b within walk =
        walk_same (block_setting v may_be txg r.units _) disks final (listed v w final final (λ x here. here) same) r.tree.height 0 r.tree.root a b within walk

    dir_agrees : (dir : Tree) (marks live : List Bptr) → SameAt v w live → Within marks live → Walks (block_setting v may_be txg 1 4096) dir [] (Ok marks)
        → (b : Bptr) → 0 < hits (tree_reach (store_of v) dir) b.at → content w b ≡ content v b
    dir_agrees dir marks live same within walk b met = same b (hits_within marks live b.at within (reach_hits (block_setting v may_be txg 1 4096) dir.height 0 dir.root [] marks walk b met))

    pub all_same : (dir : Tree) (live : List Bptr) → SameAt v w live → WalksAll v may_be txg dir (Ok live) → WalksAll w may_be txg dir (Ok live)
    all_same dir live same (inl (marks, walk, inl (records, each, rest))) =
        let within = each_grows (WalksObject v may_be txg) (WalksObject v may_be txg) Within (λ s x has. has) (λ r s t f g x has. g x (f x has)) object_grows records marks live rest in
        let agree = dir_agrees dir marks live same within walk in
        inl (
          marks,
          walk_same (block_setting v may_be txg 1 4096) disks live (listed v w live live (λ x here. here) same) dir.height 0 dir.root [] marks within walk,
          inl (
            records,
            subst (λ (bs : List Bptr). Each (ReadsRecords w) bs [] (Ok records)) (sym (leaf_list_same (store_of v) (store_of w) dir agree))
                (each_records (tree_leaves (store_of v) dir) [] records (λ b has. agree b (leaf_hits (store_of v) dir b has)) each),
            each_moves (WalksObject v may_be txg) (WalksObject w may_be txg) Within (λ s x has. has) (λ r s t f g x has. g x (f x has)) object_grows live (object_same live same) records marks live (λ x has. has) rest,
          ),
        )
    all_same dir live same (inl (marks, walk, inr (r, told, is))) = absurd (cc)
    all_same dir live same (inr (r, told, is)) = absurd (cc)

-- ---- a root

module _ (a b : List (List ℕ)) (slots : List (Option ℕ)) (u : Uber) where
  abbrev pub bare : List (List ℕ) → View
  bare disks = record { disks = disks; slots = slots; devices = bare_devices u }

  -- the metadata and all that the root points to have their bytes
  pub record SameRoot (r : Root) : Type 0 where
    pub meta : SameAt (bare a) (bare b) r.meta
    pub live : SameAt (view_of a slots r) (view_of b slots r) r.live

  pub root_same : (r : Root) → SameRoot r → ReadsRoot a slots u (Ok r) → ReadsRoot b slots u (Ok r)
  root_same r same (inl (head, reads_head, inl (streams, reads_streams, inl (parts, reads_parts, inl (live, walks, is))))) =
      let here = subst SameRoot (given _ r is) same in
      let within = streams_grow (bare a) b u head.0.streams ([], head.1) streams reads_streams in
      inl (
        head,
        head_same (bare a) b u head.0 head.1 (λ q met. here.meta q (hits_within head.1 streams.1 q.at within met)) reads_head,
        inl (
          streams,
          streams_same (bare a) b u head.0.streams ([], head.1) streams here.meta reads_streams,
          inl (parts, reads_parts, inl (live, all_same _ b _ u.txg head.0.dir live here.live walks, is)),
        ),
      )
  root_same r same (inl (head, reads_head, inl (streams, reads_streams, inl (parts, reads_parts, inr (x, told, is))))) = absurd (cc)
  root_same r same (inl (head, reads_head, inl (streams, reads_streams, inr (x, told, is)))) = absurd (cc)
  root_same r same (inl (head, reads_head, inr (x, told, is))) = absurd (cc)
  root_same r same (inr (x, told, is)) = absurd (cc)
