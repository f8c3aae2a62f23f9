-- The two phases of a publication: what is new is written apart from the old and flushed, and then one block is put
-- into a slot of the rings and flushed.
use Rattle.std.proofs.Common.{◌≡◌, ◌≢◌, ◌⊎◌, inl, inr, ℕ, ◌+◌, ◌*◌, ◌%◌, ◌<◌, List, [], ◌∷◌, length, Option, Some, None, refl, sym, ◌∙◌, ap, subst, arith}
use Rattle.std.proofs.lemmas.Bool.{cases_eq}
use Rattle.std.specs.List.{AllByRecursion}
use Rattle.zr_shelf.specs.Disks.{disk, part, PendingWrite, Stand, Meets, IsUntouched, MayLeave, Reads, IsAtRest}
use Rattle.zr_shelf.specs.Moments.{World, Throughout}
use Rattle.zr_shelf.specs.Doings.{Adds, DoesOnly, WritesOnly}
use Rattle.zr_shelf.specs.Doings.Adds.{added_none, added}
use Rattle.zr_shelf.specs.Protected.{IsSameIn, IsGuarded}
use Rattle.zr_shelf.specs.Publish.{Ring, IsAmong, block_at, ring_write, IsCurrent, RingsHave, HaveNone, Shows, WasAsked, IsHonest, AreRingWrites, IsPublishing, IsNext, Kept, AreApart}
use Rattle.zr_shelf.specs.Publish.Kept.{of_root, of_ring}
use Rattle.zr_shelf.proofs.Doings.{added_throughout}
use Rattle.zr_shelf.proofs.Guards.{guarded_image, guarded_does}
use Rattle.zr_shelf.proofs.Runs.{weaker}

pub slot_below : (n : ℕ) → n % 32 < 32
slot_below n = omega arith

-- the txg after this one
pub one_more : (n : ℕ) → IsNext n (n + 1)
one_more n = record { newer = omega arith; other_slot = λ same. omega (arith, same) }

same_ring : (r s : Ring) → r.slot ≡ s.slot → r.at ≡ s.at → r ≡ s
same_ring r s slot at = λ i. record { slot = slot i; at = at i }

-- a write of a block into a slot of a ring meets no other block
pub blocks_apart : (rings : List Ring) → AreApart rings → (r s : Ring) (j k : ℕ) (block : List ℕ) → IsAmong rings r → IsAmong rings s → j < 32 → k < 32 → j ≢ k → length block ≡ 4096 → ¬ Meets (ring_write r j block) s.slot (s.at + 4096 * k) 4096
blocks_apart rings apart r s j k block r_in s_in j_lt k_lt ne size = λ m.
    let b = m.begins in
    let e = m.ends in
    ne (apart r s j k r_in s_in j_lt k_lt m.same (omega (arith, b)) (omega (arith, e, size))).1

-- nor one in another ring
pub rings_apart : (rings : List Ring) → AreApart rings → (r s : Ring) (j k : ℕ) (block : List ℕ) → IsAmong rings r → IsAmong rings s → j < 32 → k < 32 → r ≢ s → length block ≡ 4096 → ¬ Meets (ring_write r j block) s.slot (s.at + 4096 * k) 4096
rings_apart rings apart r s j k block r_in s_in j_lt k_lt ne size = λ m.
    let b = m.begins in
    let e = m.ends in
    ne (apart r s j k r_in s_in j_lt k_lt m.same (omega (arith, b)) (omega (arith, e, size))).0

-- what was asked for at a block is the one block, in a ring that is written
asked_block : (rings : List Ring) (k : ℕ) (block : List ℕ) (writes : List PendingWrite) (slot at : ℕ) (bytes : List ℕ) → AreRingWrites rings k block writes → WasAsked writes slot at bytes → (r : Ring) × IsAmong rings r × (r.slot ≡ slot) × (r.at + 4096 * k ≡ at) × (block ≡ bytes)
asked_block rings k block [] slot at bytes all asked = absurd asked
asked_block rings k block (w ∷ writes) slot at bytes all (inl here) =
    let is = all.0.2 in
    (all.0.0, all.0.1, sym (ap (λ (x : PendingWrite). x.slot) is) ∙ here.0, sym (ap (λ (x : PendingWrite). x.at) is) ∙ here.1, sym (ap (λ (x : PendingWrite). x.bytes) is) ∙ here.2)
asked_block rings k block (w ∷ writes) slot at bytes all (inr there) = asked_block rings k block writes slot at bytes all.1 there

ring_writes_apart : (rings : List Ring) (j : ℕ) (block : List ℕ) (writes : List PendingWrite) (slot at n : ℕ) → AreRingWrites rings j block writes → ((r : Ring) → IsAmong rings r → ¬ Meets (ring_write r j block) slot at n) → IsUntouched writes slot at n
ring_writes_apart rings j block [] slot at n all apart = tt
ring_writes_apart rings j block (w ∷ writes) slot at n all apart = (
  subst (λ (x : PendingWrite). ¬ Meets x slot at n) (sym all.0.2) (apart all.0.0 all.0.1),
  ring_writes_apart rings j block writes slot at n all.1 apart,
)

pub publishing_untouched : (rings : List Ring) (j : ℕ) (block : List ℕ) (base : List (List ℕ)) (stand : Stand) (slot at n : ℕ) → IsPublishing rings j block base stand → ((r : Ring) → IsAmong rings r → ¬ Meets (ring_write r j block) slot at n) → IsUntouched stand.writes slot at n
publishing_untouched rings j block base stand slot at n publishing apart = ring_writes_apart rings j block stand.writes slot at n publishing.writes apart

-- `rings` is all that counts, and `written` the part that is written
module _ {Root : Type 0} (txg : Root → ℕ) (IsBlock : Ring → ℕ → List ℕ → Root → Type 0) (one_root : (r : Ring) (k : ℕ) (block : List ℕ) (a b : Root) → IsBlock r k block a → IsBlock r k block b → a ≡ b) (rings : List Ring) where
  -- what counts is the root that the rings have
  pub only_current : (disks : List (List ℕ)) (root other : Root) → RingsHave txg IsBlock rings disks root → IsCurrent txg IsBlock rings disks other → other ≡ root
  only_current disks root other have current = elim (have.others current.ring current.slot other current.among current.in_ring current.valid) [
    | inl same ↦ same.1
    | inr low ↦ let high = current.highest have.ring (txg root % 32) root have.among (slot_below (txg root)) have.newest in absurd (omega (arith, low, high))
  ]

  pub is_current : (disks : List (List ℕ)) (root : Root) → RingsHave txg IsBlock rings disks root → IsCurrent txg IsBlock rings disks root
  is_current disks root have = record {
    ring = have.ring;
    slot = txg root % 32;
    among = have.among;
    in_ring = slot_below (txg root);
    valid = have.newest;
    highest = λ r k other among lt valid. elim (have.others r k other among lt valid) [
      | inl same ↦ let t : txg other ≡ txg root = ap txg same.1 in omega (arith, t)
      | inr low ↦ omega (arith, low)
    ];
  }

  pub rings_same : (a b : List (List ℕ)) (root : Root) → RingsHave txg IsBlock rings a root → ((r : Ring) (k : ℕ) → IsAmong rings r → k < 32 → block_at b r k ≡ block_at a r k) → RingsHave txg IsBlock rings b root
  rings_same a b root have same = record {
    ring = have.ring;
    among = have.among;
    newest = subst (λ (x : List ℕ). IsBlock have.ring (txg root % 32) x root) (sym (same have.ring (txg root % 32) have.among (slot_below (txg root)))) have.newest;
    others = λ r k other among lt valid. have.others r k other among lt (subst (λ (x : List ℕ). IsBlock r k x other) (same r k among lt) valid);
  }

  pub none_same : (a b : List (List ℕ)) → HaveNone IsBlock rings a → ((r : Ring) (k : ℕ) → IsAmong rings r → k < 32 → block_at b r k ≡ block_at a r k) → HaveNone IsBlock rings b
  none_same a b none same = λ r k root among lt valid. none r k root among lt (subst (λ (x : List ℕ). IsBlock r k x root) (same r k among lt) valid)

  -- the root of before, if there was one
  abbrev pub Holds : Option Root → List (List ℕ) → Type 0
  Holds None disks = HaveNone IsBlock rings disks
  Holds (Some root) disks = RingsHave txg IsBlock rings disks root

  abbrev pub IsAfter : Option Root → Root → Type 0
  IsAfter None next = Unit {0}
  IsAfter (Some root) next = IsNext (txg root) (txg next)

  pub holds_same : (before : Option Root) (a b : List (List ℕ)) → Holds before a → ((r : Ring) (k : ℕ) → IsAmong rings r → k < 32 → block_at b r k ≡ block_at a r k) → Holds before b
  holds_same None a b holds same = none_same a b holds same
  holds_same (Some root) a b holds same = rings_same a b root holds same

  -- all valid blocks of before are older than the next root
  lower : (before : Option Root) (next : Root) (disks : List (List ℕ)) → Holds before disks → IsAfter before next → (r : Ring) (k : ℕ) (x : Root) → IsAmong rings r → k < 32 → IsBlock r k (block_at disks r k) x → txg x < txg next
  lower None next disks holds after r k x among lt is = absurd (holds r k x among lt is)
  lower (Some root) next disks holds after r k x among lt is =
      let h = (is_current disks root holds).highest r k x among lt is in
      let n = after.newer in
      omega (arith, h, n)

  module _ (apart : AreApart rings) (written : List Ring) (within : (r : Ring) → IsAmong written r → IsAmong rings r)
      (base image : List (List ℕ)) (stand : Stand) (next : Root) (block : List ℕ) (size : length block ≡ 4096) (valid : (r : Ring) → IsAmong written r → IsBlock r (txg next % 32) block next)
      (publishing : IsPublishing written (txg next % 32) block base stand) (leaves : MayLeave stand image) (honest : IsHonest IsBlock rings stand image) where
    abbrev j : ℕ
    j = txg next % 32

    -- the other blocks stay
    pub other : (r : Ring) (k : ℕ) → IsAmong rings r → k < 32 → k ≢ j → block_at image r k ≡ block_at base r k
    other r k among lt ne =
        leaves.bytes r.slot (r.at + 4096 * k) 4096
        (publishing_untouched written j block base stand r.slot (r.at + 4096 * k) 4096 publishing (λ s s_among. blocks_apart rings apart s r j k block (within s s_among) among (slot_below (txg next)) lt (λ same. ne (sym same)) size))
        ∙ ap (λ (d : List (List ℕ)). block_at d r k) publishing.durable

    abbrev IsOld : Ring → Type 0
    IsOld r = (block_at image r j ≡ block_at base r j) ⊎ ((x : Root) → ¬ IsBlock r j (block_at image r j) x)

    each : (r : Ring) → IsAmong rings r → IsBlock r j (block_at image r j) next ⊎ IsOld r
    each r among = elim (honest r j among (slot_below (txg next))) [
      | inl old ↦ inr (inl (old ∙ ap (λ (d : List (List ℕ)). block_at d r j) publishing.durable))
      | inr h ↦ elim h [
        | inl asked ↦ inl (came (asked_block written j block stand.writes r.slot (r.at + 4096 * j) (block_at image r j) publishing.writes asked))
        | inr none ↦ inr (inr none)
      ]
    ]
      where
        came : (s : Ring) × IsAmong written s × (s.slot ≡ r.slot) × (s.at + 4096 * j ≡ r.at + 4096 * j) × (block ≡ block_at image r j) → IsBlock r j (block_at image r j) next
        came found =
            let e = found.3 in
            let at : found.0.at ≡ r.at = omega (arith, e) in
            let is : found.0 ≡ r = same_ring found.0 r found.2 at in
            subst (λ (b : List ℕ). IsBlock r j b next) found.4 (subst (λ (x : Ring). IsBlock x j block next) is (valid found.0 found.1))

    -- it has come into some ring, or into none
    some_or_none : (rs : List Ring) → ((r : Ring) → IsAmong rs r → IsAmong rings r) → ((r : Ring) × IsAmong rings r × IsBlock r j (block_at image r j) next) ⊎ ((r : Ring) → IsAmong rs r → IsOld r)
    some_or_none [] inside = inr (λ r none. absurd none)
    some_or_none (r ∷ rs) inside = elim (each r (inside r (inl refl))) [
      | inl new ↦ inl (r, inside r (inl refl), new)
      | inr old ↦ elim (some_or_none rs (λ s among. inside s (inr among))) [
        | inl some ↦ inl some
        | inr none ↦ inr (λ s among. one s among old none)
      ]
    ]
      where
        one : (s : Ring) → (r ≡ s) ⊎ IsAmong rs s → IsOld r → ((t : Ring) → IsAmong rs t → IsOld t) → IsOld s
        one s (inl is) old none = subst IsOld is old
        one s (inr among) old none = none s among

    -- where it has come into none, the rings are as before
    stays : (before : Option Root) → Holds before base → IsAfter before next → ((r : Ring) → IsAmong rings r → IsOld r) → Holds before image
    stays None holds after old = λ r k x among lt is. here r k x among lt is (cases_eq k j)
      where
        here : (r : Ring) (k : ℕ) (x : Root) → IsAmong rings r → k < 32 → IsBlock r k (block_at image r k) x → (k ≡ j) ⊎ (k ≢ j) → ⊥
        here r k x among lt is (inr ne) = holds r k x among lt (subst (λ (b : List ℕ). IsBlock r k b x) (other r k among lt ne) is)
        here r k x among lt is (inl same) =
            let at_j = subst (λ (n : ℕ). IsBlock r n (block_at image r n) x) same is in
            elim (old r among) [
              | inl o ↦ holds r j x among (slot_below (txg next)) (subst (λ (b : List ℕ). IsBlock r j b x) o at_j)
              | inr none ↦ none x at_j
            ]
    stays (Some root) holds after old = record {
      ring = holds.ring;
      among = holds.among;
      newest = subst (λ (x : List ℕ). IsBlock holds.ring (txg root % 32) x root) (sym (other holds.ring (txg root % 32) holds.among (slot_below (txg root)) after.other_slot)) holds.newest;
      others = λ r k x among lt is. here r k x among lt is (cases_eq k j);
    }
      where
        here : (r : Ring) (k : ℕ) (x : Root) → IsAmong rings r → k < 32 → IsBlock r k (block_at image r k) x → (k ≡ j) ⊎ (k ≢ j) → ((k ≡ txg root % 32) × (x ≡ root)) ⊎ (txg x < txg root)
        here r k x among lt is (inr ne) = holds.others r k x among lt (subst (λ (b : List ℕ). IsBlock r k b x) (other r k among lt ne) is)
        here r k x among lt is (inl same) =
            let at_j = subst (λ (n : ℕ). IsBlock r n (block_at image r n) x) same is in
            elim (old r among) [
              | inl o ↦ holds.others r k x among lt (subst (λ (n : ℕ). IsBlock r n (block_at base r n) x) (sym same) (subst (λ (b : List ℕ). IsBlock r j b x) o at_j))
              | inr none ↦ absurd (none x at_j)
            ]

    -- where it has come into one, the rings have it
    pub comes : (before : Option Root) → Holds before base → IsAfter before next → (s : Ring) → IsAmong rings s → IsBlock s j (block_at image s j) next → RingsHave txg IsBlock rings image next
    comes before holds after s s_among stands = record {
      ring = s;
      among = s_among;
      newest = stands;
      others = λ r k x among lt is. here r k x among lt is (cases_eq k j);
    }
      where
        here : (r : Ring) (k : ℕ) (x : Root) → IsAmong rings r → k < 32 → IsBlock r k (block_at image r k) x → (k ≡ j) ⊎ (k ≢ j) → ((k ≡ txg next % 32) × (x ≡ next)) ⊎ (txg x < txg next)
        here r k x among lt is (inr ne) = inr (lower before next base holds after r k x among lt (subst (λ (b : List ℕ). IsBlock r k b x) (other r k among lt ne) is))
        here r k x among lt is (inl same) =
            let at_j = subst (λ (n : ℕ). IsBlock r n (block_at image r n) x) same is in
            elim (each r among) [
              | inl new ↦ inl (same, one_root r j (block_at image r j) x next at_j new)
              | inr old ↦ elim old [
                | inl o ↦ inr (lower before next base holds after r j x among (slot_below (txg next)) (subst (λ (b : List ℕ). IsBlock r j b x) o at_j))
                | inr none ↦ absurd (none x at_j)
              ]
            ]

    -- an honest crash leaves the rings as before, or with the next root
    pub publishing_rings : (before : Option Root) → Holds before base → IsAfter before next → Holds before image ⊎ RingsHave txg IsBlock rings image next
    publishing_rings before holds after = elim (some_or_none rings (λ r among. among)) [
      | inl some ↦ inr (comes before holds after some.0 some.1 some.2)
      | inr none ↦ inl (stays before holds after none)
    ]

    -- the same block is put into further rings, while one that is not written has it
    pub repeating_rings : RingsHave txg IsBlock rings base next → (s : Ring) → IsAmong rings s → ((r : Ring) → IsAmong written r → r ≢ s) → IsBlock s j (block_at base s j) next → RingsHave txg IsBlock rings image next
    repeating_rings have s s_in not_written stands = record {
      ring = s;
      among = s_in;
      newest = subst (λ (b : List ℕ). IsBlock s j b next) (sym kept) stands;
      others = λ r k x among lt is. here r k x among lt is (cases_eq k j);
    }
      where
        kept : block_at image s j ≡ block_at base s j
        kept =
            leaves.bytes s.slot (s.at + 4096 * j) 4096
            (publishing_untouched written j block base stand s.slot (s.at + 4096 * j) 4096 publishing (λ r r_in. rings_apart rings apart r s j j block (within r r_in) s_in (slot_below (txg next)) (slot_below (txg next)) (not_written r r_in) size))
            ∙ ap (λ (d : List (List ℕ)). block_at d s j) publishing.durable

        here : (r : Ring) (k : ℕ) (x : Root) → IsAmong rings r → k < 32 → IsBlock r k (block_at image r k) x → (k ≡ j) ⊎ (k ≢ j) → ((k ≡ txg next % 32) × (x ≡ next)) ⊎ (txg x < txg next)
        here r k x among lt is (inr ne) = have.others r k x among lt (subst (λ (b : List ℕ). IsBlock r k b x) (other r k among lt ne) is)
        here r k x among lt is (inl same) =
            let at_j = subst (λ (n : ℕ). IsBlock r n (block_at image r n) x) same is in
            elim (each r among) [
              | inl new ↦ inl (same, one_root r j (block_at image r j) x next at_j new)
              | inr old ↦ elim old [
                | inl o ↦ have.others r k x among lt (subst (λ (n : ℕ). IsBlock r n (block_at base r n) x) (sym same) (subst (λ (b : List ℕ). IsBlock r j b x) o at_j))
                | inr none ↦ absurd (none x at_j)
              ]
            ]

  -- what the root leads to, as far as its ranges have the same bytes
  module _ {State : Type 0} (Means : Root → List (List ℕ) → State → Type 0) (ranges : Root → ℕ → ℕ → ℕ → Type 0)
      (frame : (root : Root) (a b : List (List ℕ)) (state : State) → IsSameIn (ranges root) a b → Means root a state → Means root b state) where
    abbrev pub root_of : Option (Root × State) → Option Root
    root_of None = None
    root_of (Some (root, state)) = Some root

    abbrev pub ranges_of : Option (Root × State) → ℕ → ℕ → ℕ → Type 0
    ranges_of None slot at n = ⊥
    ranges_of (Some (root, state)) slot at n = ranges root slot at n

    -- the same bytes in the ranges and in the rings show the same
    pub shows_same : (before : Option (Root × State)) (a b : List (List ℕ)) → Shows txg IsBlock rings Means before a → IsSameIn (Kept rings (ranges_of before)) a b → Shows txg IsBlock rings Means before b
    shows_same None a b shows same = none_same a b shows (λ r k among lt. same r.slot (r.at + 4096 * k) 4096 (of_ring r k among lt refl refl refl))
    shows_same (Some (root, state)) a b shows same = (
      rings_same a b root shows.0 (λ r k among lt. same r.slot (r.at + 4096 * k) 4096 (of_ring r k among lt refl refl refl)),
      frame root a b state (λ slot at n h. same slot at n (of_root h)) shows.1,
    )

    -- while what is new is written, each crash leaves what was before
    pub guarded_leaves : (before : Option (Root × State)) (base image : List (List ℕ)) (stand : Stand) → Shows txg IsBlock rings Means before base → IsGuarded (Kept rings (ranges_of before)) base stand → MayLeave stand image → Shows txg IsBlock rings Means before image
    guarded_leaves before base image stand shows guard leaves = shows_same before base image shows (guarded_image (Kept rings (ranges_of before)) base stand image guard leaves)

    module _ (apart : AreApart rings) (written : List Ring) (within : (r : Ring) → IsAmong written r → IsAmong rings r)
        (data_apart : (x : Root) (r : Ring) (j : ℕ) (block : List ℕ) (slot at n : ℕ) → IsAmong rings r → j < 32 → length block ≡ 4096 → ranges x slot at n → ¬ Meets (ring_write r j block) slot at n)
        (base image : List (List ℕ)) (stand : Stand) (next : Root) (block : List ℕ) (size : length block ≡ 4096) (valid : (r : Ring) → IsAmong written r → IsBlock r (txg next % 32) block next)
        (publishing : IsPublishing written (txg next % 32) block base stand) (leaves : MayLeave stand image) (honest : IsHonest IsBlock rings stand image) where
      same : (x : Root) → IsSameIn (ranges x) base image
      same x slot at n h =
          leaves.bytes slot at n (publishing_untouched written (txg next % 32) block base stand slot at n publishing (λ r among. data_apart x r (txg next % 32) block slot at n (within r among) (slot_below (txg next)) size h))
          ∙ ap (λ (d : List (List ℕ)). part (disk d slot) at n) publishing.durable

      -- while the rings are written, it leaves what was before or what is next
      pub publishing_leaves : (before : Option (Root × State)) (new : State) → Shows txg IsBlock rings Means before base → IsAfter (root_of before) next → Means next base new → Shows txg IsBlock rings Means before image ⊎ Shows txg IsBlock rings Means (Some (next, new)) image
      publishing_leaves None new shows after means = elim (publishing_rings apart written within base image stand next block size valid publishing leaves honest None shows after) [
        | inl none ↦ inl none
        | inr has ↦ inr (has, frame next base image new (same next) means)
      ]
      publishing_leaves (Some (root, old)) new shows after means = elim (publishing_rings apart written within base image stand next block size valid publishing leaves honest (Some root) shows.0 after) [
        | inl has ↦ inl (has, frame root base image old (same root) shows.1)
        | inr has ↦ inr (has, frame next base image new (same next) means)
      ]

      -- while it is put into further rings, it leaves what is next
      pub repeating_leaves : (new : State) → Shows txg IsBlock rings Means (Some (next, new)) base → (s : Ring) → IsAmong rings s → ((r : Ring) → IsAmong written r → r ≢ s) → IsBlock s (txg next % 32) (block_at base s (txg next % 32)) next → Shows txg IsBlock rings Means (Some (next, new)) image
      repeating_leaves new shows s s_in not_written stands = (
        repeating_rings apart written within base image stand next block size valid publishing leaves honest shows.0 s s_in not_written stands,
        frame next base image new (same next) shows.1,
      )

-- what is read after the writes were done is honest
module _ {Root : Type 0} (IsBlock : Ring → ℕ → List ℕ → Root → Type 0) (rings : List Ring) (apart : AreApart rings) (written : List Ring) (within : (r : Ring) → IsAmong written r → IsAmong rings r) (j : ℕ) (small : j < 32) (block : List ℕ) (size : length block ≡ 4096) (disks : List (List ℕ)) where
  asked_or_not : (writes : List PendingWrite) → AreRingWrites written j block writes → AllByRecursion (Reads disks) writes → (r : Ring) (k : ℕ) → IsAmong rings r → k < 32 → WasAsked writes r.slot (r.at + 4096 * k) (block_at disks r k) ⊎ IsUntouched writes r.slot (r.at + 4096 * k) 4096
  asked_or_not [] all reads r k among lt = inr tt
  asked_or_not (w ∷ writes) all reads r k among lt = elim (asked_or_not writes all.1 reads.1 r k among lt) [
    | inl asked ↦ inl (inr asked)
    | inr untouched ↦ here (cases_eq s.slot r.slot) (cases_eq s.at r.at) (cases_eq j k) untouched
  ]
    where
      s : Ring
      s = all.0.0

      is : w ≡ ring_write s j block
      is = all.0.2

      meets_none : ¬ Meets (ring_write s j block) r.slot (r.at + 4096 * k) 4096 → IsUntouched writes r.slot (r.at + 4096 * k) 4096 → IsUntouched (w ∷ writes) r.slot (r.at + 4096 * k) 4096
      meets_none none rest = (subst (λ (x : PendingWrite). ¬ Meets x r.slot (r.at + 4096 * k) 4096) (sym is) none, rest)

      here : (s.slot ≡ r.slot) ⊎ (s.slot ≢ r.slot) → (s.at ≡ r.at) ⊎ (s.at ≢ r.at) → (j ≡ k) ⊎ (j ≢ k) → IsUntouched writes r.slot (r.at + 4096 * k) 4096 → WasAsked (w ∷ writes) r.slot (r.at + 4096 * k) (block_at disks r k) ⊎ IsUntouched (w ∷ writes) r.slot (r.at + 4096 * k) 4096
      here (inr ne) at place rest = inr (meets_none (λ m. ne m.same) rest)
      here (inl slot) (inr ne) place rest = inr (meets_none (rings_apart rings apart s r j k block (within s all.0.1) among small lt (λ same. ne (ap (λ (x : Ring). x.at) same)) size) rest)
      here (inl slot) (inl at) (inr ne) rest = inr (meets_none (blocks_apart rings apart s r j k block (within s all.0.1) among small lt ne size) rest)
      here (inl slot) (inl at) (inl place) rest =
          let where_at : s.at + 4096 * j ≡ r.at + 4096 * k = omega (arith, at, place) in
          let read : part (disk disks s.slot) (s.at + 4096 * j) (length block) ≡ block = subst (Reads disks) is reads.0 in
          let whole : part (disk disks s.slot) (s.at + 4096 * j) 4096 ≡ block = subst (λ (n : ℕ). part (disk disks s.slot) (s.at + 4096 * j) n ≡ block) size read in
          let there : block_at disks r k ≡ block = ap (λ (x : ℕ). part (disk disks x) (r.at + 4096 * k) 4096) (sym slot) ∙ ap (λ (x : ℕ). part (disk disks s.slot) x 4096) (sym where_at) ∙ whole in
          inl (inl (
            ap (λ (x : PendingWrite). x.slot) is ∙ slot,
            ap (λ (x : PendingWrite). x.at) is ∙ where_at,
            ap (λ (x : PendingWrite). x.bytes) is ∙ sym there,
          ))

  pub reads_are_honest : (stand : Stand) → AreRingWrites written j block stand.writes → AllByRecursion (Reads disks) stand.writes → MayLeave stand disks → IsHonest IsBlock rings stand disks
  reads_are_honest stand all reads leaves r k among lt = elim (asked_or_not stand.writes all reads r k among lt) [
    | inl asked ↦ inr (inl asked)
    | inr untouched ↦ inl (leaves.bytes r.slot (r.at + 4096 * k) 4096 untouched)
  ]

-- the ring writes that a publication makes
abbrev pub IsRingWrite : List Ring → ℕ → List ℕ → PendingWrite → Type 0
IsRingWrite rings k block w = (r : Ring) × IsAmong rings r × (w ≡ ring_write r k block)

-- ring writes without a flush are a publication at every moment
pub publishing_throughout : (rings : List Ring) (k : ℕ) (block : List ℕ) (base : List (List ℕ)) (old new : World) → IsPublishing rings k block base old.now → WritesOnly (IsRingWrite rings k block) old new → Throughout (IsPublishing rings k block base) old new × IsPublishing rings k block base new.now
publishing_throughout rings k block base old new start does =
    added_throughout (IsPublishing rings k block base) (IsRingWrite rings k block) step old new does start
  where
    step : (old new : Stand) → Adds (IsRingWrite rings k block) old new → IsPublishing rings k block base old → IsPublishing rings k block base new
    step old new (added_none is) h = subst (IsPublishing rings k block base) (sym is) h
    step old new (added w may written) h = record {
      durable = written.durable ∙ h.durable;
      writes = subst (AreRingWrites rings k block) (sym written.writes) (may, h.writes);
    }

-- it begins at rest
pub publishing_start : (rings : List Ring) (k : ℕ) (block : List ℕ) (stand : Stand) → IsAtRest stand → IsPublishing rings k block stand.durable stand
publishing_start rings k block stand rest = record { durable = refl; writes = subst (AreRingWrites rings k block) (sym rest.writes) tt }

-- at rest all that the root shows is guarded
module _ {Root State : Type 0} (txg : Root → ℕ) (IsBlock : Ring → ℕ → List ℕ → Root → Type 0) (one_root : (r : Ring) (k : ℕ) (block : List ℕ) (a b : Root) → IsBlock r k block a → IsBlock r k block b → a ≡ b) (rings : List Ring)
    (Means : Root → List (List ℕ) → State → Type 0) (ranges : Root → ℕ → ℕ → ℕ → Type 0)
    (frame : (root : Root) (a b : List (List ℕ)) (state : State) → IsSameIn (ranges root) a b → Means root a state → Means root b state) where
  -- while what is new is written apart from the old, each crash leaves the old at every moment
  pub writing_leaves : (before : Option (Root × State)) (allowed : PendingWrite → Type 0) → ((w : PendingWrite) → allowed w → (slot at n : ℕ) → Kept rings (ranges_of txg IsBlock one_root rings Means ranges frame before) slot at n → ¬ Meets w slot at n)
      → (base : List (List ℕ)) (old new : World) → Shows txg IsBlock rings Means before base → IsGuarded (Kept rings (ranges_of txg IsBlock one_root rings Means ranges frame before)) base old.now → DoesOnly allowed old new
      → Throughout (λ stand. (image : List (List ℕ)) → MayLeave stand image → Shows txg IsBlock rings Means before image) old new
  writing_leaves before allowed apart base old new shows guard does =
      let K = Kept rings (ranges_of txg IsBlock one_root rings Means ranges frame before) in
      weaker (IsGuarded K base) (λ stand. (image : List (List ℕ)) → MayLeave stand image → Shows txg IsBlock rings Means before image) old new
      (λ stand g image leaves. guarded_leaves txg IsBlock one_root rings Means ranges frame before base image stand shows g leaves)
      (guarded_does K base allowed apart old new does guard).0
