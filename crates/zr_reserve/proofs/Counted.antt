-- What one event does to the counts, and events one after another.
use Rattle.std.proofs.Common.{◌≡◌, ℕ, ◌+◌, ◌*◌, ◌≤◌, Bool, false, List, [], ◌∷◌, length, refl, ◌∙◌, sym, ap, subst, arith, if◌then◌else◌}
use Rattle.std.specs.Prelude.{count_by, sum_by}
use Rattle.std.proofs.Math.Path.{fun_ext}
use Rattle.std.proofs.lemmas.List.Sums.{sum_by-cons}
use Rattle.zr_base.specs.declared.space.Dva.{Dva}
use Rattle.zr_base.specs.declared.space.DevPart.{DevPart}
use Rattle.zr_base.specs.declared.space.DevRow.{DevRow}
use Rattle.zr_base.specs.declared.space.Entry.{Entry}
use Rattle.zr_base.specs.declared.space.Policy.{Policy}
use Rattle.zr_base.specs.declared.space.Sizes.{Sizes}
use Rattle.zr_rules.specs.Columns.{sizes}
use Rattle.zr_rules.specs.Devices.{Devices}
use Rattle.zr_rules.specs.Equation.{devices_in}
use Rattle.zr_rules.specs.Frees.{Allocates, AllocatesMeta, DropsMeta, Frees, IsSamePart}
use Rattle.zr_rules.specs.Places.{is_leaving, part_of, state_of_dev}
use Rattle.zr_rules.specs.Resolve.{IsRanked}
use Rattle.zr_rules.specs.Space.{Space, IsLawful}
use Rattle.zr_reckon.specs.Base.{base_words}
use Rattle.zr_reckon.specs.Coming.{KeepsRecords}
use Rattle.zr_reckon.specs.Pieces.{IsFreeable}
use Rattle.zr_reckon.proofs.Frames.{gone_same, streams_same}
use Rattle.zr_reckon.proofs.FreePieces.{free_uncopied}
use Rattle.zr_reckon.proofs.FreeUnit.{unit_words, unit_base, unit_words_there, unit_base_there}
use Rattle.zr_reckon.proofs.GroupRoom.{block_room, metadata_room, freed_room, freed_free, drop_room, drop_words, drop_base, drop_free, drop_others}
use Rattle.zr_reckon.proofs.MetaTurns.{drop_held, drop_dropped, freed_dropped}
use Rattle.zr_reckon.proofs.MetaPlaced.{meta_words, meta_base, meta_dropped, meta_frees, meta_lens, meta_others}
use Rattle.zr_reckon.proofs.Placed.{allocation_words, allocation_base, allocation_dropped, allocation_frees, allocation_others}
use Rattle.zr_reserve.specs.Wrote.{Event, Happens, Happen, Wrote, is_block_put, is_block_freed, is_meta_put, units_given, units_of}
use Rattle.zr_reserve.specs.Wrote.Event.{BlockPut, BlockFreed, MetaPut, MetaGiven}

-- ---- one event

pub block_put : (policy : Policy) (old new : Space) (at : Dva) (most : ℕ) → Allocates policy 1 old new at → IsLawful old → Wrote old new most 1 0 0 0
block_put policy old new at most a l =
    let free = allocation_frees policy 1 old new at a l in
    let room = block_room policy 1 old new at a in
    let words = allocation_words policy 1 old new at a l 0 0 in
    let base = allocation_base policy 1 old new at a l in
    let meta = ap units_of a.meta in
    let saved = ap units_of a.frame.saved_meta in
    let waits = allocation_dropped policy 1 old new at a l in
    let uncopied = ap (λ (z : Sizes). z.uncopied) (allocation_others policy 1 old new at a l 0 0) in
    record {
      lawful = a.frame.lawful l;
      version = a.frame.version;
      devices = a.frame.devices;
      each = a.frame.each;
      free = omega (arith, free);
      room = omega (arith, room);
      words = omega (arith, words);
      base = omega (arith, base);
      uncopied = omega (arith, uncopied);
      held = omega (arith, meta, saved);
      waits = omega (arith, waits);
    }

pub block_freed : (old new : Space) (a : Dva) (birth most : ℕ) → Frees old new a birth → IsLawful old → (sizes new 0 0).words ≤ (sizes old 0 0).words + most → base_words new ≤ base_words old + most → Wrote old new most 0 1 0 0
block_freed old new a birth most f l words base =
    let free = freed_free old new a birth f in
    let meta = ap units_of f.meta in
    let saved = ap units_of f.frame.saved_meta in
    let waits = freed_dropped old new a birth f in
    let room = freed_room old new a birth f in
    record {
      lawful = f.frame.lawful l;
      version = f.frame.version;
      devices = f.frame.devices;
      each = f.frame.each;
      free = omega (arith, free);
      room = omega (arith, room);
      words = omega (arith, words);
      base = omega (arith, base);
      uncopied = free_uncopied old new a birth f l 0 0;
      held = omega (arith, meta, saved);
      waits = omega (arith, waits);
    }

pub metadata_put : (policy : Policy) (old new : Space) (at : Dva) (most : ℕ) → AllocatesMeta policy 1 old new at → IsLawful old → Wrote old new most 0 0 1 0
metadata_put policy old new at most a l =
    let free = meta_frees policy 1 old new at a l in
    let room = metadata_room policy 1 old new at a in
    let words = meta_words policy 1 old new at a l 0 0 in
    let base = meta_base policy 1 old new at a l in
    let meta = meta_lens policy 1 old new at a l in
    let saved = ap units_of a.frame.saved_meta in
    let waits = meta_dropped policy 1 old new at a l in
    let uncopied = ap (λ (z : Sizes). z.uncopied) (meta_others policy 1 old new at a l 0 0) in
    record {
      lawful = a.frame.lawful l;
      version = a.frame.version;
      devices = a.frame.devices;
      each = a.frame.each;
      free = omega (arith, free);
      room = omega (arith, room);
      words = omega (arith, words);
      base = omega (arith, base);
      uncopied = omega (arith, uncopied);
      held = omega (arith, meta, saved);
      waits = omega (arith, waits);
    }

pub metadata_given : (old new : Space) (list : List Dva) (most : ℕ) → DropsMeta old new list → KeepsRecords old new → Wrote old new most 0 0 0 (units_of list)
metadata_given old new list most c k =
    let free = drop_free old new list c k in
    let room = drop_room old new list c k in
    let words = drop_words old new list c k 0 0 in
    let base = drop_base old new list c k in
    let held = drop_held old new list c k in
    let uncopied = ap (λ (z : Sizes). z.uncopied) (drop_others old new list c k 0 0) in
    record {
      lawful = k.new_lawful;
      version = k.version;
      devices = k.devices;
      each = k.each;
      free = omega (arith, free);
      room = omega (arith, room);
      words = omega (arith, words);
      base = omega (arith, base);
      uncopied = omega (arith, uncopied);
      held = omega (arith, held);
      waits = drop_dropped old new list c k;
    }

-- ---- one after another

pub nothing_written : (s : Space) (most : ℕ) → IsLawful s → Wrote s s most 0 0 0 0
nothing_written s most l = record {
  lawful = l;
  version = refl;
  devices = refl;
  each = λ d. record { row = refl; entries = refl; counts = refl; late1 = refl; late2 = refl };
  free = omega arith;
  room = omega arith;
  words = omega arith;
  base = omega arith;
  uncopied = omega arith;
  held = omega arith;
  waits = omega arith;
}

same_part : (a b c : DevPart) → IsSamePart a b → IsSamePart b c → IsSamePart a c
same_part a b c p q = record { row = q.row ∙ p.row; entries = q.entries ∙ p.entries; counts = q.counts ∙ p.counts; late1 = q.late1 ∙ p.late1; late2 = q.late2 ∙ p.late2 }

-- each of two runs of frees adds its words
two_frees : (x y z a b m n k : ℕ) → y ≤ x + a + m * k → z ≤ y + b + n * k → z ≤ x + (a + b) + (m + n) * k
two_frees x y z a b m n k p q = omega (arith, p, q)

pub then_written : (a b c : Space) (most blocks frees metadata given blocks' frees' metadata' given' : ℕ) → Wrote a b most blocks frees metadata given → Wrote b c most blocks' frees' metadata' given'
    → Wrote a c most (blocks + blocks') (frees + frees') (metadata + metadata') (given + given')
then_written a b c most blocks frees metadata given blocks' frees' metadata' given' p q =
    let f1 = p.free in
    let f2 = q.free in
    let r1 = p.room in
    let r2 = q.room in
    let u1 = p.uncopied in
    let u2 = q.uncopied in
    let h1 = p.held in
    let h2 = q.held in
    let w1 = p.waits in
    let w2 = q.waits in
    record {
      lawful = q.lawful;
      version = q.version ∙ p.version;
      devices = q.devices ∙ p.devices;
      each = λ d. same_part (part_of a.parts.devs d) (part_of b.parts.devs d) (part_of c.parts.devs d) (p.each d) (q.each d);
      free = omega (arith, f1, f2);
      room = omega (arith, r1, r2);
      words = two_frees _ _ _ blocks blocks' frees frees' most p.words q.words;
      base = two_frees _ _ _ blocks blocks' frees frees' most p.base q.base;
      uncopied = omega (arith, u1, u2);
      held = omega (arith, h1, h2);
      waits = omega (arith, w1, w2);
    }

-- ---- what stays all along

module _ (old new : Space) (most blocks frees metadata given : ℕ) (w : Wrote old new most blocks frees metadata given) where
  pub same_devices : devices_in new ≡ devices_in old
  same_devices = equal (length new.parts.devs) (length old.parts.devs) (λ d. (part_of new.parts.devs d).row) (λ d. (part_of old.parts.devs d).row)
      (λ d. (part_of new.parts.devs d).entries) (λ d. (part_of old.parts.devs d).entries) w.devices (fun_ext (λ d. (w.each d).row)) (fun_ext (λ d. (w.each d).entries))
    where
      equal : (m n : ℕ) (r s : ℕ → DevRow) (e f : ℕ → List Entry) → m ≡ n → r ≡ s → e ≡ f → (let x : Devices = record { count = m; row = r; entries = e } in x) ≡ (let y : Devices = record { count = n; row = s; entries = f } in y)
      equal m n r s e f p q t = cc

  pub still_ranked : IsRanked (devices_in old) → IsRanked (devices_in new)
  still_ranked ranked = subst IsRanked (sym same_devices) ranked

  pub same_gone : (sizes new 0 0).gone ≡ (sizes old 0 0).gone
  same_gone = gone_same old new w.devices (λ d. (w.each d).row)

  pub same_streams : (sizes new 0 0).streams ≡ (sizes old 0 0).streams
  same_streams = ap (λ (n : ℕ). 2 + n) (streams_same old new w.devices (λ d. (w.each d).row))

-- ---- all events

more_kinds : (test : Event → Bool) (e : Event) (es : List Event) → count_by test (e ∷ es) ≡ count_by test (e ∷ []) + count_by test es
more_kinds test e es =
    let a = sum_by-cons (λ (x : Event). if test x then 1 else 0) e es in
    let b = sum_by-cons (λ (x : Event). if test x then 1 else 0) e [] in
    omega (arith, a, b)

module _ (most : ℕ) (Fine : Space → Type 0) (add : (old new : Space) (a : Dva) (birth : ℕ) → Fine old → Frees old new a birth → IsLawful old → IsFreeable old a → a.len ≡ 1 → ((sizes new 0 0).words ≤ (sizes old 0 0).words + most) × (base_words new ≤ base_words old + most))
    (stays : (old new : Space) (blocks frees metadata given : ℕ) → Wrote old new most blocks frees metadata given → Fine old → Fine new) where
  one_counted : (e : Event) (old new : Space) → IsLawful old → Fine old → Happens e old new → Wrote old new most (count_by is_block_put (e ∷ [])) (count_by is_block_freed (e ∷ [])) (count_by is_meta_put (e ∷ [])) (sum_by units_given (e ∷ []))
  one_counted BlockPut old new l fine h = block_put h.0 old new h.1 most h.2 l
  one_counted BlockFreed old new l fine h = block_freed old new h.0 h.1 most h.2 l (add old new h.0 h.1 fine h.2 l h.3 h.4).0 (add old new h.0 h.1 fine h.2 l h.3 h.4).1
  one_counted MetaPut old new l fine h = metadata_put h.0 old new h.1 most h.2 l
  one_counted (MetaGiven units) old new l fine h = subst (λ (n : ℕ). Wrote old new most 0 0 0 n) (let same : units_of h.0 ≡ sum_by units_given (MetaGiven units ∷ []) = h.3 ∙ (omega arith) in same) (metadata_given old new h.0 most h.1 h.2)

  pub all_counted : (events : List Event) (old new : Space) → IsLawful old → Fine old → Happen events old new → Wrote old new most (count_by is_block_put events) (count_by is_block_freed events) (count_by is_meta_put events) (sum_by units_given events)
  all_counted [] old new l fine h = subst (λ (s : Space). Wrote old s most 0 0 0 0) (sym h) (nothing_written old most l)
  all_counted (e ∷ es) old new l fine h =
      let first = one_counted e old h.0 l fine h.1 in
      let rest = all_counted es h.0 new first.lawful (stays old h.0 _ _ _ _ first fine) h.2 in
      let b = more_kinds is_block_put e es in
      let f = more_kinds is_block_freed e es in
      let m = more_kinds is_meta_put e es in
      let g : sum_by units_given (e ∷ es) ≡ sum_by units_given (e ∷ []) + sum_by units_given es = let x = sum_by-cons units_given e es in let y = sum_by-cons units_given e [] in omega (arith, x, y) in
      rw b rw f rw m rw g (then_written old h.0 new most _ _ _ _ _ _ _ _ first rest)

pub counted : (old new : Space) (events : List Event) → Happen events old new → IsLawful old → IsRanked (devices_in old)
    → Wrote old new ((sizes old 0 0).gone + 7) (count_by is_block_put events) (count_by is_block_freed events) (count_by is_meta_put events) (sum_by units_given events)
counted old new events h l ranked =
    all_counted ((sizes old 0 0).gone + 7) Fine
    (λ a b at birth fine f l' free one. let w = unit_words a b at birth f l' free fine.0 one 0 0 in let v = unit_base a b at birth f l' free fine.0 one 0 0 in let g = fine.1 in (omega (arith, w, g), omega (arith, v, g)))
    (λ a b blocks frees metadata given w fine. (still_ranked a b _ blocks frees metadata given w fine.0, same_gone a b _ blocks frees metadata given w ∙ fine.1))
    events old new l (ranked, refl) h
  where
    Fine : Space → Type 0
    Fine s = IsRanked (devices_in s) × ((sizes s 0 0).gone ≡ (sizes old 0 0).gone)

pub counted_there : (old new : Space) (events : List Event) → Happen events old new → IsLawful old → IsRanked (devices_in old) → ((d : ℕ) → is_leaving (state_of_dev old.parts.devs d) ≡ false)
    → Wrote old new ((sizes old 0 0).gone + 3) (count_by is_block_put events) (count_by is_block_freed events) (count_by is_meta_put events) (sum_by units_given events)
counted_there old new events h l ranked none =
    all_counted ((sizes old 0 0).gone + 3) Fine
    (λ a b at birth fine f l' free one. let w = unit_words_there a b at birth f l' free fine.0 one fine.2 0 0 in let v = unit_base_there a b at birth f l' free fine.0 one fine.2 0 0 in let g = fine.1 in (omega (arith, w, g), omega (arith, v, g)))
    (λ a b blocks frees metadata given w fine. (
      still_ranked a b _ blocks frees metadata given w fine.0,
      same_gone a b _ blocks frees metadata given w ∙ fine.1,
      λ d. ap (λ (r : DevRow). is_leaving r.state) (w.each d).row ∙ fine.2 d,
    ))
    events old new l (ranked, refl, none) h
  where
    Fine : Space → Type 0
    Fine s = IsRanked (devices_in s) × ((sizes s 0 0).gone ≡ (sizes old 0 0).gone) × ((d : ℕ) → is_leaving (state_of_dev s.parts.devs d) ≡ false)
