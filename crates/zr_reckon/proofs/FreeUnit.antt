-- A free of a block of one unit: it leads over each removed device once at most, to one unit, which has one copy at most.
use Rattle.std.proofs.Common.{◌≡◌, ◌⊎◌, inl, inr, ℕ, zero, suc, ◌+◌, ◌<◌, ◌≤◌, Bool, true, false, ◌&&◌, nat_le, List, [], ◌∷◌, ◌++◌, length, refl, ◌∙◌, ap, arith, if◌then◌else◌, ⊎_elim}
use Rattle.std.specs.List.{All, sum_by, flat_map}
use Rattle.std.proofs.lemmas.Bool.Decides.{nat_tests}
use Rattle.std.proofs.lemmas.List.{length-append}
use Rattle.std.proofs.lemmas.List.Elements.{All-head, All-tail}
use Rattle.std.proofs.lemmas.List.Sums.{sum_by-cons}
use Rattle.zr_base.specs.declared.space.Dva.{Dva}
use Rattle.zr_base.specs.declared.space.DevPart.{DevPart}
use Rattle.zr_base.specs.declared.space.Entry.{Entry}
use Rattle.zr_rules.specs.Places.{one_if, is_gone, is_leaving, part_of, state_of_dev}
use Rattle.zr_rules.specs.Devices.{Devices, devices_of, state_at}
use Rattle.zr_rules.specs.Mappings.{IsRisingFrom}
use Rattle.zr_rules.specs.Resolve.{MayLeadTo, IsDestination, IsRanked}
use Rattle.zr_rules.specs.Steps.{moved_part, meets}
use Rattle.zr_rules.specs.Columns.{sizes}
use Rattle.zr_rules.specs.Equation.{devices_in}
use Rattle.zr_rules.specs.Frees.{Frees}
use Rattle.zr_rules.specs.Space.{Space, IsLawful}
use Rattle.zr_reckon.specs.Base.{base_words}
use Rattle.zr_reckon.specs.Pieces.{ends, copies_at, ends_of, IsFreeable}
use Rattle.zr_reckon.proofs.Counting.{sum_less}
use Rattle.zr_reckon.proofs.FreePieces.{words_by_kind, base_by_kind, marked_few, none_marked}
use Rattle.zr_reckon.proofs.Leads.{parts_of, ways}

-- ---- one part

-- entries that begin above a unit have none of it
none_after : (s n low : ℕ) (es : List Entry) → n ≡ 1 → s < low → IsRisingFrom low es → parts_of s n es ≡ []
none_after s n low [] one above rising = refl
none_after s n low (e ∷ es) one above rising = by_test (meets s n e) refl (none_after s n (e.src + e.len) es one (let x = rising.0 in omega (arith, above, x)) rising.2)
  where
    by_test : (b : Bool) → meets s n e ≡ b → parts_of s n es ≡ [] → parts_of s n (e ∷ es) ≡ []
    by_test true is r = let x = rising.0 in absurd (grind (arith, nat_tests, is, x, above, one))
    by_test false is r = rw is r

-- the runs are one unit, on a device to which that mapping may lead
pub record IsUnit (ds : Devices) (d : ℕ) (runs : List Dva) : Type 0 where
  pub run : Dva
  pub is : runs ≡ run ∷ []
  pub len : run.len ≡ 1
  pub leads : MayLeadTo ds d run.dev

pub one_part : (ds : Devices) (d s n low : ℕ) (es : List Entry) → n ≡ 1 → IsRisingFrom low es → All (IsDestination ds d) es → (parts_of s n es ≡ []) ⊎ IsUnit ds d (parts_of s n es)
one_part ds d s n low [] one rising all = inl refl
one_part ds d s n low (e ∷ es) one rising all =
    by_test (meets s n e) refl (one_part ds d s n (e.src + e.len) es one rising.2 (All-tail (IsDestination ds d) e es all))
  where
    by_test : (b : Bool) → meets s n e ≡ b → (parts_of s n es ≡ []) ⊎ IsUnit ds d (parts_of s n es) → (parts_of s n (e ∷ es) ≡ []) ⊎ IsUnit ds d (parts_of s n (e ∷ es))
    by_test true is r =
        let rest = none_after s n (e.src + e.len) es one (grind (arith, nat_tests, is)) rising.2 in
        inr (record {
          run = moved_part s n e;
          is = rw is (ap (λ ms. moved_part s n e ∷ ms) rest);
          len = grind (arith, nat_tests, is, one);
          leads = (All-head (IsDestination ds d) e es all).later;
        })
    by_test false is r = rw is r

-- ---- what is there, and its copy

-- where a unit leads is one unit, or nothing
pub record IsEnd (runs : List Dva) : Type 0 where
  pub run : Dva
  pub is : runs ≡ run ∷ []
  pub len : run.len ≡ 1

module _ (ds : Devices) (rising : (d : ℕ) → IsRisingFrom 0 (ds.entries d)) (ranked : IsRanked ds) where
  pub one_end : (hops d s n : ℕ) → n ≡ 1 → (ends hops ds d s n ≡ []) ⊎ IsEnd (ends hops ds d s n)
  one_end zero d s n one = inl refl
  one_end (suc hops) d s n one = by_state (is_gone (state_at ds d)) refl (λ (m : Dva). one_end hops m.dev m.start m.len)
    where
      by_state : (b : Bool) → is_gone (state_at ds d) ≡ b → ((m : Dva) → m.len ≡ 1 → (ends hops ds m.dev m.start m.len ≡ []) ⊎ IsEnd (ends hops ds m.dev m.start m.len))
          → (ends (suc hops) ds d s n ≡ []) ⊎ IsEnd (ends (suc hops) ds d s n)
      by_state true is deeper = rw is (⊎_elim
          (λ none. inl (ap (flat_map (λ (m : Dva). ends hops ds m.dev m.start m.len)) none))
          (λ some. ⊎_elim
          (λ none. inl (ap (flat_map (λ (m : Dva). ends hops ds m.dev m.start m.len)) some.is ∙ ap (λ ms. ms ++ []) none))
          (λ found. inr (record {
            run = found.run;
            is = ap (flat_map (λ (m : Dva). ends hops ds m.dev m.start m.len)) some.is ∙ ap (λ ms. ms ++ []) found.is;
            len = found.len;
          }))
          (deeper some.run some.len))
          (one_part ds d s n 0 (ds.entries d) one (rising d) (ranked d)))
      by_state false is deeper = rw is (inr (record { run = record { dev = d; start = s; len = n }; is = refl; len = one }))

  pub few_ends : (hops d s n : ℕ) → n ≡ 1 → length (ends hops ds d s n) ≤ 1
  few_ends hops d s n one = ⊎_elim
      (λ none. let l = ap (λ (ms : List Dva). length ms) none in omega (arith, l))
      (λ some. let l = ap (λ (ms : List Dva). length ms) some.is in omega (arith, l))
      (one_end hops d s n one)

  few_copies_at : (m : Dva) → m.len ≡ 1 → length (copies_at ds m) ≤ 1
  few_copies_at m one = by_state (is_leaving (state_at ds m.dev)) refl
    where
      by_state : (b : Bool) → is_leaving (state_at ds m.dev) ≡ b → length (copies_at ds m) ≤ 1
      by_state true is = rw is (⊎_elim
          (λ none. let l = ap (λ (ms : List Dva). length ms) none in omega (arith, l))
          (λ some. let l = ap (λ (ms : List Dva). length ms) some.is in omega (arith, l))
          (one_part ds m.dev m.start m.len 0 (ds.entries m.dev) one (rising m.dev) (ranked m.dev)))
      by_state false is = rw is (omega arith)

  pub few_copies : (hops d s n : ℕ) → n ≡ 1 → length (flat_map (copies_at ds) (ends hops ds d s n)) ≤ 1
  few_copies hops d s n one = ⊎_elim
      (λ none. let l = ap (λ (ms : List Dva). length (flat_map (copies_at ds) ms)) none in omega (arith, l))
      (λ some.
      let l = ap (λ (ms : List Dva). length (flat_map (copies_at ds) ms)) some.is in
      let c = length-append (copies_at ds some.run) [] in
      let f = few_copies_at some.run some.len in
      omega (arith, l, c, f))
      (one_end hops d s n one)

-- where no device is leaving there are no copies
pub no_copies : (ds : Devices) (list : List Dva) → ((d : ℕ) → is_leaving (state_at ds d) ≡ false) → flat_map (copies_at ds) list ≡ []
no_copies ds [] none = refl
no_copies ds (m ∷ list) none = rw (none m.dev) (no_copies ds list none)

-- ---- the removed devices on the way

-- the devices that went at this time or later
abbrev gone_from : List DevPart → ℕ → ℕ
gone_from parts t = sum_by (λ (p : DevPart). one_if (is_gone p.row.state && nat_le t p.row.gone)) parts

at_later : (p : DevPart) (t later : ℕ) → t ≤ later → one_if (is_gone p.row.state && nat_le later p.row.gone) ≤ one_if (is_gone p.row.state && nat_le t p.row.gone)
at_later p t later le = by_state (is_gone p.row.state) (nat_le t p.row.gone) (nat_le later p.row.gone) (λ is. grind (arith, nat_tests, is, le))
  where
    by_state : (g x y : Bool) → (y ≡ true → x ≡ true) → one_if (g && y) ≤ one_if (g && x)
    by_state false x y h = omega arith
    by_state true x false h = omega arith
    by_state true true true h = omega arith
    by_state true false true h = let k = h refl in absurd (cc)

fewer_later : (parts : List DevPart) (t later : ℕ) → t ≤ later → gone_from parts later ≤ gone_from parts t
fewer_later parts t later le = sum_less _ _ parts (λ p. at_later p t later le)

-- a device that went counts no more behind its time
one_fewer : (parts : List DevPart) (d later : ℕ) → is_gone (state_of_dev parts d) ≡ true → (part_of parts d).row.gone < later → suc (gone_from parts later) ≤ gone_from parts (part_of parts d).row.gone
one_fewer [] d later is lt = absurd (cc)
one_fewer (p ∷ parts) zero later is lt =
    let t = p.row.gone in
    let h = fewer_later parts t later (omega (arith, lt)) in
    let x = sum_by-cons (λ (q : DevPart). one_if (is_gone q.row.state && nat_le later q.row.gone)) p parts in
    let y = sum_by-cons (λ (q : DevPart). one_if (is_gone q.row.state && nat_le t q.row.gone)) p parts in
    let a : one_if (is_gone p.row.state && nat_le later p.row.gone) ≡ 0 = grind (arith, nat_tests, is, lt) in
    let b : one_if (is_gone p.row.state && nat_le t p.row.gone) ≡ 1 = grind (arith, nat_tests, is) in
    omega (arith, h, x, y, a, b)
one_fewer (p ∷ parts) (suc d) later is lt =
    let t = (part_of parts d).row.gone in
    let r = one_fewer parts d later is lt in
    let h = at_later p t later (omega (arith, lt)) in
    let x = sum_by-cons (λ (q : DevPart). one_if (is_gone q.row.state && nat_le later q.row.gone)) p parts in
    let y = sum_by-cons (λ (q : DevPart). one_if (is_gone q.row.state && nat_le t q.row.gone)) p parts in
    omega (arith, r, h, x, y)

module _ (parts : List DevPart) (rising : (d : ℕ) → IsRisingFrom 0 (part_of parts d).entries) (ranked : IsRanked (devices_of parts)) where
  abbrev ds : Devices
  ds = devices_of parts

  not_gone : (hops d s n : ℕ) → is_gone (state_at ds d) ≡ false → length (ways hops ds d s n) ≡ 0
  not_gone zero d s n is = refl
  not_gone (suc hops) d s n is = rw is refl

  few_from : (hops d s n : ℕ) → n ≡ 1 → length (ways hops ds d s n) ≤ gone_from parts (part_of parts d).row.gone
  few_from zero d s n one = omega arith
  few_from (suc hops) d s n one = by_state (is_gone (state_at ds d)) refl (λ (m : Dva). few_from hops m.dev m.start m.len)
    where
      by_state : (b : Bool) → is_gone (state_at ds d) ≡ b → ((m : Dva) → m.len ≡ 1 → length (ways hops ds m.dev m.start m.len) ≤ gone_from parts (part_of parts m.dev).row.gone)
          → length (ways (suc hops) ds d s n) ≤ gone_from parts (part_of parts d).row.gone
      by_state true is deeper = rw is (⊎_elim
          (λ none.
          let l = ap (λ (ms : List Dva). length (flat_map (λ (m : Dva). ways hops ds m.dev m.start m.len) ms)) none in
          let k = one_fewer parts d (suc (part_of parts d).row.gone) is (omega arith) in
          omega (arith, l, k))
          (λ some.
          let l = ap (λ (ms : List Dva). length (flat_map (λ (m : Dva). ways hops ds m.dev m.start m.len) ms)) some.is in
          let a = length-append (ways hops ds some.run.dev some.run.start some.run.len) [] in
          ⊎_elim
          (λ there.
          let z = not_gone hops some.run.dev some.run.start some.run.len there in
          let k = one_fewer parts d (suc (part_of parts d).row.gone) is (omega arith) in
          omega (arith, l, a, z, k))
          (λ went.
          let r = deeper some.run some.len in
          let k = one_fewer parts d (part_of parts some.run.dev).row.gone is went.1 in
          omega (arith, l, a, r, k))
          some.leads)
          (one_part ds d s n 0 (ds.entries d) one (rising d) (ranked d)))
      by_state false is deeper = rw is (omega arith)

  pub few_ways : (hops d s n : ℕ) → n ≡ 1 → length (ways hops ds d s n) ≤ sum_by (λ (p : DevPart). if is_gone p.row.state then 1 else 0) parts
  few_ways hops d s n one =
      let f = few_from hops d s n one in
      let g = sum_less (λ (p : DevPart). one_if (is_gone p.row.state && nat_le (part_of parts d).row.gone p.row.gone)) (λ (p : DevPart). if is_gone p.row.state then 1 else 0) parts
      (λ p. either (is_gone p.row.state) (nat_le (part_of parts d).row.gone p.row.gone)) in
      omega (arith, f, g)
    where
      either : (x y : Bool) → one_if (x && y) ≤ (if x then 1 else 0)
      either true true = omega arith
      either true false = omega arith
      either false y = omega arith

-- ---- the words of a free

module _ (old new : Space) (a : Dva) (birth : ℕ) (f : Frees old new a birth) (l : IsLawful old) (free : IsFreeable old a) (ranked : IsRanked (devices_in old)) (one : a.len ≡ 1) where
  short : a.len ≤ 32768
  short = omega (arith, one)

  -- seven words, and one for each removed device
  pub unit_words : (blocks objects : ℕ) → (sizes new blocks objects).words ≤ (sizes old blocks objects).words + (sizes old blocks objects).gone + 7
  unit_words blocks objects =
      let hops = length old.parts.devs in
      let w = words_by_kind old new a birth f l free short blocks objects in
      let m = marked_few old new a birth f l free short in
      let p = few_ways old.parts.devs free.rising ranked hops a.dev a.start a.len one in
      let e = few_ends (devices_in old) free.rising ranked hops a.dev a.start a.len one in
      let c = few_copies (devices_in old) free.rising ranked hops a.dev a.start a.len one in
      omega (arith, w, m, p, e, c)

  pub unit_base : (blocks objects : ℕ) → base_words new ≤ base_words old + (sizes old blocks objects).gone + 7
  unit_base blocks objects =
      let hops = length old.parts.devs in
      let w = base_by_kind old new a birth f l free short in
      let m = marked_few old new a birth f l free short in
      let p = few_ways old.parts.devs free.rising ranked hops a.dev a.start a.len one in
      let e = few_ends (devices_in old) free.rising ranked hops a.dev a.start a.len one in
      let c = few_copies (devices_in old) free.rising ranked hops a.dev a.start a.len one in
      omega (arith, w, m, p, e, c)

  -- and three where none is leaving
  pub unit_words_there : ((d : ℕ) → is_leaving (state_of_dev old.parts.devs d) ≡ false) → (blocks objects : ℕ) → (sizes new blocks objects).words ≤ (sizes old blocks objects).words + (sizes old blocks objects).gone + 3
  unit_words_there none blocks objects =
      let hops = length old.parts.devs in
      let w = words_by_kind old new a birth f l free short blocks objects in
      let m = none_marked old new a birth f l free short none in
      let p = few_ways old.parts.devs free.rising ranked hops a.dev a.start a.len one in
      let e = few_ends (devices_in old) free.rising ranked hops a.dev a.start a.len one in
      let c = ap (λ (ms : List Dva). length ms) (no_copies (devices_in old) (ends_of (devices_in old) a) none) in
      omega (arith, w, m, p, e, c)

  pub unit_base_there : ((d : ℕ) → is_leaving (state_of_dev old.parts.devs d) ≡ false) → (blocks objects : ℕ) → base_words new ≤ base_words old + (sizes old blocks objects).gone + 3
  unit_base_there none blocks objects =
      let hops = length old.parts.devs in
      let w = base_by_kind old new a birth f l free short in
      let m = none_marked old new a birth f l free short none in
      let p = few_ways old.parts.devs free.rising ranked hops a.dev a.start a.len one in
      let e = few_ends (devices_in old) free.rising ranked hops a.dev a.start a.len one in
      let c = ap (λ (ms : List Dva). length ms) (no_copies (devices_in old) (ends_of (devices_in old) a) none) in
      omega (arith, w, m, p, e, c)
