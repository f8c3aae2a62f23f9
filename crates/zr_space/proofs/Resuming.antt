-- A removal and a condensing that go on where a root has them.
use Rattle.std.proofs.Common.{◌≡◌, ℕ, zero, suc, ◌+◌, ◌≤◌, ◌<◌, Bool, true, false, ◌||◌, List, [], ◌∷◌, map, length, take, Option, Some, None, refl, ◌∙◌, sym, ap, subst, arith, ⊎_elim}
use Rattle.std.specs.List.{zip}
use Rattle.std.proofs.lemmas.Bool.{cases_eq}
use Rattle.std.proofs.lemmas.Bool.Decides.{nat_tests}
use Rattle.std.proofs.lemmas.List.Sums.{sum_by-cons}
use Rattle.zr_base.specs.declared.space.CkptPart.{CkptPart}
use Rattle.zr_base.specs.declared.space.CondPart.{CondPart}
use Rattle.zr_base.specs.declared.space.Entry.{Entry}
use Rattle.zr_base.specs.declared.space.Extent.{Extent}
use Rattle.zr_base.specs.Extents.{has_unit, in_extent, IsMaximal}
use Rattle.zr_condense.specs.Condensing.{HasWorked}
use Rattle.zr_condense.proofs.Leading.{entries_in, zip_entries}
use Rattle.zr_condense.proofs.Stepping.{counts_in, zip_counts}
use Rattle.zr_evac.specs.Evacuations.{AreLawful, copies_at, hits_at, is_at}
use Rattle.zr_rules.specs.Condense.{condensed}
use Rattle.zr_rules.specs.Mappings.{entry_at}
use Rattle.zr_rules.specs.Places.{is_leaving, one_if}
use Rattle.zr_rules.specs.Space.{copy_hits}
use Rattle.zr_units.specs.Uses.{IsCopying}
use Rattle.zr_space.specs.Resuming.{CanEnter, CanEnterAll, CanResume, Enters, EntersAll, HaveNoCopies, IsLeavingAlone, IsSameBesideCopies, IsUnderWay, Resumes}
use Rattle.zr_space.specs.Views.{Kept, kept_of, part_in}
use Rattle.zr_space.proofs.Changing.{copies_in}
use Rattle.zr_space.proofs.Leaving.{no_hits}
use Rattle.zr_space.proofs.Turning.{none_beyond}

false_true : false ≡ true → ⊥
false_true e = cc

-- ---- copies are entered one after another

-- these places are left to enter
pub record IsEntering (places rest : List (ℕ × Extent)) (first devs : List Kept) : Type 0 where
  pub count : length devs ≡ length first
  pub same : (d : ℕ) → IsSameBesideCopies (kept_of first d) (kept_of devs d)
  pub copying : (d : ℕ) → IsCopying (kept_of devs d).uses
  pub maximal : (d : ℕ) → IsMaximal (kept_of devs d).uses.copies
  pub hits : (d u : ℕ) → hits_at rest d u + one_if (has_unit (kept_of devs d).uses.copies u) ≡ hits_at places d u
  pub lawful : AreLawful rest

no_copies : (es : List Extent) → es ≡ [] → IsMaximal es
no_copies es is = rw is tt

pub starts_entering : (places : List (ℕ × Extent)) (devs : List Kept) → HaveNoCopies devs → AreLawful places → IsEntering places places devs devs
starts_entering places devs none lawful = record {
  count = refl;
  same = λ d. refl;
  copying = λ d. record {
    held = λ u is. absurd (false_true (sym (ap (λ (es : List Extent). has_unit es u) (none d)) ∙ is));
    unkept = λ u is. absurd (false_true (sym (ap (λ (es : List Extent). has_unit es u) (none d)) ∙ is));
  };
  maximal = λ d. no_copies (kept_of devs d).uses.copies (none d);
  hits = λ d u. let n = ap (λ (es : List Extent). one_if (has_unit es u)) (none d) in omega (arith, n);
  lawful = lawful;
}

then_same : (x y z : Kept) → IsSameBesideCopies x y → IsSameBesideCopies y z → IsSameBesideCopies x z
then_same x y z a b = b ∙ ap (λ (k : Kept). record k { uses = record k.uses { copies = z.uses.copies; spare = z.uses.spare } }) a

module _ (places : List (ℕ × Extent)) (dev : ℕ) (e : Extent) (tail : List (ℕ × Extent)) (first devs : List Kept) (r : IsEntering places ((dev, e) ∷ tail) first devs) where
  same_held : (d u : ℕ) → has_unit (kept_of devs d).uses.held u ≡ has_unit (kept_of first d).uses.held u
  same_held d u = ap (λ (k : Kept). has_unit k.uses.held u) (r.same d)

  same_kept : (d u : ℕ) → has_unit (kept_of devs d).uses.kept u ≡ has_unit (kept_of first d).uses.kept u
  same_kept d u = ap (λ (k : Kept). has_unit k.uses.kept u) (r.same d)

  -- where all places can be entered, the next one can
  pub next_can : CanEnterAll first places → CanEnter (kept_of devs dev) e
  next_can can = record {
    held = λ u is. let f = facts u is in let h = same_held dev u in grind (arith, nat_tests, f, h);
    unkept = λ u is. let f = facts u is in let k = same_kept dev u in grind (arith, nat_tests, f, k);
    uncopied = λ u is. let f = facts u is in grind (arith, nat_tests, f);
  }
    where
      facts : (u : ℕ) → in_extent e u ≡ true → 1 + one_if (has_unit (kept_of devs dev).uses.copies u) + one_if (has_unit (kept_of first dev).uses.kept u) ≤ one_if (has_unit (kept_of first dev).uses.held u)
      facts u is =
          let h = r.hits dev u in
          let c = can dev u in
          let at : is_at (dev, e) dev u ≡ true = grind (arith, nat_tests, is) in
          let one : one_if (is_at (dev, e) dev u) ≡ 1 = ap one_if at in
          omega (arith, h, c, one)

  module _ (next : List Kept) (n : Enters devs next dev e) where
    pub enters_more : IsEntering places tail first next
    enters_more = record {
      count = n.count ∙ r.count;
      same = λ d. then_same (kept_of first d) (kept_of devs d) (kept_of next d) (r.same d) (n.same d);
      copying = λ d. record {
        held = λ u is. let h = ap (λ (k : Kept). has_unit k.uses.held u) (n.same d) in h ∙ held_before d u is;
        unkept = λ u is. let h = ap (λ (k : Kept). has_unit k.uses.kept u) (n.same d) in h ∙ unkept_before d u is;
      };
      maximal = λ d. ⊎_elim
          (λ here. subst (λ j. IsMaximal (kept_of next j).uses.copies) (sym here) n.copies.maximal)
          (λ other. subst IsMaximal (sym (n.others d other)) (r.maximal d))
          (cases_eq d dev);
      hits = λ d u. ⊎_elim
          (λ here. subst (λ j. hits_at tail j u + one_if (has_unit (kept_of next j).uses.copies u) ≡ hits_at places j u) (sym here) (hits_here u))
          (λ other.
          let c = ap (λ (es : List Extent). one_if (has_unit es u)) (n.others d other) in
          let h = r.hits d u in
          let off : one_if (is_at (dev, e) d u) ≡ 0 = grind (arith, nat_tests, other) in
          omega (arith, c, h, off))
          (cases_eq d dev);
      lawful = r.lawful.2;
    }
      where
        turned : (u : ℕ) → has_unit (kept_of next dev).uses.copies u ≡ (has_unit (kept_of devs dev).uses.copies u || in_extent e u)
        turned u = n.copies.members u

        hits_here : (u : ℕ) → hits_at tail dev u + one_if (has_unit (kept_of next dev).uses.copies u) ≡ hits_at places dev u
        hits_here u = by (in_extent e u) refl
          where
            by : (b : Bool) → in_extent e u ≡ b → hits_at tail dev u + one_if (has_unit (kept_of next dev).uses.copies u) ≡ hits_at places dev u
            by true is = let h = r.hits dev u in let t = turned u in let c = n.can.uncopied u is in let at : one_if (is_at (dev, e) dev u) ≡ 1 = grind (arith, nat_tests, is) in grind (arith, nat_tests, h, t, c, at, is)
            by false is = let h = r.hits dev u in let t = turned u in let at : one_if (is_at (dev, e) dev u) ≡ 0 = grind (arith, nat_tests, is) in grind (arith, nat_tests, h, t, at, is)

        held_before : (d u : ℕ) → has_unit (kept_of next d).uses.copies u ≡ true → has_unit (kept_of devs d).uses.held u ≡ true
        held_before d u is = ⊎_elim
            (λ here. subst (λ j. has_unit (kept_of next j).uses.copies u ≡ true → has_unit (kept_of devs j).uses.held u ≡ true) (sym here) held_here is)
            (λ other. (r.copying d).held u (sym (ap (λ (es : List Extent). has_unit es u) (n.others d other)) ∙ is))
            (cases_eq d dev)
          where
            held_here : has_unit (kept_of next dev).uses.copies u ≡ true → has_unit (kept_of devs dev).uses.held u ≡ true
            held_here has = let t = turned u in let old = (r.copying dev).held u in let new = n.can.held u in grind (arith, t, old, new, has)

        unkept_before : (d u : ℕ) → has_unit (kept_of next d).uses.copies u ≡ true → has_unit (kept_of devs d).uses.kept u ≡ false
        unkept_before d u is = ⊎_elim
            (λ here. subst (λ j. has_unit (kept_of next j).uses.copies u ≡ true → has_unit (kept_of devs j).uses.kept u ≡ false) (sym here) unkept_here is)
            (λ other. (r.copying d).unkept u (sym (ap (λ (es : List Extent). has_unit es u) (n.others d other)) ∙ is))
            (cases_eq d dev)
          where
            unkept_here : has_unit (kept_of next dev).uses.copies u ≡ true → has_unit (kept_of devs dev).uses.kept u ≡ false
            unkept_here has = let t = turned u in let old = (r.copying dev).unkept u in let new = n.can.unkept u in grind (arith, t, old, new, has)

pub all_entered : (places rest : List (ℕ × Extent)) (first devs : List Kept) → IsEntering places rest first devs → rest ≡ [] → EntersAll first devs places
all_entered places rest first devs r end = record {
  count = r.count;
  same = r.same;
  copying = r.copying;
  maximal = r.maximal;
  hits = λ d u. let h = r.hits d u in let n : hits_at rest d u ≡ 0 = ap (λ (ps : List (ℕ × Extent)). hits_at ps d u) end in omega (arith, h, n);
}

-- ---- the device that is leaving

none_of : (k : Kept) → is_leaving k.row.state ≡ false → (d u : ℕ) → copies_in (part_in k) d u ≡ 0
none_of k stays d u = rw stays refl

not_leaving : (b : Bool) → (b ≡ true → ⊥) → b ≡ false
not_leaving true never = absurd (never refl)
not_leaving false never = refl

-- the copies of all devices are those of the one that is leaving
pub hits_one : (devs : List Kept) (i d u : ℕ) → is_leaving (kept_of devs i).row.state ≡ true → ((j : ℕ) → is_leaving (kept_of devs j).row.state ≡ true → j ≡ i) → copy_hits (map part_in devs) d u ≡ copies_in (part_in (kept_of devs i)) d u
hits_one [] i d u out only = absurd (false_true (sym (ap (λ (k : Kept). is_leaving k.row.state) (none_beyond [] i (omega arith))) ∙ out))
hits_one (x ∷ xs) zero d u out only =
    let rest : copy_hits (map part_in xs) d u ≡ 0 = no_hits xs d u (λ j is. absurd (let same = only (suc j) is in omega (arith, same))) in
    sum_by-cons (λ p. copies_in p d u) (part_in x) (map part_in xs) ∙ omega (arith, rest)
hits_one (x ∷ xs) (suc i) d u out only =
    let first : copies_in (part_in x) d u ≡ 0 = none_of x (not_leaving (is_leaving x.row.state) (λ is. let same = only 0 is in omega (arith, same))) d u in
    let rest = hits_one xs i d u out (λ j is. let same = only (suc j) is in omega (arith, same)) in
    sum_by-cons (λ p. copies_in p d u) (part_in x) (map part_in xs) ∙ omega (arith, first, rest)

pub copies_of : (k : Kept) (d u : ℕ) → is_leaving k.row.state ≡ true → copies_in (part_in k) d u ≡ copies_at k.moves.fresh k.moves.entries d u
copies_of k d u out = rw out refl

pub copies_are : (devs : List Kept) (i d u : ℕ) → IsLeavingAlone devs (Some i) → copy_hits (map part_in devs) d u ≡ copies_at (kept_of devs i).moves.fresh (kept_of devs i).moves.entries d u
copies_are devs i d u a = hits_one devs i d u a.leaving (λ j is. some_same i j (a.only j is)) ∙ copies_of (kept_of devs i) d u a.leaving
  where
    some_same : (i j : ℕ) → Some i ≡ Some j → j ≡ i
    some_same i j is = sym (ap (λ (o : Option ℕ). value o) is)
      where
        value : Option ℕ → ℕ
        value (Some n) = n
        value None = 0

-- no device is leaving: nothing goes on
pub resumes_none : (ckpt : CkptPart) (devs : List Kept) → IsLeavingAlone devs None → HaveNoCopies devs → Resumes ckpt devs devs
resumes_none ckpt devs a none = record {
  single = λ d e one two. absurd (none_some d (a.only d one));
  under_way = λ d is. absurd (none_some d (a.only d is));
  count = refl;
  same = λ d. refl;
  copying = start.copying;
  maximal = start.maximal;
  hits = λ d u.
      let n = no_hits devs d u (λ j is. absurd (none_some j (a.only j is))) in
      let c = ap (λ (es : List Extent). one_if (has_unit es u)) (none d) in
      omega (arith, n, c);
}
  where
    none_some : (d : ℕ) → None ≡ Some d → ⊥
    none_some d is = false_true (ap (λ (o : Option ℕ). is_there o) is)
      where
        is_there : Option ℕ → Bool
        is_there (Some n) = true
        is_there None = false

    start : IsEntering [] [] devs devs
    start = starts_entering [] devs none tt

-- a device is leaving, and its copies are entered
pub resumes_one : (ckpt : CkptPart) (devs next : List Kept) (i : ℕ) (places : List (ℕ × Extent)) → IsLeavingAlone devs (Some i) → IsUnderWay ckpt (kept_of devs i)
    → ((d u : ℕ) → hits_at places d u ≡ copies_at (kept_of devs i).moves.fresh (kept_of devs i).moves.entries d u) → EntersAll devs next places → Resumes ckpt devs next
resumes_one ckpt devs next i places a way are n = record {
  single = λ d e one two. some_same d e (sym (a.only d one) ∙ a.only e two);
  under_way = λ d is. subst (λ j. IsUnderWay ckpt (kept_of devs j)) (some_same i d (a.only d is)) way;
  count = n.count;
  same = n.same;
  copying = n.copying;
  maximal = n.maximal;
  hits = λ d u. copies_are devs i d u a ∙ (sym (are d u) ∙ n.hits d u);
}
  where
    some_same : (i j : ℕ) → Some i ≡ Some j → i ≡ j
    some_same i j is = ap (λ (o : Option ℕ). value o) is
      where
        value : Option ℕ → ℕ
        value (Some n) = n
        value None = 0

-- where a removal can go on its copies can be entered
pub can_enter : (ckpt : CkptPart) (devs : List Kept) (i : ℕ) (places : List (ℕ × Extent)) → IsLeavingAlone devs (Some i) → ((d u : ℕ) → hits_at places d u ≡ copies_at (kept_of devs i).moves.fresh (kept_of devs i).moves.entries d u)
    → CanResume ckpt devs → CanEnterAll devs places
can_enter ckpt devs i places a are can d u = let c = can.copies d u in let s = copies_are devs i d u a in let h = are d u in omega (arith, c, s, h)

-- ---- a condensing

-- two lists are the same where each entry is
pub same_entries : (xs ys : List Entry) → length xs ≡ length ys → ((i : ℕ) → i < length xs → entry_at xs i ≡ entry_at ys i) → xs ≡ ys
same_entries [] [] count each = refl
same_entries [] (y ∷ ys) count each = absurd (omega (arith, count))
same_entries (x ∷ xs) [] count each = absurd (omega (arith, count))
same_entries (x ∷ xs) (y ∷ ys) count each =
    let rest : xs ≡ ys = same_entries xs ys (omega (arith, count)) (λ i lt. each (suc i) (omega (arith, lt))) in
    ap (λ (e : Entry). e ∷ xs) (each 0 (omega arith)) ∙ ap (λ (es : List Entry). y ∷ es) rest

pub cond_from : (a b : CondPart) → a.dev ≡ b.dev → a.at ≡ b.at → a.entries ≡ b.entries → a.counts ≡ b.counts → a ≡ b
cond_from a b dev at es cs =
    ap (λ x. record { dev = x; at = a.at; entries = a.entries; counts = a.counts }) dev
    ∙ (ap (λ x. record { dev = b.dev; at = x; entries = a.entries; counts = a.counts }) at
    ∙ (ap (λ (x : List Entry). record { dev = b.dev; at = b.at; entries = x; counts = a.counts }) es
    ∙ ap (λ (x : List ℕ). record { dev = b.dev; at = b.at; entries = b.entries; counts = x }) cs))

-- two that have worked through as many entries have kept the same
pub same_worked : (entries : List Entry) (counts : List ℕ) (a b : CondPart) → HasWorked entries counts a → HasWorked entries counts b → a.dev ≡ b.dev → a.at ≡ b.at → a ≡ b
same_worked entries counts a b x y dev at =
    let pairs : zip a.entries a.counts ≡ zip b.entries b.counts = x.kept ∙ (ap (λ n. condensed (take n entries) (take n counts)) at ∙ sym y.kept) in
    let es : a.entries ≡ b.entries = sym (zip_entries a.entries a.counts x.each) ∙ (ap entries_in pairs ∙ zip_entries b.entries b.counts y.each) in
    let cs : a.counts ≡ b.counts = sym (zip_counts a.entries a.counts x.each) ∙ (ap counts_in pairs ∙ zip_counts b.entries b.counts y.each) in
    cond_from a b dev at es cs
