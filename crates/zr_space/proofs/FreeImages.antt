-- The copies of what a free lets go of on a device that is leaving.
use Rattle.std.proofs.Common.{◌≡◌, ℕ, zero, suc, ◌+◌, ◌-◌, ◌≤◌, ◌<◌, Bool, true, false, ◌&&◌, ◌||◌, List, [], ◌∷◌, map, refl, ◌∙◌, sym, ap, ⊎_elim, arith}
use Rattle.std.specs.List.{AllByRecursion, list_any, sum_by}
use Rattle.std.proofs.lemmas.List.Folds.{list_any-append}
use Rattle.std.proofs.lemmas.List.Sums.{sum_by-cons}
use Rattle.std.proofs.lemmas.Bool.Decides.{nat_tests}
use Rattle.zr_base.specs.declared.space.Dva.{Dva}
use Rattle.zr_base.specs.declared.space.DevPart.{DevPart}
use Rattle.zr_base.specs.declared.space.Entry.{Entry}
use Rattle.zr_base.specs.declared.space.Extent.{Extent}
use Rattle.zr_base.specs.Extents.{in_extent, has_unit}
use Rattle.zr_rules.specs.Places.{one_if, is_leaving, part_of}
use Rattle.zr_rules.specs.Roles.{is_live_role}
use Rattle.zr_rules.specs.Space.{Space, role_at, copy_hits, is_copy_by}
use Rattle.zr_rules.specs.Frees.{copy_from, leads_to_copied}
use Rattle.zr_evac.specs.Evacuations.{EntriesEndBy}
use Rattle.zr_evac.proofs.Frontiers.{all_end}
use Rattle.zr_metaslab.specs.Devices.{Devices as Slabs}
use Rattle.zr_indirect.specs.Mapped.{IsLeaving}
use Rattle.zr_chain.proofs.Ways.{cases_bool}
use Rattle.zr_space.specs.declared.whole.Whole.{Whole}
use Rattle.zr_space.specs.Views.{Kept, kept_of, part_in, space_of, IsSpace}
use Rattle.zr_space.specs.FreeVisits.{is_image_by}
use Rattle.zr_space.proofs.Changing.{copies_in}
use Rattle.zr_space.proofs.InUse.{live_held, live_uncopied}
use Rattle.zr_space.proofs.Roles.{roles_are}
use Rattle.zr_space.proofs.Synced.{leaving_state}

false_true : false ≡ true → ⊥
false_true e = cc

pub any_more : {A : Type 0} (f : A → Bool) (x : A) (xs : List A) → list_any f (x ∷ xs) ≡ (f x || list_any f xs)
any_more f x xs = list_any-append f (x ∷ []) xs ∙ by (f x) (list_any f xs)
  where
    by : (a b : Bool) → ((a || false) || b) ≡ (a || b)
    by true b = refl
    by false b = refl

-- an element for which the test holds
pub record Found {A : Type 0} (P : A → Type 0) (f : A → Bool) (xs : List A) : Type 0 where
  pub one : A
  pub holds : P one
  pub is : f one ≡ true
  pub any : (g : A → Bool) → g one ≡ true → list_any g xs ≡ true
  pub few : (g : A → Bool) → g one ≡ true → 1 ≤ sum_by (λ (x : A). one_if (g x)) xs

pub find_any : {A : Type 0} (P : A → Type 0) (f : A → Bool) (xs : List A) → AllByRecursion P xs → list_any f xs ≡ true → Found P f xs
find_any P f [] all is = absurd (false_true is)
find_any P f (x ∷ xs) all is = ⊎_elim
    (λ here. record {
      one = x;
      holds = all.0;
      is = here;
      any = λ g yes. any_more g x xs ∙ first (g x) (list_any g xs) yes;
      few = λ g yes. let sum = sum_by-cons (λ y. one_if (g y)) x xs in let bit = ap one_if yes in omega (arith, sum, bit);
    })
    (λ other.
    let rest = find_any P f xs all.1 (second (f x) (list_any f xs) other (sym (any_more f x xs) ∙ is)) in
    record {
      one = rest.one;
      holds = rest.holds;
      is = rest.is;
      any = λ g yes. any_more g x xs ∙ last (g x) (list_any g xs) (rest.any g yes);
      few = λ g yes. let sum = sum_by-cons (λ y. one_if (g y)) x xs in let more = rest.few g yes in omega (arith, sum, more);
    })
    (cases_bool (f x))
  where
    first : (a b : Bool) → a ≡ true → (a || b) ≡ true
    first true b e = refl
    first false b e = absurd (false_true e)

    last : (a b : Bool) → b ≡ true → (a || b) ≡ true
    last true b e = refl
    last false b e = e

    second : (a b : Bool) → a ≡ false → (a || b) ≡ true → b ≡ true
    second true b e is = absurd (false_true (sym e))
    second false b e is = is

ends_each : (u : ℕ) (es : List Entry) → EntriesEndBy u es → AllByRecursion (λ (x : Entry). x.src + x.len ≤ u) es
ends_each u [] ends = tt
ends_each u (x ∷ xs) ends = (ends.0, ends_each u xs ends.1)

-- a device has no more copies than all
pub hits_least : (devs : List Kept) (j d u : ℕ) → copies_in (part_in (kept_of devs j)) d u ≤ copy_hits (map part_in devs) d u
hits_least [] zero d u = omega arith
hits_least [] (suc j) d u = omega arith
hits_least (x ∷ xs) zero d u = let sum = sum_by-cons (λ p. copies_in p d u) (part_in x) (map part_in xs) in omega (arith, sum)
hits_least (x ∷ xs) (suc j) d u = let sum = sum_by-cons (λ p. copies_in p d u) (part_in x) (map part_in xs) in let rest = hits_least xs j d u in omega (arith, sum, rest)

module _ (whole : Whole) (s : Slabs) (devs : List Kept) (d : ℕ) (space : IsSpace whole s devs) (leaves : is_leaving (kept_of devs d).row.state ≡ true) where
  abbrev k : Kept
  k = kept_of devs d

  pub was_leaving : IsLeaving k.moves
  was_leaving = (space.moved d).leaving (leaving_state k.row.state leaves)

  pub each_ends : AllByRecursion (λ (x : Entry). x.src + x.len ≤ k.moves.opened) k.moves.entries
  each_ends = ends_each k.moves.opened k.moves.entries (all_end k.moves.opened k.moves.entries was_leaving.rising was_leaving.marks.frontier)

  -- a unit in use that was copied is not marked
  pub live_unmarked : (w : ℕ) → is_live_role (role_at (space_of whole devs) d w) ≡ true → w < k.moves.opened → has_unit k.moves.fresh w ≡ false
  live_unmarked w live below =
      let held = live_held k.uses w (ap is_live_role (sym (roles_are whole devs d w space)) ∙ live) in
      ((space.tied d leaves).copied w held below).1

  -- an entry that leads to the unit from one in use has put its copy there
  pub image_copied : (e : Extent) (j u : ℕ) → ((w : ℕ) → in_extent e w ≡ true → is_live_role (role_at (space_of whole devs) d w) ≡ true) → list_any (is_image_by e j u) k.moves.entries ≡ true → has_unit (kept_of devs j).uses.copies u ≡ true
  image_copied e j u live is =
      let x = find_any (λ (x : Entry). x.src + x.len ≤ k.moves.opened) (is_image_by e j u) k.moves.entries each_ends is in
      let w : ℕ = x.one.src + (u - x.one.dst) in
      let inside : in_extent e w ≡ true = let i = x.is in grind (arith, nat_tests, i) in
      let below : w < k.moves.opened = let i = x.is in let h = x.holds in grind (arith, nat_tests, i, h) in
      let none = live_unmarked w (live w inside) below in
      let puts : is_copy_by (part_in k) j u x.one ≡ true = let i = x.is in grind (arith, nat_tests, i, none) in
      let some = x.few (is_copy_by (part_in k) j u) puts in
      let own : copies_in (part_in k) j u ≡ sum_by (λ (y : Entry). one_if (is_copy_by (part_in k) j u y)) k.moves.entries = rw leaves refl in
      let least = hits_least devs d j u in
      let all = space.copies j u in
      bit (has_unit (kept_of devs j).uses.copies u) (omega (arith, some, own, least, all))
    where
      bit : (b : Bool) → 1 ≤ one_if b → b ≡ true
      bit true some = refl
      bit false some = absurd (omega (arith, some))

  -- so it is of no block
  pub image_not_live : (e : Extent) (j u : ℕ) → ((w : ℕ) → in_extent e w ≡ true → is_live_role (role_at (space_of whole devs) d w) ≡ true) → list_any (is_image_by e j u) k.moves.entries ≡ true → is_live_role (role_at (space_of whole devs) j u) ≡ true → ⊥
  image_not_live e j u live is other =
      let copied = image_copied e j u live is in
      let not = live_uncopied (kept_of devs j).uses u (ap is_live_role (sym (roles_are whole devs j u space)) ∙ other) in
      false_true (sym not ∙ copied)

-- ---- which device has put a copy there

pub record FoundCopy (s : Space) (a : Dva) (source : ℕ) (parts : List DevPart) (d u : ℕ) : Type 0 where
  pub place : ℕ
  pub leaves : is_leaving (part_of parts place).row.state ≡ true
  pub any : list_any (leads_to_copied s a (part_of parts place) (source + place) d u) (part_of parts place).entries ≡ true

pub find_copy : (s : Space) (a : Dva) (source : ℕ) (parts : List DevPart) (d u : ℕ) → copy_from s a source parts d u ≡ true → FoundCopy s a source parts d u
find_copy s a source [] d u is = absurd (false_true is)
find_copy s a source (p ∷ ps) d u is = ⊎_elim
    (λ here. record {
      place = 0;
      leaves = one (is_leaving p.row.state) (list_any (leads_to_copied s a p source d u) p.entries) here;
      any = let z : source + 0 ≡ source = omega arith in ap (λ (i : ℕ). list_any (leads_to_copied s a p i d u) p.entries) z ∙ two (is_leaving p.row.state) (list_any (leads_to_copied s a p source d u) p.entries) here;
    })
    (λ other.
    let rest = find_copy s a (source + 1) ps d u (sym (rw other refl) ∙ is) in
    record {
      place = suc rest.place;
      leaves = rest.leaves;
      any = let z : source + suc rest.place ≡ source + 1 + rest.place = omega arith in ap (λ (i : ℕ). list_any (leads_to_copied s a (part_of ps rest.place) i d u) (part_of ps rest.place).entries) z ∙ rest.any;
    })
    (cases_bool (is_leaving p.row.state && list_any (leads_to_copied s a p source d u) p.entries))
  where
    one : (a b : Bool) → (a && b) ≡ true → a ≡ true
    one true b e = refl
    one false b e = absurd (false_true e)

    two : (a b : Bool) → (a && b) ≡ true → b ≡ true
    two true b e = e
    two false b e = absurd (false_true e)

pub has_copy : (s : Space) (a : Dva) (source : ℕ) (parts : List DevPart) (d u i : ℕ) → is_leaving (part_of parts i).row.state ≡ true → list_any (leads_to_copied s a (part_of parts i) (source + i) d u) (part_of parts i).entries ≡ true → copy_from s a source parts d u ≡ true
has_copy s a source [] d u zero leaves any = absurd (false_true leaves)
has_copy s a source [] d u (suc i) leaves any = absurd (false_true leaves)
has_copy s a source (p ∷ ps) d u zero leaves any =
    let z : source ≡ source + 0 = omega arith in
    let here = ap (λ (i : ℕ). list_any (leads_to_copied s a p i d u) p.entries) z ∙ any in
    rw leaves rw here refl
has_copy s a source (p ∷ ps) d u (suc i) leaves any =
    let z : source + 1 + i ≡ source + suc i = omega arith in
    let rest = has_copy s a (source + 1) ps d u i leaves (ap (λ (n : ℕ). list_any (leads_to_copied s a (part_of ps i) n d u) (part_of ps i).entries) z ∙ any) in
    last (is_leaving p.row.state && list_any (leads_to_copied s a p source d u) p.entries) (copy_from s a (source + 1) ps d u) rest
  where
    last : (a b : Bool) → b ≡ true → (a || b) ≡ true
    last true b e = refl
    last false b e = e
