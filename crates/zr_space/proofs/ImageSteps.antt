-- The copies of units of a device that is leaving are freed one entry after the other.
use Rattle.std.proofs.Common.{◌≡◌, ℕ, zero, suc, ◌+◌, ◌-◌, ◌≤◌, ◌<◌, Bool, true, false, ◌==◌, ◌&&◌, ◌||◌, min, max, nat_le, nat_lt, List, [], ◌∷◌, map, length, take, refl, ◌∙◌, sym, ap, subst, ⊎_elim, arith, if◌then◌else◌}
use Rattle.std.specs.List.{AllByRecursion, list_any, sum_by}
use Rattle.std.proofs.lemmas.Bool.{cases_eq}
use Rattle.std.proofs.lemmas.Bool.Decides.{nat_tests}
use Rattle.std.proofs.lemmas.List.{length-map}
use Rattle.std.proofs.lemmas.List.Elements.{recursion_from_All}
use Rattle.std.proofs.lemmas.List.Sums.{sum_by-cons}
use Rattle.zr_base.specs.declared.space.Entry.{Entry}
use Rattle.zr_base.specs.declared.space.Extent.{Extent}
use Rattle.zr_base.specs.Extents.{in_extent, has_unit, unit_count, IsMaximal, HasAll}
use Rattle.zr_rules.specs.Mappings.{IsRisingFrom, IsRising, entry_at}
use Rattle.zr_rules.specs.Places.{one_if, is_leaving}
use Rattle.zr_rules.specs.Devices.{devices_of}
use Rattle.zr_rules.specs.Resolve.{IsDestination}
use Rattle.zr_rules.specs.Roles.{freed}
use Rattle.zr_rules.specs.Space.{is_copy_by}
use Rattle.zr_chain.specs.Touches.{Splits, begins_before, ends_by}
use Rattle.zr_metaslab.specs.Devices.{Devices, free_at, count_at}
use Rattle.zr_units.specs.Uses.{Uses, IsAccount}
use Rattle.zr_units.specs.Changes.{FreesCopies}
use Rattle.zr_space.specs.declared.whole.Whole.{Whole}
use Rattle.zr_space.specs.Freeing.{IsInUse}
use Rattle.zr_space.specs.Views.{Kept, kept_of, part_in, space_of, role_in, IsSpace}
use Rattle.zr_space.specs.FreeVisits.{FreesCopiesOn, FreesImages, LosesCopies, is_image, is_image_by, overlap}
use Rattle.zr_space.proofs.Accounts.{account_as}
use Rattle.zr_space.proofs.Changing.{but_each, copies_in}
use Rattle.zr_space.proofs.Devs.{entries_are}
use Rattle.zr_space.proofs.FreeImages.{any_more, find_any, each_ends, hits_least, image_copied, live_unmarked}
use Rattle.zr_space.proofs.Rooted.{SameUses}

false_true : false ≡ true → ⊥
false_true e = cc

each_at : (P : Entry → Type 0) (es : List Entry) (i : ℕ) → AllByRecursion P es → i < length es → P (entry_at es i)
each_at P [] i all lt = absurd (omega (arith, lt))
each_at P (x ∷ xs) zero all lt = all.0
each_at P (x ∷ xs) (suc i) all lt = each_at P xs i all.1 (omega (arith, lt))

-- ---- one device

pub copies_account : (f g : ℕ → Bool) (m n : ℕ) (x y : Uses) (e : Extent) → IsAccount f m x → FreesCopies x y e → HasAll x.copies e → ((u : ℕ) → g u ≡ (f u || (in_extent e u && has_unit x.born u)))
    → n + unit_count y.freed.blocks ≡ m + unit_count x.freed.blocks + e.len → IsMaximal y.born → IsMaximal y.freed.blocks → IsAccount g n y
copies_account f g m n x y e a h all given count born deferred = record {
  once = λ u. let o = a.once u in let held = h.held.members u in let d = h.deferred u in let s = h.others in let c = all u in let k = a.copying.held u in let w = given u in let b = a.born u in grind (arith, nat_tests, o, held, d, s, c, k, w, b);
  born = λ u is. let b = a.born u in let held = h.held.members u in let new = h.born u in grind (arith, nat_tests, b, held, new, is);
  keeping = record {
    held = λ u is. let k = a.keeping.held u in let c = all u in let w = a.copying.unkept u in let held = h.held.members u in let s = h.others in grind (arith, nat_tests, k, c, w, held, s, is);
    settled = λ u is. let k = a.keeping.settled u in let b = h.born u in let s = h.others in grind (arith, nat_tests, k, b, s, is);
    came = λ u is. let k = a.keeping.came u in let s = h.others in grind (arith, nat_tests, k, s, is);
    went = λ u is. let k = a.keeping.went u in let d = h.deferred u in let s = h.others in grind (arith, nat_tests, k, d, s, is);
  };
  copying = record {
    held = λ u is. let k = a.copying.held u in let c = h.copies.members u in let held = h.held.members u in grind (arith, nat_tests, k, c, held, is);
    unkept = λ u is. let k = a.copying.unkept u in let c = h.copies.members u in let s = h.others in grind (arith, nat_tests, k, c, s, is);
  };
  sum = let z = a.sum in let c = h.held.count in let s = h.others in grind (arith, z, c, s, count);
  small = let z = a.small in let s = h.others in grind (arith, z, s);
  lists = rw h.others (record { held = h.held.maximal; born = born; kept = a.lists.kept; came = a.lists.came; went = a.lists.went; copies = h.copies.maximal; freed = record { blocks = deferred; meta = a.lists.freed.meta }; late1 = a.lists.late1; late2 = a.lists.late2; meta = a.lists.meta; saved = a.lists.saved });
}

pub loses_roles : (f : ℕ → Bool) (m : ℕ) (x y : Uses) (gone : ℕ → Bool) → IsAccount f m x → LosesCopies x y gone → ((u : ℕ) → gone u ≡ true → has_unit x.copies u ≡ true) → (u : ℕ) → role_in y u ≡ (if gone u then freed (role_in x u) else role_in x u)
loses_roles f m x y gone a h all u =
    rw h.others (let o = a.once u in let b = a.born u in let held = h.held u in let born = h.born u in let copies = h.copies u in let d = h.deferred u in let c = all u in let k = a.copying.held u in let w = a.copying.unkept u in
    grind (arith, nat_tests, o, b, held, born, copies, d, c, k, w))

pub loses_root : (f : ℕ → Bool) (m : ℕ) (x y : Uses) (gone : ℕ → Bool) → IsAccount f m x → LosesCopies x y gone → ((u : ℕ) → gone u ≡ true → has_unit x.copies u ≡ true) → SameUses x y
loses_root f m x y gone a h all = record {
  held = λ u. let o = a.once u in let held = h.held u in let born = h.born u in let d = h.deferred u in let c = all u in let k = a.copying.held u in grind (arith, nat_tests, o, held, born, d, c, k);
  kept = λ u. let s = h.others in grind (arith, nat_tests, s);
}

-- no copy is freed
loses_none : (x : Uses) (gone : ℕ → Bool) → ((u : ℕ) → gone u ≡ false) → LosesCopies x x gone
loses_none x gone none = record {
  held = λ u. let z = none u in grind (arith, nat_tests, z);
  born = λ u. let z = none u in grind (arith, nat_tests, z);
  copies = λ u. let z = none u in grind (arith, nat_tests, z);
  deferred = λ u. let z = none u in grind (arith, nat_tests, z);
  others = refl;
}

-- some more are
loses_more : (x y z : Uses) (e : Extent) (gone more : ℕ → Bool) → LosesCopies x y gone → FreesCopies y z e → ((u : ℕ) → more u ≡ (gone u || in_extent e u)) → ((u : ℕ) → in_extent e u ≡ true → gone u ≡ false) → LosesCopies x z more
loses_more x y z e gone more l f is apart = record {
  held = λ u. let a = l.held u in let b = f.held.members u in let c = is u in grind (arith, nat_tests, a, b, c);
  born = λ u. let a = l.born u in let b = f.born u in let c = is u in grind (arith, nat_tests, a, b, c);
  copies = λ u. let a = l.copies u in let b = f.copies.members u in let c = is u in grind (arith, nat_tests, a, b, c);
  deferred = λ u. let a = l.deferred u in let b = f.deferred u in let c = is u in let d = apart u in let g = l.born u in grind (arith, nat_tests, a, b, c, d, g);
  others = f.others ∙ ap (λ (w : Uses). record w { held = z.held; born = z.born; copies = z.copies; freed = record { blocks = z.freed.blocks; meta = w.freed.meta }; spare = z.spare }) l.others;
}

loses_as : (x y : Uses) (gone more : ℕ → Bool) → ((u : ℕ) → more u ≡ gone u) → LosesCopies x y gone → LosesCopies x y more
loses_as x y gone more is l = record {
  held = λ u. let a = l.held u in let c = is u in grind (arith, nat_tests, a, c);
  born = λ u. let a = l.born u in let c = is u in grind (arith, nat_tests, a, c);
  copies = λ u. let a = l.copies u in let c = is u in grind (arith, nat_tests, a, c);
  deferred = λ u. let a = l.deferred u in let c = is u in grind (arith, nat_tests, a, c);
  others = l.others;
}

-- ---- all devices

pub images_none : (whole : Whole) (s : Devices) (devs : List Kept) (gone : ℕ → ℕ → Bool) → IsSpace whole s devs → ((d u : ℕ) → gone d u ≡ false) → FreesImages s s devs devs gone
images_none whole s devs gone space none = record {
  count = refl;
  kept = λ d. refl;
  loses = λ d. loses_none (kept_of devs d).uses (gone d) (none d);
  free = λ d u. let z = none d u in grind (arith, nat_tests, z);
  account = space.account;
  devices = record { devs = refl; units = λ d. refl; serves = λ d. refl };
}

pub images_as : (s t : Devices) (devs now : List Kept) (gone more : ℕ → ℕ → Bool) → ((d u : ℕ) → more d u ≡ gone d u) → FreesImages s t devs now gone → FreesImages s t devs now more
images_as s t devs now gone more is f = record {
  count = f.count;
  kept = f.kept;
  loses = λ d. loses_as (kept_of devs d).uses (kept_of now d).uses (gone d) (more d) (is d) (f.loses d);
  free = λ d u. let a = f.free d u in let z = is d u in grind (arith, nat_tests, a, z);
  account = f.account;
  devices = f.devices;
}

pub images_more : (s t v : Devices) (devs now next : List Kept) (gone more : ℕ → ℕ → Bool) (d : ℕ) (e : Extent) → FreesImages s t devs now gone → FreesCopiesOn t v now next d e → HasAll (kept_of now d).uses.copies e
    → ((j u : ℕ) → more j u ≡ (gone j u || ((d == j) && in_extent e u))) → ((u : ℕ) → in_extent e u ≡ true → gone d u ≡ false) → FreesImages s v devs next more
images_more s t v devs now next gone more d e f c all is apart = record {
  count = let a = f.count in let b = c.others.count in omega (arith, a, b);
  kept = but_each now next d (λ j y. y ≡ record (kept_of devs j) { uses = y.uses }) c.others
      (c.here ∙ ap (λ (k : Kept). record k { uses = (kept_of next d).uses }) (f.kept d))
      (λ j ne. f.kept j);
  loses = but_each now next d (λ j y. LosesCopies (kept_of devs j).uses y.uses (more j)) c.others
      (loses_more (kept_of devs d).uses (kept_of now d).uses (kept_of next d).uses e (gone d) (more d) (f.loses d) c.frees (λ u. let z = is d u in grind (arith, nat_tests, z)) apart)
      (λ j ne. loses_as (kept_of devs j).uses (kept_of now j).uses (gone j) (more j) (λ u. let z = is j u in grind (arith, nat_tests, z, ne)) (f.loses j));
  free = λ j u. ⊎_elim
      (λ same. subst (λ (i : ℕ). free_at v i u ≡ (free_at s i u || (more i u && has_unit (kept_of devs i).uses.born u))) (sym same)
      (let a = f.free d u in let b = c.given.free d u in let z = is d u in let w = (f.loses d).born u in let p = apart u in grind (arith, nat_tests, a, b, z, w, p)))
      (λ other. let a = f.free j u in let b = c.given.free j u in let z = is j u in grind (arith, nat_tests, a, b, z, other))
      (cases_eq j d);
  account = but_each now next d (λ j y. IsAccount (free_at v j) (count_at v j) y.uses) c.others
      (copies_account (free_at t d) (free_at v d) (count_at t d) (count_at v d) (kept_of now d).uses (kept_of next d).uses e (f.account d) c.frees all
      (λ u. let b = c.given.free d u in grind (arith, nat_tests, b)) c.given.count c.given.born_maximal c.given.deferred_maximal)
      (λ j ne. account_as (free_at t j) (free_at v j) (count_at t j) (count_at v j) (kept_of now j).uses (λ u. let b = c.given.free j u in grind (arith, nat_tests, b, ne)) (c.given.others j ne) (f.account j));
  devices = record {
    devs = c.given.devices.devs ∙ f.devices.devs;
    units = λ j. c.given.devices.units j ∙ f.devices.units j;
    serves = λ j. c.given.devices.serves j ∙ f.devices.serves j;
  };
}

-- ---- the entries so far

any_next : (f : Entry → Bool) (es : List Entry) (i : ℕ) → i < length es → list_any f (take (suc i) es) ≡ (list_any f (take i es) || f (entry_at es i))
any_next f [] i lt = absurd (omega (arith, lt))
any_next f (x ∷ xs) zero lt = any_more f x [] ∙ by (f x)
  where
    by : (a : Bool) → (a || false) ≡ (false || a)
    by true = refl
    by false = refl
any_next f (x ∷ xs) (suc i) lt =
    any_more f x (take (suc i) xs)
    ∙ (ap (λ (b : Bool). f x || b) (any_next f xs i (omega (arith, lt)))
    ∙ (by (f x) (list_any f (take i xs)) (f (entry_at xs i)) ∙ ap (λ (b : Bool). b || f (entry_at xs i)) (sym (any_more f x (take i xs)))))
  where
    by : (a b c : Bool) → (a || (b || c)) ≡ ((a || b) || c)
    by true b c = refl
    by false b c = refl

any_none : (f : Entry → Bool) (es : List Entry) (i : ℕ) → ((j : ℕ) → j < i → f (entry_at es j) ≡ false) → i ≤ length es → list_any f (take i es) ≡ false
any_none f [] zero none le = refl
any_none f [] (suc i) none le = absurd (omega (arith, le))
any_none f (x ∷ xs) zero none le = refl
any_none f (x ∷ xs) (suc i) none le =
    let first = none 0 (omega arith) in
    let rest = any_none f xs i (λ j lt. none (suc j) (omega (arith, lt))) (omega (arith, le)) in
    any_more f x (take i xs) ∙ (rw first rest)

any_front : (f : Entry → Bool) (es : List Entry) (i : ℕ) → ((j : ℕ) → i ≤ j → j < length es → f (entry_at es j) ≡ false) → list_any f es ≡ list_any f (take i es)
any_front f [] zero none = refl
any_front f [] (suc i) none = refl
any_front f (x ∷ xs) zero none =
    let first = none 0 (omega arith) (omega arith) in
    let rest = any_front f xs zero (λ j ge lt. none (suc j) (omega arith) (omega (arith, lt))) in
    any_more f x xs ∙ rw first (rest ∙ nothing xs)
  where
    nothing : (ys : List Entry) → list_any f (take zero ys) ≡ false
    nothing [] = refl
    nothing (y ∷ ys) = refl
any_front f (x ∷ xs) (suc i) none =
    let rest = any_front f xs i (λ j ge lt. none (suc j) (omega (arith, ge)) (omega (arith, lt))) in
    any_more f x xs ∙ (ap (λ (b : Bool). f x || b) rest ∙ sym (any_more f x (take i xs)))

any_at : (f : Entry → Bool) (es : List Entry) (i : ℕ) → i < length es → f (entry_at es i) ≡ true → list_any f es ≡ true
any_at f [] i lt is = absurd (omega (arith, lt))
any_at f (x ∷ xs) zero lt is = any_more f x xs ∙ rw is refl
any_at f (x ∷ xs) (suc i) lt is = let rest = any_at f xs i (omega (arith, lt)) is in any_more f x xs ∙ last (f x) (list_any f xs) rest
  where
    last : (a b : Bool) → b ≡ true → (a || b) ≡ true
    last true b e = refl
    last false b e = e

sum_next : (g : Entry → ℕ) (es : List Entry) (i : ℕ) → i < length es → sum_by g (take (suc i) es) ≡ sum_by g (take i es) + g (entry_at es i)
sum_next g [] i lt = absurd (omega (arith, lt))
sum_next g (x ∷ xs) zero lt = let sum = sum_by-cons g x [] in omega (arith, sum)
sum_next g (x ∷ xs) (suc i) lt = let rest = sum_next g xs i (omega (arith, lt)) in let a = sum_by-cons g x (take (suc i) xs) in let b = sum_by-cons g x (take i xs) in omega (arith, rest, a, b)

sum_front : (g : Entry → ℕ) (es : List Entry) (i : ℕ) → sum_by g (take i es) ≤ sum_by g es
sum_front g [] zero = omega arith
sum_front g [] (suc i) = omega arith
sum_front g (x ∷ xs) zero = omega arith
sum_front g (x ∷ xs) (suc i) = let rest = sum_front g xs i in let a = sum_by-cons g x xs in let b = sum_by-cons g x (take i xs) in omega (arith, rest, a, b)

sum_none : (g : Entry → ℕ) (es : List Entry) (i : ℕ) → ((j : ℕ) → j < i → g (entry_at es j) ≡ 0) → sum_by g (take i es) ≡ 0
sum_none g [] zero none = refl
sum_none g [] (suc i) none = refl
sum_none g (x ∷ xs) zero none = refl
sum_none g (x ∷ xs) (suc i) none = let rest = sum_none g xs i (λ j lt. none (suc j) (omega (arith, lt))) in let first = none 0 (omega arith) in let a = sum_by-cons g x (take i xs) in omega (arith, rest, first, a)

-- the entries have no more units of an extent than it has
overlap_step : (s end low src len rest : ℕ) → low ≤ src → rest ≤ end - max s (src + len) → (min end (src + len) - max s src) + rest ≤ end - max s low
overlap_step s end low src len rest le more = grind (arith, nat_tests, le, more)

pub overlaps : (e : Extent) (low : ℕ) (es : List Entry) → IsRisingFrom low es → sum_by (overlap e) es ≤ (e.start + e.len) - max e.start low
overlaps e low [] rising = omega arith
overlaps e low (x ∷ xs) rising =
    let rest = overlaps e (x.src + x.len) xs rising.2 in
    let sum = sum_by-cons (overlap e) x xs in
    let step = overlap_step e.start (e.start + e.len) low x.src x.len (sum_by (overlap e) xs) rising.0 rest in
    omega (arith, sum, step)

pub overlaps_all : (e : Extent) (es : List Entry) → IsRising es → sum_by (overlap e) es ≤ e.len
overlaps_all e es rising = let all = overlaps e 0 es rising in most e.start e.len (sum_by (overlap e) es) all
  where
    most : (s n m : ℕ) → m ≤ (s + n) - max s 0 → m ≤ n
    most s n m le = grind (arith, nat_tests, le)

-- an entry that ends before an extent, or begins after it, has no unit of it
missed_before : (e : Extent) (j u : ℕ) (x : Entry) → nat_le (x.src + x.len) e.start ≡ true → is_image_by e j u x ≡ false
missed_before e j u x ends = grind (arith, nat_tests, ends)

missed_after : (e : Extent) (j u : ℕ) (x : Entry) → nat_lt x.src (e.start + e.len) ≡ false → is_image_by e j u x ≡ false
missed_after e j u x begins = grind (arith, nat_tests, begins)

missed_units : (e : Extent) (x : Entry) → nat_le (x.src + x.len) e.start ≡ true → overlap e x ≡ 0
missed_units e x ends = grind (arith, nat_tests, ends)

module _ (whole : Whole) (s : Devices) (devs : List Kept) (d : ℕ) (e : Extent) (space : IsSpace whole s devs) (leaves : is_leaving (kept_of devs d).row.state ≡ true) (used : IsInUse (space_of whole devs) d e) where
  abbrev k : Kept
  k = kept_of devs d

  abbrev es : List Entry
  es = k.moves.entries

  -- the copies of the entries before an index
  abbrev pub so_far : ℕ → ℕ → ℕ → Bool
  so_far i j u = list_any (is_image_by e j u) (take i es)

  pub copied : (j u : ℕ) → is_image es e j u ≡ true → has_unit (kept_of devs j).uses.copies u ≡ true
  copied j u is = image_copied whole s devs d space leaves e j u used is

  puts : (x : Entry) (j u : ℕ) → x.src + x.len ≤ k.moves.opened → is_image_by e j u x ≡ true → is_copy_by (part_in k) j u x ≡ true
  puts x j u below is =
      let inside : in_extent e (x.src + (u - x.dst)) ≡ true = grind (arith, nat_tests, is) in
      let lt : x.src + (u - x.dst) < k.moves.opened = grind (arith, nat_tests, is, below) in
      let none = live_unmarked whole s devs d space leaves (x.src + (u - x.dst)) (used (x.src + (u - x.dst)) inside) lt in
      grind (arith, nat_tests, is, none)

  -- no unit has the copies of two entries
  pub apart : (i j u : ℕ) → i < length es → is_image_by e j u (entry_at es i) ≡ true → so_far i j u ≡ false
  apart i j u lt is = by (so_far i j u) refl
    where
      copies : copies_in (part_in k) j u ≡ sum_by (λ (y : Entry). one_if (is_copy_by (part_in k) j u y)) es
      copies = rw leaves refl

      ends : AllByRecursion (λ (x : Entry). x.src + x.len ≤ k.moves.opened) es
      ends = each_ends whole s devs d space leaves

      front : (n : ℕ) (xs : List Entry) → AllByRecursion (λ (x : Entry). x.src + x.len ≤ k.moves.opened) xs → AllByRecursion (λ (x : Entry). x.src + x.len ≤ k.moves.opened) (take n xs)
      front zero [] all = tt
      front (suc n) [] all = tt
      front zero (x ∷ xs) all = tt
      front (suc n) (x ∷ xs) all = (all.0, front n xs all.1)

      by : (b : Bool) → so_far i j u ≡ b → so_far i j u ≡ false
      by false none = none
      by true some =
          let x = find_any (λ (x : Entry). x.src + x.len ≤ k.moves.opened) (is_image_by e j u) (take i es) (front i es ends) some in
          let one = x.few (is_copy_by (part_in k) j u) (puts x.one j u x.holds x.is) in
          let own = ap one_if (puts (entry_at es i) j u (each_at (λ (x : Entry). x.src + x.len ≤ k.moves.opened) es i ends lt) is) in
          let next = sum_next (λ (y : Entry). one_if (is_copy_by (part_in k) j u y)) es i lt in
          let most = sum_front (λ (y : Entry). one_if (is_copy_by (part_in k) j u y)) es (suc i) in
          let least = hits_least devs d j u in
          let all = space.copies j u in
          let few = few_copies (has_unit (kept_of devs j).uses.copies u) in
          absurd (omega (arith, one, own, next, most, copies, least, all, few))
        where
          few_copies : (b : Bool) → one_if b ≤ 1
          few_copies true = omega arith
          few_copies false = omega arith

  -- at first none is freed, and in the end all are
  pub starts : (first : ℕ) → Splits (ends_by e.start) es first → (j u : ℕ) → so_far first j u ≡ false
  starts first split j u = any_none (is_image_by e j u) es first (λ i lt. missed_before e j u (entry_at es i) (split.below i lt)) split.within

  pub starts_small : (first : ℕ) → Splits (ends_by e.start) es first → sum_by (overlap e) (take first es) ≡ 0
  starts_small first split = sum_none (overlap e) es first (λ i lt. missed_units e (entry_at es i) (split.below i lt))

  pub ends_all : (end i : ℕ) → Splits (begins_before e.start e.len) es end → end ≤ i → (j u : ℕ) → is_image es e j u ≡ so_far i j u
  ends_all end i split le j u = any_front (is_image_by e j u) es i (λ n ge lt. missed_after e j u (entry_at es n) (split.from n (omega (arith, le, ge)) lt))

  -- the next entry's copies are still there
  pub next_there : (t : Devices) (now : List Kept) (i j : ℕ) (at : Extent) → i < length es → FreesImages s t devs now (so_far i) → ((a u : ℕ) → is_image_by e a u (entry_at es i) ≡ ((j == a) && in_extent at u)) → HasAll (kept_of now j).uses.copies at
  next_there t now i j at lt f is u inside =
      let has : is_image_by e j u (entry_at es i) ≡ true = let z = is j u in grind (arith, nat_tests, z, inside) in
      let was = copied j u (any_at (is_image_by e j u) es i lt has) in
      let not = apart i j u lt has in
      (f.loses j).copies u ∙ rw was rw not refl

  pub next_gone : (t v : Devices) (now next : List Kept) (i j : ℕ) (at : Extent) → i < length es → FreesImages s t devs now (so_far i) → FreesCopiesOn t v now next j at → ((a u : ℕ) → is_image_by e a u (entry_at es i) ≡ ((j == a) && in_extent at u)) → FreesImages s v devs next (so_far (suc i))
  next_gone t v now next i j at lt f c is =
      images_more s t v devs now next (so_far i) (so_far (suc i)) j at f c (next_there t now i j at lt f is)
      (λ a u. any_next (is_image_by e a u) es i lt ∙ ap (λ (b : Bool). so_far i a u || b) (is a u))
      (λ u inside. apart i j u lt (is j u ∙ here j u inside))
    where
      here : (a u : ℕ) → in_extent at u ≡ true → ((a == a) && in_extent at u) ≡ true
      here a u inside = grind (arith, nat_tests, inside)

  pub next_small : (i : ℕ) → i < length es → sum_by (overlap e) (take (suc i) es) ≡ sum_by (overlap e) (take i es) + overlap e (entry_at es i)
  next_small i lt = sum_next (overlap e) es i lt

  pub all_small : IsRising es → (i : ℕ) → sum_by (overlap e) (take i es) ≤ e.len
  all_small rising i = let front = sum_front (overlap e) es i in let all = overlaps_all e es rising in omega (arith, front, all)

  -- an entry leads to another device that is known
  pub to_other : (i : ℕ) → i < length es → IsDestination (devices_of (map part_in devs)) d (entry_at es i)
  to_other i lt = each_at (IsDestination (devices_of (map part_in devs)) d) es i (subst (AllByRecursion (IsDestination (devices_of (map part_in devs)) d)) (entries_are devs d) (recursion_from_All (IsDestination (devices_of (map part_in devs)) d) _ (space.ranked d))) lt

  pub known_other : (i : ℕ) → i < length es → (entry_at es i).dev < length devs
  known_other i lt = let k = (to_other i lt).known in let l = length-map devs part_in in omega (arith, k, l)

  -- the entry that is read is the one at its index
  pub entry_is : (now : List Kept) (x : Entry) (y : Kept) (i : ℕ) → kept_of now d ≡ k → y ≡ kept_of now d → x ≡ entry_at y.moves.entries i → x ≡ entry_at es i
  entry_is now x y i source same is = is ∙ ap (λ (z : Kept). entry_at z.moves.entries i) (same ∙ source)

  pub next_known : (t : Devices) (now : List Kept) (gone : ℕ → ℕ → Bool) (i : ℕ) (x : Entry) → i < length es → x ≡ entry_at es i → FreesImages s t devs now gone → x.dev < length now
  next_known t now gone i x lt is f = let k = known_other i lt in let n = f.count in let same = ap (λ (y : Entry). y.dev) is in omega (arith, k, n, same)

  pub next_device : (t : Devices) (now : List Kept) (gone : ℕ → ℕ → Bool) (i : ℕ) (x : Entry) → i < length es → x ≡ entry_at es i → FreesImages s t devs now gone → x.dev < length t
  next_device t now gone i x lt is f = let k = known_other i lt in let n = space.devices in let m = f.devices.devs in let same = ap (λ (y : Entry). y.dev) is in omega (arith, k, n, m, same)

  pub next_units : (i : ℕ) (x : Entry) (at : Extent) → x ≡ entry_at es i → ((a u : ℕ) → is_image_by e a u x ≡ ((x.dev == a) && in_extent at u)) → (a u : ℕ) → is_image_by e a u (entry_at es i) ≡ ((x.dev == a) && in_extent at u)
  next_units i x at is puts a u = ap (is_image_by e a u) (sym is) ∙ puts a u

  pub next_room : (now : List Kept) (i : ℕ) (x : Entry) (at : Extent) → i < length es → x ≡ entry_at es i → IsRising es → at.len ≤ overlap e x → ((j : ℕ) → j < length devs → e.len ≤ (kept_of devs j).uses.spare)
      → ((j : ℕ) → (kept_of devs j).uses.spare ≤ (kept_of now j).uses.spare + sum_by (overlap e) (take i es)) → at.len ≤ (kept_of now x.dev).uses.spare
  next_room now i x at lt is rising few room spare =
      let known : x.dev < length devs = let k = known_other i lt in let same = ap (λ (y : Entry). y.dev) is in omega (arith, k, same) in
      let had = room x.dev known in
      let left = spare x.dev in
      let next = next_small i lt in
      let all = all_small rising (suc i) in
      let own = ap (overlap e) is in
      omega (arith, had, left, next, all, own, few)

  pub next_source : (t v : Devices) (now next : List Kept) (i : ℕ) (x : Entry) (at : Extent) → i < length es → x ≡ entry_at es i → FreesCopiesOn t v now next x.dev at → kept_of now d ≡ k → kept_of next d ≡ k
  next_source t v now next i x at lt is c source =
      let other : (d == x.dev) ≡ false = let o = (to_other i lt).other in let same = ap (λ (y : Entry). y.dev) is in grind (arith, nat_tests, o, same) in
      c.others.others d other ∙ source

  pub next_spare : (t v : Devices) (now next : List Kept) (i : ℕ) (x : Entry) (at : Extent) → i < length es → x ≡ entry_at es i → at.len ≤ overlap e x → FreesCopiesOn t v now next x.dev at
      → ((j : ℕ) → (kept_of devs j).uses.spare ≤ (kept_of now j).uses.spare + sum_by (overlap e) (take i es)) → (j : ℕ) → (kept_of devs j).uses.spare ≤ (kept_of next j).uses.spare + sum_by (overlap e) (take (suc i) es)
  next_spare t v now next i x at lt is few c spare =
      let sum = next_small i lt in
      let own = ap (overlap e) is in
      but_each now next x.dev (λ j y. (kept_of devs j).uses.spare ≤ y.uses.spare + sum_by (overlap e) (take (suc i) es)) c.others
      (let a = spare x.dev in let b = c.spare in omega (arith, a, b, few, sum, own))
      (λ j ne. let a = spare j in omega (arith, a, sum))
