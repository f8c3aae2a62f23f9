-- The copies of a block, as runs.
use Rattle.std.proofs.Common.{◌≡◌, ℕ, zero, suc, ◌+◌, ◌-◌, ◌<◌, ◌≤◌, Bool, true, false, ◌&&◌, ◌||◌, nat_lt, List, [], ◌∷◌, refl, ◌∙◌, sym, ap, arith, ⊎_elim}
use Rattle.std.specs.List.{flat_map, list_any}
use Rattle.std.proofs.lemmas.Bool.{cases_lt}
use Rattle.std.proofs.lemmas.Bool.Decides.{nat_tests}
use Rattle.zr_base.specs.declared.space.Dva.{Dva}
use Rattle.zr_base.specs.declared.space.Entry.{Entry}
use Rattle.zr_base.specs.declared.space.DevPart.{DevPart}
use Rattle.zr_base.specs.Extents.{has_unit}
use Rattle.zr_rules.specs.Places.{in_address, is_leaving, is_fresh, part_of, state_of_dev}
use Rattle.zr_rules.specs.Devices.{state_at}
use Rattle.zr_rules.specs.Mappings.{IsRisingFrom, IsRising, end_of_last}
use Rattle.zr_rules.specs.Resolve.{is_there, leads_to, passes}
use Rattle.zr_rules.specs.Space.{Space, frontier, is_copy_by}
use Rattle.zr_rules.specs.Equation.{devices_in}
use Rattle.zr_rules.specs.Frees.{in_any, copy_from, is_copy_of, leads_to_copied, marks}
use Rattle.zr_rules.specs.Steps.{moved_part, meets}
use Rattle.zr_reckon.specs.Pieces.{ends_of, copies_at, copies_of}
use Rattle.zr_reckon.proofs.Leads.{parts_of, any_append, leads_into, into_leads}

or_last : (a b : Bool) → b ≡ true → (a || b) ≡ true
or_last true b is = refl
or_last false b is = is

-- an element of a list that passes a test, and through which the list passes other tests
pub record Member {X : Type 0} (test : X → Bool) (xs : List X) : Type 0 where
  pub it : X
  pub holds : test it ≡ true
  pub put : (other : X → Bool) → other it ≡ true → list_any other xs ≡ true

pub member : {X : Type 0} (test : X → Bool) (xs : List X) → list_any test xs ≡ true → Member test xs
member test [] is = absurd (cc)
member {X} test (x ∷ xs) is = by_first (test x) refl (member test xs)
  where
    by_first : (b : Bool) → test x ≡ b → (list_any test xs ≡ true → Member test xs) → Member test (x ∷ xs)
    by_first true here later = record { it = x; holds = here; put = λ other h. rw h refl }
    by_first false here later =
        let rest = later (rw here at is) in
        record { it = rest.it; holds = rest.holds; put = λ other h. let r = rest.put other h in or_last (other x) (list_any other xs) r }

any_is : (list : List Dva) (d u : ℕ) → in_any list d u ≡ list_any (λ (m : Dva). in_address m d u) list
any_is [] d u = refl
any_is (m ∷ list) d u = ap (λ (b : Bool). in_address m d u || b) (any_is list d u)

flat_is : (f : Dva → List Dva) (list : List Dva) (d u : ℕ) → in_any (flat_map f list) d u ≡ list_any (λ (m : Dva). in_any (f m) d u) list
flat_is f [] d u = refl
flat_is f (m ∷ list) d u = any_append (f m) (flat_map f list) d u ∙ ap (λ (b : Bool). in_any (f m) d u || b) (flat_is f list d u)

parts_is : (s n d u : ℕ) (es : List Entry) → in_any (parts_of s n es) d u ≡ list_any (λ (e : Entry). meets s n e && in_address (moved_part s n e) d u) es
parts_is s n d u [] = refl
parts_is s n d u (e ∷ es) = by_test (meets s n e) refl (parts_is s n d u es)
  where
    by_test : (b : Bool) → meets s n e ≡ b → in_any (parts_of s n es) d u ≡ list_any (λ (x : Entry). meets s n x && in_address (moved_part s n x) d u) es
        → in_any (parts_of s n (e ∷ es)) d u ≡ list_any (λ (x : Entry). meets s n x && in_address (moved_part s n x) d u) (e ∷ es)
    by_test true is r = rw is (ap (λ (b : Bool). in_address (moved_part s n e) d u || b) r)
    by_test false is r = rw is r

-- no entry of a mapping ends past its last
none_past : (low : ℕ) (es : List Entry) → IsRisingFrom low es → list_any (λ (e : Entry). nat_lt (end_of_last es) (e.src + e.len)) es ≡ false
none_past low [] r = refl
none_past low (e ∷ []) r = grind (arith, nat_tests)
none_past low (e ∷ (x ∷ xs)) r =
    let rest = none_past (e.src + e.len) (x ∷ xs) r.2 in
    let some = r.2.1.not_empty in
    let a = r.2.0 in
    let last = end_above (e.src + e.len) x xs r.2 in
    grind (arith, nat_tests, rest, last)
  where
    end_above : (low : ℕ) (x : Entry) (xs : List Entry) → IsRisingFrom low (x ∷ xs) → low ≤ end_of_last (x ∷ xs)
    end_above low x [] r = let a = r.0 in omega (arith, a)
    end_above low x (y ∷ ys) r = let a = r.0 in let h = end_above (x.src + x.len) y ys r.2 in omega (arith, a, h)

-- what a copy of an entry says of its place, and an address of a unit
copy_says : (p : DevPart) (d u : ℕ) (e : Entry) → is_copy_by p d u e ≡ true → (e.dev ≡ d) × (e.dst ≤ u) × (u < e.dst + e.len)
copy_says p d u e is = (grind (arith, nat_tests, is), grind (arith, nat_tests, is), grind (arith, nat_tests, is))

address_says : (m : Dva) (i v : ℕ) → in_address m i v ≡ true → (m.dev ≡ i) × (m.start ≤ v) × (v < m.start + m.len)
address_says m i v is = (grind (arith, nat_tests, is), grind (arith, nat_tests, is), grind (arith, nat_tests, is))

moved_hit : (m : Dva) (e : Entry) (d u : ℕ) → e.dev ≡ d → e.dst ≤ u → u < e.dst + e.len → m.start ≤ e.src + (u - e.dst) → e.src + (u - e.dst) < m.start + m.len
    → (meets m.start m.len e && in_address (moved_part m.start m.len e) d u) ≡ true
moved_hit m e d u dev low high from to = both (meets m.start m.len e) (in_address (moved_part m.start m.len e) d u) (grind (arith, nat_tests, low, high, from, to)) (grind (arith, nat_tests, dev, low, high, from, to))
  where
    both : (x y : Bool) → x ≡ true → y ≡ true → (x && y) ≡ true
    both true y p q = q
    both false y p q = p

module _ (s : Space) (a : Dva) (d u : ℕ) where
  -- the device and the entry by which a unit is a copy
  record Source (parts : List DevPart) (k : ℕ) : Type 0 where
    pub index : ℕ
    pub leaving : is_leaving (part_of parts index).row.state ≡ true
    pub entry : list_any (leads_to_copied s a (part_of parts index) (k + index) d u) (part_of parts index).entries ≡ true

  source_of : (parts : List DevPart) (k : ℕ) → copy_from s a k parts d u ≡ true → Source parts k
  source_of [] k is = absurd (cc)
  source_of (p ∷ parts) k is = by_first (is_leaving p.row.state && list_any (leads_to_copied s a p k d u) p.entries) refl (source_of parts (k + 1))
    where
      by_first : (b : Bool) → (is_leaving p.row.state && list_any (leads_to_copied s a p k d u) p.entries) ≡ b → (copy_from s a (k + 1) parts d u ≡ true → Source parts (k + 1)) → Source (p ∷ parts) k
      by_first true here later =
          let z : k ≡ k + 0 = omega arith in
          record {
            index = 0;
            leaving = grind (arith, here);
            entry = ap (λ (i : ℕ). list_any (leads_to_copied s a p i d u) p.entries) (sym z) ∙ grind (arith, here);
          }
      by_first false here later =
          let rest = later (rw here at is) in
          let z : (k + 1) + rest.index ≡ k + suc rest.index = omega arith in
          record {
            index = suc rest.index;
            leaving = rest.leaving;
            entry = ap (λ (i : ℕ). list_any (leads_to_copied s a (part_of parts rest.index) i d u) (part_of parts rest.index).entries) (sym z) ∙ rest.entry;
          }

  into_source : (parts : List DevPart) (k i : ℕ) → is_leaving (part_of parts i).row.state ≡ true → list_any (leads_to_copied s a (part_of parts i) (k + i) d u) (part_of parts i).entries ≡ true → copy_from s a k parts d u ≡ true
  into_source [] k zero leaving entry = absurd (cc)
  into_source [] k (suc i) leaving entry = absurd (cc)
  into_source (p ∷ parts) k zero leaving entry =
      let z : k + 0 ≡ k = omega arith in
      let here = ap (λ (i : ℕ). list_any (leads_to_copied s a p i d u) p.entries) (sym z) ∙ entry in
      grind (arith, leaving, here)
  into_source (p ∷ parts) k (suc i) leaving entry =
      let z : (k + 1) + i ≡ k + suc i = omega arith in
      let rest = into_source parts (k + 1) i leaving (ap (λ (j : ℕ). list_any (leads_to_copied s a (part_of parts i) j d u) (part_of parts i).entries) z ∙ entry) in
      grind (arith, rest)

  pub copy_into : is_copy_of s a d u ≡ true → in_any (copies_of (devices_in s) a) d u ≡ true
  copy_into is =
      let ds = devices_in s in
      let src = source_of s.parts.devs 0 is in
      let i = src.index in
      let z : 0 + i ≡ i = omega arith in
      let e = member (leads_to_copied s a (part_of s.parts.devs i) (0 + i) d u) (part_of s.parts.devs i).entries src.entry in
      let v = e.it.src + (u - e.it.dst) in
      let both = e.holds in
      let by : is_copy_by (part_of s.parts.devs i) d u e.it ≡ true = grind (arith, both) in
      let led : leads_to ds a (0 + i) v ≡ true = grind (arith, both) in
      let led_i : leads_to ds a i v ≡ true = ap (λ (k : ℕ). leads_to ds a k v) (sym z) ∙ led in
      let inside = sym (any_is (ends_of ds a) i v) ∙ leads_into ds a i v led_i in
      let m = member (λ (x : Dva). in_address x i v) (ends_of ds a) inside in
      let there = m.holds in
      let dev : m.it.dev ≡ i = grind (arith, nat_tests, there) in
      let state : is_leaving (state_at ds m.it.dev) ≡ true = ap (λ (k : ℕ). is_leaving (state_at ds k)) dev ∙ src.leaving in
      let says = copy_says (part_of s.parts.devs i) d u e.it by in
      let lies = address_says m.it i v there in
      let hit = moved_hit m.it e.it d u says.0 says.1 says.2 lies.1 lies.2 in
      let here : in_any (parts_of m.it.start m.it.len (ds.entries i)) d u ≡ true = parts_is m.it.start m.it.len d u (ds.entries i) ∙ e.put (λ (x : Entry). meets m.it.start m.it.len x && in_address (moved_part m.it.start m.it.len x) d u) hit in
      let here_m : in_any (parts_of m.it.start m.it.len (ds.entries m.it.dev)) d u ≡ true = ap (λ (k : ℕ). in_any (parts_of m.it.start m.it.len (ds.entries k)) d u) dev ∙ here in
      let copied : in_any (copies_at ds m.it) d u ≡ true = rw state here_m in
      flat_is (copies_at ds) (ends_of ds a) d u ∙ m.put (λ (x : Dva). in_any (copies_at ds x) d u) copied

  module _ (known : (e v : ℕ) → in_any (ends_of (devices_in s) a) e v ≡ true → is_there (devices_in s) e v ≡ true) (rising : (e : ℕ) → IsRising (part_of s.parts.devs e).entries)
      (unmarked : (e v : ℕ) → marks s a e v ≡ true → is_fresh s.parts.devs e v ≡ false) where
    of_run : (m : Dva) → ((v : ℕ) → in_address m m.dev v ≡ true → in_any (ends_of (devices_in s) a) m.dev v ≡ true) → is_leaving (state_at (devices_in s) m.dev) ≡ true
        → in_any (parts_of m.start m.len ((devices_in s).entries m.dev)) d u ≡ true → is_copy_of s a d u ≡ true
    of_run m ends leaving is =
        let ds = devices_in s in
        let i = m.dev in
        let p = part_of s.parts.devs m.dev in
        let e = member (λ (x : Entry). meets m.start m.len x && in_address (moved_part m.start m.len x) d u) p.entries (sym (parts_is m.start m.len d u p.entries) ∙ is) in
        let hit = e.holds in
        let v = e.it.src + (u - e.it.dst) in
        let inside : in_address m m.dev v ≡ true = grind (arith, nat_tests, hit) in
        let there = ends v inside in
        let led : leads_to ds a m.dev v ≡ true = into_leads ds a m.dev v (known m.dev v there) rising there in
        let low : v < frontier s m.dev = ⊎_elim
        (λ past.
        let none = none_past 0 p.entries (rising m.dev) in
        let some = e.put (λ (x : Entry). nat_lt (end_of_last p.entries) (x.src + x.len)) (grind (arith, nat_tests, past)) in
        let x = sym none ∙ some in
        absurd (cc))
        (λ within. grind (arith, nat_tests, hit, within))
        (cases_lt (end_of_last p.entries) (e.it.src + e.it.len)) in
        let mark : marks s a m.dev v ≡ true = marked v (passes ds a m.dev v) leaving led low in
        let clean : has_unit p.fresh v ≡ false = unmarked m.dev v mark in
        let by : is_copy_by p d u e.it ≡ true = grind (arith, nat_tests, hit, clean) in
        let z : 0 + m.dev ≡ m.dev = omega arith in
        let led_z : leads_to ds a (0 + m.dev) v ≡ true = ap (λ (k : ℕ). leads_to ds a k v) z ∙ led in
        into_source s.parts.devs 0 m.dev leaving (e.put (leads_to_copied s a p (0 + m.dev) d u) (grind (arith, by, led_z)))
      where
        marked : (v : ℕ) (b : Bool) → is_leaving (state_at (devices_in s) m.dev) ≡ true → leads_to (devices_in s) a m.dev v ≡ true → v < frontier s m.dev → (b || (is_leaving (state_of_dev s.parts.devs m.dev) && (leads_to (devices_in s) a m.dev v && nat_lt v (frontier s m.dev)))) ≡ true
        marked v b leaving led low = grind (arith, nat_tests, leaving, led, low)

    pub into_copy : in_any (copies_of (devices_in s) a) d u ≡ true → is_copy_of s a d u ≡ true
    into_copy is =
        let ds = devices_in s in
        let m = member (λ (x : Dva). in_any (copies_at ds x) d u) (ends_of ds a) (sym (flat_is (copies_at ds) (ends_of ds a) d u) ∙ is) in
        by_state m.it (λ v here. any_is (ends_of ds a) m.it.dev v ∙ m.put (λ (x : Dva). in_address x m.it.dev v) here) (is_leaving (state_at ds m.it.dev)) refl m.holds
      where
        by_state : (m : Dva) → ((v : ℕ) → in_address m m.dev v ≡ true → in_any (ends_of (devices_in s) a) m.dev v ≡ true) → (b : Bool) → is_leaving (state_at (devices_in s) m.dev) ≡ b → in_any (copies_at (devices_in s) m) d u ≡ true → is_copy_of s a d u ≡ true
        by_state m ends true leaving is = of_run m ends leaving (rw leaving at is)
        by_state m ends false stays is = let x : false ≡ true = rw stays at is in absurd (cc)
