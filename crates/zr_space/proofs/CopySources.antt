-- Each copy is of a unit of the device that is leaving, which is not marked.
use Rattle.std.proofs.Common.{◌≡◌, ℕ, suc, ◌+◌, ◌-◌, ◌≤◌, ◌<◌, Bool, true, false, nat_lt, List, [], ◌∷◌, map, refl, ◌∙◌, sym, ap, ap₂, subst, arith, inl, inr, Some, if◌then◌else◌}
use Rattle.std.specs.List.{sum_by, All}
use Rattle.std.proofs.lemmas.Bool.Decides.{nat_tests}
use Rattle.std.proofs.lemmas.List.Elements.{All-head, All-tail}
use Rattle.std.proofs.lemmas.List.Sums.{sum_by-cons}
use Rattle.zr_base.specs.declared.space.DevPart.{DevPart}
use Rattle.zr_base.specs.declared.space.Entry.{Entry}
use Rattle.zr_base.specs.Extents.{has_unit}
use Rattle.zr_rules.specs.Mappings.{IsRisingFrom, in_source, target}
use Rattle.zr_rules.specs.Places.{one_if, is_leaving}
use Rattle.zr_rules.specs.Roles.{is_copy_role}
use Rattle.zr_rules.specs.Space.{role_at, copy_hits, is_copy_by}
use Rattle.zr_chain.proofs.Ways.{cases_bool}
use Rattle.zr_metaslab.specs.Devices.{Devices}
use Rattle.zr_indirect.specs.Mapped.{IsLeaving}
use Rattle.zr_units.specs.Uses.{Uses}
use Rattle.zr_space.specs.Leavings.{HasSource}
use Rattle.zr_space.specs.Views.{Kept, kept_of, part_in, space_of, role_in, EndsWithin, IsSpace}
use Rattle.zr_space.specs.declared.whole.Whole.{Whole}
use Rattle.zr_space.proofs.Roles.{roles_are}
use Rattle.zr_space.proofs.Synced.{leaving_state}
use Rattle.zr_space.proofs.Views.{part_is}

-- an unmarked unit from `low` on, which the mapping has put there
record IsSourceOf (p : DevPart) (n low : ℕ) (es : List Entry) (d v : ℕ) : Type 0 where
  pub unit : ℕ
  pub above : low ≤ unit
  pub within : unit < n
  pub unmarked : has_unit p.fresh unit ≡ false
  pub leads : target es unit ≡ Some (d, v)

put_by : (p : DevPart) (n low d v : ℕ) (x : Entry) (xs : List Entry) → low ≤ x.src → EndsWithin n x → is_copy_by p d v x ≡ true → IsSourceOf p n low (x ∷ xs) d v
put_by p n low d v x xs above ends is =
    let u = x.src + (v - x.dst) in
    let dev : x.dev ≡ d = grind (arith, nat_tests, is) in
    let start : x.dst ≤ v = grind (arith, nat_tests, is) in
    let end : v < x.dst + x.len = grind (arith, nat_tests, is) in
    let there : in_source x u ≡ true = grind (arith, nat_tests, start, end) in
    record {
      unit = u;
      above = omega (arith, above);
      within = omega (arith, ends, start, end);
      unmarked = grind (arith, nat_tests, is);
      leads = rw there (ap₂ (λ (e w : ℕ). Some (e, w)) dev (omega (arith, start)));
    }

-- what is put there by some entry has a unit that leads there
put_there : (p : DevPart) (n low d v : ℕ) (es : List Entry) → IsRisingFrom low es → All (EndsWithin n) es → 0 < sum_by (λ (e : Entry). one_if (is_copy_by p d v e)) es → IsSourceOf p n low es d v
put_there p n low d v [] rising all some = absurd (omega (arith, some))
put_there p n low d v (x ∷ xs) rising all some = elim (cases_bool (is_copy_by p d v x)) [
  | inl is ↦ put_by p n low d v x xs rising.0 (All-head (EndsWithin n) x xs all) is
  | inr other ↦
      let none : one_if (is_copy_by p d v x) ≡ 0 = ap one_if other in
      let sum = sum_by-cons (λ (e : Entry). one_if (is_copy_by p d v e)) x xs in
      let rest = put_there p n (x.src + x.len) d v xs rising.2 (All-tail (EndsWithin n) x xs all) (omega (arith, some, none, sum)) in
      let after = rest.above in
      let past : in_source x rest.unit ≡ false = grind (arith, nat_tests, after) in
      let start = rising.0 in
      record {
        unit = rest.unit;
        above = omega (arith, start, after);
        within = rest.within;
        unmarked = rest.unmarked;
        leads = rw past rest.leads;
      }
]

abbrev copies_in : DevPart → ℕ → ℕ → ℕ
copies_in p d v = if is_leaving p.row.state then sum_by (λ (e : Entry). one_if (is_copy_by p d v e)) p.entries else 0

-- a device that is leaving has put copies there
record IsCopier (devs : List Kept) (d v : ℕ) : Type 0 where
  pub dev : ℕ
  pub leaving : is_leaving (kept_of devs dev).row.state ≡ true
  pub puts : 0 < sum_by (λ (e : Entry). one_if (is_copy_by (part_in (kept_of devs dev)) d v e)) (kept_of devs dev).moves.entries

copier : (devs : List Kept) (d v : ℕ) → 0 < copy_hits (map part_in devs) d v → IsCopier devs d v
copier [] d v some = absurd (omega (arith, some))
copier (k ∷ ks) d v some = elim (cases_bool (nat_lt 0 (copies_in (part_in k) d v))) [
  | inl is ↦ first (is_leaving k.row.state) refl is
  | inr other ↦
      let sum = sum_by-cons (λ p. copies_in p d v) (part_in k) (map part_in ks) in
      let none : copies_in (part_in k) d v ≡ 0 = grind (arith, nat_tests, other) in
      let rest = copier ks d v (omega (arith, some, sum, none)) in
      record { dev = suc rest.dev; leaving = rest.leaving; puts = rest.puts }
]
  where
    first : (b : Bool) → is_leaving k.row.state ≡ b → nat_lt 0 (copies_in (part_in k) d v) ≡ true → IsCopier (k ∷ ks) d v
    first true leaves is = record {
      dev = 0;
      leaving = leaves;
      puts =
          let all : copies_in (part_in k) d v ≡ sum_by (λ (e : Entry). one_if (is_copy_by (part_in k) d v e)) k.moves.entries = rw leaves refl in
          grind (arith, nat_tests, is, all);
    }
    first false stays is =
        let none : copies_in (part_in k) d v ≡ 0 = rw stays refl in
        absurd (grind (arith, nat_tests, is, none))

has_copy : (x : Uses) (u : ℕ) → is_copy_role (role_in x u) ≡ true → has_unit x.copies u ≡ true
has_copy x u is = grind (arith, nat_tests, is)

source_here : (whole : Whole) (devs : List Kept) (d e v : ℕ) → is_leaving (kept_of devs d).row.state ≡ true → IsSourceOf (part_in (kept_of devs d)) (kept_of devs d).row.units 0 (kept_of devs d).moves.entries e v → HasSource (space_of whole devs) e v
source_here whole devs d e v leaving source = record {
  dev = d;
  unit = source.unit;
  leaving = ap (λ (p : DevPart). is_leaving p.row.state) (part_is devs d) ∙ leaving;
  within = subst (λ (p : DevPart). source.unit < p.row.units) (sym (part_is devs d)) source.within;
  unmarked = ap (λ (p : DevPart). has_unit p.fresh source.unit) (part_is devs d) ∙ source.unmarked;
  leads = ap (λ (p : DevPart). target p.entries source.unit) (part_is devs d) ∙ source.leads;
}

pub copy_source : (whole : Whole) (slabs : Devices) (devs : List Kept) (e v : ℕ) → IsSpace whole slabs devs → is_copy_role (role_at (space_of whole devs) e v) ≡ true → HasSource (space_of whole devs) e v
copy_source whole slabs devs e v space said =
    let has : has_unit (kept_of devs e).uses.copies v ≡ true = has_copy (kept_of devs e).uses v (ap is_copy_role (sym (roles_are whole devs e v space)) ∙ said) in
    let hits : copy_hits (map part_in devs) e v ≡ 1 = space.copies e v ∙ ap one_if has in
    let from = copier devs e v (omega (arith, hits)) in
    let k : Kept = kept_of devs from.dev in
    let leaves : IsLeaving k.moves = (space.moved from.dev).leaving (leaving_state k.row.state from.leaving) in
    source_here whole devs from.dev e v from.leaving (put_there (part_in k) k.row.units 0 e v k.moves.entries leaves.rising (space.moved from.dev).sources from.puts)
